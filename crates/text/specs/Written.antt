-- Numbers and floats as text, and what a buffer holds after a text was written into it. Definitions only.
use Rattle.std.specs.Prelude.{ℕ, zero, suc, ◌+◌, ◌^◌, ◌≡◌, List, ◌++◌, length, take, drop, nat_le, nat_lt, Float, Option, Some, None, if◌then◌else◌}
use Rattle.std.specs.Float.{Format, binary32}
use Rattle.std.specs.Float.Ieee.{to_bits, is_nan}
use Rattle.io.specs.Digits.{last_digits}
use Rattle.text.specs.Numbers.{nan_text}

-- the text over l from index `at` on, where there is room for all of it; else l as it is
unfoldable pub put_text : List ℕ → ℕ → List ℕ → List ℕ
put_text l at t = if nat_le (at + length t) (length l) then take at l ++ t ++ drop (at + length t) l else l

-- the index past the text, where there is room for it; else `at`
unfoldable pub past_text : List ℕ → ℕ → List ℕ → ℕ
past_text l at t = if nat_le (at + length t) (length l) then at + length t else at

-- what a writer does to a buffer l: r is the index past the text, and the buffer ends as l'
pub record Wrote (l : List ℕ) (at : ℕ) (t : List ℕ) (r : ℕ) (l' : List ℕ) : Type 0 where
  pub past : r ≡ past_text l at t
  pub held : l' ≡ put_text l at t

-- all 16 hexadecimal digits
unfoldable pub hexadecimal_text : ℕ → List ℕ
hexadecimal_text n = last_digits 16 16 n

-- the first of the numbers from k on, at most `more` further, with n below 10 to it
unfoldable pub places : ℕ → ℕ → ℕ → ℕ
places zero k n = k
places (suc more) k n = if nat_lt n (10 ^ k) then k else places more (suc k) n

-- the fewest decimal digits that spell an n below 10 ^ 20, at least one
unfoldable pub decimal_text : ℕ → List ℕ
decimal_text n = last_digits 10 (places 19 1 n) n

-- the bits of a float; none of a NaN
unfoldable pub bits_of : Format → Float → Option ℕ
bits_of f x = if is_nan x then None else Some (to_bits f x)

-- `nan`, or the hexadecimal digits, so many, of the bits
unfoldable pub float_text : {A : Type 0} → ℕ → (A → Option ℕ) → A → List ℕ
float_text digits bits x = elim (bits x) [ None ↦ nan_text | Some n ↦ last_digits 16 digits n ]

-- the text of an `f32`
abbrev pub single_text : Float → List ℕ
single_text = float_text 8 (bits_of binary32)
