-- What a word spells: a number below 2 ^ 64 in decimal or lower-case hexadecimal digits, or a float by its bits.
-- Definitions only.
use Rattle.std.specs.Prelude.{ℕ, ◌+◌, ◌-◌, ◌*◌, ◌^◌, List, [], ◌∷◌, length, nat_le, nat_lt, Float, Option, Some, None, if◌then◌else◌, ◌==◌, codes}
use Rattle.std.specs.Float.{nan, binary32}
use Rattle.std.specs.Float.Ieee.{of_bits}
use Rattle.std.specs.Option.{option_map}
use Rattle.std.specs.Str.{bytes_eq}

-- the value of a digit, `0` to `9` and `a` to `f`; none of any other byte
unfoldable pub digit_of : ℕ → Option ℕ
digit_of b =
    if nat_lt b 48 then None
    else (if nat_le b 57 then Some (b - 48)
    else (if nat_lt b 97 then None
    else (if nat_le b 102 then Some (b - 97 + 10) else None)))

-- the number n with one digit more behind it: none where the byte is no digit of the base, or the number is 2 ^ 64 or
-- more
unfoldable pub with_digit : ℕ → ℕ → ℕ → Option ℕ
with_digit base n b =
    elim (digit_of b) [
      | None ↦ None
      | Some d ↦ if nat_lt d base then (if nat_lt (n * base + d) (2 ^ 64) then Some (n * base + d) else None) else None
    ]

-- the number that the digits spell behind those whose value is n
unfoldable pub number_from : ℕ → ℕ → List ℕ → Option ℕ
number_from base n [] = Some n
number_from base n (b ∷ s) = elim (with_digit base n b) [ None ↦ None | Some m ↦ number_from base m s ]

-- at least one digit
unfoldable pub number_of : ℕ → List ℕ → Option ℕ
number_of base s = if length s == 0 then None else number_from base 0 s

-- `nan`
abbrev pub nan_text : List ℕ
nan_text = codes "nan"

-- `nan`, or the hexadecimal digits, so many, of the bits of a float
unfoldable pub float_of : {A : Type 0} → ℕ → (ℕ → A) → A → List ℕ → Option A
float_of digits of_bits no_number s =
    if bytes_eq s nan_text then Some no_number
    else (if length s == digits then option_map of_bits (number_of 16 s) else None)

-- `nan`, or the 8 hexadecimal digits of the bits of an `f32`
abbrev pub single_of : List ℕ → Option Float
single_of = float_of 8 (of_bits binary32) nan
