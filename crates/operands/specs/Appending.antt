-- The floats and the bytes that a line spells, behind those that a buffer holds: definitions, and at the end the
-- lemmas that the ghost member `stays` cites.
use Rattle.std.specs.Prelude.{ℕ, zero, suc, ◌+◌, ◌%◌, ◌≡◌, refl, List, length, set, take, drop, nat_le, Float, Bool, true, false, Option, Some, None, if◌then◌else◌, ◌==◌}
use Rattle.text.specs.Numbers.{number_of, single_of}

-- a buffer, and how many of its elements are held: none where something did not go in
pub record Filled (A : Type 0) : Type 0 where
  pub held : Option ℕ
  pub buffer : List A

abbrev pub filled : {A : Type 0} → Option ℕ → List A → Filled A
filled n l = record { held = n; buffer = l }

abbrev pub overfull : {A : Type 0} → Filled A → Filled A
overfull f = filled None f.buffer

-- one element more at index n, where there is room
unfoldable pub with_one_at : {A : Type 0} → List A → Option ℕ → A → Filled A
with_one_at l None x = filled None l
with_one_at l (Some n) x = if nat_le (length l) n then filled None l else filled (Some (n + 1)) (set l n x)

abbrev pub with_one : {A : Type 0} → Filled A → A → Filled A
with_one f x = with_one_at f.buffer f.held x

unfoldable pub with_single : Filled Float → Option Float → Filled Float
with_single f (Some x) = with_one f x
with_single f None = overfull f

unfoldable pub with_float : Filled Float → List ℕ → Filled Float
with_float f word = with_single f (single_of word)

unfoldable pub with_number : Filled ℕ → Option ℕ → Filled ℕ
with_number f (Some b) = with_one f (b % 256)
with_number f None = overfull f

-- the byte that two digits spell
unfoldable pub with_byte : Filled ℕ → List ℕ → Filled ℕ
with_byte f digits = with_number f (number_of 16 digits)

-- the first n bytes of a word, two digits each
unfoldable pub with_bytes : ℕ → Filled ℕ → List ℕ → Filled ℕ
with_bytes zero f word = f
with_bytes (suc n) f word =
    if length word == 0 then f
    else (if length word == 1 then overfull f
    else with_bytes n (with_byte f (take 2 word)) (drop 2 word))

unfoldable pub with_word : Filled ℕ → List ℕ → Filled ℕ
with_word f word = with_bytes (length word) f word

-- nothing goes in behind what did not go in
single-stays : (l : List Float) (o : Option Float) → with_single (filled None l) o ≡ filled None l
unfolding with_single with_one_at
single-stays l (Some x) = refl
single-stays l None = refl

pub no_float_more : (l : List Float) (word : List ℕ) → with_float (filled None l) word ≡ filled None l
unfolding with_float
no_float_more l word = single-stays l (single_of word)

number-stays : (l : List ℕ) (o : Option ℕ) → with_number (filled None l) o ≡ filled None l
unfolding with_number with_one_at
number-stays l (Some x) = refl
number-stays l None = refl

pub bytes-stay : (n : ℕ) (l : List ℕ) (word : List ℕ) → with_bytes n (filled None l) word ≡ filled None l
unfolding with_bytes with_byte
bytes-stay zero l word = refl
bytes-stay (suc n) l word =
    go (length word == 0) (length word == 1)
    (number-stays l (number_of 16 (take 2 word)))
    (bytes-stay n l (drop 2 word))
  where
    go : (t u : Bool) {f : Filled ℕ} → f ≡ filled None l → with_bytes n (filled None l) (drop 2 word) ≡ filled None l
        → (if t then filled None l else (if u then filled None l else with_bytes n f (drop 2 word))) ≡ filled None l
    go true u e h = refl
    go false true e h = refl
    go false false e h = Prim.rw e h

pub no_byte_more : (l : List ℕ) (word : List ℕ) → with_word (filled None l) word ≡ filled None l
unfolding with_word
no_byte_more l word = bytes-stay (length word) l word
