-- An input line by line. Definitions only.
use Rattle.std.specs.Prelude.{ℕ, suc, ◌≡◌, ◌<◌, ◌≤◌, List, Bool, true, false, Option, Some, None, length, take, drop, slice_range, codes}
use Rattle.std.specs.Io.KnownBytes.{prepend_known}
use Rattle.text.specs.Words.{belongs_to, leading_of}
use Rattle.text.specs.declared.words.Class.TheVariants.{Line}
use Rattle.input.specs.declared.lines.Reader.{Reader}

-- what is said of a line that is too long
abbrev pub too_long_text : List ℕ
too_long_text = codes "the line is too long"

-- the part of a piece that a reader has still to take
abbrev pub rest_of : Reader → List ℕ → List ℕ
rest_of r piece = slice_range piece r.at r.end

pub record IsWithin (r : Reader) (piece : List ℕ) : Type 0 where
  pub ordered : r.at ≤ r.end
  pub within : r.end ≤ length piece

-- what is still to come, where it is known: that part, and what the input has left
abbrev pub bytes_left : Reader → List ℕ → Option (List ℕ) → Option (List ℕ)
bytes_left r piece remaining = prepend_known (rest_of r piece) remaining

-- how many bytes stand in front of the first end of a line, or at all, and those bytes
abbrev pub line_len : List ℕ → ℕ
line_len bytes = leading_of (belongs_to Line) bytes

abbrev pub first_line : List ℕ → List ℕ
first_line bytes = take (line_len bytes) bytes

-- a text in the first n bytes of a buffer, or no room for it
abbrev pub Holds : Option ℕ → List ℕ → List ℕ → Type 0
Holds (Some n) buffer text = (n ≡ length text) × (take n buffer ≡ text)
Holds None buffer text = length buffer < length text

-- The first line of these bytes is taken: the input has ended with it, or what follows its end is left.
pub record IsPast (bytes : List ℕ) (ended : Bool) (left : Option (List ℕ)) : Type 0 where
  pub last : line_len bytes ≡ length bytes → ended ≡ true
  pub more : line_len bytes < length bytes → ended ≡ false
  pub rest : line_len bytes < length bytes → left ≡ Some (drop (suc (line_len bytes)) bytes)
