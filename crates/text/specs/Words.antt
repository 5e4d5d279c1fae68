-- The words of a line of text, and where a line ends. A line is the list of its bytes. Definitions only.
use Rattle.std.specs.Prelude.{ℕ, Bool, false, not, List, take, drop, if◌then◌else◌, ◌==◌}
use Rattle.std.specs.List.{prefix_len}
use Rattle.text.specs.declared.words.Class.{Class}
use Rattle.text.specs.declared.words.Class.TheVariants.{Blank, Word, Line}

-- a blank, byte 32, parts words; a word goes up to a blank or a `#`, byte 35; a line goes up to its end, byte 10
unfoldable pub belongs_to : Class → ℕ → Bool
belongs_to Blank b = (b == 32)
belongs_to Word b = if b == 32 then false else not (b == 35)
belongs_to Line b = not (b == 10)

-- how many elements in front pass the test
abbrev pub leading_of : (ℕ → Bool) → List ℕ → ℕ
leading_of = prefix_len

-- the line without the blanks in front
unfoldable pub after_blanks : List ℕ → List ℕ
after_blanks s = drop (leading_of (belongs_to Blank) s) s

-- the first word, empty where there is none, and what follows it
unfoldable pub first_word : List ℕ → List ℕ
first_word s = let t = after_blanks s in take (leading_of (belongs_to Word) t) t

unfoldable pub after_word : List ℕ → List ℕ
after_word s = let t = after_blanks s in drop (leading_of (belongs_to Word) t) t
