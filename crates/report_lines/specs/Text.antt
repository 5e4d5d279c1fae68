-- The text of lines, and a text written over what was there. Definitions only.
use Rattle.std.specs.Prelude.{ℕ, ◌+◌, ◌≡◌, List, [], ◌∷◌, ◌++◌, length, take, drop}
use Rattle.report_lines.specs.declared.Line.{Line}
use Rattle.report_lines.specs.Line.{line_of}

-- the text of lines, one behind the other
unfoldable pub text_of : List Line → List ℕ
text_of [] = []
text_of (l ∷ ls) = line_of l ++ text_of ls

-- a text over l from index `at` on; r is the index past it, and what is past it stays
pub record Over (l : List ℕ) (at : ℕ) (text : List ℕ) (r : ℕ) (l' : List ℕ) : Type 0 where
  pub past : r ≡ at + length text
  pub front : take r l' ≡ take at l ++ text
  pub rest : drop r l' ≡ drop r l
