-- The lines of the reports on a panel file, as the lists of their bytes. Definitions only.
use Rattle.std.specs.Prelude.{ℕ, ◌+◌, ◌≡◌, List, [], ◌∷◌, ◌++◌, length, take, codes}
use Rattle.text.specs.Written.{decimal_text}
use Rattle.consistency.specs.declared.Verdict.{Verdict}
use Rattle.consistency.specs.declared.Verdict.TheVariants.{Consistent, CenterOutside, MiddleOutside, SidesSmall, CornerOval, OutlineOutside}
use Rattle.report_lines.specs.declared.Line.{Line}
use Rattle.report_lines.specs.declared.Line.TheVariants.{Shape, Refused, Touch, Nowhere, End, Inspected, Broken}

-- `shape `
abbrev pub shape_text : List ℕ
shape_text = codes "shape "

-- `touch `
abbrev touch_text : List ℕ
touch_text = codes "touch "

-- `none`
abbrev none_text : List ℕ
none_text = codes "none"

-- `end`
abbrev end_text : List ℕ
end_text = codes "end"

-- `refused `
abbrev refused_text : List ℕ
refused_text = codes "refused "

-- ` refused `
abbrev refused_between : List ℕ
refused_between = codes " refused "

-- what is said of a shape behind its index
abbrev pub verdict_text : Verdict → List ℕ
verdict_text Consistent = codes " ok\n"
verdict_text CenterOutside = codes " parts company: a center lies outside\n"
verdict_text MiddleOutside = codes " parts company: its middle is not inside\n"
verdict_text SidesSmall = codes " parts company: its sides are too small\n"
verdict_text CornerOval = codes " parts company: a corner is too oval\n"
verdict_text OutlineOutside = codes " parts company: its outline leaves the bounds\n"

-- ` at `
abbrev at_text : List ℕ
at_text = codes " at "

-- a blank
abbrev blank : List ℕ
blank = 32 ∷ []

-- the end of a line
abbrev pub newline : List ℕ
newline = 10 ∷ []

-- a number in decimal digits, without zeros in front, and a text
unfoldable pub number_then : ℕ → List ℕ → List ℕ
number_then n text = decimal_text n ++ text

-- `shape I V P`, `shape I refused N`, `touch I`, `touch none`, `end`, `shape I ok`, `shape I parts company: WHY`,
-- `refused N at O`
unfoldable pub line_of : Line → List ℕ
line_of (Shape index verbs points) =
    shape_text ++ number_then index blank ++ number_then verbs blank ++ number_then points newline
line_of (Refused index cause) = shape_text ++ number_then index refused_between ++ number_then cause newline
line_of (Touch index) = touch_text ++ number_then index newline
line_of Nowhere = touch_text ++ none_text ++ newline
line_of End = end_text ++ newline
line_of (Inspected index verdict) = shape_text ++ number_then index (verdict_text verdict)
line_of (Broken cause offset) = refused_text ++ number_then cause at_text ++ number_then offset newline

-- the text behind the first `at` of l, in the first r of l'
pub record Added (l : List ℕ) (at : ℕ) (text : List ℕ) (r : ℕ) (l' : List ℕ) : Type 0 where
  pub past : r ≡ at + length text
  pub held : take r l' ≡ take at l ++ text
