-- The program `inspect`: of each button of a panel file, whether its outline and its touch area are consistent, and
-- if not, why. Definitions only.
use Rattle.std.specs.Prelude.{ℕ, ◌+◌, List, [], ◌∷◌, Option, Some, None}
use Rattle.panel_file.specs.declared.Button.{Button}
use Rattle.panel_file.specs.declared.Counts.{Counts}
use Rattle.panel_file.specs.declared.Record.{Record}
use Rattle.panel_file.specs.declared.Record.TheVariants.{Button as ButtonRecord, Touch as TouchRecord}
use Rattle.panel_file.specs.Panel.{Answer, done, refused, records_of}
use Rattle.shape.specs.declared.Bounds.{Bounds}
use Rattle.shape.specs.Refusal.{ShapeOutcome}
use Rattle.shape.specs.Refusal.{made as Made, refused as RefusedBy}
use Rattle.touch.specs.Touch.{shape_of}
use Rattle.consistency.specs.Consistency.{verdict_of}
use Rattle.report_lines.specs.declared.Line.{Line}
use Rattle.report_lines.specs.declared.Line.TheVariants.{Refused, End, Inspected, Broken}

-- the line of a shape made for some bounds, or of one that is refused
unfoldable pub finding_of : ℕ → Bounds → ShapeOutcome → Line
finding_of index bounds (Made s) = Inspected index (verdict_of bounds s)
finding_of index bounds (RefusedBy cause) = Refused index cause

-- a button's line
unfoldable pub finding : ℕ → Button → Line
finding index b = finding_of index (record { min = b.min; max = b.max }) (shape_of b)

-- a record's line, from the counts of the records in front of it: a touch has none
unfoldable pub finding_at : Counts → Record → Option Line
finding_at c (ButtonRecord b) = Some (finding c.buttons b)
finding_at c (TouchRecord p) = None

-- the lines of some records, the first button's index being the one given, then `end`
unfoldable pub findings_of : ℕ → List Record → List Line
findings_of index [] = End ∷ []
findings_of index (ButtonRecord b ∷ rs) = finding index b ∷ findings_of (index + 1) rs
findings_of index (TouchRecord p ∷ rs) = findings_of index rs

-- the lines of a good file's buttons; of a broken file only the refusal's number and the offset
unfoldable pub lines_of_answer : Answer (List Record) → List Line
lines_of_answer (done rs) = findings_of 0 rs
lines_of_answer (refused cause offset) = Broken cause offset ∷ []

unfoldable pub inspection_of : List ℕ → List Line
inspection_of file = lines_of_answer (records_of file)
