-- The report on a panel file, line by line. Definitions only.
use Rattle.std.specs.Prelude.{ℕ, ◌+◌, List, [], ◌∷◌}
use Rattle.panel_file.specs.declared.Record.{Record}
use Rattle.panel_file.specs.declared.Record.TheVariants.{Button as ButtonRecord, Touch as TouchRecord}
use Rattle.panel_file.specs.Panel.{Answer, done, refused, records_of}
use Rattle.shape.specs.declared.RoundSuperellipse.{RoundSuperellipse}
use Rattle.shape.specs.Refusal.{ShapeOutcome}
use Rattle.shape.specs.Refusal.{made as Made, refused as RefusedBy}
use Rattle.stream.specs.declared.Need.{Need}
use Rattle.stream.specs.Stream.{need_of}
use Rattle.conic_writer.specs.Entries.{elements_of}
use Rattle.outline_need.specs.Entries.{outline_entries}
use Rattle.touch.specs.Touch.{Place, button, nowhere, shape_of, place_among}
use Rattle.report_lines.specs.declared.Line.{Line}
use Rattle.report_lines.specs.declared.Line.TheVariants.{Shape, Refused, Touch, Nowhere, End, Broken}

-- the verbs and points of a shape's outline into a fresh builder
unfoldable pub need_of_outline : RoundSuperellipse → Need
need_of_outline s = need_of (elements_of (outline_entries s))

-- a button's line: its index, and its outline or the refusal's number
unfoldable pub shape_line : ℕ → ShapeOutcome → Line
shape_line index (Made s) = Shape index (need_of_outline s).verbs (need_of_outline s).points
shape_line index (RefusedBy cause) = Refused index cause

-- a touch's line: where it goes
unfoldable pub touch_line : Place → Line
touch_line (button i) = Touch i
touch_line nowhere = Nowhere

-- The lines of some records, the first button's index being the one given, then `end`. A touch is looked for among all
-- records of the file.
unfoldable pub lines_of : List Record → ℕ → List Record → List Line
lines_of all index [] = End ∷ []
lines_of all index (ButtonRecord b ∷ rs) = shape_line index (shape_of b) ∷ lines_of all (index + 1) rs
lines_of all index (TouchRecord p ∷ rs) = touch_line (place_among all p) ∷ lines_of all index rs

-- the lines of a good file's records; of a broken file only the refusal's number and the offset
unfoldable pub lines_of_answer : Answer (List Record) → List Line
lines_of_answer (done rs) = lines_of rs 0 rs
lines_of_answer (refused cause offset) = Broken cause offset ∷ []

-- the report on a file
unfoldable pub report_of : List ℕ → List Line
report_of file = lines_of_answer (records_of file)
