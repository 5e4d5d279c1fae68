-- How a report is written, one record after the other. Cited by the contracts of inner functions. Definitions only.
use Rattle.std.specs.Prelude.{ℕ, ◌≡◌, List, map, length, take, drop, get_or, Option, Some}
use Rattle.panel_file.specs.declared.Counts.{Counts}
use Rattle.panel_file.specs.declared.Record.{Record}
use Rattle.panel_file.specs.declared.Record.TheVariants.{Button as ButtonRecord, Touch as TouchRecord}
use Rattle.panel_file.specs.Panel.{touches_of, counts_with, kind_of_record}
use Rattle.touch.specs.Touch.{shape_of, code_of, place_of, place_among}
use Rattle.report_lines.specs.declared.Line.{Line}
use Rattle.report.specs.Report.{shape_line, touch_line}

-- a record's line, from the index that a button has and the place, as a number, that a touch goes to
unfoldable pub line_for : Record → ℕ → ℕ → Line
line_for (ButtonRecord b) index code = shape_line index (shape_of b)
line_for (TouchRecord p) index code = touch_line (place_of code)

-- a record's line, from the counts of the records in front of it and the places of the touches
abbrev pub line_at : List ℕ → Counts → Record → Option Line
line_at place_codes c r = Some (line_for r c.buttons (get_or place_codes c.touches 0))

-- how many records of each kind there are, with one more
abbrev pub counts_after : Counts → Record → Counts
counts_after c r = counts_with c (kind_of_record r)

-- the places that the touches among rs go to, as numbers, stand in `place_codes` from index t on; they are looked for among
-- all records
unfoldable pub HoldsPlaces : List Record → List ℕ → ℕ → List Record → Type 0
HoldsPlaces all place_codes t rs =
    take (length (touches_of rs)) (drop t place_codes) ≡ map (λ p. code_of (place_among all p)) (touches_of rs)
