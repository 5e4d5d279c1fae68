-- The lines of a file's records, as a report has them one behind the other. Definitions only.
use Rattle.std.specs.Prelude.{List, [], ◌∷◌, ◌++◌, Option, Some, None}
use Rattle.panel_file.specs.declared.Counts.{Counts}
use Rattle.panel_file.specs.declared.Record.{Record}
use Rattle.panel_file.specs.Panel.{counts_with, kind_of_record}
use Rattle.report_lines.specs.declared.Line.{Line}

-- no record of either kind
abbrev pub none_before : Counts
none_before = record { buttons = 0; touches = 0 }

-- the lines that a record has: one or none
unfoldable pub lines_at : Option Line → List Line
lines_at None = []
lines_at (Some l) = l ∷ []

-- the lines of some records, each from the counts of the records in front of it
unfoldable pub lines_by : (Counts → Record → Option Line) → Counts → List Record → List Line
lines_by line c [] = []
lines_by line c (r ∷ rs) = lines_at (line c r) ++ lines_by line (counts_with c (kind_of_record r)) rs
