-- A good file as contracts see it: the list of its records. Definitions only.
use Rattle.std.specs.Prelude.{ℕ, List, Option, Some, None, Result, Ok, Err}
use Rattle.panel_file.specs.declared.Broken.{Broken}
use Rattle.panel_file.specs.declared.Button.{Button}
use Rattle.panel_file.specs.declared.Record.{Record}
use Rattle.panel_file.specs.declared.Record.TheVariants.{Button as ButtonRecord, Touch as TouchRecord}
use Rattle.panel_file.specs.declared.file.PanelFile.{PanelFile}
use Rattle.panel_file.specs.declared.file.Records.{Records}
use Rattle.panel_file.specs.Panel.{Answer, done, refused, broken, Entry, entry, end, record_at, records_of, records_from, records_in}

-- the records of a good file
unfoldable pub records : PanelFile → List Record
records f = records_in (records_of f.bytes.now)

-- those that an iterator has not yielded yet
unfoldable pub records_left : Records → List Record
records_left it = records_in (records_from it.bytes.now it.at)

-- what `PanelFile::new` answers
unfoldable pub new_answer : Result PanelFile Broken → Answer (List Record)
new_answer (Ok f) = done (records f)
new_answer (Err b) = broken b.offset

-- the button that a reading answers, if it answers one
unfoldable pub button_in : Answer Entry → Option Button
button_in (done (entry (ButtonRecord b) next)) = Some b
button_in (done (entry (TouchRecord p) next)) = None
button_in (done end) = None
button_in (refused n at) = None

-- the button whose record starts at an offset, if one does
unfoldable pub button_at_offset : PanelFile → ℕ → Option Button
button_at_offset f at = button_in (record_at f.bytes.now at)
