-- What a program finds of a panel file, what it leaves of its output where it does not report, and the status that it
-- ends with. Definitions only.
use Rattle.std.specs.Prelude.{ℕ, ◌≡◌, ⊤, List, Result, Ok, Err, if◌then◌else◌}
use Rattle.panel_file.specs.Panel.{records_of, is_done}
use Rattle.panel_program.specs.declared.Verdict.{Verdict}
use Rattle.panel_program.specs.declared.Verdict.TheVariants.{Good, Refused}
use Rattle.panel_program.specs.declared.RunError.{RunError}
use Rattle.panel_program.specs.declared.RunError.TheVariants.{Memory, Read, Write}

-- a file is good, or refused with 7
unfoldable pub verdict_of : List ℕ → Verdict
verdict_of file = if is_done (records_of file) then Good else Refused

-- where there was no memory, or the input could not be read, the writer is as it was
abbrev pub NothingWritten : {W : Type 0} → RunError → W → W → Type 0
NothingWritten Memory old new = new ≡ old
NothingWritten (Read e) old new = new ≡ old
NothingWritten (Write e) old new = ⊤

-- the exit status: 0 for a good file, 1 for a refused one, 3 where nothing could be reported of it
unfoldable pub status_of : Result Verdict RunError → ℕ
status_of (Ok Good) = 0
status_of (Ok Refused) = 1
status_of (Err e) = 3
