-- `record_at` meets its contract.
use Rattle.std.proofs.Common.{arith, ap, Ok}
use Rattle.panel_file.specs.Panel.{payload_of, record_answer, record_at, entry_of, content_at}
use Rattle.panel_file.proofs.Following.{Inside, head_within}
use Rattle.panel_file.proofs.record_at.Goals as goal
use Rattle.panel_file.proofs.record_at.Goals.{In-Some}

-- the record lies within the file
within : (c : In-Some) → Inside c.args.file.now c.args.at c.in-Some.kind
within c = head_within _ _ _ _ c.in_ok-kind.ensures (ap Ok c.in-Some.is)

pub overflow_add-from : goal.overflow_add-from
overflow_add-from c = omega (arith, within c)

pub overflow_add-next : goal.overflow_add-next
overflow_add-next c = omega (arith, within (goal.at.overflow_add-next c).In-Some, c.payload.ensures)

pub button_at-requires : goal.button_at-requires
button_at-requires c = omega (arith, within (goal.at.button_at-requires c).In-Some, ap payload_of c.in-Button.is)

pub point_at-requires : goal.point_at-requires
unfolding payload_of
point_at-requires c = omega (arith, within (goal.at.point_at-requires c).In-Some, ap payload_of c.in-Touch.is)

pub returns-in-Button : goal.returns-in-Button
unfolding record_answer record_at entry_of content_at
returns-in-Button c = rw (← c.head_at.ensures, c.in_ok-kind.was, c.in-Some.is, ← c.payload.ensures, c.in-Button.is, ← c.button_at.ensures)

pub returns-in-Touch : goal.returns-in-Touch
unfolding record_answer record_at entry_of content_at
returns-in-Touch c = rw (← c.head_at.ensures, c.in_ok-kind.was, c.in-Some.is, ← c.payload.ensures, c.in-Touch.is, ← c.point_at.ensures)
