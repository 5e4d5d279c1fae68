-- `text::output::put` meets its contract. Assumes nothing.
use native.Mathlib.Omega.{arith}
use Rattle.text.proofs.Placing.{no_room, room}
use Rattle.text.proofs.output.put.Goals as goal

pub returns-then-text-out : goal.returns-then-text-out
returns-then-text-out c =
    let a = c.args in
    no_room a.out.now a.at a.text.now (omega arith)

pub returns-then-at-out : goal.returns-then-at-out
returns-then-at-out c =
    let a = c.args in
    no_room a.out.now a.at a.text.now (omega arith)

pub returns : goal.returns
returns c =
    let a = c.args in
    rw c.copy.ensures (room a.out.now a.at a.text.now (omega arith))
