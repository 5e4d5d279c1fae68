use native.Mathlib.Omega.{arith}
use Rattle.stream.specs.Stream.{verb_in}
use Rattle.stream.proofs.Pushed.{no_verb}
use Rattle.stream.proofs.VerbTryFromU8.try_from.Goals as goal

pub returns-in-0 : goal.returns-in-0
unfolding verb_in
returns-in-0 c = rw c.in-0.is

pub returns-in-1 : goal.returns-in-1
unfolding verb_in
returns-in-1 c = rw c.in-1.is

pub returns-in-2 : goal.returns-in-2
unfolding verb_in
returns-in-2 c = rw c.in-2.is

pub returns-in-3 : goal.returns-in-3
unfolding verb_in
returns-in-3 c = rw c.in-3.is

pub returns-in-4 : goal.returns-in-4
unfolding verb_in
returns-in-4 c = rw c.in-4.is

pub returns-in_default : goal.returns-in_default
returns-in_default c = no_verb _ (omega arith)
