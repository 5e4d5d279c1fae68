use mathlib.Core.Path.{◌∙◌}
use Rattle.ffi_path.specs.Lent.{answer_by}
use Rattle.ffi_path.proofs.Lending.{refusal_left}
use Rattle.ffi_path.proofs.store_answer.Goals as goal

pub returns-in-Ok : goal.returns-in-Ok
unfolding answer_by
returns-in-Ok c vs fs = rw (c.in-Ok.is, c.store.ensures.counts, c.store.ensures.places)

pub returns-in-Err : goal.returns-in-Err
unfolding answer_by
returns-in-Err c vs fs = rw c.in-Err.is (refusal_left _ _ _ _ vs fs (c.from.ensures ∙ c.number.ensures))
