use native.Mathlib.Omega.{arith}
use Rattle.ffi_path.specs.Lent.{builder_at}
use Rattle.ffi_path.proofs.Lending.{not_counts, not_places, as_record}
use Rattle.ffi_path.proofs.load.Goals as goal

pub returns-in_default : goal.returns-in_default
returns-in_default c = not_counts _ _ (λ e. omega arith)

pub returns-in_default-2 : goal.returns-in_default-2
returns-in_default-2 c = not_counts _ _ (λ e. omega arith)

pub returns-in_default-places : goal.returns-in_default-places
returns-in_default-places c = not_places _ _ (λ e. omega arith)

pub returns-in_default-places-2 : goal.returns-in_default-places-2
returns-in_default-places-2 c = not_places _ _ (λ e. omega arith)

pub returns : goal.returns
unfolding builder_at
returns c = as_record _ _ (omega arith) (omega arith)
