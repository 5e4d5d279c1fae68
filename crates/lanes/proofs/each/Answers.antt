use Rattle.lanes.proofs.Places.{AllZip-from_at, map-from_AllZip, each-from_calls}
use Rattle.std.proofs.Common.{slice_index_or}
use mathlib.Core.Path.{ap₂}
use Rattle.lanes.proofs.each.Goals as goal
use native.Mathlib.Omega.{arith}

pub returns-clause-values : goal.returns-clause-values
returns-clause-values g c = AllZip-from_at _ _ _ (omega arith) (λ i d e h. each-from_calls _ _ (λ j y. (d : _) → goal.F-post g c.args.f (slice_index_or c.args.x j d) y) (λ j y q k. (ap₂ (λ a b. (a, b, record {})) k.met.0.0 k.met.0.1, k.met.1)) _ 0 g.row.N c.from_fn.ensures.items.each i e (omega arith) (omega arith) d)

pub returns-clause-mapped : goal.returns-clause-mapped
returns-clause-mapped g c = λ h k. map-from_AllZip _ h k _ _ (returns-clause-values g c)
