use Rattle.lanes.proofs.Places.{zip2-from_at, each-from_calls, ap₃}
use Rattle.std.proofs.Common.{slice_index_or}
use Rattle.lanes.proofs.pairwise.Goals as goal
use native.Mathlib.Omega.{arith}

pub returns : goal.returns
returns g c = λ h k. zip2-from_at h _ _ _ (omega arith) (omega arith) (λ i d e f l. k _ _ _ (each-from_calls _ _ (λ j z. (d : _) (e : _) → goal.F-post g c.args.f (slice_index_or c.args.x j d) (slice_index_or c.args.y j e) z) (λ j z q s. (ap₃ (λ a b c. (a, b, c, record {})) s.met.0.0 s.met.0.1 s.met.0.2, s.met.1)) _ 0 g.row.N c.from_fn.ensures.items.each i f (omega arith) (omega arith) d e))
