use Rattle.std.proofs.Common.{◌≡◌, Bool, take}
use Rattle.std.specs.List.{list_all}
use Rattle.lanes.proofs.all.Given as goal

abbrev pub invariant-loop-a : goal.invariant-loop-a
invariant-loop-a g l = (p : _) → ((a : _) (b : Bool) → goal.F-post g l.fn.f a b → b ≡ p a) → l.all ≡ list_all p (take l.a-index l.fn.x)
