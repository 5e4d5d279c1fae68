use Rattle.stream.specs.Stream.{state}
use Rattle.stream.proofs.Pushed.{pushed}
use lib.ListN.{set}
use mathlib.Core.Path.{ap, ◌∙◌}
use Prim.Native.Nat.{ℕ}
use Rattle.stream.proofs.push.Goals as goal

pub returns : goal.returns
returns c =
    let a = c.args in
    ap (λ (v : ℕ). state c.advance.result (set a.verbs.now a.b.verbs v) c.put_points.new.points) (c.byte.ensures ∙ c.verb.ensures)
    ∙ pushed a.b _ a.verbs.now a.points.now _ _ c.requires.0 c.advance.ensures c.put_points.ensures
