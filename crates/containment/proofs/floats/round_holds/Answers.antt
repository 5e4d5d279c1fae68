use mathlib.Core.Path.{sym, ap, ◌∙◌}
use Rattle.quadrant.specs.declared.Quadrant.{Quadrant}
use Rattle.containment.specs.QuickReject.{quick_reject_of, beyond_arcs}
use Rattle.containment.proofs.Beyond.{round_beyond}
use Rattle.containment.proofs.floats.round_holds.Goals as goal

pub returns-then-is_beyond : goal.returns-then-is_beyond
returns-then-is_beyond c = sym (round_beyond _ _ (sym (c.is_beyond.ensures ∙ ap (λ (q : Quadrant). beyond_arcs (quick_reject_of q) c.args.n) c.quadrant_at.ensures) ∙ c.if-is_beyond.true))
