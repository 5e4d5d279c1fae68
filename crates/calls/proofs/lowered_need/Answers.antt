use Rattle.calls.proofs.Opening.{opened-need}
use Rattle.conic_writer.proofs.Entries.{lowered_line, lowered_curve}
use Rattle.conic_writer.specs.Entries.{lowered_of}
use Rattle.stream.specs.Stream.{is_empty}
use Rattle.conic.proofs.Whole.{halve-few}
use Rattle.conic.specs.Halving.{count_of}
use native.Mathlib.Omega.{arith}
use Prim.Native.Nat.{ℕ, ◌*◌}
use mathlib.Core.Path.{sym, ap, ◌∙◌}
use Rattle.calls.proofs.lowered_need.Goals as goal

pub overflow_cast-k : goal.overflow_cast-k
unfolding count_of
overflow_cast-k c = omega (arith, c.count-k.ensures, halve-few 6 c.in-Curve.c 0)

pub overflow_mul-k : goal.overflow_mul-k
unfolding count_of
overflow_mul-k c = omega (arith, c.count-k.ensures, halve-few 6 c.in-Curve.c 0)

pub returns-in-Line : goal.returns-in-Line
returns-in-Line c =
    let a = c.args in
    let h = lowered_line a.l _ c.in-Line.is in
    c.opened_need.ensures ∙ opened-need (is_empty a.b) (lowered_of a.l) 1 1 (sym h.many) (sym h.size)

pub returns-in-Curve : goal.returns-in-Curve
unfolding count_of
returns-in-Curve c =
    let a = c.args in
    let h = lowered_curve a.l _ c.in-Curve.is in
    c.opened_need-in-Curve.ensures ∙ opened-need (is_empty a.b) (lowered_of a.l) _ _ (c.count-k.ensures ∙ sym h.many) (ap (λ (n : ℕ). 2 * n) c.count-k.ensures ∙ sym h.size)
