use Rattle.std.proofs.Common.{ℕ, Bool, ◌*◌, ◌&&◌, get_or, ap, sym, ◌∙◌}
use native.Mathlib.Omega.{arith}
use lib.Bits.{bit_and}
use lib.Ieee.{nan}
use Prim.Native.Nat.{◌-◌}
use Rattle.octant.specs.Octant.{point}
use Rattle.containment.specs.Contains.{norm_contains}
use Rattle.shape.specs.Layout.{quadrant_at}
use Rattle.containment.specs.Floats.{asked_hold}
use Rattle.containment.proofs.Asked.{Step, next, none}
use Rattle.containment.proofs.floats.+asked_hold.Goals as goal
use Rattle.containment.proofs.floats.+asked_hold.Goals.{Start, Else-asked-eq0}

lowest : {t : ℕ} (c : Else-asked-eq0 t) → Step c.args.asked
lowest c = next c.args.asked c.if-asked-eq0.false c.requires

pub returns-then-asked-eq0 : goal.returns-then-asked-eq0
returns-then-asked-eq0 t c = rw c.if-asked-eq0.true (none _)

pub bounds-x-k : goal.bounds-x-k
bounds-x-k t c = (lowest c).0

pub bounds-y-k : goal.bounds-y-k
bounds-y-k t c = (lowest c).0

pub norm_holds-requires : goal.norm_holds-requires
norm_holds-requires t c = omega (arith, (lowest c).0)

pub asked_hold-requires : goal.asked_hold-requires
asked_hold-requires t c = let s = lowest c.before.before in (omega (arith, s.1, c.decreases), omega (arith, s.1, c.requires))

pub returns-then-norm_holds : goal.returns-then-norm_holds
returns-then-norm_holds t c =
    let a = c.args in
    let h : ℕ → Bool = λ k. norm_contains (quadrant_at a.shape.now (22 * k)) (point (get_or a.x k nan) (get_or a.y k nan)) in
    let s = next a.asked c.if-asked-eq0.false c.requires in
    c.asked_hold.ensures ∙ sym (s.2 h ∙ ap (λ (b : Bool). b && asked_hold h (bit_and a.asked (a.asked - 1))) (sym c.norm_holds.ensures ∙ c.if-norm_holds.true))

pub returns-else-norm_holds : goal.returns-else-norm_holds
returns-else-norm_holds t c =
    let a = c.args in
    let h : ℕ → Bool = λ k. norm_contains (quadrant_at a.shape.now (22 * k)) (point (get_or a.x k nan) (get_or a.y k nan)) in
    let s = next a.asked c.if-asked-eq0.false c.requires in
    c.if-norm_holds.false ∙ sym (s.2 h ∙ ap (λ (b : Bool). b && asked_hold h (bit_and a.asked (a.asked - 1))) (sym c.norm_holds.ensures ∙ c.if-norm_holds.false))
