use Rattle.std.specs.List.{push}
use Rattle.std.proofs.Common.{rules, length, ◌≡◌, ◌++◌, List, [], ◌∷◌, sym, ◌∙◌, append_assoc, refl}
use native.Mathlib.Omega.{arith}
use lib.Ieee.{Float, binary64, add, mul}
use Rattle.std.proofs.lemmas.Simd.{zip2_of_maps, splat_is_map}
use Rattle.lanes.proofs.Places.{replicate-map, zip2-over_map, map-equal}
use Rattle.series.specs.Horner.{horner_of}
use Rattle.series.proofs.Horners.{horner_one, horner_more, horner_none}
use Rattle.series.proofs.horner.Goals as goal

pub returns-in_default : goal.returns-in_default
returns-in_default g c = replicate-map _ _ (λ z. horner_none c.args.cs.now z c.in_default.ensures.cases) c.args.z g.row.N (omega arith)

one_less : (r t cs : List Float) (c : Float) → cs ≡ push r c ++ t → cs ≡ r ++ (c ∷ t)
one_less r t cs c e = e ∙ append_assoc r (c ∷ []) t

none_left : (r t cs : List Float) → length r ≡ 0 → cs ≡ r ++ t → t ≡ cs
none_left [] t cs l e = sym e
none_left (x ∷ r) t cs l e = absurd (omega arith)

pub loop-c-init : goal.loop-c-init
loop-c-init g c = (c.in-Some.field-0-0.now ∷ [], search rules, omega arith, replicate-map _ _ (horner_one binary64 c.in-Some.field-0-0.now) c.args.z g.row.N (omega arith))

pub loop-c-preserved : goal.loop-c-preserved
loop-c-preserved g c =
    let i = c.loop-c.invariant in
    let x = c.in-Some-2.field-0.now in
    let product = λ (z : Float). mul binary64 (horner_of binary64 i.0 z) z in
    let products = zip2-over_map (mul binary64) (horner_of binary64 i.0) product (λ z. refl) c.args.z in
    let same = splat_is_map c.args.z g.row.N x (omega arith) in
    (x ∷ i.0, one_less _ i.0 _ x (rw c.in-Some-2.ensures.steps at i.1), omega arith, zip2_of_maps (add binary64) product (λ _. x) c.args.z (rw i.3 products) same ∙ map-equal _ _ (λ z. horner_more binary64 x z i.0 i.2) c.args.z)

pub returns : goal.returns
returns g c =
    let i = c.loop-c.invariant in
    i.3 ∙ rw (none_left _ i.0 c.args.cs.now c.in-None.ensures.steps.0 i.1)
