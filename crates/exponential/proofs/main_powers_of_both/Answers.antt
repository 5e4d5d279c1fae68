use Rattle.std.proofs.Common.{rules, ◌≡◌, map, List}
use mathlib.Core.Path.{ap, ap₂}
use lib.Ieee.{Float, binary64, mul}
use lib.Lanes.{zip2}
use Rattle.lanes.proofs.Places.{zip2-of_maps, map-of_zip2}
use Rattle.ieee.specs.Basic.{widen_of}
use Rattle.ieee.specs.Narrow.{narrow_of}
use Rattle.exponential.specs.Logarithm.{ln_of}
use Rattle.exponential.specs.Exponential.{exp_of}
use Rattle.exponential.specs.Power.{main_of}
use Rattle.exponential.proofs.main_powers_of_both.Goals as goal

by_steps : (b y k w t e p : List Float) → k ≡ map (λ (x : Float). ln_of (widen_of x)) b → w ≡ map widen_of y → t ≡ zip2 (λ (l x : Float). mul binary64 x l) k w → e ≡ map exp_of t → p ≡ map narrow_of e → p ≡ zip2 main_of b y
unfolding main_of
by_steps b y k w t e p kk ww tt' ee pp = rw (pp, ee, tt', kk, ww, zip2-of_maps, map-of_zip2, map-of_zip2)

pub returns : goal.returns
returns g c =
    let l = c.logarithms_of_both-k.ensures in
    let e = c.exponentials_of_both-e.ensures in
    ap₂ (λ a b. (a, b))
    (by_steps c.args.bases c.args.exponents _ _ _ _ _ (ap (λ r. r.0) l) (c.each.ensures.mapped widen_of (λ a b e. e)) (c.pairwise-t.ensures _ (λ a b r e. search rules)) (ap (λ r. r.0) e) c.narrow.ensures)
    (by_steps c.args.other_bases c.args.other_exponents _ _ _ _ _ (ap (λ r. r.1) l) (c.each-2.ensures.mapped widen_of (λ a b e. e)) (c.pairwise-u.ensures _ (λ a b r e. search rules)) (ap (λ r. r.1) e) c.narrow-2.ensures)
