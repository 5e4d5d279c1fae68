-- `quadrant::is_one_float` meets its contract: a value is read back from its pattern.
use mathlib.Core.Path.{◌≡◌, sym, ap, ◌∙◌, subst}
use mathlib.Core.Bool.{false, not, false≢true, true≢false}
use borrow.Author.Tests.{eqb-true}
use lib.Dec.{T}
use lib.Ieee.{Float, nan, inf, fin, binary32, fits, is_nan, ne, of_bits, to_bits}
use lib.Ieee.Bits.{of_bits-to_bits}
use lib.Ieee.Compare.{nan_differs}
use Rattle.quadrant.proofs.is_one_float.Goals as goal

number : (x : Float) → ne x x ≡ false → T (not (is_nan x))
unfolding is_nan
number nan e = absurd (true≢false (sym nan_differs ∙ e))
number (inf s) e = tt
number (fin s m t) e = tt

by_pattern : (x y : Float) → T (fits binary32 x) → T (fits binary32 y) → to_bits binary32 x ≡ to_bits binary32 y → x ≡ y
by_pattern x y hx hy e = sym (of_bits-to_bits binary32 x hx) ∙ ap (of_bits binary32) e ∙ of_bits-to_bits binary32 y hy

pub returns-then-x : goal.returns-then-x
returns-then-x c = λ e. absurd (false≢true e)

pub returns-then-y : goal.returns-then-y
returns-then-y c = λ e. absurd (false≢true e)

pub float_to_bits-result : goal.float_to_bits-result
float_to_bits-result c = number c.args.x c.if-x.false

pub float_to_bits-result-2 : goal.float_to_bits-result-2
float_to_bits-result-2 c = number c.args.y c.if-y.false

pub returns : goal.returns
returns c =
    let s = c.before.before in
    let x = s.args.x in
    let y = s.args.y in
    λ e. by_pattern x y (subst T (sym s.well_formed.0.1) tt) (subst T (sym s.well_formed.1.0.1) tt) (eqb-true (to_bits binary32 x) (to_bits binary32 y) e)
