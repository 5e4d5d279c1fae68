use mathlib.Core.Path.{refl, sym, subst}
use lib.Dec.{T}
use lib.Ieee.{Float, nan, inf, fin, binary64, fits, is_nan, ne}
use lib.Ieee.Fits.{and_i, fits_widens}
use lib.Ieee.Compare.{nan_differs}
use Rattle.ieee.specs.Basic.{widen_of}
use Rattle.exponential.proofs.wide.Goals as goal
use mathlib.Core.Path.{◌≡◌, ◌∙◌}
use mathlib.Core.Bool.{not, false, true≢false}

number : (x : Float) → ne x x ≡ false → T (not (is_nan x))
unfolding is_nan
number nan h = absurd (true≢false (sym nan_differs ∙ h))
number (inf s) h = tt
number (fin s m e) h = tt

pub float_to_float-result : goal.float_to_float-result
float_to_float-result c = and_i (fits binary64 c.args.x) (not (is_nan c.args.x)) (fits_widens c.args.x (subst T (sym c.well_formed.0.1) tt)) (number c.args.x c.requires)

pub returns : goal.returns
unfolding widen_of
returns c = refl
