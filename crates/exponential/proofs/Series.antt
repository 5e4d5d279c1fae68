-- ln and exp from the first coefficients of a family, however their sums were made. Assumes nothing.
use mathlib.Core.Path.{◌≡◌, ap, ◌∙◌}
use mathlib.Core.List.{List}
use lib.Dec.{lit≤}
use lib.ListN.{take}
use lib.Ieee.{Float, binary64, mul}
use Rattle.series.specs.Horner.{horner_of}
use Rattle.series.specs.Coefficients.{H, terms, odd_reciprocal, factorial_reciprocal}
use Rattle.series.proofs.Families.{terms-take}
use Rattle.exponential.specs.Plain.{log_of, scaled_of}

pub exp_by : (cs : List Float) (h r power e : Float) → cs ≡ terms factorial_reciprocal 16 → h ≡ horner_of binary64 (take 14 cs) r → scaled_of r power ≡ e → mul binary64 h power ≡ e
unfolding scaled_of H
exp_by cs h r power e c s is =
    ap (λ (x : Float). mul binary64 x power)
    (s ∙ ap (λ (l : List Float). horner_of binary64 (take 14 l) r) c ∙ ap (λ (l : List Float). horner_of binary64 l r) (terms-take factorial_reciprocal 16 14 (lit≤ tt)))
    ∙ is

pub ln_by : (s e : Float) (cs : List Float) (h l : Float) → cs ≡ terms odd_reciprocal 26 → h ≡ horner_of binary64 (take 12 cs) (mul binary64 s s) → log_of s e (H odd_reciprocal (mul binary64 s s) 11) ≡ l → log_of s e h ≡ l
unfolding H
ln_by s e cs h l c q is =
    ap (λ (x : Float). log_of s e x)
    (q ∙ ap (λ (l : List Float). horner_of binary64 (take 12 l) (mul binary64 s s)) c ∙ ap (λ (l : List Float). horner_of binary64 l (mul binary64 s s)) (terms-take odd_reciprocal 26 12 (lit≤ tt)))
    ∙ is
