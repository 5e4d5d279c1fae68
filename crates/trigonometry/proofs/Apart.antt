-- Pairs taken apart and put together, doubled four times; where an angle has no sine, the pair is that of a NaN. Assumes nothing.
use Rattle.std.proofs.Common.{◌≡◌, ℕ, Bool, true, false, cond, ◌||◌, map, List, [], ◌∷◌, refl}
use lib.Ieee.{Float, nan, lt, ne, add, sub, mul, div, of_bits, of_int, neg}
use Rattle.ieee.specs.Basic.{widen_of, abs_of}
use Rattle.series.specs.Horner.{horner_of}
use Rattle.series.specs.Coefficients.{H, terms, alternating, factorial_reciprocal, reciprocal}
use Rattle.trigonometry.specs.Constants.{eight}
use Rattle.trigonometry.specs.declared.Pair.{Pair}
use Rattle.trigonometry.specs.declared.Pairs.{Pairs}
use Rattle.trigonometry.specs.Sine.{cosine_term, sixteenth_of, doubled_of, pair_of, apart, together}

-- what was taken apart, together again
together_apart : (n : ℕ) (p : List Pair) → together {n = n} (apart p) ≡ p
together_apart n [] = refl
together_apart n (q ∷ p) = rw (together_apart n p)

pub together_again : {n : ℕ} (d : Pairs n) (p : List Pair) → d ≡ apart p → together d ≡ p
together_again {n} d p e = rw e (together_apart n p)

-- ---- doubled four times, each before the next or each step of all
abbrev pub sixteenfold_of : Pair → Pair
sixteenfold_of q = doubled_of (doubled_of (doubled_of (doubled_of q)))

pub four_times : (p : List Pair) → map doubled_of (map doubled_of (map doubled_of (map doubled_of p))) ≡ map sixteenfold_of p
four_times [] = refl
four_times (q ∷ p) = rw (four_times p)

-- ---- an angle, widened; or a NaN, whose pair is that of two NaNs
abbrev pub bounded_of : Float → Float
bounded_of t = cond (ne t t || lt eight (abs_of t)) nan (widen_of t)

pair_of_nan : sixteenfold_of (sixteenth_of nan) ≡ record { s = nan; c = nan }
unfolding doubled_of sixteenth_of H horner_of terms cosine_term alternating factorial_reciprocal reciprocal add sub mul div of_bits of_int neg
pair_of_nan = refl

chosen : (b : Bool) (t : Float) → sixteenfold_of (sixteenth_of (cond b nan t)) ≡ cond b (record { s = nan; c = nan }) (sixteenfold_of (sixteenth_of t))
chosen true t = pair_of_nan
chosen false t = refl

pair_bounded : (t : Float) → sixteenfold_of (sixteenth_of (bounded_of t)) ≡ pair_of (widen_of t)
unfolding pair_of widen_of
pair_bounded t = chosen (ne t t || lt eight (abs_of t)) t

pub pairs_bounded : (t : List Float) → map sixteenfold_of (map sixteenth_of (map bounded_of t)) ≡ map (λ (x : Float). pair_of (widen_of x)) t
pairs_bounded [] = refl
pairs_bounded (x ∷ t) = rw (pair_bounded x, pairs_bounded t)
