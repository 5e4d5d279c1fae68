-- The sine, cosine and tangent of an angle. The steps are `f64`, each rounded once, in the order written here; only
-- the results are narrowed. Definitions only.
use Rattle.std.specs.Prelude.{ℕ, ◌+◌, ◌*◌, ◌||◌, List, map, Float, if◌then◌else◌}
use Rattle.std.specs.Float.{nan}
use Rattle.std.specs.Float.Ieee.{lt, ne}
use Rattle.std.specs.Simd.Lanes.{zip2}
use Rattle.ieee.specs.Binary64.{◌⊖◌, ◌⊗◌, ◌⊘◌, two}
use Rattle.ieee.specs.Basic.{widen_of, abs_of}
use Rattle.ieee.specs.Narrow.{narrow_of}
use Rattle.series.specs.Coefficients.{H, alternating, factorial_reciprocal}
use Rattle.trigonometry.specs.Constants.{eight, sixteen}
use Rattle.trigonometry.specs.declared.Pair.{Pair}
use Rattle.trigonometry.specs.declared.Pairs.{Pairs}
use Rattle.trigonometry.specs.declared.SinCos.{SinCos}

-- (-1)^k / (2k + 1)! and (-1)^k / (2k)!
unfoldable pub sine_term : ℕ → Float
sine_term = alternating (λ k. factorial_reciprocal (2 * k + 1))

unfoldable pub cosine_term : ℕ → Float
cosine_term = alternating (λ k. factorial_reciprocal (2 * k))

-- of the sixteenth q of an angle: sin q = q - q³/3! + q⁵/5! - .. and cos q = 1 - q²/2! + q⁴/4! - .., eight terms of
-- each
unfoldable pub sixteenth_of : Float → Pair
sixteenth_of t =
    let q = t ⊘ sixteen in
    let z = q ⊗ q in
    record { s = q ⊗ H sine_term z 7; c = H cosine_term z 7 }

-- of twice the angle: the sine 2·s·c and the cosine c·c - s·s
unfoldable pub doubled_of : Pair → Pair
doubled_of p = record { s = (two ⊗ p.s) ⊗ p.c; c = p.c ⊗ p.c ⊖ p.s ⊗ p.s }

-- a NaN, or a magnitude over 8: NaN both; else the sixteenth's, doubled four times
unfoldable pub pair_of : Float → Pair
pair_of t =
    if ne t t || lt eight (abs_of t) then record { s = nan; c = nan }
    else doubled_of (doubled_of (doubled_of (doubled_of (sixteenth_of t))))

unfoldable pub sin_cos_of : Float → SinCos
sin_cos_of t = let p = pair_of (widen_of t) in record { sin = narrow_of p.s; cos = narrow_of p.c }

-- the quotient of the pair before it is narrowed
unfoldable pub tan_of : Float → Float
tan_of t = let p = pair_of (widen_of t) in narrow_of (p.s ⊘ p.c)

-- the sines of some pairs in one list and their cosines in another
abbrev pub apart : {n : ℕ} → List Pair → Pairs n
apart p = record { s = map (λ (q : Pair). q.s) p; c = map (λ (q : Pair). q.c) p }

-- each sine with the cosine at the same place
abbrev pub together : {n : ℕ} → Pairs n → List Pair
together p = zip2 (λ (s c : Float). record { s = s; c = c }) p.s p.c
