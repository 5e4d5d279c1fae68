-- The coefficients of the series: two families of rounded quotients, and H, Horner's scheme on the first of a family.
-- Definitions only.
use Rattle.std.specs.Prelude.{ℕ, zero, suc, ◌+◌, ◌*◌, ◌%◌, List, [], ◌∷◌, pos, Float, if◌then◌else◌, ◌==◌}
use Rattle.std.specs.Float.{binary64}
use Rattle.std.specs.Float.Ieee.{neg, div, of_int}
use Rattle.series.specs.Horner.{horner_of}

abbrev pub factorial : ℕ → ℕ
factorial zero = 1
factorial (suc k) = suc k * factorial k

-- 1 / n, rounded once
unfoldable pub reciprocal : ℕ → Float
reciprocal n = div binary64 (of_int binary64 (pos 1)) (of_int binary64 (pos n))

-- 1 / (2k + 1)
unfoldable pub odd_reciprocal : ℕ → Float
odd_reciprocal k = reciprocal (2 * k + 1)

-- 1 / k!
unfoldable pub factorial_reciprocal : ℕ → Float
factorial_reciprocal k = reciprocal (factorial k)

-- (-1)^k times c k: every other one negated
unfoldable pub alternating : (ℕ → Float) → ℕ → Float
alternating c k = if k % 2 == 0 then c k else neg (c k)

-- c 0, c 1, .., n of them
unfoldable pub terms : (ℕ → Float) → ℕ → List Float
terms c zero = []
terms c (suc n) = c 0 ∷ terms (λ k. c (suc k)) n

-- H(c, z, m), of the coefficients c 0 to c m
unfoldable pub H : (ℕ → Float) → Float → ℕ → Float
H c z m = horner_of binary64 (terms c (suc m)) z
