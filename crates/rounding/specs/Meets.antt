-- What IEEE 754 says of the width changes and the square root: the list that `operations_meet_ieee_754` promises.
-- Definitions only. Assumes nothing.
use Rattle.std.specs.Prelude.{◌≡◌, ◌↔◌, ℕ, ◌*◌, ◌≤◌, ◌<◌, Bool, false, pos, T, Float}
use Rattle.std.specs.Float.{nan, inf, fin, Format, binary32, binary64}
use Rattle.std.specs.Float.Ieee.{round, fits, lt}
use Rattle.std.specs.Float.Ieee.Exact.{HasValue}
use Rattle.std.specs.Float.Ieee.Positive.{num, den, positive}
use Rattle.std.specs.Float.Ieee.Scale.{finite}
use Rattle.ieee.specs.Basic.{widen_of}
use Rattle.ieee.specs.Narrow.{narrow_of}
use Rattle.ieee.specs.Sqrt.{root_of, sqrt_of}
use Rattle.rounding.specs.Meaning.{fraction, root, Closer, distance, sign, largest, Rounded}

pub record OperationsMeetIeee754 : Type 0 where
  -- ---- Two definitions mean what they are called. `Closer`, of a fraction n / d: the one distance, times c * d, is at
  -- most the other.
  pub closer_distance :
      (n d : ℕ) → 0 < d → (p : Bool) (a : ℕ) (q : Bool) (b c : ℕ)
      → Closer (fraction n d) p a q b c ↔ (distance p (n * c) (a * d) ≤ distance q (n * c) (b * d))
  -- `largest`: a value of the format has it, and no finite one is above it
  pub largest-held : (f : Format) → (y : Float) × T (fits f y) × HasValue y false (largest f) 1
  pub largest-above : (f : Format) (y : Float) → T (fits f y) → T (finite y) → num y ≤ largest f * den y
  -- ---- Rounding, over either format: the library's `round`, in which its operators end, and the root's definition.
  -- The rounded value is the only one.
  pub round_rounded : (f : Format) (s : Bool) (n d : ℕ) → 0 < d → Rounded f s (fraction n d) (round f s n d)
  pub rounded_is_round :
      (f : Format) (s : Bool) (n d : ℕ) (x : Float) → 0 < d → Rounded f s (fraction n d) x → x ≡ round f s n d
  pub root_rounded : (f : Format) (n d : ℕ) → 0 < d → Rounded f false (root n d) (root_of f n d)
  pub rounded_is_root :
      (f : Format) (n d : ℕ) (x : Float) → 0 < d → Rounded f false (root n d) x → x ≡ root_of f n d
  -- ---- To the narrower format: a finite value is rounded and keeps its sign, an infinity and a NaN stay what they
  -- are.
  pub narrow_rounded :
      (x : Float) → T (finite x) → Rounded binary32 (sign x) (fraction (num x) (den x)) (narrow_of x)
  pub narrow_infinity : (s : Bool) → narrow_of (inf s) ≡ inf s
  pub narrow_nan : narrow_of nan ≡ nan
  -- ---- To the wider format: the same number with the same sign, also an infinity and a NaN, and narrowing brings it
  -- back.
  pub widen_same : (x : Float) → widen_of x ≡ x
  pub widen_fits : (x : Float) → T (fits binary32 x) → T (fits binary64 (widen_of x))
  pub widen_narrow : (x : Float) → T (fits binary32 x) → narrow_of (widen_of x) ≡ x
  -- ---- The square root, over either format: above zero it is rounded, and it does not overflow.
  pub sqrt_rounded : (f : Format) (x : Float) → T (positive x) → Rounded f false (root (num x) (den x)) (sqrt_of f x)
  pub sqrt_finite : (f : Format) (x : Float) → T (fits f x) → T (positive x) → T (finite (sqrt_of f x))
  -- -0 gives -0 and +0 gives +0
  pub sqrt_zero : (f : Format) (s : Bool) → sqrt_of f (fin s 0 (pos 0)) ≡ fin s 0 (pos 0)
  -- below zero, also at minus infinity, there is none
  pub sqrt_below_zero : (f : Format) (x : Float) → T (lt x (fin false 0 (pos 0))) → sqrt_of f x ≡ nan
  pub sqrt_infinity : (f : Format) → sqrt_of f (inf false) ≡ inf false
  pub sqrt_nan : (f : Format) → sqrt_of f nan ≡ nan
