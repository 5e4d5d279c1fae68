-- What pow's rules leave for the last one: a base that is finite and above zero. Assumes nothing.
use mathlib.Core.Path.{◌≡◌, sym, ◌∙◌}
use mathlib.Core.Bool.{true, false, true≢false}
use Prim.Native.Nat.{ℕ, zero, suc, ◌+◌, ◌*◌}
use native.Mathlib.Nat.{zero-mul, zero-lt-suc}
use native.Mathlib.Omega.{arith}
use borrow.Author.Tests.{ltb-false}
use lib.Dec.{T, lt→ltb}
use lib.IntN.{ℤ}
use lib.Ieee.{Float, nan, inf, fin, of_bits, lt, eq, ne, up, down}
use lib.Ieee.Compare.{nan_differs}
use lib.Ieee.Positive.{positive}
use Rattle.std.specs.Float.{float_is_infinite}
use Rattle.ieee.specs.Binary32.{zero as none}

-- a negative number that is not below 0 is 0, and so is a zero
minus-zero : (m : ℕ) (e : ℤ) → lt (fin true m e) none ≡ false → eq (fin true m e) none ≡ true
unfolding lt eq of_bits
minus-zero m e h =
    let z : m * up e * 1 ≡ 0 = omega (arith, ltb-false 0 (m * up e * 1 + 0 * down e) h) in
    rw (z, zero-mul (down e))

plus-zero : (e : ℤ) → eq (fin false 0 e) none ≡ true
unfolding eq of_bits
plus-zero e = rw (zero-mul (up e), zero-mul (down e))

pub above_zero : (b : Float) → ne b b ≡ false → lt b none ≡ false → eq b none ≡ false → float_is_infinite b ≡ false → T (positive b)
unfolding float_is_infinite
above_zero nan n l z i = absurd (true≢false (sym nan_differs ∙ n))
above_zero (inf s) n l z i = absurd (true≢false i)
above_zero (fin true m e) n l z i = absurd (true≢false (sym (minus-zero m e l) ∙ z))
above_zero (fin false zero e) n l z i = absurd (true≢false (sym (plus-zero e) ∙ z))
above_zero (fin false (suc m) e) n l z i = lt→ltb 0 (suc m) (zero-lt-suc m)
