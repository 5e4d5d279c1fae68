-- Which corners are asked: by the lowest bit that is set, and then by the others. Assumes nothing.
use mathlib.Core.Path.{◌≡◌, refl}
use mathlib.Core.Bool.{Bool, true, false, cond, ◌&&◌, ◌||◌}
use mathlib.Core.List.{[], ◌∷◌}
use Prim.Native.Nat.{ℕ, zero, suc, ◌-◌, ◌%◌, ◌^◌, ◌<◌}
use native.Mathlib.Omega.{arith}
use lib.Bits.{bit_and, bit_or}
use lib.Count.{count_trailing_zeros}
use lib.Dec.{lit<}
use lib.Lanes.{mask_l, top}
use Rattle.containment.specs.Floats.{asked_hold}

-- one corner, and the others
abbrev pub Step : ℕ → Type 0
Step a = (count_trailing_zeros 64 a < 4) × (bit_and a (a - 1) < a) × ((h : ℕ → Bool) → asked_hold h a ≡ (h (count_trailing_zeros 64 a) && asked_hold h (bit_and a (a - 1))))

step : (a : ℕ) → suc a < 16 → Step (suc a)
unfolding asked_hold count_trailing_zeros
step zero l = (lit< tt, lit< tt, λ h. refl)
step (suc zero) l = (lit< tt, lit< tt, λ h. refl)
step (suc (suc zero)) l = (lit< tt, lit< tt, λ h. refl)
step (suc (suc (suc zero))) l = (lit< tt, lit< tt, λ h. refl)
step (suc (suc (suc (suc zero)))) l = (lit< tt, lit< tt, λ h. refl)
step (suc (suc (suc (suc (suc zero))))) l = (lit< tt, lit< tt, λ h. refl)
step (suc (suc (suc (suc (suc (suc zero)))))) l = (lit< tt, lit< tt, λ h. refl)
step (suc (suc (suc (suc (suc (suc (suc zero))))))) l = (lit< tt, lit< tt, λ h. refl)
step (suc (suc (suc (suc (suc (suc (suc (suc zero)))))))) l = (lit< tt, lit< tt, λ h. refl)
step (suc (suc (suc (suc (suc (suc (suc (suc (suc zero))))))))) l = (lit< tt, lit< tt, λ h. refl)
step (suc (suc (suc (suc (suc (suc (suc (suc (suc (suc zero)))))))))) l = (lit< tt, lit< tt, λ h. refl)
step (suc (suc (suc (suc (suc (suc (suc (suc (suc (suc (suc zero))))))))))) l = (lit< tt, lit< tt, λ h. refl)
step (suc (suc (suc (suc (suc (suc (suc (suc (suc (suc (suc (suc zero)))))))))))) l = (lit< tt, lit< tt, λ h. refl)
step (suc (suc (suc (suc (suc (suc (suc (suc (suc (suc (suc (suc (suc zero))))))))))))) l = (lit< tt, lit< tt, λ h. refl)
step (suc (suc (suc (suc (suc (suc (suc (suc (suc (suc (suc (suc (suc (suc zero)))))))))))))) l = (lit< tt, lit< tt, λ h. refl)
step (suc (suc (suc (suc (suc (suc (suc (suc (suc (suc (suc (suc (suc (suc (suc a))))))))))))))) l = absurd (omega (arith, l))

pub next : (a : ℕ) → (a ≡ 0 → ⊥) → a < 16 → Step a
next zero n l = absurd (n refl)
next (suc a) n l = step a l

pub none : (h : ℕ → Bool) → true ≡ asked_hold h 0
unfolding asked_hold
none h = refl

-- the bits of those that are not passed over
not_passed : (a b c d : Bool) (h : ℕ → Bool) → asked_hold h (15 - mask_l (a ∷ b ∷ c ∷ d ∷ []) % 2 ^ 64) ≡ (cond a true (h 0) && (cond b true (h 1) && (cond c true (h 2) && (cond d true (h 3) && true))))
unfolding asked_hold
not_passed false false false false h = refl
not_passed true false false false h = refl
not_passed false true false false h = refl
not_passed true true false false h = refl
not_passed false false true false h = refl
not_passed true false true false h = refl
not_passed false true true false h = refl
not_passed true true true false h = refl
not_passed false false false true h = refl
not_passed true false false true h = refl
not_passed false true false true h = refl
not_passed true true false true h = refl
not_passed false false true true h = refl
not_passed true false true true h = refl
not_passed false true true true h = refl
not_passed true true true true h = refl

-- the lanes of two masks, one or the other
abbrev either : Bool → Bool → Bool
either a b = top 31 (bit_or (cond a 0xffff_ffff 0) (cond b 0xffff_ffff 0))

either-is : (a b : Bool) → either a b ≡ (a || b)
either-is true true = refl
either-is true false = refl
either-is false true = refl
either-is false false = refl

pub by_lanes : (a b c d e f g k : Bool) (h : ℕ → Bool) → asked_hold h (15 - mask_l (either a b ∷ either c d ∷ either e f ∷ either g k ∷ []) % 2 ^ 64)
    ≡ (cond (a || b) true (h 0) && (cond (c || d) true (h 1) && (cond (e || f) true (h 2) && (cond (g || k) true (h 3) && true))))
by_lanes a b c d e f g k h = rw (either-is a b, either-is c d, either-is e f, either-is g k) (not_passed (a || b) (c || d) (e || f) (g || k) h)
