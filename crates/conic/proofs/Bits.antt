-- The joint word of pieces that tile has bit k exactly where one of them starts at k.
use mathlib.Core.Path.{◌≡◌, refl, sym, ap, ap₂, ◌∙◌}
use mathlib.Core.List.{List, [], ◌∷◌}
use mathlib.Core.Bool.{Bool, true, false, cond, ◌||◌}
use Prim.Native.Nat.{ℕ, suc, ◌+◌, ◌-◌, ◌*◌, ◌/◌, ◌%◌, ◌^◌, ◌<◌}
use native.Mathlib.Nat.{add_comm, mul_assoc, add-mul-div_right, div-eq_of_lt, add-mul-mod_self_right, pow-suc, zero-add, one-mul, div_self}
use native.Mathlib.Omega.{arith}
use native.Mathlib.Decide.{dec_lt}
use lib.Dec.{eqb}
use lib.Pow.{pow_pos, pow-add, pow-lt, shr-shr, high}
use borrow.Author.Tests.{eq-eqb, ne_eqb}
use Rattle.conic.specs.Halving.{Piece, word_of}
use Rattle.conic.specs.Spans.{Tiles, bit_of, starts_at}
use Rattle.conic.proofs.Tiling.{Sized, none_before, Multiple, tiles-multiple}

-- a bit below a multiple of 2 ^ h, and one above
bit-low : (lo v h k : ℕ) → k < h → bit_of (lo + v * 2 ^ h) k ≡ bit_of lo k
bit-low lo v h k l =
    let j = h - suc k in
    let e : h ≡ suc j + k = omega arith in
    let p : v * 2 ^ h ≡ v * 2 ^ suc j * 2 ^ k = ap (λ (x : ℕ). v * 2 ^ x) e ∙ ap (λ (x : ℕ). v * x) (pow-add 2 (suc j) k) ∙ sym (mul_assoc v (2 ^ suc j) (2 ^ k)) in
    let q : v * 2 ^ suc j ≡ v * 2 ^ j * 2 = ap (λ (x : ℕ). v * x) (pow-suc 2 j) ∙ sym (mul_assoc v (2 ^ j) 2) in
    ap (λ (x : ℕ). ((lo + x) / 2 ^ k) % 2) p
    ∙ ap (λ (x : ℕ). x % 2) (add-mul-div_right lo (v * 2 ^ suc j) (pow_pos k))
    ∙ ap (λ (x : ℕ). (lo / 2 ^ k + x) % 2) q
    ∙ add-mul-mod_self_right (lo / 2 ^ k) (v * 2 ^ j) 2

bit_high : (lo v h j : ℕ) → lo < 2 ^ h → bit_of (lo + v * 2 ^ h) (h + j) ≡ bit_of v j
bit_high lo v h j l =
    ap (λ (x : ℕ). x % 2) (sym (shr-shr (lo + v * 2 ^ h) h j) ∙ ap (λ (x : ℕ). x / 2 ^ j) (ap (λ (x : ℕ). x / 2 ^ h) (add_comm lo (v * 2 ^ h)) ∙ high v h l))

or_false : (x : Bool) → (x || false) ≡ x
or_false true = refl
or_false false = refl

-- no bit of 0, and the one bit of a power of two
zero_bit : (k : ℕ) → bit_of 0 k ≡ 0
zero_bit k = ap (λ (x : ℕ). x % 2) (div-eq_of_lt (pow_pos k))

power-bit_go : (a k : ℕ) → Dec (k < a) → Dec (a < k) → bit_of (2 ^ a) k ≡ cond (eqb k a) 1 0
power-bit_go a k (yes l) g =
    ap (λ (x : ℕ). bit_of x k) (sym (zero-add (1 * 2 ^ a) ∙ one-mul (2 ^ a))) ∙ bit-low 0 1 a k l ∙ zero_bit k
    ∙ sym (ap (λ (b : Bool). cond b 1 0) (ne_eqb k a (λ e. omega arith)))
power-bit_go a k (no l) (yes g) = ap (λ (x : ℕ). x % 2) (div-eq_of_lt (pow-lt g)) ∙ sym (ap (λ (b : Bool). cond b 1 0) (ne_eqb k a (λ e. omega arith)))
power-bit_go a k (no l) (no g) =
    let e : k ≡ a = omega arith in
    ap (λ (x : ℕ). bit_of (2 ^ a) x) e ∙ ap (λ (x : ℕ). x % 2) (div_self (pow_pos a)) ∙ sym (ap (λ (b : Bool). cond b 1 0) (eq-eqb k a e))

power-bit : (a k : ℕ) → bit_of (2 ^ a) k ≡ cond (eqb k a) 1 0
power-bit a k = power-bit_go a k (dec_lt k a) (dec_lt a k)

-- a first piece at a, then pieces from h on whose word is a multiple of 2 ^ h
first_go : (a h k : ℕ) (ps : List Piece) → Multiple (word_of ps) (2 ^ h) → a < h → (k < h → starts_at k ps ≡ false) → bit_of (word_of ps) k ≡ cond (starts_at k ps) 1 0 → Dec (k < h)
    → bit_of (2 ^ a + word_of ps) k ≡ cond (eqb k a || starts_at k ps) 1 0
first_go a h k ps m l none later (yes low) =
    ap (λ (x : ℕ). bit_of (2 ^ a + x) k) m.is ∙ bit-low (2 ^ a) m.times h k low ∙ power-bit a k
    ∙ sym (ap (λ (b : Bool). cond b 1 0) (ap (λ (b : Bool). eqb k a || b) (none low) ∙ or_false (eqb k a)))
first_go a h k ps m l none later (no high) =
    let j = k - h in
    let e : k ≡ h + j = omega arith in
    let up : bit_of (2 ^ a + word_of ps) k ≡ bit_of m.times j =
    ap₂ (λ (x y : ℕ). bit_of (2 ^ a + x) y) m.is e ∙ bit_high (2 ^ a) m.times h j (pow-lt l) in
    let down : bit_of (word_of ps) k ≡ bit_of m.times j =
    ap₂ (λ (x y : ℕ). bit_of x y) (m.is ∙ sym (zero-add (m.times * 2 ^ h))) e ∙ bit_high 0 m.times h j (pow_pos h) in
    up ∙ sym down ∙ later ∙ sym (ap (λ (b : Bool). cond (b || starts_at k ps) 1 0) (ne_eqb k a (λ q. omega arith)))

pub marks : (a b k : ℕ) (ps : List Piece) → Tiles a ps b → Sized ps → bit_of (word_of ps) k ≡ cond (starts_at k ps) 1 0
unfolding Tiles Sized word_of starts_at
marks a b k [] t d = zero_bit k
marks a b k (p ∷ ps) t d =
    let i = p.span.start in
    let h = a + p.span.size in
    first_go i h k ps (tiles-multiple h b ps t.1 d.1) (omega (arith, t.0, d.0)) (none_before h b k ps t.1 d.1) (marks h b k ps t.1 d.1) (dec_lt k h)
