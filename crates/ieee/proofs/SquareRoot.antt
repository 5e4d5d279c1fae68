-- The language's square root (`sqrt` of lib.Ieee) is `sqrt_of`. It hands to `round` twice the root, taken to more places than a format has, and the odd number between two of them
-- where the root goes on. That number lies on the same side of each midpoint as twice the root does. Assumes nothing.
use Rattle.std.proofs.Common.{◌≡◌, ℕ, zero, suc, ◌+◌, ◌-◌, ◌*◌, ◌/◌, ◌%◌, ◌^◌, ◌<◌, ◌≤◌, Bool, true, false, cond, ◌&&◌, T, eqb, ltb, leb, ℤ, pos, negsuc, sym, refl, ap, ◌∙◌, subst, le_trans, le_of_eq, lt_of_lt_of_le, le_of_suc-le-suc, lt_of_le_of_lt, mul-le-mul_right, mul_assoc, div-lt_iff_lt-mul, le_antisymm, mul-lt-mul_of_pos_right, mul-pos, le-div_iff_mul-le, mul-div_cancel, div-add-mod', arith, eqb→eq, leb→le, pow_pos, pow_mono, pow-add, lt_irrefl, lt_of_not-le}
use Prim.Native.Nat.{compare}
use native.Mathlib.Nat.{div-div-eq-div-mul, pow-succ'}
use lib.Dec.{eqb_refl}
use lib.Arith.{lt_of_le-ne}
use lib.Ieee.{Float, nan, inf, fin, Format, binary32, prec, emax, low, up, down, size, nearest, units, round, root_twice, sqrt, fits}
use lib.Ieee.Fits.{core, round_is, down_pos, and_l, and_r}
use lib.Ieee.Nearest.{div_same}
use Rattle.ieee.specs.Sqrt.{isqrt, root_of, sqrt_of}
use Rattle.ieee.proofs.Isqrt.{square_le, square-suc, isqrt_lo, isqrt_hi, root-le, root-lt}
use Rattle.ieee.proofs.Rooting.{compare_same, compare_scale, root_at, root_of-is, root_of_same}

-- ---- twice the root, of which only the last place shows whether it goes on
abbrev rest : ℕ → ℕ
rest n = cond (eqb (isqrt n * isqrt n) n) 0 1

at-most-one : (b : Bool) → cond b 0 1 ≤ 1
at-most-one true = omega arith
at-most-one false = omega arith

twice-is : (n : ℕ) → root_twice n ≡ 2 * isqrt n + rest n
unfolding root_twice isqrt
twice-is n = refl

square-lt : {a b : ℕ} → a < b → a * a < b * b
square-lt {a} {b} h = lt_of_lt_of_le (let s = square-suc a in omega arith) (square_le h)

-- on the same side of every even number as the root of half of it
sides : (b : Bool) (M R h : ℕ) → eqb (R * R) M ≡ b → R * R ≤ M → M < suc R * suc R → compare (2 * R + cond b 0 1) (2 * h) ≡ compare M (h * h)
sides true M R h e lo hi =
    let whole : R * R ≡ M = eqb→eq (R * R) M (subst T (sym e) tt) in
    compare_same (2 * R + 0) (2 * h) M (h * h)
    (λ (x : 2 * R + 0 < 2 * h). subst (λ (z : ℕ). z < h * h) whole (square-lt (omega arith)))
    (λ (x : 2 * R + 0 ≡ 2 * h). sym whole ∙ ap (λ (z : ℕ). z * z) (omega arith))
    (λ (x : 2 * h < 2 * R + 0). subst (λ (z : ℕ). h * h < z) whole (square-lt (omega arith)))
sides false M R h e lo hi =
    compare_same (2 * R + 1) (2 * h) M (h * h)
    (λ (x : 2 * R + 1 < 2 * h). lt_of_lt_of_le hi (square_le (omega arith)))
    (λ (x : 2 * R + 1 ≡ 2 * h). absurd (omega arith))
    (λ (x : 2 * h < 2 * R + 1). lt_of_le_of_lt (square_le (omega arith)) (lt_of_le-ne lo (λ (w : R * R ≡ M). subst T e (subst (λ (z : ℕ). T (eqb (R * R) z)) w (eqb_refl (R * R))))))

twice-side : (M h : ℕ) → compare (root_twice M) (2 * h) ≡ compare M (h * h)
twice-side M h = ap (λ (z : ℕ). compare z (2 * h)) (twice-is M) ∙ sides (eqb (isqrt M * isqrt M) M) M (isqrt M) h refl (isqrt_lo M) (isqrt_hi M)

-- ---- the whole part of the root, where it is taken to j places
shifted_lo : (s p N M R : ℕ) → M ≡ N * (p * p) → s * s ≤ N → M < suc R * suc R → s * p ≤ R
shifted_lo s p N M R e lo hi = root-le (s * p) R M (le_trans (le_of_eq (square s p)) (le_trans (mul-le-mul_right (p * p) lo) (le_of_eq (sym e)))) hi
  where
    square : (s p : ℕ) → s * p * (s * p) ≡ s * s * (p * p)
    square s p = omega arith

shifted_hi : (s p N M R : ℕ) → M ≡ N * (p * p) → 0 < p → N < suc s * suc s → R * R ≤ M → R < suc s * p
shifted_hi s p N M R e P hi lo =
    root-lt R (suc s * p)
    (lt_of_le_of_lt lo (lt_of_le_of_lt (le_of_eq e) (lt_of_lt_of_le (mul-lt-mul_of_pos_right hi (mul-pos P P)) (le_of_eq (square (suc s) p)))))
  where
    square : (s p : ℕ) → s * s * (p * p) ≡ s * p * (s * p)
    square s p = omega arith

-- with p for 2 ^ j
whole_at : (s p P t R b : ℕ) → 0 < P → P ≡ 2 * p → t ≡ 2 * R + b → b ≤ 1 → s * p ≤ R → R < suc s * p → t / P ≡ s
whole_at s p P t R b h e d one lo hi = le_antisymm (le_of_suc-le-suc ((div-lt_iff_lt-mul h).1 (upper (suc s * p) refl))) ((le-div_iff_mul-le h).1 (lower (s * p) refl))
  where
    upper : (y : ℕ) → suc s * p ≡ y → t < suc s * P
    upper y g = lt_of_lt_of_le (let i : t < 2 * y = omega arith in i) (le_of_eq (sym (ap (λ (z : ℕ). suc s * z) e ∙ twice (suc s) p ∙ ap (λ (z : ℕ). 2 * z) g)))
      where
        twice : (s p : ℕ) → s * (2 * p) ≡ 2 * (s * p)
        twice s p = omega arith

    lower : (y : ℕ) → s * p ≡ y → s * P ≤ t
    lower y g = le_trans (le_of_eq (ap (λ (z : ℕ). s * z) e ∙ twice s p ∙ ap (λ (z : ℕ). 2 * z) g)) (let i : 2 * y ≤ t = omega arith in i)
      where
        twice : (s p : ℕ) → s * (2 * p) ≡ 2 * (s * p)
        twice s p = omega arith

pub whole : (N j : ℕ) → root_twice (N * 2 ^ (j + j)) / 2 ^ suc j ≡ isqrt N
whole N j =
    let M = N * 2 ^ (j + j) in
    let e : M ≡ N * (2 ^ j * 2 ^ j) = ap (λ (z : ℕ). N * z) (pow-add 2 j j) in
    whole_at (isqrt N) (2 ^ j) (2 ^ suc j) (root_twice M) (isqrt M) (rest M) (pow_pos (suc j)) (pow-succ' 2 j) (twice-is M) (at-most-one (eqb (isqrt M * isqrt M) M))
    (shifted_lo (isqrt N) (2 ^ j) N M (isqrt M) e (isqrt_lo N) (isqrt_hi M))
    (shifted_hi (isqrt N) (2 ^ j) N M (isqrt M) e (pow_pos j) (isqrt_hi N) (isqrt_lo M))

-- ---- a remainder against half of what it is left by
remainder : (n u q : ℕ) → n / u ≡ q → compare (n % u * 2) u ≡ compare (n * 2) ((2 * q + 1) * u)
remainder n u q e =
    let d : q * u + n % u ≡ n = ap (λ (z : ℕ). z * u + n % u) (sym e) ∙ div-add-mod' n u in
    go (n % u) (q * u) ((2 * q + 1) * u) d (split q u)
  where
    split : (q u : ℕ) → (2 * q + 1) * u ≡ 2 * (q * u) + u
    split q u = omega arith

    go : (m x y : ℕ) → x + m ≡ n → y ≡ 2 * x + u → compare (m * 2) u ≡ compare (n * 2) y
    go m x y d g = compare_same (m * 2) u (n * 2) y (λ (h : m * 2 < u). omega arith) (λ (h : m * 2 ≡ u). omega arith) (λ (h : u < m * 2). omega arith)

-- ---- rounded: with a for 2 ^ i, b for 2 ^ k, l for 2 ^ low and Y for the odd number of halves
scaled_sides : (t a b l Y N M u L : ℕ) → 0 < a → 0 < l → 0 < L → u ≡ 2 * (2 * a) * l * b → M ≡ N * (2 * a * (2 * a)) → ((h : ℕ) → compare t (2 * h) ≡ compare M (h * h))
    → compare (t * l * 2) (Y * u) ≡ compare (4 * (N * L)) (Y * b * (Y * b) * L)
scaled_sides t a b l Y N M u L A P Q e d s =
    ap (λ (z : ℕ). compare (t * l * 2) (Y * z)) e
    ∙ ap (λ (z : ℕ). compare z (Y * (2 * (2 * a) * l * b))) (one t l)
    ∙ ap (λ (z : ℕ). compare (t * (l * 2)) z) (two Y a b l)
    ∙ sym (compare_scale t (2 * (Y * (a * b))) (l * 2) (mul-pos P (omega arith)))
    ∙ s (Y * (a * b))
    ∙ ap (λ (z : ℕ). compare z (Y * (a * b) * (Y * (a * b)))) (d ∙ three N a)
    ∙ ap (λ (z : ℕ). compare (4 * N * (a * a)) z) (four Y a b)
    ∙ sym (compare_scale (4 * N) (Y * b * (Y * b)) (a * a) (mul-pos A A))
    ∙ compare_scale (4 * N) (Y * b * (Y * b)) L Q
    ∙ ap (λ (z : ℕ). compare z (Y * b * (Y * b) * L)) (mul_assoc 4 N L)
  where
    one : (t l : ℕ) → t * l * 2 ≡ t * (l * 2)
    one t l = omega arith

    two : (Y a b l : ℕ) → Y * (2 * (2 * a) * l * b) ≡ 2 * (Y * (a * b)) * (l * 2)
    two Y a b l = omega arith

    three : (N a : ℕ) → N * (2 * a * (2 * a)) ≡ 4 * N * (a * a)
    three N a = omega arith

    four : (Y a b : ℕ) → Y * (a * b) * (Y * (a * b)) ≡ Y * b * (Y * b) * (a * a)
    four Y a b = omega arith

pub round-root : (f : Format) (N i L : ℕ) → 0 < L → round f false (root_twice (N * 2 ^ (suc i + suc i))) (2 ^ (suc (suc i) + low f)) ≡ root_at f (N * L) L (isqrt N)
round-root f N i L Q =
    let M = N * 2 ^ (suc i + suc i) in
    let t = root_twice M in
    let l = 2 ^ low f in
    let D = 2 ^ (suc (suc i) + low f) in
    let n = t * l in
    let k = size (isqrt N) - prec f in
    let q = isqrt N / 2 ^ k in
    let u = D * 2 ^ k in
    let dl : D ≡ 2 ^ suc (suc i) * l = pow-add 2 (suc (suc i)) (low f) in
    let quotient : n / D ≡ isqrt N = div_same n D t (2 ^ suc (suc i)) (pow_pos (suc (suc i) + low f)) (pow_pos (suc (suc i))) (swap t l (2 ^ suc (suc i)) ∙ ap (λ (z : ℕ). t * z) (sym dl)) ∙ whole N (suc i) in
    let kept : n / u ≡ q = sym (div-div-eq-div-mul n D (2 ^ k)) ∙ ap (λ (z : ℕ). z / 2 ^ k) quotient in
    let ue : u ≡ 2 * (2 * 2 ^ i) * l * 2 ^ k = ap (λ (z : ℕ). z * 2 ^ k) (dl ∙ ap (λ (z : ℕ). z * l) (pow-succ' 2 (suc i) ∙ ap (λ (z : ℕ). 2 * z) (pow-succ' 2 i))) in
    let me : M ≡ N * (2 * 2 ^ i * (2 * 2 ^ i)) = ap (λ (z : ℕ). N * z) (pow-add 2 (suc i) (suc i) ∙ ap (λ (z : ℕ). z * z) (pow-succ' 2 i)) in
    round_is f false t D
    ∙ ap (λ (z : ℕ). core f false n D (size z - prec f)) quotient
    ∙ ap (λ (z : ℕ). units f false (nearest z (compare (n % u * 2) u)) k) kept
    ∙ ap (λ (o : Prim.Native.Nat.Ordering). units f false (nearest q o) k) (remainder n u q kept ∙ scaled_sides t (2 ^ i) (2 ^ k) l (2 * q + 1) N M u L (pow_pos i) (pow_pos (low f)) Q ue me (twice-side M))
  where
    swap : (t l p : ℕ) → t * l * p ≡ t * (p * l)
    swap t l p = omega arith

-- ---- an f32 in units of the least
in_units : (m : ℕ) (e : ℤ) → T (leb (down e) (2 ^ 149)) → (a : ℕ) × (m * up e * 2 ^ 149 ≡ a * down e)
in_units m (pos k) h = (m * 2 ^ k * 2 ^ 149, sym (one (m * 2 ^ k * 2 ^ 149)))
  where
    one : (a : ℕ) → a * 1 ≡ a
    one a = omega arith
in_units m (negsuc k) h =
    let j = 149 - suc k in
    let g : suc k ≤ 149 = below (suc k) (leb→le (2 ^ suc k) (2 ^ 149) h) in
    (m * 2 ^ j, ap (λ (z : ℕ). m * 1 * z) (ap (λ (z : ℕ). 2 ^ z) (let i : 149 ≡ j + suc k = omega arith in i) ∙ pow-add 2 j (suc k)) ∙ join m (2 ^ j) (2 ^ suc k))
  where
    below : (i : ℕ) → 2 ^ i ≤ 2 ^ 149 → i ≤ 149
    below i g = le_of_suc-le-suc (lt_of_not-le (λ (x : 150 ≤ i). lt_irrefl (2 ^ 149) (lt_of_lt_of_le (lt_of_lt_of_le (pow_lt 149) (pow_mono x)) g)))
      where
        pow_lt : (j : ℕ) → 2 ^ j < 2 ^ suc j
        pow_lt j = let a = pow-succ' 2 j in let b = pow_pos j in omega arith

    join : (m a b : ℕ) → m * 1 * (a * b) ≡ m * a * b
    join m a b = omega arith

-- ---- the square root
positive_root : (m : ℕ) (e : ℤ) (a : ℕ) → m * up e * 2 ^ 149 ≡ a * down e → round binary32 false (root_twice (m * up e * 2 ^ 4542 / down e)) (2 ^ 2272) ≡ root_of binary32 (m * up e) (down e)
positive_root m e a h =
    let P = m * up e in
    let N = a * 2 ^ 149 in
    let taken : P * 2 ^ 4542 / down e ≡ N * 2 ^ (2122 + 2122) =
    ap (λ (z : ℕ). z / down e) (ap (λ (z : ℕ). P * z) (pow-add 2 149 4393) ∙ sym (mul_assoc P (2 ^ 149) (2 ^ 4393)) ∙ ap (λ (z : ℕ). z * 2 ^ 4393) h ∙ right a (down e) (2 ^ 4393))
    ∙ mul-div_cancel (a * 2 ^ 4393) (down_pos e)
    ∙ ap (λ (z : ℕ). a * z) (pow-add 2 149 4244)
    ∙ sym (mul_assoc a (2 ^ 149) (2 ^ 4244)) in
    ap (λ (z : ℕ). round binary32 false (root_twice z) (2 ^ 2272)) taken
    ∙ round-root binary32 N 2121 (2 ^ 149) (pow_pos 149)
    ∙ ap (λ (z : ℕ). root_at binary32 z (2 ^ 149) (isqrt N)) (mul_assoc a (2 ^ 149) (2 ^ 149) ∙ ap (λ (z : ℕ). a * z) (sym (pow-add 2 149 149)))
    ∙ ap (λ (z : ℕ). root_at binary32 (a * 2 ^ 298) (2 ^ 149) (isqrt z)) (sym (ap (λ (z : ℕ). z / 2 ^ 149) (ap (λ (z : ℕ). a * z) (pow-add 2 149 149) ∙ sym (mul_assoc a (2 ^ 149) (2 ^ 149))) ∙ mul-div_cancel N (pow_pos 149)))
    ∙ sym (root_of-is binary32 a (2 ^ 149))
    ∙ root_of_same binary32 a (2 ^ 149) P (down e) (pow_pos 149) (down_pos e) (sym h)
  where
    right : (a d p : ℕ) → a * d * p ≡ a * p * d
    right a d p = omega arith

-- the digits' size bounds the exponent from below
low_of_fits : (s : Bool) (m : ℕ) (e : ℤ) → T (fits binary32 (fin s (suc m) e)) → T (leb (down e) (2 ^ 149))
unfolding fits
low_of_fits s m e h =
    let A = eqb (suc m % 2) 1 in
    let B = ltb (suc m) (2 ^ prec binary32) in
    let C = leb (down e) (2 ^ low binary32) in
    let D = ltb (suc m * up e) (2 ^ suc (emax binary32) * down e) in
    and_r (A && B) C (and_l (A && B && C) D h)

zero_of_fits : (s : Bool) (e : ℤ) → T (fits binary32 (fin s zero e)) → fin s zero (pos 0) ≡ fin s zero e
unfolding fits
zero_of_fits s (pos zero) h = refl
zero_of_fits s (pos (suc k)) h = absurd (let a = pow-succ' 2 k in let b = eqb→eq (2 ^ suc k * 1) 1 h in omega arith)
zero_of_fits s (negsuc k) h = absurd (let a = pow-succ' 2 k in let b = eqb→eq (1 * 2 ^ suc k) 1 h in omega arith)

pub sqrt-is : (x : Float) → T (fits binary32 x) → sqrt binary32 x ≡ sqrt_of binary32 x
unfolding sqrt sqrt_of
sqrt-is nan h = refl
sqrt-is (inf true) h = refl
sqrt-is (inf false) h = refl
sqrt-is (fin s zero e) h = zero_of_fits s e h
sqrt-is (fin true (suc m) e) h = refl
sqrt-is (fin false (suc m) e) h = let u = in_units (suc m) e (low_of_fits false m e h) in positive_root (suc m) e u.0 u.1
