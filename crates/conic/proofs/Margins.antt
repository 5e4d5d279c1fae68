-- The inequalities that decide without roots, over numbers alone. h, e and l are 2 ^ 23, 2 ^ 23 + 1 and 2 ^ 149 where they are used. Assumes nothing.
use mathlib.Core.Path.{◌≡◌, sym, ap, ◌∙◌}
use Prim.Native.Nat.{ℕ, ◌*◌, ◌≤◌, ◌<◌}
use native.Mathlib.Nat.{le_trans, le_of_eq, mul_comm, mul_assoc, mul_left_comm, mul-mul-mul_comm, mul-le-mul_left, mul-le-mul_right, le_of_mul-le-mul_left, le_of_mul-le-mul_right}
use Rattle.ieee.proofs.Isqrt.{square_le}

-- four bounds in a row, the last of which leads back to the first
round_trip : (n d m c x y p q r s u v j k : ℕ) → 0 < n * c → n * p ≤ x * (q * d) → x * r ≤ s * y → y * (u * c) ≤ m * v → j * m * d ≤ n * (k * c) → p * r * u * j ≤ v * s * q * k
round_trip n d m c x y p q r s u v j k N a b f g =
    let a' : n * p * (c * (r * u * j)) ≤ x * (q * d) * (c * (r * u * j)) = mul-le-mul_right (c * (r * u * j)) a in
    let b' : x * r * (q * d * (c * (u * j))) ≤ s * y * (q * d * (c * (u * j))) = mul-le-mul_right (q * d * (c * (u * j))) b in
    let f' : y * (u * c) * (s * q * (d * j)) ≤ m * v * (s * q * (d * j)) = mul-le-mul_right (s * q * (d * j)) f in
    let g' : j * m * d * (v * s * q) ≤ n * (k * c) * (v * s * q) = mul-le-mul_right (v * s * q) g in
    let e0 : n * c * (p * r * u * j) ≡ n * p * (c * (r * u * j)) = simp (mul_assoc, mul_left_comm) in
    let e1 : x * (q * d) * (c * (r * u * j)) ≡ x * r * (q * d * (c * (u * j))) = simp (mul_assoc, mul_comm, mul_left_comm) in
    let e2 : s * y * (q * d * (c * (u * j))) ≡ y * (u * c) * (s * q * (d * j)) = simp (mul_assoc, mul_comm, mul_left_comm) in
    let e3 : m * v * (s * q * (d * j)) ≡ j * m * d * (v * s * q) = simp (mul_assoc, mul_comm, mul_left_comm) in
    let e4 : n * (k * c) * (v * s * q) ≡ n * c * (v * s * q * k) = simp (mul_assoc, mul_comm, mul_left_comm) in
    le_of_mul-le-mul_left
    (le_trans (le_of_eq e0) (le_trans a' (le_trans (le_of_eq e1) (le_trans b' (le_trans (le_of_eq e2) (le_trans f' (le_trans (le_of_eq e3) (le_trans g' (le_of_eq e4)))))))))
    N

-- a product of two factors squared
squared : (x e d : ℕ) → x * e * (x * e) * d ≡ x * x * (e * e * d)
squared x e d = ap (λ (z : ℕ). z * d) (mul-mul-mul_comm x e x e) ∙ mul_assoc (x * x) (e * e) d

-- x / l and y / l are roots of n / d and m / c, rounded, x is at most b / a times y, and yet n / d is at least j / k times m / c: then the factors of the errors say so
pub no_room : (h e l n d m c x y a b j k : ℕ) → 0 < n * c → n * (h * l * (h * l)) ≤ x * e * (x * e) * d → x * (h * a) ≤ b * e * y → y * h * (y * h) * c ≤ m * (e * l * (e * l)) → j * m * d ≤ n * (k * c)
    → h * l * (h * l) * (h * a * (h * a)) * (h * h) * j ≤ e * l * (e * l) * (b * e * (b * e)) * (e * e) * k
no_room h e l n d m c x y a b j k N f g i z =
    round_trip n d m c (x * x) (y * y) (h * l * (h * l)) (e * e) (h * a * (h * a)) (b * e * (b * e)) (h * h) (e * l * (e * l)) j k N (le_trans f (le_of_eq (squared x e d)))
    (le_trans (le_of_eq (mul-mul-mul_comm x x (h * a) (h * a))) (le_trans (square_le g) (le_of_eq (mul-mul-mul_comm (b * e) y (b * e) y)))) (le_trans (le_of_eq (sym (squared y h c))) i) z

-- ---- the rounded product r / l of t / m and y / l, against x / l
pub below_scaled : (h e l t m y r x : ℕ) → 0 < l → r * h * (m * l) ≤ t * y * (e * l) → x ≤ r → x * (h * m) ≤ t * e * y
below_scaled h e l t m y r x L f g =
    let a : r * (h * m) * l ≡ r * h * (m * l) = simp (mul_assoc, mul_comm, mul_left_comm) in
    let b : t * y * (e * l) ≡ t * e * y * l = simp (mul_assoc, mul_comm, mul_left_comm) in
    le_trans (mul-le-mul_right (h * m) g) (le_of_mul-le-mul_right (le_trans (le_of_eq a) (le_trans f (le_of_eq b))) L)

pub above_scaled : (h e l t m y r x : ℕ) → 0 < l → t * y * (h * l) ≤ r * e * (m * l) → r ≤ x → y * (h * t) ≤ m * e * x
above_scaled h e l t m y r x L f g =
    let a : y * (h * t) * l ≡ t * y * (h * l) = simp (mul_assoc, mul_comm, mul_left_comm) in
    let b : r * e * (m * l) ≡ m * e * r * l = simp (mul_assoc, mul_comm, mul_left_comm) in
    le_trans (le_of_mul-le-mul_right (le_trans (le_of_eq a) (le_trans f (le_of_eq b))) L) (mul-le-mul_left (m * e) g)

-- ---- for n / d of at least 1 / b: a multiple of its root is above the smallest normal value
pub small_root : (n d b s e p t g : ℕ) → 0 < d → d ≤ n * b → n * p ≤ s * e * (s * e) * d → t * s ≤ g → p * (t * t) ≤ g * g * (e * e) * b
small_root n d b s e p t g D f i j =
    let w : p * (t * t) * d ≡ d * (p * (t * t)) = mul_comm (p * (t * t)) d in
    let x : n * b * (p * (t * t)) ≡ n * p * (b * (t * t)) = simp (mul_assoc, mul_left_comm) in
    let y : s * e * (s * e) * d * (b * (t * t)) ≡ t * s * (t * s) * (e * e * b * d) = simp (mul_assoc, mul_comm, mul_left_comm) in
    let z : g * g * (e * e * b * d) ≡ g * g * (e * e) * b * d = simp (mul_assoc, mul_comm, mul_left_comm) in
    le_of_mul-le-mul_right
    (le_trans (le_of_eq w) (le_trans (mul-le-mul_right (p * (t * t)) f) (le_trans (le_of_eq x) (le_trans (mul-le-mul_right (b * (t * t)) i) (le_trans (le_of_eq y) (le_trans (mul-le-mul_right (e * e * b * d) (square_le j)) (le_of_eq z)))))))
    D
