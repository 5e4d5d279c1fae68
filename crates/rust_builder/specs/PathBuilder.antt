-- The Rust's PathBuilder, of path.rs: its building calls in its words and in its order, on lists that grow. It knows
-- no buffers and refuses nothing. It borrows nothing that is computed elsewhere here: of this repository it takes the
-- record of a point and the operations of f32. Definitions only.
use Rattle.std.specs.Prelude.{List, [], ◌∷◌, ◌++◌, Bool, true, false, not, ◌&&◌, ◌||◌, ℕ, zero, suc, nat_le, Float, Option, Some, None, unwrap_or, if◌then◌else◌}
use Rattle.std.specs.Float.{binary32}
use Rattle.std.specs.Float.Ieee.{of_bits, lt, le}
use Rattle.std.specs.Float.Ieee.Scale.{finite}
use Rattle.ieee.specs.Binary32.{◌⊕◌, ◌⊖◌, ◌⊗◌, ◌⊘◌, zero as float_zero, quarter, half, one, two}
use Rattle.ieee.specs.Basic.{abs_of}
use Rattle.ieee.specs.Sqrt.{sqrt_of}
use Rattle.geometry.specs.declared.Point.{Point}

infixl 65 ◌⊞◌
infixl 65 ◌⊟◌
infixl 70 ◌⊠◌
infixl 70 ◌·◌
infixl 70 ◌÷◌
-- ---- f32 and glam's Vec2

abbrev pub sqrt : Float → Float
sqrt x = sqrt_of binary32 x

-- Vec2::new, and Vec2::ZERO
abbrev pub vec2 : Float → Float → Point
vec2 x y = record { x = x; y = y }

abbrev pub vec2_zero : Point
vec2_zero = vec2 float_zero float_zero

-- p + q, p - q and p * q, by component
abbrev pub ◌⊞◌ : Point → Point → Point
p ⊞ q = vec2 (p.x ⊕ q.x) (p.y ⊕ q.y)

abbrev pub ◌⊟◌ : Point → Point → Point
p ⊟ q = vec2 (p.x ⊖ q.x) (p.y ⊖ q.y)

abbrev pub ◌⊠◌ : Point → Point → Point
p ⊠ q = vec2 (p.x ⊗ q.x) (p.y ⊗ q.y)

-- p * k and p / k, for a number k
abbrev pub ◌·◌ : Point → Float → Point
p · k = vec2 (p.x ⊗ k) (p.y ⊗ k)

abbrev pub ◌÷◌ : Point → Float → Point
p ÷ k = vec2 (p.x ⊘ k) (p.y ⊘ k)

-- length, normalize, is_finite
abbrev pub vec2_length : Point → Float
vec2_length p = sqrt (p.x ⊗ p.x ⊕ p.y ⊗ p.y)

abbrev pub vec2_normalize : Point → Point
vec2_normalize p = p · (one ⊘ vec2_length p)

abbrev pub vec2_is_finite : Point → Bool
vec2_is_finite p = finite p.x && finite p.y

-- ---- the builder

-- the verbs by their numbers: 0 move, 1 line, 2 quad, 3 cubic, 4 close
pub record PathBuilder : Type 0 where
  pub verbs : List ℕ
  pub points : List Point
  pub subpath_start : Option Point
  pub current : Option Point

-- PathBuilder::new
abbrev pub new_builder : PathBuilder
new_builder = record { verbs = []; points = []; subpath_start = None; current = None }

-- Vec::is_empty
abbrev pub is_empty {ℓ} : {A : Type ℓ} → List A → Bool
is_empty [] = true
is_empty (x ∷ xs) = false

unfoldable pub ensure_started : PathBuilder → PathBuilder
ensure_started b =
    if is_empty b.verbs
    then record {
      verbs = b.verbs ++ 0 ∷ [];
      points = b.points ++ vec2_zero ∷ [];
      subpath_start = Some vec2_zero;
      current = Some vec2_zero;
    }
    else b

unfoldable pub move_to : PathBuilder → Point → PathBuilder
move_to b p = record {
  verbs = b.verbs ++ 0 ∷ [];
  points = b.points ++ p ∷ [];
  subpath_start = Some p;
  current = Some p;
}

unfoldable pub line_to : PathBuilder → Point → PathBuilder
line_to b p =
    let b1 = ensure_started b in
    record b1 { verbs = b1.verbs ++ 1 ∷ []; points = b1.points ++ p ∷ []; current = Some p }

unfoldable pub quad_to : PathBuilder → Point → Point → PathBuilder
quad_to b ctrl to =
    let b1 = ensure_started b in
    record b1 { verbs = b1.verbs ++ 2 ∷ []; points = b1.points ++ ctrl ∷ to ∷ []; current = Some to }

unfoldable pub cubic_to : PathBuilder → Point → Point → Point → PathBuilder
cubic_to b c0 c1 to =
    let b1 = ensure_started b in
    record b1 { verbs = b1.verbs ++ 3 ∷ []; points = b1.points ++ c0 ∷ c1 ∷ to ∷ []; current = Some to }

unfoldable pub close : PathBuilder → PathBuilder
close b =
    if is_empty b.verbs then b else record b { verbs = b.verbs ++ 4 ∷ []; current = b.subpath_start }

-- ---- a conic

-- NEAR_ONE, MAX_DEPTH and RELATIVE_ERROR
abbrev pub near_one : Float
near_one = of_bits binary32 0x3a83_126f  -- 1e-3

abbrev pub max_depth : ℕ
max_depth = 6

abbrev pub relative_error : Float
relative_error = of_bits binary32 0x3a83_126f  -- 1e-3

-- push_conic. The first argument bounds the calls in each other for the definition's sake alone: every bound above
-- the depths still to come gives the same.
unfoldable pub push_conic : ℕ → PathBuilder → Point → Point → Point → Float → ℕ → PathBuilder
push_conic zero b from ctrl to weight depth = b
push_conic (suc bound) b from ctrl to weight depth =
    if le (abs_of (weight ⊖ one)) near_one || nat_le max_depth depth then quad_to b ctrl to
    else (let conic_mid = (from ⊞ ctrl · (two ⊗ weight) ⊞ to) ÷ (two ⊗ (one ⊕ weight)) in
    let quad_mid = (from ⊞ ctrl · two ⊞ to) · quarter in
    let chord = vec2_length (to ⊟ from) in
    if lt float_zero chord && le (vec2_length (conic_mid ⊟ quad_mid)) (relative_error ⊗ chord) then quad_to b ctrl to
    else (let scale = one ⊘ (one ⊕ weight) in
    let left_ctrl = (from ⊞ ctrl · weight) · scale in
    let right_ctrl = (ctrl · weight ⊞ to) · scale in
    let mid = (from ⊞ ctrl · (two ⊗ weight) ⊞ to) · (half ⊗ scale) in
    let split_weight = sqrt ((one ⊕ weight) ⊗ half) in
    let b1 = push_conic bound b from left_ctrl mid split_weight (suc depth) in
    push_conic bound b1 mid right_ctrl to split_weight (suc depth)))

unfoldable pub conic_to : PathBuilder → Point → Point → Float → PathBuilder
conic_to b ctrl to weight =
    let b1 = ensure_started b in
    let from = unwrap_or b1.current ctrl in
    if not (finite weight) || le weight float_zero || not (vec2_is_finite ctrl) || not (vec2_is_finite to)
    then line_to b1 to
    else push_conic 7 b1 from ctrl to weight 0
