-- Numbers, floats and points as a file's bytes hold them, little-endian. A file is the list of its bytes. Definitions
-- only.
use Rattle.std.specs.Prelude.{ℕ, ◌+◌, ◌*◌, List, [], ◌∷◌, ◌++◌, get_or, Float}
use Rattle.std.specs.Float.{binary32}
use Rattle.std.specs.Float.Ieee.{of_bits, to_bits}
use Rattle.std.specs.Int.{w16, w32, to_le_bytes}
use Rattle.geometry.specs.declared.Point.{Point}

-- two bytes, the lower first
unfoldable pub u16_at : List ℕ → ℕ → ℕ
u16_at file at = get_or file at 0 + 256 * get_or file (at + 1) 0

-- four bytes, the lowest first
unfoldable pub u32_at : List ℕ → ℕ → ℕ
u32_at file at = u16_at file at + 65536 * u16_at file (at + 2)

-- a float by its bit pattern; every NaN pattern is the NaN
unfoldable pub f32_at : List ℕ → ℕ → Float
f32_at file at = of_bits binary32 (u32_at file at)

-- x, then y
unfoldable pub point_at : List ℕ → ℕ → Point
point_at file at = record { x = f32_at file at; y = f32_at file (at + 4) }

-- ---- the bytes that are written for them

unfoldable pub u16_bytes : ℕ → List ℕ
u16_bytes n = to_le_bytes w16 n

-- the bit pattern; for the NaN the quiet one with a clear sign
unfoldable pub f32_bytes : Float → List ℕ
f32_bytes x = to_le_bytes w32 (to_bits binary32 x)

unfoldable pub point_bytes : Point → List ℕ
point_bytes p = f32_bytes p.x ++ f32_bytes p.y

unfoldable pub points_bytes : List Point → List ℕ
points_bytes [] = []
points_bytes (p ∷ ps) = point_bytes p ++ points_bytes ps
