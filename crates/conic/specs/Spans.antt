-- The pieces of a conic: their number, their spans, their joint word and their end (docs/SPECIFICATION.md,
-- "Conics, spans and joint words"). Definitions only.
use Rattle.std.specs.Prelude.{◌≡◌, List, [], ◌∷◌, Bool, false, ◌||◌, ℕ, ◌+◌, ◌*◌, ◌/◌, ◌%◌, ◌^◌, ◌≤◌, ◌<◌, length, if◌then◌else◌, ◌==◌}
use Rattle.geometry.specs.declared.Point.{Point}
use Rattle.conic.specs.declared.Conic.{Conic}
use Rattle.conic.specs.Halving.{Span, Piece, word_of}

-- the spans tile a to b in order: each starts where the one before ends
unfoldable pub Tiles : ℕ → List Piece → ℕ → Type 0
Tiles a [] b = a ≡ b
Tiles a (p ∷ ps) b = (p.span.start ≡ a) × Tiles (a + p.span.size) ps b

-- a span is a power of two long and starts at a multiple of its length
pub record Dyadic (s : Span) : Type 0 where
  pub exponent : ℕ
  pub multiple : ℕ
  pub power : s.size ≡ 2 ^ exponent
  pub aligned : s.start ≡ multiple * 2 ^ exponent

unfoldable pub AllDyadic : List Piece → Type 0
AllDyadic [] = Unit {0}
AllDyadic (p ∷ ps) = Dyadic p.span × AllDyadic ps

-- bit k of a word, and whether a quad starts at k
abbrev pub bit_of : ℕ → ℕ → ℕ
bit_of w k = (w / 2 ^ k) % 2

unfoldable pub starts_at : ℕ → List Piece → Bool
starts_at k [] = false
starts_at k (p ∷ ps) = k == p.span.start || starts_at k ps

-- the target of the last quad, or p where there is none
unfoldable pub last_target : Point → List Piece → Point
last_target p [] = p
last_target p (q ∷ qs) = last_target q.quad.to qs

-- 1 to 64 quads whose spans tile 0 to 64; the joint word marks exactly the spans' starts and is not 0; the last
-- quad ends on the target
pub record WholeConic (c : Conic) (ps : List Piece) : Type 0 where
  pub some : 1 ≤ length ps
  pub few : length ps ≤ 64
  pub tiles : Tiles 0 ps 64
  pub dyadic : AllDyadic ps
  pub marks : (k : ℕ) → bit_of (word_of ps) k ≡ (if starts_at k ps then 1 else 0)
  pub marked : 0 < word_of ps
  pub ends : last_target c.from ps ≡ c.to
