-- The quads that the Rust's push_conic leaves of a conic, each with its span: the whole conic is 0 to 64, and a
-- half of a conic has half its span. Definitions only.
use Rattle.std.specs.Prelude.{List, [], ◌∷◌, ◌++◌, Bool, true, ℕ, zero, suc, ◌+◌, ◌^◌, length, if◌then◌else◌}
use Rattle.geometry.specs.declared.Point.{Point}
use Rattle.conic.specs.declared.Conic.{Conic}
use Rattle.conic.specs.Conic.{flat_of, split_of}

pub record Quad : Type 0 where
  pub ctrl : Point
  pub to : Point

pub record Span : Type 0 where
  pub start : ℕ
  pub size : ℕ

-- a quad, and the stretch of the conic that it stands for
pub record Piece : Type 0 where
  pub quad : Quad
  pub span : Span

abbrev pub piece_of : Conic → ℕ → ℕ → Piece
piece_of c start size = record {
  quad = record { ctrl = c.ctrl; to = c.to };
  span = record { start = start; size = size };
}

-- a conic that may be halved `depth` times is drawn as one quad: it is flat, or may not be halved any more
unfoldable pub is_one_quad : ℕ → Conic → Bool
is_one_quad zero c = true
is_one_quad (suc depth) c = flat_of c

-- what at most `depth` halvings leave of c, whose span is 2 ^ depth long from `start` on
unfoldable pub halve : ℕ → Conic → ℕ → List Piece
halve zero c start = piece_of c start 1 ∷ []
halve (suc depth) c start =
    if flat_of c then piece_of c start (2 ^ suc depth) ∷ []
    else (let h = split_of c in halve depth h.left start ++ halve depth h.right (start + 2 ^ depth))

-- the joint word: bit k where a quad starts at k
unfoldable pub word_of : List Piece → ℕ
word_of [] = 0
word_of (p ∷ ps) = 2 ^ p.span.start + word_of ps

-- the pieces of a whole conic, and their number
abbrev pub pieces_of : Conic → List Piece
pieces_of c = halve 6 c 0

unfoldable pub count_of : Conic → ℕ
count_of c = length (pieces_of c)
