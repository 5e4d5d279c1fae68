-- What is added to a path: elements, and for the quads of a conic the pieces that halving left, each with its
-- span. Definitions only.
use Rattle.std.specs.Prelude.{◌≡◌, List, [], ◌∷◌, map, true, false, ℕ, ◌+◌, ◌*◌}
use Rattle.geometry.specs.declared.Point.{Point}
use Rattle.conic.specs.declared.Conic.{Conic}
use Rattle.conic.specs.declared.Lowered.{Lowered}
use Rattle.conic.specs.declared.Lowered.TheVariants as lowered
use Rattle.conic.specs.Conic.{is_line}
use Rattle.conic.specs.Halving.{Piece, pieces_of, word_of}
use Rattle.conic.specs.Spans.{WholeConic}
use Rattle.stream.specs.declared.Builder.{Builder}
use Rattle.stream.specs.declared.Element.{Element}
use Rattle.conic_writer.specs.declared.Written.{Written}
use Rattle.stream.specs.declared.Element.TheVariants.{Line, Quad}

-- an element by itself, or as the quad of a conic's piece, with its span
pub data Entry : Type 0 where
  plain : Element → Entry
  piece : Piece → Entry

abbrev pub element_of : Entry → Element
element_of (plain k) = k
element_of (piece p) = Quad p.quad.ctrl p.quad.to

unfoldable pub elements_of : List Entry → List Element
elements_of [] = []
elements_of (e ∷ es) = element_of e ∷ elements_of es

-- the quads of a conic's pieces
abbrev pub quads_of : List Piece → List Element
quads_of ps = elements_of (map piece ps)

-- the pieces among the entries, and the joint word that marks where they start: 0 where there are none
abbrev pub cons_piece : Entry → List Piece → List Piece
cons_piece (plain k) ps = ps
cons_piece (piece p) ps = p ∷ ps

unfoldable pub pieces_in : List Entry → List Piece
pieces_in [] = []
pieces_in (e ∷ es) = cons_piece e (pieces_in es)

abbrev pub joint_word : List Entry → ℕ
joint_word es = word_of (pieces_in es)

-- the record after what is no conic: it has no joint word
abbrev pub plainly_written : Builder → Written
plainly_written b = record { builder = b; word = 0 }

-- a conic as the line or the pieces that it is lowered to
unfoldable pub lowered_of : Lowered → List Entry
lowered_of (lowered.Line p) = plain (Line p) ∷ []
lowered_of (lowered.Curve c) = map piece (pieces_of c)

-- the record behind n quads, the last of which ends at p
abbrev pub after_quads : Builder → ℕ → Point → Builder
after_quads b n p = record b { verbs = b.verbs + n; points = b.points + 2 * n; pen = p }

-- a conic's entries and its joint word: one line to the target and 0, or the 1 to 64 quads of the halving and the
-- starts of their spans (docs/SPECIFICATION.md, "Conics, spans and joint words")
pub data LineOrQuads (c : Conic) : List Entry → ℕ → Type 0 where
  one_line : is_line c ≡ true → LineOrQuads c (plain (Line c.to) ∷ []) 0
  quads : is_line c ≡ false → WholeConic c (pieces_of c)
      → LineOrQuads c (map piece (pieces_of c)) (word_of (pieces_of c))
