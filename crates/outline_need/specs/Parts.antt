-- The parts of an outline: a move, four corners, a line to the move's point, a close. Definitions only.
use Rattle.std.specs.Prelude.{◌≡◌, Bool, true, false, ℕ, ◌≤◌, length, if◌then◌else◌}
use mathlib.Core.List.{List, [], ◌∷◌, ◌++◌, map, flatten}
use Rattle.geometry.specs.declared.Point.{Point}
use Rattle.conic.specs.declared.Conic.{Conic}
use Rattle.stream.specs.declared.Element.TheVariants.{Move, Line, Cubic, Close}
use Rattle.stream.specs.Stream.{sizes_of}
use Rattle.conic_writer.specs.Entries.{Entry, plain, elements_of, LineOrQuads}
use Rattle.calls.specs.declared.Call.{Call}
use Rattle.calls.specs.declared.Call.TheVariants.{LineTo, ConicTo, CubicTo}
use Rattle.quadrant.specs.declared.Quadrant.{Quadrant}
use Rattle.shape.specs.declared.RoundSuperellipse.{RoundSuperellipse}
use Rattle.quadrant.specs.Quadrant.{square_corner}
use Rattle.outline_corners.specs.Corners.{corners_of, start_point}

-- entries with v to v' verbs and p to p' points
pub record HasSizes (es : List Entry) (v v' p p' : ℕ) : Type 0 where
  pub least : v ≤ length (elements_of es)
  pub most : length (elements_of es) ≤ v'
  pub least_points : p ≤ sizes_of (elements_of es)
  pub most_points : sizes_of (elements_of es) ≤ p'

abbrev pub call_of : Conic → Call
call_of c = ConicTo c.ctrl c.to c.weight

-- the calls of a corner, from the pen p to the pen q, and what they add: two lines where it is square; where it is
-- round two conics and a cubic for the first octant, a cubic and two conics for the second, each conic a line or its
-- quads from where the segment before it ends
pub data CornerEntries (p : Point) : Bool → List Call → List Entry → Point → Type 0 where
  square : (a b : Point) → CornerEntries p true (LineTo a ∷ LineTo b ∷ []) (plain (Line a) ∷ plain (Line b) ∷ []) b
  round : (c1 c2 c3 c4 : Conic) (a b c d e f : Point) {e1 e2 e3 e4 : List Entry} {w1 w2 w3 w4 : ℕ}
      → c1.from ≡ p → LineOrQuads c1 e1 w1
      → c2.from ≡ c1.to → LineOrQuads c2 e2 w2
      → c3.from ≡ f → LineOrQuads c3 e3 w3
      → c4.from ≡ c3.to → LineOrQuads c4 e4 w4
      → CornerEntries p false
      (call_of c1 ∷ call_of c2 ∷ CubicTo a b c ∷ CubicTo d e f ∷ call_of c3 ∷ call_of c4 ∷ [])
      (e1 ++ (e2 ++ (plain (Cubic a b c) ∷ plain (Cubic d e f) ∷ (e3 ++ e4))))
      c4.to

-- corner by corner, each from where the one before it ends, and square where its flag says so
pub data CornersEntries : Point → List Bool → List (List Call) → List (List Entry) → Type 0 where
  none : {p : Point} → CornersEntries p [] [] []
  corner : {p q : Point} {t : Bool} {ts : List Bool}
      {cs : List Call} {css : List (List Call)} {es : List Entry} {ess : List (List Entry)}
      → CornerEntries p t cs es q → CornersEntries q ts css ess → CornersEntries p (t ∷ ts) (cs ∷ css) (es ∷ ess)

-- the quadrants in the order in which they are drawn; the degree test makes each corner square or round
abbrev pub quadrants_of : RoundSuperellipse → List Quadrant
quadrants_of shape =
    let tr = shape.top_right in
    if shape.all_corners_same then tr ∷ tr ∷ tr ∷ tr ∷ []
    else tr ∷ shape.bottom_right ∷ shape.bottom_left ∷ shape.top_left ∷ []

-- the entries of a shape's outline: 11 to 1,035 verbs and 10 to 2,074 points
pub record OutlineEntries (shape : RoundSuperellipse) (es : List Entry) : Type 0 where
  pub corners : List (List Entry)
  pub each_corner : let flags = map square_corner (quadrants_of shape) in
      CornersEntries (start_point shape.top_right) flags (corners_of shape) corners
  pub whole : let start = start_point shape.top_right in
      es ≡ plain (Move start) ∷ flatten corners ++ plain (Line start) ∷ plain Close ∷ []
  pub sizes : HasSizes es 11 1035 10 2074
