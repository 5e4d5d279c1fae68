-- What a corner adds, what four corners and a whole outline add, and how much.
use mathlib.Core.Path.{◌≡◌, refl, sym, ap, subst, ◌∙◌}
use mathlib.Core.List.{List, [], ◌∷◌, ◌++◌, map, flatten}
use mathlib.Core.Bool.{Bool, true, false, cond}
use Prim.Native.Nat.{ℕ, ◌+◌, ◌*◌, ◌≤◌}
use native.Mathlib.Omega.{arith}
use lib.Dec.{lit≤}
use lib.ListN.{length, length-append}
use lib.Ieee.{Float}
use Rattle.geometry.specs.declared.Point.{Point}
use Rattle.conic.specs.declared.Conic.{Conic}
use Rattle.conic.specs.Conic.{lower_of}
use Rattle.conic.specs.Halving.{pieces_of}
use Rattle.stream.specs.declared.Element.TheVariants.{Move, Line, Cubic, Close}
use Rattle.stream.specs.declared.Need.{Need}
use Rattle.stream.specs.Stream.{origin, sizes_of, need_of}
use Rattle.stream.proofs.Pushed.{sizes_append}
use Rattle.conic_writer.specs.Entries.{Entry, plain, elements_of, lowered_of, LineOrQuads, one_line, quads}
use Rattle.conic_writer.proofs.Entries.{elements_append, quads-length, quads-sizes, line_or_quads}
use Rattle.calls.specs.declared.Call.{Call}
use Rattle.calls.specs.declared.Call.TheVariants as call
use Rattle.calls.specs.Calls.{entries_of}
use Rattle.quadrant.specs.declared.Quadrant.{Quadrant}
use Rattle.shape.specs.declared.RoundSuperellipse.{RoundSuperellipse}
use Rattle.quadrant.specs.Quadrant.{square_corner}
use Rattle.outline_corners.specs.Corners.{placed_conic, placed_cubic, forwards_calls, backwards_calls, octant_calls, square_calls, round_calls, corner_calls, equal_corners, unequal_corners, corners_of, start_point}
use Rattle.outline_corners.specs.declared.Corner.{Corner}
use Rattle.outline_corners.specs.declared.Corner.TheVariants.{Square, Round}
use Rattle.outline_corners.specs.declared.Outline.{Outline}
use Rattle.outline_corners.specs.Calls.{calls_of, drawing_of, calls_in, outline_of, outline_calls}
use Rattle.outline_need.specs.Entries.{entries_along, Passes, outline_entries}
use Rattle.outline_need.proofs.Passing.{along_one, along_then, passes_line, passes_cubic, passes-conic, passes-join, outline_entries_lem}
use Rattle.outline_need.specs.Parts.{HasSizes, call_of, CornerEntries, square, round, CornersEntries, none, corner, quadrants_of, OutlineEntries}

-- ---- sizes

sized_join : {es ds : List Entry} {v v' p p' w w' q q' : ℕ} → HasSizes es v v' p p' → HasSizes ds w w' q q' → HasSizes (es ++ ds) (v + w) (v' + w') (p + q) (p' + q')
sized_join {es} {ds} {v} {v'} {p} {p'} {w} {w'} {q} {q'} h g =
    let e = elements_append es ds in
    let l = ap length e ∙ length-append (elements_of es) (elements_of ds) in
    let z = ap sizes_of e ∙ sizes_append (elements_of es) (elements_of ds) in
    record {
      least = omega (arith, h.least, g.least);
      most = omega (arith, h.most, g.most);
      least_points = omega (arith, h.least_points, g.least_points);
      most_points = omega (arith, h.most_points, g.most_points);
    }

sized_none : HasSizes [] 0 0 0 0
unfolding elements_of sizes_of
sized_none = record { least = lit≤ tt; most = lit≤ tt; least_points = lit≤ tt; most_points = lit≤ tt }

sized_line : (a : Point) → HasSizes (plain (Line a) ∷ []) 1 1 1 1
unfolding elements_of sizes_of
sized_line a = record { least = lit≤ tt; most = lit≤ tt; least_points = lit≤ tt; most_points = lit≤ tt }

sized_cubic : (a b c : Point) → HasSizes (plain (Cubic a b c) ∷ []) 1 1 3 3
unfolding elements_of sizes_of
sized_cubic a b c = record { least = lit≤ tt; most = lit≤ tt; least_points = lit≤ tt; most_points = lit≤ tt }

sized_conic : {c : Conic} {es : List Entry} {w : ℕ} → LineOrQuads c es w → HasSizes es 1 64 1 128
unfolding elements_of sizes_of
sized_conic (one_line e) = record { least = lit≤ tt; most = lit≤ tt; least_points = lit≤ tt; most_points = lit≤ tt }
sized_conic {c} (quads e w) =
    let n = quads-length (pieces_of c) in
    let m = quads-sizes (pieces_of c) in
    record { least = omega (arith, w.some); most = omega (arith, w.few); least_points = omega (arith, w.some); most_points = omega (arith, w.few) }

-- looser bounds
sized_within : {es : List Entry} {v v' p p' : ℕ} (w w' q q' : ℕ) → HasSizes es v v' p p' → w ≤ v → v' ≤ w' → q ≤ p → p' ≤ q' → HasSizes es w w' q q'
sized_within w w' q q' h a b c d = record { least = omega (arith, h.least, a); most = omega (arith, h.most, b); least_points = omega (arith, h.least_points, c); most_points = omega (arith, h.most_points, d) }

sized_corner : {p q : Point} {t : Bool} {cs : List Call} {es : List Entry} → CornerEntries p t cs es q → HasSizes es 2 258 2 518
sized_corner (square a b) = sized_within 2 258 2 518 (sized_join (sized_line a) (sized_line b)) (lit≤ tt) (lit≤ tt) (lit≤ tt) (lit≤ tt)
sized_corner (round c1 c2 c3 c4 a b c d e f p1 l1 p2 l2 p3 l3 p4 l4) =
    let curves = sized_join (sized_cubic a b c) (sized_join (sized_cubic d e f) (sized_join (sized_conic l3) (sized_conic l4))) in
    sized_within 2 258 2 518 (sized_join (sized_conic l1) (sized_join (sized_conic l2) curves)) (lit≤ tt) (lit≤ tt) (lit≤ tt) (lit≤ tt)

-- ---- a corner's calls

-- what calls add from the pen p on, wherever the start is
record Adds (p : Point) (cs : List Call) (q : Point) (es : List Entry) : Type 0 where
  need : Need
  passes : Passes p cs q need
  along : (s : Point) → entries_along s p cs ≡ es

adds_cons : {p q r : Point} {c : Call} {cs : List Call} {es ds : List Entry} → Adds p (c ∷ []) q es → Adds q cs r ds → Adds p (c ∷ cs) r (es ++ ds)
adds_cons {p} {q} {r} {c} {cs} {es} {ds} h g = record {
  need = record { verbs = h.need.verbs + g.need.verbs; points = h.need.points + g.need.points };
  passes = passes-join p q r (c ∷ []) cs h.need g.need h.passes g.passes;
  along = λ s. along_then h.passes s cs ∙ ap (λ (x : List Entry). x ++ entries_along s q cs) (h.along s) ∙ ap (λ (x : List Entry). es ++ x) (g.along s);
}

adds_line : {p : Point} (a : Point) → Adds p (call.LineTo a ∷ []) a (plain (Line a) ∷ [])
unfolding entries_of
adds_line {p} a = record { need = record { verbs = 1; points = 1 }; passes = passes_line p a; along = λ s. along_one s p (call.LineTo a) }

adds_cubic : {p : Point} (a b c : Point) → Adds p (call.CubicTo a b c ∷ []) c (plain (Cubic a b c) ∷ [])
unfolding entries_of
adds_cubic {p} a b c = record { need = record { verbs = 1; points = 3 }; passes = passes_cubic p a b c; along = λ s. along_one s p (call.CubicTo a b c) }

adds_conic : (c : Conic) → Adds c.from (call_of c ∷ []) c.to (lowered_of (lower_of c))
unfolding entries_of
adds_conic c = record {
  need = need_of (elements_of (lowered_of (lower_of c)));
  passes = passes-conic c.from c.ctrl c.to c.weight (need_of (elements_of (lowered_of (lower_of c)))) refl;
  along = λ s. along_one s c.from (call_of c);
}

-- a corner: what it adds, and that these are its parts
record Turns (p : Point) (t : Bool) (cs : List Call) : Type 0 where
  end : Point
  entries : List Entry
  adds : Adds p cs end entries
  parts : CornerEntries p t cs entries end

turns_square : (p a b : Point) → Turns p true (call.LineTo a ∷ call.LineTo b ∷ [])
turns_square p a b = record { end = b; entries = plain (Line a) ∷ plain (Line b) ∷ []; adds = adds_cons (adds_line a) (adds_line b); parts = square a b }

turns_round : (c1 c2 c3 c4 : Conic) (a b c d e f : Point) → c2.from ≡ c1.to → c3.from ≡ f → c4.from ≡ c3.to
    → Turns c1.from false (call_of c1 ∷ call_of c2 ∷ call.CubicTo a b c ∷ call.CubicTo d e f ∷ call_of c3 ∷ call_of c4 ∷ [])
turns_round c1 c2 c3 c4 a b c d e f p2 p3 p4 = record {
  end = c4.to;
  entries = lowered_of (lower_of c1) ++ (lowered_of (lower_of c2) ++ (plain (Cubic a b c) ∷ plain (Cubic d e f) ∷ (lowered_of (lower_of c3) ++ lowered_of (lower_of c4))));
  adds =
      let last = subst (λ (x : Point). Adds x (call_of c4 ∷ []) c4.to (lowered_of (lower_of c4))) p4 (adds_conic c4) in
      let third = subst (λ (x : Point). Adds x (call_of c3 ∷ []) c3.to (lowered_of (lower_of c3))) p3 (adds_conic c3) in
      let second = subst (λ (x : Point). Adds x (call_of c2 ∷ []) c2.to (lowered_of (lower_of c2))) p2 (adds_conic c2) in
      adds_cons (adds_conic c1) (adds_cons second (adds_cons (adds_cubic a b c) (adds_cons (adds_cubic d e f) (adds_cons third last))));
  parts = round c1 c2 c3 c4 a b c d e f refl (line_or_quads c1) p2 (line_or_quads c2) p3 (line_or_quads c3) p4 (line_or_quads c4);
}

abbrev conic : Point → Point → Point → Float → Conic
conic p a b w = record { from = p; ctrl = a; to = b; weight = w }

-- from the pen p on
turns_six : (p a1 b1 : Point) (w1 : Float) (a2 b2 : Point) (w2 : Float) (a b c d e f a3 b3 : Point) (w3 : Float) (a4 b4 : Point) (w4 : Float)
    → Turns p false (call.ConicTo a1 b1 w1 ∷ call.ConicTo a2 b2 w2 ∷ call.CubicTo a b c ∷ call.CubicTo d e f ∷ call.ConicTo a3 b3 w3 ∷ call.ConicTo a4 b4 w4 ∷ [])
turns_six p a1 b1 w1 a2 b2 w2 a b c d e f a3 b3 w3 a4 b4 w4 =
    turns_round (conic p a1 b1 w1) (conic b1 a2 b2 w2) (conic f a3 b3 w3) (conic b3 a4 b4 w4) a b c d e f refl refl refl

turns_reversed : (p : Point) (param : Quadrant) (reverse : Bool) (scale : Point) → Turns p false (round_calls param reverse scale)
unfolding round_calls octant_calls forwards_calls backwards_calls placed_conic placed_cubic
turns_reversed p param true scale = turns_six p _ _ _ _ _ _ _ _ _ _ _ _ _ _ _ _ _ _
turns_reversed p param false scale = turns_six p _ _ _ _ _ _ _ _ _ _ _ _ _ _ _ _ _ _

turns_go : (p : Point) (param : Quadrant) (reverse : Bool) (scale : Point) (t : Bool) → Turns p t (cond t (square_calls param reverse scale) (round_calls param reverse scale))
unfolding square_calls
turns_go p param reverse scale true = turns_square p _ _
turns_go p param reverse scale false = turns_reversed p param reverse scale

turns : (p : Point) (param : Quadrant) (reverse : Bool) (sign : Point) → Turns p (square_corner param) (corner_calls param reverse sign)
unfolding corner_calls
turns p param reverse sign = turns_go p param reverse _ (square_corner param)

-- ---- the corners

record Around (p : Point) (ts : List Bool) (css : List (List Call)) (n : ℕ) : Type 0 where
  entries : List (List Entry)
  parts : CornersEntries p ts css entries
  along : (s : Point) → entries_along s p (flatten css) ≡ flatten entries
  sizes : HasSizes (flatten entries) (2 * n) (258 * n) (2 * n) (518 * n)

around_none : (p : Point) → Around p [] [] 0
unfolding entries_along flatten
around_none p = record { entries = []; parts = none; along = λ s. refl; sizes = sized_none }

around_cons : {p : Point} {t : Bool} {ts : List Bool} {cs : List Call} {css : List (List Call)} {n : ℕ} → Turns p t cs → ((q : Point) → Around q ts css n) → Around p (t ∷ ts) (cs ∷ css) (1 + n)
unfolding flatten
around_cons {css = css} {n = n} h f =
    let g = f h.end in
    record {
      entries = h.entries ∷ g.entries;
      parts = corner h.parts g.parts;
      along = λ s. along_then h.adds.passes s (flatten css) ∙ ap (λ (x : List Entry). x ++ entries_along s h.end (flatten css)) (h.adds.along s) ∙ ap (λ (x : List Entry). h.entries ++ x) (g.along s);
      sizes = sized_within (2 * (1 + n)) (258 * (1 + n)) (2 * (1 + n)) (518 * (1 + n)) (sized_join (sized_corner h.parts) g.sizes) (omega arith) (omega arith) (omega arith) (omega arith);
    }

-- four corners, whatever they are
around_four : {t1 t2 t3 t4 : Bool} {c1 c2 c3 c4 : List Call} → ((p : Point) → Turns p t1 c1) → ((p : Point) → Turns p t2 c2) → ((p : Point) → Turns p t3 c3) → ((p : Point) → Turns p t4 c4)
    → (p : Point) → Around p (t1 ∷ t2 ∷ t3 ∷ t4 ∷ []) (c1 ∷ c2 ∷ c3 ∷ c4 ∷ []) 4
around_four f1 f2 f3 f4 p = around_cons (f1 p) (λ q. around_cons (f2 q) (λ r. around_cons (f3 r) (λ s. around_cons (f4 s) around_none)))

around_go : (p : Point) (shape : RoundSuperellipse) (same : Bool)
    → let tr = shape.top_right in
    Around p (map square_corner (cond same (tr ∷ tr ∷ tr ∷ tr ∷ []) (tr ∷ shape.bottom_right ∷ shape.bottom_left ∷ shape.top_left ∷ []))) (cond same (equal_corners tr) (unequal_corners shape)) 4
unfolding equal_corners unequal_corners
around_go p shape true = around_four (λ q. turns q _ false _) (λ q. turns q _ true _) (λ q. turns q _ false _) (λ q. turns q _ true _) p
around_go p shape false = around_four (λ q. turns q _ false _) (λ q. turns q _ true _) (λ q. turns q _ false _) (λ q. turns q _ true _) p

around : (p : Point) (shape : RoundSuperellipse) → Around p (map square_corner (quadrants_of shape)) (corners_of shape) 4
unfolding corners_of
around p shape = around_go p shape shape.all_corners_same

-- ---- the outline

sized_ends : (a : Point) → HasSizes (plain (Line a) ∷ plain Close ∷ []) 2 2 1 1
unfolding elements_of sizes_of
sized_ends a = record { least = lit≤ tt; most = lit≤ tt; least_points = lit≤ tt; most_points = lit≤ tt }

sized_move : (a : Point) → HasSizes (plain (Move a) ∷ []) 1 1 1 1
unfolding elements_of sizes_of
sized_move a = record { least = lit≤ tt; most = lit≤ tt; least_points = lit≤ tt; most_points = lit≤ tt }

-- a move, corners, a line to the move's point and a close
module _ (a : Point) {ts : List Bool} {css : List (List Call)} (h : Around a ts css 4) where
  abbrev calls : List Call
  calls = call.MoveTo a ∷ flatten css ++ call.LineTo a ∷ call.Close ∷ []

  closed_whole : entries_along origin origin calls ≡ plain (Move a) ∷ flatten h.entries ++ plain (Line a) ∷ plain Close ∷ []
  closed_whole = outline_entries_lem a (flatten css) ∙ ap (λ (es : List Entry). plain (Move a) ∷ es ++ plain (Line a) ∷ plain Close ∷ []) (h.along a)

  closed_sizes : HasSizes (entries_along origin origin calls) 11 1035 10 2074
  closed_sizes = subst (λ (es : List Entry). HasSizes es 11 1035 10 2074) (sym closed_whole) (sized_join (sized_move a) (sized_join h.sizes (sized_ends a)))

pub outline_parts : (shape : RoundSuperellipse) → OutlineEntries shape (outline_entries shape)
unfolding outline_entries outline_calls calls_in outline_of
outline_parts shape =
    let a = start_point shape.top_right in
    let h = around a shape in
    record { corners = h.entries; each_corner = h.parts; whole = closed_whole a h; sizes = closed_sizes a h }

-- ---- whatever is drawn

abbrev is_square : Corner → Bool
is_square (Square p q) = true
is_square (Round r) = false

turns_corner : (p : Point) (c : Corner) → Turns p (is_square c) (calls_of c)
turns_corner p (Square a b) = turns_square p a b
turns_corner p (Round r) = turns_six p _ _ _ _ _ _ _ _ _ _ _ _ _ _ _ _ _ _

pub outline-sizes : (o : Outline) → HasSizes (entries_along origin origin (calls_in (drawing_of o))) 11 1035 10 2074
unfolding calls_in
outline-sizes o = closed_sizes o.start (around_four (λ q. turns_corner q o.corners.first) (λ q. turns_corner q o.corners.second) (λ q. turns_corner q o.corners.third) (λ q. turns_corner q o.corners.fourth) o.start)
