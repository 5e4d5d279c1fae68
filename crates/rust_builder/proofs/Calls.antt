-- Each call of the Rust's builder adds the elements that the call is said to add.
use mathlib.Core.Path.{◌≡◌, refl, sym, ap, subst, ◌∙◌}
use mathlib.Core.List.{List, [], ◌∷◌, ◌++◌, append-nil, flatten}
use mathlib.Core.Bool.{Bool, true, false, cond}
use lib.Dec.{lit≤}
use lib.Ieee.{Float}
use Rattle.geometry.specs.declared.Point.{Point}
use Rattle.geometry.specs.Point.{finite_point}
use Rattle.conic.specs.declared.Conic.{Conic}
use Rattle.conic.specs.declared.Lowered.TheVariants as lowered
use Rattle.conic.specs.Conic.{is_line, lower_of}
use Rattle.stream.specs.declared.Element.{Element}
use Rattle.stream.specs.declared.Element.TheVariants.{Move, Line, Quad, Cubic}
use Rattle.stream.specs.Stream.{origin, start_after, pen_after, start_of, pen_of, verb_of, points_of, bytes_of}
use Rattle.conic_writer.specs.Entries.{Entry, plain, elements_of, lowered_of}
use Rattle.conic_writer.proofs.Entries.{elements_append}
use Rattle.calls.specs.declared.Call.{Call}
use Rattle.calls.specs.declared.Call.TheVariants as call
use Rattle.calls.specs.Calls.{opening, conic_from, entries_of}
use Rattle.shape.specs.declared.RoundSuperellipse.{RoundSuperellipse}
use Rattle.outline_corners.specs.Calls.{calls_in, outline_of, outline_calls}
use Rattle.outline_need.specs.Entries.{entries_along, outline_entries}
use Rattle.std.specs.Prelude.{unwrap_or}
use Rattle.rust_builder.specs.PathBuilder.{PathBuilder, is_empty, ensure_started, move_to, line_to, quad_to, cubic_to, close, push_conic, conic_to}
use Rattle.rust_builder.specs.AddTo.{add_to}
use Rattle.rust_builder.proofs.Mirrors.{Mirrors, opening_move, with_segment, some_append, some-opening, mirrors_then, mirrors_move, mirrors_segment, mirrors_line, mirrors_close, mirrors_started}
use Rattle.rust_builder.proofs.Conics.{Behind, mirrors_halved}
use Rattle.rust_builder.proofs.Outline.{after, after_all, add_to-is}

-- ---- past the opening move

opening-is : (t : Bool) (es : List Entry) → opening_move t ++ elements_of es ≡ elements_of (opening t ++ es)
unfolding elements_of
opening-is true es = refl
opening-is false es = refl

-- the pen of a started builder
pen-opening : (t : Bool) (s q : Point) → pen_after s q (opening_move t) ≡ cond t origin q
unfolding pen_after
pen-opening true s q = refl
pen-opening false s q = refl

module _ (ks : List Element) {s q : Point} {b : PathBuilder} (h : Mirrors ks s q b) where
  abbrev o : List Element
  o = opening_move (is_empty ks)

  past-opening : (es : List Entry) (d : PathBuilder) → Behind (ks ++ o) (start_after s o) (pen_after s q o) (elements_of es) d → Behind ks s q (elements_of (opening (is_empty ks) ++ es)) d
  past-opening es d g = subst (λ (js : List Element). Behind ks s q js d) (opening-is (is_empty ks) es) (mirrors_then ks o (elements_of es) s q d g)

  -- a line, a quad or a cubic
  past-segment : (k : Element) (to : Point) → ((p : Point) → start_of p k ≡ p) → ((p : Point) → pen_of p k ≡ to)
      → Behind ks s q (elements_of (opening (is_empty ks) ++ plain k ∷ [])) (with_segment (ensure_started b) (verb_of k) (points_of k) to)
  unfolding elements_of
  past-segment k to es ep = past-opening (plain k ∷ []) _ (mirrors_segment k to (es _) (ep _) (mirrors_started ks h) (some-opening ks))

  -- a conic, line or curve
  past-conic : (c : Conic) (t : Bool) → Behind ks s q (elements_of (opening (is_empty ks) ++ lowered_of (cond t (lowered.Line c.to) (lowered.Curve c)))) (cond t (line_to (ensure_started b) c.to) (push_conic 7 (ensure_started b) c.from c.ctrl c.to c.weight 0))
  unfolding lowered_of elements_of
  past-conic c true = past-opening (plain (Line c.to) ∷ []) _ (mirrors_line (mirrors_started ks h) (some-opening ks) c.to)
  past-conic c false = past-opening (lowered_of (lowered.Curve c)) _ (mirrors_halved 7 6 0 c 0 (ks ++ o) (start_after s o) (pen_after s q o) (ensure_started b) refl (lit≤ tt) (mirrors_started ks h) (some-opening ks))

  conic-from : (ctrl : Point) → unwrap_or (ensure_started b).current ctrl ≡ cond (is_empty ks) origin q
  conic-from ctrl = ap (λ (x : _). unwrap_or x ctrl) ((mirrors_started ks h).marks (some-opening ks)).current ∙ pen-opening (is_empty ks) s q

  conic-call : (ctrl to : Point) (w : Float) → Behind ks s q (elements_of (opening (is_empty ks) ++ lowered_of (lower_of (conic_from (is_empty ks) q ctrl to w)))) (conic_to b ctrl to w)
  unfolding conic_to lower_of is_line finite_point
  conic-call ctrl to w =
      rw (conic-from ctrl) (past-conic (conic_from (is_empty ks) q ctrl to w) (is_line (conic_from (is_empty ks) q ctrl to w)))

-- ---- the six calls

closed_none : {s q : Point} {b : PathBuilder} → Mirrors [] s q b → close b ≡ b
unfolding close bytes_of
closed_none {b = b} h = rw (ap is_empty h.verbs)

closed_go : (ks : List Element) {s q : Point} {b : PathBuilder} → Mirrors ks s q b → Behind ks s q (elements_of (entries_of (is_empty ks) q call.Close)) (close b)
unfolding entries_of elements_of start_after pen_after
closed_go [] {s} {q} {b} h = subst (λ (d : PathBuilder). Mirrors [] s q d) (sym (closed_none h)) h
closed_go (k ∷ ks) h = mirrors_close h refl

pub call_mirrors : (ks : List Element) {s q : Point} {b : PathBuilder} (c : Call) → Mirrors ks s q b → Behind ks s q (elements_of (entries_of (is_empty ks) q c)) (after b c)
unfolding after entries_of elements_of line_to quad_to cubic_to
call_mirrors ks (call.MoveTo p) h = mirrors_move p h
call_mirrors ks (call.LineTo p) h = past-segment ks h (Line p) p (λ x. refl) (λ x. refl)
call_mirrors ks (call.QuadTo ctrl to) h = past-segment ks h (Quad ctrl to) to (λ x. refl) (λ x. refl)
call_mirrors ks (call.ConicTo ctrl to w) h = conic-call ks h ctrl to w
call_mirrors ks (call.CubicTo c0 c1 to) h = past-segment ks h (Cubic c0 c1 to) to (λ x. refl) (λ x. refl)
call_mirrors ks call.Close h = closed_go ks h

-- ---- an outline

behind_none : (ks : List Element) {s q : Point} {b : PathBuilder} → Mirrors ks s q b → Behind ks s q (elements_of []) b
unfolding elements_of start_after pen_after
behind_none ks {s} {q} {b} h = subst (λ (l : List Element). Mirrors l s q b) (sym (append-nil ks)) h

some-last : (ks : List Element) (k : Element) → is_empty (ks ++ k ∷ []) ≡ false
some-last [] k = refl
some-last (j ∷ ks) k = refl

-- calls where there are elements
along : (ks : List Element) {s q : Point} {b : PathBuilder} (cs : List Call) → Mirrors ks s q b → is_empty ks ≡ false → Behind ks s q (elements_of (entries_along s q cs)) (after_all b cs)
unfolding after_all entries_along
along ks {s} {q} {b} [] h e = behind_none ks h
along ks {s} {q} {b} (c ∷ cs) h e =
    let es = entries_of false q c in
    let js = elements_of es in
    let g : Behind ks s q js (after b c) = subst (λ (t : Bool). Behind ks s q (elements_of (entries_of t q c)) (after b c)) e (call_mirrors ks c h) in
    let rest = entries_along (start_after s js) (pen_after s q js) cs in
    subst (λ (is : List Element). Behind ks s q is (after_all (after b c) cs)) (sym (elements_append es rest))
    (mirrors_then ks js (elements_of rest) s q _ (along (ks ++ js) cs g (some_append ks js e)))

outline_go : (ks : List Element) {s q : Point} {b : PathBuilder} (shape : RoundSuperellipse) → Mirrors ks s q b → Behind ks s q (elements_of (outline_entries shape)) (after_all b (outline_calls shape))
unfolding outline_entries outline_calls calls_in after_all after entries_along entries_of elements_of start_after pen_after
outline_go ks {s} {q} {b} shape h =
    let d = outline_of shape in
    let a = d.start in
    let cs = flatten d.corners ++ call.LineTo a ∷ call.Close ∷ [] in
    mirrors_then ks (Move a ∷ []) (elements_of (entries_along a a cs)) s q (after_all (move_to b a) cs) (along (ks ++ Move a ∷ []) cs (mirrors_move a h) (some-last ks (Move a)))

pub outline_mirrors : (ks : List Element) {s q : Point} {b : PathBuilder} (shape : RoundSuperellipse) → Mirrors ks s q b → Behind ks s q (elements_of (outline_entries shape)) (add_to shape b)
outline_mirrors ks {s} {q} {b} shape h = subst (Behind ks s q (elements_of (outline_entries shape))) (sym (add_to-is shape b)) (outline_go ks shape h)
