-- The Rust's builder after elements: its lists are theirs, and its start and its current point are where they leave them.
use mathlib.Core.Path.{◌≡◌, refl, sym, ap, subst, ◌∙◌}
use mathlib.Core.List.{List, [], ◌∷◌, ◌++◌, append_assoc, append-nil}
use mathlib.Core.Bool.{Bool, true, false}
use Prim.Native.Nat.{ℕ, ◌+◌}
use native.Mathlib.Omega.{arith}
use lib.ListN.{length, length-append}
use lib.Ieee.{Float}
use Rattle.geometry.specs.declared.Point.{Point}
use Rattle.stream.specs.declared.Element.{Element}
use Rattle.stream.specs.declared.Element.TheVariants.{Move, Line, Quad, Close}
use Rattle.stream.specs.Stream.{origin, verb_of, points_of, sizes_of, floats_in, start_of, pen_of, start_after, pen_after, bytes_of, all_floats}
use Rattle.stream.proofs.Lists.{bytes_append, bytes_one}
use Rattle.outline_need.proofs.Along.{start_append, pen_append}
use Rattle.std.specs.Prelude.{Some}
use Rattle.rust_builder.specs.PathBuilder.{PathBuilder, is_empty, ensure_started, move_to, line_to, quad_to, close}

-- ---- the points of a list of elements

unfoldable pub all_points : List Element → List Point
all_points [] = []
all_points (k ∷ ks) = points_of k ++ all_points ks

points_append : (ks js : List Element) → all_points (ks ++ js) ≡ all_points ks ++ all_points js
unfolding all_points
points_append [] js = refl
points_append (k ∷ ks) js = ap (λ (r : List Point). points_of k ++ r) (points_append ks js) ∙ sym (append_assoc (points_of k) (all_points ks) (all_points js))

points-one : (k : Element) → all_points (k ∷ []) ≡ points_of k
unfolding all_points
points-one k = append-nil (points_of k)

pub length-all_points : (ks : List Element) → length (all_points ks) ≡ sizes_of ks
unfolding all_points sizes_of
length-all_points [] = refl
length-all_points (k ∷ ks) = length-append (points_of k) (all_points ks) ∙ ap (λ (n : ℕ). length (points_of k) + n) (length-all_points ks)

floats_in_append : (ps qs : List Point) → floats_in (ps ++ qs) ≡ floats_in ps ++ floats_in qs
floats_in_append [] qs = refl
floats_in_append (p ∷ ps) qs = ap (λ (r : List Float). p.x ∷ p.y ∷ r) (floats_in_append ps qs)

pub floats_of-points : (ks : List Element) → all_floats ks ≡ floats_in (all_points ks)
unfolding all_floats all_points
floats_of-points [] = refl
floats_of-points (k ∷ ks) = ap (λ (r : List Float). floats_in (points_of k) ++ r) (floats_of-points ks) ∙ sym (floats_in_append (points_of k) (all_points ks))

-- ---- a builder that mirrors elements

pub record Marks (s q : Point) (b : PathBuilder) : Type 0 where
  pub start : b.subpath_start ≡ Some s
  pub current : b.current ≡ Some q

-- b holds ks, and where there are any its start is at s and its current point at q
pub record Mirrors (ks : List Element) (s q : Point) (b : PathBuilder) : Type 0 where
  pub verbs : b.verbs ≡ bytes_of ks
  pub points : b.points ≡ all_points ks
  pub marks : is_empty ks ≡ false → Marks s q b

pub none-bytes : (ks : List Element) → is_empty (bytes_of ks) ≡ is_empty ks
unfolding bytes_of
none-bytes [] = refl
none-bytes (k ∷ ks) = refl

pub some_append : (ks js : List Element) → is_empty ks ≡ false → is_empty (ks ++ js) ≡ false
some_append [] js e = let z : ◌≡◌ {A = ℕ} 0 1 = cc in absurd (omega arith)
some_append (k ∷ ks) js e = refl

-- elements and then elements
pub mirrors_then : (ks is js : List Element) (s q : Point) (b : PathBuilder)
    → Mirrors ((ks ++ is) ++ js) (start_after (start_after s is) js) (pen_after (start_after s is) (pen_after s q is) js) b
    → Mirrors (ks ++ (is ++ js)) (start_after s (is ++ js)) (pen_after s q (is ++ js)) b
mirrors_then ks is js s q b h =
    subst (λ (l : List Element). Mirrors l (start_after s (is ++ js)) (pen_after s q (is ++ js)) b) (append_assoc ks is js)
    (subst (λ (x : Point). Mirrors ((ks ++ is) ++ js) x (pen_after s q (is ++ js)) b) (sym (start_append s is js))
    (subst (λ (x : Point). Mirrors ((ks ++ is) ++ js) (start_after (start_after s is) js) x b) (sym (pen_append s q is js)) h))

-- one element more
mirrors_one : (ks : List Element) (k : Element) (s q : Point) (b d : PathBuilder) → Mirrors ks s q b
    → d.verbs ≡ b.verbs ++ verb_of k ∷ [] → d.points ≡ b.points ++ points_of k → Marks (start_of s k) (pen_of s k) d
    → Mirrors (ks ++ k ∷ []) (start_after s (k ∷ [])) (pen_after s q (k ∷ [])) d
unfolding start_after pen_after
mirrors_one ks k s q b d h v p m = record {
  verbs = v ∙ ap (λ (l : List ℕ). l ++ verb_of k ∷ []) h.verbs ∙ ap (λ (l : List ℕ). bytes_of ks ++ l) (sym (bytes_one k)) ∙ sym (bytes_append ks (k ∷ []));
  points = p ∙ ap (λ (l : List Point). l ++ points_of k) h.points ∙ ap (λ (l : List Point). all_points ks ++ l) (sym (points-one k)) ∙ sym (points_append ks (k ∷ []));
  marks = λ e. m;
}

-- ---- the calls that add one element

pub mirrors_move : {ks : List Element} {s q : Point} {b : PathBuilder} (p : Point) → Mirrors ks s q b → Mirrors (ks ++ Move p ∷ []) (start_after s (Move p ∷ [])) (pen_after s q (Move p ∷ [])) (move_to b p)
unfolding move_to
mirrors_move {ks} {s} {q} {b} p h = mirrors_one ks (Move p) s q b _ h refl refl (record { start = refl; current = refl })

-- a started builder stays as it is
started_same : {ks : List Element} {s q : Point} {b : PathBuilder} → Mirrors ks s q b → is_empty ks ≡ false → ensure_started b ≡ b
unfolding ensure_started
started_same {ks} {s} {q} {b} h e = rw (ap is_empty h.verbs ∙ none-bytes ks ∙ e)

-- the builder with a verb and its points, the last of which is to
abbrev pub with_segment : PathBuilder → ℕ → List Point → Point → PathBuilder
with_segment b verb points to =
    record { verbs = b.verbs ++ verb ∷ []; points = b.points ++ points; subpath_start = b.subpath_start; current = Some to }

-- a line, a quad or a cubic, where there are elements
pub mirrors_segment : {ks : List Element} {s q : Point} {b : PathBuilder} (k : Element) (to : Point) → start_of s k ≡ s → pen_of s k ≡ to → Mirrors ks s q b → is_empty ks ≡ false
    → Mirrors (ks ++ k ∷ []) (start_after s (k ∷ [])) (pen_after s q (k ∷ [])) (with_segment b (verb_of k) (points_of k) to)
mirrors_segment {ks} {s} {q} {b} k to es ep h e = mirrors_one ks k s q b _ h refl refl (record { start = (h.marks e).start ∙ ap Some (sym es); current = ap Some (sym ep) })

module _ {ks : List Element} {s q : Point} {b : PathBuilder} (h : Mirrors ks s q b) (e : is_empty ks ≡ false) where
  abbrev Adds : Element → PathBuilder → Type 0
  Adds k d = Mirrors (ks ++ k ∷ []) (start_after s (k ∷ [])) (pen_after s q (k ∷ [])) d

  pub mirrors_line : (p : Point) → Adds (Line p) (line_to b p)
  unfolding line_to
  mirrors_line p = subst (λ (d : PathBuilder). Adds (Line p) (with_segment d 1 (p ∷ []) p)) (sym (started_same h e)) (mirrors_segment (Line p) p refl refl h e)

  pub mirrors_quad : (ctrl to : Point) → Adds (Quad ctrl to) (quad_to b ctrl to)
  unfolding quad_to
  mirrors_quad ctrl to = subst (λ (d : PathBuilder). Adds (Quad ctrl to) (with_segment d 2 (ctrl ∷ to ∷ []) to)) (sym (started_same h e)) (mirrors_segment (Quad ctrl to) to refl refl h e)

  pub mirrors_close : Adds Close (close b)
  unfolding close
  mirrors_close =
      let d : PathBuilder = record { verbs = b.verbs ++ 4 ∷ []; points = b.points; subpath_start = b.subpath_start; current = b.subpath_start } in
      rw (ap is_empty h.verbs ∙ none-bytes ks ∙ e)
      (mirrors_one ks Close s q b d h refl (sym (append-nil b.points)) (record { start = (h.marks e).start; current = (h.marks e).start }))

-- ---- starting

abbrev pub opening_move : Bool → List Element
opening_move true = Move origin ∷ []
opening_move false = []

-- an empty builder is started by a move to (0, 0)
started_none : {s q : Point} {b : PathBuilder} → Mirrors [] s q b → Mirrors (Move origin ∷ []) origin origin (ensure_started b)
unfolding ensure_started bytes_of all_points
started_none {s} {q} {b} h =
    rw (ap is_empty h.verbs) record { verbs = ap (λ (l : List ℕ). l ++ 0 ∷ []) h.verbs; points = ap (λ (l : List Point). l ++ origin ∷ []) h.points; marks = λ e. record { start = refl; current = refl } }

pub mirrors_started : (ks : List Element) {s q : Point} {b : PathBuilder} → Mirrors ks s q b
    → let o = opening_move (is_empty ks) in Mirrors (ks ++ o) (start_after s o) (pen_after s q o) (ensure_started b)
unfolding start_after pen_after
mirrors_started [] h = started_none h
mirrors_started (k ∷ ks) {s} {q} {b} h =
    subst (λ (l : List Element). Mirrors l s q (ensure_started b)) (sym (append-nil (k ∷ ks))) (subst (λ (d : PathBuilder). Mirrors (k ∷ ks) s q d) (sym (started_same h refl)) h)

pub some-opening : (ks : List Element) → is_empty (ks ++ opening_move (is_empty ks)) ≡ false
some-opening [] = refl
some-opening (k ∷ ks) = refl
