-- Laws of lists of entries: their elements, their pieces and their needs.
use mathlib.Core.Path.{◌≡◌, refl, sym, ap, subst, ◌∙◌}
use mathlib.Core.List.{List, [], ◌∷◌, ◌++◌, map}
use mathlib.Core.Bool.{Bool, true, false, cond}
use Prim.Native.Nat.{ℕ, suc, ◌*◌}
use native.Mathlib.Omega.{arith}
use lib.ListN.{length, replicate}
use Rattle.geometry.specs.declared.Point.{Point}
use Rattle.conic.specs.declared.Conic.{Conic}
use Rattle.conic.specs.declared.Lowered.{Lowered}
use Rattle.conic.specs.declared.Lowered.TheVariants as lowered
use Rattle.conic.specs.Conic.{is_line, lower_of, flat_of}
use Rattle.conic.specs.Halving.{Piece, pieces_of, word_of}
use Rattle.conic.specs.Spans.{last_target}
use Rattle.conic.proofs.Halving.{halve_flat}
use Rattle.conic.proofs.Whole.{whole-conic}
use Rattle.stream.specs.declared.Element.{Element}
use Rattle.stream.specs.declared.Element.TheVariants.{Line, Quad}
use Rattle.stream.specs.Stream.{bytes_of, sizes_of, start_after, pen_after}
use Rattle.conic_writer.specs.Entries.{Entry, piece, element_of, elements_of, quads_of, pieces_in, joint_word, lowered_of, LineOrQuads, one_line, quads}

pub elements_append : (es ds : List Entry) → elements_of (es ++ ds) ≡ elements_of es ++ elements_of ds
unfolding elements_of
elements_append [] ds = refl
elements_append (e ∷ es) ds = ap (λ (r : List Element). element_of e ∷ r) (elements_append es ds)

pub map-append {ℓ ℓ'} : {A : Type ℓ} {B : Type ℓ'} (f : A → B) (xs ys : List A) → map f (xs ++ ys) ≡ map f xs ++ map f ys
map-append f [] ys = refl
map-append {B = B} f (x ∷ xs) ys = ap (λ (r : List B). f x ∷ r) (map-append f xs ys)

-- ---- the quads of pieces

pub quads_append : (xs ys : List Piece) → quads_of (xs ++ ys) ≡ quads_of xs ++ quads_of ys
quads_append xs ys = ap elements_of (map-append piece xs ys) ∙ elements_append (map piece xs) (map piece ys)

pub quads-length : (ps : List Piece) → length (quads_of ps) ≡ length ps
unfolding elements_of
quads-length [] = refl
quads-length (p ∷ ps) = ap suc (quads-length ps)

pub quads-sizes : (ps : List Piece) → sizes_of (quads_of ps) ≡ 2 * length ps
unfolding elements_of sizes_of
quads-sizes [] = refl
quads-sizes (p ∷ ps) = omega (arith, quads-sizes ps)

pub quads-bytes : (ps : List Piece) → bytes_of (quads_of ps) ≡ replicate (length ps) 2
unfolding elements_of bytes_of
quads-bytes [] = refl
quads-bytes (p ∷ ps) = ap (λ (r : List ℕ). 2 ∷ r) (quads-bytes ps)

-- they leave the start where it was, and the pen at the last one's target
pub quads-start : (s : Point) (ps : List Piece) → start_after s (quads_of ps) ≡ s
unfolding start_after elements_of
quads-start s [] = refl
quads-start s (q ∷ ps) = quads-start s ps

pub quads-pen : (s p : Point) (ps : List Piece) → pen_after s p (quads_of ps) ≡ last_target p ps
unfolding pen_after elements_of last_target
quads-pen s p [] = refl
quads-pen s p (q ∷ ps) = quads-pen s q.quad.to ps

pub pieces_all : (ps : List Piece) → pieces_in (map piece ps) ≡ ps
unfolding pieces_in
pieces_all [] = refl
pieces_all (p ∷ ps) = ap (λ (r : List Piece). p ∷ r) (pieces_all ps)

-- ---- what a conic is lowered to

pub record LoweredTo (l : Lowered) (ks : List Element) (n m w : ℕ) : Type 0 where
  pub elements : elements_of (lowered_of l) ≡ ks
  pub many : length (elements_of (lowered_of l)) ≡ n
  pub size : sizes_of (elements_of (lowered_of l)) ≡ m
  pub word : joint_word (lowered_of l) ≡ w

pub lowered_line : (l : Lowered) (p : Point) → l ≡ lowered.Line p → LoweredTo l (Line p ∷ []) 1 1 0
unfolding lowered_of elements_of sizes_of pieces_in word_of
lowered_line l p e = subst (λ (x : Lowered). LoweredTo x (Line p ∷ []) 1 1 0) (sym e) record { elements = refl; many = refl; size = refl; word = refl }

pub lowered_curve : (l : Lowered) (c : Conic) → l ≡ lowered.Curve c → LoweredTo l (quads_of (pieces_of c)) (length (pieces_of c)) (2 * length (pieces_of c)) (word_of (pieces_of c))
unfolding lowered_of
lowered_curve l c e =
    let ps = pieces_of c in
    subst (λ (x : Lowered). LoweredTo x (quads_of ps) (length ps) (2 * length ps) (word_of ps)) (sym e)
    record { elements = refl; many = quads-length ps; size = quads-sizes ps; word = ap word_of (pieces_all ps) }

pub lowered_flat : (l : Lowered) (c : Conic) → l ≡ lowered.Curve c → flat_of c ≡ true → LoweredTo l (Quad c.ctrl c.to ∷ []) 1 2 1
unfolding elements_of word_of
lowered_flat l c e f =
    let h = lowered_curve l c e in
    let q = halve_flat 6 c 0 f in
    record { elements = h.elements ∙ ap quads_of q; many = h.many ∙ ap length q; size = h.size ∙ ap (λ (ps : List Piece). 2 * length ps) q; word = h.word ∙ ap word_of q }

line_or_quads_go : (c : Conic) (t : Bool) → is_line c ≡ t → let es = lowered_of (cond t (lowered.Line c.to) (lowered.Curve c)) in LineOrQuads c es (joint_word es)
unfolding lowered_of pieces_in word_of
line_or_quads_go c true e = one_line e
line_or_quads_go c false e = subst (λ (ps : List Piece). LineOrQuads c (map piece (pieces_of c)) (word_of ps)) (sym (pieces_all (pieces_of c))) (quads e (whole-conic c))

pub line_or_quads : (c : Conic) → LineOrQuads c (lowered_of (lower_of c)) (joint_word (lowered_of (lower_of c)))
unfolding lower_of
line_or_quads c = line_or_quads_go c (is_line c) refl
