-- push_conic, whose depth rises, leaves the quads of the halving, whose depth falls.
use mathlib.Core.Path.{◌≡◌, refl, sym, subst}
use mathlib.Core.List.{List, [], ◌∷◌, ◌++◌}
use mathlib.Core.Bool.{Bool, true, false, cond, ◌&&◌, ◌||◌}
use Prim.Native.Nat.{ℕ, zero, suc, ◌+◌, ◌^◌, ◌<◌}
use native.Mathlib.Omega.{arith}
use lib.Dec.{leb}
use borrow.Author.Tests.{le-leb, lt-leb}
use lib.Ieee.{binary32, sub, mul, lt, le}
use Rattle.ieee.specs.Binary32.{one, zero as float_zero}
use Rattle.ieee.specs.Basic.{abs_of}
use Rattle.geometry.specs.declared.Point.{Point}
use Rattle.geometry.specs.Point.{add_of, sub_of, scale_of, shrink_of, length_squared_of, length_of}
use Rattle.conic.specs.declared.Conic.{Conic}
use Rattle.conic.specs.Conic.{thousandth, conic_mid, quad_mid, flat_of, half_weight_of, split_of}
use Rattle.conic.specs.Halving.{Piece, piece_of, halve}
use Rattle.stream.specs.declared.Element.{Element}
use Rattle.stream.specs.Stream.{start_after, pen_after}
use Rattle.conic_writer.specs.Entries.{elements_of, quads_of}
use Rattle.conic_writer.proofs.Entries.{quads_append}
use Rattle.rust_builder.specs.PathBuilder.{PathBuilder, is_empty, quad_to, push_conic}
use Rattle.rust_builder.proofs.Mirrors.{Mirrors, some_append, mirrors_then, mirrors_quad}

-- elements js behind those that b mirrors
abbrev pub Behind : List Element → Point → Point → List Element → PathBuilder → Type 0
Behind ks s q js d = Mirrors (ks ++ js) (start_after s js) (pen_after s q js) d

-- push_conic's two tests, in the words of the port: the weight is near 1, and the middles are near each other, measured by a chord above 0
unfoldable near_one : Conic → Bool
near_one c = le (abs_of (sub binary32 c.weight one)) thousandth

unfoldable near_chord : Conic → Bool
near_chord c =
    let chord = length_of (sub_of c.to c.from) in
    lt float_zero chord && le (length_of (sub_of (conic_mid c) (quad_mid c))) (mul binary32 thousandth chord)

abbrev push_of : ℕ → PathBuilder → Conic → ℕ → PathBuilder
push_of bound b c depth = push_conic bound b c.from c.ctrl c.to c.weight depth

-- one step of push_conic
push_step : (bound : ℕ) (b : PathBuilder) (c : Conic) (depth : ℕ)
    → push_of (suc bound) b c depth
    ≡ cond (near_one c || leb 6 depth) (quad_to b c.ctrl c.to)
    (cond (near_chord c) (quad_to b c.ctrl c.to)
    (let h = split_of c in push_of bound (push_of bound b h.left (suc depth)) h.right (suc depth)))
unfolding push_conic near_one near_chord conic_mid quad_mid split_of half_weight_of add_of sub_of scale_of shrink_of length_squared_of length_of
push_step bound b c depth = refl

flat_go : (n l t : Bool) → cond n true (cond l t false) ≡ n || (l && t)
flat_go true l t = refl
flat_go false true t = refl
flat_go false false t = refl

flat_is : (c : Conic) → flat_of c ≡ near_one c || near_chord c
unfolding flat_of near_one near_chord
flat_is c =
    let chord = length_of (sub_of c.to c.from) in
    flat_go (le (abs_of (sub binary32 c.weight one)) thousandth) (lt float_zero chord) (le (length_of (sub_of (conic_mid c) (quad_mid c))) (mul binary32 thousandth chord))

or_true : (n t : Bool) → t ≡ true → n || t ≡ true
or_true true t e = refl
or_true false t e = e

-- both tests of the Rust, where the depth is not at its end, against the one of the halving
split_go : (c : Conic) (at size : ℕ) (L R : List Piece) (ks : List Element) (s q : Point) (b S : PathBuilder) (n t : Bool) → Mirrors ks s q b → is_empty ks ≡ false
    → Behind ks s q (quads_of (L ++ R)) S
    → Behind ks s q (quads_of (cond (n || t) (piece_of c at size ∷ []) (L ++ R))) (cond (n || false) (quad_to b c.ctrl c.to) (cond t (quad_to b c.ctrl c.to) S))
unfolding elements_of
split_go c at size L R ks s q b S true t h e g = mirrors_quad h e c.ctrl c.to
split_go c at size L R ks s q b S false true h e g = mirrors_quad h e c.ctrl c.to
split_go c at size L R ks s q b S false false h e g = g

pub mirrors_halved : (bound r depth : ℕ) (c : Conic) (at : ℕ) (ks : List Element) (s q : Point) (b : PathBuilder) → r + depth ≡ 6 → r < bound → Mirrors ks s q b → is_empty ks ≡ false
    → Behind ks s q (quads_of (halve r c at)) (push_of bound b c depth)
unfolding halve elements_of
mirrors_halved zero r depth c at ks s q b d l h e = absurd (omega arith)
mirrors_halved (suc bound) zero depth c at ks s q b d l h e =
    rw (push_step bound b c depth, or_true (near_one c) (leb 6 depth) (le-leb 6 depth (omega arith))) (mirrors_quad h e c.ctrl c.to)
mirrors_halved (suc bound) (suc r) depth c at ks s q b d l h e =
    let x = split_of c in
    let L = halve r x.left at in
    let R = halve r x.right (at + 2 ^ r) in
    let left = push_of bound b x.left (suc depth) in
    let g = mirrors_halved bound r (suc depth) x.left at ks s q b (omega arith) (omega arith) h e in
    let f = mirrors_halved bound r (suc depth) x.right (at + 2 ^ r) (ks ++ quads_of L) (start_after s (quads_of L)) (pen_after s q (quads_of L)) left (omega arith) (omega arith) g (some_append ks (quads_of L) e) in
    let S = push_of bound left x.right (suc depth) in
    let both : Behind ks s q (quads_of (L ++ R)) S = subst (λ (js : List Element). Behind ks s q js S) (sym (quads_append L R)) (mirrors_then ks (quads_of L) (quads_of R) s q S f) in
    rw (flat_is c, push_step bound b c depth, lt-leb 6 depth (omega arith)) (split_go c at (2 ^ suc r) L R ks s q b S (near_one c) (near_chord c) h e both)
