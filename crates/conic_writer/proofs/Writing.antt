-- What the code that writes a conic has where it writes one quad, and where it writes both halves.
use mathlib.Core.Path.{◌≡◌, refl, sym, ap, subst, ◌∙◌}
use mathlib.Core.List.{List, [], ◌∷◌, ◌++◌}
use mathlib.Core.Bool.{false}
use Prim.Native.Nat.{ℕ, zero, suc, ◌+◌, ◌-◌, ◌*◌, ◌%◌, ◌^◌, ◌≤◌, ◌<◌}
use native.Mathlib.Nat.{one-mul}
use native.Mathlib.Omega.{arith}
use lib.ListN.{length, set, replicate, length-append}
use lib.Seq.{sets-eq}
use lib.Pow.{shl_exact}
use lib.Dec.{lit<}
use lib.Ieee.{Float}
use Rattle.conic.specs.declared.Conic.{Conic}
use Rattle.conic.specs.Conic.{Halves, split_of}
use Rattle.conic.specs.declared.Lowered.{Lowered}
use Rattle.conic.specs.declared.Lowered.TheVariants as lowered
use Rattle.conic.specs.Vectors.{pair, conic_in}
use Rattle.conic.specs.Spans.{last_target}
use Rattle.conic.specs.Halving.{Piece, piece_of, is_one_quad, halve, pieces_of, count_of, word_of}
use Rattle.conic.proofs.Halving.{halve_two, split_some, half-span, word_append}
use Rattle.conic.proofs.Vectors.{of_pairs}
use Rattle.conic.proofs.Whole.{halve-ends}
use Rattle.stream.specs.declared.Builder.{Builder}
use Rattle.stream.specs.declared.Element.TheVariants.{Quad}
use Rattle.std.proofs.lemmas.List.{length-replicate}
use Rattle.stream.specs.Stream.{put, bytes_of, all_floats, State, state, push, push_all, advance_of, Fits}
use Rattle.stream.proofs.Put.{put_one, put-after, length-put}
use Rattle.stream.proofs.Past.{push_all_puts}
use Rattle.stream.proofs.Lists.{floats_append, length_all}
use Rattle.conic_writer.specs.Entries.{elements_of, quads_of, lowered_of, after_quads}
use Rattle.conic_writer.proofs.Entries.{lowered_curve, quads_append, quads-sizes}

-- ---- runs of stores

pub put_four : (l : List Float) (i : ℕ) (a b c d : Float) → i + 4 ≤ length l → set (set (set (set l i a) (i + 1) b) (i + 2) c) (i + 3) d ≡ put l i (a ∷ b ∷ c ∷ d ∷ [])
unfolding put
put_four l i a b c d h =
    let e1 : i + 1 ≡ suc i = omega arith in
    let e2 : i + 2 ≡ suc (suc i) = omega arith in
    let e3 : i + 3 ≡ suc (suc (suc i)) = omega arith in
    (λ j. set (set (set (set l i a) (e1 j) b) (e2 j) c) (e3 j) d) ∙ sets-eq (a ∷ b ∷ c ∷ d ∷ []) l i h

one_more : (n x : ℕ) → replicate n x ++ x ∷ [] ≡ replicate (suc n) x
one_more zero x = refl
one_more (suc n) x = ap (λ (r : List ℕ). x ∷ r) (one_more n x)

-- a run of one value, and one more behind it
pub run_more : (l : List ℕ) (v i x : ℕ) → v + i < length l → set (put l v (replicate i x)) (v + i) x ≡ put l v (replicate (i + 1) x)
run_more l v i x h =
    let n = length-replicate i x in
    let k : length (put l v (replicate i x)) ≡ length l = length-put l v (replicate i x) (omega arith) in
    let e : suc i ≡ i + 1 = omega arith in
    put_one (put l v (replicate i x)) (v + i) x (omega arith)
    ∙ put-after l (put l v (replicate i x)) v (v + i) (replicate i x) (x ∷ []) (omega arith) (omega arith) refl
    ∙ ap (put l v) (one_more i x ∙ ap (λ (m : ℕ). replicate m x) e)

-- the first four of a run
pub run_1 : (l : List ℕ) (v x : ℕ) → v < length l → set l v x ≡ put l v (replicate 1 x)
run_1 l v x h = put_one l v x h

pub run_2 : (l : List ℕ) (v x : ℕ) → v + 1 < length l → set (set l v x) (v + 1) x ≡ put l v (replicate 2 x)
run_2 l v x h = ap (λ (m : List ℕ). set m (v + 1) x) (run_1 l v x (omega arith)) ∙ run_more l v 1 x h

pub run_3 : (l : List ℕ) (v x : ℕ) → v + 2 < length l → set (set (set l v x) (v + 1) x) (v + 2) x ≡ put l v (replicate 3 x)
run_3 l v x h = ap (λ (m : List ℕ). set m (v + 2) x) (run_2 l v x (omega arith)) ∙ run_more l v 2 x h

pub run_4 : (l : List ℕ) (v x : ℕ) → v + 3 < length l → set (set (set (set l v x) (v + 1) x) (v + 2) x) (v + 3) x ≡ put l v (replicate 4 x)
run_4 l v x h = ap (λ (m : List ℕ). set m (v + 3) x) (run_3 l v x (omega arith)) ∙ run_more l v 3 x h

-- two runs, one behind the other
runs_add : (k m x : ℕ) → replicate k x ++ replicate m x ≡ replicate (k + m) x
runs_add zero m x = let e : m ≡ 0 + m = omega arith in ap (λ (j : ℕ). replicate j x) e
runs_add (suc k) m x = let e : suc (k + m) ≡ suc k + m = omega arith in ap (λ (r : List ℕ). x ∷ r) (runs_add k m x) ∙ ap (λ (j : ℕ). replicate j x) e

pub run_on : (l m : List ℕ) (v k n x : ℕ) → m ≡ put l v (replicate k x) → v + n ≤ length l → k ≤ n → put m (v + k) (replicate (n - k) x) ≡ put l v (replicate n x)
run_on l m v k n x e h q =
    let z = length-replicate k x in
    let w : k + (n - k) ≡ n = omega arith in
    put-after l m v (v + k) (replicate k x) (replicate (n - k) x) (omega arith) (omega arith) e ∙ ap (put l v) (runs_add k (n - k) x ∙ ap (λ (j : ℕ). replicate j x) w)

-- ---- one quad

-- the bit where a quad starts, as the code makes it
pub bit : (k : ℕ) → k < 64 → (1 * 2 ^ k) % 2 ^ 64 ≡ 2 ^ k
bit k h = shl_exact 1 k 64 (lit< tt) (omega arith) ∙ one-mul (2 ^ k)

pub record OneQuad (ps : List Piece) (c : Conic) (start : ℕ) : Type 0 where
  pub many : length ps ≡ 1
  pub quads : quads_of ps ≡ Quad c.ctrl c.to ∷ []
  pub bytes : bytes_of (quads_of ps) ≡ 2 ∷ []
  pub floats : all_floats (quads_of ps) ≡ c.ctrl.x ∷ c.ctrl.y ∷ c.to.x ∷ c.to.y ∷ []
  pub word : word_of ps ≡ (1 * 2 ^ start) % 2 ^ 64

pub one-quad : (ps : List Piece) (c : Conic) (start size : ℕ) → start < 64 → ps ≡ piece_of c start size ∷ [] → OneQuad ps c start
unfolding elements_of word_of bytes_of all_floats
one-quad ps c start size h e = record {
  many = ap length e;
  quads = ap quads_of e;
  bytes = ap (λ (qs : List Piece). bytes_of (quads_of qs)) e;
  floats = ap (λ (qs : List Piece). all_floats (quads_of qs)) e;
  word = ap word_of e ∙ omega (arith, bit start h);
}

-- what pieces leave that were written from point `at` on: the points, the next point and the word
pub record Wrote (ps : List Piece) (fs gs : List Float) (at next word after : ℕ) : Type 0 where
  pub points : gs ≡ put fs (2 * at) (all_floats (quads_of ps))
  pub end : next ≡ at + 2 * length ps
  pub bits : after ≡ word + word_of ps

pub one-wrote : (ps : List Piece) (c : Conic) (start at word : ℕ) {fs gs : List Float} → OneQuad ps c start → gs ≡ put fs (2 * at) (c.ctrl.x ∷ c.ctrl.y ∷ c.to.x ∷ c.to.y ∷ [])
    → Wrote ps fs gs at (at + 2) word (word + (1 * 2 ^ start) % 2 ^ 64)
one-wrote ps c start at word {fs} h e = let m = h.many in let b = h.word in record { points = e ∙ ap (put fs (2 * at)) (sym h.floats); end = omega arith; bits = omega arith }

-- ---- both halves

pub record BothHalves (ps l r : List Piece) : Type 0 where
  pub many : length ps ≡ length l + length r
  pub quads : quads_of ps ≡ quads_of l ++ quads_of r
  pub word : word_of ps ≡ word_of l + word_of r

-- a conic that is split: the second half starts at `next`, half the span behind the start
pub record Split (n start next : ℕ) (ps l r : List Piece) : Type 0 where
  pub some : 0 < n
  pub both : BothHalves ps l r
  pub half : next ≡ start + 2 ^ (n - 1)
  pub whole : next + 2 ^ (n - 1) ≡ start + 2 ^ n

-- with the place that the code finds for the second half
pub split : (n : ℕ) (c : Conic) (h : Halves) (start : ℕ) → n ≤ 6 → is_one_quad n c ≡ false → h ≡ split_of c
    → let next = start + (1 * 2 ^ (n - 1)) % 2 ^ 64 in Split n start next (halve n c start) (halve (n - 1) h.left start) (halve (n - 1) h.right next)
split n c h start six f e =
    let some = split_some n c f in
    let d = n - 1 in
    let half : start + (1 * 2 ^ d) % 2 ^ 64 ≡ start + 2 ^ d = ap (λ (x : ℕ). start + x) (bit d (omega arith)) in
    let span = half-span n (λ z. omega (arith, some, z)) in
    let l = halve d h.left start in
    let q = halve_two n c h start f e ∙ ap (λ (x : ℕ). l ++ halve d h.right x) (sym half) in
    let r = halve d h.right (start + (1 * 2 ^ d) % 2 ^ 64) in
    record {
      some = some;
      both = record { many = ap length q ∙ length-append l r; quads = ap quads_of q ∙ quads_append l r; word = ap word_of q ∙ word_append l r };
      half = half;
      whole = omega (arith, half, span);
    }

quads-floats : (ps : List Piece) → length (all_floats (quads_of ps)) ≡ 4 * length ps
quads-floats ps = length_all (quads_of ps) ∙ omega (arith, quads-sizes ps)

-- those of the first half, then those of the second behind them
pub both-wrote : (ps l r : List Piece) {fs us gs : List Float} {at mid next word between after : ℕ} → 2 * at ≤ length fs → BothHalves ps l r → Wrote l fs us at mid word between → Wrote r us gs mid next between after
    → Wrote ps fs gs at next word after
both-wrote ps l r {fs} {us} {gs} {at} {mid} h b x y =
    let n = quads-floats l in
    let many = b.many in
    let w = b.word in
    let m = x.end in
    let k : 2 * mid ≡ 2 * at + length (all_floats (quads_of l)) = omega arith in
    record {
      points =
          y.points ∙ put-after fs us (2 * at) (2 * mid) (all_floats (quads_of l)) (all_floats (quads_of r)) h k x.points
          ∙ ap (put fs (2 * at)) (sym (ap all_floats b.quads ∙ floats_append (quads_of l) (quads_of r)));
      end = omega (arith, x.end, y.end);
      bits = omega (arith, x.bits, y.bits);
    }

-- ---- a whole conic

pub count_is : (c : Conic) → count_of c ≡ length (pieces_of c)
unfolding count_of
count_is c = refl

-- the record behind the quads of pieces
quads-builder : (s : State) (ps : List Piece) → (push_all s (quads_of ps)).builder ≡ after_quads s.builder (length ps) (last_target s.builder.pen ps)
unfolding push_all push advance_of elements_of last_target
quads-builder s [] =
    let b = s.builder in
    let v : b.verbs ≡ b.verbs + 0 = omega arith in
    let p : b.points ≡ b.points + 2 * 0 = omega arith in
    λ i. record b { verbs = v i; points = p i }
quads-builder s (q ∷ ps) =
    let b = s.builder in
    let v : b.verbs + 1 + length ps ≡ b.verbs + suc (length ps) = omega arith in
    let p : b.points + 2 + 2 * length ps ≡ b.points + 2 * suc (length ps) = omega arith in
    quads-builder (push s (Quad q.quad.ctrl q.quad.to)) ps ∙ (λ i. record b { verbs = v i; points = p i; pen = last_target q.quad.to ps })

-- bytes and points in place, and the record behind them, are the quads pushed
pub whole-pushed : (b r : Builder) (n : ℕ) (c : Conic) (vs ws : List ℕ) (fs gs : List Float) → Fits b vs fs (quads_of (pieces_of c)) → r ≡ after_quads b n c.to → n ≡ count_of c
    → ws ≡ put vs b.verbs (bytes_of (quads_of (pieces_of c))) → gs ≡ put fs (2 * b.points) (all_floats (quads_of (pieces_of c)))
    → state r ws gs ≡ push_all (state b vs fs) (quads_of (pieces_of c))
whole-pushed b r n c vs ws fs gs room behind many g h =
    let ps = pieces_of c in
    let s = state b vs fs in
    let t = push_all_puts s (quads_of ps) room.0 room.1 in
    let builder : r ≡ (push_all s (quads_of ps)).builder =
    behind ∙ ap (λ (m : ℕ). after_quads b m c.to) (many ∙ count_is c) ∙ ap (after_quads b (length ps)) (sym (halve-ends 6 c 0 b.pen)) ∙ sym (quads-builder s ps) in
    let bytes : ws ≡ (push_all s (quads_of ps)).verbs = g ∙ sym t.verbs in
    let floats : gs ≡ (push_all s (quads_of ps)).floats = h ∙ sym t.floats in
    λ i. state (builder i) (bytes i) (floats i)

-- a conic that is lowered to itself, in its two vectors: the room for it, and what is left behind it
module _ {l : Lowered} {k : Conic} {e t : List Float} (is : l ≡ lowered.Curve k) (p : e ≡ pair k.from k.to) (q : t ≡ pair k.ctrl k.ctrl) where
  pub curve_room : (b : Builder) (vs : List ℕ) (fs : List Float) → Fits b vs fs (elements_of (lowered_of l)) → (b.verbs + count_of (conic_in e t k.weight) ≤ length vs) × (2 * (b.points + 2 * count_of (conic_in e t k.weight)) ≤ length fs)
  curve_room b vs fs s =
      let h = lowered_curve l k is in
      let n = ap count_of (of_pairs k e t p q) ∙ count_is k in
      (omega (arith, s.0, h.many, n), omega (arith, s.1, h.size, n))

  pub curve-pushed : (b r : Builder) (n : ℕ) (vs ws : List ℕ) (fs gs : List Float) → Fits b vs fs (elements_of (lowered_of l)) → r ≡ after_quads b n k.to → n ≡ count_of (conic_in e t k.weight)
      → ws ≡ put vs b.verbs (bytes_of (quads_of (pieces_of (conic_in e t k.weight)))) → gs ≡ put fs (2 * b.points) (all_floats (quads_of (pieces_of (conic_in e t k.weight))))
      → state r ws gs ≡ push_all (state b vs fs) (elements_of (lowered_of l))
  curve-pushed b r n vs ws fs gs room behind many g h =
      let is_curve = (lowered_curve l k is).elements in
      let o = of_pairs k e t p q in
      whole-pushed b r n k vs ws fs gs (subst (Fits b vs fs) is_curve room) behind (many ∙ ap count_of o) (g ∙ ap (λ (c : Conic). put vs b.verbs (bytes_of (quads_of (pieces_of c)))) o) (h ∙ ap (λ (c : Conic). put fs (2 * b.points) (all_floats (quads_of (pieces_of c)))) o)
      ∙ sym (ap (push_all (state b vs fs)) is_curve)
