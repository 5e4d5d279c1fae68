-- A state that holds a list of elements: they are pushed behind each other, and reading gives them back.
use mathlib.Core.Path.{◌≡◌, refl, sym, ap, ap₂, subst, ◌∙◌}
use mathlib.Core.List.{List, [], ◌∷◌, ◌++◌, append_assoc, append-nil}
use mathlib.Core.Bool.{false, ◌&&◌}
use Prim.Native.Nat.{ℕ, zero, suc, ◌+◌, ◌*◌, ◌/◌, ◌≤◌, ◌<◌}
use native.Mathlib.Omega.{arith}
use lib.ListN.{length, take, get_or, length-append, get_or-append}
use lib.Seq.{get_or-take, get_or-append-add, get_or_at}
use lib.Dec.{ltb, eqb, lit≤}
use lib.Ieee.{Float, nan}
use borrow.Author.Tests.{le-ltb, ne_eqb}
use Rattle.geometry.specs.declared.Point.{Point}
use Rattle.stream.specs.declared.Element.{Element}
use Rattle.stream.specs.declared.Element.TheVariants.{Move, Line, Quad, Cubic, Close}
use Rattle.stream.specs.Stream.{verb_of, floats_of, bytes_of, all_floats, size_of, sizes_of, point_count, bad_record, advance_of, State, push, push_all, bad_state}
use Rattle.stream.proofs.Put.{length-put, take-grown}
use Rattle.stream.proofs.Past.{length-floats}
use Rattle.stream.proofs.Lists.{bytes_append, floats_append, length-bytes, length_all, bytes_one, floats-one}
use Rattle.stream.proofs.Pushed.{count_verb_lem, sizes_cons, sizes-one, sizes_append}
use Rattle.reader.specs.declared.Cursor.{Cursor}
use Rattle.reader.specs.Reading.{Reading, ok, Item, item, cursor, point_at, element_at, read_at, prepend, follow, read_from, Reads, ends, more}
use Rattle.reader.proofs.Reader.{read_past, read_found, read-from}

-- ---- the counts are those of ks, and the first places hold them

pub record Holding (s : State) (ks : List Element) : Type 0 where
  pub many : s.builder.verbs ≡ length ks
  pub size : s.builder.points ≡ sizes_of ks
  pub vroom : length ks ≤ length s.verbs
  pub froom : sizes_of ks ≤ length s.floats / 2
  pub verbs : take (length ks) s.verbs ≡ bytes_of ks
  pub floats : take (2 * sizes_of ks) s.floats ≡ all_floats ks

-- an empty one holds none
pub holding_none : (s : State) → s.builder.verbs ≡ 0 → s.builder.points ≡ 0 → Holding s []
unfolding bytes_of all_floats sizes_of
holding_none s v p = record { many = v; size = p; vroom = omega arith; froom = omega arith; verbs = refl; floats = refl }

-- buffers that are as long as before
pub record SameLengths (s t : State) : Type 0 where
  pub verbs : length t.verbs ≡ length s.verbs
  pub floats : length t.floats ≡ length s.floats

pub record Pushed (s t : State) (ks : List Element) : Type 0 where
  pub lengths : SameLengths s t
  pub holding : Holding t ks

-- one element more
holding_push : {s : State} {ks : List Element} (k : Element) → Holding s ks → length ks + 1 ≤ length s.verbs → sizes_of ks + size_of k ≤ length s.floats / 2 → Pushed s (push s k) (ks ++ k ∷ [])
unfolding push advance_of
holding_push {s} {ks} k h hv hf =
    let n = length ks in
    let m = sizes_of ks in
    let lk : length (ks ++ k ∷ []) ≡ n + 1 = length-append ks (k ∷ []) in
    let sk : sizes_of (ks ++ k ∷ []) ≡ m + size_of k = sizes_append ks (k ∷ []) ∙ ap (λ (x : ℕ). m + x) (sizes-one k) in
    let fk : length (floats_of k) ≡ 2 * size_of k = length-floats k in
    let lv : length (push s k).verbs ≡ length s.verbs = length-put s.verbs s.builder.verbs (verb_of k ∷ []) (omega (arith, h.many)) in
    let lf : length (push s k).floats ≡ length s.floats = length-put s.floats (2 * s.builder.points) (floats_of k) (omega (arith, h.size)) in
    record {
      lengths = record { verbs = lv; floats = lf };
      holding = record {
        many = omega (arith, h.many);
        size = omega (arith, h.size);
        vroom = omega arith;
        froom = omega arith;
        verbs = take-grown s.verbs s.builder.verbs (length (ks ++ k ∷ [])) n (verb_of k ∷ []) (bytes_of ks) (omega (arith, h.many)) h.verbs h.many (omega (arith, h.many))
            ∙ (ap (λ (r : List ℕ). bytes_of ks ++ r) (sym (bytes_one k)) ∙ sym (bytes_append ks (k ∷ [])));
        floats = take-grown s.floats (2 * s.builder.points) (2 * sizes_of (ks ++ k ∷ [])) (2 * m) (floats_of k) (all_floats ks) (omega (arith, h.size)) h.floats (omega (arith, h.size)) (omega (arith, h.size))
            ∙ (ap (λ (r : List Float). all_floats ks ++ r) (sym (floats-one k)) ∙ sym (floats_append ks (k ∷ [])));
      };
    }

-- many more
pub holding_all : {s : State} {ks : List Element} (js : List Element) → Holding s ks → length ks + length js ≤ length s.verbs → sizes_of ks + sizes_of js ≤ length s.floats / 2 → Pushed s (push_all s js) (ks ++ js)
unfolding push_all
holding_all {s} {ks} [] h hv hf = record { lengths = record { verbs = refl; floats = refl }; holding = subst (λ (r : List Element). Holding s r) (sym (append-nil ks)) h }
holding_all {s} {ks} (j ∷ js) h hv hf =
    let e : (ks ++ j ∷ []) ++ js ≡ ks ++ j ∷ js = append_assoc ks (j ∷ []) js in
    let lv = length-append ks (j ∷ []) in
    let lf = sizes_append ks (j ∷ []) in
    let g = holding_push j h (omega arith) (omega (arith, sizes_cons j js)) in
    let r = holding_all {s = push s j} {ks = ks ++ j ∷ []} js g.holding (omega (arith, g.lengths.verbs)) (omega (arith, g.lengths.floats, sizes_cons j js, sizes-one j)) in
    record {
      lengths = record { verbs = r.lengths.verbs ∙ g.lengths.verbs; floats = r.lengths.floats ∙ g.lengths.floats };
      holding = subst (λ (x : List Element). Holding (push_all (push s j) js) x) e r.holding;
    }

-- ---- cause 1 does not meet it

none_sized : (ks : List Element) → length ks ≡ 0 → sizes_of ks ≡ 0
unfolding sizes_of
none_sized [] e = refl
none_sized (k ∷ ks) e = absurd (omega arith)

no_points : (n m : ℕ) → (n ≡ 0 → m ≡ 0) → (eqb n 0 && ltb 0 m) ≡ false
no_points zero m f = le-ltb 0 m (omega (arith, f refl))
no_points (suc n) m f = rw (ne_eqb (suc n) 0 (λ e. omega arith))

pub holding_good : {s : State} {ks : List Element} → Holding s ks → bad_state s ≡ false
unfolding bad_record
holding_good {s} {ks} h =
    let t = no_points s.builder.verbs s.builder.points (λ e. h.size ∙ none_sized ks (sym h.many ∙ e)) in
    simp (le-ltb (length s.verbs) s.builder.verbs (omega (arith, h.many, h.vroom)), le-ltb (length s.floats / 2) s.builder.points (omega (arith, h.size, h.froom)), t)

-- ---- reading back

verb_low : (k : Element) → verb_of k ≤ 4
verb_low (Move p) = lit≤ tt
verb_low (Line p) = lit≤ tt
verb_low (Quad p q) = lit≤ tt
verb_low (Cubic p q r) = lit≤ tt
verb_low Close = lit≤ tt

module _ {s : State} (pre : List Element) (k : Element) (post : List Element) (h : Holding s (pre ++ k ∷ post)) where
  byte_at_lem : get_or s.verbs (length pre) 0 ≡ verb_of k
  unfolding bytes_of
  byte_at_lem =
      let l = length-append pre (k ∷ post) in
      sym (get_or-take (length (pre ++ k ∷ post)) s.verbs (length pre) 0 (omega arith))
      ∙ ap (λ (r : List ℕ). get_or r (length pre) 0) (h.verbs ∙ bytes_append pre (k ∷ post))
      ∙ get_or_at (bytes_of pre) (verb_of k) (bytes_of post) 0 (length pre) (length-bytes pre)

  float_at : (i j : ℕ) → j < length (floats_of k) → i ≡ 2 * sizes_of pre + j → get_or s.floats i nan ≡ get_or (floats_of k) j nan
  unfolding all_floats
  float_at i j hj e =
      let l = sizes_append pre (k ∷ post) in
      let c = sizes_cons k post in
      let f = length-floats k in
      sym (get_or-take (2 * sizes_of (pre ++ k ∷ post)) s.floats i nan (omega arith))
      ∙ ap (λ (r : List Float). get_or r i nan) (h.floats ∙ floats_append pre (k ∷ post))
      ∙ ap (λ (x : ℕ). get_or (all_floats pre ++ (floats_of k ++ all_floats post)) x nan) (e ∙ ap (λ (x : ℕ). x + j) (sym (length_all pre)))
      ∙ get_or-append-add (all_floats pre) (floats_of k ++ all_floats post) j nan
      ∙ get_or-append (floats_of k) (all_floats post) nan j hj

  point-is : (i j : ℕ) (p : Point) → suc j < length (floats_of k) → 2 * i ≡ 2 * sizes_of pre + j → get_or (floats_of k) j nan ≡ p.x → get_or (floats_of k) (suc j) nan ≡ p.y → point_at s.floats i ≡ p
  point-is i j p hj e x y = λ t. record { x = (float_at (2 * i) j (omega arith) e ∙ x) t; y = (float_at (2 * i + 1) (suc j) hj (omega arith) ∙ y) t }

element_is : {s : State} (pre : List Element) (k : Element) (post : List Element) → Holding s (pre ++ k ∷ post) → element_at (verb_of k) s.floats (sizes_of pre) ≡ k
unfolding element_at
element_is pre (Move p) post h = ap Move (point-is pre (Move p) post h (sizes_of pre) 0 p (lit≤ tt) (omega arith) refl refl)
element_is pre (Line p) post h = ap Line (point-is pre (Line p) post h (sizes_of pre) 0 p (lit≤ tt) (omega arith) refl refl)
element_is pre (Quad p q) post h =
    ap₂ Quad (point-is pre (Quad p q) post h (sizes_of pre) 0 p (lit≤ tt) (omega arith) refl refl)
    (point-is pre (Quad p q) post h (sizes_of pre + 1) 2 q (lit≤ tt) (omega arith) refl refl)
element_is pre (Cubic p q r) post h =
    let a = point-is pre (Cubic p q r) post h (sizes_of pre) 0 p (lit≤ tt) (omega arith) refl refl in
    let b = point-is pre (Cubic p q r) post h (sizes_of pre + 1) 2 q (lit≤ tt) (omega arith) refl refl in
    let c = point-is pre (Cubic p q r) post h (sizes_of pre + 2) 4 r (lit≤ tt) (omega arith) refl refl in
    λ t. Cubic (a t) (b t) (c t)
element_is pre Close post h = refl

-- the cursor past a list of elements
abbrev pub cursor_past : List Element → Cursor
cursor_past ks = cursor (length ks) (sizes_of ks)

read_is : {s : State} (pre : List Element) (k : Element) (post : List Element) → Holding s (pre ++ k ∷ post) → read_at s (cursor_past pre) ≡ ok (item k (cursor_past (pre ++ k ∷ [])))
read_is {s} pre k post h =
    let v : get_or s.verbs (length pre) 0 ≡ verb_of k = byte_at_lem pre k post h in
    let t : point_count (get_or s.verbs (length pre) 0) ≡ size_of k = ap point_count v ∙ count_verb_lem k in
    let lv = length-append pre (k ∷ post) in
    let lf = sizes_append pre (k ∷ post) in
    let lc = sizes_cons k post in
    let l1 : length pre + 1 ≡ length (pre ++ k ∷ []) = sym (length-append pre (k ∷ [])) in
    let l2 : sizes_of pre + point_count (get_or s.verbs (length pre) 0) ≡ sizes_of (pre ++ k ∷ []) = omega (arith, sizes_append pre (k ∷ []), sizes-one k) in
    sym (read_found s (cursor_past pre) (holding_good h) (omega (arith, h.many)) (omega (arith, verb_low k)) (omega (arith, h.size)))
    ∙ (λ i. ok (item ((ap (λ (x : ℕ). element_at x s.floats (sizes_of pre)) v ∙ element_is pre k post h) i) (cursor (l1 i) (l2 i))))

reads_from : {s : State} (pre ks : List Element) → Holding s (pre ++ ks) → Reads s (cursor_past pre) ks
reads_from {s} pre [] h =
    let l = ap length (append-nil pre) in
    ends (sym (read_past s (cursor_past pre) (holding_good h) (omega (arith, h.many))))
reads_from {s} pre (k ∷ ks) h = more (read_is pre k ks h) (reads_from (pre ++ k ∷ []) ks (subst (λ (r : List Element). Holding s r) (sym (append_assoc pre (k ∷ []) ks)) h))

-- one by one, and then the end
pub reads_back : {s : State} {ks : List Element} → Holding s ks → Reads s (cursor 0 0) ks
unfolding sizes_of
reads_back {ks = ks} h = reads_from [] ks h

-- what reads one by one is read as a whole
pub reads_all : {s : State} {c : Cursor} {ks : List Element} → Reads s c ks → read_from s c ≡ ok ks
reads_all {s} {c} (ends e) = read-from s c ∙ ap (λ (a : Reading Item). follow a (λ k d. prepend k (read_from s d))) e
reads_all {s} {c} (more {d = d} {k = k} e r) = read-from s c ∙ ap (λ (a : Reading Item). follow a (λ k d. prepend k (read_from s d))) e ∙ ap (prepend k) (reads_all r)
