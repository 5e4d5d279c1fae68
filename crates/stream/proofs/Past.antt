-- What adding elements leaves in the buffers: their bytes and floats in one piece, and past them what was there.
use mathlib.Core.Path.{◌≡◌, refl, sym, ap, ◌∙◌}
use mathlib.Core.List.{List, [], ◌∷◌, ◌++◌}
use Prim.Native.Nat.{ℕ, ◌+◌, ◌-◌, ◌*◌, ◌≤◌}
use native.Mathlib.Omega.{arith}
use lib.ListN.{length, take, drop, length-append}
use lib.Seq.{drop-append-add, drop-drop, length-take-le}
use Rattle.stream.specs.declared.Element.{Element}
use Rattle.stream.specs.declared.Element.TheVariants.{Move, Line, Quad, Cubic, Close}
use Rattle.stream.specs.Stream.{put, verb_of, floats_of, bytes_of, all_floats, size_of, sizes_of, advance_of, State, push, push_all}
use Rattle.stream.proofs.Put.{length-put, put_nil, put-after}
use Rattle.stream.proofs.Pushed.{sizes_cons}

drop-put {ℓ} : {A : Type ℓ} (l : List A) (i m : ℕ) (vs : List A) → i ≤ length l → i + length vs ≤ m → drop m (put l i vs) ≡ drop m l
unfolding put
drop-put {A = A} l i m vs h k =
    let n = i + length vs in
    let p : List A = take i l ++ vs in
    let e : length p ≡ n = length-append (take i l) vs ∙ ap (λ (x : ℕ). x + length vs) (length-take-le i l h) in
    let q : m ≡ length p + (m - n) = omega arith in
    let r : m ≡ n + (m - n) = omega arith in
    ap (λ (x : ℕ). drop x (p ++ drop n l)) q ∙ drop-append-add p (drop n l) (m - n) ∙ drop-drop (m - n) n l ∙ ap (λ (x : ℕ). drop x l) (sym r)

pub length-floats : (k : Element) → length (floats_of k) ≡ 2 * size_of k
length-floats (Move p) = refl
length-floats (Line p) = refl
length-floats (Quad p q) = refl
length-floats (Cubic p q r) = refl
length-floats Close = refl

pub record Past (s t : State) (v f : ℕ) : Type 0 where
  pub verbs : drop v t.verbs ≡ drop v s.verbs
  pub floats : drop f t.floats ≡ drop f s.floats

pub push_all-past : (s : State) (ks : List Element) (v f : ℕ) → s.builder.verbs + length ks ≤ length s.verbs → 2 * (s.builder.points + sizes_of ks) ≤ length s.floats → s.builder.verbs + length ks ≤ v → 2 * (s.builder.points + sizes_of ks) ≤ f → Past s (push_all s ks) v f
unfolding push_all push advance_of
push_all-past s [] v f hv hf kv kf = record { verbs = refl; floats = refl }
push_all-past s (k ∷ ks) v f hv hf kv kf =
    let b = s.builder in
    let c = sizes_cons k ks in
    let fk = length-floats k in
    let lv : length (push s k).verbs ≡ length s.verbs = length-put s.verbs b.verbs (verb_of k ∷ []) (omega arith) in
    let lf : length (push s k).floats ≡ length s.floats = length-put s.floats (2 * b.points) (floats_of k) (omega arith) in
    let r = push_all-past (push s k) ks v f (omega arith) (omega arith) (omega arith) (omega arith) in
    record {
      verbs = r.verbs ∙ drop-put s.verbs b.verbs v (verb_of k ∷ []) (omega arith) (omega arith);
      floats = r.floats ∙ drop-put s.floats (2 * b.points) f (floats_of k) (omega arith) (omega arith);
    }

pub record Puts (s t : State) (ks : List Element) : Type 0 where
  pub verbs : t.verbs ≡ put s.verbs s.builder.verbs (bytes_of ks)
  pub floats : t.floats ≡ put s.floats (2 * s.builder.points) (all_floats ks)

pub push_all_puts : (s : State) (ks : List Element) → s.builder.verbs + length ks ≤ length s.verbs → 2 * (s.builder.points + sizes_of ks) ≤ length s.floats → Puts s (push_all s ks) ks
unfolding push_all push advance_of bytes_of all_floats
push_all_puts s [] hv hf = record { verbs = sym (put_nil s.verbs s.builder.verbs); floats = sym (put_nil s.floats (2 * s.builder.points)) }
push_all_puts s (k ∷ ks) hv hf =
    let b = s.builder in
    let c = sizes_cons k ks in
    let fk = length-floats k in
    let lv : length (push s k).verbs ≡ length s.verbs = length-put s.verbs b.verbs (verb_of k ∷ []) (omega arith) in
    let lf : length (push s k).floats ≡ length s.floats = length-put s.floats (2 * b.points) (floats_of k) (omega arith) in
    let r = push_all_puts (push s k) ks (omega arith) (omega arith) in
    record {
      verbs = r.verbs ∙ put-after s.verbs (push s k).verbs b.verbs (b.verbs + 1) (verb_of k ∷ []) (bytes_of ks) (omega arith) refl refl;
      floats = r.floats ∙ put-after s.floats (push s k).floats (2 * b.points) (2 * (b.points + size_of k)) (floats_of k) (all_floats ks) (omega arith) (omega arith) refl;
    }
