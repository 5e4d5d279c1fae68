-- A call that adds es, behind the opening move where the path is empty: its need, its room and its outcome.
use mathlib.Core.Path.{◌≡◌, refl, sym, ap, ap₂, ◌∙◌}
use mathlib.Core.Bool.{Bool, true, false, cond}
use mathlib.Core.List.{List, [], ◌∷◌, ◌++◌}
use Prim.Native.Nat.{ℕ, ◌+◌, ◌-◌, ◌*◌, ◌≤◌}
use native.Mathlib.Omega.{arith}
use lib.ListN.{length, length-append}
use lib.Ieee.{Float}
use Rattle.geometry.specs.declared.Point.{Point}
use Rattle.conic.specs.declared.Conic.{Conic}
use Rattle.conic.specs.declared.Lowered.{Lowered}
use Rattle.conic.specs.Conic.{lower_of}
use Rattle.conic.specs.Halving.{word_of}
use Rattle.std.specs.Prelude.{⊤, MatchResult, IsOkAnd}
use Rattle.std.proofs.Common.{Result, Ok, Err}
use Rattle.stream.specs.declared.Builder.{Builder}
use Rattle.stream.specs.declared.Element.{Element}
use Rattle.stream.specs.declared.Need.{Need}
use Rattle.stream.specs.Stream.{State, is_empty, bad_state, room_for, need_of, push, push_all, size_of, sizes_of}
use Rattle.stream.proofs.Tests.{room-is}
use Rattle.stream.proofs.Pushed.{push_all-one, push_all_append, push_all-verbs, push-all_points, sizes_append, sizes-one}
use Rattle.conic_writer.specs.declared.Written.{Written}
use Rattle.conic_writer.specs.Entries.{Entry, plain, elements_of, pieces_in, joint_word, lowered_of, plainly_written}
use Rattle.conic_writer.proofs.Entries.{elements_append}
use Rattle.calls.specs.declared.BuildError.{BuildError}
use Rattle.calls.specs.declared.Call.TheVariants as call
use Rattle.calls.specs.Calls.{Outcome, opening, opened_need, conic_from, entries_of, outcome, attempt, step, admit_of, refusal_of, with_word, outcome_of, conic_outcome_of}
use Rattle.calls.proofs.Opening.{word-opened, opened-need, opening_count, opening-size}
use Rattle.calls.proofs.Admission.{Admitted, admitted_for, refused-is, done-is}
use Rattle.calls.proofs.Refused.{never_zero}

-- an element alone
pub one-need : (b : Builder) (k : Element) → opened_need (is_empty b) 1 (size_of k) ≡ need_of (elements_of (opening (is_empty b) ++ plain k ∷ []))
unfolding elements_of
one-need b k = opened-need (is_empty b) (plain k ∷ []) 1 (size_of k) refl (sym (sizes-one k))

-- the counts after the opening move
pub record OpenedCounts (s t : State) : Type 0 where
  pub verbs : t.builder.verbs ≡ s.builder.verbs + (1 - s.builder.verbs)
  pub points : t.builder.points ≡ s.builder.points + (1 - s.builder.verbs)

pub opened-counts : (s t : State) → t ≡ push_all s (elements_of (opening (is_empty s.builder))) → OpenedCounts s t
opened-counts s t e =
    let o = elements_of (opening (is_empty s.builder)) in
    record {
      verbs = ap (λ (x : State). x.builder.verbs) e ∙ push_all-verbs s o ∙ ap (λ (n : ℕ). s.builder.verbs + n) (opening_count s.builder.verbs);
      points = ap (λ (x : State). x.builder.points) e ∙ push-all_points s o ∙ ap (λ (n : ℕ). s.builder.points + n) (opening-size s.builder.verbs);
    }

module _ (s : State) (es : List Entry) where
  abbrev opened : List Entry
  opened = opening (is_empty s.builder) ++ es

  abbrev AdmittedHere : Type 0
  AdmittedHere = Admitted s.builder (length s.verbs) (length s.floats) (need_of (elements_of opened))

  pub opened-refused : (n : Need) (r : BuildError) → n ≡ need_of (elements_of opened) → Err r ≡ admit_of s.builder (length s.verbs) (length s.floats) n → refusal_of r s.verbs s.floats ≡ attempt s opened
  opened-refused n r e a = refused-is s opened r (a ∙ ap (admit_of s.builder (length s.verbs) (length s.floats)) e)

  pub opened-admitted : (n : Need) (r : Result ⊤ BuildError) (x : ⊤) → n ≡ need_of (elements_of opened) → r ≡ admit_of s.builder (length s.verbs) (length s.floats) n → r ≡ Ok x → AdmittedHere
  opened-admitted n r x e a d = admitted_for s.builder x (length s.verbs) (length s.floats) n opened opened e refl a d

  -- room for the opening move, and for es behind it
  pub opened-room : AdmittedHere → (s.builder.verbs + (1 - s.builder.verbs) + length (elements_of es) ≤ length s.verbs) × (2 * (s.builder.points + (1 - s.builder.verbs) + sizes_of (elements_of es)) ≤ length s.floats)
  opened-room h =
      let o = elements_of (opening (is_empty s.builder)) in
      let e = elements_append (opening (is_empty s.builder)) es in
      let lv : length (elements_of opened) ≡ 1 - s.builder.verbs + length (elements_of es) = ap length e ∙ length-append o (elements_of es) ∙ ap (λ (n : ℕ). n + length (elements_of es)) (opening_count s.builder.verbs) in
      let lf : sizes_of (elements_of opened) ≡ 1 - s.builder.verbs + sizes_of (elements_of es) = ap sizes_of e ∙ sizes_append o (elements_of es) ∙ ap (λ (n : ℕ). n + sizes_of (elements_of es)) (opening-size s.builder.verbs) in
      omega (arith, lv, lf, room-is s.builder (length s.verbs) (length s.floats) (need_of (elements_of opened)) h.room)

  pub opened-done : (t u : State) (w : ℕ) → AdmittedHere → t ≡ push_all s (elements_of (opening (is_empty s.builder))) → u ≡ push_all t (elements_of es) → w ≡ joint_word es → outcome 0 w u ≡ attempt s opened
  opened-done t u w h et eu ew =
      let o = opening (is_empty s.builder) in
      ap (λ (n : ℕ). outcome 0 n u) (ew ∙ sym (word-opened (is_empty s.builder) es))
      ∙ done-is s opened u h (eu ∙ ap (λ (x : State). push_all x (elements_of es)) et ∙ sym (ap (push_all s) (elements_append o es) ∙ push_all_append s (elements_of o) (elements_of es)))

-- an element alone has no piece
pub one-done : (s : State) (k : Element) (t u : State) → AdmittedHere s (plain k ∷ []) → t ≡ push_all s (elements_of (opening (is_empty s.builder))) → u ≡ push t k → outcome 0 0 u ≡ attempt s (opened s (plain k ∷ []))
unfolding elements_of pieces_in word_of
one-done s k t u h et eu = opened-done s (plain k ∷ []) t u 0 h et (eu ∙ sym (push_all-one t k)) refl

pub one-admitted : (s : State) (k : Element) (n : Need) (r : Result ⊤ BuildError) (x : ⊤) → n ≡ opened_need (is_empty s.builder) 1 (size_of k) → r ≡ admit_of s.builder (length s.verbs) (length s.floats) n → r ≡ Ok x → AdmittedHere s (plain k ∷ [])
one-admitted s k n r x e a d = opened-admitted s (plain k ∷ []) n r x (e ∙ one-need s.builder k) a d

pub one-room : (s : State) (k : Element) (n : Need) (r : Result ⊤ BuildError) (x : ⊤) → n ≡ opened_need (is_empty s.builder) 1 (size_of k) → r ≡ admit_of s.builder (length s.verbs) (length s.floats) n → r ≡ Ok x
    → (s.builder.verbs + (1 - s.builder.verbs) + 1 ≤ length s.verbs) × (2 * (s.builder.points + (1 - s.builder.verbs) + size_of k) ≤ length s.floats)
unfolding elements_of
one-room s k n r x e a d = omega (arith, opened-room s (plain k ∷ []) (one-admitted s k n r x e a d), sizes-one k)

ok_and : (r : Result Written BuildError) (w : Written) → IsOkAnd r (λ x. x ≡ w) → r ≡ Ok w
ok_and (Ok x) w h = ap (λ (y : Written). Ok y) h
ok_and (Err e) w h = absurd h

-- ---- a conic's call

-- an answer with no word
pub no_word : (a : Result Builder BuildError) (r : Result Written BuildError) (vs : List ℕ) (fs : List Float) → MatchResult a (λ b. IsOkAnd r (λ w. w ≡ plainly_written b)) (λ e. r ≡ Err e) → conic_outcome_of r vs fs ≡ outcome_of a vs fs
no_word (Ok b) r vs fs h = ap (λ (x : Result Written BuildError). conic_outcome_of x vs fs) (ok_and r (plainly_written b) h)
no_word (Err e) r vs fs h = ap (λ (x : Result Written BuildError). conic_outcome_of x vs fs) h

-- an element alone that has a joint word, as the only quad of a conic has
marked_go : (a : Result Builder BuildError) (p q : Bool) (w n : ℕ) (s t : State) (vs : List ℕ) (fs : List Float) → outcome_of a vs fs ≡ cond p (outcome 1 0 s) (cond q (outcome 0 n t) (outcome 5 0 s))
    → conic_outcome_of (with_word a w) vs fs ≡ cond p (outcome 1 0 s) (cond q (outcome 0 w t) (outcome 5 0 s))
marked_go (Ok b) true q w n s t vs fs h = let z : ◌≡◌ {A = ℕ} 0 1 = ap (λ (o : Outcome). o.number) h in absurd (omega arith)
marked_go (Ok b) false true w n s t vs fs h = ap (λ (o : Outcome). outcome 0 w o.state) h
marked_go (Ok b) false false w n s t vs fs h = let z : ◌≡◌ {A = ℕ} 0 5 = ap (λ (o : Outcome). o.number) h in absurd (omega arith)
marked_go (Err e) true q w n s t vs fs h = h
marked_go (Err e) false true w n s t vs fs h = absurd (never_zero e vs fs n t h)
marked_go (Err e) false false w n s t vs fs h = h

pub one_marked : (s : State) (k : Element) (es : List Entry) (a : Result Builder BuildError) (r : Result Written BuildError) (w : ℕ) (vs : List ℕ) (fs : List Float) → elements_of es ≡ k ∷ [] → joint_word es ≡ w
    → outcome_of a vs fs ≡ attempt s (opened s (plain k ∷ [])) → r ≡ with_word a w → conic_outcome_of r vs fs ≡ attempt s (opened s es)
unfolding attempt elements_of
one_marked s k es a r w vs fs e f h g =
    let o = opening (is_empty s.builder) in
    let same : elements_of (o ++ plain k ∷ []) ≡ elements_of (o ++ es) = elements_append o (plain k ∷ []) ∙ ap (λ (ks : List Element). elements_of o ++ ks) (sym e) ∙ sym (elements_append o es) in
    let word : w ≡ joint_word (o ++ es) = sym (word-opened (is_empty s.builder) es ∙ f) in
    ap (λ (x : Result Written BuildError). conic_outcome_of x vs fs) g
    ∙ marked_go a (bad_state s) (room_for s (elements_of (o ++ plain k ∷ []))) w _ s _ vs fs h
    ∙ ap₂ (λ (ks : List Element) (n : ℕ). cond (bad_state s) (outcome 1 0 s) (cond (room_for s ks) (outcome 0 n (push_all s ks)) (outcome 5 0 s))) same word

-- what its step attempts, with the lowered conic that the code has
pub conic-step : (s : State) (ctrl to : Point) (w : Float) (c : Conic) (l : Lowered) → c ≡ conic_from (is_empty s.builder) s.builder.pen ctrl to w → l ≡ lower_of c
    → attempt s (opened s (lowered_of l)) ≡ step s (call.ConicTo ctrl to w)
unfolding step entries_of
conic-step s ctrl to w c l e f = ap (λ (x : Lowered). attempt s (opened s (lowered_of x))) (f ∙ ap lower_of e)
