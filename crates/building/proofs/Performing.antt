-- A list of building calls performed one after the other: one call more.
use mathlib.Core.Path.{◌≡◌, sym, ap, subst, ◌∙◌}
use mathlib.Core.List.{List, [], ◌∷◌, ◌++◌, append-nil, append_assoc}
use Prim.Native.Nat.{ℕ, suc, ◌+◌, ◌<◌, ◌≤◌}
use lib.ListN.{length, take, drop, get_or, set, length-set, drop_of_length-le}
use lib.Seq.{drop-cons, take-suc-set, take_all}
use lib.Ieee.{Float}
use Rattle.std.proofs.Common.{Result, Ok, Err}
use Rattle.std.proofs.Math.Numerals.{add-one}
use Rattle.stream.specs.declared.Builder.{Builder}
use Rattle.stream.specs.Stream.{State, state}
use Rattle.conic_writer.specs.declared.Written.{Written}
use Rattle.calls.specs.declared.BuildError.{BuildError}
use Rattle.calls.specs.Calls.{Outcome, number_of, record_of, conic_outcome_of}
use Rattle.outline.specs.declared.BuildingCall.{BuildingCall}
use Rattle.outline.specs.Step.{step}
use Rattle.book.specs.Machine.{run, answers}
use Rattle.book.specs.declared.Reply.{Reply}
use Rattle.book.specs.Book.{reply, builder_machine}

-- ---- what one call leaves and answers

pub record Answered (s : State) (c : BuildingCall) (t : State) (r : Reply) : Type 0 where
  pub left : t ≡ (step s c).state
  pub says : r ≡ (builder_machine step).says s c

answered : {s : State} {c : BuildingCall} {o : Outcome} → o ≡ step s c → Answered s c o.state (reply o.number o.word)
answered e = record { left = ap (λ (o : Outcome). o.state) e; says = ap (λ (o : Outcome). reply o.number o.word) e }

module _ {s : State} {c : BuildingCall} {a : Result Written BuildError} {vs : List ℕ} {fs : List Float} (e : conic_outcome_of a vs fs ≡ step s c) where
  pub answered-ok : (w : Written) (b : Builder) → a ≡ Ok w → b ≡ w.builder → Answered s c (state b vs fs) (reply 0 w.word)
  answered-ok w b d f =
      subst (λ (x : Builder). Answered s c (state x vs fs) (reply 0 w.word)) (sym f)
      (answered (ap (λ (x : Result Written BuildError). conic_outcome_of x vs fs) (sym d) ∙ e))

  pub answered-err : (x : BuildError) (b : Builder) (n : ℕ) → a ≡ Err x → b ≡ record_of x → n ≡ number_of x → Answered s c (state b vs fs) (reply n 0)
  answered-err x b n d f g =
      subst (λ (y : Builder). Answered s c (state y vs fs) (reply n 0)) (sym f)
      (subst (λ (m : ℕ). Answered s c (state (record_of x) vs fs) (reply m 0)) (sym g)
      (answered (ap (λ (x : Result Written BuildError). conic_outcome_of x vs fs) (sym d) ∙ e)))

-- ---- the calls so far

-- from the state first on, the calls so far have left s, and their replies stand in front
pub record SoFar (first s : State) (cs : List BuildingCall) (i : ℕ) (rs : List Reply) : Type 0 where
  pub left : run (builder_machine step) s (drop i cs) ≡ run (builder_machine step) first cs
  pub replies : take i rs ++ answers (builder_machine step) s (drop i cs) ≡ answers (builder_machine step) first cs
  pub many : length rs ≡ length cs

pub one-more : {first s t : State} {cs : List BuildingCall} {i : ℕ} {rs rs' : List Reply} (d : BuildingCall) (r : Reply) → i < length cs → SoFar first s cs i rs → Answered s (get_or cs i d) t r
    → rs' ≡ set rs i r → SoFar first t cs (i + 1) rs'
unfolding run answers
one-more {first} {s} {t} {cs} {i} {rs} d r l h a q =
    let m = builder_machine step in
    let c = get_or cs i d in
    let ds = drop (suc i) cs in
    let e = drop-cons cs i d l in
    let u = (step s c).state in
    let room : i < length rs = subst (λ (n : ℕ). i < n) (sym h.many) l in
    rw (q, add-one) record {
      left = ap (λ (x : State). run m x ds) a.left ∙ ap (run m s) (sym e) ∙ h.left;
      replies = ap (λ (x : List Reply). x ++ answers m t ds) (take-suc-set rs i r room)
          ∙ append_assoc (take i rs) (r ∷ []) (answers m t ds)
          ∙ ap (λ (x : State). take i rs ++ r ∷ answers m x ds) a.left
          ∙ ap (λ (x : Reply). take i rs ++ x ∷ answers m u ds) a.says
          ∙ ap (λ (x : List BuildingCall). take i rs ++ answers m s x) (sym e)
          ∙ h.replies;
      many = length-set rs i r ∙ h.many;
    }

-- where none is left
module _ {first s : State} {cs : List BuildingCall} {i : ℕ} {rs : List Reply} (h : SoFar first s cs i rs) (l : length cs ≤ i) where
  pub all-left : s ≡ run (builder_machine step) first cs
  unfolding run
  all-left = let e = drop_of_length-le cs l in ap (run (builder_machine step) s) (sym e) ∙ h.left

  pub all-replies : rs ≡ answers (builder_machine step) first cs
  unfolding answers
  all-replies =
      let e = drop_of_length-le cs l in
      let m : length rs ≤ i = subst (λ (n : ℕ). n ≤ i) (sym h.many) l in
      sym (take_all i rs m) ∙ sym (append-nil (take i rs)) ∙ ap (λ (x : List BuildingCall). take i rs ++ answers (builder_machine step) s x) (sym e) ∙ h.replies
