-- A refusal leaves the record and the buffers as they were.
use mathlib.Core.Path.{◌≡◌, ap}
use mathlib.Core.Bool.{Bool, true, false, cond}
use mathlib.Core.List.{List}
use Prim.Native.Nat.{ℕ}
use native.Mathlib.Omega.{arith}
use lib.Ieee.{Float}
use Rattle.stream.specs.Stream.{State, state, is_empty, push_all, bad_state, room_for}
use Rattle.conic_writer.specs.Entries.{Entry, elements_of, joint_word}
use Rattle.calls.specs.declared.Call.{Call}
use Rattle.calls.specs.declared.BuildError.{BuildError}
use Rattle.calls.specs.declared.BuildError.TheVariants.{BadRecord, NoRoom}
use Rattle.calls.specs.Calls.{Outcome, outcome, record_of, refusal_of, entries_of, attempt, step}

-- 0 is no refusal's number
pub never_zero : (e : BuildError) (vs : List ℕ) (fs : List Float) (w : ℕ) (s : State) → refusal_of e vs fs ≡ outcome 0 w s → ⊥
never_zero (BadRecord b) vs fs w s h = let z : ◌≡◌ {A = ℕ} 1 0 = ap (λ (o : Outcome). o.number) h in omega arith
never_zero (NoRoom b) vs fs w s h = let z : ◌≡◌ {A = ℕ} 5 0 = ap (λ (o : Outcome). o.number) h in omega arith

module _ (s : State) (e : BuildError) (vs : List ℕ) (fs : List Float) where
  kept_go : (es : List Entry) (p q : Bool) → refusal_of e vs fs ≡ cond p (outcome 1 0 s) (cond q (outcome 0 (joint_word es) (push_all s (elements_of es))) (outcome 5 0 s)) → state (record_of e) vs fs ≡ s
  kept_go es true q h = ap (λ (o : Outcome). o.state) h
  kept_go es false true h = absurd (never_zero e vs fs _ _ h)
  kept_go es false false h = ap (λ (o : Outcome). o.state) h

  kept : (c : Call) → refusal_of e vs fs ≡ step s c → state (record_of e) vs fs ≡ s
  unfolding step attempt
  kept c h = kept_go (entries_of (is_empty s.builder) s.builder.pen c) (bad_state s) (room_for s (elements_of (entries_of (is_empty s.builder) s.builder.pen c))) h

  pub record_kept : (c : Call) → refusal_of e vs fs ≡ step s c → record_of e ≡ s.builder
  record_kept c h = ap (λ (x : State). x.builder) (kept c h)
