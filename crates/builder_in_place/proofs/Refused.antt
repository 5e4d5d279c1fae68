-- A refusal of a call in place leaves the record.
use mathlib.Core.Path.{◌≡◌, sym, ap, subst, ◌∙◌}
use mathlib.Core.List.{List}
use Prim.Native.Nat.{ℕ}
use lib.Ieee.{Float}
use Rattle.std.specs.Prelude.{⊤, IfErr}
use Rattle.std.proofs.Common.{Result, Err}
use Rattle.stream.specs.declared.Builder.{Builder}
use Rattle.stream.specs.Stream.{State}
use Rattle.calls.specs.declared.Call.{Call}
use Rattle.calls.specs.declared.BuildError.{BuildError}
use Rattle.calls.specs.Calls.{record_of, refusal_of, step}
use Rattle.calls.proofs.Refused.{record_kept}
use Rattle.builder_in_place.specs.InPlace.{outcome_in_place}

module _ (s : State) (c : Call) (vs : List ℕ) (fs : List Float) (r : Result ⊤ BuildError) (e : BuildError) (q : r ≡ Err e) (h : refusal_of e vs fs ≡ step s c) where
  pub outcome-kept : outcome_in_place s.builder r vs fs ≡ step s c
  outcome-kept = ap (λ (x : Result ⊤ BuildError). outcome_in_place s.builder x vs fs) q ∙ sym (ap (λ (b : Builder). outcome_in_place b (Err e) vs fs) (record_kept s e vs fs c h)) ∙ h

  pub record_is_kept : IfErr r (λ x. record_of x ≡ s.builder)
  record_is_kept = subst (λ (x : Result ⊤ BuildError). IfErr x (λ y. record_of y ≡ s.builder)) (sym q) (record_kept s e vs fs c h)
