-- One machine simulates another: a relation that each call keeps is kept by every list, with the same answers.
use mathlib.Core.Path.{◌≡◌, refl, ap₂}
use mathlib.Core.List.{List, [], ◌∷◌}
use Rattle.book.specs.Machine.{Machine, run, answers}

-- each call keeps R between the two states, and both answer it alike
pub record Simulates {S T C A : Type 0} (m : Machine S C A) (n : Machine T C A) (R : S → T → Type 0) : Type 0 where
  pub keeps : (s : S) (t : T) (c : C) → R s t → R (m.step s c) (n.step t c)
  pub agrees : (s : S) (t : T) (c : C) → R s t → m.says s c ≡ n.says t c

module _ {S T C A : Type 0} {m : Machine S C A} {n : Machine T C A} {R : S → T → Type 0} (h : Simulates m n R) where
  pub run-keeps : (s : S) (t : T) (cs : List C) → R s t → R (run m s cs) (run n t cs)
  unfolding run
  run-keeps s t [] r = r
  run-keeps s t (c ∷ cs) r = run-keeps (m.step s c) (n.step t c) cs (h.keeps s t c r)

  pub run-agrees : (s : S) (t : T) (cs : List C) → R s t → answers m s cs ≡ answers n t cs
  unfolding answers
  run-agrees s t [] r = refl
  run-agrees s t (c ∷ cs) r = ap₂ (λ (x : A) (y : List A). x ∷ y) (h.agrees s t c r) (run-agrees (m.step s c) (n.step t c) cs (h.keeps s t c r))
