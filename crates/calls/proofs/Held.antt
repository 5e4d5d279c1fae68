-- A builder that is not empty takes no opening move. Assumes nothing.
use mathlib.Core.Path.{◌≡◌, refl}
use Prim.Native.Nat.{ℕ}
use Rattle.std.proofs.lemmas.Bool.{ne_eqb}
use Rattle.stream.specs.declared.Builder.{Builder}
use Rattle.stream.specs.Stream.{State, is_empty, push_all}
use Rattle.conic_writer.specs.Entries.{elements_of}
use Rattle.calls.specs.Calls.{opening, opened_need}

pub need_held : (b : Builder) (v p : ℕ) → (b.verbs ≡ 0 → ⊥) → record { verbs = v; points = p } ≡ opened_need (is_empty b) v p
need_held b v p h = rw (ne_eqb b.verbs 0 h) refl

pub state_held : (s : State) → (s.builder.verbs ≡ 0 → ⊥) → s ≡ push_all s (elements_of (opening (is_empty s.builder)))
unfolding push_all elements_of
state_held s h = rw (ne_eqb s.builder.verbs 0 h) refl
