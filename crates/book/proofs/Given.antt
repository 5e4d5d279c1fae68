-- Calls that are given by what they add to a path.
use mathlib.Core.Path.{◌≡◌}
use mathlib.Core.List.{List, [], ◌∷◌}
use mathlib.Core.Bool.{Bool, true, cond}
use Rattle.geometry.specs.declared.Point.{Point}
use Rattle.stream.specs.declared.Element.{Element}
use Rattle.stream.specs.declared.Element.TheVariants.{Move, Line, Quad, Cubic, Close}
use Rattle.stream.specs.Stream.{State, is_empty}
use Rattle.conic_writer.specs.Entries.{Entry, elements_of}
use Rattle.calls.specs.Calls.{Outcome, outcome, attempt}

-- nothing, or a move and what follows it
abbrev pub Opens : List Element → Type 0
Opens [] = Unit {0}
Opens (Move p ∷ ks) = Unit {0}
Opens (Line p ∷ ks) = ⊥
Opens (Quad p q ∷ ks) = ⊥
Opens (Cubic p q r ∷ ks) = ⊥
Opens (Close ∷ ks) = ⊥

-- an outcome with its joint word, or with none
abbrev pub with_word_if : Bool → Outcome → Outcome
with_word_if w o = outcome o.number (cond w o.word 0) o.state

-- a step attempts the call's entries; on an empty path these do not depend on the pen, and begin with a move if there are any
pub record GivenByEntries {C : Type 0} (step : State → C → Outcome) (entries : Bool → Point → C → List Entry) (answers_word : C → Bool) : Type 0 where
  pub given : (s : State) (c : C) → step s c ≡ with_word_if (answers_word c) (attempt s (entries (is_empty s.builder) s.builder.pen c))
  pub no_pen : (c : C) (p q : Point) → entries true p c ≡ entries true q c
  pub opens : (c : C) (p : Point) → Opens (elements_of (entries true p c))
