-- Machines that take calls, one after the other. Definitions only.
use Rattle.std.specs.Prelude.{List, [], ◌∷◌}

-- what a call leaves, and what it answers
pub record Machine (S C A : Type 0) : Type 0 where
  pub step : S → C → S
  pub says : S → C → A

-- the state after a list of calls
unfoldable pub run : {S C A : Type 0} → Machine S C A → S → List C → S
run m s [] = s
run m s (c ∷ cs) = run m (m.step s c) cs

-- the answers on the way
unfoldable pub answers : {S C A : Type 0} → Machine S C A → S → List C → List A
answers m s [] = []
answers m s (c ∷ cs) = m.says s c ∷ answers m (m.step s c) cs
