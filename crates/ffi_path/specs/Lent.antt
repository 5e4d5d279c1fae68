-- A building call on a record that stands in lent numbers: three whole numbers, which are the verb count, the point
-- count and a joint word, and four floats, which are the contour's start and the pen. Definitions only.
use Rattle.std.specs.Prelude.{◌≡◌, Bool, ◌&&◌, List, [], ◌∷◌, ℕ, length, get_or, Float, Option, Some, None, if◌then◌else◌, ◌==◌}
use Rattle.std.specs.Float.{nan}
use Rattle.ffi_floats.specs.Boundary.{wrong_length}
use Rattle.geometry.specs.declared.Point.{Point}
use Rattle.stream.specs.declared.Builder.{Builder}
use Rattle.stream.specs.Stream.{State, state}
use Rattle.calls.specs.declared.Call.{Call}
use Rattle.calls.specs.Calls.{Outcome, step}

abbrev pub point : Float → Float → Point
point x y = record { x = x; y = y }

-- ---- the record in lent numbers

unfoldable pub builder_at : List ℕ → List Float → Builder
builder_at counts places =
    record {
      verbs = get_or counts 0 0;
      points = get_or counts 1 0;
      start = point (get_or places 0 nan) (get_or places 1 nan);
      pen = point (get_or places 2 nan) (get_or places 3 nan);
    }

-- with the joint word of a call
unfoldable pub counts_of : Builder → ℕ → List ℕ
counts_of b word = b.verbs ∷ b.points ∷ word ∷ []

unfoldable pub places_of : Builder → List Float
places_of b = b.start.x ∷ b.start.y ∷ b.pen.x ∷ b.pen.y ∷ []

-- slices of these lengths hold a record
unfoldable pub fitting : ℕ → ℕ → Bool
fitting counts places = counts == 3 && places == 4

-- the lengths of slices that hold a record
abbrev pub HoldsRecord : List ℕ → List Float → Type 0
HoldsRecord counts places = (length counts ≡ 3) × (length places ≡ 4)

-- what is made of the record in slices that hold one, or else an answer for slices of a wrong length
abbrev pub from_record : {X : Type 0} → List ℕ → List Float → (Builder → X) → X → X
from_record counts places f wrong =
    if fitting (length counts) (length places) then f (builder_at counts places) else wrong

-- the record in slices, where they hold one
unfoldable pub record_in : List ℕ → List Float → Option Builder
record_in counts places = from_record counts places (λ b. Some b) None

-- ---- what a call answers

-- the number that is returned, and what is in the four lent slices
pub record PathAnswer : Type 0 where
  pub number : ℕ
  pub counts : List ℕ
  pub places : List Float
  pub verbs : List ℕ
  pub floats : List Float

abbrev pub path_answer : ℕ → List ℕ → List Float → List ℕ → List Float → PathAnswer
path_answer n counts places vs fs =
    record { number = n; counts = counts; places = places; verbs = vs; floats = fs }

-- an accepted call leaves its record and its joint word, which is 0 where it has none; a refused one leaves every
-- slice as it was
unfoldable pub answer_by : Outcome → List ℕ → List Float → PathAnswer
answer_by o counts places =
    if o.number == 0
    then path_answer 0 (counts_of o.state.builder o.word) (places_of o.state.builder)
    o.state.verbs o.state.floats
    else path_answer o.number counts places o.state.verbs o.state.floats

-- a call of any kind, given by what it makes of a state
abbrev pub lent_by : (State → Outcome) → List ℕ → List Float → List ℕ → List Float → PathAnswer
lent_by f counts places vs fs =
    from_record counts places
    (λ b. answer_by (f (state b vs fs)) counts places)
    (path_answer wrong_length counts places vs fs)

-- one of the six
unfoldable pub lent_step : Call → List ℕ → List Float → List ℕ → List Float → PathAnswer
lent_step c counts places vs fs = lent_by (λ (s : State). step s c) counts places vs fs
