-- The six building calls: what each adds, when it is refused, and what it leaves in the record and in the buffers.
-- Every public call's contract is an equation with `step` (docs/SPECIFICATION.md, "Building calls"). Definitions only.
use Rattle.std.specs.Prelude.{List, [], ◌∷◌, ◌++◌, Bool, true, false, ℕ, ◌+◌, Float, Result, Ok, Err, ⊤, if◌then◌else◌, codes}
use Rattle.geometry.specs.declared.Point.{Point}
use Rattle.conic.specs.declared.Conic.{Conic}
use Rattle.conic.specs.Conic.{lower_of}
use Rattle.stream.specs.declared.Builder.{Builder}
use Rattle.stream.specs.declared.Element.TheVariants.{Move, Line, Quad, Cubic, Close}
use Rattle.stream.specs.declared.Need.{Need}
use Rattle.stream.specs.Stream.{State, state, origin, is_empty, bad_record, bad_record_number, bad_record_text, has_room, bad_state, room_for, push_all}
use Rattle.conic_writer.specs.declared.Written.{Written}
use Rattle.conic_writer.specs.Entries.{Entry, plain, elements_of, joint_word, lowered_of}
use Rattle.calls.specs.declared.Call.{Call}
use Rattle.calls.specs.declared.Call.TheVariants as call
use Rattle.calls.specs.declared.BuildError.{BuildError}
use Rattle.calls.specs.declared.BuildError.TheVariants.{BadRecord, NoRoom}

-- ---- what a call adds

-- on a path with no element, first a move to (0, 0)
abbrev pub opening : Bool → List Entry
opening true = plain (Move origin) ∷ []
opening false = []

-- a close on a path with no element adds nothing
abbrev pub closing : Bool → List Entry
closing true = []
closing false = plain Close ∷ []

-- a conic starts at the pen, on a path with no element at (0, 0)
abbrev pub conic_from : Bool → Point → Point → Point → Float → Conic
conic_from empty pen ctrl to weight = record {
  from = if empty then origin else pen;
  ctrl = ctrl;
  to = to;
  weight = weight;
}

-- what a call adds to a path that is empty or not, and whose pen is p
unfoldable pub entries_of : Bool → Point → Call → List Entry
entries_of empty p (call.MoveTo a) = plain (Move a) ∷ []
entries_of empty p (call.LineTo a) = opening empty ++ plain (Line a) ∷ []
entries_of empty p (call.QuadTo a b) = opening empty ++ plain (Quad a b) ∷ []
entries_of empty p (call.ConicTo a b w) = opening empty ++ lowered_of (lower_of (conic_from empty p a b w))
entries_of empty p (call.CubicTo a b c) = opening empty ++ plain (Cubic a b c) ∷ []
entries_of empty p call.Close = closing empty

-- v verbs and p points, with those of the opening move
abbrev pub opened_need : Bool → ℕ → ℕ → Need
opened_need true v p = record { verbs = v + 1; points = p + 1 }
opened_need false v p = record { verbs = v; points = p }

-- ---- what a call answers

-- refusal 5, and its text
abbrev pub no_room_number : ℕ
no_room_number = 5

abbrev pub no_room_text : List ℕ
no_room_text = codes "no room in the buffers"

-- the refusal's number, 0 where nothing is refused; the joint word, 0 where there is none; the record and the buffers
pub record Outcome : Type 0 where
  pub number : ℕ
  pub word : ℕ
  pub state : State

abbrev pub outcome : ℕ → ℕ → State → Outcome
outcome n w s = record { number = n; word = w; state = s }

-- the same without its joint word
abbrev pub without_word : Outcome → Outcome
without_word o = record o { word = 0 }

-- all of the entries, or nothing: refusal 1 before 5
unfoldable pub attempt : State → List Entry → Outcome
attempt s es =
    if bad_state s then outcome bad_record_number 0 s
    else (if room_for s (elements_of es) then outcome 0 (joint_word es) (push_all s (elements_of es))
    else outcome no_room_number 0 s)

-- a call of a kind that is given by its entries, and one of the six
abbrev pub step_by : {C : Type 0} → (Bool → Point → C → List Entry) → State → C → Outcome
step_by entries s c = attempt s (entries (is_empty s.builder) s.builder.pen c)

unfoldable pub step : State → Call → Outcome
step s c = step_by entries_of s c

-- a refusal's number, and the record that it returns
abbrev pub number_of : BuildError → ℕ
number_of (BadRecord b) = bad_record_number
number_of (NoRoom b) = no_room_number

abbrev pub record_of : BuildError → Builder
record_of (BadRecord b) = b
record_of (NoRoom b) = b

-- its text
abbrev pub refusal_text : BuildError → List ℕ
refusal_text (BadRecord b) = bad_record_text
refusal_text (NoRoom b) = no_room_text

abbrev pub refusal_of : BuildError → List ℕ → List Float → Outcome
refusal_of e vs fs = outcome (number_of e) 0 (state (record_of e) vs fs)

-- the outcome of a call that left the buffers at vs and fs
abbrev pub outcome_of : Result Builder BuildError → List ℕ → List Float → Outcome
outcome_of (Ok b) vs fs = outcome 0 0 (state b vs fs)
outcome_of (Err e) vs fs = refusal_of e vs fs

abbrev pub conic_outcome_of : Result Written BuildError → List ℕ → List Float → Outcome
conic_outcome_of (Ok w) vs fs = outcome 0 w.word (state w.builder vs fs)
conic_outcome_of (Err e) vs fs = refusal_of e vs fs

-- an answer with a joint word beside its record
abbrev pub with_word : Result Builder BuildError → ℕ → Result Written BuildError
with_word (Ok b) w = Ok (record { builder = b; word = w })
with_word (Err e) w = Err e

-- the refusal of a need in buffers of so many bytes and floats, if there is one
unfoldable pub admit_of : Builder → ℕ → ℕ → Need → Result ⊤ BuildError
admit_of b verb_room float_room n =
    if bad_record b verb_room float_room then Err (BadRecord b)
    else (if has_room b verb_room float_room n then Ok tt
    else Err (NoRoom b))
