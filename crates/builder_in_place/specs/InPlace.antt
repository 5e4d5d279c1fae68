-- What a call in place answers: nothing, or the refusal, since the record comes back where it lies. Definitions only.
use Rattle.std.specs.Prelude.{List, ℕ, Float, Result, Ok, Err, ⊤}
use Rattle.stream.specs.declared.Builder.{Builder}
use Rattle.stream.specs.Stream.{state}
use Rattle.calls.specs.declared.BuildError.{BuildError}
use Rattle.calls.specs.Calls.{Outcome, outcome, number_of}

-- the number of an answer, 0 where nothing is refused
abbrev pub answer_number : Result ⊤ BuildError → ℕ
answer_number (Ok x) = 0
answer_number (Err e) = number_of e

-- the outcome of a call that gave that answer, and left the lent record at b and the buffers at vs and fs; the three
-- calls have no joint word
abbrev pub outcome_in_place : Builder → Result ⊤ BuildError → List ℕ → List Float → Outcome
outcome_in_place b r vs fs = outcome (answer_number r) 0 (state b vs fs)
