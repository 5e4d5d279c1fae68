-- A closed triangle as a list of building calls, and what is seen of a list of calls: every answer and the state
-- behind the last. Definitions only.
use Rattle.std.specs.Prelude.{List, [], ◌∷◌, ℕ, Float, Result, ⊤}
use Rattle.geometry.specs.declared.Point.{Point}
use Rattle.stream.specs.Stream.{State, state}
use Rattle.calls.specs.declared.Call.{Call}
use Rattle.calls.specs.declared.Call.TheVariants as call
use Rattle.calls.specs.declared.BuildError.{BuildError}
use Rattle.calls.specs.Calls.{step}
use Rattle.builder_in_place.specs.InPlace.{answer_number}
use Rattle.book.specs.Machine.{run, answers}
use Rattle.book.specs.declared.Reply.{Reply}
use Rattle.book.specs.Book.{reply, builder_machine}
use Rattle.builder_in_place.specs.declared.TriangleAnswers.{TriangleAnswers}

-- a move to p, lines to q and r, and a close
abbrev pub sides : Point → Point → Point → List Call
sides p q r = call.MoveTo p ∷ call.LineTo q ∷ call.LineTo r ∷ call.Close ∷ []

-- the answers of a list of calls one after the other, and the record and the buffers that they leave
pub record Trace : Type 0 where
  pub replies : List Reply
  pub state : State

unfoldable pub trace_of : State → List Call → Trace
trace_of s cs = record { replies = answers (builder_machine step) s cs; state = run (builder_machine step) s cs }

-- the reply of a call in place, which has no joint word
abbrev pub reply_in_place : Result ⊤ BuildError → Reply
reply_in_place r = reply (answer_number r) 0

-- the trace of a triangle's calls, which left the buffers at vs and fs
abbrev pub triangle_trace : TriangleAnswers → List ℕ → List Float → Trace
triangle_trace t vs fs = record {
  replies = reply_in_place t.moved ∷ reply_in_place t.second ∷ reply_in_place t.third ∷ reply_in_place t.closed ∷ [];
  state = state t.builder vs fs;
}
