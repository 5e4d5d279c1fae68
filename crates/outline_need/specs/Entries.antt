-- What an outline adds to a path: the entries of its calls, one call after the other, each from the start and the pen
-- that the calls before it left. Definitions only.
use Rattle.std.specs.Prelude.{◌≡◌, List, [], ◌∷◌, ◌++◌, false}
use Rattle.geometry.specs.declared.Point.{Point}
use Rattle.stream.specs.declared.Element.{Element}
use Rattle.stream.specs.declared.Need.{Need}
use Rattle.stream.specs.Stream.{State, origin, start_after, pen_after, need_of, push_all, Fits}
use Rattle.conic_writer.specs.Entries.{Entry, elements_of}
use Rattle.calls.specs.declared.Call.{Call}
use Rattle.calls.specs.Calls.{entries_of}
use Rattle.shape.specs.declared.RoundSuperellipse.{RoundSuperellipse}
use Rattle.outline_corners.specs.declared.Corner.{Corner}
use Rattle.outline_corners.specs.declared.Corner.TheVariants.{Square, Round}
use Rattle.outline_corners.specs.Calls.{outline_calls}

-- the entries of calls on a path that is not empty
unfoldable pub entries_along : Point → Point → List Call → List Entry
entries_along s p [] = []
entries_along s p (c ∷ cs) =
    let es = entries_of false p c in
    es ++ entries_along (start_after s (elements_of es)) (pen_after s p (elements_of es)) cs

-- an outline's: it begins with a move, so the path before it does not matter
unfoldable pub outline_entries : RoundSuperellipse → List Entry
outline_entries shape = entries_along origin origin (outline_calls shape)

-- where calls leave the start and the pen
abbrev pub start_along : Point → Point → List Call → Point
start_along s p cs = start_after s (elements_of (entries_along s p cs))

abbrev pub pen_along : Point → Point → List Call → Point
pen_along s p cs = pen_after s p (elements_of (entries_along s p cs))

-- ---- what the counters and the writers of an outline's parts say

-- from the pen p on calls need n and lead to the pen q, wherever the start is, and leave it there
pub record Passes (p : Point) (cs : List Call) (q : Point) (n : Need) : Type 0 where
  pub need : (s : Point) → need_of (elements_of (entries_along s p cs)) ≡ n
  pub start : (s : Point) → start_along s p cs ≡ s
  pub pen : (s : Point) → pen_along s p cs ≡ q

-- where a corner ends
abbrev pub last_point : Corner → Point
last_point (Square p q) = q
last_point (Round r) = r.backwards.first.to

-- calls on a state, and room for them

abbrev pub elements_along : State → List Call → List Element
elements_along s cs = elements_of (entries_along s.builder.start s.builder.pen cs)

unfoldable pub push_calls : State → List Call → State
push_calls s cs = push_all s (elements_along s cs)

abbrev pub RoomAlong : State → List Call → Type 0
RoomAlong s cs = Fits s.builder s.verbs s.floats (elements_along s cs)
