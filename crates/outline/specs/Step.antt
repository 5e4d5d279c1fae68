-- The seven building calls: the six of path.rs, and the outline of a shape. Every public call's contract is an
-- equation with `step`. Definitions only.
use Rattle.std.specs.Prelude.{List, Bool, true, false}
use Rattle.geometry.specs.declared.Point.{Point}
use Rattle.stream.specs.Stream.{State}
use Rattle.conic_writer.specs.Entries.{Entry}
use Rattle.calls.specs.declared.Call.TheVariants as call
use Rattle.calls.specs.Calls as calls
use Rattle.calls.specs.Calls.{Outcome, without_word, attempt}
use Rattle.outline_need.specs.Entries.{outline_entries}
use Rattle.outline.specs.declared.BuildingCall.{BuildingCall}
use Rattle.outline.specs.declared.BuildingCall.TheVariants.{MoveTo, LineTo, QuadTo, ConicTo, CubicTo, Close, AddTo}

-- what a call adds to a path that is empty or not, and whose pen is p
unfoldable pub entries_of : Bool → Point → BuildingCall → List Entry
entries_of empty p (MoveTo a) = calls.entries_of empty p (call.MoveTo a)
entries_of empty p (LineTo a) = calls.entries_of empty p (call.LineTo a)
entries_of empty p (QuadTo a b) = calls.entries_of empty p (call.QuadTo a b)
entries_of empty p (ConicTo a b w) = calls.entries_of empty p (call.ConicTo a b w)
entries_of empty p (CubicTo a b c) = calls.entries_of empty p (call.CubicTo a b c)
entries_of empty p Close = calls.entries_of empty p call.Close
entries_of empty p (AddTo shape) = outline_entries shape

-- whether a call's answer carries the joint word of what it added: an outline's has none
abbrev pub answers_word : BuildingCall → Bool
answers_word (MoveTo a) = true
answers_word (LineTo a) = true
answers_word (QuadTo a b) = true
answers_word (ConicTo a b w) = true
answers_word (CubicTo a b c) = true
answers_word Close = true
answers_word (AddTo shape) = false

-- what a call leaves and answers; an outline: all of its entries, or nothing
unfoldable pub step : State → BuildingCall → Outcome
step s (MoveTo a) = calls.step s (call.MoveTo a)
step s (LineTo a) = calls.step s (call.LineTo a)
step s (QuadTo a b) = calls.step s (call.QuadTo a b)
step s (ConicTo a b w) = calls.step s (call.ConicTo a b w)
step s (CubicTo a b c) = calls.step s (call.CubicTo a b c)
step s Close = calls.step s call.Close
step s (AddTo shape) = without_word (attempt s (outline_entries shape))
