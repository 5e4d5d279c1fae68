use Rattle.calls.proofs.Opened.{one-need}
use Rattle.calls.specs.Calls.{entries_of}
use Rattle.conic_writer.specs.Entries.{elements_of}
use Rattle.stream.specs.Stream.{sizes_of}
use mathlib.Core.Path.{◌∙◌}
use Rattle.calls.proofs.need.Goals as goal

pub returns-in-MoveTo : goal.returns-in-MoveTo
unfolding entries_of elements_of sizes_of
returns-in-MoveTo c = rw c.in-MoveTo.is

pub returns-in-LineTo : goal.returns-in-LineTo
unfolding entries_of
returns-in-LineTo c = rw c.in-LineTo.is (c.opened_need.ensures ∙ one-need c.args.b _)

pub returns-in-QuadTo : goal.returns-in-QuadTo
unfolding entries_of
returns-in-QuadTo c = rw c.in-QuadTo.is (c.opened_need-in-QuadTo.ensures ∙ one-need c.args.b _)

pub returns-in-ConicTo : goal.returns-in-ConicTo
unfolding entries_of
returns-in-ConicTo c = rw (c.in-ConicTo.is, ← c.conic_from.ensures, ← c.lower.ensures) c.lowered_need.ensures

pub returns-in-CubicTo : goal.returns-in-CubicTo
unfolding entries_of
returns-in-CubicTo c = rw c.in-CubicTo.is (c.opened_need-in-CubicTo.ensures ∙ one-need c.args.b _)

pub returns-in-Close : goal.returns-in-Close
unfolding entries_of
returns-in-Close c = rw c.in-Close.is c.close_need.ensures
