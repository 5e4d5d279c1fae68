use mathlib.Core.Path.{ap, ◌∙◌}
use Rattle.stream.specs.Stream.{origin, need_of}
use Rattle.conic_writer.specs.Entries.{elements_of}
use Rattle.outline_corners.specs.Calls.{Drawing, calls_in, outline_calls}
use Rattle.outline_need.specs.Entries.{entries_along, outline_entries}
use Rattle.outline_need.proofs.need.Goals as goal

pub returns : goal.returns
unfolding outline_entries outline_calls
returns c = c.outline_need.ensures ∙ ap (λ (d : Drawing). need_of (elements_of (entries_along origin origin (calls_in d)))) c.draw.ensures
