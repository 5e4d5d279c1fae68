use mathlib.Core.Path.{ap, ◌∙◌}
use Rattle.std.proofs.Common.{rules}
use Rattle.stream.specs.Stream.{is_empty}
use Rattle.calls.specs.Calls.{admit_of}
use Rattle.calls.proofs.Largest.{largest, admitted_or}
use Rattle.calls.proofs.admit_lowered.Goals as goal

pub returns : goal.returns
returns c =
    let a = c.args in
    admitted_or a.b a.verbs a.floats _ _ _ _ _ (largest (is_empty a.b) a.l) (c.admit.ensures ∙ ap (admit_of a.b a.verbs a.floats) c.opened_need-largest.ensures) c.or_else.ensures (λ e q. search rules)
