use Rattle.std.proofs.Common.{rules}
use Rattle.calls.proofs.Largest.{admitted_or}
use Rattle.outline.proofs.OutlineCall.{outline_covered}
use Rattle.outline.proofs.admit_outline.Goals as goal

pub returns : goal.returns
returns c =
    let a = c.args in
    admitted_or a.b a.verbs a.floats _ _ _ _ _ (outline_covered a.o) c.admit.ensures c.or_else.ensures (λ e q. search rules)
