use Rattle.std.proofs.Common.{rules}
use Rattle.trigonometry.proofs.Choices.{by_stages}
use Rattle.trigonometry.proofs.main_angles.Goals as goal

pub returns : goal.returns
returns g c = by_stages c.args.p _ _ _ (c.each.ensures.mapped _ (λ a b e. search rules)) c.arctangents-v.ensures (c.pairwise.ensures _ (λ a b r e. search rules))
