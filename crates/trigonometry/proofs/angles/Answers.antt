use Rattle.std.proofs.Common.{rules}
use Rattle.trigonometry.specs.Stages.{place_of}
use Rattle.trigonometry.proofs.Choices.{side_by_side}
use Rattle.trigonometry.proofs.angles.Goals as goal

pub returns-then-all_plain : goal.returns-then-all_plain
returns-then-all_plain g c =
    side_by_side c.args.ys c.args.xs _ _ _ (c.all_plain.ensures c.if-all_plain.true) (c.pairwise.ensures place_of (λ a b r e. search rules)) c.main_angles.ensures c.narrow.ensures
