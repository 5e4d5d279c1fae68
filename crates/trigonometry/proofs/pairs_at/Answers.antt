use Rattle.std.proofs.Common.{rules}
use Rattle.trigonometry.proofs.Apart.{together_again, bounded_of, pairs_bounded}
use Rattle.trigonometry.proofs.pairs_at.Goals as goal

pub returns : goal.returns
returns g c = rw (c.sixteenfold.ensures, together_again _ _ c.sixteenths.ensures, c.each.ensures.mapped bounded_of (λ a b e. search rules), pairs_bounded)
