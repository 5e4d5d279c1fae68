use Rattle.ieee.proofs.Specials.{inf32_is, minus_inf32_is}
use Rattle.trigonometry.proofs.Choices.{all_plain}
use Rattle.trigonometry.proofs.Specials.{zero_is}
use Rattle.trigonometry.proofs.all_plain.Goals as goal

pub returns : goal.returns
returns g c e = all_plain c.args.ys c.args.xs (rw (inf32_is, minus_inf32_is, zero_is) at (rw (c.all_between.ensures, c.all_between-2.ensures, c.all_differ.ensures) at e))
