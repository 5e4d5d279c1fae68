use Rattle.trigonometry.proofs.Apart.{together_again, four_times}
use Rattle.trigonometry.proofs.sixteenfold.Goals as goal

pub returns : goal.returns
returns g c =
    let first = together_again _ _ c.doubled.ensures in
    let second = together_again _ _ c.doubled-2.ensures in
    let third = together_again _ _ c.doubled-3.ensures in
    rw (c.doubled-4.ensures, third, second, first, four_times)
