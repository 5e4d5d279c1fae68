-- `text::floats::read_float` meets its contract. Assumes nothing.
use Rattle.std.proofs.Common.{rules, ◌≡◌, Some, sym, length}
use Rattle.text.specs.Numbers.{float_of, number_of}
use Rattle.text.proofs.Spelling.{digits-below}
use Rattle.text.proofs.floats.read_float.Goals as goal

pub returns : goal.returns
unfolding float_of
returns g c =
    let n = c.in_ok-bits.bits in
    let e : number_of 16 c.args.s.now ≡ Some n = sym c.in_ok-bits.ensures in
    let k : length c.args.s.now ≡ g.F.FloatWord.DIGITS = search rules in
    let v : c.from_bits.result ≡ g.F.FloatWord.of_bits n = c.from_bits.ensures (digits-below _ _ _ k e) in
    search rules
