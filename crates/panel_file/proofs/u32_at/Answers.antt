-- `panel_file::u32_at` meets its contract. Assumes nothing.
use Rattle.std.proofs.Common.{◌≡◌, ◌+◌, get_or, ap, arith}
use Rattle.panel_file.specs.Bytes.{u16_at, u32_at}
use Rattle.panel_file.proofs.u32_at.Goals as goal

pub returns : goal.returns
unfolding u32_at u16_at
returns c =
    let third : get_or c.args.file.now (c.args.at + 2 + 1) 0 ≡ get_or c.args.file.now (c.args.at + 3) 0 = ap (λ i. get_or c.args.file.now i 0) (omega arith) in
    omega (arith, c.from_le_bytes.ensures, third)
