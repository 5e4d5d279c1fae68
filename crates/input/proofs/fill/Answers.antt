-- `input::fill` meets its contract.
use Rattle.std.proofs.Common.{◌-◌, length, rules, sym, subst}
use Rattle.std.specs.Io.KnownBytes.{Consumes}
use Rattle.std.proofs.KnownBytes.{Consumes-trans}
use Rattle.input.proofs.Reading.{take-filled}
use Rattle.input.proofs.fill.Goals as goal

pub loop-held-preserved : goal.loop-held-preserved
loop-held-preserved g c =
    let loop = c.loop-held in
    let piece = take-filled loop.held (length loop.file - loop.held) c.in-Ok.n loop.file c.read.new.buf loop.invariant.1 c.in-Ok.ensures.bound.0 in
    (search rules, search rules, subst (Consumes _ _) (sym piece) (Consumes-trans _ _ _ _ _ loop.invariant.2 c.in-Ok.ensures.bytes.0))
