use Rattle.ffi_path.proofs.Lending.{filled}
use Rattle.ffi_outline.specs.Outlines.{numbers_of}
use Rattle.ffi_outline.proofs.store_need.Goals as goal

pub returns : goal.returns
unfolding numbers_of
returns c = filled c.args.need.now (numbers_of c.args.n) c.requires
