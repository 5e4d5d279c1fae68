use Rattle.ffi_path.proofs.Lending.{filled}
use Rattle.ffi_reader.specs.Segments.{rect_floats}
use Rattle.ffi_reader.proofs.store_rect.Goals as goal

pub returns : goal.returns
unfolding rect_floats
returns c = filled c.args.rect.now (rect_floats c.args.r) c.requires
