use Rattle.shape.proofs.ReadBack.{shapes_read_back}
use Rattle.shape.proofs.layout.shapes_read_back.Goals as goal

pub returns : goal.returns
returns c = shapes_read_back
