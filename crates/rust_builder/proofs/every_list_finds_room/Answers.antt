use Rattle.rust_builder.proofs.EveryList.{finds_room}
use Rattle.rust_builder.proofs.every_list_finds_room.Goals as goal

pub returns : goal.returns
returns c = finds_room
