use Rattle.building.proofs.EveryList.{conic-fits, outline-fits}
use Rattle.building.proofs.every_call_finds_room.Goals as goal

pub returns : goal.returns
returns c = record { conics = conic-fits; outlines = outline-fits }
