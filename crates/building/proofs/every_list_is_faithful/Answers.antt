use Rattle.building.proofs.EveryList.{every-list, fresh-list}
use Rattle.building.proofs.every_list_is_faithful.Goals as goal

pub returns : goal.returns
returns c = record { empty = every-list; fresh = fresh-list }
