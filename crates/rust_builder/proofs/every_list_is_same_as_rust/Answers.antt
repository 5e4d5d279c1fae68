use Rattle.rust_builder.proofs.EveryList.{every_list, fresh_list}
use Rattle.rust_builder.proofs.every_list_is_same_as_rust.Goals as goal

pub returns : goal.returns
returns c = record { empty = every_list; fresh = fresh_list }
