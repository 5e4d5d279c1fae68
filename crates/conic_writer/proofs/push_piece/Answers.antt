use Rattle.stream.proofs.Put.{put_one}
use Rattle.conic_writer.proofs.push_piece.Goals as goal

pub returns-clause-verbs_after : goal.returns-clause-verbs_after
returns-clause-verbs_after c = put_one c.args.verbs.now c.args.v 2 c.requires.verb_room
