-- `replies::placing::put_reply` meets its contract. Assumes nothing.
use Rattle.std.proofs.Common.{◌≡◌, ◌∙◌, ap, sym}
use Rattle.replies.specs.Placed.{put_reply}
use Rattle.replies.proofs.placing.put_reply.Goals as goal

pub returns-in-Malformed-clause-put : goal.returns-in-Malformed-clause-put
unfolding put_reply
returns-in-Malformed-clause-put c = c.numbered-in-Malformed.ensures ∙ ap (put_reply _) (sym c.in-Malformed.is)
