use Rattle.std.proofs.Common.{sym, ◌∙◌}
use Rattle.panel_file.proofs.Written.{placed, not_placed}
use Rattle.panel_file.proofs.writing.put_record.Goals as goal

pub returns-in_default-clause-bytes : goal.returns-in_default-clause-bytes
returns-in_default-clause-bytes c = not_placed _ _ _ (sym c.in_default.is ∙ c.end_within.ensures)

pub put-requires : goal.put-requires
put-requires c = (placed _ _ _ _ (sym c.end_within.ensures ∙ c.in-Some.is)).inside

pub returns-clause-bytes : goal.returns-clause-bytes
returns-clause-bytes c = c.put.ensures ∙ sym (placed _ _ _ _ (sym c.end_within.ensures ∙ c.in-Some.is)).bytes
