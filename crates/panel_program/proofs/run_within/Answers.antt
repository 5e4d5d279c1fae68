-- `panel_program::run_within` meets its contract: the file has room for 65,537 bytes.
use Rattle.std.proofs.Common.{take, ap, ap₂, ◌∙◌, subst}
use Rattle.std.proofs.Math.Seq.{take-append_seam}
use Rattle.std.proofs.lemmas.Option.{IfSome_then}
use Rattle.std.specs.Io.KnownBytes.{Appends}
use Rattle.panel_program.specs.Running.{verdict_of}
use Rattle.panel_program.proofs.run_within.Goals as goal

pub returns-in-Ok-write_all-clause-verdict : goal.returns-in-Ok-write_all-clause-verdict
returns-in-Ok-write_all-clause-verdict g c =
    IfSome_then _ c.in-Ok.ensures.bytes (λ bytes e. c.verdict_on.ensures ∙ ap verdict_of (e ∙ ap (λ n. take n bytes) c.requires.file))

pub returns-in-Ok-write_all-clause-written : goal.returns-in-Ok-write_all-clause-written
returns-in-Ok-write_all-clause-written g c =
    let put = c.put-length.ensures in
    let text = ap₂ take put.value put.out_after ∙ take-append_seam _ _ in
    IfSome_then _ c.in-Ok.ensures.bytes (λ bytes e.
    subst (Appends _ _) (text ∙ ap g.P.Report.text (e ∙ ap (λ n. take n bytes) c.requires.file)) c.in-Ok-write_all.ensures.bytes)
