use Rattle.std.proofs.Common.{ℕ, ◌+◌, ◌∙◌, ap, arith}
use Rattle.stream.specs.Stream.{put}
use Rattle.panel_file.specs.Bytes.{u16_bytes}
use Rattle.panel_file.specs.Panel.{payload_of, kind_number}
use Rattle.panel_file.proofs.Back.{payload_short, parts_put}
use Rattle.panel_file.proofs.writing.put.Goals as goal

pub overflow_cast-payload : goal.overflow_cast-payload
overflow_cast-payload c = omega (arith, c.payload.ensures, payload_short c.kind-kind.result)

pub put_payload-requires : goal.put_payload-requires
put_payload-requires c = omega (arith, c.requires, c.put_u16-2.auto, c.put_u16.auto)

pub returns : goal.returns
returns c =
    let a = c.args in
    let len = c.put_u16.ensures ∙ ap (λ (n : ℕ). put a.file.now a.at (u16_bytes n)) (c.payload.ensures ∙ ap payload_of c.kind-kind.ensures) in
    let kind = c.put_u16-2.ensures ∙ ap (λ (n : ℕ). put c.put_u16.new.file (a.at + 2) (u16_bytes n)) (c.number.ensures ∙ ap kind_number c.kind-kind.ensures) in
    parts_put a.file.now _ _ _ a.at a.record c.requires len kind c.put_payload.ensures
