use Rattle.std.proofs.Common.{refl, ◌∙◌, ◌+◌, arith}
use Rattle.stream.proofs.Put.{put-after}
use Rattle.panel_file.specs.Bytes.{f32_bytes, point_bytes}
use Rattle.panel_file.proofs.writing.put_point.Goals as goal

pub returns : goal.returns
unfolding point_bytes f32_bytes
returns c =
    let a = c.args in
    c.put_f32-2.ensures ∙ put-after a.file.now _ a.at (a.at + 4) (f32_bytes a.p.x) (f32_bytes a.p.y) (omega (arith, c.requires)) refl c.put_f32.ensures
