use Rattle.std.proofs.Common.{refl, ap, ◌∙◌, arith}
use Rattle.std.specs.Int.{w32, to_le_bytes}
use Rattle.std.proofs.lemmas.Slice.{put_mid-paste}
use Rattle.stream.proofs.Put.{put_paste}
use Rattle.panel_file.specs.Bytes.{f32_bytes}
use Rattle.panel_file.proofs.writing.put_f32.Goals as goal

pub returns : goal.returns
unfolding f32_bytes
returns c =
    let a = c.args in
    let bytes = c.copy_from_slice.ensures.after ∙ c.to_le_bytes.ensures ∙ ap (to_le_bytes w32) c.f32_to_bits_with_nan.ensures in
    put_mid-paste a.at _ a.file.now _ (f32_bytes a.x) 4 bytes (omega arith) refl
    ∙ put_paste a.file.now a.at (f32_bytes a.x) 4 refl
