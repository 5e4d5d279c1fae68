use Rattle.std.proofs.Common.{refl, ◌∙◌, arith}
use Rattle.std.proofs.lemmas.Slice.{put_mid-paste}
use Rattle.stream.proofs.Put.{put_paste}
use Rattle.panel_file.specs.Bytes.{u16_bytes}
use Rattle.panel_file.proofs.writing.put_u16.Goals as goal

pub returns : goal.returns
unfolding u16_bytes
returns c =
    let a = c.args in
    put_mid-paste a.at _ a.file.now _ (u16_bytes a.n) 2 (c.copy_from_slice.ensures.after ∙ c.to_le_bytes.ensures) (omega arith) refl
    ∙ put_paste a.file.now a.at (u16_bytes a.n) 2 refl
