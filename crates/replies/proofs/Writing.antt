-- One step of writing. Assumes nothing.
use Rattle.std.proofs.Common.{◌≡◌, ℕ, List, refl}
use Rattle.text.specs.Written.{put_text, past_text}
use Rattle.replies.specs.Placed.{written, ◌▸◌}

pub one_text_more : (at : ℕ) (l t : List ℕ) → written at l ▸ t ≡ written (past_text l at t) (put_text l at t)
unfolding ◌▸◌
one_text_more at l t = refl
