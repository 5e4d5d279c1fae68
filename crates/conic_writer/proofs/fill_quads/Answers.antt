use Rattle.std.proofs.Common.{◌≡◌, sym, ap, ◌∙◌, arith, ℕ, ◌+◌, ◌-◌, length, take, drop, replicate}
use Rattle.std.proofs.lemmas.Slice.{put_mid-paste}
use Rattle.std.proofs.lemmas.List.{length-replicate}
use lib.Seq.{length-take-le}
use lib.ListN.{length-drop}
use Rattle.stream.proofs.Put.{put_paste}
use Rattle.conic_writer.proofs.Writing.{run_on}
use Rattle.conic_writer.proofs.fill_quads.Goals as goal

pub returns-then-n-le8 : goal.returns-then-n-le8
returns-then-n-le8 c =
    let a = c.args in
    c.fill_few-then-n-le8-2.ensures ∙ run_on a.verbs.now _ a.v 4 a.n 2 c.fill_few-then-n-le8.ensures (omega (arith, c.requires)) (omega arith)

pub returns-else-n-le8 : goal.returns-else-n-le8
returns-else-n-le8 c =
    let a = c.args in
    let part : length (take (a.v + a.n - a.v) (drop a.v a.verbs.now)) ≡ a.n = length-take-le _ _ (omega (arith, c.requires, length-drop a.v a.verbs.now)) ∙ omega arith in
    put_mid-paste a.v _ a.verbs.now _ (replicate a.n 2) a.n (c.fill.ensures.after (λ y e. e) ∙ ap (λ (k : ℕ). replicate k 2) part) (omega arith) (sym (length-replicate a.n 2))
    ∙ put_paste a.verbs.now a.v (replicate a.n 2) a.n (sym (length-replicate a.n 2))
