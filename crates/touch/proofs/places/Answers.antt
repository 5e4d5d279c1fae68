-- `touch::places` meets its contract.
use Rattle.std.proofs.Common.{ℕ, replicate, ap, ◌∙◌, arith}
use lib.Seq.{length-take-le}
use Rattle.panel_file.specs.declared.Counts.{Counts}
use Rattle.panel_file.specs.Panel.{counts_of}
use Rattle.panel_file.specs.File.{records}
use Rattle.panel_file.proofs.Opened.{records_few}
use Rattle.touch.specs.Touch.{nowhere_code}
use Rattle.touch.proofs.Answering.{answered}
use Rattle.touch.proofs.places.Goals as goal

pub returns : goal.returns
unfolding counts_of
returns c =
    let a = c.args in
    let n = ap (λ (k : Counts). k.touches) c.counts-n.ensures.value in
    record {
      count = n;
      results_after = answered (records a.file.now) (records_few a.file.now) _ c.gather.new.points c.fill.new.self a.results.now c.search.new.results n c.gather.ensures
          (c.fill.ensures.after (λ y e. e) ∙ ap (λ (k : ℕ). replicate k nowhere_code) (length-take-le _ _ (omega (arith, c.counts-n.ensures.most)))) c.search.ensures;
    }
