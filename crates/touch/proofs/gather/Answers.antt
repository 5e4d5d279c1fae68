-- `touch::gather` meets its contract.
use Rattle.std.proofs.Common.{List, ◌*◌, ◌++◌, length, take, ap, ◌∙◌, arith}
use Rattle.panel_file.specs.declared.Record.{Record}
use Rattle.panel_file.specs.Panel.{touches_of}
use Rattle.panel_file.specs.File.{records}
use Rattle.touch.specs.Search.{floats_of}
use Rattle.touch.proofs.Gathering.{floats_after_record-more, length-floats_after_record, count_after_record-most, all_floats}
use Rattle.touch.proofs.gather.Goals as goal

pub returns : goal.returns
unfolding floats_of touches_of
returns c =
    let loop = c.loop-record in
    all_floats (touches_of (records c.args.file.now)) loop.n loop.points (omega (arith, c.requires))
    (loop.invariant.2 ∙ ap (λ (rs : List Record). take (2 * loop.n) loop.points ++ floats_of (touches_of rs)) c.in-None.ensures.steps.0)

pub loop-record-preserved : goal.loop-record-preserved
loop-record-preserved c =
    let loop = c.loop-record in
    let r = c.in-Some.«record» in
    let step = c.in-Some.ensures.steps in
    rw (c.keep-n.ensures.value, c.keep-n.ensures.points_after) (
      omega (arith, ap length step, count_after_record-most r loop.n),
      length-floats_after_record r loop.n loop.points ∙ loop.invariant.1,
      loop.invariant.2 ∙ ap (λ (rs : List Record). take (2 * loop.n) loop.points ++ floats_of (touches_of rs)) step ∙ floats_after_record-more r _ loop.n loop.points (omega (arith, ap length step)),
    )
