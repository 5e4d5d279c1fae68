use Rattle.std.proofs.Common.{sym, ◌∙◌, arith}
use Rattle.stream.proofs.Put.{put_nil}
use Rattle.panel_file.specs.Bytes.{points_bytes}
use Rattle.panel_file.proofs.Back.{point_put}
use Rattle.panel_file.proofs.writing.put_points.Goals as goal

pub loop-p-init : goal.loop-p-init
unfolding points_bytes
loop-p-init c = record { written = sym (put_nil c.args.file.now c.args.at); next = omega arith }

pub loop-p-preserved : goal.loop-p-preserved
loop-p-preserved c =
    let a = c.args in
    let l = c.loop-p in
    record {
      written = c.put_point.ensures ∙ point_put a.file.now l.file a.at l.next l.p-index a.points.now _ c.requires c.loop-p-test.true l.invariant.next l.invariant.written;
      next = omega (arith, l.invariant.next);
    }
