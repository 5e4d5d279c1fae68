-- the points in front of this one are written, and it comes behind them
use Rattle.std.proofs.Common.{◌≡◌, ◌+◌, ◌*◌, take}
use Rattle.stream.specs.Stream.{put}
use Rattle.panel_file.specs.Bytes.{points_bytes}
use Rattle.panel_file.proofs.writing.put_points.Given as goal

abbrev pub invariant-loop-p : goal.invariant-loop-p
invariant-loop-p l = record {
  written : l.file ≡ put l.initial.file l.at (points_bytes (take l.p-index l.points));
  next : l.next ≡ l.at + 8 * l.p-index;
}
