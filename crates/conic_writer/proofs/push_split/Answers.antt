use mathlib.Core.Path.{ap, ◌∙◌}
use native.Mathlib.Omega.{arith}
use Rattle.conic.specs.declared.Conic.{Conic}
use Rattle.conic_writer.specs.Entries.{after_quads}
use Rattle.conic.specs.Vectors.{conic_in}
use Rattle.conic.specs.Halving.{pieces_of}
use Rattle.conic_writer.proofs.Entries.{quads-length, quads-sizes}
use Rattle.conic_writer.proofs.Writing.{count_is, whole-pushed}
use Rattle.conic_writer.proofs.push_split.Goals as goal

pub push_curve-m-requires : goal.push_curve-m-requires
push_curve-m-requires c =
    let k = conic_in c.args.ends c.args.ctrl c.args.w in
    let s = c.requires in
    let n = quads-length (pieces_of k) in
    let z = quads-sizes (pieces_of k) in
    record { curved = s.curved; verb_room = omega (arith, s.room.0, n, count_is k); point_room = omega (arith, s.room.1, z, count_is k) }

pub after_quads-requires : goal.after_quads-requires
after_quads-requires c =
    let k = conic_in c.args.ends c.args.ctrl c.args.w in
    let s = c.requires in
    let n = quads-length (pieces_of k) in
    let z = quads-sizes (pieces_of k) in
    let m = c.push_curve-m.ensures.count in
    record { verbs = omega (arith, s.room.0, c.well_formed, m, n, count_is k); points = omega (arith, s.room.1, c.well_formed, m, z, count_is k) }

pub returns-clause-points_after : goal.returns-clause-points_after
returns-clause-points_after c =
    let a = c.args in
    let m = c.push_curve-m.ensures in
    whole-pushed a.b _ _ (conic_in a.ends a.ctrl a.w) a.verbs.now _ a.points.now _ c.requires.room (c.after_quads.ensures ∙ ap (λ (k : Conic). after_quads a.b c.push_curve-m.result.count k.to) c.of_vectors-c.ensures) m.count m.verbs_after m.points_after
