use mathlib.Core.Path.{◌≡◌, sym, ap, ◌∙◌}
use mathlib.Core.Bool.{Bool}
use Prim.Native.Nat.{◌*◌}
use native.Mathlib.Omega.{arith}
use lib.Dec.{lit<}
use Rattle.conic.specs.declared.Conic.{Conic}
use Rattle.conic.specs.Conic.{flat_of}
use Rattle.conic.specs.Vectors.{conic_in}
use Rattle.conic.specs.Halving.{pieces_of}
use Rattle.conic.proofs.Halving.{halve_flat}
use Rattle.stream.specs.Stream.{put}
use Rattle.conic_writer.proofs.Writing.{one-quad, count_is}
use Rattle.conic_writer.proofs.push_quads.Goals as goal

-- a conic that was made of vectors, and is flat
flat_by : (k : Conic) {c : Conic} {b : Bool} → c ≡ k → flat_of c ≡ b → flat_of k ≡ b
flat_by k e f = ap flat_of (sym e) ∙ f

pub push_piece-requires : goal.push_piece-requires
push_piece-requires c =
    let s = c.requires in
    let k = conic_in c.args.ends c.args.ctrl c.args.w in
    let h = one-quad (pieces_of k) k 0 _ (lit< tt) (halve_flat 6 k 0 (flat_by k c.of_vectors-c.ensures (sym c.is_flat.ensures ∙ c.if-is_flat.true))) in
    record { verb_room = omega (arith, s.verb_room, count_is k, h.many); point_room = omega (arith, s.point_room, count_is k, h.many) }

pub push_curve-requires : goal.push_curve-requires
push_curve-requires c = record {
  curved = flat_by _ c.of_vectors-c.ensures (sym c.is_flat.ensures ∙ c.if-is_flat.false);
  verb_room = c.requires.verb_room;
  point_room = c.requires.point_room;
}

pub returns-then-is_flat : goal.returns-then-is_flat
returns-then-is_flat c =
    let a = c.args in
    let k = conic_in a.ends a.ctrl a.w in
    let h = one-quad (pieces_of k) k 0 _ (lit< tt) (halve_flat 6 k 0 (flat_by k c.of_vectors-c.ensures (sym c.is_flat.ensures ∙ c.if-is_flat.true))) in
    let e = c.push_piece.ensures in
    record {
      verbs_after = e.verbs_after ∙ ap (put a.verbs.now a.v) (sym h.bytes);
      points_after = e.points_after ∙ ap (put a.points.now (2 * a.p)) (sym h.floats);
      count = sym (count_is k ∙ h.many);
    }
