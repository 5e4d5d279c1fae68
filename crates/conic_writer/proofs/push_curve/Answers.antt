use mathlib.Core.Path.{◌≡◌, sym, ap, ◌∙◌}
use Prim.Native.Nat.{ℕ, ◌-◌, ◌/◌}
use native.Mathlib.Omega.{arith}
use lib.Dec.{lit≤}
use lib.ListN.{length, replicate}
use Rattle.conic.specs.Vectors.{conic_in}
use Rattle.conic.specs.Halving.{is_one_quad, pieces_of}
use Rattle.conic.proofs.Whole.{halve-word}
use Rattle.stream.specs.Stream.{put}
use Rattle.conic_writer.proofs.Entries.{quads-bytes}
use Rattle.conic_writer.proofs.Writing.{count_is}
use Rattle.conic_writer.proofs.push_curve.Goals as goal

pub push_conic-end-requires : goal.push_conic-end-requires
unfolding is_one_quad
push_conic-end-requires c =
    let a = c.args in
    let k = conic_in a.ends a.ctrl a.w in
    let s = c.requires in
    record {
      one_quad = sym s.curved;
      falling = lit≤ tt;
      span = lit≤ tt;
      point_room = omega (arith, s.point_room, count_is k);
      bit_room = omega (arith, halve-word 6 k 0 (lit≤ tt));
    }

pub fill_quads-requires : goal.fill_quads-requires
fill_quads-requires c = omega (arith, c.requires.verb_room, count_is (conic_in c.args.ends c.args.ctrl c.args.w), c.push_conic-end.ensures.at_after)

pub returns : goal.returns
returns c =
    let a = c.args in
    let k = conic_in a.ends a.ctrl a.w in
    let e = c.push_conic-end.ensures in
    let many : (c.push_conic-end.result.at - a.p) / 2 ≡ length (pieces_of k) = omega (arith, e.at_after) in
    record {
      verbs_after = c.fill_quads.ensures ∙ ap (λ (n : ℕ). put a.verbs.now a.v (replicate n 2)) many ∙ ap (put a.verbs.now a.v) (sym (quads-bytes (pieces_of k)));
      points_after = e.points_after;
      count = many ∙ sym (count_is k);
      word = e.word_after ∙ omega arith;
    }
