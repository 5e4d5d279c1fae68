-- `lines::Reader::take_line` meets its contract.
use Rattle.std.proofs.Common.{rules}
use Rattle.input.proofs.Lining.{refilled, goes_on, ended-held, ended-past}
use Rattle.input.proofs.lines.Reader.take_line.Goals as goal

pub returns-then-ends-clause-held : goal.returns-then-ends-clause-held
returns-then-ends-clause-held g c =
    let b = refilled c.loop.invariant.begun c.in_ok-refill.ensures.kept in
    let part = c.part-n.ensures in
    ended-held _ _ _ _ c.refill.ensures.within _ part.count part.most b _ _ (c.hold-held.ensures b.text b.holds) (part.ends c.if-ends.true)

pub returns-then-ends-clause-past : goal.returns-then-ends-clause-past
returns-then-ends-clause-past g c =
    let b = refilled c.loop.invariant.begun c.in_ok-refill.ensures.kept in
    let part = c.part-n.ensures in
    ended-past _ _ _ _ c.refill.ensures.within _ part.count part.most b _ _ (c.hold-held.ensures b.text b.holds) (part.ends c.if-ends.true) _ c.if-self.false

pub loop-preserved : goal.loop-preserved
loop-preserved g c =
    let b = refilled c.loop.invariant.begun c.in_ok-refill.ensures.kept in
    let part = c.part-n.ensures in
    record {
      room = search rules;
      within = search rules;
      ended = c.if-self.false;
      piece = search rules;
      line = search rules;
      begun = goes_on _ _ _ _ c.refill.ensures.within _ part.count part.most b _ _ (c.hold-held.ensures b.text b.holds) (part.goes_on c.if-ends.false);
    }
