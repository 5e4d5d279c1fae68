use Rattle.std.proofs.Common.{rules}
use mathlib.Core.Path.{sym, subst, ◌∙◌}
use lib.ListN.{length}
use Rattle.stream.specs.Stream.{State}
use Rattle.conic_writer.specs.Entries.{elements_of}
use Rattle.book.specs.Lists.{ReadsAs}
use Rattle.building.specs.Faithful.{book_in}
use Rattle.building.proofs.Performing.{answered-ok, answered-err, one-more, all-left, all-replies}
use Rattle.building.proofs.EveryList.{every-list}
use Rattle.building.proofs.perform.Goals as goal
use Rattle.building.proofs.perform.Goals.{in-Ok, in-Err}

pub loop-i-preserved : goal.loop-i-preserved
loop-i-preserved c =
    let e = c.apply.ensures in
    let h = c.loop-i.invariant in
    elim c.match-apply.branch [
      | in-Ok w ↦ one-more _ _ (search rules) h (answered-ok e w.in-Ok.written _ w.in-Ok.is w.current-is) w.replies-is
      | in-Err w ↦ one-more _ _ (search rules) h (answered-err e w.in-Err.refusal _ _ w.in-Err.is (w.current-is ∙ w.builder-current.ensures) w.number.ensures) w.replies-is
    ]

pub returns-clause-left : goal.returns-clause-left
returns-clause-left c = all-left c.loop-i.invariant (search rules)

pub returns-clause-replies : goal.returns-clause-replies
returns-clause-replies c = all-replies c.loop-i.invariant (search rules)

pub returns-clause-reads_back : goal.returns-clause-reads_back
returns-clause-reads_back c v p =
    let a = c.args in
    let ks = elements_of (book_in (length a.verbs.now) (length a.points.now) a.calls.now).entries in
    subst (λ (s : State). ReadsAs s ks) (sym (all-left c.loop-i.invariant (search rules))) (every-list a.b a.verbs.now a.points.now a.calls.now v p).every.left

pub returns-clause-faithful : goal.returns-clause-faithful
returns-clause-faithful c v p = let a = c.args in every-list a.b a.verbs.now a.points.now a.calls.now v p
