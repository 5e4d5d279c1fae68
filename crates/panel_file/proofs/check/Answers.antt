-- `check` meets its contract.
use Rattle.std.proofs.Common.{sym, ap, ap₂, ◌∙◌, ◌∷◌, ◌+◌, arith, rules, Ok, Err, Some, None}
use Rattle.panel_file.specs.Panel.{done, header, payload_of, content_at, entry_of, on_done, record_and_rest, records_from, records_of, counts_of, counts_with, check_answer}
use Rattle.panel_file.proofs.Following.{Inside, head_within, head_follow}
use Rattle.panel_file.proofs.Counting.{counts, plus, plus_none, plus_all, plus_one, one_more, on_done-after, on_done_same}
use Rattle.panel_file.proofs.check.Goals as goal
use Rattle.panel_file.proofs.check.Goals.{In-Some}

-- the record lies within the file
within : (c : In-Some) → Inside c.args.file.now c.loop-kind.at c.in-Some.kind
within c = head_within _ _ _ _ c.in_ok-kind.ensures (ap Ok c.in-Some.is)

pub loop-kind-init : goal.loop-kind-init
unfolding records_of
loop-kind-init c =
    let e = c.default-counts.ensures in
    let none = ap₂ counts e.0 e.1 in
    rw none (omega arith, omega arith, on_done_same counts_of (plus _) plus_all (records_from c.args.file.now 0))

pub with-counts-requires : goal.with-counts-requires
with-counts-requires c = omega (arith, within c)

pub overflow_add-at-in-Some : goal.overflow_add-at-in-Some
overflow_add-at-in-Some c = omega (arith, within (goal.at.overflow_add-at-in-Some c).In-Some, c.payload.ensures)

pub loop-kind-smaller : goal.loop-kind-smaller
loop-kind-smaller c = omega (arith, within (goal.at.loop-kind-smaller c).In-Some, c.payload.ensures)

pub loop-kind-preserved : goal.loop-kind-preserved
unfolding entry_of record_and_rest
loop-kind-preserved c =
    let w = within (goal.at.loop-kind-preserved c).In-Some in
    let file = c.args.file.now in
    let loop = c.loop-kind in
    let kind = c.in-Some.kind in
    rw (c.with-counts.ensures, c.payload.ensures) (
      omega arith,
      omega (arith, one_more loop.counts kind),
      loop.invariant.2
          ∙ ap (on_done (plus loop.counts)) (head_follow file loop.at (Ok (Some kind)) (sym c.in_ok-kind.ensures ∙ ap Ok c.in-Some.is))
          ∙ on_done-after (λ rs. content_at kind file (loop.at + header) ∷ rs) (plus loop.counts) (plus (counts_with loop.counts kind)) (plus_one loop.counts kind file (loop.at + header)) (records_from file (loop.at + header + payload_of kind)),
    )

pub returns : goal.returns
unfolding entry_of record_and_rest on_done check_answer
returns c =
    let loop = c.loop-kind in
    sym (loop.invariant.2 ∙ ap (on_done (plus loop.counts)) (head_follow c.args.file.now loop.at (Ok None) (sym c.in_ok-kind.ensures ∙ ap Ok c.in_default.is)) ∙ ap done (plus_none loop.counts))

pub returns-in_err-kind : goal.returns-in_err-kind
unfolding entry_of record_and_rest on_done check_answer
returns-in_err-kind c =
    let loop = c.loop-kind in
    rw (loop.invariant.2 ∙ ap (on_done (plus loop.counts)) (head_follow c.args.file.now loop.at (Err c.in_err-kind.field-0.0) (sym c.in_err-kind.ensures))) (search rules)
