-- `touch::search` meets its contract.
use Rattle.std.proofs.Common.{◌≡◌, ℕ, List, suc, ◌-◌, ◌<◌, ◌≤◌, length, drop, get_or, sym, ap, ◌∙◌, arith}
use lib.ListN.{length-map}
use Rattle.std.proofs.lemmas.List.{drop_all}
use Rattle.panel_file.specs.Panel.{buttons_of}
use Rattle.panel_file.specs.File.{records, button_at_offset}
use Rattle.shape.specs.Refusal.{ShapeOutcome, refused}
use Rattle.touch.specs.Touch.{shape_of, shapes_of, takes}
use Rattle.touch.specs.Search.{points_in, places_after_shape, places_after_shapes}
use Rattle.touch.proofs.Marking.{places_after_shapes-next}
use Rattle.touch.proofs.Standing.{counted, button_read, none_missed}
use Rattle.touch.proofs.search.Goals as goal

pub loop-i-init : goal.loop-i-init
unfolding shapes_of places_after_shapes
loop-i-init c =
    let bs = buttons_of (records c.args.file.now) in
    let n = c.button_offsets-n.result in
    let all = counted (button_at_offset c.args.file.now) bs n c.button_offsets-n.new.offsets (omega (arith, c.button_offsets-n.array_long, c.button_offsets-n.ensures.most)) c.button_offsets-n.ensures.buttons in
    sym (ap (λ (ss : List ShapeOutcome). places_after_shapes (points_in c.args.points.now) n ss c.args.results.now) (drop_all n (shapes_of (records c.args.file.now)) (omega (arith, all, length-map bs shape_of))))

pub loop-i-preserved-in-Some : goal.loop-i-preserved-in-Some
unfolding shapes_of
loop-i-preserved-in-Some c =
    let ps = points_in c.args.points.now in
    let bs = buttons_of (records c.args.file.now) in
    let ss = shapes_of (records c.args.file.now) in
    let n = c.button_offsets-n.result in
    let offsets = c.button_offsets-n.new.offsets in
    let read = button_at_offset c.args.file.now in
    let within : n ≤ length offsets = omega (arith, c.button_offsets-n.array_long, c.button_offsets-n.ensures.most) in
    let i = c.loop-i.i - 1 in
    let next : suc i ≡ c.loop-i.i = omega (arith, c.loop-i-test.true) in
    let below : i < n = omega (arith, c.loop-i.auto.i, c.loop-i-test.true) in
    let all = counted read bs n offsets within c.button_offsets-n.ensures.buttons in
    let same = button_read read bs n offsets within c.button_offsets-n.ensures.buttons i c.in-Some.button below (sym c.button_at.ensures ∙ c.in-Some.is) in
    c.try_button.ensures
    ∙ ap (λ (s : ShapeOutcome). places_after_shape (takes s) i ps c.loop-i.results) (sym same)
    ∙ ap (λ (found : List ℕ). places_after_shape (takes (get_or ss i (refused 0))) i ps found)
    (c.loop-i.invariant ∙ ap (λ (k : ℕ). places_after_shapes ps k (drop k ss) c.args.results.now) (sym next))
    ∙ sym (places_after_shapes-next ps ss i (refused 0) c.args.results.now (omega (arith, all, length-map bs shape_of)))

pub loop-i-preserved : goal.loop-i-preserved
loop-i-preserved c =
    let bs = buttons_of (records c.args.file.now) in
    let n = c.button_offsets-n.result in
    let offsets = c.button_offsets-n.new.offsets in
    absurd
    (none_missed (button_at_offset c.args.file.now) bs n offsets (omega (arith, c.button_offsets-n.array_long, c.button_offsets-n.ensures.most)) c.button_offsets-n.ensures.buttons
    (c.loop-i.i - 1) (omega (arith, c.loop-i.auto.i, c.loop-i-test.true)) (sym c.button_at.ensures ∙ c.in_default.is))

pub returns : goal.returns
returns c =
    let ps = points_in c.args.points.now in
    let ss = shapes_of (records c.args.file.now) in
    let none : c.loop-i.i ≡ 0 = omega (arith, c.loop-i-test.false) in
    c.loop-i.invariant ∙ ap (λ (k : ℕ). places_after_shapes ps k (drop k ss) c.args.results.now) none
