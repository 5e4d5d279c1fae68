use mathlib.Core.Path.{refl, sym, ap, ◌∙◌}
use native.Mathlib.Omega.{arith}
use lib.ListN.{length-take}
use Rattle.stream.specs.Stream.{all_floats}
use Rattle.conic_writer.specs.Entries.{elements_of}
use Rattle.shape.specs.declared.Bounds.{Bounds}
use Rattle.outline_need.specs.Entries.{outline_entries}
use Rattle.consistency.specs.Consistency.{all_within, outline_within}
use Rattle.consistency.proofs.FreshOutline.{fresh_step, never_refused, outline-in_front}
use Rattle.consistency.proofs.outline_within.Goals as goal

pub returns-in_default : goal.returns-in_default
returns-in_default c =
    let r = c.add_to in
    absurd (never_refused _ _ c.args.shape refl refl r.result r.new.verbs r.new.points c.in_default.not-Ok (fresh_step _ _ _ _ c.new.ensures r.ensures))

pub overflow_mul-points : goal.overflow_mul-points
overflow_mul-points c = let g = outline-in_front _ _ _ refl refl _ _ _ _ c.in-Ok.is (fresh_step _ _ _ _ c.new.ensures c.add_to.ensures) in omega (arith, g.few)

pub slice_bounds-points-end : goal.slice_bounds-points-end
slice_bounds-points-end c = let g = outline-in_front _ _ _ refl refl _ _ _ _ c.in-Ok.is (fresh_step _ _ _ _ c.new.ensures c.add_to.ensures) in omega (arith, g.few)

pub slice_bounds-all_within-end : goal.slice_bounds-all_within-end
slice_bounds-all_within-end c = let g = outline-in_front _ _ _ refl refl _ _ _ _ c.in-Ok.is (fresh_step _ _ _ _ c.new.ensures c.add_to.ensures) in sym (rw (length-take) (omega (arith, g.few)))

pub returns : goal.returns
unfolding outline_within
returns c =
    c.all_within.ensures ∙ ap (all_within c.widened.result) (outline-in_front _ _ _ refl refl _ _ _ _ c.in-Ok.is (fresh_step _ _ _ _ c.new.ensures c.add_to.ensures)).floats ∙ ap (λ (area : Bounds). all_within area (all_floats (elements_of (outline_entries c.args.shape)))) c.widened.ensures
