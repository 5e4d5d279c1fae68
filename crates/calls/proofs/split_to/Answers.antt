use mathlib.Core.Path.{refl, sym, ap, ◌∙◌}
use mathlib.Core.List.{◌++◌}
use native.Mathlib.Omega.{arith}
use Rattle.std.proofs.Common.{rules}
use Rattle.conic.specs.declared.Conic.{Conic}
use Rattle.conic.specs.declared.Lowered.TheVariants as lowered
use Rattle.conic.specs.Vectors.{conic_in}
use Rattle.conic.specs.Halving.{pieces_of}
use Rattle.stream.specs.Stream.{State, state, is_empty, need_of, push_all}
use Rattle.conic_writer.specs.Entries.{elements_of, lowered_of}
use Rattle.conic_writer.proofs.Entries.{lowered_curve, quads-length, quads-sizes}
use Rattle.calls.specs.Calls.{opening}
use Rattle.calls.proofs.Admission.{conic_passed_on}
use Rattle.calls.proofs.Opened.{opened-refused, opened-admitted, opened-room, opened-counts, opened-done}
use Rattle.calls.proofs.split_to.Goals as goal

pub returns-in_err-admit_lowered : goal.returns-in_err-admit_lowered
returns-in_err-admit_lowered c =
    let a = c.args in
    let s : State = state a.b a.verbs.now a.points.now in
    let es = lowered_of (lowered.Curve (conic_in a.ends a.ctrl a.weight)) in
    let n = ap (λ (k : Conic). need_of (elements_of (opening (is_empty a.b) ++ lowered_of (lowered.Curve k)))) c.of_vectors.ensures in
    conic_passed_on _ _ _ _ (search rules) ∙ opened-refused s es _ _ n (sym c.in_err-admit_lowered.was ∙ c.admit_lowered.ensures)

pub ensure_started-o-requires : goal.ensure_started-o-requires
ensure_started-o-requires c =
    let a = c.args in
    let s : State = state a.b a.verbs.now a.points.now in
    let es = lowered_of (lowered.Curve (conic_in a.ends a.ctrl a.weight)) in
    let n = ap (λ (k : Conic). need_of (elements_of (opening (is_empty a.b) ++ lowered_of (lowered.Curve k)))) c.of_vectors.ensures in
    let r = opened-room s es (opened-admitted s es _ _ _ n c.admit_lowered.ensures c.in_ok-admit_lowered.was) in
    record { verb_room = omega (arith, r.0); point_room = omega (arith, r.1) }

pub push_split-requires : goal.push_split-requires
push_split-requires c =
    let a = c.args in
    let s : State = state a.b a.verbs.now a.points.now in
    let k = conic_in a.ends a.ctrl a.weight in
    let es = lowered_of (lowered.Curve k) in
    let n = ap (λ (k : Conic). need_of (elements_of (opening (is_empty a.b) ++ lowered_of (lowered.Curve k)))) c.of_vectors.ensures in
    let r = opened-room s es (opened-admitted s es _ _ _ n c.admit_lowered.ensures c.in_ok-admit_lowered.was) in
    let o = opened-counts s _ c.ensure_started-o.ensures in
    let h = lowered_curve (lowered.Curve k) k refl in
    let ps = pieces_of k in
    record {
      curved = c.requires;
      room = (omega (arith, r.0, o.verbs, h.many, quads-length ps, c.ensure_started-o.auto), omega (arith, r.1, o.points, h.size, quads-sizes ps, c.ensure_started-o.auto));
    }

pub returns : goal.returns
returns c =
    let a = c.args in
    let s : State = state a.b a.verbs.now a.points.now in
    let k = conic_in a.ends a.ctrl a.weight in
    let es = lowered_of (lowered.Curve k) in
    let n = ap (λ (k : Conic). need_of (elements_of (opening (is_empty a.b) ++ lowered_of (lowered.Curve k)))) c.of_vectors.ensures in
    let h = lowered_curve (lowered.Curve k) k refl in
    let q = c.push_split.ensures in
    opened-done s es _ _ _ (opened-admitted s es _ _ _ n c.admit_lowered.ensures c.in_ok-admit_lowered.was) c.ensure_started-o.ensures (q.points_after ∙ sym (ap (push_all _) h.elements)) (q.word_value ∙ sym h.word)
