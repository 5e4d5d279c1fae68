use mathlib.Core.List.{[], ◌∷◌}
use mathlib.Core.Path.{◌≡◌, sym, ap, ◌∙◌}
use Prim.Native.Nat.{ℕ, ◌≤◌}
use native.Mathlib.Omega.{arith}
use Rattle.std.proofs.Common.{rules}
use Rattle.stream.specs.declared.Element.{Element}
use Rattle.stream.specs.declared.Element.TheVariants.{Move, Line, Quad, Cubic, Close}
use Rattle.stream.specs.declared.Need.{Need}
use Rattle.stream.specs.Stream.{State, state, is_empty, size_of, point_count, verb_of}
use Rattle.stream.proofs.Pushed.{count_verb_lem}
use Rattle.conic_writer.specs.Entries.{plain}
use Rattle.calls.specs.Calls.{opened_need}
use Rattle.calls.proofs.Admission.{passed_on}
use Rattle.calls.proofs.Opened.{one-need, one-room, one-done, one-admitted, opened-refused, opened-counts}
use Rattle.calls.proofs.Held.{need_held, state_held}
use Rattle.calls.proofs.add.Goals as goal

few : (k : Element) → size_of k ≤ 3
few (Move p) = omega arith
few (Line p) = omega arith
few (Quad p q) = omega arith
few (Cubic p q r) = omega arith
few Close = omega arith

-- the points that the code counts by the element's byte
counted : (k : Element) {n v : ℕ} → n ≡ point_count v → v ≡ verb_of k → n ≡ size_of k
counted k e f = e ∙ ap point_count f ∙ count_verb_lem k

-- the need of an empty builder, and of one that is not
need_is : (t : ℕ → Need) {n m : ℕ} {r : Need} → r ≡ t n → n ≡ m → r ≡ t m
need_is t e f = e ∙ ap t f

pub overflow_cast-size : goal.overflow_cast-size
overflow_cast-size c = let q = counted c.args.e c.point_count-size.ensures c.verb.ensures in omega (arith, q, few c.args.e)

pub returns-in_err-admit : goal.returns-in_err-admit
returns-in_err-admit c =
    let a = c.args in
    let s : State = state a.b a.verbs.now a.points.now in
    let n = need_is (opened_need (is_empty a.b) 1) c.opened_need.ensures (counted a.e c.point_count-size.ensures c.verb.ensures) in
    passed_on _ _ _ _ (search rules) ∙ opened-refused s (plain a.e ∷ []) _ _ (n ∙ one-need a.b a.e) (sym c.in_err-admit.was ∙ c.admit.ensures)

pub ensure_started-o-requires : goal.ensure_started-o-requires
ensure_started-o-requires c =
    let a = c.args in
    let n = need_is (opened_need (is_empty a.b) 1) c.opened_need.ensures (counted a.e c.point_count-size.ensures c.verb.ensures) in
    let r = one-room (state a.b a.verbs.now a.points.now) a.e _ _ _ n c.admit.ensures c.in_ok-admit.was in
    record { verb_room = omega (arith, r); point_room = omega (arith, r) }

pub push-requires : goal.push-requires
push-requires c =
    let a = c.args in
    let s : State = state a.b a.verbs.now a.points.now in
    let n = need_is (opened_need (is_empty a.b) 1) c.opened_need.ensures (counted a.e c.point_count-size.ensures c.verb.ensures) in
    let k = opened-counts s _ c.ensure_started-o.ensures in
    omega (arith, one-room s a.e _ _ _ n c.admit.ensures c.in_ok-admit.was, k.verbs, k.points, c.ensure_started-o.auto)

pub returns-then-b-eq0 : goal.returns-then-b-eq0
returns-then-b-eq0 c =
    let a = c.args in
    let s : State = state a.b a.verbs.now a.points.now in
    let n = need_is (opened_need (is_empty a.b) 1) c.opened_need.ensures (counted a.e c.point_count-size.ensures c.verb.ensures) in
    one-done s a.e _ _ (one-admitted s a.e _ _ _ n c.admit.ensures c.in_ok-admit.was) c.ensure_started-o.ensures c.push.ensures

pub returns-in_err-admit-2 : goal.returns-in_err-admit-2
returns-in_err-admit-2 c =
    let a = c.args in
    let s : State = state a.b a.verbs.now a.points.now in
    let n = need_is (opened_need (is_empty a.b) 1) (need_held a.b 1 _ c.if-b-eq0.false) (counted a.e c.point_count-size.ensures c.verb.ensures) in
    passed_on _ _ _ _ (search rules) ∙ opened-refused s (plain a.e ∷ []) _ _ (n ∙ one-need a.b a.e) (sym c.in_err-admit-2.was ∙ c.admit-2.ensures)

pub push-requires-2 : goal.push-requires-2
push-requires-2 c =
    let a = c.args in
    let s : State = state a.b a.verbs.now a.points.now in
    let n = need_is (opened_need (is_empty a.b) 1) (need_held a.b 1 _ c.if-b-eq0.false) (counted a.e c.point_count-size.ensures c.verb.ensures) in
    omega (arith, one-room s a.e _ _ _ n c.admit-2.ensures c.in_ok-admit-2.was)

pub returns : goal.returns
returns c =
    let a = c.args in
    let s : State = state a.b a.verbs.now a.points.now in
    let n = need_is (opened_need (is_empty a.b) 1) (need_held a.b 1 _ c.if-b-eq0.false) (counted a.e c.point_count-size.ensures c.verb.ensures) in
    one-done s a.e _ _ (one-admitted s a.e _ _ _ n c.admit-2.ensures c.in_ok-admit-2.was) (state_held s c.if-b-eq0.false) c.push-2.ensures
