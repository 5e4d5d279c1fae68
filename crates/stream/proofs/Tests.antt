-- What the tests of the record and of the room say.
use mathlib.Core.Path.{◌≡◌, refl, sym, ◌∙◌}
use mathlib.Core.Bool.{Bool, true, false, ◌&&◌, ◌||◌}
use Prim.Native.Nat.{ℕ, ◌+◌, ◌-◌, ◌*◌, ◌/◌, ◌≤◌}
use native.Mathlib.Omega.{arith}
use lib.Dec.{leb, ltb}
use borrow.Author.Tests.{ltb-false, leb-true, leb-false, le-leb, lt-leb}
use Rattle.stream.specs.declared.Builder.{Builder}
use Rattle.stream.specs.declared.Need.{Need}
use Rattle.stream.specs.Stream.{bad_record, has_room}

or_left : (x y : Bool) → (x || y) ≡ false → x ≡ false
or_left true y e = e
or_left false y e = refl

or_right : (x y : Bool) → (x || y) ≡ false → y ≡ false
or_right true y e = let z : ◌≡◌ {A = ℕ} 0 1 = cc in absurd (omega arith)
or_right false y e = e

pub and_left : (x y : Bool) → (x && y) ≡ true → x ≡ true
and_left true y e = refl
and_left false y e = e

pub and_right : (x y : Bool) → (x && y) ≡ true → y ≡ true
and_right true y e = e
and_right false y e = let z : ◌≡◌ {A = ℕ} 0 1 = cc in absurd (omega arith)

pub and-false : (x : Bool) → (x && false) ≡ false
and-false true = refl
and-false false = refl

pub good_record : (b : Builder) (verb_room float_room : ℕ) → bad_record b verb_room float_room ≡ false → (b.verbs ≤ verb_room) × (b.points ≤ float_room / 2)
unfolding bad_record
good_record b verb_room float_room e =
    let l = or_left (ltb verb_room b.verbs || ltb (float_room / 2) b.points) _ e in
    (ltb-false _ _ (or_left _ _ l), ltb-false _ _ (or_right (ltb verb_room b.verbs) _ l))

pub room-is : (b : Builder) (verb_room float_room : ℕ) (n : Need) → has_room b verb_room float_room n ≡ true → (b.verbs + n.verbs ≤ verb_room) × (2 * (b.points + n.points) ≤ float_room)
unfolding has_room
room-is b verb_room float_room n e =
    let v = leb-true (b.verbs + n.verbs) verb_room (and_left _ _ e) in
    let p = leb-true (b.points + n.points) (float_room / 2) (and_right (leb (b.verbs + n.verbs) verb_room) _ e) in
    omega arith

-- room behind what is held is room for all
leb_shift_go : (t : Bool) (v n verb_room : ℕ) → n ≤ verb_room → leb v (verb_room - n) ≡ t → leb v (verb_room - n) ≡ leb (n + v) verb_room
leb_shift_go true v n verb_room h e = let g = leb-true v (verb_room - n) e in e ∙ sym (le-leb (n + v) verb_room (omega arith))
leb_shift_go false v n verb_room h e = let g = leb-false v (verb_room - n) e in e ∙ sym (lt-leb (n + v) verb_room (omega arith))

pub leb_shift : (v n verb_room : ℕ) → n ≤ verb_room → leb v (verb_room - n) ≡ leb (n + v) verb_room
leb_shift v n verb_room h = leb_shift_go _ v n verb_room h refl
