-- Calls that run one after the other: lists of them joined, and the room that is left.
use mathlib.Core.Path.{◌≡◌, refl, sym, ap, ap₂, ◌∙◌}
use mathlib.Core.List.{List, [], ◌∷◌, ◌++◌, append_assoc}
use mathlib.Core.Bool.{false}
use native.Mathlib.Omega.{arith}
use lib.ListN.{length, length-append}
use Rattle.geometry.specs.declared.Point.{Point}
use Rattle.stream.specs.declared.Element.{Element}
use Rattle.stream.specs.Stream.{State, start_of, pen_of, start_after, pen_after, sizes_of, push_all}
use Rattle.stream.proofs.Pushed.{push_all_append, push_all-verbs, push-all_points, push_all-start, push_all-pen, sizes_append}
use Rattle.conic_writer.specs.Entries.{Entry, elements_of}
use Rattle.conic_writer.proofs.Entries.{elements_append}
use Rattle.calls.specs.declared.Call.{Call}
use Rattle.calls.specs.Calls.{entries_of}
use Rattle.outline_need.specs.Entries.{entries_along, start_along, pen_along, elements_along, push_calls, RoomAlong}

pub start_append : (s : Point) (ks js : List Element) → start_after s (ks ++ js) ≡ start_after (start_after s ks) js
unfolding start_after
start_append s [] js = refl
start_append s (k ∷ ks) js = start_append (start_of s k) ks js

pub pen_append : (s p : Point) (ks js : List Element) → pen_after s p (ks ++ js) ≡ pen_after (start_after s ks) (pen_after s p ks) js
unfolding start_after pen_after
pen_append s p [] js = refl
pen_append s p (k ∷ ks) js = pen_append (start_of s k) (pen_of s k) ks js

module _ (s p : Point) (c : Call) (cs : List Call) where
  abbrev first : List Element
  first = elements_of (entries_of false p c)

  start_cons : start_along s p (c ∷ cs) ≡ start_along (start_after s first) (pen_after s p first) cs
  unfolding entries_along
  start_cons =
      let rest = entries_along (start_after s first) (pen_after s p first) cs in
      ap (start_after s) (elements_append (entries_of false p c) rest) ∙ start_append s first (elements_of rest)

  pen_cons : pen_along s p (c ∷ cs) ≡ pen_along (start_after s first) (pen_after s p first) cs
  unfolding entries_along
  pen_cons =
      let rest = entries_along (start_after s first) (pen_after s p first) cs in
      ap (pen_after s p) (elements_append (entries_of false p c) rest) ∙ pen_append s p first (elements_of rest)

pub along_append : (s p : Point) (cs ds : List Call) → entries_along s p (cs ++ ds) ≡ entries_along s p cs ++ entries_along (start_along s p cs) (pen_along s p cs) ds
unfolding entries_along start_after pen_after elements_of
along_append s p [] ds = refl
along_append s p (c ∷ cs) ds =
    let es = entries_of false p c in
    let s1 = start_after s (elements_of es) in
    let p1 = pen_after s p (elements_of es) in
    ap (λ (r : List Entry). es ++ r) (along_append s1 p1 cs ds)
    ∙ ap₂ (λ (x y : Point). es ++ (entries_along s1 p1 cs ++ entries_along x y ds)) (sym (start_cons s p c cs)) (sym (pen_cons s p c cs))
    ∙ sym (append_assoc es (entries_along s1 p1 cs) (entries_along (start_along s p (c ∷ cs)) (pen_along s p (c ∷ cs)) ds))

-- ---- on a state

-- what a list leaves, the next list goes on from
elements_after : (s t : State) (cs ds : List Call) → t ≡ push_calls s cs → elements_along s (cs ++ ds) ≡ elements_along s cs ++ elements_along t ds
unfolding push_calls
elements_after s t cs ds e =
    let a = s.builder.start in
    let p = s.builder.pen in
    let ks = elements_along s cs in
    ap elements_of (along_append a p cs ds)
    ∙ elements_append (entries_along a p cs) (entries_along (start_along a p cs) (pen_along a p cs) ds)
    ∙ ap₂ (λ (x y : Point). ks ++ elements_of (entries_along x y ds)) (sym (push_all-start s ks) ∙ ap (λ (u : State). u.builder.start) (sym e)) (sym (push_all-pen s ks) ∙ ap (λ (u : State). u.builder.pen) (sym e))

pub calls_join : (s t u : State) (cs ds : List Call) → t ≡ push_calls s cs → u ≡ push_calls t ds → u ≡ push_calls s (cs ++ ds)
unfolding push_calls
calls_join s t u cs ds e f =
    f ∙ ap (λ (x : State). push_all x (elements_along t ds)) e ∙ sym (push_all_append s (elements_along s cs) (elements_along t ds)) ∙ ap (push_all s) (sym (elements_after s t cs ds e))

pub room_first : (s : State) (cs ds : List Call) → RoomAlong s (cs ++ ds) → RoomAlong s cs
room_first s cs ds h =
    let e = elements_after s (push_calls s cs) cs ds refl in
    let ks = elements_along s cs in
    let js = elements_along (push_calls s cs) ds in
    let l = ap length e ∙ length-append ks js in
    let z = ap sizes_of e ∙ sizes_append ks js in
    (omega arith, omega arith)

pub room-rest : (s t : State) (cs ds : List Call) → t ≡ push_calls s cs → length t.verbs ≡ length s.verbs → length t.floats ≡ length s.floats → RoomAlong s (cs ++ ds) → RoomAlong t ds
unfolding push_calls
room-rest s t cs ds e lv lf h =
    let ks = elements_along s cs in
    let js = elements_along t ds in
    let a = elements_after s t cs ds e in
    let l = ap length a ∙ length-append ks js in
    let z = ap sizes_of a ∙ sizes_append ks js in
    let v = ap (λ (u : State). u.builder.verbs) e ∙ push_all-verbs s ks in
    let m = ap (λ (u : State). u.builder.points) e ∙ push-all_points s ks in
    (omega arith, omega arith)
