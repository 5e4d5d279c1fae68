-- Calls written one behind the other: room for each, and what they leave. One law serves an octant, a corner, the corners and the outline.
use mathlib.Core.Path.{◌≡◌, sym, ap, subst, ◌∙◌}
use mathlib.Core.List.{List, [], ◌∷◌, ◌++◌}
use mathlib.Core.Bool.{false}
use Prim.Native.Nat.{◌+◌, ◌*◌, ◌≤◌, ◌<◌}
use native.Mathlib.Omega.{arith}
use lib.ListN.{length}
use Rattle.stream.specs.declared.Element.{Element}
use Rattle.stream.specs.Stream.{State, size_of, push, push_all, Fits}
use Rattle.stream.proofs.Pushed.{sizes-one, push_all-one}
use Rattle.conic_writer.specs.Entries.{Entry, plain, elements_of}
use Rattle.calls.specs.declared.Call.{Call}
use Rattle.calls.specs.Calls.{entries_of}
use Rattle.outline_need.specs.Entries.{push_calls, RoomAlong}
use Rattle.outline_need.proofs.Along.{room-rest, calls_join}
use Rattle.outline_need.proofs.Passing.{along_one}

module _ (s : State) (c : Call) where
  pub room-one : RoomAlong s (c ∷ []) → Fits s.builder s.verbs s.floats (elements_of (entries_of false s.builder.pen c))
  room-one h = subst (λ (es : List Entry). Fits s.builder s.verbs s.floats (elements_of es)) (along_one s.builder.start s.builder.pen c) h

  pub calls_one : (t : State) → t ≡ push_all s (elements_of (entries_of false s.builder.pen c)) → t ≡ push_calls s (c ∷ [])
  unfolding push_calls
  calls_one t e = e ∙ ap (λ (es : List Entry). push_all s (elements_of es)) (sym (along_one s.builder.start s.builder.pen c))

  -- a call that adds one element by itself
  module _ (k : Element) (g : entries_of false s.builder.pen c ≡ plain k ∷ []) where
    pub room-plain : RoomAlong s (c ∷ []) → (s.builder.verbs < length s.verbs) × (2 * (s.builder.points + size_of k) ≤ length s.floats)
    unfolding elements_of
    room-plain h =
        let f = subst (λ (es : List Entry). Fits s.builder s.verbs s.floats (elements_of es)) g (room-one h) in
        let z = sizes-one k in
        (omega (arith, f.0), omega (arith, f.1))

    pub calls_plain : (t : State) → t ≡ push s k → t ≡ push_calls s (c ∷ [])
    unfolding elements_of
    calls_plain t e = calls_one t (e ∙ sym (push_all-one s k) ∙ ap (λ (es : List Entry). push_all s (elements_of es)) (sym g))

-- ---- stretches of calls

-- from s the calls cs lead to t, in buffers of the same lengths
pub record Leads (s : State) (cs : List Call) (t : State) : Type 0 where
  pub is : t ≡ push_calls s cs
  pub verbs : length t.verbs ≡ length s.verbs
  pub floats : length t.floats ≡ length s.floats

pub leads : {s t : State} {cs : List Call} → t ≡ push_calls s cs → length t.verbs ≡ length s.verbs → length t.floats ≡ length s.floats → Leads s cs t
leads e v f = record { is = e; verbs = v; floats = f }

-- a call that adds one element by itself
pub leads-plain : {s t : State} (c : Call) (k : Element) → entries_of false s.builder.pen c ≡ plain k ∷ [] → t ≡ push s k → length t.verbs ≡ length s.verbs → length t.floats ≡ length s.floats → Leads s (c ∷ []) t
leads-plain {s} {t} c k g e v f = record { is = calls_plain s c k g t e; verbs = v; floats = f }

-- one stretch and then another
pub leads-then : {s t u : State} {cs ds : List Call} → Leads s cs t → Leads t ds u → Leads s (cs ++ ds) u
leads-then {s} {t} {u} {cs} {ds} p q = record { is = calls_join s t u cs ds p.is q.is; verbs = q.verbs ∙ p.verbs; floats = q.floats ∙ p.floats }

-- the room that is left behind a stretch
pub room-then : {s t : State} {cs : List Call} (ds : List Call) → Leads s cs t → RoomAlong s (cs ++ ds) → RoomAlong t ds
room-then {s} {t} {cs} ds p h = room-rest s t cs ds p.is p.verbs p.floats h
