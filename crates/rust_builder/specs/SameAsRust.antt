-- A list of building calls that finds room leaves in the buffers what the Rust's builder holds after it. That a shape
-- and containment equal the Rust's is said by the contracts of `new` and `contains`, whose definitions `new_of` and
-- `contains_of` are their transcriptions. Definitions only.
use Rattle.std.specs.Prelude.{◌≡◌, List, [], ◌∷◌, ◌++◌, ℕ, ◌*◌, ◌/◌, ◌≤◌, length, take, Float}
use Rattle.stream.specs.declared.Builder.{Builder}
use Rattle.stream.specs.Stream.{fresh_builder, floats_in}
use Rattle.outline.specs.declared.BuildingCall.{BuildingCall}
use Rattle.outline.specs.declared.BuildingCall.TheVariants.{MoveTo, LineTo, QuadTo, ConicTo, CubicTo, Close, AddTo}
use Rattle.outline.specs.Step.{step}
use Rattle.book.specs.Lists.{state_after}
use Rattle.rust_builder.specs.PathBuilder.{PathBuilder, new_builder, move_to, line_to, quad_to, cubic_to, conic_to, close}
use Rattle.rust_builder.specs.AddTo.{add_to}

-- the Rust's builder after a building call, and after a list of them
unfoldable pub after_call : PathBuilder → BuildingCall → PathBuilder
after_call b (MoveTo p) = move_to b p
after_call b (LineTo p) = line_to b p
after_call b (QuadTo ctrl to) = quad_to b ctrl to
after_call b (ConicTo ctrl to weight) = conic_to b ctrl to weight
after_call b (CubicTo c0 c1 to) = cubic_to b c0 c1 to
after_call b Close = close b
after_call b (AddTo shape) = add_to shape b

unfoldable pub after_calls : PathBuilder → List BuildingCall → PathBuilder
after_calls b [] = b
after_calls b (c ∷ cs) = after_calls (after_call b c) cs

-- what the Rust's builder holds after a list
abbrev pub rust_path : List BuildingCall → PathBuilder
rust_path cs = after_calls new_builder cs

-- buffers of so many bytes and floats have a place for each verb and two floats for each point that the Rust's
-- builder holds in the end
pub record FindsRoom (verb_room float_room : ℕ) (cs : List BuildingCall) : Type 0 where
  pub verbs : length (rust_path cs).verbs ≤ verb_room
  pub points : length (rust_path cs).points ≤ float_room / 2

pub record SameAsRust (b : Builder) (vs : List ℕ) (fs : List Float) (cs : List BuildingCall) : Type 0 where
  -- no call is refused
  pub accepted : (pre : List BuildingCall) (c : BuildingCall) (post : List BuildingCall) → cs ≡ pre ++ c ∷ post
      → (step (state_after step b vs fs pre) c).number ≡ 0
  -- the verbs and the floats in front are the Rust's
  pub verbs : let s = state_after step b vs fs cs in
      take s.builder.verbs s.verbs ≡ (rust_path cs).verbs
  pub floats : let s = state_after step b vs fs cs in
      take (2 * s.builder.points) s.floats ≡ floats_in (rust_path cs).points

-- every list that finds room, from every record with both counts 0 and over buffers of any contents
abbrev pub EveryListIsSameAsRust : Type 0
EveryListIsSameAsRust =
    (b : Builder) (vs : List ℕ) (fs : List Float) (cs : List BuildingCall)
    → b.verbs ≡ 0 → b.points ≡ 0 → FindsRoom (length vs) (length fs) cs → SameAsRust b vs fs cs

-- and so from the fresh record
abbrev pub EveryFreshListIsSameAsRust : Type 0
EveryFreshListIsSameAsRust =
    (vs : List ℕ) (fs : List Float) (cs : List BuildingCall)
    → FindsRoom (length vs) (length fs) cs → SameAsRust fresh_builder vs fs cs

-- every list finds room in buffers as long as what the Rust's builder holds after it
abbrev pub EveryListFindsRoom : Type 0
EveryListFindsRoom =
    (vs : List ℕ) (fs : List Float) (cs : List BuildingCall)
    → length vs ≡ length (rust_path cs).verbs → length fs ≡ 2 * length (rust_path cs).points
    → FindsRoom (length vs) (length fs) cs
