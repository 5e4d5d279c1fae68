-- The six calls of path.rs, and an outline, in their own words.
use mathlib.Core.Path.{◌≡◌, refl}
use mathlib.Core.List.{List, ◌++◌}
use mathlib.Core.Bool.{Bool, true, false}
use Rattle.geometry.specs.declared.Point.{Point}
use lib.Ieee.{Float}
use Rattle.conic.specs.Conic.{lower_of}
use Rattle.stream.specs.Stream.{State, origin, is_empty, start_after, pen_after}
use Rattle.conic_writer.specs.Entries.{Entry, elements_of, pieces_in, joint_word, lowered_of}
use Rattle.calls.specs.declared.Call.{Call}
use Rattle.calls.specs.declared.Call.TheVariants as call
use Rattle.calls.specs.Calls.{opening, conic_from, entries_of, attempt, step}
use Rattle.shape.specs.declared.RoundSuperellipse.{RoundSuperellipse}
use Rattle.outline_corners.specs.Calls.{calls_in, outline_calls}
use Rattle.outline_need.specs.Entries.{entries_along, outline_entries}
use Rattle.outline_need.proofs.Conics.{conic_adds}
use Rattle.book.proofs.Given.{Opens}

-- a step attempts the call's entries
pub six_step : (s : State) (c : Call) → step s c ≡ attempt s (entries_of (is_empty s.builder) s.builder.pen c)
unfolding step
six_step s c = refl

pub six_no_pen : (c : Call) (p q : Point) → entries_of true p c ≡ entries_of true q c
unfolding entries_of
six_no_pen (call.MoveTo a) p q = refl
six_no_pen (call.LineTo a) p q = refl
six_no_pen (call.QuadTo a b) p q = refl
six_no_pen (call.ConicTo a b w) p q = refl
six_no_pen (call.CubicTo a b c) p q = refl
six_no_pen call.Close p q = refl

pub six_opens : (c : Call) (p : Point) → Opens (elements_of (entries_of true p c))
unfolding entries_of elements_of
six_opens (call.MoveTo a) p = tt
six_opens (call.LineTo a) p = tt
six_opens (call.QuadTo a b) p = tt
six_opens (call.ConicTo a b w) p = tt
six_opens (call.CubicTo a b c) p = tt
six_opens call.Close p = tt

pub outline_opens : (shape : RoundSuperellipse) → Opens (elements_of (outline_entries shape))
unfolding outline_entries outline_calls calls_in entries_along entries_of elements_of
outline_opens shape = tt

-- ---- a conic

pub conic-entries : (empty : Bool) (p ctrl to : Point) (w : Float) → entries_of empty p (call.ConicTo ctrl to w) ≡ opening empty ++ lowered_of (lower_of (conic_from empty p ctrl to w))
unfolding entries_of
conic-entries empty p ctrl to w = refl

-- the opening move has no piece
pub opened-word : (empty : Bool) (es : List Entry) → joint_word (opening empty ++ es) ≡ joint_word es
unfolding pieces_in
opened-word true es = refl
opened-word false es = refl

-- the pen is left at the target
pub conic-pen : (s p : Point) (empty : Bool) (ctrl to : Point) (w : Float) → pen_after s p (elements_of (opening empty ++ lowered_of (lower_of (conic_from empty p ctrl to w)))) ≡ to
unfolding entries_of elements_of start_after pen_after
conic-pen s p true ctrl to w = (conic_adds origin origin ctrl to w).pen
conic-pen s p false ctrl to w = (conic_adds s p ctrl to w).pen
