-- A drawn outline as the calls that draw it. Definitions only.
use mathlib.Core.List.{List, [], ◌∷◌, ◌++◌, flatten}
use Rattle.geometry.specs.declared.Point.{Point}
use Rattle.shape.specs.declared.RoundSuperellipse.{RoundSuperellipse}
use Rattle.calls.specs.declared.Call.{Call}
use Rattle.calls.specs.declared.Call.TheVariants.{MoveTo, LineTo, ConicTo, CubicTo, Close}
use Rattle.outline_corners.specs.declared.ConicArc.{ConicArc}
use Rattle.outline_corners.specs.declared.CubicArc.{CubicArc}
use Rattle.outline_corners.specs.declared.OctantArcs.{OctantArcs}
use Rattle.outline_corners.specs.declared.Corner.{Corner}
use Rattle.outline_corners.specs.declared.Corner.TheVariants.{Square, Round}
use Rattle.outline_corners.specs.declared.Corners.{Corners}
use Rattle.outline_corners.specs.declared.Outline.{Outline}
use Rattle.outline_corners.specs.Corners.{corners_of, start_point}

abbrev pub conic_call : ConicArc → Call
conic_call a = ConicTo a.ctrl a.to a.weight

abbrev pub cubic_call : CubicArc → Call
cubic_call a = CubicTo a.c0 a.c1 a.to

abbrev pub calls_forwards : OctantArcs → List Call
calls_forwards o = conic_call o.first ∷ conic_call o.second ∷ cubic_call o.circle ∷ []

abbrev pub calls_backwards : OctantArcs → List Call
calls_backwards o = cubic_call o.circle ∷ conic_call o.second ∷ conic_call o.first ∷ []

abbrev pub calls_of : Corner → List Call
calls_of (Square p q) = LineTo p ∷ LineTo q ∷ []
calls_of (Round r) = calls_forwards r.forwards ++ calls_backwards r.backwards

abbrev pub call_lists : Corners → List (List Call)
call_lists cs = calls_of cs.first ∷ calls_of cs.second ∷ calls_of cs.third ∷ calls_of cs.fourth ∷ []

-- a move's point, and the four corners' calls
pub record Drawing : Type 0 where
  pub start : Point
  pub corners : List (List Call)

abbrev pub drawing_of : Outline → Drawing
drawing_of o = record { start = o.start; corners = call_lists o.corners }

-- add_to
unfoldable pub outline_of : RoundSuperellipse → Drawing
outline_of shape = record { start = start_point shape.top_right; corners = corners_of shape }

-- a move to the start, the corners' calls, a line to the start, a close
unfoldable pub calls_in : Drawing → List Call
calls_in d = MoveTo d.start ∷ flatten d.corners ++ LineTo d.start ∷ Close ∷ []

unfoldable pub outline_calls : RoundSuperellipse → List Call
outline_calls shape = calls_in (outline_of shape)
