-- The worked examples, each by its letter, a to j. Definitions only.
use Rattle.std.specs.Prelude.{◌≡◌, List, [], ◌∷◌, true, false, ℕ, ◌-◌, ◌^◌, length, replicate, Float}
use Rattle.std.specs.Float.{binary32, nan}
use Rattle.std.specs.Float.Ieee.{of_bits, lt}
use Rattle.ieee.specs.Binary32.{zero, one, two, three}
use Rattle.geometry.specs.declared.Point.{Point}
use Rattle.stream.specs.declared.Element.{Element}
use Rattle.octant.specs.Degree.{corner_at, first_max_ratio, second_max_ratio, n_and_xj_of}
use Rattle.octant.specs.Octant.{close_enough, compute_octant_of}
use Rattle.octant_curves.specs.Conics.{superellipse_conic_factors_of}
use Rattle.shape.specs.declared.Bounds.{Bounds}
use Rattle.shape.specs.declared.CornerRadii.{CornerRadii}
use Rattle.shape.specs.declared.RoundSuperellipse.{RoundSuperellipse}
use Rattle.shape.specs.Shape.{shape_of}
use Rattle.shape.specs.Refusal.{made, new_of}
use Rattle.containment.specs.Contains.{contains_of}
use Rattle.stream.specs.declared.Element.TheVariants.{Move, Line, Quad, Close}
use Rattle.stream.specs.Stream.{State, state, fresh_builder, origin, sizes_of}
use Rattle.conic_writer.specs.Entries.{Entry, elements_of, joint_word}
use Rattle.calls.specs.declared.Call.TheVariants.{ConicTo}
use Rattle.calls.specs.Calls.{entries_of, step}
use Rattle.outline_need.specs.Entries.{outline_entries}

-- 5.0 and 10.0
abbrev pub five : Float
five = of_bits binary32 0x40a0_0000

abbrev pub ten : Float
ten = of_bits binary32 0x4120_0000

abbrev pub at : Float → Float → Point
at a b = record { x = a; y = b }

-- what a conic adds to an empty builder
abbrev pub conic : Point → Point → Float → List Entry
conic ctrl to weight = entries_of true origin (ConicTo ctrl to weight)

-- a fresh builder with so many verbs and floats lent, all 0
abbrev pub fresh_state : ℕ → ℕ → State
fresh_state v f = state fresh_builder (replicate v 0) (replicate f zero)

-- the square of examples i and j: min (0, 0), max (10, 10), all radii 0
abbrev pub bounds : Bounds
bounds = record { min = origin; max = at ten ten }

abbrev pub radii : CornerRadii
radii = record { top_left = origin; top_right = origin; bottom_left = origin; bottom_right = origin }

abbrev pub shape : RoundSuperellipse
shape = shape_of bounds radii

abbrev pub square_outline : List Element
square_outline =
    Move (at five zero)
    ∷ Line (at ten zero)
    ∷ Line (at ten five)
    ∷ Line (at ten ten)
    ∷ Line (at five ten)
    ∷ Line (at zero ten)
    ∷ Line (at zero five)
    ∷ Line (at zero zero)
    ∷ Line (at five zero)
    ∷ Line (at five zero)
    ∷ Close
    ∷ []

pub record WorkedExamples : Type 0 where
  -- weight 1: move, quad; word 1
  pub a : elements_of (conic (at one zero) (at two zero) one) ≡ Move origin ∷ Quad (at one zero) (at two zero) ∷ []
  pub a_word : joint_word (conic (at one zero) (at two zero) one) ≡ 1
  -- weight 0: move, line; word 0
  pub b : elements_of (conic (at one zero) (at two zero) zero) ≡ Move origin ∷ Line (at two zero) ∷ []
  pub b_word : joint_word (conic (at one zero) (at two zero) zero) ≡ 0
  -- control and target (0, 0), weight 3: 65 verbs, 129 points, word all ones; with 64 verbs lent, 5
  pub c_verbs : length (elements_of (conic origin origin three)) ≡ 65
  pub c_points : sizes_of (elements_of (conic origin origin three)) ≡ 129
  pub c_word : joint_word (conic origin origin three) ≡ 2 ^ 64 - 1
  pub c_room : (step (fresh_state 65 258) (ConicTo origin origin three)).number ≡ 0
  pub c_full : (step (fresh_state 64 258) (ConicTo origin origin three)).number ≡ 5
  -- weight 3: one quad, as both midpoints meet
  pub d : elements_of (conic (at one zero) (at two zero) three) ≡ Move origin ∷ Quad (at one zero) (at two zero) ∷ []
  pub d_word : joint_word (conic (at one zero) (at two zero) three) ≡ 1
  -- weight NaN: as b
  pub e : elements_of (conic (at one zero) (at two zero) nan) ≡ elements_of (conic (at one zero) (at two zero) zero)
  pub e_word : joint_word (conic (at one zero) (at two zero) nan) ≡ 0
  -- ratio 5: degree 6.430238, last row; ratio 2.5: 2.7514899
  pub f : (n_and_xj_of second_max_ratio).n ≡ of_bits binary32 0x40cd_c482
  pub f_row : (n_and_xj_of second_max_ratio).n ≡ corner_at 10 0
  pub f_first : (n_and_xj_of first_max_ratio).n ≡ of_bits binary32 0x4030_1869
  -- degree 3: first conic weight 0.7895, wherever the circle starts
  pub g : (start : Float) → (superellipse_conic_factors_of three start).weight1 ≡ of_bits binary32 0x3f4a_1cac
  -- an octant with half-extent 1 and radius 1e-3: square, degree 0; at the next float the degree is above 2
  pub h : (center : Point) → (compute_octant_of center one close_enough).se_n ≡ zero
  pub h_next : (center : Point) → lt two (compute_octant_of center one (of_bits binary32 0x3a83_1270)).se_n ≡ true
  -- the square: its outline's ten points
  pub i : elements_of (outline_entries shape) ≡ square_outline
  -- the square is made; in it (0, 10) is outside, (5, 5) inside
  pub j_made : new_of bounds radii ≡ made shape
  pub j_outside : contains_of shape (at zero ten) ≡ false
  pub j_inside : contains_of shape (at five five) ≡ true
