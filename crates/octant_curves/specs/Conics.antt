-- CONIC_TABLE, and the two conics that the Rust draws a superellipse arc with, in its order. Definitions only.
use Rattle.std.specs.Prelude.{ℕ, ◌+◌, List, [], ◌∷◌, pos, Float, if◌then◌else◌}
use Rattle.std.specs.Float.{binary32}
use Rattle.std.specs.Float.Ieee.{of_bits, of_int, neg, lt, le}
use Rattle.ieee.specs.Basic.{abs_of, clamp_of}
use Rattle.ieee.specs.Sqrt.{sqrt_of}
use Rattle.geometry.specs.declared.Point.{Point}
use Rattle.geometry.specs.Point.{add_of, shrink_of}
use Rattle.exponential.specs.Power.{pow_of}
use Rattle.ieee.specs.Binary32.{◌⊕◌, ◌⊖◌, ◌⊗◌, ◌⊘◌, zero, two, one}
use Rattle.octant.specs.Degree.{row, entry, left_row_of}
use Rattle.octant.specs.Octant.{point, close_enough}
use Rattle.octant.specs.declared.Octant.{Octant}
use Rattle.octant_curves.specs.declared.ConicFactors.{ConicFactors}
use Rattle.octant_curves.specs.declared.SuperellipseConics.{SuperellipseConics}

-- normalized weights of the two conics, for the degrees 2 to 14
abbrev pub conic_table : List (List Float)
conic_table =
    row 0x3f35_3261 0x4105_1c43  -- degree 2: 0.7078, 8.3194
    ∷ row 0x3f4a_1cac 0x401c_f27c  -- 3: 0.7895, 2.4523
    ∷ row 0x3f56_809d 0x3fed_288d  -- 4: 0.8379, 1.8528
    ∷ row 0x3f5e_bee0 0x3fd8_346e  -- 5: 0.8701, 1.6891
    ∷ row 0x3f64_a8c1 0x3fca_511a  -- 6: 0.8932, 1.5806
    ∷ row 0x3f69_23a3 0x3fc0_8ce7  -- 7: 0.9107, 1.5043
    ∷ row 0x3f6c_a57a 0x3fb9_374c  -- 8: 0.9244, 1.4470
    ∷ row 0x3f6f_7cee 0x3fb3_ac71  -- 9: 0.9355, 1.4037
    ∷ row 0x3f71_de6a 0x3faf_5f70  -- 10: 0.9448, 1.3701
    ∷ row 0x3f73_dd98 0x3fab_eab3  -- 11: 0.9526, 1.3431
    ∷ row 0x3f75_9b3d 0x3fa9_1d15  -- 12: 0.9594, 1.3212
    ∷ row 0x3f77_1de7 0x3fa6_cf42  -- 13: 0.9653, 1.3032
    ∷ row 0x3f78_72b0 0x3fa4_dd2f  -- 14: 0.9705, 1.2880
    ∷ []

unfoldable pub conic_at : ℕ → ℕ → Float
conic_at left column = entry conic_table left column

-- the table's stride, first degree and last row
abbrev step : Float
step = of_bits binary32 0x3f80_0000  -- 1.0

abbrev min_n : Float
min_n = of_bits binary32 0x4000_0000  -- 2.0

abbrev twelve : Float
twelve = of_bits binary32 0x4140_0000  -- 12.0

-- a degree, at most 14; a NaN stays
unfoldable pub capped_degree : Float → Float
capped_degree n = let max_n = min_n ⊕ twelve ⊗ step in if le max_n n then max_n else n

-- superellipse_conic_factors: only the right-hand term of each interpolation is multiplied by the root or by xJ/a
unfoldable pub superellipse_conic_factors_of : Float → Float → ConicFactors
superellipse_conic_factors_of n xj_over_a =
    let capped = capped_degree n in
    let steps = clamp_of ((capped ⊖ min_n) ⊘ step) zero twelve in
    let left = left_row_of steps 11 in
    let frac = steps ⊖ of_int binary32 (pos left) in
    let yh_proportion = sqrt_of binary32 capped in
    let weight1 = (one ⊖ frac) ⊗ conic_at left 0 ⊕ frac ⊗ conic_at (left + 1) 0 ⊗ yh_proportion in
    let weight2 = (one ⊖ frac) ⊗ conic_at left 1 ⊕ frac ⊗ conic_at (left + 1) 1 ⊗ xj_over_a in
    record { weight1 = weight1; weight2 = weight2; yh_proportion = yh_proportion }

-- intersection: where two lines meet, each given by a point and a slope; the midpoint where the slopes are within 1e-3
unfoldable pub intersection_of : Point → Float → Point → Float → Point
intersection_of p1 k1 p2 k2 =
    if lt (abs_of (k1 ⊖ k2)) close_enough then shrink_of (add_of p1 p2) two
    else (let x = (k1 ⊗ p1.x ⊖ k2 ⊗ p2.x ⊕ p2.y ⊖ p1.y) ⊘ (k1 ⊖ k2) in
    point x (k1 ⊗ (x ⊖ p1.x) ⊕ p1.y))

-- the height over a at which the two conics meet, for the circle's start at yj_over_a
unfoldable pub meeting_height_of : ConicFactors → Float → Float
meeting_height_of f yj_over_a = (one ⊗ f.yh_proportion ⊕ yj_over_a) ⊘ (f.yh_proportion ⊕ one)

-- the two conics, by where they meet, the slope there, k_h, and the slope where the circle starts, k_j
unfoldable pub conics_by_slopes : Octant → ConicFactors → Point → Float → Float → SuperellipseConics
conics_by_slopes param f h k_h k_j =
    let a = point zero param.se_a in
    let j = param.circle_start in
    let k_a = zero in
    record {
      c1 = intersection_of a k_a h k_h;
      h = h;
      weight1 = f.weight1;
      c2 = intersection_of h k_h j k_j;
      j = j;
      weight2 = f.weight2;
      a = a;
    }

-- superellipse_conics: A on the flat side, H between, J where the circle starts; the controls are where the tangents
-- meet
unfoldable pub superellipse_conics_of : Octant → Float → SuperellipseConics
superellipse_conics_of param yj_over_a =
    let n = param.se_n in
    let j = param.circle_start in
    let f = superellipse_conic_factors_of n (j.x ⊘ param.se_a) in
    let yh_over_a = meeting_height_of f yj_over_a in
    let h = point (pow_of (one ⊖ pow_of yh_over_a n) (one ⊘ n) ⊗ param.se_a) (yh_over_a ⊗ param.se_a) in
    let k_j = neg (pow_of (j.x ⊘ j.y) (n ⊖ one)) in
    let k_h = neg (pow_of (h.x ⊘ h.y) (n ⊖ one)) in
    conics_by_slopes param f h k_h k_j
