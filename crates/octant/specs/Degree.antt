-- CORNER_TABLE, and the degree and the join that the Rust's `n_and_xj` reads out of it. Definitions only.
use Rattle.std.specs.Prelude.{ℕ, ◌+◌, min, List, [], ◌∷◌, pos, get_or, Float, if◌then◌else◌}
use Rattle.std.specs.Float.{nan, binary32}
use Rattle.std.specs.Float.Ieee.{of_bits, of_int, to_unsigned, lt}
use Rattle.ieee.specs.Basic.{clamp_of}
use Rattle.ieee.specs.Binary32.{◌⊕◌, ◌⊖◌, ◌⊗◌, ◌⊘◌, one}
use Rattle.octant.specs.declared.NAndXj.{NAndXj}

-- a table's row, by its two patterns, and the entry at a row and a column
abbrev pub row : ℕ → ℕ → List Float
row a b = of_bits binary32 a ∷ of_bits binary32 b ∷ []

abbrev pub entry : List (List Float) → ℕ → ℕ → Float
entry table left column = get_or (get_or table left []) column nan

-- the degree n and k_xJ, fitted against the ratio of side to radius
abbrev pub corner_table : List (List Float)
corner_table =
    row 0x4000_0000 0x3f90_fe81  -- ratio 2.00: 2.0, 1.1327668
    ∷ row 0x400b_be6e 0x3f99_ffcf  -- 2.10: 2.183498, 1.2031192
    ∷ row 0x4015_b051 0x3fa4_bc06  -- 2.20: 2.3388866, 1.286988
    ∷ row 0x401f_248d 0x3fae_87ce  -- 2.30: 2.486606, 1.3635194
    ∷ row 0x4027_d335 0x3fb9_3d30  -- 2.40: 2.622266, 1.4471798
    ∷ row 0x4030_1869 0x3fc4_5577  -- 2.50: 2.7514899, 1.5338582
    ∷ row 0x4057_3b1c 0x3ffd_cf1b  -- 3.00: 3.3629827, 1.9828828
    ∷ row 0x4082_c49a 0x400f_3d55  -- 3.50: 4.086499, 2.2381185
    ∷ row 0x409b_5a9d 0x401e_70cc  -- 4.00: 4.854811, 2.4756346
    ∷ row 0x40b4_2480 0x402e_afe6  -- 4.50: 5.6294555, 2.729486
    ∷ row 0x40cd_c482 0x403e_bbaa  -- 5.00: 6.430238, 2.980204
    ∷ []

unfoldable pub corner_at : ℕ → ℕ → Float
corner_at left column = entry corner_table left column

-- the rows' two zones, and the straight line past them
abbrev pub min_ratio : Float
min_ratio = of_bits binary32 0x4000_0000  -- 2.0

abbrev pub first_step_inverse : Float
first_step_inverse = of_bits binary32 0x4120_0000  -- 10.0

abbrev pub first_max_ratio : Float
first_max_ratio = of_bits binary32 0x4020_0000  -- 2.5

abbrev pub first_num_records : Float
first_num_records = of_bits binary32 0x40c0_0000  -- 6.0

abbrev pub second_step_inverse : Float
second_step_inverse = of_bits binary32 0x4000_0000  -- 2.0

abbrev pub second_max_ratio : Float
second_max_ratio = of_bits binary32 0x40a0_0000  -- 5.0

abbrev pub third_n_slope : Float
third_n_slope = of_bits binary32 0x3fc7_a0f4  -- 1.5595994

abbrev pub third_kxj_slope : Float
third_kxj_slope = of_bits binary32 0x3f05_d6b1  -- 0.5228072

-- (steps.floor() as usize).min(last): the whole part, 0 for a NaN and below 0, but at most `last`
abbrev pub left_row_of : Float → ℕ → ℕ
left_row_of steps last = min (to_unsigned 64 steps) last

-- where a ratio stands among the rows: the first six rows are 0.1 apart, the others 0.5
unfoldable pub table_steps_of : Float → Float
table_steps_of ratio =
    if lt ratio first_max_ratio
    then (ratio ⊖ min_ratio) ⊗ first_step_inverse
    else (ratio ⊖ first_max_ratio) ⊗ second_step_inverse ⊕ first_num_records ⊖ one

-- n_and_xj: past the table's last row a straight line from it, else between the two rows about the ratio
unfoldable pub n_and_xj_of : Float → NAndXj
n_and_xj_of ratio =
    if lt second_max_ratio ratio
    then (let n = third_n_slope ⊗ (ratio ⊖ second_max_ratio) ⊕ corner_at 10 0 in
    let k_xj = third_kxj_slope ⊗ (ratio ⊖ second_max_ratio) ⊕ corner_at 10 1 in
    record { n = n; xj_over_a = one ⊖ one ⊘ k_xj })
    else (let steps = table_steps_of (clamp_of ratio min_ratio second_max_ratio) in
    let left = left_row_of steps 9 in
    let frac = steps ⊖ of_int binary32 (pos left) in
    let n = (one ⊖ frac) ⊗ corner_at left 0 ⊕ frac ⊗ corner_at (left + 1) 0 in
    let k_xj = (one ⊖ frac) ⊗ corner_at left 1 ⊕ frac ⊗ corner_at (left + 1) 1 in
    record { n = n; xj_over_a = one ⊖ one ⊘ k_xj })
