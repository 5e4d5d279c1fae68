-- Numbers and floats that are stored one behind the other. Assumes nothing.
use mathlib.Core.Path.{◌≡◌, refl, ap, ◌∙◌}
use mathlib.Core.List.{List, [], ◌∷◌, ◌++◌}
use Prim.Native.Nat.{ℕ, ◌+◌}
use native.Mathlib.Omega.{arith}
use lib.ListN.{length, set}
use lib.Ieee.{Float}
use Rattle.stream.specs.Stream.{put, floats_in}
use Rattle.stream.proofs.Put.{put-after}
use Rattle.panel_file.specs.declared.Button.{Button}
use Rattle.panel_file.specs.declared.Record.TheVariants.{Button as ButtonRecord}
use Rattle.ffi_panel.specs.Asking.{record_floats}

-- ---- a place of one number, and of two

pub one_set : (l : List ℕ) (a : ℕ) → length l ≡ 1 → set l 0 a ≡ a ∷ []
one_set [] a e = absurd (omega arith)
one_set (x ∷ []) a e = refl
one_set (x ∷ y ∷ l) a e = absurd (omega arith)

pub two-set : (l : List ℕ) (a b : ℕ) → length l ≡ 2 → set (set l 0 a) 1 b ≡ a ∷ b ∷ []
two-set [] a b e = absurd (omega arith)
two-set (x ∷ l) a b e = ap (λ (k : List ℕ). a ∷ k) (one_set l b (omega arith))

-- ---- six points

-- m' has ws behind vs, where m has vs in front of l
grown : (l m m' : List Float) (j : ℕ) (vs ws : List Float) → j ≡ 0 + length vs → m ≡ put l 0 vs → m' ≡ put m j ws → m' ≡ put l 0 (vs ++ ws)
grown l m m' j vs ws e p q = q ∙ put-after l m 0 j vs ws (omega arith) e p

pub button-stored : (l m₁ m₂ m₃ m₄ m₅ m₆ : List Float) (b : Button)
    → m₁ ≡ put l 0 (floats_in (b.min ∷ [])) → m₂ ≡ put m₁ 2 (floats_in (b.max ∷ []))
    → m₃ ≡ put m₂ 4 (floats_in (b.top_left ∷ [])) → m₄ ≡ put m₃ 6 (floats_in (b.top_right ∷ []))
    → m₅ ≡ put m₄ 8 (floats_in (b.bottom_left ∷ [])) → m₆ ≡ put m₅ 10 (floats_in (b.bottom_right ∷ []))
    → m₆ ≡ record_floats (ButtonRecord b) l
unfolding record_floats
button-stored l m₁ m₂ m₃ m₄ m₅ m₆ b e₁ e₂ e₃ e₄ e₅ e₆ =
    let s₂ = grown l m₁ m₂ 2 (floats_in (b.min ∷ [])) (floats_in (b.max ∷ [])) refl e₁ e₂ in
    let s₃ = grown l m₂ m₃ 4 _ (floats_in (b.top_left ∷ [])) refl s₂ e₃ in
    let s₄ = grown l m₃ m₄ 6 _ (floats_in (b.top_right ∷ [])) refl s₃ e₄ in
    let s₅ = grown l m₄ m₅ 8 _ (floats_in (b.bottom_left ∷ [])) refl s₄ e₅ in
    grown l m₅ m₆ 10 _ (floats_in (b.bottom_right ∷ [])) refl s₅ e₆
