-- Floats in order: of two that stand one way, the other way round. Assumes nothing.
use mathlib.Core.Path.{◌≡◌}
use mathlib.Core.Bool.{false}
use lib.Dec.{T, not_T}
use lib.Ieee.{Float, lt, le}
use lib.Ieee.Bits.{is_false}
use Rattle.std.proofs.lemmas.Float as order

pub not_below : (x y : Float) → T (le x y) → lt y x ≡ false
not_below x y h = is_false (lt y x) (not_T (lt y x) (λ t. order.lt_irrefl y (order.lt_of_lt_of_le y x y t h)))

pub not_above : (x y : Float) → T (lt x y) → le y x ≡ false
not_above x y h = is_false (le y x) (not_T (le y x) (λ t. order.lt_irrefl x (order.lt_of_lt_of_le x y x h t)))
