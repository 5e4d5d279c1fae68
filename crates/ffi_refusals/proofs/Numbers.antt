-- What is told of a number. Assumes nothing.
use mathlib.Core.Path.{◌≡◌}
use mathlib.Core.List.{List}
use Prim.Native.Nat.{ℕ}
use lib.ListN.{length}
use borrow.Author.Tests.{eq-eqb, ne_eqb}
use Rattle.std.proofs.Common.{Option}
use Rattle.ffi_refusals.specs.Texts.{text_of, text_left, told, told_of}

module _ (n : ℕ) (bytes : List ℕ) where
  pub other_length : (length bytes ≡ 64 → ⊥) → text_left 100 bytes ≡ told_of n bytes
  unfolding told_of
  other_length h = rw (ne_eqb (length bytes) 64 h)

  pub told_by : (x : Option (List ℕ)) → length bytes ≡ 64 → x ≡ text_of n → told x bytes ≡ told_of n bytes
  unfolding told_of
  told_by x e h = rw (eq-eqb (length bytes) 64 e, h)
