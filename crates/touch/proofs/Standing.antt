-- The offsets of a file's buttons, and its shapes. Assumes nothing.
use mathlib.Core.Path.{◌≡◌, sym, ap, ◌∙◌}
use mathlib.Core.List.{List, [], ◌∷◌, map}
use Prim.Native.Nat.{ℕ, zero, suc, ◌≤◌, ◌<◌}
use native.Mathlib.Omega.{arith}
use lib.ListN.{length, get_or, take, length-map}
use lib.Seq.{length-take-le}
use Rattle.std.proofs.Common.{Option, Some, None}
use Rattle.std.proofs.lemmas.List.{get_or-map, get_or-take}
use Rattle.panel_file.specs.declared.Button.{Button}
use Rattle.shape.specs.Refusal.{refused}
use Rattle.touch.specs.Touch.{shape_of}

some_at : (bs : List Button) (i : ℕ) → i < length bs → get_or (map Some bs) i None ≡ None → ⊥
some_at [] i l e = absurd (omega arith)
some_at (b ∷ bs) zero l e = let z : ◌≡◌ {A = ℕ} 0 1 = cc in absurd (omega arith)
some_at (b ∷ bs) (suc i) l e = some_at bs i (omega arith) e

-- read, of what stands at an offset, gives the buttons bs at the first n offsets
module _ (read : ℕ → Option Button) (bs : List Button) (n : ℕ) (offsets : List ℕ) (h : n ≤ length offsets) (e : map read (take n offsets) ≡ map Some bs) where
  pub counted : n ≡ length bs
  counted = sym (length-take-le n offsets h) ∙ sym (length-map (take n offsets) read) ∙ ap length e ∙ length-map bs Some

  -- each of them is read, and its shape is that of its index
  pub button_read : (i : ℕ) (b : Button) → i < n → read (get_or offsets i 0) ≡ Some b → get_or (map shape_of bs) i (refused 0) ≡ shape_of b
  button_read i b l q =
      let c = counted in
      let stands : Some b ≡ Some (get_or bs i b) =
      sym q ∙ ap read (sym (get_or-take n offsets i 0 l))
      ∙ sym (get_or-map read (take n offsets) i 0 None (omega (arith, length-take-le n offsets h)))
      ∙ ap (λ (found : List (Option Button)). get_or found i None) e
      ∙ get_or-map Some bs i b None (omega arith) in
      let same : get_or bs i b ≡ b = cc in
      get_or-map shape_of bs i b (refused 0) (omega arith) ∙ ap shape_of same

  -- and none is missed
  pub none_missed : (i : ℕ) → i < n → read (get_or offsets i 0) ≡ None → ⊥
  none_missed i l q =
      let c = counted in
      some_at bs i (omega arith)
      (sym (ap (λ (found : List (Option Button)). get_or found i None) e)
      ∙ get_or-map read (take n offsets) i 0 None (omega (arith, length-take-le n offsets h))
      ∙ ap read (get_or-take n offsets i 0 l) ∙ q)
