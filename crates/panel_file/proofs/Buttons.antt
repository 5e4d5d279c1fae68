-- Where the buttons of a good file stand. Assumes nothing.
use mathlib.Core.Path.{◌≡◌, refl, sym, ap, ◌∙◌}
use mathlib.Core.List.{List, [], ◌∷◌, ◌++◌, map, append_assoc, append-nil}
use Prim.Native.Nat.{ℕ, ◌+◌, ◌*◌, ◌≤◌, ◌<◌}
use native.Mathlib.Omega.{arith}
use native.Mathlib.Numerals.{add-one}
use lib.ListN.{length, take, set}
use lib.Seq.{take-suc-set}
use Rattle.std.proofs.Common.{Option, Some, Result, Ok}
use Rattle.std.proofs.lemmas.List.{map-append}
use Rattle.panel_file.specs.declared.Button.{Button}
use Rattle.panel_file.specs.declared.Record.{Record}
use Rattle.panel_file.specs.declared.Record.TheVariants.{Button as ButtonRecord, Touch as TouchRecord}
use Rattle.panel_file.specs.declared.Broken.{Broken}
use Rattle.panel_file.specs.declared.file.PanelFile.{PanelFile}
use Rattle.panel_file.specs.Panel.{limit, record_at, record_answer, records_from, records_in, buttons_of}
use Rattle.panel_file.specs.File.{button_in, button_at_offset}
use Rattle.panel_file.proofs.Following.{bytes_of}
use Rattle.panel_file.proofs.Walking.{read-within, entered}

-- what stands at the n offsets that are held, and the buttons to come
abbrev pub standing : PanelFile → ℕ → List ℕ → ℕ → List (Option Button)
standing f n offsets at = map (button_at_offset f) (take n offsets) ++ map Some (buttons_of (records_in (records_from f.bytes.now at)))

-- reading at an offset answered a button
module _ (f : PanelFile) (at : ℕ) (a : Result (Option (Record × ℕ)) Broken) (e : record_answer a ≡ record_at f.bytes.now at) (b : Button) (next : ℕ) (q : a ≡ Ok (Some (ButtonRecord b, next))) where
  -- it stands there, and takes 52 bytes
  stands : button_at_offset f at ≡ Some b
  unfolding button_at_offset button_in
  stands = ap button_in (entered f.bytes.now at a e (ButtonRecord b) next q)

  pub button_within : (n : ℕ) → 52 * n ≤ at → (n < 1260) × (at < 65536) × (52 * (n + 1) ≤ next) × (next ≤ limit)
  unfolding bytes_of
  button_within n h =
      let w = read-within f.bytes.now at a e (ButtonRecord b) next q in
      omega (arith, w.bytes, w.inside, w.short)

  pub button_held : (n : ℕ) (offsets : List ℕ) → n < length offsets
      → records_in (records_from f.bytes.now at) ≡ ButtonRecord b ∷ records_in (records_from f.bytes.now next)
      → standing f (n + 1) (set offsets n at) next ≡ standing f n offsets at
  unfolding buttons_of
  button_held n offsets h r =
      let rest = map Some (buttons_of (records_in (records_from f.bytes.now next))) in
      ap (λ (k : ℕ). map (button_at_offset f) (take k (set offsets n at)) ++ rest) (add-one n)
      ∙ ap (λ (ats : List ℕ). map (button_at_offset f) ats ++ rest) (take-suc-set offsets n at h)
      ∙ ap (λ (found : List (Option Button)). found ++ rest) (map-append (button_at_offset f) (take n offsets) (at ∷ []))
      ∙ append_assoc (map (button_at_offset f) (take n offsets)) (button_at_offset f at ∷ []) rest
      ∙ ap (λ (found : Option Button). map (button_at_offset f) (take n offsets) ++ (found ∷ rest)) stands
      ∙ ap (λ (rs : List Record). map (button_at_offset f) (take n offsets) ++ map Some (buttons_of rs)) (sym r)

-- a touch is passed over
pub touch_passed : (f : PanelFile) (n : ℕ) (offsets : List ℕ) (at next : ℕ) (r : Record) → ((b : Button) → r ≡ ButtonRecord b → ⊥)
    → records_in (records_from f.bytes.now at) ≡ r ∷ records_in (records_from f.bytes.now next) → standing f n offsets next ≡ standing f n offsets at
unfolding buttons_of
touch_passed f n offsets at next (ButtonRecord b) h r = absurd (h b refl)
touch_passed f n offsets at next (TouchRecord p) h r =
    ap (λ (rs : List Record). map (button_at_offset f) (take n offsets) ++ map Some (buttons_of rs)) (sym r)

-- none is to come
pub all_held : (f : PanelFile) (n : ℕ) (offsets : List ℕ) (at : ℕ) → records_in (records_from f.bytes.now at) ≡ []
    → map (button_at_offset f) (take n offsets) ≡ standing f n offsets at
unfolding buttons_of
all_held f n offsets at e =
    sym
    (ap (λ (rs : List Record). map (button_at_offset f) (take n offsets) ++ map Some (buttons_of rs)) e
    ∙ append-nil (map (button_at_offset f) (take n offsets)))
