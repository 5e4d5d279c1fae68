-- Laws of the places of touches, and of the lines made of them. Assumes nothing.
use mathlib.Core.Path.{◌≡◌, refl, sym, ap, ◌∙◌}
use mathlib.Core.List.{List, [], ◌∷◌, ◌++◌, map, append-nil, append_assoc}
use Prim.Native.Nat.{ℕ, suc, ◌+◌, ◌≤◌}
use native.Mathlib.Omega.{arith}
use native.Mathlib.Nat.{add-zero}
use lib.ListN.{length, get_or, take, drop, length-map}
use lib.Seq.{take_at, get_or-drop, drop-drop}
use Rattle.geometry.specs.declared.Point.{Point}
use Rattle.panel_file.specs.declared.Counts.{Counts}
use Rattle.panel_file.specs.declared.Record.{Record}
use Rattle.panel_file.specs.declared.Record.TheVariants.{Button as ButtonRecord, Touch as TouchRecord}
use Rattle.panel_file.specs.Panel.{touches_of, counts_with, kind_of_record}
use Rattle.touch.specs.Touch.{Place, nowhere_code, code_of, place_of, shapes_of, place_among, places_of}
use Rattle.touch.proofs.Marking.{place_code, place_from-below}
use Rattle.touch.proofs.Answering.{few_shapes}
use Rattle.report_lines.specs.declared.Line.TheVariants.{End}
use Rattle.report_lines.specs.Line.{line_of}
use Rattle.report_lines.specs.Text.{text_of}
use Rattle.report_lines.specs.Records.{lines_at, lines_by}
use Rattle.report.specs.Report.{touch_line, lines_of}
use Rattle.report.specs.Lines.{line_for, line_at, counts_after, HoldsPlaces}

-- the number of a place among few records gives the place back
place-decoded : (rs : List Record) → length rs ≤ 5461 → (p : Point) → place_of (code_of (place_among rs p)) ≡ place_among rs p
unfolding place_among
place-decoded rs few p =
    let shapes = few_shapes rs few in
    place_code (place_from-below p {n = nowhere_code} 0 (shapes_of rs) (omega arith))

-- what `places` leaves
pub all_placed : (rs : List Record) (k : ℕ) (results place_codes : List ℕ) → place_codes ≡ places_of rs ++ drop k results → k ≡ length (touches_of rs) → HoldsPlaces rs place_codes 0 rs
unfolding HoldsPlaces places_of
all_placed rs k results place_codes e h =
    ap (take (length (touches_of rs))) e ∙ take_at (map (λ p. code_of (place_among rs p)) (touches_of rs)) (drop k results) (length (touches_of rs)) (length-map (touches_of rs) _)

first_taken : (l : List ℕ) (m : ℕ) (c : ℕ) (cs : List ℕ) → take (suc m) l ≡ c ∷ cs → (get_or l 0 0 ≡ c) × (take m (drop 1 l) ≡ cs)
first_taken [] m c cs e = let z : ◌≡◌ {A = ℕ} 0 1 = cc in absurd (omega arith)
first_taken (x ∷ l) m c cs e = (cc, cc)

module _ (all : List Record) (place_codes : List ℕ) where
  -- the first of the touches to come, and the others
  first_placed : (t : ℕ) (p : Point) (rs : List Record) → HoldsPlaces all place_codes t (TouchRecord p ∷ rs)
      → (get_or place_codes t 0 ≡ code_of (place_among all p)) × HoldsPlaces all place_codes (t + 1) rs
  unfolding HoldsPlaces touches_of
  first_placed t p rs e =
      let m = length (touches_of rs) in
      let f = first_taken (drop t place_codes) m (code_of (place_among all p)) (map (λ q. code_of (place_among all q)) (touches_of rs)) e in
      (ap (λ (k : ℕ). get_or place_codes k 0) (sym (add-zero t)) ∙ sym (get_or-drop t place_codes 0 0) ∙ f.0, ap (take m) (sym (drop-drop 1 t place_codes)) ∙ f.1)

  next_placed : (c : Counts) (r : Record) (rs : List Record) → HoldsPlaces all place_codes c.touches (r ∷ rs) → HoldsPlaces all place_codes (counts_after c r).touches rs
  unfolding counts_with kind_of_record HoldsPlaces touches_of
  next_placed c (ButtonRecord b) rs e = e
  next_placed c (TouchRecord p) rs e = (first_placed c.touches p rs e).1

  -- a record's line, then the lines of the records to come
  next_line_lem : (c : Counts) (r : Record) (rs : List Record) → HoldsPlaces all place_codes c.touches (r ∷ rs)
      → ((p : Point) → place_of (code_of (place_among all p)) ≡ place_among all p)
      → text_of (lines_of all c.buttons (r ∷ rs)) ≡ line_of (line_for r c.buttons (get_or place_codes c.touches 0)) ++ text_of (lines_of all (counts_after c r).buttons rs)
  unfolding counts_with kind_of_record line_for lines_of text_of
  next_line_lem c (ButtonRecord b) rs e decoded = refl
  next_line_lem c (TouchRecord p) rs e decoded =
      ap (λ (pl : Place). line_of (touch_line pl) ++ text_of (lines_of all c.buttons rs)) (sym (ap place_of (first_placed c.touches p rs e).0 ∙ decoded p))

  -- the lines of records, and the last line
  lines_of-lines_by : (c : Counts) (rs : List Record) → HoldsPlaces all place_codes c.touches rs
      → ((p : Point) → place_of (code_of (place_among all p)) ≡ place_among all p)
      → text_of (lines_of all c.buttons rs) ≡ text_of (lines_by (line_at place_codes) c rs) ++ line_of End
  unfolding lines_of lines_by lines_at text_of
  lines_of-lines_by c [] e decoded = append-nil (line_of End)
  lines_of-lines_by c (r ∷ rs) e decoded =
      next_line_lem c r rs e decoded
      ∙ ap (λ (t : List ℕ). line_of (line_for r c.buttons (get_or place_codes c.touches 0)) ++ t) (lines_of-lines_by (counts_after c r) rs (next_placed c r rs e) decoded)
      ∙ sym (append_assoc (line_of (line_for r c.buttons (get_or place_codes c.touches 0))) (text_of (lines_by (line_at place_codes) (counts_after c r) rs)) (line_of End))

  -- the lines of a file's records, from the first on
  pub report_of-lines_by : (c : Counts) → c.buttons ≡ 0 → HoldsPlaces all place_codes c.touches all → length all ≤ 5461
      → text_of (lines_of all 0 all) ≡ text_of (lines_by (line_at place_codes) c all) ++ line_of End
  report_of-lines_by c z e few = ap (λ (k : ℕ). text_of (lines_of all k all)) (sym z) ∙ lines_of-lines_by c all e (place-decoded all few)
