-- Laws of texts written one behind the other. Assumes nothing.
use mathlib.Core.Path.{◌≡◌, sym, ap, ap₂, ◌∙◌}
use mathlib.Core.List.{List, [], ◌∷◌, ◌++◌, append-nil}
use Prim.Native.Nat.{ℕ, ◌≤◌}
use native.Mathlib.Omega.{arith}
use native.Mathlib.Nat.{zero-add}
use lib.ListN.{length, take, drop, length-append, take-append-drop}
use lib.Seq.{drop-drop}
use Rattle.io.specs.Counts.{IsPrefixLen}
use Rattle.consistency.specs.declared.Verdict.{Verdict}
use Rattle.consistency.specs.declared.Verdict.TheVariants.{Consistent, CenterOutside, MiddleOutside, SidesSmall, CornerOval, OutlineOutside}
use Rattle.report_lines.specs.declared.Line.{Line}
use Rattle.report_lines.specs.declared.Line.TheVariants.{Shape, Refused, Touch, Nowhere, End, Inspected, Broken}
use Rattle.report_lines.specs.Line.{verdict_text, number_then, line_of}
use Rattle.report_lines.proofs.Adding.{decimal_most}
use Rattle.report_lines.specs.Text.{text_of, Over}

-- what is said of a shape is not long
verdict_most : (v : Verdict) → length (verdict_text v) ≤ 46
verdict_most Consistent = omega arith
verdict_most CenterOutside = omega arith
verdict_most MiddleOutside = omega arith
verdict_most SidesSmall = omega arith
verdict_most CornerOval = omega arith
verdict_most OutlineOutside = omega arith

-- a line is not long
pub line_most : (l : Line) → length (line_of l) ≤ 72
unfolding line_of number_then
line_most (Shape index verbs points) = simp length-append (omega (arith, decimal_most index, decimal_most verbs, decimal_most points))
line_most (Refused index cause) = simp length-append (omega (arith, decimal_most index, decimal_most cause))
line_most (Touch index) = simp length-append (omega (arith, decimal_most index))
line_most Nowhere = omega arith
line_most End = omega arith
line_most (Inspected index verdict) = let m = verdict_most verdict in simp length-append (omega (arith, decimal_most index))
line_most (Broken cause offset) = simp length-append (omega (arith, decimal_most cause, decimal_most offset))

-- one line is its text
pub one_line : (l : Line) → text_of (l ∷ []) ≡ line_of l
unfolding text_of
one_line l = append-nil (line_of l)

-- a text behind what was written so far, in the first n of l; past them l is l₀
module _ (l₀ l : List ℕ) (n : ℕ) (t : List ℕ) (r : ℕ) (l' : List ℕ) (kept : drop n l ≡ drop n l₀) (o : Over l n t r l') where
  pub over_rest : drop r l' ≡ drop r l₀
  over_rest =
      o.rest
      ∙ ap (λ (k : ℕ). drop k l) o.past
      ∙ sym (drop-drop (length t) n l)
      ∙ ap (drop (length t)) kept
      ∙ drop-drop (length t) n l₀
      ∙ ap (λ (k : ℕ). drop k l₀) (sym o.past)

  -- the last text: all that was written
  pub over_all : (whole : List ℕ) → whole ≡ take n l ++ t → IsPrefixLen r l' → Over l₀ 0 whole r l'
  over_all whole e count = record {
    past = count.1 ∙ ap length (o.front ∙ sym e) ∙ sym (zero-add (length whole));
    front = o.front ∙ sym e;
    rest = over_rest;
  }

-- a text at the start
pub all_over : (l t : List ℕ) (r : ℕ) (l' : List ℕ) → Over l 0 t r l' → (r ≡ length t) × (l' ≡ t ++ drop r l)
all_over l t r l' o =
    (o.past ∙ zero-add (length t), sym (take-append-drop r l') ∙ ap₂ (λ (a b : List ℕ). a ++ b) o.front o.rest)
