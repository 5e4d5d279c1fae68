-- Laws of the lines of records, one behind the other. Assumes nothing.
use Rattle.std.proofs.Common.{◌≡◌, ℕ, ◌+◌, List, [], ◌∷◌, ◌++◌, length, take, drop, Option, Some, None, refl, sym, ap, ◌∙◌, arith}
use mathlib.Core.List.{append-nil}
use native.Mathlib.Nat.{add-zero, zero-add}
use lib.ListN.{length-append, length-take}
use Rattle.io.specs.Counts.{IsPrefixLen}
use Rattle.panel_file.specs.declared.Counts.{Counts}
use Rattle.panel_file.specs.declared.Record.{Record}
use Rattle.panel_file.specs.Panel.{counts_with, kind_of_record}
use Rattle.report_lines.specs.declared.Line.{Line}
use Rattle.report_lines.specs.Line.{line_of}
use Rattle.report_lines.specs.Text.{text_of, Over}
use Rattle.report_lines.specs.Records.{lines_at, lines_by}
use Rattle.report_lines.proofs.Writing.{one_line}

-- the text of a record's lines and of others
lines_then : (o : Option Line) (ls : List Line) → text_of (lines_at o ++ ls) ≡ text_of (lines_at o) ++ text_of ls
unfolding lines_at text_of
lines_then None ls = refl
lines_then (Some l) ls = ap (λ (t : List ℕ). t ++ text_of ls) (sym (append-nil (line_of l)))

-- a record's lines, then those of the records to come
pub next_lines : (line : Counts → Record → Option Line) (c : Counts) (r : Record) (rs : List Record)
    → text_of (lines_by line c (r ∷ rs)) ≡ text_of (lines_at (line c r)) ++ text_of (lines_by line (counts_with c (kind_of_record r)) rs)
unfolding lines_by
next_lines line c r rs = lines_then (line c r) (lines_by line (counts_with c (kind_of_record r)) rs)

-- no text over l
pub over_none : (l : List ℕ) (at : ℕ) → Over l at [] at l
over_none l at = record { past = sym (add-zero at); front = sym (append-nil (take at l)); rest = refl }

-- the text of one line, and of none
pub text_of_some : (line : Line) → text_of (lines_at (Some line)) ≡ line_of line
unfolding lines_at
text_of_some line = one_line line

pub text_of_none : text_of (lines_at None) ≡ []
unfolding lines_at text_of
text_of_none = refl

-- where no records are left, no lines are
pub none_left : (line : Counts → Record → Option Line) (t : List ℕ) (c : Counts) (rs : List Record) → rs ≡ [] → t ++ text_of (lines_by line c rs) ≡ t
unfolding lines_by text_of
none_left line t c rs e = rw e (append-nil t)

-- what is in front of a text and the text are as long as the index past it says
pub over_counts : (l : List ℕ) (n : ℕ) (t : List ℕ) (r : ℕ) (l' : List ℕ) → IsPrefixLen n l → Over l n t r l' → IsPrefixLen r l'
over_counts l n t r l' c o =
    let e : length (take r l') ≡ n + length t = ap length o.front ∙ length-append (take n l) t ∙ ap (λ (k : ℕ). k + length t) (sym c.1) in
    (omega (arith, length-take r l', o.past), o.past ∙ sym e)

-- all that was written, where nothing is to come
pub over_whole : (l₀ l : List ℕ) (n : ℕ) (whole : List ℕ) → drop n l ≡ drop n l₀ → whole ≡ take n l → IsPrefixLen n l → Over l₀ 0 whole n l
over_whole l₀ l n whole kept e c = record { past = c.1 ∙ ap length (sym e) ∙ sym (zero-add (length whole)); front = sym e; rest = kept }
