-- `text::words::split_word` meets its contract. Assumes nothing.
use Rattle.std.proofs.Common.{◌≡◌, ◌≤◌, length, arith, sym, ap}
use Rattle.text.specs.Words.{first_word, after_blanks}
use Rattle.text.proofs.Scanning.{no_longer}
use Rattle.text.proofs.words.split_word.Goals as goal

pub returns-clause-some : goal.returns-clause-some
unfolding first_word
returns-clause-some c =
    let s = c.args.s.now in
    let e : first_word s ≡ c.split_at.result.0.now = rw (← c.after_blanks-t.ensures, ← c.leading-n.ensures.value) (sym c.split_at.ensures.front) in
    let w = ap length e in
    λ z. c.if-n-eq0.false (omega arith)

pub returns-clause-shorter : goal.returns-clause-shorter
unfolding first_word
returns-clause-shorter c =
    let s = c.args.s.now in
    let e : first_word s ≡ c.split_at.result.0.now = rw (← c.after_blanks-t.ensures, ← c.leading-n.ensures.value) (sym c.split_at.ensures.front) in
    let l : length (after_blanks s) ≤ length s = no_longer s in
    let t = ap length c.after_blanks-t.ensures in
    let w = ap length e in
    omega arith
