-- `text::output::put_decimal` meets its contract. Assumes nothing.
use mathlib.Core.Path.{sym, ap, ◌∙◌}
use Prim.Native.Nat.{ℕ}
use Rattle.io.specs.Digits.{last_digits}
use Rattle.text.specs.Written.{decimal_text}
use Rattle.text.proofs.Placing.{decimal_places, rewritten}
use Rattle.text.proofs.output.put_decimal.Goals as goal

pub returns : goal.returns
unfolding decimal_text
returns c =
    let h = c.before.before.before.before.before in
    let s = h.before.before.before in
    let e = h.decimal-k.ensures.digits ∙ ap (λ (k : ℕ). last_digits 10 k s.args.n) (sym (decimal_places _ _ s.ranges.n.fits h.decimal-k.ensures.len)) in
    rewritten e c.put.ensures
