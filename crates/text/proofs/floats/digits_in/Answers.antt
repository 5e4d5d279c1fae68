-- `text::floats::digits_in` meets its contract. Assumes nothing.
use Rattle.std.proofs.Common.{rules, lit<, ◌≡◌, ℕ, ap, ◌∙◌}
use Rattle.io.specs.Digits.{last_digits}
use Rattle.text.proofs.Placing.{at_least}
use Rattle.text.proofs.floats.digits_in.Goals as goal

pub returns : goal.returns
returns c =
    let a = c.args in
    let k : c.hex-len.result ≡ a.digits = at_least 16 a.digits a.n _ (lit< tt) c.requires.all (search rules) in
    c.hex-len.ensures.digits ∙ ap (λ (k : ℕ). last_digits 16 k a.n) k
