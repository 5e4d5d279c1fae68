use mathlib.Core.Path.{◌≡◌, ap₂}
use mathlib.Core.Bool.{Bool, ◌&&◌}
use Rattle.std.specs.List.{list_all}
use Rattle.exponential.specs.Plain.{plain_base, plain_exponent}
use Rattle.exponential.proofs.Plains.{all_bases, all_exponents}
use Rattle.ieee.proofs.Specials.{inf32_is, minus_inf32_is}
use Rattle.exponential.proofs.all_plain.Goals as goal

pub returns : goal.returns
returns g c =
    let base : (c.all_between.result && c.all_differ.result) ≡ list_all plain_base c.args.bases = rw (c.all_between.ensures, c.all_differ.ensures, inf32_is) (all_bases c.args.bases) in
    let exponent : (c.all_between-2.result && c.all_differ-2.result) ≡ list_all plain_exponent c.args.exponents = rw (c.all_between-2.ensures, c.all_differ-2.ensures, inf32_is, minus_inf32_is) (all_exponents c.args.exponents) in
    ap₂ (λ (a b : Bool). a && b) base exponent
