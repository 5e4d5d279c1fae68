use mathlib.Core.Path.{ap₂, sym, ◌∙◌}
use native.Mathlib.Omega.{arith}
use Rattle.ieee.proofs.Tests.{both}
use Rattle.exponential.proofs.Plains.{all_above, all_numbers, all_main}
use Rattle.exponential.proofs.powers_of_both.Goals as goal

pub main_powers_of_both-requires : goal.main_powers_of_both-requires
main_powers_of_both-requires g c =
    let plain = both _ _ c.if-all_plain.true in
    let first = sym c.all_plain.ensures ∙ plain.0 in
    let second = sym c.all_plain-2.ensures ∙ plain.1 in
    (omega arith, (omega arith, (all_above c.args.bases c.args.exponents first, (all_above c.args.other_bases c.args.other_exponents second, (all_numbers c.args.bases c.args.exponents first, all_numbers c.args.other_bases c.args.other_exponents second)))))

pub returns-then-all_plain : goal.returns-then-all_plain
returns-then-all_plain g c =
    let plain = both _ _ c.if-all_plain.true in
    c.main_powers_of_both.ensures
    ∙ ap₂ (λ a b. (a, b))
    (sym (all_main c.args.bases c.args.exponents (sym c.all_plain.ensures ∙ plain.0)))
    (sym (all_main c.args.other_bases c.args.other_exponents (sym c.all_plain-2.ensures ∙ plain.1)))
