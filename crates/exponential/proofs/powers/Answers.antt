use Rattle.std.proofs.Common.{sym, ◌∙◌}
use native.Mathlib.Omega.{arith}
use Rattle.exponential.proofs.Plains.{all_above, all_numbers, all_main}
use Rattle.exponential.proofs.powers.Goals as goal

pub main_powers-requires : goal.main_powers-requires
main_powers-requires g c =
    let plain = sym c.all_plain.ensures ∙ c.if-all_plain.true in
    (omega arith, (omega arith, (all_above c.args.bases c.args.exponents plain, all_numbers c.args.bases c.args.exponents plain)))

pub returns-then-all_plain : goal.returns-then-all_plain
returns-then-all_plain g c = c.main_powers.ensures ∙ sym (all_main c.args.bases c.args.exponents (sym c.all_plain.ensures ∙ c.if-all_plain.true))
