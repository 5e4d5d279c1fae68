-- The report of the tests is the file.
use Rattle.std.proofs.Common.{◌≡◌, ℕ, ◌≤◌, List, ◌++◌, length, take, drop, min, arith, ap, sym, ◌∙◌, length-take, take_all}
use lib.Seq.{take-take}
use Rattle.panel_program.proofs.tests.EchoReport.put.Goals as goal

cut : (n : ℕ) (l : List ℕ) → n ≡ min (length l) 65537 → take n l ≡ take 65537 l
cut n l e =
    let most : length (take 65537 l) ≤ n = rw length-take (omega arith) in
    sym (take-take n 65537 l (omega arith)) ∙ take_all n (take 65537 l) most

pub returns-clause-value : goal.returns-clause-value
returns-clause-value c = rw length-take (omega (arith, c.min-n.ensures))

pub returns-clause-out_after : goal.returns-clause-out_after
returns-clause-out_after c =
    ap (λ (l : List ℕ). l ++ drop c.min-n.result c.args.out.now) (c.copy_from_slice.ensures.after ∙ cut c.min-n.result c.args.file.now c.min-n.ensures)
