use mathlib.Core.Path.{◌≡◌, sym, ap, ◌∙◌}
use Prim.Native.Nat.{ℕ}
use native.Mathlib.Omega.{arith}
use lib.ListN.{length-set, replicate}
use Rattle.stream.specs.Stream.{put}
use Rattle.stream.proofs.Put.{put_nil}
use Rattle.conic_writer.proofs.Writing.{run_1, run_2, run_3, run_4}
use Rattle.conic_writer.proofs.fill_few.Goals as goal

pub returns-then-n-eq0 : goal.returns-then-n-eq0
returns-then-n-eq0 c =
    let a = c.args in
    let e : 0 ≡ a.n = omega arith in
    sym (put_nil a.verbs.now a.v) ∙ ap (λ (k : ℕ). put a.verbs.now a.v (replicate k 2)) e

pub returns-then-n-eq1 : goal.returns-then-n-eq1
returns-then-n-eq1 c =
    let a = c.args in
    let e : 1 ≡ a.n = omega arith in
    run_1 a.verbs.now a.v 2 (omega (arith, c.requires.verb_room)) ∙ ap (λ (k : ℕ). put a.verbs.now a.v (replicate k 2)) e

pub bounds-verbs-v-2 : goal.bounds-verbs-v-2
bounds-verbs-v-2 c = simp length-set (omega (arith, c.requires.verb_room))

pub returns-then-n-eq2 : goal.returns-then-n-eq2
returns-then-n-eq2 c =
    let a = c.args in
    let e : 2 ≡ a.n = omega arith in
    run_2 a.verbs.now a.v 2 (omega (arith, c.requires.verb_room)) ∙ ap (λ (k : ℕ). put a.verbs.now a.v (replicate k 2)) e

pub bounds-verbs-v-3 : goal.bounds-verbs-v-3
bounds-verbs-v-3 c = simp length-set (omega (arith, c.requires.verb_room))

pub returns-then-n-eq3 : goal.returns-then-n-eq3
returns-then-n-eq3 c =
    let a = c.args in
    let e : 3 ≡ a.n = omega arith in
    run_3 a.verbs.now a.v 2 (omega (arith, c.requires.verb_room)) ∙ ap (λ (k : ℕ). put a.verbs.now a.v (replicate k 2)) e

pub bounds-verbs-v-4 : goal.bounds-verbs-v-4
bounds-verbs-v-4 c = simp length-set (omega (arith, c.requires.verb_room))

pub returns : goal.returns
returns c =
    let a = c.args in
    let e : 4 ≡ a.n = omega (arith, c.requires.few) in
    run_4 a.verbs.now a.v 2 (omega (arith, c.requires.verb_room)) ∙ ap (λ (k : ℕ). put a.verbs.now a.v (replicate k 2)) e
