-- `operands::U8Element::push_word` meets its contract. Assumes nothing.
use Rattle.std.proofs.Common.{◌≡◌, ◌≤◌, length, take, drop, sym, ◌∙◌, rules}
use Rattle.operands.specs.Appending.{with_word, bytes-stay}
use Rattle.operands.proofs.Bytes.{none_left, one_digit, one_more}
use Rattle.operands.proofs.appending.U8Element.push_word.Goals as goal

pub returns-in_err-held : goal.returns-in_err-held
unfolding with_word
returns-in_err-held c =
    let d : c.in-Some.digits.now ≡ take 2 c.loop-digits.rest.now = search rules in
    let t : c.in-Some.tail.now ≡ drop 2 c.loop-digits.rest.now = search rules in
    let n : 2 ≤ length c.loop-digits.rest.now = search rules in
    rw c.from_residual.ensures
    (sym (c.loop-digits.invariant ∙ one_more _ _ _ _ _ d t n (sym c.in_err-held.ensures) ∙ bytes-stay _ _ _))

pub loop-digits-preserved : goal.loop-digits-preserved
loop-digits-preserved c =
    let d : c.in-Some.digits.now ≡ take 2 c.loop-digits.rest.now = search rules in
    let t : c.in-Some.tail.now ≡ drop 2 c.loop-digits.rest.now = search rules in
    let n : 2 ≤ length c.loop-digits.rest.now = search rules in
    c.loop-digits.invariant ∙ one_more _ _ _ _ _ d t n (sym c.in_ok-held.ensures)

pub returns-then-not-is_empty : goal.returns-then-not-is_empty
unfolding with_word
returns-then-not-is_empty c =
    let h : length c.loop-digits.rest.now ≡ 1 = search rules in
    sym (c.loop-digits.invariant ∙ one_digit _ _ h)

pub returns : goal.returns
unfolding with_word
returns c =
    let h : length c.loop-digits.rest.now ≡ 0 = search rules in
    sym (c.loop-digits.invariant ∙ none_left _ _ _ h)
