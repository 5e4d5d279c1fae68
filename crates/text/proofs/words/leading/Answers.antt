-- `text::words::leading` meets its contract. Assumes nothing.
use Rattle.std.proofs.Common.{◌≡◌, length, ap, ◌∙◌, subst, sym, ◌≤◌, ℕ}
use Rattle.std.proofs.lemmas.List.Sums.{prefix_len-le-length}
use Rattle.std.specs.Option.{unwrap_or}
use Rattle.text.specs.Words.{belongs_to, leading_of}
use Rattle.text.proofs.Scanning.{leading_is}
use Rattle.text.proofs.words.leading.Goals as goal

pub returns : goal.returns
returns c =
    let s = c.args.s.now in
    let p = belongs_to c.args.class in
    let e : c.unwrap_or.result ≡ leading_of p s = c.unwrap_or.ensures ∙ ap (λ o. unwrap_or o (length s)) c.end_of.ensures ∙ leading_is p s in
    let Within : ℕ → Type 0 = λ n. n ≤ length s in
    record { value = e; upper_bound = subst Within (sym e) (prefix_len-le-length p s) }
