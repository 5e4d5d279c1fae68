use mathlib.Core.Path.{◌≡◌, sym, ap, ◌∙◌}
use mathlib.Core.List.{List, [], ◌∷◌}
use Prim.Native.Nat.{ℕ}
use Rattle.geometry.specs.declared.Point.{Point}
use Rattle.stream.specs.Stream.{State, state}
use Rattle.calls.specs.declared.Call.{Call}
use Rattle.calls.specs.declared.Call.TheVariants.{MoveTo, LineTo, Close}
use Rattle.calls.specs.Calls.{Outcome, outcome, step}
use Rattle.book.specs.Machine.{run, answers}
use Rattle.book.specs.Book.{reply, builder_machine}
use Rattle.builder_in_place.specs.Triangle.{Trace, sides, trace_of}
use Rattle.builder_in_place.proofs.triangle.Goals as goal

-- a call that answered k, ahead of what follows it
abbrev answers_first : ℕ → Trace → Trace
answers_first k t = record { replies = reply k 0 ∷ t.replies; state = t.state }

first_call : (s t : State) (k : ℕ) (c : Call) (cs : List Call) → outcome k 0 t ≡ step s c → trace_of s (c ∷ cs) ≡ answers_first k (trace_of t cs)
unfolding trace_of run answers
first_call s t k c cs e = ap (λ (o : Outcome). record { replies = reply o.number o.word ∷ answers (builder_machine step) o.state cs; state = run (builder_machine step) o.state cs }) (sym e)

followed : (s₀ s₁ s₂ s₃ s₄ : State) (p q r : Point) (k₁ k₂ k₃ k₄ : ℕ) → outcome k₁ 0 s₁ ≡ step s₀ (MoveTo p) → outcome k₂ 0 s₂ ≡ step s₁ (LineTo q) → outcome k₃ 0 s₃ ≡ step s₂ (LineTo r) → outcome k₄ 0 s₄ ≡ step s₃ Close
    → record { replies = reply k₁ 0 ∷ reply k₂ 0 ∷ reply k₃ 0 ∷ reply k₄ 0 ∷ []; state = s₄ } ≡ trace_of s₀ (sides p q r)
unfolding trace_of run answers
followed s₀ s₁ s₂ s₃ s₄ p q r k₁ k₂ k₃ k₄ e₁ e₂ e₃ e₄ =
    sym
    (first_call s₀ s₁ k₁ (MoveTo p) (LineTo q ∷ LineTo r ∷ Close ∷ []) e₁
    ∙ ap (answers_first k₁) (first_call s₁ s₂ k₂ (LineTo q) (LineTo r ∷ Close ∷ []) e₂
    ∙ ap (answers_first k₂) (first_call s₂ s₃ k₃ (LineTo r) (Close ∷ []) e₃ ∙ ap (answers_first k₃) (first_call s₃ s₄ k₄ Close [] e₄))))

pub returns : goal.returns
returns c =
    let a = c.args in
    let m = c.move_to-moved in
    let i = c.line_to-second in
    let j = c.line_to-third in
    let e = c.close-closed in
    followed (state a.b a.verbs.now a.points.now) (state m.new.b m.new.verbs m.new.points) (state i.new.b i.new.verbs i.new.points) (state j.new.b j.new.verbs j.new.points) (state e.new.b e.new.verbs e.new.points)
    a.p a.q a.r _ _ _ _ m.ensures.outcome i.ensures.outcome j.ensures.outcome e.ensures.outcome
