-- Calls that are given by their entries: a builder that holds the elements of its book still does after each call, and is answered as the book is.
use mathlib.Core.Path.{◌≡◌, refl, sym, ap, ap₂, subst, ◌∙◌}
use mathlib.Core.List.{List, [], ◌∷◌, ◌++◌}
use mathlib.Core.Bool.{Bool, true, false, cond, ◌&&◌}
use Prim.Native.Nat.{ℕ, suc, ◌+◌, ◌/◌}
use native.Mathlib.Omega.{arith}
use lib.ListN.{length, length-append}
use lib.Dec.{leb, eqb}
use borrow.Author.Tests.{ne_eqb, leb-true}
use Rattle.geometry.specs.declared.Point.{Point}
use Rattle.stream.specs.declared.Element.{Element}
use Rattle.stream.specs.declared.Element.TheVariants.{Move, Line, Quad, Cubic, Close}
use Rattle.stream.specs.Stream.{State, is_empty, has_room, room_for, sizes_of, start_after, pen_after, push_all}
use Rattle.stream.proofs.Tests.{and_left, and_right}
use Rattle.stream.proofs.Pushed.{sizes_append, push_all-start, push_all-pen}
use Rattle.reader.proofs.Holding.{Holding, holding_all, holding_good}
use Rattle.conic_writer.specs.Entries.{Entry, elements_of, joint_word}
use Rattle.conic_writer.proofs.Entries.{elements_append}
use Rattle.calls.specs.Calls.{Outcome, outcome, attempt}
use Rattle.book.specs.Book.{Book, is_nil, fits_in, accepts, book_with, reply, builder_machine, entries_added, book_machine}
use Rattle.book.proofs.Simulated.{Simulates}
use Rattle.book.proofs.Given.{Opens, with_word_if, GivenByEntries}

-- behind a move, start and pen depend on nothing before it
record Anywhere (s p s' p' : Point) (ks : List Element) : Type 0 where
  start : start_after s ks ≡ start_after s' ks
  pen : pen_after s p ks ≡ pen_after s' p' ks

opens_anywhere : (s p s' p' : Point) (ks : List Element) → Opens ks → (length ks ≡ 0 → ⊥) → Anywhere s p s' p' ks
unfolding start_after pen_after
opens_anywhere s p s' p' [] h n = absurd (n refl)
opens_anywhere s p s' p' (Move q ∷ ks) h n = record { start = refl; pen = refl }
opens_anywhere s p s' p' (Line q ∷ ks) h n = absurd h
opens_anywhere s p s' p' (Quad q r ∷ ks) h n = absurd h
opens_anywhere s p s' p' (Cubic q r t ∷ ks) h n = absurd h
opens_anywhere s p s' p' (Close ∷ ks) h n = absurd h

-- ---- the relation

pub record Spot (s : State) (k : Book) : Type 0 where
  pub start : s.builder.start ≡ k.start
  pub pen : s.builder.pen ≡ k.pen

pub record Holds (verb_room float_room : ℕ) (s : State) (k : Book) : Type 0 where
  pub vlen : length s.verbs ≡ verb_room
  pub flen : length s.floats ≡ float_room
  pub holding : Holding s (elements_of k.entries)
  pub spot : is_nil k.entries ≡ false → Spot s k

nil_is : (es : List Entry) → eqb (length (elements_of es)) 0 ≡ is_nil es
unfolding elements_of
nil_is [] = refl
nil_is (e ∷ es) = ne_eqb (suc (length (elements_of es))) 0 (λ e. omega arith)

some : (es : List Entry) → is_nil es ≡ false → length (elements_of es) ≡ 0 → ⊥
unfolding elements_of
some [] n e = let z : ◌≡◌ {A = ℕ} 0 1 = cc in omega arith
some (d ∷ es) n e = omega arith

empty_is : {verb_room float_room : ℕ} {s : State} {k : Book} → Holds verb_room float_room s k → is_empty s.builder ≡ is_nil k.entries
empty_is {s = s} {k = k} h = ap (λ (n : ℕ). eqb n 0) h.holding.many ∙ nil_is k.entries

-- ---- room, in the builder's words and in the book's

fits-is : {verb_room float_room : ℕ} {s : State} {k : Book} (es : List Entry) → Holds verb_room float_room s k → room_for s (elements_of es) ≡ accepts verb_room float_room k es
unfolding has_room fits_in
fits-is {verb_room} {float_room} {s} {k} es h =
    let os = elements_of k.entries in
    let ks = elements_of es in
    let e = elements_append k.entries es in
    let v : s.builder.verbs + length ks ≡ length (elements_of (k.entries ++ es)) = ap (λ (n : ℕ). n + length ks) h.holding.many ∙ sym (ap length e ∙ length-append os ks) in
    let p : s.builder.points + sizes_of ks ≡ sizes_of (elements_of (k.entries ++ es)) = ap (λ (n : ℕ). n + sizes_of ks) h.holding.size ∙ sym (ap sizes_of e ∙ sizes_append os ks) in
    ap₂ (λ (x y : Bool). x && y) (ap₂ leb v h.vlen) (ap₂ (λ (x y : ℕ). leb x (y / 2)) p h.flen)

attempt-is : {verb_room float_room : ℕ} {s : State} {k : Book} (es : List Entry) → Holds verb_room float_room s k → attempt s es ≡ cond (accepts verb_room float_room k es) (outcome 0 (joint_word es) (push_all s (elements_of es))) (outcome 5 0 s)
unfolding attempt
attempt-is es h = rw (holding_good h.holding, fits-is es h)

-- ---- a call

-- what a call that adds es and answers a word, or none, leaves and answers: done, or refused for want of room
abbrev outcome_if : State → List Entry → Bool → Bool → Outcome
outcome_if s es w t = cond t (outcome 0 (cond w (joint_word es) 0) (push_all s (elements_of es))) (outcome 5 0 s)

outcome_if-word : (s : State) (es : List Entry) (w t : Bool) → with_word_if w (cond t (outcome 0 (joint_word es) (push_all s (elements_of es))) (outcome 5 0 s)) ≡ outcome_if s es w t
outcome_if-word s es true true = refl
outcome_if-word s es true false = refl
outcome_if-word s es false true = refl
outcome_if-word s es false false = refl

module _ {C : Type 0} {step : State → C → Outcome} {entries : Bool → Point → C → List Entry} {answers_word : C → Bool} (given : GivenByEntries step entries answers_word) (verb_room float_room : ℕ) where
  same_go : (s : State) (k : Book) (c : C) (es : List Entry) → (is_nil es ≡ false → Spot s k) → entries (is_nil es) s.builder.pen c ≡ entries (is_nil es) k.pen c
  same_go s k c [] f = given.no_pen c s.builder.pen k.pen
  same_go s k c (e ∷ es) f = ap (λ (p : Point). entries false p c) (f refl).pen

  -- what the builder adds is what the book adds
  same_entries : (s : State) (k : Book) (c : C) → Holds verb_room float_room s k → entries (is_empty s.builder) s.builder.pen c ≡ entries_added entries k c
  same_entries s k c h = ap (λ (b : Bool). entries b s.builder.pen c) (empty_is h) ∙ same_go s k c k.entries h.spot

  call-is : (s : State) (k : Book) (c : C) → Holds verb_room float_room s k → let es = entries_added entries k c in step s c ≡ outcome_if s es (answers_word c) (accepts verb_room float_room k es)
  call-is s k c h =
      let es = entries_added entries k c in
      given.given s c
      ∙ ap (λ (ds : List Entry). with_word_if (answers_word c) (attempt s ds)) (same_entries s k c h)
      ∙ ap (with_word_if (answers_word c)) (attempt-is es h)
      ∙ outcome_if-word s es (answers_word c) (accepts verb_room float_room k es)

  spot_go : (s : State) (k : Book) (c : C) (es : List Entry) → (is_nil es ≡ false → Spot s k) → is_nil (es ++ entries (is_nil es) k.pen c) ≡ false → Spot (push_all s (elements_of (entries (is_nil es) k.pen c))) (book_with k (entries (is_nil es) k.pen c))
  spot_go s k c [] f n =
      let ks = elements_of (entries true k.pen c) in
      let g = opens_anywhere s.builder.start s.builder.pen k.start k.pen ks (given.opens c k.pen) (some (entries true k.pen c) n) in
      record { start = push_all-start s ks ∙ g.start; pen = push_all-pen s ks ∙ g.pen }
  spot_go s k c (x ∷ es) f n =
      let ks = elements_of (entries false k.pen c) in
      let g = f refl in
      record { start = push_all-start s ks ∙ ap (λ (p : Point). start_after p ks) g.start; pen = push_all-pen s ks ∙ ap₂ (λ (p q : Point). pen_after p q ks) g.start g.pen }

  kept_go : (s : State) (k : Book) (c : C) (t : Bool) → Holds verb_room float_room s k → accepts verb_room float_room k (entries_added entries k c) ≡ t
      → Holds verb_room float_room (outcome_if s (entries_added entries k c) (answers_word c) t).state (cond t (book_with k (entries_added entries k c)) k)
  unfolding fits_in
  kept_go s k c true h e =
      let es = entries_added entries k c in
      let os = elements_of k.entries in
      let ks = elements_of es in
      let q = elements_append k.entries es in
      let lv = ap length q ∙ length-append os ks in
      let lf = ap sizes_of q ∙ sizes_append os ks in
      let v = leb-true (length (elements_of (k.entries ++ es))) verb_room (and_left _ _ e) in
      let p = leb-true (sizes_of (elements_of (k.entries ++ es))) (float_room / 2) (and_right (leb (length (elements_of (k.entries ++ es))) verb_room) _ e) in
      let g = holding_all ks h.holding (omega (arith, h.vlen)) (omega (arith, h.flen)) in
      record {
        vlen = g.lengths.verbs ∙ h.vlen;
        flen = g.lengths.floats ∙ h.flen;
        holding = subst (λ (l : List Element). Holding (push_all s ks) l) (sym q) g.holding;
        spot = spot_go s k c k.entries h.spot;
      }
  kept_go s k c false h e = h

  says_go : (s : State) (es : List Entry) (w t : Bool) → let o = outcome_if s es w t in reply o.number o.word ≡ cond t (reply 0 (cond w (joint_word es) 0)) (reply 5 0)
  says_go s es w true = refl
  says_go s es w false = refl

  pub given_simulates : Simulates (builder_machine step) (book_machine entries answers_word verb_room float_room) (Holds verb_room float_room)
  given_simulates = record {
    keeps = λ s k c h. subst (λ (o : Outcome). Holds verb_room float_room o.state ((book_machine entries answers_word verb_room float_room).step k c)) (sym (call-is s k c h)) (kept_go s k c _ h refl);
    agrees = λ s k c h. ap (λ (o : Outcome). reply o.number o.word) (call-is s k c h) ∙ says_go s (entries_added entries k c) (answers_word c) (accepts verb_room float_room k (entries_added entries k c));
  }

  -- where the book has no room nothing changes
  pub refused_same : (s : State) (k : Book) (c : C) → Holds verb_room float_room s k → accepts verb_room float_room k (entries_added entries k c) ≡ false → (step s c).state ≡ s
  refused_same s k c h e = ap (λ (o : Outcome). o.state) (call-is s k c h ∙ ap (outcome_if s (entries_added entries k c) (answers_word c)) e)

  -- the joint word of an accepted call
  pub accepted_word : (s : State) (k : Book) (c : C) → Holds verb_room float_room s k → accepts verb_room float_room k (entries_added entries k c) ≡ true → (step s c).word ≡ cond (answers_word c) (joint_word (entries_added entries k c)) 0
  accepted_word s k c h e = ap (λ (o : Outcome). o.word) (call-is s k c h ∙ ap (outcome_if s (entries_added entries k c) (answers_word c)) e)
