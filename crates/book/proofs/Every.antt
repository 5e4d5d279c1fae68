-- What holds of every list of calls that are given by their entries.
use mathlib.Core.Path.{◌≡◌, refl, ap, ◌∙◌}
use mathlib.Core.List.{List, [], ◌∷◌}
use mathlib.Core.Bool.{Bool, true, false, cond}
use Prim.Native.Nat.{ℕ}
use native.Mathlib.Omega.{arith}
use lib.ListN.{length}
use lib.Ieee.{Float}
use Rattle.geometry.specs.declared.Point.{Point}
use Rattle.stream.specs.declared.Builder.{Builder}
use Rattle.stream.specs.declared.Element.{Element}
use Rattle.stream.specs.declared.Element.TheVariants.{Move, Line, Quad, Cubic, Close}
use Rattle.stream.specs.Stream.{State, state, sizes_of}
use Rattle.reader.proofs.Holding.{holding_none, reads_back, reads_all}
use Rattle.conic_writer.specs.Entries.{Entry, elements_of, joint_word}
use Rattle.calls.specs.Calls.{Outcome}
use Rattle.book.specs.declared.Reply.{Reply}
use Rattle.book.specs.Book.{Book, empty_book, reply, accepts, entries_added}
use Rattle.book.specs.Lists.{count_verb, count_points, EachCall, EveryList, state_after, book_of}
use Rattle.book.proofs.Given.{GivenByEntries}
use Rattle.book.proofs.Simulated.{run-keeps, run-agrees}
use Rattle.book.proofs.Kept.{Holds, given_simulates, refused_same}

-- ---- counting points by verbs

sizes_count : (ks : List Element) → sizes_of ks ≡ count_points ks
unfolding sizes_of count_verb
sizes_count [] = refl
sizes_count (Move p ∷ ks) = omega (arith, sizes_count ks)
sizes_count (Line p ∷ ks) = omega (arith, sizes_count ks)
sizes_count (Quad p q ∷ ks) = omega (arith, sizes_count ks)
sizes_count (Cubic p q r ∷ ks) = omega (arith, sizes_count ks)
sizes_count (Close ∷ ks) = omega (arith, sizes_count ks)

-- ---- every list

pub holds_none : (b : Builder) (vs : List ℕ) (fs : List Float) → b.verbs ≡ 0 → b.points ≡ 0 → Holds (length vs) (length fs) (state b vs fs) empty_book
unfolding elements_of
holds_none b vs fs v p = record { vlen = refl; flen = refl; holding = holding_none (state b vs fs) v p; spot = λ n. let z : ◌≡◌ {A = ℕ} 0 1 = cc in absurd (omega arith) }

number_is : (t : Bool) (w : ℕ) → (cond t (reply 0 w) (reply 5 0)).number ≡ cond t 0 5
number_is true w = refl
number_is false w = refl

module _ {C : Type 0} {step : State → C → Outcome} {entries : Bool → Point → C → List Entry} {answers_word : C → Bool} (given : GivenByEntries step entries answers_word) where
  pub each-call : (verb_room float_room : ℕ) (s : State) (k : Book) (c : C) → Holds verb_room float_room s k → EachCall step entries answers_word verb_room float_room s k c
  each-call verb_room float_room s k c h =
      let es = entries_added entries k c in
      record {
        number = ap (λ (r : Reply). r.number) ((given_simulates given verb_room float_room).agrees s k c h) ∙ number_is (accepts verb_room float_room k es) (cond (answers_word c) (joint_word es) 0);
        unchanged = refused_same given verb_room float_room s k c h;
      }

  -- the builder holds the book's elements after every list
  pub holds_after : (b : Builder) (vs : List ℕ) (fs : List Float) (cs : List C) → b.verbs ≡ 0 → b.points ≡ 0 → Holds (length vs) (length fs) (state_after step b vs fs cs) (book_of entries answers_word (length vs) (length fs) cs)
  holds_after b vs fs cs v p = run-keeps (given_simulates given (length vs) (length fs)) (state b vs fs) empty_book cs (holds_none b vs fs v p)

  pub every_list : (b : Builder) (vs : List ℕ) (fs : List Float) (cs : List C) → b.verbs ≡ 0 → b.points ≡ 0 → EveryList step entries answers_word b vs fs cs
  every_list b vs fs cs v p =
      let verb_room = length vs in
      let float_room = length fs in
      let f = holds_after b vs fs cs v p in
      record {
        replies = run-agrees (given_simulates given verb_room float_room) (state b vs fs) empty_book cs (holds_none b vs fs v p);
        each = λ pre c post q. each-call verb_room float_room (state_after step b vs fs pre) (book_of entries answers_word verb_room float_room pre) c (holds_after b vs fs pre v p);
        left = record { stream = reads_back f.holding; whole = reads_all (reads_back f.holding); verbs = f.holding.many; points = f.holding.size ∙ sizes_count _ };
      }
