-- What holds of every list of building calls from an empty builder, with the same two buffers throughout. Definitions
-- only.
use Rattle.std.specs.Prelude.{◌≡◌, List, [], ◌∷◌, ◌++◌, Bool, false, ℕ, ◌+◌, ◌*◌, length, Float, if◌then◌else◌, ◌==◌}
use Rattle.geometry.specs.declared.Point.{Point}
use Rattle.stream.specs.declared.Builder.{Builder}
use Rattle.stream.specs.declared.Element.{Element}
use Rattle.stream.specs.Stream.{State, state, verb_of}
use Rattle.reader.specs.Reading.{Reads, cursor, read_all, ok}
use Rattle.conic_writer.specs.Entries.{Entry, elements_of}
use Rattle.calls.specs.Calls.{Outcome}
use Rattle.book.specs.Machine.{run, answers}
use Rattle.book.specs.Book.{Book, empty_book, accepts, entries_added, builder_machine, book_machine}

-- how many elements of a list have the verb v
unfoldable pub count_verb : ℕ → List Element → ℕ
count_verb v [] = 0
count_verb v (k ∷ ks) = (if verb_of k == v then 1 else 0) + count_verb v ks

-- moves + lines + 2 × quads + 3 × cubics
abbrev pub count_points : List Element → ℕ
count_points ks = count_verb 0 ks + count_verb 1 ks + 2 * count_verb 2 ks + 3 * count_verb 3 ks

-- a state reads as these elements: one by one from (0, 0) and then the end, and all at once; the counts are theirs
pub record ReadsAs (s : State) (ks : List Element) : Type 0 where
  pub stream : Reads s (cursor 0 0) ks
  pub whole : read_all s ≡ ok ks
  pub verbs : s.builder.verbs ≡ length ks
  pub points : s.builder.points ≡ count_points ks

-- the record and the buffers after a list
abbrev pub state_after : {C : Type 0} → (State → C → Outcome) → Builder → List ℕ → List Float → List C → State
state_after step b vs fs cs = run (builder_machine step) (state b vs fs) cs

-- the book of a list, for buffers of so many bytes and floats
abbrev pub book_of : {C : Type 0} → (Bool → Point → C → List Entry) → (C → Bool) → ℕ → ℕ → List C → Book
book_of entries answers_word verb_room float_room cs =
    run (book_machine entries answers_word verb_room float_room) empty_book cs

-- ---- what holds of every list of calls that are given by their entries

module _
    {C : Type 0} (step : State → C → Outcome) (entries : Bool → Point → C → List Entry) (answers_word : C → Bool)
  where
    -- a call c on a builder s with the book k: refused exactly where the book has no room, with 5, and then nothing
    -- changes
    pub record EachCall (verb_room float_room : ℕ) (s : State) (k : Book) (c : C) : Type 0 where
      pub number : (step s c).number ≡ (if accepts verb_room float_room k (entries_added entries k c) then 0 else 5)
      pub unchanged : accepts verb_room float_room k (entries_added entries k c) ≡ false → (step s c).state ≡ s

    pub record EveryList (b : Builder) (vs : List ℕ) (fs : List Float) (cs : List C) : Type 0 where
      -- the answers are those of the book, call by call
      pub replies : answers (builder_machine step) (state b vs fs) cs
          ≡ answers (book_machine entries answers_word (length vs) (length fs)) empty_book cs
      pub each : (pre : List C) (c : C) (post : List C) → cs ≡ pre ++ c ∷ post
          → let k = book_of entries answers_word (length vs) (length fs) pre in
          EachCall (length vs) (length fs) (state_after step b vs fs pre) k c
      -- what is left reads as the book
      pub left : let k = book_of entries answers_word (length vs) (length fs) cs in
          ReadsAs (state_after step b vs fs cs) (elements_of k.entries)
