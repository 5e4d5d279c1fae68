-- Every list of the seven building calls from an empty builder, with the same two buffers throughout: the stream
-- reads back as exactly the book of the list, with the counts, spans, joint words and refusals of the book.
-- Definitions only.
use Rattle.std.specs.Prelude.{◌≡◌, List, ◌∷◌, ◌++◌, true, ℕ, ◌≤◌, length, Float}
use Rattle.geometry.specs.declared.Point.{Point}
use Rattle.conic.specs.declared.Conic.{Conic}
use Rattle.conic.specs.Conic.{lower_of}
use Rattle.stream.specs.declared.Builder.{Builder}
use Rattle.stream.specs.Stream.{State, fresh_builder}
use Rattle.conic_writer.specs.Entries.{lowered_of, LineOrQuads}
use Rattle.calls.specs.Calls.{opening, conic_from}
use Rattle.shape.specs.declared.RoundSuperellipse.{RoundSuperellipse}
use Rattle.outline.specs.declared.BuildingCall.{BuildingCall}
use Rattle.outline.specs.declared.BuildingCall.TheVariants.{ConicTo, AddTo}
use Rattle.outline.specs.Step.{entries_of, answers_word, step}
use Rattle.book.specs.Book.{Book, empty_book, is_nil, accepts, entries_added, book_with}
use Rattle.book.specs.Lists.{EveryList, state_after, book_of}
use Rattle.outline_need.specs.Parts.{OutlineEntries}

-- the conic that a call draws where the book is k
abbrev pub conic_in : Book → Point → Point → Float → Conic
conic_in k ctrl to w = conic_from (is_nil k.entries) k.pen ctrl to w

-- an accepted conic on a builder s with the book k: past any opening move it adds one line or 1 to 64 quads, whose
-- spans are the halving's own, tile 0 to 64 and are marked by the answer's joint word (`LineOrQuads`); it leaves the
-- pen at its target
pub record ConicAdded (s : State) (k : Book) (ctrl to : Point) (w : Float) : Type 0 where
  pub entries : let c = conic_in k ctrl to w in
      entries_added entries_of k (ConicTo ctrl to w) ≡ opening (is_nil k.entries) ++ lowered_of (lower_of c)
  pub parts : let c = conic_in k ctrl to w in LineOrQuads c (lowered_of (lower_of c)) (step s (ConicTo ctrl to w)).word
  pub pen : (book_with k (entries_added entries_of k (ConicTo ctrl to w))).pen ≡ to

-- the book of a list, for buffers of so many bytes and floats
abbrev pub book_in : ℕ → ℕ → List BuildingCall → Book
book_in verb_room float_room cs = book_of entries_of answers_word verb_room float_room cs

pub record Faithful (b : Builder) (vs : List ℕ) (fs : List Float) (cs : List BuildingCall) : Type 0 where
  -- answers, refusals, stream and counts
  pub every : EveryList step entries_of answers_word b vs fs cs
  -- each accepted conic
  pub conics : (pre : List BuildingCall) (ctrl to : Point) (w : Float) (post : List BuildingCall)
      → cs ≡ pre ++ ConicTo ctrl to w ∷ post → let k = book_in (length vs) (length fs) pre in
      accepts (length vs) (length fs) k (entries_added entries_of k (ConicTo ctrl to w)) ≡ true
      → ConicAdded (state_after step b vs fs pre) k ctrl to w
  -- each outline, accepted or not: what it adds is a move, four corners, a line to the move's point and a close
  pub outlines : (pre : List BuildingCall) (shape : RoundSuperellipse) (post : List BuildingCall)
      → cs ≡ pre ++ AddTo shape ∷ post →
      let k = book_in (length vs) (length fs) pre in
      OutlineEntries shape (entries_added entries_of k (AddTo shape))

-- ---- what the public functions promise

-- of every record with both counts 0 and any two buffers
abbrev pub EveryListIsFaithful : Type 0
EveryListIsFaithful =
    (b : Builder) (vs : List ℕ) (fs : List Float) (cs : List BuildingCall)
    → b.verbs ≡ 0 → b.points ≡ 0 → Faithful b vs fs cs

-- of the fresh record
abbrev pub EveryFreshListIsFaithful : Type 0
EveryFreshListIsFaithful = (vs : List ℕ) (fs : List Float) (cs : List BuildingCall) → Faithful fresh_builder vs fs cs

-- whatever the conic, the empty book accepts it for buffers of at least 65 bytes and 258 floats
abbrev pub EveryConicFindsRoom : Type 0
EveryConicFindsRoom =
    (verb_room float_room : ℕ) (ctrl to : Point) (w : Float) → 65 ≤ verb_room → 258 ≤ float_room
    → accepts verb_room float_room empty_book (entries_added entries_of empty_book (ConicTo ctrl to w)) ≡ true

-- and whatever the shape its outline, for buffers of at least 1,035 bytes and 4,148 floats
abbrev pub EveryOutlineFindsRoom : Type 0
EveryOutlineFindsRoom =
    (verb_room float_room : ℕ) (shape : RoundSuperellipse) → 1035 ≤ verb_room → 4148 ≤ float_room
    → accepts verb_room float_room empty_book (entries_added entries_of empty_book (AddTo shape)) ≡ true
