-- The book of a list of calls: what the list is to leave, from the calls and the lengths of the two buffers alone,
-- and nothing of a record or of an answer. A kind of calls is given by the entries that a call adds to a path that is
-- empty or not, and whose pen is known, and by which calls answer a joint word. Definitions only.
use Rattle.std.specs.Prelude.{List, [], ◌∷◌, ◌++◌, Bool, true, false, ◌&&◌, ℕ, ◌/◌, length, nat_le, if◌then◌else◌}
use Rattle.geometry.specs.declared.Point.{Point}
use Rattle.stream.specs.declared.Element.{Element}
use Rattle.stream.specs.Stream.{State, origin, sizes_of, start_after, pen_after}
use Rattle.conic_writer.specs.Entries.{Entry, elements_of, joint_word}
use Rattle.calls.specs.Calls.{Outcome}
use Rattle.book.specs.declared.Reply.{Reply}
use Rattle.book.specs.Machine.{Machine}

-- entries, with the contour's start and the pen, which mean nothing while there is no entry
pub record Book : Type 0 where
  pub entries : List Entry
  pub start : Point
  pub pen : Point

abbrev pub empty_book : Book
empty_book = record { entries = []; start = origin; pen = origin }

abbrev pub is_nil : List Entry → Bool
is_nil [] = true
is_nil (e ∷ es) = false

-- room in buffers of so many bytes and floats: a verb per place, a point per whole pair of floats
unfoldable pub fits_in : ℕ → ℕ → List Element → Bool
fits_in verb_room float_room ks = nat_le (length ks) verb_room && nat_le (sizes_of ks) (float_room / 2)

-- a book has room for entries behind its own
abbrev pub accepts : ℕ → ℕ → Book → List Entry → Bool
accepts verb_room float_room k es = fits_in verb_room float_room (elements_of (k.entries ++ es))

-- a book with entries behind its own
abbrev pub book_with : Book → List Entry → Book
book_with k es = record {
  entries = k.entries ++ es;
  start = start_after k.start (elements_of es);
  pen = pen_after k.start k.pen (elements_of es);
}

abbrev pub reply : ℕ → ℕ → Reply
reply n w = record { number = n; word = w }

-- the builder: the record and the buffers, by the step that the calls' contracts name
abbrev pub builder_machine : {C : Type 0} → (State → C → Outcome) → Machine State C Reply
builder_machine step = record {
  step = λ s c. (step s c).state;
  says = λ s c. reply (step s c).number (step s c).word;
}

-- what a call adds to a book
abbrev pub entries_added : {C : Type 0} → (Bool → Point → C → List Entry) → Book → C → List Entry
entries_added entries k c = entries (is_nil k.entries) k.pen c

-- the book: a call is accepted where there is room for all, and refused with 5 where there is not
abbrev pub book_machine : {C : Type 0} → (Bool → Point → C → List Entry) → (C → Bool) → ℕ → ℕ → Machine Book C Reply
book_machine entries answers_word verb_room float_room = record {
  step = λ k c. let es = entries_added entries k c in if accepts verb_room float_room k es then book_with k es else k;
  says = λ k c.
      let es = entries_added entries k c in
      if accepts verb_room float_room k es then reply 0 (if answers_word c then joint_word es else 0) else reply 5 0;
}
