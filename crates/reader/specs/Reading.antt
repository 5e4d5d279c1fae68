-- Reading a stream, one segment at a cursor or all of it. A refusal is here its number and what it returns with it.
-- Definitions only.
use Rattle.std.specs.Prelude.{◌≡◌, List, [], ◌∷◌, ◌||◌, ℕ, zero, suc, ◌+◌, ◌-◌, ◌*◌, get_or, nat_le, nat_lt, Float, Result, Ok, Err, ◌++◌, decimal, if◌then◌else◌, codes}
use Rattle.std.proofs.Math.Seq.{slice}
use Rattle.std.specs.Float.{nan}
use Rattle.geometry.specs.declared.Point.{Point}
use Rattle.stream.specs.declared.Builder.{Builder}
use Rattle.stream.specs.declared.Element.{Element}
use Rattle.stream.specs.declared.Element.TheVariants.{Move, Line, Quad, Cubic, Close}
use Rattle.reader.specs.declared.Segment.{Segment}
use Rattle.reader.specs.declared.Segment.TheVariants as segment
use Rattle.reader.specs.declared.Cursor.{Cursor}
use Rattle.reader.specs.declared.ReadError.{ReadError}
use Rattle.reader.specs.declared.ReadError.TheVariants.{BadRecord, Malformed}
use Rattle.stream.specs.Stream.{State, floats_of, point_count, bad_state, bad_record_number, bad_record_text}

-- ---- answers

-- what a refusal returns: its number, with the same record or with a verb's index
pub data Refusal : Type 0 where
  with_record : ℕ → Builder → Refusal
  at_verb : ℕ → ℕ → Refusal

-- what a reading answers
pub data Reading (A : Type 0) : Type 0 where
  ok : A → Reading A
  refused : Refusal → Reading A

-- what is read at a cursor: an element and the next cursor, or the end
pub data Item : Type 0 where
  item : Element → Cursor → Item
  end : Cursor → Item

abbrev pub segment_of : Element → Segment
segment_of (Move p) = segment.Move p
segment_of (Line p) = segment.Line p
segment_of (Quad p q) = segment.Quad p q
segment_of (Cubic p q r) = segment.Cubic p q r
segment_of Close = segment.Close

abbrev pub item_of : Segment → Cursor → Item
item_of (segment.Move p) c = item (Move p) c
item_of (segment.Line p) c = item (Line p) c
item_of (segment.Quad p q) c = item (Quad p q) c
item_of (segment.Cubic p q r) c = item (Cubic p q r) c
item_of segment.Close c = item Close c
item_of segment.End c = end c

-- refusal 6, and its text, round the verb's index
abbrev pub malformed_number : ℕ
malformed_number = 6

abbrev pub unread_before : List ℕ
unread_before = codes "verb "

abbrev pub unread_after : List ℕ
unread_after = codes " cannot be read"

-- a refusal of the code: its number, and what it returns with it
abbrev pub number_of : ReadError → ℕ
number_of (BadRecord b) = bad_record_number
number_of (Malformed i) = malformed_number

abbrev pub refusal_of : ReadError → Refusal
refusal_of (BadRecord b) = with_record (number_of (BadRecord b)) b
refusal_of (Malformed i) = at_verb (number_of (Malformed i)) i

-- its text
abbrev pub refusal_text : ReadError → List ℕ
refusal_text (BadRecord b) = bad_record_text
refusal_text (Malformed i) = unread_before ++ decimal i ++ unread_after

abbrev pub reading_of : Result (Segment × Cursor) ReadError → Reading Item
reading_of (Ok x) = ok (item_of x.0 x.1)
reading_of (Err e) = refused (refusal_of e)

-- ---- one segment

abbrev pub cursor : ℕ → ℕ → Cursor
cursor v p = record { verb = v; point = p }

abbrev pub point_at : List Float → ℕ → Point
point_at fs i = record { x = get_or fs (2 * i) nan; y = get_or fs (2 * i + 1) nan }

-- the element with a verb of at most 4, its points from index i on
unfoldable pub element_at : ℕ → List Float → ℕ → Element
element_at zero fs i = Move (point_at fs i)
element_at (suc zero) fs i = Line (point_at fs i)
element_at (suc (suc zero)) fs i = Quad (point_at fs i) (point_at fs (i + 1))
element_at (suc (suc (suc zero))) fs i = Cubic (point_at fs i) (point_at fs (i + 1)) (point_at fs (i + 2))
element_at (suc (suc (suc (suc n)))) fs i = Close

-- refusal 1, then the end, then refusal 6. The points left are those of the record's count, none where the cursor is
-- past it.
unfoldable pub read_at : State → Cursor → Reading Item
read_at s c =
    let v = get_or s.verbs c.verb 0 in
    let k = point_count v in
    if bad_state s then refused (with_record bad_record_number s.builder)
    else (if nat_le s.builder.verbs c.verb then ok (end c)
    else (if nat_lt 4 v || nat_lt (s.builder.points - c.point) k then refused (at_verb malformed_number c.verb)
    else ok (item (element_at v s.floats c.point) (cursor (c.verb + 1) (c.point + k)))))

-- the part of the lent floats between two cursors, for a segment that was read; none for an end or a refusal
abbrev pub part_of : List Float → Cursor → Reading Item → List Float
part_of fs c (ok (item k d)) = slice (2 * c.point) (2 * d.point) fs
part_of fs c (ok (end d)) = []
part_of fs c (refused r) = []

unfoldable pub part_at : State → Cursor → List Float
part_at s c = part_of s.floats c (read_at s c)

-- the floats of the segment that was read
abbrev pub floats_from : Reading Item → List Float
floats_from (ok (item k d)) = floats_of k
floats_from (ok (end d)) = []
floats_from (refused r) = []

unfoldable pub floats_at : State → Cursor → List Float
floats_at s c = floats_from (read_at s c)

-- ---- all segments

abbrev pub prepend : Element → Reading (List Element) → Reading (List Element)
prepend k (ok ks) = ok (k ∷ ks)
prepend k (refused r) = refused r

-- what follows an item
abbrev pub follow : Reading Item → (Element → Cursor → Reading (List Element)) → Reading (List Element)
follow (ok (item k d)) next = next k d
follow (ok (end d)) next = ok []
follow (refused r) next = refused r

-- n readings at most, from a cursor on
unfoldable pub readings : ℕ → State → Cursor → Reading (List Element)
readings zero s c = ok []
readings (suc n) s c = follow (read_at s c) (λ k d. prepend k (readings n s d))

-- the elements from a cursor on, or the first refusal: one reading for each verb that is left, and one for the end
abbrev pub read_from : State → Cursor → Reading (List Element)
read_from s c = readings (suc (s.builder.verbs - c.verb)) s c

abbrev pub read_all : State → Reading (List Element)
read_all s = read_from s (cursor 0 0)

-- a fold over all that is read
unfoldable pub fold : {X : Type 0} → (X → Element → X) → X → List Element → X
fold f x [] = x
fold f x (k ∷ ks) = fold f (f x k) ks

abbrev pub fold_read : {X : Type 0} → (X → Element → X) → X → Reading (List Element) → Reading X
fold_read f x (ok ks) = ok (fold f x ks)
fold_read f x (refused r) = refused r

-- from c on, s reads as the elements ks one by one, and then the end
pub data Reads (s : State) : Cursor → List Element → Type 0 where
  ends : {c : Cursor} → read_at s c ≡ ok (end c) → Reads s c []
  more : {c d : Cursor} {k : Element} {ks : List Element} → read_at s c ≡ ok (item k d) → Reads s d ks → Reads s c (k ∷ ks)
