-- What the exported functions that read a path answer: the segment at a cursor, and the box. Record, cursor, segment
-- and box stand in lent numbers. Definitions only.
use Rattle.std.specs.Prelude.{◌&&◌, List, [], ◌∷◌, ℕ, length, get_or, Float, Option, Some, None, if◌then◌else◌, ◌==◌}
use Rattle.ffi_floats.specs.Boundary.{wrong_length, none}
use Rattle.stream.specs.Stream.{state, put, verb_of, floats_of}
use Rattle.reader.specs.declared.Cursor.{Cursor}
use Rattle.reader.specs.declared.Rect.{Rect}
use Rattle.reader.specs.Reading.{Reading, ok, refused, with_record, at_verb, Item, item, end, cursor, read_at}
use Rattle.reader.specs.Bounds.{bounds_of}
use Rattle.ffi_path.specs.Lent.{from_record}

-- ---- one segment

-- the number that is returned, and what is in the two slices that a reading may change
pub record ReadAnswer : Type 0 where
  pub number : ℕ
  pub cursor : List ℕ
  pub segment : List Float

abbrev pub read_answer : ℕ → List ℕ → List Float → ReadAnswer
read_answer n cs fs = record { number = n; cursor = cs; segment = fs }

-- the next verb index, the next point index, the kind
unfoldable pub cursor_numbers : Cursor → ℕ → List ℕ
cursor_numbers d kind = d.verb ∷ d.point ∷ kind ∷ []

-- the cursor in lent numbers: its first two
unfoldable pub cursor_at : List ℕ → Cursor
cursor_at cs = cursor (get_or cs 0 0) (get_or cs 1 0)

-- the kind of an element is its verb, that of the end 5
abbrev pub kind_of : Item → ℕ
kind_of (item k d) = verb_of k
kind_of (end d) = 5

-- an element's floats come first, the rest keeps what it had; a refusal leaves both slices
unfoldable pub read_by : Reading Item → List ℕ → List Float → ReadAnswer
read_by (ok (item k d)) cs fs = read_answer 0 (cursor_numbers d (kind_of (item k d))) (put fs 0 (floats_of k))
read_by (ok (end d)) cs fs = read_answer 0 (cursor_numbers d (kind_of (end d))) fs
read_by (refused (with_record n b)) cs fs = read_answer n cs fs
read_by (refused (at_verb n v)) cs fs = read_answer n cs fs

-- a record of 3 and 4 numbers, a cursor of 3, a segment of 6
unfoldable pub read_of : List ℕ → List Float → List ℕ → List Float → List ℕ → List Float → ReadAnswer
read_of counts places vs fs cs old =
    let wrong = read_answer wrong_length cs old in
    if length cs == 3 && length old == 6
    then from_record counts places (λ b. read_by (read_at (state b vs fs) (cursor_at cs)) cs old) wrong
    else wrong

-- ---- the box

pub record BoxAnswer : Type 0 where
  pub number : ℕ
  pub rect : List Float
  pub place : List ℕ

abbrev pub box_answer : ℕ → List Float → List ℕ → BoxAnswer
box_answer n rs ps = record { number = n; rect = rs; place = ps }

-- min x, min y, max x, max y
unfoldable pub rect_floats : Rect → List Float
rect_floats r = r.min.x ∷ r.min.y ∷ r.max.x ∷ r.max.y ∷ []

-- a box replaces the old one; a verb that is refused leaves its index
unfoldable pub box_by : Reading (Option Rect) → List Float → List ℕ → BoxAnswer
box_by (ok None) rs ps = box_answer none rs ps
box_by (ok (Some r)) rs ps = box_answer 0 (rect_floats r) ps
box_by (refused (with_record n b)) rs ps = box_answer n rs ps
box_by (refused (at_verb n v)) rs ps = box_answer n rs (v ∷ [])

-- a record of 3 and 4 numbers, a box of 4, a place of 1
unfoldable pub box_of : List ℕ → List Float → List ℕ → List Float → List Float → List ℕ → BoxAnswer
box_of counts places vs fs rs ps =
    let wrong = box_answer wrong_length rs ps in
    if length rs == 4 && length ps == 1
    then from_record counts places (λ b. box_by (bounds_of (state b vs fs)) rs ps) wrong
    else wrong
