-- What the exported functions on panel files answer and leave in what is lent. Definitions only.
use Rattle.std.specs.Prelude.{◌≡◌, ◌≤◌, ◌&&◌, List, [], ◌∷◌, ℕ, length, get_or, set, take, Float, Option, Some, None, Result, Ok, Err, if◌then◌else◌, ◌==◌}
use Rattle.std.specs.Float.{nan}
use Rattle.ffi_floats.specs.Boundary.{wrong_length, none}
use Rattle.geometry.specs.declared.Point.{Point}
use Rattle.stream.specs.Stream.{put, floats_in, point_in}
use Rattle.calls.specs.Calls.{no_room_number}
use Rattle.panel_file.specs.declared.Kind.{Kind}
use Rattle.panel_file.specs.declared.Kind.TheVariants as kind
use Rattle.panel_file.specs.declared.UnknownKind.{UnknownKind}
use Rattle.panel_file.specs.declared.Record.{Record}
use Rattle.panel_file.specs.declared.Record.TheVariants.{Button as ButtonRecord, Touch as TouchRecord}
use Rattle.panel_file.specs.Panel.{Answer, done, refused, Entry, entry, end, limit, broken_number, kind_number, kind_of, kind_of_record, button_of, points_of, record_at}
use Rattle.panel_file.specs.Writing.{next_of, file_of, IsSingle}
use Rattle.touch.specs.Touch.{Place, button, nowhere, touch_of, ResultsLeft, results_left, touch_all_of}

-- the number that is returned, and what is in the lent place
pub data PlaceLeft : Type 0 where
  place_left : ℕ → List ℕ → PlaceLeft

-- the same, and what is in the other slice that is lent
pub data SlicesLeft (A : Type 0) : Type 0 where
  slices_left : ℕ → List ℕ → List A → SlicesLeft A

-- ---- one record

-- the record's points in front, two floats for each; floats past them keep what they had
unfoldable pub record_floats : Record → List Float → List Float
record_floats r fs = put fs 0 (floats_in (points_of r))

-- A record leaves the offset of the next one, its kind and its points; the end of the file leaves the offset, and 0 for
-- the kind; a broken file leaves the offset of its first broken record.
unfoldable pub record_left : Answer Entry → List ℕ → List Float → SlicesLeft Float
record_left (done (entry r next)) place fs =
    slices_left 0 (next ∷ kind_number (kind_of_record r) ∷ []) (record_floats r fs)
record_left (done end) place fs = slices_left 0 (set place 1 0) fs
record_left (refused n at) place fs = slices_left n (set place 0 at) fs

-- the record at the offset that stands in the place
unfoldable pub record_of : List ℕ → List ℕ → List Float → SlicesLeft Float
record_of file place fs =
    if length place == 2 && length fs == 12
    then record_left (record_at file (get_or place 0 0)) place fs
    else slices_left wrong_length place fs

-- ---- one record written

-- the record that the floats in front are
unfoldable pub record_in : Kind → List Float → Record
record_in kind.Button fs =
    let field = point_in fs in
    ButtonRecord (button_of (field 0) (field 2) (field 4) (field 6) (field 8) (field 10))
record_in kind.Touch fs = TouchRecord (point_in fs 0)

-- the offset behind the record, where it had room, goes to the place
unfoldable pub put_left : Option ℕ → List ℕ → List ℕ → SlicesLeft ℕ
put_left (Some next) place file = slices_left 0 (set place 0 next) file
put_left None place file = slices_left no_room_number place file

-- a number that is no kind's is refused as in a file
unfoldable pub put_kind : Result Kind UnknownKind → List ℕ → List ℕ → List Float → SlicesLeft ℕ
put_kind (Ok kind) file place fs =
    let at = get_or place 0 0 in
    let r = record_in kind fs in
    put_left (next_of file at r) place (file_of file at r)
put_kind (Err e) file place fs = slices_left broken_number place file

-- the record of the kind whose number stands in the place, at the offset that stands there
unfoldable pub put_of : List ℕ → List ℕ → List Float → SlicesLeft ℕ
put_of file place fs =
    if length place == 2 && length fs == 12
    then put_kind (kind_of (get_or place 1 0)) file place fs
    else slices_left wrong_length place file

-- What was written, where the function returned 0, is read from there, in a file that ends anywhere behind the record:
-- it leaves the same place, and the record's floats in front of what is lent for them (gs).
abbrev pub WrittenIsRead : Type 0
WrittenIsRead =
    (file place left after : List ℕ) (fs gs : List Float) (k : Kind) (n : ℕ)
    → kind_of (get_or place 1 0) ≡ Ok k → put_of file place fs ≡ slices_left 0 left after
    → ((i : ℕ) → IsSingle (get_or fs i nan)) → length gs ≡ 12
    → get_or left 0 0 ≤ n → n ≤ length file → n ≤ limit
    → record_of (take n after) place gs ≡ slices_left 0 left (record_floats (record_in k fs) gs)

-- ---- touches

-- a button's index or the offset of the first broken record goes to the place; a touch that goes nowhere leaves it
unfoldable pub touch_left : Answer Place → List ℕ → PlaceLeft
touch_left (done (button i)) place = place_left 0 (i ∷ [])
touch_left (done nowhere) place = place_left none place
touch_left (refused n at) place = place_left n (at ∷ [])

unfoldable pub place_of_touch : List ℕ → Point → List ℕ → PlaceLeft
place_of_touch file p place =
    if length place == 1 then touch_left (touch_of file p) place else place_left wrong_length place

-- how many touches there are, or the offset of the first broken record, goes to the place
unfoldable pub count_left : ResultsLeft → SlicesLeft ℕ
count_left (results_left (done n) results) = slices_left 0 (n ∷ []) results
count_left (results_left (refused n at) results) = slices_left n (at ∷ []) results

unfoldable pub places_of_touches : List ℕ → List ℕ → List ℕ → SlicesLeft ℕ
places_of_touches file results place =
    if length results == 5461 && length place == 1
    then count_left (touch_all_of file results)
    else slices_left wrong_length place results
