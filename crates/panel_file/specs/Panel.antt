-- What a panel file is: the list of its records, or the refusal 7 with the offset of the first record that is cut
-- short, of unknown kind or of a length that is not its kind's. Definitions only.
use Rattle.std.specs.Prelude.{ℕ, zero, suc, ◌+◌, ◌-◌, Bool, true, false, List, [], ◌∷◌, length, nat_le, nat_lt, Option, Some, None, Result, Ok, Err, if◌then◌else◌, ◌==◌, codes}
use Rattle.geometry.specs.declared.Point.{Point}
use Rattle.panel_file.specs.Bytes.{u16_at, point_at}
use Rattle.panel_file.specs.declared.Kind.{Kind}
use Rattle.panel_file.specs.declared.Kind.TheVariants.{Button as button, Touch as touch}
use Rattle.panel_file.specs.declared.UnknownKind.{UnknownKind}
use Rattle.panel_file.specs.declared.Button.{Button}
use Rattle.panel_file.specs.declared.Record.{Record}
use Rattle.panel_file.specs.declared.Record.TheVariants.{Button as ButtonRecord, Touch as TouchRecord}
use Rattle.panel_file.specs.declared.Counts.{Counts}
use Rattle.panel_file.specs.declared.Broken.{Broken}

-- what a call on a file answers: a value, or a refusal's number with an offset
pub data Answer (A : Type 0) : Type 0 where
  done : A → Answer A
  refused : ℕ → ℕ → Answer A

-- file cut short, over 65,536 bytes, unknown kind or wrong length
abbrev pub broken_number : ℕ
broken_number = 7

abbrev pub broken : {A : Type 0} → ℕ → Answer A
broken at = refused broken_number at

-- the longest file, and the bytes in front of a payload
abbrev pub limit : ℕ
limit = 65536

abbrev pub header : ℕ
header = 4

-- the kinds' numbers, and the kind of a number
unfoldable pub kind_number : Kind → ℕ
kind_number button = 1
kind_number touch = 2

unfoldable pub kind_of : ℕ → Result Kind UnknownKind
kind_of n =
    if n == kind_number button then Ok button
    else (if n == kind_number touch then Ok touch else Err (record { number = n }))

-- what is said of a number that is no kind's, before the number, and of a broken file, before the offset
abbrev pub no_kind_text : List ℕ
no_kind_text = codes "no record has the kind "

abbrev pub broken_text : List ℕ
broken_text = codes "the panel file is broken"

abbrev pub at_text : List ℕ
at_text = codes " at "

-- the length of a payload
unfoldable pub payload_of : Kind → ℕ
payload_of button = 48
payload_of touch = 8

-- the order of a button's fields: the button that has them, and they of a button
abbrev pub button_of : Point → Point → Point → Point → Point → Point → Button
button_of p q r s t u =
    record { min = p; max = q; top_left = r; top_right = s; bottom_left = t; bottom_right = u }

abbrev pub fields_of : Button → List Point
fields_of b = b.min ∷ b.max ∷ b.top_left ∷ b.top_right ∷ b.bottom_left ∷ b.bottom_right ∷ []

-- 8 bytes each
unfoldable pub button_at : List ℕ → ℕ → Button
button_at file at =
    button_of (point_at file at) (point_at file (at + 8)) (point_at file (at + 16))
    (point_at file (at + 24)) (point_at file (at + 32)) (point_at file (at + 40))

-- a header that shows a broken record
abbrev pub broken_head : ℕ → Result (Option Kind) Broken
broken_head at = Err (record { offset = at })

-- a record of a known kind is whole where its length is its kind's and that many bytes follow its header
unfoldable pub whole_of : Result Kind UnknownKind → ℕ → ℕ → ℕ → Result (Option Kind) Broken
whole_of (Ok kind) len left at =
    if len == payload_of kind
    then (if nat_le (header + payload_of kind) left then Ok (Some kind) else broken_head at)
    else broken_head at
whole_of (Err e) len left at = broken_head at

-- What stands at an offset: the kind of a whole record, or none at the end of the file. A file that is too long is
-- broken at 0, which is tested first.
unfoldable pub head_at : List ℕ → ℕ → Result (Option Kind) Broken
head_at file at =
    let n = length file in
    if nat_lt limit n then broken_head 0
    else (if nat_le n at then Ok None
    else (if nat_lt (n - at) header then broken_head at
    else whole_of (kind_of (u16_at file (at + 2))) (u16_at file at) (n - at) at))

-- what a payload that starts at an offset holds
unfoldable pub content_at : Kind → List ℕ → ℕ → Record
content_at button file at = ButtonRecord (button_at file at)
content_at touch file at = TouchRecord (point_at file at)

-- what a record is of, and its points in the order of the payload
unfoldable pub kind_of_record : Record → Kind
kind_of_record (ButtonRecord b) = button
kind_of_record (TouchRecord p) = touch

abbrev pub points_of : Record → List Point
points_of (ButtonRecord b) = fields_of b
points_of (TouchRecord p) = p ∷ []

-- a record with the offset past it, or the end of the file
pub data Entry : Type 0 where
  entry : Record → ℕ → Entry
  end : Entry

unfoldable pub entry_of : List ℕ → ℕ → Result (Option Kind) Broken → Answer Entry
entry_of file at (Ok (Some kind)) = done (entry (content_at kind file (at + header)) (at + header + payload_of kind))
entry_of file at (Ok None) = done end
entry_of file at (Err b) = broken b.offset

-- the record at an offset
unfoldable pub record_at : List ℕ → ℕ → Answer Entry
record_at file at = entry_of file at (head_at file at)

-- what `record_at` answers
unfoldable pub record_answer : Result (Option (Record × ℕ)) Broken → Answer Entry
record_answer (Ok (Some p)) = done (entry p.0 p.1)
record_answer (Ok None) = done end
record_answer (Err b) = broken b.offset

-- one function of a value; a refusal stays what it is
unfoldable pub on_done : {A B : Type 0} → (A → B) → Answer A → Answer B
on_done f (done a) = done (f a)
on_done f (refused n at) = refused n at

-- a record, then those from the offset past it on
unfoldable pub record_and_rest : (ℕ → Answer (List Record)) → Answer Entry → Answer (List Record)
record_and_rest rest (done (entry r next)) = on_done (λ rs. r ∷ rs) (rest next)
record_and_rest rest (done end) = done []
record_and_rest rest (refused n at) = refused n at

-- The records from an offset on, in at most n readings. A record takes at least one byte, so one reading more than
-- there are bytes left comes to the end.
unfoldable pub readings : ℕ → List ℕ → ℕ → Answer (List Record)
readings zero file at = done []
readings (suc n) file at = record_and_rest (readings n file) (record_at file at)

unfoldable pub records_from : List ℕ → ℕ → Answer (List Record)
records_from file at = readings (suc (length file - at)) file at

-- the records of a file, or the refusal 7 at its first broken record
unfoldable pub records_of : List ℕ → Answer (List Record)
records_of file = records_from file 0

-- whether there is a value, and the records of a file that has them
unfoldable pub is_done : {A : Type 0} → Answer A → Bool
is_done (done a) = true
is_done (refused n at) = false

unfoldable pub records_in : Answer (List Record) → List Record
records_in (done rs) = rs
records_in (refused n at) = []

-- the buttons and the touches among records, in file order
unfoldable pub buttons_of : List Record → List Button
buttons_of [] = []
buttons_of (ButtonRecord b ∷ rs) = b ∷ buttons_of rs
buttons_of (TouchRecord p ∷ rs) = buttons_of rs

unfoldable pub touches_of : List Record → List Point
touches_of [] = []
touches_of (ButtonRecord b ∷ rs) = touches_of rs
touches_of (TouchRecord p ∷ rs) = p ∷ touches_of rs

-- how many there are of each, and of each with one more
unfoldable pub counts_of : List Record → Counts
counts_of rs = record { buttons = length (buttons_of rs); touches = length (touches_of rs) }

unfoldable pub counts_with : Counts → Kind → Counts
counts_with c button = record { buttons = c.buttons + 1; touches = c.touches }
counts_with c touch = record { buttons = c.buttons; touches = c.touches + 1 }

-- what `check` answers
unfoldable pub check_answer : Result Counts Broken → Answer Counts
check_answer (Ok c) = done c
check_answer (Err b) = broken b.offset
