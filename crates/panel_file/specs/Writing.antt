-- A record written into a lent file, by its bytes, and what reading it back says. Definitions only.
use Rattle.std.specs.Prelude.{◌≡◌, ◌≤◌, T, ℕ, ◌+◌, Bool, ◌&&◌, List, ◌++◌, length, take, drop, nat_le, Option, Some, None, Float, if◌then◌else◌}
use Rattle.std.specs.List.{flat_map, AllByRecursion}
use Rattle.std.specs.Float.{binary32}
use Rattle.std.specs.Float.Ieee.{fits}
use Rattle.stream.specs.Stream.{put}
use Rattle.panel_file.specs.declared.Record.{Record}
use Rattle.panel_file.specs.Bytes.{u16_bytes, points_bytes}
use Rattle.panel_file.specs.Panel.{done, entry, limit, header, kind_number, payload_of, kind_of_record, points_of, record_at, records_of}

-- a record's bytes: the payload's length, the kind, the payload
unfoldable pub record_bytes : Record → List ℕ
record_bytes r =
    let kind = kind_of_record r in
    u16_bytes (payload_of kind) ++ u16_bytes (kind_number kind) ++ points_bytes (points_of r)

-- where a record that starts at an offset ends
abbrev pub end_of : ℕ → Record → ℕ
end_of at r = at + header + payload_of (kind_of_record r)

-- it has room where it ends within the file, and within the longest
abbrev pub has_place : List ℕ → ℕ → Record → Bool
has_place file at r = nat_le (end_of at r) (length file) && nat_le (end_of at r) limit

-- the offset behind a record that was written, none where it has no room; and the file, which keeps its other bytes
unfoldable pub next_of : List ℕ → ℕ → Record → Option ℕ
next_of file at r = if has_place file at r then Some (end_of at r) else None

unfoldable pub file_of : List ℕ → ℕ → Record → List ℕ
file_of file at r = if has_place file at r then put file at (record_bytes r) else file

-- ---- reading back

-- the floats of a record are those that a file holds
abbrev pub IsSingle : Float → Type 0
IsSingle x = T (fits binary32 x)

abbrev pub HasSingles : Record → Type 0
HasSingles r = AllByRecursion (λ p. IsSingle p.x × IsSingle p.y) (points_of r)

-- A record that was written is read where it was written, with the offset behind it, in a file that ends anywhere
-- from there on.
abbrev pub RecordReadsBack : Type 0
RecordReadsBack =
    (file : List ℕ) (at : ℕ) (r : Record) (next n : ℕ) → HasSingles r → next_of file at r ≡ Some next
    → next ≤ n → n ≤ length file → n ≤ limit
    → record_at (take n (file_of file at r)) at ≡ done (entry r next)

-- What lies in front of it and behind it stays.
abbrev pub OthersStay : Type 0
OthersStay =
    (file : List ℕ) (at : ℕ) (r : Record) (next : ℕ) → next_of file at r ≡ Some next
    → (take at (file_of file at r) ≡ take at file) × (drop next (file_of file at r) ≡ drop next file)

-- Records one behind the other are a good file, of these records.
abbrev pub FileReadsBack : Type 0
FileReadsBack =
    (rs : List Record) → AllByRecursion HasSingles rs → length (flat_map record_bytes rs) ≤ limit
    → records_of (flat_map record_bytes rs) ≡ done rs
