-- What the exported functions answer, case by case.
use mathlib.Core.Path.{◌≡◌, refl, sym, ap, ◌∙◌}
use mathlib.Core.List.{List, [], ◌∷◌}
use Prim.Native.Nat.{ℕ, ◌≤◌}
use native.Mathlib.Omega.{arith}
use lib.ListN.{length, set}
use lib.Ieee.{Float}
use Rattle.std.proofs.Common.{Option, Some, None, Result, Ok}
use Rattle.stream.specs.declared.Element.TheVariants.{Move, Line, Quad, Cubic, Close}
use Rattle.stream.specs.Stream.{State, put}
use Rattle.stream.proofs.Put.{put_nil}
use Rattle.reader.specs.declared.Segment.{Segment}
use Rattle.reader.specs.declared.Cursor.{Cursor}
use Rattle.reader.specs.declared.Rect.{Rect}
use Rattle.reader.specs.declared.ReadError.{ReadError}
use Rattle.reader.specs.declared.ReadError.TheVariants.{BadRecord, Malformed}
use Rattle.reader.specs.Reading.{Reading, ok, refused, Item, item, end, item_of, number_of, refusal_of, reading_of, floats_from, floats_at, read_at}
use Rattle.reader.specs.Bounds.{bounds_reading}
use Rattle.reader.proofs.Folds.{next_of}
use Rattle.reader.proofs.Parts.{next_is}
use Rattle.ffi_path.proofs.Lending.{filled}
use Rattle.ffi_reader.specs.Segments.{kind_of, read_answer, cursor_numbers, read_by, BoxAnswer, box_answer, rect_floats, box_by}

-- ---- an answer taken apart

-- at most three points
pub few-floats : (a : Reading Item) → length (floats_from a) ≤ 6
few-floats (ok (item (Move p) d)) = omega arith
few-floats (ok (item (Line p) d)) = omega arith
few-floats (ok (item (Quad p q) d)) = omega arith
few-floats (ok (item (Cubic p q r) d)) = omega arith
few-floats (ok (item Close d)) = omega arith
few-floats (ok (end d)) = omega arith
few-floats (refused r) = omega arith

stored : (i : Item) (cs : List ℕ) (l : List Float) → read_answer 0 (cursor_numbers (next_of i) (kind_of i)) (put l 0 (floats_from (ok i))) ≡ read_by (ok i) cs l
unfolding read_by
stored (item k d) cs l = refl
stored (end d) cs l = ap (read_answer 0 (cursor_numbers d 5)) (put_nil l 0)

pub item-read : (a : Result (Segment × Cursor) ReadError) (s : Segment) (d : Cursor) (n : ℕ) (cs cs' : List ℕ) (l : List Float) → a ≡ Ok (s, d) → n ≡ kind_of (item_of s d) → cs' ≡ cursor_numbers d n
    → read_answer 0 cs' (put l 0 (floats_from (reading_of a))) ≡ read_by (reading_of a) cs l
item-read a s d n cs cs' l e k q =
    ap (λ (x : List ℕ). read_answer 0 x (put l 0 (floats_from (reading_of a)))) (q ∙ ap (cursor_numbers d) k ∙ ap (λ (x : Cursor). cursor_numbers x (kind_of (item_of s d))) (sym (next_is s d)))
    ∙ ap (λ (y : Result (Segment × Cursor) ReadError). read_answer 0 (cursor_numbers (next_of (item_of s d)) (kind_of (item_of s d))) (put l 0 (floats_from (reading_of y)))) e
    ∙ stored (item_of s d) cs l
    ∙ ap (λ (y : Result (Segment × Cursor) ReadError). read_by (reading_of y) cs l) (sym e)

pub unread_as : (e : ReadError) (n : ℕ) (cs : List ℕ) (l : List Float) → n ≡ number_of e → read_answer n cs (put l 0 []) ≡ read_by (refused (refusal_of e)) cs l
unfolding read_by
unread_as (BadRecord b) n cs l h = rw (h, put_nil l 0)
unread_as (Malformed i) n cs l h = rw (h, put_nil l 0)

pub found : (a : Result (Option Rect) ReadError) (x : Option Rect) (rs : List Float) (ps : List ℕ) (b : BoxAnswer) → a ≡ Ok x → b ≡ box_by (ok x) rs ps → b ≡ box_by (bounds_reading a) rs ps
found a x rs ps b e h = h ∙ ap (λ (y : Result (Option Rect) ReadError). box_by (bounds_reading y) rs ps) (sym e)

pub in_box : (r : Rect) (rs l : List Float) (ps : List ℕ) → l ≡ rect_floats r → box_answer 0 l ps ≡ box_by (ok (Some r)) rs ps
unfolding box_by
in_box r rs l ps h = rw h

pub no_box : (rs : List Float) (ps : List ℕ) → box_answer 101 rs ps ≡ box_by (ok None) rs ps
unfolding box_by
no_box rs ps = refl

pub malformed : (e : ReadError) (n i : ℕ) (rs : List Float) (ps : List ℕ) → length ps ≡ 1 → e ≡ Malformed i → n ≡ number_of e → box_answer n rs (set ps 0 i) ≡ box_by (refused (refusal_of e)) rs ps
unfolding box_by
malformed e n i rs ps h q k =
    ap (λ (x : ℕ). box_answer x rs (set ps 0 i)) (k ∙ ap number_of q) ∙ ap (λ (x : List ℕ). box_answer 6 rs x) (filled ps (i ∷ []) h) ∙ ap (λ (y : ReadError). box_by (refused (refusal_of y)) rs ps) (sym q)

pub unsuited : (e : ReadError) (n : ℕ) (rs : List Float) (ps : List ℕ) → ((i : ℕ) → e ≡ Malformed i → ⊥) → n ≡ number_of e → box_answer n rs ps ≡ box_by (refused (refusal_of e)) rs ps
unfolding box_by
unsuited (BadRecord b) n rs ps h k = rw k
unsuited (Malformed i) n rs ps h k = absurd (h i refl)

-- ---- what was stored

-- the part that was copied, and the rest as the number and the cursor say it
pub stored_reading : (s : State) (at c : Cursor) (a : Reading Item) (n : ℕ) (cs ds : List ℕ) (l m part : List Float) → c ≡ at → part ≡ floats_at s at → m ≡ put l 0 part → a ≡ read_at s at
    → ((x : List Float) → read_answer n ds (put x 0 (floats_from a)) ≡ read_by a cs x) → read_answer n ds m ≡ read_by (read_at s c) cs l
unfolding floats_at
stored_reading s at c a n cs ds l m part ec ep em ea h =
    ap (λ (x : List Float). read_answer n ds x) (em ∙ ap (put l 0) (ep ∙ ap floats_from (sym ea))) ∙ h l ∙ ap (λ (x : Reading Item). read_by x cs l) (ea ∙ ap (read_at s) (sym ec))
