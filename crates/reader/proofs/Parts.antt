-- The part of the lent floats that a segment consumes holds the segment's floats.
use mathlib.Core.Path.{◌≡◌, refl, sym, ap, ap₂, ◌∙◌}
use mathlib.Core.List.{List, [], ◌∷◌}
use mathlib.Core.Bool.{false}
use Prim.Native.Nat.{ℕ, zero, suc, ◌+◌, ◌-◌, ◌*◌, ◌≤◌, ◌<◌}
use native.Mathlib.Nat.{add-zero, sub-zero, zero-sub, suc-sub-suc}
use native.Mathlib.Numerals.{add-one}
use native.Mathlib.Omega.{arith}
use lib.ListN.{length, get_or, take, drop}
use lib.Seq.{take-nil, slice, slice_empty, slice-cons}
use lib.Ieee.{Float, nan}
use Rattle.stream.specs.declared.Element.{Element}
use Rattle.stream.specs.declared.Element.TheVariants.{Move, Line, Quad, Cubic, Close}
use Rattle.stream.specs.Stream.{State, floats_of, point_count, bad_state}
use Rattle.stream.proofs.Tests.{good_record}
use Rattle.reader.specs.declared.Cursor.{Cursor}
use Rattle.reader.specs.declared.Segment.{Segment}
use Rattle.reader.specs.declared.Segment.TheVariants as segment
use Rattle.reader.specs.Reading.{Reading, ok, Item, item, end, item_of, segment_of, point_at, element_at, read_at, part_of, part_at, floats_from, floats_at}
use Rattle.reader.proofs.Reader.{View, bad, past, malformed, found, view, byte_at}
use Rattle.std.proofs.Common.{Option}
use Rattle.reader.specs.declared.Rect.{Rect}
use Rattle.reader.specs.Bounds.{include_element, include_segment}
use Rattle.reader.proofs.Folds.{next_of, fold_item}

-- a part as the code takes it
pub take-drop {ℓ} : {A : Type ℓ} (f t : ℕ) (l : List A) → take (t - f) (drop f l) ≡ slice f t l
take-drop zero t l = ap (λ (n : ℕ). take n l) (sub-zero t)
take-drop (suc f) zero l = ap (λ (n : ℕ). take n (drop (suc f) l)) (zero-sub (suc f))
take-drop (suc f) (suc t) [] = take-nil (suc t - suc f)
take-drop (suc f) (suc t) (x ∷ xs) = ap (λ (n : ℕ). take n (drop f xs)) (suc-sub-suc t f) ∙ take-drop f t xs

-- one point more
slice-point : (fs : List Float) (p t : ℕ) → 2 * p + 2 ≤ t → t ≤ length fs → slice (2 * p) t fs ≡ (point_at fs p).x ∷ (point_at fs p).y ∷ slice (2 * (p + 1)) t fs
slice-point fs p t h l =
    let e : suc (2 * p) ≡ 2 * p + 1 = sym (add-one (2 * p)) in
    let f : suc (suc (2 * p)) ≡ 2 * (p + 1) = omega arith in
    slice-cons (2 * p) t fs nan (omega arith) l
    ∙ ap (λ (r : List Float). get_or fs (2 * p) nan ∷ r) (slice-cons (suc (2 * p)) t fs nan (omega arith) l ∙ ap₂ (λ (i j : ℕ). get_or fs i nan ∷ slice j t fs) e f)

pub element_part : (v : ℕ) (fs : List Float) (p : ℕ) → v ≤ 4 → 2 * point_count v ≤ length fs - 2 * p → slice (2 * p) (2 * (p + point_count v)) fs ≡ floats_of (element_at v fs p)
unfolding point_count element_at
element_part zero fs p l h = slice-point fs p (2 * (p + 1)) (omega arith) (omega arith) ∙ rw slice_empty
element_part (suc zero) fs p l h = slice-point fs p (2 * (p + 1)) (omega arith) (omega arith) ∙ rw slice_empty
element_part (suc (suc zero)) fs p l h =
    let t = 2 * (p + 2) in
    let e : 2 * (p + 1 + 1) ≡ t = omega arith in
    rw (slice-point fs p t (omega arith) (omega arith), slice-point fs (p + 1) t (omega arith) (omega arith), e, slice_empty)
element_part (suc (suc (suc zero))) fs p l h =
    let t = 2 * (p + 3) in
    let e : p + 1 + 1 ≡ p + 2 = omega arith in
    let f : 2 * (p + 2 + 1) ≡ t = omega arith in
    rw (slice-point fs p t (omega arith) (omega arith), slice-point fs (p + 1) t (omega arith) (omega arith), e, slice-point fs (p + 2) t (omega arith) (omega arith), f, slice_empty)
element_part (suc (suc (suc (suc n)))) fs p l h = rw (add-zero, slice_empty)

-- the points of a segment that was found lie within the lent floats
pub enough : (s : State) (c : Cursor) → bad_state s ≡ false → point_count (byte_at s c) ≤ s.builder.points - c.point → 2 * point_count (byte_at s c) ≤ length s.floats - 2 * c.point
enough s c e k = omega (arith, good_record s.builder (length s.verbs) (length s.floats) e)

part_go : (s : State) (c : Cursor) (a : Reading Item) → View s c a → part_of s.floats c a ≡ floats_from a
part_go s c _ (bad e) = refl
part_go s c _ (past e h) = refl
part_go s c _ (malformed e h) = refl
part_go s c _ (found e h l k) = element_part (byte_at s c) s.floats c.point l (enough s c e k)

pub part_is : (s : State) (c : Cursor) → part_at s c ≡ floats_at s c
unfolding part_at floats_at
part_is s c = part_go s c (read_at s c) (view s c)

-- what the code of the returned part has: from the cursor to the next one
between_go : (s : State) (c : Cursor) (a : Reading Item) → View s c a → (i : Item) → a ≡ ok i → slice (2 * c.point) (2 * (next_of i).point) s.floats ≡ part_of s.floats c (ok i)
between_go s c _ (bad e) i q = let z : ◌≡◌ {A = ℕ} 0 1 = cc in absurd (omega arith)
between_go s c _ (past e h) (item k d) q = let z : ◌≡◌ {A = ℕ} 0 1 = cc in absurd (omega arith)
between_go s c _ (past e h) (end d) q = let z : c ≡ d = cc in ap (λ (x : Cursor). slice (2 * c.point) (2 * x.point) s.floats) (sym z) ∙ slice_empty (2 * c.point) s.floats
between_go s c _ (malformed e h) i q = let z : ◌≡◌ {A = ℕ} 0 1 = cc in absurd (omega arith)
between_go s c _ (found e h l k) (item j d) q = refl
between_go s c _ (found e h l k) (end d) q = let z : ◌≡◌ {A = ℕ} 0 1 = cc in absurd (omega arith)

pub between : (s : State) (c : Cursor) (i : Item) → read_at s c ≡ ok i → slice (2 * c.point) (2 * (next_of i).point) s.floats ≡ part_at s c
unfolding part_at
between s c i q = between_go s c (read_at s c) (view s c) i q ∙ ap (part_of s.floats c) (sym q)

within_go : (s : State) (c : Cursor) (a : Reading Item) → View s c a → (i : Item) → a ≡ ok i → c.point < (next_of i).point → 2 * (next_of i).point ≤ length s.floats
within_go s c _ (bad e) i q g = let z : ◌≡◌ {A = ℕ} 0 1 = cc in absurd (omega arith)
within_go s c _ (past e h) (item k d) q g = let z : ◌≡◌ {A = ℕ} 0 1 = cc in absurd (omega arith)
within_go s c _ (past e h) (end d) q g = let z : c.point ≡ d.point = cc in absurd (omega arith)
within_go s c _ (malformed e h) i q g = let z : ◌≡◌ {A = ℕ} 0 1 = cc in absurd (omega arith)
within_go s c _ (found e h l k) (item j d) q g = let z : c.point + point_count (byte_at s c) ≡ d.point = cc in omega (arith, enough s c e k)
within_go s c _ (found e h l k) (end d) q g = let z : ◌≡◌ {A = ℕ} 0 1 = cc in absurd (omega arith)

pub within : (s : State) (c : Cursor) (i : Item) → read_at s c ≡ ok i → c.point < (next_of i).point → 2 * (next_of i).point ≤ length s.floats
within s c i q g = within_go s c (read_at s c) (view s c) i q g

-- a segment's next cursor is the one that it was read with
pub next_is : (k : Segment) (d : Cursor) → next_of (item_of k d) ≡ d
next_is (segment.Move p) d = refl
next_is (segment.Line p) d = refl
next_is (segment.Quad p q) d = refl
next_is (segment.Cubic p q r) d = refl
next_is segment.Close d = refl
next_is segment.End d = refl

-- an element's segment is read as that element
pub item-is : (k : Element) (d : Cursor) → item_of (segment_of k) d ≡ item k d
item-is (Move p) d = refl
item-is (Line p) d = refl
item-is (Quad p q) d = refl
item-is (Cubic p q r) d = refl
item-is Close d = refl

-- a segment widens an extent as its element does
pub include_is : (e : Option Rect) (k : Segment) (d : Cursor) → include_segment e k ≡ fold_item include_element e (item_of k d)
unfolding include_segment
include_is e (segment.Move p) d = refl
include_is e (segment.Line p) d = refl
include_is e (segment.Quad p q) d = refl
include_is e (segment.Cubic p q r) d = refl
include_is e segment.Close d = refl
include_is e segment.End d = refl
