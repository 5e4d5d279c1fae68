-- The laws of `written_records_read_back`. Assumes nothing.
use mathlib.Core.Path.{◌≡◌, refl, sym, ap, ◌∙◌}
use mathlib.Core.Bool.{Bool, true, false, cond, ◌&&◌}
use mathlib.Core.List.{List, [], ◌∷◌, ◌++◌, append_assoc}
use Prim.Native.Nat.{ℕ, ◌+◌, ◌≤◌}
use native.Mathlib.Omega.{arith}
use lib.Dec.{leb}
use lib.ListN.{length, take, drop, length-append}
use lib.Seq.{length-take-le, take_at, drop_at}
use borrow.Author.Tests.{leb-true, le-leb, le-ltb}
use Rattle.std.specs.List.{flat_map, AllByRecursion}
use Rattle.std.proofs.Common.{Some, None}
use Rattle.std.proofs.lemmas.List.Concat.{flat_map-cons}
use Rattle.stream.specs.Stream.{put}
use Rattle.stream.proofs.Put.{length-put}
use Rattle.panel_file.specs.declared.Record.{Record}
use Rattle.panel_file.specs.Panel.{done, limit, entry, entry_of, head_at, record_at, on_done, record_and_rest, records_from, records_of}
use Rattle.panel_file.specs.Writing.{record_bytes, end_of, has_place, next_of, file_of, HasSingles, RecordReadsBack, OthersStay, FileReadsBack}
use Rattle.panel_file.proofs.Following.{records_follow}
use Rattle.panel_file.proofs.Back.{length-record, record_read, put_has, take_has, front_has}

-- a record that has room
pub record Placed (file : List ℕ) (at : ℕ) (r : Record) (next : ℕ) : Type 0 where
  pub is : end_of at r ≡ next
  pub inside : end_of at r ≤ length file
  pub short : end_of at r ≤ limit
  pub bytes : file_of file at r ≡ put file at (record_bytes r)

module _ (file : List ℕ) (at : ℕ) (r : Record) (next : ℕ) where
  placed_by : (b c : Bool) → leb (end_of at r) (length file) ≡ b → leb (end_of at r) limit ≡ c → cond (b && c) (Some (end_of at r)) None ≡ Some next → Placed file at r next
  unfolding file_of
  placed_by true true p q e =
      let same : end_of at r ≡ next = cc in
      record {
        is = same;
        inside = leb-true (end_of at r) (length file) p;
        short = leb-true (end_of at r) limit q;
        bytes = rw (p, q);
      }
  placed_by true false p q e = absurd cc
  placed_by false c p q e = absurd cc

  pub placed : next_of file at r ≡ Some next → Placed file at r next
  unfolding next_of
  placed e = placed_by (leb (end_of at r) (length file)) (leb (end_of at r) limit) refl refl e

-- one that has none
pub not_placed : (file : List ℕ) (at : ℕ) (r : Record) → None ≡ next_of file at r → file ≡ file_of file at r
unfolding next_of file_of
not_placed file at r e = unplaced (has_place file at r) e
  where
    unplaced : (b : Bool) → None ≡ cond b (Some (end_of at r)) None → file ≡ cond b (put file at (record_bytes r)) file
    unplaced true e = absurd cc
    unplaced false e = refl

pub record_reads_back : RecordReadsBack
record_reads_back file at r next n s e more within short =
    let p = placed file at r next e in
    let long : at + length (record_bytes r) ≤ length file = omega (arith, length-record r, p.inside) in
    let whole : length (take n (put file at (record_bytes r))) ≡ n = length-take-le n _ (omega (arith, within, length-put file at (record_bytes r) long)) in
    let has = take_has (put file at (record_bytes r)) at n (record_bytes r) (omega (arith, length-record r, p.is, more)) (put_has file at (record_bytes r) (omega (arith, long))) in
    rw (p.bytes, ← p.is) (record_read (take n (put file at (record_bytes r))) at r has (omega (arith, whole, p.is, more)) (omega (arith, whole, short)) s)

pub others_stay : OthersStay
unfolding put
others_stay file at r next e =
    let p = placed file at r next e in
    let bs = record_bytes r in
    let behind : at + length bs ≡ next = omega (arith, length-record r, p.is) in
    let front : length (take at file) ≡ at = length-take-le at file (omega (arith, p.inside)) in
    let head : length (take at file ++ bs) ≡ next = length-append (take at file) bs ∙ omega (arith, front, behind) in (
      ap (take at) (p.bytes ∙ append_assoc (take at file) bs (drop (at + length bs) file)) ∙ take_at (take at file) (bs ++ drop (at + length bs) file) at front,
      ap (drop next) p.bytes ∙ drop_at (take at file ++ bs) (drop (at + length bs) file) next head ∙ ap (λ (k : ℕ). drop k file) behind,
    )

-- ---- records one behind the other

ended : (l : List ℕ) (at : ℕ) → length l ≤ limit → length l ≤ at → records_from l at ≡ done []
unfolding record_at head_at entry_of record_and_rest
ended l at short past = records_follow l at ∙ rw (le-ltb limit (length l) short, le-leb (length l) at past)

rest_read : (rs : List Record) (front : List ℕ) → AllByRecursion HasSingles rs → length (front ++ flat_map record_bytes rs) ≤ limit → records_from (front ++ flat_map record_bytes rs) (length front) ≡ done rs
unfolding record_and_rest on_done
rest_read [] front s short = ended (front ++ []) (length front) short (omega (arith, length-append front []))
rest_read (r ∷ rs) front s short =
    let bs = record_bytes r in
    let rest = flat_map record_bytes rs in
    let l = (front ++ bs) ++ rest in
    let same : front ++ flat_map record_bytes (r ∷ rs) ≡ l = ap (λ (x : List ℕ). front ++ x) (flat_map-cons record_bytes r rs) ∙ sym (append_assoc front bs rest) in
    let is_short : length l ≤ limit = omega (arith, short, ap length same) in
    let next : end_of (length front) r ≡ length (front ++ bs) = omega (arith, length-append front bs, length-record r) in
    let read : record_at l (length front) ≡ done (entry r (end_of (length front) r)) = record_read l (length front) r (front_has front bs rest) (omega (arith, next, length-append (front ++ bs) rest)) is_short s.0 in
    ap (λ (x : List ℕ). records_from x (length front)) same
    ∙ records_follow l (length front)
    ∙ ap (record_and_rest (records_from l)) read
    ∙ ap (λ (k : ℕ). on_done (λ ss. r ∷ ss) (records_from l k)) next
    ∙ ap (on_done (λ ss. r ∷ ss)) (rest_read rs (front ++ bs) s.1 is_short)

pub file_reads_back : FileReadsBack
unfolding records_of
file_reads_back rs s short = rest_read rs [] s short
