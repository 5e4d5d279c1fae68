-- What was written is read. Assumes nothing.
use mathlib.Core.Path.{◌≡◌, refl, sym, ap, ◌∙◌}
use mathlib.Core.Bool.{Bool, true, false, cond, ◌&&◌}
use mathlib.Core.List.{List, [], ◌∷◌}
use Prim.Native.Nat.{ℕ}
use native.Mathlib.Omega.{arith}
use lib.Dec.{eqb}
use lib.ListN.{length, get_or, set, take}
use lib.Ieee.{Float, nan}
use borrow.Author.Tests.{eq-eqb}
use Rattle.std.proofs.Common.{Option, Some, None, Result, Ok, Err}
use Rattle.std.proofs.lemmas.Bool.{eqb-true}
use Rattle.panel_file.specs.declared.Kind.{Kind}
use Rattle.panel_file.specs.declared.Kind.TheVariants.{Button as button, Touch as touch}
use Rattle.panel_file.specs.declared.UnknownKind.{UnknownKind}
use Rattle.panel_file.specs.declared.Record.{Record}
use Rattle.panel_file.specs.Panel.{done, entry, kind_number, kind_of, kind_of_record, record_at}
use Rattle.panel_file.specs.Writing.{next_of, file_of, IsSingle, HasSingles}
use Rattle.panel_file.proofs.Written.{record_reads_back}
use Rattle.ffi_panel.specs.Asking.{SlicesLeft, slices_left, record_left, record_of, record_in, put_left, put_kind, put_of, WrittenIsRead}

-- the number that is left
abbrev number_left : {A : Type 0} → SlicesLeft A → ℕ
number_left (slices_left n place l) = n

-- the lengths, where a call was accepted
lengths : (a b : Bool) (x y : SlicesLeft ℕ) (p l : List ℕ) → number_left y ≡ 100 → cond (a && b) x y ≡ slices_left 0 p l → (a ≡ true) × (b ≡ true) × (x ≡ slices_left 0 p l)
lengths true true x y p l h e = (refl, refl, e)
lengths true false x y p l h e = let z = ap number_left e in absurd (omega (arith, z, h))
lengths false b x y p l h e = let z = ap number_left e in absurd (omega (arith, z, h))

-- what a record left that was written
record Put (file place : List ℕ) (r : Record) (p l : List ℕ) : Type 0 where
  next : ℕ
  is : next_of file (get_or place 0 0) r ≡ Some next
  left : set place 0 next ≡ p
  bytes : file_of file (get_or place 0 0) r ≡ l

module _ (file place : List ℕ) (fs : List Float) (p l : List ℕ) where
  was_put : (r : Record) (x : Option ℕ) → next_of file (get_or place 0 0) r ≡ x → put_left x place (file_of file (get_or place 0 0) r) ≡ slices_left 0 p l → Put file place r p l
  unfolding put_left
  was_put r (Some next) e q = record { next = next; is = e; left = cc; bytes = cc }
  was_put r None e q = let z = ap number_left q in absurd (omega arith)

  was_kind : (x : Result Kind UnknownKind) (k : Kind) → x ≡ Ok k → put_kind x file place fs ≡ slices_left 0 p l → Put file place (record_in k fs) p l
  unfolding put_kind
  was_kind x k h e = was_put (record_in k fs) (next_of file (get_or place 0 0) (record_in k fs)) refl (ap (λ (y : Result Kind UnknownKind). put_kind y file place fs) (sym h) ∙ e)

-- ---- the kind

picked : (b : Bool) (m n : ℕ) (j k : Kind) (x : Result Kind UnknownKind) → eqb n m ≡ b → kind_number j ≡ m → (x ≡ Ok k → kind_number k ≡ n) → cond b (Ok j) x ≡ Ok k → kind_number k ≡ n
picked true m n j k x e h f q = let same : j ≡ k = cc in sym (ap kind_number same) ∙ h ∙ sym (eqb-true n m e)
picked false m n j k x e h f q = f q

number_is : (n : ℕ) (k : Kind) → kind_of n ≡ Ok k → kind_number k ≡ n
unfolding kind_of
number_is n k e =
    picked (eqb n (kind_number button)) (kind_number button) n button k _ refl refl
    (picked (eqb n (kind_number touch)) (kind_number touch) n touch k (Err (record { number = n })) refl refl (λ h. absurd cc)) e

kind_is : (k : Kind) (fs : List Float) → kind_of_record (record_in k fs) ≡ k
unfolding kind_of_record record_in
kind_is button fs = refl
kind_is touch fs = refl

singles : (k : Kind) (fs : List Float) → ((i : ℕ) → IsSingle (get_or fs i nan)) → HasSingles (record_in k fs)
unfolding record_in
singles button fs s = ((s 0, s 1), ((s 2, s 3), ((s 4, s 5), ((s 6, s 7), ((s 8, s 9), ((s 10, s 11), tt))))))
singles touch fs s = ((s 0, s 1), tt)

-- a place of two
first_set : (l : List ℕ) (a : ℕ) → length l ≡ 2 → get_or (set l 0 a) 0 0 ≡ a
first_set [] a e = absurd (omega arith)
first_set (x ∷ l) a e = refl

both_set : (l : List ℕ) (a b : ℕ) → length l ≡ 2 → get_or l 1 0 ≡ b → a ∷ b ∷ [] ≡ set l 0 a
both_set [] a b e h = absurd (omega arith)
both_set (x ∷ []) a b e h = absurd (omega arith)
both_set (x ∷ y ∷ []) a b e h = ap (λ (c : ℕ). a ∷ c ∷ []) (sym h)
both_set (x ∷ y ∷ z ∷ l) a b e h = absurd (omega arith)

pub written_is_read : WrittenIsRead
unfolding put_of record_of record_left
written_is_read file place left after fs gs k n is_k put_0 s twelve more within short =
    let r = record_in k fs in
    let at = get_or place 0 0 in
    let ok = lengths (eqb (length place) 2) (eqb (length fs) 12) (put_kind (kind_of (get_or place 1 0)) file place fs) (slices_left 100 place file) left after refl put_0 in
    let two = eqb-true (length place) 2 ok.0 in
    let put = was_kind file place fs left after (kind_of (get_or place 1 0)) k is_k ok.2 in
    let next : get_or left 0 0 ≡ put.next = ap (λ (l : List ℕ). get_or l 0 0) (sym put.left) ∙ first_set place put.next two in
    let read : record_at (take n after) at ≡ done (entry r put.next) = ap (λ (l : List ℕ). record_at (take n l) at) (sym put.bytes) ∙ record_reads_back file at r put.next n (singles k fs s) put.is (omega (arith, next, more)) within short in
    let number : get_or place 1 0 ≡ kind_number (kind_of_record r) = sym (ap kind_number (kind_is k fs) ∙ number_is (get_or place 1 0) k is_k) in
    let place_left = both_set place put.next (kind_number (kind_of_record r)) two number ∙ put.left in
    rw (eq-eqb (length place) 2 two, eq-eqb (length gs) 12 twelve, read, place_left)
