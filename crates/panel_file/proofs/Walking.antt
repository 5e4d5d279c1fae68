-- Laws for a loop over the records of a good file, by `record_at`. Assumes nothing.
use mathlib.Core.Path.{◌≡◌, refl, sym, ap, ◌∙◌}
use mathlib.Core.Bool.{true, false≢true}
use mathlib.Core.List.{List, [], ◌∷◌}
use Prim.Native.Nat.{ℕ, ◌+◌, ◌*◌, ◌≤◌, ◌<◌}
use native.Mathlib.Omega.{arith}
use lib.ListN.{length}
use Rattle.panel_file.specs.declared.Record.{Record}
use Rattle.panel_file.specs.declared.Record.TheVariants.{Button as ButtonRecord, Touch as TouchRecord}
use Rattle.panel_file.specs.declared.Broken.{Broken}
use Rattle.std.proofs.Common.{Option, Some, None, Result, Ok, Err}
use Rattle.panel_file.specs.declared.Counts.{Counts}
use Rattle.panel_file.specs.Panel.{buttons_of, touches_of, records_of, Answer, done, refused, broken, limit, entry, record_at, record_answer, on_done, record_and_rest, records_from, is_done, records_in, counts_of, check_answer}
use Rattle.panel_file.proofs.Following.{records_follow, record_within, record_bytes, bytes_of, bytes-least, bytes_of_all, records_fit, good_short}

-- the value of an answer that has one
pub is-done : (x : Answer (List Record)) → is_done x ≡ true → x ≡ done (records_in x)
unfolding is_done records_in
is-done (done rs) e = refl
is-done (refused n o) e = absurd (false≢true e)

-- a record that is read lies within the file and takes its bytes
pub record Within (file : List ℕ) (at : ℕ) (r : Record) (next : ℕ) : Type 0 where
  pub further : at < next
  pub inside : next ≤ length file
  pub short : length file ≤ limit
  pub bytes : next ≡ at + bytes_of r
  pub least : 12 ≤ bytes_of r

-- reading at an offset answered a
module _ (file : List ℕ) (at : ℕ) (a : Result (Option (Record × ℕ)) Broken) (e : record_answer a ≡ record_at file at) where
  following : records_from file at ≡ record_and_rest (records_from file) (record_answer a)
  following = records_follow file at ∙ ap (record_and_rest (records_from file)) (sym e)

  module _ (r : Record) (next : ℕ) (q : a ≡ Ok (Some (r, next))) where
    pub entered : record_at file at ≡ done (entry r next)
    unfolding record_answer
    entered = sym e ∙ ap record_answer q

    consed : records_from file at ≡ on_done (λ rs. r ∷ rs) (records_from file next)
    unfolding record_answer record_and_rest
    consed = following ∙ ap (λ (b : Result (Option (Record × ℕ)) Broken). record_and_rest (records_from file) (record_answer b)) q

    done_behind : (x : Answer (List Record)) → is_done (on_done (λ rs. r ∷ rs) x) ≡ is_done x
    unfolding is_done on_done
    done_behind (done rs) = refl
    done_behind (refused n o) = refl

    in_behind : (x : Answer (List Record)) → is_done x ≡ true → records_in (on_done (λ rs. r ∷ rs) x) ≡ r ∷ records_in x
    unfolding is_done on_done records_in
    in_behind (done rs) h = refl
    in_behind (refused n o) h = absurd (false≢true h)

    pub read-within : Within file at r next
    read-within =
        let w = record_within file at r next entered in
        record { further = w.0; inside = w.1; short = w.2; bytes = record_bytes file at r next entered; least = bytes-least r }

    -- past a record of a good file the file is good, and its records are the rest
    pub step-done : is_done (records_from file at) ≡ true → is_done (records_from file next) ≡ true
    step-done h = sym (done_behind (records_from file next)) ∙ ap is_done (sym consed) ∙ h

    pub step_records : is_done (records_from file at) ≡ true → records_in (records_from file at) ≡ r ∷ records_in (records_from file next)
    step_records h = ap records_in consed ∙ in_behind (records_from file next) (step-done h)

-- where no record is read in a good file, no records are left
pub stop_records : (file : List ℕ) (at : ℕ) (a : Result (Option (Record × ℕ)) Broken) → record_answer a ≡ record_at file at → ((r : Record) (next : ℕ) → a ≡ Ok (Some (r, next)) → ⊥) → is_done (records_from file at) ≡ true
    → records_in (records_from file at) ≡ []
unfolding record_answer record_and_rest records_in is_done
stop_records file at (Ok (Some (r, next))) e o h = absurd (o r next refl)
stop_records file at (Ok None) e o h = ap records_in (following file at (Ok None) e)
stop_records file at (Err b) e o h = absurd (false≢true (ap is_done (sym (following file at (Err b) e)) ∙ h))

-- ---- what `check` says

pub checked_good : (x : Answer (List Record)) (c : Counts) → check_answer (Ok c) ≡ on_done counts_of x → (is_done x ≡ true) × (c ≡ counts_of (records_in x))
unfolding check_answer on_done is_done records_in
checked_good (done rs) c e = (refl, cc)
checked_good (refused n o) c e = let z : ◌≡◌ {A = ℕ} 0 1 = cc in absurd (omega arith)

pub checked_broken : (x : Answer (List Record)) (b : Broken) → check_answer (Err b) ≡ on_done counts_of x → broken b.offset ≡ x
unfolding check_answer on_done
checked_broken (done rs) b e = let z : ◌≡◌ {A = ℕ} 0 1 = cc in absurd (omega arith)
checked_broken (refused n p) b e = cc

-- ---- a good file

-- a record takes 12 bytes at least, so no more than 5,461 of them lie in a file
few : (b t n : ℕ) → 52 * b + 12 * t ≤ n → n ≤ 65536 → b + t ≤ 5461
few b t n h k = omega arith

pub count_all : (rs : List Record) → length (buttons_of rs) + length (touches_of rs) ≡ length rs
unfolding buttons_of touches_of
count_all [] = refl
count_all (ButtonRecord b ∷ rs) = omega (arith, count_all rs)
count_all (TouchRecord p ∷ rs) = omega (arith, count_all rs)

pub good_few : (file : List ℕ) → is_done (records_of file) ≡ true
    → let rs = records_in (records_of file) in (length rs ≤ 5461) × (length (touches_of rs) ≤ 5461)
unfolding records_of bytes_of_all
good_few file e =
    let rs = records_in (records_from file 0) in
    let whole = is-done (records_from file 0) e in
    let f = few (length (buttons_of rs)) (length (touches_of rs)) (length file) (omega (arith, records_fit file 0 rs whole)) (good_short file 0 rs whole) in
    omega (arith, count_all rs)
