-- What the exported functions answer, case by case. Assumes nothing.
use mathlib.Core.Path.{◌≡◌, refl, sym, ap, ap₂, ◌∙◌}
use mathlib.Core.List.{List}
use Prim.Native.Nat.{ℕ, ◌≤◌}
use native.Mathlib.Omega.{arith}
use borrow.Author.Tests.{eq-eqb, ne_eqb}
use lib.ListN.{length, get_or, set}
use lib.Ieee.{Float}
use Rattle.geometry.specs.declared.Point.{Point}
use Rattle.std.specs.Result.{result_ok}
use Rattle.panel_file.specs.declared.Kind.{Kind}
use Rattle.panel_file.specs.declared.UnknownKind.{UnknownKind}
use Rattle.panel_file.specs.declared.Record.{Record}
use Rattle.panel_file.specs.declared.Broken.{Broken}
use Rattle.panel_file.specs.Panel.{kind_number, kind_of, kind_of_record, record_at, record_answer}
use Rattle.panel_file.specs.Writing.{next_of, file_of}
use Rattle.touch.specs.Touch.{touch_of, place_of_index, touch_answer, count_answer, results_left, touch_all_of}
use Rattle.std.proofs.Common.{Option, Some, None, Result, Ok, Err}
use Rattle.ffi_panel.specs.Asking.{place_left, slices_left, record_floats, record_left, record_of, record_in, put_left, put_kind, put_of, touch_left, place_of_touch, count_left, places_of_touches}
use Rattle.ffi_panel.proofs.Storing.{one_set, two-set}

-- ---- a record

module _ (file place : List ℕ) (fs : List Float) where
  pub record_no_place : (length place ≡ 2 → ⊥) → slices_left 100 place fs ≡ record_of file place fs
  unfolding record_of
  record_no_place h = rw (ne_eqb (length place) 2 h)

  pub record_no_floats : length place ≡ 2 → (length fs ≡ 12 → ⊥) → slices_left 100 place fs ≡ record_of file place fs
  unfolding record_of
  record_no_floats e h = rw (eq-eqb (length place) 2 e, ne_eqb (length fs) 12 h)

  module _ (x : Result (Option (Record × ℕ)) Broken) (two : length place ≡ 2) (twelve : length fs ≡ 12) (answer : record_answer x ≡ record_at file (get_or place 0 0)) where
    record_of_answer : record_of file place fs ≡ record_left (record_answer x) place fs
    unfolding record_of
    record_of_answer = rw (eq-eqb (length place) 2 two, eq-eqb (length fs) 12 twelve, answer)

    pub record_read : (r : Record) (next k : ℕ) (gs : List Float) → x ≡ Ok (Some (r, next)) → k ≡ kind_number (kind_of_record r) → gs ≡ record_floats r fs → slices_left 0 (set (set place 0 next) 1 k) gs ≡ record_of file place fs
    unfolding record_left record_answer
    record_read r next k gs e f g = rw (record_of_answer, e, f, g, two-set place next (kind_number (kind_of_record r)) two)

    pub record_end : x ≡ Ok None → slices_left 0 (set place 1 0) fs ≡ record_of file place fs
    unfolding record_left record_answer
    record_end e = rw (record_of_answer, e)

    pub record_broken : (b : Broken) → x ≡ Err b → slices_left 7 (set place 0 b.offset) fs ≡ record_of file place fs
    unfolding record_left record_answer
    record_broken b e = rw (record_of_answer, e)

-- ---- a record written

-- a number that 16 bits do not hold is no kind's
pub no_kind : (n : ℕ) → 65536 ≤ n → None ≡ result_ok (kind_of n)
unfolding kind_of kind_number
no_kind n h = rw (ne_eqb n 1 (λ e. omega (arith, h, e)), ne_eqb n 2 (λ e. omega (arith, h, e)))

module _ (file place : List ℕ) (fs : List Float) where
  pub put_no_place : (length place ≡ 2 → ⊥) → slices_left 100 place file ≡ put_of file place fs
  unfolding put_of
  put_no_place h = rw (ne_eqb (length place) 2 h)

  pub put_no_floats : length place ≡ 2 → (length fs ≡ 12 → ⊥) → slices_left 100 place file ≡ put_of file place fs
  unfolding put_of
  put_no_floats e h = rw (eq-eqb (length place) 2 e, ne_eqb (length fs) 12 h)

  module _ (two : length place ≡ 2) (twelve : length fs ≡ 12) where
    put_of_kind : put_of file place fs ≡ put_kind (kind_of (get_or place 1 0)) file place fs
    unfolding put_of
    put_of_kind = rw (eq-eqb (length place) 2 two, eq-eqb (length fs) 12 twelve)

    unknown_put : (x : Result Kind UnknownKind) → None ≡ result_ok x → slices_left 7 place file ≡ put_kind x file place fs
    unfolding put_kind
    unknown_put (Ok k) e = absurd cc
    unknown_put (Err u) e = refl

    pub put_unknown : None ≡ result_ok (kind_of (get_or place 1 0)) → slices_left 7 place file ≡ put_of file place fs
    put_unknown e = unknown_put (kind_of (get_or place 1 0)) e ∙ sym put_of_kind

    known_put : (k : Kind) (x : Result Kind UnknownKind) → Some k ≡ result_ok x → let r = record_in k fs in put_kind x file place fs ≡ put_left (next_of file (get_or place 0 0) r) place (file_of file (get_or place 0 0) r)
    unfolding put_kind
    known_put k (Ok j) e =
        let same : k ≡ j = cc in
        ap (λ (i : Kind). put_left (next_of file (get_or place 0 0) (record_in i fs)) place (file_of file (get_or place 0 0) (record_in i fs))) (sym same)
    known_put k (Err u) e = absurd cc

    module _ (k : Kind) (known : Some k ≡ result_ok (kind_of (get_or place 1 0))) (r : Record) (is : r ≡ record_in k fs) (x : Option ℕ) (after : List ℕ) where
      pub put_known : x ≡ next_of file (get_or place 0 0) r → after ≡ file_of file (get_or place 0 0) r → put_left x place after ≡ put_of file place fs
      put_known e f =
          ap₂ (λ (y : Option ℕ) (l : List ℕ). put_left y place l) e f
          ∙ ap (λ (s : Record). put_left (next_of file (get_or place 0 0) s) place (file_of file (get_or place 0 0) s)) is
          ∙ sym (put_of_kind ∙ known_put k (kind_of (get_or place 1 0)) known)

-- ---- a touch

module _ (file : List ℕ) (p : Point) (place : List ℕ) where
  pub touch_no_place : (length place ≡ 1 → ⊥) → place_left 100 place ≡ place_of_touch file p place
  unfolding place_of_touch
  touch_no_place h = rw (ne_eqb (length place) 1 h)

  module _ (x : Result (Option ℕ) Broken) (one : length place ≡ 1) (answer : touch_answer x ≡ touch_of file p) where
    touch_of_answer : place_of_touch file p place ≡ touch_left (touch_answer x) place
    unfolding place_of_touch
    touch_of_answer = rw (eq-eqb (length place) 1 one, answer)

    pub touch-taken : (i : ℕ) → x ≡ Ok (Some i) → place_left 0 (set place 0 i) ≡ place_of_touch file p place
    unfolding touch_left touch_answer place_of_index
    touch-taken i e = rw (touch_of_answer, e, one_set place i one)

    pub touch-nowhere : x ≡ Ok None → place_left 101 place ≡ place_of_touch file p place
    unfolding touch_left touch_answer place_of_index
    touch-nowhere e = rw (touch_of_answer, e)

    pub touch-broken : (b : Broken) → x ≡ Err b → place_left 7 (set place 0 b.offset) ≡ place_of_touch file p place
    unfolding touch_left touch_answer place_of_index
    touch-broken b e = rw (touch_of_answer, e, one_set place b.offset one)

-- ---- all touches

module _ (file results place : List ℕ) where
  pub all_no_results : (length results ≡ 5461 → ⊥) → slices_left 100 place results ≡ places_of_touches file results place
  unfolding places_of_touches
  all_no_results h = rw (ne_eqb (length results) 5461 h)

  pub all_no_place : length results ≡ 5461 → (length place ≡ 1 → ⊥) → slices_left 100 place results ≡ places_of_touches file results place
  unfolding places_of_touches
  all_no_place e h = rw (eq-eqb (length results) 5461 e, ne_eqb (length place) 1 h)

  module _ (after : List ℕ) (x : Result ℕ Broken) (answer : results_left (count_answer x) after ≡ touch_all_of file results) (room : length results ≡ 5461) (one : length place ≡ 1) where
    all_of_answer : places_of_touches file results place ≡ count_left (results_left (count_answer x) after)
    unfolding places_of_touches
    all_of_answer = rw (eq-eqb (length results) 5461 room, eq-eqb (length place) 1 one, answer)

    pub all_done : (n : ℕ) → x ≡ Ok n → slices_left 0 (set place 0 n) after ≡ places_of_touches file results place
    unfolding count_left count_answer
    all_done n e = rw (all_of_answer, e, one_set place n one)

    pub all_broken : (b : Broken) → x ≡ Err b → slices_left 7 (set place 0 b.offset) after ≡ places_of_touches file results place
    unfolding count_left count_answer
    all_broken b e = rw (all_of_answer, e, one_set place b.offset one)
