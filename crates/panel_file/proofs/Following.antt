-- Laws of a file's records: a record lies within the file, and the records from an offset on are the one that stands there and those from the offset past it on. Assumes nothing.
use mathlib.Core.Path.{◌≡◌, refl, sym, ap, ◌∙◌}
use mathlib.Core.Bool.{Bool, true, false, cond}
use mathlib.Core.List.{List, [], ◌∷◌}
use Prim.Native.Nat.{ℕ, zero, suc, ◌+◌, ◌-◌, ◌*◌, ◌≤◌, ◌<◌}
use native.Mathlib.Omega.{arith}
use lib.ListN.{length}
use lib.Dec.{leb, ltb, eqb}
use borrow.Author.Tests.{ltb-false, leb-true, leb-false}
use Rattle.panel_file.specs.Bytes.{u16_at}
use Rattle.panel_file.specs.declared.Kind.{Kind}
use Rattle.panel_file.specs.declared.Kind.TheVariants.{Button as button, Touch as touch}
use Rattle.panel_file.specs.declared.UnknownKind.{UnknownKind}
use Rattle.panel_file.specs.declared.Broken.{Broken}
use Rattle.std.proofs.Common.{Option, Some, None, Result, Ok, Err}
use Rattle.panel_file.specs.declared.Record.{Record}
use Rattle.panel_file.specs.declared.Record.TheVariants.{Button as ButtonRecord, Touch as TouchRecord}
use Rattle.panel_file.specs.Panel.{Answer, done, refused, limit, header, kind_of, payload_of, broken_head, whole_of, head_at, content_at, Entry, entry, end, entry_of, record_at, on_done, record_and_rest, readings, records_from, buttons_of, touches_of}

-- the offset past a record, and n where there is none
abbrev past : ℕ → Answer Entry → ℕ
past n (done (entry r next)) = next
past n (done end) = n
past n (refused k o) = n

-- ---- a record lies within the file

known-fits : (left at : ℕ) (k kind : Kind) (b₁ b₂ : Bool) → leb (header + payload_of k) left ≡ b₂
    → cond b₁ (cond b₂ (Ok (Some k)) (broken_head at)) (broken_head at) ≡ Ok (Some kind) → header + payload_of kind ≤ left
known-fits left at k kind true true q e =
    let same : k ≡ kind = cc in rw (ap payload_of same) at (leb-true (header + payload_of k) left q)
known-fits left at k kind true false q e = let z : ◌≡◌ {A = ℕ} 0 1 = cc in absurd (omega arith)
known-fits left at k kind false b₂ q e = let z : ◌≡◌ {A = ℕ} 0 1 = cc in absurd (omega arith)

found-fits : (found : Result Kind UnknownKind) (len left at : ℕ) (kind : Kind) → whole_of found len left at ≡ Ok (Some kind) → header + payload_of kind ≤ left
unfolding whole_of
found-fits (Ok k) len left at kind e = known-fits left at k kind (eqb len (payload_of k)) (leb (header + payload_of k) left) refl e
found-fits (Err u) len left at kind e = let z : ◌≡◌ {A = ℕ} 0 1 = cc in absurd (omega arith)

module _ (file : List ℕ) (at : ℕ) (kind : Kind) where
  fits_by : (b₁ b₂ b₃ : Bool) → ltb limit (length file) ≡ b₁ → leb (length file) at ≡ b₂
      → cond b₁ (broken_head 0) (cond b₂ (Ok None) (cond b₃ (broken_head at) (whole_of (kind_of (u16_at file (at + 2))) (u16_at file at) (length file - at) at))) ≡ Ok (Some kind)
      → (at + header + payload_of kind ≤ length file) × (length file ≤ limit)
  fits_by true b₂ b₃ q₁ q₂ e = let z : ◌≡◌ {A = ℕ} 0 1 = cc in absurd (omega arith)
  fits_by false true b₃ q₁ q₂ e = let z : ◌≡◌ {A = ℕ} 0 1 = cc in absurd (omega arith)
  fits_by false false true q₁ q₂ e = let z : ◌≡◌ {A = ℕ} 0 1 = cc in absurd (omega arith)
  fits_by false false false q₁ q₂ e =
      let l = ltb-false limit (length file) q₁ in
      let m = leb-false (length file) at q₂ in
      let f = found-fits (kind_of (u16_at file (at + 2))) (u16_at file at) (length file - at) at kind e in
      omega arith

  pub whole-within : head_at file at ≡ Ok (Some kind) → (at + header + payload_of kind ≤ length file) × (length file ≤ limit)
  unfolding head_at
  whole-within e = fits_by (ltb limit (length file)) (leb (length file) at) (ltb (length file - at) header) refl refl e

-- what reading a record says, for a head that is any of the three
entry-within : (file : List ℕ) (at : ℕ) (r : Record) (next : ℕ) (head : Result (Option Kind) Broken) → head_at file at ≡ head → entry_of file at head ≡ done (entry r next)
    → (at < next) × (next ≤ length file) × (length file ≤ limit)
unfolding entry_of
entry-within file at r next (Ok (Some kind)) q e =
    let h = whole-within file at kind q in
    let n : at + header + payload_of kind ≡ next = ap (past 0) e in
    omega arith
entry-within file at r next (Ok None) q e = let z : ◌≡◌ {A = ℕ} 0 1 = cc in absurd (omega arith)
entry-within file at r next (Err o) q e = let z : ◌≡◌ {A = ℕ} 0 1 = cc in absurd (omega arith)

pub record_within : (file : List ℕ) (at : ℕ) (r : Record) (next : ℕ) → record_at file at ≡ done (entry r next)
    → (at < next) × (next ≤ length file) × (length file ≤ limit)
unfolding record_at
record_within file at r next e = entry-within file at r next (head_at file at) refl e

-- ---- the records from an offset on

-- readings that agree past a record agree at it
further : (f g : ℕ → Answer (List Record)) (file : List ℕ) (at : ℕ) (a : Answer Entry) → record_at file at ≡ a
    → ((next : ℕ) → at < next → next ≤ length file → f next ≡ g next) → record_and_rest f a ≡ record_and_rest g a
unfolding record_and_rest
further f g file at (done (entry r next)) e h =
    let w = record_within file at r next e in
    ap (on_done (λ rs. r ∷ rs)) (h next w.0 w.1)
further f g file at (done end) e h = refl
further f g file at (refused c o) e h = refl

-- any number of readings above that of the bytes left comes to the same
enough : (n m : ℕ) (file : List ℕ) (at : ℕ) → length file - at < n → length file - at < m → readings n file at ≡ readings m file at
unfolding readings
enough zero m file at h k = absurd (omega arith)
enough (suc n) zero file at h k = absurd (omega arith)
enough (suc n) (suc m) file at h k =
    further (readings n file) (readings m file) file at (record_at file at) refl
    (λ next a b. enough n m file next (omega arith) (omega arith))

-- the record that stands at an offset, then the records from the offset past it on
pub records_follow : (file : List ℕ) (at : ℕ) → records_from file at ≡ record_and_rest (records_from file) (record_at file at)
unfolding records_from readings
records_follow file at =
    further (readings (length file - at) file) (records_from file) file at (record_at file at) refl
    (λ next a b. enough (length file - at) (suc (length file - next)) file next (omega arith) (omega arith))

pub head_follow : (file : List ℕ) (at : ℕ) (head : Result (Option Kind) Broken) → head_at file at ≡ head → records_from file at ≡ record_and_rest (records_from file) (entry_of file at head)
unfolding record_at
head_follow file at head e = records_follow file at ∙ ap (λ (h : Result (Option Kind) Broken). record_and_rest (records_from file) (entry_of file at h)) e

-- ---- how many bytes the records take

unfoldable pub bytes_of : Record → ℕ
bytes_of (ButtonRecord b) = 52
bytes_of (TouchRecord p) = 12

pub bytes-least : (r : Record) → 12 ≤ bytes_of r
unfolding bytes_of
bytes-least (ButtonRecord b) = omega arith
bytes-least (TouchRecord p) = omega arith

content_bytes : (kind : Kind) (file : List ℕ) (at : ℕ) → header + payload_of kind ≡ bytes_of (content_at kind file at)
unfolding payload_of content_at bytes_of
content_bytes button file at = refl
content_bytes touch file at = refl

entry-bytes : (file : List ℕ) (at : ℕ) (r : Record) (next : ℕ) (head : Result (Option Kind) Broken) → entry_of file at head ≡ done (entry r next) → next ≡ at + bytes_of r
unfolding entry_of
entry-bytes file at r next (Ok (Some kind)) e =
    let n : at + header + payload_of kind ≡ next = ap (past 0) e in
    let same : content_at kind file (at + header) ≡ r = cc in
    let b = content_bytes kind file (at + header) ∙ ap bytes_of same in
    omega arith
entry-bytes file at r next (Ok None) e = let z : ◌≡◌ {A = ℕ} 0 1 = cc in absurd (omega arith)
entry-bytes file at r next (Err o) e = let z : ◌≡◌ {A = ℕ} 0 1 = cc in absurd (omega arith)

pub record_bytes : (file : List ℕ) (at : ℕ) (r : Record) (next : ℕ) → record_at file at ≡ done (entry r next) → next ≡ at + bytes_of r
unfolding record_at
record_bytes file at r next e = entry-bytes file at r next (head_at file at) e

unfoldable pub bytes_of_all : List Record → ℕ
bytes_of_all rs = 52 * length (buttons_of rs) + 12 * length (touches_of rs)

one_more : (r : Record) (rs : List Record) → bytes_of_all (r ∷ rs) ≡ bytes_of r + bytes_of_all rs
unfolding bytes_of bytes_of_all buttons_of touches_of
one_more (ButtonRecord b) rs = omega arith
one_more (TouchRecord p) rs = omega arith

behind_fit : (file : List ℕ) (at : ℕ) (r : Record) (next : ℕ) (rs : List Record) (x : Answer (List Record)) → record_at file at ≡ done (entry r next)
    → ((ss : List Record) → x ≡ done ss → bytes_of_all ss ≤ length file - next) → on_done (λ ss. r ∷ ss) x ≡ done rs → bytes_of_all rs ≤ length file - at
unfolding on_done
behind_fit file at r next rs (done ss) e h q =
    let same : r ∷ ss ≡ rs = cc in
    let b = sym (one_more r ss) ∙ ap bytes_of_all same in
    let l = h ss refl in
    let n = record_bytes file at r next e in
    let w = record_within file at r next e in
    omega arith
behind_fit file at r next rs (refused n o) e h q = let z : ◌≡◌ {A = ℕ} 0 1 = cc in absurd (omega arith)

none_fit : (n : ℕ) (rs : List Record) → done [] ≡ done rs → bytes_of_all rs ≤ n
unfolding bytes_of_all buttons_of touches_of
none_fit n rs q = let same : [] ≡ rs = cc in let b : 0 ≡ bytes_of_all rs = ap bytes_of_all same in omega arith

follow_fit : (f : ℕ → Answer (List Record)) (file : List ℕ) (at : ℕ) (rs : List Record) (a : Answer Entry) → record_at file at ≡ a
    → ((next : ℕ) (ss : List Record) → f next ≡ done ss → bytes_of_all ss ≤ length file - next) → record_and_rest f a ≡ done rs → bytes_of_all rs ≤ length file - at
unfolding record_and_rest
follow_fit f file at rs (done (entry r next)) e h q = behind_fit file at r next rs (f next) e (h next) q
follow_fit f file at rs (done end) e h q = none_fit (length file - at) rs q
follow_fit f file at rs (refused c o) e h q = let z : ◌≡◌ {A = ℕ} 0 1 = cc in absurd (omega arith)

readings_fit : (n : ℕ) (file : List ℕ) (at : ℕ) (rs : List Record) → readings n file at ≡ done rs → bytes_of_all rs ≤ length file - at
unfolding readings
readings_fit zero file at rs q = none_fit (length file - at) rs q
readings_fit (suc n) file at rs q = follow_fit (readings n file) file at rs (record_at file at) refl (λ next ss. readings_fit n file next ss) q

-- the records from an offset on lie behind it
pub records_fit : (file : List ℕ) (at : ℕ) (rs : List Record) → records_from file at ≡ done rs → bytes_of_all rs ≤ length file - at
unfolding records_from
records_fit file at rs q = readings_fit (suc (length file - at)) file at rs q

-- a good file is not too long
short_by : (file : List ℕ) (at : ℕ) (rs : List Record) (b : Bool) → ltb limit (length file) ≡ b → records_from file at ≡ done rs → length file ≤ limit
unfolding head_at entry_of record_and_rest
short_by file at rs true e q =
    let r : records_from file at ≡ refused 7 0 = head_follow file at (broken_head 0) (rw e) in
    let z : ◌≡◌ {A = ℕ} 0 1 = cc in
    absurd (omega arith)
short_by file at rs false e q = ltb-false limit (length file) e

pub good_short : (file : List ℕ) (at : ℕ) (rs : List Record) → records_from file at ≡ done rs → length file ≤ limit
good_short file at rs q = short_by file at rs (ltb limit (length file)) refl q

-- the same as a record, where the head was read
pub record Inside (file : List ℕ) (at : ℕ) (kind : Kind) : Type 0 where
  pub past : at + header + payload_of kind ≤ length file
  pub short : length file ≤ limit

pub head_within : (file : List ℕ) (at : ℕ) (kind : Kind) (head : Result (Option Kind) Broken) → head ≡ head_at file at → head ≡ Ok (Some kind) → Inside file at kind
head_within file at kind head e q = let w = whole-within file at kind (sym e ∙ q) in record { past = w.0; short = w.1 }
