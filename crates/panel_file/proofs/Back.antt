-- What is written is read back. Assumes nothing.
use mathlib.Core.Path.{◌≡◌, refl, sym, ap, ap₂, ◌∙◌}
use mathlib.Core.List.{List, [], ◌∷◌, ◌++◌, append_assoc, append-nil}
use Prim.Native.Nat.{ℕ, ◌+◌, ◌-◌, ◌*◌, ◌/◌, ◌%◌, ◌^◌, ◌≤◌, ◌<◌}
use native.Mathlib.Nat.{add_assoc, add-zero}
use native.Mathlib.Omega.{arith}
use lib.Ieee.{Float, binary32, of_bits, to_bits}
use lib.Ieee.Bits.{of_bits-to_bits, to_bits-lt}
use lib.ListN.{length, take, drop, get_or, length-append}
use lib.Seq.{length-take-le}
use borrow.Author.Tests.{eq-eqb, le-leb, lt-leb, le-ltb}
use Rattle.std.specs.Int.{w32, to_le_bytes}
use Rattle.std.proofs.lemmas.List.{take_more, get_or-take, get_or-append-add, get_or_append_left}
use Rattle.std.proofs.Common.{Some, Ok}
use Rattle.geometry.specs.declared.Point.{Point}
use Rattle.panel_file.specs.Bytes.{u16_at, u32_at, f32_at, point_at, u16_bytes, f32_bytes, point_bytes, points_bytes}
use Rattle.panel_file.specs.declared.Kind.{Kind}
use Rattle.panel_file.specs.declared.Kind.TheVariants.{Button as button, Touch as touch}
use Rattle.panel_file.specs.declared.Button.{Button}
use Rattle.panel_file.specs.declared.Record.{Record}
use Rattle.panel_file.specs.declared.Record.TheVariants.{Button as ButtonRecord, Touch as TouchRecord}
use Rattle.panel_file.specs.Panel.{done, limit, header, kind_number, kind_of, payload_of, kind_of_record, points_of, button_at, content_at, whole_of, head_at, entry, entry_of, record_at}
use Rattle.stream.specs.Stream.{put}
use Rattle.stream.proofs.Put.{put-after}
use Rattle.panel_file.specs.Writing.{record_bytes, end_of, IsSingle, HasSingles}

-- the bytes bs stand in l, from an offset on
abbrev Has : List ℕ → ℕ → List ℕ → Type 0
Has l at bs = (i : ℕ) → i < length bs → get_or l (at + i) 0 ≡ get_or bs i 0

has_front : (l : List ℕ) (at : ℕ) (xs ys : List ℕ) → Has l at (xs ++ ys) → Has l at xs
has_front l at xs ys h i k = h i (omega (arith, k, length-append xs ys)) ∙ get_or_append_left xs ys 0 i k

has_rest : (l : List ℕ) (at after : ℕ) (xs ys : List ℕ) → after ≡ at + length xs → Has l at (xs ++ ys) → Has l after ys
has_rest l at after xs ys e h i k =
    ap (λ (j : ℕ). get_or l j 0) (ap (λ (j : ℕ). j + i) e ∙ add_assoc at (length xs) i)
    ∙ h (length xs + i) (omega (arith, k, length-append xs ys))
    ∙ get_or-append-add xs ys i 0

-- ---- numbers, floats and points

u16_read : (l : List ℕ) (at n : ℕ) → n < 2 ^ 16 → Has l at (u16_bytes n) → u16_at l at ≡ n
unfolding u16_at u16_bytes
u16_read l at n b h =
    let h₀ : get_or l at 0 ≡ n % 256 = ap (λ (j : ℕ). get_or l j 0) (sym (add-zero at)) ∙ h 0 (omega arith) in
    let h₁ : get_or l (at + 1) 0 ≡ n / 256 % 256 = h 1 (omega arith) in
    omega arith

u32_read : (l : List ℕ) (at n : ℕ) → n < 2 ^ 32 → Has l at (to_le_bytes w32 n) → u32_at l at ≡ n
unfolding u32_at u16_at
u32_read l at n b h =
    let h₀ : get_or l at 0 ≡ n % 256 = ap (λ (j : ℕ). get_or l j 0) (sym (add-zero at)) ∙ h 0 (omega arith) in
    let h₁ : get_or l (at + 1) 0 ≡ n / 256 % 256 = h 1 (omega arith) in
    let h₂ : get_or l (at + 2) 0 ≡ n / 65536 % 256 = h 2 (omega arith) in
    let h₃ : get_or l (at + 2 + 1) 0 ≡ n / 16777216 % 256 = ap (λ (j : ℕ). get_or l j 0) (omega arith) ∙ h 3 (omega arith) in
    omega arith

f32_read : (l : List ℕ) (at : ℕ) (x : Float) → IsSingle x → Has l at (f32_bytes x) → f32_at l at ≡ x
unfolding f32_at f32_bytes
f32_read l at x s h = ap (of_bits binary32) (u32_read l at (to_bits binary32 x) (to_bits-lt binary32 x s) h) ∙ of_bits-to_bits binary32 x s

point_read : (l : List ℕ) (at : ℕ) (p : Point) → IsSingle p.x × IsSingle p.y → Has l at (point_bytes p) → point_at l at ≡ p
unfolding point_at point_bytes f32_bytes
point_read l at p s h =
    ap₂ (λ (x y : Float). record { x = x; y = y })
    (f32_read l at p.x s.0 (has_front l at (f32_bytes p.x) (f32_bytes p.y) h))
    (f32_read l (at + 4) p.y s.1 (has_rest l at (at + 4) (f32_bytes p.x) (f32_bytes p.y) refl h))

-- ---- a payload

length-point : (p : Point) → length (point_bytes p) ≡ 8
unfolding point_bytes f32_bytes
length-point p = refl

length-points : (ps : List Point) → length (points_bytes ps) ≡ 8 * length ps
unfolding points_bytes
length-points [] = refl
length-points (p ∷ ps) = omega (arith, length-append (point_bytes p) (points_bytes ps), length-point p, length-points ps)

-- one point more
last_point : (ps : List Point) (p : Point) → points_bytes (ps ++ p ∷ []) ≡ points_bytes ps ++ point_bytes p
unfolding points_bytes
last_point [] p = append-nil (point_bytes p)
last_point (q ∷ ps) p = ap (λ (x : List ℕ). point_bytes q ++ x) (last_point ps p) ∙ sym (append_assoc (point_bytes q) (points_bytes ps) (point_bytes p))

pub point_put : (file f : List ℕ) (at next i : ℕ) (ps : List Point) (d : Point) → at + 8 * length ps ≤ length file → i < length ps → next ≡ at + 8 * i
    → f ≡ put file at (points_bytes (take i ps)) → put f next (point_bytes (get_or ps i d)) ≡ put file at (points_bytes (take (i + 1) ps))
point_put file f at next i ps d e k n h =
    let so_far : length (points_bytes (take i ps)) ≡ 8 * i = omega (arith, length-points (take i ps), length-take-le i ps (omega (arith, k))) in
    put-after file f at next (points_bytes (take i ps)) (point_bytes (get_or ps i d)) (omega (arith, e)) (omega (arith, n, so_far)) h
    ∙ ap (put file at) (sym (ap points_bytes (take_more ps i d k) ∙ last_point (take i ps) (get_or ps i d)))

-- past the first of some points
next_has : (l : List ℕ) (at after : ℕ) (p : Point) (ps : List Point) → after ≡ at + 8 → Has l at (points_bytes (p ∷ ps)) → Has l after (points_bytes ps)
unfolding points_bytes
next_has l at after p ps e h = has_rest l at after (point_bytes p) (points_bytes ps) (omega (arith, e, length-point p)) h

first_read : (l : List ℕ) (at : ℕ) (p : Point) (ps : List Point) → IsSingle p.x × IsSingle p.y → Has l at (points_bytes (p ∷ ps)) → point_at l at ≡ p
unfolding points_bytes
first_read l at p ps s h = point_read l at p s (has_front l at (point_bytes p) (points_bytes ps) h)

button_read : (l : List ℕ) (at : ℕ) (b : Button) → HasSingles (ButtonRecord b) → Has l at (points_bytes (points_of (ButtonRecord b))) → button_at l at ≡ b
unfolding button_at
button_read l at b s h₀ =
    let h₁ = next_has l at (at + 8) b.min _ refl h₀ in
    let h₂ = next_has l (at + 8) (at + 16) b.max _ (omega arith) h₁ in
    let h₃ = next_has l (at + 16) (at + 24) b.top_left _ (omega arith) h₂ in
    let h₄ = next_has l (at + 24) (at + 32) b.top_right _ (omega arith) h₃ in
    let h₅ = next_has l (at + 32) (at + 40) b.bottom_left _ (omega arith) h₄ in
    rw (
      first_read l at b.min _ s.0 h₀,
      first_read l (at + 8) b.max _ s.1.0 h₁,
      first_read l (at + 16) b.top_left _ s.1.1.0 h₂,
      first_read l (at + 24) b.top_right _ s.1.1.1.0 h₃,
      first_read l (at + 32) b.bottom_left _ s.1.1.1.1.0 h₄,
      first_read l (at + 40) b.bottom_right _ s.1.1.1.1.1.0 h₅,
    )

content_read : (l : List ℕ) (at : ℕ) (r : Record) → HasSingles r → Has l at (points_bytes (points_of r)) → content_at (kind_of_record r) l at ≡ r
unfolding content_at kind_of_record
content_read l at (ButtonRecord b) s h = ap ButtonRecord (button_read l at b s h)
content_read l at (TouchRecord p) s h = ap TouchRecord (first_read l at p [] s.0 h)

-- ---- a record

kind_read : (k : Kind) → kind_of (kind_number k) ≡ Ok k
unfolding kind_of kind_number
kind_read button = refl
kind_read touch = refl

kind_short : (k : Kind) → kind_number k < 2 ^ 16
unfolding kind_number
kind_short button = omega arith
kind_short touch = omega arith

pub payload_short : (k : Kind) → payload_of k < 2 ^ 16
unfolding payload_of
payload_short button = omega arith
payload_short touch = omega arith

length-payload : (r : Record) → length (points_bytes (points_of r)) ≡ payload_of (kind_of_record r)
unfolding points_bytes point_bytes f32_bytes payload_of kind_of_record
length-payload (ButtonRecord b) = refl
length-payload (TouchRecord p) = refl

-- a record's bytes are put one part behind the other
pub parts_put : (file f g h : List ℕ) (at : ℕ) (r : Record) → end_of at r ≤ length file
    → f ≡ put file at (u16_bytes (payload_of (kind_of_record r))) → g ≡ put f (at + 2) (u16_bytes (kind_number (kind_of_record r)))
    → h ≡ put g (at + header) (points_bytes (points_of r)) → h ≡ put file at (record_bytes r)
unfolding record_bytes u16_bytes
parts_put file f g h at r e p q s =
    let k = kind_of_record r in
    let both = q ∙ put-after file f at (at + 2) (u16_bytes (payload_of k)) (u16_bytes (kind_number k)) (omega (arith, e)) refl p in
    s ∙ put-after file g at (at + header) (u16_bytes (payload_of k) ++ u16_bytes (kind_number k)) (points_bytes (points_of r)) (omega (arith, e)) refl both

pub length-record : (r : Record) → length (record_bytes r) ≡ header + payload_of (kind_of_record r)
unfolding record_bytes u16_bytes
length-record r = omega (arith, length-payload r)

-- what stands at an offset where the bytes of a record are
module _ (l : List ℕ) (at : ℕ) (r : Record) (h : Has l at (record_bytes r)) where
  abbrev kind : Kind
  kind = kind_of_record r

  abbrev len_bytes : List ℕ
  len_bytes = u16_bytes (payload_of kind)

  abbrev kind_bytes : List ℕ
  kind_bytes = u16_bytes (kind_number kind)

  abbrev payload_bytes : List ℕ
  payload_bytes = points_bytes (points_of r)

  header_has : Has l at (len_bytes ++ kind_bytes)
  unfolding record_bytes
  header_has = has_front l at (len_bytes ++ kind_bytes) payload_bytes h

  payload_has : Has l (at + header) payload_bytes
  unfolding record_bytes u16_bytes
  payload_has = has_rest l at (at + header) (len_bytes ++ kind_bytes) payload_bytes refl h

  kind_has : Has l (at + 2) kind_bytes
  unfolding u16_bytes
  kind_has = has_rest l at (at + 2) len_bytes kind_bytes refl header_has

  len_is : u16_at l at ≡ payload_of kind
  len_is = u16_read l at (payload_of kind) (payload_short kind) (has_front l at len_bytes kind_bytes header_has)

  kind_is : kind_of (u16_at l (at + 2)) ≡ Ok kind
  kind_is = ap kind_of (u16_read l (at + 2) (kind_number kind) (kind_short kind) kind_has) ∙ kind_read kind

  module _ (inside : end_of at r ≤ length l) (short : length l ≤ limit) where
    head_is : head_at l at ≡ Ok (Some kind)
    unfolding head_at whole_of
    head_is = rw (
      le-ltb limit (length l) short,
      lt-leb (length l) at (omega (arith, inside)),
      le-ltb (length l - at) header (omega (arith, inside)),
      kind_is,
      len_is,
      eq-eqb (payload_of kind) (payload_of kind) refl,
      le-leb (header + payload_of kind) (length l - at) (omega (arith, inside)),
    )

    pub record_read : HasSingles r → record_at l at ≡ done (entry r (end_of at r))
    unfolding record_at entry_of
    record_read s = rw (head_is, content_read l (at + header) r s payload_has)

-- ---- what is written stands there

pub front_has : (front bs rest : List ℕ) → Has ((front ++ bs) ++ rest) (length front) bs
front_has front bs rest i k =
    ap (λ (l : List ℕ). get_or l (length front + i) 0) (append_assoc front bs rest)
    ∙ get_or-append-add front (bs ++ rest) i 0
    ∙ get_or_append_left bs rest 0 i k

pub put_has : (file : List ℕ) (at : ℕ) (bs : List ℕ) → at ≤ length file → Has (put file at bs) at bs
unfolding put
put_has file at bs e i k =
    let front : length (take at file) ≡ at = length-take-le at file e in
    let rest = drop (at + length bs) file in
    ap (λ (j : ℕ). get_or ((take at file ++ bs) ++ rest) (j + i) 0) (sym front)
    ∙ front_has (take at file) bs rest i k

pub take_has : (l : List ℕ) (at n : ℕ) (bs : List ℕ) → at + length bs ≤ n → Has l at bs → Has (take n l) at bs
take_has l at n bs e h i k = get_or-take n l (at + i) 0 (omega (arith, k, e)) ∙ h i k
