-- The four ways of reading at a cursor, and what follows for the segments that are read one after the other.
use mathlib.Core.Path.{◌≡◌, refl, ap, subst}
use mathlib.Core.Bool.{Bool, true, false}
use Prim.Native.Nat.{ℕ, suc, ◌+◌, ◌-◌, ◌≤◌, ◌<◌}
use native.Mathlib.Omega.{arith}
use lib.ListN.{get_or}
use lib.Dec.{leb, ltb}
use borrow.Author.Tests.{leb-true, leb-false, ltb-true, ltb-false, le-leb, lt-leb, le-ltb, lt-ltb}
use Rattle.stream.specs.Stream.{State, point_count, bad_state}
use Rattle.reader.specs.declared.Cursor.{Cursor}
use Rattle.reader.specs.Reading.{Reading, ok, refused, with_record, at_verb, Item, item, end, cursor, element_at, read_at, prepend, follow, readings, read_from}

-- the byte at a cursor
abbrev pub byte_at : State → Cursor → ℕ
byte_at s c = get_or s.verbs c.verb 0

abbrev pub item_at : State → Cursor → Reading Item
item_at s c = ok (item (element_at (byte_at s c) s.floats c.point) (cursor (c.verb + 1) (c.point + point_count (byte_at s c))))

-- each way, with what holds there
pub data View (s : State) (c : Cursor) : Reading Item → Type 0 where
  bad : bad_state s ≡ true → View s c (refused (with_record 1 s.builder))
  past : bad_state s ≡ false → s.builder.verbs ≤ c.verb → View s c (ok (end c))
  malformed : bad_state s ≡ false → c.verb < s.builder.verbs → View s c (refused (at_verb 6 c.verb))
  found : bad_state s ≡ false → c.verb < s.builder.verbs → byte_at s c ≤ 4 → point_count (byte_at s c) ≤ s.builder.points - c.point → View s c (item_at s c)

module _ (s : State) (c : Cursor) where
  pub read-bad : bad_state s ≡ true → refused (with_record 1 s.builder) ≡ read_at s c
  unfolding read_at
  read-bad e = rw e

  pub read_past : bad_state s ≡ false → s.builder.verbs ≤ c.verb → ok (end c) ≡ read_at s c
  unfolding read_at
  read_past e h = rw (e, le-leb _ _ h)

  pub read-high : bad_state s ≡ false → c.verb < s.builder.verbs → 4 < byte_at s c → refused (at_verb 6 c.verb) ≡ read_at s c
  unfolding read_at
  read-high e h l = rw (e, lt-leb _ _ h, lt-ltb _ _ l)

  pub read_short : bad_state s ≡ false → c.verb < s.builder.verbs → byte_at s c ≤ 4 → s.builder.points - c.point < point_count (byte_at s c) → refused (at_verb 6 c.verb) ≡ read_at s c
  unfolding read_at
  read_short e h l k = rw (e, lt-leb _ _ h, le-ltb _ _ l, lt-ltb _ _ k)

  pub read_found : bad_state s ≡ false → c.verb < s.builder.verbs → byte_at s c ≤ 4 → point_count (byte_at s c) ≤ s.builder.points - c.point → item_at s c ≡ read_at s c
  unfolding read_at
  read_found e h l k = rw (e, lt-leb _ _ h, le-ltb _ _ l, le-ltb _ _ k)

  view_go : (b₁ b₂ b₃ b₄ : Bool) → bad_state s ≡ b₁ → leb s.builder.verbs c.verb ≡ b₂ → ltb 4 (byte_at s c) ≡ b₃ → ltb (s.builder.points - c.point) (point_count (byte_at s c)) ≡ b₄ → View s c (read_at s c)
  view_go true b₂ b₃ b₄ e₁ e₂ e₃ e₄ = subst (View s c) (read-bad e₁) (bad e₁)
  view_go false true b₃ b₄ e₁ e₂ e₃ e₄ = let h = leb-true _ _ e₂ in subst (View s c) (read_past e₁ h) (past e₁ h)
  view_go false false true b₄ e₁ e₂ e₃ e₄ = let h = leb-false _ _ e₂ in subst (View s c) (read-high e₁ h (ltb-true _ _ e₃)) (malformed e₁ h)
  view_go false false false true e₁ e₂ e₃ e₄ = let h = leb-false _ _ e₂ in subst (View s c) (read_short e₁ h (ltb-false _ _ e₃) (ltb-true _ _ e₄)) (malformed e₁ h)
  view_go false false false false e₁ e₂ e₃ e₄ =
      let h = leb-false _ _ e₂ in
      let l = ltb-false _ _ e₃ in
      let k = ltb-false _ _ e₄ in
      subst (View s c) (read_found e₁ h l k) (found e₁ h l k)

  pub view : View s c (read_at s c)
  view = view_go _ _ _ _ refl refl refl refl

  -- the elements from a cursor on are the one that is read there and those from the next cursor on
  from_go : (a : Reading Item) → View s c a → follow a (λ k d. prepend k (readings (s.builder.verbs - c.verb) s d)) ≡ follow a (λ k d. prepend k (read_from s d))
  from_go _ (bad e) = refl
  from_go _ (past e h) = refl
  from_go _ (malformed e h) = refl
  from_go _ (found e h l k) =
      let n : s.builder.verbs - c.verb ≡ suc (s.builder.verbs - (c.verb + 1)) = omega arith in
      ap (λ (x : ℕ). prepend (element_at (byte_at s c) s.floats c.point) (readings x s (cursor (c.verb + 1) (c.point + point_count (byte_at s c))))) n

  pub read-from : read_from s c ≡ follow (read_at s c) (λ k d. prepend k (read_from s d))
  unfolding readings
  read-from = from_go (read_at s c) view
