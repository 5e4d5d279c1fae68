-- A loop over the reader is a fold over all that it reads.
use mathlib.Core.Path.{◌≡◌, refl, ap, ◌∙◌}
use mathlib.Core.List.{List}
use mathlib.Core.Bool.{false}
use Prim.Native.Nat.{ℕ, ◌+◌, ◌<◌, ◌≤◌}
use native.Mathlib.Omega.{arith}
use Rattle.stream.specs.declared.Element.{Element}
use Rattle.stream.specs.Stream.{State, bad_state}
use Rattle.reader.specs.declared.Cursor.{Cursor}
use Rattle.reader.specs.Reading.{Reading, ok, refused, Refusal, at_verb, Item, item, end, read_at, prepend, follow, read_from, fold, fold_read}
use Rattle.reader.proofs.Reader.{View, bad, past, malformed, found, view, read-from}

-- what a fold has after an item, and the cursor there
abbrev pub fold_item : {X : Type 0} → (X → Element → X) → X → Item → X
fold_item f x (item k d) = f x k
fold_item f x (end d) = x

abbrev pub next_of : Item → Cursor
next_of (item k d) = d
next_of (end d) = d

module _ {X : Type 0} (f : X → Element → X) (x : X) (s : State) (c : Cursor) where
  prepended : (k : Element) (a : Reading (List Element)) → fold_read f x (prepend k a) ≡ fold_read f (f x k) a
  unfolding fold
  prepended k (ok ks) = refl
  prepended k (refused r) = refl

  follow-fold : Reading Item → Reading X
  follow-fold (ok (item k d)) = fold_read f (f x k) (read_from s d)
  follow-fold (ok (end d)) = ok x
  follow-fold (refused r) = refused r

  fold_go : (a : Reading Item) → fold_read f x (follow a (λ k d. prepend k (read_from s d))) ≡ follow-fold a
  unfolding follow-fold fold
  fold_go (ok (item k d)) = prepended k (read_from s d)
  fold_go (ok (end d)) = refl
  fold_go (refused r) = refl

  fold-read : fold_read f x (read_from s c) ≡ follow-fold (read_at s c)
  fold-read = ap (fold_read f x) (read-from s c) ∙ fold_go (read_at s c)

  -- a turn of the loop, where a verb is left
  turn_go : (a : Reading Item) → View s c a → (i : Item) → a ≡ ok i → c.verb < s.builder.verbs → follow-fold a ≡ fold_read f (fold_item f x i) (read_from s (next_of i))
  unfolding follow-fold
  turn_go _ (bad e) i q h = let z : ◌≡◌ {A = ℕ} 0 1 = cc in absurd (omega arith)
  turn_go _ (past e l) i q h = absurd (omega arith)
  turn_go _ (malformed e l) i q h = let z : ◌≡◌ {A = ℕ} 0 1 = cc in absurd (omega arith)
  turn_go _ (found e l m n) (item k d) q h = ap follow-fold q
  turn_go _ (found e l m n) (end d) q h = let z : ◌≡◌ {A = ℕ} 0 1 = cc in absurd (omega arith)

  pub fold_turn : (i : Item) → read_at s c ≡ ok i → c.verb < s.builder.verbs → fold_read f x (read_from s c) ≡ fold_read f (fold_item f x i) (read_from s (next_of i))
  fold_turn i q h = fold-read ∙ turn_go (read_at s c) (view s c) i q h

  -- the loop's end, where none is left
  past_go : (a : Reading Item) → View s c a → bad_state s ≡ false → s.builder.verbs ≤ c.verb → follow-fold a ≡ ok x
  unfolding follow-fold
  past_go _ (bad e) g h = let z : ◌≡◌ {A = ℕ} 0 1 = cc in absurd (omega arith)
  past_go _ (past e l) g h = refl
  past_go _ (malformed e l) g h = absurd (omega arith)
  past_go _ (found e l m n) g h = absurd (omega arith)

  pub fold-past : bad_state s ≡ false → s.builder.verbs ≤ c.verb → fold_read f x (read_from s c) ≡ ok x
  fold-past g h = fold-read ∙ past_go (read_at s c) (view s c) g h

  -- a refusal stops it
  pub fold-refused : (r : Refusal) → read_at s c ≡ refused r → fold_read f x (read_from s c) ≡ refused r
  unfolding follow-fold
  fold-refused r q = fold-read ∙ ap follow-fold q

-- a turn goes one verb on
next_go : (s : State) (c : Cursor) (a : Reading Item) → View s c a → (i : Item) → a ≡ ok i → c.verb < s.builder.verbs → (next_of i).verb ≡ c.verb + 1
next_go s c _ (bad e) i q h = let z : ◌≡◌ {A = ℕ} 0 1 = cc in absurd (omega arith)
next_go s c _ (past e l) i q h = absurd (omega arith)
next_go s c _ (malformed e l) i q h = let z : ◌≡◌ {A = ℕ} 0 1 = cc in absurd (omega arith)
next_go s c _ (found e l m n) (item k d) q h = cc
next_go s c _ (found e l m n) (end d) q h = let z : ◌≡◌ {A = ℕ} 0 1 = cc in absurd (omega arith)

pub next_verb : (s : State) (c : Cursor) (i : Item) → read_at s c ≡ ok i → c.verb < s.builder.verbs → (next_of i).verb ≡ c.verb + 1
next_verb s c i q h = next_go s c (read_at s c) (view s c) i q h

-- past cause 1 a refusal is 6, at the cursor
refusal_go : (s : State) (c : Cursor) (a : Reading Item) → View s c a → (r : Refusal) → a ≡ refused r → bad_state s ≡ false → r ≡ at_verb 6 c.verb
refusal_go s c _ (bad e) r q g = let z : ◌≡◌ {A = ℕ} 0 1 = cc in absurd (omega arith)
refusal_go s c _ (past e l) r q g = let z : ◌≡◌ {A = ℕ} 0 1 = cc in absurd (omega arith)
refusal_go s c _ (malformed e l) r q g = cc
refusal_go s c _ (found e l m n) r q g = let z : ◌≡◌ {A = ℕ} 0 1 = cc in absurd (omega arith)

pub refusal_is : (s : State) (c : Cursor) (r : Refusal) → read_at s c ≡ refused r → bad_state s ≡ false → r ≡ at_verb 6 c.verb
refusal_is s c r q g = refusal_go s c (read_at s c) (view s c) r q g
