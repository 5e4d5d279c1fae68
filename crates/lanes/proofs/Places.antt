-- Lists that agree with a relation place by place.
use Rattle.std.proofs.Common.{◌≡◌, Bool, true, false, ◌&&◌, ap, map, length, All, slice_index_or, ℕ, zero, suc, ◌<◌, ◌+◌, List, [], ◌∷◌, refl, ◌≤◌, subst, sym, ◌∙◌}
use Rattle.std.specs.List.{AllZip, list_all}
use Rattle.std.specs.Simd.Lanes.{zip2}
use Rattle.std.specs.Array.{IsFromFnResultFrom}
use Rattle.std.specs.Fn.{Called, Mut}
use Rattle.std.proofs.Math.Nat.{eq-or-lt_of_le}
use Rattle.std.proofs.Math.Logic.{◌⊎◌, inl, inr}
use Rattle.std.proofs.lemmas.Simd.{splat_is_map, map-map}
use Rattle.std.specs.Prelude.{replicate}
use Rattle.ieee.proofs.Tests.{both}
use native.Mathlib.Omega.{arith}

pub AllZip-from_at : {A B : Type 0} (R : A → B → Type 0) (xs : List A) (ys : List B) → length xs ≡ length ys → ((i : ℕ) (d : A) (e : B) → i < length ys → R (slice_index_or xs i d) (slice_index_or ys i e)) → AllZip R xs ys
AllZip-from_at R [] [] l at = tt
AllZip-from_at R [] (y ∷ ys) l at = absurd (omega arith)
AllZip-from_at R (x ∷ xs) [] l at = absurd (omega arith)
AllZip-from_at R (x ∷ xs) (y ∷ ys) l at = (at 0 x y (omega arith), AllZip-from_at R xs ys (omega arith) (λ i d e h. at (suc i) d e (omega arith)))

pub map-from_AllZip : {A B : Type 0} (R : A → B → Type 0) (g : A → B) → ((a : A) (b : B) → R a b → b ≡ g a) → (xs : List A) (ys : List B) → AllZip R xs ys → ys ≡ map g xs
map-from_AllZip R g k [] [] z = refl
map-from_AllZip R g k [] (y ∷ ys) z = elim z [ ]
map-from_AllZip R g k (x ∷ xs) [] z = elim z [ ]
map-from_AllZip R g k (x ∷ xs) (y ∷ ys) z = rw (k x y z.0, map-from_AllZip R g k xs ys z.1)

pub zip2-from_at : {A B C : Type 0} (g : A → B → C) → (xs : List A) (ys : List B) (zs : List C) → length xs ≡ length zs → length ys ≡ length zs → ((i : ℕ) (d : A) (e : B) (f : C) → i < length zs → slice_index_or zs i f ≡ g (slice_index_or xs i d) (slice_index_or ys i e)) → zs ≡ zip2 g xs ys
zip2-from_at g [] [] [] l m at = refl
zip2-from_at g (x ∷ xs) (y ∷ ys) (z ∷ zs) l m at = let rest = zip2-from_at g xs ys zs (omega arith) (omega arith) (λ i d e f h. at (suc i) d e f (omega arith)) in rw (at 0 x y z (omega arith), rest)
zip2-from_at g [] ys (z ∷ zs) l m at = absurd (omega arith)
zip2-from_at g (x ∷ xs) [] (z ∷ zs) l m at = absurd (omega arith)
zip2-from_at g (x ∷ xs) ys [] l m at = absurd (omega arith)
zip2-from_at g [] (y ∷ ys) [] l m at = absurd (omega arith)

-- Where a call of f at each index leaves f as it is, and R holds of the index and what the call gave, R holds of each element.
pub each-from_calls : {F B : Type 0} (g : Mut F (ℕ × Unit {0}) B) (f : F) (R : ℕ → B → Type 0) → ((i : ℕ) (y : B) (q : F) → Called g f (i, tt) y q → (q ≡ f) × R i y) → (ys : List B) (i n : ℕ) → IsFromFnResultFrom g f ys i n → (j : ℕ) (e : B) → i ≤ j → j < i + n → R j (slice_index_or ys j e)
each-from_calls g f R k ys i zero r j e l h = absurd (omega arith)
each-from_calls g f R k ys i (suc n) (q, y, at, called, rest) j e l h = first_or_later (eq-or-lt_of_le l) (λ later. each-from_calls g f R k ys (i + 1) n (subst (λ p. IsFromFnResultFrom g p ys (i + 1) n) (k i y q called).0 rest) j e (omega arith) (omega arith))
  where
    first_or_later : (i ≡ j) ⊎ (i < j) → (i < j → R j (slice_index_or ys j e)) → R j (slice_index_or ys j e)
    first_or_later (inl same) r = subst (λ m. R m (slice_index_or ys m e)) same (subst (R i) (sym (at.1 e)) (k i y q called).1)
    first_or_later (inr later) r = r later

pub ap₃ : {A B C D : Type 0} (f : A → B → C → D) {a b : A} {c d : B} {e g : C} → a ≡ b → c ≡ d → e ≡ g → f a c e ≡ f b d g
ap₃ f p q r = rw (p, q, r)

-- ---- a list made place by place from xs

pub map-equal : {A B : Type 0} (f g : A → B) → ((a : A) → f a ≡ g a) → (xs : List A) → map f xs ≡ map g xs
map-equal f g k [] = refl
map-equal f g k (x ∷ xs) = rw (k x, map-equal f g k xs)

pub replicate-map : {A B : Type 0} (y : B) (f : A → B) → ((a : A) → y ≡ f a) → (xs : List A) (n : ℕ) → length xs ≡ n → replicate n y ≡ map f xs
replicate-map y f k xs n l = splat_is_map xs n y l ∙ map-equal (λ _. y) f k xs

pub zip2-over_map : {A B C : Type 0} (f : B → A → C) (g : A → B) (h : A → C) → ((a : A) → f (g a) a ≡ h a) → (xs : List A) → zip2 f (map g xs) xs ≡ map h xs
zip2-over_map f g h k [] = refl
zip2-over_map f g h k (x ∷ xs) = rw (k x, zip2-over_map f g h k xs)

-- the same, of lists that were made one after the other
pub map-of_map : {A B C : Type 0} (f : B → C) (g : A → B) (xs : List A) (ys : List B) (zs : List C) → ys ≡ map g xs → zs ≡ map f ys → zs ≡ map (λ (x : A). f (g x)) xs
map-of_map f g xs ys zs e d = d ∙ rw e (map-map f g xs)

pub zip2-of_map_left : {A B C : Type 0} (f : B → A → C) (g : A → B) (h : A → C) → ((a : A) → f (g a) a ≡ h a) → (xs : List A) (ys : List B) (zs : List C) → ys ≡ map g xs → zs ≡ zip2 f ys xs → zs ≡ map h xs
zip2-of_map_left f g h k xs ys zs e d = d ∙ rw e (zip2-over_map f g h k xs)

zip2-with_map : {A B C : Type 0} (f : A → B → C) (g : A → B) (h : A → C) → ((a : A) → f a (g a) ≡ h a) → (xs : List A) → zip2 f xs (map g xs) ≡ map h xs
zip2-with_map f g h k [] = refl
zip2-with_map f g h k (x ∷ xs) = rw (k x, zip2-with_map f g h k xs)

pub zip2-of_map_right : {A B C : Type 0} (f : A → B → C) (g : A → B) (h : A → C) → ((a : A) → f a (g a) ≡ h a) → (xs : List A) (ys : List B) (zs : List C) → ys ≡ map g xs → zs ≡ zip2 f xs ys → zs ≡ map h xs
zip2-of_map_right f g h k xs ys zs e d = d ∙ rw e (zip2-with_map f g h k xs)

pub map-along_AllZip : {A B C : Type 0} (R : A → B → Type 0) (h : B → C) (k : A → C) → ((a : A) (b : B) → R a b → h b ≡ k a) → (xs : List A) (ys : List B) → AllZip R xs ys → map h ys ≡ map k xs
map-along_AllZip R h k r [] [] z = refl
map-along_AllZip R h k r [] (y ∷ ys) z = elim z [ ]
map-along_AllZip R h k r (x ∷ xs) [] z = elim z [ ]
map-along_AllZip R h k r (x ∷ xs) (y ∷ ys) z = rw (r x y z.0, map-along_AllZip R h k r xs ys z.1)

-- ---- two lists place by place

pub zip2-of_maps : {A B C D E : Type 0} (f : C → D → E) (g : A → C) (h : B → D) (xs : List A) (ys : List B) → zip2 f (map g xs) (map h ys) ≡ zip2 (λ (x : A) (y : B). f (g x) (h y)) xs ys
zip2-of_maps f g h [] ys = refl
zip2-of_maps f g h (x ∷ xs) [] = refl
zip2-of_maps f g h (x ∷ xs) (y ∷ ys) = rw (zip2-of_maps f g h xs ys)

pub map-of_zip2 : {A B C D : Type 0} (f : C → D) (g : A → B → C) (xs : List A) (ys : List B) → map f (zip2 g xs ys) ≡ zip2 (λ (x : A) (y : B). f (g x y)) xs ys
map-of_zip2 f g [] ys = refl
map-of_zip2 f g (x ∷ xs) [] = refl
map-of_zip2 f g (x ∷ xs) (y ∷ ys) = rw (map-of_zip2 f g xs ys)

-- where a test of each two says yes, f and g agree there, and P holds of the first
pub zip2-agree : {A B C : Type 0} (p : A → B → Bool) (f g : A → B → C) → ((a : A) (b : B) → p a b ≡ true → f a b ≡ g a b) → (xs : List A) (ys : List B) → list_all (λ (b : Bool). b) (zip2 p xs ys) ≡ true → zip2 f xs ys ≡ zip2 g xs ys
zip2-agree p f g k [] ys e = refl
zip2-agree p f g k (x ∷ xs) [] e = refl
zip2-agree p f g k (x ∷ xs) (y ∷ ys) e =
    let t = both (p x y) (list_all (λ (b : Bool). b) (zip2 p xs ys)) e in
    rw (k x y t.0, zip2-agree p f g k xs ys t.1)

pub All-one : {A : Type 0} (P : A → Type 0) (a : A) → P a → All P (a ∷ [])
All-one P a p zero d h = p
All-one P a p (suc i) d h = absurd (omega arith)

-- where a test of each says yes, f and g agree there
pub map-agree : {A B : Type 0} (p : A → Bool) (f g : A → B) → ((a : A) → p a ≡ true → f a ≡ g a) → (xs : List A) → list_all p xs ≡ true → map f xs ≡ map g xs
map-agree p f g k [] e = refl
map-agree p f g k (x ∷ xs) e = let t = both (p x) (list_all p xs) e in rw (k x t.0, map-agree p f g k xs t.1)

-- ---- tests of all

pub all_and : {A : Type 0} (p q : A → Bool) (xs : List A) → (list_all p xs && list_all q xs) ≡ list_all (λ (x : A). p x && q x) xs
all_and p q [] = refl
all_and p q (x ∷ xs) = moved (p x) (q x) (list_all p xs) (list_all q xs) ∙ ap (λ (r : Bool). (p x && q x) && r) (all_and p q xs)
  where
    moved : (a b c d : Bool) → ((a && c) && (b && d)) ≡ ((a && b) && (c && d))
    moved false b c d = refl
    moved true true c d = refl
    moved true false true d = refl
    moved true false false d = refl

-- r of each two at the same place, where r follows from what each list passes
pub all_pairs : {A B : Type 0} (p : A → Bool) (q : B → Bool) (r : A → B → Bool) → ((a : A) (b : B) → p a ≡ true → q b ≡ true → r a b ≡ true) → (xs : List A) (ys : List B) → list_all p xs ≡ true → list_all q ys ≡ true → list_all (λ (b : Bool). b) (zip2 r xs ys) ≡ true
all_pairs p q r k [] ys d e = refl
all_pairs p q r k (x ∷ xs) [] d e = refl
all_pairs p q r k (x ∷ xs) (y ∷ ys) d e =
    let first = both (p x) (list_all p xs) d in
    let second = both (q y) (list_all q ys) e in
    rw (k x y first.0 second.0) (all_pairs p q r k xs ys first.1 second.1)

-- a list of four, place by place
pub four_lanes : {A : Type 0} (d : A) (xs : List A) → length xs ≡ 4 → xs ≡ slice_index_or xs 0 d ∷ slice_index_or xs 1 d ∷ slice_index_or xs 2 d ∷ slice_index_or xs 3 d ∷ []
four_lanes d [] e = absurd (omega arith)
four_lanes d (v ∷ []) e = absurd (omega arith)
four_lanes d (v ∷ w ∷ []) e = absurd (omega arith)
four_lanes d (v ∷ w ∷ x ∷ []) e = absurd (omega arith)
four_lanes d (v ∷ w ∷ x ∷ y ∷ []) e = refl
four_lanes d (v ∷ w ∷ x ∷ y ∷ z ∷ xs) e = absurd (omega arith)
