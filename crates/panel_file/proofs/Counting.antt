-- Laws of the counts of records. Assumes nothing.
use mathlib.Core.Path.{◌≡◌, refl, sym, ap, ap₂}
use mathlib.Core.List.{List, [], ◌∷◌}
use Prim.Native.Nat.{ℕ, suc, ◌+◌}
use native.Mathlib.Nat.{zero-add, add-zero}
use native.Mathlib.Omega.{arith}
use lib.ListN.{length}
use Rattle.panel_file.specs.declared.Kind.{Kind}
use Rattle.panel_file.specs.declared.Kind.TheVariants.{Button as button, Touch as touch}
use Rattle.panel_file.specs.declared.Record.{Record}
use Rattle.panel_file.specs.declared.Counts.{Counts}
use Rattle.panel_file.specs.Panel.{Answer, done, refused, content_at, on_done, buttons_of, touches_of, counts_of, counts_with}

abbrev pub counts : ℕ → ℕ → Counts
counts b t = record { buttons = b; touches = t }

-- the counts of some records, on top of others
unfoldable pub plus : Counts → List Record → Counts
plus c rs = counts (c.buttons + length (buttons_of rs)) (c.touches + length (touches_of rs))

pub plus_none : (c : Counts) → plus c [] ≡ c
unfolding plus buttons_of touches_of
plus_none c = ap₂ counts (add-zero c.buttons) (add-zero c.touches)

pub plus_all : (rs : List Record) → counts_of rs ≡ plus (counts 0 0) rs
unfolding plus counts_of
plus_all rs = ap₂ counts (sym (zero-add (length (buttons_of rs)))) (sym (zero-add (length (touches_of rs))))

more : (a n : ℕ) → a + suc n ≡ a + 1 + n
more a n = omega arith

pub plus_one : (c : Counts) (kind : Kind) (file : List ℕ) (at : ℕ) (rs : List Record) → plus c (content_at kind file at ∷ rs) ≡ plus (counts_with c kind) rs
unfolding plus buttons_of touches_of content_at counts_with
plus_one c button file at rs = ap (λ (n : ℕ). counts n (c.touches + length (touches_of rs))) (more c.buttons (length (buttons_of rs)))
plus_one c touch file at rs = ap (counts (c.buttons + length (buttons_of rs))) (more c.touches (length (touches_of rs)))

pub one_more : (c : Counts) (kind : Kind) → (counts_with c kind).buttons + (counts_with c kind).touches ≡ c.buttons + c.touches + 1
unfolding counts_with
one_more c button = omega arith
one_more c touch = omega arith

-- two functions that agree, one after another function
pub on_done-after : {A B C : Type 0} (f : A → B) (g : B → C) (h : A → C) → ((a : A) → g (f a) ≡ h a) → (x : Answer A) → on_done g (on_done f x) ≡ on_done h x
unfolding on_done
on_done-after f g h e (done a) = ap done (e a)
on_done-after f g h e (refused n o) = refl

pub on_done_same : {A B : Type 0} (f g : A → B) → ((a : A) → f a ≡ g a) → (x : Answer A) → on_done f x ≡ on_done g x
unfolding on_done
on_done_same f g e (done a) = ap done (e a)
on_done_same f g e (refused n o) = refl
