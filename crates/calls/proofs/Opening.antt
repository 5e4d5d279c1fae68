-- Laws of the opening move, and of a close.
use mathlib.Core.Path.{◌≡◌, refl}
use mathlib.Core.List.{List, [], ◌∷◌, ◌++◌}
use mathlib.Core.Bool.{Bool, true, false}
use Prim.Native.Nat.{ℕ, zero, suc, ◌+◌, ◌-◌}
use native.Mathlib.Omega.{arith}
use lib.ListN.{length}
use lib.Dec.{eqb}
use borrow.Author.Tests.{eq-eqb, ne_eqb}
use Rattle.stream.specs.declared.Element.TheVariants.{Close}
use Rattle.stream.specs.Stream.{sizes_of, need_of}
use Rattle.conic_writer.specs.Entries.{Entry, plain, elements_of, pieces_in, joint_word}
use Rattle.calls.specs.Calls.{opening, closing, opened_need}

-- it has no piece
pub word-opened : (e : Bool) (es : List Entry) → joint_word (opening e ++ es) ≡ joint_word es
unfolding pieces_in
word-opened true es = refl
word-opened false es = refl

pub opened-need : (e : Bool) (es : List Entry) (v p : ℕ) → v ≡ length (elements_of es) → p ≡ sizes_of (elements_of es) → opened_need e v p ≡ need_of (elements_of (opening e ++ es))
unfolding elements_of sizes_of
opened-need true es v p hv hp =
    let ev : v + 1 ≡ suc (length (elements_of es)) = omega arith in
    let ep : p + 1 ≡ 1 + sizes_of (elements_of es) = omega arith in
    λ i. record { verbs = ev i; points = ep i }
opened-need false es v p hv hp = λ i. record { verbs = hv i; points = hp i }

-- how many elements it adds, as the code counts them
pub opening_count : (n : ℕ) → length (elements_of (opening (eqb n 0))) ≡ 1 - n
unfolding elements_of
opening_count zero = refl
opening_count (suc n) = rw (ne_eqb (suc n) 0 (λ e. omega arith)) (omega arith)

pub opening-size : (n : ℕ) → sizes_of (elements_of (opening (eqb n 0))) ≡ 1 - n
unfolding elements_of sizes_of
opening-size zero = refl
opening-size (suc n) = rw (ne_eqb (suc n) 0 (λ e. omega arith)) (omega arith)

-- a close
pub closing_empty : (n : ℕ) → n ≡ 0 → closing (eqb n 0) ≡ []
closing_empty n e = rw (eq-eqb n 0 e)

pub closing-held : (n : ℕ) → (n ≡ 0 → ⊥) → closing (eqb n 0) ≡ plain Close ∷ []
closing-held n e = rw (ne_eqb n 0 e)
