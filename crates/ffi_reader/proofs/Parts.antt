-- What floats leave that are stored one by one: they are put at the start. Assumes nothing.
use Rattle.std.proofs.Common.{◌≡◌, ℕ, zero, suc, ◌≤◌, ◌<◌, List, [], ◌∷◌, ◌++◌, Float, length, take, drop, refl, ap, ◌∙◌, arith}
use lib.ListN.{get_or, set}
use lib.Ieee.{nan}
use Rattle.stream.specs.Stream.{put}

-- a part over the start of a list, float by float
unfoldable pub over : List Float → List Float → List Float
over l [] = l
over [] (a ∷ p) = []
over (x ∷ l) (a ∷ p) = a ∷ over l p

over_is : (l p : List Float) → length p ≤ length l → p ++ drop (length p) l ≡ over l p
unfolding over
over_is l [] h = refl
over_is [] (a ∷ p) h = absurd (omega (arith, h))
over_is (x ∷ l) (a ∷ p) h = ap (λ (r : List Float). a ∷ r) (over_is l p (omega (arith, h)))

pub over_more : (l p : List Float) (i : ℕ) → i < length p → length p ≤ length l → set (over l (take i p)) i (get_or p i nan) ≡ over l (take (suc i) p)
unfolding over
over_more l [] i h room = absurd (omega (arith, h))
over_more [] (a ∷ p) i h room = absurd (omega (arith, room))
over_more (x ∷ l) (a ∷ p) zero h room = refl
over_more (x ∷ l) (a ∷ p) (suc i) h room = ap (λ (r : List Float). a ∷ r) (over_more l p i (omega (arith, h)) (omega (arith, room)))

pub put_over : (l p : List Float) → length p ≤ length l → put l 0 p ≡ over l p
unfolding put
put_over l p h = ap (λ (n : ℕ). p ++ drop n l) (omega arith) ∙ over_is l p h
