-- Tests that are joined: what each says where both say yes or none does. Assumes nothing.
use Rattle.std.proofs.Common.{◌≡◌, Bool, true, false, ◌&&◌, ◌||◌, sym, refl, true≢false}

pub both : (a b : Bool) → (a && b) ≡ true → (a ≡ true) × (b ≡ true)
both true true h = (refl, refl)
both true false h = absurd (true≢false (sym h))
both false b h = absurd (true≢false (sym h))

pub none_of_four : (a b c d : Bool) → (a || b || c || d) ≡ false → (a ≡ false) × (b ≡ false) × (c ≡ false) × (d ≡ false)
none_of_four true b c d e = absurd (true≢false e)
none_of_four false true c d e = absurd (true≢false e)
none_of_four false false true d e = absurd (true≢false e)
none_of_four false false false d e = (refl, refl, refl, e)
