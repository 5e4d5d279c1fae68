-- What is rounded from a fraction with the sign plus has that sign. Assumes nothing.
use Rattle.std.proofs.Common.{ℕ, zero, suc, ◌+◌, ◌*◌, ◌^◌, Bool, true, false, cond, not, T, ltb}
use lib.Ieee.{Format, prec, emax, low, Float, nan, inf, fin, odd, units, round}

-- x is not below 0, and no NaN
abbrev pub Up : Float → Type 0
Up nan = ⊥
Up (inf s) = T (not s)
Up (fin s m e) = T (not s)

up-odd : (d q k l : ℕ) → Up (odd d false q k l)
unfolding odd
up-odd d zero k l = tt
up-odd d (suc q) k l = tt

up-units : (f : Format) (q k : ℕ) → Up (units f false q k)
unfolding units
up-units f q k = go (ltb (q * 2 ^ k) (2 ^ (low f + suc (emax f))))
  where
    go : (b : Bool) → Up (cond b (odd (suc (prec f)) false q k (low f)) (inf false))
    go true = up-odd (suc (prec f)) q k (low f)
    go false = tt

pub up_round : (f : Format) (a c : ℕ) → Up (round f false a c)
unfolding round
up_round f a c = up-units f _ _
