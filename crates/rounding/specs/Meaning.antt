-- What it means that a value is a number rounded to a format, the format being a variable: of the format's values
-- none is nearer, and of two as near it is the one that ends in an even digit. There are no real numbers here: a
-- number is known by how it compares with fractions, every denominator multiplied out. Definitions only. Assumes
-- nothing.
use Rattle.std.specs.Prelude.{◌≡◌, ℕ, suc, ◌+◌, ◌-◌, ◌*◌, ◌%◌, ◌^◌, ◌≤◌, ◌<◌, Bool, true, false, T, Float}
use Rattle.std.specs.Float.{nan, inf, fin, Format}
use Rattle.std.specs.Float.Ieee.{prec, emax, unlike, fits, to_bits, ne}
use Rattle.std.specs.Float.Ieee.Positive.{num, den}
use Rattle.std.specs.Float.Ieee.Scale.{finite}

-- ---- numbers

-- A number v that is not negative: it compares with the fraction a / c, for a c above 0, as `left c` does with
-- `right a`.
pub record Number : Type 0 where
  pub left : ℕ → ℕ
  pub right : ℕ → ℕ

-- the fraction n / d, for a d above 0
abbrev pub fraction : ℕ → ℕ → Number
fraction n d = record { left = λ c. n * c; right = λ a. a * d }

-- the square root of n / d: both sides are squared
abbrev pub root : ℕ → ℕ → Number
root n d = record { left = λ c. n * (c * c); right = λ a. a * a * d }

-- v ≤ a / c
abbrev pub at_most : Number → ℕ → ℕ → Type 0
at_most v a c = v.left c ≤ v.right a

-- a / c ≤ v
abbrev pub at_least : Number → ℕ → ℕ → Type 0
at_least v a c = v.right a ≤ v.left c

-- v < a / c
abbrev pub below : Number → ℕ → ℕ → Type 0
below v a c = v.left c < v.right a

-- ---- the nearer of two

-- One number is no farther from v than another is: a / c, or -a / c where p is true, than b / c, or -b / c where q is
-- true.
unfoldable pub Closer : Number → Bool → ℕ → Bool → ℕ → ℕ → Type 0
-- on v's side of zero: v is on the nearer one's side of the middle, which is (a + b) / (2 * c)
Closer v false a false b c = (a < b → at_most v (a + b) (2 * c)) × (b < a → at_least v (a + b) (2 * c))
-- |v - a / c| ≤ v + b / c, so from v = (a - b) / (2 * c) on
Closer v false a true b c = at_least v (a - b) (2 * c)
-- v + a / c ≤ |v - b / c|, so up to v = (b - a) / (2 * c), or where both are 0
Closer v true a false b c = 0 < a + b → (a ≤ b) × at_most v (b - a) (2 * c)
-- v + a / c ≤ v + b / c
Closer v true a true b c = a ≤ b

-- How far x and y are apart, or x and -y where q is true. Where v is a fraction, `Closer` is the order of two such
-- distances: `closer_distance` of Meets.antt.
abbrev pub distance : Bool → ℕ → ℕ → ℕ
distance false x y = x - y + (y - x)
distance true x y = x + y

-- whether there is a minus sign, which a zero and an infinity have too
abbrev pub sign : Float → Bool
sign nan = false
sign (inf s) = s
sign (fin s m e) = s

-- Of two finite values, x is no farther than y is from the number with the size v and the sign s. p and q say which
-- of them has the other sign.
unfoldable pub Nearer : Number → Bool → Float → Float → Type 0
Nearer v s x y =
    let p = unlike s (sign x) in
    let q = unlike s (sign y) in
    Closer v p (num x * den y) q (num y * den x) (den x * den y)

-- ---- rounding

-- The largest finite value of a format is `prec` digits, each a 1; `last` is the unit of the last one.
abbrev pub last : Format → ℕ
last f = 2 ^ (suc (emax f) - prec f)

abbrev pub largest : Format → ℕ
largest f = (2 ^ prec f - 1) * last f

-- x is the number with the size v and the sign s, rounded to the format f
pub record Rounded (f : Format) (s : Bool) (v : Number) (x : Float) : Type 0 where
  -- x is a value of the format and has the sign s, also where it is a zero
  pub held : T (fits f x)
  pub signed : sign x ≡ s
  -- from the largest finite value and half a unit of its last digit on, that tie included, x is an infinity; below
  -- that it is finite, so it is never a NaN
  pub infinite : at_least v (2 * largest f + last f) 2 → x ≡ inf s
  pub bounded : below v (2 * largest f + last f) 2 → T (finite x)
  -- no finite value of the format, of either sign, is nearer than a finite x
  pub nearest : T (finite x) → (y : Float) → T (fits f y) → T (finite y) → Nearer v s x y
  -- where another number of the format is as near, x ends in an even digit: the lowest bit of its pattern is 0
  pub even :
      T (finite x) → (y : Float) → T (fits f y) → T (finite y) → T (ne x y) → Nearer v s y x → to_bits f x % 2 ≡ 0
