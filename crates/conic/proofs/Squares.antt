-- A squared length fits its format and has no minus sign. Assumes nothing.
use Prim.Native.Nat.{ℕ}
use mathlib.Core.Bool.{true, false, not}
use lib.Dec.{T}
use lib.Ieee.{Format, Float, nan, inf, fin, binary32, round, sum, add, mul, fits}
use lib.Ieee.Fits.{add-fits}
use Rattle.ieee.proofs.Signs.{Up, up_round}
use Rattle.geometry.specs.declared.Point.{Point}
use Rattle.geometry.specs.Point.{length_squared_of}

-- a NaN, or a value with the sign plus
abbrev pub Unsigned : Float → Type 0
Unsigned nan = Unit {0}
Unsigned (inf s) = T (not s)
Unsigned (fin s m e) = T (not s)

unsigned : (x : Float) → Up x → Unsigned x
unsigned nan p = absurd p
unsigned (inf s) p = p
unsigned (fin s m e) p = p

round_unsigned : (f : Format) (n d : ℕ) → Unsigned (round f false n d)
round_unsigned f n d = unsigned (round f false n d) (up_round f n d)

square_unsigned : (f : Format) (x : Float) → Unsigned (mul f x x)
unfolding mul
square_unsigned f nan = tt
square_unsigned f (inf true) = tt
square_unsigned f (inf false) = tt
square_unsigned f (fin true m e) = round_unsigned f _ _
square_unsigned f (fin false m e) = round_unsigned f _ _

add_unsigned : (f : Format) (x y : Float) → Unsigned x → Unsigned y → Unsigned (add f x y)
unfolding add sum
add_unsigned f nan y p q = tt
add_unsigned f (inf s) nan p q = tt
add_unsigned f (inf true) (inf t) p q = absurd p
add_unsigned f (inf false) (inf true) p q = absurd q
add_unsigned f (inf false) (inf false) p q = tt
add_unsigned f (inf s) (fin t n d) p q = p
add_unsigned f (fin s m e) nan p q = tt
add_unsigned f (fin s m e) (inf t) p q = q
add_unsigned f (fin true m e) (fin t n d) p q = absurd p
add_unsigned f (fin false m e) (fin true n d) p q = absurd q
add_unsigned f (fin false m e) (fin false n d) p q = round_unsigned f _ _

pub squared_unsigned : (p : Point) → Unsigned (length_squared_of p)
unfolding length_squared_of
squared_unsigned p = add_unsigned binary32 (mul binary32 p.x p.x) (mul binary32 p.y p.y) (square_unsigned binary32 p.x) (square_unsigned binary32 p.y)

pub squared_fits : (p : Point) → T (fits binary32 (length_squared_of p))
unfolding length_squared_of
squared_fits p = add-fits binary32 (mul binary32 p.x p.x) (mul binary32 p.y p.y)
