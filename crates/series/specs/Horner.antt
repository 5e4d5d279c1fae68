-- Horner's scheme, over a list of coefficients of any length and over any format. Definitions only.
use Rattle.std.specs.Prelude.{List, [], ◌∷◌, false, pos, Float}
use Rattle.std.specs.Float.{Format, fin}
use Rattle.std.specs.Float.Ieee.{add, mul}

-- The coefficients stand from c_0 up: begin with the last, and for each below it, down to c_0, multiply by z and add
-- it. The empty list has the value 0.
unfoldable pub horner_of : Format → List Float → Float → Float
horner_of f [] z = fin false 0 (pos 0)
horner_of f (c ∷ []) z = c
horner_of f (c ∷ d ∷ cs) z = add f (mul f (horner_of f (d ∷ cs) z) z) c
