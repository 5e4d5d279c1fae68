-- What the functions for other languages answer beside the refusals' numbers. Definitions only.
use Rattle.std.specs.Prelude.{ℕ}

-- a slice that is lent has the wrong length
abbrev pub wrong_length : ℕ
wrong_length = 100

-- there is nothing to answer: a box of no points, a touch that goes nowhere
abbrev pub none : ℕ
none = 101
