-- h is Horner's values of the coefficients that were taken, which stand behind those that are left.
use Rattle.std.proofs.Common.{◌≡◌, ◌<◌, ◌++◌, List, length, map}
use Rattle.std.specs.Prelude.{Float}
use Rattle.std.specs.Float.{binary64}
use Rattle.series.specs.Horner.{horner_of}
use Rattle.series.proofs.horner.Given as goal

abbrev pub invariant-loop-c : goal.invariant-loop-c
invariant-loop-c g l = (taken : List Float) × (l.cs ≡ l.c-iterator.iter.rest.now ++ taken) × (0 < length taken) × (l.h ≡ map (horner_of binary64 taken) l.z)
