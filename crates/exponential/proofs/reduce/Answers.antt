use lib.Dec.{T}
use lib.Ieee.{Float, binary64, add, div}
use Rattle.exponential.specs.Exponential.{exp_of, within}
use Rattle.exponential.specs.Plain.{scaled_of}
use Rattle.ieee.specs.Binary64.{half}
use Rattle.exponential.specs.Constants.{ln2}
use Rattle.exponential.proofs.Ranges.{turns_within}
use Rattle.exponential.proofs.Scales.{whole_is, no_nan, scale_is, scale_no_nan}
use Rattle.exponential.proofs.reduce.Goals as goal
use Rattle.exponential.proofs.reduce.Goals.{Start}

-- t/LN2 + 0.5, which is within 1000 of 0
module _ (c : Start) where
  abbrev turns : Float
  turns = add binary64 (div binary64 c.args.t ln2) half

  near : T (within turns)
  near = turns_within c.args.t c.requires.0 c.requires.1 c.requires.2

pub float_to_bits-result : goal.float_to_bits-result
float_to_bits-result c = no_nan (turns c.before) (near c.before) c.biased_floor-w.result c.biased_floor-w.ensures

pub float_from_bits-result : goal.float_from_bits-result
float_from_bits-result c = scale_no_nan (turns c.before) (near c.before) c.biased_floor-w.result c.biased_floor-w.ensures

pub returns : goal.returns
unfolding scaled_of exp_of
returns c =
    let s = c.before in
    let g = whole_is (turns s) (near s) c.biased_floor-w.result c.biased_floor-w.ensures in
    let p = scale_is (turns s) (near s) c.biased_floor-w.result c.biased_floor-w.ensures in
    rw (s.requires.1, s.requires.2, p, ← g)

pub biased_floor-w-requires : goal.biased_floor-w-requires
biased_floor-w-requires c = near c
