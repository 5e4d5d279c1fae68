use Rattle.ffi_path.proofs.Lending.{filled}
use Rattle.ffi_path.specs.Lent.{counts_of, places_of}
use Rattle.ffi_path.proofs.store.Goals as goal

pub returns : goal.returns
unfolding counts_of places_of
returns c = record {
  counts = filled c.args.counts.now (counts_of c.args.w.builder c.args.w.word) c.requires.0;
  places = filled c.args.places.now (places_of c.args.w.builder) c.requires.1;
}
