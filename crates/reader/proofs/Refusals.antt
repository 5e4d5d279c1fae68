-- An answer of the reader that is no item is a refusal.
use mathlib.Core.Path.{◌≡◌, refl}
use Rattle.std.proofs.Common.{Result, Ok, Err}
use Rattle.reader.specs.declared.Segment.{Segment}
use Rattle.reader.specs.declared.Cursor.{Cursor}
use Rattle.reader.specs.declared.ReadError.{ReadError}
use Rattle.reader.specs.Reading.{Refusal, refused, refusal_of, reading_of}

pub record Refuses (x : Result (Segment × Cursor) ReadError) : Type 0 where
  pub refusal : Refusal
  pub is : reading_of x ≡ refused refusal

pub no_item : (x : Result (Segment × Cursor) ReadError) → ((i : Segment × Cursor) → x ≡ Ok i → ⊥) → Refuses x
no_item (Ok i) h = absurd (h i refl)
no_item (Err e) h = record { refusal = refusal_of e; is = refl }
