-- What the exported functions answer, case by case.
use mathlib.Core.Path.{◌≡◌, ◌∙◌}
use mathlib.Core.List.{List}
use Prim.Native.Nat.{ℕ}
use borrow.Author.Tests.{eq-eqb, ne_eqb}
use lib.ListN.{length}
use lib.Ieee.{Float}
use Rattle.geometry.specs.declared.Point.{Point}
use Rattle.std.proofs.Common.{Option, Some, None}
use Rattle.stream.specs.declared.Builder.{Builder}
use Rattle.stream.specs.declared.Need.{Need}
use Rattle.stream.specs.Stream.{is_empty, need_of}
use Rattle.conic_writer.specs.Entries.{elements_of}
use Rattle.calls.specs.declared.Call.TheVariants.{ConicTo}
use Rattle.calls.specs.Calls.{entries_of}
use Rattle.shape.specs.declared.RoundSuperellipse.{RoundSuperellipse}
use Rattle.outline_need.specs.Entries.{outline_entries}
use Rattle.ffi_shape.specs.Layout.{shape_at}
use Rattle.ffi_path.specs.Lent.{record_in, PathAnswer, path_answer}
use Rattle.ffi_path.proofs.Lending.{record_is, no_record}
use Rattle.ffi_outline.specs.Outlines.{outline_left, add_of, needed, numbers_of, outline_need_of, conic_need_of}

module _ (shape : List Float) (counts : List ℕ) (places : List Float) (vs : List ℕ) (fs : List Float) where
  pub no_shape : (length shape ≡ 89 → ⊥) → path_answer 100 counts places vs fs ≡ add_of shape counts places vs fs
  unfolding add_of
  no_shape h = rw (ne_eqb (length shape) 89 h)

  pub drawn : (l : PathAnswer) → length shape ≡ 89 → l ≡ outline_left shape counts places vs fs → l ≡ add_of shape counts places vs fs
  unfolding add_of
  drawn l e h = h ∙ rw (eq-eqb (length shape) 89 e)

pub outline_needs : (shape : List Float) (old : List ℕ) (s : RoundSuperellipse) (n : Need) (l : List ℕ) → length shape ≡ 89 → length old ≡ 2
    → s ≡ shape_at shape → n ≡ need_of (elements_of (outline_entries s)) → l ≡ numbers_of n → needed 0 l ≡ outline_need_of shape old
unfolding outline_need_of
outline_needs shape old s n l e f es en el = rw (eq-eqb (length shape) 89 e, eq-eqb (length old) 2 f, ← es, ← en, el)

module _ (counts : List ℕ) (places : List Float) (ctrl to : Point) (weight : Float) (old : List ℕ) (r : Option Builder) (e : length old ≡ 2) (loaded : r ≡ record_in counts places) where
  pub wrong_record : r ≡ None → needed 100 old ≡ conic_need_of counts places ctrl to weight old
  unfolding conic_need_of
  wrong_record h = rw (eq-eqb (length old) 2 e, no_record counts places r loaded h)

  pub conic_needs : (b : Builder) (n : Need) (l : List ℕ) → r ≡ Some b → n ≡ need_of (elements_of (entries_of (is_empty b) b.pen (ConicTo ctrl to weight))) → l ≡ numbers_of n
      → needed 0 l ≡ conic_need_of counts places ctrl to weight old
  unfolding conic_need_of
  conic_needs b n l h en el = let k = record_is counts places b r loaded h in rw (eq-eqb (length old) 2 e, k.fits, ← k.builder, ← en, el)
