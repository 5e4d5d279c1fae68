-- The seven calls are given by their entries.
use mathlib.Core.Path.{◌≡◌, refl}
use mathlib.Core.Bool.{true}
use Rattle.geometry.specs.declared.Point.{Point}
use Rattle.stream.specs.Stream.{State, is_empty}
use Rattle.conic_writer.specs.Entries.{elements_of}
use Rattle.calls.specs.Calls.{attempt}
use Rattle.outline.specs.declared.BuildingCall.{BuildingCall}
use Rattle.outline.specs.declared.BuildingCall.TheVariants.{MoveTo, LineTo, QuadTo, ConicTo, CubicTo, Close, AddTo}
use Rattle.outline.specs.Step.{entries_of, answers_word, step}
use Rattle.book.proofs.Given.{Opens, with_word_if, GivenByEntries}
use Rattle.building.proofs.Six.{six_step, six_opens, six_no_pen, outline_opens}

seven-given : (s : State) (c : BuildingCall) → step s c ≡ with_word_if (answers_word c) (attempt s (entries_of (is_empty s.builder) s.builder.pen c))
unfolding step entries_of
seven-given s (MoveTo a) = six_step s _
seven-given s (LineTo a) = six_step s _
seven-given s (QuadTo a b) = six_step s _
seven-given s (ConicTo a b w) = six_step s _
seven-given s (CubicTo a b c) = six_step s _
seven-given s Close = six_step s _
seven-given s (AddTo shape) = refl

seven_no_pen : (c : BuildingCall) (p q : Point) → entries_of true p c ≡ entries_of true q c
unfolding entries_of
seven_no_pen (MoveTo a) p q = six_no_pen _ p q
seven_no_pen (LineTo a) p q = six_no_pen _ p q
seven_no_pen (QuadTo a b) p q = six_no_pen _ p q
seven_no_pen (ConicTo a b w) p q = six_no_pen _ p q
seven_no_pen (CubicTo a b c) p q = six_no_pen _ p q
seven_no_pen Close p q = six_no_pen _ p q
seven_no_pen (AddTo shape) p q = refl

seven-opens : (c : BuildingCall) (p : Point) → Opens (elements_of (entries_of true p c))
unfolding entries_of
seven-opens (MoveTo a) p = six_opens _ p
seven-opens (LineTo a) p = six_opens _ p
seven-opens (QuadTo a b) p = six_opens _ p
seven-opens (ConicTo a b w) p = six_opens _ p
seven-opens (CubicTo a b c) p = six_opens _ p
seven-opens Close p = six_opens _ p
seven-opens (AddTo shape) p = outline_opens shape

pub seven : GivenByEntries step entries_of answers_word
seven = record { given = seven-given; no_pen = seven_no_pen; opens = seven-opens }
