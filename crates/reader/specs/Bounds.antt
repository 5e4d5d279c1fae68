-- The least box round the points of all segments, controls included: points not finite are passed over, and of equal
-- values the earlier stays (docs/SPECIFICATION.md, "Box"). Definitions only.
use Rattle.std.specs.Prelude.{List, [], ◌∷◌, Option, Some, None, Result, Ok, Err, if◌then◌else◌}
use Rattle.ieee.specs.Basic.{min_of, max_of}
use Rattle.geometry.specs.declared.Point.{Point}
use Rattle.geometry.specs.Point.{finite_point}
use Rattle.stream.specs.declared.Element.{Element}
use Rattle.reader.specs.declared.Segment.{Segment}
use Rattle.reader.specs.declared.Rect.{Rect}
use Rattle.reader.specs.declared.ReadError.{ReadError}
use Rattle.stream.specs.Stream.{State, points_of}
use Rattle.reader.specs.Reading.{Reading, ok, refused, refusal_of, Item, item, end, item_of, cursor, read_all, fold_read}

-- the box of the points seen, if any, with a finite one more
unfoldable pub widen_of : Option Rect → Point → Option Rect
widen_of None p = Some (record { min = p; max = p })
widen_of (Some r) p = Some (record {
  min = record { x = min_of r.min.x p.x; y = min_of r.min.y p.y };
  max = record { x = max_of r.max.x p.x; y = max_of r.max.y p.y };
})

unfoldable pub include_of : Option Rect → Point → Option Rect
include_of e p = if finite_point p then widen_of e p else e

unfoldable pub include_all : Option Rect → List Point → Option Rect
include_all e [] = e
include_all e (p ∷ ps) = include_all (include_of e p) ps

abbrev pub include_element : Option Rect → Element → Option Rect
include_element e k = include_all e (points_of k)

-- a segment that was read is an element, or the end, which has no points
abbrev pub include_item : Option Rect → Item → Option Rect
include_item e (item k d) = include_element e k
include_item e (end d) = e

unfoldable pub include_segment : Option Rect → Segment → Option Rect
include_segment e s = include_item e (item_of s (cursor 0 0))

unfoldable pub bounds_of : State → Reading (Option Rect)
bounds_of s = fold_read include_element None (read_all s)

abbrev pub bounds_reading : Result (Option Rect) ReadError → Reading (Option Rect)
bounds_reading (Ok x) = ok x
bounds_reading (Err e) = refused (refusal_of e)
