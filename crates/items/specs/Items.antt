-- What a line of the input of replay_paths asks for (docs/REPLAY.md). A line is the list of its bytes. Definitions
-- only.
use Rattle.std.specs.Prelude.{ℕ, Bool, ◌||◌, List, length, get_or, nat_le, nat_lt, Float, Option, Some, None, Result, Ok, Err, if◌then◌else◌, ◌==◌, codes}
use Rattle.std.specs.Float.{nan}
use Rattle.std.specs.Str.{bytes_eq}
use Rattle.stream.specs.declared.Verb.TheVariants as verb
use Rattle.stream.specs.Stream.{verb_text}
use Rattle.geometry.specs.declared.Point.{Point}
use Rattle.text.specs.Numbers.{number_of}
use Rattle.text.specs.Words.{first_word, after_word}
use Rattle.operands.specs.Operands.{operands_of, point_at, bounds_of, radii_of}
use Rattle.outline.specs.declared.BuildingCall.TheVariants.{MoveTo, LineTo, QuadTo, ConicTo, CubicTo, Close}
use Rattle.items.specs.declared.BadLine.{BadLine}
use Rattle.items.specs.declared.Item.{Item}
use Rattle.items.specs.declared.Item.TheVariants.{Buffers, Build, Outline, Record, Raw, Verbs, Floats, At, Box, Contains}

-- what is said of a line that asks for nothing that there is
abbrev pub bad_line_text : List ℕ
bad_line_text = codes "bad line"

-- ---- the names

abbrev pub buffers_text : List ℕ
buffers_text = codes "buffers"

abbrev pub raw_text : List ℕ
raw_text = codes "raw"

abbrev pub cursor_text : List ℕ
cursor_text = codes "cursor"

abbrev pub record_text : List ℕ
record_text = codes "record"

abbrev pub verbs_text : List ℕ
verbs_text = codes "verbs"

abbrev pub floats_text : List ℕ
floats_text = codes "floats"

abbrev pub close_text : List ℕ
close_text = verb_text verb.Close

abbrev pub box_text : List ℕ
box_text = codes "box"

abbrev pub move_text : List ℕ
move_text = verb_text verb.Move

abbrev pub line_text : List ℕ
line_text = verb_text verb.Line

abbrev pub quad_text : List ℕ
quad_text = verb_text verb.Quad

abbrev pub conic_text : List ℕ
conic_text = codes "conic"

abbrev pub cubic_text : List ℕ
cubic_text = verb_text verb.Cubic

abbrev pub outline_text : List ℕ
outline_text = codes "outline"

abbrev pub contains_text : List ℕ
contains_text = codes "contains"

-- ---- a line behind its name

-- whether a line has a word
unfoldable pub has_words : List ℕ → Bool
has_words s = nat_lt 0 (length (first_word s))

-- two whole numbers, or none
unfoldable pub pair_of : Option ℕ → Option ℕ → Option (ℕ × ℕ)
pair_of (Some a) (Some b) = Some (a, b)
pair_of (Some a) None = None
pair_of None second = None

-- the first two words
unfoldable pub counts_of : List ℕ → Option (ℕ × ℕ)
counts_of s = pair_of (number_of 10 (first_word s)) (number_of 10 (first_word (after_word s)))

-- `buffers V F`, `raw V P`, else `cursor V P`
unfoldable pub from_counts : List ℕ → Option (ℕ × ℕ) → Option Item
from_counts name (Some (a, b)) =
    if bytes_eq name buffers_text then Some (Buffers a b)
    else (if bytes_eq name raw_text then Some (Raw a b)
    else Some (At record { verb = a; point = b }))
from_counts name None = None

unfoldable pub of_counts : List ℕ → List ℕ → Option Item
of_counts name s = if has_words (after_word (after_word s)) then None else from_counts name (counts_of s)

-- `record V P`, start, pen
unfoldable pub from_record : Option (List Float) → Option (ℕ × ℕ) → Option Item
from_record (Some x) (Some (v, p)) =
    if length x == 4
    then Some (Record record { verbs = v; points = p; start = point_at x 0; pen = point_at x 2 })
    else None
from_record (Some x) None = None
from_record None counts = None

unfoldable pub of_record : List ℕ → Option Item
of_record s = from_record (operands_of (after_word (after_word s))) (counts_of s)

-- `close` and `box`
unfoldable pub of_name : List ℕ → Option Item
of_name name =
    if bytes_eq name close_text then Some (Build Close)
    else (if bytes_eq name box_text then Some Box
    else None)

-- `move x y` and `line x y`
unfoldable pub of_two : List ℕ → Point → Option Item
of_two name p =
    if bytes_eq name move_text then Some (Build (MoveTo p))
    else (if bytes_eq name line_text then Some (Build (LineTo p))
    else None)

-- `quad` with 4 floats, `conic` with 5, else `cubic`
unfoldable pub of_four : List ℕ → List Float → Option Item
of_four name x =
    let p = point_at x 0 in
    let q = point_at x 2 in
    if length x == 4 then (if bytes_eq name quad_text then Some (Build (QuadTo p q)) else None)
    else (if length x == 5
    then (if bytes_eq name conic_text then Some (Build (ConicTo p q (get_or x 4 nan))) else None)
    else (if bytes_eq name cubic_text then Some (Build (CubicTo p q (point_at x 4))) else None))

-- `outline` with 12 floats, `contains` with 14
unfoldable pub of_shape : List ℕ → List Float → Option Item
of_shape name x =
    if length x == 12 then (if bytes_eq name outline_text then Some (Outline (bounds_of x) (radii_of x)) else None)
    else (if length x == 14
    then (if bytes_eq name contains_text then Some (Contains (bounds_of x) (radii_of x) (point_at x 12)) else None)
    else None)

-- by the number of the floats
unfoldable pub of_floats : List ℕ → List Float → Option Item
of_floats name x =
    if length x == 0 then of_name name
    else (if length x == 2 then of_two name (point_at x 0)
    else (if nat_lt (length x) 4 then None else (if nat_le (length x) 6 then of_four name x else of_shape name x)))

unfoldable pub from_floats : List ℕ → Option (List Float) → Option Item
from_floats name (Some x) = of_floats name x
from_floats name None = None

unfoldable pub has_counts : List ℕ → Bool
has_counts name = bytes_eq name buffers_text || bytes_eq name raw_text || bytes_eq name cursor_text

unfoldable pub of_words : List ℕ → List ℕ → Option Item
of_words name s =
    if has_counts name then of_counts name s
    else (if bytes_eq name record_text then of_record s
    else (if bytes_eq name verbs_text then (if has_words s then Some Verbs else None)
    else (if bytes_eq name floats_text then (if has_words s then Some Floats else None)
    else from_floats name (operands_of s))))

-- ---- a whole line

unfoldable pub item_or_bad_line : Option Item → Result (Option Item) BadLine
item_or_bad_line (Some item) = Ok (Some item)
item_or_bad_line None = Err record {}

unfoldable pub item_of : List ℕ → Result (Option Item) BadLine
item_of line = if has_words line then item_or_bad_line (of_words (first_word line) (after_word line)) else Ok None
