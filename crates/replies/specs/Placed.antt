-- The lines that replay_paths and replay_triangles write, put into a buffer text by text, each whole or not at all. Definitions only.
use Rattle.std.specs.Prelude.{ℕ, ◌^◌, ◌<◌, List, [], ◌∷◌}
use Rattle.geometry.specs.declared.Point.{Point}
use Rattle.stream.specs.declared.Builder.{Builder}
use Rattle.reader.specs.declared.Cursor.{Cursor}
use Rattle.reader.specs.declared.Rect.{Rect}
use Rattle.reader.specs.declared.Segment.{Segment}
use Rattle.reader.specs.declared.Segment.TheVariants as segment
use Rattle.text.specs.Written.{put_text, past_text, decimal_text, hexadecimal_text, single_text}
use Rattle.replies.specs.declared.Reply.{Reply}
use Rattle.replies.specs.declared.Reply.TheVariants.{Element, Read, Record, End, Empty, Box, Done, Worded, Yes, No, Refused, Malformed, BadLine}
use Rattle.replies.specs.Replies.{blank, move_text, line_text, quad_text, cubic_text, close_text, end_text, next_text, record_text, empty_text, box_text, ok_text, word_text, one_text, zero_text, refused_text, malformed_text, bad_text}

-- a buffer, and the index to write at
pub record Written : Type 0 where
  pub at : ℕ
  pub buffer : List ℕ

abbrev pub written : ℕ → List ℕ → Written
written n l = record { at = n; buffer = l }

-- a text more, whole or not at all
infixl 20 ◌▸◌
unfoldable pub ◌▸◌ : Written → List ℕ → Written
w ▸ t = written (past_text w.buffer w.at t) (put_text w.buffer w.at t)

-- the end of a line
abbrev pub newline : List ℕ
newline = 10 ∷ []

-- ---- what a line is made of

unfoldable pub put_counts : Written → ℕ → ℕ → Written
put_counts w a b = w ▸ blank ▸ decimal_text a ▸ blank ▸ decimal_text b

unfoldable pub put_point : Written → Point → Written
put_point w p = w ▸ blank ▸ single_text p.x ▸ blank ▸ single_text p.y

unfoldable pub put_segment : Written → Segment → Written
put_segment w (segment.Move p) = put_point (w ▸ move_text) p
put_segment w (segment.Line p) = put_point (w ▸ line_text) p
put_segment w (segment.Quad p q) = put_point (put_point (w ▸ quad_text) p) q
put_segment w (segment.Cubic p q r) = put_point (put_point (put_point (w ▸ cubic_text) p) q) r
put_segment w segment.Close = w ▸ close_text
put_segment w segment.End = w ▸ end_text

-- a segment and the next cursor
unfoldable pub put_next : Written → Segment → Cursor → Written
put_next w s c = put_counts (put_segment w s ▸ next_text) c.verb c.point

unfoldable pub put_record : Written → Builder → Written
put_record w b = put_point (put_point (put_counts (w ▸ record_text) b.verbs b.points) b.start) b.pen

unfoldable pub put_done : Written → Builder → Written
put_done w b = put_counts (w ▸ ok_text) b.verbs b.points

unfoldable pub put_numbered : Written → List ℕ → ℕ → Written
put_numbered w name k = w ▸ name ▸ decimal_text k

unfoldable pub put_box : Written → Rect → Written
put_box w b = put_point (put_point (w ▸ box_text) b.min) b.max

unfoldable pub put_worded : Written → Builder → ℕ → Written
put_worded w b joints = put_done w b ▸ word_text ▸ hexadecimal_text joints

-- ---- a line

unfoldable pub put_reply : Written → Reply → Written
put_reply w (Element s) = put_segment w s
put_reply w (Read s c) = put_next w s c
put_reply w (Record b) = put_record w b
put_reply w End = w ▸ end_text
put_reply w Empty = w ▸ empty_text
put_reply w (Box r) = put_box w r
put_reply w (Done b) = put_done w b
put_reply w (Worded b joints) = put_worded w b joints
put_reply w Yes = w ▸ one_text
put_reply w No = w ▸ zero_text
put_reply w (Refused n) = put_numbered w refused_text n
put_reply w (Malformed v) = put_numbered w malformed_text v
put_reply w (BadLine n) = put_numbered w bad_text n

unfoldable pub put_line : Written → Reply → Written
put_line w reply = put_reply w reply ▸ newline

-- the numbers are of 64 bits, as those of every reply are
unfoldable pub Small : Reply → Type 0
Small (Read s c) = (c.verb < 2 ^ 64) × (c.point < 2 ^ 64)
Small (Record b) = (b.verbs < 2 ^ 64) × (b.points < 2 ^ 64)
Small (Done b) = (b.verbs < 2 ^ 64) × (b.points < 2 ^ 64)
Small (Worded b joints) = (b.verbs < 2 ^ 64) × (b.points < 2 ^ 64)
Small (Refused n) = n < 2 ^ 64
Small (Malformed n) = n < 2 ^ 64
Small (BadLine n) = n < 2 ^ 64
Small r = Unit {0}
