-- The lines that replay_paths and replay_triangles write (docs/REPLAY.md), as lists of bytes. Definitions only.
use Rattle.std.specs.Prelude.{ℕ, List, ◌++◌, decimal, codes}
use Rattle.stream.specs.declared.Verb.TheVariants as verb
use Rattle.stream.specs.Stream.{verb_text}
use Rattle.geometry.specs.declared.Point.{Point}
use Rattle.reader.specs.declared.Segment.{Segment}
use Rattle.reader.specs.declared.Segment.TheVariants as segment
use Rattle.reader.specs.declared.ReadError.{ReadError}
use Rattle.reader.specs.declared.ReadError.TheVariants as read_error
use Rattle.text.specs.Written.{hexadecimal_text, single_text}
use Rattle.replies.specs.declared.Reply.{Reply}
use Rattle.replies.specs.declared.Reply.TheVariants.{Element, Read, Record, End, Empty, Box, Done, Worded, Yes, No, Refused, Malformed, BadLine}

-- ---- the fixed texts

abbrev pub blank : List ℕ
blank = codes " "

abbrev pub move_text : List ℕ
move_text = verb_text verb.Move

abbrev pub line_text : List ℕ
line_text = verb_text verb.Line

abbrev pub quad_text : List ℕ
quad_text = verb_text verb.Quad

abbrev pub cubic_text : List ℕ
cubic_text = verb_text verb.Cubic

abbrev pub close_text : List ℕ
close_text = verb_text verb.Close

abbrev pub end_text : List ℕ
end_text = codes "end"

abbrev pub next_text : List ℕ
next_text = codes " next"

abbrev pub record_text : List ℕ
record_text = codes "record"

abbrev pub empty_text : List ℕ
empty_text = codes "empty"

abbrev pub box_text : List ℕ
box_text = codes "box"

abbrev pub ok_text : List ℕ
ok_text = codes "ok"

abbrev pub word_text : List ℕ
word_text = codes " word "

abbrev pub one_text : List ℕ
one_text = codes "1"

abbrev pub zero_text : List ℕ
zero_text = codes "0"

abbrev pub refused_text : List ℕ
refused_text = codes "refused "

abbrev pub malformed_text : List ℕ
malformed_text = codes "refused 6 at "

abbrev pub bad_text : List ℕ
bad_text = codes "bad line "

-- ---- what a line is made of

unfoldable pub counts_text : ℕ → ℕ → List ℕ
counts_text a b = blank ++ decimal a ++ blank ++ decimal b

unfoldable pub point_text : Point → List ℕ
point_text p = blank ++ single_text p.x ++ blank ++ single_text p.y

unfoldable pub segment_text : Segment → List ℕ
segment_text (segment.Move p) = move_text ++ point_text p
segment_text (segment.Line p) = line_text ++ point_text p
segment_text (segment.Quad p q) = quad_text ++ point_text p ++ point_text q
segment_text (segment.Cubic p q r) = cubic_text ++ point_text p ++ point_text q ++ point_text r
segment_text segment.Close = close_text
segment_text segment.End = end_text

-- ---- a line

-- a segment and the next cursor; a record; the counts behind a call; a number behind its name
unfoldable pub reply_text : Reply → List ℕ
reply_text (Element s) = segment_text s
reply_text (Read s c) = segment_text s ++ next_text ++ counts_text c.verb c.point
reply_text (Record b) = record_text ++ counts_text b.verbs b.points ++ point_text b.start ++ point_text b.pen
reply_text End = end_text
reply_text Empty = empty_text
reply_text (Box r) = box_text ++ point_text r.min ++ point_text r.max
reply_text (Done b) = ok_text ++ counts_text b.verbs b.points
reply_text (Worded b joints) = ok_text ++ counts_text b.verbs b.points ++ word_text ++ hexadecimal_text joints
reply_text Yes = one_text
reply_text No = zero_text
reply_text (Refused n) = refused_text ++ decimal n
reply_text (Malformed v) = malformed_text ++ decimal v
reply_text (BadLine n) = bad_text ++ decimal n

-- the reply to a reading that is refused: a refusal 6 with its verb
abbrev pub refused_reply : ReadError → Reply
refused_reply (read_error.BadRecord b) = Refused 1
refused_reply (read_error.Malformed i) = Malformed i
