-- Where the buffer has room for the whole line, `put` leaves at its start the reply's text and the end of the line. Assumes nothing.
use Rattle.std.proofs.Common.{◌≡◌, ℕ, ◌+◌, ◌-◌, ◌^◌, ◌≤◌, ◌<◌, List, [], ◌∷◌, ◌++◌, length, take, drop, refl, sym, ap, ap₂, ◌∙◌, subst, arith, lit≤, append_assoc}
use borrow.Author.Tests.{le-leb}
use lib.ListN.{length-append, length-drop}
use lib.Seq.{take_at, drop_at, drop-drop}
use Rattle.geometry.specs.declared.Point.{Point}
use Rattle.reader.specs.declared.Segment.TheVariants as segment
use Rattle.std.specs.Prelude.{Float, decimal}
use Rattle.std.specs.Float.{binary32}
use Rattle.reader.specs.declared.Segment.{Segment}
use Rattle.text.specs.Written.{put_text, past_text, decimal_text, hexadecimal_text, bits_of, single_text}
use Rattle.text.proofs.Decimals.{decimal_is_text}
use Rattle.text.proofs.Placing.{decimal_text-most, hexadecimal_text-most, float_text-most}
use Rattle.replies.specs.declared.Reply.{Reply}
use Rattle.replies.specs.declared.Reply.TheVariants.{Element, Read, Record, End, Empty, Box, Done, Worded, Yes, No, Refused, Malformed, BadLine}
use Rattle.replies.specs.Placed.{Written, written, ◌▸◌, newline, put_counts, put_point, put_segment, put_next, put_record, put_done, put_numbered, put_box, put_worded, put_reply, put_line, Small}
use Rattle.replies.specs.Replies.{blank, move_text, line_text, quad_text, cubic_text, close_text, end_text, next_text, record_text, empty_text, box_text, ok_text, word_text, one_text, zero_text, refused_text, malformed_text, bad_text, counts_text, point_text, segment_text, reply_text}

-- a buffer that was l, with t at its start
abbrev pub begun : List ℕ → List ℕ → Written
begun l t = written (length t) (t ++ drop (length t) l)

one_more : (l t u : List ℕ) → length (t ++ u) ≤ length l → begun l t ▸ u ≡ begun l (t ++ u)
unfolding ◌▸◌ put_text past_text
one_more l t u h =
    let n : length (t ++ u) ≡ length t + length u = length-append t u in
    let b : length (t ++ drop (length t) l) ≡ length l = simp (length-append, length-drop) (omega (arith, h, n)) in
    let fits : length t + length u ≤ length (t ++ drop (length t) l) = omega (arith, h, n, b) in
    let front : take (length t) (t ++ drop (length t) l) ≡ t = take_at t (drop (length t) l) (length t) refl in
    let rest : drop (length t + length u) (t ++ drop (length t) l) ≡ drop (length (t ++ u)) l =
    sym (drop-drop (length u) (length t) (t ++ drop (length t) l))
    ∙ ap (drop (length u)) (drop_at t (drop (length t) l) (length t) refl)
    ∙ drop-drop (length u) (length t) l
    ∙ ap (λ (k : ℕ). drop k l) (sym n) in
    rw (le-leb _ _ fits) (ap₂ written (sym n) (ap₂ (λ (a c : List ℕ). a ++ u ++ c) front rest))

-- texts, one behind the other
put_all : Written → List (List ℕ) → Written
put_all w [] = w
put_all w (u ∷ us) = put_all (w ▸ u) us

joined : List ℕ → List (List ℕ) → List ℕ
joined t [] = t
joined t (u ∷ us) = joined (t ++ u) us

joined_most : (t : List ℕ) (us : List (List ℕ)) → length t ≤ length (joined t us)
unfolding joined
joined_most t [] = omega arith
joined_most t (u ∷ us) = omega (arith, length-append t u, joined_most (t ++ u) us)

all_told : (l t : List ℕ) (us : List (List ℕ)) → length (joined t us) ≤ length l → put_all (begun l t) us ≡ begun l (joined t us)
unfolding joined put_all
all_told l t [] h = refl
all_told l t (u ∷ us) h = ap (λ (w : Written). put_all w us) (one_more l t u (omega (arith, h, joined_most (t ++ u) us))) ∙ all_told l (t ++ u) us h

point_parts : Point → List (List ℕ) → List (List ℕ)
point_parts p us = blank ∷ single_text p.x ∷ blank ∷ single_text p.y ∷ us

counts_parts : ℕ → ℕ → List (List ℕ) → List (List ℕ)
counts_parts a b us = blank ∷ decimal_text a ∷ blank ∷ decimal_text b ∷ us

behind : (t a b c d : List ℕ) → t ++ a ++ b ++ c ++ d ≡ t ++ (a ++ b ++ c ++ d)
behind t a b c d = ap (λ (x : List ℕ). x ++ c ++ d) (append_assoc t a b) ∙ ap (λ (x : List ℕ). x ++ d) (append_assoc t (a ++ b) c) ∙ append_assoc t (a ++ b ++ c) d

joined_point : (t : List ℕ) (p : Point) (us : List (List ℕ)) → joined t (point_parts p us) ≡ joined (t ++ point_text p) us
unfolding joined point_parts point_text
joined_point t p us = ap (λ (x : List ℕ). joined x us) (behind t blank (single_text p.x) blank (single_text p.y))

joined_counts : (t : List ℕ) (a b : ℕ) (us : List (List ℕ)) → (a < 2 ^ 64) × (b < 2 ^ 64) → joined t (counts_parts a b us) ≡ joined (t ++ counts_text a b) us
unfolding joined counts_parts counts_text
joined_counts t a b us s =
    ap (λ (x : List ℕ). joined x us)
    (behind t blank (decimal_text a) blank (decimal_text b)
    ∙ ap₂ (λ (x y : List ℕ). t ++ (blank ++ x ++ blank ++ y)) (sym (decimal_is_text a s.0)) (sym (decimal_is_text b s.1)))

module _ (l : List ℕ) (r : Reply) (us : List (List ℕ)) where
  as_parts : put_line (written 0 l) r ≡ put_all (written 0 l) us → joined [] us ≡ reply_text r ++ newline → length (reply_text r ++ newline) ≤ length l
      → put_line (written 0 l) r ≡ begun l (reply_text r ++ newline)
  as_parts p j h = p ∙ all_told l [] us (rw j h) ∙ ap (begun l) j

pub line_told : (l : List ℕ) (r : Reply) → Small r → length (reply_text r ++ newline) ≤ length l → put_line (written 0 l) r ≡ begun l (reply_text r ++ newline)
unfolding put_line put_reply put_segment put_next put_record put_done put_numbered put_box put_worded put_counts put_point reply_text segment_text put_all joined Small point_parts counts_parts
line_told l End s h = as_parts l End (end_text ∷ newline ∷ []) refl refl h
line_told l Empty s h = as_parts l Empty (empty_text ∷ newline ∷ []) refl refl h
line_told l Yes s h = as_parts l Yes (one_text ∷ newline ∷ []) refl refl h
line_told l No s h = as_parts l No (zero_text ∷ newline ∷ []) refl refl h
line_told l (Refused n) s h = as_parts l (Refused n) (refused_text ∷ decimal_text n ∷ newline ∷ []) refl (rw (decimal_is_text n s) refl) h
line_told l (Malformed n) s h = as_parts l (Malformed n) (malformed_text ∷ decimal_text n ∷ newline ∷ []) refl (rw (decimal_is_text n s) refl) h
line_told l (BadLine n) s h = as_parts l (BadLine n) (bad_text ∷ decimal_text n ∷ newline ∷ []) refl (rw (decimal_is_text n s) refl) h
line_told l (Box b) s h =
    as_parts l (Box b) (box_text ∷ point_parts b.min (point_parts b.max (newline ∷ []))) refl
    (joined_point box_text b.min (point_parts b.max (newline ∷ []))
    ∙ joined_point (box_text ++ point_text b.min) b.max (newline ∷ [])) h
line_told l (Done b) s h =
    as_parts l (Done b) (ok_text ∷ counts_parts b.verbs b.points (newline ∷ [])) refl
    (joined_counts ok_text b.verbs b.points (newline ∷ []) s) h
line_told l (Worded b joints) s h =
    as_parts l (Worded b joints) (ok_text ∷ counts_parts b.verbs b.points (word_text ∷ hexadecimal_text joints ∷ newline ∷ [])) refl
    (joined_counts ok_text b.verbs b.points (word_text ∷ hexadecimal_text joints ∷ newline ∷ []) s) h
line_told l (Record b) s h =
    as_parts l (Record b) (record_text ∷ counts_parts b.verbs b.points (point_parts b.start (point_parts b.pen (newline ∷ [])))) refl
    (joined_counts record_text b.verbs b.points (point_parts b.start (point_parts b.pen (newline ∷ []))) s
    ∙ joined_point (record_text ++ counts_text b.verbs b.points) b.start (point_parts b.pen (newline ∷ []))
    ∙ joined_point (record_text ++ counts_text b.verbs b.points ++ point_text b.start) b.pen (newline ∷ [])) h
line_told l (Element (segment.Move p)) s h =
    as_parts l (Element (segment.Move p)) (move_text ∷ point_parts p (newline ∷ [])) refl
    (joined_point move_text p (newline ∷ [])) h
line_told l (Element (segment.Line p)) s h =
    as_parts l (Element (segment.Line p)) (line_text ∷ point_parts p (newline ∷ [])) refl
    (joined_point line_text p (newline ∷ [])) h
line_told l (Element (segment.Quad p q)) s h =
    as_parts l (Element (segment.Quad p q)) (quad_text ∷ point_parts p (point_parts q (newline ∷ []))) refl
    (joined_point quad_text p (point_parts q (newline ∷ []))
    ∙ joined_point (quad_text ++ point_text p) q (newline ∷ [])) h
line_told l (Element (segment.Cubic p q v)) s h =
    as_parts l (Element (segment.Cubic p q v)) (cubic_text ∷ point_parts p (point_parts q (point_parts v (newline ∷ [])))) refl
    (joined_point cubic_text p (point_parts q (point_parts v (newline ∷ [])))
    ∙ joined_point (cubic_text ++ point_text p) q (point_parts v (newline ∷ []))
    ∙ joined_point (cubic_text ++ point_text p ++ point_text q) v (newline ∷ [])) h
line_told l (Element segment.Close) s h =
    as_parts l (Element segment.Close) (close_text ∷ newline ∷ []) refl
    (refl) h
line_told l (Element segment.End) s h =
    as_parts l (Element segment.End) (end_text ∷ newline ∷ []) refl
    (refl) h
line_told l (Read (segment.Move p) c) s h =
    as_parts l (Read (segment.Move p) c) (move_text ∷ point_parts p (next_text ∷ counts_parts c.verb c.point (newline ∷ []))) refl
    (joined_point move_text p (next_text ∷ counts_parts c.verb c.point (newline ∷ []))
    ∙ joined_counts (move_text ++ point_text p ++ next_text) c.verb c.point (newline ∷ []) s) h
line_told l (Read (segment.Line p) c) s h =
    as_parts l (Read (segment.Line p) c) (line_text ∷ point_parts p (next_text ∷ counts_parts c.verb c.point (newline ∷ []))) refl
    (joined_point line_text p (next_text ∷ counts_parts c.verb c.point (newline ∷ []))
    ∙ joined_counts (line_text ++ point_text p ++ next_text) c.verb c.point (newline ∷ []) s) h
line_told l (Read (segment.Quad p q) c) s h =
    as_parts l (Read (segment.Quad p q) c) (quad_text ∷ point_parts p (point_parts q (next_text ∷ counts_parts c.verb c.point (newline ∷ [])))) refl
    (joined_point quad_text p (point_parts q (next_text ∷ counts_parts c.verb c.point (newline ∷ [])))
    ∙ joined_point (quad_text ++ point_text p) q (next_text ∷ counts_parts c.verb c.point (newline ∷ []))
    ∙ joined_counts (quad_text ++ point_text p ++ point_text q ++ next_text) c.verb c.point (newline ∷ []) s) h
line_told l (Read (segment.Cubic p q v) c) s h =
    as_parts l (Read (segment.Cubic p q v) c) (cubic_text ∷ point_parts p (point_parts q (point_parts v (next_text ∷ counts_parts c.verb c.point (newline ∷ []))))) refl
    (joined_point cubic_text p (point_parts q (point_parts v (next_text ∷ counts_parts c.verb c.point (newline ∷ []))))
    ∙ joined_point (cubic_text ++ point_text p) q (point_parts v (next_text ∷ counts_parts c.verb c.point (newline ∷ [])))
    ∙ joined_point (cubic_text ++ point_text p ++ point_text q) v (next_text ∷ counts_parts c.verb c.point (newline ∷ []))
    ∙ joined_counts (cubic_text ++ point_text p ++ point_text q ++ point_text v ++ next_text) c.verb c.point (newline ∷ []) s) h
line_told l (Read segment.Close c) s h =
    as_parts l (Read segment.Close c) (close_text ∷ next_text ∷ counts_parts c.verb c.point (newline ∷ [])) refl
    (joined_counts (close_text ++ next_text) c.verb c.point (newline ∷ []) s) h
line_told l (Read segment.End c) s h =
    as_parts l (Read segment.End c) (end_text ∷ next_text ∷ counts_parts c.verb c.point (newline ∷ [])) refl
    (joined_counts (end_text ++ next_text) c.verb c.point (newline ∷ []) s) h

-- ---- how long a reply is

counts-most : (a b : ℕ) → (a < 2 ^ 64) × (b < 2 ^ 64) → length (counts_text a b) ≤ 42
unfolding counts_text
counts-most a b s =
    let m : length (decimal a) ≤ 20 = subst (λ (t : List ℕ). length t ≤ 20) (sym (decimal_is_text a s.0)) (decimal_text-most a) in
    let n : length (decimal b) ≤ 20 = subst (λ (t : List ℕ). length t ≤ 20) (sym (decimal_is_text b s.1)) (decimal_text-most b) in
    simp length-append (omega (arith, m, n))

single-most : (x : Float) → length (single_text x) ≤ 8
single-most x = float_text-most 8 (bits_of binary32) x 8 (lit≤ tt) (lit≤ tt)

point-most : (p : Point) → length (point_text p) ≤ 18
unfolding point_text
point-most p = simp length-append (omega (arith, single-most p.x, single-most p.y))

segment-most : (s : Segment) → length (segment_text s) ≤ 59
unfolding segment_text
segment-most (segment.Move p) = simp length-append (omega (arith, point-most p))
segment-most (segment.Line p) = simp length-append (omega (arith, point-most p))
segment-most (segment.Quad p q) = simp length-append (omega (arith, point-most p, point-most q))
segment-most (segment.Cubic p q r) = simp length-append (omega (arith, point-most p, point-most q, point-most r))
segment-most segment.Close = lit≤ tt
segment-most segment.End = lit≤ tt

numbered-most : (name : List ℕ) (n : ℕ) → length name ≤ 13 → n < 2 ^ 64 → length (name ++ decimal n) ≤ 106
numbered-most name n h s =
    let m : length (decimal n) ≤ 20 = subst (λ (t : List ℕ). length t ≤ 20) (sym (decimal_is_text n s)) (decimal_text-most n) in
    simp length-append (omega (arith, m, h))

reply-most : (r : Reply) → Small r → length (reply_text r) ≤ 106
unfolding reply_text Small
reply-most (Element s) k = omega (arith, segment-most s)
reply-most (Read s c) k = simp length-append (omega (arith, segment-most s, counts-most c.verb c.point k))
reply-most (Record b) k = simp length-append (omega (arith, counts-most b.verbs b.points k, point-most b.start, point-most b.pen))
reply-most End k = lit≤ tt
reply-most Empty k = lit≤ tt
reply-most (Box b) k = simp length-append (omega (arith, point-most b.min, point-most b.max))
reply-most (Done b) k = simp length-append (omega (arith, counts-most b.verbs b.points k))
reply-most (Worded b joints) k = simp length-append (omega (arith, counts-most b.verbs b.points k, hexadecimal_text-most joints))
reply-most Yes k = lit≤ tt
reply-most No k = lit≤ tt
reply-most (Refused n) k = numbered-most refused_text n (lit≤ tt) k
reply-most (Malformed n) k = numbered-most malformed_text n (lit≤ tt) k
reply-most (BadLine n) k = numbered-most bad_text n (lit≤ tt) k

-- what a buffer of 128 bytes has up to the end of the line
pub line_in_128 : (l : List ℕ) (r : Reply) {n : ℕ} {l' : List ℕ} → length l ≡ 128 → Small r → written n l' ≡ put_line (written 0 l) r
    → (1 ≤ n) × ((n - 1 ≤ length l') × (take (n - 1) l' ≡ reply_text r))
line_in_128 l r {n} {l'} e s w =
    let t = reply_text r in
    let m : length t ≤ 106 = reply-most r s in
    let k : length (t ++ newline) ≡ length t + 1 = length-append t newline in
    let told : written n l' ≡ begun l (t ++ newline) = w ∙ line_told l r s (omega (arith, k, m, e)) in
    let last : n ≡ length (t ++ newline) = ap (λ (x : Written). x.at) told in
    let held : l' ≡ (t ++ newline) ++ drop (length (t ++ newline)) l = ap (λ (x : Written). x.buffer) told in
    let held' : l' ≡ t ++ (newline ++ drop (length (t ++ newline)) l) = held ∙ append_assoc t newline _ in
    let long : length l' ≡ length t + length (newline ++ drop (length (t ++ newline)) l) = ap length held' ∙ length-append t _ in
    let cut : n - 1 ≡ length t = omega (arith, last, k) in
    (omega (arith, last, k), (omega (arith, cut, long), ap₂ take cut held' ∙ take_at t _ (length t) refl))
