-- A line that is taken from an input piece by piece.
use Rattle.std.proofs.Common.{◌≡◌, ℕ, suc, ◌+◌, ◌-◌, ◌≤◌, ◌<◌, Bool, true, false, cond, List, [], ◌∷◌, ◌++◌, Option, None, Some, IfSome, length, take, drop, slice_range, refl, sym, ap, ap₂, ◌∙◌, subst, arith, append-nil, append_assoc, length-append, length-take-le, length-drop, take_all, zero-add, add-one}
use Rattle.std.proofs.lemmas.List.{drop-take, drop_all}
use Rattle.std.specs.List.{prefix_len}
use Rattle.std.specs.Io.KnownBytes.{Consumes, IsAtEnd, Keeps, prepend_known}
use Rattle.std.proofs.KnownBytes.{Consumes-kept}
use native.Mathlib.Nat.{suc-add}
use lib.Seq.{take-take, take-append-le, drop-append-le, drop-drop}
use Rattle.input.specs.declared.lines.Reader.{Reader}
use Rattle.input.specs.Lines.{rest_of, IsWithin, line_len, first_line, Holds, IsPast}

-- a part of a line, with no end yet: what was left is that part and what is left now, and the buffer holds it
pub record Begun (old new : Option (List ℕ)) (held : Option ℕ) (line : List ℕ) : Type 0 where
  pub text : List ℕ
  pub taken : Consumes old new text
  pub whole : line_len text ≡ length text
  pub holds : Holds held line text

-- the same where a new piece leaves what is to come as it was
pub refilled : {old new kept : Option (List ℕ)} {held : Option ℕ} {line : List ℕ} → Begun old new held line → Keeps new kept → Begun old kept held line
refilled b k = record { text = b.text; taken = Consumes-kept _ _ _ _ b.taken k; whole = b.whole; holds = b.holds }

-- what all belongs to the line, and what follows it
module _ (p : ℕ → Bool) where
  prefix_len-append : (t u : List ℕ) → prefix_len p t ≡ length t → prefix_len p (t ++ u) ≡ length t + prefix_len p u
  prefix_len-append [] u h = omega arith
  prefix_len-append (x ∷ t) u h = go (p x) h (prefix_len-append t u)
    where
      go : (b : Bool) → cond b (1 + prefix_len p t) 0 ≡ suc (length t) → (prefix_len p t ≡ length t → prefix_len p (t ++ u) ≡ length t + prefix_len p u)
          → cond b (1 + prefix_len p (t ++ u)) 0 ≡ suc (length t) + prefix_len p u
      go true e rest = let r = rest (omega arith) in omega arith
      go false e rest = absurd (omega arith)

  prefix_len-stop : (u v : List ℕ) → prefix_len p u < length u → prefix_len p (u ++ v) ≡ prefix_len p u
  prefix_len-stop [] v h = absurd (omega arith)
  prefix_len-stop (x ∷ u) v h = go (p x) h (prefix_len-stop u v)
    where
      go : (b : Bool) → cond b (1 + prefix_len p u) 0 < suc (length u) → (prefix_len p u < length u → prefix_len p (u ++ v) ≡ prefix_len p u)
          → cond b (1 + prefix_len p (u ++ v)) 0 ≡ cond b (1 + prefix_len p u) 0
      go true e rest = let r = rest (omega arith) in omega arith
      go false e rest = refl

take-append_add : (t w : List ℕ) (n : ℕ) → take (length t + n) (t ++ w) ≡ t ++ take n w
take-append_add [] w n = ap (λ (k : ℕ). take k w) (zero-add n)
take-append_add (x ∷ t) w n = rw (suc-add) (ap (λ (l : List ℕ). x ∷ l) (take-append_add t w n))

drop-append_add : (t w : List ℕ) (n : ℕ) → drop (length t + n) (t ++ w) ≡ drop n w
drop-append_add [] w n = ap (λ (k : ℕ). drop k w) (zero-add n)
drop-append_add (x ∷ t) w n = rw (suc-add) (drop-append_add t w n)

-- the text t of a line, with no end yet, then the rest u of a piece, then what the input has left
module _ (a rem : Option (List ℕ)) (t u : List ℕ) (c : Consumes a (prepend_known u rem) t) (whole : line_len t ≡ length t) where
  -- the line goes on behind the piece
  pub more-consumed : Consumes a (prepend_known [] rem) (t ++ u)
  more-consumed = by a rem c
    where
      by : (a rem : Option (List ℕ)) → Consumes a (prepend_known u rem) t → Consumes a (prepend_known [] rem) (t ++ u)
      by None rem c = tt
      by (Some xs) None c = absurd c
      by (Some xs) (Some ys) c = c ∙ sym (append_assoc t u ys)

  pub more-whole : line_len u ≡ length u → line_len (t ++ u) ≡ length (t ++ u)
  more-whole e = prefix_len-append _ t u whole ∙ ap (λ (n : ℕ). length t + n) e ∙ sym (length-append t u)

  -- the line ends in the piece
  ends : line_len u < length u → (v : List ℕ) → line_len (t ++ (u ++ v)) ≡ length t + line_len u
  ends h v = prefix_len-append _ t (u ++ v) whole ∙ ap (λ (n : ℕ). length t + n) (prefix_len-stop _ u v h)

  pub line-held : line_len u < length u → (held : Option ℕ) (line : List ℕ) → Holds held line (t ++ first_line u) → IfSome a (λ bytes. Holds held line (first_line bytes))
  line-held h held line k = by a rem c
    where
      by : (a rem : Option (List ℕ)) → Consumes a (prepend_known u rem) t → IfSome a (λ bytes. Holds held line (first_line bytes))
      by None rem c = tt
      by (Some xs) None c = absurd c
      by (Some xs) (Some ys) c =
          let line-of : first_line xs ≡ t ++ first_line u =
          ap first_line c
          ∙ ap (λ (n : ℕ). take n (t ++ (u ++ ys))) (ends h ys)
          ∙ take-append_add t (u ++ ys) (line_len u)
          ∙ ap (λ (l : List ℕ). t ++ l) (take-append-le (line_len u) u ys (omega arith)) in
          subst (Holds held line) (sym line-of) k

  pub line-past : line_len u < length u → IfSome a (λ bytes. IsPast bytes false (prepend_known (drop (suc (line_len u)) u) rem))
  line-past h = by a rem c
    where
      by : (a rem : Option (List ℕ)) → Consumes a (prepend_known u rem) t → IfSome a (λ bytes. IsPast bytes false (prepend_known (drop (suc (line_len u)) u) rem))
      by None rem c = tt
      by (Some xs) None c = absurd c
      by (Some xs) (Some ys) c =
          let n : line_len xs ≡ length t + line_len u = ap line_len c ∙ ends h ys in
          let l : length xs ≡ length t + (length u + length ys) = ap length c ∙ simp length-append in
          let s : suc (line_len xs) ≡ length t + suc (line_len u) = omega arith in
          let left : drop (suc (line_len xs)) xs ≡ drop (suc (line_len u)) u ++ ys =
          ap₂ (λ (k : ℕ) (bytes : List ℕ). drop k bytes) s c
          ∙ drop-append_add t (u ++ ys) (suc (line_len u))
          ∙ drop-append-le (suc (line_len u)) u ys (omega arith) in
          record { last = λ e. absurd (omega arith); more = λ e. refl; rest = λ e. ap Some (sym left) }

-- the input ends with the line
module _ (a b : Option (List ℕ)) (t : List ℕ) (c : Consumes a b t) (end : IsAtEnd b) (whole : line_len t ≡ length t) where
  pub last-held : (held : Option ℕ) (line : List ℕ) → Holds held line t → IfSome a (λ bytes. Holds held line (first_line bytes))
  last-held held line k = by a b c end
    where
      by : (a b : Option (List ℕ)) → Consumes a b t → IsAtEnd b → IfSome a (λ bytes. Holds held line (first_line bytes))
      by None b c e = tt
      by (Some xs) None c e = absurd c
      by (Some xs) (Some ys) c e =
          let same : xs ≡ t = c ∙ ap (λ (l : List ℕ). t ++ l) e ∙ append-nil t in
          let line-of : first_line xs ≡ t = ap first_line same ∙ take_all (line_len t) t (omega arith) in
          subst (Holds held line) (sym line-of) k

  pub last-past : (left : Option (List ℕ)) → IfSome a (λ bytes. IsPast bytes true left)
  last-past left = by a b c end
    where
      by : (a b : Option (List ℕ)) → Consumes a b t → IsAtEnd b → IfSome a (λ bytes. IsPast bytes true left)
      by None b c e = tt
      by (Some xs) None c e = absurd c
      by (Some xs) (Some ys) c e =
          let same : xs ≡ t = c ∙ ap (λ (l : List ℕ). t ++ l) e ∙ append-nil t in
          let n : line_len xs ≡ length xs = ap line_len same ∙ whole ∙ ap length (sym same) in
          record { last = λ h. refl; more = λ h. absurd (omega arith); rest = λ h. absurd (omega arith) }

-- ---- the rest of a piece

pub length-rest_of : (r : Reader) (piece : List ℕ) → IsWithin r piece → length (rest_of r piece) ≡ r.end - r.at
length-rest_of r piece w = let o = w.ordered in let e = w.within in length-take-le (r.end - r.at) (drop r.at piece) (rw length-drop (omega arith))

first_of_rest : (r : Reader) (piece : List ℕ) (n : ℕ) → r.at + n ≤ r.end → slice_range piece r.at (r.at + n) ≡ take n (rest_of r piece)
first_of_rest r piece n h =
    let e : r.at + n - r.at ≡ n = omega arith in
    ap (λ (k : ℕ). take k (drop r.at piece)) e ∙ sym (take-take n (r.end - r.at) (drop r.at piece) (omega arith))

behind_rest : (r : Reader) (piece : List ℕ) (n : ℕ) → r.at + n ≤ r.end → slice_range piece (r.at + n) r.end ≡ drop n (rest_of r piece)
behind_rest r piece n h =
    let e : r.end - r.at ≡ n + (r.end - (r.at + n)) = omega arith in
    sym
    (ap (λ (k : ℕ). drop n (take k (drop r.at piece))) e
    ∙ drop-take n (r.end - (r.at + n)) (drop r.at piece)
    ∙ ap (take (r.end - (r.at + n))) (drop-drop n r.at piece))

-- n bytes of the piece belong to the line, and the buffer takes them in
module _ (a rem : Option (List ℕ)) (r : Reader) (piece : List ℕ) (w : IsWithin r piece) (n : ℕ) (count : n ≡ line_len (rest_of r piece)) (within : r.at + n ≤ r.end)
    {h : Option ℕ} {l : List ℕ} (b : Begun a (prepend_known (rest_of r piece) rem) h l)
    (held : Option ℕ) (line : List ℕ) (k : Holds held line (b.text ++ slice_range piece r.at (r.at + n))) where
  part : slice_range piece r.at (r.at + n) ≡ first_line (rest_of r piece)
  part = first_of_rest r piece n within ∙ ap (λ (m : ℕ). take m (rest_of r piece)) count

  joined : Holds held line (b.text ++ first_line (rest_of r piece))
  joined = subst (λ (s : List ℕ). Holds held line (b.text ++ s)) part k

  pub goes_on : r.at + n ≡ r.end → Begun a (prepend_known (slice_range piece (r.at + n) r.end) rem) held line
  goes_on e =
      let u = rest_of r piece in
      let long : length u ≡ r.end - r.at = length-rest_of r piece w in
      let all : line_len u ≡ length u = omega arith in
      let whole-part : first_line u ≡ u = take_all (line_len u) u (omega arith) in
      let none : slice_range piece (r.at + n) r.end ≡ [] = behind_rest r piece n within ∙ drop_all n u (omega arith) in
      record {
        text = b.text ++ u;
        taken = subst (λ (s : List ℕ). Consumes a (prepend_known s rem) (b.text ++ u)) (sym none) (more-consumed a rem b.text u b.taken b.whole);
        whole = more-whole a rem b.text u b.taken b.whole all;
        holds = subst (λ (s : List ℕ). Holds held line (b.text ++ s)) whole-part joined;
      }

  ends_here : r.at + n < r.end → line_len (rest_of r piece) < length (rest_of r piece)
  ends_here e = let long = length-rest_of r piece w in omega arith

  pub ended-held : r.at + n < r.end → IfSome a (λ bytes. Holds held line (first_line bytes))
  ended-held e = line-held a rem b.text (rest_of r piece) b.taken b.whole (ends_here e) held line joined

  pub ended-past : r.at + n < r.end → (ended : Bool) → ended ≡ false → IfSome a (λ bytes. IsPast bytes ended (prepend_known (slice_range piece (r.at + (n + 1)) r.end) rem))
  ended-past e ended f =
      let left : slice_range piece (r.at + (n + 1)) r.end ≡ drop (suc (line_len (rest_of r piece))) (rest_of r piece) =
      behind_rest r piece (n + 1) (omega arith) ∙ ap (λ (m : ℕ). drop m (rest_of r piece)) (add-one n ∙ ap suc count) in
      rw (f, left) (line-past a rem b.text (rest_of r piece) b.taken b.whole (ends_here e))
