-- A path in two lent buffers: a state is the record with the bytes and the floats lent. Elements are added
-- behind the held ones, and what lies past them keeps what it had. Definitions only.
use Rattle.std.specs.Prelude.{List, [], ◌∷◌, ◌++◌, Bool, ◌&&◌, ◌||◌, ℕ, zero, suc, ◌+◌, ◌*◌, ◌/◌, ◌^◌, ◌<◌, ◌≤◌, length, get_or, take, drop, nat_le, nat_lt, Float, Result, Ok, Err, ◌==◌, codes}
use Rattle.std.specs.Float.{binary32, nan}
use Rattle.std.specs.Float.Ieee.{of_bits}
use Rattle.geometry.specs.declared.Point.{Point}
use Rattle.stream.specs.declared.Builder.{Builder}
use Rattle.stream.specs.declared.Element.{Element}
use Rattle.stream.specs.declared.Element.TheVariants.{Move, Line, Quad, Cubic, Close}
use Rattle.stream.specs.declared.Need.{Need}
use Rattle.stream.specs.declared.Verb.{Verb}
use Rattle.stream.specs.declared.Verb.TheVariants as verb
use Rattle.stream.specs.declared.UnknownVerb.{UnknownVerb}

-- l with vs from index i on
unfoldable pub put {ℓ} : {A : Type ℓ} → List A → ℕ → List A → List A
put l i vs = take i l ++ vs ++ drop (i + length vs) l

-- ---- elements

-- the byte of a verb: 0 move, 1 line, 2 quad, 3 cubic, 4 close
abbrev pub verb_of : Element → ℕ
verb_of (Move p) = 0
verb_of (Line p) = 1
verb_of (Quad p q) = 2
verb_of (Cubic p q r) = 3
verb_of Close = 4

abbrev pub points_of : Element → List Point
points_of (Move p) = p ∷ []
points_of (Line p) = p ∷ []
points_of (Quad p q) = p ∷ q ∷ []
points_of (Cubic p q r) = p ∷ q ∷ r ∷ []
points_of Close = []

-- two floats per point, x then y
abbrev pub floats_in : List Point → List Float
floats_in [] = []
floats_in (p ∷ ps) = p.x ∷ p.y ∷ floats_in ps

-- the point in the floats from index i on
abbrev pub point_in : List Float → ℕ → Point
point_in fs i = record { x = get_or fs i nan; y = get_or fs (i + 1) nan }

abbrev pub floats_of : Element → List Float
floats_of k = floats_in (points_of k)

-- the bytes and the floats of a list of elements
unfoldable pub bytes_of : List Element → List ℕ
bytes_of [] = []
bytes_of (k ∷ ks) = verb_of k ∷ bytes_of ks

unfoldable pub all_floats : List Element → List Float
all_floats [] = []
all_floats (k ∷ ks) = floats_of k ++ all_floats ks

-- how many points an element has, and a list of elements
abbrev pub size_of : Element → ℕ
size_of k = length (points_of k)

unfoldable pub sizes_of : List Element → ℕ
sizes_of [] = 0
sizes_of (k ∷ ks) = size_of k + sizes_of ks

-- how many points a verb's byte consumes
unfoldable pub point_count : ℕ → ℕ
point_count zero = 1
point_count (suc zero) = 1
point_count (suc (suc zero)) = 2
point_count (suc (suc (suc zero))) = 3
point_count (suc (suc (suc (suc n)))) = 0

-- the byte of a verb in code, and the verb of a byte
abbrev pub byte_of : Verb → ℕ
byte_of verb.Move = 0
byte_of verb.Line = 1
byte_of verb.Quad = 2
byte_of verb.Cubic = 3
byte_of verb.Close = 4

unfoldable pub verb_in : ℕ → Result Verb UnknownVerb
verb_in zero = Ok verb.Move
verb_in (suc zero) = Ok verb.Line
verb_in (suc (suc zero)) = Ok verb.Quad
verb_in (suc (suc (suc zero))) = Ok verb.Cubic
verb_in (suc (suc (suc (suc zero)))) = Ok verb.Close
verb_in (suc (suc (suc (suc (suc n))))) = Err (record { byte = suc (suc (suc (suc (suc n)))) })

-- the text of a verb
abbrev pub verb_text : Verb → List ℕ
verb_text verb.Move = codes "move"
verb_text verb.Line = codes "line"
verb_text verb.Quad = codes "quad"
verb_text verb.Cubic = codes "cubic"
verb_text verb.Close = codes "close"

-- the text of a byte that is no verb's, up to the byte
abbrev pub no_verb_text : List ℕ
no_verb_text = codes "no verb has the byte "

-- ---- the record

-- (0, 0)
abbrev pub origin : Point
origin = record { x = of_bits binary32 0; y = of_bits binary32 0 }

abbrev pub fresh_builder : Builder
fresh_builder = record { verbs = 0; points = 0; start = origin; pen = origin }

abbrev pub is_empty : Builder → Bool
is_empty b = b.verbs == 0

-- refusal 1, for buffers of so many bytes and floats: more verbs than bytes, more points than pairs of
-- floats, or points with no verb
unfoldable pub bad_record : Builder → ℕ → ℕ → Bool
bad_record b verb_room float_room =
    nat_lt verb_room b.verbs || nat_lt (float_room / 2) b.points || (b.verbs == 0 && nat_lt 0 b.points)

-- its number, and its text
abbrev pub bad_record_number : ℕ
bad_record_number = 1

abbrev pub bad_record_text : List ℕ
bad_record_text = codes "the record does not suit the buffers"

-- a verb per byte, a point per whole pair of floats
unfoldable pub has_room : Builder → ℕ → ℕ → Need → Bool
has_room b verb_room float_room n =
    nat_le (b.verbs + n.verbs) verb_room && nat_le (b.points + n.points) (float_room / 2)

abbrev pub need_of : List Element → Need
need_of ks = record { verbs = length ks; points = sizes_of ks }

-- two needs together, and that both sums fit
abbrev pub sum_of : Need → Need → Need
sum_of n m = record { verbs = n.verbs + m.verbs; points = n.points + m.points }

abbrev pub CanSum : Need → Need → Type 0
CanSum n m = (n.verbs + m.verbs < 2 ^ 64) × (n.points + m.points < 2 ^ 64)

-- where an element leaves the contour's start, which was at s, and the pen
abbrev pub start_of : Point → Element → Point
start_of s (Move p) = p
start_of s (Line p) = s
start_of s (Quad p q) = s
start_of s (Cubic p q r) = s
start_of s Close = s

abbrev pub pen_of : Point → Element → Point
pen_of s (Move p) = p
pen_of s (Line p) = p
pen_of s (Quad p q) = q
pen_of s (Cubic p q r) = r
pen_of s Close = s

-- where elements leave the start, which was at s, and the pen, which was at p
unfoldable pub start_after : Point → List Element → Point
start_after s [] = s
start_after s (k ∷ ks) = start_after (start_of s k) ks

unfoldable pub pen_after : Point → Point → List Element → Point
pen_after s p [] = p
pen_after s p (k ∷ ks) = pen_after (start_of s k) (pen_of s k) ks

-- the record after one element more
unfoldable pub advance_of : Builder → Element → Builder
advance_of b k = record b {
  verbs = b.verbs + 1;
  points = b.points + size_of k;
  start = start_of b.start k;
  pen = pen_of b.start k;
}

-- ---- the state

pub record State : Type 0 where
  pub builder : Builder
  pub verbs : List ℕ
  pub floats : List Float

abbrev pub state : Builder → List ℕ → List Float → State
state b vs fs = record { builder = b; verbs = vs; floats = fs }

-- one element behind the held ones
unfoldable pub push : State → Element → State
push s k =
    let b = s.builder in
    state (advance_of b k) (put s.verbs b.verbs (verb_of k ∷ [])) (put s.floats (2 * b.points) (floats_of k))

unfoldable pub push_all : State → List Element → State
push_all s [] = s
push_all s (k ∷ ks) = push_all (push s k) ks

-- refusal 1, of a state
abbrev pub bad_state : State → Bool
bad_state s = bad_record s.builder (length s.verbs) (length s.floats)

-- room for ks in a state
abbrev pub room_for : State → List Element → Bool
room_for s ks = has_room s.builder (length s.verbs) (length s.floats) (need_of ks)

-- the same as a writer requires it, of elements and of one
abbrev pub Fits : Builder → List ℕ → List Float → List Element → Type 0
Fits b vs fs ks = (b.verbs + length ks ≤ length vs) × (2 * (b.points + sizes_of ks) ≤ length fs)

abbrev pub FitsOne : Builder → List ℕ → List Float → Element → Type 0
FitsOne b vs fs k = (b.verbs < length vs) × (2 * (b.points + size_of k) ≤ length fs)
