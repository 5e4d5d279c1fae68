-- Laws of `push` and `push_all`.
use mathlib.Core.Path.{◌≡◌, refl, sym, ap, ◌∙◌}
use mathlib.Core.List.{List, [], ◌∷◌, ◌++◌}
use Prim.Native.Nat.{ℕ, zero, suc, ◌+◌, ◌*◌, ◌<◌, ◌≤◌}
use native.Mathlib.Omega.{arith}
use lib.ListN.{length, set}
use lib.Ieee.{Float}
use Rattle.std.proofs.Common.{Result, Ok, Err}
use Rattle.stream.specs.declared.Builder.{Builder}
use Rattle.stream.specs.declared.Element.{Element}
use Rattle.stream.specs.declared.Element.TheVariants.{Move, Line, Quad, Cubic, Close}
use Rattle.stream.specs.declared.Verb.{Verb}
use Rattle.stream.specs.declared.Verb.TheVariants as verb
use Rattle.stream.specs.declared.UnknownVerb.{UnknownVerb}
use Rattle.stream.specs.Stream.{put, verb_of, floats_of, size_of, sizes_of, byte_of, verb_in, point_count, start_after, pen_after, advance_of, State, state, push, push_all}
use Rattle.stream.proofs.Put.{put_one}

-- a verb's points are its element's
pub count_verb_lem : (k : Element) → point_count (verb_of k) ≡ size_of k
unfolding point_count
count_verb_lem (Move p) = refl
count_verb_lem (Line p) = refl
count_verb_lem (Quad p q) = refl
count_verb_lem (Cubic p q r) = refl
count_verb_lem Close = refl

-- a byte over 4 is no verb
abbrev unknown : UnknownVerb → Result Verb UnknownVerb
unknown e = Err e

pub no_verb : (n : ℕ) → 4 < n → unknown (record { byte = n }) ≡ verb_in n
unfolding verb_in
no_verb zero h = absurd (omega arith)
no_verb (suc zero) h = absurd (omega arith)
no_verb (suc (suc zero)) h = absurd (omega arith)
no_verb (suc (suc (suc zero))) h = absurd (omega arith)
no_verb (suc (suc (suc (suc zero)))) h = absurd (omega arith)
no_verb (suc (suc (suc (suc (suc n))))) h = refl

-- a verb read from a byte has that byte
byte_in : Result Verb UnknownVerb → ℕ
byte_in (Ok v) = byte_of v
byte_in (Err e) = e.byte

byte_back : (n : ℕ) → byte_in (verb_in n) ≡ n
unfolding verb_in byte_in
byte_back zero = refl
byte_back (suc zero) = refl
byte_back (suc (suc zero)) = refl
byte_back (suc (suc (suc zero))) = refl
byte_back (suc (suc (suc (suc zero)))) = refl
byte_back (suc (suc (suc (suc (suc n))))) = refl

pub verb_byte : (n : ℕ) (v : Verb) (r : Result Verb UnknownVerb) → r ≡ verb_in n → r ≡ Ok v → byte_of v ≡ n
unfolding byte_in
verb_byte n v r e h = ap byte_in (sym h ∙ e) ∙ byte_back n

-- a verb's byte is at most 4
pub byte_few : (v : Verb) → byte_of v ≤ 4
byte_few verb.Move = omega arith
byte_few verb.Line = omega arith
byte_few verb.Quad = omega arith
byte_few verb.Cubic = omega arith
byte_few verb.Close = omega arith

-- where a byte is no verb it is over 4
over_go : (n : ℕ) (e : UnknownVerb) → unknown e ≡ verb_in n → 4 < n
unfolding verb_in
over_go zero e h = absurd cc
over_go (suc zero) e h = absurd cc
over_go (suc (suc zero)) e h = absurd cc
over_go (suc (suc (suc zero))) e h = absurd cc
over_go (suc (suc (suc (suc zero)))) e h = absurd cc
over_go (suc (suc (suc (suc (suc n))))) e h = omega arith

pub verb_over : (n : ℕ) (r : Result Verb UnknownVerb) → r ≡ verb_in n → ((v : Verb) → r ≡ Ok v → ⊥) → 4 < n
verb_over n (Ok v) e h = absurd (h v refl)
verb_over n (Err x) e h = over_go n x e

-- what the code leaves is what `push` says
pub pushed : (b r : Builder) (vs : List ℕ) (fs fs' : List Float) (k : Element) → b.verbs < length vs → r ≡ advance_of b k → fs' ≡ put fs (2 * b.points) (floats_of k)
    → state r (set vs b.verbs (verb_of k)) fs' ≡ push (state b vs fs) k
unfolding push
pushed b r vs fs fs' k h p q = λ i. state (p i) (put_one vs b.verbs (verb_of k) h i) (q i)

pub push_all-one : (s : State) (k : Element) → push_all s (k ∷ []) ≡ push s k
unfolding push_all
push_all-one s k = refl

pub push_all_append : (s : State) (ks js : List Element) → push_all s (ks ++ js) ≡ push_all (push_all s ks) js
unfolding push_all
push_all_append s [] js = refl
push_all_append s (k ∷ ks) js = push_all_append (push s k) ks js

pub sizes_cons : (k : Element) (ks : List Element) → sizes_of (k ∷ ks) ≡ size_of k + sizes_of ks
unfolding sizes_of
sizes_cons k ks = refl

pub sizes-one : (k : Element) → sizes_of (k ∷ []) ≡ size_of k
unfolding sizes_of
sizes-one k = omega arith

pub sizes_append : (ks js : List Element) → sizes_of (ks ++ js) ≡ sizes_of ks + sizes_of js
unfolding sizes_of
sizes_append [] js = omega arith
sizes_append (k ∷ ks) js = omega (arith, sizes_append ks js)

-- the counts, the start and the pen after it
pub push_all-verbs : (s : State) (ks : List Element) → (push_all s ks).builder.verbs ≡ s.builder.verbs + length ks
unfolding push_all push advance_of
push_all-verbs s [] = omega arith
push_all-verbs s (k ∷ ks) = push_all-verbs (push s k) ks ∙ omega arith

pub push-all_points : (s : State) (ks : List Element) → (push_all s ks).builder.points ≡ s.builder.points + sizes_of ks
unfolding push_all push advance_of sizes_of
push-all_points s [] = omega arith
push-all_points s (k ∷ ks) = push-all_points (push s k) ks ∙ omega arith

pub push_all-start : (s : State) (ks : List Element) → (push_all s ks).builder.start ≡ start_after s.builder.start ks
unfolding push_all push advance_of start_after
push_all-start s [] = refl
push_all-start s (k ∷ ks) = push_all-start (push s k) ks

pub push_all-pen : (s : State) (ks : List Element) → (push_all s ks).builder.pen ≡ pen_after s.builder.start s.builder.pen ks
unfolding push_all push advance_of pen_after
push_all-pen s [] = refl
push_all-pen s (k ∷ ks) = push_all-pen (push s k) ks
