-- Laws of the bytes and the floats of a list of elements.
use mathlib.Core.Path.{◌≡◌, refl, sym, ap, ◌∙◌}
use mathlib.Core.List.{List, [], ◌∷◌, ◌++◌, append_assoc, append-nil}
use Prim.Native.Nat.{ℕ, suc, ◌*◌}
use native.Mathlib.Omega.{arith}
use lib.ListN.{length, length-append}
use lib.Ieee.{Float}
use Rattle.stream.specs.declared.Element.{Element}
use Rattle.stream.specs.Stream.{verb_of, floats_of, bytes_of, all_floats, sizes_of}
use Rattle.stream.proofs.Past.{length-floats}

pub bytes_append : (ks js : List Element) → bytes_of (ks ++ js) ≡ bytes_of ks ++ bytes_of js
unfolding bytes_of
bytes_append [] js = refl
bytes_append (k ∷ ks) js = ap (λ (r : List ℕ). verb_of k ∷ r) (bytes_append ks js)

pub floats_append : (ks js : List Element) → all_floats (ks ++ js) ≡ all_floats ks ++ all_floats js
unfolding all_floats
floats_append [] js = refl
floats_append (k ∷ ks) js = ap (λ (r : List Float). floats_of k ++ r) (floats_append ks js) ∙ sym (append_assoc (floats_of k) (all_floats ks) (all_floats js))

pub length-bytes : (ks : List Element) → length (bytes_of ks) ≡ length ks
unfolding bytes_of
length-bytes [] = refl
length-bytes (k ∷ ks) = ap suc (length-bytes ks)

pub length_all : (ks : List Element) → length (all_floats ks) ≡ 2 * sizes_of ks
unfolding all_floats sizes_of
length_all [] = refl
length_all (k ∷ ks) = length-append (floats_of k) (all_floats ks) ∙ omega (arith, length-floats k, length_all ks)

pub bytes_one : (k : Element) → bytes_of (k ∷ []) ≡ verb_of k ∷ []
unfolding bytes_of
bytes_one k = refl

pub floats-one : (k : Element) → all_floats (k ∷ []) ≡ floats_of k
unfolding all_floats
floats-one k = append-nil (floats_of k)
