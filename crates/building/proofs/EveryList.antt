-- Every list of building calls reads back as its book.
use mathlib.Core.Path.{◌≡◌, refl, sym, ap, subst, ◌∙◌}
use mathlib.Core.List.{List, ◌∷◌, ◌++◌}
use mathlib.Core.Bool.{true}
use Prim.Native.Nat.{ℕ, suc, ◌+◌, ◌/◌, ◌≤◌}
use native.Mathlib.Omega.{arith}
use borrow.Author.Tests.{le-leb}
use lib.ListN.{length}
use lib.Ieee.{Float}
use Rattle.geometry.specs.declared.Point.{Point}
use Rattle.conic.specs.Conic.{lower_of}
use Rattle.stream.specs.declared.Element.TheVariants.{Move}
use Rattle.stream.specs.Stream.{State, fresh_builder, origin, sizes_of, pen_after}
use Rattle.conic_writer.specs.Entries.{Entry, elements_of, joint_word, lowered_of, LineOrQuads}
use Rattle.conic_writer.proofs.Entries.{line_or_quads}
use Rattle.calls.specs.Calls.{opening, entries_of as call_entries}
use Rattle.outline.specs.declared.BuildingCall.TheVariants.{ConicTo}
use Rattle.outline.specs.Step.{entries_of, step}
use Rattle.book.specs.Book.{Book, empty_book, is_nil, fits_in, accepts, entries_added}
use Rattle.book.specs.Lists.{state_after}
use Rattle.book.proofs.Kept.{Holds, accepted_word}
use Rattle.book.proofs.Every.{holds_after, every_list}
use Rattle.building.specs.Faithful.{conic_in, ConicAdded, book_in, EveryListIsFaithful, EveryFreshListIsFaithful, EveryConicFindsRoom, EveryOutlineFindsRoom}
use Rattle.building.proofs.Six.{conic-entries, opened-word, conic-pen}
use Rattle.building.proofs.Seven.{seven}
use Rattle.outline_need.specs.Entries.{outline_entries}
use Rattle.outline_need.proofs.Conics.{conic_adds}
use Rattle.outline_need.proofs.Turns.{outline_parts}

-- what a conic adds to a book
adds_lowered : (k : Book) (ctrl to : Point) (w : Float) → entries_added entries_of k (ConicTo ctrl to w) ≡ opening (is_nil k.entries) ++ lowered_of (lower_of (conic_in k ctrl to w))
unfolding entries_of
adds_lowered k ctrl to w = conic-entries (is_nil k.entries) k.pen ctrl to w

conic-added : (verb_room float_room : ℕ) (s : State) (k : Book) (ctrl to : Point) (w : Float) → Holds verb_room float_room s k → accepts verb_room float_room k (entries_added entries_of k (ConicTo ctrl to w)) ≡ true → ConicAdded s k ctrl to w
conic-added verb_room float_room s k ctrl to w h e =
    let c = conic_in k ctrl to w in
    let es = lowered_of (lower_of c) in
    let a = adds_lowered k ctrl to w in
    let word = accepted_word seven verb_room float_room s k (ConicTo ctrl to w) h e ∙ ap joint_word a ∙ opened-word (is_nil k.entries) es in
    record {
      entries = a;
      parts = subst (LineOrQuads c es) (sym word) (line_or_quads c);
      pen = ap (λ (ds : List Entry). pen_after k.start k.pen (elements_of ds)) a ∙ conic-pen k.start k.pen (is_nil k.entries) ctrl to w;
    }

pub every-list : EveryListIsFaithful
unfolding entries_of
every-list b vs fs cs v p = record {
  every = every_list seven b vs fs cs v p;
  conics = λ pre ctrl to w post q a. conic-added (length vs) (length fs) (state_after step b vs fs pre) (book_in (length vs) (length fs) pre) ctrl to w (holds_after seven b vs fs pre v p) a;
  outlines = λ pre shape post q. outline_parts shape;
}

pub fresh-list : EveryFreshListIsFaithful
fresh-list vs fs cs = every-list fresh_builder vs fs cs refl refl

-- ---- what finds room

pub conic-fits : EveryConicFindsRoom
unfolding fits_in elements_of sizes_of call_entries
conic-fits verb_room float_room ctrl to w v f =
    let a = conic_adds origin origin ctrl to w in
    let ks = elements_of (lowered_of (lower_of (conic_in empty_book ctrl to w))) in
    let few : length ks ≤ 64 = a.few in
    let few_points : sizes_of ks ≤ 128 = a.few_points in
    let js = elements_of (entries_added entries_of empty_book (ConicTo ctrl to w)) in
    let e : js ≡ Move origin ∷ ks = ap elements_of (adds_lowered empty_book ctrl to w) in
    let l : length js ≡ suc (length ks) = ap length e in
    let z : sizes_of js ≡ 1 + sizes_of ks = ap sizes_of e in
    let x = le-leb (length js) verb_room (omega arith) in
    let y = le-leb (sizes_of js) (float_room / 2) (omega arith) in
    rw (x, y)

pub outline-fits : EveryOutlineFindsRoom
unfolding fits_in entries_of
outline-fits verb_room float_room shape v f =
    let z = (outline_parts shape).sizes in
    let ks = elements_of (outline_entries shape) in
    let a = le-leb (length ks) verb_room (omega (arith, z.most)) in
    let b = le-leb (sizes_of ks) (float_room / 2) (omega (arith, z.most_points)) in
    rw (a, b)
