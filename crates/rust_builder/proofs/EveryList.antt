-- Every list of building calls that finds room leaves what the Rust's builder holds.
use mathlib.Core.Path.{◌≡◌, refl, sym, ap, subst, ◌∙◌}
use mathlib.Core.List.{List, [], ◌∷◌, ◌++◌, append-nil, append_assoc}
use mathlib.Core.Bool.{Bool, true, cond}
use Prim.Native.Nat.{ℕ, ◌*◌, ◌/◌, ◌≤◌}
use native.Mathlib.Omega.{arith}
use lib.ListN.{length, take, length-append}
use borrow.Author.Tests.{le-leb}
use Rattle.geometry.specs.declared.Point.{Point}
use Rattle.stream.specs.declared.Element.{Element}
use Rattle.stream.specs.Stream.{State, state, fresh_builder, start_after, pen_after, sizes_of, floats_in, bytes_of}
use Rattle.stream.proofs.Lists.{length-bytes}
use Rattle.stream.proofs.Pushed.{sizes_append}
use Rattle.conic_writer.specs.Entries.{Entry, elements_of}
use Rattle.conic_writer.proofs.Entries.{elements_append}
use Rattle.outline.specs.declared.BuildingCall.{BuildingCall}
use Rattle.outline.specs.declared.BuildingCall.TheVariants.{MoveTo, LineTo, QuadTo, ConicTo, CubicTo, Close, AddTo}
use Rattle.outline.specs.Step.{entries_of, step}
use Rattle.book.specs.Machine.{run}
use Rattle.book.specs.Book.{Book, empty_book, is_nil, fits_in, accepts, entries_added, book_with, builder_machine}
use Rattle.book.specs.Lists.{state_after}
use Rattle.book.proofs.Kept.{Holds, given_simulates}
use Rattle.book.proofs.Every.{holds_none, each-call}
use Rattle.building.proofs.Seven.{seven}
use Rattle.rust_builder.specs.PathBuilder.{PathBuilder, new_builder, is_empty}
use Rattle.rust_builder.specs.SameAsRust.{after_call, after_calls, EveryListIsSameAsRust, EveryFreshListIsSameAsRust, EveryListFindsRoom}
use Rattle.rust_builder.proofs.Mirrors.{Mirrors, all_points, length-all_points, floats_of-points}
use Rattle.rust_builder.proofs.Conics.{Behind}
use Rattle.rust_builder.proofs.Outline.{after}
use Rattle.rust_builder.proofs.Calls.{call_mirrors, outline_mirrors}

call_behind : (ks : List Element) {s q : Point} {b : PathBuilder} (c : BuildingCall) → Mirrors ks s q b → Behind ks s q (elements_of (entries_of (is_empty ks) q c)) (after_call b c)
unfolding after_call after entries_of
call_behind ks (MoveTo p) h = call_mirrors ks _ h
call_behind ks (LineTo p) h = call_mirrors ks _ h
call_behind ks (QuadTo ctrl to) h = call_mirrors ks _ h
call_behind ks (ConicTo ctrl to w) h = call_mirrors ks _ h
call_behind ks (CubicTo c0 c1 to) h = call_mirrors ks _ h
call_behind ks Close h = call_mirrors ks _ h
call_behind ks (AddTo shape) h = outline_mirrors ks shape h

-- ---- what a list holds is never taken back

record Grows (ks : List Element) (d : PathBuilder) : Type 0 where
  more : List Element
  start : Point
  pen : Point
  mirrors : Mirrors (ks ++ more) start pen d

grows : (ks : List Element) {s q : Point} {b : PathBuilder} (cs : List BuildingCall) → Mirrors ks s q b → Grows ks (after_calls b cs)
unfolding after_calls
grows ks {s} {q} {b} [] h = record { more = []; start = s; pen = q; mirrors = subst (λ (l : List Element). Mirrors l s q b) (sym (append-nil ks)) h }
grows ks {s} {q} {b} (c ∷ cs) h =
    let js = elements_of (entries_of (is_empty ks) q c) in
    let g = grows (ks ++ js) cs (call_behind ks c h) in
    record { more = js ++ g.more; start = g.start; pen = g.pen; mirrors = subst (λ (l : List Element). Mirrors l g.start g.pen (after_calls (after_call b c) cs)) (append_assoc ks js g.more) g.mirrors }

-- so much of it there is at least
record Longer (ks : List Element) (d : PathBuilder) : Type 0 where
  verbs : length ks ≤ length d.verbs
  points : sizes_of ks ≤ length d.points

longer : {ks : List Element} {d : PathBuilder} → Grows ks d → Longer ks d
longer {ks} {d} g =
    let js = g.more in
    let v = ap length g.mirrors.verbs ∙ length-bytes (ks ++ js) ∙ length-append ks js in
    let p = ap length g.mirrors.points ∙ length-all_points (ks ++ js) ∙ sizes_append ks js in
    record { verbs = omega (arith, v); points = omega (arith, p) }

-- ---- the book in between

abbrev Of : Book → PathBuilder → Type 0
Of k b = Mirrors (elements_of k.entries) k.start k.pen b

none_elements : (es : List Entry) → is_empty (elements_of es) ≡ is_nil es
unfolding elements_of
none_elements [] = refl
none_elements (e ∷ es) = refl

of_call : (k : Book) (b : PathBuilder) (c : BuildingCall) → Of k b → Of (book_with k (entries_added entries_of k c)) (after_call b c)
of_call k b c h =
    let es = entries_added entries_of k c in
    let ks = elements_of k.entries in
    let g : Behind ks k.start k.pen (elements_of es) (after_call b c)
    = subst (λ (t : Bool). Behind ks k.start k.pen (elements_of (entries_of t k.pen c)) (after_call b c)) (none_elements k.entries) (call_behind ks c h) in
    subst (λ (l : List Element). Mirrors l (start_after k.start (elements_of es)) (pen_after k.start k.pen (elements_of es)) (after_call b c)) (sym (elements_append k.entries es)) g

-- buffers of so many bytes and floats hold all that the builder does
record HoldsAll (verb_room float_room : ℕ) (d : PathBuilder) : Type 0 where
  verbs : length d.verbs ≤ verb_room
  points : length d.points ≤ float_room / 2

-- then they have room for the first call
first_accepted : (verb_room float_room : ℕ) (k : Book) (b : PathBuilder) (c : BuildingCall) (cs : List BuildingCall) → Of k b → HoldsAll verb_room float_room (after_calls (after_call b c) cs)
    → accepts verb_room float_room k (entries_added entries_of k c) ≡ true
unfolding fits_in
first_accepted verb_room float_room k b c cs o f =
    let ks = elements_of (k.entries ++ entries_added entries_of k c) in
    let g = longer (grows ks cs (of_call k b c o)) in
    let v = le-leb (length ks) verb_room (omega (arith, g.verbs, f.verbs)) in
    let p = le-leb (sizes_of ks) (float_room / 2) (omega (arith, g.points, f.points)) in
    rw (v, p)

-- no call of the list is refused
unfoldable NoneRefused : State → List BuildingCall → Type 0
NoneRefused s [] = Unit {0}
NoneRefused s (c ∷ cs) = ((step s c).number ≡ 0) × NoneRefused (step s c).state cs

record Ends (verb_room float_room : ℕ) (s : State) (b : PathBuilder) (cs : List BuildingCall) : Type 0 where
  book : Book
  holds : Holds verb_room float_room (run (builder_machine step) s cs) book
  of : Of book (after_calls b cs)
  none : NoneRefused s cs

ends : (verb_room float_room : ℕ) (s : State) (k : Book) (b : PathBuilder) (cs : List BuildingCall) → Holds verb_room float_room s k → Of k b → HoldsAll verb_room float_room (after_calls b cs) → Ends verb_room float_room s b cs
unfolding run after_calls NoneRefused
ends verb_room float_room s k b [] h o f = record { book = k; holds = h; of = o; none = tt }
ends verb_room float_room s k b (c ∷ cs) h o f =
    let es = entries_added entries_of k c in
    let a = first_accepted verb_room float_room k b c cs o f in
    let n : (step s c).number ≡ 0 = (each-call seven verb_room float_room s k c h).number ∙ ap (λ (t : Bool). cond t 0 5) a in
    let g : Holds verb_room float_room (step s c).state (book_with k es)
    = subst (λ (t : Bool). Holds verb_room float_room (step s c).state (cond t (book_with k es) k)) a ((given_simulates seven verb_room float_room).keeps s k c h) in
    let e = ends verb_room float_room (step s c).state (book_with k es) (after_call b c) cs g (of_call k b c o) f in
    record { book = e.book; holds = e.holds; of = e.of; none = (n, e.none) }

one_accepted : (s : State) (pre : List BuildingCall) (c : BuildingCall) (post : List BuildingCall) → NoneRefused s (pre ++ c ∷ post) → (step (run (builder_machine step) s pre) c).number ≡ 0
unfolding run NoneRefused
one_accepted s [] c post h = h.0
one_accepted s (d ∷ pre) c post h = one_accepted (step s d).state pre c post h.1

of_new : Of empty_book new_builder
unfolding elements_of bytes_of all_points
of_new = record { verbs = refl; points = refl; marks = λ e. let z : ◌≡◌ {A = ℕ} 0 1 = cc in absurd (omega arith) }

pub every_list : EveryListIsSameAsRust
every_list b vs fs cs v p f =
    let s = state_after step b vs fs cs in
    let x = ends (length vs) (length fs) (state b vs fs) empty_book new_builder cs (holds_none b vs fs v p) of_new (record { verbs = f.verbs; points = f.points }) in
    let ks = elements_of x.book.entries in
    let h = x.holds.holding in
    record {
      accepted = λ pre c post e. one_accepted (state b vs fs) pre c post (subst (NoneRefused (state b vs fs)) e x.none);
      verbs = ap (λ (n : ℕ). take n s.verbs) h.many ∙ h.verbs ∙ sym x.of.verbs;
      floats = ap (λ (n : ℕ). take (2 * n) s.floats) h.size ∙ h.floats ∙ floats_of-points ks ∙ ap floats_in (sym x.of.points);
    }

pub fresh_list : EveryFreshListIsSameAsRust
fresh_list vs fs cs f = every_list fresh_builder vs fs cs refl refl f

pub finds_room : EveryListFindsRoom
finds_room vs fs cs v p = record { verbs = omega arith; points = omega arith }
