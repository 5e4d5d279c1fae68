-- What calls need and where they lead: one call, and lists joined.
use mathlib.Core.Path.{◌≡◌, refl, sym, ap, ap₂, subst, ◌∙◌}
use mathlib.Core.List.{List, [], ◌∷◌, ◌++◌, append-nil}
use mathlib.Core.Bool.{false}
use Prim.Native.Nat.{ℕ, suc, ◌+◌, ◌*◌, ◌≤◌}
use native.Mathlib.Omega.{arith}
use lib.Dec.{lit≤}
use lib.ListN.{length, length-append}
use lib.Ieee.{Float}
use Rattle.geometry.specs.declared.Point.{Point}
use Rattle.stream.specs.declared.Element.{Element}
use Rattle.stream.specs.declared.Element.TheVariants.{Move, Line, Close}
use Rattle.stream.specs.declared.Need.{Need}
use Rattle.stream.specs.Stream.{origin, sizes_of, need_of, sum_of, start_after, pen_after}
use Rattle.stream.proofs.Pushed.{sizes_append}
use Rattle.conic_writer.specs.Entries.{Entry, plain, elements_of}
use Rattle.conic_writer.proofs.Entries.{elements_append}
use Rattle.calls.specs.declared.Call.{Call}
use Rattle.calls.specs.declared.Call.TheVariants as call
use Rattle.calls.specs.Calls.{entries_of}
use Rattle.outline_need.specs.Entries.{entries_along, Passes}
use Rattle.outline_need.proofs.Along.{start_append, pen_append, along_append}
use Rattle.outline_need.proofs.Conics.{conic_adds}

need_append : (es ds : List Entry) → need_of (elements_of (es ++ ds)) ≡ sum_of (need_of (elements_of es)) (need_of (elements_of ds))
need_append es ds =
    let ks = elements_of es in
    let js = elements_of ds in
    ap need_of (elements_append es ds) ∙ (λ i. record { verbs = length-append ks js i; points = sizes_append ks js i })

-- ---- one call

pub along_one : (s p : Point) (c : Call) → entries_along s p (c ∷ []) ≡ entries_of false p c
unfolding entries_along
along_one s p c = append-nil (entries_of false p c)

pub passes_line : (p a : Point) → Passes p (call.LineTo a ∷ []) a (record { verbs = 1; points = 1 })
unfolding entries_along entries_of elements_of sizes_of start_after pen_after
passes_line p a = record { need = λ s. refl; start = λ s. refl; pen = λ s. refl }

pub passes_cubic : (p a b c : Point) → Passes p (call.CubicTo a b c ∷ []) c (record { verbs = 1; points = 3 })
unfolding entries_along entries_of elements_of sizes_of start_after pen_after
passes_cubic p a b c = record { need = λ s. refl; start = λ s. refl; pen = λ s. refl }

pub passes-conic : (p a b : Point) (w : Float) (n : Need) → n ≡ need_of (elements_of (entries_of false p (call.ConicTo a b w))) → Passes p (call.ConicTo a b w ∷ []) b n
passes-conic p a b w n e =
    let c = call.ConicTo a b w in
    record {
      need = λ s. ap (λ (es : List Entry). need_of (elements_of es)) (along_one s p c) ∙ sym e;
      start = λ s. ap (λ (es : List Entry). start_after s (elements_of es)) (along_one s p c) ∙ (conic_adds s p a b w).start;
      pen = λ s. ap (λ (es : List Entry). pen_after s p (elements_of es)) (along_one s p c) ∙ (conic_adds s p a b w).pen;
    }

-- ---- lists joined

-- the second list runs from where the first leads
pub along_then : {p q : Point} {cs : List Call} {n : Need} → Passes p cs q n → (s : Point) (ds : List Call) → entries_along s p (cs ++ ds) ≡ entries_along s p cs ++ entries_along s q ds
along_then {p} {q} {cs} {n} h s ds = along_append s p cs ds ∙ ap₂ (λ (x y : Point). entries_along s p cs ++ entries_along x y ds) (h.start s) (h.pen s)

module _ (p q r : Point) (cs ds : List Call) (n m : Need) (h : Passes p cs q n) (g : Passes q ds r m) where
  elements_joined : (s : Point) → elements_of (entries_along s p (cs ++ ds)) ≡ elements_of (entries_along s p cs) ++ elements_of (entries_along s q ds)
  elements_joined s = ap elements_of (along_then h s ds) ∙ elements_append (entries_along s p cs) (entries_along s q ds)

  pub passes-join : Passes p (cs ++ ds) r (sum_of n m)
  passes-join = record {
    need = λ s. ap (λ (es : List Entry). need_of (elements_of es)) (along_then h s ds) ∙ need_append (entries_along s p cs) (entries_along s q ds) ∙ ap₂ sum_of (h.need s) (g.need s);
    start = λ s. let ks = elements_of (entries_along s p cs) in let js = elements_of (entries_along s q ds) in
        ap (start_after s) (elements_joined s) ∙ start_append s ks js ∙ ap (λ (x : Point). start_after x js) (h.start s) ∙ g.start s;
    pen = λ s. let ks = elements_of (entries_along s p cs) in let js = elements_of (entries_along s q ds) in
        ap (pen_after s p) (elements_joined s) ∙ pen_append s p ks js ∙ ap₂ (λ (x y : Point). pen_after x y js) (h.start s) (h.pen s) ∙ g.pen s;
  }

-- the sum as the code has it
pub passes-sum : {p q r : Point} {cs ds : List Call} {n m k : Need} → Passes p cs q n → Passes q ds r m → k ≡ sum_of n m → Passes p (cs ++ ds) r k
passes-sum {p} {q} {r} {cs} {ds} {n} {m} h g e = subst (λ (x : Need). Passes p (cs ++ ds) r x) (sym e) (passes-join p q r cs ds n m h g)

pub passes_none : (p : Point) → Passes p [] p (record { verbs = 0; points = 0 })
unfolding entries_along elements_of sizes_of start_after pen_after
passes_none p = record { need = λ s. refl; start = λ s. refl; pen = λ s. refl }

-- ---- no call adds more than 64 elements and 128 points

pub record Few (ks : List Element) (n : ℕ) : Type 0 where
  pub verbs : length ks ≤ 64 * n
  pub points : sizes_of ks ≤ 128 * n

one-few : (p : Point) (c : Call) → Few (elements_of (entries_of false p c)) 1
unfolding entries_of elements_of sizes_of
one-few p (call.MoveTo a) = record { verbs = lit≤ tt; points = lit≤ tt }
one-few p (call.LineTo a) = record { verbs = lit≤ tt; points = lit≤ tt }
one-few p (call.QuadTo a b) = record { verbs = lit≤ tt; points = lit≤ tt }
one-few p (call.ConicTo a b w) = let k = conic_adds p p a b w in record { verbs = omega (arith, k.few); points = omega (arith, k.few_points) }
one-few p (call.CubicTo a b c) = record { verbs = lit≤ tt; points = lit≤ tt }
one-few p call.Close = record { verbs = lit≤ tt; points = lit≤ tt }

along_few : (s p : Point) (cs : List Call) → Few (elements_of (entries_along s p cs)) (length cs)
unfolding entries_along elements_of sizes_of
along_few s p [] = record { verbs = lit≤ tt; points = lit≤ tt }
along_few s p (c ∷ cs) =
    let es = entries_of false p c in
    let ds = entries_along (start_after s (elements_of es)) (pen_after s p (elements_of es)) cs in
    let a = one-few p c in
    let b = along_few (start_after s (elements_of es)) (pen_after s p (elements_of es)) cs in
    let e = elements_append es ds in
    let l = ap length e ∙ length-append (elements_of es) (elements_of ds) in
    let z = ap sizes_of e ∙ sizes_append (elements_of es) (elements_of ds) in
    record { verbs = omega (arith, a.verbs, b.verbs); points = omega (arith, a.points, b.points) }

pub passes-few : {p q : Point} {cs : List Call} {n : Need} → Passes p cs q n → (n.verbs ≤ 64 * length cs) × (n.points ≤ 128 * length cs)
passes-few {p} {q} {cs} {n} h =
    let f = along_few p p cs in
    let v = ap (λ (x : Need). x.verbs) (h.need p) in
    let m = ap (λ (x : Need). x.points) (h.need p) in
    (omega (arith, f.verbs), omega (arith, f.points))

-- ---- a whole outline

-- a move, calls, a line to the move's point and a close
pub outline_entries_lem : (a : Point) (cs : List Call) → entries_along origin origin (call.MoveTo a ∷ cs ++ call.LineTo a ∷ call.Close ∷ []) ≡ plain (Move a) ∷ entries_along a a cs ++ plain (Line a) ∷ plain Close ∷ []
unfolding entries_along entries_of elements_of start_after pen_after
outline_entries_lem a cs = ap (λ (es : List Entry). plain (Move a) ∷ es) (along_append a a cs (call.LineTo a ∷ call.Close ∷ []))

pub outline_need_lem : (a q : Point) (cs : List Call) (n k : Need) → Passes a cs q n → k.verbs ≡ n.verbs + 3 → k.points ≡ n.points + 2
    → k ≡ need_of (elements_of (entries_along origin origin (call.MoveTo a ∷ cs ++ call.LineTo a ∷ call.Close ∷ [])))
unfolding elements_of sizes_of
outline_need_lem a q cs n k h ev ep =
    let es = entries_along a a cs in
    let e = need_append es (plain (Line a) ∷ plain Close ∷ []) in
    let v = ap (λ (x : Need). x.verbs) (h.need a) in
    let m = ap (λ (x : Need). x.points) (h.need a) in
    let dv = ap (λ (x : Need). x.verbs) e in
    let dm = ap (λ (x : Need). x.points) e in
    let fv : k.verbs ≡ suc (length (elements_of (es ++ plain (Line a) ∷ plain Close ∷ []))) = omega arith in
    let fm : k.points ≡ 1 + sizes_of (elements_of (es ++ plain (Line a) ∷ plain Close ∷ [])) = omega arith in
    (λ i. record { verbs = fv i; points = fm i }) ∙ ap (λ (x : List Entry). need_of (elements_of x)) (sym (outline_entries_lem a cs))
