-- The needs of a corner and of a drawn outline, from those of their parts.
use mathlib.Core.Path.{◌≡◌, refl, sym, ap, subst}
use mathlib.Core.List.{flatten}
use Prim.Native.Nat.{ℕ, ◌+◌, ◌*◌, ◌≤◌}
use native.Mathlib.Omega.{arith}
use lib.Dec.{lit≤}
use lib.ListN.{length}
use Rattle.geometry.specs.declared.Point.{Point}
use Rattle.stream.specs.declared.Need.{Need}
use Rattle.stream.specs.Stream.{origin, need_of, sum_of, CanSum}
use Rattle.conic_writer.specs.Entries.{elements_of}
use Rattle.outline_corners.specs.declared.RoundCorner.{RoundCorner}
use Rattle.outline_corners.specs.declared.Corner.{Corner}
use Rattle.outline_corners.specs.declared.Corner.TheVariants.{Square, Round}
use Rattle.outline_corners.specs.declared.Outline.{Outline}
use Rattle.outline_corners.specs.Calls.{calls_forwards, calls_backwards, calls_of, drawing_of, calls_in}
use Rattle.outline_need.specs.Entries.{entries_along, Passes, last_point}
use Rattle.outline_need.proofs.Passing.{passes_line, passes_none, passes-sum, passes-few, outline_need_lem}

abbrev Counted : Point → Corner → Need → Type 0
Counted pen corner n = Passes pen (calls_of corner) (last_point corner) n

pub counted_square : (pen p q : Point) (corner : Corner) → corner ≡ Square p q → Counted pen corner (record { verbs = 2; points = 2 })
counted_square pen p q corner e =
    subst (λ (x : Corner). Counted pen x (record { verbs = 2; points = 2 })) (sym e)
    (passes-sum (passes_line pen p) (passes_line p q) refl)

pub counted_round : (pen : Point) (r : RoundCorner) (corner : Corner) (n m k : Need) → corner ≡ Round r
    → Passes pen (calls_forwards r.forwards) r.forwards.circle.to n
    → Passes r.forwards.circle.to (calls_backwards r.backwards) r.backwards.first.to m
    → k ≡ sum_of n m → Counted pen corner k
counted_round pen r corner n m k e h g s = subst (λ (x : Corner). Counted pen x k) (sym e) (passes-sum h g s)

-- a corner has at most 6 calls
short : (corner : Corner) → length (calls_of corner) ≤ 6
short (Square p q) = lit≤ tt
short (Round r) = lit≤ tt

-- what at most k corners need, and sums of that
pub record Few (k : ℕ) (n : Need) : Type 0 where
  pub verbs : n.verbs ≤ 384 * k
  pub points : n.points ≤ 768 * k

pub counted_few : {pen : Point} {n : Need} (corner : Corner) → Counted pen corner n → Few 1 n
counted_few {pen} {n} corner h = let f = passes-few h in let g = short corner in record { verbs = omega arith; points = omega arith }

pub sum_few : {k l : ℕ} {n m s : Need} → Few k n → Few l m → s ≡ sum_of n m → Few (k + l) s
sum_few {k} {l} {n} {m} {s} f g e =
    let v = ap (λ (x : Need). x.verbs) e in
    let p = ap (λ (x : Need). x.points) e in
    record { verbs = omega (arith, f.verbs, g.verbs); points = omega (arith, f.points, g.points) }

pub few_sum : {k l : ℕ} {n m : Need} → Few k n → Few l m → k + l ≤ 8 → CanSum n m
few_sum {k} {l} {n} {m} f g h = (omega (arith, f.verbs, g.verbs), omega (arith, f.points, g.points))

-- four corners, each from where the one before ends
module _ (o : Outline) (p q r : Point) (n1 n2 n3 n4 k : Need)
    (ep : p ≡ last_point o.corners.first) (eq : q ≡ last_point o.corners.second) (er : r ≡ last_point o.corners.third)
    (h1 : Counted o.start o.corners.first n1) (h2 : Counted p o.corners.second n2) (h3 : Counted q o.corners.third n3) (h4 : Counted r o.corners.fourth n4)
  where
    abbrev none : Need
    none = record { verbs = 0; points = 0 }

    abbrev four : Need
    four = sum_of n1 (sum_of n2 (sum_of n3 (sum_of n4 none)))

    passes-four : Passes o.start (flatten (drawing_of o).corners) (last_point o.corners.fourth) four
    unfolding flatten
    passes-four =
        let c = o.corners in
        let g2 = subst (λ (x : Point). Counted x c.second n2) ep h2 in
        let g3 = subst (λ (x : Point). Counted x c.third n3) eq h3 in
        let g4 = subst (λ (x : Point). Counted x c.fourth n4) er h4 in
        let r4 = passes-sum {k = sum_of n4 none} g4 (passes_none (last_point c.fourth)) refl in
        let r3 = passes-sum {k = sum_of n3 (sum_of n4 none)} g3 r4 refl in
        let r2 = passes-sum {k = sum_of n2 (sum_of n3 (sum_of n4 none))} g2 r3 refl in
        passes-sum {k = four} h1 r2 refl

    pub counted_outline : k ≡ sum_of (sum_of (sum_of (sum_of n1 n2) n3) n4) (record { verbs = 3; points = 2 })
        → k ≡ need_of (elements_of (entries_along origin origin (calls_in (drawing_of o))))
    unfolding calls_in
    counted_outline e =
        let v = ap (λ (x : Need). x.verbs) e in
        let m = ap (λ (x : Need). x.points) e in
        outline_need_lem o.start (last_point o.corners.fourth) (flatten (drawing_of o).corners) four k passes-four (omega arith) (omega arith)
