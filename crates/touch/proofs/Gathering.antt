-- Laws of points held as floats, two for each. Assumes nothing.
use mathlib.Core.Path.{◌≡◌, refl, sym, ap, ap₂, ◌∙◌}
use mathlib.Core.List.{List, [], ◌∷◌, ◌++◌, append_assoc, append-nil}
use Prim.Native.Nat.{ℕ, zero, suc, ◌+◌, ◌*◌, ◌≤◌, ◌<◌}
use native.Mathlib.Omega.{arith}
use lib.Ieee.{Float}
use lib.ListN.{length, get_or, set, take, length-set}
use lib.Seq.{take-suc-set, length-take-le}
use Rattle.geometry.specs.declared.Point.{Point}
use Rattle.panel_file.specs.declared.Record.{Record}
use Rattle.panel_file.specs.declared.Record.TheVariants.{Button as ButtonRecord, Touch as TouchRecord}
use Rattle.panel_file.specs.Panel.{touches_of}
use Rattle.touch.specs.Search.{floats_of, points_in, count_after_record, floats_after_record}

abbrev point : Float → Float → Point
point a b = record { x = a; y = b }

pub points-floats : (ps : List Point) → points_in (floats_of ps) ≡ ps
unfolding floats_of points_in
points-floats [] = refl
points-floats (p ∷ ps) = ap (λ (qs : List Point). p ∷ qs) (points-floats ps)

pub floats-length : (ps : List Point) → length (floats_of ps) ≡ 2 * length ps
unfolding floats_of
floats-length [] = refl
floats-length (p ∷ ps) = let e = floats-length ps in omega arith

pub points-length : (fs : List Float) (n : ℕ) → length fs ≡ 2 * n → length (points_in fs) ≡ n
unfolding points_in
points-length [] n h = omega arith
points-length (x ∷ []) n h = absurd (omega arith)
points-length (x ∷ y ∷ fs) zero h = absurd (omega arith)
points-length (x ∷ y ∷ fs) (suc n) h = ap suc (points-length fs n (omega arith))

pub point_at : (fs : List Float) (i : ℕ) (d : Float) → 2 * i + 1 < length fs
    → get_or (points_in fs) i (record { x = d; y = d }) ≡ record { x = get_or fs (2 * i) d; y = get_or fs (2 * i + 1) d }
unfolding points_in
point_at [] i d h = absurd (omega arith)
point_at (x ∷ []) i d h = absurd (omega arith)
point_at (x ∷ y ∷ fs) zero d h = refl
point_at (x ∷ y ∷ fs) (suc i) d h =
    let e : 2 * suc i ≡ suc (suc (2 * i)) = omega arith in
    let f : 2 * suc i + 1 ≡ suc (suc (2 * i + 1)) = omega arith in
    point_at fs i d (omega arith) ∙ ap₂ (λ (a b : ℕ). point (get_or (x ∷ y ∷ fs) a d) (get_or (x ∷ y ∷ fs) b d)) (sym e) (sym f)

-- ---- a record's point behind others

two_behind : (fs : List Float) (i : ℕ) (a b : Float) → i + 1 < length fs → take (i + 2) (set (set fs i a) (i + 1) b) ≡ take i fs ++ (a ∷ b ∷ [])
two_behind fs i a b h =
    let e : i + 2 ≡ suc (i + 1) = omega arith in
    let f : i + 1 ≡ suc i = omega arith in
    ap (λ (n : ℕ). take n (set (set fs i a) (i + 1) b)) e
    ∙ take-suc-set (set fs i a) (i + 1) b (simp length-set h)
    ∙ ap (λ (n : ℕ). take n (set fs i a) ++ (b ∷ [])) f
    ∙ ap (λ (gs : List Float). gs ++ (b ∷ [])) (take-suc-set fs i a (omega arith))
    ∙ append_assoc (take i fs) (a ∷ []) (b ∷ [])

-- all floats are those held and those of the records to come
pub floats_after_record-more : (r : Record) (rs : List Record) (n : ℕ) (fs : List Float) → 2 * n + 1 < length fs
    → take (2 * n) fs ++ floats_of (touches_of (r ∷ rs)) ≡ take (2 * count_after_record r n) (floats_after_record r n fs) ++ floats_of (touches_of rs)
unfolding touches_of count_after_record floats_after_record floats_of
floats_after_record-more (ButtonRecord q) rs n fs h = refl
floats_after_record-more (TouchRecord p) rs n fs h =
    let e : 2 * (n + 1) ≡ 2 * n + 2 = omega arith in
    sym
    (ap (λ (k : ℕ). take k (set (set fs (2 * n) p.x) (2 * n + 1) p.y) ++ floats_of (touches_of rs)) e
    ∙ ap (λ (gs : List Float). gs ++ floats_of (touches_of rs)) (two_behind fs (2 * n) p.x p.y h)
    ∙ append_assoc (take (2 * n) fs) (p.x ∷ p.y ∷ []) (floats_of (touches_of rs)))

pub length-floats_after_record : (r : Record) (n : ℕ) (fs : List Float) → length (floats_after_record r n fs) ≡ length fs
unfolding floats_after_record
length-floats_after_record (ButtonRecord q) n fs = refl
length-floats_after_record (TouchRecord p) n fs = simp length-set

pub count_after_record-most : (r : Record) (n : ℕ) → count_after_record r n ≤ n + 1
unfolding count_after_record
count_after_record-most (ButtonRecord q) n = omega arith
count_after_record-most (TouchRecord p) n = omega arith

-- the points that were held are all, where none are to come
pub all_floats : (ps : List Point) (n : ℕ) (fs : List Float) → 2 * n ≤ length fs → floats_of ps ≡ take (2 * n) fs ++ [] → take (2 * length ps) fs ≡ floats_of ps
all_floats ps n fs h e =
    let f : floats_of ps ≡ take (2 * n) fs = e ∙ append-nil (take (2 * n) fs) in
    let l : 2 * length ps ≡ 2 * n = sym (floats-length ps) ∙ ap length f ∙ length-take-le (2 * n) fs h in
    ap (λ (k : ℕ). take k fs) l ∙ sym f
