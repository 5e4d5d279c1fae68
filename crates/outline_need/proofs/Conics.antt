-- What a conic adds from the pen on: a line, or 1 to 64 quads, which leave the pen at its target and the start where it was.
use mathlib.Core.Path.{◌≡◌, refl, ◌∙◌}
use mathlib.Core.List.{List}
use mathlib.Core.Bool.{Bool, true, false, cond}
use Prim.Native.Nat.{◌≤◌}
use native.Mathlib.Omega.{arith}
use lib.Dec.{lit≤}
use lib.ListN.{length}
use lib.Ieee.{Float}
use Rattle.geometry.specs.declared.Point.{Point}
use Rattle.conic.specs.declared.Conic.{Conic}
use Rattle.conic.specs.declared.Lowered.TheVariants.{Line, Curve}
use Rattle.conic.specs.Conic.{is_line, lower_of}
use Rattle.conic.specs.Halving.{pieces_of}
use Rattle.conic.proofs.Whole.{whole-conic}
use Rattle.stream.specs.declared.Element.{Element}
use Rattle.stream.specs.Stream.{sizes_of, start_after, pen_after}
use Rattle.conic_writer.specs.Entries.{elements_of, lowered_of}
use Rattle.conic_writer.proofs.Entries.{quads-length, quads-sizes, quads-start, quads-pen}
use Rattle.calls.specs.declared.Call.TheVariants.{ConicTo}
use Rattle.calls.specs.Calls.{entries_of}

pub record ConicAdds (s p b : Point) (ks : List Element) : Type 0 where
  pub some : 1 ≤ length ks
  pub few : length ks ≤ 64
  pub some_points : 1 ≤ sizes_of ks
  pub few_points : sizes_of ks ≤ 128
  pub start : start_after s ks ≡ s
  pub pen : pen_after s p ks ≡ b

conic_go : (s : Point) (c : Conic) (t : Bool) → ConicAdds s c.from c.to (elements_of (lowered_of (cond t (Line c.to) (Curve c))))
unfolding lowered_of elements_of sizes_of start_after pen_after
conic_go s c true = record { some = lit≤ tt; few = lit≤ tt; some_points = lit≤ tt; few_points = lit≤ tt; start = refl; pen = refl }
conic_go s c false =
    let ps = pieces_of c in
    let w = whole-conic c in
    let n = quads-length ps in
    let m = quads-sizes ps in
    record {
      some = omega (arith, w.some);
      few = omega (arith, w.few);
      some_points = omega (arith, w.some);
      few_points = omega (arith, w.few);
      start = quads-start s ps;
      pen = quads-pen s c.from ps ∙ w.ends;
    }

pub conic_adds : (s p a b : Point) (w : Float) → ConicAdds s p b (elements_of (entries_of false p (ConicTo a b w)))
unfolding entries_of lower_of
conic_adds s p a b w = let c : Conic = record { from = p; ctrl = a; to = b; weight = w } in conic_go s c (is_line c)
