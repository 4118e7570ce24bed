use native.Mathlib.Omega.{arith}
use mathlib.Core.Path.{sym}
use Prim.Native.Nat.{ℕ}
use lib.ListN.{length-replicate}
use lib.Seq.{length-take-le}
use Rattle.step_build.proofs.build_with.Goals as goal

pub slice_bounds-build_in-end : goal.slice_bounds-build_in-end
slice_bounds-build_in-end g c = sym (length-take-le _ _ (omega (arith, length-replicate {A = ℕ} g.row.SCRATCH 0)))

pub whole_as_front-build_in : goal.whole_as_front-build_in
whole_as_front-build_in g c = (omega arith, omega arith)

pub build_in-requires : goal.build_in-requires
build_in-requires g c =
    let q = c.requires in record { fits = (q.0, q.1, q.2, q.5); left_len = length-take-le _ _ (omega (arith, length-replicate {A = ℕ} g.row.SCRATCH 0)) }
