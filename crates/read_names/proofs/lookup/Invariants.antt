-- `read_names::lookup` meets its contract. None of the relations before i fits, so the first that fits is the first from i on.
use Prim.Native.Nat.{◌≤◌, ◌-◌}
use mathlib.Core.Path.{◌≡◌}
use lib.Seq.{slice}
use Rattle.definitions.specs.Lists.{position}
use Rattle.read_names.specs.declared.Signature.{Signature}
use Rattle.read_names.specs.Signatures.{with_arrays, relations_from, matches, counted}
use Rattle.read_names.proofs.lookup.Given as goal

abbrev pub invariant-loop-i : goal.invariant-loop-i
invariant-loop-i l = (l.lo ≤ l.i) × (l.i ≤ l.hi) × ((g : Signature) → counted l.lo (position (matches (slice l.a l.e l.s) l.wanted) (relations_from l.q (with_arrays g l.from l.to l.arity) l.lo l.m))
    ≡ counted l.i (position (matches (slice l.a l.e l.s) l.wanted) (relations_from l.q (with_arrays g l.from l.to l.arity) l.i (l.hi - l.i))))
