-- `print_domain::env_of` meets its contract. Assumes nothing.
use Prim.Native.Nat.{◌≤◌}
use mathlib.Core.Path.{◌≡◌}
use lib.ListN.{length}
use Rattle.print_domain.specs.Actions.{env_from, no_env}
use Rattle.print_domain.proofs.env_of.Given as goal

abbrev pub invariant-loop-i : goal.invariant-loop-i
invariant-loop-i l = (l.i ≤ 4) × (length l.terms ≡ 4) × (env_from l.levels l.initial.i no_env ≡ env_from l.levels l.i l.terms)
