-- `read_sheets::all_have_members` meets its contract.  The types before k have members.
use Prim.Native.Nat.{ℕ, ◌≤◌}
use mathlib.Core.Path.{◌≡◌}
use mathlib.Core.Bool.{true}
use mathlib.Core.List.{List}
use Rattle.definitions.specs.Lists.{all, below}
use Rattle.definitions.specs.Sheet.Sheets.{Member, has_member}
use Rattle.read_tuples.specs.Members.{MembersAre}
use Rattle.read_sheets.proofs.all_have_members.Given as goal

abbrev pub invariant-loop-k : goal.invariant-loop-k
invariant-loop-k l = (l.k ≤ l.types) × ((n : ℕ) (ms : List Member) → n ≤ 64 → MembersAre l.members l.types n ms → all (has_member ms) (below l.k) ≡ true)
