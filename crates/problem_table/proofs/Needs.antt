-- What an action needs by the table, and so whether it may be taken: what stands on `needs_at` of `OfLaws`.
use Rattle.std.specs.Prelude.{◌≡◌}
use Rattle.std.proofs.Math.Path.{refl, sym, ap}
use Rattle.std.proofs.Common.{◌∙◌}
use mathlib.Core.List.{List, map}
use Prim.Native.Nat.{ℕ}
use Rattle.definitions.specs.Lists.{all}
use Rattle.definitions.specs.Problem.Atoms.{Problem, State, atom_number}
use Rattle.definitions.specs.Problem.Actions.{Action, needs}
use Rattle.definitions.specs.Problem.Strips.{may_take}
use Rattle.laws.specs.Numbers.{IsAction}
use Rattle.problem_table.specs.Numbers.{need_numbers}
use Rattle.problem_table.specs.Of.{Is, said}
use Rattle.problem_table.specs.OfLaws.{needs_at, all_map}

module _ (p : Problem) (w : List ℕ) (is : Is p w) where
  pub needs_are : (x : Action) → IsAction p x → map (atom_number p) (needs p x) ≡ need_numbers w (said x)
  needs_are x a = needs_at p w is x a p.size refl is.size

  -- may be taken
  pub may_is : (s : State) (x : Action) → IsAction p x → all s (need_numbers w (said x)) ≡ may_take p s x
  unfolding may_take
  may_is s x k = ap (all s) (sym (needs_are x k)) ∙ all_map p w is s (needs p x)
