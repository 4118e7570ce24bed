-- `type_at` meets its contract.
use mathlib.Core.Path.{◌≡◌, sym, ◌∙◌}
use mathlib.Core.Bool.{true}
use Prim.Native.Nat.{◌+◌, ◌≤◌}
use mathlib.Core.List.{[], ◌∷◌}
use lib.ListN.{length, drop}
use Rattle.definitions.specs.Sheet.Parsing.{begins}
use Rattle.read_rule.specs.Steps.{hit, fit_word, room, type_no, type_bad, type_ok}
use Rattle.read_rule.proofs.type_at.Goals as goal
use Rattle.read_rule.proofs.type_at.Goals.{Then-starts}

module _ (c : Then-starts) where
  colon : begins (58 ∷ []) (drop c.args.at c.args.s.now) ≡ true
  colon = sym c.starts.ensures ∙ c.if-starts.true

  inside : c.args.at + 1 ≤ length c.args.s.now
  inside = room (58 ∷ []) c.args.s.now _ c.requires colon

pub word-requires : goal.word-requires
word-requires c = inside c

pub returns-in_err-e : goal.returns-in_err-e
returns-in_err-e c = λ v. let a = c.args in c.from_residual.ensures ∙ type_bad _ a.s.now a.at v (colon (goal.at.returns-in_err-e c).Then-starts) c.in_err-e.ensures

pub returns-in_ok-e : goal.returns-in_ok-e
returns-in_ok-e c = λ v.
    let a = c.args in let w = hit _ a.s.now _ _ _ _ (fit_word _ _) (inside (goal.at.returns-in_ok-e c).Then-starts) c.in_ok-e.ensures in
    type_ok _ _ a.at v (colon (goal.at.returns-in_ok-e c).Then-starts) _ _ _ w c.is_type-typed.ensures

pub returns-else-starts : goal.returns-else-starts
returns-else-starts c = λ v. let a = c.args in type_no _ a.s.now a.at v c.requires (sym c.starts.ensures ∙ c.if-starts.false)
