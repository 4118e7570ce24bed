use Prim.Native.Nat.{◌≤◌, ◌+◌}
use mathlib.Core.Path.{◌≡◌, sym, ◌∙◌}
use mathlib.Core.Bool.{true}
use mathlib.Core.List.{[], ◌∷◌}
use native.Mathlib.Omega.{arith}
use lib.ListN.{length, drop}
use Rattle.definitions.specs.Sheet.Parsing.{begins, read_var}
use Rattle.read_rule.specs.Seen.{names, var_facts}
use Rattle.read_rule.specs.Turns.{turn_first, turn_bad, turn_last}
use Rattle.read_rule.specs.Steps.{Hit, hit, room, fit_var, vars_together, each_stop_at, each_full, each_bad, each_turn}
use Rattle.read_rule.proofs.Rounds.{turn}
use Rattle.read_rule.proofs.vars.Goals as goal
use Rattle.read_rule.proofs.vars.Goals.{In_ok-next, In-loop-sc}

-- a space is there
module _ (c : In-loop-sc) where
  space : begins (32 ∷ []) (drop c.loop-sc.i c.args.s.now) ≡ true
  space = sym c.starts.ensures ∙ c.loop-sc-test.true

  inside : c.loop-sc.i + 1 ≤ length c.args.s.now
  inside = room (32 ∷ []) c.args.s.now _ c.loop-sc.invariant.0 space

-- what is found after it
one : (c : In_ok-next) → c.loop-sc.i + 1 ≤ length c.args.s.now → let a = c.args in let i = c.loop-sc.i + 1 in
    Hit (var_facts (names a.s.now a.sc)) a.s.now i (read_var (drop i a.s.now)) c.in_ok-next.next c.in_ok-next.f
one c in-text = hit _ _ _ _ _ _ (fit_var _ _) in-text c.in_ok-next.ensures

pub loop-sc-init : goal.loop-sc-init
loop-sc-init c = (c.requires.0, omega arith, turn_first _)

pub returns-then-more-eq0 : goal.returns-then-more-eq0
returns-then-more-eq0 c =
    turn_bad _ _ _ c.loop-sc.invariant.2 (each_full _ _ _ (vars_together _) c.args.s.now c.loop-sc.i _ c.if-more-eq0.true
    (space (goal.at.returns-then-more-eq0 c).In-loop-sc))

pub overflow_add-i : goal.overflow_add-i
overflow_add-i c = omega (arith, inside (goal.at.overflow_add-i c).In-loop-sc)

pub var_at-requires : goal.var_at-requires
var_at-requires c = (inside (goal.at.var_at-requires c).In-loop-sc, c.requires.1)

pub returns-in_err-next : goal.returns-in_err-next
returns-in_err-next c =
    c.from_residual.ensures ∙ turn_bad _ _ _ c.loop-sc.invariant.2 (each_bad _ _ _ (vars_together _) c.args.s.now c.loop-sc.i _
    c.if-more-eq0.false (space (goal.at.returns-in_err-next c).In-loop-sc)
    c.in_err-next.ensures)

pub both-said-requires : goal.both-said-requires
both-said-requires c = let v = one (goal.at.both-said-requires c).In_ok-next (inside (goal.at.both-said-requires c).In-loop-sc) in omega (arith, v.small, v.within, c.well_formed.0.0)

pub overflow_sub-more : goal.overflow_sub-more
overflow_sub-more c = omega (arith, c.if-more-eq0.false)

pub loop-sc-smaller : goal.loop-sc-smaller
loop-sc-smaller c = omega (arith, c.if-more-eq0.false)

pub loop-sc-preserved : goal.loop-sc-preserved
loop-sc-preserved c =
    let v = one (goal.at.loop-sc-preserved c).In_ok-next (inside (goal.at.loop-sc-preserved c).In-loop-sc) in
    turn _ _ v c.both-said.ensures c.loop-sc.invariant.1 c.loop-sc.invariant.2
    (each_turn _ _ _ (vars_together _) _ c.loop-sc.i _ _ _ v c.if-more-eq0.false (space (goal.at.loop-sc-preserved c).In-loop-sc))

pub returns : goal.returns
returns c =
    turn_last _ _ _ c.loop-sc.invariant.2 _ (each_stop_at _ _ _ (vars_together _) c.args.s.now c.loop-sc.i _ c.loop-sc.invariant.0
    (sym c.starts.ensures ∙ c.loop-sc-test.false))
