use Prim.Native.Nat.{◌≤◌, ◌+◌}
use mathlib.Core.Path.{◌≡◌, sym, ◌∙◌}
use mathlib.Core.Bool.{true}
use mathlib.Core.List.{[], ◌∷◌}
use native.Mathlib.Omega.{arith}
use lib.ListN.{length, drop}
use Rattle.definitions.specs.Sheet.Parsing.{begins, read_typed}
use Rattle.read_names.specs.Signatures.{types_in}
use Rattle.read_rule.specs.Seen.{typed_facts}
use Rattle.read_rule.specs.Turns.{turn_first, turn_bad, turn_last}
use Rattle.read_rule.specs.Steps.{Hit, hit, room, fit_typed, more_together, each_stop_at, each_full, each_bad, each_turn}
use Rattle.read_rule.proofs.Rounds.{turn}
use Rattle.read_rule.proofs.typed_vars.Goals as goal
use Rattle.read_rule.proofs.typed_vars.Goals.{In_ok-next, In-loop-said}

-- a space is there
module _ (c : In-loop-said) where
  space : begins (32 ∷ []) (drop c.loop-said.i c.args.s.now) ≡ true
  space = sym c.starts.ensures ∙ c.loop-said-test.true

  inside : c.loop-said.i + 1 ≤ length c.args.s.now
  inside = room (32 ∷ []) c.args.s.now _ c.loop-said.invariant.0 space

-- what is found after it
one : (c : In_ok-next) → c.loop-said.i + 1 ≤ length c.args.s.now → let a = c.args in let i = c.loop-said.i + 1 in
    Hit (typed_facts (types_in a.s.now a.from.now a.to.now 8)) a.s.now i (read_typed (drop i a.s.now)) c.in_ok-next.next
    c.in_ok-next.q
one c in-text = hit _ _ _ _ _ _ (fit_typed _ _) in-text c.in_ok-next.ensures

pub loop-said-init : goal.loop-said-init
loop-said-init c = (c.requires, omega arith, turn_first _)

pub returns-then-more-eq0 : goal.returns-then-more-eq0
returns-then-more-eq0 c =
    turn_bad _ _ _ c.loop-said.invariant.2 (each_full _ _ _ (more_together _) c.args.s.now c.loop-said.i _ c.if-more-eq0.true
    (space (goal.at.returns-then-more-eq0 c).In-loop-said))

pub overflow_add-i : goal.overflow_add-i
overflow_add-i c = omega (arith, inside (goal.at.overflow_add-i c).In-loop-said)

pub typed_at-requires : goal.typed_at-requires
typed_at-requires c = inside (goal.at.typed_at-requires c).In-loop-said

pub returns-in_err-next : goal.returns-in_err-next
returns-in_err-next c =
    c.from_residual.ensures ∙ turn_bad _ _ _ c.loop-said.invariant.2 (each_bad _ _ _ (more_together _) c.args.s.now c.loop-said.i _
    c.if-more-eq0.false (space (goal.at.returns-in_err-next c).In-loop-said)
    c.in_err-next.ensures)

pub both-said-requires : goal.both-said-requires
both-said-requires c = let v = one (goal.at.both-said-requires c).In_ok-next (inside (goal.at.both-said-requires c).In-loop-said) in omega (arith, v.small, v.within, c.well_formed.0.0)

pub overflow_sub-more : goal.overflow_sub-more
overflow_sub-more c = omega (arith, c.if-more-eq0.false)

pub loop-said-smaller : goal.loop-said-smaller
loop-said-smaller c = omega (arith, c.if-more-eq0.false)

pub loop-said-preserved : goal.loop-said-preserved
loop-said-preserved c =
    let v = one (goal.at.loop-said-preserved c).In_ok-next (inside (goal.at.loop-said-preserved c).In-loop-said) in
    turn _ _ v c.both-said.ensures c.loop-said.invariant.1 c.loop-said.invariant.2
    (each_turn _ _ _ (more_together _) _ c.loop-said.i _ _ _ v c.if-more-eq0.false (space (goal.at.loop-said-preserved c).In-loop-said))

pub returns : goal.returns
returns c =
    turn_last _ _ _ c.loop-said.invariant.2 _ (each_stop_at _ _ _ (more_together _) c.args.s.now c.loop-said.i _ c.loop-said.invariant.0
    (sym c.starts.ensures ∙ c.loop-said-test.false))
