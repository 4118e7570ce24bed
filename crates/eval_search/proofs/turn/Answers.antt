use mathlib.Core.Path.{sym, ap, ◌∙◌}
use Prim.Native.Nat.{ℕ}
use native.Mathlib.Omega.{arith}
use Rattle.definitions.specs.Problem.Truth.{are_of_kinds}
use Rattle.definitions.specs.Reply.Finding.{numbered}
use Rattle.eval_search.specs.Steps.{cells_of, placed_low, run_low, block_small, stepped_up, stepped_on, stepped_found, stepped_in}
use Rattle.eval_search.proofs.turn.Goals as goal

pub bounds-kept-level : goal.bounds-kept-level
bounds-kept-level c = omega (arith, placed_low _ c.requires.2 c.requires.3)

pub returns-then-lane-eq64 : goal.returns-then-lane-eq64
returns-then-lane-eq64 c = stepped_up _ c.requires.2 c.requires.3 _ c.next_lane-lane.ensures _ _ _ _ c.if-lane-eq64.true

pub number_at-requires : goal.number_at-requires
number_at-requires c = (c.next_lane-lane.ensures.most, omega (arith, placed_low _ c.requires.2 c.requires.3), run_low _ c.requires.2 c.requires.3 _ c.next_lane-lane.ensures)

pub returns-then-level-eq0 : goal.returns-then-level-eq0
returns-then-level-eq0 c = stepped_found _ c.requires.2 c.requires.3 _ c.next_lane-lane.ensures _ _ _ _ (omega (arith, c.if-lane-eq64.false, c.next_lane-lane.ensures.most)) c.if-level-eq0.true (λ d s. sym c.if-keeps_kinds.true ∙ c.keeps_kinds.ensures d s ∙ ap (λ (x : ℕ). are_of_kinds d (numbered (cells_of d) x)) c.number_at.ensures)

pub overflow_mul-inner : goal.overflow_mul-inner
overflow_mul-inner c = omega (arith, block_small _ _ _ (run_low _ c.requires.2 c.requires.3 _ c.next_lane-lane.ensures))

pub overflow_add-inner : goal.overflow_add-inner
overflow_add-inner c = omega (arith, block_small _ _ _ (run_low _ c.requires.2 c.requires.3 _ c.next_lane-lane.ensures))

pub returns-then-keeps_kinds : goal.returns-then-keeps_kinds
returns-then-keeps_kinds c = stepped_in _ c.requires.2 c.requires.3 _ c.next_lane-lane.ensures _ _ _ _ (omega (arith, c.if-lane-eq64.false, c.next_lane-lane.ensures.most)) (omega (arith, c.if-level-eq0.false)) _ c.enter.ensures

pub returns : goal.returns
returns c = stepped_on _ c.requires.2 c.requires.3 _ c.next_lane-lane.ensures _ _ _ _ (omega (arith, c.if-lane-eq64.false, c.next_lane-lane.ensures.most)) (λ d s. sym c.if-keeps_kinds.false ∙ c.keeps_kinds.ensures d s ∙ ap (λ (x : ℕ). are_of_kinds d (numbered (cells_of d) x)) c.number_at.ensures)
