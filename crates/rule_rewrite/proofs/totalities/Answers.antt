use mathlib.Core.Path.{refl, sym, ◌∙◌}
use native.Mathlib.Omega.{arith}
use Rattle.rule_nodes.specs.Lent.{rows_many}
use Rattle.rule_rewrite.proofs.Root.{left_start, left_space, left_nodes, left_again, left_end}
use Rattle.rule_rewrite.proofs.totalities.Goals as goal

pub overflow_add-end : goal.overflow_add-end
overflow_add-end c = omega (arith, c.requires.chosen_bound.0)

pub loop-i-init : goal.loop-i-init
loop-i-init c = let h = c.requires in (omega (arith, h.chosen_bound.0), refl, left_start _ _ (rows_many _ 0 0) (λ q. (h.by_index q).0) (λ q. (h.by_index q).1), h.chosen_bound.1)

pub offset_bounds-sig-i : goal.offset_bounds-sig-i
offset_bounds-sig-i c = omega (arith, c.loop-i.invariant.1, c.requires.chosen_bound.0)

pub bounds-sig-i : goal.bounds-sig-i
bounds-sig-i c = omega (arith, c.loop-i.invariant.1, c.requires.chosen_bound.0)

pub bounds-sig-i-in-loop-i : goal.bounds-sig-i-in-loop-i
bounds-sig-i-in-loop-i c = omega (arith, c.loop-i.invariant.1, c.requires.chosen_bound.0)

pub bounds-sig-i-in-loop-i-2 : goal.bounds-sig-i-in-loop-i-2
bounds-sig-i-in-loop-i-2 c = omega (arith, c.loop-i.invariant.1, c.requires.chosen_bound.0)

pub totality_by_kind-u-requires : goal.totality_by_kind-u-requires
totality_by_kind-u-requires c = let h = c.loop-i.invariant in (left_space _ _ _ _ h.2 (omega (arith, h.1)), left_nodes _ _ _ _ h.2 (omega (arith, h.1)), omega (arith, h.1, c.requires.chosen_bound.0), h.3)

pub loop-i-preserved : goal.loop-i-preserved
loop-i-preserved c = let h = c.loop-i.invariant in let r = c.totality_by_kind-u in (omega arith, h.1, left_again _ _ _ _ h.2 (omega (arith, h.1)) _ r.ensures, r.auto.rows ∙ h.3)

pub shape_of-rows : goal.shape_of-rows
shape_of-rows c = c.loop-i.invariant.3 ∙ sym c.requires.chosen_bound.1

pub returns : goal.returns
returns c = left_end _ _ _ _ (omega (arith, c.loop-i.invariant.1)) c.loop-i.invariant.2
