-- `eval_table::fill` meets its contract.
use mathlib.Core.Path.{◌∙◌}
use native.Mathlib.Omega.{arith}
use Rattle.eval_table.specs.Numbers.{all_lined}
use Rattle.eval_table.proofs.fill.Goals as goal

pub fill_nodes-requires : goal.fill_nodes-requires
fill_nodes-requires c = let h = c.requires in (h.0, h.8, h.5)

pub fill_parts-requires : goal.fill_parts-requires
fill_parts-requires c = let h = c.requires in (c.fill_nodes.auto.lines ∙ h.0, h.2, h.3, h.4, h.5, h.9)

pub fill_ranges-requires : goal.fill_ranges-requires
fill_ranges-requires c = let h = c.requires in (omega (arith, c.fill_parts.auto.lines, c.fill_nodes.auto.lines, h.0, h.6), h.3, h.6, h.7)

pub shape_of-lines : goal.shape_of-lines
shape_of-lines c = c.fill_ranges.auto.table ∙ c.fill_parts.auto.lines ∙ c.fill_nodes.auto.lines

pub returns : goal.returns
returns c =
    let a = c.args in let h = c.requires in let v = c.fill_nodes in let q = c.fill_parts in let m = c.fill_ranges in all_lined a.n a.value a.members.now a.types a.ranges.count a.g a.t a.lines.now v.new.lines q.new.lines m.new.table h.0 h.1 h.5.few h.5.few_parts h.2 h.3 h.6
    v.ensures.0 v.ensures.1 q.ensures.0 q.ensures.1 q.ensures.2 m.ensures
