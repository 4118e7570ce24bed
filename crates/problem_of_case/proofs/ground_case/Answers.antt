-- `problem_of_case::ground_case` meets its contract.
use Rattle.definitions.specs.Problem.Atoms.{problem_of}
use Rattle.problem_of_case.specs.Grounds.{rule_fine, inputs, counts_few, grounds_over, grounds_within}
use Rattle.std.proofs.lemmas.Result.{err_from_is_err_and}
use native.Mathlib.Omega.{arith}
use Rattle.problem_of_case.proofs.ground_case.Goals as goal

pub nodes_of-nodes-requires : goal.nodes_of-nodes-requires
nodes_of-nodes-requires c = rule_fine _ _ _ _ c.requires.read.holds

pub returns-in_err-within : goal.returns-in_err-within
returns-in_err-within c =
    let p = err_from_is_err_and c.from_residual.result c.from_residual.ensures.1 in
    λ L x facts a b s h.
    let i = inputs _ _ x facts h _ _ c.relations_of-g.ensures.1 c.nodes_of-nodes.ensures in
    let t = c.of_tables-t.ensures (problem_of x) _ _ c.ranges_of-ranges.ensures.1 i in
    rw (p.1, p.2) (grounds_over L _ x _ a b s t _ c.in_err-within.ensures)

pub fill-requires : goal.fill-requires
fill-requires c =
    let p = c.requires in let h = p.read.holds in let x = p.read.case in let i = inputs _ _ _ _ h _ _ c.relations_of-g.ensures.1 c.nodes_of-nodes.ensures in
    let l = c.lay_out-l.ensures (problem_of x) _ _ c.ranges_of-ranges.ensures.1 i in
    let t = c.of_tables-t.ensures (problem_of x) _ _ c.ranges_of-ranges.ensures.1 i in
    let (a, b) = counts_few _ x _ t c.in_ok-within.ensures in (
      p.table_len.0,
      p.table_len.1,
      h.some_elements,
      h.few_elements,
      c.relations_of-g.ensures.0,
      c.nodes_of-nodes.ensures.fits,
      l.small _ (omega (arith, a, p.table_len.2)) (omega (arith, b, p.table_len.3)),
      h.sound.types_le,
      omega (arith, h.sound.types_le, h.members_are.room),
      c.ranges_of-ranges.ensures.0,
      c.ranges_of-ranges.ensures.1,
    )

pub returns : goal.returns
returns c =
    λ L x facts a b s h.
    let i = inputs _ _ x facts h _ _ c.relations_of-g.ensures.1 c.nodes_of-nodes.ensures in
    let l = c.lay_out-l.ensures (problem_of x) _ _ c.ranges_of-ranges.ensures.1 i in
    let t = c.of_tables-t.ensures (problem_of x) _ _ c.ranges_of-ranges.ensures.1 i in
    let f = c.fill.ensures.1 in grounds_within L _ x _ a b s t c.in_ok-within.ensures _ f.fits (f.is (problem_of x) i l.starts) (f.ends (problem_of x) i l.starts)
