-- `call_sizes::of_case` meets its contract: ranges, relations and nodes are those of the case that was read. Assumes nothing.
use native.Mathlib.Omega.{arith}
use Rattle.definitions.specs.Problem.Atoms.{problem_of}
use Rattle.problem_of_case.specs.Grounds.{declared, rule_fine, inputs}
use Rattle.call_sizes.proofs.of_case.Goals as goal

pub ranges_of-ranges-requires : goal.ranges_of-ranges-requires
ranges_of-ranges-requires c = let h = c.requires.holds in (h.some_elements, h.few_elements, h.sound.types_le, omega (arith, h.sound.types_le, h.members_are.room))

pub relations_of-g-requires : goal.relations_of-g-requires
relations_of-g-requires c = declared _ _ _ _ c.requires.holds

pub nodes_of-t-requires : goal.nodes_of-t-requires
nodes_of-t-requires c = rule_fine _ _ _ _ c.requires.holds

pub of_tables-requires : goal.of_tables-requires
of_tables-requires c = let h = c.requires.holds in (h.some_elements, h.few_elements, c.relations_of-g.ensures.0, c.nodes_of-t.ensures.fits, c.ranges_of-ranges.ensures.0)

pub returns : goal.returns
returns c = λ x facts h. c.of_tables.ensures (problem_of x) _ _ c.ranges_of-ranges.ensures.1 (inputs _ _ x facts h _ _ c.relations_of-g.ensures.1 c.nodes_of-t.ensures)
