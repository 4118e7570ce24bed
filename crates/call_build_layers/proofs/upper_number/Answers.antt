-- `call_build_layers::upper_number` meets its contract. Assumes nothing.
use Rattle.definitions.specs.Problem.Atoms.{problem_of}
use Rattle.meaning.specs.Grounded.{good}
use Rattle.problem_of_case.specs.Grounds.{declared, rule_fine, inputs}
use Rattle.call_build_layers.proofs.upper_number.Goals as goal

pub relations_of-g-requires : goal.relations_of-g-requires
relations_of-g-requires c = declared _ _ _ _ c.requires.holds

pub nodes_of-t-requires : goal.nodes_of-t-requires
nodes_of-t-requires c = rule_fine _ _ _ _ c.requires.holds

pub returns : goal.returns
returns c = λ y facts A i. (c.of_tables.ensures (problem_of y) _ _ _ (good y A) c.ranges_of-ranges.ensures.1 (inputs _ _ y facts i _ _ c.relations_of-g.ensures.1 c.nodes_of-t.ensures)).1
