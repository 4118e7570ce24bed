-- `problem_layout::node_numbers` meets its contract.
use Rattle.problem_layout.specs.TurnLaws.{node_line_lem}
use Rattle.problem_layout.proofs.node_numbers.Goals as goal

pub returns : goal.returns
returns c =
    node_line_lem _ _ _ _ _ _ _ _ _ _ _ _ _ _ _ _ c.wide-kind.ensures c.wide-2.ensures c.wide-3.ensures
    c.wide-4.ensures c.wide-5.ensures c.wide-6.ensures
    c.wide-7.ensures c.wide-8.ensures c.wide-9.ensures c.wide.ensures c.range_start-range.ensures c.range_count-count.ensures
    c.requires.1 c.requires.2
