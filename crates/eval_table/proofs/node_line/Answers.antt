use native.Mathlib.Omega.{arith}
use Rattle.eval_table.specs.Numbers.{node_within, node_past, which_small}
use Rattle.eval_table.proofs.node_line.Goals as goal

pub offset_bounds-t-which : goal.offset_bounds-t-which
offset_bounds-t-which c = omega (arith, c.wide-which.ensures.0, which_small c.args.count c.args.t c.requires.1 c.args.x c.wide-at.result)

pub bounds-t-which : goal.bounds-t-which
bounds-t-which c = omega (arith, c.wide-which.ensures.0, which_small c.args.count c.args.t c.requires.1 c.args.x c.wide-at.result)

pub turns_of-requires : goal.turns_of-requires
turns_of-requires c = (c.requires.0, c.requires.1.parts.part c.wide-at.result)

pub block_line-requires : goal.block_line-requires
block_line-requires c = c.turns_of.ensures.1

pub returns-then-at-lt-NODES : goal.returns-then-at-lt-NODES
returns-then-at-lt-NODES c = let at = c.wide-at in let which = c.wide-which in let turns = c.turns_of in node_within c.args.count c.args.t c.requires.1 c.args.x c.block_line.result at.result which.result turns.result at.ensures.0 which.ensures.0 turns.ensures.0 c.block_line.ensures

pub returns : goal.returns
returns c = node_past c.args.count c.args.t c.requires.1 c.args.x c.own_line.result (omega (arith, c.wide-at.ensures.0)) c.own_line.ensures
