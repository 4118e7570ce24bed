-- `problem_window::part_gives` meets its contract: a literal gives nothing, a node what is known of it. Assumes nothing.
use native.Mathlib.Omega.{arith}
use Rattle.problem_window.specs.FoldLaws.{gives_literal, gives_node}
use Rattle.problem_window.proofs.part_gives.Goals as goal

pub returns-then-tag-lt2 : goal.returns-then-tag-lt2
returns-then-tag-lt2 c = gives_literal c.args.tag c.args.known (omega arith)

pub returns : goal.returns
returns c = gives_node c.args.tag c.args.known (omega arith)
