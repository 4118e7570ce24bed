-- `problem_mentions::found` meets its contract: a literal, a marked node, or neither. Assumes nothing.
use native.Mathlib.Omega.{arith}
use Rattle.problem_mentions.specs.MarkLaws.{found_literal, found_node}
use Rattle.problem_mentions.proofs.found.Goals as goal

pub returns-then-tag-lt2 : goal.returns-then-tag-lt2
returns-then-tag-lt2 c = found_literal c.args.before c.args.tag c.args.which c.args.marked c.args.r c.if-before.false (omega arith)

pub returns-else-tag-lt2 : goal.returns-else-tag-lt2
returns-else-tag-lt2 c = found_node c.args.before c.args.tag c.args.which c.args.marked c.args.r c.if-before.false (omega arith)
