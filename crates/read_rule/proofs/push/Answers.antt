-- `push` meets its contract.
use mathlib.Core.Path.{◌≡◌, refl}
use native.Mathlib.Omega.{arith}
use borrow.Author.Rules.{rules}
use lib.ListN.{length}
use Rattle.read_rule.specs.Spans.{push_grows, push_full}
use Rattle.read_rule.proofs.push.Goals as goal

pub returns-then-n-lt4 : goal.returns-then-n-lt4
returns-then-n-lt4 c =
    let a = c.args in let lf : length a.g.scope.from ≡ 4 = search rules in
    let lt : length a.g.scope.to ≡ 4 = search rules in
    push_grows _ a.g _ _ _ _ (omega arith) lf lt c.is_bound-b.ensures refl

pub returns-else-n-lt4 : goal.returns-else-n-lt4
returns-else-n-lt4 c = push_full _ c.args.g _ c.requires (omega arith)
