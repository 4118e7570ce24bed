use mathlib.Core.Path.{◌≡◌, refl}
use lib.ListN.{length}
use Rattle.eval_search.specs.Steps.{cells_of, kept_set}
use borrow.Author.Rules.{rules}
use Rattle.eval_search.proofs.enter.Goals as goal
use Rattle.eval_search.proofs.enter.Goals.{Start}

long : (c : Start) → length c.args.at.kept ≡ 4
long c = search rules

pub returns : goal.returns
returns c =
    let p = c.requires in record {
      top = refl;
      lane = refl;
      level = refl;
      found = refl;
      searched = λ d q b k. record { before = b; known = kept_set d q.sought.accepted_case q.sought.no_every (cells_of d) c.args.at.top c.args.at.level c.may_hold.result c.args.at.kept p.2 (long (goal.at.returns c).Start) (c.may_hold.ensures d q) k };
    }
