-- `read_names::relation` meets its contract.
use lib.Seq.{slice}
use Rattle.read_names.proofs.Laws.{by_lent}
use Rattle.read_names.proofs.relation.Goals as goal

pub returns : goal.returns
returns c = λ g l. by_lent c.args.s.now g c.args.from.now c.args.to.now c.args.from.now c.args.m (slice c.args.a c.args.e c.args.s.now) _ l (c.search.ensures g l.count l.one)
