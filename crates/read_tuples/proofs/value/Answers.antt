-- `read_tuples::value` meets its contract.
use native.Mathlib.Omega.{arith}
use lib.Seq.{slice}
use Rattle.read_tuples.proofs.Naming.{meant_few, name_means, number_means}
use Rattle.read_tuples.proofs.value.Goals as goal

pub overflow_cast-result : goal.overflow_cast-result
overflow_cast-result c =
    let (ls, L) = c.requires.1 in omega
    (arith, c.element_named.ensures ls L, meant_few c.args.n ls L.fit (slice c.args.a c.args.e c.args.s.now), c.requires.0)

pub returns-then-k-eq-NAMED : goal.returns-then-k-eq-NAMED
returns-then-k-eq-NAMED c = λ ls L. name_means _ _ c.args.n c.if-k-eq-NAMED.true ls _ (c.element_named.ensures ls L)

pub returns : goal.returns
returns c = λ ls L. number_means _ _ c.args.n c.if-k-eq-NAMED.false ls
