-- `print_instance::is_so` meets its contract. Assumes nothing.
use Rattle.step_start.specs.RowLaws.{is_one, is_fact, is_unpicked}
use Rattle.print_instance.specs.Texts.{so_pair, row_small}
use native.Mathlib.Omega.{arith}
use mathlib.Core.Path.{◌∙◌}
use Prim.Native.Nat.{◌+◌, ◌*◌}
use Rattle.print_instance.proofs.is_so.Goals as goal

pub built_in-requires : goal.built_in-requires
built_in-requires c = (omega (arith, c.if-k-lt3.true), omega (arith, c.requires.1))

pub returns-then-k-lt3 : goal.returns-then-k-lt3
returns-then-k-lt3 c = c.built_in.ensures ∙ so_pair c.args.facts.now c.args.k c.args.before c.args.z c.if-k-lt3.true c.requires.2

pub overflow_mul-row : goal.overflow_mul-row
overflow_mul-row c = omega (arith, row_small c.args.before c.args.k.n c.args.z c.requires.1 c.requires.0.few c.requires.2)

pub overflow_add-row : goal.overflow_add-row
overflow_add-row c = omega (arith, row_small c.args.before c.args.k.n c.args.z c.requires.1 c.requires.0.few c.requires.2)

pub built_in-requires-then-k-lt5 : goal.built_in-requires-then-k-lt5
built_in-requires-then-k-lt5 c = (omega (arith, c.if-k-lt5.true), omega (arith, row_small c.args.before c.args.k.n c.args.z c.requires.1 c.requires.0.few c.requires.2))

pub returns-then-k-lt5 : goal.returns-then-k-lt5
returns-then-k-lt5 c = c.built_in-then-k-lt5.ensures ∙ is_one c.args.facts.now c.args.k.n c.args.k.r c.args.k.kind c.args.k.first (c.args.before * c.args.k.n + c.args.z) (omega (arith, c.if-k-lt3.false)) c.if-k-lt5.true

pub overflow_mul-k : goal.overflow_mul-k
overflow_mul-k c = omega (arith, c.requires.0.first)

pub overflow_add-k : goal.overflow_add-k
overflow_add-k c = omega (arith, c.requires.0.first, row_small c.args.before c.args.k.n c.args.z c.requires.1 c.requires.0.few c.requires.2)

pub returns-then-k-eq0 : goal.returns-then-k-eq0
returns-then-k-eq0 c = c.test.ensures ∙ is_fact c.args.facts.now c.args.k.n c.args.k.r c.args.k.kind c.args.k.first (c.args.before * c.args.k.n + c.args.z) (omega (arith, c.if-k-lt5.false)) c.if-k-eq0.true

pub returns : goal.returns
returns c = is_unpicked c.args.facts.now c.args.k.n c.args.k.r c.args.k.kind c.args.k.first (c.args.before * c.args.k.n + c.args.z) (omega (arith, c.if-k-lt5.false)) c.if-k-eq0.false
