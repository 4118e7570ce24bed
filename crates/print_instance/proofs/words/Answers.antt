-- `print_instance::words` meets its contract. Assumes nothing.
use native.Mathlib.Omega.{arith}
use Rattle.problem_layout.specs.LaidLaws.{pow_fits, pow_most}
use Rattle.print_instance.specs.Texts.{words_low, words_high}
use Rattle.print_instance.proofs.words.Goals as goal

pub returns-then-r-lt5 : goal.returns-then-r-lt5
returns-then-r-lt5 c = words_low c.args.n c.args.r c.args.arity c.if-r-lt5.true

pub power-requires : goal.power-requires
power-requires c = (c.requires.0, pow_fits c.args.n c.args.arity c.requires.1 (omega (arith, c.requires.2)))

pub overflow_add-result : goal.overflow_add-result
overflow_add-result c = omega (arith, c.power.ensures, pow_most c.args.n c.args.arity c.requires.1 (omega (arith, c.requires.2)))

pub returns : goal.returns
returns c = words_high c.args.n c.args.r c.args.arity _ (omega (arith, c.if-r-lt5.false)) c.power.ensures
