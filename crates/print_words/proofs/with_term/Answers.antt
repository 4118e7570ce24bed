-- `print_words::with_term` meets its contract. Assumes nothing.
use native.Mathlib.Omega.{arith}
use lib.ListN.{length-set}
use Rattle.print_words.specs.Words.{one_more}
use mathlib.Core.Path.{refl, ◌∙◌}
use Rattle.print_words.proofs.with_term.Goals as goal

pub returns : goal.returns
returns c = (record { few = omega (arith, c.requires.0); room = length-set c.args.t.at c.args.t.count c.args.k ∙ c.requires.1.room }, refl, one_more c.args.t.at c.args.t.count c.args.k (omega (arith, c.requires.0, c.requires.1.room)))
