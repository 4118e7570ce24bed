-- `read_plan::is_formed` meets its contract. Assumes nothing.
use native.Mathlib.Omega.{arith}
use mathlib.Core.Path.{◌∙◌}
use Rattle.read_plan.specs.Words.{formed_short, formed_open, formed_close, formed_words}
use Rattle.read_plan.proofs.is_formed.Goals as goal

pub returns-then-e-a-lt2 : goal.returns-then-e-a-lt2
returns-then-e-a-lt2 c = formed_short _ c.args.a c.args.e c.requires.0 c.requires.1 (omega arith)

pub returns-then-s-a-ne40 : goal.returns-then-s-a-ne40
returns-then-s-a-ne40 c = formed_open _ c.args.a c.args.e c.requires.0 c.requires.1 (omega arith) c.if-s-a-ne40.true

pub returns-then-s-e-ne41 : goal.returns-then-s-e-ne41
returns-then-s-e-ne41 c = formed_close _ c.args.a c.args.e c.requires.0 c.requires.1 (omega arith) c.if-s-a-ne40.false c.if-s-e-ne41.true

pub returns : goal.returns
returns c = c.all_words.ensures ∙ formed_words _ c.args.a c.args.e c.requires.0 c.requires.1 (omega arith) c.if-s-a-ne40.false c.if-s-e-ne41.false
