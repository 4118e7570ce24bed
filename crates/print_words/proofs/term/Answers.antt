-- `print_words::term` meets its contract. Assumes nothing.
use native.Mathlib.Omega.{arith}
use mathlib.Core.Path.{ap}
use Rattle.definitions.specs.Reply.Pddl.{term_word}
use Rattle.print_bytes.specs.Emitted.{emits_as}
use Rattle.print_words.specs.Words.{term_low, term_high}
use Rattle.print_words.proofs.term.Goals as goal

pub returns-then-k-lt8 : goal.returns-then-k-lt8
unfolding term_word
returns-then-k-lt8 c = emits_as (ap term_word (term_low _ c.if-k-lt8.true)) c.parameter_word.ensures

pub returns : goal.returns
unfolding term_word
returns c = emits_as (ap term_word (term_high _ (omega arith))) c.object_word.ensures
