-- `print_names::action_word` meets its contract. Assumes nothing.
use native.Mathlib.Omega.{arith}
use Rattle.print_bytes.specs.Emitted.{emits_as, emits_none}
use Rattle.print_names.specs.Naming.{set_small, word_in}
use mathlib.Core.Path.{ap}
use Rattle.print_names.proofs.action_word.Goals as goal

pub set_word-requires : goal.set_word-requires
set_word-requires c = (c.requires.0, set_small c.args.k _ c.in-Set.is c.requires.1)

pub returns-in-Set : goal.returns-in-Set
unfolding word_in
returns-in-Set c = emits_as (ap (word_in c.args.question.now c.args.names.now) c.in-Set.is) c.set_word.ensures

pub returns-in-Begin : goal.returns-in-Begin
unfolding word_in
returns-in-Begin c = emits_as (ap (word_in c.args.question.now c.args.names.now) c.in-Begin.is) c.text.ensures

pub returns-in-Goal : goal.returns-in-Goal
unfolding word_in
returns-in-Goal c = emits_as (ap (word_in c.args.question.now c.args.names.now) c.in-Goal.is) c.text-in-Goal.ensures

pub returns-in-And : goal.returns-in-And
unfolding word_in
returns-in-And c = emits_as (ap (word_in c.args.question.now c.args.names.now) c.in-And.is) c.one_number.ensures

pub returns-in-Exists : goal.returns-in-Exists
unfolding word_in
returns-in-Exists c = emits_as (ap (word_in c.args.question.now c.args.names.now) c.in-Exists.is) c.one_number-in-Exists.ensures

pub returns-in-First : goal.returns-in-First
unfolding word_in
returns-in-First c = emits_as (ap (word_in c.args.question.now c.args.names.now) c.in-First.is) c.two_numbers.ensures

pub returns-in-Next : goal.returns-in-Next
unfolding word_in
returns-in-Next c = emits_as (ap (word_in c.args.question.now c.args.names.now) c.in-Next.is) c.two_numbers-in-Next.ensures

pub returns-in-Or : goal.returns-in-Or
unfolding word_in
returns-in-Or c = emits_as (ap (word_in c.args.question.now c.args.names.now) c.in-Or.is) c.two_numbers-in-Or.ensures

pub returns-in-Nobody : goal.returns-in-Nobody
unfolding word_in
returns-in-Nobody c = emits_as (ap (word_in c.args.question.now c.args.names.now) c.in-Nobody.is) (emits_none _ _ (omega arith))
