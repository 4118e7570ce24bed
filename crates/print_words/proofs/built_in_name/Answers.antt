-- `print_words::built_in_name` meets its contract. Assumes nothing.
use Rattle.definitions.specs.Sheet.Relations.{built_in}
use Rattle.print_bytes.specs.Emitted.{emits_as}
use Rattle.print_words.specs.Words.{built_in_name, built_last}
use mathlib.Core.Path.{ap}
use Rattle.print_words.proofs.built_in_name.Goals as goal

pub returns-then-r-eq0 : goal.returns-then-r-eq0
unfolding built_in_name built_in
returns-then-r-eq0 c = emits_as (ap built_in_name c.if-r-eq0.true) c.text.ensures

pub returns-then-r-eq1 : goal.returns-then-r-eq1
unfolding built_in_name built_in
returns-then-r-eq1 c = emits_as (ap built_in_name c.if-r-eq1.true) c.text-then-r-eq1.ensures

pub returns-then-r-eq2 : goal.returns-then-r-eq2
unfolding built_in_name built_in
returns-then-r-eq2 c = emits_as (ap built_in_name c.if-r-eq2.true) c.text-then-r-eq2.ensures

pub returns-then-r-eq3 : goal.returns-then-r-eq3
unfolding built_in_name built_in
returns-then-r-eq3 c = emits_as (ap built_in_name c.if-r-eq3.true) c.text-then-r-eq3.ensures

pub returns : goal.returns
returns c = emits_as (built_last _ c.requires c.if-r-eq0.false c.if-r-eq1.false c.if-r-eq2.false c.if-r-eq3.false) c.text-2.ensures
