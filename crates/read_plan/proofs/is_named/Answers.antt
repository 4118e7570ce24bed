-- `read_plan::is_named` meets its contract. Assumes nothing.
use mathlib.Core.Path.{◌∙◌, ap, sym}
use Rattle.read_plan.specs.Domain.{named_in}
use Rattle.read_plan.proofs.is_named.Goals as goal

pub returns-in-Set : goal.returns-in-Set
unfolding named_in
returns-in-Set c = sym (ap (named_in c.args.table.now) c.in-Set.is)

pub returns-in-Begin : goal.returns-in-Begin
unfolding named_in
returns-in-Begin c = sym (ap (named_in c.args.table.now) c.in-Begin.is)

pub returns-in-Goal : goal.returns-in-Goal
unfolding named_in
returns-in-Goal c = sym (ap (named_in c.args.table.now) c.in-Goal.is)

pub returns-in-And : goal.returns-in-And
unfolding named_in
returns-in-And c = c.is_node.ensures ∙ sym (ap (named_in c.args.table.now) c.in-And.is)

pub returns-in-Exists : goal.returns-in-Exists
unfolding named_in
returns-in-Exists c = c.is_node-in-Exists.ensures ∙ sym (ap (named_in c.args.table.now) c.in-Exists.is)

pub returns-in-First : goal.returns-in-First
unfolding named_in
returns-in-First c = c.is_node-in-First.ensures ∙ sym (ap (named_in c.args.table.now) c.in-First.is)

pub returns-in-Next : goal.returns-in-Next
unfolding named_in
returns-in-Next c = c.is_node-in-Next.ensures ∙ sym (ap (named_in c.args.table.now) c.in-Next.is)

pub returns-in-Or : goal.returns-in-Or
unfolding named_in
returns-in-Or c = c.is_part.ensures ∙ sym (ap (named_in c.args.table.now) c.in-Or.is)

pub returns-in-Nobody : goal.returns-in-Nobody
unfolding named_in
returns-in-Nobody c = sym (ap (named_in c.args.table.now) c.in-Nobody.is)
