-- `print_page::step` meets its contract.
use native.Mathlib.Omega.{arith}
use Prim.Native.Nat.{ℕ, ◌^◌, ◌<◌}
use mathlib.Core.Path.{ap, ap₂, sym, ◌∙◌}
use Rattle.std.specs.Prelude.{Option}
use mathlib.Core.List.{List}
use lib.ListN.{length}
use Rattle.definitions.specs.Lists.{flat_map}
use Rattle.definitions.specs.Reply.Page.{ended_line}
use Rattle.print_line.specs.Lines.{said_by}
use Rattle.print_bytes.specs.Emitted.{begin, next as then, finish, emits_as, emits_none}
use Rattle.print_units.specs.Units.{all_units}
use Rattle.print_units.specs.Streams.{streamed}
use Rattle.print_page.specs.Steps.{front_within, within_five, step_is, step_none}
use Rattle.print_page.proofs.step.Goals as goal
use Rattle.print_page.proofs.step.Goals.{Start}

short : (c : Start) → (length c.args.out.now < 2 ^ 64) × (c.args.at < 2 ^ 64)
short c = (omega arith, omega arith)

pub elements-count-requires : goal.elements-count-requires
elements-count-requires c = record { fits = (c.requires.0.fits, c.action_at-a.ensures.0, omega arith, within_five _ c.requires.0.fits.some); by_index = (_, c.requires.1) }

pub head-headed-requires : goal.head-headed-requires
head-headed-requires c = (
  c.requires.1,
  (_, c.action_at-a.ensures.0),
)

pub units-requires : goal.units-requires
units-requires c = (_, c.requires.2, front_within _ _ _ c.elements-count.ensures.2)

pub returns-then-is_there : goal.returns-then-is_there
returns-then-is_there c =
    λ p ls is N says. finish _ (then _ _ (begin c.args.out.now (step_is p c.args.table.now c.args.question.now c.args.names.now c.args.site.now c.args.labels.now ls is N says
    c.args.i c.args.k c.action_at-a.result
    (c.action_at-a.ensures.1 p is)
    (sym c.is_there.ensures ∙
    c.if-is_there.true)) (short (goal.at.returns-then-is_there c).Start).0 (short (goal.at.returns-then-is_there c).Start).1)
    c.head-headed.ensures)
    (emits_as (ap₂ (λ (q : Option ℕ) (xs : List ℕ). streamed 0 (all_units (said_by c.args.site.now c.args.labels.now) q xs))
    (sym c.part_of-part.ensures) (sym
    c.elements-count.ensures.1)) c.units.ensures)

pub returns : goal.returns
unfolding flat_map
returns c =
    λ p ls is N says. emits_as (ap (flat_map ended_line) (step_none p c.args.table.now c.args.question.now c.args.names.now c.args.site.now c.args.labels.now ls is N says c.args.i
    c.args.k c.action_at-a.result (c.action_at-a.ensures.1 p is) (sym c.is_there.ensures ∙ c.if-is_there.false))) (emits_none _ _ (short (goal.at.returns c).Start).1)
