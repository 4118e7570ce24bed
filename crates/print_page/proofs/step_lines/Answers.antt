-- `print_page::step_lines` meets its contract.
use native.Mathlib.Omega.{arith}
use Prim.Native.Nat.{ℕ}
use mathlib.Core.Path.{ap, ap₂, sym, ◌∙◌}
use Rattle.std.specs.Prelude.{Option}
use mathlib.Core.List.{List}
use lib.ListN.{length}
use Rattle.std.proofs.Common.{length-take}
use Rattle.print_line.specs.Lines.{said_by}
use Rattle.print_units.specs.Units.{all_units}
use Rattle.print_units.specs.Streams.{lines_in}
use Rattle.print_page.specs.Steps.{front_within, within_five, step_count, step_none}
use Rattle.print_page.proofs.step_lines.Goals as goal

pub elements-count-requires : goal.elements-count-requires
elements-count-requires c = record { fits = (c.requires.0.fits, c.action_at-a.ensures.0, omega arith, within_five _ c.requires.0.fits.some); by_index = c.requires.1 }

pub lines-requires : goal.lines-requires
lines-requires c = (_, c.requires.2, front_within _ _ _ c.elements-count.ensures.2)

pub returns-then-is_there : goal.returns-then-is_there
returns-then-is_there c = (
  (λ p ls question i is N says. c.lines.ensures.0 ∙ ap₂ (λ (q : Option ℕ) (xs : List ℕ). lines_in 0 (all_units (said_by c.args.site.now c.args.labels.now) q xs)) c.part_of-part.ensures
      c.elements-count.ensures.1
      ∙ sym (step_count p c.args.table.now question c.args.names.now c.args.site.now c.args.labels.now ls is N says i c.args.k
      c.action_at-a.result (c.action_at-a.ensures.1 p is)
      (sym c.is_there.ensures ∙ c.if-is_there.true))),
  omega (arith, c.lines.ensures.1, c.elements-count.ensures.0, length-take c.elements-count.result c.elements-count.new.values),
)

pub returns : goal.returns
returns c = (
  (λ p ls question i is N says. sym (ap length (step_none p c.args.table.now question c.args.names.now c.args.site.now c.args.labels.now ls is N says i c.args.k
      c.action_at-a.result (c.action_at-a.ensures.1 p is) (sym c.is_there.ensures ∙ c.if-is_there.false)))),
  omega arith,
)
