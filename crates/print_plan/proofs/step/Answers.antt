-- `print_plan::step` meets its contract. Assumes nothing.
use native.Mathlib.Omega.{arith}
use Prim.Native.Nat.{◌^◌, ◌<◌}
use mathlib.Core.Path.{sym, ap, ◌∙◌}
use lib.ListN.{length}
use Rattle.print_bytes.specs.Emitted.{begin, next as then, finish, emits_as}
use Rattle.print_names.specs.Naming.{SmallName, word_in}
use mathlib.Core.Path.{subst}
use Rattle.print_plan.specs.Lines.{within_six, small_name, line_of, line_parts}
use Rattle.print_plan.proofs.step.Goals as goal
use Rattle.print_plan.proofs.step.Goals.{Start}

short : (c : Start) → (length c.args.out.now < 2 ^ 64) × (c.args.at < 2 ^ 64)
short c = (omega arith, omega arith)

pub objects_of-count-requires : goal.objects_of-count-requires
objects_of-count-requires c = record { fits = (c.requires.0.fits, c.action_at-a.ensures.0, omega arith, within_six _ c.requires.0.fits.some); by_index = (_, c.requires.1) }

pub action_word-named-requires : goal.action_word-named-requires
action_word-named-requires c = (c.requires.1, subst SmallName (sym c.name_of-name.ensures) (small_name _ _ c.action_at-a.ensures.0))

pub returns : goal.returns
returns c =
    λ case a is N e. finish _ (then _ _ (then _ _ (then _ _ (then _ _ (begin c.args.out.now (line_of case c.args.question.now c.args.names.now c.args.table.now is N c.args.k c.action_at-a.result a e (c.action_at-a.ensures.1 _ is)
    ∙ line_parts c.args.question.now c.args.table.now c.args.names.now c.action_at-a.result _ c.objects_of-count.ensures.1) (short (goal.at.returns c).Start).0 (short (goal.at.returns c).Start).1) c.byte-opened.ensures)
    (emits_as (ap (word_in c.args.question.now c.args.names.now) (sym c.name_of-name.ensures)) c.action_word-named.ensures)) c.objects-listed.ensures) c.byte-closed.ensures) c.byte.ensures
