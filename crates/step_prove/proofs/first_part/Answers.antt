use borrow.Author.Rules.{rules}
use mathlib.Core.Path.{◌≡◌, sym, ◌∙◌}
use native.Mathlib.Omega.{arith}
use Rattle.step_prove.specs.TryLaws.{first_start, first_yes, first_no, first_end}
use Rattle.step_prove.proofs.first_part.Goals as goal

pub loop-i-init : goal.loop-i-init
loop-i-init c = search (rules, first_start)

pub part_holds-requires : goal.part_holds-requires
part_holds-requires c = (c.requires.0, omega arith, c.requires.2)

pub returns-then-part_holds : goal.returns-then-part_holds
returns-then-part_holds c = first_yes _ _ _ (omega arith) (sym c.part_holds.ensures ∙ c.if-part_holds.true) ∙ sym c.loop-i.invariant.1

pub loop-i-preserved : goal.loop-i-preserved
loop-i-preserved c = (omega arith, c.loop-i.invariant.1 ∙ first_no _ _ _ (omega arith) (sym c.part_holds.ensures ∙ c.if-part_holds.false))

pub returns : goal.returns
returns c = let e : c.args.tries ≡ c.loop-i.i = omega arith in e ∙ first_end _ _ _ (omega arith) ∙ sym c.loop-i.invariant.1
