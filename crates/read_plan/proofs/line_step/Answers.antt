-- `read_plan::line_step` meets its contract. Assumes nothing.
use native.Mathlib.Omega.{arith}
use mathlib.Core.Path.{refl, ◌∙◌}
use Rattle.read_text.proofs.Laws.{end_within}
use Rattle.read_plan.specs.Objects.{Objects}
use Rattle.read_plan.specs.Steps.{name_fits, line_many, line_few, zeros_within}
use borrow.Author.Rules.{rules}
use Rattle.read_plan.proofs.line_step.Goals as goal

pub name-k-requires : goal.name-k-requires
name-k-requires c = record { fits = (c.requires.posed.1.fits, c.requires.posed.1.names_are.fit); a_le_e = (omega (arith, c.find-t.ensures), omega (arith, c.find-t.ensures, end_within 32 c.args.a c.args.e c.args.s.now c.requires.a_le_e.0 c.requires.a_le_e.1), omega (arith, c.find-t.ensures, c.requires.a_le_e.2, end_within 32 c.args.a c.args.e c.args.s.now c.requires.a_le_e.0 c.requires.a_le_e.1)) }

pub objects-count-requires : goal.objects-count-requires
objects-count-requires c = (c.requires.a_le_e.1, omega (arith, c.find-t.ensures, end_within 32 c.args.a c.args.e c.args.s.now c.requires.a_le_e.0 c.requires.a_le_e.1), refl, zeros_within 6 _ c.requires.posed.1.fits.some)

pub returns-then-count-eq-MANY : goal.returns-then-count-eq-MANY
returns-then-count-eq-MANY c = (λ case P. line_many case _ _ _ P c.args.s.now c.args.a c.find-t.result c.args.e c.requires.a_le_e.0 c.requires.a_le_e.1 c.find-t.ensures c.name-k.result (c.name-k.ensures case P.accepts P.is P.names_are) _ c.objects-count.result c.objects-count.ensures.0 (omega (arith, c.if-count-eq-MANY.true)))

pub action-requires : goal.action-requires
action-requires c = record { fits = (c.requires.posed.1.fits, name_fits _ _ _ _ c.requires.posed.1 _ c.name-k.result (c.name-k.ensures c.requires.posed.0 c.requires.posed.1.accepts c.requires.posed.1.is c.requires.posed.1.names_are), search rules, c.objects-count.ensures.1); by_index = (_, c.requires.posed.1.names_are.fit) }

pub returns : goal.returns
unfolding Objects
returns c = (λ case P. c.action.ensures ∙ line_few case _ _ _ P c.args.s.now c.args.a c.find-t.result c.args.e c.requires.a_le_e.0 c.requires.a_le_e.1 c.find-t.ensures c.name-k.result (c.name-k.ensures case P.accepts P.is P.names_are) _ c.objects-count.result (search rules) c.objects-count.ensures.1 c.objects-count.ensures.0 (omega (arith, c.objects-count.ensures.0.0, c.if-count-eq-MANY.false)))
