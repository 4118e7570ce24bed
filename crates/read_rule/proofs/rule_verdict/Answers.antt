-- `rule_verdict` meets its contract.
use mathlib.Core.Path.{refl, sym, ◌∙◌}
use native.Mathlib.Omega.{arith}
use Rattle.read_names.specs.Signatures.{chosen_of}
use Rattle.read_rule.specs.Bound.{names_none, verdict_bad, verdict_other, verdict_ok}
use Rattle.read_rule.proofs.Laws.{seen_lent}
use Rattle.read_rule.proofs.Rounds.{found}
use Rattle.read_rule.proofs.rule_verdict.Goals as goal

pub judge-requires : goal.judge-requires
judge-requires c =
    let lent = seen_lent _ c.args.sig _ refl c.requires.3 c.requires.4 c.requires.5 _ _ _ _ in
    let f = found _ _ _ c.args.text.now _ {at = c.args.at} (omega (arith, c.requires.0, c.requires.1)) c.in-Some.is
    (c.scan.ensures ∙ lent) in
    (omega (arith, f.small, f.within, c.well_formed.0.1), c.totalities.ensures.1)

pub returns-in_default : goal.returns-in_default
returns-in_default c =
    let a = c.args in verdict_bad _ _ (chosen_of a.text.now a.sig) _ a.text.now a.at a.end c.requires.0 c.requires.1
    (sym c.in_default.is ∙ c.scan.ensures ∙ seen_lent _ a.sig _ refl c.requires.3 c.requires.4 c.requires.5 _ _ _ _)

pub returns : goal.returns
returns c =
    let a = c.args in let lent = seen_lent _ a.sig _ refl c.requires.3 c.requires.4 c.requires.5 _ _ _ _ in
    let f = found _ _ _ a.text.now _ {at = a.at} (omega (arith, c.requires.0, c.requires.1)) c.in-Some.is (c.scan.ensures
    ∙ lent) in
    c.judge.ensures ∙ verdict_ok _ _ _ _ _ _ a.end c.requires.0 c.requires.1 _ _ f _ (names_none _ _ _) c.if-next-end.false
    (c.totalities.ensures.0 a.text.now)

pub returns-then-next-end : goal.returns-then-next-end
returns-then-next-end c =
    let a = c.args in let lent = seen_lent _ a.sig _ refl c.requires.3 c.requires.4 c.requires.5 _ _ _ _ in
    let f = found _ _ _ a.text.now _ {at = a.at} (omega (arith, c.requires.0, c.requires.1)) c.in-Some.is (c.scan.ensures
    ∙ lent) in
    verdict_other _ _ (chosen_of a.text.now a.sig) _ _ _ a.end c.requires.0 c.requires.1 _ _ f c.if-next-end.true
