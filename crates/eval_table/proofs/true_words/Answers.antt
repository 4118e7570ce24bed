use Rattle.definitions.specs.Problem.Atoms.{problem_of, problem_with}
use Rattle.laws.specs.Valued.{tree_by, by_picks}
use Rattle.eval_table.specs.Told.{sound, says_words}
use Rattle.eval_table.proofs.true_words.Goals as goal

pub rule_words-requires : goal.rule_words-requires
rule_words-requires c = let a = c.args in let h = c.requires in let o = h.lines in sound h.case h.accepted a.n h.value o.members o.types o.ranges o.relations o.nodes o.counted o.inputs o.fits o.some o.size a.lines.now o.lined

pub returns : goal.returns
unfolding problem_of problem_with
returns c =
    let a = c.args in λ d may must j l A plain o fi wa. c.rule_words.ensures j l (tree_by d (by_picks d may must)) (problem_of d).root
    (says_words d A a.n 0 o.members o.types o.ranges o.relations o.nodes o.counted o.inputs o.fits plain may must a.facts.now fi a.pos.now a.neg.now j l wa a.lines.now o.lined)
