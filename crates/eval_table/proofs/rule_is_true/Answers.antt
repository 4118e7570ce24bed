use mathlib.Core.List.{◌++◌}
use Rattle.definitions.specs.Problem.Truth.{every_value}
use Rattle.definitions.specs.Problem.Atoms.{problem_of}
use Rattle.laws.specs.Valued.{tree_by, by_picks}
use Rattle.eval_table.specs.Told.{sound, says, rule_is}
use Rattle.eval_table.proofs.rule_is_true.Goals as goal

pub rule_holds-requires : goal.rule_holds-requires
rule_holds-requires c = let a = c.args in let h = c.requires in let o = h.lines in sound h.case h.accepted a.n h.value o.members o.types o.ranges o.relations o.nodes o.counted o.inputs o.fits o.some o.size a.lines.now o.lined

pub returns : goal.returns
returns c =
    let a = c.args in λ d k F A pk o fi pa. rule_is d (F ++ every_value d k) c.rule_holds.result A (c.rule_holds.ensures (tree_by d (by_picks d (F ++ every_value d k) (F ++ every_value d k))) (problem_of d).root
    (says d A a.n k o.members o.types o.ranges o.relations o.nodes o.counted o.inputs o.fits F pk a.facts.now fi a.picks.now pa a.lines.now o.lined))
