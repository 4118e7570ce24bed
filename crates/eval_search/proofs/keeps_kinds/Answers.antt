use Rattle.eval_search.specs.Kinds.{kinds_kept, kinds_broken}
use Rattle.eval_search.proofs.keeps_kinds.Goals as goal

pub returns-in-Some : goal.returns-in-Some
returns-in-Some c = λ d s. kinds_broken d _ s _ c.requires _ _ c.number_picks.ensures _ (c.test_kinds.ensures _ s.is) _ c.in-Some.is

pub returns-in-None : goal.returns-in-None
returns-in-None c = λ d s. kinds_kept d _ s _ c.requires _ _ c.number_picks.ensures _ (c.test_kinds.ensures _ s.is) c.in-None.is
