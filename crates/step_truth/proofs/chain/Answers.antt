use mathlib.Core.Path.{refl}
use Rattle.step_truth.specs.WordLaws.{chain_is, lowest_few}
use borrow.Author.Rules.{rules}
use Rattle.step_truth.proofs.chain.Goals as goal

pub mask-requires : goal.mask-requires
mask-requires c = lowest_few _ _ c.lowest-k.ensures

pub returns : goal.returns
returns c = λ ms I z h. chain_is _ _ (search rules) ms I _ _ _ z c.lowest-k.ensures c.mask.ensures refl h
