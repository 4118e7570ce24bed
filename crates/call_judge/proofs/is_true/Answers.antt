use Rattle.std.specs.Prelude.{◌++◌, ℕ}
use Rattle.std.proofs.Common.{arith}
use Rattle.std.proofs.lemmas.Grind.{common_steps}
use Rattle.definitions.specs.Problem.Truth.{rule_holds, every_value}
use Rattle.std.proofs.lemmas.Iterator.Search.{all_from_yields_List}
use Rattle.std.proofs.lemmas.Iterator.{YieldsList-from_range}
use mathlib.Core.Path.{refl}
use Rattle.call_judge.specs.Judges.{true_with_all}
use Rattle.call_judge.proofs.is_true.Goals as goal

pub returns : goal.returns
returns c = λ d F j e. true_with_all d F _ _ e (all_from_yields_List (λ (k : ℕ). rule_holds d (F ++ every_value d k)) _ _ _ c.all.ensures.ran (YieldsList-from_range 0 c.args.count c.args.count refl (omega arith)) (λ x b q h. (grind (arith, common_steps), grind (arith, common_steps))))
