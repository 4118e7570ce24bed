use mathlib.Core.List.{[], ◌∷◌}
use mathlib.Core.Path.{refl}
use native.Mathlib.Omega.{arith}
use Rattle.rows.specs.Laws.{value_zeros, within_zeros}
use Rattle.problem_table.specs.NeedLaws.{within_most}
use Rattle.step_truth.specs.TurnLaws.{alone_turn}
use Rattle.step_truth.proofs.fill_alone.Goals as goal

pub parts_word-own-requires : goal.parts_word-own-requires
parts_word-own-requires c = let q = c.requires in (q.0, q.1.parts, within_most 1 (0 ∷ 0 ∷ 0 ∷ 0 ∷ []) (omega arith) (within_zeros 1 (omega arith)), omega arith, omega arith)

pub returns : goal.returns
returns c = let q = c.requires in λ p G F node N K. alone_turn p G F _ _ node _ _ N _ _ _ refl q.3 _ _ q.4 refl value_zeros c.parts_word-own.ensures (λ h. c.store.ensures h) K
