use mathlib.Core.Path.{sym, ◌∙◌}
use Prim.Native.Nat.{ℕ}
use native.Mathlib.Omega.{arith}
use Rattle.bits.specs.Table.{bit}
use Rattle.step_build.specs.SetLaws.{relation_yes, relation_no}
use Rattle.step_build.proofs.set_relation.Goals as goal

pub set_count-count-requires : goal.set_count-count-requires
set_count-count-requires c = let s = c.requires in (s.4, omega (arith, s.2.firsts.inside), omega (arith, s.2.seconds.inside), c.is_whole-whole.ensures)

pub set_rows-requires : goal.set_rows-requires
set_rows-requires c = let s = c.requires in let count = c.set_count-count.ensures in record { fits = (s.0, s.1, s.2, s.3, s.5, s.6); whole_value = (c.is_whole-whole.ensures, count.1, count.2) }

pub returns-then-is_chosen : goal.returns-then-is_chosen
returns-then-is_chosen c =
    let count = c.set_count-count in let taken = c.set_rows in (
      omega (arith, taken.ensures.0, count.ensures.1),
      λ p R l e. relation_yes p _ R.is _ l _ e (λ (i : ℕ). bit _ _) _ _ _ (sym c.is_chosen.ensures ∙ c.if-is_chosen.true) c.requires.2 count.ensures.0 (λ n. taken.ensures.1 p R l e n),
    )

pub returns : goal.returns
returns c = (omega arith, λ p R l e. relation_no p _ R.is _ l _ e (λ (i : ℕ). bit _ _) _ (sym c.is_chosen.ensures ∙ c.if-is_chosen.false))
