-- `breaks_kind` meets its contract.
use mathlib.Core.Path.{sym, ◌∙◌}
use Prim.Native.Nat.{ℕ}
use mathlib.Core.Bool.{false}
use Rattle.bits.specs.Table.{bit}
use Rattle.step_picks.specs.TestLaws.{breaks_crowd, breaks_stray, whole_none, typed_some}
use Rattle.step_picks.proofs.breaks_kind.Goals as goal

pub crowds-requires : goal.crowds-requires
crowds-requires c = c.requires.start_bound

pub returns-then-crowds : goal.returns-then-crowds
returns-then-crowds c = breaks_crowd _ _ _ _ (λ (i : ℕ). bit _ _) (sym c.crowds.ensures ∙ c.if-crowds.true)

pub returns-then-is_whole : goal.returns-then-is_whole
returns-then-is_whole c = breaks_stray _ _ _ _ (λ (i : ℕ). bit _ _) false (sym c.crowds.ensures ∙ c.if-crowds.false) (whole_none _ _ (λ (i : ℕ). bit _ _) _ c.requires.table_len.1 c.requires.table_len.2 (sym c.is_whole.ensures ∙ c.if-is_whole.true))

pub some_strays-requires : goal.some_strays-requires
some_strays-requires c = (c.requires.table_len.0, c.requires.table_len.1, c.requires.start_bound.0, c.requires.start_bound.2)

pub returns : goal.returns
returns c = let a = c.args in breaks_stray _ _ _ _ (λ (i : ℕ). bit _ _) _ (sym c.crowds.ensures ∙ c.if-crowds.false) (typed_some a.line _ _ (sym c.is_whole.ensures ∙ c.if-is_whole.false) c.some_strays.ensures)
