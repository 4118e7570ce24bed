-- `read_sheets::cleared` meets its contract.
use mathlib.Core.Path.{◌≡◌, refl, sym, ◌∙◌}
use mathlib.Core.Bool.{true, false}
use mathlib.Core.List.{List}
use Prim.Native.Nat.{ℕ}
use Rattle.std.specs.Prelude.{Ok, Err, Result, is_err}
use Rattle.refusal.specs.declared.Refusal.{Refusal}
use Rattle.bits.specs.Table.{bit}
use Rattle.read_sheets.specs.Reading.{Cleared}
use Rattle.read_sheets.proofs.Loops.{zeros_clear}
use Rattle.read_sheets.proofs.cleared.Goals as goal

where_refused : (r : Result ℕ Refusal) (old new : List ℕ) → is_err r ≡ true → (bit new ≡ λ i. false) → Cleared r old new
where_refused (Ok n) old new e z = absurd (cc)
where_refused (Err f) old new e z = z

pub returns-then-is_err : goal.returns-then-is_err
returns-then-is_err c = (refl, where_refused _ _ _ (sym c.is_err.ensures.value ∙ c.if-is_err.true) (rw (c.fill.ensures.after (λ y e. e)) (zeros_clear _)))
