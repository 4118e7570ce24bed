use Prim.Native.Nat.{ℕ, suc, ◌-◌, ◌/◌, ◌%◌, ◌^◌}
use mathlib.Core.Path.{sym, ap, ◌∙◌}
use Rattle.step_write.proofs.move_to.Goals as goal

pub returns-then-next-row : goal.returns-then-next-row
returns-then-next-row c = let a = c.args in let d = c.advance.ensures in (d.0, d.1, λ D q u. d.2 a.row D q u ∙ ap (λ (r : ℕ). r / a.n ^ (a.width - suc q) % a.n) (sym c.if-next-row.true))
