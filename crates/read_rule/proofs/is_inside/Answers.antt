-- `is_inside` meets its contract.
use mathlib.Core.Path.{◌≡◌, sym, ◌∙◌}
use mathlib.Core.Bool.{Bool, true, false}
use Prim.Native.Nat.{ℕ}
use lib.Dec.{eqb}
use Rattle.std.specs.Char.{is_ascii_digit}
use Rattle.definitions.specs.Sheet.Text.{is_digit, is_between}
use Rattle.definitions.specs.Sheet.Parsing.{first, inside}
use Rattle.read_rule.proofs.is_inside.Goals as goal
use Rattle.read_rule.proofs.is_inside.Goals.{then-is_first, else-is_first}

module _ (b : Bool) (c : ℕ) where
  by_first : first b c ≡ true → true ≡ inside b c
  by_first p = rw p

  by_digit : first b c ≡ false → is_ascii_digit c ≡ true → true ≡ inside b c
  unfolding is_digit is_between
  by_digit p q = rw (p, q)

  by_other : first b c ≡ false → is_ascii_digit c ≡ false → eqb c 95 ≡ inside b c
  unfolding is_digit is_between
  by_other p q = rw (p, q)

pub returns-then-is_ascii_digit : goal.returns-then-is_ascii_digit
returns-then-is_ascii_digit c =
    elim c.if-is_first.branch [
      | then-is_first w ↦ c.if-is_ascii_digit.true ∙ by_first c.args.var c.args.c (sym c.is_first.ensures ∙ w.if-is_first.true)
      | else-is_first w ↦
          c.if-is_ascii_digit.true
          ∙ by_digit c.args.var c.args.c (sym c.is_first.ensures ∙ w.if-is_first.false)
          (sym w.is_ascii_digit.ensures.value ∙ sym w.value-is ∙ c.if-is_ascii_digit.true)
    ]

pub returns-else-is_ascii_digit : goal.returns-else-is_ascii_digit
returns-else-is_ascii_digit c =
    elim c.if-is_first.branch [
      | then-is_first w ↦ cc (w.value-is, w.if-is_first.true, c.if-is_ascii_digit.false)
      | else-is_first w ↦
          by_other c.args.var c.args.c (sym c.is_first.ensures ∙ w.if-is_first.false)
          (sym w.is_ascii_digit.ensures.value ∙ sym w.value-is ∙ c.if-is_ascii_digit.false)
    ]
