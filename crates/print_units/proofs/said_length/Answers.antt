-- `print_units::said_length` meets its contract.
use native.Mathlib.Omega.{arith}
use mathlib.Core.Path.{◌∙◌, refl, sym, ap}
use lib.ListN.{length}
use Rattle.print_bytes.specs.Emitted.{few_digits}
use Rattle.print_units.specs.Units.{said_number, label_length, its_span}
use Rattle.print_units.proofs.said_length.Goals as goal

pub overflow_sub-result : goal.overflow_sub-result
overflow_sub-result c = (its_span c.args.site.now c.args.labels.now c.args.x _ _ c.in-Some.ensures.some.0 c.in-Some.ensures.some.1 _ c.requires (omega arith)).0

pub returns-in-Some : goal.returns-in-Some
returns-in-Some c = (
  label_length c.args.site.now c.args.labels.now c.args.x _ _ c.in-Some.ensures.some.0 c.in-Some.ensures.some.1 _ c.requires (omega arith) c.in-Some.ensures.some.2,
  omega
      (arith, (its_span c.args.site.now c.args.labels.now c.args.x _ _ c.in-Some.ensures.some.0 c.in-Some.ensures.some.1 _ c.requires (omega arith)).2),
)

pub returns-in-None : goal.returns-in-None
returns-in-None c = (
  c.digits.ensures ∙ sym (ap length (said_number c.args.site.now c.args.labels.now c.args.x _ _ refl refl c.in-None.ensures.none)),
  omega (arith, c.digits.ensures, few_digits c.args.x),
)
