-- `print_bytes::decimal` meets its contract.
use Rattle.std.proofs.Common.{arith, length, sym, ap, ◌∙◌}
use Rattle.print_bytes.specs.Emitted.{emits_as, few_digits, printed_front}
use Rattle.print_bytes.proofs.decimal.Goals as goal

pub decimal-count-requires : goal.decimal-count-requires
decimal-count-requires c = omega (arith, few_digits c.args.k)

pub slice_bounds-digits-end : goal.slice_bounds-digits-end
slice_bounds-digits-end c = omega (arith, few_digits c.args.k, c.decimal-count.ensures.place, c.decimal-count.auto.out)

pub slice_bounds-text-end : goal.slice_bounds-text-end
slice_bounds-text-end c = let p = printed_front (few_digits c.args.k) c.decimal-count.ensures in p.0 ∙ ap length (sym p.1)

pub returns : goal.returns
returns c = emits_as (sym (printed_front (few_digits c.args.k) c.decimal-count.ensures).1) c.text.ensures
