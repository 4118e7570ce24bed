use Prim.Native.Nat.{◌^◌}
use mathlib.Core.Path.{refl, ◌∙◌}
use native.Mathlib.Omega.{arith}
use lib.ListN.{get_or, length-set}
use Rattle.problem_layout.specs.LaidLaws.{pow_fits, most_set}
use Rattle.eval_table.specs.Numbers.{words_small, fact_next, choose_next, bits_next, sums_none, zeros_most}
use Rattle.eval_table.proofs.bits_of.Goals as goal

pub loop-r-init : goal.loop-r-init
loop-r-init c = (omega arith, (sums_none c.args.n c.args.g).0, (sums_none c.args.n c.args.g).1, omega arith, omega arith, λ u h. absurd (omega arith), zeros_most 18, refl)

pub power-requires : goal.power-requires
power-requires c = (c.requires.0, pow_fits c.args.n (get_or c.args.g.arity c.loop-r.r 0) c.requires.1 (c.requires.2.arity c.loop-r.r))

pub overflow_add-words : goal.overflow_add-words
overflow_add-words c = omega (arith, words_small c.args.n (get_or c.args.g.arity c.loop-r.r 0) c.power.result c.requires.1 (c.requires.2.arity c.loop-r.r) c.power.ensures)

pub first_bit-requires : goal.first_bit-requires
first_bit-requires c = (omega (arith, c.loop-r.invariant.3), omega (arith, c.loop-r.invariant.4))

pub overflow_add-facts : goal.overflow_add-facts
overflow_add-facts c = omega (arith, c.loop-r.invariant.3, c.fact_words-facts.ensures.1, words_small c.args.n (get_or c.args.g.arity c.loop-r.r 0) c.power.result c.requires.1 (c.requires.2.arity c.loop-r.r) c.power.ensures)

pub overflow_add-picks : goal.overflow_add-picks
overflow_add-picks c = let power-there = c.power in omega (arith, c.loop-r.invariant.4, c.choose_words-picks.ensures.1, words_small c.args.n (get_or c.args.g.arity c.loop-r.r 0) power-there.result c.requires.1 (c.requires.2.arity c.loop-r.r) power-there.ensures)

pub loop-r-preserved : goal.loop-r-preserved
loop-r-preserved c =
    let power-there = c.power in let s = words_small c.args.n (get_or c.args.g.arity c.loop-r.r 0) power-there.result c.requires.1 (c.requires.2.arity c.loop-r.r) power-there.ensures in (
      omega arith,
      fact_next c.args.n c.args.g c.loop-r.r c.loop-r.facts c.fact_words-facts.result power-there.result c.loop-r.invariant.1 power-there.ensures c.fact_words-facts.ensures.0,
      choose_next c.args.n c.args.g c.loop-r.r c.loop-r.picks c.choose_words-picks.result power-there.result c.loop-r.invariant.2 power-there.ensures c.choose_words-picks.ensures.0,
      omega (arith, c.loop-r.invariant.3, c.fact_words-facts.ensures.1, s),
      omega (arith, c.loop-r.invariant.4, c.choose_words-picks.ensures.1, s),
      bits_next c.args.n c.args.g c.loop-r.bits c.loop-r.r c.first_bit.result c.loop-r.facts c.loop-r.picks (omega (arith, c.loop-r.invariant.7)) c.loop-r.invariant.1 c.loop-r.invariant.2 c.first_bit.ensures.0 c.loop-r.invariant.5,
      most_set c.loop-r.bits c.loop-r.r c.first_bit.result (2 ^ 32) (2 ^ 32) c.first_bit.ensures.1 (omega arith) c.loop-r.invariant.6,
      length-set c.loop-r.bits c.loop-r.r c.first_bit.result ∙ c.loop-r.invariant.7,
    )

pub returns : goal.returns
returns c = (λ r h. c.loop-r.invariant.5 r (omega arith), c.loop-r.invariant.6)
