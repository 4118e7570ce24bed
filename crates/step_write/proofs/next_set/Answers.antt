use native.Mathlib.Omega.{arith}
use Rattle.bits.specs.Table.{digit}
use Rattle.bits.proofs.Firsts.{first_le}
use Rattle.step_write.specs.Skipping.{none_here, none_there}
use Rattle.step_write.proofs.next_set.Goals as goal

pub overflow_add-i : goal.overflow_add-i
overflow_add-i c = omega (arith, c.lowest.ensures, first_le (digit c.cut-here.result) 64)

pub returns-then-here-ne0 : goal.returns-then-here-ne0
returns-then-here-ne0 c = let m = c.min.ensures in (omega (arith, m), omega (arith, m), none_here _ _ _ c.cut-here.ensures _ (omega (arith, m, c.lowest.ensures)))

pub overflow_add-j : goal.overflow_add-j
overflow_add-j c = omega (arith, c.lowest-2.ensures, first_le (digit c.word_at-there.result) 64, c.next_word-j.ensures.1)

pub returns : goal.returns
returns c =
    let m = c.min-2.ensures in let w = c.next_word-j in (
      omega (arith, m, w.ensures.0),
      omega (arith, m),
      none_there _ _ _ c.cut-here.ensures c.if-here-ne0.false _ (λ k l u. w.ensures.2 k (omega arith) u)
          _ _ c.word_at-there.ensures (omega (arith, m, c.lowest-2.ensures)),
    )
