use borrow.Author.Rules.{rules}
use lib.Count.{ones, ones-le}
use Rattle.bits.proofs.Laws.{count_le, count_word}
use native.Mathlib.Omega.{arith}
use mathlib.Core.Path.{◌≡◌, ap, ◌∙◌}
use Prim.Native.Nat.{◌+◌, ◌-◌, ◌*◌, ◌<◌}
use lib.ListN.{get_or, take, drop, length-take, length-drop}
use Rattle.bits.specs.Table.{Words, bit, count as count_of}
use Rattle.bits.proofs.ones.Goals as goal
use Rattle.std.proofs.lemmas.List.{get_or-take, get_or-drop}

-- the words are of 64 bits, and the word that is read has at most 64 set
fits : (c : goal.After-row_known-in-loop-w-1) → Words c.args.words.now
fits c j = omega (arith, c.type_inv.words j)

-- the word of the lent part that is read, in the table
read : (c : goal.After-row_known-in-loop-w-1)
    → get_or (take (c.args.from + c.args.count - c.args.from) (drop c.args.from c.args.words.now)) c.loop-w.w-index 0
    ≡ get_or c.args.words.now (c.args.from + c.loop-w.w-index) 0
read c =
    let a = c.args in let l : c.loop-w.w-index < a.from + a.count - a.from = omega (arith, length-take (a.from + a.count - a.from) (drop a.from a.words.now)) in
    get_or-take _ _ _ 0 l ∙ get_or-drop a.from a.words.now _ 0

pub loop-w-init : goal.loop-w-init
unfolding count_of
loop-w-init c = search rules

pub loop-w-preserved : goal.loop-w-preserved
loop-w-preserved c =
    omega (arith, ap ones (read c), count_word c.args.words.now (fits c) c.args.from c.loop-w.w-index)

pub overflow_add-sum : goal.overflow_add-sum
overflow_add-sum c =
    omega (arith, ap ones (read c), ones-le 64 _ (fits c (c.args.from + c.loop-w.w-index)), count_le (bit c.args.words.now) (64 * c.args.from) (64 * c.loop-w.w-index))

pub returns : goal.returns
returns c =
    let t = c.args.words.now in let m = c.args.from + c.args.count - c.args.from in
    let e : c.loop-w.w-index ≡ c.args.count = omega (arith, length-take m (drop c.args.from t), length-drop c.args.from t) in rw e at c.loop-w.invariant
