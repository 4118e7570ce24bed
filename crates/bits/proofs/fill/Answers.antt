-- `bits::fill`: the words that std fills, and what that is as bits. Assumes nothing.
use native.Mathlib.Omega.{arith}
use mathlib.Core.Path.{◌≡◌, ap, ◌∙◌}
use mathlib.Core.List.{List, ◌++◌}
use Prim.Native.Nat.{ℕ}
use lib.ListN.{length, length-take, take, drop, replicate}
use Rattle.bits.specs.Table.{bit}
use Rattle.bits.proofs.Laws.{bit_fill}
use Rattle.bits.proofs.fill.Goals as goal

pub returns : goal.returns
returns c =
    let t = c.args.words.now in let n = c.args.count in
    let many : length (take n t) ≡ n = omega (arith, length-take n t) in
    let is : c.fill.new.self ++ drop n t ≡ replicate n 0 ++ drop n t
    = ap (λ (x : List ℕ). x ++ drop n t) (c.fill.ensures.after (λ y h. h) ∙ ap (λ (k : ℕ). replicate k 0) many) in
    (is, ap bit is ∙ bit_fill t n c.requires)
