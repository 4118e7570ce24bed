use Prim.Native.Nat.{ℕ, ◌+◌, ◌*◌, ◌^◌}
use mathlib.Core.Path.{◌≡◌, refl, ap, ◌∙◌}
use native.Mathlib.Omega.{arith}
use borrow.Author.Rules.{rules}
use lib.ListN.{length, take, get_or, length-set, length-map}
use Rattle.rows.specs.Values.{weight_of}
use Rattle.rows.specs.Laws.{weight_none, weight_most, value_most, weight_turn, product_most}
use Rattle.rows.proofs.weights.Goals as goal

pub loop-i-init : goal.loop-i-init
loop-i-init c = (omega arith, refl, weight_none c.args.n c.args.levels)

pub times-w-requires : goal.times-w-requires
times-w-requires c =
    let len : length c.args.levels ≡ 4 = search rules in (
      omega arith,
      λ l. omega (
        arith,
        value_most c.loop-i.w
            (weight_of c.args.n (take c.loop-i.i c.args.levels)) (65 ^ 4) c.loop-i.invariant.2
            (weight_most c.args.n c.loop-i.i c.args.levels (omega arith) (omega arith) (omega arith)
            (omega arith)) l,
      ),
    )

pub offset_bounds-w-l : goal.offset_bounds-w-l
offset_bounds-w-l c = omega (arith, c.requires.levels c.loop-i.i)

pub bounds-w-l : goal.bounds-w-l
bounds-w-l c =
    let e = ap length c.times-w.ensures in
    omega (arith, c.requires.levels c.loop-i.i, e, length-map c.loop-i.w (λ (x : ℕ). x * c.args.n))

pub overflow_add-w : goal.overflow_add-w
overflow_add-w c =
    let len : length c.args.levels ≡ 4 = search rules in
    omega (
      arith,
      product_most c.args.n (get_or c.args.levels c.loop-i.i 0) c.loop-i.w c.times-w.result (omega arith) c.times-w.ensures
          (value_most c.loop-i.w (weight_of c.args.n (take c.loop-i.i c.args.levels)) (65 ^ 4) c.loop-i.invariant.2 (weight_most c.args.n c.loop-i.i c.args.levels (omega arith) (omega arith) (omega arith) (omega arith))),
    )

pub bounds-w-l-in-loop-i : goal.bounds-w-l-in-loop-i
bounds-w-l-in-loop-i c =
    let e = ap length c.times-w.ensures in
    omega (arith, c.requires.levels c.loop-i.i, e, length-map c.loop-i.w (λ (x : ℕ). x * c.args.n))

pub loop-i-preserved : goal.loop-i-preserved
loop-i-preserved c =
    let len : length c.args.levels ≡ 4 = search rules in
    let e = ap length c.times-w.ensures in (
      omega arith,
      length-set c.times-w.result (get_or c.args.levels c.loop-i.i 0) (get_or c.times-w.result (get_or c.args.levels c.loop-i.i 0) 0 + 1) ∙ e ∙ length-map c.loop-i.w (λ (x : ℕ). x * c.args.n) ∙ c.loop-i.invariant.1,
      weight_turn c.args.n c.loop-i.i c.loop-i.w c.times-w.result c.args.levels len c.loop-i.invariant.1 (omega arith) c.requires.levels c.times-w.ensures c.loop-i.invariant.2,
    )

pub returns : goal.returns
returns c =
    let len : length c.args.levels ≡ 4 = search rules in let e : c.loop-i.i ≡ c.args.width = omega arith in
    let q = c.loop-i.invariant.2 ∙ ap (λ (j : ℕ). weight_of c.args.n (take j c.args.levels)) e in (
      q,
      value_most c.loop-i.w (weight_of c.args.n (take c.args.width c.args.levels))
          (65 ^ 4) q (weight_most c.args.n c.args.width c.args.levels (omega arith) (omega arith)
          (omega arith) (omega arith)),
    )
