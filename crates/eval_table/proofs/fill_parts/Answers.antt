use Prim.Native.Nat.{ℕ, ◌^◌}
use mathlib.Core.Path.{◌≡◌, refl, ◌∙◌, subst, ap₂}
use mathlib.Core.List.{List}
use native.Mathlib.Omega.{arith}
use borrow.Author.Rules.{rules}
use lib.ListN.{length}
use Rattle.rows.specs.Values.{Most}
use Rattle.problem_layout.specs.Filled.{splice}
use Rattle.problem_layout.specs.SpliceLaws.{tab_none}
use Rattle.problem_layout.specs.TurnLaws.{one_more}
use Rattle.eval_table.specs.Numbers.{part_lines, part_turn}
use Rattle.eval_table.proofs.fill_parts.Goals as goal

pub bits_of-bits-requires : goal.bits_of-bits-requires
bits_of-bits-requires c = (c.requires.1, c.requires.2, c.requires.3)

pub loop-i-init : goal.loop-i-init
loop-i-init c = (omega arith, refl, tab_none (part_lines c.args.n c.args.value c.args.g c.args.t) 448 c.args.lines.now, λ u h. absurd (omega arith))

pub offset_bounds-t-i : goal.offset_bounds-t-i
offset_bounds-t-i c = omega (arith, c.requires.4.few_parts)

pub bounds-t-i : goal.bounds-t-i
bounds-t-i c = omega (arith, c.requires.4.few_parts)

pub part_line-line-requires : goal.part_line-line-requires
part_line-line-requires c =
    let bits_of = c.bits_of-bits in let len : length bits_of.result ≡ 18 = search rules in
    (c.requires.1, c.requires.2, c.requires.4.parts.part c.loop-i.i, omega (arith, len), bits_of.ensures.0, bits_of.ensures.1, c.requires.5)

pub overflow_mul-i : goal.overflow_mul-i
overflow_mul-i c = omega (arith, c.requires.4.few_parts)

pub store-requires : goal.store-requires
store-requires c = omega (arith, c.requires.4.few_parts, c.requires.0, c.loop-i.invariant.1)

-- src/lib.rt:213:5
pub loop-i-preserved : goal.loop-i-preserved
loop-i-preserved c =
    let e = c.part_line-line.ensures in (
      omega arith,
      c.store.auto.table ∙ c.loop-i.invariant.1,
      part_turn c.args.n c.args.value
          c.args.g
          c.args.t
          c.loop-i.lines
          c.args.lines.now
          c.store.new.table c.loop-i.i _
          c.requires.0
          (omega (arith, c.requires.4.few_parts)) e.0
          c.loop-i.invariant.2 c.store.ensures,
      one_more (λ (u : ℕ). Most (part_lines c.args.n c.args.value
          c.args.g
          c.args.t u) (2 ^ 32))
          c.loop-i.i
          c.loop-i.invariant.3
          (subst (λ (xs : List ℕ). Most xs (2 ^ 32)) e.0 e.1),
    )

pub part_line-last-requires : goal.part_line-last-requires
part_line-last-requires c =
    let bits_of = c.bits_of-bits in let len : length bits_of.result ≡ 18 = search rules in
    (c.requires.1, c.requires.2, c.requires.4.root, omega (arith, len), bits_of.ensures.0, bits_of.ensures.1, c.requires.5)

pub store-requires-2 : goal.store-requires-2
store-requires-2 c = omega (arith, c.requires.0, c.loop-i.invariant.1)

-- src/lib.rt:206:1
pub returns : goal.returns
returns c =
    let e : c.loop-i.i ≡ c.args.t.placed = omega arith in
    let f = c.part_line-last.ensures in (
      c.store-2.ensures ∙ ap₂ (splice 896) f.0
          (rw e at c.loop-i.invariant.2),
      λ u h.
          c.loop-i.invariant.3 u (omega arith),
      subst
          (λ (xs : List ℕ). Most xs (2 ^ 32)) f.0 f.1,
    )
