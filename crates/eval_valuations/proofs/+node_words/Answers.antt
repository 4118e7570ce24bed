use Prim.Native.Nat.{◌+◌, ◌≤◌, ℕ, ◌<◌}
use mathlib.Core.Path.{◌≡◌, refl, ap, ◌∙◌}
use native.Mathlib.Omega.{arith}
use borrow.Author.Rules.{rules}
use lib.Dec.{eqb}
use lib.ListN.{length, set}
use Rattle.rows.specs.Values.{value_in, Within}
use Rattle.rows.specs.Laws.{within_set}
use Rattle.bits.specs.Table.{digit}
use Rattle.eval_rule.specs.Lines.{lines_length, element_in}
use Rattle.eval_rule.specs.Laws.{level_small, parts_small, range_inside, element_small, rises, steady_start, steady_next, values_are, value_small, still_is, same_value}
use Rattle.eval_valuations.specs.Words.{leaf_in}
use Rattle.eval_valuations.specs.Laws.{IsPart, settled_none, settled_more, settled_over, parts_begin, turns_begin, parts_more, turns_more, node_ends, part_node, part_leaf, skip_on}
use Rattle.eval_valuations.proofs.+node_words.Goals as goal
use Rattle.eval_valuations.proofs.+node_words.Goals.{After-node_at-x, After-value_at, Joined-q-eq0, Start, then-q-eq0, else-q-eq0}

-- what the node's line says is small: its level, where its parts end, where its range ends
line-says : (t : ℕ) (c : After-node_at-x t)
    → let x = c.node_at-x.result in (x.level < 4) × (x.first + x.many ≤ 64) × (x.range + x.count ≤ lines_length)
line-says t c =
    let p = c.requires in let e = c.node_at-x.ensures in (level_small _ _ p.0 _ p.1 _ e, parts_small _ _ p.0 _ p.1 _ e, range_inside _ _ p.0 _ p.1 _ e)

env_length : (t : ℕ) (c : Start t) → length c.args.env ≡ 4
env_length t c = search rules

-- the values in a turn are elements
module _ (t : ℕ) (c : After-value_at t) where
  within : Within c.args.n (set c.elements.values c.node_at-x.result.level c.value_at.result)
  within =
      let x = c.node_at-x in let e = c.elements in within_set c.args.n e.values x.result.level c.value_at.result
      (value_small _ _ _ _ _ c.value_at.ensures (element_small _ _ c.requires.0 _ c.requires.1 _ x.ensures e.turn c.elements-test.true) (c.requires.2 x.result.level)) e.invariant.2

-- what a part gives: a node by its own call, a literal by its line
part : (t : ℕ) (c : Joined-q-eq0 t)
    → Within c.args.n (set c.elements.values c.node_at-x.result.level c.value_at.result)
    → let a = c.args in let x = c.node_at-x in let e = c.elements in IsPart a.n a.lines.now a.facts.now a.pos.now a.neg.now a.v (value_in (set e.values x.result.level c.value_at.result)) c.parts.i c.if-q-eq0.w
part t c inside =
    let a = c.args in let x = c.node_at-x in let e = c.elements in let o = c.parts in let q = c.part_at-q in let u = c.value_at in elim c.if-q-eq0.branch [
      | then-q-eq0 w ↦ part_node a.n a.lines.now a.facts.now a.pos.now a.neg.now a.v x.result x.ensures o.i (omega (arith, c.parts-test.true)) q.result q.ensures
          (set e.values x.result.level u.result) c.if-q-eq0.w w.if-q-eq0.true (λ j l H root h. ap (λ (z : ℕ). digit z j) w.w-is ∙ w.node_words-w.ensures j l H root h)
      | else-q-eq0 w ↦ part_leaf a.n a.lines.now a.facts.now a.pos.now a.neg.now a.v x.result x.ensures o.i (omega (arith, c.parts-test.true)) q.result q.ensures
          (set e.values x.result.level u.result) c.if-q-eq0.w w.if-q-eq0.false inside (w.w-is ∙ w.leaf_words-w.ensures)
    ]

pub node_at-x-requires : goal.node_at-x-requires
node_at-x-requires t c = (c.requires.0.whole, c.requires.1)

pub offset_bounds-env-level : goal.offset_bounds-env-level
offset_bounds-env-level t c = omega (arith, (line-says t (goal.at.offset_bounds-env-level t c).After-node_at-x).0)

pub bounds-env-level : goal.bounds-env-level
bounds-env-level t c = omega (arith, (line-says t (goal.at.bounds-env-level t c).After-node_at-x).0)

pub elements-init : goal.elements-init
elements-init t c =
    let a = c.args in let x = c.node_at-x in let len = env_length t (goal.at.elements-init t c).Start in (
      omega arith,
      steady_start a.env x.result.level (omega (arith, len, (line-says t (goal.at.elements-init t c).After-node_at-x).0)),
      c.requires.2,
      turns_begin a.n a.lines.now a.facts.now a.pos.now a.neg.now a.v
          x.result.kind x.result.level x.result.many (eqb x.result.join 1) (eqb x.result.kind 1) (value_in a.env) (element_in a.lines.now x.result.range) x.result.count,
    )

pub overflow_add-range : goal.overflow_add-range
overflow_add-range t c = omega (arith, (line-says t (goal.at.overflow_add-range t c).After-node_at-x).2)

pub value_at-requires : goal.value_at-requires
value_at-requires t c = omega (arith, c.requires.0.whole, (line-says t (goal.at.value_at-requires t c).After-node_at-x).2, c.elements-test.true)

pub offset_bounds-values-level : goal.offset_bounds-values-level
offset_bounds-values-level t c = omega (arith, (line-says t (goal.at.offset_bounds-values-level t c).After-node_at-x).0)

pub bounds-values-level : goal.bounds-values-level
bounds-values-level t c = omega (arith, (line-says t (goal.at.bounds-values-level t c).After-node_at-x).0)

pub parts-init : goal.parts-init
parts-init t c =
    let a = c.args in let x = c.node_at-x in let e = c.elements in (
      omega arith,
      parts_begin a.n a.lines.now a.facts.now a.pos.now a.neg.now a.v
          x.result.kind x.result.level x.result.many (eqb x.result.join 1) (eqb x.result.kind 1) (value_in (set e.values x.result.level c.value_at.result)),
      settled_none a.n a.lines.now a.facts.now a.pos.now a.neg.now a.v
          x.result.kind x.result.level x.result.many (eqb x.result.join 1) (eqb x.result.kind 1) (value_in (set e.values x.result.level c.value_at.result)),
    )

pub overflow_add-first : goal.overflow_add-first
overflow_add-first t c = omega (arith, (line-says t (goal.at.overflow_add-first t c).After-node_at-x).1)

pub part_at-q-requires : goal.part_at-q-requires
part_at-q-requires t c = (c.requires.0.whole, omega (arith, (line-says t (goal.at.part_at-q-requires t c).After-node_at-x).1, c.parts-test.true))

pub node_words-w-requires : goal.node_words-w-requires
node_words-w-requires t c =
    let x = c.node_at-x in let q = c.part_at-q in let higher = rises _ _ c.requires.0 _ c.requires.1 _ x.ensures c.parts.i q.result (omega (arith, c.parts-test.true)) q.ensures c.if-q-eq0.true in
    (omega (arith, c.decreases, higher.0), (c.requires.0, higher.1, within t (goal.at.node_words-w-requires t c).After-value_at))

pub overflow_add-first-else-q-eq0 : goal.overflow_add-first-else-q-eq0
overflow_add-first-else-q-eq0 t c = omega (arith, (line-says t (goal.at.overflow_add-first-else-q-eq0 t c).After-node_at-x).1, c.parts-test.true)

pub leaf_words-w-requires : goal.leaf_words-w-requires
leaf_words-w-requires t c = (c.requires.0, omega (arith, (line-says t (goal.at.leaf_words-w-requires t c).After-node_at-x).1, c.parts-test.true), within t (goal.at.leaf_words-w-requires t c).After-value_at)

pub overflow_add-first-in-parts : goal.overflow_add-first-in-parts
overflow_add-first-in-parts t c = omega (arith, (line-says t (goal.at.overflow_add-first-in-parts t c).After-node_at-x).1, c.parts-test.true)

pub is_fixed-f-requires : goal.is_fixed-f-requires
is_fixed-f-requires t c = (c.requires.0.whole, omega (arith, (line-says t (goal.at.is_fixed-f-requires t c).After-node_at-x).1, c.parts-test.true), (line-says t (goal.at.is_fixed-f-requires t c).After-node_at-x).0)

pub overflow_add-i : goal.overflow_add-i
overflow_add-i t c = omega (arith, c.parts-test.true)

pub parts-smaller : goal.parts-smaller
parts-smaller t c = let (a, b) = skip_on _ _ _ _ c.parts-test.true c.skip-i.ensures in omega arith

pub parts-preserved : goal.parts-preserved
parts-preserved t c =
    let a = c.args in let x = c.node_at-x in let e = c.elements in let o = c.parts in let θ = set e.values x.result.level c.value_at.result in (
      (skip_on _ _ _ _ c.parts-test.true c.skip-i.ensures).1,
      parts_more a.n a.lines.now a.facts.now a.pos.now a.neg.now a.v
          x.result.kind x.result.level x.result.many (eqb x.result.join 1) (eqb x.result.kind 1) (value_in θ)
          o.i o.hit c.if-q-eq0.w c.turned-t.result _ _ c.parts-test.true o.invariant.1 (part t (goal.at.parts-preserved t c).Joined-q-eq0 (within t (goal.at.parts-preserved t c).After-value_at)) c.turned-t.ensures refl c.skip-i.ensures,
      settled_more a.n a.lines.now a.facts.now a.pos.now a.neg.now a.v
          x.result.kind x.result.level x.result.many (eqb x.result.join 1) (eqb x.result.kind 1) x.result.first
          (λ j. still_is a.n a.lines.now (leaf_in a.facts.now a.pos.now a.neg.now a.n j) a.v x.result x.ensures) (value_in θ) (value_in θ) _ (same_value (value_in θ) x.result.level)
          o.i o.still c.if-q-eq0.w c.turned-t.result c.only-o.result _ c.is_fixed-f.result c.parts-test.true o.invariant.2 (part t (goal.at.parts-preserved t c).Joined-q-eq0 (within t (goal.at.parts-preserved t c).After-value_at)) c.turned-t.ensures c.is_fixed-f.ensures c.only-o.ensures refl,
    )

pub overflow_add-turn : goal.overflow_add-turn
overflow_add-turn t c = omega (arith, c.elements-test.true)

pub elements-smaller : goal.elements-smaller
elements-smaller t c = let (a, b) = skip_on _ _ _ _ c.elements-test.true c.skip-turn.ensures in omega arith

pub elements-preserved : goal.elements-preserved
elements-preserved t c =
    let a = c.args in let x = c.node_at-x in let e = c.elements in let o = c.parts in let u = c.value_at in (
      (skip_on _ _ _ _ c.elements-test.true c.skip-turn.ensures).1,
      steady_next a.env x.result.level e.values u.result e.invariant.1,
      within t (goal.at.elements-preserved t c).After-value_at,
      turns_more a.n a.lines.now a.facts.now a.pos.now a.neg.now a.v
          x.result.kind x.result.level x.result.many (eqb x.result.join 1) (eqb x.result.kind 1) (value_in a.env) (value_in (set e.values x.result.level u.result))
          (element_in a.lines.now x.result.range) x.result.count e.turn e.found c.elements-test.true e.invariant.3 (values_are a.env _ _ _ _ e.values e.invariant.1 u.ensures)
          o.i o.hit c.turned.result c.turned-found.result _ o.still _ (omega (arith, c.parts-test.false)) o.invariant.1 c.turned.ensures c.turned-found.ensures refl
          (settled_over a.n a.lines.now a.facts.now a.pos.now a.neg.now a.v x.result.kind x.result.level x.result.many (eqb x.result.join 1) (eqb x.result.kind 1) (value_in a.env) (value_in (set e.values x.result.level u.result)) _ o.still
          (values_are a.env _ _ _ _ e.values e.invariant.1 u.ensures) o.invariant.2) c.skip-turn.ensures,
    )

pub returns : goal.returns
returns t c = let a = c.args in let x = c.node_at-x in let e = c.elements in node_ends a.n a.lines.now a.facts.now a.pos.now a.neg.now a.v x.result (value_in a.env) x.ensures e.turn e.found c.turned-2.result (omega (arith, c.elements-test.false)) e.invariant.3 c.turned-2.ensures
