use Prim.Native.Nat.{◌+◌, ◌≤◌, ℕ, ◌<◌}
use mathlib.Core.Path.{◌≡◌, refl, sym, ◌∙◌}
use native.Mathlib.Omega.{arith}
use borrow.Author.Rules.{rules}
use lib.Dec.{eqb}
use lib.ListN.{length, set}
use Rattle.rows.specs.Values.{value_in}
use Rattle.rows.specs.Laws.{within_set}
use Rattle.eval_rule.specs.Lines.{lines_length, leaf_at, element_in, value_of}
use Rattle.eval_rule.specs.Says.{IsCell}
use Rattle.eval_rule.specs.Laws.{level_small, parts_small, range_inside, element_small, rises, steady_start, steady_next, values_are}
use Rattle.eval_rule.specs.Laws.{value_small, turns_start, parts_start, parts_next, ends, part_ends, part_goes, none_goes}
use Rattle.eval_rule.specs.Laws.{none_ends, cell_node, cell_leaf, known_is, later_over, still_is, passed_none, passed_over, passed_back}
use Rattle.eval_rule.specs.Laws.{agree_is, passed_next, cell_known, fixed_ends}
use Rattle.eval_rule.proofs.+node_holds.Goals as goal
use Rattle.eval_rule.proofs.+node_holds.Goals.{After-node_at-x, Joined-is_known, then-is_known, else-is_known+then-q-eq0, else-is_known+else-q-eq0}

-- what the node's line says is small: its level, where its parts end, where its range ends
line-says : (t : ℕ) (c : After-node_at-x t)
    → let x = c.node_at-x.result in (x.level < 4) × (x.first + x.many ≤ 64) × (x.range + x.count ≤ lines_length)
line-says t c =
    let p = c.requires in let e = c.node_at-x.ensures in (level_small _ _ p.0 _ p.1 _ e, parts_small _ _ p.0 _ p.1 _ e, range_inside _ _ p.0 _ p.1 _ e)

-- what a part gives: what is known of it, a node by its own call, a literal by its line
cell : (t : ℕ) (c : Joined-is_known t) →
    let a = c.args in let x = c.node_at-x in let e = c.elements in let u = c.value_at in let o = c.parts in IsCell a.n a.lines.now (leaf_at a.facts.now a.picks.now a.n) a.v (value_in (set e.values x.result.level u.result)) o.i c.if-is_known.b
cell t c =
    let parts-test = c.parts-test in let e = c.elements in let x = c.node_at-x in let a = c.args in let u = c.value_at in let o = c.parts in let f = c.is_fixed-fixed in let q = c.part_at-q in let k = c.is_known in elim c.if-is_known.branch [
      | then-is_known w ↦ let z = known_is f.result o.i o.seen k.result k.ensures w.if-is_known.true in
          cell_known a.n a.lines.now (leaf_at a.facts.now a.picks.now a.n) a.v x.result.level x.result.first x.result.many (eqb x.result.join 1)
          (value_in (set e.values x.result.level u.result)) o.seen o.invariant.4 o.i z.1 (sym f.ensures ∙ z.0) c.if-is_known.b w.b-is
      | else-is_known+then-q-eq0 w ↦
          cell_node a.n a.lines.now (leaf_at a.facts.now a.picks.now a.n) a.v x.result x.ensures o.i (omega (arith, parts-test.true)) q.result q.ensures
          (set e.values x.result.level u.result) c.if-is_known.b w.if-q-eq0.true (λ H root h. w.b-is ∙ w.node_holds.ensures H root h)
      | else-is_known+else-q-eq0 w ↦
          cell_leaf a.n a.lines.now (leaf_at a.facts.now a.picks.now a.n) a.v x.result x.ensures o.i (omega (arith, parts-test.true)) q.result q.ensures
          (set e.values x.result.level u.result) c.if-is_known.b w.if-q-eq0.false
          (within_set a.n e.values x.result.level u.result
          (value_small _ _ _ _ _ u.ensures
          (element_small _ _ c.requires.0 _ c.requires.1 _ x.ensures e.turn (omega
          (arith, c.elements-test.true, e.invariant.0))) (c.requires.2 x.result.level)) e.invariant.3)
          (w.b-is ∙ w.leaf_holds.ensures)
    ]

pub node_at-x-requires : goal.node_at-x-requires
node_at-x-requires t c = (c.requires.0.whole, c.requires.1)

pub offset_bounds-env-level : goal.offset_bounds-env-level
offset_bounds-env-level t c = omega (arith, (line-says t (goal.at.offset_bounds-env-level t c).After-node_at-x).0)

pub bounds-env-level : goal.bounds-env-level
bounds-env-level t c = omega (arith, (line-says t (goal.at.bounds-env-level t c).After-node_at-x).0)

pub elements-init : goal.elements-init
elements-init t c =
    let a = c.args in let x = c.node_at-x in let len : length a.env ≡ 4 = search rules in (
      omega arith,
      refl,
      steady_start a.env x.result.level (omega (arith, len, level_small _ _ c.requires.0 _ c.requires.1 _ x.ensures)),
      c.requires.2,
      turns_start a.n a.lines.now (leaf_at a.facts.now a.picks.now a.n) a.v x.result (value_in a.env) x.ensures,
      passed_none a.n a.lines.now (leaf_at a.facts.now a.picks.now a.n) a.v x.result.level x.result.first x.result.many (eqb x.result.join 1)
          (value_in a.env),
    )

pub overflow_add-range : goal.overflow_add-range
overflow_add-range t c = omega (arith, (line-says t (goal.at.overflow_add-range t c).After-node_at-x).2)

pub value_at-requires : goal.value_at-requires
value_at-requires t c = omega (arith, c.requires.0.whole, (line-says t (goal.at.value_at-requires t c).After-node_at-x).2, c.elements-test.true, c.elements.invariant.0)

pub offset_bounds-values-level : goal.offset_bounds-values-level
offset_bounds-values-level t c = omega (arith, (line-says t (goal.at.offset_bounds-values-level t c).After-node_at-x).0)

pub bounds-values-level : goal.bounds-values-level
bounds-values-level t c = omega (arith, (line-says t (goal.at.bounds-values-level t c).After-node_at-x).0)

pub parts-init : goal.parts-init
parts-init t c =
    let a = c.args in let x = c.node_at-x in let e = c.elements in let u = c.value_at in (
      omega arith,
      omega arith,
      e.invariant.1,
      parts_start a.n a.lines.now (leaf_at a.facts.now a.picks.now a.n) a.v
          x.result.kind x.result.level x.result.many (eqb x.result.join 1) (eqb x.result.kind 1)
          (value_in (set e.values x.result.level u.result)),
      passed_over _ _ _ _ x.result.level x.result.first x.result.many (eqb x.result.join 1) (value_in a.env) (value_in (set e.values x.result.level u.result)) _
          e.seen (values_are a.env _ _ _ _ e.values e.invariant.2 u.ensures) e.invariant.5,
    )

pub overflow_add-first : goal.overflow_add-first
overflow_add-first t c = omega (arith, (line-says t (goal.at.overflow_add-first t c).After-node_at-x).1)

pub is_fixed-fixed-requires : goal.is_fixed-fixed-requires
is_fixed-fixed-requires t c = (c.requires.0.whole, omega (arith, (line-says t (goal.at.is_fixed-fixed-requires t c).After-node_at-x).1, c.parts-test.true), (line-says t (goal.at.is_fixed-fixed-requires t c).After-node_at-x).0)

pub overflow_add-first-in-parts : goal.overflow_add-first-in-parts
overflow_add-first-in-parts t c = omega (arith, (line-says t (goal.at.overflow_add-first-in-parts t c).After-node_at-x).1)

pub part_at-q-requires : goal.part_at-q-requires
part_at-q-requires t c = let x = c.node_at-x in (c.requires.0.whole, omega (arith, parts_small _ _ c.requires.0 _ c.requires.1 _ x.ensures, c.parts-test.true))

pub node_holds-requires : goal.node_holds-requires
node_holds-requires t c =
    let u = c.value_at in let elements-test = c.elements-test in let e = c.elements in let x = c.node_at-x in let a = c.args in let o = c.parts in let q = c.part_at-q in let higher = rises _ _ c.requires.0 _ c.requires.1 _ x.ensures o.i q.result (omega
    (arith, c.parts-test.true)) q.ensures c.if-q-eq0.true in (
      omega (arith, c.decreases, higher.0),
      (
        c.requires.0,
        higher.1,
        within_set a.n e.values x.result.level u.result
            (value_small _ _ _ _ _ u.ensures
            (element_small _ _ c.requires.0 _ c.requires.1 _ x.ensures e.turn (omega (arith, elements-test.true, e.invariant.0))) (c.requires.2 x.result.level)) e.invariant.3,
      ),
    )

pub overflow_add-first-else-q-eq0 : goal.overflow_add-first-else-q-eq0
overflow_add-first-else-q-eq0 t c = omega (arith, (line-says t (goal.at.overflow_add-first-else-q-eq0 t c).After-node_at-x).1, c.parts-test.true)

pub leaf_holds-requires : goal.leaf_holds-requires
leaf_holds-requires t c =
    let u = c.value_at in let elements-test = c.elements-test in let e = c.elements in let x = c.node_at-x in let a = c.args in (
      c.requires.0,
      omega (arith, parts_small _ _ c.requires.0 _ c.requires.1 _ x.ensures, c.parts-test.true),
      within_set a.n e.values x.result.level u.result
          (value_small _ _ _ _ _ u.ensures
          (element_small _ _ c.requires.0 _ c.requires.1 _ x.ensures e.turn (omega (arith, elements-test.true, e.invariant.0))) (c.requires.2 x.result.level)) e.invariant.3,
    )

pub elements-preserved-then-b-joins : goal.elements-preserved-then-b-joins
elements-preserved-then-b-joins t c =
    let parts-test = c.parts-test in let o = c.parts in let u = c.value_at in let elements-test = c.elements-test in let e = c.elements in let x = c.node_at-x in let a = c.args in (
      omega (arith, elements-test.true, e.invariant.0),
      o.invariant.2,
      steady_next a.env x.result.level e.values u.result e.invariant.2,
      within_set a.n e.values x.result.level u.result
          (value_small _ _ _ _ _ u.ensures
          (element_small _ _ c.requires.0 _ c.requires.1 _ x.ensures e.turn (omega (arith, elements-test.true, e.invariant.0))) (c.requires.2 x.result.level)) e.invariant.3,
      part_goes _ _ _ _ _ _ _ _ _ _ _ _ _ e.invariant.4 (omega (arith, elements-test.true, e.invariant.0))
          (value_in (set e.values x.result.level u.result)) (values_are a.env _ _ _ _ e.values e.invariant.2 u.ensures)
          o.i o.invariant.3 _ (agree_is (eqb x.result.join 1) (eqb x.result.kind 1))
          c.if-is_known.b _ (omega (arith, parts-test.true)) (cell t ((goal.at.elements-preserved-then-b-joins t c).Joined-is_known)) (agree_is c.if-is_known.b (eqb x.result.join 1)) c.if-b-joins.true c.if-decisive.false,
      passed_back _ _ _ _ x.result.level x.result.first x.result.many (eqb x.result.join 1) (value_in a.env) (value_in (set e.values x.result.level u.result)) _
          o.seen (values_are a.env _ _ _ _ e.values e.invariant.2 u.ensures) o.invariant.4,
    )

pub overflow_add-i : goal.overflow_add-i
overflow_add-i t c = omega (arith, (line-says t (goal.at.overflow_add-i t c).After-node_at-x).1, c.parts-test.true)

pub parts-preserved : goal.parts-preserved
parts-preserved t c =
    let parts-test = c.parts-test in let o = c.parts in let u = c.value_at in let e = c.elements in let x = c.node_at-x in let a = c.args in let l = c.max-seen in (
      omega (arith, parts-test.true),
      (later_over o.seen (o.i + 1) l.result l.ensures).1,
      o.invariant.2,
      parts_next a.n a.lines.now (leaf_at a.facts.now a.picks.now a.n) a.v
          x.result.kind x.result.level x.result.many (eqb x.result.join 1) (eqb x.result.kind 1)
          (value_in (set e.values x.result.level u.result)) o.i o.invariant.3
          c.if-is_known.b _ (omega (arith, parts-test.true)) (cell t ((goal.at.parts-preserved t c).Joined-is_known)) (agree_is c.if-is_known.b (eqb x.result.join 1)) c.if-b-joins.false,
      passed_next a.n a.lines.now (leaf_at a.facts.now a.picks.now a.n) a.v x.result.level x.result.first x.result.many
          (eqb x.result.join 1) (value_in (set e.values x.result.level u.result)) o.seen o.invariant.4 o.i
          (still_is a.n a.lines.now (leaf_at a.facts.now a.picks.now a.n) a.v x.result x.ensures)
          c.if-is_known.b _ o.invariant.1 (omega (arith, parts-test.true)) (cell t ((goal.at.parts-preserved t c).Joined-is_known)) (agree_is c.if-is_known.b (eqb x.result.join 1)) c.if-b-joins.false l.result l.ensures,
    )

pub elements-preserved : goal.elements-preserved
elements-preserved t c =
    let elements-test = c.elements-test in let x = c.node_at-x in let a = c.args in let e = c.elements in let u = c.value_at in let o = c.parts in (
      omega (arith, elements-test.true, e.invariant.0),
      o.invariant.2,
      steady_next a.env x.result.level e.values u.result e.invariant.2,
      within_set a.n e.values x.result.level u.result
          (value_small _ _ _ _ _ u.ensures
          (element_small _ _ c.requires.0 _ c.requires.1 _ x.ensures e.turn (omega (arith, elements-test.true, e.invariant.0))) (c.requires.2 x.result.level)) e.invariant.3,
      none_goes _ _ _ _ _ _ _ _ _ _ _ _ _ e.invariant.4 (omega (arith, elements-test.true, e.invariant.0))
          (value_in (set e.values x.result.level u.result)) (values_are a.env _ _ _ _ e.values e.invariant.2 u.ensures)
          o.i o.invariant.3 _ (agree_is (eqb x.result.join 1) (eqb x.result.kind 1))
          (omega arith) c.if-decisive-2.true,
      passed_back _ _ _ _ x.result.level x.result.first x.result.many (eqb x.result.join 1) (value_in a.env) (value_in (set e.values x.result.level u.result)) _
          o.seen (values_are a.env _ _ _ _ e.values e.invariant.2 u.ensures) o.invariant.4,
    )

pub returns-after-elements : goal.returns-after-elements
returns-after-elements t c = let x = c.node_at-x in let e = c.elements in ends _ _ _ _ _ _ _ _ _ _ _ _ _ e.invariant.4 e.answer (omega arith) e.invariant.1

pub returns-then-decisive : goal.returns-then-decisive
returns-then-decisive t c =
    let o = c.parts in let u = c.value_at in let elements-test = c.elements-test in let e = c.elements in let x = c.node_at-x in let a = c.args in part_ends _ _ _ _ _ _ _ _ _ _ _ _ _ e.invariant.4 (omega (arith, elements-test.true, e.invariant.0))
    (value_in (set e.values x.result.level u.result)) (values_are a.env _ _ _ _ e.values e.invariant.2 u.ensures)
    o.i o.invariant.3 _ (agree_is (eqb x.result.join 1) (eqb x.result.kind 1))
    c.if-is_known.b _ (omega (arith, c.parts-test.true)) (cell t ((goal.at.returns-then-decisive t c).Joined-is_known)) (agree_is c.if-is_known.b (eqb x.result.join 1)) c.if-b-joins.true c.if-decisive.true

pub returns-then-fixed : goal.returns-then-fixed
returns-then-fixed t c =
    let parts-test = c.parts-test in let o = c.parts in let u = c.value_at in let e = c.elements in let x = c.node_at-x in let a = c.args in let f = c.is_fixed-fixed in fixed_ends _ _ _ _ _ _ _ _ _ _ _ _ _ e.invariant.4 x.result.first (still_is a.n a.lines.now (leaf_at a.facts.now a.picks.now a.n) a.v x.result x.ensures)
    (value_in (set e.values x.result.level u.result))
    (value_of x.result.kind (element_in a.lines.now x.result.range e.turn) (value_in a.env x.result.level))
    (values_are a.env _ _ _ _ e.values e.invariant.2 u.ensures)
    o.i (omega (arith, parts-test.true)) (sym f.ensures ∙ c.if-fixed.true)
    c.if-is_known.b _ (cell t ((goal.at.returns-then-fixed t c).Joined-is_known)) (agree_is c.if-is_known.b (eqb x.result.join 1)) c.if-b-joins.true _ (agree_is (eqb x.result.join 1) (eqb x.result.kind 1)) c.if-decisive.false o.answer o.invariant.2

pub returns-else-decisive-2 : goal.returns-else-decisive-2
returns-else-decisive-2 t c =
    let a = c.args in let x = c.node_at-x in let e = c.elements in let u = c.value_at in let o = c.parts in none_ends _ _ _ _ _ _ _ _ _ _ _ _ _ e.invariant.4 (omega (arith, c.elements-test.true, e.invariant.0))
    (value_in (set e.values x.result.level u.result)) (values_are a.env _ _ _ _ e.values e.invariant.2 u.ensures)
    o.i o.invariant.3 _ (agree_is (eqb x.result.join 1) (eqb x.result.kind 1))
    (omega arith) c.if-decisive-2.false
