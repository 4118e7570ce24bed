-- `read_tuples::spot` meets its contract. The relation is looked up by name and arity (7), the elements are tested (9, 18), and the rest is arithmetic.
use Prim.Native.Nat.{◌+◌, ◌≤◌, ◌<◌}
use mathlib.Core.Path.{sym, ◌∙◌, ◌≡◌}
use mathlib.Core.Bool.{true, false}
use native.Mathlib.Omega.{arith}
use Rattle.std.specs.Prelude.{None}
use Rattle.std.proofs.lemmas.Grind.{common_steps}
use Rattle.read_tuples.proofs.Naming.{list_count, list_fits}
use Rattle.read_line.specs.Entries.{list_of}
use Rattle.read_tuples.proofs.Adding.{no_signature, spot_unknown, found_bounds, spot_outside, spot_nobody, row_limit, spot_bit}
use lib.ListN.{get_or}
use mathlib.Core.List.{[]}
use Rattle.read_tuples.proofs.spot.Goals as goal
use Rattle.read_tuples.proofs.spot.Goals.{In-Some}

-- the relation is one of those looked up, and has as many places as the tuple
bounds : (c : In-Some)
    → let a = c.args in let i = c.in-Some.i in
    (a.line.first ≤ i) × (i < a.line.first + a.line.count) × (get_or a.arity.now i 0 ≡ c.count-k.result)
bounds c =
    let l = c.args.line in
    let count = list_count _ _ _ _ c.requires.2 _ c.count-k.ensures in
    found_bounds _ _ _ _ 0 [] _ (list_of c.args.s.now (l.tab + 1) l.end l.places) _ count _ (c.lookup.ensures no_signature) _ c.in-Some.is

pub returns-in-None : goal.returns-in-None
returns-in-None c =
    λ ls L g.
    let count = list_count _ _ _ _ c.requires.2 _ c.count-k.ensures in
    let row = rw (c.elements-v.ensures ls L) at c.row.ensures in
    spot_nobody _ _ _ _ _ ls _ _ _ count _
    (c.lookup.ensures g) _ c.in-Some.is _ row L.fit c.in-None.is
    (list_fits _ _ _ _ c.requires.2 _ true (λ fs d. sym c.if-all_fit.true ∙ c.all_fit.ensures fs d))

pub word_of-requires : goal.word_of-requires
word_of-requires c =
    let b = bounds (goal.at.word_of-requires c).In-Some in
    let p = c.requires in
    (omega arith, b.0, omega (arith, p.0.few), p.0.length_arity, λ j h. p.0.arities j (omega arith))

pub overflow_mul-result : goal.overflow_mul-result
overflow_mul-result c = omega (arith, bounds (goal.at.overflow_mul-result c).In-Some, c.word_of.ensures.1, c.requires.0.few)

pub overflow_add-result : goal.overflow_add-result
overflow_add-result c =
    let p = c.requires in let b = bounds (goal.at.overflow_add-result c).In-Some in
    let count = list_count _ _ _ _ p.2 _ c.count-k.ensures in
    let row = rw (c.elements-v.ensures p.3.0 p.3.1) at c.row.ensures in
    let three = p.0.arities c.in-Some.i (omega arith) in
    omega (
      arith,
      c.word_of.ensures.1,
      p.0.few,
      row_limit _ _ _ _ _ p.3.0 _ _ _ count _ (c.lookup.ensures no_signature) _ c.in-Some.is _ row _ c.in-Some-row.is _
          (c.word_of.ensures.0 no_signature _ _, c.word_of.ensures.1) (omega arith) (omega arith),
    )

pub returns-in_default : goal.returns-in_default
returns-in_default c =
    λ ls L g.
    let count = list_count _ _ _ _ c.requires.2 _
    c.count-k.ensures in
    spot_unknown _ _ _ _ _ ls _ _ _ count _ (c.lookup.ensures g) (let e : c.lookup.result ≡ None = grind (arith, common_steps) in e)

pub returns-in-None-2 : goal.returns-in-None-2
returns-in-None-2 c =
    λ ls L g.
    let count = list_count _ _ _ _ c.requires.2 _ c.count-k.ensures in
    spot_outside _ _ _ _ _ ls _ _ _ count _ (c.lookup.ensures g) _ c.in-Some.is
    (list_fits _ _ _ _ c.requires.2 _ false (λ fs d. sym c.if-all_fit.false ∙ c.all_fit.ensures fs d))

pub returns-in-Some-row : goal.returns-in-Some-row
returns-in-Some-row c =
    λ ls L g.
    let p = c.requires in let b = bounds (goal.at.returns-in-Some-row c).In-Some in
    let count = list_count _ _ _ _ p.2 _ c.count-k.ensures in
    let row = rw (c.elements-v.ensures ls L) at c.row.ensures in
    let three = p.0.arities c.in-Some.i (omega arith) in
    spot_bit _ _ _ _ _ ls _ _ _ count _ (c.lookup.ensures g) _ c.in-Some.is _ row _ c.in-Some-row.is _
    (c.word_of.ensures.0 g _ _, c.word_of.ensures.1) (omega arith) (omega arith)
