-- `call_allowance::of_case` meets its contract: 11 or 23, 12, or one number for each `choose`. Assumes nothing.
use Prim.Native.Nat.{ℕ, ◌+◌}
use mathlib.Core.Path.{refl, sym, ap, ◌∙◌}
use mathlib.Core.List.{map}
use native.Mathlib.Omega.{arith}
use lib.Seq.{length-take-le}
use Rattle.definitions.specs.Limits.{usual}
use Rattle.definitions.specs.Lists.{from}
use Rattle.definitions.specs.Problem.Atoms.{problem_of}
use Rattle.definitions.specs.Reply.Allowance.{allowance}
use Rattle.meaning.specs.Grounded.{good}
use Rattle.problem_sizes.specs.Refused.{every_told}
use Rattle.problem_of_case.specs.Grounds.{declared, rule_fine, inputs}
use Rattle.std.proofs.lemmas.Result.{err_from_is_err_and}
use Rattle.open_case.specs.Usual.{over_usual, within_usual}
use Rattle.call_allowance.specs.Allows.{allows_over, allows_every, allows_short, allows_written}
use Rattle.call_allowance.proofs.of_case.Goals as goal

pub ranges_of-ranges-requires : goal.ranges_of-ranges-requires
ranges_of-ranges-requires c = let h = c.requires.holds in (h.some_elements, h.few_elements, h.sound.types_le, omega (arith, h.sound.types_le, h.members_are.room))

pub relations_of-g-requires : goal.relations_of-g-requires
relations_of-g-requires c = declared _ _ _ _ c.requires.holds

pub nodes_of-t-requires : goal.nodes_of-t-requires
nodes_of-t-requires c = rule_fine _ _ _ _ c.requires.holds

pub of_tables-m-requires : goal.of_tables-m-requires
of_tables-m-requires c = let h = c.requires.holds in (h.some_elements, h.few_elements, c.relations_of-g.ensures.0, c.nodes_of-t.ensures.fits, c.ranges_of-ranges.ensures.0)

pub returns-in_err-within : goal.returns-in_err-within
returns-in_err-within c =
    let p = err_from_is_err_and c.from_residual.result c.from_residual.ensures.1 in
    λ site facts (x, e, h).
    let T = c.of_tables-m.ensures (problem_of x) _ _ c.ranges_of-ranges.ensures.1 (inputs _ _ x facts h _ _ c.relations_of-g.ensures.1 c.nodes_of-t.ensures) in
    rw (p.1, p.2) (allows_over usual _ site _ _ facts (x, e, h) _ (over_usual x _ T _ c.usual_limits.ensures _ c.in_err-within.ensures))

pub returns-then-m : goal.returns-then-m
returns-then-m c =
    λ site facts (x, e, h).
    let T = c.of_tables-m.ensures (problem_of x) _ _ c.ranges_of-ranges.ensures.1 (inputs _ _ x facts h _ _ c.relations_of-g.ensures.1 c.nodes_of-t.ensures) in
    rw c.at.ensures (allows_every usual _ site _ _ facts (x, e, h) (within_usual x _ T _ c.usual_limits.ensures c.in_ok-within.ensures) _ (every_told x _ T) c.if-m.true)

pub returns-then-out-count : goal.returns-then-out-count
returns-then-out-count c =
    λ site facts (x, e, h).
    let T = c.of_tables-m.ensures (problem_of x) _ _ c.ranges_of-ranges.ensures.1 (inputs _ _ x facts h _ _ c.relations_of-g.ensures.1 c.nodes_of-t.ensures) in
    rw c.at-then-out-count.ensures (allows_short usual _ site _ _ facts (x, e, h) (within_usual x _ T _ c.usual_limits.ensures c.in_ok-within.ensures) _ (every_told x _ T) (omega arith) c.if-m.false c.if-out-count.true)

pub overflow_add-sig : goal.overflow_add-sig
overflow_add-sig c = omega (arith, c.requires.holds.sound.rels_le)

pub slice_bounds-write-end-2 : goal.slice_bounds-write-end-2
slice_bounds-write-end-2 c = sym (length-take-le _ _ (omega arith))

pub write-requires : goal.write-requires
write-requires c = let s = c.requires in let l = length-take-le c.args.o.sig.chosen c.args.out.now (omega arith) in let h = s.holds in (h.some_elements, omega (arith, h.few_elements), c.nodes_of-t.ensures.fits, omega (arith, l, h.sound.rels_le, h.sound.chosen_le))

pub returns : goal.returns
returns c =
    λ site facts (x, e, h).
    let l = length-take-le c.args.o.sig.chosen c.args.out.now (omega (arith, c.if-out-count.false)) in
    let T = c.of_tables-m.ensures (problem_of x) _ _ c.ranges_of-ranges.ensures.1 (inputs _ _ x facts h _ _ c.relations_of-g.ensures.1 c.nodes_of-t.ensures) in
    allows_written usual _ site _ _ facts (x, e, h) (within_usual x _ T _ c.usual_limits.ensures c.in_ok-within.ensures) _ (every_told x _ T) (omega arith) c.if-m.false (omega (arith, c.if-out-count.false)) _ _
    (λ y A i. c.write.ensures (problem_of y) _ _ _ (good y A) (inputs _ _ y facts i _ _ c.relations_of-g.ensures.1 c.nodes_of-t.ensures) ∙ ap (λ (k : ℕ). map (allowance (problem_of y)) (from (5 + c.args.o.sig.rels) k)) l) refl
