use native.Mathlib.Omega.{arith}
use borrow.Author.Rules.{rules}
use Prim.Native.Nat.{ℕ, ◌+◌}
use mathlib.Core.Path.{◌≡◌, ◌∙◌, sym, subst}
use lib.ListN.{length-set}
use Rattle.print_page.specs.Naming.{Named, named_none, named_next}
use Rattle.print_page.proofs.names_of.Goals as goal

pub overflow_add-total : goal.overflow_add-total
overflow_add-total c = omega (arith, c.requires.by_index.1.rels_le, c.requires.by_index.1.chosen_le)

pub overflow_add-total-2 : goal.overflow_add-total-2
overflow_add-total-2 c = omega (arith, c.requires.by_index.1.rels_le, c.requires.by_index.1.chosen_le, c.requires.by_index.1.every_le)

pub loop-i-init : goal.loop-i-init
loop-i-init c = (omega arith, omega (arith, c.requires.by_index.1.rels_le, c.requires.by_index.1.chosen_le, c.requires.by_index.1.every_le), search rules, search rules, search rules, named_none _ _ _ _ c.requires.names_len.0 c.requires.names_len.1)

pub offset_bounds-from-i : goal.offset_bounds-from-i
offset_bounds-from-i c = omega (arith, c.loop-i.invariant.1, c.loop-i.invariant.2, c.loop-i.invariant.3, c.loop-i.invariant.4)

pub bounds-from-i : goal.bounds-from-i
bounds-from-i c = omega (arith, c.loop-i.invariant.1, c.loop-i.invariant.2, c.loop-i.invariant.3, c.loop-i.invariant.4)

pub overflow_mul-names : goal.overflow_mul-names
overflow_mul-names c = omega (arith, c.loop-i.invariant.1, c.loop-i.invariant.2, c.loop-i.invariant.3, c.loop-i.invariant.4)

pub overflow_add-names : goal.overflow_add-names
overflow_add-names c = omega (arith, c.loop-i.invariant.1, c.loop-i.invariant.2, c.loop-i.invariant.3, c.loop-i.invariant.4)

pub offset_bounds-names-i : goal.offset_bounds-names-i
offset_bounds-names-i c = omega (arith, c.loop-i.invariant.1, c.loop-i.invariant.2, c.loop-i.invariant.3, c.loop-i.invariant.4)

pub bounds-names-i : goal.bounds-names-i
bounds-names-i c = omega (arith, c.loop-i.invariant.1, c.loop-i.invariant.5.room)

pub offset_bounds-to-i : goal.offset_bounds-to-i
offset_bounds-to-i c = omega (arith, c.loop-i.invariant.1, c.loop-i.invariant.2, c.loop-i.invariant.3, c.loop-i.invariant.4)

pub bounds-to-i : goal.bounds-to-i
bounds-to-i c = omega (arith, c.loop-i.invariant.1, c.loop-i.invariant.2, c.loop-i.invariant.3, c.loop-i.invariant.4)

pub overflow_mul-names-in-loop-i : goal.overflow_mul-names-in-loop-i
overflow_mul-names-in-loop-i c = omega (arith, c.loop-i.invariant.1, c.loop-i.invariant.2, c.loop-i.invariant.3, c.loop-i.invariant.4)

pub overflow_add-names-in-loop-i : goal.overflow_add-names-in-loop-i
overflow_add-names-in-loop-i c = omega (arith, c.loop-i.invariant.1, c.loop-i.invariant.2, c.loop-i.invariant.3, c.loop-i.invariant.4)

pub overflow_add-names-in-loop-i-2 : goal.overflow_add-names-in-loop-i-2
overflow_add-names-in-loop-i-2 c = omega (arith, c.loop-i.invariant.1, c.loop-i.invariant.2, c.loop-i.invariant.3, c.loop-i.invariant.4)

pub offset_bounds-names-i-in-loop-i : goal.offset_bounds-names-i-in-loop-i
offset_bounds-names-i-in-loop-i c = omega (arith, c.loop-i.invariant.1, c.loop-i.invariant.2, c.loop-i.invariant.3, c.loop-i.invariant.4)

pub bounds-names-i-in-loop-i : goal.bounds-names-i-in-loop-i
bounds-names-i-in-loop-i c = simp length-set (omega (arith, c.loop-i.invariant.1, c.loop-i.invariant.5.room))

pub offset_bounds-arity-i : goal.offset_bounds-arity-i
offset_bounds-arity-i c = omega (arith, c.loop-i.invariant.1, c.loop-i.invariant.2, c.loop-i.invariant.3, c.loop-i.invariant.4)

pub bounds-arity-i : goal.bounds-arity-i
bounds-arity-i c = omega (arith, c.loop-i.invariant.1, c.loop-i.invariant.2, c.loop-i.invariant.3, c.loop-i.invariant.4)

pub overflow_mul-names-in-loop-i-2 : goal.overflow_mul-names-in-loop-i-2
overflow_mul-names-in-loop-i-2 c = omega (arith, c.loop-i.invariant.1, c.loop-i.invariant.2, c.loop-i.invariant.3, c.loop-i.invariant.4)

pub overflow_add-names-in-loop-i-3 : goal.overflow_add-names-in-loop-i-3
overflow_add-names-in-loop-i-3 c = omega (arith, c.loop-i.invariant.1, c.loop-i.invariant.2, c.loop-i.invariant.3, c.loop-i.invariant.4)

pub overflow_add-names-in-loop-i-4 : goal.overflow_add-names-in-loop-i-4
overflow_add-names-in-loop-i-4 c = omega (arith, c.loop-i.invariant.1, c.loop-i.invariant.2, c.loop-i.invariant.3, c.loop-i.invariant.4)

pub offset_bounds-names-i-in-loop-i-2 : goal.offset_bounds-names-i-in-loop-i-2
offset_bounds-names-i-in-loop-i-2 c = omega (arith, c.loop-i.invariant.1, c.loop-i.invariant.2, c.loop-i.invariant.3, c.loop-i.invariant.4)

pub bounds-names-i-in-loop-i-2 : goal.bounds-names-i-in-loop-i-2
bounds-names-i-in-loop-i-2 c = simp length-set (omega (arith, c.loop-i.invariant.1, c.loop-i.invariant.5.room))

pub loop-i-preserved : goal.loop-i-preserved
loop-i-preserved c = (
  omega arith,
  c.loop-i.invariant.1,
  c.loop-i.invariant.2,
  c.loop-i.invariant.3,
  c.loop-i.invariant.4,
  named_next _ _ _ c.loop-i.i c.loop-i.names
      c.loop-i.invariant.5 (omega (arith, c.loop-i.invariant.1)),
)

pub shape_of-names : goal.shape_of-names
shape_of-names c = c.loop-i.invariant.5.room ∙ sym c.requires.names_len.0

pub returns : goal.returns
returns c =
    let e : c.loop-i.i ≡ c.args.g.rels + c.args.g.chosen + c.args.g.every = omega arith in subst (λ (k : ℕ). Named c.args.g.from c.args.g.to c.args.g.arity k c.loop-i.names) e
    c.loop-i.invariant.5
