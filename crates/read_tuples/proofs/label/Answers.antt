-- `read_tuples::label` meets its contract. The element has no label, and no element has the name.
use Prim.Native.Nat.{◌+◌}
use native.Mathlib.Omega.{arith}
use Rattle.read_tuples.proofs.Naming.{label_by_name, label_wide, label_again, label_used, label_new, added_hinted}
use Rattle.read_tuples.proofs.label.Goals as goal

pub returns-then-k-eq-NAMED : goal.returns-then-k-eq-NAMED
returns-then-k-eq-NAMED c = label_by_name c.args.s.now c.args.n _ _ _ _ _ c.if-k-eq-NAMED.true

pub returns-then-n-x : goal.returns-then-n-x
returns-then-n-x c = label_wide _ _ _ _ _ _ _ c.if-k-eq-NAMED.false (omega arith)

pub returns-then-labels-x-ne0 : goal.returns-then-labels-x-ne0
returns-then-labels-x-ne0 c = label_again _ _ _ _ _ _ _ c.if-k-eq-NAMED.false (omega arith) c.if-labels-x-ne0.true

pub returns-then-element_named-n : goal.returns-then-element_named-n
returns-then-element_named-n c =
    let named = c.element_named.ensures in
    label_used _ _ _ _ _ _ _ c.if-k-eq-NAMED.false (omega arith) (λ ls L. omega (arith, named ls L))

pub returns : goal.returns
returns c =
    let named = c.element_named.ensures in
    added_hinted _ _ _ _ _ _ _ _
    (label_new _ _ _ c.args.k (c.args.t + 1) c.args.e c.args.labels.now c.if-k-eq-NAMED.false
    (omega arith) (omega arith) c.requires.t_lt_e.1 c.requires.t_lt_e.2 (omega (arith, c.if-labels-x-ne0.false)) (λ ls L. omega (arith, named ls L)))
    c.hint.ensures
