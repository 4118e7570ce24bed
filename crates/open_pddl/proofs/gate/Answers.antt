-- `open_pddl::gate` meets its contract. Assumes nothing.
use Rattle.std.proofs.lemmas.Result.{err_from_is_err_and}
use Rattle.open_pddl.specs.Gates.{by_types, by_over, by_every, by_none}
use Rattle.open_pddl.proofs.gate.Goals as goal

pub returns-then-sig-ne0 : goal.returns-then-sig-ne0
returns-then-sig-ne0 c = rw c.at.ensures (by_types _ _ _ c.if-sig-ne0.true)

pub returns-in_err-m : goal.returns-in_err-m
returns-in_err-m c =
    let p = err_from_is_err_and c.from_residual.result c.from_residual.ensures.1 in
    rw (p.1, p.2) (by_over _ _ _ _ c.if-sig-ne0.false c.in_err-m.was)

pub returns-then-sig-ne0-2 : goal.returns-then-sig-ne0-2
returns-then-sig-ne0-2 c = rw c.at-then-sig-ne0-2.ensures (by_every _ _ _ _ c.if-sig-ne0.false c.in_ok-m.was c.if-sig-ne0-2.true)

pub returns : goal.returns
returns c = by_none _ _ _ _ c.if-sig-ne0.false c.in_ok-m.was c.if-sig-ne0-2.false
