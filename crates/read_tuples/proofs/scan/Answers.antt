use mathlib.Core.Path.{◌≡◌, sym, ◌∙◌}
use native.Mathlib.Omega.{arith}
use Rattle.read_tuples.proofs.Naming.{not_yet, other_length, other_bytes, found_here, found_nowhere, found_empty}
use Rattle.read_tuples.proofs.scan.Goals as goal
use Rattle.read_tuples.proofs.scan.Goals.{then-to-from+else-alike, else-to-from}

pub returns-then-wanted-eq0 : goal.returns-then-wanted-eq0
returns-then-wanted-eq0 c = λ ls L. found_empty _ _ c.args.n ls L _ (sym c.span_length-wanted.ensures ∙ c.if-wanted-eq0.true)

pub loop-x-init : goal.loop-x-init
loop-x-init c = (omega arith, not_yet _ _ _)

pub returns-then-alike : goal.returns-then-alike
returns-then-alike c =
    λ ls L.
    found_here _ _ _ ls L _ c.loop-x.x (omega (arith, c.if-to-from.true))
    (sym c.alike.ensures ∙ c.if-alike.true)

pub loop-x-preserved : goal.loop-x-preserved
loop-x-preserved c =
    let l = c.loop-x in
    let here = (c.requires.1.1.in_text l.x (omega arith)).1 in
    let length = c.span_length-wanted.ensures in (
      omega arith,
      elim c.if-to-from.branch [
        | then-to-from+else-alike w ↦ other_bytes _ _ _ l.x l.invariant.1 (sym w.alike.ensures ∙ w.if-alike.false)
        | else-to-from w ↦ other_length _ _ _ l.x l.invariant.1 here (λ q. w.if-to-from.false (q ∙ sym length))
      ],
    )

pub returns : goal.returns
returns c =
    λ ls L. found_nowhere _ _ _ ls L _
    (let e : c.loop-x.x ≡ c.args.n = omega arith in rw e at c.loop-x.invariant.1)
