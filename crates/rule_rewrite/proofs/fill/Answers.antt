use mathlib.Core.Path.{refl, ap}
use mathlib.Core.List.{[], ◌∷◌, ◌++◌}
use native.Mathlib.Omega.{arith}
use lib.ListN.{length}
use Rattle.rule_rewrite.specs.Ready.{VarsReady}
use Rattle.rule_rewrite.proofs.Words.{More, vars_in, vars_more, fill_none, fill_more}
use Rattle.rule_rewrite.proofs.fill.Goals as goal
use Rattle.rule_rewrite.proofs.fill.Goals.{After-run-e}

-- the variable after a space, in any list that stands there
one : (c : After-run-e) → let a = c.args in (w : VarsReady a.s.now c.loop-i.i a.sc c.loop-i.full.width)
    → More a.s.now c.loop-i.i a.sc c.loop-i.full.width w.vs c.run-e.result
one c w = vars_more _ _ _ _ w _ c.loop-i-test.true c.run-e.ensures

pub loop-i-init : goal.loop-i-init
loop-i-init c = (c.requires, λ r h. h)

pub bounds-s-i : goal.bounds-s-i
bounds-s-i c = vars_in _ _ _ _ c.loop-i.invariant.0

pub overflow_add-i : goal.overflow_add-i
overflow_add-i c = omega (arith, (vars_more _ _ _ _ c.loop-i.invariant.0 _ c.loop-i-test.true refl).within, c.well_formed.0.0)

pub run-e-requires : goal.run-e-requires
run-e-requires c = omega (arith, (vars_more _ _ _ _ c.loop-i.invariant.0 _ c.loop-i-test.true refl).within)

pub overflow_add-i-in-loop-i : goal.overflow_add-i-in-loop-i
overflow_add-i-in-loop-i c = let m = one c c.loop-i.invariant.0 in omega (arith, m.within, m.place, c.well_formed.0.0)

pub level-l-requires : goal.level-l-requires
level-l-requires c = c.loop-i.invariant.0.small

pub bounds-full-n : goal.bounds-full-n
bounds-full-n c = let h = c.loop-i.invariant.0 in omega (arith, c.wide-n.ensures.0, h.fits, ap length (one (goal.at.bounds-full-n c).After-run-e h).is)

pub overflow_add-full : goal.overflow_add-full
overflow_add-full c = omega (arith, c.loop-i.invariant.0.fits)

pub loop-i-smaller : goal.loop-i-smaller
loop-i-smaller c = let m = one (goal.at.loop-i-smaller c).After-run-e c.loop-i.invariant.0 in omega (arith, m.within, m.place)

pub loop-i-preserved : goal.loop-i-preserved
loop-i-preserved c =
    let l = c.level-l in (
      (one (goal.at.loop-i-preserved c).After-run-e c.loop-i.invariant.0).next,
      λ r h. c.loop-i.invariant.1 r (λ p k ls w q. let m = one (goal.at.loop-i-preserved c).After-run-e w in
          fill_more _ _ _ _ _ _ _ _ r w m refl c.wide-n.ensures.0 l.ensures p k ls q (λ z. h p k (ls ++ (l.result ∷ [])) m.next z)),
    )

pub returns : goal.returns
returns c = c.loop-i.invariant.1 _ (λ p k ls w q. fill_none _ _ _ _ _ w c.loop-i-test.false p k ls q)
