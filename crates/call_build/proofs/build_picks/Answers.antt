-- `call_build::build_picks` meets its contract: each return is a law of `Builds`: 11, 12 three times, 10, or what was built. Assumes nothing.
use Rattle.std.specs.Prelude.{Ok, Err}
use Rattle.std.proofs.lemmas.Result.{err_from_is_err_and}
use Rattle.std.proofs.Math.Path.{ap}
use Rattle.std.proofs.Common.{◌∙◌}
use native.Mathlib.Omega.{arith}
use Rattle.definitions.specs.Refusal.{accepted}
use Rattle.open_case.specs.Known.{tabled}
use Rattle.call_build.specs.Builds.{builds_over, builds_picks, builds_state, builds_steps, builds_spare, builds_built}
use Rattle.call_build.proofs.build_picks.Goals as goal

pub returns-in_err-m : goal.returns-in_err-m
returns-in_err-m c =
    let p = err_from_is_err_and c.from_residual.result c.from_residual.ensures.1 in
    record {
      fit = λ j. omega (arith, c.type_inv.picks j);
      builds = λ L few q site given x e h old F handed. rw (p.1, p.2) (builds_over L q site given _ _ x e _ _ _ h _ old F handed _ c.in_err-m.was);
    }

pub picks_length-held-requires : goal.picks_length-held-requires
picks_length-held-requires c = let r = c.requires.by_index.1 in (tabled r.limits_are r.case _ _ r.held.grounded _ c.in_ok-m.was).fits

pub returns-then-picks-held : goal.returns-then-picks-held
returns-then-picks-held c =
    record {
      fit = λ j. omega (arith, c.type_inv.picks j);
      builds = λ L few q site given x e h old F handed.
          let k = c.picks_length-held.ensures.picks _ (tabled L x.case _ _ h.grounded _ c.in_ok-m.was).is in
          rw c.at.ensures (builds_picks L q site given _ _ x e _ _ _ h _ old F handed _ c.in_ok-m.was _ k c.if-picks-held.true);
    }

pub overflow_add-words : goal.overflow_add-words
overflow_add-words c = omega (arith, c.requires.atoms_bound _ c.in_ok-m.was)

pub returns-then-state-words : goal.returns-then-state-words
returns-then-state-words c =
    record {
      fit = λ j. omega (arith, c.type_inv.picks j);
      builds = λ L few q site given x e h old F handed.
          let k = c.picks_length-held.ensures.picks _ (tabled L x.case _ _ h.grounded _ c.in_ok-m.was).is in
          rw c.at-then-state-words.ensures (builds_state L q site given _ _ x e _ _ _ h _ old F handed _ c.in_ok-m.was _ k (omega arith) c.if-state-words.true);
    }

pub returns-then-steps-bound : goal.returns-then-steps-bound
returns-then-steps-bound c =
    record {
      fit = λ j. omega (arith, c.type_inv.picks j);
      builds = λ L few q site given x e h old F handed.
          let k = c.picks_length-held.ensures.picks _ (tabled L x.case _ _ h.grounded _ c.in_ok-m.was).is in
          rw c.at-then-steps-bound.ensures (builds_steps L q site given _ _ x e _ _ _ h _ old F handed _ c.in_ok-m.was _ k (omega arith) (omega arith) c.if-steps-bound.true);
    }

pub returns-in-Some : goal.returns-in-Some
returns-in-Some c =
    record {
      fit = λ j. omega (arith, c.type_inv.picks j);
      builds = λ L few q site given x e h old F handed.
          let is = (tabled L x.case _ _ h.grounded _ c.in_ok-m.was).is in
          rw c.at-in-Some.ensures (builds_spare L q site given _ _ x e _ _ _ h _ old F handed _ c.in_ok-m.was _ (c.picks_length-held.ensures.picks _ is) (omega arith) (omega arith) (omega arith) _
          (c.spare_word.ensures _ is) _ c.in-Some.is);
    }

pub returns-in_err-count : goal.returns-in_err-count
returns-in_err-count c =
    let p = err_from_is_err_and c.from_residual-in_err-count.result c.from_residual-in_err-count.ensures.1 in
    record {
      fit = λ j. omega (arith, c.type_inv.picks j);
      builds = λ L few q site given x e h old F handed.
          let is = (tabled L x.case _ _ h.grounded _ c.in_ok-m.was).is in
          rw (p.1, p.2) (builds_built L q site given _ _ x e _ _ _ h _ old F handed _ c.in_ok-m.was _ (c.picks_length-held.ensures.picks _ is)
          (omega (arith, c.if-picks-held.false)) (omega (arith, c.if-state-words.false)) (omega (arith, c.if-state-words.false)) _
          (c.spare_word.ensures _ is) c.in_default.is few (Err _) _ _ (c.in_err-count.ensures x.case F));
    }

pub returns : goal.returns
returns c =
    record {
      fit = λ j. omega (arith, c.type_inv.picks j);
      builds = λ L few q site given x e h old F handed.
          let is = (tabled L x.case _ _ h.grounded _ c.in_ok-m.was).is in
          let built = builds_built L q site given _ _ x e _ _ _ h _ old F handed _ c.in_ok-m.was _ (c.picks_length-held.ensures.picks _ is)
          (omega (arith, c.if-picks-held.false)) (omega (arith, c.if-state-words.false)) (omega (arith, c.if-state-words.false)) _
          (c.spare_word.ensures _ is) c.in_default.is few (Ok c.in_ok-count.count) _ _ (c.in_ok-count.ensures x.case F) in
          (ap accepted (omega arith) ∙ built.0, built.1);
    }
