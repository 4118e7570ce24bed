use Rattle.std.proofs.lemmas.Result.{err_from_is_err_and}
use mathlib.Core.Path.{refl}
use native.Mathlib.Omega.{arith}
use Rattle.definitions.specs.Limits.{usual}
use Rattle.definitions.specs.Problem.Atoms.{problem_of}
use Rattle.open_case.specs.Elements.{picks_enough, few_picks, many_picks}
use Rattle.step_picks.specs.Picked.{text_fits}
use Rattle.call_monotone.specs.Full.{full_picks}
use Rattle.call_monotone.specs.Answers.{ends_case, accepted_in}
use Rattle.call_monotone.proofs.monotone_in.Goals as goal

pub returns-in_err-o : goal.returns-in_err-o
returns-in_err-o c =
    let p = err_from_is_err_and c.from_residual.result c.from_residual.ensures.1 in
    rw (p.1, p.2) (ends_case usual _ _ _ (c.in_err-o.ensures usual refl))

pub monotone_case-requires : goal.monotone_case-requires
monotone_case-requires c = accepted_in _ _ _ _ _ (c.in_ok-o.ensures usual refl) (omega arith)

pub returns-then-o-le-SMALL_SIZE : goal.returns-then-o-le-SMALL_SIZE
returns-then-o-le-SMALL_SIZE c = c.monotone_case.ensures _ (c.in_ok-o.ensures usual refl) (λ d A h. full_picks (problem_of d) 256 (text_fits _ d A _ _ h 256 (picks_enough _ d _ _ h 16 256 c.if-o-le-SMALL_SIZE.true few_picks)))

pub monotone_case-requires-2 : goal.monotone_case-requires-2
monotone_case-requires-2 c = accepted_in _ _ _ _ _ (c.in_ok-o.ensures usual refl) (omega arith)

pub returns : goal.returns
returns c = c.monotone_case-2.ensures _ (c.in_ok-o.ensures usual refl) (λ d A h. full_picks (problem_of d) 16384 (text_fits _ d A _ _ h 16384 (picks_enough _ d _ _ h 64 16384 h.few_elements many_picks)))
