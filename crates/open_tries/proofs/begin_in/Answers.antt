-- `open_tries::begin_in` meets its contract: each way out is a law of `Laws`. Assumes nothing.
use mathlib.Core.List.{[]}
use mathlib.Core.Path.{refl, sym}
use native.Mathlib.Omega.{arith}
use lib.Seq.{length-take-le}
use Rattle.std.proofs.lemmas.Result.{err_from_is_err_and}
use Rattle.open_tries.specs.Laws.{begun_case, begun_over, begun_short, begun_atoms, begun_fits, begun_ready}
use Rattle.open_tries.proofs.begin_in.Goals as goal

pub returns-in_err-f : goal.returns-in_err-f
returns-in_err-f c =
    let p = err_from_is_err_and c.from_residual.result c.from_residual.ensures.1 in
    rw (p.1, p.2) (begun_case _ _ _ _ [] [] _ c.in_err-f.ensures)

pub returns-in_err-m : goal.returns-in_err-m
returns-in_err-m c =
    let p = err_from_is_err_and c.from_residual-in_err-m.result c.from_residual-in_err-m.ensures.1 in
    rw (p.1, p.2) (begun_over _ _ _ c.args.state.now _ _ _ c.in_ok-f.ensures _ c.in_err-m.was)

pub overflow_add-words : goal.overflow_add-words
overflow_add-words c = omega (arith, begun_atoms _ _ _ c.args.state.now _ _ _ c.in_ok-f.ensures _ c.in_ok-m.was)

pub returns-then-state-words : goal.returns-then-state-words
returns-then-state-words c = rw c.at.ensures (begun_short _ _ _ c.args.state.now _ _ _ c.in_ok-f.ensures _ c.in_ok-m.was c.if-state-words.true)

pub slice_bounds-initial_state-end-2 : goal.slice_bounds-initial_state-end-2
slice_bounds-initial_state-end-2 c = sym (length-take-le _ _ (omega arith))

pub initial_state-requires : goal.initial_state-requires
initial_state-requires c = let q = begun_fits _ _ _ c.args.state.now _ _ _ c.in_ok-f.ensures _ c.in_ok-m.was (omega arith) in record { fits = q.0; table_in_bounds = q.1 }

pub returns : goal.returns
returns c = begun_ready _ _ _ c.args.state.now _ _ _ c.in_ok-f.ensures _ c.in_ok-m.was (omega arith) (omega arith) _ _ c.initial_state.ensures refl
