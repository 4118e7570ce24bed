-- `problem_layout::place_count` meets its contract.
use native.Mathlib.Omega.{arith}
use Rattle.problem_layout.specs.LaidLaws.{place_low, place_high, place_some}
use Rattle.problem_layout.proofs.place_count.Goals as goal

pub returns-then-kind-lt2 : goal.returns-then-kind-lt2
returns-then-kind-lt2 c = (place_low c.args.kind 0 c.args.count (omega arith)).1

pub returns-then-kind-gt5 : goal.returns-then-kind-gt5
returns-then-kind-gt5 c = (place_high c.args.kind 0 c.args.count (omega arith)).1

pub returns : goal.returns
returns c = (place_some c.args.kind 0 c.args.count (omega arith) (omega arith)).1
