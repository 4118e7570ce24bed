-- `print_plan::plan` meets its contract. Assumes nothing.
use lib.ListN.{drop}
use Rattle.definitions.specs.Lists.{flat_map}
use Rattle.definitions.specs.Problem.Truth.{Case}
use Rattle.definitions.specs.Problem.Atoms.{problem_of}
use Rattle.problem_table.specs.Of.{Is}
use Rattle.print_page.specs.Elements.{NamesAre}
use Rattle.print_bytes.specs.Emitted.{Left}
use Rattle.print_plan.specs.Lines.{line_at}
use Rattle.print_plan.specs.Plans.{Taken}
use Rattle.print_plan.proofs.plan.Given as goal

abbrev pub invariant-loop-k : goal.invariant-loop-k
invariant-loop-k l = (c : Case) → Is (problem_of c) l.table → NamesAre (problem_of c) l.question l.names → Taken (problem_of c) l.steps
    → Left (flat_map (line_at c (problem_of c)) l.steps) l.initial.out 0 (flat_map (line_at c (problem_of c)) (drop l.k-index l.steps)) l.out l.next
