-- `call_instance::of_case` meets its contract. Assumes nothing.
use borrow.Author.Rules.{rules}
use native.Mathlib.Omega.{arith}
use Rattle.std.proofs.lemmas.Result.{err_from_is_err_and}
use Rattle.problem_layout.specs.LaidLaws.{most_zeros}
use Rattle.call_instance.specs.Stated.{begun_sound, begun_declared, begun_names, begun_known, stated_gate, stated_short, stated_all}
use Rattle.call_instance.proofs.of_case.Goals as goal

pub returns-in_err-gate : goal.returns-in_err-gate
returns-in_err-gate c =
    let p = err_from_is_err_and c.from_residual.result c.from_residual.ensures.1 in
    λ site table its. rw (p.1, p.2) (stated_gate _ site _ _ _ table its _ c.in_err-gate.ensures)

pub names_of-requires : goal.names_of-requires
names_of-requires c = record { by_index = (_, begun_sound _ _ _ c.requires); names_len = (search rules, most_zeros 54 0) }

pub relations_of-g-requires : goal.relations_of-g-requires
relations_of-g-requires c = begun_declared _ _ _ c.requires

pub instance-bytes-requires : goal.instance-bytes-requires
instance-bytes-requires c = (begun_names _ _ _ c.requires _ c.names_of.ensures, begun_known _ _ _ c.requires _ c.relations_of-g.ensures.0 c.relations_of-g.ensures.1)

pub returns-then-out-bytes : goal.returns-then-out-bytes
returns-then-out-bytes c = λ site table its. rw c.at.ensures (stated_short _ site _ _ _ table its _ c.in_ok-gate.ensures _ c.names_of.ensures _ c.relations_of-g.ensures.0 c.relations_of-g.ensures.1 _ _ _ c.instance-bytes.ensures (omega arith))

pub instance-requires : goal.instance-requires
instance-requires c = (begun_names _ _ _ c.requires _ c.names_of.ensures, begun_known _ _ _ c.requires _ c.relations_of-g.ensures.0 c.relations_of-g.ensures.1)

pub returns : goal.returns
returns c = λ site table its. stated_all _ site _ _ _ table its _ c.in_ok-gate.ensures _ c.names_of.ensures _ c.relations_of-g.ensures.0 c.relations_of-g.ensures.1 _ _ _ _ _ c.instance-bytes.ensures c.instance.ensures (omega arith)
