-- `call_domain::of_case` meets its contract. Assumes nothing.
use borrow.Author.Rules.{rules}
use native.Mathlib.Omega.{arith}
use Rattle.std.proofs.lemmas.Result.{err_from_is_err_and}
use Rattle.problem_layout.specs.LaidLaws.{most_zeros}
use Rattle.call_instance.specs.Stated.{begun_sound, begun_declared, begun_names}
use Rattle.call_domain.specs.Stated.{begun_rule, begun_elements, begun_relations, begun_bounded, stated_gate, stated_short, stated_all}
use Rattle.call_domain.proofs.of_case.Goals as goal

pub returns-in_err-gate : goal.returns-in_err-gate
returns-in_err-gate c =
    let p = err_from_is_err_and c.from_residual.result c.from_residual.ensures.1 in
    λ site table its. rw (p.1, p.2) (stated_gate _ site _ _ _ table its _ c.in_err-gate.ensures)

pub names_of-requires : goal.names_of-requires
names_of-requires c = record { by_index = (_, begun_sound _ _ _ c.requires); names_len = (search rules, most_zeros 54 0) }

pub relations_of-g-requires : goal.relations_of-g-requires
relations_of-g-requires c = begun_declared _ _ _ c.requires

pub nodes_of-t-requires : goal.nodes_of-t-requires
nodes_of-t-requires c = begun_rule _ _ _ c.requires

pub domain-bytes-requires : goal.domain-bytes-requires
domain-bytes-requires c = (
  begun_names _ _ _ c.requires _ c.names_of.ensures,
  begun_relations _ _ _ c.requires _ c.relations_of-g.ensures.0 c.relations_of-g.ensures.1,
  c.nodes_of-t.ensures.fits,
  begun_bounded _ _ _ c.requires _ _ c.relations_of-g.ensures.1 c.nodes_of-t.ensures,
  (begun_elements _ _ _ c.requires).0,
  (begun_elements _ _ _ c.requires).1,
)

pub returns-then-out-bytes : goal.returns-then-out-bytes
returns-then-out-bytes c = λ site table its. rw c.at.ensures (stated_short _ site _ _ _ table its _ c.in_ok-gate.ensures _ c.names_of.ensures _ c.relations_of-g.ensures.0 c.relations_of-g.ensures.1 _ c.nodes_of-t.ensures _ _ _ c.domain-bytes.ensures (omega arith))

pub domain-requires : goal.domain-requires
domain-requires c = (
  begun_names _ _ _ c.requires _ c.names_of.ensures,
  begun_relations _ _ _ c.requires _ c.relations_of-g.ensures.0 c.relations_of-g.ensures.1,
  c.nodes_of-t.ensures.fits,
  begun_bounded _ _ _ c.requires _ _ c.relations_of-g.ensures.1 c.nodes_of-t.ensures,
  (begun_elements _ _ _ c.requires).0,
  (begun_elements _ _ _ c.requires).1,
)

pub returns : goal.returns
returns c = λ site table its. stated_all _ site _ _ _ table its _ c.in_ok-gate.ensures _ c.names_of.ensures _ c.relations_of-g.ensures.0 c.relations_of-g.ensures.1 _ c.nodes_of-t.ensures _ _ _ _ _ c.domain-bytes.ensures c.domain.ensures (omega arith)
