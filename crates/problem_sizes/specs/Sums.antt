-- What is promised of a tally.
use Rattle.std.specs.Prelude.{◌≡◌, List, ◌&&◌, ◌||◌, ℕ, ◌+◌, ◌-◌, ◌*◌, ◌^◌, leb, ltb, get_or, if◌then◌else◌}
use Rattle.definitions.specs.Problem.Atoms.{Problem}
use Rattle.definitions.specs.Reply.Tally.{tally_of}
use Rattle.rule_nodes.specs.declared.Nodes.{Nodes}
use Rattle.problem_layout.specs.declared.Relations.{Relations}
use Rattle.problem_layout.specs.Laid.{relation_sum, set_sum, pick_sum, node_sum, act_sum, has_last}
use Rattle.problem_sizes.specs.declared.Tally.{Tally}
use Rattle.problem_sizes.specs.declared.Limits.{Limits}

-- the sums over the first i relations, and over the first v nodes
pub record RelationsSummed (n : ℕ) (counts : List ℕ) (g : Relations) (i atoms sets picks : ℕ) : Type 0 where
  pub atoms_are : atoms ≡ relation_sum n g i
  pub sets_are : sets ≡ set_sum n counts g i
  pub picks_are : picks ≡ pick_sum n g i

pub record NodesSummed (n : ℕ) (counts : List ℕ) (t : Nodes) (v nodes atoms actions : ℕ) : Type 0 where
  pub visited : nodes ≡ v
  pub atoms_are : atoms ≡ node_sum n t 0 v
  pub actions_are : actions ≡ act_sum n counts t 0 v

-- the tuples of an `every` line's relation, and the bound by them
unfoldable pub every_size : ℕ → Relations → ℕ
every_size n g = if has_last g then n ^ get_or g.arity (g.count - 1) 0 else 0

unfoldable pub bound_in : (picks atoms tuples : ℕ) → ℕ
bound_in picks atoms tuples = if leb tuples 8 then picks + 1 + 2 ^ tuples * (atoms + tuples + 1) else 0

-- the tally is that of the walk of the problem's tree
pub record Tallied (p : Problem) (r : Tally) : Type 0 where
  pub elements_are : r.elements ≡ (tally_of p).sizes.elements
  pub nodes_are : r.nodes ≡ (tally_of p).node_count
  pub every_is : r.every ≡ (tally_of p).has_every
  pub tuples_are : r.tuples ≡ (tally_of p).tuples
  pub atoms_are : r.atoms ≡ (tally_of p).sizes.atom_count
  pub actions_are : r.actions ≡ (tally_of p).sizes.action_count
  pub bound_is : r.bound ≡ (tally_of p).sizes.step_bound

-- the refusal by size: 11, then 23, else 0
unfoldable pub refusal_in : Tally → Limits → ℕ
refusal_in t l =
    if ltb l.atoms t.atoms || ltb l.actions t.actions then 11
    else if t.every && (ltb 8 t.tuples || ltb l.steps t.bound) then 23
    else 0
