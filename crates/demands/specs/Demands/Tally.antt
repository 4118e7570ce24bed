-- Document 02, job 3, section 13 of the demands: the sizes in one walk.
use Rattle.std.specs.Prelude.{ℕ, zero, ◌≡◌, ◌&&◌, ◌||◌, List, map, leb, ltb, length, if◌then◌else◌}
use Rattle.std.proofs.Common.{ap}
use Rattle.definitions.specs.Limits.{CaseLimits, every_limit}
use Rattle.definitions.specs.Lists.{is_some, below}
use Rattle.definitions.specs.Refusal.{accepted, ◌>>=◌, refuse_if}
use Rattle.definitions.specs.Problem.Truth.{Case, every_tuples}
use Rattle.definitions.specs.Problem.Atoms.{problem_of, atoms}
use Rattle.definitions.specs.Problem.Actions.{actions}
use Rattle.definitions.specs.Problem.Built.{bound}
use Rattle.definitions.specs.Reply.Outcome.{sizes, read_case}
use Rattle.definitions.specs.Problem.Tree.{Part, nodes, tree_of}
use Rattle.definitions.specs.Reply.Tally.{walked, tally}
use Rattle.laws.specs.Walks

-- ---- 13, document 02, job 3: for every case that is read, be it over the limits of 11 or not, one walk of its tree visits its nodes,
-- each once and in preorder, and what it counts are the numbers of nodes, atoms and actions, and the bound (told as 0 where an `every` relation
-- has more tuples than 23 allows).
module _ (L : CaseLimits) (question site : List ℕ) (c : Case) (is_case : read_case L question site ≡ accepted c) where
  pub visited_are : map (λ (q : Part). q.tree) (walked (problem_of c)).visited ≡ nodes (tree_of c.question)
  visited_are = Walks.visited_are c

  pub visited_once : map (λ (q : Part). q.node) (walked (problem_of c)).visited ≡ below (length (nodes (tree_of c.question)))
  visited_once = Walks.visited_once c

  pub tallied : tally L question site ≡ accepted (record {
    node_count = length (nodes (tree_of c.question));
    has_every = is_some c.question.every;
    tuples = every_tuples c;
    sizes = record { elements = c.site.size; atom_count = atoms (problem_of c); action_count = actions (problem_of c); step_bound = if leb (every_tuples c) every_limit then bound (problem_of c) else zero };
  })
  unfolding tally ◌>>=◌ Walks.told_sizes Walks.told_bound
  tallied = rw is_case (ap accepted (Walks.tally_is c))

-- The sizes call answers those counts, or 11 where there are more atoms or actions than the limits allow, or 23 where an `every` relation has too
-- many tuples or too large a bound.
pub sizes_tallied : (L : CaseLimits) (question site : List ℕ)
    → sizes L question site ≡ (tally L question site >>= λ t. refuse_if (ltb L.atoms t.sizes.atom_count || ltb L.actions t.sizes.action_count) 11 0
    >>= λ _. refuse_if (t.has_every && (ltb every_limit t.tuples || ltb L.steps t.sizes.step_bound)) 23 0 >>= λ _. accepted t.sizes)
sizes_tallied L question site = Walks.sizes_tally L question site
