-- Document 02, job 3: one walk of the tree gives the nodes it visits, their atoms and their actions.
use Rattle.std.specs.Prelude.{ℕ, zero, suc, ◌+◌, ◌*◌, Bool, List, [], ◌∷◌, ◌++◌, map, length, leb, if◌then◌else◌}
use Rattle.definitions.specs.Lists.{Text, is_some, sum}
use Rattle.definitions.specs.Limits.{CaseLimits, every_limit}
use Rattle.definitions.specs.Refusal.{Result, accepted, ◌>>=◌}
use Rattle.definitions.specs.Problem.Truth.{every_tuples, values}
use Rattle.definitions.specs.Problem.Tree.{Tree, Trees, leaf, forall_node, exists_node, and_node, or_node, end, ◌then◌, Part, how_many}
use Rattle.definitions.specs.Problem.Atoms.{Problem, problem_of, rows_of, count_of, relations_blocks, lasts_blocks}
use Rattle.definitions.specs.Problem.Actions.{mark_in, mark_out, set_blocks, mark_blocks}
use Rattle.definitions.specs.Problem.Built.{most_picks}
use Rattle.definitions.specs.Reply.Outcome.{read_case, Sizes}

-- What a walk has met: the nodes in the order of the visits, each with the number it was given, and how many atoms and actions these
-- have.
pub record Walk : Type 0 where
  pub visited : List Part
  pub atom_count : ℕ
  pub action_count : ℕ

unfoldable pub no_walk : Walk
no_walk = record { visited = []; atom_count = zero; action_count = zero }

-- one walk after another
unfoldable pub then_walk : Walk → Walk → Walk
then_walk a b = record { visited = a.visited ++ b.visited; atom_count = a.atom_count + b.atom_count; action_count = a.action_count + b.action_count }

-- the visit of one node, of number v: with `rows` values of its free variables it has so many atoms, and so many actions, at each
unfoldable pub visit : ℕ → Tree → (rows atomsAtEach actionsAtEach : ℕ) → Walk
visit v t rows a k = record { visited = record { node = v; tree = t } ∷ []; atom_count = rows * a; action_count = rows * k }

-- A node is visited, then what is under it, from the left; whatever comes next has the number after the last one visited. A literal
-- is not a node. A `forall` has n atoms at each value, the others one; a quantifier has an action for each element of its range, an
-- `and` one, an `or` one for each part.
unfoldable mutual
  pub walk : ℕ → (ℕ → List ℕ) → ℕ → Tree → Walk
  walk n R v (leaf p r ls) = no_walk
  walk n R v (forall_node d s t) = then_walk (visit v (forall_node d s t) (rows_of n (forall_node d s t)) n (length (R s))) (walk n R (suc v) t)
  walk n R v (exists_node d s t) = then_walk (visit v (exists_node d s t) (rows_of n (exists_node d s t)) 1 (length (R s))) (walk n R (suc v) t)
  walk n R v (and_node ts) = then_walk (visit v (and_node ts) (rows_of n (and_node ts)) 1 1) (walk_all n R (suc v) ts)
  walk n R v (or_node ts) = then_walk (visit v (or_node ts) (rows_of n (or_node ts)) 1 (how_many ts)) (walk_all n R (suc v) ts)

  pub walk_all : ℕ → (ℕ → List ℕ) → ℕ → Trees → Walk
  walk_all n R v end = no_walk
  walk_all n R v (t then ts) = then_walk (walk n R v t) (walk_all n R (v + length (walk n R v t).visited) ts)

-- ---- the counts of a problem: beside what the walk gives, three atoms of the phases and those of the relations; the set actions,
-- begin-proof and prove-goal or round-end, the marks; for the bound the most picks, one, and the rounds. No limit of 11 is asked. (Where an `every`
-- relation has more tuples than 23 allows, there are too many rounds to be counted by a machine's number, and the bound is told as 0.)
unfoldable pub walked : Problem → Walk
walked p = walk p.size p.range zero p.root

pub record Tally : Type 0 where
  pub node_count : ℕ
  pub has_every : Bool
  pub tuples : ℕ
  pub sizes : Sizes

unfoldable pub tally_of : Problem → Tally
tally_of p =
    let w = walked p in
    let c = every_tuples p.source in
    record {
      node_count = length w.visited;
      has_every = is_some p.source.question.every;
      tuples = c;
      sizes = record {
        elements = p.size;
        atom_count = 3 + (count_of (relations_blocks p.size p.relations) + (w.atom_count + count_of (lasts_blocks p.size p.relations)));
        action_count = count_of (set_blocks p.size p.range p.relations) + (1 + (w.action_count + (1 + (count_of (mark_blocks mark_in p.size p.relations) + count_of (mark_blocks mark_out p.size p.relations)))));
        step_bound = if leb c every_limit then sum (map (most_picks p.size) p.relations) + 1 + values p.source * (w.atom_count + c + 1) else zero;
      };
    }

-- the tally of two texts that a case is read from, be it over the limits of 11 or not
unfoldable pub tally : CaseLimits → Text → Text → Result Tally
tally L question site = read_case L question site >>= λ c. accepted (tally_of (problem_of c))
