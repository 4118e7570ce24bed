-- Document 02, job 14: how far one pick more or less of a relation moves the number of built steps.
use Rattle.std.specs.Prelude.{ℕ, zero, ◌+◌, Bool, false, ◌||◌, List, map, length, eqb}
use Rattle.definitions.specs.Lists.{Text, filter, sum}
use Rattle.definitions.specs.Limits.{CaseLimits}
use Rattle.definitions.specs.Refusal.{Result, refused, accepted}
use Rattle.definitions.specs.Problem.Tree.{Tree, Trees, leaf, forall_node, exists_node, and_node, or_node, end, ◌then◌}
use Rattle.definitions.specs.Problem.Atoms.{Problem, node_width}
use Rattle.definitions.specs.Problem.Built.{chosen_numbers}
use Rattle.definitions.specs.Reply.Outcome.{Ready, asked, nothing, without_every, room_for, written}

-- Whether a literal of relation r, of either sign, stands somewhere in a tree. The tree is that of the whole case: negation is pushed
-- inward, and the totalities and the `and` that joins them are nodes like the others.
unfoldable mutual
  pub mentions : ℕ → Tree → Bool
  mentions r (leaf p k ls) = eqb k r
  mentions r (forall_node d s t) = mentions r t
  mentions r (exists_node d s t) = mentions r t
  mentions r (and_node ts) = mentions_in r ts
  mentions r (or_node ts) = mentions_in r ts

  pub mentions_in : ℕ → Trees → Bool
  mentions_in r end = false
  mentions_in r (t then ts) = mentions r t || mentions_in r ts

-- the pick's own step, and every atom of every node that mentions the relation
unfoldable pub allowance : Problem → ℕ → ℕ
allowance p r = 1 + sum (map (node_width p.size) (filter (mentions r) p.node_list))

-- ---- the call: one number for each `choose`, in their order, at the front of a lent buffer; 12 where that is too short. A case with an `every`
-- line is 23: there a pick moves every round.
unfoldable pub allowances_of : Problem → List ℕ
allowances_of p = map (allowance p) (chosen_numbers p)

pub record Allowed : Type 0 where
  pub answer : Result ℕ
  pub allowances : List ℕ

unfoldable pub allowed_from : Result (Ready (Unit {0})) → List ℕ → Allowed
allowed_from (refused k place) old = record { answer = refused k place; allowances = old }
allowed_from (accepted r) old = record { answer = accepted zero; allowances = written (allowances_of r.problem) old }

unfoldable pub allowances : CaseLimits → Text → Text → List ℕ → Allowed
allowances L question site old = allowed_from (asked L question site nothing nothing without_every (λ p. room_for (length (chosen_numbers p)) (length old))) old
