-- Document 02, job 12, section 22 of the demands: one `every` relation, for whose every value the rule is to be true.
use Rattle.std.specs.Prelude.{ℕ, zero, ◌+◌, ◌^◌, ◌<◌, ◌≤◌, ◌≡◌, ◌↔◌, true, ◌||◌, ltb, length}
use Rattle.std.proofs.Math.Option.{none, some}
use mathlib.Core.List.{List, [], ◌∷◌, ◌++◌, Memᴰ}
use Rattle.definitions.specs.Limits.{CaseLimits, every_limit}
use Rattle.definitions.specs.Refusal.{accepted, ◌>>=◌, refuse_if}
use Rattle.definitions.specs.Sheet.Relations.{Relation, Tuple, is_among, built_in}
use Rattle.definitions.specs.Sheet.Sheets.{every_number, relations_of}
use Rattle.definitions.specs.Problem.Truth.{Case, every_tuples, digit, every_value, rule_holds, rule_is_true}
use Rattle.definitions.specs.Problem.Atoms.{Problem, problem_of, atoms, tuple, not_tuple, atom_number, relation_start, node_start, relation_at, tuples_of, places_of}
use Rattle.definitions.specs.Problem.Actions.{Action, begin_proof, prove_goal, round_end, mark_in, mark_out, action_at, actions, proof_start, root_atom}
use Rattle.definitions.specs.Problem.Strips.{reaches_goal, run}
use Rattle.definitions.specs.Problem.Built.{set_steps, node_steps, built_actions, bound}
use Rattle.definitions.specs.Reply.Outcome.{read_case, ground}
use Rattle.laws.specs.Reader
use Reader.{Accepted, case_fits, gives_if}
use Rattle.demands.specs.Every

-- ---- 22, document 02, job 12. For every limits of at most 64 elements, and every question and site that a case c is read from:
module _ (L : CaseLimits) (few : L.elements ≤ 64) (question site : List ℕ) (c : Case) (is_case : read_case L question site ≡ accepted c) where
  fits_every : Accepted c
  fits_every = gives_if Accepted (read_case L question site) c is_case (case_fits L few question site)

  -- the rule is true of picks exactly if it is so, totality included, with every set of tuples of the `every` relation beside them;
  pub every_sets : (picks : List Tuple) → (rule_is_true c picks ≡ true) ↔ ((tuples : List Tuple) → ((t : Tuple) → Memᴰ t tuples → Every.OfEvery c t) → rule_holds c (picks ++ tuples) ≡ true)
  every_sets = Every.every_sets c fits_every

  -- of its values, of which round k has the k-th, that one has the tuples whose rows are the places of binary digits 1 of k;
  pub value_is : (k : ℕ) (t : Tuple)
      → (is_among t (every_value c k) ≡ true) ↔ ((e : Relation) × (c.question.every ≡ some e) × ((row : ℕ) × (row < every_tuples c) × (digit k row ≡ true) × (t ≡ record { relation = every_number c.question; places = places_of c.site.size e.arity row })))
  value_is = Every.value_is c fits_every

  -- steps that reach the goal go through all of them: for each there is a moment, after some first steps, at which the root's atom holds, and of the
  -- atoms of that relation's tuples just those of the value;
  pub rounds : (e : Relation) → c.question.every ≡ some e → (steps : List ℕ) → reaches_goal (problem_of c) steps ≡ true → (k : ℕ) → k < 2 ^ every_tuples c
      → (first : List ℕ) × (rest : List ℕ) × (steps ≡ first ++ rest) × ((run (problem_of c) first).state (atom_number (problem_of c) (root_atom (problem_of c))) ≡ true)
      × ((row : ℕ) → row < every_tuples c → (run (problem_of c) first).state (atom_number (problem_of c) (tuple (every_number c.question) row)) ≡ digit k row)
  rounds = Every.each_round c fits_every

  -- and where its problem is within the limits, it has few tuples, and the bound is no larger than the limit of steps.
  pub few_values : (e : Relation) → c.question.every ≡ some e → (p : Problem) → ground L c ≡ accepted p → (every_tuples c ≤ every_limit) × (bound p ≤ L.steps)
  few_values e i p g = Every.few_values L c e i p g

  -- Without an `every` line all is as before, number for number: the relations, the numbers of the tuples' atoms, how many atoms and actions
  -- there are,
  module _ (plain : c.question.every ≡ none) where
    pub no_every_relations : relations_of c.question ≡ built_in ++ (c.question.rels ++ c.question.chosen)
    no_every_relations = Every.plain_relations c fits_every plain

    pub no_every_tuple : (r row : ℕ) → r < length (problem_of c).relations → atom_number (problem_of c) (tuple r row) ≡ relation_start (problem_of c) r + row
    no_every_tuple = Every.plain_tuple c fits_every plain

    pub no_every_not : (r row : ℕ) → r < length (problem_of c).relations → atom_number (problem_of c) (not_tuple r row) ≡ relation_start (problem_of c) r + tuples_of (problem_of c).size (relation_at (problem_of c) r) + row
    no_every_not = Every.plain_not c fits_every plain

    pub no_every_atoms : atoms (problem_of c) ≡ node_start (problem_of c) (length (problem_of c).node_list)
    no_every_atoms = Every.plain_atoms c fits_every plain

    pub no_every_actions : actions (problem_of c) ≡ proof_start (problem_of c) (length (problem_of c).node_list) + 1
    no_every_actions = Every.plain_actions c fits_every plain

    -- none of which ends a round or marks a tuple;
    pub no_every_action : (k : ℕ) (a : Action) → action_at (problem_of c) k ≡ some a → (a ≡ round_end → ⊥) × ((r row : ℕ) → (a ≡ mark_in r row → ⊥) × (a ≡ mark_out r row → ⊥))
    no_every_action = Every.plain_action c fits_every plain

    -- when the rule is true, which steps are built, and that only 11 refuses what is read.
    pub no_every_rule : (picks : List Tuple) → rule_is_true c picks ≡ rule_holds c picks
    no_every_rule = Every.plain_true c fits_every plain

    pub no_every_built : (picks : List Tuple) → built_actions (problem_of c) picks ≡ set_steps (problem_of c) picks ++ (begin_proof ∷ (node_steps (problem_of c) picks zero (problem_of c).node_list ++ (prove_goal ∷ [])))
    no_every_built = Every.plain_built c fits_every plain

    pub no_every_ground : ground L c ≡ (refuse_if (ltb L.atoms (atoms (problem_of c)) || ltb L.actions (actions (problem_of c))) 11 zero >>= λ _. accepted (problem_of c))
    no_every_ground = Every.plain_ground c fits_every plain L
