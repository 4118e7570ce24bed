-- Document 02, job 4, section 17 of the demands: types.
use Rattle.std.specs.Prelude.{ℕ, suc, ◌+◌, ◌*◌, ◌<◌, ◌≤◌, ◌≡◌, ◌⊎◌, ◌↔◌, true, false, length, get_or}
use Rattle.std.proofs.Math.Path.{ap}
use Rattle.std.proofs.Math.Option.{none, some}
use mathlib.Core.List.{List, [], ◌∷◌, Memᴰ}
use Rattle.definitions.specs.Limits.{CaseLimits, type_limit, bracket_limit}
use Rattle.definitions.specs.Lists.{below}
use Rattle.definitions.specs.Sheet.Text.{is_relation_name}
use Rattle.definitions.specs.Refusal.{accepted}
use Rattle.definitions.specs.Sheet.Formula.{Quantified, Formula, write, WellFormed, type_number, has_type, is_typed}
use Rattle.definitions.specs.Sheet.Parsing.{read_formula}
use Rattle.laws.specs.Writing
use Rattle.definitions.specs.Reply.Untyped.{uses_no_types, untyped}
use Rattle.definitions.specs.Sheet.Sheets.{Member, has_member}
use Rattle.definitions.specs.Problem.Truth.{Case, members_of, range_of}
use Rattle.definitions.specs.Problem.Tree.{Tree, exists_node, forall_node}
use Rattle.definitions.specs.Problem.Atoms.{problem_of, Block, count_of, Atom, proof, holds_node, item_at, atom_blocks, atoms, atom_number, node_at, rows_of, initial}
use Rattle.definitions.specs.Problem.Actions.{Action, prove_exists, prove_forall, action_at, action_blocks, actions, under_atom, needs, adds, removes}
use Rattle.definitions.specs.Problem.Strips.{run}
use Rattle.definitions.specs.Problem.Built.{bound}
use Rattle.definitions.specs.Reply.Outcome.{read_case}
use Rattle.laws.specs.Members.{Ascending}
use Rattle.laws.specs.Repeats.{Once}
use Rattle.laws.specs.Booleans.{T_of, T_true}
use Rattle.laws.specs.Reader
use Reader.{Accepted, case_fits, gives_if}
use Rattle.demands.specs.Ranges
use Rattle.demands.specs.NoTypes
use Rattle.demands.specs.NodeActions
use Rattle.demands.specs.OutsideTypes
use Rattle.demands.specs.AtomsStay
use AtomsStay.{plain_case}

-- ---- 17, document 02, job 4. A rule's text is read as a formula exactly if it is the writing of it, which has the types of its
-- variables; and no text is the writing of two.
pub rule_texts : (text : List ℕ) (f : Formula) → (read_formula text ≡ some f) ↔ (WellFormed bracket_limit f × (text ≡ write f))
rule_texts text f = Writing.accepted_texts text f

pub rule_once : (f g : Formula) → WellFormed bracket_limit f → WellFormed bracket_limit g → write f ≡ write g → f ≡ g
rule_once f g hf hg e = Writing.one_formula bracket_limit f g hf hg e

-- For every limits of at most 64 elements, and every question and site that a case c is read from:
module _ (L : CaseLimits) (few : L.elements ≤ 64) (question site : List ℕ) (c : Case) (is_case : read_case L question site ≡ accepted c) where
  fits_case : Accepted c
  fits_case = gives_if Accepted (read_case L question site) c is_case (case_fits L few question site)

  -- every type in the rule is declared;
  pub rule_typed : is_typed c.question.types c.question.rule.formula ≡ true
  rule_typed = T_true _ fits_case.question_fits.rule_fits.typed

  -- there are few types, each in the form of a relation's name, and none is declared twice;
  pub types_are : (length c.question.types ≤ type_limit) × ((t : List ℕ) → Memᴰ t c.question.types → is_relation_name t ≡ true) × Once c.question.types
  types_are = let F = fits_case.question_fits.types_fit in (F.few, λ t m. T_true _ (F.named t m), F.once)

  -- each `member` line is of one of them and of an element, and no type is without one.
  pub members_are : (m : Member) → Memᴰ m c.site.members → (m.type < length c.question.types) × (m.element < c.site.size)
  members_are m i = let F = fits_case.site_fits.members_fit in (F.typed m i, F.small m i)

  pub each_member : (k : ℕ) → k < length c.question.types → has_member c.site.members k ≡ true
  each_member k h = T_true _ (fits_case.site_fits.each_type k h)

  -- What a variable ranges over: an element is in its range exactly if it is below n, and the variable has no type or a `member` line
  -- of its type has the element.
  pub range_is : (q : Quantified) → has_type c.question.types q ≡ true → (x : ℕ)
      → Memᴰ x (range_of c q)
      ↔ ((x < c.site.size) × ((q.type ≡ none) ⊎ ((name : List ℕ) × (q.type ≡ some name) × ((m : Member) × Memᴰ m c.site.members × (type_number c.question.types name ≡ some m.type) × (m.element ≡ x)))))
  range_is q h x = Ranges.range_is c x q (T_of h)

  -- It ascends, and is not empty.
  pub range_ascends : (q : Quantified) → Ascending (range_of c q) × (0 < length (range_of c q))
  unfolding range_of
  range_ascends q = let R = Reader.accepted_range c fits_case _ in (R.ascends, R.some_member)

  -- Without `type` lines no variable of the rule and no kind has a type, nothing is left out by leaving out types, and there is one range, all
  -- elements.
  pub plain_rule : c.question.types ≡ [] → uses_no_types c.question ≡ true
  plain_rule e = T_true _ (NoTypes.no_types_rule c fits_case e)

  pub plain_case_lem : c.question.types ≡ [] → untyped c ≡ c
  plain_case_lem e = NoTypes.no_types_case c fits_case e

  pub plain_range : c.question.types ≡ [] → (s : ℕ) → members_of c s ≡ below c.site.size
  plain_range e s = NoTypes.no_types_range c e s

  -- An `exists` has an action exactly for each value of its free variables and each member of its variable's range,
  pub exists_actions : (v row x : ℕ)
      → ((k : ℕ) × (action_at (problem_of c) k ≡ some (prove_exists v row x)))
      ↔ ((v < length (problem_of c).node_list) × (row < rows_of (problem_of c).size (node_at (problem_of c) v)) × ((d : ℕ) × (s : ℕ) × (t : Tree) × (node_at (problem_of c) v ≡ exists_node d s t) × Memᴰ x (members_of c s)))
  exists_actions = NodeActions.exists_actions c

  -- and a `forall` exactly for each such value and each member to which it may be proved;
  pub forall_actions : (v row z : ℕ)
      → ((k : ℕ) × (action_at (problem_of c) k ≡ some (prove_forall v row z)))
      ↔ ((v < length (problem_of c).node_list) × (row < rows_of (problem_of c).size (node_at (problem_of c) v)) × ((d : ℕ) × (s : ℕ) × (t : Tree) × (node_at (problem_of c) v ≡ forall_node d s t) × Memᴰ z (members_of c s)))
  forall_actions = NodeActions.forall_actions c

  -- to the least it needs the part there alone, and to each later one the part there and its own atom at the member just before.
  pub forall_least : (v row d s : ℕ) (t : Tree) → node_at (problem_of c) v ≡ forall_node d s t
      → needs (problem_of c) (prove_forall v row (get_or (members_of c s) 0 0)) ≡ proof ∷ under_atom c.site.size (members_of c) v (forall_node d s t) row (get_or (members_of c s) 0 0) ∷ []
  forall_least = NodeActions.forall_least c fits_case

  pub forall_next : (v row d s i : ℕ) (t : Tree) → node_at (problem_of c) v ≡ forall_node d s t → suc i < length (members_of c s)
      → needs (problem_of c) (prove_forall v row (get_or (members_of c s) (suc i) 0))
      ≡ proof ∷ under_atom c.site.size (members_of c) v (forall_node d s t) row (get_or (members_of c s) (suc i) 0) ∷ holds_node v (row * c.site.size + get_or (members_of c s) i 0) ∷ []
  forall_next v row d s i t e h = NodeActions.forall_next c fits_case v row d s t e i h

  -- Whatever steps are run, the atom of a `forall` at an element outside its range is false in the state that is left.
  pub outside_false : (v row z d s : ℕ) (t : Tree) → v < length (problem_of c).node_list → node_at (problem_of c) v ≡ forall_node d s t → row < rows_of c.site.size (forall_node d s t)
      → z < c.site.size → (Memᴰ z (members_of c s) → ⊥) → (steps : List ℕ) → (run (problem_of c) steps).state (atom_number (problem_of c) (holds_node v (row * c.site.size + z))) ≡ false
  outside_false = OutsideTypes.outside_false c fits_case

-- Atom numbers do not move: whatever types a case has, its atoms are, number for number, those of the case without them (`plain_case`: no
-- `type` and no `member` line, and no type in the rule or of a `choose`).
pub atoms_stay : (c : Case) (i : ℕ) → item_at (atom_blocks (problem_of c)) i ≡ item_at (atom_blocks (problem_of (plain_case c))) i
atoms_stay c i = ap (λ (bs : List (Block Atom)). item_at bs i) (AtomsStay.atoms_stay c)

pub count_stays : (c : Case) → atoms (problem_of c) ≡ atoms (problem_of (plain_case c))
unfolding atoms
count_stays c = ap count_of (AtomsStay.atoms_stay c)

-- A rule without types, and kinds without them, give the problem of document 01, number for number, whatever types and members there are:
-- the same as the case without its `type` and `member` lines. For every number the same atom, and the same action,
module _ (c : Case) (no_types_lem : uses_no_types c.question ≡ true) where
  pub untyped_atom : (i : ℕ) → item_at (atom_blocks (problem_of c)) i ≡ item_at (atom_blocks (problem_of (untyped c))) i
  untyped_atom i = ap (λ (bs : List (Block Atom)). item_at bs i) (NoTypes.for_untyped c (T_of no_types_lem) (λ p q. atom_blocks p ≡ atom_blocks q) (NoTypes.atoms_same c))

  pub untyped_atoms : atoms (problem_of c) ≡ atoms (problem_of (untyped c))
  unfolding atoms
  untyped_atoms = ap count_of (NoTypes.for_untyped c (T_of no_types_lem) (λ p q. atom_blocks p ≡ atom_blocks q) (NoTypes.atoms_same c))

  pub untyped_action : (k : ℕ) → action_at (problem_of c) k ≡ action_at (problem_of (untyped c)) k
  untyped_action k = NoTypes.for_untyped c (T_of no_types_lem) (λ p q. action_at p k ≡ action_at q k) (λ t h u. NoTypes.action_same c t h u k)

  pub untyped_actions : actions (problem_of c) ≡ actions (problem_of (untyped c))
  unfolding actions
  untyped_actions = ap count_of (NoTypes.for_untyped c (T_of no_types_lem) (λ p q. action_blocks p ≡ action_blocks q) (NoTypes.actions_same c))

  -- which needs, adds and removes the same;
  pub untyped_needs : (a : Action) → needs (problem_of c) a ≡ needs (problem_of (untyped c)) a
  untyped_needs a = NoTypes.for_untyped c (T_of no_types_lem) (λ p q. needs p a ≡ needs q a) (λ t h u. NoTypes.needs_same c t h u a)

  pub untyped_adds : (a : Action) → adds (problem_of c) a ≡ adds (problem_of (untyped c)) a
  untyped_adds a = NoTypes.for_untyped c (T_of no_types_lem) (λ p q. adds p a ≡ adds q a) (λ t h u. NoTypes.adds_same c t h u a)

  pub untyped_removes : (a : Action) → removes (problem_of c) a ≡ removes (problem_of (untyped c)) a
  untyped_removes a = NoTypes.for_untyped c (T_of no_types_lem) (λ p q. removes p a ≡ removes q a) (λ t h u. NoTypes.removes_same c t h u a)

  -- the same atoms initially, and the same bound.
  pub untyped_initial : initial (problem_of c) ≡ initial (problem_of (untyped c))
  untyped_initial = NoTypes.for_untyped c (T_of no_types_lem) (λ p q. initial p ≡ initial q) (NoTypes.initial_same c)

  pub untyped_bound : bound (problem_of c) ≡ bound (problem_of (untyped c))
  untyped_bound = NoTypes.for_untyped c (T_of no_types_lem) (λ p q. bound p ≡ bound q) (NoTypes.bound_same c)

  -- So every list of steps gets the same answer and leaves the same state.
  pub untyped_run : (steps : List ℕ) → run (problem_of c) steps ≡ run (problem_of (untyped c)) steps
  untyped_run steps = NoTypes.for_untyped c (T_of no_types_lem) (λ p q. run p steps ≡ run q steps) (λ t h u. NoTypes.run_same c t h u steps)
