-- The builder's way through the proof phase, by what may be taken alone: nodes from the last to the first, each node's rows in order,
-- at each row the first action that proves it and may be taken. These are the built steps.
use Prim.Native.Nat.{ℕ, zero, suc, ◌+◌, ◌*◌, ◌/◌, ◌%◌, ◌<◌, ◌≤◌}
use Rattle.std.specs.Prelude.{◌≡◌, ◌⊎◌, not, ◌&&◌, ◌||◌, ltb, leb, take, if◌then◌else◌}
use Rattle.std.proofs.Math.Path.{refl, sym, ap, ap₂, subst, fun_ext}
use Rattle.std.proofs.Common.{◌∙◌, add-zero, div-lt_iff_lt-mul, ltb→lt, lt→ltb, nltb→le, leb→le, take-suc}
use Rattle.std.proofs.Math.Logic.{inl, inr, ⊎_elim}
use Rattle.std.proofs.Math.Bool.{Bool, true, false, or-false}
use Rattle.std.proofs.Math.Option.{Option, none, some}
use mathlib.Core.List.{List, [], ◌∷◌, ◌++◌, map, append_assoc, append-nil, Memᴰ}
use native.Mathlib.Omega.{arith}
use Rattle.std.proofs.Math.Nat.{zero-add, div-add-mod'}
use Rattle.std.proofs.Math.Dec.{T, eqb, le→leb, eqb→eq}
use borrow.Author.Tests.{eq-eqb, ne_eqb}
use Rattle.std.proofs.Math.ListN.{length, get_or}
use Rattle.std.proofs.Math.Seq.{length-take-le}
use Rattle.definitions.specs.Lists.{all, any, filter, option, position, from, below, is_in, rank, up_to}
use Rattle.definitions.specs.Sheet.Relations.{Tuple}
use Rattle.definitions.specs.Problem.Tree.{Tree, Trees, leaf, forall_node, exists_node, and_node, or_node, end, ◌then◌, nodes, Part, parts_from, parts, how_many, is_forall, node_sort}
use Rattle.definitions.specs.Problem.Atoms.{Problem, node_at, rows_of, node_width, Atom, guess, proof, goal, tuple, not_tuple, free_domain, free_range, holds_node, marked, atom_number, atoms, State}
use Rattle.definitions.specs.Problem.Actions.{Action, prove_and, prove_or, prove_exists, prove_forall, finish, choices, prove_node, with_value, values_at, adds, removes}
use Rattle.definitions.specs.Problem.Strips.{may_take, after}
use Rattle.definitions.specs.Problem.Built.{tree_holds, is_true_at, least, step_for, true_rows, node_steps, marks_after}
use Rattle.laws.specs.Booleans.{and_T, T_and_l, T_and_r, T_or, or_l, or_r, T_of, T_true, T_ext, T_dec, lt_split}
use Rattle.laws.specs.Lists.{get_or_mem}
use Rattle.laws.specs.Members.{in_mem, select_rank, least_in}
use Rattle.laws.specs.Positions.{place, position_place, place_lt, least_place, position_none}
use Rattle.laws.specs.Numbers.{IsAtom, IsAction, no_node, atom_injective, atom_some, atom_is, atom_number_lem, atom_below}
use Rattle.meaning.specs.Means.{Good, means}
use Rattle.meaning.specs.Does.{some_any}
use Rattle.meaning.specs.Changes.{sort, whose, which, same_atom, after_at, stays}
use Rattle.meaning.specs.Deciding.{is_proof_atom, Decided, says, Knows, and_may, or_may, exists_may, forall_may}

-- ---- the way

-- the state after actions, whether they may be taken or not
unfoldable pub taken : Problem → State → List Action → State
taken p s [] = s
taken p s (a ∷ l) = taken p (after p s a) l

unfoldable pub when : {A : Type 0} → Bool → A → Option A
when true a = some a
when false a = none

-- the row of values, and the first and how many of the parts or elements, that the actions for the atom j of a node have: a `forall`
-- has an action for each of its atoms at an element of its range, and none for the others
unfoldable pub row_in : ℕ → Tree → ℕ → ℕ
row_in n t j = if is_forall t then j / n else j

unfoldable pub first_try : ℕ → (ℕ → List ℕ) → Tree → ℕ → ℕ
first_try n R t j = if is_forall t then rank (R (node_sort t)) (j % n) else zero

unfoldable pub tries : ℕ → (ℕ → List ℕ) → Tree → ℕ → ℕ
tries n R t j = if is_forall t then (if is_in (j % n) (R (node_sort t)) then 1 else zero) else choices R t

-- the i-th action for the atom j of the node v, t
unfoldable pub try_at : ℕ → (ℕ → List ℕ) → ℕ → Tree → ℕ → ℕ → Action
try_at n R v t j i = prove_node R t v (row_in n t j) (first_try n R t j + i)

-- the first of them that may be taken
unfoldable pub step_now : Problem → State → ℕ → Tree → ℕ → Option Action
step_now p s v t j =
    option (position (λ i. may_take p s (try_at p.size p.range v t j i)) (below (tries p.size p.range t j))) none (λ i. some (try_at p.size p.range v t j i))

-- the steps for k rows of a node, from row j on
unfoldable pub row_steps : Problem → ℕ → State → ℕ → ℕ → List Action
row_steps p v s j zero = []
row_steps p v s j (suc k) = option (step_now p s v (node_at p v) j) (row_steps p v s (suc j) k) (λ a. a ∷ row_steps p v (after p s a) (suc j) k)

-- the steps for the first v nodes, the last of them first
unfoldable pub proved_steps : Problem → State → ℕ → List Action
proved_steps p s zero = []
proved_steps p s (suc v) =
    let l = row_steps p v s zero (node_width p.size (node_at p v)) in
    l ++ proved_steps p (taken p s l) v

-- a round, with the value of number k: the steps for all nodes, the round's end, its marks; and d rounds from that on
unfoldable pub round_now : Problem → State → ℕ → List Action
round_now p s k = proved_steps p s (length p.node_list) ++ (finish p ∷ marks_after p k)

unfoldable pub rounds_now : Problem → State → (k d : ℕ) → List Action
rounds_now p s k zero = []
rounds_now p s k (suc d) = round_now p s k ++ rounds_now p (taken p s (round_now p s k)) (suc k) d

-- the state in which round k begins, if round 0 begins in s, and the one in which its end is asked for
unfoldable pub round_state : Problem → State → ℕ → State
round_state p s zero = s
round_state p s (suc k) = taken p (round_state p s k) (round_now p (round_state p s k) k)

unfoldable pub proved_state : Problem → State → ℕ → State
proved_state p s k = taken p (round_state p s k) (proved_steps p (round_state p s k) (length p.node_list))

pub taken_append : (p : Problem) (l m : List Action) (s : State) → taken p s (l ++ m) ≡ taken p (taken p s l) m
unfolding taken
taken_append p [] m s = refl
taken_append p (a ∷ l) m s = taken_append p l m (after p s a)

-- ---- positions
module _ {A : Type 0} where
  -- the first that passes is the least, where one passes
  first_is : {B : Type 0} (f : A → Bool) (xs : List A) (g : ℕ → B) → option (position f xs) none (λ i. some (g i)) ≡ when (any f xs) (g (least f xs))
  unfolding option when least
  first_is f xs g = by_test (any f xs) refl
    where
      by_test : (b : Bool) → any f xs ≡ b → option (position f xs) none (λ i. some (g i)) ≡ when b (g (option (position f xs) zero (λ i. i)))
      by_test true e = rw (position_place f xs (T_of e))
      by_test false e = rw (position_none f xs e)

  position_same : (f : ℕ → Bool) (g : A → Bool) (xs : List A) (d : A) (a : ℕ) → ((i : ℕ) → i < length xs → f (a + i) ≡ g (get_or xs i d)) → position f (from a (length xs)) ≡ position g xs
  unfolding position from option
  position_same f g [] d a h = refl
  position_same f g (x ∷ xs) d a h =
      ap₂ (λ (b : Bool) (o : Option ℕ). if b then some zero else option o none (λ i. some (suc i)))
      (ap f (sym (add-zero a)) ∙ h 0 (omega arith))
      (position_same f g xs d (suc a) (λ i k. let e : suc a + i ≡ a + suc i = omega arith in ap f e ∙ h (suc i) (omega arith)))

-- one try
only : {B : Type 0} (f : ℕ → Bool) (g : ℕ → B) → option (position f (below 1)) none (λ i. some (g i)) ≡ when (f 0) (g 0)
unfolding option position below from when
only f g = by_test (f 0)
  where
    by_test : (b : Bool) → option (if b then some zero else option {A = ℕ} {B = Option ℕ} none none (λ i. some (suc i))) none (λ i. some (g i)) ≡ when b (g 0)
    by_test true = refl
    by_test false = refl

length_parts : (ts : Trees) (w : ℕ) → length (parts_from w ts) ≡ how_many ts
unfolding parts_from how_many
length_parts end w = refl
length_parts (t then ts) w = ap suc (length_parts ts (w + length (nodes t)))

module _ (p : Problem) (G : Good p) (F : List Tuple) where
  abbrev no_part : Part
  no_part = record { node = zero; tree = no_node }

  -- ---- the step at a row is the built one, where the atom is true
  module _ (D : Decided) (s : State) (K : Knows p F D s) (v : ℕ) (l : v < length p.node_list) (later : (w row : ℕ) → v < w → D w row ≡ true) where
    module _ (d σ : ℕ) (u : Tree) (e : node_at p v ≡ forall_node d σ u) (j : ℕ) (h : j < node_width p.size (forall_node d σ u)) (own : (i : ℕ) → i < j → D v i ≡ true) where
      abbrev up_to_z : Bool
      up_to_z = all (λ x. tree_holds p.source F (with_value (values_at p.size (forall_node d σ u) (j / p.size)) d x) u) (up_to (p.range σ) (j % p.size))

      forall_step : (b : Bool) → is_in (j % p.size) (p.range σ) ≡ b
          → option (position (λ i. may_take p s (prove_forall v (j / p.size) (get_or (p.range σ) (rank (p.range σ) (j % p.size) + i) 0))) (below (if b then 1 else zero))) none (λ i. some (prove_forall v (j / p.size) (get_or (p.range σ) (rank (p.range σ) (j % p.size) + i) 0)))
          ≡ when (b && up_to_z) (prove_forall v (j / p.size) (j % p.size))
      unfolding node_width is_forall option position below from when is_true_at
      forall_step false i = refl
      forall_step true i =
          let R : List ℕ = p.range σ in
          let z : ℕ = j % p.size in
          let row : ℕ = j / p.size in
          let m : Memᴰ z R = in_mem z R (T_of i) in
          let k : row * p.size + z ≡ j = div-add-mod' j p.size in
          let at : get_or R (rank R z + 0) 0 ≡ z = ap (λ (y : ℕ). get_or R y 0) (add-zero (rank R z)) ∙ select_rank R z m in
          only (λ i. may_take p s (prove_forall v row (get_or R (rank R z + i) 0))) (λ i. prove_forall v row (get_or R (rank R z + i) 0))
          ∙ ap (λ (y : ℕ). when (may_take p s (prove_forall v row y)) (prove_forall v row y)) at
          ∙ ap (λ (b : Bool). when b (prove_forall v row z))
          (forall_may p G F D s K v l later row d σ u e z ((div-lt_iff_lt-mul G.element).1 h) m (λ i q. own (row * p.size + i) (omega arith))
          ∙ ap (is_true_at p F (forall_node d σ u)) k ∙ ap (λ (b : Bool). b && up_to_z) i)

    forall_now : (d σ : ℕ) (u : Tree) → node_at p v ≡ forall_node d σ u → (j : ℕ) → j < node_width p.size (forall_node d σ u) → ((i : ℕ) → i < j → D v i ≡ true)
        → step_now p s v (forall_node d σ u) j ≡ when (is_true_at p F (forall_node d σ u) j) (step_for p F v (forall_node d σ u) j)
    unfolding step_now step_for is_forall is_true_at try_at row_in first_try tries prove_node node_sort
    forall_now d σ u e j h own = forall_step d σ u e j h own (is_in (j % p.size) (p.range σ)) refl

    exists_now : (d σ : ℕ) (u : Tree) → node_at p v ≡ exists_node d σ u → (j : ℕ) → j < node_width p.size (exists_node d σ u)
        → step_now p s v (exists_node d σ u) j ≡ when (is_true_at p F (exists_node d σ u) j) (step_for p F v (exists_node d σ u) j)
    unfolding step_now step_for node_width is_forall is_true_at tree_holds try_at row_in first_try tries prove_node choices below
    exists_now d σ u e j h =
        let R : List ℕ = p.range σ in
        let g : ℕ → Bool = λ x. tree_holds p.source F (with_value (values_at p.size (exists_node d σ u) j) d x) u in
        let by : ℕ → Action = λ i. prove_exists v j (get_or R i 0) in
        ap₂ (λ (o : Option ℕ) (f : ℕ → Action). option o none (λ x. some (f x)))
        (position_same (λ i. may_take p s (by (zero + i))) g R 0 0
        (λ i k. ap (λ (m : ℕ). may_take p s (by m)) (zero-add (0 + i) ∙ zero-add i) ∙ exists_may p G F D s K v l later j (get_or R i 0) d σ u e h (get_or_mem R i 0 k)))
        (fun_ext (λ x. ap by (zero-add x)))
        ∙ first_is g R by
        ∙ ap (λ (r : ℕ → List ℕ). when (any g (r σ)) (by (least g R))) G.ranges

    and_now : (ts : Trees) → node_at p v ≡ and_node ts → (j : ℕ) → j < node_width p.size (and_node ts) → step_now p s v (and_node ts) j ≡ when (is_true_at p F (and_node ts) j) (step_for p F v (and_node ts) j)
    unfolding step_now step_for node_width is_forall try_at row_in first_try tries prove_node choices
    and_now ts e j h = only (λ i. may_take p s (prove_and v j)) (λ i. prove_and v j) ∙ ap (λ (b : Bool). when b (prove_and v j)) (and_may p G F D s K v l later j ts e h)

    or_now : (ts : Trees) → node_at p v ≡ or_node ts → (j : ℕ) → j < node_width p.size (or_node ts) → step_now p s v (or_node ts) j ≡ when (is_true_at p F (or_node ts) j) (step_for p F v (or_node ts) j)
    unfolding step_now step_for node_width is_forall is_true_at tree_holds below parts try_at row_in first_try tries prove_node choices
    or_now ts e j h =
        let g : Part → Bool = λ (q : Part). tree_holds p.source F (values_at p.size (or_node ts) j) q.tree in
        let ps : List Part = parts v (or_node ts) in
        let n : length ps ≡ how_many ts = length_parts ts (suc v) in
        ap₂ (λ (o : Option ℕ) (f : ℕ → Action). option o none (λ x. some (f x)))
        (ap (λ (k : ℕ). position (λ i. may_take p s (prove_or v j (zero + i))) (from 0 k)) (sym n)
        ∙ position_same (λ i. may_take p s (prove_or v j (zero + i))) g ps no_part 0 (λ i k. ap (λ (m : ℕ). may_take p s (prove_or v j m)) (zero-add (0 + i) ∙ zero-add i) ∙ or_may p G F D s K v l later j i ts no_part e h (subst (λ (m : ℕ). i < m) n k)))
        (fun_ext (λ x. ap (prove_or v j) (zero-add x)))
        ∙ first_is g ps (prove_or v j)
        ∙ ap (λ (b : Bool). when b (prove_or v j (least g ps))) (sym (some_any p F ts (suc v) (values_at p.size (or_node ts) j)))

    pub step_now_lem : (t : Tree) → node_at p v ≡ t → (j : ℕ) → j < node_width p.size t → ((i : ℕ) → i < j → D v i ≡ true) → step_now p s v t j ≡ when (is_true_at p F t j) (step_for p F v t j)
    unfolding step_now is_true_at when tries is_forall choices position below from option
    step_now_lem (leaf q r ls) e j h own = refl
    step_now_lem (forall_node d σ u) e j h own = forall_now d σ u e j h own
    step_now_lem (exists_node d σ u) e j h own = exists_now d σ u e j h
    step_now_lem (and_node ts) e j h own = and_now ts e j h
    step_now_lem (or_node ts) e j h own = or_now ts e j h

  -- ---- a built step is one of the problem's actions, adds its atom and removes nothing
  step_is : (v : ℕ) (t : Tree) → v < length p.node_list → node_at p v ≡ t → (j : ℕ) → j < node_width p.size t → T (is_true_at p F t j) → IsAction p (step_for p F v t j)
  unfolding IsAction step_for is_true_at tree_holds node_width is_forall parts
  step_is v (leaf q r ls) l e j h t = absurd t
  step_is v (forall_node d σ u) l e j h t = (l, subst (λ (x : Tree). j / p.size < rows_of p.size x) (sym e) ((div-lt_iff_lt-mul G.element).1 h), (d, σ, u, e, in_mem (j % p.size) (p.range σ) (T_and_l (is_in (j % p.size) (p.range σ)) _ t)))
  step_is v (exists_node d σ u) l e j h t =
      let g : ℕ → Bool = λ x. tree_holds p.source F (with_value (values_at p.size (exists_node d σ u) j) d x) u in
      (l, subst (λ (x : Tree). j < rows_of p.size x) (sym e) h, (d, σ, u, e, (least_in g (p.range σ) (subst (λ (r : ℕ → List ℕ). T (any g (r σ))) (sym G.ranges) t)).0))
  step_is v (and_node ts) l e j h t = (l, subst (λ (x : Tree). j < rows_of p.size x) (sym e) h, (ts, e))
  step_is v (or_node ts) l e j h t =
      let g : Part → Bool = λ (q : Part). tree_holds p.source F (values_at p.size (or_node ts) j) q.tree in
      let a : T (any g (parts_from (suc v) ts)) = subst T (some_any p F ts (suc v) (values_at p.size (or_node ts) j)) t in
      let k : place g (parts_from (suc v) ts) < how_many ts = subst (λ (n : ℕ). place g (parts_from (suc v) ts) < n) (length_parts ts (suc v)) (place_lt g (parts_from (suc v) ts) a) in
      (l, subst (λ (x : Tree). j < rows_of p.size x) (sym e) h, (ts, e, subst (λ (n : ℕ). n < how_many ts) (sym (least_place g (parts_from (suc v) ts) a)) k))

  pub step_adds : (v : ℕ) (t : Tree) (j : ℕ) → T (is_true_at p F t j) → (adds p (step_for p F v t j) ≡ holds_node v j ∷ []) × (removes p (step_for p F v t j) ≡ [])
  unfolding step_for is_true_at adds removes
  step_adds v (leaf q r ls) j t = absurd t
  step_adds v (forall_node d σ u) j t = (ap (λ (k : ℕ). holds_node v k ∷ []) (div-add-mod' j p.size), refl)
  step_adds v (exists_node d σ u) j t = (refl, refl)
  step_adds v (and_node ts) j t = (refl, refl)
  step_adds v (or_node ts) j t = (refl, refl)

  -- ---- one row more is decided
  abbrev pub rows_to : ℕ → ℕ → Decided
  rows_to v j w row = ltb v w || (eqb v w && ltb row j)

  abbrev pub nodes_from : ℕ → Decided
  nodes_from k w row = leb k w

  rows_at : (v j w row : ℕ) → T (rows_to v j w row) → (v < w) ⊎ ((v ≡ w) × (row < j))
  rows_at v j w row t = ⊎_elim (λ q. inl (ltb→lt v w q)) (λ q. inr (eqb→eq v w (T_and_l (eqb v w) _ q), ltb→lt row j (T_and_r (eqb v w) _ q))) (T_or (ltb v w) _ t)

  rows_of_lem : (v j w row : ℕ) → (v < w) ⊎ ((v ≡ w) × (row < j)) → T (rows_to v j w row)
  rows_of_lem v j w row (inl h) = or_l (ltb v w) _ (lt→ltb v w h)
  rows_of_lem v j w row (inr (e, h)) = or_r (ltb v w) _ (and_T (eqb v w) _ (T_of (eq-eqb v w e)) (lt→ltb row j h))

  said_more : (v j : ℕ) → T (is_true_at p F (node_at p v) j) → (x : Atom) → T (is_proof_atom x) → (says p F (rows_to v j) x || same_atom x (holds_node v j)) ≡ says p F (rows_to v (suc j)) x
  unfolding says is_proof_atom same_atom sort whose which
  said_more v j t guess q = absurd q
  said_more v j t proof q = refl
  said_more v j t goal q = absurd q
  said_more v j t (tuple r row) q = or-false (means p F (tuple r row))
  said_more v j t (not_tuple r row) q = or-false (means p F (not_tuple r row))
  said_more v j t (free_domain r x) q = absurd q
  said_more v j t (free_range r y) q = absurd q
  said_more v j t (marked r row) q = absurd q
  said_more v j t (holds_node w row) q = T_ext _ _ up down
    where
      up : T ((rows_to v j w row && is_true_at p F (node_at p w) row) || (eqb w v && eqb row j)) → T (rows_to v (suc j) w row && is_true_at p F (node_at p w) row)
      up h = ⊎_elim
          (λ a. and_T (rows_to v (suc j) w row) _ (rows_of_lem v (suc j) w row (⊎_elim (λ b. inl b) (λ b. inr (b.0, omega (arith, b.1))) (rows_at v j w row (T_and_l (rows_to v j w row) _ a)))) (T_and_r (rows_to v j w row) _ a))
          (λ a. let i = eqb→eq w v (T_and_l (eqb w v) _ a) in let k = eqb→eq row j (T_and_r (eqb w v) _ a) in
          and_T (rows_to v (suc j) w row) _ (rows_of_lem v (suc j) w row (inr (sym i, omega arith))) (subst (λ (y : ℕ). T (is_true_at p F (node_at p y) row)) (sym i) (subst (λ (y : ℕ). T (is_true_at p F (node_at p v) y)) (sym k) t)))
          (T_or (rows_to v j w row && is_true_at p F (node_at p w) row) _ h)

      down : T (rows_to v (suc j) w row && is_true_at p F (node_at p w) row) → T ((rows_to v j w row && is_true_at p F (node_at p w) row) || (eqb w v && eqb row j))
      down h = ⊎_elim
          (λ a. old (inl a))
          (λ a. ⊎_elim (λ b. old (inr (a.0, b))) (λ b. or_r (rows_to v j w row && is_true_at p F (node_at p w) row) _ (and_T (eqb w v) _ (T_of (eq-eqb w v (sym a.0))) (T_of (eq-eqb row j b)))) (lt_split row j a.1))
          (rows_at v (suc j) w row (T_and_l (rows_to v (suc j) w row) _ h))
        where
          old : (v < w) ⊎ ((v ≡ w) × (row < j)) → T ((rows_to v j w row && is_true_at p F (node_at p w) row) || (eqb w v && eqb row j))
          old a = or_l (rows_to v j w row && is_true_at p F (node_at p w) row) _ (and_T (rows_to v j w row) _ (rows_of_lem v j w row a) (T_and_r (rows_to v (suc j) w row) _ h))

  said_same : (v j : ℕ) → is_true_at p F (node_at p v) j ≡ false → (x : Atom) → says p F (rows_to v j) x ≡ says p F (rows_to v (suc j)) x
  unfolding says
  said_same v j f guess = refl
  said_same v j f proof = refl
  said_same v j f goal = refl
  said_same v j f (tuple r row) = refl
  said_same v j f (not_tuple r row) = refl
  said_same v j f (free_domain r x) = refl
  said_same v j f (free_range r y) = refl
  said_same v j f (marked r row) = refl
  said_same v j f (holds_node w row) = T_ext _ _
      (λ h. and_T (rows_to v (suc j) w row) _ (rows_of_lem v (suc j) w row (⊎_elim (λ b. inl b) (λ b. inr (b.0, omega (arith, b.1))) (rows_at v j w row (T_and_l (rows_to v j w row) _ h)))) (T_and_r (rows_to v j w row) _ h))
      (λ h. and_T (rows_to v j w row) _ (rows_of_lem v j w row (⊎_elim (λ b. inl b)
      (λ b. inr (b.0, ⊎_elim (λ k. k) (λ k. absurd (subst T f (subst (λ (y : ℕ). T (is_true_at p F (node_at p v) y)) k (subst (λ (y : ℕ). T (is_true_at p F (node_at p y) row)) (sym b.0) (T_and_r (rows_to v (suc j) w row) _ h))))) (lt_split row j b.1)))
      (rows_at v (suc j) w row (T_and_l (rows_to v (suc j) w row) _ h)))) (T_and_r (rows_to v (suc j) w row) _ h))

  -- the state after a built step
  more_known : (v j : ℕ) (s : State) → v < length p.node_list → j < node_width p.size (node_at p v) → T (is_true_at p F (node_at p v) j)
      → Knows p F (rows_to v j) s → Knows p F (rows_to v (suc j)) (after p s (step_for p F v (node_at p v) j))
  unfolding any
  more_known v j s l h t K x w q =
      let a = step_adds v (node_at p v) j t in
      after_at p G s (step_for p F v (node_at p v) j) x (step_is v (node_at p v) l refl j h t) w
      ∙ stays (s (atom_number p x)) (any (same_atom x) (removes p (step_for p F v (node_at p v) j))) (any (same_atom x) (adds p (step_for p F v (node_at p v) j))) (same_atom x (holds_node v j)) (ap (any (same_atom x)) a.1) (ap (any (same_atom x)) a.0 ∙ or-false (same_atom x (holds_node v j)))
      ∙ ap (λ (b : Bool). b || same_atom x (holds_node v j)) (K x w q) ∙ said_more v j t x q

  same_known : (v j : ℕ) (s : State) → is_true_at p F (node_at p v) j ≡ false → Knows p F (rows_to v j) s → Knows p F (rows_to v (suc j)) s
  same_known v j s f K x w q = K x w q ∙ said_same v j f x

  -- ---- the rows of a node
  rows_later : (v j : ℕ) → (w row : ℕ) → v < w → rows_to v j w row ≡ true
  rows_later v j w row h = T_true (rows_to v j w row) (rows_of_lem v j w row (inl h))

  rows_own : (v j i : ℕ) → i < j → rows_to v j v i ≡ true
  rows_own v j i h = T_true (rows_to v j v i) (rows_of_lem v j v i (inr (refl, h)))

  abbrev RowsAre : ℕ → ℕ → ℕ → ℕ → State → Type 0
  RowsAre v k j m s = (row_steps p v s j k ≡ map (step_for p F v (node_at p v)) (filter (is_true_at p F (node_at p v)) (from j k))) × Knows p F (rows_to v m) (taken p s (row_steps p v s j k))

  rows_next : (v k j : ℕ) (s : State) (b : Bool) → is_true_at p F (node_at p v) j ≡ b → (o : Option Action) → o ≡ when b (step_for p F v (node_at p v) j)
      → v < length p.node_list → j < node_width p.size (node_at p v) → Knows p F (rows_to v j) s → ((s' : State) → Knows p F (rows_to v (suc j)) s' → RowsAre v k (suc j) (j + suc k) s')
      → (option o (row_steps p v s (suc j) k) (λ a. a ∷ row_steps p v (after p s a) (suc j) k) ≡ map (step_for p F v (node_at p v)) (if b then j ∷ filter (is_true_at p F (node_at p v)) (from (suc j) k) else filter (is_true_at p F (node_at p v)) (from (suc j) k)))
      × Knows p F (rows_to v (j + suc k)) (taken p s (option o (row_steps p v s (suc j) k) (λ a. a ∷ row_steps p v (after p s a) (suc j) k)))
  unfolding taken option when
  rows_next v k j s true t o e l h K r = let q = r (after p s (step_for p F v (node_at p v) j)) (more_known v j s l h (T_of t) K) in rw e (ap (λ (as' : List Action). step_for p F v (node_at p v) j ∷ as') q.0, q.1)
  rows_next v k j s false t o e l h K r = let q = r s (same_known v j s t K) in rw e q

  pub rows_are : (v : ℕ) → v < length p.node_list → (k j : ℕ) (s : State) → j + k ≤ node_width p.size (node_at p v) → Knows p F (rows_to v j) s → RowsAre v k j (j + k) s
  unfolding row_steps filter from taken
  rows_are v l zero j s h K = (refl, subst (λ (i : ℕ). Knows p F (rows_to v i) s) (sym (add-zero j)) K)
  rows_are v l (suc k) j s h K =
      let i : suc j + k ≡ j + suc k = omega arith in
      rows_next v k j s (is_true_at p F (node_at p v) j) refl (step_now p s v (node_at p v) j)
      (step_now_lem (rows_to v j) s K v l (rows_later v j) (node_at p v) refl j (omega arith) (rows_own v j)) l (omega arith) K
      (λ s' K'. subst (λ (m : ℕ). RowsAre v k (suc j) m s') i (rows_are v l k (suc j) s' (omega arith) K'))

  -- ---- the nodes
  says_same : (D E : Decided) → ((w row : ℕ) → IsAtom p (holds_node w row) → D w row ≡ E w row) → (x : Atom) → IsAtom p x → says p F D x ≡ says p F E x
  unfolding says
  says_same D E h guess w = refl
  says_same D E h proof w = refl
  says_same D E h goal w = refl
  says_same D E h (tuple r row) w = refl
  says_same D E h (not_tuple r row) w = refl
  says_same D E h (free_domain r x) w = refl
  says_same D E h (free_range r y) w = refl
  says_same D E h (marked r row) w = refl
  says_same D E h (holds_node v row) w = ap (λ (b : Bool). b && is_true_at p F (node_at p v) row) (h v row w)

  pub node_known : (v : ℕ) (s : State) → Knows p F (rows_to v (node_width p.size (node_at p v))) s → Knows p F (nodes_from v) s
  unfolding IsAtom
  node_known v s K x a q = K x a q ∙ says_same (rows_to v (node_width p.size (node_at p v))) (nodes_from v) (λ w row h. T_ext _ _
      (λ t. le→leb v w (⊎_elim (λ b. omega (arith, b)) (λ b. omega (arith, b.0)) (rows_at v (node_width p.size (node_at p v)) w row t)))
      (λ t. rows_of_lem v (node_width p.size (node_at p v)) w row (⊎_elim (λ b. inl b) (λ b. inr (b, subst (λ (i : ℕ). row < node_width p.size (node_at p i)) (sym b) h.1)) (le_cases v w (leb→le v w t))))) x a
    where
      le_cases : (a b : ℕ) → a ≤ b → (a < b) ⊎ (a ≡ b)
      le_cases a b h = lt_split a b (omega arith)

  pub known_node : (v : ℕ) (s : State) → Knows p F (nodes_from (suc v)) s → Knows p F (rows_to v zero) s
  known_node v s K x a q = K x a q ∙ says_same (nodes_from (suc v)) (rows_to v zero) (λ w row h. T_ext _ _
      (λ t. rows_of_lem v zero w row (inl (leb→le (suc v) w t)))
      (λ t. le→leb (suc v) w (⊎_elim (λ b. b) (λ b. absurd (omega (arith, b.1))) (rows_at v zero w row t)))) x a

  steps_snoc : (ts : List Tree) (a : ℕ) (t : Tree) → node_steps p F a (ts ++ (t ∷ [])) ≡ map (step_for p F (a + length ts) t) (true_rows p F t) ++ node_steps p F a ts
  unfolding node_steps
  steps_snoc [] a t = ap (λ (n : ℕ). map (step_for p F n t) (true_rows p F t)) (sym (add-zero a)) ∙ sym (append-nil (map (step_for p F (a + 0) t) (true_rows p F t)))
  steps_snoc (u ∷ ts) a t =
      let i : suc a + length ts ≡ a + suc (length ts) = omega arith in
      ap (λ (l : List Action). l ++ map (step_for p F a u) (true_rows p F u)) (steps_snoc ts (suc a) t ∙ ap (λ (n : ℕ). map (step_for p F n t) (true_rows p F t) ++ node_steps p F (suc a) ts) i)
      ∙ append_assoc (map (step_for p F (a + suc (length ts)) t) (true_rows p F t)) (node_steps p F (suc a) ts) (map (step_for p F a u) (true_rows p F u))

  pub steps_next : (v : ℕ) → v < length p.node_list
      → node_steps p F zero (take (suc v) p.node_list) ≡ map (step_for p F v (node_at p v)) (filter (is_true_at p F (node_at p v)) (from zero (node_width p.size (node_at p v)))) ++ node_steps p F zero (take v p.node_list)
  unfolding true_rows below node_at
  steps_next v l =
      let e : zero + length (take v p.node_list) ≡ v = omega (arith, length-take-le v p.node_list (omega arith)) in
      ap (node_steps p F zero) (take-suc p.node_list v no_node l) ∙ steps_snoc (take v p.node_list) zero (get_or p.node_list v no_node)
      ∙ ap (λ (n : ℕ). map (step_for p F n (get_or p.node_list v no_node)) (true_rows p F (get_or p.node_list v no_node)) ++ node_steps p F zero (take v p.node_list)) e

  pub proved_are : (v : ℕ) (s : State) → v ≤ length p.node_list → Knows p F (nodes_from v) s
      → (proved_steps p s v ≡ node_steps p F zero (take v p.node_list)) × Knows p F (nodes_from zero) (taken p s (proved_steps p s v))
  unfolding proved_steps node_steps taken
  proved_are zero s h K = (refl, K)
  proved_are (suc v) s h K =
      let r = rows_are v (omega arith) (node_width p.size (node_at p v)) zero s (omega arith) (known_node v s K) in
      let K' = node_known v (taken p s (row_steps p v s zero (node_width p.size (node_at p v)))) (subst (λ (m : ℕ). Knows p F (rows_to v m) (taken p s (row_steps p v s zero (node_width p.size (node_at p v))))) (zero-add (node_width p.size (node_at p v))) r.1) in
      let q = proved_are v (taken p s (row_steps p v s zero (node_width p.size (node_at p v)))) (omega arith) K' in (
        ap₂ ◌++◌ r.0 q.0 ∙ sym (steps_next v (omega arith)),
        subst (Knows p F (nodes_from zero)) (sym (taken_append p (row_steps p v s zero (node_width p.size (node_at p v))) (proved_steps p (taken p s (row_steps p v s zero (node_width p.size (node_at p v)))) v) s)) q.1,
      )

  -- ---- what the steps leave as it is: every number that is no node atom's
  abbrev pub NoNode : ℕ → Type 0
  NoNode i = (w row : ℕ) → IsAtom p (holds_node w row) → i ≡ atom_number p (holds_node w row) → ⊥

  step_keeps : (v j : ℕ) (s : State) → v < length p.node_list → j < node_width p.size (node_at p v) → T (is_true_at p F (node_at p v) j) → (i : ℕ) → NoNode i → after p s (step_for p F v (node_at p v) j) i ≡ s i
  unfolding after any IsAtom
  step_keeps v j s l h t i o =
      let a = step_adds v (node_at p v) j t in
      rw (a.0, a.1, ne_eqb i (atom_number p (holds_node v j)) (o v j (l, h))) (kept (s i))
    where
      kept : (b : Bool) → ((b && true) || (false || false)) ≡ b
      kept true = refl
      kept false = refl

  keep_next : (v k j : ℕ) (s : State) (b : Bool) → is_true_at p F (node_at p v) j ≡ b → (o : Option Action) → o ≡ when b (step_for p F v (node_at p v) j) → v < length p.node_list → j < node_width p.size (node_at p v)
      → Knows p F (rows_to v j) s → (i : ℕ) → NoNode i → ((s' : State) → Knows p F (rows_to v (suc j)) s' → taken p s' (row_steps p v s' (suc j) k) i ≡ s' i)
      → taken p s (option o (row_steps p v s (suc j) k) (λ a. a ∷ row_steps p v (after p s a) (suc j) k)) i ≡ s i
  unfolding taken option when
  keep_next v k j s true t o e l h K i q r = rw e (r (after p s (step_for p F v (node_at p v) j)) (more_known v j s l h (T_of t) K) ∙ step_keeps v j s l h (T_of t) i q)
  keep_next v k j s false t o e l h K i q r = rw e (r s (same_known v j s t K))

  rows_keep : (v : ℕ) → v < length p.node_list → (k j : ℕ) (s : State) → j + k ≤ node_width p.size (node_at p v) → Knows p F (rows_to v j) s → (i : ℕ) → NoNode i → taken p s (row_steps p v s j k) i ≡ s i
  unfolding row_steps taken
  rows_keep v l zero j s h K i o = refl
  rows_keep v l (suc k) j s h K i o =
      keep_next v k j s (is_true_at p F (node_at p v) j) refl (step_now p s v (node_at p v) j)
      (step_now_lem (rows_to v j) s K v l (rows_later v j) (node_at p v) refl j (omega arith) (rows_own v j)) l (omega arith) K i o (λ s' K'. rows_keep v l k (suc j) s' (omega arith) K' i o)

  pub nodes_keep : (v : ℕ) (s : State) → v ≤ length p.node_list → Knows p F (nodes_from v) s → (i : ℕ) → NoNode i → taken p s (proved_steps p s v) i ≡ s i
  unfolding proved_steps taken
  nodes_keep zero s h K i o = refl
  nodes_keep (suc v) s h K i o =
      let l : List Action = row_steps p v s zero (node_width p.size (node_at p v)) in
      let r = rows_are v (omega arith) (node_width p.size (node_at p v)) zero s (omega arith) (known_node v s K) in
      let K' = node_known v (taken p s l) (subst (λ (m : ℕ). Knows p F (rows_to v m) (taken p s l)) (zero-add (node_width p.size (node_at p v))) r.1) in
      ap (λ (t : State). t i) (taken_append p l (proved_steps p (taken p s l) v) s) ∙ nodes_keep v (taken p s l) (omega arith) K' i o
      ∙ rows_keep v (omega arith) (node_width p.size (node_at p v)) zero s (omega arith) (known_node v s K) i o

  -- a node's atom is of the last sort
  abbrev of_node : Atom → Bool
  of_node x = eqb (sort x) (sort (holds_node zero zero))

  -- so two states that know all nodes and have left every other number are one
  pub known_same : (s s' s'' : State) → Knows p F (nodes_from zero) s' → Knows p F (nodes_from zero) s'' → ((i : ℕ) → NoNode i → s' i ≡ s i) → ((i : ℕ) → NoNode i → s'' i ≡ s i) → s' ≡ s''
  unfolding IsAtom is_proof_atom sort
  known_same s s' s'' K K' f g = fun_ext by_number
    where
      no_node_lem : {a : Atom} {v row : ℕ} → a ≡ holds_node v row → T (not (of_node a)) → ⊥
      no_node_lem e t = subst (λ (x : Atom). T (not (of_node x))) e t

      by_atom : (i : ℕ) (a : Atom) → IsAtom p a → atom_number p a ≡ i → ((v row : ℕ) → a ≡ holds_node v row → ⊥) → s' i ≡ s'' i
      by_atom i a w e o = let n : NoNode i = λ v row b q. o v row (atom_injective p a (holds_node v row) w b (e ∙ q)) in f i n ∙ sym (g i n)

      by_kind : (i : ℕ) (a : Atom) → IsAtom p a → atom_number p a ≡ i → s' i ≡ s'' i
      by_kind i (holds_node v row) w e = subst (λ (n : ℕ). s' n ≡ s'' n) e (K (holds_node v row) w tt ∙ sym (K' (holds_node v row) w tt))
      by_kind i guess w e = by_atom i guess w e (λ v row q. no_node_lem q tt)
      by_kind i proof w e = by_atom i proof w e (λ v row q. no_node_lem q tt)
      by_kind i goal w e = by_atom i goal w e (λ v row q. no_node_lem q tt)
      by_kind i (tuple r x) w e = by_atom i (tuple r x) w e (λ v row q. no_node_lem q tt)
      by_kind i (not_tuple r x) w e = by_atom i (not_tuple r x) w e (λ v row q. no_node_lem q tt)
      by_kind i (marked r x) w e = by_atom i (marked r x) w e (λ v row q. no_node_lem q tt)
      by_kind i (free_domain r x) w e = by_atom i (free_domain r x) w e (λ v row q. no_node_lem q tt)
      by_kind i (free_range r x) w e = by_atom i (free_range r x) w e (λ v row q. no_node_lem q tt)

      by_number : (i : ℕ) → s' i ≡ s'' i
      by_number i = ⊎_elim
          (λ h. let a = atom_some p i h in by_kind i a.0 (atom_is p i a.0 a.1) (atom_number_lem p i a.0 a.1))
          (λ h. let n : NoNode i = λ v row b q. omega (arith, atom_below p (holds_node v row) b, q, h) in f i n ∙ sym (g i n))
          (low_or_high i (atoms p))
        where
          low_or_high : (a b : ℕ) → (a < b) ⊎ (b ≤ a)
          low_or_high a b = ⊎_elim (λ t. inl (ltb→lt a b t)) (λ t. inr (nltb→le a b t)) (T_dec (ltb a b))
