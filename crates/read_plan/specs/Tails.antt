-- The number by the table is that of the step that a name and objects are. Assumes nothing.
use Prim.Native.Nat.{ℕ, zero, suc, ◌+◌, ◌*◌, ◌^◌, ◌≤◌, ◌<◌}
use Rattle.std.specs.Prelude.{◌≡◌, Bool, true, false, T, eqb, ltb, length, take, if◌then◌else◌}
use Rattle.std.proofs.Math.Path.{refl, sym, ap, ap₂, subst}
use Rattle.std.proofs.Common.{◌∙◌, eqb→eq, take-take, length-take-le, lt-ltb}
use Rattle.std.proofs.Math.Option.{Option, none, some}
use mathlib.Core.List.{List, [], Memᴰ}
use native.Mathlib.Omega.{arith}
use Rattle.std.proofs.Math.ListN.{get_or}
use Rattle.std.proofs.Math.Seq.{get_or-take}
use Rattle.definitions.specs.Lists.{option, is_some, below, rank}
use Rattle.definitions.specs.Sheet.Relations.{is_chosen, is_universal, is_function}
use Rattle.definitions.specs.Problem.Truth.{Case}
use Rattle.definitions.specs.Problem.Tree.{Tree, Trees, exists_node, forall_node, and_node, or_node, how_many, node_sort, free}
use Rattle.definitions.specs.Problem.Atoms.{Problem, problem_of, problem_with, relation_at, node_at, tuples_of, rows_of, row_of}
use Rattle.definitions.specs.Problem.Actions.{Action, set, begin_proof, prove_and, prove_or, prove_exists, prove_forall, prove_goal}
use Rattle.definitions.specs.Problem.Actions.{choices, set_rows, set_start, proof_start, proof_number, range_at, actions, action_number}
use Rattle.definitions.specs.Reply.Lifted.{ActionName, set_name, begin_name, goal_name, and_name, exists_name, first_name}
use Rattle.definitions.specs.Reply.Lifted.{next_name, or_name, relation_in, node_in, set_schema, proof_schema, schema_of}
use Rattle.definitions.specs.Reply.Pddl.{action_named}
use Rattle.laws.specs.Booleans.{T_of, or_l}
use Rattle.laws.specs.Lists.{mem_below, length_below}
use Rattle.laws.specs.Members.{rank_below}
use Rattle.laws.specs.Rows.{row_lt}
use Rattle.laws.specs.SetRows.{plain_rows, free_rows}
use Rattle.laws.specs.Numbers.{IsAction, action_at_lem, action_below}
use Rattle.laws.specs.Reader.{Accepted}
use Rattle.meaning.specs.PddlWords.{Named, all_elements}
use Rattle.rows.specs.Values.{Within}
use Rattle.problem_table.specs.Lines.{size_in, nodes_in, relations_in, node_line, relation_line, Fits}
use Rattle.problem_table.specs.Of.{Is}
use Rattle.print_page.specs.Elements.{NamesAre}
use Rattle.print_names.specs.Naming.{named}
use Rattle.read_plan.specs.Domain.{many_are}
use Rattle.read_plan.specs.Objects.{below_take}
use Rattle.read_plan.specs.Numbers.{sized, node_number, set_number, exists_number, next_number, or_number, number_by}

-- the step of a name and objects
unfoldable pub step_of : Case → Problem → ActionName → List ℕ → Option ℕ
step_of c p a xs = if eqb (length xs) (schema_of c a).parameters then option (action_named p a xs) none (λ b. some (action_number p b)) else none

-- a case for PDDL, with its table and the spans of its names
pub record Posed (c : Case) (question names w : List ℕ) : Type 0 where
  pub accepts : Accepted c
  pub plain : c.question.types ≡ []
  pub alone : c.question.every ≡ none
  pub is : Is (problem_of c) w
  pub names_are : NamesAre (problem_of c) question names
  pub few : actions (problem_of c) ≤ 2 ^ 32
  pub fits : Fits w

sized_by : (count wanted m k : ℕ) → (count ≡ wanted → (m ≡ k) × (k < 2 ^ 32)) → sized count wanted m ≡ (if eqb count wanted then some k else none)
unfolding sized
sized_by count wanted m k h = by_test (eqb count wanted) refl
  where
    by_test : (b : Bool) → eqb count wanted ≡ b → (if b then (if ltb m (2 ^ 32) then some m else none) else none) ≡ (if b then some k else none)
    by_test true e =
        let (y, z) = h (eqb→eq count wanted (T_of e)) in
        let l : m < 2 ^ 32 = omega arith in
        rw (lt-ltb m (2 ^ 32) l) (ap some y)
    by_test false e = refl

module _ (c : Case) (question names w : List ℕ) (P : Posed c question names w) where
  abbrev p : Problem
  p = problem_of c

  -- a node's free variables
  abbrev wide : ℕ → ℕ
  wide v = length (free (node_at p v))

  number_small : (a : Action) → IsAction p a → action_number p a < 2 ^ 32
  number_small a h = let l = action_below p (action_number p a) a (action_at_lem p a h) in omega (arith, P.few)

  all_rows : (r : ℕ) → r < length p.relations → T (is_chosen (relation_at p r).kind)
      → set_rows p.size p.range (relation_at p r) ≡ below (tuples_of p.size (relation_at p r))
  all_rows r l t = by_test (is_function (relation_at p r).kind) refl
    where
      by_test : (b : Bool) → is_function (relation_at p r).kind ≡ b → set_rows p.size p.range (relation_at p r) ≡ below (tuples_of p.size (relation_at p r))
      by_test true e = free_rows p.size p.range (relation_at p r) (T_of e) ((P.is.relation r l).pairs (T_of e)) (all_elements c P.plain _)
          (all_elements c P.plain _)
      by_test false e = plain_rows p.size p.range (relation_at p r) t e

  range_rank : (v x : ℕ) → x < p.size → rank (range_at p v) x ≡ x
  unfolding range_at
  range_rank v x h = ap (λ (ms : List ℕ). rank ms x) (all_elements c P.plain (node_sort (node_at p v))) ∙ rank_below p.size x h

  range_mem : (s x : ℕ) → x < p.size → Memᴰ x (p.range s)
  range_mem s x h = subst (λ (ms : List ℕ). Memᴰ x ms) (sym (all_elements c P.plain s)) (mem_below p.size x h)

  range_count : (s : ℕ) → length (p.range s) ≡ p.size
  range_count s = ap length (all_elements c P.plain s) ∙ length_below p.size

  proof_number_lem : (v row each i : ℕ) → choices p.range (node_at p v) ≡ each → proof_number p v row i ≡ proof_start p v + row * each + i
  unfolding proof_number
  proof_number_lem v row each i e = ap (λ (k : ℕ). proof_start p v + row * k + i) e

  module _ (values : List ℕ) (six : length values ≡ 6) (W : Within (size_in w) values) (count : ℕ) (some-few : count ≤ 6) where
    abbrev xs : List ℕ
    xs = take count values

    xs_count : length xs ≡ count
    xs_count = length-take-le count values (omega (arith, six))

    element : (i : ℕ) → get_or values i 0 < p.size
    element i = subst (λ (m : ℕ). get_or values i 0 < m) P.is.size (W i)

    row_small : (k : ℕ) → k ≤ 6 → row_of p.size (take k values) < p.size ^ k
    row_small k h =
        subst (λ (j : ℕ). row_of p.size (take k values) < p.size ^ j) (length-take-le k values (omega (arith, six)))
        (row_lt p.size (take k values) (below_take p.size values k (omega (arith, six)) element))

    step_as : (a : ActionName) (b : Option Action) (wanted : ℕ) → (schema_of c a).parameters ≡ wanted → action_named p a xs ≡ b
        → step_of c p a xs ≡ (if eqb count wanted then option b none (λ d. some (action_number p d)) else none)
    unfolding step_of
    step_as a b wanted e f = rw (xs_count, e, f) refl

    one_step : (a : ActionName) (b : Action) (wanted m : ℕ) → (schema_of c a).parameters ≡ wanted → action_named p a xs ≡ some b
        → (count ≡ wanted → IsAction p b × (action_number p b ≡ m)) → sized count wanted m ≡ step_of c p a xs
    unfolding option
    one_step a b wanted m e f h = sized_by count wanted m (action_number p b) (λ q. let (i, y) = h q in (sym y, number_small b i))
        ∙ sym (step_as a (some b) wanted e f)

    -- ---- a tuple
    set_row_lem : (r : ℕ) → count ≡ (relation_at p r).arity → row_of p.size xs < tuples_of p.size (relation_at p r)
    unfolding tuples_of
    set_row_lem r q = subst (λ (j : ℕ). row_of p.size xs < p.size ^ j) q (row_small count some-few)

    set_action : (r : ℕ) → r < length p.relations → T (is_chosen (relation_at p r).kind) → count ≡ (relation_at p r).arity
        → IsAction p (set r (row_of p.size xs)) ×
        (action_number p (set r (row_of p.size xs)) ≡ set_start p r + row_of p.size (take (relation_at p r).arity values))
    unfolding IsAction action_number
    set_action r l t q = (
      (
        l,
        t,
        subst (λ (ms : List ℕ). Memᴰ (row_of p.size xs) ms) (sym (all_rows r l t))
            (mem_below (tuples_of p.size (relation_at p r)) (row_of p.size xs) (set_row_lem r q)),
      ),
      ap (λ (ms : List ℕ). set_start p r + rank ms (row_of p.size xs)) (all_rows r l t) ∙ ap (λ (x : ℕ). set_start p r + x) (rank_below _ _ (set_row_lem r q))
          ∙ ap (λ (j : ℕ). set_start p r + row_of p.size (take j values)) q,
    )

    set_lined : (r : ℕ) → r < length p.relations → T (is_chosen (relation_at p r).kind)
        → set_number names w values count r ≡ sized count (relation_at p r).arity (set_start p r + row_of p.size (take (relation_at p r).arity values))
    unfolding set_number
    set_lined r l t = rw (
      P.names_are.arity r l (or_l (is_chosen (relation_at p r).kind) (is_universal (relation_at p r).kind) t),
      P.is.sets r
          (omega arith),
      P.is.size,
    )

    set_is : (r : ℕ) → Named c (set_name r) → set_number names w values count r ≡ step_of c p (set_name r) xs
    unfolding Named schema_of set_schema action_named relation_in relation_at problem_of problem_with
    set_is r (l, t) = set_lined r l t ∙ one_step (set_name r) (set r (row_of p.size xs)) (relation_at p r).arity _ refl refl (λ q. set_action r l t q)

    -- ---- a node
    node_lined : (v each choice more : ℕ) → v < length p.node_list
        → node_number w values count v each choice more ≡ sized count (wide v + more) (proof_start p v + row_of p.size (take (wide v) values) * each + choice)
    unfolding node_number
    node_lined v each choice more l = rw ((P.is.node v l).width, P.is.acts v (omega arith), P.is.size)

    node_row_lem : (v more : ℕ) → count ≡ wide v + more → row_of p.size (take (wide v) values) < rows_of p.size (node_at p v)
    unfolding rows_of
    node_row_lem v more q = row_small (wide v) (omega arith)

    first_values : (v more : ℕ) → count ≡ wide v + more → take (wide v) xs ≡ take (wide v) values
    first_values v more q = take-take (wide v) count values (omega arith)

    same_row : (v : ℕ) → count ≡ wide v + 0 → row_of p.size xs ≡ row_of p.size (take (wide v) values)
    same_row v q = let z : count ≡ wide v = omega arith in ap (λ (j : ℕ). row_of p.size (take j values)) z

    -- where the row's values are all
    and_action : (v : ℕ) (ts : Trees) → v < length p.node_list → node_at p v ≡ and_node ts → count ≡ wide v + 0
        → IsAction p (prove_and v (row_of p.size xs)) ×
        (action_number p (prove_and v (row_of p.size xs)) ≡ proof_start p v + row_of p.size (take (wide v) values) * 1 + 0)
    unfolding IsAction action_number choices
    and_action v ts l e q = (
      (l, subst (λ (x : ℕ). x < rows_of p.size (node_at p v)) (sym (same_row v q)) (node_row_lem v 0 q), (ts, e)),
      proof_number_lem v (row_of p.size xs) 1 0 (ap (choices p.range) e) ∙ ap (λ (x : ℕ). proof_start p v + x * 1 + 0) (same_row v q),
    )

    or_action : (v i : ℕ) (ts : Trees) → v < length p.node_list → node_at p v ≡ or_node ts → i < how_many ts → count ≡ wide v + 0
        → IsAction p (prove_or v (row_of p.size xs) i) ×
        (action_number p (prove_or v (row_of p.size xs) i) ≡ proof_start p v + row_of p.size (take (wide v) values) * how_many ts + i)
    unfolding IsAction action_number choices
    or_action v i ts l e g q = (
      (l, subst (λ (x : ℕ). x < rows_of p.size (node_at p v)) (sym (same_row v q)) (node_row_lem v 0 q), (ts, e, g)),
      proof_number_lem v (row_of p.size xs) (how_many ts) i (ap (choices p.range) e) ∙ ap (λ (x : ℕ). proof_start p v + x * how_many ts + i) (same_row v q),
    )

    forall_action : (v d s row z : ℕ) (t : Tree) → v < length p.node_list → node_at p v ≡ forall_node d s t → row < rows_of p.size (node_at p v) → z < p.size
        → IsAction p (prove_forall v row z) × (action_number p (prove_forall v row z) ≡ proof_start p v + row * p.size + z)
    unfolding IsAction action_number choices
    forall_action v d s row z t l e h g = (
      (l, h, (d, s, t, e, range_mem s z g)),
      proof_number_lem v row p.size (rank (range_at p v) z) (ap (choices p.range) e ∙ range_count s)
          ∙ ap (λ (x : ℕ). proof_start p v + row * p.size + x) (range_rank v z g),
    )

    exists_action : (v d s row x : ℕ) (t : Tree) → v < length p.node_list → node_at p v ≡ exists_node d s t → row < rows_of p.size (node_at p v) → x < p.size
        → IsAction p (prove_exists v row x) × (action_number p (prove_exists v row x) ≡ proof_start p v + row * p.size + x)
    unfolding IsAction action_number choices
    exists_action v d s row x t l e h g = (
      (l, h, (d, s, t, e, range_mem s x g)),
      proof_number_lem v row p.size (rank (range_at p v) x) (ap (choices p.range) e ∙ range_count s)
          ∙ ap (λ (y : ℕ). proof_start p v + row * p.size + y) (range_rank v x g),
    )

    abbrev IsStep : ActionName → Option ℕ → Type 0
    IsStep a o = o ≡ step_of c p a xs

    and_is : (v : ℕ) → Named c (and_name v) → IsStep (and_name v) (node_number w values count v 1 0 0)
    unfolding Named schema_of proof_schema action_named node_in node_at problem_of problem_with
    and_is v (l, (ts, e)) =
        let z : wide v ≡ wide v + 0 = omega arith in
        node_lined v 1 0 0 l ∙ one_step (and_name v) (prove_and v (row_of p.size xs)) (wide v + 0) _ z refl (λ q. and_action v ts l e q)

    or_is : (v i : ℕ) → Named c (or_name v i) → IsStep (or_name v i) (or_number w values count v i)
    unfolding or_number Named schema_of proof_schema action_named node_in node_at problem_of problem_with
    or_is v i (l, (ts, e, g)) =
        let z : wide v ≡ wide v + 0 = omega arith in
        ap (λ (k : ℕ). node_number w values count v k i 0) (many_are c w P.is v ts l e)
        ∙ node_lined v (how_many ts) i 0 l ∙ one_step (or_name v i) (prove_or v (row_of p.size xs) i) (wide v + 0) _ z refl (λ q. or_action v i ts l e g q)

    first_is : (v : ℕ) → Named c (first_name v) → IsStep (first_name v) (node_number w values count v (size_in w) 0 0)
    unfolding Named schema_of proof_schema action_named node_in node_at problem_of problem_with
    first_is v (l, (d, s, t, e)) =
        let z : wide v ≡ wide v + 0 = omega arith in
        ap (λ (k : ℕ). node_number w values count v k 0 0) P.is.size
        ∙ node_lined v p.size 0 0 l ∙ one_step (first_name v) (prove_forall v (row_of p.size xs) zero) (wide v + 0) _ z refl (λ q.
        let (i, m) = forall_action v d s (row_of p.size xs) 0 t l e
        (subst (λ (x : ℕ). x < rows_of p.size (node_at p v)) (sym (same_row v q)) (node_row_lem v 0 q)) P.is.element in
        (i, m ∙ ap (λ (x : ℕ). proof_start p v + x * p.size + 0) (same_row v q)))

    -- the value after the row's
    exists_value : (v : ℕ) → count ≡ wide v + 1 → get_or xs (wide v) 0 ≡ get_or values (wide v) 0
    exists_value v q = get_or-take count values (wide v) 0 (omega arith)

    exists_is : (v : ℕ) → Named c (exists_name v) → IsStep (exists_name v) (exists_number w values count v)
    unfolding exists_number Named schema_of proof_schema action_named node_in node_at problem_of problem_with
    exists_is v (l, (d, s, t, e)) =
        let z : suc (wide v) ≡ wide v + 1 = omega arith in
        ap₂ (λ (k j : ℕ). node_number w values count v k (get_or values j 0) 1) P.is.size (P.is.node v l).width
        ∙ node_lined v p.size (get_or values (wide v) 0) 1 l
        ∙ one_step (exists_name v) (prove_exists v (row_of p.size (take (wide v) xs)) (get_or xs (wide v) 0)) (wide v + 1) _ z refl (λ q.
        subst (λ (x : ℕ). IsAction p (prove_exists v (row_of p.size (take (wide v) xs)) x) ×
        (action_number p (prove_exists v (row_of p.size (take (wide v) xs)) x) ≡ proof_start p v + row_of p.size
        (take (wide v) values) * p.size + get_or values (wide v) 0)) (sym (exists_value v q))
        (subst (λ (ys : List ℕ). IsAction p (prove_exists v (row_of p.size ys) (get_or values (wide v) 0)) ×
        (action_number p (prove_exists v (row_of p.size ys) (get_or values (wide v) 0)) ≡ proof_start p v + row_of p.size
        (take (wide v) values) * p.size + get_or values (wide v) 0)) (sym (first_values v 1 q))
        (exists_action v d s (row_of p.size (take (wide v) values)) (get_or values (wide v) 0) t l e (node_row_lem v 1 q) (element (wide v)))))

    -- two elements that follow one another
    next_lined : (v : ℕ) → v < length p.node_list
        → next_number w values count v ≡
        (if eqb (get_or values (wide v + 1) 0) (get_or values (wide v) 0 + 1) then node_number w values count v p.size (get_or values (wide v + 1) 0) 2 else none)
    unfolding next_number
    next_lined v l = rw ((P.is.node v l).width, P.is.size)

    next_named : (v : ℕ) → count ≡ wide v + 2 → (b : Bool) → eqb (get_or values (wide v + 1) 0) (get_or values (wide v) 0 + 1) ≡ b
        → action_named p (next_name v) xs ≡ (if b then some (prove_forall v (row_of p.size (take (wide v) values)) (get_or values (wide v + 1) 0)) else none)
    unfolding action_named
    next_named v q b y =
        let z : suc (wide v) ≡ wide v + 1 = omega arith in
        let x : suc (get_or values (wide v) 0) ≡ get_or values (wide v) 0 + 1 = omega arith in
        let g : get_or xs (suc (wide v)) 0 ≡ get_or values (wide v + 1) 0 = ap (λ (j : ℕ). get_or xs j 0) z ∙ get_or-take count values (wide v + 1) 0 (omega arith) in
        let h : get_or xs (wide v) 0 ≡ get_or values (wide v) 0 = get_or-take count values (wide v) 0 (omega arith) in
        rw (g, h, x, y, first_values v 2 q) refl

    guarded : (wanted : ℕ) (x y : Option ℕ) → (count ≡ wanted → x ≡ y) → (if eqb count wanted then x else none) ≡ (if eqb count wanted then y else none)
    guarded wanted x y h = by_test (eqb count wanted) refl
      where
        by_test : (b : Bool) → eqb count wanted ≡ b → (if b then x else none) ≡ (if b then y else none)
        by_test true e = h (eqb→eq count wanted (T_of e))
        by_test false e = refl

    next_is : (v : ℕ) → Named c (next_name v) → IsStep (next_name v) (next_number w values count v)
    unfolding Named schema_of proof_schema node_in node_at problem_of problem_with option
    next_is v (l, (d, s, t, e)) = next_lined v l ∙ by_test (eqb (get_or values (wide v + 1) 0) (get_or values (wide v) 0 + 1)) refl
      where
        b : Action
        b = prove_forall v (row_of p.size (take (wide v) values)) (get_or values (wide v + 1) 0)

        two : suc (suc (wide v)) ≡ wide v + 2
        two = omega arith

        no_two : (x : Bool) → ◌≡◌ {A = Option ℕ} none (if x then none else none)
        no_two true = refl
        no_two false = refl

        by_test : (x : Bool) → eqb (get_or values (wide v + 1) 0) (get_or values (wide v) 0 + 1) ≡ x
            → (if x then node_number w values count v p.size (get_or values (wide v + 1) 0) 2 else none) ≡ step_of c p (next_name v) xs
        by_test true y =
            node_lined v p.size (get_or values (wide v + 1) 0) 2 l
            ∙ sized_by count (wide v + 2) _ (action_number p b)
            (λ q. let (i, m) = forall_action v d s (row_of p.size (take (wide v) values)) (get_or values (wide v + 1) 0) t l e (node_row_lem v 2 q)
            (element (wide v + 1)) in (sym m, number_small b i))
            ∙ guarded (wide v + 2) (some (action_number p b)) _
            (λ q. sym (ap (λ (o : Option Action). option o none (λ a. some (action_number p a))) (next_named v q true y)))
            ∙ sym (step_as (next_name v) (action_named p (next_name v) xs) (wide v + 2) two refl)
        by_test false y =
            no_two (eqb count (wide v + 2))
            ∙ guarded (wide v + 2) none _ (λ q. sym (ap (λ (o : Option Action). option o none (λ a. some (action_number p a))) (next_named v q false y)))
            ∙ sym (step_as (next_name v) (action_named p (next_name v) xs) (wide v + 2) two refl)

    begin_is : IsStep begin_name (sized count 0 (relation_line w (relations_in w)).sets)
    unfolding schema_of action_named IsAction action_number
    begin_is =
        ap (sized count 0) (ap (λ (r : ℕ). (relation_line w r).sets) P.is.relations ∙ P.is.sets (length p.relations) (omega arith))
        ∙ one_step begin_name begin_proof 0 _ refl refl (λ q. (tt, refl))

    goal_is : IsStep goal_name (sized count 0 (node_line w (nodes_in w)).acts)
    unfolding schema_of action_named IsAction action_number is_some problem_of problem_with
    goal_is =
        ap (sized count 0) (ap (λ (v : ℕ). (node_line w v).acts) P.is.nodes ∙ P.is.acts (length p.node_list) (omega arith))
        ∙ one_step goal_name prove_goal 0 _ refl refl (λ q. (rw P.alone tt, refl))

    pub number_is : (a : ActionName) → Named c a → number_by names w (named a) values count ≡ step_of c p a xs
    unfolding number_by named
    number_is (set_name r) h = set_is r h
    number_is begin_name h = begin_is
    number_is goal_name h = goal_is
    number_is (and_name v) h = and_is v h
    number_is (exists_name v) h = exists_is v h
    number_is (first_name v) h = first_is v h
    number_is (next_name v) h = next_is v h
    number_is (or_name v i) h = or_is v i h
