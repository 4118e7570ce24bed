-- What each atom means in the proof phase, and that the actions of nodes keep to it.
use Prim.Native.Nat.{ℕ, zero, suc, ◌+◌, ◌*◌, ◌%◌, ◌^◌, ◌<◌, ◌≤◌}
use Rattle.std.specs.Prelude.{◌≡◌, take, drop}
use Rattle.std.proofs.Math.Path.{refl, ap, ap₂, subst, subst₂}
use Rattle.std.proofs.Common.{sym, ◌∙◌, arith, zero-add}
use Rattle.std.proofs.Math.Bool.{Bool, true, false, not, ◌&&◌}
use Rattle.std.proofs.Math.Option.{Option, none, some}
use mathlib.Core.List.Memᴰ
use mathlib.Core.List.{List, [], ◌∷◌, map, Memᴰ}
use Rattle.std.proofs.Math.Arith.{digits_lt, digits_div, digits_mod}
use Rattle.std.proofs.Math.Dec.{T}
use Rattle.std.proofs.Math.ListN.{length, get_or}
use Rattle.std.proofs.lemmas.List.{length-map}
use Rattle.definitions.specs.Lists.{all, option, is_some, is_in, up_to, before, greatest}
use Rattle.definitions.specs.Sheet.Relations.{Relation, Tuple, is_chosen, is_universal, is_function}
use Rattle.definitions.specs.Sheet.Sheets.{first_chosen, every_number}
use Rattle.definitions.specs.Problem.Truth.{holds, members_of}
use Rattle.definitions.specs.Problem.Tree.{Tree, Trees, leaf, forall_node, exists_node, and_node, or_node, end, ◌then◌, nodes, free, parts_from, parts, how_many, is_forall, node_sort}
use Rattle.definitions.specs.Problem.Atoms.{Problem, relation_at, node_at, row_of, places_of, tuples_of, rows_of, node_width, Atom, guess, proof, goal, tuple, not_tuple, free_domain, free_range, holds_node, marked}
use Rattle.definitions.specs.Problem.Actions.{Action, set, begin_proof, prove_and, prove_or, prove_exists, prove_forall, prove_goal, round_end, mark_in, mark_out, Values, values_in, with_value, values_at, part_atom, part_atoms, under_atom, forall_needs, root_atom, needs, adds}
use Rattle.definitions.specs.Problem.Built.{tree_holds, trees_hold, some_holds, is_true_at}
use Rattle.laws.specs.Booleans.{T_and_l, T_and_r, T_true, and_T, or_l, or_r}
use Rattle.laws.specs.Lists.{any_of, get_or_mem}
use Rattle.laws.specs.Members.{IsRange, in_mem, mem_in, greatest_is, before_some, up_step, up_all}
use Rattle.laws.specs.Rows.{places_below, places_row, row_lt}
use Rattle.laws.specs.Numbers.{IsAction, IsAtom}
use Rattle.meaning.specs.Parts.{Within, holds_same, back, Bnd, bnd_with, bnd_values, bnd_map, Here, HereAll, under_forall, under_exists, parts_and, parts_or, head_here, tail_here, here_sub, IsNode, node_at_lem, are_nodes, Fits}

-- what of an accepted case's problem the argument needs
pub record Good (p : Problem) : Type 0 where
  pub element : 0 < p.size
  pub ranges : p.range ≡ members_of p.source
  pub ranged : (s : ℕ) → IsRange p.size (p.range s)
  pub noded : p.node_list ≡ nodes p.root
  pub root_here : Here p 0 p.root
  pub root_node : IsNode p p.root
  pub pairs : (r : ℕ) → r < length p.relations → T (is_function (relation_at p r).kind) → (relation_at p r).arity ≡ 2
  pub high_chosen : (r : ℕ) → T (is_chosen (relation_at p r).kind) → first_chosen p.source.question ≤ r
  pub sized : p.source.site.size ≡ p.size
  pub every_is : (e : Relation) → p.source.question.every ≡ some e → (every_number p.source.question < length p.relations) × (relation_at p (every_number p.source.question) ≡ e) × T (is_universal e.kind)
  pub every_one : (r : ℕ) → r < length p.relations → T (is_universal (relation_at p r).kind) → (r ≡ every_number p.source.question) × T (is_some p.source.question.every)

unfoldable pub means : Problem → List Tuple → Atom → Bool
means p P guess = false
means p P proof = true
means p P goal = not (is_some p.source.question.every) && tree_holds p.source P (λ _. zero) p.root
means p P (tuple r row) = holds p.source P r (places_of p.size (relation_at p r).arity row)
means p P (not_tuple r row) = not (holds p.source P r (places_of p.size (relation_at p r).arity row))
means p P (free_domain r x) = true
means p P (free_range r y) = true
means p P (holds_node v row) = is_true_at p P (node_at p v) row
means p P (marked r row) = false

-- the action that leaves the proof phase
unfoldable pub is_round_end : Action → Bool
is_round_end (set r row) = false
is_round_end begin_proof = false
is_round_end (prove_and v row) = false
is_round_end (prove_or v row i) = false
is_round_end (prove_exists v row x) = false
is_round_end (prove_forall v row z) = false
is_round_end prove_goal = false
is_round_end round_end = true
is_round_end (mark_in r row) = false
is_round_end (mark_out r row) = false

module _ (p : Problem) (G : Good p) where
  pub here_at : (v : ℕ) → v < length p.node_list → Here p v (node_at p v)
  unfolding node_at
  here_at v l = subst₂ (Here p) (zero-add v) (ap (λ (ts : List Tree). get_or ts v (leaf true zero [])) (sym G.noded)) (here_sub p p.root 0 G.root_here v (subst (λ (ts : List Tree). v < length ts) G.noded l))

  pub is_node : (v : ℕ) → v < length p.node_list → IsNode p (node_at p v)
  unfolding node_at
  is_node v l = are_nodes p p.root (get_or p.node_list v (leaf true zero [])) (subst (λ (ts : List Tree). Memᴰ (get_or p.node_list v (leaf true zero [])) ts) G.noded (get_or_mem p.node_list v (leaf true zero []) l))

  pub here_as : (v : ℕ) (s : Tree) → v < length p.node_list → node_at p v ≡ s → Here p v s
  here_as v s l e = subst (Here p v) e (here_at v l)

  pub values_bnd : (t : Tree) (row : ℕ) → Bnd p.size (values_at p.size t row)
  unfolding values_at
  values_bnd t row = bnd_values p.size (free t) (places_of p.size (length (free t)) row) G.element (places_below p.size (length (free t)) row G.element)

  -- the row of a node's values is one of its rows
  pub row_in : (t : Tree) (e : Values) → Bnd p.size e → row_of p.size (map e (free t)) < rows_of p.size t
  unfolding rows_of
  row_in t e b = subst (λ (k : ℕ). row_of p.size (map e (free t)) < p.size ^ k) (length-map (free t) e) (row_lt p.size (map e (free t)) (bnd_map p.size e (free t) b))

  values_row : (t : Tree) (e : Values) → Bnd p.size e → values_at p.size t (row_of p.size (map e (free t))) ≡ values_in (free t) (map e (free t))
  unfolding values_at
  values_row t e b = ap (values_in (free t)) (ap (λ (k : ℕ). places_of p.size k (row_of p.size (map e (free t)))) (sym (length-map (free t) e)) ∙ places_row p.size (map e (free t)) G.element (bnd_map p.size e (free t) b))

  -- ---- a part's atom is one of the problem's
  node_valid : (v row : ℕ) (t : Tree) → node_at p v ≡ t → v < length p.node_list → row < node_width p.size t → IsAtom p (holds_node v row)
  unfolding IsAtom
  node_valid v row t e l h = (l, subst (λ (x : Tree). row < node_width p.size x) (sym e) h)

  leaf_row : (r : ℕ) (ls : List ℕ) (e : Values) → length ls ≡ (relation_at p r).arity → Bnd p.size e → row_of p.size (map e ls) < tuples_of p.size (relation_at p r)
  unfolding tuples_of
  leaf_row r ls e k b = subst (λ (x : ℕ). row_of p.size (map e ls) < p.size ^ x) (length-map ls e ∙ k) (row_lt p.size (map e ls) (bnd_map p.size e ls b))

  pub part_valid : (v : ℕ) (t : Tree) (e : Values) → Here p v t → Bnd p.size e → IsAtom p (part_atom p.size p.range e v t)
  unfolding part_atom IsAtom node_width is_forall IsNode Fits
  part_valid v (leaf true r ls) e h b = (h.fits.0, leaf_row r ls e h.fits.1 b)
  part_valid v (leaf false r ls) e h b = (h.fits.0, leaf_row r ls e h.fits.1 b)
  part_valid v (forall_node d σ t) e h b = let q = node_at_lem p v (forall_node d σ t) h tt in node_valid v _ (forall_node d σ t) q.0 q.1 (digits_lt (row_in (forall_node d σ t) e b) ((G.ranged σ).small _ (greatest_is p.size (p.range σ) (G.ranged σ)).0))
  part_valid v (exists_node d σ t) e h b = let q = node_at_lem p v (exists_node d σ t) h tt in node_valid v _ (exists_node d σ t) q.0 q.1 (row_in (exists_node d σ t) e b)
  part_valid v (and_node ts) e h b = let q = node_at_lem p v (and_node ts) h tt in node_valid v _ (and_node ts) q.0 q.1 (row_in (and_node ts) e b)
  part_valid v (or_node ts) e h b = let q = node_at_lem p v (or_node ts) h tt in node_valid v _ (or_node ts) q.0 q.1 (row_in (or_node ts) e b)

  module _ (P : List Tuple) where
    -- a forall's atom at a row and an element z of its range
    pub forall_at : (d σ : ℕ) (t : Tree) (row z : ℕ) → Memᴰ z (p.range σ) → is_true_at p P (forall_node d σ t) (row * p.size + z) ≡ all (λ x. tree_holds p.source P (with_value (values_at p.size (forall_node d σ t) row) d x) t) (up_to (p.range σ) z)
    unfolding is_true_at
    forall_at d σ t row z m =
        let h : z < p.size = (G.ranged σ).small z m in
        ap₂ (λ (a b : ℕ). is_in b (p.range σ) && all (λ x. tree_holds p.source P (with_value (values_at p.size (forall_node d σ t) a) d x) t) (up_to (p.range σ) b)) (digits_div row h) (digits_mod row h)
        ∙ ap (λ (b : Bool). b && all (λ x. tree_holds p.source P (with_value (values_at p.size (forall_node d σ t) row) d x) t) (up_to (p.range σ) z)) (T_true (is_in z (p.range σ)) (mem_in z (p.range σ) m))

    -- and a true one is at such a z
    pub forall_in : (d σ : ℕ) (t : Tree) (row : ℕ) → T (is_true_at p P (forall_node d σ t) row) → Memᴰ (row % p.size) (p.range σ)
    unfolding is_true_at
    forall_in d σ t row h = in_mem (row % p.size) (p.range σ) (T_and_l (is_in (row % p.size) (p.range σ)) _ h)

    again : (t : Tree) (e : Values) → Within t → Bnd p.size e → tree_holds p.source P (values_at p.size t (row_of p.size (map e (free t)))) t ≡ tree_holds p.source P e t
    again t e w b = ap (λ (θ : Values). tree_holds p.source P θ t) (values_row t e b) ∙ holds_same p.source P t (values_in (free t) (map e (free t))) e (back t e w)

    leaf_mean : (r : ℕ) (ls : List ℕ) (e : Values) → length ls ≡ (relation_at p r).arity → Bnd p.size e → places_of p.size (relation_at p r).arity (row_of p.size (map e ls)) ≡ map e ls
    leaf_mean r ls e k b = ap (λ (x : ℕ). places_of p.size x (row_of p.size (map e ls))) (sym (length-map ls e ∙ k)) ∙ places_row p.size (map e ls) G.element (bnd_map p.size e ls b)

    -- a part's atom means that the part is true
    pub means_at : (v : ℕ) (t : Tree) (e : Values) → Here p v t → Bnd p.size e → means p P (part_atom p.size p.range e v t) ≡ tree_holds p.source P e t
    unfolding means part_atom tree_holds is_true_at IsNode Fits
    means_at v (leaf true r ls) e h b = ap (holds p.source P r) (leaf_mean r ls e h.fits.1 b)
    means_at v (leaf false r ls) e h b = ap (λ (xs : List ℕ). not (holds p.source P r xs)) (leaf_mean r ls e h.fits.1 b)
    means_at v (forall_node d σ t) e h b =
        let q = node_at_lem p v (forall_node d σ t) h tt in
        ap (λ (x : Tree). is_true_at p P x (row_of p.size (map e (free (forall_node d σ t))) * p.size + greatest (p.range σ))) q.0
        ∙ forall_at d σ t (row_of p.size (map e (free (forall_node d σ t)))) (greatest (p.range σ)) (greatest_is p.size (p.range σ) (G.ranged σ)).0
        ∙ ap (all (λ x. tree_holds p.source P (with_value (values_at p.size (forall_node d σ t) (row_of p.size (map e (free (forall_node d σ t))))) d x) t)) (up_all p.size (p.range σ) (G.ranged σ) ∙ ap (λ (R : ℕ → List ℕ). R σ) G.ranges)
        ∙ again (forall_node d σ t) e h.within b
    means_at v (exists_node d σ t) e h b = let q = node_at_lem p v (exists_node d σ t) h tt in ap (λ (x : Tree). is_true_at p P x (row_of p.size (map e (free (exists_node d σ t))))) q.0 ∙ again (exists_node d σ t) e h.within b
    means_at v (and_node ts) e h b = let q = node_at_lem p v (and_node ts) h tt in ap (λ (x : Tree). is_true_at p P x (row_of p.size (map e (free (and_node ts))))) q.0 ∙ again (and_node ts) e h.within b
    means_at v (or_node ts) e h b = let q = node_at_lem p v (or_node ts) h tt in ap (λ (x : Tree). is_true_at p P x (row_of p.size (map e (free (or_node ts))))) q.0 ∙ again (or_node ts) e h.within b

    -- all parts; one part
    pub parts_mean : (ts : Trees) (v : ℕ) (e : Values) → HereAll p v ts → Bnd p.size e → all (means p P) (part_atoms p.size p.range e (parts_from v ts)) ≡ trees_hold p.source P e ts
    unfolding part_atoms parts_from trees_hold all
    parts_mean end v e h b = refl
    parts_mean (t then ts) v e h b = ap₂ ◌&&◌ (means_at v t e (head_here p v t ts h) b) (parts_mean ts (v + length (nodes t)) e (tail_here p v t ts h) b)

    part_sound : (ts : Trees) (v i : ℕ) (e : Values) → HereAll p v ts → Bnd p.size e → i < how_many ts → T (all (means p P) (take 1 (drop i (part_atoms p.size p.range e (parts_from v ts))))) → T (some_holds p.source P e ts)
    unfolding part_atoms parts_from some_holds all how_many
    part_sound end v i e h b l t = absurd (omega arith)
    part_sound (u then ts) v zero e h b l t = or_l (tree_holds p.source P e u) _ (subst T (means_at v u e (head_here p v u ts h) b) (T_and_l (means p P (part_atom p.size p.range e v u)) true t))
    part_sound (u then ts) v (suc i) e h b l t = or_r (tree_holds p.source P e u) _ (part_sound ts (v + length (nodes u)) i e (tail_here p v u ts h) b (omega arith) t)

    -- ---- the actions of nodes
    at_node : (v row : ℕ) (s : Tree) → node_at p v ≡ s → T (is_true_at p P s row) → T (means p P (holds_node v row))
    unfolding means
    at_node v row s e t = subst (λ (x : Tree). T (is_true_at p P x row)) (sym e) t

    and_sound : (v row : ℕ) (ts : Trees) → v < length p.node_list → node_at p v ≡ and_node ts → T (all (means p P) (needs p (prove_and v row))) → T (means p P (holds_node v row))
    unfolding needs parts is_true_at tree_holds all
    and_sound v row ts l e t =
        let q : T (all (means p P) (part_atoms p.size p.range (values_at p.size (node_at p v) row) (parts v (node_at p v)))) = T_and_r (means p P proof) _ t in
        at_node v row (and_node ts) e (subst T (parts_mean ts (suc v) (values_at p.size (and_node ts) row)
        (parts_and p v ts (here_as v (and_node ts) l e)) (values_bnd (and_node ts) row))
        (subst (λ (s : Tree). T (all (means p P) (part_atoms p.size p.range (values_at p.size s row) (parts v s)))) e q))

    or_sound : (v row i : ℕ) (ts : Trees) → v < length p.node_list → node_at p v ≡ or_node ts → i < how_many ts → T (all (means p P) (needs p (prove_or v row i))) → T (means p P (holds_node v row))
    unfolding needs parts is_true_at tree_holds all
    or_sound v row i ts l e g t =
        let q : T (all (means p P) (take 1 (drop i (part_atoms p.size p.range (values_at p.size (node_at p v) row) (parts v (node_at p v)))))) = T_and_r (means p P proof) _ t in
        at_node v row (or_node ts) e (part_sound ts (suc v) i (values_at p.size (or_node ts) row) (parts_or p v ts (here_as v (or_node ts) l e))
        (values_bnd (or_node ts) row) g (subst (λ (s : Tree). T
        (all (means p P) (take 1 (drop i (part_atoms p.size p.range (values_at p.size s row) (parts v s)))))) e q))

    exists_sound : (v row x d σ : ℕ) (u : Tree) → v < length p.node_list → node_at p v ≡ exists_node d σ u → Memᴰ x (p.range σ) → T (all (means p P) (needs p (prove_exists v row x))) → T (means p P (holds_node v row))
    unfolding needs under_atom is_true_at tree_holds all
    exists_sound v row x d σ u l e g t =
        let q : T (means p P (under_atom p.size p.range v (node_at p v) row x)) = T_and_l (means p P (under_atom p.size p.range v (node_at p v) row x)) true (T_and_r (means p P proof) _ t) in
        let f : ℕ → Bool = λ x. tree_holds p.source P (with_value (values_at p.size (exists_node d σ u) row) d x) u in
        let w : T (f x) = subst T (means_at (suc v) u (with_value (values_at p.size (exists_node d σ u) row) d x)
        (under_exists p v d σ u (here_as v (exists_node d σ u) l e))
        (bnd_with p.size _ d x (values_bnd (exists_node d σ u) row) ((G.ranged σ).small x g)))
        (subst (λ (s : Tree). T (means p P (under_atom p.size p.range v s row x))) e q) in
        at_node v row (exists_node d σ u) e (any_of f (members_of p.source σ) x (subst (λ (R : ℕ → List ℕ). Memᴰ x (R σ)) G.ranges g) w)

    forall_sound : (v row z d σ : ℕ) (u : Tree) → v < length p.node_list → node_at p v ≡ forall_node d σ u → Memᴰ z (p.range σ) → T (all (means p P) (needs p (prove_forall v row z))) → T (means p P (holds_node v (row * p.size + z)))
    unfolding needs under_atom forall_needs all means node_sort option
    forall_sound v row z d σ u l e g t =
        let q : T (all (means p P) (forall_needs p.size p.range v (forall_node d σ u) row z)) = subst (λ (s : Tree). T (all (means p P) (forall_needs p.size p.range v s row z))) e t in
        at_node v (row * p.size + z) (forall_node d σ u) e (subst T (sym (forall_at d σ u row z g ∙ up_step f (p.range σ) z (G.ranged σ).ascends g))
        (and_T (f z) _ (under (T_and_l (means p P (under_atom p.size p.range v (forall_node d σ u) row z)) _ q)) (by_option (before (p.range σ) z) refl (T_and_r (means p P (under_atom p.size p.range v (forall_node d σ u) row z)) _ q))))
      where
        f : ℕ → Bool
        f x = tree_holds p.source P (with_value (values_at p.size (forall_node d σ u) row) d x) u

        under : T (means p P (under_atom p.size p.range v (forall_node d σ u) row z)) → T (f z)
        under q = subst T (means_at (suc v) u (with_value (values_at p.size (forall_node d σ u) row) d z) (under_forall p v d σ u (here_as v (forall_node d σ u) l e)) (bnd_with p.size _ d z (values_bnd (forall_node d σ u) row) ((G.ranged σ).small z g))) q

        by_option : (o : Option ℕ) → before (p.range σ) z ≡ o → T (all (means p P) (option o [] (λ y. holds_node v (row * p.size + y) ∷ []))) → T (option o true (λ y. all f (up_to (p.range σ) y)))
        by_option none i q = tt
        by_option (some y) i q =
            let k = before_some (p.range σ) z y (G.ranged σ).ascends i in
            let a : T (is_true_at p P (node_at p v) (row * p.size + y)) = T_and_l (is_true_at p P (node_at p v) (row * p.size + y)) true q in
            subst T (forall_at d σ u row y k.0) (subst (λ (s : Tree). T (is_true_at p P s (row * p.size + y))) e a)

    -- the root's atom
    pub root_sound : T (means p P (root_atom p)) → T (tree_holds p.source P (λ _. zero) p.root)
    unfolding root_atom
    root_sound t = subst T (means_at 0 p.root (λ _. zero) G.root_here (λ l. G.element)) t

    goal_sound : IsAction p prove_goal → T (all (means p P) (needs p prove_goal)) → T (means p P goal)
    unfolding needs all means IsAction
    goal_sound v t = and_T (not (is_some p.source.question.every)) _ v (root_sound (T_and_l (means p P (root_atom p)) true t))

    pub set_not : (r row : ℕ) → T (all (means p P) (needs p (set r row))) → ⊥
    unfolding needs all means
    set_not r row t = t

    pub begin_not : T (all (means p P) (needs p begin_proof)) → ⊥
    unfolding needs all means
    begin_not t = t

    pub in_not : (r row : ℕ) → T (all (means p P) (needs p (mark_in r row))) → ⊥
    unfolding needs all means
    in_not r row t = t

    pub out_not : (r row : ℕ) → T (all (means p P) (needs p (mark_out r row))) → ⊥
    unfolding needs all means
    out_not r row t = t

    -- no set action, no begin-proof and no mark can be taken in the proof phase, and each other action but round-end keeps to the meaning
    pub adds_mean : (a : Action) → T (not (is_round_end a)) → IsAction p a → T (all (means p P) (needs p a)) → (x : Atom) → Memᴰ x (adds p a) → T (means p P x)
    unfolding IsAction adds is_round_end
    adds_mean (set r row) i v t x m = absurd (set_not r row t)
    adds_mean begin_proof i v t x m = absurd (begin_not t)
    adds_mean round_end i v t x m = absurd i
    adds_mean (mark_in r row) i v t x m = absurd (in_not r row t)
    adds_mean (mark_out r row) i v t x m = absurd (out_not r row t)
    adds_mean (prove_and v row) i (l, h, (ts, e)) t x m = subst (λ (y : Atom). T (means p P y)) (sym (Memᴰ.eq_of_singleton m)) (and_sound v row ts l e t)
    adds_mean (prove_or v row i) j (l, h, (ts, e, g)) t x m = subst (λ (y : Atom). T (means p P y)) (sym (Memᴰ.eq_of_singleton m)) (or_sound v row i ts l e g t)
    adds_mean (prove_exists v row z) i (l, h, (d, σ, u, e, g)) t x m = subst (λ (y : Atom). T (means p P y)) (sym (Memᴰ.eq_of_singleton m)) (exists_sound v row z d σ u l e g t)
    adds_mean (prove_forall v row z) i (l, h, (d, σ, u, e, g)) t x m = subst (λ (y : Atom). T (means p P y)) (sym (Memᴰ.eq_of_singleton m)) (forall_sound v row z d σ u l e g t)
    adds_mean prove_goal i v t x m = subst (λ (y : Atom). T (means p P y)) (sym (Memᴰ.eq_of_singleton m)) (goal_sound v t)
