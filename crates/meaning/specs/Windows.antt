-- The window of a case: how far an atom of the proof phase lies from its literals, at the least and at the most.
use Prim.Native.Nat.{ℕ, zero, suc, ◌+◌, ◌-◌, ◌*◌, ◌%◌, ◌<◌, ◌≤◌}
use Rattle.std.specs.Prelude.{◌≡◌, ◌⊎◌, Bool, ltb, get_or}
use Rattle.std.proofs.Math.Path.{refl, sym, ap, subst}
use Rattle.std.proofs.Common.{subst₂, ◌∙◌, inl, inr, ltb-true, ltb-false}
use Rattle.std.proofs.Math.Logic.{⊎_elim}
use Rattle.std.proofs.Math.Bool.{true, false}
use Rattle.std.proofs.Math.Option.{Option, none, some}
use mathlib.Core.List.Memᴰ
use mathlib.Core.List.{List, [], ◌∷◌, map, Memᴰ}
use native.Mathlib.Omega.{arith}
use Rattle.std.proofs.Math.Nat.{le-max_left, le-max_right, max-le, min-le_left, min-le_right}
use Rattle.std.proofs.Math.Arith.{digits_mod}
use Rattle.std.proofs.Math.Dec.{T}
use Rattle.std.proofs.Math.ListN.{length}
use Rattle.definitions.specs.Lists.{option, before, rank, greatest}
use Rattle.definitions.specs.Problem.Tree.{Tree, Trees, leaf, forall_node, exists_node, and_node, or_node, end, ◌then◌, nodes, nodes_all, free, parts_from, parts, is_forall, node_sort}
use Rattle.definitions.specs.Problem.Atoms.{Problem, node_at, row_of, Atom, guess, proof, goal, tuple, not_tuple, free_domain, free_range, holds_node, marked}
use Rattle.definitions.specs.Problem.Actions.{Action, set, begin_proof, prove_and, prove_or, prove_exists, prove_forall, prove_goal, round_end, mark_in, mark_out, Values, with_value, values_at, part_atom, part_atoms, under_atom, forall_needs, root_atom, needs, adds, removes}
use Rattle.definitions.specs.Reply.Layers.{Window, most, fewest, wider, window, windows}
use Rattle.laws.specs.Lists.{get_or_mem, none_some, some_eq, take_mem, drop_mem}
use Rattle.laws.specs.Members.{IsRange, ascending_lt, ascending_once, before_first, before_next, before_some, greatest_is, rank_lt, rank_select, select_rank}
use Rattle.laws.specs.Numbers.{IsAction}
use Rattle.meaning.specs.Parts.{Bnd, bnd_with, Here, HereAll, under_forall, under_exists, parts_and, parts_or, head_here, tail_here, IsNode, node_at_lem}
use Rattle.meaning.specs.Means.{Good, here_as, values_bnd}
use Rattle.meaning.specs.Valid.{proof_or}

-- ---- the greatest and the least of numbers
pub most_at : (ks : List ℕ) (k : ℕ) → Memᴰ k ks → k ≤ most ks
unfolding most
most_at [] k m = absurd (Memᴰ.not-nil m)
most_at (x ∷ ks) k m = ⊎_elim (λ e. omega (arith, le-max_left x (most ks), e)) (λ q. omega (arith, le-max_right x (most ks), most_at ks k q)) (Memᴰ.cases_cons m)

pub most_of : (ks : List ℕ) (b : ℕ) → ((k : ℕ) → Memᴰ k ks → k ≤ b) → most ks ≤ b
unfolding most
most_of [] b h = omega arith
most_of (x ∷ ks) b h = max-le (h x (Memᴰ.head refl)) (most_of ks b (λ k m. h k (Memᴰ.tail m)))

pub fewest_at : (ks : List ℕ) (k : ℕ) → Memᴰ k ks → fewest ks ≤ k
unfolding fewest
fewest_at [] k m = absurd (Memᴰ.not-nil m)
fewest_at (x ∷ []) k m = omega (arith, Memᴰ.eq_of_singleton m)
fewest_at (x ∷ y ∷ ks) k m = ⊎_elim (λ e. omega (arith, min-le_left x (fewest (y ∷ ks)), e)) (λ q. omega (arith, min-le_right x (fewest (y ∷ ks)), fewest_at (y ∷ ks) k q)) (Memᴰ.cases_cons m)

-- ---- an element's rank, that of the greatest, and that of the one before
module _ (n : ℕ) (ms : List ℕ) (r : IsRange n ms) where
  pub rank_greatest : suc (rank ms (greatest ms)) ≡ length ms
  rank_greatest =
      let (m, top) = greatest_is n ms r in
      let l = rank_lt ms (greatest ms) m in
      by_test m top l (ltb (suc (rank ms (greatest ms))) (length ms)) refl
    where
      by_test : Memᴰ (greatest ms) ms → ((m : ℕ) → Memᴰ m ms → m ≤ greatest ms) → rank ms (greatest ms) < length ms → (b : Bool) → ltb (suc (rank ms (greatest ms))) (length ms) ≡ b → suc (rank ms (greatest ms)) ≡ length ms
      by_test m top l true e =
          let q = ltb-true (suc (rank ms (greatest ms))) (length ms) e in
          let a = ascending_lt ms r.ascends (rank ms (greatest ms)) (suc (rank ms (greatest ms))) (omega arith) q in
          let c = select_rank ms (greatest ms) m in
          absurd (omega (arith, top (get_or ms (suc (rank ms (greatest ms))) 0) (get_or_mem ms (suc (rank ms (greatest ms))) 0 q)))
      by_test m top l false e = let q = ltb-false (suc (rank ms (greatest ms))) (length ms) e in omega arith

  pub rank_before : (z y : ℕ) → Memᴰ z ms → before ms z ≡ some y → rank ms z ≡ suc (rank ms y)
  rank_before z y m e = by_test (ltb 0 (rank ms z)) refl
    where
      at : get_or ms (rank ms z) 0 ≡ z
      at = select_rank ms z m

      by_test : (b : Bool) → ltb 0 (rank ms z) ≡ b → rank ms z ≡ suc (rank ms y)
      by_test true q =
          let l = ltb-true 0 (rank ms z) q in
          let k = rank_lt ms z m in
          let f : some (get_or ms (rank ms z - 1) 0) ≡ some y = sym (before_next ms r.ascends (rank ms z) l k) ∙ ap (before ms) at ∙ e in
          let g : rank ms y ≡ rank ms z - 1 = ap (rank ms) (sym (some_eq f)) ∙ rank_select ms (rank ms z - 1) (ascending_once ms r.ascends) (omega arith) in
          omega arith
      by_test false q =
          let l = ltb-false 0 (rank ms z) q in
          absurd (none_some (sym (before_first ms r.ascends (rank ms z) (omega arith)) ∙ ap (before ms) at ∙ e))

  pub rank_none : (z : ℕ) → Memᴰ z ms → before ms z ≡ none → rank ms z ≡ 0
  rank_none z m e = by_test (ltb 0 (rank ms z)) refl
    where
      by_test : (b : Bool) → ltb 0 (rank ms z) ≡ b → rank ms z ≡ 0
      by_test true q =
          let l = ltb-true 0 (rank ms z) q in
          absurd (none_some (sym e ∙ ap (before ms) (sym (select_rank ms z m)) ∙ before_next ms r.ascends (rank ms z) l (rank_lt ms z m)))
      by_test false q = let l = ltb-false 0 (rank ms z) q in omega arith

-- ---- how far an atom lies from its literals, by a measure of trees
module _ (p : Problem) (f : Tree → ℕ) where
  unfoldable pub node_height : Tree → ℕ → ℕ
  node_height (leaf q r ls) row = zero
  node_height (forall_node d s t) row = f t + suc (rank (p.range s) (row % p.size))
  node_height (exists_node d s t) row = f (exists_node d s t)
  node_height (and_node ts) row = f (and_node ts)
  node_height (or_node ts) row = f (or_node ts)

  unfoldable pub height : Atom → ℕ
  height guess = zero
  height proof = zero
  height goal = suc (f p.root)
  height (tuple r row) = zero
  height (not_tuple r row) = zero
  height (free_domain r x) = zero
  height (free_range r y) = zero
  height (holds_node v row) = node_height (node_at p v) row
  height (marked r row) = zero

  pub record Measures : Type 0 where
    pub at_leaf : (q : Bool) (r : ℕ) (ls : List ℕ) → f (leaf q r ls) ≡ 0
    pub at_forall : (d s : ℕ) (t : Tree) → f (forall_node d s t) ≡ length (p.range s) + f t

  module _ (G : Good p) (M : Measures) where
    forall_height : (d s : ℕ) (t : Tree) (row z : ℕ) → Memᴰ z (p.range s) → node_height (forall_node d s t) (row * p.size + z) ≡ f t + suc (rank (p.range s) z)
    unfolding node_height
    forall_height d s t row z m = ap (λ (y : ℕ). f t + suc (rank (p.range s) y)) (digits_mod row ((G.ranged s).small z m))

    -- a part's atom lies as far as the part measures
    pub part_height : (v : ℕ) (t : Tree) (e : Values) → Here p v t → Bnd p.size e → height (part_atom p.size p.range e v t) ≡ f t
    unfolding height part_atom node_height IsNode
    part_height v (leaf true r ls) e h b = sym (M.at_leaf true r ls)
    part_height v (leaf false r ls) e h b = sym (M.at_leaf false r ls)
    part_height v (forall_node d s t) e h b =
        let q = (node_at_lem p v (forall_node d s t) h tt).0 in
        let g = rank_greatest p.size (p.range s) (G.ranged s) in
        let k : f t + suc (rank (p.range s) (greatest (p.range s))) ≡ length (p.range s) + f t = omega arith in
        ap (λ (u : Tree). node_height u (row_of p.size (map e (free (forall_node d s t))) * p.size + greatest (p.range s))) q ∙ forall_height d s t (row_of p.size (map e (free (forall_node d s t)))) (greatest (p.range s)) (greatest_is p.size (p.range s) (G.ranged s)).0 ∙ k ∙ sym (M.at_forall d s t)
    part_height v (exists_node d s t) e h b = ap (λ (u : Tree). node_height u (row_of p.size (map e (free (exists_node d s t))))) (node_at_lem p v (exists_node d s t) h tt).0
    part_height v (and_node ts) e h b = ap (λ (u : Tree). node_height u (row_of p.size (map e (free (and_node ts))))) (node_at_lem p v (and_node ts) h tt).0
    part_height v (or_node ts) e h b = ap (λ (u : Tree). node_height u (row_of p.size (map e (free (or_node ts))))) (node_at_lem p v (or_node ts) h tt).0

    -- of a `forall` at z: that of its part, and one for each element up to z
    pub own_height : (v d s : ℕ) (t : Tree) (row z : ℕ) → node_at p v ≡ forall_node d s t → Memᴰ z (p.range s) → height (holds_node v (row * p.size + z)) ≡ f t + suc (rank (p.range s) z)
    unfolding height
    own_height v d s t row z e m = ap (λ (u : Tree). node_height u (row * p.size + z)) e ∙ forall_height d s t row z m

    pub at_height : (v row : ℕ) (t : Tree) → node_at p v ≡ t → height (holds_node v row) ≡ node_height t row
    unfolding height
    at_height v row t e = ap (λ (u : Tree). node_height u row) e

-- ---- at the most: every step lies further than all it needs
module _ (p : Problem) (G : Good p) where
  abbrev pub high : Tree → ℕ
  high t = (window p.range t).upper

  high_measures : Measures p high
  unfolding window wider
  high_measures = record { at_leaf = λ q r ls. refl; at_forall = λ d s t. refl }

  abbrev upper_of : Window → ℕ
  upper_of w = w.upper

  part_among : (ts : Trees) (v : ℕ) (e : Values) → HereAll p v ts → Bnd p.size e → (x : Atom) → Memᴰ x (part_atoms p.size p.range e (parts_from v ts)) → height p high x ≤ most (map upper_of (windows p.range ts))
  unfolding part_atoms parts_from windows most
  part_among end v e h b x m = absurd (Memᴰ.not-nil m)
  part_among (t then ts) v e h b x m = ⊎_elim
      (λ q. let k : height p high x ≡ high t = ap (height p high) q ∙ part_height p high G high_measures v t e (head_here p v t ts h) b in omega (arith, le-max_left (high t) (most (map upper_of (windows p.range ts)))))
      (λ q. omega (arith, le-max_right (high t) (most (map upper_of (windows p.range ts))), part_among ts (v + length (nodes t)) e (tail_here p v t ts h) b x q))
      (Memᴰ.cases_cons m)

  -- (the heights of a node's own atoms)
  and_height : (v row : ℕ) (ts : Trees) → node_at p v ≡ and_node ts → height p high (holds_node v row) ≡ 1 + most (map upper_of (windows p.range ts))
  unfolding node_height window wider
  and_height v row ts e = at_height p high G high_measures v row (and_node ts) e

  or_height : (v row : ℕ) (ts : Trees) → node_at p v ≡ or_node ts → height p high (holds_node v row) ≡ 1 + most (map upper_of (windows p.range ts))
  unfolding node_height window wider
  or_height v row ts e = at_height p high G high_measures v row (or_node ts) e

  exists_height : (v row d s : ℕ) (t : Tree) → node_at p v ≡ exists_node d s t → height p high (holds_node v row) ≡ 1 + high t
  unfolding node_height window wider
  exists_height v row d s t e = at_height p high G high_measures v row (exists_node d s t) e

  proof_height : height p high proof ≡ 0
  unfolding height
  proof_height = refl

  goal_height : height p high goal ≡ suc (high p.root)
  unfolding height
  goal_height = refl

  -- what a step needs lies below what it adds
  abbrev pub Lower : Atom → Atom → Type 0
  Lower x y = height p high x < height p high y

  proof_or_lower : {l : List Atom} (x y : Atom) (k : ℕ) → height p high y ≡ suc k → ((z : Atom) → Memᴰ z l → height p high z ≤ k) → Memᴰ x (proof ∷ l) → Lower x y
  proof_or_lower x y k e h m = proof_or (λ z. Lower z y) x (omega (arith, proof_height)) (λ z i. omega (arith, h z i)) m

  and_lower : (v row : ℕ) (ts : Trees) → v < length p.node_list → node_at p v ≡ and_node ts → (x : Atom) → Memᴰ x (needs p (prove_and v row)) → Lower x (holds_node v row)
  unfolding needs parts
  and_lower v row ts l e x m = let q = and_height v row ts e in proof_or_lower x (holds_node v row) (most (map upper_of (windows p.range ts))) (omega arith)
      (λ z i. part_among ts (suc v) (values_at p.size (and_node ts) row) (parts_and p v ts (here_as p G v (and_node ts) l e)) (values_bnd p G (and_node ts) row) z
      (subst (λ (s : Tree). Memᴰ z (part_atoms p.size p.range (values_at p.size s row) (parts v s))) e i)) m

  or_lower : (v row i : ℕ) (ts : Trees) → v < length p.node_list → node_at p v ≡ or_node ts → (x : Atom) → Memᴰ x (needs p (prove_or v row i)) → Lower x (holds_node v row)
  unfolding needs parts
  or_lower v row i ts l e x m = let q = or_height v row ts e in proof_or_lower x (holds_node v row) (most (map upper_of (windows p.range ts))) (omega arith)
      (λ z k. part_among ts (suc v) (values_at p.size (or_node ts) row) (parts_or p v ts (here_as p G v (or_node ts) l e)) (values_bnd p G (or_node ts) row) z
      (subst (λ (s : Tree). Memᴰ z (part_atoms p.size p.range (values_at p.size s row) (parts v s))) e (drop_mem i _ z (take_mem 1 _ z k)))) m

  exists_lower : (v row z d s : ℕ) (t : Tree) → v < length p.node_list → node_at p v ≡ exists_node d s t → Memᴰ z (p.range s) → (x : Atom) → Memᴰ x (needs p (prove_exists v row z)) → Lower x (holds_node v row)
  unfolding needs under_atom
  exists_lower v row z d s t l e g x m = let q = exists_height v row d s t e in proof_or_lower x (holds_node v row) (high t) (omega arith)
      (λ y i.
      let j : height p high y ≡ high t = ap (height p high) (Memᴰ.eq_of_singleton i ∙ ap (λ (u : Tree). under_atom p.size p.range v u row z) e)
      ∙ part_height p high G high_measures (suc v) t (with_value (values_at p.size (exists_node d s t) row) d z) (under_exists p v d s t (here_as p G v (exists_node d s t) l e)) (bnd_with p.size _ d z (values_bnd p G (exists_node d s t) row) ((G.ranged s).small z g)) in
      omega arith) m

  forall_lower : (v row z d s : ℕ) (t : Tree) → v < length p.node_list → node_at p v ≡ forall_node d s t → Memᴰ z (p.range s) → (x : Atom) → Memᴰ x (needs p (prove_forall v row z)) → Lower x (holds_node v (row * p.size + z))
  unfolding needs forall_needs under_atom node_sort option
  forall_lower v row z d s t l e g x m = let q = own_height p high G high_measures v d s t row z e g in proof_or_lower x (holds_node v (row * p.size + z)) (high t + rank (p.range s) z) (omega arith)
      (λ y i. ⊎_elim
      (λ k. let j : height p high y ≡ high t = ap (height p high) k ∙ part_height p high G high_measures (suc v) t (with_value (values_at p.size (forall_node d s t) row) d z) (under_forall p v d s t (here_as p G v (forall_node d s t) l e)) (bnd_with p.size _ d z (values_bnd p G (forall_node d s t) row) ((G.ranged s).small z g)) in omega arith)
      (λ k. by_option y (before (p.range s) z) refl k)
      (Memᴰ.cases_cons (subst (λ (u : Tree). Memᴰ y (forall_needs p.size p.range v u row z)) e i))) m
    where
      by_option : (y : Atom) (o : Option ℕ) → before (p.range s) z ≡ o → Memᴰ y (option o [] (λ y. holds_node v (row * p.size + y) ∷ [])) → height p high y ≤ high t + rank (p.range s) z
      by_option y none i q = absurd (Memᴰ.not-nil q)
      by_option y (some w) i q =
          let k = (before_some (p.range s) z w (G.ranged s).ascends i).0 in
          let j : height p high y ≡ high t + suc (rank (p.range s) w) = ap (height p high) (Memᴰ.eq_of_singleton q) ∙ own_height p high G high_measures v d s t row w e k in
          omega (arith, rank_before p.size (p.range s) (G.ranged s) z w g i)

  goal_lower : (x : Atom) → Memᴰ x (needs p prove_goal) → Lower x goal
  unfolding needs root_atom
  goal_lower x m =
      let j : height p high x ≡ high p.root = ap (height p high) (Memᴰ.eq_of_singleton m) ∙ part_height p high G high_measures 0 p.root (λ _. zero) G.root_here (λ l. G.element) in
      omega (arith, goal_height)

  -- for every action that removes nothing
  pub higher : (a : Action) → IsAction p a → removes p a ≡ [] → (x y : Atom) → Memᴰ x (needs p a) → Memᴰ y (adds p a) → Lower x y
  unfolding IsAction adds removes
  higher (set r row) v e x y m k = absurd (Memᴰ.not-nil (subst (Memᴰ (not_tuple r row)) e (Memᴰ.head refl)))
  higher begin_proof v e x y m k = absurd (Memᴰ.not-nil (subst (Memᴰ guess) e (Memᴰ.head refl)))
  higher (prove_and v row) (l, h, (ts, q)) e x y m k = subst (Lower x) (sym (Memᴰ.eq_of_singleton k)) (and_lower v row ts l q x m)
  higher (prove_or v row i) (l, h, (ts, q, g)) e x y m k = subst (Lower x) (sym (Memᴰ.eq_of_singleton k)) (or_lower v row i ts l q x m)
  higher (prove_exists v row z) (l, h, (d, s, t, q, g)) e x y m k = subst (Lower x) (sym (Memᴰ.eq_of_singleton k)) (exists_lower v row z d s t l q g x m)
  higher (prove_forall v row z) (l, h, (d, s, t, q, g)) e x y m k = subst (Lower x) (sym (Memᴰ.eq_of_singleton k)) (forall_lower v row z d s t l q g x m)
  higher prove_goal v e x y m k = subst (Lower x) (sym (Memᴰ.eq_of_singleton k)) (goal_lower x m)
  higher round_end v e x y m k = absurd (Memᴰ.not-nil (subst (Memᴰ proof) e (Memᴰ.head refl)))
  higher (mark_in r row) v e x y m k = absurd (Memᴰ.not-nil (subst (Memᴰ (marked r row)) e (Memᴰ.head refl)))
  higher (mark_out r row) v e x y m k = absurd (Memᴰ.not-nil (subst (Memᴰ (marked r row)) e (Memᴰ.head refl)))

-- ---- no node measures more than the root
module _ (R : ℕ → List ℕ) where
  abbrev uppers : Trees → ℕ
  uppers ts = most (map (λ (w : Window). w.upper) (windows R ts))

  mutual
    unfolding nodes nodes_all window windows wider most

    nodes_high : (t u : Tree) → Memᴰ u (nodes t) → (window R u).upper ≤ (window R t).upper
    nodes_high (leaf q r ls) u m = absurd (Memᴰ.not-nil m)
    nodes_high (forall_node d s t) u m = ⊎_elim (λ e. let k = ap (λ (x : Tree). (window R x).upper) e in omega arith) (λ q. omega (arith, nodes_high t u q)) (Memᴰ.cases_cons m)
    nodes_high (exists_node d s t) u m = ⊎_elim (λ e. let k = ap (λ (x : Tree). (window R x).upper) e in omega arith) (λ q. omega (arith, nodes_high t u q)) (Memᴰ.cases_cons m)
    nodes_high (and_node ts) u m = ⊎_elim (λ e. let k = ap (λ (x : Tree). (window R x).upper) e in omega arith) (λ q. omega (arith, all_high ts u q)) (Memᴰ.cases_cons m)
    nodes_high (or_node ts) u m = ⊎_elim (λ e. let k = ap (λ (x : Tree). (window R x).upper) e in omega arith) (λ q. omega (arith, all_high ts u q)) (Memᴰ.cases_cons m)

    all_high : (ts : Trees) (u : Tree) → Memᴰ u (nodes_all ts) → (window R u).upper ≤ most (map (λ (w : Window). w.upper) (windows R ts))
    all_high end u m = absurd (Memᴰ.not-nil m)
    all_high (t then ts) u m = ⊎_elim
        (λ q. omega (arith, nodes_high t u q, le-max_left (window R t).upper (uppers ts)))
        (λ q. omega (arith, all_high ts u q, le-max_right (window R t).upper (uppers ts)))
        (Memᴰ.append_cases (nodes t) m)

module _ (p : Problem) (G : Good p) where
  node_most : (v row : ℕ) (t : Tree) → node_at p v ≡ t → v < length p.node_list → Memᴰ (row % p.size) (p.range (node_sort t)) ⊎ (is_forall t ≡ false) → node_height p (high p G) t row ≤ (window p.range p.root).upper
  unfolding node_height window wider node_sort is_forall node_at
  node_most v row t e l m = by_tree t m (nodes_high p.range p.root t (subst₂ (λ (ts : List Tree) (u : Tree). Memᴰ u ts) G.noded e (get_or_mem p.node_list v (leaf true zero []) l)))
    where
      by_tree : (t : Tree) → Memᴰ (row % p.size) (p.range (node_sort t)) ⊎ (is_forall t ≡ false) → (window p.range t).upper ≤ (window p.range p.root).upper → node_height p (high p G) t row ≤ (window p.range p.root).upper
      by_tree (leaf q r ls) m h = omega arith
      by_tree (forall_node d s t) (inl m) h = omega (arith, rank_lt (p.range s) (row % p.size) m)
      by_tree (forall_node d s t) (inr q) h = absurd (subst T q tt)
      by_tree (exists_node d s t) m h = h
      by_tree (and_node ts) m h = h
      by_tree (or_node ts) m h = h

  -- so no step adds an atom that lies further than the last step's
  pub highest : (a : Action) → IsAction p a → removes p a ≡ [] → (y : Atom) → Memᴰ y (adds p a) → height p (high p G) y ≤ suc (window p.range p.root).upper
  unfolding IsAction adds removes height is_forall node_sort
  highest (set r row) v e y k = absurd (Memᴰ.not-nil (subst (Memᴰ (not_tuple r row)) e (Memᴰ.head refl)))
  highest begin_proof v e y k = absurd (Memᴰ.not-nil (subst (Memᴰ guess) e (Memᴰ.head refl)))
  highest (prove_and v row) (l, h, (ts, q)) e y k = subst (λ (z : Atom). height p (high p G) z ≤ suc (window p.range p.root).upper) (sym (Memᴰ.eq_of_singleton k)) (omega (arith, node_most v row (node_at p v) refl l (inr (ap is_forall q))))
  highest (prove_or v row i) (l, h, (ts, q, g)) e y k = subst (λ (z : Atom). height p (high p G) z ≤ suc (window p.range p.root).upper) (sym (Memᴰ.eq_of_singleton k)) (omega (arith, node_most v row (node_at p v) refl l (inr (ap is_forall q))))
  highest (prove_exists v row z) (l, h, (d, s, t, q, g)) e y k = subst (λ (z : Atom). height p (high p G) z ≤ suc (window p.range p.root).upper) (sym (Memᴰ.eq_of_singleton k)) (omega (arith, node_most v row (node_at p v) refl l (inr (ap is_forall q))))
  highest (prove_forall v row z) (l, h, (d, s, t, q, g)) e y k = subst (λ (z : Atom). height p (high p G) z ≤ suc (window p.range p.root).upper) (sym (Memᴰ.eq_of_singleton k))
      (omega (arith, node_most v (row * p.size + z) (node_at p v) refl l (inl (subst₂ (λ (x : ℕ) (u : Tree). Memᴰ x (p.range (node_sort u))) (sym (digits_mod row ((G.ranged s).small z g))) (sym q) g))))
  highest prove_goal v e y k = subst (λ (z : Atom). height p (high p G) z ≤ suc (window p.range p.root).upper) (sym (Memᴰ.eq_of_singleton k)) (omega arith)
  highest round_end v e y k = absurd (Memᴰ.not-nil (subst (Memᴰ proof) e (Memᴰ.head refl)))
  highest (mark_in r row) v e y k = absurd (Memᴰ.not-nil (subst (Memᴰ (marked r row)) e (Memᴰ.head refl)))
  highest (mark_out r row) v e y k = absurd (Memᴰ.not-nil (subst (Memᴰ (marked r row)) e (Memᴰ.head refl)))
