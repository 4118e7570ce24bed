-- Between two rounds: what the state says of tuples and nodes after a round's end and after each mark; so the next round begins as the first did,
-- with the next value.
use Prim.Native.Nat.{ℕ, zero, suc, ◌+◌, ◌*◌, ◌/◌, ◌^◌, ◌<◌}
use Rattle.std.specs.Prelude.{◌≡◌, ◌⊎◌, Bool, false, not, ◌&&◌, eqb, leb, ltb, length, if◌then◌else◌}
use Rattle.std.proofs.Math.Path.{refl, sym, ap, subst}
use Rattle.std.proofs.Common.{ap₂, subst₂, ◌∙◌, inl, inr, zero-add, eqb→eq, eq-eqb}
use Rattle.std.proofs.Math.Logic.{⊎_elim}
use Rattle.std.proofs.Math.Bool.{true}
use mathlib.Core.List.Memᴰ
use mathlib.Core.List.{List, [], ◌∷◌, ◌++◌, Memᴰ}
use native.Mathlib.Omega.{arith}
use Rattle.std.proofs.Math.Nat.{pow-succ'}
use Rattle.std.proofs.Math.Dec.{T, leb→le, T_not, not_T}
use Rattle.std.proofs.lemmas.Bool.{eqb-false}
use Rattle.definitions.specs.Sheet.Relations.{Tuple, is_universal}
use Rattle.definitions.specs.Problem.Truth.{holds, every_tuples, values, is_odd, digit, every_value}
use Rattle.definitions.specs.Problem.Atoms.{Problem, relation_at, node_at, tuples_of, places_of, Atom, guess, proof, goal, tuple, not_tuple, free_domain, free_range, holds_node, marked, atom_number, State}
use Rattle.definitions.specs.Problem.Actions.{round_end, mark_in, mark_out, mark_or_goal, adds, removes}
use Rattle.definitions.specs.Problem.Strips.{after}
use Rattle.definitions.specs.Problem.Built.{is_true_at, marks_from, marks_after}
use Rattle.laws.specs.Booleans.{T_of, T_true, T_false, T_ext}
use Rattle.laws.specs.Numbers.{IsAtom, IsAction}
use Rattle.meaning.specs.Means.{Good, means}
use Rattle.meaning.specs.Valid.{nodes_mem, node_removed, every_there, after_cases, after_add, after_keep}
use Rattle.laws.specs.Digits.{odd_is, even_next, digit_at, digit_other, out_other, out_at, out_next, shift_none}
use Rattle.meaning.specs.Values.{E, HasEvery, Chosen, tuples_are, in_value, value_in, tuple_moves, not_moves}
use Rattle.meaning.specs.Changes.{sort, whose, which}
use Rattle.meaning.specs.Deciding.{is_proof_atom, says, Knows}
use Rattle.meaning.specs.Planning.{taken, nodes_from}

-- what a state says between two rounds: no proof, no node's atom, and of tuples what holds
unfoldable pub rests : Problem → List Tuple → Atom → Bool
rests p P guess = false
rests p P proof = false
rests p P goal = false
rests p P (tuple r row) = means p P (tuple r row)
rests p P (not_tuple r row) = means p P (not_tuple r row)
rests p P (free_domain r x) = false
rests p P (free_range r y) = false
rests p P (holds_node v row) = false
rests p P (marked r row) = false

abbrev pub Rests : Problem → List Tuple → State → Type 0
Rests p P s = (x : Atom) → IsAtom p x → T (is_proof_atom x) → s (atom_number p x) ≡ rests p P x

-- atoms of different sorts differ; a mark or the goal is no atom of a proof
clash : {x y : Atom} → eqb (sort x) (sort y) ≡ false → x ≡ y → ⊥
clash {x} {y} e i = subst T e (T_of (eq-eqb (sort x) (sort y) (ap sort i)))

mark_atom : (p : Problem) (r i : ℕ) → is_proof_atom (mark_or_goal p r i) ≡ false
unfolding mark_or_goal is_proof_atom
mark_atom p r i = by_test (ltb i (tuples_of p.size (relation_at p r)))
  where
    by_test : (b : Bool) → is_proof_atom (if b then marked r i else goal) ≡ false
    by_test true = refl
    by_test false = refl

not_mark : (p : Problem) (r i : ℕ) (x : Atom) → T (is_proof_atom x) → x ≡ mark_or_goal p r i → ⊥
not_mark p r i x t e = subst T (ap is_proof_atom e ∙ mark_atom p r i) t

module _ (p : Problem) (G : Good p) (F : List Tuple) (K : Chosen p G F) (every : HasEvery p G) where
  abbrev At : ℕ → ℕ → ℕ → Bool
  At k r row = holds p.source (F ++ every_value p.source k) r (places_of p.size (relation_at p r).arity row)

  -- ---- a round's end
  end_none : (x : Atom) → T (is_proof_atom x) → Memᴰ x (adds p round_end) → ⊥
  unfolding adds
  end_none x q m = not_mark p (E p G) zero x q (Memᴰ.eq_of_singleton m)

  end_keeps : (x : Atom) → eqb (sort x) 1 ≡ false → eqb (sort x) 7 ≡ false → Memᴰ x (removes p round_end) → ⊥
  unfolding removes sort
  end_keeps x a b m = ⊎_elim (λ e. clash a e) (λ q. let (j, row, l, h, e) = nodes_mem p.size zero p.node_list x q in clash b e) (Memᴰ.cases_cons m)

  pub end_rests : (k : ℕ) (s : State) → Knows p (F ++ every_value p.source k) (nodes_from p G (F ++ every_value p.source k) zero) s → Rests p (F ++ every_value p.source k) (after p s round_end)
  unfolding is_proof_atom says rests sort IsAction removes
  end_rests k s H guess w q = absurd q
  end_rests k s H proof w q = T_false _ (λ t. ⊎_elim (λ a. a.1 (Memᴰ.head refl)) (λ a. end_none proof q a) (after_cases p G s round_end proof every w t))
  end_rests k s H goal w q = absurd q
  end_rests k s H (tuple r row) w q = T_ext _ _
      (λ t. ⊎_elim (λ a. subst T (H (tuple r row) w q) a.0) (λ a. absurd (end_none (tuple r row) q a)) (after_cases p G s round_end (tuple r row) every w t))
      (λ t. after_keep p G s round_end (tuple r row) every w (subst T (sym (H (tuple r row) w q)) t) (end_keeps (tuple r row) refl refl))
  end_rests k s H (not_tuple r row) w q = T_ext _ _
      (λ t. ⊎_elim (λ a. subst T (H (not_tuple r row) w q) a.0) (λ a. absurd (end_none (not_tuple r row) q a)) (after_cases p G s round_end (not_tuple r row) every w t))
      (λ t. after_keep p G s round_end (not_tuple r row) every w (subst T (sym (H (not_tuple r row) w q)) t) (end_keeps (not_tuple r row) refl refl))
  end_rests k s H (free_domain r x) w q = absurd q
  end_rests k s H (free_range r y) w q = absurd q
  end_rests k s H (holds_node v row) w q = T_false _ (λ t. ⊎_elim (λ a. a.1 (node_removed p G v row w)) (λ a. end_none (holds_node v row) q a) (after_cases p G s round_end (holds_node v row) every w t))
  end_rests k s H (marked r row) w q = absurd q

  -- ---- one mark
  module _ (i m : ℕ) (l : i < every_tuples p.source) (s : State) (H : Rests p (F ++ every_value p.source (m * 2 ^ i)) s) where
    here : i < tuples_of p.size (relation_at p (E p G))
    here = let c = tuples_are p G every in omega arith

    in_is : IsAction p (mark_in (E p G) i)
    unfolding IsAction
    in_is = let (a, b) = every_there p G every in (a, b, here)

    out_is : IsAction p (mark_out (E p G) i)
    unfolding IsAction
    out_is = let (a, b) = every_there p G every in (a, b, here)

    -- of two atoms
    one_of : (x a b : Atom) → Memᴰ x (a ∷ b ∷ []) → (x ≡ a) ⊎ (x ≡ b)
    one_of x a b q = ⊎_elim (λ e. inl e) (λ u. inr (Memᴰ.eq_of_singleton u)) (Memᴰ.cases_cons q)

    -- a row of the relation, or another
    by_row : (r row : ℕ) → r < length p.relations → ((r ≡ E p G) × (row ≡ i)) ⊎ (r ≡ E p G → row ≡ i → ⊥)
    by_row r row h = both (is_universal (relation_at p r).kind) refl (eqb row i) refl
      where
        both : (u : Bool) → is_universal (relation_at p r).kind ≡ u → (b : Bool) → eqb row i ≡ b → ((r ≡ E p G) × (row ≡ i)) ⊎ (r ≡ E p G → row ≡ i → ⊥)
        both true f true e = inl ((G.every_one r h (T_of f)).0, eqb→eq row i (T_of e))
        both true f false e = inr (λ _ q. eqb-false row i e q)
        both false f b e = inr (λ q _. subst T f (subst (λ (x : ℕ). T (is_universal (relation_at p x).kind)) (sym q) (every_there p G every).1))

    -- ---- tuple i goes in: with one more at digit i
    module _ (o : is_odd m ≡ false) where
      in_forth : (r row : ℕ) → r ≡ E p G → T (digit (m * 2 ^ i) row) → T (digit (suc m * 2 ^ i) row)
      in_forth r row f d = subst T (sym (digit_other i m row o (λ j. subst T (ap (digit (m * 2 ^ i)) j ∙ digit_at i m ∙ o) d))) d

      in_back : (r row : ℕ) → (r ≡ E p G → row ≡ i → ⊥) → r ≡ E p G → T (digit (suc m * 2 ^ i) row) → T (digit (m * 2 ^ i) row)
      in_back r row n f d = subst T (digit_other i m row o (n f)) d

      in_there : (r row : ℕ) → (r ≡ E p G) × (row ≡ i) → T (At (suc m * 2 ^ i) r row)
      in_there r row e = subst₂ (λ (x y : ℕ). T (At (suc m * 2 ^ i) x y)) (sym e.0) (sym e.1) (value_in p G F K every (suc m * 2 ^ i) i l (T_of (digit_at i (suc m) ∙ even_next m o)))

      in_tuple : (r row : ℕ) → IsAtom p (tuple r row) → after p s (mark_in (E p G) i) (atom_number p (tuple r row)) ≡ At (suc m * 2 ^ i) r row
      unfolding IsAtom adds removes sort whose which is_proof_atom rests means
      in_tuple r row w = T_ext _ _
          (λ t. ⊎_elim
          (λ a. tuple_moves p G F K every (m * 2 ^ i) (suc m * 2 ^ i) r row w.0 w.1 (in_forth r row) (subst T (H (tuple r row) w tt) a.0))
          (λ a. ⊎_elim (λ e. in_there r row (ap whose e, ap which e)) (λ e. absurd (clash refl e)) (one_of (tuple r row) _ _ a))
          (after_cases p G s (mark_in (E p G) i) (tuple r row) in_is w t))
          (λ t. ⊎_elim
          (λ e. after_add p G s (mark_in (E p G) i) (tuple r row) (Memᴰ.head (ap₂ tuple e.0 e.1)))
          (λ n. after_keep p G s (mark_in (E p G) i) (tuple r row) in_is w (subst T (sym (H (tuple r row) w tt)) (tuple_moves p G F K every (suc m * 2 ^ i) (m * 2 ^ i) r row w.0 w.1 (in_back r row n) t))
          (λ q. ⊎_elim (λ e. clash refl e) (λ e. clash refl e) (one_of (tuple r row) _ _ q)))
          (by_row r row w.0))

      in_not : (r row : ℕ) → IsAtom p (not_tuple r row) → after p s (mark_in (E p G) i) (atom_number p (not_tuple r row)) ≡ not (At (suc m * 2 ^ i) r row)
      unfolding IsAtom adds removes sort whose which is_proof_atom rests means
      in_not r row w = T_ext _ _
          (λ t. ⊎_elim
          (λ a. not_moves p G F K every (m * 2 ^ i) (suc m * 2 ^ i) r row w.0 w.1 (in_back r row (λ f j. a.1 (Memᴰ.tail (Memᴰ.head (ap₂ not_tuple f j))))) (subst T (H (not_tuple r row) w tt) a.0))
          (λ a. absurd (⊎_elim (λ e. clash refl e) (λ e. clash refl e) (one_of (not_tuple r row) _ _ a)))
          (after_cases p G s (mark_in (E p G) i) (not_tuple r row) in_is w t))
          (λ t. after_keep p G s (mark_in (E p G) i) (not_tuple r row) in_is w (subst T (sym (H (not_tuple r row) w tt)) (not_moves p G F K every (suc m * 2 ^ i) (m * 2 ^ i) r row w.0 w.1 (in_forth r row) t))
          (λ q. ⊎_elim (λ e. clash refl e) (λ e. T_not (At (suc m * 2 ^ i) r row) t (in_there r row (ap whose e, ap which e))) (one_of (not_tuple r row) _ _ q)))

      pub in_knows : Knows p (F ++ every_value p.source (suc m * 2 ^ i)) (nodes_from p G (F ++ every_value p.source (suc m * 2 ^ i)) (length p.node_list)) (after p s (mark_in (E p G) i))
      unfolding is_proof_atom says means rests IsAtom adds sort
      in_knows guess w q = absurd q
      in_knows proof w q = T_true _ (after_add p G s (mark_in (E p G) i) proof (Memᴰ.tail (Memᴰ.head refl)))
      in_knows goal w q = absurd q
      in_knows (tuple r row) w q = in_tuple r row w
      in_knows (not_tuple r row) w q = in_not r row w
      in_knows (free_domain r x) w q = absurd q
      in_knows (free_range r y) w q = absurd q
      in_knows (holds_node v row) w q =
          T_false _ (λ t. ⊎_elim (λ a. subst T (H (holds_node v row) w tt) a.0) (λ a. ⊎_elim (λ e. clash refl e) (λ e. clash refl e) (one_of (holds_node v row) _ _ a)) (after_cases p G s (mark_in (E p G) i) (holds_node v row) in_is w t))
          ∙ sym (ap (λ (b : Bool). b && is_true_at p (F ++ every_value p.source (suc m * 2 ^ i)) (node_at p v) row) (T_false (leb (length p.node_list) v) (λ t. let k = leb→le (length p.node_list) v t in let h = w.0 in omega arith)))
      in_knows (marked r row) w q = absurd q

    -- ---- tuple i goes out
    module _ (o : is_odd m ≡ true) where
      out_forth : (r row : ℕ) → (r ≡ E p G → row ≡ i → ⊥) → r ≡ E p G → T (digit (m * 2 ^ i) row) → T (digit (m / 2 * 2 ^ suc i) row)
      out_forth r row n f d = subst T (sym (out_other i m o row (n f))) d

      out_back : (r row : ℕ) → r ≡ E p G → T (digit (m / 2 * 2 ^ suc i) row) → T (digit (m * 2 ^ i) row)
      out_back r row f d = subst T (out_other i m o row (λ j. subst T (ap (digit (m / 2 * 2 ^ suc i)) j ∙ out_at i m o) d)) d

      out_away : (r row : ℕ) → (r ≡ E p G) × (row ≡ i) → T (At (m / 2 * 2 ^ suc i) r row) → ⊥
      out_away r row e t = subst T (out_at i m o) (in_value p G F K every (m / 2 * 2 ^ suc i) i l (subst₂ (λ (x y : ℕ). T (At (m / 2 * 2 ^ suc i) x y)) e.0 e.1 t))

      out_adds : (x : Atom) → T (is_proof_atom x) → Memᴰ x (adds p (mark_out (E p G) i)) → x ≡ not_tuple (E p G) i
      unfolding adds
      out_adds x q a = ⊎_elim (λ e. e) (λ e. absurd (not_mark p (E p G) (suc i) x q e)) (one_of x _ _ a)

      out_tuple : (r row : ℕ) → IsAtom p (tuple r row) → after p s (mark_out (E p G) i) (atom_number p (tuple r row)) ≡ At (m / 2 * 2 ^ suc i) r row
      unfolding IsAtom removes sort whose which is_proof_atom rests means
      out_tuple r row w = T_ext _ _
          (λ t. ⊎_elim
          (λ a. tuple_moves p G F K every (m * 2 ^ i) (m / 2 * 2 ^ suc i) r row w.0 w.1 (out_forth r row (λ f j. a.1 (Memᴰ.tail (Memᴰ.head (ap₂ tuple f j))))) (subst T (H (tuple r row) w tt) a.0))
          (λ a. absurd (clash refl (out_adds (tuple r row) tt a)))
          (after_cases p G s (mark_out (E p G) i) (tuple r row) out_is w t))
          (λ t. after_keep p G s (mark_out (E p G) i) (tuple r row) out_is w (subst T (sym (H (tuple r row) w tt)) (tuple_moves p G F K every (m / 2 * 2 ^ suc i) (m * 2 ^ i) r row w.0 w.1 (out_back r row) t))
          (λ q. ⊎_elim (λ e. clash refl e) (λ e. out_away r row (ap whose e, ap which e) t) (one_of (tuple r row) _ _ q)))

      out_not : (r row : ℕ) → IsAtom p (not_tuple r row) → after p s (mark_out (E p G) i) (atom_number p (not_tuple r row)) ≡ not (At (m / 2 * 2 ^ suc i) r row)
      unfolding IsAtom adds removes sort whose which is_proof_atom rests means
      out_not r row w = T_ext _ _
          (λ t. ⊎_elim
          (λ a. not_moves p G F K every (m * 2 ^ i) (m / 2 * 2 ^ suc i) r row w.0 w.1 (out_back r row) (subst T (H (not_tuple r row) w tt) a.0))
          (λ a. let e = out_adds (not_tuple r row) tt a in not_T (At (m / 2 * 2 ^ suc i) r row) (out_away r row (ap whose e, ap which e)))
          (after_cases p G s (mark_out (E p G) i) (not_tuple r row) out_is w t))
          (λ t. ⊎_elim
          (λ e. after_add p G s (mark_out (E p G) i) (not_tuple r row) (Memᴰ.head (ap₂ not_tuple e.0 e.1)))
          (λ n. after_keep p G s (mark_out (E p G) i) (not_tuple r row) out_is w (subst T (sym (H (not_tuple r row) w tt)) (not_moves p G F K every (m / 2 * 2 ^ suc i) (m * 2 ^ i) r row w.0 w.1 (out_forth r row n) t))
          (λ q. ⊎_elim (λ e. clash refl e) (λ e. clash refl e) (one_of (not_tuple r row) _ _ q)))
          (by_row r row w.0))

      pub out_rests : Rests p (F ++ every_value p.source (m / 2 * 2 ^ suc i)) (after p s (mark_out (E p G) i))
      unfolding is_proof_atom means rests sort
      out_rests guess w q = absurd q
      out_rests proof w q = T_false _ (λ t. ⊎_elim (λ a. subst T (H proof w tt) a.0) (λ a. clash refl (out_adds proof tt a)) (after_cases p G s (mark_out (E p G) i) proof out_is w t))
      out_rests goal w q = absurd q
      out_rests (tuple r row) w q = out_tuple r row w
      out_rests (not_tuple r row) w q = out_not r row w
      out_rests (free_domain r x) w q = absurd q
      out_rests (free_range r y) w q = absurd q
      out_rests (holds_node v row) w q = T_false _ (λ t. ⊎_elim (λ a. subst T (H (holds_node v row) w tt) a.0) (λ a. clash refl (out_adds (holds_node v row) tt a)) (after_cases p G s (mark_out (E p G) i) (holds_node v row) out_is w t))
      out_rests (marked r row) w q = absurd q

  -- ---- all the marks between a round and the next
  marks_knows : (left i m : ℕ) → i + left ≡ every_tuples p.source → suc m < 2 ^ left → (s : State) → Rests p (F ++ every_value p.source (m * 2 ^ i)) s
      → Knows p (F ++ every_value p.source (suc m * 2 ^ i)) (nodes_from p G (F ++ every_value p.source (suc m * 2 ^ i)) (length p.node_list)) (taken p s (marks_from (E p G) left i m))
  unfolding marks_from taken
  marks_knows zero i m e b s H = absurd (omega arith)
  marks_knows (suc left) i m e b s H = by_test (is_odd m) refl (λ o. marks_knows left (suc i) (m / 2) (omega arith) (half o) (after p s (mark_out (E p G) i)) (out_rests i m (omega arith) s H o))
    where
      half : is_odd m ≡ true → suc (m / 2) < 2 ^ left
      half o = let a = pow-succ' 2 left in let c = odd_is m o in omega arith

      by_test : (b : Bool) → is_odd m ≡ b
          → (is_odd m ≡ true → Knows p (F ++ every_value p.source (suc (m / 2) * 2 ^ suc i)) (nodes_from p G (F ++ every_value p.source (suc (m / 2) * 2 ^ suc i)) (length p.node_list)) (taken p (after p s (mark_out (E p G) i)) (marks_from (E p G) left (suc i) (m / 2))))
          → Knows p (F ++ every_value p.source (suc m * 2 ^ i)) (nodes_from p G (F ++ every_value p.source (suc m * 2 ^ i)) (length p.node_list)) (taken p s (if b then mark_out (E p G) i ∷ marks_from (E p G) left (suc i) (m / 2) else mark_in (E p G) i ∷ []))
      by_test true o ih = subst (λ (k : ℕ). Knows p (F ++ every_value p.source k) (nodes_from p G (F ++ every_value p.source k) (length p.node_list)) (taken p (after p s (mark_out (E p G) i)) (marks_from (E p G) left (suc i) (m / 2)))) (out_next i m o) (ih o)
      by_test false o ih = in_knows i m (omega arith) s H o

  -- so the next round begins as the first did, with the next value
  pub next_knows : (k : ℕ) → suc k < values p.source → (s : State) → Knows p (F ++ every_value p.source k) (nodes_from p G (F ++ every_value p.source k) zero) s
      → Knows p (F ++ every_value p.source (suc k)) (nodes_from p G (F ++ every_value p.source (suc k)) (length p.node_list)) (taken p s (round_end ∷ marks_after p k))
  unfolding marks_after taken values
  next_knows k l s H =
      subst (λ (j : ℕ). Knows p (F ++ every_value p.source j) (nodes_from p G (F ++ every_value p.source j) (length p.node_list)) (taken p (after p s round_end) (marks_from (E p G) (every_tuples p.source) zero k))) (shift_none (suc k))
      (marks_knows (every_tuples p.source) zero k (zero-add (every_tuples p.source)) l (after p s round_end) (subst (λ (j : ℕ). Rests p (F ++ every_value p.source j) (after p s round_end)) (sym (shift_none k)) (end_rests k s H)))
