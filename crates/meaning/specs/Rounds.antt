-- After begin-proof. While round k is proved: the `every` relation has its value k, and every node's atom that holds is true with it. Between two
-- rounds, with the mark at tuple i: no proof and no node's atom holds, the tuples before i are out, and with the value and one more at digit i the
-- next round begins. In both, and past the last tuple, what is seen where a round ends is so of each value whose round has ended.
use Prim.Native.Nat.{ℕ, zero, suc, ◌+◌, ◌*◌, ◌/◌, ◌^◌, ◌<◌, ◌≤◌}
use Rattle.std.specs.Prelude.{◌≡◌, Bool, false, not, eqb, ltb, if◌then◌else◌}
use Rattle.std.proofs.Math.Path.{refl, sym, subst}
use Rattle.std.proofs.Common.{ap, ap₂, subst₂, ◌∙◌, arith, mul-lt-mul_of_pos_right, T_not, eq-eqb, lt-ltb, le-ltb}
use Rattle.std.proofs.Math.Logic.{⊎_elim}
use Rattle.std.proofs.Math.Bool.{true}
use mathlib.Core.List.Memᴰ
use mathlib.Core.List.{List, [], ◌++◌, Memᴰ}
use Rattle.std.proofs.Math.Nat.{pow-succ', one-le-pow}
use Rattle.std.proofs.Math.Dec.{T, eqb→eq, not_T}
use Rattle.definitions.specs.Lists.{all, is_some}
use Rattle.definitions.specs.Sheet.Relations.{Tuple}
use Rattle.definitions.specs.Problem.Truth.{holds, every_tuples, values, is_odd, digit, every_value}
use Rattle.definitions.specs.Problem.Tree.{Tree, leaf, forall_node, exists_node, and_node, or_node}
use Rattle.definitions.specs.Problem.Atoms.{Problem, relation_at, places_of, tuples_of, Atom, guess, proof, goal, tuple, not_tuple, free_domain, free_range, holds_node, marked, atom_number, State}
use Rattle.definitions.specs.Problem.Actions.{Action, set, begin_proof, prove_and, prove_or, prove_exists, prove_forall, prove_goal, round_end, mark_in, mark_out, part_atom, root_atom, mark_or_goal, needs, adds, removes}
use Rattle.definitions.specs.Problem.Strips.{may_take, after, pick_of}
use Rattle.laws.specs.Booleans.{T_and_l, T_of, T_true, T_false, lt_split}
use Rattle.laws.specs.Lists.{all_of}
use Rattle.laws.specs.Numbers.{IsAction, IsAtom}
use Rattle.meaning.specs.Parts.{IsNode}
use Rattle.meaning.specs.Means.{Good, means, adds_mean, is_round_end}
use Rattle.meaning.specs.Valid.{needs_valid, after_cases, may_at, node_removed}
use Rattle.laws.specs.Digits.{odd_is, even_is, digit_at, digit_other, out_other, out_at, out_next, even_next, shift_none, pow_split}
use Rattle.meaning.specs.Values.{E, HasEvery, Chosen, one_value, tuples_are, some_tuple, in_value, value_in, tuple_moves, not_moves}

unfoldable is_guess : Atom → Bool
is_guess guess = true
is_guess proof = false
is_guess goal = false
is_guess (tuple r row) = false
is_guess (not_tuple r row) = false
is_guess (free_domain r x) = false
is_guess (free_range r y) = false
is_guess (holds_node v row) = false
is_guess (marked r row) = false

-- the next mark, and past the last tuple the goal
pub mark_here : (p : Problem) (r i : ℕ) → i < tuples_of p.size (relation_at p r) → mark_or_goal p r i ≡ marked r i
unfolding mark_or_goal
mark_here p r i h = rw (lt-ltb i (tuples_of p.size (relation_at p r)) h) refl

pub goal_past : (p : Problem) (r i : ℕ) → tuples_of p.size (relation_at p r) ≤ i → mark_or_goal p r i ≡ goal
unfolding mark_or_goal
goal_past p r i h = rw (le-ltb i (tuples_of p.size (relation_at p r)) h) refl

-- no action adds the guess phase
mark_not_guess : (p : Problem) (r i : ℕ) → T (not (is_guess (mark_or_goal p r i)))
unfolding mark_or_goal is_guess
mark_not_guess p r i = by_test (ltb i (tuples_of p.size (relation_at p r)))
  where
    by_test : (b : Bool) → T (not (is_guess (if b then marked r i else goal)))
    by_test true = tt
    by_test false = tt

no_guess : (p : Problem) (a : Action) (x : Atom) → Memᴰ x (adds p a) → T (not (is_guess x))
unfolding adds is_guess
no_guess p (set r row) x m = subst (λ (y : Atom). T (not (is_guess y))) (sym (Memᴰ.eq_of_singleton m)) tt
no_guess p begin_proof x m = subst (λ (y : Atom). T (not (is_guess y))) (sym (Memᴰ.eq_of_singleton m)) tt
no_guess p (prove_and v row) x m = subst (λ (y : Atom). T (not (is_guess y))) (sym (Memᴰ.eq_of_singleton m)) tt
no_guess p (prove_or v row i) x m = subst (λ (y : Atom). T (not (is_guess y))) (sym (Memᴰ.eq_of_singleton m)) tt
no_guess p (prove_exists v row z) x m = subst (λ (y : Atom). T (not (is_guess y))) (sym (Memᴰ.eq_of_singleton m)) tt
no_guess p (prove_forall v row z) x m = subst (λ (y : Atom). T (not (is_guess y))) (sym (Memᴰ.eq_of_singleton m)) tt
no_guess p prove_goal x m = subst (λ (y : Atom). T (not (is_guess y))) (sym (Memᴰ.eq_of_singleton m)) tt
no_guess p round_end x m = subst (λ (y : Atom). T (not (is_guess y))) (sym (Memᴰ.eq_of_singleton m)) (mark_not_guess p _ zero)
no_guess p (mark_in r row) x m = ⊎_elim (λ e. subst (λ (y : Atom). T (not (is_guess y))) (sym e) tt) (λ q. subst (λ (y : Atom). T (not (is_guess y))) (sym (Memᴰ.eq_of_singleton q)) tt) (Memᴰ.cases_cons m)
no_guess p (mark_out r row) x m = ⊎_elim (λ e. subst (λ (y : Atom). T (not (is_guess y))) (sym e) tt) (λ q. subst (λ (y : Atom). T (not (is_guess y))) (sym (Memᴰ.eq_of_singleton q)) (mark_not_guess p r (suc row))) (Memᴰ.cases_cons m)

-- what an atom says between two rounds, with the mark at tuple i
unfoldable pub rests : Problem → List Tuple → ℕ → Atom → Bool
rests p P i guess = false
rests p P i proof = false
rests p P i goal = false
rests p P i (tuple r row) = holds p.source P r (places_of p.size (relation_at p r).arity row)
rests p P i (not_tuple r row) = not (holds p.source P r (places_of p.size (relation_at p r).arity row))
rests p P i (free_domain r x) = true
rests p P i (free_range r y) = true
rests p P i (holds_node v row) = false
rests p P i (marked r row) = eqb row i

module _ (p : Problem) (G : Good p) where
  -- picks with value k
  abbrev pub with : List Tuple → ℕ → List Tuple
  with P k = P ++ every_value p.source k

  abbrev pub Meant : List Tuple → State → Type 0
  Meant P s = (x : Atom) → IsAtom p x → T (s (atom_number p x)) → T (means p P x)

  abbrev pub Rests : List Tuple → ℕ → State → Type 0
  Rests P i s = (x : Atom) → IsAtom p x → T (s (atom_number p x)) → T (rests p P i x)

  -- `Seen k` is what is seen where round k ends: for soundness that the tree is true with value k.
  module _ (Seen : ℕ → Type 0) where
    abbrev pub SeenBelow : ℕ → Type 0
    SeenBelow k = (j : ℕ) → j < k → Seen j

    -- Between two rounds the value is m with i zeros behind it, and `left` tuples are left from the mark on.
    pub data Stage (P : List Tuple) (s : State) : Type 0 where
      proving : (k : ℕ) → k < values p.source → SeenBelow k → Meant (with P k) s → Stage P s
      marking : (i left m : ℕ) → HasEvery p G → i + suc left ≡ every_tuples p.source → m < 2 ^ suc left → SeenBelow (suc m * 2 ^ i) → Rests (with P (m * 2 ^ i)) i s → Stage P s
      done : SeenBelow (values p.source) → (T (s (atom_number p guess)) → ⊥) → Stage P s

    -- in no stage does the guess phase hold; so no action sets a tuple
    stage_guess : (P : List Tuple) (s : State) → Stage P s → T (s (atom_number p guess)) → ⊥
    unfolding IsAtom means rests
    stage_guess P s (proving k l t I) g = I guess tt g
    stage_guess P s (marking i left m h e b t I) g = I guess tt g
    stage_guess P s (done t n) g = n g

    pub no_pick : (P : List Tuple) (s : State) → Stage P s → (a : Action) → T (may_take p s a) → pick_of p a ≡ []
    unfolding pick_of needs
    no_pick P s S (set r row) ok = absurd (stage_guess P s S (may_at p G s (set r row) ok guess (Memᴰ.head refl)))
    no_pick P s S begin_proof ok = refl
    no_pick P s S (prove_and v row) ok = refl
    no_pick P s S (prove_or v row i) ok = refl
    no_pick P s S (prove_exists v row x) ok = refl
    no_pick P s S (prove_forall v row z) ok = refl
    no_pick P s S prove_goal ok = refl
    no_pick P s S round_end ok = refl
    no_pick P s S (mark_in r row) ok = refl
    no_pick P s S (mark_out r row) ok = refl

    -- where the goal holds, it is so of each value
    pub stage_goal : (P : List Tuple) (s : State) → Stage P s → ((k : ℕ) → T (means p (with P k) goal) → Seen k) → T (s (atom_number p goal)) → SeenBelow (values p.source)
    unfolding IsAtom means rests
    stage_goal P s (proving k l t I) sees g =
        let q = I goal tt g in
        let w = one_value p G (T_and_l (not (is_some p.source.question.every)) _ q) in
        λ j h. let e : k ≡ j = omega (arith, w, l, h) in subst Seen e (sees k q)
    stage_goal P s (marking i left m h e b t I) sees g = absurd (I goal tt g)
    stage_goal P s (done t n) sees g = t

    module _ (P : List Tuple) (K : Chosen p G P) where
      -- ---- a round is proved
      needs_meant : (Q : List Tuple) (s : State) → Meant Q s → (a : Action) → IsAction p a → T (may_take p s a) → T (all (means p Q) (needs p a))
      needs_meant Q s I a v t = all_of (means p Q) (needs p a) (λ x m. I x (needs_valid p G a v x m) (may_at p G s a t x m))

      goes_on : (s : State) (k : ℕ) → k < values p.source → SeenBelow k → Meant (with P k) s → (a : Action) → T (not (is_round_end a)) → IsAction p a → T (may_take p s a) → Stage P (after p s a)
      goes_on s k l t I a n v ok = proving k l t (λ x w h. ⊎_elim (λ b. I x w b.0) (λ m. adds_mean p G (with P k) a n v (needs_meant (with P k) s I a v ok) x m) (after_cases p G s a x v w h))

      -- a round ends
      end_keeps : (s : State) (k : ℕ) → Meant (with P k) s → HasEvery p G → (x : Atom) → IsAtom p x → T (s (atom_number p x)) × (Memᴰ x (removes p round_end) → ⊥) → T (rests p (with P k) 0 x)
      unfolding means rests IsAtom removes
      end_keeps s k I h guess w q = I guess w q.0
      end_keeps s k I h proof w q = absurd (q.1 (Memᴰ.head refl))
      end_keeps s k I h goal w q = absurd (T_not (is_some p.source.question.every) (T_and_l (not (is_some p.source.question.every)) _ (I goal w q.0)) h)
      end_keeps s k I h (tuple r row) w q = I (tuple r row) w q.0
      end_keeps s k I h (not_tuple r row) w q = I (not_tuple r row) w q.0
      end_keeps s k I h (free_domain r x) w q = tt
      end_keeps s k I h (free_range r y) w q = tt
      end_keeps s k I h (holds_node v row) w q = absurd (q.1 (node_removed p G v row w))
      end_keeps s k I h (marked r row) w q = absurd (I (marked r row) w q.0)

      end_adds : (k : ℕ) → HasEvery p G → (x : Atom) → Memᴰ x (adds p round_end) → T (rests p (with P k) 0 x)
      unfolding rests adds
      end_adds k h x m =
          let c = tuples_are p G h in
          let z = some_tuple p G h in
          subst (λ (y : Atom). T (rests p (with P k) 0 y)) (sym (Memᴰ.eq_of_singleton m ∙ mark_here p (E p G) 0 (omega arith))) (T_of (eq-eqb 0 0 refl))

      round_ends : (s : State) (k : ℕ) → k < values p.source → SeenBelow k → Meant (with P k) s → Seen k → IsAction p round_end → T (may_take p s round_end) → Stage P (after p s round_end)
      unfolding IsAction values needs
      round_ends s k l t I sees v ok = from_this (every_tuples p.source) refl (some_tuple p G v)
        where
          up_to : SeenBelow (suc k * 2 ^ 0)
          up_to j h = ⊎_elim (λ a. t j a) (λ e. subst Seen (sym e) sees) (lt_split j k (subst (λ (x : ℕ). j < x) (shift_none (suc k)) h))

          from_this : (c : ℕ) → every_tuples p.source ≡ c → 0 < c → Stage P (after p s round_end)
          from_this zero e z = absurd (omega arith)
          from_this (suc left) e z =
              let b : k < 2 ^ suc left = subst (λ (x : ℕ). k < 2 ^ x) e l in
              marking 0 left k v (omega arith) b up_to
              (λ x w h. subst (λ (j : ℕ). T (rests p (with P j) 0 x)) (sym (shift_none k)) (⊎_elim (λ q. end_keeps s k I v x w q) (λ q. end_adds k v x q) (after_cases p G s round_end x v w h)))

      -- ---- between two rounds only the mark may go on
      needs_rest : (Q : List Tuple) (i : ℕ) (s : State) → Rests Q i s → (a : Action) → IsAction p a → T (may_take p s a) → (x : Atom) → Memᴰ x (needs p a) → T (rests p Q i x)
      needs_rest Q i s I a v t x m = I x (needs_valid p G a v x m) (may_at p G s a t x m)

      root_rests : (Q : List Tuple) (i : ℕ) (t : Tree) → IsNode p t → T (rests p Q i (part_atom p.size p.range (λ _. zero) zero t)) → ⊥
      unfolding IsNode part_atom rests
      root_rests Q i (leaf q r ls) n t = n
      root_rests Q i (forall_node d σ u) n t = t
      root_rests Q i (exists_node d σ u) n t = t
      root_rests Q i (and_node ts) n t = t
      root_rests Q i (or_node ts) n t = t

      module _ (s : State) (i left m : ℕ) (h : HasEvery p G) (e : i + suc left ≡ every_tuples p.source) (b : m < 2 ^ suc left) (t : SeenBelow (suc m * 2 ^ i)) (I : Rests (with P (m * 2 ^ i)) i s) where
        abbrev row_there : i < every_tuples p.source
        row_there = omega arith

        -- a mark that may go on is that of tuple i
        the_mark : (a : Action) (r row : ℕ) → IsAction p a → T (may_take p s a) → Memᴰ (marked r row) (needs p a) → row ≡ i
        unfolding rests
        the_mark a r row v ok n = eqb→eq row i (needs_rest (with P (m * 2 ^ i)) i s I a v ok (marked r row) n)

        -- ---- tuple i goes in: the next round
        in_keeps : is_odd m ≡ false → (x : Atom) → IsAtom p x → T (s (atom_number p x)) × (Memᴰ x (removes p (mark_in (E p G) i)) → ⊥) → T (means p (with P (suc m * 2 ^ i)) x)
        unfolding means rests IsAtom removes
        in_keeps o guess w q = I guess w q.0
        in_keeps o proof w q = tt
        in_keeps o goal w q = absurd (I goal w q.0)
        in_keeps o (tuple r row) w q = tuple_moves p G P K h (m * 2 ^ i) (suc m * 2 ^ i) r row w.0 w.1
            (λ _ d. subst T (sym (digit_other i m row o (λ j. subst T (ap (digit (m * 2 ^ i)) j ∙ digit_at i m ∙ o) d))) d)
            (I (tuple r row) w q.0)
        in_keeps o (not_tuple r row) w q = not_moves p G P K h (m * 2 ^ i) (suc m * 2 ^ i) r row w.0 w.1
            (λ f d. subst T (digit_other i m row o (λ j. q.1 (Memᴰ.tail (Memᴰ.head (ap₂ not_tuple f j))))) d)
            (I (not_tuple r row) w q.0)
        in_keeps o (free_domain r x) w q = tt
        in_keeps o (free_range r y) w q = tt
        in_keeps o (holds_node v row) w q = absurd (I (holds_node v row) w q.0)
        in_keeps o (marked r row) w q = absurd (q.1 (Memᴰ.head (ap₂ marked (G.every_one r w.0 w.1).0 (eqb→eq row i (I (marked r row) w q.0)))))

        in_adds : is_odd m ≡ false → (x : Atom) → Memᴰ x (adds p (mark_in (E p G) i)) → T (means p (with P (suc m * 2 ^ i)) x)
        unfolding means adds
        in_adds o x n = ⊎_elim
            (λ j. subst (λ (y : Atom). T (means p (with P (suc m * 2 ^ i)) y)) (sym j) (value_in p G P K h (suc m * 2 ^ i) i row_there (T_of (digit_at i (suc m) ∙ even_next m o))))
            (λ j. subst (λ (y : Atom). T (means p (with P (suc m * 2 ^ i)) y)) (sym (Memᴰ.eq_of_singleton j)) tt)
            (Memᴰ.cases_cons n)

        goes_in : IsAction p (mark_in (E p G) i) → T (may_take p s (mark_in (E p G) i)) → Stage P (after p s (mark_in (E p G) i))
        unfolding needs values rests
        goes_in v ok = proving (suc m * 2 ^ i) more t (λ x w g. ⊎_elim (λ q. in_keeps even x w q) (λ q. in_adds even x q) (after_cases p G s (mark_in (E p G) i) x v w g))
          where
            out : T (not (holds p.source (with P (m * 2 ^ i)) (E p G) (places_of p.size (relation_at p (E p G)).arity i)))
            out = needs_rest (with P (m * 2 ^ i)) i s I (mark_in (E p G) i) v ok (not_tuple (E p G) i) (Memᴰ.tail (Memᴰ.head refl))

            even : is_odd m ≡ false
            even = T_false (is_odd m) (λ o. T_not (holds p.source (with P (m * 2 ^ i)) (E p G) (places_of p.size (relation_at p (E p G)).arity i)) out (value_in p G P K h (m * 2 ^ i) i row_there (subst T (sym (digit_at i m)) o)))

            more : suc m * 2 ^ i < 2 ^ every_tuples p.source
            more =
                let a = pow-succ' 2 left in
                let c = even_is m even in
                let d : suc m < 2 ^ suc left = omega arith in
                let f : suc m * 2 ^ i < 2 ^ suc left * 2 ^ i = mul-lt-mul_of_pos_right d (one-le-pow i 2 (omega arith)) in
                subst (λ (x : ℕ). suc m * 2 ^ i < x) (pow_split (suc left) i ∙ ap (λ (x : ℕ). 2 ^ x) e) f

        -- ---- tuple i goes out: the mark moves on
        out_keeps : is_odd m ≡ true → (x : Atom) → IsAtom p x → T (s (atom_number p x)) × (Memᴰ x (removes p (mark_out (E p G) i)) → ⊥) → T (rests p (with P (m / 2 * 2 ^ suc i)) (suc i) x)
        unfolding rests IsAtom removes
        out_keeps o guess w q = I guess w q.0
        out_keeps o proof w q = I proof w q.0
        out_keeps o goal w q = I goal w q.0
        out_keeps o (tuple r row) w q = tuple_moves p G P K h (m * 2 ^ i) (m / 2 * 2 ^ suc i) r row w.0 w.1
            (λ f d. subst T (sym (out_other i m o row (λ j. q.1 (Memᴰ.tail (Memᴰ.head (ap₂ tuple f j)))))) d)
            (I (tuple r row) w q.0)
        out_keeps o (not_tuple r row) w q = not_moves p G P K h (m * 2 ^ i) (m / 2 * 2 ^ suc i) r row w.0 w.1
            (λ f d. subst T (out_other i m o row (λ j. subst T (ap (digit (m / 2 * 2 ^ suc i)) j ∙ out_at i m o) d)) d)
            (I (not_tuple r row) w q.0)
        out_keeps o (free_domain r x) w q = tt
        out_keeps o (free_range r y) w q = tt
        out_keeps o (holds_node v row) w q = I (holds_node v row) w q.0
        out_keeps o (marked r row) w q = absurd (q.1 (Memᴰ.head (ap₂ marked (G.every_one r w.0 w.1).0 (eqb→eq row i (I (marked r row) w q.0)))))

        out_adds : is_odd m ≡ true → suc i < every_tuples p.source → (x : Atom) → Memᴰ x (adds p (mark_out (E p G) i)) → T (rests p (with P (m / 2 * 2 ^ suc i)) (suc i) x)
        unfolding rests adds
        out_adds o g x n =
            let c = tuples_are p G h in
            ⊎_elim
            (λ j. subst (λ (y : Atom). T (rests p (with P (m / 2 * 2 ^ suc i)) (suc i) y)) (sym j) (not_T (holds p.source (with P (m / 2 * 2 ^ suc i)) (E p G) (places_of p.size (relation_at p (E p G)).arity i))
            (λ d. subst T (out_at i m o) (in_value p G P K h (m / 2 * 2 ^ suc i) i row_there d))))
            (λ j. subst (λ (y : Atom). T (rests p (with P (m / 2 * 2 ^ suc i)) (suc i) y)) (sym (Memᴰ.eq_of_singleton j ∙ mark_here p (E p G) (suc i) (omega arith))) (T_of (eq-eqb (suc i) (suc i) refl)))
            (Memᴰ.cases_cons n)

        goes_out : IsAction p (mark_out (E p G) i) → T (may_take p s (mark_out (E p G) i)) → Stage P (after p s (mark_out (E p G) i))
        unfolding needs values rests is_guess IsAtom
        goes_out v ok = from_this left refl
          where
            odd : is_odd m ≡ true
            odd = sym (digit_at i m) ∙ T_true (digit (m * 2 ^ i) i) (in_value p G P K h (m * 2 ^ i) i row_there (needs_rest (with P (m * 2 ^ i)) i s I (mark_out (E p G) i) v ok (tuple (E p G) i) (Memᴰ.tail (Memᴰ.head refl))))

            from_this : (l : ℕ) → left ≡ l → Stage P (after p s (mark_out (E p G) i))
            from_this zero z =
                let c : m < 2 = subst (λ (x : ℕ). m < 2 ^ suc x) z b in
                let d : m ≡ 1 = let a = odd_is m odd in omega arith in
                let f : suc m * 2 ^ i ≡ 2 ^ every_tuples p.source = ap (λ (x : ℕ). suc x * 2 ^ i) d ∙ sym (pow-succ' 2 i) ∙ ap (λ (x : ℕ). 2 ^ x) (omega (arith, e, z)) in
                done (subst SeenBelow f t) (λ g. ⊎_elim (λ q. I guess tt q.0) (λ q. no_guess p (mark_out (E p G) i) guess q) (after_cases p G s (mark_out (E p G) i) guess v tt g))
            from_this (suc l) z =
                let a = pow-succ' 2 (suc l) in
                let c : m < 2 ^ suc (suc l) = subst (λ (x : ℕ). m < 2 ^ suc x) z b in
                let d : m / 2 < 2 ^ suc l = omega arith in
                marking (suc i) l (m / 2) h (omega (arith, e, z)) d (subst SeenBelow (sym (out_next i m odd)) t)
                (λ x w g. ⊎_elim (λ q. out_keeps odd x w q) (λ q. out_adds odd (omega (arith, e, z)) x q) (after_cases p G s (mark_out (E p G) i) x v w g))

      -- ---- one step more
      pub stage_step : (s : State) → Stage P s → ((k : ℕ) → Meant (with P k) s → T (s (atom_number p (root_atom p))) → Seen k) → (a : Action) → IsAction p a → T (may_take p s a) → Stage P (after p s a)
      unfolding is_round_end needs root_atom rests IsAction is_guess IsAtom
      stage_step s (done t n) sees a v ok = done t (λ g. ⊎_elim (λ q. n q.0) (λ q. absurd (T_not (is_guess guess) (no_guess p a guess q) tt)) (after_cases p G s a guess v tt g))
      stage_step s (proving k l t I) sees a v ok = by_action a v ok
        where
          by_action : (a : Action) → IsAction p a → T (may_take p s a) → Stage P (after p s a)
          by_action (set r row) v ok = goes_on s k l t I (set r row) tt v ok
          by_action begin_proof v ok = goes_on s k l t I begin_proof tt v ok
          by_action (prove_and w row) v ok = goes_on s k l t I (prove_and w row) tt v ok
          by_action (prove_or w row i) v ok = goes_on s k l t I (prove_or w row i) tt v ok
          by_action (prove_exists w row x) v ok = goes_on s k l t I (prove_exists w row x) tt v ok
          by_action (prove_forall w row z) v ok = goes_on s k l t I (prove_forall w row z) tt v ok
          by_action prove_goal v ok = goes_on s k l t I prove_goal tt v ok
          by_action round_end v ok = round_ends s k l t I (sees k I (may_at p G s round_end ok (root_atom p) (Memᴰ.head refl))) v ok
          by_action (mark_in r row) v ok = goes_on s k l t I (mark_in r row) tt v ok
          by_action (mark_out r row) v ok = goes_on s k l t I (mark_out r row) tt v ok
      stage_step s (marking i left m h e b t I) sees a v ok = by_action a v ok
        where
          need : (a : Action) → IsAction p a → T (may_take p s a) → (x : Atom) → Memᴰ x (needs p a) → T (rests p (with P (m * 2 ^ i)) i x)
          need = needs_rest (with P (m * 2 ^ i)) i s I

          by_action : (a : Action) → IsAction p a → T (may_take p s a) → Stage P (after p s a)
          by_action (set r row) v ok = absurd (need (set r row) v ok guess (Memᴰ.head refl))
          by_action begin_proof v ok = absurd (need begin_proof v ok guess (Memᴰ.head refl))
          by_action (prove_and w row) v ok = absurd (need (prove_and w row) v ok proof (Memᴰ.head refl))
          by_action (prove_or w row j) v ok = absurd (need (prove_or w row j) v ok proof (Memᴰ.head refl))
          by_action (prove_exists w row x) v ok = absurd (need (prove_exists w row x) v ok proof (Memᴰ.head refl))
          by_action (prove_forall w row z) v ok = absurd (need (prove_forall w row z) v ok proof (Memᴰ.head refl))
          by_action prove_goal v ok = absurd (root_rests (with P (m * 2 ^ i)) i p.root G.root_node (need prove_goal v ok (root_atom p) (Memᴰ.head refl)))
          by_action round_end v ok = absurd (root_rests (with P (m * 2 ^ i)) i p.root G.root_node (need round_end v ok (root_atom p) (Memᴰ.head refl)))
          by_action (mark_in r row) v ok =
              let q = (G.every_one r v.0 v.1).0 in
              let j = the_mark s i left m h e b t I (mark_in r row) r row v ok (Memᴰ.head refl) in
              subst₂ (λ (x y : ℕ). IsAction p (mark_in x y) → T (may_take p s (mark_in x y)) → Stage P (after p s (mark_in x y))) (sym q) (sym j) (goes_in s i left m h e b t I) v ok
          by_action (mark_out r row) v ok =
              let q = (G.every_one r v.0 v.1).0 in
              let j = the_mark s i left m h e b t I (mark_out r row) r row v ok (Memᴰ.head refl) in
              subst₂ (λ (x y : ℕ). IsAction p (mark_out x y) → T (may_take p s (mark_out x y)) → Stage P (after p s (mark_out x y))) (sym q) (sym j) (goes_out s i left m h e b t I) v ok
