-- "Its atoms at elements outside the type are never true": whatever steps are taken, no atom of a `forall` at an element outside its
-- variable's range ever holds.
use Prim.Native.Nat.{ℕ, zero, suc, ◌+◌, ◌*◌, ◌%◌, ◌<◌}
use Rattle.std.specs.Prelude.{◌≡◌, Bool, ◌&&◌, ◌||◌, eqb, ltb, length, if◌then◌else◌}
use Rattle.std.proofs.Math.Path.{refl, sym, ap, ap₂}
use Rattle.std.proofs.Common.{subst, subst₂, ◌∙◌, arith}
use Rattle.std.proofs.Math.Logic.{⊎_elim}
use Rattle.std.proofs.Math.Bool.{true, false, not}
use Rattle.std.proofs.Math.Option.{Option, none, some}
use mathlib.Core.List.Memᴰ
use mathlib.Core.List.{List, [], ◌∷◌, map, Memᴰ}
use Rattle.std.proofs.Math.Arith.{digits_lt, digits_mod}
use borrow.Author.Tests.{ne_eqb}
use Rattle.definitions.specs.Lists.{any, option}
use Rattle.definitions.specs.Refusal.{refused}
use Rattle.definitions.specs.Sheet.Sheets.{every_number}
use Rattle.definitions.specs.Problem.Truth.{Case, members_of}
use Rattle.definitions.specs.Problem.Tree.{Tree, leaf, forall_node, exists_node, and_node, or_node, is_forall}
use Rattle.definitions.specs.Problem.Atoms.{Problem, problem_of, problem_with, relation_at, tuples_of, rows_of, node_width, node_at, Atom, guess, proof, goal, tuple, not_tuple, free_domain, free_range, holds_node, marked, atom_blocks, item_at, atom_number, State, initial, is_initial}
use Rattle.definitions.specs.Problem.Actions.{Action, set, begin_proof, prove_and, prove_or, prove_exists, prove_forall, prove_goal, round_end, mark_in, mark_out, mark_or_goal, action_at, adds, removes}
use Rattle.definitions.specs.Problem.Strips.{may_take, after, run_from, run}
use Rattle.laws.specs.Lists.{any_none, map_mem}
use Rattle.laws.specs.Numbers.{IsAction, IsAtom, action_is, atom_at}
use Rattle.laws.specs.Reader.{Accepted}
use Rattle.meaning.specs.Means.{Good}
use Rattle.meaning.specs.Grounded.{good}
use Rattle.meaning.specs.Valid.{adds_valid}
use Rattle.meaning.specs.Sound.{initial_at}

-- the node and the row of a node's atom; 0 for another atom's node, and one more than its number else
abbrev node_of : Atom → ℕ
node_of guess = 0
node_of proof = 0
node_of goal = 0
node_of (tuple r row) = 0
node_of (not_tuple r row) = 0
node_of (free_domain r x) = 0
node_of (free_range r x) = 0
node_of (holds_node v row) = suc v
node_of (marked r row) = 0

abbrev row_in : Atom → ℕ
row_in guess = 0
row_in proof = 0
row_in goal = 0
row_in (tuple r row) = 0
row_in (not_tuple r row) = 0
row_in (free_domain r x) = 0
row_in (free_range r x) = 0
row_in (holds_node v row) = row
row_in (marked r row) = 0

abbrev kind_no : Tree → ℕ
kind_no (leaf b r ls) = 0
kind_no (forall_node d s t) = 1
kind_no (exists_node d s t) = 0
kind_no (and_node ts) = 0
kind_no (or_node ts) = 0

abbrev sort_no : Tree → ℕ
sort_no (leaf b r ls) = 0
sort_no (forall_node d s t) = s
sort_no (exists_node d s t) = 0
sort_no (and_node ts) = 0
sort_no (or_node ts) = 0

abbrev or_guess : Option Atom → Atom
or_guess none = guess
or_guess (some a) = a

by_some : {a b : Atom} → ◌≡◌ {A = Option Atom} (some a) (some b) → a ≡ b
by_some e = ap or_guess e

module _ (p : Problem) (G : Good p) (v row z d σ : ℕ) (t : Tree) (is : node_at p v ≡ forall_node d σ t) (valid : IsAtom p (holds_node v (row * p.size + z))) (small : z < p.size)
    (outside : Memᴰ z (p.range σ) → ⊥) where
  abbrev x : Atom
  x = holds_node v (row * p.size + z)

  abbrev i : ℕ
  i = atom_number p x

  -- no action adds it
  same_node : (u : ℕ) (s : Tree) → suc v ≡ suc u → node_at p u ≡ s → forall_node d σ t ≡ s
  same_node u s e f = sym is ∙ ap (node_at p) (by_suc e) ∙ f
    where
      by_suc : suc v ≡ suc u → v ≡ u
      by_suc e = omega arith

  no_node_lem : (r j : ℕ) → node_of (mark_or_goal p r j) ≡ 0
  unfolding mark_or_goal
  no_node_lem r j = by_test (ltb j (tuples_of p.size (relation_at p r)))
    where
      by_test : (b : Bool) → node_of (if b then marked r j else goal) ≡ 0
      by_test true = refl
      by_test false = refl

  never_added : (a : Action) → IsAction p a → Memᴰ x (adds p a) → ⊥
  unfolding IsAction adds
  never_added (set r k) w m = let e = ap node_of (Memᴰ.eq_of_singleton m) in absurd (omega (arith, e))
  never_added begin_proof w m = let e = ap node_of (Memᴰ.eq_of_singleton m) in absurd (omega (arith, e))
  never_added (prove_and u k) w m = let e = ap kind_no (same_node u _ (ap node_of (Memᴰ.eq_of_singleton m)) w.2.1) in absurd (omega (arith, e))
  never_added (prove_or u k j) w m = let e = ap kind_no (same_node u _ (ap node_of (Memᴰ.eq_of_singleton m)) w.2.1) in absurd (omega (arith, e))
  never_added (prove_exists u k y) w m = let e = ap kind_no (same_node u _ (ap node_of (Memᴰ.eq_of_singleton m)) w.2.3) in absurd (omega (arith, e))
  never_added (prove_forall u k y) w m =
      let q = Memᴰ.eq_of_singleton m in
      let s : σ ≡ w.2.1 = ap sort_no (same_node u _ (ap node_of q) w.2.3) in
      let h : y < p.size = (G.ranged w.2.1).small y w.2.4 in
      let z_is : z ≡ y = sym (digits_mod row small) ∙ ap (λ (a : Atom). row_in a % p.size) q ∙ digits_mod k h in
      outside (subst₂ (λ (a b : ℕ). Memᴰ a (p.range b)) (sym z_is) (sym s) w.2.4)
  never_added prove_goal w m = let e = ap node_of (Memᴰ.eq_of_singleton m) in absurd (omega (arith, e))
  never_added round_end w m = let e = ap node_of (Memᴰ.eq_of_singleton m) in let q = no_node_lem (every_number p.source.question) zero in absurd (omega (arith, e, q))
  never_added (mark_in r k) w m = ⊎_elim (λ q. let e = ap node_of (Memᴰ.eq_of_singleton q) in absurd (omega (arith, e))) (λ q. let e = ap node_of (Memᴰ.eq_of_singleton q) in absurd (omega (arith, e))) (Memᴰ.append_cases (tuple r k ∷ []) m)
  never_added (mark_out r k) w m = ⊎_elim (λ q. let e = ap node_of (Memᴰ.eq_of_singleton q) in absurd (omega (arith, e)))
      (λ q. let e = ap node_of (Memᴰ.eq_of_singleton q) in let f = no_node_lem r (suc k) in absurd (omega (arith, e, f))) (Memᴰ.append_cases (not_tuple r k ∷ []) m)

  abbrev Off : State → Type 0
  Off s = s i ≡ false

  initial_off : Off (initial p)
  unfolding is_initial
  initial_off = initial_at p G x valid

  after_off : (s : State) (a : Action) → IsAction p a → Off s → Off (after p s a)
  unfolding after
  after_off s a w e = ap₂ (λ (b c : Bool). (b && not (any (eqb i) (map (atom_number p) (removes p a)))) || c) e
      (any_none (eqb i) (map (atom_number p) (adds p a)) (λ k m. let (y, my, q) = map_mem (atom_number p) (adds p a) k m in
      ne_eqb i k (λ j. never_added a w (subst (λ (b : Atom). Memᴰ b (adds p a)) (only y (adds_valid p G a w y my) (sym q ∙ sym j)) my))))
    where
      only : (y : Atom) → IsAtom p y → atom_number p y ≡ i → y ≡ x
      only y w e = by_some (sym (atom_at p y w) ∙ ap (item_at (atom_blocks p)) e ∙ atom_at p x valid)

  runs_off : (ks : List ℕ) (s : State) (j : ℕ) → Off s → Off (run_from p s j ks).state
  unfolding run_from option
  runs_off [] s j e = e
  runs_off (k ∷ ks) s j e = from_this (λ a h. runs_off ks (after p s a) (suc j) h) (action_at p k) refl
    where
      may : ((a : Action) → Off (after p s a) → Off (run_from p (after p s a) (suc j) ks).state) → (a : Action) → action_at p k ≡ some a → (b : Bool) → Off (if b then run_from p (after p s a) (suc j) ks else record { answer = refused 14 j; state = s }).state
      may r a f true = r a (after_off s a (action_is p k a f) e)
      may r a f false = e

      from_this : ((a : Action) → Off (after p s a) → Off (run_from p (after p s a) (suc j) ks).state) → (o : Option Action) → action_at p k ≡ o
          → Off (option o (record { answer = refused 13 j; state = s })
          (λ a. if may_take p s a then run_from p (after p s a) (suc j) ks else record { answer = refused 14 j; state = s })).state
      from_this r none f = e
      from_this r (some a) f = may r a f (may_take p s a)

  pub never_true : (steps : List ℕ) → (run p steps).state (atom_number p (holds_node v (row * p.size + z))) ≡ false
  unfolding run
  never_true steps = runs_off steps (initial p) zero initial_off

-- of an accepted case
pub outside_false : (c : Case) (A : Accepted c) (v row z d s : ℕ) (t : Tree) → v < length (problem_of c).node_list → node_at (problem_of c) v ≡ forall_node d s t → row < rows_of c.site.size (forall_node d s t)
    → z < c.site.size → (Memᴰ z (members_of c s) → ⊥) → (steps : List ℕ) → (run (problem_of c) steps).state (atom_number (problem_of c) (holds_node v (row * c.site.size + z))) ≡ false
unfolding problem_of problem_with IsAtom node_width is_forall
outside_false c A v row z d s t l is r h out steps = never_true (problem_of c) (good c A) v row z d s t is (l, subst (λ (u : Tree). row * c.site.size + z < node_width c.site.size u) (sym is) (digits_lt r h)) h out steps
