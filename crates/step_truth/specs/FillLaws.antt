-- Rows of a node written to a state that knows the later nodes and the rows before them.
use Prim.Native.Nat.{ℕ, ◌+◌, ◌-◌, ◌<◌, ◌≤◌}
use Rattle.std.specs.Prelude.{◌≡◌, ◌⊎◌, Bool, false, ◌&&◌, List, eqb, ltb, length}
use Rattle.std.proofs.Math.Path.{refl, sym, ap}
use Rattle.std.proofs.Common.{subst, ◌∙◌, inl, inr, ⊎_elim, ltb→lt, lt→ltb, eqb→eq, eq-eqb}
use Rattle.std.proofs.Math.Bool.{true}
use native.Mathlib.Omega.{arith}
use Rattle.std.proofs.Math.Dec.{T}
use Rattle.definitions.specs.Sheet.Relations.{Tuple}
use Rattle.definitions.specs.Problem.Atoms.{Problem, node_at, node_width, node_start, Atom, guess, proof, goal, tuple, not_tuple, free_domain, free_range, holds_node, marked, atom_number, State}
use Rattle.definitions.specs.Problem.Built.{is_true_at}
use Rattle.laws.specs.Booleans.{and_T, T_and_l, T_and_r, T_or, or_l, or_r, T_of, T_true, T_ext}
use Rattle.laws.specs.Numbers.{IsAtom, atom_injective}
use Rattle.bits.specs.Table.{paste}
use Rattle.bits.proofs.Laws.{within, paste_in, paste_out}
use Rattle.meaning.specs.Means.{Good}
use Rattle.meaning.specs.Deciding.{says, Knows}
use Rattle.meaning.specs.Planning.{rows_to, NoNode}

module _ (p : Problem) (G : Good p) (F : List Tuple) (v : ℕ) (here : v < length p.node_list) (j m : ℕ) (inside : j + m ≤ node_width p.size (node_at p v)) where
  -- an atom with a number among those of the rows is one of theirs
  row_of : (x : Atom) → IsAtom p x → node_start p v + j ≤ atom_number p x → atom_number p x < node_start p v + j + m → x ≡ holds_node v (atom_number p x - node_start p v)
  unfolding IsAtom atom_number
  row_of x a l u =
      let e : node_start p v + (atom_number p x - node_start p v) ≡ atom_number p x = omega arith in
      atom_injective p x (holds_node v (atom_number p x - node_start p v)) a (here, omega arith) (sym e)

  -- of the others nothing more is decided
  same_row : (w row : ℕ) → ((w ≡ v) × (j ≤ row) × (row < j + m) → ⊥) → rows_to p G F v j w row ≡ rows_to p G F v (j + m) w row
  same_row w row out = T_ext _ _
      (λ t. ⊎_elim (λ a. or_l (ltb v w) _ a) (λ a. or_r (ltb v w) _ (and_T (eqb v w) _ (T_and_l (eqb v w) _ a) (lt→ltb row (j + m) (omega (arith, ltb→lt row j (T_and_r (eqb v w) _ a)))))) (T_or (ltb v w) _ t))
      (λ t. ⊎_elim (λ a. or_l (ltb v w) _ a) (λ a. or_r (ltb v w) _ (and_T (eqb v w) _ (T_and_l (eqb v w) _ a) (lt→ltb row j (low (sym (eqb→eq v w (T_and_l (eqb v w) _ a))) (ltb→lt row (j + m) (T_and_r (eqb v w) _ a)) (dec_le j row))))) (T_or (ltb v w) _ t))
    where
      dec_le : (a b : ℕ) → (b < a) ⊎ (a ≤ b)
      dec_le a b = by_test (ltb b a) refl
        where
          by_test : (t : Bool) → ltb b a ≡ t → (b < a) ⊎ (a ≤ b)
          by_test true e = inl (ltb→lt b a (T_of e))
          by_test false e = inr (nlt (λ h. subst T e (lt→ltb b a h)))
            where
              nlt : (b < a → ⊥) → a ≤ b
              nlt f = omega arith

      low : w ≡ v → row < j + m → (row < j) ⊎ (j ≤ row) → row < j
      low e h (inl l) = l
      low e h (inr l) = absurd (out (e, l, h))

  others : (x : Atom) → ((node_start p v + j ≤ atom_number p x) × (atom_number p x < node_start p v + j + m) → ⊥) → says p F (rows_to p G F v j) x ≡ says p F (rows_to p G F v (j + m)) x
  unfolding says atom_number
  others guess out = refl
  others proof out = refl
  others goal out = refl
  others (tuple r row) out = refl
  others (not_tuple r row) out = refl
  others (free_domain r x) out = refl
  others (free_range r y) out = refl
  others (marked r row) out = refl
  others (holds_node w row) out =
      ap (λ (b : Bool). b && is_true_at p F (node_at p w) row)
      (same_row w row (λ q. let e = ap (node_start p) q.0 in out (omega (arith, e, q.1), omega (arith, e, q.2))))

  pub rows_known : (s s' : State) (g : ℕ → Bool) → Knows p F (rows_to p G F v j) s → ((y : ℕ) → y < m → g y ≡ is_true_at p F (node_at p v) (j + y)) → s' ≡ paste s (node_start p v + j) g 0 m → Knows p F (rows_to p G F v (j + m)) s'
  unfolding says
  rows_known s s' g K own e x a q = ap (λ (t : State). t (atom_number p x)) e ∙ by_place (within (node_start p v + j) m (atom_number p x))
    where
      by_place : Dec ((node_start p v + j ≤ atom_number p x) × (atom_number p x < node_start p v + j + m)) → paste s (node_start p v + j) g 0 m (atom_number p x) ≡ says p F (rows_to p G F v (j + m)) x
      by_place (no out) = paste_out s (node_start p v + j) g 0 m (atom_number p x) out ∙ K x a q ∙ others x out
      by_place (yes i) =
          let row : ℕ = atom_number p x - node_start p v in
          let y : ℕ = 0 + (atom_number p x - (node_start p v + j)) in
          let r : j + y ≡ row = omega arith in
          let d : rows_to p G F v (j + m) v row ≡ true = T_true _ (or_r (ltb v v) _ (and_T (eqb v v) _ (same_T v) (lt→ltb row (j + m) (omega arith)))) in
          paste_in s (node_start p v + j) g 0 m (atom_number p x) i.0 i.1 ∙ own y (omega arith) ∙ ap (is_true_at p F (node_at p v)) r
          ∙ sym (ap (says p F (rows_to p G F v (j + m))) (row_of x a i.0 i.1) ∙ ap (λ (b : Bool). b && is_true_at p F (node_at p v) row) d)
        where
          same_T : (k : ℕ) → T (eqb k k)
          same_T k = T_of (eq-eqb k k refl)

  -- no other number changes
  pub rows_kept : (s s' : State) (g : ℕ → Bool) → s' ≡ paste s (node_start p v + j) g 0 m → (i : ℕ) → NoNode p G F i → s' i ≡ s i
  unfolding IsAtom atom_number
  rows_kept s s' g e i o = ap (λ (t : State). t i) e ∙ paste_out s (node_start p v + j) g 0 m i (λ q.
      let a : i ≡ node_start p v + (i - node_start p v) = omega (arith, q.0) in
      o v (i - node_start p v) (here, omega (arith, q.0, q.1)) a)
