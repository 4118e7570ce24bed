-- Rounds: a round's nodes told, its end and its marks, and all rounds one after another.
use Prim.Native.Nat.{ℕ, zero, suc, ◌+◌, ◌-◌, ◌<◌, ◌≤◌, ◌^◌}
use Rattle.std.specs.Prelude.{◌≡◌, Bool, true, false}
use Rattle.std.proofs.Math.Path.{refl, sym, ap, subst}
use Rattle.std.proofs.Common.{◌∙◌}
use Rattle.std.proofs.lemmas.Bool.{false≢true}
use Rattle.std.proofs.Math.Bool.{and-true}
use mathlib.Core.List.{List, ◌∷◌, ◌++◌, map}
use native.Mathlib.Omega.{arith}
use Rattle.std.proofs.Math.Numerals.{add-one}
use Rattle.std.proofs.Math.ListN.{length, take}
use Rattle.std.proofs.lemmas.List.{length-map}
use Rattle.std.proofs.lemmas.List.Edits.{sets}
use Rattle.std.proofs.Math.Seq.{take-length}
use Rattle.definitions.specs.Lists.{all, from, below}
use Rattle.definitions.specs.Sheet.Relations.{Tuple}
use Rattle.definitions.specs.Problem.Truth.{Case, values, every_value, rule_holds, rule_is_true}
use Rattle.definitions.specs.Problem.Atoms.{Problem, problem_of, problem_with, State, node_start}
use Rattle.definitions.specs.Problem.Actions.{Action, finish, action_number}
use Rattle.definitions.specs.Problem.Strips.{may_take}
use Rattle.definitions.specs.Problem.Built.{node_steps, marks_after}
use Rattle.meaning.specs.Grounded.{good}
use Rattle.meaning.specs.Deciding.{Knows}
use Rattle.meaning.specs.Planning.{taken, taken_append, proved_steps, round_now, rounds_now, round_state, proved_state, nodes_from, proved_are}
use Rattle.meaning.specs.BuiltState.{round_known, end_told, state_ended, proved_steps_lem}
use Rattle.problem_table.specs.Lines.{nodes_in, node_line, every_in}
use Rattle.problem_table.specs.OfLaws.{every_count}
use Rattle.step_prove.specs.Following.{Out, out}
use Rattle.step_truth.specs.Nodes.{Fillable, Knowing}
use Rattle.step_write.specs.Steps.{Readable, Wrote, node_numbers}
use Rattle.step_build.specs.Ways.{follow, follow_append, follow_state, follow_steps, follow_count, out_ext}
use Rattle.step_build.specs.Following.{Building, begun_from, round_at, proved_at, round_holds, RoundsTo, Holds}

-- ---- which rounds hold
module _ (f : ℕ → Bool) where
  pub hold_start : (n : ℕ) → all f (below n) ≡ all f (from 0 (n - 0))
  unfolding below
  hold_start n = let e : n ≡ n - 0 = omega arith in ap (λ (d : ℕ). all f (from 0 d)) e

  pub hold_next : (k n : ℕ) → k < n → f k ≡ true → all f (from k (n - k)) ≡ all f (from (k + 1) (n - (k + 1)))
  unfolding from all
  hold_next k n h e = let d : n - k ≡ suc (n - suc k) = omega arith in rw (d, e, add-one) refl

  pub hold_false : (k n : ℕ) → k < n → f k ≡ false → all f (from k (n - k)) ≡ false
  unfolding from all
  hold_false k n h e = let d : n - k ≡ suc (n - suc k) = omega arith in rw (d, e) refl

  pub hold_last : (k n : ℕ) → suc k ≡ n → all f (from k (n - k)) ≡ f k
  unfolding from all
  hold_last k n h = let d : n - k ≡ 1 = omega arith in rw d (and-true (f k))

-- ---- the rounds of a case
module _ (c : Case) (F : List Tuple) where
  abbrev p : Problem
  p = problem_of c

  -- after its end and its marks the next round begins
  pub next_round : (k : ℕ) → taken (problem_of c) (proved_at c F k) (finish (problem_of c) ∷ marks_after (problem_of c) k) ≡ round_at c F (k + 1)
  unfolding round_state proved_state round_now
  next_round k = rw add-one (sym (taken_append p (proved_steps p (round_at c F k) (length p.node_list)) (finish p ∷ marks_after p k) (round_at c F k)))

  pub next_state : (k : ℕ) (s : State) (b : List ℕ) (n : ℕ) (o : Out) → s ≡ proved_at c F k → follow (problem_of c) (out s b n) (finish (problem_of c) ∷ marks_after (problem_of c) k) ≡ o → o.state ≡ round_at c F (k + 1)
  next_state k s b n o e q = ap (λ (x : Out). x.state) (sym q) ∙ follow_state p (finish p ∷ marks_after p k) (out s b n) ∙ ap (λ (t : State). taken p t (finish p ∷ marks_after p k)) e ∙ next_round k

  -- all rounds, one after another
  pub rounds_start : (o : Out) → o.state ≡ round_at c F 0 → RoundsTo c F o o 0
  unfolding round_state
  rounds_start o e = let d : values c ≡ values c - 0 = omega arith in record { begins = e; rest = ap (λ (n : ℕ). follow p o (rounds_now p (begun_from c F) zero n)) d }

  module _ (o o₁ o₂ : Out) (k : ℕ) (R : RoundsTo c F o o₁ k) (e : follow (problem_of c) o₁ (round_now (problem_of c) (round_at c F k) k) ≡ o₂) where
    state_next : o₂.state ≡ round_state (problem_of c) (begun_from c F) (suc k)
    unfolding round_state
    state_next = ap (λ (x : Out). x.state) (sym e) ∙ follow_state p (round_now p (round_at c F k) k) o₁ ∙ ap (λ (s : State). taken p s (round_now p (round_at c F k) k)) R.begins

    rest_next : (d : ℕ) → values c - k ≡ suc d → follow (problem_of c) o (rounds_now (problem_of c) (begun_from c F) zero (values c)) ≡ follow (problem_of c) o₂ (rounds_now (problem_of c) (round_state (problem_of c) (begun_from c F) (suc k)) (suc k) d)
    unfolding rounds_now round_state
    rest_next d q =
        R.rest ∙ ap (λ (n : ℕ). follow p o₁ (rounds_now p (round_at c F k) k n)) q
        ∙ follow_append p (round_now p (round_at c F k) k) (rounds_now p (taken p (round_at c F k) (round_now p (round_at c F k) k)) (suc k) d) o₁
        ∙ ap (λ (x : Out). follow p x (rounds_now p (taken p (round_at c F k) (round_now p (round_at c F k) k)) (suc k) d)) e

    pub rounds_next : k < values c → RoundsTo c F o o₂ (k + 1)
    rounds_next h = rw add-one (record { begins = state_next; rest = rest_next (values c - suc k) (omega arith) })

    pub rounds_last : suc k ≡ values c → follow (problem_of c) o (rounds_now (problem_of c) (begun_from c F) zero (values c)) ≡ o₂
    unfolding rounds_now follow
    rounds_last h = rest_next 0 (omega arith)

  pub ended_at : (k : ℕ) (s : State) → s ≡ proved_at c F (values c - 1) → suc k ≡ values c → s ≡ proved_at c F k
  ended_at k s e h = let d : values c - 1 ≡ k = omega arith in e ∙ ap (proved_at c F) d

  pub holds_start : rule_is_true c F ≡ all (round_holds c F) (from 0 (values c - 0))
  unfolding rule_is_true
  holds_start = hold_start (round_holds c F) (values c)

  -- ---- by what the code does
  module _ (table : List ℕ) (len : ℕ) (B : Building c F table len) where
    pub rounds_are : (r : ℕ) → (every_in table ≤ 8 → r ≡ 2 ^ every_in table) → r ≡ values c
    unfolding values problem_of problem_with
    rounds_are r f = let e = every_count p table B.ready.is in f (omega (arith, B.few)) ∙ ap (λ (n : ℕ). 2 ^ n) e

    pub fills : Fillable (problem_of c) table len
    fills = record { is = B.ready.is; room = B.ready.room }

    pub end_is : (node_line table (nodes_in table)).atoms ≡ node_start (problem_of c) (nodes_in table)
    end_is = ap (λ (v : ℕ). (node_line table v).atoms) B.ready.is.nodes ∙ B.ready.is.ends ∙ ap (node_start p) (sym B.ready.is.nodes)

    module _ (k : ℕ) (h : k < values c) where
      abbrev Q : List Tuple
      Q = F ++ every_value c k

      -- the round begins: no node is known
      pub known_first : (s : State) → s ≡ round_at c F k → Knows (problem_of c) (F ++ every_value c k) (nodes_from (problem_of c) (good c B.case) (F ++ every_value c k) (nodes_in table)) s
      known_first s e =
          subst (λ (v : ℕ). Knows p Q (nodes_from p (good c B.case) Q v) s) (sym B.ready.is.nodes)
          (subst (Knows p Q (nodes_from p (good c B.case) Q (length p.node_list))) (sym e) (round_known c B.case F B.picks B.kinds k h))

      -- all are
      module _ (s s' : State) (e : s ≡ round_at c F k) (K : Knowing (problem_of c) (good c B.case) (F ++ every_value c k) (nodes_from (problem_of c) (good c B.case) (F ++ every_value c k) zero) s s') where
        pub filled_is : s' ≡ proved_at c F k
        filled_is = state_ended c B.case F B.picks B.kinds k h s' K.0 (λ i z. K.1 i z ∙ ap (λ (t : State). t i) e)

        pub filled_may : (r : Bool) → r ≡ may_take (problem_of c) s' (finish (problem_of c)) → r ≡ rule_holds c (F ++ every_value c k)
        filled_may r q = q ∙ end_told c B.case F B.picks B.kinds k s' K.0

      pub readable : (s : State) → s ≡ proved_at c F k → Readable (problem_of c) (good c B.case) (F ++ every_value c k) table s
      unfolding proved_state
      readable s e = record {
        is = B.ready.is;
        few = B.ready.few;
        known = subst (Knows p Q (nodes_from p (good c B.case) Q zero)) (sym e) (proved_are p (good c B.case) Q (length p.node_list) (round_at c F k) (omega arith) (round_known c B.case F B.picks B.kinds k h)).1;
      }

      numbers_are : map (action_number (problem_of c)) (proved_steps (problem_of c) (round_at c F k) (length (problem_of c).node_list)) ≡ node_numbers (problem_of c) (F ++ every_value c k) (nodes_in table)
      unfolding node_numbers
      numbers_are = ap (map (action_number p)) (proved_steps_lem c B.case F B.picks B.kinds k h ∙ sym (ap (node_steps p Q zero) (ap (λ (v : ℕ). take v p.node_list) B.ready.is.nodes ∙ take-length p.node_list)))

      -- the nodes' steps written from a state that knows them: they were taken
      module _ (s : State) (b b' : List ℕ) (n n' : ℕ) (e : s ≡ round_at c F k) (W : Wrote b n (node_numbers (problem_of c) (F ++ every_value c k) (nodes_in table)) b' n') where
        told : follow (problem_of c) (out s b n) (proved_steps (problem_of c) (round_at c F k) (length (problem_of c).node_list)) ≡ out (proved_at c F k) b' n'
        unfolding proved_state
        told =
            let l : List Action = proved_steps p (round_at c F k) (length p.node_list) in
            out_ext (follow p (out s b n) l) (proved_at c F k) b' n'
            (follow_state p l (out s b n) ∙ ap (λ (t : State). taken p t l) e)
            (follow_steps p l (out s b n) ∙ ap (sets b n) numbers_are ∙ sym W.0)
            (follow_count p l (out s b n) ∙ ap (λ (i : ℕ). n + i) (sym (length-map l (action_number p)) ∙ ap length numbers_are) ∙ sym W.1)

        pub round_told : (s' : State) (o : Out) → s' ≡ proved_at c F k → follow (problem_of c) (out s' b' n') (finish (problem_of c) ∷ marks_after (problem_of c) k) ≡ o → follow (problem_of c) (out s b n) (round_now (problem_of c) (round_at c F k) k) ≡ o
        unfolding round_now
        round_told s' o z q =
            follow_append p (proved_steps p (round_at c F k) (length p.node_list)) (finish p ∷ marks_after p k) (out s b n)
            ∙ ap (λ (x : Out). follow p x (finish p ∷ marks_after p k)) (told ∙ ap (λ (t : State). out t b' n') (sym z)) ∙ q

    -- ---- whether the rule holds
    pub holds_not : (k : ℕ) (r : Bool) (s : State) → k < values c → rule_is_true c F ≡ all (round_holds c F) (from k (values c - k)) → r ≡ round_holds c F k → r ≡ false → Holds c F false s
    holds_not k r s h t e q = record { told = sym (t ∙ hold_false (round_holds c F) k (values c) h (sym e ∙ q)); ended = λ z. absurd (false≢true z) }

    pub holds_last : (k : ℕ) (r : Bool) (s : State) → suc k ≡ values c → rule_is_true c F ≡ all (round_holds c F) (from k (values c - k)) → (r ≡ round_holds c F k) × (s ≡ proved_at c F k) → Holds c F r s
    holds_last k r s h t e = let d : k ≡ values c - 1 = omega arith in record { told = e.0 ∙ sym (t ∙ hold_last (round_holds c F) k (values c) h); ended = λ _. e.1 ∙ ap (proved_at c F) d }
