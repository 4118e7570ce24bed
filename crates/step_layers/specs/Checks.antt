-- What running layers from the initial state answers and leaves; the test of the ends.
use Prim.Native.Nat.{ℕ, suc, ◌*◌, ◌-◌, ◌<◌, ◌≤◌}
use Rattle.std.specs.Prelude.{◌≡◌, Bool, true, false, List, [], ◌∷◌, eqb, length, get_or, take, drop, if◌then◌else◌}
use Rattle.std.proofs.Math.Path.{refl, sym, ap, subst}
use Rattle.std.proofs.Common.{◌∙◌, arith, lt-ltb, le-ltb, eq-eqb, ne_eqb, drop_of_length-le, drop-cons}
use Rattle.definitions.specs.Refusal.{Result, refused, accepted, refuse_if, ◌>>=◌}
use Rattle.definitions.specs.Problem.Atoms.{Problem, State, initial, atoms, state_words}
use Rattle.definitions.specs.Problem.Strips.{run}
use Rattle.definitions.specs.Reply.Outcome.{state_length}
use Rattle.definitions.specs.Reply.Layers.{run_layers_from, run_layers, layers_from, ends_test}
use Rattle.meaning.specs.Means.{Good}
use Rattle.meaning.specs.Layers.{NoEvery}
use Rattle.laws.specs.Words.{words_for_lem, state_words_lem}
use Rattle.bits.specs.Table.{bit, Words}
use Rattle.bits.proofs.Laws.{is_words}
use Rattle.problem_table.specs.Of.{Is}
use Rattle.step_start.specs.Rows.{atoms_in}
use Rattle.step_start.specs.Initial.{FactsIn, Begun}
use Rattle.step_run.specs.declared.End.{End}
use Rattle.step_run.specs.Ended.{ended}
use Rattle.step_run.specs.Checks.{Runs}
use Rattle.step_layers.specs.Tests.{is_taken}
use Rattle.step_layers.specs.Layers.{AreEnds, LayersEnd}

-- of every problem whose table, facts and state's length these are: the answer of running the layers, and the words of the state left
pub record RanLayers (p : Problem) (steps ends : List ℕ) (r : End) (new : List ℕ) : Type 0 where
  pub answer : ended r ≡ (run_layers p (layers_from 0 steps ends)).answer
  pub state : new ≡ state_words p (run_layers p (layers_from 0 steps ends)).state

unfoldable pub RunsLayers : (w f steps ends old : List ℕ) → End → List ℕ → Type 0
RunsLayers w f steps ends old r new =
    (p : Problem) → Good p → NoEvery p → Is p w → atoms_in w ≡ atoms p → FactsIn p f → length old ≡ state_length p → RanLayers p steps ends r new

module _ (w f steps ends old mid z : List ℕ) (r : End) (before : ℕ) (begun : Begun w f old mid) (lm : length mid ≡ length old) (lz : length z ≡ length mid)
    (ran : (p : Problem) → Good p → NoEvery p → Is p w → atoms p ≤ 64 * length mid → LayersEnd p (bit mid) steps ends r before (bit z)) where
  module _ (p : Problem) (G : Good p) (plain : NoEvery p) (is : Is p w) (ea : atoms_in w ≡ atoms p) (F : FactsIn p f) (len : length old ≡ state_length p) where
    begins : bit mid ≡ initial p
    unfolding Begun
    begins = (begun p is ea F).exact len

    ended_so : LayersEnd p (initial p) steps ends r before (bit z)
    unfolding state_length
    ended_so =
        subst (λ (s : State). LayersEnd p s steps ends r before (bit z)) begins
        (ran p G plain is (subst (λ (x : ℕ). atoms p ≤ 64 * x) (sym (lm ∙ len)) (words_for_lem (atoms p)).0))

  pub layers_ran : Words z → is_taken r ≡ true → RunsLayers w f steps ends old r z
  unfolding RunsLayers run_layers
  layers_ran wz t p G plain is ea F len =
      let h = ended_so p G plain is ea F len in
      record {
        answer = h.answer;
        state =
            is_words z (run_layers_from p (initial p) 0 (layers_from 0 steps ends)).state (state_length p) wz (lz ∙ lm ∙ len)
            (λ i l. ap (λ (q : ℕ → Bool). q i) (h.all_left t))
            ∙ sym (state_words_lem p (run_layers_from p (initial p) 0 (layers_from 0 steps ends)).state);
      }

  pub layers_again : (r' : End) (new : List ℕ) → is_taken r ≡ false → Runs w f (take before steps) z r' new → RunsLayers w f steps ends old r new
  unfolding RunsLayers run_layers Runs run
  layers_again r' new t again p G plain is ea F len =
      let h = ended_so p G plain is ea F len in
      record { answer = h.answer; state = (again p is ea F (lz ∙ lm ∙ len)).state ∙ ap (state_words p) (h.some_left t) }

-- ---- the ends, one by one
module _ (count k i : ℕ) where
  pub ends_fall : (e : ℕ) (es : List ℕ) → e < k → ends_test count k i (e ∷ es) ≡ refused 3 i
  unfolding ends_test refuse_if ◌>>=◌
  ends_fall e es h = rw (lt-ltb e k h) refl

  pub ends_next : (e : ℕ) (es : List ℕ) → k ≤ e → ends_test count k i (e ∷ es) ≡ ends_test count e (suc i) es
  unfolding ends_test refuse_if ◌>>=◌
  ends_next e es h = rw (le-ltb e k h) refl

  pub ends_all : k ≡ count → ends_test count k i [] ≡ accepted tt
  unfolding ends_test refuse_if
  ends_all h = rw (eq-eqb k count h) refl

  pub ends_short : (k ≡ count → ⊥) → ends_test count k i [] ≡ refused 3 (i - 1)
  unfolding ends_test refuse_if
  ends_short h = rw (ne_eqb k count h) refl

-- the ends that are left
module _ (count : ℕ) (ends : List ℕ) (k i : ℕ) where
  pub ends_left : i < length ends → ends_test count k i (drop i ends) ≡ ends_test count k i (get_or ends i 0 ∷ drop (suc i) ends)
  ends_left h = ap (ends_test count k i) (drop-cons ends i 0 h)

  pub ends_none : length ends ≤ i → ends_test count k i (drop i ends) ≡ ends_test count k i []
  ends_none h = ap (ends_test count k i) (drop_of_length-le ends h)

  pub ends_so_far : i < length ends → k ≤ get_or ends i 0 → (AreEnds count k (drop i ends) → k ≤ count → AreEnds count 0 ends)
      → AreEnds count (get_or ends i 0) (drop (suc i) ends) → get_or ends i 0 ≤ count → AreEnds count 0 ends
  unfolding AreEnds
  ends_so_far h b f a m = f (subst (AreEnds count k) (sym (drop-cons ends i 0 h)) (b, m, a)) (omega arith)

  pub ends_good : length ends ≤ i → (AreEnds count k (drop i ends) → k ≤ count → AreEnds count 0 ends) → k ≡ count → AreEnds count 0 ends
  unfolding AreEnds
  ends_good h f e = f (subst (AreEnds count k) (sym (drop_of_length-le ends h)) tt) (omega arith)

-- as the code tells it
module _ (x : Result (Unit {0})) where
  pub told_good : x ≡ accepted tt → x ≡ (if eqb 0 0 then accepted tt else refused 3 (0 - 1))
  told_good e = e

  pub told_fault : (r i : ℕ) → (r ≡ 0 → ⊥) → i ≡ r - 1 → x ≡ refused 3 i → x ≡ (if eqb r 0 then accepted tt else refused 3 (r - 1))
  told_fault r i h q e = e ∙ ap (λ (m : ℕ). refused 3 m) q ∙ sym (rw (ne_eqb r 0 h) refl)
