-- What running steps from the initial state answers and leaves.
use Rattle.std.specs.Prelude.{ℕ, ◌*◌, ◌≤◌, ◌≡◌, Bool, List, length}
use Rattle.std.proofs.Common.{sym, ap, subst, ◌∙◌}
use Rattle.definitions.specs.Problem.Atoms.{Problem, State, initial, atoms, state_words}
use Rattle.definitions.specs.Problem.Strips.{run_from, run}
use Rattle.definitions.specs.Reply.Outcome.{state_length}
use Rattle.laws.specs.Words.{words_for_lem, state_words_lem}
use Rattle.bits.specs.Table.{bit, Words}
use Rattle.bits.proofs.Laws.{is_words}
use Rattle.problem_table.specs.Of.{Is}
use Rattle.step_start.specs.Rows.{atoms_in}
use Rattle.step_start.specs.Initial.{FactsIn, Begun}
use Rattle.step_run.specs.declared.End.{End}
use Rattle.step_run.specs.Ended.{ended}

-- of every problem whose table, facts and state's length these are: the answer of running the steps, and the words of the state left
pub record Ran (p : Problem) (steps : List ℕ) (r : End) (new : List ℕ) : Type 0 where
  pub answer : ended r ≡ (run p steps).answer
  pub state : new ≡ state_words p (run p steps).state

unfoldable pub Runs : (w f steps old : List ℕ) → End → List ℕ → Type 0
Runs w f steps old r new = (p : Problem) → Is p w → atoms_in w ≡ atoms p → FactsIn p f → length old ≡ state_length p → Ran p steps r new

pub runs : (w f steps old mid new : List ℕ) (r : End) → Begun w f old mid → length mid ≡ length old → length new ≡ length mid → Words new
    → ((p : Problem) → Is p w → atoms p ≤ 64 * length mid → (ended r ≡ (run_from p (bit mid) 0 steps).answer) × (bit new ≡ (run_from p (bit mid) 0 steps).state))
    → Runs w f steps old r new
unfolding Runs Begun state_length run
runs w f steps old mid new r begun lm ln wn ran p is ea F len =
    let b : bit mid ≡ initial p = (begun p is ea F).exact len in
    let k = (words_for_lem (atoms p)).0 in
    let h = ran p is (subst (λ (x : ℕ). atoms p ≤ 64 * x) (sym (lm ∙ len)) k) in
    record {
      answer = h.0 ∙ ap (λ (s : State). (run_from p s 0 steps).answer) b;
      state = is_words new (run_from p (initial p) 0 steps).state (state_length p) wn (ln ∙ lm ∙ len) (λ i l. ap (λ (q : ℕ → Bool). q i) (h.1 ∙ ap (λ (s : State). (run_from p s 0 steps).state) b)) ∙ sym (state_words_lem p (run_from p (initial p) 0 steps).state);
    }
