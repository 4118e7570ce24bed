-- Building from the initial state on: the picks are set, the proof begins, and the rounds follow.
use Prim.Native.Nat.{ℕ, zero, ◌+◌, ◌/◌}
use Rattle.std.proofs.Common.{arith, sym, ◌∙◌, append-nil}
use Rattle.std.specs.Prelude.{◌≡◌, Bool, true, List, ◌∷◌, ◌++◌, length, take, drop}
use Rattle.std.proofs.Math.Path.{ap}
use Rattle.std.proofs.Math.Option.{none}
use Rattle.std.proofs.Math.Seq.{take-length, drop-length}
use Rattle.definitions.specs.Sheet.Relations.{Tuple}
use Rattle.definitions.specs.Problem.Truth.{Case, are_of_kinds, values, first_of_other_kind}
use Rattle.definitions.specs.Problem.Atoms.{Problem, problem_of, State, initial, words_for}
use Rattle.definitions.specs.Problem.Actions.{begin_proof}
use Rattle.definitions.specs.Problem.Strips.{after}
use Rattle.definitions.specs.Problem.Built.{set_steps}
use Rattle.definitions.specs.Reply.Outcome.{state_length, written}
use Rattle.laws.specs.Numbers.{IsAction}
use Rattle.meaning.specs.Planning.{taken, rounds_now, round_state}
use Rattle.meaning.specs.Building.{kinds_told}
use Rattle.meaning.specs.BuiltState.{built_steps_lem}
use Rattle.bits.specs.Table.{bit}
use Rattle.problem_table.specs.Numbers.{add_numbers, remove_numbers, changed, Held}
use Rattle.problem_table.specs.Of.{said}
use Rattle.problem_table.specs.OfLaws.{after_is, held}
use Rattle.problem_table.specs.declared.Act.TheVariants.{Begin}
use Rattle.step_start.specs.Rows.{atoms_in}
use Rattle.step_start.specs.Initial.{Begun}
use Rattle.step_picks.specs.Words.{rows_in, PicksAre}
use Rattle.step_prove.specs.Following.{ReadyToFollow, Out, out, one}
use Rattle.step_build.specs.Setting.{set_relations}
use Rattle.step_build.specs.Ways.{follow, follow_append, follow_state, picks_follow}
use Rattle.step_build.specs.Following.{Building, begun_from, round_at, Holds, Follows}
use Rattle.step_build.specs.Starts.{Prepared}
use Rattle.step_build.specs.BuiltLaws.{settable}

-- ---- the picks set from the initial state on, and then begin-proof
module _ (c : Case) (F : List Tuple) (table : List ℕ) (len : ℕ) (B : Building c F table len) (words : List ℕ) (same : PicksAre (problem_of c) words F)
    (s : State) (b : List ℕ) (e : s ≡ initial (problem_of c)) (o₁ : Out) (sets : set_relations (problem_of c) (rows_in (problem_of c) words) (out s b 0) 0 (length (problem_of c).relations) ≡ o₁) where
  abbrev p : Problem
  p = problem_of c

  picked : follow (problem_of c) (out (initial (problem_of c)) b 0) (set_steps (problem_of c) F) ≡ o₁
  picked = ap (λ (t : State). follow p (out t b 0) (set_steps p F)) (sym e) ∙ sym (picks_follow p (rows_in p words) F same (settable c B.case F B.picks B.kinds) (out s b 0)) ∙ sets

  picked_state : o₁.state ≡ taken (problem_of c) (initial (problem_of c)) (set_steps (problem_of c) F)
  picked_state = ap (λ (x : Out). x.state) (sym picked) ∙ follow_state p (set_steps p F) (out (initial p) b 0)

  -- the first round begins
  pub taken_first : (s' : State) → (Held (add_numbers table Begin) len → s' ≡ changed o₁.state (remove_numbers table Begin) (add_numbers table Begin)) → s' ≡ round_at c F 0
  unfolding said IsAction round_state
  taken_first s' f =
      f (held p table B.ready.is len B.ready.room begin_proof tt) ∙ after_is p table B.ready.is o₁.state begin_proof tt
      ∙ ap (λ (t : State). after p t begin_proof) picked_state

  module _ (o₂ : Out) (begins : one (problem_of c) o₁ begin_proof ≡ o₂) where
    pub begins_first : o₂.state ≡ round_at c F 0
    unfolding one round_state
    begins_first = ap (λ (x : Out). x.state) (sym begins) ∙ ap (λ (t : State). after p t begin_proof) picked_state

    pub follows_all : (o₃ : Out) → follow (problem_of c) o₂ (rounds_now (problem_of c) (begun_from c F) zero (values c)) ≡ o₃ → Follows c F b o₃
    unfolding follow
    follows_all o₃ q =
        ap (follow p (out (initial p) b 0)) (built_steps_lem c B.case F B.picks B.kinds)
        ∙ follow_append p (set_steps p F) (begin_proof ∷ rounds_now p (begun_from c F) zero (values c)) (out (initial p) b 0)
        ∙ ap (λ (x : Out). follow p (one p x begin_proof) (rounds_now p (begun_from c F) zero (values c))) picked
        ∙ ap (λ (x : Out). follow p x (rounds_now p (begun_from c F) zero (values c))) begins ∙ q

-- ---- from what is asked of a case and its picks
module _ (c : Case) (F : List Tuple) (table facts words : List ℕ) (m room : ℕ) (P : Prepared c F table facts words m room) (n : none ≡ first_of_other_kind c F) (counted : atoms_in table ≡ m)
    (old : List ℕ) (wide : length old ≡ (m + 63) / 64) where
  kinds : are_of_kinds c F ≡ true
  kinds = kinds_told c F (sym n)

  pub builds : (len : ℕ) → len ≡ length old → Building c F table len
  builds len e = record { case = P.case; picks = P.picks; kinds = kinds; few = P.few_tuples; ready = record { is = P.is; room = omega (arith, P.atoms_are, wide); few = P.few } }

  pub started : (new : List ℕ) → Begun table facts old new → bit new ≡ initial (problem_of c)
  unfolding Begun state_length words_for
  started new begins = (begins (problem_of c) P.is (counted ∙ P.atoms_are) P.facts_in).exact (wide ∙ ap (λ (k : ℕ). (k + 63) / 64) P.atoms_are)

-- words copied over as many have the same bits
pub copied_bits : (t d d' : List ℕ) (k : ℕ) → k ≡ length t → length t ≡ length d → d' ≡ written (take k t) d → bit d' ≡ bit t
unfolding written
copied_bits t d d' k e l q = ap bit (q ∙ ap (λ (u : List ℕ). u ++ drop (length u) d) (ap (λ (i : ℕ). take i t) e ∙ take-length t) ∙ ap (λ (i : ℕ). t ++ drop i d) l ∙ ap (λ (u : List ℕ). t ++ u) (drop-length d) ∙ append-nil t)

pub as_true : {c : Case} {F : List Tuple} {r : Bool} {s : State} → r ≡ true → Holds c F r s → Holds c F true s
as_true e H = record { told = sym e ∙ H.told; ended = λ _. H.ended e }

-- the same of a table of as many words
pub ready_as : {p : Problem} {t : List ℕ} {m n : ℕ} → ReadyToFollow p t m → n ≡ m → ReadyToFollow p t n
ready_as R e = record { is = R.is; room = omega (arith, R.room, e); few = R.few }

pub building_as : {c : Case} {F : List Tuple} {t : List ℕ} {m n : ℕ} → Building c F t m → n ≡ m → Building c F t n
building_as B e = record { case = B.case; picks = B.picks; kinds = B.kinds; few = B.few; ready = ready_as B.ready e }
