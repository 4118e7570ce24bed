-- The builder's answers, its state and its steps are those of the definitions.
use Prim.Native.Nat.{ℕ, zero, ◌*◌, ◌/◌, ◌%◌, ◌<◌, ◌≤◌}
use Rattle.std.specs.Prelude.{◌≡◌, true, false, List, ◌∷◌, ◌++◌, T, length, take}
use Rattle.std.proofs.Math.Path.{sym, ap}
use Rattle.std.proofs.Common.{◌∙◌, arith, length-take-le, get_or-take}
use Rattle.std.proofs.Math.Option.{none, some}
use Rattle.std.proofs.Math.Nat.{zero-add}
use Rattle.std.proofs.Math.ListN.{drop}
use Rattle.std.proofs.lemmas.List.{length-map}
use Rattle.std.proofs.Math.Seq.{sets-eq}
use Rattle.bits.specs.Table.{digit, bit, Words}
use Rattle.bits.proofs.Laws.{is_words}
use Rattle.definitions.specs.Refusal.{◌>>=◌, refuse_if}
use Rattle.definitions.specs.Sheet.Relations.{Tuple, is_chosen}
use Rattle.definitions.specs.Problem.Truth.{Case, are_picks, are_of_kinds, values, rule_is_true, first_of_other_kind}
use Rattle.definitions.specs.Problem.Atoms.{Problem, problem_of, State, initial, state_words, relation_at, tuples_of}
use Rattle.definitions.specs.Problem.Actions.{set, begin_proof, action_number}
use Rattle.definitions.specs.Problem.Strips.{run}
use Rattle.definitions.specs.Problem.Built.{is_picked, set_steps, built_actions, built_steps, bound}
use Rattle.definitions.specs.Reply.Outcome.{state_length, written, kind_refusal, take_picks, satisfying, built_from}
use Rattle.laws.specs.Booleans.{T_of}
use Rattle.laws.specs.Words.{state_words_lem}
use Rattle.laws.specs.Tuples.{among_mem}
use Rattle.laws.specs.Numbers.{IsAction}
use Rattle.meaning.specs.Grounded.{good}
use Rattle.meaning.specs.Kinds.{tested_kinds}
use Rattle.meaning.specs.Picks.{picks_inside}
use Rattle.meaning.specs.Pairs.{IsPair, pair_action}
use Rattle.laws.specs.Reader.{Accepted}
use Rattle.meaning.specs.Lent.{words_take}
use Rattle.meaning.specs.Building.{count_case}
use Rattle.meaning.specs.Planning.{taken, taken_append, rounds_now}
use Rattle.meaning.specs.BuiltState.{built_steps_lem, built_state}
use Rattle.step_prove.specs.Following.{Out, out}
use Rattle.step_build.specs.Ways.{follow_state, follow_steps, follow_count}
use Rattle.step_build.specs.Following.{begun_from, Follows}
use Rattle.step_picks.specs.Handed.{decided}
use Rattle.step_build.specs.Answers.{planned, Gives}
use Rattle.std.specs.Prelude.{Ok, Err}
use Rattle.refusal.specs.declared.Cause.TheVariants.{OtherKind, RuleFalse}

-- the front of a table whose bits are a state's is the state's words
bit_take : (k : ℕ) (t : List ℕ) (i : ℕ) → i < 64 * k → bit (take k t) i ≡ bit t i
unfolding bit
bit_take k t i h = ap (λ (w : ℕ). digit w (i % 64)) (get_or-take k t (i / 64) 0 (omega arith))

pub front_words : (p : Problem) (s : State) (t : List ℕ) → Words t → state_length p ≤ length t → bit t ≡ s → take (state_length p) t ≡ state_words p s
front_words p s t w h e = is_words (take (state_length p) t) s (state_length p) (words_take (state_length p) t w) (length-take-le (state_length p) t h)
    (λ i l. bit_take (state_length p) t i l ∙ ap (λ (f : State). f i) e) ∙ sym (state_words_lem p s)

module _ (c : Case) (A : Accepted c) (F : List Tuple) (picks : are_picks c F ≡ true) (kinds : are_of_kinds c F ≡ true) where
  abbrev p : Problem
  p = problem_of c

  -- each pick has a set action, since it is of its kind
  pub settable : (r row : ℕ) → r < length (problem_of c).relations → T (is_chosen (relation_at (problem_of c) r).kind) → row < tuples_of (problem_of c).size (relation_at (problem_of c) r) → T (is_picked (problem_of c) F r row)
      → IsAction (problem_of c) (set r row)
  unfolding is_picked IsPair
  settable r row l t h m = pair_action (problem_of c) (good c A) F (tested_kinds c A F (picks_inside c A F (T_of picks)) (T_of kinds)) (r, row) (l, t, h) (among_mem _ F m)

  module _ (b : List ℕ) (o : Out) (W : Follows c F b o) where
    pub count_is : o.count ≡ length (built_steps (problem_of c) F)
    unfolding built_steps
    count_is = ap (λ (x : Out). x.count) (sym W) ∙ follow_count p (built_actions p F) (out (initial p) b 0) ∙ zero-add _ ∙ sym (length-map (built_actions p F) (action_number p))

    pub steps_are : bound (problem_of c) ≤ length b → o.steps ≡ written (built_steps (problem_of c) F) b
    unfolding written built_steps
    steps_are h =
        let k = count_case c A F picks kinds in
        ap (λ (x : Out). x.steps) (sym W) ∙ follow_steps p (built_actions p F) (out (initial p) b 0) ∙ sets-eq (built_steps p F) b 0 (omega (arith, k.0, k.1)) ∙ ap (λ (n : ℕ). built_steps p F ++ drop n b) (zero-add (length (built_steps p F)))

    pub state_is : rule_is_true c F ≡ true → o.state ≡ (run (problem_of c) (built_steps (problem_of c) F)).state
    unfolding taken
    state_is t = ap (λ (x : Out). x.state) (sym W) ∙ follow_state p (built_actions p F) (out (initial p) b 0) ∙ ap (taken p (initial p)) (built_steps_lem c A F picks kinds)
        ∙ taken_append p (set_steps p F) (begin_proof ∷ rounds_now p (begun_from c F) zero (values c)) (initial p)
        ∙ sym (built_state c A F picks kinds t)

-- ---- answers
module _ (c : Case) (p : Problem) (F : List Tuple) (state steps : List ℕ) where
  pub gives_kind : (i : ℕ) → some i ≡ first_of_other_kind c F → Gives c p F state steps (Err (record { cause = OtherKind; place = i })) state steps
  unfolding planned decided satisfying take_picks built_from kind_refusal ◌>>=◌
  gives_kind i e labels = rw (sym e)

  pub gives_false : none ≡ first_of_other_kind c F → rule_is_true c F ≡ false → Gives c p F state steps (Err (record { cause = RuleFalse; place = 0 })) state steps
  unfolding planned decided satisfying take_picks built_from kind_refusal ◌>>=◌ refuse_if
  gives_false e t labels = rw (sym e, t)

  pub gives_steps : (k : ℕ) (state' steps' : List ℕ) → none ≡ first_of_other_kind c F → rule_is_true c F ≡ true → k ≡ length (built_steps p F)
      → state' ≡ written (state_words p (run p (built_steps p F)).state) state → steps' ≡ written (built_steps p F) steps → Gives c p F state steps (Ok k) state' steps'
  unfolding planned decided satisfying take_picks built_from kind_refusal ◌>>=◌ refuse_if
  gives_steps k state' steps' e t n a b labels = rw (sym e, t, n, a, b)
