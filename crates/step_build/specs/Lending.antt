-- The way followed from the initial state in what is lent.
use Rattle.std.specs.Prelude.{ℕ, ◌+◌, ◌/◌, ◌≡◌, Bool, true, false, List, ◌++◌, length, take, drop}
use Rattle.std.proofs.Common.{arith, sym, ap, subst, ◌∙◌}
use Rattle.std.proofs.Math.Option.{none}
use Rattle.std.proofs.Math.Seq.{take-length, take-append_seam}
use Rattle.definitions.specs.Sheet.Relations.{Tuple}
use Rattle.definitions.specs.Problem.Truth.{Case, are_of_kinds, rule_is_true, first_of_other_kind}
use Rattle.definitions.specs.Problem.Atoms.{problem_of, State, state_words}
use Rattle.definitions.specs.Reply.Outcome.{written}
use Rattle.meaning.specs.Building.{kinds_told}
use Rattle.meaning.specs.Lent.{words_take}
use Rattle.bits.specs.Table.{bit, Words}
use Rattle.step_prove.specs.Following.{out}
use Rattle.step_build.specs.Following.{Follows}
use Rattle.step_build.specs.Answers.{Gives}
use Rattle.step_build.specs.Starts.{Prepared}
use Rattle.step_build.specs.BuiltLaws.{count_is, steps_are, state_is, gives_false, gives_steps}
use Rattle.step_build.specs.EndLaws.{state_lent}
use Rattle.std.specs.Prelude.{Ok, Err}
use Rattle.refusal.specs.declared.Cause.TheVariants.{RuleFalse}

-- what comes back of the first words that were lent is written over them
front_written : (v : List ℕ) (k : ℕ) (state : List ℕ) → length v ≡ k → v ++ drop k state ≡ written (take k v) state
unfolding written
front_written v k state e = sym (ap (λ (u : List ℕ). u ++ drop (length u) state) (ap (λ (n : ℕ). take n v) (sym e) ∙ take-length v) ∙ ap (λ (n : ℕ). v ++ drop n state) e)

words_front : (v rest : List ℕ) → Words (v ++ rest) → Words v
words_front v rest w = subst Words (take-append_seam v rest) (words_take (length v) (v ++ rest) w)

-- the steps taken and written in what is lent, once the rule is known to be true
module _ (c : Case) (F : List Tuple) (table facts words : List ℕ) (m : ℕ) (state steps : List ℕ) (G : Prepared c F table facts words m (length steps)) (n : none ≡ first_of_other_kind c F) where
  kinds : are_of_kinds c F ≡ true
  kinds = kinds_told c F (sym n)

  pub lent_false : (r : Bool) → r ≡ rule_is_true c F → r ≡ false → Gives c (problem_of c) F state steps (Err (record { cause = RuleFalse; place = 0 })) state steps
  lent_false r t e = gives_false c (problem_of c) F state steps n (sym t ∙ e)

  module _ (r : Bool) (t : r ≡ rule_is_true c F) (e : r ≡ true) (v steps' : List ℕ) (k : ℕ) (W : Follows c F steps (out (bit v) steps' k)) where
    pub lent_steps : Words (v ++ drop ((m + 63) / 64) state) → length v ≡ (m + 63) / 64 → Gives c (problem_of c) F state steps (Ok k) (v ++ drop ((m + 63) / 64) state) steps'
    lent_steps w l = gives_steps c (problem_of c) F state steps k (v ++ drop ((m + 63) / 64) state) steps' n (sym t ∙ e)
        (count_is c G.case F G.picks kinds steps (out (bit v) steps' k) W)
        (state_lent (problem_of c) v m state (v ++ drop ((m + 63) / 64) state) (words_front v _ w) (omega (arith, l)) G.atoms_are (front_written v ((m + 63) / 64) state l)
        ∙ ap (λ (z : State). written (state_words (problem_of c) z) state) (state_is c G.case F G.picks kinds steps (out (bit v) steps' k) W (sym t ∙ e)))
        (steps_are c G.case F G.picks kinds steps (out (bit v) steps' k) W G.steps_room)
