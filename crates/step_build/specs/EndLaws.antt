-- Begin-proof by the table, and the words that are lent out.
use Rattle.std.specs.Prelude.{ℕ, ◌+◌, ◌/◌, ◌≤◌, ◌≡◌, refl, List, length, take}
use Rattle.std.proofs.Math.Path.{ap}
use Rattle.std.proofs.Common.{◌∙◌, arith}
use Rattle.bits.specs.Table.{bit, Words}
use Rattle.definitions.specs.Problem.Atoms.{Problem, atoms, words_for, state_words}
use Rattle.definitions.specs.Problem.Actions.{action_number, begin_proof}
use Rattle.definitions.specs.Reply.Outcome.{written, state_length}
use Rattle.laws.specs.Numbers.{IsAction}
use Rattle.problem_table.specs.Lines.{relation_line, relations_in}
use Rattle.problem_table.specs.Of.{Is, said}
use Rattle.problem_table.specs.declared.RelationLine.{RelationLine}
use Rattle.problem_table.specs.declared.Act.TheVariants.{Begin}
use Rattle.step_build.specs.BuiltLaws.{front_words}

module _ (p : Problem) (w : List ℕ) (is : Is p w) where
  pub begin_number : (x : RelationLine) → x ≡ relation_line w (relations_in w) → x.sets ≡ action_number p begin_proof
  unfolding action_number
  begin_number x e = ap (λ (y : RelationLine). y.sets) e ∙ ap (λ (r : ℕ). (relation_line w r).sets) is.relations ∙ is.sets (length p.relations) (omega arith)

pub begin_is : (p : Problem) → IsAction p begin_proof
unfolding IsAction
begin_is p = tt

pub begin_said : Begin ≡ said begin_proof
unfolding said
begin_said = refl

-- ---- what the code has after the way
pub state_lent : (p : Problem) (v : List ℕ) (m : ℕ) (state state' : List ℕ) → Words v → (m + 63) / 64 ≤ length v → m ≡ atoms p → state' ≡ written (take ((m + 63) / 64) v) state → state' ≡ written (state_words p (bit v)) state
unfolding state_length words_for
state_lent p v m state state' w l a q =
    let s : (m + 63) / 64 ≡ (atoms p + 63) / 64 = ap (λ (x : ℕ). (x + 63) / 64) a in
    q ∙ ap (λ (x : ℕ). written (take x v) state) s ∙ ap (λ (x : List ℕ). written x state) (front_words p (bit v) v w (omega arith) refl)
