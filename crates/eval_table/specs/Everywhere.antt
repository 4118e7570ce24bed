-- The rule is true of picks where it holds beside every value of the `every` relation; without such a line, where it holds of them.
use Rattle.std.specs.Prelude.{ℕ, ◌<◌, ◌≡◌, Bool, true, false, not, List, ◌++◌, T}
use Rattle.std.proofs.Math.Path.{sym, ap}
use Rattle.std.proofs.Common.{◌∙◌}
use Rattle.std.proofs.Math.Bool.{and-true}
use Rattle.std.proofs.Math.Option.{none}
use Rattle.definitions.specs.Lists.{is_some, all, from, below}
use Rattle.definitions.specs.Sheet.Relations.{Tuple}
use Rattle.definitions.specs.Problem.Truth.{Case, values, every_value, rule_holds, rule_is_true}
use Rattle.definitions.specs.Problem.Atoms.{problem_of, problem_with}
use Rattle.laws.specs.Booleans.{T_of, T_true, T_false}
use Rattle.laws.specs.Lists.{all_at, all_of, below_lt, mem_below}
use Rattle.laws.specs.Reader.{Accepted, not_some}
use Rattle.meaning.specs.Grounded.{good}
use Rattle.meaning.specs.Values.{one_value, with_zero}

module _ (c : Case) (F : List Tuple) where
  pub true_of_all : ((k : ℕ) → k < values c → rule_holds c (F ++ every_value c k) ≡ true) → true ≡ rule_is_true c F
  unfolding rule_is_true
  true_of_all h = sym (T_true _ (all_of (λ k. rule_holds c (F ++ every_value c k)) (below (values c)) (λ k m. T_of (h k (below_lt (values c) k m)))))

  pub false_of_one : (k : ℕ) → k < values c → rule_holds c (F ++ every_value c k) ≡ false → false ≡ rule_is_true c F
  unfolding rule_is_true
  false_of_one k l e = sym (T_false _ (λ t. T_of (sym e ∙ T_true _ (all_at (λ k. rule_holds c (F ++ every_value c k)) (below (values c)) t k (mem_below (values c) k l)))))

module _ (c : Case) (A : Accepted c) (plain : c.question.every ≡ none) where
  alone : T (not (is_some (problem_of c).source.question.every))
  unfolding problem_of problem_with is_some
  alone = rw plain tt

  pub plain_value : (F : List Tuple) → F ++ every_value c 0 ≡ F
  unfolding problem_of problem_with
  plain_value F = with_zero (problem_of c) (good c A) F

  pub plain_true : (F : List Tuple) → rule_is_true c F ≡ rule_holds c F
  unfolding rule_is_true problem_of problem_with all below from
  plain_true F = rw (one_value (problem_of c) (good c A) alone) (and-true (rule_holds c (F ++ every_value c 0)) ∙ ap (rule_holds c) (plain_value F))

-- where no such line was counted
pub no_every : (c : Case) (b : Bool) → b ≡ is_some c.question.every → b ≡ false → c.question.every ≡ none
no_every c b e z = not_some c.question.every (T_of (ap not (sym e ∙ z)))
