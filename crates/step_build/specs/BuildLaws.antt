-- What the test of the kinds found, as what the definitions give.
use Rattle.std.specs.Prelude.{ℕ, ◌≡◌, List}
use Rattle.std.proofs.Common.{sym, ap, ◌∙◌}
use Rattle.std.proofs.Math.Option.{none}
use Rattle.definitions.specs.Sheet.Relations.{Tuple}
use Rattle.definitions.specs.Problem.Truth.{Case, first_of_other_kind}
use Rattle.definitions.specs.Problem.Atoms.{problem_of}
use Rattle.step_picks.specs.Tests.{told}
use Rattle.step_picks.specs.TestLaws.{told_kept, told_broken}
use Rattle.std.specs.Prelude.{Some, None, Ok, Err}
use Rattle.std.specs.Prelude as P
use Rattle.step_build.specs.Answers.{Gives}
use Rattle.step_build.specs.BuiltLaws.{gives_kind}
use Rattle.refusal.specs.declared.Cause.TheVariants.{OtherKind}

module _ (c : Case) (F : List Tuple) (k : P.Option ℕ) (t : told k ≡ first_of_other_kind c F) where
  pub build_kind : (state steps : List ℕ) (i : ℕ) → k ≡ Some i → Gives c (problem_of c) F state steps (Err (record { cause = OtherKind; place = i })) state steps
  build_kind state steps i e = gives_kind c (problem_of c) F state steps i (sym (told_broken i) ∙ ap told (sym e) ∙ t)

  pub none_broken : k ≡ None → none ≡ first_of_other_kind c F
  none_broken e = sym told_kept ∙ ap told (sym e) ∙ t
