-- Document 02, job 6, section 14 of the demands: yes or no.
use Rattle.std.specs.Prelude.{ℕ, ◌≤◌, ◌≡◌, true, List, ◌++◌, length}
use Rattle.definitions.specs.Limits.{CaseLimits}
use Rattle.definitions.specs.Lists.{is_in}
use Rattle.definitions.specs.Refusal.{refused, accepted, ready_numbers, picks_numbers}
use Rattle.definitions.specs.Problem.Atoms.{Problem}
use Rattle.definitions.specs.Problem.Built.{bound}
use Rattle.definitions.specs.Reply.Outcome.{read_problem}
use Rattle.definitions.specs.Reply.Outcome.{state_length, ThirdInput}
use Rattle.definitions.specs.Reply.Outcome.{build_steps}
use Rattle.definitions.specs.Reply.Judgement.{judge, forget}
use Rattle.laws.specs.Refusals
use Rattle.demands.specs.Judging

-- Whatever is handed over:
module _ (L : CaseLimits) (question site : List ℕ) where
  -- ---- 14, document 02, job 6. Judging answers as building does, but for the count of steps: exactly so where the state and the steps have
  -- room for the problem, if one is read; where none is, whatever is lent.
  pub judging : (picks : ThirdInput) (state steps : List ℕ) → ((p : Problem) → read_problem L question site ≡ accepted p → (state_length p ≤ length state) × (bound p ≤ length steps))
      → judge L question site picks ≡ forget (build_steps L question site picks state steps).answer
  judging picks state steps rooms = Judging.alike L question site picks state steps rooms

  -- So its numbers are those of building.
  pub judge_refuse : (picks : ThirdInput) (k place : ℕ) → judge L question site picks ≡ refused k place → is_in k (ready_numbers ++ picks_numbers) ≡ true
  judge_refuse picks k place e = Refusals.judge_refuse L question site picks k place e
