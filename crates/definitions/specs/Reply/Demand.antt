-- Document 01, "The words of demand 3", and where each is defined. Buffers are long enough here.
--   picks, a set of `choose` tuples           Truth.are_picks
--   .. of the declared kinds                  Truth.are_of_kinds
--   the rule is true of picks                 Truth.rule_is_true
--   steps reach the goal                      Strips.reaches_goal
--   the picks read from steps                 Strips.picks_of
--   a node atom is true                       Built.is_true_at
--   the built steps, their count, the bound   Built.built_steps, Built.built_count, Built.bound
use Rattle.std.specs.Prelude.{Bool, true, false, ◌&&◌, List}
use Rattle.definitions.specs.Limits.{CaseLimits}
use Rattle.definitions.specs.Lists.{Text, all}
use Rattle.definitions.specs.Refusal.{Result, refused, accepted, ◌>>=◌}
use Rattle.definitions.specs.Sheet.Relations.{Tuple, is_among}
use Rattle.definitions.specs.Problem.Strips.{run}
use Rattle.definitions.specs.Reply.Outcome.{read_problem, nothing, ThirdInput, ready_to_run}

unfoldable pub is_accepted : {A : Type 0} → Result A → Bool
is_accepted (refused k place) = false
is_accepted (accepted a) = true

-- a question and a site are accepted: nothing in the two texts makes checking steps refuse
unfoldable pub case_is_accepted : CaseLimits → Text → Text → Bool
case_is_accepted L question site = is_accepted (read_problem L question site)

-- steps are accepted: checking them refuses nothing
unfoldable pub steps_are_accepted : CaseLimits → Text → Text → ThirdInput → Bool
steps_are_accepted L question site steps =
    is_accepted (ready_to_run L question site steps nothing >>= λ r. (run r.problem r.third).answer)

-- two lists hold the same tuples, in whatever order
unfoldable pub are_same_picks : List Tuple → List Tuple → Bool
are_same_picks ts us = all (λ t. is_among t us) ts && all (λ u. is_among u ts) us
