-- Document 02, "Yes or no while the caller waits": whether the rule is true of picks, without steps.
use Rattle.std.specs.Prelude.{ℕ, zero}
use Rattle.definitions.specs.Lists.{Text}
use Rattle.definitions.specs.Limits.{CaseLimits}
use Rattle.definitions.specs.Refusal.{Result, refused, accepted, ◌>>=◌}
use Rattle.definitions.specs.Reply.Outcome.{asked, nothing, ThirdInput, text_picks, picks_room, satisfying}

-- Refusals come in the order in which building has them: the question, the site, the picks' text, 11, 23, 12 where lent picks are too
-- short, 10, 16, 17. No other buffer is lent. A yes is 0, place 0.
unfoldable pub judge : CaseLimits → (question site : Text) → ThirdInput → Result ℕ
judge L question site picks = do
  r ← asked L question site (λ c. text_picks c.case c.labels picks) nothing nothing (λ p. picks_room p picks)
  _ ← satisfying r.case r.problem picks r.third
  accepted zero

-- an answer without its count
unfoldable pub forget : Result ℕ → Result ℕ
forget (refused k place) = refused k place
forget (accepted count) = accepted zero
