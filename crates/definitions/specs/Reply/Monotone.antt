-- Document 02, job 13: rules that only ever want more, where all tuples picked are as good as any picks.
use Rattle.std.specs.Prelude.{ℕ, zero, Bool, true, false, not, ◌&&◌, ltb}
use Rattle.definitions.specs.Limits.{CaseLimits}
use Rattle.definitions.specs.Lists.{Text, all, is_some}
use Rattle.definitions.specs.Refusal.{Result, accepted, ◌>>=◌, refuse_if}
use Rattle.definitions.specs.Sheet.Relations.{Relation, is_function}
use Rattle.definitions.specs.Sheet.Sheets.{Question, first_chosen}
use Rattle.definitions.specs.Problem.Truth.{rule_is_true}
use Rattle.definitions.specs.Problem.Tree.{Tree, Trees, leaf, forall_node, exists_node, and_node, or_node, end, ◌then◌, tree_of}
use Rattle.definitions.specs.Reply.Outcome.{asked, nothing}
use Rattle.definitions.specs.Reply.Finding.{cells}

-- No literal of a relation from number `first` on is a not-tuple. The tree is that of the whole case, negation pushed inward.
unfoldable mutual
  pub wants_more : ℕ → Tree → Bool
  wants_more first (leaf true r ls) = true
  wants_more first (leaf false r ls) = ltb r first
  wants_more first (forall_node d s t) = wants_more first t
  wants_more first (exists_node d s t) = wants_more first t
  wants_more first (and_node ts) = all_want_more first ts
  wants_more first (or_node ts) = all_want_more first ts

  pub all_want_more : ℕ → Trees → Bool
  all_want_more first end = true
  all_want_more first (t then ts) = wants_more first t && all_want_more first ts

-- the profile: there is no `every` line, each `choose` is plain, and none is negated
unfoldable pub only_wants_more : Question → Bool
only_wants_more q = not (is_some q.every) && all (λ (k : Relation). not (is_function k.kind)) q.chosen && wants_more (first_chosen q) (tree_of q)

-- ---- the call. Refusals in their order: the question, the site, 11, 23, 24 outside the profile, 21 where no picks make the rule true,
-- since it is false with all tuples picked. A yes is 0, place 0; nothing is written.
unfoldable pub monotone : CaseLimits → (question site : Text) → Result ℕ
monotone L question site = do
  r ← asked L question site nothing nothing nothing nothing
  _ ← refuse_if (not (only_wants_more r.case.question)) 24 zero
  _ ← refuse_if (not (rule_is_true r.case (cells r.problem))) 21 zero
  accepted zero
