-- Cases of document 02, job 14, and one theorem for the whole table.
use Rattle.std.specs.Prelude.{◌≡◌, refl, ℕ, ◌+◌, Bool, true, false, ◌&&◌, List, [], ◌∷◌, length, get_or, eqb}
use Prim.Native.String.{String}
use Rattle.definitions.specs.Limits.{usual}
use Rattle.definitions.specs.Lists.{all, same, below}
use Rattle.definitions.specs.Sheet.Text.{bytes}
use Rattle.definitions.specs.Refusal.{Result, refused, accepted}
use Rattle.definitions.specs.Reply.Outcome.{as_text, Plan, plan}
use Rattle.definitions.specs.Reply.Allowance.{allowances}
use Rattle.definitions.specs.Table.Opened.{everything}
use Rattle.definitions.specs.Table.EveryCases.{lost_q}
use Rattle.definitions.specs.Table.Drawer.{answer_matches, refusal_matches, sheet_q, sheet_s, sat_q, sat_s, one_q, one_s, inj_q, inj_s}

-- What the call leaves in a lent buffer when it succeeds; how it refuses, the buffer as it was; by how many the steps that are built
-- from one set of picks are more than those from another, beside the allowance of the `choose` of an index.
pub data Claim : Type 0 where
  allows : (question site : String) → (before after : List ℕ) → Claim
  refuses : (question site : String) → (before : List ℕ) → (number place : ℕ) → Claim
  moves : (question site few more : String) → (index by allowed : ℕ) → Claim

unfoldable pub built_both : Result Plan → Result Plan → ℕ → Bool
built_both (refused k place) b by = false
built_both (accepted a) (refused k place) by = false
built_both (accepted a) (accepted b) by = eqb (length b.steps) (length a.steps + by)

unfoldable pub plan_for : String → String → String → Result Plan
plan_for q s picks = plan usual (bytes q) (bytes s) (as_text (bytes picks)) 8 64

unfoldable pub is_so : Claim → Bool
is_so (allows q s before after) =
    let a = allowances usual (bytes q) (bytes s) before in answer_matches a.answer 0 && same a.allowances after
is_so (refuses q s before k place) =
    let a = allowances usual (bytes q) (bytes s) before in refusal_matches a.answer k place && same a.allowances before
is_so (moves q s few more i by allowed) =
    built_both (plan_for q s few) (plan_for q s more) by && eqb (get_or (allowances usual (bytes q) (bytes s) (below 4)).allowances i 0) allowed

-- two `choose` lines of which the rule has one; one in a literal that is negated; a rule that is true without its second part
unfoldable pub unused_q : String
unused_q = "choose\tT\t1\nchoose\tF\t2\nrule\t(forall (?y) (T ?y))\n"

unfoldable pub deep_q : String
deep_q = "choose\tT\t1\nchoose\tS\t1\nrule\t(forall (?x) (implies (T ?x) (exists (?y) (or (LT ?x ?y) (S ?x)))))\n"

unfoldable pub either_q : String
either_q = "choose\tT\t1\nrule\t(or (exists (?x) (ZERO ?x)) (forall (?x) (exists (?y) (T ?y))))\n"

pub table : List Claim
table =
    -- the drawer's sheet: `forall` 2, `or` 2; SAT: 3, 3, and three times 9; ONE; what lies past the numbers stays
    allows sheet_q sheet_s (7 ∷ []) (5 ∷ [])
    ∷ allows sat_q sat_s (7 ∷ 7 ∷ []) (34 ∷ 7 ∷ [])
    ∷ allows one_q one_s (7 ∷ []) (2 ∷ [])
    -- a `choose` that occurs nowhere
    ∷ allows unused_q "size\t5\n" (7 ∷ 7 ∷ 7 ∷ []) (6 ∷ 1 ∷ 7 ∷ [])
    -- a total kind: the joining `and`, the totality's `forall` and `exists`; of the rule itself nothing
    ∷ allows inj_q inj_s (7 ∷ []) (6 ∷ [])
    -- negated or not, and through every node above: `forall` 3 and `or` 3 for both, `exists` 3 and `or` 9 for the second alone
    ∷ allows deep_q "size\t3\n" (0 ∷ 0 ∷ []) (7 ∷ 19 ∷ [])
    -- refusals: the question, the site, 11 before 12, 12 by the number of `choose` lines
    ∷ refuses "choose\tT\t1\n" "" [] 3 11
    ∷ refuses one_q "size\t65\n" [] 9 0
    ∷ refuses unused_q "size\t5\n" (7 ∷ []) 12 2
    ∷ refuses one_q one_s [] 12 1
    -- (one atom over the limit)
    ∷ refuses "rel\tR\t3\nrel\tQ\t3\nrel\tP\t2\nrel\tO\t2\nrel\tN\t1\nrel\tM\t1\nchoose\tT\t1\nrule\t(and (and (forall (?a) (and (forall (?b) (and (P ?a ?b)))))))\n" "size\t63\n" [] 11 0
    -- all atoms of a node count, those outside a type too; a totality with types
    ∷ allows "type\tSPOT\nchoose\tT\t1\nrule\t(forall (?x:SPOT) (T ?x))\n" "size\t5\nmember\tSPOT\t3\nmember\tSPOT\t1\n" (7 ∷ []) (6 ∷ [])
    ∷ allows "type\tA\ntype\tB\nchoose\tR\t2\nrule\t(forall (?x:A ?y:B) (R ?x ?y))\n" "size\t3\nmember\tB\t2\nmember\tA\t1\nmember\tB\t0\n" (7 ∷ []) (13 ∷ [])
    ∷ allows "type\tDOOR\ntype\tGROUP\nchoose\tG\tFun\tDOOR\tGROUP\nrule\t(forall (?x) (EQ ?x ?x))\n" "size\t5\nmember\tDOOR\t3\nmember\tDOOR\t0\nmember\tGROUP\t4\nmember\tGROUP\t1\nmember\tGROUP\t3\n" (7 ∷ []) (12 ∷ [])
    -- one pick more, and the allowance itself more steps
    ∷ moves unused_q "size\t2\n" "pick\tT\t0\npick\tT\t1\n" "pick\tT\t0\npick\tT\t1\npick\tF\t0\t1\n" 1 1 1
    -- where the rule has the relation its root does too, and the root's atoms are true of both: one less than the allowance is all
    -- that a rule with a root of one atom can show, and it is reached
    ∷ moves either_q "size\t3\n" "" "pick\tT\t1\n" 0 5 6
    -- a case with an `every` line is 23, before 12
    ∷ refuses lost_q "size\t2\n" (7 ∷ []) 23 0
    ∷ refuses lost_q "size\t2\n" [] 23 0
    ∷ refuses lost_q "size\t9\n" [] 23 0
    ∷ []

pub table_is_so : all is_so table ≡ true
unfolding everything lost_q is_so built_both plan_for answer_matches refusal_matches table unused_q deep_q either_q sheet_q sheet_s sat_q sat_s one_q one_s inj_q inj_s
table_is_so = refl
