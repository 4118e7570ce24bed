-- Cases of document 02, job 3, and one theorem for the whole table.
use Rattle.std.specs.Prelude.{◌≡◌, refl, ℕ, Bool, true, false, ◌&&◌, List, [], ◌∷◌, map, eqb}
use Prim.Native.String.{String}
use Rattle.definitions.specs.Limits.{usual}
use Rattle.definitions.specs.Lists.{all, same}
use Rattle.definitions.specs.Sheet.Text.{bytes}
use Rattle.definitions.specs.Refusal.{Result, refused, accepted}
use Rattle.definitions.specs.Problem.Truth.{Case}
use Rattle.definitions.specs.Problem.Tree.{Part}
use Rattle.definitions.specs.Problem.Atoms.{problem_of}
use Rattle.definitions.specs.Reply.Outcome.{read_case}
use Rattle.definitions.specs.Reply.Tally.{Tally, walked, tally}
use Rattle.definitions.specs.Table.Opened.{everything}
use Rattle.definitions.specs.Table.EveryCases.{lost_q}
use Rattle.definitions.specs.Table.Drawer.{refusal_matches, sheet_q, sheet_s, sat_q, sat_s, one_q, one_s, inj_q, inj_s}

-- what a walk counts, over the limits or not; that there is no case to count; the numbers of the nodes it visits
pub data Claim : Type 0 where
  counts : (question site : String) → (nodes atoms actions bound : ℕ) → Claim
  refuses : (question site : String) → (number place : ℕ) → Claim
  visits : (question site : String) → (numbers : List ℕ) → Claim

unfoldable pub counts_match : Result Tally → ℕ → ℕ → ℕ → ℕ → Bool
counts_match (refused k place) v a b c = false
counts_match (accepted t) v a b c =
    eqb t.node_count v && eqb t.sizes.atom_count a && eqb t.sizes.action_count b && eqb t.sizes.step_bound c

unfoldable pub visits_match : Result Case → List ℕ → Bool
visits_match (refused k place) numbers = false
visits_match (accepted c) numbers = same (map (λ (q : Part). q.node) (walked (problem_of c)).visited) numbers

unfoldable pub is_so : Claim → Bool
is_so (counts q s v a b c) = counts_match (tally usual (bytes q) (bytes s)) v a b c
is_so (refuses q s k place) = refusal_matches (tally usual (bytes q) (bytes s)) k place
is_so (visits q s numbers) = visits_match (read_case usual (bytes q) (bytes s)) numbers

-- one `or` of three parts under four quantifiers, and further ones around it
unfoldable pub wide_q : String
wide_q = "choose\tT\t1\nrule\t(forall (?a ?b ?c ?d) (or (or (T ?a) (T ?b) (LT ?c ?d)) (and (or (SUC ?a ?b) (EQ ?c ?d) (T ?d)))))\n"

pub table : List Claim
table =
    counts sheet_q sheet_s 2 47 10 8
    ∷ counts sat_q sat_s 5 144 53 38
    ∷ counts one_q one_s 1 16 4 4
    -- a total kind: its two nodes and the `and` that joins them to the rule's one
    ∷ counts inj_q inj_s 4 54 15 11
    ∷ visits sat_q sat_s (0 ∷ 1 ∷ 2 ∷ 3 ∷ 4 ∷ [])
    ∷ visits wide_q "size\t2\n" (0 ∷ 1 ∷ 2 ∷ 3 ∷ 4 ∷ 5 ∷ 6 ∷ 7 ∷ [])
    -- over both limits, and counted all the same; an `or` has an action for each part
    ∷ counts wide_q "size\t64\n" 8 84177347 168038530 84152450
    -- a first part of more nodes than one; types, and a kind with types
    ∷ visits "choose\tT\t1\nrule\t(and (forall (?x) (or (T ?x))) (exists (?x) (T ?x)))\n" "size\t2\n" (0 ∷ 1 ∷ 2 ∷ 3 ∷ [])
    ∷ counts "type\tA\ntype\tB\nchoose\tR\t2\nrule\t(forall (?x:A ?y:B) (R ?x ?y))\n" "size\t3\nmember\tB\t2\nmember\tA\t1\nmember\tB\t0\n" 2 99 18 23
    ∷ counts "type\tDOOR\ntype\tGROUP\nchoose\tG\tFun\tDOOR\tGROUP\nrule\t(forall (?x) (EQ ?x ?x))\n" "size\t5\nmember\tDOOR\t3\nmember\tDOOR\t0\nmember\tGROUP\t4\nmember\tGROUP\t1\nmember\tGROUP\t3\n" 4 244 31 23
    -- with an `every` line; and where 23 would refuse it the bound is told as 0
    ∷ counts lost_q "size\t2\n" 2 49 14 31
    ∷ counts lost_q "size\t9\n" 2 588 56 0
    ∷ refuses "choose\tT\t1\n" "" 3 11
    ∷ refuses one_q "size\t65\n" 9 0
    ∷ []

pub table_is_so : all is_so table ≡ true
unfolding everything is_so counts_match visits_match refusal_matches table wide_q lost_q sheet_q sheet_s sat_q sat_s one_q one_s inj_q inj_s
table_is_so = refl
