-- Document 01, "Case drawer": its cases as two tables, with one theorem for each: the starred ones, and the others with what
-- "Plausible, but not so" rules out.
use Rattle.std.specs.Prelude.{◌≡◌, refl, ℕ, zero, suc, Bool, true, false, ◌&&◌, List, [], ◌∷◌, length, take, drop, eqb}
use Prim.Native.String.{String, ◌++◌ as ◌<>◌}
use Rattle.definitions.specs.Lists.{all, same, below}
use Rattle.definitions.specs.Sheet.Text.{bytes}
use Rattle.definitions.specs.Refusal.{Result, refused, accepted}
use Rattle.definitions.specs.Limits.{usual}
use Rattle.definitions.specs.Problem.Actions.{Action, action_kind, action_subject, action_row, action_choice}
use Rattle.definitions.specs.Reply.Outcome.{as_text, as_numbers, Sizes, sizes, action, plan, Plan, check_steps, picks_from_steps, build_steps, rule_part}
use Rattle.definitions.specs.Reply.Demand.{case_is_accepted}
use Rattle.definitions.specs.Reply.Desk.{desk}
use Rattle.definitions.specs.Table.Opened.{everything}

-- What a case says: the desk program's whole output; the sizes; the steps built from picks, their count, or the refusal; the
-- answer to checked steps, lent as numbers; the state, and the picks, that a check of steps leaves in a buffer; the state that
-- building leaves; the steps built from picks lent as words, or the refusal; the action of a number; the rule's part; that a
-- question and a site pass, or how they are refused.
pub data Claim : Type 0 where
  prints : (input output : String) → Claim
  sizes_are : (question site : String) → (n atoms actions bound : ℕ) → Claim
  builds : (question site picks : String) → (steps : List ℕ) → Claim
  builds_that_many : (question site picks : String) → (count : ℕ) → Claim
  build_refused : (question site picks : String) → (number place : ℕ) → Claim
  check_accepted : (question site : String) → (steps : List ℕ) → Claim
  check_refused : (question site : String) → (steps : List ℕ) → (number place : ℕ) → Claim
  leaves : (question site : String) → (steps before after : List ℕ) → Claim
  reads : (question site : String) → (steps before after : List ℕ) → Claim
  build_leaves : (question site picks : String) → (after : List ℕ) → Claim
  action_is : (question site : String) → (number : ℕ) → Action → Claim
  no_action : (question site : String) → (number : ℕ) → Claim
  builds_from_words : (question site : String) → (words steps : List ℕ) → Claim
  words_refused : (question site : String) → (words : List ℕ) → (number place : ℕ) → Claim
  rule_is : (question rule : String) → Claim
  passes : (question site : String) → Claim
  refuses : (question site : String) → (number place : ℕ) → Claim

unfoldable pub sizes_match : Result Sizes → ℕ → ℕ → ℕ → ℕ → Bool
sizes_match (refused k place) n a b c = false
sizes_match (accepted s) n a b c = eqb s.elements n && eqb s.atom_count a && eqb s.action_count b && eqb s.step_bound c

unfoldable pub refusal_matches : {A : Type 0} → Result A → ℕ → ℕ → Bool
refusal_matches (refused k place) number p = eqb k number && eqb place p
refusal_matches (accepted a) number p = false

unfoldable pub steps_match : Result Plan → List ℕ → Bool
steps_match (refused k place) steps = false
steps_match (accepted b) steps = same b.steps steps

unfoldable pub count_matches : Result Plan → ℕ → Bool
count_matches (refused k place) count = false
count_matches (accepted b) count = eqb (length b.steps) count

unfoldable pub answer_matches : Result ℕ → ℕ → Bool
answer_matches (refused k place) count = false
answer_matches (accepted c) count = eqb c count

-- an action in the paper's numbers
unfoldable pub details_of : Action → List ℕ
details_of a = action_kind a ∷ action_subject a ∷ action_row a ∷ action_choice a ∷ []

unfoldable pub action_matches : Result Action → Action → Bool
action_matches (refused k place) a = false
action_matches (accepted b) a = same (details_of b) (details_of a)

-- states of 8 words, steps of 64: long enough for the cases below
unfoldable pub state : List ℕ
state = 0 ∷ 0 ∷ 0 ∷ 0 ∷ 0 ∷ 0 ∷ 0 ∷ 0 ∷ []

unfoldable pub sixty_four : List ℕ
sixty_four = below 64

unfoldable pub is_so : Claim → Bool
is_so (prints input output) = same (desk (bytes input)) (bytes output)
is_so (sizes_are q s n a b c) = sizes_match (sizes usual (bytes q) (bytes s)) n a b c
is_so (builds q s picks steps) = steps_match (plan usual (bytes q) (bytes s) (as_text (bytes picks)) 8 64) steps
is_so (builds_that_many q s picks count) = count_matches (plan usual (bytes q) (bytes s) (as_text (bytes picks)) 8 64) count
is_so (build_refused q s picks k place) = refusal_matches (plan usual (bytes q) (bytes s) (as_text (bytes picks)) 8 64) k place
is_so (check_accepted q s steps) = answer_matches (check_steps usual (bytes q) (bytes s) (as_numbers steps) state).answer (length steps)
is_so (check_refused q s steps k place) = refusal_matches (check_steps usual (bytes q) (bytes s) (as_numbers steps) state).answer k place
is_so (leaves q s steps before after) = same (check_steps usual (bytes q) (bytes s) (as_numbers steps) before).state after
is_so (reads q s steps before after) = same (picks_from_steps usual (bytes q) (bytes s) (as_numbers steps) before state).picks after
is_so (build_leaves q s picks after) = same (take (length after) (build_steps usual (bytes q) (bytes s) (as_text (bytes picks)) state sixty_four).state) after
is_so (action_is q s k a) = action_matches (action usual (bytes q) (bytes s) k) a
is_so (no_action q s k) = refusal_matches (action usual (bytes q) (bytes s) k) 13 k
is_so (builds_from_words q s words steps) = steps_match (plan usual (bytes q) (bytes s) (as_numbers words) 8 64) steps
is_so (words_refused q s words k place) = refusal_matches (plan usual (bytes q) (bytes s) (as_numbers words) 8 64) k place
is_so (rule_is q rule) = same (take (rule_part (bytes q)).len (drop (rule_part (bytes q)).start (bytes q))) (bytes rule)
is_so (passes q s) = case_is_accepted usual (bytes q) (bytes s)
is_so (refuses q s k place) = refusal_matches (sizes usual (bytes q) (bytes s)) k place

-- opens what `is_so` uses
unfoldable pub claims : Unit {0}
unfolding sizes_match refusal_matches steps_match count_matches answer_matches details_of action_matches state sixty_four
claims = tt

-- the sheet of "The desk program"; SAT, document 000's sentence with its three clauses; ONE; Inj
unfoldable pub repeat : ℕ → String → String
repeat zero s = ""
repeat (suc k) s = s <> repeat k s

unfoldable pub sheet_q : String
sheet_q = "rel\tD\t1\nchoose\tT\t1\nrule\t(forall (?y) (or (D ?y) (T ?y)))\n"

unfoldable pub sheet_s : String
sheet_s = "size\t2\nfact\tD\t0\n"

unfoldable pub sat_q : String
sat_q = "rel\tN\t2\nrel\tP\t2\nchoose\tT\t1\nrule\t(forall (?y) (exists (?x) (or (and (P ?x ?y) (T ?x)) (and (N ?x ?y) (not (T ?x))))))\n"

unfoldable pub sat_s : String
sat_s = "size\t3\nfact\tN\t1\t0\nfact\tN\t0\t1\nfact\tN\t2\t1\nfact\tN\t0\t2\nfact\tP\t0\t0\nfact\tP\t2\t0\nfact\tP\t1\t2\n"

unfoldable pub one_q : String
one_q = "choose\tT\t1\nrule\t(forall (?y) (T ?y))\n"

unfoldable pub one_s : String
one_s = "size\t1\n"

unfoldable pub inj_q : String
inj_q = "choose\tF\tInj\nrule\t(forall (?x) (EQ ?x ?x))\n"

unfoldable pub inj_s : String
inj_s = "size\t2\n"

unfoldable pub pair_q : String
pair_q = "choose\tF\t2\nrule\t(exists (?x ?y) (and (F ?x ?y) (LT ?x ?y)))\n"

-- the starred cases
pub starred : List Claim
starred =
    prints
    "rel\tD\t1\nchoose\tT\t1\nrule\t(forall (?y) (or (D ?y) (T ?y)))\nsize\t2\nfact\tD\t0\npick\tT\t1\n"
    "sizes\t2\t47\t10\t8\ncount\tT\t1\npick\tT\t1\nstep\t1\nstep\t2\nstep\t5\nstep\t8\nstep\t3\nstep\t4\nstep\t9\nok\t7\n"
    ∷ check_refused sheet_q sheet_s (1 ∷ 2 ∷ 5 ∷ 8 ∷ 3 ∷ 4 ∷ []) 15 6
    ∷ sizes_are sat_q sat_s 3 144 53 38
    ∷ builds_that_many sat_q sat_s "" 16
    ∷ builds_that_many sat_q sat_s "pick\tT\t0\npick\tT\t1\n" 16
    ∷ build_refused sat_q sat_s "pick\tT\t0\n" 17 0
    ∷ builds one_q one_s "pick\tT\t0\n" (0 ∷ 1 ∷ 2 ∷ 3 ∷ [])
    ∷ check_accepted one_q one_s (0 ∷ 1 ∷ 2 ∷ 3 ∷ [])
    ∷ build_refused one_q one_s "" 17 0
    ∷ check_refused one_q one_s (1 ∷ 0 ∷ []) 14 1
    ∷ check_refused one_q one_s (0 ∷ 0 ∷ []) 14 1
    ∷ check_refused one_q one_s [] 15 0
    ∷ check_refused one_q one_s (4 ∷ []) 13 0
    ∷ []

-- every starred case is so
pub starred_are_so : all is_so starred ≡ true
unfolding everything is_so claims starred sheet_q sheet_s sat_q sat_s one_q one_s
starred_are_so = refl

-- the cases without a star, what is "Plausible, but not so" where steps or sizes show it, and what lent buffers then hold
unfoldable pub forms_q : ℕ → String
forms_q k = "choose\tT\t1\nrule\t(forall (?x) " <> repeat k "(not " <> "(T ?x)" <> repeat k ")" <> ")\n"

pub others : List Claim
others =
    build_refused inj_q inj_s "pick\tF\t0\t0\npick\tF\t1\t0\n" 16 0
    ∷ build_refused inj_q inj_s "pick\tF\t0\t0\n" 17 0
    ∷ passes (forms_q 62) one_s
    ∷ refuses (forms_q 63) one_s 6 11
    ∷ passes one_q "size\t64\n"
    ∷ refuses one_q "size\t0\n" 9 0
    ∷ refuses one_q "size\t65\n" 9 0
    ∷ refuses "choose\tT\t1\nrule\t(forall (?a ?b ?c) (exists (?d ?e) (T ?e)))\n" one_s 6 11
    ∷ passes "choose\tT\t1\nrule\t(forall (?a ?b ?c) (exists (?d) (T ?d)))\n" one_s
    -- a set step after begin-proof; a set step leaves guess; a step after the goal
    ∷ check_refused sheet_q sheet_s (2 ∷ 1 ∷ []) 14 1
    ∷ check_accepted sheet_q sheet_s (0 ∷ 1 ∷ 2 ∷ 5 ∷ 8 ∷ 3 ∷ 4 ∷ 9 ∷ [])
    ∷ check_refused one_q one_s (0 ∷ 1 ∷ 2 ∷ 3 ∷ 0 ∷ []) 14 4
    -- row order, which none of the document's cases shows
    ∷ builds pair_q inj_s "pick\tF\t0\t1\n" (1 ∷ 4 ∷ 12 ∷ 8 ∷ 5 ∷ 15 ∷ [])
    ∷ check_accepted pair_q inj_s (1 ∷ 4 ∷ 12 ∷ 8 ∷ 5 ∷ 15 ∷ [])
    -- what is left in a buffer of two words: ONE has 16 atoms, of which 0, 3, 6, 8, 9, 11 and 14 are initially true, and after
    -- begin-proof 1 in place of 0
    ∷ leaves one_q one_s [] (7 ∷ 7 ∷ []) (19273 ∷ 7 ∷ [])
    ∷ leaves one_q one_s (1 ∷ 0 ∷ []) (7 ∷ 7 ∷ []) (19274 ∷ 7 ∷ [])
    ∷ leaves one_q one_s (1 ∷ 0 ∷ []) [] []
    ∷ reads sheet_q sheet_s (1 ∷ 2 ∷ 5 ∷ 8 ∷ 3 ∷ 4 ∷ 9 ∷ []) (7 ∷ 7 ∷ []) (2 ∷ 7 ∷ [])
    ∷ reads sheet_q sheet_s (1 ∷ 2 ∷ 5 ∷ 8 ∷ 3 ∷ 4 ∷ []) (7 ∷ 7 ∷ []) (7 ∷ 7 ∷ [])
    ∷ builds_from_words sheet_q sheet_s (2 ∷ 7 ∷ []) (1 ∷ 2 ∷ 5 ∷ 8 ∷ 3 ∷ 4 ∷ 9 ∷ [])
    ∷ words_refused sheet_q sheet_s [] 12 1
    ∷ words_refused sheet_q sheet_s (6 ∷ []) 10 0
    ∷ rule_is one_q "(forall (?y) (T ?y))"
    ∷ rule_is "choose\tT\t1\n" ""
    ∷ []

pub others_are_so : all is_so others ≡ true
unfolding everything is_so claims repeat others sheet_q sheet_s one_q one_s inj_q inj_s pair_q forms_q
others_are_so = refl
