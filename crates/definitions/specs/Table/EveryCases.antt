-- Cases of our own for an `every` line (document 02, job 12), as a table with one theorem for the whole.
use Rattle.std.specs.Prelude.{◌≡◌, refl, true, ◌&&◌, List, [], ◌∷◌}
use Prim.Native.String.{String, ◌++◌ as ◌<>◌}
use Rattle.definitions.specs.Lists.{all}
use Rattle.definitions.specs.Limits.{usual}
use Rattle.definitions.specs.Sheet.Text.{bytes}
use Rattle.definitions.specs.Refusal.{Result}
use Rattle.definitions.specs.Reply.Outcome.{as_text, Plan, plan}
use Rattle.definitions.specs.Problem.Actions.{set, round_end, mark_in, mark_out}
use Rattle.definitions.specs.Table.Opened.{everything}
use Rattle.definitions.specs.Table.Drawer
use Drawer.{Claim, count_matches, prints, sizes_are, builds, builds_that_many, build_refused, build_leaves, check_accepted, check_refused, leaves, reads, action_is, no_action, builds_from_words, words_refused, passes, refuses}

-- "Whichever cards L are lost, every lost one is in T"; "some card is in T or lost"; the first again, with its negation pushed inward; pairs of
-- cards; a function; a rule that does not speak of L; one without an `every` line
unfoldable pub lost_q : String
lost_q = "choose\tT\t1\nevery\tL\t1\nrule\t(forall (?x) (or (T ?x) (not (L ?x))))\n"

unfoldable pub some_q : String
some_q = "choose\tT\t1\nevery\tL\t1\nrule\t(exists (?x) (or (T ?x) (L ?x)))\n"

unfoldable pub not_q : String
not_q = "choose\tT\t1\nevery\tL\t1\nrule\t(not (exists (?x) (and (L ?x) (not (T ?x)))))\n"

unfoldable pub pair_q : String
pair_q = "choose\tT\t2\nevery\tL\t2\nrule\t(forall (?x ?y) (or (not (L ?x ?y)) (T ?x ?y)))\n"

unfoldable pub fun_q : String
fun_q = "rel\tD\t1\nchoose\tF\tFun\nchoose\tT\t1\nevery\tL\t1\nrule\t(forall (?x) (exists (?y) (and (F ?x ?y) (or (T ?y) (not (L ?y)) (D ?x)))))\n"

unfoldable pub unused_q : String
unused_q = "choose\tT\t1\nevery\tL\t1\nrule\t(forall (?x) (T ?x))\n"

unfoldable pub plain_q : String
plain_q = "choose\tT\t1\nrule\t(forall (?x) (T ?x))\n"

unfoldable pub rule_l : String
rule_l = "rule\t(forall (?x) (L ?x))\n"

unfoldable pub one : String
one = "size\t1\n"

unfoldable pub two : String
two = "size\t2\n"

unfoldable pub three : String
three = "size\t3\n"

unfoldable pub rounds : List Claim
rounds =
    -- one tuple: two rounds. Tuples, not-tuples and marks behind the nodes; round-end in the place of prove-goal, a mark-in and a mark-out behind it
    sizes_are lost_q one 1 20 8 10
    ∷ action_is lost_q one 0 (set 5 0)
    ∷ action_is lost_q one 5 round_end
    ∷ action_is lost_q one 6 (mark_in 6 0)
    ∷ builds lost_q one "pick\tT\t0\n" (0 ∷ 1 ∷ 3 ∷ 2 ∷ 5 ∷ 6 ∷ 3 ∷ 2 ∷ 5 ∷ 7 ∷ [])
    ∷ build_leaves lost_q one "pick\tT\t0\n" (273228 ∷ [])
    ∷ build_refused lost_q one "" 17 0
    -- two tuples: the rounds of no tuple, of tuple 0, of tuple 1, of both; the marks between them count in binary, tuple 0 least significant
    ∷ sizes_are lost_q two 2 49 14 31
    ∷ action_is lost_q two 9 round_end
    ∷ action_is lost_q two 10 (mark_in 6 0)
    ∷ action_is lost_q two 11 (mark_in 6 1)
    ∷ action_is lost_q two 12 (mark_out 6 0)
    ∷ action_is lost_q two 13 (mark_out 6 1)
    ∷ no_action lost_q two 14
    ∷ builds lost_q two "pick\tT\t1\npick\tT\t0\n" (0 ∷ 1 ∷ 2 ∷ 5 ∷ 7 ∷ 3 ∷ 4 ∷ 9 ∷ 10 ∷ 5 ∷ 7 ∷ 3 ∷ 4 ∷ 9 ∷ 12 ∷ 11 ∷ 5 ∷ 7 ∷ 3 ∷ 4 ∷ 9 ∷ 10 ∷ 5 ∷ 7 ∷ 3 ∷ 4 ∷ 9 ∷ 12 ∷ 13 ∷ [])
    ∷ build_leaves lost_q two "pick\tT\t0\npick\tT\t1\n" (105670398874444 ∷ [])
    ∷ build_refused lost_q two "pick\tT\t0\n" 17 0
    -- checked: the built steps; each with a step left out, twice, or too early; a round's nodes must be proved again; the goal is there only past the last tuple
    ∷ check_accepted lost_q two (0 ∷ 1 ∷ 2 ∷ 5 ∷ 7 ∷ 3 ∷ 4 ∷ 9 ∷ 10 ∷ 5 ∷ 7 ∷ 3 ∷ 4 ∷ 9 ∷ 12 ∷ 11 ∷ 5 ∷ 7 ∷ 3 ∷ 4 ∷ 9 ∷ 10 ∷ 5 ∷ 7 ∷ 3 ∷ 4 ∷ 9 ∷ 12 ∷ 13 ∷ [])
    ∷ reads lost_q two (0 ∷ 1 ∷ 2 ∷ 5 ∷ 7 ∷ 3 ∷ 4 ∷ 9 ∷ 10 ∷ 5 ∷ 7 ∷ 3 ∷ 4 ∷ 9 ∷ 12 ∷ 11 ∷ 5 ∷ 7 ∷ 3 ∷ 4 ∷ 9 ∷ 10 ∷ 5 ∷ 7 ∷ 3 ∷ 4 ∷ 9 ∷ 12 ∷ 13 ∷ []) (7 ∷ 7 ∷ []) (3 ∷ 7 ∷ [])
    ∷ check_refused lost_q two (0 ∷ 1 ∷ 2 ∷ 5 ∷ 7 ∷ 3 ∷ 4 ∷ 9 ∷ 10 ∷ 5 ∷ 7 ∷ 3 ∷ 4 ∷ 9 ∷ 12 ∷ 11 ∷ 5 ∷ 7 ∷ 3 ∷ 4 ∷ 9 ∷ 10 ∷ 5 ∷ 7 ∷ 3 ∷ 4 ∷ 9 ∷ 12 ∷ []) 15 28
    ∷ check_refused lost_q two (0 ∷ 1 ∷ 2 ∷ 5 ∷ 7 ∷ 3 ∷ 4 ∷ 9 ∷ []) 15 8
    ∷ leaves lost_q two (0 ∷ 1 ∷ 2 ∷ 5 ∷ 7 ∷ 3 ∷ 4 ∷ 9 ∷ []) (7 ∷ 7 ∷ []) (246407887229768 ∷ 7 ∷ [])
    ∷ check_refused lost_q two (0 ∷ 1 ∷ 2 ∷ 5 ∷ 7 ∷ 3 ∷ 4 ∷ 9 ∷ 10 ∷ []) 15 9
    ∷ leaves lost_q two (0 ∷ 1 ∷ 2 ∷ 5 ∷ 7 ∷ 3 ∷ 4 ∷ 9 ∷ 10 ∷ []) (7 ∷ 7 ∷ []) (79282119807818 ∷ 7 ∷ [])
    ∷ leaves lost_q two (0 ∷ 1 ∷ 2 ∷ 5 ∷ 7 ∷ 3 ∷ 4 ∷ 9 ∷ 10 ∷ 5 ∷ 7 ∷ 3 ∷ 4 ∷ 9 ∷ 12 ∷ 11 ∷ []) (7 ∷ 7 ∷ []) (52893840741194 ∷ 7 ∷ [])
    ∷ check_refused lost_q two (0 ∷ 1 ∷ 2 ∷ 5 ∷ 7 ∷ 3 ∷ 4 ∷ 9 ∷ 9 ∷ []) 14 8
    ∷ check_refused lost_q two (0 ∷ 1 ∷ 2 ∷ 5 ∷ 7 ∷ 3 ∷ 4 ∷ 9 ∷ 4 ∷ []) 14 8
    ∷ check_refused lost_q two (0 ∷ 1 ∷ 2 ∷ 5 ∷ 7 ∷ 3 ∷ 4 ∷ 9 ∷ 10 ∷ 9 ∷ []) 14 9
    ∷ check_refused lost_q two (0 ∷ 1 ∷ 2 ∷ 5 ∷ 7 ∷ 3 ∷ 4 ∷ 9 ∷ 11 ∷ []) 14 8
    ∷ check_refused lost_q two (0 ∷ 1 ∷ 2 ∷ 5 ∷ 7 ∷ 3 ∷ 4 ∷ 9 ∷ 12 ∷ []) 14 8
    ∷ check_refused lost_q two (0 ∷ 1 ∷ 2 ∷ 5 ∷ 7 ∷ 3 ∷ 4 ∷ 9 ∷ 14 ∷ []) 13 8
    ∷ check_refused lost_q two (0 ∷ 1 ∷ 2 ∷ 5 ∷ 7 ∷ 3 ∷ 4 ∷ 10 ∷ 5 ∷ 7 ∷ 3 ∷ 4 ∷ 9 ∷ 12 ∷ 11 ∷ 5 ∷ 7 ∷ 3 ∷ 4 ∷ 9 ∷ 10 ∷ 5 ∷ 7 ∷ 3 ∷ 4 ∷ 9 ∷ 12 ∷ 13 ∷ []) 14 7
    ∷ check_refused lost_q two (0 ∷ 1 ∷ 2 ∷ 5 ∷ 7 ∷ 3 ∷ 4 ∷ 9 ∷ 10 ∷ 5 ∷ 7 ∷ 3 ∷ 4 ∷ 9 ∷ 12 ∷ 11 ∷ 5 ∷ 7 ∷ 3 ∷ 4 ∷ 9 ∷ 10 ∷ 5 ∷ 7 ∷ 3 ∷ 4 ∷ 9 ∷ 12 ∷ 13 ∷ 9 ∷ []) 14 29
    ∷ check_refused lost_q two (0 ∷ 1 ∷ 0 ∷ []) 14 2
    ∷ check_refused lost_q two (10 ∷ []) 14 0
    -- picks are read from set actions alone; lent words have no bit for the relation of an `every` line
    ∷ builds_from_words lost_q two (3 ∷ []) (0 ∷ 1 ∷ 2 ∷ 5 ∷ 7 ∷ 3 ∷ 4 ∷ 9 ∷ 10 ∷ 5 ∷ 7 ∷ 3 ∷ 4 ∷ 9 ∷ 12 ∷ 11 ∷ 5 ∷ 7 ∷ 3 ∷ 4 ∷ 9 ∷ 10 ∷ 5 ∷ 7 ∷ 3 ∷ 4 ∷ 9 ∷ 12 ∷ 13 ∷ [])
    ∷ words_refused lost_q two (7 ∷ []) 10 0
    ∷ words_refused lost_q two (1 ∷ []) 17 0
    -- the rule is true where it is so for every value: a rule that is true for some values is not
    ∷ build_refused some_q two "" 17 0
    ∷ builds_that_many some_q two "pick\tT\t1\n" 22
    ∷ builds_that_many not_q two "pick\tT\t1\npick\tT\t0\n" 29
    ∷ build_refused not_q two "pick\tT\t1\n" 17 0
    ∷ builds_that_many unused_q two "pick\tT\t1\npick\tT\t0\n" 21
    ∷ build_refused unused_q two "pick\tT\t1\n" 17 0
    -- eight tuples, and nine; pairs; a function kind, whose totality is asked once for each value
    ∷ sizes_are lost_q "size\t8\n" 8 475 50 6409
    ∷ refuses lost_q "size\t9\n" 23 0
    ∷ sizes_are pair_q two 2 65 28 245
    ∷ refuses pair_q three 23 0
    ∷ sizes_are fun_q two 2 76 41 85
    ∷ build_refused fun_q (two <> "fact\tD\t0\n") "pick\tT\t1\npick\tF\t0\t1\n" 12 85
    ∷ build_refused fun_q (two <> "fact\tD\t0\n") "pick\tT\t0\npick\tF\t0\t1\npick\tF\t1\t1\n" 12 85
    ∷ build_refused fun_q two "pick\tF\t0\t1\npick\tF\t0\t0\n" 12 85
    -- 23 after 11, and after the third input; a case without an `every` line is as large as it likes
    ∷ refuses ("choose\tT\t3\nevery\tL\t2\n" <> "rule\t(forall (?a ?b ?c ?d) (T ?a ?b ?c))\n") "size\t64\n" 11 0
    ∷ refuses ("choose\tT\t1\nevery\tL\t2\n" <> "rule\t(forall (?a) (T ?a))\n") "size\t9\n" 23 0
    ∷ refuses ("choose\tT\t1\nevery\tL\t1\n" <> "rule\t(forall (?a ?b ?c ?d) (implies (and (T ?a) (T ?b) (T ?c)) (T ?d)))\n") "size\t8\n" 23 0
    ∷ passes ("choose\tT\t1\nevery\tL\t1\n" <> "rule\t(forall (?a ?b ?c ?d) (T ?d))\n") "size\t6\n"
    ∷ build_refused lost_q "size\t9\n" "pick\tT\t9\n" 9 0
    ∷ build_refused lost_q "size\t9\n" "pick\tT\t1\n" 23 0
    ∷ check_refused lost_q "size\t9\n" (0 ∷ []) 23 0
    ∷ passes plain_q "size\t9\n"
    -- an `every` line: 2, 3, 4
    ∷ refuses ("choose\tT\t1\n" <> "every\tL\t0\n" <> rule_l) one 2 11
    ∷ refuses ("choose\tT\t1\n" <> "every\tL\t3\n" <> rule_l) one 2 11
    ∷ refuses ("choose\tT\t1\n" <> "every\tL\t4\n" <> rule_l) one 2 11
    ∷ refuses ("choose\tT\t1\n" <> "every\tL\t01\n" <> rule_l) one 2 11
    ∷ refuses ("choose\tT\t1\n" <> "every\tL\tFun\n" <> rule_l) one 2 11
    ∷ refuses ("choose\tT\t1\n" <> "every\tL\t\n" <> rule_l) one 2 11
    ∷ refuses ("choose\tT\t1\n" <> "every\tL\t1\t1\n" <> rule_l) one 2 11
    ∷ refuses ("choose\tT\t1\n" <> "every\tL\n" <> rule_l) one 2 11
    ∷ refuses ("choose\tT\t1\n" <> "every\n" <> rule_l) one 2 11
    ∷ refuses ("every\tL\t1\n" <> "choose\tT\t1\n" <> rule_l) one 3 0
    ∷ refuses ("every\tL\t3\n" <> "choose\tT\t1\n" <> rule_l) one 2 0
    ∷ refuses ("rel\tD\t1\n" <> "every\td\t1\n" <> rule_l) one 3 8
    ∷ refuses ("type\tA\n" <> "every\tL\t1\n") one 3 7
    ∷ refuses ("choose\tT\t1\n" <> "every\tL\t1\n" <> "every\tM\t1\n" <> rule_l) one 3 21
    ∷ refuses ("choose\tT\t1\n" <> "every\tL\t1\n" <> "every\tl\t1\n" <> rule_l) one 3 21
    ∷ refuses ("choose\tT\t1\n" <> "every\tL\t1\n" <> "choose\tU\t1\n" <> rule_l) one 3 21
    ∷ refuses ("choose\tT\t1\n" <> "every\tL\t1\n" <> "choose\tL\t1\n" <> rule_l) one 3 21
    ∷ refuses ("choose\tT\t1\n" <> "every\tL\t1\n" <> "rel\tU\t1\n" <> rule_l) one 3 21
    ∷ refuses ("choose\tT\t1\n" <> "every\tL\t1\n" <> "type\tU\n" <> rule_l) one 3 21
    ∷ refuses (plain_q <> "every\tL\t1\n") one 3 37
    ∷ refuses ("choose\tT\t1\n" <> "every\tT\t1\n" <> rule_l) one 4 11
    ∷ refuses ("rel\tL\t2\n" <> "choose\tT\t1\n" <> "every\tL\t1\n" <> rule_l) one 4 19
    ∷ refuses ("choose\tT\t1\n" <> "every\tEQ\t2\n" <> rule_l) one 4 11
    ∷ refuses ("choose\tT\t1\n" <> "every\tl\t1\n" <> rule_l) one 4 11
    ∷ refuses ("choose\tT\t1\n" <> "every\t\t1\n" <> rule_l) one 4 11
    ∷ refuses ("choose\tT\t1\n" <> "every\tABCDEFGHIJ_12\t1\n" <> rule_l) one 4 11
    ∷ passes ("type\tL\n" <> "choose\tT\t1\n" <> "every\tL\t1\n" <> rule_l) (one <> "member\tL\t0\n")
    ∷ passes ("choose\tA\t1\nchoose\tB\t1\nchoose\tC\t1\nchoose\tD\t1\n" <> "every\tL\t1\n" <> rule_l) one
    ∷ refuses ("choose\tT\t1\n" <> "every\tL\t1\n") one 3 21
    -- its literals are of its arity, after the line; no fact, no pick has its name
    ∷ refuses ("choose\tT\t1\n" <> "every\tL\t2\n" <> rule_l) one 7 21
    ∷ refuses ("choose\tT\t1\n" <> rule_l) one 7 11
    ∷ refuses lost_q (one <> "fact\tL\t0\n") 7 7
    ∷ build_refused lost_q one "pick\tL\t0\n" 7 0
    ∷ build_refused lost_q one "pick\tL\tx\n" 2 0
    ∷ build_refused lost_q one "pick\tL\tX\n" 7 0
    -- another sheet's record: well formed 3, else 2; in the site, in picks, in steps
    ∷ refuses lost_q (one <> "every\tM\t1\n") 3 7
    ∷ refuses lost_q (one <> "every\tM\t3\n") 2 7
    ∷ build_refused lost_q one "every\tM\t1\n" 3 0
    ∷ build_refused lost_q one "every\tM\tFun\n" 2 0
    -- at the desk: `count` and `pick` lines say nothing of it; a bound over its own step limit, 65,536, is 23, and one over its room for steps 12
    ∷ prints (lost_q <> one <> "pick\tT\t0\n") "sizes\t1\t20\t8\t10\ncount\tT\t1\npick\tT\t0\nstep\t0\nstep\t1\nstep\t3\nstep\t2\nstep\t5\nstep\t6\nstep\t3\nstep\t2\nstep\t5\nstep\t7\nok\t10\n"
    ∷ prints (lost_q <> one <> "step\t0\nstep\t1\nstep\t2\nstep\t3\nstep\t4\n") "no\t14\t2\n"
    ∷ prints (lost_q <> "size\t9\n") "no\t23\t0\n"
    ∷ prints (pair_q <> three <> "step\t0\n") "no\t23\t0\n"
    ∷ prints ("choose\tT\t1\nevery\tL\t1\n" <> "rule\t(forall (?a ?b ?c) (or (T ?a) (LT ?b ?c)))\n" <> "size\t8\n") "no\t23\t0\n"
    ∷ prints ("choose\tT\t1\nevery\tL\t1\n" <> "rule\t(forall (?a ?b ?c) (or (T ?a) (LT ?b ?c)))\n" <> "size\t7\n") "no\t23\t0\n"
    ∷ sizes_are ("choose\tT\t1\nevery\tL\t1\n" <> "rule\t(forall (?a ?b ?c) (or (T ?a) (LT ?b ?c)))\n") "size\t8\n" 8 1555 1634 282889
    ∷ prints ("choose\tT\t1\nevery\tL\t1\n" <> "rule\t(forall (?a ?b ?c) (or (T ?a) (LT ?b ?c)))\n" <> "size\t5\n") "no\t12\t9158\n"
    ∷ []

pub rounds_are_so : all Drawer.is_so rounds ≡ true
unfolding everything Drawer.is_so Drawer.claims rounds lost_q some_q not_q pair_q fun_q unused_q plain_q rule_l one two three
rounds_are_so = refl

-- some of more than 64 steps, by their count
unfoldable pub long : String → String → String → Result Plan
long question site picks = plan usual (bytes question) (bytes site) (as_text (bytes picks)) 64 4096

pub long_are_so :
    (count_matches (long pair_q two "pick\tT\t0\t0\npick\tT\t0\t1\npick\tT\t1\t0\npick\tT\t1\t1\n") 211 && count_matches (long fun_q (two <> "fact\tD\t0\n") "pick\tT\t1\npick\tF\t0\t1\npick\tF\t1\t1\n") 72) ≡ true
unfolding everything Drawer.count_matches long lost_q some_q not_q pair_q fun_q unused_q plain_q rule_l one two three
long_are_so = refl
