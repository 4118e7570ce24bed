-- Cases of our own, each for a clause that no case of the document's drawer decides, and one theorem for the whole table. (Where
-- exactly the limits of 1,048,576 and 16,384 bytes, of 1,048,576 atoms, 4,194,304 actions and 8,192 steps lie is left to programs.)
use Rattle.std.specs.Prelude.{◌≡◌, refl, ℕ, true, List, [], ◌∷◌}
use Prim.Native.String.{String, ◌++◌ as ◌<>◌}
use Rattle.definitions.specs.Lists.{all}
use Rattle.definitions.specs.Table.Opened.{everything}
use Rattle.definitions.specs.Problem.Actions.{set, begin_proof, prove_and, prove_or, prove_exists, prove_forall, prove_goal}
use Rattle.definitions.specs.Refusal.{refused, accepted}
use Rattle.definitions.specs.Reply.Outcome.{reply_number, reply_place, refusal_place, told}
use Rattle.definitions.specs.Table.Drawer

-- a question with one `choose` line of a kind, and a rule that is true everywhere; one with that rule
unfoldable pub chosen_q : String → String
chosen_q kind = "choose\tF\t" <> kind <> "\nrule\t(forall (?x) (EQ ?x ?x))\n"

unfoldable pub rule_q : String → String
rule_q rule = "choose\tT\t1\nrule\t" <> rule <> "\n"

-- k times `not` around a formula
unfoldable pub nots : ℕ → String → String
nots k f = Drawer.repeat k "(not " <> f <> Drawer.repeat k ")"

-- k times `and` around a formula
unfoldable pub ands : ℕ → String → String
ands k f = Drawer.repeat k "(and " <> f <> Drawer.repeat k ")"

-- questions and whole inputs near a limit, one `and` for an atom or an action
unfoldable pub atoms_q : ℕ → String
atoms_q k = "rel\tR\t3\nrel\tQ\t3\nrel\tP\t2\nrel\tO\t2\nrel\tN\t1\nrel\tM\t1\n" <> rule_q (ands k "(forall (?a) (and (forall (?b) (and (P ?a ?b)))))")

unfoldable pub actions_q : ℕ → String
actions_q k = "choose\tT\t1\nchoose\tU\t1\nchoose\tV\t1\nchoose\tW\t1\nrule\t" <> ands k ("(forall (?a ?b) " <> ands 24 ("(forall (?c) (or" <> Drawer.repeat 6 " (T ?a) (U ?b) (V ?c)" <> "))") <> ")") <> "\n"

unfoldable pub desk_atoms : ℕ → String
desk_atoms k =
    "rel\tR\t3\nrel\tP\t2\nrel\tO\t2\nrel\tL\t2\nrel\tA\t1\nrel\tB\t1\nrel\tC\t1\nrel\tE\t1\n"
    <> rule_q (ands k ("(forall (?a ?b) " <> ands 2 ("(forall (?c) " <> ands 12 "(R ?a ?b ?c)" <> ")") <> ")")) <> "size\t16\n"

unfoldable pub desk_actions : ℕ → String
desk_actions k = rule_q (ands k ("(forall (?a ?b) " <> ands 9 ("(forall (?c) " <> ands 2 "(forall (?d) (or (LT ?a ?b) (LT ?c ?d) (LT ?a ?c) (LT ?b ?d) (T ?d)))" <> ")") <> ")")) <> "size\t12\n"

unfoldable pub desk_bound : ℕ → String
desk_bound k = "choose\tT\t1\nchoose\tU\t1\nchoose\tV\t3\nchoose\tW\t3\nrule\t" <> ands k ("(forall (?a) " <> ands 3 ("(forall (?b) " <> ands 5 "(V ?a ?b ?b)" <> ")") <> ")") <> "\nsize\t15\n"

unfoldable pub own : List Drawer.Claim
own =
    -- numbers: at most 7 digits, without leading zeros
    Drawer.prints (Drawer.one_q <> "size\t1\nstep\t1000000\n") "no\t13\t0\n"
    ∷ Drawer.prints (Drawer.one_q <> "size\t1\nstep\t10000000\n") "no\t2\t0\n"
    ∷ Drawer.refuses Drawer.one_q "size\t01\n" 2 0
    -- names of 12 bytes, variables of 8
    ∷ Drawer.passes ("rel\tABCDEFGHIJ_1\t1\n" <> Drawer.one_q) Drawer.one_s
    ∷ Drawer.refuses ("rel\tABCDEFGHIJ_12\t1\n" <> Drawer.one_q) Drawer.one_s 4 0
    ∷ Drawer.passes (rule_q "(forall (?abcdef_) (T ?abcdef_))") Drawer.one_s
    ∷ Drawer.refuses (rule_q "(forall (?abcdef_1) (T ?abcdef_1))") Drawer.one_s 5 11
    -- too many lines; a name declared before, or built in; another sheet's record, of its form or not
    ∷ Drawer.passes ("rel\tA\t1\nrel\tB\t1\nrel\tC\t1\nrel\tD\t1\nrel\tE\t1\nrel\tF\t1\nrel\tG\t1\nrel\tH\t3\n" <> Drawer.one_q) Drawer.one_s
    ∷ Drawer.refuses ("rel\tA\t1\nrel\tB\t1\nrel\tC\t1\nrel\tD\t1\nrel\tE\t1\nrel\tF\t1\nrel\tG\t1\nrel\tH\t3\nrel\tI\t1\n" <> Drawer.one_q) Drawer.one_s 3 64
    ∷ Drawer.passes ("choose\tA\t1\nchoose\tB\t1\nchoose\tC\tPInj\n" <> Drawer.one_q) Drawer.one_s
    ∷ Drawer.refuses ("choose\tA\t1\nchoose\tB\t1\nchoose\tC\tPInj\nchoose\tD\t1\n" <> Drawer.one_q) Drawer.one_s 3 47
    ∷ Drawer.refuses ("rel\tD\t1\nrel\tD\t2\n" <> Drawer.one_q) Drawer.one_s 4 8
    ∷ Drawer.refuses ("rel\tT\t2\n" <> Drawer.one_q) Drawer.one_s 4 8
    ∷ Drawer.refuses ("rel\tMAX\t1\n" <> Drawer.one_q) Drawer.one_s 4 0
    ∷ Drawer.refuses "step\t1\n" "" 3 0
    ∷ Drawer.refuses "step\tone\n" "" 2 0
    ∷ Drawer.refuses "rule\t(\n" "" 3 0
    ∷ Drawer.refuses "choose\tT\t1\n" "" 3 11
    ∷ Drawer.refuses Drawer.one_q "" 3 0
    -- brackets, lists, forms, scope
    ∷ Drawer.refuses (rule_q ("(forall (?x) " <> nots 126 "(T ?x)" <> ")")) Drawer.one_s 6 11
    ∷ Drawer.refuses (rule_q ("(forall (?x) " <> nots 127 "(T ?x)" <> ")")) Drawer.one_s 5 11
    ∷ Drawer.passes (rule_q "(forall (?a ?b ?c ?d) (T ?a))") Drawer.one_s
    ∷ Drawer.refuses (rule_q "(forall (?a ?b ?c ?d ?e) (T ?a))") Drawer.one_s 5 11
    ∷ Drawer.refuses (rule_q "(forall (?x)  (T ?x))") Drawer.one_s 5 11
    ∷ Drawer.passes (rule_q ("(forall (?x) " <> nots 60 "(implies (T ?x) (T ?x))" <> ")")) Drawer.one_s
    ∷ Drawer.passes ("choose\tF\tFun\nrule\t(forall (?x) " <> nots 58 "(EQ ?x ?x)" <> ")\n") Drawer.one_s
    ∷ Drawer.refuses ("choose\tF\tFun\nrule\t(forall (?x) " <> nots 59 "(EQ ?x ?x)" <> ")\n") Drawer.one_s 6 13
    ∷ Drawer.refuses (rule_q "(forall (?x) (T ?x ?x))") Drawer.one_s 7 11
    ∷ Drawer.refuses (rule_q "(forall (?x) (S ?x))") Drawer.one_s 7 11
    ∷ Drawer.refuses (rule_q "(forall (?x) (T ?y))") Drawer.one_s 8 11
    ∷ Drawer.refuses (rule_q "(forall (?x ?x) (T ?x))") Drawer.one_s 8 11
    ∷ Drawer.refuses (rule_q "(forall (?x) (exists (?x) (T ?x)))") Drawer.one_s 8 11
    -- elements and tuples
    ∷ Drawer.refuses Drawer.sheet_q "size\t2\nfact\tD\t2\n" 9 7
    ∷ Drawer.refuses Drawer.sheet_q "size\t2\nfact\tT\t0\n" 7 7
    ∷ Drawer.refuses Drawer.sheet_q "size\t2\nfact\tD\t0\nfact\tD\t0\n" 10 16
    ∷ Drawer.build_refused Drawer.sheet_q Drawer.sheet_s "pick\tT\t1\npick\tD\t0\n" 7 9
    -- built-in relations; `implies`; negation pushed inward
    ∷ Drawer.builds (rule_q "(exists (?x ?y) (and (SUC ?x ?y) (LT ?x ?y) (ZERO ?x) (MAX ?y)))") "size\t2\n" "" (2 ∷ 10 ∷ 6 ∷ 3 ∷ 13 ∷ [])
    ∷ Drawer.builds_that_many (rule_q "(forall (?x) (implies (T ?x) (ZERO ?x)))") "size\t2\n" "" 6
    ∷ Drawer.sizes_are (rule_q "(forall (?x) (not (implies (T ?x) (ZERO ?x))))") "size\t2\n" 2 43 8 8
    ∷ Drawer.sizes_are (rule_q "(not (exists (?x) (and (T ?x) (ZERO ?x))))") "size\t2\n" 2 43 10 8
    ∷ Drawer.sizes_are (rule_q "(not (forall (?x) (or (T ?x) (ZERO ?x))))") "size\t2\n" 2 42 8 7
    ∷ Drawer.builds (rule_q "(forall (?x) (not (and (T ?x) (ZERO ?x))))") "size\t2\n" "pick\tT\t1\n" (1 ∷ 2 ∷ 5 ∷ 8 ∷ 3 ∷ 4 ∷ 9 ∷ [])
    ∷ Drawer.builds (rule_q "(exists (?x) (not (or (T ?x) (ZERO ?x))))") "size\t2\n" "pick\tT\t0\n" (0 ∷ 2 ∷ 6 ∷ 4 ∷ 7 ∷ [])
    ∷ Drawer.builds (rule_q "(exists (?x) (not (implies (T ?x) (ZERO ?x))))") "size\t2\n" "pick\tT\t1\n" (1 ∷ 2 ∷ 6 ∷ 4 ∷ 7 ∷ [])
    -- a `forall` that is true up to some elements only, and to none
    ∷ Drawer.builds_that_many (rule_q "(or (forall (?x) (ZERO ?x)) (exists (?x) (ZERO ?x)))") "size\t3\n" "" 5
    ∷ Drawer.builds_that_many (rule_q "(or (forall (?x) (MAX ?x)) (exists (?x) (ZERO ?x)))") "size\t3\n" "" 4
    -- the kinds: atoms, actions, bound; free atoms; 16 and 17
    ∷ Drawer.sizes_are Drawer.inj_q Drawer.inj_s 2 54 15 11
    ∷ Drawer.sizes_are (chosen_q "Fun") Drawer.inj_s 2 52 15 11
    ∷ Drawer.sizes_are (chosen_q "PInj") Drawer.inj_s 2 49 8 6
    ∷ Drawer.sizes_are (chosen_q "PFun") Drawer.inj_s 2 47 8 6
    ∷ Drawer.sizes_are (chosen_q "2") Drawer.inj_s 2 45 8 8
    ∷ Drawer.check_refused Drawer.inj_q Drawer.inj_s (1 ∷ 3 ∷ []) 14 1
    ∷ Drawer.check_refused Drawer.inj_q Drawer.inj_s (1 ∷ 0 ∷ []) 14 1
    ∷ Drawer.check_refused Drawer.inj_q Drawer.inj_s (1 ∷ 2 ∷ []) 15 2
    ∷ Drawer.check_refused (chosen_q "PFun") Drawer.inj_s (1 ∷ 3 ∷ 0 ∷ []) 14 2
    ∷ Drawer.build_refused (chosen_q "PInj") Drawer.inj_s "pick\tF\t0\t0\npick\tF\t1\t0\n" 16 0
    ∷ Drawer.build_refused (chosen_q "PFun") Drawer.inj_s "pick\tF\t0\t0\npick\tF\t0\t1\n" 16 0
    ∷ Drawer.builds_that_many (chosen_q "PFun") Drawer.inj_s "pick\tF\t0\t0\npick\tF\t1\t0\n" 6
    ∷ Drawer.builds_that_many (chosen_q "PInj") Drawer.inj_s "" 4
    ∷ Drawer.build_refused (chosen_q "Fun") Drawer.inj_s "pick\tF\t0\t0\n" 17 0
    ∷ Drawer.build_refused ("choose\tT\t1\n" <> chosen_q "PFun") Drawer.inj_s "pick\tF\t0\t0\npick\tF\t0\t1\n" 16 1
    -- `forall` goes element by element, to n−1; the actions of each node need proof
    ∷ Drawer.check_accepted Drawer.one_q "size\t3\n" (0 ∷ 1 ∷ 2 ∷ 3 ∷ 4 ∷ 5 ∷ 6 ∷ 7 ∷ [])
    ∷ Drawer.check_refused Drawer.one_q "size\t3\n" (0 ∷ 1 ∷ 2 ∷ 3 ∷ 4 ∷ 6 ∷ []) 14 5
    ∷ Drawer.check_refused Drawer.one_q "size\t3\n" (0 ∷ 3 ∷ 4 ∷ 7 ∷ []) 14 3
    ∷ Drawer.check_refused (rule_q "(forall (?x) (ZERO ?x))") Drawer.one_s (2 ∷ []) 14 0
    ∷ Drawer.check_refused (rule_q "(exists (?x) (ZERO ?x))") Drawer.one_s (2 ∷ []) 14 0
    ∷ Drawer.check_refused (rule_q "(exists (?x) (and (ZERO ?x)))") Drawer.one_s (3 ∷ []) 14 0
    ∷ Drawer.check_refused (rule_q "(exists (?x) (or (ZERO ?x)))") Drawer.one_s (3 ∷ []) 14 0
    -- two faults in one line: the lower number wins. `rel`, `choose`, `rule`, `size`, `fact`, `pick`, `step`
    ∷ Drawer.refuses "choose\tT\t1\nrel\tT\tx\n" "" 2 11
    ∷ Drawer.refuses "choose\tT\t1\nrel\tT\t1\n" "" 3 11
    ∷ Drawer.refuses "rel\t\t1\n" "" 4 0
    ∷ Drawer.refuses (Drawer.one_q <> "choose\tT\t9\n") "" 2 37
    ∷ Drawer.refuses (Drawer.one_q <> "choose\tT\t1\n") "" 3 37
    ∷ Drawer.refuses (Drawer.one_q <> "rule\t(\n") "" 3 37
    ∷ Drawer.refuses "rule\n" "" 2 0
    ∷ Drawer.refuses "choose\tT\t1\nrule\t\n" "" 5 11
    ∷ Drawer.refuses (rule_q ("(forall (?x) " <> nots 63 "(T ?x" <> ")")) "" 5 11
    ∷ Drawer.refuses (rule_q ("(forall (?x) " <> nots 63 "(S ?x)" <> ")")) "" 6 11
    ∷ Drawer.refuses (rule_q "(forall (?x) (S ?y))") "" 7 11
    ∷ Drawer.refuses Drawer.one_q "size\t1\nsize\tx\n" 2 7
    ∷ Drawer.refuses Drawer.one_q "size\t1\nsize\t65\n" 3 7
    ∷ Drawer.refuses Drawer.sheet_q "fact\tD\n" 2 0
    ∷ Drawer.refuses Drawer.sheet_q "fact\tS\t0\n" 3 0
    ∷ Drawer.refuses Drawer.sheet_q "size\t2\nfact\tS\t5\n" 7 7
    ∷ Drawer.refuses Drawer.sheet_q "size\t2\nfact\tD\t5\t5\n" 7 7
    ∷ Drawer.build_refused Drawer.sheet_q Drawer.sheet_s "pick\tS\tx\n" 2 0
    ∷ Drawer.build_refused Drawer.sheet_q Drawer.sheet_s "pick\tS\t9\n" 7 0
    ∷ Drawer.build_refused Drawer.sheet_q Drawer.sheet_s "pick\tT\t0\npick\tT\t2\n" 9 9
    ∷ Drawer.build_refused Drawer.sheet_q Drawer.sheet_s "pick\tT\t0\npick\tT\t0\n" 10 9
    -- every record of another sheet is 3, in each of the four sheets
    ∷ Drawer.refuses "size\t1\n" "" 3 0
    ∷ Drawer.refuses "fact\tA\t0\n" "" 3 0
    ∷ Drawer.refuses "pick\tA\t0\n" "" 3 0
    ∷ Drawer.refuses "step\t0\n" "" 3 0
    ∷ Drawer.refuses Drawer.one_q "size\t1\nrel\tA\t1\n" 3 7
    ∷ Drawer.refuses Drawer.one_q "size\t1\nchoose\tA\t1\n" 3 7
    ∷ Drawer.refuses Drawer.one_q "size\t1\nrule\t(\n" 3 7
    ∷ Drawer.refuses Drawer.one_q "size\t1\npick\tA\t0\n" 3 7
    ∷ Drawer.refuses Drawer.one_q "size\t1\nstep\t0\n" 3 7
    ∷ Drawer.build_refused Drawer.sheet_q Drawer.sheet_s "rel\tA\t1\n" 3 0
    ∷ Drawer.build_refused Drawer.sheet_q Drawer.sheet_s "choose\tA\t1\n" 3 0
    ∷ Drawer.build_refused Drawer.sheet_q Drawer.sheet_s "rule\t(\n" 3 0
    ∷ Drawer.build_refused Drawer.sheet_q Drawer.sheet_s "size\t1\n" 3 0
    ∷ Drawer.build_refused Drawer.sheet_q Drawer.sheet_s "fact\tA\t0\n" 3 0
    ∷ Drawer.build_refused Drawer.sheet_q Drawer.sheet_s "step\t0\n" 3 0
    ∷ Drawer.prints (Drawer.one_q <> "size\t1\nstep\t0\nrel\tA\t1\n") "no\t3\t7\n"
    ∷ Drawer.prints (Drawer.one_q <> "size\t1\nstep\t0\nchoose\tA\t1\n") "no\t3\t7\n"
    ∷ Drawer.prints (Drawer.one_q <> "size\t1\nstep\t0\nrule\t(\n") "no\t3\t7\n"
    ∷ Drawer.prints (Drawer.one_q <> "size\t1\nstep\t0\nsize\t1\n") "no\t3\t7\n"
    ∷ Drawer.prints (Drawer.one_q <> "size\t1\nstep\t0\nfact\tA\t0\n") "no\t3\t7\n"
    ∷ Drawer.prints (Drawer.one_q <> "size\t1\nstep\t0\npick\tA\t0\n") "no\t3\t7\n"
    -- 7 and 8 anywhere in a formula: in either part of `implies`, in a later part of `and` and `or`, under `not` and a quantifier
    ∷ Drawer.refuses (rule_q "(forall (?x) (implies (S ?x) (T ?x)))") Drawer.one_s 7 11
    ∷ Drawer.refuses (rule_q "(forall (?x) (implies (T ?x) (S ?x)))") Drawer.one_s 7 11
    ∷ Drawer.refuses (rule_q "(forall (?x) (and (T ?x) (S ?x)))") Drawer.one_s 7 11
    ∷ Drawer.refuses (rule_q "(forall (?x) (or (T ?x) (S ?x)))") Drawer.one_s 7 11
    ∷ Drawer.refuses (rule_q "(forall (?x) (not (S ?x)))") Drawer.one_s 7 11
    ∷ Drawer.refuses (rule_q "(forall (?x) (exists (?z) (S ?z)))") Drawer.one_s 7 11
    ∷ Drawer.refuses (rule_q "(forall (?x) (implies (T ?y) (T ?x)))") Drawer.one_s 8 11
    ∷ Drawer.refuses (rule_q "(forall (?x) (implies (T ?x) (T ?y)))") Drawer.one_s 8 11
    ∷ Drawer.refuses (rule_q "(forall (?x) (and (T ?x) (T ?y)))") Drawer.one_s 8 11
    ∷ Drawer.refuses (rule_q "(forall (?x) (or (T ?x) (T ?y)))") Drawer.one_s 8 11
    ∷ Drawer.refuses (rule_q "(forall (?x) (not (T ?y)))") Drawer.one_s 8 11
    ∷ Drawer.refuses (rule_q "(forall (?x) (exists (?z) (T ?y)))") Drawer.one_s 8 11
    ∷ Drawer.refuses (rule_q "(forall (?x) (EQ ?x ?y))") Drawer.one_s 8 11
    -- 6 counts both parts of `implies` and every part of `and` and `or`, forms and nesting
    ∷ Drawer.refuses (rule_q ("(forall (?x) (implies (T ?x) " <> nots 61 "(T ?x)" <> "))")) Drawer.one_s 6 11
    ∷ Drawer.refuses (rule_q ("(forall (?x) (implies " <> nots 61 "(T ?x)" <> " (T ?x)))")) Drawer.one_s 6 11
    ∷ Drawer.refuses (rule_q ("(forall (?x) (and (T ?x) " <> nots 61 "(T ?x)" <> "))")) Drawer.one_s 6 11
    ∷ Drawer.passes (rule_q ("(forall (?x) (or (T ?x) " <> nots 60 "(T ?x)" <> "))")) Drawer.one_s
    ∷ Drawer.refuses (rule_q "(exists (?a) (implies (exists (?b ?c ?d ?e) (T ?e)) (T ?a)))") Drawer.one_s 6 11
    ∷ Drawer.refuses (rule_q "(exists (?a) (implies (T ?a) (exists (?b ?c ?d ?e) (T ?e))))") Drawer.one_s 6 11
    ∷ Drawer.refuses (rule_q "(exists (?a) (or (T ?a) (exists (?b ?c ?d ?e) (T ?e))))") Drawer.one_s 6 11
    ∷ Drawer.refuses (rule_q "(exists (?a) (not (and (exists (?b ?c ?d ?e) (T ?e)) (T ?a))))") Drawer.one_s 6 11
    -- lines: the last one unended, an empty one, fields too many or too few, an unknown word, a byte above 127
    ∷ Drawer.refuses "choose\tT\t1\nrule\t(forall (?y) (T ?y))" "" 2 11
    ∷ Drawer.refuses "\nchoose\tT\t1\n" "" 2 0
    ∷ Drawer.refuses "choose\tT\n" "" 2 0
    ∷ Drawer.refuses "rel\tT\t1\t1\n" "" 2 0
    ∷ Drawer.refuses "rel\tT\t0\n" "" 2 0
    ∷ Drawer.refuses "rel\tT\t4\n" "" 2 0
    ∷ Drawer.refuses "Rel\tT\t1\n" "" 2 0
    ∷ Drawer.refuses "rel\tAé\t1\n" "" 4 0
    ∷ Drawer.refuses Drawer.one_q "size\t\n" 2 0
    ∷ Drawer.refuses Drawer.one_q "size\t+1\n" 2 0
    ∷ Drawer.passes ("choose\tF\tPFun\n" <> Drawer.one_q) Drawer.one_s
    ∷ Drawer.refuses ("choose\tF\tfun\n" <> Drawer.one_q) Drawer.one_s 2 0
    -- names and variables, their first and later bytes
    ∷ Drawer.refuses ("rel\tAa\t1\n" <> Drawer.one_q) Drawer.one_s 4 0
    ∷ Drawer.refuses ("rel\t1A\t1\n" <> Drawer.one_q) Drawer.one_s 4 0
    ∷ Drawer.passes ("rel\tAND\t1\n" <> Drawer.one_q) Drawer.one_s
    ∷ Drawer.refuses (rule_q "(forall (?1) (T ?1))") Drawer.one_s 5 11
    ∷ Drawer.refuses (rule_q "(forall (x) (T x))") Drawer.one_s 5 11
    ∷ Drawer.passes (rule_q "(forall (?x1) (T ?x1))") Drawer.one_s
    ∷ Drawer.passes (rule_q "(and (exists (?x) (T ?x)) (forall (?x) (T ?x)))") Drawer.one_s
    -- 7 by the number of variables, also where it is larger than any arity
    ∷ Drawer.refuses (rule_q "(forall (?x) (T ?x ?x ?x ?x))") Drawer.one_s 7 11
    -- the built-in relations at every pair of three elements: EQ, LT and SUC told apart from each other and from their converses
    ∷ Drawer.builds_that_many (rule_q "(forall (?x ?y) (implies (EQ ?x ?y) (not (LT ?x ?y))))") "size\t3\n" "" 23
    ∷ Drawer.build_refused (rule_q "(exists (?x ?y) (and (SUC ?x ?y) (LT ?y ?x)))") "size\t3\n" "" 17 0
    ∷ Drawer.build_refused (rule_q "(exists (?x ?y) (and (SUC ?x ?y) (ZERO ?y)))") "size\t3\n" "" 17 0
    ∷ Drawer.build_refused (rule_q "(exists (?x ?y) (and (ZERO ?x) (MAX ?y) (SUC ?x ?y)))") "size\t3\n" "" 17 0
    ∷ Drawer.build_refused (rule_q "(exists (?x ?y) (and (ZERO ?x) (MAX ?y) (EQ ?x ?y)))") "size\t3\n" "" 17 0
    ∷ Drawer.build_refused (rule_q "(exists (?x ?y) (and (LT ?x ?y) (LT ?y ?x)))") "size\t3\n" "" 17 0
    ∷ Drawer.builds_that_many (rule_q "(exists (?x ?y) (and (ZERO ?x) (MAX ?y) (LT ?x ?y)))") "size\t3\n" "" 5
    -- actions by number: each kind with its details, in the order of the numbers
    ∷ Drawer.action_is Drawer.pair_q Drawer.inj_s 2 (set 5 2)
    ∷ Drawer.action_is Drawer.pair_q Drawer.inj_s 4 begin_proof
    ∷ Drawer.action_is Drawer.pair_q Drawer.inj_s 6 (prove_exists 0 0 1)
    ∷ Drawer.action_is Drawer.pair_q Drawer.inj_s 9 (prove_exists 1 1 0)
    ∷ Drawer.action_is Drawer.pair_q Drawer.inj_s 13 (prove_and 2 2)
    ∷ Drawer.action_is Drawer.pair_q Drawer.inj_s 15 prove_goal
    ∷ Drawer.no_action Drawer.pair_q Drawer.inj_s 16
    ∷ Drawer.action_is Drawer.sheet_q Drawer.sheet_s 4 (prove_forall 0 0 1)
    ∷ Drawer.action_is Drawer.sheet_q Drawer.sheet_s 8 (prove_or 1 1 1)
    -- far more than 1,048,576 atoms
    ∷ Drawer.refuses (rule_q "(forall (?a ?b ?c ?d) (or (LT ?a ?b) (LT ?c ?d)))") "size\t64\n" 11 0
    -- the desk keeps the limits of document 01
    ∷ Drawer.prints (Drawer.one_q <> "size\t17\n") "no\t9\t0\n"
    ∷ Drawer.prints (rule_q "(forall (?a ?b ?c ?d) (or (LT ?a ?b) (LT ?c ?d)))" <> "size\t16\n") "no\t11\t0\n"
    ∷ Drawer.prints (Drawer.one_q <> "size\t17\nstep\t0\n") "no\t9\t0\n"
    -- 1,048,576 atoms and one more; 4,194,304 actions and one more
    ∷ Drawer.sizes_are (atoms_q 1) "size\t63\n" 63 1048576 8130 8130
    ∷ Drawer.refuses (atoms_q 2) "size\t63\n" 11 0
    ∷ Drawer.sizes_are (actions_q 2) "size\t60\n" 60 544385 4194304 522304
    ∷ Drawer.refuses (actions_q 3) "size\t60\n" 11 0
    -- 65,536 atoms and 131,072 actions at the desk, and one more (12 comes after 11)
    ∷ Drawer.prints (desk_atoms 13) "no\t12\t54063\n"
    ∷ Drawer.prints (desk_atoms 14) "no\t11\t0\n"
    ∷ Drawer.prints (desk_actions 6) "no\t12\t48128\n"
    ∷ Drawer.prints (desk_actions 7) "no\t11\t0\n"
    -- a bound of 8,192 steps there, and of 8,193
    ∷ Drawer.prints (desk_bound 0) "no\t17\t0\n"
    ∷ Drawer.prints (desk_bound 1) "no\t12\t8193\n"
    -- a bound of 8,482 steps there
    ∷ Drawer.prints (rule_q "(forall (?a ?b ?c) (or (LT ?a ?b) (T ?c)))" <> "size\t16\n") "no\t12\t8482\n"
    -- the state that building leaves: the sheet's 47 atoms
    ∷ Drawer.build_leaves Drawer.sheet_q Drawer.sheet_s "pick\tT\t1\n" (135563371254606 ∷ [])
    -- a relation of 64 tuples has one word; the state before a step that is no action
    ∷ Drawer.words_refused "choose\tT\t3\nrule\t(forall (?x) (T ?x ?x ?x))\n" "size\t4\n" [] 12 1
    ∷ Drawer.leaves Drawer.one_q Drawer.one_s (1 ∷ 9 ∷ []) (7 ∷ 7 ∷ []) (19274 ∷ 7 ∷ [])
    -- the desk program with steps; with both
    ∷ Drawer.prints
    (Drawer.one_q <> "size\t1\nstep\t0\nstep\t1\nstep\t2\nstep\t3\n")
    "sizes\t1\t16\t4\t4\ncount\tT\t1\npick\tT\t0\nstep\t0\nstep\t1\nstep\t2\nstep\t3\nok\t4\n"
    ∷ Drawer.prints (Drawer.one_q <> "size\t1\npick\tT\t0\nstep\t0\n") "no\t3\t9\n"
    ∷ []

pub own_are_so : all Drawer.is_so own ≡ true
unfolding everything Drawer.is_so Drawer.claims Drawer.repeat Drawer.sheet_q Drawer.sheet_s Drawer.one_q Drawer.one_s Drawer.inj_q Drawer.inj_s Drawer.pair_q own ands atoms_q actions_q desk_atoms desk_actions desk_bound chosen_q rule_q nots
own_are_so = refl

-- a reply in the paper's numbers: a refusal is its number and place, success 0 and the step count
pub reply_numbers : (reply_number {A = ℕ} (refused 14 3) ≡ 14) × (reply_place (refused 14 3) ≡ 3) × (reply_number {A = ℕ} (accepted 7) ≡ 0) × (reply_place (accepted 7) ≡ 7)
unfolding reply_number reply_place
reply_numbers = (refl, refl, refl, refl)

-- an answer that counts no steps: place 0 on success, and of what was asked for the number stays where the call is refused
pub told_numbers : (refusal_place {A = ℕ} (refused 13 4) ≡ 4) × (refusal_place {A = ℕ} (accepted 7) ≡ 0) × (told {A = ℕ} (λ n. n) (refused 13 4) 9 ≡ 9) × (told {A = ℕ} (λ n. n) (accepted 7) 9 ≡ 7)
unfolding refusal_place told
told_numbers = (refl, refl, refl, refl)
