-- Cases of our own for types (document 02, job 4), as a table with one theorem for the whole.
use Rattle.std.specs.Prelude.{◌≡◌, refl, true, List, [], ◌∷◌}
use Prim.Native.String.{String, ◌++◌ as ◌<>◌}
use Rattle.definitions.specs.Lists.{all}
use Rattle.definitions.specs.Sheet.Text.{bytes}
use Rattle.definitions.specs.Problem.Actions.{prove_exists, prove_forall, prove_goal}
use Rattle.definitions.specs.Sheet.Sheets.{Label}
use Rattle.definitions.specs.Reply.Rewritten.{in_numbers}
use Rattle.definitions.specs.Table.Opened.{everything}
use Rattle.definitions.specs.Table.Drawer
use Drawer.{Claim, prints, sizes_are, builds, builds_that_many, build_refused, build_leaves, check_accepted, check_refused, reads, action_is, no_action, passes, refuses}

-- "every spot is in T" and "some spot is", of which there are two among five elements; all of one type beside all of another; a typed
-- variable after one without a type; eight types, and a rule that has none of them; a spot given by its label
unfoldable pub spot_q : String
spot_q = "type\tSPOT\nchoose\tT\t1\nrule\t(forall (?x:SPOT) (T ?x))\n"

unfoldable pub some_q : String
some_q = "type\tSPOT\nchoose\tT\t1\nrule\t(exists (?x:SPOT) (T ?x))\n"

unfoldable pub five_s : String
five_s = "size\t5\nmember\tSPOT\t3\nmember\tSPOT\t1\n"

unfoldable pub nest_q : String
nest_q = "type\tA\ntype\tB\nchoose\tR\t2\nrule\t(forall (?x:A ?y:B) (R ?x ?y))\n"

unfoldable pub nest_s : String
nest_s = "size\t3\nmember\tB\t2\nmember\tA\t1\nmember\tB\t0\n"

unfoldable pub mixed_q : String
mixed_q = "type\tB\nchoose\tR\t2\nrule\t(exists (?x ?y:B) (R ?x ?y))\n"

unfoldable pub eight_t : String
eight_t = "type\tA\ntype\tB\ntype\tC\ntype\tD\ntype\tE\ntype\tF\ntype\tG\ntype\tH\n"

unfoldable pub rule_t : String
rule_t = "choose\tT\t1\nrule\t(forall (?x) (T ?x))\n"

unfoldable pub gate_s : String
gate_s = "size\t5\nlabel\t1\tGATE\nmember\tSPOT\tGATE\n"

unfoldable pub spot_r : String → String
spot_r rule = "type\tSPOT\nchoose\tT\t1\nrule\t" <> rule <> "\n"

unfoldable pub typed : List Claim
typed =
    -- the type of elements 1 and 3 of 5 misses 0, 4 and what is between: atoms as without types, actions at members only; the chain begins at
    -- the least member, goes to the next, and its atom at the greatest is the root's
    sizes_are spot_q five_s 5 188 9 12
    ∷ action_is spot_q five_s 6 (prove_forall 0 0 1)
    ∷ action_is spot_q five_s 7 (prove_forall 0 0 3)
    ∷ action_is spot_q five_s 8 prove_goal
    ∷ no_action spot_q five_s 9
    ∷ builds spot_q five_s "pick\tT\t1\npick\tT\t3\n" (1 ∷ 3 ∷ 5 ∷ 6 ∷ 7 ∷ 8 ∷ [])
    ∷ builds spot_q five_s "pick\tT\t3\npick\tT\t0\npick\tT\t1\n" (0 ∷ 1 ∷ 3 ∷ 5 ∷ 6 ∷ 7 ∷ 8 ∷ [])
    ∷ build_leaves spot_q five_s "pick\tT\t1\npick\tT\t3\n" (8345098623681331726 ∷ 292805984782926092 ∷ 384300786663284605 ∷ [])
    ∷ build_refused spot_q five_s "pick\tT\t1\n" 17 0
    ∷ build_refused spot_q five_s "pick\tT\t0\npick\tT\t2\npick\tT\t3\npick\tT\t4\n" 17 0
    ∷ build_refused spot_q five_s "pick\tT\t1\npick\tT\t5\n" 9 9
    ∷ check_accepted spot_q five_s (1 ∷ 3 ∷ 5 ∷ 6 ∷ 7 ∷ 8 ∷ [])
    ∷ check_refused spot_q five_s (1 ∷ 3 ∷ 5 ∷ 7 ∷ 6 ∷ 8 ∷ []) 14 3
    ∷ check_refused spot_q five_s (1 ∷ 3 ∷ 5 ∷ 6 ∷ 8 ∷ []) 14 4
    ∷ check_refused spot_q five_s (3 ∷ 5 ∷ 6 ∷ []) 14 2
    ∷ check_refused spot_q five_s (1 ∷ 3 ∷ 5 ∷ 6 ∷ 7 ∷ []) 15 5
    ∷ check_refused spot_q five_s (1 ∷ 3 ∷ 5 ∷ 9 ∷ []) 13 3
    ∷ reads spot_q five_s (1 ∷ 3 ∷ 5 ∷ 6 ∷ 7 ∷ 8 ∷ []) (7 ∷ 7 ∷ []) (10 ∷ 7 ∷ [])
    -- `exists` has an action for each member, and the least one that is a witness is proved
    ∷ sizes_are some_q five_s 5 184 9 8
    ∷ action_is some_q five_s 6 (prove_exists 0 0 1)
    ∷ action_is some_q five_s 7 (prove_exists 0 0 3)
    ∷ builds some_q five_s "pick\tT\t3\n" (3 ∷ 5 ∷ 7 ∷ 8 ∷ [])
    ∷ builds some_q five_s "pick\tT\t3\npick\tT\t1\npick\tT\t0\n" (0 ∷ 1 ∷ 3 ∷ 5 ∷ 6 ∷ 8 ∷ [])
    ∷ build_refused some_q five_s "pick\tT\t0\npick\tT\t4\n" 17 0
    ∷ check_refused some_q five_s (0 ∷ 5 ∷ 6 ∷ []) 14 2
    -- negation pushed inward keeps the type
    ∷ builds "type\tSPOT\nchoose\tT\t1\nrule\t(not (forall (?x:SPOT) (T ?x)))\n" five_s "pick\tT\t1\n" (1 ∷ 5 ∷ 7 ∷ 8 ∷ [])
    ∷ builds "type\tSPOT\nchoose\tT\t1\nrule\t(not (exists (?x:SPOT) (T ?x)))\n" five_s "pick\tT\t4\n" (4 ∷ 5 ∷ 6 ∷ 7 ∷ 8 ∷ [])
    -- nested `forall`s of two types: free variables take every element, z only the members
    ∷ sizes_are nest_q nest_s 3 99 18 23
    ∷ builds nest_q nest_s "pick\tR\t1\t0\npick\tR\t1\t2\n" (3 ∷ 5 ∷ 9 ∷ 13 ∷ 14 ∷ 10 ∷ 17 ∷ [])
    ∷ build_leaves nest_q nest_s "pick\tR\t1\t0\npick\tR\t1\t2\n" (7195926979266144398 ∷ 2708849934 ∷ [])
    ∷ action_is nest_q nest_s 16 (prove_forall 1 2 2)
    ∷ build_refused nest_q nest_s "pick\tR\t1\t0\npick\tR\t1\t1\n" 17 0
    -- typed and untyped variables in one list
    ∷ sizes_are mixed_q "size\t3\nmember\tB\t2\n" 3 91 17 15
    ∷ builds mixed_q "size\t3\nmember\tB\t2\n" "pick\tR\t2\t2\n" (8 ∷ 9 ∷ 15 ∷ 12 ∷ 16 ∷ [])
    ∷ build_refused mixed_q "size\t3\nmember\tB\t2\n" "pick\tR\t0\t1\n" 17 0
    -- built-in relations and totality know no types
    ∷ build_refused "type\tSPOT\nchoose\tT\t1\nrule\t(exists (?x:SPOT) (MAX ?x))\n" five_s "" 17 0
    ∷ build_refused "type\tSPOT\nchoose\tF\tFun\nrule\t(exists (?x:SPOT) (F ?x ?x))\n" "size\t2\nmember\tSPOT\t1\n" "pick\tF\t1\t1\n" 17 0
    ∷ builds_that_many "type\tSPOT\nchoose\tF\tFun\nrule\t(exists (?x:SPOT) (F ?x ?x))\n" "size\t2\nmember\tSPOT\t1\n" "pick\tF\t1\t1\npick\tF\t0\t1\n" 10
    -- a type may be called as a relation is, a built-in one or one of this sheet; an element may have several types
    ∷ passes ("rel\tD\t1\ntype\tD\ntype\tEQ\ntype\tT\n" <> rule_t) "size\t2\nmember\tD\t0\nmember\tT\t0\nmember\tEQ\t0\nmember\tEQ\t1\nfact\tD\t1\n"
    -- every type needs a member, whether the rule has it or not; a missing `size` and any line come first
    ∷ refuses spot_q "size\t5\n" 19 0
    ∷ refuses ("type\tSPOT\n" <> rule_t) "size\t5\n" 19 0
    ∷ refuses nest_q "size\t3\nmember\tA\t1\n" 19 0
    ∷ refuses spot_q "" 3 0
    ∷ refuses spot_q "size\t5\nfact\tD\t1\n" 7 7
    ∷ build_refused spot_q "size\t5\n" "pick\tT\tx\n" 19 0
    -- a `type` line: 2, 3, 4, 19
    ∷ refuses "type\n" "" 2 0
    ∷ refuses "type\tA\tB\n" "" 2 0
    ∷ refuses "type\ta\n" "" 4 0
    ∷ refuses "type\t\n" "" 4 0
    ∷ refuses "type\tABCDEFGHIJ_12\n" "" 4 0
    ∷ refuses "type\tA\ntype\tB\ntype\tA\n" "" 19 14
    ∷ refuses (eight_t <> rule_t) "size\t1\n" 19 0
    ∷ refuses (eight_t <> "type\tI\n") "" 3 56
    ∷ refuses (eight_t <> "type\ti\n") "" 3 56
    ∷ refuses (eight_t <> "type\tA\n") "" 3 56
    -- `rel`, `type`, `choose`, `rule`, in this order
    ∷ refuses "type\tA\nrel\tD\t1\n" "" 3 7
    ∷ refuses "type\tA\nrel\td\t1\n" "" 3 7
    ∷ refuses "choose\tT\t1\ntype\tA\n" "" 3 11
    ∷ refuses "choose\tT\t1\ntype\ta\n" "" 3 11
    ∷ refuses (rule_t <> "type\tA\n") "" 3 37
    -- in the rule a type stands in a quantifier's list alone, after one colon, in a name's form: else 5
    ∷ refuses "type\tSPOT\nchoose\tT\t1\nrule\t(forall (?x:SPOT) (T ?x:SPOT))\n" "" 5 21
    ∷ refuses "type\tSPOT\nchoose\tT\t1\nrule\t(forall (?x:) (T ?x))\n" "" 5 21
    ∷ refuses "type\tSPOT\nchoose\tT\t1\nrule\t(forall (?x::SPOT) (T ?x))\n" "" 5 21
    ∷ refuses "type\tSPOT\nchoose\tT\t1\nrule\t(forall (?x:SPOT:SPOT) (T ?x))\n" "" 5 21
    ∷ refuses "type\tSPOT\nchoose\tT\t1\nrule\t(forall (?x: SPOT) (T ?x))\n" "" 5 21
    ∷ refuses "type\tSPOT\nchoose\tT\t1\nrule\t(forall (?x :SPOT) (T ?x))\n" "" 5 21
    ∷ refuses "type\tSPOT\nchoose\tT\t1\nrule\t(forall (?x:spot) (T ?x))\n" "" 5 21
    ∷ refuses "type\tSPOT\nchoose\tT\t1\nrule\t(forall (?x:ABCDEFGHIJ_12) (T ?x))\n" "" 5 21
    ∷ passes "type\tABCDEFGHIJ_1\nchoose\tT\t1\nrule\t(forall (?seven77:ABCDEFGHIJ_1) (T ?seven77))\n" "size\t1\nmember\tABCDEFGHIJ_1\t0\n"
    -- one that is not declared is 19, after 6, 7 and 8 of the whole formula; the same variable twice is 8 whatever its types
    ∷ refuses "type\tSPOT\nchoose\tT\t1\nrule\t(forall (?x:NO) (T ?x))\n" "" 19 21
    ∷ refuses "type\tSPOT\nchoose\tT\t1\nrule\t(forall (?x:SPOT) (exists (?y:NO) (T ?x)))\n" "" 19 21
    ∷ refuses "type\tSPOT\nchoose\tT\t1\nrule\t(and (forall (?x:NO) (T ?x)) (forall (?y) (T ?z)))\n" "" 8 21
    ∷ refuses "type\tSPOT\nchoose\tT\t1\nrule\t(and (forall (?x:NO) (T ?x)) (forall (?y) (NO ?y)))\n" "" 7 21
    ∷ refuses "type\tSPOT\nchoose\tT\t1\nrule\t(forall (?a:NO ?b ?c ?d) (exists (?e) (T ?e)))\n" "" 6 21
    ∷ refuses "type\tSPOT\nchoose\tT\t1\nrule\t(forall (?x:SPOT ?x:NO) (T ?x))\n" "" 8 21
    -- a `member` line: 2, 3, 19, 9, 18, 10
    ∷ refuses spot_q "size\t5\nmember\tSPOT\n" 2 7
    ∷ refuses spot_q "size\t5\nmember\tSPOT\t1\t2\n" 2 7
    ∷ refuses spot_q "size\t5\nmember\tno\tx\n" 2 7
    ∷ refuses spot_q "member\tSPOT\t01\n" 2 0
    ∷ refuses spot_q "member\tNO\t1\nsize\t5\n" 3 0
    ∷ refuses ("rel\tD\t1\n" <> spot_q) (five_s <> "fact\tD\t0\nmember\tNO\t9\n") 3 44
    ∷ refuses spot_q (five_s <> "member\tNO\t5\n") 19 35
    ∷ refuses spot_q (five_s <> "member\tno\tGATE\n") 19 35
    ∷ refuses spot_q (five_s <> "member\t\t3\n") 19 35
    ∷ refuses spot_q (five_s <> "member\tSPOT\t5\n") 9 35
    ∷ refuses spot_q (five_s <> "member\tSPOT\tGATE\n") 18 35
    ∷ refuses spot_q (five_s <> "member\tSPOT\t3\n") 10 35
    ∷ refuses spot_q (gate_s <> "member\tSPOT\t1\n") 10 37
    ∷ passes spot_q gate_s
    -- no `label` after a `member`
    ∷ refuses spot_q (five_s <> "label\t1\tGATE\n") 3 35
    ∷ refuses spot_q (five_s <> "label\t5\tGATE\n") 3 35
    -- another sheet's record: well formed 3, else 2; in the question, in the site, in picks, in steps
    ∷ refuses "member\tSPOT\t1\n" "" 3 0
    ∷ refuses "member\tSPOT\n" "" 2 0
    ∷ refuses spot_q "size\t5\ntype\tA\n" 3 7
    ∷ refuses spot_q "size\t5\ntype\n" 2 7
    ∷ build_refused spot_q five_s "member\tSPOT\t1\n" 3 0
    ∷ build_refused spot_q five_s "type\tA\tB\n" 2 0
    ∷ prints (Drawer.one_q <> "size\t1\nstep\t0\nmember\tA\t0\n") "no\t3\t7\n"
    -- at the desk
    ∷ prints
    (spot_q <> gate_s <> "pick\tT\tGATE\n")
    "sizes\t5\t188\t8\t12\ncount\tT\t1\npick\tT\tGATE\nstep\t1\nstep\t5\nstep\t6\nstep\t7\nok\t4\n"
    ∷ prints (spot_q <> "size\t5\nstep\t5\n") "no\t19\t0\n"
    -- an undeclared type is found in both parts of `implies`, in a later part of `and` and `or`, and under `not`
    ∷ refuses "type\tSPOT\nchoose\tT\t1\nrule\t(forall (?x) (implies (exists (?y:NO) (T ?y)) (T ?x)))\n" "" 19 21
    ∷ refuses "type\tSPOT\nchoose\tT\t1\nrule\t(forall (?x) (implies (T ?x) (exists (?y:NO) (T ?y))))\n" "" 19 21
    ∷ refuses "type\tSPOT\nchoose\tT\t1\nrule\t(forall (?x) (and (T ?x) (exists (?y:NO) (T ?y))))\n" "" 19 21
    ∷ refuses "type\tSPOT\nchoose\tT\t1\nrule\t(forall (?x) (or (T ?x) (exists (?y:NO) (T ?y))))\n" "" 19 21
    ∷ refuses "type\tSPOT\nchoose\tT\t1\nrule\t(not (exists (?y:NO) (T ?y)))\n" "" 19 21
    -- a typed variable is one form, and nests once
    ∷ passes (spot_r ("(forall (?x:SPOT) " <> Drawer.repeat 62 "(not " <> "(T ?x)" <> Drawer.repeat 62 ")" <> ")")) "size\t1\nmember\tSPOT\t0\n"
    ∷ refuses (spot_r ("(forall (?x:SPOT) " <> Drawer.repeat 63 "(not " <> "(T ?x)" <> Drawer.repeat 63 ")" <> ")")) "" 6 21
    ∷ passes (spot_r "(forall (?a:SPOT ?b:SPOT) (exists (?c:SPOT ?d:SPOT) (T ?d)))") "size\t1\nmember\tSPOT\t0\n"
    -- 10 and 19 for a type that is not the first; a `member` line where there is no type; a `type` line in picks and in steps
    ∷ refuses nest_q (nest_s <> "member\tB\t2\n") 10 40
    ∷ refuses "type\tA\ntype\tB\ntype\tB\n" "" 19 14
    ∷ refuses rule_t "size\t2\nmember\tA\t0\n" 19 7
    ∷ build_refused spot_q five_s "type\tA\n" 3 0
    ∷ sizes_are spot_q "size\t17\nmember\tSPOT\t0\nmember\tSPOT\t1\nmember\tSPOT\t2\nmember\tSPOT\t3\nmember\tSPOT\t4\nmember\tSPOT\t5\nmember\tSPOT\t6\nmember\tSPOT\t7\nmember\tSPOT\t8\nmember\tSPOT\t9\nmember\tSPOT\t10\nmember\tSPOT\t11\nmember\tSPOT\t12\nmember\tSPOT\t13\nmember\tSPOT\t14\nmember\tSPOT\t15\nmember\tSPOT\t16\n" 17 1856 36 36
    ∷ prints (Drawer.one_q <> "size\t1\nstep\t0\ntype\tA\n") "no\t3\t7\n"
    ∷ []

pub typed_are_so : all Drawer.is_so typed ≡ true
unfolding everything Drawer.is_so Drawer.claims Drawer.repeat Drawer.one_q typed spot_r spot_q some_q five_s nest_q nest_s mixed_q eight_t rule_t gate_s
typed_are_so = refl

-- a site rewritten with numbers: a `member` line keeps its type, though a label is called as it is
unfoldable pub spot_l : List Label
spot_l = record { element = 3; name = bytes "SPOT" } ∷ []

pub member_rewritten : in_numbers spot_l (bytes "size\t5\nlabel\t3\tSPOT\nmember\tSPOT\tSPOT\nmember\tSPOT\t1\n") ≡ bytes "size\t5\nmember\tSPOT\t3\nmember\tSPOT\t1\n"
unfolding everything spot_l
member_rewritten = refl
