-- Cases of our own for function kinds with types (document 02, job 5), as a table with one theorem for the whole.
use Rattle.std.specs.Prelude.{◌≡◌, refl, ℕ, true, List, [], ◌∷◌}
use Prim.Native.String.{String, ◌++◌ as ◌<>◌}
use Rattle.definitions.specs.Lists.{all}
use Rattle.definitions.specs.Problem.Actions.{set, begin_proof, prove_forall, prove_exists}
use Rattle.definitions.specs.Table.Opened.{everything}
use Rattle.definitions.specs.Table.Drawer
use Drawer.{Claim, prints, sizes_are, builds, build_refused, build_leaves, check_accepted, check_refused, reads, action_is, no_action, builds_from_words, words_refused, passes, refuses}

-- Doors are 0 and 3, groups 1, 3 and 4, of five elements. A group for each door, by a rule that is true of all picks; the same kind
-- without its types; the other three kinds; and all groups in a row.
unfoldable pub types_l : String
types_l = "type\tDOOR\ntype\tGROUP\n"

unfoldable pub any_r : String
any_r = "rule\t(forall (?x) (EQ ?x ?x))\n"

unfoldable pub group_q : String
group_q = types_l <> "choose\tG\tFun\tDOOR\tGROUP\n" <> any_r

unfoldable pub free_q : String
free_q = types_l <> "choose\tG\tFun\n" <> any_r

unfoldable pub part_q : String
part_q = types_l <> "choose\tG\tPFun\tDOOR\tGROUP\n" <> any_r

unfoldable pub inj_q : String
inj_q = types_l <> "choose\tG\tInj\tDOOR\tGROUP\n" <> any_r

unfoldable pub pinj_q : String
pinj_q = types_l <> "choose\tG\tPInj\tDOOR\tGROUP\n" <> any_r

unfoldable pub row_q : String
row_q = types_l <> "choose\tG\tInj\tGROUP\tGROUP\n" <> any_r

unfoldable pub group_s : String
group_s = "size\t5\nmember\tDOOR\t3\nmember\tDOOR\t0\nmember\tGROUP\t4\nmember\tGROUP\t1\nmember\tGROUP\t3\n"

-- three kinds, the second without types; a rule that is false of all picks; one with a literal of what is outside; one type of one element
unfoldable pub three_q : String
three_q = types_l <> "choose\tA\tPFun\tDOOR\tGROUP\nchoose\tB\tPInj\nchoose\tC\tPInj\tGROUP\tDOOR\n" <> any_r

unfoldable pub false_q : String
false_q = types_l <> "choose\tG\tPFun\tDOOR\tGROUP\nrule\t(exists (?x) (LT ?x ?x))\n"

unfoldable pub out_q : String
out_q = types_l <> "choose\tG\tPFun\tDOOR\tGROUP\nrule\t(forall (?x:GROUP) (not (G ?x ?x)))\n"

unfoldable pub one_q : String
one_q = "type\tA\nchoose\tF\tInj\tA\tA\nrule\t(exists (?x:A) (F ?x ?x))\n"

unfoldable pub gate_s : String
gate_s = "size\t5\nlabel\t0\tGATE\nlabel\t4\tSTAFF\nmember\tDOOR\tGATE\nmember\tGROUP\tSTAFF\nmember\tGROUP\t0\n"

unfoldable pub forms_q : ℕ → String
forms_q k = types_l <> "choose\tG\tFun\tDOOR\tGROUP\nrule\t(forall (?x) " <> Drawer.repeat k "(not " <> "(EQ ?x ?x)" <> Drawer.repeat k ")" <> ")\n"

unfoldable pub kinds : List Claim
kinds =
    -- set actions for the pairs of a door and a group only; atoms and bound as without the types
    sizes_are group_q group_s 5 244 31 23
    ∷ sizes_are free_q group_s 5 244 63 23
    ∷ action_is group_q group_s 0 (set 5 1)
    ∷ action_is group_q group_s 1 (set 5 3)
    ∷ action_is group_q group_s 2 (set 5 4)
    ∷ action_is group_q group_s 3 (set 5 16)
    ∷ action_is group_q group_s 5 (set 5 19)
    ∷ action_is group_q group_s 6 begin_proof
    ∷ no_action group_q group_s 31
    -- totality is over the doors, and its second place over the groups
    ∷ action_is group_q group_s 14 (prove_forall 2 0 3)
    ∷ action_is group_q group_s 23 (prove_exists 3 2 4)
    ∷ builds group_q group_s "pick\tG\t3\t1\npick\tG\t0\t4\n" (2 ∷ 3 ∷ 6 ∷ 17 ∷ 24 ∷ 13 ∷ 14 ∷ 8 ∷ 9 ∷ 10 ∷ 11 ∷ 12 ∷ 7 ∷ 30 ∷ [])
    ∷ builds group_q group_s "pick\tG\t0\t3\npick\tG\t3\t3\n" (1 ∷ 4 ∷ 6 ∷ 16 ∷ 25 ∷ 13 ∷ 14 ∷ 8 ∷ 9 ∷ 10 ∷ 11 ∷ 12 ∷ 7 ∷ 30 ∷ [])
    ∷ build_leaves group_q group_s "pick\tG\t3\t1\npick\tG\t0\t4\n" (8345098623681331726 ∷ 292805984782926092 ∷ 2306423033876176765 ∷ 1310598528760768 ∷ [])
    ∷ build_refused group_q group_s "pick\tG\t0\t4\n" 17 0
    ∷ build_refused group_q group_s "" 17 0
    -- a pick outside is 16, by its first place, its second, or both
    ∷ build_refused group_q group_s "pick\tG\t3\t1\npick\tG\t0\t4\npick\tG\t1\t1\n" 16 0
    ∷ build_refused group_q group_s "pick\tG\t3\t1\npick\tG\t0\t2\n" 16 0
    ∷ build_refused group_q group_s "pick\tG\t3\t1\npick\tG\t0\t4\npick\tG\t4\t0\n" 16 0
    ∷ build_refused group_q group_s "pick\tG\t0\t1\npick\tG\t0\t3\npick\tG\t3\t1\n" 16 0
    -- so is a lent bit: it is none of the spare ones, which are 10 and come first
    ∷ builds_from_words group_q group_s (65552 ∷ []) (2 ∷ 3 ∷ 6 ∷ 17 ∷ 24 ∷ 13 ∷ 14 ∷ 8 ∷ 9 ∷ 10 ∷ 11 ∷ 12 ∷ 7 ∷ 30 ∷ [])
    ∷ words_refused group_q group_s (65584 ∷ []) 16 0
    ∷ words_refused group_q group_s (16842768 ∷ []) 16 0
    ∷ words_refused group_q group_s (33554448 ∷ []) 10 0
    ∷ words_refused group_q group_s (33554464 ∷ []) 10 0
    ∷ words_refused group_q group_s [] 12 1
    -- steps that set what is inside: one second for a door, but two doors may have one group; the picks are read back
    ∷ check_accepted group_q group_s (4 ∷ 1 ∷ 6 ∷ 16 ∷ 25 ∷ 13 ∷ 14 ∷ 8 ∷ 9 ∷ 10 ∷ 11 ∷ 12 ∷ 7 ∷ 30 ∷ [])
    ∷ check_refused group_q group_s (1 ∷ 2 ∷ 6 ∷ []) 14 1
    ∷ check_refused group_q group_s (2 ∷ 6 ∷ 17 ∷ 13 ∷ 14 ∷ []) 14 4
    ∷ check_refused group_q group_s (2 ∷ 3 ∷ 6 ∷ []) 15 3
    ∷ check_refused group_q group_s (2 ∷ 31 ∷ []) 13 1
    ∷ reads group_q group_s (2 ∷ 3 ∷ 6 ∷ 17 ∷ 24 ∷ 13 ∷ 14 ∷ 8 ∷ 9 ∷ 10 ∷ 11 ∷ 12 ∷ 7 ∷ 30 ∷ []) (7 ∷ []) (65552 ∷ [])
    -- PFun: no totality
    ∷ sizes_are part_q group_s 5 233 13 12
    ∷ builds part_q group_s "" (6 ∷ 7 ∷ 8 ∷ 9 ∷ 10 ∷ 11 ∷ 12 ∷ [])
    ∷ builds part_q group_s "pick\tG\t3\t3\npick\tG\t0\t3\n" (1 ∷ 4 ∷ 6 ∷ 7 ∷ 8 ∷ 9 ∷ 10 ∷ 11 ∷ 12 ∷ [])
    ∷ build_refused part_q group_s "pick\tG\t0\t3\npick\tG\t0\t4\n" 16 0
    ∷ build_refused part_q group_s "pick\tG\t3\t0\n" 16 0
    -- Inj: a group for every door, and none for two
    ∷ sizes_are inj_q group_s 5 249 31 23
    ∷ builds inj_q group_s "pick\tG\t3\t4\npick\tG\t0\t3\n" (1 ∷ 5 ∷ 6 ∷ 16 ∷ 26 ∷ 13 ∷ 14 ∷ 8 ∷ 9 ∷ 10 ∷ 11 ∷ 12 ∷ 7 ∷ 30 ∷ [])
    ∷ build_refused inj_q group_s "pick\tG\t0\t3\npick\tG\t3\t3\n" 16 0
    ∷ build_refused inj_q group_s "pick\tG\t0\t3\n" 17 0
    ∷ build_refused inj_q group_s "pick\tG\t0\t3\npick\tG\t3\t4\npick\tG\t2\t1\n" 16 0
    ∷ check_refused inj_q group_s (1 ∷ 4 ∷ []) 14 1
    -- PInj
    ∷ sizes_are pinj_q group_s 5 238 13 12
    ∷ builds pinj_q group_s "pick\tG\t0\t3\npick\tG\t3\t4\n" (1 ∷ 5 ∷ 6 ∷ 7 ∷ 8 ∷ 9 ∷ 10 ∷ 11 ∷ 12 ∷ [])
    ∷ build_refused pinj_q group_s "pick\tG\t0\t3\npick\tG\t3\t3\n" 16 0
    ∷ build_refused pinj_q group_s "pick\tG\t1\t4\n" 16 0
    -- both places of one type; a type of one element, which may be the only one or not
    ∷ sizes_are row_q group_s 5 249 35 23
    ∷ builds row_q group_s "pick\tG\t1\t3\npick\tG\t3\t4\npick\tG\t4\t1\n" (1 ∷ 5 ∷ 6 ∷ 9 ∷ 23 ∷ 30 ∷ 31 ∷ 16 ∷ 17 ∷ 18 ∷ 11 ∷ 12 ∷ 13 ∷ 14 ∷ 15 ∷ 10 ∷ 34 ∷ [])
    ∷ build_refused row_q group_s "pick\tG\t1\t3\npick\tG\t3\t4\npick\tG\t4\t0\n" 16 0
    ∷ builds one_q "size\t1\nmember\tA\t0\n" "pick\tF\t0\t0\n" (0 ∷ 1 ∷ 5 ∷ 4 ∷ 3 ∷ 2 ∷ 6 ∷ [])
    ∷ sizes_are one_q "size\t3\nmember\tA\t2\n" 3 101 9 13
    ∷ builds one_q "size\t3\nmember\tA\t2\n" "pick\tF\t2\t2\n" (0 ∷ 1 ∷ 7 ∷ 4 ∷ 3 ∷ 2 ∷ 8 ∷ [])
    ∷ build_refused one_q "size\t3\nmember\tA\t2\n" "pick\tF\t0\t0\npick\tF\t1\t1\npick\tF\t2\t2\n" 16 0
    -- 16 has the index of the first kind that is broken, whichever way; it comes before 17
    ∷ build_refused three_q group_s "pick\tA\t0\t0\n" 16 0
    ∷ build_refused three_q group_s "pick\tC\t1\t1\npick\tA\t0\t3\npick\tA\t0\t1\n" 16 0
    ∷ build_refused three_q group_s "pick\tC\t0\t0\npick\tB\t1\t0\npick\tB\t0\t0\n" 16 1
    ∷ build_refused three_q group_s "pick\tC\t1\t1\npick\tB\t2\t1\npick\tB\t2\t2\n" 16 1
    ∷ build_refused three_q group_s "pick\tC\t1\t1\n" 16 2
    ∷ builds three_q group_s "pick\tC\t4\t3\npick\tB\t2\t2\npick\tA\t0\t4\n" (2 ∷ 18 ∷ 36 ∷ 37 ∷ 38 ∷ 39 ∷ 40 ∷ 41 ∷ 42 ∷ 43 ∷ [])
    ∷ build_refused false_q group_s "pick\tG\t1\t1\n" 16 0
    ∷ build_refused false_q group_s "pick\tG\t0\t1\n" 17 0
    -- a literal of what is outside is false
    ∷ builds out_q group_s "pick\tG\t3\t1\n" (3 ∷ 6 ∷ 7 ∷ 8 ∷ 9 ∷ 10 ∷ [])
    ∷ build_refused out_q group_s "pick\tG\t3\t3\n" 17 0
    -- a `choose` line has a kind and two types, or neither: else 2
    ∷ refuses (types_l <> "choose\tG\tFun\tDOOR\n") "" 2 21
    ∷ refuses (types_l <> "choose\tG\tFun\tDOOR\tGROUP\tDOOR\n") "" 2 21
    ∷ refuses (types_l <> "choose\tG\t2\tDOOR\tGROUP\n") "" 2 21
    ∷ refuses (types_l <> "choose\tG\tfun\tDOOR\tGROUP\n") "" 2 21
    ∷ refuses (types_l <> "choose\tG\t\tDOOR\tGROUP\n") "" 2 21
    ∷ refuses (types_l <> "choose\tG\tDOOR\tGROUP\tFun\n") "" 2 21
    ∷ refuses (types_l <> "choose\tg\tFun\tno\n") "" 2 21
    -- then 3, 4, and 19 for a type that is not declared or not of its form
    ∷ refuses (group_q <> "choose\tG\tFun\tNO\tNO\n") "" 3 75
    ∷ refuses (types_l <> "choose\tA\t1\nchoose\tB\t1\nchoose\tC\t1\nchoose\tD\t1\nchoose\tD\tFun\tNO\tNO\n") "" 3 65
    ∷ refuses (types_l <> "choose\tg\tFun\tNO\tNO\n") "" 4 21
    ∷ refuses (types_l <> "choose\tLT\tPInj\tDOOR\tNO\n") "" 4 21
    ∷ refuses (types_l <> "choose\tG\t1\nchoose\tG\tFun\tno\tDOOR\n") "" 4 32
    ∷ refuses (types_l <> "choose\tG\tFun\tNO\tGROUP\n") "" 19 21
    ∷ refuses (types_l <> "choose\tG\tFun\tDOOR\tNO\n") "" 19 21
    ∷ refuses (types_l <> "choose\tG\tPFun\tdoor\tDOOR\n") "" 19 21
    ∷ refuses (types_l <> "choose\tG\tInj\tDOOR\t\n") "" 19 21
    ∷ refuses (types_l <> "choose\tG\tPInj\t\tDOOR\n") "" 19 21
    ∷ refuses (types_l <> "choose\tG\tInj\tABCDEFGHIJ_12\tDOOR\n") "" 19 21
    ∷ refuses (types_l <> "choose\tG\tInj\tDOOR\tEQ\n") "" 19 21
    ∷ refuses ("choose\tG\tFun\tA\tA\n" <> any_r) "" 19 0
    ∷ refuses "choose\tG\tFun\tA\tA\ntype\tA\n" "" 19 0
    -- a type that only a kind has needs a member, too; a kind may be called as its type is
    ∷ refuses group_q "size\t5\nmember\tDOOR\t3\n" 19 0
    ∷ passes ("type\tDOOR\nchoose\tDOOR\tInj\tDOOR\tDOOR\n" <> any_r) "size\t2\nmember\tDOOR\t1\n"
    -- in another sheet such a line is 3, whatever its types are, and 2 where it is not of its form
    ∷ refuses group_q "size\t5\nchoose\tG\tFun\tNO\tno\n" 3 7
    ∷ refuses group_q "size\t5\nchoose\tG\tFun\tDOOR\n" 2 7
    ∷ build_refused group_q group_s "choose\tG\tFun\tDOOR\tGROUP\n" 3 0
    ∷ build_refused group_q group_s "choose\tG\t1\tDOOR\tGROUP\n" 2 0
    -- at the desk
    ∷ prints
    (group_q <> gate_s <> "pick\tG\t0\tSTAFF\n")
    "sizes\t5\t244\t21\t23\ncount\tG\t1\npick\tG\tGATE\tSTAFF\nstep\t1\nstep\t2\nstep\t11\nstep\t9\nstep\t4\nstep\t5\nstep\t6\nstep\t7\nstep\t8\nstep\t3\nstep\t20\nok\t11\n"
    ∷ prints (group_q <> gate_s <> "pick\tG\tSTAFF\tGATE\n") "no\t16\t0\n"
    ∷ prints (types_l <> "choose\tG\tFun\tDOOR\tNO\n" <> any_r <> group_s) "no\t19\t21\n"
    -- a totality with types is three forms, as without
    ∷ passes (forms_q 58) "size\t2\nmember\tDOOR\t0\nmember\tGROUP\t1\n"
    ∷ refuses (forms_q 59) "" 6 45
    -- the last of four `choose` lines with types
    ∷ sizes_are (types_l <> "choose\tA\t1\nchoose\tB\t1\nchoose\tC\t1\nchoose\tG\tPInj\tGROUP\tDOOR\n" <> any_r) group_s 5 268 28 27
    ∷ []

pub kinds_are_so : all Drawer.is_so kinds ≡ true
unfolding everything Drawer.is_so Drawer.claims Drawer.repeat kinds forms_q types_l any_r group_q free_q part_q inj_q pinj_q row_q group_s three_q false_q out_q one_q gate_s
kinds_are_so = refl
