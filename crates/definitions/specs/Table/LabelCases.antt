-- Cases of our own for labels (document 02, job 1), as a table with one theorem for the whole.
use Rattle.std.specs.Prelude.{◌≡◌, refl, true, List, [], ◌∷◌}
use Prim.Native.String.{String, ◌++◌ as ◌<>◌}
use Rattle.definitions.specs.Lists.{all}
use Rattle.definitions.specs.Sheet.Text.{bytes}
use Rattle.definitions.specs.Sheet.Sheets.{Label}
use Rattle.definitions.specs.Reply.Rewritten.{in_numbers}
use Rattle.definitions.specs.Table.Opened.{everything}
use Rattle.definitions.specs.Table.Drawer
use Rattle.definitions.specs.Table.Whole.{two_s}
use Drawer.{Claim, prints, sizes_are, builds, build_refused, check_accepted, passes, refuses}

-- a question with a `rel` of two places; a site of two elements, of which the first or both have labels
unfoldable pub edge_q : String
edge_q = "rel\tE\t2\nchoose\tT\t1\nrule\t(forall (?y) (or (E ?y ?y) (T ?y)))\n"

unfoldable pub first_s : String
first_s = "size\t2\nlabel\t0\tLOBBY\n"

unfoldable pub both_s : String
both_s = "size\t2\nlabel\t1\tYARD\nlabel\t0\tLOBBY\nfact\tD\tLOBBY\n"

unfoldable pub many_s : String
many_s = "size\t17\nlabel\t0\tL0\nlabel\t1\tL1\nlabel\t2\tL2\nlabel\t3\tL3\nlabel\t4\tL4\nlabel\t5\tL5\nlabel\t6\tL6\nlabel\t7\tL7\nlabel\t8\tL8\nlabel\t9\tL9\nlabel\t10\tL10\nlabel\t11\tL11\nlabel\t12\tL12\nlabel\t13\tL13\nlabel\t14\tL14\nlabel\t15\tL15\nlabel\t16\tL16\n"

unfoldable pub labelled : List Claim
labelled =
    -- a `label` line has two fields, an element and a name
    passes Drawer.sheet_q first_s
    ∷ refuses Drawer.sheet_q (two_s <> "label\t0\n") 2 7
    ∷ refuses Drawer.sheet_q (two_s <> "label\t0\tLOBBY\tYARD\n") 2 7
    ∷ refuses Drawer.sheet_q (two_s <> "label\tLOBBY\t0\n") 2 7
    -- it stands after `size` and before any `fact`, and its form is judged before its place
    ∷ refuses Drawer.sheet_q ("label\t0\tLOBBY\n" <> two_s) 3 0
    ∷ refuses Drawer.sheet_q ("label\t0\tlobby\n" <> two_s) 2 0
    ∷ refuses Drawer.sheet_q (first_s <> "fact\tD\t0\nlabel\t1\tYARD\n") 3 30
    ∷ refuses Drawer.sheet_q (first_s <> "fact\tD\t0\nlabel\t2\tLOBBY\n") 3 30
    ∷ refuses Drawer.sheet_q (first_s <> "size\t2\n") 3 21
    -- a name that no line before has given is 18 by the line that uses it
    ∷ refuses Drawer.sheet_q (two_s <> "fact\tD\tLOBBY\nlabel\t0\tLOBBY\n") 18 7
    ∷ build_refused Drawer.sheet_q first_s "pick\tT\t0\npick\tT\tYARD\n" 18 9
    -- a name in a `label` line's element field is 18, known or not, and 3 out of place
    ∷ refuses Drawer.sheet_q (first_s <> "label\tLOBBY\tYARD\n") 18 21
    ∷ refuses Drawer.sheet_q (first_s <> "label\tYARD\tYARD\n") 18 21
    ∷ refuses Drawer.sheet_q "label\tYARD\tYARD\n" 3 0
    -- an element field that is neither number nor name is 2, also out of place, of no relation, or beside a number out of range
    ∷ passes Drawer.sheet_q (two_s <> "label\t0\tABCDEFGHIJ_1\nfact\tD\tABCDEFGHIJ_1\n")
    ∷ refuses Drawer.sheet_q (two_s <> "fact\tD\tABCDEFGHIJ_12\n") 2 7
    ∷ refuses Drawer.sheet_q (two_s <> "fact\tD\tlobby\n") 2 7
    ∷ refuses Drawer.sheet_q (two_s <> "fact\tD\t01\n") 2 7
    ∷ refuses Drawer.sheet_q (two_s <> "fact\tD\t10000000\n") 2 7
    ∷ refuses Drawer.sheet_q (two_s <> "fact\tD\t\n") 2 7
    ∷ refuses Drawer.sheet_q "fact\tD\tlobby\n" 2 0
    ∷ refuses edge_q (two_s <> "fact\tNOPE\t99\tlobby\n") 2 7
    ∷ refuses Drawer.sheet_q (two_s <> "label\t1A\tLOBBY\n") 2 7
    ∷ build_refused Drawer.sheet_q first_s "pick\tT\tlobby\n" 2 0
    -- a label that is no name is 2, and before 9
    ∷ refuses Drawer.sheet_q (two_s <> "label\t2\tlobby\n") 2 7
    ∷ refuses Drawer.sheet_q (two_s <> "label\t0\t1\n") 2 7
    ∷ refuses Drawer.sheet_q (two_s <> "label\t0\tABCDEFGHIJ_12\n") 2 7
    ∷ refuses Drawer.sheet_q (two_s <> "label\t0\t\n") 2 7
    -- numbers stay numbers: `size`, `step` and an arity take no name
    ∷ refuses Drawer.sheet_q "size\tLOBBY\n" 2 0
    ∷ prints (Drawer.one_q <> "size\t1\nlabel\t0\tLOBBY\nstep\tLOBBY\n") "no\t2\t0\n"
    -- a label may be called as a relation is, declared or built in
    ∷ builds Drawer.sheet_q (two_s <> "label\t0\tD\nlabel\t1\tEQ\nfact\tD\tD\n") "pick\tT\tEQ\n" (1 ∷ 2 ∷ 5 ∷ 8 ∷ 3 ∷ 4 ∷ 9 ∷ [])
    -- the same line again, a second element for a name, a second name for an element
    ∷ refuses Drawer.sheet_q (first_s <> "label\t0\tLOBBY\n") 18 21
    ∷ refuses Drawer.sheet_q (first_s <> "label\t1\tLOBBY\n") 18 21
    ∷ refuses Drawer.sheet_q (first_s <> "label\t0\tYARD\n") 18 21
    -- 7 before 9, 9 before 18, 18 before 10; in a line all numbers before all names
    ∷ refuses edge_q (two_s <> "fact\tE\tNOPE\n") 7 7
    ∷ refuses edge_q (two_s <> "fact\tD\tNOPE\t99\n") 7 7
    ∷ refuses edge_q (two_s <> "fact\tE\tNOPE\t99\n") 9 7
    ∷ refuses edge_q (two_s <> "fact\tE\t99\tNOPE\n") 9 7
    ∷ refuses Drawer.sheet_q (first_s <> "label\t2\tLOBBY\n") 9 21
    ∷ build_refused Drawer.pair_q two_s "pick\tF\tNOPE\t2\n" 9 0
    ∷ build_refused Drawer.pair_q two_s "pick\tF\tNOPE\t1\n" 18 0
    -- 10 goes by what is meant
    ∷ refuses Drawer.sheet_q (first_s <> "fact\tD\t0\nfact\tD\tLOBBY\n") 10 30
    ∷ refuses Drawer.sheet_q (first_s <> "fact\tD\tLOBBY\nfact\tD\t0\n") 10 34
    ∷ build_refused Drawer.sheet_q both_s "pick\tT\tYARD\npick\tT\t1\n" 10 12
    -- every element may have a label; one line more is 9 or 18
    ∷ passes Drawer.sheet_q both_s
    ∷ refuses Drawer.sheet_q (two_s <> "label\t1\tYARD\nlabel\t0\tLOBBY\nlabel\t2\tGATE\n") 9 34
    ∷ refuses Drawer.sheet_q (two_s <> "label\t1\tYARD\nlabel\t0\tLOBBY\nlabel\t1\tGATE\n") 18 34
    -- the problem and its steps are those of the sheet without labels
    ∷ sizes_are Drawer.sheet_q both_s 2 47 10 8
    ∷ builds Drawer.sheet_q both_s "pick\tT\t1\n" (1 ∷ 2 ∷ 5 ∷ 8 ∷ 3 ∷ 4 ∷ 9 ∷ [])
    ∷ builds Drawer.sheet_q both_s "pick\tT\tYARD\n" (1 ∷ 2 ∷ 5 ∷ 8 ∷ 3 ∷ 4 ∷ 9 ∷ [])
    ∷ check_accepted Drawer.sheet_q both_s (1 ∷ 2 ∷ 5 ∷ 8 ∷ 3 ∷ 4 ∷ 9 ∷ [])
    -- the desk prints a label wherever an element has one, in `pick` lines alone, whether it builds or checks
    ∷ prints
    (Drawer.sheet_q <> both_s <> "pick\tT\t1\n")
    "sizes\t2\t47\t10\t8\ncount\tT\t1\npick\tT\tYARD\nstep\t1\nstep\t2\nstep\t5\nstep\t8\nstep\t3\nstep\t4\nstep\t9\nok\t7\n"
    ∷ prints
    (Drawer.sheet_q <> first_s <> "pick\tT\t1\npick\tT\tLOBBY\n")
    "sizes\t2\t47\t10\t8\ncount\tT\t2\npick\tT\tLOBBY\npick\tT\t1\nstep\t0\nstep\t1\nstep\t2\nstep\t6\nstep\t8\nstep\t3\nstep\t4\nstep\t9\nok\t8\n"
    ∷ prints
    (Drawer.one_q <> "size\t1\nlabel\t0\tLOBBY\nstep\t0\nstep\t1\nstep\t2\nstep\t3\n")
    "sizes\t1\t16\t4\t4\ncount\tT\t1\npick\tT\tLOBBY\nstep\t0\nstep\t1\nstep\t2\nstep\t3\nok\t4\n"
    ∷ prints
    (Drawer.pair_q <> "size\t2\nlabel\t1\tYARD\npick\tF\t0\t1\n")
    "sizes\t2\t50\t16\t13\ncount\tF\t1\npick\tF\t0\tYARD\nstep\t1\nstep\t4\nstep\t12\nstep\t8\nstep\t5\nstep\t15\nok\t6\n"
    -- another sheet's record: well formed 3, else 2; in the question, in picks, in steps
    ∷ refuses "label\t0\tLOBBY\n" "" 3 0
    ∷ refuses "label\t0\n" "" 2 0
    ∷ build_refused Drawer.sheet_q first_s "label\t1\tYARD\n" 3 0
    ∷ build_refused Drawer.sheet_q first_s "label\t1\tyard\n" 2 0
    ∷ prints (Drawer.one_q <> "size\t1\nstep\t0\nlabel\t0\tLOBBY\n") "no\t3\t7\n"
    ∷ prints (Drawer.one_q <> "size\t1\nstep\t0\nlabel\t0\n") "no\t2\t7\n"
    -- more labels than there may be elements at the desk
    ∷ passes Drawer.sheet_q (many_s <> "fact\tD\tL16\n")
    ∷ refuses Drawer.sheet_q (many_s <> "fact\tD\tL16\nfact\tD\t16\n") 10 220
    ∷ prints
    "rel\tD\t1\nchoose\tT\t1\nrule\t(exists (?y) (T ?y))\nsize\t6\nlabel\t5\tFIVE\npick\tT\tFIVE\n"
    "sizes\t6\t268\t14\t9\ncount\tT\t1\npick\tT\tFIVE\nstep\t5\nstep\t6\nstep\t12\nstep\t13\nok\t4\n"
    ∷ []

pub labelled_are_so : all Drawer.is_so labelled ≡ true
unfolding everything Drawer.is_so Drawer.claims Drawer.sheet_q Drawer.one_q Drawer.pair_q labelled many_s edge_q two_s first_s both_s
labelled_are_so = refl

-- a site and picks rewritten with numbers; what is no element stays, though it is called as a label is
unfoldable pub yard_d : List Label
yard_d = record { element = 1; name = bytes "YARD" } ∷ record { element = 0; name = bytes "D" } ∷ []

pub rewritten : (in_numbers yard_d (bytes "size\t2\nlabel\t1\tYARD\nlabel\t0\tD\nfact\tD\tD\nfact\tE\tYARD\t0\n") ≡ bytes "size\t2\nfact\tD\t0\nfact\tE\t1\t0\n")
    × (in_numbers yard_d (bytes "pick\tYARD\t1\tD\tYARD\n") ≡ bytes "pick\tYARD\t1\t0\t1\n")
unfolding everything yard_d
rewritten = (refl, refl)
