-- Cases of our own for pages (document 02, job 9), as two tables with a theorem for each: the pages that are laid out, byte for byte, and
-- the refusals.
use Rattle.std.specs.Prelude.{◌≡◌, refl, ℕ, ◌-◌, Bool, true, ◌&&◌, List, [], ◌∷◌, ◌++◌, length, replicate, eqb}
use Prim.Native.String.{String}
use Rattle.definitions.specs.Limits.{usual}
use Rattle.definitions.specs.Lists.{all, same, flat_map}
use Rattle.definitions.specs.Sheet.Text.{bytes}
use Rattle.definitions.specs.Reply.Outcome.{reply_number, reply_place, ThirdInput, as_text, as_numbers}
use Rattle.definitions.specs.Reply.Page.{Paged, lay_page}
use Rattle.definitions.specs.Table.Opened.{everything}
use Rattle.definitions.specs.Table.Drawer.{sheet_q, one_q, one_s}
use Rattle.definitions.specs.Table.LabelCases.{both_s}
use Rattle.definitions.specs.Table.Whole.{over_q, sixty_four_s}
use Rattle.definitions.specs.Table.EveryCases.{lost_q, two}

-- What a row says: for a case, its steps, a page's number, a state and a buffer of `room` bytes 7, the state afterwards, and either the page's lines
-- up to the last that is not blank, and its last line; or the refusal's number and place.
pub data Row : Type 0 where
  lays : (question site : String) (steps : ThirdInput) (page : ℕ) (state : List ℕ) (room : ℕ) (state' : List ℕ) (lines : List String) (footer : String) → Row
  refuses : (question site : String) (steps : ThirdInput) (page : ℕ) (state : List ℕ) (room number place : ℕ) (state' : List ℕ) → Row

unfoldable pub line : String → List ℕ
line s = bytes s ++ (10 ∷ [])

-- 59 lines, blank ones after those that are said, and the last
unfoldable pub sheet : List String → String → List ℕ
sheet lines footer = flat_map line lines ++ (flat_map line (replicate (59 - length lines) "                                                                        ") ++ line footer)

unfoldable pub leaves : Paged → (number place : ℕ) (state page : List ℕ) → Bool
leaves x number place state page = eqb (reply_number x.answer) number && eqb (reply_place x.answer) place && same x.state state && same x.page page

unfoldable pub is_so : Row → Bool
is_so (lays q s steps m state room state' lines footer) =
    leaves (lay_page usual (bytes q) (bytes s) steps m state (replicate room 7)) 0 4380 state' (sheet lines footer ++ replicate (room - 4380) 7)
is_so (refuses q s steps m state room number place state') = leaves (lay_page usual (bytes q) (bytes s) steps m state (replicate room 7)) number place state' (replicate room 7)

-- rules whose `or` has four free values, and three; one that is an `or`; an element with a name of nine bytes, and of twelve
unfoldable pub four_q : String
four_q = "choose\tT\t1\nrule\t(forall (?a ?b ?c ?d) (or (EQ ?a ?b) (EQ ?c ?d)))\n"

unfoldable pub three_q : String
three_q = "choose\tT\t1\nrule\t(forall (?a ?b ?c) (or (EQ ?a ?b) (EQ ?b ?c)))\n"

unfoldable pub either_q : String
either_q = "choose\tT\t1\nrule\t(or (exists (?x) (LT ?x ?x)) (exists (?x) (and (T ?x) (EQ ?x ?x))))\n"

unfoldable pub nine_s : String
nine_s = "size\t1\nlabel\t0\tABCDEFGHI\n"

unfoldable pub twelve_s : String
twelve_s = "size\t1\nlabel\t0\tABCDEFGHIJKL\n"

-- an `every` line with a name of twelve bytes and arity 2; the steps of the four rounds of `lost_q` on two elements
unfoldable pub cards_q : String
cards_q = "choose\tT\t2\nevery\tLOST_CARDS_2\t2\nrule\t(forall (?x ?y) (or (not (LOST_CARDS_2 ?x ?y)) (T ?x ?y)))\n"

unfoldable pub lost_steps : List ℕ
lost_steps = 0 ∷ 1 ∷ 2 ∷ 5 ∷ 7 ∷ 3 ∷ 4 ∷ 9 ∷ 10 ∷ 5 ∷ 7 ∷ 3 ∷ 4 ∷ 9 ∷ 12 ∷ 11 ∷ 5 ∷ 7 ∷ 3 ∷ 4 ∷ 9 ∷ 10 ∷ 5 ∷ 7 ∷ 3 ∷ 4 ∷ 9 ∷ 12 ∷ 13 ∷ []

unfoldable pub pages_laid : List Row
pages_laid =
    -- labels, kinds, relations and nodes; a part after its element
    lays sheet_q both_s (as_numbers (1 ∷ 2 ∷ 5 ∷ 8 ∷ 3 ∷ 4 ∷ 9 ∷ [])) 1 (7 ∷ []) 4380 (135563371254606 ∷ [])
    ("      0       1 set          T            YARD                          "
    ∷ "      1       2 begin-proof                                             "
    ∷ "      2       5 or           1            LOBBY/0                       "
    ∷ "      3       8 or           1            YARD/1                        "
    ∷ "      4       3 forall       0            LOBBY                         "
    ∷ "      5       4 forall       0            YARD                          "
    ∷ "      6       9 prove-goal                                              "
    ∷ [])
    "                                                                       1"
    -- steps as a text; a word and two bytes past what is needed stay
    ∷ lays one_q one_s (as_text (bytes "step\t0\nstep\t1\nstep\t2\nstep\t3\n")) 1 (7 ∷ 7 ∷ []) 4382 (43854 ∷ 7 ∷ [])
    ("      0       0 set          T            0                             "
    ∷ "      1       1 begin-proof                                             "
    ∷ "      2       2 forall       0            0                             "
    ∷ "      3       3 prove-goal                                              "
    ∷ [])
    "                                                                       1"
    -- an `or` without free values has its part alone; an `and` has no element of its own
    ∷ lays either_q one_s (as_numbers (0 ∷ 1 ∷ 6 ∷ 5 ∷ 3 ∷ 7 ∷ [])) 1 (7 ∷ []) 4380 (437070 ∷ [])
    ("      0       0 set          T            0                             "
    ∷ "      1       1 begin-proof                                             "
    ∷ "      2       6 and          3            0                             "
    ∷ "      3       5 exists       2            0                             "
    ∷ "      4       3 or           0            /1                            "
    ∷ "      5       7 prove-goal                                              "
    ∷ [])
    "                                                                       1"
    -- thirty columns hold three units of ten, and the fourth goes to a further line; no unit is cut
    ∷ lays four_q nine_s (as_numbers (1 ∷ 7 ∷ 5 ∷ 4 ∷ 3 ∷ 2 ∷ 8 ∷ [])) 1 (7 ∷ []) 4380 (1035086 ∷ [])
    ("      0       1 begin-proof                                             "
    ∷ "      1       7 or           4            ABCDEFGHI,ABCDEFGHI,ABCDEFGHI,"
    ∷ "                                          ABCDEFGHI/1                   "
    ∷ "      2       5 forall       3            ABCDEFGHI,ABCDEFGHI,ABCDEFGHI,"
    ∷ "                                          ABCDEFGHI                     "
    ∷ "      3       4 forall       2            ABCDEFGHI,ABCDEFGHI,ABCDEFGHI "
    ∷ "      4       3 forall       1            ABCDEFGHI,ABCDEFGHI           "
    ∷ "      5       2 forall       0            ABCDEFGHI                     "
    ∷ "      6       8 prove-goal                                              "
    ∷ [])
    "                                                                       1"
    -- and not three, where the last has eleven
    ∷ lays three_q nine_s (as_numbers (1 ∷ 6 ∷ 4 ∷ 3 ∷ 2 ∷ 7 ∷ [])) 1 (7 ∷ []) 4380 (510798 ∷ [])
    ("      0       1 begin-proof                                             "
    ∷ "      1       6 or           3            ABCDEFGHI,ABCDEFGHI,          "
    ∷ "                                          ABCDEFGHI/1                   "
    ∷ "      2       4 forall       2            ABCDEFGHI,ABCDEFGHI,ABCDEFGHI "
    ∷ "      3       3 forall       1            ABCDEFGHI,ABCDEFGHI           "
    ∷ "      4       2 forall       0            ABCDEFGHI                     "
    ∷ "      5       7 prove-goal                                              "
    ∷ [])
    "                                                                       1"
    -- a carried line may be the next page's first: lines 1 to 59 are those of 2 steps and 28 more, and the first of the next
    ∷ lays four_q twelve_s (as_numbers (0 ∷ 1 ∷ (replicate 29 7 ++ (5 ∷ 4 ∷ 3 ∷ 2 ∷ 8 ∷ [])))) 2 (7 ∷ []) 4380 (1026894 ∷ [])
    ("                                          ABCDEFGHIJKL,ABCDEFGHIJKL/1   "
    ∷ "     31       5 forall       3            ABCDEFGHIJKL,ABCDEFGHIJKL,    "
    ∷ "                                          ABCDEFGHIJKL,ABCDEFGHIJKL     "
    ∷ "     32       4 forall       2            ABCDEFGHIJKL,ABCDEFGHIJKL,    "
    ∷ "                                          ABCDEFGHIJKL                  "
    ∷ "     33       3 forall       1            ABCDEFGHIJKL,ABCDEFGHIJKL     "
    ∷ "     34       2 forall       0            ABCDEFGHIJKL                  "
    ∷ "     35       8 prove-goal                                              "
    ∷ [])
    "                                                                       2"
    -- an `every` line: a round's end has nothing but its kind, and a mark the relation's name and its tuple
    ∷ lays lost_q two (as_numbers lost_steps) 1 (7 ∷ []) 4380 (105670398874444 ∷ [])
    ("      0       0 set          T            0                             "
    ∷ "      1       1 set          T            1                             "
    ∷ "      2       2 begin-proof                                             "
    ∷ "      3       5 or           1            0/0                           "
    ∷ "      4       7 or           1            1/0                           "
    ∷ "      5       3 forall       0            0                             "
    ∷ "      6       4 forall       0            1                             "
    ∷ "      7       9 round-end                                               "
    ∷ "      8      10 mark-in      L            0                             "
    ∷ "      9       5 or           1            0/0                           "
    ∷ "     10       7 or           1            1/0                           "
    ∷ "     11       3 forall       0            0                             "
    ∷ "     12       4 forall       0            1                             "
    ∷ "     13       9 round-end                                               "
    ∷ "     14      12 mark-out     L            0                             "
    ∷ "     15      11 mark-in      L            1                             "
    ∷ "     16       5 or           1            0/0                           "
    ∷ "     17       7 or           1            1/0                           "
    ∷ "     18       3 forall       0            0                             "
    ∷ "     19       4 forall       0            1                             "
    ∷ "     20       9 round-end                                               "
    ∷ "     21      10 mark-in      L            0                             "
    ∷ "     22       5 or           1            0/0                           "
    ∷ "     23       7 or           1            1/0                           "
    ∷ "     24       3 forall       0            0                             "
    ∷ "     25       4 forall       0            1                             "
    ∷ "     26       9 round-end                                               "
    ∷ "     27      12 mark-out     L            0                             "
    ∷ "     28      13 mark-out     L            1                             "
    ∷ [])
    "                                                                       1"
    -- a name that fills its columns, before a pair
    ∷ lays cards_q twelve_s (as_numbers (0 ∷ 1 ∷ 4 ∷ 3 ∷ 2 ∷ 6 ∷ 7 ∷ 5 ∷ 3 ∷ 2 ∷ 6 ∷ 8 ∷ [])) 1 (7 ∷ []) 4380 (535372 ∷ [])
    ("      0       0 set          T            ABCDEFGHIJKL,ABCDEFGHIJKL     "
    ∷ "      1       1 begin-proof                                             "
    ∷ "      2       4 or           2            ABCDEFGHIJKL,ABCDEFGHIJKL/0   "
    ∷ "      3       3 forall       1            ABCDEFGHIJKL,ABCDEFGHIJKL     "
    ∷ "      4       2 forall       0            ABCDEFGHIJKL                  "
    ∷ "      5       6 round-end                                               "
    ∷ "      6       7 mark-in      LOST_CARDS_2 ABCDEFGHIJKL,ABCDEFGHIJKL     "
    ∷ "      7       5 or           2            ABCDEFGHIJKL,ABCDEFGHIJKL/1   "
    ∷ "      8       3 forall       1            ABCDEFGHIJKL,ABCDEFGHIJKL     "
    ∷ "      9       2 forall       0            ABCDEFGHIJKL                  "
    ∷ "     10       6 round-end                                               "
    ∷ "     11       8 mark-out     LOST_CARDS_2 ABCDEFGHIJKL,ABCDEFGHIJKL     "
    ∷ [])
    "                                                                       1"
    ∷ []

unfoldable pub pages_refused : List Row
pages_refused =
    -- page 0, one past the last, and any after it, once the steps are accepted: the last state is left
    refuses four_q twelve_s (as_numbers (0 ∷ 1 ∷ (replicate 29 7 ++ (5 ∷ 4 ∷ 3 ∷ 2 ∷ 8 ∷ [])))) 0 (7 ∷ []) 4380 13 0 (1026894 ∷ [])
    ∷ refuses four_q twelve_s (as_numbers (0 ∷ 1 ∷ (replicate 29 7 ++ (5 ∷ 4 ∷ 3 ∷ 2 ∷ 8 ∷ [])))) 3 (7 ∷ []) 4380 13 3 (1026894 ∷ [])
    ∷ refuses one_q one_s (as_numbers (0 ∷ 1 ∷ 2 ∷ 3 ∷ [])) 18446744073709551615 (7 ∷ []) 4380 13 18446744073709551615 (43854 ∷ [])
    -- the steps' own refusals come before the page's
    ∷ refuses one_q one_s (as_numbers (0 ∷ 1 ∷ 4 ∷ [])) 0 (7 ∷ []) 4380 13 2 (11082 ∷ [])
    ∷ refuses one_q one_s (as_numbers (0 ∷ 0 ∷ [])) 0 (7 ∷ []) 4380 14 1 (11081 ∷ [])
    ∷ refuses one_q one_s (as_numbers (0 ∷ 1 ∷ 2 ∷ [])) 2 (7 ∷ []) 4380 15 3 (43850 ∷ [])
    ∷ refuses one_q one_s (as_numbers []) 1 (7 ∷ []) 4380 15 0 (19273 ∷ [])
    -- 12 comes before them, for the state before the page
    ∷ refuses one_q one_s (as_numbers (4 ∷ [])) 0 [] 4379 12 1 []
    ∷ refuses one_q one_s (as_numbers (4 ∷ [])) 0 (7 ∷ []) 4379 12 4380 (7 ∷ [])
    ∷ refuses one_q one_s (as_numbers (0 ∷ 1 ∷ 2 ∷ 3 ∷ [])) 1 (7 ∷ []) 0 12 4380 (7 ∷ [])
    -- 11 before 12; a sheet before both
    ∷ refuses over_q sixty_four_s (as_numbers []) 0 [] 0 11 0 []
    ∷ refuses one_q one_s (as_text (bytes "step\t4\nstep\n")) 0 [] 0 2 7 []
    ∷ refuses one_q "size\t65\n" (as_numbers []) 0 [] 0 9 0 []
    -- the same with an `every` line: a page that is not there, a run that ends before the last round does, a step that may not be taken or is none
    ∷ refuses lost_q two (as_numbers lost_steps) 2 (7 ∷ []) 4380 13 2 (105670398874444 ∷ [])
    ∷ refuses lost_q two (as_numbers (0 ∷ 1 ∷ 2 ∷ 5 ∷ 7 ∷ 3 ∷ 4 ∷ 9 ∷ [])) 1 (7 ∷ []) 4380 15 8 (246407887229768 ∷ [])
    ∷ refuses lost_q two (as_numbers (0 ∷ 1 ∷ 2 ∷ 5 ∷ 7 ∷ 3 ∷ 4 ∷ 9 ∷ 10 ∷ 9 ∷ [])) 0 (7 ∷ []) 4380 14 9 (79282119807818 ∷ [])
    ∷ refuses lost_q two (as_numbers (lost_steps ++ (9 ∷ []))) 1 (7 ∷ []) 4380 14 29 (105670398874444 ∷ [])
    ∷ refuses lost_q two (as_numbers (lost_steps ++ (14 ∷ []))) 1 (7 ∷ []) 4380 13 29 (105670398874444 ∷ [])
    -- 23 before 12, and 11 before 23
    ∷ refuses lost_q "size\t9\n" (as_numbers (0 ∷ [])) 0 [] 0 23 0 []
    ∷ refuses "choose\tT\t3\nevery\tL\t2\nrule\t(forall (?a ?b ?c ?d) (T ?a ?b ?c))\n" "size\t64\n" (as_numbers []) 0 [] 0 11 0 []
    ∷ []

pub laid_are_so : all is_so pages_laid ≡ true
unfolding everything line sheet leaves is_so pages_laid sheet_q one_q one_s both_s four_q three_q either_q nine_s twelve_s lost_q two lost_steps cards_q
laid_are_so = refl

pub refused_are_so : all is_so pages_refused ≡ true
unfolding everything leaves is_so pages_refused one_q one_s over_q sixty_four_s four_q twelve_s lost_q two lost_steps
refused_are_so = refl
