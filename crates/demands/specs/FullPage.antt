-- A page that is full and the last: the 59 lines of its steps, and no page after it. Beside the table of `definitions`, `PageCases`.
use Rattle.std.specs.Prelude.{◌≡◌, refl, true, List, [], ◌∷◌, ◌++◌, replicate}
use Rattle.definitions.specs.Lists.{all}
use Rattle.definitions.specs.Reply.Outcome.{as_numbers}
use Rattle.definitions.specs.Table.Opened.{everything}
use Rattle.definitions.specs.Table.PageCases.{Row, lays, refuses, is_so, leaves, sheet, line, four_q, twelve_s}

unfoldable pub full_pages : List Row
full_pages =
    lays four_q twelve_s (as_numbers (0 ∷ 1 ∷ (replicate 25 7 ++ (5 ∷ 4 ∷ 3 ∷ 2 ∷ 8 ∷ [])))) 1 (7 ∷ []) 4380 (1026894 ∷ [])
    ("      0       0 set          T            ABCDEFGHIJKL                  "
    ∷ "      1       1 begin-proof                                             "
    ∷ "      2       7 or           4            ABCDEFGHIJKL,ABCDEFGHIJKL,    "
    ∷ "                                          ABCDEFGHIJKL,ABCDEFGHIJKL/1   "
    ∷ "      3       7 or           4            ABCDEFGHIJKL,ABCDEFGHIJKL,    "
    ∷ "                                          ABCDEFGHIJKL,ABCDEFGHIJKL/1   "
    ∷ "      4       7 or           4            ABCDEFGHIJKL,ABCDEFGHIJKL,    "
    ∷ "                                          ABCDEFGHIJKL,ABCDEFGHIJKL/1   "
    ∷ "      5       7 or           4            ABCDEFGHIJKL,ABCDEFGHIJKL,    "
    ∷ "                                          ABCDEFGHIJKL,ABCDEFGHIJKL/1   "
    ∷ "      6       7 or           4            ABCDEFGHIJKL,ABCDEFGHIJKL,    "
    ∷ "                                          ABCDEFGHIJKL,ABCDEFGHIJKL/1   "
    ∷ "      7       7 or           4            ABCDEFGHIJKL,ABCDEFGHIJKL,    "
    ∷ "                                          ABCDEFGHIJKL,ABCDEFGHIJKL/1   "
    ∷ "      8       7 or           4            ABCDEFGHIJKL,ABCDEFGHIJKL,    "
    ∷ "                                          ABCDEFGHIJKL,ABCDEFGHIJKL/1   "
    ∷ "      9       7 or           4            ABCDEFGHIJKL,ABCDEFGHIJKL,    "
    ∷ "                                          ABCDEFGHIJKL,ABCDEFGHIJKL/1   "
    ∷ "     10       7 or           4            ABCDEFGHIJKL,ABCDEFGHIJKL,    "
    ∷ "                                          ABCDEFGHIJKL,ABCDEFGHIJKL/1   "
    ∷ "     11       7 or           4            ABCDEFGHIJKL,ABCDEFGHIJKL,    "
    ∷ "                                          ABCDEFGHIJKL,ABCDEFGHIJKL/1   "
    ∷ "     12       7 or           4            ABCDEFGHIJKL,ABCDEFGHIJKL,    "
    ∷ "                                          ABCDEFGHIJKL,ABCDEFGHIJKL/1   "
    ∷ "     13       7 or           4            ABCDEFGHIJKL,ABCDEFGHIJKL,    "
    ∷ "                                          ABCDEFGHIJKL,ABCDEFGHIJKL/1   "
    ∷ "     14       7 or           4            ABCDEFGHIJKL,ABCDEFGHIJKL,    "
    ∷ "                                          ABCDEFGHIJKL,ABCDEFGHIJKL/1   "
    ∷ "     15       7 or           4            ABCDEFGHIJKL,ABCDEFGHIJKL,    "
    ∷ "                                          ABCDEFGHIJKL,ABCDEFGHIJKL/1   "
    ∷ "     16       7 or           4            ABCDEFGHIJKL,ABCDEFGHIJKL,    "
    ∷ "                                          ABCDEFGHIJKL,ABCDEFGHIJKL/1   "
    ∷ "     17       7 or           4            ABCDEFGHIJKL,ABCDEFGHIJKL,    "
    ∷ "                                          ABCDEFGHIJKL,ABCDEFGHIJKL/1   "
    ∷ "     18       7 or           4            ABCDEFGHIJKL,ABCDEFGHIJKL,    "
    ∷ "                                          ABCDEFGHIJKL,ABCDEFGHIJKL/1   "
    ∷ "     19       7 or           4            ABCDEFGHIJKL,ABCDEFGHIJKL,    "
    ∷ "                                          ABCDEFGHIJKL,ABCDEFGHIJKL/1   "
    ∷ "     20       7 or           4            ABCDEFGHIJKL,ABCDEFGHIJKL,    "
    ∷ "                                          ABCDEFGHIJKL,ABCDEFGHIJKL/1   "
    ∷ "     21       7 or           4            ABCDEFGHIJKL,ABCDEFGHIJKL,    "
    ∷ "                                          ABCDEFGHIJKL,ABCDEFGHIJKL/1   "
    ∷ "     22       7 or           4            ABCDEFGHIJKL,ABCDEFGHIJKL,    "
    ∷ "                                          ABCDEFGHIJKL,ABCDEFGHIJKL/1   "
    ∷ "     23       7 or           4            ABCDEFGHIJKL,ABCDEFGHIJKL,    "
    ∷ "                                          ABCDEFGHIJKL,ABCDEFGHIJKL/1   "
    ∷ "     24       7 or           4            ABCDEFGHIJKL,ABCDEFGHIJKL,    "
    ∷ "                                          ABCDEFGHIJKL,ABCDEFGHIJKL/1   "
    ∷ "     25       7 or           4            ABCDEFGHIJKL,ABCDEFGHIJKL,    "
    ∷ "                                          ABCDEFGHIJKL,ABCDEFGHIJKL/1   "
    ∷ "     26       7 or           4            ABCDEFGHIJKL,ABCDEFGHIJKL,    "
    ∷ "                                          ABCDEFGHIJKL,ABCDEFGHIJKL/1   "
    ∷ "     27       5 forall       3            ABCDEFGHIJKL,ABCDEFGHIJKL,    "
    ∷ "                                          ABCDEFGHIJKL,ABCDEFGHIJKL     "
    ∷ "     28       4 forall       2            ABCDEFGHIJKL,ABCDEFGHIJKL,    "
    ∷ "                                          ABCDEFGHIJKL                  "
    ∷ "     29       3 forall       1            ABCDEFGHIJKL,ABCDEFGHIJKL     "
    ∷ "     30       2 forall       0            ABCDEFGHIJKL                  "
    ∷ "     31       8 prove-goal                                              "
    ∷ [])
    "                                                                       1"
    ∷ refuses four_q twelve_s (as_numbers (0 ∷ 1 ∷ (replicate 25 7 ++ (5 ∷ 4 ∷ 3 ∷ 2 ∷ 8 ∷ [])))) 2 (7 ∷ []) 4380 13 2 (1026894 ∷ [])
    ∷ []

pub full_are_so : all is_so full_pages ≡ true
unfolding everything line sheet leaves is_so full_pages four_q twelve_s
full_are_so = refl
