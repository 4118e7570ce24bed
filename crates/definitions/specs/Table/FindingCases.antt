-- Cases of document 02, job 7, as a table with one theorem for the whole.
use Rattle.std.specs.Prelude.{◌≡◌, refl, ℕ, Bool, true, ◌&&◌, List, [], ◌∷◌}
use Prim.Native.String.{String}
use Rattle.definitions.specs.Limits.{usual}
use Rattle.definitions.specs.Lists.{all, same}
use Rattle.definitions.specs.Sheet.Text.{bytes}
use Rattle.definitions.specs.Table.Opened.{everything}
use Rattle.definitions.specs.Table.Drawer.{sat_q, sat_s}
use Rattle.definitions.specs.Table.Whole.{replies, over_q, two_s, sixty_four_s}
use Rattle.definitions.specs.Table.EveryCases.{lost_q}
use Rattle.definitions.specs.Reply.Finding.{find, Found}

-- a question and a site, the picks' buffer as it is lent, the reply's number and place, and the buffer afterwards
pub record Row : Type 0 where
  pub question : String
  pub site : String
  pub lent : List ℕ
  pub number : ℕ
  pub place : ℕ
  pub left : List ℕ

unfoldable pub found : (question site : String) (lent : List ℕ) (number place : ℕ) (left : List ℕ) → Row
found question site lent number place left = record { question = question; site = site; lent = lent; number = number; place = place; left = left }

unfoldable pub matches : Found → Row → Bool
matches f row = replies f.answer row.number row.place && same f.picks row.left

unfoldable pub is_so : Row → Bool
is_so row = matches (find usual (bytes row.question) (bytes row.site) row.lent) row

-- some door; one of two relations at each door; a function without a fixed point; a group for each door, no two the same; more than there can
-- be; doors of two types
unfoldable pub some_q : String
some_q = "choose\tT\t1\nrule\t(exists (?x) (T ?x))\n"

unfoldable pub either_q : String
either_q = "choose\tT\t1\nchoose\tU\t1\nrule\t(forall (?x) (or (T ?x) (U ?x)))\n"

unfoldable pub moves_q : String
moves_q = "choose\tF\tInj\nrule\t(forall (?x) (not (F ?x ?x)))\n"

unfoldable pub apart_q : String
apart_q = "choose\tF\tPInj\nrule\t(forall (?x) (exists (?y) (F ?x ?y)))\n"

unfoldable pub rises_q : String
rises_q = "choose\tF\tInj\nrule\t(forall (?x) (exists (?y) (and (F ?x ?y) (LT ?x ?y))))\n"

unfoldable pub never_q : String
never_q = "choose\tT\t1\nrule\t(exists (?x) (and (T ?x) (not (T ?x))))\n"

unfoldable pub none_q : String
none_q = "choose\tT\t2\nrule\t(forall (?x ?y) (implies (T ?x ?y) (LT ?y ?x)))\n"

unfoldable pub typed_q : String
typed_q = "type\tDOOR\ntype\tZONE\nchoose\tF\tFun\tDOOR\tZONE\nrule\t(forall (?x:DOOR) (not (F ?x ?x)))\n"

unfoldable pub typed_s : String
typed_s = "size\t3\nmember\tDOOR\t1\nmember\tDOOR\t2\nmember\tZONE\t0\nmember\tZONE\t1\n"

unfoldable pub rows : List Row
rows =
    -- the first cell has the highest weight, so the least picks are late ones; what lies past the needed words stays
    found some_q "size\t3\n" (7 ∷ 7 ∷ []) 0 0 (4 ∷ 7 ∷ [])
    ∷ found either_q two_s (7 ∷ 7 ∷ []) 0 0 (0 ∷ 3 ∷ [])
    -- no picks at all may do
    ∷ found none_q two_s (7 ∷ []) 0 0 (0 ∷ [])
    -- the declared kinds belong to it, totality too, and their types
    ∷ found moves_q two_s (7 ∷ []) 0 0 (6 ∷ [])
    ∷ found apart_q two_s (7 ∷ []) 0 0 (6 ∷ [])
    ∷ found rises_q two_s (7 ∷ []) 21 0 (7 ∷ [])
    ∷ found typed_q typed_s (7 ∷ []) 0 0 (136 ∷ [])
    -- document 000's sentence
    ∷ found sat_q sat_s (7 ∷ []) 0 0 (0 ∷ [])
    -- none is 21, and the buffer is left alone
    ∷ found never_q "size\t4\n" (7 ∷ []) 21 0 (7 ∷ [])
    -- twenty-one cells are 20, also where no picks would do, or types leave fewer
    ∷ found some_q "size\t21\n" (7 ∷ []) 20 0 (7 ∷ [])
    ∷ found never_q "size\t21\n" (7 ∷ []) 20 0 (7 ∷ [])
    ∷ found typed_q "size\t5\nmember\tDOOR\t1\nmember\tZONE\t0\n" (7 ∷ []) 20 0 (7 ∷ [])
    -- 12 before 20 and 21, with the words that are needed
    ∷ found some_q "size\t21\n" [] 12 1 []
    ∷ found never_q two_s [] 12 1 []
    ∷ found either_q two_s (7 ∷ []) 12 2 (7 ∷ [])
    -- an `every` line is 23, before 12
    ∷ found lost_q two_s (7 ∷ []) 23 0 (7 ∷ [])
    ∷ found lost_q two_s [] 23 0 []
    -- 11 before 12 and 20; the question first, then the site
    ∷ found over_q sixty_four_s [] 11 0 []
    ∷ found "x\n" "x\n" [] 2 0 []
    ∷ found some_q "size\t0\n" [] 9 0 []
    ∷ []

pub rows_are_so : all is_so rows ≡ true
unfolding everything found matches is_so rows replies some_q either_q moves_q apart_q rises_q never_q none_q typed_q typed_s over_q two_s sixty_four_s sat_q sat_s lost_q
rows_are_so = refl
