-- Cases of our own for judging, as a table with one theorem for the whole.
use Rattle.std.specs.Prelude.{◌≡◌, refl, ℕ, Bool, true, List, [], ◌∷◌}
use Prim.Native.String.{String}
use Rattle.definitions.specs.Limits.{usual}
use Rattle.definitions.specs.Lists.{all}
use Rattle.definitions.specs.Sheet.Text.{bytes}
use Rattle.definitions.specs.Reply.Outcome.{ThirdInput, as_text, as_numbers}
use Rattle.definitions.specs.Table.Opened.{everything}
use Rattle.definitions.specs.Table.Drawer
use Rattle.definitions.specs.Table.EveryCases.{lost_q}
use Rattle.definitions.specs.Table.Whole.{replies, fun_q, two_q, over_q, two_s, sixty_four_s}
use Rattle.definitions.specs.Reply.Judgement.{judge}

-- a question, a site and picks, and the reply's number and place
pub record Row : Type 0 where
  pub question : String
  pub site : String
  pub picks : ThirdInput
  pub number : ℕ
  pub place : ℕ

unfoldable pub judged : (question site : String) → ThirdInput → (number place : ℕ) → Row
judged question site picks number place = record { question = question; site = site; picks = picks; number = number; place = place }

unfoldable pub is_so : Row → Bool
is_so row = replies (judge usual (bytes row.question) (bytes row.site) row.picks) row.number row.place

-- a plain relation whose tuples leave spare bits, and a function kind of which two picks may be too many
unfoldable pub both_q : String
both_q = "choose\tT\t1\nchoose\tF\tPFun\nrule\t(exists (?x) (T ?x))\n"

-- a site with labels; types; a kind with types
unfoldable pub labels_s : String
labels_s = "size\t2\nlabel\t1\tYARD\nlabel\t0\tLOBBY\nfact\tD\tLOBBY\n"

unfoldable pub spot_q : String
spot_q = "type\tSPOT\nchoose\tT\t1\nrule\t(forall (?x:SPOT) (T ?x))\n"

unfoldable pub spot_s : String
spot_s = "size\t5\nmember\tSPOT\t3\nmember\tSPOT\t1\n"

unfoldable pub group_q : String
group_q = "type\tDOOR\ntype\tGROUP\nchoose\tG\tFun\tDOOR\tGROUP\nrule\t(forall (?x) (EQ ?x ?x))\n"

unfoldable pub group_s : String
group_s = "size\t5\nmember\tDOOR\t3\nmember\tDOOR\t0\nmember\tGROUP\t4\nmember\tGROUP\t1\nmember\tGROUP\t3\n"

unfoldable pub rows : List Row
rows =
    -- yes, from a text and from words; no is 17
    judged Drawer.one_q Drawer.one_s (as_text (bytes "pick\tT\t0\n")) 0 0
    ∷ judged two_q two_s (as_numbers (0 ∷ 1 ∷ [])) 0 0
    ∷ judged Drawer.one_q Drawer.one_s (as_text []) 17 0
    ∷ judged two_q two_s (as_numbers (3 ∷ 0 ∷ [])) 17 0
    -- the last element is a witness too; words past the needed ones are not looked at
    ∷ judged two_q two_s (as_numbers (0 ∷ 2 ∷ 4 ∷ [])) 0 0
    -- totality belongs to the rule
    ∷ judged fun_q two_s (as_text (bytes "pick\tF\t0\t1\n")) 17 0
    ∷ judged fun_q two_s (as_text (bytes "pick\tF\t0\t1\npick\tF\t1\t1\n")) 0 0
    -- 16 before 17; 10 before 16; 12 before 10, with the words that are needed
    ∷ judged both_q two_s (as_numbers (0 ∷ 3 ∷ [])) 16 1
    ∷ judged both_q two_s (as_numbers (0 ∷ 19 ∷ [])) 10 1
    ∷ judged both_q two_s (as_numbers (4 ∷ [])) 12 2
    -- with an `every` line the rule must be true for every value; 23 before 12
    ∷ judged lost_q two_s (as_text (bytes "pick\tT\t0\npick\tT\t1\n")) 0 0
    ∷ judged lost_q two_s (as_numbers (3 ∷ [])) 0 0
    ∷ judged lost_q two_s (as_numbers (1 ∷ [])) 17 0
    ∷ judged lost_q "size\t9\n" (as_numbers []) 23 0
    -- 11 before 12, and it is no yes; a text that is refused before 11
    ∷ judged over_q sixty_four_s (as_numbers []) 11 0
    ∷ judged over_q sixty_four_s (as_text []) 11 0
    ∷ judged over_q sixty_four_s (as_text (bytes "x\n")) 2 0
    -- the question first, then the site
    ∷ judged "x\n" "x\n" (as_text (bytes "x\n")) 2 0
    ∷ judged Drawer.one_q "size\t0\n" (as_text (bytes "x\n")) 9 0
    -- labels; types; a kind with types: 16 for a pick outside, 17 where a member of the first has no second
    ∷ judged Drawer.sheet_q labels_s (as_text (bytes "pick\tT\tYARD\n")) 0 0
    ∷ judged Drawer.sheet_q labels_s (as_text (bytes "pick\tT\tLOBBY\n")) 17 0
    ∷ judged Drawer.sheet_q labels_s (as_text (bytes "pick\tT\tGATE\n")) 18 0
    ∷ judged spot_q spot_s (as_text (bytes "pick\tT\t1\npick\tT\t3\n")) 0 0
    ∷ judged spot_q spot_s (as_numbers (21 ∷ [])) 17 0
    ∷ judged group_q group_s (as_text (bytes "pick\tG\t3\t1\npick\tG\t0\t4\n")) 0 0
    ∷ judged group_q group_s (as_text (bytes "pick\tG\t3\t1\npick\tG\t0\t2\n")) 16 0
    ∷ judged group_q group_s (as_text (bytes "pick\tG\t3\t1\n")) 17 0
    ∷ []

pub rows_are_so : all is_so rows ≡ true
unfolding everything judge judged is_so rows labels_s spot_q spot_s group_q group_s Drawer.sheet_q replies both_q lost_q fun_q two_q over_q two_s sixty_four_s Drawer.one_q Drawer.one_s
rows_are_so = refl
