-- Cases of document 02, job 13, as a table with one theorem for the whole.
use Rattle.std.specs.Prelude.{◌≡◌, refl, ℕ, Bool, true, List, [], ◌∷◌}
use Prim.Native.String.{String}
use Rattle.definitions.specs.Limits.{usual}
use Rattle.definitions.specs.Lists.{all}
use Rattle.definitions.specs.Sheet.Text.{bytes}
use Rattle.definitions.specs.Table.Opened.{everything}
use Rattle.definitions.specs.Table.Whole.{replies, fun_q, over_q, two_s, sixty_four_s}
use Rattle.definitions.specs.Table.EveryCases.{lost_q, unused_q}
use Rattle.definitions.specs.Reply.Monotone.{monotone}

-- a question and a site, and the reply's number and place
pub record Row : Type 0 where
  pub question : String
  pub site : String
  pub number : ℕ
  pub place : ℕ

unfoldable pub asked : (question site : String) (number place : ℕ) → Row
asked question site number place = record { question = question; site = site; number = number; place = place }

unfoldable pub is_so : Row → Bool
is_so row = replies (monotone usual (bytes row.question) (bytes row.site)) row.number row.place

unfoldable pub rows : List Row
rows =
    -- yes; no, since even all tuples do not do
    asked "rel\tD\t1\nchoose\tT\t1\nrule\t(forall (?x) (or (D ?x) (T ?x)))\n" two_s 0 0
    ∷ asked "choose\tT\t1\nrule\t(exists (?x) (and (T ?x) (LT ?x ?x)))\n" two_s 21 0
    -- negation that is pushed inward: twice is none, and the first part of `implies` is negated
    ∷ asked "choose\tT\t1\nrule\t(not (exists (?x) (not (T ?x))))\n" two_s 0 0
    ∷ asked "choose\tT\t1\nrule\t(forall (?x) (implies (T ?x) (T ?x)))\n" two_s 24 0
    ∷ asked "choose\tT\t1\nrule\t(forall (?x) (implies (not (T ?x)) (T ?x)))\n" two_s 0 0
    -- a `rel` and a built-in relation may be negated, a `choose` may not
    ∷ asked "rel\tD\t1\nchoose\tT\t1\nrule\t(exists (?x) (and (T ?x) (not (D ?x)) (not (ZERO ?x))))\n" two_s 0 0
    ∷ asked "rel\tD\t1\nchoose\tT\t1\nrule\t(exists (?x) (or (D ?x) (not (T ?x))))\n" two_s 24 0
    -- a function kind is outside the profile, used or not; 24 before 21
    ∷ asked fun_q two_s 24 0
    ∷ asked "choose\tT\t1\nchoose\tF\tPFun\nrule\t(forall (?x) (T ?x))\n" two_s 24 0
    ∷ asked "choose\tF\tPInj\nrule\t(exists (?x) (LT ?x ?x))\n" two_s 24 0
    -- more cells than are searched
    ∷ asked "choose\tT\t2\nrule\t(forall (?x ?y) (T ?x ?y))\n" "size\t5\n" 0 0
    -- nor any `every` line, whatever the rule says of it; too many tuples of its relation are 23 first
    ∷ asked lost_q two_s 24 0
    ∷ asked unused_q two_s 24 0
    ∷ asked unused_q "size\t9\n" 23 0
    -- 11 before 24; the question first, then the site
    ∷ asked over_q sixty_four_s 11 0
    ∷ asked "x\n" "x\n" 2 0
    ∷ asked fun_q "size\t0\n" 9 0
    ∷ []

pub rows_are_so : all is_so rows ≡ true
unfolding everything asked is_so rows replies fun_q over_q two_s sixty_four_s lost_q unused_q
rows_are_so = refl
