-- Whole outcomes: for each call the reply and every lent buffer at once, word for word, where the other tables look at one of them.
-- Each row stands for a mistake that none of those would show.
use Rattle.std.specs.Prelude.{◌≡◌, refl, ℕ, Bool, true, ◌&&◌, List, [], ◌∷◌, replicate, eqb}
use Prim.Native.String.{String}
use Rattle.definitions.specs.Limits.{usual}
use Rattle.definitions.specs.Lists.{all, same}
use Rattle.definitions.specs.Sheet.Text.{bytes}
use Rattle.definitions.specs.Refusal.{Result}
use Rattle.definitions.specs.Reply.Outcome.{reply_number, reply_place, ThirdInput, as_text, as_numbers, Checked, check_steps, PicksRead, picks_from_steps, StepsBuilt, build_steps}
use Rattle.definitions.specs.Table.Opened.{everything}
use Rattle.definitions.specs.Table.Drawer

-- A question, a site and what is handed over; the buffers as they are lent; the reply's number and place; the buffers afterwards.
pub data Row : Type 0 where
  checks : (question site : String) (steps : ThirdInput) (state : List ℕ) (number place : ℕ) (state' : List ℕ) → Row
  reads : (question site : String) (steps : ThirdInput) (picks state : List ℕ) (number place : ℕ) (picks' state' : List ℕ) → Row
  builds : (question site : String) (picks : ThirdInput) (state steps : List ℕ) (number place : ℕ) (state' steps' : List ℕ) → Row

unfoldable pub replies : Result ℕ → ℕ → ℕ → Bool
replies r number place = eqb (reply_number r) number && eqb (reply_place r) place

unfoldable pub checked_as : Checked → ℕ → ℕ → List ℕ → Bool
checked_as c number place state = replies c.answer number place && same c.state state

unfoldable pub read_as : PicksRead → ℕ → ℕ → List ℕ → List ℕ → Bool
read_as c number place picks state = replies c.answer number place && same c.picks picks && same c.state state

unfoldable pub built_as : StepsBuilt → ℕ → ℕ → List ℕ → List ℕ → Bool
built_as c number place state steps = replies c.answer number place && same c.state state && same c.steps steps

unfoldable pub row_is_so : Row → Bool
row_is_so (checks q s steps state k place state') = checked_as (check_steps usual (bytes q) (bytes s) steps state) k place state'
row_is_so (reads q s steps picks state k place picks' state') = read_as (picks_from_steps usual (bytes q) (bytes s) steps picks state) k place picks' state'
row_is_so (builds q s picks state steps k place state' steps') = built_as (build_steps usual (bytes q) (bytes s) picks state steps) k place state' steps'

-- a function that is total; two relations to choose; a plain relation before a total function; more atoms than are allowed
unfoldable pub fun_q : String
fun_q = "choose\tF\tFun\nrule\t(forall (?x) (EQ ?x ?x))\n"

unfoldable pub two_q : String
two_q = "choose\tT\t1\nchoose\tU\t1\nrule\t(exists (?x) (U ?x))\n"

unfoldable pub mixed_q : String
mixed_q = "choose\tT\t1\nchoose\tF\tFun\nrule\t(forall (?x) (EQ ?x ?x))\n"

unfoldable pub over_q : String
over_q = "choose\tT\t3\nrule\t(forall (?a ?b ?c ?d) (or (T ?a ?b ?c) (T ?b ?c ?d)))\n"

unfoldable pub two_s : String
two_s = "size\t2\n"

unfoldable pub sixty_four_s : String
sixty_four_s = "size\t64\n"

-- lent buffers as they come: two words, twelve entries
unfoldable pub sevens : List ℕ
sevens = 7 ∷ 7 ∷ []

unfoldable pub nines : List ℕ
nines = replicate 12 9

pub rows : List Row
rows =
    -- building writes the state and the steps, tells their count, and leaves what lies past them
    builds Drawer.one_q Drawer.one_s (as_text (bytes "pick\tT\t0\n")) sevens (9 ∷ 9 ∷ 9 ∷ 9 ∷ 9 ∷ 9 ∷ []) 0 4 (43854 ∷ 7 ∷ []) (0 ∷ 1 ∷ 2 ∷ 3 ∷ 9 ∷ 9 ∷ [])
    -- reading writes the picks and the state; where the goal is missed the state alone; checking the state
    ∷ reads Drawer.sheet_q Drawer.sheet_s (as_numbers (1 ∷ 2 ∷ 5 ∷ 8 ∷ 3 ∷ 4 ∷ 9 ∷ [])) sevens sevens 0 7 (2 ∷ 7 ∷ []) (135563371254606 ∷ 7 ∷ [])
    ∷ reads Drawer.sheet_q Drawer.sheet_s (as_numbers (1 ∷ 2 ∷ 5 ∷ 8 ∷ 3 ∷ 4 ∷ [])) sevens sevens 15 6 sevens (135563371254602 ∷ 7 ∷ [])
    ∷ checks Drawer.sheet_q Drawer.sheet_s (as_numbers (1 ∷ 2 ∷ 5 ∷ 8 ∷ 3 ∷ 4 ∷ 9 ∷ [])) sevens 0 7 (135563371254606 ∷ 7 ∷ [])
    ∷ checks Drawer.sheet_q Drawer.sheet_s (as_text (bytes "step\t1\nstep\t2\n")) sevens 15 2 (3621975921482 ∷ 7 ∷ [])
    -- 12: state before steps, picks before state; SAT needs three words of state and one of picks
    ∷ builds Drawer.one_q Drawer.one_s (as_text []) [] [] 12 1 [] []
    ∷ builds Drawer.sat_q Drawer.sat_s (as_text []) [] [] 12 3 [] []
    ∷ reads Drawer.sat_q Drawer.sat_s (as_numbers []) [] [] 12 1 [] []
    -- 12 before 10; 10 before 16; 16 before 17
    ∷ builds Drawer.sheet_q Drawer.sheet_s (as_numbers (6 ∷ [])) [] nines 12 1 [] nines
    ∷ builds Drawer.sheet_q Drawer.sheet_s (as_numbers (6 ∷ [])) sevens nines 10 0 sevens nines
    ∷ builds fun_q two_s (as_text (bytes "pick\tF\t0\t0\npick\tF\t0\t1\n")) sevens nines 16 0 sevens nines
    -- words of two relations: each from a word of its own, the spare one counted from the first of all
    ∷ builds two_q two_s (as_numbers (0 ∷ 4 ∷ [])) sevens nines 10 1 sevens nines
    ∷ builds two_q two_s (as_numbers (0 ∷ 1 ∷ [])) sevens nines 0 4 (14170415600462 ∷ 7 ∷ []) (2 ∷ 4 ∷ 5 ∷ 7 ∷ replicate 8 9)
    ∷ builds two_q two_s (as_numbers (1 ∷ 0 ∷ [])) sevens nines 17 0 sevens nines
    -- 11 comes after what the third sheet is refused for
    ∷ checks over_q sixty_four_s (as_text (bytes "x\n")) [] 2 0 []
    ∷ builds over_q sixty_four_s (as_text (bytes "x\n")) [] [] 2 0 [] []
    ∷ builds over_q sixty_four_s (as_text []) [] [] 11 0 [] []
    -- a total kind after one that is not
    ∷ builds mixed_q two_s (as_text (bytes "pick\tF\t0\t1\npick\tF\t1\t1\n")) sevens (replicate 20 9) 0 11 (71544548628009806 ∷ 7 ∷ []) (3 ∷ 5 ∷ 6 ∷ 13 ∷ 15 ∷ 10 ∷ 11 ∷ 8 ∷ 9 ∷ 7 ∷ 16 ∷ replicate 9 9)
    -- totality is proved by a tuple, not by a first place that is no longer free
    ∷ checks fun_q two_s (as_numbers (0 ∷ 2 ∷ 4 ∷ 10 ∷ [])) [] 12 1 []
    ∷ checks fun_q two_s (as_numbers (0 ∷ 2 ∷ 4 ∷ 10 ∷ [])) (0 ∷ []) 15 4 (1131583467066186 ∷ [])
    ∷ checks fun_q two_s (as_numbers (0 ∷ 2 ∷ 4 ∷ 11 ∷ [])) (0 ∷ []) 14 3 (5683560223562 ∷ [])
    ∷ []

pub rows_are_so : all row_is_so rows ≡ true
unfolding everything row_is_so replies checked_as read_as built_as rows fun_q two_q mixed_q over_q two_s sixty_four_s sevens nines Drawer.sheet_q Drawer.sheet_s Drawer.sat_q Drawer.sat_s Drawer.one_q Drawer.one_s
rows_are_so = refl
