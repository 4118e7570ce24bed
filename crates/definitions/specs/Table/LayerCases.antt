-- Cases of document 02, job 2, and one theorem for the whole table.
use Rattle.std.specs.Prelude.{◌≡◌, refl, ℕ, Bool, true, false, ◌&&◌, List, [], ◌∷◌, replicate, eqb}
use Prim.Native.String.{String}
use Rattle.definitions.specs.Limits.{usual}
use Rattle.definitions.specs.Lists.{all, same}
use Rattle.definitions.specs.Sheet.Text.{bytes}
use Rattle.definitions.specs.Refusal.{Result, refused, accepted}
use Rattle.definitions.specs.Reply.Outcome.{as_text, as_numbers, reply_number, reply_place}
use Rattle.definitions.specs.Reply.Layers.{Window, window_of, check_layers, LayersBuilt, build_layers}
use Rattle.definitions.specs.Table.Opened.{everything}
use Rattle.definitions.specs.Table.EveryCases.{lost_q}
use Rattle.definitions.specs.Table.Drawer.{refusal_matches, sheet_q, sheet_s, sat_q, sat_s, one_q, one_s, inj_q, inj_s}

-- The window of a case, or how the call refuses; the reply to a layered plan, number and place, and what the state's buffer then holds;
-- the reply to picks, and what the three buffers then hold.
pub data Claim : Type 0 where
  window_is : (question site : String) → (lower upper : ℕ) → Claim
  no_window : (question site : String) → (number place : ℕ) → Claim
  checks : (question site : String) → (steps ends state : List ℕ) → (number place : ℕ) → (left : List ℕ) → Claim
  builds : (question site picks : String) → (state steps ends : List ℕ) → (number place : ℕ) → (state' steps' ends' : List ℕ) → Claim
  builds_from_words : (question site : String) → (words state steps ends : List ℕ) → (number place : ℕ) → (state' steps' ends' : List ℕ) → Claim

unfoldable pub window_matches : Result Window → ℕ → ℕ → Bool
window_matches (refused k place) l u = false
window_matches (accepted w) l u = eqb w.lower l && eqb w.upper u

-- a reply and the buffers after it
unfoldable pub built_matches : LayersBuilt → ℕ → ℕ → List ℕ → List ℕ → List ℕ → Bool
built_matches b k place state steps ends =
    eqb (reply_number b.answer) k && eqb (reply_place b.answer) place && same b.state state && same b.steps steps && same b.ends ends

unfoldable pub is_so : Claim → Bool
is_so (window_is q s l u) = window_matches (window_of usual (bytes q) (bytes s)) l u
is_so (no_window q s k place) = refusal_matches (window_of usual (bytes q) (bytes s)) k place
is_so (checks q s steps ends state k place left) =
    let c = check_layers usual (bytes q) (bytes s) steps ends state in
    eqb (reply_number c.answer) k && eqb (reply_place c.answer) place && same c.state left
is_so (builds q s picks state steps ends k place st ss es) = built_matches (build_layers usual (bytes q) (bytes s) (as_text (bytes picks)) state steps ends) k place st ss es
is_so (builds_from_words q s words state steps ends k place st ss es) = built_matches (build_layers usual (bytes q) (bytes s) (as_numbers words) state steps ends) k place st ss es

-- buffers are lent as sevens
unfoldable pub sevens : ℕ → List ℕ
sevens k = replicate k 7

-- a rule that is true by its first part, its second being deeper; a variable over two of three elements
unfoldable pub either_q : String
either_q = "choose\tT\t1\nrule\t(or (exists (?x) (ZERO ?x)) (forall (?x) (exists (?y) (T ?y))))\n"

unfoldable pub typed_q : String
typed_q = "type\tDOOR\nchoose\tT\t1\nrule\t(forall (?y:DOOR) (T ?y))\n"

unfoldable pub typed_s : String
typed_s = "size\t3\nmember\tDOOR\t0\nmember\tDOOR\t2\n"

-- a case with an `every` line, the steps that are built for it, in four rounds, and its picks
unfoldable pub rounds_q : String
rounds_q = "choose\tF\tFun\nchoose\tGOAL\t1\nchoose\tPLAN\tInj\nevery\tDOWN\t1\nrule\t(forall (?z) (or (GOAL ?z) (not (DOWN ?z)) (exists (?abcdefg) (and (not (LT ?z ?abcdefg)) (DOWN ?abcdefg)))))\n"

unfoldable pub rounds_steps : List ℕ
rounds_steps =
    0 ∷ 3 ∷ 4 ∷ 5 ∷ 7 ∷ 8 ∷ 10 ∷ 37 ∷ 38 ∷ 34 ∷ 35 ∷ 30 ∷ 33 ∷ 28 ∷ 29 ∷ 14 ∷ 17 ∷ 12 ∷ 13 ∷ 11
    ∷ 40 ∷ 41 ∷ 37 ∷ 38 ∷ 34 ∷ 35 ∷ 30 ∷ 33 ∷ 28 ∷ 29 ∷ 24 ∷ 26 ∷ 20 ∷ 22 ∷ 14 ∷ 17 ∷ 12 ∷ 13 ∷ 11 ∷ 40
    ∷ 43 ∷ 42 ∷ 37 ∷ 38 ∷ 34 ∷ 35 ∷ 30 ∷ 33 ∷ 28 ∷ 29 ∷ 27 ∷ 23 ∷ 14 ∷ 17 ∷ 12 ∷ 13 ∷ 11 ∷ 40 ∷ 41 ∷ 37
    ∷ 38 ∷ 34 ∷ 35 ∷ 30 ∷ 33 ∷ 28 ∷ 29 ∷ 24 ∷ 26 ∷ 27 ∷ 20 ∷ 22 ∷ 14 ∷ 17 ∷ 12 ∷ 13 ∷ 11 ∷ 40 ∷ 43 ∷ 44
    ∷ []

unfoldable pub rounds_picks : String
rounds_picks = "pick\tF\t0\t0\npick\tF\t1\t1\npick\tGOAL\t0\npick\tGOAL\t1\npick\tPLAN\t0\t1\npick\tPLAN\t1\t0\n"

pub table : List Claim
table =
    -- windows: SAT with n 3; the drawer's sheet; ONE; a totality and the `and` that joins it; an `or` of parts that differ; two members
    -- of three elements
    window_is sat_q sat_s 8 9
    ∷ window_is sheet_q sheet_s 5 6
    ∷ window_is one_q one_s 3 4
    ∷ window_is inj_q inj_s 6 7
    ∷ window_is either_q "size\t3\n" 4 8
    ∷ window_is typed_q typed_s 4 5
    -- the question, the site
    ∷ no_window "choose\tT\t1\n" "" 3 11
    ∷ no_window one_q "size\t65\n" 9 0
    -- 23, in all three calls: after the third input, before 12; with few values or too many
    ∷ no_window rounds_q "size\t2\n" 23 0
    ∷ checks rounds_q "size\t2\n" rounds_steps (80 ∷ []) [] 23 0 []
    ∷ checks rounds_q "size\t2\n" rounds_steps (80 ∷ 0 ∷ []) [] 3 1 []
    ∷ builds rounds_q "size\t2\n" rounds_picks [] [] [] 23 0 [] [] []
    ∷ builds rounds_q "size\t2\n" "pick\tDOWN\t0\n" [] [] [] 7 0 [] [] []
    ∷ builds_from_words rounds_q "size\t2\n" [] [] [] [] 23 0 [] [] []
    ∷ no_window lost_q "size\t9\n" 23 0
    ∷ checks lost_q "size\t1\n" (0 ∷ 1 ∷ 3 ∷ 2 ∷ 5 ∷ 6 ∷ 3 ∷ 2 ∷ 5 ∷ 7 ∷ []) (1 ∷ 2 ∷ 3 ∷ 4 ∷ 5 ∷ 6 ∷ 7 ∷ 8 ∷ 9 ∷ 10 ∷ []) (7 ∷ []) 23 0 (7 ∷ [])
    -- layers of one step each; with empty ones; a node step and prove-goal that stand twice
    ∷ checks one_q one_s (0 ∷ 1 ∷ 2 ∷ 3 ∷ []) (1 ∷ 2 ∷ 3 ∷ 4 ∷ []) (7 ∷ 7 ∷ []) 0 4 (43854 ∷ 7 ∷ [])
    ∷ checks one_q one_s (0 ∷ 1 ∷ 2 ∷ 3 ∷ []) (0 ∷ 1 ∷ 1 ∷ 2 ∷ 3 ∷ 4 ∷ 4 ∷ []) (7 ∷ 7 ∷ []) 0 7 (43854 ∷ 7 ∷ [])
    ∷ checks one_q one_s (0 ∷ 1 ∷ 2 ∷ 2 ∷ 3 ∷ 3 ∷ []) (1 ∷ 2 ∷ 4 ∷ 6 ∷ []) (7 ∷ 7 ∷ []) 0 4 (43854 ∷ 7 ∷ [])
    -- 14: a set step twice; set before begin-proof in a layer, and after it; begin-proof twice; what a layer adds is not there for it
    ∷ checks one_q one_s (0 ∷ 0 ∷ 1 ∷ 2 ∷ 3 ∷ []) (2 ∷ 3 ∷ 4 ∷ 5 ∷ []) (7 ∷ 7 ∷ []) 14 0 (19273 ∷ 7 ∷ [])
    ∷ checks one_q one_s (0 ∷ 1 ∷ []) (2 ∷ []) (7 ∷ 7 ∷ []) 14 0 (19273 ∷ 7 ∷ [])
    ∷ checks one_q one_s (1 ∷ 0 ∷ []) (2 ∷ []) (7 ∷ 7 ∷ []) 14 0 (19273 ∷ 7 ∷ [])
    ∷ checks one_q one_s (1 ∷ 1 ∷ []) (2 ∷ []) (7 ∷ 7 ∷ []) 14 0 (19273 ∷ 7 ∷ [])
    ∷ checks one_q one_s (0 ∷ 1 ∷ 2 ∷ 3 ∷ []) (1 ∷ 3 ∷ 4 ∷ []) (7 ∷ 7 ∷ []) 14 1 (11081 ∷ 7 ∷ [])
    -- of an injective kind: one first place with two seconds, two firsts with one second, and neither
    ∷ checks inj_q inj_s (0 ∷ 1 ∷ []) (2 ∷ []) (7 ∷ []) 14 0 (140201935934281 ∷ [])
    ∷ checks inj_q inj_s (0 ∷ 2 ∷ []) (2 ∷ []) (7 ∷ []) 14 0 (140201935934281 ∷ [])
    ∷ checks inj_q inj_s (0 ∷ 3 ∷ []) (2 ∷ []) (7 ∷ []) 15 1 (3621975921481 ∷ [])
    -- 13 before 14 in a layer, the state before it left; 15 by the number of layers; no layers; one that is empty
    ∷ checks one_q one_s (1 ∷ 0 ∷ 9 ∷ []) (1 ∷ 3 ∷ []) (7 ∷ 7 ∷ []) 13 1 (19274 ∷ 7 ∷ [])
    ∷ checks one_q one_s (0 ∷ 1 ∷ 2 ∷ []) (1 ∷ 2 ∷ 3 ∷ []) (7 ∷ 7 ∷ []) 15 3 (43850 ∷ 7 ∷ [])
    ∷ checks one_q one_s [] [] (7 ∷ 7 ∷ []) 15 0 (19273 ∷ 7 ∷ [])
    ∷ checks one_q one_s [] (0 ∷ []) (7 ∷ 7 ∷ []) 15 1 (19273 ∷ 7 ∷ [])
    -- 3: steps without layers; an end that falls; a last end that misses; both; before 12
    ∷ checks one_q one_s (0 ∷ []) [] (7 ∷ 7 ∷ []) 3 0 (7 ∷ 7 ∷ [])
    ∷ checks one_q one_s (0 ∷ 1 ∷ 2 ∷ []) (2 ∷ 1 ∷ 3 ∷ []) (7 ∷ 7 ∷ []) 3 1 (7 ∷ 7 ∷ [])
    ∷ checks one_q one_s (0 ∷ 1 ∷ []) (3 ∷ 3 ∷ []) (7 ∷ 7 ∷ []) 3 1 (7 ∷ 7 ∷ [])
    ∷ checks one_q one_s (0 ∷ 1 ∷ []) (3 ∷ 2 ∷ []) (7 ∷ 7 ∷ []) 3 1 (7 ∷ 7 ∷ [])
    ∷ checks one_q one_s (0 ∷ 1 ∷ []) (1 ∷ 0 ∷ []) [] 3 1 []
    ∷ checks one_q one_s (0 ∷ 1 ∷ []) (1 ∷ 2 ∷ []) [] 12 1 []
    -- built: SAT in the window's upper number; without picks in the lower; ONE; the sheet; two members; where the goal is reached before the
    -- last layer; what lies past the steps and the ends stays
    ∷ builds sat_q sat_s "pick\tT\t0\npick\tT\t1\n" (7 ∷ 7 ∷ 7 ∷ []) (sevens 38) (sevens 9) 0 9 (7195926979266144398 ∷ 6070790304957223374 ∷ 4128 ∷ []) (0 ∷ 1 ∷ 3 ∷ 48 ∷ 34 ∷ 41 ∷ 16 ∷ 27 ∷ 30 ∷ 7 ∷ 12 ∷ 14 ∷ 4 ∷ 5 ∷ 6 ∷ 52 ∷ sevens 22) (2 ∷ 3 ∷ 6 ∷ 9 ∷ 12 ∷ 13 ∷ 14 ∷ 15 ∷ 16 ∷ [])
    ∷ builds sat_q sat_s "" (7 ∷ 7 ∷ 7 ∷ []) (sevens 38) (sevens 10) 0 8 (7195926979266144398 ∷ 963754507007447502 ∷ 13568 ∷ []) (3 ∷ 44 ∷ 46 ∷ 48 ∷ 49 ∷ 19 ∷ 23 ∷ 27 ∷ 29 ∷ 8 ∷ 10 ∷ 13 ∷ 4 ∷ 5 ∷ 6 ∷ 52 ∷ sevens 22) (1 ∷ 5 ∷ 9 ∷ 12 ∷ 13 ∷ 14 ∷ 15 ∷ 16 ∷ 7 ∷ 7 ∷ [])
    ∷ builds one_q one_s "pick\tT\t0\n" (7 ∷ []) (sevens 5) (sevens 4) 0 4 (43854 ∷ []) (0 ∷ 1 ∷ 2 ∷ 3 ∷ 7 ∷ []) (1 ∷ 2 ∷ 3 ∷ 4 ∷ [])
    ∷ builds sheet_q sheet_s "pick\tT\t1\n" (7 ∷ []) (sevens 8) (sevens 6) 0 6 (135563371254606 ∷ []) (1 ∷ 2 ∷ 5 ∷ 8 ∷ 3 ∷ 4 ∷ 9 ∷ 7 ∷ []) (1 ∷ 2 ∷ 4 ∷ 5 ∷ 6 ∷ 7 ∷ [])
    ∷ builds typed_q typed_s "pick\tT\t0\npick\tT\t2\n" (7 ∷ 7 ∷ []) (sevens 9) (sevens 7) 0 5 (7195926979266144398 ∷ 10926 ∷ []) (0 ∷ 2 ∷ 3 ∷ 4 ∷ 5 ∷ 6 ∷ 7 ∷ 7 ∷ 7 ∷ []) (2 ∷ 3 ∷ 4 ∷ 5 ∷ 6 ∷ 7 ∷ 7 ∷ [])
    ∷ builds either_q "size\t3\n" "pick\tT\t1\n" (7 ∷ 7 ∷ []) (sevens 13) (sevens 8) 0 6 (7195926979266144398 ∷ 130382 ∷ []) (1 ∷ 3 ∷ 13 ∷ 6 ∷ 9 ∷ 4 ∷ 10 ∷ 15 ∷ 11 ∷ sevens 4) (1 ∷ 2 ∷ 4 ∷ 6 ∷ 8 ∷ 9 ∷ 7 ∷ 7 ∷ [])
    -- 12: state, steps, ends, in this order, and before 17
    ∷ builds one_q one_s "pick\tT\t0\n" [] [] [] 12 1 [] [] []
    ∷ builds one_q one_s "pick\tT\t0\n" (7 ∷ []) (7 ∷ 7 ∷ 7 ∷ []) [] 12 4 (7 ∷ []) (7 ∷ 7 ∷ 7 ∷ []) []
    ∷ builds one_q one_s "" (7 ∷ []) (sevens 4) (7 ∷ 7 ∷ 7 ∷ []) 12 4 (7 ∷ []) (sevens 4) (7 ∷ 7 ∷ 7 ∷ [])
    ∷ builds one_q one_s "" (7 ∷ []) (sevens 4) (sevens 4) 17 0 (7 ∷ []) (sevens 4) (sevens 4)
    ∷ builds_from_words one_q one_s [] [] [] [] 12 1 [] [] []
    ∷ builds_from_words one_q one_s (3 ∷ []) (7 ∷ []) (sevens 4) (sevens 4) 10 0 (7 ∷ []) (sevens 4) (sevens 4)
    ∷ []

pub table_is_so : all is_so table ≡ true
unfolding everything is_so window_matches built_matches refusal_matches sevens table lost_q rounds_q rounds_steps rounds_picks either_q typed_q typed_s sheet_q sheet_s sat_q sat_s one_q one_s inj_q inj_s
table_is_so = refl
