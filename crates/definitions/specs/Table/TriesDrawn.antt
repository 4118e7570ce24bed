-- Cases of our own for many step lists, as a table with one theorem for the whole. The case ONE has the actions 0 (set), 1
-- (begin-proof), 2 (its node) and 3 (prove-goal), and its initial state is the word 19273.
use Rattle.std.specs.Prelude.{◌≡◌, refl, ℕ, Bool, true, ◌&&◌, List, [], ◌∷◌, eqb}
use Prim.Native.String.{String}
use Rattle.definitions.specs.Limits.{usual}
use Rattle.definitions.specs.Lists.{all, same, flat_map}
use Rattle.definitions.specs.Sheet.Text.{bytes}
use Rattle.definitions.specs.Reply.Outcome.{reply_number, reply_place}
use Rattle.definitions.specs.Reply.Tries.{Try, try_lists}
use Rattle.definitions.specs.Table.Opened.{everything}
use Rattle.definitions.specs.Table.Drawer.{one_q, one_s}

-- a record whose number and place are still 7
unfoldable pub list : ℕ → ℕ → Try
list first len = record { first = first; len = len; number = 7; place = 7 }

-- What a row says: for lent steps, lists and a state, the call's number and place, the records (four numbers each) and the state after.
pub record Row : Type 0 where
  pub question : String
  pub site : String
  pub steps : List ℕ
  pub lists : List Try
  pub state : List ℕ
  pub number : ℕ
  pub place : ℕ
  pub after : List ℕ
  pub left : List ℕ

unfoldable pub is_so : Row → Bool
is_so row =
    let r = try_lists usual (bytes row.question) (bytes row.site) row.steps row.lists row.state in
    eqb (reply_number r.answer) row.number && eqb (reply_place r.answer) row.place
    && same (flat_map (λ t. t.first ∷ t.len ∷ t.number ∷ t.place ∷ []) r.tries) row.after && same r.state row.left

-- lists tried of ONE
unfoldable pub one : (steps : List ℕ) (lists : List Try) (state after left : List ℕ) → Row
one steps lists state after left =
    record { question = one_q; site = one_s; steps = steps; lists = lists; state = state; number = 0; place = 0; after = after; left = left }

-- a case refused before any list: of the record and the state nothing moves
unfoldable pub refused_case : (question site : String) (state : List ℕ) (number place : ℕ) → Row
refused_case question site state number place =
    record { question = question; site = site; steps = 0 ∷ 1 ∷ []; lists = list 0 2 ∷ []; state = state; number = number; place = place; after = 0 ∷ 2 ∷ 7 ∷ 7 ∷ []; left = state }

unfoldable pub rows : List Row
rows =
    -- an accepted list, the same after it, and each refusal of a run; lists that overlap
    one (0 ∷ 1 ∷ 2 ∷ 3 ∷ 4 ∷ []) (list 0 4 ∷ list 0 4 ∷ list 1 3 ∷ list 4 1 ∷ list 0 3 ∷ []) (7 ∷ 7 ∷ []) (0 ∷ 4 ∷ 0 ∷ 4 ∷ 0 ∷ 4 ∷ 0 ∷ 4 ∷ 1 ∷ 3 ∷ 14 ∷ 1 ∷ 4 ∷ 1 ∷ 13 ∷ 0 ∷ 0 ∷ 3 ∷ 15 ∷ 3 ∷ []) (19273 ∷ 7 ∷ [])
    -- an empty list, at the end of the steps too; one past the end is 12, with the sum
    ∷ one (0 ∷ 1 ∷ []) (list 0 0 ∷ list 2 0 ∷ list 3 0 ∷ list 1 2 ∷ []) (7 ∷ []) (0 ∷ 0 ∷ 15 ∷ 0 ∷ 2 ∷ 0 ∷ 15 ∷ 0 ∷ 3 ∷ 0 ∷ 12 ∷ 3 ∷ 1 ∷ 2 ∷ 12 ∷ 3 ∷ []) (19273 ∷ [])
    -- a sum past 2^32; 1,048,576 steps are not too many, one more is 1 and not 12; the list after them is still tried
    ∷ one
    (0 ∷ 1 ∷ 2 ∷ 3 ∷ [])
    (list 4294967295 4 ∷ list 0 1048576 ∷ list 0 1048577 ∷ list 4294967295 4294967295 ∷ list 0 4 ∷ [])
    (7 ∷ [])
    (4294967295 ∷ 4 ∷ 12 ∷ 4294967299 ∷ 0 ∷ 1048576 ∷ 12 ∷ 1048576 ∷ 0 ∷ 1048577 ∷ 1 ∷ 0 ∷ 4294967295 ∷ 4294967295 ∷ 1 ∷ 0 ∷ 0 ∷ 4 ∷ 0 ∷ 4 ∷ [])
    (19273 ∷ [])
    -- two lists, the second of which could be taken only where the first ended
    ∷ one (0 ∷ 1 ∷ 2 ∷ 3 ∷ []) (list 0 2 ∷ list 2 2 ∷ []) (7 ∷ []) (0 ∷ 2 ∷ 15 ∷ 2 ∷ 2 ∷ 2 ∷ 14 ∷ 0 ∷ []) (19273 ∷ [])
    -- no lists, and no steps
    ∷ one [] [] (7 ∷ 7 ∷ []) [] (19273 ∷ 7 ∷ [])
    -- a case with types: its steps, the chain in another order, a number past the last action
    ∷ record {
      question = "type\tSPOT\nchoose\tT\t1\nrule\t(forall (?x:SPOT) (T ?x))\n";
      site = "size\t5\nmember\tSPOT\t3\nmember\tSPOT\t1\n";
      steps = 1 ∷ 3 ∷ 5 ∷ 6 ∷ 7 ∷ 8 ∷ 1 ∷ 3 ∷ 5 ∷ 7 ∷ 9 ∷ [];
      lists = list 0 6 ∷ list 0 5 ∷ list 6 4 ∷ list 10 1 ∷ list 10 2 ∷ [];
      state = 7 ∷ 7 ∷ 7 ∷ 7 ∷ [];
      number = 0;
      place = 0;
      after = 0 ∷ 6 ∷ 0 ∷ 6 ∷ 0 ∷ 5 ∷ 15 ∷ 5 ∷ 6 ∷ 4 ∷ 14 ∷ 3 ∷ 10 ∷ 1 ∷ 13 ∷ 0 ∷ 10 ∷ 2 ∷ 12 ∷ 12 ∷ [];
      left = 8345098623681331721 ∷ 292805984782926092 ∷ 34919971821182845 ∷ 7 ∷ [];
    }
    -- no room for the state; a question, a site and atoms that are refused
    ∷ refused_case one_q one_s [] 12 1
    ∷ refused_case "choose\tT\t1\n" one_s (7 ∷ []) 3 11
    ∷ refused_case one_q "size\t65\n" (7 ∷ []) 9 0
    ∷ refused_case "choose\tT\t1\nrule\t(forall (?a ?b ?c ?d) (or (LT ?a ?b) (LT ?c ?d)))\n" "size\t64\n" (7 ∷ []) 11 0
    ∷ []

pub rows_are_so : all is_so rows ≡ true
unfolding everything is_so list one refused_case rows one_q one_s
rows_are_so = refl
