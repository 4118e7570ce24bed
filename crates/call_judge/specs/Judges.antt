-- Judging from words: the order of refusals after the texts, one law for each place where it can end.
use Rattle.std.specs.Prelude.{ℕ, zero, suc, ◌&&◌, ◌+◌, ◌^◌, ◌≤◌, ◌<◌, ◌≡◌, Bool, List, ◌++◌}
use Rattle.std.proofs.Math.Path.{refl, sym, ap}
use Rattle.std.proofs.Common.{add-one, subst, ◌∙◌, pow_mono}
use Rattle.std.proofs.Math.Bool.{true, false}
use Rattle.std.proofs.Math.Option.{none, some}
use Rattle.std.proofs.Math.ListN.{length}
use Rattle.definitions.specs.Limits.{CaseLimits, usual}
use Rattle.definitions.specs.Lists.{all, from, below, position}
use Rattle.std.specs.List.{list_all, range_with_len}
use Rattle.definitions.specs.Refusal.{Result, refused, accepted, ◌>>=◌, refuse_if}
use Rattle.definitions.specs.Sheet.Relations.{Tuple}
use Rattle.definitions.specs.Problem.Truth.{Case, are_picks, every_tuples, values, every_value, rule_holds, rule_is_true, first_of_other_kind}
use Rattle.definitions.specs.Problem.Atoms.{Problem, problem_of}
use Rattle.definitions.specs.Problem.Built.{chosen_numbers}
use Rattle.definitions.specs.Reply.Outcome.{CaseRead, read_filed, ground, Ready, asked, nothing, ThirdInput, as_text, picks_room, text_picks, take_picks, picks_length, spare_word, kind_refusal, satisfying}
use Rattle.definitions.specs.Reply.Judgement.{judge}
use Rattle.laws.specs.Asked as Order
use Rattle.bits.specs.Table.{bit, Words}
use Rattle.laws.specs.Reader.{Accepted}
use Rattle.rule_nodes.specs.Tables.{Fits}
use Rattle.rule_nodes.specs.declared.Nodes.{Nodes}
use Rattle.problem_table.specs.Of.{Is}
use Rattle.problem_layout.specs.declared.Relations.{Relations}
use Rattle.problem_layout.specs.declared.Ranges.{Ranges}
use Rattle.problem_layout.specs.Laid.{RangesFit, RangesAre, Inputs}
use Rattle.step_start.specs.Initial.{FactsIn}
use Rattle.step_picks.specs.Tests.{told, broken_at}
use Rattle.step_picks.specs.Words.{rows_in, PicksAre}
use Rattle.step_picks.specs.KindLaws.{kinds_are}
use Rattle.eval_table.specs.Lined.{Lined}
use Rattle.eval_table.specs.Numbers.{LinesOf}
use Rattle.read_sheets.specs.declared.Opened.{Opened}
use Rattle.read_sheets.specs.Opening.{Holds, FiledRead}
use Rattle.refusal.specs.declared.Refusal.{Refusal}
use Rattle.refusal.specs.declared.Cause.TheVariants.{OtherKind, Repeated, RuleFalse, ShortBuffer}
use Rattle.refusal.specs.Numbers.{number_of}
use Rattle.std.specs.Prelude.{Ok, Err, Some, None}
use Rattle.std.specs.Prelude as P
use Rattle.open_case.specs.Replies.{Reply, result_of}
use Rattle.open_case.specs.Known.{facts_held, room_short, room_there}
use Rattle.step_picks.specs.Picked.{front_picks}
use Rattle.step_picks.specs.Handed.{decided, Handed, spare_refused, spare_clear}
use Rattle.problem_relations.specs.Bare.{bare, kinds_same}

-- 16, 17, yes
unfoldable pub verdict : Case → List Tuple → Result ℕ
verdict c F = decided c (problem_of c) F >>= λ _. accepted zero

-- an accepted case was read
pub record AcceptedIn (s : List ℕ) (o : Opened) (facts : ℕ → Bool) : Type 0 where
  pub case : Case
  pub accepted_case : Accepted case
  pub holds : Holds s case o facts

-- the ranges of n elements and of so many types, by their words of members
pub record Ranged (n types : ℕ) (w : List ℕ) (ranges : Ranges) : Type 0 where
  pub some : 0 < n
  pub few : n ≤ 64
  pub types_le : types ≤ 8
  pub there : types ≤ length w
  pub fit : RangesFit n ranges
  pub are : RangesAre n w types ranges

-- relations and nodes are those of an accepted case
pub record SomeCase (n : ℕ) (w : List ℕ) (types : ℕ) (g : Relations) (t : Nodes) : Type 0 where
  pub case : Case
  pub accepted_case : Accepted case
  pub inputs : Inputs (problem_of case) n w types g t

-- relations, nodes, facts and words are those of a case and its picks
pub record Judged (c : Case) (F : List Tuple) (n : ℕ) (w : List ℕ) (types : ℕ) (g : Relations) (t : Nodes) (facts words : List ℕ) : Type 0 where
  pub accepted_case : Accepted c
  pub picks : are_picks c F ≡ true
  pub inputs : Inputs (problem_of c) n w types g t
  pub facts_in : FactsIn (problem_of c) facts
  pub picked : PicksAre (problem_of c) words F

-- ... and this is whether the rule holds of them, beside a value
abbrev pub HoldsWith : ℕ → List ℕ → ℕ → Relations → Nodes → (facts words : List ℕ) → ℕ → Bool → Type 0
HoldsWith n w types g t facts words value r = (c : Case) (F : List Tuple) → Judged c F n w types g t facts words → r ≡ rule_holds c (F ++ every_value c value)

-- the table is too
pub record Asks (c : Case) (F : List Tuple) (n : ℕ) (w : List ℕ) (types : ℕ) (g : Relations) (t : Nodes) (table facts words : List ℕ) : Type 0 where
  pub judged : Judged c F n w types g t facts words
  pub is : Is (bare (problem_of c)) table

-- what is promised of judging words: they have 64 bits each, and whatever case and picks they are of, this is answered
pub record FromWords (question : List ℕ) (o : Opened) (facts : ℕ → Bool) (words : List ℕ) (r : Reply) : Type 0 where
  pub fit : Words words
  pub judges : (site : List ℕ) (picks : ThirdInput) (x : CaseRead) → read_filed usual question site ≡ accepted x → Holds question x.case o facts → Accepted x.case
      → (given F : List Tuple) → Handed x.case x.labels picks words given F → result_of r ≡ judge usual question site picks

-- and of picks as a text, by the labels that were read
abbrev pub FromText : (question site : List ℕ) → Opened → List ℕ → (ℕ → Bool) → List ℕ → Reply → Type 0
FromText question site o labels facts text r = FiledRead question site (read_filed usual question site) (Ok o) labels facts → result_of r ≡ judge usual question site (as_text text)

-- ---- lines of a case
pub lines_of : (c : Case) (n : ℕ) (ms : List ℕ) (types : ℕ) (ranges : Ranges) (g : Relations) (t : Nodes) (w : List ℕ) → Ranged n types ms ranges → Fits t → Inputs (problem_of c) n ms types g t → (value : ℕ) → Lined n value ms types ranges.count g t w → LinesOf c n value w
lines_of c n ms types ranges g t w R f i value l = record { relations = g; nodes = t; some = R.some; size = R.few; members = ms; types = types; ranges = ranges; counted = R.are; inputs = i; fits = f; lined = l }

pub values_are : (c : Case) (k : ℕ) → k ≡ every_tuples c → 2 ^ k ≡ values c
unfolding values
values_are c k e = ap (λ (x : ℕ). 2 ^ x) e

pub few_values : (k : ℕ) → k ≤ 8 → 2 ^ k ≤ 256
few_values k h = pow_mono {i = k} {j = 8} h

-- ---- 16, 17, yes
module _ (c : Case) (F : List Tuple) (n : ℕ) (ms : List ℕ) (types : ℕ) (g : Relations) (t : Nodes) (table facts words : List ℕ) (asks : Asks c F n ms types g t table facts words) (k : P.Option ℕ)
    (e : told k ≡ position (broken_at (bare (problem_of c)) (rows_in (bare (problem_of c)) words)) (chosen_numbers (bare (problem_of c)))) where
  kinds_told : told k ≡ first_of_other_kind c F
  kinds_told = e ∙ kinds_same (problem_of c) words ∙ kinds_are c asks.judged.accepted_case F asks.judged.picks words asks.judged.picked

  pub decides_kind : (i : ℕ) → k ≡ Some i → result_of (Err (record { cause = OtherKind; place = i })) ≡ verdict c F
  unfolding verdict decided satisfying take_picks kind_refusal told ◌>>=◌
  decides_kind i q = let z : first_of_other_kind c F ≡ some i = sym kinds_told ∙ ap told q in rw z refl

  module _ (q : k ≡ None) (b : Bool) (f : b ≡ rule_is_true c F) where
    none_told : first_of_other_kind c F ≡ none
    unfolding told
    none_told = sym kinds_told ∙ ap told q

    pub decides_yes : b ≡ true → result_of (Ok 0) ≡ verdict c F
    unfolding verdict decided satisfying take_picks kind_refusal refuse_if ◌>>=◌
    decides_yes y = let z : rule_is_true c F ≡ true = sym f ∙ y in rw (none_told, z) refl

    pub decides_no : b ≡ false → result_of (Err (record { cause = RuleFalse; place = 0 })) ≡ verdict c F
    unfolding verdict decided satisfying take_picks kind_refusal refuse_if ◌>>=◌
    decides_no y = let z : rule_is_true c F ≡ false = sym f ∙ y in rw (none_told, z) refl

-- ---- the places where judging can end
module _ (L : CaseLimits) (question site : List ℕ) (picks : ThirdInput) where
  abbrev opening : Result (Ready (List Tuple))
  opening = asked L question site (λ x. text_picks x.case x.labels picks) nothing nothing (λ p. picks_room p picks)

  -- refused before the picks are taken
  pub ends : (e : Refusal) → opening ≡ refused (number_of e.cause) e.place → result_of (Err e) ≡ judge L question site picks
  unfolding judge ◌>>=◌
  ends e h = rw h refl

  -- from words, by whether the limits refuse the case
  module _ (x : CaseRead) (read : read_filed L question site ≡ accepted x) (words : List ℕ) (given F : List Tuple) (handed : Handed x.case x.labels picks words given F) where
    abbrev c : Case
    c = x.case

    abbrev p : Problem
    p = problem_of c

    pub ends_over : (e : Refusal) → ground L c ≡ refused (number_of e.cause) e.place → result_of (Err e) ≡ judge L question site picks
    ends_over e g = ends e (Order.limits_refused L question site _ _ _ _ x read given handed.is_read (Order.untested c) (number_of e.cause) e.place g)

    module _ (grounded : ground L c ≡ accepted p) where
      module _ (k : ℕ) (q : k ≡ picks_length p) where
        pub ends_short : length words < k → result_of (Err (record { cause = ShortBuffer; place = k })) ≡ judge L question site picks
        ends_short h =
            let b = handed.room_is ∙ room_short (picks_length p) (length words) (subst (λ (x : ℕ). length words < x) q h) in
            ends (record { cause = ShortBuffer; place = k }) (Order.room_refused L question site _ _ _ _ x read given handed.is_read (Order.untested c) p grounded (Order.untested c) 12 (picks_length p) b ∙ ap (refused 12) (sym q))

        module _ (room : k ≤ length words) (s : P.Option ℕ) (e : told s ≡ spare_word p words zero (chosen_numbers p)) where
          judged_then : judge L question site picks ≡ (satisfying c p picks given >>= λ _. accepted zero)
          unfolding judge ◌>>=◌
          judged_then =
              let b = handed.room_is ∙ room_there (picks_length p) (length words) (subst (λ (x : ℕ). x ≤ length words) q room) in
              let d : opening ≡ accepted (record { case = c; labels = x.labels; problem = p; third = given }) = Order.ready L question site _ _ _ _ x read given handed.is_read (Order.untested c) p grounded (Order.untested c) b in
              rw d refl

          pub ends_spare : (j : ℕ) → s ≡ Some j → result_of (Err (record { cause = Repeated; place = j })) ≡ judge L question site picks
          unfolding told ◌>>=◌
          ends_spare j z = sym (judged_then ∙ rw (spare_refused c x.labels picks words given F handed j (sym e ∙ ap told z)) refl)

          module _ (z : s ≡ None) where
            clear : spare_word p words zero (chosen_numbers p) ≡ none
            unfolding told
            clear = sym e ∙ ap told z

            pub ends_judged : (r : Reply) → result_of r ≡ verdict c F → result_of r ≡ judge L question site picks
            unfolding verdict
            ends_judged r v = v ∙ sym (judged_then ∙ rw (spare_clear c x.labels picks words given F handed clear) refl)

            -- what is handed on to decide
            pub asks_of : (o' : Opened) (facts : List ℕ) → Holds question c o' (bit facts) → Accepted c → (n : ℕ) (ms : List ℕ) (types : ℕ) (g : Relations) (t : Nodes) (table : List ℕ)
                → Inputs p n ms types g t → Is (bare p) table → Asks c F n ms types g t table facts words
            asks_of o' facts h A n ms types g t table i is =
                let (a, front) = handed.held (subst (λ (x : ℕ). x ≤ length words) q room) clear in
                record { judged = record { accepted_case = A; picks = a; inputs = i; facts_in = facts_held question c o' facts h; picked = front_picks p F words front }; is = is }

-- the numbers below n, as the library has them
every_from : (test : ℕ → Bool) (a n : ℕ) → list_all test (range_with_len a n) ≡ all test (from a n)
unfolding all from
every_from test a zero = refl
every_from test a (suc n) = rw add-one (ap (λ (b : Bool). test a && b) (every_from test (suc a) n))

pub true_with_all : (c : Case) (F : List Tuple) (r : Bool) (count : ℕ) → count ≡ values c → r ≡ list_all (λ (k : ℕ). rule_holds c (F ++ every_value c k)) (range_with_len 0 count) → r ≡ rule_is_true c F
unfolding rule_is_true below
true_with_all c F r count e h = h ∙ every_from (λ (k : ℕ). rule_holds c (F ++ every_value c k)) 0 count ∙ ap (λ (n : ℕ). all (λ (k : ℕ). rule_holds c (F ++ every_value c k)) (from 0 n)) e
