-- Which numbers each call refuses with, whatever is handed over. Numbers come as lists, so that a later one joins where it belongs.
use Prim.Native.Nat.{ℕ, zero, suc, ◌<◌}
use Rattle.std.specs.Prelude.{◌≡◌, Bool, ltb, length, if◌then◌else◌}
use Rattle.std.proofs.Math.Path.{refl}
use Rattle.std.proofs.Common.{subst, arith}
use Rattle.std.proofs.Math.Bool.{true, false}
use Rattle.std.proofs.Math.Option.{Option, none, some}
use mathlib.Core.List.{List, [], ◌∷◌, ◌++◌}
use Rattle.definitions.specs.Limits.{CaseLimits, text_limit}
use Rattle.definitions.specs.Lists.{all, any, option, is_in}
use Rattle.definitions.specs.Sheet.Text.{Line, lines}
use Rattle.definitions.specs.Refusal.{Result, refused, accepted, ◌>>=◌, refuse_if, given, read_lines, read_text, case_numbers, ready_numbers, run_numbers, picks_numbers, find_numbers, monotone_numbers}
use Rattle.definitions.specs.Sheet.Relations.{Relation, Tuple}
use Rattle.definitions.specs.Sheet.Sheets.{Element, Entry, rel, type, choose, every, rule, size, label, member, fact, pick, step, entry_of, Draft, add_rel, add_type}
use Rattle.definitions.specs.Sheet.Sheets.{add_choose, add_every, add_rule, add_to_question, question_line, read_question, first_rel, Label, add_tuple, SiteDraft, add_size}
use Rattle.definitions.specs.Sheet.Sheets.{add_label, add_member, add_fact, add_to_site, site_line, read_site, add_to_picks, picks_line, read_picks, add_to_steps}
use Rattle.definitions.specs.Sheet.Sheets.{steps_line, read_steps}
use Rattle.definitions.specs.Problem.Truth.{Case, first_of_other_kind}
use Rattle.definitions.specs.Problem.Atoms.{Problem, goal, atom_number, State, initial}
use Rattle.definitions.specs.Problem.Actions.{Action, action_at}
use Rattle.definitions.specs.Problem.Strips.{may_take, after, run_from, run}
use Rattle.definitions.specs.Problem.Built.{chosen_numbers, bound}
use Rattle.definitions.specs.Reply.Page.{page_bytes, page_of, laid, paged_from, page_rooms, lay_page}
use Rattle.definitions.specs.Reply.Judgement.{judge}
use Rattle.definitions.specs.Reply.Finding.{least_picks, found_words}
use Rattle.definitions.specs.Reply.Monotone.{monotone}
use Rattle.definitions.specs.Reply.Outcome.{without_every, CaseRead, read_filed, read_case, ground, read_problem, Ready, asked, nothing, satisfying, room_for, sizes, action}
use Rattle.definitions.specs.Reply.Outcome.{state_length, picks_length, ThirdInput, as_text, as_numbers, take_steps, text_picks, picks_room, spare_word, spare_refusal}
use Rattle.definitions.specs.Reply.Outcome.{take_picks, ready_to_run, checked_from, check_steps, picks_read_from, picks_from_steps, kind_refusal, Plan, plan}
use Rattle.definitions.specs.Reply.Outcome.{built_from, build_steps}
use Rattle.definitions.specs.Reply.Layers.{case_window, may_take_all, after_all, actions_at, run_layers_from, run_layers, ends_test, take_layers, window_of, layers_checked_from, check_layers, LayeredPlan, layered_plan, layers_built_from, build_layers}
use Rattle.laws.specs.Booleans.{T_of, T_true}
use Rattle.laws.specs.Lists.{all_at}
use Rattle.laws.specs.Members.{in_mem}

-- of an answer that is a refusal, what holds of its number
unfoldable pub Refuses : {A : Type 0} → (ℕ → Type 0) → Result A → Type 0
Refuses P (refused k place) = P k
Refuses P (accepted a) = Unit {0}

module _ (P : ℕ → Type 0) where
  pub bind_by : {A B : Type 0} (m : Result A) (f : A → Result B) → Refuses P m → ((a : A) → Refuses P (f a)) → Refuses P (m >>= f)
  unfolding Refuses ◌>>=◌
  bind_by (refused k place) f h g = h
  bind_by (accepted a) f h g = g a

  pub if_by : (b : Bool) (k at : ℕ) → P k → Refuses P (refuse_if b k at)
  unfolding Refuses refuse_if
  if_by true k at h = h
  if_by false k at h = tt

  pub given_by : {A : Type 0} (o : Option A) (k at : ℕ) → P k → Refuses P (given o k at)
  unfolding Refuses given
  given_by none k at h = h
  given_by (some a) k at h = tt

  pub accepted_by : {A : Type 0} (a : A) → Refuses P (accepted a)
  unfolding Refuses
  accepted_by a = tt

  refused_by : (A : Type 0) (k place : ℕ) → P k → Refuses {A = A} P (refused k place)
  unfolding Refuses
  refused_by A k place h = h

  lines_by : {S : Type 0} (line : S → Line → Result S) → ((s : S) (l : Line) → Refuses P (line s l)) → (s : S) (ls : List Line) → Refuses P (read_lines line s ls)
  unfolding read_lines
  lines_by line h s [] = accepted_by s
  lines_by line h s (l ∷ ls) = bind_by (line s l) (λ s'. read_lines line s' ls) (h s l) (λ s'. lines_by line h s' ls)

  pub text_by : {S : Type 0} (line : S → Line → Result S) → P 1 → ((s : S) (l : Line) → Refuses P (line s l)) → (s : S) (text : List ℕ) → Refuses P (read_text line s text)
  unfolding read_text
  text_by line p h s text = bind_by (refuse_if (ltb text_limit (length text)) 1 zero) _ (if_by (ltb text_limit (length text)) 1 zero p) (λ _. lines_by line h s (lines text))

pub weaken : {A : Type 0} {P Q : ℕ → Type 0} → ((k : ℕ) → P k → Q k) → (r : Result A) → Refuses P r → Refuses Q r
unfolding Refuses
weaken f (refused k place) h = f k h
weaken f (accepted a) h = tt

-- ---- one of a list of numbers; of two lists the one that has all of the other
abbrev pub In : List ℕ → ℕ → Type 0
In ns k = is_in k ns ≡ true

pub among : (ns ms : List ℕ) → all (λ k. is_in k ms) ns ≡ true → (k : ℕ) → In ns k → In ms k
among ns ms h k e = T_true (is_in k ms) (all_at (λ k. is_in k ms) ns (T_of h) k (in_mem k ns (T_of e)))

-- no refusal has number 0
pub not_zero : (k : ℕ) → In case_numbers k → 0 < k
unfolding is_in any
not_zero zero e = absurd (T_of e)
not_zero (suc k) e = omega arith

-- ---- reading the sheets and grounding
abbrev pub Sheet : ℕ → Type 0
Sheet = In case_numbers

entry_by : (l : Line) → Refuses Sheet (entry_of l)
unfolding entry_of is_in any
entry_by l = given_by Sheet _ 2 l.at refl

-- a record of another sheet
other : (A : Type 0) (at : ℕ) → Refuses {A = A} Sheet (refused 3 at)
unfolding is_in any
other A at = refused_by Sheet A 3 at refl

-- ---- the question
question_add : (d : Draft) (at : ℕ) (e : Entry) → Refuses Sheet (add_to_question d at e)
unfolding add_to_question add_rel add_type add_choose add_every add_rule is_in any
question_add d at (rel name arity) = bind_by Sheet _ _ (if_by Sheet _ 3 at refl) (λ _. bind_by Sheet _ _ (if_by Sheet _ 4 at refl) (λ _. accepted_by Sheet _))
question_add d at (type name) = bind_by Sheet _ _ (if_by Sheet _ 3 at refl) (λ _. bind_by Sheet _ _ (if_by Sheet _ 4 at refl) (λ _. bind_by Sheet _ _ (if_by Sheet _ 19 at refl) (λ _. accepted_by Sheet _)))
question_add d at (choose name arity kind types) = bind_by Sheet _ _ (if_by Sheet _ 3 at refl) (λ _. bind_by Sheet _ _ (if_by Sheet _ 4 at refl) (λ _. bind_by Sheet _ _ (if_by Sheet _ 19 at refl) (λ _. accepted_by Sheet _)))
question_add d at (every name arity) = bind_by Sheet _ _ (if_by Sheet _ 3 at refl) (λ _. bind_by Sheet _ _ (if_by Sheet _ 4 at refl) (λ _. accepted_by Sheet _))
question_add d at (rule text) = bind_by Sheet _ _ (if_by Sheet _ 3 at refl) (λ _. bind_by Sheet _ _ (given_by Sheet _ 5 at refl) (λ f. bind_by Sheet _ _ (if_by Sheet _ 6 at refl)
    (λ _. bind_by Sheet _ _ (if_by Sheet _ 7 at refl) (λ _. bind_by Sheet _ _ (if_by Sheet _ 8 at refl) (λ _. bind_by Sheet _ _ (if_by Sheet _ 19 at refl) (λ _. accepted_by Sheet _))))))
question_add d at (size n) = other Draft at
question_add d at (label x name) = other Draft at
question_add d at (member t x) = other Draft at
question_add d at (fact name xs) = other Draft at
question_add d at (pick name xs) = other Draft at
question_add d at (step k) = other Draft at

pub question_by : (text : List ℕ) → Refuses Sheet (read_question text)
unfolding read_question question_line is_in any
question_by text = bind_by Sheet _ _ (text_by Sheet question_line refl (λ d l. bind_by Sheet (entry_of l) _ (entry_by l) (question_add d l.at)) _ text) (λ d. bind_by Sheet _ _ (given_by Sheet d.ruled 3 (length text) refl) (λ r. accepted_by Sheet _))

-- ---- tuples, the site, picks, steps
tuple_by : (rs : List Relation) (first n : ℕ) (labels : List Label) (ts : List Tuple) (at : ℕ) (name : List ℕ) (es : List Element) → Refuses Sheet (add_tuple rs first n labels ts at name es)
unfolding add_tuple is_in any
tuple_by rs first n labels ts at name es =
    bind_by Sheet _ _ (given_by Sheet _ 7 at refl) (λ r. bind_by Sheet _ _ (if_by Sheet _ 9 at refl) (λ _. bind_by Sheet _ _ (given_by Sheet _ 18 at refl) (λ xs. bind_by Sheet _ _ (if_by Sheet _ 10 at refl) (λ _. accepted_by Sheet _))))

size_by : (L : CaseLimits) (d : SiteDraft) (at n : ℕ) (o : Option ℕ) → Refuses Sheet (add_size L d at n o)
unfolding add_size is_in any
size_by L d at n none = bind_by Sheet _ _ (if_by Sheet _ 9 at refl) (λ _. accepted_by Sheet _)
size_by L d at n (some m) = other SiteDraft at

label_by : (d : SiteDraft) (at : ℕ) (e : Element) (name : List ℕ) → Refuses Sheet (add_label d at e name)
unfolding add_label is_in any
label_by d at e name = bind_by Sheet _ _ (given_by Sheet d.sized 3 at refl) (λ n. bind_by Sheet _ _ (if_by Sheet _ 3 at refl) (λ _. bind_by Sheet _ _ (if_by Sheet _ 9 at refl)
    (λ _. bind_by Sheet _ _ (given_by Sheet _ 18 at refl) (λ x. bind_by Sheet _ _ (if_by Sheet _ 18 at refl) (λ _. accepted_by Sheet _)))))

member_by : (types : List (List ℕ)) (d : SiteDraft) (at : ℕ) (name : List ℕ) (e : Element) → Refuses Sheet (add_member types d at name e)
unfolding add_member is_in any
member_by types d at name e = bind_by Sheet _ _ (given_by Sheet d.sized 3 at refl) (λ n. bind_by Sheet _ _ (if_by Sheet _ 3 at refl) (λ _. bind_by Sheet _ _ (given_by Sheet _ 19 at refl)
    (λ k. bind_by Sheet _ _ (if_by Sheet _ 9 at refl) (λ _. bind_by Sheet _ _ (given_by Sheet _ 18 at refl) (λ x. bind_by Sheet _ _ (if_by Sheet _ 10 at refl) (λ _. accepted_by Sheet _))))))

site_add : (L : CaseLimits) (rels : List Relation) (types : List (List ℕ)) (d : SiteDraft) (at : ℕ) (e : Entry) → Refuses Sheet (add_to_site L rels types d at e)
unfolding add_to_site add_fact is_in any
site_add L rels types d at (rel name arity) = other SiteDraft at
site_add L rels types d at (type name) = other SiteDraft at
site_add L rels types d at (choose name arity kind names) = other SiteDraft at
site_add L rels types d at (every name arity) = other SiteDraft at
site_add L rels types d at (rule text) = other SiteDraft at
site_add L rels types d at (size n) = size_by L d at n d.sized
site_add L rels types d at (label x name) = label_by d at x name
site_add L rels types d at (member t x) = member_by types d at t x
site_add L rels types d at (fact name xs) = bind_by Sheet _ _ (given_by Sheet d.sized 3 at refl) (λ n. bind_by Sheet _ _ (tuple_by rels first_rel n d.labels d.facts at name xs) (λ ts. accepted_by Sheet _))
site_add L rels types d at (pick name xs) = other SiteDraft at
site_add L rels types d at (step k) = other SiteDraft at

pub site_by : (L : CaseLimits) (rels : List Relation) (types : List (List ℕ)) (text : List ℕ) → Refuses Sheet (read_site L rels types text)
unfolding read_site site_line is_in any
site_by L rels types text =
    bind_by Sheet _ _ (text_by Sheet (site_line L rels types) refl (λ d l. bind_by Sheet (entry_of l) _ (entry_by l) (site_add L rels types d l.at))
    _ text) (λ d. bind_by Sheet _ _ (given_by Sheet d.sized 3 (length text) refl)
    (λ n. bind_by Sheet _ _ (if_by Sheet _ 19 zero refl) (λ _. accepted_by Sheet _)))

picks_add : (rs : List Relation) (first n : ℕ) (labels : List Label) (ts : List Tuple) (at : ℕ) (e : Entry) → Refuses Sheet (add_to_picks rs first n labels ts at e)
unfolding add_to_picks
picks_add rs first n labels ts at (rel name arity) = other (List Tuple) at
picks_add rs first n labels ts at (type name) = other (List Tuple) at
picks_add rs first n labels ts at (choose name arity kind types) = other (List Tuple) at
picks_add rs first n labels ts at (every name arity) = other (List Tuple) at
picks_add rs first n labels ts at (rule text) = other (List Tuple) at
picks_add rs first n labels ts at (size m) = other (List Tuple) at
picks_add rs first n labels ts at (label x name) = other (List Tuple) at
picks_add rs first n labels ts at (member t x) = other (List Tuple) at
picks_add rs first n labels ts at (fact name xs) = other (List Tuple) at
picks_add rs first n labels ts at (pick name xs) = tuple_by rs first n labels ts at name xs
picks_add rs first n labels ts at (step k) = other (List Tuple) at

steps_add : (ks : List ℕ) (at : ℕ) (e : Entry) → Refuses Sheet (add_to_steps ks at e)
unfolding add_to_steps
steps_add ks at (rel name arity) = other (List ℕ) at
steps_add ks at (type name) = other (List ℕ) at
steps_add ks at (choose name arity kind types) = other (List ℕ) at
steps_add ks at (every name arity) = other (List ℕ) at
steps_add ks at (rule text) = other (List ℕ) at
steps_add ks at (size m) = other (List ℕ) at
steps_add ks at (label x name) = other (List ℕ) at
steps_add ks at (member t x) = other (List ℕ) at
steps_add ks at (fact name xs) = other (List ℕ) at
steps_add ks at (pick name xs) = other (List ℕ) at
steps_add ks at (step k) = accepted_by Sheet _

pub steps_by : (g : ThirdInput) → Refuses Sheet (take_steps g)
unfolding take_steps read_steps steps_line is_in any
steps_by (as_text text) = text_by Sheet steps_line refl (λ ks l. bind_by Sheet (entry_of l) _ (entry_by l) (steps_add ks l.at)) [] text
steps_by (as_numbers ks) = bind_by Sheet _ _ (if_by Sheet _ 1 zero refl) (λ _. accepted_by Sheet _)

picks_by : (c : Case) (labels : List Label) (g : ThirdInput) → Refuses Sheet (text_picks c labels g)
unfolding text_picks read_picks picks_line is_in any
picks_by c labels (as_text text) = text_by Sheet _ refl (λ ts l. bind_by Sheet (entry_of l) _ (entry_by l) (picks_add _ _ _ labels ts l.at)) [] text
picks_by c labels (as_numbers words) = accepted_by Sheet _

-- ---- whole calls
filed_by : (L : CaseLimits) (question site : List ℕ) → Refuses Sheet (read_filed L question site)
unfolding read_filed
filed_by L question site = bind_by Sheet _ _ (question_by question) (λ q. bind_by Sheet _ _ (site_by L q.rels q.types site) (λ s. accepted_by Sheet _))

case_by : (L : CaseLimits) (question site : List ℕ) → Refuses Sheet (read_case L question site)
unfolding read_case
case_by L question site = bind_by Sheet _ _ (filed_by L question site) (λ r. accepted_by Sheet _)

ground_by : (L : CaseLimits) (c : Case) → Refuses Sheet (ground L c)
unfolding ground is_in any
ground_by L c = bind_by Sheet _ _ (if_by Sheet _ 11 zero refl) (λ _. bind_by Sheet _ _ (if_by Sheet _ 23 zero refl) (λ _. accepted_by Sheet _))

abbrev pub Early : ℕ → Type 0
Early = In ready_numbers

pub sheet_early : (k : ℕ) → Sheet k → Early k
unfolding is_in all any
sheet_early = among case_numbers ready_numbers refl

pub room_by : (needed room : ℕ) → Refuses Early (room_for needed room)
unfolding room_for is_in any
room_by needed room = if_by Early _ 12 needed refl

pub nothing_by : {A : Type 0} (a : A) → Refuses Sheet (nothing a)
unfolding nothing
nothing_by a = accepted_by Sheet tt

-- what every call begins with, whatever its own tests may refuse with
pub gated_by : {A : Type 0} (P : ℕ → Type 0) → ((k : ℕ) → Sheet k → P k) → (L : CaseLimits) (question site : List ℕ) (third : CaseRead → Result A) (early late : Case → Result (Unit {0})) (rooms : Problem → Result (Unit {0}))
    → ((c : CaseRead) → Refuses P (third c)) → ((c : Case) → Refuses P (early c)) → ((c : Case) → Refuses P (late c)) → ((p : Problem) → Refuses P (rooms p)) → Refuses P (asked L question site third early late rooms)
unfolding asked
gated_by P s L question site third early late rooms h e l g =
    bind_by P _ _ (weaken s _ (filed_by L question site)) (λ c. bind_by P _ _ (h c) (λ t. bind_by P _ _ (e c.case) (λ _.
    bind_by P _ _ (weaken s _ (ground_by L c.case)) (λ p. bind_by P _ _ (l c.case) (λ _. bind_by P _ _ (g p) (λ _. accepted_by P _))))))

-- where nothing is tested before 11
pub tested_by : {A : Type 0} (L : CaseLimits) (question site : List ℕ) (third : CaseRead → Result A) (late : Case → Result (Unit {0})) (rooms : Problem → Result (Unit {0})) → ((c : CaseRead) → Refuses Sheet (third c)) → ((c : Case) → Refuses Sheet (late c)) → ((p : Problem) → Refuses Early (rooms p)) → Refuses Early (asked L question site third nothing late rooms)
tested_by L question site third late rooms h f g = gated_by Early sheet_early L question site third nothing late rooms (λ c. weaken sheet_early _ (h c)) (λ c. weaken sheet_early _ (nothing_by c)) (λ c. weaken sheet_early _ (f c)) g

pub asked_by : {A : Type 0} (L : CaseLimits) (question site : List ℕ) (third : CaseRead → Result A) (rooms : Problem → Result (Unit {0})) → ((c : CaseRead) → Refuses Sheet (third c)) → ((p : Problem) → Refuses Early (rooms p)) → Refuses Early (asked L question site third nothing nothing rooms)
asked_by L question site third rooms h g = tested_by L question site third nothing rooms h nothing_by g

-- a case with an `every` line is 23
pub every_by : (c : Case) → Refuses Sheet (without_every c)
unfolding without_every is_in any
every_by c = if_by Sheet _ 23 zero refl

-- of a case alone, where no buffer is lent
alone_by : {A : Type 0} (L : CaseLimits) (question site : List ℕ) (third : CaseRead → Result A) (late : Case → Result (Unit {0})) → ((c : CaseRead) → Refuses Sheet (third c)) → ((c : Case) → Refuses Sheet (late c)) → Refuses Sheet (asked L question site third nothing late nothing)
alone_by L question site third late h f = gated_by Sheet (λ k t. t) L question site third nothing late nothing h nothing_by f nothing_by

-- what a run refuses with
abbrev pub Late : ℕ → Type 0
Late = In run_numbers

run_by : (p : Problem) (ks : List ℕ) (s : State) (i : ℕ) → Refuses Late (run_from p s i ks).answer
unfolding run_from option is_in any
run_by p [] s i = by_test (s (atom_number p goal))
  where
    by_test : (b : Bool) → Refuses Late (if b then accepted i else refused 15 i)
    by_test true = accepted_by Late i
    by_test false = refused_by Late ℕ 15 i refl
run_by p (j ∷ ks) s i = by_option (action_at p j) (λ a. run_by p ks (after p s a) (suc i))
  where
    may : (a : Action) (b : Bool) → Refuses Late (run_from p (after p s a) (suc i) ks).answer → Refuses Late (if b then run_from p (after p s a) (suc i) ks else record { answer = refused 14 i; state = s }).answer
    may a true r = r
    may a false r = refused_by Late ℕ 14 i refl

    by_option : (o : Option Action) → ((a : Action) → Refuses Late (run_from p (after p s a) (suc i) ks).answer)
        → Refuses Late (option o (record { answer = refused 13 i; state = s })
        (λ a. if may_take p s a then run_from p (after p s a) (suc i) ks else record { answer = refused 14 i; state = s })).answer
    by_option none r = refused_by Late ℕ 13 i refl
    by_option (some a) r = may a (may_take p s a) (r a)

-- ---- what each call refuses with
pub told : {A : Type 0} (P : ℕ → Type 0) (r : Result A) (k place : ℕ) → r ≡ refused k place → Refuses P r → P k
unfolding Refuses
told P r k place e h = subst (Refuses P) e h

pub run_refuses : (p : Problem) (ks : List ℕ) (k place : ℕ) → (run p ks).answer ≡ refused k place → In run_numbers k
unfolding run
run_refuses p ks k place e = told Late (run_from p (initial p) zero ks).answer k place e (run_by p ks (initial p) zero)

module _ (L : CaseLimits) (question site : List ℕ) where
  pub problem_refuse : (k place : ℕ) → read_problem L question site ≡ refused k place → In case_numbers k
  unfolding read_problem
  problem_refuse k place e = told Sheet (read_problem L question site) k place e (bind_by Sheet _ _ (case_by L question site) (ground_by L))

  pub sizes_refuse : (k place : ℕ) → sizes L question site ≡ refused k place → In case_numbers k
  unfolding sizes
  sizes_refuse k place e = told Sheet (sizes L question site) k place e (bind_by Sheet _ _ (alone_by L question site nothing nothing nothing_by nothing_by) (λ r. accepted_by Sheet _))

  abbrev Asks : ℕ → Type 0
  Asks = In (13 ∷ case_numbers)

  pub action_refuse : (n k place : ℕ) → action L question site n ≡ refused k place → In (13 ∷ case_numbers) k
  unfolding action is_in all any
  action_refuse n k place e = told Asks (action L question site n) k place e
      (bind_by Asks _ _ (weaken (among case_numbers (13 ∷ case_numbers) refl) _ (alone_by L question site nothing nothing nothing_by nothing_by)) (λ r. given_by Asks (action_at r.problem n) 13 n refl))

  -- ---- steps, checked and read
  abbrev Checks : ℕ → Type 0
  Checks = In (ready_numbers ++ run_numbers)

  early_checks : (k : ℕ) → Early k → Checks k
  unfolding is_in all any
  early_checks = among ready_numbers (ready_numbers ++ run_numbers) refl

  run_checks : (r : Ready (List ℕ)) → Refuses Checks (run r.problem r.third).answer
  unfolding run is_in all any
  run_checks r = weaken (among run_numbers (ready_numbers ++ run_numbers) refl) _ (run_by r.problem r.third (initial r.problem) zero)

  ready_by : (g : ThirdInput) (rooms : Problem → Result (Unit {0})) → ((p : Problem) → Refuses Early (rooms p)) → Refuses Early (ready_to_run L question site g rooms)
  unfolding ready_to_run
  ready_by g rooms h = asked_by L question site (λ _. take_steps g) rooms (λ _. steps_by g) h

  pub check_refuse : (steps : ThirdInput) (state : List ℕ) (k place : ℕ) → (check_steps L question site steps state).answer ≡ refused k place → In (ready_numbers ++ run_numbers) k
  unfolding check_steps checked_from
  check_refuse steps state k place e = told Checks _ k place e (from_this _ (ready_by steps (λ p. room_for (state_length p) (length state)) (λ p. room_by (state_length p) (length state))))
    where
      from_this : (m : Result (Ready (List ℕ))) → Refuses Early m → Refuses Checks (checked_from m state).answer
      from_this (refused j at) h = refused_by Checks ℕ j at (early_checks j (told Early (refused j at) j at refl h))
      from_this (accepted r) h = run_checks r

  pub read_refuse : (steps : ThirdInput) (picks state : List ℕ) (k place : ℕ) → (picks_from_steps L question site steps picks state).answer ≡ refused k place → In (ready_numbers ++ run_numbers) k
  unfolding picks_from_steps picks_read_from
  read_refuse steps picks state k place e = told Checks _ k place e
      (from_this _ (ready_by steps (λ p. room_for (picks_length p) (length picks) >>= λ _. room_for (state_length p) (length state)) (λ p. bind_by Early _ _ (room_by (picks_length p) (length picks)) (λ _. room_by (state_length p) (length state)))))
    where
      from_this : (m : Result (Ready (List ℕ))) → Refuses Early m → Refuses Checks (picks_read_from m picks state).answer
      from_this (refused j at) h = refused_by Checks ℕ j at (early_checks j (told Early (refused j at) j at refl h))
      from_this (accepted r) h = run_checks r

  -- the same of pages: 12 has one buffer more, and 13 one cause more
  pub page_refuse : (steps : ThirdInput) (m : ℕ) (state page : List ℕ) (k place : ℕ) → (lay_page L question site steps m state page).answer ≡ refused k place → In (ready_numbers ++ run_numbers) k
  unfolding lay_page paged_from laid page_of page_rooms is_in any
  page_refuse steps m state page k place e = told Checks _ k place e
      (from_this _ (ready_by steps (page_rooms (length state) (length page)) (λ p. bind_by Early _ _ (room_by (state_length p) (length state)) (λ _. room_by page_bytes (length page)))))
    where
      from_this : (x : Result (Ready (List ℕ))) → Refuses Early x → Refuses Checks (paged_from x m state page).answer
      from_this (refused j at) h = refused_by Checks ℕ j at (early_checks j (told Early (refused j at) j at refl h))
      from_this (accepted r) h = bind_by Checks _ _ (bind_by Checks _ _ (run_checks r) (λ _. bind_by Checks _ _ (if_by Checks _ 13 m refl) (λ _. accepted_by Checks _))) (λ _. accepted_by Checks _)

  -- ---- picks, built from and judged
  abbrev Builds : ℕ → Type 0
  Builds = In (ready_numbers ++ picks_numbers)

  early_by : {A : Type 0} (m : Result A) → Refuses Early m → Refuses Builds m
  unfolding is_in all any
  early_by m h = weaken (among ready_numbers (ready_numbers ++ picks_numbers) refl) m h

  picks_room_lem : (p : Problem) (g : ThirdInput) → Refuses Early (picks_room p g)
  unfolding picks_room
  picks_room_lem p (as_text text) = accepted_by Early tt
  picks_room_lem p (as_numbers words) = room_by (picks_length p) (length words)

  spare_by : (o : Option ℕ) → Refuses Builds (spare_refusal o)
  unfolding spare_refusal is_in any
  spare_by none = accepted_by Builds tt
  spare_by (some j) = refused_by Builds (Unit {0}) 10 j refl

  take_by : (p : Problem) (g : ThirdInput) (read : List Tuple) → Refuses Builds (take_picks p g read)
  unfolding take_picks
  take_by p (as_text text) read = accepted_by Builds read
  take_by p (as_numbers words) read = bind_by Builds _ _ (spare_by (spare_word p words zero (chosen_numbers p))) (λ _. accepted_by Builds _)

  kind_by : (o : Option ℕ) → Refuses Builds (kind_refusal o)
  unfolding kind_refusal is_in any
  kind_by none = accepted_by Builds tt
  kind_by (some i) = refused_by Builds (Unit {0}) 16 i refl

  satisfying_by : (c : Case) (p : Problem) (g : ThirdInput) (read : List Tuple) → Refuses Builds (satisfying c p g read)
  unfolding satisfying is_in any
  satisfying_by c p g read = bind_by Builds _ _ (take_by p g read) (λ F. bind_by Builds _ _ (kind_by (first_of_other_kind c F)) (λ _. bind_by Builds _ _ (if_by Builds _ 17 zero refl) (λ _. accepted_by Builds _)))

  plan_by : (g : ThirdInput) (stateRoom stepsRoom : ℕ) → Refuses Builds (plan L question site g stateRoom stepsRoom)
  unfolding plan
  plan_by g stateRoom stepsRoom = bind_by Builds _ _
      (early_by _ (asked_by L question site (λ c. text_picks c.case c.labels g) _ (λ c. picks_by c.case c.labels g) (λ p. bind_by Early _ _ (picks_room_lem p g) (λ _. bind_by Early _ _ (room_by (state_length p) stateRoom) (λ _. room_by (bound p) stepsRoom)))))
      (λ r. bind_by Builds _ _ (satisfying_by r.case r.problem g r.third) (λ F. accepted_by Builds _))

  pub build_refuse : (picks : ThirdInput) (state steps : List ℕ) (k place : ℕ) → (build_steps L question site picks state steps).answer ≡ refused k place → In (ready_numbers ++ picks_numbers) k
  unfolding build_steps built_from
  build_refuse picks state steps k place e = told Builds _ k place e (by_result _ (plan_by picks (length state) (length steps)))
    where
      by_result : (m : Result Plan) → Refuses Builds m → Refuses Builds (built_from m state steps).answer
      by_result (refused j at) h = refused_by Builds ℕ j at (told Builds (refused j at) j at refl h)
      by_result (accepted b) h = accepted_by Builds _

  pub judge_refuse : (picks : ThirdInput) (k place : ℕ) → judge L question site picks ≡ refused k place → In (ready_numbers ++ picks_numbers) k
  unfolding judge
  judge_refuse picks k place e = told Builds _ k place e (bind_by Builds _ _ (early_by _ (asked_by L question site (λ c. text_picks c.case c.labels picks) _ (λ c. picks_by c.case c.labels picks) (λ p. picks_room_lem p picks)))
      (λ r. bind_by Builds _ _ (satisfying_by r.case r.problem picks r.third) (λ F. accepted_by Builds _)))

  -- ---- layers
  pub window_refuse : (k place : ℕ) → window_of L question site ≡ refused k place → In case_numbers k
  unfolding window_of
  window_refuse k place e = told Sheet (window_of L question site) k place e (bind_by Sheet _ _ (alone_by L question site nothing without_every nothing_by every_by) (λ r. accepted_by Sheet _))

  ends_by : (ends : List ℕ) (count k i : ℕ) → Refuses Sheet (ends_test count k i ends)
  unfolding ends_test is_in any
  ends_by [] count k i = if_by Sheet _ 3 _ refl
  ends_by (e ∷ ends) count k i = bind_by Sheet _ _ (if_by Sheet _ 3 i refl) (λ _. ends_by ends count e (suc i))

  layers_by : (steps ends : List ℕ) → Refuses Sheet (take_layers steps ends)
  unfolding take_layers
  layers_by steps ends = bind_by Sheet _ _ (steps_by (as_numbers steps)) (λ ks. bind_by Sheet _ _ (ends_by ends (length ks) zero zero) (λ _. accepted_by Sheet _))

  layers_run_by : (p : Problem) (layers : List (List ℕ)) (s : State) (i : ℕ) → Refuses Late (run_layers_from p s i layers).answer
  unfolding run_layers_from option is_in any
  layers_run_by p [] s i = by_test (s (atom_number p goal))
    where
      by_test : (b : Bool) → Refuses Late (if b then accepted i else refused 15 i)
      by_test true = accepted_by Late i
      by_test false = refused_by Late ℕ 15 i refl
  layers_run_by p (ks ∷ layers) s i = by_option (actions_at p ks) (λ l. layers_run_by p layers (after_all p s l) (suc i))
    where
      may : (l : List Action) (b : Bool) → Refuses Late (run_layers_from p (after_all p s l) (suc i) layers).answer → Refuses Late (if b then run_layers_from p (after_all p s l) (suc i) layers else record { answer = refused 14 i; state = s }).answer
      may l true r = r
      may l false r = refused_by Late ℕ 14 i refl

      by_option : (o : Option (List Action)) → ((l : List Action) → Refuses Late (run_layers_from p (after_all p s l) (suc i) layers).answer)
          → Refuses Late (option o (record { answer = refused 13 i; state = s })
          (λ l. if may_take_all p s l then run_layers_from p (after_all p s l) (suc i) layers else record { answer = refused 14 i; state = s })).answer
      by_option none r = refused_by Late ℕ 13 i refl
      by_option (some l) r = may l (may_take_all p s l) (r l)

  pub layers_run_refuses : (p : Problem) (layers : List (List ℕ)) (k place : ℕ) → (run_layers p layers).answer ≡ refused k place → In run_numbers k
  unfolding run_layers
  layers_run_refuses p layers k place e = told Late (run_layers_from p (initial p) zero layers).answer k place e (layers_run_by p layers (initial p) zero)

  pub layers_check_refuse : (steps ends state : List ℕ) (k place : ℕ) → (check_layers L question site steps ends state).answer ≡ refused k place → In (ready_numbers ++ run_numbers) k
  unfolding check_layers layers_checked_from run_layers is_in all any
  layers_check_refuse steps ends state k place e = told Checks _ k place e (from_this _ (tested_by L question site (λ _. take_layers steps ends) without_every _ (λ _. layers_by steps ends) every_by (λ p. room_by (state_length p) (length state))))
    where
      from_this : (m : Result (Ready (List (List ℕ)))) → Refuses Early m → Refuses Checks (layers_checked_from m state).answer
      from_this (refused j at) h = refused_by Checks ℕ j at (early_checks j (told Early (refused j at) j at refl h))
      from_this (accepted r) h = weaken (among run_numbers (ready_numbers ++ run_numbers) refl) _ (layers_run_by r.problem r.third (initial r.problem) zero)

  layered_by : (g : ThirdInput) (stateRoom stepsRoom endsRoom : ℕ) → Refuses Builds (layered_plan L question site g stateRoom stepsRoom endsRoom)
  unfolding layered_plan
  layered_by g stateRoom stepsRoom endsRoom = bind_by Builds _ _
      (early_by _ (tested_by L question site (λ c. text_picks c.case c.labels g) without_every _ (λ c. picks_by c.case c.labels g) every_by (λ p. bind_by Early _ _ (picks_room_lem p g) (λ _. bind_by Early _ _ (room_by (state_length p) stateRoom) (λ _. bind_by Early _ _ (room_by (bound p) stepsRoom) (λ _. room_by (case_window p).upper endsRoom))))))
      (λ r. bind_by Builds _ _ (satisfying_by r.case r.problem g r.third) (λ F. accepted_by Builds _))

  pub layers_build_refuse : (picks : ThirdInput) (state steps ends : List ℕ) (k place : ℕ) → (build_layers L question site picks state steps ends).answer ≡ refused k place → In (ready_numbers ++ picks_numbers) k
  unfolding build_layers layers_built_from
  layers_build_refuse picks state steps ends k place e = told Builds _ k place e (by_result _ (layered_by picks (length state) (length steps) (length ends)))
    where
      by_result : (m : Result LayeredPlan) → Refuses Builds m → Refuses Builds (layers_built_from m state steps ends).answer
      by_result (refused j at) h = refused_by Builds ℕ j at (told Builds (refused j at) j at refl h)
      by_result (accepted b) h = accepted_by Builds _

-- finding, and asking whether any picks do
module _ (L : CaseLimits) (question site : List ℕ) where
  abbrev Finds : ℕ → Type 0
  Finds = In (ready_numbers ++ find_numbers)

  pub words_refuse : (room k place : ℕ) → found_words L question site room ≡ refused k place → In (ready_numbers ++ find_numbers) k
  unfolding found_words least_picks is_in any all
  words_refuse room k place e = told Finds _ k place e
      (bind_by Finds _ _ (weaken (among ready_numbers (ready_numbers ++ find_numbers) refl) _ (tested_by L question site nothing without_every _ nothing_by every_by (λ p. room_by (picks_length p) room)))
      (λ r. bind_by Finds _ _ (bind_by Finds _ _ (if_by Finds _ 20 zero refl) (λ _. bind_by Finds _ _ (given_by Finds _ 21 zero refl) (λ m. accepted_by Finds _))) (λ F. accepted_by Finds _)))

  abbrev Wants : ℕ → Type 0
  Wants = In (case_numbers ++ monotone_numbers)

  pub monotone_refuse : (k place : ℕ) → monotone L question site ≡ refused k place → In (case_numbers ++ monotone_numbers) k
  unfolding monotone is_in any all
  monotone_refuse k place e = told Wants _ k place e
      (bind_by Wants _ _ (weaken (among case_numbers (case_numbers ++ monotone_numbers) refl) _ (alone_by L question site nothing nothing nothing_by nothing_by))
      (λ r. bind_by Wants _ _ (if_by Wants _ 24 zero refl) (λ _. bind_by Wants _ _ (if_by Wants _ 21 zero refl) (λ _. accepted_by Wants _))))
