-- Building steps from picks: what `plan` answers with buffers long enough, and what an answer of it tells.
use Rattle.std.specs.Prelude.{ℕ, zero, ◌+◌, ◌*◌, ◌^◌, ◌<◌, ◌≤◌, ◌≡◌, refl, Bool, true, false, not, T, ltb, length}
use Rattle.std.proofs.Common.{sym, ap, ◌∙◌, le-ltb, ltb-false}
use Rattle.std.proofs.Math.Path.{subst}
use Rattle.std.proofs.Math.Option.{Option, none, some}
use mathlib.Core.List.{List, Memᴰ}
use Rattle.std.proofs.lemmas.Bool.{not-false}
use Rattle.definitions.specs.Limits.{CaseLimits}
use Rattle.definitions.specs.Lists.{filter, below}
use Rattle.definitions.specs.Refusal.{Result, refused, accepted, ◌>>=◌, refuse_if}
use Rattle.definitions.specs.Sheet.Relations.{Tuple, is_chosen}
use Rattle.definitions.specs.Sheet.Sheets.{Label, read_picks, first_chosen}
use Rattle.definitions.specs.Problem.Truth.{Case, each_chosen, is_of_kind, are_picks, are_of_kinds, first_of_other_kind, every_tuples, values, rule_is_true}
use Rattle.definitions.specs.Problem.Atoms.{Problem, problem_of, problem_with, relation_at, tuples_of, node_atoms}
use Rattle.definitions.specs.Problem.Built.{chosen_numbers, built_steps, built_count, bound}
use Rattle.definitions.specs.Reply.Outcome.{read_filed, read_case, too_many_values, ground, asked, nothing, satisfying, room_for, state_length, picks_length, ThirdInput, as_text, as_numbers, text_picks, picks_room, spare_word, spare_refusal, take_picks, lent_picks, kind_refusal, Plan, plan, written, built_from}
use Rattle.definitions.specs.Reply.Demand.{is_accepted}
use Rattle.laws.specs.Booleans.{T_of, T_true}
use Rattle.laws.specs.Results.{accepted_eq, bind_parts, not_refused, refused_accepted}
use Rattle.laws.specs.Lists.{below_lt, filter_mem, none_some}
use Rattle.laws.specs.Positions.{any_not, place, position_none, position_some}
use Rattle.laws.specs.Repeats.{once_distinct, distinct_once}
use Rattle.laws.specs.Rows.{length_places, places_below}
use Rattle.laws.specs.Asked
use Rattle.laws.specs.Labels.{LabelsFit}
use Rattle.laws.specs.Reader.{Accepted, gives_if, picks_fit}
use Rattle.meaning.specs.Sound.{Inside, tuple_at}
use Rattle.meaning.specs.Grounded.{good}
use Rattle.meaning.specs.Picks.{fit_picks, inside_picks, picks_inside, picks_distinct}
use Rattle.meaning.specs.Kinds.{tested_kinds}
use Rattle.meaning.specs.Count.{built_length, built_bound, built_most}
use Rattle.meaning.specs.Lent.{lent_at, lent_once, numbers_once}

-- ---- lent picks are tuples of the `choose` relations, none twice
module _ (c : Case) (A : Accepted c) where
  abbrev p : Problem
  p = problem_of c

  lent_are : (words : List ℕ) → T (are_picks c (lent_picks p words (chosen_numbers p)))
  unfolding chosen_numbers
  lent_are words = inside_picks c A (lent_picks p words (chosen_numbers p)) (λ t m. inside t (lent_at p (good c A) (chosen_numbers p) words t m))
      (once_distinct (lent_picks p words (chosen_numbers p)) (lent_once p (good c A) (chosen_numbers p) words (numbers_once p (good c A))))
    where
      inside : (t : Tuple) → Memᴰ t.relation (filter (λ r. is_chosen (relation_at p r).kind) (below (length p.relations))) × ((row : ℕ) × (row < tuples_of p.size (relation_at p t.relation)) × (t ≡ tuple_at p t.relation row)) → Inside p (good c A) t
      inside t (m, (row, l, e)) =
          let q = filter_mem (λ r. is_chosen (relation_at p r).kind) (below (length p.relations)) t.relation m in
          subst (Inside p (good c A)) (sym e) (record { known = below_lt (length p.relations) t.relation q.0; chosen = q.1; long = length_places p.size (relation_at p t.relation).arity row; small = places_below p.size (relation_at p t.relation).arity row (good c A).element })

-- the problem that is grounded is the case's
pub ground_is : (L : CaseLimits) (c : Case) (p : Problem) → ground L c ≡ accepted p → p ≡ problem_of c
unfolding ground
ground_is L c p e =
    let (u, a, g) = bind_parts (refuse_if _ 11 zero) (λ _. refuse_if (too_many_values L (problem_of c)) 23 zero >>= λ _. accepted (problem_of c)) p e in
    let (v, b, h) = bind_parts (refuse_if (too_many_values L (problem_of c)) 23 zero) (λ _. accepted (problem_of c)) p g in
    sym (accepted_eq (problem_of c) p h)

-- ---- the picks that are handed over: read from a text, or the tuples of words that are long enough and have no spare bit set
abbrev pub picks_given : Case → List Label → Problem → ThirdInput → Result (List Tuple)
picks_given c labels p g = text_picks c labels g >>= λ read. picks_room p g >>= λ _. take_picks p g read

pub given_text : (c : Case) (labels : List Label) (p : Problem) (text : List ℕ) → picks_given c labels p (as_text text) ≡ read_picks c.question.chosen (first_chosen c.question) c.site.size labels text
unfolding text_picks picks_room take_picks ◌>>=◌
given_text c labels p text = by_result (read_picks c.question.chosen (first_chosen c.question) c.site.size labels text)
  where
    by_result : (r : Result (List Tuple)) → (r >>= λ read. accepted read) ≡ r
    by_result (refused k place) = refl
    by_result (accepted read) = refl

pub given_words : (c : Case) (labels : List Label) (p : Problem) (words : List ℕ) → picks_length p ≤ length words → spare_word p words zero (chosen_numbers p) ≡ none → picks_given c labels p (as_numbers words) ≡ accepted (lent_picks p words (chosen_numbers p))
unfolding text_picks picks_room take_picks room_for refuse_if spare_refusal ◌>>=◌
given_words c labels p words h e = let a : ltb (length words) (picks_length p) ≡ false = le-ltb (length words) (picks_length p) h in rw (a, e) refl

-- whatever is handed over and taken is picks
given_parts : (c : Case) (labels : List Label) (p : Problem) (g : ThirdInput) (F : List Tuple) → picks_given c labels p g ≡ accepted F → (read : List Tuple) × (text_picks c labels g ≡ accepted read) × (picks_room p g ≡ accepted tt) × (take_picks p g read ≡ accepted F)
given_parts c labels p g F e =
    let (read, a, b) = bind_parts (text_picks c labels g) _ F e in
    let (u, d, f) = bind_parts (picks_room p g) _ F b in
    (read, a, d, f)

lent_taken : (p : Problem) (words : List ℕ) (read F : List Tuple) → take_picks p (as_numbers words) read ≡ accepted F → lent_picks p words (chosen_numbers p) ≡ F
unfolding take_picks
lent_taken p words read F e = let (u, a, d) = bind_parts (spare_refusal (spare_word p words zero (chosen_numbers p))) (λ _. accepted (lent_picks p words (chosen_numbers p))) F e in accepted_eq (lent_picks p words (chosen_numbers p)) F d

pub given_picks : (c : Case) → Accepted c → (labels : List Label) → LabelsFit c.site.size labels → (g : ThirdInput) (F : List Tuple) → picks_given c labels (problem_of c) g ≡ accepted F → are_picks c F ≡ true
given_picks c A labels K (as_text text) F e = T_true (are_picks c F) (fit_picks c F (gives_if _ (read_picks c.question.chosen (first_chosen c.question) c.site.size labels text) F (sym (given_text c labels (problem_of c) text) ∙ e)
    (picks_fit c.question.chosen (first_chosen c.question) c.site.size labels K text)))
given_picks c A labels K (as_numbers words) F e =
    let (read, a, b, d) = given_parts c labels (problem_of c) (as_numbers words) F e in
    T_true (are_picks c F) (subst (λ (l : List Tuple). T (are_picks c l)) (lent_taken (problem_of c) words read F d) (lent_are c A words))

-- ---- with buffers long enough only the kinds and the rule are left to test
pub plan_is : (L : CaseLimits) (question site : List ℕ) (g : ThirdInput) (c : Case) (labels : List Label) (p : Problem) (F : List Tuple) (stateRoom stepsRoom : ℕ)
    → read_filed L question site ≡ accepted (record { case = c; labels = labels }) → ground L c ≡ accepted p → picks_given c labels p g ≡ accepted F → state_length p ≤ stateRoom → bound p ≤ stepsRoom
    → plan L question site g stateRoom stepsRoom ≡ (kind_refusal (first_of_other_kind c F) >>= λ _. refuse_if (not (rule_is_true c F)) 17 zero >>= λ _. accepted (record { labels = labels; problem = p; picks = F; steps = built_steps p F }))
unfolding plan asked nothing satisfying room_for refuse_if ◌>>=◌ kind_refusal
plan_is L question site g c labels p F stateRoom stepsRoom rc rg rf hs hb =
    let (read, a, b, d) = given_parts c labels p g F rf in
    let e : ltb stateRoom (state_length p) ≡ false = le-ltb stateRoom (state_length p) hs in
    let f : ltb stepsRoom (bound p) ≡ false = le-ltb stepsRoom (bound p) hb in
    rw (rc, a, rg, b, e, f, d) (after (first_of_other_kind c F) (rule_is_true c F))
  where
    made : Plan
    made = record { labels = labels; problem = p; picks = F; steps = built_steps p F }

    after : (o : Option ℕ) (b : Bool) → ((kind_refusal o >>= λ _. refuse_if (not b) 17 zero >>= λ _. accepted F) >>= λ (G : List Tuple). accepted (record { labels = labels; problem = p; picks = G; steps = built_steps p G }))
        ≡ (kind_refusal o >>= λ _. refuse_if (not b) 17 zero >>= λ _. accepted made)
    after none true = refl
    after none false = refl
    after (some i) b = refl

-- the kinds: 16 is refused exactly if some `choose` is not of its kind, by the first such
pub kinds_hold : (c : Case) (F : List Tuple) → are_of_kinds c F ≡ true → first_of_other_kind c F ≡ none
unfolding are_of_kinds first_of_other_kind
kinds_hold c F e = position_none not (each_chosen c (is_of_kind c F)) (any_not (each_chosen c (is_of_kind c F)) ∙ ap not e)

pub kinds_fail : (c : Case) (F : List Tuple) → are_of_kinds c F ≡ false → (i : ℕ) × (first_of_other_kind c F ≡ some i)
unfolding are_of_kinds first_of_other_kind
kinds_fail c F e = let q = position_some not (each_chosen c (is_of_kind c F)) true (any_not (each_chosen c (is_of_kind c F)) ∙ ap not e) in (q.0, q.1)

pub kinds_told : (c : Case) (F : List Tuple) → first_of_other_kind c F ≡ none → are_of_kinds c F ≡ true
kinds_told c F e = by_test (are_of_kinds c F) refl
  where
    by_test : (b : Bool) → are_of_kinds c F ≡ b → b ≡ true
    by_test true q = refl
    by_test false q = let r = kinds_fail c F q in absurd (none_some (sym e ∙ r.1))

kind_accepted : (o : Option ℕ) (u : Unit {0}) → kind_refusal o ≡ accepted u → o ≡ none
unfolding kind_refusal is_accepted
kind_accepted none u e = refl
kind_accepted (some i) u e = absurd (refused_accepted e)

-- what picks that satisfy a case tell: they were taken, are of the declared kinds, and the rule is true of them
pub satisfying_parts : (c : Case) (p : Problem) (g : ThirdInput) (read F : List Tuple) → satisfying c p g read ≡ accepted F → (take_picks p g read ≡ accepted F) × (are_of_kinds c F ≡ true) × (rule_is_true c F ≡ true)
unfolding satisfying
satisfying_parts c p g read F e =
    let (G, rf, e₁) = bind_parts (take_picks p g read) _ F e in
    let (u₁, r₁, e₂) = bind_parts (kind_refusal (first_of_other_kind c G)) _ F e₁ in
    let (u₂, r₂, e₃) = bind_parts (refuse_if (not (rule_is_true c G)) 17 zero) _ F e₂ in
    subst (λ (F : List Tuple). (take_picks p g read ≡ accepted F) × (are_of_kinds c F ≡ true) × (rule_is_true c F ≡ true)) (accepted_eq G F e₃)
    (rf, kinds_told c G (kind_accepted (first_of_other_kind c G) u₁ r₁), not-false (rule_is_true c G) (not_refused (not (rule_is_true c G)) 17 zero u₂ r₂))

given_from : (c : Case) (labels : List Label) (p : Problem) (g : ThirdInput) (read F : List Tuple) (u : Unit {0}) → text_picks c labels g ≡ accepted read → picks_room p g ≡ accepted u → take_picks p g read ≡ accepted F → picks_given c labels p g ≡ accepted F
unfolding ◌>>=◌
given_from c labels p g read F u a b d = rw (a, b) d

-- what a plan tells: of its case and picks, and that it has room
pub record Tells (L : CaseLimits) (question site : List ℕ) (g : ThirdInput) (stateRoom stepsRoom : ℕ) (b : Plan) : Type 0 where
  pub case : Case
  pub is_filed : read_filed L question site ≡ accepted (record { case = case; labels = b.labels })
  pub is_case : read_case L question site ≡ accepted case
  pub is_problem : ground L case ≡ accepted b.problem
  pub given : picks_given case b.labels b.problem g ≡ accepted b.picks
  pub kinds : are_of_kinds case b.picks ≡ true
  pub rule : rule_is_true case b.picks ≡ true
  pub steps : b.steps ≡ built_steps b.problem b.picks
  pub state_room : state_length b.problem ≤ stateRoom
  pub steps_room : bound b.problem ≤ stepsRoom

pub plan_tells : (L : CaseLimits) (question site : List ℕ) (g : ThirdInput) (stateRoom stepsRoom : ℕ) (b : Plan) → plan L question site g stateRoom stepsRoom ≡ accepted b → Tells L question site g stateRoom stepsRoom b
unfolding plan room_for
plan_tells L question site g stateRoom stepsRoom b e =
    let (r, a, e₁) = bind_parts (asked L question site (λ c. text_picks c.case c.labels g) nothing nothing _) _ b e in
    let (F, f, e₂) = bind_parts (satisfying r.case r.problem g r.third) _ b e₁ in
    let q = Asked.parts L question site (λ c. text_picks c.case c.labels g) nothing nothing _ r a in
    let (u₁, r₁, e₃) = bind_parts (picks_room r.problem g) _ tt q.has_room in
    let (u₂, r₂, r₃) = bind_parts (refuse_if (ltb stateRoom (state_length r.problem)) 12 (state_length r.problem)) _ tt e₃ in
    let (rf, k, t) = satisfying_parts r.case r.problem g r.third F f in
    subst (Tells L question site g stateRoom stepsRoom) (accepted_eq _ b e₂) (record {
      case = r.case;
      is_filed = q.is_filed;
      is_case = q.is_case;
      is_problem = q.is_problem;
      given = given_from r.case r.labels r.problem g r.third F u₁ q.is_third r₁ rf;
      kinds = k;
      rule = t;
      steps = refl;
      state_room = ltb-false stateRoom _ (not_refused (ltb stateRoom (state_length r.problem)) 12 (state_length r.problem) u₂ r₂);
      steps_room = ltb-false stepsRoom _ (not_refused (ltb stepsRoom (bound r.problem)) 12 (bound r.problem) tt r₃);
    })

-- what an accepted answer of the builder tells
pub built_tells : (r : Result Plan) (state steps : List ℕ) (k : ℕ) → (built_from r state steps).answer ≡ accepted k → (b : Plan) × (r ≡ accepted b) × (k ≡ length b.steps) × ((built_from r state steps).steps ≡ written b.steps steps)
unfolding built_from is_accepted
built_tells (refused n place) state steps k e = absurd (refused_accepted e)
built_tells (accepted b) state steps k e = (b, refl, sym (accepted_eq (length b.steps) k e), refl)

-- ---- how many the built steps are, for picks in the words of the definitions
pub count_most : (c : Case) (A : Accepted c) (F : List Tuple) → are_picks c F ≡ true → are_of_kinds c F ≡ true → built_count (problem_of c) F ≤ length F + 1 + 2 ^ every_tuples c * (node_atoms (problem_of c) + every_tuples c + 1)
unfolding values problem_of problem_with
count_most c A F P k = built_most (problem_of c) (good c A) F (tested_kinds c A F (picks_inside c A F (T_of P)) (T_of k))

pub count_case : (c : Case) (A : Accepted c) (F : List Tuple) → are_picks c F ≡ true → are_of_kinds c F ≡ true
    → (length (built_steps (problem_of c) F) ≡ built_count (problem_of c) F) × (built_count (problem_of c) F ≤ bound (problem_of c))
count_case c A F P k =
    let K = tested_kinds c A F (picks_inside c A F (T_of P)) (T_of k) in
    let o = distinct_once F (picks_distinct c F (T_of P)) in
    (built_length (problem_of c) (good c A) F K o, built_bound (problem_of c) (good c A) F K o)
