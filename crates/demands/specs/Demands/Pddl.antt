-- Document 02, job 11, section 24 of the demands: to and from PDDL. What has to be believed is what PDDL makes of three texts' bytes,
-- `PddlMeaning`; `texts_mean` holds what is written to it. `Lifted` and `unground` are a step of its proof.
use Prim.Native.Nat.{ℕ, zero, ◌-◌, ◌<◌, ◌≤◌}
use Rattle.std.specs.Prelude.{◌≡◌, ◌↔◌, true, false, ◌||◌, ltb, length}
use Rattle.std.proofs.Common.{sym, ap, subst, ◌∙◌, arith}
use Rattle.std.proofs.Math.Option.{none, some}
use mathlib.Core.List.{List, [], ◌∷◌, ◌++◌, Memᴰ}
use Rattle.definitions.specs.Limits.{CaseLimits, text_limit}
use Rattle.definitions.specs.Lists.{all, from, is_in, is_empty}
use Rattle.definitions.specs.Refusal.{Result, refused, accepted, ◌>>=◌, pddl_numbers}
use Rattle.definitions.specs.Sheet.Relations.{Relation}
use Rattle.definitions.specs.Sheet.Sheets.{Label}
use Rattle.definitions.specs.Problem.Truth.{Case}
use Rattle.definitions.specs.Problem.Atoms.{Problem, problem_of, atoms}
use Rattle.definitions.specs.Problem.Actions.{actions}
use Rattle.definitions.specs.Problem.Strips.{reaches_goal}
use Rattle.definitions.specs.Reply.Outcome.{CaseRead, read_filed, read_case, ground, read_problem, room_for, written, ThirdInput, take_steps}
use Rattle.definitions.specs.Reply.Demand.{steps_are_accepted}
use Rattle.definitions.specs.Reply.Lifted.{Predicate, Fact, object, Pattern, ActionName, schema_of, action_names, predicates, places_in, facts_of, PlanStep, is_plan}
use Rattle.definitions.specs.Reply.Pddl.{constants, object_word, predicate_word, action_word, domain_text, instance_text, plan_of, plan_text, folded, PlanLine, read_plan_lines}
use Rattle.definitions.specs.Reply.Pddl.{steps_from, write_domain, write_instance, write_plan, plan_steps, plan_read_from, read_plan, ready_for_pddl}
use Rattle.definitions.specs.Reply.PddlMeaning.{is_plan_of}
use Rattle.laws.specs.Booleans.{T_of, T_true}
use Rattle.laws.specs.Repeats.{Once}
use Rattle.laws.specs.Reader
use Reader.{Accepted, case_fits, gives_if}
use Rattle.laws.specs.Asked
use Rattle.meaning.specs.Building
use Rattle.demands.specs.Accepting
use Rattle.demands.specs.Ungrounded
use Rattle.meaning.specs.PddlWords
use Rattle.demands.specs.PlanLines
use Rattle.demands.specs.PddlCalls
use Rattle.demands.specs.TextPlans
use Rattle.demands.specs.ReadPlans
use Rattle.demands.specs.NoPlans
use Rattle.demands.specs.PddlForms

-- ---- 24, document 02, job 11. For every limits of at most 64 elements, and every question and site that are accepted under them: c is the
-- case read from the two texts, with its labels, and p its numbered problem.
module _ (L : CaseLimits) (few : L.elements ≤ 64) (question site : List ℕ) (c : Case) (labels : List Label) (p : Problem)
    (is_filed : read_filed L question site ≡ accepted (record { case = c; labels = labels })) (is_problem : read_problem L question site ≡ accepted p) where
  lifted_case : read_case L question site ≡ accepted c
  lifted_case = Asked.filed_case L question site (record { case = c; labels = labels }) is_filed

  lifted_grounds : ground L c ≡ accepted p
  unfolding read_problem ◌>>=◌
  lifted_grounds = rw lifted_case at is_problem

  lifted_problem : p ≡ problem_of c
  lifted_problem = Building.ground_is L c p lifted_grounds

  fits_plain : Accepted c
  fits_plain = gives_if Accepted (read_case L question site) c lifted_case (case_fits L few question site)

  -- Steps have a plan exactly if each is an action's number.
  pub plan_exists : (steps : List ℕ) → (all (λ k. ltb k (actions p)) steps ≡ true) ↔ ((plan : List PlanStep) × (plan_of p steps ≡ accepted plan))
  unfolding plan_of
  plan_exists steps = (λ e. PddlCalls.plan_some p steps zero (T_of e), λ h. let (plan, e) = h in T_true _ (PddlCalls.some_plan p steps zero plan e))

  -- Where the case has no `type` line and no `every` line:
  module _ (no_types_lem : c.question.types ≡ []) (no_every : c.question.every ≡ none) where
    -- (A step of the proof: `texts_mean` below says the same of bytes, and who believes `PddlMeaning` needs no more.) Such steps reach the goal
    -- exactly if their plan is one under the unground domain: every step's action is found by its name, the step's objects stand for its
    -- parameters, and all is so that it needs, after the steps before it and from the instance's facts on. The domain's actions and the
    -- instance's facts are read off the question's tree and the site (`Lifted`, which fixes what is written).
    pub unground : (steps : List ℕ) (plan : List PlanStep) → plan_of p steps ≡ accepted plan → reaches_goal p steps ≡ is_plan c plan
    unground = rw lifted_problem (Ungrounded.unground c fits_plain no_types_lem no_every)

    -- So steps that are handed over are accepted exactly if the plan that is written for them is one.
    pub plan_accepted : (given : ThirdInput) (steps : List ℕ) → take_steps given ≡ accepted steps → (plan : List PlanStep) → plan_of p steps ≡ accepted plan → steps_are_accepted L question site given ≡ is_plan c plan
    plan_accepted given steps t plan e = Accepting.steps_accepted L question site p given steps is_problem t ∙ unground steps plan e

    -- This is the theorem to believe the texts by. PDDL's own meaning of three texts, which knows nothing of cases and of how they are written
    -- (`PddlMeaning`), is read off their bytes: steps reach the goal exactly if the text that is written for them is a plan of the domain's
    -- text and the instance's. So nothing has to be believed of `Lifted` or of the layout.
    pub texts_mean : (steps : List ℕ) (plan : List PlanStep) → plan_of p steps ≡ accepted plan → reaches_goal p steps ≡ is_plan_of (domain_text c) (instance_text c) (plan_text c plan)
    texts_mean = rw lifted_problem (TextPlans.texts_mean c fits_plain no_types_lem no_every)

    -- The calls write the domain, the instance and the plan to the front of their buffers, and tell how many bytes they have.
    pub domain_written : (old : List ℕ) → length (domain_text c) ≤ length old → write_domain L question site old ≡ record { answer = accepted (length (domain_text c)); text = written (domain_text c) old }
    domain_written = PddlCalls.domain_written L question site (record { case = c; labels = labels }) p is_filed lifted_grounds no_types_lem no_every

    pub instance_written : (old : List ℕ) → length (instance_text c) ≤ length old → write_instance L question site old ≡ record { answer = accepted (length (instance_text c)); text = written (instance_text c) old }
    instance_written = PddlCalls.instance_written L question site (record { case = c; labels = labels }) p is_filed lifted_grounds no_types_lem no_every

    pub plan_written_lem : (given : ThirdInput) (steps : List ℕ) → take_steps given ≡ accepted steps → (plan : List PlanStep) → plan_of p steps ≡ accepted plan → (old : List ℕ) → length (plan_text c plan) ≤ length old
        → write_plan L question site given old ≡ record { answer = accepted (length (plan_text c plan)); text = written (plan_text c plan) old }
    plan_written_lem = PddlCalls.plan_written_lem L question site (record { case = c; labels = labels }) p is_filed lifted_grounds no_types_lem no_every

    -- What is written for steps, if it is within the text limit, is read back as these steps.
    pub plan_back : (steps : List ℕ) (plan : List PlanStep) → plan_of p steps ≡ accepted plan → length (plan_text c plan) ≤ text_limit → (old : List ℕ) → length steps ≤ length old
        → read_plan L question site (plan_text c plan) old ≡ record { answer = accepted (length steps); steps = written steps old }
    plan_back steps plan e l old h =
        let (ls, r, k, s) = PlanLines.plan_back c fits_plain no_types_lem no_every steps plan (subst (λ (x : Problem). plan_of x steps ≡ accepted plan) lifted_problem e) l in
        PddlCalls.plan_read L question site (record { case = c; labels = labels }) p is_filed lifted_grounds no_types_lem no_every (plan_text c plan) ls r steps (subst (λ (x : Problem). steps_from c x ls ≡ accepted steps) (sym lifted_problem) s) old (omega arith)

    -- A text of lines that are not all steps, which 22 refuses, is no plan of the two texts.
    pub no_plan : (text : List ℕ) (ls : List PlanLine) (k place : ℕ) → read_plan_lines text ≡ accepted ls → steps_from c p ls ≡ refused k place → is_plan_of (domain_text c) (instance_text c) text ≡ false
    no_plan = rw lifted_problem (NoPlans.no_plan c fits_plain no_types_lem no_every)

  -- Whatever text is read as steps, whoever sent it, is but for letters what is written for them; so it is a plan of the two texts
  -- exactly if the steps reach the goal. (That it is read says that the case has neither line.)
  pub plan_told : (text old : List ℕ) (many : ℕ) → (read_plan L question site text old).answer ≡ accepted many
      → (steps : List ℕ) × (length steps ≡ many) × ((read_plan L question site text old).steps ≡ written steps old) × ((plan : List PlanStep) × (plan_of p steps ≡ accepted plan) × (folded text ≡ folded (plan_text c plan))) × (reaches_goal p steps ≡ is_plan_of (domain_text c) (instance_text c) text)
  plan_told text old many e =
      let (no_types_lem, no_every) = PddlCalls.read_taken L question site (record { case = c; labels = labels }) is_filed text old many e in
      let (ls, r, (steps, s, l, w)) = PddlCalls.read_told L question site (record { case = c; labels = labels }) p is_filed lifted_grounds no_types_lem no_every text old many e in
      let (plan, t, f) = ReadPlans.read_written c fits_plain no_types_lem no_every text ls steps r (subst (λ (x : Problem). steps_from c x ls ≡ accepted steps) lifted_problem s) in
      let q : plan_of p steps ≡ accepted plan = subst (λ (x : Problem). plan_of x steps ≡ accepted plan) (sym lifted_problem) t in
      (steps, l, w, (plan, q, f), texts_mean no_types_lem no_every steps plan q ∙ ReadPlans.plan_case (domain_text c) (instance_text c) (plan_text c plan) text (sym f))

  -- And a text that is refused with 22, where that is not because of a `type` line, is no plan of the two texts.
  pub plan_none : c.question.types ≡ [] → (text old : List ℕ) (place : ℕ) → (read_plan L question site text old).answer ≡ refused 22 place → is_plan_of (domain_text c) (instance_text c) text ≡ false
  plan_none no_types_lem text old place e =
      let (no_every, (ls, r, s)) = PddlCalls.read_none L question site (record { case = c; labels = labels }) p is_filed lifted_grounds no_types_lem text old place e in
      no_plan no_types_lem no_every text ls 22 place r s

-- A plan is read alike in capitals and in small letters.
pub plan_letters : (L : CaseLimits) (question site plan again : List ℕ) → folded plan ≡ folded again → (old : List ℕ) → read_plan L question site plan old ≡ read_plan L question site again old
unfolding read_plan plan_steps
plan_letters L question site plan again e old = ap (λ (r : Result (List PlanLine)). plan_read_from (ready_for_pddl L question site (λ _. r) >>= λ t. room_for (length t.third) (length old) >>= λ _. steps_from t.case t.problem t.third) old)
    (sym (PlanLines.letters plan) ∙ ap read_plan_lines e ∙ PlanLines.letters again)

-- No two actions of a domain have one word, even if case is ignored, nor two predicates, nor two objects; whether the case has types, or an
-- `every` line, or not.
module _ (L : CaseLimits) (few : L.elements ≤ 64) (question site : List ℕ) (c : Case) (is_case : read_case L question site ≡ accepted c) where
  fits_words : Accepted c
  fits_words = gives_if Accepted (read_case L question site) c is_case (case_fits L few question site)

  pub actions_apart : (a b : ActionName) → Memᴰ a (action_names c) → Memᴰ b (action_names c) → folded (action_word c a) ≡ folded (action_word c b) → a ≡ b
  actions_apart = PddlWords.actions_apart c fits_words

  pub predicates_apart : (a b : Predicate) → Memᴰ a (predicates c) → Memᴰ b (predicates c) → folded (predicate_word c a) ≡ folded (predicate_word c b) → a ≡ b
  predicates_apart = PddlWords.predicates_apart c fits_words

  pub objects_apart : (x y : ℕ) → x < c.site.size → y < c.site.size → folded (object_word x) ≡ folded (object_word y) → x ≡ y
  objects_apart = PddlWords.objects_apart c fits_words

  -- The texts are what strict readers ask for: an action says only predicates that are declared, of as many terms as they have places,
  -- and names only constants; a fact says only such predicates, of elements; and every object is declared once.
  pub patterns_formed : (name : ActionName) → Memᴰ name (action_names c) → (a : Pattern) → Memᴰ a ((schema_of c name).needed ++ ((schema_of c name).added ++ (schema_of c name).removed))
      → Memᴰ a.predicate (predicates c) × (length a.terms ≡ places_in c a.predicate) × ((x : ℕ) → Memᴰ (object x) a.terms → Memᴰ x (constants c))
  patterns_formed name m a i = let f = PddlForms.patterns_formed c fits_words name m a i in (f.is_declared_lem, f.places_right, f.constants_only)

  pub facts_formed : (f : Fact) → Memᴰ f (facts_of c) → Memᴰ f.predicate (predicates c) × (length f.objects ≡ places_in c f.predicate) × (all (λ x. ltb x c.site.size) f.objects ≡ true)
  facts_formed f m = let g = PddlForms.facts_formed c fits_words f m in (g.fact_declared, g.fact_places, T_true _ g.fact_objects)

  pub objects_once : Once (constants c ++ from 1 (c.site.size - 2))
  objects_once = PddlForms.objects_once c fits_words

-- A case with a `type` line is 22, place 0, once the third input is read, and before 11.
module _ (L : CaseLimits) (question site : List ℕ) (c : CaseRead) (is_filed : read_filed L question site ≡ accepted c) (typed : is_empty c.case.question.types ≡ false) where
  pub typed_refused : (old : List ℕ) → ((write_domain L question site old).answer ≡ refused 22 zero) × ((write_instance L question site old).answer ≡ refused 22 zero)
  typed_refused = PddlCalls.typed_refused L question site c is_filed typed

  pub typed_plan : (given : ThirdInput) (steps : List ℕ) → take_steps given ≡ accepted steps → (old : List ℕ) → (write_plan L question site given old).answer ≡ refused 22 zero
  typed_plan = PddlCalls.typed_plan L question site c is_filed typed

  pub typed_read : (plan : List ℕ) (ls : List PlanLine) → read_plan_lines plan ≡ accepted ls → (old : List ℕ) → (read_plan L question site plan old).answer ≡ refused 22 zero
  typed_read = PddlCalls.typed_read L question site c is_filed typed

-- A case with an `every` line and no `type` line is 23, place 0, once the third input is read, unless it is 11.
module _ (L : CaseLimits) (question site : List ℕ) (c : CaseRead) (is_filed : read_filed L question site ≡ accepted c) (no_types_lem : c.case.question.types ≡ []) (e : Relation) (varies : c.case.question.every ≡ some e)
    (within : (ltb L.atoms (atoms (problem_of c.case)) || ltb L.actions (actions (problem_of c.case))) ≡ false) where
  pub every_refused : (old : List ℕ) → ((write_domain L question site old).answer ≡ refused 23 zero) × ((write_instance L question site old).answer ≡ refused 23 zero)
  every_refused = PddlCalls.every_refused L question site c is_filed no_types_lem e varies within

  pub every_plan : (given : ThirdInput) (steps : List ℕ) → take_steps given ≡ accepted steps → (old : List ℕ) → (write_plan L question site given old).answer ≡ refused 23 zero
  every_plan = PddlCalls.every_plan L question site c is_filed no_types_lem e varies within

  pub every_read : (plan : List ℕ) (ls : List PlanLine) → read_plan_lines plan ≡ accepted ls → (old : List ℕ) → (read_plan L question site plan old).answer ≡ refused 23 zero
  every_read = PddlCalls.every_read L question site c is_filed no_types_lem e varies within

-- So where one of the four answers, the case has neither.
module _ (L : CaseLimits) (question site : List ℕ) (c : CaseRead) (is_filed : read_filed L question site ≡ accepted c) (old : List ℕ) (many : ℕ) where
  pub domain_taken : (write_domain L question site old).answer ≡ accepted many → (c.case.question.types ≡ []) × (c.case.question.every ≡ none)
  domain_taken = PddlCalls.domain_taken L question site c is_filed old many

  pub instance_taken : (write_instance L question site old).answer ≡ accepted many → (c.case.question.types ≡ []) × (c.case.question.every ≡ none)
  instance_taken = PddlCalls.instance_taken L question site c is_filed old many

  pub plan_taken : (given : ThirdInput) → (write_plan L question site given old).answer ≡ accepted many → (c.case.question.types ≡ []) × (c.case.question.every ≡ none)
  plan_taken given = PddlCalls.plan_taken L question site c is_filed given old many

  pub read_taken : (plan : List ℕ) → (read_plan L question site plan old).answer ≡ accepted many → (c.case.question.types ≡ []) × (c.case.question.every ≡ none)
  read_taken plan = PddlCalls.read_taken L question site c is_filed plan old many

-- For whatever is handed over: each of the four refuses only with numbers of its own, leaves its buffer as it was then, and keeps its length.
module _ (L : CaseLimits) (question site : List ℕ) where
  pub domain_refuse : (old : List ℕ) (k place : ℕ) → (write_domain L question site old).answer ≡ refused k place → (is_in k pddl_numbers ≡ true) × ((write_domain L question site old).text ≡ old)
  domain_refuse = PddlCalls.domain_refuse L question site

  pub instance_refuse : (old : List ℕ) (k place : ℕ) → (write_instance L question site old).answer ≡ refused k place → (is_in k pddl_numbers ≡ true) × ((write_instance L question site old).text ≡ old)
  instance_refuse = PddlCalls.instance_refuse L question site

  pub plan_refuse : (steps : ThirdInput) (old : List ℕ) (k place : ℕ) → (write_plan L question site steps old).answer ≡ refused k place → (is_in k (13 ∷ pddl_numbers) ≡ true) × ((write_plan L question site steps old).text ≡ old)
  plan_refuse = PddlCalls.plan_refuse L question site

  pub plan_read_refuse : (plan old : List ℕ) (k place : ℕ) → (read_plan L question site plan old).answer ≡ refused k place → (is_in k pddl_numbers ≡ true) × ((read_plan L question site plan old).steps ≡ old)
  plan_read_refuse = PddlCalls.read_refuse L question site

  pub pddl_length : (old : List ℕ) → (length (write_domain L question site old).text ≡ length old) × (length (write_instance L question site old).text ≡ length old) × ((steps : ThirdInput) → length (write_plan L question site steps old).text ≡ length old) × ((plan : List ℕ) → length (read_plan L question site plan old).steps ≡ length old)
  pddl_length old = (PddlCalls.domain_length L question site old, PddlCalls.instance_length L question site old, λ steps. PddlCalls.plan_length L question site steps old, λ plan. PddlCalls.read_length L question site plan old)
