-- What the actions of an accepted case show on a page: words that fit their columns, and few elements.
use Rattle.std.specs.Prelude.{ℕ, zero, suc, ◌-◌, ◌*◌, ◌^◌, ◌≤◌, ◌<◌, ◌≡◌, Bool, true, false, not, ◌&&◌, ltb, if◌then◌else◌}
use Rattle.std.proofs.Common.{sym, ◌∙◌, mul-pos, arith, ltb→lt, length-append, ltb-false}
use Rattle.std.proofs.Math.Path.{ap, subst}
use Rattle.std.proofs.Math.Logic.{⊎_elim}
use Rattle.std.proofs.Math.Option.{some}
use mathlib.Core.List.Memᴰ
use mathlib.Core.List.{List, [], ◌∷◌, ◌++◌, Memᴰ}
use Rattle.std.proofs.Math.Nat.{one-le-pow}
use Rattle.std.proofs.Math.Dec.{T, leb, leb→le}
use Rattle.std.proofs.Math.ListN.{length}
use Rattle.std.proofs.lemmas.Bool.{not-false}
use Rattle.definitions.specs.Limits.{usual, step_limit}
use Rattle.definitions.specs.Lists.{below}
use Rattle.definitions.specs.Sheet.Text.{decimal, is_between}
use Rattle.definitions.specs.Refusal.{Result, accepted, refuse_if}
use Rattle.definitions.specs.Sheet.Relations.{is_universal}
use Rattle.definitions.specs.Problem.Tree.{Tree, free, is_forall, occurs}
use Rattle.definitions.specs.Problem.Atoms.{Problem, problem_of, problem_with, relation_at, node_at, places_of, rows_of, node_width, node_start, atoms}
use Rattle.definitions.specs.Problem.Actions.{Action, set, begin_proof, prove_and, prove_or, prove_exists, prove_forall, prove_goal, round_end, mark_in, mark_out, proof_number, action_number, actions, action_at}
use Rattle.definitions.specs.Reply.Outcome.{ThirdInput, as_text, as_numbers, take_steps, CaseRead, read_filed, nothing, Ready, ready_to_run}
use Rattle.definitions.specs.Problem.Strips.{run}
use Rattle.definitions.specs.Reply.Desk.{said}
use Rattle.definitions.specs.Reply.Page.{subject_word, free_values, shown_elements, part_word, lines_of, pages, page_text, page_of, laid}
use Rattle.laws.specs.Booleans.{T_of, T_and_l, T_and_r}
use Rattle.laws.specs.Lists.{all_at, get_or_mem, length_below}
use Rattle.laws.specs.Results.{accepted_eq, bind_parts, not_refused}
use Rattle.laws.specs.Repeats.{filter_le}
use Rattle.laws.specs.Members.{ascending_once}
use Rattle.laws.specs.Rows.{length_places, places_below}
use Rattle.laws.specs.Numbers.{no_relation, IsAction, chosen_early, node_next, node_le, action_is, action_number_lem, action_below}
use Rattle.laws.specs.Asked
use Rattle.laws.specs.Reader.{FiledFits, filed_fits, gives_if, acceptance}
use Rattle.meaning.specs.Means.{Good}
use Rattle.meaning.specs.Grounded.{good, static_early, relation_cases, chosen_index, chosen_at}
use Rattle.laws.specs.Decimals.{decimal_length}
use Rattle.laws.specs.Lines.{name_short}
use Rattle.meaning.specs.Building.{ground_is}
use Rattle.laws.specs.Told.{steps_told}
use Rattle.meaning.specs.Few
use Rattle.laws.specs.Spelling.{said_short}
use Rattle.laws.specs.Pages.{Each, Shown, lines_long, lines_few, page_length}

-- a node has at most four free variables
pub four_free : (t : Tree) → length (free t) ≤ 4
unfolding free
four_free t = let a = filter_le (λ l. occurs l t) (below 4) in let b = length_below 4 in omega arith

-- every node has an atom, so there are at least as many atoms as nodes
some_atom : (n : ℕ) (t : Tree) → 0 < n → 0 < node_width n t
unfolding node_width rows_of
some_atom n t h = by_test (is_forall t) (one-le-pow (length (free t)) n h)
  where
    by_test : (b : Bool) → 1 ≤ n ^ length (free t) → 0 < (if b then n ^ length (free t) * n else n ^ length (free t))
    by_test true l = mul-pos l h
    by_test false l = l

nodes_low : (p : Problem) → 0 < p.size → (v : ℕ) → v ≤ length p.node_list → v ≤ node_start p v
nodes_low p h zero l = omega arith
nodes_low p h (suc v) l = omega (arith, nodes_low p h v (omega arith), node_next p v (omega arith), some_atom p.size (node_at p v) h)

pub node_number_lem : (p : Problem) → 0 < p.size → (v : ℕ) → v < length p.node_list → v < atoms p
node_number_lem p h v l = omega (arith, nodes_low p h (length p.node_list) (omega arith), node_le p (length p.node_list) (omega arith))

module _ (f : CaseRead) (F : FiledFits f) (few_atoms : atoms (problem_of f.case) < 10 ^ 7) (few_actions : actions (problem_of f.case) ≤ 10 ^ 7) where
  abbrev p : Problem
  p = problem_of f.case

  G : Good p
  G = good f.case F.case_fits

  -- elements
  element_short : (x : ℕ) → x < p.size → length (said f.labels x) ≤ 12
  unfolding problem_of problem_with
  element_short x h = said_short f.case.site.size f.labels F.labels_fit x (omega (arith, F.case_fits.site_fits.few_elements))

  places_short : (k row x : ℕ) → Memᴰ x (places_of p.size k row) → length (said f.labels x) ≤ 12
  places_short k row x m = element_short x (ltb→lt x p.size (all_at _ (places_of p.size k row) (places_below p.size k row G.element) x m))

  range_short : (s x : ℕ) → Memᴰ x (p.range s) → length (said f.labels x) ≤ 12
  range_short s x m = element_short x ((G.ranged s).small x m)

  free_short : (v row x : ℕ) → Memᴰ x (free_values p v row) → length (said f.labels x) ≤ 12
  unfolding free_values
  free_short v row x m = places_short (length (free (node_at p v))) row x m

  one_more : (v row x : ℕ) → length (said f.labels x) ≤ 12 → (y : ℕ) → Memᴰ y (free_values p v row ++ (x ∷ [])) → length (said f.labels y) ≤ 12
  one_more v row x h y m = ⊎_elim (λ q. free_short v row y q) (λ q. subst (λ (z : ℕ). length (said f.labels z) ≤ 12) (sym (Memᴰ.eq_of_singleton q)) h) (Memᴰ.append_cases (free_values p v row) m)

  free_count : (v row : ℕ) → length (free_values p v row) ≤ 4
  unfolding free_values
  free_count v row = omega (arith, length_places p.size (length (free (node_at p v))) row, four_free (node_at p v))

  -- names and numbers
  name_at : (r : ℕ) → r < length p.relations → Memᴰ (relation_at p r) p.relations
  unfolding relation_at
  name_at r l = get_or_mem p.relations r no_relation l

  chosen_short : (r row : ℕ) → IsAction p (set r row) → length (relation_at p r).name ≤ 12
  unfolding IsAction
  chosen_short r row v =
      let (j, e, l) = chosen_index f.case F.case_fits r v.0 v.1 in
      let q = ap (relation_at p) e ∙ chosen_at f.case F.case_fits j l in
      name_short (relation_at p r).name (rw q (F.case_fits.question_fits.chosen_named _ (get_or_mem f.case.question.chosen j no_relation l)))

  mark_short : (r : ℕ) → r < length p.relations → T (is_universal (relation_at p r).kind) → length (relation_at p r).name ≤ 12
  unfolding problem_of problem_with
  mark_short r l u = ⊎_elim
      (λ e. absurd (static_early (relation_at p r).kind e u))
      (λ q. ⊎_elim (λ h. absurd (chosen_early (relation_at p r).kind h.chosen u)) (λ h. name_short (relation_at p r).name h.named) q)
      (relation_cases f.case F.case_fits (relation_at p r) (name_at r l)).2

  arity_few : (r : ℕ) → r < length p.relations → (relation_at p r).arity ≤ 3
  unfolding problem_of problem_with
  arity_few r l = (relation_cases f.case F.case_fits (relation_at p r) (name_at r l)).1

  node_short : (v : ℕ) → v < length p.node_list → length (decimal v) ≤ 12
  node_short v l = omega (arith, decimal_length 6 v (omega (arith, node_number_lem p G.element v l)))

  pub shown : (k : ℕ) (a : Action) → action_at p k ≡ some a → Shown f.labels p k a
  unfolding IsAction subject_word part_word shown_elements action_number proof_number
  shown k a e = by_action a e (action_is p k a e)
    where
      low : (a : Action) → action_at p k ≡ some a → k < 10 ^ 7
      low a e = omega (arith, action_below p k a e)

      by_action : (a : Action) → action_at p k ≡ some a → IsAction p a → Shown f.labels p k a
      by_action (set r row) e v = record {
        number = low (set r row) e;
        subject = chosen_short r row v;
        part = omega arith;
        element = places_short (relation_at p r).arity row;
        few = omega (arith, length_places p.size (relation_at p r).arity row, arity_few r v.0);
      }
      by_action begin_proof e v = record { number = low begin_proof e; subject = omega arith; part = omega arith; element = λ x m. absurd (Memᴰ.not-nil m); few = omega arith }
      by_action (prove_and w row) e v = record { number = low (prove_and w row) e; subject = node_short w v.0; part = omega arith; element = free_short w row; few = omega (arith, free_count w row) }
      by_action (prove_or w row i) e v = record {
        number = low (prove_or w row i) e;
        subject = node_short w v.0;
        part = omega (arith, decimal_length 6 i (omega (arith, low (prove_or w row i) e, action_number_lem p (λ s. ascending_once (p.range s) (G.ranged s).ascends) k (prove_or w row i) e)));
        element = free_short w row;
        few = omega (arith, free_count w row);
      }
      by_action (prove_exists w row x) e v = record {
        number = low (prove_exists w row x) e;
        subject = node_short w v.0;
        part = omega arith;
        element = one_more w row x (range_short v.2.1 x v.2.4);
        few = omega (arith, free_count w row, length-append (free_values p w row) (x ∷ []));
      }
      by_action (prove_forall w row x) e v = record {
        number = low (prove_forall w row x) e;
        subject = node_short w v.0;
        part = omega arith;
        element = one_more w row x (range_short v.2.1 x v.2.4);
        few = omega (arith, free_count w row, length-append (free_values p w row) (x ∷ []));
      }
      by_action prove_goal e v = record { number = low prove_goal e; subject = omega arith; part = omega arith; element = λ x m. absurd (Memᴰ.not-nil m); few = omega arith }
      by_action round_end e v = record { number = low round_end e; subject = omega arith; part = omega arith; element = λ x m. absurd (Memᴰ.not-nil m); few = omega arith }
      by_action (mark_in r row) e v = record {
        number = low (mark_in r row) e;
        subject = mark_short r v.0 v.1;
        part = omega arith;
        element = places_short (relation_at p r).arity row;
        few = omega (arith, length_places p.size (relation_at p r).arity row, arity_few r v.0);
      }
      by_action (mark_out r row) e v = record {
        number = low (mark_out r row) e;
        subject = mark_short r v.0 v.1;
        part = omega arith;
        element = places_short (relation_at p r).arity row;
        few = omega (arith, length_places p.size (relation_at p r).arity row, arity_few r v.0);
      }

-- ---- at most so many steps are ever taken from a third input
pub taken_few : (given : ThirdInput) (ks : List ℕ) → take_steps given ≡ accepted ks → length ks ≤ step_limit
unfolding take_steps
taken_few (as_text text) ks e = omega (arith, Few.steps_few text ks e, (steps_told text ks e).1)
taken_few (as_numbers js) ks e =
    let (u, a, f) = bind_parts (refuse_if (ltb step_limit (length js)) 1 zero) _ ks e in
    subst (λ (l : List ℕ). length l ≤ step_limit) (accepted_eq js ks f) (ltb-false step_limit (length js) (not_refused (ltb step_limit (length js)) 1 zero u a))

-- ---- so every page of a case that is read by the usual limits has 4,380 bytes
module _ (question site : List ℕ) (given : ThirdInput) (rooms : Problem → Result (Unit {0})) (r : Ready (List ℕ)) (is_ready : ready_to_run usual question site given rooms ≡ accepted r) where
  read : Asked.Parts usual question site (λ _. take_steps given) nothing nothing rooms r
  unfolding ready_to_run
  read = Asked.parts usual question site (λ _. take_steps given) nothing nothing rooms r is_ready

  fits : FiledFits (record { case = r.case; labels = r.labels })
  fits = gives_if FiledFits (read_filed usual question site) _ read.is_filed (filed_fits usual (omega arith) question site)

  pub ready_shown : (k : ℕ) (a : Action) → action_at r.problem k ≡ some a → Shown r.labels r.problem k a
  ready_shown =
      let e = ground_is usual r.case r.problem read.is_problem in
      let P = acceptance usual (omega arith) question site r.problem (Asked.problem_from usual question site r.case r.problem read.is_case read.is_problem) in
      subst (λ (q : Problem). (k : ℕ) (a : Action) → action_at q k ≡ some a → Shown r.labels q k a) (sym e)
      (shown (record { case = r.case; labels = r.labels }) fits
      (subst (λ (q : Problem). atoms q < 10 ^ 7) e (omega (arith, P.few_atoms))) (subst (λ (q : Problem). actions q ≤ 10 ^ 7) e (omega (arith, P.few_actions))))

  ready_few : length r.third ≤ step_limit
  ready_few = taken_few given r.third read.is_third

  pub ready_lines : Each (λ y. length y ≡ 72) (lines_of r.labels r.problem r.third)
  ready_lines = lines_long r.labels r.problem ready_shown r.third (omega (arith, ready_few))

  pub ready_pages : pages (lines_of r.labels r.problem r.third) < 10 ^ 6
  unfolding pages
  ready_pages = omega (arith, ready_few, lines_few r.labels r.problem ready_shown r.third)

  pub ready_page : (m : ℕ) → suc m < 10 ^ 6 → length (page_text (lines_of r.labels r.problem r.third) m) ≡ 4380
  ready_page m h = page_length (lines_of r.labels r.problem r.third) ready_lines m h

  -- a page that is laid out is one of those, and has that many bytes
  pub laid_length : (m : ℕ) (text : List ℕ) → laid r m ≡ accepted text → length text ≡ 4380
  unfolding laid page_of is_between
  laid_length m text e =
      let (n, _, e₁) = bind_parts (run r.problem r.third).answer _ text e in
      let (u, a, e₂) = bind_parts (refuse_if (not (leb 1 m && leb m (pages (lines_of r.labels r.problem r.third)))) 13 m) _ text e₁ in
      let b : T (leb 1 m && leb m (pages (lines_of r.labels r.problem r.third))) = T_of (not-false (leb 1 m && leb m (pages (lines_of r.labels r.problem r.third))) (not_refused _ 13 m u a)) in
      let l : 1 ≤ m = leb→le 1 m (T_and_l (leb 1 m) _ b) in
      let h : m ≤ pages (lines_of r.labels r.problem r.third) = leb→le m _ (T_and_r (leb 1 m) _ b) in
      subst (λ (t : List ℕ). length t ≡ 4380) (accepted_eq _ text e₂) (ready_page (m - 1) (omega (arith, ready_pages)))
