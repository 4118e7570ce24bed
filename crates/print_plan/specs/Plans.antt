-- The lines of steps: what is written where each is an action's, the first that is none, and how long the lines are. Assumes nothing.
use Prim.Native.Nat.{ℕ, zero, suc, ◌+◌, ◌*◌, ◌≤◌, ◌<◌}
use Rattle.std.specs.Prelude.{◌≡◌, Bool, true, false, ltb, get_or, drop}
use Rattle.std.proofs.Math.Path.{refl, ap}
use Rattle.std.proofs.Common.{sym, subst, ◌∙◌, add-one, drop_of_length-le, drop-cons, ltb-true, ltb-false}
use Rattle.std.proofs.Math.Option.{Option, none, some}
use mathlib.Core.List.{List, [], ◌∷◌, ◌++◌, map}
use native.Mathlib.Omega.{arith}
use Rattle.std.proofs.Math.ListN.{length, length-append}
use Rattle.print_line.specs.Lines.{next_byte, no_byte}
use Rattle.print_bytes.specs.Emitted.{few_digits}
use Rattle.definitions.specs.Lists.{flat_map, option}
use Rattle.definitions.specs.Refusal.{refused, accepted, ◌>>=◌, given}
use Rattle.definitions.specs.Sheet.Text.{bytes, decimal}
use Rattle.definitions.specs.Sheet.Formula.{write_each}
use Rattle.definitions.specs.Problem.Truth.{Case}
use Rattle.definitions.specs.Problem.Tree.{free}
use Rattle.definitions.specs.Problem.Atoms.{Problem, problem_of, problem_with, relation_at, node_at}
use Rattle.definitions.specs.Problem.Actions as A
use Rattle.definitions.specs.Reply.Lifted.{ActionName, set_name, begin_name, goal_name, and_name, exists_name, first_name, next_name, or_name, relation_in, PlanStep}
use Rattle.definitions.specs.Reply.Pddl.{object_word, action_word, bracketed, indented, plan_step, plan_from, plan_of, step_text, plan_text}
use Rattle.definitions.specs.Reply.Page.{spaces, free_values}
use Rattle.laws.specs.Numbers.{at_none, action_some}
use Rattle.laws.specs.Rows.{length_places}
use Rattle.meaning.specs.Shown.{four_free}
use Rattle.print_plan.specs.Lines.{objects_text, objects_none, objects_next, line_at}

-- every step has an action
abbrev pub Taken : Problem → List ℕ → Type 0
Taken p steps = (i : ℕ) → i < length steps → (a : A.Action) × (A.action_at p (get_or steps i 0) ≡ some a)

-- ---- bytes of the steps from one on, and of the objects from one on
pub lines_next : (c : Case) (p : Problem) (steps : List ℕ) (i k : ℕ) → i < length steps → k ≡ get_or steps i 0 → flat_map (line_at c p) (drop i steps) ≡ line_at c p k ++ flat_map (line_at c p) (drop (i + 1) steps)
unfolding flat_map
lines_next c p steps i k h e = rw (drop-cons steps i 0 h, add-one i, e)

pub lines_end : (c : Case) (p : Problem) (steps : List ℕ) (i : ℕ) → length steps ≤ i → flat_map (line_at c p) (drop i steps) ≡ []
unfolding flat_map
lines_end c p steps i h = rw (drop_of_length-le steps h)

pub values_next : (values : List ℕ) (i : ℕ) → i < length values → objects_text (drop i values) ≡ (32 ∷ []) ++ (object_word (get_or values i 0) ++ objects_text (drop (i + 1) values))
values_next values i h = ap objects_text (next_byte values i h) ∙ objects_next (get_or values i 0) (drop (i + 1) values)

pub values_end : (values : List ℕ) (i : ℕ) → length values ≤ i → objects_text (drop i values) ≡ []
values_end values i h = ap objects_text (no_byte values i h) ∙ objects_none

-- ---- steps that are all actions' have a plan, which is written by their lines
module _ (c : Case) (p : Problem) where
  plan_from_lem : (steps : List ℕ) (i : ℕ) → Taken p steps → (plan : List PlanStep) × (plan_from p i steps ≡ accepted plan) × (plan_text c plan ≡ flat_map (line_at c p) steps)
  unfolding plan_from plan_text flat_map given ◌>>=◌ line_at option
  plan_from_lem [] i t = ([], refl, refl)
  plan_from_lem (k ∷ ks) i t =
      let (a, e) = t 0 (omega arith) in
      let (plan, f, g) = plan_from_lem ks (suc i) (λ j h. t (suc j) (omega arith)) in
      (plan_step p a ∷ plan, rw (e, f) refl, rw e (ap (λ (x : List ℕ). step_text c (plan_step p a) ++ x) g))

  pub plan_there : (steps : List ℕ) → Taken p steps → (plan : List PlanStep) × (plan_of p steps ≡ accepted plan) × (plan_text c plan ≡ flat_map (line_at c p) steps)
  unfolding plan_of
  plan_there steps t = plan_from_lem steps 0 t

  -- the first that is none is told
  first_none : (steps : List ℕ) (i j : ℕ) → ((m : ℕ) → m < j → (a : A.Action) × (A.action_at p (get_or steps m 0) ≡ some a)) → j < length steps → A.action_at p (get_or steps j 0) ≡ none → plan_from p i steps ≡ refused 13 (i + j)
  unfolding plan_from given ◌>>=◌
  first_none [] i j t h e = absurd (omega arith)
  first_none (k ∷ ks) i zero t h e = let z : i + zero ≡ i = omega arith in rw e (ap (refused 13) (sym z))
  first_none (k ∷ ks) i (suc j) t h e =
      let (a, q) = t 0 (omega arith) in
      let r = first_none ks (suc i) j (λ m l. t (suc m) (omega arith)) (omega arith) e in
      let z : suc i + j ≡ i + suc j = omega arith in
      rw (q, r) (ap (refused 13) z)

-- ---- by the number of actions
pub record Counted (steps : List ℕ) (actions r : ℕ) : Type 0 where
  pub within : r ≤ length steps
  pub small : (i : ℕ) → i < r → get_or steps i 0 < actions
  pub large : r < length steps → actions ≤ get_or steps r 0

pub smaller : (steps : List ℕ) (actions r : ℕ) → ((i : ℕ) → i < r → get_or steps i 0 < actions) → get_or steps r 0 < actions → (i : ℕ) → i < r + 1 → get_or steps i 0 < actions
smaller steps actions r h l i g = by_test (ltb i r) refl
  where
    by_test : (b : Bool) → ltb i r ≡ b → get_or steps i 0 < actions
    by_test true q = h i (ltb-true i r q)
    by_test false q = let e : i ≡ r = omega (arith, ltb-false i r q) in subst (λ (j : ℕ). get_or steps j 0 < actions) (sym e) l

module _ (c : Case) (p : Problem) (steps : List ℕ) (r : ℕ) (C : Counted steps (A.actions p) r) where
  pub all_taken : length steps ≤ r → Taken p steps
  all_taken h i l = action_some p (get_or steps i 0) (C.small i (omega arith))

  pub one_missing : r < length steps → plan_of p steps ≡ refused 13 r
  unfolding plan_of
  one_missing h = let z : 0 + r ≡ r = omega arith in first_none c p steps 0 r (λ m l. action_some p (get_or steps m 0) (C.small m l)) h (at_none p (get_or steps r 0) (C.large h)) ∙ ap (refused 13) z

-- ---- how long the lines are
module _ (c : Case) (short : (r : ℕ) → length (relation_in c r).name ≤ 12) (few : (r : ℕ) → (relation_in c r).arity ≤ 3) where
  word_few : (a : ActionName) → length (action_word c a) ≤ 60
  unfolding action_word
  word_few (set_name r) = omega (arith, short r, length-append (relation_in c r).name (bytes "_true"))
  word_few begin_name = omega arith
  word_few goal_name = omega arith
  word_few (and_name v) = omega (arith, few_digits v)
  word_few (exists_name v) = omega (arith, few_digits v)
  word_few (first_name v) = omega (arith, few_digits v, length-append (decimal v) (bytes "_1"))
  word_few (next_name v) = omega (arith, few_digits v, length-append (decimal v) (bytes "_2"))
  word_few (or_name v i) = omega (arith, few_digits v, few_digits i, length-append (decimal v) (bytes "_" ++ decimal i))

  objects_few : (xs : List ℕ) → length (write_each (λ v. v) (map object_word xs)) ≤ 22 * length xs
  unfolding write_each object_word
  objects_few [] = omega arith
  objects_few (x ∷ xs) = omega (arith, objects_few xs, few_digits x, length-append (decimal x) (write_each (λ v. v) (map object_word xs)))

  abbrev p : Problem
  p = problem_of c

  free_few : (v row : ℕ) → length (free_values p v row) ≤ 4
  unfolding free_values
  free_few v row = omega (arith, length_places p.size (length (free (node_at p v))) row, four_free (node_at p v))

  places_few : (r : ℕ) → (relation_at p r).arity ≤ 3
  unfolding relation_at problem_of problem_with relation_in
  places_few r = few r

  six : (a : A.Action) → length (plan_step p a).objects ≤ 6
  unfolding plan_step
  six (A.set r row) = omega (arith, length_places p.size (relation_at p r).arity row, places_few r)
  six A.begin_proof = omega arith
  six (A.prove_and v row) = omega (arith, free_few v row)
  six (A.prove_or v row i) = omega (arith, free_few v row)
  six (A.prove_exists v row x) = omega (arith, free_few v row, length-append (free_values p v row) (x ∷ []))
  six (A.prove_forall v row zero) = omega (arith, free_few v row)
  six (A.prove_forall v row (suc y)) = omega (arith, free_few v row, length-append (free_values p v row) (y ∷ suc y ∷ []))
  six A.prove_goal = omega arith
  six A.round_end = omega arith
  six (A.mark_in r row) = omega arith
  six (A.mark_out r row) = omega arith

  line_few : (a : A.Action) → length (step_text c (plan_step p a)) ≤ 200
  unfolding step_text indented spaces bracketed
  line_few a =
      let t = plan_step p a in
      let w : List ℕ = action_word c t.name in
      let y : List ℕ = write_each (λ v. v) (map object_word t.objects) in
      omega (arith, word_few t.name, objects_few t.objects, six a, length-append y (41 ∷ []), length-append w (y ++ (41 ∷ [])), length-append (w ++ (y ++ (41 ∷ []))) (10 ∷ []))

  at_few : (k : ℕ) → length (line_at c p k) ≤ 200
  unfolding line_at option
  at_few k = by_option (A.action_at p k)
    where
      by_option : (o : Option A.Action) → length (option o [] (λ a. step_text c (plan_step p a))) ≤ 200
      by_option none = omega arith
      by_option (some a) = line_few a

  pub lines_few : (steps : List ℕ) → length (flat_map (line_at c p) steps) ≤ 200 * length steps
  unfolding flat_map
  lines_few [] = omega arith
  lines_few (k ∷ ks) = omega (arith, at_few k, lines_few ks, length-append (line_at c p k) (flat_map (line_at c p) ks))
