-- The step of a line's words. Assumes nothing.
use Rattle.std.specs.Prelude.{ℕ, zero, suc, ◌+◌, ◌≤◌, ◌<◌, ◌≡◌, Bool, true, false, length, take, replicate, if◌then◌else◌}
use Rattle.std.specs.Prelude.{None}
use Rattle.std.proofs.Math.Path.{refl, sym, ap, subst}
use Rattle.std.proofs.Common.{◌∙◌, ne_eqb}
use Rattle.std.proofs.Math.Option.{Option, none, some}
use mathlib.Core.List.{List, [], ◌∷◌, Memᴰ}
use native.Mathlib.Omega.{arith}
use Rattle.std.proofs.Math.Seq.{slice}
use Rattle.definitions.specs.Lists.{option, find}
use Rattle.definitions.specs.Sheet.Text.{split}
use Rattle.definitions.specs.Sheet.Relations.{is_chosen, is_universal}
use Rattle.definitions.specs.Problem.Truth.{Case}
use Rattle.definitions.specs.Problem.Tree.{free}
use Rattle.definitions.specs.Problem.Atoms.{Problem, problem_of, problem_with, relation_at, node_at}
use Rattle.definitions.specs.Reply.Lifted.{ActionName, set_name, begin_name, goal_name, and_name, exists_name, first_name}
use Rattle.definitions.specs.Reply.Lifted.{next_name, or_name, relation_in, node_in, set_schema, proof_schema, schema_of, action_names}
use Rattle.definitions.specs.Reply.Pddl.{folded, name_from, objects_from, step_from}
use Rattle.laws.specs.Booleans.{or_l}
use Rattle.meaning.specs.PddlWords.{Named, few_part, names_are}
use Rattle.rows.specs.Values.{Within}
use Rattle.read_text.specs.Spans.{index_of}
use Rattle.problem_table.specs.Lines.{size_in}
use Rattle.print_names.specs.declared.Name.{Name}
use Rattle.print_names.specs.declared.Name.TheVariants as N
use Rattle.print_names.specs.Naming.{name_of, named}
use Rattle.read_plan.specs.Domain.{named_of}
use Rattle.read_plan.specs.Objects.{Objects, words_after, line_words_lem}
use Rattle.read_plan.specs.Numbers.{told, number_by, NameFits}
use Rattle.read_plan.specs.Tails.{step_of, Posed, number_is}

found_in : {B : Type 0} (f : B → Bool) (l : List B) (a : B) → find f l ≡ some a → Memᴰ a l
unfolding find
found_in f [] a e = let z : ◌≡◌ {A = ℕ} 0 1 = cc in absurd (omega arith)
found_in f (b ∷ l) a e = by_test (f b) e (found_in f l a)
  where
    by_test : (k : Bool) → (if k then some b else find f l) ≡ some a → (find f l ≡ some a → Memᴰ a l) → Memᴰ a (b ∷ l)
    by_test true q r = let z : a ≡ b = cc in Memᴰ.head z
    by_test false q r = Memᴰ.tail (r q)

-- nobody has no step
nobody : (k : Name) → name_of k ≡ none → k ≡ N.Nobody
unfolding name_of
nobody (N.Set r) e = let z : ◌≡◌ {A = ℕ} 0 1 = cc in absurd (omega arith)
nobody N.Begin e = let z : ◌≡◌ {A = ℕ} 0 1 = cc in absurd (omega arith)
nobody N.Goal e = let z : ◌≡◌ {A = ℕ} 0 1 = cc in absurd (omega arith)
nobody (N.And v) e = let z : ◌≡◌ {A = ℕ} 0 1 = cc in absurd (omega arith)
nobody (N.Exists v) e = let z : ◌≡◌ {A = ℕ} 0 1 = cc in absurd (omega arith)
nobody (N.First v) e = let z : ◌≡◌ {A = ℕ} 0 1 = cc in absurd (omega arith)
nobody (N.Next v) e = let z : ◌≡◌ {A = ℕ} 0 1 = cc in absurd (omega arith)
nobody (N.Or v i) e = let z : ◌≡◌ {A = ℕ} 0 1 = cc in absurd (omega arith)
nobody N.Nobody e = refl

module _ (c : Case) (question names w : List ℕ) (P : Posed c question names w) where
  abbrev p : Problem
  p = problem_of c

  node_few : (v : ℕ) → v < length p.node_list → v < 64
  node_few v l = omega (arith, P.is.nodes, P.fits.nodes)

  width_few : (v : ℕ) → v < length p.node_list → length (free (node_at p v)) ≤ 4
  width_few v l = omega (arith, (P.is.node v l).width, (P.fits.node v (node_few v l)).width)

  parameters_few : (a : ActionName) → Named c a → (schema_of c a).parameters ≤ 6
  unfolding Named schema_of set_schema proof_schema relation_in node_in relation_at node_at problem_of problem_with
  parameters_few (set_name r) (l, t) = omega
      (arith, P.names_are.arity r l (or_l (is_chosen (relation_at p r).kind) (is_universal (relation_at p r).kind) t), P.names_are.fit.arity r)
  parameters_few begin_name h = omega arith
  parameters_few goal_name h = omega arith
  parameters_few (and_name v) h = omega (arith, width_few v h.0)
  parameters_few (exists_name v) h = omega (arith, width_few v h.0)
  parameters_few (first_name v) h = omega (arith, width_few v h.0)
  parameters_few (next_name v) h = omega (arith, width_few v h.0)
  parameters_few (or_name v i) h = omega (arith, width_few v h.0)

  relation_there : (r : ℕ) → Named c (set_name r) → r < length p.relations
  unfolding Named problem_of problem_with
  relation_there r h = h.0

  named_fits : (a : ActionName) → Named c a → NameFits (named a)
  unfolding NameFits named Named problem_of problem_with
  named_fits (set_name r) h = omega (arith, P.is.relations, P.fits.relations, relation_there r h)
  named_fits begin_name h = tt
  named_fits goal_name h = tt
  named_fits (and_name v) h = node_few v h.0
  named_fits (exists_name v) h = node_few v h.0
  named_fits (first_name v) h = node_few v h.0
  named_fits (next_name v) h = node_few v h.0
  named_fits (or_name v i) h = (node_few v h.0, omega (arith, few_part c P.accepts v i h))

  name_known : (word : List ℕ) (a : ActionName) → name_from c word ≡ some a → Named c a
  unfolding name_from
  name_known word a e = names_are c a (found_in _ (action_names c) a e)

  pub name_fits : (word : List ℕ) (k : Name) → name_of k ≡ name_from c word → NameFits k
  unfolding NameFits
  name_fits word k e = by_name (name_from c word) refl
    where
      by_name : (o : Option ActionName) → name_from c word ≡ o → NameFits k
      by_name none q = subst NameFits (sym (nobody k (e ∙ q))) tt
      by_name (some a) q = subst NameFits (sym (named_of k a (e ∙ q))) (named_fits a (name_known word a q))

  -- the step of a word and the words after it
  module _ (word : List ℕ) (ws : List (List ℕ)) (k : Name) (e : name_of k ≡ name_from c word) where
    step_words : step_from c p (word ∷ ws) ≡ option (name_from c word) none (λ a. option (objects_from p.size ws) none (λ xs. step_of c p a xs))
    unfolding step_from step_of
    step_words = refl

    too_many : (a : ActionName) (xs : List ℕ) → Named c a → 6 < length xs → step_of c p a xs ≡ none
    unfolding step_of
    too_many a xs h l = rw (ne_eqb (length xs) (schema_of c a).parameters (λ q. omega (arith, parameters_few a h))) refl

    pub step_many : (values : List ℕ) (r : ℕ) → Objects (size_in w) ws values r → 6 < r → told None ≡ step_from c p (word ∷ ws)
    unfolding Objects option told
    step_many values r (x, y, z) l = sym (step_words ∙ by_name (name_from c word) refl)
      where
        by_objects : (a : ActionName) → Named c a → (o : Option (List ℕ)) → objects_from p.size ws ≡ o → option o none (λ xs. step_of c p a xs) ≡ none
        by_objects a h none q = refl
        by_objects a h (some xs) q = too_many a xs h (z l xs (ap (λ (n : ℕ). objects_from n ws) P.is.size ∙ q))

        by_name : (o : Option ActionName) → name_from c word ≡ o → option o none (λ a. option (objects_from p.size ws) none (λ xs. step_of c p a xs)) ≡ none
        by_name none q = refl
        by_name (some a) q = by_objects a (name_known word a q) (objects_from p.size ws) refl

    pub step_few : (values : List ℕ) (r : ℕ) → length values ≡ 6 → Within (size_in w) values → Objects (size_in w) ws values r → r ≤ 6
        → number_by names w k values r ≡ step_from c p (word ∷ ws)
    unfolding Objects option number_by
    step_few values r six W (x, y, z) l = by_name (name_from c word) refl ∙ sym step_words
      where
        objects_are : objects_from p.size ws ≡ some (take r values)
        objects_are = ap (λ (n : ℕ). objects_from n ws) (sym P.is.size) ∙ y l

        by_name : (o : Option ActionName) → name_from c word ≡ o
            → number_by names w k values r ≡ option o none (λ a. option (objects_from p.size ws) none (λ xs. step_of c p a xs))
        by_name none q = ap (λ (j : Name). number_by names w j values r) (nobody k (e ∙ q))
        by_name (some a) q = ap (λ (j : Name). number_by names w j values r) (named_of k a (e ∙ q))
            ∙ number_is c question names w P values six W r l a (name_known word a q)
            ∙ sym (ap (λ (o : Option (List ℕ)). option o none (λ xs. step_of c p a xs)) objects_are)

-- of a line's span
module _ (c : Case) (question names w : List ℕ) (P : Posed c question names w) (s : List ℕ) (a t e : ℕ) (h : a ≤ e) (l : e ≤ length s)
    (q : t ≡ a + index_of 32 (slice a e s)) (k : Name)
    (n : name_of k ≡ name_from c (folded (slice a t s))) where
  pub line_many : (values : List ℕ) (r : ℕ) → Objects (size_in w) (words_after s t e) values r → 6 < r
      → told None ≡ step_from c (problem_of c) (split 32 (folded (slice a e s)))
  line_many values r O m = step_many c question names w P (folded (slice a t s)) (words_after s t e) k n values r O m
      ∙ ap (step_from c (problem_of c)) (sym (line_words_lem s a t e h l q))

  pub line_few : (values : List ℕ) (r : ℕ) → length values ≡ 6 → Within (size_in w) values → Objects (size_in w) (words_after s t e) values r → r ≤ 6
      → number_by names w k values r ≡ step_from c (problem_of c) (split 32 (folded (slice a e s)))
  line_few values r six W O m = step_few c question names w P (folded (slice a t s)) (words_after s t e) k n values r six W O m
      ∙ ap (step_from c (problem_of c)) (sym (line_words_lem s a t e h l q))

pub zeros_within : (k n : ℕ) → 0 < n → Within n (replicate k 0)
zeros_within zero n h i = h
zeros_within (suc k) n h zero = h
zeros_within (suc k) n h (suc i) = zeros_within k n h i
