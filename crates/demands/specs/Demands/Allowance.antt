-- Document 02, job 14, section 12 of the demands: how far one pick moves the number of built steps.
use Rattle.std.specs.Prelude.{ℕ, ◌+◌, ◌≤◌, ◌≡◌, true, List, ◌∷◌, map, length}
use Rattle.std.proofs.Math.Path.{refl}
use Rattle.std.proofs.Common.{sym, ap, subst, ◌∙◌, arith}
use Rattle.std.proofs.Math.Bool.{false}
use Rattle.std.proofs.Math.Option.{none, some}
use Rattle.std.proofs.Math.Dec.{ltb}
use borrow.Author.Tests.{le-ltb}
use Rattle.definitions.specs.Limits.{CaseLimits, step_limit}
use Rattle.definitions.specs.Lists.{is_in}
use Rattle.definitions.specs.Refusal.{Result, refused, accepted, ◌>>=◌, refuse_if, ready_numbers}
use Rattle.definitions.specs.Sheet.Relations.{Relation, Tuple, is_among}
use Rattle.definitions.specs.Sheet.Sheets.{Label}
use Rattle.definitions.specs.Problem.Truth.{Case, are_picks, are_of_kinds}
use Rattle.definitions.specs.Problem.Atoms.{Problem}
use Rattle.definitions.specs.Problem.Built.{chosen_numbers, built_steps}
use Rattle.definitions.specs.Reply.Outcome.{read_filed, read_problem, asked, nothing}
use Rattle.definitions.specs.Reply.Outcome.{room_for, written, ThirdInput}
use Rattle.definitions.specs.Reply.Outcome.{build_steps}
use Rattle.definitions.specs.Reply.Allowance.{allowance, allowances_of, allowed_from, allowances}
use Rattle.definitions.specs.Reply.Demand.{are_same_picks}
use Rattle.laws.specs.Results.{accepted_eq}
use Rattle.laws.specs.Asked
use Rattle.demands.specs.OnePick
use Rattle.demands.specs.Demands

-- For every limits of at most 64 elements, with no more atoms and no larger a bound than steps may be handed over, and every question and site
-- that are accepted under them: c is the case read from the two texts, with its labels, and p its numbered problem.
module _ (L : CaseLimits) (few : L.elements ≤ 64) (lendable : L.atoms ≤ step_limit) (handed : L.steps ≤ step_limit) (question site : List ℕ) (c : Case) (labels : List Label) (p : Problem)
    (is_filed : read_filed L question site ≡ accepted (record { case = c; labels = labels })) (is_problem : read_problem L question site ≡ accepted p) where
  -- (the picks that are taken)
  abbrev taken : ThirdInput → Result (List Tuple)
  taken = Demands.taken L few lendable handed question site c labels p is_filed is_problem

  -- ---- 12, document 02, job 14, without an `every` line. Of picks P and Q, of the declared kinds, where Q has the tuples of P and one more: the
  -- numbers of the steps built from them differ by at most the allowance of that tuple's relation.
  pub one_pick : c.question.every ≡ none → (P Q : List Tuple) (more : Tuple) → are_picks c P ≡ true → are_of_kinds c P ≡ true → are_picks c Q ≡ true → are_of_kinds c Q ≡ true → is_among more P ≡ false → are_same_picks Q (more ∷ P) ≡ true
      → (length (built_steps p Q) ≤ length (built_steps p P) + allowance p more.relation) × (length (built_steps p P) ≤ length (built_steps p Q) + allowance p more.relation)
  one_pick e P Q more a k b l new is =
      let (f, g) = OnePick.count_moves_both p (Demands.is_good L few lendable handed question site c labels p is_filed is_problem) (Demands.alone L few lendable handed question site c labels p is_filed is_problem e) c P Q more a b new is in
      let m = (Demands.counts L few lendable handed question site c labels p is_filed is_problem P a k).0 in
      let n = (Demands.counts L few lendable handed question site c labels p is_filed is_problem Q b l).0 in
      (omega (arith, f), omega (arith, g))

  -- So whenever the building call builds steps before and after such a pick is added, or before and after it is dropped, its two
  -- counts differ by at most that.
  pub one_pick_built : c.question.every ≡ none → (before after : ThirdInput) (state₁ steps₁ state₂ steps₂ : List ℕ) (m n : ℕ) (P Q : List Tuple) (more : Tuple)
      → (build_steps L question site before state₁ steps₁).answer ≡ accepted m → (build_steps L question site after state₂ steps₂).answer ≡ accepted n
      → taken before ≡ accepted P → taken after ≡ accepted Q → is_among more P ≡ false → are_same_picks Q (more ∷ P) ≡ true
      → (n ≤ m + allowance p more.relation) × (m ≤ n + allowance p more.relation)
  one_pick_built plain before after state₁ steps₁ state₂ steps₂ m n P Q more em en tP tQ new is =
      let (P', t, a, k, x, i, y) = Demands.whenever_built L few lendable handed question site c labels p is_filed is_problem before state₁ steps₁ m em in
      let (Q', u, b, l, z, j, w) = Demands.whenever_built L few lendable handed question site c labels p is_filed is_problem after state₂ steps₂ n en in
      let e_p : P' ≡ P = accepted_eq P' P (sym t ∙ tP) in
      let e_q : Q' ≡ Q = accepted_eq Q' Q (sym u ∙ tQ) in
      let (f, g) = one_pick plain P Q more (subst (λ (F : List Tuple). are_picks c F ≡ true) e_p a) (subst (λ (F : List Tuple). are_of_kinds c F ≡ true) e_p k)
      (subst (λ (F : List Tuple). are_picks c F ≡ true) e_q b) (subst (λ (F : List Tuple). are_of_kinds c F ≡ true) e_q l) new is in
      let r : m ≡ length (built_steps p P) = i ∙ ap (λ (F : List Tuple). length (built_steps p F)) e_p in
      let s : n ≡ length (built_steps p Q) = j ∙ ap (λ (F : List Tuple). length (built_steps p F)) e_q in
      (omega (arith, f), omega (arith, g))

  -- The call that tells them writes the allowance of every `choose`, in order, at the front of its buffer.
  pub allowances_are : c.question.every ≡ none → (old : List ℕ) → length (chosen_numbers p) ≤ length old → allowances L question site old ≡ record { answer = accepted 0; allowances = written (map (allowance p) (chosen_numbers p)) old }
  unfolding allowances allowed_from allowances_of asked nothing room_for refuse_if ◌>>=◌
  allowances_are plain old h =
      let e : ltb (length old) (length (chosen_numbers p)) ≡ false = le-ltb (length old) (length (chosen_numbers p)) h in
      rw (is_filed, Demands.grounds L few lendable handed question site c labels p is_filed is_problem, Asked.every_passes c plain, e) refl

  -- With an `every` line it is 23, and the buffer stays as it was.
  pub allowances_every : (k : Relation) → c.question.every ≡ some k → (old : List ℕ) → allowances L question site old ≡ record { answer = refused 23 0; allowances = old }
  unfolding allowances allowed_from asked nothing ◌>>=◌
  allowances_every k e old = rw (is_filed, Demands.grounds L few lendable handed question site c labels p is_filed is_problem, Asked.every_fails c k e) refl

-- Whatever is handed over:
module _ (L : CaseLimits) (question site : List ℕ) where
  -- Allowances: every refusal leaves the buffer as it was.
  pub allowances_refuse : (old : List ℕ) (k place : ℕ) → (allowances L question site old).answer ≡ refused k place → (is_in k ready_numbers ≡ true) × ((allowances L question site old).allowances ≡ old)
  allowances_refuse old k place e = OnePick.allowances_refuse L question site old k place e

  pub allowances_length : (old : List ℕ) → length (allowances L question site old).allowances ≡ length old
  allowances_length old = OnePick.allowances_length L question site old
