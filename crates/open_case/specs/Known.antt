-- What is known once a case was read and its problem grounded: the refusal or the case, the facts, the table and the counts.
-- Assumes nothing.
use Prim.Native.Nat.{ℕ, zero, suc, ◌+◌, ◌/◌, ◌^◌, ◌≤◌, ◌<◌}
use Rattle.std.specs.Prelude.{◌≡◌, Bool, ◌&&◌, ◌||◌, T, length, Ok, Err}
use Rattle.std.specs.Prelude as P
use Rattle.std.proofs.Math.Path.{refl, sym, ap}
use Rattle.std.proofs.Common.{subst, ◌∙◌}
use Rattle.std.proofs.Math.Bool.{false}
use Rattle.std.proofs.Math.Option.{Option, none, some}
use mathlib.Core.List.Memᴰ
use mathlib.Core.List.{List, Memᴰ}
use native.Mathlib.Omega.{arith}
use Rattle.std.proofs.Math.Dec.{ltb}
use borrow.Author.Tests.{lt-ltb, le-ltb, ltb-false}
use Rattle.definitions.specs.Limits.{CaseLimits}
use Rattle.definitions.specs.Lists.{option, is_some, listed}
use Rattle.definitions.specs.Refusal.{refused, accepted, refuse_if}
use Rattle.definitions.specs.Sheet.Relations.{Kind, Relation, is_universal}
use Rattle.definitions.specs.Sheet.Sheets.{read_question}
use Rattle.definitions.specs.Problem.Truth.{Case, every_tuples}
use Rattle.definitions.specs.Problem.Atoms.{Problem, problem_of, problem_with, atoms, words_for}
use Rattle.definitions.specs.Problem.Actions.{actions}
use Rattle.definitions.specs.Problem.Built.{bound}
use Rattle.definitions.specs.Reply.Outcome
use Rattle.bits.specs.Table.{bit}
use Rattle.laws.specs.Booleans.{or_both}
use Rattle.laws.specs.Results.{bind_parts, not_refused}
use Rattle.laws.specs.Reader.{Holds as Fits, gives_if, QuestionFits, EveryFits, question_fits}
use Rattle.meaning.specs.Building.{ground_is}
use Rattle.step_start.specs.Rows.{atoms_in}
use Rattle.step_start.specs.Initial.{FactsIn}
use Rattle.step_start.specs.Marked.{facts_in}
use Rattle.problem_action.specs.Decoded.{Grounded}
use Rattle.read_sheets.specs.declared.Opened.{Opened}
use Rattle.read_sheets.specs.Opening.{Holds}
use Rattle.read_names.specs.Signatures.{relation_in, last_of, every_of}
use Rattle.refusal.specs.declared.Refusal.{Refusal}
use Rattle.refusal.specs.Numbers.{number_of}
use Rattle.problem_of_case.specs.declared.Sized.{Sized}
use Rattle.problem_of_case.specs.Grounds.{GroundsTo, Tabled}
use Rattle.step_run.specs.declared.End.{End}
use Rattle.step_run.specs.Checks.{Ran, Runs}

every_universal : (o : Option Relation) → Fits EveryFits o → (k : Relation) → Memᴰ k (listed o) → T (is_universal k.kind)
unfolding Fits listed is_universal
every_universal none h k m = absurd (Memᴰ.not-nil m)
every_universal (some e) h k m = subst (λ (x : Relation). T (is_universal x.kind)) (sym (Memᴰ.eq_of_singleton m)) (subst (λ (x : Kind). T (is_universal x)) (sym h.is_universal_lem) tt)

-- the facts' words are those of the case's problem
pub facts_held : (s : List ℕ) (c : Case) (o : Opened) (f : List ℕ) → Holds s c o (bit f) → FactsIn (problem_of c) f
facts_held s c o f h =
    let q = gives_if QuestionFits (read_question s) c.question h.asked (question_fits s) in
    facts_in c s o.sig f h.rels (λ k m. (q.rels_fit k m).is_static_lem) (λ k m. (q.chosen_fit k m).chosen) (every_universal c.question.every q.every_fits) (subst (λ (n : ℕ). 0 < n) h.size h.some_elements) h.facts_valid h.facts_are

-- whether there is an `every` line, by the signature
module _ (s : List ℕ) (c : Case) (o : Opened) (facts : ℕ → Bool) (h : Holds s c o facts) where
  pub every_none : o.sig.every ≡ 0 → c.question.every ≡ none
  unfolding every_of last_of
  every_none e = h.every ∙ ap (last_of s o.sig) e

  pub every_some : (o.sig.every ≡ 0 → ⊥) → (k : Relation) × (c.question.every ≡ some k)
  unfolding every_of last_of
  every_some n = by_count o.sig.every refl
    where
      by_count : (k : ℕ) → o.sig.every ≡ k → (k : Relation) × (c.question.every ≡ some k)
      by_count zero e = absurd (n e)
      by_count (suc k) e = (relation_in s o.sig (o.sig.rels + o.sig.chosen), h.every ∙ ap (last_of s o.sig) e)

-- ---- the problem

module _ (L : CaseLimits) (c : Case) (m : P.Result Sized Refusal) (w : List ℕ) (g : GroundsTo (Outcome.ground L c) m w) where
  pub case_over : (e : Refusal) → m ≡ Err e → Outcome.ground L c ≡ refused (number_of e.cause) e.place
  case_over e o = subst (λ (x : P.Result Sized Refusal). GroundsTo (Outcome.ground L c) x w) o g

  module _ (s : Sized) (o : m ≡ Ok s) where
    within : (p : Problem) × (Outcome.ground L c ≡ accepted p) × Tabled p s w
    within = subst (λ (x : P.Result Sized Refusal). GroundsTo (Outcome.ground L c) x w) o g

    -- it is the case's, and the table is its
    pub grounds : Outcome.ground L c ≡ accepted (problem_of c)
    grounds = let (p, e, h) = within in e ∙ ap accepted (ground_is L c p e)

    pub tabled : Tabled (problem_of c) s w
    tabled = let (p, e, h) = within in subst (λ (x : Problem). Tabled x s w) (ground_is L c p e) h

    pub table_is : Grounded w
    table_is = record { problem = problem_of c; is = tabled.is; fits = tabled.fits }

    -- there are few enough atoms and actions, and few tuples of an `every` relation
    limits : (ltb L.atoms (atoms (problem_of c)) ≡ false) × (ltb L.actions (actions (problem_of c)) ≡ false) × (Outcome.too_many_values L (problem_of c) ≡ false)
    unfolding Outcome.ground
    limits =
        let (u, a, e) = bind_parts (refuse_if (ltb L.atoms (atoms (problem_of c)) || ltb L.actions (actions (problem_of c))) 11 zero) _ (problem_of c) grounds in
        let (v, b, f) = bind_parts (refuse_if (Outcome.too_many_values L (problem_of c)) 23 zero) _ (problem_of c) e in
        let (x, y) = or_both (ltb L.atoms (atoms (problem_of c))) _ (not_refused _ 11 zero u a) in
        (x, y, not_refused _ 23 zero v b)

    pub tuples_few : every_tuples c ≤ 8
    unfolding Outcome.too_many_values every_tuples option is_some problem_of problem_with
    tuples_few = by_option c.question.every limits.2
      where
        by_option : (x : Option Relation) → (is_some x && (ltb 8 (option x zero (λ (k : Relation). c.site.size ^ k.arity)) || ltb L.steps (bound (problem_of c)))) ≡ false
            → option x zero (λ (k : Relation). c.site.size ^ k.arity) ≤ 8
        by_option none q = omega arith
        by_option (some k) q = let n = c.site.size ^ k.arity in ltb-false 8 n (or_both (ltb 8 n) (ltb L.steps (bound (problem_of c))) q).0

    pub atoms_few : s.atoms ≤ L.atoms
    atoms_few = subst (λ (k : ℕ). k ≤ L.atoms) (sym tabled.atoms_are) (ltb-false L.atoms (atoms (problem_of c)) limits.0)

    pub actions_few : actions (problem_of c) ≤ L.actions
    actions_few = ltb-false L.actions (actions (problem_of c)) limits.1

    -- the words of its state
    pub words_are : (s.atoms + 63) / 64 ≡ Outcome.state_length (problem_of c)
    unfolding Outcome.state_length words_for
    words_are = ap (λ (k : ℕ). (k + 63) / 64) tabled.atoms_are

    pub words_fit : (k : ℕ) → (s.atoms + 63) / 64 ≡ k → words_for (atoms_in w) ≤ k
    unfolding words_for
    words_fit k e = let q : (atoms_in w + 63) / 64 ≡ k = ap (λ (x : ℕ). (x + 63) / 64) (tabled.ends ∙ sym tabled.atoms_are) ∙ e in omega arith

    -- what running steps in so many words gives
    pub ran_of : (text : List ℕ) (opened : Opened) (f steps part new : List ℕ) (e : End) → Holds text c opened (bit f) → (s.atoms + 63) / 64 ≡ length part → Runs w f steps part e new → Ran (problem_of c) steps e new
    unfolding Runs
    ran_of text opened f steps part new e held l runs = runs (problem_of c) tabled.is tabled.ends (facts_held text c opened f held) (sym l ∙ words_are)

-- ---- rooms

pub room_short : (needed room : ℕ) → room < needed → Outcome.room_for needed room ≡ refused 12 needed
unfolding Outcome.room_for refuse_if
room_short needed room h = rw (lt-ltb room needed h)

pub room_there : (needed room : ℕ) → needed ≤ room → Outcome.room_for needed room ≡ accepted tt
unfolding Outcome.room_for refuse_if
room_there needed room h = rw (le-ltb room needed h)
