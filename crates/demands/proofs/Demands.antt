-- Theorems of `Demands`, each as it is counted there, whose grounds an edit of must-fail/ turns: a refused ground leaves unread what stands
-- on it in specs, so these stand here.
--    4  built_exactly
--    6  degree
--    8  site_texts
use Prim.Native.Nat.{ℕ, ◌≤◌}
use Rattle.std.proofs.Math.Path.{◌≡◌, refl, ap}
use Rattle.std.specs.Prelude.{◌↔◌, ◌&&◌}
use Rattle.std.proofs.Math.Bool.{Bool, true, false}
use mathlib.Core.List.{List, Memᴰ}
use Rattle.std.proofs.Math.ListN.{length}
use Rattle.definitions.specs.Limits.{CaseLimits, step_limit, text_limit}
use Rattle.definitions.specs.Refusal.{accepted}
use Rattle.definitions.specs.Sheet.Relations.{Tuple}
use Rattle.definitions.specs.Sheet.Sheets.{Question, Label, Labelled, read_question, read_site}
use Rattle.definitions.specs.Problem.Truth.{Case, are_of_kinds, rule_is_true}
use Rattle.definitions.specs.Problem.Atoms.{Problem}
use Rattle.definitions.specs.Problem.Built.{bound, bound_exponents}
use Rattle.definitions.specs.Reply.Outcome.{read_filed, read_problem}
use Rattle.definitions.specs.Reply.Outcome.{state_length, ThirdInput}
use Rattle.definitions.specs.Reply.Outcome.{StepsBuilt, build_steps}
use Rattle.definitions.specs.Reply.Demand.{is_accepted}
use Rattle.laws.specs.Lines.{LineByLine}
use Rattle.demands.specs.SiteTexts.{SiteLine, site_items, SiteIs}
use Rattle.demands.specs.QuestionTexts
use Rattle.demands.specs.Demands
use Rattle.demands.proofs.Polynomial
use Rattle.demands.proofs.SiteTexts as Proved

module _ (L : CaseLimits) (few : L.elements ≤ 64) (lendable : L.atoms ≤ step_limit) (handed : L.steps ≤ step_limit) (question site : List ℕ) (c : Case) (labels : List Label) (p : Problem)
    (is_filed : read_filed L question site ≡ accepted (record { case = c; labels = labels })) (is_problem : read_problem L question site ≡ accepted p) where
  -- No exponent is above 4.
  pub degree : (exponent : ℕ) → Memᴰ exponent (bound_exponents c.question) → exponent ≤ 4
  degree exponent m = Polynomial.degree c (Demands.A L few lendable handed question site c labels p is_filed is_problem) exponent m

  module _ (given : ThirdInput) (picks : List Tuple) (is_taken : Demands.taken L few lendable handed question site c labels p is_filed is_problem given ≡ accepted picks) (state steps : List ℕ) (room : state_length p ≤ length state) (space : bound p ≤ length steps) where
    -- So steps are built exactly if the picks are of the declared kinds and the rule is true of them.
    pub built_exactly : is_accepted (build_steps L question site given state steps).answer ≡ (are_of_kinds c picks && rule_is_true c picks)
    unfolding is_accepted
    built_exactly = by_test (are_of_kinds c picks) refl (rule_is_true c picks) refl
      where
        by_test : (k : Bool) → are_of_kinds c picks ≡ k → (r : Bool) → rule_is_true c picks ≡ r → is_accepted (build_steps L question site given state steps).answer ≡ (k && r)
        by_test true a true b = ap (λ (x : StepsBuilt). is_accepted x.answer) (Demands.building L few lendable handed question site c labels p is_filed is_problem given picks is_taken state steps room space a b)
        by_test true a false b = ap (λ (x : StepsBuilt). is_accepted x.answer) (Demands.refused_17 L few lendable handed question site c labels p is_filed is_problem given picks is_taken state steps room space a b)
        by_test false a r b = let (i, e, q) = Demands.refused_16 L few lendable handed question site c labels p is_filed is_problem given picks is_taken state steps room space a in ap (λ (x : StepsBuilt). is_accepted x.answer) q

-- and, for limits of at most 64 elements and a question that is read, as a site exactly if line by line it spells its size, its labels, its
-- members and its facts, in this order (`SiteLine`: an element by its number or its label), and no test is broken (`SiteIs`).
pub site_texts : (L : CaseLimits) → L.elements ≤ 64 → (question : List ℕ) (q : Question) → read_question question ≡ accepted q → (text : List ℕ) (s : Labelled)
    → (read_site L q.rels q.types text ≡ accepted s) ↔ (LineByLine (SiteLine q.rels q.types s.labels) (site_items s) text × (length text ≤ text_limit) × SiteIs L q.rels q.types s)
site_texts L few question q e text s = Proved.site_texts L few q.rels q.types (QuestionTexts.declared_of q (QuestionTexts.question_told question q e).2) text s
