-- What the call answers, by the definitions: one law for each place where it ends.
use Rattle.std.specs.Prelude.{ℕ, zero, ◌+◌, ◌≤◌, ◌≡◌, Bool, List}
use Rattle.std.proofs.Math.Path.{refl, sym, ap}
use Rattle.std.proofs.Common.{◌∙◌, arith}
use Rattle.std.proofs.Math.Bool.{true, false, not}
use Rattle.std.proofs.Math.ListN.{length}
use Rattle.definitions.specs.Limits.{CaseLimits}
use Rattle.definitions.specs.Lists.{all, any, below}
use Rattle.definitions.specs.Sheet.Relations.{Relation, is_function}
use Rattle.definitions.specs.Sheet.Sheets.{first_chosen}
use Rattle.definitions.specs.Problem.Tree.{Tree, tree_of}
use Rattle.definitions.specs.Refusal.{refused, accepted, ◌>>=◌, refuse_if}
use Rattle.definitions.specs.Problem.Truth.{Case, rule_is_true}
use Rattle.definitions.specs.Problem.Atoms.{Problem, problem_of, problem_with}
use Rattle.definitions.specs.Reply.Outcome.{read_case, ground, asked, nothing}
use Rattle.definitions.specs.Reply.Finding.{cells}
use Rattle.definitions.specs.Reply.Monotone.{wants_more, only_wants_more, monotone}
use Rattle.laws.specs.Asked
use Rattle.laws.specs.Alone
use Rattle.laws.specs.Reader.{Accepted, gives_if, case_fits}
use Rattle.meaning.specs.Grounded.{first_chosen_lem, count_relations}
use Rattle.read_names.specs.Signatures.{chosen_of, rels_of}
use Rattle.read_names.proofs.Laws.{length_relations}
use Rattle.rule_nodes.specs.Tables.{IsTable}
use Rattle.rule_nodes.specs.declared.Nodes.{Nodes}
use Rattle.problem_layout.specs.declared.Relations.{Relations}
use Rattle.problem_layout.specs.Laid.{Inputs}
use Rattle.call_monotone.specs.Wants.{kind_at, kinds_are}
use Rattle.read_sheets.specs.declared.Opened.{Opened}
use Rattle.read_sheets.specs.Opening.{Holds}
use Rattle.refusal.specs.declared.Refusal.{Refusal}
use Rattle.refusal.specs.declared.Cause.TheVariants.{NoPicks, NotMonotone}
use Rattle.refusal.specs.Numbers.{number_of}
use Rattle.std.specs.Prelude.{Ok, Err}
use Rattle.open_case.specs.Replies.{Reply, result_of}

-- an accepted case was read
pub record AcceptedIn (s : List ℕ) (o : Opened) (facts : ℕ → Bool) : Type 0 where
  pub case : Case
  pub accepted_case : Accepted case
  pub holds : Holds s case o facts

module _ (L : CaseLimits) (question site : List ℕ) where
  refused_with : (e : Refusal) → asked L question site nothing nothing nothing nothing ≡ refused (number_of e.cause) e.place → result_of (Err e) ≡ monotone L question site
  unfolding monotone ◌>>=◌
  refused_with e h = rw h refl

  pub ends_case : (e : Refusal) → read_case L question site ≡ refused (number_of e.cause) e.place → result_of (Err e) ≡ monotone L question site
  ends_case e h = refused_with e (Asked.case_refused L question site nothing nothing nothing nothing _ _ h)

  module _ (o : Opened) (facts : ℕ → Bool) (its : (c : Case) × (read_case L question site ≡ accepted c) × Holds question c o facts) where
    abbrev p : Problem
    p = problem_of its.0

    pub accepted_in : L.elements ≤ 64 → AcceptedIn question o facts
    accepted_in few = record { case = its.0; accepted_case = gives_if Accepted (read_case L question site) its.0 its.1 (case_fits L few question site); holds = its.2 }

    pub ends_over : (e : Refusal) → ground L its.0 ≡ refused (number_of e.cause) e.place → result_of (Err e) ≡ monotone L question site
    ends_over e g = refused_with e (Alone.limits_refused L question site nothing nothing nothing nothing its.0 its.1 tt (λ _. Asked.untested _) (Asked.untested its.0) (number_of e.cause) e.place g)

    module _ (grounded : ground L its.0 ≡ accepted p) where
      then_is : monotone L question site ≡ (refuse_if (not (only_wants_more its.0.question)) 24 zero >>= λ _. refuse_if (not (rule_is_true its.0 (cells p))) 21 zero >>= λ _. accepted zero)
      unfolding monotone ◌>>=◌
      then_is =
          let g = Alone.ready L question site nothing nothing nothing nothing its.0 its.1 tt (λ _. Asked.untested _) (Asked.untested its.0) p grounded (Asked.untested its.0) (Asked.untested p) in
          rw g refl

      pub ends_else : only_wants_more its.0.question ≡ false → result_of (Err (record { cause = NotMonotone; place = 0 })) ≡ monotone L question site
      unfolding refuse_if ◌>>=◌
      ends_else e = sym (then_is ∙ rw e refl)

      module _ (e : only_wants_more its.0.question ≡ true) (b : Bool) (is : b ≡ rule_is_true its.0 (cells p)) where
        pub ends_yes : b ≡ true → result_of (Ok 0) ≡ monotone L question site
        unfolding refuse_if ◌>>=◌
        ends_yes t = let q : rule_is_true its.0 (cells p) ≡ true = sym is ∙ t in sym (then_is ∙ rw (e, q) refl)

        pub ends_no : b ≡ false → result_of (Err (record { cause = NoPicks; place = 0 })) ≡ monotone L question site
        unfolding refuse_if ◌>>=◌
        ends_no t = let q : rule_is_true its.0 (cells p) ≡ false = sym is ∙ t in sym (then_is ∙ rw (e, q) refl)

-- ---- the profile of a case that was read
module _ (s : List ℕ) (c : Case) (A : Accepted c) (o : Opened) (facts : ℕ → Bool) (h : Holds s c o facts) where
  first_is : 5 + o.sig.rels ≡ first_chosen c.question
  unfolding rels_of
  first_is = sym (first_chosen_lem c.question ∙ ap (λ (x : ℕ). 5 + x) (ap length h.rels ∙ length_relations s o.sig 0 o.sig.rels))

  many : o.sig.chosen ≡ length c.question.chosen
  unfolding chosen_of
  many = sym (ap length h.chosen ∙ length_relations s o.sig o.sig.rels o.sig.chosen)

  module _ (n : ℕ) (w : List ℕ) (k : ℕ) (g : Relations) (t : Nodes) (i : Inputs (problem_of c) n w k g t) where
    pub by_kinds : (b : Bool) → b ≡ any (kind_at g.kind (5 + o.sig.rels)) (below o.sig.chosen) → b ≡ not (all (λ (r : Relation). not (is_function r.kind)) c.question.chosen)
    by_kinds b e = e ∙ kinds_are c A g.kind (5 + o.sig.rels) o.sig.chosen first_is many (λ j l. i.kind (5 + o.sig.rels + j) (let a = i.count in let q = count_relations c A in let f = first_is in let m = many in omega arith))

    pub by_tree : (b : Bool) → ((rels : ℕ) (root : Tree) → IsTable rels root t → b ≡ not (wants_more (5 + o.sig.rels) root)) → b ≡ not (wants_more (first_chosen c.question) (tree_of c.question))
    unfolding problem_of problem_with
    by_tree b f = f g.count (tree_of c.question) i.tree ∙ ap (λ (x : ℕ). not (wants_more x (tree_of c.question))) first_is
