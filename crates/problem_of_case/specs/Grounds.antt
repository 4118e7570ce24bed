-- A case that was read, and the table of its numbered problem.
use Prim.Native.Nat.{ℕ, zero, suc, ◌+◌, ◌*◌, ◌≤◌, ◌<◌}
use Rattle.std.specs.Prelude.{◌≡◌, Bool, true, false, T, ltb, get_or, Ok, Err}
use Rattle.std.specs.Prelude as P
use Rattle.std.proofs.Math.Path.{refl, sym, ap, ap₂, subst}
use Rattle.std.proofs.Common.{◌∙◌, le-ltb, arith}
use Rattle.std.proofs.Math.Option.{Option, none, some}
use mathlib.Core.List.{List, []}
use Rattle.std.proofs.Math.ListN.{length}
use Rattle.definitions.specs.Limits.{CaseLimits, form_limit, nesting_limit}
use Rattle.definitions.specs.Lists.{option, is_some, listed, filter, below}
use Rattle.definitions.specs.Sheet.Formula.{Formula, all_forms, nesting, is_known, is_scoped, is_typed}
use Rattle.definitions.specs.Refusal.{Result, refused, accepted}
use Rattle.definitions.specs.Sheet.Relations.{Relation}
use Rattle.definitions.specs.Sheet.Sheets.{read_question, relations, relations_of, every_number, is_member}
use Rattle.laws.specs.Booleans.{T_true}
use Rattle.laws.specs.Reader.{gives_if, QuestionFits, RuleFits, question_fits, Accepted as CaseFits, accepted_range}
use Rattle.meaning.specs.Grounded.{relation_sorts, count_relations, good}
use Rattle.meaning.specs.Means.{Good}
use Rattle.laws.specs.Lists.{below_lt, filter_same}
use Rattle.laws.specs.Members.{members_are}
use Rattle.laws.specs.Sorts.{Sorted, tree_sorted}
use Rattle.bits.specs.Table.{bit}
use Rattle.refusal.specs.declared.Refusal.{Refusal}
use Rattle.refusal.specs.Numbers.{number_of, some_number}
use Rattle.read_rule.specs.Seen.{rule_number}
use Rattle.rule_rewrite.specs.Rule.{Accepted, IsQuestion, TableOf}
use Rattle.definitions.specs.Problem.Truth.{Case, members_of}
use Rattle.definitions.specs.Problem.Tree.{tree_of}
use Rattle.definitions.specs.Problem.Atoms.{Problem, problem_of, problem_with, relation_at, atoms}
use Rattle.definitions.specs.Problem.Actions.{actions}
use Rattle.definitions.specs.Problem.Built.{bound}
use Rattle.definitions.specs.Reply.Outcome.{ground}
use Rattle.read_names.specs.Signatures.{types_of, chosen_of, all_of}
use Rattle.read_names.proofs.Laws.{length_names}
use Rattle.rule_nodes.specs.Tables.{IsTable}
use Rattle.rule_nodes.specs.declared.Nodes.{Nodes}
use Rattle.problem_table.specs.Lines.{Fits, nodes_in, node_line, every_in}
use Rattle.problem_table.specs.Of.{Is, EveryLast, kind_number}
use Rattle.problem_layout.specs.declared.Relations.{Relations}
use Rattle.problem_layout.specs.Laid.{range_by, Inputs}
use Rattle.problem_sizes.specs.declared.Tally.{Tally}
use Rattle.problem_sizes.specs.declared.Limits.{Limits}
use Rattle.problem_sizes.specs.Sums.{Tallied, refusal_in}
use Rattle.problem_sizes.specs.Refused.{counts_within, atoms_told, actions_told, bound_within, grounded_by, refused_by}
use Rattle.problem_of_case.specs.Numbered.{Numbered, Declared, no_relation}
use Rattle.read_sheets.specs.declared.Opened.{Opened}
use Rattle.read_sheets.specs.Opening.{Holds}
use Rattle.problem_of_case.specs.declared.Sized.{Sized}

-- some case was read from the question's text
pub record Read (s : List ℕ) (o : Opened) : Type 0 where
  pub case : Case
  pub facts : ℕ → Bool
  pub holds : Holds s case o facts

-- the table w is that of the problem p, whose counts are these
pub record Tabled (p : Problem) (r : Sized) (w : List ℕ) : Type 0 where
  pub atoms_are : r.atoms ≡ atoms p
  pub actions_are : r.actions ≡ actions p
  pub bound_is : r.bound ≡ bound p
  pub fits : Fits w
  pub is : Is p w
  pub ends : (node_line w (nodes_in w)).atoms + 3 * every_in w ≡ atoms p

-- what grounding a case tells: a refusal, or the table of its problem
abbrev pub GroundsTo : Result Problem → P.Result Sized Refusal → List ℕ → Type 0
GroundsTo x (Ok r) w = (p : Problem) × (x ≡ accepted p) × Tabled p r w
GroundsTo x (Err e) w = x ≡ refused (number_of e.cause) e.place

-- whether the counts are within the limits: else 11 or 23, place 0
abbrev pub Within : Tally → Limits → P.Result (Unit {0}) Refusal → Type 0
Within t l (Ok u) = refusal_in t l ≡ 0
Within t l (Err e) = (refusal_in t l ≡ number_of e.cause) × (e.place ≡ 0)

-- ---- laws
some_listed : (x : Option Relation) → T (is_some x) → length (listed x) ≡ 1
unfolding is_some listed
some_listed none t = absurd t
some_listed (some e) t = refl

module _ (s : List ℕ) (o : Opened) (c : Case) (facts : ℕ → Bool) (h : Holds s c o facts) where
  all_are : relations c.question.rels c.question.chosen c.question.every ≡ all_of s o.sig
  unfolding all_of
  all_are = rw (h.rels, h.chosen, h.every)

  relations_are : relations_of c.question ≡ all_of s o.sig
  unfolding relations_of
  relations_are = all_are

  pub declared : Declared o.sig
  declared = record { rels = h.sound.rels_le; chosen = h.sound.chosen_le; every = h.sound.every_le; arity = λ i l. small i (h.sound.arities i l).1; sorts = sorts }
    where
      small : (i : ℕ) → get_or o.sig.arity i 0 ≤ 3 → get_or o.sig.arity i 0 ≤ 4
      small i a = omega arith

      sorts : (i : ℕ) → i < o.sig.rels + o.sig.chosen + o.sig.every → (get_or o.sig.firsts i 0 ≤ 8) × (get_or o.sig.seconds i 0 ≤ 8)
      sorts i l = let a = h.sound.sorts i l in let b = h.sound.types_le in (omega (arith, a.0), omega (arith, a.1))

  -- the case was accepted
  accepted_case : CaseFits c
  accepted_case = record { question_fits = gives_if QuestionFits (read_question s) c.question h.asked (question_fits s); site_fits = h.site_fits }

  -- the rule was not refused
  pub rule_fine : Accepted s o.rule.from o.rule.to o.sig
  unfolding rule_number option
  rule_fine = record {
    low = h.rule_from;
    high = h.rule_to;
    sound = h.sound;
    fine = rw (h.formula, few, shallow, known, scoped, typed) refl;
  }
    where
      f : Formula
      f = c.question.rule.formula

      fits : RuleFits c.question.rels c.question.types c.question.chosen c.question.every c.question.rule
      fits = accepted_case.question_fits.rule_fits

      few : ltb form_limit (all_forms (chosen_of s o.sig) f) ≡ false
      few = le-ltb form_limit (all_forms (chosen_of s o.sig) f) (subst (λ (ks : List Relation). all_forms ks f ≤ form_limit) h.chosen fits.few_forms)

      shallow : ltb nesting_limit (nesting f) ≡ false
      shallow = le-ltb nesting_limit (nesting f) fits.nested

      known : is_known (all_of s o.sig) f ≡ true
      known = ap (λ (ks : List Relation). is_known ks f) (sym all_are) ∙ T_true (is_known (relations c.question.rels c.question.chosen c.question.every) f) fits.known

      scoped : is_scoped [] f ≡ true
      scoped = T_true (is_scoped [] f) fits.scoped

      typed : is_typed (types_of s o.sig) f ≡ true
      typed = ap (λ (ts : List (List ℕ)). is_typed ts f) (sym h.types) ∙ T_true (is_typed c.question.types f) fits.typed

  types_count : length c.question.types ≡ o.sig.types
  unfolding types_of
  types_count = ap length h.types ∙ length_names s o.sig.from o.sig.to 13 o.sig.types

  -- the ranges of the sorts, by the words of members
  ranges_are : (σ : ℕ) → σ ≤ o.sig.types → members_of c σ ≡ range_by o.n o.members σ
  unfolding members_of range_by
  ranges_are zero l = ap below (sym h.size)
  ranges_are (suc k) l =
      members_are c k (omega (arith, types_count))
      ∙ ap (λ (n : ℕ). filter (is_member c.site.members k) (below n)) (sym h.size)
      ∙ filter_same (is_member c.site.members k) (λ x. bit o.members (64 * k + x)) (below o.n) (λ x m. sym (h.members_are.says k x (omega (arith, below_lt o.n x m, h.few_elements))))

  pub is_question : IsQuestion s o.rule.from o.rule.to o.sig c.question
  is_question = record { rels = h.rels; types = h.types; chosen = h.chosen; every = h.every; rule = h.formula }

  -- the relation of an `every` line is the last
  every_last : EveryLast (problem_of c)
  unfolding every_number problem_of problem_with
  every_last = record {
    sized = G.sized;
    last = λ t. omega (arith, count_relations c accepted_case, one c.question.every t);
    line = λ e q. let f = G.every_is e q in (f.1, f.2);
    alone = G.every_one;
  }
    where
      G : Good (problem_of c)
      G = good c accepted_case

      one : (x : Option Relation) → T (is_some x) → length (listed x) ≡ 1
      one x t = some_listed x t

  module _ (g : Relations) (t : Nodes) (m : Numbered o.sig g) (table : TableOf s o.rule.from o.rule.to o.sig t) where
    pub inputs : Inputs (problem_of c) o.n o.members o.sig.types g t
    unfolding problem_of problem_with relation_at
    inputs = record {
      size = h.size;
      list = refl;
      ranges = ranges_are;
      ranged = accepted_range c accepted_case;
      sorted = subst (λ (k : ℕ). Sorted k (tree_of c.question)) types_count (tree_sorted c.question accepted_case.question_fits.chosen_sorted);
      count = m.count s ∙ ap length (sym relations_are);
      arity = λ r l. m.arity s r l ∙ ap (λ (ks : List Relation). (get_or ks r no_relation).arity) (sym relations_are);
      kind = λ r l. m.kind s r l ∙ ap (λ (ks : List Relation). kind_number (get_or ks r no_relation).kind) (sym relations_are);
      pairs = λ r l. (good c accepted_case).pairs r (omega (arith, m.count s, ap length relations_are));
      firsts = λ r l. m.firsts s r l ∙ ap (λ (ks : List Relation). (get_or ks r no_relation).firsts) (sym relations_are);
      seconds = λ r l. m.seconds s r l ∙ ap (λ (ks : List Relation). (get_or ks r no_relation).seconds) (sym relations_are);
      placed = λ r l. let f = relation_sorts c accepted_case r in (omega (arith, f.firsts_few, types_count), omega (arith, f.seconds_few, types_count));
      tree = subst (λ (k : ℕ). IsTable k (tree_of c.question) t) (ap length relations_are ∙ sym (m.count s)) (table.is c.question is_question);
      every = every_last;
    }

-- ---- by the walk's counts
module _ (L : CaseLimits) (l : Limits) (c : Case) (t : Tally) (i : L.atoms ≡ l.atoms) (j : L.actions ≡ l.actions) (k : L.steps ≡ l.steps) (h : Tallied (problem_of c) t) where
  pub grounds_over : (e : Refusal) → Within t l (Err e) → ground L c ≡ refused (number_of e.cause) e.place
  grounds_over e (n, z) = refused_by c t h L l i j k (λ y. omega (arith, some_number e.cause, n)) ∙ ap₂ refused n (sym z)

  pub grounds_within : refusal_in t l ≡ 0 → (w : List ℕ) → Fits w → Is (problem_of c) w → (node_line w (nodes_in w)).atoms + 3 * every_in w ≡ atoms (problem_of c)
      → GroundsTo (ground L c) (Ok (record { atoms = t.atoms; actions = t.actions; bound = t.bound })) w
  grounds_within e w f is ends = (
    problem_of c,
    grounded_by c t h L l i j k e,
    record { atoms_are = atoms_told c t h; actions_are = actions_told c t h; bound_is = bound_within c t h l e; fits = f; is = is; ends = ends },
  )

-- ... and then they are within the limits
pub counts_few : (l : Limits) (c : Case) (t : Tally) → Tallied (problem_of c) t → refusal_in t l ≡ 0 → (atoms (problem_of c) ≤ l.atoms) × (actions (problem_of c) ≤ l.actions)
counts_few l c t h e = let (a, b) = counts_within t l e in (omega (arith, a, atoms_told c t h), omega (arith, b, actions_told c t h))
