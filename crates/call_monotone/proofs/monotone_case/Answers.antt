use mathlib.Core.Path.{refl, sym, ap, ◌∙◌}
use native.Mathlib.Omega.{arith}
use Rattle.definitions.specs.Limits.{usual}
use Rattle.definitions.specs.Problem.Truth.{rule_holds}
use Rattle.definitions.specs.Problem.Atoms.{problem_of}
use Rattle.definitions.specs.Reply.Outcome.{read_case}
use Rattle.definitions.specs.Reply.Finding.{cells}
use Rattle.laws.specs.Reader.{Accepted, gives_if, case_fits}
use Rattle.problem_layout.specs.LaidLaws.{most_zeros}
use Rattle.problem_sizes.specs.Refused.{every_told}
use Rattle.problem_of_case.specs.Grounds.{declared, rule_fine, inputs}
use Rattle.std.proofs.lemmas.Result.{err_from_is_err_and}
use Rattle.eval_table.specs.Everywhere.{plain_true, plain_value, no_every}
use Rattle.open_case.specs.Known.{facts_held}
use Rattle.open_case.specs.Usual.{over_usual, within_usual}
use Rattle.call_monotone.specs.Wants.{else_every, else_kinds, else_tree, profile}
use Rattle.call_monotone.specs.Full.{all_picks}
use Rattle.call_monotone.specs.Answers.{ends_over, ends_else, ends_yes, ends_no, by_kinds, by_tree}
use Rattle.call_monotone.proofs.monotone_case.Goals as goal

pub relations_of-g-requires : goal.relations_of-g-requires
relations_of-g-requires c = declared _ _ _ _ c.requires.holds

pub nodes_of-t-requires : goal.nodes_of-t-requires
nodes_of-t-requires c = rule_fine _ _ _ _ c.requires.holds

pub of_tables-m-requires : goal.of_tables-m-requires
of_tables-m-requires c = let h = c.requires.holds in (h.some_elements, h.few_elements, c.relations_of-g.ensures.0, c.nodes_of-t.ensures.fits, c.ranges_of-ranges.ensures.0)

pub returns-in_err-within : goal.returns-in_err-within
returns-in_err-within c =
    let p = err_from_is_err_and c.from_residual.result c.from_residual.ensures.1 in
    λ site x f.
    let i = inputs _ _ x.0 _ x.2 _ _ c.relations_of-g.ensures.1 c.nodes_of-t.ensures in
    let T = c.of_tables-m.ensures (problem_of x.0) _ _ c.ranges_of-ranges.ensures.1 i in
    rw (p.1, p.2) (ends_over usual _ site _ _ x _ (over_usual x.0 _ T _ c.usual_limits.ensures _ c.in_err-within.ensures))

pub returns-then-m : goal.returns-then-m
returns-then-m c =
    λ site x f.
    let i = inputs _ _ x.0 _ x.2 _ _ c.relations_of-g.ensures.1 c.nodes_of-t.ensures in
    let T = c.of_tables-m.ensures (problem_of x.0) _ _ c.ranges_of-ranges.ensures.1 i in
    rw c.at.ensures (ends_else usual _ site _ _ x (within_usual x.0 _ T _ c.usual_limits.ensures c.in_ok-within.ensures) (else_every _ _ (every_told x.0 _ T) c.if-m.true))

pub overflow_add-first : goal.overflow_add-first
overflow_add-first c = omega (arith, c.requires.holds.sound.rels_le)

pub some_function-requires : goal.some_function-requires
some_function-requires c = (c.relations_of-g.ensures.0, omega (arith, c.requires.holds.sound.rels_le, c.requires.holds.sound.chosen_le))

pub returns-then-some_function : goal.returns-then-some_function
returns-then-some_function c =
    λ site x f.
    let h = x.2 in let i = inputs _ _ x.0 _ h _ _ c.relations_of-g.ensures.1 c.nodes_of-t.ensures in
    let A = gives_if Accepted (read_case usual _ site) x.0 x.1 (case_fits usual (omega arith) _ site) in
    let T = c.of_tables-m.ensures (problem_of x.0) _ _ c.ranges_of-ranges.ensures.1 i in
    rw c.at-then-some_function.ensures (ends_else usual _ site _ _ x (within_usual x.0 _ T _ c.usual_limits.ensures c.in_ok-within.ensures)
    (else_kinds _ _ (every_told x.0 _ T) _ (by_kinds _ x.0 A _ _ h _ _ _ _ _ i _ c.some_function.ensures) c.if-some_function.true))

pub returns-then-tree_refuses : goal.returns-then-tree_refuses
returns-then-tree_refuses c =
    λ site x f.
    let h = x.2 in let i = inputs _ _ x.0 _ h _ _ c.relations_of-g.ensures.1 c.nodes_of-t.ensures in
    let A = gives_if Accepted (read_case usual _ site) x.0 x.1 (case_fits usual (omega arith) _ site) in
    let T = c.of_tables-m.ensures (problem_of x.0) _ _ c.ranges_of-ranges.ensures.1 i in
    rw c.at-then-tree_refuses.ensures (ends_else usual _ site _ _ x (within_usual x.0 _ T _ c.usual_limits.ensures c.in_ok-within.ensures)
    (else_tree _ _ (every_told x.0 _ T) _ (by_kinds _ x.0 A _ _ h _ _ _ _ _ i _ c.some_function.ensures) _ (by_tree _ x.0 A _ _ h _ _ _ _ _ i _ c.tree_refuses.ensures) c.if-tree_refuses.true))

pub slice_bounds-fill-end-2 : goal.slice_bounds-fill-end-2
slice_bounds-fill-end-2 c = sym c.requires.holds.members_are.room

pub fill-requires : goal.fill-requires
fill-requires c =
    let h = c.requires.holds in (
      refl,
      most_zeros 1479 0,
      h.some_elements,
      h.few_elements,
      c.relations_of-g.ensures.0,
      c.nodes_of-t.ensures.fits,
      h.sound.types_le,
      omega (arith, h.sound.types_le, h.members_are.room),
      c.ranges_of-ranges.ensures.0,
      omega arith,
    )

pub rule_is_true-requires : goal.rule_is_true-requires
rule_is_true-requires c =
    let s = c.requires in let h = s.holds in let t = c.nodes_of-t.ensures in record {
      case = s.case;
      accepted = s.accepted_case;
      value = 0;
      lines = record {
        relations = _;
        nodes = _;
        some = h.some_elements;
        size = h.few_elements;
        members = _;
        types = _;
        ranges = _;
        counted = c.ranges_of-ranges.ensures.1;
        inputs = inputs _ _ s.case _ h _ _ c.relations_of-g.ensures.1 t;
        fits = t.fits;
        lined = c.fill.ensures;
      };
    }

pub returns-then-rule_is_true : goal.returns-then-rule_is_true
returns-then-rule_is_true c =
    λ site x f.
    let h = x.2 in let i = inputs _ _ x.0 _ h _ _ c.relations_of-g.ensures.1 c.nodes_of-t.ensures in
    let A = gives_if Accepted (read_case usual _ site) x.0 x.1 (case_fits usual (omega arith) _ site) in
    let T = c.of_tables-m.ensures (problem_of x.0) _ _ c.ranges_of-ranges.ensures.1 i in
    let told = every_told x.0 _ T in let plain = no_every x.0 _ told c.if-m.false in
    let r = c.rule_is_true.ensures x.0 0 (cells (problem_of x.0)) A (all_picks x.0 A) (record {
      relations = _;
      nodes = _;
      some = h.some_elements;
      size = h.few_elements;
      members = _;
      types = _;
      ranges = _;
      counted = c.ranges_of-ranges.ensures.1;
      inputs = i;
      fits = c.nodes_of-t.ensures.fits;
      lined = c.fill.ensures;
    }) (facts_held _ x.0 _ _ h) (f x.0 A h)
    ∙ ap (rule_holds x.0) (plain_value x.0 A plain (cells (problem_of x.0))) ∙ sym (plain_true x.0 A plain (cells (problem_of x.0))) in
    ends_yes usual _ site _ _ x (within_usual x.0 _ T _ c.usual_limits.ensures c.in_ok-within.ensures)
    (profile _ _ told _ (by_kinds _ x.0 A _ _ h _ _ _ _ _ i _ c.some_function.ensures) _ (by_tree _ x.0 A _ _ h _ _ _ _ _ i _ c.tree_refuses.ensures) c.if-m.false c.if-some_function.false c.if-tree_refuses.false) _ r c.if-rule_is_true.true

pub returns : goal.returns
returns c =
    λ site x f.
    let h = x.2 in let i = inputs _ _ x.0 _ h _ _ c.relations_of-g.ensures.1 c.nodes_of-t.ensures in
    let A = gives_if Accepted (read_case usual _ site) x.0 x.1 (case_fits usual (omega arith) _ site) in
    let T = c.of_tables-m.ensures (problem_of x.0) _ _ c.ranges_of-ranges.ensures.1 i in
    let told = every_told x.0 _ T in let plain = no_every x.0 _ told c.if-m.false in
    let r = c.rule_is_true.ensures x.0 0 (cells (problem_of x.0)) A (all_picks x.0 A) (record {
      relations = _;
      nodes = _;
      some = h.some_elements;
      size = h.few_elements;
      members = _;
      types = _;
      ranges = _;
      counted = c.ranges_of-ranges.ensures.1;
      inputs = i;
      fits = c.nodes_of-t.ensures.fits;
      lined = c.fill.ensures;
    }) (facts_held _ x.0 _ _ h) (f x.0 A h)
    ∙ ap (rule_holds x.0) (plain_value x.0 A plain (cells (problem_of x.0))) ∙ sym (plain_true x.0 A plain (cells (problem_of x.0))) in
    rw c.at-2.ensures (ends_no usual _ site _ _ x (within_usual x.0 _ T _ c.usual_limits.ensures c.in_ok-within.ensures)
    (profile _ _ told _ (by_kinds _ x.0 A _ _ h _ _ _ _ _ i _ c.some_function.ensures) _ (by_tree _ x.0 A _ _ h _ _ _ _ _ i _ c.tree_refuses.ensures) c.if-m.false c.if-some_function.false c.if-tree_refuses.false) _ r c.if-rule_is_true.false)
