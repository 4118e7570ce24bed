-- `call_judge::judge_case` meets its contract: each return is a law of `Judges`: 11 or 23, 12, 10, or what is decided. Assumes nothing.
use mathlib.Core.Path.{sym, ◌∙◌}
use native.Mathlib.Omega.{arith}
use Rattle.definitions.specs.Limits.{usual}
use Rattle.definitions.specs.Problem.Atoms.{problem_of}
use Rattle.problem_layout.specs.Laid.{number_limit}
use Rattle.problem_layout.specs.LaidLaws.{most_zeros}
use Rattle.problem_table.specs.Lines.{table_length}
use Rattle.problem_sizes.specs.Refused.{tuples_told}
use Rattle.problem_of_case.specs.Grounds.{declared, rule_fine, inputs}
use Rattle.problem_relations.specs.Bare.{bare, some_relations, length_same, spare_same}
use Rattle.open_case.specs.Usual.{over_usual, within_usual, few_usual, counts_usual}
use Rattle.call_judge.specs.Judges.{values_are, ends_over, ends_short, ends_spare, ends_judged, asks_of}
use Rattle.std.proofs.lemmas.Result.{err_from_is_err_and}
use borrow.Author.Rules.{rules}
use Rattle.call_judge.proofs.judge_case.Goals as goal

pub ranges_of-ranges-requires : goal.ranges_of-ranges-requires
ranges_of-ranges-requires c = let h = c.requires.holds in (h.some_elements, h.few_elements, h.sound.types_le, omega (arith, h.sound.types_le, h.members_are.room))

pub relations_of-g-requires : goal.relations_of-g-requires
relations_of-g-requires c = declared _ _ _ _ c.requires.holds

pub nodes_of-t-requires : goal.nodes_of-t-requires
nodes_of-t-requires c = rule_fine _ _ _ _ c.requires.holds

pub of_tables-m-requires : goal.of_tables-m-requires
of_tables-m-requires c = let h = c.requires.holds in (h.some_elements, h.few_elements, c.relations_of-g.ensures.0, c.nodes_of-t.ensures.fits, c.ranges_of-ranges.ensures.0)

pub returns-in_err-within : goal.returns-in_err-within
returns-in_err-within c =
    let p = err_from_is_err_and c.from_residual.result c.from_residual.ensures.1 in
    record {
      fit = λ j. omega (arith, c.type_inv.picks j);
      judges = λ site picks x read h A given F handed.
          let T = c.of_tables-m.ensures (problem_of x.case) _ _ c.ranges_of-ranges.ensures.1 (inputs _ _ x.case _ h _ _ c.relations_of-g.ensures.1 c.nodes_of-t.ensures) in
          rw (p.1, p.2) (ends_over usual _ site picks x read _ given F handed _ (over_usual x.case _ T _ c.usual_limits.ensures _ c.in_err-within.ensures));
    }

pub values_of-count-requires : goal.values_of-count-requires
values_of-count-requires c =
    let s = c.requires in let T = c.of_tables-m.ensures (problem_of s.case) _ _ c.ranges_of-ranges.ensures.1 (inputs _ _ s.case _ s.holds _ _ c.relations_of-g.ensures.1 c.nodes_of-t.ensures) in
    omega (arith, tuples_told s.case _ T, few_usual s.case _ T _ c.usual_limits.ensures c.in_ok-within.ensures)

pub lay_out-l-requires : goal.lay_out-l-requires
lay_out-l-requires c = let h = c.requires.holds in (h.some_elements, h.few_elements, c.relations_of-g.ensures.0, c.nodes_of-t.ensures.fits, c.ranges_of-ranges.ensures.0)

pub slice_bounds-fill-end-2 : goal.slice_bounds-fill-end-2
slice_bounds-fill-end-2 c = sym c.requires.holds.members_are.room

pub fill-requires : goal.fill-requires
fill-requires c =
    let s = c.requires in let h = s.holds in let g = c.relations_of-g.ensures in let r = c.ranges_of-ranges.ensures in let i = inputs _ _ s.case _ h _ _ g.1 c.nodes_of-t.ensures in
    let T = c.of_tables-m.ensures (problem_of s.case) _ _ r.1 i in
    let (a, b) = counts_usual s.case _ T _ c.usual_limits.ensures c.in_ok-within.ensures in
    let l = (c.lay_out-l.ensures (problem_of s.case) _ _ r.1 i).small number_limit (omega (arith, a)) (omega (arith, b)) in
    (search rules, most_zeros table_length 0, h.some_elements, h.few_elements, g.0, l, h.sound.types_le, omega (arith, h.sound.types_le, h.members_are.room), r.0, r.1)

pub returns-then-picks-held : goal.returns-then-picks-held
returns-then-picks-held c =
    record {
      fit = λ j. omega (arith, c.type_inv.picks j);
      judges = λ site picks x read h A given F handed.
          let p = problem_of x.case in
          let i = inputs _ _ x.case _ h _ _ c.relations_of-g.ensures.1 c.nodes_of-t.ensures in
          let grounded = within_usual x.case _ (c.of_tables-m.ensures p _ _ c.ranges_of-ranges.ensures.1 i) _ c.usual_limits.ensures c.in_ok-within.ensures in
          let is = c.fill.ensures.1 p _ (some_relations x.case) i (c.lay_out-l.ensures p _ _ c.ranges_of-ranges.ensures.1 i).starts in
          rw c.at.ensures (ends_short usual _ site picks x read _ given F handed grounded _ (c.picks_length-held.ensures.picks (bare p) is ∙ length_same p) c.if-picks-held.true);
    }

pub decide-requires : goal.decide-requires
decide-requires c =
    let g = c.relations_of-g.ensures in let r = c.ranges_of-ranges.ensures in let k = c.requires in let h = k.holds in (
      c.fill.ensures.0,
      record {
        some = h.some_elements;
        few = h.few_elements;
        types_le = h.sound.types_le;
        there = omega (arith, h.sound.types_le, h.members_are.room);
        fit = r.0;
        are = r.1;
      },
      g.0,
      c.nodes_of-t.ensures.fits,
      record { case = k.case; accepted_case = k.accepted_case; inputs = inputs _ _ k.case _ h _ _ g.1 c.nodes_of-t.ensures },
      c.values_of-count.ensures.1,
    )

pub returns-in-Some : goal.returns-in-Some
returns-in-Some c =
    record {
      fit = λ j. omega (arith, c.type_inv.picks j);
      judges = λ site picks x read h A given F handed.
          let p = problem_of x.case in
          let i = inputs _ _ x.case _ h _ _ c.relations_of-g.ensures.1 c.nodes_of-t.ensures in
          let grounded = within_usual x.case _ (c.of_tables-m.ensures p _ _ c.ranges_of-ranges.ensures.1 i) _ c.usual_limits.ensures c.in_ok-within.ensures in
          let is = c.fill.ensures.1 p _ (some_relations x.case) i (c.lay_out-l.ensures p _ _ c.ranges_of-ranges.ensures.1 i).starts in
          rw c.at-in-Some.ensures (ends_spare usual _ site picks x read _ given F handed grounded _ (c.picks_length-held.ensures.picks (bare p) is ∙ length_same p) (omega (arith, c.if-picks-held.false)) _ (c.spare_word.ensures (bare p) is ∙ spare_same p _) _ c.in-Some.is);
    }

pub returns : goal.returns
returns c =
    record {
      fit = λ j. omega (arith, c.type_inv.picks j);
      judges = λ site picks x read h A given F handed.
          let p = problem_of x.case in
          let i = inputs _ _ x.case _ h _ _ c.relations_of-g.ensures.1 c.nodes_of-t.ensures in
          let T = c.of_tables-m.ensures p _ _ c.ranges_of-ranges.ensures.1 i in
          let grounded = within_usual x.case _ T _ c.usual_limits.ensures c.in_ok-within.ensures in
          let is = c.fill.ensures.1 p _ (some_relations x.case) i (c.lay_out-l.ensures p _ _ c.ranges_of-ranges.ensures.1 i).starts in
          let q = c.picks_length-held.ensures.picks (bare p) is ∙ length_same p in
          let e = c.spare_word.ensures (bare p) is ∙ spare_same p _ in
          let asks = asks_of usual _ site picks x read _ given F handed grounded _ q (omega (arith, c.if-picks-held.false)) _ e c.in_default.is _ _ h A _ _ _ _ _ _ i is in
          ends_judged usual _ site picks x read _ given F handed grounded _ q (omega (arith, c.if-picks-held.false)) _ e c.in_default.is _ (c.decide.ensures x.case F asks (c.values_of-count.ensures.0 ∙ values_are x.case _ (tuples_told x.case _ T)));
    }
