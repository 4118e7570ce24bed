use mathlib.Core.Path.{refl, sym, ◌∙◌}
use native.Mathlib.Omega.{arith}
use Rattle.definitions.specs.Limits.{usual}
use Rattle.definitions.specs.Problem.Atoms.{problem_of}
use Rattle.definitions.specs.Reply.Outcome.{read_case}
use Rattle.laws.specs.Reader.{Accepted, gives_if, case_fits}
use Rattle.problem_layout.specs.Laid.{number_limit}
use Rattle.problem_layout.specs.LaidLaws.{most_zeros}
use Rattle.problem_table.specs.Lines.{table_length}
use Rattle.problem_sizes.specs.Refused.{every_told}
use Rattle.problem_of_case.specs.Grounds.{declared, rule_fine, inputs}
use Rattle.problem_relations.specs.Bare.{bare, some_relations, length_same}
use Rattle.std.proofs.lemmas.Result.{err_from_is_err_and}
use Rattle.open_case.specs.Known.{facts_held}
use Rattle.open_case.specs.Usual.{over_usual, within_usual, counts_usual}
use Rattle.eval_table.specs.Everywhere.{no_every}
use Rattle.call_find.specs.Finds.{ends_over, ends_every, ends_short, ends_found}
use borrow.Author.Rules.{rules}
use Rattle.call_find.proofs.find_case.Goals as goal

pub relations_of-g-requires : goal.relations_of-g-requires
relations_of-g-requires c = declared _ _ _ _ c.requires.holds

pub nodes_of-t-requires : goal.nodes_of-t-requires
nodes_of-t-requires c = rule_fine _ _ _ _ c.requires.holds

pub of_tables-m-requires : goal.of_tables-m-requires
of_tables-m-requires c = let h = c.requires.holds in (h.some_elements, h.few_elements, c.relations_of-g.ensures.0, c.nodes_of-t.ensures.fits, c.ranges_of-ranges.ensures.0)

pub returns-in_err-within : goal.returns-in_err-within
returns-in_err-within c =
    let p = err_from_is_err_and c.from_residual.result c.from_residual.ensures.1 in
    λ site x.
    let T = c.of_tables-m.ensures (problem_of x.0) _ _ c.ranges_of-ranges.ensures.1 (inputs _ _ x.0 _ x.2 _ _ c.relations_of-g.ensures.1 c.nodes_of-t.ensures) in
    rw (p.1, p.2) (ends_over usual _ site _ _ _ x _ (over_usual x.0 _ T _ c.usual_limits.ensures _ c.in_err-within.ensures))

pub returns-then-m : goal.returns-then-m
returns-then-m c =
    λ site x.
    let T = c.of_tables-m.ensures (problem_of x.0) _ _ c.ranges_of-ranges.ensures.1 (inputs _ _ x.0 _ x.2 _ _ c.relations_of-g.ensures.1 c.nodes_of-t.ensures) in
    rw c.at.ensures (ends_every usual _ site _ _ _ x (within_usual x.0 _ T _ c.usual_limits.ensures c.in_ok-within.ensures) _ (every_told x.0 _ T) c.if-m.true)

pub lay_out-l-requires : goal.lay_out-l-requires
lay_out-l-requires c = let h = c.requires.holds in (h.some_elements, h.few_elements, c.relations_of-g.ensures.0, c.nodes_of-t.ensures.fits, c.ranges_of-ranges.ensures.0)

pub slice_bounds-fill-end-2 : goal.slice_bounds-fill-end-2
slice_bounds-fill-end-2 c = sym c.requires.holds.members_are.room

pub fill-requires : goal.fill-requires
fill-requires c =
    let s = c.requires in let h = s.holds in let g = c.relations_of-g.ensures in let r = c.ranges_of-ranges.ensures in let i = inputs _ _ s.case _ h _ _ g.1 c.nodes_of-t.ensures in
    let T = c.of_tables-m.ensures (problem_of s.case) _ _ r.1 i in
    let (a, b) = counts_usual s.case _ T _ c.usual_limits.ensures c.in_ok-within.ensures in
    let l = (c.lay_out-l.ensures (problem_of s.case) _ _ r.1 i).small number_limit (omega (arith, a)) (omega (arith, b)) in
    (search rules, most_zeros table_length 0, h.some_elements, h.few_elements, g.0, l, h.sound.types_le, omega (arith, h.sound.types_le, h.members_are.room), r.0, r.1)

pub returns-then-picks-held : goal.returns-then-picks-held
returns-then-picks-held c =
    λ site x.
    let p = problem_of x.0 in
    let i = inputs _ _ x.0 _ x.2 _ _ c.relations_of-g.ensures.1 c.nodes_of-t.ensures in
    let T = c.of_tables-m.ensures p _ _ c.ranges_of-ranges.ensures.1 i in
    let is = c.fill.ensures.1 p _ (some_relations x.0) i (c.lay_out-l.ensures p _ _ c.ranges_of-ranges.ensures.1 i).starts in
    rw c.at-then-picks-held.ensures (ends_short usual _ site _ _ _ x (within_usual x.0 _ T _ c.usual_limits.ensures c.in_ok-within.ensures) _ (every_told x.0 _ T) c.if-m.false _ (c.picks_length-held.ensures.picks (bare p) is ∙ length_same p) c.if-picks-held.true)

pub slice_bounds-fill-end-4 : goal.slice_bounds-fill-end-4
slice_bounds-fill-end-4 c = sym c.requires.holds.members_are.room

pub fill-requires-2 : goal.fill-requires-2
fill-requires-2 c =
    let h = c.requires.holds in (
      refl,
      most_zeros 1479 0,
      h.some_elements,
      h.few_elements,
      c.relations_of-g.ensures.0,
      c.nodes_of-t.ensures.fits,
      h.sound.types_le,
      omega (arith, h.sound.types_le, h.members_are.room),
      c.ranges_of-ranges.ensures.0,
      omega arith,
    )

pub search-requires : goal.search-requires
search-requires c =
    let s = c.requires in let h = s.holds in let g = c.relations_of-g.ensures in let t = c.nodes_of-t.ensures in (
      c.fill.ensures.0,
      record {
        case = s.case;
        accepted = s.accepted_case;
        value = 0;
        lines = record {
          relations = _;
          nodes = _;
          some = h.some_elements;
          size = h.few_elements;
          members = _;
          types = _;
          ranges = _;
          counted = c.ranges_of-ranges.ensures.1;
          inputs = inputs _ _ s.case _ h _ _ g.1 t;
          fits = t.fits;
          lined = c.fill-2.ensures;
        };
      },
      c.picks_length-held.ensures.lines,
      omega (arith, c.if-picks-held.false),
    )

pub returns : goal.returns
returns c =
    λ site x.
    let p = problem_of x.0 in let h = x.2 in
    let i = inputs _ _ x.0 _ h _ _ c.relations_of-g.ensures.1 c.nodes_of-t.ensures in
    let T = c.of_tables-m.ensures p _ _ c.ranges_of-ranges.ensures.1 i in let told = every_told x.0 _ T in
    let grounded = within_usual x.0 _ T _ c.usual_limits.ensures c.in_ok-within.ensures in
    let is = c.fill.ensures.1 p _ (some_relations x.0) i (c.lay_out-l.ensures p _ _ c.ranges_of-ranges.ensures.1 i).starts in
    let q = c.picks_length-held.ensures.picks (bare p) is ∙ length_same p in
    let A = gives_if Accepted (read_case usual _ site) x.0 x.1 (case_fits usual (omega arith) _ site) in
    ends_found usual _ site _ _ _ x grounded _ told c.if-m.false _ q (omega (arith, c.if-picks-held.false)) _ _ (c.search.ensures x.0 (record {
      sought = record { accepted_case = A; no_every = no_every x.0 _ told c.if-m.false; is = is };
      lines_of = record { relations = _; nodes = _; some = h.some_elements; size = h.few_elements; members = _; types = _; ranges = _; counted = c.ranges_of-ranges.ensures.1; inputs = i; fits = c.nodes_of-t.ensures.fits; lined = c.fill-2.ensures };
      facts_in = facts_held _ x.0 _ _ h;
    }))
