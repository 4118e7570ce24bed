-- `step_prove::first_try` meets its contract.
use native.Mathlib.Omega.{arith}
use mathlib.Core.Path.{◌∙◌}
use Rattle.problem_table.specs.NeedLaws.{row_values_lem, within_most}
use Rattle.step_prove.specs.NeedLaws.{under_along, parts_tried, whole_tried, elements_tried}
use Rattle.step_prove.proofs.first_try.Goals as goal

pub spread-env-requires : goal.spread-env-requires
spread-env-requires c = let q = c.requires in (q.2.width, q.2.levels, q.5, within_most c.args.n c.args.digits.now (omega arith) q.6, q.7)

pub first_member-requires : goal.first_member-requires
first_member-requires c = let q = c.requires in (q.0.whole, q.3.inside, λ i h. omega (arith, q.3.member i h), c.along-a.ensures.0, c.along-a.ensures.1)

pub returns-then-v-eq1 : goal.returns-then-v-eq1
returns-then-v-eq1 c =
    λ row D o.
    let values = c.spread-env.ensures.1 _ row D ∙ row_values_lem _ _ row in
    elements_tried _ _ _ _ row _ _ (under_along _ _ _ row _ _ _ values c.along-a.ensures.2) _ (omega arith) o c.first_member.ensures

pub returns-then-v-eq2 : goal.returns-then-v-eq2
returns-then-v-eq2 c =
    λ row D o.
    let values = c.spread-env.ensures.1 _ row D ∙ row_values_lem _ _ row in
    whole_tried _ _ _ _ row _ values _ _ (omega arith) o c.parts_hold.ensures c.only_try.ensures

pub returns : goal.returns
returns c =
    λ row D o.
    let values = c.spread-env.ensures.1 _ row D ∙ row_values_lem _ _ row in
    parts_tried _ _ _ _ row _ values _
    (omega (arith, c.requires.4)) o c.first_part.ensures
