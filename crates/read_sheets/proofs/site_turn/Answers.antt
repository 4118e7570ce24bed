-- `read_sheets::site_turn` meets its contract.
use mathlib.Core.Path.{◌≡◌, refl, sym, ◌∙◌}
use native.Mathlib.Omega.{arith}
use lib.ListN.{length}
use Rattle.read_names.proofs.Laws.{length_names}
use Rattle.read_sheets.proofs.Turns.{arrays_of, in_label, in_member, in_fact, site_wrong, site_other, size_turned, label_out_lem, label_added, label_fault, member_out_lem, member_added, member_fault, fact_early, fact_added, fact_fault, types_are}
use borrow.Author.Rules.{rules}
use Rattle.std.proofs.lemmas.Result.{err_from_is_err_and}
use Rattle.read_sheets.proofs.site_turn.Goals as goal

pub returns-then-is_no_place_for_label : goal.returns-then-is_no_place_for_label
returns-then-is_no_place_for_label c = λ L e g z y. label_out_lem _ _ _ _ _ _ _ _ _ _ _ _ _ _ _ _ c.in-Label.is (sym c.is_no_place_for_label.ensures ∙ c.if-is_no_place_for_label.true)

pub label-requires : goal.label-requires
label-requires c = let known = c.requires in record { n_bound = (omega (arith, known.few_arities), known.by_index.0); t_lt_e = in_label _ _ _ known.by_index.1.1 _ _ _ _ c.in-Label.is }

pub returns-then-is_no_place_for_member : goal.returns-then-is_no_place_for_member
returns-then-is_no_place_for_member c = λ L e g z y. member_out_lem _ _ _ _ _ _ _ _ _ _ _ _ _ _ _ _ c.in-Member.is (sym c.is_no_place_for_member.ensures ∙ c.if-is_no_place_for_member.true)

pub member-requires : goal.member-requires
member-requires c =
    let known = c.requires in let f : length c.args.from.now ≡ 21 = search rules in let t : length c.args.to.now ≡ 21 = search rules in
    let b = in_member _ _ _ known.by_index.1.1 _ _ _ _ c.in-Member.is in
    rw c.member_line-m.ensures
    record { types_bound = (known.types_bound.0, omega (arith, f), omega (arith, t), omega (arith, known.few_arities.1, known.few_arities.2), known.types_bound.1, b.1, b.2); labels_are = known.by_index.0 }

pub returns-then-st-eq0 : goal.returns-then-st-eq0
returns-then-st-eq0 c = λ L e g z y. fact_early _ _ _ _ _ _ _ _ _ _ _ _ _ _ _ _ c.in-Fact.is c.if-st-eq0.true

pub add-requires : goal.add-requires
add-requires c =
    let known = c.requires in let fact = in_fact _ _ _ known.by_index.1.1 _ _ _ _ c.in-Fact.is in
    let f : length c.args.from.now ≡ 21 = search rules in let t : length c.args.to.now ≡ 21 = search rules in
    let d : length c.args.arity.now ≡ 13 = search rules in
    rw c.fact_line-f.ensures
    record { arrays = (arrays_of _ _ _ _ _ known.few_arities.0 f t d, omega (arith, known.few_arities.1, known.few_arities.2), known.few_arities.3 c.if-st-eq0.false); fielded = (fact, known.by_index.0) }

pub returns-in-Wrong : goal.returns-in-Wrong
returns-in-Wrong c = search (rules, site_wrong)

pub returns-in-Size : goal.returns-in-Size
returns-in-Size c = λ L e g z y. size_turned _ _ _ _ _ _ _ _ _ _ _ _ _ c.in-Size.is _ e _ c.size_turn.ensures refl refl refl

pub returns-in_err-label-in-Label : goal.returns-in_err-label-in-Label
returns-in_err-label-in-Label c =
    let p = err_from_is_err_and c.from_residual.result c.from_residual.ensures.1 in
    λ L e g z y.
    let placed = sym c.is_no_place_for_label.ensures ∙ c.if-is_no_place_for_label.false in
    rw (p.1, p.2) (label_fault _ _ _ _ _ _ _ _ _ _ _ _ _ _ _ _ c.in-Label.is placed _ c.label.ensures _ c.in_err-label-in-Label.was)

pub returns-in_ok-label-in-Label : goal.returns-in_ok-label-in-Label
returns-in_ok-label-in-Label c =
    λ L e g z y.
    let placed = sym c.is_no_place_for_label.ensures
    ∙ c.if-is_no_place_for_label.false in
    label_added _ _ _ _ _ _ _ _ _ _ _ _ _ _ _ _ c.in-Label.is placed _
    c.label.ensures c.in_ok-label-in-Label.was refl refl

pub returns-in_err-member-in-Member : goal.returns-in_err-member-in-Member
returns-in_err-member-in-Member c =
    let r = c.from_residual-in_err-member-in-Member in
    let p = err_from_is_err_and r.result r.ensures.1 in
    λ L e g z y.
    let placed = sym c.is_no_place_for_member.ensures ∙ c.if-is_no_place_for_member.false in
    let added = rw c.member_line-m.ensures at c.member.ensures in
    rw (p.1, p.2)
    (member_fault _ _ _ _ _ _ _ _ _ _ _ _ _ _ _ _ c.in-Member.is placed _ _ (types_are _ _ _ _ g _ y) (length_names _ _ _ _ _ ∙ y) added _ c.in_err-member-in-Member.was)

pub returns-in_ok-member-in-Member : goal.returns-in_ok-member-in-Member
returns-in_ok-member-in-Member c =
    λ L e g z y.
    let placed = sym c.is_no_place_for_member.ensures
    ∙ c.if-is_no_place_for_member.false in
    let added = rw c.member_line-m.ensures at c.member.ensures in
    member_added _ _ _ _ _ _ _ _ _ _ _ _ _ _ _ _ c.in-Member.is placed _ _ (types_are _ _ _ _ g _ y)
    (length_names _ _ _ _ _ ∙ y) added c.in_ok-member-in-Member.was refl refl

pub returns-in_err-add-in-Fact : goal.returns-in_err-add-in-Fact
returns-in_err-add-in-Fact c =
    let r = c.from_residual-in_err-add-in-Fact in
    let p = err_from_is_err_and r.result r.ensures.1 in
    λ L e g z y.
    let added = rw c.fact_line-f.ensures at c.add.ensures in
    rw (p.1, p.2) (fact_fault _ _ _ _ _ _ _ _ _ _ _ _ _ _ _ _ c.in-Fact.is c.if-st-eq0.false _ _ z (λ ls K. added ls K g) _ c.in_err-add-in-Fact.was)

pub returns-in_ok-add-in-Fact : goal.returns-in_ok-add-in-Fact
returns-in_ok-add-in-Fact c =
    λ L e g z y.
    let added = rw c.fact_line-f.ensures at c.add.ensures in
    fact_added _ _ _ _ _ _ _ _ _ _ _ _ _ _ _ _ c.in-Fact.is
    c.if-st-eq0.false _ _ z
    (λ ls K. added ls K g) c.in_ok-add-in-Fact.was refl refl

pub returns-in_default : goal.returns-in_default
returns-in_default c = λ L e g z y. site_other _ _ _ _ _ _ _ _ _ _ _ _ c.in_default.not-Wrong c.in_default.not-Size c.in_default.not-Label c.in_default.not-Member c.in_default.not-Fact
