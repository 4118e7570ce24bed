-- `read_sheets::picks_turn` meets its contract.
use mathlib.Core.Path.{◌≡◌}
use lib.ListN.{length}
use Rattle.read_sheets.proofs.Turns.{arrays_of, in_pick, picks_wrong, picks_other, picks_pick}
use borrow.Author.Rules.{rules}
use Rattle.read_sheets.proofs.picks_turn.Goals as goal

pub add-requires : goal.add-requires
add-requires c =
    let known = c.requires in let pick = in_pick _ _ _ known.by_index.1.1 _ _ _ _ c.in-Pick.is in
    let f : length c.args.from.now ≡ 21 = search rules in let t : length c.args.to.now ≡ 21 = search rules in
    let d : length c.args.arity.now ≡ 13 = search rules in record { arrays = (arrays_of _ _ _ _ _ known.few_arities.0 f t d, known.few_arities.1, known.few_arities.2); fielded = (pick, known.by_index.0) }

pub returns-in-Wrong : goal.returns-in-Wrong
returns-in-Wrong c = search (rules, picks_wrong)

pub returns-in-Pick : goal.returns-in-Pick
returns-in-Pick c = λ ls K g z y. picks_pick _ _ _ _ _ _ _ _ _ _ _ _ c.in-Pick.is _ _ _ z y (c.add.ensures ls K g)

pub returns-in_default : goal.returns-in_default
returns-in_default c = λ ls K g z y. picks_other _ _ _ _ _ _ _ _ c.in_default.not-Wrong c.in_default.not-Pick
