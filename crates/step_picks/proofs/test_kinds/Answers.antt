use Prim.Native.Nat.{ℕ, ◌+◌, ◌-◌}
use mathlib.Core.Path.{refl, sym, ap, ◌∙◌}
use native.Mathlib.Omega.{arith}
use borrow.Author.Rules.{rules}
use lib.ListN.{length}
use Rattle.step_picks.specs.Words.{rows_in}
use Rattle.step_picks.specs.WordLaws.{words_few}
use Rattle.step_picks.specs.Tests.{broken_from}
use Rattle.step_picks.specs.TestLaws.{broken_all, broken_end, told_kept, told_broken, kinds_start, kinds_yes, kinds_no, kinds_word, chosen_le, line_places}
use Rattle.step_picks.proofs.test_kinds.Goals as goal

pub bounds-table-0 : goal.bounds-table-0
bounds-table-0 c = omega arith

pub loop-r-init : goal.loop-r-init
loop-r-init c = (omega arith, omega arith, omega arith, λ p is. kinds_start p _ is _, search rules, search rules)

pub bounds-table-1 : goal.bounds-table-1
bounds-table-1 c = omega arith

pub overflow_mul-word : goal.overflow_mul-word
overflow_mul-word c = omega arith

pub breaks_kind-requires : goal.breaks_kind-requires
breaks_kind-requires c = let fits = c.requires in record { table_len = (fits.whole, line_places _ fits _ _ c.relation_line-line.ensures (omega arith), refl); start_bound = (omega arith, fits.some, fits.size) }

pub returns-then-breaks_kind : goal.returns-then-breaks_kind
returns-then-breaks_kind c =
    λ p is. told_broken _ ∙ sym
    (kinds_yes p _ is _ _ _ _ _ c.relation_line-line.ensures (omega arith) (c.loop-r.invariant.3 p is).0 _ c.breaks_kind.ensures c.if-breaks_kind.true) ∙ sym
    (c.loop-r.invariant.3 p is).1 ∙ broken_all p _

pub words_in-word-requires : goal.words_in-word-requires
words_in-word-requires c = (words_few _ _ c.requires _ c.relation_line-line.ensures).2

pub overflow_add-word : goal.overflow_add-word
overflow_add-word c = let relation-line = c.relation_line-line in omega (arith, c.words_in-word.ensures, (words_few _ _ c.requires _ relation-line.ensures).3)

pub overflow_add-i : goal.overflow_add-i
overflow_add-i c = omega (arith, c.chosen-i.ensures, chosen_le c.relation_line-line.result.kind)

pub loop-r-preserved : goal.loop-r-preserved
loop-r-preserved c =
    let breaks-kind = c.breaks_kind in let relation-line = c.relation_line-line in (
      omega arith,
      omega (arith, c.chosen-i.ensures, chosen_le relation-line.result.kind),
      omega (arith, c.words_in-word.ensures, (words_few _ _ c.requires _ relation-line.ensures).3),
      λ p is. let I = c.loop-r.invariant.3 p is in (
        ap (λ (z : ℕ). c.loop-r.word + z) c.words_in-word.ensures ∙ kinds_word p _ is _ _ _ c.loop-r.i _ relation-line.ensures
            (omega arith) I.0 _ breaks-kind.ensures,
        I.1 ∙ kinds_no p _ is _ _ _ _ _ relation-line.ensures (omega arith) I.0 breaks-kind.result breaks-kind.ensures
            c.if-breaks_kind.false ∙ ap (λ (z : ℕ). broken_from p (rows_in p c.args.picks.now) (c.loop-r.r + 1) (length p.relations - (c.loop-r.r + 1)) (c.loop-r.i + z))
            (sym c.chosen-i.ensures),
      ),
      c.loop-r.invariant.4,
      c.loop-r.invariant.5,
    )

pub returns : goal.returns
returns c = λ p is. told_kept ∙ sym ((c.loop-r.invariant.3 p is).1 ∙ broken_end p _ _ _ _ (omega (arith, is.relations))) ∙ broken_all p _
