use Prim.Native.Nat.{ℕ, ◌+◌, ◌<◌}
use mathlib.Core.Path.{refl, ap, ◌∙◌}
use native.Mathlib.Omega.{arith}
use borrow.Author.Rules.{rules}
use lib.ListN.{length}
use Rattle.step_picks.specs.WordLaws.{words_few, word_next}
use Rattle.step_picks.specs.TestLaws.{line_places}
use Rattle.step_build.specs.SetLaws.{relations_start, relations_next, relations_end, word_first, rows_at}
use Rattle.step_build.proofs.set_picks.Goals as goal

pub loop-r-init : goal.loop-r-init
loop-r-init c = (omega arith, omega arith, omega arith, refl, refl, λ p R. (word_first p, relations_start p _ _ _), search rules, search rules)

pub set_relation-k-requires : goal.set_relation-k-requires
set_relation-k-requires c = let fits = c.requires in let line = c.relation_line-line.ensures in let w = words_few _ _ fits _ line in (fits, omega arith, line_places _ fits _ _ line (omega arith), w.0, w.2, omega arith, omega arith)

pub words_in-word-requires : goal.words_in-word-requires
words_in-word-requires c = (words_few _ _ c.requires _ c.relation_line-line.ensures).2

pub overflow_add-word : goal.overflow_add-word
overflow_add-word c = omega (arith, c.words_in-word.ensures, (words_few _ _ c.requires _ c.relation_line-line.ensures).3)

pub loop-r-preserved : goal.loop-r-preserved
loop-r-preserved c =
    let k = c.loop-r in let w = words_few _ _ c.requires _ c.relation_line-line.ensures in (
      omega arith,
      omega (arith, c.set_relation-k.ensures.0),
      omega (arith, c.words_in-word.ensures, w.3),
      c.set_relation-k.auto.state ∙ k.invariant.3,
      c.set_relation-k.auto.steps ∙ k.invariant.4,
      λ p R.
          let I = k.invariant.5 p R in let h : k.r < length p.relations = omega (arith, R.is.relations) in (
            ap (λ (z : ℕ). k.word + z) c.words_in-word.ensures ∙ word_next p _ R.is _ h _ c.relation_line-line.ensures _ I.0,
            I.1 ∙ relations_next p _ _ _ _ _ _ h (rows_at p _ _ _ I.0) (c.set_relation-k.ensures.1 p
                (record { is = R.is; room = omega (arith, R.room, k.invariant.3); few = R.few }) h c.relation_line-line.ensures),
          ),
      k.invariant.6,
      k.invariant.7,
    )

pub returns : goal.returns
returns c = (omega arith, λ p R. (c.loop-r.invariant.5 p R).1 ∙ relations_end p _ _ _ _ (omega (arith, R.is.relations)))
