use mathlib.Core.Path.{sym, ap, ◌∙◌}
use native.Mathlib.Omega.{arith}
use lib.Seq.{slice}
use borrow.Author.Rules.{rules}
use Rattle.read_text.specs.Spans.{option_of}
use Rattle.read_names.specs.Signatures.{with_arrays}
use Rattle.read_names.proofs.Laws.{look_hit, look_miss, look_start, look_end}
use Rattle.read_names.proofs.lookup.Goals as goal

pub loop-i-init : goal.loop-i-init
loop-i-init c = (search rules, search rules, λ g. look_start c.args.q.now (with_arrays g c.args.from.now c.args.to.now c.args.arity.now) (slice c.args.a c.args.e c.args.s.now) c.args.wanted c.args.lo c.args.m)

pub returns-then-fits : goal.returns-then-fits
returns-then-fits c =
    λ g. sym (ap option_of (c.loop-i.invariant.2 g ∙ look_hit c.args.q.now (with_arrays g c.args.from.now c.args.to.now c.args.arity.now)
    (slice c.args.a c.args.e c.args.s.now) c.args.wanted c.loop-i.i _ (omega arith)
    (sym c.fits.ensures ∙ c.if-fits.true)))

pub loop-i-preserved : goal.loop-i-preserved
loop-i-preserved c = (
  search rules,
  search rules,
  λ g. c.loop-i.invariant.2 g
      ∙ look_miss c.args.q.now (with_arrays g c.args.from.now c.args.to.now c.args.arity.now)
      (slice c.args.a c.args.e c.args.s.now) c.args.wanted c.loop-i.i _ (omega arith)
      (sym c.fits.ensures ∙ c.if-fits.false),
)

pub returns : goal.returns
returns c = λ g. sym (ap option_of (c.loop-i.invariant.2 g ∙ look_end c.args.q.now (with_arrays g c.args.from.now c.args.to.now c.args.arity.now) (slice c.args.a c.args.e c.args.s.now) c.args.wanted c.loop-i.i _ (omega arith)))
