-- `problem_relations::fill` meets its contract.
use mathlib.Core.Path.{subst, sym}
use native.Mathlib.Omega.{arith}
use Rattle.rule_nodes.specs.Tables.{Fits}
use Rattle.problem_layout.specs.declared.Layout.{Layout}
use Rattle.problem_layout.specs.Laid.{Inputs, Starts, Small, number_limit}
use Rattle.problem_relations.specs.Bare.{bare, none_fits, bare_inputs, bare_small, bare_starts}
use Rattle.problem_relations.proofs.fill.Goals as goal

pub fill-requires : goal.fill-requires
fill-requires c =
    let h = c.requires in (
      h.0,
      h.1,
      h.2,
      h.3,
      h.4,
      subst Fits (sym c.no_nodes-t.ensures) none_fits,
      subst (λ (x : Layout). Small x number_limit) (sym c.bare_layout-b.ensures.0) (bare_small c.args.n c.args.g c.args.l number_limit h.5),
      h.6,
      h.7,
      h.8,
      h.9,
    )

pub returns : goal.returns
returns c =
    let a = c.args in let f = c.fill.ensures.1 in let b = c.bare_layout-b.ensures in (
      f.fits,
      λ p t some i q. f.is (bare p)
          (subst (Inputs (bare p) a.n a.members.now a.types a.g) (sym c.no_nodes-t.ensures) (bare_inputs p a.n a.members.now a.types a.g t some i))
          (subst (Starts (bare p)) (sym b.0)
          (bare_starts p a.n a.members.now a.types a.g t some c.requires.4 i a.l (omega (arith, b.1), omega (arith, b.2), omega (arith, b.3)) q)),
    )
