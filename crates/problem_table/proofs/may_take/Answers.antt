-- `problem_table::may_take` meets its contract.
use native.Mathlib.Omega.{arith}
use Prim.Native.Nat.{◌<◌}
use Rattle.problem_table.specs.NeedLaws.{need_set, need_begin, need_and, need_or, need_exists, need_forall, need_goal, need_round, need_in, need_out, need_nothing, fits_of, relation_small, node_small}
use borrow.Author.Rules.{rules}
use Rattle.problem_table.proofs.may_take.Goals as goal

pub relation_line-requires : goal.relation_line-requires
relation_line-requires c = let f = fits_of _ _ _ c.in-Set.is c.requires.act_fits in search rules

pub may_set-requires : goal.may_set-requires
may_set-requires c =
    let f = fits_of _ _ _ c.in-Set.is c.requires.act_fits in
    let q = relation_small _ c.requires.fits _ _ c.relation_line.ensures in search rules

pub node_line-requires : goal.node_line-requires
node_line-requires c = let f = fits_of _ _ _ c.in-And.is c.requires.act_fits in search rules

pub may_and-requires : goal.may_and-requires
may_and-requires c =
    let f = fits_of _ _ _ c.in-And.is c.requires.act_fits in
    let q = node_small _ c.requires.fits _ _ c.node_line.ensures f.0 in search rules

pub node_line-requires-in-Or : goal.node_line-requires-in-Or
node_line-requires-in-Or c = let f = fits_of _ _ _ c.in-Or.is c.requires.act_fits in search rules

pub may_or-requires : goal.may_or-requires
may_or-requires c =
    let f = fits_of _ _ _ c.in-Or.is c.requires.act_fits in
    let q = node_small _ c.requires.fits _ _ c.node_line-in-Or.ensures f.0 in
    let h : c.in-Or.x.choice < c.node_line-in-Or.result.many = rw c.node_line-in-Or.ensures f.2 in search rules

pub node_line-requires-in-Exists : goal.node_line-requires-in-Exists
node_line-requires-in-Exists c = let f = fits_of _ _ _ c.in-Exists.is c.requires.act_fits in search rules

pub may_exists-requires : goal.may_exists-requires
may_exists-requires c =
    let f = fits_of _ _ _ c.in-Exists.is c.requires.act_fits in
    let q = node_small _ c.requires.fits _ _ c.node_line-in-Exists.ensures f.0 in search rules

pub node_line-requires-in-Forall : goal.node_line-requires-in-Forall
node_line-requires-in-Forall c = let f = fits_of _ _ _ c.in-Forall.is c.requires.act_fits in search rules

pub may_forall-requires : goal.may_forall-requires
may_forall-requires c =
    let f = fits_of _ _ _ c.in-Forall.is c.requires.act_fits in
    let q = node_small _ c.requires.fits _ _ c.node_line-in-Forall.ensures f.0 in search rules

pub relation_line-k-requires : goal.relation_line-k-requires
relation_line-k-requires c = let f = fits_of _ _ _ c.in-MarkIn.is c.requires.act_fits in search rules

pub overflow_add-k : goal.overflow_add-k
overflow_add-k c =
    omega (
      arith,
      (fits_of _ _ _ c.in-MarkIn.is
          c.requires.act_fits).1,
      relation_small _
          c.requires.fits _ _ c.relation_line-k.ensures,
    )

pub overflow_add-k-in-MarkIn : goal.overflow_add-k-in-MarkIn
overflow_add-k-in-MarkIn c =
    omega (
      arith,
      (fits_of _ _ _ c.in-MarkIn.is
          c.requires.act_fits).1,
      relation_small _
          c.requires.fits _ _ c.relation_line-k.ensures,
    )

pub relation_line-k-requires-in-MarkOut : goal.relation_line-k-requires-in-MarkOut
relation_line-k-requires-in-MarkOut c = let f = fits_of _ _ _ c.in-MarkOut.is c.requires.act_fits in search rules

pub overflow_add-k-in-MarkOut : goal.overflow_add-k-in-MarkOut
overflow_add-k-in-MarkOut c =
    omega (
      arith,
      (fits_of _ _ _ c.in-MarkOut.is
          c.requires.act_fits).1,
      relation_small _
          c.requires.fits _ _ c.relation_line-k-in-MarkOut.ensures,
    )

pub overflow_add-k-in-MarkOut-2 : goal.overflow_add-k-in-MarkOut-2
overflow_add-k-in-MarkOut-2 c =
    omega (
      arith,
      (fits_of _ _ _ c.in-MarkOut.is
          c.requires.act_fits).1,
      relation_small _
          c.requires.fits _ _ c.relation_line-k-in-MarkOut.ensures,
    )

pub returns-in-Set : goal.returns-in-Set
returns-in-Set c = need_set _ _ _ _ _ _ c.in-Set.is c.relation_line.ensures c.may_set.ensures

pub returns-in-Begin : goal.returns-in-Begin
returns-in-Begin c = need_begin _ _ _ _ c.in-Begin.is c.test.ensures

pub returns-in-And : goal.returns-in-And
returns-in-And c = need_and _ _ _ _ _ _ c.in-And.is c.node_line.ensures c.may_and.ensures

pub returns-in-Or : goal.returns-in-Or
returns-in-Or c = need_or _ _ _ _ _ _ c.in-Or.is c.node_line-in-Or.ensures c.may_or.ensures

pub returns-in-Exists : goal.returns-in-Exists
returns-in-Exists c = need_exists _ _ _ _ _ _ c.in-Exists.is c.node_line-in-Exists.ensures c.may_exists.ensures

pub returns-in-Forall : goal.returns-in-Forall
returns-in-Forall c = need_forall _ _ _ _ _ _ c.in-Forall.is c.node_line-in-Forall.ensures c.may_forall.ensures

pub returns-in-Goal : goal.returns-in-Goal
returns-in-Goal c = need_goal _ _ _ _ c.in-Goal.is c.may_goal.ensures

pub returns-in-RoundEnd : goal.returns-in-RoundEnd
returns-in-RoundEnd c = need_round _ _ _ _ c.in-RoundEnd.is c.may_goal-in-RoundEnd.ensures

pub returns-in-MarkIn : goal.returns-in-MarkIn
returns-in-MarkIn c = need_in _ _ _ _ _ _ c.in-MarkIn.is c.relation_line-k.ensures c.may_mark.ensures

pub returns-in-MarkOut : goal.returns-in-MarkOut
returns-in-MarkOut c = need_out _ _ _ _ _ _ c.in-MarkOut.is c.relation_line-k-in-MarkOut.ensures c.may_mark-in-MarkOut.ensures

pub returns-in-Nothing : goal.returns-in-Nothing
returns-in-Nothing c = need_nothing _ _ _ c.in-Nothing.is
