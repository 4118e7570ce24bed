-- `read_tuples::add` meets its contract. The bit tells whether the tuple stood in an earlier line.
use mathlib.Core.Path.{sym, ◌∙◌}
use native.Mathlib.Omega.{arith}
use Rattle.std.proofs.lemmas.Result.{err_from_is_err_and}
use Rattle.read_tuples.specs.Marks.{Roomy}
use Rattle.read_tuples.proofs.Adding.{no_signature, spot_limit, add_fault, add_10, add_0}
use Prim.Native.Nat.{◌/◌, ◌<◌}
use lib.ListN.{length}
use Rattle.read_tuples.proofs.add.Goals as goal
use Rattle.read_tuples.proofs.add.Goals.{In_ok-b}

-- the bit of the tuple is in the table
within : (c : In_ok-b) → c.in_ok-b.b / 64 < length
    c.args.table.now
unfolding Roomy
within c =
    let p = c.requires.fielded.1 in
    omega (
      arith,
      c.requires.arrays.2 no_signature,
      spot_limit _ _ _ _ _ p.0 _ _ c.args.table.now c.args.table.now _
          (c.spot.ensures p.0 p.1 no_signature) _ c.in_ok-b.was,
    )

pub get-requires : goal.get-requires
get-requires c = within c

pub returns-then-get : goal.returns-then-get
returns-then-get c =
    λ ls L g.
    add_10 _ _ _ _ _ ls _ _ _ _ _ (c.spot.ensures ls L g) _
    c.in_ok-b.was (sym c.get.ensures ∙ c.if-get.true)

pub set-requires : goal.set-requires
set-requires c = within (goal.at.set-requires c).In_ok-b

pub returns : goal.returns
returns c =
    λ ls L g.
    add_0 _ _ _ _ _ ls _ _ _ _ _ (c.spot.ensures ls L g) _
    c.in_ok-b.was
    (sym c.get.ensures ∙ c.if-get.false) c.set.ensures

pub returns-in_err-b : goal.returns-in_err-b
returns-in_err-b c = let p = err_from_is_err_and c.from_residual.result c.from_residual.ensures.1 in
    rw (p.1, p.2) (λ ls L g. add_fault _ _ _ _ _ ls _ _ _ _ _ (c.spot.ensures ls L g) _ c.in_err-b.was)
