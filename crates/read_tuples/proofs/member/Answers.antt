-- `read_tuples::member` meets its contract. The bit tells whether an earlier line says the same.
use mathlib.Core.Path.{◌≡◌, sym, ◌∙◌}
use native.Mathlib.Omega.{arith}
use Rattle.std.specs.Prelude.{None}
use Rattle.std.proofs.lemmas.Grind.{common_steps}
use Rattle.read_names.proofs.Laws.{length_names}
use Rattle.read_line.specs.Entries.{element_by}
use Rattle.read_tuples.proofs.Joining.{type_below, member_untyped, member_wide, member_nobody, member_again, member_new}
use mathlib.Core.List.{[]}
use Prim.Native.Nat.{◌<◌}
use Rattle.read_tuples.proofs.member.Goals as goal
use Rattle.read_tuples.proofs.member.Goals.{In-Some}

-- the type is one of the eight
few : (c : In-Some) → c.in-Some.j < 8
few c =
    let a = c.args in
    omega (
      arith,
      length_names a.q.now a.from.now a.to.now 13 a.line.types,
      type_below _ a.line.n c.requires.labels_are.0 _ (element_by [] 0) [] [] _ c.type_named.ensures _ c.in-Some.is,
    )

pub returns-then-n-x : goal.returns-then-n-x
returns-then-n-x c =
    λ ls L.
    let fit = sym (c.fits.ensures _) ∙ c.if-not-fits.false in
    member_nobody _ _ ls _ _ _ _ _ c.type_named.ensures _
    c.in-Some.is L.fit fit _ (c.value-x.ensures ls L) (omega arith)

pub overflow_mul-j : goal.overflow_mul-j
overflow_mul-j c = omega (arith, few (goal.at.overflow_mul-j c).In-Some)

pub overflow_add-j : goal.overflow_add-j
overflow_add-j c = omega (arith, few (goal.at.overflow_add-j c).In-Some)

pub get-requires : goal.get-requires
get-requires c = omega (arith, few (goal.at.get-requires c).In-Some)

pub returns-then-get : goal.returns-then-get
returns-then-get c =
    λ ls L.
    let fit = sym (c.fits.ensures _) ∙ c.if-not-fits.false in
    let type = c.type_named.ensures in
    member_again _ _ ls _ _ _ _ _ type _ c.in-Some.is L.fit fit _
    (c.value-x.ensures ls L)
    (omega arith) (omega arith) (sym c.get.ensures ∙ c.if-get.true)

pub overflow_mul-j-2 : goal.overflow_mul-j-2
overflow_mul-j-2 c = omega (arith, few (goal.at.overflow_mul-j-2 c).In-Some)

pub overflow_add-j-2 : goal.overflow_add-j-2
overflow_add-j-2 c = omega (arith, few (goal.at.overflow_add-j-2 c).In-Some)

pub set-requires : goal.set-requires
set-requires c = omega (arith, few (goal.at.set-requires c).In-Some)

pub returns : goal.returns
returns c =
    λ ls L.
    let fit = sym (c.fits.ensures _)
    ∙ c.if-not-fits.false in
    let value = c.value-x.ensures ls L in
    let eight = c.requires.types_bound in
    member_new _ _ ls _ _ _ _ _ c.type_named.ensures _
    c.in-Some.is L.fit fit _ value
    (omega (arith, c.if-n-x.false)) (omega (arith, eight))
    (sym c.get.ensures ∙ c.if-get.false)
    (omega (arith, eight)) c.set.ensures

pub returns-in_default : goal.returns-in_default
returns-in_default c = λ ls L. member_untyped _ _ ls _ _ _ _ _ c.type_named.ensures (let e : c.type_named.result ≡ None = grind (arith, common_steps) in e)

pub returns-then-not-fits : goal.returns-then-not-fits
returns-then-not-fits c = λ ls L. member_wide _ _ ls _ _ _ _ _ c.type_named.ensures _ c.in-Some.is (sym (c.fits.ensures _) ∙ c.if-not-fits.true)
