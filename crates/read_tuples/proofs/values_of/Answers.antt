-- `read_tuples::values_of` meets its contract. There are as many fields as numbers, so the tabs between them are found.
use native.Mathlib.Omega.{arith}
use Rattle.read_tuples.proofs.Naming.{values_1, values_2, values_3, tab_2, tab_3, tab_4}
use mathlib.Core.List.{[]}
use Rattle.read_tuples.proofs.values_of.Goals as goal

pub overflow_add-t : goal.overflow_add-t
overflow_add-t c = let p = c.requires in omega (arith, tab_2 _ _ _ _ p.0 0 [] _ c.find-t.ensures _ _ c.in-Two.is)

pub overflow_add-t-in-Three : goal.overflow_add-t-in-Three
overflow_add-t-in-Three c = let p = c.requires in omega (arith, tab_3 _ _ _ _ p.0 0 [] _ c.find-t-in-Three.ensures _ _ _ c.in-Three.is)

pub find-r-requires : goal.find-r-requires
find-r-requires c = let p = c.requires in (omega (arith, tab_3 _ _ _ _ p.0 0 [] _ c.find-t-in-Three.ensures _ _ _ c.in-Three.is), p.0.ends)

pub overflow_add-r : goal.overflow_add-r
overflow_add-r c = let p = c.requires in omega (arith, tab_4 _ _ _ _ p.0 0 [] _ c.find-t-in-Three.ensures _ _ _ c.in-Three.is _ c.find-r.ensures)

pub returns-in-One : goal.returns-in-One
returns-in-One c = λ ls L. values_1 _ _ _ _ c.requires.0 _ ls _ _ c.in-One.is (c.value-u.ensures ls L)

pub returns-in-Two : goal.returns-in-Two
returns-in-Two c =
    λ ls L.
    values_2 _ _ _ _ c.requires.0 _ ls _
    c.find-t.ensures _ _ c.in-Two.is _ _
    (c.value-u-in-Two.ensures ls L) (c.value-v.ensures ls L)

pub returns-in-Three : goal.returns-in-Three
returns-in-Three c =
    λ ls L.
    values_3 _ _ _ _ c.requires.0 _ ls _
    c.find-t-in-Three.ensures _ _ _ c.in-Three.is _
    c.find-r.ensures _ _ _ (c.value-u-in-Three.ensures ls L) (c.value-v-in-Three.ensures ls L) (c.value-w.ensures ls L)
