-- `read_tuples::row` meets its contract.
use mathlib.Core.List.{[]}
use native.Mathlib.Omega.{arith}
use Rattle.read_tuples.proofs.Rows.{row_none, no_row, row_small, places_1, places_2, places_3}
use Rattle.read_tuples.proofs.row.Goals as goal

pub one_more-requires : goal.one_more-requires
one_more-requires c = (omega arith, no_row)

pub one_more-a-requires : goal.one_more-a-requires
one_more-a-requires c = (omega arith, no_row)

pub one_more-requires-in-Two : goal.one_more-requires-in-Two
one_more-requires-in-Two c = (omega arith, row_small _ _ _ (c.one_more-a.ensures [] (row_none _)) (omega arith) (omega arith))

pub one_more-a-requires-in-Three : goal.one_more-a-requires-in-Three
one_more-a-requires-in-Three c = (omega arith, no_row)

pub one_more-b-requires : goal.one_more-b-requires
one_more-b-requires c = (omega arith, row_small _ _ _ (c.one_more-a-in-Three.ensures [] (row_none _)) (omega arith) (omega arith))

pub one_more-requires-in-Three : goal.one_more-requires-in-Three
one_more-requires-in-Three c = (omega arith, row_small _ _ _ (c.one_more-b.ensures _ (c.one_more-a-in-Three.ensures [] (row_none _))) (omega arith) (omega arith))

pub returns-in-One : goal.returns-in-One
returns-in-One c = places_1 _ _ _ _ c.in-One.is (c.one_more.ensures [] (row_none _))

pub returns-in-Two : goal.returns-in-Two
returns-in-Two c = places_2 _ _ _ _ _ c.in-Two.is (c.one_more-in-Two.ensures _ (c.one_more-a.ensures [] (row_none _)))

pub returns-in-Three : goal.returns-in-Three
returns-in-Three c =
    let two = c.one_more-b.ensures _ (c.one_more-a-in-Three.ensures [] (row_none _)) in
    places_3 _ _ _ _ _ _ c.in-Three.is (c.one_more-in-Three.ensures _ two)
