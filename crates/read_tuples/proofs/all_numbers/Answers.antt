-- `read_tuples::all_numbers` meets its contract.
use native.Mathlib.Omega.{arith}
use Rattle.std.proofs.lemmas.Bool.Decides.{nat_tests}
use Rattle.definitions.specs.Lists.{all}
use Rattle.read_line.specs.Entries.{codes_of}
use Rattle.read_tuples.specs.Labels.{is_number}
use Rattle.read_tuples.proofs.all_numbers.Goals as goal

pub returns-in-One : goal.returns-in-One
unfolding is_number all codes_of
returns-in-One c = rw c.in-One.is (grind (arith, nat_tests))

pub returns-then-x-ne-NAMED : goal.returns-then-x-ne-NAMED
unfolding is_number all codes_of
returns-then-x-ne-NAMED c = rw c.in-Two.is (grind (arith, nat_tests))

pub returns-else-x-ne-NAMED : goal.returns-else-x-ne-NAMED
unfolding is_number all codes_of
returns-else-x-ne-NAMED c = rw c.in-Two.is (grind (arith, nat_tests))

pub returns-then-y-ne-NAMED : goal.returns-then-y-ne-NAMED
unfolding is_number all codes_of
returns-then-y-ne-NAMED c = rw c.in-Three.is (grind (arith, nat_tests))

pub returns-else-y-ne-NAMED : goal.returns-else-y-ne-NAMED
unfolding is_number all codes_of
returns-else-y-ne-NAMED c = rw c.in-Three.is (grind (arith, nat_tests))
