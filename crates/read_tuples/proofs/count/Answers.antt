-- `read_tuples::count` meets its contract.
use lib.ListN.{length}
use Rattle.read_line.specs.Entries.{codes_of}
use Rattle.read_line.specs.declared.Places.{Places}
use mathlib.Core.Path.{◌≡◌}
use Rattle.read_tuples.proofs.count.Goals as goal

-- as many as the codes
codes : (p : Places) {q : Places} → p ≡ q → length (codes_of q) ≡ length (codes_of p)
codes p e = rw e

pub returns-in-One : goal.returns-in-One
unfolding codes_of
returns-in-One c = codes _ c.in-One.is

pub returns-in-Two : goal.returns-in-Two
unfolding codes_of
returns-in-Two c = codes _ c.in-Two.is

pub returns-in-Three : goal.returns-in-Three
unfolding codes_of
returns-in-Three c = codes _ c.in-Three.is
