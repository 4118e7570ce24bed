-- `print_words::listed` meets its contract. Assumes nothing.
use lib.ListN.{drop}
use Rattle.print_bytes.specs.Emitted.{Left}
use Rattle.print_words.specs.Words.{each}
use Rattle.print_words.proofs.listed.Given as goal

abbrev pub invariant-loop-k : goal.invariant-loop-k
invariant-loop-k l = Left (each l.k-items) l.initial.out l.at (each (drop l.k-index l.k-items)) l.out l.next
