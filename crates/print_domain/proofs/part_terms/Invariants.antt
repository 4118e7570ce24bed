-- `print_domain::part_terms` meets its contract. Assumes nothing.
use Prim.Native.Nat.{◌≤◌}
use mathlib.Core.Path.{◌≡◌}
use Rattle.print_words.specs.Words.{codes_of, TermsFit}
use Rattle.print_domain.specs.Nodes.{terms_to}
use Rattle.print_domain.proofs.part_terms.Given as goal

abbrev pub invariant-loop-i : goal.invariant-loop-i
invariant-loop-i l = (l.i ≤ l.width) × TermsFit l.t × (l.t.count ≡ l.i) × (codes_of l.t ≡ terms_to l.levels l.env l.i)
