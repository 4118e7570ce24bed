-- `print_line::decimal` meets its contract, by recursion on the number: the digits before the last, then the last.
use Rattle.print_line.proofs.+decimal.Given as goal

abbrev pub decreases-decimal : goal.decreases-decimal
decreases-decimal l = l.k
