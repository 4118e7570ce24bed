-- `chain` meets its contract; the quantifiers that are left fall.
use Rattle.rule_rewrite.proofs.+chain.Given as goal

abbrev pub decreases-chain : goal.decreases-chain
decreases-chain l = l.k
