-- Words of sixty-four valuations: digit j is for valuation j.
use Rattle.std.specs.Prelude.{◌≡◌, Bool, true, false, List, ℕ, ◌<◌, eqb, ltb, get_or, if◌then◌else◌}
use Rattle.definitions.specs.Problem.Actions.{Values}
use Rattle.bits.specs.Table.{digit}
use Rattle.problem_table.specs.Lines.{part_number}
use Rattle.problem_table.specs.declared.PartLine.{PartLine}
use Rattle.eval_rule.specs.Lines.{agree, leaf_at}
use Rattle.eval_rule.specs.Says.{Leaf}
use Rattle.eval_rule.specs.declared.PartAt.{PartAt}

abbrev pub full : ℕ
full = 18446744073709551615

unfoldable pub spread_of : Bool → ℕ
spread_of true = full
spread_of false = 0

-- digit by digit the word, or not
abbrev pub Turned : ℕ → Bool → ℕ → Type 0
Turned w keeps r = (j : ℕ) → j < 64 → digit r j ≡ agree (digit w j) keeps

unfoldable pub skip_to : (next end w : ℕ) → ℕ
skip_to next end w = if eqb w full then end else next

unfoldable pub only_of : ℕ → Bool → ℕ
only_of w b = if b then w else 0

-- a literal: a chosen one by the lent words, another by its truth, which is the same in every valuation
unfoldable pub leaf_words : (facts pos neg : List ℕ) → ℕ → Values → PartAt → PartLine → ℕ
leaf_words facts pos neg n e q line =
    if ltb q.which 6 then spread_of (leaf_at facts facts n e q line)
    else if eqb q.tag 1 then get_or pos (part_number e line) 0
    else get_or neg (part_number e line) 0

abbrev pub leaf_in : (facts pos neg : List ℕ) → (n j : ℕ) → Leaf
leaf_in facts pos neg n j = λ e q line. digit (leaf_words facts pos neg n e q line) j
