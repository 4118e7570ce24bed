-- The numbers of the refusal sheet ("Refusal", 1 to 24).
use Rattle.std.specs.Prelude.{ℕ, ◌≤◌}
use Rattle.std.proofs.Common.{arith}
use Rattle.refusal.specs.declared.Cause.{Cause}
use Rattle.refusal.specs.declared.Cause.TheVariants.{TooLong, NoRecord, OutOfOrder, BadName, NoFormula, TooManyForms, Unknown, BadVariable, OutOfRange, Repeated, TooLarge, ShortBuffer, NoAction, NotNow, NoGoal, OtherKind, RuleFalse, BadLabel, BadType, TooManyCells, NoPicks, BeyondPddl, HasEvery, NotMonotone}

abbrev pub number_of : Cause → ℕ
number_of TooLong = 1
number_of NoRecord = 2
number_of OutOfOrder = 3
number_of BadName = 4
number_of NoFormula = 5
number_of TooManyForms = 6
number_of Unknown = 7
number_of BadVariable = 8
number_of OutOfRange = 9
number_of Repeated = 10
number_of TooLarge = 11
number_of ShortBuffer = 12
number_of NoAction = 13
number_of NotNow = 14
number_of NoGoal = 15
number_of OtherKind = 16
number_of RuleFalse = 17
number_of BadLabel = 18
number_of BadType = 19
number_of TooManyCells = 20
number_of NoPicks = 21
number_of BeyondPddl = 22
number_of HasEvery = 23
number_of NotMonotone = 24

-- none of them is 0
pub some_number : (c : Cause) → 1 ≤ number_of c
some_number TooLong = omega arith
some_number NoRecord = omega arith
some_number OutOfOrder = omega arith
some_number BadName = omega arith
some_number NoFormula = omega arith
some_number TooManyForms = omega arith
some_number Unknown = omega arith
some_number BadVariable = omega arith
some_number OutOfRange = omega arith
some_number Repeated = omega arith
some_number TooLarge = omega arith
some_number ShortBuffer = omega arith
some_number NoAction = omega arith
some_number NotNow = omega arith
some_number NoGoal = omega arith
some_number OtherKind = omega arith
some_number RuleFalse = omega arith
some_number BadLabel = omega arith
some_number BadType = omega arith
some_number TooManyCells = omega arith
some_number NoPicks = omega arith
some_number BeyondPddl = omega arith
some_number HasEvery = omega arith
some_number NotMonotone = omega arith
