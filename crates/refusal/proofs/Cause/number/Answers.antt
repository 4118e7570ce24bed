-- Each cause has the tag before its number.
use Rattle.std.proofs.Common.{◌≡◌, ◌+◌}
use Rattle.std.proofs.Math.Path.{refl}
use denote.Enum.Declared.{tag_of}
use Rattle.refusal.specs.declared.Cause.{Cause}
use Rattle.refusal.specs.declared.Cause.TheVariants.{TooLong, NoRecord, OutOfOrder, BadName, NoFormula, TooManyForms, Unknown, BadVariable, OutOfRange, Repeated, TooLarge, ShortBuffer, NoAction, NotNow, NoGoal, OtherKind, RuleFalse, BadLabel, BadType, TooManyCells, NoPicks, BeyondPddl, HasEvery, NotMonotone}
use Rattle.refusal.specs.contracts.Cause.{the_type}
use Rattle.refusal.specs.Numbers.{number_of}
use Rattle.refusal.proofs.Cause.number.Goals as goal

tag_next : (x : Cause) → tag_of the_type x + 1 ≡ number_of x
tag_next TooLong = refl
tag_next NoRecord = refl
tag_next OutOfOrder = refl
tag_next BadName = refl
tag_next NoFormula = refl
tag_next TooManyForms = refl
tag_next Unknown = refl
tag_next BadVariable = refl
tag_next OutOfRange = refl
tag_next Repeated = refl
tag_next TooLarge = refl
tag_next ShortBuffer = refl
tag_next NoAction = refl
tag_next NotNow = refl
tag_next NoGoal = refl
tag_next OtherKind = refl
tag_next RuleFalse = refl
tag_next BadLabel = refl
tag_next BadType = refl
tag_next TooManyCells = refl
tag_next NoPicks = refl
tag_next BeyondPddl = refl
tag_next HasEvery = refl
tag_next NotMonotone = refl

pub returns : goal.returns
returns c = tag_next c.args.self
