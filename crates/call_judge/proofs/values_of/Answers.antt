-- `call_judge::values_of` meets its contract. Assumes nothing.
use native.Mathlib.Omega.{arith}
use Rattle.call_judge.specs.Judges.{few_values}
use Rattle.call_judge.proofs.values_of.Goals as goal

pub power-requires : goal.power-requires
power-requires c = (omega arith, omega (arith, few_values _ c.requires))

pub returns : goal.returns
returns c = (c.power.ensures, omega (arith, c.power.ensures, few_values _ c.requires))
