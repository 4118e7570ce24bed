-- `call_tries::try_each`: the records before the index are answered, and with the others answered they are what is promised.
use Rattle.std.proofs.Common.{◌≡◌, map}
use Rattle.definitions.specs.Problem.Atoms.{Problem}
use Rattle.open_tries.specs.Begun.{Serves}
use Rattle.call_tries.specs.Each.{rest, answer}
use Rattle.call_tries.proofs.try_each.Given as goal

abbrev pub invariant-loop-t : goal.invariant-loop-t
invariant-loop-t l = (p : Problem) → Serves p l.table l.state l.words → rest (answer p l.steps) l.t-index l.tries ≡ map (answer p l.steps) l.initial.tries
