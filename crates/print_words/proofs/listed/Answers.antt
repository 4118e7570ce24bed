use native.Mathlib.Omega.{arith}
use mathlib.Core.Path.{refl}
use lib.ListN.{take}
use Rattle.print_bytes.specs.Emitted.{begin, recut, next as then, finished}
use Rattle.print_words.specs.Words.{each_next, each_end}
use Rattle.print_words.proofs.listed.Goals as goal

pub loop-k-init : goal.loop-k-init
loop-k-init c = begin _ refl (omega arith) (omega arith)

pub loop-k-preserved : goal.loop-k-preserved
loop-k-preserved c = then _ _ (then _ _ (recut (each_next (take c.args.t.count c.args.t.at) c.loop-k.k-index (omega arith)) c.loop-k.invariant) c.byte-spaced.ensures) c.term-next.ensures

pub returns : goal.returns
returns c = finished (recut (each_end (take c.args.t.count c.args.t.at) c.loop-k.k-index (omega arith)) c.loop-k.invariant)
