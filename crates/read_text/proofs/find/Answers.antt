use Prim.Native.Nat.{◌+◌}
use mathlib.Core.Path.{◌≡◌}
use native.Mathlib.Omega.{arith}
use lib.Seq.{slice}
use Rattle.read_text.specs.Spans.{index_of}
use Rattle.read_text.proofs.Laws.{span_hit, span_miss, span_more, span_none}
use Rattle.read_text.proofs.find.Goals as goal

pub returns-then-s-i : goal.returns-then-s-i
returns-then-s-i c = omega (arith, span_hit c.args.b c.loop-i.i c.args.end c.args.s.now (omega arith) c.requires.1 c.if-s-i.true)

pub returns-then-s-i-2 : goal.returns-then-s-i-2
returns-then-s-i-2 c = omega (arith, span_miss c.args.b c.loop-i.i c.args.end c.args.s.now (omega arith) c.requires.1 c.if-s-i.false, span_hit c.args.b (c.loop-i.i + 1) c.args.end c.args.s.now (omega arith) c.requires.1 c.if-s-i-2.true)

pub returns-then-s-i-3 : goal.returns-then-s-i-3
returns-then-s-i-3 c =
    let p : index_of c.args.b (slice c.loop-i.i c.args.end c.args.s.now)
    ≡ 1 + index_of c.args.b (slice (c.loop-i.i + 1) c.args.end c.args.s.now) = omega (
      arith,
      span_miss c.args.b c.loop-i.i c.args.end c.args.s.now (omega arith) c.requires.1
          c.if-s-i.false,
    ) in
    let q = span_more c.args.b c.loop-i.i 1 c.args.end c.args.s.now (omega arith) c.requires.1 c.if-s-i-2.false p in
    omega (arith, q, span_hit c.args.b (c.loop-i.i + 2) c.args.end c.args.s.now (omega arith) c.requires.1 c.if-s-i-3.true)

pub returns-then-s-i-4 : goal.returns-then-s-i-4
returns-then-s-i-4 c =
    let p : index_of c.args.b (slice c.loop-i.i c.args.end c.args.s.now)
    ≡ 1 + index_of c.args.b (slice (c.loop-i.i + 1) c.args.end c.args.s.now) = omega (
      arith,
      span_miss c.args.b c.loop-i.i c.args.end c.args.s.now (omega arith) c.requires.1
          c.if-s-i.false,
    ) in
    let q = span_more c.args.b c.loop-i.i 1 c.args.end c.args.s.now (omega arith) c.requires.1 c.if-s-i-2.false p in
    let r = span_more c.args.b c.loop-i.i 2 c.args.end c.args.s.now (omega arith) c.requires.1 c.if-s-i-3.false q in
    omega (arith, r, span_hit c.args.b (c.loop-i.i + 3) c.args.end c.args.s.now (omega arith) c.requires.1 c.if-s-i-4.true)

pub loop-i-preserved : goal.loop-i-preserved
loop-i-preserved c =
    let p : index_of c.args.b (slice c.loop-i.i c.args.end c.args.s.now)
    ≡ 1 + index_of c.args.b (slice (c.loop-i.i + 1) c.args.end c.args.s.now) = omega (
      arith,
      span_miss c.args.b c.loop-i.i c.args.end c.args.s.now (omega arith) c.requires.1
          c.if-s-i.false,
    ) in
    let q = span_more c.args.b c.loop-i.i 1 c.args.end c.args.s.now (omega arith) c.requires.1 c.if-s-i-2.false p in
    let r = span_more c.args.b c.loop-i.i 2 c.args.end c.args.s.now (omega arith) c.requires.1 c.if-s-i-3.false q in
    let t = span_more c.args.b c.loop-i.i 3 c.args.end c.args.s.now (omega arith) c.requires.1 c.if-s-i-4.false r in
    (omega arith, omega (arith, t))

pub returns-then-s-k : goal.returns-then-s-k
returns-then-s-k c = omega (arith, span_hit c.args.b c.loop-k.k c.args.end c.args.s.now (omega arith) c.requires.1 c.if-s-k.true)

pub loop-k-preserved : goal.loop-k-preserved
loop-k-preserved c = (omega arith, omega (arith, span_miss c.args.b c.loop-k.k c.args.end c.args.s.now (omega arith) c.requires.1 c.if-s-k.false))

pub returns : goal.returns
returns c = omega (arith, span_none c.args.b c.loop-k.k c.args.end c.args.s.now (omega arith) (omega arith))
