-- `read_plan::proof_name` meets its contract. Assumes nothing.
use native.Mathlib.Omega.{arith}
use Rattle.read_plan.specs.Spans.{proof_short, proof_goal, proof_and, proof_or, proof_exists, proof_forall}
use Rattle.read_plan.proofs.proof_name.Goals as goal

pub returns-then-e-a-lt10 : goal.returns-then-e-a-lt10
returns-then-e-a-lt10 c = proof_short c.args.s.now c.args.a c.args.e c.requires.0 c.requires.1 (omega arith)

pub returns-then-b-eq103 : goal.returns-then-b-eq103
returns-then-b-eq103 c = proof_goal c.args.s.now c.args.a c.args.e c.requires.0 c.requires.1 (omega arith) _ c.small-b.ensures c.if-b-eq103.true

pub returns-then-b-eq97 : goal.returns-then-b-eq97
returns-then-b-eq97 c = proof_and c.args.s.now c.args.a c.args.e c.requires.0 c.requires.1 (omega arith) _ c.small-b.ensures c.if-b-eq103.false c.if-b-eq97.true _ c.number_in-v.ensures

pub returns-then-b-eq111 : goal.returns-then-b-eq111
returns-then-b-eq111 c = proof_or c.args.s.now c.args.a c.args.e c.requires.0 c.requires.1 (omega arith) _ c.small-b.ensures c.if-b-eq103.false c.if-b-eq97.false c.if-b-eq111.true _ c.or_name.ensures

pub returns-then-b-eq101 : goal.returns-then-b-eq101
returns-then-b-eq101 c = proof_exists c.args.s.now c.args.a c.args.e c.requires.0 c.requires.1 (omega arith) _ c.small-b.ensures c.if-b-eq103.false c.if-b-eq97.false c.if-b-eq111.false c.if-b-eq101.true _ c.number_in-v-then-b-eq101.ensures

pub returns : goal.returns
returns c = proof_forall c.args.s.now c.args.a c.args.e c.requires.0 c.requires.1 (omega arith) _ c.small-b.ensures c.if-b-eq103.false c.if-b-eq97.false c.if-b-eq111.false c.if-b-eq101.false _ c.forall_name.ensures
