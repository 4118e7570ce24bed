-- `call_desk::reply` meets its contract: too long an input, or one of the two ways. Assumes nothing.
use mathlib.Core.Path.{sym}
use Rattle.std.proofs.Common.{subst}
use Rattle.definitions.specs.Refusal.{refused}
use Rattle.definitions.specs.Reply.Desk.{printed}
use Rattle.refusal.specs.declared.Refusal.{Refusal}
use Rattle.refusal.specs.Numbers.{number_of}
use Rattle.call_desk.specs.Replied.{Replies}
use native.Mathlib.Omega.{arith}
use lib.Seq.{length-take-le}
use borrow.Author.Rules.{part_to_end}
use Rattle.call_desk.specs.Whole.{answers_long, answers_checked, answers_built}
use Rattle.call_desk.proofs.reply.Goals as goal

pub returns-then-input-gt16384 : goal.returns-then-input-gt16384
returns-then-input-gt16384 c =
    let k = answers_long _ _ _ _ (omega (arith, c.if-input-gt16384.true))
    (subst (λ (e : Refusal). Replies (printed (refused (number_of e.cause) e.place)) c.args.out.now c.refuse.new.out c.refuse.result) c.at.ensures c.refuse.ensures) in
    record { count = k.0; bytes = k.1.0; front = k.1.1 }

pub slice_bounds-check-end-then-c : goal.slice_bounds-check-end-then-c
slice_bounds-check-end-then-c c = let x = c.cut_input-c.ensures in sym (length-take-le _ _ (omega (arith, x.asked, x.within)))

pub returns-then-c : goal.returns-then-c
returns-then-c c =
    let k = answers_checked _ _ _ _ (omega (arith, c.if-input-gt16384.false)) _ _ _ c.cut_input-c.ensures c.if-c.true _ (part_to_end c.args.input.now c.cut_input-c.result.site) (c.finish.ensures _ _ c.check-checked.ensures) in
    record { count = k.0; bytes = k.1.0; front = k.1.1 }

pub slice_bounds-build-end-2 : goal.slice_bounds-build-end-2
slice_bounds-build-end-2 c = let x = c.cut_input-c.ensures in sym (length-take-le _ _ (omega (arith, x.asked, x.within)))

pub returns : goal.returns
returns c =
    let k = answers_built _ _ _ _ (omega (arith, c.if-input-gt16384.false)) _ _ _ c.cut_input-c.ensures c.if-c.false _ (part_to_end c.args.input.now c.cut_input-c.result.site) (c.finish-2.ensures _ _ c.build-built.ensures) in
    record { count = k.0; bytes = k.1.0; front = k.1.1 }
