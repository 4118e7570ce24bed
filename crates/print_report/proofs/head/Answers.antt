-- `print_report::head` meets its contract.
use native.Mathlib.Omega.{arith}
use Rattle.definitions.specs.Reply.Desk.{sizes_line}
use Rattle.print_line.specs.Printed.{begin, room_for, next as then, finish}
use Rattle.print_line.specs.Lines.{said_by}
use Rattle.print_report.specs.Report.{counts as countsOf, head_is}
use Rattle.print_report.proofs.head.Goals as goal

pub sizes_line-sized-requires : goal.sizes_line-sized-requires
sizes_line-sized-requires c =
    let a = c.args in let l0 = begin {at = 0} a.out.now (head_is (said_by a.site.now a.labels.now) a.q.now a.g a.n a.atoms a.actions a.bound a.words.now) (omega (arith, c.requires.5)) in
    room_for (sizes_line _) _ l0

pub counts-counted-requires : goal.counts-counted-requires
counts-counted-requires c =
    let a = c.args in let p = c.requires in let l0 = begin {at = 0} a.out.now (head_is (said_by a.site.now a.labels.now) a.q.now a.g a.n a.atoms a.actions a.bound a.words.now) (omega (arith, p.5)) in
    let l1 = then (sizes_line _) _ l0 c.sizes_line-sized.ensures in
    (p.0, p.2, p.3, p.4, room_for (countsOf a.q.now a.g a.n a.words.now) _ l1)

pub picks-requires : goal.picks-requires
picks-requires c =
    let a = c.args in let p = c.requires in let l0 = begin {at = 0} a.out.now (head_is (said_by a.site.now a.labels.now) a.q.now a.g a.n a.atoms a.actions a.bound a.words.now) (omega (arith, p.5)) in
    let l1 = then (sizes_line _) _ l0 c.sizes_line-sized.ensures in
    let l2 = then (countsOf a.q.now a.g a.n a.words.now) _ l1 c.counts-counted.ensures in
    (p.0, p.1, p.2, p.3, p.4, l2.room)

pub returns : goal.returns
returns c =
    let a = c.args in let p = c.requires in let l0 = begin {at = 0} a.out.now (head_is (said_by a.site.now a.labels.now) a.q.now a.g a.n a.atoms a.actions a.bound a.words.now) (omega (arith, p.5)) in
    let l1 = then (sizes_line _) _ l0 c.sizes_line-sized.ensures in
    let l2 = then (countsOf a.q.now a.g a.n a.words.now) _ l1 c.counts-counted.ensures in
    finish _ l2 c.picks.ensures
