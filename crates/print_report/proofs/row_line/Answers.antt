-- `print_report::row_line` meets its contract.
use mathlib.Core.Path.{sym, ◌∙◌}
use Rattle.print_line.specs.Printed.{begin, finish, finished}
use Rattle.print_line.specs.Lines.{said_by}
use Rattle.print_report.specs.Report.{row_set, row_clear}
use Rattle.print_report.proofs.row_line.Goals as goal

pub pick_line-requires : goal.pick_line-requires
pick_line-requires c = let a = c.args in (c.requires.0, c.requires.1, c.requires.2, (begin a.out.now (row_set (said_by a.site.now a.labels.now) a.words.now a.first a.name.now a.n a.arity a.row (sym c.get.ensures ∙ c.if-get.true)) c.requires.5).room)

pub returns-then-get : goal.returns-then-get
returns-then-get c =
    let a = c.args in finish _ (begin a.out.now (row_set (said_by a.site.now a.labels.now) a.words.now a.first a.name.now a.n a.arity
    a.row (sym c.get.ensures ∙ c.if-get.true)) c.requires.5)
    c.pick_line.ensures

pub returns : goal.returns
returns c = let a = c.args in finished (begin a.out.now (row_clear (said_by a.site.now a.labels.now) a.words.now a.first a.name.now a.n a.arity a.row (sym c.get.ensures ∙ c.if-get.false)) c.requires.5)
