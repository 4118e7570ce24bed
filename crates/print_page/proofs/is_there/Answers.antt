-- `print_page::is_there` meets its contract.
use Rattle.std.proofs.Common.{sym, ap}
use Rattle.print_page.specs.Steps.{is_there, there_unless}
use Rattle.print_page.proofs.is_there.Goals.{in-Nothing, in_default}
use Rattle.print_page.proofs.is_there.Goals as goal

pub returns : goal.returns
unfolding is_there
returns c =
    elim c.match-matches.branch [
      | in-Nothing w ↦ rw w.matches-is (sym (ap is_there w.in-Nothing.is))
      | in_default w ↦ rw w.matches-is (there_unless c.args.a w.in_default.not-Nothing)
    ]
