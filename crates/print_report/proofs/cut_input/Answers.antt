-- `print_report::cut_input` meets its contract.
use borrow.Author.Rules.{part_to_end}
use Rattle.print_report.specs.Cutting.{cut_at_lem}
use Rattle.print_report.proofs.cut_input.Goals as goal

pub returns : goal.returns
returns c =
    let question-end = c.question_end-question in let t = c.args.input.now in cut_at_lem t question-end.result question-end.ensures _ (part_to_end t question-end.result) c.site_end-site.result
    c.site_end-site.ensures.0 c.site_end-site.ensures.1 _ (part_to_end _ c.site_end-site.result)
    c.starts_with_step-steps.result c.starts_with_step-steps.ensures
