-- `read_sheets::site` meets its contract.
use Rattle.read_sheets.proofs.Loops.{site_kept}
use Rattle.read_sheets.proofs.site.Goals as goal

pub returns : goal.returns
returns c = λ L e. rw c.cleared.ensures.0 (site_kept L _ _ _ _ _ _ _ _ (c.site_lines-read.ensures L e) c.cleared.ensures.1)
