-- `problem_layout::store`: the piece that std copies into the middle. Assumes nothing.
use mathlib.Core.Path.{refl, ◌∙◌}
use native.Mathlib.Omega.{arith}
use lib.ListN.{length}
use Rattle.std.proofs.lemmas.Slice.{put_mid-paste}
use Rattle.problem_layout.specs.SpliceLaws.{splice_all}
use Rattle.problem_layout.proofs.store.Goals as goal

pub returns : goal.returns
returns c =
    let line = c.args.line.now in
    put_mid-paste _ _ _ _ line (length line) c.copy_from_slice.ensures.after (omega arith) refl ∙ splice_all _ c.args.at line (length line) (omega arith) (omega arith)
