-- `read_sheets::site_lines` meets its contract. The lines up to `at` gave what was read so far, the labels, the members and the facts in the table,
-- so reading the text is reading the rest from there; before a size is read no line was, so what is known of the first line tells that the
-- table has room.
use Prim.Native.Nat.{◌-◌, ◌≤◌}
use mathlib.Core.Path.{◌≡◌}
use lib.ListN.{length}
use Rattle.definitions.specs.Limits.{CaseLimits}
use Rattle.read_tuples.specs.Marks.{Roomy}
use Rattle.read_sheets.proofs.Loops.{SiteAt}
use Rattle.read_sheets.proofs.site_lines.Given as goal

abbrev pub invariant-loop-at : goal.invariant-loop-at
invariant-loop-at l = (l.at ≤ length l.s) × (length l.table ≡ length l.initial.table) × (length l.labels ≡ length l.initial.labels) × (length l.members ≡ length l.initial.members) ×
    ((L : CaseLimits) → L.elements ≡ l.most → SiteAt L l.q l.g l.s l.at l.st l.labels l.members l.table)
    × (l.st.n ≡ 0 → l.at ≡ 0) × ((l.st.n ≡ 0 → ⊥) → Roomy l.g.from l.g.to l.g.arity 0 l.g.rels l.st.n (length l.initial.table))

abbrev pub decreases-loop-at : goal.decreases-loop-at
decreases-loop-at l = l.end - l.at
