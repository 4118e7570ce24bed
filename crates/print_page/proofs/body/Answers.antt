-- `print_page::body` meets its contract.
use native.Mathlib.Omega.{arith}
use Prim.Native.Nat.{◌+◌, ◌^◌, ◌<◌, ◌≤◌}
use mathlib.Core.Path.{refl, sym, ap, ◌∙◌}
use mathlib.Core.List.{List, ◌++◌, append_assoc}
use lib.ListN.{length, drop, get_or, replicate}
use Rattle.definitions.specs.Lists.{flat_map}
use Rattle.definitions.specs.Reply.Page.{ended_line, blank_line}
use Rattle.laws.specs.Pages.{lines_at}
use Rattle.print_line.specs.Printed.{print}
use Rattle.print_page.specs.Bodies.{rest_from, body_is, rest_cut}
use Rattle.print_page.proofs.body.Goals as goal
use Rattle.print_page.proofs.body.Goals.{Start}

short : (c : Start) → length c.args.out.now < 2 ^ 64
short c = omega arith

few : (c : Start) → length c.args.steps.now ≤ 10 ^ 7 → c.args.index < 10 ^ 7
few c h = omega (arith, c.requires.skip_bound.1)

pub overflow_cast-k : goal.overflow_cast-k
overflow_cast-k c = omega (arith, c.type_inv.steps c.args.index)

pub returns : goal.returns
returns c =
    λ p ls is N s S h m. body_is _ _ _ _ _ _ _ _ _ _ (short (goal.at.returns c).Start) (c.first_lines-begun.ensures p ls is N s S (few (goal.at.returns c).Start h) m)
    (c.following-gone.ensures p ls is N s) c.blanks.ensures
    ∙ ap (print c.args.out.now 0) (sym (append_assoc (flat_map ended_line (drop c.args.skip (lines_at ls p c.args.index (get_or c.args.steps.now c.args.index 0))))
    (flat_map ended_line (rest_from ls p c.args.steps.now (c.args.index + 1))) (flat_map ended_line (replicate 59 blank_line)))
    ∙ ap (λ (t : List Prim.Native.Nat.ℕ). t ++ flat_map ended_line (replicate 59 blank_line)) (sym (rest_cut ls p c.args.steps.now c.args.index c.args.skip _ c.requires.skip_bound.1 refl m)))
