-- The whole reply: too long an input, a third sheet of steps, any other. Assumes nothing.
use Rattle.std.specs.Prelude.{ℕ, ◌-◌, ◌≤◌, ◌<◌, ◌≡◌, Bool, true, false, take, drop}
use Rattle.std.proofs.Math.Path.{sym, ap}
use Rattle.std.proofs.Common.{◌∙◌, arith, length-take-le}
use mathlib.Core.List.{List}
use Rattle.std.proofs.Math.ListN.{length, length-append}
use Rattle.definitions.specs.Refusal.{refused}
use Rattle.definitions.specs.Reply.Outcome.{written, as_text, plan}
use Rattle.definitions.specs.Reply.Desk.{printed, checked_plan, desk}
use Rattle.print_report.specs.Cutting.{CutAt}
use Rattle.print_report.specs.Answers.{too_long, checked_answer, built_answer}
use Rattle.call_desk.specs.Replied.{Replies}
use Rattle.call_desk.specs.Known.{own}

-- r bytes at the front of xs; the second part follows from the first, and is said so that a caller who takes them has nothing to prove
abbrev pub Front : ℕ → List ℕ → Type 0
Front r xs = (r ≤ length xs) × (r ≡ length (take r xs))

-- the reply's length, and the bytes lent
abbrev Answers : (input old new : List ℕ) → ℕ → Type 0
Answers input old new r = (r ≡ length (desk input)) × ((new ≡ written (desk input) old) × Front r new)

module _ (input old new : List ℕ) (r : ℕ) where
  answers : (text : List ℕ) → desk input ≡ text → Replies text old new r → Answers input old new r
  unfolding written
  answers text e h =
      let l : r ≤ length new = omega (arith, h.count, ap length h.table, length-append text (drop (length text) old)) in
      (h.count ∙ ap length (sym e), (h.table ∙ ap (λ (t : List ℕ). written t old) (sym e), (l, sym (length-take-le r new l))))

  pub answers_long : 16384 < length input → Replies (printed (refused 1 0)) old new r → Answers input old new r
  unfolding printed
  answers_long h = answers (printed (refused 1 0)) (too_long input h)

  module _ (h : length input ≤ 16384) (question site : ℕ) (steps : Bool) (c : CutAt input question site steps) where
    pub answers_checked : steps ≡ true → (rest : List ℕ) → rest ≡ drop site input
        → Replies (printed (checked_plan (take question input) (take (site - question) (drop question input)) rest)) old new r → Answers input old new r
    answers_checked s rest e = answers (printed (checked_plan (take question input) (take (site - question) (drop question input)) rest))
        (checked_answer input h question site steps c s ∙ ap (λ (t : List ℕ). printed (checked_plan (take question input) (take (site - question) (drop question input)) t)) (sym e))

    pub answers_built : steps ≡ false → (rest : List ℕ) → rest ≡ drop site input
        → Replies (printed (plan own (take question input) (take (site - question) (drop question input)) (as_text rest) 1024 8192)) old new r → Answers input old new r
    answers_built s rest e = answers (printed (plan own (take question input) (take (site - question) (drop question input)) (as_text rest) 1024 8192))
        (built_answer input h question site steps c s ∙ ap (λ (t : List ℕ). printed (plan own (take question input) (take (site - question) (drop question input)) (as_text t) 1024 8192)) (sym e))
