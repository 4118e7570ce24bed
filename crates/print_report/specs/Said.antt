-- How an element is printed: by the words of labels as by the labels. Assumes nothing.
use Prim.Native.Nat.{ℕ, zero, suc, ◌+◌, ◌*◌, ◌≤◌}
use Rattle.std.specs.Prelude.{◌≡◌, List, get_or}
use Rattle.std.proofs.Math.Path.{refl, ap, fun_ext}
use Rattle.std.proofs.Common.{sym, ◌∙◌, arith}
use Rattle.std.proofs.Math.Option.{Option}
use Rattle.definitions.specs.Lists.{option}
use Rattle.definitions.specs.Sheet.Text.{decimal}
use Rattle.definitions.specs.Sheet.Sheets.{Label}
use Rattle.definitions.specs.Reply.Desk.{said}
use Rattle.read_tuples.specs.Labels.{LabelsAre, spanned}
use Rattle.print_line.specs.Lines.{Spans, spelled, said_by}

module _ (site labels : List ℕ) (n : ℕ) (ls : List Label) (L : LabelsAre site labels n ls) where
  pub said_so : said_by site labels ≡ said ls
  unfolding said_by said spelled spanned option
  said_so = fun_ext (λ x. by_number x (get_or labels (2 * x) 0) (get_or labels (2 * x + 1) 0) ∙ ap (λ (o : Option (List ℕ)). option o (decimal x) (λ name. name)) (sym (L.says x)))
    where
      by_number : (x from to : ℕ) → spelled site x from to ≡ option (spanned site from to) (decimal x) (λ name. name)
      by_number x from zero = refl
      by_number x from (suc to) = refl

  pub spans : n ≤ 64 → Spans site labels n
  spans h = record { room = omega (arith, L.room); in_text = λ x l. L.in_text x (omega arith) }
