-- What a part of the program leaves: a text at the front of the lent bytes. A refusal's line and a report fit. Assumes nothing.
use Rattle.std.specs.Prelude.{ℕ, ◌+◌, ◌*◌, ◌^◌, ◌≤◌, ◌<◌, ◌≡◌, List, [], ◌∷◌, ◌++◌, length, take, drop, get_or, Ok, Err}
use Rattle.std.proofs.Math.Path.{refl}
use Rattle.std.proofs.Common.{sym, ap, subst, ◌∙◌, zero-add, arith}
use Rattle.std.proofs.Math.ListN.{length-append}
use Rattle.std.proofs.Math.Seq.{take-length}
use Rattle.definitions.specs.Lists.{flat_map}
use Rattle.definitions.specs.Sheet.Text.{bytes, decimal}
use Rattle.definitions.specs.Refusal.{Result, refused}
use Rattle.definitions.specs.Reply.Outcome.{written, Plan}
use Rattle.definitions.specs.Reply.Desk.{print_line, step_line, printed}
use Rattle.read_names.specs.Signatures.{SoundSignature}
use Rattle.refusal.specs.Numbers.{number_of}
use Rattle.problem_of_case.specs.declared.Sized.{Sized}
use Rattle.read_sheets.specs.declared.Opened.{Opened}
use Rattle.open_case.specs.Replies.{Reply}
use Rattle.print_line.specs.Printed.{Prints, print_is, Left, begin, recut, left_length, room_for, next, finish}
use Rattle.print_line.specs.Lines.{Spans, said_by}
use Rattle.print_report.specs.Report.{name_at, picks, head_of}
use Rattle.print_report.specs.Short.{no_short, ok_short, steps_short}
use Rattle.print_report.specs.Answers.{head_short}

-- the bytes lent, before and after, and how many were written
pub record Replies (text old new : List ℕ) (r : ℕ) : Type 0 where
  pub count : r ≡ length text
  pub table : new ≡ written text old

pub replies : (text old new : List ℕ) (r : ℕ) → length text ≤ length old → Prints text old 0 new r → Replies text old new r
unfolding written
replies text old new r h p =
    let z = zero-add (length text) in
    record {
      count = p.place ∙ z;
      table = p.table ∙ print_is old 0 text (omega arith) ∙ ap (λ (k : ℕ). text ++ drop k old) z;
    }

-- the same answer, said in another way
pub answer_as : (a b : Result Plan) (old new : List ℕ) (r : ℕ) → b ≡ a → Replies (printed a) old new r → Replies (printed b) old new r
answer_as a b old new r e h = subst (λ (x : Result Plan). Replies (printed x) old new r) (sym e) h

pub text_as : (t : List ℕ) (b : Result Plan) (old new : List ℕ) (r : ℕ) → printed b ≡ t → Replies t old new r → Replies (printed b) old new r
text_as t b old new r e h = subst (λ (x : List ℕ). Replies x old new r) (sym e) h

-- how a part of the program ends: its report was printed, or nothing was, and the answer is a refusal
abbrev pub Ends : Result Plan → (old new : List ℕ) → Reply → Type 0
Ends x old new (Ok r) = Replies (printed x) old new r
Ends x old new (Err e) = (x ≡ refused (number_of e.cause) e.place) × (new ≡ old)

-- ---- a refusal

pub line_fits : (k place : ℕ) → length (printed (refused k place)) ≤ 45
unfolding printed
line_fits k place = no_short k place

-- ---- a report

unfoldable pub report_of : (q site : List ℕ) → Opened → Sized → (labels words steps : List ℕ) → List ℕ
report_of q site o m labels words steps =
    head_of (said_by site labels) q o.sig o.n m.atoms m.actions m.bound words ++ (flat_map step_line steps ++ print_line (bytes "ok" ∷ decimal (length steps) ∷ []))

-- what the report asks: sound relations with short names, few elements, their labels in the site's text, words for every `choose`, few
-- picks and few steps
pub record Reportable (q site : List ℕ) (o : Opened) (labels words steps : List ℕ) : Type 0 where
  pub sound : SoundSignature q o.sig
  pub spans : Spans site labels o.n
  pub some_elements : 1 ≤ o.n
  pub few_elements : o.n ≤ 16
  pub named : (j : ℕ) → j < o.sig.chosen → length (name_at q o.sig (o.sig.rels + j)) ≤ 12
  pub words_fit : 64 * o.sig.chosen ≤ length words
  pub few_picks : length (picks (said_by site labels) q o.sig o.n words) ≤ 57 * 2340
  pub few_steps : length steps ≤ 8192

module _ (q site : List ℕ) (o : Opened) (m : Sized) (labels words steps : List ℕ) (R : Reportable q site o labels words steps) where
  abbrev head : List ℕ
  head = head_of (said_by site labels) q o.sig o.n m.atoms m.actions m.bound words

  abbrev ok_line : List ℕ
  ok_line = print_line (bytes "ok" ∷ decimal (length steps) ∷ [])

  head_long : length head ≤ 133630
  head_long = omega (arith, head_short (said_by site labels) q o.sig o.n m.atoms m.actions m.bound words R.sound R.named, R.few_picks)

  pub head_fits : length head ≤ 573952
  head_fits = omega (arith, head_long)

  -- printed part by part: once the head is, the steps are left, and then their count
  module _ (u : (i : ℕ) → get_or steps i 0 < 2 ^ 32) (old new : List ℕ) (place : ℕ) (room : 573952 ≤ length old) (headed : Prints head old 0 new place) where
    report_fits : length (report_of q site o m labels words steps) ≤ length old
    unfolding report_of
    report_fits =
        let c = length-append head (flat_map step_line steps ++ ok_line) in
        let d = length-append (flat_map step_line steps) ok_line in
        omega (arith, head_long, ok_short (length steps), R.few_steps, steps_short steps u)

    steps_left : Left (report_of q site o m labels words steps) old 0 (flat_map step_line (take (length steps) steps) ++ ok_line) new place
    unfolding report_of
    steps_left =
        let e : flat_map step_line steps ++ ok_line ≡ flat_map step_line (take (length steps) steps) ++ ok_line = rw (take-length steps) refl in
        recut e (next head (flat_map step_line steps ++ ok_line) (begin {at = 0} old refl (omega (arith, report_fits))) headed)

    pub steps_room : place + length (flat_map step_line (take (length steps) steps)) ≤ length new
    steps_room = room_for (flat_map step_line (take (length steps) steps)) ok_line steps_left

    module _ (more : List ℕ) (after : ℕ) (listed : Prints (flat_map step_line (take (length steps) steps)) new place more after) where
      count_left : Left (report_of q site o m labels words steps) old 0 ok_line more after
      count_left = next (flat_map step_line (take (length steps) steps)) ok_line steps_left listed

      -- for any number, so that only the text decides which one is printed
      pub count_room : (k : ℕ) → after + length (print_line (bytes "ok" ∷ decimal k ∷ [])) ≤ length more
      count_room k =
          let e = ap (λ (ks : List ℕ). length (flat_map step_line ks)) (take-length steps) in
          omega (arith, ok_short k, head_long, headed.place, R.few_steps, steps_short steps u, listed.place, left_length count_left)

      pub reported : (last : List ℕ) (r : ℕ) → Prints ok_line more after last r → Replies (report_of q site o m labels words steps) old last r
      reported last r counted = replies (report_of q site o m labels words steps) old last r report_fits (finish ok_line count_left counted)
