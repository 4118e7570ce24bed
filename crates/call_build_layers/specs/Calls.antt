-- What the calls answer and leave, by what was opened: the case is refused, the picks' text is, or layers are built from words.
use Rattle.std.specs.Prelude.{ℕ, ◌+◌, ◌≤◌, Bool, ◌≡◌, List, Ok, Err}
use Rattle.std.specs.Prelude as P
use Rattle.std.proofs.Math.Path.{sym}
use Rattle.std.proofs.Common.{subst, ◌∙◌}
use Rattle.std.proofs.Math.ListN.{length}
use Rattle.definitions.specs.Limits.{CaseLimits}
use Rattle.definitions.specs.Refusal.{refused}
use Rattle.definitions.specs.Sheet.Sheets.{Label, read_picks}
use Rattle.definitions.specs.Problem.Truth.{Case}
use Rattle.definitions.specs.Problem.Atoms.{problem_of}
use Rattle.definitions.specs.Reply.Outcome.{ThirdInput, read_case, as_text, as_numbers}
use Rattle.definitions.specs.Reply.Layers.{case_window}
use Rattle.laws.specs.Asked as Order
use Rattle.laws.specs.Labels.{LabelsFit}
use Rattle.laws.specs.Reader.{Accepted}
use Rattle.read_tuples.specs.Labels.{LabelsAre}
use Rattle.bits.specs.Table.{bit}
use Rattle.read_names.specs.Signatures.{chosen_of}
use Rattle.refusal.specs.declared.Refusal.{Refusal}
use Rattle.refusal.specs.Numbers.{number_of}
use Rattle.read_sheets.specs.declared.Opened.{Opened}
use Rattle.read_sheets.specs.Opening.{Holds}
use Rattle.read_sheets.specs.Reading.{PicksRead, PicksRoom}
use Rattle.open_case.specs.declared.Front.{Front}
use Rattle.open_case.specs.Fronts.{Fronted, Filed}
use Rattle.open_case.specs.Replies.{Reply}
use Rattle.step_picks.specs.Picked.{text_read}
use Rattle.step_picks.specs.Handed.{text_handed, lent_handed}
use Rattle.call_build_layers.specs.Builds.{Answers, FromWords, stops}

-- a number is the most layers of whatever case was read
abbrev pub IsUpper : (question : List ℕ) → Opened → ℕ → Type 0
IsUpper question o upper = (c : Case) (facts : ℕ → Bool) → Accepted c → Holds question c o facts → upper ≡ (case_window (problem_of c)).upper

pub call_case : (L : CaseLimits) (question site : List ℕ) (picks : ThirdInput) (state steps ends : List ℕ) → (e : Refusal) → read_case L question site ≡ refused (number_of e.cause) e.place
    → Answers L question site picks state steps ends (Err e) state steps ends
call_case L question site picks state steps ends e h = stops L question site picks state steps ends e (Order.case_refused L question site _ _ _ _ _ _ h)

-- picks as words
pub call_lent : (L : CaseLimits) (question site : List ℕ) (f : Front) (facts table : List ℕ) → Fronted L question site (Ok f) facts table → L.actions ≤ 4194304
    → (words state steps ends : List ℕ) (upper : ℕ) → IsUpper question f.o upper → (r : Reply) (state' steps' ends' : List ℕ)
    → FromWords f upper facts table words state steps ends r state' steps' ends' → Answers L question site (as_numbers words) state steps ends r state' steps' ends'
call_lent L question site f facts table (c, ec, h) few words state steps ends upper most r state' steps' ends' b =
    let (labels, e) = Order.case_filed L question site c ec in
    b.builds L few question site (as_numbers words) (record { case = c; labels = labels }) e h (most c (bit facts) h.accepts h.holds) _ _
    (lent_handed c h.accepts labels words b.fit)

-- picks as a text, by the labels
module _ (L : CaseLimits) (question site : List ℕ) (f : Front) (labels facts table : List ℕ) (filed : Filed L question site (Ok f) labels facts table) (text state steps ends words : List ℕ) where
  -- the text was read so
  abbrev Taken : P.Result ℕ Refusal → Type 0
  Taken a = (ls : List Label) → LabelsAre site labels f.o.n ls → PicksRead f.o.sig f.o.n (read_picks (chosen_of question f.o.sig) (5 + f.o.sig.rels) f.o.n ls text) a (bit words)

  pub call_text_refused : (e : Refusal) → Taken (Err e) → Answers L question site (as_text text) state steps ends (Err e) state steps ends
  call_text_refused e read =
      let (x, ex, h, l) = filed in
      let t = sym (text_read question x.case h.accepts f.o (bit facts) h.holds x.labels text) ∙ (read x.labels l).0 in
      stops L question site (as_text text) state steps ends e (Order.third_refused L question site _ _ _ _ x ex _ _ t)

  pub call_text : L.actions ≤ 4194304 → (k : ℕ) → Taken (Ok k) → (room : ℕ) → length words ≡ room → PicksRoom f.o.sig f.o.n room → (upper : ℕ) → IsUpper question f.o upper
      → (r : Reply) (state' steps' ends' : List ℕ) → FromWords f upper facts table words state steps ends r state' steps' ends'
      → Answers L question site (as_text text) state steps ends r state' steps' ends'
  call_text few k read room m enough upper most r state' steps' ends' b =
      let (x, ex, h, l) = filed in
      let (F, g, n, are) = read x.labels l in
      let t = sym (text_read question x.case h.accepts f.o (bit facts) h.holds x.labels text) ∙ g in
      let fit = subst (λ (n : ℕ). LabelsFit n x.labels) h.holds.size l.fit in
      b.builds L few question site (as_text text) x ex h (most x.case (bit facts) h.accepts h.holds) F F
      (text_handed question x.case h.accepts f.o (bit facts) h.holds x.labels fit text F t words b.fit
      (subst (λ (n : ℕ). PicksRoom f.o.sig f.o.n n) (sym m) enough) k (read x.labels l))
