-- What the calls answer and leave, by what was opened: the case is refused, the picks' text is, or steps are built from words.
use Rattle.std.specs.Prelude.{ℕ, ◌+◌, ◌*◌, ◌^◌, ◌≤◌, ◌≡◌, List, Ok, Err}
use Rattle.std.specs.Prelude as P
use Rattle.std.proofs.Math.Path.{sym}
use Rattle.std.proofs.Common.{subst, ◌∙◌}
use Rattle.std.proofs.Math.ListN.{length}
use Rattle.definitions.specs.Limits.{CaseLimits}
use Rattle.definitions.specs.Refusal.{refused}
use Rattle.definitions.specs.Sheet.Sheets.{Label, read_picks}
use Rattle.definitions.specs.Problem.Atoms.{words_for}
use Rattle.definitions.specs.Reply.Outcome.{ThirdInput, read_case, as_text, as_numbers}
use Rattle.laws.specs.Asked as Order
use Rattle.laws.specs.Labels.{LabelsFit}
use Rattle.read_tuples.specs.Labels.{LabelsAre}
use Rattle.bits.specs.Table.{bit}
use Rattle.read_names.specs.Signatures.{chosen_of}
use Rattle.read_sheets.specs.Reading.{PicksRead, PicksRoom}
use Rattle.refusal.specs.declared.Refusal.{Refusal}
use Rattle.refusal.specs.Numbers.{number_of}
use Rattle.problem_of_case.specs.declared.Sized.{Sized}
use Rattle.open_case.specs.declared.Front.{Front}
use Rattle.std.proofs.Common.{arith}
use Rattle.std.specs.Prelude.{false}
use Rattle.open_case.specs.Fronts.{Fronted, Filed, ReadyFront, front_ready, filed_alone}
use Rattle.open_case.specs.Known.{atoms_few}
use Rattle.open_case.specs.Elements.{picks_enough}
use Rattle.open_case.specs.Replies.{Reply}
use Rattle.step_picks.specs.Picked.{text_read}
use Rattle.step_picks.specs.Handed.{text_handed, lent_handed}
use Rattle.call_build.specs.Builds.{Answers, FromWords, ends}

pub call_case : (L : CaseLimits) (question site : List ℕ) (picks : ThirdInput) (state steps : List ℕ) → (e : Refusal) → read_case L question site ≡ refused (number_of e.cause) e.place
    → Answers L question site picks state steps (Err e) state steps
call_case L question site picks state steps e h = ends L question site picks state steps e (Order.case_refused L question site _ _ _ _ _ _ h)

module _ (L : CaseLimits) (question site : List ℕ) (f : Front) (facts table : List ℕ) (front : Fronted L question site (Ok f) facts table) where
  -- so many atoms at the most
  pub few_atoms : (m : Sized) → f.m ≡ Ok m → m.atoms ≤ L.atoms
  few_atoms m o = let (c, e, h) = front in atoms_few L c f.m table h.grounded m o

  -- words for the picks of every text
  pub picks_asked : (most room : ℕ) → f.o.n ≤ most → 4 * words_for (most ^ 3) ≤ room → PicksRoom f.o.sig f.o.n room
  picks_asked most room n l = let (c, e, h) = front in picks_enough question c f.o (bit facts) h.holds most room n l

  -- at most as many elements
  pub few_elements : f.o.n ≤ L.elements
  few_elements = let (c, e, h) = front in h.within

  -- picks as words
  pub call_lent : L.actions ≤ 2 ^ 32 → (words state steps : List ℕ) (r : Reply) (state' steps' : List ℕ) → FromWords f facts table words state steps r state' steps' → Answers L question site (as_numbers words) state steps r state' steps'
  call_lent few words state steps r state' steps' b =
      let (c, ec, h) = front in
      let (labels, e) = Order.case_filed L question site c ec in
      b.builds L few question site (as_numbers words) (record { case = c; labels = labels }) e h _ _ (lent_handed c h.accepts labels words b.fit)

-- picks as a text, by the labels
module _ (L : CaseLimits) (question site : List ℕ) (f : Front) (labels facts table : List ℕ) (filed : Filed L question site (Ok f) labels facts table) where
  pub labels_said : (ls : List Label) × LabelsAre site labels f.o.n ls
  labels_said = let (x, e, h, l) = filed in (x.labels, l)

  -- what building from a text asks, once words for the picks are lent
  pub listed_asks : L.atoms ≤ 1048576 → L.actions ≤ 8388608 → (words : List ℕ) → 4 * words_for (f.o.n ^ 3) ≤ length words → bit words ≡ (λ i. false) → (lent : List ℕ) → lent ≡ words
      → (ReadyFront question f facts table × ((m : Sized) → f.m ≡ Ok m → m.atoms ≤ 1048576) × ((ls : List Label) × LabelsAre site labels f.o.n ls)) × (PicksRoom f.o.sig f.o.n (length lent) × (bit lent ≡ λ i. false))
  listed_asks a b words room clear lent e =
      let (x, ex, h, l) = filed in
      let opens = filed_alone L question site (Ok f) labels facts table filed in (
        (front_ready L question site f facts table opens a b, (λ m o. let k = few_atoms L question site f facts table opens m o in omega arith), labels_said),
        subst (λ (w : List ℕ). PicksRoom f.o.sig f.o.n (length w) × (bit w ≡ λ i. false)) (sym e) (picks_enough question x.case f.o (bit facts) h.holds f.o.n (length words) (omega arith) room, clear),
      )

  module _ (text state steps words : List ℕ) where
    -- the text was read so
    abbrev Taken : P.Result ℕ Refusal → Type 0
    Taken a = (ls : List Label) → LabelsAre site labels f.o.n ls → PicksRead f.o.sig f.o.n (read_picks (chosen_of question f.o.sig) (5 + f.o.sig.rels) f.o.n ls text) a (bit words)

    pub call_text_refused : (e : Refusal) → Taken (Err e) → Answers L question site (as_text text) state steps (Err e) state steps
    call_text_refused e read =
        let (x, ex, h, l) = filed in
        let t = sym (text_read question x.case h.accepts f.o (bit facts) h.holds x.labels text) ∙ (read x.labels l).0 in
        ends L question site (as_text text) state steps e (Order.third_refused L question site _ _ _ _ x ex _ _ t)

    pub call_text : L.actions ≤ 2 ^ 32 → (k : ℕ) → Taken (Ok k) → (room : ℕ) → length words ≡ room → PicksRoom f.o.sig f.o.n room
        → (r : Reply) (state' steps' : List ℕ) → FromWords f facts table words state steps r state' steps' → Answers L question site (as_text text) state steps r state' steps'
    call_text few k read room m enough r state' steps' b =
        let (x, ex, h, l) = filed in
        let (F, g, n, are) = read x.labels l in
        let t = sym (text_read question x.case h.accepts f.o (bit facts) h.holds x.labels text) ∙ g in
        let fit = subst (λ (n : ℕ). LabelsFit n x.labels) h.holds.size l.fit in
        b.builds L few question site (as_text text) x ex h F F
        (text_handed question x.case h.accepts f.o (bit facts) h.holds x.labels fit text F t words b.fit (subst (λ (n : ℕ). PicksRoom f.o.sig f.o.n n) (sym m) enough) k (read x.labels l))
