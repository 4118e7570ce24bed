-- What the calls answer, by what was read: the case is refused, the picks' text is, or words are judged.
use Rattle.std.specs.Prelude.{ℕ, ◌+◌, ◌*◌, ◌^◌, ◌≤◌, ◌≡◌, Bool, List}
use Rattle.std.proofs.Math.Path.{sym}
use Rattle.std.proofs.Common.{subst, ◌∙◌, arith}
use Rattle.std.proofs.Math.ListN.{length}
use Rattle.definitions.specs.Limits.{usual}
use Rattle.definitions.specs.Refusal.{refused, accepted}
use Rattle.definitions.specs.Sheet.Sheets.{Label, read_picks}
use Rattle.definitions.specs.Problem.Truth.{Case}
use Rattle.definitions.specs.Problem.Atoms.{words_for}
use Rattle.definitions.specs.Reply.Outcome.{CaseRead as Filed, ThirdInput, as_text, as_numbers, read_filed, read_case}
use Rattle.definitions.specs.Reply.Judgement.{judge}
use Rattle.laws.specs.Asked as Order
use Rattle.laws.specs.Labels.{LabelsFit}
use Rattle.read_tuples.specs.Labels.{LabelsAre}
use Rattle.laws.specs.Reader.{Accepted, gives_if, case_fits}
use Rattle.bits.specs.Table.{bit}
use Rattle.read_names.specs.Signatures.{chosen_of}
use Rattle.read_sheets.specs.Reading.{PicksRead, PicksRoom}
use Rattle.read_sheets.specs.declared.Opened.{Opened}
use Rattle.read_sheets.specs.Opening.{CaseRead, FiledRead}
use Rattle.refusal.specs.declared.Refusal.{Refusal}
use Rattle.refusal.specs.Numbers.{number_of}
use Rattle.std.specs.Prelude.{Ok, Err}
use Rattle.open_case.specs.Elements.{picks_enough}
use Rattle.open_case.specs.Replies.{Reply, result_of}
use Rattle.step_picks.specs.Picked.{text_read}
use Rattle.step_picks.specs.Handed.{text_handed, lent_handed}
use Rattle.call_judge.specs.Judges.{AcceptedIn, FromWords, ends}

module _ (question site : List ℕ) where
  pub call_case : (picks : ThirdInput) (e : Refusal) → read_case usual question site ≡ refused (number_of e.cause) e.place → result_of (Err e) ≡ judge usual question site picks
  call_case picks e h = ends usual question site picks e (Order.case_refused usual question site _ _ _ _ (number_of e.cause) e.place h)

module _ (question site : List ℕ) (o : Opened) (facts : ℕ → Bool) (read : CaseRead question (read_case usual question site) (Ok o) facts) where
  pub accepted_in : AcceptedIn question o facts
  accepted_in =
      let (c, e, h) = read in
      record { case = c; accepted_case = accepts c e; holds = h }
    where
      accepts : (c : Case) → read_case usual question site ≡ accepted c → Accepted c
      accepts c e = gives_if Accepted (read_case usual question site) c e (case_fits usual (omega arith) question site)

  -- words for the picks of every text
  pub picks_asked : (most room : ℕ) → o.n ≤ most → 4 * words_for (most ^ 3) ≤ room → PicksRoom o.sig o.n room
  picks_asked most room n l = let (c, e, h) = read in picks_enough question c o facts h most room n l

  -- at most as many elements
  pub few_elements : o.n ≤ 64
  few_elements = let (c, e, h) = read in h.few_elements

  -- picks as words
  pub call_lent : (words : List ℕ) (r : Reply) → FromWords question o facts words r → result_of r ≡ judge usual question site (as_numbers words)
  call_lent words r b =
      let (c, e, h) = read in
      let A = gives_if Accepted (read_case usual question site) c e (case_fits usual (omega arith) question site) in
      let (labels, f) = Order.case_filed usual question site c e in
      b.judges site (as_numbers words) (record { case = c; labels = labels }) f h A _ _ (lent_handed c A labels words b.fit)

-- picks as a text, by the labels
module _ (question site : List ℕ) (o : Opened) (labels : List ℕ) (facts : ℕ → Bool) (filed : FiledRead question site (read_filed usual question site) (Ok o) labels facts) where
  pub labels_said : (ls : List Label) × LabelsAre site labels o.n ls
  labels_said = let (x, e, h, l) = filed in (x.labels, l)

  accepts : (x : Filed) → read_filed usual question site ≡ accepted x → Accepted x.case
  accepts x e = gives_if Accepted (read_case usual question site) x.case (Order.filed_case usual question site x e) (case_fits usual (omega arith) question site)

  module _ (text words : List ℕ) where
    pub call_text_refused : (e : Refusal) → ((ls : List Label) → LabelsAre site labels o.n ls → PicksRead o.sig o.n (read_picks (chosen_of question o.sig) (5 + o.sig.rels) o.n ls text) (Err e) (bit words))
        → result_of (Err e) ≡ judge usual question site (as_text text)
    call_text_refused e read =
        let (x, f, h, l) = filed in
        let t = sym (text_read question x.case (accepts x f) o facts h x.labels text) ∙ (read x.labels l).0 in
        ends usual question site (as_text text) e (Order.third_refused usual question site _ _ _ _ x f (number_of e.cause) e.place t)

    pub call_text : (k : ℕ) → ((ls : List Label) → LabelsAre site labels o.n ls → PicksRead o.sig o.n (read_picks (chosen_of question o.sig) (5 + o.sig.rels) o.n ls text) (Ok k) (bit words))
        → (room : ℕ) → length words ≡ room → PicksRoom o.sig o.n room → (r : Reply) → FromWords question o facts words r → result_of r ≡ judge usual question site (as_text text)
    call_text k read room m enough r b =
        let (x, e, h, l) = filed in
        let (F, f, _, _) = read x.labels l in
        let t = sym (text_read question x.case (accepts x e) o facts h x.labels text) ∙ f in
        let fit = subst (λ (n : ℕ). LabelsFit n x.labels) h.size l.fit in
        b.judges site (as_text text) x e h (accepts x e) F F
        (text_handed question x.case (accepts x e) o facts h x.labels fit text F t words b.fit (subst (λ (n : ℕ). PicksRoom o.sig o.n n) (sym m) enough) k (read x.labels l))
