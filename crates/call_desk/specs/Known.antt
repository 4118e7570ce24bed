-- A case that was read: what its signature says of its problem, its labels, and its problem by the table. Assumes nothing.
use Rattle.std.specs.Prelude.{ℕ, ◌*◌, ◌≤◌, ◌≡◌, refl, List, ◌++◌, length, Ok}
use Rattle.std.proofs.Common.{sym, subst, ◌∙◌, arith}
use Rattle.std.proofs.Math.Nat.{pow-le-pow_left}
use Rattle.definitions.specs.Limits.{CaseLimits, early}
use Rattle.definitions.specs.Refusal.{Result, accepted}
use Rattle.definitions.specs.Sheet.Relations.{Tuple}
use Rattle.definitions.specs.Problem.Truth.{Case}
use Rattle.definitions.specs.Problem.Atoms.{problem_of, words_for}
use Rattle.definitions.specs.Reply.Outcome.{CaseRead, read_filed, state_length, pick_words, Plan}
use Rattle.definitions.specs.Reply.Desk.{printed}
use Rattle.meaning.specs.Grounded.{good}
use Rattle.laws.specs.Labels.{LabelsFit}
use Rattle.bits.specs.Table.{bit}
use Rattle.read_tuples.specs.Labels.{LabelsAre}
use Rattle.read_sheets.specs.Reading.{PicksRoom}
use Rattle.read_sheets.specs.Opening.{elements_are}
use Rattle.read_sheets.proofs.Turns.{picks_room_lem}
use Rattle.open_case.specs.declared.Front.{Front}
use Rattle.problem_of_case.specs.declared.Sized.{Sized}
use Rattle.open_case.specs.Fronts.{Filed, Held}
use Rattle.open_case.specs.Known.{tabled, words_are, atoms_few}
use Rattle.read_names.specs.declared.Signature.{Signature}
use Rattle.print_report.specs.Report.{head_of}
use Rattle.print_report.specs.Agrees.{Agrees}
use Rattle.print_report.specs.Said.{said_so, spans}
use Rattle.print_report.specs.Answers.{report_is, picks_short}
use Rattle.print_report.specs.Words.{words_agree}
use Rattle.print_report.specs.Opened.{its_relations, its_names}
use Rattle.step_picks.specs.Picked.{chosen_numbers_lem}
use Rattle.call_desk.specs.Replied.{Reportable, report_of}

-- the limits of the desk program
abbrev pub own : CaseLimits
own = early

-- the case that was read from the question and the site, and its labels
pub record Known (question site : List ℕ) (f : Front) (labels facts table : List ℕ) : Type 0 where
  pub filed : CaseRead
  pub is_read : read_filed own question site ≡ accepted filed
  pub held : Held own question filed.case f facts table
  pub labelled : LabelsAre site labels f.o.n filed.labels

pub case_known : (question site : List ℕ) (f : Front) (labels facts table : List ℕ) → Filed own question site (Ok f) labels facts table → Known question site f labels facts table
case_known question site f labels facts table (c, e, h, l) =
    record { filed = c; is_read = e; held = h; labelled = l }

head_as : (say : ℕ → List ℕ) (q : List ℕ) (g : Signature) (n atoms atoms' actions actions' bound bound' : ℕ) (words rest : List ℕ) → atoms' ≡ atoms → actions' ≡ actions → bound' ≡ bound
    → head_of say q g n atoms actions bound words ++ rest ≡ head_of say q g n atoms' actions' bound' words ++ rest
head_as say q g n atoms atoms' actions actions' bound bound' words rest a b c = rw (a, b, c) refl

module _ (q site : List ℕ) (f : Front) (labels facts table : List ℕ) (K : Known q site f labels facts table) where
  abbrev c : Case
  c = K.filed.case

  pub labels_fit : LabelsFit c.site.size K.filed.labels
  labels_fit = subst (λ (n : ℕ). LabelsFit n K.filed.labels) K.held.holds.size K.labelled.fit

  -- 256 words are enough for the picks of four relations of three places over 16 elements
  pub picks_roomy : (room : ℕ) → 256 ≤ room → PicksRoom f.o.sig f.o.n room
  unfolding words_for
  picks_roomy room h = picks_room_lem q f.o.sig K.held.holds.sound f.o.n room (let e = pow-le-pow_left K.held.within 3 in omega arith)

  -- ---- the report

  -- words that begin with those of picks are reported as those picks
  pub front_agrees : (F : List Tuple) (words rest : List ℕ) → words ≡ pick_words (problem_of c) F ++ rest → Agrees (problem_of c) F q f.o.sig f.o.n words
  front_agrees F words rest e =
      let h = K.held.holds in
      subst (Agrees (problem_of c) F q f.o.sig f.o.n) (sym e)
      (words_agree (problem_of c) F q f.o.sig f.o.n h.sound.every_le (sym (elements_are q c f.o (bit facts) h)) (its_relations q f.o.sig c h.rels h.chosen h.every)
      (chosen_numbers_lem q c K.held.accepts f.o (bit facts) h) rest)

  -- the report of a plan, by the tables of its problem
  pub report_as : (F : List Tuple) (ks words : List ℕ) → Agrees (problem_of c) F q f.o.sig f.o.n words → (m : Sized) → f.m ≡ Ok m
      → (x : Result Plan) → x ≡ accepted (record { labels = K.filed.labels; problem = problem_of c; picks = F; steps = ks }) → printed x ≡ report_of q site f.o m labels words ks
  unfolding report_of
  report_as F ks words A m v x e =
      let t = tabled own c f.m table K.held.grounded m v in
      let s = said_so site labels f.o.n K.filed.labels K.labelled in
      report_is K.filed.labels (problem_of c) F ks _ q f.o.sig f.o.n words s A x e ∙ head_as _ q f.o.sig f.o.n _ _ _ _ _ _ words _ t.atoms_are t.actions_are t.bound_is

  pub reportable : (F : List Tuple) (words steps : List ℕ) → Agrees (problem_of c) F q f.o.sig f.o.n words → 7 * length F ≤ 16384 → 256 ≤ length words → length steps ≤ 8192
      → Reportable q site f.o labels words steps
  reportable F words steps A few h l =
      let g = K.held.holds in
      let named = its_names q f.o.sig c g.rels g.chosen K.held.accepts in
      let s = said_so site labels f.o.n K.filed.labels K.labelled in
      record {
        sound = g.sound;
        spans = spans site labels f.o.n K.filed.labels K.labelled g.few_elements;
        some_elements = g.some_elements;
        few_elements = K.held.within;
        named = named;
        words_fit = omega (arith, g.sound.chosen_le);
        few_picks = omega (arith, picks_short K.filed.labels (problem_of c) F q f.o.sig f.o.n words A K.labelled.fit g.sound g.some_elements K.held.within named (good c K.held.accepts) _ s);
        few_steps = l;
      }

  -- ---- its problem: the program's state has room for the atoms

  pub few_atoms : (m : Sized) → f.m ≡ Ok m → m.atoms ≤ 65536
  few_atoms m v = atoms_few own c f.m table K.held.grounded m v

  pub state_fits : (m : Sized) → f.m ≡ Ok m → state_length (problem_of c) ≤ 1024
  state_fits m v = let e = words_are own c f.m table K.held.grounded m v in let h = few_atoms m v in omega arith
