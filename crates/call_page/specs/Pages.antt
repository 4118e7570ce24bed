-- What laying out a page of steps answers and leaves: of a problem, and of the texts. Assumes nothing.
use Prim.Native.Nat.{ℕ, zero, suc, ◌+◌, ◌-◌, ◌*◌, ◌/◌, ◌^◌, ◌≤◌, ◌<◌}
use Rattle.std.specs.Prelude.{◌≡◌, ◌⊎◌, Bool, ◌&&◌, get_or, Ok, Err}
use Rattle.std.proofs.Math.Path.{refl, sym, ap₂}
use Rattle.std.proofs.Common.{ap, subst, ◌∙◌, inl, inr}
use Rattle.std.proofs.Math.Logic.{⊎_elim}
use Rattle.std.proofs.Math.Bool.{true, false}
use Rattle.std.proofs.Math.Option.{some}
use mathlib.Core.List.{List, [], ◌++◌}
use native.Mathlib.Omega.{arith}
use Rattle.std.proofs.Math.Dec.{leb}
use Rattle.std.proofs.Math.ListN.{length, drop}
use Rattle.std.proofs.Math.Seq.{slice, length-slice}
use borrow.Author.Tests.{leb-true, leb-false, le-leb, lt-leb}
use Rattle.definitions.specs.Limits.{usual}
use Rattle.definitions.specs.Refusal.{Result, refused, accepted, ◌>>=◌, refuse_if}
use Rattle.definitions.specs.Sheet.Text.{is_between}
use Rattle.definitions.specs.Sheet.Sheets.{Label}
use Rattle.definitions.specs.Problem.Atoms.{Problem, problem_of, atoms, state_words, words_for}
use Rattle.definitions.specs.Problem.Actions.{Action, action_at}
use Rattle.definitions.specs.Problem.Strips.{run}
use Rattle.definitions.specs.Reply.Outcome.{ThirdInput, take_steps, read_filed, Ready, ready_to_run, room_for, state_length, written}
use Rattle.definitions.specs.Reply.Desk.{said}
use Rattle.definitions.specs.Reply.Page.{lines_of, pages, page_text, page_of, laid, page_if_laid, paged_from, page_rooms, lay_page}
use Rattle.laws.specs.Asked as Order
use Rattle.laws.specs.Spelling.{said_short}
use Rattle.laws.specs.Words.{state_length_lem}
use Rattle.laws.specs.Pages.{Shown, lines_at, lines_long, page_length}
use Rattle.meaning.specs.Means.{Good}
use Rattle.meaning.specs.Grounded.{good}
use Rattle.meaning.specs.Shown.{taken_few, ready_shown, ready_pages}
use Rattle.bits.specs.Table.{bit}
use Rattle.read_names.specs.declared.Signature.{Signature}
use Rattle.read_names.specs.Signatures.{SoundSignature}
use Rattle.read_tuples.specs.Labels.{LabelsAre}
use Rattle.read_sheets.specs.Opening.{elements_are}
use Rattle.problem_table.specs.Lines.{size_in}
use Rattle.problem_table.specs.Of.{Is}
use Rattle.problem_action.specs.Decoded.{Grounded}
use Rattle.problem_of_case.specs.Grounds.{Tabled}
use Rattle.step_start.specs.Rows.{atoms_in}
use Rattle.step_start.specs.Initial.{FactsIn}
use Rattle.step_run.specs.declared.End.{End}
use Rattle.step_run.specs.Ended.{ended}
use Rattle.step_run.specs.Checks.{Runs}
use Rattle.print_line.specs.Lines.{Spans, spelled, said_by}
use Rattle.print_report.specs.Said.{said_so, spans}
use Rattle.print_units.specs.Units.{Short}
use Rattle.print_page.specs.Elements.{NamesAre}
use Rattle.print_page.specs.Bodies.{Before, Finds}
use Rattle.print_page.specs.Naming.{Named, names_are}
use Rattle.call_page.specs.Narrow.{Taken, OneEach, Narrow, all_taken, one_each, two_bytes, jumps_here, jumps_past}
use Rattle.open_case.specs.declared.Front.{Front}
use Rattle.refusal.specs.declared.Refusal.{Refusal}
use Rattle.refusal.specs.declared.Cause.TheVariants.{NoAction, ShortBuffer}
use Rattle.refusal.specs.Numbers.{number_of}
use Rattle.problem_of_case.specs.declared.Sized.{Sized}
use Rattle.open_case.specs.Fronts.{Filed, filed_alone}
use Rattle.open_case.specs.Known.{facts_held, case_over, grounds, tabled, table_is, atoms_few, words_are, words_fit, room_short, room_there}
use Rattle.open_case.specs.Replies.{Reply, result_of}

-- what a page is printed by: the signature that has the names, the labels and the table
pub record Printable (question site labels table : List ℕ) (g : Signature) : Type 0 where
  pub sound : SoundSignature question g
  pub grounded : Grounded table
  pub short : Short site labels (size_in table)

-- they are those of a problem and its labels, of which the steps have few pages
pub record Paper (question site labels table : List ℕ) (g : Signature) (steps : List ℕ) (p : Problem) (ls : List Label) : Type 0 where
  pub is : Is p table
  pub named : (names : List ℕ) → Named g.from g.to g.arity (g.rels + g.chosen + g.every) names → NamesAre p question names
  pub says : said_by site labels ≡ said ls
  pub shown : (j : ℕ) (a : Action) → action_at p j ≡ some a → Shown ls p j a
  pub good : Good p
  pub few_elements : p.size ≤ 64
  pub few_steps : length steps ≤ 10 ^ 7
  pub few_pages : pages (lines_of ls p steps) < 10 ^ 6

-- ---- one page of lines
abbrev pub PageLaid : (lines : List (List ℕ)) (m : ℕ) (old : List ℕ) → Reply → List ℕ → Type 0
PageLaid lines m old r new = (result_of r ≡ (page_of lines m >>= λ text. accepted (length text))) × (new ≡ page_if_laid (page_of lines m) old)

module _ (lines : List (List ℕ)) (m : ℕ) where
  no_text : (m < 1) ⊎ (pages lines < m) → page_of lines m ≡ refused 13 m
  unfolding page_of is_between refuse_if ◌>>=◌
  no_text h = let e : (leb 1 m && leb m (pages lines)) ≡ false = ⊎_elim (λ l. rw (lt-leb 1 m l) refl) (λ l. by_test (leb 1 m) (lt-leb m (pages lines) l)) h in rw e refl
    where
      by_test : (b : Bool) → leb m (pages lines) ≡ false → (b && leb m (pages lines)) ≡ false
      by_test true e = e
      by_test false e = refl

  a_text : 1 ≤ m → m ≤ pages lines → page_of lines m ≡ accepted (page_text lines (m - 1))
  unfolding page_of is_between refuse_if ◌>>=◌
  a_text a b = rw (le-leb 1 m a, le-leb m (pages lines) b) refl

  no_page : (m < 1) ⊎ (pages lines < m) → (old : List ℕ) → PageLaid lines m old (Err (record { cause = NoAction; place = m })) old
  unfolding page_if_laid ◌>>=◌
  no_page h old = let e = no_text h in (rw e refl, rw e refl)

  a_page : 1 ≤ m → m ≤ pages lines → (bytes : ℕ) (old new : List ℕ) → bytes ≡ length (page_text lines (m - 1)) → new ≡ written (page_text lines (m - 1)) old → PageLaid lines m old (Ok bytes) new
  unfolding page_if_laid ◌>>=◌
  a_page a b bytes old new q w = let e = a_text a b in (rw e (ap accepted q), rw e w)

  -- a page is there exactly if the line is that would be its first
  past_pages : 0 < m → length lines ≤ 59 * (m - 1) → pages lines < m
  unfolding pages
  past_pages h l = omega arith

  in_pages : 0 < m → 59 * (m - 1) < length lines → m ≤ pages lines
  unfolding pages
  in_pages h l = omega arith

-- ---- which step has a line of a number, as long as every step has an action
unfoldable pub FoundBy : (site labels names table steps : List ℕ) (first index line : ℕ) → Type 0
FoundBy site labels names table steps first index line =
    (p : Problem) (ls : List Label) (q : List ℕ) → Is p table → NamesAre p q names → said_by site labels ≡ said ls → (Narrow labels (size_in table) → OneEach ls p steps) → Finds ls p steps first index line

module _ (site labels names table steps : List ℕ) (first : ℕ) where
  pub found_here : Narrow labels (size_in table) → first < length steps → FoundBy site labels names table steps first first first
  unfolding FoundBy
  found_here N h p ls q is named says one = jumps_here ls p steps (one N) first h

  pub found_past : Narrow labels (size_in table) → length steps ≤ first → FoundBy site labels names table steps first (length steps) (length steps)
  unfolding FoundBy
  found_past N h p ls q is named says one = jumps_past ls p steps (one N) first h

  -- where every step has one line, the least of the two
  pub found_least : Narrow labels (size_in table) → (i : ℕ) → (first < length steps → i ≡ first) → (length steps ≤ first → i ≡ length steps) → FoundBy site labels names table steps first i i
  found_least N i low high = by_test (leb (length steps) first) refl
    where
      by_test : (b : Bool) → leb (length steps) first ≡ b → FoundBy site labels names table steps first i i
      by_test true q = let h = leb-true (length steps) first q in subst (λ (k : ℕ). FoundBy site labels names table steps first k k) (sym (high h)) (found_past N h)
      by_test false q = let h = leb-false (length steps) first q in subst (λ (k : ℕ). FoundBy site labels names table steps first k k) (sym (low h)) (found_here N h)

  pub found_after : (index line : ℕ) → ((p : Problem) (ls : List Label) (q : List ℕ) → Is p table → NamesAre p q names → said_by site labels ≡ said ls → Finds ls p steps first index line) → FoundBy site labels names table steps first index line
  unfolding FoundBy
  found_after index line find p ls q is named says one = find p ls q is named says

-- ---- one page of steps that reach the goal
unfoldable pub PageOf : (question site labels table : List ℕ) (g : Signature) (steps : List ℕ) (m : ℕ) (old : List ℕ) → Reply → List ℕ → Type 0
PageOf question site labels table g steps m old r new = (p : Problem) (ls : List Label) → Printable question site labels table g → Paper question site labels table g steps p ls → Taken p steps → PageLaid (lines_of ls p steps) m old r new

module _ (question site labels table : List ℕ) (g : Signature) (steps : List ℕ) (m : ℕ) (old : List ℕ) where
  pub page_zero : m ≡ 0 → PageOf question site labels table g steps m old (Err (record { cause = NoAction; place = m })) old
  unfolding PageOf
  page_zero z p ls W P t = no_page (lines_of ls p steps) m (inl (omega arith)) old

  pub page_beyond : 1000000 < m → PageOf question site labels table g steps m old (Err (record { cause = NoAction; place = m })) old
  unfolding PageOf
  page_beyond h p ls W P t = no_page (lines_of ls p steps) m (inr (omega (arith, P.few_pages))) old

  -- by where its first line was found
  module _ (names : List ℕ) (N : Named g.from g.to g.arity (g.rels + g.chosen + g.every) names) (first index line : ℕ) (find : FoundBy site labels names table steps first index line) (h : 0 < m) (f : first ≡ 59 * (m - 1)) where
    found : (p : Problem) (ls : List Label) → Printable question site labels table g → Paper question site labels table g steps p ls → Taken p steps → Finds ls p steps first index line
    unfolding FoundBy
    found p ls W P t =
        find p ls question P.is (P.named names N) P.says
        (λ narrow. one_each p P.good ls (subst (λ (n : ℕ). (x : ℕ) → x < n → length (said ls x) ≤ 2) P.is.size (two_bytes site labels (size_in table) ls W.short (subst (λ (n : ℕ). n ≤ 64) (sym P.is.size) P.few_elements) narrow P.says)) P.shown steps t)

    pub page_missing : length steps ≤ index → PageOf question site labels table g steps m old (Err (record { cause = NoAction; place = m })) old
    unfolding PageOf
    page_missing l p ls W P t = let e = (found p ls W P t).not_there l in no_page (lines_of ls p steps) m (inr (past_pages (lines_of ls p steps) m h (omega arith))) old

    pub page_found : index < length steps → line ≤ first → (skip bytes : ℕ) (new : List ℕ) → skip ≡ first - line
        → ((p : Problem) (ls : List Label) → Is p table → NamesAre p question names → said_by site labels ≡ said ls → ((j : ℕ) (a : Action) → action_at p j ≡ some a → Shown ls p j a) → length steps ≤ 10 ^ 7 → skip ≤ length (lines_at ls p index (get_or steps index 0))
        → (line k : ℕ) → Before ls p steps index line → line + skip ≡ 59 * k → m ≡ suc k → suc k < 10 ^ 6 → (bytes ≡ 4380) × (new ≡ written (page_text (lines_of ls p steps) k) old))
        → PageOf question site labels table g steps m old (Ok bytes) new
    unfolding PageOf
    page_found l low skip bytes new s print p ls W P t =
        let F = found p ls W P t in
        let lines : List (List ℕ) = lines_of ls p steps in
        let b : m ≤ pages lines = in_pages lines m h (omega (arith, F.there l)) in
        let few : suc (m - 1) < 10 ^ 6 = omega (arith, P.few_pages) in
        let (e, w) = print p ls P.is (P.named names N) P.says P.shown P.few_steps (omega (arith, F.near l)) line (m - 1) F.before (omega arith) (omega arith) few in
        a_page lines m (omega arith) b bytes old new (e ∙ sym (page_length lines (lines_long ls p P.shown steps P.few_steps) (m - 1) few)) w

-- ---- of steps that are run: a step is refused, or the page is laid out
abbrev laid_of : List Label → Problem → List ℕ → ℕ → Result (List ℕ)
laid_of ls p steps m = (run p steps).answer >>= λ _. page_of (lines_of ls p steps) m

pub record LaidAfter (ls : List Label) (p : Problem) (steps : List ℕ) (m : ℕ) (old : List ℕ) (r : Reply) (newState new : List ℕ) : Type 0 where
  pub answer : result_of r ≡ (laid_of ls p steps m >>= λ text. accepted (length text))
  pub state_is : newState ≡ state_words p (run p steps).state
  pub page_is : new ≡ page_if_laid (laid_of ls p steps m) old

unfoldable pub PageAfter : (question site labels table : List ℕ) (g : Signature) (facts steps : List ℕ) (m : ℕ) (state old : List ℕ) → Reply → List ℕ → List ℕ → Type 0
PageAfter question site labels table g facts steps m state old r newState new =
    (p : Problem) (ls : List Label) → Printable question site labels table g → Paper question site labels table g steps p ls → atoms_in table ≡ atoms p → FactsIn p facts → length state ≡ state_length p → LaidAfter ls p steps m old r newState new

module _ (question site labels table : List ℕ) (g : Signature) (facts steps : List ℕ) (m : ℕ) (state old newState : List ℕ) (e : End) (runs : Runs table facts steps state e newState) where
  pub after_goal : (i : ℕ) → ended e ≡ accepted i → (r : Reply) (new : List ℕ) → PageOf question site labels table g steps m old r new → PageAfter question site labels table g facts steps m state old r newState new
  unfolding PageAfter PageOf Runs ◌>>=◌
  after_goal i q r new page p ls W P ends F l =
      let ran = runs p P.is ends F l in
      let a : accepted i ≡ (run p steps).answer = sym q ∙ ran.answer in
      let (b, w) = page p ls W P (all_taken p P.good steps i (sym a)) in
      record { answer = rw (sym a) b; state_is = ran.state; page_is = rw (sym a) w }

  pub after_refused : (x : Refusal) → ended e ≡ refused (number_of x.cause) x.place → PageAfter question site labels table g facts steps m state old (Err x) newState old
  unfolding PageAfter Runs page_if_laid ◌>>=◌
  after_refused x q p ls W P ends F l =
      let ran = runs p P.is ends F l in
      let a : refused (number_of x.cause) x.place ≡ (run p steps).answer = sym q ∙ ran.answer in
      record { answer = rw (sym a) refl; state_is = ran.state; page_is = rw (sym a) refl }

-- ---- of the texts
abbrev pub Paged : (question site : List ℕ) (given : ThirdInput) (m : ℕ) (state page : List ℕ) → Reply → List ℕ → List ℕ → Type 0
Paged question site given m state page r newState newPage =
    (result_of r ≡ (lay_page usual question site given m state page).answer)
    × ((newState ≡ (lay_page usual question site given m state page).state) × (newPage ≡ (lay_page usual question site given m state page).page))

-- the words of labels say short names
labels_short : (site labels : List ℕ) (n : ℕ) (ls : List Label) → LabelsAre site labels n ls → (x : ℕ) → get_or labels (2 * x + 1) 0 ≤ get_or labels (2 * x) 0 + 12
unfolding said_by spelled
labels_short site labels n ls L x = by_test (leb 64 x) refl
  where
    low : x < 64 → (to : ℕ) → get_or labels (2 * x + 1) 0 ≡ to → to ≤ get_or labels (2 * x) 0 + 12
    low h zero e = omega arith
    low h (suc to) e =
        let (a, b) = L.in_text x h in
        let s : said_by site labels x ≡ slice (get_or labels (2 * x) 0) (suc to) site = rw e refl in
        omega (arith, said_short n ls L.fit x h, ap length (sym (ap (λ (f : ℕ → List ℕ). f x) (said_so site labels n ls L)) ∙ s), length-slice (get_or labels (2 * x) 0) (suc to) site (omega arith))

    by_test : (b : Bool) → leb 64 x ≡ b → get_or labels (2 * x + 1) 0 ≤ get_or labels (2 * x) 0 + 12
    by_test true q = omega (arith, L.past x (leb-true 64 x q))
    by_test false q = low (leb-false 64 x q) (get_or labels (2 * x + 1) 0) refl

module _ (question site : List ℕ) where
  -- refused before anything is written
  module _ (given : ThirdInput) (m : ℕ) (state page : List ℕ) where
    abbrev call : Result (Ready (List ℕ))
    call = ready_to_run usual question site given (page_rooms (length state) (length page))

    abbrev Is_paged : Reply → List ℕ → List ℕ → Type 0
    Is_paged = Paged question site given m state page

    refused_with : (e : Refusal) → call ≡ refused (number_of e.cause) e.place → Is_paged (Err e) state page
    unfolding lay_page paged_from
    refused_with e q = (rw q refl, (rw q refl, rw q refl))

    pub call_case : (e : Refusal) → read_filed usual question site ≡ refused (number_of e.cause) e.place → Is_paged (Err e) state page
    unfolding ready_to_run
    call_case e h = refused_with e (Order.case_refused usual question site _ _ _ _ _ _ (filed_alone usual question site (Err e) [] [] [] h))

  module _ (f : Front) (labels facts table : List ℕ) (its : Filed usual question site (Ok f) labels facts table) where
    pub call_steps : (given : ThirdInput) (m : ℕ) (state page : List ℕ) (e : Refusal) → take_steps given ≡ refused (number_of e.cause) e.place → Paged question site given m state page (Err e) state page
    unfolding ready_to_run
    call_steps given m state page e t = let (x, i, h, l) = its in refused_with given m state page e (Order.third_refused usual question site _ _ _ _ x i _ _ t)

    pub call_over : (e : Refusal) → f.m ≡ Err e → (given : ThirdInput) (m : ℕ) (state page steps : List ℕ) → take_steps given ≡ accepted steps → Paged question site given m state page (Err e) state page
    unfolding ready_to_run
    call_over e o given m state page steps t =
        let (x, i, h, l) = its in
        refused_with given m state page e (Order.limits_refused usual question site _ _ _ _ x i steps t (Order.untested x.case) _ _ (case_over usual x.case f.m table h.grounded e o))

    module _ (sized : Sized) (o : f.m ≡ Ok sized) where
      abbrev p : Problem
      p = problem_of its.0.case

      abbrev table_of_lem : Tabled p sized table
      table_of_lem = tabled usual its.0.case f.m table its.2.grounded sized o

      pub few_atoms : sized.atoms ≤ 1048576
      few_atoms = atoms_few usual its.0.case f.m table its.2.grounded sized o

      pub words_enough : (k : ℕ) → (sized.atoms + 63) / 64 ≡ k → words_for (atoms_in table) ≤ k
      words_enough k e = words_fit usual its.0.case f.m table its.2.grounded sized o k e

      words : (sized.atoms + 63) / 64 ≡ state_length p
      words = words_are usual its.0.case f.m table its.2.grounded sized o

      pub printable : Printable question site labels table f.o.sig
      printable =
          let (x, e, h, l) = its in
          let n : f.o.n ≡ size_in table = elements_are question x.case f.o (bit facts) h.holds ∙ sym table_of_lem.is.size in
          record {
            sound = h.holds.sound;
            grounded = table_is usual x.case f.m table h.grounded sized o;
            short = record { spans = subst (Spans site labels) n (spans site labels f.o.n x.labels l h.holds.few_elements); short = labels_short site labels f.o.n x.labels l };
          }

      module _ (given : ThirdInput) (m : ℕ) (state page steps : List ℕ) (t : take_steps given ≡ accepted steps) where
        abbrev ready : Ready (List ℕ)
        ready = record { case = its.0.case; labels = its.0.labels; problem = p; third = steps }

        no_room : (k place : ℕ) → page_rooms (length state) (length page) p ≡ refused k place → ready_to_run usual question site given (page_rooms (length state) (length page)) ≡ refused k place
        unfolding ready_to_run
        no_room k place j =
            let (x, e, h, l) = its in
            Order.room_refused usual question site _ _ _ _ x e steps t (Order.untested x.case) p (grounds usual x.case f.m table h.grounded sized o) (Order.untested x.case) k place j

        readied : page_rooms (length state) (length page) p ≡ accepted tt → ready_to_run usual question site given (page_rooms (length state) (length page)) ≡ accepted ready
        unfolding ready_to_run
        readied j =
            let (x, e, h, l) = its in
            Order.ready usual question site _ _ _ _ x e steps t (Order.untested x.case) p (grounds usual x.case f.m table h.grounded sized o) (Order.untested x.case) j

        pub call_few_words : length state < (sized.atoms + 63) / 64 → Paged question site given m state page (Err (record { cause = ShortBuffer; place = (sized.atoms + 63) / 64 })) state page
        unfolding page_rooms ◌>>=◌
        call_few_words s =
            let b = room_short (state_length p) (length state) (subst (λ (k : ℕ). length state < k) words s) in
            refused_with given m state page (record { cause = ShortBuffer; place = (sized.atoms + 63) / 64 }) (no_room 12 (state_length p) (rw b refl) ∙ ap (refused 12) (sym words))

        module _ (enough : (sized.atoms + 63) / 64 ≤ length state) where
          first_room : room_for (state_length p) (length state) ≡ accepted tt
          first_room = room_there (state_length p) (length state) (subst (λ (k : ℕ). k ≤ length state) words enough)

          pub call_few_bytes : length page < 4380 → Paged question site given m state page (Err (record { cause = ShortBuffer; place = 4380 })) state page
          unfolding page_rooms ◌>>=◌
          call_few_bytes s = refused_with given m state page (record { cause = ShortBuffer; place = 4380 }) (no_room 12 4380 (rw first_room (room_short 4380 (length page) s)))

          module _ (bytes : 4380 ≤ length page) where
            is_ready : ready_to_run usual question site given (page_rooms (length state) (length page)) ≡ accepted ready
            unfolding page_rooms ◌>>=◌
            is_ready = readied (rw first_room (room_there 4380 (length page) bytes))

            paper : Paper question site labels table f.o.sig steps p its.0.labels
            paper =
                let (x, e, h, l) = its in
                record {
                  is = table_of_lem.is;
                  named = λ names N. names_are question f.o.sig names h.holds.sound N x.case h.accepts h.holds.rels h.holds.chosen h.holds.every;
                  says = said_so site labels f.o.n x.labels l;
                  shown = ready_shown question site given (page_rooms (length state) (length page)) ready is_ready;
                  good = good x.case h.accepts;
                  few_elements = subst (λ (n : ℕ). n ≤ 64) (elements_are question x.case f.o (bit facts) h.holds) h.holds.few_elements;
                  few_steps = omega (arith, taken_few given steps t);
                  few_pages = ready_pages question site given (page_rooms (length state) (length page)) ready is_ready;
                }

            pub call_laid : (r : Reply) (part newPart newState newPage : List ℕ) → (sized.atoms + 63) / 64 ≡ length part → PageAfter question site labels table f.o.sig facts steps m part page r newPart newPage
                → newState ≡ newPart ++ drop ((sized.atoms + 63) / 64) state → Paged question site given m state page r newState newPage
            unfolding PageAfter lay_page paged_from laid written
            call_laid r part newPart newState newPage len after n =
                let (x, e, h, l) = its in
                let done = is_ready in
                let ran = after p x.labels printable paper table_of_lem.ends (facts_held question x.case f.o facts h.holds) (sym len ∙ words) in
                let s : length (state_words p (run p steps).state) ≡ state_length p = state_length_lem p (run p steps).state in
                (rw done ran.answer, (rw (done, s) (n ∙ ap₂ (λ (y : List ℕ) (k : ℕ). y ++ drop k state) ran.state_is words), rw done ran.page_is))
