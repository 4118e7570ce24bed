-- Any other third sheet, from whose picks steps are built: the order of refusals, what is built, and the report. Assumes nothing.
use Prim.Native.Nat.{ℕ, zero, ◌+◌, ◌*◌, ◌≤◌, ◌<◌}
use Rattle.std.specs.Prelude.{◌≡◌, Bool, not, List, ◌++◌, drop, Ok, Err}
use Rattle.std.proofs.Math.Path.{refl, sym, ap}
use Rattle.std.proofs.Common.{ap₂, ◌∙◌, arith, take-append-drop}
use Rattle.std.proofs.Math.Bool.{true, false}
use Rattle.std.proofs.Math.Option.{Option, none, some}
use Rattle.std.proofs.Math.ListN.{length, take, length-append}
use Rattle.std.proofs.Math.Seq.{take-append_seam}
use Rattle.definitions.specs.Refusal.{Result, refused, accepted, ◌>>=◌, refuse_if}
use Rattle.definitions.specs.Sheet.Relations.{Tuple}
use Rattle.definitions.specs.Sheet.Sheets.{Label, read_picks, first_chosen}
use Rattle.definitions.specs.Problem.Truth.{Case, rule_is_true, first_of_other_kind}
use Rattle.definitions.specs.Problem.Atoms.{Problem, problem_of}
use Rattle.definitions.specs.Problem.Built.{bound, built_steps}
use Rattle.definitions.specs.Reply.Outcome.{picks_length, CaseRead, read_filed, read_case, ground, asked, nothing, Ready, room_for, state_length, as_text, text_picks, picks_room, take_picks, kind_refusal, satisfying, Plan, plan, written, StepsBuilt, built_from}
use Rattle.definitions.specs.Reply.Desk.{printed}
use Rattle.laws.specs.Asked.{untested, case_refused, third_refused, limits_refused, room_refused, ready}
use Rattle.laws.specs.Labels.{LabelsFit}
use Rattle.meaning.specs.Few.{picks_few}
use Rattle.bits.specs.Table.{bit, Words}
use Rattle.read_names.specs.Signatures.{chosen_of}
use Rattle.read_sheets.specs.Reading.{GotPicks, PicksRead, PicksRoom}
use Rattle.refusal.specs.declared.Refusal.{Refusal}
use Rattle.refusal.specs.Numbers.{number_of}
use Rattle.problem_of_case.specs.declared.Sized.{Sized}
use Rattle.open_case.specs.Replies.{Reply, result_of}
use Rattle.step_picks.specs.Handed.{decided}
use Rattle.step_build.specs.Answers.{planned, Gives}
use Rattle.step_build.specs.Starts.{Prepared}
use Rattle.read_sheets.specs.declared.Opened.{Opened}
use Rattle.open_case.specs.declared.Front.{Front}
use Rattle.open_case.specs.Known.{facts_held, case_over, grounds, tabled, actions_few, tuples_few, room_short, room_there}
use Rattle.step_picks.specs.Picked.{text_read, text_are, text_front, text_picked}
use Rattle.print_report.specs.Agrees.{Agrees}
use Rattle.call_desk.specs.Replied.{Replies, text_as, Reportable, report_of}
use Rattle.call_desk.specs.Known.{own, Known, labels_fit, picks_roomy, front_agrees, report_as, reportable, state_fits}

-- picks of the case that were read from the text and stand in words
pub record Picked (s : List ℕ) (c : CaseRead) (o : Opened) (text : List ℕ) (F : List Tuple) (words : List ℕ) : Type 0 where
  pub read : text_picks c.case c.labels (as_text text) ≡ accepted F
  pub count : ℕ
  pub held : GotPicks o.sig o.n (read_picks (chosen_of s o.sig) (5 + o.sig.rels) o.n c.labels text) (Ok count) (bit words)

-- the case was read, and some picks of it from a text of an input
pub record IsPicked (question site : List ℕ) (f : Front) (labels facts table words : List ℕ) : Type 0 where
  pub text : List ℕ
  pub short : length text ≤ 16384
  pub tuples : List Tuple
  pub known : Known question site f labels facts table
  pub picked : Picked question known.filed f.o text tuples words

-- ---- the order of refusals

module _ (question site text : List ℕ) where
  abbrev third : CaseRead → Result (List Tuple)
  third c = text_picks c.case c.labels (as_text text)

  abbrev rooms : Problem → Result (Unit {0})
  rooms p = picks_room p (as_text text) >>= λ _. room_for (state_length p) 1024 >>= λ _. room_for (bound p) 8192

  abbrev begun : Result (Ready (List Tuple))
  begun = asked own question site third nothing nothing rooms

  abbrev whole : Result Plan
  whole = plan own question site (as_text text) 1024 8192

  stopped : (k place : ℕ) → begun ≡ refused k place → whole ≡ refused k place
  unfolding plan ◌>>=◌
  stopped k place e = rw e refl

  pub plan_refused : (k place : ℕ) → read_case own question site ≡ refused k place → whole ≡ refused k place
  plan_refused k place e = stopped k place (case_refused own question site third nothing nothing rooms k place e)

  module _ (c : CaseRead) (e : read_filed own question site ≡ accepted c) where
    picks_refused : (k place : ℕ) → text_picks c.case c.labels (as_text text) ≡ refused k place → whole ≡ refused k place
    picks_refused k place t = stopped k place (third_refused own question site third nothing nothing rooms c e k place t)

    module _ (F : List Tuple) (t : text_picks c.case c.labels (as_text text) ≡ accepted F) where
      planned_over : (k place : ℕ) → ground own c.case ≡ refused k place → whole ≡ refused k place
      planned_over k place g = stopped k place (limits_refused own question site third nothing nothing rooms c e F t (untested c.case) k place g)

      module _ (p : Problem) (g : ground own c.case ≡ accepted p) (h : state_length p ≤ 1024) where
        rooms_are : rooms p ≡ room_for (bound p) 8192
        unfolding picks_room ◌>>=◌
        rooms_are = rw (room_there (state_length p) 1024 h) refl

        planned_long : 8192 < bound p → whole ≡ refused 12 (bound p)
        planned_long l = stopped 12 (bound p) (room_refused own question site third nothing nothing rooms c e F t (untested c.case) p g (untested c.case) 12 (bound p) (rooms_are ∙ room_short (bound p) 8192 l))

        -- 16, 17, then the steps
        abbrev built : List Tuple → Result Plan
        built tuples = accepted (record { labels = c.labels; problem = p; picks = tuples; steps = built_steps p tuples })

        tail : (satisfying c.case p (as_text text) F >>= built) ≡ planned c.labels c.case p F
        unfolding satisfying take_picks planned decided ◌>>=◌
        tail = refl

        planned_case : bound p ≤ 8192 → whole ≡ planned c.labels c.case p F
        unfolding plan ◌>>=◌
        planned_case l = rw (ready own question site third nothing nothing rooms c e F t (untested c.case) p g (untested c.case) (rooms_are ∙ room_there (bound p) 8192 l)) tail

-- ---- what building gave

clash : (k place n : ℕ) → refused k place ≡ accepted n → ⊥
clash k place n e = let z : ◌≡◌ {A = ℕ} 0 1 = cc in omega arith

module _ (labels : List Label) (c : Case) (p : Problem) (F : List Tuple) (state steps : List ℕ) (a : Reply) (state' steps' : List ℕ) (g : Gives c p F state steps a state' steps') where
  gives_refused : (k place : ℕ) → result_of a ≡ refused k place → planned labels c p F ≡ refused k place
  unfolding built_from
  gives_refused k place e = by_result (planned labels c p F) (ap (λ (b : StepsBuilt). b.answer) (g labels) ∙ e)
    where
      by_result : (x : Result Plan) → (built_from x state steps).answer ≡ refused k place → x ≡ refused k place
      by_result (refused j at) h = cc
      by_result (accepted b) h = absurd (clash k place (length b.steps) (sym h))

  abbrev made : Plan
  made = record { labels = labels; problem = p; picks = F; steps = built_steps p F }

  abbrev end : Option ℕ → Bool → Result Plan
  end o t = (kind_refusal o >>= λ _. refuse_if (not t) 17 zero >>= λ _. accepted F) >>= λ G. accepted (record { labels = labels; problem = p; picks = G; steps = built_steps p G })

  -- the steps written are the front of the lent ones
  gives_plan : (n : ℕ) → a ≡ Ok n → (planned labels c p F ≡ accepted made) × (n ≡ length (built_steps p F)) × (steps' ≡ written (built_steps p F) steps)
  unfolding built_from planned decided satisfying take_picks kind_refusal refuse_if ◌>>=◌
  gives_plan n e = by_option (first_of_other_kind c F) (rule_is_true c F) (ap (λ (b : StepsBuilt). b.answer) (g labels) ∙ ap result_of e) (ap (λ (b : StepsBuilt). b.steps) (g labels))
    where
      by_option : (o : Option ℕ) (t : Bool) → (built_from (end o t) state steps).answer ≡ accepted n → (built_from (end o t) state steps).steps ≡ steps' → (end o t ≡ accepted made) × (n ≡ length (built_steps p F)) × (steps' ≡ written (built_steps p F) steps)
      by_option (some i) t h u = absurd (clash 16 i n h)
      by_option none false h u = absurd (clash 17 zero n h)
      by_option none true h u = (refl, cc, sym u)

  gives_steps : (n : ℕ) → a ≡ Ok n → (take n steps' ≡ built_steps p F) × (n ≤ length steps')
  unfolding written
  gives_steps n e =
      let b = gives_plan n e in
      (ap₂ take b.1 b.2 ∙ take-append_seam (built_steps p F) (drop (length (built_steps p F)) steps), omega (arith, b.1, ap length b.2, length-append (built_steps p F) (drop (length (built_steps p F)) steps)))

-- ---- the replies

module _ (q site : List ℕ) (f : Front) (labels facts w words : List ℕ) (ok : Words words) (enough : 256 ≤ length words) where
  -- what the builder asks, and what it gives
  abbrev Building : (m : Sized) (state steps : List ℕ) (a : Reply) (state' steps' : List ℕ) → Type 0
  Building m state steps a state' steps' = (c : Case) (F : List Tuple) → Prepared c F w facts words m.atoms (length steps) → Gives c (problem_of c) F state steps a state' steps'

  module _ (text : List ℕ) (F : List Tuple) (K : Known q site f labels facts w) (P : Picked q K.filed f.o text F words) where
    abbrev c : Case
    c = K.filed.case

    abbrev fit : LabelsFit c.site.size K.filed.labels
    fit = labels_fit q site f labels facts w K

    roomy : PicksRoom f.o.sig f.o.n (length words)
    roomy = picks_roomy q site f labels facts w K (length words) enough

    prepared : (m : Sized) → f.m ≡ Ok m → m.bound ≤ 8192 → (room : ℕ) → 8192 ≤ room → Prepared c F w facts words m.atoms room
    prepared m v l room h =
        let t = tabled own c f.m w K.held.grounded m v in
        record {
          case = K.held.accepts;
          picks = text_are q c K.held.accepts f.o (bit facts) K.held.holds K.filed.labels fit text F P.read;
          is = t.is;
          facts_in = facts_held q c f.o facts K.held.holds;
          picked = text_picked q c K.held.accepts f.o (bit facts) K.held.holds K.filed.labels fit text F P.read words ok roomy P.count P.held;
          atoms_are = t.atoms_are;
          few = omega (arith, actions_few own c f.m w K.held.grounded m v);
          few_tuples = tuples_few own c f.m w K.held.grounded m v;
          steps_room = omega (arith, t.bound_is);
        }

    -- the words are reported as these picks
    text_agrees : Agrees (problem_of c) F q f.o.sig f.o.n words
    text_agrees =
        let k : ℕ = picks_length (problem_of c) in
        let front = text_front q c K.held.accepts f.o (bit facts) K.held.holds K.filed.labels fit text F P.read words ok roomy P.count P.held in
        front_agrees q site f labels facts w K F words (drop k words) (sym (take-append-drop k words) ∙ ap (λ (x : List ℕ). x ++ drop k words) front)

    -- a text has few of them
    text_few : length text ≤ 16384 → 7 * length F ≤ 16384
    unfolding text_picks
    text_few h = omega (arith, picks_few c.question.chosen (first_chosen c.question) c.site.size K.filed.labels text F P.read)

    abbrev p : Problem
    p = problem_of c

    pub reply_over : (e : Refusal) → f.m ≡ Err e → plan own q site (as_text text) 1024 8192 ≡ refused (number_of e.cause) e.place
    reply_over e o = planned_over q site text K.filed K.is_read F P.read _ _ (case_over own c f.m w K.held.grounded e o)

    module _ (m : Sized) (v : f.m ≡ Ok m) where
      its_problem : ground own c ≡ accepted p
      its_problem = grounds own c f.m w K.held.grounded m v

      its_bound : m.bound ≡ bound p
      its_bound = (tabled own c f.m w K.held.grounded m v).bound_is

      pub reply_long : 8192 < m.bound → plan own q site (as_text text) 1024 8192 ≡ refused 12 m.bound
      reply_long l =
          let e = its_bound in
          planned_long q site text K.filed K.is_read F P.read p its_problem (state_fits q site f labels facts w K m v) (omega arith) ∙ ap (refused 12) (sym e)

      module _ (l : m.bound ≤ 8192) (state steps : List ℕ) (a : Reply) (state' steps' : List ℕ) (b : Building m state steps a state' steps') (room : 8192 ≤ length steps) where
        given : Gives c p F state steps a state' steps'
        given = b c F (prepared m v l (length steps) room)

        built_is : plan own q site (as_text text) 1024 8192 ≡ planned K.filed.labels c p F
        built_is = let e = its_bound in planned_case q site text K.filed K.is_read F P.read p its_problem (state_fits q site f labels facts w K m v) (omega arith)

        pub reply_refused : (e : Refusal) → a ≡ Err e → plan own q site (as_text text) 1024 8192 ≡ refused (number_of e.cause) e.place
        reply_refused e h = built_is ∙ gives_refused K.filed.labels c p F state steps a state' steps' given _ _ (ap result_of h)

        pub reply_built : (n : ℕ) → a ≡ Ok n → (old new : List ℕ) (r : ℕ) → Replies (report_of q site f.o m labels words (take n steps')) old new r → Replies (printed (plan own q site (as_text text) 1024 8192)) old new r
        reply_built n e old new r h =
            let g = gives_plan K.filed.labels c p F state steps a state' steps' given n e in
            let u = gives_steps K.filed.labels c p F state steps a state' steps' given n e in
            text_as _ _ old new r (report_as q site f labels facts w K F (built_steps p F) words text_agrees m v (plan own q site (as_text text) 1024 8192) (built_is ∙ g.0) ∙ ap (report_of q site f.o m labels words) (sym u.0)) h

  module _ (I : IsPicked q site f labels facts w words) where
    -- the steps built fit the lent ones
    pub built_fit : (m : Sized) → f.m ≡ Ok m → m.bound ≤ 8192 → (state steps : List ℕ) (a : Reply) (state' steps' : List ℕ) → Building m state steps a state' steps' → 8192 ≤ length steps
        → (n : ℕ) → a ≡ Ok n → n ≤ length steps'
    built_fit m v l state steps a state' steps' b room n e =
        let K = I.known in
        (gives_steps K.filed.labels K.filed.case (problem_of K.filed.case) I.tuples state steps a state' steps' (b K.filed.case I.tuples (prepared I.text I.tuples K I.picked m v l (length steps) room)) n e).1

    pub picked_reportable : (steps : List ℕ) → length steps ≤ 8192 → Reportable q site f.o labels words steps
    picked_reportable steps h = reportable q site f labels facts w I.known I.tuples words steps (text_agrees I.text I.tuples I.known I.picked) (text_few I.text I.tuples I.known I.picked I.short) enough h

-- ---- picks as a text, once a case was read

module _ (q site : List ℕ) (f : Front) (labels facts w : List ℕ) (K : Known q site f labels facts w) (text words : List ℕ) where
  its_text : read_picks (chosen_of q f.o.sig) (5 + f.o.sig.rels) f.o.n K.filed.labels text ≡ text_picks K.filed.case K.filed.labels (as_text text)
  its_text = text_read q K.filed.case K.held.accepts f.o (bit facts) K.held.holds K.filed.labels text

  -- the text was read so
  abbrev Taken : Reply → Type 0
  Taken a = PicksRead f.o.sig f.o.n (read_picks (chosen_of q f.o.sig) (5 + f.o.sig.rels) f.o.n K.filed.labels text) a (bit words)

  pub text_refused : (e : Refusal) → Taken (Err e) → plan own q site (as_text text) 1024 8192 ≡ refused (number_of e.cause) e.place
  text_refused e h = picks_refused q site text K.filed K.is_read _ _ (sym its_text ∙ h.0)

  pub picks_taken : (n : ℕ) → Taken (Ok n) → (F : List Tuple) × Picked q K.filed f.o text F words
  picks_taken n h = (h.0, record { read = sym its_text ∙ h.1; count = n; held = h })

  pub is_picked : (n : ℕ) → Taken (Ok n) → length text ≤ 16384 → IsPicked q site f labels facts w words
  is_picked n d h = let (F, P) = picks_taken n d in record { text = text; short = h; tuples = F; known = K; picked = P }
