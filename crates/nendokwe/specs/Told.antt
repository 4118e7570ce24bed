-- What the calls write, by what was returned to them: number and place, the values told, and an action in numbers.
use Rattle.std.specs.Prelude.{ℕ, ◌-◌, List, length, Ok, Err}
use Rattle.std.specs.Prelude as P
use Rattle.std.proofs.Math.Path.{◌≡◌, refl, ap}
use Rattle.std.proofs.Common.{sym, ◌∙◌, arith}
use Rattle.std.proofs.Math.Option.{Option, none, some}
use Rattle.std.proofs.Math.Seq.{length-slice}
use Rattle.definitions.specs.Refusal.{Result, refused, accepted, ◌>>=◌}
use Rattle.definitions.specs.Problem.Actions.{Action, action_kind, action_subject, action_row, action_choice}
use Rattle.definitions.specs.Sheet.Sheets.{read_question}
use Rattle.definitions.specs.Reply.Outcome.{Sizes, span_of, rule_part, reply_number, refusal_place, told}
use Rattle.read_question.specs.declared.Asked.{Asked as Read}
use Rattle.read_question.specs.Drafts.{QuestionRead}
use Rattle.refusal.specs.declared.Refusal.{Refusal}
use Rattle.refusal.specs.Numbers.{number_of}
use Rattle.problem_window.specs.declared.Window.{Window as Layered}
use Rattle.problem_table.specs.declared.Act.{Act}
use Rattle.problem_table.specs.declared.Act.TheVariants.{Set, Begin, And, Or, Exists, Forall, Goal, RoundEnd, MarkIn, MarkOut, Nothing}
use Rattle.call_sizes.specs.declared.Counts.{Counts}
use Rattle.call_sizes.specs.Answers.{sizing_of}
use Rattle.call_action.specs.Asked.{heard, action_of, found}
use Rattle.definitions.specs.Reply.Layers.{Window}
use Rattle.call_window.specs.Windows.{windowed_of}
use Rattle.nendokwe.specs.declared.Details.{Details}

-- the code's action in numbers; one that is none has a kind of its own
unfoldable pub details_of : Act → Details
details_of (Set a) = record { kind = 0; subject = a.relation; row = a.row; choice = 0 }
details_of Begin = record { kind = 1; subject = 0; row = 0; choice = 0 }
details_of (And a) = record { kind = 2; subject = a.node; row = a.row; choice = 0 }
details_of (Or a) = record { kind = 3; subject = a.node; row = a.row; choice = a.choice }
details_of (Exists a) = record { kind = 4; subject = a.node; row = a.row; choice = a.choice }
details_of (Forall a) = record { kind = 5; subject = a.node; row = a.row; choice = a.choice }
details_of Goal = record { kind = 6; subject = 0; row = 0; choice = 0 }
details_of RoundEnd = record { kind = 7; subject = 0; row = 0; choice = 0 }
details_of (MarkIn a) = record { kind = 8; subject = a.relation; row = a.row; choice = 0 }
details_of (MarkOut a) = record { kind = 9; subject = a.relation; row = a.row; choice = 0 }
details_of Nothing = record { kind = 10; subject = 0; row = 0; choice = 0 }

-- ---- what the calls write, by what was returned to them

-- where the rule lies, and nowhere where the question is refused
pub rule_told : (s : List ℕ) (r : Read) → QuestionRead s (read_question s) (Ok r) → (r.rule.from ≡ (rule_part s).start) × (r.rule.to - r.rule.from ≡ (rule_part s).len)
unfolding rule_part span_of
rule_told s r (q, e, w) = rw e (sym w.rule_at, sym (ap length w.rule_text ∙ length-slice r.rule.from r.rule.to s w.rule_to))

pub no_rule_told : (s : List ℕ) (e : Refusal) → QuestionRead s (read_question s) (Err e) → (0 ≡ (rule_part s).start) × (0 ≡ (rule_part s).len)
unfolding rule_part span_of
no_rule_told s e h = rw h (refl, refl)

-- number and place, and the old values where a result is refused
pub refused_told : {A : Type 0} (x : Result A) (k place : ℕ) → x ≡ refused k place → (k ≡ reply_number x) × (place ≡ refusal_place x) × ((f : A → ℕ) (old : ℕ) → old ≡ told f x old)
unfolding reply_number refusal_place told
refused_told x k place e = rw e (refl, refl, λ f old. refl)

pub accepted_told : {A : Type 0} (x : Result A) (a : A) → x ≡ accepted a → (0 ≡ reply_number x) × (0 ≡ refusal_place x) × ((f : A → ℕ) (old : ℕ) → f a ≡ told f x old)
unfolding reply_number refusal_place told
accepted_told x a e = rw e (refl, refl, λ f old. refl)

module _ (x : Result Sizes) (n a b d : ℕ) where
  -- the six numbers that go out
  abbrev Sizes_told : (number place n' a' b' d' : ℕ) → Type 0
  Sizes_told number place n' a' b' d' =
      (number ≡ reply_number x) × ((place ≡ refusal_place x) × ((n' ≡ told (λ s. s.elements) x n) × ((a' ≡ told (λ s. s.atom_count) x a) × ((b' ≡ told (λ s. s.action_count) x b)
      × (d' ≡ told (λ s. s.step_bound) x d)))))

  pub sizes_told : (s : Counts) → sizing_of (Ok s) ≡ x → Sizes_told 0 0 s.elements s.atoms s.actions s.bound
  sizes_told s e =
      let (i, j, t) = accepted_told x (record { elements = s.elements; atom_count = s.atoms; action_count = s.actions; step_bound = s.bound }) (sym e) in
      (i, (j, (t (λ s. s.elements) n, (t (λ s. s.atom_count) a, (t (λ s. s.action_count) b, t (λ s. s.step_bound) d)))))

  pub sizes_refused : (e : Refusal) → sizing_of (Err e) ≡ x → Sizes_told (number_of e.cause) e.place n a b d
  sizes_refused e h =
      let (i, j, t) = refused_told x (number_of e.cause) e.place (sym h) in
      (i, (j, (t (λ s. s.elements) n, (t (λ s. s.atom_count) a, (t (λ s. s.action_count) b, t (λ s. s.step_bound) d)))))

module _ (x : Result Window) (a b : ℕ) where
  -- the four numbers that go out
  abbrev Window_told : (number place a' b' : ℕ) → Type 0
  Window_told number place a' b' = (number ≡ reply_number x) × ((place ≡ refusal_place x) × ((a' ≡ told (λ w. w.lower) x a) × (b' ≡ told (λ w. w.upper) x b)))

  pub window_told : (w : Layered) → windowed_of (Ok w) ≡ x → Window_told 0 0 w.lower w.upper
  window_told w e =
      let (i, j, t) = accepted_told x (record { lower = w.lower; upper = w.upper }) (sym e) in
      (i, (j, (t (λ w. w.lower) a, t (λ w. w.upper) b)))

  pub window_refused : (e : Refusal) → windowed_of (Err e) ≡ x → Window_told (number_of e.cause) e.place a b
  window_refused e h = let (i, j, t) = refused_told x (number_of e.cause) e.place (sym h) in (i, (j, (t (λ w. w.lower) a, t (λ w. w.upper) b)))

-- the details of an action that was found
details_are : (a : Act) (b : Action) → heard a ≡ some b → details_of a ≡ record { kind = action_kind b; subject = action_subject b; row = action_row b; choice = action_choice b }
unfolding heard details_of action_kind action_subject action_row action_choice
details_are a b e = same a ∙ ap its e
  where
    its : Option Action → Details
    its none = record { kind = 10; subject = 0; row = 0; choice = 0 }
    its (some b) = record { kind = action_kind b; subject = action_subject b; row = action_row b; choice = action_choice b }

    same : (a : Act) → details_of a ≡ its (heard a)
    same (Set a) = refl
    same Begin = refl
    same (And a) = refl
    same (Or a) = refl
    same (Exists a) = refl
    same (Forall a) = refl
    same Goal = refl
    same RoundEnd = refl
    same (MarkIn a) = refl
    same (MarkOut a) = refl
    same Nothing = refl

module _ (x : Result Action) (kind subject row choice : ℕ) where
  abbrev Action_told : (number place kind' subject' row' choice' : ℕ) → Type 0
  Action_told number place kind' subject' row' choice' =
      (number ≡ reply_number x) × ((place ≡ refusal_place x) × ((kind' ≡ told action_kind x kind) × ((subject' ≡ told action_subject x subject) × ((row' ≡ told action_row x row) × (choice' ≡ told action_choice x choice)))))

  its_refusal : (e : Refusal) → action_of (Err e) ≡ found x → x ≡ refused (number_of e.cause) e.place
  unfolding found ◌>>=◌
  its_refusal e h = by_result x h
    where
      by_result : (y : Result Action) → refused (number_of e.cause) e.place ≡ found y → y ≡ refused (number_of e.cause) e.place
      by_result (refused j at) h = cc
      by_result (accepted a) h = let z : ◌≡◌ {A = ℕ} 0 1 = cc in absurd (omega arith)

  its_action : (a : Act) → action_of (Ok a) ≡ found x → (b : Action) × (x ≡ accepted b) × (heard a ≡ some b)
  unfolding found ◌>>=◌
  its_action a h = by_result x h
    where
      by_result : (y : Result Action) → accepted (heard a) ≡ found y → (b : Action) × (y ≡ accepted b) × (heard a ≡ some b)
      by_result (refused j at) h = let z : ◌≡◌ {A = ℕ} 0 1 = cc in absurd (omega arith)
      by_result (accepted b) h = (b, refl, cc)

  pub action_refused : (e : Refusal) → action_of (Err e) ≡ found x → Action_told (number_of e.cause) e.place kind subject row choice
  action_refused e h = let (i, j, t) = refused_told x (number_of e.cause) e.place (its_refusal e h) in (i, (j, (t action_kind kind, (t action_subject subject, (t action_row row, t action_choice choice)))))

  pub action_told : (a : Act) → action_of (Ok a) ≡ found x → (d : Details) → d ≡ details_of a → Action_told 0 0 d.kind d.subject d.row d.choice
  action_told a h d f =
      let (b, u, v) = its_action a h in
      let (i, j, t) = accepted_told x b u in
      let g = f ∙ details_are a b v in
      (i, (j, (ap (λ (z : Details). z.kind) g ∙ t action_kind kind, (ap (λ (z : Details). z.subject) g ∙ t action_subject subject, (ap (λ (z : Details). z.row) g ∙ t action_row row, ap (λ (z : Details). z.choice) g ∙ t action_choice choice)))))
