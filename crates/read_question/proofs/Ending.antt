-- The rule's verdict, and the lines after the rule.
use Rattle.read_rule.specs.Seen.{fault_in}
use Rattle.std.specs.Prelude.{if◌then◌else◌, Ok, Err}
use Rattle.std.specs.Prelude as P
use Prim.Native.Nat.{ℕ, zero, suc, ◌+◌, ◌-◌, ◌≤◌}
use mathlib.Core.Path.{◌≡◌, refl, sym, ap, ◌∙◌}
use mathlib.Core.Bool.{Bool, true, false, not, ◌||◌}
use mathlib.Core.Option.{Option, none, some}
use mathlib.Core.List.{List, []}
use native.Mathlib.Omega.{arith}
use lib.Dec.{ltb}
use lib.ListN.{length}
use lib.Seq.{slice, length-slice}
use Rattle.definitions.specs.Lists.{is_empty, is_some, option}
use Rattle.definitions.specs.Refusal.{Result, refused, accepted, ◌>>=◌, refuse_if, given}
use Rattle.definitions.specs.Sheet.Formula.{Formula, all_forms, nesting, is_known, is_scoped, is_typed}
use Rattle.definitions.specs.Sheet.Parsing.{read_formula}
use Rattle.definitions.specs.Sheet.Sheets as D
use Rattle.definitions.specs.Reply.Outcome.{span_of, rule_part}
use Rattle.refusal.specs.declared.Cause.{Cause}
use Rattle.refusal.specs.declared.Cause.TheVariants.{TooManyForms, Unknown, BadVariable, BadType}
use Rattle.refusal.specs.declared.Refusal.{Refusal}
use Rattle.refusal.specs.Numbers.{number_of}
use Rattle.read_line.specs.Lines.{read_at}
use Rattle.read_line.specs.Entries.{entry_in, Reads}
use Rattle.read_line.specs.declared.Entry.{Entry}
use Rattle.read_line.specs.declared.Entry.TheVariants.{Wrong, Rel, Typed, Choose, Every, Rule, Size, Label, Member, Fact, Pick, Step}
use Rattle.read_line.proofs.Runs.{read_stop, read_next}
use Rattle.read_names.specs.declared.Signature.{Signature}
use Rattle.read_names.specs.Signatures.{relations_from, rels_of, chosen_of, every_of, types_of, all_of, NoFurther}
use Rattle.read_rule.specs.Seen.{rule_number}
use Rattle.read_question.specs.declared.Head.{Head}
use Rattle.read_question.specs.declared.Asked.{Asked}
use Rattle.read_question.specs.Drafts.{draft_of, whole, Reached, verdict_in, QuestionRead, later_of}
use Rattle.read_question.proofs.Tests.{unless, untested, test, unless_none, unless_numbered}

-- ---- the rule's line by its verdict

module _ (s : List ℕ) (g : Signature) where
  some_chosen : (i m : ℕ) → 1 ≤ m → is_empty (relations_from s g i m) ≡ false
  unfolding relations_from is_empty
  some_chosen i zero h = absurd (omega arith)
  some_chosen i (suc m) h = refl

  not_empty : 1 ≤ g.chosen → is_empty (chosen_of s g) ≡ false
  unfolding chosen_of
  not_empty h = some_chosen g.rels g.chosen h

  abbrev verdict_on : Formula → P.Result (Unit {0}) Cause
  verdict_on f =
      if ltb 64 (all_forms (chosen_of s g) f) || ltb 4 (nesting f) then Err TooManyForms
      else if not (is_known (all_of s g) f) then Err Unknown
      else if not (is_scoped [] f) then Err BadVariable
      else if not (is_typed (types_of s g) f) then Err BadType
      else Ok tt

  abbrev number_on : Formula → ℕ
  number_on f =
      if ltb 64 (all_forms (chosen_of s g) f) || ltb 4 (nesting f) then 6
      else if not (is_known (all_of s g) f) then 7
      else if not (is_scoped [] f) then 8
      else if not (is_typed (types_of s g) f) then 19
      else 0

  number_is : (f : Formula) → fault_in (verdict_on f) ≡ number_on f
  number_is f = by_tests (ltb 64 (all_forms (chosen_of s g) f) || ltb 4 (nesting f)) (not (is_known (all_of s g) f)) (not (is_scoped [] f)) (not (is_typed (types_of s g) f))
    where
      by_tests : (a b c d : Bool) → fault_in (if a then Err TooManyForms else if b then Err Unknown else if c then Err BadVariable else if d then Err BadType else Ok tt)
          ≡ (if a then 6 else if b then 7 else if c then 8 else if d then 19 else 0)
      by_tests true b c d = refl
      by_tests false true c d = refl
      by_tests false false true d = refl
      by_tests false false false true = refl
      by_tests false false false false = refl

  module _ (at : ℕ) (text : List ℕ) where
    -- the draft that has the formula as its rule, once its tests are passed
    unfoldable ruled : Formula → D.Draft
    ruled f = record { rels = rels_of s g; types = types_of s g; chosen = chosen_of s g; every = every_of s g; ruled = some (record { at = at + 5; text = text; formula = f }) }

    abbrev tested : Formula → Result D.Draft
    tested f =
        refuse_if (ltb 64 (all_forms (chosen_of s g) f) || ltb 4 (nesting f)) 6 at >>= λ _.
        (refuse_if (not (is_known (all_of s g) f)) 7 at >>= λ _.
        (refuse_if (not (is_scoped [] f)) 8 at >>= λ _.
        (refuse_if (not (is_typed (types_of s g) f)) 19 at >>= λ _. accepted (ruled f))))

    tested_is : (f : Formula) → tested f ≡ unless (verdict_on f) at (accepted (ruled f))
    tested_is f = test at _ TooManyForms _ _ _ (test at _ Unknown _ _ _ (test at _ BadVariable _ _ _ (test at _ BadType _ _ _ (untested at _))))

    rule_is : 1 ≤ g.chosen → D.add_rule (draft_of s g) at text ≡ (given (read_formula text) 5 at >>= tested)
    unfolding D.add_rule draft_of D.is_ruled refuse_if ◌>>=◌ ruled all_of
    rule_is h = rw (not_empty h)

    formula_bad : (o : Option Formula) (c : Cause) → option o 5 number_on ≡ number_of c → (given o 5 at >>= tested) ≡ refused (number_of c) at
    unfolding option given ◌>>=◌
    formula_bad none c p = ap (λ (k : ℕ). refused k at) p
    formula_bad (some f) c p = tested_is f ∙ unless_numbered at (verdict_on f) c _ (number_is f ∙ p)

    formula_good : (o : Option Formula) → option o 5 number_on ≡ 0 → (f : Formula) × ((given o 5 at >>= tested) ≡ accepted (ruled f)) × (o ≡ some f)
    unfolding option given ◌>>=◌
    formula_good none p = absurd (omega arith)
    formula_good (some f) p = (f, tested_is f ∙ unless_none at (verdict_on f) _ (number_is f ∙ p), refl)

-- ---- lines after the rule

refused_stays : {A B : Type 0} (k at : ℕ) (f : A → Result B) → (◌>>=◌ {A = A} {B = B} (refused k at) f) ≡ refused k at
unfolding ◌>>=◌
refused_stays k at f = refl

module _ (s : List ℕ) (g : Signature) (p : ℕ) (text : List ℕ) (f : Formula) (h : 1 ≤ g.chosen) (at : ℕ) where
  late_rel : (b c : Bool) (r : Unit {0} → Result D.Draft) → (refuse_if (b || true || c) 3 at >>= r) ≡ refused 3 at
  unfolding refuse_if ◌>>=◌
  late_rel true c r = refl
  late_rel false c r = refl

  later_by : (x : Entry) → (given (entry_in s x) 2 at >>= D.add_to_question (ruled s g p text f) at) ≡ refused (number_of (later_of x)) at
  unfolding given entry_in ◌>>=◌ D.add_to_question later_of D.add_rel D.add_type D.add_choose D.add_every D.add_rule D.is_ruled refuse_if ruled
  later_by (Rel a e k) = rw (not_empty s g h) (late_rel (not (is_empty (types_of s g))) _ _)
  later_by (Typed a e) = rw (not_empty s g h)
  later_by (Choose a e k d t u v) = late_rel (is_some (every_of s g)) _ _
  later_by (Every a e k) = late_rel (is_some (every_of s g)) _ _
  later_by (Rule a e) = refl
  later_by Wrong = refl
  later_by (Size n) = refl
  later_by (Label k a t e) = refl
  later_by (Member a t k e) = refl
  later_by (Fact a t e y) = refl
  later_by (Pick a t e y) = refl
  later_by (Step k) = refl

  later_line : (next : ℕ) (x : Entry) → Reads s at next x → read_at D.add_to_question s at (ruled s g p text f) ≡ refused (number_of (later_of x)) at
  later_line next x l =
      read_next D.add_to_question s at next (ruled s g p text f) x l
      ∙ ap (λ (r : Result D.Draft). r >>= read_at D.add_to_question s next) (later_by x)
      ∙ refused_stays (number_of (later_of x)) at (read_at D.add_to_question s next)

-- ---- the whole question

-- the rule's line was reached
module _ (s : List ℕ) (h : Head) (reached : Reached s h) where
  -- what the rule's verdict asks, and where the lines after it begin
  pub rule_in : (h.span.from ≤ h.span.to) × (h.span.to ≤ length s) × (h.sig.rels + h.sig.chosen ≤ 12) × (h.sig.every ≤ 1) × (h.sig.types ≤ 8) × NoFurther h.sig.to h.sig.types
  unfolding Reached
  rule_in = let r = reached in (r.3, r.4, omega (arith, r.0.rels_le, r.0.chosen_le), r.0.every_le, r.0.types_le, r.0.no_further)

  pub next_in : h.next ≤ length s
  unfolding Reached
  next_in = (reached).5

  abbrev text : List ℕ
  text = slice h.span.from h.span.to s

  -- reading goes on from what the rule's line gives
  goes_on : (r : Result D.Draft) → (given (read_formula text) 5 h.place >>= tested s h.sig h.place text) ≡ r
      → D.read_question s ≡ ((r >>= read_at D.add_to_question s h.next) >>= whole s)
  unfolding Reached
  goes_on r e =
      let t = reached in
      t.6 ∙ ap (λ (y : Result D.Draft). (y >>= read_at D.add_to_question s h.next) >>= whole s) (rule_is s h.sig h.place text t.1 ∙ e)

  pub end_verdict : (c : Cause) → number_of c ≡ verdict_in s h → QuestionRead s (D.read_question s) (Err (record { cause = c; place = h.place }))
  unfolding ◌>>=◌ rule_number
  end_verdict c p = goes_on (refused (number_of c) h.place) (formula_bad s h.sig h.place text (read_formula text) c (sym p))

  module _ (fine : 0 ≡ verdict_in s h) where
    -- the rule is good: what is left are the lines after it
    unfoldable Good : Formula → Type 0
    Good f = (D.read_question s ≡ (read_at D.add_to_question s h.next (ruled s h.sig h.place text f) >>= whole s)) × (read_formula text ≡ some f)

    good : (f : Formula) × Good f
    unfolding Good ◌>>=◌ rule_number
    good =
        let a = formula_good s h.sig h.place text (read_formula text) (sym fine) in
        (a.0, (goes_on (accepted (ruled s h.sig h.place text a.0)) a.1, a.2))

    pub end_later : (next : ℕ) (x : Entry) → Reads s h.next next x → (c : Cause) → c ≡ later_of x → QuestionRead s (D.read_question s) (Err (record { cause = c; place = h.next }))
    unfolding Reached Good ◌>>=◌
    end_later next x l c e =
        let a = good in
        let t = reached in
        a.1.0 ∙ ap (λ (y : Result D.Draft). y >>= whole s) (later_line s h.sig h.place text a.0 t.1 h.next next x l) ∙ ap (λ (k : Cause). refused (number_of k) h.next) (sym e)

    pub end_accepted : h.next ≡ length s → QuestionRead s (D.read_question s) (Ok (record { sig = h.sig; rule = h.span }))
    unfolding Reached Good whole ruled given ◌>>=◌
    end_accepted e =
        let a = good in
        let t = reached in (
          _,
          a.1.0 ∙ ap (λ (y : Result D.Draft). y >>= whole s) (read_stop D.add_to_question s h.next (ruled s h.sig h.place text a.0) e),
          record {
            sound = t.0;
            some_chosen = t.1;
            rels = refl;
            types = refl;
            chosen = refl;
            every = refl;
            rule_at = sym t.2;
            rule_text = refl;
            rule_from = t.3;
            rule_to = t.4;
            formula = a.1.1;
          },
        )

-- ---- the rule's part: that of a question that is read, else an empty one at 0

pub part_read : (s : List ℕ) (r : Asked) → QuestionRead s (D.read_question s) (Ok r)
    → (r.rule.from ≤ r.rule.to) × (r.rule.to ≤ length s) × (r.rule.from ≡ (rule_part s).start) × (r.rule.to - r.rule.from ≡ (rule_part s).len)
unfolding rule_part span_of
part_read s r (q, e, w) = (w.rule_from, w.rule_to, rw e (sym w.rule_at), rw e (sym (ap length w.rule_text ∙ length-slice r.rule.from r.rule.to s w.rule_to)))

pub part_none : (s : List ℕ) (e : Refusal) → QuestionRead s (D.read_question s) (Err e) → (0 ≡ (rule_part s).start) × (0 ≡ (rule_part s).len)
unfolding rule_part span_of
part_none s e w = (rw w refl, rw w refl)
