-- What the reader of the question answers, in the words of the definitions.
use Rattle.std.specs.Prelude.{ℕ, ◌+◌, ◌≤◌, ◌<◌, ◌≡◌, Bool, not, ◌||◌, List, eqb, leb, length, set, replicate, if◌then◌else◌, Ok, Err}
use Rattle.std.specs.Prelude as P
use Rattle.std.proofs.Math.Option.{none, some}
use Rattle.std.proofs.Math.Seq.{slice}
use Rattle.definitions.specs.Lists.{all}
use Rattle.definitions.specs.Sheet.Text.{is_relation_name}
use Rattle.definitions.specs.Sheet.Formula.{is_type}
use Rattle.definitions.specs.Refusal.{Result, refused, accepted, ◌>>=◌, given}
use Rattle.definitions.specs.Sheet.Parsing.{read_formula}
use Rattle.definitions.specs.Sheet.Sheets as D
use Rattle.refusal.specs.declared.Cause.{Cause}
use Rattle.refusal.specs.declared.Cause.TheVariants.{NoRecord, OutOfOrder, BadName, BadType}
use Rattle.refusal.specs.declared.Refusal.{Refusal}
use Rattle.refusal.specs.Numbers.{number_of}
use Rattle.read_line.specs.Lines.{read_at}
use Rattle.read_line.specs.Entries.{types_at}
use Rattle.read_line.specs.declared.Entry.{Entry}
use Rattle.read_line.specs.declared.Entry.TheVariants.{Wrong, Rel, Typed, Choose, Every, Rule, Size, Label, Member, Fact, Pick, Step}
use Rattle.read_names.specs.declared.Signature.{Signature}
use Rattle.read_names.specs.Signatures.{rels_of, chosen_of, every_of, types_of, all_of, SoundSignature}
use Rattle.read_rule.specs.Seen.{rule_number}
use Rattle.read_question.specs.declared.Sorts.{Sorts}
use Rattle.read_question.specs.declared.Head.{Head}
use Rattle.read_question.specs.declared.Asked.{Asked}

-- the question's lines so far, before its rule
unfoldable pub draft_of : List ℕ → Signature → D.Draft
draft_of s g = record { rels = rels_of s g; types = types_of s g; chosen = chosen_of s g; every = every_of s g; ruled = none }

-- a line comes too late: lines of a later kind stand before it, or 8 of its own
unfoldable pub is_late : (types chosen own : ℕ) → Bool
is_late types chosen own = not (eqb types 0) || not (eqb chosen 0) || leb 8 own

-- no `choose` line may follow
unfoldable pub is_closed : (every chosen : ℕ) → Bool
is_closed every chosen = not (eqb every 0) || leb 4 chosen

-- what a relation and a type get in their place, by their names
unfoldable pub name_fault : List ℕ → Signature → List ℕ → P.Result (Unit {0}) Cause
name_fault s g name = if not (D.is_new_name (draft_of s g) name) then Err BadName else Ok tt

unfoldable pub type_fault : List (List ℕ) → List ℕ → P.Result (Unit {0}) Cause
type_fault types name = if not (is_relation_name name) then Err BadName else if is_type types name then Err BadType else Ok tt

-- what a chosen relation gets in its place, by its name and the types that it gives
unfoldable pub choose_fault : List ℕ → Signature → List ℕ → List (List ℕ) → P.Result (Unit {0}) Cause
choose_fault s g name names = if not (D.is_new_name (draft_of s g) name) then Err BadName else if not (all (is_type (types_of s g)) names) then Err BadType else Ok tt

-- what the relation of an `every` line gets
unfoldable pub every_fault : List ℕ → Signature → List ℕ → P.Result (Unit {0}) Cause
every_fault s g name = if not (eqb g.every 0) || eqb g.chosen 0 then Err OutOfOrder else name_fault s g name

-- what a line before the rule gets, where the rule itself is none
unfoldable pub judge_of : List ℕ → Signature → Entry → P.Result (Unit {0}) Cause
judge_of s g Wrong = Err NoRecord
judge_of s g (Rel a e k) = if is_late g.types g.chosen g.rels then Err OutOfOrder else name_fault s g (slice a e s)
judge_of s g (Typed a e) = if is_late 0 g.chosen g.types then Err OutOfOrder else type_fault (types_of s g) (slice a e s)
judge_of s g (Choose a e k d t u v) = if is_closed g.every g.chosen then Err OutOfOrder else choose_fault s g (slice a e s) (types_at s t u v)
judge_of s g (Every a e k) = every_fault s g (slice a e s)
judge_of s g (Rule a e) = Err OutOfOrder
judge_of s g (Size n) = Err OutOfOrder
judge_of s g (Label k a t e) = Err OutOfOrder
judge_of s g (Member a t k e) = Err OutOfOrder
judge_of s g (Fact a t e p) = Err OutOfOrder
judge_of s g (Pick a t e p) = Err OutOfOrder
judge_of s g (Step k) = Err OutOfOrder

-- there is room for what a line declares, and the second of its types begins inside the text
unfoldable pub Room : Signature → Entry → Type 0
Room g Wrong = Unit {0}
Room g (Rel a e k) = g.rels + g.chosen < 12
Room g (Typed a e) = g.types < 8
Room g (Choose a e k d t u v) = (g.rels + g.chosen < 12) × (g.types ≤ 8) × (0 < v → u < v)
Room g (Every a e k) = g.rels + g.chosen < 13
Room g (Rule a e) = Unit {0}
Room g (Size n) = Unit {0}
Room g (Label k a t e) = Unit {0}
Room g (Member a t k e) = Unit {0}
Room g (Fact a t e p) = Unit {0}
Room g (Pick a t e p) = Unit {0}
Room g (Step k) = Unit {0}

-- the sorts of a relation's places, by the types that its line gives
unfoldable pub sorts_in : List (List ℕ) → List (List ℕ) → Sorts
sorts_in types names = record { firsts = D.place_sort types names 0; seconds = D.place_sort types names 1 }

-- the signature with relation i; with one type more
unfoldable pub pushed : Signature → ℕ → ℕ → ℕ → ℕ → ℕ → Sorts → ℕ → ℕ → ℕ → Signature
pushed g i a e k d p rels chosen every = record {
  rels = rels;
  chosen = chosen;
  every = every;
  types = g.types;
  from = set g.from i a;
  to = set g.to i e;
  arity = set g.arity i k;
  kind = set g.kind i d;
  firsts = set g.firsts i p.firsts;
  seconds = set g.seconds i p.seconds;
}

unfoldable pub typed : Signature → ℕ → ℕ → Signature
typed g a e = record {
  rels = g.rels;
  chosen = g.chosen;
  every = g.every;
  types = g.types + 1;
  from = set g.from (13 + g.types) a;
  to = set g.to (13 + g.types) e;
  arity = g.arity;
  kind = g.kind;
  firsts = g.firsts;
  seconds = g.seconds;
}

-- the signature after a good line
unfoldable pub grown_by : List ℕ → Signature → Entry → Signature
grown_by s g Wrong = g
grown_by s g (Rel a e k) = pushed g g.rels a e k 0 (record { firsts = 0; seconds = 0 }) (g.rels + 1) g.chosen g.every
grown_by s g (Typed a e) = typed g a e
grown_by s g (Choose a e k d t u v) = pushed g (g.rels + g.chosen) a e k d (sorts_in (types_of s g) (types_at s t u v)) g.rels (g.chosen + 1) g.every
grown_by s g (Every a e k) = pushed g (g.rels + g.chosen) a e k 6 (record { firsts = 0; seconds = 0 }) g.rels g.chosen 1
grown_by s g (Rule a e) = g
grown_by s g (Size n) = g
grown_by s g (Label k a t e) = g
grown_by s g (Member a t k e) = g
grown_by s g (Fact a t e p) = g
grown_by s g (Pick a t e p) = g
grown_by s g (Step k) = g

-- a question is whole once it has its rule
unfoldable pub whole : List ℕ → D.Draft → Result D.Question
whole s d = given d.ruled 3 (length s) >>= λ r. accepted (record { rels = d.rels; types = d.types; chosen = d.chosen; every = d.every; rule = r })

-- the rule's line was reached with a signature: what is left is the rule's own verdict, and the lines after it
unfoldable pub Reached : List ℕ → Head → Type 0
Reached s h =
    SoundSignature s h.sig × (1 ≤ h.sig.chosen) × (h.span.from ≡ h.place + 5) × (h.span.from ≤ h.span.to) × (h.span.to ≤ length s) × (h.next ≤ length s)
    × (D.read_question s ≡ ((D.add_rule (draft_of s h.sig) h.place (slice h.span.from h.span.to s) >>= read_at D.add_to_question s h.next) >>= whole s))

-- what reading up to the rule's line gives
abbrev pub Headed : List ℕ → P.Result Head Refusal → Type 0
Headed s (Ok h) = Reached s h
Headed s (Err e) = D.read_question s ≡ refused (number_of e.cause) e.place

-- the rule's own verdict: 0, 5 to 8, or 19
abbrev pub verdict_in : List ℕ → Head → ℕ
verdict_in s h = rule_number (all_of s h.sig) (types_of s h.sig) (chosen_of s h.sig) (slice h.span.from h.span.to s)

-- no relations and no types
unfoldable pub no_signature : Signature
no_signature = record {
  rels = 0;
  chosen = 0;
  every = 0;
  types = 0;
  from = replicate 21 0;
  to = replicate 21 0;
  arity = replicate 13 0;
  kind = replicate 13 0;
  firsts = replicate 13 0;
  seconds = replicate 13 0;
}

-- a question that is accepted: its relations and types are the signature's, and its rule is that span of the text
pub record Accepts (s : List ℕ) (q : D.Question) (r : Asked) : Type 0 where
  pub sound : SoundSignature s r.sig
  pub some_chosen : 1 ≤ r.sig.chosen
  pub rels : q.rels ≡ rels_of s r.sig
  pub types : q.types ≡ types_of s r.sig
  pub chosen : q.chosen ≡ chosen_of s r.sig
  pub every : q.every ≡ every_of s r.sig
  pub rule_at : q.rule.at ≡ r.rule.from
  pub rule_text : q.rule.text ≡ slice r.rule.from r.rule.to s
  pub rule_from : r.rule.from ≤ r.rule.to
  pub rule_to : r.rule.to ≤ length s
  pub formula : read_formula (slice r.rule.from r.rule.to s) ≡ some q.rule.formula

-- what the reader answers tells what the definitions read
abbrev pub QuestionRead : List ℕ → Result D.Question → P.Result Asked Refusal → Type 0
QuestionRead s x (Ok r) = (q : D.Question) × (x ≡ accepted q) × Accepts s q r
QuestionRead s x (Err e) = x ≡ refused (number_of e.cause) e.place

-- what a line after the rule gets
unfoldable pub later_of : Entry → Cause
later_of Wrong = NoRecord
later_of (Rel a e k) = OutOfOrder
later_of (Typed a e) = OutOfOrder
later_of (Choose a e k d t u v) = OutOfOrder
later_of (Every a e k) = OutOfOrder
later_of (Rule a e) = OutOfOrder
later_of (Size n) = OutOfOrder
later_of (Label k a t e) = OutOfOrder
later_of (Member a t k e) = OutOfOrder
later_of (Fact a t e p) = OutOfOrder
later_of (Pick a t e p) = OutOfOrder
later_of (Step k) = OutOfOrder
