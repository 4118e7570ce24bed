-- What the code's answers say, in the words of the definitions: numbers, fields, elements, entries.
use Rattle.std.specs.Prelude.{Some, None}
use Rattle.std.specs.Prelude as P
use Rattle.std.specs.Prelude.{ℕ, zero, suc, ◌+◌, ◌≤◌, ◌<◌, ◌≡◌, Bool, true, false, List, [], ◌∷◌, eqb, length, if◌then◌else◌}
use Rattle.std.proofs.Math.Option.{Option, none, some}
use Rattle.std.proofs.Math.Seq.{slice}
use Rattle.definitions.specs.Lists.{option}
use Rattle.definitions.specs.Sheet.Text.{Line, split, is_between, number, is_relation_name}
use Rattle.definitions.specs.Refusal.{given}
use Rattle.definitions.specs.Sheet.Sheets as S
use Rattle.read_text.specs.Spans.{kind_of}
use Rattle.read_line.specs.Lines.{lines_at}
use Rattle.read_line.specs.declared.Places.{Places}
use Rattle.read_line.specs.declared.Places.TheVariants.{One, Two, Three}
use Rattle.read_line.specs.declared.Word.{Word}
use Rattle.read_line.specs.declared.Word.TheVariants as W
use Rattle.read_line.specs.declared.Kind.{Kind}
use Rattle.read_line.specs.declared.Kind.TheVariants.{Fun, PFun, Inj, PInj}
use Rattle.read_line.specs.declared.Entry.{Entry}
use Rattle.read_line.specs.declared.Entry.TheVariants.{Wrong, Rel, Typed, Choose, Every, Rule, Size, Label, Member, Fact, Pick, Step}

-- the span is one field; or it is not one
unfoldable pub OneField : List ℕ → ℕ → ℕ → Bool → Type 0
OneField s a e true = split 9 (slice a e s) ≡ slice a e s ∷ []
OneField s a e false = (make : List ℕ → Option S.Entry) → S.with_one make (split 9 (slice a e s)) ≡ none

-- what a number makes
unfoldable pub numbered : (ℕ → S.Entry) → List ℕ → Option S.Entry
numbered make f = option (number f) none (λ n. some (make n))

-- the number that the span is; or the span is not one field with a number
unfoldable pub OneNumber : List ℕ → ℕ → ℕ → P.Option ℕ → Type 0
OneNumber s a e (Some n) = (make : ℕ → S.Entry) → S.with_one (numbered make) (split 9 (slice a e s)) ≡ some (make n)
OneNumber s a e None = (make : ℕ → S.Entry) → S.with_one (numbered make) (split 9 (slice a e s)) ≡ none

-- the two fields of the span, parted by the tab at t; or not two
unfoldable pub TwoFields : List ℕ → ℕ → ℕ → P.Option ℕ → Type 0
TwoFields s a e (Some t) = (a ≤ t) × (t < e) × (split 9 (slice a e s) ≡ slice a t s ∷ slice (t + 1) e s ∷ [])
TwoFields s a e None = (make : List ℕ → List ℕ → Option S.Entry) → S.with_two make (split 9 (slice a e s)) ≡ none

-- an arity of no more than m places, and what a name and such an arity make
unfoldable pub arity_to : ℕ → List ℕ → Option ℕ
arity_to m f = option (number f) none (λ k. if is_between 1 m k then some k else none)

unfoldable pub with_arity : ℕ → (List ℕ → ℕ → S.Entry) → List ℕ → List ℕ → Option S.Entry
with_arity m make name f = option (arity_to m f) none (λ k. some (make name k))

-- where the name of the span ends, and the arity of no more than m places after it; or the span is no name and such an arity
unfoldable pub NameAndArity : List ℕ → ℕ → ℕ → ℕ → P.Option (ℕ × ℕ) → Type 0
NameAndArity s a e m (Some (t, k)) = (a ≤ t) × (t < e) × (1 ≤ k) × (k ≤ m) × ((make : List ℕ → ℕ → S.Entry) → S.with_two (with_arity m make) (split 9 (slice a e s)) ≡ some (make (slice a t s) k))
NameAndArity s a e m None = (make : List ℕ → ℕ → S.Entry) → S.with_two (with_arity m make) (split 9 (slice a e s)) ≡ none

-- the number of an element field: its own, or, if it is a name, one that has eight digits
unfoldable pub code_of : List ℕ → Option ℕ
code_of f = option (number f) (if is_relation_name f then some 10000000 else none) some

unfoldable pub codes_in : List (List ℕ) → Option (List ℕ)
codes_in [] = some []
codes_in (f ∷ fs) = option (code_of f) none (λ k. option (codes_in fs) none (λ ks. some (k ∷ ks)))

-- the element that a field of that number is, and those of several fields
unfoldable pub element_by : List ℕ → ℕ → S.Element
element_by f k = if eqb k 10000000 then S.named f else S.numbered k

unfoldable pub elements_by : List (List ℕ) → List ℕ → List S.Element
elements_by [] ks = []
elements_by (f ∷ fs) [] = []
elements_by (f ∷ fs) (k ∷ ks) = element_by f k ∷ elements_by fs ks

-- the numbers that an answer holds, and the elements that these are in the fields from a up to e
unfoldable pub codes_of : Places → List ℕ
codes_of (One x) = x ∷ []
codes_of (Two x y) = x ∷ y ∷ []
codes_of (Three x y z) = x ∷ y ∷ z ∷ []

unfoldable pub list_of : List ℕ → ℕ → ℕ → Places → List S.Element
list_of s a e p = elements_by (split 9 (slice a e s)) (codes_of p)

unfoldable pub codes : P.Option Places → Option (List ℕ)
codes None = none
codes (Some p) = some (codes_of p)

unfoldable pub consed : ℕ → Option (List ℕ) → Option (List ℕ)
consed x o = option o none (λ xs. some (x ∷ xs))

-- 1 to k elements
unfoldable pub up_to : ℕ → List (List ℕ) → Option (List ℕ)
up_to k fs = if is_between 1 k (length fs) then codes_in fs else none

-- there are as many fields as numbers, and they lie in the text
pub record Fielded (s : List ℕ) (a e : ℕ) (p : Places) : Type 0 where
  pub starts : a ≤ e
  pub ends : e ≤ length s
  pub count : length (split 9 (slice a e s)) ≡ length (codes_of p)

-- where the name of the span ends, and the elements after it; or the span is no name and elements
unfoldable pub Named : List ℕ → ℕ → ℕ → P.Option (ℕ × Places) → Type 0
Named s a e None = (make : List ℕ → List S.Element → S.Entry) → S.with_elements make (split 9 (slice a e s)) ≡ none
Named s a e (Some (t, p)) = Fielded s (t + 1) e p × ((make : List ℕ → List S.Element → S.Entry) → S.with_elements make (split 9 (slice a e s)) ≡ some (make (slice a t s) (list_of s (t + 1) e p)))

-- the kind that a word names, or it names none
abbrev pub kind_number : Kind → ℕ
kind_number Fun = 2
kind_number PFun = 3
kind_number Inj = 4
kind_number PInj = 5

unfoldable pub KindNamed : List ℕ → P.Option Kind → Type 0
KindNamed f (Some k) = S.kind_named f ≡ some (kind_of (kind_number k))
KindNamed f None = S.kind_named f ≡ none

-- what the fields after a record word make
unfoldable pub type_of : List ℕ → Option S.Entry
type_of f = some (S.type f)

unfoldable pub rule_of : List ℕ → Option S.Entry
rule_of f = some (S.rule f)

unfoldable pub made : Word → List (List ℕ) → Option S.Entry
made W.Rel fs = S.with_two (with_arity 3 S.rel) fs
made W.Typed fs = S.with_one type_of fs
made W.Choose fs = S.choose_of fs
made W.Every fs = S.with_two (with_arity 2 S.every) fs
made W.Rule fs = S.with_one rule_of fs
made W.Size fs = S.with_one (numbered S.size) fs
made W.Label fs = S.with_two S.label_of fs
made W.Member fs = S.with_two S.member_of fs
made W.Fact fs = S.with_elements S.fact fs
made W.Pick fs = S.with_elements S.pick fs
made W.Step fs = S.with_one (numbered S.step) fs

-- the text w is that record word, and `rule` has 4 bytes; or it is none
unfoldable pub Says : List ℕ → P.Option Word → Type 0
Says w (Some k) = ((fs : List (List ℕ)) → S.entry (w ∷ fs) ≡ made k fs) × (k ≡ W.Rule → length w ≡ 4)
Says w None = (fs : List (List ℕ)) → S.entry (w ∷ fs) ≡ none

-- the types that a `choose` line gives: from t to u and from u + 1 to v, or none where v is 0
unfoldable pub types_at : List ℕ → ℕ → ℕ → ℕ → List (List ℕ)
types_at s t u zero = []
types_at s t u (suc v) = slice t u s ∷ slice (u + 1) (suc v) s ∷ []

-- the entry of the text s that an answer stands for
unfoldable pub entry_in : List ℕ → Entry → Option S.Entry
entry_in s Wrong = none
entry_in s (Rel a e k) = some (S.rel (slice a e s) k)
entry_in s (Typed a e) = some (S.type (slice a e s))
entry_in s (Choose a e k kind t u v) = some (S.choose (slice a e s) k (kind_of kind) (types_at s t u v))
entry_in s (Every a e k) = some (S.every (slice a e s) k)
entry_in s (Rule a e) = some (S.rule (slice a e s))
entry_in s (Size n) = some (S.size n)
entry_in s (Label k a t e) = some (S.label (element_by (slice a t s) k) (slice (t + 1) e s))
entry_in s (Member a t k e) = some (S.member (slice a t s) (element_by (slice (t + 1) e s) k))
entry_in s (Fact a t e p) = some (S.fact (slice a t s) (list_of s (t + 1) e p))
entry_in s (Pick a t e p) = some (S.pick (slice a t s) (list_of s (t + 1) e p))
entry_in s (Step k) = some (S.step k)

-- the spans of an entry of the line at `at` lie in the text, an arity is 1 to 3, a label is of a name's form, and numbers go with fields
unfoldable pub InText : List ℕ → ℕ → Entry → Type 0
InText s at Wrong = Unit {0}
InText s at (Rel a e k) = (a ≤ e) × (e ≤ length s) × (1 ≤ k) × (k ≤ 3)
InText s at (Typed a e) = (a ≤ e) × (e ≤ length s)
InText s at (Choose a e k kind t u v) = (a ≤ e) × (e ≤ length s) × (1 ≤ k) × (k ≤ 3) × (0 < v → (t ≤ u) × (u < v) × (v ≤ length s))
InText s at (Every a e k) = (a ≤ e) × (e ≤ length s) × (1 ≤ k) × (k ≤ 3)
InText s at (Rule a e) = (a ≡ at + 5) × (a ≤ e) × (e ≤ length s)
InText s at (Size n) = Unit {0}
InText s at (Label k a t e) = (t < e) × (e ≤ length s) × (is_relation_name (slice (t + 1) e s) ≡ true)
InText s at (Member a t k e) = (a ≤ t) × (t < e) × (e ≤ length s)
InText s at (Fact a t e p) = Fielded s (t + 1) e p
InText s at (Pick a t e p) = Fielded s (t + 1) e p
InText s at (Step k) = Unit {0}

-- an answer says what o is, and its spans lie in the text: whatever the line is; that of a record word, whose fields begin at a; a line at `at`
unfoldable pub Tells : List ℕ → Option S.Entry → P.Option Entry → Type 0
Tells s o (Some x) = (entry_in s x ≡ o) × ((at : ℕ) → InText s at x)
Tells s o None = none ≡ o

unfoldable pub TellsAfter : List ℕ → Word → ℕ → Option S.Entry → P.Option Entry → Type 0
TellsAfter s word a o (Some x) = (entry_in s x ≡ o) × ((at : ℕ) → (word ≡ W.Rule → a ≡ at + 5) → InText s at x)
TellsAfter s word a o None = none ≡ o

unfoldable pub TellsAt : List ℕ → ℕ → Option S.Entry → P.Option Entry → Type 0
TellsAt s at o (Some x) = (entry_in s x ≡ o) × InText s at x
TellsAt s at o None = none ≡ o

-- the first line from `at` on says x, and the others begin at `next`
unfoldable pub Reads : List ℕ → ℕ → ℕ → Entry → Type 0
Reads s at next x = (l : Line) × (lines_at s at ≡ l ∷ lines_at s next) × (l.at ≡ at) × (S.entry_of l ≡ given (entry_in s x) 2 at)

-- a step line told by its bytes
unfoldable pub StepReads : List ℕ → ℕ → P.Option (ℕ × ℕ) → Type 0
StepReads s at (Some (k, next)) = (at < next) × (next ≤ length s) × Reads s at next (Step k)
StepReads s at None = Unit {0}
