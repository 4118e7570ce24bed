-- What acceptance gives: a question and site that `read_problem` accepts are those of a case that is `Accepted`.
use Rattle.std.specs.Prelude.{ℕ, zero, suc, ◌+◌, ◌<◌, ◌≤◌, ◌≡◌, ◌⊎◌, Bool, ◌&&◌, ◌||◌, leb, eqb, get_or, if◌then◌else◌}
use Rattle.std.proofs.Math.Path.{refl, subst}
use Rattle.std.proofs.Common.{sym, ap, ◌∙◌, inl, inr, ⊎_elim, arith, ltb→lt, eqb→eq, leb→le, T_not, length-append}
use Rattle.std.proofs.Math.Bool.{true, false, not}
use Rattle.std.proofs.Math.Option.{Option, none, some}
use mathlib.Core.List.Memᴰ
use mathlib.Core.List.{List, [], ◌∷◌, ◌++◌, Memᴰ, append_assoc, append-nil, nil≢cons}
use Rattle.std.proofs.Math.Dec.{T, ltb, nltb→le, nleb→lt, not_T}
use Rattle.std.proofs.Math.ListN.{length}
use Rattle.definitions.specs.Limits.{CaseLimits}
use Rattle.definitions.specs.Lists.{all, any, same, is_empty, option, is_some, listed, position, below}
use Rattle.definitions.specs.Sheet.Text.{Line, fields, is_between, is_relation_name, number, lines, bytes}
use Rattle.definitions.specs.Refusal.{Result, refused, accepted, ◌>>=◌, refuse_if, given, read_lines, read_text}
use Rattle.definitions.specs.Limits.{text_limit}
use Rattle.definitions.specs.Sheet.Relations.{Kind, static, plain, Fun, PFun, Inj, PInj, universal, is_chosen, is_function, Relation, fixed, varying, Tuple, is_among, are_distinct, built_in, is_declared}
use Rattle.definitions.specs.Sheet.Formula.{all_forms, nesting, is_known, is_scoped, is_typed, type_number, sort_named, is_type}
use Rattle.definitions.specs.Sheet.Parsing.{read_formula}
use Rattle.definitions.specs.Sheet.Sheets
use Sheets.{Element, Entry, rel, type, choose, every, rule, size, label, member, fact, pick, step, arity_of, every_arity_of, element, elements, label_of, member_of, kind_named}
use Sheets.{choose_of, with_one, with_two, with_elements, entry, entry_of, Rule, Draft, Question, relations, is_ruled, is_new_name, add_rel, add_type}
use Sheets.{place_sort, add_choose, add_every, add_rule, add_to_question, question_line, read_question, relations_of, first_rel, used, Label, element_of, elements_of}
use Sheets.{is_in_range, add_tuple, Member, is_member, has_member, SiteDraft, Site, Labelled, add_size, is_taken, add_label, add_member, add_fact, add_to_site}
use Sheets.{site_line, read_site, add_to_picks, picks_line, read_picks}
use Rattle.definitions.specs.Problem.Truth.{Case, members_of, every_tuples}
use Rattle.definitions.specs.Problem.Atoms.{Problem, problem_of, atoms}
use Rattle.definitions.specs.Problem.Actions.{actions}
use Rattle.definitions.specs.Problem.Built.{bound}
use Rattle.definitions.specs.Reply.Outcome.{CaseRead, read_filed, read_case, too_many_values, ground, read_problem}
use Rattle.laws.specs.Booleans.{T_and_l, T_and_r, T_of, T_or, T_false, not_not_T, not_or_l, not_or_r, or_l, or_r}
use Rattle.laws.specs.Tuples.{distinct_snoc, same_eq, same_refl}
use Rattle.laws.specs.Lists.{all_at, any_of, mem_below, none_some, get_or_mem}
use Rattle.laws.specs.Repeats.{Once, once_append}
use Rattle.laws.specs.Members.{IsRange, MembersFit, no_members, members_range}
use Rattle.laws.specs.SetRows.{fun_chosen}
use Rattle.laws.specs.Numbers.{no_relation}
use Rattle.laws.specs.Labels.{LabelsFit, no_labels, mean_small, mean_length, means_small, one_snoc}

-- ---- what holds of a result if it is accepted, of an option if there is something
unfoldable pub Gives : {A : Type 0} → (A → Type 0) → Result A → Type 0
Gives P (refused k place) = Unit {0}
Gives P (accepted a) = P a

unfoldable pub Holds : {A : Type 0} → (A → Type 0) → Option A → Type 0
Holds P none = Unit {0}
Holds P (some a) = P a

module _ {A B : Type 0} where
  gives_bind : (P : A → Type 0) (Q : B → Type 0) (m : Result A) (f : A → Result B) → Gives P m → ((a : A) → P a → Gives Q (f a)) → Gives Q (m >>= f)
  unfolding Gives ◌>>=◌
  gives_bind P Q (refused k place) f h g = tt
  gives_bind P Q (accepted a) f h g = g a h

  pub holds_option : (P : A → Type 0) (Q : B → Type 0) (m : Option A) (f : A → Option B) → Holds P m → ((a : A) → P a → Holds Q (f a)) → Holds Q (option m none f)
  unfolding Holds option
  holds_option P Q none f h g = tt
  holds_option P Q (some a) f h g = g a h

gives_refuse : (b : Bool) (k at : ℕ) → Gives (λ _. T (not b)) (refuse_if b k at)
unfolding Gives refuse_if
gives_refuse true k at = tt
gives_refuse false k at = tt

module _ {A : Type 0} where
  gives_given : (P : A → Type 0) (o : Option A) (k at : ℕ) → Holds P o → Gives P (given o k at)
  unfolding Gives given Holds
  gives_given P none k at h = tt
  gives_given P (some a) k at h = h

  pub holds_if : (P : A → Type 0) (b : Bool) (x y : Option A) → (T b → Holds P x) → Holds P y → Holds P (if b then x else y)
  holds_if P true x y h g = h tt
  holds_if P false x y h g = g

  pub holds_self : (o : Option A) → Holds (λ a. o ≡ some a) o
  unfolding Holds
  holds_self none = tt
  holds_self (some a) = refl

  pub holds_none : (P : A → Type 0) → Holds P none
  unfolding Holds
  holds_none P = tt

  pub holds_some : (P : A → Type 0) (a : A) → P a → Holds P (some a)
  unfolding Holds
  holds_some P a h = h

  gives_accepted : (P : A → Type 0) (a : A) → P a → Gives P (accepted a)
  unfolding Gives
  gives_accepted P a h = h

  gives_refused : (P : A → Type 0) (k at : ℕ) → Gives P (refused k at)
  unfolding Gives
  gives_refused P k at = tt

  gives_self : (r : Result A) → Gives (λ a. r ≡ accepted a) r
  unfolding Gives
  gives_self (refused k place) = tt
  gives_self (accepted a) = refl

  gives_any : (r : Result A) → Gives (λ _. Unit {0}) r
  unfolding Gives
  gives_any (refused k place) = tt
  gives_any (accepted a) = tt

  pub gives_if : (P : A → Type 0) (r : Result A) (a : A) → r ≡ accepted a → Gives P r → P a
  unfolding Gives
  gives_if P r a e h = subst (Gives P) e h

  gives_lines : (P : A → Type 0) (line : A → Line → Result A) → ((s : A) (l : Line) → P s → Gives P (line s l)) → (s : A) (ls : List Line) → P s → Gives P (read_lines line s ls)
  unfolding read_lines
  gives_lines P line h s [] p = gives_accepted P s p
  gives_lines P line h s (l ∷ ls) p = gives_bind P P (line s l) (λ s'. read_lines line s' ls) (h s l p) (λ a q. gives_lines P line h a ls q)

  gives_text : (P : A → Type 0) (line : A → Line → Result A) → ((s : A) (l : Line) → P s → Gives P (line s l)) → (s : A) (text : List ℕ) → P s → Gives P (read_text line s text)
  unfolding read_text
  gives_text P line h s text p = gives_bind (λ _. T (not (ltb text_limit (length text)))) P (refuse_if (ltb text_limit (length text)) 1 zero) (λ _. read_lines line s (lines text)) (gives_refuse (ltb text_limit (length text)) 1 zero) (λ a q. gives_lines P line h s (lines text) p)

holds_more : {A : Type 0} {P Q : A → Type 0} (o : Option A) → ((a : A) → P a → Q a) → Holds P o → Holds Q o
unfolding Holds
holds_more none f h = tt
holds_more (some a) f h = f a h

pub position_holds : {A : Type 0} (p : A → Bool) (xs : List A) (d : A) → Holds (λ i. (i < length xs) × T (p (get_or xs i d))) (position p xs)
unfolding position Holds option
position_holds p [] d = tt
position_holds {A} p (x ∷ xs) d = by_test (p x) refl (position p xs) (position_holds p xs d)
  where
    by_test : (b : Bool) → p x ≡ b → (o : Option ℕ) → Holds (λ i. (i < length xs) × T (p (get_or xs i d))) o → Holds (λ i. (i < suc (length xs)) × T (p (get_or (x ∷ xs) i d))) (if b then some zero else option o none (λ i. some (suc i)))
    by_test true e o h = (omega arith, T_of e)
    by_test false e none h = tt
    by_test false e (some i) h = (omega (arith, h.0), h.1)

-- ---- one record: its arity is 1 to 3, and 2 for the function kinds; a label has a name's form
abbrev pub Arity : ℕ → Type 0
Arity a = (1 ≤ a) × (a ≤ 3)

pub record Fit (arity : ℕ) (kind : Kind) : Type 0 where
  pub few : Arity arity
  pub chosen : T (is_chosen kind)
  pub pairs : T (is_function kind) → arity ≡ 2

unfoldable EntryFits : Entry → Type 0
EntryFits (rel name a) = Arity a
EntryFits (type name) = Unit {0}
EntryFits (choose name a k types) = Fit a k × (is_function k ≡ false → types ≡ [])
EntryFits (every name a) = (1 ≤ a) × (a ≤ 2)
EntryFits (rule f) = Unit {0}
EntryFits (size n) = Unit {0}
EntryFits (label x name) = T (is_relation_name name)
EntryFits (member t x) = Unit {0}
EntryFits (fact name xs) = Unit {0}
EntryFits (pick name xs) = Unit {0}
EntryFits (step k) = Unit {0}

pub between : (a e b : ℕ) → T (is_between a e b) → (a ≤ b) × (b ≤ e)
unfolding is_between
between a e b t = (leb→le a b (T_and_l (leb a b) _ t), leb→le b e (T_and_r (leb a b) _ t))

all_there : {A : Type 0} (o : Option A) → Holds (λ _. Unit {0}) o
unfolding Holds
all_there none = tt
all_there (some a) = tt

arity_fits : (f : List ℕ) → Holds Arity (arity_of f)
unfolding arity_of
arity_fits f = holds_option (λ _. Unit {0}) Arity (number f) _ (all_there (number f)) (λ a _. holds_if Arity (is_between 1 3 a) (some a) none (λ t. holds_some Arity a (between 1 3 a t)) (holds_none Arity))

every_arity_fits : (f : List ℕ) → Holds (λ a. (1 ≤ a) × (a ≤ 2)) (every_arity_of f)
unfolding every_arity_of
every_arity_fits f = holds_option Arity Few (arity_of f) _ (arity_fits f) (λ a h. holds_if Few (leb a 2) (some a) none (λ t. holds_some Few a (h.0, leb→le a 2 t)) (holds_none Few))
  where
    Few : ℕ → Type 0
    Few a = (1 ≤ a) × (a ≤ 2)

two_few : Arity 2
two_few = (omega arith, omega arith)

kind_fits : (f : List ℕ) → Holds (λ k. T (is_function k)) (kind_named f)
unfolding kind_named is_function
kind_fits f =
    holds_if Named (same f (bytes "Fun")) _ _ (λ t. holds_some Named Fun tt)
    (holds_if Named (same f (bytes "PFun")) _ _ (λ t. holds_some Named PFun tt)
    (holds_if Named (same f (bytes "Inj")) _ _ (λ t. holds_some Named Inj tt)
    (holds_if Named (same f (bytes "PInj")) _ _ (λ t. holds_some Named PInj tt)
    (holds_none Named))))
  where
    Named : Kind → Type 0
    Named k = T (is_function k)

function_fits : (name : List ℕ) (k : Kind) (types : List (List ℕ)) → T (is_function k) → Holds EntryFits (some (choose name 2 k types))
unfolding EntryFits
function_fits name k types f = holds_some EntryFits (choose name 2 k types) (record { few = two_few; chosen = fun_chosen k f; pairs = λ t. refl }, λ e. absurd (subst T e f))

choose_fits : (fs : List (List ℕ)) → Holds EntryFits (choose_of fs)
unfolding choose_of EntryFits is_chosen is_function option Holds
choose_fits [] = holds_none EntryFits
choose_fits (name ∷ []) = holds_none EntryFits
choose_fits (name ∷ f ∷ []) = by_option (kind_named f) (kind_fits f)
  where
    by_option : (o : Option Kind) → Holds (λ k. T (is_function k)) o → Holds EntryFits (option o (option (arity_of f) none (λ a. some (choose name a plain []))) (λ k. some (choose name 2 k [])))
    by_option none h = holds_option Arity EntryFits (arity_of f) _ (arity_fits f) (λ a h. holds_some EntryFits (choose name a plain []) (record { few = h; chosen = tt; pairs = λ t. absurd t }, λ e. refl))
    by_option (some k) h = function_fits name k [] h
choose_fits (name ∷ f ∷ t ∷ []) = holds_none EntryFits
choose_fits (name ∷ f ∷ t ∷ u ∷ []) = holds_option (λ k. T (is_function k)) EntryFits (kind_named f) _ (kind_fits f) (λ k h. function_fits name k (t ∷ u ∷ []) h)
choose_fits (name ∷ f ∷ t ∷ u ∷ v ∷ fs) = holds_none EntryFits

two_fits : (make : List ℕ → List ℕ → Option Entry) → ((f g : List ℕ) → Holds EntryFits (make f g)) → (fs : List (List ℕ)) → Holds EntryFits (with_two make fs)
unfolding with_two Holds
two_fits make h [] = tt
two_fits make h (f ∷ []) = tt
two_fits make h (f ∷ g ∷ []) = h f g
two_fits make h (f ∷ g ∷ k ∷ fs) = tt

one_fits : (make : List ℕ → Option Entry) → ((f : List ℕ) → Holds EntryFits (make f)) → (fs : List (List ℕ)) → Holds EntryFits (with_one make fs)
unfolding with_one Holds
one_fits make h [] = tt
one_fits make h (f ∷ []) = h f
one_fits make h (f ∷ g ∷ fs) = tt

elements_fit : (make : List ℕ → List Element → Entry) → ((f : List ℕ) (es : List Element) → EntryFits (make f es)) → (fs : List (List ℕ)) → Holds EntryFits (with_elements make fs)
unfolding with_elements
elements_fit make h [] = holds_none EntryFits
elements_fit make h (f ∷ fs) = holds_if EntryFits (is_between 1 3 (length fs)) _ none (λ t. holds_option (λ _. Unit {0}) EntryFits (elements fs) _ (all_there (elements fs)) (λ xs _. holds_some EntryFits (make f xs) (h f xs))) (holds_none EntryFits)

label_fits : (f name : List ℕ) → Holds EntryFits (label_of f name)
unfolding label_of EntryFits
label_fits f name = holds_if EntryFits (is_relation_name name) _ none (λ t. holds_option (λ _. Unit {0}) EntryFits (element f) _ (all_there (element f)) (λ x _. holds_some EntryFits (label x name) t)) (holds_none EntryFits)

member_fits : (name f : List ℕ) → Holds EntryFits (member_of name f)
unfolding member_of EntryFits
member_fits name f = holds_option (λ _. Unit {0}) EntryFits (element f) _ (all_there (element f)) (λ x _. holds_some EntryFits (member name x) tt)

entry_fits : (fs : List (List ℕ)) → Holds EntryFits (entry fs)
unfolding entry EntryFits
entry_fits [] = holds_none EntryFits
entry_fits (w ∷ fs) =
    holds_if EntryFits (same w (bytes "rel")) _ _ (λ t. two_fits (λ name a. option (arity_of a) none (λ k. some (rel name k))) (λ name a. holds_option Arity EntryFits (arity_of a) _ (arity_fits a) (λ k h. holds_some EntryFits (rel name k) h)) fs)
    (holds_if EntryFits (same w (bytes "type")) _ _ (λ t. one_fits (λ f. some (type f)) (λ f. holds_some EntryFits (type f) tt) fs)
    (holds_if EntryFits (same w (bytes "choose")) _ _ (λ t. choose_fits fs)
    (holds_if EntryFits (same w (bytes "every")) _ _ (λ t. two_fits (λ name a. option (every_arity_of a) none (λ k. some (every name k))) (λ name a. holds_option (λ k. (1 ≤ k) × (k ≤ 2)) EntryFits (every_arity_of a) _ (every_arity_fits a) (λ k h. holds_some EntryFits (every name k) h)) fs)
    (holds_if EntryFits (same w (bytes "rule")) _ _ (λ t. one_fits (λ f. some (rule f)) (λ f. holds_some EntryFits (rule f) tt) fs)
    (holds_if EntryFits (same w (bytes "size")) _ _ (λ t. one_fits (λ f. option (number f) none (λ n. some (size n))) (λ f. holds_option (λ _. Unit {0}) EntryFits (number f) _ (all_there (number f)) (λ n _. holds_some EntryFits (size n) tt)) fs)
    (holds_if EntryFits (same w (bytes "label")) _ _ (λ t. two_fits label_of label_fits fs)
    (holds_if EntryFits (same w (bytes "member")) _ _ (λ t. two_fits member_of member_fits fs)
    (holds_if EntryFits (same w (bytes "fact")) _ _ (λ t. elements_fit fact (λ f g. tt) fs)
    (holds_if EntryFits (same w (bytes "pick")) _ _ (λ t. elements_fit pick (λ f g. tt) fs)
    (holds_if EntryFits (same w (bytes "step")) _ _ (λ t. one_fits (λ f. option (number f) none (λ n. some (step n))) (λ f. holds_option (λ _. Unit {0}) EntryFits (number f) _ (all_there (number f)) (λ n _. holds_some EntryFits (step n) tt)) fs)
    (holds_none EntryFits)))))))))))

line_fits : (l : Line) → Gives EntryFits (entry_of l)
unfolding entry_of
line_fits l = gives_given EntryFits _ 2 l.at (holds_if EntryFits l.ended (entry (fields l)) none (λ t. entry_fits (fields l)) (holds_none EntryFits))

-- ---- names are apart
unfoldable pub Apart : List Relation → Type 0
Apart [] = Unit {0}
Apart (k ∷ ks) = T (not (is_declared ks k.name)) × Apart ks

declared_snoc : (ks : List Relation) (x : Relation) (name : List ℕ) → T (is_declared (ks ++ (x ∷ [])) name) → T (is_declared ks name) ⊎ T (same x.name name)
unfolding is_declared any
declared_snoc [] x name t = ⊎_elim (λ q. inr q) (λ q. absurd q) (T_or (same x.name name) _ t)
declared_snoc (k ∷ ks) x name t = ⊎_elim (λ q. inl (or_l (same k.name name) _ q)) (λ q. ⊎_elim (λ r. inl (or_r (same k.name name) _ r)) (λ r. inr r) (declared_snoc ks x name q)) (T_or (same k.name name) _ t)

apart_snoc : (ks : List Relation) (x : Relation) → Apart ks → T (not (is_declared ks x.name)) → Apart (ks ++ (x ∷ []))
unfolding Apart is_declared any
apart_snoc [] x a h = (tt, tt)
apart_snoc (k ∷ ks) x a h = (
  not_T (is_declared (ks ++ (x ∷ [])) k.name) (λ t. ⊎_elim (λ q. T_not (is_declared ks k.name) a.0 q)
      (λ q. T_not (same k.name x.name || is_declared ks x.name) h
      (or_l (same k.name x.name) _ (subst (λ (n : List ℕ). T (same k.name n)) (sym (same_eq x.name k.name q)) (same_refl k.name))))
      (declared_snoc ks x k.name t)),
  apart_snoc ks x a.1 (not_T (is_declared ks x.name) (λ t. T_not (same k.name x.name || is_declared ks x.name) h (or_r (same k.name x.name) _ t))),
)

pub apart_at : (ks : List Relation) (j i : ℕ) → Apart ks → j < i → i < length ks → same (get_or ks j no_relation).name (get_or ks i no_relation).name ≡ false
unfolding Apart is_declared
apart_at [] j i a h l = absurd (omega arith)
apart_at (k ∷ ks) j zero a h l = absurd (omega arith)
apart_at (k ∷ ks) zero (suc i) a h l = T_false (same k.name (get_or ks i no_relation).name) (λ t.
    T_not (any (λ (r : Relation). same r.name k.name) ks) a.0 (any_of (λ (r : Relation). same r.name k.name) ks (get_or ks i no_relation) (get_or_mem ks i no_relation (omega arith))
    (subst (λ (x : List ℕ). T (same x k.name)) (same_eq k.name (get_or ks i no_relation).name t) (same_refl k.name))))
apart_at (k ∷ ks) (suc j) (suc i) a h l = apart_at ks j i a.1 (omega arith) (omega arith)

-- ---- the question's lines so far
pub record RelFits (k : Relation) : Type 0 where
  pub few : Arity k.arity
  pub is_static_lem : k.kind ≡ static
  pub named : T (is_relation_name k.name)
  pub no_sorts : (k.firsts ≡ 0) × (k.seconds ≡ 0)

-- the sorts of its places: of types that are declared, and of none unless it is of a function kind
pub record SortsFit (types : ℕ) (k : Relation) : Type 0 where
  pub firsts_few : k.firsts ≤ types
  pub seconds_few : k.seconds ≤ types
  pub no_sorts : is_function k.kind ≡ false → (k.firsts ≡ 0) × (k.seconds ≡ 0)

pub unsorted_fits : (types : ℕ) (k : Relation) → (k.firsts ≡ 0) × (k.seconds ≡ 0) → SortsFit types k
unsorted_fits types k h = record { firsts_few = omega (arith, h.0); seconds_few = omega (arith, h.1); no_sorts = λ _. h }

-- that of an `every` line
pub record EveryFits (k : Relation) : Type 0 where
  pub few : (1 ≤ k.arity) × (k.arity ≤ 2)
  pub is_universal_lem : k.kind ≡ universal
  pub no_sorts : (k.firsts ≡ 0) × (k.seconds ≡ 0)
  pub named : T (is_relation_name k.name)

pub record RuleFits (rels : List Relation) (types : List (List ℕ)) (chosen : List Relation) (last : Option Relation) (r : Rule) : Type 0 where
  pub scoped : T (is_scoped [] r.formula)
  pub known : T (is_known (relations rels chosen last) r.formula)
  pub typed : T (is_typed types r.formula)
  pub nested : nesting r.formula ≤ 4
  pub few_forms : all_forms chosen r.formula ≤ 64
  pub some_chosen : T (not (is_empty chosen))

-- types: few, each of a name's form, and none declared twice
pub record TypesFit (types : List (List ℕ)) : Type 0 where
  pub few : length types ≤ 8
  pub named : (t : List ℕ) → Memᴰ t types → T (is_relation_name t)
  pub once : Once types

record DraftFits (d : Draft) : Type 0 where
  rels_fit : (k : Relation) → Memᴰ k d.rels → RelFits k
  types_fit : TypesFit d.types
  chosen_fit : (k : Relation) → Memᴰ k d.chosen → Fit k.arity k.kind
  chosen_named : (k : Relation) → Memᴰ k d.chosen → T (is_relation_name k.name)
  chosen_sorted : (k : Relation) → Memᴰ k d.chosen → SortsFit (length d.types) k
  every_fits : Holds EveryFits d.every
  every_chosen : T (is_some d.every) → T (not (is_empty d.chosen))
  apart : Apart (relations d.rels d.chosen d.every)
  ruled_fits : Holds (RuleFits d.rels d.types d.chosen d.every) d.ruled

pub mem_snoc : {A : Type 0} (P : A → Type 0) (l : List A) (x : A) → ((y : A) → Memᴰ y l → P y) → P x → (y : A) → Memᴰ y (l ++ (x ∷ [])) → P y
mem_snoc P l x h p y m = ⊎_elim (λ q. h y q) (λ q. subst P (sym (Memᴰ.eq_of_singleton q)) p) (Memᴰ.append_cases l m)

empty_nil : {A : Type 0} (l : List A) → T (not (not (is_empty l))) → l ≡ []
unfolding is_empty
empty_nil [] t = refl
empty_nil (x ∷ l) t = absurd t

-- without an `every` line, and with one
pub relations_none : (rels chosen : List Relation) → relations rels chosen none ≡ built_in ++ (rels ++ chosen)
unfolding relations listed
relations_none rels chosen = ap (λ (l : List Relation). built_in ++ (rels ++ l)) (append-nil chosen)

relations_every : (rels chosen : List Relation) (x : Relation) → relations rels chosen (some x) ≡ relations rels chosen none ++ (x ∷ [])
unfolding relations listed
relations_every rels chosen x =
    ap (λ (l : List Relation). built_in ++ l) (sym (append_assoc rels chosen (x ∷ []))) ∙ sym (append_assoc built_in (rels ++ chosen) (x ∷ []))
    ∙ ap (λ (l : List Relation). l ++ (x ∷ [])) (sym (relations_none rels chosen))

relations_snoc : (rels chosen : List Relation) (x : Relation) → relations rels (chosen ++ (x ∷ [])) none ≡ relations rels chosen none ++ (x ∷ [])
relations_snoc rels chosen x =
    relations_none rels (chosen ++ (x ∷ [])) ∙ ap (λ (l : List Relation). built_in ++ l) (sym (append_assoc rels chosen (x ∷ []))) ∙ sym (append_assoc built_in (rels ++ chosen) (x ∷ []))
    ∙ ap (λ (l : List Relation). l ++ (x ∷ [])) (sym (relations_none rels chosen))

relations_snoc_rel : (rels : List Relation) (x : Relation) → relations (rels ++ (x ∷ [])) [] none ≡ relations rels [] none ++ (x ∷ [])
relations_snoc_rel rels x =
    relations_none (rels ++ (x ∷ [])) [] ∙ ap (λ (l : List Relation). built_in ++ l) (append-nil (rels ++ (x ∷ [])) ∙ ap (λ (l : List Relation). l ++ (x ∷ [])) (sym (append-nil rels)))
    ∙ sym (append_assoc built_in (rels ++ []) (x ∷ [])) ∙ ap (λ (l : List Relation). l ++ (x ∷ [])) (sym (relations_none rels []))

pub not_some : {A : Type 0} (o : Option A) → T (not (is_some o)) → o ≡ none
unfolding is_some
not_some none t = refl
not_some (some a) t = absurd t

-- one relation more: a `rel` where nothing else is declared, a `choose` where there is no `every` line, the relation of an `every` line
rel_apart : (rels chosen : List Relation) (o : Option Relation) (x : Relation) → chosen ≡ [] → o ≡ none → Apart (relations rels chosen o) → T (not (is_declared (relations rels chosen o) x.name)) → Apart (relations (rels ++ (x ∷ [])) chosen o)
rel_apart rels [] none x e f a n = subst Apart (sym (relations_snoc_rel rels x)) (apart_snoc (relations rels [] none) x a n)
rel_apart rels [] (some k) x e f a n = absurd (none_some (sym f))
rel_apart rels (c ∷ chosen) o x e f a n = absurd (nil≢cons (sym e))

choose_apart : (rels chosen : List Relation) (o : Option Relation) (x : Relation) → o ≡ none → Apart (relations rels chosen o) → T (not (is_declared (relations rels chosen o) x.name)) → Apart (relations rels (chosen ++ (x ∷ [])) o)
choose_apart rels chosen none x f a n = subst Apart (sym (relations_snoc rels chosen x)) (apart_snoc (relations rels chosen none) x a n)
choose_apart rels chosen (some k) x f a n = absurd (none_some (sym f))

every_apart : (rels chosen : List Relation) (o : Option Relation) (x : Relation) → o ≡ none → Apart (relations rels chosen o) → T (not (is_declared (relations rels chosen o) x.name)) → Apart (relations rels chosen (some x))
every_apart rels chosen none x f a n = subst Apart (sym (relations_every rels chosen x)) (apart_snoc (relations rels chosen none) x a n)
every_apart rels chosen (some k) x f a n = absurd (none_some (sym f))

-- where nothing is chosen there is no `every` line
no_every : {A B : Type 0} (o : Option A) (l : List B) → (T (is_some o) → T (not (is_empty l))) → l ≡ [] → o ≡ none
unfolding is_some is_empty
no_every none l h e = refl
no_every (some a) [] h e = absurd (h tt)
no_every (some a) (x ∷ l) h e = absurd (nil≢cons (sym e))

snoc_some : {A : Type 0} (l : List A) (x : A) → T (not (is_empty (l ++ (x ∷ []))))
unfolding is_empty
snoc_some [] x = tt
snoc_some (y ∷ l) x = tt

no_types_lem : TypesFit []
unfolding Once
no_types_lem = record { few = omega arith; named = λ t m. absurd (Memᴰ.not-nil m); once = tt }

once_one : (name : List ℕ) → Once (name ∷ [])
unfolding Once
once_one name = (λ m. Memᴰ.not-nil m, tt)

types_more : (types : List (List ℕ)) (name : List ℕ) → T (not (leb 8 (length types))) → length (types ++ (name ∷ [])) ≤ 8
types_more types name t = let h = nleb→lt 8 (length types) t in let e = length-append types (name ∷ []) in omega arith

-- where nothing was chosen there is no rule yet
no_rule : (rels : List Relation) (types : List (List ℕ)) (chosen : List Relation) (last : Option Relation) (o : Option Rule) → Holds (RuleFits rels types chosen last) o → T (not (not (is_empty chosen))) → (P : Rule → Type 0) → Holds P o
unfolding Holds
no_rule rels types chosen last none h t P = tt
no_rule rels types chosen last (some r) h t P = absurd (T_not (not (is_empty chosen)) t h.some_chosen)

not_ruled : (o : Option Rule) → T (not (is_ruled o)) → (P : Rule → Type 0) → Holds P o
unfolding Holds is_ruled
not_ruled none t P = tt
not_ruled (some r) t P = absurd t

new_name : (d : Draft) (name : List ℕ) → T (not (not (is_new_name d name))) → T (not (is_declared (relations d.rels d.chosen d.every) name))
unfolding is_new_name
new_name d name t = T_and_r (is_relation_name name) _ (not_not_T (is_new_name d name) t)

formed_name : (d : Draft) (name : List ℕ) → T (not (not (is_new_name d name))) → T (is_relation_name name)
unfolding is_new_name
formed_name d name t = T_and_l (is_relation_name name) _ (not_not_T (is_new_name d name) t)

rel_line : (d : Draft) (at : ℕ) (name : List ℕ) (arity : ℕ) → DraftFits d → Arity arity → Gives DraftFits (add_rel d at name arity)
unfolding add_rel
rel_line d at name arity D h =
    gives_bind (λ _. T (not (not (is_empty d.types) || not (is_empty d.chosen) || leb 8 (length d.rels)))) DraftFits _ _ (gives_refuse (not (is_empty d.types) || not (is_empty d.chosen) || leb 8 (length d.rels)) 3 at)
    (λ _ t. let z = not_or_r (not (is_empty d.types)) (not (is_empty d.chosen)) (not_or_l (not (is_empty d.types) || not (is_empty d.chosen)) (leb 8 (length d.rels)) t) in
    gives_bind (λ _. T (not (not (is_new_name d name)))) DraftFits _ _ (gives_refuse (not (is_new_name d name)) 4 at)
    (λ _ u. gives_accepted DraftFits _ (record {
      rels_fit = mem_snoc RelFits d.rels (fixed name arity) D.rels_fit (record { few = h; is_static_lem = refl; named = formed_name d name u; no_sorts = (refl, refl) });
      types_fit = D.types_fit;
      chosen_fit = D.chosen_fit;
      chosen_named = D.chosen_named;
      chosen_sorted = D.chosen_sorted;
      every_fits = D.every_fits;
      every_chosen = D.every_chosen;
      apart = rel_apart d.rels d.chosen d.every (fixed name arity) (empty_nil d.chosen z) (no_every d.every d.chosen D.every_chosen (empty_nil d.chosen z)) D.apart (new_name d name u);
      ruled_fits = no_rule d.rels d.types d.chosen d.every d.ruled D.ruled_fits z (RuleFits (d.rels ++ (fixed name arity ∷ [])) d.types d.chosen d.every);
    })))

-- a place's sort is 0 or that of a declared type
pub sort_named_lem : (types : List (List ℕ)) (name : List ℕ) → sort_named types name ≤ length types
unfolding sort_named type_number option Holds
sort_named_lem types name = by_option (position (λ t. same t name) types) (position_holds (λ t. same t name) types [])
  where
    by_option : (o : Option ℕ) → Holds (λ i. (i < length types) × T (same (get_or types i []) name)) o → option o zero suc ≤ length types
    by_option none h = omega arith
    by_option (some i) h = omega (arith, h.0)

place_sort_lem : (types names : List (List ℕ)) (i : ℕ) → place_sort types names i ≤ length types
unfolding place_sort
place_sort_lem types [] i = omega arith
place_sort_lem types (name ∷ names) zero = sort_named_lem types name
place_sort_lem types (name ∷ names) (suc i) = place_sort_lem types names i

sorts_more : (m n : ℕ) (k : Relation) → m ≤ n → SortsFit m k → SortsFit n k
sorts_more m n k h s = record { firsts_few = omega (arith, s.firsts_few); seconds_few = omega (arith, s.seconds_few); no_sorts = s.no_sorts }

none_sorted : (types : List (List ℕ)) (i : ℕ) → place_sort types [] i ≡ 0
unfolding place_sort
none_sorted types i = refl

type_line : (d : Draft) (at : ℕ) (name : List ℕ) → DraftFits d → Gives DraftFits (add_type d at name)
unfolding add_type is_type
type_line d at name D =
    gives_bind (λ _. T (not (not (is_empty d.chosen) || leb 8 (length d.types)))) DraftFits _ _ (gives_refuse (not (is_empty d.chosen) || leb 8 (length d.types)) 3 at)
    (λ _ t. gives_bind (λ _. T (not (not (is_relation_name name)))) DraftFits _ _ (gives_refuse (not (is_relation_name name)) 4 at)
    (λ _ u. gives_bind (λ _. T (not (is_type d.types name))) DraftFits _ _ (gives_refuse (is_type d.types name) 19 at)
    (λ _ v. gives_accepted DraftFits _ (record {
      rels_fit = D.rels_fit;
      types_fit = record {
        few = types_more d.types name (not_or_r (not (is_empty d.chosen)) (leb 8 (length d.types)) t);
        named = mem_snoc (λ t. T (is_relation_name t)) d.types name D.types_fit.named (not_not_T (is_relation_name name) u);
        once = once_append d.types (name ∷ []) D.types_fit.once (once_one name) (λ x m i. T_not (is_type d.types name) v (any_of (λ t. same t name) d.types x m (subst (λ (y : List ℕ). T (same x y)) (Memᴰ.eq_of_singleton i) (same_refl x))));
      };
      chosen_fit = D.chosen_fit;
      chosen_named = D.chosen_named;
      chosen_sorted = λ k m. sorts_more (length d.types) (length (d.types ++ (name ∷ []))) k (omega (arith, length-append d.types (name ∷ []))) (D.chosen_sorted k m);
      every_fits = D.every_fits;
      every_chosen = D.every_chosen;
      apart = D.apart;
      ruled_fits = no_rule d.rels d.types d.chosen d.every d.ruled D.ruled_fits (not_or_l (not (is_empty d.chosen)) (leb 8 (length d.types)) t) (RuleFits d.rels (d.types ++ (name ∷ [])) d.chosen d.every);
    }))))

choose_line : (d : Draft) (at : ℕ) (name : List ℕ) (arity : ℕ) (kind : Kind) (names : List (List ℕ)) → DraftFits d → Fit arity kind × (is_function kind ≡ false → names ≡ []) → Gives DraftFits (add_choose d at name arity kind names)
unfolding add_choose
choose_line d at name arity kind names D h =
    gives_bind (λ _. T (not (is_some d.every || is_ruled d.ruled || leb 4 (length d.chosen)))) DraftFits _ _ (gives_refuse (is_some d.every || is_ruled d.ruled || leb 4 (length d.chosen)) 3 at)
    (λ _ t. gives_bind (λ _. T (not (not (is_new_name d name)))) DraftFits _ _ (gives_refuse (not (is_new_name d name)) 4 at)
    (λ _ u. gives_bind (λ _. T (not (not (all (is_type d.types) names)))) DraftFits _ _ (gives_refuse (not (all (is_type d.types) names)) 19 at)
    (λ _ v. gives_accepted DraftFits _ (record {
      rels_fit = D.rels_fit;
      types_fit = D.types_fit;
      chosen_fit = mem_snoc (λ (k : Relation). Fit k.arity k.kind) d.chosen new D.chosen_fit h.0;
      chosen_named = mem_snoc (λ (k : Relation). T (is_relation_name k.name)) d.chosen new D.chosen_named (formed_name d name u);
      chosen_sorted = mem_snoc (SortsFit (length d.types)) d.chosen new D.chosen_sorted (record { firsts_few = place_sort_lem d.types names 0; seconds_few = place_sort_lem d.types names 1; no_sorts = λ e. unsorted (h.1 e) });
      every_fits = D.every_fits;
      every_chosen = λ _. snoc_some d.chosen new;
      apart = choose_apart d.rels d.chosen d.every new (not_some d.every (not_or_l (is_some d.every) (is_ruled d.ruled) (not_or_l (is_some d.every || is_ruled d.ruled) (leb 4 (length d.chosen)) t))) D.apart (new_name d name u);
      ruled_fits = not_ruled d.ruled (not_or_r (is_some d.every) (is_ruled d.ruled) (not_or_l (is_some d.every || is_ruled d.ruled) (leb 4 (length d.chosen)) t)) (RuleFits d.rels d.types (d.chosen ++ (new ∷ [])) d.every);
    }))))
  where
    new : Relation
    new = record { name = name; arity = arity; kind = kind; firsts = place_sort d.types names 0; seconds = place_sort d.types names 1 }

    unsorted : names ≡ [] → (place_sort d.types names 0 ≡ 0) × (place_sort d.types names 1 ≡ 0)
    unsorted e = (ap (λ (l : List (List ℕ)). place_sort d.types l 0) e ∙ none_sorted d.types 0, ap (λ (l : List (List ℕ)). place_sort d.types l 1) e ∙ none_sorted d.types 1)

every_line : (d : Draft) (at : ℕ) (name : List ℕ) (arity : ℕ) → DraftFits d → (1 ≤ arity) × (arity ≤ 2) → Gives DraftFits (add_every d at name arity)
unfolding add_every
every_line d at name arity D h =
    gives_bind (λ _. T (not (is_some d.every || is_ruled d.ruled || is_empty d.chosen))) DraftFits _ _ (gives_refuse (is_some d.every || is_ruled d.ruled || is_empty d.chosen) 3 at)
    (λ _ t. let early = not_or_l (is_some d.every || is_ruled d.ruled) (is_empty d.chosen) t in
    gives_bind (λ _. T (not (not (is_new_name d name)))) DraftFits _ _ (gives_refuse (not (is_new_name d name)) 4 at)
    (λ _ u. gives_accepted DraftFits _ (record {
      rels_fit = D.rels_fit;
      types_fit = D.types_fit;
      chosen_fit = D.chosen_fit;
      chosen_named = D.chosen_named;
      chosen_sorted = D.chosen_sorted;
      every_fits = holds_some EveryFits (varying name arity) (record { few = h; is_universal_lem = refl; no_sorts = (refl, refl); named = formed_name d name u });
      every_chosen = λ _. not_or_r (is_some d.every || is_ruled d.ruled) (is_empty d.chosen) t;
      apart = every_apart d.rels d.chosen d.every (varying name arity) (not_some d.every (not_or_l (is_some d.every) (is_ruled d.ruled) early)) D.apart (new_name d name u);
      ruled_fits = not_ruled d.ruled (not_or_r (is_some d.every) (is_ruled d.ruled) early) (RuleFits d.rels d.types d.chosen (some (varying name arity)));
    })))

rule_line : (d : Draft) (at : ℕ) (text : List ℕ) → DraftFits d → Gives DraftFits (add_rule d at text)
unfolding add_rule
rule_line d at text D =
    gives_bind (λ _. T (not (is_ruled d.ruled || is_empty d.chosen))) DraftFits _ _ (gives_refuse (is_ruled d.ruled || is_empty d.chosen) 3 at)
    (λ _ t. gives_bind (λ _. Unit {0}) DraftFits (given (read_formula text) 5 at) _ (gives_given (λ _. Unit {0}) (read_formula text) 5 at (all_there (read_formula text)))
    (λ f _. gives_bind (λ _. T (not (ltb 64 (all_forms d.chosen f) || ltb 4 (nesting f)))) DraftFits _ _ (gives_refuse (ltb 64 (all_forms d.chosen f) || ltb 4 (nesting f)) 6 at)
    (λ _ u. gives_bind (λ _. T (not (not (is_known (relations d.rels d.chosen d.every) f)))) DraftFits _ _ (gives_refuse (not (is_known (relations d.rels d.chosen d.every) f)) 7 at)
    (λ _ v. gives_bind (λ _. T (not (not (is_scoped [] f)))) DraftFits _ _ (gives_refuse (not (is_scoped [] f)) 8 at)
    (λ _ w. gives_bind (λ _. T (not (not (is_typed d.types f)))) DraftFits _ _ (gives_refuse (not (is_typed d.types f)) 19 at)
    (λ _ x. gives_accepted DraftFits _ (record {
      rels_fit = D.rels_fit;
      types_fit = D.types_fit;
      chosen_fit = D.chosen_fit;
      chosen_named = D.chosen_named;
      chosen_sorted = D.chosen_sorted;
      every_fits = D.every_fits;
      every_chosen = D.every_chosen;
      apart = D.apart;
      ruled_fits = holds_some (RuleFits d.rels d.types d.chosen d.every) _ (record {
        scoped = not_not_T (is_scoped [] f) w;
        known = not_not_T (is_known (relations d.rels d.chosen d.every) f) v;
        typed = not_not_T (is_typed d.types f) x;
        nested = nltb→le 4 (nesting f) (not_or_r (ltb 64 (all_forms d.chosen f)) (ltb 4 (nesting f)) u);
        few_forms = nltb→le 64 (all_forms d.chosen f) (not_or_l (ltb 64 (all_forms d.chosen f)) (ltb 4 (nesting f)) u);
        some_chosen = not_or_r (is_ruled d.ruled) (is_empty d.chosen) t;
      });
    })))))))

question_entry : (d : Draft) (at : ℕ) (e : Entry) → DraftFits d → EntryFits e → Gives DraftFits (add_to_question d at e)
unfolding add_to_question EntryFits
question_entry d at (rel name a) D h = rel_line d at name a D h
question_entry d at (type name) D h = type_line d at name D
question_entry d at (choose name a k types) D h = choose_line d at name a k types D h
question_entry d at (every name a) D h = every_line d at name a D h
question_entry d at (rule f) D h = rule_line d at f D
question_entry d at (size n) D h = gives_refused DraftFits 3 at
question_entry d at (label x name) D h = gives_refused DraftFits 3 at
question_entry d at (member t x) D h = gives_refused DraftFits 3 at
question_entry d at (fact name xs) D h = gives_refused DraftFits 3 at
question_entry d at (pick name xs) D h = gives_refused DraftFits 3 at
question_entry d at (step k) D h = gives_refused DraftFits 3 at

line_step : (d : Draft) (l : Line) → DraftFits d → Gives DraftFits (question_line d l)
unfolding question_line
line_step d l D = gives_bind EntryFits DraftFits (entry_of l) (add_to_question d l.at) (line_fits l) (λ e h. question_entry d l.at e D h)

-- what of a question the readers assure
pub record QuestionFits (q : Question) : Type 0 where
  pub rels_fit : (k : Relation) → Memᴰ k q.rels → RelFits k
  pub types_fit : TypesFit q.types
  pub chosen_fit : (k : Relation) → Memᴰ k q.chosen → Fit k.arity k.kind
  pub chosen_named : (k : Relation) → Memᴰ k q.chosen → T (is_relation_name k.name)
  pub chosen_sorted : (k : Relation) → Memᴰ k q.chosen → SortsFit (length q.types) k
  pub every_fits : Holds EveryFits q.every
  pub apart : Apart (relations_of q)
  pub rule_fits : RuleFits q.rels q.types q.chosen q.every q.rule

built_in_apart : Apart (relations [] [] none)
unfolding relations listed built_in Apart is_declared any same
built_in_apart = (tt, (tt, (tt, (tt, (tt, tt)))))

pub question_fits : (text : List ℕ) → Gives QuestionFits (read_question text)
unfolding read_question relations_of is_some
question_fits text =
    gives_bind DraftFits QuestionFits (read_text question_line (record { rels = []; types = []; chosen = []; every = none; ruled = none }) text) _
    (gives_text DraftFits question_line line_step (record { rels = []; types = []; chosen = []; every = none; ruled = none }) text
    (record {
      rels_fit = λ k m. absurd (Memᴰ.not-nil m);
      types_fit = no_types_lem;
      chosen_fit = λ k m. absurd (Memᴰ.not-nil m);
      chosen_named
          = λ k m. absurd (Memᴰ.not-nil m);
      chosen_sorted = λ k m. absurd (Memᴰ.not-nil m);
      every_fits = holds_none EveryFits;
      every_chosen = λ t. absurd t;
      apart = built_in_apart;
      ruled_fits = holds_none (RuleFits [] [] [] none);
    }))
    (λ d D. gives_bind (RuleFits d.rels d.types d.chosen d.every) QuestionFits (given d.ruled 3 (length text)) _ (gives_given (RuleFits d.rels d.types d.chosen d.every) d.ruled 3 (length text) D.ruled_fits)
    (λ r R. gives_accepted QuestionFits _ (record { rels_fit = D.rels_fit; types_fit = D.types_fit; chosen_fit = D.chosen_fit; chosen_named = D.chosen_named; chosen_sorted = D.chosen_sorted; every_fits = D.every_fits; apart = D.apart; rule_fits = R })))

-- ---- tuples of a sheet
-- a tuple of one of the relations, whose numbers begin at `first`, over n elements
pub record TupleFits (rs : List Relation) (first n : ℕ) (t : Tuple) : Type 0 where
  pub index : ℕ
  pub numbered : t.relation ≡ first + index
  pub inside : index < length rs
  pub length_arity : length t.places ≡ (get_or rs index no_relation).arity
  pub small : T (all (λ x. ltb x n) t.places)

pub record TuplesFit (rs : List Relation) (first n : ℕ) (ts : List Tuple) : Type 0 where
  pub each_fits : (t : Tuple) → Memᴰ t ts → TupleFits rs first n t
  pub distinct : T (are_distinct ts)

tuple_line : (rs : List Relation) (first n : ℕ) (labels : List Label) (ts : List Tuple) (at : ℕ) (name : List ℕ) (es : List Element) → LabelsFit n labels → TuplesFit rs first n ts → Gives (TuplesFit rs first n) (add_tuple rs first n labels ts at name es)
unfolding add_tuple used
tuple_line rs first n labels ts at name es K F =
    gives_bind Used (TuplesFit rs first n) (given (option found none (λ i. some (first + i))) 7 at) _
    (gives_given Used (option found none (λ i. some (first + i))) 7 at
    (holds_option (λ i. (i < length rs) × T (same (get_or rs i no_relation).name name && eqb (get_or rs i no_relation).arity (length es))) Used found _ (position_holds (λ (r : Relation). same r.name name && eqb r.arity (length es)) rs no_relation)
    (λ i h. holds_some Used (first + i) (i, refl, h.0, sym (eqb→eq _ _ (T_and_r (same (get_or rs i no_relation).name name) _ h.1))))))
    (λ r u. gives_bind (λ _. T (not (not (all (is_in_range n) es)))) (TuplesFit rs first n) _ _ (gives_refuse (not (all (is_in_range n) es)) 9 at)
    (λ _ v. gives_bind (λ xs. elements_of labels es ≡ some xs) (TuplesFit rs first n) _ _ (gives_given (λ xs. elements_of labels es ≡ some xs) (elements_of labels es) 18 at (holds_self (elements_of labels es)))
    (λ xs q. gives_bind (λ _. T (not (is_among (record { relation = r; places = xs }) ts))) (TuplesFit rs first n) _ _ (gives_refuse (is_among (record { relation = r; places = xs }) ts) 10 at)
    (λ _ w. gives_accepted (TuplesFit rs first n) _ (record {
      each_fits = mem_snoc (TupleFits rs first n) ts (record { relation = r; places = xs }) F.each_fits (record { index = u.0; numbered = u.1; inside = u.2; length_arity = mean_length labels es xs q ∙ u.3; small = mean_small n labels K es xs (not_not_T (all (is_in_range n) es) v) q });
      distinct = distinct_snoc ts (record { relation = r; places = xs }) F.distinct w;
    })))))
  where
    found : Option ℕ
    found = position (λ (r : Relation). same r.name name && eqb r.arity (length es)) rs

    Used : ℕ → Type 0
    Used r = (i : ℕ) × (r ≡ first + i) × (i < length rs) × (length es ≡ (get_or rs i no_relation).arity)

-- ---- the site's lines so far
pub record SizedFits (rs : List Relation) (types : List (List ℕ)) (labels : List Label) (members : List Member) (facts : List Tuple) (n : ℕ) : Type 0 where
  pub some_element : 1 ≤ n
  pub few_elements : n ≤ 64
  pub labels_fit : LabelsFit n labels
  pub members_fit : MembersFit (length types) n members
  pub facts_fit : TuplesFit rs first_rel n facts

unfoldable pub DraftSite : List Relation → List (List ℕ) → Option ℕ → List Label → List Member → List Tuple → Type 0
DraftSite rs types none labels members facts = (labels ≡ []) × (members ≡ []) × (facts ≡ [])
DraftSite rs types (some n) labels members facts = SizedFits rs types labels members facts n

abbrev pub SiteSoFar : List Relation → List (List ℕ) → SiteDraft → Type 0
SiteSoFar rs types d = DraftSite rs types d.sized d.labels d.members d.facts

module _ (rs : List Relation) (types : List (List ℕ)) where
  size_line : (L : CaseLimits) → L.elements ≤ 64 → (d : SiteDraft) (at n : ℕ) (o : Option ℕ) → DraftSite rs types o d.labels d.members d.facts → Gives (SiteSoFar rs types) (add_size L d at n o)
  unfolding add_size DraftSite are_distinct
  size_line L few d at n none D = gives_bind (λ _. T (not (not (is_between 1 L.elements n)))) (SiteSoFar rs types) (refuse_if (not (is_between 1 L.elements n)) 9 at) _ (gives_refuse (not (is_between 1 L.elements n)) 9 at)
      (λ _ t. let b = between 1 L.elements n (not_not_T (is_between 1 L.elements n) t) in gives_accepted (SiteSoFar rs types) _ (record {
        some_element = b.0;
        few_elements = omega (arith, b.1);
        labels_fit = subst (LabelsFit n) (sym D.0) (no_labels n);
        members_fit = subst (MembersFit (length types) n) (sym D.1) (no_members (length types) n);
        facts_fit = subst (TuplesFit rs first_rel n) (sym D.2) (record { each_fits = λ t m. absurd (Memᴰ.not-nil m); distinct = tt });
      }))
  size_line L few d at n (some m) D = gives_refused (SiteSoFar rs types) 3 at

  label_line : (labels : List Label) (members : List Member) (facts : List Tuple) (o : Option ℕ) (at : ℕ) (e : Element) (name : List ℕ)
      → T (is_relation_name name) → DraftSite rs types o labels members facts
      → Gives (SiteSoFar rs types) (add_label (record { sized = o; labels = labels; members = members; facts = facts }) at e name)
  unfolding add_label DraftSite given ◌>>=◌
  label_line labels members facts none at e name h D = gives_refused (SiteSoFar rs types) 3 at
  label_line labels members facts (some n) at e name h D =
      gives_bind (λ _. Unit {0}) (SiteSoFar rs types) (refuse_if (not (is_empty members) || not (is_empty facts)) 3 at) _ (gives_any _)
      (λ _ _. gives_bind (λ _. T (not (not (is_in_range n e)))) (SiteSoFar rs types) (refuse_if (not (is_in_range n e)) 9 at) _ (gives_refuse (not (is_in_range n e)) 9 at)
      (λ _ v. gives_bind (λ x. element_of labels e ≡ some x) (SiteSoFar rs types) (given (element_of labels e) 18 at) _ (gives_given (λ x. element_of labels e ≡ some x) (element_of labels e) 18 at (holds_self (element_of labels e)))
      (λ x q. gives_bind (λ _. T (not (is_taken labels x name))) (SiteSoFar rs types) (refuse_if (is_taken labels x name) 18 at) _ (gives_refuse (is_taken labels x name) 18 at)
      (λ _ w. gives_accepted (SiteSoFar rs types) _ (record {
        some_element = D.some_element;
        few_elements = D.few_elements;
        labels_fit = record {
          small = mem_snoc (λ (l : Label). l.element < n) labels (record { element = x; name = name }) D.labels_fit.small (ltb→lt x n (means_small n labels D.labels_fit e x (not_not_T (is_in_range n e) v) q));
          formed = mem_snoc (λ (l : Label). T (is_relation_name l.name)) labels (record { element = x; name = name }) D.labels_fit.formed h;
          one = one_snoc labels (record { element = x; name = name }) D.labels_fit.one w;
        };
        members_fit = D.members_fit;
        facts_fit = D.facts_fit;
      })))))

  -- a type's number is below the number of types
  type_small : (name : List ℕ) → Holds (λ k. k < length types) (type_number types name)
  unfolding type_number
  type_small name = holds_more (position (λ t. same t name) types) (λ i h. h.0) (position_holds (λ t. same t name) types [])

  member_line : (labels : List Label) (members : List Member) (facts : List Tuple) (o : Option ℕ) (at : ℕ) (name : List ℕ) (e : Element)
      → DraftSite rs types o labels members facts → Gives (SiteSoFar rs types)
      (add_member types (record { sized = o; labels = labels; members = members; facts = facts }) at name e)
  unfolding add_member DraftSite given ◌>>=◌
  member_line labels members facts none at name e D = gives_refused (SiteSoFar rs types) 3 at
  member_line labels members facts (some n) at name e D =
      gives_bind (λ _. Unit {0}) (SiteSoFar rs types) (refuse_if (not (is_empty facts)) 3 at) _ (gives_any _)
      (λ _ _. gives_bind (λ k. k < length types) (SiteSoFar rs types) (given (type_number types name) 19 at) _ (gives_given (λ k. k < length types) (type_number types name) 19 at (type_small name))
      (λ k h. gives_bind (λ _. T (not (not (is_in_range n e)))) (SiteSoFar rs types) (refuse_if (not (is_in_range n e)) 9 at) _ (gives_refuse (not (is_in_range n e)) 9 at)
      (λ _ v. gives_bind (λ x. element_of labels e ≡ some x) (SiteSoFar rs types) (given (element_of labels e) 18 at) _ (gives_given (λ x. element_of labels e ≡ some x) (element_of labels e) 18 at (holds_self (element_of labels e)))
      (λ x q. gives_bind (λ _. Unit {0}) (SiteSoFar rs types) (refuse_if (is_member members k x) 10 at) _ (gives_any _)
      (λ _ _. gives_accepted (SiteSoFar rs types) _ (record {
        some_element = D.some_element;
        few_elements = D.few_elements;
        labels_fit = D.labels_fit;
        members_fit = record {
          typed = mem_snoc (λ (m : Member). m.type < length types) members (record { type = k; element = x }) D.members_fit.typed h;
          small = mem_snoc (λ (m : Member). m.element < n) members (record { type = k; element = x }) D.members_fit.small (ltb→lt x n (means_small n labels D.labels_fit e x (not_not_T (is_in_range n e) v) q));
        };
        facts_fit = D.facts_fit;
      }))))))

  fact_line : (labels : List Label) (members : List Member) (facts : List Tuple) (o : Option ℕ) (at : ℕ) (name : List ℕ) (es : List Element)
      → DraftSite rs types o labels members facts → Gives (SiteSoFar rs types)
      (add_fact rs (record { sized = o; labels = labels; members = members; facts = facts }) at name es)
  unfolding add_fact DraftSite given ◌>>=◌
  fact_line labels members facts none at name es D = gives_refused (SiteSoFar rs types) 3 at
  fact_line labels members facts (some n) at name es D =
      gives_bind (TuplesFit rs first_rel n) (SiteSoFar rs types) (add_tuple rs first_rel n labels facts at name es) _ (tuple_line rs first_rel n labels facts at name es D.labels_fit D.facts_fit)
      (λ ts F. gives_accepted (SiteSoFar rs types) _ (record { some_element = D.some_element; few_elements = D.few_elements; labels_fit = D.labels_fit; members_fit = D.members_fit; facts_fit = F }))

site_entry : (L : CaseLimits) → L.elements ≤ 64 → (rs : List Relation) (types : List (List ℕ)) (d : SiteDraft) (at : ℕ) (e : Entry) → SiteSoFar rs types d → EntryFits e → Gives (SiteSoFar rs types) (add_to_site L rs types d at e)
unfolding add_to_site EntryFits
site_entry L few rs types d at (rel name a) D h = gives_refused (SiteSoFar rs types) 3 at
site_entry L few rs types d at (type name) D h = gives_refused (SiteSoFar rs types) 3 at
site_entry L few rs types d at (choose name a k names) D h = gives_refused (SiteSoFar rs types) 3 at
site_entry L few rs types d at (every name a) D h = gives_refused (SiteSoFar rs types) 3 at
site_entry L few rs types d at (rule f) D h = gives_refused (SiteSoFar rs types) 3 at
site_entry L few rs types d at (size n) D h = size_line rs types L few d at n d.sized D
site_entry L few rs types d at (label x name) D h = label_line rs types d.labels d.members d.facts d.sized at x name h D
site_entry L few rs types d at (member t x) D h = member_line rs types d.labels d.members d.facts d.sized at t x D
site_entry L few rs types d at (fact name xs) D h = fact_line rs types d.labels d.members d.facts d.sized at name xs D
site_entry L few rs types d at (pick name xs) D h = gives_refused (SiteSoFar rs types) 3 at
site_entry L few rs types d at (step k) D h = gives_refused (SiteSoFar rs types) 3 at

pub site_step : (L : CaseLimits) → L.elements ≤ 64 → (rs : List Relation) (types : List (List ℕ)) (d : SiteDraft) (l : Line) → SiteSoFar rs types d → Gives (SiteSoFar rs types) (site_line L rs types d l)
unfolding site_line
site_step L few rs types d l D = gives_bind EntryFits (SiteSoFar rs types) (entry_of l) (add_to_site L rs types d l.at) (line_fits l) (λ e h. site_entry L few rs types d l.at e D h)

pub record SiteFits (rs : List Relation) (types : List (List ℕ)) (s : Site) : Type 0 where
  pub some_element : 1 ≤ s.size
  pub few_elements : s.size ≤ 64
  pub members_fit : MembersFit (length types) s.size s.members
  pub each_type : (k : ℕ) → k < length types → T (has_member s.members k)
  pub facts_fit : TuplesFit rs first_rel s.size s.facts

pub record LabelledFits (rs : List Relation) (types : List (List ℕ)) (s : Labelled) : Type 0 where
  pub site_fits : SiteFits rs types s.site
  pub labels_fit : LabelsFit s.site.size s.labels

site_end : (rs : List Relation) (types : List (List ℕ)) (labels : List Label) (members : List Member) (facts : List Tuple) (o : Option ℕ) (k : ℕ) → DraftSite rs types o labels members facts
    → Gives (LabelledFits rs types) (given o 3 k >>= λ n. refuse_if (not (all (has_member members) (below (length types)))) 19 zero >>= λ _. accepted (record { site = record { size = n; members = members; facts = facts }; labels = labels }))
unfolding DraftSite given ◌>>=◌
site_end rs types labels members facts none k D = gives_refused (LabelledFits rs types) 3 k
site_end rs types labels members facts (some n) k D =
    gives_bind (λ _. T (not (not (all (has_member members) (below (length types)))))) (LabelledFits rs types) (refuse_if (not (all (has_member members) (below (length types)))) 19 zero) _ (gives_refuse (not (all (has_member members) (below (length types)))) 19 zero)
    (λ _ t. gives_accepted (LabelledFits rs types) _ (record {
      site_fits = record {
        some_element = D.some_element;
        few_elements = D.few_elements;
        members_fit = D.members_fit;
        each_type = λ j h. all_at (has_member members) (below (length types)) (not_not_T (all (has_member members) (below (length types))) t) j (mem_below (length types) j h);
        facts_fit = D.facts_fit;
      };
      labels_fit = D.labels_fit;
    }))

pub site_fits : (L : CaseLimits) → L.elements ≤ 64 → (rs : List Relation) (types : List (List ℕ)) (text : List ℕ) → Gives (LabelledFits rs types) (read_site L rs types text)
unfolding read_site DraftSite
site_fits L few rs types text =
    gives_bind (SiteSoFar rs types) (LabelledFits rs types) (read_text (site_line L rs types) (record { sized = none; labels = []; members = []; facts = [] }) text) _
    (gives_text (SiteSoFar rs types) (site_line L rs types) (site_step L few rs types) (record { sized = none; labels = []; members = []; facts = [] }) text (refl, refl, refl))
    (λ d D. site_end rs types d.labels d.members d.facts d.sized (length text) D)

-- ---- picks from a text
module _ (rs : List Relation) (first n : ℕ) (labels : List Label) (K : LabelsFit n labels) where
  picks_entry : (ts : List Tuple) (at : ℕ) (e : Entry) → TuplesFit rs first n ts → Gives (TuplesFit rs first n) (add_to_picks rs first n labels ts at e)
  unfolding add_to_picks
  picks_entry ts at (rel name a) D = gives_refused _ 3 at
  picks_entry ts at (type name) D = gives_refused _ 3 at
  picks_entry ts at (choose name a k types) D = gives_refused _ 3 at
  picks_entry ts at (every name a) D = gives_refused _ 3 at
  picks_entry ts at (rule f) D = gives_refused _ 3 at
  picks_entry ts at (size m) D = gives_refused _ 3 at
  picks_entry ts at (label x name) D = gives_refused _ 3 at
  picks_entry ts at (member t x) D = gives_refused _ 3 at
  picks_entry ts at (fact name xs) D = gives_refused _ 3 at
  picks_entry ts at (pick name xs) D = tuple_line rs first n labels ts at name xs K D
  picks_entry ts at (step k) D = gives_refused _ 3 at

  picks_step : (ts : List Tuple) (l : Line) → TuplesFit rs first n ts → Gives (TuplesFit rs first n) (picks_line rs first n labels ts l)
  unfolding picks_line
  picks_step ts l D = gives_bind EntryFits (TuplesFit rs first n) (entry_of l) (add_to_picks rs first n labels ts l.at) (line_fits l) (λ e h. picks_entry ts l.at e D)

  pub picks_fit : (text : List ℕ) → Gives (TuplesFit rs first n) (read_picks rs first n labels text)
  unfolding read_picks are_distinct
  picks_fit text = gives_text (TuplesFit rs first n) (picks_line rs first n labels) picks_step [] text (record { each_fits = λ t m. absurd (Memᴰ.not-nil m); distinct = tt })

-- ---- the case
pub record Accepted (c : Case) : Type 0 where
  pub question_fits : QuestionFits c.question
  pub site_fits : SiteFits c.question.rels c.question.types c.site

-- so what a variable of any sort ranges over is a range
pub accepted_range : (c : Case) → Accepted c → (s : ℕ) → IsRange c.site.size (members_of c s)
accepted_range c A s = members_range c s A.site_fits.some_element A.site_fits.members_fit A.site_fits.each_type

-- and its labels
pub record FiledFits (r : CaseRead) : Type 0 where
  pub case_fits : Accepted r.case
  pub labels_fit : LabelsFit r.case.site.size r.labels

pub filed_fits : (L : CaseLimits) → L.elements ≤ 64 → (question site : List ℕ) → Gives FiledFits (read_filed L question site)
unfolding read_filed
filed_fits L few question site =
    gives_bind QuestionFits FiledFits (read_question question) _ (question_fits question)
    (λ q Q. gives_bind (LabelledFits q.rels q.types) FiledFits (read_site L q.rels q.types site) _ (site_fits L few q.rels q.types site)
    (λ s S. gives_accepted FiledFits _ (record { case_fits = record { question_fits = Q; site_fits = S.site_fits }; labels_fit = S.labels_fit })))

pub case_fits : (L : CaseLimits) → L.elements ≤ 64 → (question site : List ℕ) → Gives Accepted (read_case L question site)
unfolding read_case
case_fits L few question site = gives_bind FiledFits Accepted (read_filed L question site) _ (filed_fits L few question site) (λ r R. gives_accepted Accepted _ R.case_fits)

-- the case's question is the one read from the question's text
pub case_question : (L : CaseLimits) (question site : List ℕ) (c : Case) → read_case L question site ≡ accepted c → read_question question ≡ accepted c.question
unfolding read_case read_filed
case_question L question site c e = gives_if Asks (read_case L question site) c e
    (gives_bind (λ r. Asks r.case) Asks (read_filed L question site) _
    (gives_bind (λ q. read_question question ≡ accepted q) (λ r. Asks r.case) (read_question question) _ (gives_self (read_question question))
    (λ q h. gives_bind (λ _. Unit {0}) (λ r. Asks r.case) (read_site L q.rels q.types site) _ (gives_any (read_site L q.rels q.types site)) (λ s _. gives_accepted (λ r. Asks r.case) _ h)))
    (λ r h. gives_accepted Asks r.case h))
  where
    Asks : Case → Type 0
    Asks c = read_question question ≡ accepted c.question

-- a problem that is read is that of an accepted case, and within the limits
pub record ProblemFits (L : CaseLimits) (p : Problem) : Type 0 where
  pub case : Case
  pub is_problem : p ≡ problem_of case
  pub is_accepted_lem : Accepted case
  pub few_atoms : atoms p ≤ L.atoms
  pub few_actions : actions p ≤ L.actions
  pub few_tuples : T (is_some p.source.question.every) → every_tuples p.source ≤ 8
  pub few_steps : T (is_some p.source.question.every) → bound p ≤ L.steps

module _ (L : CaseLimits) where
  ground_fits : (c : Case) → Accepted c → Gives (ProblemFits L) (ground L c)
  unfolding ground too_many_values
  ground_fits c A =
      let p = problem_of c in
      gives_bind (λ _. T (not (ltb L.atoms (atoms p) || ltb L.actions (actions p)))) (ProblemFits L) _ _ (gives_refuse (ltb L.atoms (atoms p) || ltb L.actions (actions p)) 11 zero)
      (λ _ t. gives_bind (λ _. T (not (is_some p.source.question.every && (ltb 8 (every_tuples p.source) || ltb L.steps (bound p))))) (ProblemFits L) _ _ (gives_refuse (is_some p.source.question.every && (ltb 8 (every_tuples p.source) || ltb L.steps (bound p))) 23 zero)
      (λ _ u. gives_accepted (ProblemFits L) p (record {
        case = c;
        is_problem = refl;
        is_accepted_lem = A;
        few_atoms = nltb→le L.atoms (atoms p) (not_or_l (ltb L.atoms (atoms p)) (ltb L.actions (actions p)) t);
        few_actions = nltb→le L.actions (actions p) (not_or_r (ltb L.atoms (atoms p)) (ltb L.actions (actions p)) t);
        few_tuples = λ s. nltb→le 8 (every_tuples p.source) (not_or_l (ltb 8 (every_tuples p.source)) (ltb L.steps (bound p)) (not_and_T (is_some p.source.question.every) _ s u));
        few_steps = λ s. nltb→le L.steps (bound p) (not_or_r (ltb 8 (every_tuples p.source)) (ltb L.steps (bound p)) (not_and_T (is_some p.source.question.every) _ s u));
      })))
    where
      not_and_T : (a b : Bool) → T a → T (not (a && b)) → T (not b)
      not_and_T true b t u = u
      not_and_T false b t u = absurd t

  -- what acceptance gives
  pub acceptance : L.elements ≤ 64 → (question site : List ℕ) (p : Problem) → read_problem L question site ≡ accepted p → ProblemFits L p
  unfolding read_problem
  acceptance few question site p e =
      gives_if (ProblemFits L) (read_problem L question site) p e
      (gives_bind Accepted (ProblemFits L) (read_case L question site) (ground L) (case_fits L few question site) ground_fits)
