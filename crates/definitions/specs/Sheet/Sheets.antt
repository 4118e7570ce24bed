-- Document 01, "The sheets" and the first ten rows of its "Refusal sheet": reading the question, the site, picks and steps; and
-- document 02, job 1: labels of elements, job 4: types and their members, job 5: types of a function kind, job 12: an `every` line. A reader takes the relations and the types that its lines
-- may name, and nothing else of the question.
use Rattle.std.specs.Prelude.{ℕ, zero, ◌+◌, Bool, true, false, not, ◌&&◌, ◌||◌, List, [], ◌∷◌, ◌++◌, map, length, get_or, eqb, leb, ltb, if◌then◌else◌}
use Rattle.std.proofs.Math.Option.{Option, none, some}
use Rattle.definitions.specs.Limits.{arity_limit, every_arity_limit, rel_limit, type_limit, choose_limit, form_limit, nesting_limit, CaseLimits}
use Rattle.definitions.specs.Lists.{Name, Steps, Text, all, any, same, is_empty, option, is_some, listed, position, below}
use Rattle.definitions.specs.Sheet.Text.{bytes, Line, fields, number, is_relation_name, is_between}
use Rattle.definitions.specs.Refusal.{Result, refused, accepted, ◌>>=◌, refuse_if, given, read_text}
use Rattle.definitions.specs.Sheet.Relations.{Kind, plain, Fun, PFun, Inj, PInj, Relation, fixed, varying, Tuple, is_among, built_in, is_declared}
use Rattle.definitions.specs.Sheet.Formula.{Formula, all_forms, nesting, is_known, is_scoped, type_number, sort_named, is_type, is_typed}
use Rattle.definitions.specs.Sheet.Parsing.{read_formula}

-- ---- the records of all sheets, by their form

-- an element field as it stands there: a number, or a name that has a relation name's form. Which element a name means is said by the
-- site's labels, and no form depends on them.
pub data Element : Type 0 where
  numbered : ℕ → Element
  named : (name : Name) → Element

-- one line of any sheet, by its record word
pub data Entry : Type 0 where
  rel : (name : Name) → (arity : ℕ) → Entry
  type : (name : Name) → Entry
  choose : (name : Name) → (arity : ℕ) → Kind → (types : List Name) → Entry
  every : (name : Name) → (arity : ℕ) → Entry
  rule : (formula : Text) → Entry
  size : (n : ℕ) → Entry
  label : Element → (name : Name) → Entry
  member : (type : Name) → Element → Entry
  fact pick : (name : Name) → (elements : List Element) → Entry
  step : (action : ℕ) → Entry

-- an arity, and one that an `every` line may have
unfoldable pub arity_of : Text → Option ℕ
arity_of f = option (number f) none (λ a. if is_between 1 arity_limit a then some a else none)

unfoldable pub every_arity_of : Text → Option ℕ
every_arity_of f = option (arity_of f) none (λ a. if leb a every_arity_limit then some a else none)

-- the function kind that a word names
unfoldable pub kind_named : Text → Option Kind
kind_named f =
    if same f (bytes "Fun") then some Fun
    else if same f (bytes "PFun") then some PFun
    else if same f (bytes "Inj") then some Inj
    else if same f (bytes "PInj") then some PInj
    else none

-- what a `choose` line has: a name; then a function kind, which has arity 2, or an arity; after a function kind there may be two types.
-- (A name that no type has is no fault of the form: `add_choose` refuses it with 19.)
unfoldable pub choose_of : List Text → Option Entry
choose_of [] = none
choose_of (name ∷ []) = none
choose_of (name ∷ f ∷ []) = option (kind_named f) (option (arity_of f) none (λ a. some (choose name a plain []))) (λ kind. some (choose name 2 kind []))
choose_of (name ∷ f ∷ t ∷ []) = none
choose_of (name ∷ f ∷ t ∷ u ∷ []) = option (kind_named f) none (λ kind. some (choose name 2 kind (t ∷ u ∷ [])))
choose_of (name ∷ f ∷ t ∷ u ∷ v ∷ fs) = none

-- an element field, and a list of them
unfoldable pub element : Text → Option Element
element f = option (number f) (if is_relation_name f then some (named f) else none) (λ x. some (numbered x))

unfoldable pub elements : List Text → Option (List Element)
elements [] = some []
elements (f ∷ fs) = option (element f) none (λ x. option (elements fs) none (λ xs. some (x ∷ xs)))

-- what a `label` line has: an element, then a name in the form of a relation's
unfoldable pub label_of : Text → Text → Option Entry
label_of f name = if is_relation_name name then option (element f) none (λ x. some (label x name)) else none

-- what a `member` line has: a type, then an element. (Whether the type is one is not its form: it is 19 where it is none.)
unfoldable pub member_of : Text → Text → Option Entry
member_of name f = option (element f) none (λ x. some (member name x))

-- records with one field after the record word, with two, and, for `fact` and `pick`, with a name and 1 to 3 elements
unfoldable pub with_one : (Text → Option Entry) → List Text → Option Entry
with_one make [] = none
with_one make (f ∷ []) = make f
with_one make (f ∷ g ∷ fs) = none

unfoldable pub with_two : (Text → Text → Option Entry) → List Text → Option Entry
with_two make [] = none
with_two make (f ∷ []) = none
with_two make (f ∷ g ∷ []) = make f g
with_two make (f ∷ g ∷ h ∷ fs) = none

unfoldable pub with_elements : (Text → List Element → Entry) → List Text → Option Entry
with_elements make [] = none
with_elements make (f ∷ fs) = if is_between 1 arity_limit (length fs) then option (elements fs) none (λ xs. some (make f xs)) else none

-- what a line's fields say; none where the record word is unknown or the fields are not of its form
unfoldable pub entry : List Text → Option Entry
entry [] = none
entry (w ∷ fs) =
    if same w (bytes "rel") then with_two (λ name a. option (arity_of a) none (λ k. some (rel name k))) fs
    else if same w (bytes "type") then with_one (λ f. some (type f)) fs
    else if same w (bytes "choose") then choose_of fs
    else if same w (bytes "every") then with_two (λ name a. option (every_arity_of a) none (λ k. some (every name k))) fs
    else if same w (bytes "rule") then with_one (λ f. some (rule f)) fs
    else if same w (bytes "size") then with_one (λ f. option (number f) none (λ n. some (size n))) fs
    else if same w (bytes "label") then with_two label_of fs
    else if same w (bytes "member") then with_two member_of fs
    else if same w (bytes "fact") then with_elements fact fs
    else if same w (bytes "pick") then with_elements pick fs
    else if same w (bytes "step") then with_one (λ f. option (number f) none (λ k. some (step k))) fs
    else none

-- 2: the line is not ended by byte 10, or says nothing
unfoldable pub entry_of : Line → Result Entry
entry_of l = given (if l.ended then entry (fields l) else none) 2 l.at

-- ---- the question: `rel` lines, then `type` lines, then `choose` lines, then at most one `every` line, then one `rule` line

-- the formula, with the place and the bytes of its field
pub record Rule : Type 0 where
  pub at : ℕ
  pub text : Text
  pub formula : Formula

-- a question's lines so far, and a whole question
pub record Draft : Type 0 where
  pub rels : List Relation
  pub types : List Name
  pub chosen : List Relation
  pub every : Option Relation
  pub ruled : Option Rule

pub record Question : Type 0 where
  pub rels : List Relation
  pub types : List Name
  pub chosen : List Relation
  pub every : Option Relation
  pub rule : Rule

-- all relations in the order of their numbers
unfoldable pub relations : List Relation → List Relation → Option Relation → List Relation
relations rels chosen last = built_in ++ (rels ++ (chosen ++ listed last))

unfoldable pub is_ruled : Option Rule → Bool
is_ruled none = false
is_ruled (some r) = true

-- 4: a declared name is of its form, not built in and not declared by an earlier line
unfoldable pub is_new_name : Draft → Name → Bool
is_new_name d name = is_relation_name name && not (is_declared (relations d.rels d.chosen d.every) name)

-- a `rel` line: 3 after a `type` or `choose` line, and where there are 8 already
unfoldable pub add_rel : Draft → ℕ → Name → ℕ → Result Draft
add_rel d at name arity = do
  _ ← refuse_if (not (is_empty d.types) || not (is_empty d.chosen) || leb rel_limit (length d.rels)) 3 at
  _ ← refuse_if (not (is_new_name d name)) 4 at
  accepted (record { rels = d.rels ++ (fixed name arity ∷ []); types = d.types; chosen = d.chosen; every = d.every; ruled = d.ruled })

-- a `type` line: 3 after a `choose` line, and where there are 8 already; 4 if its name has not a relation name's form, which is all that
-- is asked of it; 19 if it is declared already
unfoldable pub add_type : Draft → ℕ → Name → Result Draft
add_type d at name = do
  _ ← refuse_if (not (is_empty d.chosen) || leb type_limit (length d.types)) 3 at
  _ ← refuse_if (not (is_relation_name name)) 4 at
  _ ← refuse_if (is_type d.types name) 19 at
  accepted (record { rels = d.rels; types = d.types ++ (name ∷ []); chosen = d.chosen; every = d.every; ruled = d.ruled })

-- the sort of place i, by the types that a `choose` line gives
unfoldable pub place_sort : List Name → List Name → ℕ → ℕ
place_sort types names i = get_or (map (sort_named types) names) i 0

-- a `choose` line: 3 after an `every` line or the rule, and where there are 4 already; 19 if a type that it gives is not declared
unfoldable pub add_choose : Draft → ℕ → Name → ℕ → Kind → List Name → Result Draft
add_choose d at name arity kind names = do
  _ ← refuse_if (is_some d.every || is_ruled d.ruled || leb choose_limit (length d.chosen)) 3 at
  _ ← refuse_if (not (is_new_name d name)) 4 at
  _ ← refuse_if (not (all (is_type d.types) names)) 19 at
  let k : Relation = record { name = name; arity = arity; kind = kind; firsts = place_sort d.types names 0; seconds = place_sort d.types names 1 }
  accepted (record { rels = d.rels; types = d.types; chosen = d.chosen ++ (k ∷ []); every = d.every; ruled = d.ruled })

-- an `every` line: 3 if it is the second, comes before any `choose` or after the rule; 4 if no `choose` could have its name
unfoldable pub add_every : Draft → ℕ → Name → ℕ → Result Draft
add_every d at name arity = do
  _ ← refuse_if (is_some d.every || is_ruled d.ruled || is_empty d.chosen) 3 at
  _ ← refuse_if (not (is_new_name d name)) 4 at
  accepted (record { rels = d.rels; types = d.types; chosen = d.chosen; every = some (varying name arity); ruled = d.ruled })

-- the `rule` line: 3 if it is the second, or comes before any `choose`; then 5 to 8 and 19, each of the whole formula. The formula
-- begins 5 bytes into the line, after `rule` and the tab.
unfoldable pub add_rule : Draft → ℕ → Text → Result Draft
add_rule d at text = do
  _ ← refuse_if (is_ruled d.ruled || is_empty d.chosen) 3 at
  f ← given (read_formula text) 5 at
  _ ← refuse_if (ltb form_limit (all_forms d.chosen f) || ltb nesting_limit (nesting f)) 6 at
  _ ← refuse_if (not (is_known (relations d.rels d.chosen d.every) f)) 7 at
  _ ← refuse_if (not (is_scoped [] f)) 8 at
  _ ← refuse_if (not (is_typed d.types f)) 19 at
  accepted (record { rels = d.rels; types = d.types; chosen = d.chosen; every = d.every; ruled = some (record { at = at + 5; text = text; formula = f }) })

-- a line of the question; what belongs to another sheet is 3
unfoldable pub add_to_question : Draft → ℕ → Entry → Result Draft
add_to_question d at (rel name arity) = add_rel d at name arity
add_to_question d at (type name) = add_type d at name
add_to_question d at (choose name arity kind types) = add_choose d at name arity kind types
add_to_question d at (every name arity) = add_every d at name arity
add_to_question d at (rule text) = add_rule d at text
add_to_question d at (size n) = refused 3 at
add_to_question d at (label x name) = refused 3 at
add_to_question d at (member t x) = refused 3 at
add_to_question d at (fact name xs) = refused 3 at
add_to_question d at (pick name xs) = refused 3 at
add_to_question d at (step k) = refused 3 at

unfoldable pub question_line : Draft → Line → Result Draft
question_line d l = entry_of l >>= add_to_question d l.at

-- the whole question; without a rule it is 3 at the text's length
unfoldable pub read_question : Text → Result Question
read_question text = do
  d ← read_text question_line (record { rels = []; types = []; chosen = []; every = none; ruled = none }) text
  r ← given d.ruled 3 (length text)
  accepted (record { rels = d.rels; types = d.types; chosen = d.chosen; every = d.every; rule = r })

unfoldable pub relations_of : Question → List Relation
relations_of q = relations q.rels q.chosen q.every

-- the number of the first `rel`, of the first `choose`, and of the relation of an `every` line
unfoldable pub first_rel : ℕ
first_rel = length built_in

unfoldable pub first_chosen : Question → ℕ
first_chosen q = first_rel + length q.rels

unfoldable pub every_number : Question → ℕ
every_number q = first_chosen q + length q.chosen

-- ---- labels: what an element field means

pub record Label : Type 0 where
  pub element : ℕ
  pub name : Name

-- the element that has the name, and the name that an element has
unfoldable pub element_named : List Label → Name → Option ℕ
element_named [] name = none
element_named (l ∷ ls) name = if same l.name name then some l.element else element_named ls name

unfoldable pub name_of : List Label → ℕ → Option Name
name_of [] x = none
name_of (l ∷ ls) x = if eqb l.element x then some l.name else name_of ls x

-- the element that a field means, and those of several fields; none where a name is nobody's
unfoldable pub element_of : List Label → Element → Option ℕ
element_of labels (numbered x) = some x
element_of labels (named name) = element_named labels name

unfoldable pub elements_of : List Label → List Element → Option (List ℕ)
elements_of labels [] = some []
elements_of labels (e ∷ es) = option (element_of labels e) none (λ x. option (elements_of labels es) none (λ xs. some (x ∷ xs)))

-- 9 is asked of numbers alone: the element of a label is below n
unfoldable pub is_in_range : ℕ → Element → Bool
is_in_range n (numbered x) = ltb x n
is_in_range n (named name) = true

-- ---- a tuple in a line: 7, 9, 18 and 10

-- the number of the relation that has the name and as many places as there are elements, where `first` is the first one's number
unfoldable pub used : List Relation → ℕ → Name → ℕ → Option ℕ
used rs first name arity =
    option (position (λ (r : Relation). same r.name name && eqb r.arity arity) rs) none (λ i. some (first + i))

-- 7: no relation of this sheet has that name and arity; 9: a number is not below n; 18: a name is no label; 10: the tuple, however
-- its elements were written, stood in an earlier line
unfoldable pub add_tuple : List Relation → ℕ → ℕ → List Label → List Tuple → ℕ → Name → List Element → Result (List Tuple)
add_tuple rs first n labels tuples at name es = do
  r ← given (used rs first name (length es)) 7 at
  _ ← refuse_if (not (all (is_in_range n) es)) 9 at
  xs ← given (elements_of labels es) 18 at
  _ ← refuse_if (is_among (record { relation = r; places = xs }) tuples) 10 at
  accepted (tuples ++ (record { relation = r; places = xs } ∷ []))

-- ---- the site: one `size` line, then `label` lines, then `member` lines, then `fact` lines of the `rel` relations

-- a `member` line says that an element is of a type, which it gives by its number; whether some line says so, and whether a type has
-- any member
pub record Member : Type 0 where
  pub type : ℕ
  pub element : ℕ

unfoldable pub is_member : List Member → ℕ → ℕ → Bool
is_member members k x = any (λ (m : Member). eqb m.type k && eqb m.element x) members

unfoldable pub has_member : List Member → ℕ → Bool
has_member members k = any (λ (m : Member). eqb m.type k) members

-- a site's lines so far; a whole site; and that with its labels, which are no part of the case
pub record SiteDraft : Type 0 where
  pub sized : Option ℕ
  pub labels : List Label
  pub members : List Member
  pub facts : List Tuple

pub record Site : Type 0 where
  pub size : ℕ
  pub members : List Member
  pub facts : List Tuple

pub record Labelled : Type 0 where
  pub site : Site
  pub labels : List Label

-- a `size` line: 3 if it is the second, 9 if n is 0 or more than the limit
unfoldable pub add_size : CaseLimits → SiteDraft → ℕ → ℕ → Option ℕ → Result SiteDraft
add_size L d at n none = refuse_if (not (is_between 1 L.elements n)) 9 at >>= λ _. accepted (record { sized = some n; labels = d.labels; members = d.members; facts = d.facts })
add_size L d at n (some m) = refused 3 at

-- whether an earlier label is that of the element, or has the name
unfoldable pub is_taken : List Label → ℕ → Name → Bool
is_taken labels x name = any (λ (l : Label). eqb l.element x || same l.name name) labels

-- a `label` line: 3 before `size` and after a `member` or `fact`; 9 if its element is a number not below n; 18 if that is a name that is no label,
-- or if the element or the name has a `label` line already. (So a name there always ends in 18: its element has one, or it means none.)
unfoldable pub add_label : SiteDraft → ℕ → Element → Name → Result SiteDraft
add_label d at e name = do
  n ← given d.sized 3 at
  _ ← refuse_if (not (is_empty d.members) || not (is_empty d.facts)) 3 at
  _ ← refuse_if (not (is_in_range n e)) 9 at
  x ← given (element_of d.labels e) 18 at
  _ ← refuse_if (is_taken d.labels x name) 18 at
  accepted (record { sized = d.sized; labels = d.labels ++ (record { element = x; name = name } ∷ []); members = d.members; facts = d.facts })

-- a `member` line: 3 before `size` and after a `fact`; 19 if no such type is declared; 9 if its element is a number not below n; 18 if
-- that is a name that is no label; 10 if the element, however written, is a member of that type by an earlier line
unfoldable pub add_member : List Name → SiteDraft → ℕ → Name → Element → Result SiteDraft
add_member types d at name e = do
  n ← given d.sized 3 at
  _ ← refuse_if (not (is_empty d.facts)) 3 at
  k ← given (type_number types name) 19 at
  _ ← refuse_if (not (is_in_range n e)) 9 at
  x ← given (element_of d.labels e) 18 at
  _ ← refuse_if (is_member d.members k x) 10 at
  accepted (record { sized = d.sized; labels = d.labels; members = d.members ++ (record { type = k; element = x } ∷ []); facts = d.facts })

-- a `fact` line: 3 before `size`
unfoldable pub add_fact : List Relation → SiteDraft → ℕ → Name → List Element → Result SiteDraft
add_fact rels d at name es = do
  n ← given d.sized 3 at
  facts ← add_tuple rels first_rel n d.labels d.facts at name es
  accepted (record { sized = d.sized; labels = d.labels; members = d.members; facts = facts })

unfoldable pub add_to_site : CaseLimits → List Relation → List Name → SiteDraft → ℕ → Entry → Result SiteDraft
add_to_site L rels types d at (rel name arity) = refused 3 at
add_to_site L rels types d at (type name) = refused 3 at
add_to_site L rels types d at (choose name arity kind names) = refused 3 at
add_to_site L rels types d at (every name arity) = refused 3 at
add_to_site L rels types d at (rule text) = refused 3 at
add_to_site L rels types d at (size n) = add_size L d at n d.sized
add_to_site L rels types d at (label x name) = add_label d at x name
add_to_site L rels types d at (member t x) = add_member types d at t x
add_to_site L rels types d at (fact name xs) = add_fact rels d at name xs
add_to_site L rels types d at (pick name xs) = refused 3 at
add_to_site L rels types d at (step k) = refused 3 at

unfoldable pub site_line : CaseLimits → List Relation → List Name → SiteDraft → Line → Result SiteDraft
site_line L rels types d l = entry_of l >>= add_to_site L rels types d l.at

-- the whole site; without a size it is 3 at the text's length, and then 19, place 0, where a type has no member
unfoldable pub read_site : CaseLimits → List Relation → List Name → Text → Result Labelled
read_site L rels types text = do
  d ← read_text (site_line L rels types) (record { sized = none; labels = []; members = []; facts = [] }) text
  n ← given d.sized 3 (length text)
  _ ← refuse_if (not (all (has_member d.members) (below (length types)))) 19 zero
  accepted (record { site = record { size = n; members = d.members; facts = d.facts }; labels = d.labels })

-- ---- picks: `pick` lines of the `choose` relations, the first of which has the number `first`, over n elements with the site's labels

unfoldable pub add_to_picks : List Relation → ℕ → ℕ → List Label → List Tuple → ℕ → Entry → Result (List Tuple)
add_to_picks chosen first n labels picks at (rel name arity) = refused 3 at
add_to_picks chosen first n labels picks at (type name) = refused 3 at
add_to_picks chosen first n labels picks at (choose name arity kind types) = refused 3 at
add_to_picks chosen first n labels picks at (every name arity) = refused 3 at
add_to_picks chosen first n labels picks at (rule text) = refused 3 at
add_to_picks chosen first n labels picks at (size m) = refused 3 at
add_to_picks chosen first n labels picks at (label x name) = refused 3 at
add_to_picks chosen first n labels picks at (member t x) = refused 3 at
add_to_picks chosen first n labels picks at (fact name xs) = refused 3 at
add_to_picks chosen first n labels picks at (pick name xs) = add_tuple chosen first n labels picks at name xs
add_to_picks chosen first n labels picks at (step k) = refused 3 at

unfoldable pub picks_line : List Relation → ℕ → ℕ → List Label → List Tuple → Line → Result (List Tuple)
picks_line chosen first n labels picks l = entry_of l >>= add_to_picks chosen first n labels picks l.at

unfoldable pub read_picks : List Relation → ℕ → ℕ → List Label → Text → Result (List Tuple)
read_picks chosen first n labels text = read_text (picks_line chosen first n labels) [] text

-- ---- steps: `step` lines, each an action's number

unfoldable pub add_to_steps : Steps → ℕ → Entry → Result Steps
add_to_steps steps at (rel name arity) = refused 3 at
add_to_steps steps at (type name) = refused 3 at
add_to_steps steps at (choose name arity kind types) = refused 3 at
add_to_steps steps at (every name arity) = refused 3 at
add_to_steps steps at (rule text) = refused 3 at
add_to_steps steps at (size n) = refused 3 at
add_to_steps steps at (label x name) = refused 3 at
add_to_steps steps at (member t x) = refused 3 at
add_to_steps steps at (fact name xs) = refused 3 at
add_to_steps steps at (pick name xs) = refused 3 at
add_to_steps steps at (step k) = accepted (steps ++ (k ∷ []))

unfoldable pub steps_line : Steps → Line → Result Steps
steps_line steps l = entry_of l >>= add_to_steps steps l.at

unfoldable pub read_steps : Text → Result Steps
read_steps text = read_text steps_line [] text
