-- Document 01, "The sheets": the formula, its writing, and what is counted and asked of it (6 to 8); and document 02, job 4: types of
-- quantified variables (19). 5 is a text that is no well-formed formula's writing: `Parsing` reads it, and `Writing` proves that it
-- takes exactly the texts that `write` gives for well-formed formulas.
use Rattle.std.specs.Prelude.{ℕ, zero, suc, ◌+◌, ◌*◌, ◌≤◌, max, ◌≡◌, Bool, true, not, ◌&&◌, List, [], ◌∷◌, ◌++◌, map, length, eqb, if◌then◌else◌}
use Rattle.std.proofs.Math.Option.{Option}
use Rattle.definitions.specs.Limits.{list_limit}
use Rattle.definitions.specs.Lists.{Name, Text, all, any, filter, same, option, position}
use Rattle.definitions.specs.Sheet.Text.{bytes, is_relation_name, is_variable}
use Rattle.definitions.specs.Sheet.Relations.{Relation, is_total}

-- a variable in a quantifier's list, as written: alone, or with a type
pub record Quantified : Type 0 where
  pub variable : Name
  pub type : Option Name

unfoldable pub variables_of : List Quantified → List Name
variables_of qs = map (λ (q : Quantified). q.variable) qs

-- Seven forms, with the names of relations, variables and types kept as their bytes. How many parts and variables each may have is
-- said by `WellFormed` below.
mutual
  pub data Formula : Type 0 where
    literal : (relation : Name) → (variables : List Name) → Formula
    negation : Formula → Formula
    implication : Formula → Formula → Formula
    conjunction disjunction : Formulas → Formula
    exists forall : List Quantified → Formula → Formula

  pub data Formulas : Type 0 where
    nil : Formulas
    cons : Formula → Formulas → Formulas

-- ---- writing: brackets around every form, its keyword or name first, single spaces in between

-- `and` or `or`; `exists` or `forall`
pub data Join : Type 0 where
  ands ors : Join

pub data Quant : Type 0 where
  somes everys : Quant

abbrev pub join : Join → Formulas → Formula
join ands fs = conjunction fs
join ors fs = disjunction fs

abbrev pub quant : Quant → List Quantified → Formula → Formula
quant somes qs f = exists qs f
quant everys qs f = forall qs f

-- the bracket, the keyword and the space after it; for a quantifier the bracket of its list too
abbrev pub join_word : Join → Text
join_word ands = bytes "(and "
join_word ors = bytes "(or "

abbrev pub quant_word : Quant → Text
quant_word somes = bytes "(exists ("
quant_word everys = bytes "(forall ("

abbrev pub not_word : Text
not_word = bytes "(not "

abbrev pub imp_word : Text
imp_word = bytes "(implies "

-- things one after another, each after a space
unfoldable pub write_each : {A : Type 0} → (A → Text) → List A → Text
write_each word [] = []
write_each word (x ∷ xs) = 32 ∷ word x ++ write_each word xs

-- the variables of a literal
abbrev pub write_vars : List Name → Text
write_vars vs = write_each (λ v. v) vs

-- a quantified variable, its type after a colon; several, each after a space; a list of them
unfoldable pub write_typed : Quantified → Text
write_typed q = q.variable ++ option q.type [] (λ t. 58 ∷ t)

abbrev pub write_more : List Quantified → Text
write_more qs = write_each write_typed qs

abbrev pub write_list : List Quantified → Text
write_list [] = []
write_list (q ∷ qs) = write_typed q ++ write_more qs

-- a formula; formulas, each after a space; a list of formulas

unfoldable mutual
  pub write : Formula → Text
  write (literal r vs) = 40 ∷ r ++ write_vars vs ++ 41 ∷ []
  write (negation f) = not_word ++ write f ++ 41 ∷ []
  write (implication f g) = imp_word ++ write f ++ 32 ∷ write g ++ 41 ∷ []
  write (conjunction fs) = join_word ands ++ write_all fs ++ 41 ∷ []
  write (disjunction fs) = join_word ors ++ write_all fs ++ 41 ∷ []
  write (exists qs f) = quant_word somes ++ write_list qs ++ 41 ∷ 32 ∷ write f ++ 41 ∷ []
  write (forall qs f) = quant_word everys ++ write_list qs ++ 41 ∷ 32 ∷ write f ++ 41 ∷ []

  pub write_all : Formulas → Text
  write_all nil = []
  write_all (cons f fs) = write f ++ write_parts fs

  pub write_parts : Formulas → Text
  write_parts nil = []
  write_parts (cons f fs) = 32 ∷ write f ++ write_parts fs

-- Of its form, with at most k brackets open together: names are names; a literal has one variable or more, `and` and `or` have one
-- part or more, a quantifier's list 1 to 4 variables. (The bracket of such a list is never the innermost of all.)
-- A quantified variable is one, and its type, if it has one, has a relation name's form.
unfoldable pub is_quantified : Quantified → Bool
is_quantified q = is_variable q.variable && option q.type true is_relation_name

pub data Words {A : Type 0} (is_word : A → Bool) : List A → Type 0 where
  no_words : Words is_word []
  a_word : {v : A} {vs : List A} → is_word v ≡ true → Words is_word vs → Words is_word (v ∷ vs)

abbrev pub Variables : List Name → Type 0
Variables vs = Words is_variable vs

abbrev pub AllQuantified : List Quantified → Type 0
AllQuantified qs = Words is_quantified qs

mutual
  pub data WellFormed : ℕ → Formula → Type 0 where
    g_lit : {k : ℕ} {n v : Name} {vs : List Name} → is_relation_name n ≡ true → Variables (v ∷ vs) → WellFormed (suc k) (literal n (v ∷ vs))
    g_neg : {k : ℕ} {f : Formula} → WellFormed k f → WellFormed (suc k) (negation f)
    g_imp : {k : ℕ} {f g : Formula} → WellFormed k f → WellFormed k g → WellFormed (suc k) (implication f g)
    g_and : {k : ℕ} {f : Formula} {fs : Formulas} → WellFormed k f → AllWellFormed k fs → WellFormed (suc k) (conjunction (cons f fs))
    g_or : {k : ℕ} {f : Formula} {fs : Formulas} → WellFormed k f → AllWellFormed k fs → WellFormed (suc k) (disjunction (cons f fs))
    g_exists : {k : ℕ} {q : Quantified} {qs : List Quantified} {f : Formula} → AllQuantified (q ∷ qs) → length (q ∷ qs) ≤ list_limit → WellFormed k f → WellFormed (suc k) (exists (q ∷ qs) f)
    g_forall : {k : ℕ} {q : Quantified} {qs : List Quantified} {f : Formula} → AllQuantified (q ∷ qs) → length (q ∷ qs) ≤ list_limit → WellFormed k f → WellFormed (suc k) (forall (q ∷ qs) f)

  pub data AllWellFormed : ℕ → Formulas → Type 0 where
    no_goods : {k : ℕ} → AllWellFormed k nil
    a_good : {k : ℕ} {f : Formula} {fs : Formulas} → WellFormed k f → AllWellFormed k fs → AllWellFormed k (cons f fs)

-- The number of a type among the declared ones. The sort of a quantified variable says what it ranges over (`Truth.members_of`): 0,
-- all elements, where it has no type, and 1 more than its type's number where it has one. (19 refuses a type that is not declared: it
-- is never given sort 0 for that.)
unfoldable pub type_number : List Name → Name → Option ℕ
type_number types name = position (λ t. same t name) types

unfoldable pub sort_named : List Name → Name → ℕ
sort_named types name = option (type_number types name) zero suc

unfoldable pub sort_of : List Name → Quantified → ℕ
sort_of types q = option q.type zero (sort_named types)

-- ---- 6, "Forms counted": as written, a literal, a connective and a quantified variable are one form each; every added totality
-- brings three, and if there is any, the `and` that joins them one more
unfoldable mutual
  pub forms : Formula → ℕ
  forms (literal r vs) = 1
  forms (negation f) = 1 + forms f
  forms (implication f g) = 1 + forms f + forms g
  forms (conjunction fs) = 1 + forms_all fs
  forms (disjunction fs) = 1 + forms_all fs
  forms (exists qs f) = length qs + forms f
  forms (forall qs f) = length qs + forms f

  pub forms_all : Formulas → ℕ
  forms_all nil = zero
  forms_all (cons f fs) = forms f + forms_all fs

unfoldable pub totals : List Relation → ℕ
totals rs = length (filter (λ (r : Relation). is_total r.kind) rs)

unfoldable pub all_forms : List Relation → Formula → ℕ
all_forms rs f = forms f + 3 * totals rs + (if eqb (totals rs) zero then zero else 1)

-- 6: how many quantified variables stand inside one another, as written
unfoldable mutual
  pub nesting : Formula → ℕ
  nesting (literal r vs) = zero
  nesting (negation f) = nesting f
  nesting (implication f g) = max (nesting f) (nesting g)
  nesting (conjunction fs) = nesting_all fs
  nesting (disjunction fs) = nesting_all fs
  nesting (exists qs f) = length qs + nesting f
  nesting (forall qs f) = length qs + nesting f

  pub nesting_all : Formulas → ℕ
  nesting_all nil = zero
  nesting_all (cons f fs) = max (nesting f) (nesting_all fs)

-- ---- 7: every literal has a relation's name with as many variables as that relation has places
unfoldable mutual
  pub is_known : List Relation → Formula → Bool
  is_known rs (literal r vs) = any (λ (k : Relation). same k.name r && eqb k.arity (length vs)) rs
  is_known rs (negation f) = is_known rs f
  is_known rs (implication f g) = is_known rs f && is_known rs g
  is_known rs (conjunction fs) = are_known rs fs
  is_known rs (disjunction fs) = are_known rs fs
  is_known rs (exists qs f) = is_known rs f
  is_known rs (forall qs f) = is_known rs f

  pub are_known : List Relation → Formulas → Bool
  are_known rs nil = true
  are_known rs (cons f fs) = is_known rs f && are_known rs fs

-- ---- 8: every variable of a literal is bound around it, and none is bound again inside its own range. The scope is the
-- variables bound around, outermost first.
unfoldable pub is_bound : List Name → Name → Bool
is_bound scope v = any (same v) scope

unfoldable pub are_new : List Name → List Name → Bool
are_new scope [] = true
are_new scope (v ∷ vs) = not (is_bound scope v) && are_new (scope ++ (v ∷ [])) vs

unfoldable mutual
  pub is_scoped : List Name → Formula → Bool
  is_scoped scope (literal r vs) = all (is_bound scope) vs
  is_scoped scope (negation f) = is_scoped scope f
  is_scoped scope (implication f g) = is_scoped scope f && is_scoped scope g
  is_scoped scope (conjunction fs) = are_scoped scope fs
  is_scoped scope (disjunction fs) = are_scoped scope fs
  is_scoped scope (exists qs f) = are_new scope (variables_of qs) && is_scoped (scope ++ variables_of qs) f
  is_scoped scope (forall qs f) = are_new scope (variables_of qs) && is_scoped (scope ++ variables_of qs) f

  pub are_scoped : List Name → Formulas → Bool
  are_scoped scope nil = true
  are_scoped scope (cons f fs) = is_scoped scope f && are_scoped scope fs

-- ---- 19: every type in the formula is declared
unfoldable pub is_type : List Name → Name → Bool
is_type types name = any (λ t. same t name) types

unfoldable pub has_type : List Name → Quantified → Bool
has_type types q = option q.type true (is_type types)

unfoldable mutual
  pub is_typed : List Name → Formula → Bool
  is_typed types (literal r vs) = true
  is_typed types (negation f) = is_typed types f
  is_typed types (implication f g) = is_typed types f && is_typed types g
  is_typed types (conjunction fs) = are_typed types fs
  is_typed types (disjunction fs) = are_typed types fs
  is_typed types (exists qs f) = all (has_type types) qs && is_typed types f
  is_typed types (forall qs f) = all (has_type types) qs && is_typed types f

  pub are_typed : List Name → Formulas → Bool
  are_typed types nil = true
  are_typed types (cons f fs) = is_typed types f && are_typed types fs
