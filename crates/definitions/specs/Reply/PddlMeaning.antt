-- What PDDL makes of three texts, a domain, an instance and a plan: the language's STRIPS part (conjunctions of atoms; effects that add atoms,
-- or remove them under `not`), without types and comments. Nothing here knows of cases or of how `Pddl` writes: a text is its bytes, in
-- whatever layout, and case is ignored. This is what has to be believed of PDDL: `Demands`, 24 (`texts_mean`), holds the bytes that are written
-- of a case, and those of a plan, to it.
use Rattle.std.specs.Prelude.{ℕ, Bool, true, false, not, ◌&&◌, ◌||◌, List, [], ◌∷◌, ◌++◌, map, length, get_or, drop, eqb, if◌then◌else◌}
use Rattle.std.proofs.Math.Option.{Option, none, some}
use Rattle.definitions.specs.Lists.{Text, all, any, filter, option, position, find, same, is_empty}
use Rattle.definitions.specs.Sheet.Text.{bytes}
use Rattle.definitions.specs.Reply.Pddl.{folded}

-- ---- expressions: words, and expressions in brackets
mutual
  pub data Expression : Type 0 where
    word : (letters : Text) → Expression
    group : Expressions → Expression

  pub data Expressions : Type 0 where
    nil : Expressions
    cons : Expression → Expressions → Expressions

unfoldable pub listed : Expressions → List Expression
listed nil = []
listed (cons e es) = e ∷ listed es

unfoldable pub unlisted : List Expression → Expressions
unlisted [] = nil
unlisted (e ∷ es) = cons e (unlisted es)

-- expressions in brackets
unfoldable pub grouped : List Expression → Expression
grouped es = group (unlisted es)

-- A text is read byte by byte: the groups that are open around, each as far as it was read; what was read of the innermost; the letters of
-- a word that may go on. A bracket, a space, a tab and the end of a line end a word.
pub record Reading : Type 0 where
  pub around : List (List Expression)
  pub inside : List Expression
  pub letters : Text

unfoldable pub with_word : List Expression → Text → List Expression
with_word es [] = es
with_word es (b ∷ w) = es ++ (word (b ∷ w) ∷ [])

unfoldable pub in_all : Reading → List Expression
in_all s = with_word s.inside s.letters

unfoldable pub is_blank : ℕ → Bool
is_blank b = eqb b 32 || eqb b 10 || eqb b 9 || eqb b 13

unfoldable pub closing : List (List Expression) → List Expression → Option Reading
closing [] es = none
closing (fs ∷ around) es = some (record { around = around; inside = fs ++ (grouped es ∷ []); letters = [] })

unfoldable pub taking : Reading → ℕ → Option Reading
taking s b =
    if eqb b 40 then some (record { around = in_all s ∷ s.around; inside = []; letters = [] })
    else if eqb b 41 then closing s.around (in_all s)
    else if is_blank b then some (record { around = s.around; inside = in_all s; letters = [] })
    else some (record { around = s.around; inside = s.inside; letters = s.letters ++ (b ∷ []) })

unfoldable pub taking_all : Reading → Text → Option Reading
taking_all s [] = some s
taking_all s (b ∷ bs) = option (taking s b) none (λ t. taking_all t bs)

-- the expressions of a whole text: no bracket is left open
unfoldable pub nowhere : Reading
nowhere = record { around = []; inside = []; letters = [] }

unfoldable pub expressions : Text → Option (List Expression)
expressions text = option (taking_all nowhere (folded text)) none (λ s. if is_empty s.around then some (in_all s) else none)

-- ---- parts of expressions
unfoldable pub letters_of : Expression → Text
letters_of (word w) = w
letters_of (group es) = []

unfoldable pub members_in : Expression → List Expression
members_in (word w) = []
members_in (group es) = listed es

unfoldable pub begins : Text → Expression → Bool
begins key e = same (letters_of (get_or (members_in e) 0 (word []))) key

-- all of them, or none
unfoldable pub each : {A B : Type 0} → (A → Option B) → List A → Option (List B)
each f [] = some []
each f (x ∷ xs) = option (f x) none (λ y. option (each f xs) none (λ ys. some (y ∷ ys)))

unfoldable pub as_word : Expression → Option Text
as_word (word w) = some w
as_word (group es) = none

unfoldable pub as_words : Expression → Option (List Text)
as_words (word w) = none
as_words (group es) = each as_word (listed es)

-- An atom is its words: the predicate's, then the terms'. The parts of a conjunction; of effects, the atoms added and those removed.
abbrev pub AtomWords : Type 0
AtomWords = List Text

unfoldable pub conjuncts : Expression → List Expression
conjuncts e = if begins (bytes "and") e then drop 1 (members_in e) else e ∷ []

unfoldable pub negated : Expression → Bool
negated e = begins (bytes "not") e

unfoldable pub atoms_in : List Expression → Option (List AtomWords)
atoms_in es = each as_words es

unfoldable pub added_in : List Expression → Option (List AtomWords)
added_in es = atoms_in (filter (λ e. not (negated e)) es)

unfoldable pub removed_in : List Expression → Option (List AtomWords)
removed_in es = atoms_in (map (λ e. get_or (members_in e) 1 (word [])) (filter negated es))

-- ---- a domain's actions: name, parameters, what is needed, added and removed
pub record Operator : Type 0 where
  pub name : Text
  pub parameters : List Text
  pub needed : List AtomWords
  pub added : List AtomWords
  pub removed : List AtomWords

unfoldable pub has_key : List Expression → ℕ → Text → Bool
has_key es i key = same (letters_of (get_or es i (word []))) key

-- `(:action NAME :parameters (..) :precondition .. :effect ..)`
unfoldable pub operator_in : List Expression → Option Operator
operator_in es =
    if eqb (length es) 8 && has_key es 2 (bytes ":parameters") && has_key es 4 (bytes ":precondition") && has_key es 6 (bytes ":effect") then
    option (as_word (get_or es 1 (word []))) none (λ name.
    option (as_words (get_or es 3 (word []))) none (λ parameters.
    option (atoms_in (conjuncts (get_or es 5 (word [])))) none (λ needed.
    option (added_in (conjuncts (get_or es 7 (word [])))) none (λ added.
    option (removed_in (conjuncts (get_or es 7 (word [])))) none (λ removed.
    some (record { name = name; parameters = parameters; needed = needed; added = added; removed = removed }))))))
    else none

-- what a section of a domain or an instance holds
unfoldable pub section : Text → List Expression → List Expression
section key es = option (find (begins key) es) [] (λ e. drop 1 (members_in e))

unfoldable pub only_one : List Expression → Option (List Expression)
only_one [] = none
only_one (e ∷ []) = some (members_in e)
only_one (e ∷ d ∷ es) = none

-- ---- a planning task: actions, objects (the domain's constants and the instance's objects), what is so at the start, what is to be so
pub record Task : Type 0 where
  pub operators : List Operator
  pub objects : List Text
  pub facts : List AtomWords
  pub goals : List AtomWords

unfoldable pub task_from : (domain instance : List Expression) → Option Task
task_from domain instance =
    option (each (λ e. operator_in (members_in e)) (filter (begins (bytes ":action")) domain)) none (λ operators.
    option (each as_word (section (bytes ":constants") domain)) none (λ constants.
    option (each as_word (section (bytes ":objects") instance)) none (λ objects.
    option (atoms_in (section (bytes ":init") instance)) none (λ facts.
    option (atoms_in (conjuncts (get_or (section (bytes ":goal") instance) 0 (word [])))) none (λ goals.
    some (record { operators = operators; objects = constants ++ objects; facts = facts; goals = goals }))))))

unfoldable pub task_of : (domain instance : Text) → Option Task
task_of domain instance =
    option (expressions domain) none (λ ds. option (only_one ds) none (λ d.
    option (expressions instance) none (λ is. option (only_one is) none (λ i. task_from d i))))

-- ---- plans: a step is an action's name and objects for its parameters
unfoldable pub same_words : AtomWords → AtomWords → Bool
same_words [] [] = true
same_words [] (y ∷ ys) = false
same_words (x ∷ xs) [] = false
same_words (x ∷ xs) (y ∷ ys) = same x y && same_words xs ys

unfoldable pub is_among_atoms : AtomWords → List AtomWords → Bool
is_among_atoms a atoms = any (same_words a) atoms

unfoldable pub in_place_of : List Text → List Text → Text → Text
in_place_of parameters arguments w = option (position (same w) parameters) w (λ i. get_or arguments i [])

unfoldable pub atom_at : List Text → List Text → AtomWords → AtomWords
atom_at parameters arguments [] = []
atom_at parameters arguments (predicate ∷ terms) = predicate ∷ map (in_place_of parameters arguments) terms

unfoldable pub may_run : List Text → (AtomWords → Bool) → Operator → List Text → Bool
may_run objects w o xs =
    eqb (length xs) (length o.parameters) && all (λ x. any (same x) objects) xs && all (λ a. w (atom_at o.parameters xs a)) o.needed

unfoldable pub after_run : (AtomWords → Bool) → Operator → List Text → AtomWords → Bool
after_run w o xs a =
    (w a && not (is_among_atoms a (map (atom_at o.parameters xs) o.removed))) || is_among_atoms a (map (atom_at o.parameters xs) o.added)

unfoldable pub runs_from : Task → (AtomWords → Bool) → List AtomWords → Bool
runs_from t w [] = all w t.goals
runs_from t w (step ∷ steps) =
    option (find (λ (o : Operator). same o.name (get_or step 0 [])) t.operators) false (λ o. may_run t.objects w o (drop 1 step) && runs_from t (after_run w o (drop 1 step)) steps)

unfoldable pub steps_in : Text → Option (List AtomWords)
steps_in plan = option (expressions plan) none (λ es. each as_words es)

-- whether a text is a plan of a domain and an instance
unfoldable pub is_plan_of : (domain instance plan : Text) → Bool
is_plan_of domain instance plan =
    option (task_of domain instance) false (λ t. option (steps_in plan) false (λ steps. runs_from t (λ a. is_among_atoms a t.facts) steps))
