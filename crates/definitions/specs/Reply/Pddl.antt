-- Document 02, job 11, "To and from PDDL": the domain and the instance of a case to the byte, the lines of a plan written and read, and
-- the four calls. What is written is `Lifted`'s; `docs/PDDL.md` says the layout in words.
use Rattle.std.specs.Prelude.{ℕ, zero, suc, ◌+◌, ◌-◌, Bool, not, ◌&&◌, ◌||◌, List, [], ◌∷◌, ◌++◌, map, length, get_or, take, eqb, ltb, if◌then◌else◌}
use Rattle.std.proofs.Math.Option.{Option, none, some}
use Rattle.definitions.specs.Limits.{CaseLimits}
use Rattle.definitions.specs.Lists.{Text, Steps, all, option, flat_map, find, from, below, same, is_empty}
use Rattle.definitions.specs.Sheet.Text.{bytes, split, Line, is_capital, is_digit, is_small, number, decimal}
use Rattle.definitions.specs.Refusal.{Result, refused, accepted, ◌>>=◌, refuse_if, given, read_text}
use Rattle.definitions.specs.Sheet.Formula.{write_each}
use Rattle.definitions.specs.Problem.Truth.{Case}
use Rattle.definitions.specs.Problem.Tree.{Tree, leaf, forall_node, exists_node, and_node, or_node, free}
use Rattle.definitions.specs.Problem.Atoms.{Problem, relation_at, node_at, row_of, places_of}
use Rattle.definitions.specs.Problem.Actions.{Action, set, begin_proof, prove_and, prove_or, prove_exists, prove_forall, prove_goal, round_end, mark_in, mark_out, action_at, action_number}
use Rattle.definitions.specs.Reply.Outcome.{CaseRead, Ready, asked, nothing, without_every, room_for, written, ThirdInput, take_steps}
use Rattle.definitions.specs.Reply.Page.{spaces, free_values}
use Rattle.definitions.specs.Reply.Lifted.{Predicate, guessing, proving, reached, related, unrelated, free_first, free_second, proved, Fact, Term, parameter, object, Pattern}
use Rattle.definitions.specs.Reply.Lifted.{ActionName, set_name, begin_name, goal_name, and_name, exists_name, first_name, next_name, or_name, Schema, relation_in, node_in, last_in}
use Rattle.definitions.specs.Reply.Lifted.{schema_of, action_names, schemas, predicates, places_in, facts_of, PlanStep}

-- ---- words: objects are `o0` onward, parameters `?x0` onward; a relation's predicates have prefixes, since PDDL ignores case and a
-- relation may have any name in capitals; nodes have their preorder number
unfoldable pub object_word : ℕ → Text
object_word x = bytes "o" ++ decimal x

unfoldable pub parameter_word : ℕ → Text
parameter_word i = bytes "?x" ++ decimal i

unfoldable pub term_word : Term → Text
term_word (parameter i) = parameter_word i
term_word (object x) = object_word x

-- (a literal is not a node: its word is never asked for)
unfoldable pub node_word : Tree → Text
node_word (leaf p r ls) = []
node_word (forall_node d s t) = bytes "forall"
node_word (exists_node d s t) = bytes "exists"
node_word (and_node ts) = bytes "and"
node_word (or_node ts) = bytes "or"

unfoldable pub predicate_word : Case → Predicate → Text
predicate_word c guessing = bytes "guess"
predicate_word c proving = bytes "proof"
predicate_word c reached = bytes "holds_goal"
predicate_word c (related r) = bytes "r_" ++ (relation_in c r).name
predicate_word c (unrelated r) = bytes "not-r_" ++ (relation_in c r).name
predicate_word c (free_first r) = bytes "free_" ++ ((relation_in c r).name ++ bytes "_dom")
predicate_word c (free_second r) = bytes "free_" ++ ((relation_in c r).name ++ bytes "_ran")
predicate_word c (proved v) = bytes "holds_" ++ (node_word (node_in c v) ++ (bytes "_" ++ decimal v))

unfoldable pub action_word : Case → ActionName → Text
action_word c (set_name r) = bytes "set_" ++ ((relation_in c r).name ++ bytes "_true")
action_word c begin_name = bytes "begin-proof"
action_word c goal_name = bytes "prove-goal"
action_word c (and_name v) = bytes "prove_and_" ++ decimal v
action_word c (or_name v i) = bytes "prove_or_" ++ (decimal v ++ (bytes "_" ++ decimal i))
action_word c (exists_name v) = bytes "prove_exists_" ++ decimal v
action_word c (first_name v) = bytes "prove_forall_" ++ (decimal v ++ bytes "_1")
action_word c (next_name v) = bytes "prove_forall_" ++ (decimal v ++ bytes "_2")

-- ---- things in brackets, a space between two; a line, indented by some spaces
unfoldable pub bracketed : List Text → Text
bracketed [] = bytes "()"
bracketed (w ∷ ws) = bytes "(" ++ (w ++ (write_each (λ v. v) ws ++ bytes ")"))

unfoldable pub indented : ℕ → Text → Text
indented k t = spaces k ++ (t ++ (10 ∷ []))

unfoldable pub write_fact : Case → Fact → Text
write_fact c f = bracketed (predicate_word c f.predicate ∷ map object_word f.objects)

unfoldable pub write_pattern : Case → Pattern → Text
write_pattern c a = bracketed (predicate_word c a.predicate ∷ map term_word a.terms)

unfoldable pub conjoined : List Text → Text
conjoined ts = bracketed (bytes "and" ∷ ts)

-- ---- the domain. Its constants are the first object and the last; the other objects are the instance's.
unfoldable pub constants : Case → List ℕ
constants c = if eqb c.site.size 1 then 0 ∷ [] else 0 ∷ last_in c ∷ []

unfoldable pub predicate_line : Case → Predicate → Text
predicate_line c p = indented 4 (bracketed (predicate_word c p ∷ map parameter_word (below (places_in c p))))

-- an action is four lines; its effect is what it adds, then what it removes
unfoldable pub schema_text : Case → Schema → Text
schema_text c s =
    indented 2 (bytes "(:action " ++ action_word c s.name)
    ++ (indented 4 (bytes ":parameters " ++ bracketed (map parameter_word (below s.parameters)))
    ++ (indented 4 (bytes ":precondition " ++ conjoined (map (write_pattern c) s.needed))
    ++ indented 4 (bytes ":effect " ++ (conjoined (map (write_pattern c) s.added ++ map (λ a. bracketed (bytes "not" ∷ write_pattern c a ∷ [])) s.removed) ++ bytes ")"))))

unfoldable pub domain_text : Case → Text
domain_text c =
    indented 0 (bytes "(define (domain case)")
    ++ (indented 2 (bracketed (bytes ":constants" ∷ map object_word (constants c)))
    ++ (indented 2 (bytes "(:predicates")
    ++ (flat_map (predicate_line c) (predicates c)
    ++ (indented 2 (bytes ")")
    ++ (flat_map (schema_text c) (schemas c)
    ++ indented 0 (bytes ")"))))))

-- ---- the instance: the objects between the first and the last, and what is so at the start, a line each
unfoldable pub instance_text : Case → Text
instance_text c =
    indented 0 (bytes "(define (problem site)")
    ++ (indented 2 (bytes "(:domain case)")
    ++ (indented 2 (bracketed (bytes ":objects" ∷ map object_word (from 1 (c.site.size - 2))))
    ++ (indented 2 (bytes "(:init")
    ++ (flat_map (λ f. indented 4 (write_fact c f)) (facts_of c)
    ++ (indented 2 (bytes ")")
    ++ (indented 2 (bracketed (bytes ":goal" ∷ bracketed (predicate_word c reached ∷ []) ∷ []))
    ++ indented 0 (bytes ")")))))))

-- ---- a step as a plan has it. The objects are the values of a set action's tuple, or of a node's free variables, outermost first; then
-- the element of an `exists`; of a `forall` at an element after the first, the one before it and that one. (23 refuses a case with an `every`
-- line: no step ends a round or marks a tuple.)
unfoldable pub plan_step : Problem → Action → PlanStep
plan_step p (set r row) = record { name = set_name r; objects = places_of p.size (relation_at p r).arity row }
plan_step p begin_proof = record { name = begin_name; objects = [] }
plan_step p (prove_and v row) = record { name = and_name v; objects = free_values p v row }
plan_step p (prove_or v row i) = record { name = or_name v i; objects = free_values p v row }
plan_step p (prove_exists v row x) = record { name = exists_name v; objects = free_values p v row ++ (x ∷ []) }
plan_step p (prove_forall v row zero) = record { name = first_name v; objects = free_values p v row }
plan_step p (prove_forall v row (suc y)) = record { name = next_name v; objects = free_values p v row ++ (y ∷ suc y ∷ []) }
plan_step p prove_goal = record { name = goal_name; objects = [] }
plan_step p round_end = record { name = goal_name; objects = [] }
plan_step p (mark_in r row) = record { name = goal_name; objects = [] }
plan_step p (mark_out r row) = record { name = goal_name; objects = [] }

-- steps by their numbers; 13 and the index of the first that is no action's
unfoldable pub plan_from : Problem → ℕ → Steps → Result (List PlanStep)
plan_from p i [] = accepted []
plan_from p i (k ∷ ks) = do
  a ← given (action_at p k) 13 i
  steps ← plan_from p (suc i) ks
  accepted (plan_step p a ∷ steps)

unfoldable pub plan_of : Problem → Steps → Result (List PlanStep)
plan_of p steps = plan_from p zero steps

unfoldable pub step_text : Case → PlanStep → Text
step_text c t = indented 0 (bracketed (action_word c t.name ∷ map object_word t.objects))

unfoldable pub plan_text : Case → List PlanStep → Text
plan_text c steps = flat_map (step_text c) steps

-- ---- a plan's text read: each line is words in brackets, a space between two, and a word is letters, digits, `_` (95) and `-` (45); any
-- other line is 2. Letters may be capitals or small: they are read as small ones.
unfoldable pub small : ℕ → ℕ
small b = if is_capital b then b + 32 else b

unfoldable pub folded : Text → Text
folded w = map small w

unfoldable pub is_word_byte : ℕ → Bool
is_word_byte b = is_small b || is_digit b || eqb b 95 || eqb b 45

unfoldable pub is_word : Text → Bool
is_word w = not (is_empty w) && all is_word_byte w

-- what stands before a last byte that closes the bracket (41)
unfoldable pub closed : Text → Option Text
closed [] = none
closed (b ∷ []) = if eqb b 41 then some [] else none
closed (b ∷ d ∷ bs) = option (closed (d ∷ bs)) none (λ t. some (b ∷ t))

unfoldable pub words_in : Text → Option (List Text)
words_in [] = none
words_in (b ∷ bs) = if eqb b 40 then option (closed bs) none (λ t. if all is_word (split 32 t) then some (split 32 t) else none) else none

pub record PlanLine : Type 0 where
  pub at : ℕ
  pub words : List Text

unfoldable pub add_plan_line : List PlanLine → Line → Result (List PlanLine)
add_plan_line ls l = given (if l.ended then words_in (folded l.content) else none) 2 l.at >>= λ ws. accepted (ls ++ (record { at = l.at; words = ws } ∷ []))

unfoldable pub read_plan_lines : Text → Result (List PlanLine)
read_plan_lines text = read_text add_plan_line [] text

-- ---- the step of a line, if there is one: its name is that of an action, in whatever letters; the others are objects, and as many as the
-- action has parameters; and the two elements of a `forall` follow one another
unfoldable pub name_from : Case → Text → Option ActionName
name_from c w = find (λ name. same (folded (action_word c name)) w) (action_names c)

unfoldable pub object_from : ℕ → Text → Option ℕ
object_from n [] = none
object_from n (b ∷ bs) = if eqb b 111 then option (number bs) none (λ x. if ltb x n then some x else none) else none

unfoldable pub objects_from : ℕ → List Text → Option (List ℕ)
objects_from n [] = some []
objects_from n (w ∷ ws) = option (object_from n w) none (λ x. option (objects_from n ws) none (λ xs. some (x ∷ xs)))

unfoldable pub action_named : Problem → ActionName → List ℕ → Option Action
action_named p (set_name r) xs = some (set r (row_of p.size xs))
action_named p begin_name xs = some begin_proof
action_named p goal_name xs = some prove_goal
action_named p (and_name v) xs = some (prove_and v (row_of p.size xs))
action_named p (or_name v i) xs = some (prove_or v (row_of p.size xs) i)
action_named p (exists_name v) xs = let k = length (free (node_at p v)) in some (prove_exists v (row_of p.size (take k xs)) (get_or xs k 0))
action_named p (first_name v) xs = some (prove_forall v (row_of p.size xs) zero)
action_named p (next_name v) xs =
    let k = length (free (node_at p v)) in
    if eqb (get_or xs (suc k) 0) (suc (get_or xs k 0)) then some (prove_forall v (row_of p.size (take k xs)) (get_or xs (suc k) 0)) else none

unfoldable pub step_from : Case → Problem → List Text → Option ℕ
step_from c p [] = none
step_from c p (w ∷ ws) = option (name_from c w) none (λ name. option (objects_from p.size ws) none (λ xs.
    if eqb (length xs) (schema_of c name).parameters then option (action_named p name xs) none (λ a. some (action_number p a)) else none))

-- 22 by the first line that is no step
unfoldable pub steps_from : Case → Problem → List PlanLine → Result Steps
steps_from c p [] = accepted []
steps_from c p (l ∷ ls) = do
  k ← given (step_from c p l.words) 22 l.at
  ks ← steps_from c p ls
  accepted (k ∷ ks)

-- ---- the calls. 22, place 0, before 11: a case with `type` lines, which PDDL is not written for; nor is it for one with an `every` line: 23,
-- place 0, after 11.
unfoldable pub no_types : Case → Result (Unit {0})
no_types c = refuse_if (not (is_empty c.question.types)) 22 zero

unfoldable pub ready_for_pddl : {A : Type 0} → CaseLimits → Text → Text → (CaseRead → Result A) → Result (Ready A)
ready_for_pddl L question site third = asked L question site third no_types without_every nothing

-- a text into the front of a lent buffer, 12 with its length where that is too short; success is how many bytes were written. A
-- refusal leaves the buffer.
pub record TextWritten : Type 0 where
  pub answer : Result ℕ
  pub text : Text

unfoldable pub text_from : Result Text → Text → TextWritten
text_from (refused k place) old = record { answer = refused k place; text = old }
text_from (accepted t) old = record { answer = accepted (length t); text = written t old }

unfoldable pub fitting : ℕ → Text → Result Text
fitting room t = room_for (length t) room >>= λ _. accepted t

unfoldable pub write_domain : CaseLimits → (question site old : Text) → TextWritten
write_domain L question site old = text_from (ready_for_pddl L question site nothing >>= λ r. fitting (length old) (domain_text r.case)) old

unfoldable pub write_instance : CaseLimits → (question site old : Text) → TextWritten
write_instance L question site old = text_from (ready_for_pddl L question site nothing >>= λ r. fitting (length old) (instance_text r.case)) old

-- of steps, 13 by the index of a step comes before 12
unfoldable pub plan_written : CaseLimits → (question site : Text) → ThirdInput → ℕ → Result Text
plan_written L question site steps room = do
  r ← ready_for_pddl L question site (λ _. take_steps steps)
  plan ← plan_of r.problem r.third
  fitting room (plan_text r.case plan)

unfoldable pub write_plan : CaseLimits → (question site : Text) → ThirdInput → (old : Text) → TextWritten
write_plan L question site steps old = text_from (plan_written L question site steps (length old)) old

-- Reading a plan: 1 and 2 of its text, then 22 for a type, 11, 23, 12 where fewer steps are lent than it has lines, 22 by line. The steps
-- are neither run nor judged; success is how many they are. A refusal leaves the buffer.
pub record PlanRead : Type 0 where
  pub answer : Result ℕ
  pub steps : Steps

unfoldable pub plan_steps : CaseLimits → (question site plan : Text) → ℕ → Result Steps
plan_steps L question site plan room = do
  r ← ready_for_pddl L question site (λ _. read_plan_lines plan)
  _ ← room_for (length r.third) room
  steps_from r.case r.problem r.third

unfoldable pub plan_read_from : Result Steps → Steps → PlanRead
plan_read_from (refused k place) old = record { answer = refused k place; steps = old }
plan_read_from (accepted ks) old = record { answer = accepted (length ks); steps = written ks old }

unfoldable pub read_plan : CaseLimits → (question site plan : Text) → (old : Steps) → PlanRead
read_plan L question site plan old = plan_read_from (plan_steps L question site plan (length old)) old
