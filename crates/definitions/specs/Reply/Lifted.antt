-- Document 02, job 11, "unground": a case as a planning problem whose actions have parameters. This fixes what `Pddl` writes, and it is a step of
-- the proof, not one more thing to believe: what the written bytes mean is said by `PddlMeaning` alone, and `Demands`, 24 (`texts_mean`), holds them to
-- that. All of it is read off the question's tree (nodes by preorder number, their parts and free levels) and the site. No number of an atom or of an
-- action stands here, no row, and nothing of what `Actions` says that an action needs, adds or removes. It is for cases without a `type` line and
-- without an `every` line; others have no PDDL (`Pddl.ready_for_pddl`).
use Rattle.std.specs.Prelude.{ℕ, zero, suc, ◌-◌, Bool, true, false, not, ◌&&◌, ◌||◌, List, [], ◌∷◌, ◌++◌, map, length, get_or, take, drop, eqb, ltb, if◌then◌else◌}
use Rattle.std.proofs.Math.Option.{Option}
use Rattle.definitions.specs.Lists.{all, any, filter, flat_map, map_from, option, position, find, below, same}
use Rattle.definitions.specs.Sheet.Relations.{Relation, fixed, is_chosen, is_function, is_injective}
use Rattle.definitions.specs.Sheet.Sheets.{relations_of}
use Rattle.definitions.specs.Problem.Truth.{Case, holds}
use Rattle.definitions.specs.Problem.Tree.{Tree, leaf, forall_node, exists_node, and_node, or_node, Part, parts, how_many, tree_of, nodes, free, is_forall}

-- ---- what is said: a predicate of objects. Three are the phases and the goal; a relation, by its number, has one for its tuples and
-- one for those that are none, and two for elements still free as a first and as a second place; a node, by its preorder number, has
-- one for being proved.
pub data Predicate : Type 0 where
  guessing proving reached : Predicate
  related unrelated free_first free_second : (relation : ℕ) → Predicate
  proved : (node : ℕ) → Predicate

unfoldable pub predicate_kind : Predicate → ℕ
predicate_kind guessing = 0
predicate_kind proving = 1
predicate_kind reached = 2
predicate_kind (related r) = 3
predicate_kind (unrelated r) = 4
predicate_kind (free_first r) = 5
predicate_kind (free_second r) = 6
predicate_kind (proved v) = 7

unfoldable pub predicate_of : Predicate → ℕ
predicate_of guessing = 0
predicate_of proving = 0
predicate_of reached = 0
predicate_of (related r) = r
predicate_of (unrelated r) = r
predicate_of (free_first r) = r
predicate_of (free_second r) = r
predicate_of (proved v) = v

-- A fact is said of objects, which are the elements. In an action it is said of terms: of the parameters, the first being 0, and of objects.
pub record Fact : Type 0 where
  pub predicate : Predicate
  pub objects : List ℕ

pub data Term : Type 0 where
  parameter : (index : ℕ) → Term
  object : (element : ℕ) → Term

pub record Pattern : Type 0 where
  pub predicate : Predicate
  pub terms : List Term

unfoldable pub same_fact : Fact → Fact → Bool
same_fact f g = eqb (predicate_kind f.predicate) (predicate_kind g.predicate) && eqb (predicate_of f.predicate) (predicate_of g.predicate) && same f.objects g.objects

unfoldable pub is_said : Fact → List Fact → Bool
is_said f fs = any (same_fact f) fs

-- what a pattern says where the parameters are these objects
unfoldable pub term_value : List ℕ → Term → ℕ
term_value xs (parameter i) = get_or xs i 0
term_value xs (object x) = x

unfoldable pub said_of : List ℕ → Pattern → Fact
said_of xs a = record { predicate = a.predicate; objects = map (term_value xs) a.terms }

-- ---- actions with parameters, by their names: one for each `choose`, two for the phases' ends, and for each node one, for an `or` one for
-- each part, for a `forall` one for the first element and one for an element and the next
pub data ActionName : Type 0 where
  set_name : (relation : ℕ) → ActionName
  begin_name goal_name : ActionName
  and_name exists_name first_name next_name : (node : ℕ) → ActionName
  or_name : (node part : ℕ) → ActionName

unfoldable pub name_kind : ActionName → ℕ
name_kind (set_name r) = 0
name_kind begin_name = 1
name_kind goal_name = 2
name_kind (and_name v) = 3
name_kind (exists_name v) = 4
name_kind (first_name v) = 5
name_kind (next_name v) = 6
name_kind (or_name v i) = 7

unfoldable pub name_subject : ActionName → ℕ
name_subject (set_name r) = r
name_subject begin_name = 0
name_subject goal_name = 0
name_subject (and_name v) = v
name_subject (exists_name v) = v
name_subject (first_name v) = v
name_subject (next_name v) = v
name_subject (or_name v i) = v

unfoldable pub name_part : ActionName → ℕ
name_part (set_name r) = 0
name_part begin_name = 0
name_part goal_name = 0
name_part (and_name v) = 0
name_part (exists_name v) = 0
name_part (first_name v) = 0
name_part (next_name v) = 0
name_part (or_name v i) = i

unfoldable pub same_name : ActionName → ActionName → Bool
same_name a b = eqb (name_kind a) (name_kind b) && eqb (name_subject a) (name_subject b) && eqb (name_part a) (name_part b)

pub record Schema : Type 0 where
  pub name : ActionName
  pub parameters : ℕ
  pub needed : List Pattern
  pub added : List Pattern
  pub removed : List Pattern

-- ---- what of a case the actions are made from: a relation, a node, the last element. (No name has the number of a relation, or of a
-- node, that is not there.)
unfoldable pub relation_in : Case → ℕ → Relation
relation_in c r = get_or (relations_of c.question) r (fixed [] zero)

unfoldable pub node_in : Case → ℕ → Tree
node_in c v = get_or (nodes (tree_of c.question)) v (leaf true zero [])

unfoldable pub last_in : Case → ℕ
last_in c = c.site.size - 1

-- SUC, by its number among the relations that are built in
abbrev pub successor : ℕ
successor = 2

-- ---- the terms of levels: a node's free levels are its parameters, outermost first; a quantifier's own level is a further term. (8
-- refuses a variable that is not bound: no level is ever given the first object for that.)
unfoldable pub term_at : List ℕ → ℕ → Term
term_at ds l = option (position (eqb l) ds) (object zero) parameter

unfoldable pub with_term : (ℕ → Term) → ℕ → Term → ℕ → Term
with_term e d x l = if eqb l d then x else e l

-- a node's own pattern: of its parameters, and for a `forall` of one term more, the element up to which it is proved
unfoldable pub own_terms : Tree → List Term
own_terms t = map parameter (below (length (free t)))

-- how a part is said: a literal by its relation; of a `forall` that it is proved up to the last element; any other node
unfoldable pub part_pattern : ℕ → (ℕ → Term) → ℕ → Tree → Pattern
part_pattern end e v (leaf true r ls) = record { predicate = related r; terms = map e ls }
part_pattern end e v (leaf false r ls) = record { predicate = unrelated r; terms = map e ls }
part_pattern end e v (forall_node d s t) = record { predicate = proved v; terms = map e (free (forall_node d s t)) ++ (object end ∷ []) }
part_pattern end e v (exists_node d s t) = record { predicate = proved v; terms = map e (free (exists_node d s t)) }
part_pattern end e v (and_node ts) = record { predicate = proved v; terms = map e (free (and_node ts)) }
part_pattern end e v (or_node ts) = record { predicate = proved v; terms = map e (free (or_node ts)) }

unfoldable pub part_patterns : ℕ → ℕ → Tree → List Pattern
part_patterns end v t = map (λ (q : Part). part_pattern end (term_at (free t)) q.node q.tree) (parts v t)

-- the part under a quantifier, its variable being a term (no other node has one)
unfoldable pub under_pattern : ℕ → ℕ → Tree → Term → List Pattern
under_pattern end v (leaf p r ls) x = []
under_pattern end v (forall_node d s t) x = part_pattern end (with_term (term_at (free (forall_node d s t))) d x) (suc v) t ∷ []
under_pattern end v (exists_node d s t) x = part_pattern end (with_term (term_at (free (exists_node d s t))) d x) (suc v) t ∷ []
under_pattern end v (and_node ts) x = []
under_pattern end v (or_node ts) x = []

-- ---- the action of each name. Setting a tuple uses up that it is none, and for a function kind, an injective kind, that its first, its
-- second place is free.
abbrev pub plainly : Predicate → Pattern
plainly predicate = record { predicate = predicate; terms = [] }

unfoldable pub used_up : ℕ → Relation → List Pattern
used_up r k =
    record { predicate = unrelated r; terms = map parameter (below k.arity) }
    ∷ ((if is_function k.kind then record { predicate = free_first r; terms = parameter 0 ∷ [] } ∷ [] else [])
    ++ (if is_injective k.kind then record { predicate = free_second r; terms = parameter 1 ∷ [] } ∷ [] else []))

unfoldable pub set_schema : ℕ → Relation → Schema
set_schema r k =
    record {
      name = set_name r;
      parameters = k.arity;
      needed = plainly guessing ∷ used_up r k;
      added = record { predicate = related r; terms = map parameter (below k.arity) } ∷ [];
      removed = used_up r k;
    }

-- proving something of a node adds that it is proved, and removes nothing
unfoldable pub proof_schema : ActionName → (node count : ℕ) → (needed : List Pattern) → (own : List Term) → Schema
proof_schema name v count needed own =
    record { name = name; parameters = count; needed = plainly proving ∷ needed; added = record { predicate = proved v; terms = own } ∷ []; removed = [] }

unfoldable pub schema_of : Case → ActionName → Schema
schema_of c (set_name r) = set_schema r (relation_in c r)
schema_of c begin_name = record { name = begin_name; parameters = 0; needed = plainly guessing ∷ []; added = plainly proving ∷ []; removed = plainly guessing ∷ [] }
schema_of c goal_name =
    record { name = goal_name; parameters = 0; needed = part_pattern (last_in c) (λ _. object zero) zero (tree_of c.question) ∷ []; added = plainly reached ∷ []; removed = [] }
schema_of c (and_name v) = let t = node_in c v in proof_schema (and_name v) v (length (free t)) (part_patterns (last_in c) v t) (own_terms t)
schema_of c (or_name v i) = let t = node_in c v in proof_schema (or_name v i) v (length (free t)) (take 1 (drop i (part_patterns (last_in c) v t))) (own_terms t)
schema_of c (exists_name v) =
    let t = node_in c v in
    proof_schema (exists_name v) v (suc (length (free t))) (under_pattern (last_in c) v t (parameter (length (free t)))) (own_terms t)
schema_of c (first_name v) =
    let t = node_in c v in
    proof_schema (first_name v) v (length (free t)) (under_pattern (last_in c) v t (object zero)) (own_terms t ++ (object zero ∷ []))
schema_of c (next_name v) =
    let t = node_in c v in
    let y = parameter (length (free t)) in
    let z = parameter (suc (length (free t))) in
    proof_schema (next_name v) v (suc (suc (length (free t))))
    (record { predicate = related successor; terms = y ∷ z ∷ [] } ∷ record { predicate = proved v; terms = own_terms t ++ (y ∷ []) } ∷ under_pattern (last_in c) v t z)
    (own_terms t ++ (z ∷ []))

-- ---- all of them in order: the `choose` lines, begin-proof, node by node, prove-goal
unfoldable pub set_names : ℕ → Relation → List ActionName
set_names r k = if is_chosen k.kind then set_name r ∷ [] else []

unfoldable pub node_names : ℕ → Tree → List ActionName
node_names v (leaf p r ls) = []
node_names v (forall_node d s t) = first_name v ∷ next_name v ∷ []
node_names v (exists_node d s t) = exists_name v ∷ []
node_names v (and_node ts) = and_name v ∷ []
node_names v (or_node ts) = map (or_name v) (below (how_many ts))

unfoldable pub action_names : Case → List ActionName
action_names c =
    flat_map (λ (ns : List ActionName). ns) (map_from set_names zero (relations_of c.question))
    ++ (begin_name ∷ (flat_map (λ (ns : List ActionName). ns) (map_from node_names zero (nodes (tree_of c.question))) ++ (goal_name ∷ [])))

unfoldable pub schemas : Case → List Schema
schemas c = map (schema_of c) (action_names c)

-- ---- the predicates in order, and of how many objects each is said
unfoldable pub relation_predicates : ℕ → Relation → List Predicate
relation_predicates r k =
    related r ∷ unrelated r ∷ ((if is_function k.kind then free_first r ∷ [] else []) ++ (if is_injective k.kind then free_second r ∷ [] else []))

unfoldable pub predicates : Case → List Predicate
predicates c =
    guessing ∷ proving ∷ reached
    ∷ (flat_map (λ (ps : List Predicate). ps) (map_from relation_predicates zero (relations_of c.question))
    ++ map_from (λ v t. proved v) zero (nodes (tree_of c.question)))

unfoldable pub node_places : Tree → ℕ
node_places t = if is_forall t then suc (length (free t)) else length (free t)

unfoldable pub places_in : Case → Predicate → ℕ
places_in c guessing = 0
places_in c proving = 0
places_in c reached = 0
places_in c (related r) = (relation_in c r).arity
places_in c (unrelated r) = (relation_in c r).arity
places_in c (free_first r) = 1
places_in c (free_second r) = 1
places_in c (proved v) = node_places (node_in c v)

-- ---- what is so at the start: the guess phase; of each relation the tuples that hold while nothing is picked, those that do not, and
-- that every element is free
unfoldable pub tuples_over : ℕ → ℕ → List (List ℕ)
tuples_over n zero = [] ∷ []
tuples_over n (suc k) = flat_map (λ x. map (λ xs. x ∷ xs) (tuples_over n k)) (below n)

unfoldable pub each_said : Predicate → List (List ℕ) → List Fact
each_said predicate xss = map (λ xs. record { predicate = predicate; objects = xs }) xss

unfoldable pub relation_facts : Case → ℕ → Relation → List Fact
relation_facts c r k =
    let n = c.site.size in
    each_said (related r) (filter (holds c [] r) (tuples_over n k.arity))
    ++ (each_said (unrelated r) (filter (λ xs. not (holds c [] r xs)) (tuples_over n k.arity))
    ++ ((if is_function k.kind then each_said (free_first r) (tuples_over n 1) else [])
    ++ (if is_injective k.kind then each_said (free_second r) (tuples_over n 1) else [])))

unfoldable pub facts_of : Case → List Fact
facts_of c =
    record { predicate = guessing; objects = [] }
    ∷ flat_map (λ (fs : List Fact). fs) (map_from (relation_facts c) zero (relations_of c.question))

-- ---- plans. A world says of each fact whether it is so. A step of a plan is an action's name and objects: it may be taken if there is
-- an action of that name, with as many parameters, all are objects, and in the world all is so that the action needs. After it what
-- the action removes is not so any more, and then what it adds is.
abbrev pub World : Type 0
World = Fact → Bool

pub record PlanStep : Type 0 where
  pub name : ActionName
  pub objects : List ℕ

unfoldable pub may_apply : ℕ → World → Schema → List ℕ → Bool
may_apply n w s xs = eqb (length xs) s.parameters && all (λ x. ltb x n) xs && all (λ a. w (said_of xs a)) s.needed

unfoldable pub applied : World → Schema → List ℕ → World
applied w s xs f = (w f && not (is_said f (map (said_of xs) s.removed))) || is_said f (map (said_of xs) s.added)

unfoldable pub schema_named : List Schema → ActionName → Option Schema
schema_named ss name = find (λ (s : Schema). same_name s.name name) ss

-- a plan of actions over n objects, from a world: every step may be taken in its turn, and the goal is so after the last
unfoldable pub is_plan_from : List Schema → ℕ → World → List PlanStep → Bool
is_plan_from ss n w [] = w (record { predicate = reached; objects = [] })
is_plan_from ss n w (t ∷ ts) =
    option (schema_named ss t.name) false (λ s. may_apply n w s t.objects && is_plan_from ss n (applied w s t.objects) ts)

-- a plan of the case: from what is so at the start
unfoldable pub is_plan : Case → List PlanStep → Bool
is_plan c plan = is_plan_from (schemas c) c.site.size (λ f. is_said f (facts_of c)) plan
