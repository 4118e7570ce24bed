-- What is written of nodes' actions, and the whole, by the names, the relations by number and the node table. Assumes nothing.
use Rattle.std.specs.Prelude.{ℕ, zero, suc, ◌+◌, ◌-◌, false, List, [], ◌∷◌, ◌++◌, map, ltb, eqb, get_or, take, set, if◌then◌else◌}
use Rattle.definitions.specs.Lists.{flat_map, below}
use Rattle.definitions.specs.Sheet.Text.{bytes}
use Rattle.definitions.specs.Reply.Pddl.{object_word}
use Rattle.rule_nodes.specs.declared.PartRow.{PartRow}
use Rattle.rule_nodes.specs.declared.NodeRow.{NodeRow}
use Rattle.rule_nodes.specs.declared.Nodes.{Nodes}
use Rattle.rule_nodes.specs.Tables.{no_part, no_node}
use Rattle.problem_layout.specs.declared.Relations.{Relations}
use Rattle.print_names.specs.declared.Name.TheVariants.{Goal, And, Exists, First, Next, Or}
use Rattle.print_words.specs.declared.Word.{Word}
use Rattle.print_instance.specs.Texts.{relation_word}
use Rattle.print_domain.specs.Texts.{proved_word, relations_lines, nodes_lines, head_text, also_text, sets_text}

abbrev pub row_at : Nodes → ℕ → NodeRow
row_at t v = get_or t.rows v no_node

abbrev pub part_at : Nodes → ℕ → PartRow
part_at t i = get_or t.parts i no_part

-- between what an action needs and what it does, and its end
abbrev pub effect_text : List ℕ
effect_text = 41 ∷ 10 ∷ bytes "    :effect (and"

abbrev pub end_text : List ℕ
end_text = 41 ∷ 41 ∷ 10 ∷ []

-- ---- the terms of levels, by number: a free level is a parameter, the outermost first; another would be the first object
unfoldable pub env_from : (levels : List ℕ) → ℕ → List ℕ → List ℕ
env_from levels zero e = e
env_from levels (suc i) e = env_from levels i (set e (get_or levels i 0) i)

abbrev pub no_env : List ℕ
no_env = 8 ∷ 8 ∷ 8 ∷ 8 ∷ []

unfoldable pub env_of : NodeRow → List ℕ
env_of row = env_from row.levels row.width no_env

-- with a term for a quantifier's own level
abbrev pub bound_env : NodeRow → ℕ → List ℕ
bound_env row x = set (env_of row) row.level x

-- the terms of a part, `end` being that of the last object
unfoldable pub part_terms : PartRow → (env : List ℕ) → ℕ → List ℕ
part_terms p env end = map (λ l. get_or env l 0) (take p.width p.levels) ++ (if eqb p.tag 2 then end ∷ [] else [])

unfoldable pub part_word : Nodes → PartRow → Word
part_word t p = if ltb p.tag 2 then relation_word p.tag p.which else proved_word p.which (row_at t p.which).kind

-- a part as an action needs it
unfoldable pub part_text : (q ns : List ℕ) → Nodes → PartRow → (env : List ℕ) → ℕ → List ℕ
part_text q ns t p env end = also_text q ns (part_word t p) (part_terms p env end) false

-- what an action adds alone, and its end
unfoldable pub proof_end : (q ns : List ℕ) → Word → List ℕ → List ℕ
proof_end q ns w own = effect_text ++ (also_text q ns w own false ++ end_text)

-- the k-th part of node v
unfoldable pub kid_text : (q ns : List ℕ) → Nodes → (v end k : ℕ) → List ℕ
kid_text q ns t v end k = part_text q ns t (part_at t ((row_at t v).first + k)) (env_of (row_at t v)) end

unfoldable pub and_text : (q ns : List ℕ) → Nodes → (v end : ℕ) → List ℕ
and_text q ns t v end =
    head_text q ns (And v) (row_at t v).width
    ++ (bytes " (proof)" ++ (flat_map (kid_text q ns t v end) (below (row_at t v).many) ++ proof_end q ns (proved_word v 2) (below (row_at t v).width)))

unfoldable pub or_text : (q ns : List ℕ) → Nodes → (v end i : ℕ) → List ℕ
or_text q ns t v end i =
    head_text q ns (Or v i) (row_at t v).width ++ (bytes " (proof)" ++ (kid_text q ns t v end i ++ proof_end q ns (proved_word v 3) (below (row_at t v).width)))

unfoldable pub ors_text : (q ns : List ℕ) → Nodes → (v end : ℕ) → List ℕ
ors_text q ns t v end = flat_map (or_text q ns t v end) (below (row_at t v).many)

-- a quantifier's part, its variable being a term
unfoldable pub under_text : (q ns : List ℕ) → Nodes → (v x end : ℕ) → List ℕ
under_text q ns t v x end = part_text q ns t (part_at t (row_at t v).first) (bound_env (row_at t v) x) end

unfoldable pub exists_text : (q ns : List ℕ) → Nodes → (v end : ℕ) → List ℕ
exists_text q ns t v end =
    head_text q ns (Exists v) ((row_at t v).width + 1)
    ++ (bytes " (proof)" ++ (under_text q ns t v (row_at t v).width end ++ proof_end q ns (proved_word v 1) (below (row_at t v).width)))

-- a node's own terms and one more
abbrev pub own_with : ℕ → ℕ → List ℕ
own_with width k = below width ++ (k ∷ [])

unfoldable pub first_text : (q ns : List ℕ) → Nodes → (v end : ℕ) → List ℕ
first_text q ns t v end =
    head_text q ns (First v) (row_at t v).width
    ++ (bytes " (proof)" ++ (under_text q ns t v 8 end ++ proof_end q ns (proved_word v 0) (own_with (row_at t v).width 8)))

unfoldable pub next_text : (q ns : List ℕ) → Nodes → (v end : ℕ) → List ℕ
next_text q ns t v end =
    head_text q ns (Next v) ((row_at t v).width + 2)
    ++ (bytes " (proof)"
    ++ (also_text q ns (relation_word 0 2) ((row_at t v).width ∷ ((row_at t v).width + 1) ∷ []) false
    ++ (also_text q ns (proved_word v 0) (own_with (row_at t v).width (row_at t v).width) false
    ++ (under_text q ns t v ((row_at t v).width + 1) end ++ proof_end q ns (proved_word v 0) (own_with (row_at t v).width ((row_at t v).width + 1))))))

unfoldable pub forall_text : (q ns : List ℕ) → Nodes → (v end : ℕ) → List ℕ
forall_text q ns t v end = first_text q ns t v end ++ next_text q ns t v end

unfoldable pub node_text : (q ns : List ℕ) → Nodes → (v end : ℕ) → List ℕ
node_text q ns t v end =
    if eqb (row_at t v).kind 0 then forall_text q ns t v end
    else if eqb (row_at t v).kind 1 then exists_text q ns t v end
    else if eqb (row_at t v).kind 2 then and_text q ns t v end
    else ors_text q ns t v end

unfoldable pub nodes_text : (q ns : List ℕ) → Nodes → ℕ → List ℕ
nodes_text q ns t end = flat_map (λ v. node_text q ns t v end) (below t.count)

unfoldable pub goal_text : (q ns : List ℕ) → Nodes → ℕ → List ℕ
goal_text q ns t end = head_text q ns Goal 0 ++ (part_text q ns t t.root no_env end ++ (41 ∷ 10 ∷ (bytes "    :effect (and (holds_goal)))" ++ (10 ∷ []))))

-- ---- the whole
unfoldable pub constants_text : ℕ → List ℕ
constants_text n =
    bytes "  (:constants o0" ++ (if eqb n 1 then 41 ∷ 10 ∷ [] else (32 ∷ []) ++ (object_word (n - 1) ++ (41 ∷ 10 ∷ [])))

unfoldable pub domain_in : (q ns : List ℕ) → ℕ → Relations → Nodes → List ℕ
domain_in q ns n g t =
    (bytes "(define (domain case)" ++ (10 ∷ []))
    ++ (constants_text n
    ++ ((bytes "  (:predicates" ++ (10 ∷ (bytes "    (guess)" ++ (10 ∷ (bytes "    (proof)" ++ (10 ∷ (bytes "    (holds_goal)" ++ (10 ∷ []))))))))
    ++ (relations_lines q ns g
    ++ (nodes_lines q ns t
    ++ ((bytes "  )" ++ (10 ∷ []))
    ++ (sets_text q ns g
    ++ ((bytes "  (:action begin-proof"
    ++ (10 ∷ (bytes "    :parameters ()" ++ (10 ∷ (bytes "    :precondition (and (guess))" ++ (10 ∷ (bytes "    :effect (and (proof) (not (guess))))" ++ (10 ∷ []))))))))
    ++ (nodes_text q ns t (n + 7) ++ (goal_text q ns t (n + 7) ++ (41 ∷ 10 ∷ []))))))))))
