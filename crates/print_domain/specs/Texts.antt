-- What is written of relations and nodes, by the names, the relations by number and the node table. Assumes nothing.
use Rattle.std.specs.Prelude.{ℕ, zero, suc, ◌+◌, ◌-◌, ◌≤◌, ◌<◌, ◌≡◌, refl, Bool, true, false, List, [], ◌∷◌, ◌++◌, ltb, eqb, length, get_or, if◌then◌else◌}
use Rattle.std.proofs.Common.{sym, ap, ◌∙◌, arith, add-one, lt-ltb, le-ltb, ne_eqb}
use Rattle.definitions.specs.Lists.{flat_map, from, below}
use Rattle.definitions.specs.Sheet.Text.{bytes}
use Rattle.definitions.specs.Sheet.Formula.{write_each}
use Rattle.definitions.specs.Reply.Pddl.{parameter_word, indented}
use Rattle.rule_nodes.specs.Tables.{no_node}
use Rattle.rule_nodes.specs.declared.NodeRow.{NodeRow}
use Rattle.rule_nodes.specs.declared.Nodes.{Nodes}
use Rattle.problem_layout.specs.declared.Relations.{Relations}
use Rattle.problem_layout.specs.Laid.{RelationsFit}
use Rattle.print_line.specs.Printed.{print_length}
use Rattle.print_bytes.specs.Emitted.{Emits}
use Rattle.print_names.specs.declared.Name.{Name}
use Rattle.print_names.specs.declared.Name.TheVariants.{Set}
use Rattle.print_names.specs.Naming.{word_in as nameWord, SmallName}
use Rattle.print_words.specs.declared.Word.{Word}
use Rattle.print_words.specs.Words.{atom_in, WordFits}
use Rattle.print_instance.specs.Texts.{is_fun, is_inj, relation_word}

pub record RelationsKnown (g : Relations) : Type 0 where
  pub fit : RelationsFit g
  pub placed : (r : ℕ) → r < g.count → get_or g.arity r 0 ≤ 3

abbrev pub line_text : (q ns : List ℕ) → Word → List ℕ → List ℕ
line_text q ns w ks = indented 4 (atom_in q ns w ks)

unfoldable pub relation_lines : (q ns : List ℕ) → (r arity kind : ℕ) → List ℕ
relation_lines q ns r a k =
    line_text q ns (relation_word 0 r) (below a)
    ++ (line_text q ns (relation_word 1 r) (below a)
    ++ ((if is_fun k then line_text q ns (relation_word 2 r) (below 1) else []) ++ (if is_inj k then line_text q ns (relation_word 3 r) (below 1) else [])))

unfoldable pub relations_lines : (q ns : List ℕ) → Relations → List ℕ
relations_lines q ns g = flat_map (λ r. relation_lines q ns r (get_or g.arity r 0) (get_or g.kind r 0)) (below g.count)

unfoldable pub node_places_of : NodeRow → ℕ
node_places_of row = if eqb row.kind 0 then row.width + 1 else row.width

abbrev pub proved_word : ℕ → ℕ → Word
proved_word v shape = record { kind = 4; which = v; shape = shape }

unfoldable pub node_line : (q ns : List ℕ) → Nodes → ℕ → List ℕ
node_line q ns t v = let row = get_or t.rows v no_node in line_text q ns (proved_word v row.kind) (below (node_places_of row))

unfoldable pub nodes_lines : (q ns : List ℕ) → Nodes → List ℕ
nodes_lines q ns t = flat_map (node_line q ns t) (below t.count)

-- ---- actions
unfoldable pub params_text : ℕ → List ℕ
params_text zero = bytes "()"
params_text (suc k) = bytes "(" ++ (parameter_word 0 ++ (write_each parameter_word (from 1 k) ++ bytes ")"))

unfoldable pub head_text : (q ns : List ℕ) → Name → ℕ → List ℕ
head_text q ns name k = bytes "  (:action " ++ (nameWord q ns name ++ ((10 ∷ bytes "    :parameters ") ++ (params_text k ++ (10 ∷ bytes "    :precondition (and"))))

unfoldable pub also_text : (q ns : List ℕ) → Word → List ℕ → Bool → List ℕ
also_text q ns w ks true = bytes " (not " ++ (atom_in q ns w ks ++ bytes ")")
also_text q ns w ks false = bytes " " ++ atom_in q ns w ks

unfoldable pub used_text : (q ns : List ℕ) → (r arity kind : ℕ) → Bool → List ℕ
used_text q ns r a k negated =
    also_text q ns (relation_word 1 r) (below a) negated
    ++ ((if is_fun k then also_text q ns (relation_word 2 r) (0 ∷ []) negated else []) ++ (if is_inj k then also_text q ns (relation_word 3 r) (1 ∷ []) negated else []))

unfoldable pub set_text : (q ns : List ℕ) → (r arity kind : ℕ) → List ℕ
set_text q ns r a k =
    head_text q ns (Set r) a
    ++ (bytes " (guess)"
    ++ (used_text q ns r a k false
    ++ ((41 ∷ 10 ∷ bytes "    :effect (and") ++ (also_text q ns (relation_word 0 r) (below a) false ++ (used_text q ns r a k true ++ (41 ∷ 41 ∷ 10 ∷ []))))))

unfoldable pub is_picked : ℕ → Bool
is_picked kind = if ltb kind 1 then false else ltb kind 6

unfoldable pub set_if : (q ns : List ℕ) → (r arity kind : ℕ) → List ℕ
set_if q ns r a k = if is_picked k then set_text q ns r a k else []

unfoldable pub sets_text : (q ns : List ℕ) → Relations → List ℕ
sets_text q ns g = flat_map (λ r. set_if q ns r (get_or g.arity r 0) (get_or g.kind r 0)) (below g.count)

-- ---- laws
pub picked_low : (k : ℕ) → k < 1 → false ≡ is_picked k
unfolding is_picked
picked_low k h = rw (lt-ltb k 1 h) refl

pub picked_high : (k : ℕ) → 1 ≤ k → ltb k 6 ≡ is_picked k
unfolding is_picked
picked_high k h = rw (le-ltb k 1 h) refl

pub lines_parts : (q ns : List ℕ) (r a k : ℕ) (places only : List ℕ) (is too : Bool) → places ≡ below a → only ≡ below 1 → is ≡ is_fun k → too ≡ is_inj k → relation_lines q ns r a k
    ≡ line_text q ns (relation_word 0 r) places ++ (line_text q ns (relation_word 1 r) places ++ ((if is then line_text q ns (relation_word 2 r) only else []) ++ (if too then line_text q ns (relation_word 3 r) only else [])))
unfolding relation_lines
lines_parts q ns r a k places only is too e d x y = rw (e, d, x, y) refl

pub used_parts : (q ns : List ℕ) (r a k : ℕ) (negated : Bool) (places first second : List ℕ) (is too : Bool) → places ≡ below a → first ≡ 0 ∷ [] → second ≡ 1 ∷ [] → is ≡ is_fun k → too ≡ is_inj k → used_text q ns r a k negated
    ≡ also_text q ns (relation_word 1 r) places negated ++ ((if is then also_text q ns (relation_word 2 r) first negated else []) ++ (if too then also_text q ns (relation_word 3 r) second negated else []))
unfolding used_text
used_parts q ns r a k negated places first second is too e d b x y = rw (e, d, b, x, y) refl

pub set_parts : (q ns : List ℕ) (r a k : ℕ) (places : List ℕ) → places ≡ below a → set_text q ns r a k
    ≡ head_text q ns (Set r) a ++ (bytes " (guess)" ++ (used_text q ns r a k false ++ ((41 ∷ 10 ∷ bytes "    :effect (and") ++ (also_text q ns (relation_word 0 r) places false ++ (used_text q ns r a k true ++ (41 ∷ 41 ∷ 10 ∷ []))))))
unfolding set_text
set_parts q ns r a k places e = rw e refl

pub set_small : (r : ℕ) → r < 18 → SmallName (Set r)
unfolding SmallName
set_small r h = h

pub set_yes : (q ns : List ℕ) (r a k : ℕ) (is : Bool) → is ≡ is_picked k → is ≡ true → set_if q ns r a k ≡ set_text q ns r a k
unfolding set_if
set_yes q ns r a k is e d = rw (sym e, d) refl

pub set_no : (q ns : List ℕ) (r a k : ℕ) (is : Bool) → is ≡ is_picked k → is ≡ false → set_if q ns r a k ≡ []
unfolding set_if
set_no q ns r a k is e d = rw (sym e, d) refl

pub also_no : (q ns : List ℕ) (w : Word) (ks : List ℕ) (b : Bool) → b ≡ true → also_text q ns w ks b ≡ bytes " (not " ++ (atom_in q ns w ks ++ bytes ")")
unfolding also_text
also_no q ns w ks b e = ap (also_text q ns w ks) e

pub also_yes : (q ns : List ℕ) (w : Word) (ks : List ℕ) (b : Bool) → b ≡ false → also_text q ns w ks b ≡ bytes " " ++ atom_in q ns w ks
unfolding also_text
also_yes q ns w ks b e = ap (also_text q ns w ks) e

pub places_more : (row : NodeRow) → row.kind ≡ 0 → row.width + 1 ≡ node_places_of row
unfolding node_places_of
places_more row e = rw e refl

pub places_plain : (row : NodeRow) → (row.kind ≡ 0 → ⊥) → row.width ≡ node_places_of row
unfolding node_places_of
places_plain row h = rw (ne_eqb row.kind 0 h) refl

-- parameters in brackets
pub params_none : (k : ℕ) → k ≡ 0 → params_text k ≡ bytes "()"
unfolding params_text
params_none k e = ap params_text e

pub params_some : (k : ℕ) → (k ≡ 0 → ⊥) → params_text k ≡ bytes "(" ++ (parameter_word 0 ++ (write_each parameter_word (from 1 (k - 1)) ++ bytes ")"))
unfolding params_text
params_some zero h = absurd (h refl)
params_some (suc k) h = let e : k ≡ suc k - 1 = omega arith in ap (λ (m : ℕ). bytes "(" ++ (parameter_word 0 ++ (write_each parameter_word (from 1 m) ++ bytes ")"))) e

pub params_next : (i k : ℕ) → i < k → write_each parameter_word (from i (k - i)) ≡ (32 ∷ []) ++ (parameter_word i ++ write_each parameter_word (from (i + 1) (k - (i + 1))))
unfolding write_each from
params_next i k h =
    let e : k - i ≡ suc (k - (i + 1)) = omega arith in
    ap (λ (m : ℕ). write_each parameter_word (from i m)) e ∙ ap (λ (j : ℕ). 32 ∷ (parameter_word i ++ write_each parameter_word (from j (k - (i + 1))))) (sym (add-one i))

pub params_end : (i k : ℕ) → k ≤ i → write_each parameter_word (from i (k - i)) ≡ []
unfolding write_each from
params_end i k h = let e : k - i ≡ 0 = omega arith in ap (λ (m : ℕ). write_each parameter_word (from i m)) e

pub node_parts : (q ns : List ℕ) (t : Nodes) (v shape k : ℕ) (places : List ℕ) → shape ≡ (get_or t.rows v no_node).kind → k ≡ node_places_of (get_or t.rows v no_node) → places ≡ below k → node_line q ns t v ≡ line_text q ns (proved_word v shape) places
unfolding node_line
node_parts q ns t v shape k places a b d = rw (d, b, a) refl

pub proved_fits : (v shape : ℕ) → WordFits (proved_word v shape)
unfolding WordFits
proved_fits v shape h = absurd (omega arith)

-- a written table keeps its length
pub emits_size : {text old new : List ℕ} {at next : ℕ} → Emits text old at new next → length new ≡ length old
emits_size {text} {old} {at = at} e = ap length e.table ∙ print_length old at text
