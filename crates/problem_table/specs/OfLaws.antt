-- The numbers by the table are those of the problem's atoms.
use Rattle.std.specs.Prelude.{◌≡◌, Bool, not, ◌&&◌, ◌||◌, drop, if◌then◌else◌}
use Rattle.std.proofs.Math.Path.{refl, sym, ap, ap₂, subst}
use Rattle.std.proofs.Common.{◌∙◌, drop-cons}
use Rattle.std.proofs.Math.Bool.{true, false}
use Rattle.std.proofs.lemmas.Bool.{false≢true}
use Rattle.std.proofs.Math.Option.{Option, none, some}
use mathlib.Core.List.{List, [], ◌∷◌, ◌++◌, map, Memᴰ}
use Prim.Native.Nat.{ℕ, zero, suc, ◌+◌, ◌-◌, ◌*◌, ◌/◌, ◌%◌, ◌^◌, ◌≤◌, ◌<◌}
use Rattle.std.proofs.Math.Nat.{add-zero, one-le-pow}
use native.Mathlib.Omega.{arith}
use Rattle.std.proofs.Math.Arith.{digits_lt}
use Rattle.std.proofs.Math.ListN.{length, get_or, take, length-map, get_or-map}
use Rattle.std.proofs.Math.Dec.{T, ltb, eqb}
use borrow.Author.Tests.{lt-ltb, le-ltb, ltb-true, ltb-false, eqb-true}
use Rattle.definitions.specs.Lists.{all, option, is_some, from, below, before}
use Rattle.definitions.specs.Sheet.Relations.{Relation, Kind, static, plain, Fun, PFun, Inj, PInj, universal, is_chosen, is_universal, is_function, is_injective}
use Rattle.definitions.specs.Sheet.Sheets.{every_number}
use Rattle.definitions.specs.Problem.Truth.{every_tuples}
use Rattle.definitions.specs.Problem.Tree.{Tree, Trees, end, ◌then◌, leaf, forall_node, exists_node, and_node, or_node, Part, parts, parts_from, how_many, nodes, is_forall, node_sort}
use Rattle.definitions.specs.Problem.Atoms.{Problem, State, relation_at, node_at, relation_start, node_start, last_start, tuples_of, rows_of, node_width, Atom, not_tuple, free_domain, free_range, holds_node, marked, goal, atom_number, atoms}
use Rattle.definitions.specs.Problem.Actions.{Values, with_value, values_at, part_atom, part_atoms, under_atom, free_atoms, forall_needs}
use Rattle.definitions.specs.Problem.Actions.{Action, set, begin_proof, prove_and, prove_or, prove_exists, prove_forall, prove_goal, round_end, mark_in, mark_out, finish, root_atom, mark_or_goal, nodes_atoms, needs, adds, removes, set_rows, sets_of}
use Rattle.definitions.specs.Problem.Strips.{after}
use Rattle.laws.specs.Booleans.{T_of, T_true, T_false}
use Rattle.laws.specs.Lists.{from_append}
use Rattle.laws.specs.SetRows.{row_below, sets_le, no_rows, plain_rows, free_rows, all_row, pair_count, pair_row}
use Rattle.laws.specs.Numbers.{IsAction, IsAtom, no_node, fun_early, early_start, late_start, set_below, tuple_below, atom_below, node_below, node_next, three_atoms, finish_goal, finish_round}
use Rattle.rule_nodes.specs.Tables.{node_kind, node_level}
use Rattle.problem_table.specs.Lines.{size_in, ranges_place, relations_in, relation_line, last_line, has_every, every_in, node_line, nodes_in, part_line, part_at, is_placeless, PlacesFit}
use Rattle.problem_table.specs.Numbers.{is_whole, set_row, free_numbers, row_values, under_at, need_numbers, add_numbers, remove_numbers, set_needs, set_removes, and_needs, or_needs, exists_needs, own_before, forall_needs as forallNumbers, goal_needs, round_removes, next_mark, finish_in, changed, Held}
use Rattle.problem_table.specs.Of.{kind_number, IsPart, no_part, IsNode, Is, said}
use Rattle.problem_table.specs.NeedLaws.{members_length, member_at, row_whole, row_pair}
use Rattle.problem_table.specs.declared.RelationLine.{RelationLine}
use Rattle.problem_table.specs.declared.NodeLine.{NodeLine}
use Rattle.problem_table.specs.declared.Act.TheVariants.{Goal, RoundEnd}

pub parts_length : (v : ℕ) (ts : Trees) → length (parts_from v ts) ≡ how_many ts
unfolding parts_from how_many
parts_length v end = refl
parts_length v (t then ts) = ap suc (parts_length (v + length (nodes t)) ts)

take_one : {A : Type 0} (i : ℕ) (xs : List A) (d : A) → i < length xs → take 1 (drop i xs) ≡ get_or xs i d ∷ []
take_one i xs d h = ap (take 1) (drop-cons xs i d h)

-- ---- a function kind by its number
pub function_kind : (k : Kind) → is_placeless (kind_number k) ≡ false → T (is_function k)
unfolding kind_number is_function
function_kind static l = absurd (false≢true (sym l))
function_kind plain l = absurd (false≢true (sym l))
function_kind Fun l = tt
function_kind PFun l = tt
function_kind Inj l = tt
function_kind PInj l = tt
function_kind universal l = absurd (false≢true (sym l))

plain_kind : (k : Kind) → is_placeless (kind_number k) ≡ true → is_function k ≡ false
unfolding kind_number is_function
plain_kind static l = refl
plain_kind plain l = refl
plain_kind Fun l = absurd (false≢true l)
plain_kind PFun l = absurd (false≢true l)
plain_kind Inj l = absurd (false≢true l)
plain_kind PInj l = absurd (false≢true l)
plain_kind universal l = refl

-- that of an `every` line by its number
pub universal_number : (k : Kind) → eqb (kind_number k) 6 ≡ is_universal k
unfolding kind_number is_universal
universal_number static = refl
universal_number plain = refl
universal_number Fun = refl
universal_number PFun = refl
universal_number Inj = refl
universal_number PInj = refl
universal_number universal = refl

said_round : said round_end ≡ RoundEnd
unfolding said
said_round = refl

said_goal : said prove_goal ≡ Goal
unfolding said
said_goal = refl

pub both_whole : (k : RelationLine) → is_placeless k.kind ≡ false → is_whole k ≡ true → (k.firsts ≡ ranges_place) × (k.seconds ≡ ranges_place)
both_whole k q e = by_tests (eqb k.firsts ranges_place) (eqb k.seconds ranges_place) refl refl (ap (λ (b : Bool). b || (eqb k.firsts ranges_place && eqb k.seconds ranges_place)) (sym q) ∙ e)
  where
    by_tests : (x y : Bool) → eqb k.firsts ranges_place ≡ x → eqb k.seconds ranges_place ≡ y → (false || (eqb k.firsts ranges_place && eqb k.seconds ranges_place)) ≡ true → (k.firsts ≡ ranges_place) × (k.seconds ≡ ranges_place)
    by_tests true true a b z = (eqb-true k.firsts ranges_place a, eqb-true k.seconds ranges_place b)
    by_tests true false a b z = absurd (false≢true (sym (ap₂ (λ (x y : Bool). false || (x && y)) a b) ∙ z))
    by_tests false y a b z = absurd (false≢true (sym (ap (λ (x : Bool). false || (x && eqb k.seconds ranges_place)) a) ∙ z))

-- only what is chosen has set actions
sets_chosen : (n : ℕ) (R : ℕ → List ℕ) (k : Relation) (off : ℕ) → off < sets_of n R k → T (is_chosen k.kind)
unfolding sets_of
sets_chosen n R k off h = by_test (is_chosen k.kind) refl
  where
    by_test : (b : Bool) → is_chosen k.kind ≡ b → T (is_chosen k.kind)
    by_test true e = T_of e
    by_test false e = let z = ap length (no_rows n R k e) in absurd (omega (arith, z))

module _ (p : Problem) (w : List ℕ) (is : Is p w) where
  -- an element of a range is one of the elements
  in_range : (s z : ℕ) → Memᴰ z (p.range s) → z < p.size
  in_range s z m = (is.ranges s).small z m

  -- ---- parts
  one_part : (e : Values) (i v : ℕ) (u : Tree) → IsPart p (part_line w i) v u → part_at w e i ≡ atom_number p (part_atom p.size p.range e v u)
  unfolding part_at IsPart
  one_part e i v u h = h e

  parts_are : (e : Values) (k : ℕ) (qs : List Part) → ((i : ℕ) → i < length qs → IsPart p (part_line w (k + i)) (get_or qs i no_part).node (get_or qs i no_part).tree)
      → map (part_at w e) (from k (length qs)) ≡ map (atom_number p) (part_atoms p.size p.range e qs)
  unfolding part_atoms from
  parts_are e k [] h = refl
  parts_are e k (q ∷ qs) h =
      let a : IsPart p (part_line w k) q.node q.tree = subst (λ (j : ℕ). IsPart p (part_line w j) q.node q.tree) (add-zero k) (h 0 (omega arith)) in
      ap₂ {C = List ℕ} ◌∷◌ (one_part e k q.node q.tree a)
      (parts_are e (suc k) qs (λ i l.
      let s : k + suc i ≡ suc k + i = omega arith in
      subst (λ (j : ℕ). IsPart p (part_line w j) (get_or qs i no_part).node (get_or qs i no_part).tree) s (h (suc i) (omega arith))))

  module _ (v : ℕ) (u : Tree) (x : NodeLine) (n : IsNode p w v u x) where
    all_parts : (row : ℕ) → map (part_at w (row_values p.size x row)) (from x.first x.many) ≡ map (atom_number p) (part_atoms p.size p.range (values_at p.size u row) (parts v u))
    all_parts row =
        ap₂ (λ (e : Values) (m : ℕ). map (part_at w e) (from x.first m)) (n.values row) n.many
        ∙ parts_are (values_at p.size u row) x.first (parts v u) n.part

    some_part : (row i : ℕ) → i < length (parts v u)
        → (part_at w (row_values p.size x row) (x.first + i)) ∷ [] ≡ map (atom_number p) (take 1 (drop i (part_atoms p.size p.range (values_at p.size u row) (parts v u))))
    unfolding part_atoms
    some_part row i h =
        let f : Part → Atom = λ (q : Part). part_atom p.size p.range (values_at p.size u row) q.node q.tree in
        let a : take 1 (drop i (map f (parts v u))) ≡ f (get_or (parts v u) i no_part) ∷ [] =
        take_one i (map f (parts v u)) (f no_part) (omega (arith, length-map (parts v u) f)) ∙ ap (λ (y : Atom). y ∷ []) (get_or-map f (parts v u) i no_part) in
        ap (λ (y : ℕ). y ∷ []) (ap (λ (e : Values). part_at w e (x.first + i)) (n.values row) ∙ one_part (values_at p.size u row) (x.first + i) _ _ (n.part i h)) ∙ ap (map (atom_number p)) (sym a)

  under_with : (v d y : ℕ) (t u : Tree) (x : NodeLine) (row : ℕ) → IsNode p w v u x → node_level u ≡ d → parts v u ≡ record { node = suc v; tree = t } ∷ []
      → under_at p.size w x row y ≡ atom_number p (part_atom p.size p.range (with_value (values_at p.size u row) d y) (suc v) t)
  unfolding under_at
  under_with v d y t u x row n l q =
      let a : IsPart p (part_line w (x.first + 0)) (suc v) t =
      subst (λ (ps : List Part). IsPart p (part_line w (x.first + 0)) (get_or ps 0 no_part).node (get_or ps 0 no_part).tree) q (n.part 0 (rw q (omega arith))) in
      ap₂ (λ (e : Values) (m : ℕ). part_at w (with_value e m y) x.first) (n.values row) (n.level ∙ l)
      ∙ one_part (with_value (values_at p.size u row) d y) x.first (suc v) t (subst (λ (j : ℕ). IsPart p (part_line w j) (suc v) t) (add-zero x.first) a)

  pub under_at_lem : (v : ℕ) (u : Tree) (x : NodeLine) → IsNode p w v u x → node_kind u < 2 → (row y : ℕ) → under_at p.size w x row y ≡ atom_number p (under_atom p.size p.range v u row y)
  unfolding under_atom node_kind node_level parts
  under_at_lem v (leaf q r ls) x n k row y = absurd (omega arith)
  under_at_lem v (forall_node d σ t) x n k row y = under_with v d y t (forall_node d σ t) x row n refl refl
  under_at_lem v (exists_node d σ t) x n k row y = under_with v d y t (exists_node d σ t) x row n refl refl
  under_at_lem v (and_node us) x n k row y = absurd (omega arith)
  under_at_lem v (or_node us) x n k row y = absurd (omega arith)

  -- ---- free atoms
  free_are : (k : Kind) → T (is_chosen k) → (r row free : ℕ) → (T (is_function k) → free ≡ relation_start p r + 2 * tuples_of p.size (relation_at p r))
      → map (atom_number p) ((if is_function k then free_domain r (row / p.size) ∷ [] else []) ++ (if is_injective k then free_range r (row % p.size) ∷ [] else [])) ≡ free_numbers p.size (kind_number k) free row
  unfolding is_chosen is_function is_injective free_numbers kind_number atom_number
  free_are static c r row free e = refl
  free_are plain c r row free e = refl
  free_are Fun c r row free e = rw (e tt) refl
  free_are PFun c r row free e = rw (e tt) refl
  free_are Inj c r row free e = rw (e tt) refl
  free_are PInj c r row free e = rw (e tt) refl
  free_are universal c r row free e = absurd c

  free_at : (r row : ℕ) → r < length p.relations → T (is_chosen (relation_at p r).kind) → map (atom_number p) (free_atoms p.size (relation_at p r) r row) ≡ free_numbers p.size (relation_line w r).kind (relation_line w r).free row
  unfolding free_atoms
  free_at r row h c =
      free_are (relation_at p r).kind c r row (relation_line w r).free
      (λ f. (is.relation r h).free ∙ ap (λ (x : ℕ). x + 2 * tuples_of p.size (relation_at p r)) (early_start p r (fun_early (relation_at p r).kind f)))
      ∙ ap (λ (k : ℕ). free_numbers p.size k (relation_line w r).free row) (sym (is.relation r h).kind)

  -- ---- the rows of set actions
  module _ (r : ℕ) (h : r < length p.relations) where
    abbrev line : RelationLine
    line = relation_line w r

    abbrev relation : Relation
    relation = relation_at p r

    -- how many members the ranges of the two places have
    first_length : T (is_function relation.kind) → length (p.range relation.firsts) ≡ line.first_count
    first_length f = ap length (sym ((is.relation r h).firsts f)) ∙ members_length w line.firsts line.first_count

    second_length : T (is_function relation.kind) → length (p.range relation.seconds) ≡ line.second_count
    second_length f = ap length (sym ((is.relation r h).seconds f)) ∙ members_length w line.seconds line.second_count

    pub typed_kind : is_whole line ≡ false → T (is_function relation.kind)
    typed_kind e = function_kind relation.kind (ap is_placeless (sym (is.relation r h).kind) ∙ not_whole (is_placeless line.kind) refl)
      where
        not_whole : (b : Bool) → is_placeless line.kind ≡ b → is_placeless line.kind ≡ false
        not_whole true q = absurd (false≢true (sym e ∙ ap (λ (b : Bool). b || (eqb line.firsts ranges_place && eqb line.seconds ranges_place)) q))
        not_whole false q = q

    pub typed_sets : is_whole line ≡ false → sets_of p.size p.range relation ≡ line.first_count * line.second_count
    typed_sets e =
        let f = typed_kind e in
        pair_count p.size p.range relation f ((is.relation r h).pairs f) (is.ranges relation.firsts) (is.ranges relation.seconds) ∙ ap₂ ◌*◌ (first_length f) (second_length f)

    -- ... and none of them is missing
    pub whole_rows : PlacesFit w line → T (is_chosen relation.kind) → is_whole line ≡ true → set_rows p.size p.range relation ≡ below (tuples_of p.size relation)
    whole_rows fits c e = by_kind (is_placeless line.kind) refl
      where
        by_kind : (b : Bool) → is_placeless line.kind ≡ b → set_rows p.size p.range relation ≡ below (tuples_of p.size relation)
        by_kind true q = plain_rows p.size p.range relation c (plain_kind relation.kind (ap is_placeless (sym (is.relation r h).kind) ∙ q))
        by_kind false q =
            let f = function_kind relation.kind (ap is_placeless (sym (is.relation r h).kind) ∙ q) in
            let (a, b) = both_whole line q e in
            free_rows p.size p.range relation f ((is.relation r h).pairs f)
            (sym ((is.relation r h).firsts f) ∙ fits.firsts.whole a ∙ ap below is.size) (sym ((is.relation r h).seconds f) ∙ fits.seconds.whole b ∙ ap below is.size)

    pub set_row_is : PlacesFit w line → (off : ℕ) → off < sets_of p.size p.range relation → set_row w line off ≡ get_or (set_rows p.size p.range relation) off 0
    set_row_is fits off l = by_test (is_whole line) refl
      where
        by_test : (b : Bool) → is_whole line ≡ b → set_row w line off ≡ get_or (set_rows p.size p.range relation) off 0
        by_test true e =
            let c = sets_chosen p.size p.range relation off l in
            sym (row_whole w line off e) ∙ sym (all_row p.size p.range relation (whole_rows fits c e) off (omega (arith, sets_le p.size p.range relation)))
        by_test false e =
            let f = typed_kind e in
            let g = subst (λ (m : ℕ). off < m) (typed_sets e) l in
            let (a, b) = row_below off line.first_count line.second_count g in
            sym (row_pair w line off e)
            ∙ sym (pair_row p.size p.range relation f ((is.relation r h).pairs f) (is.ranges relation.firsts) (is.ranges relation.seconds) off (rw (first_length f, second_length f) g)
            ∙ rw (second_length f) (ap₂ (λ (x y : ℕ). x * p.size + y)
            (ap (λ (l : List ℕ). get_or l (off / line.second_count) 0) (sym ((is.relation r h).firsts f)) ∙ member_at w line.firsts line.first_count (off / line.second_count) a)
            (ap (λ (l : List ℕ). get_or l (off % line.second_count) 0) (sym ((is.relation r h).seconds f)) ∙ member_at w line.seconds line.second_count (off % line.second_count) b))
            ∙ ap (λ (n : ℕ). get_or w (line.firsts + off / line.second_count) 0 * n + get_or w (line.seconds + off % line.second_count) 0) (sym is.size))

  forall_are : (v row z : ℕ) → v < length p.node_list → node_kind (node_at p v) ≡ 0
      → map (atom_number p) (forall_needs p.size p.range v (node_at p v) row z) ≡ under_at p.size w (node_line w v) row z ∷ own_before p.size w (node_line w v) row z
  unfolding forall_needs own_before option atom_number
  forall_are v row z h k =
      rw ((is.node v h).range (omega arith))
      (ap₂ {C = List ℕ} ◌∷◌ (sym (under_at_lem v (node_at p v) (node_line w v) (is.node v h) (omega arith) row z)) (own_are (before (p.range (node_sort (node_at p v))) z)))
    where
      own_are : (o : Option ℕ) → map (atom_number p) (option o [] (λ y. holds_node v (row * p.size + y) ∷ [])) ≡ option o [] (λ y. ((node_line w v).atoms + (row * p.size + y)) ∷ [])
      own_are none = refl
      own_are (some y) = ap (λ (x : ℕ). (x + (row * p.size + y)) ∷ []) (sym (is.node v h).atoms)

  or_length : (v i : ℕ) (u : Tree) (ts : Trees) → u ≡ or_node ts → i < how_many ts → i < length (parts v u)
  unfolding parts
  or_length v i u ts e h = rw (e, parts_length (suc v) ts) h

  -- ---- the relation of an `every` line
  marks_start : (r : ℕ) → r < length p.relations → T (is_universal (relation_at p r).kind) → (relation_line w r).free ≡ last_start p r + 2 * tuples_of p.size (relation_at p r)
  marks_start r h u = (is.relation r h).free ∙ ap (λ (x : ℕ). x + 2 * tuples_of p.size (relation_at p r)) (late_start p r (T_true (is_universal (relation_at p r).kind) u))

  pub last_is : T (is_some p.source.question.every) → last_line w ≡ relation_line w (every_number p.source.question)
  last_is t = let z : relations_in w - 1 ≡ every_number p.source.question = omega (arith, is.relations, is.every.last t) in ap (relation_line w) z

  pub every_below : T (is_some p.source.question.every) → every_number p.source.question < length p.relations
  every_below t = omega (arith, is.every.last t)

  pub every_kind : T (is_some p.source.question.every) → T (is_universal (relation_at p (every_number p.source.question)).kind)
  unfolding is_some
  every_kind t = by_option p.source.question.every refl t
    where
      by_option : (o : Option Relation) → p.source.question.every ≡ o → T (is_some o) → T (is_universal (relation_at p (every_number p.source.question)).kind)
      by_option none e t = absurd t
      by_option (some k) e t = let z = is.every.line k e in subst (λ (x : Relation). T (is_universal x.kind)) (sym z.0) z.1

  tuples_some : (r : ℕ) → 0 < tuples_of p.size (relation_at p r)
  unfolding tuples_of
  tuples_some r = one-le-pow (relation_at p r).arity p.size is.element

  -- the first mark
  first_mark : T (is_some p.source.question.every) → atom_number p (mark_or_goal p (every_number p.source.question) zero) ≡ (last_line w).free
  unfolding mark_or_goal atom_number
  first_mark t =
      let r : ℕ = every_number p.source.question in
      rw (lt-ltb 0 (tuples_of p.size (relation_at p r)) (tuples_some r))
      (add-zero (last_start p r + 2 * tuples_of p.size (relation_at p r)) ∙ sym (marks_start r (every_below t) (every_kind t)) ∙ ap (λ (x : RelationLine). x.free) (sym (last_is t)))

  -- the mark after one
  next_mark_lem : (r row : ℕ) → r < length p.relations → T (is_universal (relation_at p r).kind) → atom_number p (mark_or_goal p r (suc row)) ≡ next_mark (relation_line w r) row
  unfolding mark_or_goal atom_number next_mark
  next_mark_lem r row h u = by_test (ltb (suc row) (tuples_of p.size (relation_at p r))) refl
    where
      by_test : (b : Bool) → ltb (suc row) (tuples_of p.size (relation_at p r)) ≡ b → atom_number p (if b then marked r (suc row) else goal) ≡ (if ltb ((relation_line w r).tuples + row + 1) (relation_line w r).nots then (relation_line w r).free + row + 1 else 2)
      by_test true e =
          let l = ltb-true (suc row) (tuples_of p.size (relation_at p r)) e in
          rw (lt-ltb ((relation_line w r).tuples + row + 1) (relation_line w r).nots (omega (arith, (is.relation r h).tuples, (is.relation r h).nots))) (omega (arith, marks_start r h u))
      by_test false e =
          let l = ltb-false (suc row) (tuples_of p.size (relation_at p r)) e in
          rw (le-ltb ((relation_line w r).tuples + row + 1) (relation_line w r).nots (omega (arith, (is.relation r h).tuples, (is.relation r h).nots))) refl

  -- the atoms of all nodes are a run of numbers
  node_run : (v i n : ℕ) (rest : List Atom) → map (atom_number p) (map (holds_node v) (from i n) ++ rest) ≡ from (node_start p v + i) n ++ map (atom_number p) rest
  unfolding atom_number from
  node_run v i zero rest = refl
  node_run v i (suc n) rest =
      let e : node_start p v + suc i ≡ suc (node_start p v + i) = omega arith in
      ap (λ (l : List ℕ). (node_start p v + i) ∷ l) (node_run v (suc i) n rest ∙ ap (λ (x : ℕ). from x n ++ map (atom_number p) rest) e)

  unfoldable total : List Tree → ℕ
  total [] = 0
  total (t ∷ ts) = node_width p.size t + total ts

  nodes_run : (v : ℕ) (ts : List Tree) → v + length ts ≡ length p.node_list → ((j : ℕ) → j < length ts → node_at p (v + j) ≡ get_or ts j no_node)
      → (map (atom_number p) (nodes_atoms p.size v ts) ≡ from (node_start p v) (total ts)) × (node_start p v + total ts ≡ node_start p (length p.node_list))
  unfolding nodes_atoms from below total
  nodes_run v [] e h = let q : v ≡ length p.node_list = omega arith in (refl, add-zero (node_start p v) ∙ ap (node_start p) q)
  nodes_run v (t ∷ ts) e h =
      let here : node_at p v ≡ t = ap (node_at p) (sym (add-zero v)) ∙ h 0 (omega arith) in
      let next : node_start p (suc v) ≡ node_start p v + node_width p.size t = node_next p v (omega arith) ∙ ap (λ (u : Tree). node_start p v + node_width p.size u) here in
      let (a, b) = nodes_run (suc v) ts (omega arith) (λ j l. let s : suc v + j ≡ v + suc j = omega arith in ap (node_at p) s ∙ h (suc j) (omega arith)) in (
        node_run v 0 (node_width p.size t) (nodes_atoms p.size (suc v) ts)
            ∙ ap₂ (λ (x : ℕ) (l : List ℕ). from x (node_width p.size t) ++ l) (add-zero (node_start p v)) (a ∙ ap (λ (x : ℕ). from x (total ts)) next)
            ∙ sym (from_append (node_start p v) (node_width p.size t) (total ts)),
        omega (arith, b, next),
      )

  first_node : (node_line w 0).atoms ≡ node_start p 0
  first_node = by_length (length p.node_list) refl
    where
      by_length : (k : ℕ) → length p.node_list ≡ k → (node_line w 0).atoms ≡ node_start p 0
      by_length zero e = rw e at is.ends
      by_length (suc k) e = (is.node 0 (omega (arith, e))).atoms

  all_nodes : map (atom_number p) (nodes_atoms p.size 0 p.node_list) ≡ from (node_line w 0).atoms ((node_line w (nodes_in w)).atoms - (node_line w 0).atoms)
  unfolding node_at
  all_nodes =
      let (a, b) = nodes_run 0 p.node_list (omega arith) (λ j l. let s : 0 + j ≡ j = omega arith in ap (λ (k : ℕ). get_or p.node_list k no_node) s) in
      let e : (node_line w (nodes_in w)).atoms ≡ node_start p (length p.node_list) = ap (λ (k : ℕ). (node_line w k).atoms) is.nodes ∙ is.ends in
      let n : (node_line w (nodes_in w)).atoms - (node_line w 0).atoms ≡ total p.node_list = omega (arith, first_node, b, e) in
      a ∙ ap₂ from (sym first_node) (sym n)

  -- ---- what an action needs, adds and removes
  pub needs_at : (x : Action) → IsAction p x → (n : ℕ) → n ≡ p.size → size_in w ≡ n → map (atom_number p) (needs p x) ≡ need_numbers w (said x)
  unfolding needs said need_numbers set_needs and_needs or_needs exists_needs forallNumbers goal_needs root_atom atom_number IsAction node_kind
  needs_at (set r row) a n e q =
      rw (q, e) (ap₂ (λ (x : ℕ) (xs : List ℕ). 0 ∷ (x + row) ∷ xs) (sym (is.relation r a.0).nots) (free_at r row a.0 a.1))
  needs_at begin_proof a n e q = refl
  needs_at (prove_and v row) a n e q = rw (q, e) (ap (λ (xs : List ℕ). 1 ∷ xs) (sym (all_parts v (node_at p v) (node_line w v) (is.node v a.0) row)))
  needs_at (prove_or v row i) a n e q =
      rw (q, e) (ap (λ (xs : List ℕ). 1 ∷ xs) (sym (some_part v (node_at p v) (node_line w v) (is.node v a.0) row i (or_length v i (node_at p v) a.2.0 a.2.1 a.2.2))))
  needs_at (prove_exists v row x) a n e q =
      rw (q, e) (ap (λ (y : ℕ). 1 ∷ y ∷ []) (sym (under_at_lem v (node_at p v) (node_line w v) (is.node v a.0) (rw a.2.3 (omega arith)) row x)))
  needs_at (prove_forall v row z) a n e q = rw (q, e) (ap (λ (xs : List ℕ). 1 ∷ xs) (forall_are v row z a.0 (ap node_kind a.2.3)))
  needs_at prove_goal a n e q = ap (λ (y : ℕ). y ∷ []) (sym (one_part (λ _. 0) 64 0 p.root is.root))
  needs_at round_end a n e q = ap (λ (y : ℕ). y ∷ []) (sym (one_part (λ _. 0) 64 0 p.root is.root))
  needs_at (mark_in r row) a n e q = ap₂ (λ (x y : ℕ). (x + row) ∷ (y + row) ∷ []) (sym (marks_start r a.0 a.1)) (sym (is.relation r a.0).nots)
  needs_at (mark_out r row) a n e q = ap₂ (λ (x y : ℕ). (x + row) ∷ (y + row) ∷ []) (sym (marks_start r a.0 a.1)) (sym (is.relation r a.0).tuples)

  pub adds_are : (x : Action) → IsAction p x → map (atom_number p) (adds p x) ≡ add_numbers w (said x)
  unfolding adds said add_numbers atom_number IsAction
  adds_are (set r row) a = ap (λ (x : ℕ). (x + row) ∷ []) (sym (is.relation r a.0).tuples)
  adds_are begin_proof a = refl
  adds_are (prove_and v row) a = ap (λ (x : ℕ). (x + row) ∷ []) (sym (is.node v a.0).atoms)
  adds_are (prove_or v row i) a = ap (λ (x : ℕ). (x + row) ∷ []) (sym (is.node v a.0).atoms)
  adds_are (prove_exists v row i) a = ap (λ (x : ℕ). (x + row) ∷ []) (sym (is.node v a.0).atoms)
  adds_are (prove_forall v row z) a = ap₂ (λ (x n : ℕ). (x + (row * n + z)) ∷ []) (sym (is.node v a.0).atoms) (sym is.size)
  adds_are prove_goal a = refl
  adds_are round_end a = ap (λ (x : ℕ). x ∷ []) (first_mark a)
  adds_are (mark_in r row) a = ap (λ (x : ℕ). (x + row) ∷ 1 ∷ []) (sym (is.relation r a.0).tuples)
  adds_are (mark_out r row) a = ap₂ (λ (x y : ℕ). (x + row) ∷ y ∷ []) (sym (is.relation r a.0).nots) (next_mark_lem r row a.0 a.1)

  pub removes_are : (x : Action) → IsAction p x → map (atom_number p) (removes p x) ≡ remove_numbers w (said x)
  unfolding removes said remove_numbers set_removes round_removes atom_number IsAction
  removes_are (set r row) a =
      ap₂ (λ (x : ℕ) (xs : List ℕ). (x + row) ∷ xs) (sym (is.relation r a.0).nots)
      (free_at r row a.0 a.1 ∙ ap (λ (n : ℕ). free_numbers n (relation_line w r).kind (relation_line w r).free row) (sym is.size))
  removes_are begin_proof a = refl
  removes_are (prove_and v row) a = refl
  removes_are (prove_or v row i) a = refl
  removes_are (prove_exists v row i) a = refl
  removes_are (prove_forall v row z) a = refl
  removes_are prove_goal a = refl
  removes_are round_end a = ap (λ (l : List ℕ). 1 ∷ l) all_nodes
  removes_are (mark_in r row) a = ap₂ (λ (x y : ℕ). (x + row) ∷ (y + row) ∷ []) (sym (marks_start r a.0 a.1)) (sym (is.relation r a.0).nots)
  removes_are (mark_out r row) a = ap₂ (λ (x y : ℕ). (x + row) ∷ (y + row) ∷ []) (sym (marks_start r a.0 a.1)) (sym (is.relation r a.0).tuples)

  pub all_map : (s : ℕ → Bool) (xs : List Atom) → all s (map (atom_number p) xs) ≡ all (λ a. s (atom_number p a)) xs
  unfolding all
  all_map s [] = refl
  all_map s (x ∷ xs) = ap (λ (b : Bool). s (atom_number p x) && b) (all_map s xs)

  -- the state after
  pub after_is : (s : State) (x : Action) → IsAction p x → changed s (remove_numbers w (said x)) (add_numbers w (said x)) ≡ after p s x
  unfolding after changed
  after_is s x k = ap₂ (changed s) (sym (removes_are x k)) (sym (adds_are x k))

  -- ---- the table says whether there is an `every` line, how many tuples it has, and what ends a round
  pub has_every_lem : has_every w ≡ is_some p.source.question.every
  unfolding has_every
  has_every_lem = by_some (is_some p.source.question.every) refl
    where
      by_count : (b : Bool) → ltb 0 (relations_in w) ≡ b → is_some p.source.question.every ≡ false → (b && eqb (last_line w).kind 6) ≡ false
      by_count false q e = refl
      by_count true q e =
          let l : relations_in w - 1 < length p.relations = omega (arith, ltb-true 0 (relations_in w) q, is.relations) in
          ap (λ (k : ℕ). eqb k 6) (is.relation (relations_in w - 1) l).kind ∙ universal_number (relation_at p (relations_in w - 1)).kind
          ∙ T_false (is_universal (relation_at p (relations_in w - 1)).kind) (λ u. subst T e (is.every.alone (relations_in w - 1) l u).1)

      by_some : (b : Bool) → is_some p.source.question.every ≡ b → (ltb 0 (relations_in w) && eqb (last_line w).kind 6) ≡ b
      by_some true e =
          let t = T_of e in
          let r : ℕ = every_number p.source.question in
          rw (lt-ltb 0 (relations_in w) (omega (arith, is.relations, is.every.last t)))
          (ap (λ (k : RelationLine). eqb k.kind 6) (last_is t) ∙ ap (λ (k : ℕ). eqb k 6) (is.relation r (every_below t)).kind ∙ universal_number (relation_at p r).kind ∙ T_true (is_universal (relation_at p r).kind) (every_kind t))
      by_some false e = by_count (ltb 0 (relations_in w)) refl e

  pub every_count : every_in w ≡ every_tuples p.source
  unfolding every_in every_tuples option is_some tuples_of
  every_count = ap (λ (b : Bool). if b then (last_line w).nots - (last_line w).tuples else 0) has_every_lem ∙ by_option p.source.question.every refl
    where
      by_option : (o : Option Relation) → p.source.question.every ≡ o → (if is_some o then (last_line w).nots - (last_line w).tuples else 0) ≡ option o zero (λ (e : Relation). p.source.site.size ^ e.arity)
      by_option none e = refl
      by_option (some k) e =
          let t : T (is_some p.source.question.every) = subst (λ (o : Option Relation). T (is_some o)) (sym e) tt in
          let r : ℕ = every_number p.source.question in
          let d : (relation_line w r).nots - (relation_line w r).tuples ≡ tuples_of p.size (relation_at p r) = omega (arith, (is.relation r (every_below t)).tuples, (is.relation r (every_below t)).nots) in
          ap (λ (x : RelationLine). x.nots - x.tuples) (last_is t) ∙ d ∙ ap₂ (λ (n : ℕ) (x : Relation). n ^ x.arity) (sym is.every.sized) (is.every.line k e).0

  pub finish_are : said (finish p) ≡ finish_in w
  unfolding finish_in
  finish_are = by_some (is_some p.source.question.every) refl
    where
      by_some : (b : Bool) → is_some p.source.question.every ≡ b → said (finish p) ≡ (if has_every w then RoundEnd else Goal)
      by_some true e = ap said (finish_round p (T_of e)) ∙ said_round ∙ ap (λ (b : Bool). if b then RoundEnd else Goal) (sym (has_every_lem ∙ e))
      by_some false e = ap said (finish_goal p (subst (λ (b : Bool). T (not b)) (sym e) tt)) ∙ said_goal ∙ ap (λ (b : Bool). if b then RoundEnd else Goal) (sym (has_every_lem ∙ e))

-- ---- what an action adds is a bit of a state that has room for all atoms
module _ (p : Problem) (w : List ℕ) (is : Is p w) (k : ℕ) (room : atoms p ≤ 64 * k) where
  in_word : (i : ℕ) → i < atoms p → i / 64 < k
  in_word i h = omega arith

  wide : (u : Tree) (kind : ℕ) → node_kind u ≡ suc kind → node_width p.size u ≡ rows_of p.size u
  unfolding node_kind node_width is_forall
  wide (leaf q r ls) kind e = refl
  wide (forall_node d σ u) kind e = absurd (omega arith)
  wide (exists_node d σ u) kind e = refl
  wide (and_node us) kind e = refl
  wide (or_node us) kind e = refl

  wide_forall : (u t : Tree) (d σ : ℕ) → u ≡ forall_node d σ t → node_width p.size u ≡ rows_of p.size u * p.size
  unfolding node_width is_forall
  wide_forall u t d σ e = rw e refl

  node_held : (v row : ℕ) → v < length p.node_list → row < node_width p.size (node_at p v) → ((node_line w v).atoms + row) / 64 < k
  node_held v row h b = let e = (is.node v h).atoms in in_word ((node_line w v).atoms + row) (rw e (node_below p v row h b))

  -- a mark, or the goal, is one of the atoms
  mark_held : (r i : ℕ) → r < length p.relations → T (is_universal (relation_at p r).kind) → atom_number p (mark_or_goal p r i) < atoms p
  unfolding mark_or_goal IsAtom
  mark_held r i h u = by_test (ltb i (tuples_of p.size (relation_at p r))) refl
    where
      by_test : (b : Bool) → ltb i (tuples_of p.size (relation_at p r)) ≡ b → atom_number p (if b then marked r i else goal) < atoms p
      by_test true e = atom_below p (marked r i) (h, u, ltb-true i (tuples_of p.size (relation_at p r)) e)
      by_test false e = atom_below p goal tt

  pub held : (x : Action) → IsAction p x → Held (add_numbers w (said x)) k
  unfolding add_numbers said IsAction IsAtom atom_number node_kind
  held (set r row) a = let e = (is.relation r a.0).tuples in (in_word ((relation_line w r).tuples + row) (rw e (tuple_below p r row a.0 (set_below p r row a))), tt)
  held begin_proof a = (in_word 1 (omega (arith, three_atoms p)), tt)
  held (prove_and v row) a = (node_held v row a.0 (rw (wide (node_at p v) 1 (ap node_kind a.2.1)) a.1), tt)
  held (prove_or v row i) a = (node_held v row a.0 (rw (wide (node_at p v) 2 (ap node_kind a.2.1)) a.1), tt)
  held (prove_exists v row i) a = (node_held v row a.0 (rw (wide (node_at p v) 0 (ap node_kind a.2.3)) a.1), tt)
  held (prove_forall v row z) a =
      (node_held v (row * size_in w + z) a.0 (rw (is.size, wide_forall (node_at p v) a.2.2 a.2.0 a.2.1 a.2.3) (digits_lt a.1 (in_range p w is a.2.1 z a.2.4))), tt)
  held prove_goal a = (in_word 2 (omega (arith, three_atoms p)), tt)
  held round_end a = (in_word (last_line w).free (rw (sym (first_mark p w is a)) (mark_held (every_number p.source.question) zero (every_below p w is a) (every_kind p w is a))), tt)
  held (mark_in r row) a =
      let e = (is.relation r a.0).tuples in
      (in_word ((relation_line w r).tuples + row) (rw e (tuple_below p r row a.0 a.2)), (in_word 1 (omega (arith, three_atoms p)), tt))
  held (mark_out r row) a =
      let e = (is.relation r a.0).nots in
      (in_word ((relation_line w r).nots + row) (rw e (atom_below p (not_tuple r row) (a.0, a.2))), (in_word (next_mark (relation_line w r) row) (rw (sym (next_mark_lem p w is r row a.0 a.1)) (mark_held r (suc row) a.0 a.1)), tt))
