-- What a search over the starting numbers finds is the action of that number.
use Rattle.std.specs.Prelude.{◌≡◌, Bool, not, ◌&&◌, List, length, if◌then◌else◌}
use Rattle.std.proofs.Math.Path.{refl, sym, ap, subst}
use Rattle.std.proofs.Common.{◌∙◌, div-le_self, mod-lt, add-one}
use Rattle.std.proofs.Math.Bool.{true, false}
use Prim.Native.Nat.{ℕ, zero, suc, ◌+◌, ◌-◌, ◌*◌, ◌/◌, ◌%◌, ◌^◌, ◌≤◌, ◌<◌}
use Rattle.std.proofs.Math.Nat.{div-one, mul-zero}
use native.Mathlib.Omega.{arith}
use borrow.Author.Tests.{lt-ltb, le-ltb, ltb-true, ltb-false}
use Rattle.std.proofs.Math.Dec.{T, ltb, eqb}
use Rattle.std.proofs.Math.ListN.{get_or}
use Rattle.definitions.specs.Lists.{is_some}
use Rattle.definitions.specs.Sheet.Relations.{Relation, is_universal}
use Rattle.definitions.specs.Sheet.Sheets.{every_number}
use Rattle.definitions.specs.Problem.Tree.{Tree, leaf, forall_node, exists_node, and_node, or_node, parts, node_sort}
use Rattle.definitions.specs.Problem.Atoms.{Problem, relation_at, node_at, tuples_of, rows_of, last_tuples}
use Rattle.definitions.specs.Problem.Actions.{Action, prove_exists, prove_forall, choices, prove_node, sets_of, proofs_of, action_at, set_start, proof_start, marks_before}
use Rattle.laws.specs.Booleans.{T_of, T_true, T_false}
use Rattle.laws.specs.Numbers.{last_width_lem, set_next, set_first, proof_first, proof_next, mark_first, mark_next, actions_end, at_set, at_begin, at_proof, at_goal, at_mark_in, at_mark_out, at_none}
use Rattle.rule_nodes.specs.Tables.{node_kind}
use Rattle.problem_table.specs.Lines.{relation_place, node_place, relations_in, nodes_in, relation_line, last_line, has_every, every_in, node_line, RangeFits, PlacesFit, Fits}
use Rattle.problem_table.specs.NeedLaws.{members_length, member_at, relation_small}
use Rattle.problem_table.specs.Numbers.{is_whole, set_row, finish_in, ActFits}
use Rattle.problem_table.specs.Of.{Is, IsNode, said, act_of}
use Rattle.problem_table.specs.OfLaws.{parts_length, typed_sets, set_row_is, has_every_lem, last_is, every_below, every_kind, finish_are}
use Rattle.problem_table.specs.declared.RelationLine.{RelationLine}
use Rattle.problem_table.specs.declared.NodeLine.{NodeLine}
use Rattle.problem_table.specs.declared.Act.TheVariants.{Set, Begin, And, Or, Exists, Forall, Goal, RoundEnd, MarkIn, MarkOut, Nothing}
use Rattle.problem_table.specs.declared.Act.{Act}
use Rattle.problem_action.specs.Decoded.{proof_by, proof_in, mark_at}

-- ---- by the kind
module _ (w : List ℕ) (v off : ℕ) (x : NodeLine) where
  pub in_forall : x.kind ≡ 0 → Forall (record { node = v; row = off / x.count; choice = get_or w (x.range + off % x.count) 0 }) ≡ proof_in w v off x
  unfolding proof_in proof_by
  in_forall e = rw e refl

  pub in_exists : x.kind ≡ 1 → Exists (record { node = v; row = off / x.count; choice = get_or w (x.range + off % x.count) 0 }) ≡ proof_in w v off x
  unfolding proof_in proof_by
  in_exists e = rw e refl

  pub in_and : x.kind ≡ 2 → And (record { node = v; row = off }) ≡ proof_in w v off x
  unfolding proof_in proof_by
  in_and e = rw e refl

  pub in_or : (x.kind ≡ 0 → ⊥) → (x.kind ≡ 1 → ⊥) → (x.kind ≡ 2 → ⊥) → Or (record { node = v; row = off / x.many; choice = off % x.many }) ≡ proof_in w v off x
  unfolding proof_in proof_by
  in_or a b c = last_kind x.kind a b c
    where
      last_kind : (k : ℕ) → (k ≡ 0 → ⊥) → (k ≡ 1 → ⊥) → (k ≡ 2 → ⊥) → Or (record { node = v; row = off / x.many; choice = off % x.many }) ≡ proof_by w v off x k
      last_kind zero a b c = absurd (a refl)
      last_kind (suc zero) a b c = absurd (b refl)
      last_kind (suc (suc zero)) a b c = absurd (c refl)
      last_kind (suc (suc (suc k))) a b c = refl

-- as many tuples as the last line's numbers are apart
every_small : (w : List ℕ) → Fits w → every_in w ≤ 2 ^ 32
unfolding every_in
every_small w f = by_test (has_every w)
  where
    by_test : (b : Bool) → (if b then (last_line w).nots - (last_line w).tuples else 0) ≤ 2 ^ 32
    by_test true = omega (arith, relation_small w f (relations_in w - 1) (last_line w) refl)
    by_test false = omega arith

no_lasts : (n : ℕ) (k : Relation) → is_universal k.kind ≡ false → last_tuples n k ≡ 0
unfolding last_tuples
no_lasts n k e = rw e refl

-- what a node has actions by: the elements of its range, or its parts
pub record Counted (x : NodeLine) : Type 0 where
  pub count : x.kind < 2 → 0 < x.count
  pub many : 3 ≤ x.kind → 0 < x.many

positive : (a b : ℕ) {off : ℕ} → off < a * b → 0 < b
positive a zero h = let z = mul-zero a in absurd (omega arith)
positive a (suc b) h = omega arith

module _ (p : Problem) (w : List ℕ) (v off : ℕ) (x : NodeLine) where
  -- a quantifier's range, by the table
  range_count : (u : Tree) → IsNode p w v u x → node_kind u < 2 → length (p.range (node_sort u)) ≡ x.count
  range_count u i k = ap length (sym (i.range k)) ∙ members_length w x.range x.count

  range_at_lem : (u : Tree) → IsNode p w v u x → node_kind u < 2 → (j : ℕ) → j < x.count → get_or (p.range (node_sort u)) j 0 ≡ get_or w (x.range + j) 0
  range_at_lem u i k j h = ap (λ (l : List ℕ). get_or l j 0) (sym (i.range k)) ∙ member_at w x.range x.count j h

  counted_of : (u : Tree) → IsNode p w v u x → off < proofs_of p.size p.range u → Counted x
  unfolding node_kind node_sort choices proofs_of parts
  counted_of (leaf q r ls) i h = let z = mul-zero (rows_of p.size (leaf q r ls)) in absurd (omega (arith, z))
  counted_of (forall_node d σ u) i h = let e = range_count (forall_node d σ u) i (omega arith) in let k = i.kind in
      record { count = λ l. positive (rows_of p.size (forall_node d σ u)) x.count (subst (λ (c : ℕ). off < rows_of p.size (forall_node d σ u) * c) e h); many = λ l. absurd (omega arith) }
  counted_of (exists_node d σ u) i h = let e = range_count (exists_node d σ u) i (omega arith) in let k = i.kind in
      record { count = λ l. positive (rows_of p.size (exists_node d σ u)) x.count (subst (λ (c : ℕ). off < rows_of p.size (exists_node d σ u) * c) e h); many = λ l. absurd (omega arith) }
  counted_of (and_node us) i h = let k = i.kind in record { count = λ l. absurd (omega arith); many = λ l. absurd (omega arith) }
  counted_of (or_node us) i h = let e = i.many ∙ parts_length (suc v) us in let k = i.kind in
      record { count = λ l. absurd (omega arith); many = λ l. positive (rows_of p.size (or_node us)) x.many (subst (λ (c : ℕ). off < rows_of p.size (or_node us) * c) (sym e) h) }

  -- a quantifier's action by its place is that at the element there
  choice_at : (u : Tree) (made : ℕ → ℕ → Action) → IsNode p w v u x → (k : node_kind u < 2) → off < proofs_of p.size p.range u
      → made (off / x.count) (get_or w (x.range + off % x.count) 0) ≡ made (off / length (p.range (node_sort u))) (get_or (p.range (node_sort u)) (off % length (p.range (node_sort u))) 0)
  choice_at u made i k h =
      let e = range_count u i k in
      let s : 0 < x.count = (counted_of u i h).count (rw i.kind k) in
      rw e (ap (made (off / x.count)) (sym (range_at_lem u i k (off % x.count) (mod-lt off s))))

  pub said_proof : (u : Tree) → IsNode p w v u x → off < proofs_of p.size p.range u → proof_in w v off x ≡ said (prove_node p.range u v (off / choices p.range u) (off % choices p.range u))
  unfolding proof_in proof_by node_kind node_sort said prove_node choices proofs_of parts
  said_proof (leaf q r ls) i h = let z = mul-zero (rows_of p.size (leaf q r ls)) in absurd (omega (arith, z))
  said_proof (forall_node d σ u) i h = rw i.kind (ap said (choice_at (forall_node d σ u) (prove_forall v) i (omega arith) h))
  said_proof (exists_node d σ u) i h = rw i.kind (ap said (choice_at (exists_node d σ u) (prove_exists v) i (omega arith) h))
  said_proof (and_node us) i h = rw (i.kind, div-one off) refl
  said_proof (or_node us) i h = rw (i.kind, i.many, parts_length (suc v) us) refl

-- ---- what is found
module _ (p : Problem) (w : List ℕ) (is : Is p w) where
  sets_at : (r : ℕ) → r ≤ length p.relations → get_or w (relation_place r) 0 ≡ set_start p r
  unfolding relation_line
  sets_at r h = is.sets r h

  pub acts_at : (v : ℕ) → v ≤ length p.node_list → get_or w (node_place v) 0 ≡ proof_start p v
  unfolding node_line
  acts_at v h = is.acts v h

  pub sets_begin : get_or w (relation_place 0) 0 ≡ 0
  sets_begin = sets_at 0 (omega arith) ∙ set_first p

  pub acts_begin : get_or w (node_place 0) 0 ≡ get_or w (relation_place (relations_in w)) 0 + 1
  acts_begin =
      acts_at 0 (omega arith) ∙ proof_first p
      ∙ ap (λ (x : ℕ). x + 1) (sym (sets_at (length p.relations) (omega arith)) ∙ ap (λ (r : ℕ). get_or w (relation_place r) 0) (sym is.relations))

  goal_at : get_or w (node_place (nodes_in w)) 0 ≡ proof_start p (length p.node_list)
  goal_at = ap (λ (v : ℕ). get_or w (node_place v) 0) is.nodes ∙ acts_at (length p.node_list) (omega arith)

  -- ---- marks: no relation before that of an `every` line has any
  no_marks : (r : ℕ) → r ≤ length p.relations → ((j : ℕ) → j < r → is_universal (relation_at p j).kind ≡ false) → marks_before p r ≡ 0
  no_marks zero h e = mark_first p
  no_marks (suc r) h e =
      let n = mark_next p r (omega arith) in
      let z = no_marks r (omega arith) (λ j l. e j (omega arith)) in
      let w = no_lasts p.size (relation_at p r) (e r (omega arith)) in
      omega arith

  early : (r : ℕ) → r < length p.relations → (r ≡ every_number p.source.question → T (is_some p.source.question.every) → ⊥) → is_universal (relation_at p r).kind ≡ false
  early r h n = T_false (is_universal (relation_at p r).kind) (λ u. let q = is.every.alone r h u in n q.0 q.1)

  pub marks_none : T (not (is_some p.source.question.every)) → (every_in w ≡ 0) × (marks_before p (length p.relations) ≡ 0)
  unfolding every_in
  marks_none t =
      let e : is_some p.source.question.every ≡ false = not_true (is_some p.source.question.every) t in (
        ap (λ (b : Bool). if b then (last_line w).nots - (last_line w).tuples else 0) (has_every_lem p w is ∙ e),
        no_marks (length p.relations) (omega arith) (λ j l. early j l (λ q s. subst T e s)),
      )
    where
      not_true : (b : Bool) → T (not b) → b ≡ false
      not_true true t = absurd t
      not_true false t = refl

  pub marks_some : T (is_some p.source.question.every) → (marks_before p (every_number p.source.question) ≡ 0)
      × (marks_before p (suc (every_number p.source.question)) ≡ every_in w) × (relations_in w - 1 ≡ every_number p.source.question)
  unfolding every_in
  marks_some t =
      let r : ℕ = every_number p.source.question in
      let l = every_below p w is t in
      let z = no_marks r (omega arith) (λ j h. early j (omega arith) (λ q s. omega arith)) in
      let n = mark_next p r l in
      let k = last_width_lem p.size (relation_at p r) (T_true (is_universal (relation_at p r).kind) (every_kind p w is t)) in
      let c : every_in w ≡ tuples_of p.size (relation_at p r) =
      ap (λ (b : Bool). if b then (last_line w).nots - (last_line w).tuples else 0) (has_every_lem p w is ∙ T_true (is_some p.source.question.every) t)
      ∙ ap (λ (x : RelationLine). x.nots - x.tuples) (last_is p w is t) ∙ omega (arith, (is.relation r l).tuples, (is.relation r l).nots) in
      (z, omega (arith, z, n, k, c), omega (arith, is.relations, is.every.last t))

  mark_of : (off : ℕ) → mark_at w off ≡ act_of (action_at p (proof_start p (length p.node_list) + 1 + off))
  unfolding mark_at act_of said
  mark_of off = by_some (is_some p.source.question.every) refl
    where
      by_some : (b : Bool) → is_some p.source.question.every ≡ b → mark_at w off ≡ act_of (action_at p (proof_start p (length p.node_list) + 1 + off))
      by_some false e =
          let (a, b) = marks_none (subst (λ (x : Bool). T (not x)) (sym e) tt) in
          let n = actions_end p in
          rw (a, le-ltb off 0 (omega arith), le-ltb (off - 0) 0 (omega arith), at_none p (proof_start p (length p.node_list) + 1 + off) (omega arith)) refl
      by_some true e = by_place (ltb off (every_in w)) refl (ltb (off - every_in w) (every_in w)) refl
        where
          t : T (is_some p.source.question.every)
          t = T_of e

          by_place : (b : Bool) → ltb off (every_in w) ≡ b → (d : Bool) → ltb (off - every_in w) (every_in w) ≡ d → mark_at w off ≡ act_of (action_at p (proof_start p (length p.node_list) + 1 + off))
          by_place true h d g =
              let (a, b, c) = marks_some t in
              let l = ltb-true off (every_in w) h in
              let r : ℕ = every_number p.source.question in
              let x : proof_start p (length p.node_list) + 1 + off - (proof_start p (length p.node_list) + 1 + marks_before p r) ≡ off = omega arith in
              rw (h, at_mark_in p (proof_start p (length p.node_list) + 1 + off) r (every_below p w is t) (omega arith) (omega arith), x, c) refl
          by_place false h true g =
              let (a, b, c) = marks_some t in
              let k = ltb-false off (every_in w) h in
              let l = ltb-true (off - every_in w) (every_in w) g in
              let r : ℕ = every_number p.source.question in
              let z : marks_before p (length p.relations) ≡ every_in w = ap (marks_before p) (sym (is.every.last t)) ∙ b in
              let x : proof_start p (length p.node_list) + 1 + off - (proof_start p (length p.node_list) + 1 + marks_before p (length p.relations) + marks_before p r) ≡ off - every_in w = omega arith in
              rw (h, g, at_mark_out p (proof_start p (length p.node_list) + 1 + off) r (every_below p w is t) (omega arith) (omega arith), x, c) refl
          by_place false h false g =
              let (a, b, c) = marks_some t in
              let k = ltb-false off (every_in w) h in
              let l = ltb-false (off - every_in w) (every_in w) g in
              let z : marks_before p (length p.relations) ≡ every_in w = ap (marks_before p) (sym (is.every.last t)) ∙ b in
              let n = actions_end p in
              rw (h, g, at_none p (proof_start p (length p.node_list) + 1 + off) (omega arith)) refl

  module _ (k : ℕ) where
    module _ (r : ℕ) (h : r < relations_in w) (a : get_or w (relation_place r) 0 ≤ k) (b : k < get_or w (relation_place (r + 1)) 0) where
      abbrev offset : ℕ
      offset = k - get_or w (relation_place r) 0

      -- the offset is that of one of the relation's set actions
      among_sets : offset < sets_of p.size p.range (relation_at p r)
      among_sets =
          let e = sets_at r (omega (arith, is.relations)) in
          let e' = sets_at (r + 1) (omega (arith, is.relations)) ∙ ap (set_start p) (add-one r) in
          let s = set_next p r (omega (arith, is.relations)) in
          omega arith

      pub found_pair : (x : RelationLine) → x ≡ relation_line w r → is_whole x ≡ false → offset < x.first_count * x.second_count
      found_pair x l q = rw l (subst (λ (m : ℕ). offset < m) (typed_sets p w is r (omega (arith, is.relations)) (rw l at q)) among_sets)

      pub found_set : (x : RelationLine) (row : ℕ) → x ≡ relation_line w r → PlacesFit w (relation_line w r) → row ≡ set_row w x offset → Set (record { relation = r; row = row }) ≡ act_of (action_at p k)
      unfolding act_of said
      found_set x row l f q =
          let e = sets_at r (omega (arith, is.relations)) in
          let e' = sets_at (r + 1) (omega (arith, is.relations)) ∙ ap (set_start p) (add-one r) in
          let z = q ∙ ap (λ (y : RelationLine). set_row w y offset) l ∙ set_row_is p w is r (omega (arith, is.relations)) f offset among_sets in
          rw (at_set p k r (omega (arith, is.relations)) (omega (arith, e)) (omega (arith, e')), z, e) refl

    pub found_begin : k ≡ get_or w (relation_place (relations_in w)) 0 → Begin ≡ act_of (action_at p k)
    unfolding act_of said
    found_begin h = rw (at_begin p k (h ∙ ap (λ (r : ℕ). get_or w (relation_place r) 0) is.relations ∙ sets_at (length p.relations) (omega arith))) refl

    module _ (v : ℕ) (h : v < nodes_in w) (a : get_or w (node_place v) 0 ≤ k) (b : k < get_or w (node_place (v + 1)) 0) where
      pub inside : (proof_start p v ≤ k) × (k < proof_start p (suc v)) × (k - get_or w (node_place v) 0 < proofs_of p.size p.range (node_at p v))
      inside =
          let e = acts_at v (omega (arith, is.nodes)) in
          let e' = acts_at (v + 1) (omega (arith, is.nodes)) ∙ ap (proof_start p) (add-one v) in
          let z = proof_next p v (omega (arith, is.nodes)) in
          (omega arith, omega arith, omega arith)

      pub line : IsNode p w v (node_at p v) (node_line w v)
      line = is.node v (omega (arith, is.nodes))

      pub found_counted : (x : NodeLine) → x ≡ node_line w v → Counted x
      found_counted x l = rw l (counted_of p w v (k - get_or w (node_place v) 0) (node_line w v) (node_at p v) line inside.2)

    pub found_goal : (r : Act) → k ≡ get_or w (node_place (nodes_in w)) 0 → r ≡ finish_in w → r ≡ act_of (action_at p k)
    unfolding act_of
    found_goal r h e = rw (at_goal p k (h ∙ goal_at)) (e ∙ sym (finish_are p w is))

    pub found_mark : (r : Act) → get_or w (node_place (nodes_in w)) 0 < k → r ≡ mark_at w (k - get_or w (node_place (nodes_in w)) 0 - 1) → r ≡ act_of (action_at p k)
    unfolding act_of
    found_mark r h e =
        let g = goal_at in
        let off : ℕ = k - get_or w (node_place (nodes_in w)) 0 - 1 in
        let q : k ≡ proof_start p (length p.node_list) + 1 + off = omega arith in
        e ∙ mark_of off ∙ ap (λ (x : ℕ). act_of (action_at p x)) (sym q)

-- ---- marks by the table
module _ (w : List ℕ) (off : ℕ) where
  pub mark_in_lem : (r : ℕ) → off < every_in w → r ≡ relations_in w - 1 → MarkIn (record { relation = r; row = off }) ≡ mark_at w off
  unfolding mark_at
  mark_in_lem r h e = rw (lt-ltb off (every_in w) h, e) refl

  pub mark_out_lem : (r : ℕ) → every_in w ≤ off → off - every_in w < every_in w → r ≡ relations_in w - 1 → MarkOut (record { relation = r; row = off - every_in w }) ≡ mark_at w off
  unfolding mark_at
  mark_out_lem r h l e = rw (le-ltb off (every_in w) h, lt-ltb (off - every_in w) (every_in w) l, e) refl

  pub mark_past : every_in w ≤ off → every_in w ≤ off - every_in w → Nothing ≡ mark_at w off
  unfolding mark_at
  mark_past h l = rw (le-ltb off (every_in w) h, le-ltb (off - every_in w) (every_in w) l) refl

  -- the last relation is one
  pub some_relation : 0 < every_in w → 0 < relations_in w
  unfolding every_in has_every
  some_relation h = by_test (ltb 0 (relations_in w)) refl h
    where
      by_test : (b : Bool) → ltb 0 (relations_in w) ≡ b → 0 < (if b && eqb (last_line w).kind 6 then (last_line w).nots - (last_line w).tuples else 0) → 0 < relations_in w
      by_test true e h = ltb-true 0 (relations_in w) e
      by_test false e h = absurd (omega arith)

  pub mark_fits : Fits w → ActFits w (mark_at w off)
  unfolding mark_at
  mark_fits f = by_place (ltb off (every_in w)) refl (ltb (off - every_in w) (every_in w)) refl
    where
      few : every_in w ≤ 2 ^ 32
      few = every_small w f

      by_place : (b : Bool) → ltb off (every_in w) ≡ b → (d : Bool) → ltb (off - every_in w) (every_in w) ≡ d
          → ActFits w (if b then MarkIn (record { relation = relations_in w - 1; row = off }) else if d then MarkOut (record { relation = relations_in w - 1; row = off - every_in w }) else Nothing)
      by_place true h d g = (omega (arith, f.relations), omega (arith, ltb-true off (every_in w) h, few))
      by_place false h true g = (omega (arith, f.relations), omega (arith, ltb-true (off - every_in w) (every_in w) g, few))
      by_place false h false g = tt

pub finish_fits : (w : List ℕ) → ActFits w (finish_in w)
unfolding finish_in
finish_fits w = by_test (has_every w)
  where
    by_test : (b : Bool) → ActFits w (if b then RoundEnd else Goal)
    by_test true = tt
    by_test false = tt

-- ---- what is found fits
pub proof_fits : (v off : ℕ) (w : List ℕ) (x : NodeLine) → x ≡ node_line w v → RangeFits w (node_line w v) → v < 64 → off ≤ 2 ^ 32 → Counted x → ActFits w (proof_in w v off x)
unfolding proof_in proof_by
proof_fits v off w x l f h b q = by_kind x.kind q.count q.many
  where
    by_kind : (k : ℕ) → (k < 2 → 0 < x.count) → (3 ≤ k → 0 < x.many) → ActFits w (proof_by w v off x k)
    by_kind zero c m = (h, omega (arith, div-le_self off x.count), (subst (RangeFits w) (sym l) f).member (off % x.count) (mod-lt off (c (omega arith))))
    by_kind (suc zero) c m = (h, omega (arith, div-le_self off x.count), (subst (RangeFits w) (sym l) f).member (off % x.count) (mod-lt off (c (omega arith))))
    by_kind (suc (suc zero)) c m = (h, b)
    by_kind (suc (suc (suc k))) c m = (h, omega (arith, div-le_self off x.many), subst (λ (y : NodeLine). off % x.many < y.many) l (mod-lt off (m (omega arith))))
