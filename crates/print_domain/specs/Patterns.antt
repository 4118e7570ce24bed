-- A part by the table is written as the pattern of the case's part. Assumes nothing.
use Prim.Native.Nat.{ℕ, zero, suc, ◌+◌, ◌-◌, ◌≤◌, ◌<◌}
use Rattle.std.specs.Prelude.{◌≡◌, refl, Bool, ltb, eqb, length, get_or, take, drop, if◌then◌else◌}
use Rattle.std.proofs.Common.{sym, subst, ◌∙◌, ⊎_elim, get_or-drop, lt-ltb, le-ltb}
use Rattle.std.proofs.Math.Path.{ap, ap₂}
use Rattle.std.proofs.Math.Bool.{true, false}
use mathlib.Core.List.Memᴰ
use mathlib.Core.List.{List, [], ◌∷◌, ◌++◌, map, append-nil, Memᴰ}
use native.Mathlib.Omega.{arith}
use Rattle.definitions.specs.Sheet.Text.{bytes, decimal}
use Rattle.definitions.specs.Sheet.Sheets.{relations_of}
use Rattle.definitions.specs.Problem.Tree.{Tree, Trees, leaf, forall_node, exists_node, and_node, or_node, end, ◌then◌, Part, parts, nodes, nodes_all, tree_of, free}
use Rattle.definitions.specs.Problem.Truth.{Case}
use Rattle.definitions.specs.Reply.Lifted.{related, unrelated, free_first, free_second, proved, Term, object, Pattern, node_in, last_in, term_at, with_term, part_pattern}
use Rattle.definitions.specs.Reply.Pddl.{node_word, term_word, predicate_word, bracketed, write_pattern}
use Rattle.laws.specs.Lists.{get_or_mem}
use Rattle.rule_nodes.specs.declared.PartRow.{PartRow}
use Rattle.rule_nodes.specs.declared.Nodes.{Nodes}
use Rattle.rule_nodes.specs.Tables.{no_part, node_kind, node_level, Head, head_from, head_in, head_of, PartIn, PartFits, IsNode, IsTable, Fits}
use Rattle.rule_nodes.specs.Free.{free_few}
use Rattle.rule_nodes.specs.Bounds.{in_parts}
use Rattle.problem_table.specs.Of.{no_part as noTreePart}
use Rattle.problem_layout.specs.StartsAre.{many_are}
use Rattle.print_words.specs.declared.Word.{Word}
use Rattle.print_words.specs.Words.{term_by, term_high, shape_word, word_by, word_in, atom_in, NamesOf}
use Rattle.print_instance.specs.Texts.{relation_word}
use Rattle.print_domain.specs.Texts.{proved_word, also_text}
use Rattle.print_domain.specs.Actions.{row_at, part_at, env_of, bound_env, part_terms, part_word, part_text, kid_text, under_text}
use Rattle.print_domain.specs.Parts.{env_is, bound_env_lem, terms_are}

-- ---- a node is no literal
unfoldable pub Inner : Tree → Type 0
Inner (leaf p r ls) = ⊥
Inner (forall_node d s t) = Unit {0}
Inner (exists_node d s t) = Unit {0}
Inner (and_node ts) = Unit {0}
Inner (or_node ts) = Unit {0}

mutual
  unfolding nodes Inner

  nodes_inner : (t u : Tree) → Memᴰ u (nodes t) → Inner u
  nodes_inner (leaf p r ls) u m = absurd (Memᴰ.not-nil m)
  nodes_inner (forall_node d s t) u m = ⊎_elim (λ e. subst Inner (sym e) tt) (λ k. nodes_inner t u k) (Memᴰ.cases_cons m)
  nodes_inner (exists_node d s t) u m = ⊎_elim (λ e. subst Inner (sym e) tt) (λ k. nodes_inner t u k) (Memᴰ.cases_cons m)
  nodes_inner (and_node ts) u m = ⊎_elim (λ e. subst Inner (sym e) tt) (λ k. all_inner ts u k) (Memᴰ.cases_cons m)
  nodes_inner (or_node ts) u m = ⊎_elim (λ e. subst Inner (sym e) tt) (λ k. all_inner ts u k) (Memᴰ.cases_cons m)

  all_inner : (ts : Trees) (u : Tree) → Memᴰ u (nodes_all ts) → Inner u
  all_inner end u m = absurd (Memᴰ.not-nil m)
  all_inner (t then ts) u m = ⊎_elim (λ k. nodes_inner t u k) (λ k. all_inner ts u k) (Memᴰ.append_cases (nodes t) m)

shape_is : (u : Tree) → Inner u → shape_word (node_kind u) ≡ node_word u
unfolding shape_word node_kind node_word Inner
shape_is (leaf p r ls) h = absurd h
shape_is (forall_node d s t) h = refl
shape_is (exists_node d s t) h = refl
shape_is (and_node ts) h = refl
shape_is (or_node ts) h = refl

-- ---- a row's parts
heads_at : (ps : List PartRow) (m : ℕ) (qs : List Part) → map head_in (take m ps) ≡ map head_of qs → (i : ℕ) → i < length qs → head_in (get_or ps i no_part) ≡ head_of (get_or qs i noTreePart)
heads_at ps m [] e i h = absurd (omega arith)
heads_at ps zero (q ∷ qs) e i h = let z = ap length e in absurd (omega (arith, z))
heads_at [] (suc m) (q ∷ qs) e i h = let z = ap length e in absurd (omega (arith, z))
heads_at (x ∷ ps) (suc m) (q ∷ qs) e zero h = cc
heads_at (x ∷ ps) (suc m) (q ∷ qs) e (suc i) h = let b : map head_in (take m ps) ≡ map head_of qs = cc in heads_at ps m qs b i (omega arith)

take_below : (ls : List ℕ) (k i : ℕ) → ((j : ℕ) → get_or ls j 0 < 4) → get_or (take k ls) i 0 < 4
take_below ls zero zero h = omega arith
take_below ls zero (suc i) h = omega arith
take_below [] (suc k) zero h = omega arith
take_below [] (suc k) (suc i) h = omega arith
take_below (x ∷ ls) (suc k) zero h = h 0
take_below (x ∷ ls) (suc k) (suc i) h = take_below ls k i (λ j. h (suc j))

word_low : (t : Nodes) (p : PartRow) (tag r : ℕ) → p.tag ≡ tag → p.which ≡ r → tag < 2 → part_word t p ≡ relation_word tag r
unfolding part_word
word_low t p tag r a b h = let e : ltb p.tag 2 ≡ true = lt-ltb p.tag 2 (omega arith) in ap (λ (x : Bool). if x then relation_word p.tag p.which else proved_word p.which (row_at t p.which).kind) e ∙ ap₂ relation_word a b

word_high : (t : Nodes) (p : PartRow) (v : ℕ) → 2 ≤ p.tag → p.which ≡ v → part_word t p ≡ proved_word v (row_at t v).kind
unfolding part_word
word_high t p v h b = let e : ltb p.tag 2 ≡ false = le-ltb p.tag 2 h in ap (λ (x : Bool). if x then relation_word p.tag p.which else proved_word p.which (row_at t p.which).kind) e ∙ ap (λ (w : ℕ). proved_word w (row_at t w).kind) b

module _ (c : Case) (q ns : List ℕ) (N : NamesOf c q ns) where
  -- ---- predicates
  module _ (r : ℕ) (h : r < length (relations_of c.question)) where
    pub related_is : word_in q ns (relation_word 0 r) ≡ predicate_word c (related r)
    unfolding word_in predicate_word word_by
    related_is = ap (λ (w : List ℕ). bytes "r_" ++ w) (N.name r h)

    pub unrelated_is : word_in q ns (relation_word 1 r) ≡ predicate_word c (unrelated r)
    unfolding word_in predicate_word word_by
    unrelated_is = ap (λ (w : List ℕ). bytes "not-r_" ++ w) (N.name r h)

    pub first_is : word_in q ns (relation_word 2 r) ≡ predicate_word c (free_first r)
    unfolding word_in predicate_word word_by
    first_is = ap (λ (w : List ℕ). bytes "free_" ++ (w ++ bytes "_dom")) (N.name r h)

    pub second_is : word_in q ns (relation_word 3 r) ≡ predicate_word c (free_second r)
    unfolding word_in predicate_word word_by
    second_is = ap (λ (w : List ℕ). bytes "free_" ++ (w ++ bytes "_ran")) (N.name r h)

  -- an atom after a space
  abbrev pub spaced : Pattern → List ℕ
  spaced a = bytes " " ++ write_pattern c a

  pub also_is : (w : Word) (ks : List ℕ) (a : Pattern) → word_in q ns w ≡ predicate_word c a.predicate → map term_by ks ≡ a.terms → also_text q ns w ks false ≡ spaced a
  unfolding also_text atom_in write_pattern
  also_is w ks a e d = ap₂ (λ (x : List ℕ) (ts : List Term). bytes " " ++ bracketed (x ∷ map term_word ts)) e d

  pub not_is : (w : Word) (ks : List ℕ) (a : Pattern) → word_in q ns w ≡ predicate_word c a.predicate → map term_by ks ≡ a.terms → also_text q ns w ks true ≡ bytes " (not " ++ (write_pattern c a ++ bytes ")")
  unfolding also_text atom_in write_pattern
  not_is w ks a e d = ap₂ (λ (x : List ℕ) (ts : List Term). bytes " (not " ++ (bracketed (x ∷ map term_word ts) ++ bytes ")")) e d

  module _ (t : Nodes) (rels : ℕ) (rels_are : rels ≡ length (relations_of c.question)) (tree : IsTable rels (tree_of c.question) t) (fits : Fits t) (n : ℕ) (size : n ≡ c.site.size) (some : 0 < n) where
    pub node_at_lem : (v : ℕ) → v < t.count → IsNode v (node_in c v) (row_at t v) t.parts
    unfolding node_in
    node_at_lem v h = tree.node v h

    pub node_inner : (v : ℕ) → v < t.count → Inner (node_in c v)
    unfolding node_in
    node_inner v h = nodes_inner (tree_of c.question) _ (get_or_mem (nodes (tree_of c.question)) v (leaf true zero []) (omega (arith, tree.count)))

    pub proved_is : (v : ℕ) → v < t.count → word_in q ns (proved_word v (row_at t v).kind) ≡ predicate_word c (proved v)
    unfolding word_in predicate_word word_by
    proved_is v h = ap (λ (w : List ℕ). bytes "holds_" ++ (w ++ (bytes "_" ++ decimal v))) (ap shape_word (node_at_lem v h).kind ∙ shape_is (node_in c v) (node_inner v h))

    last_is : term_by (n + 7) ≡ object (last_in c)
    unfolding last_in
    last_is = let e : n + 7 - 8 ≡ c.site.size - 1 = omega arith in term_high (n + 7) (omega arith) ∙ ap object e

    module _ (p : PartRow) (v : ℕ) (e : ℕ → Term) (env : List ℕ) (at : (l : ℕ) → l < 4 → term_by (get_or env l 0) ≡ e l) (within : PartIn rels t.count p) (ok : PartFits p) where
      node_word_lem : (tag : ℕ) → p.tag ≡ tag → 2 ≤ tag → p.which ≡ v → word_in q ns (part_word t p) ≡ predicate_word c (proved v)
      node_word_lem tag a h b = ap (word_in q ns) (word_high t p v (omega arith) b) ∙ proved_is v (subst (λ (k : ℕ). k < t.count) b (within.node (omega arith)))

      relation_here : (tag r : ℕ) → p.tag ≡ tag → tag < 2 → p.which ≡ r → r < length (relations_of c.question)
      relation_here tag r a h b = subst (λ (k : ℕ). k < length (relations_of c.question)) b (omega (arith, within.relation (omega arith)))

      part_word_lem : (u : Tree) → head_in p ≡ head_from v u → word_in q ns (part_word t p) ≡ predicate_word c (part_pattern (last_in c) e v u).predicate
      unfolding head_from part_pattern
      part_word_lem (leaf true r ls) s =
          let a : p.tag ≡ 0 = ap (λ (h : Head). h.tag) s in
          let b : p.which ≡ r = ap (λ (h : Head). h.which) s in
          ap (word_in q ns) (word_low t p 0 r a b (omega arith)) ∙ related_is r (relation_here 0 r a (omega arith) b)
      part_word_lem (leaf false r ls) s =
          let a : p.tag ≡ 1 = ap (λ (h : Head). h.tag) s in
          let b : p.which ≡ r = ap (λ (h : Head). h.which) s in
          ap (word_in q ns) (word_low t p 1 r a b (omega arith)) ∙ unrelated_is r (relation_here 1 r a (omega arith) b)
      part_word_lem (forall_node d σ u) s = node_word_lem 2 (ap (λ (h : Head). h.tag) s) (omega arith) (ap (λ (h : Head). h.which) s)
      part_word_lem (exists_node d σ u) s = node_word_lem 3 (ap (λ (h : Head). h.tag) s) (omega arith) (ap (λ (h : Head). h.which) s)
      part_word_lem (and_node us) s = node_word_lem 3 (ap (λ (h : Head). h.tag) s) (omega arith) (ap (λ (h : Head). h.which) s)
      part_word_lem (or_node us) s = node_word_lem 3 (ap (λ (h : Head). h.tag) s) (omega arith) (ap (λ (h : Head). h.which) s)

      by_head : (k : Head) → head_in p ≡ k → map term_by (part_terms p env (n + 7)) ≡ map e k.levels ++ (if eqb k.tag 2 then object (last_in c) ∷ [] else [])
      by_head k s = terms_are env e at p (n + 7) (λ i. take_below p.levels p.width i ok.levels)
          ∙ ap₂ (λ (h : Head) (x : Term). map e h.levels ++ (if eqb h.tag 2 then x ∷ [] else [])) s last_is

      part_terms_lem : (u : Tree) → head_in p ≡ head_from v u → map term_by (part_terms p env (n + 7)) ≡ (part_pattern (last_in c) e v u).terms
      unfolding head_from part_pattern
      part_terms_lem (leaf true r ls) s = by_head _ s ∙ append-nil (map e ls)
      part_terms_lem (leaf false r ls) s = by_head _ s ∙ append-nil (map e ls)
      part_terms_lem (forall_node d σ u) s = by_head _ s
      part_terms_lem (exists_node d σ u) s = by_head _ s ∙ append-nil (map e (free (exists_node d σ u)))
      part_terms_lem (and_node us) s = by_head _ s ∙ append-nil (map e (free (and_node us)))
      part_terms_lem (or_node us) s = by_head _ s ∙ append-nil (map e (free (or_node us)))

      pub part_is : (u : Tree) → head_in p ≡ head_from v u → part_text q ns t p env (n + 7) ≡ spaced (part_pattern (last_in c) e v u)
      unfolding part_text
      part_is u s = also_is (part_word t p) (part_terms p env (n + 7)) (part_pattern (last_in c) e v u) (part_word_lem u s) (part_terms_lem u s)

    -- ---- those of node v
    module _ (v : ℕ) (h : v < t.count) where
      abbrev pub kid : ℕ → Part
      kid k = get_or (parts v (node_in c v)) k noTreePart

      pub many_is : (row_at t v).many ≡ length (parts v (node_in c v))
      many_is = many_are v (node_in c v) (row_at t v) t.parts (node_at_lem v h) (in_parts t fits v)

      kid_head : (k : ℕ) → k < length (parts v (node_in c v)) → head_in (part_at t ((row_at t v).first + k)) ≡ head_of (kid k)
      kid_head k l = ap head_in (sym (get_or-drop (row_at t v).first t.parts k no_part)) ∙ heads_at (drop (row_at t v).first t.parts) (row_at t v).many (parts v (node_in c v)) (node_at_lem v h).parts k l

      pub kid_is : (k : ℕ) → k < length (parts v (node_in c v)) → kid_text q ns t v (n + 7) k ≡ spaced (part_pattern (last_in c) (term_at (free (node_in c v))) (kid k).node (kid k).tree)
      unfolding kid_text
      kid_is k l = part_is (part_at t ((row_at t v).first + k)) (kid k).node (term_at (free (node_in c v))) (env_of (row_at t v))
          (env_is (row_at t v) (free (node_in c v)) (node_at_lem v h).width (free_few (node_in c v)) (node_at_lem v h).levels) (tree.within ((row_at t v).first + k)) (fits.parts.part ((row_at t v).first + k)) (kid k).tree (kid_head k l)

      pub under_is : (x : ℕ) → 0 < length (parts v (node_in c v))
          → under_text q ns t v x (n + 7) ≡ spaced (part_pattern (last_in c) (with_term (term_at (free (node_in c v))) (node_level (node_in c v)) (term_by x)) (kid 0).node (kid 0).tree)
      unfolding under_text
      under_is x l =
          let z : (row_at t v).first + 0 ≡ (row_at t v).first = omega arith in
          ap (λ (i : ℕ). part_text q ns t (part_at t i) (bound_env (row_at t v) x) (n + 7)) (sym z)
          ∙ part_is (part_at t ((row_at t v).first + 0)) (kid 0).node (with_term (term_at (free (node_in c v))) (node_level (node_in c v)) (term_by x)) (bound_env (row_at t v) x)
          (λ i m. bound_env_lem (row_at t v) (free (node_in c v)) (node_at_lem v h).width (free_few (node_in c v)) (node_at_lem v h).levels x i m
          ∙ ap (λ (d : ℕ). with_term (term_at (free (node_in c v))) d (term_by x) i) (node_at_lem v h).level)
          (tree.within ((row_at t v).first + 0)) (fits.parts.part ((row_at t v).first + 0)) (kid 0).tree (kid_head 0 l)
