-- No domain is longer than numbers reach. Assumes nothing.
use Prim.Native.Nat.{ℕ, zero, suc, ◌+◌, ◌-◌, ◌*◌, ◌^◌, ◌≤◌, ◌<◌}
use Rattle.std.specs.Prelude.{◌≡◌, Bool, eqb, take, drop, if◌then◌else◌}
use Rattle.std.proofs.Math.Bool.{true, false}
use mathlib.Core.List.{List, [], ◌∷◌, ◌++◌, map}
use native.Mathlib.Omega.{arith}
use Rattle.std.proofs.Math.ListN.{length, get_or, length-append, length-take, length-drop}
use Rattle.std.proofs.lemmas.List.{length-map}
use Rattle.definitions.specs.Lists.{flat_map, from, below}
use Rattle.definitions.specs.Sheet.Text.{bytes, decimal}
use Rattle.definitions.specs.Sheet.Formula.{write_each}
use Rattle.definitions.specs.Reply.Pddl.{object_word, parameter_word}
use Rattle.laws.specs.Lists.{length_from}
use Rattle.rule_nodes.specs.declared.PartRow.{PartRow}
use Rattle.rule_nodes.specs.declared.Nodes.{Nodes}
use Rattle.rule_nodes.specs.Tables.{PartFits, Fits}
use Rattle.problem_layout.specs.declared.Relations.{Relations}
use Rattle.problem_layout.specs.Laid.{RelationsFit}
use Rattle.print_names.specs.declared.Name.{Name}
use Rattle.print_names.specs.declared.Name.TheVariants.{Set, Begin, Goal, And, Exists, First, Next, Or, Nobody}
use Rattle.print_names.specs.Naming
use Naming.{set_word, one_number, two_numbers}
use Rattle.print_page.specs.Elements.{name_in}
use Rattle.print_words.specs.declared.Word.{Word}
use Rattle.print_words.specs.Words.{atom_in}
use Rattle.print_words.specs.Lengths.{flat_le, if_le, atom_le, line_le, objects_le}
use Rattle.print_instance.specs.Texts.{relation_word, is_fun, is_inj}
use Rattle.print_domain.specs.Texts
use Rattle.print_domain.specs.Actions
use Texts.{proved_word, line_text, relation_lines, relations_lines, node_places_of, node_line, nodes_lines, params_text, head_text, also_text, used_text, set_text, is_picked, set_if, sets_text}
use Actions.{row_at, part_at, effect_text, end_text, env_of, bound_env, no_env, part_terms, part_word, part_text, proof_end, kid_text, and_text, or_text, ors_text, under_text, exists_text, own_with, first_text, next_text, forall_text, node_text, nodes_text, goal_text, constants_text, domain_in}

-- every piece is shorter than this
abbrev piece : ℕ
piece = 2 ^ 22

decimal_length : (k : ℕ) → length (decimal k) ≤ 20
unfolding write_each object_word
decimal_length k = omega (arith, objects_le (k ∷ []), length-append (decimal k) [])

params_le : (l : List ℕ) → length (write_each parameter_word l) ≤ length l * 23
unfolding write_each parameter_word
params_le [] = omega arith
params_le (x ∷ l) = omega (arith, decimal_length x, length-append (decimal x) (write_each parameter_word l), params_le l)

bracketed_le : (k : ℕ) → k ≤ 6 → length (params_text k) ≤ 200
unfolding params_text parameter_word
bracketed_le zero h = omega arith
bracketed_le (suc k) h =
    let E : List ℕ = write_each parameter_word (from 1 k) in
    omega (arith, decimal_length 0, length-append (decimal 0) (E ++ bytes ")"), length-append E (bytes ")"), params_le (from 1 k), length_from 1 k)

below_length : (k : ℕ) → length (below k) ≡ k
unfolding below
below_length k = length_from 0 k

own_length : (k x : ℕ) → k ≤ 4 → length (own_with k x) ≤ 6
own_length k x h = omega (arith, length-append (below k) (x ∷ []), below_length k)

terms_le : (p : PartRow) (env : List ℕ) (end : ℕ) → PartFits p → length (part_terms p env end) ≤ 6
unfolding part_terms
terms_le p env end f =
    let A : List ℕ = map (λ l. get_or env l 0) (take p.width p.levels) in
    let a : length A ≤ 4 = omega (arith, length-map (take p.width p.levels) (λ l. get_or env l 0), length-take p.width p.levels, f.width) in
    by_test A a (eqb p.tag 2)
  where
    by_test : (A : List ℕ) → length A ≤ 4 → (b : Bool) → length (A ++ (if b then end ∷ [] else [])) ≤ 6
    by_test A a true = omega (arith, length-append A (end ∷ []))
    by_test A a false = omega (arith, length-append A [])

module _ (q ns : List ℕ) (short : length q ≤ 2 ^ 21) where
  word_le : (k : Name) → length (Naming.word_in q ns k) ≤ 2 ^ 21 + 100
  unfolding Naming.word_in set_word one_number two_numbers name_in
  word_le (Set r) =
      let i = get_or ns (3 * r) 0 in
      let m = get_or ns (3 * r + 1) 0 - get_or ns (3 * r) 0 in
      omega (arith, short, length-append (take m (drop i q)) (bytes "_true"), length-take m (drop i q), length-drop i q)
  word_le Begin = omega arith
  word_le Goal = omega arith
  word_le (And v) = omega (arith, decimal_length v)
  word_le (Exists v) = omega (arith, decimal_length v)
  word_le (First v) = omega (arith, decimal_length v, decimal_length 1, length-append (decimal v) ((95 ∷ []) ++ decimal 1))
  word_le (Next v) = omega (arith, decimal_length v, decimal_length 2, length-append (decimal v) ((95 ∷ []) ++ decimal 2))
  word_le (Or v i) = omega (arith, decimal_length v, decimal_length i, length-append (decimal v) ((95 ∷ []) ++ decimal i))
  word_le Nobody = omega arith

  head_le : (k : Name) (count : ℕ) → count ≤ 6 → length (head_text q ns k count) ≤ piece
  unfolding head_text
  head_le k count h =
      let W : List ℕ = Naming.word_in q ns k in
      let P : List ℕ = params_text count in
      omega (arith, word_le k, bracketed_le count h, length-append W ((10 ∷ bytes "    :parameters ") ++ (P ++ (10 ∷ bytes "    :precondition (and"))), length-append P (10 ∷ bytes "    :precondition (and"))

  also_le : (w : Word) (ks : List ℕ) (negated : Bool) → length ks ≤ 6 → length (also_text q ns w ks negated) ≤ piece
  unfolding also_text
  also_le w ks true h = omega (arith, short, atom_le q ns w ks, length-append (atom_in q ns w ks) (bytes ")"))
  also_le w ks false h = omega (arith, short, atom_le q ns w ks)

  line_short : (w : Word) (ks : List ℕ) → length ks ≤ 6 → length (line_text q ns w ks) ≤ piece
  line_short w ks h = omega (arith, short, line_le q ns w ks)

  -- ---- relations
  module _ (r a k : ℕ) (few : a ≤ 6) where
    places_few : length (below a) ≤ 6
    places_few = omega (arith, below_length a)

    lines_le : length (relation_lines q ns r a k) ≤ 4 * piece
    unfolding relation_lines
    lines_le =
        let A : List ℕ = line_text q ns (relation_word 0 r) (below a) in
        let B : List ℕ = line_text q ns (relation_word 1 r) (below a) in
        let X : List ℕ = if is_fun k then line_text q ns (relation_word 2 r) (below 1) else [] in
        let Y : List ℕ = if is_inj k then line_text q ns (relation_word 3 r) (below 1) else [] in
        omega (
          arith,
          length-append A (B ++ (X ++ Y)),
          length-append B (X ++ Y),
          length-append X Y,
          line_short (relation_word 0 r) (below a) places_few,
          line_short (relation_word 1 r) (below a) places_few,
          if_le (line_text q ns (relation_word 2 r) (below 1)) piece (line_short (relation_word 2 r) (below 1) (omega (arith, below_length 1))) (is_fun k),
          if_le (line_text q ns (relation_word 3 r) (below 1)) piece (line_short (relation_word 3 r) (below 1) (omega (arith, below_length 1))) (is_inj k),
        )

    used_le : (negated : Bool) → length (used_text q ns r a k negated) ≤ 3 * piece
    unfolding used_text
    used_le negated =
        let A : List ℕ = also_text q ns (relation_word 1 r) (below a) negated in
        let X : List ℕ = if is_fun k then also_text q ns (relation_word 2 r) (0 ∷ []) negated else [] in
        let Y : List ℕ = if is_inj k then also_text q ns (relation_word 3 r) (1 ∷ []) negated else [] in
        omega (
          arith,
          length-append A (X ++ Y),
          length-append X Y,
          also_le (relation_word 1 r) (below a) negated places_few,
          if_le (also_text q ns (relation_word 2 r) (0 ∷ []) negated) piece (also_le (relation_word 2 r) (0 ∷ []) negated (omega arith)) (is_fun k),
          if_le (also_text q ns (relation_word 3 r) (1 ∷ []) negated) piece (also_le (relation_word 3 r) (1 ∷ []) negated (omega arith)) (is_inj k),
        )

    set_le : length (set_text q ns r a k) ≤ 9 * piece
    unfolding set_text
    set_le =
        let H : List ℕ = head_text q ns (Set r) a in
        let U : List ℕ = used_text q ns r a k false in
        let A : List ℕ = also_text q ns (relation_word 0 r) (below a) false in
        let R : List ℕ = used_text q ns r a k true in
        omega (
          arith,
          length-append H (bytes " (guess)" ++ (U ++ (effect_text ++ (A ++ (R ++ end_text))))),
          length-append U (effect_text ++ (A ++ (R ++ end_text))),
          length-append A (R ++ end_text),
          length-append R end_text,
          head_le (Set r) a few,
          used_le false,
          used_le true,
          also_le (relation_word 0 r) (below a) false places_few,
        )

    set_if_le : length (set_if q ns r a k) ≤ 9 * piece
    unfolding set_if
    set_if_le = if_le (set_text q ns r a k) (9 * piece) set_le (is_picked k)

  module _ (g : Relations) (G : RelationsFit g) where
    arity_few : (r : ℕ) → get_or g.arity r 0 ≤ 6
    arity_few r = omega (arith, G.arity r)

    relations_le : length (relations_lines q ns g) ≤ 18 * (4 * piece)
    unfolding relations_lines
    relations_le = omega (
      arith,
      flat_le (λ r. relation_lines q ns r (get_or g.arity r 0) (get_or g.kind r 0)) (4 * piece) (λ r. lines_le r (get_or g.arity r 0) (get_or g.kind r 0) (arity_few r)) (below g.count),
      below_length g.count,
      G.count,
    )

    sets_le : length (sets_text q ns g) ≤ 18 * (9 * piece)
    unfolding sets_text
    sets_le = omega (
      arith,
      flat_le (λ r. set_if q ns r (get_or g.arity r 0) (get_or g.kind r 0)) (9 * piece) (λ r. set_if_le r (get_or g.arity r 0) (get_or g.kind r 0) (arity_few r)) (below g.count),
      below_length g.count,
      G.count,
    )

  -- ---- nodes
  module _ (t : Nodes) (F : Fits t) where
    width_few : (v : ℕ) → (row_at t v).width ≤ 4
    width_few v = (F.nodes.node v).width

    many_few : (v : ℕ) → (row_at t v).many ≤ 64
    many_few v = omega (arith, (F.nodes.node v).parts, F.few_parts)

    node_line_le : (v : ℕ) → length (node_line q ns t v) ≤ piece
    unfolding node_line node_places_of
    node_line_le v = by_test (row_at t v).kind (row_at t v).width (width_few v) (eqb (row_at t v).kind 0)
      where
        by_test : (s w : ℕ) → w ≤ 4 → (b : Bool) → length (line_text q ns (proved_word v s) (below (if b then w + 1 else w))) ≤ piece
        by_test s w h true = line_short (proved_word v s) (below (w + 1)) (omega (arith, below_length (w + 1)))
        by_test s w h false = line_short (proved_word v s) (below w) (omega (arith, below_length w))

    nodes_lines_le : length (nodes_lines q ns t) ≤ 64 * piece
    unfolding nodes_lines
    nodes_lines_le = omega (arith, flat_le (node_line q ns t) piece node_line_le (below t.count), below_length t.count, F.few)

    part_le : (p : PartRow) (env : List ℕ) (end : ℕ) → PartFits p → length (part_text q ns t p env end) ≤ piece
    unfolding part_text
    part_le p env end f = also_le (part_word t p) (part_terms p env end) false (terms_le p env end f)

    end_le : (w : Word) (own : List ℕ) → length own ≤ 6 → length (proof_end q ns w own) ≤ 2 * piece
    unfolding proof_end
    end_le w own h = omega (arith, also_le w own false h, length-append (also_text q ns w own false) end_text)

    -- an action's head, what it needs, its end
    whole_le : (k : Name) (count b : ℕ) (X : List ℕ) (w : Word) (own : List ℕ) → count ≤ 6 → length X ≤ b → length own ≤ 6
        → length (head_text q ns k count ++ (bytes " (proof)" ++ (X ++ proof_end q ns w own))) ≤ b + 4 * piece
    whole_le k count b X w own h x o =
        omega (arith, length-append (head_text q ns k count) (bytes " (proof)" ++ (X ++ proof_end q ns w own)), length-append X (proof_end q ns w own), head_le k count h, end_le w own o)

    module _ (v end : ℕ) where
      own_few : length (below (row_at t v).width) ≤ 6
      own_few = omega (arith, below_length (row_at t v).width, width_few v)

      kid_le : (k : ℕ) → length (kid_text q ns t v end k) ≤ piece
      unfolding kid_text
      kid_le k = part_le (part_at t ((row_at t v).first + k)) (env_of (row_at t v)) end (F.parts.part ((row_at t v).first + k))

      kids_le : length (flat_map (kid_text q ns t v end) (below (row_at t v).many)) ≤ 64 * piece
      kids_le = omega (arith, flat_le (kid_text q ns t v end) piece kid_le (below (row_at t v).many), below_length (row_at t v).many, many_few v)

      under_le : (x : ℕ) → length (under_text q ns t v x end) ≤ piece
      unfolding under_text
      under_le x = part_le (part_at t (row_at t v).first) (bound_env (row_at t v) x) end (F.parts.part (row_at t v).first)

      and_le : length (and_text q ns t v end) ≤ 320 * piece
      unfolding and_text
      and_le = omega (arith, whole_le (And v) (row_at t v).width (64 * piece) (flat_map (kid_text q ns t v end) (below (row_at t v).many)) (proved_word v 2) (below (row_at t v).width) (omega (arith, width_few v)) kids_le own_few)

      or_le : (i : ℕ) → length (or_text q ns t v end i) ≤ 5 * piece
      unfolding or_text
      or_le i = omega (arith, whole_le (Or v i) (row_at t v).width piece (kid_text q ns t v end i) (proved_word v 3) (below (row_at t v).width) (omega (arith, width_few v)) (kid_le i) own_few)

      ors_le : length (ors_text q ns t v end) ≤ 320 * piece
      unfolding ors_text
      ors_le = omega (arith, flat_le (or_text q ns t v end) (5 * piece) or_le (below (row_at t v).many), below_length (row_at t v).many, many_few v)

      exists_le : length (exists_text q ns t v end) ≤ 320 * piece
      unfolding exists_text
      exists_le = omega (arith, whole_le (Exists v) ((row_at t v).width + 1) piece (under_text q ns t v (row_at t v).width end) (proved_word v 1) (below (row_at t v).width) (omega (arith, width_few v)) (under_le (row_at t v).width) own_few)

      first_le : length (first_text q ns t v end) ≤ 5 * piece
      unfolding first_text
      first_le = omega (arith, whole_le (First v) (row_at t v).width piece (under_text q ns t v 8 end) (proved_word v 0) (own_with (row_at t v).width 8) (omega (arith, width_few v)) (under_le 8) (own_length (row_at t v).width 8 (width_few v)))

      next_le : length (next_text q ns t v end) ≤ 10 * piece
      unfolding next_text
      next_le =
          let H : List ℕ = head_text q ns (Next v) ((row_at t v).width + 2) in
          let A : List ℕ = also_text q ns (relation_word 0 2) ((row_at t v).width ∷ ((row_at t v).width + 1) ∷ []) false in
          let B : List ℕ = also_text q ns (proved_word v 0) (own_with (row_at t v).width (row_at t v).width) false in
          let X : List ℕ = under_text q ns t v ((row_at t v).width + 1) end in
          let Y : List ℕ = proof_end q ns (proved_word v 0) (own_with (row_at t v).width ((row_at t v).width + 1)) in
          omega (
            arith,
            length-append H (bytes " (proof)" ++ (A ++ (B ++ (X ++ Y)))),
            length-append A (B ++ (X ++ Y)),
            length-append B (X ++ Y),
            length-append X Y,
            head_le (Next v) ((row_at t v).width + 2) (omega (arith, width_few v)),
            also_le (relation_word 0 2) ((row_at t v).width ∷ ((row_at t v).width + 1) ∷ []) false (omega arith),
            also_le (proved_word v 0) (own_with (row_at t v).width (row_at t v).width) false (own_length (row_at t v).width (row_at t v).width (width_few v)),
            under_le ((row_at t v).width + 1),
            end_le (proved_word v 0) (own_with (row_at t v).width ((row_at t v).width + 1)) (own_length (row_at t v).width ((row_at t v).width + 1) (width_few v)),
          )

      forall_le : length (forall_text q ns t v end) ≤ 320 * piece
      unfolding forall_text
      forall_le = omega (arith, length-append (first_text q ns t v end) (next_text q ns t v end), first_le, next_le)

      node_le : length (node_text q ns t v end) ≤ 320 * piece
      unfolding node_text
      node_le = by_tests (eqb (row_at t v).kind 0) (eqb (row_at t v).kind 1) (eqb (row_at t v).kind 2)
        where
          by_tests : (a b d : Bool) → length (if a then forall_text q ns t v end else if b then exists_text q ns t v end else if d then and_text q ns t v end else ors_text q ns t v end) ≤ 320 * piece
          by_tests true b d = forall_le
          by_tests false true d = exists_le
          by_tests false false true = and_le
          by_tests false false false = ors_le

    nodes_le : (end : ℕ) → length (nodes_text q ns t end) ≤ 64 * (320 * piece)
    unfolding nodes_text
    nodes_le end = omega (arith, flat_le (λ v. node_text q ns t v end) (320 * piece) (λ v. node_le v end) (below t.count), below_length t.count, F.few)

    goal_le : (end : ℕ) → length (goal_text q ns t end) ≤ 3 * piece
    unfolding goal_text
    goal_le end =
        let H : List ℕ = head_text q ns Goal 0 in
        let P : List ℕ = part_text q ns t t.root no_env end in
        let z : List ℕ = 41 ∷ 10 ∷ (bytes "    :effect (and (holds_goal)))" ++ (10 ∷ [])) in
        omega (arith, length-append H (P ++ z), length-append P z, head_le Goal 0 (omega arith), part_le t.root no_env end F.root)

constants_le : (n : ℕ) → length (constants_text n) ≤ 100
unfolding constants_text object_word
constants_le n = by_test (eqb n 1)
  where
    by_test : (b : Bool) → length (bytes "  (:constants o0" ++ (if b then 41 ∷ 10 ∷ [] else (32 ∷ []) ++ (object_word (n - 1) ++ (41 ∷ 10 ∷ [])))) ≤ 100
    by_test true = omega arith
    by_test false = omega (arith, decimal_length (n - 1), length-append (decimal (n - 1)) (41 ∷ 10 ∷ []))

pub domain_small : (q ns : List ℕ) (n : ℕ) (g : Relations) (t : Nodes) → length q ≤ 2 ^ 21 → RelationsFit g → Fits t → length (domain_in q ns n g t) < 2 ^ 64
unfolding domain_in
domain_small q ns n g t short G F = shape (constants_text n) (relations_lines q ns g) (nodes_lines q ns t) (sets_text q ns g) (nodes_text q ns t (n + 7)) (goal_text q ns t (n + 7))
    (constants_le n) (relations_le q ns short g G) (nodes_lines_le q ns short t F) (sets_le q ns short g G) (nodes_le q ns short t F (n + 7)) (goal_le q ns short t F (n + 7))
  where
    begun : List ℕ
    begun = bytes "  (:action begin-proof" ++ (10 ∷ (bytes "    :parameters ()" ++ (10 ∷ (bytes "    :precondition (and (guess))" ++ (10 ∷ (bytes "    :effect (and (proof) (not (guess))))" ++ (10 ∷ [])))))))

    shape : (K R L S M E : List ℕ) → length K ≤ 100 → length R ≤ 18 * (4 * piece) → length L ≤ 64 * piece → length S ≤ 18 * (9 * piece) → length M ≤ 64 * (320 * piece) → length E ≤ 3 * piece
        → length ((bytes "(define (domain case)" ++ (10 ∷ []))
        ++ (K ++ ((bytes "  (:predicates" ++ (10 ∷ (bytes "    (guess)" ++ (10 ∷ (bytes "    (proof)" ++ (10 ∷ (bytes "    (holds_goal)" ++ (10 ∷ []))))))))
        ++ (R ++ (L ++ ((bytes "  )" ++ (10 ∷ [])) ++ (S ++ (begun ++ (M ++ (E ++ (41 ∷ 10 ∷ [])))))))))))
        < 2 ^ 64
    shape K R L S M E a b d e f i =
        let z₁ : List ℕ = E ++ (41 ∷ 10 ∷ []) in
        let z₂ : List ℕ = (bytes "  )" ++ (10 ∷ [])) ++ (S ++ (begun ++ (M ++ z₁))) in
        omega (
          arith,
          length-append K ((bytes "  (:predicates" ++ (10 ∷ (bytes "    (guess)" ++ (10 ∷ (bytes "    (proof)" ++ (10 ∷ (bytes "    (holds_goal)" ++ (10 ∷ [])))))))) ++ (R ++ (L ++ z₂))),
          length-append R (L ++ z₂),
          length-append L z₂,
          length-append S (begun ++ (M ++ z₁)),
          length-append M z₁,
          length-append E (41 ∷ 10 ∷ []),
        )
