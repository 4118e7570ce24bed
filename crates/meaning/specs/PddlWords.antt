-- The words of a domain: PDDL ignores case, and no two actions, predicates or objects have one word, even so.
use Prim.Native.Nat.{ℕ, zero, suc, ◌+◌, ◌-◌, ◌<◌, ◌≤◌}
use Rattle.std.specs.Prelude.{◌≡◌, Bool, not, ◌&&◌, ◌||◌, ltb, eqb, take, drop, if◌then◌else◌}
use Rattle.std.proofs.Math.Path.{refl, ap, ap₂, subst}
use Rattle.std.proofs.Common.{sym, ◌∙◌, eqb→eq, take_at, le-leb, le-ltb}
use Rattle.std.proofs.Math.Logic.{⊎_elim}
use Rattle.std.proofs.Math.Bool.{true, false}
use Rattle.std.proofs.Math.Option.{some}
use mathlib.Core.List.Memᴰ
use mathlib.Core.List.{List, [], ◌∷◌, ◌++◌, map, map-append, append_assoc, Memᴰ}
use native.Mathlib.Omega.{arith}
use Rattle.std.proofs.Math.Dec.{T, not_T}
use Rattle.std.proofs.Math.ListN.{length, get_or, length-append}
use Rattle.std.proofs.Math.Seq.{get_or-append_seam}
use Rattle.std.proofs.lemmas.Bool.{lt-leb}
use Rattle.definitions.specs.Lists.{all, same, option, listed, flat_map, map_from, below}
use Rattle.definitions.specs.Sheet.Text.{bytes, split, on_first, is_between, is_capital, is_small, is_digit, is_relation_name, no_leading_zero, decimal_value, number, decimal, decimal_in}
use Rattle.definitions.specs.Sheet.Relations.{Relation, number_of, built_in, is_chosen, is_function, is_injective}
use Rattle.definitions.specs.Sheet.Sheets.{relations, relations_of}
use Rattle.definitions.specs.Problem.Truth.{Case, members_of}
use Rattle.definitions.specs.Problem.Atoms.{problem_of, problem_with}
use Rattle.definitions.specs.Problem.Tree.{Tree, Trees, leaf, forall_node, exists_node, and_node, or_node, how_many, tree_of, nodes}
use Rattle.definitions.specs.Reply.Lifted
use Rattle.definitions.specs.Reply.Pddl
use Rattle.laws.specs.Booleans.{T_and_l, T_and_r, T_of, T_true, T_or, and_T, or_l}
use Rattle.laws.specs.Lists.{all_at, all_of, map_mem, mem_map, flat_mem, mem_flat, below_lt, mem_below, get_or_mem, map_from_mem, mem_map_from}
use Rattle.laws.specs.Positions.{position_at}
use Rattle.laws.specs.Tuples.{same_refl}
use Rattle.laws.specs.Numbers.{no_relation, no_node}
use Rattle.laws.specs.Decimals.{number_decimal, digits_of}
use Rattle.laws.specs.Lines.{Without, split_last, split_at}
use Rattle.laws.specs.Reader.{between, Accepted, Apart, apart_at}
use Rattle.meaning.specs.Grounded.{every_fits}
use Rattle.meaning.specs.FewNodes.{few_nodes, few_parts}
use Lifted.{Predicate, guessing, proving, reached, related, unrelated, free_first, free_second, proved, ActionName, set_name, begin_name, goal_name, and_name, exists_name, first_name, next_name, or_name, name_kind, name_subject, name_part}
use Lifted.{relation_in, node_in, set_names, node_names, action_names, relation_predicates, predicates}
use Pddl.{object_word, node_word, predicate_word, action_word, small, folded}

-- ---- letters
unfoldable pub big : ℕ → ℕ
big b = if is_small b then b - 32 else b

abbrev NameByte : ℕ → Bool
NameByte b = is_capital b || is_digit b || eqb b 95

between_in : (a e b : ℕ) → a ≤ b → b ≤ e → is_between a e b ≡ true
unfolding is_between
between_in a e b h g = rw (le-leb a b h, le-leb b e g) refl

below_out : (a e b : ℕ) → b < a → is_between a e b ≡ false
unfolding is_between
below_out a e b h = rw (lt-leb a b h) refl

pub digit_small : (b : ℕ) → T (is_digit b) → small b ≡ b
unfolding small is_capital is_digit
digit_small b t = let h = between 48 57 b t in rw (below_out 65 90 b (omega (arith, h.1))) refl

pub digit_le : (b : ℕ) → T (is_digit b) → b ≤ 57
unfolding is_digit
digit_le b t = (between 48 57 b t).1

pub big_small : (b : ℕ) → T (NameByte b) → big (small b) ≡ b
unfolding big small is_small is_capital
big_small b t = by_test (is_between 65 90 b) refl
  where
    by_test : (c : Bool) → is_between 65 90 b ≡ c → (if is_between 97 122 (if c then b + 32 else b) then (if c then b + 32 else b) - 32 else (if c then b + 32 else b)) ≡ b
    by_test true e = let h = between 65 90 b (T_of e) in rw (between_in 97 122 (b + 32) (omega (arith, h.0)) (omega (arith, h.1))) (omega arith)
    by_test false e = ⊎_elim
        (λ q. ⊎_elim (λ r. absurd (subst T e r)) (λ r. let h = digit_le b r in rw (below_out 97 122 b (omega arith)) refl) (T_or (is_between 65 90 b) _ q))
        (λ q. let h = eqb→eq b 95 q in rw (below_out 97 122 b (omega arith)) refl)
        (T_or (is_between 65 90 b || is_digit b) _ t)

pub digits_small : (xs : List ℕ) → T (all is_digit xs) → folded xs ≡ xs
unfolding folded all
digits_small [] t = refl
digits_small (b ∷ xs) t = ap₂ ◌∷◌ (digit_small b (T_and_l (is_digit b) _ t)) (digits_small xs (T_and_r (is_digit b) _ t))

pub decimal_small : (n : ℕ) → folded (decimal n) ≡ decimal n
unfolding decimal
decimal_small n = digits_small (decimal_in 20 n) (T_of (digits_of 20 n))

bytes_back : (xs : List ℕ) → T (all NameByte xs) → map big (folded xs) ≡ xs
unfolding folded all
bytes_back [] t = refl
bytes_back (b ∷ xs) t = ap₂ ◌∷◌ (big_small b (T_and_l (NameByte b) _ t)) (bytes_back xs (T_and_r (NameByte b) _ t))

-- a relation's name has such bytes, so it can be told from its small letters
pub name_bytes : (name : List ℕ) → T (is_relation_name name) → T (all NameByte name)
unfolding is_relation_name all
name_bytes [] t = tt
name_bytes (b ∷ bs) t =
    let a = T_and_l (is_capital b && all NameByte bs) _ t in
    and_T (NameByte b) _ (or_l (is_capital b || is_digit b) _ (or_l (is_capital b) _ (T_and_l (is_capital b) _ a))) (T_and_r (is_capital b) _ a)

pub name_back : (name : List ℕ) → T (is_relation_name name) → map big (folded name) ≡ name
name_back name t = bytes_back name (name_bytes name t)

-- ---- the number in a field of a word, fields parted by `_`
unfoldable pub number_in : List ℕ → ℕ → ℕ
number_in w i = option (number (get_or (split 95 w) i [])) zero (λ x. x)

pub digits_apart : (xs : List ℕ) → T (all is_digit xs) → Without 95 xs
digits_apart xs t = all_of (λ b. not (eqb b 95)) xs (λ b m. not_T (eqb b 95) (λ q. let h = digit_le b (all_at is_digit xs t b m) in let e = eqb→eq b 95 q in omega arith))

pub decimal_apart : (n : ℕ) → Without 95 (decimal n)
unfolding decimal
decimal_apart n = digits_apart (decimal_in 20 n) (T_of (digits_of 20 n))

pub number_of_lem : (n : ℕ) → n ≤ 64 → option (number (decimal n)) zero (λ x. x) ≡ n
unfolding option
number_of_lem n h = rw (number_decimal n (omega arith)) refl

pub alone : (n : ℕ) → split 95 (decimal n) ≡ decimal n ∷ []
alone n = split_last 95 (decimal n) (decimal_apart n)

pub before : (n : ℕ) (ys : List ℕ) → split 95 (decimal n ++ (95 ∷ ys)) ≡ decimal n ∷ split 95 ys
before n ys = split_at 95 (decimal n) ys (decimal_apart n)

-- ---- an action's name by numbers: its kind, what it is about, its part
unfoldable pub name_by : ℕ → ℕ → ℕ → ActionName
name_by zero r i = set_name r
name_by (suc zero) r i = begin_name
name_by (suc (suc zero)) r i = goal_name
name_by (suc (suc (suc zero))) r i = and_name r
name_by (suc (suc (suc (suc zero)))) r i = exists_name r
name_by (suc (suc (suc (suc (suc zero))))) r i = first_name r
name_by (suc (suc (suc (suc (suc (suc zero)))))) r i = next_name r
name_by (suc (suc (suc (suc (suc (suc (suc k))))))) r i = or_name r i

pub name_by_lem : (a : ActionName) → name_by (name_kind a) (name_subject a) (name_part a) ≡ a
unfolding name_by name_kind name_subject name_part
name_by_lem (set_name r) = refl
name_by_lem begin_name = refl
name_by_lem goal_name = refl
name_by_lem (and_name v) = refl
name_by_lem (exists_name v) = refl
name_by_lem (first_name v) = refl
name_by_lem (next_name v) = refl
name_by_lem (or_name v i) = refl

-- ---- an action's name, read off its word in small letters
unfoldable pub relation_from : Case → List ℕ → ℕ
relation_from c name = option (number_of (relations_of c.question) name) zero (λ r. r)

unfoldable pub read_name : Case → List ℕ → ActionName
read_name c w =
    if eqb (get_or w 0 0) 115 then set_name (relation_from c (map big (take (length w - 9) (drop 4 w))))
    else if eqb (get_or w 0 0) 98 then begin_name
    else if eqb (get_or w 6 0) 103 then goal_name
    else if eqb (get_or w 6 0) 97 then and_name (number_in w 2)
    else if eqb (get_or w 6 0) 111 then or_name (number_in w 2) (number_in w 3)
    else if eqb (get_or w 6 0) 101 then exists_name (number_in w 2)
    else if eqb (number_in w 3) 1 then first_name (number_in w 2)
    else next_name (number_in w 2)

-- what is known of a name of the domain
unfoldable pub Named : Case → ActionName → Type 0
Named c (set_name r) = (r < length (relations_of c.question)) × T (is_chosen (relation_in c r).kind)
Named c begin_name = Unit {0}
Named c goal_name = Unit {0}
Named c (and_name v) = (v < length (nodes (tree_of c.question))) × ((ts : Trees) × (node_in c v ≡ and_node ts))
Named c (exists_name v) = (v < length (nodes (tree_of c.question))) × ((d : ℕ) × (s : ℕ) × (t : Tree) × (node_in c v ≡ exists_node d s t))
Named c (first_name v) = (v < length (nodes (tree_of c.question))) × ((d : ℕ) × (s : ℕ) × (t : Tree) × (node_in c v ≡ forall_node d s t))
Named c (next_name v) = (v < length (nodes (tree_of c.question))) × ((d : ℕ) × (s : ℕ) × (t : Tree) × (node_in c v ≡ forall_node d s t))
Named c (or_name v i) = (v < length (nodes (tree_of c.question))) × ((ts : Trees) × (node_in c v ≡ or_node ts) × (i < how_many ts))

module _ (c : Case) where
  set_named : (r : ℕ) (a : ActionName) → r < length (relations_of c.question) → Memᴰ a (set_names r (get_or (relations_of c.question) r no_relation)) → Named c a
  unfolding set_names Named relation_in
  set_named r a l m = by_test (is_chosen (get_or (relations_of c.question) r no_relation).kind) refl m
    where
      by_test : (b : Bool) → is_chosen (get_or (relations_of c.question) r no_relation).kind ≡ b → Memᴰ a (if b then set_name r ∷ [] else []) → Named c a
      by_test true e m = subst (Named c) (sym (Memᴰ.eq_of_singleton m)) (l, T_of e)
      by_test false e m = absurd (Memᴰ.not-nil m)

  node_named : (v : ℕ) (t : Tree) (a : ActionName) → v < length (nodes (tree_of c.question)) → node_in c v ≡ t → Memᴰ a (node_names v t) → Named c a
  unfolding node_names Named
  node_named v (leaf q r ls) a l e m = absurd (Memᴰ.not-nil m)
  node_named v (forall_node d s t) a l e m = ⊎_elim (λ q. subst (Named c) (sym q) (l, (d, s, t, e))) (λ q. subst (Named c) (sym (Memᴰ.eq_of_singleton q)) (l, (d, s, t, e))) (Memᴰ.cases_cons m)
  node_named v (exists_node d s t) a l e m = subst (Named c) (sym (Memᴰ.eq_of_singleton m)) (l, (d, s, t, e))
  node_named v (and_node ts) a l e m = subst (Named c) (sym (Memᴰ.eq_of_singleton m)) (l, (ts, e))
  node_named v (or_node ts) a l e m = let (i, j, q) = map_mem (or_name v) (below (how_many ts)) a m in subst (Named c) (sym q) (l, (ts, e, below_lt (how_many ts) i j))

  pub names_are : (a : ActionName) → Memᴰ a (action_names c) → Named c a
  unfolding action_names node_in Named
  names_are a m = ⊎_elim
      (λ q. let (ns, i, j) = flat_mem (λ (ns : List ActionName). ns) (map_from set_names zero (relations_of c.question)) a q in
      let (r, l, e) = map_from_mem set_names zero (relations_of c.question) no_relation ns i in
      let z : zero + r ≡ r = omega arith in
      set_named r a l (subst (λ (k : ℕ). Memᴰ a (set_names k (get_or (relations_of c.question) r no_relation))) z (subst (Memᴰ a) e j)))
      (λ q. ⊎_elim (λ e. subst (Named c) (sym e) tt)
      (λ q₂. ⊎_elim
      (λ q₃. let (ns, i, j) = flat_mem (λ (ns : List ActionName). ns) (map_from node_names zero (nodes (tree_of c.question))) a q₃ in
      let (v, l, e) = map_from_mem node_names zero (nodes (tree_of c.question)) no_node ns i in
      let z : zero + v ≡ v = omega arith in
      node_named v (get_or (nodes (tree_of c.question)) v no_node) a l refl (subst (λ (k : ℕ). Memᴰ a (node_names k (get_or (nodes (tree_of c.question)) v no_node))) z (subst (Memᴰ a) e j)))
      (λ q₃. subst (Named c) (sym (Memᴰ.eq_of_singleton q₃)) tt)
      (Memᴰ.append_cases (flat_map (λ (ns : List ActionName). ns) (map_from node_names zero (nodes (tree_of c.question)))) q₂))
      (Memᴰ.cases_cons q))
      (Memᴰ.append_cases (flat_map (λ (ns : List ActionName). ns) (map_from set_names zero (relations_of c.question))) m)

  -- and what is known of them makes them names of the domain
  pub set_listed : (r : ℕ) → Named c (set_name r) → Memᴰ (set_name r) (action_names c)
  unfolding action_names set_names Named relation_in
  set_listed r (l, t) = Memᴰ.append_left _ (mem_flat (λ (ns : List ActionName). ns) (map_from set_names zero (relations_of c.question)) _ (set_name r)
      (mem_map_from set_names zero r (relations_of c.question) no_relation l) (by_test (is_chosen (get_or (relations_of c.question) r no_relation).kind) t))
    where
      by_test : (b : Bool) → T b → Memᴰ (set_name r) (if b then set_name (zero + r) ∷ [] else [])
      by_test true t = let e : zero + r ≡ r = omega arith in Memᴰ.head (ap set_name (sym e))
      by_test false t = absurd t

  pub node_listed : (v : ℕ) (a : ActionName) → v < length (nodes (tree_of c.question)) → Memᴰ a (node_names v (node_in c v)) → Memᴰ a (action_names c)
  unfolding action_names node_in
  node_listed v a l m = Memᴰ.append_right (flat_map (λ (ns : List ActionName). ns) (map_from set_names zero (relations_of c.question))) (Memᴰ.tail (Memᴰ.append_left _
      (mem_flat (λ (ns : List ActionName). ns) (map_from node_names zero (nodes (tree_of c.question))) (node_names v (get_or (nodes (tree_of c.question)) v no_node)) a
      (let e : zero + v ≡ v = omega arith in subst (λ (j : ℕ). Memᴰ (node_names j (get_or (nodes (tree_of c.question)) v no_node))
      (map_from node_names zero (nodes (tree_of c.question)))) e (mem_map_from node_names zero v (nodes (tree_of c.question)) no_node l)) m)))

  pub begin_listed : Memᴰ begin_name (action_names c)
  unfolding action_names
  begin_listed = Memᴰ.append_right (flat_map (λ (ns : List ActionName). ns) (map_from set_names zero (relations_of c.question))) (Memᴰ.head refl)

  pub goal_listed : Memᴰ goal_name (action_names c)
  unfolding action_names
  goal_listed = Memᴰ.append_right (flat_map (λ (ns : List ActionName). ns) (map_from set_names zero (relations_of c.question))) (Memᴰ.tail
      (Memᴰ.append_right (flat_map (λ (ns : List ActionName). ns) (map_from node_names zero (nodes (tree_of c.question)))) (Memᴰ.head refl)))

  pub named_listed : (a : ActionName) → Named c a → Memᴰ a (action_names c)
  unfolding Named node_names
  named_listed (set_name r) h = set_listed r h
  named_listed begin_name h = begin_listed
  named_listed goal_name h = goal_listed
  named_listed (and_name v) (l, (ts, e)) = node_listed v (and_name v) l (subst (λ (u : Tree). Memᴰ (and_name v) (node_names v u)) (sym e) (Memᴰ.head refl))
  named_listed (exists_name v) (l, (d, s, t, e)) = node_listed v (exists_name v) l (subst (λ (u : Tree). Memᴰ (exists_name v) (node_names v u)) (sym e) (Memᴰ.head refl))
  named_listed (first_name v) (l, (d, s, t, e)) = node_listed v (first_name v) l (subst (λ (u : Tree). Memᴰ (first_name v) (node_names v u)) (sym e) (Memᴰ.head refl))
  named_listed (next_name v) (l, (d, s, t, e)) = node_listed v (next_name v) l (subst (λ (u : Tree). Memᴰ (next_name v) (node_names v u)) (sym e) (Memᴰ.tail (Memᴰ.head refl)))
  named_listed (or_name v i) (l, (ts, e, g)) = node_listed v (or_name v i) l (subst (λ (u : Tree). Memᴰ (or_name v i) (node_names v u)) (sym e) (mem_map (or_name v) (below (how_many ts)) i (mem_below (how_many ts) i g)))

-- without types every range is that of all elements
pub all_elements : (c : Case) → c.question.types ≡ [] → (s : ℕ) → (problem_of c).range s ≡ below (problem_of c).size
unfolding problem_of problem_with members_of
all_elements c plain zero = refl
all_elements c plain (suc k) = let l = ap length plain in let e : ltb k (length c.question.types) ≡ false = le-ltb k (length c.question.types) (omega arith) in rw e refl

built_in_formed : T (all (λ (k : Relation). is_relation_name k.name) built_in)
unfolding built_in all is_relation_name is_capital is_between
built_in_formed = tt

module _ (c : Case) (A : Accepted c) where
  pub number_at : (rs : List Relation) (r : ℕ) → Apart rs → r < length rs → number_of rs (get_or rs r no_relation).name ≡ some r
  unfolding number_of
  number_at rs r a l = position_at (λ (k : Relation). same k.name (get_or rs r no_relation).name) rs no_relation r l (T_true _ (same_refl (get_or rs r no_relation).name)) (λ j h. apart_at rs j r a h l)

  pub relation_back : (r : ℕ) → r < length (relations_of c.question) → relation_from c (relation_in c r).name ≡ r
  unfolding relation_from relation_in option
  relation_back r l = rw (number_at (relations_of c.question) r A.question_fits.apart l) refl

  -- every relation's name has a name's form
  pub names_formed : (r : ℕ) → r < length (relations_of c.question) → T (is_relation_name (relation_in c r).name)
  unfolding relations_of relations relation_in
  names_formed r l = formed (get_or (built_in ++ (c.question.rels ++ (c.question.chosen ++ listed c.question.every))) r no_relation) (get_or_mem (built_in ++ (c.question.rels ++ (c.question.chosen ++ listed c.question.every))) r no_relation l)
    where
      formed : (k : Relation) → Memᴰ k (built_in ++ (c.question.rels ++ (c.question.chosen ++ listed c.question.every))) → T (is_relation_name k.name)
      formed k m = ⊎_elim (λ q. all_at (λ (k : Relation). is_relation_name k.name) built_in built_in_formed k q)
          (λ q. ⊎_elim (λ q₂. (A.question_fits.rels_fit k q₂).named) (λ q₂. ⊎_elim (λ q₃. A.question_fits.chosen_named k q₃) (λ q₃. (every_fits c A k q₃).named) (Memᴰ.append_cases c.question.chosen q₂)) (Memᴰ.append_cases c.question.rels q)) (Memᴰ.append_cases built_in m)

  pub set_word_lem : (name : List ℕ) → T (is_relation_name name) → map big (take (length (folded (bytes "set_" ++ (name ++ bytes "_true"))) - 9) (drop 4 (folded (bytes "set_" ++ (name ++ bytes "_true"))))) ≡ name
  unfolding folded small is_capital is_between
  set_word_lem name t =
      let e : map small (name ++ bytes "_true") ≡ map small name ++ bytes "_true" = map-append small name (bytes "_true") in
      let l = ap length e ∙ length-append (map small name) (bytes "_true") in
      let k : suc (suc (suc (suc (length (map small (name ++ bytes "_true")))))) - 9 ≡ length (map small name) = omega arith in
      ap₂ (λ (j : ℕ) (xs : List ℕ). map big (take j xs)) k e ∙ ap (map big) (take_at (map small name) (bytes "_true") (length (map small name)) refl) ∙ name_back name t

  -- a word that ends in a number, or in two
  pub fold_one : (xs : List ℕ) (v : ℕ) → folded xs ≡ xs → folded (xs ++ decimal v) ≡ xs ++ decimal v
  unfolding folded
  fold_one xs v e = map-append small xs (decimal v) ∙ ap₂ ◌++◌ e (decimal_small v)

  pub fold_two : (xs ys : List ℕ) (v : ℕ) → folded xs ≡ xs → folded ys ≡ ys → folded (xs ++ (decimal v ++ ys)) ≡ xs ++ (decimal v ++ ys)
  unfolding folded
  fold_two xs ys v e f = map-append small xs (decimal v ++ ys) ∙ ap₂ ◌++◌ e (map-append small (decimal v) ys ∙ ap₂ ◌++◌ (decimal_small v) f)

  pub few : (v : ℕ) → v < length (nodes (tree_of c.question)) → v ≤ 64
  few v l = let h = few_nodes c A in omega arith

  pub few_part : (v i : ℕ) → Named c (or_name v i) → i ≤ 64
  unfolding Named node_in
  few_part v i (l, (ts, e, g)) = let h = few_parts c A v ts l e in omega arith

  and_read : (v : ℕ) → v ≤ 64 → read_name c (bytes "prove_and_" ++ decimal v) ≡ and_name v
  unfolding read_name number_in split on_first
  and_read v h = rw (alone v) (ap and_name (number_of_lem v h))

  exists_read : (v : ℕ) → v ≤ 64 → read_name c (bytes "prove_exists_" ++ decimal v) ≡ exists_name v
  unfolding read_name number_in split on_first
  exists_read v h = rw (alone v) (ap exists_name (number_of_lem v h))

  or_read : (v i : ℕ) → v ≤ 64 → i ≤ 64 → read_name c (bytes "prove_or_" ++ (decimal v ++ (bytes "_" ++ decimal i))) ≡ or_name v i
  unfolding read_name number_in split on_first
  or_read v i h g = rw (before v (decimal i), alone i) (ap₂ or_name (number_of_lem v h) (number_of_lem i g))

  first_read : (v : ℕ) → v ≤ 64 → read_name c (bytes "prove_forall_" ++ (decimal v ++ bytes "_1")) ≡ first_name v
  unfolding read_name number_in split on_first option number all is_digit is_between no_leading_zero decimal_value
  first_read v h = rw (before v (49 ∷ [])) (ap first_name (number_of_lem v h))

  next_read : (v : ℕ) → v ≤ 64 → read_name c (bytes "prove_forall_" ++ (decimal v ++ bytes "_2")) ≡ next_name v
  unfolding read_name number_in split on_first option number all is_digit is_between no_leading_zero decimal_value
  next_read v h = rw (before v (50 ∷ [])) (ap next_name (number_of_lem v h))

  pub name_read : (a : ActionName) → Named c a → read_name c (folded (action_word c a)) ≡ a
  unfolding Named action_word folded small is_capital is_between read_name
  name_read (set_name r) h = ap set_name (ap (relation_from c) (set_word_lem (relation_in c r).name (names_formed r h.0)) ∙ relation_back r h.0)
  name_read begin_name h = refl
  name_read goal_name h = refl
  name_read (and_name v) h = ap (read_name c) (fold_one (bytes "prove_and_") v refl) ∙ and_read v (few v h.0)
  name_read (exists_name v) h = ap (read_name c) (fold_one (bytes "prove_exists_") v refl) ∙ exists_read v (few v h.0)
  name_read (first_name v) h = ap (read_name c) (fold_two (bytes "prove_forall_") (bytes "_1") v refl refl) ∙ first_read v (few v h.0)
  name_read (next_name v) h = ap (read_name c) (fold_two (bytes "prove_forall_") (bytes "_2") v refl refl) ∙ next_read v (few v h.0)
  name_read (or_name v i) h = ap (read_name c) (fold_two (bytes "prove_or_") (bytes "_" ++ decimal i) v refl (fold_one (bytes "_") i refl)) ∙ or_read v i (few v h.0) (few_part v i h)

  -- no two actions of the domain have one word, in whatever letters
  pub actions_apart : (a b : ActionName) → Memᴰ a (action_names c) → Memᴰ b (action_names c) → folded (action_word c a) ≡ folded (action_word c b) → a ≡ b
  actions_apart a b m k e = sym (name_read a (names_are c a m)) ∙ ap (read_name c) e ∙ name_read b (names_are c b k)

-- ---- predicates
read_predicate : Case → List ℕ → Predicate
read_predicate c w =
    if eqb (get_or w 0 0) 103 then guessing
    else if eqb (get_or w 0 0) 112 then proving
    else if eqb (get_or w 0 0) 114 then related (relation_from c (map big (drop 2 w)))
    else if eqb (get_or w 0 0) 110 then unrelated (relation_from c (map big (drop 6 w)))
    else if eqb (get_or w 0 0) 102 then
    (if eqb (get_or w (length w - 1) 0) 109 then free_first (relation_from c (map big (take (length w - 9) (drop 5 w)))) else free_second (relation_from c (map big (take (length w - 9) (drop 5 w)))))
    else if eqb (get_or w 6 0) 103 then reached
    else proved (number_in w 2)

unfoldable pub Declared : Case → Predicate → Type 0
Declared c guessing = Unit {0}
Declared c proving = Unit {0}
Declared c reached = Unit {0}
Declared c (related r) = r < length (relations_of c.question)
Declared c (unrelated r) = r < length (relations_of c.question)
Declared c (free_first r) = r < length (relations_of c.question)
Declared c (free_second r) = r < length (relations_of c.question)
Declared c (proved v) = v < length (nodes (tree_of c.question))

module _ (c : Case) where
  relation_declared : (r : ℕ) (k : Relation) (a : Predicate) → r < length (relations_of c.question) → Memᴰ a (relation_predicates r k) → Declared c a
  unfolding relation_predicates Declared
  relation_declared r k a l m = ⊎_elim (λ e. subst (Declared c) (sym e) l) (λ q. ⊎_elim (λ e. subst (Declared c) (sym e) l)
      (λ q₂. ⊎_elim (λ q₃. one (is_function k.kind) (free_first r) l q₃) (λ q₃. one (is_injective k.kind) (free_second r) l q₃) (Memᴰ.append_cases (if is_function k.kind then free_first r ∷ [] else []) q₂))
      (Memᴰ.cases_cons q)) (Memᴰ.cases_cons m)
    where
      one : (b : Bool) (d : Predicate) → Declared c d → Memᴰ a (if b then d ∷ [] else []) → Declared c a
      one true d h q = subst (Declared c) (sym (Memᴰ.eq_of_singleton q)) h
      one false d h q = absurd (Memᴰ.not-nil q)

  predicates_are : (a : Predicate) → Memᴰ a (predicates c) → Declared c a
  unfolding predicates Declared
  predicates_are a m = ⊎_elim (λ e. subst (Declared c) (sym e) tt) (λ q. ⊎_elim (λ e. subst (Declared c) (sym e) tt) (λ q₂. ⊎_elim (λ e. subst (Declared c) (sym e) tt)
      (λ q₃. ⊎_elim
      (λ q₄. let (ps, i, j) = flat_mem (λ (ps : List Predicate). ps) (map_from relation_predicates zero (relations_of c.question)) a q₄ in
      let (r, l, e) = map_from_mem relation_predicates zero (relations_of c.question) no_relation ps i in
      let z : zero + r ≡ r = omega arith in
      relation_declared r (get_or (relations_of c.question) r no_relation) a l (subst (λ (k : ℕ). Memᴰ a (relation_predicates k (get_or (relations_of c.question) r no_relation))) z (subst (Memᴰ a) e j)))
      (λ q₄. let (v, l, e) = map_from_mem (λ v t. proved v) zero (nodes (tree_of c.question)) no_node a q₄ in let z : zero + v ≡ v = omega arith in subst (Declared c) (sym (e ∙ ap proved z)) l)
      (Memᴰ.append_cases (flat_map (λ (ps : List Predicate). ps) (map_from relation_predicates zero (relations_of c.question))) q₃))
      (Memᴰ.cases_cons q₂)) (Memᴰ.cases_cons q)) (Memᴰ.cases_cons m)

module _ (c : Case) (A : Accepted c) where
  relation_word : (r : ℕ) → r < length (relations_of c.question) → relation_from c (map big (folded (relation_in c r).name)) ≡ r
  relation_word r l = ap (relation_from c) (name_back (relation_in c r).name (names_formed c A r l)) ∙ relation_back c A r l

  -- a word `free_`, a name, and four letters
  free_word : (name ys : List ℕ) → T (is_relation_name name) → folded ys ≡ ys → length ys ≡ 4 → map big (take (length (folded (bytes "free_" ++ (name ++ ys))) - 9) (drop 5 (folded (bytes "free_" ++ (name ++ ys))))) ≡ name
  unfolding folded small is_capital is_between
  free_word name ys t f k =
      let e : map small (name ++ ys) ≡ map small name ++ ys = map-append small name ys ∙ ap (λ (x : List ℕ). map small name ++ x) f in
      let l = ap length e ∙ length-append (map small name) ys in
      let j : suc (suc (suc (suc (suc (length (map small (name ++ ys))))))) - 9 ≡ length (map small name) = omega arith in
      ap₂ (λ (i : ℕ) (xs : List ℕ). map big (take i xs)) j e ∙ ap (map big) (take_at (map small name) ys (length (map small name)) refl) ∙ name_back name t

  free_last : (name ys : List ℕ) (b : ℕ) → small b ≡ b → get_or (bytes "free_" ++ folded (name ++ (ys ++ (b ∷ [])))) (length (bytes "free_" ++ folded (name ++ (ys ++ (b ∷ [])))) - 1) 0 ≡ b
  unfolding folded
  free_last name ys b h =
      let e : map small (name ++ (ys ++ (b ∷ []))) ≡ map small (name ++ ys) ++ (b ∷ []) = ap (map small) (sym (append_assoc name ys (b ∷ []))) ∙ map-append small (name ++ ys) (b ∷ []) ∙ ap (λ (x : ℕ). map small (name ++ ys) ++ (x ∷ [])) h in
      let l = ap length e ∙ length-append (map small (name ++ ys)) (b ∷ []) in
      let j : length (bytes "free_" ++ map small (name ++ (ys ++ (b ∷ [])))) - 1 ≡ length (bytes "free_" ++ map small (name ++ ys)) = omega arith in
      ap₂ (λ (xs : List ℕ) (i : ℕ). get_or (bytes "free_" ++ xs) i 0) e j ∙ get_or-append_seam (bytes "free_" ++ map small (name ++ ys)) b [] 0

  first_word_lem : (r : ℕ) → r < length (relations_of c.question) → read_predicate c (folded (bytes "free_" ++ ((relation_in c r).name ++ bytes "_dom"))) ≡ free_first r
  unfolding read_predicate folded small is_capital is_between
  first_word_lem r h = let name : List ℕ = (relation_in c r).name in
      rw (free_last name (bytes "_do") 109 refl) (ap free_first (ap (relation_from c) (free_word name (bytes "_dom") (names_formed c A r h) refl refl) ∙ relation_back c A r h))

  second_word : (r : ℕ) → r < length (relations_of c.question) → read_predicate c (folded (bytes "free_" ++ ((relation_in c r).name ++ bytes "_ran"))) ≡ free_second r
  unfolding read_predicate folded small is_capital is_between
  second_word r h = let name : List ℕ = (relation_in c r).name in
      rw (free_last name (bytes "_ra") 110 refl) (ap free_second (ap (relation_from c) (free_word name (bytes "_ran") (names_formed c A r h) refl refl) ∙ relation_back c A r h))

  holds_word : (v : ℕ) (t : Tree) → v ≤ 64 → read_predicate c (folded (bytes "holds_" ++ (node_word t ++ (bytes "_" ++ decimal v)))) ≡ proved v
  unfolding node_word read_predicate number_in split on_first folded small is_capital is_between
  holds_word v (leaf q r ls) h = ap (read_predicate c) (fold_one c A (bytes "holds__") v refl) ∙ rw (alone v) (ap proved (number_of_lem v h))
  holds_word v (forall_node d s t) h = ap (read_predicate c) (fold_one c A (bytes "holds_forall_") v refl) ∙ rw (alone v) (ap proved (number_of_lem v h))
  holds_word v (exists_node d s t) h = ap (read_predicate c) (fold_one c A (bytes "holds_exists_") v refl) ∙ rw (alone v) (ap proved (number_of_lem v h))
  holds_word v (and_node ts) h = ap (read_predicate c) (fold_one c A (bytes "holds_and_") v refl) ∙ rw (alone v) (ap proved (number_of_lem v h))
  holds_word v (or_node ts) h = ap (read_predicate c) (fold_one c A (bytes "holds_or_") v refl) ∙ rw (alone v) (ap proved (number_of_lem v h))

  predicate_read : (a : Predicate) → Declared c a → read_predicate c (folded (predicate_word c a)) ≡ a
  unfolding Declared predicate_word folded small is_capital is_between read_predicate
  predicate_read guessing h = refl
  predicate_read proving h = refl
  predicate_read reached h = refl
  predicate_read (related r) h = ap related (relation_word r h)
  predicate_read (unrelated r) h = ap unrelated (relation_word r h)
  predicate_read (free_first r) h = first_word_lem r h
  predicate_read (free_second r) h = second_word r h
  predicate_read (proved v) h = holds_word v (node_in c v) (few c A v h)

  pub declared_apart : (a b : Predicate) → Declared c a → Declared c b → folded (predicate_word c a) ≡ folded (predicate_word c b) → a ≡ b
  declared_apart a b m k e = sym (predicate_read a m) ∙ ap (read_predicate c) e ∙ predicate_read b k

  -- nor have two predicates, or two objects
  pub predicates_apart : (a b : Predicate) → Memᴰ a (predicates c) → Memᴰ b (predicates c) → folded (predicate_word c a) ≡ folded (predicate_word c b) → a ≡ b
  predicates_apart a b m k e = declared_apart a b (predicates_are c a m) (predicates_are c b k) e

  object_number : (x : ℕ) → x < 64 → option (number (drop 1 (folded (object_word x)))) zero (λ z. z) ≡ x
  unfolding object_word folded small is_capital is_between
  object_number x h = ap (λ (w : List ℕ). option (number w) zero (λ z. z)) (decimal_small x) ∙ number_of_lem x (omega arith)

  pub objects_apart : (x y : ℕ) → x < c.site.size → y < c.site.size → folded (object_word x) ≡ folded (object_word y) → x ≡ y
  objects_apart x y h g e =
      let k = A.site_fits.few_elements in
      sym (object_number x (omega arith)) ∙ ap (λ (w : List ℕ). option (number (drop 1 w)) zero (λ z. z)) e ∙ object_number y (omega arith)
