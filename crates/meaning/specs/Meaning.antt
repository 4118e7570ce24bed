-- The tree means what the rule as written means, totalities included.
use Prim.Native.Nat.{ℕ, zero, suc, ◌<◌}
use Rattle.std.specs.Prelude.{◌≡◌, ◌⊎◌, Bool, not, ◌||◌, T, eqb, length, if◌then◌else◌}
use Rattle.std.proofs.Math.Path.{refl, sym, ap, ap₂, fun_ext}
use Rattle.std.proofs.Common.{subst, ◌∙◌, inl, inr, ⊎_elim, arith, T_not, length-append, eq-eqb, ne_eqb}
use Rattle.std.proofs.Math.Bool.{true, false, ◌&&◌, not-not, and-true}
use mathlib.Core.List.{List, [], ◌∷◌, ◌++◌, map, append_assoc, append-nil}
use Rattle.definitions.specs.Lists.{all, any, same, option, position, map_from}
use Rattle.definitions.specs.Sheet.Relations.{Relation, Tuple, number_of, is_total}
use Rattle.definitions.specs.Sheet.Formula.{Quantified, variables_of, Formula, Formulas, literal, negation, implication, conjunction, disjunction, exists, forall, nil, cons, is_known, are_known, is_bound, are_new, is_scoped, are_scoped, sort_of}
use Rattle.definitions.specs.Sheet.Sheets.{relations_of, first_chosen}
use Rattle.definitions.specs.Problem.Truth
use Truth.{Case, holds, Binding, value_of, range_of, for_every, for_some, is_true, all_true, some_true, each_chosen, is_total_in, are_total, rule_holds}
use Rattle.definitions.specs.Problem.Tree.{Tree, Trees, leaf, forall_node, exists_node, end, ◌then◌, nest, leaf_of, as_is, negated, all_as_is, all_negated, totalities, joined, tree_of}
use Rattle.definitions.specs.Problem.Actions.{Values, with_value}
use Rattle.definitions.specs.Problem.Built.{tree_holds, trees_hold, some_holds}
use Rattle.laws.specs.Booleans.{T_and_l, T_and_r, T_false, T_of, T_or, not_and, not_or, or_l, or_r}
use Rattle.laws.specs.Positions.{any_snoc, place, place_left, place_lt, place_new, position_place}
use Rattle.laws.specs.Tuples.{same_eq, same_refl}
use Rattle.laws.specs.Reader.{Accepted}

-- ---- the names' values and the levels' values agree
level_place : (scope : List (List ℕ)) (v : List ℕ) → T (is_bound scope v) → option (position (same v) scope) zero (λ k. k) ≡ place (same v) scope
unfolding option is_bound
level_place scope v t = rw (position_place (same v) scope t) refl

pub Agree : List (List ℕ) → List Binding → Values → Type 0
Agree scope bs e = (v : List ℕ) → T (is_bound scope v) → value_of bs v ≡ e (place (same v) scope)

with_same : (e : Values) (d x : ℕ) → with_value e d x d ≡ x
unfolding with_value
with_same e d x = rw (eq-eqb d d refl)

with_other : (e : Values) (d x l : ℕ) → (l ≡ d → ⊥) → with_value e d x l ≡ e l
unfolding with_value
with_other e d x l h = rw (ne_eqb l d h)

agree_put : (scope : List (List ℕ)) (bs : List Binding) (e : Values) (v : List ℕ) (x : ℕ) → T (not (is_bound scope v)) → Agree scope bs e → Agree (scope ++ (v ∷ [])) (record { variable = v; value = x } ∷ bs) (with_value e (length scope) x)
unfolding Agree is_bound value_of
agree_put scope bs e v x n a w h = by_test (same v w) refl (any_snoc (same w) scope v h)
  where
    by_test : (b : Bool) → same v w ≡ b → T (any (same w) scope) ⊎ T (same w v) → (if b then x else value_of bs w) ≡ with_value e (length scope) x (place (same w) (scope ++ (v ∷ [])))
    by_test true q u =
        let k : v ≡ w = same_eq v w (T_of q) in
        let f : any (same w) scope ≡ false = T_false (any (same w) scope) (λ t. T_not (any (same v) scope) n (subst (λ (z : List ℕ). T (any (same z) scope)) (sym k) t)) in
        sym (ap (with_value e (length scope) x) (place_new (same w) scope v f (subst (λ (z : List ℕ). T (same w z)) (sym k) (same_refl w))) ∙ with_same e (length scope) x)
    by_test false q (inl t) =
        let l : place (same w) scope < length scope = place_lt (same w) scope t in
        a w t ∙ sym (ap (with_value e (length scope) x) (place_left (same w) scope (v ∷ []) t) ∙ with_other e (length scope) x (place (same w) scope) (λ p. omega arith))
    by_test false q (inr t) = absurd (subst T q (subst (λ (z : List ℕ). T (same v z)) (sym (same_eq w v t)) (same_refl v)))

-- ---- negation of all and any
not_any : {A : Type 0} (p : A → Bool) (l : List A) → all (λ x. not (p x)) l ≡ not (any p l)
unfolding all any
not_any p [] = refl
not_any p (x ∷ l) = ap (λ (b : Bool). not (p x) && b) (not_any p l) ∙ sym (not_or (p x) (any p l))

not_all : {A : Type 0} (p : A → Bool) (l : List A) → any (λ x. not (p x)) l ≡ not (all p l)
unfolding all any
not_all p [] = refl
not_all p (x ∷ l) = ap (λ (b : Bool). not (p x) || b) (not_all p l) ∙ sym (not_and (p x) (all p l))

module _ (R : Quantified → List ℕ) (G : List Binding → Bool) where
  not_some : (qs : List Quantified) (bs : List Binding) → for_every R qs bs (λ b. not (G b)) ≡ not (for_some R qs bs G)
  unfolding for_every for_some
  not_some [] bs = refl
  not_some (q ∷ qs) bs = ap (λ (f : ℕ → Bool). all f (R q)) (fun_ext (λ x. not_some qs (record { variable = q.variable; value = x } ∷ bs))) ∙ not_any (λ x. for_some R qs (record { variable = q.variable; value = x } ∷ bs) G) (R q)

  not_every : (qs : List Quantified) (bs : List Binding) → for_some R qs bs (λ b. not (G b)) ≡ not (for_every R qs bs G)
  unfolding for_every for_some
  not_every [] bs = refl
  not_every (q ∷ qs) bs = ap (λ (f : ℕ → Bool). any f (R q)) (fun_ext (λ x. not_every qs (record { variable = q.variable; value = x } ∷ bs))) ∙ not_all (λ x. for_every R qs (record { variable = q.variable; value = x } ∷ bs) G) (R q)

length_snoc : {A : Type 0} (l : List A) (x : A) → length (l ++ (x ∷ [])) ≡ suc (length l)
length_snoc l x = let e = length-append l (x ∷ []) in omega arith

-- a known literal's name is a relation's
pub known_name : (rs : List Relation) (r : List ℕ) (k : ℕ) → T (any (λ (q : Relation). same q.name r && eqb q.arity k) rs) → T (any (λ (q : Relation). same q.name r) rs)
unfolding any
known_name [] r k t = t
known_name (q ∷ rs) r k t = ⊎_elim (λ u. or_l (same q.name r) _ (T_and_l (same q.name r) _ u)) (λ u. or_r (same q.name r) _ (known_name rs r k u)) (T_or (same q.name r && eqb q.arity k) _ t)

module _ (c : Case) (picks : List Tuple) where
  nest_some : (qs : List Quantified) (scope : List (List ℕ)) (t : Tree) (G : List Binding → Bool) → T (are_new scope (variables_of qs)) → ((bs : List Binding) (e : Values) → Agree (scope ++ variables_of qs) bs e → tree_holds c picks e t ≡ G bs)
      → (bs : List Binding) (e : Values) → Agree scope bs e → tree_holds c picks e (nest exists_node (length scope) (map (sort_of c.question.types) qs) t) ≡ for_some (range_of c) qs bs G
  unfolding nest tree_holds for_some are_new variables_of range_of
  nest_some [] scope t G n h bs e a = h bs e (subst (λ (s : List (List ℕ)). Agree s bs e) (sym (append-nil scope)) a)
  nest_some (q ∷ qs) scope t G n h bs e a = ap (λ (f : ℕ → Bool). any f (range_of c q)) (fun_ext (λ x.
      ap (λ (k : ℕ). tree_holds c picks (with_value e (length scope) x) (nest exists_node k (map (sort_of c.question.types) qs) t)) (sym (length_snoc scope q.variable))
      ∙ nest_some qs (scope ++ (q.variable ∷ [])) t G (T_and_r (not (is_bound scope q.variable)) _ n)
      (λ bs e b. h bs e (subst (λ (s : List (List ℕ)). Agree s bs e) (append_assoc scope (q.variable ∷ []) (variables_of qs)) b))
      (record { variable = q.variable; value = x } ∷ bs) (with_value e (length scope) x)
      (agree_put scope bs e q.variable x (T_and_l (not (is_bound scope q.variable)) _ n) a)))

  nest_every : (qs : List Quantified) (scope : List (List ℕ)) (t : Tree) (G : List Binding → Bool) → T (are_new scope (variables_of qs)) → ((bs : List Binding) (e : Values) → Agree (scope ++ variables_of qs) bs e → tree_holds c picks e t ≡ G bs)
      → (bs : List Binding) (e : Values) → Agree scope bs e → tree_holds c picks e (nest forall_node (length scope) (map (sort_of c.question.types) qs) t) ≡ for_every (range_of c) qs bs G
  unfolding nest tree_holds for_every are_new variables_of range_of
  nest_every [] scope t G n h bs e a = h bs e (subst (λ (s : List (List ℕ)). Agree s bs e) (sym (append-nil scope)) a)
  nest_every (q ∷ qs) scope t G n h bs e a = ap (λ (f : ℕ → Bool). all f (range_of c q)) (fun_ext (λ x.
      ap (λ (k : ℕ). tree_holds c picks (with_value e (length scope) x) (nest forall_node k (map (sort_of c.question.types) qs) t)) (sym (length_snoc scope q.variable))
      ∙ nest_every qs (scope ++ (q.variable ∷ [])) t G (T_and_r (not (is_bound scope q.variable)) _ n)
      (λ bs e b. h bs e (subst (λ (s : List (List ℕ)). Agree s bs e) (append_assoc scope (q.variable ∷ []) (variables_of qs)) b))
      (record { variable = q.variable; value = x } ∷ bs) (with_value e (length scope) x)
      (agree_put scope bs e q.variable x (T_and_l (not (is_bound scope q.variable)) _ n) a)))

  map_agree : (scope : List (List ℕ)) (bs : List Binding) (e : Values) → Agree scope bs e → (vs : List (List ℕ)) → T (all (is_bound scope) vs) → map e (map (λ v. option (position (same v) scope) zero (λ k. k)) vs) ≡ map (value_of bs) vs
  unfolding Agree all
  map_agree scope bs e a [] h = refl
  map_agree scope bs e a (v ∷ vs) h = ap₂ ◌∷◌ (ap e (level_place scope v (T_and_l (is_bound scope v) _ h)) ∙ sym (a v (T_and_l (is_bound scope v) _ h))) (map_agree scope bs e a vs (T_and_r (is_bound scope v) _ h))

  leaf_holds : (rs : List Relation) (r : List ℕ) (xs : List ℕ) → T (any (λ (q : Relation). same q.name r) rs) → holds c picks (option (number_of rs r) zero (λ k. k)) xs ≡ option (number_of rs r) false (λ k. holds c picks k xs)
  unfolding number_of option
  leaf_holds rs r xs t = rw (position_place (λ (q : Relation). same q.name r) rs t) refl

  abbrev rs : List Relation
  rs = relations_of c.question

  imp_or : (a b : Bool) → (not a || (b || false)) ≡ (not a || b)
  imp_or true true = refl
  imp_or true false = refl
  imp_or false b = refl

  imp_and : (a b : Bool) → (a && (not b && true)) ≡ not (not a || b)
  imp_and true true = refl
  imp_and true false = refl
  imp_and false b = refl

  mutual
    unfolding as_is negated all_as_is all_negated tree_holds trees_hold some_holds is_true all_true some_true is_scoped are_scoped is_known are_known leaf_of range_of

    pub as_means : (f : Formula) (scope : List (List ℕ)) (bs : List Binding) (e : Values) → Agree scope bs e → T (is_scoped scope f) → T (is_known (relations_of c.question) f) → tree_holds c picks e (as_is (relations_of c.question) c.question.types scope f) ≡ is_true c picks bs f
    as_means (literal r vs) scope bs e a s k = ap (holds c picks _) (map_agree scope bs e a vs s) ∙ leaf_holds (relations_of c.question) r (map (value_of bs) vs) (known_name (relations_of c.question) r (length vs) k)
    as_means (negation f) scope bs e a s k = neg_means f scope bs e a s k
    as_means (implication f g) scope bs e a s k =
        ap₂ (λ (x y : Bool). x || (y || false)) (neg_means f scope bs e a (T_and_l (is_scoped scope f) _ s) (T_and_l (is_known (relations_of c.question) f) _ k)) (as_means g scope bs e a (T_and_r (is_scoped scope f) _ s) (T_and_r (is_known (relations_of c.question) f) _ k))
        ∙ imp_or (is_true c picks bs f) (is_true c picks bs g)
    as_means (conjunction fs) scope bs e a s k = all_as fs scope bs e a s k
    as_means (disjunction fs) scope bs e a s k = some_as fs scope bs e a s k
    as_means (exists qs f) scope bs e a s k =
        nest_some qs scope (as_is (relations_of c.question) c.question.types (scope ++ variables_of qs) f) (λ b. is_true c picks b f)
        (T_and_l (are_new scope (variables_of qs)) _ s) (λ b e' a'. as_means f (scope ++ variables_of qs) b e' a'
        (T_and_r (are_new scope (variables_of qs)) _ s) k) bs e a
    as_means (forall qs f) scope bs e a s k =
        nest_every qs scope (as_is (relations_of c.question) c.question.types (scope ++ variables_of qs) f) (λ b. is_true c picks b f)
        (T_and_l (are_new scope (variables_of qs)) _ s) (λ b e' a'. as_means f (scope ++ variables_of qs) b e' a'
        (T_and_r (are_new scope (variables_of qs)) _ s) k) bs e a

    neg_means : (f : Formula) (scope : List (List ℕ)) (bs : List Binding) (e : Values) → Agree scope bs e → T (is_scoped scope f) → T (is_known (relations_of c.question) f) → tree_holds c picks e (negated (relations_of c.question) c.question.types scope f) ≡ not (is_true c picks bs f)
    neg_means (literal r vs) scope bs e a s k = ap not (ap (holds c picks _) (map_agree scope bs e a vs s) ∙ leaf_holds (relations_of c.question) r (map (value_of bs) vs) (known_name (relations_of c.question) r (length vs) k))
    neg_means (negation f) scope bs e a s k = as_means f scope bs e a s k ∙ sym (not-not (is_true c picks bs f))
    neg_means (implication f g) scope bs e a s k =
        ap₂ (λ (x y : Bool). x && (y && true)) (as_means f scope bs e a (T_and_l (is_scoped scope f) _ s) (T_and_l (is_known (relations_of c.question) f) _ k)) (neg_means g scope bs e a (T_and_r (is_scoped scope f) _ s) (T_and_r (is_known (relations_of c.question) f) _ k))
        ∙ imp_and (is_true c picks bs f) (is_true c picks bs g)
    neg_means (conjunction fs) scope bs e a s k = some_neg fs scope bs e a s k
    neg_means (disjunction fs) scope bs e a s k = all_neg fs scope bs e a s k
    neg_means (exists qs f) scope bs e a s k =
        nest_every qs scope (negated (relations_of c.question) c.question.types (scope ++ variables_of qs) f) (λ b. not (is_true c picks b f))
        (T_and_l (are_new scope (variables_of qs)) _ s) (λ b e' a'. neg_means f (scope ++ variables_of qs) b e' a'
        (T_and_r (are_new scope (variables_of qs)) _ s) k) bs e a ∙ not_some (range_of c) (λ b. is_true c picks b f) qs bs
    neg_means (forall qs f) scope bs e a s k =
        nest_some qs scope (negated (relations_of c.question) c.question.types (scope ++ variables_of qs) f) (λ b. not (is_true c picks b f))
        (T_and_l (are_new scope (variables_of qs)) _ s) (λ b e' a'. neg_means f (scope ++ variables_of qs) b e' a'
        (T_and_r (are_new scope (variables_of qs)) _ s) k) bs e a ∙ not_every (range_of c) (λ b. is_true c picks b f) qs bs

    all_as : (fs : Formulas) (scope : List (List ℕ)) (bs : List Binding) (e : Values) → Agree scope bs e → T (are_scoped scope fs) → T (are_known (relations_of c.question) fs) → trees_hold c picks e (all_as_is (relations_of c.question) c.question.types scope fs) ≡ all_true c picks bs fs
    all_as nil scope bs e a s k = refl
    all_as (cons f fs) scope bs e a s k = ap₂ ◌&&◌ (as_means f scope bs e a (T_and_l (is_scoped scope f) _ s) (T_and_l (is_known (relations_of c.question) f) _ k)) (all_as fs scope bs e a (T_and_r (is_scoped scope f) _ s) (T_and_r (is_known (relations_of c.question) f) _ k))

    some_as : (fs : Formulas) (scope : List (List ℕ)) (bs : List Binding) (e : Values) → Agree scope bs e → T (are_scoped scope fs) → T (are_known (relations_of c.question) fs) → some_holds c picks e (all_as_is (relations_of c.question) c.question.types scope fs) ≡ some_true c picks bs fs
    some_as nil scope bs e a s k = refl
    some_as (cons f fs) scope bs e a s k = ap₂ ◌||◌ (as_means f scope bs e a (T_and_l (is_scoped scope f) _ s) (T_and_l (is_known (relations_of c.question) f) _ k)) (some_as fs scope bs e a (T_and_r (is_scoped scope f) _ s) (T_and_r (is_known (relations_of c.question) f) _ k))

    all_neg : (fs : Formulas) (scope : List (List ℕ)) (bs : List Binding) (e : Values) → Agree scope bs e → T (are_scoped scope fs) → T (are_known (relations_of c.question) fs) → trees_hold c picks e (all_negated (relations_of c.question) c.question.types scope fs) ≡ not (some_true c picks bs fs)
    all_neg nil scope bs e a s k = refl
    all_neg (cons f fs) scope bs e a s k =
        ap₂ ◌&&◌ (neg_means f scope bs e a (T_and_l (is_scoped scope f) _ s) (T_and_l (is_known (relations_of c.question) f) _ k))
        (all_neg fs scope bs e a (T_and_r (is_scoped scope f) _ s) (T_and_r (is_known (relations_of c.question) f) _ k))
        ∙ sym (not_or (is_true c picks bs f) (some_true c picks bs fs))

    some_neg : (fs : Formulas) (scope : List (List ℕ)) (bs : List Binding) (e : Values) → Agree scope bs e → T (are_scoped scope fs) → T (are_known (relations_of c.question) fs) → some_holds c picks e (all_negated (relations_of c.question) c.question.types scope fs) ≡ not (all_true c picks bs fs)
    some_neg nil scope bs e a s k = refl
    some_neg (cons f fs) scope bs e a s k =
        ap₂ ◌||◌ (neg_means f scope bs e a (T_and_l (is_scoped scope f) _ s) (T_and_l (is_known (relations_of c.question) f) _ k))
        (some_neg fs scope bs e a (T_and_r (is_scoped scope f) _ s) (T_and_r (is_known (relations_of c.question) f) _ k))
        ∙ sym (not_and (is_true c picks bs f) (all_true c picks bs fs))

  -- the totalities
  totalities_mean : (r : ℕ) (ks : List Relation) (e : Values) → trees_hold c picks e (totalities r ks) ≡ all (λ b. b) (map_from (λ r (k : Relation). if is_total k.kind then is_total_in c picks r k else true) r ks)
  unfolding trees_hold tree_holds totalities all map_from is_total_in with_value
  totalities_mean r [] e = refl
  totalities_mean r (k ∷ ks) e = by_test (is_total k.kind) (totalities_mean (suc r) ks e)
    where
      by_test : (b : Bool) → trees_hold c picks e (totalities (suc r) ks) ≡ all (λ b. b) (map_from (λ r (k : Relation). if is_total k.kind then is_total_in c picks r k else true) (suc r) ks)
          → trees_hold c picks e (if b then forall_node 0 k.firsts (exists_node 1 k.seconds (leaf true r (0 ∷ 1 ∷ []))) then totalities (suc r) ks else totalities (suc r) ks)
          ≡ ((if b then is_total_in c picks r k else true) && all (λ b. b) (map_from (λ r (k : Relation). if is_total k.kind then is_total_in c picks r k else true) (suc r) ks))
      by_test true h = ap (λ (x : Bool). is_total_in c picks r k && x) h
      by_test false h = h

  joined_holds : (t : Tree) (us : Trees) (e : Values) → tree_holds c picks e (joined t us) ≡ (tree_holds c picks e t && trees_hold c picks e us)
  unfolding joined tree_holds trees_hold
  joined_holds t end e = sym (and-true (tree_holds c picks e t))
  joined_holds t (u then us) e = refl

  -- the tree means what the rule as written means, totalities included
  pub tree_means : Accepted c → tree_holds c picks (λ _. zero) (tree_of c.question) ≡ rule_holds c picks
  unfolding tree_of rule_holds are_total each_chosen Agree is_bound any relations_of
  tree_means A =
      joined_holds (as_is (relations_of c.question) c.question.types [] c.question.rule.formula) (totalities (first_chosen c.question) c.question.chosen) (λ _. zero)
      ∙ ap₂ ◌&&◌ (as_means c.question.rule.formula [] [] (λ _. zero) (λ v t. absurd t) A.question_fits.rule_fits.scoped A.question_fits.rule_fits.known)
      (totalities_mean (first_chosen c.question) c.question.chosen (λ _. zero))
