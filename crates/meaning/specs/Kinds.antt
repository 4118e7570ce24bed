-- The declared kinds as tested and as said; soundness in the words of the definitions.
use Prim.Native.Nat.{ℕ, zero, ◌+◌, ◌<◌}
use Rattle.std.specs.Prelude.{◌≡◌, ◌↔◌, Bool, ◌&&◌, eqb, length, get_or}
use Rattle.std.proofs.Math.Path.{refl, ap, subst}
use Rattle.std.proofs.Common.{sym, subst₂, ◌∙◌, arith, eqb→eq, eq-eqb}
use Rattle.std.proofs.Math.Bool.{true, false, not}
use mathlib.Core.List.{List, [], ◌∷◌, ◌++◌, Memᴰ}
use Rattle.std.proofs.Math.Dec.{T, eqb_refl, T_not, not_T}
use Rattle.definitions.specs.Lists.{any, is_in, below}
use Rattle.definitions.specs.Sheet.Relations.{is_function, is_injective, Relation, Tuple}
use Rattle.definitions.specs.Sheet.Sheets.{first_chosen}
use Rattle.definitions.specs.Problem.Truth.{Case, members_of, each_chosen, two, first, second, is_inside, is_of_kind, are_of_kinds, values, every_value, rule_holds, rule_is_true}
use Rattle.definitions.specs.Problem.Atoms.{Problem, problem_of, problem_with, relation_at}
use Rattle.definitions.specs.Problem.Strips.{reaches_goal, picks_of}
use Rattle.definitions.specs.Problem.Built.{tree_holds}
use Rattle.laws.specs.Booleans.{T_and_l, T_and_r, T_of, T_true, and_T, not_unequal}
use Rattle.laws.specs.Lists.{all_at, all_of, any_at, any_of, below_lt, each_at, each_of, mem_below}
use Rattle.laws.specs.Members.{in_mem, mem_in}
use Rattle.laws.specs.Numbers.{inj_fun, no_relation}
use Rattle.laws.specs.Reader.{Accepted}
use Rattle.meaning.specs.Meaning.{tree_means}
use Rattle.meaning.specs.Means.{Good}
use Rattle.meaning.specs.Sound.{tup, Inside, OfKinds, Solves, sound}
use Rattle.meaning.specs.Grounded.{good, chosen_at, chosen_index, chosen_is}

-- a tuple of a relation with pairs
pair_form : (t : Tuple) → length t.places ≡ 2 → t ≡ tup t.relation (first t ∷ second t ∷ [])
unfolding first second
pair_form t e = ap (tup t.relation) (by_list t.places e)
  where
    by_list : (xs : List ℕ) → length xs ≡ 2 → xs ≡ get_or xs 0 0 ∷ get_or xs 1 0 ∷ []
    by_list [] e = absurd (omega arith)
    by_list (x ∷ []) e = absurd (omega arith)
    by_list (x ∷ y ∷ []) e = refl
    by_list (x ∷ y ∷ z ∷ xs) e = absurd (omega arith)

-- two tuples of r that agree in a and differ in b
pub two_at : (r : ℕ) (a b : Tuple → ℕ) (P : List Tuple) → T (two r a b P) → (t : Tuple) × (u : Tuple) × Memᴰ t P × Memᴰ u P × (t.relation ≡ r) × (u.relation ≡ r) × (a t ≡ a u) × (b t ≡ b u → ⊥)
unfolding two
two_at r a b P h =
    let (t, mt, k) = any_at (λ (t : Tuple). any (λ (u : Tuple). eqb t.relation r && eqb u.relation r && eqb (a t) (a u) && not (eqb (b t) (b u))) P) P h in
    let (u, mu, q) = any_at (λ (u : Tuple). eqb t.relation r && eqb u.relation r && eqb (a t) (a u) && not (eqb (b t) (b u))) P k in
    let q₁ = T_and_l (eqb t.relation r && eqb u.relation r && eqb (a t) (a u)) (not (eqb (b t) (b u))) q in
    let q₂ = T_and_l (eqb t.relation r && eqb u.relation r) (eqb (a t) (a u)) q₁ in (
      t,
      u,
      mt,
      mu,
      eqb→eq t.relation r (T_and_l (eqb t.relation r) _ q₂),
      eqb→eq u.relation r (T_and_r (eqb t.relation r) _ q₂),
      eqb→eq (a t) (a u) (T_and_r (eqb t.relation r && eqb u.relation r) _ q₁),
      λ e. T_not (eqb (b t) (b u)) (T_and_r (eqb t.relation r && eqb u.relation r && eqb (a t) (a u)) _ q) (subst (λ (x : ℕ). T (eqb (b t) x)) e (eqb_refl (b t))),
    )

pub two_of : (r : ℕ) (a b : Tuple → ℕ) (P : List Tuple) (t u : Tuple) → Memᴰ t P → Memᴰ u P → t.relation ≡ r → u.relation ≡ r → a t ≡ a u → (b t ≡ b u → ⊥) → T (two r a b P)
unfolding two
two_of r a b P t u mt mu e f g n =
    any_of (λ (t : Tuple). any (λ (u : Tuple). eqb t.relation r && eqb u.relation r && eqb (a t) (a u) && not (eqb (b t) (b u))) P) P t mt
    (any_of (λ (u : Tuple). eqb t.relation r && eqb u.relation r && eqb (a t) (a u) && not (eqb (b t) (b u))) P u mu
    (and_T (eqb t.relation r && eqb u.relation r && eqb (a t) (a u)) _
    (and_T (eqb t.relation r && eqb u.relation r) _ (and_T (eqb t.relation r) _ (subst (λ (x : ℕ). T (eqb t.relation x)) e (eqb_refl t.relation)) (subst (λ (x : ℕ). T (eqb u.relation x)) f (eqb_refl u.relation))) (subst (λ (x : ℕ). T (eqb (a t) x)) g (eqb_refl (a t))))
    (not_T (eqb (b t) (b u)) (λ k. n (eqb→eq (b t) (b u) k)))))

-- no tuple of r is outside the types
pub inside_means : (c : Case) (k : Relation) (t : Tuple) → T (is_inside c k t) ↔ (Memᴰ (first t) (members_of c k.firsts) × Memᴰ (second t) (members_of c k.seconds))
unfolding is_inside
inside_means c k t = (
  (λ h. (in_mem (first t) (members_of c k.firsts) (T_and_l (is_in (first t) (members_of c k.firsts)) _ h), in_mem (second t) (members_of c k.seconds) (T_and_r (is_in (first t) (members_of c k.firsts)) _ h))),
  (λ h. and_T (is_in (first t) (members_of c k.firsts)) _ (mem_in (first t) (members_of c k.firsts) h.0) (mem_in (second t) (members_of c k.seconds) h.1)),
)

-- the three tests of a kind
module _ (c : Case) (P : List Tuple) (r : ℕ) (k : Relation) where
  abbrev is_outside : Tuple → Bool
  is_outside t = eqb t.relation r && not (is_inside c k t)

  abbrev test₁ : Bool
  test₁ = is_function k.kind && two r first second P

  abbrev test₂ : Bool
  test₂ = is_injective k.kind && two r second first P

  abbrev test₃ : Bool
  test₃ = is_function k.kind && any is_outside P

  pub record OfKind : Type 0 where
    pub one_second : T (is_function k.kind) → T (two r first second P) → ⊥
    pub one_first : T (is_injective k.kind) → T (two r second first P) → ⊥
    pub in_types : T (is_function k.kind) → (t : Tuple) → Memᴰ t P → t.relation ≡ r → T (is_inside c k t)

  pub kind_at : T (is_of_kind c P r k) → OfKind
  unfolding is_of_kind
  kind_at h =
      let a = T_and_l (not test₁ && not test₂) (not test₃) h in
      record {
        one_second = λ f t. T_not test₁ (T_and_l (not test₁) (not test₂) a) (and_T (is_function k.kind) _ f t);
        one_first = λ f t. T_not test₂ (T_and_r (not test₁) (not test₂) a) (and_T (is_injective k.kind) _ f t);
        in_types = λ f t m e. inside f t m e (is_inside c k t) refl;
      }
    where
      inside : T (is_function k.kind) → (t : Tuple) → Memᴰ t P → t.relation ≡ r → (b : Bool) → is_inside c k t ≡ b → T b
      inside f t m e true q = tt
      inside f t m e false q = absurd (T_not test₃ (T_and_r (not test₁ && not test₂) (not test₃) h)
          (and_T (is_function k.kind) _ f (any_of is_outside P t m (and_T (eqb t.relation r) _ (T_of (eq-eqb t.relation r e)) (not_T (is_inside c k t) (λ i. subst T q i))))))

  pub kind_of_lem : OfKind → T (is_of_kind c P r k)
  unfolding is_of_kind
  kind_of_lem K = and_T (not test₁ && not test₂) _
      (and_T (not test₁) _
      (not_T test₁ (λ t. K.one_second (T_and_l (is_function k.kind) _ t) (T_and_r (is_function k.kind) _ t)))
      (not_T test₂ (λ t. K.one_first (T_and_l (is_injective k.kind) _ t) (T_and_r (is_injective k.kind) _ t))))
      (not_T test₃ (λ t.
      let (u, m, h) = any_at is_outside P (T_and_r (is_function k.kind) _ t) in
      T_not (is_inside c k u) (T_and_r (eqb u.relation r) _ h) (K.in_types (T_and_l (is_function k.kind) _ t) u m (eqb→eq u.relation r (T_and_l (eqb u.relation r) _ h)))))

module _ (c : Case) (A : Accepted c) where
  abbrev p : Problem
  p = problem_of c

  abbrev pub G : Good p
  G = good c A

  ranges_are : p.range ≡ members_of c
  unfolding problem_of problem_with
  ranges_are = refl

  kinds_test : (P : List Tuple) → OfKinds p G P → (r : ℕ) (k : Relation) → relation_at p r ≡ k → r < length p.relations → T (is_of_kind c P r k)
  unfolding first second
  kinds_test P K r k e l = kind_of_lem c P r k (record {
    one_second = λ f t. fun_clash f (two_at r first second P t);
    one_first = λ f t. inj_clash f (two_at r second first P t);
    in_types = inside;
  })
    where
      as_pair : T (is_function k.kind) → (t : Tuple) → Memᴰ t P → t.relation ≡ r → t ≡ tup r (first t ∷ second t ∷ [])
      as_pair f t m q =
          let i = K.inside t m in
          let g : T (is_function (relation_at p t.relation).kind) = subst (λ (x : ℕ). T (is_function (relation_at p x).kind)) (sym q) (subst (λ (x : Relation). T (is_function x.kind)) (sym e) f) in
          pair_form t (i.long ∙ G.pairs t.relation i.known g) ∙ ap (λ (x : ℕ). tup x (first t ∷ second t ∷ [])) q

      fun_clash : T (is_function k.kind) → ((t : Tuple) × (u : Tuple) × Memᴰ t P × Memᴰ u P × (t.relation ≡ r) × (u.relation ≡ r) × (first t ≡ first u) × (second t ≡ second u → ⊥)) → ⊥
      fun_clash f (t, u, mt, mu, et, eu, a, b) = b (K.fun r (first t) (second t) (second u) (subst (λ (x : Relation). T (is_function x.kind)) (sym e) f)
          (subst (λ (x : Tuple). Memᴰ x P) (as_pair f t mt et) mt) (subst (λ (x : Tuple). Memᴰ x P) (as_pair f u mu eu ∙ ap (λ (x : ℕ). tup r (x ∷ second u ∷ [])) (sym a)) mu))

      inj_clash : T (is_injective k.kind) → ((t : Tuple) × (u : Tuple) × Memᴰ t P × Memᴰ u P × (t.relation ≡ r) × (u.relation ≡ r) × (second t ≡ second u) × (first t ≡ first u → ⊥)) → ⊥
      inj_clash f (t, u, mt, mu, et, eu, a, b) =
          let g = inj_fun k.kind f in
          b (K.inj r (first t) (first u) (second t) (subst (λ (x : Relation). T (is_injective x.kind)) (sym e) f)
          (subst (λ (x : Tuple). Memᴰ x P) (as_pair g t mt et) mt) (subst (λ (x : Tuple). Memᴰ x P) (as_pair g u mu eu ∙ ap (λ (x : ℕ). tup r (first u ∷ x ∷ [])) (sym a)) mu))

      inside : T (is_function k.kind) → (t : Tuple) → Memᴰ t P → t.relation ≡ r → T (is_inside c k t)
      inside f t m q = (inside_means c k t).1 (subst₂ (λ (x : Relation) (R : ℕ → List ℕ). Memᴰ (first t) (R x.firsts) × Memᴰ (second t) (R x.seconds)) e ranges_are
          (K.typed r (first t) (second t) (subst (λ (x : Relation). T (is_function x.kind)) (sym e) f) (subst (λ (x : Tuple). Memᴰ x P) (as_pair f t m q) m)))

  pub kinds_tested : (P : List Tuple) → OfKinds p G P → T (are_of_kinds c P)
  unfolding are_of_kinds each_chosen
  kinds_tested P K = each_of (is_of_kind c P) (first_chosen c.question) c.question.chosen no_relation (λ j l. kinds_test P K (first_chosen c.question + j) (get_or c.question.chosen j no_relation) (chosen_at c A j l) (chosen_is c A j l).0)

  -- tuples of chosen relations that pass the test are of the declared kinds
  pub tested_kinds : (P : List Tuple) → ((t : Tuple) → Memᴰ t P → Inside p G t) → T (are_of_kinds c P) → OfKinds p G P
  unfolding are_of_kinds each_chosen first second
  tested_kinds P I h = record {
    inside = I;
    fun = λ r x y z f m n. not_unequal y z (λ d. (test r (I _ m)).one_second f (two_of r first second P (tup r (x ∷ y ∷ [])) (tup r (x ∷ z ∷ [])) m n refl refl refl d));
    inj = λ r x y z f m n. not_unequal x y (λ d. (test r (I _ m)).one_first f (two_of r second first P (tup r (x ∷ z ∷ [])) (tup r (y ∷ z ∷ [])) m n refl refl refl d));
    typed = λ r x y f m. subst (λ (R : ℕ → List ℕ). Memᴰ x (R (relation_at p r).firsts) × Memᴰ y (R (relation_at p r).seconds)) (sym ranges_are) ((inside_means c (relation_at p r) (tup r (x ∷ y ∷ []))).0 ((test r (I _ m)).in_types f (tup r (x ∷ y ∷ [])) m refl));
  }
    where
      test : (r : ℕ) {xs : List ℕ} → Inside p G (tup r xs) → OfKind c P r (relation_at p r)
      test r i =
          let (j, e, l) = chosen_index c A r i.known i.chosen in
          kind_at c P r (relation_at p r) (subst₂ (λ (x : ℕ) (k : Relation). T (is_of_kind c P x k)) (sym e) (sym (chosen_at c A j l) ∙ ap (relation_at p) (sym e)) (each_at (is_of_kind c P) (first_chosen c.question) c.question.chosen no_relation h j l))

  pub root_means : (P : List Tuple) → tree_holds p.source P (λ _. zero) p.root ≡ rule_holds c P
  unfolding problem_of problem_with
  root_means P = tree_means c P A

  -- the rule is true of picks exactly if the tree is true of them with each value of the `every` relation
  abbrev pub Everywhere : List Tuple → Type 0
  Everywhere P = (k : ℕ) → k < values c → T (tree_holds p.source (P ++ every_value c k) (λ _. zero) p.root)

  pub rule_everywhere : (P : List Tuple) → T (rule_is_true c P) → Everywhere P
  unfolding rule_is_true
  rule_everywhere P t k h = subst T (sym (root_means (P ++ every_value c k))) (all_at (λ k. rule_holds c (P ++ every_value c k)) (below (values c)) t k (mem_below (values c) k h))

  pub everywhere_rule : (P : List Tuple) → Everywhere P → T (rule_is_true c P)
  unfolding rule_is_true
  everywhere_rule P h = all_of (λ k. rule_holds c (P ++ every_value c k)) (below (values c)) (λ k m. subst T (root_means (P ++ every_value c k)) (h k (below_lt (values c) k m)))

  -- soundness
  pub steps_sound : (ks : List ℕ) → reaches_goal p ks ≡ true → (are_of_kinds c (picks_of p ks) ≡ true) × (rule_is_true c (picks_of p ks) ≡ true)
  unfolding problem_of problem_with
  steps_sound ks e =
      let s = sound p G ks (T_of e) in
      (T_true (are_of_kinds c (picks_of p ks)) (kinds_tested (picks_of p ks) s.kinds), T_true (rule_is_true c (picks_of p ks)) (everywhere_rule (picks_of p ks) (true_of s)))
    where
      true_of : Solves p G (picks_of p ks) → Everywhere (picks_of p ks)
      true_of s = s.true_of
