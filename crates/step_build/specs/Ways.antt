-- The builder's way is a list of actions, taken and written one by one: those of the built steps.
use Prim.Native.Nat.{ℕ, zero, suc, ◌+◌, ◌<◌}
use Rattle.std.proofs.Common.{add-zero, zero-add, ap₂, subst, ◌∙◌}
use Rattle.std.specs.Prelude.{◌≡◌, Bool, T, length, if◌then◌else◌}
use Rattle.std.proofs.Math.Path.{refl, sym, ap}
use Rattle.std.proofs.Math.Bool.{true, false}
use mathlib.Core.List.{List, [], ◌∷◌, ◌++◌, map, Memᴰ}
use native.Mathlib.Omega.{arith}
use Rattle.std.proofs.Math.ListN.{get_or}
use Rattle.std.proofs.lemmas.List.Edits.{sets}
use Rattle.definitions.specs.Lists.{filter, flat_map, from, below}
use Rattle.definitions.specs.Sheet.Relations.{Tuple, is_chosen}
use Rattle.definitions.specs.Problem.Atoms.{Problem, State, relation_at, tuples_of}
use Rattle.definitions.specs.Problem.Actions.{Action, set, is_settable, set_rows as settableRows, sets_of, action_number}
use Rattle.definitions.specs.Problem.Built.{is_picked, picked_rows, chosen_numbers, set_steps}
use Rattle.laws.specs.Booleans.{T_of, T_true}
use Rattle.laws.specs.Numbers.{IsAction}
use Rattle.laws.specs.Lists.{filter_same, filter_mem, flat_same, below_lt}
use Rattle.meaning.specs.Planning.{taken}
use Rattle.step_prove.specs.Following.{Out, out, one}
use Rattle.step_build.specs.Setting.{row_at, set_row, set_rows, set_relation, set_relations}

-- actions taken and written
unfoldable pub follow : Problem → Out → List Action → Out
follow p o [] = o
follow p o (a ∷ l) = follow p (one p o a) l

-- where actions lead, by its three parts
pub out_ext : (o : Out) (s : State) (b : List ℕ) (k : ℕ) → o.state ≡ s → o.steps ≡ b → o.count ≡ k → o ≡ out s b k
out_ext o s b k e f g = rw (sym e, sym f, sym g) refl

-- a list by its places; a test that another one implies
listed : (l : List ℕ) (a : ℕ) (g : ℕ → ℕ) → ((i : ℕ) → i < length l → g (a + i) ≡ get_or l i 0) → map g (from a (length l)) ≡ l
unfolding from
listed [] a g h = refl
listed (x ∷ l) a g h =
    ap₂ {C = List ℕ} ◌∷◌ (ap g (sym (add-zero a)) ∙ h 0 (omega arith))
    (listed l (suc a) g (λ i k. let e : suc a + i ≡ a + suc i = omega arith in ap g e ∙ h (suc i) (omega arith)))

filter_inner : (f g : ℕ → Bool) (l : List ℕ) → ((x : ℕ) → Memᴰ x l → T (f x) → T (g x)) → filter f (filter g l) ≡ filter f l
unfolding filter
filter_inner f g [] h = refl
filter_inner f g (x ∷ l) h = by_tests (f x) (g x) refl refl (filter_inner f g l (λ y m. h y (Memᴰ.tail m)))
  where
    by_tests : (a b : Bool) → f x ≡ a → g x ≡ b → filter f (filter g l) ≡ filter f l → filter f (if b then x ∷ filter g l else filter g l) ≡ (if a then x ∷ filter f l else filter f l)
    by_tests true true e q ih = rw e (ap (λ (m : List ℕ). x ∷ m) ih)
    by_tests true false e q ih = absurd (subst T q (h x (Memᴰ.head refl) (T_of e)))
    by_tests false true e q ih = rw e ih
    by_tests false false e q ih = ih

module _ (p : Problem) where
  pub follow_append : (l m : List Action) (o : Out) → follow p o (l ++ m) ≡ follow p (follow p o l) m
  unfolding follow
  follow_append [] m o = refl
  follow_append (a ∷ l) m o = follow_append l m (one p o a)

  pub follow_state : (l : List Action) (o : Out) → (follow p o l).state ≡ taken p o.state l
  unfolding follow taken one
  follow_state [] o = refl
  follow_state (a ∷ l) o = follow_state l (one p o a)

  pub follow_steps : (l : List Action) (o : Out) → (follow p o l).steps ≡ sets o.steps o.count (map (action_number p) l)
  unfolding follow one
  follow_steps [] o = refl
  follow_steps (a ∷ l) o = follow_steps l (one p o a)

  pub follow_count : (l : List Action) (o : Out) → (follow p o l).count ≡ o.count + length l
  unfolding follow one
  follow_count [] o = omega arith
  follow_count (a ∷ l) o = let e = follow_count l (one p o a) in omega arith

  -- ---- the picks
  set_follow : (r : ℕ) (f : ℕ → Bool) (k j : ℕ) (o : Out) → set_rows p r f o j k ≡ follow p o (map (set r) (filter f (map (row_at p r) (from j k))))
  unfolding set_rows set_row from filter follow
  set_follow r f zero j o = refl
  set_follow r f (suc k) j o = by_test (f (row_at p r j)) (λ o'. set_follow r f k (suc j) o')
    where
      rest : List ℕ
      rest = filter f (map (row_at p r) (from (suc j) k))

      by_test : (b : Bool) → ((o' : Out) → set_rows p r f o' (suc j) k ≡ follow p o' (map (set r) (filter f (map (row_at p r) (from (suc j) k)))))
          → set_rows p r f (set_row p r b o (row_at p r j)) (suc j) k ≡ follow p o (map (set r) (if b then row_at p r j ∷ rest else rest))
      by_test true ih = ih (one p o (set r (row_at p r j)))
      by_test false ih = ih o

  module _ (f : ℕ → ℕ → Bool) where
    abbrev sets_in : ℕ → List Action
    sets_in r = map (set r) (filter (f r) (settableRows p.size p.range (relation_at p r)))

    relation_follow : (r : ℕ) (o : Out) → set_rows p r (f r) o zero (sets_of p.size p.range (relation_at p r)) ≡ follow p o (sets_in r)
    unfolding sets_of
    relation_follow r o =
        let rows = settableRows p.size p.range (relation_at p r) in
        set_follow r (f r) (length rows) zero o ∙ ap (λ (l : List ℕ). follow p o (map (set r) (filter (f r) l))) (listed rows zero (row_at p r) (λ i h. ap (λ (j : ℕ). get_or rows j 0) (zero-add i)))

    sets_follow : (k r : ℕ) (o : Out) → set_relations p f o r k ≡ follow p o (flat_map sets_in (filter (λ r. is_chosen (relation_at p r).kind) (from r k)))
    unfolding set_relations set_relation from filter flat_map follow
    sets_follow zero r o = refl
    sets_follow (suc k) r o = by_test (is_chosen (relation_at p r).kind) (λ o'. sets_follow k (suc r) o')
      where
        by_test : (b : Bool) → ((o' : Out) → set_relations p f o' (suc r) k ≡ follow p o' (flat_map sets_in (filter (λ r. is_chosen (relation_at p r).kind) (from (suc r) k))))
            → set_relations p f (if b then set_rows p r (f r) o zero (sets_of p.size p.range (relation_at p r)) else o) (suc r) k
            ≡ follow p o (flat_map sets_in (if b then r ∷ filter (λ r. is_chosen (relation_at p r).kind) (from (suc r) k) else filter
            (λ r. is_chosen (relation_at p r).kind) (from (suc r) k)))
        by_test true ih = ap (λ (x : Out). set_relations p f x (suc r) k) (relation_follow r o) ∙ ih (follow p o (sets_in r)) ∙ sym (follow_append (sets_in r) (flat_map sets_in (filter (λ r. is_chosen (relation_at p r).kind) (from (suc r) k))) o)
        by_test false ih = ih o

    -- by picks, each of which has a set action
    module _ (F : List Tuple)
        (same : (r row : ℕ) → r < length p.relations → T (is_chosen (relation_at p r).kind) → row < tuples_of p.size (relation_at p r) → f r row ≡ is_picked p F r row)
        (settable : (r row : ℕ) → r < length p.relations → T (is_chosen (relation_at p r).kind) → row < tuples_of p.size (relation_at p r) → T (is_picked p F r row) → IsAction p (set r row)) where
      rows_are : (r : ℕ) → r < length p.relations → T (is_chosen (relation_at p r).kind) → filter (f r) (settableRows p.size p.range (relation_at p r)) ≡ picked_rows p F r
      unfolding picked_rows settableRows IsAction
      rows_are r l t =
          let k = relation_at p r in
          let n = tuples_of p.size k in
          rw (T_true (is_chosen k.kind) t)
          (filter_same (f r) (is_picked p F r) (filter (is_settable p.size p.range k) (below n)) (λ row m. same r row l t (below_lt n row (filter_mem (is_settable p.size p.range k) (below n) row m).0))
          ∙ filter_inner (is_picked p F r) (is_settable p.size p.range k) (below n)
          (λ row m h. (filter_mem (is_settable p.size p.range k) (below n) row (rw (T_true (is_chosen k.kind) t) at (settable r row l t (below_lt n row m) h).2)).1))

      sets_are : flat_map sets_in (chosen_numbers p) ≡ set_steps p F
      unfolding set_steps chosen_numbers
      sets_are = flat_same sets_in (λ r. map (set r) (picked_rows p F r)) (chosen_numbers p) (λ r m.
          let q = filter_mem (λ r. is_chosen (relation_at p r).kind) (below (length p.relations)) r m in
          ap (map (set r)) (rows_are r (below_lt (length p.relations) r q.0) q.1))

      pub picks_follow : (o : Out) → set_relations p f o zero (length p.relations) ≡ follow p o (set_steps p F)
      unfolding chosen_numbers below
      picks_follow o = sets_follow (length p.relations) zero o ∙ ap (follow p o) sets_are
