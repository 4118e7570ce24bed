-- Picks as pairs of a relation and a row, in the order of the atoms: the set steps of built steps.
use Prim.Native.Nat.{ℕ, ◌/◌, ◌%◌, ◌^◌, ◌<◌}
use Rattle.std.specs.Prelude.{◌≡◌, T, length}
use Rattle.std.proofs.Math.Path.{sym, ap, ap₂, subst, fun_ext}
use Rattle.std.proofs.Common.{◌∙◌}
use mathlib.Core.List.{List, map, Memᴰ}
use Rattle.definitions.specs.Lists.{flat_map, below}
use Rattle.definitions.specs.Sheet.Relations.{Tuple, is_chosen}
use Rattle.definitions.specs.Problem.Atoms.{Problem, relation_at, places_of, row_of, tuples_of}
use Rattle.definitions.specs.Problem.Actions.{Action, set}
use Rattle.definitions.specs.Problem.Built.{chosen_numbers, is_picked, picked_rows, set_steps}
use Rattle.laws.specs.Lists.{below_lt, filter_mem, flat_mem, map_flat, map_map, map_mem, mem_below, mem_filter, mem_flat, mem_map}
use Rattle.laws.specs.Tuples.{among_mem, mem_among}
use Rattle.laws.specs.Repeats.{Once, once_below, once_filter, once_flat, once_map}
use Rattle.laws.specs.Rows.{places_row, row_lt}
use Rattle.laws.specs.SetRows.{row_set}
use Rattle.laws.specs.Numbers.{IsAction}
use Rattle.meaning.specs.Means.{Good}
use Rattle.meaning.specs.Valid.{pair_of}
use Rattle.meaning.specs.Sound.{tup, tuple_at, Inside, OfKinds, same_row}

abbrev pub Pair : Type 0
Pair = ℕ × ℕ

abbrev pub set_of : Pair → Action
set_of q = set q.0 q.1

abbrev pub tuple_of : Problem → Pair → Tuple
tuple_of p q = tuple_at p q.0 q.1

-- a `choose` and the row of one of its tuples
unfoldable pub IsPair : Problem → Pair → Type 0
IsPair p q = (q.0 < length p.relations) × T (is_chosen (relation_at p q.0).kind) × (q.1 < tuples_of p.size (relation_at p q.0))

-- one of picks that are of their kinds has a set action
pub pair_action : (p : Problem) (G : Good p) (F : List Tuple) → OfKinds p G F → (q : Pair) → IsPair p q → Memᴰ (tuple_of p q) F → IsAction p (set_of q)
unfolding IsPair IsAction
pair_action p G F K q v m = (
  v.0,
  v.1,
  row_set p.size p.range (relation_at p q.0) q.1 v.1 v.2
      (λ f. K.typed q.0 (q.1 / p.size) (q.1 % p.size) f (subst (λ (xs : List ℕ). Memᴰ (tup q.0 xs) F) (pair_of p G q.0 q.1 v.0 v.2 f).0 m)),
)

-- each is such a pair, and its tuple among F
abbrev pub PairsReady : Problem → List Tuple → List Pair → Type 0
PairsReady p F l = (q : Pair) → Memᴰ q l → IsPair p q × Memᴰ (tuple_of p q) F

unfoldable pub pairs : Problem → List Tuple → List Pair
pairs p F = flat_map (λ r. map (λ row. (r, row)) (picked_rows p F r)) (chosen_numbers p)

module _ (p : Problem) (F : List Tuple) where
  pub sets_are : set_steps p F ≡ map set_of (pairs p F)
  unfolding set_steps pairs
  sets_are = sym (map_flat set_of (λ r. map (λ row. (r, row)) (picked_rows p F r)) (chosen_numbers p) ∙ ap (λ (f : ℕ → List Action). flat_map f (chosen_numbers p)) (fun_ext (λ r. map_map set_of (λ row. (r, row)) (picked_rows p F r))))

  pub pairs_once : Once (pairs p F)
  unfolding pairs picked_rows chosen_numbers
  pairs_once = once_flat (λ r. map (λ row. (r, row)) (picked_rows p F r)) (λ q. q.0) (chosen_numbers p)
      (λ r. once_map (λ row. (r, row)) (picked_rows p F r) (λ x y mx my e. ap (λ (q : Pair). q.1) e) (once_filter (is_picked p F r) (below (tuples_of p.size (relation_at p r))) (once_below (tuples_of p.size (relation_at p r)))))
      (λ r q m. let (row, mr, e) = map_mem (λ row. (r, row)) (picked_rows p F r) q m in ap (λ (u : Pair). u.0) e)
      (once_filter (λ r. is_chosen (relation_at p r).kind) (below (length p.relations)) (once_below (length p.relations)))

  pub pairs_ready : PairsReady p F (pairs p F)
  unfolding pairs picked_rows chosen_numbers is_picked IsPair
  pairs_ready q m =
      let (r, mr, mq) = flat_mem (λ r. map (λ row. (r, row)) (picked_rows p F r)) (chosen_numbers p) q m in
      let (row, mw, e) = map_mem (λ row. (r, row)) (picked_rows p F r) q mq in
      let a = filter_mem (λ r. is_chosen (relation_at p r).kind) (below (length p.relations)) r mr in
      let b = filter_mem (is_picked p F r) (below (tuples_of p.size (relation_at p r))) row mw in
      subst (λ (u : Pair). IsPair p u × Memᴰ (tuple_of p u) F) (sym e)
      ((below_lt (length p.relations) r a.0, a.1, below_lt (tuples_of p.size (relation_at p r)) row b.0), among_mem (tuple_at p r row) F b.1)

  pub picked_in : (t : Tuple) → Memᴰ t (map (tuple_of p) (pairs p F)) → Memᴰ t F
  picked_in t m = let (q, mq, e) = map_mem (tuple_of p) (pairs p F) t m in subst (λ (u : Tuple). Memᴰ u F) (sym e) (pairs_ready q mq).1

module _ (p : Problem) (G : Good p) where
  -- a pick's pair
  pub tuple_back : (t : Tuple) → Inside p G t → tuple_at p t.relation (row_of p.size t.places) ≡ t
  tuple_back t i = ap (tup t.relation) (ap (λ (k : ℕ). places_of p.size k (row_of p.size t.places)) (sym i.long) ∙ places_row p.size t.places G.element i.small)

  -- and its row
  pub tuple_row : (t : Tuple) → Inside p G t → row_of p.size t.places < tuples_of p.size (relation_at p t.relation)
  unfolding tuples_of
  tuple_row t i = subst (λ (k : ℕ). row_of p.size t.places < p.size ^ k) i.long (row_lt p.size t.places i.small)

  pub tuple_pair : (t : Tuple) → Inside p G t → IsPair p (t.relation, row_of p.size t.places)
  unfolding IsPair
  tuple_pair t i = (i.known, i.chosen, tuple_row t i)

  pub tuples_once : (F : List Tuple) → Once (map (tuple_of p) (pairs p F))
  unfolding IsPair
  tuples_once F = once_map (tuple_of p) (pairs p F) (λ a b ma mb e. let v = pairs_ready p F a ma in let w = pairs_ready p F b mb in let j = same_row p G b.0 b.1 a.0 a.1 w.0.2 v.0.2 e in ap₂ (λ (x y : ℕ). (x, y)) j.0 j.1) (pairs_once p F)

  module _ (F : List Tuple) (I : (t : Tuple) → Memᴰ t F → Inside p G t) where
    pub mem_pairs : (t : Tuple) → Memᴰ t F → Memᴰ (t.relation, row_of p.size t.places) (pairs p F)
    unfolding pairs picked_rows chosen_numbers is_picked
    mem_pairs t m =
        let i = I t m in
        mem_flat (λ r. map (λ row. (r, row)) (picked_rows p F r)) (chosen_numbers p) t.relation _
        (mem_filter (λ r. is_chosen (relation_at p r).kind) (below (length p.relations)) t.relation (mem_below (length p.relations) t.relation i.known) i.chosen)
        (mem_map (λ row. (t.relation, row)) (picked_rows p F t.relation) (row_of p.size t.places)
        (mem_filter (is_picked p F t.relation) (below (tuples_of p.size (relation_at p t.relation))) (row_of p.size t.places)
        (mem_below (tuples_of p.size (relation_at p t.relation)) (row_of p.size t.places) (tuple_row t i))
        (mem_among (tuple_at p t.relation (row_of p.size t.places)) F (subst (λ (u : Tuple). Memᴰ u F) (sym (tuple_back t i)) m))))

    pub in_picked : (t : Tuple) → Memᴰ t F → Memᴰ t (map (tuple_of p) (pairs p F))
    in_picked t m = subst (λ (u : Tuple). Memᴰ u (map (tuple_of p) (pairs p F))) (tuple_back t (I t m)) (mem_map (tuple_of p) (pairs p F) (t.relation, row_of p.size t.places) (mem_pairs t m))
