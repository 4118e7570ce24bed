-- The true node atoms in the order of their steps. Each step proves its own, and the entries of a node's levels follow one another.
use Prim.Native.Nat.{ℕ, zero, suc, ◌+◌, ◌-◌, ◌<◌, ◌≤◌}
use Rattle.std.specs.Prelude.{◌≡◌, Bool, true, false, ◌&&◌, take, if◌then◌else◌}
use Rattle.std.proofs.Math.Path.{refl, sym, ap, ap₂, subst}
use Rattle.std.proofs.Common.{◌∙◌, div-add-mod'}
use Rattle.std.proofs.Math.Logic.{⊎_elim}
use Rattle.std.proofs.Math.Option.{Option, none, some}
use mathlib.Core.List.Memᴰ
use mathlib.Core.List.{List, [], ◌∷◌, ◌++◌, map, Memᴰ}
use native.Mathlib.Omega.{arith}
use Rattle.std.proofs.Math.Dec.{T}
use borrow.Author.Tests.{le-leb}
use Rattle.std.proofs.Math.ListN.{length, get_or, length-append, length-map, get_or-append}
use Rattle.std.proofs.Math.Seq.{get_or-append-add}
use Rattle.definitions.specs.Lists.{filter, from, below, option, position}
use Rattle.definitions.specs.Sheet.Relations.{Tuple}
use Rattle.definitions.specs.Problem.Tree.{Tree, leaf, forall_node, exists_node, and_node, or_node}
use Rattle.definitions.specs.Problem.Atoms.{Problem, node_at, node_width, node_start, holds_node, atom_number}
use Rattle.definitions.specs.Problem.Actions.{Action, action_number, adds}
use Rattle.definitions.specs.Problem.Strips.{may_take}
use Rattle.definitions.specs.Problem.Built.{is_true_at, step_for, node_steps}
use Rattle.laws.specs.Booleans.{T_true}
use Rattle.laws.specs.Lists.{map_map, map_mem, filter_mem, from_mem, none_some, some_eq, get_or_below, length_below}
use Rattle.laws.specs.Numbers.{IsAction, IsAtom, node_next}
use Rattle.laws.specs.Reader.{Holds, position_holds}
use Rattle.laws.specs.Repeats.{Once, once_append, once_filter, once_from, once_map}
use Rattle.meaning.specs.Means.{Good}
use Rattle.meaning.specs.Deciding.{is_proof_atom, says}
use Rattle.meaning.specs.Planning.{nodes_from, when, step_now, step_now_lem, steps_next, try_at, tries}
use Rattle.bits.specs.Table.{bit, num}
use Rattle.step_write.specs.Steps.{Readable, node_numbers}
use Rattle.step_place.specs.declared.Region.{Region}
use Rattle.step_place.specs.Slots.{slot_in}
use Rattle.step_place.specs.Raising.{IsProof, Proves, Grounds, slot_next}

pub record Place : Type 0 where
  pub node : ℕ
  pub row : ℕ

abbrev pub place_of : ℕ → ℕ → Place
place_of v j = record { node = v; row = j }

unfoldable pub places : Problem → List Tuple → ℕ → List Place
places p F zero = []
places p F (suc v) = map (place_of v) (filter (is_true_at p F (node_at p v)) (from zero (node_width p.size (node_at p v)))) ++ places p F v

unfoldable pub step_at : Problem → List Tuple → Place → Action
step_at p F q = step_for p F q.node (node_at p q.node) q.row

unfoldable pub own_at : Problem → Place → ℕ
own_at p q = node_start p q.node + q.row

pub own_is : (p : Problem) (v j : ℕ) → own_at p (place_of v j) ≡ node_start p v + j
unfolding own_at
own_is p v j = refl

map_app : {A B : Type 0} (f : A → B) (l m : List A) → map f (l ++ m) ≡ map f l ++ map f m
map_app f [] m = refl
map_app {A} {B} f (x ∷ l) m = ap (λ (r : List B). f x ∷ r) (map_app f l m)

-- what is placed at q
pub record Inside (p : Problem) (F : List Tuple) (k : ℕ) (q : Place) : Type 0 where
  pub node_in_lem : q.node < k
  pub row_in : q.row < node_width p.size (node_at p q.node)
  pub is_true : T (is_true_at p F (node_at p q.node) q.row)

module _ (p : Problem) (G : Good p) (F : List Tuple) where
  pub steps_are : (k : ℕ) → k ≤ length p.node_list → map (step_at p F) (places p F k) ≡ node_steps p F zero (take k p.node_list)
  unfolding places node_steps step_at
  steps_are zero h = refl
  steps_are (suc v) h =
      map_app (step_at p F) (map (place_of v) (filter (is_true_at p F (node_at p v)) (from zero (node_width p.size (node_at p v))))) (places p F v)
      ∙ ap₂ ◌++◌ (map_map (step_at p F) (place_of v) (filter (is_true_at p F (node_at p v)) (from zero (node_width p.size (node_at p v))))) (steps_are v (omega arith))
      ∙ sym (steps_next p G F v (omega arith))

  pub numbers_are : (k : ℕ) → k ≤ length p.node_list → map (λ q. action_number p (step_at p F q)) (places p F k) ≡ node_numbers p F k
  unfolding node_numbers
  numbers_are k h = sym (map_map (action_number p) (step_at p F) (places p F k)) ∙ ap (map (action_number p)) (steps_are k h)

  pub place_in : (k : ℕ) (q : Place) → Memᴰ q (places p F k) → Inside p F k q
  unfolding places
  place_in zero q m = absurd (Memᴰ.not-nil m)
  place_in (suc v) q m = ⊎_elim
      (λ l. let (j, i, e) = map_mem (place_of v) (filter (is_true_at p F (node_at p v)) (from zero (node_width p.size (node_at p v)))) q l in
      let (f, t) = filter_mem (is_true_at p F (node_at p v)) (from zero (node_width p.size (node_at p v))) j i in
      let u = from_mem (node_width p.size (node_at p v)) zero j f in
      subst (Inside p F (suc v)) (sym e) (record { node_in_lem = omega arith; row_in = omega arith; is_true = t }))
      (λ l. let I = place_in v q l in record { node_in_lem = omega (arith, I.node_in_lem); row_in = I.row_in; is_true = I.is_true })
      (Memᴰ.append_cases (map (place_of v) (filter (is_true_at p F (node_at p v)) (from zero (node_width p.size (node_at p v))))) m)

  -- the atoms of a node lie after those of the nodes before it
  start_up : (d v : ℕ) → v + d ≤ length p.node_list → node_start p v ≤ node_start p (v + d)
  start_up zero v h = let e : node_start p (v + 0) ≡ node_start p v = ap (node_start p) (omega arith) in omega arith
  start_up (suc d) v h =
      let a = start_up d v (omega arith) in
      let b = node_next p (v + d) (omega arith) in
      let e : node_start p (v + suc d) ≡ node_start p (suc (v + d)) = ap (node_start p) (omega arith) in
      omega arith

  pub start_mono : (v k : ℕ) → v ≤ k → k ≤ length p.node_list → node_start p v ≤ node_start p k
  start_mono v k h l = let e : node_start p (v + (k - v)) ≡ node_start p k = ap (node_start p) (omega arith) in omega (arith, start_up (k - v) v (omega arith))

  pub own_in : (k : ℕ) (q : Place) → k ≤ length p.node_list → Inside p F k q → (node_start p 0 ≤ own_at p q) × (own_at p q < node_start p k)
  unfolding own_at
  own_in k q h I =
      let a = start_mono 0 q.node (omega arith) (omega (arith, I.node_in_lem)) in
      let b = start_mono (suc q.node) k (omega (arith, I.node_in_lem)) h in
      let c = node_next p q.node (omega (arith, I.node_in_lem)) in
      (omega arith, omega (arith, I.row_in))

  -- no atom is proved twice
  pub owns_once : (k : ℕ) → k ≤ length p.node_list → Once (map (own_at p) (places p F k))
  unfolding places own_at Once
  owns_once zero h = tt
  owns_once (suc v) h =
      let rows : List ℕ = filter (is_true_at p F (node_at p v)) (from zero (node_width p.size (node_at p v))) in
      let e : map (own_at p) (places p F (suc v)) ≡ map (λ j. node_start p v + j) rows ++ map (own_at p) (places p F v)
      = map_app (own_at p) (map (place_of v) rows) (places p F v) ∙ ap (λ (l : List ℕ). l ++ map (own_at p) (places p F v)) (map_map (own_at p) (place_of v) rows) in
      subst Once (sym e) (once_append (map (λ j. node_start p v + j) rows) (map (own_at p) (places p F v))
      (once_map (λ j. node_start p v + j) rows (λ x y a b q. omega arith) (once_filter (is_true_at p F (node_at p v)) (from zero (node_width p.size (node_at p v))) (once_from (node_width p.size (node_at p v)) zero)))
      (owns_once v (omega arith))
      (λ x a b. let (j, i, f) = map_mem (λ j. node_start p v + j) rows x a in let (q, n, g) = map_mem (own_at p) (places p F v) x b in
      let c = own_in v q (omega arith) (place_in v q n) in omega (arith, c.1)))

  -- ---- a true atom's step proves it
  is_proof : (v : ℕ) (t : Tree) (j : ℕ) → T (is_true_at p F t j) → IsProof (step_for p F v t j)
  unfolding IsProof step_for is_true_at
  is_proof v (leaf q r ls) j t = absurd t
  is_proof v (forall_node d s u) j t = tt
  is_proof v (exists_node d s u) j t = tt
  is_proof v (and_node ts) j t = tt
  is_proof v (or_node ts) j t = tt

  adds_own : (v : ℕ) (t : Tree) (j : ℕ) → T (is_true_at p F t j) → map (atom_number p) (adds p (step_for p F v t j)) ≡ (node_start p v + j) ∷ []
  unfolding step_for is_true_at adds atom_number
  adds_own v (leaf q r ls) j t = absurd t
  adds_own v (forall_node d s u) j t = ap (λ (k : ℕ). (node_start p v + k) ∷ []) (div-add-mod' j p.size)
  adds_own v (exists_node d s u) j t = refl
  adds_own v (and_node ts) j t = refl
  adds_own v (or_node ts) j t = refl

  module _ (w st : List ℕ) (Rd : Readable p G F w (bit st)) where
    pub bit_is : (v : ℕ) → v < length p.node_list → (j : ℕ) → j < node_width p.size (node_at p v) → bit st (node_start p v + j) ≡ is_true_at p F (node_at p v) j
    unfolding IsAtom is_proof_atom says atom_number
    bit_is v l j h = Rd.known (holds_node v j) (l, h) tt ∙ ap (λ (b : Bool). b && is_true_at p F (node_at p v) j) (le-leb 0 v (omega arith))

    may_now : (v : ℕ) → v < length p.node_list → (j : ℕ) → j < node_width p.size (node_at p v) → T (is_true_at p F (node_at p v) j) → T (may_take p (bit st) (step_for p F v (node_at p v) j))
    unfolding step_now when Holds option
    may_now v l j h t =
        let e : step_now p (bit st) v (node_at p v) j ≡ some (step_for p F v (node_at p v) j) = step_now_lem p G F (nodes_from p G F zero) (bit st) Rd.known v l (λ u row _. le-leb 0 u (omega arith)) (node_at p v) refl j h (λ i _. le-leb 0 v (omega arith)) ∙ ap (λ (b : Bool). when b (step_for p F v (node_at p v) j)) (T_true (is_true_at p F (node_at p v) j) t) in
        by_place (position (λ i. may_take p (bit st) (try_at p.size p.range v (node_at p v) j i)) (below (tries p.size p.range (node_at p v) j))) (position_holds (λ i. may_take p (bit st) (try_at p.size p.range v (node_at p v) j i)) (below (tries p.size p.range (node_at p v) j)) 0) e
      where
        by_place : (o : Option ℕ) → Holds (λ i. (i < length (below (tries p.size p.range (node_at p v) j))) × T (may_take p (bit st) (try_at p.size p.range v (node_at p v) j (get_or (below (tries p.size p.range (node_at p v) j)) i 0)))) o
            → option o none (λ i. some (try_at p.size p.range v (node_at p v) j i)) ≡ some (step_for p F v (node_at p v) j) → T (may_take p (bit st) (step_for p F v (node_at p v) j))
        by_place none h e = absurd (none_some e)
        by_place (some i) h e =
            let n : get_or (below (tries p.size p.range (node_at p v) j)) i 0 ≡ i = get_or_below (tries p.size p.range (node_at p v) j) i (subst (λ (k : ℕ). i < k) (length_below (tries p.size p.range (node_at p v) j)) h.0) in
            subst (λ (a : Action). T (may_take p (bit st) a)) (ap (try_at p.size p.range v (node_at p v) j) n ∙ some_eq e) h.1

    pub step_proves : (q : Place) → Memᴰ q (places p F (length p.node_list)) → IsAction p (step_at p F q) → Proves p (bit st) (step_at p F q) (own_at p q)
    unfolding step_at own_at
    step_proves q m v =
        let I = place_in (length p.node_list) q m in
        let b = own_in (length p.node_list) q (omega arith) I in
        record {
          valid = v;
          proof_is = is_proof q.node (node_at p q.node) q.row I.is_true;
          may = may_now q.node I.node_in_lem q.row I.row_in I.is_true;
          own_is = adds_own q.node (node_at p q.node) q.row I.is_true;
          holds = bit_is q.node I.node_in_lem q.row I.row_in ∙ T_true _ I.is_true;
          low = b.0;
          high = b.1;
        }

    -- ---- the entries of a node's levels follow one another
    module _ (sums : List ℕ) (g : Region) (R : Grounds p w st sums g) (v : ℕ) (l : v < length p.node_list) where
      pub slots_follow : (m a : ℕ) → a + m ≤ node_width p.size (node_at p v)
          → map (λ j. slot_in st sums g (node_start p v + j)) (filter (is_true_at p F (node_at p v)) (from a m)) ≡ from (slot_in st sums g (node_start p v + a)) (length (filter (is_true_at p F (node_at p v)) (from a m)))
      unfolding from filter
      slots_follow zero a h = refl
      slots_follow (suc m) a h =
          let low = start_mono 0 v (omega arith) (omega arith) in
          let high = start_mono (suc v) (length p.node_list) (omega arith) (omega arith) in
          let next = node_next p v l in
          let s = slot_next p w st sums g R (node_start p v + a) (omega arith) (omega arith) in
          let b = bit_is v l a (omega arith) in
          let k : slot_in st sums g (node_start p v + suc a) ≡ slot_in st sums g (suc (node_start p v + a)) = ap (slot_in st sums g) (omega arith) in
          by_test (is_true_at p F (node_at p v) a) (k ∙ s ∙ ap (λ (t : Bool). slot_in st sums g (node_start p v + a) + num t) b) (slots_follow m (suc a) (omega arith))
        where
          rest : List ℕ
          rest = filter (is_true_at p F (node_at p v)) (from (suc a) m)

          by_test : (t : Bool) → slot_in st sums g (node_start p v + suc a) ≡ slot_in st sums g (node_start p v + a) + num t
              → map (λ j. slot_in st sums g (node_start p v + j)) (filter (is_true_at p F (node_at p v)) (from (suc a) m)) ≡ from (slot_in st sums g (node_start p v + suc a)) (length (filter (is_true_at p F (node_at p v)) (from (suc a) m)))
              → map (λ j. slot_in st sums g (node_start p v + j)) (if t then a ∷ filter (is_true_at p F (node_at p v)) (from (suc a) m) else filter (is_true_at p F (node_at p v)) (from (suc a) m)) ≡ from (slot_in st sums g (node_start p v + a)) (length (if t then a ∷ filter (is_true_at p F (node_at p v)) (from (suc a) m) else filter (is_true_at p F (node_at p v)) (from (suc a) m)))
          by_test true e r =
              let q : slot_in st sums g (node_start p v + suc a) ≡ suc (slot_in st sums g (node_start p v + a)) = omega arith in
              ap (λ (x : List ℕ). slot_in st sums g (node_start p v + a) ∷ x) (r ∙ ap (λ (x : ℕ). from x (length (filter (is_true_at p F (node_at p v)) (from (suc a) m)))) q)
          by_test false e r =
              let q : slot_in st sums g (node_start p v + suc a) ≡ slot_in st sums g (node_start p v + a) = omega arith in
              r ∙ ap (λ (x : ℕ). from x (length (filter (is_true_at p F (node_at p v)) (from (suc a) m)))) q

-- ---- where the places of a node stand among all
pub mapped_at : {A B : Type 0} (f : A → B) (l : List A) (i : ℕ) (d : A) (e : B) → i < length l → get_or (map f l) i e ≡ f (get_or l i d)
mapped_at f [] i d e h = absurd (omega arith)
mapped_at f (x ∷ l) zero d e h = refl
mapped_at f (x ∷ l) (suc i) d e h = mapped_at f l i d e (omega arith)

abbrev pub nowhere : Place
nowhere = record { node = 0; row = 0 }

module _ (p : Problem) (F : List Tuple) where
  abbrev pub rows_of : ℕ → List ℕ
  rows_of v = filter (is_true_at p F (node_at p v)) (from zero (node_width p.size (node_at p v)))

  pub places_more : (v : ℕ) → length (places p F (suc v)) ≡ length (filter (is_true_at p F (node_at p v)) (from zero (node_width p.size (node_at p v)))) + length (places p F v)
  unfolding places
  places_more v = length-append (map (place_of v) (rows_of v)) (places p F v) ∙ ap (λ (n : ℕ). n + length (places p F v)) (length-map (rows_of v) (place_of v))

  pub places_few : (d v : ℕ) → length (places p F v) ≤ length (places p F (v + d))
  places_few zero v = let q : v + 0 ≡ v = omega arith in let e : length (places p F (v + 0)) ≡ length (places p F v) = ap (λ (k : ℕ). length (places p F k)) q in omega arith
  places_few (suc d) v =
      let a = places_few d v in
      let b = places_more (v + d) in
      let q : v + suc d ≡ suc (v + d) = omega arith in
      let e : length (places p F (v + suc d)) ≡ length (places p F (suc (v + d))) = ap (λ (k : ℕ). length (places p F k)) q in
      omega arith

  -- the places of the first nodes are the last ones
  pub last_places : (d v c : ℕ) → get_or (places p F (v + d)) (length (places p F (v + d)) - length (places p F v) + c) nowhere ≡ get_or (places p F v) c nowhere
  unfolding places
  last_places zero v c =
      let a : v + 0 ≡ v = omega arith in
      let e : length (places p F v) - length (places p F v) + c ≡ c = omega arith in
      ap (λ (k : ℕ). get_or (places p F k) (length (places p F k) - length (places p F v) + c) nowhere) a ∙ ap (λ (i : ℕ). get_or (places p F v) i nowhere) e
  last_places (suc d) v c =
      let a : v + suc d ≡ suc (v + d) = omega arith in
      let m = places_more (v + d) in
      let s = places_few d v in
      let n : length (map (place_of (v + d)) (rows_of (v + d))) ≡ length (rows_of (v + d)) = length-map (rows_of (v + d)) (place_of (v + d)) in
      let e : length (places p F (suc (v + d))) - length (places p F v) + c ≡ length (map (place_of (v + d)) (rows_of (v + d))) + (length (places p F (v + d)) - length (places p F v) + c) = omega arith in
      ap (λ (k : ℕ). get_or (places p F k) (length (places p F k) - length (places p F v) + c) nowhere) a
      ∙ ap (λ (i : ℕ). get_or (places p F (suc (v + d))) i nowhere) e
      ∙ get_or-append-add (map (place_of (v + d)) (rows_of (v + d))) (places p F (v + d)) (length (places p F (v + d)) - length (places p F v) + c) nowhere
      ∙ last_places d v c

  pub place_at : (v c : ℕ) → v < length p.node_list → c < length (rows_of v) → get_or (places p F (length p.node_list)) (length (places p F (length p.node_list)) - length (places p F (suc v)) + c) nowhere ≡ place_of v (get_or (rows_of v) c 0)
  unfolding places
  place_at v c h l =
      let a : suc v + (length p.node_list - suc v) ≡ length p.node_list = omega arith in
      let n : length (map (place_of v) (rows_of v)) ≡ length (rows_of v) = length-map (rows_of v) (place_of v) in
      ap (λ (k : ℕ). get_or (places p F k) (length (places p F k) - length (places p F (suc v)) + c) nowhere) (sym a)
      ∙ last_places (length p.node_list - suc v) (suc v) c
      ∙ get_or-append (map (place_of v) (rows_of v)) (places p F v) nowhere c (omega arith)
      ∙ mapped_at (place_of v) (rows_of v) c 0 nowhere l
