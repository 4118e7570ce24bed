-- The first action that the code finds for an atom of a node is the one that `step_now` says.
use Prim.Native.Nat.{ℕ, zero, suc, ◌+◌, ◌-◌, ◌*◌, ◌/◌, ◌%◌, ◌^◌, ◌<◌, ◌≤◌}
use Rattle.std.specs.Prelude.{◌≡◌, Bool, true, false, List, length, get_or, if◌then◌else◌}
use Rattle.std.proofs.Math.Path.{refl, sym, ap, ap₂, subst}
use Rattle.std.proofs.Common.{subst₂, ◌∙◌, div-lt_iff_lt-mul, mul-le-mul}
use Rattle.std.proofs.Math.Option.{none, some}
use native.Mathlib.Omega.{arith}
use Rattle.definitions.specs.Lists.{all, option, position, from, below, is_in, rank}
use Rattle.definitions.specs.Problem.Tree.{Tree, leaf, forall_node, exists_node, and_node, or_node, parts, is_forall, node_sort}
use Rattle.definitions.specs.Problem.Atoms.{Problem, State, node_at, rows_of, node_width}
use Rattle.definitions.specs.Problem.Actions.{Action, choices, prove_node, proof_start, proof_number, range_at, action_number}
use Rattle.definitions.specs.Problem.Strips.{may_take}
use Rattle.laws.specs.Booleans.{T_of}
use Rattle.laws.specs.Lists.{get_or_mem}
use Rattle.laws.specs.Members.{ascending_once, in_mem, rank_lt, rank_select}
use Rattle.laws.specs.Numbers.{IsAction}
use Rattle.rule_nodes.specs.Tables.{node_kind}
use Rattle.problem_table.specs.Lines.{node_place, size_in, node_line, range_in, Fits}
use Rattle.problem_table.specs.declared.NodeLine.{NodeLine}
use Rattle.problem_table.specs.Numbers.{need_numbers}
use Rattle.problem_table.specs.Of.{Is, said}
use Rattle.problem_table.specs.OfLaws.{parts_length}
use Rattle.problem_table.proofs.Needs.{may_is}
use Rattle.problem_table.specs.declared.Act.{Act}
use Rattle.meaning.specs.Planning.{row_in, first_try, tries, try_at, step_now}
use Rattle.step_prove.specs.Tries.{Way, act_by, way_by, way_at, first_from}
use Rattle.step_prove.specs.TryLaws.{first_same}

-- ---- the first that passes
first_le : (f : ℕ → Bool) (k a : ℕ) → a ≤ first_from f a k
unfolding first_from
first_le f zero a = omega arith
first_le f (suc k) a = by_test (f a) (first_le f k (suc a))
  where
    by_test : (b : Bool) → suc a ≤ first_from f (suc a) k → a ≤ (if b then a else first_from f (suc a) k)
    by_test true h = omega arith
    by_test false h = omega arith

pub found : (f : ℕ → Bool) (k a : ℕ) → first_from f a k < a + k → position f (from a k) ≡ some (first_from f a k - a)
unfolding first_from position from option
found f zero a h = absurd (omega arith)
found f (suc k) a h = by_test (f a) h (found f k (suc a)) (first_le f k (suc a))
  where
    by_test : (b : Bool) → (if b then a else first_from f (suc a) k) < a + suc k → (first_from f (suc a) k < suc a + k → position f (from (suc a) k) ≡ some (first_from f (suc a) k - suc a)) → suc a ≤ first_from f (suc a) k
        → (if b then some zero else option (position f (from (suc a) k)) none (λ i. some (suc i))) ≡ some ((if b then a else first_from f (suc a) k) - a)
    by_test true h r l = let e : a - a ≡ 0 = omega arith in ap some (sym e)
    by_test false h r l = let e : suc (first_from f (suc a) k - suc a) ≡ first_from f (suc a) k - a = omega arith in rw (r (omega arith)) (ap some e)

pub lost : (f : ℕ → Bool) (k a : ℕ) → a + k ≤ first_from f a k → position f (from a k) ≡ none
unfolding first_from position from option
lost f zero a h = refl
lost f (suc k) a h = by_test (f a) h (lost f k (suc a))
  where
    by_test : (b : Bool) → a + suc k ≤ (if b then a else first_from f (suc a) k) → (suc a + k ≤ first_from f (suc a) k → position f (from (suc a) k) ≡ none)
        → (if b then some zero else option (position f (from (suc a) k)) none (λ i. some (suc i))) ≡ none
    by_test true h r = absurd (omega arith)
    by_test false h r = rw (r (omega arith))

-- ---- the way by the table
module _ (n : ℕ) (R : ℕ → List ℕ) (v j : ℕ) where
  pub record WayIs (t : Tree) (w : Way) : Type 0 where
    pub row : w.row ≡ row_in n t j
    pub base : w.base ≡ first_try n R t j
    pub tries : w.tries ≡ tries n R t j
    pub choices : w.choices ≡ choices R t

  -- the members are those of a quantifier's range
  abbrev Ranges : Tree → List ℕ → Type 0
  Ranges t ms = node_kind t < 2 → ms ≡ R (node_sort t)

  way_is : (t : Tree) (ms : List ℕ) → Ranges t ms → WayIs t (way_by n (node_kind t) (length (parts v t)) ms j)
  unfolding way_by node_kind row_in first_try tries choices is_forall node_sort parts
  way_is (leaf q r ls) ms e = record { row = refl; base = refl; tries = refl; choices = refl }
  way_is (forall_node d σ t) ms e = rw (e (omega arith)) (record { row = refl; base = refl; tries = refl; choices = refl })
  way_is (exists_node d σ t) ms e = rw (e (omega arith)) (record { row = refl; base = refl; tries = refl; choices = refl })
  way_is (and_node ts) ms e = record { row = refl; base = refl; tries = refl; choices = refl }
  way_is (or_node ts) ms e = record { row = refl; base = refl; tries = parts_length (suc v) ts; choices = parts_length (suc v) ts }

  act_is : (t : Tree) (ms : List ℕ) → Ranges t ms → (row i : ℕ) → i < choices R t → act_by (node_kind t) ms v row i ≡ said (prove_node R t v row i)
  unfolding act_by node_kind said prove_node choices node_sort
  act_is (leaf q r ls) ms e row i h = absurd (omega arith)
  act_is (forall_node d σ t) ms e row i h = rw (e (omega arith)) refl
  act_is (exists_node d σ t) ms e row i h = rw (e (omega arith)) refl
  act_is (and_node ts) ms e row i h = refl
  act_is (or_node ts) ms e row i h = refl

-- a try is one of the node's choices
try_lt : (n : ℕ) (R : ℕ → List ℕ) (t : Tree) (j i : ℕ) → i < tries n R t j → first_try n R t j + i < choices R t
unfolding tries first_try choices is_forall node_sort
try_lt n R (leaf q r ls) j i k = absurd (omega arith)
try_lt n R (forall_node d σ u) j i k = by_range (is_in (j % n) (R σ)) refl k
  where
    by_range : (b : Bool) → is_in (j % n) (R σ) ≡ b → i < (if b then 1 else zero) → rank (R σ) (j % n) + i < length (R σ)
    by_range true e k = let l = rank_lt (R σ) (j % n) (in_mem (j % n) (R σ) (T_of e)) in omega arith
    by_range false e k = absurd (omega arith)
try_lt n R (exists_node d σ u) j i k = omega arith
try_lt n R (and_node ts) j i k = omega arith
try_lt n R (or_node ts) j i k = omega arith

-- ---- the actions of an atom
module _ (p : Problem) (w : List ℕ) (is : Is p w) (v : ℕ) (l : v < length p.node_list) (j : ℕ) where
  abbrev tries_at : Tree → ℕ
  tries_at t = tries p.size p.range t j

  abbrev try_of : Tree → ℕ → Action
  try_of t i = try_at p.size p.range v t j i

  abbrev first_of : Tree → ℕ
  first_of t = first_try p.size p.range t j

  try_is : (t : Tree) → node_at p v ≡ t → j < node_width p.size t → (i : ℕ) → i < tries_at t → IsAction p (try_of t i)
  unfolding try_at row_in is_forall choices prove_node node_width IsAction
  try_is (leaf q r ls) e h i k = let b = try_lt p.size p.range (leaf q r ls) j i k in absurd (omega arith)
  try_is (forall_node d σ u) e h i k =
      (l, subst (λ (t : Tree). j / p.size < rows_of p.size t) (sym e) ((div-lt_iff_lt-mul is.element).1 h), (d, σ, u, e, get_or_mem (p.range σ) (first_of (forall_node d σ u) + i) 0 (try_lt p.size p.range (forall_node d σ u) j i k)))
  try_is (exists_node d σ u) e h i k =
      (l, subst (λ (t : Tree). j < rows_of p.size t) (sym e) h, (d, σ, u, e, get_or_mem (p.range σ) (first_of (exists_node d σ u) + i) 0 (try_lt p.size p.range (exists_node d σ u) j i k)))
  try_is (and_node ts) e h i k = (l, subst (λ (t : Tree). j < rows_of p.size t) (sym e) h, (ts, e))
  try_is (or_node ts) e h i k = (l, subst (λ (t : Tree). j < rows_of p.size t) (sym e) h, (ts, e, try_lt p.size p.range (or_node ts) j i k))

  -- the place of an element in a quantifier's range
  place_is : (σ i : ℕ) → node_sort (node_at p v) ≡ σ → i < length (p.range σ) → rank (range_at p v) (get_or (p.range σ) i 0) ≡ i
  unfolding range_at
  place_is σ i e h = ap (λ (s : ℕ). rank (p.range s) (get_or (p.range σ) i 0)) e ∙ rank_select (p.range σ) i (ascending_once (p.range σ) (is.ranges σ).ascends) h

  try_number : (t : Tree) → node_at p v ≡ t → (i : ℕ) → i < tries_at t → action_number p (try_of t i) ≡ proof_start p v + row_in p.size t j * choices p.range t + (first_of t + i)
  unfolding try_at row_in is_forall choices prove_node action_number proof_number node_sort
  try_number (leaf q r ls) e i k = let b = try_lt p.size p.range (leaf q r ls) j i k in absurd (omega arith)
  try_number (forall_node d σ u) e i k =
      ap₂ (λ (t : Tree) (x : ℕ). proof_start p v + j / p.size * choices p.range t + x) e (place_is σ (first_of (forall_node d σ u) + i) (ap node_sort e) (try_lt p.size p.range (forall_node d σ u) j i k))
  try_number (exists_node d σ u) e i k =
      ap₂ (λ (t : Tree) (x : ℕ). proof_start p v + j * choices p.range t + x) e (place_is σ (first_of (exists_node d σ u) + i) (ap node_sort e) (try_lt p.size p.range (exists_node d σ u) j i k))
  try_number (and_node ts) e i k =
      let b = try_lt p.size p.range (and_node ts) j i k in
      let q : 0 ≡ first_of (and_node ts) + i = omega arith in
      ap₂ (λ (t : Tree) (x : ℕ). proof_start p v + j * choices p.range t + x) e q
  try_number (or_node ts) e i k = ap (λ (t : Tree). proof_start p v + j * choices p.range t + (first_of (or_node ts) + i)) e

  abbrev members : List ℕ
  members = range_in w (node_line w v)

  abbrev way : Way
  way = way_at w (node_line w v) j

  here : WayIs p.size p.range v j (node_at p v) way
  here = subst (λ (x : Way). WayIs p.size p.range v j (node_at p v) x)
      (ap (λ (n : ℕ). way_by n (node_kind (node_at p v)) (length (parts v (node_at p v))) members j) (sym is.size) ∙ ap₂ (λ (k m : ℕ). way_by (size_in w) k m members j) (sym (is.node v l).kind) (sym (is.node v l).many))
      (way_is p.size p.range v j (node_at p v) members (is.node v l).range)

  act_said : (i : ℕ) → i < tries_at (node_at p v) → act_by (node_line w v).kind members v way.row (way.base + i) ≡ said (try_of (node_at p v) i)
  unfolding try_at
  act_said i k =
      ap (λ (x : ℕ). act_by x members v way.row (way.base + i)) (is.node v l).kind ∙ ap₂ (λ (x y : ℕ). act_by (node_kind (node_at p v)) members v x (y + i)) here.row here.base
      ∙ act_is p.size p.range v j (node_at p v) members (is.node v l).range (row_in p.size (node_at p v) j) (first_of (node_at p v) + i) (try_lt p.size p.range (node_at p v) j i k)

  -- what the code tests of a state, and finds
  module _ (s : State) (h : j < node_width p.size (node_at p v)) where
    abbrev passes : ℕ → Bool
    passes i = all s (need_numbers w (act_by (node_line w v).kind members v way.row (way.base + i)))

    abbrev may : ℕ → Bool
    may i = may_take p s (try_of (node_at p v) i)

    same : first_from passes 0 way.tries ≡ first_from may 0 (tries_at (node_at p v))
    same = ap (first_from passes 0) here.tries ∙ first_same passes may (tries_at (node_at p v)) 0 (λ i k.
        let q : i < tries_at (node_at p v) = k in
        let e : 0 + i < tries_at (node_at p v) = omega arith in
        ap (λ (a : Act). all s (need_numbers w a)) (act_said (0 + i) e) ∙ may_is p w is s (try_of (node_at p v) (0 + i)) (try_is (node_at p v) refl h (0 + i) e))

    -- by a node's line x and a way y
    pub record FoundRow (x : NodeLine) (y : Way) (r : ℕ) : Type 0 where
      pub action : Action
      pub valid : IsAction p action
      pub step : step_now p s v (node_at p v) j ≡ some action
      pub says : act_by x.kind (range_in w x) v y.row (y.base + r) ≡ said action
      pub number : x.acts + y.row * y.choices + (y.base + r) ≡ action_number p action

    abbrev First : NodeLine → Way → ℕ → Type 0
    First x y r = r ≡ first_from (λ i. all s (need_numbers w (act_by x.kind (range_in w x) v y.row (y.base + i)))) 0 y.tries

    found_here : (r : ℕ) → First (node_line w v) way r → r < way.tries → FoundRow (node_line w v) way r
    unfolding step_now below option
    found_here r e k =
        let m : r < tries_at (node_at p v) = subst (λ (x : ℕ). r < x) here.tries k in
        let q : r ≡ first_from may 0 (tries_at (node_at p v)) = e ∙ same in
        let z : first_from may 0 (tries_at (node_at p v)) - 0 ≡ r = omega arith in
        record {
          action = try_of (node_at p v) r;
          valid = try_is (node_at p v) refl h r m;
          step = rw (found may (tries_at (node_at p v)) 0 (omega arith)) (ap (λ (x : ℕ). some (try_of (node_at p v) x)) z);
          says = act_said r m;
          number =
              ap (λ (a : ℕ). a + way.row * way.choices + (way.base + r)) (is.acts v (omega arith)) ∙ ap₂ (λ (x y : ℕ). proof_start p v + x + (y + r)) (ap₂ ◌*◌ here.row here.choices) here.base
              ∙ sym (try_number (node_at p v) refl r m);
        }

    lost_here : (r : ℕ) → First (node_line w v) way r → way.tries ≤ r → step_now p s v (node_at p v) j ≡ none
    unfolding step_now below option
    lost_here r e k =
        let t = here.tries in
        let q : r ≡ first_from may 0 (tries_at (node_at p v)) = e ∙ same in
        rw (lost may (tries_at (node_at p v)) 0 (omega arith))

    -- the line and the way as the code has them
    module _ (x : NodeLine) (y : Way) (ex : x ≡ node_line w v) (ey : y ≡ way_at w x j) where
      way_here : y ≡ way
      way_here = ey ∙ ap (λ (z : NodeLine). way_at w z j) ex

      pub row_found : (r : ℕ) → First x y r → r < y.tries → FoundRow x y r
      row_found = subst₂ (λ (x : NodeLine) (y : Way). (r : ℕ) → First x y r → r < y.tries → FoundRow x y r) (sym ex) (sym way_here) found_here

      pub row_lost : (r : ℕ) → First x y r → y.tries ≤ r → step_now p s v (node_at p v) j ≡ none
      row_lost = subst₂ (λ (x : NodeLine) (y : Way). (r : ℕ) → First x y r → y.tries ≤ r → step_now p s v (node_at p v) j ≡ none) (sym ex) (sym way_here) lost_here

-- ---- a `forall` has no action at an element out of its range

-- ---- what keeps numbers in range
pub acts_small : (w : List ℕ) (node : ℕ) → Fits w → (x : NodeLine) → x ≡ node_line w node → x.acts ≤ 2 ^ 32
unfolding node_line
acts_small w node F x e = rw e (F.entry (node_place node))

-- the number of an action fits
pub row_wide : (a b c : ℕ) → a ≤ 2 ^ 32 → b ≤ 2 ^ 11 → c ≤ 2 ^ 11 → a * b + c < 2 ^ 63
row_wide a b c h k l = omega (arith, mul-le-mul h k)
