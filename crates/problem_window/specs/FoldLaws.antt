-- One turn of the loops over parts and nodes, and that the numbers are those of the problem's window.
use Rattle.std.specs.Prelude.{◌≡◌, Bool, set, take, drop, replicate, if◌then◌else◌}
use Rattle.std.proofs.Math.Path.{refl, sym, ap, ap₂}
use Rattle.std.proofs.Common.{subst, ◌∙◌, add-one, length-drop, get_or-drop, take-suc, length-take-le, lt-ltb, le-ltb, eq-eqb, ne_eqb}
use Rattle.std.proofs.Math.Bool.{true, false}
use mathlib.Core.List.{List, [], ◌∷◌, ◌++◌, map}
use Prim.Native.Nat.{ℕ, zero, suc, ◌+◌, ◌-◌, ◌*◌, ◌<◌, ◌≤◌, max, min}
use Rattle.std.proofs.Math.Decide.{ℕ_discrete}
use Rattle.std.proofs.Math.Nat.{max-le, min-le_right, max-zero}
use native.Mathlib.Omega.{arith}
use Rattle.std.proofs.Math.Dec.{eqb, ltb}
use Rattle.std.proofs.Math.ListN.{length, get_or, length-set, length-replicate}
use Rattle.std.proofs.lemmas.List.{length-map}
use Rattle.std.proofs.Math.Seq.{get_or-set_same, get_or-set_other}
use Rattle.definitions.specs.Problem.Tree.{Tree, Trees, leaf, forall_node, exists_node, and_node, or_node, end, ◌then◌, Part, parts_from, parts, nodes, node_sort}
use Rattle.definitions.specs.Problem.Atoms.{Problem, node_at}
use Rattle.definitions.specs.Reply.Layers.{Window, most, fewest, wider, window, windows, case_window}
use Rattle.laws.specs.Lists.{map_map, zeros_at}
use Rattle.meaning.specs.Parts.{Here, HereAll, IsNode, under_forall, under_exists, parts_and, parts_or, head_here, tail_here, node_at_lem}
use Rattle.meaning.specs.Means.{Good, here_at, is_node}
use Rattle.rule_nodes.specs.Bounds.{in_parts}
use Rattle.rule_nodes.specs.Tables.{Head, head_from, head_of, head_in, no_node, no_part, Fits, node_kind}
use Rattle.rule_nodes.specs.declared.PartRow.{PartRow}
use Rattle.rule_nodes.specs.declared.Nodes.{Nodes}
use Rattle.rows.specs.Values.{Most}
use Rattle.problem_layout.specs.declared.Relations.{Relations}
use Rattle.problem_layout.specs.declared.Ranges.{Ranges}
use Rattle.problem_layout.specs.Laid.{Inputs, RangesAre, count_at}
use Rattle.problem_layout.specs.StartsAre.{count_is, node_is, count_of}
use Rattle.problem_window.specs.Folds.{lower_by, upper_by, part_gives, greatest_in, least_in, low_row, high_row, numbers_after, lows_after, highs_after}

-- ---- the small functions
pub gives_literal : (tag known : ℕ) → tag < 2 → 0 ≡ (if ltb tag 2 then 0 else known)
gives_literal tag known h = rw (lt-ltb tag 2 h) refl

pub gives_node : (tag known : ℕ) → 2 ≤ tag → known ≡ (if ltb tag 2 then 0 else known)
gives_node tag known h = rw (le-ltb tag 2 h) refl

pub lesser_first : (before a b : ℕ) → before ≡ 0 → b ≡ (if eqb before 0 then b else min a b)
lesser_first before a b e = rw (eq-eqb before 0 e) refl

pub lesser_next : (before a b : ℕ) → (before ≡ 0 → ⊥) → min a b ≡ (if eqb before 0 then b else min a b)
lesser_next before a b n = rw (ne_eqb before 0 n) refl

pub lower_forall : (kind count least greatest : ℕ) → kind ≡ 0 → count + greatest ≡ lower_by kind count least greatest
unfolding lower_by
lower_forall kind count least greatest e = rw e refl

pub lower_other : (kind count least greatest : ℕ) → (kind ≡ 0 → ⊥) → kind < 3 → 1 + greatest ≡ lower_by kind count least greatest
unfolding lower_by
lower_other zero count least greatest n h = absurd (n refl)
lower_other (suc zero) count least greatest n h = refl
lower_other (suc (suc zero)) count least greatest n h = refl
lower_other (suc (suc (suc k))) count least greatest n h = absurd (omega arith)

pub lower_or : (kind count least greatest : ℕ) → 3 ≤ kind → 1 + least ≡ lower_by kind count least greatest
unfolding lower_by
lower_or zero count least greatest h = absurd (omega arith)
lower_or (suc zero) count least greatest h = absurd (omega arith)
lower_or (suc (suc zero)) count least greatest h = absurd (omega arith)
lower_or (suc (suc (suc k))) count least greatest h = refl

pub upper_forall : (kind count greatest : ℕ) → kind ≡ 0 → count + greatest ≡ upper_by kind count greatest
unfolding upper_by
upper_forall kind count greatest e = rw e refl

pub upper_other : (kind count greatest : ℕ) → (kind ≡ 0 → ⊥) → 1 + greatest ≡ upper_by kind count greatest
unfolding upper_by
upper_other zero count greatest n = absurd (n refl)
upper_other (suc k) count greatest n = refl

-- ---- turns over parts
module _ (ps : List PartRow) (known : List ℕ) (first : ℕ) where
  pub greatest_none : 0 ≡ greatest_in ps known first 0
  unfolding greatest_in
  greatest_none = refl

  pub least_none : 0 ≡ least_in ps known first 0
  unfolding least_in
  least_none = refl

  greatest_suc : (k : ℕ) → greatest_in ps known first (suc k) ≡ max (greatest_in ps known first k) (part_gives known (get_or ps (first + k) no_part))
  unfolding greatest_in
  greatest_suc k = refl

  least_suc : (k : ℕ) → least_in ps known first (suc k)
      ≡ (if eqb k 0 then part_gives known (get_or ps (first + k) no_part) else min (least_in ps known first k) (part_gives known (get_or ps (first + k) no_part)))
  unfolding least_in
  least_suc k = refl

  -- a part is looked at: it stands at first + k
  gives_is : (k which x : ℕ) → which ≡ (get_or ps (first + k) no_part).which → x ≡ (if ltb (get_or ps (first + k) no_part).tag 2 then 0 else get_or known which 0)
      → x ≡ part_gives known (get_or ps (first + k) no_part)
  unfolding part_gives
  gives_is k which x w e = e ∙ ap (λ (u : ℕ). if ltb (get_or ps (first + k) no_part).tag 2 then 0 else get_or known u 0) w

  pub greatest_next : (k which x low now : ℕ) → low ≡ greatest_in ps known first k → which ≡ (get_or ps (first + k) no_part).which
      → x ≡ (if ltb (get_or ps (first + k) no_part).tag 2 then 0 else get_or known which 0) → now ≡ max low x → now ≡ greatest_in ps known first (k + 1)
  greatest_next k which x low now e w q r = r ∙ ap₂ max e (gives_is k which x w q) ∙ sym (greatest_suc k) ∙ ap (greatest_in ps known first) (sym (add-one k))

  pub least_next : (k which x least now : ℕ) → least ≡ least_in ps known first k → which ≡ (get_or ps (first + k) no_part).which
      → x ≡ (if ltb (get_or ps (first + k) no_part).tag 2 then 0 else get_or known which 0) → now ≡ (if eqb k 0 then x else min least x)
      → now ≡ least_in ps known first (k + 1)
  least_next k which x least now e w q r =
      r ∙ ap₂ (λ (a b : ℕ). if eqb k 0 then b else min a b) e (gives_is k which x w q) ∙ sym (least_suc k) ∙ ap (least_in ps known first) (sym (add-one k))

  -- no number is above those that are known
  gives_most : (b : ℕ) → Most known b → (q : PartRow) → part_gives known q ≤ b
  unfolding part_gives
  gives_most b m q = by_test (ltb q.tag 2)
    where
      by_test : (c : Bool) → (if c then 0 else get_or known q.which 0) ≤ b
      by_test true = omega arith
      by_test false = m q.which

  pub greatest_most : (b k : ℕ) → Most known b → greatest_in ps known first k ≤ b
  greatest_most b zero m = omega (arith, greatest_none)
  greatest_most b (suc k) m = omega (arith, greatest_suc k, max-le (greatest_most b k m) (gives_most b m (get_or ps (first + k) no_part)))

  pub least_most : (b k : ℕ) → Most known b → least_in ps known first k ≤ b
  least_most b zero m = omega (arith, least_none)
  least_most b (suc k) m = subst (λ (x : ℕ). x ≤ b) (sym (least_suc k)) (by_test (eqb k 0))
    where
      by_test : (c : Bool)
          → (if c then part_gives known (get_or ps (first + k) no_part) else min (least_in ps known first k) (part_gives known (get_or ps (first + k) no_part))) ≤ b
      by_test true = gives_most b m (get_or ps (first + k) no_part)
      by_test false =
          omega (arith, min-le_right (least_in ps known first k) (part_gives known (get_or ps (first + k) no_part)), gives_most b m (get_or ps (first + k) no_part))

-- ---- turns over nodes
module _ (f : List ℕ → ℕ → ℕ) (count : ℕ) where
  pub numbers_length : (d : ℕ) → length (numbers_after f count d) ≡ 64
  unfolding numbers_after
  numbers_length zero = length-replicate {A = ℕ} 64 0
  numbers_length (suc d) = length-set (numbers_after f count d) _ _ ∙ numbers_length d

  pub numbers_first : replicate 64 0 ≡ numbers_after f count 0
  unfolding numbers_after
  numbers_first = refl

  numbers_suc : (d : ℕ) → numbers_after f count (suc d) ≡ set (numbers_after f count d) (count - suc d) (f (numbers_after f count d) (count - suc d))
  unfolding numbers_after
  numbers_suc d = refl

  numbers_next : (d v x : ℕ) (known : List ℕ) → v ≡ count - (d + 1) → known ≡ numbers_after f count d → x ≡ f known v
      → set known v x ≡ numbers_after f count (d + 1)
  numbers_next d v x known ev e q =
      let a : v ≡ count - suc d = ev ∙ ap (λ (y : ℕ). count - y) (add-one d) in
      ap (set known v) q ∙ ap₂ (λ (m : List ℕ) (u : ℕ). set m u (f m u)) e a ∙ sym (numbers_suc d) ∙ ap (numbers_after f count) (sym (add-one d))

  -- each node has at most 64 more than what is known
  pub numbers_most : count ≤ 64 → ((known : List ℕ) (v b : ℕ) → Most known b → f known v ≤ 64 + b) → (d : ℕ) → Most (numbers_after f count d) (64 * d)
  unfolding numbers_after
  numbers_most few h zero i = omega (arith, zeros_at 64 i)
  numbers_most few h (suc d) i = from_this (ℕ_discrete i (count - suc d)) (numbers_most few h d)
    where
      from_this : Dec (i ≡ count - suc d) → Most (numbers_after f count d) (64 * d)
          → get_or (set (numbers_after f count d) (count - suc d) (f (numbers_after f count d) (count - suc d))) i 0 ≤ 64 * suc d
      from_this (yes e) m =
          let k = numbers_length d in
          let q : get_or (set (numbers_after f count d) (count - suc d) (f (numbers_after f count d) (count - suc d))) i 0 ≡ f (numbers_after f count d)
          (count - suc d)
          = ap (λ (j : ℕ). get_or (set (numbers_after f count d) (count - suc d) (f (numbers_after f count d) (count - suc d))) j 0) e
          ∙ get_or-set_same (numbers_after f count d) (count - suc d) (f (numbers_after f count d) (count - suc d)) 0 (omega arith) in
          omega (arith, h (numbers_after f count d) (count - suc d) (64 * d) m)
      from_this (no e) m = omega (arith, get_or-set_other (numbers_after f count d) (count - suc d) i (f (numbers_after f count d) (count - suc d)) 0 e, m i)

  -- what holds of every node's number, once those of the nodes after it are right
  pub numbers_right : count ≤ 64 → (right : ℕ → ℕ)
      → ((v : ℕ) (known : List ℕ) → v < count → ((u : ℕ) → suc v ≤ u → u < count → get_or known u 0 ≡ right u) → f known v ≡ right v)
      → (d : ℕ) → d ≤ count → (u : ℕ) → count - d ≤ u → u < count → get_or (numbers_after f count d) u 0 ≡ right u
  numbers_right few right h zero l u a b = absurd (omega arith)
  numbers_right few right h (suc d) l u a b =
      ap (λ (m : List ℕ). get_or m u 0) (numbers_suc d) ∙ from_this (ℕ_discrete u (count - suc d)) (numbers_right few right h d (omega arith))
    where
      from_this : Dec (u ≡ count - suc d) → ((u : ℕ) → count - d ≤ u → u < count → get_or (numbers_after f count d) u 0 ≡ right u)
          → get_or (set (numbers_after f count d) (count - suc d) (f (numbers_after f count d) (count - suc d))) u 0 ≡ right u
      from_this (yes e) m =
          let k = numbers_length d in
          rw e (get_or-set_same (numbers_after f count d) (count - suc d) _ 0 (omega arith) ∙ h (count - suc d) (numbers_after f count d) (omega arith)
          (λ w x y. m w (omega arith) y))
      from_this (no e) m = get_or-set_other (numbers_after f count d) (count - suc d) u _ 0 e ∙ m u (omega arith) b

-- a node is done: it is node v, its parts begin at `first`, its sort has `many` elements
module _ (t : Nodes) (counts : List ℕ) where
  pub lows_next : (d v kind c first many least low x : ℕ) (known : List ℕ) → v ≡ t.count - (d + 1) → kind ≡ (get_or t.rows v no_node).kind
      → c ≡ count_at counts t v
      → first ≡ (get_or t.rows v no_node).first → many ≡ (get_or t.rows v no_node).many → known ≡ lows_after t counts d
      → least ≡ least_in t.parts known first many → low ≡ greatest_in t.parts known first many → x ≡ lower_by kind c least low
      → set known v x ≡ lows_after t counts (d + 1)
  unfolding low_row
  lows_next d v kind c first many least low x known ev ek ec ef em e el eg ex = numbers_next (low_row t counts) t.count d v x known ev e
      (ex ∙ ap₂ (λ (k y : ℕ). lower_by k y least low) ek ec ∙ ap₂ (lower_by (get_or t.rows v no_node).kind (count_at counts t v))
      (el ∙ ap₂ (least_in t.parts known) ef em) (eg ∙ ap₂ (greatest_in t.parts known) ef em))

  pub highs_next : (d v kind c first many high x : ℕ) (known : List ℕ) → v ≡ t.count - (d + 1) → kind ≡ (get_or t.rows v no_node).kind → c ≡ count_at counts t v
      → first ≡ (get_or t.rows v no_node).first → many ≡ (get_or t.rows v no_node).many → known ≡ highs_after t counts d
      → high ≡ greatest_in t.parts known first many → x ≡ upper_by kind c high → set known v x ≡ highs_after t counts (d + 1)
  unfolding high_row
  highs_next d v kind c first many high x known ev ek ec ef em e eg ex = numbers_next (high_row t counts) t.count d v x known ev e
      (ex ∙ ap₂ (λ (k y : ℕ). upper_by k y high) ek ec ∙ ap (upper_by (get_or t.rows v no_node).kind (count_at counts t v))
      (eg ∙ ap₂ (greatest_in t.parts known) ef em))

  -- no number is large
  by_most : (kind c least greatest b : ℕ) → c ≤ 64 → least ≤ b → greatest ≤ b → (lower_by kind c least greatest ≤ 64 + b) × (upper_by kind c greatest ≤ 64 + b)
  unfolding lower_by upper_by
  by_most zero c least greatest b h l g = (omega arith, omega arith)
  by_most (suc zero) c least greatest b h l g = (omega arith, omega arith)
  by_most (suc (suc zero)) c least greatest b h l g = (omega arith, omega arith)
  by_most (suc (suc (suc k))) c least greatest b h l g = (omega arith, omega arith)

  pub lows_most : Most counts 64 → t.count ≤ 64 → (d : ℕ) → Most (lows_after t counts d) (64 * d)
  unfolding low_row
  lows_most m few = numbers_most (low_row t counts) t.count few (λ known v b h. (by_most (get_or t.rows v no_node).kind (count_at counts t v)
      (least_in t.parts known (get_or t.rows v no_node).first (get_or t.rows v no_node).many)
      (greatest_in t.parts known (get_or t.rows v no_node).first (get_or t.rows v no_node).many) b
      (m (get_or t.rows v no_node).sort) (least_most t.parts known (get_or t.rows v no_node).first b (get_or t.rows v no_node).many h)
      (greatest_most t.parts known (get_or t.rows v no_node).first b (get_or t.rows v no_node).many h)).0)

  pub highs_most : Most counts 64 → t.count ≤ 64 → (d : ℕ) → Most (highs_after t counts d) (64 * d)
  unfolding high_row
  highs_most m few = numbers_most (high_row t counts) t.count few (λ known v b h. (by_most (get_or t.rows v no_node).kind (count_at counts t v)
      0 (greatest_in t.parts known (get_or t.rows v no_node).first (get_or t.rows v no_node).many) b
      (m (get_or t.rows v no_node).sort) (omega arith)
      (greatest_most t.parts known (get_or t.rows v no_node).first b (get_or t.rows v no_node).many h)).1)

  module _ (m : Most counts 64) (few : t.count ≤ 64) (d : ℕ) (h : d ≤ t.count) (known : List ℕ) where
    pub lows_small : known ≡ lows_after t counts d → Most known 4096
    lows_small e i = let q = ap (λ (l : List ℕ). get_or l i 0) e in omega (arith, lows_most m few d i)

    pub highs_small : known ≡ highs_after t counts d → Most known 4096
    highs_small e i = let q = ap (λ (l : List ℕ). get_or l i 0) e in omega (arith, highs_most m few d i)

-- ---- the folds as those of a list
most_snoc : (l : List ℕ) (x : ℕ) → most (l ++ (x ∷ [])) ≡ max (most l) x
unfolding most
most_snoc [] x = omega arith
most_snoc (y ∷ l) x = let e = most_snoc l x in omega arith

later : (k a b : ℕ) → (if eqb (suc k) 0 then a else b) ≡ b
later k a b = rw (ne_eqb (suc k) 0 (omega arith)) refl

fewest_snoc : (l : List ℕ) (x : ℕ) → fewest (l ++ (x ∷ [])) ≡ (if eqb (length l) 0 then x else min (fewest l) x)
unfolding fewest
fewest_snoc [] x = refl
fewest_snoc (y ∷ []) x = refl
fewest_snoc (y ∷ z ∷ l) x =
    let e : fewest ((z ∷ l) ++ (x ∷ [])) ≡ min (fewest (z ∷ l)) x = fewest_snoc (z ∷ l) x ∙ later (length l) x (min (fewest (z ∷ l)) x) in
    let f : min y (fewest ((z ∷ l) ++ (x ∷ []))) ≡ min (min y (fewest (z ∷ l))) x = omega arith in
    f ∙ sym (later (suc (length l)) x (min (min y (fewest (z ∷ l))) x))

module _ (ps : List PartRow) (known : List ℕ) (first : ℕ) where
  abbrev given : ℕ → List ℕ
  given k = map (part_gives known) (take k (drop first ps))

  given_suc : (k : ℕ) → first + suc k ≤ length ps → given (suc k) ≡ given k ++ (part_gives known (get_or ps (first + k) no_part) ∷ [])
  given_suc k h =
      let l : k < length (drop first ps) = (let e = length-drop first ps in omega arith) in
      ap (map (part_gives known)) (take-suc (drop first ps) k no_part l) ∙ map_snoc (take k (drop first ps)) (get_or (drop first ps) k no_part)
      ∙ ap (λ (q : PartRow). given k ++ (part_gives known q ∷ [])) (get_or-drop first ps k no_part)
    where
      map_snoc : (l : List PartRow) (q : PartRow) → map (part_gives known) (l ++ (q ∷ [])) ≡ map (part_gives known) l ++ (part_gives known q ∷ [])
      map_snoc [] q = refl
      map_snoc (r ∷ l) q = ap (◌∷◌ (part_gives known r)) (map_snoc l q)

  given_length : (k : ℕ) → first + k ≤ length ps → length (given k) ≡ k
  given_length k h = length-map (take k (drop first ps)) (part_gives known) ∙ length-take-le k (drop first ps) (omega (arith, length-drop first ps))

  greatest_list : (k : ℕ) → first + k ≤ length ps → greatest_in ps known first k ≡ most (given k)
  unfolding most
  greatest_list zero h = sym (greatest_none ps known first)
  greatest_list (suc k) h =
      greatest_suc ps known first k ∙ ap (λ (x : ℕ). max x (part_gives known (get_or ps (first + k) no_part))) (greatest_list k (omega arith))
      ∙ sym (most_snoc (given k) _) ∙ ap most (sym (given_suc k h))

  least_list : (k : ℕ) → first + k ≤ length ps → least_in ps known first k ≡ fewest (given k)
  unfolding fewest
  least_list zero h = sym (least_none ps known first)
  least_list (suc k) h = least_suc ps known first k
      ∙ ap₂ (λ (j x : ℕ). if eqb j 0 then part_gives known (get_or ps (first + k) no_part) else min x (part_gives known (get_or ps (first + k) no_part)))
      (sym (given_length k (omega arith))) (least_list k (omega arith))
      ∙ sym (fewest_snoc (given k) (part_gives known (get_or ps (first + k) no_part))) ∙ ap fewest (sym (given_suc k h))

-- of a head alone
unfoldable head_gives : List ℕ → Head → ℕ
head_gives known h = if ltb h.tag 2 then 0 else get_or known h.which 0

heads_give : (known : List ℕ) (l : List PartRow) → map (part_gives known) l ≡ map (head_gives known) (map head_in l)
unfolding part_gives head_gives
heads_give known [] = refl
heads_give known (q ∷ l) = ap (◌∷◌ (part_gives known q)) (heads_give known l)

-- ---- the numbers are right
module _ (p : Problem) (G : Good p) (ws : List ℕ) (types : ℕ) (ranges : Ranges) (ra : RangesAre p.size ws types ranges) (g : Relations) (t : Nodes)
    (is : Inputs p p.size ws types g t) (fits : Fits t) where
  module _ (f : Window → ℕ) (none : f (record { lower = 0; upper = 0 }) ≡ 0) where
    abbrev number : Tree → ℕ
    number s = f (window p.range s)

    -- every node from v on has its number
    abbrev Numbered : ℕ → List ℕ → Type 0
    Numbered v known = (u : ℕ) → v ≤ u → u < t.count → get_or known u 0 ≡ number (node_at p u)

    at_number : (v u : ℕ) (s : Tree) (known : List ℕ) → Numbered v known → v ≤ u → Here p u s → IsNode p s → get_or known u 0 ≡ number s
    at_number v u s known m h here is_node = let (e, l) = node_at_lem p u s here is_node in m u h (omega (arith, count_is p ws types g t is)) ∙ ap number e

    head_right : (v u : ℕ) (s : Tree) (known : List ℕ) → Numbered v known → v ≤ u → Here p u s → head_gives known (head_from u s) ≡ number s
    unfolding head_gives head_from window IsNode
    head_right v u (leaf true k ls) known m h here = sym none
    head_right v u (leaf false k ls) known m h here = sym none
    head_right v u (forall_node d σ s) known m h here = at_number v u (forall_node d σ s) known m h here tt
    head_right v u (exists_node d σ s) known m h here = at_number v u (exists_node d σ s) known m h here tt
    head_right v u (and_node ts) known m h here = at_number v u (and_node ts) known m h here tt
    head_right v u (or_node ts) known m h here = at_number v u (or_node ts) known m h here tt

    heads_right : (v u : ℕ) (ts : Trees) (known : List ℕ) → Numbered v known → v ≤ u → HereAll p u ts
        → map (λ (q : Part). head_gives known (head_of q)) (parts_from u ts) ≡ map f (windows p.range ts)
    unfolding parts_from windows
    heads_right v u end known m h here = refl
    heads_right v u (s then ts) known m h here =
        ap₂ ◌∷◌ (head_right v u s known m h (head_here p u s ts here)) (heads_right v (u + length (nodes s)) ts known m (omega arith) (tail_here p u s ts here))

    -- what the parts of a node give
    unfoldable part_numbers : Tree → List ℕ
    part_numbers (leaf q r ls) = []
    part_numbers (forall_node d σ s) = number s ∷ []
    part_numbers (exists_node d σ s) = number s ∷ []
    part_numbers (and_node ts) = map f (windows p.range ts)
    part_numbers (or_node ts) = map f (windows p.range ts)

    parts_right : (v : ℕ) (s : Tree) (known : List ℕ) → Numbered (suc v) known → Here p v s
        → map (λ (q : Part). head_gives known (head_of q)) (parts v s) ≡ part_numbers s
    unfolding parts part_numbers
    parts_right v (leaf b k ls) known m here = refl
    parts_right v (forall_node d σ s) known m here = ap (λ (x : ℕ). x ∷ []) (head_right (suc v) (suc v) s known m (omega arith) (under_forall p v d σ s here))
    parts_right v (exists_node d σ s) known m here = ap (λ (x : ℕ). x ∷ []) (head_right (suc v) (suc v) s known m (omega arith) (under_exists p v d σ s here))
    parts_right v (and_node ts) known m here = heads_right (suc v) (suc v) ts known m (omega arith) (parts_and p v ts here)
    parts_right v (or_node ts) known m here = heads_right (suc v) (suc v) ts known m (omega arith) (parts_or p v ts here)

    row_given : (v : ℕ) → v < t.count → (known : List ℕ) → Numbered (suc v) known
        → map (part_gives known) (take (get_or t.rows v no_node).many (drop (get_or t.rows v no_node).first t.parts)) ≡ part_numbers (node_at p v)
    row_given v h known m =
        let l : v < length p.node_list = omega (arith, count_is p ws types g t is) in
        heads_give known (take (get_or t.rows v no_node).many (drop (get_or t.rows v no_node).first t.parts))
        ∙ ap (map (head_gives known)) (node_is p ws types g t is v h).parts
        ∙ map_map (head_gives known) head_of (parts v (node_at p v))
        ∙ parts_right v (node_at p v) known m (here_at p G v l)

  lower_right : (c : ℕ) (s : Tree) → IsNode p s → c ≡ length (p.range (node_sort s))
      → lower_by (node_kind s) c (fewest (part_numbers (λ (w : Window). w.lower) refl s)) (most (part_numbers (λ (w : Window). w.lower) refl s))
      ≡ (window p.range s).lower
  unfolding lower_by node_kind part_numbers most fewest window wider node_sort IsNode
  lower_right c (leaf q r ls) n e = absurd n
  lower_right c (forall_node d σ s) n e = ap₂ ◌+◌ e (max-zero (window p.range s).lower)
  lower_right c (exists_node d σ s) n e = ap (λ (x : ℕ). 1 + x) (max-zero (window p.range s).lower)
  lower_right c (and_node ts) n e = refl
  lower_right c (or_node ts) n e = refl

  upper_right : (c : ℕ) (s : Tree) → IsNode p s → c ≡ length (p.range (node_sort s))
      → upper_by (node_kind s) c (most (part_numbers (λ (w : Window). w.upper) refl s)) ≡ (window p.range s).upper
  unfolding upper_by node_kind part_numbers most window wider node_sort IsNode
  upper_right c (leaf q r ls) n e = absurd n
  upper_right c (forall_node d σ s) n e = ap₂ ◌+◌ e (max-zero (window p.range s).upper)
  upper_right c (exists_node d σ s) n e = ap (λ (x : ℕ). 1 + x) (max-zero (window p.range s).upper)
  upper_right c (and_node ts) n e = refl
  upper_right c (or_node ts) n e = refl

  low_right : (v : ℕ) (known : List ℕ) → v < t.count → ((u : ℕ) → suc v ≤ u → u < t.count → get_or known u 0 ≡ (window p.range (node_at p u)).lower)
      → low_row t ranges.count known v ≡ (window p.range (node_at p v)).lower
  unfolding low_row
  low_right v known h m =
      let e = row_given (λ (w : Window). w.lower) refl v h known m in
      let b = in_parts t fits v in
      ap₂ (lower_by (get_or t.rows v no_node).kind (count_at ranges.count t v))
      (least_list t.parts known (get_or t.rows v no_node).first (get_or t.rows v no_node).many b ∙ ap fewest e)
      (greatest_list t.parts known (get_or t.rows v no_node).first (get_or t.rows v no_node).many b ∙ ap most e)
      ∙ ap (λ (k : ℕ). lower_by k (count_at ranges.count t v) (fewest (part_numbers (λ (w : Window). w.lower) refl (node_at p v)))
      (most (part_numbers (λ (w : Window). w.lower) refl (node_at p v)))) (node_is p ws types g t is v h).kind
      ∙ lower_right (count_at ranges.count t v) (node_at p v) (is_node p G v (omega (arith, count_is p ws types g t is)))
      (count_of p ws types g t is ranges ra v h)

  high_right : (v : ℕ) (known : List ℕ) → v < t.count → ((u : ℕ) → suc v ≤ u → u < t.count → get_or known u 0 ≡ (window p.range (node_at p u)).upper)
      → high_row t ranges.count known v ≡ (window p.range (node_at p v)).upper
  unfolding high_row
  high_right v known h m =
      let e = row_given (λ (w : Window). w.upper) refl v h known m in
      let b = in_parts t fits v in
      ap (upper_by (get_or t.rows v no_node).kind (count_at ranges.count t v))
      (greatest_list t.parts known (get_or t.rows v no_node).first (get_or t.rows v no_node).many b ∙ ap most e)
      ∙ ap (λ (k : ℕ). upper_by k (count_at ranges.count t v) (most (part_numbers (λ (w : Window). w.upper) refl (node_at p v))))
      (node_is p ws types g t is v h).kind
      ∙ upper_right (count_at ranges.count t v) (node_at p v) (is_node p G v (omega (arith, count_is p ws types g t is)))
      (count_of p ws types g t is ranges ra v h)

  -- the root is node 0
  windowed_here : (get_or (lows_after t ranges.count t.count) 0 0 + 2 ≡ (case_window p).lower)
      × (get_or (highs_after t ranges.count t.count) 0 0 + 3 ≡ (case_window p).upper)
  unfolding case_window
  windowed_here =
      let (e, l) = node_at_lem p 0 p.root G.root_here G.root_node in
      let h : 0 < t.count = omega (arith, count_is p ws types g t is) in
      let a =
      numbers_right (low_row t ranges.count) t.count fits.few (λ u. (window p.range (node_at p u)).lower) low_right t.count (omega arith) 0
      (omega arith) h in
      let b =
      numbers_right (high_row t ranges.count) t.count fits.few (λ u. (window p.range (node_at p u)).upper) high_right t.count (omega arith) 0
      (omega arith) h in
      (ap (λ (x : ℕ). x + 2) (a ∙ ap (λ (s : Tree). (window p.range s).lower) e), ap (λ (x : ℕ). x + 3) (b ∙ ap (λ (s : Tree). (window p.range s).upper) e))

pub windowed : (n : ℕ) (ranges : Ranges) (t : Nodes) → Fits t → (p : Problem) (ws : List ℕ) (types : ℕ) (g : Relations) → Good p → RangesAre n ws types ranges
    → Inputs p n ws types g t
    → (get_or (lows_after t ranges.count t.count) 0 0 + 2 ≡ (case_window p).lower)
    × (get_or (highs_after t ranges.count t.count) 0 0 + 3 ≡ (case_window p).upper)
windowed n ranges t f p ws types g G ra is =
    windowed_here p G ws types ranges (subst (λ (m : ℕ). RangesAre m ws types ranges) is.size ra) g t
    (subst (λ (m : ℕ). Inputs p m ws types g t) is.size is) f
