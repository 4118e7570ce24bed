-- The search step by step: where it stands, what is known there, and what each step adds.
use Rattle.std.specs.Prelude.{ℕ, zero, suc, ◌+◌, ◌-◌, ◌*◌, ◌/◌, ◌%◌, ◌^◌, ◌<◌, ◌≤◌, refl, Bool, List, [], ◌∷◌, ltb, length, get_or, set, if◌then◌else◌}
use Rattle.std.proofs.Math.Path.{◌≡◌, sym, ap, ap₂}
use Rattle.std.proofs.Common.{subst, ◌∙◌, arith, pow-suc, div-one, mul_assoc, mul_comm, add-mul, div-add-mod', mod-lt, mul-le-mul, mul-le-mul_right, pow_pos, pow_mono, pow-add, get_or-set_same, get_or-set_other, lt-ltb, ltb-true, ltb-false}
use Rattle.std.proofs.Math.Bool.{true, false, ◌&&◌}
use Rattle.std.proofs.Math.Option.{none, some}
use Rattle.std.proofs.Math.Decide.{ℕ_discrete}
use Rattle.std.proofs.Math.Nat.{pow-zero, div-div-eq-div-mul}
use Rattle.std.proofs.Math.Arith.{digits_div}
use Rattle.definitions.specs.Sheet.Relations.{Tuple}
use Rattle.definitions.specs.Problem.Truth.{Case, are_of_kinds, rule_is_true}
use Rattle.definitions.specs.Problem.Atoms.{problem_of}
use Rattle.definitions.specs.Reply.Finding.{cells, numbered, meets, least_number}
use Rattle.bits.specs.Table.{digit}
use Rattle.bits.proofs.Laws.{one_shl}
use Rattle.laws.specs.Booleans.{T_of}
use Rattle.laws.specs.Reader.{Accepted}
use Rattle.problem_table.specs.Of.{Is}
use Rattle.problem_relations.specs.Bare.{bare}
use Rattle.step_start.specs.Initial.{FactsIn}
use Rattle.eval_valuations.specs.Words.{full, spread_of}
use Rattle.eval_valuations.specs.Laws.{spread_digit}
use Rattle.eval_table.specs.Numbers.{LinesOf}
use Rattle.eval_search.specs.Lanes.{NextLane}
use Rattle.eval_search.specs.Blocks.{NoneIn, may_hold, none_true, none_kept, exact}
use Rattle.eval_search.specs.Search.{NoneBelow, none_yet, skip_runs, least_is, none_is}
use Rattle.eval_search.specs.declared.Spot.{Spot}
use Rattle.std.specs.Prelude.{Some, None}
use Rattle.step_picks.specs.Tests.{told}

-- the table is that of a case without an `every` line; the lines and the facts are too
pub record Sought (c : Case) (table : List ℕ) : Type 0 where
  pub accepted_case : Accepted c
  pub no_every : c.question.every ≡ none
  pub is : Is (bare (problem_of c)) table

pub record Asks (c : Case) (n : ℕ) (table lines facts : List ℕ) : Type 0 where
  pub sought : Sought c table
  pub lines_of : LinesOf c n 0 lines
  pub facts_in : FactsIn (problem_of c) facts

abbrev pub cells_of : Case → List Tuple
cells_of c = cells (problem_of c)

-- in which of sixty-four runs the rule may hold, whatever case is asked
abbrev pub MayHold : ℕ → (table lines facts : List ℕ) → (top low w : ℕ) → Type 0
MayHold n table lines facts top low w = (c : Case) → Asks c n table lines facts → (j : ℕ) → j < 64 → digit w j ≡ may_hold c (cells_of c) (top * 64 + j) low

-- the first number of a run
abbrev pub run_start : (top lane level : ℕ) → ℕ
run_start top lane level = (top * 64 + lane) * 2 ^ (6 * level)

abbrev pub start_of : Spot → ℕ
start_of s = run_start s.top s.lane s.level

-- what a kept digit says of run b of level i
pub record KeptAt (c : Case) (ts : List Tuple) (b i : ℕ) (d : Bool) : Type 0 where
  pub out : d ≡ false → NoneIn c ts b (6 * i)
  pub true_of : i ≡ 0 → d ≡ true → rule_is_true c (numbered ts b) ≡ true

-- the kept words of the levels from `low` on; those above `level` are about the runs that it is in
abbrev pub Kept : Case → List Tuple → (low top level : ℕ) → List ℕ → Type 0
Kept c ts low top level kept = (i j : ℕ) → low ≤ i → level ≤ i → i ≤ 3 → j < 64 → KeptAt c ts (top / 64 ^ (i - level) * 64 + j) i (digit (get_or kept i 0) j)

pub record Searched (c : Case) (ts : List Tuple) (s : Spot) : Type 0 where
  pub before : NoneBelow c ts (start_of s)
  pub known : Kept c ts s.level s.top s.level s.kept

-- places that the search can reach: past the last level it is done
pub record Placed (s : Spot) : Type 0 where
  pub lanes : s.lane ≤ 64
  pub levels : s.level ≤ 4
  pub done : 3 < s.level → 2 ^ 20 ≤ start_of s
  pub near : start_of s < 2 ^ 26

-- while numbers are the same, the search first goes up, then down
unfoldable pub phase : (lane level : ℕ) → ℕ
phase lane level = if ltb lane 64 then level else 10 - level

-- it gets nearer to its end
abbrev pub Falls : Spot → Spot → Type 0
Falls s t = phase t.lane t.level + 16 * start_of s < phase s.lane s.level + 16 * start_of t

-- what a step leaves
pub record Stepped (n : ℕ) (table lines facts : List ℕ) (s t : Spot) : Type 0 where
  pub placed : Placed t
  pub falls : t.found ≡ false → Falls s t
  pub searched : (c : Case) → Asks c n table lines facts → Searched c (cells_of c) s → Searched c (cells_of c) t
  pub meant : (c : Case) → Asks c n table lines facts → Searched c (cells_of c) s → t.found ≡ true → meets c (numbered (cells_of c) (start_of t)) ≡ true

-- what entering a level leaves
pub record Entered (n : ℕ) (table lines facts : List ℕ) (s t : Spot) : Type 0 where
  pub top : t.top ≡ s.top
  pub lane : t.lane ≡ 0
  pub level : t.level ≡ s.level
  pub found : t.found ≡ false
  pub searched : (c : Case) → Asks c n table lines facts → NoneBelow c (cells_of c) (run_start s.top 0 s.level) → Kept c (cells_of c) (s.level + 1) s.top s.level s.kept → Searched c (cells_of c) t

-- ---- numbers
one_level : (level : ℕ) → 2 ^ (6 * (level + 1)) ≡ 64 * 2 ^ (6 * level)
one_level level = let e : 6 * (level + 1) ≡ 6 + 6 * level = omega arith in ap (λ (x : ℕ). 2 ^ x) e ∙ pow-add 2 6 (6 * level)

-- one level up, or down, at the same number
pub up_start : (top level : ℕ) → run_start (top / 64) (top % 64 + 1) (level + 1) ≡ run_start top 64 level
up_start top level =
    let d : top / 64 * 64 + top % 64 ≡ top = div-add-mod' top 64 in
    let e : top / 64 * 64 + (top % 64 + 1) ≡ top + 1 = omega arith in
    let f : (top + 1) * 64 ≡ top * 64 + 64 = omega arith in
    ap₂ ◌*◌ e (one_level level) ∙ sym (mul_assoc (top + 1) 64 (2 ^ (6 * level))) ∙ ap (λ (x : ℕ). x * 2 ^ (6 * level)) f

pub down_start : (top lane level : ℕ) → 0 < level → run_start (top * 64 + lane) 0 (level - 1) ≡ run_start top lane level
down_start top lane level h =
    let e : level - 1 + 1 ≡ level = omega arith in
    let f : (top * 64 + lane) * 64 + 0 ≡ (top * 64 + lane) * 64 = omega arith in
    ap (λ (x : ℕ). x * 2 ^ (6 * (level - 1))) f ∙ mul_assoc (top * 64 + lane) 64 (2 ^ (6 * (level - 1))) ∙ ap (λ (x : ℕ). (top * 64 + lane) * x) (sym (one_level (level - 1)) ∙ ap (λ (x : ℕ). 2 ^ (6 * x)) e)

-- the runs that a run is in
up_top : (top level i : ℕ) → level + 1 ≤ i → top / 64 / 64 ^ (i - (level + 1)) ≡ top / 64 ^ (i - level)
up_top top level i h =
    let e : i - level ≡ suc (i - (level + 1)) = omega arith in
    div-div-eq-div-mul top 64 (64 ^ (i - (level + 1))) ∙ ap (λ (x : ℕ). top / x) (mul_comm 64 (64 ^ (i - (level + 1))) ∙ sym (pow-suc 64 (i - (level + 1))) ∙ ap (λ (x : ℕ). 64 ^ x) (sym e))

down_top : (top lane level i : ℕ) → lane < 64 → 0 < level → level ≤ i → (top * 64 + lane) / 64 ^ (i - (level - 1)) ≡ top / 64 ^ (i - level)
down_top top lane level i l h k =
    let e : level - 1 + 1 ≡ level = omega arith in
    sym (up_top (top * 64 + lane) (level - 1) i (omega arith)) ∙ ap₂ (λ (x y : ℕ). x / 64 ^ (i - y)) (digits_div top l) e

here_top : (top level : ℕ) → top / 64 ^ (level - level) ≡ top
here_top top level = let e : level - level ≡ 0 = omega arith in ap (λ (x : ℕ). top / 64 ^ x) e ∙ ap (λ (x : ℕ). top / x) (pow-zero 64) ∙ div-one top

-- ---- what a step adds
module _ (c : Case) (A : Accepted c) (plain : c.question.every ≡ none) (ts : List Tuple) where
  -- nothing is known of the levels above the first
  pub kept_none : (top level : ℕ) (kept : List ℕ) → ((i : ℕ) → i ≤ 3 → get_or kept i 0 ≡ full) → Kept c ts (level + 1) top level kept
  unfolding spread_of
  kept_none top level kept f i j a b k l = record {
    out = λ e. let q = sym (ap (λ (x : ℕ). digit x j) (f i k) ∙ spread_digit true j l) ∙ e in absurd (omega (arith, clash q));
    true_of = λ z e. absurd (omega arith);
  }
    where
      clash : true ≡ false → ◌≡◌ {A = ℕ} 0 1
      clash e = cc

  -- a level that was evaluated
  pub kept_set : (top level w : ℕ) (kept : List ℕ) → level ≤ 3 → length kept ≡ 4 → ((j : ℕ) → j < 64 → digit w j ≡ may_hold c ts (top * 64 + j) (6 * level)) → Kept c ts (level + 1) top level kept
      → Kept c ts level top level (set kept level w)
  kept_set top level w kept h len is above i j a b k l = by_level (ℕ_discrete i level)
    where
      by_level : Dec (i ≡ level) → KeptAt c ts (top / 64 ^ (i - level) * 64 + j) i (digit (get_or (set kept level w) i 0) j)
      by_level (yes e) =
          let g : get_or (set kept level w) level 0 ≡ w = get_or-set_same kept level w 0 (omega arith) in
          subst (λ (x : ℕ). KeptAt c ts (top / 64 ^ (x - level) * 64 + j) x (digit (get_or (set kept level w) x 0) j)) (sym e)
          (subst (λ (x : ℕ). KeptAt c ts (x * 64 + j) level (digit (get_or (set kept level w) level 0) j)) (sym (here_top top level))
          (subst (λ (x : ℕ). KeptAt c ts (top * 64 + j) level (digit x j)) (sym g) own))
        where
          own : KeptAt c ts (top * 64 + j) level (digit w j)
          own = record {
            out = λ e. none_true c A plain ts (top * 64 + j) (6 * level) (sym (is j l) ∙ e);
            true_of = λ z e. sym (exact c A plain ts (top * 64 + j)) ∙ ap (λ (x : ℕ). may_hold c ts (top * 64 + j) (6 * x)) (sym z) ∙ sym (is j l) ∙ e;
          }
      by_level (no e) = subst (λ (x : ℕ). KeptAt c ts (top / 64 ^ (i - level) * 64 + j) i (digit x j)) (sym (get_or-set_other kept level i w 0 e)) (above i j (omega arith) b k l)

  module _ (top lane₀ lane level : ℕ) (kept : List ℕ) (low : level ≤ 3) (o : lane₀ ≤ lane) (most : lane ≤ 64) (before : NoneBelow c ts (run_start top lane₀ level)) (known : Kept c ts level top level kept)
      (out : (j : ℕ) → lane₀ ≤ j → j < lane → digit (get_or kept level 0) j ≡ false) where
    here : (j : ℕ) → j < 64 → KeptAt c ts (top * 64 + j) level (digit (get_or kept level 0) j)
    here j l = subst (λ (x : ℕ). KeptAt c ts (x * 64 + j) level (digit (get_or kept level 0) j)) (here_top top level) (known level j (omega arith) (omega arith) low l)

    -- the runs passed over
    pub passed : NoneBelow c ts (run_start top lane level)
    passed = skip_runs c ts (top * 64) lane₀ lane (6 * level) o before (λ j a b. (here j (omega arith)).out (out j a b))

    -- all of them: the level above goes on
    pub climbed : lane ≡ 64 → NoneBelow c ts (run_start (top / 64) (top % 64 + 1) (level + 1))
    climbed e = subst (NoneBelow c ts) (sym (up_start top level)) (subst (λ (x : ℕ). NoneBelow c ts (run_start top x level)) e passed)

    pub climbed_known : Kept c ts (level + 1) (top / 64) (level + 1) kept
    climbed_known i j a b k l = subst (λ (x : ℕ). KeptAt c ts (x * 64 + j) i (digit (get_or kept i 0) j)) (sym (up_top top level i b)) (known i j (omega arith) (omega arith) k l)

    module _ (l : lane < 64) where
      -- a run whose least picks break a kind
      pub broken : are_of_kinds c (numbered ts (run_start top lane level)) ≡ false → NoneBelow c ts (run_start top (lane + 1) level)
      broken f = subst (λ (x : ℕ). NoneBelow c ts (x * 2 ^ (6 * level))) (let e : top * 64 + lane + 1 ≡ top * 64 + (lane + 1) = omega arith in e)
          (skip_runs c ts (top * 64 + lane) 0 1 (6 * level) (omega arith)
          (subst (λ (x : ℕ). NoneBelow c ts (x * 2 ^ (6 * level))) (let e : top * 64 + lane ≡ top * 64 + lane + 0 = omega arith in e) passed)
          (λ j a b. subst (λ (x : ℕ). NoneIn c ts x (6 * level)) (let e : top * 64 + lane ≡ top * 64 + lane + j = omega arith in e) (none_kept c A plain ts (top * 64 + lane) (6 * level) f)))

      -- a run that is one number
      pub found : level ≡ 0 → are_of_kinds c (numbered ts (run_start top lane level)) ≡ true → digit (get_or kept level 0) lane ≡ true → meets c (numbered ts (run_start top lane level)) ≡ true
      unfolding meets
      found z k t =
          let e : run_start top lane level ≡ top * 64 + lane = ap (λ (x : ℕ). (top * 64 + lane) * 2 ^ (6 * x)) z ∙ (let q : (top * 64 + lane) * 2 ^ 0 ≡ top * 64 + lane = omega (arith, pow-zero 2) in q) in
          let r = (here lane l).true_of z t in
          ap₂ ◌&&◌ k (ap (λ (x : ℕ). rule_is_true c (numbered ts x)) e ∙ r)

      -- a run that is entered
      pub entered : 0 < level → NoneBelow c ts (run_start (top * 64 + lane) 0 (level - 1))
      entered h = subst (NoneBelow c ts) (sym (down_start top lane level h)) passed

      pub entered_known : 0 < level → Kept c ts (level - 1 + 1) (top * 64 + lane) (level - 1) kept
      entered_known h i j a b k m = subst (λ (x : ℕ). KeptAt c ts (x * 64 + j) i (digit (get_or kept i 0) j)) (sym (down_top top lane level i l h (omega arith))) (known i j (omega arith) (omega arith) k m)

-- ---- nothing gets too large, and the search ends
pub run_small : (level : ℕ) → level ≤ 3 → (1 ≤ 2 ^ (6 * level)) × (2 ^ (6 * level) ≤ 2 ^ 18)
run_small level h = (pow_pos (6 * level), pow_mono {i = 6 * level} {j = 18} (omega arith))

pub block_small : (top lane level : ℕ) → run_start top lane level < 2 ^ 26 → top * 64 + lane < 2 ^ 26
block_small top lane level h = let a : (top * 64 + lane) * 1 ≤ (top * 64 + lane) * 2 ^ (6 * level) = mul-le-mul {n₁ = top * 64 + lane} {m₁ = 1} (omega arith) (pow_pos (6 * level)) in omega arith

-- with p for the length of a run
module _ (top lane₀ lane p : ℕ) (o : lane₀ ≤ lane) (most : lane ≤ 64) (some : 1 ≤ p) (few : p ≤ 2 ^ 18) (h : (top * 64 + lane₀) * p < 2 ^ 20) where
  product_le : (a b : ℕ) → a ≤ b → a * p ≤ b * p
  product_le a b l = mul-le-mul_right p l

  pub reach : (top * 64 + lane) * p < 2 ^ 25
  reach =
      let a = add-mul (top * 64) lane p in
      let b = add-mul (top * 64) lane₀ p in
      let d : lane * p ≤ 64 * 2 ^ 18 = mul-le-mul most few in
      omega arith

  pub top_few : top * 64 + lane₀ < 2 ^ 20
  top_few = let a : (top * 64 + lane₀) * 1 ≤ (top * 64 + lane₀) * p = mul-le-mul {n₁ = top * 64 + lane₀} (omega arith) some in omega arith

  pub further : (top * 64 + lane₀) * p ≤ (top * 64 + lane) * p
  further = product_le _ _ (omega arith)

  pub one_further : (top * 64 + lane₀) * p < (top * 64 + (lane + 1)) * p
  one_further = let a = product_le (top * 64 + lane₀ + 1) (top * 64 + (lane + 1)) (omega arith) in let b = add-mul (top * 64 + lane₀) 1 p in omega arith

pub phase_down : (lane level : ℕ) → lane < 64 → phase lane level ≡ level
unfolding phase
phase_down lane level h = rw (lt-ltb lane 64 h)

pub phase_up : (level : ℕ) → phase 64 level ≡ 10 - level
unfolding phase
phase_up level = refl

pub phase_le : (lane level : ℕ) → level ≤ 4 → phase lane level ≤ 10
unfolding phase
phase_le lane level h = by_test (ltb lane 64)
  where
    by_test : (b : Bool) → (if b then level else 10 - level) ≤ 10
    by_test true = omega arith
    by_test false = omega arith

pub placed_low : (s : Spot) → Placed s → start_of s < 2 ^ 20 → s.level ≤ 3
placed_low s p h = by_test (ltb 3 s.level) refl
  where
    by_test : (b : Bool) → ltb 3 s.level ≡ b → s.level ≤ 3
    by_test true e = absurd (let a = p.done (ltb-true 3 s.level e) in omega arith)
    by_test false e = ltb-false 3 s.level e

-- ---- the four ways a step can end
module _ (s : Spot) (p : Placed s) (h : start_of s < 2 ^ 20) (lane : ℕ) (x : NextLane (get_or s.kept s.level 0) s.lane lane) where
  low : s.level ≤ 3
  low = placed_low s p h

  abbrev len : ℕ
  len = 2 ^ (6 * s.level)

  pub run_near : run_start s.top lane s.level < 2 ^ 25
  run_near = let q = run_small s.level low in reach s.top s.lane lane len x.from_there x.most q.0 q.1 h

  pub run_low : run_start s.top lane s.level < 2 ^ 26
  run_low = let r = run_near in omega arith

  -- up
  abbrev above : Spot
  above = record { top = s.top / 64; lane = s.top % 64 + 1; level = s.level + 1; found = false; kept = s.kept }

  high_enough : 3 < s.level + 1 → 2 ^ 20 ≤ start_of above
  high_enough l =
      let a = pow_mono {i = 24} {j = 6 * (s.level + 1)} (omega arith) in
      let b : 1 * 2 ^ 24 ≤ (s.top / 64 * 64 + (s.top % 64 + 1)) * 2 ^ (6 * (s.level + 1)) = mul-le-mul {n₁ = 1} {m₁ = 2 ^ 24} (omega arith) a in
      omega arith

  up_falls : lane ≡ 64 → Falls s above
  up_falls e = by_lane (ltb s.lane 64) refl
    where
      by_next : (b : Bool) → ltb (s.top % 64 + 1) 64 ≡ b → phase (s.top % 64 + 1) (s.level + 1) < 10 - s.level
      by_next true t = let q = phase_down (s.top % 64 + 1) (s.level + 1) (ltb-true (s.top % 64 + 1) 64 t) in let l = low in omega arith
      by_next false t =
          let q = ltb-false (s.top % 64 + 1) 64 t in
          let r : s.top % 64 < 64 = mod-lt s.top (omega arith) in
          let z : s.top % 64 + 1 ≡ 64 = omega arith in
          subst (λ (k : ℕ). phase k (s.level + 1) < 10 - s.level) (sym z) (let u = phase_up (s.level + 1) in let l = low in omega arith)

      by_lane : (b : Bool) → ltb s.lane 64 ≡ b → Falls s above
      by_lane true t =
          let l = ltb-true s.lane 64 t in
          let q = run_small s.level low in
          let a = one_further s.top s.lane 63 len (omega arith) (omega arith) q.0 q.1 h in
          let b = up_start s.top s.level in
          let d = phase_le (s.top % 64 + 1) (s.level + 1) (let l = low in omega arith) in
          omega arith
      by_lane false t =
          let l = ltb-false s.lane 64 t in
          let z : s.lane ≡ 64 = let m = p.lanes in omega arith in
          let a = ap (λ (k : ℕ). run_start s.top k s.level) z in
          let b = up_start s.top s.level in
          let d = phase_up s.level in
          let f = ap (λ (k : ℕ). phase k s.level) z in
          let g = by_next (ltb (s.top % 64 + 1) 64) refl in
          let l = low in
          omega arith

  pub stepped_up : (n : ℕ) (table lines facts : List ℕ) → lane ≡ 64 → Stepped n table lines facts s above
  stepped_up n table lines facts e = record {
    placed = record {
      lanes = let r : s.top % 64 < 64 = mod-lt s.top (omega arith) in omega arith;
      levels = let l = low in omega arith;
      done = high_enough;
      near = let b = up_start s.top s.level in let r = run_near in let z = ap (λ (k : ℕ). run_start s.top k s.level) e in omega arith;
    };
    falls = λ _. up_falls e;
    searched = λ c a i. record {
      before = climbed c a.sought.accepted_case a.sought.no_every (cells_of c) s.top s.lane lane s.level s.kept low x.from_there x.most i.before i.known x.out e;
      known = climbed_known c a.sought.accepted_case a.sought.no_every (cells_of c) s.top s.lane lane s.level s.kept low x.from_there x.most i.before i.known x.out;
    };
    meant = λ c a i t. absurd (T_of t);
  }

  module _ (n : ℕ) (table lines facts : List ℕ) (l : lane < 64) where
    -- on
    abbrev next : Spot
    next = record { top = s.top; lane = lane + 1; level = s.level; found = false; kept = s.kept }

    pub stepped_on : ((c : Case) → Sought c table → false ≡ are_of_kinds c (numbered (cells_of c) (run_start s.top lane s.level))) → Stepped n table lines facts s next
    stepped_on kinds = record {
      placed = record {
        lanes = omega arith;
        levels = let q = low in omega arith;
        done = λ k. absurd (let q = low in omega arith);
        near = let q = run_small s.level low in let r = reach s.top s.lane (lane + 1) len (let o = x.from_there in omega arith) (omega arith) q.0 q.1 h in omega arith;
      };
      falls = λ _.
          let q = run_small s.level low in
          let a = one_further s.top s.lane lane len x.from_there x.most q.0 q.1 h in
          let d = phase_le (lane + 1) s.level (let q = low in omega arith) in
          omega arith;
      searched = λ c a i. record {
        before = broken c a.sought.accepted_case a.sought.no_every (cells_of c) s.top s.lane lane s.level s.kept low x.from_there x.most i.before i.known x.out l (sym (kinds c a.sought));
        known = i.known;
      };
      meant = λ c a i t. absurd (T_of t);
    }

    -- found
    abbrev here_found : Spot
    here_found = record { top = s.top; lane = lane; level = s.level; found = true; kept = s.kept }

    pub stepped_found : s.level ≡ 0 → ((c : Case) → Sought c table → true ≡ are_of_kinds c (numbered (cells_of c) (run_start s.top lane s.level))) → Stepped n table lines facts s here_found
    stepped_found z kinds = record {
      placed = record { lanes = x.most; levels = omega arith; done = λ k. absurd (omega arith); near = let r = run_near in omega arith };
      falls = λ f. absurd (T_of (sym f));
      searched = λ c a i. record {
        before = passed c a.sought.accepted_case a.sought.no_every (cells_of c) s.top s.lane lane s.level s.kept low x.from_there x.most i.before i.known x.out;
        known = i.known;
      };
      meant = λ c a i t. found c a.sought.accepted_case a.sought.no_every (cells_of c) s.top s.lane lane s.level s.kept low x.from_there x.most i.before i.known x.out l z (sym (kinds c a.sought)) (x.is_set l);
    }

    -- in
    abbrev inner : Spot
    inner = record { top = s.top * 64 + lane; lane = 0; level = s.level - 1; found = false; kept = s.kept }

    pub stepped_in : 0 < s.level → (t : Spot) → Entered n table lines facts inner t → Stepped n table lines facts s t
    stepped_in k t e = record {
      placed = record {
        lanes = let a = e.lane in omega arith;
        levels = let a = e.level in let q = low in omega arith;
        done = λ o. absurd (let a = e.level in let q = low in omega arith);
        near = let a = start in let r = run_near in omega arith;
      };
      falls = λ _.
          let a = start in
          let q = run_small s.level low in
          let b = further s.top s.lane lane len x.from_there x.most q.0 q.1 h in
          let d = phase_down s.lane s.level (let o = x.from_there in omega arith) in
          let f = phase_down 0 (s.level - 1) (omega arith) in
          let g = ap₂ phase e.lane e.level in
          omega arith;
      searched = λ c a i. e.searched c a
          (entered c a.sought.accepted_case a.sought.no_every (cells_of c) s.top s.lane lane s.level s.kept low x.from_there x.most i.before i.known x.out l k)
          (entered_known c a.sought.accepted_case a.sought.no_every (cells_of c) s.top s.lane lane s.level s.kept low x.from_there x.most i.before i.known x.out l k);
      meant = λ c a i f. absurd (T_of (sym e.found ∙ f));
    }
      where
        start : start_of t ≡ run_start s.top lane s.level
        start = ap₂ (λ (u v : ℕ). run_start u v t.level) e.top e.lane ∙ ap (run_start (s.top * 64 + lane) 0) e.level ∙ down_start s.top lane s.level k

-- ---- the whole search
pub first_searched : (n : ℕ) (table lines facts : List ℕ) (level : ℕ) (kept : List ℕ) → ((i : ℕ) → i ≤ 3 → get_or kept i 0 ≡ full) → (t : Spot) → Entered n table lines facts (record { top = 0; lane = 0; level = level; found = false; kept = kept }) t
    → (c : Case) → Asks c n table lines facts → Searched c (cells_of c) t
first_searched n table lines facts level kept f t e c a = e.searched c a
    (subst (NoneBelow c (cells_of c)) (let z : 0 ≡ (0 * 64 + 0) * 2 ^ (6 * level) = omega arith in z) (none_yet c (cells_of c)))
    (kept_none c a.sought.accepted_case a.sought.no_every (cells_of c) 0 level kept f)

pub first_placed : (n : ℕ) (table lines facts : List ℕ) (level : ℕ) (kept : List ℕ) → level ≤ 3 → (t : Spot) → Entered n table lines facts (record { top = 0; lane = 0; level = level; found = false; kept = kept }) t → Placed t
first_placed n table lines facts level kept h t e =
    let z : start_of t ≡ 0 = ap₂ (λ (u v : ℕ). run_start u v t.level) e.top e.lane ∙ (let q : (0 * 64 + 0) * 2 ^ (6 * t.level) ≡ 0 = omega arith in q) in
    let a = e.lane in
    let b = e.level in
    record { lanes = omega arith; levels = omega arith; done = λ k. absurd (omega arith); near = omega arith }

pub all_full : (i : ℕ) → i ≤ 3 → get_or (full ∷ full ∷ full ∷ full ∷ []) i 0 ≡ full
all_full zero h = refl
all_full (suc zero) h = refl
all_full (suc (suc zero)) h = refl
all_full (suc (suc (suc zero))) h = refl
all_full (suc (suc (suc (suc i)))) h = absurd (omega arith)

-- the numbers of so many digits
pub end_is : (cells : ℕ) → cells ≤ 20 → ((1 * 2 ^ cells) % 2 ^ 64 ≡ 2 ^ cells) × (2 ^ cells ≤ 2 ^ 20)
end_is cells h = (one_shl cells (omega arith), pow_mono {i = cells} {j = 20} h)

pub before_end : (cells x y : ℕ) → cells ≤ 20 → x ≡ y → x < (1 * 2 ^ cells) % 2 ^ 64 → y < 2 ^ 20
before_end cells x y h e l = let q = end_is cells h in omega (arith, q.0, q.1)

pub nearer : (s t : Spot) → Placed t → start_of s < 2 ^ 20 → Falls s t → 16 * (2 ^ 20 - start_of t) + phase t.lane t.level < 16 * (2 ^ 20 - start_of s) + phase s.lane s.level
nearer s t p h f = let a = phase_le t.lane t.level p.levels in omega arith

module _ (c : Case) (ts : List Tuple) (s : Spot) (x : ℕ) (is : x ≡ start_of s) (i : Searched c ts s) where
  pub answers_number : meets c (numbered ts (start_of s)) ≡ true → told (Some x) ≡ least_number c ts
  unfolding told
  answers_number m = ap some is ∙ sym (least_is c ts (start_of s) i.before m)

  pub answers_nothing : (cells : ℕ) → cells ≡ length ts → cells ≤ 20 → (1 * 2 ^ cells) % 2 ^ 64 ≤ x → told None ≡ least_number c ts
  unfolding told
  answers_nothing cells e h l =
      let q = end_is cells h in
      let z = ap (λ (k : ℕ). 2 ^ k) e in
      sym (none_is c ts (start_of s) (omega (arith, q.0)) i.before)
