-- The terms of levels and the parts of nodes by the table are those of the case's tree. Assumes nothing.
use Prim.Native.Nat.{ℕ, zero, suc, ◌≤◌, ◌<◌}
use Rattle.std.specs.Prelude.{◌≡◌, Bool, take, set, if◌then◌else◌}
use Rattle.std.proofs.Math.Path.{refl, ap, ap₂}
use Rattle.std.proofs.Common.{sym, subst, ◌∙◌, arith, length-set, take-suc, length-take-le, get_or-set_same, get_or-set_other, eqb-true}
use Rattle.std.proofs.Math.Bool.{true, false}
use Rattle.std.proofs.Math.Option.{Option, none, some}
use mathlib.Core.List.{List, [], ◌∷◌, ◌++◌, map, map-append}
use Rattle.std.proofs.Math.Dec.{eqb}
use Rattle.std.proofs.Math.ListN.{length, get_or, length-take}
use Rattle.std.proofs.lemmas.Bool.{eqb-false}
use Rattle.definitions.specs.Lists.{option, position}
use Rattle.definitions.specs.Reply.Lifted.{Term, parameter, object, term_at, with_term}
use Rattle.laws.specs.Lists.{map_map, map_same, mem_get_or}
use Rattle.rule_nodes.specs.declared.PartRow.{PartRow}
use Rattle.rule_nodes.specs.declared.NodeRow.{NodeRow}
use Rattle.print_words.specs.Words.{term_by, term_low, term_high}
use Rattle.print_domain.specs.Actions.{env_from, no_env, env_of, bound_env, part_terms}

-- ---- positions in a list that grows at its end
module _ {B : Type 0} (p : ℕ → Bool) (x : ℕ) where
  pos_snoc : (d : B) (f : ℕ → B) (xs : List ℕ) → option (position p (xs ++ (x ∷ []))) d f ≡ option (position p xs) (if p x then f (length xs) else d) f
  unfolding option position
  pos_snoc d f [] = by_test (p x)
    where
      by_test : (b : Bool) → option (if b then some zero else option none none (λ i. some (suc i))) d f ≡ option none (if b then f zero else d) f
      by_test true = refl
      by_test false = refl
  pos_snoc d f (y ∷ xs) = by_test (p y) (pos_snoc d (λ i. f (suc i)) xs)
    where
      later : (o : Option ℕ) (e : B) → option (option o none (λ i. some (suc i))) e f ≡ option o e (λ i. f (suc i))
      later none e = refl
      later (some i) e = refl

      by_test : (b : Bool) → option (position p (xs ++ (x ∷ []))) d (λ i. f (suc i)) ≡ option (position p xs) (if p x then f (suc (length xs)) else d) (λ i. f (suc i))
          → option (if b then some zero else option (position p (xs ++ (x ∷ []))) none (λ i. some (suc i))) d f
          ≡ option (if b then some zero else option (position p xs) none (λ i. some (suc i))) (if p x then f (suc (length xs)) else d) f
      by_test true e = refl
      by_test false e = later (position p (xs ++ (x ∷ []))) d ∙ e ∙ sym (later (position p xs) (if p x then f (suc (length xs)) else d))

-- ---- a level's term
set_at : (e : List ℕ) (d x l : ℕ) → l < length e → get_or (set e d x) l 0 ≡ (if eqb l d then x else get_or e l 0)
set_at e d x l h = by_test (eqb l d) refl
  where
    by_test : (b : Bool) → eqb l d ≡ b → get_or (set e d x) l 0 ≡ (if b then x else get_or e l 0)
    by_test true q = let s = eqb-true l d q in ap (λ (k : ℕ). get_or (set e k x) l 0) (sym s) ∙ get_or-set_same e l x 0 h
    by_test false q = get_or-set_other e d l x 0 (eqb-false l d q)

if_term : (b : Bool) (x y : ℕ) → term_by (if b then x else y) ≡ (if b then term_by x else term_by y)
if_term true x y = refl
if_term false x y = refl

pub bound_is : (e : List ℕ) (f : ℕ → Term) (d x l : ℕ) → l < length e → term_by (get_or e l 0) ≡ f l → term_by (get_or (set e d x) l 0) ≡ with_term f d (term_by x) l
unfolding with_term
bound_is e f d x l h q = ap term_by (set_at e d x l h) ∙ if_term (eqb l d) x (get_or e l 0) ∙ ap (λ (y : Term). if eqb l d then term_by x else y) q

env_length : (levels : List ℕ) (i : ℕ) (e : List ℕ) → length (env_from levels i e) ≡ length e
unfolding env_from
env_length levels zero e = refl
env_length levels (suc i) e = env_length levels i (set e (get_or levels i 0) i) ∙ length-set e (get_or levels i 0) i

env_from_lem : (levels : List ℕ) (l i : ℕ) (e : List ℕ) → i ≤ 8 → i ≤ length levels → l < length e
    → term_by (get_or (env_from levels i e) l 0) ≡ option (position (eqb l) (take i levels)) (term_by (get_or e l 0)) parameter
unfolding env_from option position
env_from_lem levels l zero e h k m = refl
env_from_lem levels l (suc i) e h k m =
    let x = get_or levels i 0 in
    env_from_lem levels l i (set e x i) (omega arith) (omega arith) (subst (λ (j : ℕ). l < j) (sym (length-set e x i)) m)
    ∙ ap (λ (y : Term). option (position (eqb l) (take i levels)) y parameter)
    (ap term_by (set_at e x i l m) ∙ if_term (eqb l x) i (get_or e l 0)
    ∙ ap (λ (y : Term). if eqb l x then y else term_by (get_or e l 0)) (term_low i (omega arith) ∙ ap parameter (sym (length-take-le i levels (omega arith)))))
    ∙ sym (pos_snoc (eqb l) x (term_by (get_or e l 0)) parameter (take i levels))
    ∙ ap (λ (xs : List ℕ). option (position (eqb l) xs) (term_by (get_or e l 0)) parameter) (sym (take-suc levels i 0 (omega arith)))

none_at : (l : ℕ) → l < 4 → term_by (get_or no_env l 0) ≡ object 0
none_at zero h = term_high 8 (omega arith)
none_at (suc zero) h = term_high 8 (omega arith)
none_at (suc (suc zero)) h = term_high 8 (omega arith)
none_at (suc (suc (suc zero))) h = term_high 8 (omega arith)
none_at (suc (suc (suc (suc l)))) h = absurd (omega arith)

module _ (row : NodeRow) (ds : List ℕ) (width : row.width ≡ length ds) (few : length ds ≤ 4) (levels : take row.width row.levels ≡ ds) where
  pub env_long : length (env_of row) ≡ 4
  unfolding env_of
  env_long = env_length row.levels row.width no_env

  pub env_is : (l : ℕ) → l < 4 → term_by (get_or (env_of row) l 0) ≡ term_at ds l
  unfolding env_of term_at
  env_is l h =
      let a = length-take row.width row.levels in
      let b = ap length levels in
      env_from_lem row.levels l row.width no_env (omega arith) (omega arith) h
      ∙ ap₂ (λ (xs : List ℕ) (y : Term). option (position (eqb l) xs) y parameter) levels (none_at l h)

  pub bound_env_lem : (x l : ℕ) → l < 4 → term_by (get_or (bound_env row x) l 0) ≡ with_term (term_at ds) row.level (term_by x) l
  bound_env_lem x l h = bound_is (env_of row) (term_at ds) row.level x l (omega (arith, env_long)) (env_is l h)

pub goal_env : (l : ℕ) → l < 4 → term_by (get_or no_env l 0) ≡ object 0
goal_env l h = none_at l h

-- ---- a part's terms
module _ (env : List ℕ) (e : ℕ → Term) (at : (l : ℕ) → l < 4 → term_by (get_or env l 0) ≡ e l) where
  levels_are : (ls : List ℕ) → ((i : ℕ) → get_or ls i 0 < 4) → map term_by (map (λ l. get_or env l 0) ls) ≡ map e ls
  levels_are ls h = map_map term_by (λ l. get_or env l 0) ls
      ∙ map_same (λ l. term_by (get_or env l 0)) e ls (λ l m. let (i, b, q) = mem_get_or ls l 0 m in at l (subst (λ (k : ℕ). k < 4) q (h i)))

  pub terms_are : (p : PartRow) (end : ℕ) → ((i : ℕ) → get_or (take p.width p.levels) i 0 < 4)
      → map term_by (part_terms p env end) ≡ map e (take p.width p.levels) ++ (if eqb p.tag 2 then term_by end ∷ [] else [])
  unfolding part_terms
  terms_are p end h =
      map-append term_by (map (λ l. get_or env l 0) (take p.width p.levels)) (if eqb p.tag 2 then end ∷ [] else [])
      ∙ ap₂ ◌++◌ (levels_are (take p.width p.levels) h) (by_test (eqb p.tag 2))
    where
      by_test : (b : Bool) → map term_by (if b then end ∷ [] else []) ≡ (if b then term_by end ∷ [] else [])
      by_test true = refl
      by_test false = refl
