-- A run of 2 ^ s numbers from a multiple of 2 ^ s on: the picks of each are between those of the least and the greatest, so that a rule that
-- is false by what may and what must be picked is false of all.
use Rattle.std.specs.Prelude.{ℕ, ◌+◌, ◌-◌, ◌*◌, ◌/◌, ◌%◌, ◌^◌, ◌<◌, ◌≡◌, refl, Bool, eqb, length, if◌then◌else◌}
use Rattle.std.proofs.Math.Path.{sym, ap₂, subst}
use Rattle.std.proofs.Common.{ap, ◌∙◌, ⊎_elim}
use Rattle.std.proofs.Math.Bool.{true, false}
use Rattle.std.proofs.Math.Option.{none}
use mathlib.Core.List.Memᴰ
use mathlib.Core.List.{List, [], ◌∷◌, Memᴰ}
use native.Mathlib.Omega.{arith}
use Rattle.std.proofs.Math.Nat.{pow-zero}
use Rattle.std.proofs.Math.Dec.{T}
use Rattle.std.proofs.Math.Pow.{pow_pos}
use Rattle.definitions.specs.Sheet.Relations.{Tuple}
use Rattle.definitions.specs.Problem.Truth.{Case, are_of_kinds, rule_is_true}
use Rattle.definitions.specs.Problem.Tree.{tree_of}
use Rattle.definitions.specs.Reply.Finding.{numbered, meets}
use Rattle.bits.specs.Table.{digit}
use Rattle.laws.specs.Booleans.{T_of, T_false, T_and_l, T_and_r}
use Rattle.laws.specs.Reader.{Accepted}
use Rattle.laws.specs.Valued.{tree_by, by_picks, by_holds}
use Rattle.meaning.specs.Meaning.{tree_means}
use Rattle.meaning.specs.Grows.{Among, may_hold_lem, fewer_kinds}
use Rattle.eval_table.specs.Everywhere.{plain_true}
use Rattle.eval_search.specs.Digits.{Under, same_high, none_under, under_all}
use Rattle.eval_search.specs.Lanes.{rest_of}

-- digits that are under another's pick fewer cells
pub numbered_among : (ts : List Tuple) (x y : ℕ) → Under x y → Among (numbered ts x) (numbered ts y)
unfolding numbered digit
numbered_among [] x y u t i = i
numbered_among (c ∷ ts) x y u t i = by_test (eqb (x / 2 ^ length ts % 2) 1) (eqb (y / 2 ^ length ts % 2) 1) (u (length ts)) i (numbered_among ts x y u t)
  where
    by_test : (b d : Bool) → (b ≡ true → d ≡ true) → Memᴰ t (if b then c ∷ numbered ts x else numbered ts x) → (Memᴰ t (numbered ts x) → Memᴰ t (numbered ts y)) → Memᴰ t (if d then c ∷ numbered ts y else numbered ts y)
    by_test true true f i r = ⊎_elim (λ e. Memᴰ.head e) (λ q. Memᴰ.tail (r q)) (Memᴰ.cases_cons i)
    by_test true false f i r = absurd (T_of (f refl))
    by_test false true f i r = Memᴰ.tail (r i)
    by_test false false f i r = r i

-- no number of run b meets the rule
abbrev pub NoneIn : Case → List Tuple → (b s : ℕ) → Type 0
NoneIn c ts b s = (q : ℕ) → q < 2 ^ s → meets c (numbered ts (b * 2 ^ s + q)) ≡ false

-- the rule by what may and what must be picked in run b
abbrev pub may_hold : Case → List Tuple → (b s : ℕ) → Bool
may_hold c ts b s = tree_by c (by_picks c (numbered ts (b * 2 ^ s + rest_of true s)) (numbered ts (b * 2 ^ s + rest_of false s))) (λ _. 0) (tree_of c.question)

-- (of a case without an `every` line)
module _ (c : Case) (A : Accepted c) (plain : c.question.every ≡ none) (ts : List Tuple) where
  module _ (b s : ℕ) where
    least_under : (q : ℕ) → q < 2 ^ s → Among (numbered ts (b * 2 ^ s + rest_of false s)) (numbered ts (b * 2 ^ s + q))
    unfolding rest_of
    least_under q h = numbered_among ts _ _ (same_high b s 0 q (pow_pos s) h (none_under q))

    -- false by all that may be picked and what must be: false of each
    pub none_true : may_hold c ts b s ≡ false → NoneIn c ts b s
    unfolding meets rest_of
    none_true f q h = T_false _ (λ t. subst T f
        (may_hold_lem c (numbered ts (b * 2 ^ s + rest_of false s)) (numbered ts (b * 2 ^ s + q)) (numbered ts (b * 2 ^ s + rest_of true s)) (least_under q h)
        (numbered_among ts _ _ (let p = pow_pos s in same_high b s q (2 ^ s - 1) h (omega arith) (under_all s q h))) (λ _. 0) (tree_of c.question)
        (subst T (plain_true c A plain (numbered ts (b * 2 ^ s + q)) ∙ sym (tree_means c (numbered ts (b * 2 ^ s + q)) A)) (T_and_r (are_of_kinds c (numbered ts (b * 2 ^ s + q))) _ t))))

    -- what must be picked breaks a kind: so does each
    pub none_kept : are_of_kinds c (numbered ts (b * 2 ^ s)) ≡ false → NoneIn c ts b s
    unfolding meets rest_of
    none_kept f q h =
        let e : b * 2 ^ s + 0 ≡ b * 2 ^ s = omega arith in
        T_false _ (λ t. subst T (ap (λ (x : ℕ). are_of_kinds c (numbered ts x)) e ∙ f) (fewer_kinds c (numbered ts (b * 2 ^ s + rest_of false s)) (numbered ts (b * 2 ^ s + q)) (least_under q h) (T_and_l (are_of_kinds c (numbered ts (b * 2 ^ s + q))) _ t)))

  -- a run of one number: what may hold is what does
  pub exact : (b : ℕ) → may_hold c ts b 0 ≡ rule_is_true c (numbered ts b)
  unfolding rest_of
  exact b =
      let e : b * 2 ^ 0 + (2 ^ 0 - 1) ≡ b = omega (arith, pow-zero 2) in
      let f : b * 2 ^ 0 + 0 ≡ b = omega (arith, pow-zero 2) in
      ap₂ (λ (x y : ℕ). tree_by c (by_picks c (numbered ts x) (numbered ts y)) (λ _. 0) (tree_of c.question)) e f ∙ by_holds c (numbered ts b) (λ _. 0) (tree_of c.question) ∙ tree_means c (numbered ts b) A ∙ sym (plain_true c A plain (numbered ts b))
