-- By the table, a relation is a `choose` if its kind is 1 to 5, and its tuples end where its not-tuples start.
use Rattle.std.specs.Prelude.{ℕ, zero, suc, ◌+◌, ◌-◌, ◌/◌, ◌<◌, ◌≤◌, ◌^◌, ◌≡◌, refl, Bool, List, ltb, length, if◌then◌else◌}
use Rattle.std.proofs.Math.Path.{sym, ap, ap₂}
use Rattle.std.proofs.Common.{◌∙◌, arith, add-one, lt-ltb, le-ltb}
use Rattle.std.proofs.Math.Bool.{true, false}
use Rattle.definitions.specs.Sheet.Relations.{Kind, static, plain, Fun, PFun, Inj, PInj, universal, is_chosen}
use Rattle.definitions.specs.Problem.Atoms.{Problem, relation_at, tuples_of, words_for}
use Rattle.definitions.specs.Reply.Outcome.{relation_words}
use Rattle.problem_table.specs.Lines.{relation_place, relation_line, Fits}
use Rattle.problem_table.specs.Of.{Is, kind_number}
use Rattle.problem_table.specs.declared.RelationLine.{RelationLine}
use Rattle.step_picks.specs.Words.{word_start, is_open, words_in}

module _ (x : RelationLine) where
  pub no_words : is_open x.kind ≡ false → 0 ≡ words_in x
  unfolding words_in
  no_words e = rw e

  pub some_words : is_open x.kind ≡ true → (k : ℕ) → k ≡ x.nots - x.tuples → (k + 63) / 64 ≡ words_in x
  unfolding words_in words_for
  some_words h k e = rw (h, e)

-- ---- kinds
pub open_none : (kind : ℕ) → kind ≡ 0 → false ≡ is_open kind
unfolding is_open
open_none kind e = rw (le-ltb 0 kind (omega arith))

pub open_some : (kind : ℕ) → (kind ≡ 0 → ⊥) → ltb kind 6 ≡ is_open kind
unfolding is_open
open_some kind n = rw (lt-ltb 0 kind (positive kind n))
  where
    positive : (kind : ℕ) → (kind ≡ 0 → ⊥) → 0 < kind
    positive zero n = absurd (n refl)
    positive (suc k) n = omega arith

pub kind_open : (k : Kind) → is_open (kind_number k) ≡ is_chosen k
unfolding is_open kind_number is_chosen
kind_open static = refl
kind_open plain = refl
kind_open Fun = refl
kind_open PFun = refl
kind_open Inj = refl
kind_open PInj = refl
kind_open universal = refl

module _ (p : Problem) (w : List ℕ) (is : Is p w) (r : ℕ) (l : r < length p.relations) (x : RelationLine) (e : x ≡ relation_line w r) where
  pub is_kind : x.kind ≡ kind_number (relation_at p r).kind
  is_kind = ap (λ (y : RelationLine). y.kind) e ∙ (is.relation r l).kind

  pub is_open_lem : is_open x.kind ≡ is_chosen (relation_at p r).kind
  is_open_lem = ap is_open is_kind ∙ kind_open (relation_at p r).kind

  pub tuples_are : (k : ℕ) → k ≡ x.nots - x.tuples → k ≡ tuples_of p.size (relation_at p r)
  tuples_are k q =
      let a = ap (λ (y : RelationLine). y.nots) e in
      let b = ap (λ (y : RelationLine). y.tuples) e in
      omega (arith, (is.relation r l).nots, (is.relation r l).tuples)

  -- the first word of the next relation
  pub word_next : (word : ℕ) → word ≡ word_start p r → word + words_in x ≡ word_start p (r + 1)
  unfolding word_start words_in relation_words
  word_next word q = rw (add-one, sym is_open_lem) (by_test (is_open x.kind))
    where
      by_test : (b : Bool) → word + (if b then words_for (x.nots - x.tuples) else zero) ≡ word_start p r + (if b then words_for (tuples_of p.size (relation_at p r)) else zero)
      by_test true = ap₂ (λ (a b : ℕ). a + words_for b) q (tuples_are (x.nots - x.tuples) refl)
      by_test false = ap (λ (a : ℕ). a + zero) q

-- the lines of a table that fits are not long
words_le : (x : RelationLine) → x.nots ≤ 2 ^ 32 → words_in x ≤ 2 ^ 27
unfolding words_in words_for
words_le x h = by_test (is_open x.kind)
  where
    by_test : (b : Bool) → (if b then (x.nots - x.tuples + 63) / 64 else zero) ≤ 2 ^ 27
    by_test true = omega arith
    by_test false = omega arith

pub words_few : (w : List ℕ) (r : ℕ) → Fits w → (x : RelationLine) → x ≡ relation_line w r → (x.sets ≤ 2 ^ 32) × (x.tuples ≤ 2 ^ 32) × (x.nots ≤ 2 ^ 32) × (words_in x ≤ 2 ^ 27)
unfolding relation_line
words_few w r F x e =
    let a = ap (λ (y : RelationLine). y.sets) e in
    let b = ap (λ (y : RelationLine). y.tuples) e in
    let c = ap (λ (y : RelationLine). y.nots) e in
    (omega (arith, F.entry (relation_place r)), omega (arith, F.entry (relation_place r + 1)), omega (arith, F.entry (relation_place r + 2)), words_le x (omega (arith, F.entry (relation_place r + 2))))
