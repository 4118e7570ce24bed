-- A step line by its first five bytes, its digits and its end.
use Rattle.std.specs.Prelude.{Some, None}
use Rattle.std.specs.Prelude.{if◌then◌else◌}
use Prim.Native.Nat.{ℕ, zero, suc, ◌+◌, ◌≤◌, ◌<◌}
use mathlib.Core.Path.{◌≡◌, refl, sym, ap, ◌∙◌}
use mathlib.Core.Bool.{Bool, true, false, ◌&&◌}
use mathlib.Core.List.{List, [], ◌∷◌, ◌++◌}
use mathlib.Core.Option.{none, some}
use native.Mathlib.Omega.{arith}
use lib.Dec.{leb}
use lib.ListN.{length}
use lib.Seq.{slice}
use borrow.Author.Tests.{leb-true}
use Rattle.definitions.specs.Lists.{all, same, option}
use Rattle.definitions.specs.Sheet.Text.{split, on_first, is_between, is_digit, no_leading_zero, decimal_value, number}
use Rattle.definitions.specs.Sheet.Sheets as S
use Rattle.laws.specs.Booleans.{T_of, and_both}
use Rattle.laws.specs.Tuples.{same_eq}
use Rattle.read_text.specs.Spans.{index_of, option_of}
use Rattle.read_text.proofs.Laws.{span_append, split_last, end_within, index_of_miss}
use Rattle.read_line.specs.Entries.{made, Says, numbered, entry_in, InText, Reads, StepReads}
use Rattle.read_line.specs.declared.Entry.TheVariants.{Step}
use Rattle.read_line.proofs.Fields.{says_step, num_is, reads_line}

-- ---- digits hold no tab

first_two : (a b c : Bool) (v k : ℕ) → (if a && b && c then some v else none) ≡ some k → a ≡ true
first_two true b c v k p = refl
first_two false b c v k p = let z : ◌≡◌ {A = ℕ} 0 1 = cc in absurd (omega arith)

digits_only : (t : List ℕ) (k : ℕ) → number t ≡ some k → all is_digit t ≡ true
unfolding number
digits_only t k p = first_two (all is_digit t) (no_leading_zero t) (leb (length t) 7) (decimal_value zero t) k p

no_tab : (t : List ℕ) → all is_digit t ≡ true → index_of 9 t ≡ length t
unfolding all is_digit is_between index_of
no_tab [] p = refl
no_tab (c ∷ t) p =
    let q = and_both (is_digit c) (all is_digit t) p in
    let l = leb-true 48 c (and_both (leb 48 c) (leb c 57) q.0).0 in
    index_of_miss 9 c t (λ z. omega arith) ∙ ap suc (no_tab t q.1)

pub one_number_lem : (t : List ℕ) (k : ℕ) → number t ≡ some k → S.with_one (numbered S.step) (split 9 t) ≡ some (S.step k)
unfolding S.with_one numbered option
one_number_lem t k p = rw (split_last 9 t (no_tab t (digits_only t k p))) (rw p)

-- ---- the line

word_fields : (t : List ℕ) → S.entry (split 9 ((115 ∷ 116 ∷ 101 ∷ 112 ∷ 9 ∷ []) ++ t)) ≡ S.with_one (numbered S.step) (split 9 t)
unfolding split on_first made Says same
word_fields t = (says_step (115 ∷ 116 ∷ 101 ∷ 112 ∷ []) refl).0 (split 9 t)

word_end : (t : List ℕ) → index_of 10 ((115 ∷ 116 ∷ 101 ∷ 112 ∷ 9 ∷ []) ++ t) ≡ 5 + index_of 10 t
unfolding index_of
word_end t = omega arith

module _ (s : List ℕ) (at : ℕ) (h : at + 7 ≤ length s) (r : Bool) (p : r ≡ same (slice at (at + 5) s) (115 ∷ 116 ∷ 101 ∷ 112 ∷ 9 ∷ [])) (y : r ≡ true)
    (e : ℕ) (q : e ≡ at + 5 + index_of 10 (slice (at + 5) (length s) s)) (l : (e ≡ length s) → ⊥) where
  pub end_in : (at + 5 ≤ e) × (e < length s)
  end_in = let w = end_within 10 (at + 5) (length s) s (omega arith) (omega arith) in (omega arith, lt e (length s) (omega arith) l)
    where
      lt : (a b : ℕ) → a ≤ b → (a ≡ b → ⊥) → a < b
      lt a b u v = omega (arith, v)

  begins : (b : ℕ) → at + 5 ≤ b → slice at b s ≡ (115 ∷ 116 ∷ 101 ∷ 112 ∷ 9 ∷ []) ++ slice (at + 5) b s
  begins b k = span_append at 4 b s k ∙ ap (λ (t : List ℕ). t ++ slice (at + 5) b s) (same_eq _ _ (T_of (sym p ∙ y)))

  pub step_reads : (v : ℕ) → Some v ≡ option_of (number (slice (at + 5) e s)) → StepReads s at (Some (v, e + 1))
  unfolding StepReads entry_in
  step_reads v m =
      let b = end_in in
      let z : e ≡ at + index_of 10 (slice at (length s) s) = q ∙ (let u = ap (index_of 10) (begins (length s) (omega arith)) ∙ word_end (slice (at + 5) (length s) s) in omega arith) in (
        omega arith,
        omega arith,
        reads_line s at (omega arith) e z b.1 (Step v)
            (sym (ap (λ (t : List ℕ). S.entry (split 9 t)) (begins e b.0) ∙ word_fields (slice (at + 5) e s) ∙ one_number_lem (slice (at + 5) e s) v (num_is _ _ v refl m))),
      )

pub not_step : (s : List ℕ) (at : ℕ) → StepReads s at None
unfolding StepReads
not_step s at = tt

pub step_told : (s : List ℕ) (at k next : ℕ) → StepReads s at (Some (k, next)) → (at < next) × (next ≤ length s) × Reads s at next (Step k) × InText s at (Step k)
unfolding StepReads InText
step_told s at k next w = (w.0, w.1, w.2, tt)
