-- What is said of a formula, from what is said of its parts. Assumes nothing.
use Rattle.std.specs.Prelude.{ℕ, ◌+◌, ◌≤◌, max, ◌≡◌, Bool, true, ◌&&◌, List, [], ◌∷◌, ◌++◌}
use Rattle.std.proofs.Common.{arith, sym, ◌∙◌}
use Rattle.std.proofs.Math.Path.{refl, ap}
use Rattle.std.proofs.Math.Bool.{false}
use Rattle.std.proofs.Math.ListN.{length, length-append}
use Rattle.std.proofs.lemmas.List.{length-map}
use Rattle.std.proofs.Math.Dec.{leb}
use borrow.Author.Tests.{le-leb, lt-leb, leb-true, leb-false}
use Rattle.definitions.specs.Lists.{all}
use Rattle.definitions.specs.Sheet.Relations.{Relation}
use Rattle.definitions.specs.Sheet.Formula.{Join, ands, ors, Quant, somes, everys, Formula, literal, negation, implication, join, quant, Formulas, nil, cons, forms, nesting, nesting_all, Quantified, variables_of, is_known, is_scoped, are_scoped, is_bound, are_new, is_typed, has_type}
use Rattle.read_names.specs.Signatures.{has_arity}
use Rattle.read_rule.specs.Seen.{facts, facts_all, both_facts, one_more, lit_facts, quant_facts, var_facts, vars_facts, typed_facts, more_facts, nought}
use Rattle.read_rule.specs.declared.Facts.{Facts}

pub facts_eq : (n m : ℕ) (a b c d w x y z : Bool) → n ≡ m → a ≡ w → b ≡ x → c ≡ y → d ≡ z → ◌≡◌ {A = Facts} (record { forms = n; fits = a; known = b; scoped = c; typed = d }) (record { forms = m; fits = w; known = x; scoped = y; typed = z })
facts_eq n m a b c d w x y z e h i j k = rw (e, h, i, j, k)

-- the deeper of two parts fits if both do
pub leb_max : (n x y : ℕ) → leb (n + max x y) 4 ≡ (leb (n + x) 4 && leb (n + y) 4)
leb_max n x y = by_test (leb (n + x) 4) refl (leb (n + y) 4) refl
  where
    by_test : (a : Bool) → leb (n + x) 4 ≡ a → (b : Bool) → leb (n + y) 4 ≡ b → leb (n + max x y) 4 ≡ (a && b)
    by_test true e true h = le-leb (n + max x y) 4 (omega (arith, leb-true (n + x) 4 e, leb-true (n + y) 4 h))
    by_test true e false h = lt-leb (n + max x y) 4 (omega (arith, leb-false (n + y) 4 h))
    by_test false e b h = lt-leb (n + max x y) 4 (omega (arith, leb-false (n + x) 4 e))

four_and : (a b x y : Bool) → ((a && b) && (x && y)) ≡ ((a && x) && (b && y))
four_and true true x y = refl
four_and true false true y = refl
four_and true false false y = refl
four_and false b x y = refl

pub length_variables : (qs : List Quantified) → length (variables_of qs) ≡ length qs
unfolding variables_of
length_variables qs = length-map qs (λ (q : Quantified). q.variable)

module _ (rs : List Relation) (types sc : List (List ℕ)) where
  pub neg_facts : (f : Formula) → facts rs types sc (negation f) ≡ one_more (facts rs types sc f)
  unfolding facts forms nesting is_known is_scoped is_typed
  neg_facts f = refl

  pub all_facts : (f : Formula) (fs : Formulas) → facts_all rs types sc (cons f fs) ≡ both_facts (facts rs types sc f) (facts_all rs types sc fs)
  unfolding facts facts_all forms nesting is_known is_scoped is_typed
  all_facts f fs = facts_eq _ _ _ _ _ _ _ _ _ _ refl (leb_max (length sc) (nesting f) (nesting_all fs)) refl
      (ap (λ (b : Bool). b && (is_scoped sc f && are_scoped sc fs)) (leb_max (length sc) (nesting f) (nesting_all fs)) ∙ four_and (leb (length sc + nesting f) 4) (leb (length sc + nesting_all fs) 4) (is_scoped sc f) (are_scoped sc fs)) refl

  pub imp_facts : (f g : Formula) → facts rs types sc (implication f g) ≡ one_more (both_facts (facts rs types sc f) (facts rs types sc g))
  unfolding facts forms nesting is_known is_scoped is_typed
  imp_facts f g = facts_eq _ _ _ _ _ _ _ _ _ _ (omega arith) (leb_max (length sc) (nesting f) (nesting g)) refl
      (ap (λ (b : Bool). b && (is_scoped sc f && is_scoped sc g)) (leb_max (length sc) (nesting f) (nesting g)) ∙ four_and (leb (length sc + nesting f) 4) (leb (length sc + nesting g) 4) (is_scoped sc f) (is_scoped sc g)) refl

  join_one : (j : Join) (f : Formula) (fs : Formulas) → facts rs types sc (join j (cons f fs)) ≡ one_more (facts_all rs types sc (cons f fs))
  unfolding facts facts_all forms nesting is_known is_scoped is_typed
  join_one ands f fs = refl
  join_one ors f fs = refl

  pub join_facts : (j : Join) (f : Formula) (fs : Formulas) → facts rs types sc (join j (cons f fs)) ≡ one_more (both_facts (facts rs types sc f) (facts_all rs types sc fs))
  join_facts j f fs = join_one j f fs ∙ ap (λ (x : Facts). one_more x) (all_facts f fs)

  pub nil_facts : length sc ≤ 4 → facts_all rs types sc nil ≡ nought []
  unfolding facts_all forms nesting is_known is_scoped is_typed
  nil_facts h = facts_eq _ _ _ _ _ _ _ _ _ _ refl (le-leb (length sc + 0) 4 (omega arith)) refl (ap (λ (b : Bool). b && true) (le-leb (length sc + 0) 4 (omega arith))) refl

  pub lit_facts_lem : (n : List ℕ) (vs : List (List ℕ)) → length sc ≤ 4 → facts rs types sc (literal n vs) ≡ lit_facts rs n (vars_facts sc vs)
  unfolding facts forms nesting is_known is_scoped is_typed has_arity
  lit_facts_lem n vs h = facts_eq _ _ _ _ _ _ _ _ _ _ refl (le-leb (length sc + 0) 4 (omega arith)) refl (ap (λ (b : Bool). b && all (is_bound sc) vs) (le-leb (length sc + 0) 4 (omega arith))) refl

  pub vars_facts_lem : (v : List ℕ) (vs : List (List ℕ)) → vars_facts sc (v ∷ vs) ≡ both_facts (var_facts sc v) (vars_facts sc vs)
  unfolding all
  vars_facts_lem v vs = facts_eq _ _ _ _ _ _ _ _ _ _ (omega arith) refl refl refl refl

  pub more_facts_lem : (q : Quantified) (qs : List Quantified) → more_facts types (q ∷ qs) ≡ both_facts (typed_facts types q) (more_facts types qs)
  unfolding all
  more_facts_lem q qs = facts_eq _ _ _ _ _ _ _ _ _ _ (omega arith) refl refl refl refl

  -- a quantifier's, whichever it is
  quant_one : (k : Quant) (qs : List Quantified) (f : Formula) → facts rs types sc (quant k qs f) ≡ record {
    forms = length qs + forms f;
    fits = leb (length sc + (length qs + nesting f)) 4;
    known = is_known rs f;
    scoped = leb (length sc + (length qs + nesting f)) 4 && (are_new sc (variables_of qs) && is_scoped (sc ++ variables_of qs) f);
    typed = all (has_type types) qs && is_typed types f;
  }
  unfolding facts forms nesting is_known is_scoped is_typed
  quant_one somes qs f = refl
  quant_one everys qs f = refl

  module _ (qs : List Quantified) (k : Quant) (f : Formula) where
    -- the variables fit, and the part is looked at within them
    quant_in : (fresh : Bool) → leb (length sc + length qs) 4 ≡ true → fresh ≡ are_new sc (variables_of qs) → facts rs types sc (quant k qs f) ≡ quant_facts (more_facts types qs) true fresh (facts rs types (sc ++ variables_of qs) f)
    unfolding facts
    quant_in fresh h e =
        quant_one k qs f ∙ facts_eq _ _ _ _ _ _ _ _ _ _ refl same_fit refl
        (ap (λ (b : Bool). b && (are_new sc (variables_of qs) && is_scoped (sc ++ variables_of qs) f)) same_fit
        ∙ turn (leb (length (sc ++ variables_of qs) + nesting f) 4) (are_new sc (variables_of qs)) (is_scoped (sc ++ variables_of qs) f)
        ∙ ap (λ (b : Bool). b && (leb (length (sc ++ variables_of qs) + nesting f) 4 && is_scoped (sc ++ variables_of qs) f)) (sym e)) refl
      where
        same_fit : leb (length sc + (length qs + nesting f)) 4 ≡ leb (length (sc ++ variables_of qs) + nesting f) 4
        same_fit = let e : length sc + (length qs + nesting f) ≡ length (sc ++ variables_of qs) + nesting f = omega (arith, length-append sc (variables_of qs), length_variables qs) in ap (λ (n : ℕ). leb n 4) e

        turn : (a b c : Bool) → (a && (b && c)) ≡ (b && (a && c))
        turn true b c = refl
        turn false true c = refl
        turn false false c = refl

    -- they do not: nothing fits
    quant_out : (fresh : Bool) (around : List (List ℕ)) → leb (length sc + length qs) 4 ≡ false → facts rs types sc (quant k qs f) ≡ quant_facts (more_facts types qs) false fresh (facts rs types around f)
    unfolding facts
    quant_out fresh around h = quant_one k qs f ∙ facts_eq _ _ _ _ _ _ _ _ _ _ refl none_fit refl (ap (λ (b : Bool). b && (are_new sc (variables_of qs) && is_scoped (sc ++ variables_of qs) f)) none_fit) refl
      where
        none_fit : leb (length sc + (length qs + nesting f)) 4 ≡ false
        none_fit = lt-leb (length sc + (length qs + nesting f)) 4 (omega (arith, leb-false (length sc + length qs) 4 h))

    pub quant_facts_lem : (fits fresh : Bool) (around : List (List ℕ)) → fits ≡ leb (length sc + length qs) 4
        → (fits ≡ true → fresh ≡ are_new sc (variables_of qs)) → (fits ≡ true → around ≡ sc ++ variables_of qs) → facts rs types sc (quant k qs f)
        ≡ quant_facts (more_facts types qs) fits fresh (facts rs types around f)
    quant_facts_lem true fresh around e new is = quant_in fresh (sym e) (new refl) ∙ ap (λ (x : List (List ℕ)). quant_facts (more_facts types qs) true fresh (facts rs types x f)) (sym (is refl))
    quant_facts_lem false fresh around e new is = quant_out fresh around (sym e)
