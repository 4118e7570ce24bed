-- What is said of a formula does not depend on the kinds of the relations, nor, once it is read, on how many types there are where the
-- entries of the others are empty. Assumes nothing.
use Rattle.std.specs.Prelude.{Some, None, is_some}
use Rattle.std.specs.Prelude as P
use Prim.Native.Nat.{ℕ, ◌+◌, ◌-◌, ◌≤◌}
use mathlib.Core.Path.{◌≡◌, refl, ap, ◌∙◌}
use mathlib.Core.Bool.{Bool, true, ◌&&◌}
use mathlib.Core.List.{List}
use lib.ListN.{length}
use Rattle.definitions.specs.Lists.{any, all, same}
use Rattle.definitions.specs.Sheet.Relations.{Relation}
use Rattle.definitions.specs.Sheet.Formula.{Quantified, is_quantified, Words, no_words, a_word, has_type, Formula, literal, negation, implication}
use Rattle.definitions.specs.Sheet.Formula.{conjunction, disjunction, exists, forall, Formulas, nil, cons, WellFormed, g_lit, g_neg, g_imp, g_and, g_or}
use Rattle.definitions.specs.Sheet.Formula.{g_exists, g_forall, AllWellFormed, no_goods, a_good, is_known, are_known, is_typed, are_typed, type_number}
use Rattle.definitions.specs.Sheet.Parsing.{Res, bad, ok, read}
use Rattle.laws.specs.Writing.{sound}
use Rattle.read_text.specs.Spans.{option_of}
use Rattle.read_names.specs.Signatures.{has_arity, lent_of, all_of, types_in, types_of, NoFurther}
use Rattle.read_names.specs.Types.{has_type_in}
use Rattle.read_names.specs.declared.Signature.{Signature}
use Rattle.read_names.proofs.Laws.{any_lent, any_found, any_missed, found_some, found_none}
use Rattle.read_rule.specs.Seen.{seen, facts}
use Rattle.read_rule.specs.Said.{facts_eq}
use Rattle.read_rule.specs.declared.Facts.{Facts}
use Rattle.std.specs.Prelude.{Some}

module _ (rs qs : List Relation) (h : (name : List ℕ) (k : ℕ) → any (has_arity name k) rs ≡ any (has_arity name k) qs) where
  mutual
    unfolding is_known has_arity

    known_as : (f : Formula) → is_known rs f ≡ is_known qs f
    known_as (literal r vs) = h r (length vs)
    known_as (negation f) = known_as f
    known_as (implication f g) = ap (λ (b : Bool). b && is_known rs g) (known_as f) ∙ ap (λ (b : Bool). is_known qs f && b) (known_as g)
    known_as (conjunction fs) = all_as fs
    known_as (disjunction fs) = all_as fs
    known_as (exists vs f) = known_as f
    known_as (forall vs f) = known_as f

    all_as : (fs : Formulas) → are_known rs fs ≡ are_known qs fs
    all_as nil = refl
    all_as (cons f fs) = ap (λ (b : Bool). b && are_known rs fs) (known_as f) ∙ ap (λ (b : Bool). is_known qs f && b) (all_as fs)

module _ (ts us : List (List ℕ)) (h : (q : Quantified) → is_quantified q ≡ true → has_type ts q ≡ has_type us q) where
  list_as : {qs : List Quantified} → Words is_quantified qs → all (has_type ts) qs ≡ all (has_type us) qs
  unfolding all
  list_as no_words = refl
  list_as (a_word {v = q} w ws) = rw (h q w, list_as ws)

  mutual
    unfolding is_typed

    typed_as : {k : ℕ} {f : Formula} → WellFormed k f → is_typed ts f ≡ is_typed us f
    typed_as (g_lit a b) = refl
    typed_as (g_neg a) = typed_as a
    typed_as (g_imp a b) = rw (typed_as a, typed_as b)
    typed_as (g_and a rest) = rw (typed_as a, each_as rest)
    typed_as (g_or a rest) = rw (typed_as a, each_as rest)
    typed_as (g_exists ws l a) = rw (list_as ws, typed_as a)
    typed_as (g_forall ws l a) = rw (list_as ws, typed_as a)

    each_as : {k : ℕ} {fs : Formulas} → AllWellFormed k fs → are_typed ts fs ≡ are_typed us fs
    each_as no_goods = refl
    each_as (a_good a rest) = rw (typed_as a, each_as rest)

-- what looking a type up by its name says
pub is_type_lem : (types : List (List ℕ)) (name : List ℕ) (f : P.Option ℕ) → f ≡ option_of (type_number types name) → is_some f ≡ any (λ t. same t name) types
unfolding type_number
is_type_lem types name None w = any_missed (λ t. same t name) (λ t. same t name) (λ t. refl) types (found_none _ None refl w)
is_type_lem types name (Some i) w = any_found (λ t. same t name) (λ t. same t name) (λ t. refl) types i (found_some _ i (Some i) refl w)

-- the names and the arities of a signature say it all
pub seen_lent : (q : List ℕ) (g : Signature) (m : ℕ) → m ≡ g.rels + g.chosen + g.every → g.every ≤ 1 → g.types ≤ 8 → NoFurther g.to g.types → (sc : List (List ℕ)) (len k : ℕ) (l : List ℕ)
    → seen (facts (all_of q (lent_of g.from g.to g.arity m)) (types_in q g.from g.to 8) sc) len (read k l) ≡ seen (facts (all_of q g) (types_of q g) sc) len (read k l)
unfolding seen facts types_of
seen_lent q g m e one few none sc len k l = by_res (read k l) refl
  where
    by_res : (x : Res Formula) → read k l ≡ x
        → seen (facts (all_of q (lent_of g.from g.to g.arity m)) (types_in q g.from g.to 8) sc) len x ≡ seen (facts (all_of q g) (types_of q g) sc) len x
    by_res bad w = refl
    by_res (ok f r) w =
        ap (λ (x : Facts). Some (len - length r, x)) (facts_eq _ _ _ _ _ _ _ _ _ _ refl refl (known_as _ _ (λ name j. any_lent name j q g m e one) f) refl
        (typed_as _ _ (λ x. has_type_in q g.from g.to g.types few none x) (sound k l f r w).good))
