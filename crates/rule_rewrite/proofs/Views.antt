-- A formula of its form by its kind: its parts, their places in the text, and that they are accepted too. Assumes nothing.
use Prim.Native.Nat.{ℕ, ◌+◌, ◌≤◌, max}
use native.Mathlib.Omega.{arith}
use mathlib.Core.Path.{◌≡◌, refl, sym, ap, ◌∙◌}
use mathlib.Core.Bool.{Bool, true, false, ◌&&◌}
use mathlib.Core.List.{List, ◌∷◌, ◌++◌, append_assoc}
use lib.ListN.{length, length-append}
use Rattle.definitions.specs.Sheet.Text.{is_relation_name}
use Rattle.definitions.specs.Sheet.Relations.{Relation}
use Rattle.definitions.specs.Sheet.Formula.{Quantified, variables_of, AllQuantified, Formula, Formulas, literal, negation, implication, conjunction}
use Rattle.definitions.specs.Sheet.Formula.{disjunction, exists, forall, cons, Join, ands, ors, Quant, somes, everys, join, quant, write_vars, write}
use Rattle.definitions.specs.Sheet.Formula.{Variables, WellFormed, g_lit, g_neg, g_imp, g_and, g_or, g_exists, g_forall, AllWellFormed, a_good, forms}
use Rattle.definitions.specs.Sheet.Formula.{forms_all, nesting, nesting_all, is_known, are_known}
use Rattle.definitions.specs.Sheet.Parsing.{begins, Head, is_not, is_implies, is_and, is_or, is_exists, is_forall, is_other, kind_of}
use Rattle.laws.specs.Writing.{and_l, and_r, name_is, kind_lit}
use Rattle.read_rule.specs.Said.{length_variables}
use Rattle.rule_rewrite.specs.Ready.{as_join, as_quant, join_head, quant_head, Fine, AllFine}

-- ---- the kind
unfoldable pub form_head : Formula → Head
form_head (literal n vs) = is_other
form_head (negation f) = is_not
form_head (implication f g) = is_implies
form_head (conjunction fs) = is_and
form_head (disjunction fs) = is_or
form_head (exists vs f) = is_exists
form_head (forall vs f) = is_forall

pub lay_literal : (n : List ℕ) (vs : List (List ℕ)) (m : List ℕ) → write (literal n vs) ++ m ≡ 40 ∷ (n ++ (write_vars vs ++ (41 ∷ m)))
unfolding write
lay_literal n vs m = simp append_assoc

kind_literal : (n : List ℕ) (vs : List (List ℕ)) (r : List ℕ) → is_relation_name n ≡ true → kind_of (write (literal n vs) ++ r) ≡ is_other
kind_literal n vs r h =
    let w = name_is n h in
    ap (λ (l : List ℕ). kind_of l) (lay_literal n vs r ∙ ap (λ (m : List ℕ). 40 ∷ (m ++ (write_vars vs ++ (41 ∷ r)))) w.is)
    ∙ kind_lit w.head (w.tail ++ (write_vars vs ++ (41 ∷ r))) w.starts

pub kind_of_lem : {k : ℕ} {f : Formula} → WellFormed k f → (r : List ℕ) → kind_of (write f ++ r) ≡ form_head f
unfolding form_head kind_of begins write
kind_of_lem (g_lit {n = n} {v = v} {vs = vs} h ws) r = kind_literal n (v ∷ vs) r h
kind_of_lem (g_neg h) r = refl
kind_of_lem (g_imp h i) r = refl
kind_of_lem (g_and h hs) r = refl
kind_of_lem (g_or h hs) r = refl
kind_of_lem (g_exists ws le h) r = refl
kind_of_lem (g_forall ws le h) r = refl

-- ---- the parts, by the kind
pub record IsLit (f : Formula) : Type 0 where
  pub n : List ℕ
  pub v : List ℕ
  pub vs : List (List ℕ)
  pub is : f ≡ literal n (v ∷ vs)
  pub name : is_relation_name n ≡ true
  pub words : Variables (v ∷ vs)

pub record IsNeg (f : Formula) : Type 0 where
  pub g : Formula
  pub is : f ≡ negation g

pub record IsImp (f : Formula) : Type 0 where
  pub g : Formula
  pub h : Formula
  pub is : f ≡ implication g h

pub record IsJoin (j : Join) (f : Formula) : Type 0 where
  pub g : Formula
  pub gs : Formulas
  pub is : f ≡ join j (cons g gs)

pub record IsQuant (k : Quant) (f : Formula) : Type 0 where
  pub q : Quantified
  pub qs : List Quantified
  pub g : Formula
  pub is : f ≡ quant k (q ∷ qs) g
  pub words : AllQuantified (q ∷ qs)

clash : {A : Type 0} → ◌≡◌ {A = ℕ} 0 1 → A
clash z = absurd (omega arith)

pub as_lit : {k : ℕ} {f : Formula} → WellFormed k f → form_head f ≡ is_other → IsLit f
unfolding form_head
as_lit (g_lit {n = n} {v = v} {vs = vs} h ws) e = record { n = n; v = v; vs = vs; is = refl; name = h; words = ws }
as_lit (g_neg h) e = clash cc
as_lit (g_imp h i) e = clash cc
as_lit (g_and h hs) e = clash cc
as_lit (g_or h hs) e = clash cc
as_lit (g_exists ws le h) e = clash cc
as_lit (g_forall ws le h) e = clash cc

pub as_neg : {k : ℕ} {f : Formula} → WellFormed k f → form_head f ≡ is_not → IsNeg f
unfolding form_head
as_neg (g_lit h ws) e = clash cc
as_neg (g_neg {f = f} h) e = record { g = f; is = refl }
as_neg (g_imp h i) e = clash cc
as_neg (g_and h hs) e = clash cc
as_neg (g_or h hs) e = clash cc
as_neg (g_exists ws le h) e = clash cc
as_neg (g_forall ws le h) e = clash cc

pub as_imp : {k : ℕ} {f : Formula} → WellFormed k f → form_head f ≡ is_implies → IsImp f
unfolding form_head
as_imp (g_lit h ws) e = clash cc
as_imp (g_neg h) e = clash cc
as_imp (g_imp {f = f} {g = g} h i) e = record { g = f; h = g; is = refl }
as_imp (g_and h hs) e = clash cc
as_imp (g_or h hs) e = clash cc
as_imp (g_exists ws le h) e = clash cc
as_imp (g_forall ws le h) e = clash cc

pub as_join_lem : (b : Bool) {k : ℕ} {f : Formula} → WellFormed k f → form_head f ≡ join_head b → IsJoin (as_join b) f
unfolding form_head
as_join_lem true (g_lit h ws) e = clash cc
as_join_lem true (g_neg h) e = clash cc
as_join_lem true (g_imp h i) e = clash cc
as_join_lem true (g_and {f = f} {fs = fs} h hs) e = record { g = f; gs = fs; is = refl }
as_join_lem true (g_or h hs) e = clash cc
as_join_lem true (g_exists ws le h) e = clash cc
as_join_lem true (g_forall ws le h) e = clash cc
as_join_lem false (g_lit h ws) e = clash cc
as_join_lem false (g_neg h) e = clash cc
as_join_lem false (g_imp h i) e = clash cc
as_join_lem false (g_and h hs) e = clash cc
as_join_lem false (g_or {f = f} {fs = fs} h hs) e = record { g = f; gs = fs; is = refl }
as_join_lem false (g_exists ws le h) e = clash cc
as_join_lem false (g_forall ws le h) e = clash cc

pub as_quant_lem : (b : Bool) {k : ℕ} {f : Formula} → WellFormed k f → form_head f ≡ quant_head b → IsQuant (as_quant b) f
unfolding form_head
as_quant_lem true (g_lit h ws) e = clash cc
as_quant_lem true (g_neg h) e = clash cc
as_quant_lem true (g_imp h i) e = clash cc
as_quant_lem true (g_and h hs) e = clash cc
as_quant_lem true (g_or h hs) e = clash cc
as_quant_lem true (g_exists {q = q} {qs = qs} {f = f} ws le h) e = record { q = q; qs = qs; g = f; is = refl; words = ws }
as_quant_lem true (g_forall ws le h) e = clash cc
as_quant_lem false (g_lit h ws) e = clash cc
as_quant_lem false (g_neg h) e = clash cc
as_quant_lem false (g_imp h i) e = clash cc
as_quant_lem false (g_and h hs) e = clash cc
as_quant_lem false (g_or h hs) e = clash cc
as_quant_lem false (g_exists ws le h) e = clash cc
as_quant_lem false (g_forall {q = q} {qs = qs} {f = f} ws le h) e = record { q = q; qs = qs; g = f; is = refl; words = ws }

-- ---- the parts of a formula that was accepted were accepted
pub record Deep (f : Formula) : Type 0 where
  pub depth : ℕ
  pub good : WellFormed depth f

pub record AllDeep (fs : Formulas) : Type 0 where
  pub depth : ℕ
  pub good : AllWellFormed depth fs

deep_neg : {k : ℕ} {f : Formula} → WellFormed k (negation f) → Deep f
deep_neg (g_neg {k = k} h) = record { depth = k; good = h }

deep_imp : {k : ℕ} {f g : Formula} → WellFormed k (implication f g) → Deep f × Deep g
deep_imp (g_imp {k = k} h i) = (record { depth = k; good = h }, record { depth = k; good = i })

deep_join : (j : Join) {k : ℕ} (f : Formula) (fs : Formulas) → WellFormed k (join j (cons f fs)) → Deep f × AllDeep fs
deep_join ands f fs (g_and {k = k} h hs) = (record { depth = k; good = h }, record { depth = k; good = hs })
deep_join ors f fs (g_or {k = k} h hs) = (record { depth = k; good = h }, record { depth = k; good = hs })

deep_quant : (q : Quant) {k : ℕ} (qs : List Quantified) (f : Formula) → WellFormed k (quant q qs f) → Deep f
deep_quant somes qs f (g_exists {k = k} ws le h) = record { depth = k; good = h }
deep_quant everys qs f (g_forall {k = k} ws le h) = record { depth = k; good = h }

deep_parts : {k : ℕ} {f : Formula} {fs : Formulas} → AllWellFormed k (cons f fs) → Deep f × AllDeep fs
deep_parts (a_good {k = k} h hs) = (record { depth = k; good = h }, record { depth = k; good = hs })

pub join_forms : (j : Join) (f : Formula) (fs : Formulas) → forms (join j (cons f fs)) ≡ 1 + (forms f + forms_all fs)
unfolding forms
join_forms ands f fs = refl
join_forms ors f fs = refl

join_nesting : (j : Join) (f : Formula) (fs : Formulas) → nesting (join j (cons f fs)) ≡ max (nesting f) (nesting_all fs)
unfolding nesting
join_nesting ands f fs = refl
join_nesting ors f fs = refl

join_known : (rs : List Relation) (j : Join) (f : Formula) (fs : Formulas) → is_known rs (join j (cons f fs)) ≡ (is_known rs f && are_known rs fs)
unfolding is_known
join_known rs ands f fs = refl
join_known rs ors f fs = refl

pub quant_forms : (q : Quant) (qs : List Quantified) (f : Formula) → forms (quant q qs f) ≡ length qs + forms f
unfolding forms
quant_forms somes qs f = refl
quant_forms everys qs f = refl

pub quant_nesting : (q : Quant) (qs : List Quantified) (f : Formula) → nesting (quant q qs f) ≡ length qs + nesting f
unfolding nesting
quant_nesting somes qs f = refl
quant_nesting everys qs f = refl

quant_known : (rs : List Relation) (q : Quant) (qs : List Quantified) (f : Formula) → is_known rs (quant q qs f) ≡ is_known rs f
unfolding is_known
quant_known rs somes qs f = refl
quant_known rs everys qs f = refl

module _ (rs : List Relation) (sc : List (List ℕ)) (n m : ℕ) where
  pub fine_neg : (f : Formula) → Fine rs sc n m (negation f) → Fine rs sc n m f
  unfolding forms nesting is_known
  fine_neg f w = let d = deep_neg w.good in record { depth = d.depth; good = d.good; rows = omega (arith, w.rows); nodes = omega (arith, w.nodes); deep = w.deep; known = w.known }

  pub fine_imp_1 : (f g : Formula) → Fine rs sc n m (implication f g) → Fine rs sc n (m + 1) f
  unfolding forms nesting is_known
  fine_imp_1 f g w = let d = (deep_imp w.good).0 in record { depth = d.depth; good = d.good; rows = omega (arith, w.rows); nodes = omega (arith, w.nodes); deep = omega (arith, w.deep); known = and_l (is_known rs f) (is_known rs g) w.known }

  pub fine_imp_2 : (f g : Formula) (n' m' : ℕ) → n' ≤ n + forms f → m' ≤ (m + 1) + forms f → Fine rs sc n m (implication f g) → Fine rs sc n' m' g
  unfolding forms nesting is_known
  fine_imp_2 f g n' m' a b w = let d = (deep_imp w.good).1 in record { depth = d.depth; good = d.good; rows = omega (arith, w.rows); nodes = omega (arith, w.nodes); deep = omega (arith, w.deep); known = and_r (is_known rs f) (is_known rs g) w.known }

  pub fine_join_1 : (j : Join) (f : Formula) (fs : Formulas) → Fine rs sc n m (join j (cons f fs)) → Fine rs sc n (m + 1) f
  fine_join_1 j f fs w = let d =
      (deep_join j f fs w.good).0 in record {
        depth = d.depth;
        good = d.good;
        rows = omega (arith, w.rows, join_forms j f fs);
        nodes = omega
            (arith, w.nodes, join_forms j f fs);
        deep = omega (arith, w.deep, join_nesting j f fs);
        known = and_l (is_known rs f) (are_known rs fs)
            (sym (join_known rs j f fs) ∙ w.known);
      }

  pub fine_join_2 : (j : Join) (f : Formula) (fs : Formulas) (n' m' : ℕ) → n' ≤ n + forms f → m' ≤ (m + 1) + forms f → Fine rs sc n m (join j (cons f fs)) → AllFine rs sc n' m' fs
  fine_join_2 j f fs n' m' a b w = let d = (deep_join j f fs w.good).1 in
      record {
        depth = d.depth;
        good = d.good;
        rows = omega (arith, w.rows, join_forms j f fs);
        nodes = omega (arith, w.nodes, join_forms j f fs);
        deep = omega (arith, w.deep, join_nesting j f fs);
        known = and_r (is_known rs f) (are_known rs fs) (sym (join_known rs j f fs) ∙ w.known);
      }

  pub fine_quant : (q : Quant) (qs : List Quantified) (f : Formula) (sc' : List (List ℕ)) → sc' ≡ sc ++ variables_of qs → Fine rs sc n m (quant q qs f) → Fine rs sc' n (m + length qs) f
  fine_quant q qs f sc' e w = let d = deep_quant q qs f w.good in
      record {
        depth = d.depth;
        good = d.good;
        rows = omega (arith, w.rows, quant_forms q qs f);
        nodes = omega
            (arith, w.nodes, quant_forms q qs f);
        deep = omega
            (arith, w.deep, quant_nesting q qs f, ap length e, length-append sc (variables_of qs), length_variables qs);
        known = sym (quant_known rs q qs f)
            ∙ w.known;
      }

  pub fine_part : (f : Formula) (fs : Formulas) → AllFine rs sc n m (cons f fs) → Fine rs sc n m f
  unfolding forms nesting is_known
  fine_part f fs w = let d = (deep_parts w.good).0 in record { depth = d.depth; good = d.good; rows = omega (arith, w.rows); nodes = omega (arith, w.nodes); deep = omega (arith, w.deep); known = and_l (is_known rs f) (are_known rs fs) w.known }

  pub fine_parts : (f : Formula) (fs : Formulas) (n' m' : ℕ) → n' ≤ n + forms f → m' ≤ m + forms f → AllFine rs sc n m (cons f fs) → AllFine rs sc n' m' fs
  unfolding forms nesting is_known
  fine_parts f fs n' m' a b w = let d = (deep_parts w.good).1 in record { depth = d.depth; good = d.good; rows = omega (arith, w.rows); nodes = omega (arith, w.nodes); deep = omega (arith, w.deep); known = and_r (is_known rs f) (are_known rs fs) w.known }
