-- Where the names are lent, and not how many types there are, all eight entries are looked at: those of no type are empty, and a
-- type's name is not. Assumes nothing.
use Prim.Native.Nat.{ℕ, zero, suc, ◌+◌, ◌≤◌, ◌<◌}
use native.Mathlib.Omega.{arith}
use Rattle.std.specs.Prelude.{◌≡◌, Bool, ◌||◌, List, [], ◌∷◌, drop, if◌then◌else◌}
use Rattle.std.proofs.Math.Path.{refl, sym, ap}
use Rattle.std.proofs.Common.{◌∙◌}
use Rattle.std.proofs.Math.Bool.{true, false}
use Rattle.std.proofs.Math.Option.{Option, none, some}
use Rattle.std.proofs.Math.ListN.{get_or}
use Rattle.std.proofs.Math.Seq.{slice}
use Rattle.definitions.specs.Lists.{same, any, option, position}
use Rattle.definitions.specs.Sheet.Text.{is_relation_name, is_variable}
use Rattle.definitions.specs.Sheet.Formula.{Quantified, is_quantified, type_number, sort_named, sort_of, is_type, has_type}
use Rattle.laws.specs.Writing.{and_r}
use Rattle.read_names.specs.Signatures.{names_from, types_in, NoFurther}

any_is : {A : Type 0} (p : A → Bool) (xs : List A) → any p xs ≡ option (position p xs) false (λ _. true)
unfolding any position option
any_is p [] = refl
any_is p (x ∷ xs) = rw (any_is p xs) (by_test (p x) (position p xs))
  where
    by_test : (b : Bool) (o : Option ℕ) → (b || option o false (λ _. true)) ≡ option (if b then some zero else option o none (λ i. some (suc i))) false (λ _. true)
    by_test true o = refl
    by_test false none = refl
    by_test false (some i) = refl

drop_none : (n : ℕ) → drop {A = ℕ} n [] ≡ []
drop_none zero = refl
drop_none (suc n) = refl

no_name : (name : List ℕ) → is_relation_name name ≡ true → same [] name ≡ false
unfolding is_relation_name same
no_name [] e = let z : ◌≡◌ {A = ℕ} 0 1 = cc in absurd (omega arith)
no_name (x ∷ xs) e = refl

module _ (q from to name : List ℕ) (named : is_relation_name name ≡ true) where
  other_name : (i : ℕ) → get_or to i 0 ≡ 0 → same (slice (get_or from i 0) (get_or to i 0) q) name ≡ false
  other_name i e = rw (e, drop_none (get_or from i 0)) (no_name name named)

  none_of : (i n : ℕ) → ((j : ℕ) → j < n → get_or to (i + j) 0 ≡ 0) → position (λ t. same t name) (names_from q from to i n) ≡ none
  unfolding position names_from option
  none_of i zero h = refl
  none_of i (suc n) h =
      let z : i + 0 ≡ i = omega arith in
      let e : get_or to i 0 ≡ 0 = ap (λ (m : ℕ). get_or to m 0) (sym z) ∙ h 0 (omega arith) in
      rw (other_name i e, none_of (suc i) n (λ j l. let y : suc i + j ≡ i + suc j = omega arith in ap (λ (m : ℕ). get_or to m 0) y ∙ h (suc j) (omega arith)))

  first_of : (i k n : ℕ) → k ≤ n → ((j : ℕ) → k ≤ j → j < n → get_or to (i + j) 0 ≡ 0) → position (λ t. same t name) (names_from q from to i n) ≡ position (λ t. same t name) (names_from q from to i k)
  unfolding position names_from
  first_of i zero n h e = none_of i n (λ j l. e j (omega arith) l)
  first_of i (suc k) zero h e = absurd (omega arith)
  first_of i (suc k) (suc n) h e =
      rw (first_of (suc i) k n (omega arith) (λ j a b. let y : suc i + j ≡ i + suc j = omega arith in ap (λ (m : ℕ). get_or to m 0) y ∙ e (suc j) (omega arith) (omega arith)))

  module _ (k : ℕ) (h : k ≤ 8) (e : NoFurther to k) where
    pub number_in : type_number (types_in q from to 8) name ≡ type_number (types_in q from to k) name
    unfolding type_number
    number_in = first_of 13 k 8 h (λ j a b. e j a b)

    pub any_in : any (λ t. same t name) (types_in q from to 8) ≡ any (λ t. same t name) (types_in q from to k)
    unfolding type_number
    any_in = any_is (λ t. same t name) (types_in q from to 8) ∙ ap (λ (o : Option ℕ). option o false (λ _. true)) number_in ∙ sym (any_is (λ t. same t name) (types_in q from to k))

-- of a quantified variable: whether its type is there, and its sort
module _ (q from to : List ℕ) (k : ℕ) (h : k ≤ 8) (e : NoFurther to k) where
  type_in : (v : List ℕ) (t : Option (List ℕ)) → option t true is_relation_name ≡ true → has_type (types_in q from to 8) (record { variable = v; type = t }) ≡ has_type (types_in q from to k) (record { variable = v; type = t })
  unfolding has_type is_type option
  type_in v none w = refl
  type_in v (some name) w = any_in q from to name w k h e

  pub has_type_in : (x : Quantified) → is_quantified x ≡ true → has_type (types_in q from to 8) x ≡ has_type (types_in q from to k) x
  unfolding is_quantified
  has_type_in x w = type_in x.variable x.type (and_r (is_variable x.variable) (option x.type true is_relation_name) w)

  sort_of_lem : (v : List ℕ) (t : Option (List ℕ)) → option t true is_relation_name ≡ true → sort_of (types_in q from to 8) (record { variable = v; type = t }) ≡ sort_of (types_in q from to k) (record { variable = v; type = t })
  unfolding sort_of sort_named option
  sort_of_lem v none w = refl
  sort_of_lem v (some name) w = ap (λ (o : Option ℕ). option o zero suc) (number_in q from to name w k h e)

  pub sort_in : (x : Quantified) → is_quantified x ≡ true → sort_of (types_in q from to 8) x ≡ sort_of (types_in q from to k) x
  unfolding is_quantified
  sort_in x w = sort_of_lem x.variable x.type (and_r (is_variable x.variable) (option x.type true is_relation_name) w)
