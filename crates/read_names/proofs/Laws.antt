-- Laws of looking a relation up by its name: one relation more, the built-in ones before those declared, arities, kinds and sorts.
use Rattle.std.specs.Prelude.{Some, None, is_some, MatchOption}
use Rattle.std.specs.Prelude as P
use Rattle.std.specs.Prelude.{if◌then◌else◌}
use Prim.Native.Nat.{ℕ, zero, suc, ◌+◌, ◌-◌, ◌≤◌, ◌<◌}
use mathlib.Core.Path.{◌≡◌, refl, sym, ap, ap₂, ◌∙◌}
use mathlib.Core.Bool.{Bool, true, false, ◌&&◌, ◌||◌, and-true}
use mathlib.Core.Option.{Option, none, some}
use mathlib.Core.List.{List, [], ◌∷◌, ◌++◌, append_assoc}
use native.Mathlib.Numerals.{add-one}
use native.Mathlib.Omega.{arith}
use lib.Dec.{eqb}
use lib.ListN.{length, get_or}
use lib.Seq.{slice, get_or-append-add}
use Rattle.definitions.specs.Lists.{same, any, option, listed, position}
use Rattle.definitions.specs.Sheet.Relations.{Relation, static, fixed, built_in, number_of, is_declared}
use Rattle.definitions.specs.Sheet.Sheets.{relations}
use Rattle.definitions.specs.Sheet.Formula.{type_number}
use Rattle.read_text.specs.Spans.{option_of, kind_of}
use Rattle.read_names.specs.declared.Signature.{Signature}
use Rattle.read_names.specs.Signatures.{is_wanted, with_arrays, lent_of, Lent, relation_in, relations_from, names_from, types_in, rels_of, chosen_of, last_of, every_of, all_of, built_in_table, matches, has_arity, counted, HasArity, HasKind, HasFirsts, HasSeconds}

-- ---- the first element that passes a test

is_there : Option ℕ → Bool
is_there o = option o false (λ _. true)

module _ {A : Type 0} where
  pub position_ext : (p q : A → Bool) → ((x : A) → p x ≡ q x) → (xs : List A) → position p xs ≡ position q xs
  unfolding position
  position_ext p q h [] = refl
  position_ext p q h (x ∷ xs) = rw (h x, position_ext p q h xs)

  any_position : (p q : A → Bool) → ((x : A) → p x ≡ q x) → (xs : List A) → any q xs ≡ is_there (position p xs)
  unfolding position option any is_there
  any_position p q h [] = refl
  any_position p q h (x ∷ xs) = rw (← h x, any_position p q h xs) (by_test (p x) (position p xs))
    where
      by_test : (b : Bool) (o : Option ℕ) → (b || is_there o) ≡ is_there (if b then some zero else option o none (λ j. some (suc j)))
      by_test true o = refl
      by_test false none = refl
      by_test false (some j) = refl

  pub any_found : (p q : A → Bool) → ((x : A) → p x ≡ q x) → (xs : List A) (i : ℕ) → position p xs ≡ some i → true ≡ any q xs
  unfolding option is_there
  any_found p q h xs i e = sym (any_position p q h xs ∙ ap is_there e)

  pub any_missed : (p q : A → Bool) → ((x : A) → p x ≡ q x) → (xs : List A) → position p xs ≡ none → false ≡ any q xs
  unfolding option is_there
  any_missed p q h xs e = sym (any_position p q h xs ∙ ap is_there e)

  -- it is one of them, and passes
  pub position_some : (p : A → Bool) (xs : List A) (i : ℕ) (d : A) → position p xs ≡ some i → (i < length xs) × (p (get_or xs i d) ≡ true)
  unfolding position option
  position_some p [] i d e = let z : ◌≡◌ {A = ℕ} 0 1 = cc in absurd (omega arith)
  position_some p (x ∷ xs) i d e = by_test (p x) refl (position p xs) refl e (λ j. position_some p xs j d)
    where
      is : (j : ℕ) → some j ≡ some i → i ≡ j
      is j f = cc

      by_test : (b : Bool) → p x ≡ b → (o : Option ℕ) → position p xs ≡ o → (if b then some zero else option o none (λ j. some (suc j))) ≡ some i
          → ((j : ℕ) → position p xs ≡ some j → (j < length xs) × (p (get_or xs j d) ≡ true)) → (i < length (x ∷ xs)) × (p (get_or (x ∷ xs) i d) ≡ true)
      by_test true w o u f ih = rw (is 0 f) (omega arith, w)
      by_test false w none u f ih = let z : ◌≡◌ {A = ℕ} 0 1 = cc in absurd (omega arith)
      by_test false w (some j) u f ih = let v = ih j u in rw (is (suc j) f) (omega arith, v.1)

  position_append : (p : A → Bool) (xs ys : List A) → position p (xs ++ ys) ≡ option (position p xs) (counted (length xs) (position p ys)) (λ i. some i)
  unfolding position option counted
  position_append p [] ys = by_option (position p ys)
    where
      by_option : (o : Option ℕ) → o ≡ option o none (λ i. some (0 + i))
      by_option none = refl
      by_option (some i) = let z : i ≡ 0 + i = omega arith in ap (λ (m : ℕ). some m) z
  position_append p (x ∷ xs) ys = rw (position_append p xs ys) (by_test (p x) (position p xs) (position p ys))
    where
      by_test : (b : Bool) (o u : Option ℕ) → (if b then some zero else option (option o (option u none (λ i. some (length xs + i))) (λ i. some i)) none (λ i. some (suc i)))
          ≡ option (if b then some zero else option o none (λ i. some (suc i))) (option u none (λ i. some (suc (length xs) + i))) (λ i. some i)
      by_test true o u = refl
      by_test false (some i) u = refl
      by_test false none none = refl
      by_test false none (some j) = let z : suc (length xs + j) ≡ suc (length xs) + j = omega arith in ap (λ (m : ℕ). some m) z

-- ---- one relation more

counted_next : (k : ℕ) (o : Option ℕ) → counted k (option o none (λ i. some (suc i))) ≡ counted (k + 1) o
unfolding counted option
counted_next k none = refl
counted_next k (some i) = let z : k + suc i ≡ k + 1 + i = omega arith in ap (λ (m : ℕ). some m) z

pub counted_zero : (o : Option ℕ) → counted 0 o ≡ o
unfolding counted option
counted_zero none = refl
counted_zero (some i) = let z : 0 + i ≡ i = omega arith in ap (λ (m : ℕ). some m) z

module _ (q : List ℕ) (g : Signature) where
  next_relation : (i hi : ℕ) → i < hi → relations_from q g i (hi - i) ≡ relation_in q g i ∷ relations_from q g (i + 1) (hi - (i + 1))
  unfolding relations_from
  next_relation i hi h = let z : hi - i ≡ suc (hi - (i + 1)) = omega arith in rw z (rw (add-one i))

  module _ (name : List ℕ) (wanted : P.Option ℕ) where
    module _ (i hi : ℕ) (h : i < hi) where
      pub look_hit : (same (slice (get_or g.from i 0) (get_or g.to i 0) q) name && is_wanted wanted (get_or g.arity i 0)) ≡ true
          → counted i (position (matches name wanted) (relations_from q g i (hi - i))) ≡ some i
      unfolding position matches relation_in counted option
      look_hit e = let z : i + 0 ≡ i = omega arith in rw (next_relation i hi h) (rw e (ap (λ (m : ℕ). some m) z))

      pub look_miss : (same (slice (get_or g.from i 0) (get_or g.to i 0) q) name && is_wanted wanted (get_or g.arity i 0)) ≡ false
          → counted i (position (matches name wanted) (relations_from q g i (hi - i))) ≡ counted (i + 1) (position (matches name wanted) (relations_from q g (i + 1) (hi - (i + 1))))
      unfolding position matches relation_in
      look_miss e = rw (next_relation i hi h) (rw e (counted_next i (position (matches name wanted) (relations_from q g (i + 1) (hi - (i + 1))))))

    pub look_start : (lo m : ℕ) → counted lo (position (matches name wanted) (relations_from q g lo m)) ≡ counted lo (position (matches name wanted) (relations_from q g lo (lo + m - lo)))
    look_start lo m = let z : lo + m - lo ≡ m = omega arith in rw z

    pub look_end : (i hi : ℕ) → hi ≤ i → counted i (position (matches name wanted) (relations_from q g i (hi - i))) ≡ none
    unfolding position relations_from counted option
    look_end i hi h = let z : hi - i ≡ 0 = omega arith in rw z

-- ---- all relations: the built-in ones, then those declared

pub relations_append : (q : List ℕ) (g : Signature) (i m n : ℕ) → relations_from q g i (m + n) ≡ relations_from q g i m ++ relations_from q g (i + m) n
unfolding relations_from
relations_append q g i zero n = let z : 0 + n ≡ n = omega arith in let y : i + 0 ≡ i = omega arith in rw (z, y)
relations_append q g i (suc m) n =
    let z : suc m + n ≡ suc (m + n) = omega arith in
    let y : i + suc m ≡ suc i + m = omega arith in
    rw (z, y) (ap (λ (rs : List Relation). relation_in q g i ∷ rs) (relations_append q g (suc i) m n))

-- the relation of an `every` line stands after the others
last_are : (q : List ℕ) (g : Signature) (k : ℕ) → k ≤ 1 → relations_from q g (g.rels + g.chosen) k ≡ listed (last_of q g k)
unfolding relations_from listed last_of
last_are q g zero h = refl
last_are q g (suc zero) h = refl
last_are q g (suc (suc k)) h = absurd (omega arith)

pub all_are : (q : List ℕ) (g : Signature) → g.every ≤ 1 → all_of q g ≡ built_in ++ relations_from q g 0 (g.rels + g.chosen + g.every)
unfolding all_of rels_of chosen_of every_of relations built_in
all_are q g one =
    let z : 0 + g.rels ≡ g.rels = omega arith in
    let y : 0 + (g.rels + g.chosen) ≡ g.rels + g.chosen = omega arith in
    let e : relations_from q g 0 (g.rels + g.chosen) ≡ rels_of q g ++ chosen_of q g = relations_append q g 0 g.rels g.chosen ∙ rw z in
    let f : relations_from q g 0 (g.rels + g.chosen + g.every) ≡ (rels_of q g ++ chosen_of q g) ++ listed (every_of q g) =
    relations_append q g 0 (g.rels + g.chosen) g.every ∙ ap₂ (λ (a b : List Relation). a ++ b) e (rw y (last_are q g g.every one)) in
    sym (ap (λ (rs : List Relation). built_in ++ rs) (f ∙ append_assoc (rels_of q g) (chosen_of q g) (listed (every_of q g))))

built_in_are : relations_from (69 ∷ 81 ∷ 76 ∷ 84 ∷ 83 ∷ 85 ∷ 67 ∷ 90 ∷ 69 ∷ 82 ∷ 79 ∷ 77 ∷ 65 ∷ 88 ∷ []) built_in_table 0 5 ≡ built_in
unfolding relations_from relation_in built_in_table built_in kind_of
built_in_are = refl

pub found_some : (o : Option ℕ) (i : ℕ) (f : P.Option ℕ) → f ≡ Some i → f ≡ option_of o → o ≡ some i
found_some none i f p q = let z : ◌≡◌ {A = ℕ} 0 1 = cc in absurd (omega arith)
found_some (some j) i f p q = cc

pub found_none : (o : Option ℕ) (f : P.Option ℕ) → f ≡ None → f ≡ option_of o → o ≡ none
found_none none f p q = refl
found_none (some j) f p q = let z : ◌≡◌ {A = ℕ} 0 1 = cc in absurd (omega arith)

no_some : (f : P.Option ℕ) → is_some f ≡ false → f ≡ None
no_some None e = refl
no_some (Some i) e = let z : ◌≡◌ {A = Bool} true false = e in cc

module _ (q : List ℕ) (g : Signature) (one : g.every ≤ 1) (p : Relation → Bool) where
  in_all : position p (all_of q g) ≡ option (position p built_in) (counted 5 (position p (relations_from q g 0 (g.rels + g.chosen + g.every)))) (λ i. some i)
  unfolding built_in
  in_all = ap (position p) (all_are q g one) ∙ position_append p built_in (relations_from q g 0 (g.rels + g.chosen + g.every))

  module _ (b : P.Option ℕ) (w : b ≡ option_of (counted 0 (position p (relations_from (69 ∷ 81 ∷ 76 ∷ 84 ∷ 83 ∷ 85 ∷ 67 ∷ 90 ∷ 69 ∷ 82 ∷ 79 ∷ 77 ∷ 65 ∷ 88 ∷ []) built_in_table 0 5)))) where
    among_built_in : b ≡ option_of (position p built_in)
    among_built_in = w ∙ ap option_of (counted_zero _ ∙ ap (position p) built_in_are)

    pub in_built_in : is_some b ≡ true → b ≡ option_of (position p (all_of q g))
    unfolding option
    in_built_in e = by_answer b e among_built_in
      where
        by_answer : (c : P.Option ℕ) → is_some c ≡ true → c ≡ option_of (position p built_in) → c ≡ option_of (position p (all_of q g))
        by_answer None e v = let z : ◌≡◌ {A = Bool} false true = e in cc
        by_answer (Some i) e v = let w : position p (all_of q g) ≡ some i = in_all ∙ rw (found_some (position p built_in) i (Some i) refl v) in sym (ap option_of w)

    module _ (e : is_some b ≡ false) (m : ℕ) (all : m ≡ g.rels + g.chosen + g.every) (d : P.Option ℕ) (v : d ≡ option_of (counted 0 (position p (relations_from q g 0 m)))) where
      past_built_in : position p (all_of q g) ≡ counted 5 (position p (relations_from q g 0 (g.rels + g.chosen + g.every)))
      unfolding option
      past_built_in = in_all ∙ rw (found_none (position p built_in) b (no_some b e) among_built_in)

      among_declared : d ≡ option_of (position p (relations_from q g 0 (g.rels + g.chosen + g.every)))
      among_declared = v ∙ ap option_of (counted_zero _ ∙ ap (λ (n : ℕ). position p (relations_from q g 0 n)) all)

      pub in_declared : (i : ℕ) → d ≡ Some i → Some (5 + i) ≡ option_of (position p (all_of q g))
      unfolding counted option
      in_declared i f =
          let w : position p (all_of q g) ≡ some (5 + i) = past_built_in ∙ rw (found_some (position p (relations_from q g 0 (g.rels + g.chosen + g.every))) i d f among_declared) in
          sym (ap option_of w)

      pub in_none : d ≡ None → None ≡ option_of (position p (all_of q g))
      unfolding counted option
      in_none f =
          let w : position p (all_of q g) ≡ none = past_built_in ∙ rw (found_none (position p (relations_from q g 0 (g.rels + g.chosen + g.every))) d f among_declared) in
          sym (ap option_of w)

-- ---- what was found

pub length_relations : (q : List ℕ) (g : Signature) (i m : ℕ) → length (relations_from q g i m) ≡ m
unfolding relations_from
length_relations q g i zero = refl
length_relations q g i (suc m) = ap suc (length_relations q g (suc i) m)

counted_some : (lo : ℕ) (o : Option ℕ) (i : ℕ) → counted lo o ≡ some i → (j : ℕ) × (o ≡ some j) × (i ≡ lo + j)
unfolding counted option
counted_some lo none i e = let z : ◌≡◌ {A = ℕ} 0 1 = cc in absurd (omega arith)
counted_some lo (some j) i e = (j, refl, is (lo + j) e)
  where
    is : (k : ℕ) → some k ≡ some i → i ≡ k
    is k f = cc

pub relation_at_lem : (q : List ℕ) (g : Signature) (i m j : ℕ) (d : Relation) → j < m → get_or (relations_from q g i m) j d ≡ relation_in q g (i + j)
unfolding relations_from
relation_at_lem q g i zero j d h = absurd (omega arith)
relation_at_lem q g i (suc m) zero d h = let z : i ≡ i + 0 = omega arith in ap (relation_in q g) z
relation_at_lem q g i (suc m) (suc j) d h = let z : suc i + j ≡ i + suc j = omega arith in relation_at_lem q g (suc i) m j d (omega arith) ∙ ap (relation_in q g) z

-- a relation that was found is one of those looked at, and fits
pub look_found : (q : List ℕ) (g : Signature) (p : Relation → Bool) (lo m i : ℕ) (f : P.Option ℕ) → f ≡ Some i → f ≡ option_of (counted lo (position p (relations_from q g lo m)))
    → (lo ≤ i) × (i < lo + m) × (p (relation_in q g i) ≡ true)
look_found q g p lo m i f e w =
    let (j, s, z) = counted_some lo (position p (relations_from q g lo m)) i (found_some _ i f e w) in
    let (h, v) = position_some p (relations_from q g lo m) j (relation_in q g 0) s in
    let l : j < m = rw length_relations at h in
    (omega arith, omega arith, rw (z, ← relation_at_lem q g lo m j (relation_in q g 0) l) v)

-- ---- by the name alone, and by name and arity

module _ (rs : List Relation) (name : List ℕ) where
  any_arity : (r : Relation) → matches name None r ≡ same r.name name
  unfolding matches
  any_arity r = and-true (same r.name name)

  one_arity : (k : ℕ) (r : Relation) → matches name (Some k) r ≡ has_arity name k r
  unfolding matches has_arity
  one_arity k r = refl

  pub by_name : (f : P.Option ℕ) → f ≡ option_of (position (matches name None) rs) → f ≡ option_of (number_of rs name)
  unfolding number_of
  by_name f w = w ∙ ap option_of (position_ext (matches name None) (λ (r : Relation). same r.name name) any_arity rs)

  pub is_declared_lem : (f : P.Option ℕ) → f ≡ option_of (number_of rs name) → is_some f ≡ is_declared rs name
  unfolding is_declared number_of
  is_declared_lem None w = any_missed (λ (r : Relation). same r.name name) (λ (r : Relation). same r.name name) (λ r. refl) rs (found_none _ None refl w)
  is_declared_lem (Some i) w = any_found (λ (r : Relation). same r.name name) (λ (r : Relation). same r.name name) (λ r. refl) rs i (found_some _ i (Some i) refl w)

  pub is_known : (k : ℕ) (f : P.Option ℕ) → f ≡ option_of (position (matches name (Some k)) rs) → is_some f ≡ any (has_arity name k) rs
  is_known k None w = any_missed (matches name (Some k)) (has_arity name k) (one_arity k) rs (found_none _ None refl w)
  is_known k (Some i) w = any_found (matches name (Some k)) (has_arity name k) (one_arity k) rs i (found_some _ i (Some i) refl w)

-- ---- names alone: the arities do not matter

same_names : (p : List ℕ → Bool) (q : List ℕ) (g : Signature) (A : List ℕ) (i m : ℕ) → position (λ (r : Relation). p r.name) (relations_from q (with_arrays g g.from g.to A) i m) ≡ position (λ (r : Relation). p r.name) (relations_from q g i m)
unfolding position relations_from relation_in
same_names p q g A i zero = refl
same_names p q g A i (suc m) = rw (same_names p q g A (suc i) m)

same_number : (q : List ℕ) (g : Signature) (A name : List ℕ) → g.every ≤ 1 → number_of (all_of q (with_arrays g g.from g.to A)) name ≡ number_of (all_of q g) name
unfolding number_of
same_number q g A name one =
    in_all q (with_arrays g g.from g.to A) one (λ (r : Relation). same r.name name)
    ∙ ap (λ (o : Option ℕ). option (position (λ (r : Relation). same r.name name) built_in) (counted 5 o) (λ i. some i)) (same_names (λ (n : List ℕ). same n name) q g A 0 (g.rels + g.chosen + g.every))
    ∙ sym (in_all q g one (λ (r : Relation). same r.name name))

pub by_lent : (q : List ℕ) (g : Signature) (F T A : List ℕ) (m : ℕ) (name : List ℕ) (f : P.Option ℕ) → Lent g F T m → f ≡ option_of (position (matches name None) (all_of q (with_arrays g F T A))) → f ≡ option_of (number_of (all_of q g) name)
by_lent q g F T A m name f l w = by_name (all_of q (with_arrays g F T A)) name f w ∙ ap option_of (ap (λ (x : List ℕ). number_of (all_of q (with_arrays g x T A)) name) l.from_is ∙ ap (λ (x : List ℕ). number_of (all_of q (with_arrays g g.from x A)) name) l.to_is ∙ same_number q g A name l.one)

-- ---- arities, kinds and sorts by number

abbrev no_relation : Relation
no_relation = fixed [] zero

built_in_arity : (rs : List Relation) (r : ℕ) → r < 5 → get_or built_in_table.arity r 0 ≡ (get_or (built_in ++ rs) r no_relation).arity
unfolding built_in built_in_table
built_in_arity rs zero h = refl
built_in_arity rs (suc zero) h = refl
built_in_arity rs (suc (suc zero)) h = refl
built_in_arity rs (suc (suc (suc zero))) h = refl
built_in_arity rs (suc (suc (suc (suc zero)))) h = refl
built_in_arity rs (suc (suc (suc (suc (suc r))))) h = absurd (omega arith)

built_in_fixed : (rs : List Relation) (r : ℕ) → r < 5
    → (static ≡ (get_or (built_in ++ rs) r no_relation).kind) × (0 ≡ (get_or (built_in ++ rs) r no_relation).firsts) × (0 ≡ (get_or (built_in ++ rs) r no_relation).seconds)
unfolding built_in
built_in_fixed rs zero h = (refl, refl, refl)
built_in_fixed rs (suc zero) h = (refl, refl, refl)
built_in_fixed rs (suc (suc zero)) h = (refl, refl, refl)
built_in_fixed rs (suc (suc (suc zero))) h = (refl, refl, refl)
built_in_fixed rs (suc (suc (suc (suc zero)))) h = (refl, refl, refl)
built_in_fixed rs (suc (suc (suc (suc (suc r))))) h = absurd (omega arith)

declared_at : (q : List ℕ) (g : Signature) → g.every ≤ 1 → (r : ℕ) → 5 ≤ r → r < 5 + (g.rels + g.chosen + g.every) → get_or (all_of q g) r no_relation ≡ relation_in q g (r - 5)
unfolding built_in
declared_at q g one r h l =
    let z : r ≡ 5 + (r - 5) = omega arith in
    let y : 0 + (r - 5) ≡ r - 5 = omega arith in
    ap (λ (rs : List Relation). get_or rs r no_relation) (all_are q g one)
    ∙ ap (λ (i : ℕ). get_or (built_in ++ relations_from q g 0 (g.rels + g.chosen + g.every)) i no_relation) z
    ∙ get_or-append-add built_in (relations_from q g 0 (g.rels + g.chosen + g.every)) (r - 5) no_relation
    ∙ relation_at_lem q g 0 (g.rels + g.chosen + g.every) (r - 5) no_relation (omega arith)
    ∙ ap (relation_in q g) y

module _ (g : Signature) (one : g.every ≤ 1) (r : ℕ) where
  pub arity_built_in : r < 5 → HasArity g r (get_or (2 ∷ 2 ∷ 2 ∷ 1 ∷ 1 ∷ 0 ∷ 0 ∷ 0 ∷ 0 ∷ 0 ∷ 0 ∷ 0 ∷ 0 ∷ []) r 0)
  unfolding HasArity built_in_table
  arity_built_in h q = built_in_arity (relations_from q g 0 (g.rels + g.chosen + g.every)) r h ∙ ap (λ (rs : List Relation). (get_or rs r no_relation).arity) (sym (all_are q g one))

  pub kind_built_in : r < 5 → HasKind g r 0
  unfolding HasKind kind_of
  kind_built_in h q = (built_in_fixed (relations_from q g 0 (g.rels + g.chosen + g.every)) r h).0 ∙ ap (λ (rs : List Relation). (get_or rs r no_relation).kind) (sym (all_are q g one))

  pub firsts_built_in : r < 5 → HasFirsts g r 0
  unfolding HasFirsts
  firsts_built_in h q = (built_in_fixed (relations_from q g 0 (g.rels + g.chosen + g.every)) r h).1 ∙ ap (λ (rs : List Relation). (get_or rs r no_relation).firsts) (sym (all_are q g one))

  pub seconds_built_in : r < 5 → HasSeconds g r 0
  unfolding HasSeconds
  seconds_built_in h q = (built_in_fixed (relations_from q g 0 (g.rels + g.chosen + g.every)) r h).2 ∙ ap (λ (rs : List Relation). (get_or rs r no_relation).seconds) (sym (all_are q g one))

  module _ (h : 5 ≤ r) (l : r < 5 + (g.rels + g.chosen + g.every)) where
    pub arity_declared : HasArity g r (get_or g.arity (r - 5) 0)
    unfolding HasArity relation_in
    arity_declared q = sym (ap (λ (k : Relation). k.arity) (declared_at q g one r h l))

    pub kind_declared : HasKind g r (get_or g.kind (r - 5) 0)
    unfolding HasKind relation_in
    kind_declared q = sym (ap (λ (k : Relation). k.kind) (declared_at q g one r h l))

    pub firsts_declared : HasFirsts g r (get_or g.firsts (r - 5) 0)
    unfolding HasFirsts relation_in
    firsts_declared q = sym (ap (λ (k : Relation). k.firsts) (declared_at q g one r h l))

    pub seconds_declared : HasSeconds g r (get_or g.seconds (r - 5) 0)
    unfolding HasSeconds relation_in
    seconds_declared q = sym (ap (λ (k : Relation). k.seconds) (declared_at q g one r h l))

-- ---- names and arities alone: kinds and sorts do not matter

module _ (name : List ℕ) (k : ℕ) where
  any_after : (xs ys zs : List Relation) → any (has_arity name k) ys ≡ any (has_arity name k) zs → any (has_arity name k) (xs ++ ys) ≡ any (has_arity name k) (xs ++ zs)
  unfolding any
  any_after [] ys zs e = e
  any_after (x ∷ xs) ys zs e = ap (λ (b : Bool). has_arity name k x || b) (any_after xs ys zs e)

  any_arrays : (q : List ℕ) (g : Signature) (m i n : ℕ) → any (has_arity name k) (relations_from q (lent_of g.from g.to g.arity m) i n) ≡ any (has_arity name k) (relations_from q g i n)
  unfolding any relations_from relation_in has_arity
  any_arrays q g m i zero = refl
  any_arrays q g m i (suc n) = ap (λ (b : Bool). (same (slice (get_or g.from i 0) (get_or g.to i 0) q) name && eqb (get_or g.arity i 0) k) || b) (any_arrays q g m (suc i) n)

  pub any_lent : (q : List ℕ) (g : Signature) (m : ℕ) → m ≡ g.rels + g.chosen + g.every → g.every ≤ 1 → any (has_arity name k) (all_of q (lent_of g.from g.to g.arity m)) ≡ any (has_arity name k) (all_of q g)
  any_lent q g m e one =
      let z : m + 0 + 0 ≡ g.rels + g.chosen + g.every = omega arith in
      ap (λ (l : List Relation). any (has_arity name k) l) (all_are q (lent_of g.from g.to g.arity m) (omega arith))
      ∙ any_after built_in _ _ (any_arrays q g m 0 (m + 0 + 0) ∙ ap (λ (n : ℕ). any (has_arity name k) (relations_from q g 0 n)) z)
      ∙ ap (λ (l : List Relation). any (has_arity name k) l) (sym (all_are q g one))

-- ---- types: names alone, from entry 13 on

counted_none : (o : Option ℕ) → counted 13 o ≡ none → None ≡ option_of o
unfolding counted option
counted_none none e = refl
counted_none (some j) e = let z : ◌≡◌ {A = ℕ} 0 1 = cc in absurd (omega arith)

names_are : (name q : List ℕ) (g : Signature) (F T A : List ℕ) (i k : ℕ) → position (matches name None) (relations_from q (with_arrays g F T A) i k) ≡ position (λ t. same t name) (names_from q F T i k)
unfolding position matches relations_from relation_in names_from
names_are name q g F T A i zero = refl
names_are name q g F T A i (suc k) = rw (and-true (same (slice (get_or F i 0) (get_or T i 0) q) name), names_are name q g F T A (suc i) k)

module _ (q : List ℕ) (g : Signature) (F T A : List ℕ) (k : ℕ) (name : List ℕ) (f : P.Option ℕ) (w : f ≡ option_of (counted 13 (position (matches name None) (relations_from q (with_arrays g F T A) 13 k)))) where
  by_slot : f ≡ option_of (counted 13 (type_number (types_in q F T k) name))
  unfolding type_number
  by_slot = w ∙ ap (λ (o : Option ℕ). option_of (counted 13 o)) (names_are name q g F T A 13 k)

  pub type_found : (i : ℕ) → f ≡ Some i → Some (i - 13) ≡ option_of (type_number (types_in q F T k) name)
  type_found i e =
      let (j, o, z) = counted_some 13 (type_number (types_in q F T k) name) i (found_some _ i f e by_slot) in
      let y : i - 13 ≡ j = omega arith in
      rw (o, y)

  pub type_missed : f ≡ None → None ≡ option_of (type_number (types_in q F T k) name)
  type_missed e = counted_none (type_number (types_in q F T k) name) (found_none _ f e by_slot)

pub length_names : (q F T : List ℕ) (i k : ℕ) → length (names_from q F T i k) ≡ k
unfolding names_from
length_names q F T i zero = refl
length_names q F T i (suc k) = ap suc (length_names q F T (suc i) k)
