-- A good line: the signature grows as the draft does.
use Prim.Native.Nat.{ℕ, zero, suc, ◌+◌, ◌≤◌, ◌<◌}
use mathlib.Core.Path.{◌≡◌, refl, ap, ap₂, ◌∙◌}
use mathlib.Core.Logic.{◌≢◌}
use mathlib.Core.Option.{none, some}
use mathlib.Core.List.{List, [], ◌∷◌, ◌++◌}
use native.Mathlib.Numerals.{add-one}
use native.Mathlib.Omega.{arith}
use native.Mathlib.Decide.{ℕ_discrete}
use lib.ListN.{length, get_or, set, length-set, get_or-replicate}
use lib.Seq.{slice, get_or-set_same, get_or-set_other}
use Rattle.definitions.specs.Sheet.Relations.{Kind, Relation}
use Rattle.definitions.specs.Sheet.Sheets.{place_sort}
use Rattle.laws.specs.Reader.{sort_named_lem}
use Rattle.read_text.specs.Spans.{kind_of}
use Rattle.read_names.specs.declared.Signature.{Signature}
use Rattle.read_names.specs.Signatures.{relation_in, relations_from, names_from, rels_of, chosen_of, last_of, every_of, types_of, SoundSignature}
use Rattle.read_question.specs.declared.Sorts.{Sorts}
use Rattle.read_question.specs.Drafts.{sorts_in, pushed, typed, no_signature}
use Rattle.read_names.proofs.Laws.{relations_append}

-- the arrays have room for 13 relations and 8 types, and an `every` line comes after a `choose`
unfoldable pub Roomy : Signature → Type 0
Roomy g = (length g.from ≡ 21) × (length g.to ≡ 21) × (length g.arity ≡ 13) × (length g.kind ≡ 13) × (length g.firsts ≡ 13) × (length g.seconds ≡ 13) × (g.every ≤ g.chosen)

pub every_late : (g : Signature) → Roomy g → g.every ≤ g.chosen
unfolding Roomy
every_late g w = w.6

-- no relations and no types
pub none_sound : (s : List ℕ) → SoundSignature s no_signature
unfolding no_signature
none_sound s = record {
  rels_le = omega arith;
  chosen_le = omega arith;
  every_le = omega arith;
  types_le = omega arith;
  spans = λ i l. absurd (omega arith);
  no_further = λ i l h. get_or-replicate 21 (13 + i) 0 0 (omega arith);
  arities = λ i l. absurd (omega arith);
  sorts = λ i l. absurd (omega arith);
}

pub none_roomy : Roomy no_signature
unfolding no_signature Roomy
none_roomy = (refl, refl, refl, refl, refl, refl, omega arith)

-- what is asked of an index at a time
relations_ext : (s : List ℕ) (g h : Signature) (j m : ℕ) → ((n : ℕ) → j ≤ n → n < j + m → relation_in s g n ≡ relation_in s h n) → relations_from s g j m ≡ relations_from s h j m
unfolding relations_from
relations_ext s g h j zero w = refl
relations_ext s g h j (suc m) w =
    ap₂ (λ (r : Relation) (rs : List Relation). r ∷ rs) (w j (omega arith) (omega arith)) (relations_ext s g h (suc j) m (λ n a b. w n (omega arith) (omega arith)))

module _ (s F T : List ℕ) where
  names_set : (i a e j k : ℕ) → ((n : ℕ) → j ≤ n → n < j + k → n ≢ i) → names_from s (set F i a) (set T i e) j k ≡ names_from s F T j k
  unfolding names_from
  names_set i a e j zero w = refl
  names_set i a e j (suc k) w =
      let n = w j (omega arith) (omega arith) in
      rw (get_or-set_other F i j a 0 n, get_or-set_other T i j e 0 n, names_set i a e (suc j) k (λ n l h. w n (omega arith) (omega arith)))

  names_last : (j k : ℕ) → names_from s F T j (suc k) ≡ names_from s F T j k ++ (slice (get_or F (j + k) 0) (get_or T (j + k) 0) s ∷ [])
  unfolding names_from
  names_last j zero = let z : j ≡ j + 0 = omega arith in ap (λ (n : ℕ). slice (get_or F n 0) (get_or T n 0) s ∷ []) z
  names_last j (suc k) =
      let z : suc j + k ≡ j + suc k = omega arith in
      ap (λ (ns : List (List ℕ)). slice (get_or F j 0) (get_or T j 0) s ∷ ns) (names_last (suc j) k)
      ∙ ap (λ (n : ℕ). slice (get_or F j 0) (get_or T j 0) s ∷ (names_from s F T (suc j) k ++ (slice (get_or F n 0) (get_or T n 0) s ∷ []))) z

-- without an `every` line
pub no_every : (s : List ℕ) (g : Signature) → g.every ≡ 0 → every_of s g ≡ none
unfolding every_of last_of
no_every s g e = rw e

-- ---- one relation more

-- the relation that its line declares; its sorts are of declared types
abbrev pub related : (name : List ℕ) → (arity : ℕ) → Kind → Sorts → Relation
related name arity kind p = record { name = name; arity = arity; kind = kind; firsts = p.firsts; seconds = p.seconds }

pub sorts_few : (types names : List (List ℕ)) → ((sorts_in types names).firsts ≤ length types) × ((sorts_in types names).seconds ≤ length types)
unfolding sorts_in place_sort
sorts_few types [] = (omega arith, omega arith)
sorts_few types (name ∷ []) = (sort_named_lem types name, omega arith)
sorts_few types (name ∷ other ∷ names) = (sort_named_lem types name, sort_named_lem types other)

module _ (s : List ℕ) (g : Signature) (i a e k d : ℕ) (p : Sorts) (rels chosen every : ℕ) where
  pushed_there : Roomy g → i < 13 → relation_in s (pushed g i a e k d p rels chosen every) i ≡ related (slice a e s) k (kind_of d) p
  unfolding relation_in pushed Roomy
  pushed_there w h =
      rw (
        get_or-set_same g.from i a 0 (omega (arith, w.0)),
        get_or-set_same g.to i e 0 (omega (arith, w.1)),
        get_or-set_same g.arity i k 0 (omega (arith, w.2)),
        get_or-set_same g.kind i d 0 (omega (arith, w.3)),
        get_or-set_same g.firsts i p.firsts 0 (omega (arith, w.4)),
        get_or-set_same g.seconds i p.seconds 0 (omega (arith, w.5)),
      )

  pushed_other : (j : ℕ) → j ≢ i → relation_in s (pushed g i a e k d p rels chosen every) j ≡ relation_in s g j
  unfolding relation_in pushed
  pushed_other j n =
      rw (
        get_or-set_other g.from i j a 0 n,
        get_or-set_other g.to i j e 0 n,
        get_or-set_other g.arity i j k 0 n,
        get_or-set_other g.kind i j d 0 n,
        get_or-set_other g.firsts i j p.firsts 0 n,
        get_or-set_other g.seconds i j p.seconds 0 n,
      )

  pub pushed_before : (j m : ℕ) → j + m ≤ i → relations_from s (pushed g i a e k d p rels chosen every) j m ≡ relations_from s g j m
  pushed_before j m h = relations_ext s (pushed g i a e k d p rels chosen every) g j m (λ n l b. pushed_other n (λ q. omega arith))

  pub one_more : (lo m : ℕ) → lo + m ≡ i → Roomy g → i < 13
      → relations_from s (pushed g i a e k d p rels chosen every) lo (m + 1) ≡ relations_from s g lo m ++ (related (slice a e s) k (kind_of d) p ∷ [])
  unfolding relations_from
  one_more lo m q w h =
      relations_append s (pushed g i a e k d p rels chosen every) lo m 1
      ∙ ap₂ (λ (xs : List Relation) (j : ℕ). xs ++ (relation_in s (pushed g i a e k d p rels chosen every) j ∷ [])) (pushed_before lo m (omega arith)) q
      ∙ ap (λ (r : Relation). relations_from s g lo m ++ (r ∷ [])) (pushed_there w h)

  pub pushed_types : i < 13 → types_of s (pushed g i a e k d p rels chosen every) ≡ types_of s g
  unfolding types_of pushed
  pushed_types h = names_set s g.from g.to i a e 13 g.types (λ n l b q. omega arith)

  pub pushed_roomy : Roomy g → every ≤ chosen → Roomy (pushed g i a e k d p rels chosen every)
  unfolding Roomy pushed
  pushed_roomy w c = (
    length-set g.from i a ∙ w.0,
    length-set g.to i e ∙ w.1,
    length-set g.arity i k ∙ w.2,
    length-set g.kind i d ∙ w.3,
    length-set g.firsts i p.firsts ∙ w.4,
    length-set g.seconds i p.seconds ∙ w.5,
    c,
  )

  pub pushed_sound : SoundSignature s g → Roomy g → i ≡ g.rels + g.chosen + g.every → i < 13 → rels + chosen + every ≡ suc i → rels ≤ 8 → chosen ≤ 4 → every ≤ 1 → a ≤ e → e ≤ length s → 1 ≤ k → k ≤ 3
      → p.firsts ≤ g.types → p.seconds ≤ g.types → SoundSignature s (pushed g i a e k d p rels chosen every)
  unfolding pushed Roomy
  pushed_sound v w q h t r c o ae el k1 k3 f1 f2 = record {
    rels_le = r;
    chosen_le = c;
    every_le = o;
    types_le = v.types_le;
    spans = λ j l. spans_at j l (ℕ_discrete j i);
    no_further = λ j l b. get_or-set_other g.to i (13 + j) e 0 (λ q. omega arith) ∙ v.no_further j l b;
    arities = λ j l. arities_at j l (ℕ_discrete j i);
    sorts = λ j l. sorts_at j l (ℕ_discrete j i);
  }
    where
      spans_at : (j : ℕ) → j < rels + chosen + every → Dec (j ≡ i) → (get_or (set g.from i a) j 0 ≤ get_or (set g.to i e) j 0) × (get_or (set g.to i e) j 0 ≤ length s)
      spans_at j l (yes y) = rw (y, get_or-set_same g.from i a 0 (omega (arith, w.0)), get_or-set_same g.to i e 0 (omega (arith, w.1))) (ae, el)
      spans_at j l (no n) = rw (get_or-set_other g.from i j a 0 n, get_or-set_other g.to i j e 0 n) (v.spans j (omega arith))

      arities_at : (j : ℕ) → j < rels + chosen + every → Dec (j ≡ i) → (1 ≤ get_or (set g.arity i k) j 0) × (get_or (set g.arity i k) j 0 ≤ 3)
      arities_at j l (yes y) = rw (y, get_or-set_same g.arity i k 0 (omega (arith, w.2))) (k1, k3)
      arities_at j l (no n) = rw (get_or-set_other g.arity i j k 0 n) (v.arities j (omega arith))

      sorts_at : (j : ℕ) → j < rels + chosen + every → Dec (j ≡ i) → (get_or (set g.firsts i p.firsts) j 0 ≤ g.types) × (get_or (set g.seconds i p.seconds) j 0 ≤ g.types)
      sorts_at j l (yes y) = rw (y, get_or-set_same g.firsts i p.firsts 0 (omega (arith, w.4)), get_or-set_same g.seconds i p.seconds 0 (omega (arith, w.5))) (f1, f2)
      sorts_at j l (no n) = rw (get_or-set_other g.firsts i j p.firsts 0 n, get_or-set_other g.seconds i j p.seconds 0 n) (v.sorts j (omega arith))

-- ... as that of an `every` line
module _ (s : List ℕ) (g : Signature) (i a e k d : ℕ) (p : Sorts) (rels chosen : ℕ) where
  pub pushed_every : rels + chosen ≡ i → Roomy g → i < 13 → every_of s (pushed g i a e k d p rels chosen 1) ≡ some (related (slice a e s) k (kind_of d) p)
  unfolding every_of last_of pushed
  pushed_every q w h =
      ap (λ (j : ℕ). some (relation_in s (pushed g i a e k d p rels chosen 1) j)) q ∙ ap (λ (r : Relation). some r) (pushed_there s g i a e k d p rels chosen 1 w h)

-- ---- one type more

module _ (s : List ℕ) (g : Signature) (a e : ℕ) where
  typed_relations : (j m : ℕ) → j + m ≤ 13 → relations_from s (typed g a e) j m ≡ relations_from s g j m
  unfolding relation_in typed
  typed_relations j m h = relations_ext s (typed g a e) g j m (λ n l b.
      let o : n ≢ 13 + g.types = λ q. omega arith in
      rw (get_or-set_other g.from (13 + g.types) n a 0 o, get_or-set_other g.to (13 + g.types) n e 0 o))

  pub typed_rels : g.rels ≤ 8 → rels_of s (typed g a e) ≡ rels_of s g
  unfolding rels_of typed
  typed_rels h = typed_relations 0 g.rels (omega arith)

  pub typed_chosen : g.rels ≤ 8 → g.chosen ≤ 4 → chosen_of s (typed g a e) ≡ chosen_of s g
  unfolding chosen_of typed
  typed_chosen h c = typed_relations g.rels g.chosen (omega arith)

  pub typed_every : g.every ≡ 0 → every_of s (typed g a e) ≡ none
  unfolding typed
  typed_every o = no_every s (typed g a e) o

  pub typed_types : Roomy g → g.types < 8 → types_of s (typed g a e) ≡ types_of s g ++ (slice a e s ∷ [])
  unfolding types_of typed Roomy
  typed_types w h =
      rw (
        add-one g.types,
        names_last s (set g.from (13 + g.types) a) (set g.to (13 + g.types) e) 13 g.types,
        names_set s g.from g.to (13 + g.types) a e 13 g.types (λ n l b q. omega arith),
        get_or-set_same g.from (13 + g.types) a 0 (omega (arith, w.0)),
        get_or-set_same g.to (13 + g.types) e 0 (omega (arith, w.1)),
      )

  pub typed_roomy : Roomy g → Roomy (typed g a e)
  unfolding Roomy typed
  typed_roomy w = (length-set g.from (13 + g.types) a ∙ w.0, length-set g.to (13 + g.types) e ∙ w.1, w.2, w.3, w.4, w.5, w.6)

  pub typed_sound : SoundSignature s g → g.types < 8 → SoundSignature s (typed g a e)
  unfolding typed
  typed_sound v h = record {
    rels_le = v.rels_le;
    chosen_le = v.chosen_le;
    every_le = v.every_le;
    types_le = omega arith;
    spans = λ j l. rw (get_or-set_other g.from (13 + g.types) j a 0 (other j l), get_or-set_other g.to (13 + g.types) j e 0 (other j l)) (v.spans j l);
    no_further = λ j l b. get_or-set_other g.to (13 + g.types) (13 + j) e 0 (λ q. omega arith) ∙ v.no_further j (omega arith) b;
    arities = v.arities;
    sorts = λ j l. let p = v.sorts j l in (omega arith, omega arith);
  }
    where
      other : (j : ℕ) → j < g.rels + g.chosen + g.every → j ≢ 13 + g.types
      other j l q = omega (arith, v.rels_le, v.chosen_le, v.every_le)
