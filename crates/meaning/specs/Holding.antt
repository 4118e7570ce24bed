-- What holds, by picks: of a `choose`, and of the relation of an `every` line, what is given; of any other relation the same whatever is given.
use Rattle.std.specs.Prelude.{ℕ, ◌<◌, ◌≤◌, ◌≡◌, ◌⊎◌, Bool, get_or, if◌then◌else◌}
use Rattle.std.proofs.Math.Path.{refl, sym, ap, subst}
use Rattle.std.proofs.Common.{◌∙◌, ⊎_elim, arith}
use Rattle.std.proofs.Math.Logic.{inl, inr}
use Rattle.std.proofs.Math.Bool.{true, false}
use mathlib.Core.List.{List, [], ◌∷◌, ◌++◌, Memᴰ}
use Rattle.std.proofs.Math.Dec.{T, ltb}
use borrow.Author.Tests.{ltb-false, le-ltb}
use Rattle.definitions.specs.Lists.{any}
use Rattle.definitions.specs.Sheet.Relations.{Tuple, is_among, built_in_holds}
use Rattle.definitions.specs.Sheet.Sheets.{first_rel, first_chosen}
use Rattle.definitions.specs.Problem.Truth.{Case, holds}
use Rattle.definitions.specs.Problem.Atoms.{Problem, relation_at, places_of, row_of, tuples_of}
use Rattle.laws.specs.Lists.{snoc_cases}
use Rattle.laws.specs.Tuples.{among_mem, mem_among}
use Rattle.laws.specs.Rows.{row_places}
use Rattle.meaning.specs.Means.{Good}

abbrev pub tup : ℕ → List ℕ → Tuple
tup r xs = record { relation = r; places = xs }

-- the tuple of a row
abbrev pub tuple_at : Problem → ℕ → ℕ → Tuple
tuple_at p r row = tup r (places_of p.size (relation_at p r).arity row)

module _ (c : Case) where
  abbrev high : ℕ → Type 0
  high r = first_chosen c.question ≤ r

  -- a relation's tuple by where its number lies
  by_number : (P : List Tuple) (r : ℕ) (xs : List ℕ) → Bool → Bool → Bool
  by_number P r xs b d =
      if b then built_in_holds c.site.size r (get_or xs 0 0) (get_or xs 1 0)
      else if d then is_among (tup r xs) c.site.facts
      else is_among (tup r xs) P

  below_rel : (r : ℕ) → high r → ltb r first_rel ≡ false
  unfolding first_chosen
  below_rel r h = le-ltb r first_rel (omega arith)

  pub holds_split : (P : List Tuple) (r : ℕ) (xs : List ℕ) → T (holds c P r xs) → T (holds c [] r xs) ⊎ (high r × Memᴰ (tup r xs) P)
  unfolding holds is_among by_number
  holds_split P r xs t = by_test (ltb r first_rel) (ltb r (first_chosen c.question)) refl t
    where
      by_test : (b d : Bool) → ltb r (first_chosen c.question) ≡ d → T (by_number P r xs b d) → T (by_number [] r xs b d) ⊎ (high r × Memᴰ (tup r xs) P)
      by_test true d e t = inl t
      by_test false true e t = inl t
      by_test false false e t = inr (ltb-false r _ e, among_mem (tup r xs) P t)

  pub holds_base : (P : List Tuple) (r : ℕ) (xs : List ℕ) → T (holds c [] r xs) → T (holds c P r xs)
  unfolding holds is_among any by_number
  holds_base P r xs t = by_test (ltb r first_rel) (ltb r (first_chosen c.question)) t
    where
      by_test : (b d : Bool) → T (by_number [] r xs b d) → T (by_number P r xs b d)
      by_test true d t = t
      by_test false true t = t
      by_test false false t = absurd t

  pub holds_pick : (P : List Tuple) (r : ℕ) (xs : List ℕ) → high r → Memᴰ (tup r xs) P → T (holds c P r xs)
  unfolding holds
  holds_pick P r xs h m = rw (below_rel r h, le-ltb r (first_chosen c.question) h) (mem_among (tup r xs) P m)

  -- of a chosen relation nothing holds without picks
  pub holds_empty : (r : ℕ) (xs : List ℕ) → high r → T (holds c [] r xs) → ⊥
  unfolding holds is_among any by_number
  holds_empty r xs h t = by_test (ltb r first_rel) (below_rel r h) (ltb r (first_chosen c.question)) (le-ltb r (first_chosen c.question) h) t
    where
      by_test : (b : Bool) → b ≡ false → (d : Bool) → d ≡ false → T (by_number [] r xs b d) → ⊥
      by_test true e d f t = subst T e tt
      by_test false e true f t = subst T f tt
      by_test false e false f t = t

  -- more picks, and one more
  pub holds_mono : (P Q : List Tuple) → ((t : Tuple) → Memᴰ t P → Memᴰ t Q) → (r : ℕ) (xs : List ℕ) → T (holds c P r xs) → T (holds c Q r xs)
  holds_mono P Q h r xs t = ⊎_elim (λ q. holds_base Q r xs q) (λ q. holds_pick Q r xs q.0 (h _ q.1)) (holds_split P r xs t)

  pub holds_new : (P : List Tuple) (t : Tuple) (r : ℕ) (xs : List ℕ) → T (holds c (P ++ (t ∷ [])) r xs) → T (holds c P r xs) ⊎ (tup r xs ≡ t)
  holds_new P t r xs h = ⊎_elim (λ q. inl (holds_base P r xs q)) (λ q. ⊎_elim (λ m. inl (holds_pick P r xs q.0 m)) (λ e. inr e) (snoc_cases P t (tup r xs) q.1)) (holds_split (P ++ (t ∷ [])) r xs h)

-- rows of the same tuple are the same
module _ (p : Problem) (G : Good p) where
  pub same_row : (r row r' row' : ℕ) → row < tuples_of p.size (relation_at p r) → row' < tuples_of p.size (relation_at p r') → tuple_at p r' row' ≡ tuple_at p r row → (r' ≡ r) × (row' ≡ row)
  unfolding tuples_of
  same_row r row r' row' h h' e =
      let q : r' ≡ r = ap (λ (t : Tuple). t.relation) e in
      (q, sym (row_places p.size (relation_at p r').arity row' G.element h') ∙ ap (λ (t : Tuple). row_of p.size t.places) e ∙ row_places p.size (relation_at p r).arity row G.element h)
