-- Labels as words: the element of a name, what fields mean by it, and one label more.
use Rattle.std.specs.Prelude.{if◌then◌else◌}
use Prim.Native.Nat.{ℕ, zero, suc, ◌+◌, ◌-◌, ◌*◌, ◌≤◌, ◌<◌}
use mathlib.Core.Path.{◌≡◌, refl, sym, ap, ap₂, subst, ◌∙◌}
use mathlib.Core.Logic.{⊎_elim, inl, inr}
use mathlib.Core.Bool.{Bool, true, false, not}
use mathlib.Core.Option.{Option, none, some}
use mathlib.Core.List.{List, [], ◌∷◌, ◌++◌}
use native.Mathlib.Decide.{ℕ_discrete, dec_lt}
use native.Mathlib.Omega.{arith}
use lib.Dec.{T, eqb, ltb, not_T}
use lib.ListN.{length, get_or, set, length-set}
use lib.Seq.{slice, length-slice, get_or-set_same, get_or-set_other}
use borrow.Author.Tests.{lt-ltb, le-ltb, ltb-true, eq-eqb, ne_eqb, eqb-false, not-true}
use Rattle.definitions.specs.Lists.{all, same, option, is_empty}
use Rattle.definitions.specs.Sheet.Text.{split, is_relation_name}
use Rattle.definitions.specs.Refusal.{refused, accepted, ◌>>=◌, refuse_if, given}
use Rattle.definitions.specs.Sheet.Sheets as D
use Rattle.laws.specs.Booleans.{T_of, T_true, T_false, and_both}
use Rattle.laws.specs.Labels.{LabelsFit, name_at, element_at, name_found, element_found, one_snoc, one_to_one, taken_at, taken_by, mean_small, option_parts}
use Rattle.laws.specs.Reader.{mem_snoc}
use Rattle.laws.specs.Lists.{none_some, some_eq}
use Rattle.laws.specs.Tuples.{same_eq, same_refl}
use Rattle.read_line.specs.Entries.{Fielded, codes_of, element_by, elements_by, list_of}
use Rattle.read_line.specs.declared.Places.{Places}
use Rattle.read_line.specs.declared.Places.TheVariants.{One, Two, Three}
use Rattle.refusal.specs.declared.Cause.TheVariants.{OutOfRange, BadLabel}
use Rattle.std.specs.Prelude.{Ok, Err}
use Rattle.read_text.specs.Spans.{index_of}
use Rattle.read_text.proofs.Laws.{in_text, span_at, pieces_at, pieces_whole, split_some}
use Rattle.read_tuples.specs.Labels.{spanned, LabelsAre, meant, values, is_number, LabelAdds, LabelAdded}
use Rattle.read_tuples.specs.Marks.{are_below}

-- ---- a name among spans

-- none of the first x elements has the name
unfoldable pub NotBefore : (site words name : List ℕ) → ℕ → Type 0
NotBefore site words name x = (y : ℕ) → y < x → spanned site (get_or words (2 * y) 0) (get_or words (2 * y + 1) 0) ≡ some name → ⊥

span_is : (site : List ℕ) (a e : ℕ) (name : List ℕ) → spanned site a e ≡ some name → slice a e site ≡ name
unfolding spanned
span_is site a zero name q = absurd (none_some q)
span_is site a (suc e) name q = some_eq q

is_span : (site : List ℕ) (a e : ℕ) (name : List ℕ) → 0 < e → slice a e site ≡ name → spanned site a e ≡ some name
unfolding spanned
is_span site a zero name h q = absurd (omega arith)
is_span site a (suc e) name h q = ap some q

module _ (site words name : List ℕ) where
  pub not_yet : NotBefore site words name 0
  unfolding NotBefore
  not_yet y h q = absurd (omega arith)

  module _ (x : ℕ) (b : NotBefore site words name x) where
    not_here : (spanned site (get_or words (2 * x) 0) (get_or words (2 * x + 1) 0) ≡ some name → ⊥) → NotBefore site words name (x + 1)
    unfolding NotBefore
    not_here n y h = from_this (ℕ_discrete y x)
      where
        from_this : Dec (y ≡ x) → spanned site (get_or words (2 * y) 0) (get_or words (2 * y + 1) 0) ≡ some name → ⊥
        from_this (yes e) = subst (λ (z : ℕ). spanned site (get_or words (2 * z) 0) (get_or words (2 * z + 1) 0) ≡ some name → ⊥) (sym e) n
        from_this (no e) = b y (omega (arith, e))

    pub other_length : get_or words (2 * x + 1) 0 ≤ length site → (get_or words (2 * x + 1) 0 - get_or words (2 * x) 0 ≡ length name → ⊥) → NotBefore site words name (x + 1)
    other_length h n = not_here (λ q. n (sym (length-slice (get_or words (2 * x) 0) (get_or words (2 * x + 1) 0) site h) ∙ ap length (span_is site (get_or words (2 * x) 0) (get_or words (2 * x + 1) 0) name q)))

    pub other_bytes : same (slice (get_or words (2 * x) 0) (get_or words (2 * x + 1) 0) site) name ≡ false → NotBefore site words name (x + 1)
    other_bytes n = not_here (λ q. clash (T_true _ (subst (λ (w : List ℕ). T (same (slice (get_or words (2 * x) 0) (get_or words (2 * x + 1) 0) site) w)) (span_is site (get_or words (2 * x) 0) (get_or words (2 * x + 1) 0) name q) (same_refl _))) n)
      where
        clash : {c : Bool} → c ≡ true → c ≡ false → ⊥
        clash p q = let z : ◌≡◌ {A = ℕ} 0 1 = cc in omega arith

-- two spans of which one byte differs are not the same
pub other_byte : (s : List ℕ) (a e : ℕ) (t : List ℕ) (b f i : ℕ) → i < length (slice a e s) → i < length (slice b f t) → (get_or s (a + i) 0 ≡ get_or t (b + i) 0 → ⊥) → false ≡ same (slice a e s) (slice b f t)
other_byte s a e t b f i h k n = by_test (same (slice a e s) (slice b f t)) refl
  where
    by_test : (c : Bool) → same (slice a e s) (slice b f t) ≡ c → false ≡ c
    by_test true q =
        absurd (n (sym (span_at a e s i (in_text a e s i h).0) ∙ ap (λ (w : List ℕ). get_or w i 0) (same_eq (slice a e s) (slice b f t) (T_of q)) ∙ span_at b f t i (in_text b f t i k).0))
    by_test false q = refl

-- ---- the labels that the words say

module _ (site words : List ℕ) (n : ℕ) (ls : List D.Label) (L : LabelsAre site words n ls) (name : List ℕ) where
  pub found_here : (x : ℕ) → 0 < get_or words (2 * x + 1) 0 → same (slice (get_or words (2 * x) 0) (get_or words (2 * x + 1) 0) site) name ≡ true → x ≡ meant n (D.element_named ls name)
  unfolding meant option
  found_here x h q = rw ((one_to_one ls L.fit.one x name).0 (L.says x ∙ is_span site (get_or words (2 * x) 0) (get_or words (2 * x + 1) 0) name h (same_eq _ name (T_of q))))

  pub found_nowhere : NotBefore site words name n → n ≡ meant n (D.element_named ls name)
  unfolding NotBefore meant option
  found_nowhere b = by_option (D.element_named ls name) refl
    where
      by_option : (o : Option ℕ) → D.element_named ls name ≡ o → n ≡ option o n (λ x. x)
      by_option none e = refl
      by_option (some x) e =
          let (l, m, p, q) = element_at ls name x e in
          absurd (b x (subst (λ (y : ℕ). y < n) p (L.fit.small l m)) (sym (L.says x) ∙ (one_to_one ls L.fit.one x name).1 e))

  pub found_empty : length name ≡ 0 → n ≡ meant n (D.element_named ls name)
  unfolding meant option is_relation_name
  found_empty z = by_option (D.element_named ls name) refl
    where
      unnamed : (w : List ℕ) → length w ≡ 0 → T (is_relation_name w) → ⊥
      unnamed [] z t = t
      unnamed (b ∷ w) z t = omega arith

      by_option : (o : Option ℕ) → D.element_named ls name ≡ o → n ≡ option o n (λ x. x)
      by_option none e = refl
      by_option (some x) e = let (l, m, p, q) = element_at ls name x e in absurd (unnamed l.name (ap length q ∙ z) (L.fit.formed l m))

-- an element, or n
pub meant_few : (n : ℕ) (ls : List D.Label) → LabelsFit n ls → (name : List ℕ) → meant n (D.element_named ls name) ≤ n
unfolding meant option
meant_few n ls F name = by_option (D.element_named ls name) refl
  where
    by_option : (o : Option ℕ) → D.element_named ls name ≡ o → option o n (λ x. x) ≤ n
    by_option none q = omega arith
    by_option (some x) q = let (l, m, a, b) = element_at ls name x q in omega (arith, F.small l m, a)

-- ---- fields

module _ (f : List ℕ) (k : ℕ) where
  by_name : k ≡ 10000000 → element_by f k ≡ D.named f
  unfolding element_by
  by_name e = rw e refl

  by_number : (k ≡ 10000000 → ⊥) → element_by f k ≡ D.numbered k
  unfolding element_by
  by_number e = rw (ne_eqb k 10000000 e) refl

  module _ (n : ℕ) where
    pub name_means : k ≡ 10000000 → (ls : List D.Label) (r : ℕ) → r ≡ meant n (D.element_named ls f) → r ≡ meant n (D.element_of ls (element_by f k))
    unfolding D.element_of
    name_means e ls r q = q ∙ ap (λ (x : D.Element). meant n (D.element_of ls x)) (sym (by_name e))

    pub number_means : (k ≡ 10000000 → ⊥) → (ls : List D.Label) → k ≡ meant n (D.element_of ls (element_by f k))
    unfolding D.element_of meant option
    number_means e ls = ap (λ (x : D.Element). meant n (D.element_of ls x)) (sym (by_number e))

    pub name_fits : k ≡ 10000000 → true ≡ D.is_in_range n (element_by f k)
    unfolding D.is_in_range
    name_fits e = ap (D.is_in_range n) (sym (by_name e))

    pub number_fits : (k ≡ 10000000 → ⊥) → ltb k n ≡ D.is_in_range n (element_by f k)
    unfolding D.is_in_range
    number_fits e = ap (D.is_in_range n) (sym (by_number e))

-- fields and numbers, one by one
by_count : (fs : List (List ℕ)) (ks : List ℕ) → length fs ≡ length ks → length (elements_by fs ks) ≡ length ks
unfolding elements_by
by_count [] [] h = refl
by_count [] (k ∷ ks) h = absurd (omega arith)
by_count (f ∷ fs) [] h = absurd (omega arith)
by_count (f ∷ fs) (k ∷ ks) h = ap suc (by_count fs ks (omega arith))

-- numbers mean themselves
numbers_mean : (n : ℕ) (ls : List D.Label) (fs : List (List ℕ)) (ks : List ℕ) → length fs ≡ length ks → all is_number ks ≡ true → ks ≡ values n ls (elements_by fs ks)
unfolding elements_by values all is_number
numbers_mean n ls [] [] h e = refl
numbers_mean n ls [] (k ∷ ks) h e = absurd (omega arith)
numbers_mean n ls (f ∷ fs) [] h e = absurd (omega arith)
numbers_mean n ls (f ∷ fs) (k ∷ ks) h e =
    let (a, b) = and_both (not (eqb k 10000000)) (all is_number ks) e in
    ap₂ ◌∷◌ (number_means f k n (eqb-false k 10000000 (not-true (eqb k 10000000) a)) ls) (numbers_mean n ls fs ks (omega arith) b)

-- ---- the fields of a span: one, or the first and the others

module _ (s : List ℕ) (a e : ℕ) (h : a ≤ e) (k : e ≤ length s) where
  pub one_field : length (split 9 (slice a e s)) ≡ 1 → split 9 (slice a e s) ≡ slice a e s ∷ []
  one_field c = from_this (dec_lt (a + index_of 9 (slice a e s)) e)
    where
      from_this : Dec (a + index_of 9 (slice a e s) < e) → split 9 (slice a e s) ≡ slice a e s ∷ []
      from_this (yes l) = let v = ap length (pieces_at 9 a e s h k _ refl l) in absurd (omega (arith, v, c, split_some 9 (slice (a + index_of 9 (slice a e s) + 1) e s)))
      from_this (no l) = pieces_whole 9 a e s h k _ refl (omega arith)

  module _ (t : ℕ) (q : t ≡ a + index_of 9 (slice a e s)) (c : 2 ≤ length (split 9 (slice a e s))) where
    pub tab_inside : (a ≤ t) × (t < e)
    tab_inside = (omega arith, from_this (dec_lt t e))
      where
        from_this : Dec (t < e) → t < e
        from_this (yes l) = l
        from_this (no l) = let v = ap length (pieces_whole 9 a e s h k t q (omega arith)) in absurd (omega (arith, v, c))

    pub first_field : split 9 (slice a e s) ≡ slice a t s ∷ split 9 (slice (t + 1) e s)
    first_field = pieces_at 9 a e s h k t q tab_inside.1

    pub fields_after : length (split 9 (slice (t + 1) e s)) + 1 ≡ length (split 9 (slice a e s))
    fields_after = let v = ap length first_field in omega (arith, v)

module _ (s : List ℕ) (a e : ℕ) (p : Places) (w : Fielded s a e p) (n : ℕ) (ls : List D.Label) where
  pub values_1 : (x u : ℕ) → p ≡ One x → u ≡ meant n (D.element_of ls (element_by (slice a e s) x)) → codes_of (One u) ≡ values n ls (list_of s a e p)
  unfolding codes_of list_of values elements_by
  values_1 x u r v = rw (r, one_field s a e w.starts w.ends (w.count ∙ ap (λ (p : Places). length (codes_of p)) r)) (ap (λ (y : ℕ). y ∷ []) v)

  module _ (t : ℕ) (q : t ≡ a + index_of 9 (slice a e s)) where
    module _ (x y : ℕ) (r : p ≡ Two x y) where
      two_fields : length (split 9 (slice a e s)) ≡ 2
      unfolding codes_of
      two_fields = w.count ∙ ap (λ (p : Places). length (codes_of p)) r

      pub tab_2 : (a ≤ t) × (t < e)
      tab_2 = tab_inside s a e w.starts w.ends t q (omega (arith, two_fields))

      pub values_2 : (u v : ℕ) → u ≡ meant n (D.element_of ls (element_by (slice a t s) x)) → v ≡ meant n (D.element_of ls (element_by (slice (t + 1) e s) y)) → codes_of (Two u v) ≡ values n ls (list_of s a e p)
      unfolding codes_of list_of values elements_by
      values_2 u v i j =
          let c : 2 ≤ length (split 9 (slice a e s)) = omega (arith, two_fields) in
          let l = tab_2 in
          rw (r, first_field s a e w.starts w.ends t q c, one_field s (t + 1) e (omega arith) w.ends (omega (arith, fields_after s a e w.starts w.ends t q c, two_fields))) (ap₂ (λ (y z : ℕ). y ∷ z ∷ []) i j)

    module _ (x y z : ℕ) (r : p ≡ Three x y z) where
      three_fields : length (split 9 (slice a e s)) ≡ 3
      unfolding codes_of
      three_fields = w.count ∙ ap (λ (p : Places). length (codes_of p)) r

      pub tab_3 : (a ≤ t) × (t < e)
      tab_3 = tab_inside s a e w.starts w.ends t q (omega (arith, three_fields))

      after_first : length (split 9 (slice (t + 1) e s)) ≡ 2
      after_first = omega (arith, fields_after s a e w.starts w.ends t q (omega (arith, three_fields)), three_fields)

      module _ (b : ℕ) (o : b ≡ t + 1 + index_of 9 (slice (t + 1) e s)) where
        pub tab_4 : (t + 1 ≤ b) × (b < e)
        tab_4 = let l = tab_3 in tab_inside s (t + 1) e (omega arith) w.ends b o (omega (arith, after_first))

        pub values_3 : (u v m : ℕ) → u ≡ meant n (D.element_of ls (element_by (slice a t s) x)) → v ≡ meant n (D.element_of ls (element_by (slice (t + 1) b s) y)) → m ≡ meant n (D.element_of ls (element_by (slice (b + 1) e s) z)) → codes_of (Three u v m) ≡ values n ls (list_of s a e p)
        unfolding codes_of list_of values elements_by
        values_3 u v m i j k =
            let c : 2 ≤ length (split 9 (slice a e s)) = omega (arith, three_fields) in
            let d : 2 ≤ length (split 9 (slice (t + 1) e s)) = omega (arith, after_first) in
            let l = tab_3 in
            let o' = tab_4 in
            rw (r, first_field s a e w.starts w.ends t q c, first_field s (t + 1) e (omega arith) w.ends b o d, one_field s (b + 1) e (omega arith) w.ends (omega (arith, fields_after s (t + 1) e (omega arith) w.ends b o d, after_first)))
            (ap₂ (λ (y : ℕ) (ys : List ℕ). y ∷ ys) i (ap₂ (λ (y z : ℕ). y ∷ z ∷ []) j k))

-- whether numbers fit, whatever the fields
Fit : ℕ → List ℕ → Bool → Type 0
Fit n ks b = (fs : List (List ℕ)) → length fs ≡ length ks → b ≡ all (D.is_in_range n) (elements_by fs ks)

fit_nil : (n : ℕ) → Fit n [] true
unfolding Fit elements_by all
fit_nil n [] c = refl
fit_nil n (f ∷ fs) c = refl

fit_cons : (n k : ℕ) (ks : List ℕ) (b : Bool) → ((f : List ℕ) → true ≡ D.is_in_range n (element_by f k)) → Fit n ks b → Fit n (k ∷ ks) b
unfolding Fit elements_by all
fit_cons n k ks b h r [] c = absurd (omega arith)
fit_cons n k ks b h r (f ∷ fs) c = rw (← h f) (r fs (omega arith))

unfit_cons : (n k : ℕ) (ks : List ℕ) → ((f : List ℕ) → false ≡ D.is_in_range n (element_by f k)) → Fit n (k ∷ ks) false
unfolding Fit elements_by all
unfit_cons n k ks h [] c = absurd (omega arith)
unfit_cons n k ks h (f ∷ fs) c = rw (← h f) refl

fit_last : (n k : ℕ) (b : Bool) → ((f : List ℕ) → b ≡ D.is_in_range n (element_by f k)) → Fit n (k ∷ []) b
fit_last n k true h = fit_cons n k [] true h (fit_nil n)
fit_last n k false h = unfit_cons n k [] h

module _ (n : ℕ) (p : Places) where
  pub fit_1 : (x : ℕ) (b : Bool) → p ≡ One x → ((f : List ℕ) → b ≡ D.is_in_range n (element_by f x)) → (fs : List (List ℕ)) → length fs ≡ length (codes_of p) → b ≡ all (D.is_in_range n) (elements_by fs (codes_of p))
  unfolding Fit codes_of
  fit_1 x b e h = subst (λ (p : Places). Fit n (codes_of p) b) (sym e) (fit_last n x b h)

  module _ (x y : ℕ) (e : p ≡ Two x y) where
    pub fit_2 : (b : Bool) → ((f : List ℕ) → true ≡ D.is_in_range n (element_by f x)) → ((f : List ℕ) → b ≡ D.is_in_range n (element_by f y)) → (fs : List (List ℕ)) → length fs ≡ length (codes_of p) → b ≡ all (D.is_in_range n) (elements_by fs (codes_of p))
    unfolding Fit codes_of
    fit_2 b h k = subst (λ (p : Places). Fit n (codes_of p) b) (sym e) (fit_cons n x (y ∷ []) b h (fit_last n y b k))

    pub unfit_2 : ((f : List ℕ) → false ≡ D.is_in_range n (element_by f x)) → (fs : List (List ℕ)) → length fs ≡ length (codes_of p) → false ≡ all (D.is_in_range n) (elements_by fs (codes_of p))
    unfolding Fit codes_of
    unfit_2 h = subst (λ (p : Places). Fit n (codes_of p) false) (sym e) (unfit_cons n x (y ∷ []) h)

  module _ (x y z : ℕ) (e : p ≡ Three x y z) where
    pub fit_3 : (b : Bool) → ((f : List ℕ) → true ≡ D.is_in_range n (element_by f x)) → ((f : List ℕ) → true ≡ D.is_in_range n (element_by f y))
        → ((f : List ℕ) → b ≡ D.is_in_range n (element_by f z)) → (fs : List (List ℕ)) → length fs ≡ length (codes_of p) → b
        ≡ all (D.is_in_range n) (elements_by fs (codes_of p))
    unfolding Fit codes_of
    fit_3 b h k l = subst (λ (p : Places). Fit n (codes_of p) b) (sym e) (fit_cons n x (y ∷ z ∷ []) b h (fit_cons n y (z ∷ []) b k (fit_last n z b l)))

    pub unfit_second : ((f : List ℕ) → true ≡ D.is_in_range n (element_by f x)) → ((f : List ℕ) → false ≡ D.is_in_range n (element_by f y)) → (fs : List (List ℕ)) → length fs ≡ length (codes_of p) → false ≡ all (D.is_in_range n) (elements_by fs (codes_of p))
    unfolding Fit codes_of
    unfit_second h k = subst (λ (p : Places). Fit n (codes_of p) false) (sym e) (fit_cons n x (y ∷ z ∷ []) false h (unfit_cons n y (z ∷ []) k))

    pub unfit_first : ((f : List ℕ) → false ≡ D.is_in_range n (element_by f x)) → (fs : List (List ℕ)) → length fs ≡ length (codes_of p) → false ≡ all (D.is_in_range n) (elements_by fs (codes_of p))
    unfolding Fit codes_of
    unfit_first h = subst (λ (p : Places). Fit n (codes_of p) false) (sym e) (unfit_cons n x (y ∷ z ∷ []) h)

-- the same of the fields of a line
module _ (s : List ℕ) (a e : ℕ) (p : Places) (w : Fielded s a e p) where
  pub list_count : (k : ℕ) → k ≡ length (codes_of p) → k ≡ length (list_of s a e p)
  unfolding list_of
  list_count k q = q ∙ sym (by_count (split 9 (slice a e s)) (codes_of p) w.count)

  pub list_fits : (n : ℕ) (b : Bool) → ((fs : List (List ℕ)) → length fs ≡ length (codes_of p) → b ≡ all (D.is_in_range n) (elements_by fs (codes_of p))) → b ≡ all (D.is_in_range n) (list_of s a e p)
  unfolding list_of
  list_fits n b h = h (split 9 (slice a e s)) w.count

  pub list_numbers : (n : ℕ) (ls : List D.Label) → all is_number (codes_of p) ≡ true → codes_of p ≡ values n ls (list_of s a e p)
  unfolding list_of
  list_numbers n ls h = numbers_mean n ls (split 9 (slice a e s)) (codes_of p) w.count h

-- ---- what fields mean, taken together

values_are : (n : ℕ) (ls : List D.Label) (es : List D.Element) (xs : List ℕ) → D.elements_of ls es ≡ some xs → values n ls es ≡ xs
unfolding D.elements_of values meant option
values_are n ls [] xs q = some_eq q
values_are n ls (e ∷ es) xs q =
    let (x, a, q₁) = option_parts (D.element_of ls e) _ xs q in
    let (ys, b, q₂) = option_parts (D.elements_of ls es) _ xs q₁ in
    rw (a, values_are n ls es ys b) (some_eq q₂)

module _ (n : ℕ) (ls : List D.Label) where
  one_in : (e : D.Element) → ltb (meant n (D.element_of ls e)) n ≡ true → (D.is_in_range n e ≡ true) × (D.element_of ls e ≡ some (meant n (D.element_of ls e)))
  unfolding D.element_of D.is_in_range meant option
  one_in (D.numbered x) h = (h, refl)
  one_in (D.named f) h = (refl, by_option (D.element_named ls f) h)
    where
      by_option : (o : Option ℕ) → ltb (option o n (λ x. x)) n ≡ true → o ≡ some (option o n (λ x. x))
      by_option none k = absurd (omega (arith, ltb-true n n k))
      by_option (some x) k = refl

  pub values_in : (es : List D.Element) → are_below n (values n ls es) ≡ true → (all (D.is_in_range n) es ≡ true) × (D.elements_of ls es ≡ some (values n ls es))
  unfolding are_below values all D.elements_of option
  values_in [] h = (refl, refl)
  values_in (e ∷ es) h =
      let (a, b) = and_both (ltb (meant n (D.element_of ls e)) n) (all (λ x. ltb x n) (values n ls es)) h in
      let (c, d) = one_in e a in
      let (f, g) = values_in es b in
      (rw (c, f) refl, consed (D.element_of ls e) (D.elements_of ls es) d g)
    where
      consed : (o : Option ℕ) (p : Option (List ℕ)) {x : ℕ} {xs : List ℕ} → o ≡ some x → p ≡ some xs → option o none (λ y. option p none (λ ys. some (y ∷ ys))) ≡ some (x ∷ xs)
      consed o p u v = rw (u, v) refl

  pub values_out : LabelsFit n ls → (es : List D.Element) → are_below n (values n ls es) ≡ false → all (D.is_in_range n) es ≡ true → D.elements_of ls es ≡ none
  unfolding are_below
  values_out F es h r = by_option (D.elements_of ls es) refl
    where
      by_option : (o : Option (List ℕ)) → D.elements_of ls es ≡ o → o ≡ none
      by_option none e = refl
      by_option (some xs) e =
          let t : all (λ x. ltb x n) xs ≡ true = T_true _ (mean_small n ls F es xs (T_of r) e) in
          let u : all (λ x. ltb x n) (values n ls es) ≡ all (λ x. ltb x n) xs = ap (all (λ x. ltb x n)) (values_are n ls es xs e) in
          let z : ◌≡◌ {A = ℕ} 0 1 = cc in
          absurd (omega arith)

-- ---- one label more

module _ (n : ℕ) (ls : List D.Label) (at : ℕ) (e : D.Element) (name : List ℕ) where
  -- what is added to: a site that has its size and no fact yet
  abbrev site_draft : D.SiteDraft
  site_draft = record { sized = some n; labels = ls; members = []; facts = [] }

  label_9 : D.is_in_range n e ≡ false → D.add_label site_draft at e name ≡ refused 9 at
  unfolding D.add_label given ◌>>=◌ refuse_if is_empty
  label_9 h = rw h

  module _ (h : D.is_in_range n e ≡ true) where
    label_nobody : D.element_of ls e ≡ none → D.add_label site_draft at e name ≡ refused 18 at
    unfolding D.add_label given ◌>>=◌ refuse_if is_empty
    label_nobody q = rw (h, q)

    module _ (x : ℕ) (q : D.element_of ls e ≡ some x) where
      label_taken : D.is_taken ls x name ≡ true → D.add_label site_draft at e name ≡ refused 18 at
      unfolding D.add_label given ◌>>=◌ refuse_if is_empty
      label_taken k = rw (h, q, k)

      label_added : D.is_taken ls x name ≡ false → D.add_label site_draft at e name ≡ accepted (record { sized = some n; labels = ls ++ (record { element = x; name = name } ∷ []); members = []; facts = [] })
      unfolding D.add_label given ◌>>=◌ refuse_if is_empty
      label_added k = rw (h, q, k)

-- the names after it: its own element's, and the others' as they were
other_name : (ls : List D.Label) (k : D.Label) (y : ℕ) → (y ≡ k.element → ⊥) → D.name_of (ls ++ (k ∷ [])) y ≡ D.name_of ls y
unfolding D.name_of
other_name [] k y h = rw (ne_eqb k.element y (λ e. h (sym e))) refl
other_name (l ∷ ls) k y h = rw (other_name ls k y h) refl

own_name : (ls : List D.Label) (k : D.Label) → D.name_of ls k.element ≡ none → D.name_of (ls ++ (k ∷ [])) k.element ≡ some k.name
unfolding D.name_of
own_name [] k h = rw (eq-eqb k.element k.element refl) refl
own_name (l ∷ ls) k h = by_test (eqb l.element k.element) h (own_name ls k)
  where
    by_test : (b : Bool) → (if b then some l.name else D.name_of ls k.element) ≡ none → (D.name_of ls k.element ≡ none → D.name_of (ls ++ (k ∷ [])) k.element ≡ some k.name) → (if b then some l.name else D.name_of (ls ++ (k ∷ [])) k.element) ≡ some k.name
    by_test true q r = absurd (none_some (sym q))
    by_test false q r = r q

-- neither the element nor the name is a label's
is_free : (n : ℕ) (ls : List D.Label) → LabelsFit n ls → (x : ℕ) (name : List ℕ) → D.name_of ls x ≡ none → D.element_named ls name ≡ none → D.is_taken ls x name ≡ false
is_free n ls F x name a b = T_false (D.is_taken ls x name) (λ t.
    let (l, m, e) = taken_at ls x name t in
    ⊎_elim (λ q. none_some (sym (ap (D.name_of ls) q ∙ a) ∙ name_found ls l F.one m)) (λ q. none_some (sym (ap (D.element_named ls) q ∙ b) ∙ element_found ls l F.one m)) e)

module _ (site : List ℕ) (n : ℕ) (w : List ℕ) (k : ℕ) (name old new : List ℕ) where
  pub label_by_name : k ≡ 10000000 → LabelAdded site n (element_by w k) name old new (Err BadLabel)
  unfolding LabelAdded LabelAdds D.element_of D.is_in_range
  label_by_name e ls at L = subst (λ (x : D.Element). D.add_label (site_draft n ls at x name) at x name ≡ refused 18 at) (sym (by_name w k e)) (by_option (D.element_named ls w) refl)
    where
      by_option : (o : Option ℕ) → D.element_named ls w ≡ o → D.add_label (site_draft n ls at (D.named w) name) at (D.named w) name ≡ refused 18 at
      by_option none q = label_nobody n ls at (D.named w) name refl q
      by_option (some x) q = let (l, m, a, b) = element_at ls w x q in label_taken n ls at (D.named w) name refl x q (T_true _ (taken_by ls l x name m (inl a)))

  module _ (e : k ≡ 10000000 → ⊥) where
    number_is : (P : D.Element → Type 0) → P (D.numbered k) → P (element_by w k)
    number_is P p = subst P (sym (by_number w k e)) p

    pub label_wide : n ≤ k → LabelAdded site n (element_by w k) name old new (Err OutOfRange)
    unfolding LabelAdded LabelAdds D.is_in_range
    label_wide h ls at L = number_is (λ x. D.add_label (site_draft n ls at x name) at x name ≡ refused 9 at) (label_9 n ls at (D.numbered k) name (le-ltb k n h))

    module _ (h : k < n) where
      taken : (ls : List D.Label) (at : ℕ) → D.is_taken ls k name ≡ true → D.add_label (site_draft n ls at (element_by w k) name) at (element_by w k) name ≡ refused 18 at
      unfolding D.element_of D.is_in_range
      taken ls at t = number_is (λ x. D.add_label (site_draft n ls at x name) at x name ≡ refused 18 at) (label_taken n ls at (D.numbered k) name (lt-ltb k n h) k refl t)

      pub label_again : (get_or old (2 * k + 1) 0 ≡ 0 → ⊥) → LabelAdded site n (element_by w k) name old new (Err BadLabel)
      unfolding LabelAdded LabelAdds
      label_again z ls at L =
          let (v, q) = some_span site (get_or old (2 * k) 0) (get_or old (2 * k + 1) 0) z in
          let (l, m, a, b) = name_at ls k v (L.says k ∙ q) in
          taken ls at (T_true _ (taken_by ls l k name m (inl a)))
        where
          some_span : (s : List ℕ) (a e : ℕ) → (e ≡ 0 → ⊥) → (w : List ℕ) × (spanned s a e ≡ some w)
          some_span s a e k = (slice a e s, is_span s a e (slice a e s) (omega (arith, k)) refl)

      pub label_used : ((ls : List D.Label) → LabelsAre site old n ls → meant n (D.element_named ls name) < n) → LabelAdded site n (element_by w k) name old new (Err BadLabel)
      unfolding LabelAdded LabelAdds meant option
      label_used u ls at L = by_option (D.element_named ls name) refl (u ls L)
        where
          by_option : (o : Option ℕ) → D.element_named ls name ≡ o → option o n (λ x. x) < n → D.add_label (site_draft n ls at (element_by w k) name) at (element_by w k) name ≡ refused 18 at
          by_option none q l = absurd (omega arith)
          by_option (some x) q l = let (l₁, m, a, b) = element_at ls name x q in taken ls at (T_true _ (taken_by ls l₁ k name m (inr b)))

-- the words after it
module _ (site words : List ℕ) (n : ℕ) (ls : List D.Label) (L : LabelsAre site words n ls) (x a e : ℕ) (h : x < n) (few : n ≤ 64) (in-site : e ≤ length site) (formed : T (is_relation_name (slice a e site)))
    (k : get_or words (2 * x + 1) 0 ≡ 0) (u : D.element_named ls (slice a e site) ≡ none) where
  abbrev next : List ℕ
  next = set (set words (2 * x) a) (2 * x + 1) e

  its_from : get_or next (2 * x) 0 ≡ a
  its_from = get_or-set_other (set words (2 * x) a) (2 * x + 1) (2 * x) e 0 (λ q. omega (arith, q)) ∙ get_or-set_same words (2 * x) a 0 (omega (arith, L.room))

  its_to : get_or next (2 * x + 1) 0 ≡ e
  its_to = get_or-set_same (set words (2 * x) a) (2 * x + 1) e 0 (omega (arith, length-set words (2 * x) a, L.room))

  still : (j : ℕ) → (j ≡ 2 * x → ⊥) → (j ≡ 2 * x + 1 → ⊥) → get_or next j 0 ≡ get_or words j 0
  still j p q = get_or-set_other (set words (2 * x) a) (2 * x + 1) j e 0 q ∙ get_or-set_other words (2 * x) j a 0 p

  some_bytes : (w : List ℕ) → T (is_relation_name w) → 0 < length w
  unfolding is_relation_name
  some_bytes [] t = absurd t
  some_bytes (b ∷ w) t = omega arith

  not_empty : (0 < e) × (a ≤ e)
  not_empty = let m = some_bytes (slice a e site) formed in let l = length-slice a e site in-site in (omega arith, omega arith)

  nameless : D.name_of ls x ≡ none
  unfolding spanned
  nameless = L.says x ∙ ap (spanned site (get_or words (2 * x) 0)) k

  pub label_words : LabelsAre site next n (ls ++ (record { element = x; name = slice a e site } ∷ []))
  label_words = record {
    room = length-set (set words (2 * x) a) (2 * x + 1) e ∙ length-set words (2 * x) a ∙ L.room;
    says = λ y. names y (ℕ_discrete y x);
    in_text = λ y j. spans y j (ℕ_discrete y x);
    past = λ y j. still (2 * y + 1) (λ r. omega (arith, r)) (λ r. omega (arith, r)) ∙ L.past y j;
    fit = record {
      small = mem_snoc (λ (l : D.Label). l.element < n) ls l L.fit.small h;
      formed = mem_snoc (λ (l : D.Label). T (is_relation_name l.name)) ls l L.fit.formed formed;
      one = one_snoc ls l L.fit.one (not_T (D.is_taken ls x (slice a e site)) (λ t. clash (T_true _ t) (is_free n ls L.fit x (slice a e site) nameless u)));
    };
  }
    where
      l : D.Label
      l = record { element = x; name = slice a e site }

      clash : {c : Bool} → c ≡ true → c ≡ false → ⊥
      clash p q = let z : ◌≡◌ {A = ℕ} 0 1 = cc in omega arith

      names : (y : ℕ) → Dec (y ≡ x) → D.name_of (ls ++ (l ∷ [])) y ≡ spanned site (get_or next (2 * y) 0) (get_or next (2 * y + 1) 0)
      names y (yes q) = subst (λ (z : ℕ). D.name_of (ls ++ (l ∷ [])) z ≡ spanned site (get_or next (2 * z) 0) (get_or next (2 * z + 1) 0)) (sym q) (own_name ls l nameless ∙ sym (is_span site a e (slice a e site) not_empty.0 refl) ∙ sym (ap₂ (spanned site) its_from its_to))
      names y (no q) = other_name ls l y q ∙ L.says y ∙ sym (ap₂ (spanned site) (still (2 * y) (λ r. q (omega (arith, r))) (λ r. omega (arith, r))) (still (2 * y + 1) (λ r. omega (arith, r)) (λ r. q (omega (arith, r)))))

      spans : (y : ℕ) → y < 64 → Dec (y ≡ x) → (get_or next (2 * y) 0 ≤ get_or next (2 * y + 1) 0) × (get_or next (2 * y + 1) 0 ≤ length site)
      spans y j (yes q) = subst (λ (z : ℕ). (get_or next (2 * z) 0 ≤ get_or next (2 * z + 1) 0) × (get_or next (2 * z + 1) 0 ≤ length site)) (sym q) (rw (its_from, its_to) (not_empty.1, in-site))
      spans y j (no q) = rw (still (2 * y) (λ r. q (omega (arith, r))) (λ r. omega (arith, r)), still (2 * y + 1) (λ r. omega (arith, r)) (λ r. q (omega (arith, r)))) (L.in_text y j)

pub label_new : (site : List ℕ) (n : ℕ) (w : List ℕ) (x a e : ℕ) (old : List ℕ) → (x ≡ 10000000 → ⊥) → x < n → n ≤ 64 → e ≤ length site → is_relation_name (slice a e site) ≡ true → get_or old (2 * x + 1) 0 ≡ 0
    → ((ls : List D.Label) → LabelsAre site old n ls → n ≤ meant n (D.element_named ls (slice a e site)))
    → LabelAdded site n (element_by w x) (slice a e site) old (set (set old (2 * x) a) (2 * x + 1) e) (Ok tt)
unfolding LabelAdded LabelAdds D.element_of D.is_in_range meant option spanned
label_new site n w x a e old d h few in-site formed k u ls at L =
    let free = by_option (D.element_named ls (slice a e site)) refl (u ls L) in (
      record { element = x; name = slice a e site },
      number_is site n w x (slice a e site) old old d (λ y. D.add_label (site_draft n ls at y (slice a e site)) at y (slice a e site) ≡ accepted (record { sized = some n; labels = ls ++ (record { element = x; name = slice a e site } ∷ []); members = []; facts = [] }))
          (label_added n ls at (D.numbered x) (slice a e site) (lt-ltb x n h) x refl (is_free n ls L.fit x (slice a e site) (L.says x ∙ ap (spanned site (get_or old (2 * x) 0)) k) free)),
      label_words site old n ls L x a e h few in-site (T_of formed) k free,
    )
  where
    by_option : (o : Option ℕ) → D.element_named ls (slice a e site) ≡ o → n ≤ option o n (λ x. x) → D.element_named ls (slice a e site) ≡ none
    by_option none q l = q
    by_option (some y) q l = let (j, m, p, r) = element_at ls (slice a e site) y q in absurd (omega (arith, L.fit.small j m, p))

-- ---- a hint: no span changes
module _ (site words : List ℕ) (n : ℕ) (ls : List D.Label) (L : LabelsAre site words n ls) (p x : ℕ) where
  abbrev hinted : List ℕ
  hinted = set words (128 + 2 * p) x

  before_hints : (j : ℕ) → j < 128 → get_or hinted j 0 ≡ get_or words j 0
  before_hints j l = get_or-set_other words (128 + 2 * p) j x 0 (λ q. omega (arith, q))

  beside_hints : (y : ℕ) → get_or hinted (2 * y + 1) 0 ≡ get_or words (2 * y + 1) 0
  beside_hints y = get_or-set_other words (128 + 2 * p) (2 * y + 1) x 0 (λ q. omega (arith, q))

  -- where a span ends at 0 its start does not matter
  no_span : (s : List ℕ) (a b e : ℕ) → e ≡ 0 → spanned s a e ≡ spanned s b e
  unfolding spanned
  no_span s a b zero q = refl
  no_span s a b (suc e) q = absurd (omega arith)

  pub hint_kept : LabelsAre site hinted n ls
  hint_kept = record {
    room = length-set words (128 + 2 * p) x ∙ L.room;
    says = λ y. L.says y ∙ span y (dec_lt y 64);
    in_text = λ y l. rw (before_hints (2 * y) (omega arith), beside_hints y) (L.in_text y l);
    past = λ y l. beside_hints y ∙ L.past y l;
    fit = L.fit;
  }
    where
      span : (y : ℕ) → Dec (y < 64) → spanned site (get_or words (2 * y) 0) (get_or words (2 * y + 1) 0) ≡ spanned site (get_or hinted (2 * y) 0) (get_or hinted (2 * y + 1) 0)
      span y (yes l) = sym (ap₂ (spanned site) (before_hints (2 * y) (omega arith)) (beside_hints y))
      span y (no l) = no_span site (get_or words (2 * y) 0) (get_or hinted (2 * y) 0) (get_or words (2 * y + 1) 0) (L.past y (omega arith)) ∙ ap (spanned site (get_or hinted (2 * y) 0)) (sym (beside_hints y))

pub added_hinted : (site : List ℕ) (n : ℕ) (e : D.Element) (name old mid new : List ℕ) (x : ℕ) → LabelAdded site n e name old mid (Ok tt)
    → ((p : ℕ) × (p < 128) × (new ≡ set mid (128 + 2 * p) x)) → LabelAdded site n e name old new (Ok tt)
unfolding LabelAdded LabelAdds
added_hinted site n e name old mid new x A (p, l, q) ls at L =
    let (k, r, M) = A ls at L in
    (k, r, subst (λ (w : List ℕ). LabelsAre site w n (ls ++ (k ∷ []))) (sym q) (hint_kept site mid n (ls ++ (k ∷ [])) M p x))
