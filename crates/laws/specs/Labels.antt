-- Labels of elements: that they are one to one, and what element fields mean by them.
use Rattle.std.specs.Prelude.{ℕ, suc, ◌<◌, ◌≡◌, refl, ◌⊎◌, ◌↔◌, Bool, true, false, not, ◌||◌, T, eqb, ltb, length, if◌then◌else◌}
use Rattle.std.proofs.Common.{sym, ap, subst, ◌∙◌, inl, inr, ⊎_elim, eqb→eq, lt→ltb, T_not}
use Rattle.std.proofs.Math.Option.{Option, none, some}
use mathlib.Core.List.Memᴰ
use mathlib.Core.List.{List, [], ◌∷◌, ◌++◌, map, Memᴰ}
use Rattle.std.proofs.Math.Dec.{eqb_refl, not_T}
use Rattle.definitions.specs.Lists.{all, same, is_empty, option}
use Rattle.definitions.specs.Sheet.Text.{is_relation_name}
use Rattle.definitions.specs.Refusal.{refused, accepted, ◌>>=◌, refuse_if, given}
use Rattle.definitions.specs.Sheet.Sheets.{Element, numbered, named, Label, element_named, name_of, element_of, elements_of, is_in_range, SiteDraft, is_taken, add_label}
use Rattle.laws.specs.Booleans.{and_T, T_and_l, T_and_r, T_false, T_of, T_or, T_true, or_l, or_r}
use Rattle.laws.specs.Lists.{any_at, any_of, none_some, snoc_cases, some_eq}
use Rattle.laws.specs.Tuples.{same_eq, same_refl}

-- ---- an option that is asked first: what is there, where the whole is
pub option_parts : {A B : Type 0} (o : Option A) (f : A → Option B) (b : B) → option o none f ≡ some b → (a : A) × (o ≡ some a) × (f a ≡ some b)
unfolding option
option_parts none f b e = absurd (none_some e)
option_parts (some a) f b e = (a, refl, e)

-- ---- one to one: no label has the element or the name of a later one
unfoldable pub OneToOne : List Label → Type 0
OneToOne [] = Unit {0}
OneToOne (l ∷ ls) = T (not (is_taken ls l.element l.name)) × OneToOne ls

-- a label takes its element and its name
pub taken_by : (ls : List Label) (l : Label) (x : ℕ) (name : List ℕ) → Memᴰ l ls → (l.element ≡ x) ⊎ (l.name ≡ name) → T (is_taken ls x name)
unfolding is_taken
taken_by ls l x name m e = any_of (λ (k : Label). eqb k.element x || same k.name name) ls l m (⊎_elim
    (λ q. or_l (eqb l.element x) _ (subst (λ (y : ℕ). T (eqb l.element y)) q (eqb_refl l.element)))
    (λ q. or_r (eqb l.element x) _ (subst (λ (y : List ℕ). T (same l.name y)) q (same_refl l.name))) e)

pub taken_at : (ls : List Label) (x : ℕ) (name : List ℕ) → T (is_taken ls x name) → (l : Label) × Memᴰ l ls × ((l.element ≡ x) ⊎ (l.name ≡ name))
unfolding is_taken
taken_at ls x name t =
    let (l, m, q) = any_at (λ (k : Label). eqb k.element x || same k.name name) ls t in
    (l, m, ⊎_elim (λ e. inl (eqb→eq l.element x e)) (λ e. inr (same_eq l.name name e)) (T_or (eqb l.element x) _ q))

pub one_snoc : (ls : List Label) (k : Label) → OneToOne ls → T (not (is_taken ls k.element k.name)) → OneToOne (ls ++ (k ∷ []))
unfolding OneToOne
one_snoc [] k o h = (not_T (is_taken [] k.element k.name) (λ t. Memᴰ.not-nil (taken_at [] k.element k.name t).1), tt)
one_snoc (l ∷ ls) k o h = (
  not_T (is_taken (ls ++ (k ∷ [])) l.element l.name) (λ t.
      let (m, i, e) = taken_at (ls ++ (k ∷ [])) l.element l.name t in
      ⊎_elim (λ q. T_not (is_taken ls l.element l.name) o.0 (taken_by ls m l.element l.name q e))
      (λ q. T_not (is_taken (l ∷ ls) k.element k.name) h (taken_by (l ∷ ls) l k.element k.name (Memᴰ.head refl) (⊎_elim (λ f. inl (sym f ∙ ap (λ (y : Label). y.element) q)) (λ f. inr (sym f ∙ ap (λ (y : Label). y.name) q)) e)))
      (snoc_cases ls k m i)),
  one_snoc ls k o.1 (not_T (is_taken ls k.element k.name) (λ t.
      let (m, i, e) = taken_at ls k.element k.name t in
      T_not (is_taken (l ∷ ls) k.element k.name) h (taken_by (l ∷ ls) m k.element k.name (Memᴰ.tail i) e))),
)

-- ---- looking up: what is found is a label of the list;
pub name_at : (ls : List Label) (x : ℕ) (name : List ℕ) → name_of ls x ≡ some name → (l : Label) × Memᴰ l ls × (l.element ≡ x) × (l.name ≡ name)
unfolding name_of
name_at [] x name e = absurd (none_some e)
name_at (l ∷ ls) x name e = by_test (eqb l.element x) refl e (name_at ls x name)
  where
    by_test : (b : Bool) → eqb l.element x ≡ b → (if b then some l.name else name_of ls x) ≡ some name → (name_of ls x ≡ some name → (k : Label) × Memᴰ k ls × (k.element ≡ x) × (k.name ≡ name)) → (k : Label) × Memᴰ k (l ∷ ls) × (k.element ≡ x) × (k.name ≡ name)
    by_test true q f h = (l, Memᴰ.head refl, eqb→eq l.element x (T_of q), some_eq f)
    by_test false q f h = let (k, m, a, b) = h f in (k, Memᴰ.tail m, a, b)

pub element_at : (ls : List Label) (name : List ℕ) (x : ℕ) → element_named ls name ≡ some x → (l : Label) × Memᴰ l ls × (l.element ≡ x) × (l.name ≡ name)
unfolding element_named
element_at [] name x e = absurd (none_some e)
element_at (l ∷ ls) name x e = by_test (same l.name name) refl e (element_at ls name x)
  where
    by_test : (b : Bool) → same l.name name ≡ b → (if b then some l.element else element_named ls name) ≡ some x → (element_named ls name ≡ some x → (k : Label) × Memᴰ k ls × (k.element ≡ x) × (k.name ≡ name)) → (k : Label) × Memᴰ k (l ∷ ls) × (k.element ≡ x) × (k.name ≡ name)
    by_test true q f h = (l, Memᴰ.head refl, some_eq f, same_eq l.name name (T_of q))
    by_test false q f h = let (k, m, a, b) = h f in (k, Memᴰ.tail m, a, b)

-- and where they are one to one, each label of the list is found, by its element and by its name
pub name_found : (ls : List Label) (l : Label) → OneToOne ls → Memᴰ l ls → name_of ls l.element ≡ some l.name
unfolding name_of OneToOne
name_found [] l o m = absurd (Memᴰ.not-nil m)
name_found (k ∷ ls) l o m = ⊎_elim
    (λ q. subst (λ (y : Label). (if eqb k.element y.element then some k.name else name_of ls y.element) ≡ some y.name) (sym q) (let e = T_true (eqb k.element k.element) (eqb_refl k.element) in rw e refl))
    (λ q. let e = T_false (eqb k.element l.element) (λ t. T_not (is_taken ls k.element k.name) o.0 (taken_by ls l k.element k.name q (inl (sym (eqb→eq k.element l.element t))))) in rw e (name_found ls l o.1 q))
    (Memᴰ.cases_cons m)

pub element_found : (ls : List Label) (l : Label) → OneToOne ls → Memᴰ l ls → element_named ls l.name ≡ some l.element
unfolding element_named OneToOne
element_found [] l o m = absurd (Memᴰ.not-nil m)
element_found (k ∷ ls) l o m = ⊎_elim
    (λ q. subst (λ (y : Label). (if same k.name y.name then some k.element else element_named ls y.name) ≡ some y.element) (sym q) (let e = T_true (same k.name k.name) (same_refl k.name) in rw e refl))
    (λ q. let e = T_false (same k.name l.name) (λ t. T_not (is_taken ls k.element k.name) o.0 (taken_by ls l k.element k.name q (inr (sym (same_eq k.name l.name t))))) in rw e (element_found ls l o.1 q))
    (Memᴰ.cases_cons m)

-- so an element has a name exactly if the name has that element
pub one_to_one : (ls : List Label) → OneToOne ls → (x : ℕ) (name : List ℕ) → (name_of ls x ≡ some name) ↔ (element_named ls name ≡ some x)
one_to_one ls o x name = (
  (λ e. let (l, m, a, b) = name_at ls x name e in ap (element_named ls) (sym b) ∙ element_found ls l o m ∙ ap some a),
  (λ e. let (l, m, a, b) = element_at ls name x e in ap (name_of ls) (sym a) ∙ name_found ls l o m ∙ ap some b),
)

-- labels stay as they are when more come after them
pub element_before : (ls ks : List Label) (name : List ℕ) (x : ℕ) → element_named ls name ≡ some x → element_named (ls ++ ks) name ≡ some x
unfolding element_named
element_before [] ks name x e = absurd (none_some e)
element_before (l ∷ ls) ks name x e = by_test (same l.name name) e (element_before ls ks name x)
  where
    by_test : (b : Bool) → (if b then some l.element else element_named ls name) ≡ some x → (element_named ls name ≡ some x → element_named (ls ++ ks) name ≡ some x) → (if b then some l.element else element_named (ls ++ ks) name) ≡ some x
    by_test true f h = f
    by_test false f h = h f

-- ---- the labels of a site: one to one, of its elements, and each of a name's form
pub record LabelsFit (n : ℕ) (labels : List Label) : Type 0 where
  pub small : (l : Label) → Memᴰ l labels → l.element < n
  pub formed : (l : Label) → Memᴰ l labels → T (is_relation_name l.name)
  pub one : OneToOne labels

pub no_labels : (n : ℕ) → LabelsFit n []
unfolding OneToOne
no_labels n = record { small = λ l m. absurd (Memᴰ.not-nil m); formed = λ l m. absurd (Memᴰ.not-nil m); one = tt }

-- a `label` line with a name for its element is 18: the element that it means has a label, or it means none
pub label_named : (d : SiteDraft) (at n : ℕ) (f name : List ℕ) → d.sized ≡ some n → d.members ≡ [] → d.facts ≡ [] → add_label d at (named f) name ≡ refused 18 at
unfolding add_label element_of is_in_range is_empty given refuse_if ◌>>=◌
label_named d at n f name z u e = rw (z, u, e) (by_option (element_named d.labels f) refl)
  where
    added : ℕ → SiteDraft
    added x = record { sized = some n; labels = d.labels ++ (record { element = x; name = name } ∷ []); members = []; facts = [] }

    by_option : (o : Option ℕ) → element_named d.labels f ≡ o → (given o 18 at >>= λ x. refuse_if (is_taken d.labels x name) 18 at >>= λ _. accepted (added x)) ≡ refused 18 at
    by_option none q = refl
    by_option (some x) q = let (l, m, a, b) = element_at d.labels f x q in let t = T_true (is_taken d.labels x name) (taken_by d.labels l x name m (inl a)) in rw t refl

-- ---- fields that are in range and mean something mean elements, as many as they are
pub means_small : (n : ℕ) (labels : List Label) → LabelsFit n labels → (e : Element) (x : ℕ) → T (is_in_range n e) → element_of labels e ≡ some x → T (ltb x n)
unfolding element_of is_in_range
means_small n labels F (numbered y) x t q = subst (λ (z : ℕ). T (ltb z n)) (some_eq q) t
means_small n labels F (named f) x t q = let (l, m, a, b) = element_at labels f x q in lt→ltb x n (subst (λ (z : ℕ). z < n) a (F.small l m))

pub mean_small : (n : ℕ) (labels : List Label) → LabelsFit n labels → (es : List Element) (xs : List ℕ) → T (all (is_in_range n) es) → elements_of labels es ≡ some xs → T (all (λ x. ltb x n) xs)
unfolding elements_of all
mean_small n labels F [] xs t q = subst (λ (ys : List ℕ). T (all (λ x. ltb x n) ys)) (some_eq q) tt
mean_small n labels F (e ∷ es) xs t q =
    let (x, a, q₁) = option_parts (element_of labels e) _ xs q in
    let (ys, b, q₂) = option_parts (elements_of labels es) _ xs q₁ in
    subst (λ (zs : List ℕ). T (all (λ x. ltb x n) zs)) (some_eq q₂) (and_T (ltb x n) _ (means_small n labels F e x (T_and_l (is_in_range n e) _ t) a) (mean_small n labels F es ys (T_and_r (is_in_range n e) _ t) b))

pub mean_length : (labels : List Label) (es : List Element) (xs : List ℕ) → elements_of labels es ≡ some xs → length xs ≡ length es
unfolding elements_of
mean_length labels [] xs q = ap length (sym (some_eq q))
mean_length labels (e ∷ es) xs q =
    let (x, a, q₁) = option_parts (element_of labels e) _ xs q in
    let (ys, b, q₂) = option_parts (elements_of labels es) _ xs q₁ in
    ap length (sym (some_eq q₂)) ∙ ap suc (mean_length labels es ys b)

-- numbers mean themselves, whatever labels there are
pub numbers_mean : (labels : List Label) (xs : List ℕ) → elements_of labels (map numbered xs) ≡ some xs
unfolding elements_of element_of option
numbers_mean labels [] = refl
numbers_mean labels (x ∷ xs) = rw (numbers_mean labels xs) refl

pub numbers_small : (n : ℕ) (xs : List ℕ) → all (is_in_range n) (map numbered xs) ≡ all (λ x. ltb x n) xs
unfolding all is_in_range
numbers_small n [] = refl
numbers_small n (x ∷ xs) = rw (numbers_small n xs) refl
