-- Which texts are read as a site: those that line by line spell its size, its labels, its members and its facts, in this order.
use Prim.Native.Nat.{ℕ, zero, suc, ◌+◌, ◌-◌, ◌<◌, ◌≤◌}
use Rattle.std.specs.Prelude.{◌≡◌, Bool, ◌&&◌, ◌||◌, T, eqb, leb, ltb, if◌then◌else◌}
use Rattle.std.proofs.Math.Path.{refl, sym, ap, subst, subst₂}
use Rattle.std.proofs.Common.{ap₂, ◌∙◌, inl, inr, ⊎_elim, arith, T_not, eqb→eq}
use Rattle.std.proofs.Math.Bool.{true, false, not}
use Rattle.std.proofs.Math.Option.{Option, none, some}
use mathlib.Core.List.{List, [], ◌∷◌, ◌++◌, map, append_assoc, append-nil, Memᴰ}
use Rattle.std.proofs.Math.Dec.{leb→le, eqb_refl}
use Rattle.std.proofs.Math.ListN.{length, get_or}
use borrow.Author.Tests.{not-false, ltb-false}
use Rattle.definitions.specs.Limits.{CaseLimits, text_limit}
use Rattle.definitions.specs.Lists.{all, any, same, is_empty, option, position, below}
use Rattle.definitions.specs.Sheet.Text.{bytes, decimal, number, split, lines, is_between, is_relation_name}
use Rattle.definitions.specs.Refusal.{accepted, ◌>>=◌, refuse_if, given, read_text}
use Rattle.definitions.specs.Sheet.Relations.{Relation, Tuple}
use Rattle.definitions.specs.Sheet.Formula.{type_number}
use Rattle.definitions.specs.Sheet.Sheets.{Element, numbered, named, Entry, rel, type, choose, every, rule, size, label, member, fact, pick, step, element, elements, label_of, with_two, entry, entry_of, first_rel, used}
use Rattle.definitions.specs.Sheet.Sheets.{Label, name_of, element_of, is_in_range, add_tuple, Member, is_member, has_member, SiteDraft, Labelled, add_size, is_taken, add_label, add_member, add_fact, add_to_site, site_line, read_site}
use Rattle.laws.specs.Booleans.{T_and_l, T_and_r, T_of, T_or, T_true, T_false, and_T, or_both}
use Rattle.laws.specs.Lists.{any_at, any_of, get_or_mem, none_some, some_eq}
use Rattle.laws.specs.Results.{accepted_eq, bind_parts, given_some, not_refused, refused_accepted}
use Rattle.laws.specs.Tuples.{same_eq, same_refl}
use Rattle.laws.specs.Repeats.{Once, once_append, once_middle}
use Rattle.laws.specs.Positions.{position_at}
use Rattle.laws.specs.Numbers.{no_relation}
use Rattle.laws.specs.Decimals.{decimal_number, number_decimal}
use Rattle.laws.specs.Labels.{OneToOne, label_named, taken_by}
use Rattle.laws.specs.Spelling.{Spells, spells_of, Spelled, spelled_of, element_number}
use Rattle.laws.specs.Reader.{Holds, Arity, Apart, TypesFit, position_holds, DraftSite, SizedFits, SiteSoFar, LabelledFits, site_step, site_fits, gives_if}
use Rattle.laws.specs.Lines.{LineByLine}
use Rattle.laws.specs.Told.{TupleLine, tuple_told, open_told, split_back}
use Rattle.demands.specs.LineTexts.{ended, open_ended, Said, line_said, lines_told, or_false}

-- ---- what the lines of a site say, one thing a line
pub data SiteItem : Type 0 where
  the_size : ℕ → SiteItem
  a_label : Label → SiteItem
  a_member : Member → SiteItem
  a_fact : Tuple → SiteItem

-- how a line's fields spell it, by the relations of the `rel` lines, the types and the site's own labels: an element by its number or its
-- label, but that of a `label` line by its number
unfoldable pub SiteLine : List Relation → List (List ℕ) → List Label → SiteItem → List (List ℕ) → Type 0
SiteLine rels types labels (the_size n) fs = fs ≡ bytes "size" ∷ decimal n ∷ []
SiteLine rels types labels (a_label l) fs = fs ≡ bytes "label" ∷ decimal l.element ∷ l.name ∷ []
SiteLine rels types labels (a_member m) fs = (f : List ℕ) × (fs ≡ bytes "member" ∷ get_or types m.type [] ∷ f ∷ []) × Spells labels m.element f
SiteLine rels types labels (a_fact t) fs = TupleLine labels (bytes "fact") (λ u. (get_or rels (u.relation - first_rel) no_relation).name) t fs

-- in the order of the sheet
unfoldable items_from : Option ℕ → List Label → List Member → List Tuple → List SiteItem
items_from o labels members facts = option o [] (λ n. the_size n ∷ []) ++ (map a_label labels ++ (map a_member members ++ map a_fact facts))

abbrev items_of : SiteDraft → List SiteItem
items_of d = items_from d.sized d.labels d.members d.facts

unfoldable pub site_items : Labelled → List SiteItem
site_items s = the_size s.site.size ∷ (map a_label s.labels ++ (map a_member s.site.members ++ map a_fact s.site.facts))

-- what a whole site has to keep to: at most as many elements as the limits allow, no member twice, and all that `LabelledFits` has of
-- sizes, labels, members and facts
pub record SiteIs (L : CaseLimits) (rels : List Relation) (types : List (List ℕ)) (s : Labelled) : Type 0 where
  pub few : s.site.size ≤ L.elements
  pub members_once : Once s.site.members
  pub fits : LabelledFits rels types s

-- ---- lists with one more at the end
pub empty_is : {A : Type 0} (l : List A) → is_empty l ≡ true → l ≡ []
unfolding is_empty
empty_is [] e = refl
empty_is (x ∷ l) e = let z : ◌≡◌ {A = ℕ} 0 1 = cc in absurd (omega arith)

pub map_snoc : {A B : Type 0} (f : A → B) (l : List A) (x : A) → map f (l ++ (x ∷ [])) ≡ map f l ++ (f x ∷ [])
map_snoc f [] x = refl
map_snoc f (y ∷ l) x = ap (λ (m : List _). f y ∷ m) (map_snoc f l x)

module _ (o : Option ℕ) (labels : List Label) (members : List Member) (facts : List Tuple) where
  size_items : (n : ℕ) → o ≡ none → labels ≡ [] → members ≡ [] → facts ≡ [] → items_from (some n) labels members facts ≡ items_from o labels members facts ++ (the_size n ∷ [])
  unfolding items_from option
  size_items n a b c e = rw (a, b, c, e) refl

  label_items : (l : Label) → members ≡ [] → facts ≡ [] → items_from o (labels ++ (l ∷ [])) members facts ≡ items_from o labels members facts ++ (a_label l ∷ [])
  unfolding items_from
  label_items l a b = rw (a, b, map_snoc a_label labels l, append-nil (map a_label labels), append-nil (map a_label labels ++ (a_label l ∷ [])))
      (sym (append_assoc (option o [] (λ n. the_size n ∷ [])) (map a_label labels) (a_label l ∷ [])))

  member_items : (m : Member) → facts ≡ [] → items_from o labels (members ++ (m ∷ [])) facts ≡ items_from o labels members facts ++ (a_member m ∷ [])
  unfolding items_from
  member_items m a = rw (a, map_snoc a_member members m, append-nil (map a_member members), append-nil (map a_member members ++ (a_member m ∷ [])))
      (ap (λ (l : List SiteItem). option o [] (λ n. the_size n ∷ []) ++ l) (sym (append_assoc (map a_label labels) (map a_member members) (a_member m ∷ [])))
      ∙ sym (append_assoc (option o [] (λ n. the_size n ∷ [])) (map a_label labels ++ map a_member members) (a_member m ∷ [])))

  fact_items : (t : Tuple) → items_from o labels members (facts ++ (t ∷ [])) ≡ items_from o labels members facts ++ (a_fact t ∷ [])
  unfolding items_from
  fact_items t = rw (map_snoc a_fact facts t)
      (ap (λ (l : List SiteItem). option o [] (λ n. the_size n ∷ []) ++ (map a_label labels ++ l)) (sym (append_assoc (map a_member members) (map a_fact facts) (a_fact t ∷ [])))
      ∙ ap (λ (l : List SiteItem). option o [] (λ n. the_size n ∷ []) ++ l) (sym (append_assoc (map a_label labels) (map a_member members ++ map a_fact facts) (a_fact t ∷ [])))
      ∙ sym (append_assoc (option o [] (λ n. the_size n ∷ [])) (map a_label labels ++ (map a_member members ++ map a_fact facts)) (a_fact t ∷ [])))

-- ---- a label that comes later changes nothing
name_before : (labels more : List Label) (x : ℕ) (f : List ℕ) → name_of labels x ≡ some f → name_of (labels ++ more) x ≡ some f
unfolding name_of
name_before [] more x f e = absurd (none_some e)
name_before (l ∷ ls) more x f e = by_test (eqb l.element x) e (name_before ls more x f)
  where
    by_test : (b : Bool) → (if b then some l.name else name_of ls x) ≡ some f → (name_of ls x ≡ some f → name_of (ls ++ more) x ≡ some f) → (if b then some l.name else name_of (ls ++ more) x) ≡ some f
    by_test true e h = e
    by_test false e h = h e

spells_later : (labels more : List Label) (x : ℕ) (f : List ℕ) → Spells labels x f → Spells (labels ++ more) x f
unfolding Spells
spells_later labels more x f s = ⊎_elim (λ q. inl q) (λ q. inr (name_before labels more x f q)) s

spelled_later : (labels more : List Label) (xs : List ℕ) (fs : List (List ℕ)) → Spelled labels xs fs → Spelled (labels ++ more) xs fs
unfolding Spelled
spelled_later labels more [] [] s = s
spelled_later labels more [] (f ∷ fs) s = s
spelled_later labels more (x ∷ xs) [] s = s
spelled_later labels more (x ∷ xs) (f ∷ fs) s = (spells_later labels more x f s.0, spelled_later labels more xs fs s.1)

-- ---- a number read is what is written for it
number_of_lem : (f : List ℕ) (x : ℕ) → element f ≡ some (numbered x) → f ≡ decimal x
unfolding element option
number_of_lem f x q = by_number (number f) refl (is_relation_name f) q
  where
    value : Option Element → ℕ
    value none = zero
    value (some (numbered y)) = y
    value (some (named g)) = zero

    is_number : Option Element → ℕ
    is_number none = zero
    is_number (some (numbered y)) = 1
    is_number (some (named g)) = zero

    by_number : (o : Option ℕ) → number f ≡ o → (b : Bool) → option o (if b then some (named f) else none) (λ y. some (numbered y)) ≡ some (numbered x) → f ≡ decimal x
    by_number (some y) n b e = (decimal_number f y n).0 ∙ ap decimal (ap value e)
    by_number none n true e = let z = ap is_number e in absurd (omega (arith, z))
    by_number none n false e = absurd (none_some e)

type_named : (types : List (List ℕ)) (name : List ℕ) (k : ℕ) → type_number types name ≡ some k → name ≡ get_or types k []
unfolding type_number Holds
type_named types name k e = sym (same_eq (get_or types k []) name (subst (Holds (λ i. (i < length types) × T (same (get_or types i []) name))) e (position_holds (λ t. same t name) types [])).1)

used_named : (rs : List Relation) (first : ℕ) (name : List ℕ) (k r : ℕ) → used rs first name k ≡ some r → name ≡ (get_or rs (r - first) no_relation).name
unfolding used option Holds
used_named rs first name k r e = by_place (position (λ (q : Relation). same q.name name && eqb q.arity k) rs) (position_holds (λ (q : Relation). same q.name name && eqb q.arity k) rs no_relation) e
  where
    by_place : (o : Option ℕ) → Holds (λ i. (i < length rs) × T (same (get_or rs i no_relation).name name && eqb (get_or rs i no_relation).arity k)) o → option o none (λ i. some (first + i)) ≡ some r → name ≡ (get_or rs (r - first) no_relation).name
    by_place none h e = absurd (none_some e)
    by_place (some i) h e =
        let q : first + i ≡ r = some_eq e in
        let w : i ≡ r - first = omega arith in
        sym (same_eq (get_or rs i no_relation).name name (T_and_l (same (get_or rs i no_relation).name name) _ h.1)) ∙ ap (λ (j : ℕ). (get_or rs j no_relation).name) w

-- a member that is new
new_member : (members : List Member) (k x : ℕ) → is_member members k x ≡ false → Once members → Once (members ++ (record { type = k; element = x } ∷ []))
unfolding is_member Once
new_member members k x e o = once_append members _ o (λ m. mathlib.Core.List.Memᴰ.not-nil m, tt) (λ m i j.
    let q = mathlib.Core.List.Memᴰ.eq_of_singleton j in
    subst T e (any_of (λ (n : Member). eqb n.type k && eqb n.element x) members m i
    (and_T (eqb m.type k) _ (subst (λ (y : ℕ). T (eqb m.type y)) (ap (λ (n : Member). n.type) q) (eqb_refl m.type)) (subst (λ (y : ℕ). T (eqb m.element y)) (ap (λ (n : Member). n.element) q) (eqb_refl m.element)))))

-- ---- from a site that was read to its lines
module _ (L : CaseLimits) (few : L.elements ≤ 64) (rels : List Relation) (types : List (List ℕ)) where
  record Inv (d : SiteDraft) : Type 0 where
    so_far : SiteSoFar rels types d
    limit : (n : ℕ) → d.sized ≡ some n → n ≤ L.elements
    once : Once d.members

  -- what a line adds
  record Step (d m : SiteDraft) (fs : List (List ℕ)) : Type 0 where
    limit : (n : ℕ) → m.sized ≡ some n → n ≤ L.elements
    once : Once m.members
    more : List Label
    kept : m.labels ≡ d.labels ++ more
    item : SiteItem
    grows : items_of m ≡ items_of d ++ (item ∷ [])
    says : SiteLine rels types m.labels item fs

  sized_so : (d : SiteDraft) (n : ℕ) → d.sized ≡ some n → SiteSoFar rels types d → SizedFits rels types d.labels d.members d.facts n
  unfolding DraftSite
  sized_so d n e D = subst (λ (o : Option ℕ). DraftSite rels types o d.labels d.members d.facts) e D

  none_so : (d : SiteDraft) → d.sized ≡ none → SiteSoFar rels types d → (d.labels ≡ []) × (d.members ≡ []) × (d.facts ≡ [])
  unfolding DraftSite
  none_so d e D = subst (λ (o : Option ℕ). DraftSite rels types o d.labels d.members d.facts) e D

  size_step : (d m : SiteDraft) (at n : ℕ) (f : List ℕ) (fs : List (List ℕ)) (o : Option ℕ) → Inv d → d.sized ≡ o → fs ≡ bytes "size" ∷ f ∷ [] → number f ≡ some n → add_size L d at n o ≡ accepted m → Step d m fs
  unfolding add_size SiteLine is_between
  size_step d m at n f fs none I e s v q =
      let (u, r, g) = bind_parts (refuse_if (not (is_between 1 L.elements n)) 9 at) _ m q in
      let b = T_of (not-false (is_between 1 L.elements n) (not_refused (not (is_between 1 L.elements n)) 9 at u r)) in
      let low = leb→le n L.elements (T_and_r (leb 1 n) _ b) in
      let w = sym (accepted_eq _ m g) in
      let (x, y, z) = none_so d e I.so_far in
      record {
        limit = λ k h. let i : n ≡ k = some_eq (sym (ap (λ (d : SiteDraft). d.sized) w) ∙ h) in omega arith;
        once = subst Once (ap (λ (d : SiteDraft). d.members) (sym w)) I.once;
        more = [];
        kept = ap (λ (d : SiteDraft). d.labels) w ∙ sym (append-nil d.labels);
        item = the_size n;
        grows = ap items_of w ∙ size_items d.sized d.labels d.members d.facts n e x y z;
        says = s ∙ ap (λ (g : List ℕ). bytes "size" ∷ g ∷ []) (decimal_number f n v).0;
      }
  size_step d m at n f fs (some k) I e s v q = absurd (refused_accepted q)

  label_step : (d m : SiteDraft) (at : ℕ) (x : Element) (f name : List ℕ) (fs : List (List ℕ)) → Inv d → fs ≡ bytes "label" ∷ f ∷ name ∷ [] → element f ≡ some x → add_label d at x name ≡ accepted m → Step d m fs
  unfolding add_label SiteLine element_of given ◌>>=◌
  label_step d m at x f name fs I s v q =
      let (n, a, q₁) = bind_parts (given d.sized 3 at) _ m q in
      let (u, b, q₂) = bind_parts (refuse_if (not (is_empty d.members) || not (is_empty d.facts)) 3 at) _ m q₁ in
      let (i, j) = or_both (not (is_empty d.members)) _ (not_refused _ 3 at u b) in
      let no_members = empty_is d.members (not-false (is_empty d.members) i) in
      let no-facts = empty_is d.facts (not-false (is_empty d.facts) j) in
      by_element x v q n (given_some d.sized 3 at n a) no_members no-facts q₂
    where
      by_element : (x : Element) → element f ≡ some x → add_label d at x name ≡ accepted m → (n : ℕ) → d.sized ≡ some n → d.members ≡ [] → d.facts ≡ []
          → (refuse_if (not (is_in_range n x)) 9 at >>= λ _. given (element_of d.labels x) 18 at >>= λ y. refuse_if (is_taken d.labels y name) 18 at
          >>= λ _. accepted (record { sized = d.sized; labels = d.labels ++ (record { element = y; name = name } ∷ []); members = d.members; facts = d.facts })) ≡ accepted m
          → Step d m fs
      by_element (named g) v q n z c e h = absurd (refused_accepted (sym (label_named d at n g name z c e) ∙ q))
      by_element (numbered y) v q n z c e h =
          let (u, r, h₁) = bind_parts (refuse_if (not (is_in_range n (numbered y))) 9 at) _ m h in
          let (t, k, h₂) = bind_parts (refuse_if (is_taken d.labels y name) 18 at) _ m h₁ in
          let w = sym (accepted_eq _ m h₂) in
          record {
            limit = λ k h. I.limit k (sym (ap (λ (d : SiteDraft). d.sized) w) ∙ h);
            once = subst Once (ap (λ (d : SiteDraft). d.members) (sym w)) I.once;
            more = record { element = y; name = name } ∷ [];
            kept = ap (λ (d : SiteDraft). d.labels) w;
            item = a_label (record { element = y; name = name });
            grows = ap items_of w ∙ label_items d.sized d.labels d.members d.facts (record { element = y; name = name }) c e;
            says = s ∙ ap (λ (g : List ℕ). bytes "label" ∷ g ∷ name ∷ []) (number_of_lem f y v);
          }

  member_step : (d m : SiteDraft) (at : ℕ) (x : Element) (f name : List ℕ) (fs : List (List ℕ)) → Inv d → fs ≡ bytes "member" ∷ name ∷ f ∷ [] → element f ≡ some x → add_member types d at name x ≡ accepted m → Step d m fs
  unfolding add_member SiteLine
  member_step d m at e f name fs I s v q =
      let (n, a, q₁) = bind_parts (given d.sized 3 at) _ m q in
      let (u, b, q₂) = bind_parts (refuse_if (not (is_empty d.facts)) 3 at) _ m q₁ in
      let (k, t, q₃) = bind_parts (given (type_number types name) 19 at) _ m q₂ in
      let (v₂, c, q₄) = bind_parts (refuse_if (not (is_in_range n e)) 9 at) _ m q₃ in
      let (x, g, q₅) = bind_parts (given (element_of d.labels e) 18 at) _ m q₄ in
      let (r, h, q₆) = bind_parts (refuse_if (is_member d.members k x) 10 at) _ m q₅ in
      let w = sym (accepted_eq _ m q₆) in
      let S = sized_so d n (given_some d.sized 3 at n a) I.so_far in
      let same-labels = ap (λ (d : SiteDraft). d.labels) w in
      record {
        limit = λ k h. I.limit k (sym (ap (λ (d : SiteDraft). d.sized) w) ∙ h);
        once = subst Once (ap (λ (d : SiteDraft). d.members) (sym w)) (new_member d.members k x (not_refused (is_member d.members k x) 10 at r h) I.once);
        more = [];
        kept = same-labels ∙ sym (append-nil d.labels);
        item = a_member (record { type = k; element = x });
        grows = ap items_of w ∙ member_items d.sized d.labels d.members d.facts (record { type = k; element = x }) (empty_is d.facts (not-false (is_empty d.facts) (not_refused (not (is_empty d.facts)) 3 at u b)));
        says = (
          f,
          s ∙ ap (λ (g : List ℕ). bytes "member" ∷ g ∷ f ∷ []) (type_named types name k (given_some (type_number types name) 19 at k t)),
          subst (λ (ls : List Label). Spells ls x f) (sym same-labels) (spells_of n d.labels S.labels_fit f e x v (given_some (element_of d.labels e) 18 at x g)),
        );
      }

  fact_step : (d m : SiteDraft) (at : ℕ) (name : List ℕ) (es : List Element) (gs fs : List (List ℕ)) → Inv d → fs ≡ bytes "fact" ∷ name ∷ gs → elements gs ≡ some es → add_fact rels d at name es ≡ accepted m → Step d m fs
  unfolding add_fact SiteLine
  fact_step d m at name es gs fs I s v q =
      let (n, a, q₁) = bind_parts (given d.sized 3 at) _ m q in
      let (ts, b, q₂) = bind_parts (add_tuple rels first_rel n d.labels d.facts at name es) _ m q₁ in
      let w = sym (accepted_eq _ m q₂) in
      let A = tuple_told rels first_rel n d.labels d.facts at name es ts b in
      let S = sized_so d n (given_some d.sized 3 at n a) I.so_far in
      let same-labels = ap (λ (d : SiteDraft). d.labels) w in
      record {
        limit = λ k h. I.limit k (sym (ap (λ (d : SiteDraft). d.sized) w) ∙ h);
        once = subst Once (ap (λ (d : SiteDraft). d.members) (sym w)) I.once;
        more = [];
        kept = same-labels ∙ sym (append-nil d.labels);
        item = a_fact A.tuple;
        grows = ap items_of w ∙ ap (items_from d.sized d.labels d.members) A.added ∙ fact_items d.sized d.labels d.members d.facts A.tuple;
        says = (
          gs,
          s ∙ ap (λ (g : List ℕ). bytes "fact" ∷ g ∷ gs) (used_named rels first_rel name (length es) A.tuple.relation A.is_used),
          subst (λ (ls : List Label). Spelled ls A.tuple.places gs) (sym same-labels) (spelled_of n d.labels S.labels_fit gs es A.tuple.places v A.meant),
        );
      }

  entry_step : (d m : SiteDraft) (at : ℕ) (e : Entry) (fs : List (List ℕ)) → Inv d → Said fs e → add_to_site L rels types d at e ≡ accepted m → Step d m fs
  unfolding add_to_site Said
  entry_step d m at (rel name a) fs I s q = absurd (refused_accepted q)
  entry_step d m at (type name) fs I s q = absurd (refused_accepted q)
  entry_step d m at (choose name a k names) fs I s q = absurd (refused_accepted q)
  entry_step d m at (every name a) fs I s q = absurd (refused_accepted q)
  entry_step d m at (rule f) fs I s q = absurd (refused_accepted q)
  entry_step d m at (size n) fs I (f, s, v) q = size_step d m at n f fs d.sized I refl s v q
  entry_step d m at (label x name) fs I (f, s, v) q = label_step d m at x f name fs I s v q
  entry_step d m at (member t x) fs I (f, s, v) q = member_step d m at x f t fs I s v q
  entry_step d m at (fact name es) fs I (gs, s, v, b) q = fact_step d m at name es gs fs I s v q
  entry_step d m at (pick name es) fs I s q = absurd (refused_accepted q)
  entry_step d m at (step k) fs I s q = absurd (refused_accepted q)

  line_step : (d : SiteDraft) (at : ℕ) (w : List ℕ) (m : SiteDraft) → Inv d → site_line L rels types d (ended at w) ≡ accepted m → Step d m (split 9 w)
  unfolding site_line
  line_step d at w m I q = let (e, f, g) = bind_parts (entry_of (ended at w)) (add_to_site L rels types d at) m q in entry_step d m at e (split 9 w) I (line_said at w e f) g

  line_keeps : (d : SiteDraft) (at : ℕ) (w : List ℕ) (m : SiteDraft) → Inv d → site_line L rels types d (ended at w) ≡ accepted m → Inv m
  line_keeps d at w m I q =
      let S = line_step d at w m I q in
      record { so_far = gives_if (SiteSoFar rels types) (site_line L rels types d (ended at w)) m q (site_step L few rels types d (ended at w) I.so_far); limit = S.limit; once = S.once }

  line_later : (labels more ls : List Label) → ls ≡ labels ++ more → (a : SiteItem) (fs : List (List ℕ)) → SiteLine rels types labels a fs → SiteLine rels types ls a fs
  unfolding SiteLine
  line_later labels more ls e (the_size n) fs s = s
  line_later labels more ls e (a_label l) fs s = s
  line_later labels more ls e (a_member m) fs (f, s, v) = (f, s, subst (λ (k : List Label). Spells k m.element f) (sym e) (spells_later labels more m.element f v))
  line_later labels more ls e (a_fact t) fs (gs, s, v) = (gs, s, subst (λ (k : List Label). Spelled k t.places gs) (sym e) (spelled_later labels more t.places gs v))

  line_ends : (d : SiteDraft) (at : ℕ) (w : List ℕ) (m : SiteDraft) → site_line L rels types d (open_ended at w) ≡ accepted m → ⊥
  unfolding site_line
  line_ends d at w m q = let (e, f, g) = bind_parts (entry_of (open_ended at w)) (add_to_site L rels types d at) m q in open_told at w e f

  abbrev empty : SiteDraft
  empty = record { sized = none; labels = []; members = []; facts = [] }

  pub site_told : (text : List ℕ) (s : Labelled) → read_site L rels types text ≡ accepted s → LineByLine (SiteLine rels types s.labels) (site_items s) text × (length text ≤ text_limit) × SiteIs L rels types s
  unfolding read_site read_text lines DraftSite Once site_items items_from option
  site_told text s q =
      let (d, a, b) = bind_parts (read_text (site_line L rels types) empty text) _ s q in
      let (u, f, g) = bind_parts (refuse_if (ltb text_limit (length text)) 1 zero) _ d a in
      let (n, z, k) = bind_parts (given d.sized 3 (length text)) _ s b in
      let (v, h, e) = bind_parts (refuse_if (not (all (has_member d.members) (below (length types)))) 19 zero) _ s k in
      let W = lines_told (site_line L rels types) Inv items_of (λ d. SiteLine rels types d.labels)
      (λ d at w m I q. (line_keeps d at w m I q, (let S = line_step d at w m I q in (S.item, S.grows, S.says))))
      (λ d at w m I q a fs r. let S = line_step d at w m I q in line_later d.labels S.more m.labels S.kept a fs r)
      line_ends (split 10 text) empty d zero (record { so_far = (refl, refl, refl); limit = λ n h. absurd (none_some h); once = tt }) g in
      let sized = given_some d.sized 3 (length text) n z in
      let items : W.new ≡ site_items (record { site = record { size = n; members = d.members; facts = d.facts }; labels = d.labels }) = sym W.grows ∙ ap (λ (o : Option ℕ). items_from o d.labels d.members d.facts) sized in
      let told : LineByLine (SiteLine rels types d.labels) (site_items (record { site = record { size = n; members = d.members; facts = d.facts }; labels = d.labels })) text
      = subst₂ (λ (l : List SiteItem) (x : List ℕ). LineByLine (SiteLine rels types d.labels) l x) items (split_back 10 text) W.spelled in
      let w = accepted_eq _ s e in (
        subst (λ (x : Labelled). LineByLine (SiteLine rels types x.labels) (site_items x) text) w told,
        ltb-false text_limit (length text) (not_refused (ltb text_limit (length text)) 1 zero u f),
        record {
          few = subst (λ (x : Labelled). x.site.size ≤ L.elements) w (W.keeps.limit n sized);
          members_once = subst (λ (x : Labelled). Once x.site.members) w W.keeps.once;
          fits = gives_if (LabelledFits rels types) (read_site L rels types text) s q (site_fits L few rels types text);
        },
      )

-- ---- from lines that spell a site to the site that is read: of relations and types as a question's are
pub record Declared (rels : List Relation) (types : List (List ℕ)) : Type 0 where
  pub rels_named : (k : Relation) → Memᴰ k rels → T (is_relation_name k.name)
  pub rels_few : (k : Relation) → Memᴰ k rels → Arity k.arity
  pub rels_apart : Apart rels
  pub types_fit : TypesFit types

pub label_entry : (x : ℕ) (name : List ℕ) → x < 64 → T (is_relation_name name) → entry (bytes "label" ∷ decimal x ∷ name ∷ []) ≡ some (label (numbered x) name)
unfolding entry same with_two label_of option
label_entry x name h t = rw (T_true (is_relation_name name) t, element_number (decimal x) x (number_decimal x (omega arith))) refl

-- a label that no earlier one is like
pub one_middle : (acc : List Label) (l : Label) (more : List Label) → OneToOne (acc ++ (l ∷ more)) → is_taken acc l.element l.name ≡ false
unfolding OneToOne is_taken any
one_middle [] l more o = refl
one_middle (k ∷ acc) l more o = or_false (eqb k.element l.element || same k.name l.name) _
    (T_false (eqb k.element l.element || same k.name l.name) (λ t. T_not (is_taken (acc ++ (l ∷ more)) k.element k.name) o.0
    (taken_by (acc ++ (l ∷ more)) l k.element k.name (mathlib.Core.List.Memᴰ.append_right acc (mathlib.Core.List.Memᴰ.head refl))
    (⊎_elim (λ q. inl (sym (eqb→eq k.element l.element q))) (λ q. inr (sym (same_eq k.name l.name q))) (T_or (eqb k.element l.element) _ t)))))
    (one_middle acc l more o.1)

-- a member that no earlier one is
pub member_middle : (acc : List Member) (m : Member) (more : List Member) → Once (acc ++ (m ∷ more)) → is_member acc m.type m.element ≡ false
unfolding is_member
member_middle acc m more o = T_false (is_member acc m.type m.element) (λ t.
    let (n, i, q) = any_at (λ (n : Member). eqb n.type m.type && eqb n.element m.element) acc t in
    let a = eqb→eq n.type m.type (T_and_l (eqb n.type m.type) _ q) in
    let b = eqb→eq n.element m.element (T_and_r (eqb n.type m.type) _ q) in
    once_middle acc more m o (subst (λ (x : Member). Memᴰ x acc) (ap₂ (λ (x y : ℕ). record { type = x; element = y }) a b) i))

-- the number of a declared type
once_at : (l : List (List ℕ)) (j i : ℕ) → Once l → j < i → i < length l → same (get_or l j []) (get_or l i []) ≡ false
unfolding Once
once_at [] j i o h k = absurd (omega arith)
once_at (x ∷ l) j zero o h k = absurd (omega arith)
once_at (x ∷ l) zero (suc i) o h k = T_false (same x (get_or l i [])) (λ t. o.0 (subst (λ (y : List ℕ). Memᴰ y l) (sym (same_eq x (get_or l i []) t)) (get_or_mem l i [] (omega arith))))
once_at (x ∷ l) (suc j) (suc i) o h k = once_at l j i o.1 (omega arith) (omega arith)

pub type_at : (types : List (List ℕ)) (k : ℕ) → Once types → k < length types → type_number types (get_or types k []) ≡ some k
unfolding type_number
type_at types k o h = position_at (λ t. same t (get_or types k [])) types [] k h (T_true _ (same_refl (get_or types k []))) (λ j l. once_at types j k o l h)
