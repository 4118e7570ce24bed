-- From lines that spell a site to the site that is read, and so: a text is read as a site exactly if it spells it (`SiteTexts` of specs).
use Prim.Native.Nat.{ℕ, zero, ◌-◌, ◌<◌, ◌≤◌}
use Rattle.std.specs.Prelude.{◌≡◌, ◌↔◌, ltb}
use Rattle.std.proofs.Math.Path.{refl, sym, ap, subst}
use Rattle.std.proofs.Common.{◌∙◌, arith, lt→ltb}
use Rattle.std.proofs.Math.Bool.{true, false}
use Rattle.std.proofs.Math.Option.{none, some}
use mathlib.Core.List.{List, [], ◌∷◌, ◌++◌, map, append_assoc, append-nil, Memᴰ}
use Rattle.std.proofs.Math.ListN.{length, length-append, get_or}
use borrow.Author.Tests.{le-leb}
use Rattle.definitions.specs.Limits.{CaseLimits, text_limit}
use Rattle.definitions.specs.Lists.{all, is_empty, below}
use Rattle.definitions.specs.Sheet.Text.{bytes, decimal, split, Line, lines_from, is_between}
use Rattle.definitions.specs.Refusal.{Result, accepted, ◌>>=◌, refuse_if, given, read_lines}
use Rattle.definitions.specs.Sheet.Relations.{Relation, Tuple, is_among}
use Rattle.definitions.specs.Sheet.Formula.{type_number}
use Rattle.definitions.specs.Sheet.Sheets.{Element, numbered, Entry, size, label, member, fact, entry, first_rel, used}
use Rattle.definitions.specs.Sheet.Sheets.{Label, element_of, is_in_range, add_tuple, Member, is_member, has_member, SiteDraft, Labelled, add_size, is_taken, add_label, add_member, add_fact, add_to_site, site_line, read_site}
use Rattle.laws.specs.Booleans.{T_true, T_false}
use Rattle.laws.specs.Lists.{all_of, below_lt, get_or_mem}
use Rattle.laws.specs.Tuples.{among_mem}
use Rattle.laws.specs.Repeats.{Once, once_middle, distinct_once}
use Rattle.laws.specs.Numbers.{no_relation}
use Rattle.laws.specs.Labels.{LabelsFit, OneToOne}
use Rattle.laws.specs.Spelling.{Spelled, spells_read, spelled_read, spelled_without, spelled_length}
use Rattle.laws.specs.Lines.{Without, AllWithout, name_without, joined, read_end, LineByLine}
use Rattle.demands.specs.InNumbers.{size_entry, member_entry, fact_entry}
use Rattle.demands.specs.Written.{decimal_without, entry_joined, used_at, tuple_added, within}
use Rattle.demands.specs.LineTexts.{ended, run_read}
use Rattle.demands.specs.SiteTexts.{Declared, SiteIs, SiteItem, SiteLine, a_fact, a_label, a_member, the_size, label_entry, member_middle, one_middle, site_items, site_told, type_at}

module _ (L : CaseLimits) (few : L.elements ≤ 64) (rels : List Relation) (types : List (List ℕ)) (D : Declared rels types) (s : Labelled) (I : SiteIs L rels types s) where
  abbrev n : ℕ
  n = s.site.size

  abbrev labels : List Label
  labels = s.labels

  abbrev members : List Member
  members = s.site.members

  abbrev facts : List Tuple
  facts = s.site.facts

  abbrev K : LabelsFit n labels
  K = I.fits.labels_fit

  abbrev R : SiteItem → List (List ℕ) → Type 0
  R = SiteLine rels types labels

  abbrev line : SiteDraft → Line → Result SiteDraft
  line = site_line L rels types

  n_few : n ≤ 64
  n_few = I.fits.site_fits.few_elements

  -- an entry is added as it is
  adds : (d m : SiteDraft) (at : ℕ) (w : List ℕ) (gs fs : List (List ℕ)) (e : Entry) → fs ≡ w ∷ gs → AllWithout 9 (w ∷ gs) → entry (w ∷ gs) ≡ some e → add_to_site L rels types d at e ≡ accepted m → line d (ended at (joined fs)) ≡ accepted m
  unfolding site_line ◌>>=◌
  adds d m at w gs fs e s v q a = ap (λ (x : List (List ℕ)). site_line L rels types d (ended at (joined x))) s ∙ ap (λ (r : Result Entry). r >>= add_to_site L rels types d at) (entry_joined at w gs e v q) ∙ a

  size_at : List ℕ → SiteDraft
  size_at [] = record { sized = none; labels = []; members = []; facts = [] }
  size_at (k ∷ ks) = record { sized = some k; labels = []; members = []; facts = [] }

  size_adds : (at : ℕ) → add_to_site L rels types (size_at []) at (size n) ≡ accepted (size_at (n ∷ []))
  unfolding add_to_site add_size is_between refuse_if ◌>>=◌ size_at
  size_adds at = rw (le-leb 1 n I.fits.site_fits.some_element, le-leb n L.elements I.few) refl

  size_read : (acc : List ℕ) (k : ℕ) (more : List ℕ) → acc ++ (k ∷ more) ≡ n ∷ [] → (at : ℕ) (fs : List (List ℕ)) → R (the_size k) fs → (line (size_at acc) (ended at (joined fs)) ≡ accepted (size_at (acc ++ (k ∷ [])))) × AllWithout 10 fs
  unfolding SiteLine AllWithout all
  size_read [] k more e at fs r =
      let q : k ≡ n = ap (λ (l : List ℕ). get_or l 0 0) e in
      let s : fs ≡ bytes "size" ∷ decimal n ∷ [] = r ∙ ap (λ (x : ℕ). bytes "size" ∷ decimal x ∷ []) q in (
        adds (size_at []) _ at (bytes "size") (decimal n ∷ []) fs (size n) s (tt, (decimal_without 9 (omega arith) n, tt)) (size_entry n (omega (arith, n_few))) (size_adds at) ∙ ap (λ (x : ℕ). accepted (size_at (x ∷ []))) (sym q),
        subst (AllWithout 10) (sym s) (tt, (decimal_without 10 (omega arith) n, tt)),
      )
  size_read (x ∷ acc) k more e at fs r = let q = ap length e in let l = length-append acc (k ∷ more) in absurd (omega (arith, q, l))

  labels_at : List Label → SiteDraft
  labels_at ls = record { sized = some n; labels = ls; members = []; facts = [] }

  label_adds : (acc : List Label) (l : Label) (at : ℕ) → ltb l.element n ≡ true → is_taken acc l.element l.name ≡ false → add_to_site L rels types (labels_at acc) at (label (numbered l.element) l.name) ≡ accepted (labels_at (acc ++ (l ∷ [])))
  unfolding add_to_site add_label is_in_range element_of is_empty given refuse_if ◌>>=◌ labels_at
  label_adds acc l at a b = rw (a, b) refl

  label_read : (acc : List Label) (l : Label) (more : List Label) → acc ++ (l ∷ more) ≡ labels → (at : ℕ) (fs : List (List ℕ)) → R (a_label l) fs → (line (labels_at acc) (ended at (joined fs)) ≡ accepted (labels_at (acc ++ (l ∷ [])))) × AllWithout 10 fs
  unfolding SiteLine AllWithout all
  label_read acc l more e at fs r =
      let i : Memᴰ l labels = subst (λ (x : List Label). Memᴰ l x) e (mathlib.Core.List.Memᴰ.append_right acc (mathlib.Core.List.Memᴰ.head refl)) in
      let small = K.small l i in
      let formed = K.formed l i in (
        adds (labels_at acc) _ at (bytes "label") (decimal l.element ∷ l.name ∷ []) fs (label (numbered l.element) l.name) r (tt, (decimal_without 9 (omega arith) l.element, (name_without 9 (omega arith) l.name formed, tt)))
            (label_entry l.element l.name (omega (arith, n_few)) formed) (label_adds acc l at (T_true _ (lt→ltb l.element n small)) (one_middle acc l more (subst OneToOne (sym e) K.one))),
        subst (AllWithout 10) (sym r) (tt, (decimal_without 10 (omega arith) l.element, (name_without 10 (omega arith) l.name formed, tt))),
      )

  members_at : List Member → SiteDraft
  members_at ms = record { sized = some n; labels = labels; members = ms; facts = [] }

  member_adds : (acc : List Member) (m : Member) (at : ℕ) (e : Element) → type_number types (get_or types m.type []) ≡ some m.type → is_in_range n e ≡ true → element_of labels e ≡ some m.element → is_member acc m.type m.element ≡ false
      → add_to_site L rels types (members_at acc) at (member (get_or types m.type []) e) ≡ accepted (members_at (acc ++ (m ∷ [])))
  unfolding add_to_site add_member is_empty given refuse_if ◌>>=◌ members_at
  member_adds acc m at e a b c d = rw (a, b, c, d) refl

  member_read : (acc : List Member) (m : Member) (more : List Member) → acc ++ (m ∷ more) ≡ members → (at : ℕ) (fs : List (List ℕ)) → R (a_member m) fs → (line (members_at acc) (ended at (joined fs)) ≡ accepted (members_at (acc ++ (m ∷ [])))) × AllWithout 10 fs
  unfolding SiteLine AllWithout Spelled all
  member_read acc m more e at fs (f, r, v) =
      let i : Memᴰ m members = subst (λ (x : List Member). Memᴰ m x) e (mathlib.Core.List.Memᴰ.append_right acc (mathlib.Core.List.Memᴰ.head refl)) in
      let k = I.fits.site_fits.members_fit.typed m i in
      let small = I.fits.site_fits.members_fit.small m i in
      let (x, a, b, c) = spells_read n labels K m.element f n_few (lt→ltb m.element n small) v in
      let name = get_or types m.type [] in
      let formed = D.types_fit.named name (get_or_mem types m.type [] k) in
      let clean : (sep : ℕ) → sep < 48 → Without sep f = λ sep h. (spelled_without n labels K sep h (m.element ∷ []) (f ∷ []) (v, tt)).0 in (
        adds (members_at acc) _ at (bytes "member") (name ∷ f ∷ []) fs (member name x) r (tt, (name_without 9 (omega arith) name formed, (clean 9 (omega arith), tt))) (member_entry name f x a)
            (member_adds acc m at x (type_at types m.type D.types_fit.once k) (T_true _ c) b (member_middle acc m more (subst Once (sym e) I.members_once))),
        subst (AllWithout 10) (sym r) (tt, (name_without 10 (omega arith) name formed, (clean 10 (omega arith), tt))),
      )

  facts_at : List Tuple → SiteDraft
  facts_at ts = record { sized = some n; labels = labels; members = members; facts = ts }

  fact_adds : (acc more : List Tuple) (at : ℕ) (name : List ℕ) (es : List Element) → add_tuple rels first_rel n labels acc at name es ≡ accepted more → add_to_site L rels types (facts_at acc) at (fact name es) ≡ accepted (facts_at more)
  unfolding add_to_site add_fact given ◌>>=◌ facts_at
  fact_adds acc more at name es q = rw q refl

  fact_read : (acc : List Tuple) (t : Tuple) (more : List Tuple) → acc ++ (t ∷ more) ≡ facts → (at : ℕ) (fs : List (List ℕ)) → R (a_fact t) fs → (line (facts_at acc) (ended at (joined fs)) ≡ accepted (facts_at (acc ++ (t ∷ [])))) × AllWithout 10 fs
  unfolding SiteLine AllWithout all
  fact_read acc t more e at fs (gs, r, v) =
      let i : Memᴰ t facts = subst (λ (x : List Tuple). Memᴰ t x) e (mathlib.Core.List.Memᴰ.append_right acc (mathlib.Core.List.Memᴰ.head refl)) in
      let F = I.fits.site_fits.facts_fit.each_fits t i in
      let k : t.relation - first_rel ≡ F.index = omega (arith, F.numbered) in
      let rel-of = get_or rels F.index no_relation in
      let there = get_or_mem rels F.index no_relation F.inside in
      let arity = D.rels_few rel-of there in
      let s : fs ≡ bytes "fact" ∷ rel-of.name ∷ gs = r ∙ ap (λ (j : ℕ). bytes "fact" ∷ (get_or rels j no_relation).name ∷ gs) k in
      let (es, a, b, c, l) = spelled_read n labels K t.places gs n_few F.small v in
      let long = spelled_length labels t.places gs v in
      let formed = D.rels_named rel-of there in
      let new : is_among t acc ≡ false = T_false (is_among t acc) (λ q. once_middle acc more t (subst Once (sym e) (distinct_once facts I.fits.site_fits.facts_fit.distinct)) (among_mem t acc q)) in
      let u : used rels first_rel rel-of.name (length es) ≡ some t.relation = ap (used rels first_rel rel-of.name) (l ∙ F.length_arity) ∙ used_at rels first_rel F.index D.rels_apart F.inside ∙ ap some (sym F.numbered) in (
        adds (facts_at acc) _ at (bytes "fact") (rel-of.name ∷ gs) fs (fact rel-of.name es) s (tt, (name_without 9 (omega arith) rel-of.name formed, spelled_without n labels K 9 (omega arith) t.places gs v))
            (fact_entry rel-of.name gs es a (omega (arith, arity.0, F.length_arity)) (omega (arith, arity.1, F.length_arity))) (fact_adds acc _ at rel-of.name es (tuple_added rels first_rel n labels acc at rel-of.name es t u c b new)),
        subst (AllWithout 10) (sym s) (tt, (name_without 10 (omega arith) rel-of.name formed, spelled_without n labels K 10 (omega arith) t.places gs v)),
      )

  -- all lines, one run after another
  lines_back : (text : List ℕ) → LineByLine R (site_items s) text → read_lines line (size_at []) (lines_from zero (split 10 text)) ≡ accepted (facts_at facts)
  unfolding site_items LineByLine size_at labels_at members_at facts_at
  lines_back text h =
      let A = run_read line R the_size size_at (n ∷ []) size_read (n ∷ []) [] (map a_label labels ++ (map a_member members ++ map a_fact facts)) zero text refl h in
      let B = run_read line R a_label labels_at labels label_read labels [] (map a_member members ++ map a_fact facts) A.next A.rest refl A.left in
      let C = run_read line R a_member members_at members member_read members [] (map a_fact facts) B.next B.rest refl B.left in
      let E = run_read line R a_fact facts_at facts fact_read facts [] [] C.next C.rest refl (subst (λ (l : List SiteItem). LineByLine R l C.rest) (sym (append-nil (map a_fact facts))) C.left) in
      A.same_reading ∙ B.same_reading ∙ C.same_reading ∙ E.same_reading
      ∙ ap (λ (x : List ℕ). read_lines line (facts_at facts) (lines_from E.next (split 10 x))) E.left ∙ read_end line (facts_at facts) E.next

  pub site_back : (text : List ℕ) → LineByLine R (site_items s) text → length text ≤ text_limit → read_site L rels types text ≡ accepted s
  unfolding read_site given refuse_if ◌>>=◌ size_at facts_at
  site_back text h l =
      let each : all (has_member members) (below (length types)) ≡ true = T_true _ (all_of (has_member members) (below (length types)) (λ k m. I.fits.site_fits.each_type k (below_lt (length types) k m))) in
      rw (within line (size_at []) text l ∙ lines_back text h, each) refl

-- a text is read as a site exactly if it spells it so
pub site_texts : (L : CaseLimits) → L.elements ≤ 64 → (rels : List Relation) (types : List (List ℕ)) → Declared rels types → (text : List ℕ) (s : Labelled)
    → (read_site L rels types text ≡ accepted s) ↔ (LineByLine (SiteLine rels types s.labels) (site_items s) text × (length text ≤ text_limit) × SiteIs L rels types s)
site_texts L few rels types D text s = (λ e. site_told L few rels types text s e, λ h. let (a, b, c) = h in site_back L few rels types D s c text a b)
