-- A case rewritten with numbers: a site without its `label` lines and with numbers for labels is read as the same site, and picks
-- rewritten so are read as the same picks. So every call answers as before.
use Prim.Native.Nat.{ℕ, zero, ◌+◌, ◌^◌, ◌<◌, ◌≤◌}
use Rattle.std.specs.Prelude.{◌≡◌, Bool, true, false, not, ◌||◌, T, eqb, ltb, leb, if◌then◌else◌}
use Rattle.std.proofs.Math.Path.{refl, sym, ap, ap₂, subst}
use Rattle.std.proofs.Common.{◌∙◌, arith, ltb→lt, lt→ltb, T_not}
use Rattle.std.proofs.Math.Option.{Option, none, some}
use mathlib.Core.List.{List, [], ◌∷◌, ◌++◌, map, append_assoc, append-nil, Memᴰ}
use Rattle.std.proofs.Math.Dec.{leb→le, not_T}
use Rattle.std.proofs.Math.ListN.{length, length-map}
use borrow.Author.Tests.{le-leb, not-false}
use Rattle.definitions.specs.Limits.{CaseLimits, text_limit}
use Rattle.definitions.specs.Lists.{all, same, option, flat_map, is_empty, below}
use Rattle.definitions.specs.Sheet.Text.{bytes, decimal, on_first, split, Line, lines_from, lines, fields, is_between}
use Rattle.definitions.specs.Refusal.{Result, accepted, ◌>>=◌, refuse_if, given, read_lines, read_text}
use Rattle.definitions.specs.Sheet.Relations.{Relation, Tuple}
use Rattle.definitions.specs.Sheet.Formula.{type_number}
use Rattle.definitions.specs.Sheet.Sheets.{Element, numbered, named, Entry, rel, type, choose, every, rule, size, label, member, fact, pick, step, element}
use Rattle.definitions.specs.Sheet.Sheets.{elements, member_of, with_one, with_two, with_elements, entry, entry_of, first_rel, Label, element_of, elements_of}
use Rattle.definitions.specs.Sheet.Sheets.{is_in_range, used, add_tuple, Question, read_question, Member, is_member, has_member, SiteDraft, Labelled, add_size}
use Rattle.definitions.specs.Sheet.Sheets.{is_taken, add_label, add_member, add_fact, add_to_site, site_line, read_site, first_chosen, read_picks}
use Rattle.definitions.specs.Problem.Truth.{Case}
use Rattle.definitions.specs.Problem.Atoms.{Problem, problem_of, relation_at}
use Rattle.definitions.specs.Reply.Outcome.{CaseRead, read_filed}
use Rattle.definitions.specs.Reply.Desk.{is_record, print_line}
use Rattle.definitions.specs.Reply.Rewritten.{field_in_numbers, fields_in_numbers, line_in_numbers, in_numbers}
use Rattle.laws.specs.Booleans.{T_and_l, T_and_r, T_of, T_true, and_T}
use Rattle.laws.specs.Lists.{all_at, all_of, some_eq}
use Rattle.laws.specs.Results.{accepted_eq, bind_parts, given_some, not_refused, refused_accepted}
use Rattle.laws.specs.Labels.{LabelsFit, no_labels, element_before, mean_length, mean_small, means_small, numbers_mean, numbers_small, option_parts}
use Rattle.laws.specs.Spelling.{element_number, numbers_spelled, spelled_read}
use Rattle.laws.specs.Reader.{Accepted, picks_fit, DraftSite, SizedFits, SiteSoFar, site_step, gives_if}
use Rattle.laws.specs.Decimals.{number_decimal}
use Rattle.laws.specs.Lines.{Without, AllWithout, joined, split_cons, split_at, split_joined, print_joined, joined_without, read_end, LineByLine, write_lines}
use Rattle.laws.specs.Told.{Says, line_told, open_told, tuple_told}
use Rattle.meaning.specs.Picks.{fit_picks, inside_fits, picks_inside}
use Rattle.demands.specs.Written
use Written.{decimal_without, print_then, entry_joined, tuple_added, within}

-- ---- the pieces of a text have none of the bytes that part them, nor any byte that the text has not
first_without : (k b : ℕ) (ps : List (List ℕ)) → T (not (eqb b k)) → AllWithout k ps → AllWithout k (on_first b ps)
unfolding on_first AllWithout all
first_without k b [] t w = tt
first_without k b (p ∷ ps) t w = (and_T (not (eqb b k)) _ t w.0, w.1)

pieces_without : (sep : ℕ) (t : List ℕ) → AllWithout sep (split sep t)
unfolding split AllWithout all
pieces_without sep [] = (tt, tt)
pieces_without sep (b ∷ t) = by_test (eqb b sep) refl (pieces_without sep t)
  where
    by_test : (e : Bool) → eqb b sep ≡ e → AllWithout sep (split sep t) → AllWithout sep (if e then [] ∷ split sep t else on_first b (split sep t))
    by_test true q w = (tt, w)
    by_test false q w = first_without sep b (split sep t) (not_T (eqb b sep) (λ h. T_not (eqb b sep) (T_of (ap not q)) h)) w

pieces_keep : (sep k : ℕ) (t : List ℕ) → Without k t → AllWithout k (split sep t)
unfolding split AllWithout all
pieces_keep sep k [] w = (tt, tt)
pieces_keep sep k (b ∷ t) w = by_test (eqb b sep) (pieces_keep sep k t (T_and_r (not (eqb b k)) _ w))
  where
    by_test : (e : Bool) → AllWithout k (split sep t) → AllWithout k (if e then [] ∷ split sep t else on_first b (split sep t))
    by_test true h = (tt, h)
    by_test false h = first_without k b (split sep t) (T_and_l (not (eqb b k)) _ w) h

-- ---- fields: what they mean, written in numbers, is read as these numbers
elements_plain : (xs : List ℕ) → T (all (λ x. ltb x 64) xs) → elements (map decimal xs) ≡ some (map numbered xs)
unfolding elements all option
elements_plain [] t = refl
elements_plain (x ∷ xs) t =
    let l = ltb→lt x 64 (T_and_l (ltb x 64) _ t) in
    rw (element_number (decimal x) x (number_decimal x (omega arith)), elements_plain xs (T_and_r (ltb x 64) _ t)) refl

module _ (labels more : List Label) where
  means_later : (e : Element) (x : ℕ) → element_of labels e ≡ some x → element_of (labels ++ more) e ≡ some x
  unfolding element_of
  means_later (numbered y) x q = q
  means_later (named f) x q = element_before labels more f x q

  field_plain : (f : List ℕ) (e : Element) (x : ℕ) → element f ≡ some e → element_of labels e ≡ some x → field_in_numbers (labels ++ more) f ≡ decimal x
  unfolding field_in_numbers option
  field_plain f e x a m = rw (a, means_later e x m) refl

  fields_plain : (fs : List (List ℕ)) (es : List Element) (xs : List ℕ) → elements fs ≡ some es → elements_of labels es ≡ some xs → map (field_in_numbers (labels ++ more)) fs ≡ map decimal xs
  unfolding elements elements_of
  fields_plain [] es xs q m = ap (map decimal) (some_eq (ap (elements_of labels) (some_eq q) ∙ m))
  fields_plain (f ∷ fs) es xs q m =
      let (e, a, q₁) = option_parts (element f) _ es q in
      let (es', b, q₂) = option_parts (elements fs) _ es q₁ in
      let (x, c, m₁) = option_parts (element_of labels e) _ xs (ap (elements_of labels) (some_eq q₂) ∙ m) in
      let (xs', d, m₂) = option_parts (elements_of labels es') _ xs m₁ in
      ap₂ ◌∷◌ (field_plain f e x a c) (fields_plain fs es' xs' b d) ∙ ap (map decimal) (some_eq m₂)

decimals_without : (sep : ℕ) → sep < 48 → (xs : List ℕ) → AllWithout sep (map decimal xs)
unfolding AllWithout
decimals_without sep h [] = tt
decimals_without sep h (x ∷ xs) = (decimal_without sep h x, decimals_without sep h xs)

-- ---- lines
module _ (labels : List Label) (l : Line) where
  size_line : (f : List ℕ) → fields l ≡ bytes "size" ∷ f ∷ [] → line_in_numbers labels l ≡ print_line (bytes "size" ∷ f ∷ [])
  unfolding line_in_numbers is_record fields_in_numbers same
  size_line f q = rw q refl

  label_line : (f name : List ℕ) → fields l ≡ bytes "label" ∷ f ∷ name ∷ [] → line_in_numbers labels l ≡ []
  unfolding line_in_numbers is_record same
  label_line f name q = rw q refl

  member_line : (name f : List ℕ) → fields l ≡ bytes "member" ∷ name ∷ f ∷ [] → line_in_numbers labels l ≡ print_line (bytes "member" ∷ name ∷ field_in_numbers labels f ∷ [])
  unfolding line_in_numbers is_record fields_in_numbers same
  member_line name f q = rw q refl

  fact_line : (name : List ℕ) (gs : List (List ℕ)) → fields l ≡ bytes "fact" ∷ name ∷ gs → line_in_numbers labels l ≡ print_line (bytes "fact" ∷ name ∷ map (field_in_numbers labels) gs)
  unfolding line_in_numbers is_record fields_in_numbers same
  fact_line name gs q = rw q refl

  pub pick_line : (name : List ℕ) (gs : List (List ℕ)) → fields l ≡ bytes "pick" ∷ name ∷ gs → line_in_numbers labels l ≡ print_line (bytes "pick" ∷ name ∷ map (field_in_numbers labels) gs)
  unfolding line_in_numbers is_record fields_in_numbers same
  pick_line name gs q = rw q refl

pub size_entry : (n : ℕ) → n < 10 ^ 7 → entry (bytes "size" ∷ decimal n ∷ []) ≡ some (size n)
unfolding entry same with_one option
size_entry n h = rw (number_decimal n h) refl

pub member_entry : (name f : List ℕ) (e : Element) → element f ≡ some e → entry (bytes "member" ∷ name ∷ f ∷ []) ≡ some (member name e)
unfolding entry same with_two member_of option
member_entry name f e q = rw q refl

pub fact_entry : (name : List ℕ) (gs : List (List ℕ)) (es : List Element) → elements gs ≡ some es → 1 ≤ length gs → length gs ≤ 3 → entry (bytes "fact" ∷ name ∷ gs) ≡ some (fact name es)
unfolding entry same with_elements option is_between
fact_entry name gs es e a b = rw (le-leb 1 (length gs) a, le-leb (length gs) 3 b, e) refl

-- ---- what a site's line adds, with labels and without
abbrev stripped : SiteDraft → SiteDraft
stripped d = record { sized = d.sized; labels = []; members = d.members; facts = d.facts }

size_plain : (L : CaseLimits) (d m : SiteDraft) (at at' n : ℕ) (o : Option ℕ) → add_size L d at n o ≡ accepted m → (m.labels ≡ d.labels) × (add_size L (stripped d) at' n o ≡ accepted (stripped m))
unfolding add_size refuse_if ◌>>=◌
size_plain L d m at at' n none q =
    let (u, r, f) = bind_parts (refuse_if (not (is_between 1 L.elements n)) 9 at) _ m q in
    let b = not-false (is_between 1 L.elements n) (not_refused (not (is_between 1 L.elements n)) 9 at u r) in
    let e = accepted_eq _ m f in
    (ap (λ (x : SiteDraft). x.labels) (sym e), rw b (ap (λ (x : SiteDraft). accepted (stripped x)) e))
size_plain L d m at at' n (some k) q = absurd (refused_accepted q)

label_plain : (d m : SiteDraft) (at : ℕ) (e : Element) (name : List ℕ) → add_label d at e name ≡ accepted m → ((new : List Label) × (m.labels ≡ d.labels ++ new)) × (stripped m ≡ stripped d)
unfolding add_label
label_plain d m at e name q =
    let (n, a, q₁) = bind_parts (given d.sized 3 at) _ m q in
    let (u, b, q₂) = bind_parts (refuse_if (not (is_empty d.members) || not (is_empty d.facts)) 3 at) _ m q₁ in
    let (v, c, q₃) = bind_parts (refuse_if (not (is_in_range n e)) 9 at) _ m q₂ in
    let (x, f, q₄) = bind_parts (given (element_of d.labels e) 18 at) _ m q₃ in
    let (w, g, q₅) = bind_parts (refuse_if (is_taken d.labels x name) 18 at) _ m q₄ in
    let s = sym (accepted_eq _ m q₅) in
    ((record { element = x; name = name } ∷ [], ap (λ (y : SiteDraft). y.labels) s), ap stripped s)

-- a member: the element that its field means, and what is added
record Joins (types : List (List ℕ)) (d m : SiteDraft) (name : List ℕ) (e : Element) : Type 0 where
  meant : ℕ
  means : element_of d.labels e ≡ some meant
  small : meant < 64
  kept : m.labels ≡ d.labels
  adds : (at : ℕ) → add_member types (stripped d) at name (numbered meant) ≡ accepted (stripped m)

member_adds : (types : List (List ℕ)) (d : SiteDraft) (at n k x : ℕ) (name : List ℕ) → d.sized ≡ some n → is_empty d.facts ≡ true → type_number types name ≡ some k → ltb x n ≡ true → is_member d.members k x ≡ false
    → add_member types d at name (numbered x) ≡ accepted (record { sized = d.sized; labels = d.labels; members = d.members ++ (record { type = k; element = x } ∷ []); facts = d.facts })
unfolding add_member element_of is_in_range given refuse_if ◌>>=◌
member_adds types d at n k x name a b c e f = rw (a, b, c, e, f) refl

member_plain : (rels : List Relation) (types : List (List ℕ)) (d m : SiteDraft) (at : ℕ) (name : List ℕ) (e : Element) → SiteSoFar rels types d → add_member types d at name e ≡ accepted m → Joins types d m name e
unfolding add_member DraftSite
member_plain rels types d m at name e D q =
    let (n, a, q₁) = bind_parts (given d.sized 3 at) _ m q in
    let (u, b, q₂) = bind_parts (refuse_if (not (is_empty d.facts)) 3 at) _ m q₁ in
    let (k, t, q₃) = bind_parts (given (type_number types name) 19 at) _ m q₂ in
    let (v, c, q₄) = bind_parts (refuse_if (not (is_in_range n e)) 9 at) _ m q₃ in
    let (x, f, q₅) = bind_parts (given (element_of d.labels e) 18 at) _ m q₄ in
    let (w, g, q₆) = bind_parts (refuse_if (is_member d.members k x) 10 at) _ m q₅ in
    let s = accepted_eq _ m q₆ in
    let sized = given_some d.sized 3 at n a in
    let S : SizedFits rels types d.labels d.members d.facts n = subst (λ (o : Option ℕ). DraftSite rels types o d.labels d.members d.facts) sized D in
    let means = given_some (element_of d.labels e) 18 at x f in
    let small = means_small n d.labels S.labels_fit e x (T_of (not-false (is_in_range n e) (not_refused (not (is_in_range n e)) 9 at v c))) means in
    let below-n = ltb→lt x n small in
    record {
      meant = x;
      means = means;
      small = omega (arith, S.few_elements);
      kept = ap (λ (y : SiteDraft). y.labels) (sym s);
      adds = λ at'. member_adds types (stripped d) at' n k x name sized (not-false (is_empty d.facts) (not_refused (not (is_empty d.facts)) 3 at u b)) (given_some (type_number types name) 19 at k t) (T_true (ltb x n) small) (not_refused (is_member d.members k x) 10 at w g)
          ∙ ap (λ (y : SiteDraft). accepted (stripped y)) s;
    }

-- a fact: the fields that its elements are written with, and the tuple added
record Fact (rels : List Relation) (d m : SiteDraft) (name : List ℕ) (es : List Element) : Type 0 where
  places : List ℕ
  meant : elements_of d.labels es ≡ some places
  small : T (all (λ x. ltb x 64) places)
  kept : m.labels ≡ d.labels
  adds : (at : ℕ) → add_fact rels (stripped d) at name (map numbered places) ≡ accepted (stripped m)

few_small : (n : ℕ) (xs : List ℕ) → n ≤ 64 → T (all (λ x. ltb x n) xs) → T (all (λ x. ltb x 64) xs)
few_small n xs h t = all_of (λ x. ltb x 64) xs (λ x m. let l = ltb→lt x n (all_at (λ x. ltb x n) xs t x m) in lt→ltb x 64 (omega arith))

fact_adds : (rels : List Relation) (o : Option ℕ) (n : ℕ) (members : List Member) (facts more : List Tuple) (at : ℕ) (name : List ℕ) (es : List Element) → o ≡ some n → add_tuple rels first_rel n [] facts at name es ≡ accepted more
    → add_fact rels (record { sized = o; labels = []; members = members; facts = facts }) at name es ≡ accepted (record { sized = o; labels = []; members = members; facts = more })
unfolding add_fact given ◌>>=◌
fact_adds rels o n members facts more at name es e q = rw (e, q) refl

fact_plain : (rels : List Relation) (types : List (List ℕ)) (d m : SiteDraft) (at : ℕ) (name : List ℕ) (es : List Element) → SiteSoFar rels types d → add_fact rels d at name es ≡ accepted m → Fact rels d m name es
unfolding add_fact DraftSite
fact_plain rels types d m at name es D q =
    let (n, a, q₁) = bind_parts (given d.sized 3 at) _ m q in
    let (ts, b, q₂) = bind_parts (add_tuple rels first_rel n d.labels d.facts at name es) _ m q₁ in
    let e = accepted_eq _ m q₂ in
    let sized = given_some d.sized 3 at n a in
    let S : SizedFits rels types d.labels d.members d.facts n = subst (λ (o : Option ℕ). DraftSite rels types o d.labels d.members d.facts) sized D in
    let A = tuple_told rels first_rel n d.labels d.facts at name es ts b in
    let xs = A.tuple.places in
    let small = mean_small n d.labels S.labels_fit es xs A.in_range A.meant in
    record {
      places = xs;
      meant = A.meant;
      small = few_small n xs S.few_elements small;
      kept = ap (λ (y : SiteDraft). y.labels) (sym e);
      adds = λ at'. fact_adds rels d.sized n d.members d.facts ts at' name (map numbered xs) sized
          (tuple_added rels first_rel n [] d.facts at' name (map numbered xs) A.tuple
          (ap (used rels first_rel name) (length-map xs numbered ∙ mean_length d.labels es xs A.meant) ∙ A.is_used) (subst T (sym (numbers_small n xs)) small) (numbers_mean [] xs) A.is_new ∙ ap accepted (sym A.added))
          ∙ ap (λ (y : SiteDraft). accepted (stripped y)) e;
    }

-- ---- a site, line by line
module _ (L : CaseLimits) (few : L.elements ≤ 64) (rels : List Relation) (types : List (List ℕ)) where
  abbrev line : SiteDraft → Line → Result SiteDraft
  line = site_line L rels types

  abbrev ended : ℕ → List ℕ → Line
  ended at w = record { at = at; ended = true; content = w }

  -- a rewritten line takes the draft without labels to the next one, and the rest is left
  abbrev Goes : List Label → SiteDraft → SiteDraft → Line → Type 0
  Goes labels d m l = (at : ℕ) (rest : List ℕ) → (at' : ℕ) × (read_lines (site_line L rels types) (stripped d) (lines_from at (split 10 (line_in_numbers labels l ++ rest))) ≡ read_lines (site_line L rels types) (stripped m) (lines_from at' (split 10 rest)))

  goes_by : (labels : List Label) (d m : SiteDraft) (l : Line) (f : List ℕ) (fs : List (List ℕ)) (e : Entry) → AllWithout 9 (f ∷ fs) → AllWithout 10 (f ∷ fs) → line_in_numbers labels l ≡ print_line (f ∷ fs) → entry (f ∷ fs) ≡ some e
      → ((at : ℕ) → add_to_site L rels types (stripped d) at e ≡ accepted (stripped m)) → Goes labels d m l
  unfolding site_line ◌>>=◌
  goes_by labels d m l f fs e v w i q a at rest = (
    at + length (joined (f ∷ fs)) + 1,
    ap (λ (t : List ℕ). read_lines line (stripped d) (lines_from at (split 10 (t ++ rest)))) i
        ∙ print_then line (stripped d) at (f ∷ fs) rest w
        ∙ ap (λ (r : Result SiteDraft). r >>= λ s. read_lines line s (lines_from (at + length (joined (f ∷ fs)) + 1) (split 10 rest))) (reads at),
  )
    where
      reads : (at : ℕ) → site_line L rels types (stripped d) (ended at (joined (f ∷ fs))) ≡ accepted (stripped m)
      reads at = rw (entry_joined at f fs e v q) (a at)

  abbrev Grows : SiteDraft → SiteDraft → Type 0
  Grows d m = (new : List Label) × (m.labels ≡ d.labels ++ new)

  entry_goes : (labels more : List Label) (d m : SiteDraft) (at : ℕ) (w : List ℕ) (e : Entry) → Without 10 w → SiteSoFar rels types d → labels ≡ m.labels ++ more → Says (split 9 w) e → add_to_site L rels types d at e ≡ accepted m → Grows d m × Goes labels d m (ended at w)
  unfolding add_to_site Says fields AllWithout all is_between
  entry_goes labels more d m at w (rel name a) v D p s q = absurd (refused_accepted q)
  entry_goes labels more d m at w (type name) v D p s q = absurd (refused_accepted q)
  entry_goes labels more d m at w (choose name a k names) v D p s q = absurd (refused_accepted q)
  entry_goes labels more d m at w (every name a) v D p s q = absurd (refused_accepted q)
  entry_goes labels more d m at w (rule f) v D p s q = absurd (refused_accepted q)
  entry_goes labels more d m at w (size n) v D p s q = (
    ([], (size_plain L d m at at n d.sized q).0 ∙ sym (append-nil d.labels)),
    goes_by labels d m (ended at w) (bytes "size") (decimal n ∷ []) (size n) (tt, (decimal_without 9 (omega arith) n, tt)) (tt, (decimal_without 10 (omega arith) n, tt)) (size_line labels (ended at w) (decimal n) s.0) (size_entry n s.1) (λ at'. (size_plain L d m at at' n d.sized q).1),
  )
  entry_goes labels more d m at w (label x name) v D p (f, s) q =
      let (g, r) = label_plain d m at x name q in (
        g,
        λ at' rest. (at', ap₂ (λ (y : SiteDraft) (t : List ℕ). read_lines line y (lines_from at' (split 10 (t ++ rest)))) (sym r) (label_line labels (ended at w) f name s)),
      )
  entry_goes labels more d m at w (member t x) v D p (f, s, r) q =
      let J = member_plain rels types d m at t x D q in
      let v₉ = subst (AllWithout 9) s (pieces_without 9 w) in
      let v₁₀ = subst (AllWithout 10) s (pieces_keep 9 10 w v) in
      let i : labels ≡ d.labels ++ more = p ∙ ap (λ (k : List Label). k ++ more) J.kept in
      let j : field_in_numbers labels f ≡ decimal J.meant = ap (λ (k : List Label). field_in_numbers k f) i ∙ field_plain d.labels more f x J.meant r J.means in (
        ([], J.kept ∙ sym (append-nil d.labels)),
        goes_by labels d m (ended at w) (bytes "member") (t ∷ decimal J.meant ∷ []) (member t (numbered J.meant))
            (tt, (v₉.1.0, (decimal_without 9 (omega arith) J.meant, tt))) (tt, (v₁₀.1.0, (decimal_without 10 (omega arith) J.meant, tt)))
            (member_line labels (ended at w) t f s ∙ ap (λ (y : List ℕ). print_line (bytes "member" ∷ t ∷ y ∷ [])) j)
            (member_entry t (decimal J.meant) (numbered J.meant) (element_number (decimal J.meant) J.meant (number_decimal J.meant (omega (arith, J.small))))) J.adds,
      )
  entry_goes labels more d m at w (fact name es) v D p (gs, s, r, b) q =
      let F = fact_plain rels types d m at name es D q in
      let v₉ = subst (AllWithout 9) s (pieces_without 9 w) in
      let v₁₀ = subst (AllWithout 10) s (pieces_keep 9 10 w v) in
      let i : labels ≡ d.labels ++ more = p ∙ ap (λ (k : List Label). k ++ more) F.kept in
      let j : map (field_in_numbers labels) gs ≡ map decimal F.places = ap (λ (k : List Label). map (field_in_numbers k) gs) i ∙ fields_plain d.labels more gs es F.places r F.meant in
      let k : length (map decimal F.places) ≡ length gs = ap length (sym j) ∙ length-map gs (field_in_numbers labels) in
      let low = leb→le 1 (length gs) (T_and_l (leb 1 (length gs)) _ b) in
      let high = leb→le (length gs) 3 (T_and_r (leb 1 (length gs)) _ b) in (
        ([], F.kept ∙ sym (append-nil d.labels)),
        goes_by labels d m (ended at w) (bytes "fact") (name ∷ map decimal F.places) (fact name (map numbered F.places))
            (tt, (v₉.1.0, decimals_without 9 (omega arith) F.places)) (tt, (v₁₀.1.0, decimals_without 10 (omega arith) F.places))
            (fact_line labels (ended at w) name gs s ∙ ap (λ (x : List (List ℕ)). print_line (bytes "fact" ∷ name ∷ x)) j)
            (fact_entry name (map decimal F.places) (map numbered F.places) (elements_plain F.places F.small) (omega arith) (omega arith)) F.adds,
      )
  entry_goes labels more d m at w (pick name es) v D p s q = absurd (refused_accepted q)
  entry_goes labels more d m at w (step k) v D p s q = absurd (refused_accepted q)

  abbrev Reads : List (List ℕ) → ℕ → SiteDraft → SiteDraft → Type 0
  Reads ps at d e = Grows d e × ((at' : ℕ) → read_lines (site_line L rels types) (stripped d) (lines_from at' (split 10 (flat_map (line_in_numbers e.labels) (lines_from at ps)))) ≡ accepted (stripped e))

  no_lines : (d e : SiteDraft) → accepted d ≡ accepted e → Grows d e × ((at' : ℕ) → read_lines (site_line L rels types) (stripped d) (lines_from at' (split 10 [])) ≡ accepted (stripped e))
  no_lines d e q = let r = accepted_eq d e q in (([], ap (λ (x : SiteDraft). x.labels) (sym r) ∙ sym (append-nil d.labels)), λ at'. read_end line (stripped d) at' ∙ ap (λ (x : SiteDraft). accepted (stripped x)) r)

  lines_plain : (ps : List (List ℕ)) (d e : SiteDraft) (at : ℕ) → SiteSoFar rels types d → AllWithout 10 ps → read_lines line d (lines_from at ps) ≡ accepted e → Reads ps at d e
  unfolding lines_from read_lines flat_map is_empty AllWithout site_line
  lines_plain [] d e at D v h = no_lines d e h
  lines_plain (w ∷ []) d e at D v h = last w h
    where
      last : (w : List ℕ) → read_lines line d (if is_empty w then [] else record { at = at; ended = false; content = w } ∷ []) ≡ accepted e → Reads (w ∷ []) at d e
      last [] h = no_lines d e h
      last (b ∷ w) h =
          let (m, f, g) = bind_parts (line d (record { at = at; ended = false; content = b ∷ w })) _ e h in
          let (x, a, c) = bind_parts (entry_of (record { at = at; ended = false; content = b ∷ w })) (add_to_site L rels types d at) m f in
          absurd (open_told at (b ∷ w) x a)
  lines_plain (w ∷ q ∷ qs) d e at D v h =
      let (m, f, g) = bind_parts (line d (ended at w)) _ e h in
      let (x, a, b) = bind_parts (entry_of (ended at w)) (add_to_site L rels types d at) m f in
      let M = gives_if (SiteSoFar rels types) (line d (ended at w)) m f (site_step L few rels types d (ended at w) D) in
      let ((more, p), after) = lines_plain (q ∷ qs) m e (at + length w + 1) M v.1 g in
      let ((new, i), goes) = entry_goes e.labels more d m at w x v.0 D p (line_told at w x a) b in (
        (new ++ more, p ∙ ap (λ (k : List Label). k ++ more) i ∙ append_assoc d.labels new more),
        λ at'. let (at'', r) = goes at' (flat_map (line_in_numbers e.labels) (lines_from (at + length w + 1) (q ∷ qs))) in r ∙ after at'',
      )

  -- the whole site
  abbrev empty : SiteDraft
  empty = record { sized = none; labels = []; members = []; facts = [] }

  site_ends : (text : List ℕ) (d : SiteDraft) (n : ℕ) → d.sized ≡ some n → all (has_member d.members) (below (length types)) ≡ true
      → read_text (site_line L rels types) empty text ≡ accepted (stripped d) → read_site L rels types text
      ≡ accepted (record { site = record { size = n; members = d.members; facts = d.facts }; labels = [] })
  unfolding read_site given refuse_if ◌>>=◌
  site_ends text d n z h r = rw (r, z, h) refl

  pub site_in_numbers : (text : List ℕ) (s : Labelled) → read_site L rels types text ≡ accepted s → length (in_numbers s.labels text) ≤ text_limit → read_site L rels types (in_numbers s.labels text) ≡ accepted (record { site = s.site; labels = [] })
  unfolding read_site read_text DraftSite lines in_numbers
  site_in_numbers text s h few_bytes =
      let (d, a, b) = bind_parts (read_text (site_line L rels types) empty text) _ s h in
      let (u, f, g) = bind_parts (refuse_if (ltb text_limit (length text)) 1 zero) _ d a in
      let (n, sized, k) = bind_parts (given d.sized 3 (length text)) _ s b in
      let (v, have, e) = bind_parts (refuse_if (not (all (has_member d.members) (below (length types)))) 19 zero) _ s k in
      let each = not-false (all (has_member d.members) (below (length types))) (not_refused (not (all (has_member d.members) (below (length types)))) 19 zero v have) in
      let (grown, reads) = lines_plain (split 10 text) empty d zero (refl, refl, refl) (pieces_without 10 text) g in
      subst (λ (x : Labelled). length (in_numbers x.labels text) ≤ text_limit → read_site L rels types (in_numbers x.labels text) ≡ accepted (record { site = x.site; labels = [] })) (accepted_eq _ s e)
      (λ l. site_ends (in_numbers d.labels text) d n (given_some d.sized 3 (length text) n sized) each (within line empty (in_numbers d.labels text) l ∙ reads zero)) few_bytes

-- and with its question
pub filed_in_numbers : (L : CaseLimits) → L.elements ≤ 64 → (question site : List ℕ) (r : CaseRead) → read_filed L question site ≡ accepted r → length (in_numbers r.labels site) ≤ text_limit
    → read_filed L question (in_numbers r.labels site) ≡ accepted (record { case = r.case; labels = [] })
unfolding read_filed ◌>>=◌
filed_in_numbers L few question site r h few_bytes =
    let (q, a, b) = bind_parts (read_question question) _ r h in
    let (s, c, e) = bind_parts (read_site L q.rels q.types site) _ r b in
    subst (λ (x : CaseRead). length (in_numbers x.labels site) ≤ text_limit → read_filed L question (in_numbers x.labels site) ≡ accepted (record { case = x.case; labels = [] })) (accepted_eq _ r e)
    (λ l. ends (in_numbers s.labels site) q s a (site_in_numbers L few q.rels q.types site s c l)) few_bytes
  where
    ends : (text : List ℕ) (q : Question) (s : Labelled) → read_question question ≡ accepted q → read_site L q.rels q.types text ≡ accepted (record { site = s.site; labels = [] }) → read_filed L question text ≡ accepted (record { case = record { question = q; site = s.site }; labels = [] })
    ends text q s a c = rw (a, c) refl

-- ---- picks
line_first : (fs : List (List ℕ)) (rest : List ℕ) (at : ℕ) → AllWithout 10 fs → lines_from at (split 10 (print_line fs ++ rest)) ≡ record { at = at; ended = true; content = joined fs } ∷ lines_from (at + length (joined fs) + 1) (split 10 rest)
unfolding lines_from
line_first fs rest at w =
    let (q, qs, e) = split_cons 10 rest in
    ap (λ (t : List ℕ). lines_from at (split 10 t)) (ap (λ (t : List ℕ). t ++ rest) (print_joined fs) ∙ append_assoc (joined fs) (10 ∷ []) rest)
    ∙ ap (lines_from at) (split_at 10 (joined fs) rest (joined_without fs w) ∙ ap (λ (l : List (List ℕ)). joined fs ∷ l) e)
    ∙ ap (λ (l : List (List ℕ)). record { at = at; ended = true; content = joined fs } ∷ lines_from (at + length (joined fs) + 1) l) (sym e)

module _ (c : Case) (A : Accepted c) (labels : List Label) (K : LabelsFit c.site.size labels) where
  abbrev p : Problem
  p = problem_of c

  abbrev numbers_line : Tuple → List (List ℕ)
  numbers_line t = bytes "pick" ∷ (relation_at (problem_of c) t.relation).name ∷ map decimal t.places

  pick_plain : (at : ℕ) (t : Tuple) (fs : List (List ℕ)) → Written.Fits c A labels K t → Written.PickLine c A labels K t fs → line_in_numbers labels (record { at = at; ended = true; content = joined fs }) ≡ print_line (numbers_line t)
  unfolding fields all
  pick_plain at t fs f (gs, q, s) =
      let (es, a, m, b, l) = spelled_read c.site.size labels K t.places gs A.site_fits.few_elements f.small s in
      let name = (relation_at p t.relation).name in
      let w = subst (AllWithout 9) q (Written.line_fields c A labels K 9 (omega arith) tt t fs f (gs, q, s)) in
      pick_line labels _ name gs (ap (λ (x : List (List ℕ)). split 9 (joined x)) q ∙ split_joined (bytes "pick") (name ∷ gs) w)
      ∙ ap (λ (x : List (List ℕ)). print_line (bytes "pick" ∷ name ∷ x)) (ap (λ (k : List Label). map (field_in_numbers k) gs) (sym (append-nil labels)) ∙ fields_plain labels [] gs es t.places a m)

  lines_rewritten : (F : List Tuple) (text : List ℕ) (at : ℕ) → ((t : Tuple) → Memᴰ t F → Written.Fits c A labels K t) → LineByLine (Written.PickLine c A labels K) F text → flat_map (line_in_numbers labels) (lines_from at (split 10 text)) ≡ flat_map (λ t. print_line (numbers_line t)) F
  unfolding LineByLine flat_map lines_from split is_empty all
  lines_rewritten [] text at v h = ap (λ (t : List ℕ). flat_map (line_in_numbers labels) (lines_from at (split 10 t))) h
  lines_rewritten (t ∷ F) text at v (fs, r, (rest, e, h)) =
      let f = v t (Memᴰ.head refl) in
      ap (λ (x : List ℕ). flat_map (line_in_numbers labels) (lines_from at (split 10 x))) e
      ∙ ap (flat_map (line_in_numbers labels)) (line_first fs rest at (Written.line_fields c A labels K 10 (omega arith) tt t fs f r))
      ∙ ap₂ ◌++◌ (pick_plain at t fs f r) (lines_rewritten F rest (at + length (joined fs) + 1) (λ u m. v u (Memᴰ.tail m)) h)

  pub picks_in_numbers : (F : List Tuple) (text : List ℕ) → read_picks c.question.chosen (first_chosen c.question) c.site.size labels text ≡ accepted F → length (in_numbers labels text) ≤ text_limit
      → read_picks c.question.chosen (first_chosen c.question) c.site.size [] (in_numbers labels text) ≡ accepted F
  unfolding in_numbers lines
  picks_in_numbers F text e few_bytes =
      let P = fit_picks c F (gives_if _ _ F e (picks_fit c.question.chosen (first_chosen c.question) c.site.size labels K text)) in
      let (h, l) = Written.picks_text c A labels K F P text e in
      let i = lines_rewritten F text zero (λ t m. inside_fits c A t (picks_inside c A F P t m)) h in
      Written.picks_back c A [] (no_labels c.site.size) F P (in_numbers labels text)
      (subst (LineByLine (Written.PickLine c A [] (no_labels c.site.size)) F) (sym i) (write_lines _ numbers_line F (λ t m. (map decimal t.places, refl, numbers_spelled [] t.places)))) few_bytes
