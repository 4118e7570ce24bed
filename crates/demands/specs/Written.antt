-- Sheets of steps and of picks, written as the desk program prints them or in any way that spells them, are read back as they were.
use Prim.Native.Nat.{ℕ, zero, ◌+◌, ◌-◌, ◌^◌, ◌≤◌, ◌<◌}
use Rattle.std.specs.Prelude.{◌≡◌, Bool, true, ◌&&◌, ltb, eqb, get_or}
use Rattle.std.proofs.Math.Path.{refl, ap, subst, fun_ext}
use Rattle.std.proofs.Common.{sym, ◌∙◌, ⊎_elim, arith, T_not, le-ltb, le-leb}
use Rattle.std.proofs.Math.Bool.{false}
use Rattle.std.proofs.Math.Option.{some}
use mathlib.Core.List.{List, [], ◌∷◌, ◌++◌, map, append_assoc, append-nil, Memᴰ}
use Rattle.std.proofs.Math.Dec.{T, eqb_refl, not_T}
use Rattle.std.proofs.Math.ListN.{length}
use Rattle.definitions.specs.Limits.{text_limit}
use Rattle.definitions.specs.Lists.{all, any, same, option, listed, flat_map}
use Rattle.definitions.specs.Sheet.Text.{bytes, decimal, decimal_in, is_relation_name, Line, lines, lines_from, split, fields, is_between}
use Rattle.definitions.specs.Refusal.{Result, accepted, ◌>>=◌, refuse_if, given, read_lines, read_text}
use Rattle.definitions.specs.Sheet.Relations.{Relation, Tuple, is_among, is_declared, built_in}
use Rattle.definitions.specs.Sheet.Sheets.{Element, Entry, pick, step, elements, with_one, with_elements, entry, entry_of, Label, elements_of, is_in_range, used, add_tuple, add_to_picks, picks_line, read_picks, add_to_steps, steps_line, read_steps, first_chosen, relations, relations_of}
use Rattle.definitions.specs.Problem.Truth.{Case, are_picks}
use Rattle.definitions.specs.Problem.Atoms.{Problem, problem_of, relation_at, row_of}
use Rattle.definitions.specs.Problem.Built.{chosen_numbers, picked_rows}
use Rattle.definitions.specs.Reply.Desk.{print_line, step_line, said, pick_line}
use Rattle.laws.specs.Booleans.{T_false, T_of, T_or, T_true, and_T, or_l, or_r}
use Rattle.laws.specs.Lists.{flat_flat, flat_map_lem, flat_same, get_or_mem}
use Rattle.laws.specs.Positions.{position_at}
use Rattle.laws.specs.Tuples.{among_mem, same_refl}
use Rattle.laws.specs.Repeats.{Once, distinct_once, once_middle}
use Rattle.laws.specs.Numbers.{no_relation}
use Rattle.laws.specs.Reader.{Accepted, Apart, apart_at, TupleFits}
use Rattle.laws.specs.Labels.{LabelsFit}
use Rattle.laws.specs.Spelling.{Spelled, said_spelled, spelled_plain, spelled_length, spelled_read, spelled_without}
use Rattle.meaning.specs.Grounded.{good, chosen_at}
use Rattle.meaning.specs.Pairs.{Pair, tuple_of, pairs, picked_in, tuple_back, tuples_once}
use Rattle.meaning.specs.Picks.{inside_fits, picks_inside, picks_distinct}
use Rattle.laws.specs.Decimals.{number_decimal, digits_of}
use Rattle.laws.specs.Told.{TupleLine, picks_told}
use Rattle.laws.specs.Lines.{Without, digits_without, name_without, joined, AllWithout, print_joined, split_joined, joined_without, read_line, read_end, LineByLine, line_by_line, write_lines, weaken_lines}

-- ---- a written line, and a line's entry
pub print_then : {S : Type 0} (line : S → Line → Result S) (s : S) (at : ℕ) (fs : List (List ℕ)) (rest : List ℕ) → AllWithout 10 fs
    → read_lines line s (lines_from at (split 10 (print_line fs ++ rest))) ≡ (line s (record { at = at; ended = true; content = joined fs }) >>= λ s'. read_lines line s' (lines_from (at + length (joined fs) + 1) (split 10 rest)))
print_then line s at fs rest w = ap (λ (t : List ℕ). read_lines line s (lines_from at (split 10 t))) (ap (λ (t : List ℕ). t ++ rest) (print_joined fs) ∙ append_assoc (joined fs) (10 ∷ []) rest) ∙ read_line line s at (joined fs) rest (joined_without fs w)

pub entry_joined : (at : ℕ) (f : List ℕ) (fs : List (List ℕ)) (e : Entry) → AllWithout 9 (f ∷ fs) → entry (f ∷ fs) ≡ some e → entry_of (record { at = at; ended = true; content = joined (f ∷ fs) }) ≡ accepted e
unfolding entry_of fields given
entry_joined at f fs e w q = rw (split_joined f fs w, q) refl

pub decimal_without : (sep : ℕ) → sep < 48 → (n : ℕ) → Without sep (decimal n)
unfolding decimal
decimal_without sep h n = digits_without sep h (decimal_in 20 n) (T_of (digits_of 20 n))

-- the record words have neither of the two bytes
words_without : (Without 9 (bytes "step") × Without 10 (bytes "step")) × (Without 9 (bytes "pick") × Without 10 (bytes "pick"))
unfolding all
words_without = ((tt, tt), (tt, tt))

-- ---- steps
step_fields : (k sep : ℕ) → sep < 48 → Without sep (bytes "step") → AllWithout sep (bytes "step" ∷ decimal k ∷ [])
unfolding AllWithout
step_fields k sep h w = (w, (decimal_without sep h k, tt))

step_entry : (k : ℕ) → k < 10 ^ 7 → entry (bytes "step" ∷ decimal k ∷ []) ≡ some (step k)
unfolding entry same with_one option
step_entry k h = rw (number_decimal k h) refl

step_line_lem : (acc : List ℕ) (at k : ℕ) → k < 10 ^ 7 → steps_line acc (record { at = at; ended = true; content = joined (bytes "step" ∷ decimal k ∷ []) }) ≡ accepted (acc ++ (k ∷ []))
unfolding steps_line add_to_steps ◌>>=◌
step_line_lem acc at k h = rw (entry_joined at (bytes "step") (decimal k ∷ []) (step k) (step_fields k 9 (omega arith) words_without.0.0) (step_entry k h)) refl

steps_read : (ks acc : List ℕ) (at : ℕ) → ((k : ℕ) → Memᴰ k ks → k < 10 ^ 7) → read_lines steps_line acc (lines_from at (split 10 (flat_map step_line ks))) ≡ accepted (acc ++ ks)
unfolding flat_map step_line ◌>>=◌
steps_read [] acc at h = read_end steps_line acc at ∙ ap accepted (sym (append-nil acc))
steps_read (k ∷ ks) acc at h =
    print_then steps_line acc at (bytes "step" ∷ decimal k ∷ []) (flat_map step_line ks) (step_fields k 10 (omega arith) words_without.0.1)
    ∙ ap (λ (r : Result (List ℕ)). r >>= λ s'. read_lines steps_line s' (lines_from (at + length (joined (bytes "step" ∷ decimal k ∷ [])) + 1) (split 10 (flat_map step_line ks)))) (step_line_lem acc at k (h k (Memᴰ.head refl)))
    ∙ steps_read ks (acc ++ (k ∷ [])) (at + length (joined (bytes "step" ∷ decimal k ∷ [])) + 1) (λ j m. h j (Memᴰ.tail m))
    ∙ ap accepted (append_assoc acc (k ∷ []) ks)

pub within : {S : Type 0} (line : S → Line → Result S) (s : S) (text : List ℕ) → length text ≤ text_limit → read_text line s text ≡ read_lines line s (lines_from zero (split 10 text))
unfolding read_text refuse_if ◌>>=◌ lines
within line s text h = let e : ltb text_limit (length text) ≡ false = le-ltb text_limit (length text) h in rw e refl

-- a sheet of steps
pub steps_back : (ks : List ℕ) → ((k : ℕ) → Memᴰ k ks → k < 10 ^ 7) → length (flat_map step_line ks) ≤ text_limit → read_steps (flat_map step_line ks) ≡ accepted ks
unfolding read_steps
steps_back ks h l = within steps_line [] (flat_map step_line ks) l ∙ steps_read ks [] zero h

-- ---- picks
pick_entry : (name : List ℕ) (gs : List (List ℕ)) (es : List Element) → elements gs ≡ some es → 1 ≤ length gs → length gs ≤ 3 → entry (bytes "pick" ∷ name ∷ gs) ≡ some (pick name es)
unfolding entry same with_elements option is_between
pick_entry name gs es e a b = rw (le-leb 1 (length gs) a, le-leb (length gs) 3 b, e) refl

-- names that are apart: a later name is not that of an earlier relation
pub apart_left : (ks ls : List Relation) → Apart (ks ++ ls) → Apart ks
unfolding Apart is_declared any
apart_left [] ls a = tt
apart_left (k ∷ ks) ls a = (not_T (is_declared ks k.name) (λ t. T_not (is_declared (ks ++ ls) k.name) a.0 (more ks t)), apart_left ks ls a.1)
  where
    more : (ks : List Relation) → T (is_declared ks k.name) → T (is_declared (ks ++ ls) k.name)
    more [] t = absurd t
    more (x ∷ ks) t = ⊎_elim (λ q. or_l (same x.name k.name) _ q) (λ q. or_r (same x.name k.name) _ (more ks q)) (T_or (same x.name k.name) _ t)

pub apart_right : (ks ls : List Relation) → Apart (ks ++ ls) → Apart ls
unfolding Apart
apart_right [] ls a = a
apart_right (k ∷ ks) ls a = apart_right ks ls a.1

pub used_at : (ks : List Relation) (first i : ℕ) → Apart ks → i < length ks → used ks first (get_or ks i no_relation).name (get_or ks i no_relation).arity ≡ some (first + i)
unfolding used option
used_at ks first i a l = rw (position_at (λ (r : Relation). same r.name (get_or ks i no_relation).name && eqb r.arity (get_or ks i no_relation).arity) ks no_relation i l
    (T_true (same (get_or ks i no_relation).name (get_or ks i no_relation).name && eqb (get_or ks i no_relation).arity (get_or ks i no_relation).arity)
    (and_T (same (get_or ks i no_relation).name (get_or ks i no_relation).name) _ (same_refl (get_or ks i no_relation).name)
    (eqb_refl (get_or ks i no_relation).arity)))
    (λ j h. ap (λ (b : Bool). b && eqb (get_or ks j no_relation).arity (get_or ks i no_relation).arity) (apart_at ks j i a h l))) refl

pub tuple_added : (rs : List Relation) (first n : ℕ) (labels : List Label) (acc : List Tuple) (at : ℕ) (name : List ℕ) (es : List Element) (t : Tuple)
    → used rs first name (length es) ≡ some t.relation → T (all (is_in_range n) es) → elements_of labels es ≡ some t.places → is_among t acc ≡ false → add_tuple rs first n labels acc at name es ≡ accepted (acc ++ (t ∷ []))
unfolding add_tuple given refuse_if ◌>>=◌
tuple_added rs first n labels acc at name es t u b m e = let q : all (is_in_range n) es ≡ true = T_true (all (is_in_range n) es) b in rw (u, q, m, e) refl

pick_read : (rs : List Relation) (first n : ℕ) (labels : List Label) (acc m : List Tuple) (at : ℕ) (name : List ℕ) (gs : List (List ℕ)) (es : List Element) (fs : List (List ℕ))
    → fs ≡ bytes "pick" ∷ name ∷ gs → AllWithout 9 fs → entry (bytes "pick" ∷ name ∷ gs) ≡ some (pick name es) → add_tuple rs first n labels acc at name es ≡ accepted m
    → picks_line rs first n labels acc (record { at = at; ended = true; content = joined fs }) ≡ accepted m
unfolding picks_line add_to_picks ◌>>=◌
pick_read rs first n labels acc m at name gs es fs e w q r =
    subst (λ (x : List (List ℕ)). AllWithout 9 x → picks_line rs first n labels acc (record { at = at; ended = true; content = joined x }) ≡ accepted m) (sym e)
    (λ v. rw (entry_joined at (bytes "pick") (name ∷ gs) (pick name es) v q) r) w

module _ (c : Case) (A : Accepted c) (labels : List Label) (K : LabelsFit c.site.size labels) where
  abbrev p : Problem
  p = problem_of c

  abbrev chosen : List Relation
  chosen = c.question.chosen

  abbrev first : ℕ
  first = first_chosen c.question

  abbrev reads : List Tuple → Line → Result (List Tuple)
  reads = picks_line c.question.chosen (first_chosen c.question) c.site.size labels

  abbrev pub Fits : Tuple → Type 0
  Fits t = TupleFits c.question.chosen (first_chosen c.question) c.site.size t

  chosen_apart : Apart chosen
  unfolding relations_of relations
  chosen_apart = apart_left chosen (listed c.question.every) (apart_right c.question.rels (chosen ++ listed c.question.every) (apart_right built_in (c.question.rels ++ (chosen ++ listed c.question.every)) A.question_fits.apart))

  -- a tuple's line: `pick`, the name of its relation, and fields that spell its places
  abbrev pub PickLine : Tuple → List (List ℕ) → Type 0
  PickLine t fs = TupleLine labels (bytes "pick") (λ u. (relation_at (problem_of c) u.relation).name) t fs

  its_relation : (t : Tuple) (f : Fits t) → relation_at p t.relation ≡ get_or chosen f.index no_relation
  its_relation t f = ap (relation_at p) f.numbered ∙ chosen_at c A f.index f.inside

  pub line_fields : (sep : ℕ) → sep < 48 → Without sep (bytes "pick") → (t : Tuple) (fs : List (List ℕ)) → Fits t → PickLine t fs → AllWithout sep fs
  unfolding AllWithout
  line_fields sep h w t fs f (gs, q, s) =
      let named = A.question_fits.chosen_named (get_or chosen f.index no_relation) (get_or_mem chosen f.index no_relation f.inside) in
      subst (AllWithout sep) (sym q) (w, (name_without sep h (relation_at p t.relation).name (subst (λ (r : Relation). T (is_relation_name r.name)) (sym (its_relation t f)) named), spelled_without c.site.size labels K sep h t.places gs s))

  line_read : (acc : List Tuple) (at : ℕ) (t : Tuple) (fs : List (List ℕ)) → Fits t → PickLine t fs → is_among t acc ≡ false → reads acc (record { at = at; ended = true; content = joined fs }) ≡ accepted (acc ++ (t ∷ []))
  line_read acc at t fs f (gs, q, s) n =
      let r : Relation = get_or chosen f.index no_relation in
      let arity = (A.question_fits.chosen_fit r (get_or_mem chosen f.index no_relation f.inside)).few in
      let (es, a, m, b, l) = spelled_read c.site.size labels K t.places gs A.site_fits.few_elements f.small s in
      let long = spelled_length labels t.places gs s in
      let u : used chosen first r.name (length es) ≡ some t.relation = ap (used chosen first r.name) (l ∙ f.length_arity) ∙ used_at chosen first f.index chosen_apart f.inside ∙ ap some (sym f.numbered) in
      let e : fs ≡ bytes "pick" ∷ r.name ∷ gs = q ∙ ap (λ (x : Relation). bytes "pick" ∷ x.name ∷ gs) (its_relation t f) in
      pick_read chosen first c.site.size labels acc (acc ++ (t ∷ [])) at r.name gs es fs e (line_fields 9 (omega arith) words_without.1.0 t fs f (gs, q, s)) (pick_entry r.name gs es a (omega (arith, arity.0, f.length_arity)) (omega (arith, arity.1, f.length_arity)))
      (tuple_added chosen first c.site.size labels acc at r.name es t u b m n)

  lines_read : (F acc : List Tuple) (at : ℕ) (text : List ℕ) → ((t : Tuple) → Memᴰ t F → Fits t) → Once (acc ++ F) → LineByLine PickLine F text → read_lines reads acc (lines_from at (split 10 text)) ≡ accepted (acc ++ F)
  unfolding LineByLine ◌>>=◌
  lines_read [] acc at text v o h = ap (λ (t : List ℕ). read_lines reads acc (lines_from at (split 10 t))) h ∙ read_end reads acc at ∙ ap accepted (sym (append-nil acc))
  lines_read (t ∷ F) acc at text v o (fs, r, (rest, e, h)) =
      let f = v t (Memᴰ.head refl) in
      let n : is_among t acc ≡ false = T_false (is_among t acc) (λ q. once_middle acc F t o (among_mem t acc q)) in
      ap (λ (x : List ℕ). read_lines reads acc (lines_from at (split 10 x))) e
      ∙ print_then reads acc at fs rest (line_fields 10 (omega arith) words_without.1.1 t fs f r)
      ∙ ap (λ (x : Result (List Tuple)). x >>= λ s'. read_lines reads s' (lines_from (at + length (joined fs) + 1) (split 10 rest))) (line_read acc at t fs f r n)
      ∙ lines_read F (acc ++ (t ∷ [])) (at + length (joined fs) + 1) rest (λ u m. v u (Memᴰ.tail m)) (subst Once (sym (append_assoc acc (t ∷ []) F)) o) h
      ∙ ap accepted (append_assoc acc (t ∷ []) F)

  -- a sheet of tuples, none twice
  spelled_back : (F : List Tuple) (text : List ℕ) → ((t : Tuple) → Memᴰ t F → Fits t) → Once F → length text ≤ text_limit → LineByLine PickLine F text → read_picks chosen first c.site.size labels text ≡ accepted F
  unfolding read_picks
  spelled_back F text v o l h = within reads [] text l ∙ lines_read F [] zero text v o h

  module _ (F : List Tuple) (P : T (are_picks c F)) where
    fits_of : (t : Tuple) → Memᴰ t F → Fits t
    fits_of t m = inside_fits c A t (picks_inside c A F P t m)

    -- a sheet of picks that spells them, in their own order
    pub picks_back : (text : List ℕ) → LineByLine PickLine F text → length text ≤ text_limit → read_picks chosen first c.site.size labels text ≡ accepted F
    picks_back text h l = spelled_back F text fits_of (distinct_once F (picks_distinct c F P)) l h

    -- and whatever text is read as these picks spells them
    pub picks_text : (text : List ℕ) → read_picks chosen first c.site.size labels text ≡ accepted F → LineByLine PickLine F text × (length text ≤ text_limit)
    picks_text text e =
        let (h, l) = picks_told chosen first c.site.size labels K text F e in
        (weaken_lines _ PickLine F text (λ t fs m r. let (gs, q, s) = r in (gs, q ∙ ap (λ (x : List ℕ). bytes "pick" ∷ x ∷ gs) (same_name t (fits_of t m)), s)) h, l)
      where
        same_name : (t : Tuple) → Fits t → (get_or chosen (t.relation - first) no_relation).name ≡ (relation_at p t.relation).name
        same_name t f = let k : t.relation - first ≡ f.index = omega (arith, f.numbered) in ap (λ (j : ℕ). (get_or chosen j no_relation).name) k ∙ ap (λ (r : Relation). r.name) (sym (its_relation t f))

    -- a line as the desk program prints it
    said_line : Tuple → List (List ℕ)
    said_line t = bytes "pick" ∷ (relation_at p t.relation).name ∷ map (said labels) t.places

    said_line_lem : (t : Tuple) → Memᴰ t F → print_line (said_line t) ≡ pick_line labels p t.relation (row_of p.size t.places)
    unfolding said_line pick_line
    said_line_lem t m = ap (λ (u : Tuple). print_line (bytes "pick" ∷ (relation_at p t.relation).name ∷ map (said labels) u.places)) (sym (tuple_back p (good c A) t (picks_inside c A F P t m)))

    said_lines : flat_map (λ t. print_line (said_line t)) F ≡ flat_map (λ (t : Tuple). pick_line labels p t.relation (row_of p.size t.places)) F
    said_lines = flat_same (λ t. print_line (said_line t)) (λ (t : Tuple). pick_line labels p t.relation (row_of p.size t.places)) F said_line_lem

    -- so it prints a text that spells them
    pub picks_said : LineByLine PickLine F (flat_map (λ (t : Tuple). pick_line labels p t.relation (row_of p.size t.places)) F)
    unfolding said_line
    picks_said = subst (LineByLine PickLine F) said_lines (write_lines PickLine said_line F (λ t m. (map (said labels) t.places, refl, said_spelled labels t.places)))

    -- and where there are no labels, the only one
    pub picks_plain : labels ≡ [] → (text : List ℕ) → LineByLine PickLine F text → text ≡ flat_map (λ (t : Tuple). pick_line labels p t.relation (row_of p.size t.places)) F
    unfolding said_line
    picks_plain e text h = (line_by_line said_line (λ _. Unit {0}) F text (weaken_lines PickLine (λ t fs. (fs ≡ said_line t) × Unit {0}) F text (λ t fs m r. (only t fs r, tt)) h)).0 ∙ said_lines
      where
        only : (t : Tuple) (fs : List (List ℕ)) → PickLine t fs → fs ≡ said_line t
        only t fs (gs, q, s) = q ∙ ap (λ (x : List (List ℕ)). bytes "pick" ∷ (relation_at p t.relation).name ∷ x) (subst (λ (ls : List Label). Spelled ls t.places gs → gs ≡ map (said ls) t.places) (sym e) (spelled_plain t.places gs) s)

    -- as the desk program prints them, in the order of the atoms
    abbrev in_order : List Tuple
    in_order = map (tuple_of p) (pairs p F)

    pub printed_back : length (flat_map (λ r. flat_map (pick_line labels p r) (picked_rows p F r)) (chosen_numbers p)) ≤ text_limit
        → read_picks chosen first c.site.size labels (flat_map (λ r. flat_map (pick_line labels p r) (picked_rows p F r)) (chosen_numbers p)) ≡ accepted (map (tuple_of p) (pairs p F))
    unfolding pairs pick_line said_line
    printed_back h = spelled_back in_order _ (λ t m. fits_of t (picked_in p F t m)) (tuples_once p (good c A) F) h (subst (LineByLine PickLine in_order) e (write_lines PickLine said_line in_order (λ t m. (map (said labels) t.places, refl, said_spelled labels t.places))))
      where
        e : flat_map (λ t. print_line (said_line t)) in_order ≡ flat_map (λ r. flat_map (pick_line labels p r) (picked_rows p F r)) (chosen_numbers p)
        e =
            flat_map_lem (λ t. print_line (said_line t)) (tuple_of p) (pairs p F)
            ∙ flat_flat (λ (q : Pair). pick_line labels p q.0 q.1) (λ r. map (λ row. (r, row)) (picked_rows p F r)) (chosen_numbers p)
            ∙ ap (λ (f : ℕ → List ℕ). flat_map f (chosen_numbers p)) (fun_ext (λ r. flat_map_lem (λ (q : Pair). pick_line labels p q.0 q.1) (λ row. (r, row)) (picked_rows p F r)))
