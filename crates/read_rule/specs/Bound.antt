-- A quantifier's variables, as they were read and as the scope takes them; the whole field. Assumes nothing.
use Prim.Native.Nat.{ℕ, zero, suc, ◌+◌, ◌-◌, ◌*◌, ◌≤◌, ◌<◌}
use Rattle.std.proofs.Common.{sub-one, arith, subst, ◌∙◌, length-drop, take-append-drop, drop-drop, leb-true, leb-false, lt-ltb, le-ltb}
use Rattle.std.specs.Prelude.{◌≡◌, Bool, not, ◌&&◌, ◌||◌, eqb, leb, ltb, if◌then◌else◌}
use Rattle.std.proofs.Math.Path.{refl, sym, ap}
use Rattle.std.proofs.Math.Option.{Option, none, some}
use Rattle.std.proofs.Math.Bool.{true, false}
use mathlib.Core.List.{List, [], ◌∷◌, ◌++◌, append_assoc, append-nil}
use Rattle.std.proofs.Math.ListN.{length, drop, length-append}
use Rattle.std.proofs.Math.Seq.{slice}
use Rattle.definitions.specs.Lists.{option}
use Rattle.definitions.specs.Sheet.Text.{is_relation_name, is_variable, is_small, is_between, is_digit}
use Rattle.definitions.specs.Sheet.Relations.{Relation}
use Rattle.definitions.specs.Sheet.Formula.{Quantified, variables_of, Formula, Quant, quant, AllQuantified, is_quantified, no_words, a_word, write_each, write_typed, write_more, write, is_scoped, is_known, is_typed, nesting, forms, all_forms, totals}
use Rattle.definitions.specs.Sheet.Parsing.{bad, ok, begins, span, read_typed, read_more, read, read_formula}
use Rattle.laws.specs.Writing.{and_l, and_r, sound, IsWord, var_is, name_is, span_in, span_append, span_le, TypedStops, typed_close, more_stop, inside_first, begins_is, sound_typed, sound_more, complete, accepted_texts}
use Rattle.read_rule.specs.Seen.{names, spans, past_type, listed, Grows, facts, typed_facts, more_facts, both_facts, quant_facts, verdict_of, rule_number, join_of, seen}
use Rattle.read_rule.specs.Steps.{Hit, miss, front_rest, slice_front, drop_take, room}
use Rattle.read_rule.specs.Said.{more_facts_lem, quant_facts_lem, length_variables}
use Rattle.read_rule.specs.Spans.{length_names, listed_more, listed_none, grow_more}
use Rattle.read_rule.specs.declared.Scope.{Scope}
use Rattle.read_rule.specs.declared.Grown.{Grown}
use Rattle.read_rule.specs.declared.Facts.{Facts}
use Rattle.std.specs.Prelude.{None}

pub few : (s : List ℕ) (sc : Scope) → sc.n ≤ 4 → length (names s sc) ≤ 4
few s sc h = rw (length_names s sc) h

pub ends_in : (s : List ℕ) (at : ℕ) → at < length s → (at + 1) + span true (drop (at + 1) s) ≤ length s
ends_in s at h = from_this (span_le true (drop (at + 1) s)) (length-drop (at + 1) s)
  where
    from_this : span true (drop (at + 1) s) ≤ length (drop (at + 1) s) → length (drop (at + 1) s) ≡ length s - (at + 1) → (at + 1) + span true (drop (at + 1) s) ≤ length s
    from_this a b = omega arith

-- ---- types are passed over
pub past_none : (s : List ℕ) (e : ℕ) → begins (58 ∷ []) (drop e s) ≡ false → past_type s e ≡ e
unfolding past_type
past_none s e h = rw (h, past_type)

pub past_some : (s : List ℕ) (e : ℕ) → begins (58 ∷ []) (drop e s) ≡ true → past_type s e ≡ (e + 1) + span false (drop (e + 1) s)
unfolding past_type
past_some s e h = rw (h, past_type)

pub past_in : (s : List ℕ) (e : ℕ) → e ≤ length s → past_type s e ≤ length s
past_in s e h = by_test (begins (58 ∷ []) (drop e s)) refl
  where
    by_test : (b : Bool) → begins (58 ∷ []) (drop e s) ≡ b → past_type s e ≤ length s
    by_test true q = omega (arith, past_some s e q, room (58 ∷ []) s e h q, span_le false (drop (e + 1) s), length-drop (e + 1) s)
    by_test false q = omega (arith, past_none s e q)

pub grow_step : (s : List ℕ) (at k e p : ℕ) (g h r : Grown) → (k ≡ 0 → ⊥) → at < length s → e ≡ (at + 1) + span true (drop (at + 1) s) → p ≡ past_type s e → Grows s g (slice at e s ∷ []) h → Grows s h (listed s (p + 1) (k - 1)) r → Grows s g (listed s at k) r
grow_step s at k e p g h r n l q w one two =
    let u : listed s at k ≡ slice at e s ∷ listed s (p + 1) (k - 1) =
    listed_more s at k n l ∙ ap (λ (x : ℕ). slice at x s ∷ listed s (past_type s x + 1) (k - 1)) (sym q) ∙ ap (λ (x : ℕ). slice at e s ∷ listed s (x + 1) (k - 1)) (sym w) in
    subst (λ (vs : List (List ℕ)). Grows s g vs r) (sym u) (grow_more s g h r (slice at e s) (listed s (p + 1) (k - 1)) one two)

-- ---- what was read is what is listed
pub word_span : (b : Bool) (w : List ℕ) → IsWord b w → span b w ≡ length w
word_span b w h = subst (λ (x : List ℕ). span b x ≡ length x) (sym h.is) (span_in b h.head h.tail (inside_first b h.head h.starts) ∙ ap suc h.goes)

front_in : (s v r : List ℕ) (at : ℕ) → drop at s ≡ v ++ r → 1 ≤ length v → (at < length s) × (at + length v ≤ length s)
front_in s v r at e h = from_this (sym (length-drop at s) ∙ ap length e ∙ length-append v r)
  where
    from_this : length s - at ≡ length v + length r → (at < length s) × (at + length v ≤ length s)
    from_this q = (omega arith, omega arith)

-- a variable ends where `listed` says
pub var_ends : (s v r : List ℕ) (at : ℕ) → is_variable v ≡ true → drop at s ≡ v ++ r → span true r ≡ 0 → ((at + 1) + span true (drop (at + 1) s) ≡ at + length v) × (at < length s) × (at + length v ≤ length s)
var_ends s v r at h e z =
    let i = var_is v h in
    let d : drop (at + 1) s ≡ i.letters ++ r = sym (drop-drop 1 at s) ∙ ap (λ (l : List ℕ). drop 1 l) (e ∙ ap (λ (x : List ℕ). x ++ r) i.is) in
    let n : span true (drop (at + 1) s) ≡ length i.letters = ap (λ (l : List ℕ). span true l) d ∙ span_append true i.letters r (word_span true i.letters i.word) z in
    let m : length v ≡ suc (length i.letters) = ap length i.is in
    let f = front_in s v r at e (omega arith) in
    (omega arith, f.0, f.1)

-- a quantified variable in a text: where it ends, and where its type does
pub record Ends (s : List ℕ) (at : ℕ) (q : Quantified) : Type 0 where
  pub variable : (at + 1) + span true (drop (at + 1) s) ≡ at + length q.variable
  pub name : slice at (at + length q.variable) s ≡ q.variable
  pub past : past_type s (at + length q.variable) ≡ at + length (write_typed q)
  pub low : at < length s
  pub high : at + length (write_typed q) ≤ length s

module _ (s r v : List ℕ) (at : ℕ) (w : is_variable v ≡ true) (z : TypedStops r) where
  ends_none : drop at s ≡ v ++ r → Ends s at (record { variable = v; type = none })
  unfolding write_typed option
  ends_none e =
      let q = var_ends s v r at w e z.variable in
      let d : drop (at + length v) s ≡ r = front_rest s v r at e in
      let n : length (v ++ []) ≡ length v = ap length (append-nil v) in
      record {
        variable = q.0;
        name = slice_front s v at (at + length v) q.2 (e ∙ ap (λ (x : List ℕ). v ++ x) (sym d));
        past = past_none s (at + length v) (ap (λ (l : List ℕ). begins (58 ∷ []) l) d ∙ z.colon) ∙ ap (λ (k : ℕ). at + k) (sym n);
        low = q.1;
        high = omega (arith, q.2, n);
      }

  module _ (t : List ℕ) (h : is_relation_name t ≡ true) where
    ends_some : drop at s ≡ v ++ (58 ∷ (t ++ r)) → Ends s at (record { variable = v; type = some t })
    unfolding write_typed option span begins is_small is_between is_digit
    ends_some e =
        let q = var_ends s v (58 ∷ (t ++ r)) at w e refl in
        let d : drop (at + length v) s ≡ 58 ∷ (t ++ r) = front_rest s v (58 ∷ (t ++ r)) at e in
        let c : begins (58 ∷ []) (drop (at + length v) s) ≡ true = ap (λ (l : List ℕ). begins (58 ∷ []) l) d in
        let f : drop ((at + length v) + 1) s ≡ t ++ r = sym (drop-drop 1 (at + length v) s) ∙ ap (λ (l : List ℕ). drop 1 l) d in
        let n : span false (drop ((at + length v) + 1) s) ≡ length t = ap (λ (l : List ℕ). span false l) f ∙ span_append false t r (word_span false t (name_is t h)) z.type in
        let m : length (v ++ (58 ∷ t)) ≡ length v + suc (length t) = length-append v (58 ∷ t) in
        let g = front_in s (v ++ (58 ∷ t)) r at (e ∙ sym (append_assoc v (58 ∷ t) r)) (omega arith) in
        record {
          variable = q.0;
          name = slice_front s v at (at + length v) q.2 (e ∙ ap (λ (x : List ℕ). v ++ x) (sym d));
          past = omega (arith, past_some s (at + length v) c, n, m);
          low = q.1;
          high = g.1;
        }

pub ends_at : (s r : List ℕ) (at : ℕ) (q : Quantified) → is_quantified q ≡ true → drop at s ≡ write_typed q ++ r → TypedStops r → Ends s at q
unfolding is_quantified write_typed option
ends_at s r at q w e z = by_list q.variable q.type w e
  where
    by_list : (v : List ℕ) (o : Option (List ℕ)) → (is_variable v && option o true is_relation_name) ≡ true → drop at s ≡ (v ++ option o [] (λ t. 58 ∷ t)) ++ r → Ends s at (record { variable = v; type = o })
    by_list v none a b = ends_none s r v at (and_l (is_variable v) true a) z (b ∙ append_assoc v [] r)
    by_list v (some t) a b = ends_some s r v at (and_l (is_variable v) (is_relation_name t) a) z t (and_r (is_variable v) (is_relation_name t) a) (b ∙ append_assoc v (58 ∷ t) r)

-- the first that is listed, and those after it
listed_as : (s : List ℕ) (at k : ℕ) (q : Quantified) → (k ≡ 0 → ⊥) → Ends s at q → listed s at k ≡ q.variable ∷ listed s ((at + length (write_typed q)) + 1) (k - 1)
listed_as s at k q n e = listed_more s at k n e.low ∙ rw (e.variable, e.name, e.past)

listed_written : (s r : List ℕ) {qs : List Quantified} → AllQuantified qs → (q : Quantified) (at : ℕ) → is_quantified q ≡ true → drop at s ≡ write_typed q ++ (write_more qs ++ r) → TypedStops r → listed s at (suc (length qs)) ≡ variables_of (q ∷ qs)
unfolding write_each variables_of
listed_written s r no_words q at h e z =
    listed_as s at 1 q (λ x. omega arith) (ends_at s r at q h e z) ∙ ap (λ (l : List (List ℕ)). q.variable ∷ l) (listed_none s ((at + length (write_typed q)) + 1) (1 - 1) (omega arith))
listed_written s r (a_word {v = u} {vs = us} w ws) q at h e z =
    let more : drop at s ≡ write_typed q ++ (32 ∷ (write_typed u ++ (write_more us ++ r))) = e ∙ ap (λ (x : List ℕ). write_typed q ++ (32 ∷ x)) (append_assoc (write_typed u) (write_more us) r) in
    let next : drop ((at + length (write_typed q)) + 1) s ≡ write_typed u ++ (write_more us ++ r) =
    sym (drop-drop 1 (at + length (write_typed q)) s) ∙ ap (λ (l : List ℕ). drop 1 l) (front_rest s (write_typed q) (32 ∷ (write_typed u ++ (write_more us ++ r))) at more) in
    listed_as s at (suc (suc (length us))) q (λ x. omega arith) (ends_at s (write_more (u ∷ us) ++ r) at q h e (more_stop (u ∷ us) r z))
    ∙ ap (λ (l : List (List ℕ)). q.variable ∷ l) (ap (λ (k : ℕ). listed s ((at + length (write_typed q)) + 1) k) (sub-one (suc (suc (length us)))) ∙ listed_written s r ws u ((at + length (write_typed q)) + 1) w next z)

after_list : (l : List ℕ) → begins (41 ∷ 32 ∷ []) l ≡ true → TypedStops l
after_list l e = subst (λ (x : List ℕ). TypedStops x) (sym (begins_is (41 ∷ 32 ∷ []) l e)) (typed_close _)

pub listed_read : (s : List ℕ) (at a b : ℕ) (q : Quantified) (qs : List Quantified) (n : ℕ) → read_typed (drop at s) ≡ ok q (drop a s) → read_more n (drop a s) ≡ ok qs (drop b s) → begins (41 ∷ 32 ∷ []) (drop b s) ≡ true → listed s at (suc (length qs)) ≡ variables_of (q ∷ qs)
listed_read s at a b q qs n h e w =
    let x = sound_typed (drop at s) q (drop a s) h in
    let y = sound_more n (drop a s) qs (drop b s) e in
    listed_written s (drop b s) y.words q at x.1 (x.0 ∙ ap (λ (l : List ℕ). write_typed q ++ l) y.written) (after_list (drop b s) w)

-- what is said of a list, and of a quantifier
pub list_facts : (types : List (List ℕ)) (q : Quantified) (qs : List Quantified) (one others l : Facts) → one ≡ typed_facts types q → others ≡ more_facts types qs → l ≡ both_facts one others → l ≡ more_facts types (q ∷ qs)
list_facts types q qs one others l a b c = c ∙ rw (a, b) (sym (more_facts_lem [] types [] q qs))

pub bound_facts : (rs : List Relation) (types : List (List ℕ)) (s : List ℕ) (sc : Scope) (at a b : ℕ) (q : Quantified) (qs : List Quantified) (l : Facts) (g : Grown) (k : Quant) (f : Formula) (n : Facts)
    → read_typed (drop at s) ≡ ok q (drop a s) → read_more 3 (drop a s) ≡ ok qs (drop b s) → begins (41 ∷ 32 ∷ []) (drop b s) ≡ true → l ≡ more_facts types (q ∷ qs)
    → Grows s (record { scope = sc; fits = true; fresh = true }) (listed s at l.forms) g → n ≡ facts rs types (names s g.scope) f
    → quant_facts l g.fits g.fresh n ≡ facts rs types (names s sc) (quant k (q ∷ qs) f)
bound_facts rs types s sc at a b q qs l g k f n x y e c gr h =
    let ls : listed s at l.forms ≡ variables_of (q ∷ qs) = ap (λ (m : Facts). listed s at m.forms) c ∙ listed_read s at a b q qs 3 x y e in
    fin (subst (λ (us : List (List ℕ)). Grows s (record { scope = sc; fits = true; fresh = true }) us g) ls gr)
  where
    fin : Grows s (record { scope = sc; fits = true; fresh = true }) (variables_of (q ∷ qs)) g → quant_facts l g.fits g.fresh n ≡ facts rs types (names s sc) (quant k (q ∷ qs) f)
    fin gs = rw (c, h) (sym (quant_facts_lem rs types (names s sc) (q ∷ qs) k f g.fits g.fresh (names s g.scope) (gs.fit ∙ ap (λ (m : ℕ). leb (sc.n + m) 4) (length_variables (q ∷ qs)) ∙ ap (λ (m : ℕ). leb (m + suc (length qs)) 4) (sym (length_names s sc))) gs.new gs.named))

-- ---- the whole field
pub slice_rest : (s : List ℕ) (at e : ℕ) → at ≤ e → e ≤ length s → drop at s ≡ slice at e s ++ drop e s
slice_rest s at e h k =
    sym (take-append-drop (e - at) (drop at s))
    ∙ ap (λ (l : List ℕ). l ++ drop (e - at) (drop at s)) (sym (drop_take at e s))
    ∙ ap (λ (l : List ℕ). slice at e s ++ l) (drop-drop (e - at) at s ∙ ap (λ (m : ℕ). drop m s) (by_number at e h))
  where
    by_number : (a b : ℕ) → a ≤ b → a + (b - a) ≡ b
    by_number a b q = omega arith

module _ (s : List ℕ) (at e : ℕ) (h : at ≤ e) (k : e ≤ length s) where
  -- a field that is a formula is one in the text
  field_read : (f : Formula) → read_formula (slice at e s) ≡ some f → read 128 (drop at s) ≡ ok f (drop e s)
  field_read f q =
      let w = (accepted_texts (slice at e s) f).0 q in
      ap (λ (l : List ℕ). read 128 l) (slice_rest s at e h k ∙ ap (λ (l : List ℕ). l ++ drop e s) w.1) ∙ complete w.0 (drop e s)

  pub field_bad : read 128 (drop at s) ≡ bad → read_formula (slice at e s) ≡ none
  field_bad q = by_option (read_formula (slice at e s)) refl
    where
      by_option : (x : Option Formula) → read_formula (slice at e s) ≡ x → x ≡ none
      by_option none r = refl
      by_option (some f) r = let c : bad ≡ ok f (drop e s) = sym q ∙ field_read f r in let z : ◌≡◌ {A = ℕ} 0 1 = cc in absurd (omega arith)

  pub field_other : (g : Formula) (next : ℕ) → read 128 (drop at s) ≡ ok g (drop next s) → next ≤ length s → (next ≡ e → ⊥) → read_formula (slice at e s) ≡ none
  field_other g next q l ne = by_option (read_formula (slice at e s)) refl
    where
      same_end : (f : Formula) → ok g (drop next s) ≡ ok f (drop e s) → next ≡ e
      same_end f c = let d : drop next s ≡ drop e s = cc in omega (arith, sym (length-drop next s) ∙ ap length d ∙ length-drop e s)

      by_option : (x : Option Formula) → read_formula (slice at e s) ≡ x → x ≡ none
      by_option none r = refl
      by_option (some f) r = absurd (ne (same_end f (sym q ∙ field_read f r)))

  pub field_is : (g : Formula) → read 128 (drop at s) ≡ ok g (drop e s) → read_formula (slice at e s) ≡ some g
  field_is g q =
      let w = sound 128 (drop at s) g (drop e s) q in
      (accepted_texts (slice at e s) g).1 (w.good, slice_front s (write g) at e k w.written)

-- the number that the definitions give
pub number_none : (rs : List Relation) (types : List (List ℕ)) (ds : List Relation) (t : List ℕ) → read_formula t ≡ none → 5 ≡ rule_number rs types ds t
unfolding rule_number option
number_none rs types ds t e = rw e

nest_as : (n : ℕ) → not (leb (0 + n) 4) ≡ ltb 4 n
nest_as n = by_test (leb (0 + n) 4) refl
  where
    by_test : (b : Bool) → leb (0 + n) 4 ≡ b → not b ≡ ltb 4 n
    by_test true e = sym (le-ltb 4 n (omega (arith, leb-true (0 + n) 4 e)))
    by_test false e = sym (lt-ltb 4 n (omega (arith, leb-false (0 + n) 4 e)))

pub number_some : (rs : List Relation) (types : List (List ℕ)) (ds : List Relation) (t : List ℕ) (f : Formula) (u : ℕ) → read_formula t ≡ some f → u ≡ totals ds → verdict_of (facts rs types [] f) u ≡ rule_number rs types ds t
unfolding rule_number option verdict_of facts all_forms join_of
number_some rs types ds t f u e q = rw (e, q) (by_test (ltb 64 (forms f + 3 * totals ds + (if eqb (totals ds) zero then zero else 1))) (is_known rs f) (is_scoped [] f) (is_typed types f) (leb (0 + nesting f) 4) refl)
  where
    by_test : (a b c y d : Bool) → leb (0 + nesting f) 4 ≡ d
        → ◌≡◌ {A = ℕ} (if a || not d then 6 else if not b then 7 else if not (d && c) then 8 else if not y then 19 else 0) (if a || ltb 4 (nesting f) then 6 else if not b then 7 else if not c then 8 else if not y then 19 else 0)
    by_test a b c y true r = ap (λ (x : Bool). if a || x then 6 else if not b then 7 else if not c then 8 else if not y then 19 else 0) (ap not (sym r) ∙ nest_as (nesting f))
    by_test a b c y false r = rw (← (nest_as (nesting f)), r) (or a)
      where
        or : (a : Bool) → ◌≡◌ {A = ℕ} (if a || true then 6 else if not b then 7 else 8) (if a || true then 6 else if not b then 7 else if not c then 8 else if not y then 19 else 0)
        or true = refl
        or false = refl

-- ---- `rule_verdict`
pub names_none : (s F T : List ℕ) → names s (record { from = F; to = T; n = 0 }) ≡ []
unfolding names spans
names_none s F T = refl

module _ (rs : List Relation) (types : List (List ℕ)) (ds : List Relation) (vs : List (List ℕ)) (s : List ℕ) (at e : ℕ) (h : at ≤ e) (k : e ≤ length s) where
  pub verdict_bad : None ≡ seen (facts rs types vs) (length s) (read 128 (drop at s)) → 5 ≡ rule_number rs types ds (slice at e s)
  verdict_bad q = number_none rs types ds (slice at e s) (field_bad s at e h k (miss (facts rs types vs) (length s) (read 128 (drop at s)) q))

  module _ (next : ℕ) (n : Facts) (f : Hit (facts rs types vs) s at (read 128 (drop at s)) next n) where
    pub verdict_other : (next ≡ e → ⊥) → 5 ≡ rule_number rs types ds (slice at e s)
    verdict_other q = number_none rs types ds (slice at e s) (field_other s at e h k f.got next f.is f.within q)

    pub verdict_ok : (u : ℕ) → vs ≡ [] → next ≡ e → u ≡ totals ds → verdict_of n u ≡ rule_number rs types ds (slice at e s)
    verdict_ok u z q t =
        let g : n ≡ facts rs types [] f.got = f.counted ∙ ap (λ (x : List (List ℕ)). facts rs types x f.got) z in
        let i : read 128 (drop at s) ≡ ok f.got (drop e s) = f.is ∙ ap (λ (x : ℕ). ok f.got (drop x s)) q in
        ap (λ (x : Facts). verdict_of x u) g ∙ number_some rs types ds (slice at e s) f.got u (field_is s at e h k f.got i) t
