-- The code's steps, as facts on the reader. Assumes nothing.
use Prim.Native.Nat.{ℕ, zero, suc, ◌+◌, ◌-◌, ◌≤◌, ◌<◌, suc-le-suc, zero-le}
use Rattle.std.proofs.Math.Nat.{sub-zero, zero-sub, suc-sub-suc}
use Rattle.std.proofs.Common.{add-one, arith, subst, ◌∙◌, length-append, drop_of_length-le, drop-cons, drop-drop, take_at, drop_at, get_or-drop, lit≤, le-leb}
use Rattle.std.proofs.Math.Numerals.{sub-one}
use Rattle.std.specs.Prelude.{◌≡◌, Bool, ◌&&◌, take, drop, get_or, leb}
use Rattle.std.proofs.Math.Path.{refl, sym, ap}
use Rattle.std.proofs.Math.Bool.{true, false}
use Rattle.std.proofs.Math.Option.{none, some}
use mathlib.Core.List.{List, [], ◌∷◌, ◌++◌}
use Rattle.std.proofs.Math.ListN.{length, length-drop}
use Rattle.std.proofs.Math.Seq.{slice, take-nil}
use Rattle.std.proofs.lemmas.Bool.{lt-leb}
use Rattle.definitions.specs.Lists.{all, any, same, option}
use Rattle.definitions.specs.Sheet.Text.{is_relation_name, is_variable}
use Rattle.definitions.specs.Sheet.Relations.{Relation}
use Rattle.definitions.specs.Sheet.Formula.{Quantified, is_quantified, is_type, has_type, is_bound, Join, ands, ors, Quant, somes, everys, Formula, literal}
use Rattle.definitions.specs.Sheet.Formula.{negation, implication, conjunction, disjunction, exists, forall, join, quant, Formulas, nil, cons, join_word}
use Rattle.definitions.specs.Sheet.Formula.{quant_word, not_word, imp_word, write_each, write_vars, write_typed, write_more, write_list, write, write_all}
use Rattle.definitions.specs.Sheet.Formula.{write_parts, forms, forms_all}
use Rattle.definitions.specs.Sheet.Parsing.{first, inside, longest, span, Res, bad, ok, and_then, begins, want, read_word, read_var, read_each, read_vars}
use Rattle.definitions.specs.Sheet.Parsing.{read_type, read_typed, read_more, read_parts, Head, is_not, is_implies, is_and, is_or, is_exists, is_forall, is_other}
use Rattle.definitions.specs.Sheet.Parsing.{kind_of, close, read_join, read_quant, read_lit, read_neg, read_imp, read_body, read}
use Rattle.laws.specs.Writing.{and_l, begins_is, var_is, sound_word, span_le, sound_var, sound_vars, sound_typed, sound_more, sound, sound_parts, span_in, span_out, word_yes, word_no, word_nil, each_none, parts_none, KindIs, kind_is}
use Rattle.read_rule.specs.Seen.{seen, nought, shut_of, facts, facts_all, var_facts, vars_facts, typed_facts, more_facts, both_facts, one_more, lit_facts}
use Rattle.read_rule.specs.Turns.{after}
use Rattle.read_rule.specs.Said.{neg_facts, imp_facts, join_facts, all_facts, nil_facts, lit_facts_lem, vars_facts_lem, more_facts_lem}
use Rattle.std.proofs.lemmas.Option.{some_pair_parts}
use Rattle.std.specs.Prelude.{Some, None}
use Rattle.read_rule.specs.declared.Facts.{Facts}

-- what is read is a front of the list, and is at least as long as it weighs
pub record Front {A : Type 0} (w : A → Facts) (l : List ℕ) (a : A) (r : List ℕ) : Type 0 where
  pub front : List ℕ
  pub is : l ≡ front ++ r
  pub heavy : (w a).forms ≤ length front

abbrev pub Fit : {A : Type 0} → (A → Facts) → List ℕ → Res A → Type 0
Fit {A} w l x = (a : A) (r : List ℕ) → x ≡ ok a r → Front w l a r

-- a reading that the code found
pub record Hit {A : Type 0} (w : A → Facts) (s : List ℕ) (at : ℕ) (x : Res A) (next : ℕ) (n : Facts) : Type 0 where
  pub got : A
  pub front : List ℕ
  pub is : x ≡ ok got (drop next s)
  pub counted : n ≡ w got
  pub within : next ≤ length s
  pub small : at + n.forms ≤ next
  pub took : drop at s ≡ front ++ drop next s
  pub long : next ≡ at + length front

pub miss : {A : Type 0} (w : A → Facts) (len : ℕ) (x : Res A) → None ≡ seen w len x → x ≡ bad
unfolding seen
miss w len bad e = refl
miss w len (ok a r) e = cc

pub front_rest : (s v r : List ℕ) (at : ℕ) → drop at s ≡ v ++ r → drop (at + length v) s ≡ r
front_rest s v r at e = sym (drop-drop (length v) at s) ∙ ap (λ (l : List ℕ). drop (length v) l) e ∙ drop_at v r (length v) refl

front_length : (s p r : List ℕ) (at : ℕ) → at ≤ length s → drop at s ≡ p ++ r → length s - length r ≡ at + length p
front_length s p r at h e = from_this (sym (length-drop at s) ∙ ap length e ∙ length-append p r)
  where
    from_this : length s - at ≡ length p + length r → length s - length r ≡ at + length p
    from_this q = omega arith

pub hit : {A : Type 0} (w : A → Facts) (s : List ℕ) (at : ℕ) (x : Res A) (next : ℕ) (n : Facts) → Fit w (drop at s) x → at ≤ length s → Some (next, n) ≡ seen w (length s) x → Hit w s at x next n
unfolding seen
hit w s at bad next n f h e = let z : ◌≡◌ {A = ℕ} 0 1 = cc in absurd (omega arith)
hit w s at (ok a r) next n f h e = from_this (f a r refl)
  where
    from_this : Front w (drop at s) a r → Hit w s at (ok a r) next n
    from_this fr =
        let parts = some_pair_parts next (length s - length r) n (w a) e in
        let hn : next ≡ length s - length r = parts.0 in
        let hc : n ≡ w a = parts.1 in
        let q : length s - length r ≡ at + length fr.front = front_length s fr.front r at h fr.is in
        let t : drop (at + length fr.front) s ≡ r = front_rest s fr.front r at fr.is in
        let d : next ≡ at + length fr.front = hn ∙ q in
        record {
          got =
              a;
          front = fr.front;
          took = fr.is ∙ ap (λ (m : List ℕ). fr.front ++ m) (sym (ap (λ (m : ℕ). drop m s) d ∙ t));
          long = d;
          is = ap
              (λ (m : List ℕ). ok a m) (sym (ap (λ (m : ℕ). drop m s) d ∙ t));
          counted = hc;
          within = omega (arith, hn);
          small = omega
              (arith, d, ap (λ (x : Facts). x.forms) hc, fr.heavy);
        }

pub at_end : {A : Type 0} (w : A → Facts) (s : List ℕ) (a : A) (e : ℕ) → e ≤ length s → seen w (length s) (ok a (drop e s)) ≡ Some (e, w a)
unfolding seen
at_end w s a e h = ap (λ (m : ℕ). Some (m, w a)) (from_this (length-drop e s))
  where
    from_this : length (drop e s) ≡ length s - e → length s - length (drop e s) ≡ e
    from_this q = omega arith

-- what was passed over is there
pub room : (p s : List ℕ) (at : ℕ) → at ≤ length s → begins p (drop at s) ≡ true → at + length p ≤ length s
room p s at h e = from_this (sym (length-drop at s) ∙ ap length (begins_is p (drop at s) e) ∙ length-append p (drop (length p) (drop at s)))
  where
    from_this : length s - at ≡ length p + length (drop (length p) (drop at s)) → at + length p ≤ length s
    from_this q = omega arith

-- ---- `run`
pub run_in : (b : Bool) (s : List ℕ) (i : ℕ) → i < length s → inside b (get_or s i 0) ≡ true → i + span b (drop i s) ≡ (i + 1) + span b (drop (i + 1) s)
run_in b s i h e = from_this (ap (λ (l : List ℕ). span b l) (drop-cons s i 0 h) ∙ span_in b (get_or s i 0) (drop (suc i) s) e)
  where
    from_this : span b (drop i s) ≡ suc (span b (drop (suc i) s)) → i + span b (drop i s) ≡ (i + 1) + span b (drop (i + 1) s)
    from_this q = rw (add-one i, q) (omega arith)

pub run_out : (b : Bool) (s : List ℕ) (i : ℕ) → i < length s → inside b (get_or s i 0) ≡ false → i + span b (drop i s) ≡ i
run_out b s i h e = from_this (ap (λ (l : List ℕ). span b l) (drop-cons s i 0 h) ∙ span_out b (get_or s i 0) (drop (suc i) s) e)
  where
    from_this : span b (drop i s) ≡ 0 → i + span b (drop i s) ≡ i
    from_this q = omega arith

pub run_end : (b : Bool) (s : List ℕ) (i : ℕ) → length s ≤ i → i + span b (drop i s) ≡ i
unfolding span
run_end b s i h = rw (drop_of_length-le s {i = i} h) (omega arith)

-- ---- `word`
pub at_none : (b : Bool) (s : List ℕ) (at : ℕ) → length s ≤ at → seen nought (length s) (read_word b (drop at s)) ≡ None
unfolding seen
at_none b s at h = rw (drop_of_length-le s {i = at} h, word_nil b)

pub at_first : (b : Bool) (s : List ℕ) (at : ℕ) → at < length s → first b (get_or s at 0) ≡ false → seen nought (length s) (read_word b (drop at s)) ≡ None
unfolding seen
at_first b s at h e = rw (drop-cons s at 0 h, word_no b (get_or s at 0) (drop (suc at) s) (rw e))

pub at_long : (b : Bool) (s : List ℕ) (at end most : ℕ) → at < length s → first b (get_or s at 0) ≡ true → end ≡ (at + 1) + span b (drop (at + 1) s) → most ≡ longest b → most < end - at → seen nought (length s) (read_word b (drop at s)) ≡ None
unfolding seen
at_long b s at end most h e q m l = rw (drop-cons s at 0 h, word_no b (get_or s at 0) (drop (suc at) s) (rw (e, lt-leb (suc (span b (drop (suc at) s))) (longest b) (from_this (rw (add-one at) at q)))))
  where
    from_this : end ≡ suc at + span b (drop (suc at) s) → longest b < suc (span b (drop (suc at) s))
    from_this r = omega arith

pub fit_word : (b : Bool) (l : List ℕ) → Fit nought l (read_word b l)
fit_word b l a r e = record { front = a; is = (sound_word b l a r e).written; heavy = zero-le }

word_ends : (b : Bool) (s : List ℕ) (at : ℕ) → at < length s → (first b (get_or s at 0) && leb (suc (span b (drop (suc at) s))) (longest b)) ≡ true → seen nought (length s) (read_word b (drop at s)) ≡ Some ((suc at) + span b (drop (suc at) s), nought [])
unfolding seen
word_ends b s at h e = rw (drop-cons s at 0 h, word_yes b (get_or s at 0) (drop (suc at) s) e) (ap (λ (m : ℕ). Some (m, nought [])) (by_number (span b (drop (suc at) s)) (span_le b (drop (suc at) s)) (length-drop (suc at) s) (length-drop (span b (drop (suc at) s)) (drop (suc at) s))))
  where
    by_number : (n : ℕ) → n ≤ length (drop (suc at) s) → length (drop (suc at) s) ≡ length s - suc at → length (drop n (drop (suc at) s)) ≡ length (drop (suc at) s) - n → length s - length (drop n (drop (suc at) s)) ≡ suc at + n
    by_number n q x y = omega arith

pub at_word : (b : Bool) (s : List ℕ) (at end most : ℕ) → at < length s → first b (get_or s at 0) ≡ true → end ≡ (at + 1) + span b (drop (at + 1) s) → most ≡ longest b → end - at ≤ most → seen nought (length s) (read_word b (drop at s)) ≡ Some (end, nought [])
at_word b s at end most h e q m l = word_ends b s at h (rw (e, le-leb (suc (span b (drop (suc at) s))) (longest b) (from_this (rw (add-one at) at q)))) ∙ ap (λ (n : ℕ). Some (n, nought [])) (sym (rw (add-one at) at q))
  where
    from_this : end ≡ suc at + span b (drop (suc at) s) → suc (span b (drop (suc at) s)) ≤ longest b
    from_this r = omega arith

-- ---- a span that was read
pub drop_take : (f t : ℕ) (l : List ℕ) → drop f (take t l) ≡ take (t - f) (drop f l)
drop_take zero t l = rw (sub-zero t)
drop_take (suc f) zero l = rw (zero-sub (suc f))
drop_take (suc f) (suc t) [] = sym (take-nil (suc t - suc f))
drop_take (suc f) (suc t) (x ∷ l) = drop_take f t l ∙ ap (λ (n : ℕ). take n (drop f l)) (sym (suc-sub-suc t f))

pub slice_front : (s v : List ℕ) (at e : ℕ) → e ≤ length s → drop at s ≡ v ++ drop e s → slice at e s ≡ v
slice_front s v at e h q = drop_take at e s ∙ ap (λ (l : List ℕ). take (e - at) l) q ∙ take_at v (drop e s) (e - at) (from_this (sym (length-drop at s) ∙ ap length q ∙ length-append v (drop e s)) (length-drop e s))
  where
    from_this : length s - at ≡ length v + length (drop e s) → length (drop e s) ≡ length s - e → length v ≡ e - at
    from_this a b = omega arith

var_long : (v : List ℕ) → is_variable v ≡ true → 1 ≤ length v
var_long v h = rw (var_is v h).is (suc-le-suc zero-le)

-- ---- `variable`, `var_at`
module _ (s : List ℕ) (at : ℕ) where
  pub var_word : begins (63 ∷ []) (drop at s) ≡ true → seen nought (length s) (read_word true (drop (at + 1) s)) ≡ seen nought (length s) (read_var (drop at s))
  unfolding read_var seen
  var_word e = rw (e, read_var) (ap (λ (l : List ℕ). seen nought (length s) (read_word true l)) (sym (drop-drop 1 at s)) ∙ by_res (read_word true (drop 1 (drop at s))))
    where
      by_res : (x : Res (List ℕ)) → seen nought (length s) x ≡ seen nought (length s) (and_then x (λ v r. ok (63 ∷ v) r))
      by_res bad = refl
      by_res (ok v r) = refl

  pub var_no : begins (63 ∷ []) (drop at s) ≡ false → None ≡ seen nought (length s) (read_var (drop at s))
  unfolding read_var seen
  var_no e = rw (e, read_var)

  module _ (sc : List (List ℕ)) where
    pub var_bad : None ≡ seen nought (length s) (read_var (drop at s)) → None ≡ seen (var_facts sc) (length s) (read_var (drop at s))
    unfolding seen
    var_bad b = rw (miss nought (length s) (read_var (drop at s)) b)

    pub var_ok : (e : ℕ) (n : Facts) (b : Bool) → Hit nought s at (read_var (drop at s)) e n → b ≡ is_bound sc (slice at e s)
        → Some (e, record { forms = 1; fits = true; known = true; scoped = b; typed = true }) ≡ seen (var_facts sc) (length s) (read_var (drop at s))
    var_ok e n b h q =
        let sl : slice at e s ≡ h.got = slice_front s h.got at e h.within (sound_var (drop at s) h.got (drop e s) h.is).written in
        ap (λ (x : Bool). Some (e, record { forms = 1; fits = true; known = true; scoped = x; typed = true })) (q ∙ ap (λ (x : List ℕ). is_bound sc x) sl)
        ∙ sym (at_end (var_facts sc) s h.got e h.within) ∙ ap (λ (x : Res (List ℕ)). seen (var_facts sc) (length s) x) (sym h.is)

pub fit_variable : (l : List ℕ) → Fit nought l (read_var l)
fit_variable l a r e = record { front = a; is = (sound_var l a r e).written; heavy = zero-le }

pub fit_var : (sc : List (List ℕ)) (l : List ℕ) → Fit (var_facts sc) l (read_var l)
fit_var sc l a r e = record { front = a; is = (sound_var l a r e).written; heavy = var_long a (sound_var l a r e).word }

-- ---- `type_at`, `typed_at`
type_none : (types : List (List ℕ)) (v : List ℕ) → has_type types (record { variable = v; type = none }) ≡ true
unfolding has_type option
type_none types v = refl

type_some : (types : List (List ℕ)) (v t : List ℕ) → has_type types (record { variable = v; type = some t }) ≡ any (λ u. same u t) types
unfolding has_type is_type option
type_some types v t = refl

module _ (types : List (List ℕ)) (s : List ℕ) (at : ℕ) where
  module _ (v : List ℕ) where
    pub type_no : at ≤ length s → begins (58 ∷ []) (drop at s) ≡ false
        → Some (at, record { forms = 1; fits = true; known = true; scoped = true; typed = true }) ≡ seen (typed_facts types) (length s) (read_type v (drop at s))
    unfolding read_type
    type_no h e =
        rw (e, read_type) (sym (at_end (typed_facts types) s (record { variable = v; type = none }) at h ∙ ap (λ (b : Bool). Some (at, record { forms = 1; fits = true; known = true; scoped = true; typed = b })) (type_none types v)))

    module _ (o : begins (58 ∷ []) (drop at s) ≡ true) where
      type_at : read_type v (drop at s) ≡ and_then (read_word false (drop (at + 1) s)) (λ t r. ok (record { variable = v; type = some t }) r)
      unfolding read_type
      type_at = rw (o, read_type) (ap (λ (l : List ℕ). and_then (read_word false l) (λ t r. ok (record { variable = v; type = some t }) r)) (drop-drop 1 at s))

      pub type_bad : None ≡ seen nought (length s) (read_word false (drop (at + 1) s)) → None ≡ seen (typed_facts types) (length s) (read_type v (drop at s))
      unfolding seen
      type_bad b = rw (type_at, miss nought (length s) (read_word false (drop (at + 1) s)) b)

      pub type_ok : (e : ℕ) (n : Facts) (b : Bool) → Hit nought s (at + 1) (read_word false (drop (at + 1) s)) e n → b ≡ any (λ t. same t (slice (at + 1) e s)) types
          → Some (e, record { forms = 1; fits = true; known = true; scoped = true; typed = b }) ≡ seen (typed_facts types) (length s) (read_type v (drop at s))
      type_ok e n b h q =
          let sl : slice (at + 1) e s ≡ h.got = slice_front s h.got (at + 1) e h.within (sound_word false (drop (at + 1) s) h.got (drop e s) h.is).written in
          let is : read_type v (drop at s) ≡ ok (record { variable = v; type = some h.got }) (drop e s) = rw (type_at, h.is) in
          ap (λ (x : Bool). Some (e, record { forms = 1; fits = true; known = true; scoped = true; typed = x })) (q ∙ ap (λ (x : List ℕ). any (λ t. same t x) types) sl ∙ sym (type_some types v h.got))
          ∙ sym (at_end (typed_facts types) s (record { variable = v; type = some h.got }) e h.within) ∙ ap (λ (x : Res Quantified). seen (typed_facts types) (length s) x) (sym is)

  pub typed_bad : None ≡ seen nought (length s) (read_var (drop at s)) → None ≡ seen (typed_facts types) (length s) (read_typed (drop at s))
  unfolding read_typed seen
  typed_bad b = rw (miss nought (length s) (read_var (drop at s)) b)

  pub typed_ok : (e : ℕ) (n : Facts) (h : Hit nought s at (read_var (drop at s)) e n) → seen (typed_facts types) (length s) (read_type h.got (drop e s)) ≡ seen (typed_facts types) (length s) (read_typed (drop at s))
  unfolding read_typed
  typed_ok e n h = rw h.is

typed_long : (q : Quantified) → is_quantified q ≡ true → 1 ≤ length (write_typed q)
unfolding is_quantified write_typed
typed_long q w = omega (arith, length-append q.variable (option q.type [] (λ t. 58 ∷ t)), var_long q.variable (and_l (is_variable q.variable) (option q.type true is_relation_name) w))

pub fit_typed : (types : List (List ℕ)) (l : List ℕ) → Fit (typed_facts types) l (read_typed l)
fit_typed types l a r e = record { front = write_typed a; is = (sound_typed l a r e).0; heavy = typed_long a (sound_typed l a r e).1 }

-- ---- `shut`
pub shut_yes : (s : List ℕ) (at : ℕ) (n : Facts) → begins close (drop at s) ≡ true → shut_of s at n ≡ Some (at + 1, n)
unfolding shut_of
shut_yes s at n e = rw (e, shut_of)

pub shut_no : (s : List ℕ) (at : ℕ) (n : Facts) → begins close (drop at s) ≡ false → shut_of s at n ≡ None
unfolding shut_of
shut_no s at n e = rw (e, shut_of)

-- ---- `vars`, `typed_vars`: several things, each after a space
each_heavy : {A : Type 0} (word : A → List ℕ) (xs : List A) → length xs ≤ length (write_each word xs)
unfolding write_each
each_heavy word [] = zero-le
each_heavy word (x ∷ xs) = suc-le-suc (from_this (each_heavy word xs) (length-append (word x) (write_each word xs)))
  where
    from_this : length xs ≤ length (write_each word xs) → length (word x ++ write_each word xs) ≡ length (word x) + length (write_each word xs) → length xs ≤ length (word x ++ write_each word xs)
    from_this h e = omega arith

pub fit_vars : (sc : List (List ℕ)) (n : ℕ) (l : List ℕ) → Fit (vars_facts sc) l (read_vars n l)
fit_vars sc n l a r e = record { front = write_vars a; is = (sound_vars n l a r e).written; heavy = each_heavy (λ v. v) a }

pub fit_more : (types : List (List ℕ)) (n : ℕ) (l : List ℕ) → Fit (more_facts types) l (read_more n l)
fit_more types n l a r e = record { front = write_more a; is = (sound_more n l a r e).written; heavy = each_heavy write_typed a }

-- what is said of all of them is what is said of each, taken together
pub record Together {A : Type 0} (w : A → Facts) (ws : List A → Facts) : Type 0 where
  pub none : ws [] ≡ nought []
  pub next : (x : A) (xs : List A) → ws (x ∷ xs) ≡ both_facts (w x) (ws xs)

pub vars_together : (sc : List (List ℕ)) → Together (var_facts sc) (vars_facts sc)
unfolding all
vars_together sc = record { none = refl; next = λ v vs. vars_facts_lem [] [] sc v vs }

pub more_together : (types : List (List ℕ)) → Together (typed_facts types) (more_facts types)
unfolding all
more_together types = record { none = refl; next = λ q qs. more_facts_lem [] types [] q qs }

module _ {A : Type 0} (one : List ℕ → Res A) (w : A → Facts) (ws : List A → Facts) (t : Together w ws) (s : List ℕ) (at left : ℕ) where
  pub each_stop_at : at ≤ length s → begins (32 ∷ []) (drop at s) ≡ false → Some (at, nought []) ≡ seen ws (length s) (read_each one left (drop at s))
  each_stop_at h e =
      sym (ap (λ (x : Res (List A)). seen ws (length s) x) (each_none one (λ _. []) (λ _. true) left (drop at s) e) ∙ at_end ws s [] at h ∙ ap (λ (f : Facts). Some (at, f)) t.none)

  pub each_full : left ≡ 0 → begins (32 ∷ []) (drop at s) ≡ true → None ≡ seen ws (length s) (read_each one left (drop at s))
  unfolding read_each seen
  each_full q e = rw q (rw (e, read_each))

  step : (n : ℕ) (l : List ℕ) → (n ≡ 0 → ⊥) → begins (32 ∷ []) l ≡ true → read_each one n l ≡ and_then (one (drop 1 l)) (λ v m. and_then (read_each one (n - 1) m) (λ vs r. ok (v ∷ vs) r))
  unfolding read_each
  step zero l h e = absurd (h refl)
  step (suc n) l h e = rw (e, read_each, sub-one (suc n))

  each_at : (left ≡ 0 → ⊥) → begins (32 ∷ []) (drop at s) ≡ true → read_each one left (drop at s) ≡ and_then (one (drop (at + 1) s)) (λ v m. and_then (read_each one (left - 1) m) (λ vs r. ok (v ∷ vs) r))
  each_at q e = step left (drop at s) q e ∙ ap (λ (l : List ℕ). and_then (one l) (λ v m. and_then (read_each one (left - 1) m) (λ vs r. ok (v ∷ vs) r))) (drop-drop 1 at s)

  pub each_bad : (left ≡ 0 → ⊥) → begins (32 ∷ []) (drop at s) ≡ true → None ≡ seen w (length s) (one (drop (at + 1) s)) → None ≡ seen ws (length s) (read_each one left (drop at s))
  unfolding seen
  each_bad q e b = rw (each_at q e, miss w (length s) (one (drop (at + 1) s)) b)

  module _ (next : ℕ) (z : Facts) (v : Hit w s (at + 1) (one (drop (at + 1) s)) next z) where
    pub each_turn : (left ≡ 0 → ⊥) → begins (32 ∷ []) (drop at s) ≡ true → seen ws (length s) (read_each one left (drop at s)) ≡ after z (seen ws (length s) (read_each one (left - 1) (drop next s)))
    unfolding seen after
    each_turn q e = rw (each_at q e, v.is) (by_res (read_each one (left - 1) (drop next s)))
      where
        by_res : (x : Res (List A)) → seen ws (length s) (and_then x (λ vs r. ok (v.got ∷ vs) r)) ≡ after z (seen ws (length s) x)
        by_res bad = refl
        by_res (ok vs r) = ap (λ (m : Facts). Some (length s - length r, m)) (t.next v.got vs ∙ ap (λ (m : Facts). both_facts m (ws vs)) (sym v.counted))

-- ---- a formula weighs no more than its bytes
heavy_join : (p w : List ℕ) (n : ℕ) → n ≤ length w → 1 ≤ length p → 1 + n ≤ length (p ++ w ++ 41 ∷ [])
heavy_join p w n h e = simp length-append (omega arith)

heavy_imp : (p w u : List ℕ) (n m : ℕ) → n ≤ length w → m ≤ length u → 1 ≤ length p → 1 + n + m ≤ length (p ++ w ++ 32 ∷ u ++ 41 ∷ [])
heavy_imp p w u n m h e q = simp length-append (omega arith)

heavy_quant : (p x w : List ℕ) (n m : ℕ) → n ≤ length w → m ≤ suc (length x) → m + n ≤ length (p ++ x ++ 41 ∷ 32 ∷ w ++ 41 ∷ [])
heavy_quant p x w n m h e = simp length-append (omega arith)

heavy_all : (w u : List ℕ) (n m : ℕ) → n ≤ length w → m ≤ length u → n + m ≤ length (w ++ u)
heavy_all w u n m h e = simp length-append (omega arith)

heavy_parts : (w u : List ℕ) (n m : ℕ) → n ≤ length w → m ≤ length u → n + m ≤ length (32 ∷ w ++ u)
heavy_parts w u n m h e = simp length-append (omega arith)

list_heavy : (qs : List Quantified) → length qs ≤ suc (length (write_list qs))
list_heavy [] = zero-le
list_heavy (q ∷ qs) = suc-le-suc (from_this (each_heavy write_typed qs) (length-append (write_typed q) (write_more qs)))
  where
    from_this : length qs ≤ length (write_more qs) → length (write_typed q ++ write_more qs) ≡ length (write_typed q) + length (write_more qs) → length qs ≤ length (write_typed q ++ write_more qs)
    from_this h e = omega arith

mutual
  unfolding forms write

  pub forms_le : (f : Formula) → forms f ≤ length (write f)
  forms_le (literal n vs) = suc-le-suc zero-le
  forms_le (negation f) = heavy_join not_word (write f) (forms f) (forms_le f) (lit≤ tt)
  forms_le (implication f g) = heavy_imp imp_word (write f) (write g) (forms f) (forms g) (forms_le f) (forms_le g) (lit≤ tt)
  forms_le (conjunction fs) = heavy_join (join_word ands) (write_all fs) (forms_all fs) (all_le fs) (lit≤ tt)
  forms_le (disjunction fs) = heavy_join (join_word ors) (write_all fs) (forms_all fs) (all_le fs) (lit≤ tt)
  forms_le (exists vs f) = heavy_quant (quant_word somes) (write_list vs) (write f) (forms f) (length vs) (forms_le f) (list_heavy vs)
  forms_le (forall vs f) = heavy_quant (quant_word everys) (write_list vs) (write f) (forms f) (length vs) (forms_le f) (list_heavy vs)

  all_le : (fs : Formulas) → forms_all fs ≤ length (write_all fs)
  all_le nil = zero-le
  all_le (cons f fs) = heavy_all (write f) (write_parts fs) (forms f) (forms_all fs) (forms_le f) (parts_le fs)

  pub parts_le : (fs : Formulas) → forms_all fs ≤ length (write_parts fs)
  parts_le nil = zero-le
  parts_le (cons f fs) = heavy_parts (write f) (write_parts fs) (forms f) (forms_all fs) (forms_le f) (parts_le fs)

pub fit_read : (rs : List Relation) (types sc : List (List ℕ)) (k : ℕ) (l : List ℕ) → Fit (facts rs types sc) l (read k l)
unfolding facts
fit_read rs types sc k l a r e = record { front = write a; is = (sound k l a r e).written; heavy = forms_le a }

pub fit_parts : (rs : List Relation) (types sc : List (List ℕ)) (k n : ℕ) (l : List ℕ) → Fit (facts_all rs types sc) l (read_parts (λ m. read k m) n l)
unfolding facts_all
fit_parts rs types sc k n l a r e = record { front = write_parts a; is = (sound_parts k (λ m. read k m) (λ m h q p. sound k m h q p) n l a r e).written; heavy = parts_le a }

-- ---- passing over what must come
pub want_yes : {A : Type 0} (p : List ℕ) (x : A) (s : List ℕ) (a : ℕ) → begins p (drop a s) ≡ true → want p x (drop a s) ≡ ok x (drop (a + length p) s)
unfolding want
want_yes p x s a e = rw (e, want) (ap (λ (l : List ℕ). ok x l) (drop-drop (length p) a s))

pub want_no : {A : Type 0} (p : List ℕ) (x : A) (l : List ℕ) → begins p l ≡ false → want p x l ≡ bad
unfolding want
want_no p x l e = rw (e, want)

pub seen_bad : {A : Type 0} (w : A → Facts) (n : ℕ) → seen w n bad ≡ None
unfolding seen
seen_bad w n = refl

pub want_shut : (w : Formula → Facts) (s : List ℕ) (f : Formula) (a : ℕ) (n : Facts) → a ≤ length s → n ≡ w f → shut_of s a n ≡ seen w (length s) (want close f (drop a s))
want_shut w s f a n h q = by_test (begins close (drop a s)) refl
  where
    by_test : (t : Bool) → begins close (drop a s) ≡ t → shut_of s a n ≡ seen w (length s) (want close f (drop a s))
    by_test true e = shut_yes s a n e ∙ ap (λ (m : Facts). Some (a + 1, m)) q ∙ sym (ap (λ (x : Res Formula). seen w (length s) x) (want_yes close f s a e) ∙ at_end w s f (a + 1) (room close s a h e))
    by_test false e = shut_no s a n e ∙ sym (ap (λ (x : Res Formula). seen w (length s) x) (want_no close f (drop a s) e) ∙ seen_bad w (length s))

-- ---- the forms, step by step. Each says what the code's answer is, from what the calls gave
two : {n x m y : Facts} → n ≡ x → m ≡ y → both_facts n m ≡ both_facts x y
two e h = rw (e, h)

module _ (rs : List Relation) (types sc : List (List ℕ)) (s : List ℕ) (at : ℕ) (g : List ℕ → Res Formula) where
  pub neg_bad : None ≡ seen (facts rs types sc) (length s) (g (drop at s)) → None ≡ seen (facts rs types sc) (length s) (read_neg g (drop at s))
  unfolding read_neg seen
  neg_bad b = rw (miss (facts rs types sc) (length s) (g (drop at s)) b)

  pub neg_ok : (a : ℕ) (n : Facts) → Hit (facts rs types sc) s at (g (drop at s)) a n → shut_of s a (one_more n) ≡ seen (facts rs types sc) (length s) (read_neg g (drop at s))
  unfolding read_neg
  neg_ok a n h = rw h.is (want_shut (facts rs types sc) s (negation h.got) a (one_more n) h.within (ap (λ (m : Facts). one_more m) h.counted ∙ sym (neg_facts rs types sc h.got)))

  pub imp_bad : None ≡ seen (facts rs types sc) (length s) (g (drop at s)) → None ≡ seen (facts rs types sc) (length s) (read_imp g (drop at s))
  unfolding read_imp seen
  imp_bad b = rw (miss (facts rs types sc) (length s) (g (drop at s)) b)

  module _ (a : ℕ) (n : Facts) (h : Hit (facts rs types sc) s at (g (drop at s)) a n) where
    pub imp_gap : begins (32 ∷ []) (drop a s) ≡ false → None ≡ seen (facts rs types sc) (length s) (read_imp g (drop at s))
    unfolding read_imp seen
    imp_gap e = rw (h.is, want_no (32 ∷ []) h.got (drop a s) e)

    pub imp_bad_2 : begins (32 ∷ []) (drop a s) ≡ true → None ≡ seen (facts rs types sc) (length s) (g (drop (a + 1) s)) → None ≡ seen (facts rs types sc) (length s) (read_imp g (drop at s))
    unfolding read_imp seen
    imp_bad_2 e b = rw (h.is, want_yes (32 ∷ []) h.got s a e, miss (facts rs types sc) (length s) (g (drop (a + 1) s)) b)

    pub imp_ok : begins (32 ∷ []) (drop a s) ≡ true → (b : ℕ) (m : Facts) → Hit (facts rs types sc) s (a + 1) (g (drop (a + 1) s)) b m → shut_of s b (one_more (both_facts n m)) ≡ seen (facts rs types sc) (length s) (read_imp g (drop at s))
    unfolding read_imp
    imp_ok e b m k = rw (h.is, want_yes (32 ∷ []) h.got s a e, k.is) (want_shut (facts rs types sc) s (implication h.got k.got) b (one_more (both_facts n m)) k.within (ap (λ (x : Facts). one_more x) (two h.counted k.counted) ∙ sym (imp_facts rs types sc h.got k.got)))

  module _ (j : Join) where
    pub join_bad : None ≡ seen (facts rs types sc) (length s) (g (drop at s)) → None ≡ seen (facts rs types sc) (length s) (read_join g j (drop at s))
    unfolding read_join seen
    join_bad b = rw (miss (facts rs types sc) (length s) (g (drop at s)) b)

    module _ (a : ℕ) (n : Facts) (h : Hit (facts rs types sc) s at (g (drop at s)) a n) where
      pub join_bad_2 : None ≡ seen (facts_all rs types sc) (length s) (read_parts g (length s - a) (drop a s)) → None ≡ seen (facts rs types sc) (length s) (read_join g j (drop at s))
      unfolding read_join seen
      join_bad_2 b = rw (h.is, length-drop a s, miss (facts_all rs types sc) (length s) (read_parts g (length s - a) (drop a s)) b)

      pub join_ok : (b : ℕ) (m : Facts) → Hit (facts_all rs types sc) s a (read_parts g (length s - a) (drop a s)) b m → shut_of s b (one_more (both_facts n m)) ≡ seen (facts rs types sc) (length s) (read_join g j (drop at s))
      unfolding read_join
      join_ok b m k = rw (h.is, length-drop a s, k.is) (want_shut (facts rs types sc) s (join j (cons h.got k.got)) b (one_more (both_facts n m)) k.within (ap (λ (x : Facts). one_more x) (two h.counted k.counted) ∙ sym (join_facts rs types sc j h.got k.got)))

  pub parts_step : (n : ℕ) (l : List ℕ) → (n ≡ 0 → ⊥) → begins (32 ∷ []) l ≡ true → read_parts g n l ≡ and_then (g (drop 1 l)) (λ f m. and_then (read_parts g (n - 1) m) (λ fs r. ok (cons f fs) r))
  unfolding read_parts
  parts_step zero l h e = absurd (h refl)
  parts_step (suc n) l h e = rw (e, read_parts, sub-one (suc n))

  module _ (left : ℕ) where
    pub parts_stop_at : length sc ≤ 4 → at ≤ length s → begins (32 ∷ []) (drop at s) ≡ false → Some (at, nought []) ≡ seen (facts_all rs types sc) (length s) (read_parts g left (drop at s))
    parts_stop_at le h e = sym (ap (λ (x : Res Formulas). seen (facts_all rs types sc) (length s) x) (parts_none g left (drop at s) e) ∙ at_end (facts_all rs types sc) s nil at h ∙ ap (λ (m : Facts). Some (at, m)) (nil_facts rs types sc le))

    pub parts_full : left ≡ 0 → begins (32 ∷ []) (drop at s) ≡ true → None ≡ seen (facts_all rs types sc) (length s) (read_parts g left (drop at s))
    unfolding read_parts seen
    parts_full q e = rw q (rw (e, read_parts))

    parts_at : (left ≡ 0 → ⊥) → begins (32 ∷ []) (drop at s) ≡ true → read_parts g left (drop at s) ≡ and_then (g (drop (at + 1) s)) (λ f m. and_then (read_parts g (left - 1) m) (λ fs r. ok (cons f fs) r))
    parts_at q e = parts_step left (drop at s) q e ∙ ap (λ (l : List ℕ). and_then (g l) (λ f m. and_then (read_parts g (left - 1) m) (λ fs r. ok (cons f fs) r))) (drop-drop 1 at s)

    pub parts_bad : (left ≡ 0 → ⊥) → begins (32 ∷ []) (drop at s) ≡ true → None ≡ seen (facts rs types sc) (length s) (g (drop (at + 1) s)) → None ≡ seen (facts_all rs types sc) (length s) (read_parts g left (drop at s))
    unfolding seen
    parts_bad q e b = rw (parts_at q e, miss (facts rs types sc) (length s) (g (drop (at + 1) s)) b)

    module _ (a : ℕ) (n : Facts) (h : Hit (facts rs types sc) s (at + 1) (g (drop (at + 1) s)) a n) where
      pub parts_turn : (left ≡ 0 → ⊥) → begins (32 ∷ []) (drop at s) ≡ true → seen (facts_all rs types sc) (length s) (read_parts g left (drop at s)) ≡ after n (seen (facts_all rs types sc) (length s) (read_parts g (left - 1) (drop a s)))
      unfolding seen after
      parts_turn q e = rw (parts_at q e, h.is) (by_res (read_parts g (left - 1) (drop a s)))
        where
          by_res : (x : Res Formulas) → seen (facts_all rs types sc) (length s) (and_then x (λ fs r. ok (cons h.got fs) r)) ≡ after n (seen (facts_all rs types sc) (length s) x)
          by_res bad = refl
          by_res (ok fs r) = ap (λ (m : Facts). Some (length s - length r, m)) (all_facts rs types sc h.got fs ∙ ap (λ (m : Facts). both_facts m (facts_all rs types sc fs)) (sym h.counted))

  module _ (q : Quant) where
    pub quant_bad : None ≡ seen (typed_facts types) (length s) (read_typed (drop at s)) → None ≡ seen (facts rs types sc) (length s) (read_quant g q (drop at s))
    unfolding read_quant seen
    quant_bad b = rw (miss (typed_facts types) (length s) (read_typed (drop at s)) b)

    module _ (a : ℕ) (z : Facts) (v : Hit (typed_facts types) s at (read_typed (drop at s)) a z) where
      pub quant_bad_2 : None ≡ seen (more_facts types) (length s) (read_more 3 (drop a s)) → None ≡ seen (facts rs types sc) (length s) (read_quant g q (drop at s))
      unfolding read_quant seen
      quant_bad_2 b = rw (v.is, miss (more_facts types) (length s) (read_more 3 (drop a s)) b)

      module _ (b : ℕ) (m : Facts) (vs : Hit (more_facts types) s a (read_more 3 (drop a s)) b m) where
        pub quant_gap : begins (41 ∷ 32 ∷ []) (drop b s) ≡ false → None ≡ seen (facts rs types sc) (length s) (read_quant g q (drop at s))
        unfolding read_quant seen
        quant_gap e = rw (v.is, vs.is, want_no (41 ∷ 32 ∷ []) vs.got (drop b s) e)

        quant_at : begins (41 ∷ 32 ∷ []) (drop b s) ≡ true → read_quant g q (drop at s) ≡ and_then (g (drop (b + 2) s)) (λ f r. want close (quant q (v.got ∷ vs.got) f) r)
        unfolding read_quant
        quant_at e = rw (v.is, vs.is, want_yes (41 ∷ 32 ∷ []) vs.got s b e)

        pub quant_bad_3 : (around : List (List ℕ)) → begins (41 ∷ 32 ∷ []) (drop b s) ≡ true → None ≡ seen (facts rs types around) (length s) (g (drop (b + 2) s)) → None ≡ seen (facts rs types sc) (length s) (read_quant g q (drop at s))
        unfolding seen
        quant_bad_3 around e x = rw (quant_at e, miss (facts rs types around) (length s) (g (drop (b + 2) s)) x)

        pub quant_ok : (around : List (List ℕ)) → begins (41 ∷ 32 ∷ []) (drop b s) ≡ true
            → (e : ℕ) (n : Facts) (f : Hit (facts rs types around) s (b + 2) (g (drop (b + 2) s)) e n) → (all : Facts) → all
            ≡ facts rs types sc (quant q (v.got ∷ vs.got) f.got) → shut_of s e all
            ≡ seen (facts rs types sc) (length s) (read_quant g q (drop at s))
        quant_ok around x e n f all c = rw (quant_at x, f.is) (want_shut (facts rs types sc) s (quant q (v.got ∷ vs.got) f.got) e all f.within c)

-- ---- a literal
module _ (rs : List Relation) (types sc : List (List ℕ)) (s : List ℕ) (at : ℕ) where
  pub lit_no : begins (40 ∷ []) (drop at s) ≡ false → None ≡ seen (facts rs types sc) (length s) (read_lit (drop at s))
  unfolding read_lit seen
  lit_no e = rw (e, read_lit)

  lit_at : begins (40 ∷ []) (drop at s) ≡ true → read_lit (drop at s) ≡ and_then (read_word false (drop (at + 1) s)) (λ n l1. and_then (want (32 ∷ []) n l1) (λ m l2. and_then (read_var l2) (λ v l3. and_then (read_vars (length l3) l3) (λ vs r. want close (literal m (v ∷ vs)) r))))
  unfolding read_lit
  lit_at e = rw (e, read_lit) (ap (λ (l : List ℕ). and_then (read_word false l) (λ n l1. and_then (want (32 ∷ []) n l1) (λ m l2. and_then (read_var l2) (λ v l3. and_then (read_vars (length l3) l3) (λ vs r. want close (literal m (v ∷ vs)) r))))) (drop-drop 1 at s))

  module _ (o : begins (40 ∷ []) (drop at s) ≡ true) where
    pub lit_bad : None ≡ seen nought (length s) (read_word false (drop (at + 1) s)) → None ≡ seen (facts rs types sc) (length s) (read_lit (drop at s))
    unfolding seen
    lit_bad b = rw (lit_at o, miss nought (length s) (read_word false (drop (at + 1) s)) b)

    module _ (a : ℕ) (z : Facts) (n : Hit nought s (at + 1) (read_word false (drop (at + 1) s)) a z) where
      pub lit_gap : begins (32 ∷ []) (drop a s) ≡ false → None ≡ seen (facts rs types sc) (length s) (read_lit (drop at s))
      unfolding seen
      lit_gap e = rw (lit_at o, n.is, want_no (32 ∷ []) n.got (drop a s) e)

      module _ (e : begins (32 ∷ []) (drop a s) ≡ true) where
        pub lit_bad_2 : None ≡ seen (var_facts sc) (length s) (read_var (drop (a + 1) s)) → None ≡ seen (facts rs types sc) (length s) (read_lit (drop at s))
        unfolding seen
        lit_bad_2 b = rw (lit_at o, n.is, want_yes (32 ∷ []) n.got s a e, miss (var_facts sc) (length s) (read_var (drop (a + 1) s)) b)

        module _ (b : ℕ) (y : Facts) (v : Hit (var_facts sc) s (a + 1) (read_var (drop (a + 1) s)) b y) where
          pub lit_bad_3 : None ≡ seen (vars_facts sc) (length s) (read_vars (length s - b) (drop b s)) → None ≡ seen (facts rs types sc) (length s) (read_lit (drop at s))
          unfolding seen
          lit_bad_3 x = rw (lit_at o, n.is, want_yes (32 ∷ []) n.got s a e, v.is, length-drop b s, miss (vars_facts sc) (length s) (read_vars (length s - b) (drop b s)) x)

          pub lit_ok : length sc ≤ 4 → (c : ℕ) (m : Facts) → Hit (vars_facts sc) s b (read_vars (length s - b) (drop b s)) c m → shut_of s c (lit_facts rs (slice (at + 1) a s) (both_facts y m)) ≡ seen (facts rs types sc) (length s) (read_lit (drop at s))
          lit_ok le c m vs =
              rw (lit_at o, n.is, want_yes (32 ∷ []) n.got s a e, v.is, length-drop b s, vs.is)
              (want_shut (facts rs types sc) s (literal n.got (v.got ∷ vs.got)) c (lit_facts rs (slice (at + 1) a s) (both_facts y m))
              vs.within (is_lit n.got (slice_front s n.got (at + 1) a n.within
              (sound_word false (drop (at + 1) s) n.got (drop a s) n.is).written) v.got vs.got v.counted vs.counted))
            where
              is_lit : (w : List ℕ) → slice (at + 1) a s ≡ w → (x : List ℕ) (us : List (List ℕ)) → y ≡ var_facts sc x → m ≡ vars_facts sc us → lit_facts rs (slice (at + 1) a s) (both_facts y m) ≡ facts rs types sc (literal w (x ∷ us))
              is_lit w q x us i j = ap (λ (l : List ℕ). lit_facts rs l (both_facts y m)) q ∙ ap (λ (f : Facts). lit_facts rs w f) (two i j ∙ sym (vars_facts_lem rs types sc x us)) ∙ sym (lit_facts_lem rs types sc w (x ∷ us) le)

-- ---- a formula whose second byte is no small letter is none of the six forms with a word
second : (a b : ℕ) (p l : List ℕ) → begins (a ∷ b ∷ p) l ≡ true → get_or l 1 0 ≡ b
second a b p l e = ap (λ (m : List ℕ). get_or m 1 0) (begins_is (a ∷ b ∷ p) l e)

no_word : (d : Head) (l : List ℕ) → get_or l 1 0 < 97 → KindIs d l → d ≡ is_other
no_word is_not l h e = absurd (omega (arith, second 40 110 _ l e))
no_word is_implies l h e = absurd (omega (arith, second 40 105 _ l e))
no_word is_and l h e = absurd (omega (arith, second 40 97 _ l e))
no_word is_or l h e = absurd (omega (arith, second 40 111 _ l e))
no_word is_exists l h e = absurd (omega (arith, second 40 101 _ l e))
no_word is_forall l h e = absurd (omega (arith, second 40 102 _ l e))
no_word is_other l h e = refl

pub kind_other : (s : List ℕ) (at : ℕ) → get_or s (at + 1) 0 < 97 → kind_of (drop at s) ≡ is_other
kind_other s at h = no_word (kind_of (drop at s)) (drop at s) (omega (arith, get_or-drop at s 1 0)) (kind_is (drop at s))

-- ---- a formula, by its kind
module _ (rs : List Relation) (types sc : List (List ℕ)) (s : List ℕ) (at k : ℕ) where
  pub read_none : k ≡ 0 → None ≡ seen (facts rs types sc) (length s) (read k (drop at s))
  unfolding read seen
  read_none q = rw q

  module _ (q : k ≡ 0 → ⊥) where
    pub read_step : read k (drop at s) ≡ read_body (λ m. read (k - 1) m) (kind_of (drop at s)) (drop at s)
    unfolding read
    read_step = by_number k q
      where
        by_number : (n : ℕ) → (n ≡ 0 → ⊥) → read n (drop at s) ≡ read_body (λ m. read (n - 1) m) (kind_of (drop at s)) (drop at s)
        by_number zero h = absurd (h refl)
        by_number (suc n) h = rw (sub-one (suc n))

    pub read_as : (d : Head) → d ≡ kind_of (drop at s) → seen (facts rs types sc) (length s) (read_body (λ m. read (k - 1) m) d (drop at s)) ≡ seen (facts rs types sc) (length s) (read k (drop at s))
    read_as d e = rw (read_step, e)

  pub kind_begins : (d : Head) → d ≡ kind_of (drop at s) → KindIs d (drop at s)
  kind_begins d e = subst (λ (x : Head). KindIs x (drop at s)) (sym e) (kind_is (drop at s))
