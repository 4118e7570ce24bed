-- Variables in the text: their levels, a literal's list, a quantifier's list; a relation's number. Assumes nothing.
use Rattle.std.specs.Prelude.{Some, None}
use Prim.Native.Nat.{ℕ, zero, suc, ◌+◌, ◌-◌, ◌≤◌, ◌<◌}
use native.Mathlib.Numerals.{add-one}
use native.Mathlib.Omega.{arith}
use mathlib.Core.Path.{◌≡◌, refl, sym, ap, subst, ◌∙◌}
use mathlib.Core.Option.{Option, none, some}
use mathlib.Core.Bool.{Bool, true, false}
use mathlib.Core.List.{List, [], ◌∷◌, ◌++◌, map, append_assoc, append-nil}
use lib.ListN.{length, get_or, set, take, drop, length-append, length-drop}
use lib.Seq.{slice, drop-drop, take-suc-set}
use borrow.Author.Tests.{eq-eqb, ne_eqb}
use Rattle.definitions.specs.Lists.{same, option, position}
use Rattle.definitions.specs.Sheet.Text.{is_small, is_between, is_digit}
use Rattle.definitions.specs.Sheet.Relations.{Relation, fixed, number_of, built_in}
use Rattle.definitions.specs.Sheet.Formula.{Quantified, variables_of, write_each, write_vars, write_typed, write_more, Variables, AllQuantified, a_word, type_number, sort_named, sort_of}
use Rattle.definitions.specs.Sheet.Parsing.{span}
use Rattle.laws.specs.Writing.{vars_stop, more_stop, typed_close}
use Rattle.read_text.specs.Spans.{option_of}
use Rattle.read_names.specs.Signatures.{Lent, all_of, relations_from, types_in}
use Rattle.read_names.specs.declared.Signature.{Signature}
use Rattle.read_names.proofs.Laws.{position_some, all_are, length_relations, length_names}
use Rattle.read_rule.specs.Seen.{names, spans, past_type}
use Rattle.read_rule.specs.Spans.{spans_next, spans_push}
use Rattle.read_rule.specs.Steps.{front_rest, slice_front}
use Rattle.read_rule.specs.Bound.{var_ends, Ends, ends_at}
use Rattle.read_rule.specs.declared.Scope.{Scope}
use Rattle.rule_nodes.specs.Postorder.{leaf_row}
use Rattle.rule_nodes.specs.Free.{pad_more}
use Rattle.rule_nodes.specs.declared.Row.{Row}
use Rattle.rule_rewrite.specs.Ready.{level_of, sort_in, VarsReady, ListReady, Filled, Opened}
use Rattle.rule_rewrite.specs.declared.Leaf.{Leaf}
use Rattle.rule_rewrite.specs.declared.Bound.{Bound}

-- ---- `level`: the first place from i on
unfoldable pub level_from : ℕ → Option ℕ → ℕ
level_from i x = option x zero (λ k. k + i)

level_later : (i : ℕ) (x : Option ℕ) → level_from i (option x none (λ k. some (suc k))) ≡ level_from (i + 1) x
unfolding level_from option
level_later i none = refl
level_later i (some k) = omega arith

level_zero : (x : Option ℕ) → option x zero (λ k. k) ≡ level_from 0 x
unfolding level_from option
level_zero none = refl
level_zero (some k) = omega arith

pub level_start : (s : List ℕ) (sc : Scope) (v : List ℕ) → level_of (names s sc) v ≡ level_from 0 (position (same v) (spans s sc.from sc.to (sc.n - 0) 0))
unfolding names
level_start s sc v = let e : sc.n - 0 ≡ sc.n = omega arith in rw e (level_zero (position (same v) (spans s sc.from sc.to sc.n 0)))

module _ (s F T v : List ℕ) (n i : ℕ) where
  pub level_yes : i < n → same v (slice (get_or F i 0) (get_or T i 0) s) ≡ true → level_from i (position (same v) (spans s F T (n - i) i)) ≡ i
  unfolding level_from position option
  level_yes h e = let z : 0 + i ≡ i = omega arith in ap (λ (l : List (List ℕ)). level_from i (position (same v) l)) (spans_next s F T v n i h) ∙ rw e z

  pub level_no : i < n → same v (slice (get_or F i 0) (get_or T i 0) s) ≡ false → level_from i (position (same v) (spans s F T (n - i) i)) ≡ level_from (i + 1) (position (same v) (spans s F T (n - (i + 1)) (i + 1)))
  unfolding position
  level_no h e = ap (λ (l : List (List ℕ)). level_from i (position (same v) l)) (spans_next s F T v n i h) ∙ rw e (level_later i (position (same v) (spans s F T (n - (i + 1)) (i + 1))))

  pub level_end : n ≤ i → level_from i (position (same v) (spans s F T (n - i) i)) ≡ 0
  unfolding level_from position option spans
  level_end h = let e : n - i ≡ 0 = omega arith in rw e

-- ---- `number`
five : length built_in ≡ 5
unfolding built_in
five = refl

pub length_all : (q : List ℕ) (g : Signature) → g.every ≤ 1 → length (all_of q g) ≡ 5 + (g.rels + g.chosen + g.every)
length_all q g one =
    let n = g.rels + g.chosen + g.every in
    omega (arith, ap length (all_are q g one), length-append built_in (relations_from q g 0 n), length_relations q g 0 n, five)

number_found : (x : Option ℕ) (k : ℕ) → Some k ≡ option_of x → x ≡ some k
number_found none k e = let z : ◌≡◌ {A = ℕ} 0 1 = cc in absurd (omega arith)
number_found (some j) k e = let z : k ≡ j = cc in ap (λ (n : ℕ). some n) (sym z)

number_lost : (x : Option ℕ) → None ≡ option_of x → x ≡ none
number_lost none e = refl
number_lost (some j) e = let z : ◌≡◌ {A = ℕ} 0 1 = cc in absurd (omega arith)

number_low : (q : List ℕ) (g : Signature) (w : List ℕ) (k : ℕ) → g.rels + g.chosen + g.every ≤ 13 → g.every ≤ 1 → Some k ≡ option_of (number_of (all_of q g) w) → k < 18
unfolding number_of
number_low q g w k h one e = omega (arith, length_all q g one, (position_some (λ (r : Relation). same r.name w) (all_of q g) k (fixed [] 0) (number_found (number_of (all_of q g) w) k e)).0)

-- ... of any signature whose names and count are lent
pub lent_low : (q F T w : List ℕ) (m k : ℕ) → m ≤ 13 → ((g : Signature) → Lent g F T m → Some k ≡ option_of (number_of (all_of q g) w)) → k < 18
lent_low q F T w m k h e = let g : Signature = record { rels = m; chosen = 0; every = 0; types = 0; from = F; to = T; arity = []; kind = []; firsts = []; seconds = [] } in number_low q g w k (omega arith) (omega arith) (e g (record { from_is = refl; to_is = refl; count = omega arith; one = omega arith }))

pub number_at : (x : Option ℕ) (k : ℕ) → Some k ≡ option_of x → k ≡ option x zero (λ j. j)
unfolding option
number_at x k e = rw (number_found x k e)

pub number_none : (x : Option ℕ) → None ≡ option_of x → 0 ≡ option x zero (λ j. j)
unfolding option
number_none x e = rw (number_lost x e)

-- ---- bytes
pub first_byte : (s : List ℕ) (at c : ℕ) (l : List ℕ) → drop at s ≡ c ∷ l → (get_or s at 0 ≡ c) × (at < length s)
first_byte [] zero c l e = let z : ◌≡◌ {A = ℕ} 0 1 = cc in absurd (omega arith)
first_byte [] (suc at) c l e = let z : ◌≡◌ {A = ℕ} 0 1 = cc in absurd (omega arith)
first_byte (x ∷ s) zero c l e = (cc, omega arith)
first_byte (x ∷ s) (suc at) c l e = let q = first_byte s at c l e in (q.0, omega (arith, q.1))

no_span : (l : List ℕ) → span true (41 ∷ l) ≡ 0
unfolding span is_small is_between is_digit
no_span l = refl

-- ---- `fill`
module _ (s : List ℕ) (at : ℕ) (sc : Scope) (n : ℕ) where
  pub vars_in : VarsReady s at sc n → at < length s
  unfolding write_each
  vars_in w = by_list w.vs w.is
    where
      by_list : (vs : List (List ℕ)) → drop at s ≡ write_vars vs ++ (41 ∷ w.rest) → at < length s
      by_list [] e = (first_byte s at 41 w.rest e).1
      by_list (v ∷ vs) e = (first_byte s at 32 _ e).1

  -- no space: no variable
  pub vars_none : (w : VarsReady s at sc n) → (get_or s at 0 ≡ 32 → ⊥) → w.vs ≡ []
  unfolding write_each
  vars_none w h = by_list w.vs w.is
    where
      by_list : (vs : List (List ℕ)) → drop at s ≡ write_vars vs ++ (41 ∷ w.rest) → vs ≡ []
      by_list [] e = refl
      by_list (v ∷ vs) e = absurd (h (first_byte s at 32 _ e).0)

  -- a space: one variable, and others
  pub record More (vs : List (List ℕ)) (e : ℕ) : Type 0 where
    pub v : List ℕ
    pub us : List (List ℕ)
    pub is : vs ≡ v ∷ us
    pub name : slice (at + 1) e s ≡ v
    pub place : e ≡ at + 1 + length v
    pub within : e ≤ length s
    pub next : VarsReady s e sc (n + 1)
    pub rest : next.vs ≡ us

  pub vars_more : (w : VarsReady s at sc n) (e : ℕ) → get_or s at 0 ≡ 32 → e ≡ (at + 2) + span true (drop (at + 2) s) → More w.vs e
  unfolding write_each
  vars_more w e c q = by_list w.vs w.words w.is w.fits
    where
      by_list : (vs : List (List ℕ)) → Variables vs → drop at s ≡ write_vars vs ++ (41 ∷ w.rest) → n + length vs ≤ 3 → More vs e
      by_list [] h i k = absurd (omega (arith, (first_byte s at 41 w.rest i).0))
      by_list (v ∷ us) (a_word h hs) i k =
          let d : drop (at + 1) s ≡ v ++ (write_vars us ++ (41 ∷ w.rest)) = sym (drop-drop 1 at s) ∙ ap (λ (x : List ℕ). drop 1 x) i ∙ append_assoc v (write_vars us) (41 ∷ w.rest) in
          let z = var_ends s v (write_vars us ++ (41 ∷ w.rest)) (at + 1) h d (vars_stop us (41 ∷ w.rest) (no_span w.rest)) in
          let two : at + 2 ≡ (at + 1) + 1 = omega arith in
          let en : e ≡ (at + 1) + length v = q ∙ ap (λ (x : ℕ). x + span true (drop x s)) two ∙ z.0 in
          let fr : drop ((at + 1) + length v) s ≡ write_vars us ++ (41 ∷ w.rest) = front_rest s v (write_vars us ++ (41 ∷ w.rest)) (at + 1) d in
          record {
            v = v;
            us = us;
            is = refl;
            name = ap (λ (x : ℕ). slice (at + 1) x s) en ∙ slice_front s v (at + 1) ((at + 1) + length v) z.2 (d ∙ ap (λ (x : List ℕ). v ++ x) (sym fr));
            place = en;
            within = omega (arith, z.2);
            next = record { vs = us; rest = w.rest; is = ap (λ (x : ℕ). drop x s) en ∙ fr; words = hs; fits = omega arith; small = w.small };
            rest = refl;
          }

  -- the row has the levels of the variables so far, and gets those of the others
  pub fill_none : (row : Row) (w : VarsReady s at sc n) → (get_or s at 0 ≡ 32 → ⊥) → (p : Bool) (k : ℕ) (ls : List ℕ) → row ≡ leaf_row p k ls → Filled s at sc p k ls w.vs (record { row = row; at = at })
  unfolding write_each
  fill_none row w h p k ls e = subst (λ (vs : List (List ℕ)). Filled s at sc p k ls vs (record { row = row; at = at })) (sym (vars_none w h)) (record { place = omega arith; row = e ∙ ap (λ (l : List ℕ). leaf_row p k l) (sym (append-nil ls)) })

  pub fill_more : (row : Row) (i l e : ℕ) (r : Leaf) (w : VarsReady s at sc n) (m : More w.vs e) → row.width ≡ n → i ≡ row.width → l
      ≡ level_of (names s sc) (slice (at + 1) e s) → (p : Bool) (k : ℕ) (ls : List ℕ) → row ≡ leaf_row p k ls
      → (record { kind = row.kind; which = row.which; many = row.many; sort = row.sort; width = row.width + 1; levels = set row.levels i l }
      ≡ leaf_row p k (ls ++ (l ∷ [])) → Filled s e sc p k (ls ++ (l ∷ [])) m.next.vs r) → Filled s at sc p k ls w.vs r
  unfolding write_each
  fill_more row i l e r w m en ei el p k ls q f = done (f more)
    where
      few : length ls < 3
      few = omega (arith, ap (λ (x : Row). x.width) q, w.fits, ap length m.is)

      more : record { kind = row.kind; which = row.which; many = row.many; sort = row.sort; width = row.width + 1; levels = set row.levels i l } ≡ leaf_row p k (ls ++ (l ∷ []))
      more =
          ap (λ (j : ℕ). record {
            kind = row.kind;
            which = row.which;
            many = row.many;
            sort = row.sort;
            width = row.width + 1;
            levels = set
                row.levels j l;
          }) ei ∙ ap (λ (x : Row). record
          { kind = x.kind; which = x.which; many = x.many; sort = x.sort; width = x.width + 1; levels = set x.levels x.width l }) q
          ∙ rw (pad_more 3 ls l few, length-append ls (l ∷ []))

      levels : ls ++ (l ∷ map (λ v. level_of (names s sc) v) m.next.vs) ≡ ls ++ map (λ v. level_of (names s sc) v) w.vs
      levels =
          ap (λ (x : ℕ). ls ++ (x ∷ map (λ v. level_of (names s sc) v) m.next.vs)) (el ∙ ap (λ (x : List ℕ). level_of (names s sc) x) m.name)
          ∙ ap (λ (x : List (List ℕ)). ls ++ (level_of (names s sc) m.v ∷ map (λ v. level_of (names s sc) v) x)) m.rest
          ∙ ap (λ (x : List (List ℕ)). ls ++ map (λ v. level_of (names s sc) v) x) (sym m.is)

      long : e + length (write_vars m.next.vs) ≡ at + length (write_vars w.vs)
      long = ap (λ (x : List (List ℕ)). e + length (write_vars x)) m.rest ∙ sum ∙ ap (λ (x : List (List ℕ)). at + length (write_vars x)) (sym m.is)
        where
          sum : e + length (write_vars m.us) ≡ at + length (write_vars (m.v ∷ m.us))
          sum = omega (arith, m.place, length-append m.v (write_vars m.us))

      done : Filled s e sc p k (ls ++ (l ∷ [])) m.next.vs r → Filled s at sc p k ls w.vs r
      done d = record {
        place = d.place ∙ long;
        row = d.row ∙ ap (λ (x : List ℕ). leaf_row p k x) (append_assoc ls (l ∷ []) (map (λ v. level_of (names s sc) v) m.next.vs) ∙ levels);
      }

-- ---- `sort_at`
pub sort_none : (types : List (List ℕ)) (s : List ℕ) (e p : ℕ) → e ≡ p → 0 ≡ sort_in types s e p
unfolding sort_in
sort_none types s e p h = rw (eq-eqb e p h)

module _ (types : List (List ℕ)) (s : List ℕ) (e p : ℕ) (h : e ≡ p → ⊥) where
  pub sort_some : (k : ℕ) → Some k ≡ option_of (type_number types (slice (e + 1) p s)) → k + 1 ≡ sort_in types s e p
  unfolding sort_in option
  sort_some k w = rw (ne_eqb e p h, number_found (type_number types (slice (e + 1) p s)) k w) (add-one k)

  pub sort_lost : None ≡ option_of (type_number types (slice (e + 1) p s)) → 0 ≡ sort_in types s e p
  unfolding sort_in option
  sort_lost w = rw (ne_eqb e p h, number_lost (type_number types (slice (e + 1) p s)) w)

pub type_low : (q from to name : List ℕ) (k : ℕ) → Some k ≡ option_of (type_number (types_in q from to 8) name) → k < 8
unfolding type_number
type_low q from to name k w = omega (arith, length_names q from to 13 8, (position_some (λ t. same t name) (types_in q from to 8) k [] (number_found (type_number (types_in q from to 8) name) k w)).0)

-- ---- `bind`
-- the sort that stands in the text
sort_read : (types : List (List ℕ)) (s r : List ℕ) (at : ℕ) (q : Quantified) → drop at s ≡ write_typed q ++ r → at + length (write_typed q) ≤ length s → sort_in types s (at + length q.variable) (at + length (write_typed q)) ≡ sort_of types q
unfolding sort_in sort_of sort_named write_typed option
sort_read types s r at q w l = by_list q.variable q.type w l
  where
    by_list : (v : List ℕ) (o : Option (List ℕ)) → drop at s ≡ (v ++ option o [] (λ t. 58 ∷ t)) ++ r → at + length (v ++ option o [] (λ t. 58 ∷ t)) ≤ length s
        → sort_in types s (at + length v) (at + length (v ++ option o [] (λ t. 58 ∷ t))) ≡ sort_of types (record { variable = v; type = o })
    by_list v none a b = rw (append-nil v, eq-eqb (at + length v) (at + length v) refl)
    by_list v (some t) a b =
        let n : length (v ++ (58 ∷ t)) ≡ length v + suc (length t) = length-append v (58 ∷ t) in
        let d : drop ((at + length v) + 1) s ≡ t ++ r = sym (drop-drop 1 (at + length v) s) ∙ ap (λ (x : List ℕ). drop 1 x) (front_rest s v (58 ∷ (t ++ r)) at (a ∙ append_assoc v (58 ∷ t) r)) in
        let c : slice ((at + length v) + 1) (at + length (v ++ (58 ∷ t))) s ≡ t = slice_front s t ((at + length v) + 1) (at + length (v ++ (58 ∷ t))) b (d ∙ ap (λ (x : List ℕ). t ++ x) (sym (front_rest s (v ++ (58 ∷ t)) r at a))) in
        rw (ne_eqb (at + length v) (at + length (v ++ (58 ∷ t))) (λ h. omega arith), c)

module _ (s : List ℕ) (at : ℕ) (sc : Scope) where
  -- the first variable of a list, where it and its type end, and what follows
  pub record Front (w : ListReady s at sc) (e p : ℕ) : Type 0 where
    pub name : slice at e s ≡ w.q.variable
    pub sort : (types : List (List ℕ)) → sort_in types s e p ≡ sort_of types w.q
    pub place : p ≡ at + length (write_typed w.q)
    pub rest : drop p s ≡ write_more w.qs ++ (41 ∷ 32 ∷ w.rest)
    pub within : p + 2 ≤ length s

  list_ends : (w : ListReady s at sc) → Ends s at w.q
  list_ends w = from_this w.words
    where
      from_this : AllQuantified (w.q ∷ w.qs) → Ends s at w.q
      from_this (a_word h hs) = ends_at s (write_more w.qs ++ (41 ∷ 32 ∷ w.rest)) at w.q h w.is (more_stop w.qs (41 ∷ 32 ∷ w.rest) (typed_close (32 ∷ w.rest)))

  pub list_in : ListReady s at sc → at < length s
  list_in w = (list_ends w).low

  pub list_front : (w : ListReady s at sc) (e p : ℕ) → e ≡ (at + 1) + span true (drop (at + 1) s) → p ≡ past_type s e → Front w e p
  list_front w e p q z =
      let d = list_ends w in
      let en : e ≡ at + length w.q.variable = q ∙ d.variable in
      let pn : p ≡ at + length (write_typed w.q) = z ∙ ap (λ (x : ℕ). past_type s x) en ∙ d.past in
      let fr : drop (at + length (write_typed w.q)) s ≡ write_more w.qs ++ (41 ∷ 32 ∷ w.rest) = front_rest s (write_typed w.q) (write_more w.qs ++ (41 ∷ 32 ∷ w.rest)) at w.is in
      record {
        name = ap (λ (x : ℕ). slice at x s) en ∙ d.name;
        sort = λ types. rw (en, pn) (sort_read types s (write_more w.qs ++ (41 ∷ 32 ∷ w.rest)) at w.q w.is d.high);
        place = pn;
        rest = ap (λ (x : ℕ). drop x s) pn ∙ fr;
        within = two (sym (length-drop (at + length (write_typed w.q)) s) ∙ ap length fr ∙ length-append (write_more w.qs) (41 ∷ 32 ∷ w.rest)) pn;
      }
    where
      two : length s - (at + length (write_typed w.q)) ≡ length (write_more w.qs) + suc (suc (length w.rest)) → p ≡ at + length (write_typed w.q) → p + 2 ≤ length s
      two a b = omega arith

  module _ (w : ListReady s at sc) (e p : ℕ) (f : Front w e p) where
    pub list_last : (get_or s p 0 ≡ 32 → ⊥) → w.qs ≡ []
    unfolding write_each
    list_last h = by_list w.qs f.rest
      where
        by_list : (qs : List Quantified) → drop p s ≡ write_more qs ++ (41 ∷ 32 ∷ w.rest) → qs ≡ []
        by_list [] q = refl
        by_list (u ∷ us) q = absurd (h (first_byte s p 32 _ q).0)

    -- a space after it: another list, with one variable bound
    pub record Next (inner : Scope) : Type 0 where
      pub ready : ListReady s (p + 1) inner
      pub is : w.qs ≡ ready.q ∷ ready.qs

    pub list_next : (inner : Scope) → inner.n ≡ sc.n + 1 → get_or s p 0 ≡ 32 → Next inner
    unfolding write_each
    list_next inner n c = by_list w.qs refl w.words f.rest
      where
        by_list : (qs : List Quantified) → w.qs ≡ qs → AllQuantified (w.q ∷ qs) → drop p s ≡ write_more qs ++ (41 ∷ 32 ∷ w.rest) → Next inner
        by_list [] i h q = absurd (omega (arith, (first_byte s p 41 _ q).0))
        by_list (u ∷ us) i (a_word h hs) q = record {
          ready = record {
            q = u;
            qs = us;
            rest = w.rest;
            is = sym (drop-drop 1 p s) ∙ ap (λ (x : List ℕ). drop 1 x) q ∙ append_assoc (write_typed u) (write_more us) (41 ∷ 32 ∷ w.rest);
            words = hs;
            fits = omega (arith, w.fits, ap length i);
          };
          is = i;
        }

    module _ (types : List (List ℕ)) (sorts : List ℕ) (σ : ℕ) (eσ : σ ≡ sort_in types s e p) (x : length sc.from ≡ 4) (y : length sc.to ≡ 4) (z : length sorts ≡ 4) where
      abbrev pub with_one : Scope
      with_one = record { from = set sc.from sc.n at; to = set sc.to sc.n e; n = sc.n + 1 }

      bound_one : names s with_one ≡ names s sc ++ (w.q.variable ∷ [])
      unfolding names
      bound_one = spans_push s sc.from sc.to sc.n at e (omega (arith, w.fits)) (omega (arith, w.fits)) ∙ ap (λ (v : List ℕ). spans s sc.from sc.to sc.n 0 ++ (v ∷ [])) f.name

      sorted_one : take (sc.n + 1) (set sorts sc.n σ) ≡ take sc.n sorts ++ (sort_of types w.q ∷ [])
      sorted_one = ap (λ (n : ℕ). take n (set sorts sc.n σ)) (add-one sc.n) ∙ take-suc-set sorts sc.n σ (omega (arith, w.fits)) ∙ ap (λ (n : ℕ). take sc.n sorts ++ (n ∷ [])) (eσ ∙ f.sort types)

      pub bind_last : (get_or s p 0 ≡ 32 → ⊥) → Opened s at types sc sorts (w.q ∷ w.qs) (record { scope = with_one; sorts = set sorts sc.n σ; at = p + 2 })
      unfolding write_each variables_of
      bind_last h = subst (λ (qs : List Quantified). Opened s at types sc sorts (w.q ∷ qs) (record { scope = with_one; sorts = set sorts sc.n σ; at = p + 2 })) (sym (list_last h)) (record {
        place = omega (arith, f.place, ap length (append-nil (write_typed w.q)));
        scope = bound_one;
        count = refl;
        sorts = sorted_one;
      })

      pub bind_more : (n : Next with_one) (r : Bound) → Opened s (p + 1) types with_one (set sorts sc.n σ) (n.ready.q ∷ n.ready.qs) r → Opened s at types sc sorts (w.q ∷ w.qs) r
      unfolding write_each variables_of
      bind_more n r o = subst (λ (qs : List Quantified). Opened s at types sc sorts (w.q ∷ qs) r) (sym n.is) (record {
        place = omega (arith, o.place, f.place, length-append (write_typed w.q) (32 ∷ (write_typed n.ready.q ++ write_more n.ready.qs)), length-append (write_typed n.ready.q) (write_more n.ready.qs));
        scope = o.scope ∙ ap (λ (l : List (List ℕ)). l ++ variables_of (n.ready.q ∷ n.ready.qs)) bound_one ∙ append_assoc (names s sc) (w.q.variable ∷ []) (variables_of (n.ready.q ∷ n.ready.qs));
        count = omega (arith, o.count);
        sorts = o.sorts ∙ ap (λ (l : List ℕ). l ++ map (sort_of types) (n.ready.q ∷ n.ready.qs)) sorted_one ∙ append_assoc (take sc.n sorts) (sort_of types w.q ∷ []) (map (sort_of types) (n.ready.q ∷ n.ready.qs));
      })

      pub bind_again : {r : Bound} → get_or s p 0 ≡ 32
          → ((v : ListReady s (p + 1) with_one) → Opened s (p + 1) types with_one (set sorts sc.n σ) (v.q ∷ v.qs) r) → Opened s at types sc sorts (w.q ∷ w.qs) r
      bind_again {r} c h = let n = list_next with_one refl c in bind_more n r (h n.ready)
