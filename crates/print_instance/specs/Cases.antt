-- What is written by numbers is the instance of the case. Assumes nothing.
use Prim.Native.Nat.{ℕ, zero, suc, ◌+◌, ◌-◌, ◌*◌, ◌/◌, ◌^◌, ◌≤◌, ◌<◌}
use Rattle.std.specs.Prelude.{◌≡◌, Bool, get_or, if◌then◌else◌}
use Rattle.std.proofs.Math.Path.{refl, sym, ap, ap₂, subst}
use Rattle.std.proofs.Common.{◌∙◌, pow-suc}
use Rattle.std.proofs.Math.Bool.{true, false, not}
use mathlib.Core.List.{List, [], ◌∷◌, ◌++◌, map, append_assoc, append-nil}
use native.Mathlib.Omega.{arith}
use Rattle.std.proofs.Math.Dec.{ltb}
use Rattle.std.proofs.Math.ListN.{length}
use Rattle.definitions.specs.Lists.{filter, flat_map, map_from, from, below}
use Rattle.definitions.specs.Sheet.Text.{bytes}
use Rattle.definitions.specs.Sheet.Formula.{write_each}
use Rattle.definitions.specs.Sheet.Relations.{Kind, static, plain, Fun, PFun, Inj, PInj, universal, is_function, is_injective}
use Rattle.definitions.specs.Sheet.Sheets.{relations_of}
use Rattle.definitions.specs.Problem.Truth.{Case, holds}
use Rattle.definitions.specs.Problem.Atoms.{problem_of, problem_with, relation_at, places_of, tuples_of, tuple_holds, words_for}
use Rattle.definitions.specs.Reply.Page.{spaces}
use Rattle.definitions.specs.Reply.Lifted.{Predicate, related, unrelated, free_first, free_second, Fact, object, relation_in, tuples_over, each_said, relation_facts, facts_of}
use Rattle.definitions.specs.Reply.Pddl.{object_word, term_word, predicate_word, bracketed, indented, write_fact, instance_text}
use Rattle.laws.specs.Lists.{flat_append, flat_same, flat_flat, flat_map_lem, below_lt, map_map, map_same}
use Rattle.laws.specs.Numbers.{no_relation}
use Rattle.laws.specs.TupleRows.{tuples_rows}
use Rattle.problem_table.specs.Lines.{size_in, relation_line, Fits}
use Rattle.problem_table.specs.Of.{Is, kind_number}
use Rattle.problem_layout.specs.declared.Relations.{Relations}
use Rattle.step_start.specs.Rows.{holds_at}
use Rattle.step_start.specs.Initial.{fact_word, FactsIn}
use Rattle.step_start.specs.InitialLaws.{tuple_is}
use Rattle.print_words.specs.Words.{term_by, term_high, word_by, word_in, name_from, atom_in, NamesOf}
use Rattle.print_words.specs.Loops.{flat_runs}
use Rattle.print_instance.specs.declared.Known.{Known}
use Rattle.print_instance.specs.Texts.{agree, relation_word, word_for, said_text, elements_text, row_text, tuples_text, is_fun, is_inj, other, relation_text, words_of, first_of, known_at, relations_text, instance_in}

-- ---- lists
flat_filter : {A : Type 0} (h : A → List ℕ) (p : A → Bool) (l : List A) → flat_map h (filter p l) ≡ flat_map (λ x. if p x then h x else []) l
unfolding flat_map filter
flat_filter h p [] = refl
flat_filter h p (x ∷ l) = by_test (p x) (flat_filter h p l)
  where
    by_test : (b : Bool) → flat_map h (filter p l) ≡ flat_map (λ y. if p y then h y else []) l → flat_map h (if b then x ∷ filter p l else filter p l) ≡ (if b then h x else []) ++ flat_map (λ y. if p y then h y else []) l
    by_test true e = ap (λ (t : List ℕ). h x ++ t) e
    by_test false e = e

flat_shift : {B : Type 0} (h : ℕ → List B) (a m : ℕ) → flat_map h (from (suc a) m) ≡ flat_map (λ j. h (suc j)) (from a m)
unfolding flat_map from
flat_shift h a zero = refl
flat_shift h a (suc m) = ap (λ (t : List _). h (suc a) ++ t) (flat_shift h (suc a) m)

flat_from : {A B C : Type 0} (h : B → List C) (f : ℕ → A → B) (i : ℕ) (l : List A) (d : A) → flat_map h (map_from f i l) ≡ flat_map (λ j. h (f (i + j) (get_or l j d))) (below (length l))
unfolding flat_map map_from below from
flat_from h f i [] d = refl
flat_from h f i (x ∷ l) d =
    let z : i ≡ i + zero = omega arith in
    ap₂ ◌++◌ (ap (λ (k : ℕ). h (f k x)) z)
    (flat_from h f (suc i) l d ∙ flat_same _ _ (below (length l)) (λ j _. let e : suc i + j ≡ i + suc j = omega arith in ap (λ (k : ℕ). h (f k (get_or l j d))) e) ∙ sym (flat_shift (λ j. h (f (i + j) (get_or (x ∷ l) j d))) zero (length l)))

-- ---- kinds
fun_is : (k : Kind) → is_fun (kind_number k) ≡ is_function k
unfolding is_fun kind_number is_function
fun_is static = refl
fun_is plain = refl
fun_is Fun = refl
fun_is PFun = refl
fun_is Inj = refl
fun_is PInj = refl
fun_is universal = refl

inj_is : (k : Kind) → is_inj (kind_number k) ≡ is_injective k
unfolding is_inj kind_number is_injective
inj_is static = refl
inj_is plain = refl
inj_is Fun = refl
inj_is PFun = refl
inj_is Inj = refl
inj_is PInj = refl
inj_is universal = refl

agree_yes : (b : Bool) → agree b true ≡ b
unfolding agree
agree_yes true = refl
agree_yes false = refl

agree_no : (b : Bool) → agree b false ≡ not b
unfolding agree
agree_no true = refl
agree_no false = refl

-- ---- one line
object_terms : (xs : List ℕ) → map object_word xs ≡ map term_word (map term_by (map (λ x. 8 + x) xs))
unfolding term_word
object_terms xs = sym (ap (map term_word) (map_map term_by (λ x. 8 + x) xs) ∙ map_map term_word (λ x. term_by (8 + x)) xs
    ∙ map_same (λ x. term_word (term_by (8 + x))) object_word xs (λ x _. let e : 8 + x - 8 ≡ x = omega arith in ap term_word (term_high (8 + x) (omega arith) ∙ ap object e)))

module _ (c : Case) (q ns : List ℕ) (N : NamesOf c q ns) where
  abbrev line : Fact → List ℕ
  line f = indented 4 (write_fact c f)

  said_is : (p : Predicate) (kind r : ℕ) → predicate_word c p ≡ word_by (name_from q ns) kind r 0 → (xs : List ℕ) → line (record { predicate = p; objects = xs }) ≡ said_text q ns (relation_word kind r) xs
  unfolding said_text atom_in word_in write_fact
  said_is p kind r e xs = ap₂ (λ (w : List ℕ) (ws : List (List ℕ)). indented 4 (bracketed (w ∷ ws))) e (object_terms xs)

  module _ (r : ℕ) (h : r < length (relations_of c.question)) where
    related_is : predicate_word c (related r) ≡ word_by (name_from q ns) 0 r 0
    unfolding predicate_word word_by
    related_is = ap (λ (w : List ℕ). bytes "r_" ++ w) (sym (N.name r h))

    unrelated_is : predicate_word c (unrelated r) ≡ word_by (name_from q ns) 1 r 0
    unfolding predicate_word word_by
    unrelated_is = ap (λ (w : List ℕ). bytes "not-r_" ++ w) (sym (N.name r h))

    first_is : predicate_word c (free_first r) ≡ word_by (name_from q ns) 2 r 0
    unfolding predicate_word word_by
    first_is = ap (λ (w : List ℕ). bytes "free_" ++ (w ++ bytes "_dom")) (sym (N.name r h))

    second_is : predicate_word c (free_second r) ≡ word_by (name_from q ns) 3 r 0
    unfolding predicate_word word_by
    second_is = ap (λ (w : List ℕ). bytes "free_" ++ (w ++ bytes "_ran")) (sym (N.name r h))

  -- ---- a relation's
  each_is : (p : Predicate) (kind r : ℕ) → predicate_word c p ≡ word_by (name_from q ns) kind r 0 → (xss : List (List ℕ)) → flat_map line (each_said p xss) ≡ flat_map (said_text q ns (relation_word kind r)) xss
  unfolding each_said
  each_is p kind r e xss = flat_map_lem line (λ xs. record { predicate = p; objects = xs }) xss ∙ flat_same _ _ xss (λ xs _. said_is p kind r e xs)

  ones_is : (p : Predicate) (kind r n : ℕ) → predicate_word c p ≡ word_by (name_from q ns) kind r 0 → flat_map line (each_said p (tuples_over n 1)) ≡ flat_map (elements_text q ns (relation_word kind r)) (below n)
  unfolding tuples_over elements_text flat_map
  ones_is p kind r n e =
      each_is p kind r e (tuples_over n 1) ∙ flat_flat (said_text q ns (relation_word kind r)) (λ x. (x ∷ []) ∷ []) (below n)
      ∙ flat_same _ _ (below n) (λ x _. append-nil (said_text q ns (relation_word kind r) (x ∷ [])))

  if_is : (b d : Bool) (p : Predicate) (kind r n : ℕ) → b ≡ d → predicate_word c p ≡ word_by (name_from q ns) kind r 0
      → flat_map line (if d then each_said p (tuples_over n 1) else []) ≡ (if b then flat_map (elements_text q ns (relation_word kind r)) (below n) else [])
  unfolding flat_map
  if_is b true p kind r n q e = rw q (ones_is p kind r n e)
  if_is b false p kind r n q e = rw q refl

  module _ (w f : List ℕ) (g : Relations) (n : ℕ) (fits : Fits w) (is : Is (problem_of c) w) (F : FactsIn (problem_of c) f) (size : n ≡ c.site.size) (some : 0 < n)
      (count : g.count ≡ length (relations_of c.question)) (arity : (r : ℕ) → r < g.count → get_or g.arity r 0 ≡ (relation_in c r).arity)
      (kind : (r : ℕ) → r < g.count → get_or g.kind r 0 ≡ kind_number (relation_in c r).kind) (placed : (r : ℕ) → r < g.count → 1 ≤ get_or g.arity r 0) where
    word_is : (r : ℕ) → r ≤ g.count → first_of n g r ≡ fact_word (problem_of c) r
    unfolding first_of fact_word words_of words_for tuples_of problem_of problem_with relation_at relation_in
    word_is zero h = refl
    word_is (suc r) h = ap₂ (λ (x y : ℕ). x + (if ltb r 5 then 0 else (y + 63) / 64)) (word_is r (omega arith)) (ap₂ ◌^◌ size (arity r (omega arith)))

    holds_is : (r row : ℕ) → r < g.count → row < n ^ get_or g.arity r 0 → holds_at f n r (get_or g.kind r 0) (first_of n g r) row ≡ holds c [] r (places_of n (get_or g.arity r 0) row)
    unfolding tuple_holds tuples_of problem_of problem_with relation_at relation_in
    holds_is r row h l =
        let b : r < length (relations_of c.question) = omega (arith, count) in
        let s : row < c.site.size ^ (relation_in c r).arity = subst (λ (k : ℕ). row < k) (ap₂ ◌^◌ size (arity r h)) l in
        ap₂ (λ (m k : ℕ). holds_at f m r k (first_of n g r) row) (size ∙ sym is.size) (kind r h ∙ sym (is.relation r b).kind)
        ∙ ap (λ (x : ℕ). holds_at f (size_in w) r (relation_line w r).kind x row) (word_is r (omega arith)) ∙ tuple_is (problem_of c) w f fits is F r row b s
        ∙ ap₂ (λ (m k : ℕ). holds c [] r (places_of m k row)) (sym size) (sym (arity r h))

    module _ (r : ℕ) (h : r < g.count) where
      abbrev a : ℕ
      a = get_or g.arity r 0

      here : r < length (relations_of c.question)
      here = omega (arith, count)

      rows_are : (k : Known) → k.n ≡ n → k.arity ≡ a → tuples_text q ns f k ≡ flat_map (row_text q ns f k) (below (n ^ a))
      unfolding tuples_text
      rows_are k e d =
          let s : suc (a - 1) ≡ a = omega (arith, placed r h) in
          flat_runs (row_text q ns f k) (k.n ^ (k.arity - 1)) k.n
          ∙ ap₂ (λ (m i : ℕ). flat_map (row_text q ns f k) (below (m ^ (i - 1) * m))) e d ∙ ap (λ (i : ℕ). flat_map (row_text q ns f k) (below i)) (sym (pow-suc n (a - 1)) ∙ ap (λ (i : ℕ). n ^ i) s)

      tuples_are : (p : Predicate) (kd : ℕ) (P : List ℕ → Bool) (k : Known) → k.n ≡ n → k.arity ≡ a → predicate_word c p ≡ word_by (name_from q ns) kd r 0
          → ((row : ℕ) → row < n ^ a → (if P (places_of n a row) then said_text q ns (relation_word kd r) (places_of n a row) else []) ≡ row_text q ns f k row)
          → flat_map line (each_said p (filter P (tuples_over n a))) ≡ tuples_text q ns f k
      tuples_are p kd P k e d u t =
          each_is p kd r u (filter P (tuples_over n a)) ∙ flat_filter (said_text q ns (relation_word kd r)) P (tuples_over n a)
          ∙ ap (flat_map (λ xs. if P xs then said_text q ns (relation_word kd r) xs else [])) (tuples_rows n a some)
          ∙ flat_map_lem (λ xs. if P xs then said_text q ns (relation_word kd r) xs else []) (places_of n a) (below (n ^ a))
          ∙ flat_same _ _ (below (n ^ a)) (λ row m. t row (below_lt (n ^ a) row m)) ∙ sym (rows_are k e d)

      held_row : (row : ℕ) → row < n ^ a → (if holds c [] r (places_of n a row) then said_text q ns (relation_word 0 r) (places_of n a row) else []) ≡ row_text q ns f (known_at n g r) row
      unfolding row_text word_for
      held_row row l = ap (λ (b : Bool). if b then said_text q ns (relation_word 0 r) (places_of n a row) else []) (sym (agree_yes _ ∙ holds_is r row h l))

      other_row : (row : ℕ) → row < n ^ a → (if not (holds c [] r (places_of n a row)) then said_text q ns (relation_word 1 r) (places_of n a row) else []) ≡ row_text q ns f (other (known_at n g r)) row
      unfolding row_text word_for
      other_row row l = ap (λ (b : Bool). if b then said_text q ns (relation_word 1 r) (places_of n a row) else []) (sym (agree_no _ ∙ ap not (holds_is r row h l)))

      relation_facts_lem : relation_facts c r (relation_in c r) ≡ each_said (related r) (filter (holds c [] r) (tuples_over n a))
          ++ (each_said (unrelated r) (filter (λ xs. not (holds c [] r xs)) (tuples_over n a))
          ++ ((if is_function (relation_in c r).kind then each_said (free_first r) (tuples_over n 1) else []) ++ (if is_injective (relation_in c r).kind then each_said (free_second r) (tuples_over n 1) else [])))
      unfolding relation_facts
      relation_facts_lem = sym (ap₂ (λ (m b : ℕ). each_said (related r) (filter (holds c [] r) (tuples_over m b))
          ++ (each_said (unrelated r) (filter (λ xs. not (holds c [] r xs)) (tuples_over m b))
          ++ ((if is_function (relation_in c r).kind then each_said (free_first r) (tuples_over m 1) else []) ++ (if is_injective (relation_in c r).kind then each_said (free_second r) (tuples_over m 1) else [])))) size (arity r h))

      relation_is : flat_map line (relation_facts c r (relation_in c r)) ≡ relation_text q ns f (known_at n g r)
      unfolding relation_text
      relation_is =
          ap (flat_map line) relation_facts_lem
          ∙ flat_append line (each_said (related r) (filter (holds c [] r) (tuples_over n a))) _
          ∙ ap₂ ◌++◌ (tuples_are (related r) 0 (holds c [] r) (known_at n g r) refl refl (related_is r here) held_row)
          (flat_append line (each_said (unrelated r) (filter (λ xs. not (holds c [] r xs)) (tuples_over n a))) _
          ∙ ap₂ ◌++◌ (tuples_are (unrelated r) 1 (λ xs. not (holds c [] r xs)) (other (known_at n g r)) refl refl (unrelated_is r here) other_row)
          (flat_append line (if is_function (relation_in c r).kind then each_said (free_first r) (tuples_over n 1) else []) _
          ∙ ap₂ ◌++◌ (if_is (is_fun (get_or g.kind r 0)) (is_function (relation_in c r).kind) (free_first r) 2 r n (ap is_fun (kind r h) ∙ fun_is (relation_in c r).kind) (first_is r here))
          (if_is (is_inj (get_or g.kind r 0)) (is_injective (relation_in c r).kind) (free_second r) 3 r n (ap is_inj (kind r h) ∙ inj_is (relation_in c r).kind) (second_is r here))))

    facts_are : flat_map line (flat_map (λ (fs : List Fact). fs) (map_from (relation_facts c) zero (relations_of c.question))) ≡ relations_text q ns f n g
    unfolding relations_text relation_in
    facts_are =
        flat_flat line (λ (fs : List Fact). fs) (map_from (relation_facts c) zero (relations_of c.question))
        ∙ flat_from (flat_map line) (relation_facts c) zero (relations_of c.question) no_relation
        ∙ ap (λ (m : ℕ). flat_map (λ j. flat_map line (relation_facts c (zero + j) (get_or (relations_of c.question) j no_relation))) (below m)) (sym count)
        ∙ flat_same _ _ (below g.count) (λ r m. let z : zero + r ≡ r = omega arith in ap (λ (k : ℕ). flat_map line (relation_facts c k (get_or (relations_of c.question) r no_relation))) z ∙ relation_is r (below_lt g.count r m))

    pub instance_is : instance_text c ≡ instance_in q ns f n g
    unfolding instance_text instance_in indented spaces bracketed facts_of write_fact predicate_word write_each flat_map
    instance_is = shape _ _ _ _ (ap (λ (m : ℕ). write_each (λ v. v) (map object_word (from 1 (m - 2)))) (sym size)) facts_are
      where
        title : List ℕ
        title = bytes "(define (problem site)" ++ (10 ∷ (bytes "  (:domain case)" ++ (10 ∷ bytes "  (:objects")))

        init : List ℕ
        init = bytes "  (:init" ++ (10 ∷ (bytes "    (guess)" ++ (10 ∷ [])))

        end : List ℕ
        end = bytes "  )" ++ (10 ∷ (bytes "  (:goal (holds_goal))" ++ (10 ∷ 41 ∷ 10 ∷ [])))

        shape : (E D X Y : List ℕ) → E ≡ D → X ≡ Y → title ++ (((E ++ bytes ")") ++ (10 ∷ [])) ++ (init ++ (X ++ end))) ≡ title ++ (D ++ ((41 ∷ 10 ∷ init) ++ (Y ++ end)))
        shape E D X Y d e = ap₂ (λ (D X : List ℕ). title ++ (((D ++ bytes ")") ++ (10 ∷ [])) ++ (init ++ (X ++ end)))) d e
            ∙ ap (λ (t : List ℕ). title ++ t) (append_assoc (D ++ bytes ")") (10 ∷ []) (init ++ (Y ++ end)) ∙ append_assoc D (bytes ")") ((10 ∷ []) ++ (init ++ (Y ++ end))))
