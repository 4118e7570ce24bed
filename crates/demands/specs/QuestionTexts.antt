-- Which texts are read as a question: those that line by line spell its `rel`, `type` and `choose` lines, its `every` line and its rule, in this order.
use Prim.Native.Nat.{ℕ, zero, suc, ◌+◌, ◌-◌, ◌<◌, ◌≤◌}
use Rattle.std.specs.Prelude.{◌≡◌, ◌⊎◌, ◌↔◌, Bool, not, ◌&&◌, ◌||◌, ltb, if◌then◌else◌}
use Rattle.std.proofs.Math.Path.{refl, sym, ap, subst}
use Rattle.std.proofs.Common.{ap₂, subst₂, ◌∙◌, inl, inr, arith, T_not}
use Rattle.std.proofs.Math.Logic.{⊎_elim}
use Rattle.std.proofs.Math.Bool.{true, false}
use Rattle.std.proofs.Math.Option.{Option, none, some}
use mathlib.Core.List.{List, [], ◌∷◌, ◌++◌, map, append_assoc, append-nil, nil≢cons, Memᴰ}
use Rattle.std.proofs.Math.Dec.{T, not_T, leb, eqb, leb→le, le→leb, eqb→eq}
use Rattle.std.proofs.Math.ListN.{length, length-append, get_or, get_or-append}
use borrow.Author.Tests.{not-false, leb-false, le-leb, lt-leb, le-ltb, ltb-false}
use Rattle.definitions.specs.Limits.{CaseLimits, text_limit, rel_limit, type_limit, choose_limit, bracket_limit, form_limit, nesting_limit}
use Rattle.definitions.specs.Lists.{all, any, same, is_empty, option, is_some, listed}
use Rattle.definitions.specs.Sheet.Text.{bytes, decimal, number, split, lines, lines_from, is_between, is_digit, is_small, is_relation_name, is_variable}
use Rattle.definitions.specs.Refusal.{Result, accepted, ◌>>=◌, refuse_if, given, read_lines, read_text}
use Rattle.definitions.specs.Sheet.Relations.{Kind, static, plain, Fun, PFun, Inj, PInj, universal, Relation, fixed, varying, is_function, built_in, is_declared}
use Rattle.definitions.specs.Sheet.Formula.{Quantified, Formula, Formulas, literal, negation, implication, conjunction, disjunction, exists, forall, nil, cons, not_word, imp_word}
use Rattle.definitions.specs.Sheet.Formula.{join_word, quant_word, ands, ors, somes, everys, write_each, write_vars, write_typed, write_more, write_list}
use Rattle.definitions.specs.Sheet.Formula.{write, write_all, write_parts, is_quantified, no_words, a_word, Variables, AllQuantified, WellFormed, AllWellFormed, g_lit, g_neg, g_imp, g_and, g_or, g_exists, g_forall, no_goods, a_good}
use Rattle.definitions.specs.Sheet.Formula.{all_forms, nesting, is_known, is_scoped, is_typed, type_number, sort_named, is_type}
use Rattle.definitions.specs.Sheet.Parsing.{read_formula}
use Rattle.definitions.specs.Sheet.Sheets.{Entry, rel, type, choose, every, rule, size, label, member, fact, pick, step, arity_of, every_arity_of, kind_named, choose_of, with_one, with_two, entry, entry_of, Rule, Draft, Question, relations, is_ruled, is_new_name}
use Rattle.definitions.specs.Sheet.Sheets.{add_rel, add_type, place_sort, add_choose, add_every, add_rule, add_to_question, question_line, read_question, relations_of, Labelled, read_site}
use Rattle.definitions.specs.Reply.Outcome.{CaseRead, read_filed}
use Rattle.definitions.specs.Table.Opened.{everything}
use Rattle.definitions.specs.Reply.Desk.{print_line}
use Rattle.laws.specs.Booleans.{T_and_l, T_and_r, T_of, T_or, T_true, T_false, and_T, or_both}
use Rattle.laws.specs.Lists.{all_at, all_of, any_none, any_of, get_or_mem, none_some, some_eq}
use Rattle.laws.specs.Results.{accepted_eq, bind_parts, given_some, not_refused, refused_accepted}
use Rattle.laws.specs.Positions.{place, position_place}
use Rattle.laws.specs.Tuples.{same_eq, same_refl}
use Rattle.laws.specs.Repeats.{Once, once_middle}
use Rattle.laws.specs.Decimals.{decimal_number, number_decimal}
use Rattle.laws.specs.Labels.{option_parts}
use Rattle.laws.specs.Reader.{Holds, holds_if, position_holds, mem_snoc, not_some, Arity, Apart, RelFits, EveryFits, QuestionFits, question_fits, gives_if}
use Rattle.laws.specs.Lines.{Without, AllWithout, name_without, without_append, joined, read_end, LineByLine}
use Rattle.laws.specs.Told.{open_told, split_back}
use Rattle.laws.specs.Writing
use Rattle.demands.specs.Written.{apart_left, apart_right, decimal_without, entry_joined, print_then, within}
use Rattle.demands.specs.LineTexts.{ended, open_ended, Chosen, Said, line_said, lines_told, run_read, or_false}
use Rattle.demands.specs.SiteTexts.{Declared, empty_is, map_snoc, type_at}

-- ---- what the lines of a question say, one thing a line
pub data QuestionItem : Type 0 where
  a_rel : Relation → QuestionItem
  a_type : (name : List ℕ) → QuestionItem
  a_choose : Relation → QuestionItem
  an_every : Relation → QuestionItem
  the_rule : Rule → QuestionItem

-- the word of a function kind
unfoldable pub kind_word : Kind → List ℕ
kind_word static = []
kind_word plain = []
kind_word Fun = bytes "Fun"
kind_word PFun = bytes "PFun"
kind_word Inj = bytes "Inj"
kind_word PInj = bytes "PInj"
kind_word universal = []

-- how a line's fields spell it, by the types: a `choose` line has an arity, or a function kind, or a function kind and two types
unfoldable pub QuestionLine : List (List ℕ) → QuestionItem → List (List ℕ) → Type 0
QuestionLine types (a_rel r) fs = fs ≡ bytes "rel" ∷ r.name ∷ decimal r.arity ∷ []
QuestionLine types (a_type name) fs = fs ≡ bytes "type" ∷ name ∷ []
QuestionLine types (a_choose k) fs =
    ((k.kind ≡ plain) × (fs ≡ bytes "choose" ∷ k.name ∷ decimal k.arity ∷ []))
    ⊎ (((is_function k.kind ≡ true) × (k.firsts ≡ 0) × (k.seconds ≡ 0) × (fs ≡ bytes "choose" ∷ k.name ∷ kind_word k.kind ∷ []))
    ⊎ ((is_function k.kind ≡ true) × (i : ℕ) × (j : ℕ) × (k.firsts ≡ suc i) × (k.seconds ≡ suc j) × (i < length types) × (j < length types) × (fs ≡ bytes "choose" ∷ k.name ∷ kind_word k.kind ∷ get_or types i [] ∷ get_or types j [] ∷ [])))
QuestionLine types (an_every k) fs = fs ≡ bytes "every" ∷ k.name ∷ decimal k.arity ∷ []
QuestionLine types (the_rule r) fs = fs ≡ bytes "rule" ∷ r.text ∷ []

-- in the order of the sheet
unfoldable items_from : List Relation → List (List ℕ) → List Relation → Option Relation → Option Rule → List QuestionItem
items_from rels types chosen last ruled = map a_rel rels ++ (map a_type types ++ (map a_choose chosen ++ (map an_every (listed last) ++ option ruled [] (λ r. the_rule r ∷ []))))

abbrev items_of : Draft → List QuestionItem
items_of d = items_from d.rels d.types d.chosen d.every d.ruled

unfoldable pub question_items : Question → List QuestionItem
question_items q = map a_rel q.rels ++ (map a_type q.types ++ (map a_choose q.chosen ++ (map an_every (listed q.every) ++ (the_rule q.rule ∷ []))))

-- what a whole question has to keep to: not too many lines, names of their form, a formula that is well formed and written there, and all
-- that `QuestionFits` has of relations, types and the rule
pub record QuestionIs (q : Question) : Type 0 where
  pub rels_few : length q.rels ≤ rel_limit
  pub rels_named : (k : Relation) → Memᴰ k q.rels → T (is_relation_name k.name)
  pub chosen_few : length q.chosen ≤ choose_limit
  pub formed : WellFormed bracket_limit q.rule.formula
  pub written : q.rule.text ≡ write q.rule.formula
  pub fits : QuestionFits q

-- ---- items with one more at the end
-- (an item that stands third, behind nothing more)
at_third : (k l m : List QuestionItem) (x : QuestionItem) → k ++ (l ++ (m ++ (x ∷ []))) ≡ (k ++ (l ++ m)) ++ (x ∷ [])
at_third k l m x = ap (λ (i : List QuestionItem). k ++ i) (sym (append_assoc l m (x ∷ []))) ∙ sym (append_assoc k (l ++ m) (x ∷ []))

module _ (rels : List Relation) (types : List (List ℕ)) (chosen : List Relation) (last : Option Relation) (ruled : Option Rule) where
  rel_items : (r : Relation) → types ≡ [] → chosen ≡ [] → last ≡ none → ruled ≡ none → items_from (rels ++ (r ∷ [])) types chosen last ruled ≡ items_from rels types chosen last ruled ++ (a_rel r ∷ [])
  unfolding items_from option listed
  rel_items r a b e c = rw (a, b, e, c, map_snoc a_rel rels r, append-nil (map a_rel rels), append-nil (map a_rel rels ++ (a_rel r ∷ []))) refl

  type_items : (t : List ℕ) → chosen ≡ [] → last ≡ none → ruled ≡ none → items_from rels (types ++ (t ∷ [])) chosen last ruled ≡ items_from rels types chosen last ruled ++ (a_type t ∷ [])
  unfolding items_from option listed
  type_items t b e c = rw (b, e, c, map_snoc a_type types t, append-nil (map a_type types), append-nil (map a_type types ++ (a_type t ∷ []))) (sym (append_assoc (map a_rel rels) (map a_type types) (a_type t ∷ [])))

  choose_items : (k : Relation) → last ≡ none → ruled ≡ none → items_from rels types (chosen ++ (k ∷ [])) last ruled ≡ items_from rels types chosen last ruled ++ (a_choose k ∷ [])
  unfolding items_from option listed
  choose_items k e c = rw (e, c, map_snoc a_choose chosen k, append-nil (map a_choose chosen), append-nil (map a_choose chosen ++ (a_choose k ∷ []))) (at_third (map a_rel rels) (map a_type types) (map a_choose chosen) (a_choose k))

  every_items : (k : Relation) → last ≡ none → ruled ≡ none → items_from rels types chosen (some k) ruled ≡ items_from rels types chosen last ruled ++ (an_every k ∷ [])
  unfolding items_from option listed
  every_items k e c = rw (e, c, append-nil (map a_choose chosen)) (at_third (map a_rel rels) (map a_type types) (map a_choose chosen) (an_every k))

  rule_items : (r : Rule) → ruled ≡ none → items_from rels types chosen last (some r) ≡ items_from rels types chosen last ruled ++ (the_rule r ∷ [])
  unfolding items_from option
  rule_items r c = rw (c, append-nil (map an_every (listed last)))
      (ap (λ (l : List QuestionItem). map a_rel rels ++ (map a_type types ++ l)) (sym (append_assoc (map a_choose chosen) (map an_every (listed last)) (the_rule r ∷ [])))
      ∙ at_third (map a_rel rels) (map a_type types) (map a_choose chosen ++ map an_every (listed last)) (the_rule r))

-- ---- fields
arity_read : (f : List ℕ) (a : ℕ) → arity_of f ≡ some a → f ≡ decimal a
unfolding arity_of
arity_read f a e =
    let (b, n, q) = option_parts (number f) _ a e in
    (decimal_number f b n).0 ∙ ap decimal (by_test (is_between 1 3 b) b q)
  where
    by_test : (t : Bool) (b : ℕ) → (if t then some b else none) ≡ some a → b ≡ a
    by_test true b q = some_eq q
    by_test false b q = absurd (none_some q)

every_arity_read : (f : List ℕ) (a : ℕ) → every_arity_of f ≡ some a → f ≡ decimal a
unfolding every_arity_of
every_arity_read f a e =
    let (b, n, q) = option_parts (arity_of f) _ a e in
    arity_read f b n ∙ ap decimal (by_test (leb b 2) b q)
  where
    by_test : (t : Bool) (b : ℕ) → (if t then some b else none) ≡ some a → b ≡ a
    by_test true b q = some_eq q
    by_test false b q = absurd (none_some q)

kind_read : (f : List ℕ) (k : Kind) → kind_named f ≡ some k → (f ≡ kind_word k) × (is_function k ≡ true)
unfolding kind_named kind_word is_function Holds
kind_read f k e = subst (Holds Is) e
    (holds_if Is (same f (bytes "Fun")) _ _ (λ t. (same_eq f (bytes "Fun") t, refl))
    (holds_if Is (same f (bytes "PFun")) _ _ (λ t. (same_eq f (bytes "PFun") t, refl))
    (holds_if Is (same f (bytes "Inj")) _ _ (λ t. (same_eq f (bytes "Inj") t, refl))
    (holds_if Is (same f (bytes "PInj")) _ _ (λ t. (same_eq f (bytes "PInj") t, refl))
    tt))))
  where
    Is : Kind → Type 0
    Is k = (f ≡ kind_word k) × (is_function k ≡ true)

-- a declared type's sort
sort_of_lem : (types : List (List ℕ)) (t : List ℕ) → T (is_type types t) → (i : ℕ) × (sort_named types t ≡ suc i) × (i < length types) × (t ≡ get_or types i [])
unfolding is_type sort_named type_number option Holds
sort_of_lem types t h =
    let e = position_place (λ x. same x t) types h in
    let (l, m) = subst (Holds (λ i. (i < length types) × T (same (get_or types i []) t))) e (position_holds (λ x. same x t) types []) in
    (place (λ x. same x t) types, rw e refl, l, sym (same_eq _ t m))

not_ruled : (o : Option Rule) → is_ruled o ≡ false → o ≡ none
unfolding is_ruled
not_ruled none e = refl
not_ruled (some r) e = let z : ◌≡◌ {A = ℕ} 0 1 = cc in absurd (omega arith)

is_none : {A : Type 0} (o : Option A) → is_some o ≡ false → o ≡ none
is_none o e = not_some o (T_of (ap not e))

-- ---- from a question that was read to its lines
record Inv (d : Draft) : Type 0 where
  lone : d.chosen ≡ [] → d.every ≡ none
  unruled : d.chosen ≡ [] → d.ruled ≡ none
  rels_few : length d.rels ≤ rel_limit
  rels_named : (k : Relation) → Memᴰ k d.rels → T (is_relation_name k.name)
  chosen_few : length d.chosen ≤ choose_limit
  parsed : (r : Rule) → d.ruled ≡ some r → read_formula r.text ≡ some r.formula

-- what a line adds
record Step (d m : Draft) (fs : List (List ℕ)) : Type 0 where
  keeps : Inv m
  more : List (List ℕ)
  kept : m.types ≡ d.types ++ more
  item : QuestionItem
  grows : items_of m ≡ items_of d ++ (item ∷ [])
  says : QuestionLine m.types item fs

named_new : (d : Draft) (at : ℕ) (name : List ℕ) (u : Unit {0}) → refuse_if (not (is_new_name d name)) 4 at ≡ accepted u → T (is_relation_name name)
unfolding is_new_name
named_new d at name u r = T_and_l (is_relation_name name) _ (T_of (not-false (is_new_name d name) (not_refused (not (is_new_name d name)) 4 at u r)))

few_snoc : {A : Type 0} (l : List A) (x : A) (k : ℕ) → leb k (length l) ≡ false → length (l ++ (x ∷ [])) ≤ k
few_snoc l x k e = let h = leb-false k (length l) e in let q = length-append l (x ∷ []) in omega arith

not_nil : {A : Type 0} (l : List A) (x : A) → l ++ (x ∷ []) ≡ [] → ⊥
not_nil l x e = let q = ap length e in let r = length-append l (x ∷ []) in absurd (omega (arith, q, r))

rel_step : (d m : Draft) (at : ℕ) (name f : List ℕ) (a : ℕ) (fs : List (List ℕ)) → Inv d → fs ≡ bytes "rel" ∷ name ∷ f ∷ [] → arity_of f ≡ some a → add_rel d at name a ≡ accepted m → Step d m fs
unfolding add_rel QuestionLine
rel_step d m at name f a fs I s v q =
    let (u, r, q₁) = bind_parts (refuse_if (not (is_empty d.types) || not (is_empty d.chosen) || leb rel_limit (length d.rels)) 3 at) _ m q in
    let (u₂, r₂, q₂) = bind_parts (refuse_if (not (is_new_name d name)) 4 at) _ m q₁ in
    let (x, y) = or_both (not (is_empty d.types) || not (is_empty d.chosen)) _ (not_refused _ 3 at u r) in
    let (t, c) = or_both (not (is_empty d.types)) _ x in
    let no_types_lem = empty_is d.types (not-false (is_empty d.types) t) in
    let no-chosen = empty_is d.chosen (not-false (is_empty d.chosen) c) in
    let w = sym (accepted_eq _ m q₂) in
    record {
      keeps = subst Inv (sym w) (record {
        lone = I.lone;
        unruled = I.unruled;
        rels_few = few_snoc d.rels (fixed name a) rel_limit y;
        rels_named = mem_snoc (λ (k : Relation). T (is_relation_name k.name)) d.rels (fixed name a) I.rels_named (named_new d at name u₂ r₂);
        chosen_few = I.chosen_few;
        parsed = I.parsed;
      });
      more = [];
      kept = ap (λ (d : Draft). d.types) w ∙ sym (append-nil d.types);
      item = a_rel (fixed name a);
      grows = ap items_of w ∙ rel_items d.rels d.types d.chosen d.every d.ruled (fixed name a) no_types_lem no-chosen (I.lone no-chosen) (I.unruled no-chosen);
      says = s ∙ ap (λ (g : List ℕ). bytes "rel" ∷ name ∷ g ∷ []) (arity_read f a v);
    }

type_step : (d m : Draft) (at : ℕ) (name : List ℕ) (fs : List (List ℕ)) → Inv d → fs ≡ bytes "type" ∷ name ∷ [] → add_type d at name ≡ accepted m → Step d m fs
unfolding add_type QuestionLine
type_step d m at name fs I s q =
    let (u, r, q₁) = bind_parts (refuse_if (not (is_empty d.chosen) || leb type_limit (length d.types)) 3 at) _ m q in
    let (u₂, r₂, q₂) = bind_parts (refuse_if (not (is_relation_name name)) 4 at) _ m q₁ in
    let (u₃, r₃, q₃) = bind_parts (refuse_if (is_type d.types name) 19 at) _ m q₂ in
    let (x, y) = or_both (not (is_empty d.chosen)) _ (not_refused _ 3 at u r) in
    let no-chosen = empty_is d.chosen (not-false (is_empty d.chosen) x) in
    let w = sym (accepted_eq _ m q₃) in
    record {
      keeps = subst Inv (sym w) (record { lone = I.lone; unruled = I.unruled; rels_few = I.rels_few; rels_named = I.rels_named; chosen_few = I.chosen_few; parsed = I.parsed });
      more = name ∷ [];
      kept = ap (λ (d : Draft). d.types) w;
      item = a_type name;
      grows = ap items_of w ∙ type_items d.rels d.types d.chosen d.every d.ruled name no-chosen (I.lone no-chosen) (I.unruled no-chosen);
      says = s;
    }

-- a `choose` line, by the form of its fields
chosen_says : (types : List (List ℕ)) (name : List ℕ) (a : ℕ) (kind : Kind) (names gs fs : List (List ℕ)) → fs ≡ bytes "choose" ∷ gs → Chosen gs name a kind names → T (all (is_type types) names)
    → QuestionLine types (a_choose (record { name = name; arity = a; kind = kind; firsts = place_sort types names 0; seconds = place_sort types names 1 })) fs
unfolding QuestionLine Chosen place_sort all
chosen_says types name a kind names gs fs s c h = ⊎_elim
    (λ (f, q, n, r, e, z). inl (e, s ∙ ap (λ (l : List (List ℕ)). bytes "choose" ∷ l) q ∙ ap (λ (g : List ℕ). bytes "choose" ∷ name ∷ g ∷ []) (arity_read f a r)))
    (λ c. ⊎_elim
    (λ (f, q, n, e, z). let (w, i) = kind_read f kind n in inr (inl (
      i,
      ap (λ (l : List (List ℕ)). get_or (map (sort_named types) l) 0 0) z,
      ap (λ (l : List (List ℕ)). get_or (map (sort_named types) l) 1 0) z,
      s ∙ ap (λ (l : List (List ℕ)). bytes "choose" ∷ l) q ∙ ap (λ (g : List ℕ). bytes "choose" ∷ name ∷ g ∷ []) w,
    )))
    (λ (f, t, u, q, n, e, z).
    let (w, i) = kind_read f kind n in
    let both = subst (λ (l : List (List ℕ)). T (all (is_type types) l)) z h in
    let (x, ex, lx, tx) = sort_of_lem types t (T_and_l (is_type types t) _ both) in
    let (y, ey, ly, uy) = sort_of_lem types u (T_and_l (is_type types u) _ (T_and_r (is_type types t) _ both)) in
    inr (inr (
      i,
      x,
      y,
      ap (λ (l : List (List ℕ)). get_or (map (sort_named types) l) 0 0) z ∙ ex,
      ap (λ (l : List (List ℕ)). get_or (map (sort_named types) l) 1 0) z ∙ ey,
      lx,
      ly,
      s ∙ ap (λ (l : List (List ℕ)). bytes "choose" ∷ l) q ∙ ap (λ (g : List ℕ). bytes "choose" ∷ name ∷ g ∷ t ∷ u ∷ []) w ∙ ap₂ (λ (g h : List ℕ). bytes "choose" ∷ name ∷ kind_word kind ∷ g ∷ h ∷ []) tx uy,
    )))
    c) c

choose_step : (d m : Draft) (at : ℕ) (name : List ℕ) (a : ℕ) (kind : Kind) (names gs fs : List (List ℕ)) → Inv d → fs ≡ bytes "choose" ∷ gs → Chosen gs name a kind names → add_choose d at name a kind names ≡ accepted m → Step d m fs
unfolding add_choose
choose_step d m at name a kind names gs fs I s v q =
    let (u, r, q₁) = bind_parts (refuse_if (is_some d.every || is_ruled d.ruled || leb choose_limit (length d.chosen)) 3 at) _ m q in
    let (u₂, r₂, q₂) = bind_parts (refuse_if (not (is_new_name d name)) 4 at) _ m q₁ in
    let (u₃, r₃, q₃) = bind_parts (refuse_if (not (all (is_type d.types) names)) 19 at) _ m q₂ in
    let (x, y) = or_both (is_some d.every || is_ruled d.ruled) _ (not_refused _ 3 at u r) in
    let (x₁, x₂) = or_both (is_some d.every) _ x in
    let no_every = is_none d.every x₁ in
    let no_rule = not_ruled d.ruled x₂ in
    let w = sym (accepted_eq _ m q₃) in
    let same-types = ap (λ (d : Draft). d.types) w in
    let h = T_of (not-false (all (is_type d.types) names) (not_refused (not (all (is_type d.types) names)) 19 at u₃ r₃)) in
    record {
      keeps = subst Inv (sym w) (record { lone = λ e. absurd (not_nil d.chosen _ e); unruled = λ e. absurd (not_nil d.chosen _ e); rels_few = I.rels_few; rels_named = I.rels_named; chosen_few = few_snoc d.chosen _ choose_limit y; parsed = I.parsed });
      more = [];
      kept = same-types ∙ sym (append-nil d.types);
      item = a_choose (record { name = name; arity = a; kind = kind; firsts = place_sort d.types names 0; seconds = place_sort d.types names 1 });
      grows = ap items_of w ∙ choose_items d.rels d.types d.chosen d.every d.ruled _ no_every no_rule;
      says = subst (λ (ts : List (List ℕ)). QuestionLine ts (a_choose (record { name = name; arity = a; kind = kind; firsts = place_sort d.types names 0; seconds = place_sort d.types names 1 })) fs) (sym same-types) (chosen_says d.types name a kind names gs fs s v h);
    }

-- where something is chosen
not_empty : (l : List Relation) → is_empty l ≡ false → l ≡ [] → ⊥
unfolding is_empty
not_empty l y e = let z : is_empty l ≡ true = ap is_empty e in let k : true ≡ false = sym z ∙ y in subst T k tt

every_step : (d m : Draft) (at : ℕ) (name f : List ℕ) (a : ℕ) (fs : List (List ℕ)) → Inv d → fs ≡ bytes "every" ∷ name ∷ f ∷ [] → every_arity_of f ≡ some a → add_every d at name a ≡ accepted m → Step d m fs
unfolding add_every QuestionLine
every_step d m at name f a fs I s v q =
    let (u, r, q₁) = bind_parts (refuse_if (is_some d.every || is_ruled d.ruled || is_empty d.chosen) 3 at) _ m q in
    let (u₂, r₂, q₂) = bind_parts (refuse_if (not (is_new_name d name)) 4 at) _ m q₁ in
    let (x, y) = or_both (is_some d.every || is_ruled d.ruled) _ (not_refused _ 3 at u r) in
    let (x₁, x₂) = or_both (is_some d.every) _ x in
    let w = sym (accepted_eq _ m q₂) in
    record {
      keeps = subst Inv (sym w) (record {
        lone = λ e. absurd (not_empty d.chosen y e);
        unruled = I.unruled;
        rels_few = I.rels_few;
        rels_named = I.rels_named;
        chosen_few = I.chosen_few;
        parsed = I.parsed;
      });
      more = [];
      kept = ap (λ (d : Draft). d.types) w ∙ sym (append-nil d.types);
      item = an_every (varying name a);
      grows = ap items_of w ∙ every_items d.rels d.types d.chosen d.every d.ruled (varying name a) (is_none d.every x₁) (not_ruled d.ruled x₂);
      says = s ∙ ap (λ (g : List ℕ). bytes "every" ∷ name ∷ g ∷ []) (every_arity_read f a v);
    }

rule_step : (d m : Draft) (at : ℕ) (text : List ℕ) (fs : List (List ℕ)) → Inv d → fs ≡ bytes "rule" ∷ text ∷ [] → add_rule d at text ≡ accepted m → Step d m fs
unfolding add_rule QuestionLine
rule_step d m at text fs I s q =
    let (u, r, q₁) = bind_parts (refuse_if (is_ruled d.ruled || is_empty d.chosen) 3 at) _ m q in
    let (f, r₂, q₂) = bind_parts (given (read_formula text) 5 at) _ m q₁ in
    let (u₃, r₃, q₃) = bind_parts (refuse_if (ltb form_limit (all_forms d.chosen f) || ltb nesting_limit (nesting f)) 6 at) _ m q₂ in
    let (u₄, r₄, q₄) = bind_parts (refuse_if (not (is_known (relations d.rels d.chosen d.every) f)) 7 at) _ m q₃ in
    let (u₅, r₅, q₅) = bind_parts (refuse_if (not (is_scoped [] f)) 8 at) _ m q₄ in
    let (u₆, r₆, q₆) = bind_parts (refuse_if (not (is_typed d.types f)) 19 at) _ m q₅ in
    let (x, y) = or_both (is_ruled d.ruled) _ (not_refused _ 3 at u r) in
    let w = sym (accepted_eq _ m q₆) in
    let new : Rule = record { at = at + 5; text = text; formula = f } in
    record {
      keeps = subst Inv (sym w) (record {
        lone = I.lone;
        unruled = λ e. absurd (not_empty d.chosen y e);
        rels_few = I.rels_few;
        rels_named = I.rels_named;
        chosen_few = I.chosen_few;
        parsed = λ k e. let z : new ≡ k = some_eq e in subst (λ (k : Rule). read_formula k.text ≡ some k.formula) z (given_some (read_formula text) 5 at f r₂);
      });
      more = [];
      kept = ap (λ (d : Draft). d.types) w ∙ sym (append-nil d.types);
      item = the_rule new;
      grows = ap items_of w ∙ rule_items d.rels d.types d.chosen d.every d.ruled new (not_ruled d.ruled x);
      says = s;
    }

entry_step : (d m : Draft) (at : ℕ) (e : Entry) (fs : List (List ℕ)) → Inv d → Said fs e → add_to_question d at e ≡ accepted m → Step d m fs
unfolding add_to_question Said
entry_step d m at (rel name a) fs I (f, s, v) q = rel_step d m at name f a fs I s v q
entry_step d m at (type name) fs I s q = type_step d m at name fs I s q
entry_step d m at (choose name a k names) fs I (gs, s, v) q = choose_step d m at name a k names gs fs I s v q
entry_step d m at (every name a) fs I (f, s, v) q = every_step d m at name f a fs I s v q
entry_step d m at (rule f) fs I s q = rule_step d m at f fs I s q
entry_step d m at (size n) fs I s q = absurd (refused_accepted q)
entry_step d m at (label x name) fs I s q = absurd (refused_accepted q)
entry_step d m at (member t x) fs I s q = absurd (refused_accepted q)
entry_step d m at (fact name es) fs I s q = absurd (refused_accepted q)
entry_step d m at (pick name es) fs I s q = absurd (refused_accepted q)
entry_step d m at (step k) fs I s q = absurd (refused_accepted q)

line_step : (d : Draft) (at : ℕ) (w : List ℕ) (m : Draft) → Inv d → question_line d (ended at w) ≡ accepted m → Step d m (split 9 w)
unfolding question_line
line_step d at w m I q = let (e, f, g) = bind_parts (entry_of (ended at w)) (add_to_question d at) m q in entry_step d m at e (split 9 w) I (line_said at w e f) g

line_later : (types more ts : List (List ℕ)) → ts ≡ types ++ more → (a : QuestionItem) (fs : List (List ℕ)) → QuestionLine types a fs → QuestionLine ts a fs
unfolding QuestionLine
line_later types more ts e (a_rel r) fs s = s
line_later types more ts e (a_type t) fs s = s
line_later types more ts e (a_choose k) fs s = ⊎_elim (λ c. inl c) (λ c. inr (⊎_elim (λ c. inl c)
    (λ (b, i, j, x, y, li, lj, q).
    let l : length ts ≡ length types + length more = ap length e ∙ length-append types more in
    inr (b, i, j, x, y, omega arith, omega arith, q ∙ ap₂ (λ (g h : List ℕ). bytes "choose" ∷ k.name ∷ kind_word k.kind ∷ g ∷ h ∷ []) (still i li) (still j lj))) c)) s
  where
    still : (i : ℕ) → i < length types → get_or types i [] ≡ get_or ts i []
    still i h = sym (ap (λ (l : List (List ℕ)). get_or l i []) e ∙ get_or-append types more [] i h)
line_later types more ts e (an_every k) fs s = s
line_later types more ts e (the_rule r) fs s = s

line_ends : (d : Draft) (at : ℕ) (w : List ℕ) (m : Draft) → question_line d (open_ended at w) ≡ accepted m → ⊥
unfolding question_line
line_ends d at w m q = let (e, f, g) = bind_parts (entry_of (open_ended at w)) (add_to_question d at) m q in open_told at w e f

abbrev empty : Draft
empty = record { rels = []; types = []; chosen = []; every = none; ruled = none }

pub question_told : (text : List ℕ) (q : Question) → read_question text ≡ accepted q → LineByLine (QuestionLine q.types) (question_items q) text × (length text ≤ text_limit) × QuestionIs q
unfolding read_question read_text lines question_items items_from option listed
question_told text q e =
    let (d, a, b) = bind_parts (read_text question_line empty text) _ q e in
    let (u, f, g) = bind_parts (refuse_if (ltb text_limit (length text)) 1 zero) _ d a in
    let (r, z, k) = bind_parts (given d.ruled 3 (length text)) _ q b in
    let W = lines_told question_line Inv items_of (λ d. QuestionLine d.types)
    (λ d at w m I q. let S = line_step d at w m I q in (S.keeps, (S.item, S.grows, S.says)))
    (λ d at w m I q a fs r. let S = line_step d at w m I q in line_later d.types S.more m.types S.kept a fs r)
    line_ends (split 10 text) empty d zero (record { lone = λ _. refl; unruled = λ _. refl; rels_few = omega arith; rels_named = λ k m. absurd (mathlib.Core.List.Memᴰ.not-nil m); chosen_few = omega arith; parsed = λ r h. absurd (none_some h) }) g in
    let ruled = given_some d.ruled 3 (length text) r z in
    let w = accepted_eq _ q k in
    let items : W.new ≡ question_items (record { rels = d.rels; types = d.types; chosen = d.chosen; every = d.every; rule = r }) = sym W.grows ∙ ap (items_from d.rels d.types d.chosen d.every) ruled in
    let told : LineByLine (QuestionLine d.types) (question_items (record { rels = d.rels; types = d.types; chosen = d.chosen; every = d.every; rule = r })) text
    = subst₂ (λ (l : List QuestionItem) (x : List ℕ). LineByLine (QuestionLine d.types) l x) items (split_back 10 text) W.spelled in
    let (formed, written) = (Writing.accepted_texts r.text r.formula).0 (W.keeps.parsed r ruled) in (
      subst (λ (x : Question). LineByLine (QuestionLine x.types) (question_items x) text) w told,
      ltb-false text_limit (length text) (not_refused (ltb text_limit (length text)) 1 zero u f),
      record {
        rels_few = subst (λ (x : Question). length x.rels ≤ rel_limit) w W.keeps.rels_few;
        rels_named = subst (λ (x : Question). (k : Relation) → Memᴰ k x.rels → T (is_relation_name k.name)) w W.keeps.rels_named;
        chosen_few = subst (λ (x : Question). length x.chosen ≤ choose_limit) w W.keeps.chosen_few;
        formed = subst (λ (x : Question). WellFormed bracket_limit x.rule.formula) w formed;
        written = subst (λ (x : Question). x.rule.text ≡ write x.rule.formula) w written;
        fits = gives_if QuestionFits (read_question text) q e (question_fits text);
      },
    )

-- ---- from lines that spell a question to the question that is read
rel_entry : (name : List ℕ) (a : ℕ) → Arity a → entry (bytes "rel" ∷ name ∷ decimal a ∷ []) ≡ some (rel name a)
unfolding entry same with_two arity_of option is_between
rel_entry name a h = rw (number_decimal a (omega (arith, h.1)), le-leb 1 a h.0, le-leb a 3 h.1) refl

every_entry : (name : List ℕ) (a : ℕ) → (1 ≤ a) × (a ≤ 2) → entry (bytes "every" ∷ name ∷ decimal a ∷ []) ≡ some (every name a)
unfolding everything
every_entry name zero h = absurd (omega (arith, h.0))
every_entry name (suc zero) h = refl
every_entry name (suc (suc zero)) h = refl
every_entry name (suc (suc (suc a))) h = absurd (omega (arith, h.1))

type_entry : (name : List ℕ) → entry (bytes "type" ∷ name ∷ []) ≡ some (type name)
unfolding entry same with_one
type_entry name = refl

rule_entry : (text : List ℕ) → entry (bytes "rule" ∷ text ∷ []) ≡ some (rule text)
unfolding entry same with_one
rule_entry text = refl

plain_entry : (name : List ℕ) (a : ℕ) → Arity a → entry (bytes "choose" ∷ name ∷ decimal a ∷ []) ≡ some (choose name a plain [])
unfolding everything
plain_entry name zero h = absurd (omega (arith, h.0))
plain_entry name (suc zero) h = refl
plain_entry name (suc (suc zero)) h = refl
plain_entry name (suc (suc (suc zero))) h = refl
plain_entry name (suc (suc (suc (suc a)))) h = absurd (omega (arith, h.1))

kind_named_lem : (k : Kind) → is_function k ≡ true → kind_named (kind_word k) ≡ some k
unfolding kind_named kind_word is_function same
kind_named_lem static e = absurd (subst T (sym e) tt)
kind_named_lem plain e = absurd (subst T (sym e) tt)
kind_named_lem Fun e = refl
kind_named_lem PFun e = refl
kind_named_lem Inj e = refl
kind_named_lem PInj e = refl
kind_named_lem universal e = absurd (subst T (sym e) tt)

kind_entry : (name : List ℕ) (k : Kind) → is_function k ≡ true → entry (bytes "choose" ∷ name ∷ kind_word k ∷ []) ≡ some (choose name 2 k [])
unfolding entry same choose_of option
kind_entry name k e = rw (kind_named_lem k e) refl

typed_entry : (name : List ℕ) (k : Kind) (t u : List ℕ) → is_function k ≡ true → entry (bytes "choose" ∷ name ∷ kind_word k ∷ t ∷ u ∷ []) ≡ some (choose name 2 k (t ∷ u ∷ []))
unfolding entry same choose_of option
typed_entry name k t u e = rw (kind_named_lem k e) refl

kind_without : (k : Kind) → Without 9 (kind_word k) × Without 10 (kind_word k)
unfolding kind_word all
kind_without static = (tt, tt)
kind_without plain = (tt, tt)
kind_without Fun = (tt, tt)
kind_without PFun = (tt, tt)
kind_without Inj = (tt, tt)
kind_without PInj = (tt, tt)
kind_without universal = (tt, tt)

-- ---- the writing of a formula has neither of the bytes that part fields and lines
abbrev Printed : List ℕ → Type 0
Printed xs = T (all (λ b. leb 32 b) xs)

module _ (sep : ℕ) (low : sep < 32) where
  printed_without : (xs : List ℕ) → Printed xs → Without sep xs
  printed_without xs t = all_of (λ b. not (eqb b sep)) xs (λ b m. let h = leb→le 32 b (all_at (λ b. leb 32 b) xs t b m) in not_T (eqb b sep) (λ q. let e = eqb→eq b sep q in omega arith))

  variable_without : (v : List ℕ) → is_variable v ≡ true → Without sep v
  unfolding is_variable is_small is_digit is_between all
  variable_without [] e = tt
  variable_without (q ∷ []) e = absurd (subst T (sym e) tt)
  variable_without (q ∷ b ∷ bs) e =
      let t = T_and_l (eqb q 63 && is_small b && all (λ c. is_small c || is_digit c || eqb c 95) bs) _ (T_of e) in
      let u = T_and_l (eqb q 63 && is_small b) _ t in
      let mark = eqb→eq q 63 (T_and_l (eqb q 63) _ u) in
      let small = leb→le 97 b (T_and_l (leb 97 b) _ (T_and_r (eqb q 63) _ u)) in
      printed_without (q ∷ b ∷ bs) (and_T (leb 32 q) _ (le→leb 32 q (omega arith)) (and_T (leb 32 b) _ (le→leb 32 b (omega arith)) (all_of (λ c. leb 32 c) bs (λ c m. le→leb 32 c (inside c (all_at (λ c. is_small c || is_digit c || eqb c 95) bs (T_and_r (eqb q 63 && is_small b) _ t) c m))))))
    where
      inside : (c : ℕ) → T (is_small c || is_digit c || eqb c 95) → 32 ≤ c
      inside c t = ⊎_elim (λ q. ⊎_elim (λ r. let h = leb→le 97 c (T_and_l (leb 97 c) _ r) in omega arith) (λ r. let h = leb→le 48 c (T_and_l (leb 48 c) _ r) in omega arith) (T_or (is_small c) _ q)) (λ q. let e = eqb→eq c 95 q in omega arith) (T_or (is_small c || is_digit c) _ t)

  named_without : (name : List ℕ) → is_relation_name name ≡ true → Without sep name
  named_without name e = name_without sep (omega arith) name (T_of e)

  abbrev join : (xs ys : List ℕ) → Without sep xs → Without sep ys → Without sep (xs ++ ys)
  join = without_append sep

  vars_without : (vs : List (List ℕ)) → Variables vs → Without sep (write_vars vs)
  unfolding write_each all
  vars_without [] no_words = tt
  vars_without (v ∷ vs) (a_word e w) = join (32 ∷ v) (write_vars vs) (join (32 ∷ []) v (printed_without (32 ∷ []) tt) (variable_without v e)) (vars_without vs w)

  typed_without : (q : Quantified) → is_quantified q ≡ true → Without sep (write_typed q)
  unfolding is_quantified write_typed option all
  typed_without q e = join q.variable _ (variable_without q.variable (T_true _ (T_and_l (is_variable q.variable) _ (T_of e)))) (by_type q.type (T_and_r (is_variable q.variable) _ (T_of e)))
    where
      by_type : (o : Option (List ℕ)) → T (option o true is_relation_name) → Without sep (option o [] (λ t. 58 ∷ t))
      by_type none t = tt
      by_type (some name) t = join (58 ∷ []) name (printed_without (58 ∷ []) tt) (name_without sep (omega arith) name t)

  more_without : (qs : List Quantified) → AllQuantified qs → Without sep (write_more qs)
  unfolding write_each all
  more_without [] no_words = tt
  more_without (q ∷ qs) (a_word e w) = join (32 ∷ write_typed q) (write_more qs) (join (32 ∷ []) (write_typed q) (printed_without (32 ∷ []) tt) (typed_without q e)) (more_without qs w)

  list_without : (qs : List Quantified) → AllQuantified qs → Without sep (write_list qs)
  unfolding all
  list_without [] no_words = tt
  list_without (q ∷ qs) (a_word e w) = join (write_typed q) (write_more qs) (typed_without q e) (more_without qs w)

  -- a word and what comes after it
  after : (word ys : List ℕ) → Printed word → Without sep ys → Without sep (word ++ ys)
  after word ys t w = join word ys (printed_without word t) w

  ends : (xs : List ℕ) → Without sep xs → Without sep (xs ++ (41 ∷ []))
  unfolding all
  ends xs w = join xs (41 ∷ []) w (printed_without (41 ∷ []) tt)

  mutual
    unfolding write write_all write_parts all

    write_without : {k : ℕ} (f : Formula) → WellFormed k f → Without sep (write f)
    write_without (literal n vs) (g_lit e w) = after (40 ∷ []) ((n ++ write_vars vs) ++ (41 ∷ [])) tt (ends (n ++ write_vars vs) (join n (write_vars vs) (named_without n e) (vars_without vs w)))
    write_without (negation f) (g_neg w) = after not_word (write f ++ (41 ∷ [])) tt (ends (write f) (write_without f w))
    write_without (implication f g) (g_imp v w) =
        after imp_word ((write f ++ (32 ∷ write g)) ++ (41 ∷ [])) tt (ends (write f ++ (32 ∷ write g)) (join (write f) (32 ∷ write g) (write_without f v) (after (32 ∷ []) (write g) tt (write_without g w))))
    write_without (conjunction fs) (g_and v w) = after (join_word ands) (write_all fs ++ (41 ∷ [])) tt (ends (write_all fs) (all_without fs (a_good v w)))
    write_without (disjunction fs) (g_or v w) = after (join_word ors) (write_all fs ++ (41 ∷ [])) tt (ends (write_all fs) (all_without fs (a_good v w)))
    write_without (exists qs f) (g_exists v l w) =
        after (quant_word somes) ((write_list qs ++ (41 ∷ 32 ∷ write f)) ++ (41 ∷ [])) tt (ends (write_list qs ++ (41 ∷ 32 ∷ write f)) (join (write_list qs) (41 ∷ 32 ∷ write f) (list_without qs v) (after (41 ∷ 32 ∷ []) (write f) tt (write_without f w))))
    write_without (forall qs f) (g_forall v l w) =
        after (quant_word everys) ((write_list qs ++ (41 ∷ 32 ∷ write f)) ++ (41 ∷ [])) tt (ends (write_list qs ++ (41 ∷ 32 ∷ write f)) (join (write_list qs) (41 ∷ 32 ∷ write f) (list_without qs v) (after (41 ∷ 32 ∷ []) (write f) tt (write_without f w))))

    all_without : {k : ℕ} (fs : Formulas) → AllWellFormed k fs → Without sep (write_all fs)
    all_without nil no_goods = tt
    all_without (cons f fs) (a_good v w) = join (write f) (write_parts fs) (write_without f v) (parts_without fs w)

    parts_without : {k : ℕ} (fs : Formulas) → AllWellFormed k fs → Without sep (write_parts fs)
    parts_without nil no_goods = tt
    parts_without (cons f fs) (a_good v w) = after (32 ∷ []) (write f ++ write_parts fs) tt (join (write f) (write_parts fs) (write_without f v) (parts_without fs w))

-- a relation without sorts
fixed_is : (r : Relation) → RelFits r → fixed r.name r.arity ≡ r
fixed_is r F =
    ap (λ (k : Kind). record { name = r.name; arity = r.arity; kind = k; firsts = 0; seconds = 0 }) (sym F.is_static_lem)
    ∙ ap₂ (λ (x y : ℕ). record { name = r.name; arity = r.arity; kind = r.kind; firsts = x; seconds = y }) (sym F.no_sorts.0) (sym F.no_sorts.1)

-- that of an `every` line
varying_is : (r : Relation) → EveryFits r → varying r.name r.arity ≡ r
varying_is r F =
    ap (λ (k : Kind). record { name = r.name; arity = r.arity; kind = k; firsts = 0; seconds = 0 }) (sym F.is_universal_lem)
    ∙ ap₂ (λ (x y : ℕ). record { name = r.name; arity = r.arity; kind = r.kind; firsts = x; seconds = y }) (sym F.no_sorts.0) (sym F.no_sorts.1)

-- a name that no earlier relation has
apart_middle : (ks : List Relation) (k : Relation) (more : List Relation) → Apart (ks ++ (k ∷ more)) → is_declared ks k.name ≡ false
unfolding Apart is_declared any
apart_middle [] k more a = refl
apart_middle (j ∷ ks) k more a = or_false (same j.name k.name) _
    (T_false (same j.name k.name) (λ t. T_not (is_declared (ks ++ (k ∷ more)) j.name) a.0
    (any_of (λ (r : Relation). same r.name j.name) (ks ++ (k ∷ more)) k (mathlib.Core.List.Memᴰ.append_right ks (mathlib.Core.List.Memᴰ.head refl)) (subst (λ (x : List ℕ). T (same x j.name)) (same_eq j.name k.name t) (same_refl j.name)))))
    (apart_middle ks k more a.1)

-- a list of at most one
sole : {A : Type 0} (o : Option A) {k : A} {more : List A} → k ∷ more ≡ listed o → o ≡ some k
unfolding listed
sole none e = absurd (nil≢cons (sym e))
sole (some a) e = ap some (sym (ap (λ l. get_or l 0 a) e))

two : {A : Type 0} (o : Option A) (j k : A) (acc more : List A) → j ∷ (acc ++ (k ∷ more)) ≡ listed o → ⊥
unfolding listed
two none j k acc more e = nil≢cons (sym e)
two (some a) j k acc more e = let l = ap length e in let q = length-append acc (k ∷ more) in absurd (omega (arith, l, q))

module _ (q : Question) (I : QuestionIs q) where
  abbrev F : QuestionFits q
  F = I.fits

  abbrev R : QuestionItem → List (List ℕ) → Type 0
  R = QuestionLine q.types

  adds : (d m : Draft) (at : ℕ) (w : List ℕ) (gs fs : List (List ℕ)) (e : Entry) → fs ≡ w ∷ gs → AllWithout 9 (w ∷ gs) → entry (w ∷ gs) ≡ some e → add_to_question d at e ≡ accepted m → question_line d (ended at (joined fs)) ≡ accepted m
  unfolding question_line ◌>>=◌
  adds d m at w gs fs e s v r a = ap (λ (x : List (List ℕ)). question_line d (ended at (joined x))) s ∙ ap (λ (r : Result Entry). r >>= add_to_question d at) (entry_joined at w gs e v r) ∙ a

  few_before : {A : Type 0} (acc : List A) (x : A) (more l : List A) (k : ℕ) → acc ++ (x ∷ more) ≡ l → length l ≤ k → leb k (length acc) ≡ false
  few_before acc x more l k e h = let q = ap length e in let r = length-append acc (x ∷ more) in lt-leb k (length acc) (omega arith)

  rels_at : List Relation → Draft
  rels_at rs = record { rels = rs; types = []; chosen = []; every = none; ruled = none }

  -- (what is declared after the `rel` lines, and after the `choose` lines)
  abbrev lastly : List Relation
  lastly = q.chosen ++ listed q.every

  rel_new : (acc : List Relation) (r : Relation) (more : List Relation) → acc ++ (r ∷ more) ≡ q.rels → is_declared (relations acc [] none) r.name ≡ false
  unfolding relations relations_of listed
  rel_new acc r more e = apart_middle (built_in ++ (acc ++ [])) r (more ++ lastly) (subst Apart (sym whole) F.apart)
    where
      whole : (built_in ++ (acc ++ [])) ++ (r ∷ (more ++ lastly)) ≡ built_in ++ (q.rels ++ lastly)
      whole = ap (λ (l : List Relation). (built_in ++ l) ++ (r ∷ (more ++ lastly))) (append-nil acc) ∙ append_assoc built_in acc (r ∷ (more ++ lastly))
          ∙ ap (λ (l : List Relation). built_in ++ l) (sym (append_assoc acc (r ∷ more) lastly) ∙ ap (λ (l : List Relation). l ++ lastly) e)

  rel_adds : (acc : List Relation) (r : Relation) (at : ℕ) → leb rel_limit (length acc) ≡ false → is_relation_name r.name ≡ true → is_declared (relations acc [] none) r.name ≡ false → RelFits r
      → add_to_question (rels_at acc) at (rel r.name r.arity) ≡ accepted (rels_at (acc ++ (r ∷ [])))
  unfolding add_to_question add_rel is_new_name is_empty refuse_if ◌>>=◌ rels_at
  rel_adds acc r at a b c f = rw (a, b, c) (ap (λ (k : Relation). accepted (record { rels = acc ++ (k ∷ []); types = []; chosen = []; every = none; ruled = none })) (fixed_is r f))

  rel_read : (acc : List Relation) (r : Relation) (more : List Relation) → acc ++ (r ∷ more) ≡ q.rels → (at : ℕ) (fs : List (List ℕ)) → R (a_rel r) fs → (question_line (rels_at acc) (ended at (joined fs)) ≡ accepted (rels_at (acc ++ (r ∷ [])))) × AllWithout 10 fs
  unfolding QuestionLine AllWithout all
  rel_read acc r more e at fs s =
      let i : Memᴰ r q.rels = subst (λ (x : List Relation). Memᴰ r x) e (mathlib.Core.List.Memᴰ.append_right acc (mathlib.Core.List.Memᴰ.head refl)) in
      let formed = I.rels_named r i in (
        adds (rels_at acc) _ at (bytes "rel") (r.name ∷ decimal r.arity ∷ []) fs (rel r.name r.arity) s (tt, (name_without 9 (omega arith) r.name formed, (decimal_without 9 (omega arith) r.arity, tt)))
            (rel_entry r.name r.arity (F.rels_fit r i).few) (rel_adds acc r at (few_before acc r more q.rels rel_limit e I.rels_few) (T_true _ formed) (rel_new acc r more e) (F.rels_fit r i)),
        subst (AllWithout 10) (sym s) (tt, (name_without 10 (omega arith) r.name formed, (decimal_without 10 (omega arith) r.arity, tt))),
      )

  types_at : List (List ℕ) → Draft
  types_at ts = record { rels = q.rels; types = ts; chosen = []; every = none; ruled = none }

  type_adds : (acc : List (List ℕ)) (t : List ℕ) (at : ℕ) → leb type_limit (length acc) ≡ false → is_relation_name t ≡ true → is_type acc t ≡ false → add_to_question (types_at acc) at (type t) ≡ accepted (types_at (acc ++ (t ∷ [])))
  unfolding add_to_question add_type is_empty refuse_if ◌>>=◌ types_at
  type_adds acc t at a b c = rw (a, b, c) refl

  type_read : (acc : List (List ℕ)) (t : List ℕ) (more : List (List ℕ)) → acc ++ (t ∷ more) ≡ q.types → (at : ℕ) (fs : List (List ℕ)) → R (a_type t) fs → (question_line (types_at acc) (ended at (joined fs)) ≡ accepted (types_at (acc ++ (t ∷ [])))) × AllWithout 10 fs
  unfolding QuestionLine AllWithout all is_type
  type_read acc t more e at fs s =
      let i : Memᴰ t q.types = subst (λ (x : List (List ℕ)). Memᴰ t x) e (mathlib.Core.List.Memᴰ.append_right acc (mathlib.Core.List.Memᴰ.head refl)) in
      let formed = F.types_fit.named t i in
      let new : any (λ x. same x t) acc ≡ false = any_none (λ x. same x t) acc (λ x m. T_false (same x t) (λ h. once_middle acc more t (subst Once (sym e) F.types_fit.once) (subst (λ (y : List ℕ). Memᴰ y acc) (same_eq x t h) m))) in (
        adds (types_at acc) _ at (bytes "type") (t ∷ []) fs (type t) s (tt, (name_without 9 (omega arith) t formed, tt)) (type_entry t) (type_adds acc t at (few_before acc t more q.types type_limit e F.types_fit.few) (T_true _ formed) new),
        subst (AllWithout 10) (sym s) (tt, (name_without 10 (omega arith) t formed, tt)),
      )

  chosen_at : List Relation → Draft
  chosen_at ks = record { rels = q.rels; types = q.types; chosen = ks; every = none; ruled = none }

  choose_new : (acc : List Relation) (k : Relation) (more : List Relation) → acc ++ (k ∷ more) ≡ q.chosen → is_declared (relations q.rels acc none) k.name ≡ false
  unfolding relations relations_of listed
  choose_new acc k more e = apart_middle (built_in ++ (q.rels ++ (acc ++ []))) k (more ++ listed q.every) (subst Apart (sym whole) F.apart)
    where
      whole : (built_in ++ (q.rels ++ (acc ++ []))) ++ (k ∷ (more ++ listed q.every)) ≡ built_in ++ (q.rels ++ lastly)
      whole = ap (λ (l : List Relation). (built_in ++ (q.rels ++ l)) ++ (k ∷ (more ++ listed q.every))) (append-nil acc)
          ∙ append_assoc built_in (q.rels ++ acc) (k ∷ (more ++ listed q.every))
          ∙ ap (λ (l : List Relation). built_in ++ l) (append_assoc q.rels acc (k ∷ (more ++ listed q.every)))
          ∙ ap (λ (l : List Relation). built_in ++ (q.rels ++ l)) (sym (append_assoc acc (k ∷ more) (listed q.every)) ∙ ap (λ (l : List Relation). l ++ listed q.every) e)

  abbrev Made : ℕ → Kind → List (List ℕ) → Relation → Relation
  Made a kind names k = record { name = k.name; arity = a; kind = kind; firsts = place_sort q.types names 0; seconds = place_sort q.types names 1 }

  choose_adds : (acc : List Relation) (k : Relation) (at a : ℕ) (kind : Kind) (names : List (List ℕ)) → leb choose_limit (length acc) ≡ false → is_relation_name k.name ≡ true → is_declared (relations q.rels acc none) k.name ≡ false → all (is_type q.types) names ≡ true
      → Made a kind names k ≡ k → add_to_question (chosen_at acc) at (choose k.name a kind names) ≡ accepted (chosen_at (acc ++ (k ∷ [])))
  unfolding add_to_question add_choose is_new_name is_ruled is_some refuse_if ◌>>=◌ chosen_at
  choose_adds acc k at a kind names x y z t e = rw (x, y, z, t) (ap (λ (j : Relation). accepted (record { rels = q.rels; types = q.types; chosen = acc ++ (j ∷ []); every = none; ruled = none })) e)

  -- the relation that a line makes is the one it spells
  made_is : (k : Relation) (a : ℕ) (kind : Kind) (names : List (List ℕ)) → k.arity ≡ a → k.kind ≡ kind → k.firsts ≡ place_sort q.types names 0 → k.seconds ≡ place_sort q.types names 1 → Made a kind names k ≡ k
  made_is k a kind names x y z w =
      ap₂ (λ (b : ℕ) (t : Kind). record { name = k.name; arity = b; kind = t; firsts = place_sort q.types names 0; seconds = place_sort q.types names 1 }) (sym x) (sym y)
      ∙ ap₂ (λ (b c : ℕ). record { name = k.name; arity = k.arity; kind = k.kind; firsts = b; seconds = c }) (sym z) (sym w)

  sort_at : (i : ℕ) → i < length q.types → sort_named q.types (get_or q.types i []) ≡ suc i
  unfolding sort_named option
  sort_at i h = rw (type_at q.types i F.types_fit.once h) refl

  is_type_lem : (i : ℕ) → i < length q.types → T (is_type q.types (get_or q.types i []))
  unfolding is_type
  is_type_lem i h = any_of (λ t. same t (get_or q.types i [])) q.types (get_or q.types i []) (get_or_mem q.types i [] h) (same_refl (get_or q.types i []))

  choose_read : (acc : List Relation) (k : Relation) (more : List Relation) → acc ++ (k ∷ more) ≡ q.chosen → (at : ℕ) (fs : List (List ℕ)) → R (a_choose k) fs → (question_line (chosen_at acc) (ended at (joined fs)) ≡ accepted (chosen_at (acc ++ (k ∷ [])))) × AllWithout 10 fs
  unfolding QuestionLine AllWithout all place_sort is_function
  choose_read acc k more e at fs s =
      let i : Memᴰ k q.chosen = subst (λ (x : List Relation). Memᴰ k x) e (mathlib.Core.List.Memᴰ.append_right acc (mathlib.Core.List.Memᴰ.head refl)) in
      let formed = F.chosen_named k i in
      let fit = F.chosen_fit k i in
      let sorts = F.chosen_sorted k i in
      let few = few_before acc k more q.chosen choose_limit e I.chosen_few in
      let new = choose_new acc k more e in
      let n₉ = name_without 9 (omega arith) k.name formed in
      let n₁₀ = name_without 10 (omega arith) k.name formed in
      let (k₉, k₁₀) = kind_without k.kind in
      ⊎_elim
      (λ (p, r).
      let none_sorted = sorts.no_sorts (ap is_function p) in (
        adds (chosen_at acc) _ at (bytes "choose") (k.name ∷ decimal k.arity ∷ []) fs (choose k.name k.arity plain []) r (tt, (n₉, (decimal_without 9 (omega arith) k.arity, tt))) (plain_entry k.name k.arity fit.few)
            (choose_adds acc k at k.arity plain [] few (T_true _ formed) new refl (made_is k k.arity plain [] refl p none_sorted.0 none_sorted.1)),
        subst (AllWithout 10) (sym r) (tt, (n₁₀, (decimal_without 10 (omega arith) k.arity, tt))),
      ))
      (λ c. ⊎_elim
      (λ (p, x, y, r). (
        adds (chosen_at acc) _ at (bytes "choose") (k.name ∷ kind_word k.kind ∷ []) fs (choose k.name 2 k.kind []) r (tt, (n₉, (k₉, tt))) (kind_entry k.name k.kind p)
            (choose_adds acc k at 2 k.kind [] few (T_true _ formed) new refl (made_is k 2 k.kind [] (fit.pairs (T_of p)) refl x y)),
        subst (AllWithout 10) (sym r) (tt, (n₁₀, (k₁₀, tt))),
      ))
      (λ (p, a, b, x, y, la, lb, r).
      let t = get_or q.types a [] in
      let u = get_or q.types b [] in
      let t-formed = F.types_fit.named t (get_or_mem q.types a [] la) in
      let u-formed = F.types_fit.named u (get_or_mem q.types b [] lb) in (
        adds (chosen_at acc) _ at (bytes "choose") (k.name ∷ kind_word k.kind ∷ t ∷ u ∷ []) fs (choose k.name 2 k.kind (t ∷ u ∷ [])) r
            (tt, (n₉, (k₉, (name_without 9 (omega arith) t t-formed, (name_without 9 (omega arith) u u-formed, tt))))) (typed_entry k.name k.kind t u p)
            (choose_adds acc k at 2 k.kind (t ∷ u ∷ []) few (T_true _ formed) new (T_true _ (and_T (is_type q.types t) _ (is_type_lem a la) (and_T (is_type q.types u) _ (is_type_lem b lb) tt)))
            (made_is k 2 k.kind (t ∷ u ∷ []) (fit.pairs (T_of p)) refl (x ∙ sym (sort_at a la)) (y ∙ sym (sort_at b lb)))),
        subst (AllWithout 10) (sym r) (tt, (n₁₀, (k₁₀, (name_without 10 (omega arith) t t-formed, (name_without 10 (omega arith) u u-formed, tt))))),
      ))
      c) s

  -- an `every` line
  some_chosen : is_empty q.chosen ≡ false
  some_chosen = T_false (is_empty q.chosen) (T_not (is_empty q.chosen) F.rule_fits.some_chosen)

  first_of : List Relation → Option Relation
  first_of [] = none
  first_of (k ∷ ks) = some k

  first_listed : (o : Option Relation) → first_of (listed o) ≡ o
  unfolding listed first_of
  first_listed none = refl
  first_listed (some k) = refl

  every_at : List Relation → Draft
  every_at ks = record { rels = q.rels; types = q.types; chosen = q.chosen; every = first_of ks; ruled = none }

  every_new : (k : Relation) → q.every ≡ some k → is_declared (relations q.rels q.chosen none) k.name ≡ false
  unfolding relations relations_of listed
  every_new k e = apart_middle (built_in ++ (q.rels ++ (q.chosen ++ []))) k [] (subst Apart (sym whole) F.apart)
    where
      whole : (built_in ++ (q.rels ++ (q.chosen ++ []))) ++ (k ∷ []) ≡ built_in ++ (q.rels ++ lastly)
      whole = ap (λ (l : List Relation). (built_in ++ (q.rels ++ l)) ++ (k ∷ [])) (append-nil q.chosen) ∙ append_assoc built_in (q.rels ++ q.chosen) (k ∷ [])
          ∙ ap (λ (l : List Relation). built_in ++ l) (append_assoc q.rels q.chosen (k ∷ [])) ∙ ap (λ (o : Option Relation). built_in ++ (q.rels ++ (q.chosen ++ listed o))) (sym e)

  every_adds : (k : Relation) (at : ℕ) → is_relation_name k.name ≡ true → is_declared (relations q.rels q.chosen none) k.name ≡ false → EveryFits k
      → add_to_question (every_at []) at (every k.name k.arity) ≡ accepted (every_at (k ∷ []))
  unfolding add_to_question add_every is_new_name is_ruled is_some refuse_if ◌>>=◌ every_at first_of
  every_adds k at y z fit = rw (some_chosen, y, z) (ap (λ (j : Relation). accepted (record { rels = q.rels; types = q.types; chosen = q.chosen; every = some j; ruled = none })) (varying_is k fit))

  every_read : (acc : List Relation) (k : Relation) (more : List Relation) → acc ++ (k ∷ more) ≡ listed q.every → (at : ℕ) (fs : List (List ℕ)) → R (an_every k) fs → (question_line (every_at acc) (ended at (joined fs)) ≡ accepted (every_at (acc ++ (k ∷ [])))) × AllWithout 10 fs
  unfolding QuestionLine AllWithout all Holds
  every_read [] k more e at fs s =
      let is = sole q.every e in
      let fit = subst (Holds EveryFits) is F.every_fits in
      let formed = fit.named in (
        adds (every_at []) _ at (bytes "every") (k.name ∷ decimal k.arity ∷ []) fs (every k.name k.arity) s (tt, (name_without 9 (omega arith) k.name formed, (decimal_without 9 (omega arith) k.arity, tt)))
            (every_entry k.name k.arity fit.few) (every_adds k at (T_true _ formed) (every_new k is) fit),
        subst (AllWithout 10) (sym s) (tt, (name_without 10 (omega arith) k.name formed, (decimal_without 10 (omega arith) k.arity, tt))),
      )
  every_read (j ∷ acc) k more e at fs s = absurd (two q.every j k acc more e)

  -- the rule's line, at its place
  declared : Draft
  declared = record { rels = q.rels; types = q.types; chosen = q.chosen; every = q.every; ruled = none }

  rule_adds : (at : ℕ) → add_to_question declared at (rule q.rule.text) ≡ accepted (record { rels = q.rels; types = q.types; chosen = q.chosen; every = q.every; ruled = some (record { at = at + 5; text = q.rule.text; formula = q.rule.formula }) })
  unfolding add_to_question add_rule is_ruled given refuse_if ◌>>=◌ declared
  rule_adds at =
      let G = F.rule_fits in
      let parsed = (Writing.accepted_texts q.rule.text q.rule.formula).1 (I.formed, I.written) in
      let known = T_true (is_known (relations q.rels q.chosen q.every) q.rule.formula) G.known in
      let scoped = T_true (is_scoped [] q.rule.formula) G.scoped in
      let typed = T_true (is_typed q.types q.rule.formula) G.typed in
      rw (some_chosen, parsed, le-ltb form_limit (all_forms q.chosen q.rule.formula) G.few_forms, le-ltb nesting_limit (nesting q.rule.formula) G.nested, known, scoped, typed) refl

  abbrev ruled_at : ℕ → Draft
  ruled_at at = record { rels = q.rels; types = q.types; chosen = q.chosen; every = q.every; ruled = some (record { at = at; text = q.rule.text; formula = q.rule.formula }) }

  lines_back : (text : List ℕ) → LineByLine R (question_items q) text → q.rule.at + length q.rule.text + 1 ≡ length text
      → read_lines question_line (rels_at []) (lines_from zero (split 10 text)) ≡ accepted (record { rels = q.rels; types = q.types; chosen = q.chosen; every = q.every; ruled = some q.rule })
  unfolding question_items LineByLine QuestionLine AllWithout all rels_at types_at chosen_at every_at first_of declared print_line ◌>>=◌
  lines_back text h place =
      let final = the_rule q.rule ∷ [] in
      let every-on = map an_every (listed q.every) ++ final in
      let A = run_read question_line R a_rel rels_at q.rels rel_read q.rels [] (map a_type q.types ++ (map a_choose q.chosen ++ every-on)) zero text refl h in
      let B = run_read question_line R a_type types_at q.types type_read q.types [] (map a_choose q.chosen ++ every-on) A.next A.rest refl A.left in
      let C = run_read question_line R a_choose chosen_at q.chosen choose_read q.chosen [] every-on B.next B.rest refl B.left in
      let D = run_read question_line R an_every every_at (listed q.every) every_read (listed q.every) [] final C.next C.rest refl C.left in
      A.same_reading ∙ B.same_reading ∙ C.same_reading ∙ D.same_reading ∙ ap (λ (d : Draft). read_lines question_line d (lines_from D.next (split 10 D.rest))) whole
      ∙ last D.next D.rest (omega (arith, A.place, B.place, C.place, D.place)) D.left
    where
      whole : every_at (listed q.every) ≡ declared
      whole = ap (λ (o : Option Relation). record { rels = q.rels; types = q.types; chosen = q.chosen; every = o; ruled = none }) (first_listed q.every)

      here : (next : ℕ) (rest : List ℕ) (fs : List (List ℕ)) (end : List ℕ) → next + length rest ≡ length text → fs ≡ bytes "rule" ∷ q.rule.text ∷ [] → rest ≡ print_line fs ++ end → end ≡ [] → next + 5 ≡ q.rule.at
      here next rest fs end e s r z =
          let l = ap length (r ∙ ap₂ (λ (x : List (List ℕ)) (y : List ℕ). print_line x ++ y) s z) in
          let m = length-append (q.rule.text ++ (10 ∷ [])) [] in
          let n = length-append q.rule.text (10 ∷ []) in
          omega (arith, l, m, n)

      last : (next : ℕ) (rest : List ℕ) → next + length rest ≡ length text → LineByLine R (the_rule q.rule ∷ []) rest
          → read_lines question_line declared (lines_from next (split 10 rest)) ≡ accepted (record { rels = q.rels; types = q.types; chosen = q.chosen; every = q.every; ruled = some q.rule })
      last next rest e (fs, s, (end, r, z)) =
          let w₉ = subst (Without 9) (sym I.written) (write_without 9 (omega arith) q.rule.formula I.formed) in
          let w₁₀ = subst (Without 10) (sym I.written) (write_without 10 (omega arith) q.rule.formula I.formed) in
          ap (λ (x : List ℕ). read_lines question_line declared (lines_from next (split 10 x))) r
          ∙ print_then question_line declared next fs end (subst (AllWithout 10) (sym s) (tt, (w₁₀, tt)))
          ∙ ap (λ (x : Result Draft). x >>= λ d. read_lines question_line d (lines_from (next + length (joined fs) + 1) (split 10 end))) (adds declared _ next (bytes "rule") (q.rule.text ∷ []) fs (rule q.rule.text) s (tt, (w₉, tt)) (rule_entry q.rule.text) (rule_adds next))
          ∙ ap (λ (x : List ℕ). read_lines question_line (ruled_at (next + 5)) (lines_from (next + length (joined fs) + 1) (split 10 x))) z ∙ read_end question_line (ruled_at (next + 5)) (next + length (joined fs) + 1)
          ∙ ap (λ (x : ℕ). accepted (ruled_at x)) (here next rest fs end e s r z)

  pub question_back : (text : List ℕ) → LineByLine R (question_items q) text → q.rule.at + length q.rule.text + 1 ≡ length text → length text ≤ text_limit → read_question text ≡ accepted q
  unfolding read_question given ◌>>=◌ rels_at
  question_back text h place l = rw (within question_line (rels_at []) text l ∙ lines_back text h place) refl

-- ---- the rule is the last line, so its place is known
module _ (types : List (List ℕ)) (r s : Rule) (same_text : r.text ≡ s.text) where
  last_line_lem : (items : List QuestionItem) (text : List ℕ) → LineByLine (QuestionLine types) (items ++ (the_rule r ∷ [])) text → LineByLine (QuestionLine types) (items ++ (the_rule s ∷ [])) text × (length r.text + 1 ≤ length text)
  unfolding LineByLine QuestionLine print_line
  last_line_lem [] text (fs, e, (rest, q, z)) =
      let l = ap length (q ∙ ap (λ (x : List (List ℕ)). print_line x ++ rest) e) in
      let m = length-append (r.text ++ (10 ∷ [])) rest in
      let n = length-append r.text (10 ∷ []) in
      ((fs, e ∙ ap (λ (x : List ℕ). bytes "rule" ∷ x ∷ []) same_text, (rest, q, z)), omega (arith, l, m, n))
  last_line_lem (a ∷ items) text (fs, e, (rest, q, h)) =
      let (g, l) = last_line_lem items rest h in
      let k = ap length q ∙ length-append (print_line fs) rest in
      ((fs, e, (rest, q, g)), omega (arith, k))

abbrev placed : Question → ℕ → Question
placed q at = record { rels = q.rels; types = q.types; chosen = q.chosen; every = q.every; rule = record { at = at; text = q.rule.text; formula = q.rule.formula } }

abbrev before : Question → List QuestionItem
before q = map a_rel q.rels ++ (map a_type q.types ++ (map a_choose q.chosen ++ map an_every (listed q.every)))

items_end : (q : Question) → question_items q ≡ before q ++ (the_rule q.rule ∷ [])
unfolding question_items
items_end q =
    ap (λ (l : List QuestionItem). map a_rel q.rels ++ (map a_type q.types ++ l)) (sym (append_assoc (map a_choose q.chosen) (map an_every (listed q.every)) (the_rule q.rule ∷ [])))
    ∙ at_third (map a_rel q.rels) (map a_type q.types) (map a_choose q.chosen ++ map an_every (listed q.every)) (the_rule q.rule)

placed_is : (q : Question) (at : ℕ) → QuestionIs q → QuestionIs (placed q at)
unfolding relations_of
placed_is q at I =
    let F = I.fits in
    let G = F.rule_fits in
    record {
      rels_few = I.rels_few;
      rels_named = I.rels_named;
      chosen_few = I.chosen_few;
      formed = I.formed;
      written = I.written;
      fits = record {
        rels_fit = F.rels_fit;
        types_fit = F.types_fit;
        chosen_fit = F.chosen_fit;
        chosen_named = F.chosen_named;
        chosen_sorted = F.chosen_sorted;
        every_fits = F.every_fits;
        apart = F.apart;
        rule_fits = record { scoped = G.scoped; known = G.known; typed = G.typed; nested = G.nested; few_forms = G.few_forms; some_chosen = G.some_chosen };
      };
    }

-- a text is read as a question exactly if it spells it so
pub question_texts : (text : List ℕ) (q : Question)
    → (read_question text ≡ accepted q) ↔ (LineByLine (QuestionLine q.types) (question_items q) text × (length text ≤ text_limit) × (q.rule.at + length q.rule.text + 1 ≡ length text) × QuestionIs q)
question_texts text q = (
  (λ e.
      let (h, l, I) = question_told text q e in
      let at = length text - length q.rule.text - 1 in
      let (g, long) = last_line_lem q.types q.rule (placed q at).rule refl (before q) text (subst (λ (items : List QuestionItem). LineByLine (QuestionLine q.types) items text) (items_end q) h) in
      let place : at + length q.rule.text + 1 ≡ length text = omega arith in
      let again = question_back (placed q at) (placed_is q at I) text (subst (λ (items : List QuestionItem). LineByLine (QuestionLine q.types) items text) (sym (items_end (placed q at))) g) place l in
      (h, l, ap (λ (x : Question). x.rule.at + length q.rule.text + 1) (accepted_eq q (placed q at) (sym e ∙ again)) ∙ place, I)),
  (λ w. let (h, l, place, I) = w in question_back q I text h place l),
)

-- ---- so its relations and types are such as a site's lines may name
pub declared_of : (q : Question) → QuestionIs q → Declared q.rels q.types
unfolding relations_of relations
declared_of q I = record {
  rels_named = I.rels_named;
  rels_few = λ k m. (I.fits.rels_fit k m).few;
  rels_apart = apart_left q.rels (q.chosen ++ listed q.every) (apart_right built_in (q.rels ++ (q.chosen ++ listed q.every)) I.fits.apart);
  types_fit = I.fits.types_fit;
}

-- both sheets
pub filed_texts : (L : CaseLimits) (question site : List ℕ) (q : Question) (s : Labelled)
    → (read_filed L question site ≡ accepted (record { case = record { question = q; site = s.site }; labels = s.labels })) ↔ ((read_question question ≡ accepted q) × (read_site L q.rels q.types site ≡ accepted s))
unfolding read_filed ◌>>=◌
filed_texts L question site q s = (
  (λ e.
      let (x, a, b) = bind_parts (read_question question) _ _ e in
      let (y, c, d) = bind_parts (read_site L x.rels x.types site) _ _ b in
      let w = accepted_eq _ _ d in
      let i : x ≡ q = ap (λ (r : CaseRead). r.case.question) w in
      let j : y ≡ s = ap (λ (r : CaseRead). record { site = r.case.site; labels = r.labels }) w in
      (a ∙ ap accepted i, subst₂ (λ (x : Question) (y : Labelled). read_site L x.rels x.types site ≡ accepted y) i j c)),
  (λ h. let (a, b) = h in rw (a, b) refl),
)
