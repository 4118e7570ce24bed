-- Laws of fields and entries.
use Rattle.std.specs.Prelude.{Some, None}
use Rattle.std.specs.Prelude as P
use Rattle.std.specs.Prelude.{if◌then◌else◌}
use Prim.Native.Nat.{ℕ, zero, suc, ◌+◌, ◌≤◌, ◌<◌}
use mathlib.Core.Path.{◌≡◌, refl, sym, ap, subst, ◌∙◌}
use mathlib.Core.Bool.{Bool, true, false}
use mathlib.Core.List.{List, [], ◌∷◌}
use mathlib.Core.Option.{Option, none, some}
use native.Mathlib.Omega.{arith}
use native.Mathlib.Decide.{dec_lt}
use lib.Dec.{eqb, leb, leb-suc-suc}
use lib.ListN.{length}
use lib.Seq.{slice, length-slice}
use borrow.Author.Tests.{le-leb, lt-leb, eq-eqb, ne_eqb}
use Rattle.definitions.specs.Lists.{same, option, is_empty}
use Rattle.definitions.specs.Sheet.Text.{split, fields, lines_from, is_between, number, is_relation_name}
use Rattle.definitions.specs.Sheet.Relations.{plain}
use Rattle.definitions.specs.Refusal.{given}
use Rattle.definitions.specs.Sheet.Sheets as S
use Rattle.laws.specs.Decimals.{decimal_number}
use Rattle.laws.specs.Labels.{option_parts}
use Rattle.laws.specs.Booleans.{T_of}
use Rattle.laws.specs.Lists.{none_some, some_eq}
use Rattle.laws.specs.Tuples.{same_eq}
use Rattle.read_text.specs.Spans.{index_of, option_of, kind_of}
use Rattle.read_line.specs.Lines.{lines_at}
use Rattle.read_line.specs.Entries.{OneField, OneNumber, numbered, TwoFields, arity_to, with_arity, NameAndArity, Named, code_of, codes_in, codes_of, codes, element_by, elements_by, list_of, consed, up_to, kind_number, KindNamed, type_of, rule_of, made, Says, TellsAfter, TellsAt, entry_in, Reads}
use Rattle.read_line.specs.declared.Word.{Word}
use Rattle.read_line.specs.declared.Word.TheVariants as W
use Rattle.read_line.specs.declared.Kind.{Kind}
use Rattle.read_line.specs.declared.Kind.TheVariants.{Fun, PFun, Inj, PInj}
use Rattle.read_line.specs.declared.Places.{Places}
use Rattle.read_line.specs.declared.Places.TheVariants.{One, Two, Three}
use Rattle.read_line.specs.declared.Entry.{Entry}
use Rattle.read_line.specs.declared.Entry.TheVariants.{Wrong}
use Rattle.read_text.proofs.Laws.{slice_all, slice_done, pieces_at, pieces_whole, end_within, split_some}

-- ---- one field, two fields

not_one : (make : List ℕ → Option S.Entry) (f : List ℕ) (fs : List (List ℕ)) → 0 < length fs → S.with_one make (f ∷ fs) ≡ none
unfolding S.with_one
not_one make f [] h = absurd (omega arith)
not_one make f (g ∷ fs) h = refl

not_two : (make : List ℕ → List ℕ → Option S.Entry) (f g : List ℕ) (fs : List (List ℕ)) → 0 < length fs → S.with_two make (f ∷ g ∷ fs) ≡ none
unfolding S.with_two
not_two make f g [] h = absurd (omega arith)
not_two make f g (k ∷ fs) h = refl

two_of_one : (make : List ℕ → List ℕ → Option S.Entry) (f : List ℕ) → S.with_two make (f ∷ []) ≡ none
unfolding S.with_two
two_of_one make f = refl

module _ (a e : ℕ) (s : List ℕ) (h : a ≤ e) (k : e ≤ length s) (t : ℕ) (q : t ≡ a + index_of 9 (slice a e s)) where
  one_yes : e ≤ t → OneField s a e true
  unfolding OneField
  one_yes l = pieces_whole 9 a e s h k t q l

  one_no : t < e → OneField s a e false
  unfolding OneField
  one_no l make = ap (S.with_one make) (pieces_at 9 a e s h k t q l) ∙ not_one make (slice a t s) (split 9 (slice (t + 1) e s)) (split_some 9 (slice (t + 1) e s))

  pub one_tab : OneField s a e (eqb t e)
  one_tab = from_this (dec_lt t e)
    where
      from_this : Dec (t < e) → OneField s a e (eqb t e)
      from_this (yes l) = rw (ne_eqb t e (λ z. omega arith)) (one_no l)
      from_this (no l) = rw (eq-eqb t e (omega (arith, end_within 9 a e s h k))) (one_yes (omega arith))

  pub two_none : e ≤ t → TwoFields s a e None
  unfolding TwoFields
  two_none l make = ap (S.with_two make) (pieces_whole 9 a e s h k t q l) ∙ two_of_one make (slice a e s)

  module _ (l : t < e) (u : ℕ) (r : u ≡ (t + 1) + index_of 9 (slice (t + 1) e s)) where
    pub two_more : u < e → TwoFields s a e None
    unfolding TwoFields
    two_more m make =
        ap (S.with_two make) (pieces_at 9 a e s h k t q l ∙ ap (λ (fs : List (List ℕ)). slice a t s ∷ fs) (pieces_at 9 (t + 1) e s (omega arith) k u r m))
        ∙ not_two make (slice a t s) (slice (t + 1) u s) (split 9 (slice (u + 1) e s)) (split_some 9 (slice (u + 1) e s))

    pub two_yes : e ≤ u → TwoFields s a e (Some t)
    unfolding TwoFields
    two_yes m = (omega arith, l, pieces_at 9 a e s h k t q l ∙ ap (λ (fs : List (List ℕ)). slice a t s ∷ fs) (pieces_whole 9 (t + 1) e s (omega arith) k u r m))

-- what TwoFields says
pub two_bad : (s : List ℕ) (a e : ℕ) → TwoFields s a e None → (make : List ℕ → List ℕ → Option S.Entry) → none ≡ S.with_two make (split 9 (slice a e s))
unfolding TwoFields
two_bad s a e w make = sym (w make)

module _ (s : List ℕ) (a e t : ℕ) (w : TwoFields s a e (Some t)) where
  pub two_bounds : (a ≤ t) × (t < e)
  unfolding TwoFields
  two_bounds = (w.0, w.1)

  pub two_is : (make : List ℕ → List ℕ → Option S.Entry) → S.with_two make (split 9 (slice a e s)) ≡ make (slice a t s) (slice (t + 1) e s)
  unfolding TwoFields S.with_two
  two_is make = ap (S.with_two make) w.2

pub one_bad : (s : List ℕ) (a e : ℕ) (b : Bool) → b ≡ false → OneField s a e b → (make : List ℕ → Option S.Entry) → S.with_one make (split 9 (slice a e s)) ≡ none
unfolding OneField
one_bad s a e false p w make = w make
one_bad s a e true p w make = let z : ◌≡◌ {A = ℕ} 0 1 = cc in absurd (omega arith)

pub one_is : (s : List ℕ) (a e : ℕ) (b : Bool) → b ≡ true → OneField s a e b → (make : List ℕ → Option S.Entry) → S.with_one make (split 9 (slice a e s)) ≡ make (slice a e s)
unfolding OneField S.with_one
one_is s a e false p w make = let z : ◌≡◌ {A = ℕ} 0 1 = cc in absurd (omega arith)
one_is s a e true p w make = ap (S.with_one make) w

-- ---- numbers

pub num_is : (o : Option ℕ) (n : P.Option ℕ) (k : ℕ) → n ≡ Some k → n ≡ option_of o → o ≡ some k
num_is none n k p q = let z : ◌≡◌ {A = ℕ} 0 1 = cc in absurd (omega arith)
num_is (some j) n k p q = cc

pub num_bad : (o : Option ℕ) (n : P.Option ℕ) → n ≡ None → n ≡ option_of o → o ≡ none
num_bad none n p q = refl
num_bad (some j) n p q = let z : ◌≡◌ {A = ℕ} 0 1 = cc in absurd (omega arith)

module _ (s : List ℕ) (a e : ℕ) where
  pub number_none : (b : Bool) → b ≡ false → OneField s a e b → OneNumber s a e None
  unfolding OneNumber
  number_none b p w make = one_bad s a e b p w (numbered make)

  pub number_one : (b : Bool) → b ≡ true → OneField s a e b → (n : P.Option ℕ) → n ≡ option_of (number (slice a e s)) → OneNumber s a e n
  unfolding OneNumber numbered option
  number_one b p w None q = λ make. one_is s a e b p w (numbered make) ∙ rw (num_bad (number (slice a e s)) None refl q)
  number_one b p w (Some n) q = λ make. one_is s a e b p w (numbered make) ∙ rw (num_is (number (slice a e s)) (Some n) n refl q)

-- ---- arities

module _ (m : ℕ) (f : List ℕ) where
  pub arity_bad : None ≡ option_of (number f) → None ≡ option_of (arity_to m f)
  unfolding arity_to option
  arity_bad p = rw (num_bad (number f) None refl p)

  module _ (k : ℕ) (p : Some k ≡ option_of (number f)) where
    pub arity_low : k < 1 → None ≡ option_of (arity_to m f)
    unfolding arity_to option is_between
    arity_low l = rw (num_is (number f) (Some k) k refl p) (simp (lt-leb 1 k l))

    pub arity_high : 1 ≤ k → m < k → None ≡ option_of (arity_to m f)
    unfolding arity_to option is_between
    arity_high l h = rw (num_is (number f) (Some k) k refl p) (simp (le-leb 1 k l, lt-leb k m h))

    pub arity_good : 1 ≤ k → k ≤ m → Some k ≡ option_of (arity_to m f)
    unfolding arity_to option is_between
    arity_good l h = rw (num_is (number f) (Some k) k refl p) (simp (le-leb 1 k l, le-leb k m h))

-- the arities of `rel` and `every`
pub arity_3 : (f : List ℕ) → S.arity_of f ≡ arity_to 3 f
unfolding S.arity_of arity_to
arity_3 f = refl

either_2 : (k : ℕ) (b : Bool) → is_between 1 3 k ≡ b → option (if b then some k else none) none (λ a. if leb a 2 then some a else none) ≡ (if is_between 1 2 k then some k else none)
unfolding option is_between
either_2 zero b p = rw (sym p)
either_2 (suc zero) b p = rw (sym p)
either_2 (suc (suc zero)) b p = rw (sym p)
either_2 (suc (suc (suc zero))) b p = rw (sym p)
either_2 (suc (suc (suc (suc k)))) b p =
    rw (sym p) (simp (lt-leb (suc (suc (suc (suc k)))) 3 (omega arith), lt-leb (suc (suc (suc (suc k)))) 2 (omega arith), le-leb 1 (suc (suc (suc (suc k)))) (omega arith)))

arity_2 : (f : List ℕ) → S.every_arity_of f ≡ arity_to 2 f
unfolding S.every_arity_of S.arity_of arity_to option
arity_2 f = by_number (number f)
  where
    by_number : (o : Option ℕ) → option (option o none (λ a. if is_between 1 3 a then some a else none)) none (λ a. if leb a 2 then some a else none) ≡ option o none (λ k. if is_between 1 2 k then some k else none)
    by_number none = refl
    by_number (some k) = either_2 k (is_between 1 3 k) refl

module _ (s : List ℕ) (a e m : ℕ) where
  pub pair_none : TwoFields s a e None → NameAndArity s a e m None
  unfolding NameAndArity
  pair_none w make = sym (two_bad s a e w (with_arity m make))

  module _ (t : ℕ) (w : TwoFields s a e (Some t)) where
    pub pair_bad : None ≡ option_of (arity_to m (slice (t + 1) e s)) → NameAndArity s a e m None
    unfolding NameAndArity with_arity option
    pair_bad p make = two_is s a e t w (with_arity m make) ∙ rw (num_bad (arity_to m (slice (t + 1) e s)) None refl p)

    pub pair_good : (k : ℕ) → Some k ≡ option_of (arity_to m (slice (t + 1) e s)) → (1 ≤ k) × (k ≤ m) → NameAndArity s a e m (Some (t, k))
    unfolding NameAndArity with_arity option
    pair_good k p l = let b = two_bounds s a e t w in (b.0, b.1, l.0, l.1, λ make. two_is s a e t w (with_arity m make) ∙ rw (num_is (arity_to m (slice (t + 1) e s)) (Some k) k refl p))

-- ---- kinds

module _ (f : List ℕ) where
  pub kind_fun : same f (70 ∷ 117 ∷ 110 ∷ []) ≡ true → KindNamed f (Some Fun)
  unfolding KindNamed S.kind_named kind_of
  kind_fun p = rw p

  module _ (n2 : same f (70 ∷ 117 ∷ 110 ∷ []) ≡ false) where
    pub kind_pfun : same f (80 ∷ 70 ∷ 117 ∷ 110 ∷ []) ≡ true → KindNamed f (Some PFun)
    unfolding KindNamed S.kind_named kind_of
    kind_pfun p = rw (n2, p)

    module _ (n3 : same f (80 ∷ 70 ∷ 117 ∷ 110 ∷ []) ≡ false) where
      pub kind_inj : same f (73 ∷ 110 ∷ 106 ∷ []) ≡ true → KindNamed f (Some Inj)
      unfolding KindNamed S.kind_named kind_of
      kind_inj p = rw (n2, n3, p)

      module _ (n4 : same f (73 ∷ 110 ∷ 106 ∷ []) ≡ false) where
        pub kind_pinj : same f (80 ∷ 73 ∷ 110 ∷ 106 ∷ []) ≡ true → KindNamed f (Some PInj)
        unfolding KindNamed S.kind_named kind_of
        kind_pinj p = rw (n2, n3, n4, p)

        pub kind_none : same f (80 ∷ 73 ∷ 110 ∷ 106 ∷ []) ≡ false → KindNamed f None
        unfolding KindNamed S.kind_named
        kind_none p = rw (n2, n3, n4, p)

-- ---- what a `choose` line has: by the number of its fields, and by its kind

pub choose_of_one : (name : List ℕ) → S.choose_of (name ∷ []) ≡ none
unfolding S.choose_of
choose_of_one name = refl

module _ (name f : List ℕ) where
  pub choose_by_arity : KindNamed f None → S.choose_of (name ∷ f ∷ []) ≡ option (arity_to 3 f) none (λ a. some (S.choose name a plain []))
  unfolding S.choose_of option KindNamed
  choose_by_arity p = rw (p, arity_3 f)

  pub choose_by_kind : (k : Kind) → KindNamed f (Some k) → S.choose_of (name ∷ f ∷ []) ≡ some (S.choose name 2 (kind_of (kind_number k)) [])
  unfolding S.choose_of option KindNamed
  choose_by_kind k p = rw p

  with_types : (fs : List (List ℕ)) → 0 < length fs → S.choose_of (name ∷ f ∷ fs) ≡ S.with_two (λ t u. option (S.kind_named f) none (λ kind. some (S.choose name 2 kind (t ∷ u ∷ [])))) fs
  unfolding S.choose_of S.with_two
  with_types [] h = absurd (omega arith)
  with_types (t ∷ []) h = refl
  with_types (t ∷ u ∷ []) h = refl
  with_types (t ∷ u ∷ v ∷ fs) h = refl

  -- types only after a function kind
  none_with_types : (fs : List (List ℕ)) → S.with_two (λ t u. none) fs ≡ none
  unfolding S.with_two
  none_with_types [] = refl
  none_with_types (t ∷ []) = refl
  none_with_types (t ∷ u ∷ []) = refl
  none_with_types (t ∷ u ∷ v ∷ fs) = refl

  module _ (fs : List (List ℕ)) (h : 0 < length fs) where
    pub typed_no_kind : KindNamed f None → S.choose_of (name ∷ f ∷ fs) ≡ none
    unfolding option KindNamed
    typed_no_kind p = with_types fs h ∙ rw p (none_with_types fs)

    pub typed_by_kind : (k : Kind) → KindNamed f (Some k) → S.choose_of (name ∷ f ∷ fs) ≡ S.with_two (λ t u. some (S.choose name 2 (kind_of (kind_number k)) (t ∷ u ∷ []))) fs
    unfolding option KindNamed
    typed_by_kind k p = with_types fs h ∙ rw p

-- ---- record words

with_same : (f g : List ℕ → List ℕ → Option S.Entry) → ((x y : List ℕ) → f x y ≡ g x y) → (fs : List (List ℕ)) → S.with_two f fs ≡ S.with_two g fs
unfolding S.with_two
with_same f g h [] = refl
with_same f g h (x ∷ []) = refl
with_same f g h (x ∷ y ∷ []) = h x y
with_same f g h (x ∷ y ∷ z ∷ fs) = refl

every_made : (fs : List (List ℕ)) → S.with_two (λ name a. option (S.every_arity_of a) none (λ k. some (S.every name k))) fs ≡ S.with_two (with_arity 2 S.every) fs
unfolding with_arity
every_made fs = with_same (λ name a. option (S.every_arity_of a) none (λ k. some (S.every name k))) (with_arity 2 S.every) (λ name a. rw (arity_2 a)) fs

says_as : (w v : List ℕ) (k : P.Option Word) → same w v ≡ true → Says v k → Says w k
says_as w v k e h = subst (λ (u : List ℕ). Says u k) (sym (same_eq w v (T_of e))) h

module _ (w : List ℕ) where
  pub says_rel : same w (114 ∷ 101 ∷ 108 ∷ []) ≡ true → Says w (Some W.Rel)
  unfolding Says made S.entry same S.arity_of arity_to with_arity numbered type_of rule_of
  says_rel e = says_as w (114 ∷ 101 ∷ 108 ∷ []) (Some W.Rel) e (λ fs. refl, λ p. cc)

  pub says_type : same w (116 ∷ 121 ∷ 112 ∷ 101 ∷ []) ≡ true → Says w (Some W.Typed)
  unfolding Says made S.entry same S.arity_of arity_to with_arity numbered type_of rule_of
  says_type e = says_as w (116 ∷ 121 ∷ 112 ∷ 101 ∷ []) (Some W.Typed) e (λ fs. refl, λ p. cc)

  pub says_choose : same w (99 ∷ 104 ∷ 111 ∷ 111 ∷ 115 ∷ 101 ∷ []) ≡ true → Says w (Some W.Choose)
  unfolding Says made S.entry same S.arity_of arity_to with_arity numbered type_of rule_of
  says_choose e = says_as w (99 ∷ 104 ∷ 111 ∷ 111 ∷ 115 ∷ 101 ∷ []) (Some W.Choose) e (λ fs. refl, λ p. cc)

  pub says_rule : same w (114 ∷ 117 ∷ 108 ∷ 101 ∷ []) ≡ true → Says w (Some W.Rule)
  unfolding Says made S.entry same S.arity_of arity_to with_arity numbered type_of rule_of
  says_rule e = says_as w (114 ∷ 117 ∷ 108 ∷ 101 ∷ []) (Some W.Rule) e (λ fs. refl, λ p. refl)

  pub says_every : same w (101 ∷ 118 ∷ 101 ∷ 114 ∷ 121 ∷ []) ≡ true → Says w (Some W.Every)
  unfolding Says made S.entry same S.arity_of arity_to with_arity numbered type_of rule_of
  says_every e = says_as w (101 ∷ 118 ∷ 101 ∷ 114 ∷ 121 ∷ []) (Some W.Every) e (λ fs. every_made fs, λ p. cc)

  pub says_size : same w (115 ∷ 105 ∷ 122 ∷ 101 ∷ []) ≡ true → Says w (Some W.Size)
  unfolding Says made S.entry same S.arity_of arity_to with_arity numbered type_of rule_of
  says_size e = says_as w (115 ∷ 105 ∷ 122 ∷ 101 ∷ []) (Some W.Size) e (λ fs. refl, λ p. cc)

  pub says_label : same w (108 ∷ 97 ∷ 98 ∷ 101 ∷ 108 ∷ []) ≡ true → Says w (Some W.Label)
  unfolding Says made S.entry same S.arity_of arity_to with_arity numbered type_of rule_of
  says_label e = says_as w (108 ∷ 97 ∷ 98 ∷ 101 ∷ 108 ∷ []) (Some W.Label) e (λ fs. refl, λ p. cc)

  pub says_member : same w (109 ∷ 101 ∷ 109 ∷ 98 ∷ 101 ∷ 114 ∷ []) ≡ true → Says w (Some W.Member)
  unfolding Says made S.entry same S.arity_of arity_to with_arity numbered type_of rule_of
  says_member e = says_as w (109 ∷ 101 ∷ 109 ∷ 98 ∷ 101 ∷ 114 ∷ []) (Some W.Member) e (λ fs. refl, λ p. cc)

  pub says_fact : same w (102 ∷ 97 ∷ 99 ∷ 116 ∷ []) ≡ true → Says w (Some W.Fact)
  unfolding Says made S.entry same S.arity_of arity_to with_arity numbered type_of rule_of
  says_fact e = says_as w (102 ∷ 97 ∷ 99 ∷ 116 ∷ []) (Some W.Fact) e (λ fs. refl, λ p. cc)

  pub says_pick : same w (112 ∷ 105 ∷ 99 ∷ 107 ∷ []) ≡ true → Says w (Some W.Pick)
  unfolding Says made S.entry same S.arity_of arity_to with_arity numbered type_of rule_of
  says_pick e = says_as w (112 ∷ 105 ∷ 99 ∷ 107 ∷ []) (Some W.Pick) e (λ fs. refl, λ p. cc)

  pub says_step : same w (115 ∷ 116 ∷ 101 ∷ 112 ∷ []) ≡ true → Says w (Some W.Step)
  unfolding Says made S.entry same S.arity_of arity_to with_arity numbered type_of rule_of
  says_step e = says_as w (115 ∷ 116 ∷ 101 ∷ 112 ∷ []) (Some W.Step) e (λ fs. refl, λ p. cc)

  pub says_none : same w (102 ∷ 97 ∷ 99 ∷ 116 ∷ []) ≡ false → same w (112 ∷ 105 ∷ 99 ∷ 107 ∷ []) ≡ false → same w (114 ∷ 101 ∷ 108 ∷ []) ≡ false → same w (116 ∷ 121 ∷ 112 ∷ 101 ∷ []) ≡ false → same w (99 ∷ 104 ∷ 111 ∷ 111 ∷ 115 ∷ 101 ∷ []) ≡ false → same w (114 ∷ 117 ∷ 108 ∷ 101 ∷ []) ≡ false → same w (101 ∷ 118 ∷ 101 ∷ 114 ∷ 121 ∷ []) ≡ false → same w (115 ∷ 105 ∷ 122 ∷ 101 ∷ []) ≡ false → same w (108 ∷ 97 ∷ 98 ∷ 101 ∷ 108 ∷ []) ≡ false → same w (109 ∷ 101 ∷ 109 ∷ 98 ∷ 101 ∷ 114 ∷ []) ≡ false → same w (115 ∷ 116 ∷ 101 ∷ 112 ∷ []) ≡ false → Says w None
  unfolding Says S.entry
  says_none n-fact n-pick n-rel n-type n-choose n-rule n-every n-size n-label n-member n-step fs = rw (n-rel, n-type, n-choose, n-every, n-rule, n-size, n-label, n-member, n-fact, n-pick, n-step)

-- a record word alone says nothing
none_either : (b : Bool) (x y : Option S.Entry) → x ≡ none → y ≡ none → (if b then x else y) ≡ none
none_either true x y p q = p
none_either false x y p q = q

alone : (w : List ℕ) → S.entry (w ∷ []) ≡ none
unfolding S.entry S.with_one S.with_two S.choose_of S.with_elements
alone w =
    none_either (same w (114 ∷ 101 ∷ 108 ∷ [])) none _ refl
    (none_either (same w (116 ∷ 121 ∷ 112 ∷ 101 ∷ [])) none _ refl
    (none_either (same w (99 ∷ 104 ∷ 111 ∷ 111 ∷ 115 ∷ 101 ∷ [])) none _ refl
    (none_either (same w (101 ∷ 118 ∷ 101 ∷ 114 ∷ 121 ∷ [])) none _ refl
    (none_either (same w (114 ∷ 117 ∷ 108 ∷ 101 ∷ [])) none _ refl
    (none_either (same w (115 ∷ 105 ∷ 122 ∷ 101 ∷ [])) none _ refl
    (none_either (same w (108 ∷ 97 ∷ 98 ∷ 101 ∷ 108 ∷ [])) none _ refl
    (none_either (same w (109 ∷ 101 ∷ 109 ∷ 98 ∷ 101 ∷ 114 ∷ [])) none _ refl
    (none_either (same w (102 ∷ 97 ∷ 99 ∷ 116 ∷ [])) none _ refl
    (none_either (same w (112 ∷ 105 ∷ 99 ∷ 107 ∷ [])) none _ refl (none_either (same w (115 ∷ 116 ∷ 101 ∷ 112 ∷ [])) none _ refl refl))))))))))

module _ (s : List ℕ) (a e : ℕ) (h : a ≤ e) (k : e ≤ length s) (t : ℕ) (q : t ≡ a + index_of 9 (slice a e s)) where
  pub record_alone : t ≡ e → TellsAt s a (S.entry (split 9 (slice a e s))) None
  unfolding TellsAt
  record_alone l = sym (ap S.entry (pieces_whole 9 a e s h k t q (omega arith)) ∙ alone (slice a e s))

  module _ (l : t < e) where
    pub record_other : Says (slice a t s) None → TellsAt s a (S.entry (split 9 (slice a e s))) None
    unfolding Says TellsAt
    record_other w = sym (ap S.entry (pieces_at 9 a e s h k t q l) ∙ w (split 9 (slice (t + 1) e s)))

    -- the field after `rule` begins 5 bytes after the line
    pub record_by : (j : Word) → Says (slice a t s) (Some j) → (x : P.Option Entry) → TellsAfter s j (t + 1) (made j (split 9 (slice (t + 1) e s))) x → TellsAt s a (S.entry (split 9 (slice a e s))) x
    unfolding Says TellsAt TellsAfter
    record_by j w None y = y ∙ sym (ap S.entry (pieces_at 9 a e s h k t q l) ∙ w.0 (split 9 (slice (t + 1) e s)))
    record_by j w (Some x) y = (
      y.0 ∙ sym (ap S.entry (pieces_at 9 a e s h k t q l) ∙ w.0 (split 9 (slice (t + 1) e s))),
      y.1 a (λ p. omega (arith, w.1 p, length-slice a t s (omega arith))),
    )

-- ---- element fields

module _ (f : List ℕ) where
  pub code_number : (k : ℕ) → Some k ≡ option_of (number f) → Some k ≡ option_of (code_of f)
  unfolding code_of option
  code_number k q = rw (num_is (number f) (Some k) k refl q)

  module _ (q : None ≡ option_of (number f)) where
    pub code_name : is_relation_name f ≡ true → Some 10000000 ≡ option_of (code_of f)
    unfolding code_of option
    code_name r = rw (num_bad (number f) None refl q, r)

    pub code_none : is_relation_name f ≡ false → None ≡ option_of (code_of f)
    unfolding code_of option
    code_none r = rw (num_bad (number f) None refl q, r)

  -- the number tells the element
  pub element_by_lem : S.element f ≡ option (code_of f) none (λ k. some (element_by f k))
  unfolding S.element code_of option element_by
  element_by_lem = by_option (number f) refl (is_relation_name f)
    where
      by_option : (o : Option ℕ) → number f ≡ o → (b : Bool) → option o (if b then some (S.named f) else none) (λ x. some (S.numbered x)) ≡ option (option o (if b then some 10000000 else none) some) none (λ k. some (if eqb k 10000000 then S.named f else S.numbered k))
      by_option (some k) q b = rw (ne_eqb k 10000000 (λ z. omega (arith, (decimal_number f k q).1)))
      by_option none q true = refl
      by_option none q false = refl

pub elements_by_lem : (fs : List (List ℕ)) → S.elements fs ≡ option (codes_in fs) none (λ ks. some (elements_by fs ks))
unfolding S.elements codes_in elements_by option
elements_by_lem [] = refl
elements_by_lem (f ∷ fs) = rw (element_by_lem f, elements_by_lem fs) (by_option (code_of f) (codes_in fs))
  where
    by_option : (o : Option ℕ) (p : Option (List ℕ)) → option (option o none (λ k. some (element_by f k))) none
        (λ x. option (option p none (λ ks. some (elements_by fs ks))) none (λ xs. some (x ∷ xs)))
        ≡ option (option o none (λ k. option p none (λ ks. some (k ∷ ks)))) none (λ ks. some (elements_by (f ∷ fs) ks))
    by_option none p = refl
    by_option (some k) none = refl
    by_option (some k) (some ks) = refl

codes_count : (fs : List (List ℕ)) (ks : List ℕ) → codes_in fs ≡ some ks → length fs ≡ length ks
unfolding codes_in
codes_count [] ks q = ap length (some_eq q)
codes_count (f ∷ fs) ks q =
    let (k, a, q₁) = option_parts (code_of f) _ ks q in
    let (js, b, q₂) = option_parts (codes_in fs) _ ks q₁ in
    ap suc (codes_count fs js b) ∙ ap length (some_eq q₂)

up_to_count : (m : ℕ) (fs : List (List ℕ)) (ks : List ℕ) → up_to m fs ≡ some ks → length fs ≡ length ks
unfolding up_to
up_to_count m fs ks q = by_test (is_between 1 m (length fs)) q
  where
    by_test : (b : Bool) → (if b then codes_in fs else none) ≡ some ks → length fs ≡ length ks
    by_test true p = codes_count fs ks p
    by_test false p = absurd (none_some p)

-- ---- elements

between_next : (k n : ℕ) → 0 < n → is_between 1 (suc k) (suc n) ≡ is_between 1 k n
unfolding is_between
between_next k zero h = absurd (omega arith)
between_next k (suc n) h = rw (le-leb 1 (suc (suc n)) (omega arith), le-leb 1 (suc n) (omega arith)) (leb-suc-suc (suc n) k)

consed_none : (x : ℕ) → consed x none ≡ none
unfolding consed option
consed_none x = refl

consed_some : (x : ℕ) (xs : List ℕ) → consed x (some xs) ≡ some (x ∷ xs)
unfolding consed option
consed_some x xs = refl

either : (b : Bool) → ◌≡◌ {A = Option (List ℕ)} (if b then none else none) none
either true = refl
either false = refl

up_to_bad : (k : ℕ) (f : List ℕ) (fs : List (List ℕ)) → code_of f ≡ none → up_to k (f ∷ fs) ≡ none
unfolding up_to codes_in option
up_to_bad k f fs p = rw p (either (is_between 1 k (suc (length fs))))

up_to_last : (k : ℕ) (f : List ℕ) (x : ℕ) → code_of f ≡ some x → up_to (suc k) (f ∷ []) ≡ some (x ∷ [])
unfolding up_to codes_in option is_between
up_to_last k f x p = rw (p, le-leb 1 (suc k) (omega arith))

up_to_none : (f : List ℕ) (fs : List (List ℕ)) → 0 < length fs → up_to 1 (f ∷ fs) ≡ none
unfolding up_to is_between
up_to_none f fs h = rw (le-leb 1 (suc (length fs)) (omega arith), lt-leb (suc (length fs)) 1 (omega arith))

pull : (b : Bool) (x : ℕ) (o : Option (List ℕ)) → (if b then consed x o else none) ≡ consed x (if b then o else none)
unfolding consed option
pull true x o = refl
pull false x o = refl

codes_next : (f : List ℕ) (x : ℕ) (fs : List (List ℕ)) → code_of f ≡ some x → codes_in (f ∷ fs) ≡ consed x (codes_in fs)
unfolding codes_in option consed
codes_next f x fs p = rw p

up_to_next : (k : ℕ) (f : List ℕ) (x : ℕ) (fs : List (List ℕ)) → code_of f ≡ some x → 0 < length fs → up_to (suc k) (f ∷ fs) ≡ consed x (up_to k fs)
unfolding up_to
up_to_next k f x fs p h = rw (codes_next f x fs p, between_next k (length fs) h) (pull (is_between 1 k (length fs)) x (codes_in fs))

module _ (s : List ℕ) (a e : ℕ) (h : a ≤ e) (k : e ≤ length s) (t : ℕ) (q : t ≡ a + index_of 9 (slice a e s)) where
  pub first_whole : e ≤ t → split 9 (slice a e s) ≡ slice a t s ∷ []
  first_whole l = let z : t ≡ e = omega (arith, end_within 9 a e s h k) in pieces_whole 9 a e s h k t q l ∙ rw z

  pub places_bad : (m : ℕ) → code_of (slice a t s) ≡ none → up_to m (split 9 (slice a e s)) ≡ none
  places_bad m p = from_this (dec_lt t e)
    where
      from_this : Dec (t < e) → up_to m (split 9 (slice a e s)) ≡ none
      from_this (yes l) = ap (up_to m) (pieces_at 9 a e s h k t q l) ∙ up_to_bad m (slice a t s) (split 9 (slice (t + 1) e s)) p
      from_this (no l) = ap (up_to m) (first_whole (omega arith)) ∙ up_to_bad m (slice a t s) [] p

  pub places_last : (m x : ℕ) → code_of (slice a t s) ≡ some x → e ≤ t → up_to (suc m) (split 9 (slice a e s)) ≡ some (x ∷ [])
  places_last m x p l = ap (up_to (suc m)) (first_whole l) ∙ up_to_last m (slice a t s) x p

  pub places_next : (m x : ℕ) → code_of (slice a t s) ≡ some x → t < e → up_to (suc m) (split 9 (slice a e s)) ≡ consed x (up_to m (split 9 (slice (t + 1) e s)))
  places_next m x p l = ap (up_to (suc m)) (pieces_at 9 a e s h k t q l) ∙ up_to_next m (slice a t s) x (split 9 (slice (t + 1) e s)) p (split_some 9 (slice (t + 1) e s))

  pub places_over : t < e → up_to 1 (split 9 (slice a e s)) ≡ none
  places_over l = ap (up_to 1) (pieces_at 9 a e s h k t q l) ∙ up_to_none (slice a t s) (split 9 (slice (t + 1) e s)) (split_some 9 (slice (t + 1) e s))

  -- the three readers of elements
  module _ (x y : ℕ) where
    pub last_bad : code_of (slice a t s) ≡ none → codes None ≡ consed x (consed y (up_to 1 (split 9 (slice a e s))))
    unfolding codes
    last_bad p = rw (places_bad 1 p, consed_none y, consed_none x)

    pub last_over : t < e → codes None ≡ consed x (consed y (up_to 1 (split 9 (slice a e s))))
    unfolding codes
    last_over l = rw (places_over l, consed_none y, consed_none x)

    pub last_good : (z : ℕ) → code_of (slice a t s) ≡ some z → e ≤ t → codes (Some (Three x y z)) ≡ consed x (consed y (up_to 1 (split 9 (slice a e s))))
    unfolding codes codes_of
    last_good z p l = rw (places_last 0 z p l, consed_some y (z ∷ []), consed_some x (y ∷ z ∷ []))

    pub more_good : code_of (slice a t s) ≡ some y → e ≤ t → codes (Some (Two x y)) ≡ consed x (up_to 2 (split 9 (slice a e s)))
    unfolding codes codes_of
    more_good p l = rw (places_last 1 y p l, consed_some x (y ∷ []))

  pub more_bad : (x : ℕ) → code_of (slice a t s) ≡ none → codes None ≡ consed x (up_to 2 (split 9 (slice a e s)))
  unfolding codes
  more_bad x p = rw (places_bad 2 p, consed_none x)

  pub first_bad : code_of (slice a t s) ≡ none → codes None ≡ up_to 3 (split 9 (slice a e s))
  unfolding codes
  first_bad p = rw (places_bad 3 p)

  pub first_good : (x : ℕ) → code_of (slice a t s) ≡ some x → e ≤ t → codes (Some (One x)) ≡ up_to 3 (split 9 (slice a e s))
  unfolding codes codes_of
  first_good x p l = rw (places_last 2 x p l)

-- ---- a name and elements

module _ (make : List ℕ → List S.Element → S.Entry) where
  with_none : (f : List ℕ) → S.with_elements make (f ∷ []) ≡ none
  unfolding S.with_elements is_between
  with_none f = refl

  with_some : (f : List ℕ) (fs : List (List ℕ)) → S.with_elements make (f ∷ fs) ≡ option (up_to 3 fs) none (λ ks. some (make f (elements_by fs ks)))
  unfolding S.with_elements up_to option
  with_some f fs = rw (elements_by_lem fs) (by_test (is_between 1 3 (length fs)) (codes_in fs))
    where
      by_test : (b : Bool) (o : Option (List ℕ)) → (if b then option (option o none (λ ks. some (elements_by fs ks))) none (λ xs. some (make f xs)) else none) ≡ option (if b then o else none) none (λ ks. some (make f (elements_by fs ks)))
      by_test true none = refl
      by_test true (some ks) = refl
      by_test false o = refl

module _ (s : List ℕ) (a e : ℕ) (h : a ≤ e) (k : e ≤ length s) (t : ℕ) (q : t ≡ a + index_of 9 (slice a e s)) where
  pub named_none : e ≤ t → Named s a e None
  unfolding Named
  named_none l make = ap (S.with_elements make) (pieces_whole 9 a e s h k t q l) ∙ with_none make (slice a e s)

  module _ (l : t < e) where
    named_as : (o : Option (List ℕ)) (make : List ℕ → List S.Element → S.Entry) → o ≡ up_to 3 (split 9 (slice (t + 1) e s)) → S.with_elements make (split 9 (slice a e s)) ≡ option o none (λ ks. some (make (slice a t s) (elements_by (split 9 (slice (t + 1) e s)) ks)))
    named_as o make r = ap (S.with_elements make) (pieces_at 9 a e s h k t q l) ∙ with_some make (slice a t s) (split 9 (slice (t + 1) e s)) ∙ rw (sym r)

    pub named_bad : codes None ≡ up_to 3 (split 9 (slice (t + 1) e s)) → Named s a e None
    unfolding Named codes option
    named_bad r make = named_as none make r

    pub named_some : (p : Places) → codes (Some p) ≡ up_to 3 (split 9 (slice (t + 1) e s)) → Named s a e (Some (t, p))
    unfolding Named list_of codes option
    named_some p r = (
      record { starts = omega arith; ends = k; count = up_to_count 3 (split 9 (slice (t + 1) e s)) (codes_of p) (sym r) },
      λ make. named_as (some (codes_of p)) make r,
    )

-- ---- lines

pub lines_cons : (at : ℕ) (p : List ℕ) (ps : List (List ℕ)) → 0 < length ps → lines_from at (p ∷ ps) ≡ record { at = at; ended = true; content = p } ∷ lines_from (at + length p + 1) ps
unfolding lines_from
lines_cons at p [] h = absurd (omega arith)
lines_cons at p (q ∷ qs) h = refl

pub lines_stop : (s : List ℕ) (at : ℕ) → at ≡ length s → lines_at s at ≡ []
unfolding lines_at split lines_from is_empty
lines_stop s at q = rw (← slice_all at s, slice_done at (length s) s (omega arith) (omega arith))

not_empty : (p : List ℕ) → 0 < length p → is_empty p ≡ false
unfolding is_empty
not_empty [] h = absurd (omega arith)
not_empty (x ∷ p) h = refl

module _ (s : List ℕ) (at : ℕ) (h : at < length s) (w : ℕ) (q : w ≡ at + index_of 10 (slice at (length s) s)) where
  -- an ended line
  pub reads_line : w < length s → (x : Entry) → entry_in s x ≡ S.entry (split 9 (slice at w s)) → Reads s at (w + 1) x
  unfolding Reads lines_at S.entry_of fields
  reads_line l x r =
      let f = pieces_at 10 at (length s) s (omega arith) (omega arith) w q l in
      let n : at + length (slice at w s) + 1 ≡ w + 1 = omega (arith, length-slice at w s (omega arith)) in (
        record { at = at; ended = true; content = slice at w s },
        rw (← slice_all at s, f, lines_cons at (slice at w s) (split 10 (slice (w + 1) (length s) s)) (split_some 10 (slice (w + 1) (length s) s)), n, slice_all (w + 1) s),
        refl,
        ap (λ (o : Option S.Entry). given o 2 at) (sym r),
      )

  -- what is left and not ended
  pub reads_open : length s ≤ w → Reads s at (length s) Wrong
  unfolding Reads lines_at S.entry_of entry_in lines_from given
  reads_open l =
      let f = pieces_whole 10 at (length s) s (omega arith) (omega arith) w q l in (
        record { at = at; ended = false; content = slice at (length s) s },
        rw (lines_stop s (length s) refl) (rw (← slice_all at s, f, not_empty (slice at (length s) s) (omega (arith, length-slice at (length s) s (omega arith))))),
        refl,
        refl,
      )
