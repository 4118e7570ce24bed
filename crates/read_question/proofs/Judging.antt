-- What a line before the rule gets.
use Rattle.std.specs.Prelude.{if◌then◌else◌, Some, None, Ok, Err}
use Rattle.std.specs.Prelude as P
use Prim.Native.Nat.{ℕ, zero, suc, ◌+◌, ◌≤◌, ◌<◌}
use mathlib.Core.Path.{◌≡◌, refl, sym, ap, subst, ◌∙◌}
use mathlib.Core.Bool.{Bool, true, false, not, ◌&&◌, ◌||◌}
use mathlib.Core.Option.{Option, none, some}
use mathlib.Core.Logic.{◌⊎◌, inl, inr}
use mathlib.Core.List.{List, []}
use native.Mathlib.Numerals.{add-one}
use native.Mathlib.Omega.{arith}
use lib.Dec.{eqb, leb}
use lib.Seq.{slice}
use borrow.Author.Tests.{eq-eqb, ne_eqb, eqb-true, leb-false, not-false}
use Rattle.definitions.specs.Lists.{all, any, same, option, position}
use Rattle.definitions.specs.Sheet.Text.{is_relation_name}
use Rattle.definitions.specs.Sheet.Relations.{is_declared}
use Rattle.definitions.specs.Sheet.Formula.{type_number, sort_named, is_type}
use Rattle.definitions.specs.Sheet.Sheets as D
use Rattle.laws.specs.Booleans.{or_both}
use Rattle.refusal.specs.declared.Cause.{Cause}
use Rattle.refusal.specs.declared.Cause.TheVariants.{NoRecord, OutOfOrder, BadName, BadType}
use Rattle.read_text.specs.Spans.{option_of}
use Rattle.read_names.specs.Signatures.{types_in, types_of, all_of, Lent}
use Rattle.read_names.specs.declared.Signature.{Signature}
use Rattle.read_names.proofs.Laws.{any_found, any_missed, position_some, found_some, found_none, length_names}
use Rattle.read_line.specs.Entries.{types_at}
use Rattle.read_line.specs.declared.Entry.{Entry}
use Rattle.read_line.specs.declared.Entry.TheVariants.{Wrong, Rel, Typed, Choose, Every, Rule, Size, Label, Member, Fact, Pick, Step}
use Rattle.read_line.proofs.Made.{types_at_lem}
use Rattle.read_question.specs.declared.Sorts.{Sorts}
use Rattle.read_question.specs.Drafts.{draft_of, is_late, is_closed, name_fault, type_fault, choose_fault, every_fault, judge_of, Room, sorts_in, pushed, typed, grown_by, later_of}

-- ---- too late

module _ (types chosen own : ℕ) where
  pub late_types : (types ≡ 0 → ⊥) → not (eqb types 0) ≡ is_late types chosen own
  unfolding is_late
  late_types h = rw (ne_eqb types 0 h)

  pub late_chosen : types ≡ 0 → ((types ≡ 0 → ⊥) ⊎ ((types ≡ 0) × (chosen ≡ 0 → ⊥))) → not (eqb chosen 0) ≡ is_late types chosen own
  unfolding is_late
  late_chosen t (inl n) = absurd (n t)
  late_chosen t (inr h) = rw (eq-eqb types 0 t, ne_eqb chosen 0 h.1)

  pub late_own : types ≡ 0 → chosen ≡ 0 → leb 8 own ≡ is_late types chosen own
  unfolding is_late
  late_own t c = rw (eq-eqb types 0 t, eq-eqb chosen 0 c)

  pub not_late : is_late types chosen own ≡ false → (types ≡ 0) × (chosen ≡ 0) × (own < 8)
  unfolding is_late
  not_late p =
      let b = or_both (not (eqb types 0) || not (eqb chosen 0)) (leb 8 own) p in
      let d = or_both (not (eqb types 0)) (not (eqb chosen 0)) b.0 in
      (eqb-true types 0 (not-false (eqb types 0) d.0), eqb-true chosen 0 (not-false (eqb chosen 0) d.1), leb-false 8 own b.1)

-- no `choose` line may follow
module _ (every chosen : ℕ) where
  pub closed_every : (every ≡ 0 → ⊥) → not (eqb every 0) ≡ is_closed every chosen
  unfolding is_closed
  closed_every h = rw (ne_eqb every 0 h)

  pub closed_many : every ≡ 0 → leb 4 chosen ≡ is_closed every chosen
  unfolding is_closed
  closed_many h = rw (eq-eqb every 0 h)

  pub not_closed : is_closed every chosen ≡ false → (every ≡ 0) × (chosen < 4)
  unfolding is_closed
  not_closed p = let b = or_both (not (eqb every 0)) (leb 4 chosen) p in (eqb-true every 0 (not-false (eqb every 0) b.0), leb-false 4 chosen b.1)

-- ---- names

-- a signature lends its own arrays
pub own_arrays : (g : Signature) → g.every ≤ 1 → Lent g g.from g.to (g.rels + g.chosen + g.every)
own_arrays g one = record { from_is = refl; to_is = refl; count = refl; one = one }

module _ (s : List ℕ) (g : Signature) (name : List ℕ) where
  pub name_malformed : is_relation_name name ≡ false → Err BadName ≡ name_fault s g name
  unfolding name_fault D.is_new_name
  name_malformed p = rw p

  module _ (p : is_relation_name name ≡ true) where
    pub name_declared : is_declared (all_of s g) name ≡ true → Err BadName ≡ name_fault s g name
    unfolding name_fault D.is_new_name draft_of all_of
    name_declared q = rw (p, q)

    pub name_new : is_declared (all_of s g) name ≡ false → Ok tt ≡ name_fault s g name
    unfolding name_fault D.is_new_name draft_of all_of
    name_new q = rw (p, q)

module _ (types : List (List ℕ)) (name : List ℕ) where
  pub type_malformed : is_relation_name name ≡ false → Err BadName ≡ type_fault types name
  unfolding type_fault
  type_malformed p = rw p

  module _ (p : is_relation_name name ≡ true) (f : P.Option ℕ) (w : f ≡ option_of (type_number types name)) where
    pub type_twice : (i : ℕ) → f ≡ Some i → Err BadType ≡ type_fault types name
    unfolding type_fault is_type type_number
    type_twice i e = rw (p, ← any_found (λ t. same t name) (λ t. same t name) (λ t. refl) types i (found_some _ i f e w))

    pub type_new : f ≡ None → Ok tt ≡ type_fault types name
    unfolding type_fault is_type type_number
    type_new e = rw (p, ← any_missed (λ t. same t name) (λ t. same t name) (λ t. refl) types (found_none _ f e w))

-- ---- a chosen relation's types

-- a type has a sort above 0
sorted : (types : List (List ℕ)) (name : List ℕ) → is_type types name ≡ not (eqb (sort_named types name) 0)
unfolding is_type sort_named type_number option
sorted types name = by_option (position (λ t. same t name) types) refl
  where
    by_option : (o : Option ℕ) → position (λ t. same t name) types ≡ o → any (λ t. same t name) types ≡ not (eqb (option o zero suc) 0)
    by_option none q = sym (any_missed (λ t. same t name) (λ t. same t name) (λ t. refl) types q)
    by_option (some i) q = sym (any_found (λ t. same t name) (λ t. same t name) (λ t. refl) types i q) ∙ rw (ne_eqb (suc i) 0 (λ z. omega arith))

module _ (q F T : List ℕ) (k : ℕ) (name : List ℕ) (f : P.Option ℕ) (w : f ≡ option_of (type_number (types_in q F T k) name)) where
  pub sort_found : (i : ℕ) → f ≡ Some i → i + 1 ≡ sort_named (types_in q F T k) name
  unfolding sort_named option
  sort_found i e = rw (found_some (type_number (types_in q F T k) name) i f e w) (add-one i)

  pub sort_missed : f ≡ None → 0 ≡ sort_named (types_in q F T k) name
  unfolding sort_named option
  sort_missed e = rw (found_none (type_number (types_in q F T k) name) f e w)

  pub type_few : (i : ℕ) → f ≡ Some i → i < k
  unfolding type_number
  type_few i e = omega (arith, (position_some (λ t. same t name) (types_in q F T k) i [] (found_some (type_number (types_in q F T k) name) i f e w)).0, length_names q F T 13 k)

-- the sorts of its places
module _ (s : List ℕ) (types : List (List ℕ)) (t u v : ℕ) where
  pub sorts_none : v ≡ 0 → record { firsts = 0; seconds = 0 } ≡ sorts_in types (types_at s t u v)
  unfolding sorts_in types_at D.place_sort
  sorts_none e = rw e

  pub sorts_both : 0 < v → (a b : ℕ) → a ≡ sort_named types (slice t u s) → b ≡ sort_named types (slice (u + 1) v s) → record { firsts = a; seconds = b } ≡ sorts_in types (types_at s t u v)
  unfolding sorts_in D.place_sort
  sorts_both h a b p q = rw (p, q) (rw (types_at_lem s t u v h))

  all_sorted : 0 < v → (p : Sorts) → p ≡ sorts_in types (types_at s t u v) → all (is_type types) (types_at s t u v) ≡ (not (eqb p.firsts 0) && (not (eqb p.seconds 0) && true))
  unfolding all sorts_in D.place_sort
  all_sorted h p e = rw e (rw (types_at_lem s t u v h) (rw (sorted types (slice t u s), sorted types (slice (u + 1) v s))))

module _ (s : List ℕ) (g : Signature) (name : List ℕ) (t u v : ℕ) where
  choose_test : Bool → Bool → P.Result (Unit {0}) Cause
  choose_test new typed = if not new then Err BadName else if not typed then Err BadType else Ok tt

  pub choose_name : (c : Cause) → Err c ≡ name_fault s g name → Err c ≡ choose_fault s g name (types_at s t u v)
  unfolding name_fault choose_fault choose_test
  choose_name c e = by_test (D.is_new_name (draft_of s g) name) e
    where
      by_test : (b : Bool) → ◌≡◌ {A = P.Result (Unit {0}) Cause} (Err c) (if not b then Err BadName else Ok tt) → ◌≡◌ {A = P.Result (Unit {0}) Cause} (Err c) (choose_test b (all (is_type (types_of s g)) (types_at s t u v)))
      by_test true q = absurd (cc)
      by_test false q = q

  -- a new name: its types decide
  module _ (new : Ok tt ≡ name_fault s g name) where
    by_types : (b : Bool) → all (is_type (types_of s g)) (types_at s t u v) ≡ b → (if not b then Err BadType else Ok tt) ≡ choose_fault s g name (types_at s t u v)
    unfolding name_fault choose_fault choose_test
    by_types b e = rw e (by_test (D.is_new_name (draft_of s g) name) new)
      where
        by_test : (c : Bool) → ◌≡◌ {A = P.Result (Unit {0}) Cause} (Ok tt) (if not c then Err BadName else Ok tt) → (if not b then Err BadType else Ok tt) ≡ choose_test c b
        by_test true q = refl
        by_test false q = absurd (cc)

    pub choose_untyped : v ≡ 0 → Ok tt ≡ choose_fault s g name (types_at s t u v)
    unfolding types_at all
    choose_untyped e = by_types true (rw e)

    module _ (h : 0 < v) (p : Sorts) (e : p ≡ sorts_in (types_of s g) (types_at s t u v)) where
      pub choose_first : p.firsts ≡ 0 → Err BadType ≡ choose_fault s g name (types_at s t u v)
      choose_first a = by_types false (all_sorted s (types_of s g) t u v h p e ∙ rw (eq-eqb p.firsts 0 a))

      module _ (first : p.firsts ≡ 0 → ⊥) where
        pub choose_second : p.seconds ≡ 0 → Err BadType ≡ choose_fault s g name (types_at s t u v)
        choose_second b = by_types false (all_sorted s (types_of s g) t u v h p e ∙ rw (ne_eqb p.firsts 0 first, eq-eqb p.seconds 0 b))

        pub choose_typed : (p.seconds ≡ 0 → ⊥) → Ok tt ≡ choose_fault s g name (types_at s t u v)
        choose_typed second = by_types true (all_sorted s (types_of s g) t u v h p e ∙ rw (ne_eqb p.firsts 0 first, ne_eqb p.seconds 0 second))

-- ---- the relation of an `every` line

module _ (s : List ℕ) (g : Signature) (name : List ℕ) where
  pub every_twice : (g.every ≡ 0 → ⊥) → Err OutOfOrder ≡ every_fault s g name
  unfolding every_fault
  every_twice h = rw (ne_eqb g.every 0 h)

  module _ (first : g.every ≡ 0) where
    pub every_early : g.chosen ≡ 0 → Err OutOfOrder ≡ every_fault s g name
    unfolding every_fault
    every_early h = rw (eq-eqb g.every 0 first, eq-eqb g.chosen 0 h)

    pub every_now : (g.chosen ≡ 0 → ⊥) → (r : P.Result (Unit {0}) Cause) → r ≡ name_fault s g name → r ≡ every_fault s g name
    unfolding every_fault
    every_now h r e = rw (eq-eqb g.every 0 first, ne_eqb g.chosen 0 h) e

-- ---- the line

module _ (s : List ℕ) (g : Signature) (x : Entry) where
  pub judge_wrong : x ≡ Wrong → Err NoRecord ≡ judge_of s g x
  unfolding judge_of
  judge_wrong p = sym (ap (judge_of s g) p)

  module _ (a e k : ℕ) (p : x ≡ Rel a e k) where
    pub rel_late : is_late g.types g.chosen g.rels ≡ true → Err OutOfOrder ≡ judge_of s g x
    unfolding judge_of
    rel_late l = sym (ap (judge_of s g) p ∙ rw l)

    pub rel_here : (r : P.Result (Unit {0}) Cause) → is_late g.types g.chosen g.rels ≡ false → r ≡ name_fault s g (slice a e s) → r ≡ judge_of s g x
    unfolding judge_of
    rel_here r l n = n ∙ sym (ap (judge_of s g) p ∙ rw l)

  module _ (a e : ℕ) (p : x ≡ Typed a e) where
    pub type_late : is_late 0 g.chosen g.types ≡ true → Err OutOfOrder ≡ judge_of s g x
    unfolding judge_of
    type_late l = sym (ap (judge_of s g) p ∙ rw l)

    pub type_here : (r : P.Result (Unit {0}) Cause) → is_late 0 g.chosen g.types ≡ false → r ≡ type_fault (types_of s g) (slice a e s) → r ≡ judge_of s g x
    unfolding judge_of
    type_here r l n = n ∙ sym (ap (judge_of s g) p ∙ rw l)

  module _ (a e k d t u v : ℕ) (p : x ≡ Choose a e k d t u v) where
    pub choose_closed : is_closed g.every g.chosen ≡ true → Err OutOfOrder ≡ judge_of s g x
    unfolding judge_of
    choose_closed l = sym (ap (judge_of s g) p ∙ rw l)

    pub choose_here : (r : P.Result (Unit {0}) Cause) → is_closed g.every g.chosen ≡ false → r ≡ choose_fault s g (slice a e s) (types_at s t u v) → r ≡ judge_of s g x
    unfolding judge_of
    choose_here r l n = n ∙ sym (ap (judge_of s g) p ∙ rw l)

  pub every_here : (a e k : ℕ) (r : P.Result (Unit {0}) Cause) → x ≡ Every a e k → r ≡ every_fault s g (slice a e s) → r ≡ judge_of s g x
  unfolding judge_of
  every_here a e k r p n = n ∙ sym (ap (judge_of s g) p)

-- ---- the signature after a good line, and the room for it

module _ (g : Signature) {x : Entry} (room : Room g x) where
  pub room_rel : {a e k : ℕ} → x ≡ Rel a e k → g.rels + g.chosen < 12
  unfolding Room
  room_rel p = subst (Room g) p room

  pub room_type : {a e : ℕ} → x ≡ Typed a e → g.types < 8
  unfolding Room
  room_type p = subst (Room g) p room

  pub room_choose : {a e k d t u v : ℕ} → x ≡ Choose a e k d t u v → (g.rels + g.chosen < 12) × (g.types ≤ 8) × (0 < v → u < v)
  unfolding Room
  room_choose p = subst (Room g) p room

  pub room_every : {a e k : ℕ} → x ≡ Every a e k → g.rels + g.chosen < 13
  unfolding Room
  room_every p = subst (Room g) p room

module _ (s : List ℕ) (g : Signature) {x : Entry} where
  pub grown_rel : {a e k : ℕ} → x ≡ Rel a e k
      → pushed g g.rels a e k 0 (record { firsts = 0; seconds = 0 }) (g.rels + 1) g.chosen g.every ≡ grown_by s g x
  unfolding grown_by
  grown_rel p = sym (ap (grown_by s g) p)

  pub grown_type : {a e : ℕ} → x ≡ Typed a e → typed g a e ≡ grown_by s g x
  unfolding grown_by
  grown_type p = sym (ap (grown_by s g) p)

  pub grown_choose : {a e k d t u v : ℕ} → x ≡ Choose a e k d t u v → {y : Sorts} → y ≡ sorts_in (types_of s g) (types_at s t u v)
      → pushed g (g.rels + g.chosen) a e k d y g.rels (g.chosen + 1) g.every ≡ grown_by s g x
  unfolding grown_by
  grown_choose {a} {e} {k} {d} p q = ap (λ (z : Sorts). pushed g (g.rels + g.chosen) a e k d z g.rels (g.chosen + 1) g.every) q ∙ sym (ap (grown_by s g) p)

  pub grown_every : {a e k : ℕ} → x ≡ Every a e k
      → pushed g (g.rels + g.chosen) a e k 6 (record { firsts = 0; seconds = 0 }) g.rels g.chosen 1 ≡ grown_by s g x
  unfolding grown_by
  grown_every p = sym (ap (grown_by s g) p)

-- ---- what is left of an entry when some of its variants are ruled out

pub judge_other : (s : List ℕ) (g : Signature) (x : Entry) → (x ≡ Wrong → ⊥) → ((a e k : ℕ) → x ≡ Rel a e k → ⊥) → ((a e : ℕ) → x ≡ Typed a e → ⊥) → ((a e k d t u v : ℕ) → x ≡ Choose a e k d t u v → ⊥) → ((a e k : ℕ) → x ≡ Every a e k → ⊥) → Err OutOfOrder ≡ judge_of s g x
unfolding judge_of
judge_other s g Wrong w0 w1 w2 w3 w4 = absurd (w0 refl)
judge_other s g (Rel a e k) w0 w1 w2 w3 w4 = absurd (w1 a e k refl)
judge_other s g (Typed a e) w0 w1 w2 w3 w4 = absurd (w2 a e refl)
judge_other s g (Choose a e k d t u v) w0 w1 w2 w3 w4 = absurd (w3 a e k d t u v refl)
judge_other s g (Every a e k) w0 w1 w2 w3 w4 = absurd (w4 a e k refl)
judge_other s g (Rule a e) w0 w1 w2 w3 w4 = refl
judge_other s g (Size n) w0 w1 w2 w3 w4 = refl
judge_other s g (Label k a t e) w0 w1 w2 w3 w4 = refl
judge_other s g (Member a t k e) w0 w1 w2 w3 w4 = refl
judge_other s g (Fact a t e p) w0 w1 w2 w3 w4 = refl
judge_other s g (Pick a t e p) w0 w1 w2 w3 w4 = refl
judge_other s g (Step k) w0 w1 w2 w3 w4 = refl

pub grown_other : (s : List ℕ) (g : Signature) (x : Entry) → ((a e k : ℕ) → x ≡ Rel a e k → ⊥) → ((a e : ℕ) → x ≡ Typed a e → ⊥) → ((a e k d t u v : ℕ) → x ≡ Choose a e k d t u v → ⊥) → ((a e k : ℕ) → x ≡ Every a e k → ⊥) → g ≡ grown_by s g x
unfolding grown_by
grown_other s g (Rel a e k) w0 w1 w2 w3 = absurd (w0 a e k refl)
grown_other s g (Typed a e) w0 w1 w2 w3 = absurd (w1 a e refl)
grown_other s g (Choose a e k d t u v) w0 w1 w2 w3 = absurd (w2 a e k d t u v refl)
grown_other s g (Every a e k) w0 w1 w2 w3 = absurd (w3 a e k refl)
grown_other s g Wrong w0 w1 w2 w3 = refl
grown_other s g (Rule a e) w0 w1 w2 w3 = refl
grown_other s g (Size n) w0 w1 w2 w3 = refl
grown_other s g (Label k a t e) w0 w1 w2 w3 = refl
grown_other s g (Member a t k e) w0 w1 w2 w3 = refl
grown_other s g (Fact a t e p) w0 w1 w2 w3 = refl
grown_other s g (Pick a t e p) w0 w1 w2 w3 = refl
grown_other s g (Step k) w0 w1 w2 w3 = refl

pub later_other : (x : Entry) → (x ≡ Wrong → ⊥) → OutOfOrder ≡ later_of x
unfolding later_of
later_other Wrong w = absurd (w refl)
later_other (Rel a e k) w = refl
later_other (Typed a e) w = refl
later_other (Choose a e k d t u v) w = refl
later_other (Every a e k) w = refl
later_other (Rule a e) w = refl
later_other (Size n) w = refl
later_other (Label k a t e) w = refl
later_other (Member a t k e) w = refl
later_other (Fact a t e p) w = refl
later_other (Pick a t e p) w = refl
later_other (Step k) w = refl
