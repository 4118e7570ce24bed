-- The loop over a question's lines up to its rule.
use Rattle.std.specs.Prelude.{if◌then◌else◌, Ok, Err}
use Rattle.std.specs.Prelude as P
use Prim.Native.Nat.{ℕ, zero, suc, ◌+◌, ◌≤◌, ◌<◌}
use mathlib.Core.Path.{◌≡◌, refl, sym, ap, subst, ◌∙◌}
use mathlib.Core.Bool.{Bool, true, false, not, or-false}
use mathlib.Core.Option.{Option, none, some}
use mathlib.Core.List.{List, [], ◌∷◌, ◌++◌}
use native.Mathlib.Omega.{arith}
use lib.Dec.{eqb}
use lib.ListN.{length}
use lib.Seq.{slice}
use borrow.Author.Tests.{eq-eqb, ne_eqb, eqb-true, eqb-false, not-false}
use Rattle.definitions.specs.Limits.{text_limit}
use Rattle.definitions.specs.Lists.{is_empty, is_some}
use Rattle.definitions.specs.Refusal.{Result, refused, accepted, ◌>>=◌, refuse_if, given, read_text}
use Rattle.definitions.specs.Sheet.Relations.{static, Relation, varying}
use Rattle.definitions.specs.Sheet.Sheets as D
use Rattle.laws.specs.Booleans.{or_both}
use Rattle.refusal.specs.declared.Cause.{Cause}
use Rattle.refusal.specs.declared.Cause.TheVariants.{TooLong, OutOfOrder, BadName, BadType}
use Rattle.refusal.specs.Numbers.{number_of}
use Rattle.read_line.specs.Lines.{line_by, read_at}
use Rattle.read_text.specs.Spans.{kind_of}
use Rattle.read_line.specs.Entries.{types_at, entry_in, InText, Reads}
use Rattle.read_line.specs.declared.Entry.{Entry}
use Rattle.read_line.specs.declared.Entry.TheVariants.{Wrong, Rel, Typed, Choose, Every, Rule, Size, Label, Member, Fact, Pick, Step}
use Rattle.read_line.proofs.Runs.{read_long, read_start, read_stop, read_next}
use Rattle.read_names.specs.declared.Signature.{Signature}
use Rattle.read_names.specs.Signatures.{relations_from, names_from, rels_of, chosen_of, last_of, every_of, types_of, SoundSignature}
use Rattle.read_question.specs.declared.Sorts.{Sorts}
use Rattle.read_question.specs.Drafts.{draft_of, is_late, is_closed, name_fault, type_fault, choose_fault, every_fault, judge_of, Room, sorts_in, pushed, grown_by, whole, no_signature, Reached, Headed}
use Rattle.read_names.proofs.Laws.{length_relations, length_names}
use Rattle.read_question.proofs.Tests.{unless, untested, test, unless_ext, unless_good, unless_bad}
use Rattle.read_question.proofs.Judging.{not_late, not_closed}
use Rattle.read_question.proofs.Growing.{Roomy, every_late, none_sound, none_roomy, related, sorts_few, pushed_before, one_more, pushed_every, no_every, pushed_types, pushed_roomy, pushed_sound, typed_rels, typed_chosen, typed_every, typed_types, typed_roomy, typed_sound}

-- ---- the draft

empty_is : {A : Type 0} (xs : List A) → is_empty xs ≡ eqb (length xs) 0
unfolding is_empty
empty_is [] = refl
empty_is (x ∷ xs) = sym (ne_eqb (suc (length xs)) 0 (λ z. omega arith))

-- a good line is in its place
in_place : (b : Bool) (n : P.Result (Unit {0}) Cause) → (if b then Err OutOfOrder else n) ≡ Ok tt → b ≡ false
in_place true n p = absurd (cc)
in_place false n p = refl

abbrev unruled : (rels : List Relation) → (types : List (List ℕ)) → (chosen : List Relation) → Option Relation → D.Draft
unruled rels types chosen last = record { rels = rels; types = types; chosen = chosen; every = last; ruled = none }

abbrev unsorted : Sorts
unsorted = record { firsts = 0; seconds = 0 }

module _ (s : List ℕ) (g : Signature) where
  types_length : length (types_of s g) ≡ g.types
  unfolding types_of
  types_length = length_names s g.from g.to 13 g.types

  rels_length : length (rels_of s g) ≡ g.rels
  unfolding rels_of
  rels_length = length_relations s g 0 g.rels

  chosen_length : length (chosen_of s g) ≡ g.chosen
  unfolding chosen_of
  chosen_length = length_relations s g g.rels g.chosen

  some_every : is_some (every_of s g) ≡ not (eqb g.every 0)
  unfolding every_of is_some last_of
  some_every = by_count g.every
    where
      by_count : (k : ℕ) → is_some (last_of s g k) ≡ not (eqb k 0)
      by_count zero = refl
      by_count (suc k) = rw (ne_eqb (suc k) 0 (λ z. omega arith))

  -- a good line has room
  module _ (a e : ℕ) where
    rel_room : (k : ℕ) → judge_of s g (Rel a e k) ≡ Ok tt → (g.types ≡ 0) × (g.chosen ≡ 0) × (g.rels < 8)
    unfolding judge_of
    rel_room k p = not_late g.types g.chosen g.rels (in_place _ _ p)

    type_room : judge_of s g (Typed a e) ≡ Ok tt → (g.chosen ≡ 0) × (g.types < 8)
    unfolding judge_of
    type_room p = let n = not_late 0 g.chosen g.types (in_place _ _ p) in (n.1, n.2)

    choose_room : (k d t u v : ℕ) → judge_of s g (Choose a e k d t u v) ≡ Ok tt → (g.every ≡ 0) × (g.chosen < 4)
    unfolding judge_of
    choose_room k d t u v p = not_closed g.every g.chosen (in_place _ _ p)

    every_room : (k : ℕ) → judge_of s g (Every a e k) ≡ Ok tt → (g.every ≡ 0) × (1 ≤ g.chosen)
    unfolding judge_of every_fault
    every_room k p =
        let b = or_both (not (eqb g.every 0)) (eqb g.chosen 0) (in_place _ _ p) in
        let c = eqb-false g.chosen 0 b.1 in
        (eqb-true g.every 0 (not-false (eqb g.every 0) b.0), omega arith)

  -- the draft after it
  module _ (v : SoundSignature s g) (w : Roomy g) (a e : ℕ) where
    rel_grown : (k : ℕ) → judge_of s g (Rel a e k) ≡ Ok tt
        → unruled (rels_of s g ++ (related (slice a e s) k static unsorted ∷ [])) (types_of s g) (chosen_of s g) (every_of s g) ≡ draft_of s (grown_by s g (Rel a e k))
    unfolding draft_of grown_by rels_of chosen_of pushed relations_from kind_of
    rel_grown k p =
        let n = rel_room a e k p in
        let z : 0 + g.rels ≡ g.rels = omega arith in
        let o : g.every ≡ 0 = omega (arith, n.1, every_late g w) in
        rw (
          no_every s g o,
          no_every s (pushed g g.rels a e k 0 unsorted (g.rels + 1) g.chosen g.every) o,
          one_more s g g.rels a e k 0 unsorted (g.rels + 1) g.chosen g.every 0 g.rels z w (omega (arith, n.2)),
          pushed_types s g g.rels a e k 0 unsorted (g.rels + 1) g.chosen g.every (omega (arith, n.2)),
          n.1,
        )

    type_grown : judge_of s g (Typed a e) ≡ Ok tt → unruled (rels_of s g) (types_of s g ++ (slice a e s ∷ [])) (chosen_of s g) (every_of s g) ≡ draft_of s (grown_by s g (Typed a e))
    unfolding draft_of grown_by
    type_grown p =
        let o : g.every ≡ 0 = omega (arith, (type_room a e p).0, every_late g w) in
        rw (no_every s g o, typed_every s g a e o, typed_rels s g a e v.rels_le, typed_types s g a e w (type_room a e p).1, typed_chosen s g a e v.rels_le v.chosen_le)

    choose_grown : (k d x y z : ℕ) → judge_of s g (Choose a e k d x y z) ≡ Ok tt
        → unruled (rels_of s g) (types_of s g) (chosen_of s g ++ (related (slice a e s) k (kind_of d) (sorts_in (types_of s g) (types_at s x y z)) ∷ [])) (every_of s g) ≡ draft_of s (grown_by s g (Choose a e k d x y z))
    unfolding draft_of grown_by rels_of chosen_of pushed
    choose_grown k d x y z p =
        let i = g.rels + g.chosen in
        let q = sorts_in (types_of s g) (types_at s x y z) in
        let r = choose_room a e k d x y z p in
        let l : i < 13 = omega (arith, r.1, v.rels_le) in
        rw (
          no_every s g r.0,
          no_every s (pushed g i a e k d q g.rels (g.chosen + 1) g.every) r.0,
          one_more s g i a e k d q g.rels (g.chosen + 1) g.every g.rels g.chosen refl w l,
          pushed_types s g i a e k d q g.rels (g.chosen + 1) g.every l,
          pushed_before s g i a e k d q g.rels (g.chosen + 1) g.every 0 g.rels (omega arith),
        )

    every_grown : (k : ℕ) → judge_of s g (Every a e k) ≡ Ok tt
        → unruled (rels_of s g) (types_of s g) (chosen_of s g) (some (varying (slice a e s) k)) ≡ draft_of s (grown_by s g (Every a e k))
    unfolding draft_of grown_by rels_of chosen_of pushed kind_of
    every_grown k p =
        let i = g.rels + g.chosen in
        let l : i < 13 = omega (arith, v.rels_le, v.chosen_le) in
        rw (
          pushed_every s g i a e k 6 unsorted g.rels g.chosen refl w l,
          pushed_types s g i a e k 6 unsorted g.rels g.chosen 1 l,
          pushed_before s g i a e k 6 unsorted g.rels g.chosen 1 0 g.rels (omega arith),
          pushed_before s g i a e k 6 unsorted g.rels g.chosen 1 g.rels g.chosen (omega arith),
        )

    -- what the definitions make of a line, by the number that it gets
    rel_is : (at k : ℕ) → D.add_rel (draft_of s g) at (slice a e s) k ≡ unless (judge_of s g (Rel a e k)) at (accepted (draft_of s (grown_by s g (Rel a e k))))
    unfolding D.add_rel draft_of judge_of name_fault is_late
    rel_is at k =
        rw (empty_is (types_of s g), types_length, empty_is (chosen_of s g), chosen_length, rels_length)
        (test at _ OutOfOrder _ _ _ (test at _ BadName _ _ _ (untested at _)))
        ∙ unless_ext at (judge_of s g (Rel a e k)) _ _ (λ p. ap accepted (rel_grown k p))

    type_is : (at : ℕ) → D.add_type (draft_of s g) at (slice a e s) ≡ unless (judge_of s g (Typed a e)) at (accepted (draft_of s (grown_by s g (Typed a e))))
    unfolding D.add_type draft_of judge_of type_fault is_late
    type_is at =
        rw (empty_is (chosen_of s g), chosen_length, types_length)
        (test at _ OutOfOrder _ _ _ (test at _ BadName _ _ _ (test at _ BadType _ _ _ (untested at _))))
        ∙ unless_ext at (judge_of s g (Typed a e)) _ _ (λ p. ap accepted (type_grown p))

    choose_is : (at k d x y z : ℕ) → D.add_choose (draft_of s g) at (slice a e s) k (kind_of d) (types_at s x y z)
        ≡ unless (judge_of s g (Choose a e k d x y z)) at (accepted (draft_of s (grown_by s g (Choose a e k d x y z))))
    unfolding D.add_choose D.is_ruled draft_of judge_of choose_fault is_closed sorts_in
    choose_is at k d x y z =
        rw (some_every, or-false (not (eqb g.every 0)), chosen_length) (test at _ OutOfOrder _ _ _ (test at _ BadName _ _ _ (test at _ BadType _ _ _ (untested at _))))
        ∙ unless_ext at (judge_of s g (Choose a e k d x y z)) _ _ (λ p. ap accepted (choose_grown k d x y z p))

    every_is : (at k : ℕ) → D.add_every (draft_of s g) at (slice a e s) k ≡ unless (judge_of s g (Every a e k)) at (accepted (draft_of s (grown_by s g (Every a e k))))
    unfolding D.add_every D.is_ruled draft_of judge_of every_fault name_fault
    every_is at k =
        rw (some_every, or-false (not (eqb g.every 0)), empty_is (chosen_of s g), chosen_length)
        (test at _ OutOfOrder _ _ _ (test at _ BadName _ _ _ (untested at _)))
        ∙ unless_ext at (judge_of s g (Every a e k)) _ _ (λ p. ap accepted (every_grown k p))

  rule_out : (at : ℕ) (text : List ℕ) → g.chosen ≡ 0 → D.add_rule (draft_of s g) at text ≡ refused 3 at
  unfolding D.add_rule draft_of D.is_ruled refuse_if ◌>>=◌
  rule_out at text h = rw (empty_is (chosen_of s g), chosen_length, eq-eqb g.chosen 0 h)

-- ---- one line

module _ (s : List ℕ) (g : Signature) (at : ℕ) (v : SoundSignature s g) (w : Roomy g) where
  -- a good line: there is room for it, and the signature stays sound
  unfoldable pub Grows : Entry → Type 0
  Grows x = Room g x × SoundSignature s (grown_by s g x) × Roomy (grown_by s g x)

  pub line_grows : (x : Entry) → InText s at x → judge_of s g x ≡ Ok tt → Grows x
  unfolding Grows Room judge_of InText grown_by
  line_grows (Rel a e k) t p =
      let n = rel_room s g a e k p in (
        omega (arith, n.1, n.2),
        pushed_sound s g g.rels a e k 0 unsorted (g.rels + 1) g.chosen g.every v w (omega (arith, n.1, every_late g w)) (omega (arith, n.2)) (omega (arith, n.1, every_late g w)) (omega (arith, n.2)) v.chosen_le v.every_le t.0 t.1 t.2 t.3 (omega arith) (omega arith),
        pushed_roomy s g g.rels a e k 0 unsorted (g.rels + 1) g.chosen g.every w (every_late g w),
      )
  line_grows (Typed a e) t p =
      let n = type_room s g a e p in
      (n.1, typed_sound s g a e v n.1, typed_roomy s g a e w)
  line_grows (Choose a e k d x y z) t p =
      let l = choose_room s g a e k d x y z p in
      let i = g.rels + g.chosen in
      let q = sorts_in (types_of s g) (types_at s x y z) in
      let f = sorts_few (types_of s g) (types_at s x y z) in
      let n = types_length s g in (
        (omega (arith, v.rels_le), v.types_le, λ h. (t.4 h).1),
        pushed_sound s g i a e k d q g.rels (g.chosen + 1) g.every v w (omega arith) (omega (arith, v.rels_le)) (omega arith) v.rels_le (omega arith) v.every_le t.0 t.1 t.2 t.3
            (omega (arith, n, f.0)) (omega (arith, n, f.1)),
        pushed_roomy s g i a e k d q g.rels (g.chosen + 1) g.every w (omega arith),
      )
  line_grows (Every a e k) t p =
      let o = every_room s g a e k p in
      let i = g.rels + g.chosen in (
        omega (arith, v.rels_le, v.chosen_le),
        pushed_sound s g i a e k 6 unsorted g.rels g.chosen 1 v w (omega arith) (omega (arith, v.rels_le, v.chosen_le)) (omega arith) v.rels_le v.chosen_le (omega arith) t.0 t.1 t.2 t.3
            (omega arith) (omega arith),
        pushed_roomy s g i a e k 6 unsorted g.rels g.chosen 1 w o.1,
      )
  line_grows (Rule a e) t p = absurd (cc)
  line_grows Wrong t p = absurd (cc)
  line_grows (Size n) t p = absurd (cc)
  line_grows (Label k a b e) t p = absurd (cc)
  line_grows (Member a b k e) t p = absurd (cc)
  line_grows (Fact a b e y) t p = absurd (cc)
  line_grows (Pick a b e y) t p = absurd (cc)
  line_grows (Step k) t p = absurd (cc)

  -- any line but the rule
  pub line_is : (x : Entry) → ((a e : ℕ) → x ≡ Rule a e → ⊥) → (given (entry_in s x) 2 at >>= D.add_to_question (draft_of s g) at) ≡ unless (judge_of s g x) at (accepted (draft_of s (grown_by s g x)))
  unfolding judge_of entry_in given ◌>>=◌ D.add_to_question unless
  line_is (Rel a e k) m = rel_is s g v w a e at k
  line_is (Typed a e) m = type_is s g v w a e at
  line_is (Choose a e k d x y z) m = choose_is s g v w a e at k d x y z
  line_is (Every a e k) m = every_is s g v w a e at k
  line_is (Rule a e) m = absurd (m a e refl)
  line_is Wrong m = refl
  line_is (Size n) m = refl
  line_is (Label k a b e) m = refl
  line_is (Member a b k e) m = refl
  line_is (Fact a b e y) m = refl
  line_is (Pick a b e y) m = refl
  line_is (Step k) m = refl

-- ---- the loop

module _ (s : List ℕ) where
  question_by : D.read_question s ≡ (read_text (line_by D.add_to_question) (draft_of s no_signature) s >>= whole s)
  unfolding D.read_question D.question_line line_by draft_of whole rels_of chosen_of every_of last_of types_of relations_from names_from no_signature
  question_by = refl

  unfoldable pub HeadAt : Signature → ℕ → Type 0
  HeadAt g at = SoundSignature s g × Roomy g × (D.read_question s ≡ (read_at D.add_to_question s at (draft_of s g) >>= whole s))

  pub head_long : text_limit < length s → Headed s (Err (record { cause = TooLong; place = 0 }))
  unfolding ◌>>=◌
  head_long h = question_by ∙ ap (λ (r : Result D.Draft). r >>= whole s) (read_long D.add_to_question s (draft_of s no_signature) h)

  pub head_start : length s ≤ text_limit → HeadAt no_signature 0
  unfolding HeadAt
  head_start h = (none_sound s, none_roomy, question_by ∙ ap (λ (r : Result D.Draft). r >>= whole s) (read_start D.add_to_question s (draft_of s no_signature) h))

  module _ (g : Signature) (at : ℕ) (h : HeadAt g at) where
    pub head_sound : SoundSignature s g
    unfolding HeadAt
    head_sound = h.0

    pub head_missing : at ≡ length s → Headed s (Err (record { cause = OutOfOrder; place = length s }))
    unfolding HeadAt whole draft_of given ◌>>=◌
    head_missing z = h.2 ∙ ap (λ (r : Result D.Draft). r >>= whole s) (read_stop D.add_to_question s at (draft_of s g) z)

    module _ (next : ℕ) (x : Entry) (line : (at < next) × (next ≤ length s) × Reads s at next x × InText s at x) where
      head_reads : (r : Result D.Draft) → (given (entry_in s x) 2 at >>= D.add_to_question (draft_of s g) at) ≡ r → D.read_question s ≡ ((r >>= read_at D.add_to_question s next) >>= whole s)
      unfolding HeadAt
      head_reads r e =
          h.2
          ∙ ap (λ (r : Result D.Draft). r >>= whole s) (read_next D.add_to_question s at next (draft_of s g) x line.2 ∙ ap (λ (r : Result D.Draft). r >>= read_at D.add_to_question s next) e)

      -- the rule's line
      module _ (a e : ℕ) (r : x ≡ Rule a e) where
        rule_reads : D.read_question s ≡ ((D.add_rule (draft_of s g) at (slice a e s) >>= read_at D.add_to_question s next) >>= whole s)
        unfolding entry_in given ◌>>=◌ D.add_to_question
        rule_reads = head_reads (D.add_rule (draft_of s g) at (slice a e s)) (ap (λ (y : Entry). given (entry_in s y) 2 at >>= D.add_to_question (draft_of s g) at) r)

        pub head_early : g.chosen ≡ 0 → Headed s (Err (record { cause = OutOfOrder; place = at }))
        unfolding ◌>>=◌
        head_early z = rule_reads ∙ ap (λ (y : Result D.Draft). (y >>= read_at D.add_to_question s next) >>= whole s) (rule_out s g at (slice a e s) z)

        pub head_rule : (g.chosen ≡ 0 → ⊥) → Headed s (Ok (record { place = at; sig = g; span = record { from = a; to = e }; next = next }))
        unfolding Reached HeadAt InText
        head_rule n = let t = subst (InText s at) r line.3 in (h.0, omega (arith, n), t.0, t.1, t.2, line.1, rule_reads)

      -- any other
      module _ (m : (a e : ℕ) → x ≡ Rule a e → ⊥) (c : P.Result (Unit {0}) Cause) (j : c ≡ judge_of s g x) where
        head_line : (given (entry_in s x) 2 at >>= D.add_to_question (draft_of s g) at) ≡ unless c at (accepted (draft_of s (grown_by s g x)))
        unfolding HeadAt
        head_line = line_is s g at h.0 h.1 x m ∙ ap (λ (n : P.Result (Unit {0}) Cause). unless n at (accepted (draft_of s (grown_by s g x)))) (sym j)

        pub head_next : c ≡ Ok tt → HeadAt (grown_by s g x) next
        unfolding HeadAt Grows ◌>>=◌
        head_next z =
            let v = line_grows s g at h.0 h.1 x line.3 (sym j ∙ z) in
            (v.1, v.2, head_reads (accepted (draft_of s (grown_by s g x))) (head_line ∙ unless_good at c _ z))

        -- a good line leaves room for what it declares
        pub head_room : c ≡ Ok tt → Room g x
        unfolding HeadAt Grows
        head_room z = (line_grows s g at h.0 h.1 x line.3 (sym j ∙ z)).0

        pub head_bad : (k : Cause) → c ≡ Err k → Headed s (Err (record { cause = k; place = at }))
        unfolding ◌>>=◌
        head_bad k n = head_reads (refused (number_of k) at) (head_line ∙ unless_bad at c k _ n)
