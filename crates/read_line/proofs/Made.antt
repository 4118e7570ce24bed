-- Each record's entry by its fields.
use Rattle.std.specs.Prelude.{Some, None, unwrap_or}
use Rattle.std.specs.Prelude as P
use mathlib.Core.Option.{Option, some}
use Prim.Native.Nat.{ℕ, zero, suc, ◌+◌, ◌≤◌, ◌<◌}
use mathlib.Core.Path.{◌≡◌, refl, sym, ap, ◌∙◌}
use mathlib.Core.Bool.{Bool, true, false}
use mathlib.Core.List.{List, [], ◌∷◌}
use mathlib.Core.Option.{some}
use native.Mathlib.Omega.{arith}
use lib.ListN.{length}
use lib.Seq.{slice}
use Rattle.definitions.specs.Lists.{option}
use Rattle.definitions.specs.Sheet.Text.{split, is_relation_name}
use Rattle.definitions.specs.Sheet.Sheets as S
use Rattle.read_text.specs.Spans.{index_of, option_of, kind_of}
use Rattle.read_line.specs.Entries.{OneField, OneNumber, TwoFields, arity_to, NameAndArity, Named, code_of, kind_number, KindNamed, type_of, rule_of, made, types_at, Tells, TellsAfter, TellsAt, entry_in, InText}
use Rattle.read_line.specs.declared.Word.{Word}
use Rattle.read_line.specs.declared.Word.TheVariants as W
use Rattle.read_line.specs.declared.Kind.{Kind}
use Rattle.read_line.specs.declared.Kind.TheVariants.{Fun, PFun, Inj, PInj}
use Rattle.read_line.specs.contracts.Kind.{the_type}
use denote.Enum.Declared.{tag_of}
use Rattle.read_line.specs.declared.Entry.{Entry}
use Rattle.read_line.specs.declared.Places.{Places}
use Rattle.read_line.specs.declared.Entry.TheVariants.{Wrong, Rel, Typed, Choose, Every, Rule, Size, Label, Member, Fact, Pick, Step}
use Rattle.read_text.proofs.Laws.{pieces_at, pieces_whole, split_some}
use Rattle.read_line.proofs.Fields.{two_bounds, two_bad, two_is, one_bad, one_is, num_is, num_bad, element_by_lem, choose_of_one, choose_by_arity, choose_by_kind, typed_no_kind, typed_by_kind}

-- a kind's number, as a cast gives it
pub kind_tag : (k : Kind) → tag_of the_type k + 2 ≡ kind_number k
kind_tag Fun = refl
kind_tag PFun = refl
kind_tag Inj = refl
kind_tag PInj = refl

-- what a `choose` line says, by its fields
pub types_at_lem : (s : List ℕ) (t u v : ℕ) → 0 < v → types_at s t u v ≡ slice t u s ∷ slice (u + 1) v s ∷ []
unfolding types_at
types_at_lem s t u zero h = absurd (omega arith)
types_at_lem s t u (suc v) h = refl

module _ (s : List ℕ) (a t e : ℕ) (h : a ≤ t) (l : t < e) (n : e ≤ length s) where
  module _ (z : KindNamed (slice (t + 1) e s) None) where
    pub untyped_bad : None ≡ option_of (arity_to 3 (slice (t + 1) e s)) → Tells s (S.choose_of (slice a t s ∷ slice (t + 1) e s ∷ [])) None
    unfolding Tells option
    untyped_bad b = sym (choose_by_arity (slice a t s) (slice (t + 1) e s) z ∙ rw (num_bad (arity_to 3 (slice (t + 1) e s)) None refl b))

    pub untyped_good : (k : ℕ) → Some k ≡ option_of (arity_to 3 (slice (t + 1) e s)) → (1 ≤ k) × (k ≤ 3) → Tells s (S.choose_of (slice a t s ∷ slice (t + 1) e s ∷ [])) (Some (Choose a t k 1 0 0 0))
    unfolding Tells entry_in InText option kind_of types_at
    untyped_good k b w = (
      sym (choose_by_arity (slice a t s) (slice (t + 1) e s) z ∙ rw (num_is (arity_to 3 (slice (t + 1) e s)) (Some k) k refl b)),
      λ at. (h, omega arith, w.0, w.1, λ y. absurd (omega arith)),
    )

  pub untyped_kind : (k : Kind) → KindNamed (slice (t + 1) e s) (Some k) → Tells s (S.choose_of (slice a t s ∷ slice (t + 1) e s ∷ [])) (Some (Choose a t 2 (kind_number k) 0 0 0))
  unfolding Tells entry_in InText types_at
  untyped_kind k q = (
    sym (choose_by_kind (slice a t s) (slice (t + 1) e s) k q),
    λ at. (h, omega arith, omega arith, omega arith, λ z. absurd (omega arith)),
  )

module _ (s : List ℕ) (a t u e : ℕ) (h : a ≤ t) (l : t < u) (m : u < e) (n : e ≤ length s) where
  others_some : 0 < length (split 9 (slice (u + 1) e s))
  others_some = split_some 9 (slice (u + 1) e s)

  pub typed_none : KindNamed (slice (t + 1) u s) None → Tells s (S.choose_of (slice a t s ∷ slice (t + 1) u s ∷ split 9 (slice (u + 1) e s))) None
  unfolding Tells
  typed_none z = sym (typed_no_kind (slice a t s) (slice (t + 1) u s) (split 9 (slice (u + 1) e s)) others_some z)

  module _ (k : Kind) (z : KindNamed (slice (t + 1) u s) (Some k)) where
    make : List ℕ → List ℕ → Option S.Entry
    make x y = some (S.choose (slice a t s) 2 (kind_of (kind_number k)) (x ∷ y ∷ []))

    typed_so : S.choose_of (slice a t s ∷ slice (t + 1) u s ∷ split 9 (slice (u + 1) e s)) ≡ S.with_two make (split 9 (slice (u + 1) e s))
    unfolding make
    typed_so = typed_by_kind (slice a t s) (slice (t + 1) u s) (split 9 (slice (u + 1) e s)) others_some k z

    pub typed_bad : TwoFields s (u + 1) e None → Tells s (S.choose_of (slice a t s ∷ slice (t + 1) u s ∷ split 9 (slice (u + 1) e s))) None
    unfolding Tells
    typed_bad w = two_bad s (u + 1) e w make ∙ sym typed_so

    pub typed_good : (v : ℕ) → TwoFields s (u + 1) e (Some v) → Tells s (S.choose_of (slice a t s ∷ slice (t + 1) u s ∷ split 9 (slice (u + 1) e s))) (Some (Choose a t 2 (kind_number k) (u + 1) v e))
    unfolding Tells entry_in InText make
    typed_good v w =
        let b = two_bounds s (u + 1) e v w in (
          ap (λ (ts : List (List ℕ)). some (S.choose (slice a t s) 2 (kind_of (kind_number k)) ts)) (types_at_lem s (u + 1) v e (omega arith))
              ∙ sym (typed_so ∙ two_is s (u + 1) e v w make),
          λ at. (h, omega arith, omega arith, omega arith, λ y. (b.0, b.1, n)),
        )

module _ (s : List ℕ) (a e : ℕ) (h : a ≤ e) (k : e ≤ length s) (t : ℕ) (q : t ≡ a + index_of 9 (slice a e s)) where
  pub choose_alone : e ≤ t → Tells s (S.choose_of (split 9 (slice a e s))) None
  unfolding Tells
  choose_alone l = sym (ap S.choose_of (pieces_whole 9 a e s h k t q l) ∙ choose_of_one (slice a e s))

  module _ (l : t < e) (u : ℕ) (r : u ≡ (t + 1) + index_of 9 (slice (t + 1) e s)) where
    pub choose_two : e ≤ u → S.choose_of (slice a t s ∷ slice (t + 1) e s ∷ []) ≡ S.choose_of (split 9 (slice a e s))
    choose_two m = ap S.choose_of (sym (pieces_at 9 a e s h k t q l ∙ ap (λ (fs : List (List ℕ)). slice a t s ∷ fs) (pieces_whole 9 (t + 1) e s (omega arith) k u r m)))

    pub choose_more : u < e → S.choose_of (slice a t s ∷ slice (t + 1) u s ∷ split 9 (slice (u + 1) e s)) ≡ S.choose_of (split 9 (slice a e s))
    choose_more m = ap S.choose_of (sym (pieces_at 9 a e s h k t q l ∙ ap (λ (fs : List (List ℕ)). slice a t s ∷ fs) (pieces_at 9 (t + 1) e s (omega arith) k u r m)))

-- what a line with one or two fields, or a name and elements, says
module _ (s : List ℕ) (a e : ℕ) (n : e ≤ length s) where
  pub label_none : TwoFields s a e None → Tells s (S.with_two S.label_of (split 9 (slice a e s))) None
  unfolding Tells
  label_none w = two_bad s a e w S.label_of

  pub member_none : TwoFields s a e None → Tells s (S.with_two S.member_of (split 9 (slice a e s))) None
  unfolding Tells
  member_none w = two_bad s a e w S.member_of

  module _ (t : ℕ) (w : TwoFields s a e (Some t)) where
    pub label_malformed : is_relation_name (slice (t + 1) e s) ≡ false → Tells s (S.with_two S.label_of (split 9 (slice a e s))) None
    unfolding Tells S.label_of
    label_malformed q = sym (two_is s a e t w S.label_of ∙ rw q)

    module _ (q : is_relation_name (slice (t + 1) e s) ≡ true) where
      pub label_bad : None ≡ option_of (code_of (slice a t s)) → Tells s (S.with_two S.label_of (split 9 (slice a e s))) None
      unfolding Tells S.label_of option
      label_bad b = sym (two_is s a e t w S.label_of ∙ rw (q, element_by_lem (slice a t s), num_bad (code_of (slice a t s)) None refl b))

      pub label_good : (k : ℕ) → Some k ≡ option_of (code_of (slice a t s)) → Tells s (S.with_two S.label_of (split 9 (slice a e s))) (Some (Label k a t e))
      unfolding Tells entry_in InText S.label_of option
      label_good k b = (
        sym (two_is s a e t w S.label_of ∙ rw (q, element_by_lem (slice a t s), num_is (code_of (slice a t s)) (Some k) k refl b)),
        λ at. ((two_bounds s a e t w).1, n, q),
      )

    pub member_bad : None ≡ option_of (code_of (slice (t + 1) e s)) → Tells s (S.with_two S.member_of (split 9 (slice a e s))) None
    unfolding Tells S.member_of option
    member_bad b = sym (two_is s a e t w S.member_of ∙ rw (element_by_lem (slice (t + 1) e s), num_bad (code_of (slice (t + 1) e s)) None refl b))

    pub member_good : (k : ℕ) → Some k ≡ option_of (code_of (slice (t + 1) e s)) → Tells s (S.with_two S.member_of (split 9 (slice a e s))) (Some (Member a t k e))
    unfolding Tells entry_in InText S.member_of option
    member_good k b = (
      sym (two_is s a e t w S.member_of ∙ rw (element_by_lem (slice (t + 1) e s), num_is (code_of (slice (t + 1) e s)) (Some k) k refl b)),
      λ at. ((two_bounds s a e t w).0, (two_bounds s a e t w).1, n),
    )

-- what follows a record word
module _ (s : List ℕ) (a e : ℕ) where
  pub rel_none : NameAndArity s a e 3 None → TellsAfter s W.Rel a (made W.Rel (split 9 (slice a e s))) None
  unfolding TellsAfter made NameAndArity
  rel_none w = sym (w S.rel)

  pub every_none : NameAndArity s a e 2 None → TellsAfter s W.Every a (made W.Every (split 9 (slice a e s))) None
  unfolding TellsAfter made NameAndArity
  every_none w = sym (w S.every)

  pub size_none : OneNumber s a e None → TellsAfter s W.Size a (made W.Size (split 9 (slice a e s))) None
  unfolding TellsAfter made OneNumber
  size_none w = sym (w S.size)

  pub step_none : OneNumber s a e None → TellsAfter s W.Step a (made W.Step (split 9 (slice a e s))) None
  unfolding TellsAfter made OneNumber
  step_none w = sym (w S.step)

  pub fact_none : Named s a e None → TellsAfter s W.Fact a (made W.Fact (split 9 (slice a e s))) None
  unfolding TellsAfter made Named
  fact_none w = sym (w S.fact)

  pub pick_none : Named s a e None → TellsAfter s W.Pick a (made W.Pick (split 9 (slice a e s))) None
  unfolding TellsAfter made Named
  pick_none w = sym (w S.pick)

  module _ (t k : ℕ) (h : e ≤ length s) where
    pub rel_good : NameAndArity s a e 3 (Some (t, k)) → TellsAfter s W.Rel a (made W.Rel (split 9 (slice a e s))) (Some (Rel a t k))
    unfolding TellsAfter made NameAndArity entry_in InText
    rel_good w = (sym (w.4 S.rel), λ at p. (w.0, omega arith, w.2, w.3))

    pub every_good : NameAndArity s a e 2 (Some (t, k)) → TellsAfter s W.Every a (made W.Every (split 9 (slice a e s))) (Some (Every a t k))
    unfolding TellsAfter made NameAndArity entry_in InText
    every_good w = (sym (w.4 S.every), λ at p. (w.0, omega arith, w.2, omega arith))

  pub size_good : (n : ℕ) → OneNumber s a e (Some n) → TellsAfter s W.Size a (made W.Size (split 9 (slice a e s))) (Some (Size n))
  unfolding TellsAfter made OneNumber entry_in InText
  size_good n w = (sym (w S.size), λ at p. tt)

  pub step_good : (n : ℕ) → OneNumber s a e (Some n) → TellsAfter s W.Step a (made W.Step (split 9 (slice a e s))) (Some (Step n))
  unfolding TellsAfter made OneNumber entry_in InText
  step_good n w = (sym (w S.step), λ at p. tt)

  module _ (t : ℕ) (p : Places) (w : Named s a e (Some (t, p))) where
    pub fact_good : TellsAfter s W.Fact a (made W.Fact (split 9 (slice a e s))) (Some (Fact a t e p))
    unfolding TellsAfter made Named entry_in InText
    fact_good = (sym (w.1 S.fact), λ at q. w.0)

    pub pick_good : TellsAfter s W.Pick a (made W.Pick (split 9 (slice a e s))) (Some (Pick a t e p))
    unfolding TellsAfter made Named entry_in InText
    pick_good = (sym (w.1 S.pick), λ at q. w.0)

  module _ (b : Bool) (w : OneField s a e b) where
    pub type_none : b ≡ false → TellsAfter s W.Typed a (made W.Typed (split 9 (slice a e s))) None
    unfolding TellsAfter made
    type_none p = sym (one_bad s a e b p w type_of)

    pub rule_none : b ≡ false → TellsAfter s W.Rule a (made W.Rule (split 9 (slice a e s))) None
    unfolding TellsAfter made
    rule_none p = sym (one_bad s a e b p w rule_of)

    module _ (p : b ≡ true) (h : a ≤ e) (k : e ≤ length s) where
      pub type_good : TellsAfter s W.Typed a (made W.Typed (split 9 (slice a e s))) (Some (Typed a e))
      unfolding TellsAfter made entry_in InText type_of
      type_good = (sym (one_is s a e b p w type_of), λ at q. (h, k))

      pub rule_good : TellsAfter s W.Rule a (made W.Rule (split 9 (slice a e s))) (Some (Rule a e))
      unfolding TellsAfter made entry_in InText rule_of
      rule_good = (sym (one_is s a e b p w rule_of), λ at q. (q refl, h, k))

-- whatever the line is
pub told_after : (s : List ℕ) (word : Word) (a : ℕ) (o : Option S.Entry) (x : P.Option Entry) → Tells s o x → TellsAfter s word a o x
unfolding Tells TellsAfter
told_after s word a o None w = w
told_after s word a o (Some x) w = (w.0, λ at p. w.1 at)

-- an answer, or none, as the entry of a line
pub told_or : (s : List ℕ) (at : ℕ) (o : Option S.Entry) (x : P.Option Entry) → TellsAt s at o x → (entry_in s (unwrap_or x Wrong) ≡ o) × InText s at (unwrap_or x Wrong)
unfolding TellsAt entry_in InText
told_or s at o None w = (w, tt)
told_or s at o (Some x) w = w

pub in_wrong : (s : List ℕ) (at : ℕ) → InText s at Wrong
unfolding InText
in_wrong s at = tt
