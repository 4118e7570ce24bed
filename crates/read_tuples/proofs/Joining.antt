-- One member more: its type, its element, and the words that then say it.
use Rattle.std.specs.Prelude.{Some, None}
use Rattle.std.specs.Prelude as P
use Prim.Native.Nat.{ℕ, ◌+◌, ◌*◌, ◌<◌, ◌≤◌}
use mathlib.Core.Path.{◌≡◌, refl, sym, ap, ap₂, subst, ◌∙◌}
use mathlib.Core.Bool.{Bool, true, false, cond, ◌&&◌, ◌||◌, or-false, or-true, and-false}
use mathlib.Core.List.{List, [], ◌∷◌, ◌++◌}
use mathlib.Core.Option.{Option, none, some}
use Rattle.std.specs.Prelude.{Ok, Err}
use native.Mathlib.Omega.{arith}
use native.Mathlib.Decide.{ℕ_discrete}
use lib.Dec.{eqb, ltb→lt}
use lib.ListN.{length}
use borrow.Author.Tests.{eq-eqb, ne_eqb}
use Rattle.definitions.specs.Lists.{any, is_empty, option}
use Rattle.definitions.specs.Refusal.{refused, accepted, ◌>>=◌, refuse_if, given}
use Rattle.definitions.specs.Sheet.Formula.{type_number}
use Rattle.definitions.specs.Sheet.Sheets as D
use Rattle.bits.specs.Table.{bit, put}
use Rattle.laws.specs.Booleans.{T_of, or_assoc}
use Rattle.laws.specs.Labels.{LabelsFit, means_small}
use Rattle.laws.specs.Reader.{mem_snoc}
use Rattle.refusal.specs.declared.Cause.TheVariants.{OutOfRange, Repeated, BadLabel, BadType}
use Rattle.read_text.specs.Spans.{option_of}
use Rattle.read_names.proofs.Laws.{found_some, found_none, position_some}
use Rattle.read_tuples.specs.Labels.{meant}
use Rattle.read_tuples.specs.Members.{member_draft, MemberAdds, MemberAdded}

-- ---- what is said after it

is_snoc : (ms : List D.Member) (j x k y : ℕ) → D.is_member (ms ++ (record { type = j; element = x } ∷ [])) k y ≡ (D.is_member ms k y || (eqb j k && eqb x y))
unfolding D.is_member any
is_snoc [] j x k y = or-false (eqb j k && eqb x y)
is_snoc (m ∷ ms) j x k y = ap (λ (b : Bool). (eqb m.type k && eqb m.element y) || b) (is_snoc ms j x k y) ∙ sym (or_assoc (eqb m.type k && eqb m.element y) (D.is_member ms k y) (eqb j k && eqb x y))

-- the bit of an element of a type is no other's
same_bit : (j x k y : ℕ) → x < 64 → y < 64 → eqb (64 * k + y) (64 * j + x) ≡ (eqb j k && eqb x y)
same_bit j x k y h l = from_this (ℕ_discrete j k) (ℕ_discrete x y)
  where
    from_this : Dec (j ≡ k) → Dec (x ≡ y) → eqb (64 * k + y) (64 * j + x) ≡ (eqb j k && eqb x y)
    from_this (yes a) (yes b) = eq-eqb (64 * k + y) (64 * j + x) (omega arith) ∙ sym (ap₂ ◌&&◌ (eq-eqb j k a) (eq-eqb x y b))
    from_this (yes a) (no b) = ne_eqb (64 * k + y) (64 * j + x) (λ e. b (omega arith)) ∙ sym (ap (λ (c : Bool). eqb j k && c) (ne_eqb x y b) ∙ and-false (eqb j k))
    from_this (no a) _ = ne_eqb (64 * k + y) (64 * j + x) (λ e. a (omega arith)) ∙ sym (ap (λ (c : Bool). c && eqb x y) (ne_eqb j k a))

said : (p : ℕ → Bool) (ms : List D.Member) (j x k y : ℕ) → x < 64 → y < 64 → p (64 * k + y) ≡ D.is_member ms k y
    → put p (64 * j + x) true (64 * k + y) ≡ D.is_member (ms ++ (record { type = j; element = x } ∷ [])) k y
unfolding put
said p ms j x k y h l e = ap₂ (λ (b c : Bool). cond b true c) (same_bit j x k y h l) e ∙ by_test (eqb j k && eqb x y) (D.is_member ms k y) ∙ sym (is_snoc ms j x k y)
  where
    by_test : (b c : Bool) → cond b true c ≡ (c || b)
    by_test true c = sym (or-true c)
    by_test false c = sym (or-false c)

-- ---- the line by its tests

module _ (types : List (List ℕ)) (n : ℕ) (ls : List D.Label) (name : List ℕ) (e : D.Element) (ms : List D.Member) (at : ℕ) where
  line_19 : type_number types name ≡ none → D.add_member types (member_draft n ls ms) at name e ≡ refused 19 at
  unfolding D.add_member given ◌>>=◌ refuse_if is_empty
  line_19 q = rw q

  module _ (j : ℕ) (q : type_number types name ≡ some j) where
    line_9 : D.is_in_range n e ≡ false → D.add_member types (member_draft n ls ms) at name e ≡ refused 9 at
    unfolding D.add_member given ◌>>=◌ refuse_if is_empty
    line_9 h = rw (q, h)

    module _ (h : D.is_in_range n e ≡ true) where
      line_18 : D.element_of ls e ≡ none → D.add_member types (member_draft n ls ms) at name e ≡ refused 18 at
      unfolding D.add_member given ◌>>=◌ refuse_if is_empty
      line_18 o = rw (q, h, o)

      module _ (x : ℕ) (o : D.element_of ls e ≡ some x) where
        line_10 : D.is_member ms j x ≡ true → D.add_member types (member_draft n ls ms) at name e ≡ refused 10 at
        unfolding D.add_member given ◌>>=◌ refuse_if is_empty
        line_10 k = rw (q, h, o, k)

        line_0 : D.is_member ms j x ≡ false → D.add_member types (member_draft n ls ms) at name e ≡ accepted (member_draft n ls (ms ++ (record { type = j; element = x } ∷ [])))
        unfolding D.add_member given ◌>>=◌ refuse_if is_empty
        line_0 k = rw (q, h, o, k)

-- ---- what a field means

meant_none : (n : ℕ) (ls : List D.Label) → LabelsFit n ls → (e : D.Element) → D.is_in_range n e ≡ true → n ≤ meant n (D.element_of ls e) → D.element_of ls e ≡ none
unfolding meant option
meant_none n ls F e h l = by_option (D.element_of ls e) refl l
  where
    by_option : (o : Option ℕ) → D.element_of ls e ≡ o → n ≤ option o n (λ x. x) → D.element_of ls e ≡ none
    by_option none q l = q
    by_option (some x) q l = let z : x < n = ltb→lt x n (means_small n ls F e x (T_of h) q) in absurd (omega arith)

meant_some : (n : ℕ) (o : Option ℕ) (x : ℕ) → x ≡ meant n o → x < n → o ≡ some x
unfolding meant option
meant_some n none x e l = absurd (omega arith)
meant_some n (some y) x e l = ap some (sym e)

-- ---- the answers

module _ (types : List (List ℕ)) (n : ℕ) (ls : List D.Label) (name : List ℕ) (e : D.Element) (old new : List ℕ) (f : P.Option ℕ) (w : f ≡ option_of (type_number types name)) where
  pub member_untyped : f ≡ None → MemberAdded types n ls name e old new (Err BadType)
  unfolding MemberAdded MemberAdds
  member_untyped p ms at M = line_19 types n ls name e ms at (found_none _ f p w)

  module _ (j : ℕ) (p : f ≡ Some j) where
    its_number : type_number types name ≡ some j
    its_number = found_some _ j f p w

    pub type_below : j < length types
    unfolding type_number
    type_below = (position_some _ types j [] its_number).0

    pub member_wide : D.is_in_range n e ≡ false → MemberAdded types n ls name e old new (Err OutOfRange)
    unfolding MemberAdded MemberAdds
    member_wide h ms at M = line_9 types n ls name e ms at j its_number h

    module _ (F : LabelsFit n ls) (h : D.is_in_range n e ≡ true) (x : ℕ) (v : x ≡ meant n (D.element_of ls e)) where
      pub member_nobody : n ≤ x → MemberAdded types n ls name e old new (Err BadLabel)
      unfolding MemberAdded MemberAdds
      member_nobody l ms at M = line_18 types n ls name e ms at j its_number h (meant_none n ls F e h (subst (λ (y : ℕ). n ≤ y) v l))

      module _ (l : x < n) (few : n ≤ 64) where
        pub member_again : bit old (64 * j + x) ≡ true → MemberAdded types n ls name e old new (Err Repeated)
        unfolding MemberAdded MemberAdds
        member_again b ms at M = line_10 types n ls name e ms at j its_number h x (meant_some n _ x v l) (sym (M.says j x (omega arith)) ∙ b)

        pub member_new : bit old (64 * j + x) ≡ false → length new ≡ 8 → bit new ≡ put (bit old) (64 * j + x) true → MemberAdded types n ls name e old new (Ok tt)
        unfolding MemberAdded MemberAdds
        member_new b r s ms at M = (
          record { type = j; element = x },
          line_0 types n ls name e ms at j its_number h x (meant_some n _ x v l) (sym (M.says j x (omega arith)) ∙ b),
          record {
            room = r;
            says = λ k y t. ap (λ (p : ℕ → Bool). p (64 * k + y)) s ∙ said (bit old) ms j x k y (omega arith) t (M.says k y t);
            fit = record {
              typed = mem_snoc (λ (m : D.Member). m.type < length types) ms (record { type = j; element = x }) M.fit.typed type_below;
              small = mem_snoc (λ (m : D.Member). m.element < n) ms (record { type = j; element = x }) M.fit.small l;
            };
          },
        )
