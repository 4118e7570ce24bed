-- The built layers without asking what may be taken: the set steps are one layer, begin-proof is the next, and after these each step's
-- layer is the first one before which all that it needs is there. So the layer of a step is told from a table of levels, one for each
-- atom, filled in one pass over the built steps.
use Prim.Native.Nat.{ℕ, zero, suc, ◌+◌, ◌-◌, ◌<◌, ◌≤◌}
use Rattle.std.specs.Prelude.{◌≡◌, ◌⊎◌, Bool, ◌&&◌, ◌||◌, eqb, ltb, length, if◌then◌else◌}
use Rattle.std.proofs.Math.Path.{refl, sym, ap, ap₂, subst, fun_ext}
use Rattle.std.proofs.Common.{◌∙◌}
use Rattle.std.proofs.Math.Logic.{inl, inr, ⊎_elim}
use Rattle.std.proofs.Math.Bool.{true, false, not}
use mathlib.Core.List.Memᴰ
use mathlib.Core.List.{List, [], ◌∷◌, ◌++◌, map, append_assoc, Memᴰ}
use native.Mathlib.Omega.{arith}
use Rattle.std.proofs.Math.Dec.{T, leb, T_not, not_T}
use borrow.Author.Tests.{leb-true, leb-false, ltb-true, ltb-false, lt-ltb, le-ltb}
use Rattle.definitions.specs.Lists.{all, any, flat_map, is_in}
use Rattle.definitions.specs.Problem.Atoms.{Problem, Atom, atom_number, State}
use Rattle.definitions.specs.Problem.Actions.{Action, needs, adds, removes}
use Rattle.definitions.specs.Problem.Strips.{may_take, after}
use Rattle.definitions.specs.Reply.Layers.{most, are_apart, may_take_all, after_all, join, join_each, flat}
use Rattle.laws.specs.Booleans.{and_T, T_and_l, T_and_r, T_or, or_l, or_r, T_of, T_true, T_false}
use Rattle.laws.specs.Lists.{map_mem, mem_map, flat_append}
use Rattle.laws.specs.Members.{in_mem}
use Rattle.laws.specs.Numbers.{IsAction}
use Rattle.meaning.specs.Means.{Good}
use Rattle.meaning.specs.Does.{ends}
use Rattle.meaning.specs.Changes.{any_append}
use Rattle.meaning.specs.Layers.{is_needed, is_added, is_removed, are_added, are_removed, added_some, removed_some, some_removed, may_needed, needed_at, needed_may, may_more, Spares, Apart, apart_head, apart_tail, apart_cons, all_may, are_apart_lem, may_all, first_after, none_after, NoEvery, never_both, Actions}
use Rattle.meaning.specs.Windows.{most_at, most_of}

-- ---- layers put together
pub flat_app : {A : Type 0} (ls ms : List (List A)) → flat (ls ++ ms) ≡ flat ls ++ flat ms
unfolding flat
flat_app [] ms = refl
flat_app (l ∷ ls) ms = ap (λ (x : List _). l ++ x) (flat_app ls ms) ∙ sym (append_assoc l (flat ls) (flat ms))

module _ (p : Problem) where
  -- ---- a step put into the layer of an index, or into a new last one
  unfoldable pub insert_at : ℕ → Action → List (List Action) → List (List Action)
  insert_at k a [] = (a ∷ []) ∷ []
  insert_at zero a (l ∷ ls) = (l ++ (a ∷ [])) ∷ ls
  insert_at (suc k) a (l ∷ ls) = l ∷ insert_at k a ls

  -- a step's level by a table of levels: the greatest of what it needs; what it adds has the next level
  unfoldable pub level : (ℕ → ℕ) → Action → ℕ
  level τ a = most (map (λ x. τ (atom_number p x)) (needs p a))

  unfoldable pub raise : (ℕ → ℕ) → Action → ℕ → ℕ
  raise τ a i = if is_added p a i then suc (level τ a) else τ i

  unfoldable pub insert_each : (ℕ → ℕ) → List (List Action) → List Action → List (List Action)
  insert_each τ ls [] = ls
  insert_each τ ls (a ∷ l) = insert_each (raise τ a) (insert_at (level τ a) a ls) l

  -- ---- layers that may be taken one after another; the state after them, and before the one of an index
  unfoldable pub Legal : State → List (List Action) → Type 0
  Legal s [] = Unit {0}
  Legal s (l ∷ ls) = T (may_take_all p s l) × Legal (after_all p s l) ls

  unfoldable pub after_layers : State → List (List Action) → State
  after_layers s [] = s
  after_layers s (l ∷ ls) = after_layers (after_all p s l) ls

  unfoldable pub state_before : State → List (List Action) → ℕ → State
  state_before s [] k = s
  state_before s (l ∷ ls) zero = s
  state_before s (l ∷ ls) (suc k) = state_before (after_all p s l) ls k

  pub legal_append : (ls ms : List (List Action)) (s : State) → Legal s ls → Legal (after_layers s ls) ms → Legal s (ls ++ ms)
  unfolding Legal after_layers
  legal_append [] ms s h k = k
  legal_append (l ∷ ls) ms s h k = (h.0, legal_append ls ms (after_all p s l) h.1 k)

  pub after_app : (ls ms : List (List Action)) (s : State) → after_layers s (ls ++ ms) ≡ after_layers (after_layers s ls) ms
  unfolding after_layers
  after_app [] ms s = refl
  after_app (l ∷ ls) ms s = after_app ls ms (after_all p s l)

  before_zero : (s : State) (ls : List (List Action)) → state_before s ls 0 ≡ s
  unfolding state_before
  before_zero s [] = refl
  before_zero s (l ∷ ls) = refl

  pub before_past : (ls : List (List Action)) (s : State) (k : ℕ) → length ls ≤ k → state_before s ls k ≡ after_layers s ls
  unfolding state_before after_layers
  before_past [] s k h = refl
  before_past (l ∷ ls) s zero h = absurd (omega arith)
  before_past (l ∷ ls) s (suc k) h = before_past ls (after_all p s l) k (omega arith)

  -- ---- more holds before, more holds after
  abbrev More : State → State → Type 0
  More s s' = (i : ℕ) → T (s i) → T (s' i)

  after_more : (s s' : State) (l : List Action) → More s s' → More (after_all p s l) (after_all p s' l)
  unfolding after_all
  after_more s s' l h i t = ⊎_elim
      (λ q. or_l (s' i && not (are_removed p l i)) _ (and_T (s' i) _ (h i (T_and_l (s i) _ q)) (T_and_r (s i) _ q)))
      (λ q. or_r (s' i && not (are_removed p l i)) _ q)
      (T_or (s i && not (are_removed p l i)) _ t)

  legal_more : (ls : List (List Action)) (s s' : State) → More s s' → Legal s ls → Legal s' ls
  unfolding Legal
  legal_more [] s s' h t = tt
  legal_more (l ∷ ls) s s' h t = (
    may_all p s' l (λ a m. may_more p s s' a h (all_may p s l t.0 a m)) (are_apart_lem p s l t.0),
    legal_more ls (after_all p s l) (after_all p s' l) (after_more s s' l h) t.1,
  )

  -- ---- one more step in a layer
  apart_snoc : (l : List Action) (a : Action) → T (are_apart p l) → ((b : Action) → Memᴰ b l → Apart p b a) → T (are_apart p (l ++ (a ∷ [])))
  unfolding are_apart all
  apart_snoc [] a t h = tt
  apart_snoc (b ∷ l) a t h = apart_cons p b (l ++ (a ∷ [])) (λ c m. by_cases c (Memᴰ.append_cases l m)) (apart_snoc l a (apart_tail p b l t) (λ c m. h c (Memᴰ.tail m)))
    where
      by_cases : (c : Action) → Memᴰ c l ⊎ Memᴰ c (a ∷ []) → Apart p b c
      by_cases c (inl m) = apart_head p b l t c m
      by_cases c (inr m) = subst (Apart p b) (sym (Memᴰ.eq_of_singleton m)) (h b (Memᴰ.head refl))

  pub snoc_may : (s : State) (l : List Action) (a : Action) → T (may_take_all p s l) → T (may_take p s a) → ((b : Action) → Memᴰ b l → Apart p b a) → T (may_take_all p s (l ++ (a ∷ [])))
  snoc_may s l a t u h = may_all p s (l ++ (a ∷ [])) (λ b m. ⊎_elim (λ k. all_may p s l t b k) (λ k. subst (λ (x : Action). T (may_take p s x)) (sym (Memᴰ.eq_of_singleton k)) u) (Memᴰ.append_cases l m)) (apart_snoc l a (are_apart_lem p s l t) h)

  pub one_may : (s : State) (a : Action) → T (may_take p s a) → T (may_take_all p s (a ∷ []))
  unfolding are_apart all
  one_may s a t = may_all p s (a ∷ []) (λ b m. subst (λ (x : Action). T (may_take p s x)) (sym (Memᴰ.eq_of_singleton m)) t) tt

  -- ---- a step that removes nothing
  module _ (a : Action) (none : removes p a ≡ []) where
    nothing_removed : (i : ℕ) → is_removed p a i ≡ false
    unfolding any
    nothing_removed i = ap (λ (l : List Atom). any (eqb i) (map (atom_number p) l)) none

    spares_all : (b : Action) → Spares p a b
    spares_all b i r q = subst T (nothing_removed i) r

    after_one : (s : State) (i : ℕ) → after p s a i ≡ (s i || is_added p a i)
    unfolding after
    after_one s i = ap (λ (b : Bool). (s i && not b) || is_added p a i) (nothing_removed i) ∙ by_test (s i) (is_added p a i)
      where
        by_test : (b c : Bool) → ((b && not false) || c) ≡ (b || c)
        by_test true c = refl
        by_test false c = refl

    removed_snoc : (l : List Action) (i : ℕ) → are_removed p (l ++ (a ∷ [])) i ≡ are_removed p l i
    unfolding flat_map any
    removed_snoc l i = ap (any (eqb i)) (flat_append (λ a. map (atom_number p) (removes p a)) l (a ∷ []))
        ∙ any_append (eqb i) (flat_map (λ a. map (atom_number p) (removes p a)) l) (map (atom_number p) (removes p a) ++ [])
        ∙ ap (λ (b : Bool). are_removed p l i || b) (any_append (eqb i) (map (atom_number p) (removes p a)) [] ∙ ap (λ (b : Bool). b || false) (nothing_removed i))
        ∙ by_test (are_removed p l i)
      where
        by_test : (b : Bool) → (b || (false || false)) ≡ b
        by_test true = refl
        by_test false = refl

    added_snoc : (l : List Action) (i : ℕ) → are_added p (l ++ (a ∷ [])) i ≡ (are_added p l i || is_added p a i)
    unfolding flat_map any
    added_snoc l i = ap (any (eqb i)) (flat_append (λ a. map (atom_number p) (adds p a)) l (a ∷ []))
        ∙ any_append (eqb i) (flat_map (λ a. map (atom_number p) (adds p a)) l) (map (atom_number p) (adds p a) ++ [])
        ∙ ap (λ (b : Bool). are_added p l i || b) (any_append (eqb i) (map (atom_number p) (adds p a)) [] ∙ by_test (is_added p a i))
      where
        by_test : (b : Bool) → (b || false) ≡ b
        by_test true = refl
        by_test false = refl

    after_snoc : (s : State) (l : List Action) (i : ℕ) → after_all p s (l ++ (a ∷ [])) i ≡ (after_all p s l i || is_added p a i)
    unfolding after_all
    after_snoc s l i = ap₂ (λ (x y : Bool). (s i && not x) || y) (removed_snoc l i) (added_snoc l i) ∙ by_test (s i && not (are_removed p l i)) (are_added p l i) (is_added p a i)
      where
        by_test : (b c d : Bool) → (b || (c || d)) ≡ ((b || c) || d)
        by_test true c d = refl
        by_test false c d = refl

    after_single : (s : State) (i : ℕ) → after_all p s (a ∷ []) i ≡ (s i || is_added p a i)
    after_single s i = after_snoc s [] i ∙ ap (λ (x : State). x i || is_added p a i) (none_after p s)

    -- where it goes: its level, counted from the layers that are past
    module _ (τ : ℕ → ℕ) where
      pub level_at : (i : ℕ) → T (is_needed p a i) → τ i ≤ level τ a
      unfolding level is_in
      level_at i n =
          let (x, m, e) = map_mem (atom_number p) (needs p a) i (in_mem i (map (atom_number p) (needs p a)) n) in
          let k = most_at (map (λ x. τ (atom_number p x)) (needs p a)) (τ (atom_number p x)) (mem_map (λ x. τ (atom_number p x)) (needs p a) x m) in
          let j : τ i ≡ τ (atom_number p x) = ap τ e in
          omega arith

      pub level_of : (b : ℕ) → ((i : ℕ) → T (is_needed p a i) → τ i ≤ b) → level τ a ≤ b
      unfolding level
      level_of b h = most_of (map (λ x. τ (atom_number p x)) (needs p a)) b (λ k m.
          let (x, j, e) = map_mem (λ x. τ (atom_number p x)) (needs p a) k m in
          omega (arith, e, h (atom_number p x) (needed_at p a x j)))

      -- what the table says of the layers from o on
      abbrev Shown : State → List (List Action) → ℕ → Type 0
      Shown s ls o = (k : ℕ) → k ≤ length ls → (i : ℕ) → T (is_needed p a i) → (T (state_before s ls k i) → τ i ≤ o + k) × (τ i ≤ o + k → T (state_before s ls k i))

      told_next : (l : List Action) (ls : List (List Action)) (s : State) (o : ℕ) → Shown s (l ∷ ls) o → Shown (after_all p s l) ls (suc o)
      unfolding state_before
      told_next l ls s o h k b i n = let q = h (suc k) (omega arith) i n in ((λ t. omega (arith, q.0 t)), λ t. q.1 (omega arith))

      told_first : (s : State) (ls : List (List Action)) (o : ℕ) → Shown s ls o → (T (may_take p s a) → level τ a ≤ o) × (level τ a ≤ o → T (may_take p s a))
      told_first s ls o h = (
        (λ t. level_of o (λ i n. omega (arith, (h 0 (omega arith) i n).0 (subst (λ (x : State). T (x i)) (sym (before_zero s ls)) (may_needed p s a t i n))))),
        (λ q. needed_may p s a (λ i n. let k = level_at i n in subst (λ (x : State). T (x i)) (before_zero s ls) ((h 0 (omega arith) i n).1 (omega arith)))),
      )

      join_is : (ls : List (List Action)) (s : State) (o : ℕ) → Legal s ls → ((b : Action) → Memᴰ b (flat ls) → Spares p b a) → Shown s ls o → join p s a ls ≡ insert_at (level τ a - o) a ls
      unfolding join insert_at Legal flat
      join_is [] s o g f h = refl
      join_is (l ∷ ls) s o g f h = by_test (may_take_all p s (l ++ (a ∷ []))) refl (join_is ls (after_all p s l) (suc o) g.1 (λ b m. f b (Memᴰ.append_right l m)) (told_next l ls s o h))
        where
          by_test : (b : Bool) → may_take_all p s (l ++ (a ∷ [])) ≡ b → join p (after_all p s l) a ls ≡ insert_at (level τ a - suc o) a ls
              → (if b then (l ++ (a ∷ [])) ∷ ls else l ∷ join p (after_all p s l) a ls) ≡ insert_at (level τ a - o) a (l ∷ ls)
          by_test true e r =
              let q = (told_first s (l ∷ ls) o h).0 (all_may p s (l ++ (a ∷ [])) (T_of e) a (Memᴰ.append_right l (Memᴰ.head refl))) in
              let k : level τ a - o ≡ 0 = omega arith in
              rw k refl
          by_test false e r =
              let q : o < level τ a = above e (leb (level τ a) o) refl in
              let k : level τ a - o ≡ suc (level τ a - suc o) = omega arith in
              rw (k, r) refl
            where
              above : may_take_all p s (l ++ (a ∷ [])) ≡ false → (b : Bool) → leb (level τ a) o ≡ b → o < level τ a
              above e true q = absurd (subst T e (snoc_may s l a g.0 ((told_first s (l ∷ ls) o h).1 (leb-true (level τ a) o q)) (λ b m. (f b (Memᴰ.append_left (flat ls) m), spares_all b))))
              above e false q = leb-false (level τ a) o q

    -- ---- the states once it is inserted
    abbrev pub Kept : List (List Action) → Type 0
    Kept ls = (i : ℕ) → T (is_added p a i) → T (are_removed p (flat ls) i) → ⊥

    kept_head : (l : List Action) (ls : List (List Action)) → Kept (l ∷ ls) → (i : ℕ) → T (is_added p a i) → T (are_removed p l i) → ⊥
    unfolding flat
    kept_head l ls h i c r = let (b, m, q) = removed_some p l i r in h i c (some_removed p (l ++ flat ls) b i (Memᴰ.append_left (flat ls) m) q)

    kept_tail : (l : List Action) (ls : List (List Action)) → Kept (l ∷ ls) → Kept ls
    unfolding flat
    kept_tail l ls h i c r = let (b, m, q) = removed_some p (flat ls) i r in h i c (some_removed p (l ++ flat ls) b i (Memᴰ.append_right l m) q)

    -- what it adds is carried through
    through : (s s' : State) (l : List Action) → ((i : ℕ) → T (is_added p a i) → T (are_removed p l i) → ⊥) → ((i : ℕ) → s' i ≡ (s i || is_added p a i)) → (i : ℕ) → after_all p s' l i ≡ (after_all p s l i || is_added p a i)
    unfolding after_all
    through s s' l h e i = ap (λ (b : Bool). (b && not (are_removed p l i)) || are_added p l i) (e i) ∙ by_test (s i) (is_added p a i) (are_removed p l i) (are_added p l i) (h i)
      where
        by_test : (b c R C : Bool) → (T c → T R → ⊥) → (((b || c) && not R) || C) ≡ (((b && not R) || C) || c)
        by_test b true true C h = absurd (h tt tt)
        by_test true true false C h = refl
        by_test false true false true h = refl
        by_test false true false false h = refl
        by_test true false true true h = refl
        by_test true false true false h = refl
        by_test true false false C h = refl
        by_test false false R true h = refl
        by_test false false R false h = refl

    before_more : (ls : List (List Action)) (s s' : State) (k : ℕ) → Kept ls → ((i : ℕ) → s' i ≡ (s i || is_added p a i)) → (i : ℕ) → state_before s' ls k i ≡ (state_before s ls k i || is_added p a i)
    unfolding state_before
    before_more [] s s' k h e i = e i
    before_more (l ∷ ls) s s' zero h e i = e i
    before_more (l ∷ ls) s s' (suc k) h e i = before_more ls (after_all p s l) (after_all p s' l) k (kept_tail l ls h) (through s s' l (kept_head l ls h) e) i

    pub before_insert : (ls : List (List Action)) (s : State) (m k : ℕ) → Kept ls → m ≤ length ls → (i : ℕ) → state_before s (insert_at m a ls) k i ≡ (state_before s ls k i || (ltb m k && is_added p a i))
    unfolding state_before insert_at
    before_insert [] s m zero h b i = or_none (s i) (ltb m 0 && is_added p a i) (ap (λ (x : Bool). x && is_added p a i) (le-ltb m 0 (omega arith)))
      where
        or_none : (b c : Bool) → c ≡ false → b ≡ (b || c)
        or_none true c e = refl
        or_none false c e = sym e
    before_insert [] s m (suc k) h b i = after_single s i ∙ ap (λ (x : Bool). s i || (x && is_added p a i)) (sym (lt-ltb m (suc k) (omega arith)))
    before_insert (l ∷ ls) s m zero h b i = before_first m ∙ or_none (s i) (ltb m 0 && is_added p a i) (ap (λ (x : Bool). x && is_added p a i) (le-ltb m 0 (omega arith)))
      where
        or_none : (b c : Bool) → c ≡ false → b ≡ (b || c)
        or_none true c e = refl
        or_none false c e = sym e

        before_first : (m : ℕ) → state_before s (insert_at m a (l ∷ ls)) 0 i ≡ s i
        before_first zero = refl
        before_first (suc m) = refl
    before_insert (l ∷ ls) s zero (suc k) h b i = before_more ls (after_all p s l) (after_all p s (l ++ (a ∷ []))) k (kept_tail l ls h) (after_snoc s l) i
        ∙ ap (λ (x : Bool). state_before (after_all p s l) ls k i || (x && is_added p a i)) (sym (lt-ltb 0 (suc k) (omega arith)))
    before_insert (l ∷ ls) s (suc m) (suc k) h b i = before_insert ls (after_all p s l) m k (kept_tail l ls h) (omega arith) i ∙ ap (λ (x : Bool). state_before (after_all p s l) ls k i || (x && is_added p a i)) (shift (ltb m k) refl)
      where
        shift : (b : Bool) → ltb m k ≡ b → ltb m k ≡ ltb (suc m) (suc k)
        shift true e = e ∙ sym (lt-ltb (suc m) (suc k) (let q = ltb-true m k e in omega arith))
        shift false e = e ∙ sym (le-ltb (suc m) (suc k) (let q = ltb-false m k e in omega arith))

    pub insert_length : (ls : List (List Action)) (m : ℕ) → m ≤ length ls → (m < length (insert_at m a ls)) × (length ls ≤ length (insert_at m a ls)) × ((length (insert_at m a ls) ≡ length ls) ⊎ (length (insert_at m a ls) ≡ suc m))
    unfolding insert_at
    insert_length [] zero b = (omega arith, omega arith, inr refl)
    insert_length [] (suc m) b = absurd (omega arith)
    insert_length (l ∷ ls) zero b = (omega arith, omega arith, inl refl)
    insert_length (l ∷ ls) (suc m) b = let (x, y, z) = insert_length ls m (omega arith) in (omega arith, omega arith, ⊎_elim (λ e. inl (ap suc e)) (λ e. inr (ap suc e)) z)

    -- the state after all is that after the step
    pub after_insert : (ls : List (List Action)) (s : State) (m : ℕ) → Kept ls → m ≤ length ls → after_layers s (insert_at m a ls) ≡ after p (after_layers s ls) a
    after_insert ls s m h b =
        let (x, y, z) = insert_length ls m b in
        let n : ℕ = length (insert_at m a ls) in
        fun_ext (λ i. ap (λ (w : State). w i) (sym (before_past (insert_at m a ls) s (length (insert_at m a ls)) (omega arith)))
        ∙ before_insert ls s m (length (insert_at m a ls)) h b i
        ∙ ap₂ (λ (w : State) (c : Bool). w i || (c && is_added p a i)) (before_past ls s (length (insert_at m a ls)) y) (lt-ltb m (length (insert_at m a ls)) x)
        ∙ sym (after_one (after_layers s ls) i))

    pub legal_insert : (ls : List (List Action)) (s : State) (m : ℕ) → Legal s ls → ((b : Action) → Memᴰ b (flat ls) → Spares p b a) → m ≤ length ls → T (may_take p (state_before s ls m) a) → Legal s (insert_at m a ls)
    unfolding Legal insert_at state_before flat
    legal_insert [] s m g f b t = (one_may s a t, tt)
    legal_insert (l ∷ ls) s zero g f b t = (
      snoc_may s l a g.0 t (λ b m. (f b (Memᴰ.append_left (flat ls) m), spares_all b)),
      legal_more ls (after_all p s l) (after_all p s (l ++ (a ∷ []))) (λ i q. subst T (sym (after_snoc s l i)) (or_l (after_all p s l i) _ q)) g.1,
    )
    legal_insert (l ∷ ls) s (suc m) g f b t = (g.0, legal_insert ls (after_all p s l) m g.1 (λ c k. f c (Memᴰ.append_right l k)) (omega arith) t)

    pub insert_mem : (ls : List (List Action)) (m : ℕ) (b : Action) → Memᴰ b (flat (insert_at m a ls)) → (b ≡ a) ⊎ Memᴰ b (flat ls)
    unfolding insert_at flat
    insert_mem [] m b k = inl (Memᴰ.eq_of_singleton k)
    insert_mem (l ∷ ls) zero b k = ⊎_elim
        (λ q. ⊎_elim (λ j. inr (Memᴰ.append_left (flat ls) j)) (λ j. inl (Memᴰ.eq_of_singleton j)) (Memᴰ.append_cases l q))
        (λ q. inr (Memᴰ.append_right l q))
        (Memᴰ.append_cases (l ++ (a ∷ [])) k)
    insert_mem (l ∷ ls) (suc m) b k = ⊎_elim
        (λ q. inr (Memᴰ.append_left (flat ls) q))
        (λ q. ⊎_elim (λ e. inl e) (λ j. inr (Memᴰ.append_right l j)) (insert_mem ls m b q))
        (Memᴰ.append_cases l k)

-- ---- steps that prove: each may be taken in its turn, removes nothing, and adds what is not there yet
module _ (p : Problem) (G : Good p) where
  unfoldable pub Proving : State → List Action → Type 0
  Proving s [] = Unit {0}
  Proving s (a ∷ l) = IsAction p a × T (may_take p s a) × (removes p a ≡ []) × ((i : ℕ) → T (is_added p a i) → T (s i) → ⊥) × Proving (after p s a) l

  -- what a table tells of layers: of all that holds after them, the first layer before which it is there
  pub record Told (s : State) (ls : List (List Action)) (τ : ℕ → ℕ) : Type 0 where
    pub legal : Legal p s ls
    pub valid : Actions p G (flat ls)
    pub tells : (k : ℕ) → k ≤ length ls → (i : ℕ) → T (after_layers p s ls i) → (T (state_before p s ls k i) → τ i ≤ k) × (τ i ≤ k → T (state_before p s ls k i))

  module _ (plain : NoEvery p) where
    -- the state after layers, by what they remove and add
    layers_flat : (ls : List (List Action)) (s : State) → Actions p G (flat ls) → after_layers p s ls ≡ after_all p s (flat ls)
    unfolding after_layers flat
    layers_flat [] s v = sym (none_after p s)
    layers_flat (l ∷ ls) s v = layers_flat ls (after_all p s l) (λ b m. v b (Memᴰ.append_right l m)) ∙ both l (flat ls) s v
      where
        both : (l m : List Action) (s : State) → Actions p G (l ++ m) → after_all p (after_all p s l) m ≡ after_all p s (l ++ m)
        both [] m s v = ap (λ (x : State). after_all p x m) (none_after p s)
        both (a ∷ l) m s v =
            ap (λ (x : State). after_all p x m) (first_after p s a l (λ i c r. let (b, k, q) = removed_some p l i r in never_both p G plain b a (v b (Memᴰ.tail (Memᴰ.append_left m k))) (v a (Memᴰ.head refl)) i q c))
            ∙ both l m (after p s a) (λ b k. v b (Memᴰ.tail k))
            ∙ sym (first_after p s a (l ++ m) (λ i c r. let (b, k, q) = removed_some p (l ++ m) i r in never_both p G plain b a (v b (Memᴰ.tail k)) (v a (Memᴰ.head refl)) i q c))

    module _ (s : State) (ls : List (List Action)) (τ : ℕ → ℕ) (K : Told s ls τ) (a : Action) (v : IsAction p a) (t : T (may_take p (after_layers p s ls) a)) (none : removes p a ≡ []) where
      -- nothing that it needs or adds was removed
      pub spared : (b : Action) → Memᴰ b (flat ls) → Spares p b a
      unfolding after_all
      spared b m i r (inl n) =
          let h : T (after_all p s (flat ls) i) = subst (λ (x : State). T (x i)) (layers_flat ls s K.valid) (may_needed p (after_layers p s ls) a t i n) in
          ⊎_elim (λ q. T_not (are_removed p (flat ls) i) (T_and_r (s i) _ q) (some_removed p (flat ls) b i m r))
          (λ q. let (c, k, j) = added_some p (flat ls) i q in never_both p G plain b c (K.valid b m) (K.valid c k) i r j)
          (T_or (s i && not (are_removed p (flat ls) i)) _ h)
      spared b m i r (inr c) = never_both p G plain b a (K.valid b m) v i r c

      kept : Kept p a none ls
      kept i c r = let (b, m, q) = removed_some p (flat ls) i r in never_both p G plain b a (K.valid b m) v i q c

      needed_holds : (i : ℕ) → T (is_needed p a i) → T (after_layers p s ls i)
      needed_holds i n = may_needed p (after_layers p s ls) a t i n

      pub level_fits : level p τ a ≤ length ls
      level_fits = level_of p a none τ (length ls) (λ i n. (K.tells (length ls) (omega arith) i (needed_holds i n)).0 (subst (λ (x : State). T (x i)) (sym (before_past p ls s (length ls) (omega arith))) (needed_holds i n)))

      pub goes_there : join p s a ls ≡ insert_at p (level p τ a) a ls
      goes_there =
          let e : level p τ a - 0 ≡ level p τ a = omega arith in
          join_is p a none τ ls s 0 K.legal spared (λ k b i n. let q = K.tells k b i (needed_holds i n) in ((λ h. omega (arith, q.0 h)), λ h. q.1 (omega arith))) ∙ ap (λ (m : ℕ). insert_at p m a ls) e

      pub next_state : after_layers p s (insert_at p (level p τ a) a ls) ≡ after p (after_layers p s ls) a
      next_state = after_insert p a none ls s (level p τ a) kept level_fits

      may_there : T (may_take p (state_before p s ls (level p τ a)) a)
      may_there = needed_may p (state_before p s ls (level p τ a)) a (λ i n. (K.tells (level p τ a) level_fits i (needed_holds i n)).1 (level_at p a none τ i n))

      -- what was added stays
      stays_on : (ls : List (List Action)) (s : State) (k i : ℕ) → (T (are_removed p (flat ls) i) → ⊥) → T (state_before p s ls k i) → T (after_layers p s ls i)
      unfolding state_before after_layers flat after_all
      stays_on [] s k i h t = t
      stays_on (l ∷ ls) s zero i h t = stays_on ls (after_all p s l) zero i (λ r. h (later r)) (subst (λ (x : State). T (x i)) (sym (before_zero p (after_all p s l) ls)) (or_l (s i && not (are_removed p l i)) _ (and_T (s i) _ t (not_T (are_removed p l i) (λ r. h (now r))))))
        where
          now : T (are_removed p l i) → T (are_removed p (l ++ flat ls) i)
          now r = let (b, m, q) = removed_some p l i r in some_removed p (l ++ flat ls) b i (Memᴰ.append_left (flat ls) m) q

          later : T (are_removed p (flat ls) i) → T (are_removed p (l ++ flat ls) i)
          later r = let (b, m, q) = removed_some p (flat ls) i r in some_removed p (l ++ flat ls) b i (Memᴰ.append_right l m) q
      stays_on (l ∷ ls) s (suc k) i h t = stays_on ls (after_all p s l) k i (λ r. let (b, m, q) = removed_some p (flat ls) i r in h (some_removed p (l ++ flat ls) b i (Memᴰ.append_right l m) q)) t

      module _ (fresh : (i : ℕ) → T (is_added p a i) → T (after_layers p s ls i) → ⊥) where
        abbrev ls' : List (List Action)
        ls' = insert_at p (level p τ a) a ls

        old_none : (k i : ℕ) → T (is_added p a i) → state_before p s ls k i ≡ false
        old_none k i c = T_false (state_before p s ls k i) (λ t. fresh i c (stays_on ls s k i (kept i c) t))

        tells_on : (k : ℕ) → k ≤ length ls' → (i : ℕ) → T (after_layers p s ls' i) → (c : Bool) → is_added p a i ≡ c
            → (T (state_before p s ls k i || (ltb (level p τ a) k && c)) → (if c then suc (level p τ a) else τ i) ≤ k) × ((if c then suc (level p τ a) else τ i) ≤ k → T (state_before p s ls k i || (ltb (level p τ a) k && c)))
        tells_on k b i h true e =
            let o = old_none k i (T_of e) in (
              (λ t. ⊎_elim (λ q. absurd (subst T o q)) (λ q. ltb-true (level p τ a) k (T_true _ (T_and_l (ltb (level p τ a) k) _ q))) (T_or (state_before p s ls k i) _ t)),
              (λ q. or_r (state_before p s ls k i) _ (and_T (ltb (level p τ a) k) true (T_of (lt-ltb (level p τ a) k q)) tt)),
            )
        tells_on k b i h false e =
            let g : T (after_layers p s ls i) = held (subst (λ (x : State). T (x i)) next_state h) in (
              (λ t. ⊎_elim (λ q. (known g (leb k (length ls)) refl).0 q) (λ q. absurd (T_and_r (ltb (level p τ a) k) false q)) (T_or (state_before p s ls k i) _ t)),
              (λ q. or_l (state_before p s ls k i) _ ((known g (leb k (length ls)) refl).1 q)),
            )
          where
            held : T (after p (after_layers p s ls) a i) → T (after_layers p s ls i)
            held h = ⊎_elim (λ q. q) (λ q. absurd (subst T e q)) (T_or (after_layers p s ls i) (is_added p a i) (subst T (after_one p a none (after_layers p s ls) i) h))

            known : T (after_layers p s ls i) → (b : Bool) → leb k (length ls) ≡ b → (T (state_before p s ls k i) → τ i ≤ k) × (τ i ≤ k → T (state_before p s ls k i))
            known g true q = K.tells k (leb-true k (length ls) q) i g
            known g false q =
                let l = leb-false k (length ls) q in
                let u = (K.tells (length ls) (omega arith) i g).0 (subst (λ (x : State). T (x i)) (sym (before_past p ls s (length ls) (omega arith))) g) in
                ((λ _. omega arith), λ _. subst (λ (x : State). T (x i)) (sym (before_past p ls s k (omega arith))) g)

        pub told_on : Told s ls' (raise p τ a)
        unfolding raise
        told_on = record {
          legal = legal_insert p a none ls s (level p τ a) K.legal spared level_fits may_there;
          valid = λ b m. ⊎_elim (λ e. subst (IsAction p) (sym e) v) (λ q. K.valid b q) (insert_mem p a none ls (level p τ a) b m);
          tells = λ k b i h. let q = tells_on k b i h (is_added p a i) refl in let e = before_insert p a none ls s (level p τ a) k kept level_fits i in ((λ t. q.0 (subst T e t)), λ t. subst T (sym e) (q.1 t));
        }

    -- ---- all of them
    pub each_there : (l : List Action) (s : State) (ls : List (List Action)) (τ : ℕ → ℕ) → Told s ls τ → Proving (after_layers p s ls) l
        → (join_each p s ls l ≡ insert_each p τ ls l) × Legal p s (insert_each p τ ls l) × Actions p G (flat (insert_each p τ ls l)) × (after_layers p s (insert_each p τ ls l) ≡ ends p G (after_layers p s ls) l)
    unfolding Proving join_each insert_each ends
    each_there [] s ls τ K h = (refl, K.legal, K.valid, refl)
    each_there (a ∷ l) s ls τ K (v, t, none, fresh, h) =
        let e = goes_there s ls τ K a v t none in
        let n = next_state s ls τ K a v t none in
        let (x, y, z, w) = each_there l s (insert_at p (level p τ a) a ls) (raise p τ a) (told_on s ls τ K a v t none fresh) (subst (λ (st : State). Proving st l) (sym n) h) in
        (ap (λ (m : List (List Action)). join_each p s m l) e ∙ x, y, z, w ∙ ap (λ (st : State). ends p G st l) n)
