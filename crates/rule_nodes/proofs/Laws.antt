-- Laws of the loops over a part's levels and over the marked levels. Assumes nothing.
use Rattle.std.specs.Prelude.{if◌then◌else◌}
use Prim.Native.Nat.{ℕ, suc, ◌+◌, ◌-◌, ◌≤◌, ◌<◌}
use native.Mathlib.Numerals.{add-one}
use native.Mathlib.Decide.{ℕ_discrete}
use native.Mathlib.Omega.{arith}
use mathlib.Core.Path.{◌≡◌, refl, sym, ap, ◌∙◌}
use mathlib.Core.Bool.{Bool, true, false, not, ◌&&◌, ◌||◌, or-false, or-true, or_assoc}
use mathlib.Core.Logic.{◌⊎◌, inl, inr}
use mathlib.Core.List.{List, [], ◌∷◌, ◌++◌, append_assoc, append-nil}
use lib.ListN.{length, get_or, take, drop, set, length-take, length-set, length-append, drop_of_length-le}
use lib.Seq.{drop-cons, get_or-take, get_or-set_same, get_or-set_other}
use lib.Dec.{eqb}
use borrow.Author.Tests.{eq-eqb, ne_eqb}
use Rattle.definitions.specs.Lists.{any, filter, from, below}
use Rattle.rule_nodes.specs.Postorder.{pad}
use Rattle.rule_nodes.specs.Pass.{levels_of, listed_of}
use Rattle.rule_nodes.specs.Free.{pad_more}
use Rattle.rule_nodes.specs.declared.Levels.{Levels}

-- ---- `also`: the levels of a part before level i are marked
pub record Marked (m r : List Bool) (w : ℕ) (ls : List ℕ) (i : ℕ) : Type 0 where
  pub low : i ≤ 4
  pub within : i ≤ w
  pub is : (l : ℕ) → l < 4 → (get_or m l false || any (eqb l) (take w ls)) ≡ (get_or r l false || any (eqb l) (drop i (take w ls)))
  pub marks_length : length r ≡ 4

pub mark_start : (m : List Bool) (w : ℕ) (ls : List ℕ) → length m ≡ 4 → Marked m m w ls 0
mark_start m w ls e = record { low = omega arith; within = omega arith; is = λ l h. refl; marks_length = e }

module _ (m r : List Bool) (w : ℕ) (ls : List ℕ) (four : length ls ≡ 4) (i : ℕ) (k : Marked m r w ls i) where
  -- no level is left
  pub mark_end : (i ≡ w) ⊎ (4 ≤ i) → (l : ℕ) → l < 4 → get_or r l false ≡ (get_or m l false || any (eqb l) (take w ls))
  unfolding any
  mark_end e l h = sym (k.is l h ∙ ap (λ (x : List ℕ). get_or r l false || any (eqb l) x) none ∙ or-false (get_or r l false))
    where
      past : (i ≡ w) ⊎ (4 ≤ i) → length (take w ls) ≤ i
      past (inl q) = omega (arith, length-take w ls)
      past (inr q) = omega (arith, length-take w ls)

      none : drop i (take w ls) ≡ []
      none = drop_of_length-le (take w ls) {i = i} (past e)

  module _ (h : i < 4) (n : i ≡ w → ⊥) (x : ℕ) (e : x ≡ get_or ls i 0) (s : List Bool) where
    next : drop i (take w ls) ≡ x ∷ drop (i + 1) (take w ls)
    next = drop-cons (take w ls) i 0 (omega (arith, length-take w ls, k.within)) ∙ rw (get_or-take w ls i 0 (omega (arith, k.within)), e, add-one i)

    mark_next : ((l : ℕ) → l < 4 → get_or s l false ≡ (get_or r l false || eqb l x)) → length s ≡ 4 → Marked m s w ls (i + 1)
    unfolding any
    mark_next f z = record {
      low = omega arith;
      within = omega (arith, k.within);
      is = λ l q. k.is l q ∙ ap (λ (y : List ℕ). get_or r l false || any (eqb l) y) next ∙ sym (or_assoc (get_or r l false) (eqb l x) (any (eqb l) (drop (i + 1) (take w ls)))) ∙ ap (λ (b : Bool). b || any (eqb l) (drop (i + 1) (take w ls))) (sym (f l q));
      marks_length = z;
    }

    pub mark_yes : x < 4 → s ≡ set r x true → Marked m s w ls (i + 1)
    mark_yes c z = mark_next (λ l q. ap (λ (y : List Bool). get_or y l false) z ∙ on l (ℕ_discrete l x)) (ap (λ (y : List Bool). length y) z ∙ length-set r x true ∙ k.marks_length)
      where
        on : (l : ℕ) → Dec (l ≡ x) → get_or (set r x true) l false ≡ (get_or r l false || eqb l x)
        on l (yes q) = ap (λ (j : ℕ). get_or (set r x true) j false) q ∙ get_or-set_same r x true false (omega (arith, k.marks_length)) ∙ sym (ap (λ (b : Bool). get_or r l false || b) (eq-eqb l x q) ∙ or-true (get_or r l false))
        on l (no q) = get_or-set_other r x l true false q ∙ sym (ap (λ (b : Bool). get_or r l false || b) (ne_eqb l x q) ∙ or-false (get_or r l false))

    pub mark_no : 4 ≤ x → s ≡ r → Marked m s w ls (i + 1)
    mark_no c z = mark_next (λ l q. ap (λ (y : List Bool). get_or y l false) z ∙ sym (ap (λ (b : Bool). get_or r l false || b) (ne_eqb l x (λ u. omega arith)) ∙ or-false (get_or r l false))) (ap (λ (y : List Bool). length y) z ∙ k.marks_length)

-- ---- `listed`
module _ (r : Levels) (l : ℕ) where
  pub list_own : (own marked : Bool) → own ≡ true → r ≡ listed_of r l (not own && marked)
  unfolding listed_of
  list_own own marked e = rw e

  pub list_yes : (own marked : Bool) → own ≡ false → marked ≡ true → record { at = set r.at r.width l; width = r.width + 1 } ≡ listed_of r l (not own && marked)
  unfolding listed_of
  list_yes own marked e h = rw (e, h)

  pub list_no : (own marked : Bool) → own ≡ false → marked ≡ false → r ≡ listed_of r l (not own && marked)
  unfolding listed_of
  list_no own marked e h = rw (e, h)

-- ---- `free_levels`: the levels below l that pass are listed
pub record Listed (p : ℕ → Bool) (r : Levels) (l : ℕ) : Type 0 where
  pub got : List ℕ
  pub is : r ≡ levels_of got
  pub few : length got ≤ l
  pub low : l ≤ 4
  pub rest : got ++ filter p (from l (4 - l)) ≡ filter p (below 4)

pub list_start : (p : ℕ → Bool) → Listed p (record { at = 0 ∷ 0 ∷ 0 ∷ 0 ∷ []; width = 0 }) 0
unfolding below pad
list_start p = record { got = []; is = refl; few = omega arith; low = omega arith; rest = refl }

pub list_width : (p : ℕ → Bool) (r : Levels) (l : ℕ) → Listed p r l → r.width ≤ l
list_width p r l k = omega (arith, ap (λ (x : Levels). x.width) k.is, k.few)

filter_next : (p : ℕ → Bool) (l : ℕ) (b : Bool) → l < 4 → b ≡ p l → filter p (from l (4 - l)) ≡ (if b then l ∷ filter p (from (l + 1) (4 - (l + 1))) else filter p (from (l + 1) (4 - (l + 1))))
unfolding filter from
filter_next p l b h e = let n : 4 - l ≡ suc (4 - (l + 1)) = omega arith in ap (λ (k : ℕ). filter p (from l k)) n ∙ rw (e, add-one l)

filter_none : (p : ℕ → Bool) (l : ℕ) → 4 ≤ l → [] ≡ filter p (from l (4 - l))
unfolding filter from
filter_none p l h = let n : 4 - l ≡ 0 = omega arith in rw n

list_more : (r : Levels) (l : ℕ) (xs : List ℕ) → length xs < 4 → r ≡ levels_of xs → listed_of r l true ≡ levels_of (xs ++ (l ∷ []))
unfolding listed_of
list_more r l xs h e = ap (λ (x : Levels). record { at = set x.at x.width l; width = x.width + 1 }) e ∙ rw (pad_more 4 xs l h, length-append xs (l ∷ []))

list_less : (r : Levels) (l : ℕ) → listed_of r l false ≡ r
unfolding listed_of
list_less r l = refl

pub list_again : (p : ℕ → Bool) (r q : Levels) (l : ℕ) (b : Bool) → l < 4 → b ≡ p l → q ≡ listed_of r l b → Listed p r l → Listed p q (l + 1)
list_again p r q l true h e z k = record {
  got = k.got ++ (l ∷ []);
  is = z ∙ list_more r l k.got (omega (arith, k.few)) k.is;
  few = omega (arith, k.few, length-append k.got (l ∷ []));
  low = omega arith;
  rest = append_assoc k.got (l ∷ []) (filter p (from (l + 1) (4 - (l + 1)))) ∙ ap (λ (x : List ℕ). k.got ++ x) (sym (filter_next p l true h e)) ∙ k.rest;
}
list_again p r q l false h e z k = record {
  got = k.got;
  is = z ∙ list_less r l ∙ k.is;
  few = omega (arith, k.few);
  low = omega arith;
  rest = ap (λ (x : List ℕ). k.got ++ x) (sym (filter_next p l false h e)) ∙ k.rest;
}

pub list_end : (p : ℕ → Bool) (r : Levels) (l : ℕ) → 4 ≤ l → Listed p r l → r ≡ levels_of (filter p (below 4))
list_end p r l h k = k.is ∙ ap (λ (x : List ℕ). levels_of x) (sym (append-nil k.got) ∙ ap (λ (x : List ℕ). k.got ++ x) (filter_none p l h) ∙ k.rest)

-- ---- `node_tag`
pub tag_forall : (k : ℕ) → k ≡ 0 → ◌≡◌ {A = ℕ} 2 (if eqb k 0 then 2 else 3)
tag_forall k e = rw e

pub tag_other : (k : ℕ) → (k ≡ 0 → ⊥) → ◌≡◌ {A = ℕ} 3 (if eqb k 0 then 2 else 3)
tag_other k e = rw (ne_eqb k 0 e)
