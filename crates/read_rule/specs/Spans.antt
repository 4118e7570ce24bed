-- Scopes, lists of variables, totalities, and the tests in turn. Assumes nothing.
use Prim.Native.Nat.{ℕ, zero, suc, ◌+◌, ◌-◌, ◌*◌, ◌≤◌, ◌<◌}
use Rattle.std.proofs.Math.Nat.{sub-zero}
use Rattle.std.proofs.Common.{add-one, sym, ◌∙◌, length-append, get_or-set_same, get_or-set_other, lit≤}
use Rattle.std.proofs.Math.Numerals.{sub-one}
use native.Mathlib.Omega.{arith}
use Rattle.std.specs.Prelude.{◌≡◌, Bool, false, not, ◌&&◌, length, drop, get_or, set, eqb, leb, if◌then◌else◌}
use Rattle.std.proofs.Math.Path.{refl, ap}
use Rattle.std.proofs.Math.Bool.{true, and-true, and-false, and_assoc}
use mathlib.Core.List.{List, [], ◌∷◌, ◌++◌, append_assoc}
use Rattle.std.proofs.Math.Seq.{slice}
use borrow.Author.Tests.{ne_eqb, le-leb, lt-leb, leb-false, lt-ltb, le-ltb}
use Rattle.definitions.specs.Lists.{any, same, filter}
use Rattle.definitions.specs.Sheet.Relations.{Relation, is_total}
use Rattle.definitions.specs.Sheet.Formula.{is_bound, are_new, totals}
use Rattle.definitions.specs.Sheet.Parsing.{span}
use Rattle.laws.specs.Writing.{and_l, no_true}
use Rattle.read_text.specs.Spans.{kind_of}
use Rattle.read_names.specs.Signatures.{relation_in, relations_from, chosen_of}
use Rattle.read_names.specs.declared.Signature.{Signature}
use Rattle.read_rule.specs.Seen.{total_of, join_of, fault_of, verdict_of, spans, names, Grows, past_type, listed}
use Rattle.read_rule.specs.declared.Scope.{Scope}
use Rattle.read_rule.specs.declared.Facts.{Facts}
use Rattle.read_rule.specs.declared.Grown.{Grown}

-- ---- scopes
module _ (s F T v : List ℕ) where
  pub spans_next : (n i : ℕ) → i < n → spans s F T (n - i) i ≡ slice (get_or F i 0) (get_or T i 0) s ∷ spans s F T (n - (i + 1)) (i + 1)
  unfolding spans
  spans_next n i h = let e : n - i ≡ suc (n - (i + 1)) = omega arith in ap (λ (k : ℕ). spans s F T k i) e ∙ ap (λ (k : ℕ). slice (get_or F i 0) (get_or T i 0) s ∷ spans s F T (n - (i + 1)) k) (sym (add-one i))

  pub bound_yes : (n i : ℕ) → i < n → same v (slice (get_or F i 0) (get_or T i 0) s) ≡ true → is_bound (spans s F T (n - i) i) v ≡ true
  unfolding is_bound any
  bound_yes n i h e = rw (spans_next n i h, e)

  pub bound_no : (n i : ℕ) → i < n → same v (slice (get_or F i 0) (get_or T i 0) s) ≡ false → is_bound (spans s F T (n - i) i) v ≡ is_bound (spans s F T (n - (i + 1)) (i + 1)) v
  unfolding is_bound any
  bound_no n i h e = rw (spans_next n i h, e)

  pub bound_end : (n i : ℕ) → n ≤ i → is_bound (spans s F T (n - i) i) v ≡ false
  unfolding is_bound any spans
  bound_end n i h = let e : n - i ≡ 0 = omega arith in rw e

pub names_are : (s : List ℕ) (sc : Scope) → names s sc ≡ spans s sc.from sc.to (sc.n - 0) 0
unfolding names
names_are s sc = rw (sub-zero sc.n)

length_spans : (s F T : List ℕ) (k i : ℕ) → length (spans s F T k i) ≡ k
unfolding spans
length_spans s F T zero i = refl
length_spans s F T (suc k) i = ap suc (length_spans s F T k (suc i))

pub length_names : (s : List ℕ) (sc : Scope) → length (names s sc) ≡ sc.n
unfolding names
length_names s sc = length_spans s sc.from sc.to sc.n 0

spans_set : (s F T : List ℕ) (p x y k i : ℕ) → i + k ≤ p → spans s (set F p x) (set T p y) k i ≡ spans s F T k i
unfolding spans
spans_set s F T p x y zero i h = refl
spans_set s F T p x y (suc k) i h =
    let ne : (i ≡ p) → ⊥ = λ e. omega arith in
    rw (get_or-set_other F p i x 0 ne, get_or-set_other T p i y 0 ne, spans_set s F T p x y k (suc i) (omega arith))

spans_snoc : (s F T : List ℕ) (k i : ℕ) → spans s F T (suc k) i ≡ spans s F T k i ++ (slice (get_or F (i + k) 0) (get_or T (i + k) 0) s ∷ [])
unfolding spans
spans_snoc s F T zero i = let e : i + 0 ≡ i = omega arith in rw e
spans_snoc s F T (suc k) i = let e : i + suc k ≡ suc i + k = omega arith in rw e (ap (λ (l : List (List ℕ)). slice (get_or F i 0) (get_or T i 0) s ∷ l) (spans_snoc s F T k (suc i)))

-- one variable more
pub spans_push : (s F T : List ℕ) (n a e : ℕ) → n < length F → n < length T → spans s (set F n a) (set T n e) (n + 1) 0 ≡ spans s F T n 0 ++ (slice a e s ∷ [])
spans_push s F T n a e h k =
    let z : 0 + n ≡ n = omega arith in
    ap (λ (m : ℕ). spans s (set F n a) (set T n e) m 0) (add-one n)
    ∙ spans_snoc s (set F n a) (set T n e) n 0
    ∙ rw (z, get_or-set_same F n a 0 h, get_or-set_same T n e 0 k, spans_set s F T n a e n 0 (omega arith))

pub push_grows : (s : List ℕ) (g : Grown) (a e : ℕ) (b f : Bool) → g.scope.n < 4 → length g.scope.from ≡ 4 → length g.scope.to ≡ 4 → b
    ≡ is_bound (names s g.scope) (slice a e s) → f ≡ (g.fresh && not b)
    → Grows s g (slice a e s ∷ []) (record {
      scope = record
          { from = set g.scope.from g.scope.n a; to = set g.scope.to g.scope.n e; n = g.scope.n + 1 };
      fits = g.fits;
      fresh = f;
    })
unfolding names are_new
push_grows s g a e b f h x y q r = record {
  small = omega arith;
  fit = sym (ap (λ (t : Bool). g.fits && t) (le-leb (g.scope.n + 1) 4 (omega arith)) ∙ and-true g.fits);
  named = λ t. spans_push s g.scope.from g.scope.to g.scope.n a e (omega arith) (omega arith);
  new = λ t. r ∙ ap (λ (u : Bool). g.fresh && u) (ap not q ∙ sym (and-true (not (is_bound (names s g.scope) (slice a e s)))));
}

pub push_full : (s : List ℕ) (g : Grown) (v : List ℕ) → g.scope.n ≤ 4 → 4 ≤ g.scope.n → Grows s g (v ∷ []) (record { scope = g.scope; fits = false; fresh = g.fresh })
push_full s g v l h = record {
  small = l;
  fit = sym (ap (λ (t : Bool). g.fits && t) (lt-leb (g.scope.n + 1) 4 (omega arith)) ∙ and-false g.fits);
  named = λ t. no_true t;
  new = λ t. no_true t;
}

append_none : (l : List (List ℕ)) → l ++ [] ≡ l
append_none [] = refl
append_none (x ∷ l) = ap (λ (m : List (List ℕ)). x ∷ m) (append_none l)

pub grow_none : (s : List ℕ) (g : Grown) → g.scope.n ≤ 4 → Grows s g [] g
unfolding are_new
grow_none s g h = record {
  small = h;
  fit = sym (ap (λ (t : Bool). g.fits && t) (le-leb (g.scope.n + 0) 4 (omega arith)) ∙ and-true g.fits);
  named = λ t. sym (append_none (names s g.scope));
  new = λ t. sym (and-true g.fresh);
}

-- one variable, and then others
more_fit : (g h r : Bool) (n k m : ℕ) → h ≡ (g && leb (n + 1) 4) → r ≡ (h && leb (k + m) 4) → (h ≡ true → k ≡ n + 1) → r ≡ (g && leb (n + suc m) 4)
more_fit false h r n k m e q z = q ∙ ap (λ (t : Bool). t && leb (k + m) 4) e
more_fit true h r n k m e q z = by_test (leb (n + 1) 4) refl
  where
    by_test : (b : Bool) → leb (n + 1) 4 ≡ b → r ≡ leb (n + suc m) 4
    by_test true i = let w : k + m ≡ n + suc m = omega (arith, z (e ∙ i)) in q ∙ ap (λ (t : Bool). t && leb (k + m) 4) (e ∙ i) ∙ ap (λ (t : ℕ). leb t 4) w
    by_test false i = q ∙ ap (λ (t : Bool). t && leb (k + m) 4) (e ∙ i) ∙ sym (lt-leb (n + suc m) 4 (omega (arith, leb-false (n + 1) 4 i)))

pub grow_more : (s : List ℕ) (g h r : Grown) (v : List ℕ) (vs : List (List ℕ)) → Grows s g (v ∷ []) h → Grows s h vs r → Grows s g (v ∷ vs) r
unfolding are_new
grow_more s g h r v vs one two = record {
  small = two.small;
  fit = more_fit g.fits h.fits r.fits g.scope.n h.scope.n (length vs) one.fit two.fit (λ t. sym (length_names s h.scope) ∙ ap length (one.named t) ∙ length-append (names s g.scope) (v ∷ []) ∙ ap (λ (k : ℕ). k + 1) (length_names s g.scope));
  named = λ t. two.named t ∙ ap (λ (l : List (List ℕ)). l ++ vs) (one.named (fits_h t)) ∙ append_assoc (names s g.scope) (v ∷ []) vs;
  new =
      λ t. two.new t ∙ ap (λ (b : Bool). b && are_new (names s h.scope) vs)
      (one.new (fits_h t) ∙ ap (λ (b : Bool). g.fresh && b) (and-true (not (is_bound (names s g.scope) v))))
      ∙ ap (λ (l : List (List ℕ)). (g.fresh && not (is_bound (names s g.scope) v)) && are_new l vs) (one.named (fits_h t))
      ∙ and_assoc g.fresh (not (is_bound (names s g.scope) v)) (are_new (names s g.scope ++ (v ∷ [])) vs);
}
  where
    fits_h : r.fits ≡ true → h.fits ≡ true
    fits_h t = and_l h.fits (leb (h.scope.n + length vs) 4) (sym two.fit ∙ t)

-- ---- `listed`
module _ (s : List ℕ) (at k : ℕ) where
  pub listed_none : k ≡ 0 → listed s at k ≡ []
  unfolding listed
  listed_none e = rw e

  pub listed_end : length s ≤ at → listed s at k ≡ []
  unfolding listed
  listed_end h = by_number k
    where
      by_number : (n : ℕ) → listed s at n ≡ []
      by_number zero = refl
      by_number (suc n) = rw (le-leb (length s) at h, listed)

  pub listed_more : (k ≡ 0 → ⊥) → at < length s → listed s at k ≡ slice at ((at + 1) + span true (drop (at + 1) s)) s ∷ listed s (past_type s ((at + 1) + span true (drop (at + 1) s)) + 1) (k - 1)
  unfolding listed
  listed_more n h = by_number k n
    where
      by_number : (m : ℕ) → (m ≡ 0 → ⊥) → listed s at m ≡ slice at ((at + 1) + span true (drop (at + 1) s)) s ∷ listed s (past_type s ((at + 1) + span true (drop (at + 1) s)) + 1) (m - 1)
      by_number zero q = absurd (q refl)
      by_number (suc m) q = rw (lt-leb (length s) at h, listed, sub-one (suc m))

-- ---- totalities
total_first : (r : Relation) (k : ℕ) (l : List Relation) → r.kind ≡ kind_of k → totals (r ∷ l) ≡ total_of k + totals l
unfolding totals filter total_of
total_first r k l e = rw (← e) (by_test (is_total r.kind))
  where
    by_test : (b : Bool) → length (if b then r ∷ filter (λ (q : Relation). is_total q.kind) l else filter (λ (q : Relation). is_total q.kind) l) ≡ (if b then 1 else 0) + length (filter (λ (q : Relation). is_total q.kind) l)
    by_test true = omega arith
    by_test false = omega arith

pub totals_next : (q : List ℕ) (g : Signature) (n i : ℕ) → i < n → totals (relations_from q g i (n - i)) ≡ total_of (get_or g.kind i 0) + totals (relations_from q g (i + 1) (n - (i + 1)))
unfolding relations_from relation_in
totals_next q g n i h =
    let e : n - i ≡ suc (n - (i + 1)) = omega arith in
    ap (λ (k : ℕ). totals (relations_from q g i k)) e
    ∙ total_first (relation_in q g i) (get_or g.kind i 0) (relations_from q g (suc i) (n - (i + 1))) refl
    ∙ ap (λ (k : ℕ). total_of (get_or g.kind i 0) + totals (relations_from q g k (n - (i + 1)))) (sym (add-one i))

pub totals_end : (q : List ℕ) (g : Signature) (n i : ℕ) → n ≤ i → totals (relations_from q g i (n - i)) ≡ 0
unfolding totals filter relations_from
totals_end q g n i h = let e : n - i ≡ 0 = omega arith in rw e

-- ---- kinds
pub total_fun : (k : ℕ) → k ≡ 2 → 1 ≡ total_of k
unfolding total_of kind_of is_total
total_fun k e = rw e

pub total_inj : (k : ℕ) → k ≡ 4 → 1 ≡ total_of k
unfolding total_of kind_of is_total
total_inj k e = rw e

pub total_none : (k : ℕ) → (k ≡ 2 → ⊥) → (k ≡ 4 → ⊥) → 0 ≡ total_of k
unfolding total_of kind_of is_total
total_none zero e h = refl
total_none (suc zero) e h = refl
total_none (suc (suc zero)) e h = absurd (e refl)
total_none (suc (suc (suc zero))) e h = refl
total_none (suc (suc (suc (suc zero)))) e h = absurd (h refl)
total_none (suc (suc (suc (suc (suc zero))))) e h = refl
total_none (suc (suc (suc (suc (suc (suc k)))))) e h = refl

pub total_le : (k : ℕ) → total_of k ≤ 1
unfolding total_of
total_le k = by_test (is_total (kind_of k))
  where
    by_test : (b : Bool) → (if b then 1 else 0) ≤ 1
    by_test true = lit≤ tt
    by_test false = lit≤ tt

pub join_none : (t : ℕ) → t ≡ 0 → 0 ≡ join_of t
unfolding join_of
join_none t e = rw e

pub join_some : (t : ℕ) → (t ≡ 0 → ⊥) → 1 ≡ join_of t
unfolding join_of
join_some t e = rw (ne_eqb t 0 e)

pub join_le : (t : ℕ) → join_of t ≤ 1
unfolding join_of
join_le t = by_test (eqb t 0)
  where
    by_test : (b : Bool) → (if b then 0 else 1) ≤ 1
    by_test true = lit≤ tt
    by_test false = lit≤ tt

-- ---- the tests in turn
module _ (f : Facts) (t j : ℕ) (e : j ≡ join_of t) where
  pub judge_forms : 64 < f.forms + 3 * t + j → 6 ≡ verdict_of f t
  unfolding verdict_of
  judge_forms h = rw (← e, lt-ltb 64 (f.forms + 3 * t + j) h)

  module _ (h : f.forms + 3 * t + j ≤ 64) where
    pub judge_nest : f.fits ≡ false → 6 ≡ verdict_of f t
    unfolding verdict_of
    judge_nest a = rw (← e, le-ltb 64 (f.forms + 3 * t + j) h, a)

    module _ (a : f.fits ≡ true) where
      pub judge_known : f.known ≡ false → 7 ≡ verdict_of f t
      unfolding verdict_of
      judge_known b = rw (← e, le-ltb 64 (f.forms + 3 * t + j) h, a, b)

      pub judge_last : f.known ≡ true → fault_of f.scoped 8 f.typed 19 ≡ verdict_of f t
      unfolding verdict_of
      judge_last b = rw (← e, le-ltb 64 (f.forms + 3 * t + j) h, a, b)

pub chosen_are : (q : List ℕ) (g : Signature) → chosen_of q g ≡ relations_from q g g.rels ((g.rels + g.chosen) - g.rels)
unfolding chosen_of
chosen_are q g = let e : (g.rels + g.chosen) - g.rels ≡ g.chosen = omega arith in rw e
