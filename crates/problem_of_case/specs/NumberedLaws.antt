-- One turn of the loop over a signature's relations.
use Rattle.std.specs.Prelude.{◌≡◌, refl, ℕ, zero, suc, ◌+◌, ◌-◌, ◌≤◌, ◌<◌, length, get_or, set, replicate, ltb, if◌then◌else◌}
use Rattle.std.proofs.Math.Path.{sym, subst}
use Rattle.std.proofs.Common.{ap, ◌∙◌, length-append, get_or-set_same, get_or-set_other}
use mathlib.Core.List.{List, [], ◌∷◌}
use Rattle.std.proofs.Math.Decide.{ℕ_discrete, dec_lt}
use native.Mathlib.Omega.{arith}
use borrow.Author.Tests.{lt-ltb, le-ltb}
use Rattle.std.proofs.Math.Seq.{set_out}
use Rattle.definitions.specs.Sheet.Relations.{built_in}
use Rattle.read_text.specs.Spans.{kind_of}
use Rattle.read_names.specs.Signatures.{all_of, relations_from, HasArity, HasKind, HasFirsts, HasSeconds}
use Rattle.read_names.specs.declared.Signature.{Signature}
use Rattle.read_names.proofs.Laws.{all_are, length_relations, arity_built_in, arity_declared, kind_built_in, kind_declared, firsts_built_in, firsts_declared, seconds_built_in, seconds_declared}
use Rattle.rows.specs.Values.{Most}
use Rattle.problem_table.specs.Of.{kind_number}
use Rattle.problem_layout.specs.Laid.{RelationsFit}
use Rattle.problem_layout.specs.LaidLaws.{most_zeros}
use Rattle.problem_of_case.specs.Numbered.{Declared, no_relation, Numbered, SortAt}

-- ---- kinds
pub kind_small : (k : ℕ) → k < 6 → k ≡ kind_number (kind_of k)
unfolding kind_number kind_of
kind_small zero h = refl
kind_small (suc zero) h = refl
kind_small (suc (suc zero)) h = refl
kind_small (suc (suc (suc zero))) h = refl
kind_small (suc (suc (suc (suc zero)))) h = refl
kind_small (suc (suc (suc (suc (suc zero))))) h = refl
kind_small (suc (suc (suc (suc (suc (suc k)))))) h = absurd (omega arith)

pub kind_last : (k : ℕ) → 6 ≤ k → 6 ≡ kind_number (kind_of k)
unfolding kind_number kind_of
kind_last zero h = absurd (omega arith)
kind_last (suc zero) h = absurd (omega arith)
kind_last (suc (suc zero)) h = absurd (omega arith)
kind_last (suc (suc (suc zero))) h = absurd (omega arith)
kind_last (suc (suc (suc (suc zero)))) h = absurd (omega arith)
kind_last (suc (suc (suc (suc (suc zero))))) h = absurd (omega arith)
kind_last (suc (suc (suc (suc (suc (suc k)))))) h = refl

-- ---- arities
same_arity : (g : Signature) (r a b : ℕ) → HasArity g r a → HasArity g r b → a ≡ b
unfolding HasArity
same_arity g r a b h k = h [] ∙ sym (k [])

built_small : (r : ℕ) → get_or (2 ∷ 2 ∷ 2 ∷ 1 ∷ 1 ∷ 0 ∷ 0 ∷ 0 ∷ 0 ∷ 0 ∷ 0 ∷ 0 ∷ 0 ∷ []) r 0 ≤ 4
built_small zero = omega arith
built_small (suc zero) = omega arith
built_small (suc (suc zero)) = omega arith
built_small (suc (suc (suc zero))) = omega arith
built_small (suc (suc (suc (suc zero)))) = omega arith
built_small (suc (suc (suc (suc (suc zero))))) = omega arith
built_small (suc (suc (suc (suc (suc (suc zero)))))) = omega arith
built_small (suc (suc (suc (suc (suc (suc (suc zero))))))) = omega arith
built_small (suc (suc (suc (suc (suc (suc (suc (suc zero)))))))) = omega arith
built_small (suc (suc (suc (suc (suc (suc (suc (suc (suc zero))))))))) = omega arith
built_small (suc (suc (suc (suc (suc (suc (suc (suc (suc (suc zero)))))))))) = omega arith
built_small (suc (suc (suc (suc (suc (suc (suc (suc (suc (suc (suc zero))))))))))) = omega arith
built_small (suc (suc (suc (suc (suc (suc (suc (suc (suc (suc (suc (suc zero)))))))))))) = omega arith
built_small (suc (suc (suc (suc (suc (suc (suc (suc (suc (suc (suc (suc (suc r))))))))))))) = omega arith

pub arity_small : (g : Signature) (r a : ℕ) → Declared g → r < 5 + (g.rels + g.chosen + g.every) → HasArity g r a → a ≤ 4
arity_small g r a d h q = from_this (dec_lt r 5)
  where
    from_this : Dec (r < 5) → a ≤ 4
    from_this (yes k) = rw (same_arity g r a _ q (arity_built_in g d.every r k)) (built_small r)
    from_this (no k) = rw (same_arity g r a _ q (arity_declared g d.every r (omega arith) h)) (d.arity (r - 5) (omega arith))

-- ---- one relation, by the arrays of a signature
pub two_places : (g : Signature) → g.every ≤ 1 → (r : ℕ) → r < 3 → HasArity g r 2
two_places g one zero h = arity_built_in g one 0 (omega arith)
two_places g one (suc zero) h = arity_built_in g one 1 (omega arith)
two_places g one (suc (suc zero)) h = arity_built_in g one 2 (omega arith)
two_places g one (suc (suc (suc r))) h = absurd (omega arith)

pub one_place : (g : Signature) → g.every ≤ 1 → (r : ℕ) → 3 ≤ r → r < 5 → HasArity g r 1
one_place g one zero l h = absurd (omega arith)
one_place g one (suc zero) l h = absurd (omega arith)
one_place g one (suc (suc zero)) l h = absurd (omega arith)
one_place g one (suc (suc (suc zero))) l h = arity_built_in g one 3 (omega arith)
one_place g one (suc (suc (suc (suc zero)))) l h = arity_built_in g one 4 (omega arith)
one_place g one (suc (suc (suc (suc (suc r))))) l h = absurd (omega arith)

module _ (r : ℕ) (l : 5 ≤ r) where
  pub arity_of_lem : (xs : List ℕ) (g : Signature) → g.arity ≡ xs → r < 5 + (g.rels + g.chosen + g.every) → g.every ≤ 1 → HasArity g r (get_or xs (r - 5) 0)
  arity_of_lem xs g e h one = subst (λ (ys : List ℕ). HasArity g r (get_or ys (r - 5) 0)) e (arity_declared g one r l h)

  pub kind_of_lem : (xs : List ℕ) (g : Signature) → g.kind ≡ xs → r < 5 + (g.rels + g.chosen + g.every) → g.every ≤ 1 → HasKind g r (get_or xs (r - 5) 0)
  kind_of_lem xs g e h one = subst (λ (ys : List ℕ). HasKind g r (get_or ys (r - 5) 0)) e (kind_declared g one r l h)

  pub sort_of_lem : (xs : List ℕ) → SortAt xs r (get_or xs (r - 5) 0)
  unfolding SortAt
  sort_of_lem xs g h one = (
    (λ e. subst (λ (ys : List ℕ). HasFirsts g r (get_or ys (r - 5) 0)) e (firsts_declared g one r l h)),
    (λ e. subst (λ (ys : List ℕ). HasSeconds g r (get_or ys (r - 5) 0)) e (seconds_declared g one r l h)),
  )

pub sort_built_in : (xs : List ℕ) (r : ℕ) → r < 5 → SortAt xs r 0
unfolding SortAt
sort_built_in xs r l g h one = ((λ e. firsts_built_in g one r l), (λ e. seconds_built_in g one r l))

-- whether it is built in or declared
pub kind_at : (xs : List ℕ) (r : ℕ) (g : Signature) → g.kind ≡ xs → r < 5 + (g.rels + g.chosen + g.every) → g.every ≤ 1 → HasKind g r (if ltb r 5 then 0 else get_or xs (r - 5) 0)
kind_at xs r g e h one = by_place (dec_lt r 5)
  where
    by_place : Dec (r < 5) → HasKind g r (if ltb r 5 then 0 else get_or xs (r - 5) 0)
    by_place (yes l) = rw (lt-ltb r 5 l) (kind_built_in g one r l)
    by_place (no l) = rw (le-ltb r 5 (omega arith)) (kind_of_lem r (omega arith) xs g e h one)

pub sort_at : (xs : List ℕ) (r : ℕ) → SortAt xs r (if ltb r 5 then 0 else get_or xs (r - 5) 0)
sort_at xs r = by_place (dec_lt r 5)
  where
    by_place : Dec (r < 5) → SortAt xs r (if ltb r 5 then 0 else get_or xs (r - 5) 0)
    by_place (yes l) = rw (lt-ltb r 5 l) (sort_built_in xs r l)
    by_place (no l) = rw (le-ltb r 5 (omega arith)) (sort_of_lem r (omega arith) xs)

-- ---- sorts
module _ (g : Signature) (r a : ℕ) (d : Declared g) (h : r < 5 + (g.rels + g.chosen + g.every)) where
  pub firsts_small : HasFirsts g r a → a ≤ 8
  unfolding HasFirsts
  firsts_small q = from_this (dec_lt r 5)
    where
      from_this : Dec (r < 5) → a ≤ 8
      from_this (yes k) = rw (q [] ∙ sym (firsts_built_in g d.every r k [])) (omega arith)
      from_this (no k) = rw (q [] ∙ sym (firsts_declared g d.every r (omega arith) h [])) (d.sorts (r - 5) (omega arith)).0

  pub seconds_small : HasSeconds g r a → a ≤ 8
  unfolding HasSeconds
  seconds_small q = from_this (dec_lt r 5)
    where
      from_this : Dec (r < 5) → a ≤ 8
      from_this (yes k) = rw (q [] ∙ sym (seconds_built_in g d.every r k [])) (omega arith)
      from_this (no k) = rw (q [] ∙ sym (seconds_declared g d.every r (omega arith) h [])) (d.sorts (r - 5) (omega arith)).1

built_length : length built_in ≡ 5
unfolding built_in
built_length = refl

pub all_length : (q : List ℕ) (g : Signature) → g.every ≤ 1 → 5 + (g.rels + g.chosen + g.every) ≡ length (all_of q g)
all_length q g one =
    let a = length-append built_in (relations_from q g 0 (g.rels + g.chosen + g.every)) in
    let b = built_length in
    let c = length_relations q g 0 (g.rels + g.chosen + g.every) in
    sym (ap length (all_are q g one) ∙ omega (arith, a, b, c))

-- ---- the loop: what holds of the entries before i
pub record Upto (g : Signature) (i : ℕ) (arity kind firsts seconds : List ℕ) : Type 0 where
  pub arities : (u : ℕ) → u < i → HasArity g u (get_or arity u 0)
  pub kinds : (u : ℕ) → u < i → (q : List ℕ) → get_or kind u 0 ≡ kind_number (get_or (all_of q g) u no_relation).kind
  pub firsts_are : (u : ℕ) → u < i → HasFirsts g u (get_or firsts u 0)
  pub seconds_are : (u : ℕ) → u < i → HasSeconds g u (get_or seconds u 0)
  pub arity_most : Most arity 4
  pub kind_most : Most kind 6
  pub firsts_most : Most firsts 8
  pub seconds_most : Most seconds 8

pub upto_start : (g : Signature) → Upto g 0 (replicate 18 0) (replicate 18 0) (replicate 18 0) (replicate 18 0)
upto_start g = record {
  arities = λ u l. absurd (omega arith);
  kinds = λ u l. absurd (omega arith);
  firsts_are = λ u l. absurd (omega arith);
  seconds_are = λ u l. absurd (omega arith);
  arity_most = most_zeros 18 4;
  kind_most = most_zeros 18 6;
  firsts_most = most_zeros 18 8;
  seconds_most = most_zeros 18 8;
}

most_set : (xs : List ℕ) (i x b : ℕ) → x ≤ b → Most xs b → Most (set xs i x) b
most_set xs i x b h m r = from_this (ℕ_discrete r i) (dec_lt i (length xs))
  where
    from_this : Dec (r ≡ i) → Dec (i < length xs) → get_or (set xs i x) r 0 ≤ b
    from_this (yes e) (yes l) = rw (e, get_or-set_same xs i x 0 l) h
    from_this (yes e) (no l) = rw (set_out xs i x (omega arith)) (m r)
    from_this (no e) l = rw (get_or-set_other xs i r x 0 e) (m r)

kind_by : (g : Signature) (r k x : ℕ) → HasKind g r k → x ≡ kind_number (kind_of k) → (q : List ℕ) → x ≡ kind_number (get_or (all_of q g) r no_relation).kind
unfolding HasKind
kind_by g r k x h e q = e ∙ ap kind_number (h q)

-- what holds of the entries before i, and of the one that is written there
entry_next : (P : ℕ → ℕ → Type 0) (xs : List ℕ) (i x : ℕ) → i < length xs → P i x → ((u : ℕ) → u < i → P u (get_or xs u 0)) → (u : ℕ) → u < i + 1 → P u (get_or (set xs i x) u 0)
entry_next P xs i x l h q u k = from_this (ℕ_discrete u i)
  where
    from_this : Dec (u ≡ i) → P u (get_or (set xs i x) u 0)
    from_this (yes e) = subst (λ (j : ℕ). P j (get_or (set xs i x) j 0)) (sym e) (subst (P i) (sym (get_or-set_same xs i x 0 l)) h)
    from_this (no e) = subst (P u) (sym (get_or-set_other xs i u x 0 e)) (q u (omega arith))

pub upto_next : (g : Signature) (i a k x y z : ℕ) (xs ys us vs : List ℕ) → i < length xs → i < length ys → i < length us → i < length vs → HasArity g i a → a ≤ 4 → HasKind g i k → x ≡ kind_number (kind_of k) → x ≤ 6
    → HasFirsts g i y → y ≤ 8 → HasSeconds g i z → z ≤ 8 → Upto g i xs ys us vs → Upto g (i + 1) (set xs i a) (set ys i x) (set us i y) (set vs i z)
upto_next g i a k x y z xs ys us vs la lk lf ls ha sa hk ex sx hy sy hz sz u = record {
  arities = entry_next (HasArity g) xs i a la ha u.arities;
  kinds = entry_next (λ r c. (q : List ℕ) → c ≡ kind_number (get_or (all_of q g) r no_relation).kind) ys i x lk (kind_by g i k x hk ex) u.kinds;
  firsts_are = entry_next (HasFirsts g) us i y lf hy u.firsts_are;
  seconds_are = entry_next (HasSeconds g) vs i z ls hz u.seconds_are;
  arity_most = most_set xs i a 4 sa u.arity_most;
  kind_most = most_set ys i x 6 sx u.kind_most;
  firsts_most = most_set us i y 8 sy u.firsts_most;
  seconds_most = most_set vs i z 8 sz u.seconds_most;
}

-- the same of every signature that has these arrays
unfoldable pub Filled : (count : ℕ) (arities kinds firsts seconds : List ℕ) (i : ℕ) (xs ys us vs : List ℕ) → Type 0
Filled count arities kinds firsts seconds i xs ys us vs =
    (g : Signature) → Declared g → 5 + (g.rels + g.chosen + g.every) ≡ count → g.arity ≡ arities → g.kind ≡ kinds → g.firsts ≡ firsts → g.seconds ≡ seconds → Upto g i xs ys us vs

pub filled_start : (count : ℕ) (arities kinds firsts seconds : List ℕ) → Filled count arities kinds firsts seconds 0 (replicate 18 0) (replicate 18 0) (replicate 18 0) (replicate 18 0)
unfolding Filled
filled_start count arities kinds firsts seconds g d n a b e f = upto_start g

module _ (count : ℕ) (arities kinds firsts seconds : List ℕ) (i : ℕ) (xs ys us vs : List ℕ) (h : i < count) (la : i < length xs) (lk : i < length ys) (lf : i < length us) (ls : i < length vs) where
  pub filled_next : (a k x y z : ℕ) → ((g : Signature) → g.arity ≡ arities → i < 5 + (g.rels + g.chosen + g.every) → g.every ≤ 1 → HasArity g i a)
      → ((g : Signature) → g.kind ≡ kinds → i < 5 + (g.rels + g.chosen + g.every) → g.every ≤ 1 → HasKind g i k) → (x ≡ kind_number (kind_of k)) × (x ≤ 6) → SortAt firsts i y → SortAt seconds i z
      → Filled count arities kinds firsts seconds i xs ys us vs → Filled count arities kinds firsts seconds (i + 1) (set xs i a) (set ys i x) (set us i y) (set vs i z)
  unfolding Filled SortAt
  filled_next a k x y z ha hk ex hy hz u g d n ea ek ef es =
      let below : i < 5 + (g.rels + g.chosen + g.every) = omega arith in
      let arity : HasArity g i a = ha g ea below d.every in
      let first : HasFirsts g i y = (hy g below d.every).0 ef in
      let second : HasSeconds g i z = (hz g below d.every).1 es in
      upto_next g i a k x y z xs ys us vs la lk lf ls arity (arity_small g i a d below arity) (hk g ek below d.every) ex.0 ex.1 first (firsts_small g i y d below first) second (seconds_small g i z d below second) (u g d n ea ek ef es)

pub numbered : (g : Signature) (i : ℕ) (xs ys us vs : List ℕ) → Declared g → i ≡ 5 + (g.rels + g.chosen + g.every) → Upto g i xs ys us vs
    → RelationsFit (record { count = 5 + (g.rels + g.chosen + g.every); arity = xs; kind = ys; firsts = us; seconds = vs }) × Numbered g (record { count = 5 + (g.rels + g.chosen + g.every); arity = xs; kind = ys; firsts = us; seconds = vs })
unfolding HasArity HasFirsts HasSeconds
numbered g i xs ys us vs d e u = (
  record { count = omega (arith, d.rels, d.chosen, d.every); arity = u.arity_most; kind = u.kind_most; firsts = u.firsts_most; seconds = u.seconds_most },
  record {
    count = λ q. all_length q g d.every;
    arity = λ q j h. u.arities j (omega arith) q;
    kind = λ q j h. u.kinds j (omega arith) q;
    firsts = λ q j h. u.firsts_are j (omega arith) q;
    seconds = λ q j h. u.seconds_are j (omega arith) q;
  },
)
