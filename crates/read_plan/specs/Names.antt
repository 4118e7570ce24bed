-- The name that a plan's word is: the only name that it may be, read off its bytes, and whether it is that one. Assumes nothing.
use Rattle.std.specs.Prelude.{ℕ, zero, suc, ◌+◌, ◌-◌, ◌≤◌, ◌<◌, ◌⊎◌, Bool, not, ◌&&◌, eqb, take, drop, if◌then◌else◌}
use Rattle.std.proofs.Math.Path.{◌≡◌, refl, sym, ap}
use Rattle.std.proofs.Common.{ap₂, subst, ◌∙◌, inl, inr, take_at}
use Rattle.std.proofs.Math.Bool.{true, false}
use Rattle.std.proofs.Math.Option.{Option, none, some}
use mathlib.Core.List.Memᴰ
use mathlib.Core.List.{List, [], ◌∷◌, ◌++◌, Memᴰ}
use native.Mathlib.Omega.{arith}
use Rattle.std.proofs.Math.Dec.{T, ltb}
use Rattle.std.proofs.Math.ListN.{length, get_or, length-append}
use Rattle.std.proofs.Math.Seq.{get_or-append-add}
use borrow.Author.Tests.{le-ltb, ne_eqb}
use Rattle.definitions.specs.Lists.{all, option, find, same}
use Rattle.definitions.specs.Sheet.Text.{bytes, is_capital, is_between, number, decimal}
use Rattle.definitions.specs.Problem.Truth.{Case}
use Rattle.definitions.specs.Reply.Lifted.{ActionName, set_name, begin_name, goal_name, and_name, exists_name, first_name, next_name, or_name, relation_in, action_names}
use Rattle.definitions.specs.Reply.Pddl.{small, folded, action_word, name_from}
use Rattle.laws.specs.Booleans.{T_of, T_and_l, T_and_r}
use Rattle.laws.specs.Tuples.{same_eq, same_refl}
use Rattle.laws.specs.Decimals.{number_decimal, decimal_length}
use Rattle.laws.specs.Lines.{Without, name_short}
use Rattle.laws.specs.Reader.{Accepted}
use Rattle.meaning.specs.PddlWords.{Named, names_are, named_listed, names_formed, actions_apart, fold_one, fold_two, few, few_part, decimal_apart}
use Rattle.read_text.specs.Spans.{index_of}

-- ---- a number in a word; what is none is no node's
unfoldable pub number_or : List ℕ → ℕ
number_or t = option (number t) 10000000 (λ v. v)

number_back : (v : ℕ) → v ≤ 64 → number_or (decimal v) ≡ v
unfolding number_or option
number_back v h = rw (number_decimal v (omega arith)) refl

-- ---- after what an `or`'s and a `forall`'s word begin with
unfoldable pub or_in : List ℕ → Option ActionName
or_in u = if eqb (index_of 95 u) (length u) then none else some (or_name (number_or (take (index_of 95 u) u)) (number_or (drop (suc (index_of 95 u)) u)))

unfoldable pub forall_in : List ℕ → Option ActionName
forall_in u =
    if ltb (length u) 2 then none
    else if eqb (get_or u (length u - 1) 0) 49 then some (first_name (number_or (take (length u - 2) u)))
    else some (next_name (number_or (take (length u - 2) u)))

-- by the seventh byte
unfoldable pub proof_by : ℕ → List ℕ → Option ActionName
proof_by b w =
    if eqb b 103 then some goal_name
    else if eqb b 97 then some (and_name (number_or (drop 10 w)))
    else if eqb b 111 then or_in (drop 9 w)
    else if eqb b 101 then some (exists_name (number_or (drop 13 w)))
    else forall_in (drop 13 w)

unfoldable pub proof_in : List ℕ → Option ActionName
proof_in w = if ltb (length w) 10 then none else proof_by (get_or w 6 0) w

unfoldable pub other_in : List ℕ → Option ActionName
other_in w = if eqb (get_or w 0 0) 98 then some begin_name else proof_in w

-- ---- the word of a name gives the name back
index_at : (xs ys : List ℕ) → Without 95 xs → index_of 95 (xs ++ (95 ∷ ys)) ≡ length xs
unfolding index_of all
index_at [] ys h = refl
index_at (x ∷ xs) ys h = by_test (eqb x 95) refl h (index_at xs ys)
  where
    by_test : (b : Bool) → eqb x 95 ≡ b → T (not (eqb x 95) && all (λ y. not (eqb y 95)) xs) → (Without 95 xs → index_of 95 (xs ++ (95 ∷ ys)) ≡ length xs) → (if b then zero else suc (index_of 95 (xs ++ (95 ∷ ys)))) ≡ suc (length xs)
    by_test true e h r = absurd (subst (λ (t : Bool). T (not t)) e (T_and_l (not (eqb x 95)) _ h))
    by_test false e h r = ap suc (r (T_and_r (not (eqb x 95)) _ h))

or_back : (v i : ℕ) → v ≤ 64 → i ≤ 64 → or_in (decimal v ++ (95 ∷ decimal i)) ≡ some (or_name v i)
unfolding or_in
or_back v i h g =
    let u : List ℕ = decimal v ++ (95 ∷ decimal i) in
    let l = length-append (decimal v) (95 ∷ decimal i) in
    let e : eqb (length (decimal v)) (length u) ≡ false = ne_eqb (length (decimal v)) (length u) (λ q. omega arith) in
    let d : drop (suc (length (decimal v))) u ≡ decimal i = drop_past (decimal v) 95 (decimal i) in
    rw (index_at (decimal v) (decimal i) (decimal_apart v), e) (ap₂ (λ (x y : List ℕ). some (or_name (number_or x) (number_or y))) (take_at (decimal v) (95 ∷ decimal i) (length (decimal v)) refl) d ∙ ap₂ (λ (x y : ℕ). some (or_name x y)) (number_back v h) (number_back i g))
  where
    drop_past : (xs : List ℕ) (x : ℕ) (ys : List ℕ) → drop (suc (length xs)) (xs ++ (x ∷ ys)) ≡ ys
    drop_past [] x ys = refl
    drop_past (z ∷ xs) x ys = drop_past xs x ys

module _ (v b : ℕ) (h : v ≤ 64) where
  abbrev after : List ℕ
  after = decimal v ++ (95 ∷ b ∷ [])

  after_length : length after ≡ length (decimal v) + 2
  after_length = length-append (decimal v) (95 ∷ b ∷ [])

  forall_back : forall_in after ≡ (if eqb b 49 then some (first_name v) else some (next_name v))
  unfolding forall_in
  forall_back =
      let l = after_length in
      let t : ltb (length after) 2 ≡ false = le-ltb (length after) 2 (omega arith) in
      let j : length after - 1 ≡ length (decimal v) + 1 = omega arith in
      let k : length after - 2 ≡ length (decimal v) = omega arith in
      let g : get_or after (length after - 1) 0 ≡ b = ap (λ (i : ℕ). get_or after i 0) j ∙ get_or-append-add (decimal v) (95 ∷ b ∷ []) 1 0 in
      let n : number_or (take (length after - 2) after) ≡ v = ap (λ (i : ℕ). number_or (take i after)) k ∙ ap number_or (take_at (decimal v) (95 ∷ b ∷ []) (length (decimal v)) refl) ∙ number_back v h in
      rw (t, g, n) refl

first_back : (v : ℕ) → v ≤ 64 → forall_in (decimal v ++ bytes "_1") ≡ some (first_name v)
first_back v h = forall_back v 49 h

next_back : (v : ℕ) → v ≤ 64 → forall_in (decimal v ++ bytes "_2") ≡ some (next_name v)
next_back v h = forall_back v 50 h

-- no set action
unfoldable pub IsOther : ActionName → Type 0
IsOther (set_name r) = ⊥
IsOther begin_name = Unit {0}
IsOther goal_name = Unit {0}
IsOther (and_name v) = Unit {0}
IsOther (exists_name v) = Unit {0}
IsOther (first_name v) = Unit {0}
IsOther (next_name v) = Unit {0}
IsOther (or_name v i) = Unit {0}

module _ (c : Case) (A : Accepted c) where
  and_back : (v : ℕ) → v ≤ 64 → other_in (bytes "prove_and_" ++ decimal v) ≡ some (and_name v)
  unfolding other_in proof_in proof_by
  and_back v h = let z : ltb (length (bytes "prove_and_" ++ decimal v)) 10 ≡ false = le-ltb (length (bytes "prove_and_" ++ decimal v)) 10 (omega arith) in rw z (ap (λ (k : ℕ). some (and_name k)) (number_back v h))

  exists_back : (v : ℕ) → v ≤ 64 → other_in (bytes "prove_exists_" ++ decimal v) ≡ some (exists_name v)
  unfolding other_in proof_in proof_by
  exists_back v h = let z : ltb (length (bytes "prove_exists_" ++ decimal v)) 10 ≡ false = le-ltb (length (bytes "prove_exists_" ++ decimal v)) 10 (omega arith) in rw z (ap (λ (k : ℕ). some (exists_name k)) (number_back v h))

  all_back : (u : List ℕ) → other_in (bytes "prove_forall_" ++ u) ≡ forall_in u
  unfolding other_in proof_in proof_by
  all_back u = let z : ltb (length (bytes "prove_forall_" ++ u)) 10 ≡ false = le-ltb (length (bytes "prove_forall_" ++ u)) 10 (omega arith) in rw z refl

  some_back : (u : List ℕ) → 0 < length u → other_in (bytes "prove_or_" ++ u) ≡ or_in u
  unfolding other_in proof_in proof_by
  some_back u h = let z : ltb (length (bytes "prove_or_" ++ u)) 10 ≡ false = le-ltb (length (bytes "prove_or_" ++ u)) 10 (omega arith) in rw z refl

  begin_back : other_in (folded (bytes "begin-proof")) ≡ some begin_name
  unfolding other_in folded small is_capital is_between
  begin_back = refl

  goal_back : other_in (folded (bytes "prove-goal")) ≡ some goal_name
  unfolding other_in proof_in proof_by folded small is_capital is_between
  goal_back = refl

  pub other_back : (a : ActionName) → Named c a → IsOther a → other_in (folded (action_word c a)) ≡ some a
  unfolding Named IsOther action_word folded small is_capital is_between
  other_back (set_name r) h o = absurd o
  other_back begin_name h o = begin_back
  other_back goal_name h o = goal_back
  other_back (and_name v) h o = ap other_in (fold_one c A (bytes "prove_and_") v refl) ∙ and_back v (few c A v h.0)
  other_back (exists_name v) h o = ap other_in (fold_one c A (bytes "prove_exists_") v refl) ∙ exists_back v (few c A v h.0)
  other_back (first_name v) h o = ap other_in (fold_two c A (bytes "prove_forall_") (bytes "_1") v refl refl) ∙ all_back (decimal v ++ bytes "_1") ∙ first_back v (few c A v h.0)
  other_back (next_name v) h o = ap other_in (fold_two c A (bytes "prove_forall_") (bytes "_2") v refl refl) ∙ all_back (decimal v ++ bytes "_2") ∙ next_back v (few c A v h.0)
  other_back (or_name v i) h o =
      ap other_in (fold_two c A (bytes "prove_or_") (bytes "_" ++ decimal i) v refl (fold_one c A (bytes "_") i refl))
      ∙ some_back (decimal v ++ (95 ∷ decimal i)) (let l = length-append (decimal v) (95 ∷ decimal i) in omega arith) ∙ or_back v i (few c A v h.0) (few_part c A v i h)

  -- ---- the first byte, and the length
  pub set_first : (r : ℕ) → get_or (folded (action_word c (set_name r))) 0 0 ≡ 115
  unfolding action_word folded small is_capital is_between
  set_first r = refl

  pub other_first : (a : ActionName) → IsOther a → get_or (folded (action_word c a)) 0 0 ≡ 115 → ⊥
  unfolding action_word folded small is_capital is_between IsOther
  other_first (set_name r) o e = o
  other_first begin_name o e = let z : ◌≡◌ {A = ℕ} 98 115 = e in omega arith
  other_first goal_name o e = let z : ◌≡◌ {A = ℕ} 112 115 = e in omega arith
  other_first (and_name v) o e = let z : ◌≡◌ {A = ℕ} 112 115 = e in omega arith
  other_first (exists_name v) o e = let z : ◌≡◌ {A = ℕ} 112 115 = e in omega arith
  other_first (first_name v) o e = let z : ◌≡◌ {A = ℕ} 112 115 = e in omega arith
  other_first (next_name v) o e = let z : ◌≡◌ {A = ℕ} 112 115 = e in omega arith
  other_first (or_name v i) o e = let z : ◌≡◌ {A = ℕ} 112 115 = e in omega arith

  pub word_some : (a : ActionName) → folded (action_word c a) ≡ [] → ⊥
  unfolding action_word folded
  word_some (set_name r) e = let z = ap length e in omega arith
  word_some begin_name e = let z = ap length e in omega arith
  word_some goal_name e = let z = ap length e in omega arith
  word_some (and_name v) e = let z = ap length e in omega arith
  word_some (exists_name v) e = let z = ap length e in omega arith
  word_some (first_name v) e = let z = ap length e in omega arith
  word_some (next_name v) e = let z = ap length e in omega arith
  word_some (or_name v i) e = let z = ap length e in omega arith

  two_digits : (v : ℕ) → v ≤ 64 → length (decimal v) ≤ 2
  two_digits v h = decimal_length 1 v (omega arith)

  pub word_short : (a : ActionName) → Named c a → length (action_word c a) ≤ 24
  unfolding action_word Named
  word_short (set_name r) h = let n = name_short (relation_in c r).name (names_formed c A r h.0) in let l = length-append (relation_in c r).name (bytes "_true") in omega arith
  word_short begin_name h = omega arith
  word_short goal_name h = omega arith
  word_short (and_name v) h = omega (arith, two_digits v (few c A v h.0))
  word_short (exists_name v) h = omega (arith, two_digits v (few c A v h.0))
  word_short (first_name v) h = let l = length-append (decimal v) (bytes "_1") in omega (arith, two_digits v (few c A v h.0))
  word_short (next_name v) h = let l = length-append (decimal v) (bytes "_2") in omega (arith, two_digits v (few c A v h.0))
  word_short (or_name v i) h = let l = length-append (decimal v) (bytes "_" ++ decimal i) in omega (arith, two_digits v (few c A v h.0), two_digits i (few_part c A v i h))

  -- ---- the name found
  find_only : {B : Type 0} (f : B → Bool) (l : List B) (a : B) → Memᴰ a l → T (f a) → ((b : B) → Memᴰ b l → T (f b) → b ≡ a) → find f l ≡ some a
  unfolding find
  find_only f [] a m t h = absurd (Memᴰ.not-nil m)
  find_only f (b ∷ l) a m t h = by_test (f b) refl (find_only f l a) (Memᴰ.cases_cons m)
    where
      by_test : (k : Bool) → f b ≡ k → (Memᴰ a l → T (f a) → ((d : _) → Memᴰ d l → T (f d) → d ≡ a) → find f l ≡ some a) → (a ≡ b) ⊎ Memᴰ a l → (if k then some b else find f l) ≡ some a
      by_test true e r o = ap some (h b (Memᴰ.head refl) (T_of e))
      by_test false e r (inl q) = absurd (subst T (ap f q ∙ e) t)
      by_test false e r (inr q) = r q t (λ d n u. h d (Memᴰ.tail n) u)

  find_nothing : {B : Type 0} (f : B → Bool) (l : List B) → ((b : B) → Memᴰ b l → T (f b) → ⊥) → find f l ≡ none
  unfolding find
  find_nothing f [] h = refl
  find_nothing f (b ∷ l) h = by_test (f b) refl (find_nothing f l (λ d n u. h d (Memᴰ.tail n) u))
    where
      by_test : (k : Bool) → f b ≡ k → find f l ≡ none → (if k then some b else find f l) ≡ none
      by_test true e r = absurd (h b (Memᴰ.head refl) (T_of e))
      by_test false e r = r

  pub name_some : (w : List ℕ) (a : ActionName) → Named c a → folded (action_word c a) ≡ w → name_from c w ≡ some a
  unfolding name_from
  name_some w a h e = find_only (λ b. same (folded (action_word c b)) w) (action_names c) a (named_listed c a h) (subst (λ (x : List ℕ). T (same (folded (action_word c a)) x)) e (same_refl (folded (action_word c a))))
      (λ b k t. actions_apart c A b a k (named_listed c a h) (same_eq (folded (action_word c b)) w t ∙ sym e))

  pub name_none : (w : List ℕ) → ((a : ActionName) → Named c a → folded (action_word c a) ≡ w → ⊥) → name_from c w ≡ none
  unfolding name_from
  name_none w h = find_nothing (λ b. same (folded (action_word c b)) w) (action_names c) (λ b m t. h b (names_are c b m) (same_eq (folded (action_word c b)) w t))
