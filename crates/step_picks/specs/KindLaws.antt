-- The kinds of picks tested on their bits are those of the definitions.
use Rattle.std.specs.Prelude.{ℕ, zero, suc, ◌+◌, ◌*◌, ◌^◌, ◌<◌, ◌≡◌, refl, Bool, true, ◌&&◌, ◌||◌, T, length, if◌then◌else◌}
use Rattle.std.proofs.Math.Path.{sym, ap, ap₂}
use Rattle.std.proofs.Common.{subst, ◌∙◌, arith, mul-one}
use Rattle.std.proofs.Math.Bool.{not}
use Rattle.std.proofs.Math.Option.{Option, none, some}
use mathlib.Core.List.{List, [], ◌∷◌, Memᴰ}
use Rattle.std.proofs.Math.Arith.{digits_lt}
use Rattle.std.proofs.Math.Dec.{ltb}
use Rattle.bits.specs.Table.{num, count}
use Rattle.definitions.specs.Lists.{any, option, position, below, is_in}
use Rattle.definitions.specs.Sheet.Relations.{Kind, static, plain, Fun, PFun, Inj, PInj, universal, Tuple, is_chosen, is_function, is_injective}
use Rattle.definitions.specs.Problem.Truth.{Case, are_picks, first_of_other_kind}
use Rattle.definitions.specs.Problem.Atoms.{problem_of, relation_at, tuples_of}
use Rattle.definitions.specs.Problem.Built.{is_picked, chosen_numbers}
use Rattle.laws.specs.Booleans.{T_of}
use Rattle.laws.specs.Lists.{below_lt, filter_mem}
use Rattle.laws.specs.Rows.{square}
use Rattle.laws.specs.Reader.{Accepted}
use Rattle.meaning.specs.Grounded.{good}
use Rattle.meaning.specs.Picks.{picks_inside}
use Rattle.meaning.specs.KindRows.{has_two, is_crowded, is_stray, breaks, first_broken}
use Rattle.step_picks.specs.Words.{rows_in, PicksAre}
use Rattle.step_picks.specs.Tests.{broken_at}

any_same : {A : Type 0} (f g : A → Bool) (l : List A) → ((x : A) → Memᴰ x l → f x ≡ g x) → any f l ≡ any g l
unfolding any
any_same f g [] h = refl
any_same f g (x ∷ l) h = ap₂ ◌||◌ (h x (Memᴰ.head refl)) (any_same f g l (λ y m. h y (Memᴰ.tail m)))

position_same : {A : Type 0} (f g : A → Bool) (l : List A) → ((x : A) → Memᴰ x l → f x ≡ g x) → position f l ≡ position g l
unfolding position
position_same f g [] h = refl
position_same f g (x ∷ l) h = ap₂ (λ (b : Bool) (o : Option ℕ). if b then some zero else option o none (λ i. some (suc i))) (h x (Memᴰ.head refl)) (position_same f g l (λ y m. h y (Memᴰ.tail m)))

count_same : (f g : ℕ → Bool) (n : ℕ) → ((y : ℕ) → y < n → f y ≡ g y) → count f 0 n ≡ count g 0 n
unfolding count
count_same f g zero h = refl
count_same f g (suc n) h = ap₂ (λ (a : ℕ) (b : Bool). a + num b) (count_same f g n (λ y l. h y (omega arith))) (h (0 + n) (omega arith))

module _ (f g : ℕ → Bool) (n : ℕ) (h : (row : ℕ) → row < n * n → f row ≡ g row) where
  crowd_same : (a b : ℕ) → ((x y : ℕ) → x < n → y < n → x * a + y * b < n * n) → is_crowded f n a b ≡ is_crowded g n a b
  unfolding is_crowded has_two
  crowd_same a b k = any_same (λ x. ltb 1 (count (λ y. f (x * a + y * b)) 0 n)) (λ x. ltb 1 (count (λ y. g (x * a + y * b)) 0 n)) (below n)
      (λ x m. ap (ltb 1) (count_same (λ y. f (x * a + y * b)) (λ y. g (x * a + y * b)) n (λ y l. h (x * a + y * b) (k x y (below_lt n x m) l))))

  in_row : (x y : ℕ) → x < n → y < n → x * n + y * 1 < n * n
  in_row x y a b = let e = mul-one y in let l : x * n + y < n * n = digits_lt a b in omega arith

  in_column : (y x : ℕ) → y < n → x < n → y * 1 + x * n < n * n
  in_column y x a b = let e = mul-one y in let l : x * n + y < n * n = digits_lt b a in omega arith

  stray_same : (xs ys : List ℕ) → is_stray f n xs ys ≡ is_stray g n xs ys
  unfolding is_stray
  stray_same xs ys = any_same _ _ (below n) (λ x mx. any_same (λ y. f (x * n + y) && not (is_in x xs && is_in y ys)) (λ y. g (x * n + y) && not (is_in x xs && is_in y ys)) (below n)
      (λ y my. ap (λ (b : Bool). b && not (is_in x xs && is_in y ys)) (h (x * n + y) (digits_lt (below_lt n x mx) (below_lt n y my)))))

  tests_same : (k : Kind) (xs ys : List ℕ) → breaks k xs ys n f ≡ breaks k xs ys n g
  unfolding breaks
  tests_same k xs ys = ap₂ (λ (a b : Bool). a || (is_function k && b)) (ap₂ (λ (a b : Bool). (is_function k && a) || (is_injective k && b)) (crowd_same n 1 in_row) (crowd_same 1 n in_column)) (stray_same xs ys)

-- only a function kind is tested
breaks_same : (k : Kind) (xs ys : List ℕ) (n : ℕ) (f g : ℕ → Bool) → (T (is_function k) → (row : ℕ) → row < n * n → f row ≡ g row) → breaks k xs ys n f ≡ breaks k xs ys n g
unfolding breaks is_function is_injective
breaks_same static xs ys n f g h = refl
breaks_same plain xs ys n f g h = refl
breaks_same Fun xs ys n f g h = tests_same f g n (h tt) Fun xs ys
breaks_same PFun xs ys n f g h = tests_same f g n (h tt) PFun xs ys
breaks_same Inj xs ys n f g h = tests_same f g n (h tt) Inj xs ys
breaks_same PInj xs ys n f g h = tests_same f g n (h tt) PInj xs ys
breaks_same universal xs ys n f g h = refl

module _ (c : Case) (A : Accepted c) (F : List Tuple) (picks : are_picks c F ≡ true) (words : List ℕ) (same : PicksAre (problem_of c) words F) where
  -- 16
  pub kinds_are : position (broken_at (problem_of c) (rows_in (problem_of c) words)) (chosen_numbers (problem_of c)) ≡ first_of_other_kind c F
  unfolding chosen_numbers tuples_of
  kinds_are =
      position_same (broken_at (problem_of c) (rows_in (problem_of c) words)) (broken_at (problem_of c) (is_picked (problem_of c) F)) (chosen_numbers (problem_of c)) (λ r m.
      let q = filter_mem (λ r. is_chosen (relation_at (problem_of c) r).kind) (below (length (problem_of c).relations)) r m in
      let l = below_lt (length (problem_of c).relations) r q.0 in
      breaks_same (relation_at (problem_of c) r).kind _ _ (problem_of c).size (rows_in (problem_of c) words r) (is_picked (problem_of c) F r) (λ f row h. same r row l q.1 (subst (λ (k : ℕ). row < (problem_of c).size ^ k) (sym ((good c A).pairs r l f)) (rw (square (problem_of c).size) h))))
      ∙ sym (first_broken c A F (picks_inside c A F (T_of picks)))
