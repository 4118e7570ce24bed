-- Document 02, job 5, section 18 of the demands: kinds with types.
use Rattle.std.specs.Prelude.{ℕ, zero, suc, ◌+◌, ◌*◌, ◌/◌, ◌%◌, ◌<◌, ◌≤◌, ◌≡◌, ◌⊎◌, ◌↔◌, true, false, length, get_or, if◌then◌else◌}
use Rattle.std.proofs.Math.Option.{some}
use mathlib.Core.List.{List, Memᴰ}
use Rattle.definitions.specs.Limits.{CaseLimits}
use Rattle.definitions.specs.Refusal.{accepted}
use Rattle.definitions.specs.Sheet.Relations.{Relation, Tuple, is_chosen, is_function}
use Rattle.definitions.specs.Sheet.Sheets.{Member, first_chosen}
use Rattle.definitions.specs.Problem.Truth.{Case, members_of, are_of_kinds, first_of_other_kind}
use Rattle.definitions.specs.Problem.Atoms.{problem_of, relation_at, tuples_of}
use Rattle.definitions.specs.Problem.Actions.{set, action_at, set_start}
use Rattle.definitions.specs.Reply.Outcome.{read_case}
use Rattle.laws.specs.Numbers.{no_relation}
use Rattle.laws.specs.Reader
use Reader.{Accepted, case_fits, gives_if}
use Rattle.demands.specs.Ranges
use Rattle.demands.specs.TypedKinds
use Rattle.demands.specs.BothSides.{Keeps}

-- ---- 18, document 02, job 5. For every limits of at most 64 elements, and every question and site that a case c is read from:
module _ (L : CaseLimits) (few : L.elements ≤ 64) (question site : List ℕ) (c : Case) (is_case : read_case L question site ≡ accepted c) where
  fits_kinds : Accepted c
  fits_kinds = gives_if Accepted (read_case L question site) c is_case (case_fits L few question site)

  -- the sorts of a `choose`'s places are of declared types, and those of one that is of no function kind are 0;
  pub kind_sorts : (k : Relation) → Memᴰ k c.question.chosen
      → (k.firsts ≤ length c.question.types) × (k.seconds ≤ length c.question.types) × (is_function k.kind ≡ false → (k.firsts ≡ 0) × (k.seconds ≡ 0))
  kind_sorts k m = let F = fits_kinds.question_fits.chosen_sorted k m in (F.firsts_few, F.seconds_few, F.no_sorts)

  -- by such a sort a place has all elements, where it is 0, and otherwise those of the `member` lines of the type.
  pub place_range : (s : ℕ) → s ≤ length c.question.types → (x : ℕ)
      → Memᴰ x (members_of c s) ↔ ((x < c.site.size) × ((s ≡ 0) ⊎ ((m : Member) × Memᴰ m c.site.members × (s ≡ suc m.type) × (m.element ≡ x))))
  place_range s h x = Ranges.place_range c x s h

  -- Picks are of the declared kinds exactly if they keep to the kind of each `choose`: a function kind has no first place with two
  -- seconds, an injective one no second with two firsts, and a function kind no pick whose first or second place is outside its type.
  pub kinds_are : (picks : List Tuple)
      → (are_of_kinds c picks ≡ true)
      ↔ ((j : ℕ) → j < length c.question.chosen → Keeps c picks (first_chosen c.question + j) (get_or c.question.chosen j no_relation))
  kinds_are = TypedKinds.kinds_are c

  -- The index that 16 has is that of the first `choose` to which they do not keep.
  pub first_is : (picks : List Tuple) (i : ℕ) → first_of_other_kind c picks ≡ some i
      → (i < length c.question.chosen) × (Keeps c picks (first_chosen c.question + i) (get_or c.question.chosen i no_relation) → ⊥)
      × ((j : ℕ) → j < i → Keeps c picks (first_chosen c.question + j) (get_or c.question.chosen j no_relation))
  first_is = TypedKinds.first_is c

  -- A tuple of a `choose` has a set action exactly if it is not outside these types,
  pub settable : (r row : ℕ)
      → ((k : ℕ) × (action_at (problem_of c) k ≡ some (set r row)))
      ↔ ((r < length (problem_of c).relations) × (is_chosen (relation_at (problem_of c) r).kind ≡ true) × (row < tuples_of (problem_of c).size (relation_at (problem_of c) r))
      × (is_function (relation_at (problem_of c) r).kind ≡ true → Memᴰ (row / (problem_of c).size) (members_of c (relation_at (problem_of c) r).firsts) × Memᴰ (row % (problem_of c).size) (members_of c (relation_at (problem_of c) r).seconds)))
  settable = TypedKinds.settable c fits_kinds

  -- so a function kind has as many as there are pairs of members, and any other `choose` one for each tuple.
  pub set_counts : (r : ℕ) → r < length (problem_of c).relations
      → set_start (problem_of c) (suc r) ≡ set_start (problem_of c) r
      + (if is_function (relation_at (problem_of c) r).kind then length (members_of c (relation_at (problem_of c) r).firsts) * length (members_of c (relation_at (problem_of c) r).seconds)
      else if is_chosen (relation_at (problem_of c) r).kind then tuples_of (problem_of c).size (relation_at (problem_of c) r) else zero)
  set_counts = TypedKinds.set_counts c fits_kinds
