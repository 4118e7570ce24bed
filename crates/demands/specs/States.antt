-- The states of a run: beyond the last atom nothing ever holds, so a state's words have no other bits set than its atoms'.
use Prim.Native.Nat.{ℕ, zero, suc, ◌≤◌}
use Rattle.std.specs.Prelude.{◌≡◌, Bool, ◌&&◌, ◌||◌, eqb, if◌then◌else◌}
use Rattle.std.proofs.Math.Path.{refl, ap₂}
use Rattle.std.proofs.Math.Bool.{true, false, not}
use Rattle.std.proofs.Math.Option.{Option, none, some}
use mathlib.Core.List.{List, [], ◌∷◌, map}
use Rattle.std.proofs.Common.{arith}
use borrow.Author.Tests.{ne_eqb}
use Rattle.definitions.specs.Lists.{any, option}
use Rattle.definitions.specs.Refusal.{refused}
use Rattle.definitions.specs.Problem.Atoms.{Problem, atom_blocks, atoms, atom_number, State, initial}
use Rattle.definitions.specs.Problem.Actions.{Action, action_at, adds, removes}
use Rattle.definitions.specs.Problem.Strips.{may_take, after, run_from, run}
use Rattle.laws.specs.Lists.{any_none, map_mem}
use Rattle.laws.specs.Blocks.{item_none}
use Rattle.laws.specs.Numbers.{IsAction, action_is, atom_below}
use Rattle.meaning.specs.Means.{Good}
use Rattle.meaning.specs.Valid.{adds_valid}

module _ (p : Problem) (G : Good p) where
  abbrev Ends : State → Type 0
  Ends s = (i : ℕ) → atoms p ≤ i → s i ≡ false

  initial_ends : Ends (initial p)
  unfolding initial option atoms
  initial_ends i h = rw (item_none (atom_blocks p) i h) refl

  after_ends : (s : State) (a : Action) → IsAction p a → Ends s → Ends (after p s a)
  unfolding after
  after_ends s a v e i h = ap₂ (λ (x y : Bool). (x && not (any (eqb i) (map (atom_number p) (removes p a)))) || y) (e i h)
      (any_none (eqb i) (map (atom_number p) (adds p a)) (λ k m. let (x, mx, q) = map_mem (atom_number p) (adds p a) k m in let l = atom_below p x (adds_valid p G a v x mx) in ne_eqb i k (λ j. omega arith)))

  runs_end : (ks : List ℕ) (s : State) (i : ℕ) → Ends s → Ends (run_from p s i ks).state
  unfolding run_from option
  runs_end [] s i e = e
  runs_end (k ∷ ks) s i e = from_this (λ a h. runs_end ks (after p s a) (suc i) h) (action_at p k) refl
    where
      may : ((a : Action) → Ends (after p s a) → Ends (run_from p (after p s a) (suc i) ks).state) → (a : Action) → action_at p k ≡ some a → (b : Bool) → Ends (if b then run_from p (after p s a) (suc i) ks else record { answer = refused 14 i; state = s }).state
      may r a f true = r a (after_ends s a (action_is p k a f) e)
      may r a f false = e

      from_this : ((a : Action) → Ends (after p s a) → Ends (run_from p (after p s a) (suc i) ks).state) → (o : Option Action) → action_at p k ≡ o
          → Ends (option o (record { answer = refused 13 i; state = s })
          (λ a. if may_take p s a then run_from p (after p s a) (suc i) ks else record { answer = refused 14 i; state = s })).state
      from_this r none f = e
      from_this r (some a) f = may r a f (may_take p s a)

  pub run_ends : (ks : List ℕ) → Ends (run p ks).state
  unfolding run
  run_ends ks = runs_end ks (initial p) zero initial_ends
