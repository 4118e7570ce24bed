-- What a step changes, said of atoms by an equation: what it removes goes, what it adds comes, and every other atom stays.
use Rattle.std.specs.Prelude.{ℕ, zero, suc, ◌≡◌, Bool, true, false, ◌&&◌, T, eqb, if◌then◌else◌}
use Rattle.std.proofs.Math.Path.{refl, ap₂}
use Rattle.std.proofs.Common.{sym, ap, subst, ◌∙◌, eqb→eq, eq-eqb}
use Rattle.std.proofs.Math.Bool.{not, ◌||◌, and-true, or_assoc}
use mathlib.Core.List.{List, [], ◌∷◌, ◌++◌, map, Memᴰ}
use Rattle.std.proofs.Math.Dec.{eqb_refl}
use Rattle.definitions.specs.Lists.{any}
use Rattle.definitions.specs.Sheet.Relations.{Relation, is_function, is_injective}
use Rattle.definitions.specs.Problem.Atoms.{Problem, Atom, guess, proof, goal, tuple, not_tuple, free_domain, free_range, holds_node, marked, atom_number, State}
use Rattle.definitions.specs.Problem.Actions.{Action, free_atoms, adds, removes}
use Rattle.definitions.specs.Problem.Strips.{after}
use Rattle.laws.specs.Booleans.{and_T, T_and_l, T_and_r, T_of, T_ext}
use Rattle.laws.specs.Numbers.{IsAtom, IsAction, atom_injective}
use Rattle.meaning.specs.Means.{Good}
use Rattle.meaning.specs.Valid.{adds_valid, removes_valid}

-- ---- an atom as its sort and two numbers, and when two are the same
unfoldable pub sort : Atom → ℕ
sort guess = 0
sort proof = 1
sort goal = 2
sort (tuple r row) = 3
sort (not_tuple r row) = 4
sort (free_domain r x) = 5
sort (free_range r y) = 6
sort (holds_node v row) = 7
sort (marked r row) = 8

unfoldable pub whose : Atom → ℕ
whose guess = 0
whose proof = 0
whose goal = 0
whose (tuple r row) = r
whose (not_tuple r row) = r
whose (free_domain r x) = r
whose (free_range r y) = r
whose (holds_node v row) = v
whose (marked r row) = r

unfoldable pub which : Atom → ℕ
which guess = 0
which proof = 0
which goal = 0
which (tuple r row) = row
which (not_tuple r row) = row
which (free_domain r x) = x
which (free_range r y) = y
which (holds_node v row) = row
which (marked r row) = row

unfoldable pub same_atom : Atom → Atom → Bool
same_atom x y = eqb (sort x) (sort y) && eqb (whose x) (whose y) && eqb (which x) (which y)

unfoldable atom_of : ℕ → ℕ → ℕ → Atom
atom_of zero r row = guess
atom_of (suc zero) r row = proof
atom_of (suc (suc zero)) r row = goal
atom_of (suc (suc (suc zero))) r row = tuple r row
atom_of (suc (suc (suc (suc zero)))) r row = not_tuple r row
atom_of (suc (suc (suc (suc (suc zero))))) r row = free_domain r row
atom_of (suc (suc (suc (suc (suc (suc zero)))))) r row = free_range r row
atom_of (suc (suc (suc (suc (suc (suc (suc zero))))))) r row = holds_node r row
atom_of (suc (suc (suc (suc (suc (suc (suc (suc k)))))))) r row = marked r row

atom_of_lem : (x : Atom) → atom_of (sort x) (whose x) (which x) ≡ x
unfolding atom_of sort whose which
atom_of_lem guess = refl
atom_of_lem proof = refl
atom_of_lem goal = refl
atom_of_lem (tuple r row) = refl
atom_of_lem (not_tuple r row) = refl
atom_of_lem (free_domain r x) = refl
atom_of_lem (free_range r y) = refl
atom_of_lem (holds_node v row) = refl
atom_of_lem (marked r row) = refl

pub same_atom_lem : (x y : Atom) → T (same_atom x y) → x ≡ y
unfolding same_atom
same_atom_lem x y t =
    let a = T_and_l (eqb (sort x) (sort y) && eqb (whose x) (whose y)) _ t in
    let i = eqb→eq (sort x) (sort y) (T_and_l (eqb (sort x) (sort y)) _ a) in
    let j = eqb→eq (whose x) (whose y) (T_and_r (eqb (sort x) (sort y)) _ a) in
    let k = eqb→eq (which x) (which y) (T_and_r (eqb (sort x) (sort y) && eqb (whose x) (whose y)) _ t) in
    sym (atom_of_lem x) ∙ ap (λ (n : ℕ). atom_of n (whose x) (which x)) i ∙ ap₂ (atom_of (sort y)) j k ∙ atom_of_lem y

pub same_self : (x : Atom) → T (same_atom x x)
unfolding same_atom
same_self x = and_T (eqb (sort x) (sort x) && eqb (whose x) (whose x)) _ (and_T (eqb (sort x) (sort x)) _ (eqb_refl (sort x)) (eqb_refl (whose x))) (eqb_refl (which x))

module _ (p : Problem) (G : Good p) where
  pub number_same : (x y : Atom) → IsAtom p x → IsAtom p y → eqb (atom_number p x) (atom_number p y) ≡ same_atom x y
  number_same x y v w = T_ext (eqb (atom_number p x) (atom_number p y)) (same_atom x y)
      (λ t. subst (λ (z : Atom). T (same_atom x z)) (atom_injective p x y v w (eqb→eq (atom_number p x) (atom_number p y) t)) (same_self x))
      (λ t. T_of (eq-eqb (atom_number p x) (atom_number p y) (ap (atom_number p) (same_atom_lem x y t))))

  among_same : (x : Atom) (l : List Atom) → IsAtom p x → ((y : Atom) → Memᴰ y l → IsAtom p y) → any (eqb (atom_number p x)) (map (atom_number p) l) ≡ any (same_atom x) l
  unfolding any
  among_same x [] v h = refl
  among_same x (y ∷ l) v h = ap₂ ◌||◌ (number_same x y v (h y (Memᴰ.head refl))) (among_same x l v (λ z m. h z (Memᴰ.tail m)))

  -- the state after an action, at an atom
  pub after_at : (s : State) (a : Action) (x : Atom) → IsAction p a → IsAtom p x
      → after p s a (atom_number p x) ≡ ((s (atom_number p x) && not (any (same_atom x) (removes p a))) || any (same_atom x) (adds p a))
  unfolding after
  after_at s a x v w = ap₂ (λ (gone come : Bool). (s (atom_number p x) && not gone) || come)
      (among_same x (removes p a) w (removes_valid p G a v)) (among_same x (adds p a) w (adds_valid p G a v))

-- ---- the free atoms are free atoms
one_sort : (x y : Atom) (b : Bool) → eqb (sort x) (sort y) ≡ false → any (same_atom x) (if b then y ∷ [] else []) ≡ false
unfolding any same_atom
one_sort x y true e = rw e
one_sort x y false e = refl

pub any_append : {A : Type 0} (f : A → Bool) (l m : List A) → any f (l ++ m) ≡ (any f l || any f m)
unfolding any
any_append f [] m = refl
any_append f (x ∷ l) m = ap (λ (b : Bool). f x || b) (any_append f l m) ∙ sym (or_assoc (f x) (any f l) (any f m))

pub free_sort : (x : Atom) (n : ℕ) (k : Relation) (r row : ℕ) → eqb (sort x) 5 ≡ false → eqb (sort x) 6 ≡ false → any (same_atom x) (free_atoms n k r row) ≡ false
unfolding free_atoms sort
free_sort x n k r row e f =
    any_append (same_atom x) (if is_function k.kind then free_domain r _ ∷ [] else []) _
    ∙ ap₂ ◌||◌ (one_sort x _ (is_function k.kind) e) (one_sort x _ (is_injective k.kind) f)

-- nothing of an atom's sort goes
pub stays : (b : Bool) (gone come new : Bool) → gone ≡ false → come ≡ new → ((b && not gone) || come) ≡ (b || new)
stays b gone come new e f = rw (e, f, and-true b)
