-- What an unground fact stands for: each atom of the problem has its own fact, and an action with parameters needs, adds and removes,
-- at the objects of a step, the facts of the atoms that the step's action does.
use Rattle.std.specs.Prelude.{ℕ, zero, suc, ◌+◌, ◌-◌, ◌*◌, ◌^◌, ◌<◌, ◌≡◌, Bool, ◌&&◌, T, eqb, get_or, if◌then◌else◌}
use Rattle.std.proofs.Math.Path.{refl, sym, ap, ap₂}
use Rattle.std.proofs.Common.{subst, ◌∙◌, pow-suc, eqb→eq}
use Rattle.std.proofs.Math.Bool.{true, false}
use Rattle.std.proofs.Math.Option.{Option, none, some}
use mathlib.Core.List.{List, [], ◌∷◌, ◌++◌, map, Memᴰ, map-append}
use native.Mathlib.Omega.{arith}
use Rattle.std.proofs.Math.Dec.{eqb_refl}
use Rattle.std.proofs.Math.ListN.{length}
use Rattle.std.proofs.lemmas.List.{length-map}
use Rattle.definitions.specs.Lists.{option, position, below, greatest}
use Rattle.definitions.specs.Problem.Tree.{Tree, Trees, leaf, forall_node, exists_node, and_node, or_node, end, ◌then◌, nodes, Part, parts_from, is_forall, free}
use Rattle.definitions.specs.Problem.Atoms.{Problem, relation_at, node_at, row_of, places_of, tuples_of, rows_of, node_width, Atom, guess, proof, goal, tuple, not_tuple, free_domain, free_range, holds_node, marked}
use Rattle.definitions.specs.Problem.Actions.{Values, values_in, with_value, part_atom, part_atoms}
use Rattle.definitions.specs.Reply.Lifted
use Rattle.laws.specs.Booleans.{T_and_l, T_and_r, and_T}
use Rattle.laws.specs.Lists.{any_of, any_at, map_map, map_same}
use Rattle.laws.specs.Tuples.{same_eq, same_refl}
use Rattle.laws.specs.Rows.{places_row, row_places, places_snoc}
use Rattle.laws.specs.Numbers.{IsAtom}
use Rattle.laws.specs.Members.{greatest_below}
use Rattle.meaning.specs.Parts.{Bnd, bnd_map, Here, HereAll, head_here, tail_here, Fits, IsNode, node_at_lem}
use Rattle.meaning.specs.Means.{Good, row_in}
use Lifted.{Predicate, guessing, proving, reached, related, unrelated, free_first, free_second, proved, predicate_kind, predicate_of, Fact, Term, parameter, object, same_fact, is_said, term_value, said_of}
use Lifted.{term_at, with_term, part_pattern, node_places}

-- ---- a predicate by its kind and number; equal facts
predicate_from : ℕ → ℕ → Predicate
predicate_from zero r = guessing
predicate_from (suc zero) r = proving
predicate_from (suc (suc zero)) r = reached
predicate_from (suc (suc (suc zero))) r = related r
predicate_from (suc (suc (suc (suc zero)))) r = unrelated r
predicate_from (suc (suc (suc (suc (suc zero))))) r = free_first r
predicate_from (suc (suc (suc (suc (suc (suc zero)))))) r = free_second r
predicate_from (suc (suc (suc (suc (suc (suc (suc k))))))) r = proved r

predicate_back : (a : Predicate) → predicate_from (predicate_kind a) (predicate_of a) ≡ a
unfolding predicate_kind predicate_of predicate_from
predicate_back guessing = refl
predicate_back proving = refl
predicate_back reached = refl
predicate_back (related r) = refl
predicate_back (unrelated r) = refl
predicate_back (free_first r) = refl
predicate_back (free_second r) = refl
predicate_back (proved v) = refl

pub predicate_eq : (a b : Predicate) → predicate_kind a ≡ predicate_kind b → predicate_of a ≡ predicate_of b → a ≡ b
predicate_eq a b e f = sym (predicate_back a) ∙ ap₂ predicate_from e f ∙ predicate_back b

pub fact_eq : (f g : Fact) → f.predicate ≡ g.predicate → f.objects ≡ g.objects → f ≡ g
fact_eq f g e h = ap₂ (λ (a : Predicate) (xs : List ℕ). record { predicate = a; objects = xs }) e h

pub same_fact_eq : (f g : Fact) → T (same_fact f g) → f ≡ g
unfolding same_fact
same_fact_eq f g t =
    let a = T_and_l (eqb (predicate_kind f.predicate) (predicate_kind g.predicate) && eqb (predicate_of f.predicate) (predicate_of g.predicate)) _ t in
    fact_eq f g (predicate_eq f.predicate g.predicate (eqb→eq _ _ (T_and_l (eqb (predicate_kind f.predicate) (predicate_kind g.predicate)) _ a)) (eqb→eq _ _ (T_and_r (eqb (predicate_kind f.predicate) (predicate_kind g.predicate)) _ a)))
    (same_eq f.objects g.objects (T_and_r (eqb (predicate_kind f.predicate) (predicate_kind g.predicate) && eqb (predicate_of f.predicate) (predicate_of g.predicate)) _ t))

pub same_fact_refl : (f : Fact) → T (same_fact f f)
unfolding same_fact
same_fact_refl f = and_T (eqb (predicate_kind f.predicate) (predicate_kind f.predicate) && eqb (predicate_of f.predicate) (predicate_of f.predicate)) _
    (and_T (eqb (predicate_kind f.predicate) (predicate_kind f.predicate)) _ (eqb_refl (predicate_kind f.predicate)) (eqb_refl (predicate_of f.predicate))) (same_refl f.objects)

pub said_mem : (f : Fact) (fs : List Fact) → T (is_said f fs) → Memᴰ f fs
unfolding is_said
said_mem f fs t = let (g, m, e) = any_at (same_fact f) fs t in subst (λ (h : Fact). Memᴰ h fs) (sym (same_fact_eq f g e)) m

pub mem_said : (f : Fact) (fs : List Fact) → Memᴰ f fs → T (is_said f fs)
unfolding is_said
mem_said f fs m = any_of (same_fact f) fs f m (same_fact_refl f)

-- ---- the fact of an atom, and the atom of a fact. (A mark has none of its own: there are none without an `every` line.)
unfoldable pub fact_of : Problem → Atom → Fact
fact_of p guess = record { predicate = guessing; objects = [] }
fact_of p proof = record { predicate = proving; objects = [] }
fact_of p goal = record { predicate = reached; objects = [] }
fact_of p (tuple r row) = record { predicate = related r; objects = places_of p.size (relation_at p r).arity row }
fact_of p (not_tuple r row) = record { predicate = unrelated r; objects = places_of p.size (relation_at p r).arity row }
fact_of p (free_domain r x) = record { predicate = free_first r; objects = x ∷ [] }
fact_of p (free_range r y) = record { predicate = free_second r; objects = y ∷ [] }
fact_of p (holds_node v row) = record { predicate = proved v; objects = places_of p.size (node_places (node_at p v)) row }
fact_of p (marked r row) = record { predicate = reached; objects = [] }

atom_from : Problem → Predicate → List ℕ → Atom
atom_from p guessing xs = guess
atom_from p proving xs = proof
atom_from p reached xs = goal
atom_from p (related r) xs = tuple r (row_of p.size xs)
atom_from p (unrelated r) xs = not_tuple r (row_of p.size xs)
atom_from p (free_first r) xs = free_domain r (get_or xs 0 0)
atom_from p (free_second r) xs = free_range r (get_or xs 0 0)
atom_from p (proved v) xs = holds_node v (row_of p.size xs)

-- a node has as many atoms as its facts have objects
pub node_width_lem : (n : ℕ) (t : Tree) → node_width n t ≡ n ^ node_places t
unfolding node_width node_places rows_of
node_width_lem n t = by_test (is_forall t)
  where
    by_test : (b : Bool) → (if b then n ^ length (free t) * n else n ^ length (free t)) ≡ n ^ (if b then suc (length (free t)) else length (free t))
    by_test true = sym (pow-suc n (length (free t)))
    by_test false = refl

module _ (p : Problem) (element : 0 < p.size) (no_marks : (r row : ℕ) → IsAtom p (marked r row) → ⊥) where
  atom_back : (x : Atom) → IsAtom p x → atom_from p (fact_of p x).predicate (fact_of p x).objects ≡ x
  unfolding fact_of atom_from IsAtom tuples_of
  atom_back guess v = refl
  atom_back proof v = refl
  atom_back goal v = refl
  atom_back (tuple r row) v = ap (tuple r) (row_places p.size (relation_at p r).arity row element v.1)
  atom_back (not_tuple r row) v = ap (not_tuple r) (row_places p.size (relation_at p r).arity row element v.1)
  atom_back (free_domain r x) v = refl
  atom_back (free_range r y) v = refl
  atom_back (holds_node k row) v = ap (holds_node k) (row_places p.size (node_places (node_at p k)) row element (rw (node_width_lem p.size (node_at p k)) at v.1))
  atom_back (marked r row) v = absurd (no_marks r row v)

  pub fact_injective : (x y : Atom) → IsAtom p x → IsAtom p y → fact_of p x ≡ fact_of p y → x ≡ y
  fact_injective x y v w e = sym (atom_back x v) ∙ ap (λ (f : Fact). atom_from p f.predicate f.objects) e ∙ atom_back y w

-- ---- a level's term has the level's value
pub term_value_lem : (ds xs ys : List ℕ) (l : ℕ) → length xs ≡ length ds → term_value (xs ++ ys) (term_at ds l) ≡ values_in ds xs l
unfolding term_at position option term_value values_in
term_value_lem [] xs ys l e = refl
term_value_lem (d ∷ ds) [] ys l e = absurd (omega arith)
term_value_lem (d ∷ ds) (x ∷ xs) ys l e = by_test (eqb l d) (term_value_lem ds xs ys l (omega arith))
  where
    by_position : (o : Option ℕ) → term_value (xs ++ ys) (option o (object zero) parameter) ≡ values_in ds xs l → term_value (x ∷ (xs ++ ys)) (option (option o none (λ i. some (suc i))) (object zero) parameter) ≡ values_in ds xs l
    by_position none h = h
    by_position (some i) h = h

    by_test : (b : Bool) → term_value (xs ++ ys) (term_at ds l) ≡ values_in ds xs l
        → term_value (x ∷ (xs ++ ys)) (option (if b then some zero else option (position (eqb l) ds) none (λ i. some (suc i))) (object zero) parameter) ≡ (if b then x else values_in ds xs l)
    by_test true h = refl
    by_test false h = by_position (position (eqb l) ds) h

pub with_term_lem : (xs : List ℕ) (ε : ℕ → Term) (e : Values) (d : ℕ) (y : Term) → ((l : ℕ) → term_value xs (ε l) ≡ e l) → (l : ℕ) → term_value xs (with_term ε d y l) ≡ with_value e d (term_value xs y) l
unfolding with_term with_value
with_term_lem xs ε e d y h l = by_test (eqb l d)
  where
    by_test : (b : Bool) → term_value xs (if b then y else ε l) ≡ (if b then term_value xs y else e l)
    by_test true = refl
    by_test false = h l

-- ---- a part is said by the fact of its atom
module _ (p : Problem) (G : Good p) (all_elements : (s : ℕ) → p.range s ≡ below p.size) where
  abbrev n : ℕ
  n = p.size

  module _ (xs : List ℕ) (ε : ℕ → Term) (e : Values) (agree : (l : ℕ) → term_value xs (ε l) ≡ e l) (b : Bnd p.size e) where
    values : (ls : List ℕ) → map (term_value xs) (map ε ls) ≡ map e ls
    values ls = map_map (term_value xs) ε ls ∙ map_same (λ l. term_value xs (ε l)) e ls (λ l _. agree l)

    -- the objects of a row made from values
    row_objects : (k : ℕ) (ls : List ℕ) → length ls ≡ k → map (term_value xs) (map ε ls) ≡ places_of n k (row_of n (map e ls))
    row_objects k ls h = values ls ∙ sym (ap (λ (j : ℕ). places_of n j (row_of n (map e ls))) (sym h ∙ sym (length-map ls e)) ∙ places_row n (map e ls) G.element (bnd_map n e ls b))

    places_at : (v : ℕ) (t : Tree) → node_at p v ≡ t → node_places (node_at p v) ≡ node_places t
    places_at v t q = ap node_places q

    row_in_free : (t : Tree) → row_of n (map e (free t)) < n ^ length (free t)
    unfolding rows_of
    row_in_free t = row_in p G t e b

    pub part_same : (v : ℕ) (t : Tree) → Here p v t → said_of xs (part_pattern (n - 1) ε v t) ≡ fact_of p (part_atom n p.range e v t)
    unfolding said_of part_pattern part_atom fact_of Fits IsNode node_places is_forall term_value
    part_same v (leaf true r ls) h = fact_eq _ _ refl (row_objects (relation_at p r).arity ls h.fits.1)
    part_same v (leaf false r ls) h = fact_eq _ _ refl (row_objects (relation_at p r).arity ls h.fits.1)
    part_same v (exists_node d s t) h = fact_eq _ _ refl (row_objects (node_places (node_at p v)) (free (exists_node d s t)) (sym (places_at v _ (node_at_lem p v _ h tt).0)))
    part_same v (and_node ts) h = fact_eq _ _ refl (row_objects (node_places (node_at p v)) (free (and_node ts)) (sym (places_at v _ (node_at_lem p v _ h tt).0)))
    part_same v (or_node ts) h = fact_eq _ _ refl (row_objects (node_places (node_at p v)) (free (or_node ts)) (sym (places_at v _ (node_at_lem p v _ h tt).0)))
    part_same v (forall_node d s t) h =
        let u : Tree = forall_node d s t in
        let g : greatest (p.range s) ≡ n - 1 = ap greatest (all_elements s) ∙ greatest_below n G.element in
        let l : n - 1 < n = let q = G.element in omega arith in
        fact_eq _ _ refl (map-append (term_value xs) (map ε (free u)) (object (n - 1) ∷ [])
        ∙ ap (λ (ys : List ℕ). ys ++ ((n - 1) ∷ [])) (row_objects (length (free u)) (free u) refl)
        ∙ sym (places_snoc n (length (free u)) (row_of n (map e (free u))) (n - 1) G.element (row_in_free u) l)
        ∙ ap₂ (λ (k z : ℕ). places_of n k (row_of n (map e (free u)) * n + z)) (sym (places_at v u (node_at_lem p v u h tt).0)) (sym g))

    -- and so are all parts of an `and` or an `or`
    pub parts_same : (v : ℕ) (ts : Trees) → HereAll p v ts → map (said_of xs) (map (λ (q : Part). part_pattern (n - 1) ε q.node q.tree) (parts_from v ts)) ≡ map (fact_of p) (part_atoms n p.range e (parts_from v ts))
    unfolding parts_from part_atoms
    parts_same v end h = refl
    parts_same v (t then ts) h = ap₂ ◌∷◌ (part_same v t (head_here p v t ts h)) (parts_same (v + length (nodes t)) ts (tail_here p v t ts h))
