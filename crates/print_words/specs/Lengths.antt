-- How long what is written can be: no text is longer than numbers reach. Assumes nothing.
use Rattle.std.specs.Prelude.{ℕ, zero, suc, ◌+◌, ◌-◌, ◌*◌, ◌/◌, ◌%◌, ◌≤◌, Bool, true, false, List, [], ◌∷◌, ◌++◌, map, leb, ltb, length, get_or, take, drop, if◌then◌else◌}
use Rattle.std.proofs.Common.{ap, arith, length-append}
use Rattle.definitions.specs.Lists.{flat_map}
use Rattle.definitions.specs.Sheet.Text.{bytes, decimal, decimal_in}
use Rattle.definitions.specs.Sheet.Formula.{write_each}
use Rattle.definitions.specs.Sheet.Relations.{built_in}
use Rattle.definitions.specs.Reply.Page.{spaces}
use Rattle.definitions.specs.Reply.Lifted.{parameter, object}
use Rattle.definitions.specs.Reply.Pddl.{object_word, parameter_word, term_word, indented}
use Rattle.print_page.specs.Elements.{name_in}
use Rattle.print_words.specs.declared.Word.{Word}
use Rattle.print_words.specs.Words.{built_in_name, name_from, shape_word, word_in, word_by, term_by, each, atom_in, atom_parts, line_parts}

pub flat_le : {A : Type 0} (h : A → List ℕ) (b : ℕ) → ((x : A) → length (h x) ≤ b) → (l : List A) → length (flat_map h l) ≤ length l * b
unfolding flat_map
flat_le h b f [] = omega arith
flat_le h b f (x ∷ l) = omega (arith, length-append (h x) (flat_map h l), f x, flat_le h b f l)

pub if_le : (t : List ℕ) (b : ℕ) → length t ≤ b → (d : Bool) → length (if d then t else []) ≤ b
if_le t b h true = h
if_le t b h false = omega arith

digits_le : (f k : ℕ) → length (decimal_in f k) ≤ f
unfolding decimal_in
digits_le zero k = omega arith
digits_le (suc f) k = by_test (leb k 9) (digits_le f (k / 10))
  where
    by_test : (b : Bool) → length (decimal_in f (k / 10)) ≤ f → length (if b then (k + 48) ∷ [] else decimal_in f (k / 10) ++ ((k % 10 + 48) ∷ [])) ≤ suc f
    by_test true h = omega arith
    by_test false h = omega (arith, h, length-append (decimal_in f (k / 10)) ((k % 10 + 48) ∷ []))

decimal_le : (k : ℕ) → length (decimal k) ≤ 20
unfolding decimal
decimal_le k = digits_le 20 k

-- a name is a part of the question
part_le : (k i : ℕ) (q : List ℕ) → length (take k (drop i q)) ≤ length q
part_le zero zero q = omega arith
part_le zero (suc i) q = omega arith
part_le (suc k) zero [] = omega arith
part_le (suc k) zero (x ∷ q) = part_suc k q
  where
    part_suc : (k : ℕ) (q : List ℕ) → suc (length (take k q)) ≤ suc (length q)
    part_suc zero q = omega arith
    part_suc (suc k) [] = omega arith
    part_suc (suc k) (x ∷ q) = omega (arith, part_suc k q)
part_le (suc k) (suc i) [] = omega arith
part_le (suc k) (suc i) (x ∷ q) = omega (arith, part_le (suc k) i q)

built_le : (r : ℕ) → length (built_in_name r) ≤ 4
unfolding built_in_name built_in
built_le zero = omega arith
built_le (suc zero) = omega arith
built_le (suc (suc zero)) = omega arith
built_le (suc (suc (suc zero))) = omega arith
built_le (suc (suc (suc (suc zero)))) = omega arith
built_le (suc (suc (suc (suc (suc r))))) = omega arith

pub name_le : (q ns : List ℕ) (r : ℕ) → length (name_from q ns r) ≤ length q + 4
unfolding name_from name_in
name_le q ns r = by_test (ltb r 5)
  where
    by_test : (b : Bool) → length (if b then built_in_name r else take (get_or ns (3 * r + 1) 0 - get_or ns (3 * r) 0) (drop (get_or ns (3 * r) 0) q)) ≤ length q + 4
    by_test true = omega (arith, built_le r)
    by_test false = omega (arith, part_le (get_or ns (3 * r + 1) 0 - get_or ns (3 * r) 0) (get_or ns (3 * r) 0) q)

shape_le : (s : ℕ) → length (shape_word s) ≤ 6
unfolding shape_word
shape_le zero = omega arith
shape_le (suc zero) = omega arith
shape_le (suc (suc zero)) = omega arith
shape_le (suc (suc (suc k))) = omega arith

pub word_le : (q ns : List ℕ) (w : Word) → length (word_in q ns w) ≤ length q + 40
unfolding word_in word_by
word_le q ns w = by_kind w.kind
  where
    by_kind : (k : ℕ) → length (word_by (name_from q ns) k w.which w.shape) ≤ length q + 40
    by_kind zero = omega (arith, name_le q ns w.which)
    by_kind (suc zero) = omega (arith, name_le q ns w.which)
    by_kind (suc (suc zero)) = omega (arith, name_le q ns w.which, length-append (name_from q ns w.which) (bytes "_dom"))
    by_kind (suc (suc (suc zero))) = omega (arith, name_le q ns w.which, length-append (name_from q ns w.which) (bytes "_ran"))
    by_kind (suc (suc (suc (suc k)))) = omega (arith, shape_le w.shape, decimal_le w.which, length-append (shape_word w.shape) (bytes "_" ++ decimal w.which))

term_le : (k : ℕ) → length (term_word (term_by k)) ≤ 22
unfolding term_by term_word object_word parameter_word
term_le k = by_test (ltb k 8)
  where
    by_test : (b : Bool) → length (term_word (if b then parameter k else object (k - 8))) ≤ 22
    by_test true = omega (arith, decimal_le k)
    by_test false = omega (arith, decimal_le (k - 8))

pub each_le : (ks : List ℕ) → length (each ks) ≤ length ks * 23
unfolding write_each
each_le [] = omega arith
each_le (k ∷ ks) = omega (arith, term_le k, each_le ks, length-append (term_word (term_by k)) (each ks))

pub atom_le : (q ns : List ℕ) (w : Word) (ks : List ℕ) → length (atom_in q ns w ks) ≤ length q + length ks * 23 + 42
atom_le q ns w ks =
    omega (arith, ap length (atom_parts q ns w ks), word_le q ns w, each_le ks, length-append (word_in q ns w) (each ks ++ bytes ")"), length-append (each ks) (bytes ")"))

pub line_le : (q ns : List ℕ) (w : Word) (ks : List ℕ) → length (indented 4 (atom_in q ns w ks)) ≤ length q + length ks * 23 + 47
unfolding spaces
line_le q ns w ks = omega (arith, ap length (line_parts (atom_in q ns w ks)), atom_le q ns w ks, length-append (atom_in q ns w ks) (10 ∷ []))

pub objects_le : (xs : List ℕ) → length (write_each (λ v. v) (map object_word xs)) ≤ length xs * 22
unfolding write_each object_word
objects_le [] = omega arith
objects_le (x ∷ xs) = omega (arith, decimal_le x, objects_le xs, length-append (decimal x) (write_each (λ v. v) (map object_word xs)))
