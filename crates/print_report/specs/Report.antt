-- The report's `count` and `pick` lines as the code has them: names as spans of the question, picks as bits of words, each `choose`
-- from a new word on; `say` is how an element is printed. Assumes nothing.
use Rattle.std.specs.Prelude.{ℕ, suc, ◌+◌, ◌-◌, ◌*◌, ◌/◌, ◌^◌, ◌≤◌, ◌<◌, ◌≡◌, refl, true, false, List, [], ◌∷◌, ◌++◌, map, length, take, drop, get_or, if◌then◌else◌}
use Rattle.std.proofs.Math.Path.{sym}
use Rattle.std.proofs.Common.{ap, ◌∙◌, add-one, le_trans}
use native.Mathlib.Omega.{arith}
use Rattle.std.proofs.Math.Nat.{pow-le-pow_left, pow-le-pow_right}
use Rattle.definitions.specs.Lists.{flat_map, from, below}
use Rattle.definitions.specs.Sheet.Text.{bytes, decimal}
use Rattle.definitions.specs.Problem.Atoms.{places_of, words_for}
use Rattle.definitions.specs.Reply.Desk.{print_line, sizes_line}
use Rattle.bits.specs.Table.{bit, count}
use Rattle.read_names.specs.declared.Signature.{Signature}
use Rattle.read_names.specs.Signatures.{SoundSignature}
use Rattle.read_tuples.specs.Marks.{first_word}
use Rattle.read_tuples.proofs.Words.{words_most}

-- the name and the number of tuples of relation i of the signature
unfoldable pub name_at : List ℕ → Signature → ℕ → List ℕ
name_at q g i = take (get_or g.to i 0 - get_or g.from i 0) (drop (get_or g.from i 0) q)

unfoldable pub rows_at : Signature → ℕ → ℕ → ℕ
rows_at g n i = n ^ get_or g.arity i 0

-- the first word of `choose` j
unfoldable pub word_at : Signature → ℕ → ℕ → ℕ
word_at g n j = first_word g n g.rels j

-- ---- counts

unfoldable pub count_at : List ℕ → Signature → ℕ → List ℕ → ℕ → List ℕ
count_at q g n words j =
    print_line (bytes "count" ∷ name_at q g (g.rels + j) ∷ decimal (count (bit words) (64 * word_at g n j) (64 * words_for (rows_at g n (g.rels + j)))) ∷ [])

unfoldable pub counts : List ℕ → Signature → ℕ → List ℕ → List ℕ
counts q g n words = flat_map (count_at q g n words) (below g.chosen)

-- ---- picks

-- the line of a row, if its bit is set, where the relation's bits begin with bit `first`
unfoldable pub row_line : (ℕ → List ℕ) → List ℕ → ℕ → List ℕ → ℕ → ℕ → ℕ → List ℕ
row_line say words first name n arity row = if bit words (first + row) then print_line (bytes "pick" ∷ name ∷ map say (places_of n arity row)) else []

unfoldable pub row_lines : (ℕ → List ℕ) → List ℕ → ℕ → List ℕ → ℕ → ℕ → List ℕ
row_lines say words first name n arity = flat_map (row_line say words first name n arity) (below (n ^ arity))

unfoldable pub picks_at : (ℕ → List ℕ) → List ℕ → Signature → ℕ → List ℕ → ℕ → List ℕ
picks_at say q g n words j = row_lines say words (64 * word_at g n j) (name_at q g (g.rels + j)) n (get_or g.arity (g.rels + j) 0)

unfoldable pub picks : (ℕ → List ℕ) → List ℕ → Signature → ℕ → List ℕ → List ℕ
picks say q g n words = flat_map (picks_at say q g n words) (below g.chosen)

-- ---- the report up to its steps

unfoldable pub head_of : (ℕ → List ℕ) → List ℕ → Signature → ℕ → ℕ → ℕ → ℕ → List ℕ → List ℕ
head_of say q g n atoms actions bound words =
    sizes_line (record { elements = n; atom_count = atoms; action_count = actions; step_bound = bound }) ++ (counts q g n words ++ picks say q g n words)

pub head_is : (say : ℕ → List ℕ) (q : List ℕ) (g : Signature) (n atoms actions bound : ℕ) (words : List ℕ) → head_of say q g n atoms actions bound words
    ≡ sizes_line (record { elements = n; atom_count = atoms; action_count = actions; step_bound = bound }) ++ (counts q g n words ++ picks say q g n words)
unfolding head_of
head_is say q g n atoms actions bound words = refl

-- ---- a list of texts one after another, from text i on

unfoldable pub texts_from : (ℕ → List ℕ) → ℕ → ℕ → List ℕ
texts_from f i m = flat_map f (from i (m - i))

first_text : (f : ℕ → List ℕ) (m : ℕ) → flat_map f (below m) ≡ texts_from f 0 m
unfolding texts_from below
first_text f m = let e : m - 0 ≡ m = omega arith in rw e

pub counts_all : (q : List ℕ) (g : Signature) (n : ℕ) (words : List ℕ) → counts q g n words ≡ texts_from (count_at q g n words) 0 g.chosen
unfolding counts
counts_all q g n words = first_text (count_at q g n words) g.chosen

pub picks_all : (say : ℕ → List ℕ) (q : List ℕ) (g : Signature) (n : ℕ) (words : List ℕ) → picks say q g n words ≡ texts_from (picks_at say q g n words) 0 g.chosen
unfolding picks
picks_all say q g n words = first_text (picks_at say q g n words) g.chosen

pub row_lines_lem : (say : ℕ → List ℕ) (words : List ℕ) (first : ℕ) (name : List ℕ) (n k : ℕ) → row_lines say words first name n k ≡ texts_from (row_line say words first name n k) 0 (n ^ k)
unfolding row_lines
row_lines_lem say words first name n k = first_text (row_line say words first name n k) (n ^ k)

pub next_text : (f : ℕ → List ℕ) (i m : ℕ) → i < m → texts_from f i m ≡ f i ++ texts_from f (i + 1) m
unfolding texts_from from flat_map
next_text f i m h = let e : m - i ≡ suc (m - (i + 1)) = omega arith in rw (e, add-one i)

pub no_text : (f : ℕ → List ℕ) (i m : ℕ) → m ≤ i → texts_from f i m ≡ []
unfolding texts_from from flat_map
no_text f i m h = let e : m - i ≡ 0 = omega arith in rw e

-- ---- what the code computes for `choose` j is what its lines say

abbrev arity : Signature → ℕ → ℕ
arity g j = get_or g.arity (g.rels + j) 0

abbrev name : List ℕ → Signature → ℕ → List ℕ
name q g j = take (get_or g.to (g.rels + j) 0 - get_or g.from (g.rels + j) 0) (drop (get_or g.from (g.rels + j) 0) q)

module _ (q : List ℕ) (g : Signature) (n : ℕ) (words : List ℕ) (j first rows : ℕ) (f : first ≡ first_word g n g.rels (g.rels + j - g.rels)) (r : rows ≡ n ^ arity g j) where
  first_is : word_at g n j ≡ first
  unfolding word_at
  first_is = let e : g.rels + j - g.rels ≡ j = omega arith in sym (f ∙ rw e)

  pub count_is : (ones : ℕ) → ones ≡ count (bit words) (64 * first) (64 * ((rows + 63) / 64)) → count_at q g n words j ≡ print_line (bytes "count" ∷ name q g j ∷ decimal ones ∷ [])
  unfolding count_at name_at rows_at words_for
  count_is ones e = rw (first_is, e, r)

  pub picks_is : (say : ℕ → List ℕ) → picks_at say q g n words j ≡ row_lines say words (first * 64) (name q g j) n (arity g j)
  unfolding picks_at name_at
  picks_is say = let e : 64 * first ≡ first * 64 = omega arith in rw (first_is, e)

module _ (say : ℕ → List ℕ) (words : List ℕ) (first : ℕ) (name : List ℕ) (n k row : ℕ) where
  pub row_set : bit words (first + row) ≡ true → row_line say words first name n k row ≡ print_line (bytes "pick" ∷ name ∷ map say (places_of n k row))
  unfolding row_line
  row_set e = rw e

  pub row_clear : bit words (first + row) ≡ false → row_line say words first name n k row ≡ []
  unfolding row_line
  row_clear e = rw e

-- ---- what a sound signature says of `choose` j

module _ (q : List ℕ) (g : Signature) (s : SoundSignature q g) (j : ℕ) (h : j < g.chosen) where
  pub its_arity : arity g j ≤ 3
  its_arity = (s.arities (g.rels + j) (omega arith)).1

  pub its_name : (get_or g.from (g.rels + j) 0 ≤ get_or g.to (g.rels + j) 0) × (get_or g.to (g.rels + j) 0 ≤ length q)
  its_name = s.spans (g.rels + j) (omega arith)

  pub its_index : g.rels + j < 12
  its_index = let a = s.rels_le in let b = s.chosen_le in omega arith

  pub arities_before : (i : ℕ) → i < g.rels + j → get_or g.arity i 0 ≤ 3
  arities_before i l = (s.arities i (omega arith)).1

-- over 16 elements no relation has more than 4,096 tuples, nor more than 64 words
pub power_few : (n k : ℕ) → n ≤ 16 → k ≤ 3 → n ^ k ≤ 4096
power_few n k h l = le_trans (pow-le-pow_left h k) (pow-le-pow_right {n = 16} (omega arith) l)

pub first_few : (q : List ℕ) (g : Signature) → SoundSignature q g → (n j r : ℕ) → n ≤ 16 → j < g.chosen → r ≡ first_word g n g.rels (g.rels + j - g.rels) → r ≤ 64 * j
unfolding words_for
first_few q g s n j r h l e =
    let z : g.rels + j - g.rels ≡ j = omega arith in
    let w = words_most 16 g n g.rels j h (λ i b. s.arities (g.rels + i) (omega arith)) in
    let f : r ≡ first_word g n g.rels j = e ∙ ap (first_word g n g.rels) z in
    omega arith
