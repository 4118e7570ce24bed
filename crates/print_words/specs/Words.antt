-- PDDL's words by numbers and by the table of names, and that they are those of a case. Assumes nothing.
use Prim.Native.Nat.{ℕ, zero, suc, ◌+◌, ◌-◌, ◌≤◌, ◌<◌}
use Rattle.std.specs.Prelude.{◌≡◌, List, [], ◌∷◌, ◌++◌, map, ltb, length, get_or, take, drop, set, if◌then◌else◌}
use Rattle.std.proofs.Math.Path.{refl, ap}
use Rattle.std.proofs.Common.{◌∙◌, arith, add-one, lt-ltb, le-ltb}
use Rattle.definitions.specs.Lists.{from, below}
use Rattle.definitions.specs.Sheet.Text.{bytes, decimal}
use Rattle.definitions.specs.Sheet.Formula.{write_each}
use Rattle.definitions.specs.Sheet.Relations.{built_in}
use Rattle.definitions.specs.Sheet.Sheets.{relations_of}
use Rattle.definitions.specs.Problem.Truth.{Case}
use Rattle.definitions.specs.Reply.Lifted
use Rattle.definitions.specs.Reply.Page.{spaces}
use Rattle.definitions.specs.Reply.Pddl
use Lifted.{Term, parameter, object, relation_in}
use Pddl.{term_word, bracketed, indented}
use Rattle.laws.specs.Numbers.{no_relation}
use Rattle.print_line.specs.Lines.{next_byte, no_byte}
use Rattle.print_page.specs.Elements.{Names, name_in}
use Rattle.print_words.specs.declared.Word.{Word}
use Rattle.print_words.specs.declared.Terms.{Terms}

-- ---- terms by number
unfoldable pub term_by : ℕ → Term
term_by k = if ltb k 8 then parameter k else object (k - 8)

abbrev pub codes_of : Terms → List ℕ
codes_of t = take t.count t.at

pub record TermsFit (t : Terms) : Type 0 where
  pub few : t.count ≤ 6
  pub room : length t.at ≡ 6

-- ---- the names of relations: the table has those of the declared ones
unfoldable pub built_in_name : ℕ → List ℕ
built_in_name r = (get_or built_in r no_relation).name

unfoldable pub name_from : (question names : List ℕ) → ℕ → List ℕ
name_from question names r = if ltb r 5 then built_in_name r else name_in question names r

-- ---- predicates, by what relations are called
unfoldable pub shape_word : ℕ → List ℕ
shape_word zero = bytes "forall"
shape_word (suc zero) = bytes "exists"
shape_word (suc (suc zero)) = bytes "and"
shape_word (suc (suc (suc k))) = bytes "or"

unfoldable pub word_by : (ℕ → List ℕ) → (kind which shape : ℕ) → List ℕ
word_by f zero r s = bytes "r_" ++ f r
word_by f (suc zero) r s = bytes "not-r_" ++ f r
word_by f (suc (suc zero)) r s = bytes "free_" ++ (f r ++ bytes "_dom")
word_by f (suc (suc (suc zero))) r s = bytes "free_" ++ (f r ++ bytes "_ran")
word_by f (suc (suc (suc (suc k)))) v s = bytes "holds_" ++ (shape_word s ++ (bytes "_" ++ decimal v))

unfoldable pub word_in : (question names : List ℕ) → Word → List ℕ
word_in question names w = word_by (name_from question names) w.kind w.which w.shape

-- a relation's number is one of the table
unfoldable pub WordFits : Word → Type 0
WordFits w = w.kind < 4 → w.which < 18

-- terms, a space before each
abbrev pub each : List ℕ → List ℕ
each ks = write_each (λ v. v) (map term_word (map term_by ks))

unfoldable pub atom_in : (question names : List ℕ) → Word → (terms : List ℕ) → List ℕ
atom_in question names w ks = bracketed (word_in question names w ∷ map term_word (map term_by ks))

-- ---- laws of numbers
pub term_low : (k : ℕ) → k < 8 → term_by k ≡ parameter k
unfolding term_by
term_low k h = rw (lt-ltb k 8 h) refl

pub term_high : (k : ℕ) → 8 ≤ k → term_by k ≡ object (k - 8)
unfolding term_by
term_high k h = rw (le-ltb k 8 h) refl

pub name_low : (question names : List ℕ) (r : ℕ) → r < 5 → name_from question names r ≡ built_in_name r
unfolding name_from
name_low question names r h = rw (lt-ltb r 5 h) refl

pub name_high : (question names : List ℕ) (r : ℕ) → 5 ≤ r → name_from question names r ≡ name_in question names r
unfolding name_from
name_high question names r h = rw (le-ltb r 5 h) refl

-- each number's own
pub built_last : (r : ℕ) → r < 5 → (r ≡ 0 → ⊥) → (r ≡ 1 → ⊥) → (r ≡ 2 → ⊥) → (r ≡ 3 → ⊥) → built_in_name r ≡ bytes "MAX"
unfolding built_in_name built_in
built_last r h a b c d = let e : r ≡ 4 = omega arith in ap built_in_name e

pub shape_last : (s : ℕ) → (s ≡ 0 → ⊥) → (s ≡ 1 → ⊥) → (s ≡ 2 → ⊥) → shape_word s ≡ bytes "or"
unfolding shape_word
shape_last zero a b c = absurd (a refl)
shape_last (suc zero) a b c = absurd (b refl)
shape_last (suc (suc zero)) a b c = absurd (c refl)
shape_last (suc (suc (suc k))) a b c = refl

module _ (q ns : List ℕ) (w : Word) where
  abbrev by : ℕ → List ℕ
  by k = word_by (name_from q ns) k w.which w.shape

  pub word_related : w.kind ≡ 0 → word_in q ns w ≡ bytes "r_" ++ name_from q ns w.which
  unfolding word_in word_by
  word_related e = ap by e

  pub word_unrelated : w.kind ≡ 1 → word_in q ns w ≡ bytes "not-r_" ++ name_from q ns w.which
  unfolding word_in word_by
  word_unrelated e = ap by e

  pub word_first : w.kind ≡ 2 → word_in q ns w ≡ bytes "free_" ++ (name_from q ns w.which ++ bytes "_dom")
  unfolding word_in word_by
  word_first e = ap by e

  pub word_second : w.kind ≡ 3 → word_in q ns w ≡ bytes "free_" ++ (name_from q ns w.which ++ bytes "_ran")
  unfolding word_in word_by
  word_second e = ap by e

  pub word_proved : (w.kind ≡ 0 → ⊥) → (w.kind ≡ 1 → ⊥) → (w.kind ≡ 2 → ⊥) → (w.kind ≡ 3 → ⊥) → word_in q ns w ≡ bytes "holds_" ++ (shape_word w.shape ++ (bytes "_" ++ decimal w.which))
  unfolding word_in word_by
  word_proved a b c d = last w.kind a b c d
    where
      last : (k : ℕ) → (k ≡ 0 → ⊥) → (k ≡ 1 → ⊥) → (k ≡ 2 → ⊥) → (k ≡ 3 → ⊥) → word_by (name_from q ns) k w.which w.shape ≡ bytes "holds_" ++ (shape_word w.shape ++ (bytes "_" ++ decimal w.which))
      last zero a b c d = absurd (a refl)
      last (suc zero) a b c d = absurd (b refl)
      last (suc (suc zero)) a b c d = absurd (c refl)
      last (suc (suc (suc zero))) a b c d = absurd (d refl)
      last (suc (suc (suc (suc k)))) a b c d = refl

  pub atom_parts : (ks : List ℕ) → atom_in q ns w ks ≡ bytes "(" ++ (word_in q ns w ++ (each ks ++ bytes ")"))
  unfolding atom_in bracketed
  atom_parts ks = refl

pub line_parts : (t : List ℕ) → indented 4 t ≡ spaces 4 ++ (t ++ (10 ∷ []))
unfolding indented
line_parts t = refl

-- ---- terms one by one
pub each_next : (ks : List ℕ) (i : ℕ) → i < length ks → each (drop i ks) ≡ (32 ∷ []) ++ (term_word (term_by (get_or ks i 0)) ++ each (drop (i + 1) ks))
unfolding write_each
each_next ks i h = ap each (next_byte ks i h)

pub each_end : (ks : List ℕ) (i : ℕ) → length ks ≤ i → each (drop i ks) ≡ []
unfolding write_each
each_end ks i h = ap each (no_byte ks i h)

pub first_parameters : (k : ℕ) → k ≤ 6 → take k (0 ∷ 1 ∷ 2 ∷ 3 ∷ 4 ∷ 5 ∷ []) ≡ below k
unfolding below from
first_parameters zero h = refl
first_parameters (suc zero) h = refl
first_parameters (suc (suc zero)) h = refl
first_parameters (suc (suc (suc zero))) h = refl
first_parameters (suc (suc (suc (suc zero)))) h = refl
first_parameters (suc (suc (suc (suc (suc zero))))) h = refl
first_parameters (suc (suc (suc (suc (suc (suc zero)))))) h = refl
first_parameters (suc (suc (suc (suc (suc (suc (suc k))))))) h = absurd (omega arith)

one_suc : (ks : List ℕ) (n k : ℕ) → n < length ks → take (suc n) (set ks n k) ≡ take n ks ++ (k ∷ [])
one_suc [] n k h = absurd (omega arith)
one_suc (x ∷ ks) zero k h = refl
one_suc (x ∷ ks) (suc n) k h = ap (λ (l : List ℕ). x ∷ l) (one_suc ks n k (omega arith))

pub one_more : (ks : List ℕ) (n k : ℕ) → n < length ks → take (n + 1) (set ks n k) ≡ take n ks ++ (k ∷ [])
one_more ks n k h = ap (λ (m : ℕ). take m (set ks n k)) (add-one n) ∙ one_suc ks n k h

-- ---- of a case: the table has the names of its relations
pub record NamesOf (c : Case) (question names : List ℕ) : Type 0 where
  pub fit : Names question names
  pub name : (r : ℕ) → r < length (relations_of c.question) → name_from question names r ≡ (relation_in c r).name
