-- Sets of numbers as 64-bit words: the definitions' words are the tables of crate `bits`, so all laws of tables hold of them.
use Rattle.std.specs.Prelude.{ℕ, zero, suc, ◌+◌, ◌*◌, ◌/◌, ◌%◌, ◌^◌, ◌<◌, ◌≤◌, ◌≡◌, refl, Bool, true, false, List, ◌∷◌, ◌++◌, map, eqb, length, if◌then◌else◌}
use Rattle.std.proofs.Common.{sym, ap, ap₂, ◌∙◌, arith, add-zero, get_or-append-add}
use Rattle.std.proofs.Math.Path.{fun_ext}
use Rattle.std.proofs.Math.ListN.{get_or-append}
use Rattle.definitions.specs.Lists.{from, below}
use Rattle.definitions.specs.Problem.Atoms.{Problem, atoms, State, words_for, bits_from, state_words}
use Rattle.definitions.specs.Reply.Outcome.{bit_of, state_length}
use Rattle.bits.specs.Table.{digit, bit, num, word, words}
use Rattle.bits.proofs.Laws.{bit_words, length_words}

pub bit_is : (t : List ℕ) (i : ℕ) → bit_of t i ≡ bit t i
unfolding bit_of bit digit
bit_is t i = refl

pub word_is : (s : ℕ → Bool) (i k : ℕ) → bits_from s i k ≡ word (λ j. s (i + j)) k
unfolding bits_from word
word_is s i zero = refl
word_is s i (suc k) =
    let a = word_is s (suc i) k in
    let b : word (λ j. s (suc i + j)) k ≡ word (λ j. s (i + suc j)) k = ap (λ (f : ℕ → Bool). word f k) (fun_ext (λ j. ap s (shift j))) in
    let c : (if s i then 1 else zero) ≡ num (s (i + 0)) = low (s i) ∙ ap (λ (j : ℕ). num (s j)) (sym (add-zero i)) in
    omega arith
  where
    shift : (j : ℕ) → suc i + j ≡ i + suc j
    shift j = omega arith

    low : (b : Bool) → (if b then 1 else zero) ≡ num b
    low true = refl
    low false = refl

words_from : (s : ℕ → Bool) (k a : ℕ) → map (λ j. bits_from s (64 * j) 64) (from a k) ≡ words (λ i. s (64 * a + i)) k
unfolding from words
words_from s zero a = refl
words_from s (suc k) a = ap₂ ◌∷◌ (word_is s (64 * a) 64) (words_from s k (suc a) ∙ ap (λ (f : ℕ → Bool). words f k) (fun_ext (λ i. ap s (next i))))
  where
    next : (i : ℕ) → 64 * suc a + i ≡ 64 * a + (64 + i)
    next i = omega arith

pub words_are : (s : ℕ → Bool) (k : ℕ) → map (λ j. bits_from s (64 * j) 64) (below k) ≡ words s k
unfolding below
words_are s k = words_from s k 0 ∙ ap (λ (f : ℕ → Bool). words f k) (fun_ext (λ i. ap s (first i)))
  where
    first : (i : ℕ) → 64 * 0 + i ≡ i
    first i = omega arith

-- so many words have room for so many bits, and one less has not
pub words_for_lem : (k : ℕ) → (k ≤ 64 * words_for k) × (64 * words_for k < k + 64)
unfolding words_for
words_for_lem k = (omega arith, omega arith)

-- a state's words
pub state_words_lem : (p : Problem) (s : State) → state_words p s ≡ words s (state_length p)
unfolding state_words state_length
state_words_lem p s = words_are s (words_for (atoms p))

pub state_bit : (p : Problem) (s : State) (i : ℕ) → i < 64 * state_length p → bit_of (state_words p s) i ≡ s i
state_bit p s i h = bit_is (state_words p s) i ∙ ap (λ (t : List ℕ). bit t i) (state_words_lem p s) ∙ bit_words s (state_length p) i h

pub state_length_lem : (p : Problem) (s : State) → length (state_words p s) ≡ state_length p
state_length_lem p s = ap length (state_words_lem p s) ∙ length_words s (state_length p)

-- the bits of a table are those of its front, and then those of the rest
pub bit_front : (t u : List ℕ) (i : ℕ) → i < 64 * length t → bit_of (t ++ u) i ≡ bit_of t i
unfolding bit_of
bit_front t u i h = ap (λ (w : ℕ). eqb (w / 2 ^ (i % 64) % 2) 1) (get_or-append t u 0 (i / 64) (omega arith))

pub front_bit : (t u : List ℕ) (i : ℕ) → i < 64 * length t → bit (t ++ u) i ≡ bit t i
front_bit t u i h = sym (bit_is (t ++ u) i) ∙ bit_front t u i h ∙ bit_is t i

pub back_bit : (t u : List ℕ) (k i : ℕ) → length t ≡ k → bit (t ++ u) (64 * k + i) ≡ bit u i
unfolding bit
back_bit t u k i e =
    let q : (64 * k + i) / 64 ≡ length t + i / 64 = omega arith in
    let d : (64 * k + i) % 64 ≡ i % 64 = omega arith in
    rw (q, d) (ap (λ (w : ℕ). digit w (i % 64)) (get_or-append-add t u (i / 64) 0))
