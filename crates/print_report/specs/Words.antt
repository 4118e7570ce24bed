-- The words that are written for picks hold them as `Agrees` asks. Assumes nothing.
use Prim.Native.Nat.{ℕ, zero, suc, ◌+◌, ◌-◌, ◌*◌, ◌≤◌, ◌<◌}
use Rattle.std.specs.Prelude.{◌≡◌, Bool, ◌&&◌, ltb}
use Rattle.std.proofs.Math.Path.{refl, ap, ap₂}
use Rattle.std.proofs.Common.{sym, ◌∙◌}
use mathlib.Core.List.{List, [], ◌∷◌, ◌++◌, append_assoc, append-nil}
use native.Mathlib.Omega.{arith}
use Rattle.std.proofs.Math.ListN.{length, length-append}
use Rattle.definitions.specs.Lists.{flat_map, from}
use Rattle.definitions.specs.Sheet.Relations.{Tuple}
use Rattle.definitions.specs.Problem.Atoms.{Problem, relation_at, tuples_of, words_for}
use Rattle.definitions.specs.Problem.Built.{chosen_numbers, is_picked}
use Rattle.definitions.specs.Reply.Outcome.{relation_words, pick_words}
use Rattle.bits.specs.Table.{bit, words}
use Rattle.bits.proofs.Laws.{bit_words, length_words}
use Rattle.laws.specs.Lists.{from_append, from_snoc, flat_append}
use Rattle.laws.specs.Words.{front_bit, back_bit}
use Rattle.read_names.specs.declared.Signature.{Signature}
use Rattle.read_names.specs.Signatures.{all_of}
use Rattle.read_tuples.specs.Marks.{first_word}
use Rattle.meaning.specs.Lent.{words_of}
use Rattle.print_report.specs.Report.{rows_at, word_at}
use Rattle.print_report.specs.Agrees.{Agrees, relation_rows}

-- ---- the bits of tables one after another

module _ (own : ℕ → List ℕ) (b : ℕ) where
  flat_cut : (m j : ℕ) → j < m → flat_map own (from b m) ≡ flat_map own (from b j) ++ (own (b + j) ++ flat_map own (from (suc (b + j)) (m - suc j)))
  unfolding flat_map from
  flat_cut m j h =
      let e : m ≡ j + suc (m - suc j) = omega arith in
      ap (λ (k : ℕ). flat_map own (from b k)) e ∙ ap (flat_map own) (from_append b j (suc (m - suc j))) ∙ flat_append own (from b j) (from (b + j) (suc (m - suc j)))

  flat_bit : (m j i : ℕ) (rest : List ℕ) → j < m → i < 64 * length (own (b + j)) → bit (flat_map own (from b m) ++ rest) (64 * length (flat_map own (from b j)) + i) ≡ bit (own (b + j)) i
  flat_bit m j i rest h l =
      let after : List ℕ = flat_map own (from (suc (b + j)) (m - suc j)) in
      ap (λ (t : List ℕ). bit (t ++ rest) (64 * length (flat_map own (from b j)) + i)) (flat_cut m j h)
      ∙ ap (λ (t : List ℕ). bit t (64 * length (flat_map own (from b j)) + i)) (append_assoc (flat_map own (from b j)) (own (b + j) ++ after) rest)
      ∙ back_bit (flat_map own (from b j)) ((own (b + j) ++ after) ++ rest) (length (flat_map own (from b j))) i refl
      ∙ ap (λ (t : List ℕ). bit t i) (append_assoc (own (b + j)) after rest)
      ∙ front_bit (own (b + j)) (after ++ rest) i l

  flat_length : (j : ℕ) → length (flat_map own (from b (suc j))) ≡ length (flat_map own (from b j)) + length (own (b + j))
  unfolding flat_map
  flat_length j =
      ap (λ (l : List ℕ). length (flat_map own l)) (from_snoc b j) ∙ ap length (flat_append own (from b j) ((b + j) ∷ []))
      ∙ ap (λ (t : List ℕ). length (flat_map own (from b j) ++ t)) (append-nil (own (b + j))) ∙ length-append (flat_map own (from b j)) (own (b + j))

-- ---- the words of picks

module _ (p : Problem) (F : List Tuple) (q : List ℕ) (g : Signature) (n : ℕ) (one : g.every ≤ 1) (s : p.size ≡ n) (e : p.relations ≡ all_of q g) (c : chosen_numbers p ≡ from (5 + g.rels) g.chosen) where
  abbrev row_bit : ℕ → ℕ → Bool
  row_bit r row = ltb row (tuples_of p.size (relation_at p r)) && is_picked p F r row

  abbrev own : ℕ → List ℕ
  own r = words (row_bit r) (relation_words p r)

  its_words : (j : ℕ) → j < g.chosen → relation_words p (5 + g.rels + j) ≡ words_for (rows_at g n (g.rels + j))
  unfolding relation_words
  its_words j h = let z : 5 + g.rels + j ≡ 5 + (g.rels + j) = omega arith in rw z (ap words_for (relation_rows p q g n one s e (g.rels + j) (omega arith)))

  starts : (j : ℕ) → j ≤ g.chosen → length (flat_map own (from (5 + g.rels) j)) ≡ word_at g n j
  unfolding word_at first_word flat_map from rows_at
  starts zero h = refl
  starts (suc j) h =
      flat_length own (5 + g.rels) j
      ∙ ap₂ (λ (x y : ℕ). x + y) (starts j (omega arith)) (length_words (row_bit (5 + g.rels + j)) (relation_words p (5 + g.rels + j)) ∙ its_words j (omega arith))

  pub words_agree : (rest : List ℕ) → Agrees p F q g n (pick_words p F ++ rest)
  words_agree rest = record {
    size = s;
    one = one;
    relations = e;
    chosen = c;
    bits = λ j i h l.
        let z : 5 + g.rels + j ≡ 5 + (g.rels + j) = omega arith in
        let w = its_words j h in
        let k = length_words (row_bit (5 + g.rels + j)) (relation_words p (5 + g.rels + j)) in
        ap (λ (x : ℕ). bit (pick_words p F ++ rest) (64 * x + i)) (sym (starts j (omega arith)))
        ∙ ap (λ (t : List ℕ). bit (t ++ rest) (64 * length (flat_map own (from (5 + g.rels) j)) + i)) (words_of p F ∙ ap (flat_map own) c)
        ∙ flat_bit own (5 + g.rels) g.chosen j i rest h (omega arith)
        ∙ bit_words (row_bit (5 + g.rels + j)) (relation_words p (5 + g.rels + j)) i (omega arith)
        ∙ ap (λ (r : ℕ). row_bit r i) z
        ∙ ap (λ (t : ℕ). ltb i t && is_picked p F (5 + (g.rels + j)) i) (relation_rows p q g n one s e (g.rels + j) (omega arith));
  }
