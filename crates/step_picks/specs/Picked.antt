-- Words that hold picks: what is asked of them, for picks read from a text and for lent words.
use Prim.Native.Nat.{ℕ, zero, suc, ◌+◌, ◌-◌, ◌*◌, ◌≤◌, ◌<◌}
use Rattle.std.specs.Prelude.{◌≡◌, Bool, true, false, ◌&&◌, if◌then◌else◌}
use Rattle.std.proofs.Math.Path.{refl, sym, ap, ap₂, subst, subst₂}
use Rattle.std.proofs.Common.{◌∙◌, zero-add, take-append-drop, length-take-le, lt-ltb}
use Rattle.std.proofs.Math.Option.{none}
use mathlib.Core.List.{List, [], ◌∷◌, ◌++◌, append_assoc}
use Rattle.std.proofs.Math.Nat.{add-zero}
use native.Mathlib.Omega.{arith}
use Rattle.std.proofs.Math.Dec.{T, ltb}
use Rattle.std.proofs.Math.ListN.{length, take, drop, get_or}
use Rattle.bits.specs.Table.{bit, words, Words}
use Rattle.bits.proofs.Laws.{bit_words, length_words, is_words}
use Rattle.definitions.specs.Lists.{filter, flat_map, from, below}
use Rattle.definitions.specs.Refusal.{accepted}
use Rattle.definitions.specs.Sheet.Relations.{Relation, Tuple, is_chosen}
use Rattle.definitions.specs.Sheet.Sheets.{Label, read_picks, first_chosen}
use Rattle.definitions.specs.Problem.Truth.{Case, are_picks}
use Rattle.definitions.specs.Problem.Atoms.{Problem, problem_of, relation_at, tuples_of}
use Rattle.definitions.specs.Problem.Built.{chosen_numbers, is_picked}
use Rattle.definitions.specs.Reply.Outcome.{relation_words, picks_length, pick_words, lent_picks, spare_word, text_picks, as_text, as_numbers}
use Rattle.laws.specs.Booleans.{T_true}
use Rattle.laws.specs.Numbers.{no_relation}
use Rattle.laws.specs.Words.{front_bit, back_bit, words_for_lem}
use Rattle.read_names.specs.Signatures.{relation_in, chosen_of, rels_of}
use Rattle.read_names.proofs.Laws.{length_relations, relation_at_lem}
use Rattle.read_tuples.specs.Marks.{first_word, bit_of, marks, AllValid, Roomy}
use Rattle.read_tuples.proofs.Words as W
use Rattle.laws.specs.Results.{accepted_eq}
use Rattle.laws.specs.Reader.{Accepted}
use Rattle.meaning.specs.Grounded.{first_chosen_lem, good, chosen_at}
use Rattle.laws.specs.Labels.{LabelsFit, no_labels}
use Rattle.meaning.specs.Building.{given_text, given_words, given_picks}
use Rattle.meaning.specs.Lent.{words_take, words_of, words_again, pick_words_lem}
use Rattle.meaning.specs.KindRows.{numbers_are}
use Rattle.step_picks.specs.Words.{word_start, PicksAre}
use Rattle.std.specs.Prelude.{Ok}
use Rattle.read_sheets.specs.Reading.{Picks, GotPicks, PicksRoom}
use Rattle.read_sheets.specs.declared.Opened.{Opened}
use Rattle.read_sheets.specs.Opening.{Holds, elements_are}

-- ---- the words of picks hold them

module _ (p : Problem) (F : List Tuple) where
  abbrev is_one : ℕ → Bool
  is_one r = is_chosen (relation_at p r).kind

  abbrev rows : ℕ → ℕ
  rows r = tuples_of p.size (relation_at p r)

  abbrev own : ℕ → List ℕ
  own r = words (λ row. ltb row (rows r) && is_picked p F r row) (relation_words p r)

  own_row : (r row : ℕ) (rest : List ℕ) → row < rows r → bit (own r ++ rest) row ≡ is_picked p F r row
  unfolding relation_words
  own_row r row rest h =
      let k : row < 64 * relation_words p r = omega (arith, (words_for_lem (rows r)).0) in
      let l = length_words (λ row. ltb row (rows r) && is_picked p F r row) (relation_words p r) in
      front_bit (own r) rest row (omega arith) ∙ bit_words (λ row. ltb row (rows r) && is_picked p F r row) (relation_words p r) row k ∙ ap (λ (b : Bool). b && is_picked p F r row) (lt-ltb row (rows r) h)

  -- a relation's words start after those of the `choose` relations before it
  start_next : (r : ℕ) (b : Bool) → is_one r ≡ b → word_start p (suc r) ≡ word_start p r + (if b then relation_words p r else zero)
  unfolding word_start
  start_next r b e = ap (λ (x : Bool). word_start p r + (if x then relation_words p r else zero)) e

  start_grows : (r j : ℕ) → word_start p r ≤ word_start p (r + j)
  unfolding word_start
  start_grows r zero = rw (add-zero r) (omega arith)
  start_grows r (suc j) = let e : r + suc j ≡ suc (r + j) = omega arith in rw e (omega (arith, start_grows r j))

  rows_from : (m r j row base : ℕ) (rest : List ℕ) → j < m → T (is_one (r + j)) → row < rows (r + j) → word_start p (r + j) ≡ word_start p r + base
      → bit (flat_map own (filter is_one (from r m)) ++ rest) (64 * base + row) ≡ is_picked p F (r + j) row
  unfolding flat_map filter from
  rows_from zero r j row base rest h t l e = absurd (omega arith)
  rows_from (suc m) r zero row base rest h t l e =
      let z : r + 0 ≡ r = add-zero r in
      let i : 64 * base + row ≡ row = let q = ap (word_start p) z in omega arith in
      rw (T_true (is_one r) (subst (λ (x : ℕ). T (is_one x)) z t))
      (ap₂ (λ (w : List ℕ) (x : ℕ). bit w x) (append_assoc (own r) (flat_map own (filter is_one (from (suc r) m))) rest) i
      ∙ own_row r row (flat_map own (filter is_one (from (suc r) m)) ++ rest) (subst (λ (x : ℕ). row < rows x) z l) ∙ ap (λ (x : ℕ). is_picked p F x row) (sym z))
  rows_from (suc m) r (suc j) row base rest h t l e = by_test (is_one r) refl (λ base' q.
      rows_from m (suc r) j row base' rest (omega arith) (subst (λ (x : ℕ). T (is_one x)) next t) (subst (λ (x : ℕ). row < rows x) next l) (sym (ap (word_start p) next) ∙ q) ∙ ap (λ (x : ℕ). is_picked p F x row) (sym next))
    where
      next : r + suc j ≡ suc r + j
      next = omega arith

      by_test : (b : Bool) → is_one r ≡ b
          → ((base' : ℕ) → word_start p (r + suc j) ≡ word_start p (suc r) + base' → bit (flat_map own (filter is_one (from (suc r) m)) ++ rest) (64 * base' + row) ≡ is_picked p F (r + suc j) row)
          → bit (flat_map own (if b then r ∷ filter is_one (from (suc r) m) else filter is_one (from (suc r) m)) ++ rest) (64 * base + row) ≡ is_picked p F (r + suc j) row
      by_test true q later =
          let n = start_next r true q in
          let g = start_grows (suc r) j in
          let g' = ap (word_start p) next in
          let i : 64 * base + row ≡ 64 * relation_words p r + (64 * (base - relation_words p r) + row) = omega arith in
          ap₂ (λ (w : List ℕ) (x : ℕ). bit w x) (append_assoc (own r) (flat_map own (filter is_one (from (suc r) m))) rest) i
          ∙ back_bit (own r) (flat_map own (filter is_one (from (suc r) m)) ++ rest) (relation_words p r) (64 * (base - relation_words p r) + row) (length_words _ (relation_words p r))
          ∙ later (base - relation_words p r) (omega arith)
      by_test false q later = let n = start_next r false q in later base (omega arith)

  -- so words whose front is written for picks hold them
  pub front_picks : (w : List ℕ) → take (picks_length p) w ≡ pick_words p F → PicksAre p w F
  unfolding chosen_numbers below word_start
  front_picks w e r row l t h =
      ap (λ (x : List ℕ). bit x (64 * word_start p r + row)) (sym (take-append-drop (picks_length p) w) ∙ ap (λ (x : List ℕ). x ++ drop (picks_length p) w) (e ∙ words_of p F))
      ∙ rows_from (length p.relations) 0 r row (word_start p r) (drop (picks_length p) w) l (subst (λ (x : ℕ). T (is_one x)) (sym (zero-add r)) t) (subst (λ (x : ℕ). row < rows x) (sym (zero-add r)) h) (ap (word_start p) (zero-add r) ∙ sym (zero-add (word_start p r)))
      ∙ ap (λ (x : ℕ). is_picked p F x row) (zero-add r)

-- a front of words is written for picks if its bits are those of the words that are
take_words : (f : ℕ → Bool) (k : ℕ) (w : List ℕ) → Words w → k ≤ length w → bit w ≡ f → take k w ≡ words f k
take_words f k w ok h e = is_words (take k w) f k (words_take k w ok) (length-take-le k w h) (λ i l.
    sym (ap (λ (x : List ℕ). bit x i) (sym (take-append-drop k w)) ∙ front_bit (take k w) (drop k w) i (let q = length-take-le k w h in omega arith)) ∙ ap (λ (g : ℕ → Bool). g i) e)

-- ---- picks read from a text

module _ (s : List ℕ) (c : Case) (A : Accepted c) (o : Opened) (facts : ℕ → Bool) (h : Holds s c o facts) where
  many_rels : length c.question.rels ≡ o.sig.rels
  unfolding rels_of
  many_rels = ap length h.rels ∙ length_relations s o.sig 0 o.sig.rels

  many_chosen : length c.question.chosen ≡ o.sig.chosen
  unfolding chosen_of
  many_chosen = ap length h.chosen ∙ length_relations s o.sig o.sig.rels o.sig.chosen

  first_is : first_chosen c.question ≡ 5 + o.sig.rels
  first_is = first_chosen_lem c.question ∙ ap (λ (x : ℕ). 5 + x) many_rels

  pub chosen_numbers_lem : chosen_numbers (problem_of c) ≡ from (5 + o.sig.rels) o.sig.chosen
  chosen_numbers_lem = numbers_are c A ∙ ap₂ from first_is many_chosen

  chosen_arity : (i : ℕ) → i < o.sig.chosen → (relation_at (problem_of c) (5 + o.sig.rels + i)).arity ≡ get_or o.sig.arity (o.sig.rels + i) 0
  unfolding chosen_of relation_in
  chosen_arity i l =
      ap (λ (x : ℕ). (relation_at (problem_of c) (x + i)).arity) (sym first_is)
      ∙ ap (λ (k : Relation). k.arity) (chosen_at c A i (omega (arith, many_chosen)) ∙ ap (λ (ks : List Relation). get_or ks i no_relation) h.chosen ∙ relation_at_lem s o.sig o.sig.rels o.sig.chosen i no_relation l)

  abbrev size : o.n ≡ (problem_of c).size
  size = elements_are s c o facts h

  some_elements : 0 < (problem_of c).size
  some_elements = subst (λ (n : ℕ). 0 < n) size h.some_elements

  -- what the code reads is what the definitions read
  pub text_read : (labels : List Label) (text : List ℕ) → read_picks (chosen_of s o.sig) (5 + o.sig.rels) o.n labels text ≡ text_picks c labels (as_text text)
  unfolding text_picks
  text_read labels text =
      ap (λ (ks : List Relation). read_picks ks (5 + o.sig.rels) o.n labels text) (sym h.chosen)
      ∙ ap₂ (λ (a n : ℕ). read_picks c.question.chosen a n labels text) (sym first_is) h.size

  -- the words of the picks of a problem, and that a table with room for the `choose` relations holds them
  length_is : picks_length (problem_of c) ≡ first_word o.sig (problem_of c).size o.sig.rels o.sig.chosen
  unfolding AllValid
  length_is = W.picks_length_lem o.sig o.sig.rels o.sig.chosen (problem_of c) some_elements [] tt chosen_arity chosen_numbers_lem

  pub text_fits : (room : ℕ) → PicksRoom o.sig o.n room → picks_length (problem_of c) ≤ room
  unfolding Roomy
  text_fits room r = subst (λ (k : ℕ). k ≤ room) (sym (length_is ∙ ap (λ (n : ℕ). first_word o.sig n o.sig.rels o.sig.chosen) (sym size))) (r o.sig)

  module _ (labels : List Label) (fit : LabelsFit c.site.size labels) (text : List ℕ) (F : List Tuple) (read : text_picks c labels (as_text text) ≡ accepted F) where
    pub text_are : are_picks c F ≡ true
    unfolding text_picks
    text_are = given_picks c A labels fit (as_text text) F (given_text c labels (problem_of c) text ∙ read)

    module _ (w : List ℕ) (ok : Words w) (room : PicksRoom o.sig o.n (length w)) (k : ℕ) (held : GotPicks o.sig o.n (read_picks (chosen_of s o.sig) (5 + o.sig.rels) o.n labels text) (Ok k) (bit w)) where
      its_picks : Picks o.sig (problem_of c).size F (bit w)
      its_picks =
          let (picks, e, l, p) = held in
          subst₂ (λ (n : ℕ) (ts : List Tuple). Picks o.sig n ts (bit w)) size (accepted_eq picks F (sym e ∙ text_read labels text ∙ read)) p

      -- the words' front is written for the picks read
      pub text_front : take (picks_length (problem_of c)) w ≡ pick_words (problem_of c) F
      unfolding Picks
      text_front =
          ap (λ (k : ℕ). take k w) length_is
          ∙ take_words (marks (bit_of o.sig (problem_of c).size o.sig.rels) F) (first_word o.sig (problem_of c).size o.sig.rels o.sig.chosen) w ok (let e = length_is in let k = text_fits (length w) room in omega arith) its_picks.0
          ∙ W.pick_words_lem o.sig o.sig.rels o.sig.chosen (problem_of c) some_elements F its_picks.1 chosen_arity chosen_numbers_lem

      pub text_picked : PicksAre (problem_of c) w F
      text_picked = front_picks (problem_of c) F w text_front

      -- so they have no spare bit set
      pub text_clear : spare_word (problem_of c) w zero (chosen_numbers (problem_of c)) ≡ none
      text_clear =
          let k : ℕ = picks_length (problem_of c) in
          ap (λ (x : List ℕ). spare_word (problem_of c) x zero (chosen_numbers (problem_of c))) (sym (take-append-drop k w) ∙ ap (λ (x : List ℕ). x ++ drop k w) text_front)
          ∙ (pick_words_lem (problem_of c) F (drop k w)).1

-- ---- lent words

module _ (c : Case) (A : Accepted c) (w : List ℕ) (room : picks_length (problem_of c) ≤ length w) (e : spare_word (problem_of c) w zero (chosen_numbers (problem_of c)) ≡ none) where
  abbrev lent : List Tuple
  lent = lent_picks (problem_of c) w (chosen_numbers (problem_of c))

  pub lent_are : are_picks c lent ≡ true
  lent_are = given_picks c A [] (no_labels _) (as_numbers w) lent (given_words c [] (problem_of c) w room e)

  pub lent_front : Words w → take (picks_length (problem_of c)) w ≡ pick_words (problem_of c) lent
  lent_front ok = sym (words_again (problem_of c) (good c A) w ok room e)

-- words that are long enough and have no spare bit set are written for the picks F
abbrev pub Held : Case → List ℕ → List Tuple → Type 0
Held c words F = picks_length (problem_of c) ≤ length words → spare_word (problem_of c) words zero (chosen_numbers (problem_of c)) ≡ none
    → (are_picks c F ≡ true) × (take (picks_length (problem_of c)) words ≡ pick_words (problem_of c) F)
