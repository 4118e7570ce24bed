-- Copying by the lines of a table: a line's words one by one, the lines one by one, and that all of them are the words of the picks.
use Prim.Native.Nat.{ℕ, zero, suc, ◌+◌, ◌-◌, ◌*◌, ◌/◌, ◌≤◌, ◌<◌}
use Rattle.std.specs.Prelude.{◌≡◌, Bool, T, length, set, if◌then◌else◌}
use Rattle.std.proofs.Math.Path.{refl, sym, ap, ap₂, fun_ext}
use Rattle.std.proofs.Common.{subst, ◌∙◌, add-zero, ltb-true, ltb-false, lt-ltb, le-ltb}
use Rattle.std.proofs.Math.Bool.{true, false, ◌&&◌}
use mathlib.Core.List.{List, [], ◌∷◌, ◌++◌, map}
use Rattle.std.proofs.Math.Nat.{zero-add}
use native.Mathlib.Omega.{arith}
use Rattle.std.proofs.Math.Dec.{ltb}
use Rattle.std.proofs.Math.ListN.{drop, length-append}
use Rattle.std.proofs.Math.Seq.{sets, sets-eq}
use Rattle.definitions.specs.Lists.{filter, flat_map, from, below, sum}
use Rattle.definitions.specs.Refusal.{Result, accepted}
use Rattle.definitions.specs.Sheet.Relations.{is_chosen}
use Rattle.definitions.specs.Problem.Atoms.{Problem, State, relation_at, tuples_of, relation_start, tuple_start, atoms, words_for, state_words}
use Rattle.definitions.specs.Problem.Strips.{run, picks_of}
use Rattle.definitions.specs.Problem.Built.{chosen_numbers}
use Rattle.definitions.specs.Reply.Outcome.{relation_words, picks_length, pick_words, written, state_length}
use Rattle.bits.specs.Table.{bit, word, words}
use Rattle.bits.proofs.Laws.{length_words}
use Rattle.laws.specs.Booleans.{T_of, T_false}
use Rattle.laws.specs.Numbers.{chosen_early, early_start, tuple_below}
use Rattle.laws.specs.Words.{words_are, words_for_lem, bit_is, state_bit}
use Rattle.meaning.specs.HeldTuples.{are_taken, words_left}
use Rattle.meaning.specs.Means.{Good}
use Rattle.problem_table.specs.Lines.{relations_in, relation_line}
use Rattle.problem_table.specs.Of.{Is}
use Rattle.problem_table.specs.declared.RelationLine.{RelationLine}
use Rattle.step_picks.specs.Words.{is_open, words_in}
use Rattle.step_picks.specs.WordLaws.{is_open_lem, tuples_are}
use Rattle.step_picks.specs.Copies.{row_holds, line_words, words_from, count_from, picks_in, Copied}

-- ---- stores
sets_append : (a b l : List ℕ) (i : ℕ) → sets l i (a ++ b) ≡ sets (sets l i a) (i + length a) b
sets_append [] b l i = ap (λ (k : ℕ). sets l k b) (sym (add-zero i))
sets_append (x ∷ a) b l i = let e : suc i + length a ≡ i + suc (length a) = omega arith in sets_append a b (set l i x) (suc i) ∙ ap (λ (k : ℕ). sets (sets (set l i x) (suc i) a) k b) e

-- ---- the words of a line, one by one
module _ (s : ℕ → Bool) (x : RelationLine) where
  -- those from word j on
  unfoldable pub words_past : ℕ → ℕ → List ℕ
  words_past j k = words (λ i. row_holds s x (64 * j + i)) k

  pub line_start : (count at : ℕ) (old : List ℕ) → count ≡ words_in x → sets old at (line_words s x) ≡ sets old (at + 0) (words_past 0 (count - 0))
  unfolding line_words words_past
  line_start count at old e =
      let k : words_in x ≡ count - 0 = omega arith in
      let m : at ≡ at + 0 = omega arith in
      ap₂ (λ (a b : ℕ). sets old a (words (row_holds s x) b)) m k
      ∙ ap (λ (f : ℕ → Bool). sets old (at + 0) (words f (count - 0))) (fun_ext (λ i. ap (row_holds s x) (first i)))
    where
      first : (i : ℕ) → i ≡ 64 * 0 + i
      first i = omega arith

  pub line_end : (count at j : ℕ) (now : List ℕ) → count ≤ j → sets now (at + j) (words_past j (count - j)) ≡ now
  unfolding words_past words
  line_end count at j now h = let z : count - j ≡ 0 = omega arith in rw z

  -- words are left while tuples are
  pub line_tuples : (count tuples j : ℕ) → count ≡ words_in x → tuples ≡ x.nots - x.tuples → j < count → 64 * j < tuples
  unfolding words_in words_for
  line_tuples count tuples j e t h = by_test (is_open x.kind) refl
    where
      by_test : (b : Bool) → is_open x.kind ≡ b → 64 * j < tuples
      by_test true q = let z : count ≡ (x.nots - x.tuples + 63) / 64 = rw q at e in omega arith
      by_test false q = let z : count ≡ 0 = rw q at e in absurd (omega arith)

  -- word j is cut from the state
  own_word : (tuples j : ℕ) → tuples ≡ x.nots - x.tuples → 64 * j < tuples
      → ◌≡◌ {A = ℕ → Bool} (λ k. ltb k (tuples - 64 * j) && s (x.tuples + 64 * j + k)) (λ i. row_holds s x (64 * j + i))
  unfolding row_holds
  own_word tuples j e h = fun_ext (λ k. ap₂ ◌&&◌ (same k (ltb k (tuples - 64 * j)) refl ∙ ap (ltb (64 * j + k)) e) (ap s (place k)))
    where
      place : (k : ℕ) → x.tuples + 64 * j + k ≡ x.tuples + (64 * j + k)
      place k = omega arith

      same : (k : ℕ) (b : Bool) → ltb k (tuples - 64 * j) ≡ b → ltb k (tuples - 64 * j) ≡ ltb (64 * j + k) tuples
      same k true q = q ∙ sym (lt-ltb (64 * j + k) tuples (let l = ltb-true k (tuples - 64 * j) q in omega arith))
      same k false q = q ∙ sym (le-ltb (64 * j + k) tuples (let l = ltb-false k (tuples - 64 * j) q in omega arith))

  pub line_next : (count tuples at j v : ℕ) (now : List ℕ) → tuples ≡ x.nots - x.tuples → 64 * j < tuples → j < count
      → v ≡ word (λ k. ltb k (tuples - 64 * j) && s (x.tuples + 64 * j + k)) 64
      → sets now (at + j) (words_past j (count - j)) ≡ sets (set now (at + j) v) (at + (j + 1)) (words_past (j + 1) (count - (j + 1)))
  unfolding words_past words
  line_next count tuples at j v now e h l q =
      let m : count - j ≡ suc (count - (j + 1)) = omega arith in
      let a : suc (at + j) ≡ at + (j + 1) = omega arith in
      let w : v ≡ word (λ i. row_holds s x (64 * j + i)) 64 = q ∙ ap (λ (f : ℕ → Bool). word f 64) (own_word tuples j e h) in
      ap (λ (k : ℕ). sets now (at + j) (words (λ i. row_holds s x (64 * j + i)) k)) m
      ∙ ap₂ (λ (y k : ℕ). sets (set now (at + j) y) k (words (λ i. row_holds s x (64 * j + (64 + i))) (count - (j + 1)))) (sym w) a
      ∙ ap (λ (f : ℕ → Bool). sets (set now (at + j) v) (at + (j + 1)) (words f (count - (j + 1)))) (fun_ext (λ i. ap (row_holds s x) (next i)))
    where
      next : (i : ℕ) → 64 * j + (64 + i) ≡ 64 * (j + 1) + i
      next i = omega arith

-- ---- the lines, one by one

length_line : (s : ℕ → Bool) (x : RelationLine) → length (line_words s x) ≡ words_in x
unfolding line_words
length_line s x = length_words (row_holds s x) (words_in x)

module _ (w : List ℕ) where
  pub count_start : 0 + count_from w 0 (relations_in w - 0) ≡ picks_in w
  unfolding picks_in
  count_start = let m : relations_in w - 0 ≡ relations_in w = omega arith in zero-add (count_from w 0 (relations_in w - 0)) ∙ ap (count_from w 0) m

  pub count_next : (r k at : ℕ) (x : RelationLine) → x ≡ relation_line w r → r < k → at + count_from w r (k - r) ≡ (at + words_in x) + count_from w (r + 1) (k - (r + 1))
  unfolding count_from
  count_next r k at x e h =
      let m : k - r ≡ suc (k - (r + 1)) = omega arith in
      let n : suc r ≡ r + 1 = omega arith in
      let a = ap (λ (i : ℕ). count_from w r i) m in
      let b = ap (λ (i : ℕ). count_from w i (k - (r + 1))) n in
      let c = ap words_in e in
      omega arith

  pub count_end : (r k at : ℕ) → k ≤ r → at + count_from w r (k - r) ≡ at
  unfolding count_from
  count_end r k at h = let m : k - r ≡ 0 = omega arith in rw m (add-zero at)

  module _ (s : ℕ → Bool) where
    length_from : (r k : ℕ) → length (words_from s w r k) ≡ count_from w r k
    unfolding words_from count_from
    length_from r zero = refl
    length_from r (suc k) = length-append (line_words s (relation_line w r)) (words_from s w (suc r) k) ∙ ap₂ ◌+◌ (length_line s (relation_line w r)) (length_from (suc r) k)

    pub copy_start : (old : List ℕ) (k : ℕ) → sets old 0 (words_from s w 0 k) ≡ sets old 0 (words_from s w 0 (k - 0))
    copy_start old k = let m : k ≡ k - 0 = omega arith in ap (λ (i : ℕ). sets old 0 (words_from s w 0 i)) m

    pub copy_next : (r k at count : ℕ) (x : RelationLine) (now new : List ℕ) → x ≡ relation_line w r → r < k → new ≡ sets now at (line_words s x) → count ≡ words_in x
        → sets now at (words_from s w r (k - r)) ≡ sets new (at + count) (words_from s w (r + 1) (k - (r + 1)))
    unfolding words_from
    copy_next r k at count x now new e h q c =
        let m : k - r ≡ suc (k - (r + 1)) = omega arith in
        let n : suc r ≡ r + 1 = omega arith in
        ap (λ (i : ℕ). sets now at (words_from s w r i)) m
        ∙ ap₂ (λ (y : RelationLine) (i : ℕ). sets now at (line_words s y ++ words_from s w i (k - (r + 1)))) (sym e) n
        ∙ sets_append (line_words s x) (words_from s w (r + 1) (k - (r + 1))) now at
        ∙ ap₂ (λ (l : List ℕ) (i : ℕ). sets l (at + i) (words_from s w (r + 1) (k - (r + 1)))) (sym q) (length_line s x ∙ sym c)

    pub copy_end : (r k at : ℕ) (now : List ℕ) → k ≤ r → sets now at (words_from s w r (k - r)) ≡ now
    unfolding words_from
    copy_end r k at now h = let m : k - r ≡ 0 = omega arith in rw m

    -- so all words stand at the front
    all_copied : (old : List ℕ) → picks_in w ≤ length old → sets old 0 (words_from s w 0 (relations_in w)) ≡ written (words_from s w 0 (relations_in w)) old
    unfolding picks_in written
    all_copied old h =
        let l = length_from 0 (relations_in w) in
        sets-eq (words_from s w 0 (relations_in w)) old 0 (omega arith)
        ∙ ap (λ (k : ℕ). words_from s w 0 (relations_in w) ++ drop k old) (zero-add (length (words_from s w 0 (relations_in w))))

-- ---- the lines of a problem's table
module _ (p : Problem) (w : List ℕ) (is : Is p w) where
  abbrev chosen : ℕ → Bool
  chosen r = is_chosen (relation_at p r).kind

  -- a line's words count if the relation is a `choose`
  line_count : (r : ℕ) → r < length p.relations → words_in (relation_line w r) ≡ (if chosen r then relation_words p r else zero)
  unfolding words_in relation_words
  line_count r l = rw (is_open_lem p w is r l (relation_line w r) refl, tuples_are p w is r l (relation_line w r) refl _ refl) refl

  counts_are : (k r : ℕ) → r + k ≤ length p.relations → count_from w r k ≡ sum (map (relation_words p) (filter chosen (from r k)))
  unfolding count_from sum filter from
  counts_are zero r l = refl
  counts_are (suc k) r l = ap₂ ◌+◌ (line_count r (omega arith)) (counts_are k (suc r) (omega arith)) ∙ by_test (chosen r)
    where
      by_test : (b : Bool) → (if b then relation_words p r else zero) + sum (map (relation_words p) (filter chosen (from (suc r) k))) ≡ sum (map (relation_words p) (if b then r ∷ filter chosen (from (suc r) k) else filter chosen (from (suc r) k)))
      by_test true = refl
      by_test false = zero-add (sum (map (relation_words p) (filter chosen (from (suc r) k))))

  pub picks_in_lem : picks_in w ≡ picks_length p
  unfolding picks_in picks_length chosen_numbers below
  picks_in_lem = ap (count_from w 0) is.relations ∙ counts_are (length p.relations) 0 (omega arith)

  module _ (state : List ℕ) (s : State) (e : state ≡ state_words p s) where
    state_at : (i : ℕ) → i < atoms p → bit state i ≡ s i
    unfolding state_length
    state_at i h = let k = (words_for_lem (atoms p)).0 in ap (λ (t : List ℕ). bit t i) e ∙ sym (bit_is (state_words p s) i) ∙ state_bit p s i (omega arith)

    abbrev row_of : ℕ → ℕ → Bool
    row_of r row = ltb row (tuples_of p.size (relation_at p r)) && s (relation_start p r + row)

    start_is : (r : ℕ) → chosen r ≡ true → tuple_start p r ≡ relation_start p r
    start_is r c = early_start p r (T_false _ (chosen_early (relation_at p r).kind (T_of c)))

    row_is : (r : ℕ) → r < length p.relations → chosen r ≡ true → (row : ℕ) → row_holds (bit state) (relation_line w r) row ≡ row_of r row
    unfolding row_holds
    row_is r l c row =
        ap₂ (λ (m a : ℕ). ltb row m && bit state (a + row)) (tuples_are p w is r l (relation_line w r) refl _ refl) ((is.relation r l).tuples ∙ start_is r c)
        ∙ by_test (ltb row (tuples_of p.size (relation_at p r))) refl
      where
        by_test : (b : Bool) → ltb row (tuples_of p.size (relation_at p r)) ≡ b → (b && bit state (relation_start p r + row)) ≡ (b && s (relation_start p r + row))
        by_test true q = state_at (relation_start p r + row) (subst (λ (x : ℕ). x + row < atoms p) (start_is r c) (tuple_below p r row l (ltb-true row (tuples_of p.size (relation_at p r)) q)))
        by_test false q = refl

    line_words_lem : (r : ℕ) → r < length p.relations → line_words (bit state) (relation_line w r) ≡ (if chosen r then words (row_of r) (relation_words p r) else [])
    unfolding line_words words
    line_words_lem r l = by_test (chosen r) refl
      where
        count : (b : Bool) → chosen r ≡ b → words_in (relation_line w r) ≡ (if b then relation_words p r else zero)
        count b c = line_count r l ∙ ap (λ (b : Bool). if b then relation_words p r else zero) c

        by_test : (b : Bool) → chosen r ≡ b → words (row_holds (bit state) (relation_line w r)) (words_in (relation_line w r)) ≡ (if b then words (row_of r) (relation_words p r) else [])
        by_test true c = ap₂ words (fun_ext (row_is r l c)) (count true c)
        by_test false c = ap (words (row_holds (bit state) (relation_line w r))) (count false c)

    lines_are : (k r : ℕ) → r + k ≤ length p.relations → words_from (bit state) w r k ≡ flat_map (λ r. words (row_of r) (relation_words p r)) (filter chosen (from r k))
    unfolding words_from flat_map filter from
    lines_are zero r l = refl
    lines_are (suc k) r l = ap₂ ◌++◌ (line_words_lem r (omega arith)) (lines_are k (suc r) (omega arith)) ∙ by_test (chosen r)
      where
        by_test : (b : Bool) → (if b then words (row_of r) (relation_words p r) else [])
            ++ flat_map (λ r. words (row_of r) (relation_words p r)) (filter chosen (from (suc r) k))
            ≡ flat_map (λ r. words (row_of r) (relation_words p r)) (if b then r ∷ filter chosen (from (suc r) k) else filter chosen (from (suc r) k))
        by_test true = refl
        by_test false = refl

    all_lines : words_from (bit state) w 0 (relations_in w) ≡ flat_map (λ r. words (row_of r) (relation_words p r)) (chosen_numbers p)
    unfolding chosen_numbers below
    all_lines = ap (words_from (bit state) w 0) is.relations ∙ lines_are (length p.relations) 0 (omega arith)

-- the words of a state that steps leave are those of the picks read from them
pub copied : (w state old new : List ℕ) → picks_in w ≤ length old → new ≡ sets old 0 (words_from (bit state) w 0 (relations_in w)) → Copied w state old new
unfolding Copied
copied w state old new h e p ks is G t q =
    let a = words_left p G ks t in
    let b = all_lines p w is state (run p ks).state q in
    e ∙ all_copied w (bit state) old h ∙ ap (λ (l : List ℕ). written l old) (b ∙ sym (simp words_are at a))

-- steps that reached the goal were all taken
pub copied_done : (w state old new ks : List ℕ) (count : ℕ) (p : Problem) → Copied w state old new → Is p w → Good p → accepted count ≡ (run p ks).answer → state ≡ state_words p (run p ks).state
    → new ≡ written (pick_words p (picks_of p ks)) old
unfolding Copied are_taken
copied_done w state old new ks count p copy is G answer left = copy p ks is G (subst (λ (a : Result ℕ). T (are_taken a)) answer tt) left
