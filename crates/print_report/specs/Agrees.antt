-- The `count` and `pick` lines printed from a signature and words are the definitions' lines, where the signature is that of the
-- problem's relations and the words hold the picks. Assumes nothing.
use Prim.Native.Nat.{ℕ, zero, suc, ◌+◌, ◌-◌, ◌*◌, ◌^◌, ◌≤◌, ◌<◌}
use Rattle.std.specs.Prelude.{◌≡◌, Bool, true, false, ◌&&◌, ltb, get_or, if◌then◌else◌}
use Rattle.std.proofs.Math.Path.{refl, sym, ap, ap₂}
use Rattle.std.proofs.Common.{◌∙◌, add-zero, zero-add, add-suc, get_or-append-add, lt-ltb, le-ltb}
use mathlib.Core.List.{List, [], ◌∷◌, ◌++◌}
use native.Mathlib.Omega.{arith}
use Rattle.std.proofs.Math.ListN.{length}
use Rattle.definitions.specs.Lists.{filter, flat_map, from, below}
use Rattle.definitions.specs.Sheet.Text.{bytes, decimal}
use Rattle.definitions.specs.Sheet.Relations.{Relation, Tuple, fixed, built_in}
use Rattle.definitions.specs.Problem.Atoms.{Problem, relation_at, tuples_of, words_for}
use Rattle.definitions.specs.Problem.Built.{chosen_numbers, is_picked, picked_rows}
use Rattle.definitions.specs.Sheet.Sheets.{Label}
use Rattle.definitions.specs.Reply.Desk.{print_line, count_line, said, pick_line}
use Rattle.laws.specs.Lists.{below_snoc}
use Rattle.bits.specs.Table.{bit, num, count}
use Rattle.read_names.specs.declared.Signature.{Signature}
use Rattle.read_names.specs.Signatures.{relation_in, relations_from, all_of}
use Rattle.read_names.proofs.Laws.{all_are, relation_at_lem}
use Rattle.print_line.specs.Lines.{part_is}
use Rattle.print_report.specs.Report.{name_at, rows_at, word_at, count_at, counts, row_line, row_lines, picks_at, picks}

-- two lists of texts, of numbers that run side by side
flat_same : {B : Type 0} (f g : ℕ → List B) (a b m : ℕ) → ((j : ℕ) → j < m → f (a + j) ≡ g (b + j)) → flat_map f (from a m) ≡ flat_map g (from b m)
unfolding from flat_map
flat_same f g a b zero h = refl
flat_same {B} f g a b (suc m) h = ap₂ ◌++◌ (rw (add-zero a, add-zero b) at (h 0 (omega arith))) (flat_same f g (suc a) (suc b) m (λ j l.
    let e : a + suc j ≡ suc a + j = omega arith in
    let d : b + suc j ≡ suc b + j = omega arith in
    rw (e, d) at (h (suc j) (omega arith))))

-- texts of those that pass a test
flat_if : {B : Type 0} (test : ℕ → Bool) (f : ℕ → List B) (l : List ℕ) → flat_map (λ x. if test x then f x else []) l ≡ flat_map f (filter test l)
unfolding flat_map filter
flat_if test f [] = refl
flat_if {B} test f (x ∷ l) = by_test (test x) (flat_if test f l)
  where
    by_test : (b : Bool) → flat_map (λ x. if test x then f x else []) l ≡ flat_map f (filter test l) → (if b then f x else []) ++ flat_map (λ x. if test x then f x else []) l ≡ flat_map f (if b then x ∷ filter test l else filter test l)
    by_test true e = ap (λ (t : List B). f x ++ t) e
    by_test false e = e

-- ---- counted bits are the numbers of those that pass

filter_snoc : (test : ℕ → Bool) (l : List ℕ) (x : ℕ) → length (filter test (l ++ (x ∷ []))) ≡ length (filter test l) + num (test x)
unfolding filter
filter_snoc test [] x = by_test (test x)
  where
    by_test : (b : Bool) → length (if b then x ∷ [] else []) ≡ 0 + num b
    by_test true = refl
    by_test false = refl
filter_snoc test (y ∷ l) x = by_test (test y) (filter_snoc test l x)
  where
    by_test : (b : Bool) → length (filter test (l ++ (x ∷ []))) ≡ length (filter test l) + num (test x) → length (if b then y ∷ filter test (l ++ (x ∷ [])) else filter test (l ++ (x ∷ []))) ≡ length (if b then y ∷ filter test l else filter test l) + num (test x)
    by_test true e = omega arith
    by_test false e = e

module _ (p test : ℕ → Bool) (a : ℕ) where
  count_filter : (k : ℕ) → ((i : ℕ) → i < k → p (a + i) ≡ test i) → count p a k ≡ length (filter test (below k))
  unfolding count filter below from
  count_filter zero h = refl
  count_filter (suc k) h =
      ap₂ (λ (x y : ℕ). x + y) (count_filter k (λ i l. h i (omega arith))) (ap num (h k (omega arith)))
      ∙ sym (ap (λ (l : List ℕ). length (filter test l)) (below_snoc k) ∙ filter_snoc test (below k) k)

  -- bits that are not set count nothing
  count_more : (k m : ℕ) → ((i : ℕ) → k ≤ i → i < k + m → p (a + i) ≡ false) → count p a (k + m) ≡ count p a k
  unfolding count
  count_more k zero h = rw (add-zero k)
  count_more k (suc m) h = rw (add-suc k m, h (k + m) (omega arith) (omega arith)) (add-zero _ ∙ count_more k m (λ i l u. h i l (omega arith)))

  count_set : (k m : ℕ) → k ≤ m → ((i : ℕ) → i < m → p (a + i) ≡ (ltb i k && test i)) → count p a m ≡ length (filter test (below k))
  count_set k m h f =
      let e : k + (m - k) ≡ m = omega arith in
      ap (count p a) (sym e) ∙ count_more k (m - k) (λ i l u. f i (omega arith) ∙ ap (λ (b : Bool). b && test i) (le-ltb i k l))
      ∙ count_filter k (λ i l. f i (omega arith) ∙ ap (λ (b : Bool). b && test i) (lt-ltb i k l))

-- ---- a signature's relations

abbrev pub no_relation : Relation
no_relation = fixed [] zero

relation_is : (p : Problem) (q : List ℕ) (g : Signature) → g.every ≤ 1 → p.relations ≡ all_of q g → (i : ℕ) → i < g.rels + g.chosen → relation_at p (5 + i) ≡ relation_in q g i
unfolding relation_at built_in
relation_is p q g one e i h =
    ap (λ (rs : List Relation). get_or rs (5 + i) no_relation) (e ∙ all_are q g one)
    ∙ get_or-append-add built_in (relations_from q g 0 (g.rels + g.chosen + g.every)) i no_relation
    ∙ relation_at_lem q g 0 (g.rels + g.chosen + g.every) i no_relation (omega arith) ∙ rw (zero-add i)

pub relation_arity : (p : Problem) (q : List ℕ) (g : Signature) → g.every ≤ 1 → p.relations ≡ all_of q g → (i : ℕ) → i < g.rels + g.chosen → (relation_at p (5 + i)).arity ≡ get_or g.arity i 0
unfolding relation_in
relation_arity p q g one e i h = ap (λ (k : Relation). k.arity) (relation_is p q g one e i h)

pub relation_rows : (p : Problem) (q : List ℕ) (g : Signature) (n : ℕ) → g.every ≤ 1 → p.size ≡ n → p.relations ≡ all_of q g → (i : ℕ) → i < g.rels + g.chosen → tuples_of p.size (relation_at p (5 + i)) ≡ rows_at g n i
unfolding tuples_of rows_at
relation_rows p q g n one s e i h = ap₂ (λ (x y : ℕ). x ^ y) s (relation_arity p q g one e i h)

-- ---- the tables of a problem and its picks
pub record Agrees (p : Problem) (F : List Tuple) (q : List ℕ) (g : Signature) (n : ℕ) (words : List ℕ) : Type 0 where
  pub size : p.size ≡ n
  pub one : g.every ≤ 1
  pub relations : p.relations ≡ all_of q g
  pub chosen : chosen_numbers p ≡ from (5 + g.rels) g.chosen
  pub bits : (j i : ℕ) → j < g.chosen → i < 64 * words_for (rows_at g n (g.rels + j)) → bit words (64 * word_at g n j + i) ≡ (ltb i (rows_at g n (g.rels + j)) && is_picked p F (5 + (g.rels + j)) i)

module _ (p : Problem) (F : List Tuple) (q : List ℕ) (g : Signature) (n : ℕ) (words : List ℕ) (A : Agrees p F q g n words) where
  module _ (j : ℕ) (h : j < g.chosen) where
    abbrev r : ℕ
    r = 5 + (g.rels + j)

    its_relation : relation_at p r ≡ relation_in q g (g.rels + j)
    its_relation = relation_is p q g A.one A.relations (g.rels + j) (omega arith)

    pub its_name : (relation_at p r).name ≡ name_at q g (g.rels + j)
    unfolding relation_in name_at
    its_name = ap (λ (k : Relation). k.name) its_relation ∙ part_is (get_or g.from (g.rels + j) 0) (get_or g.to (g.rels + j) 0) q

    pub its_arity : (relation_at p r).arity ≡ get_or g.arity (g.rels + j) 0
    its_arity = relation_arity p q g A.one A.relations (g.rels + j) (omega arith)

    its_rows : tuples_of p.size (relation_at p r) ≡ rows_at g n (g.rels + j)
    its_rows = relation_rows p q g n A.one A.size A.relations (g.rels + j) (omega arith)

    rows_fit : rows_at g n (g.rels + j) ≤ 64 * words_for (rows_at g n (g.rels + j))
    unfolding words_for
    rows_fit = omega arith

    count_agrees : count_at q g n words j ≡ count_line p F r
    unfolding count_at count_line picked_rows
    count_agrees = ap₂ (λ (name : List ℕ) (k : ℕ). print_line (bytes "count" ∷ name ∷ decimal k ∷ [])) (sym its_name)
        (count_set (bit words) (is_picked p F r) (64 * word_at g n j) (rows_at g n (g.rels + j)) (64 * words_for (rows_at g n (g.rels + j))) rows_fit (λ i l. A.bits j i h l)
        ∙ ap (λ (k : ℕ). length (filter (is_picked p F r) (below k))) (sym its_rows))

    row_agrees : (labels : List Label) (row : ℕ) → row < rows_at g n (g.rels + j)
        → row_line (said labels) words (64 * word_at g n j) (name_at q g (g.rels + j)) n (get_or g.arity (g.rels + j) 0) row ≡ (if is_picked p F r row then pick_line labels p r row else [])
    unfolding row_line pick_line
    row_agrees labels row l =
        let b : bit words (64 * word_at g n j + row) ≡ is_picked p F r row = A.bits j row h (let w = rows_fit in omega arith) ∙ ap (λ (b : Bool). b && is_picked p F r row) (lt-ltb row (rows_at g n (g.rels + j)) l) in
        rw (b, its_name, its_arity, A.size)

    picks_agree : (labels : List Label) → picks_at (said labels) q g n words j ≡ flat_map (pick_line labels p r) (picked_rows p F r)
    unfolding picks_at row_lines picked_rows below rows_at
    picks_agree labels =
        flat_same (row_line (said labels) words (64 * word_at g n j) (name_at q g (g.rels + j)) n (get_or g.arity (g.rels + j) 0)) (λ row. if is_picked p F r row then pick_line labels p r row else []) 0 0 (rows_at g n (g.rels + j))
        (λ i l. let z : 0 + i ≡ i = omega arith in rw z (row_agrees labels i l))
        ∙ flat_if (is_picked p F r) (pick_line labels p r) (from 0 (rows_at g n (g.rels + j)))
        ∙ ap (λ (k : ℕ). flat_map (pick_line labels p r) (filter (is_picked p F r) (from 0 k))) (sym its_rows)

  pub counts_agree : counts q g n words ≡ flat_map (count_line p F) (chosen_numbers p)
  unfolding counts below
  counts_agree =
      flat_same (count_at q g n words) (count_line p F) 0 (5 + g.rels) g.chosen
      (λ j l. let z : 0 + j ≡ j = omega arith in let y : 5 + g.rels + j ≡ 5 + (g.rels + j) = omega arith in rw (z, y) (count_agrees j l))
      ∙ ap (flat_map (count_line p F)) (sym A.chosen)

  pub picks_agree_all : (labels : List Label) → picks (said labels) q g n words ≡ flat_map (λ k. flat_map (pick_line labels p k) (picked_rows p F k)) (chosen_numbers p)
  unfolding picks below
  picks_agree_all labels =
      flat_same (picks_at (said labels) q g n words) (λ k. flat_map (pick_line labels p k) (picked_rows p F k)) 0 (5 + g.rels) g.chosen
      (λ j l. let z : 0 + j ≡ j = omega arith in let y : 5 + g.rels + j ≡ 5 + (g.rels + j) = omega arith in rw (z, y) (picks_agree j l labels))
      ∙ ap (flat_map (λ k. flat_map (pick_line labels p k) (picked_rows p F k))) (sym A.chosen)
