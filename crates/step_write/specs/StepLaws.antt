-- Lists of step numbers, piece by piece.
use Prim.Native.Nat.{ℕ, zero, suc, ◌+◌, ◌-◌, ◌≤◌, ◌<◌}
use Rattle.std.specs.Prelude.{◌≡◌, Bool, length, set, take, if◌then◌else◌}
use Rattle.std.proofs.Math.Path.{refl, sym, ap, subst}
use Rattle.std.proofs.Common.{ap₂, ◌∙◌, add-zero, length-append}
use Rattle.std.proofs.Math.Bool.{true, false}
use mathlib.Core.List.{List, [], ◌∷◌, ◌++◌, map, append_assoc, append-nil}
use native.Mathlib.Omega.{arith}
use Rattle.std.proofs.lemmas.List.Edits.{sets}
use Rattle.definitions.specs.Lists.{filter, from}
use Rattle.definitions.specs.Sheet.Relations.{Tuple}
use Rattle.definitions.specs.Problem.Atoms.{Problem, node_at, node_width}
use Rattle.definitions.specs.Problem.Actions.{action_number}
use Rattle.definitions.specs.Problem.Built.{is_true_at, step_for, node_steps}
use Rattle.laws.specs.Lists.{from_append, map_map}
use Rattle.meaning.specs.Means.{Good}
use Rattle.meaning.specs.Planning.{steps_next}
use Rattle.step_write.specs.Steps.{row_numbers, node_numbers, link_numbers, Wrote, PartWrote}

-- ---- writing
pub wrote_none : (b : List ℕ) (at : ℕ) → Wrote b at [] b at
wrote_none b at = (refl, sym (add-zero at))

pub wrote_one : (b b' : List ℕ) (at k : ℕ) → b' ≡ set b at k → Wrote b at (k ∷ []) b' (at + 1)
wrote_one b b' at k e = (e, refl)

sets_append : (b : List ℕ) (at : ℕ) (l m : List ℕ) → sets b at (l ++ m) ≡ sets (sets b at l) (at + length l) m
sets_append b at [] m = ap (λ (i : ℕ). sets b i m) (sym (add-zero at))
sets_append b at (x ∷ l) m = let e : suc at + length l ≡ at + suc (length l) = omega arith in sets_append (set b at x) (suc at) l m ∙ ap (λ (i : ℕ). sets (sets (set b at x) (suc at) l) i m) e

pub wrote_more : (b b₁ b₂ : List ℕ) (at at₁ at₂ : ℕ) (l m : List ℕ) → Wrote b at l b₁ at₁ → Wrote b₁ at₁ m b₂ at₂ → Wrote b at (l ++ m) b₂ at₂
wrote_more b b₁ b₂ at at₁ at₂ l m f g =
    (g.0 ∙ ap₂ (λ (c : List ℕ) (i : ℕ). sets c i m) f.0 f.1 ∙ sym (sets_append b at l m), omega (arith, f.1, g.1, length-append l m))

pub wrote_as : (b b' : List ℕ) (at at' : ℕ) (l m : List ℕ) → l ≡ m → Wrote b at l b' at' → Wrote b at m b' at'
wrote_as b b' at at' l m e f = rw e at f

-- one number, if an atom is true
pub link_yes : (b b' : List ℕ) (at k : ℕ) (t : Bool) → t ≡ true → b' ≡ set b at k → Wrote b at (link_numbers t k) b' (at + 1)
link_yes b b' at k t e q = rw e (wrote_one b b' at k q)

pub link_no : (b : List ℕ) (at k : ℕ) (t : Bool) → t ≡ false → Wrote b at (link_numbers t k) b at
link_no b at k t e = rw e (wrote_none b at)

-- ---- rows
filter_append : (f : ℕ → Bool) (l m : List ℕ) → filter f (l ++ m) ≡ filter f l ++ filter f m
unfolding filter
filter_append f [] m = refl
filter_append f (x ∷ l) m = by_test (f x) (filter_append f l m)
  where
    by_test : (b : Bool) → filter f (l ++ m) ≡ filter f l ++ filter f m → (if b then x ∷ filter f (l ++ m) else filter f (l ++ m)) ≡ (if b then x ∷ filter f l else filter f l) ++ filter f m
    by_test true e = ap (λ (r : List ℕ). x ∷ r) e
    by_test false e = e

map_append : {A : Type 0} (f : A → ℕ) (l m : List A) → map f (l ++ m) ≡ map f l ++ map f m
map_append f [] m = refl
map_append f (x ∷ l) m = ap (λ (r : List ℕ). f x ∷ r) (map_append f l m)

module _ (p : Problem) (F : List Tuple) (v : ℕ) where
  pub rows_append : (l m : List ℕ) → row_numbers p F v (l ++ m) ≡ row_numbers p F v l ++ row_numbers p F v m
  unfolding row_numbers
  rows_append l m = ap (map (λ j. action_number p (step_for p F v (node_at p v) j))) (filter_append (is_true_at p F (node_at p v)) l m) ∙ map_append _ (filter (is_true_at p F (node_at p v)) l) _

  pub row_single : (j k : ℕ) (t : Bool) → t ≡ is_true_at p F (node_at p v) j → (is_true_at p F (node_at p v) j ≡ true → k ≡ action_number p (step_for p F v (node_at p v) j)) → link_numbers t k ≡ row_numbers p F v (j ∷ [])
  unfolding row_numbers filter
  row_single j k t e f = by_test (is_true_at p F (node_at p v) j) refl
    where
      by_test : (b : Bool) → is_true_at p F (node_at p v) j ≡ b → link_numbers t k ≡ map (λ j. action_number p (step_for p F v (node_at p v) j)) (if b then j ∷ [] else [])
      by_test true q = rw (e ∙ q) (ap (λ (i : ℕ). i ∷ []) (f q))
      by_test false q = rw (e ∙ q) refl

  pub rows_none : (start : ℕ) (b : List ℕ) (at : ℕ) → Wrote b at (row_numbers p F v (from start (start - start))) b at
  unfolding row_numbers from filter
  rows_none start b at =
      let e : start - start ≡ 0 = omega arith in
      subst (λ (k : ℕ). Wrote b at (row_numbers p F v (from start k)) b at) (sym e) (wrote_none b at)

  -- rows from `start` on, first those before row j
  pub rows_more : (start j m : ℕ) → start ≤ j → (b b₁ b₂ : List ℕ) (at at₁ at₂ : ℕ) → Wrote b at (row_numbers p F v (from start (j - start))) b₁ at₁ → Wrote b₁ at₁ (row_numbers p F v (from j m)) b₂ at₂ → Wrote b at (row_numbers p F v (from start (j + m - start))) b₂ at₂
  rows_more start j m h b b₁ b₂ at at₁ at₂ f g =
      let i : start + (j - start) ≡ j = omega arith in
      let k : j - start + m ≡ j + m - start = omega arith in
      wrote_as b b₂ at at₂ (row_numbers p F v (from start (j - start)) ++ row_numbers p F v (from j m)) (row_numbers p F v (from start (j + m - start)))
      (ap (λ (i : ℕ). row_numbers p F v (from start (j - start)) ++ row_numbers p F v (from i m)) (sym i) ∙ sym (rows_append (from start (j - start)) (from (start + (j - start)) m)) ∙ ap (row_numbers p F v) (sym (from_append start (j - start) m) ∙ ap (from start) k))
      (wrote_more b b₁ b₂ at at₁ at₂ (row_numbers p F v (from start (j - start))) (row_numbers p F v (from j m)) f g)

  pub rows_all : (start : ℕ) (b b' : List ℕ) (at at' j width : ℕ) → j ≡ width → Wrote b at (row_numbers p F v (from start (j - start))) b' at' → Wrote b at (row_numbers p F v (from start (width - start))) b' at'
  rows_all start b b' at at' j width e W = wrote_as b b' at at' (row_numbers p F v (from start (j - start))) (row_numbers p F v (from start (width - start))) (ap (λ (k : ℕ). row_numbers p F v (from start (k - start))) e) W

  -- all rows of a node
  pub rows_whole : (b b' : List ℕ) (at at' width : ℕ) → Wrote b at (row_numbers p F v (from zero (width - zero))) b' at' → Wrote b at (row_numbers p F v (from zero width)) b' at'
  rows_whole b b' at at' width W = let e : width - 0 ≡ width = omega arith in wrote_as b b' at at' (row_numbers p F v (from zero (width - zero))) (row_numbers p F v (from zero width)) (ap (λ (k : ℕ). row_numbers p F v (from zero k)) e) W

-- ---- nodes, the last first
module _ (p : Problem) (G : Good p) (F : List Tuple) where
  pub nodes_more : (v : ℕ) → v < length p.node_list → (width : ℕ) → width ≡ node_width p.size (node_at p v) → row_numbers p F v (from zero width) ++ node_numbers p F v ≡ node_numbers p F (suc v)
  unfolding row_numbers node_numbers
  nodes_more v h width e =
      ap (λ (k : ℕ). map (λ j. action_number p (step_for p F v (node_at p v) j)) (filter (is_true_at p F (node_at p v)) (from zero k)) ++ map (action_number p) (node_steps p F zero (take v p.node_list))) e
      ∙ ap (λ (l : List ℕ). l ++ map (action_number p) (node_steps p F zero (take v p.node_list))) (sym (map_map (action_number p) (step_for p F v (node_at p v)) (filter (is_true_at p F (node_at p v)) (from zero (node_width p.size (node_at p v))))))
      ∙ sym (map_append (action_number p) (map (step_for p F v (node_at p v)) (filter (is_true_at p F (node_at p v)) (from zero (node_width p.size (node_at p v))))) (node_steps p F zero (take v p.node_list)))
      ∙ ap (map (action_number p)) (sym (steps_next p G F v h))

  pub nodes_none : node_numbers p F 0 ≡ []
  unfolding node_numbers node_steps
  nodes_none = refl

  pub part_none : (past : ℕ) (b : List ℕ) (at : ℕ) → PartWrote p F past past b at b at
  part_none past b at = ([], wrote_none b at, refl)

  pub part_more : (past v : ℕ) → 0 < v → v ≤ length p.node_list → (width : ℕ) → width ≡ node_width p.size (node_at p (v - 1)) → (b b₁ b₂ : List ℕ) (at at₁ at₂ : ℕ) → PartWrote p F past v b at b₁ at₁
      → Wrote b₁ at₁ (row_numbers p F (v - 1) (from zero width)) b₂ at₂ → PartWrote p F past (v - 1) b at b₂ at₂
  part_more past v o h width e b b₁ b₂ at at₁ at₂ (done, W, q) g =
      let d : suc (v - 1) ≡ v = omega arith in
      let rows : List ℕ = row_numbers p F (v - 1) (from zero width) in
      (done ++ rows, wrote_more b b₁ b₂ at at₁ at₂ done rows W g, append_assoc done rows (node_numbers p F (v - 1)) ∙ ap (λ (l : List ℕ). done ++ l) (nodes_more (v - 1) (omega arith) width e ∙ ap (node_numbers p F) d) ∙ q)

  pub part_all : (past v : ℕ) → v ≡ 0 → (b b' : List ℕ) (at at' : ℕ) → PartWrote p F past v b at b' at' → Wrote b at (node_numbers p F past) b' at'
  part_all past v e b b' at at' (done, W, q) = wrote_as b b' at at' done (node_numbers p F past) (sym (append-nil done) ∙ ap (λ (l : List ℕ). done ++ l) (sym (ap (node_numbers p F) e ∙ nodes_none)) ∙ q) W
