-- Lines and pages of steps: every line has 72 columns and a page 4,380 bytes, no unit is cut or lost, and the pages together are all lines in order.
use Rattle.std.specs.Prelude.{ℕ, zero, suc, ◌+◌, ◌-◌, ◌*◌, ◌/◌, ◌^◌, ◌≤◌, ◌<◌, ◌≡◌, Bool, true, false, leb, take, drop, replicate, if◌then◌else◌}
use Rattle.std.proofs.Math.Path.{refl, ap}
use Rattle.std.proofs.Common.{sym, ap₂, subst, ◌∙◌, length-take, drop-drop, take-add, take_all, leb-true}
use Rattle.std.proofs.Math.Logic.{⊎_elim}
use Rattle.std.proofs.Math.Option.{Option, none, some}
use mathlib.Core.List.Memᴰ
use mathlib.Core.List.{List, [], ◌∷◌, ◌++◌, map, append_assoc, append-nil, Memᴰ}
use native.Mathlib.Omega.{arith}
use Rattle.std.proofs.Math.ListN.{length, length-append}
use Rattle.std.proofs.lemmas.List.{length-replicate, length-map}
use Rattle.std.proofs.Math.Seq.{drop-append-add, drop-nil, take-append-add, take-nil}
use Rattle.definitions.specs.Lists.{option, flat_map, map_from, from, below}
use Rattle.definitions.specs.Sheet.Text.{decimal}
use Rattle.definitions.specs.Sheet.Sheets.{Label}
use Rattle.definitions.specs.Problem.Atoms.{Problem}
use Rattle.definitions.specs.Problem.Actions.{Action, set, begin_proof, prove_and, prove_or, prove_exists, prove_forall, prove_goal, round_end, mark_in, mark_out, action_at}
use Rattle.definitions.specs.Reply.Desk.{said}
use Rattle.definitions.specs.Reply.Page
use Rattle.laws.specs.Decimals.{decimal_length}
use Rattle.laws.specs.Lists.{drop_mem, flat_append, map_mem, take_mem}
use Page.{spaces, left, right, kind_word, subject_word, shown_elements, part_word, units, packed, step_head, headed, step_lines, lines_of, blank_line, ended_line, pages, page_lines, page_text}

-- ---- columns
pub spaces_length : (k : ℕ) → length (spaces k) ≡ k
unfolding spaces
spaces_length k = length-replicate k 32

pub left_length : (k : ℕ) (text : List ℕ) → length text ≤ k → length (left k text) ≡ k
unfolding left
left_length k text h = rw (length-append text (spaces (k - length text)), spaces_length (k - length text)) (omega arith)

pub right_length : (k : ℕ) (text : List ℕ) → length text ≤ k → length (right k text) ≡ k
unfolding right
right_length k text h = rw (length-append (spaces (k - length text)) text, spaces_length (k - length text)) (omega arith)

-- every text of a list has a property
abbrev pub Each : (List ℕ → Type 0) → List (List ℕ) → Type 0
Each P ls = (x : List ℕ) → Memᴰ x ls → P x

-- ---- units: none is cut, and none is lost. The lines are those of groups of whole units, and all groups together are the units.
abbrev pub joined : List (List ℕ) → List ℕ
joined ls = flat_map (λ (x : List ℕ). x) ls

pub packed_groups : (line : List ℕ) (us : List (List ℕ)) → (g : List (List ℕ)) × (gs : List (List (List ℕ))) × (packed line us ≡ (line ++ joined g) ∷ map joined gs) × (us ≡ g ++ flat_map (λ (x : List (List ℕ)). x) gs)
unfolding packed flat_map
packed_groups line [] = ([], [], ap (λ (x : List ℕ). x ∷ []) (sym (append-nil line)), refl)
packed_groups line (u ∷ us) = by_test (leb (length line + length u) 30) (packed_groups (line ++ u) us) (packed_groups u us)
  where
    by_test : (b : Bool)
        → (g : List (List ℕ)) × (gs : List (List (List ℕ))) × (packed (line ++ u) us ≡ ((line ++ u) ++ joined g) ∷ map joined gs) × (us ≡ g ++ flat_map (λ (x : List (List ℕ)). x) gs)
        → (g : List (List ℕ)) × (gs : List (List (List ℕ))) × (packed u us ≡ (u ++ joined g) ∷ map joined gs) × (us ≡ g ++ flat_map (λ (x : List (List ℕ)). x) gs)
        → (g : List (List ℕ)) × (gs : List (List (List ℕ))) × ((if b then packed (line ++ u) us else line ∷ packed u us) ≡ (line ++ joined g) ∷ map joined gs) × (u ∷ us ≡ g ++ flat_map (λ (x : List (List ℕ)). x) gs)
    by_test true (g, gs, e, f) _ = (u ∷ g, gs, e ∙ ap (λ (x : List ℕ). x ∷ map joined gs) (append_assoc line u (joined g)), ap (λ (x : List (List ℕ)). u ∷ x) f)
    by_test false _ (g, gs, e, f) = ([], (u ∷ g) ∷ gs, ap₂ (λ (x : List ℕ) (y : List (List ℕ)). x ∷ y) (sym (append-nil line)) e, ap (λ (x : List (List ℕ)). u ∷ x) f)

-- so what the lines hold, one after another, is what the units hold
pub packed_joined : (line : List ℕ) (us : List (List ℕ)) → joined (packed line us) ≡ line ++ joined us
unfolding packed flat_map
packed_joined line [] = refl
packed_joined line (u ∷ us) = by_test (leb (length line + length u) 30) (packed_joined (line ++ u) us) (packed_joined u us)
  where
    by_test : (b : Bool) → joined (packed (line ++ u) us) ≡ (line ++ u) ++ joined us → joined (packed u us) ≡ u ++ joined us → joined (if b then packed (line ++ u) us else line ∷ packed u us) ≡ line ++ (u ++ joined us)
    by_test true e _ = e ∙ append_assoc line u (joined us)
    by_test false _ e = ap (λ (x : List ℕ). line ++ x) e

-- units that fit in 30 columns are put on lines that fit
pub packed_short : (line : List ℕ) (us : List (List ℕ)) → length line ≤ 30 → Each (λ u. length u ≤ 30) us → Each (λ x. length x ≤ 30) (packed line us)
unfolding packed
packed_short line [] h s x m = subst (λ (y : List ℕ). length y ≤ 30) (sym (Memᴰ.eq_of_singleton m)) h
packed_short line (u ∷ us) h s x m = by_test (leb (length line + length u) 30) refl (λ l. packed_short (line ++ u) us l (λ v i. s v (Memᴰ.tail i))) (packed_short u us (s u (Memᴰ.head refl)) (λ v i. s v (Memᴰ.tail i))) m
  where
    by_test : (b : Bool) → leb (length line + length u) 30 ≡ b → (length (line ++ u) ≤ 30 → Each (λ x. length x ≤ 30) (packed (line ++ u) us)) → Each (λ x. length x ≤ 30) (packed u us)
        → Memᴰ x (if b then packed (line ++ u) us else line ∷ packed u us) → length x ≤ 30
    by_test true q f _ m = f (let e = length-append line u in let l = leb-true (length line + length u) 30 q in omega arith) x m
    by_test false q _ g m = ⊎_elim (λ e. subst (λ (y : List ℕ). length y ≤ 30) (sym e) h) (λ i. g x i) (Memᴰ.cases_cons m)

-- there are no more lines than units and one
pub packed_few : (line : List ℕ) (us : List (List ℕ)) → length (packed line us) ≤ 1 + length us
unfolding packed
packed_few line [] = omega arith
packed_few line (u ∷ us) = by_test (leb (length line + length u) 30) (packed_few (line ++ u) us) (packed_few u us)
  where
    by_test : (b : Bool) → length (packed (line ++ u) us) ≤ 1 + length us → length (packed u us) ≤ 1 + length us → length (if b then packed (line ++ u) us else line ∷ packed u us) ≤ 1 + length (u ∷ us)
    by_test true h _ = omega arith
    by_test false _ h = omega arith

-- ---- the units of elements: short where what each prints is, as many as there are elements
pub units_short : (labels : List Label) (part xs : List ℕ) → ((x : ℕ) → Memᴰ x xs → length (said labels x) ≤ 12) → length part ≤ 18 → Each (λ u. length u ≤ 30) (units labels part xs)
unfolding units
units_short labels part [] h l u m = let e = ap length (Memᴰ.eq_of_singleton m) in omega arith
units_short labels part (x ∷ []) h l u m =
    let e = ap length (Memᴰ.eq_of_singleton m) ∙ length-append (said labels x) part in
    omega (arith, e, h x (Memᴰ.head refl))
units_short labels part (x ∷ y ∷ ys) h l u m = ⊎_elim
    (λ q. let e = ap length q ∙ length-append (said labels x) (44 ∷ []) in omega (arith, e, h x (Memᴰ.head refl)))
    (λ i. units_short labels part (y ∷ ys) (λ z j. h z (Memᴰ.tail j)) l u i)
    (Memᴰ.cases_cons m)

pub units_few : (labels : List Label) (part xs : List ℕ) → length (units labels part xs) ≤ 1 + length xs
unfolding units
units_few labels part [] = omega arith
units_few labels part (x ∷ []) = omega arith
units_few labels part (x ∷ y ∷ ys) = let h = units_few labels part (y ∷ ys) in omega arith

-- what they hold: the elements as they are printed, parted by commas, and then the part
unfoldable pub commas : List (List ℕ) → List ℕ
commas [] = []
commas (w ∷ []) = w
commas (w ∷ v ∷ vs) = w ++ (44 ∷ commas (v ∷ vs))

pub units_joined : (labels : List Label) (part xs : List ℕ) → joined (units labels part xs) ≡ commas (map (said labels) xs) ++ part
unfolding units flat_map commas
units_joined labels part [] = append-nil part
units_joined labels part (x ∷ []) = append-nil (said labels x ++ part)
units_joined labels part (x ∷ y ∷ ys) =
    ap (λ (t : List ℕ). (said labels x ++ (44 ∷ [])) ++ t) (units_joined labels part (y ∷ ys))
    ∙ append_assoc (said labels x) (44 ∷ []) _
    ∙ sym (append_assoc (said labels x) (44 ∷ commas (map (said labels) (y ∷ ys))) part)

-- ---- the lines of a step
pub kind_short : (a : Action) → length (kind_word a) ≤ 12
unfolding kind_word
kind_short (set r row) = omega arith
kind_short begin_proof = omega arith
kind_short (prove_and v row) = omega arith
kind_short (prove_or v row i) = omega arith
kind_short (prove_exists v row x) = omega arith
kind_short (prove_forall v row z) = omega arith
kind_short prove_goal = omega arith
kind_short round_end = omega arith
kind_short (mark_in r row) = omega arith
kind_short (mark_out r row) = omega arith

pub head_length : (p : Problem) (i k : ℕ) (a : Action) → i < 10 ^ 7 → k < 10 ^ 7 → length (subject_word p a) ≤ 12 → length (step_head p i k a) ≡ 42
unfolding step_head
head_length p i k a hi hk hs = simp length-append (omega (arith, right_length 7 (decimal i) (decimal_length 6 i hi), right_length 7 (decimal k) (decimal_length 6 k hk), left_length 12 (kind_word a) (kind_short a), left_length 12 (subject_word p a) hs))

pub headed_long : (head : List ℕ) (xs : List (List ℕ)) → length head ≡ 42 → Each (λ x. length x ≤ 30) xs → Each (λ y. length y ≡ 72) (headed head xs)
unfolding headed
headed_long head [] h s y m = absurd (Memᴰ.not-nil m)
headed_long head (x ∷ xs) h s y m = ⊎_elim
    (λ e. ap length e ∙ length-append head (left 30 x) ∙ omega (arith, left_length 30 x (s x (Memᴰ.head refl))))
    (λ i. let (z, j, e) = map_mem (λ z. spaces 42 ++ left 30 z) xs y i in ap length e ∙ length-append (spaces 42) (left 30 z) ∙ omega (arith, spaces_length 42, left_length 30 z (s z (Memᴰ.tail j))))
    (Memᴰ.cases_cons m)

pub headed_count : (head : List ℕ) (xs : List (List ℕ)) → length (headed head xs) ≡ length xs
unfolding headed
headed_count head [] = refl
headed_count head (x ∷ xs) = ap suc (length-map xs (λ y. spaces 42 ++ left 30 y))

-- what is known of an action of number k: its words are short, and its elements are few
pub record Shown (labels : List Label) (p : Problem) (k : ℕ) (a : Action) : Type 0 where
  pub number : k < 10 ^ 7
  pub subject : length (subject_word p a) ≤ 12
  pub part : length (part_word a) ≤ 18
  pub element : (x : ℕ) → Memᴰ x (shown_elements p a) → length (said labels x) ≤ 12
  pub few : length (shown_elements p a) ≤ 5

module _ (labels : List Label) (p : Problem) where
  pub step_long : (i k : ℕ) (a : Action) → i < 10 ^ 7 → Shown labels p k a → Each (λ y. length y ≡ 72) (step_lines labels p i k a)
  unfolding step_lines
  step_long i k a h S =
      headed_long (step_head p i k a) (packed [] (units labels (part_word a) (shown_elements p a))) (head_length p i k a h S.number S.subject)
      (packed_short [] _ (omega arith) (units_short labels (part_word a) (shown_elements p a) S.element S.part))

  pub step_few : (i k : ℕ) (a : Action) → Shown labels p k a → length (step_lines labels p i k a) ≤ 7
  unfolding step_lines
  step_few i k a S =
      let us = units labels (part_word a) (shown_elements p a) in
      omega (arith, headed_count (step_head p i k a) (packed [] us), packed_few [] us, units_few labels (part_word a) (shown_elements p a), S.few)

  -- the lines of steps whose first has index i
  abbrev pub lines_at : ℕ → ℕ → List (List ℕ)
  lines_at i k = option (action_at p k) [] (step_lines labels p i k)

  abbrev pub lines_from : ℕ → List ℕ → List (List ℕ)
  lines_from i steps = flat_map (λ (ls : List (List ℕ)). ls) (map_from lines_at i steps)

  module _ (S : (k : ℕ) (a : Action) → action_at p k ≡ some a → Shown labels p k a) where
    at_long : (i k : ℕ) → i < 10 ^ 7 → Each (λ y. length y ≡ 72) (lines_at i k)
    unfolding option
    at_long i k h y m = by_option (action_at p k) refl m
      where
        by_option : (o : Option Action) → action_at p k ≡ o → Memᴰ y (option o [] (step_lines labels p i k)) → length y ≡ 72
        by_option none e m = absurd (Memᴰ.not-nil m)
        by_option (some a) e m = step_long i k a h (S k a e) y m

    at_few : (i k : ℕ) → length (lines_at i k) ≤ 7
    unfolding option
    at_few i k = by_option (action_at p k) refl
      where
        by_option : (o : Option Action) → action_at p k ≡ o → length (option o [] (step_lines labels p i k)) ≤ 7
        by_option none e = omega arith
        by_option (some a) e = step_few i k a (S k a e)

    pub from_long : (i : ℕ) (steps : List ℕ) → i + length steps ≤ 10 ^ 7 → Each (λ y. length y ≡ 72) (lines_from i steps)
    unfolding flat_map map_from
    from_long i [] h y m = absurd (Memᴰ.not-nil m)
    from_long i (k ∷ ks) h y m = ⊎_elim (λ q. at_long i k (omega arith) y q) (λ q. from_long (suc i) ks (omega arith) y q) (Memᴰ.append_cases (lines_at i k) m)

    pub from_few : (i : ℕ) (steps : List ℕ) → length (lines_from i steps) ≤ 7 * length steps
    unfolding flat_map map_from
    from_few i [] = omega arith
    from_few i (k ∷ ks) = omega (arith, length-append (lines_at i k) (lines_from (suc i) ks), at_few i k, from_few (suc i) ks)

    -- every line has 72 columns
    pub lines_long : (steps : List ℕ) → length steps ≤ 10 ^ 7 → Each (λ y. length y ≡ 72) (lines_of labels p steps)
    unfolding lines_of
    lines_long steps h = from_long 0 steps (omega arith)

    pub lines_few : (steps : List ℕ) → length (lines_of labels p steps) ≤ 7 * length steps
    unfolding lines_of
    lines_few steps = from_few 0 steps

-- ---- pages
replicate_mem : (k : ℕ) (a x : List ℕ) → Memᴰ x (replicate k a) → x ≡ a
replicate_mem zero a x m = absurd (Memᴰ.not-nil m)
replicate_mem (suc k) a x m = ⊎_elim (λ e. e) (λ i. replicate_mem k a x i) (Memᴰ.cases_cons m)

pub blank_long : length blank_line ≡ 72
unfolding blank_line
blank_long = spaces_length 72

pub ended_length : (ls : List (List ℕ)) → Each (λ y. length y ≡ 72) ls → length (flat_map ended_line ls) ≡ 73 * length ls
unfolding flat_map ended_line
ended_length [] h = omega arith
ended_length (x ∷ ls) h =
    length-append (x ++ (10 ∷ [])) (flat_map ended_line ls) ∙ omega (arith, length-append x (10 ∷ []), h x (Memᴰ.head refl), ended_length ls (λ y m. h y (Memᴰ.tail m)))

pub page_lines_count : (ls : List (List ℕ)) (m : ℕ) → length (page_lines ls m) ≡ 59
unfolding page_lines
page_lines_count ls m = length-take 59 (drop (59 * m) ls ++ replicate 59 blank_line) ∙ omega (arith, length-append (drop (59 * m) ls) (replicate 59 blank_line), length-replicate 59 blank_line)

module _ (ls : List (List ℕ)) (h : Each (λ y. length y ≡ 72) ls) (m : ℕ) where
  pub page_lines_long : Each (λ y. length y ≡ 72) (page_lines ls m)
  unfolding page_lines
  page_lines_long y i = ⊎_elim (λ q. h y (drop_mem (59 * m) ls y q)) (λ q. ap length (replicate_mem 59 blank_line y q) ∙ blank_long) (Memᴰ.append_cases (drop (59 * m) ls) (take_mem 59 _ y i))

  -- a page has 4,380 bytes
  pub page_length : suc m < 10 ^ 6 → length (page_text ls m) ≡ 4380
  unfolding page_text ended_line
  page_length l =
      let n = page_lines_count ls m in
      let f = length-append (spaces 66) (right 6 (decimal (suc m))) in
      length-append (flat_map ended_line (page_lines ls m)) _
      ∙ omega (arith, ended_length (page_lines ls m) page_lines_long, length-append (spaces 66 ++ right 6 (decimal (suc m))) (10 ∷ []), spaces_length 66, right_length 6 (decimal (suc m)) (decimal_length 5 (suc m) l))

-- the step lines of a page: those of its place, and blank ones where there are fewer
module _ {A : Type 0} where
  take_filled : (k n : ℕ) (a : A) (xs : List A) → k ≤ n → take k (xs ++ replicate n a) ≡ take k xs ++ replicate (k - length xs) a
  take_filled zero n a xs h = let e : 0 - length xs ≡ 0 = omega arith in rw e
  take_filled (suc k) zero a [] h = absurd (omega arith)
  take_filled (suc k) (suc n) a [] h = let e : k - 0 ≡ k = omega arith in let d : suc k - 0 ≡ suc k = omega arith in rw d (ap (λ (l : List A). a ∷ l) (take_filled k n a [] (omega arith) ∙ rw (e, take-nil {A = A} k)))
  take_filled (suc k) n a (x ∷ xs) h = let e : suc k - suc (length xs) ≡ k - length xs = omega arith in rw e (ap (λ (l : List A). x ∷ l) (take_filled k n a xs (omega arith)))

pub page_lines_are : (ls : List (List ℕ)) (m : ℕ) → page_lines ls m ≡ take 59 (drop (59 * m) ls) ++ replicate (59 - length (drop (59 * m) ls)) blank_line
unfolding page_lines
page_lines_are ls m = take_filled 59 59 blank_line (drop (59 * m) ls) (omega arith)

-- all pages together have all lines, in order
chunks : (ls : List (List ℕ)) (k a : ℕ) → flat_map (λ m. take 59 (drop (59 * m) ls)) (from a k) ≡ take (59 * k) (drop (59 * a) ls)
unfolding flat_map from
chunks ls zero a = refl
chunks ls (suc k) a =
    let e : 59 * suc k ≡ 59 + 59 * k = omega arith in
    let d : 59 * suc a ≡ 59 * a + 59 = omega arith in
    ap (λ (l : List (List ℕ)). take 59 (drop (59 * a) ls) ++ l) (chunks ls k (suc a))
    ∙ rw d (ap (λ (l : List (List ℕ)). take 59 (drop (59 * a) ls) ++ take (59 * k) l) (sym (drop-drop 59 (59 * a) ls)))
    ∙ sym (take-add 59 (59 * k) (drop (59 * a) ls)) ∙ ap (λ (j : ℕ). take j (drop (59 * a) ls)) (sym e)

pub pages_together : (ls : List (List ℕ)) → flat_map (λ m. take 59 (drop (59 * m) ls)) (below (pages ls)) ≡ ls
unfolding pages below
pages_together ls = chunks ls ((length ls + 58) / 59) 0 ∙ take_all (59 * ((length ls + 58) / 59)) ls (omega arith)

-- ---- a page's step lines as a part of the bytes of all lines, with blank lines after them
line_bytes : (x : List ℕ) → length x ≡ 72 → length (ended_line x) ≡ 73
unfolding ended_line
line_bytes x h = length-append x (10 ∷ []) ∙ omega arith

pub bytes_drop : (ls : List (List ℕ)) → Each (λ y. length y ≡ 72) ls → (i : ℕ) → drop (73 * i) (flat_map ended_line ls) ≡ flat_map ended_line (drop i ls)
unfolding flat_map
bytes_drop ls h zero = refl
bytes_drop [] h (suc i) = drop-nil (73 * suc i)
bytes_drop (x ∷ ls) h (suc i) =
    let e : 73 * suc i ≡ length (ended_line x) + 73 * i = omega (arith, line_bytes x (h x (Memᴰ.head refl))) in
    ap (λ (k : ℕ). drop k (ended_line x ++ flat_map ended_line ls)) e ∙ drop-append-add (ended_line x) (flat_map ended_line ls) (73 * i) ∙ bytes_drop ls (λ y m. h y (Memᴰ.tail m)) i

bytes_take : (ls : List (List ℕ)) → Each (λ y. length y ≡ 72) ls → (i : ℕ) → take (73 * i) (flat_map ended_line ls) ≡ flat_map ended_line (take i ls)
unfolding flat_map
bytes_take ls h zero = refl
bytes_take [] h (suc i) = take-nil (73 * suc i)
bytes_take (x ∷ ls) h (suc i) =
    let e : 73 * suc i ≡ length (ended_line x) + 73 * i = omega (arith, line_bytes x (h x (Memᴰ.head refl))) in
    ap (λ (k : ℕ). take k (ended_line x ++ flat_map ended_line ls)) e ∙ take-append-add (ended_line x) (flat_map ended_line ls) (73 * i) ∙ ap (λ (t : List ℕ). ended_line x ++ t) (bytes_take ls (λ y m. h y (Memᴰ.tail m)) i)

pub page_bytes : (ls : List (List ℕ)) → Each (λ y. length y ≡ 72) ls → (m : ℕ)
    → flat_map ended_line (page_lines ls m) ≡ take 4307 (drop (73 * (59 * m)) (flat_map ended_line ls) ++ flat_map ended_line (replicate 59 blank_line))
unfolding page_lines
page_bytes ls h m =
    sym (bytes_take (drop (59 * m) ls ++ replicate 59 blank_line) (λ y i. ⊎_elim (λ q. h y (drop_mem (59 * m) ls y q)) (λ q. ap length (replicate_mem 59 blank_line y q) ∙ blank_long) (Memᴰ.append_cases (drop (59 * m) ls) i)) 59)
    ∙ ap (take 4307) (flat_append ended_line (drop (59 * m) ls) (replicate 59 blank_line) ∙ ap (λ (t : List ℕ). t ++ flat_map ended_line (replicate 59 blank_line)) (sym (bytes_drop ls h (59 * m))))
