-- Where a line ends, its record word, and where the first line of a kind ends or begins. Assumes nothing.
use Prim.Native.Nat.{ℕ, ◌+◌, ◌-◌, ◌≤◌, ◌<◌, min}
use Rattle.std.specs.Prelude.{◌≡◌, Bool, true, false}
use Rattle.std.proofs.Math.Path.{refl, sym, ap, ap₂}
use Rattle.std.proofs.Common.{◌∙◌, arith, length-drop, drop_of_length-le, take_all, drop-drop}
use mathlib.Core.List.{List, [], ◌∷◌}
use Rattle.std.proofs.Math.Nat.{min-eq_left, min-eq_right, min-le_right}
use Rattle.std.proofs.Math.Decide.{dec_lt}
use Rattle.std.proofs.Math.ListN.{length, take, drop}
use Rattle.std.proofs.Math.Seq.{slice, length-slice, take-length, drop-length}
use Rattle.definitions.specs.Lists.{same, is_empty}
use Rattle.definitions.specs.Sheet.Text.{split, lines_from, lines, fields}
use Rattle.definitions.specs.Reply.Desk.{is_record, is_rule, is_step, is_pick_or_step, after_rule, first_pick_or_step, starts_with_step, site_and_rest, after_question, cut_at, sheets}
use Rattle.read_text.specs.Spans.{index_of}
use Rattle.read_line.specs.Lines.{lines_at}
use Rattle.read_line.proofs.Fields.{lines_cons, lines_stop}
use Rattle.read_text.proofs.Laws.{slice_all, pieces_at, pieces_whole, end_within, split_some}

-- the line at `at`: its content ends at `end`, and the other lines are those from `next` on
pub record LineAt (s : List ℕ) (at end next : ℕ) : Type 0 where
  pub begins : at ≤ end
  pub ends : end ≤ length s
  pub within : next ≤ length s
  pub further : at < next
  pub after : next ≡ min (end + 1) (length s)
  pub ended : Bool
  pub lines : lines_at s at ≡ record { at = at; ended = ended; content = slice at end s } ∷ lines_at s next

-- ---- the line at a place

lines_last : (at : ℕ) (p : List ℕ) → 0 < length p → lines_from at (p ∷ []) ≡ record { at = at; ended = false; content = p } ∷ []
unfolding lines_from is_empty
lines_last at [] h = absurd (omega arith)
lines_last at (b ∷ p) h = refl

pub lines_start : (s : List ℕ) → lines s ≡ lines_at s 0
unfolding lines lines_at
lines_start s = refl

module _ (s : List ℕ) (at : ℕ) (h : at < length s) (end : ℕ) (q : end ≡ at + index_of 10 (slice at (length s) s)) where
  pub ended_line : end < length s → LineAt s at end (end + 1)
  unfolding lines_at
  ended_line l =
      let f = pieces_at 10 at (length s) s (omega arith) (omega arith) end q l in
      let n : at + length (slice at end s) + 1 ≡ end + 1 = omega (arith, length-slice at end s (omega arith)) in
      record {
        begins = omega arith;
        ends = omega arith;
        within = omega arith;
        further = omega arith;
        after = sym (min-eq_left (omega arith));
        ended = true;
        lines = rw (← slice_all at s, f, lines_cons at (slice at end s) (split 10 (slice (end + 1) (length s) s)) (split_some 10 (slice (end + 1) (length s) s)), n, slice_all (end + 1) s);
      }

  pub last_line_lem : length s ≤ end → LineAt s at end (length s)
  unfolding lines_at
  last_line_lem l =
      let e : end ≡ length s = omega (arith, end_within 10 at (length s) s (omega arith) (omega arith)) in
      let f = pieces_whole 10 at (length s) s (omega arith) (omega arith) end q l in
      let t = lines_stop s (length s) refl in
      record {
        begins = omega arith;
        ends = omega arith;
        within = omega arith;
        further = omega arith;
        after = sym (min-eq_right (omega arith));
        ended = false;
        lines = rw (t, e) (rw (← slice_all at s, f) (lines_last at (slice at (length s) s) (omega (arith, length-slice at (length s) s (omega arith)))));
      }

-- ---- the record word of a line is all before its first tab

module _ (s : List ℕ) (at end : ℕ) (h : at ≤ end) (k : end ≤ length s) (tab : ℕ) (q : tab ≡ at + index_of 9 (slice at end s)) (w : List ℕ) where
  record_first : (ps : List (List ℕ)) → split 9 (slice at end s) ≡ slice at tab s ∷ ps → is_record w (split 9 (slice at end s)) ≡ same (slice at tab s) w
  unfolding is_record
  record_first ps e = rw e

  pub record_is : is_record w (split 9 (slice at end s)) ≡ same (slice at tab s) w
  record_is = from_this (dec_lt tab end)
    where
      from_this : Dec (tab < end) → is_record w (split 9 (slice at end s)) ≡ same (slice at tab s) w
      from_this (yes l) = record_first _ (pieces_at 9 at end s h k tab q l)
      from_this (no l) =
          let e : tab ≡ end = omega (arith, end_within 9 at end s h k) in
          record_first [] (pieces_whole 9 at end s h k tab q (omega arith) ∙ rw e)

-- ---- the first `rule` line, the first `pick` or `step` line

abbrev word_at : List ℕ → ℕ → ℕ → List ℕ → Bool
word_at s at end w = is_record w (split 9 (slice at end s))

module _ (s : List ℕ) (at end next : ℕ) (l : LineAt s at end next) where
  pub rule_here : word_at s at end (114 ∷ 117 ∷ 108 ∷ 101 ∷ []) ≡ true → min (after_rule (length s) (lines_at s at)) (length s) ≡ next
  unfolding after_rule is_rule fields
  rule_here e =
      let n : at + length (slice at end s) + 1 ≡ end + 1 = omega (arith, length-slice at end s l.ends, l.begins) in
      rw (l.lines, e, n) (sym l.after)

  pub rule_later : word_at s at end (114 ∷ 117 ∷ 108 ∷ 101 ∷ []) ≡ false → after_rule (length s) (lines_at s at) ≡ after_rule (length s) (lines_at s next)
  unfolding after_rule is_rule fields
  rule_later e = rw (l.lines, e)

  pub pick_here : word_at s at end (112 ∷ 105 ∷ 99 ∷ 107 ∷ []) ≡ true → first_pick_or_step (length s) (lines_at s at) ≡ at
  unfolding first_pick_or_step is_pick_or_step is_step fields
  pick_here e = rw (l.lines, e)

  pub step_here : word_at s at end (112 ∷ 105 ∷ 99 ∷ 107 ∷ []) ≡ false → word_at s at end (115 ∷ 116 ∷ 101 ∷ 112 ∷ []) ≡ true → first_pick_or_step (length s) (lines_at s at) ≡ at
  unfolding first_pick_or_step is_pick_or_step is_step fields
  step_here e f = rw (l.lines, e, f)

  pub pick_later : word_at s at end (112 ∷ 105 ∷ 99 ∷ 107 ∷ []) ≡ false → word_at s at end (115 ∷ 116 ∷ 101 ∷ 112 ∷ []) ≡ false → first_pick_or_step (length s) (lines_at s at) ≡ first_pick_or_step (length s) (lines_at s next)
  unfolding first_pick_or_step is_pick_or_step is_step fields
  pick_later e f = rw (l.lines, e, f)

  pub starts_is : starts_with_step (lines_at s at) ≡ word_at s at end (115 ∷ 116 ∷ 101 ∷ 112 ∷ [])
  unfolding starts_with_step is_step fields
  starts_is = rw l.lines

module _ (s : List ℕ) (at : ℕ) (e : at ≡ length s) where
  pub no_rule : min (after_rule (length s) (lines_at s at)) (length s) ≡ length s
  unfolding after_rule
  no_rule = rw (lines_stop s at e) (min-eq_right (omega arith))

  pub no_pick : first_pick_or_step (length s) (lines_at s at) ≡ length s
  unfolding first_pick_or_step
  no_pick = rw (lines_stop s at e)

  pub no_start : starts_with_step (lines_at s at) ≡ false
  unfolding starts_with_step
  no_start = rw (lines_stop s at e)

-- ---- the three sheets of an input

pub record CutAt (input : List ℕ) (question site : ℕ) (steps : Bool) : Type 0 where
  pub asked : question ≤ site
  pub within : site ≤ length input
  pub sheets : sheets input ≡ record { question = take question input; site = take (site - question) (drop question input); rest = drop site input }
  pub begins : steps ≡ starts_with_step (lines (drop site input))

take_min : (c : ℕ) (t : List ℕ) → take (min c (length t)) t ≡ take c t
take_min c t = from_this (dec_lt c (length t))
  where
    from_this : Dec (c < length t) → take (min c (length t)) t ≡ take c t
    from_this (yes l) = rw (min-eq_left {n = c} {m = length t} (omega arith))
    from_this (no l) = rw (min-eq_right {n = length t} {m = c} (omega arith)) (take-length t ∙ sym (take_all c t (omega arith)))

drop_min : (c : ℕ) (t : List ℕ) → drop (min c (length t)) t ≡ drop c t
drop_min c t = from_this (dec_lt c (length t))
  where
    from_this : Dec (c < length t) → drop (min c (length t)) t ≡ drop c t
    from_this (yes l) = rw (min-eq_left {n = c} {m = length t} (omega arith))
    from_this (no l) = rw (min-eq_right {n = length t} {m = c} (omega arith)) (drop-length t ∙ sym (drop_of_length-le t {i = c} (omega arith)))

module _ (input : List ℕ) (question : ℕ) (q : question ≡ min (after_rule (length input) (lines input)) (length input)) (more : List ℕ) (m : more ≡ drop question input)
    (site : ℕ) (l : site ≤ length more) (e : site ≡ first_pick_or_step (length more) (lines more)) (rest : List ℕ) (r : rest ≡ drop site more) (steps : Bool) (b : steps ≡ starts_with_step (lines rest)) where
  the_sheets : sheets input ≡ record { question = take question input; site = take site more; rest = drop site more }
  unfolding sheets cut_at after_question site_and_rest
  the_sheets =
      let c : ℕ = after_rule (length input) (lines input) in
      ap₂ (λ (x y : List ℕ). site_and_rest x y (first_pick_or_step (length y) (lines y))) (sym (ap (λ (k : ℕ). take k input) q ∙ take_min c input)) (sym (m ∙ ap (λ (k : ℕ). drop k input) q ∙ drop_min c input))
      ∙ ap (site_and_rest (take question input) more) (sym e)

  drops : drop site more ≡ drop (question + site) input
  drops = ap (drop site) m ∙ drop-drop site question input

  pub cut_at_lem : CutAt input question (question + site) steps
  cut_at_lem =
      let h : question ≤ length input = rw q (min-le_right _ _) in
      let n = ap length m in
      let k = length-drop question input in
      let z : question + site - question ≡ site = omega arith in
      record {
        asked = omega arith;
        within = omega arith;
        sheets = the_sheets ∙ ap₂ (λ (x y : List ℕ). record { question = take question input; site = x; rest = y }) (ap (take site) m ∙ ap (λ (k : ℕ). take k (drop question input)) (sym z)) drops;
        begins = b ∙ ap (λ (t : List ℕ). starts_with_step (lines t)) (r ∙ drops);
      }
