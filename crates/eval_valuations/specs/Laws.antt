-- A node's words as a search that may be left once they are full.
use Rattle.std.specs.Prelude.{◌≡◌, ◌⊎◌, Bool, not, ◌||◌, List, ℕ, ◌+◌, ◌-◌, ◌≤◌, ◌<◌, ◌^◌, get_or, if◌then◌else◌}
use Rattle.std.proofs.Math.Path.{refl, ap}
use Rattle.std.proofs.Common.{sym, ap₂, ◌∙◌, inl, inr, arith, lt-ltb, le-ltb, eq-eqb, ne_eqb, eqb-true}
use Rattle.std.proofs.Math.Logic.{⊎_elim}
use Rattle.std.proofs.Math.Bool.{true, false}
use Rattle.std.specs.Int.Bits.{bit_or}
use Rattle.std.proofs.Math.Dec.{eqb}
use Rattle.definitions.specs.Lists.{any, from}
use Rattle.definitions.specs.Problem.Tree.{Tree, Part}
use Rattle.definitions.specs.Problem.Actions.{Values, with_value}
use Rattle.bits.specs.Table.{digit}
use Rattle.bits.proofs.Digit.{digit_or, digit_not, digit_of_zero}
use Rattle.laws.specs.Booleans.{T_of}
use Rattle.laws.specs.Lists.{any_yes, any_no, any_end, any_none}
use Rattle.rows.specs.Values.{value_in, Within}
use Rattle.problem_table.specs.Lines.{part_number}
use Rattle.problem_table.specs.declared.PartLine.{PartLine}
use Rattle.eval_rule.specs.Lines.{node_in, part_in, line_in, literal_at, leaf_at, agree, element_in, values_of, fixed_in, decided}
use Rattle.eval_rule.specs.Says.{Truth, node_of, Asked, cell_of, under_of, parts_in, Still}
use Rattle.eval_rule.specs.Laws.{turns_start, parts_start, under_at_lem, with_other, cell_node, cell_leaf}
use Rattle.eval_rule.specs.declared.NodeAt.{NodeAt}
use Rattle.eval_rule.specs.declared.PartAt.{PartAt}
use Rattle.eval_valuations.specs.Words.{full, spread_of, Turned, skip_to, only_of, leaf_words, leaf_in}

-- ---- words
pub full_digit : (j : ℕ) → j < 64 → digit full j ≡ true
full_digit j l = digit_not 64 0 j (omega arith) l ∙ ap not (digit_of_zero j)

pub turned_as : (w : ℕ) (keeps : Bool) → keeps ≡ true → Turned w keeps w
unfolding agree
turned_as w keeps e j l = by_test (digit w j) ∙ ap (agree (digit w j)) (sym e)
  where
    by_test : (b : Bool) → b ≡ agree b true
    by_test true = refl
    by_test false = refl

pub turned_not : (w : ℕ) (keeps : Bool) → w < 2 ^ 64 → keeps ≡ false → Turned w keeps ((2 ^ 64 - 1) - w)
unfolding agree
turned_not w keeps s e j l = digit_not 64 w j s l ∙ by_test (digit w j) ∙ ap (agree (digit w j)) (sym e)
  where
    by_test : (b : Bool) → not b ≡ agree b false
    by_test true = refl
    by_test false = refl

pub spread_yes : (b : Bool) → b ≡ true → full ≡ spread_of b
unfolding spread_of
spread_yes b e = rw e refl

pub spread_not : (b : Bool) → b ≡ false → 0 ≡ spread_of b
unfolding spread_of
spread_not b e = rw e refl

pub skip_end : (next end w : ℕ) → w ≡ full → end ≡ skip_to next end w
unfolding skip_to
skip_end next end w e = rw (eq-eqb w full e) refl

pub skip_next : (next end w : ℕ) → (w ≡ full → ⊥) → next ≡ skip_to next end w
unfolding skip_to
skip_next next end w e = rw (ne_eqb w full e) refl

pub only_all : (w : ℕ) (b : Bool) → b ≡ true → w ≡ only_of w b
unfolding only_of
only_all w b e = rw e refl

pub only_none : (w : ℕ) (b : Bool) → b ≡ false → 0 ≡ only_of w b
unfolding only_of
only_none w b e = rw e refl

only_digit : (w : ℕ) (b : Bool) (o j : ℕ) → o ≡ only_of w b → digit o j ≡ true → (b ≡ true) × (digit w j ≡ true)
unfolding only_of
only_digit w true o j e h = (refl, ap (λ (x : ℕ). digit x j) (sym e) ∙ h)
only_digit w false o j e h = absurd (T_of (sym (digit_of_zero j) ∙ ap (λ (x : ℕ). digit x j) (sym e) ∙ h))

or_cases : (a b : Bool) → (a || b) ≡ true → (a ≡ true) ⊎ (b ≡ true)
or_cases true b e = inl refl
or_cases false b e = inr e

-- it goes on, and not too far
pub skip_on : (i end w k : ℕ) → i < end → k ≡ skip_to (i + 1) end w → (i < k) × (k ≤ end)
unfolding skip_to
skip_on i end w k l e = by_test (eqb w full) e
  where
    by_test : (b : Bool) → k ≡ (if b then end else i + 1) → (i < k) × (k ≤ end)
    by_test true q = (omega arith, omega arith)
    by_test false q = (omega arith, omega arith)

pub leaf_static : (facts pos neg : List ℕ) (n : ℕ) (e : Values) (q : PartAt) (line : PartLine) (b : Bool) (r : ℕ) → q.which < 6 → b ≡ leaf_at facts facts n e q line → r ≡ spread_of b → r ≡ leaf_words facts pos neg n e q line
unfolding leaf_words
leaf_static facts pos neg n e q line b r h k f = f ∙ ap spread_of k ∙ rw (lt-ltb q.which 6 h) refl

pub leaf_tuple : (facts pos neg : List ℕ) (n : ℕ) (e : Values) (q : PartAt) (line other : PartLine) (k r : ℕ) → 6 ≤ q.which → q.tag ≡ 1 → line ≡ other → k ≡ part_number e line → r ≡ get_or pos k 0 → r ≡ leaf_words facts pos neg n e q other
unfolding leaf_words
leaf_tuple facts pos neg n e q line other k r h t l f g = g ∙ ap (λ (x : ℕ). get_or pos x 0) (f ∙ ap (part_number e) l) ∙ rw (le-ltb q.which 6 h, eq-eqb q.tag 1 t) refl

pub leaf_not : (facts pos neg : List ℕ) (n : ℕ) (e : Values) (q : PartAt) (line other : PartLine) (k r : ℕ) → 6 ≤ q.which → (q.tag ≡ 1 → ⊥) → line ≡ other → k ≡ part_number e line → r ≡ get_or neg k 0 → r ≡ leaf_words facts pos neg n e q other
unfolding leaf_words
leaf_not facts pos neg n e q line other k r h t l f g = g ∙ ap (λ (x : ℕ). get_or neg x 0) (f ∙ ap (part_number e) l) ∙ rw (le-ltb q.which 6 h, ne_eqb q.tag 1 t) refl

-- what a literal's word says in valuation j
pub spread_digit : (b : Bool) (j : ℕ) → j < 64 → digit (spread_of b) j ≡ b
unfolding spread_of
spread_digit true j l = full_digit j l
spread_digit false j l = digit_of_zero j

pub leaf_fixed : (facts pos neg : List ℕ) (n : ℕ) (e : Values) (q : PartAt) (line : PartLine) (j : ℕ) → j < 64 → (b v : Bool) → q.which < 6 → literal_at facts facts n q.which (part_number e line) ≡ v → eqb q.tag 1 ≡ b
    → digit (leaf_words facts pos neg n e q line) j ≡ agree v b
unfolding leaf_words leaf_at
leaf_fixed facts pos neg n e q line j l b v h k t = rw (lt-ltb q.which 6 h) (spread_digit _ j l ∙ ap₂ agree k t)

pub leaf_pos : (facts pos neg : List ℕ) (n : ℕ) (e : Values) (q : PartAt) (line : PartLine) (j : ℕ) → q.which ≡ 6 → eqb q.tag 1 ≡ true → digit (leaf_words facts pos neg n e q line) j ≡ digit (get_or pos (part_number e line) 0) j
unfolding leaf_words
leaf_pos facts pos neg n e q line j h t = rw (le-ltb q.which 6 (omega arith), t) refl

pub leaf_neg : (facts pos neg : List ℕ) (n : ℕ) (e : Values) (q : PartAt) (line : PartLine) (j : ℕ) → q.which ≡ 6 → eqb q.tag 1 ≡ false → digit (leaf_words facts pos neg n e q line) j ≡ digit (get_or neg (part_number e line) 0) j
unfolding leaf_words
leaf_neg facts pos neg n e q line j h t = rw (le-ltb q.which 6 (omega arith), t) refl

pub agree_true : (b : Bool) → agree b true ≡ b
unfolding agree
agree_true true = refl
agree_true false = refl

pub agree_false : (b : Bool) → agree b false ≡ not b
unfolding agree
agree_false true = refl
agree_false false = refl

-- ---- a run of tests whose answers are gathered in a digit: what is left of it
module _ (g : ℕ → Bool) (j : ℕ) (l : j < 64) where
  abbrev pub Left : (many i hit : ℕ) → Type 0
  Left many i hit = any g (from 0 (many - 0)) ≡ (digit hit j || any g (from i (many - i)))

  left_start : (many : ℕ) → Left many 0 0
  left_start many = ap (λ (b : Bool). b || any g (from 0 (many - 0))) (sym (digit_of_zero j))

  left_end : (many i hit : ℕ) → many ≤ i → Left many i hit → any g (from 0 (many - 0)) ≡ digit hit j
  left_end many i hit h p = p ∙ ap (λ (b : Bool). digit hit j || b) (any_end g many i h) ∙ or_no (digit hit j)
    where
      or_no : (b : Bool) → (b || false) ≡ b
      or_no true = refl
      or_no false = refl

  module _ (many i hit w r : ℕ) (h : i < many) (p : Left many i hit) (e : digit w j ≡ g i) (q : r ≡ bit_or hit w) where
    now : digit r j ≡ (digit hit j || g i)
    now = ap (λ (x : ℕ). digit x j) q ∙ digit_or hit w j ∙ ap (λ (b : Bool). digit hit j || b) e

    yes_both : (b : Bool) → (b || true) ≡ true
    yes_both true = refl
    yes_both false = refl

    no_right : (b c : Bool) → ((b || false) || c) ≡ (b || c)
    no_right true c = refl
    no_right false c = refl

    set_now : g i ≡ true → digit r j ≡ true
    set_now f = now ∙ ap (λ (b : Bool). digit hit j || b) f ∙ yes_both (digit hit j)

    one_more : (b : Bool) → g i ≡ b → Left many (i + 1) r
    one_more true f = p ∙ ap (λ (b : Bool). digit hit j || b) (any_yes g many i h f) ∙ yes_both (digit hit j) ∙ sym (ap (λ (b : Bool). b || any g (from (i + 1) (many - (i + 1)))) (set_now f))
    one_more false f = p ∙ ap (λ (b : Bool). digit hit j || b) (any_no g many i h f)
        ∙ sym (ap (λ (b : Bool). b || any g (from (i + 1) (many - (i + 1)))) (now ∙ ap (λ (b : Bool). digit hit j || b) f) ∙ no_right (digit hit j) _)

    -- a digit that is set stays so, whatever is left
    set_end : (k : ℕ) → digit r j ≡ true → Left many k r
    set_end k d = one_more (g i) refl ∙ ap (λ (b : Bool). b || any g (from (i + 1) (many - (i + 1)))) d ∙ sym (ap (λ (b : Bool). b || any g (from k (many - k))) d)

    left_next : (k : ℕ) → k ≡ skip_to (i + 1) many r → Left many k r
    unfolding skip_to
    left_next k s = by_full (eqb r full) refl s
      where
        by_full : (b : Bool) → eqb r full ≡ b → k ≡ (if b then many else i + 1) → Left many k r
        by_full false f s = rw s (one_more (g i) refl)
        by_full true f s = set_end k (ap (λ (x : ℕ). digit x j) (eqb-true r full f) ∙ full_digit j l)

    -- where all tests are alike, one tells of all
    alike_end : ((y : ℕ) → g y ≡ g i) → (b : Bool) → g i ≡ b → Left many many r
    alike_end a true f = set_end many (set_now f)
    alike_end a false f = one_more false f ∙ ap (λ (b : Bool). digit r j || b) (any_none g (from (i + 1) (many - (i + 1))) (λ x m. a x ∙ f) ∙ sym (any_end g many many (omega arith)))

    left_alike : (still k : ℕ) → (digit still j ≡ true → (y : ℕ) → g y ≡ g i) → k ≡ skip_to (i + 1) many (bit_or r still) → Left many k r
    unfolding skip_to
    left_alike still k a s = by_full (eqb (bit_or r still) full) refl s
      where
        by_full : (b : Bool) → eqb (bit_or r still) full ≡ b → k ≡ (if b then many else i + 1) → Left many k r
        by_full false f s = rw s (one_more (g i) refl)
        by_full true f s = ⊎_elim (λ d. set_end k d) (λ d. rw s (alike_end (a d) (g i) refl)) (or_cases (digit r j) (digit still j) (sym (digit_or r still j) ∙ ap (λ (x : ℕ). digit x j) (eqb-true (bit_or r still) full f) ∙ full_digit j l))

agree_decided : (b s : Bool) → agree b s ≡ decided s b
unfolding agree decided
agree_decided true s = refl
agree_decided false s = refl

-- ---- a node
module _ (n : ℕ) (w facts pos neg : List ℕ) (v : ℕ) where
  -- in each valuation, for every tree that the lines are of
  abbrev pub InAll : ((j : ℕ) (H : Truth) (root : Tree) → Asked H root n w (leaf_in facts pos neg n j) v → Type 0) → Type 0
  InAll P = (j : ℕ) → j < 64 → (H : Truth) (root : Tree) (h : Asked H root n w (leaf_in facts pos neg n j) v) → P j H root h

  -- what a word says of part i, and of the node
  abbrev pub IsPart : Values → (i word : ℕ) → Type 0
  IsPart θ i word = InAll (λ j H root h. digit word j ≡ cell_of H (parts_in n w (leaf_in facts pos neg n j) v h) θ i)

  abbrev pub IsNode : Values → ℕ → Type 0
  IsNode e word = InAll (λ j H root h. digit word j ≡ H e (node_of root v))

  module _ (kind level many : ℕ) (joins sought : Bool) where
    abbrev pub PartsLeft : Values → (i hit : ℕ) → Type 0
    PartsLeft θ i hit = (j : ℕ) (l : j < 64) (H : Truth) (root : Tree) (h : Asked H root n w (leaf_in facts pos neg n j) v) → Left (λ k. agree (cell_of H (parts_in n w (leaf_in facts pos neg n j) v h) θ k) joins) j l many i hit

    abbrev pub TurnsLeft : Values → (ℕ → ℕ) → (turns turn found : ℕ) → Type 0
    TurnsLeft e element turns turn found = (j : ℕ) (l : j < 64) (H : Truth) (root : Tree) (h : Asked H root n w (leaf_in facts pos neg n j) v)
        → Left (λ y. agree (under_of H (parts_in n w (leaf_in facts pos neg n j) v h) kind level many joins sought (values_of kind level e (element y))) sought) j l turns turn found

    pub parts_begin : (θ : Values) → PartsLeft θ 0 0
    parts_begin θ j l H root h = left_start _ j l many

    pub turns_begin : (e : Values) (element : ℕ → ℕ) (turns : ℕ) → TurnsLeft e element turns 0 0
    turns_begin e element turns j l H root h = left_start _ j l turns

    pub parts_more : (θ : Values) (i hit word t r k : ℕ) → i < many → PartsLeft θ i hit → IsPart θ i word → Turned word joins t → r ≡ bit_or hit t → k ≡ skip_to (i + 1) many r → PartsLeft θ k r
    parts_more θ i hit word t r k h p is f q s j l H root a = left_next _ j l many i hit t r h (p j l H root a) (f j l ∙ ap (λ (b : Bool). agree b joins) (is j l H root a)) q k s

    -- all parts are asked: what the element gives
    under_is : (θ : Values) (i hit t : ℕ) → many ≤ i → PartsLeft θ i hit → Turned hit joins t → (j : ℕ) → j < 64 → (H : Truth) (root : Tree) (h : Asked H root n w (leaf_in facts pos neg n j) v)
        → digit t j ≡ under_of H (parts_in n w (leaf_in facts pos neg n j) v h) kind level many joins sought θ
    under_is θ i hit t m p f j l H root h =
        f j l ∙ agree_decided (digit hit j) joins ∙ ap (decided joins) (sym (left_end _ j l many i hit m (p j l H root h)))
        ∙ sym (parts_start n w (leaf_in facts pos neg n j) v kind level many joins sought θ H root h)

    -- where a digit is set, a part that is the same at every element decides: what is under the quantifier is the same at every element
    abbrev pub Settled : Values → ℕ → Type 0
    Settled e still = (j : ℕ) → j < 64 → (H : Truth) (root : Tree) (h : Asked H root n w (leaf_in facts pos neg n j) v) → digit still j ≡ true
        → (y : ℕ) → under_of H (parts_in n w (leaf_in facts pos neg n j) v h) kind level many joins sought (with_value e level y) ≡ joins

    pub settled_none : (e : Values) → Settled e 0
    settled_none e j l H root h d = absurd (T_of (sym (digit_of_zero j) ∙ d))

    pub settled_more : (first : ℕ) → ((j : ℕ) → Still n w (leaf_in facts pos neg n j) v level first many) → (e θ : Values) (z : ℕ) → θ ≡ with_value e level z → (i still word t o r : ℕ) (f : Bool) → i < many → Settled e still → IsPart θ i word → Turned word joins t
        → f ≡ fixed_in w (first + i) level → o ≡ only_of t f → r ≡ bit_or still o → Settled e r
    settled_more first stay e θ z are i still word t o r f h s is k x y q j l H root a d = ⊎_elim (λ b. s j l H root a b) here (or_cases (digit still j) (digit o j) (sym (digit_or still o j) ∙ ap (λ (u : ℕ). digit u j) (sym q) ∙ d))
      where
        ps : List Part
        ps = parts_in n w (leaf_in facts pos neg n j) v a

        here : digit o j ≡ true → (u : ℕ) → under_of H ps kind level many joins sought (with_value e level u) ≡ joins
        here b u =
            let (c, g) = only_digit t f o j y b in
            under_at_lem H ps kind level many joins sought (with_value e level u) i h
            (ap (λ (b : Bool). agree b joins) (stay j H root a i h (sym x ∙ c) e u z ∙ ap (λ (ρ : Values). cell_of H ps ρ i) (sym are) ∙ sym (is j l H root a)) ∙ sym (k j l) ∙ g)

    -- what stands at the level does not matter
    pub settled_over : (e θ : Values) (z still : ℕ) → θ ≡ with_value e level z → Settled θ still → Settled e still
    settled_over e θ z still are s j l H root h d y = ap (under_of H (parts_in n w (leaf_in facts pos neg n j) v h) kind level many joins sought) (sym (with_other e θ level z y are)) ∙ s j l H root h d y

    pub turns_more : (e θ : Values) (element : ℕ → ℕ) (turns turn found : ℕ) → turn < turns → TurnsLeft e element turns turn found → θ ≡ values_of kind level e (element turn)
        → (i hit t u r still k : ℕ) → many ≤ i → PartsLeft θ i hit → Turned hit joins t → Turned t sought u → r ≡ bit_or found u → Settled e still → k ≡ skip_to (turn + 1) turns (bit_or r still) → TurnsLeft e element turns k r
    turns_more e θ element turns turn found x p are i hit t u r still k m q f g a s b j l H root h = left_alike _ j l turns turn found u r x (p j l H root h)
        (g j l ∙ ap (λ (y : Bool). agree y sought) (under_is θ i hit t m q f j l H root h ∙ ap (under_of H (parts_in n w (leaf_in facts pos neg n j) v h) kind level many joins sought) are)) a
        still k (λ d y. ap (λ (z : Bool). agree z sought) (s j l H root h d _ ∙ sym (s j l H root h d _))) b

  pub node_ends : (x : NodeAt) (e : Values) → x ≡ node_in w v → (turn found r : ℕ) → x.count ≤ turn
      → TurnsLeft x.kind x.level x.many (eqb x.join 1) (eqb x.kind 1) e (element_in w x.range) x.count turn found → Turned found (eqb x.kind 1) r → IsNode e r
  node_ends x e line turn found r m p f j l H root h =
      f j l ∙ agree_decided (digit found j) (eqb x.kind 1) ∙ ap (decided (eqb x.kind 1)) (sym (left_end _ j l x.count turn found m (p j l H root h)))
      ∙ sym (turns_start n w (leaf_in facts pos neg n j) v x e line H root h)

  -- ---- a part
  module _ (x : NodeAt) (line : x ≡ node_in w v) (i : ℕ) (inside : i < x.many) (q : PartAt) (part : q ≡ part_in w (x.first + i)) (values : List ℕ) where
    pub part_node : (word : ℕ) → q.tag ≡ 0 → ((j : ℕ) → j < 64 → (H : Truth) (root : Tree) → Asked H root n w (leaf_in facts pos neg n j) q.which → digit word j ≡ H (value_in values) (node_of root q.which))
        → IsPart (value_in values) i word
    part_node word t k j l H root h = cell_node n w (leaf_in facts pos neg n j) v x line i inside q part values (digit word j) t (k j l) H root h

    pub part_leaf : (word : ℕ) → (q.tag ≡ 0 → ⊥) → Within n values → word ≡ leaf_words facts pos neg n (value_in values) q (line_in w (x.first + i)) → IsPart (value_in values) i word
    part_leaf word t m k j l H root h = cell_leaf n w (leaf_in facts pos neg n j) v x line i inside q part values (digit word j) t m (ap (λ (z : ℕ). digit z j) k) H root h
