-- The lines of a plan: what is written for steps is read back as these steps, and letters may be capitals or small.
use Prim.Native.Nat.{ℕ, zero, suc, ◌+◌, ◌<◌, ◌≤◌}
use Rattle.std.specs.Prelude.{◌≡◌, ◌⊎◌, Bool, not, ◌&&◌, ◌||◌, leb, get_or, take, if◌then◌else◌}
use Rattle.std.proofs.Math.Path.{refl, ap, ap₂, subst}
use Rattle.std.proofs.Common.{sym, ◌∙◌, inl, inr, arith, leb→le, eqb→eq, T_not, take_at, get_or-append-add}
use Rattle.std.proofs.Math.Logic.{⊎_elim}
use Rattle.std.proofs.Math.Bool.{true, false}
use Rattle.std.proofs.Math.Option.{none, some}
use mathlib.Core.List.Memᴰ
use mathlib.Core.List.{List, [], ◌∷◌, ◌++◌, map, map-append, append_assoc, append-nil, Memᴰ}
use Rattle.std.proofs.Math.Dec.{T, eqb, ltb, not_T}
use Rattle.std.proofs.Math.ListN.{length}
use Rattle.std.proofs.lemmas.List.{length-map}
use Rattle.std.proofs.Math.Seq.{get_or-append_seam}
use borrow.Author.Tests.{eq-eqb, lt-ltb, le-leb, lt-leb}
use Rattle.definitions.specs.Limits.{text_limit}
use Rattle.definitions.specs.Lists.{all, same, option, flat_map, find, is_empty}
use Rattle.definitions.specs.Sheet.Text.{bytes, on_first, split, Line, lines_from, lines, is_between, is_capital, is_small, is_digit, is_relation_name, decimal, decimal_in}
use Rattle.definitions.specs.Refusal.{Result, refused, accepted, ◌>>=◌, given, refuse_if, read_lines, read_text}
use Rattle.definitions.specs.Sheet.Formula.{write_each}
use Rattle.definitions.specs.Problem.Truth.{Case}
use Rattle.definitions.specs.Problem.Tree.{free}
use Rattle.definitions.specs.Problem.Atoms.{Problem, problem_of, relation_at, node_at, row_of, tuples_of, rows_of, problem_with}
use Rattle.definitions.specs.Problem.Actions.{Action, set, begin_proof, prove_and, prove_or, prove_exists, prove_forall, prove_goal, round_end, mark_in, mark_out, action_at, action_number}
use Rattle.definitions.specs.Reply.Lifted.{ActionName, set_name, begin_name, goal_name, and_name, exists_name, first_name, next_name, or_name, schema_of, action_names, PlanStep, relation_in}
use Rattle.definitions.specs.Reply.Pddl
use Rattle.laws.specs.Booleans.{T_and_l, T_and_r, T_of, T_true, T_ext, T_or, and_T, or_l, or_r}
use Rattle.laws.specs.Lists.{all_at, all_of}
use Rattle.laws.specs.Tuples.{same_eq, same_refl}
use Rattle.laws.specs.Results.{accepted_eq}
use Rattle.laws.specs.Rows.{Below, below_cons, length_places, row_places}
use Rattle.laws.specs.Numbers.{IsAction, action_is, action_number_lem, set_below}
use Rattle.laws.specs.Members.{ascending_once}
use Rattle.laws.specs.Decimals.{number_decimal, digits_of}
use Rattle.laws.specs.Lines.{Without, split_last, split_at, without_append, read_line, read_end}
use Rattle.laws.specs.Reader.{Accepted}
use Rattle.meaning.specs.Grounded.{good}
use Rattle.meaning.specs.Means.{Good}
use Rattle.demands.specs.Written.{within}
use Rattle.demands.specs.Every.{no_round, no_mark_in, no_mark_out}
use Rattle.demands.specs.Ungrounded
use Ungrounded.{listed, step_counted, step_small}
use Rattle.meaning.specs.PddlWords.{decimal_small, Named, names_are, names_formed, actions_apart}
use Rattle.definitions.specs.Reply.Page.{spaces, free_values}
use Pddl.{object_word, action_word, bracketed, indented, plan_step, plan_from, plan_of, step_text, plan_text, small, folded, is_word_byte, is_word, closed, words_in, PlanLine, add_plan_line}
use Pddl.{read_plan_lines, name_from, object_from, objects_from, action_named, step_from, steps_from}

-- ---- words: letters, digits, `_` and `-`, in whatever letters
abbrev pub Word : List ℕ → Type 0
Word w = T (is_word (folded w))

unfoldable pub Words : List (List ℕ) → Type 0
Words [] = Unit {0}
Words (w ∷ ws) = Word w × Words ws

pub high : (b : ℕ) → T (is_word_byte b) → 45 ≤ b
unfolding is_word_byte is_small is_digit is_between
high b t = ⊎_elim
    (λ q. ⊎_elim (λ q₂. ⊎_elim (λ q₃. let h = leb→le 97 b (T_and_l (leb 97 b) _ q₃) in omega arith) (λ q₃. let h = leb→le 48 b (T_and_l (leb 48 b) _ q₃) in omega arith) (T_or (is_small b) _ q₂)) (λ q₂. let e = eqb→eq b 95 q₂ in omega arith) (T_or (is_small b || is_digit b) _ q))
    (λ q. let e = eqb→eq b 45 q in omega arith) (T_or (is_small b || is_digit b || eqb b 95) _ t)

-- a byte that is no letter stays, and no letter becomes it
small_low : (b sep : ℕ) → sep < 45 → small b ≡ sep → b ≡ sep
unfolding small is_capital is_between
small_low b sep h e = by_test (leb 65 b && leb b 90) refl e
  where
    by_test : (t : Bool) → (leb 65 b && leb b 90) ≡ t → (if t then b + 32 else b) ≡ sep → b ≡ sep
    by_test true q e = absurd (let g = leb→le 65 b (T_and_l (leb 65 b) _ (T_of q)) in omega arith)
    by_test false q e = e

pub low_small : (sep : ℕ) → sep < 45 → small sep ≡ sep
unfolding small is_capital is_between
low_small sep h = rw (lt-leb 65 sep (omega arith)) refl

word_high : (w : List ℕ) → Word w → (sep : ℕ) → sep < 45 → Without sep (folded w)
unfolding is_word
word_high w t sep h = all_of (λ b. not (eqb b sep)) (folded w) (λ b m. not_T (eqb b sep) (λ q. let g = high b (all_at is_word_byte (folded w) (T_and_r (not (is_empty (folded w))) _ t) b m) in let e = eqb→eq b sep q in omega arith))

unfolded_without : (w : List ℕ) (sep : ℕ) → sep < 45 → Without sep (folded w) → Without sep w
unfolding folded all
unfolded_without [] sep h t = tt
unfolded_without (b ∷ w) sep h t = and_T (not (eqb b sep)) _
    (not_T (eqb b sep) (λ q. T_not (eqb (small b) sep) (T_and_l (not (eqb (small b) sep)) _ t) (T_of (eq-eqb (small b) sep (ap small (eqb→eq b sep q) ∙ low_small sep h)))))
    (unfolded_without w sep h (T_and_r (not (eqb (small b) sep)) _ t))

-- ---- words in brackets
closed_back : (t : List ℕ) → closed (t ++ (41 ∷ [])) ≡ some t
unfolding closed option
closed_back [] = refl
closed_back (b ∷ []) = refl
closed_back (b ∷ d ∷ t) = rw (closed_back (d ∷ t)) refl

split_words : (w : List ℕ) (ws : List (List ℕ)) → Words (w ∷ ws) → split 32 (folded w ++ write_each (λ v. v) (map folded ws)) ≡ folded w ∷ map folded ws
unfolding Words write_each
split_words w [] t = ap (split 32) (append-nil (folded w)) ∙ split_last 32 (folded w) (word_high w t.0 32 (omega arith))
split_words w (v ∷ ws) t = split_at 32 (folded w) (folded v ++ write_each (λ v. v) (map folded ws)) (word_high w t.0 32 (omega arith)) ∙ ap (λ (l : List (List ℕ)). folded w ∷ l) (split_words v ws t.1)

words_word : (ws : List (List ℕ)) → Words ws → T (all is_word (map folded ws))
unfolding Words all
words_word [] t = tt
words_word (w ∷ ws) t = and_T (is_word (folded w)) _ t.0 (words_word ws t.1)

fold_each : (ws : List (List ℕ)) → folded (write_each (λ v. v) ws) ≡ write_each (λ v. v) (map folded ws)
unfolding write_each folded
fold_each [] = refl
fold_each (w ∷ ws) = ap₂ ◌∷◌ (low_small 32 (omega arith)) (map-append small w (write_each (λ v. v) ws) ∙ ap (λ (t : List ℕ). map small w ++ t) (fold_each ws))

pub fold_bracketed : (w : List ℕ) (ws : List (List ℕ)) → folded (bracketed (w ∷ ws)) ≡ 40 ∷ ((folded w ++ write_each (λ v. v) (map folded ws)) ++ (41 ∷ []))
unfolding bracketed folded
fold_bracketed w ws = ap₂ ◌∷◌ (low_small 40 (omega arith))
    (map-append small w (write_each (λ v. v) ws ++ (41 ∷ [])) ∙ ap (λ (t : List ℕ). map small w ++ t) (map-append small (write_each (λ v. v) ws) (41 ∷ []) ∙ ap₂ (λ (t : List ℕ) (b : ℕ). t ++ (b ∷ [])) (fold_each ws) (low_small 41 (omega arith)))
    ∙ sym (append_assoc (map small w) (write_each (λ v. v) (map folded ws)) (41 ∷ [])))

pub words_back : (w : List ℕ) (ws : List (List ℕ)) → Words (w ∷ ws) → words_in (folded (bracketed (w ∷ ws))) ≡ some (folded w ∷ map folded ws)
unfolding words_in option
words_back w ws t =
    let e : all is_word (folded w ∷ map folded ws) ≡ true = T_true _ (words_word (w ∷ ws) t) in
    ap words_in (fold_bracketed w ws) ∙ rw (closed_back (folded w ++ write_each (λ v. v) (map folded ws)), split_words w ws t, e) refl

-- and no byte of the line ends it
each_without : (ws : List (List ℕ)) → Words ws → Without 10 (write_each (λ v. v) ws)
unfolding Words write_each all
each_without [] t = tt
each_without (w ∷ ws) t = without_append 10 w (write_each (λ v. v) ws) (unfolded_without w 10 (omega arith) (word_high w t.0 10 (omega arith))) (each_without ws t.1)

pub bracketed_without : (w : List ℕ) (ws : List (List ℕ)) → Words (w ∷ ws) → Without 10 (bracketed (w ∷ ws))
unfolding Words bracketed all
bracketed_without w ws t = without_append 10 w (write_each (λ v. v) ws ++ (41 ∷ [])) (unfolded_without w 10 (omega arith) (word_high w t.0 10 (omega arith))) (without_append 10 (write_each (λ v. v) ws) (41 ∷ []) (each_without ws t.1) tt)

-- ---- letters: a text is read as if all its letters were small
small_twice : (b : ℕ) → small (small b) ≡ small b
unfolding small is_capital is_between
small_twice b = by_test (leb 65 b && leb b 90) refl
  where
    by_test : (t : Bool) → (leb 65 b && leb b 90) ≡ t → (if leb 65 (if t then b + 32 else b) && leb (if t then b + 32 else b) 90 then (if t then b + 32 else b) + 32 else (if t then b + 32 else b)) ≡ (if t then b + 32 else b)
    by_test true q = let g = leb→le 65 b (T_and_l (leb 65 b) _ (T_of q)) in rw (le-leb 65 (b + 32) (omega arith), lt-leb (b + 32) 90 (omega arith)) refl
    by_test false q = rw q refl

folded_twice : (w : List ℕ) → folded (folded w) ≡ folded w
unfolding folded
folded_twice [] = refl
folded_twice (b ∷ w) = ap₂ ◌∷◌ (small_twice b) (folded_twice w)

small_ten : (b : ℕ) → eqb (small b) 10 ≡ eqb b 10
small_ten b = T_ext (eqb (small b) 10) (eqb b 10) (λ t. T_of (eq-eqb b 10 (small_low b 10 (omega arith) (eqb→eq (small b) 10 t)))) (λ t. T_of (eq-eqb (small b) 10 (ap small (eqb→eq b 10 t) ∙ low_small 10 (omega arith))))

on_first_lem : (b : ℕ) (ps : List (List ℕ)) → on_first (small b) (map folded ps) ≡ map folded (on_first b ps)
unfolding on_first folded
on_first_lem b [] = refl
on_first_lem b (p ∷ ps) = refl

split_folded : (t : List ℕ) → split 10 (folded t) ≡ map folded (split 10 t)
unfolding split folded
split_folded [] = refl
split_folded (b ∷ t) = ap (λ (c : Bool). if c then [] ∷ split 10 (map small t) else on_first (small b) (split 10 (map small t))) (small_ten b) ∙ by_test (eqb b 10) (split_folded t)
  where
    by_test : (c : Bool) → split 10 (map small t) ≡ map folded (split 10 t) → (if c then [] ∷ split 10 (map small t) else on_first (small b) (split 10 (map small t))) ≡ map folded (if c then [] ∷ split 10 t else on_first b (split 10 t))
    by_test true e = ap (λ (l : List (List ℕ)). [] ∷ l) e
    by_test false e = ap (on_first (small b)) e ∙ on_first_lem b (split 10 t)

fold_line : Line → Line
fold_line l = record { at = l.at; ended = l.ended; content = folded l.content }

folded_empty : (p : List ℕ) → is_empty (folded p) ≡ is_empty p
unfolding folded is_empty
folded_empty [] = refl
folded_empty (b ∷ p) = refl

folded_length : (p : List ℕ) → length (folded p) ≡ length p
unfolding folded
folded_length p = length-map p small

lines_folded : (at : ℕ) (ps : List (List ℕ)) → lines_from at (map folded ps) ≡ map fold_line (lines_from at ps)
unfolding lines_from fold_line
lines_folded at [] = refl
lines_folded at (p ∷ []) = ap (λ (b : Bool). if b then [] else record { at = at; ended = false; content = folded p } ∷ []) (folded_empty p) ∙ by_test (is_empty p)
  where
    by_test : (b : Bool) → (if b then [] else record { at = at; ended = false; content = folded p } ∷ []) ≡ map fold_line (if b then [] else record { at = at; ended = false; content = p } ∷ [])
    by_test true = refl
    by_test false = refl
lines_folded at (p ∷ q ∷ qs) = ap₂ ◌∷◌ refl (ap (λ (k : ℕ). lines_from (at + k + 1) (map folded (q ∷ qs))) (folded_length p) ∙ lines_folded (at + length p + 1) (q ∷ qs))

line_letters : (ls : List PlanLine) (l : Line) → add_plan_line ls (fold_line l) ≡ add_plan_line ls l
unfolding add_plan_line fold_line
line_letters ls l = rw (folded_twice l.content) refl

read_letters : (ls : List Line) (acc : List PlanLine) → read_lines add_plan_line acc (map fold_line ls) ≡ read_lines add_plan_line acc ls
unfolding read_lines ◌>>=◌
read_letters [] acc = refl
read_letters (l ∷ ls) acc = ap (λ (r : Result (List PlanLine)). r >>= λ s. read_lines add_plan_line s (map fold_line ls)) (line_letters acc l) ∙ by_result (add_plan_line acc l) (read_letters ls)
  where
    by_result : (r : Result (List PlanLine)) → ((acc : List PlanLine) → read_lines add_plan_line acc (map fold_line ls) ≡ read_lines add_plan_line acc ls) → (r >>= λ s. read_lines add_plan_line s (map fold_line ls)) ≡ (r >>= λ s. read_lines add_plan_line s ls)
    by_result (refused k place) h = refl
    by_result (accepted s) h = h s

pub letters : (text : List ℕ) → read_plan_lines (folded text) ≡ read_plan_lines text
unfolding read_plan_lines read_text lines ◌>>=◌
letters text = ap (λ (k : ℕ). refuse_if (ltb text_limit k) 1 zero >>= λ _. read_lines add_plan_line [] (lines_from zero (split 10 (folded text)))) (folded_length text)
    ∙ ap (λ (ls : List Line). refuse_if (ltb text_limit (length text)) 1 zero >>= λ _. read_lines add_plan_line [] ls) (ap (lines_from zero) (split_folded text) ∙ lines_folded zero (split 10 text))
    ∙ by_result (refuse_if (ltb text_limit (length text)) 1 zero)
  where
    by_result : (r : Result (Unit {0})) → (r >>= λ _. read_lines add_plan_line [] (map fold_line (lines_from zero (split 10 text)))) ≡ (r >>= λ _. read_lines add_plan_line [] (lines_from zero (split 10 text)))
    by_result (refused k place) = refl
    by_result (accepted u) = read_letters (lines_from zero (split 10 text)) []

-- ---- what is written for a step is words
word_append : (xs ys : List ℕ) → T (all is_word_byte xs) → T (all is_word_byte ys) → T (all is_word_byte (xs ++ ys))
unfolding all
word_append [] ys a b = b
word_append (x ∷ xs) ys a b = and_T (is_word_byte x) _ (T_and_l (is_word_byte x) _ a) (word_append xs ys (T_and_r (is_word_byte x) _ a) b)

-- a first byte and others
pub word_of : (w : List ℕ) → 0 < length w → T (all is_word_byte (folded w)) → Word w
unfolding is_word is_empty folded
word_of [] h t = absurd (omega arith)
word_of (b ∷ w) h t = t

digit_byte : (b : ℕ) → T (is_digit b) → T (is_word_byte b)
unfolding is_word_byte
digit_byte b t = or_l (is_small b || is_digit b || eqb b 95) _ (or_l (is_small b || is_digit b) _ (or_r (is_small b) _ t))

pub decimal_bytes : (n : ℕ) → T (all is_word_byte (folded (decimal n)))
unfolding decimal
decimal_bytes n = subst (λ (w : List ℕ). T (all is_word_byte w)) (sym (decimal_small n)) (all_of is_word_byte (decimal_in 20 n) (λ b m. digit_byte b (all_at is_digit (decimal_in 20 n) (T_of (digits_of 20 n)) b m)))

name_byte : (b : ℕ) → T (is_capital b || is_digit b || eqb b 95) → T (is_word_byte (small b))
unfolding small is_word_byte is_small is_capital is_between
name_byte b t = by_test (leb 65 b && leb b 90) refl
  where
    by_test : (k : Bool) → (leb 65 b && leb b 90) ≡ k → T (is_word_byte (if k then b + 32 else b))
    by_test true q =
        let g = leb→le 65 b (T_and_l (leb 65 b) _ (T_of q)) in
        let h = leb→le b 90 (T_and_r (leb 65 b) _ (T_of q)) in
        or_l (is_small (b + 32) || is_digit (b + 32) || eqb (b + 32) 95) _ (or_l (is_small (b + 32) || is_digit (b + 32)) _ (or_l (is_small (b + 32)) _ (and_T (leb 97 (b + 32)) _ (T_of (le-leb 97 (b + 32) (omega arith))) (T_of (le-leb (b + 32) 122 (omega arith))))))
    by_test false q = ⊎_elim (λ r. ⊎_elim (λ r₂. absurd (subst T q r₂)) (λ r₂. digit_byte b r₂) (T_or (leb 65 b && leb b 90) _ r)) (λ r. or_l (is_small b || is_digit b || eqb b 95) _ (or_r (is_small b || is_digit b) _ r)) (T_or (is_capital b || is_digit b) _ t)

pub name_bytes : (name : List ℕ) → T (is_relation_name name) → T (all is_word_byte (folded name))
unfolding is_relation_name folded all
name_bytes [] t = tt
name_bytes (b ∷ bs) t =
    let a = T_and_l (is_capital b && all (λ c. is_capital c || is_digit c || eqb c 95) bs) _ t in
    and_T (is_word_byte (small b)) _ (name_byte b (or_l (is_capital b || is_digit b) _ (or_l (is_capital b) _ (T_and_l (is_capital b) _ a)))) (rest bs (T_and_r (is_capital b) _ a))
  where
    rest : (bs : List ℕ) → T (all (λ c. is_capital c || is_digit c || eqb c 95) bs) → T (all is_word_byte (map small bs))
    rest [] t = tt
    rest (b ∷ bs) t = and_T (is_word_byte (small b)) _ (name_byte b (T_and_l (is_capital b || is_digit b || eqb b 95) _ t)) (rest bs (T_and_r (is_capital b || is_digit b || eqb b 95) _ t))

pub folded_append : (xs ys : List ℕ) → T (all is_word_byte (folded xs)) → T (all is_word_byte (folded ys)) → T (all is_word_byte (folded (xs ++ ys)))
unfolding folded
folded_append xs ys a b = subst (λ (w : List ℕ). T (all is_word_byte w)) (sym (map-append small xs ys)) (word_append (map small xs) (map small ys) a b)

pub object_word_lem : (x : ℕ) → Word (object_word x)
unfolding object_word folded small is_capital is_between is_word is_empty all is_word_byte is_small is_digit
object_word_lem x = decimal_bytes x

objects_words : (xs : List ℕ) → Words (map object_word xs)
unfolding Words
objects_words [] = tt
objects_words (x ∷ xs) = (object_word_lem x, objects_words xs)

module _ (c : Case) (A : Accepted c) where
  action_word_lem : (a : ActionName) → Named c a → Word (action_word c a)
  unfolding action_word Named folded small is_capital is_between is_word is_empty all is_word_byte is_small is_digit
  action_word_lem (set_name r) h = folded_append (relation_in c r).name (bytes "_true") (name_bytes (relation_in c r).name (names_formed c A r h.0)) tt
  action_word_lem begin_name h = tt
  action_word_lem goal_name h = tt
  action_word_lem (and_name v) h = decimal_bytes v
  action_word_lem (exists_name v) h = decimal_bytes v
  action_word_lem (first_name v) h = folded_append (decimal v) (bytes "_1") (decimal_bytes v) tt
  action_word_lem (next_name v) h = folded_append (decimal v) (bytes "_2") (decimal_bytes v) tt
  action_word_lem (or_name v i) h = folded_append (decimal v) (bytes "_" ++ decimal i) (decimal_bytes v) (decimal_bytes i)

  -- ---- the name, the objects and the action are read back
  find_only : {B : Type 0} (f : B → Bool) (l : List B) (a : B) → Memᴰ a l → T (f a) → ((b : B) → Memᴰ b l → T (f b) → b ≡ a) → find f l ≡ some a
  unfolding find
  find_only f [] a m t h = absurd (Memᴰ.not-nil m)
  find_only f (b ∷ l) a m t h = by_test (f b) refl (find_only f l a) (Memᴰ.cases_cons m)
    where
      by_test : (k : Bool) → f b ≡ k → (Memᴰ a l → T (f a) → ((d : _) → Memᴰ d l → T (f d) → d ≡ a) → find f l ≡ some a) → (a ≡ b) ⊎ Memᴰ a l → (if k then some b else find f l) ≡ some a
      by_test true e r o = ap some (h b (Memᴰ.head refl) (T_of e))
      by_test false e r (inl q) = absurd (subst T (ap f q ∙ e) t)
      by_test false e r (inr q) = r q t (λ d n u. h d (Memᴰ.tail n) u)

  name_found : (a : ActionName) → Memᴰ a (action_names c) → name_from c (folded (action_word c a)) ≡ some a
  unfolding name_from
  name_found a m = find_only (λ b. same (folded (action_word c b)) (folded (action_word c a))) (action_names c) a m (same_refl (folded (action_word c a))) (λ b k t. actions_apart c A b a k m (same_eq (folded (action_word c b)) (folded (action_word c a)) t))

  abbrev n : ℕ
  n = (problem_of c).size

  few_elements : n ≤ 64
  unfolding problem_of problem_with
  few_elements = A.site_fits.few_elements

  pub object_found : (x : ℕ) → x < n → object_from n (folded (object_word x)) ≡ some x
  unfolding object_from object_word folded small is_capital is_between option
  object_found x h =
      let k = few_elements in
      let e : ltb x n ≡ true = lt-ltb x n h in
      rw (decimal_small x) (rw (number_decimal x (omega arith), e) refl)

  objects_found : (xs : List ℕ) → Below n xs → objects_from n (map folded (map object_word xs)) ≡ some xs
  unfolding objects_from option
  objects_found [] b = refl
  objects_found (x ∷ xs) b = let q = below_cons n x xs b in rw (object_found x q.0, objects_found xs q.1) refl

  G : Good (problem_of c)
  G = good c A

  module _ (v row : ℕ) (h : row < rows_of (problem_of c).size (node_at (problem_of c) v)) where
    abbrev k : ℕ
    k = length (free (node_at (problem_of c) v))

    abbrev xs : List ℕ
    xs = free_values (problem_of c) v row

    row_back : row_of n xs ≡ row
    unfolding free_values rows_of
    row_back = row_places n k row G.element h

    long : length xs ≡ k
    unfolding free_values
    long = length_places n k row

    row_taken : (ys : List ℕ) → row_of n (take k (xs ++ ys)) ≡ row
    row_taken ys = ap (row_of n) (take_at xs ys k long) ∙ row_back

    next_one : (y : ℕ) (ys : List ℕ) → get_or (xs ++ (y ∷ ys)) k 0 ≡ y
    next_one y ys = ap (λ (j : ℕ). get_or (xs ++ (y ∷ ys)) j 0) (sym long) ∙ get_or-append_seam xs y ys 0

    next_two : (y z : ℕ) → get_or (xs ++ (y ∷ z ∷ [])) (suc k) 0 ≡ z
    next_two y z = let e : suc k ≡ length xs + 1 = let q = long in omega arith in ap (λ (j : ℕ). get_or (xs ++ (y ∷ z ∷ [])) j 0) e ∙ get_or-append-add xs (y ∷ z ∷ []) 1 0

  action_back : c.question.every ≡ none → (a : Action) → IsAction (problem_of c) a → action_named (problem_of c) (plan_step (problem_of c) a).name (plan_step (problem_of c) a).objects ≡ some a
  unfolding action_named plan_step IsAction tuples_of
  action_back i (set r row) v = ap (λ (x : ℕ). some (set r x)) (row_places n (relation_at (problem_of c) r).arity row G.element (set_below (problem_of c) r row v))
  action_back i begin_proof v = refl
  action_back i (prove_and v row) (l, h, e) = ap (λ (x : ℕ). some (prove_and v x)) (row_back v row h)
  action_back i (prove_or v row j) (l, h, e) = ap (λ (x : ℕ). some (prove_or v x j)) (row_back v row h)
  action_back i (prove_exists v row x) (l, h, e) = ap₂ (λ (y z : ℕ). some (prove_exists v y z)) (row_taken v row h (x ∷ [])) (next_one v row h x [])
  action_back i (prove_forall v row zero) (l, h, e) = ap (λ (x : ℕ). some (prove_forall v x zero)) (row_back v row h)
  action_back i (prove_forall v row (suc y)) (l, h, e) =
      let a = next_one v row h y (suc y ∷ []) in
      let b = next_two v row h y (suc y) in
      let q : eqb (suc y) (suc y) ≡ true = eq-eqb (suc y) (suc y) refl in
      rw (a, b, q) (ap (λ (x : ℕ). some (prove_forall v x (suc y))) (row_taken v row h (y ∷ suc y ∷ [])))
  action_back i prove_goal v = refl
  action_back i round_end v = absurd (no_round c A i v)
  action_back i (mark_in r row) v = absurd (no_mark_in c A i r row v)
  action_back i (mark_out r row) v = absurd (no_mark_out c A i r row v)

  -- ---- a plan's lines, and where each begins
  plan_lines : ℕ → List PlanStep → List PlanLine
  plan_lines at [] = []
  plan_lines at (t ∷ ts) = record { at = at; words = folded (action_word c t.name) ∷ map folded (map object_word t.objects) } ∷ plan_lines (at + length (bracketed (action_word c t.name ∷ map object_word t.objects)) + 1) ts

  abbrev AllNamed : List PlanStep → Type 0
  AllNamed plan = (t : PlanStep) → Memᴰ t plan → Memᴰ t.name (action_names c)

  step_words : (t : PlanStep) → Memᴰ t.name (action_names c) → Words (action_word c t.name ∷ map object_word t.objects)
  unfolding Words
  step_words t m = (action_word_lem t.name (names_are c t.name m), objects_words t.objects)

  line_added : (acc : List PlanLine) (at : ℕ) (t : PlanStep) → Memᴰ t.name (action_names c)
      → add_plan_line acc (record { at = at; ended = true; content = bracketed (action_word c t.name ∷ map object_word t.objects) }) ≡ accepted (acc ++ (record { at = at; words = folded (action_word c t.name) ∷ map folded (map object_word t.objects) } ∷ []))
  unfolding add_plan_line given ◌>>=◌
  line_added acc at t m = rw (words_back (action_word c t.name) (map object_word t.objects) (step_words t m)) refl

  lines_back : (plan : List PlanStep) (acc : List PlanLine) (at : ℕ) → AllNamed plan → read_lines add_plan_line acc (lines_from at (split 10 (plan_text c plan))) ≡ accepted (acc ++ plan_lines at plan)
  unfolding plan_text flat_map step_text indented spaces plan_lines ◌>>=◌
  lines_back [] acc at h = read_end add_plan_line acc at ∙ ap accepted (sym (append-nil acc))
  lines_back (t ∷ ts) acc at h =
      let m = h t (Memᴰ.head refl) in
      let b : List ℕ = bracketed (action_word c t.name ∷ map object_word t.objects) in
      ap (λ (x : List ℕ). read_lines add_plan_line acc (lines_from at (split 10 x))) (append_assoc b (10 ∷ []) (flat_map (step_text c) ts))
      ∙ read_line add_plan_line acc at b (flat_map (step_text c) ts) (bracketed_without (action_word c t.name) (map object_word t.objects) (step_words t m))
      ∙ ap (λ (r : Result (List PlanLine)). r >>= λ s. read_lines add_plan_line s (lines_from (at + length b + 1) (split 10 (flat_map (step_text c) ts)))) (line_added acc at t m)
      ∙ lines_back ts (acc ++ (record { at = at; words = folded (action_word c t.name) ∷ map folded (map object_word t.objects) } ∷ [])) (at + length b + 1) (λ u k. h u (Memᴰ.tail k))
      ∙ ap accepted (append_assoc acc _ (plan_lines (at + length b + 1) ts))

  module _ (plain : c.question.types ≡ []) (alone : c.question.every ≡ none) where
    abbrev p : Problem
    p = problem_of c

    step_back : (a : Action) → IsAction p a → step_from c p (folded (action_word c (plan_step p a).name) ∷ map folded (map object_word (plan_step p a).objects)) ≡ some (action_number p a)
    unfolding step_from option
    step_back a v =
        let e : eqb (length (plan_step p a).objects) (schema_of c (plan_step p a).name).parameters ≡ true = eq-eqb _ _ (step_counted c A plain alone a v) in
        rw (name_found (plan_step p a).name (listed c A plain alone a v), objects_found (plan_step p a).objects (step_small c A plain alone a v), e, action_back alone a v) refl

    its_number : (k : ℕ) (a : Action) → action_at p k ≡ some a → action_number p a ≡ k
    its_number k a e = action_number_lem p (λ s. ascending_once (p.range s) (G.ranged s).ascends) k a e

    steps_back : (ks : List ℕ) (i at : ℕ) (plan : List PlanStep) → plan_from p i ks ≡ accepted plan → (steps_from c p (plan_lines at plan) ≡ accepted ks) × AllNamed plan × (length plan ≡ length ks)
    unfolding plan_from steps_from plan_lines given ◌>>=◌
    steps_back [] i at plan e = subst (λ (x : List PlanStep). (steps_from c p (plan_lines at x) ≡ accepted []) × AllNamed x × (length x ≡ 0)) (accepted_eq [] plan e) (refl, λ t m. absurd (Memᴰ.not-nil m), refl)
    steps_back (k ∷ ks) i at plan e =
        let (a, q, (rest, r, t)) = Ungrounded.plan_parts c A plain alone k i ks plan e in
        let v = action_is p k a q in
        let (s, h, l) = steps_back ks (suc i) (at + length (bracketed (action_word c (plan_step p a).name ∷ map object_word (plan_step p a).objects)) + 1) rest r in
        subst (λ (x : List PlanStep). (steps_from c p (plan_lines at x) ≡ accepted (k ∷ ks)) × AllNamed x × (length x ≡ suc (length ks))) t
        (rw (step_back a v, s) (ap (λ (j : ℕ). accepted (j ∷ ks)) (its_number k a q)), (λ u m. ⊎_elim (λ z. subst (λ (y : PlanStep). Memᴰ y.name (action_names c)) (sym z) (listed c A plain alone a v)) (λ z. h u z) (Memᴰ.cases_cons m)), ap suc l)

    lines_count : (at : ℕ) (plan : List PlanStep) → length (plan_lines at plan) ≡ length plan
    unfolding plan_lines
    lines_count at [] = refl
    lines_count at (t ∷ ts) = ap suc (lines_count (at + length (bracketed (action_word c t.name ∷ map object_word t.objects)) + 1) ts)

    -- what is written for steps, if it is not too long, is read as lines, as many as there are steps, and these as the steps
    pub plan_back : (steps : List ℕ) (plan : List PlanStep) → plan_of (problem_of c) steps ≡ accepted plan → length (plan_text c plan) ≤ text_limit
        → (ls : List PlanLine) × (read_plan_lines (plan_text c plan) ≡ accepted ls) × (length ls ≡ length steps) × (steps_from c (problem_of c) ls ≡ accepted steps)
    unfolding plan_of read_plan_lines
    plan_back steps plan e l =
        let (s, h, k) = steps_back steps zero zero plan e in
        (plan_lines zero plan, within add_plan_line [] (plan_text c plan) l ∙ lines_back plan [] zero h, lines_count zero plan ∙ k, s)
