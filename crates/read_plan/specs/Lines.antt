-- The lines of a plan from a place on, as far as they are read; and their steps, as far as they are written. Assumes nothing.
use Rattle.std.specs.Prelude.{Ok, Err}
use Rattle.std.specs.Prelude as P
use Rattle.refusal.specs.declared.Cause.{Cause}
use Rattle.refusal.specs.declared.Cause.TheVariants.{NoRecord}
use Rattle.refusal.specs.declared.Refusal.{Refusal}
use Rattle.refusal.specs.Numbers.{number_of}
use Rattle.std.specs.Prelude.{ℕ, ◌+◌, ◌-◌, ◌≤◌, ◌<◌, ◌≡◌, Bool, true, false, eqb, ltb, get_or, if◌then◌else◌}
use Rattle.std.proofs.Math.Path.{refl, sym, ap, ap₂, subst}
use Rattle.std.proofs.Common.{◌∙◌, arith, lt-ltb, le-ltb, ltb-true, ltb-false}
use Rattle.std.proofs.Math.Option.{Option, none, some}
use mathlib.Core.List.{List, [], ◌∷◌, ◌++◌, append_assoc, append-nil}
use Rattle.std.proofs.Math.ListN.{length, set, length-append}
use Rattle.std.proofs.Math.Seq.{slice, length-slice}
use Rattle.definitions.specs.Limits.{text_limit}
use Rattle.definitions.specs.Lists.{all, is_some, is_empty}
use Rattle.definitions.specs.Sheet.Text.{Line, split, lines, lines_from}
use Rattle.definitions.specs.Refusal.{Result, refused, accepted, ◌>>=◌, refuse_if, given, read_lines, read_text}
use Rattle.definitions.specs.Problem.Truth.{Case}
use Rattle.definitions.specs.Problem.Atoms.{Problem}
use Rattle.definitions.specs.Reply.Pddl.{folded, is_word, words_in, PlanLine, add_plan_line, read_plan_lines, step_from, steps_from}
use Rattle.laws.specs.Results.{accepted_eq, bind_parts, refused_accepted}
use Rattle.read_text.specs.Spans.{index_of}
use Rattle.read_text.proofs.Laws.{slice_all, pieces_at, pieces_whole, split_some}
use Rattle.read_line.specs.Lines.{lines_at}
use Rattle.read_line.proofs.Fields.{lines_stop}
use Rattle.print_line.specs.Printed.{print, print_parts, print_none}
use Rattle.read_plan.specs.Spelled.{words_of, words_parts, words_short}

-- ---- one line: up to its end, or up to the text's where it has none
lines_more : (at : ℕ) (p : List ℕ) (qs : List (List ℕ)) → 0 < length qs → lines_from at (p ∷ qs) ≡ record { at = at; ended = true; content = p } ∷ lines_from (at + length p + 1) qs
unfolding lines_from
lines_more at p [] h = absurd (omega arith)
lines_more at p (q ∷ qs) h = refl

not_empty : (p : List ℕ) → 0 < length p → is_empty p ≡ false
unfolding is_empty
not_empty [] h = absurd (omega arith)
not_empty (x ∷ p) h = refl

module _ (s : List ℕ) (at w : ℕ) (here : at < length s) (q : w ≡ at + index_of 10 (slice at (length s) s)) where
  line_here : w < length s → lines_at s at ≡ record { at = at; ended = true; content = slice at w s } ∷ lines_at s (w + 1)
  unfolding lines_at
  line_here l =
      let n : at + length (slice at w s) + 1 ≡ w + 1 = omega (arith, length-slice at w s (omega arith)) in
      rw (← slice_all at s, pieces_at 10 at (length s) s (omega arith) (omega arith) w q l, lines_more at (slice at w s) (split 10 (slice (w + 1) (length s) s)) (split_some 10 (slice (w + 1) (length s) s)), n, slice_all (w + 1) s)

  line_open : length s ≤ w → lines_at s at ≡ record { at = at; ended = false; content = slice at (length s) s } ∷ []
  unfolding lines_at lines_from
  line_open l = rw (← slice_all at s, pieces_whole 10 at (length s) s (omega arith) (omega arith) w q l, not_empty (slice at (length s) s) (omega (arith, length-slice at (length s) s (omega arith))))

-- ---- the lines from a place on, after others
abbrev pub read_from : List ℕ → ℕ → List PlanLine → Result (List PlanLine)
read_from s at acc = read_lines add_plan_line acc (lines_at s at)

pub read_over : (s : List ℕ) → text_limit < length s → read_plan_lines s ≡ refused 1 0
unfolding read_plan_lines read_text refuse_if ◌>>=◌
read_over s h = rw (lt-ltb text_limit (length s) h)

pub read_first : (s : List ℕ) → length s ≤ text_limit → read_plan_lines s ≡ read_from s 0 []
unfolding read_plan_lines read_text refuse_if ◌>>=◌ lines_at lines
read_first s h = rw (le-ltb text_limit (length s) h)

module _ (s : List ℕ) (at w : ℕ) (here : at < length s) (q : w ≡ at + index_of 10 (slice at (length s) s)) (acc : List PlanLine) where
  read_line : w < length s → (o : Option (List (List ℕ))) → words_in (folded (slice at w s)) ≡ o → read_from s at acc ≡ (given o 2 at >>= λ ws. accepted (acc ++ (record { at = at; words = ws } ∷ []))) >>= read_from s (w + 1)
  unfolding read_lines add_plan_line
  read_line l o e = rw (line_here s at w here q l, e) refl

  read_some : w < length s → (ws : List (List ℕ)) → words_in (folded (slice at w s)) ≡ some ws → read_from s at acc ≡ read_from s (w + 1) (acc ++ (record { at = at; words = ws } ∷ []))
  unfolding given ◌>>=◌
  read_some l ws e = read_line l (some ws) e

  read_none : w < length s → words_in (folded (slice at w s)) ≡ none → read_from s at acc ≡ refused 2 at
  unfolding given ◌>>=◌
  read_none l e = read_line l none e

  read_open : length s ≤ w → read_from s at acc ≡ refused 2 at
  unfolding read_lines add_plan_line given ◌>>=◌
  read_open l = rw (line_open s at w here q l) refl

read_stop : (s : List ℕ) (at : ℕ) (acc : List PlanLine) → at ≡ length s → read_from s at acc ≡ accepted acc
unfolding read_lines
read_stop s at acc q = rw (lines_stop s at q)

-- ---- how the lines are formed: a refusal, or how many they are
unfoldable pub FormedAs : Result (List PlanLine) → P.Result ℕ Refusal → Type 0
FormedAs (refused k at) (Err e) = (number_of e.cause ≡ k) × (e.place ≡ at)
FormedAs (refused k at) (Ok count) = ⊥
FormedAs (accepted ls) (Err e) = ⊥
FormedAs (accepted ls) (Ok count) = count ≡ length ls

pub formed_refused : (s : List ℕ) (c : Cause) (place : ℕ) → read_plan_lines s ≡ refused (number_of c) place → FormedAs (read_plan_lines s) (Err (record { cause = c; place = place }))
unfolding FormedAs
formed_refused s c place e = rw e (refl, refl)

-- so many lines were read
unfoldable pub Going : List ℕ → (at count : ℕ) → Type 0
Going s at count = (acc : List PlanLine) × (read_plan_lines s ≡ read_from s at acc) × (length acc ≡ count)

pub going_first : (s : List ℕ) → length s ≤ text_limit → Going s 0 0
unfolding Going
going_first s h = ([], read_first s h, refl)

some_is : {A : Type 0} (o : Option A) → is_some o ≡ true → (a : A) × (o ≡ some a)
unfolding is_some
some_is none e = let z : ◌≡◌ {A = ℕ} 0 1 = cc in absurd (omega arith)
some_is (some a) e = (a, refl)

none_is : {A : Type 0} (o : Option A) → is_some o ≡ false → o ≡ none
unfolding is_some
none_is none e = refl
none_is (some a) e = let z : ◌≡◌ {A = ℕ} 0 1 = cc in absurd (omega arith)

module _ (s : List ℕ) (at w count : ℕ) (here : at < length s) (q : w ≡ at + index_of 10 (slice at (length s) s)) (going : Going s at count) where
  pub going_on : w < length s → is_some (words_in (folded (slice at w s))) ≡ true → Going s (w + 1) (count + 1)
  unfolding Going
  going_on l e =
      let (acc, r, n) = going in
      let (ws, m) = some_is (words_in (folded (slice at w s))) e in
      (acc ++ (record { at = at; words = ws } ∷ []), r ∙ read_some s at w here q acc l ws m, omega (arith, length-append acc (record { at = at; words = ws } ∷ [])))

  pub going_wrong : w < length s → is_some (words_in (folded (slice at w s))) ≡ false → FormedAs (read_plan_lines s) (Err (record { cause = NoRecord; place = at }))
  unfolding Going
  going_wrong l e = let (acc, r, n) = going in formed_refused s NoRecord at (r ∙ read_none s at w here q acc l (none_is (words_in (folded (slice at w s))) e))

  pub going_open : length s ≤ w → FormedAs (read_plan_lines s) (Err (record { cause = NoRecord; place = at }))
  unfolding Going
  going_open l = let (acc, r, n) = going in formed_refused s NoRecord at (r ∙ read_open s at w here q acc l)

pub going_end : (s : List ℕ) (at count : ℕ) → at ≡ length s → Going s at count → FormedAs (read_plan_lines s) (Ok count)
unfolding Going FormedAs
going_end s at count e (acc, r, n) = rw (r ∙ read_stop s at acc e) (sym n)

-- ---- the steps of lines that were read
pub read_within : (s : List ℕ) (ls : List PlanLine) → read_plan_lines s ≡ accepted ls → length s ≤ text_limit
read_within s ls e = by_test (ltb text_limit (length s)) refl
  where
    by_test : (b : Bool) → ltb text_limit (length s) ≡ b → length s ≤ text_limit
    by_test true t = absurd (refused_accepted (sym (read_over s (ltb-true text_limit (length s) t)) ∙ e))
    by_test false t = ltb-false text_limit (length s) t

-- a turn: the line is words in brackets
pub record Turn (s : List ℕ) (ls : List PlanLine) (at w : ℕ) (acc : List PlanLine) : Type 0 where
  pub ended : w < length s
  pub wide : at + 2 ≤ w
  pub next : read_from s (w + 1) (acc ++ (record { at = at; words = split 32 (folded (slice (at + 1) (w - 1) s)) } ∷ [])) ≡ accepted ls

words_are : (t : List ℕ) (ws : List (List ℕ)) → words_of t ≡ some ws → ws ≡ split 32 t
unfolding words_of
words_are t ws e = by_test (all is_word (split 32 t)) e
  where
    by_test : (b : Bool) → (if b then some (split 32 t) else none) ≡ some ws → ws ≡ split 32 t
    by_test true e = cc
    by_test false e = let z : ◌≡◌ {A = ℕ} 0 1 = cc in absurd (omega arith)

module _ (s : List ℕ) (ls : List PlanLine) (at w : ℕ) (here : at < length s) (q : w ≡ at + index_of 10 (slice at (length s) s)) (acc : List PlanLine) (rest : read_from s at acc ≡ accepted ls) where
  pub turn : Turn s ls at w acc
  turn = by_end (ltb w (length s)) refl
    where
      by_words : w < length s → (o : Option (List (List ℕ))) → words_in (folded (slice at w s)) ≡ o → Turn s ls at w acc
      by_words l none e = absurd (refused_accepted (sym (read_none s at w here q acc l e) ∙ rest))
      by_words l (some ws) e = by_length (ltb w (at + 2)) refl
        where
          by_length : (b : Bool) → ltb w (at + 2) ≡ b → Turn s ls at w acc
          by_length true t = let z : none ≡ some ws = sym (words_short s at w (omega arith) (omega arith) (ltb-true w (at + 2) t)) ∙ e in let y : ◌≡◌ {A = ℕ} 0 1 = cc in absurd (omega arith)
          by_length false t =
              let h : at + 2 ≤ w = ltb-false w (at + 2) t in
              let m : ws ≡ split 32 (folded (slice (at + 1) (w - 1) s)) = by_brackets (eqb (get_or s at 0) 40) (eqb (get_or s (w - 1) 0) 41) (sym (words_parts s at w (omega arith) h) ∙ e) in
              record { ended = l; wide = h; next = subst (λ (x : List (List ℕ)). read_from s (w + 1) (acc ++ (record { at = at; words = x } ∷ [])) ≡ accepted ls) m (sym (read_some s at w here q acc l ws e) ∙ rest) }
            where
              by_brackets : (x y : Bool) → (if x then (if y then words_of (folded (slice (at + 1) (w - 1) s)) else none) else none) ≡ some ws → ws ≡ split 32 (folded (slice (at + 1) (w - 1) s))
              by_brackets true true f = words_are (folded (slice (at + 1) (w - 1) s)) ws f
              by_brackets true false f = let z : ◌≡◌ {A = ℕ} 0 1 = cc in absurd (omega arith)
              by_brackets false y f = let z : ◌≡◌ {A = ℕ} 0 1 = cc in absurd (omega arith)

      by_end : (b : Bool) → ltb w (length s) ≡ b → Turn s ls at w acc
      by_end true t = by_words (ltb-true w (length s) t) (words_in (folded (slice at w s))) refl
      by_end false t = absurd (refused_accepted (sym (read_open s at w here q acc (ltb-false w (length s) t)) ∙ rest))

-- ---- steps that are written
module _ (c : Case) (p : Problem) where
  steps_append : (acc more : List PlanLine) (ks : List ℕ) → steps_from c p acc ≡ accepted ks → steps_from c p (acc ++ more) ≡ (steps_from c p more >>= λ js. accepted (ks ++ js))
  unfolding steps_from ◌>>=◌
  steps_append [] more ks e = subst (λ (x : List ℕ). steps_from c p more ≡ (steps_from c p more >>= λ js. accepted (x ++ js))) (accepted_eq [] ks e) (by_result (steps_from c p more))
    where
      by_result : (r : Result (List ℕ)) → r ≡ (r >>= λ js. accepted js)
      by_result (refused k at) = refl
      by_result (accepted js) = refl
  steps_append (l ∷ acc) more ks e =
      let (k, a, f) = bind_parts (given (step_from c p l.words) 22 l.at) _ ks e in
      let (js, b, g) = bind_parts (steps_from c p acc) _ ks f in
      rw (a, steps_append acc more js b) (by_result (steps_from c p more) k js (accepted_eq (k ∷ js) ks g))
    where
      by_result : (r : Result (List ℕ)) (k : ℕ) (js : List ℕ) → k ∷ js ≡ ks → ((r >>= λ is. accepted (js ++ is)) >>= λ is. accepted (k ∷ is)) ≡ (r >>= λ is. accepted (ks ++ is))
      by_result (refused j at) k js h = refl
      by_result (accepted is) k js h = ap (λ (x : List ℕ). accepted (x ++ is)) h

  module _ (acc : List PlanLine) (ks : List ℕ) (e : steps_from c p acc ≡ accepted ks) (at : ℕ) (ws : List (List ℕ)) where
    steps_more : (k : ℕ) → step_from c p ws ≡ some k → steps_from c p (acc ++ (record { at = at; words = ws } ∷ [])) ≡ accepted (ks ++ (k ∷ []))
    unfolding steps_from given ◌>>=◌
    steps_more k f = steps_append acc _ ks e ∙ rw f refl

    steps_stop : step_from c p ws ≡ none → (more : List PlanLine) → steps_from c p (acc ++ (record { at = at; words = ws } ∷ more)) ≡ refused 22 at
    unfolding steps_from given ◌>>=◌
    steps_stop f more = steps_append acc _ ks e ∙ rw f refl

-- what was read stays at the front
reads_more : (acc : List PlanLine) (xs : List Line) (ls : List PlanLine) → read_lines add_plan_line acc xs ≡ accepted ls → (more : List PlanLine) × (ls ≡ acc ++ more)
unfolding read_lines add_plan_line
reads_more acc [] ls e = ([], sym (accepted_eq acc ls e) ∙ sym (append-nil acc))
reads_more acc (x ∷ xs) ls e =
    let (st, a, f) = bind_parts (given (if x.ended then words_in (folded x.content) else none) 2 x.at >>= λ ws. accepted (acc ++ (record { at = x.at; words = ws } ∷ []))) _ ls e in
    let (ws, b, g) = bind_parts (given (if x.ended then words_in (folded x.content) else none) 2 x.at) _ st a in
    let (more, h) = reads_more st xs ls f in
    (record { at = x.at; words = ws } ∷ more, h ∙ ap (λ (y : List PlanLine). y ++ more) (sym (accepted_eq _ st g)) ∙ append_assoc acc (record { at = x.at; words = ws } ∷ []) more)

-- the steps of the lines before a place stand in the table
pub record Wrote (c : Case) (p : Problem) (acc : List PlanLine) (old : List ℕ) (count : ℕ) (out : List ℕ) : Type 0 where
  pub numbers : List ℕ
  pub are : steps_from c p acc ≡ accepted numbers
  pub many : length numbers ≡ count
  pub table : out ≡ print old 0 numbers

pub wrote_none : (c : Case) (p : Problem) (old : List ℕ) → Wrote c p [] old 0 old
unfolding steps_from
wrote_none c p old = record { numbers = []; are = refl; many = refl; table = sym (print_none old 0) }

module _ (c : Case) (p : Problem) (acc : List PlanLine) (old : List ℕ) (count : ℕ) (out : List ℕ) (W : Wrote c p acc old count out) (at : ℕ) (ws : List (List ℕ)) where
  pub wrote_more : (k : ℕ) → step_from c p ws ≡ some k → Wrote c p (acc ++ (record { at = at; words = ws } ∷ [])) old (count + 1) (set out count k)
  unfolding print
  wrote_more k f =
      let z : 0 + length W.numbers ≡ count = omega (arith, W.many) in
      record {
        numbers = W.numbers ++ (k ∷ []);
        are = steps_more c p acc W.numbers W.are at ws k f;
        many = omega (arith, length-append W.numbers (k ∷ []), W.many);
        table = ap₂ (λ (x : List ℕ) (i : ℕ). set x i k) W.table (sym z) ∙ sym (print_parts W.numbers (k ∷ []) old 0);
      }

  pub wrote_stop : (s : List ℕ) (ls : List PlanLine) (w : ℕ) → read_from s w (acc ++ (record { at = at; words = ws } ∷ [])) ≡ accepted ls → step_from c p ws ≡ none → steps_from c p ls ≡ refused 22 at
  wrote_stop s ls w e f =
      let (more, h) = reads_more (acc ++ (record { at = at; words = ws } ∷ [])) (lines_at s w) ls e in
      ap (steps_from c p) (h ∙ append_assoc acc (record { at = at; words = ws } ∷ []) more) ∙ steps_stop c p acc W.numbers W.are at ws f more

-- all lines are gone through
pub wrote_all : (c : Case) (p : Problem) (s : List ℕ) (ls acc : List PlanLine) (old : List ℕ) (at count : ℕ) (out : List ℕ) → read_from s at acc ≡ accepted ls → at ≡ length s → Wrote c p acc old count out → Wrote c p ls old count out
wrote_all c p s ls acc old at count out e h W = subst (λ (x : List PlanLine). Wrote c p x old count out) (accepted_eq acc ls (sym (read_stop s at acc h) ∙ e)) W
