-- What a call answered, and what it read: the laws of `Steps` in the form in which the code's answers use them. Assumes nothing.
use Prim.Native.Nat.{ℕ, ◌+◌, ◌-◌, ◌*◌, ◌^◌, ◌≤◌, ◌<◌}
use native.Mathlib.Omega.{arith}
use mathlib.Core.Path.{◌≡◌, refl, sym, ap, ◌∙◌}
use mathlib.Core.Bool.{true, false}
use mathlib.Core.List.{List, [], ◌∷◌}
use lib.ListN.{length, drop}
use lib.Seq.{slice, drop-drop}
use Rattle.definitions.specs.Sheet.Formula.{not_word, imp_word, join_word, quant_word, ands, ors, somes, everys, Quant, Formula}
use Rattle.definitions.specs.Sheet.Parsing.{Res, begins, Head, is_not, is_implies, is_and, is_or, is_exists, is_forall, is_other, kind_of, read_body}
use Rattle.definitions.specs.Sheet.Parsing.{read_lit, read_neg, read_imp, read_join, read_quant, read_parts, read_typed, read_more, read_word}
use Rattle.definitions.specs.Sheet.Parsing.{read_var, read_vars, read}
use Rattle.laws.specs.Writing.{KindIs}
use Rattle.definitions.specs.Sheet.Relations.{Relation}
use Rattle.read_rule.specs.Seen.{head_of, seen, names, facts, facts_all, typed_facts, more_facts, both_facts}
use Rattle.read_rule.specs.Seen.{quant_facts, nought, var_facts, vars_facts, lit_facts, shut_of, Grows, listed}
use Rattle.read_rule.specs.Steps.{Hit, hit, room, fit_read, fit_parts, fit_typed, fit_more, quant_ok, lit_ok, read_as, kind_begins}
use Rattle.read_rule.specs.declared.Facts.{Facts}
use Rattle.read_names.specs.Signatures.{lent_of, all_of, types_in}
use Rattle.read_rule.specs.Turns.{after, turn_next, turn_weight}
use Rattle.read_rule.specs.Bound.{list_facts, bound_facts}
use Rattle.read_rule.specs.declared.Scope.{Scope}
use Rattle.read_rule.specs.declared.Grown.{Grown}
use Rattle.read_rule.specs.declared.Kind.{Kind as Form}
use Rattle.read_rule.specs.Seen.{Scanned}
use Rattle.std.specs.Prelude.{Some}

-- a formula that was found, by a signature whose arrays are lent; and further parts
abbrev pub Part : (s from to arity : List ℕ) (m : ℕ) (sc : Scope) (k at next : ℕ) → Facts → Type 0
Part s from to arity m sc k at next n =
    Hit (facts (all_of s (lent_of from to arity m)) (types_in s from to 8) (names s sc)) s at (read k (drop at s)) next n

pub found : (rs : List Relation) (types sc : List (List ℕ)) (s : List ℕ) (k : ℕ) {at next : ℕ} {n : Facts} {r : Scanned} → at ≤ length s
    → r ≡ Some (next, n) → r ≡ seen (facts rs types sc) (length s) (read k (drop at s))
    → Hit (facts rs types sc) s at (read k (drop at s)) next n
found rs types sc s k h told e = hit _ _ _ _ _ _ (fit_read _ _ _ _ _) h (sym told ∙ e)

pub found_parts : (rs : List Relation) (types sc : List (List ℕ)) (s : List ℕ) (k left : ℕ) {at next : ℕ} {n : Facts} {r : Scanned} → at ≤ length s
    → r ≡ Some (next, n) → r ≡ seen (facts_all rs types sc) (length s) (read_parts (read k) left (drop at s))
    → Hit (facts_all rs types sc) s at (read_parts (read k) left (drop at s)) next n
found_parts rs types sc s k left h told e = hit _ _ _ _ _ _ (fit_parts _ _ _ _ _ _) h (sym told ∙ e)

-- what was read is in the text, and there is room for one form more
pub one_fits : {A : Type 0} {w : A → Facts} {s : List ℕ} {at next : ℕ} {x : Res A} {n : Facts} → Hit w s at x next n → length s * 1 < 2 ^ 63
    → (next ≤ length s) × (n.forms + 1 < 2 ^ 64)
one_fits f l = (f.within, omega arith)

pub two_fit : {A B : Type 0} {w : A → Facts} {v : B → Facts} {s : List ℕ} {at a to b : ℕ} {x : Res A} {y : Res B} {n m : Facts} → Hit w s at x a n
    → Hit v s to y b m → length s * 1 < 2 ^ 63 → (b ≤ length s) × (n.forms + m.forms + 1 < 2 ^ 64)
two_fit f g l = (g.within, omega arith)

-- a space after it
pub past_space : {A : Type 0} {w : A → Facts} {s : List ℕ} {at next : ℕ} {x : Res A} {n : Facts} → Hit w s at x next n
    → begins (32 ∷ []) (drop next s) ≡ true → next + 1 ≤ length s
past_space f e = room (32 ∷ []) _ _ f.within e

-- a literal that was read to its end; `all` is said of its variables
pub lit_done : (rs : List Relation) (types sc : List (List ℕ)) {s : List ℕ} (at : ℕ) {a b e : ℕ} {z y m all : Facts}
    → begins (40 ∷ []) (drop at s) ≡ true → Hit nought s (at + 1) (read_word false (drop (at + 1) s)) a z
    → begins (32 ∷ []) (drop a s) ≡ true → Hit (var_facts sc) s (a + 1) (read_var (drop (a + 1) s)) b y → length sc ≤ 4
    → Hit (vars_facts sc) s b (read_vars (length s - b) (drop b s)) e m → all ≡ both_facts y m
    → shut_of s e (lit_facts rs (slice (at + 1) a s) all) ≡ seen (facts rs types sc) (length s) (read_lit (drop at s))
lit_done rs types sc at o n g v le vs q = rw q (lit_ok rs types sc _ at o _ _ n g _ _ v le _ _ vs)

-- a turn of a loop over parts, each after a space
pub turn : {A : Type 0} {w : A → Facts} {s : List ℕ} {i next : ℕ} {x : Res A} {one now : Facts} {all rest : Scanned} (said : Facts) (more : Scanned)
    → Hit w s (i + 1) x next one → now ≡ both_facts said one → said.forms ≤ i → all ≡ after said rest → rest ≡ after one more
    → (next ≤ length s) × (now.forms ≤ next) × (all ≡ after now more)
turn said more h both le inv e = (h.within, turn_weight _ _ said _ _ both le h.small, turn_next _ _ said inv more _ _ both e)

-- the list of a quantifier that was found: its first variable and the others
pub record Listed (types : List (List ℕ)) (s : List ℕ) (at a b : ℕ) (n m : Facts) : Type 0 where
  pub one : Hit (typed_facts types) s at (read_typed (drop at s)) a n
  pub others : Hit (more_facts types) s a (read_more 3 (drop a s)) b m

pub found_typed : (types : List (List ℕ)) (s : List ℕ) {at next : ℕ} {n : Facts} {r : Scanned} → at ≤ length s → r ≡ Some (next, n)
    → r ≡ seen (typed_facts types) (length s) (read_typed (drop at s)) → Hit (typed_facts types) s at (read_typed (drop at s)) next n
found_typed types s h told e = hit _ _ _ _ _ _ (fit_typed _ _) h (sym told ∙ e)

pub found_list : (types : List (List ℕ)) (s : List ℕ) {at a b : ℕ} {n m : Facts} {r : Scanned}
    → Hit (typed_facts types) s at (read_typed (drop at s)) a n → r ≡ Some (b, m) → r ≡ seen (more_facts types) (length s) (read_more 3 (drop a s))
    → Listed types s at a b n m
found_list types s h told e = record { one = h; others = hit _ _ _ _ _ _ (fit_more _ _ _) h.within (sym told ∙ e) }

module _ {types : List (List ℕ)} {s : List ℕ} {at a b : ℕ} {n m : Facts} (l : Listed types s at a b n m) where
  pub past_list : begins (41 ∷ 32 ∷ []) (drop b s) ≡ true → b + 2 ≤ length s
  past_list e = room (41 ∷ 32 ∷ []) s b l.others.within e

  module _ {all : Facts} (both : all ≡ both_facts n m) where
    pub quant_fits : {A : Type 0} {w : A → Facts} {x : Res A} {e : ℕ} {f : Facts} → Hit w s (b + 2) x e f → length s * 1 < 2 ^ 63
        → (e ≤ length s) × (all.forms + f.forms < 2 ^ 64)
    quant_fits h len = (h.within, omega (arith, ap (λ (x : Facts). x.forms) both, l.one.small, l.others.small, h.small, h.within))

    pub quant_done : (rs : List Relation) (sc : Scope) {g : Grown} (k : ℕ) {e : ℕ} {f : Facts} → begins (41 ∷ 32 ∷ []) (drop b s) ≡ true
        → Grows s (record { scope = sc; fits = true; fresh = true }) (listed s at all.forms) g
        → Hit (facts rs types (names s g.scope)) s (b + 2) (read k (drop (b + 2) s)) e f → (q : Quant)
        → shut_of s e (quant_facts all g.fits g.fresh f) ≡ seen (facts rs types (names s sc)) (length s) (read_quant (read k) q (drop at s))
    quant_done rs sc {g} k {e} {f} stop grown h q =
        let list : all ≡ more_facts types (l.one.got ∷ l.others.got) = list_facts _ _ _ _ _ _ l.one.counted l.others.counted both in
        quant_ok rs types (names s sc) s at (read k) q a n l.one b m l.others _ stop e f h _
        (bound_facts rs types s sc at a b _ _ all g q _ f l.one.is l.others.is stop list grown h.counted)

-- ---- a formula, by the word with which it begins
abbrev pub past_word : Head → ℕ → ℕ
past_word is_not at = at + 5
past_word is_implies at = at + 9
past_word is_and at = at + 5
past_word is_or at = at + 4
past_word is_exists at = at + 9
past_word is_forall at = at + 9
past_word is_other at = at

abbrev pub rest_of : (List ℕ → Res Formula) → Head → List ℕ → Res Formula
rest_of g is_not l = read_neg g l
rest_of g is_implies l = read_imp g l
rest_of g is_and l = read_join g ands l
rest_of g is_or l = read_join g ors l
rest_of g is_exists l = read_quant g somes l
rest_of g is_forall l = read_quant g everys l
rest_of g is_other l = read_lit l

word_there : (d : Head) (s : List ℕ) (at : ℕ) → at ≤ length s → KindIs d (drop at s) → past_word d at ≤ length s
word_there is_not s at h e = room not_word s at h e
word_there is_implies s at h e = room imp_word s at h e
word_there is_and s at h e = room (join_word ands) s at h e
word_there is_or s at h e = room (join_word ors) s at h e
word_there is_exists s at h e = room (quant_word somes) s at h e
word_there is_forall s at h e = room (quant_word everys) s at h e
word_there is_other s at h e = h

body_as : (g : List ℕ → Res Formula) (d : Head) (s : List ℕ) (at : ℕ) → rest_of g d (drop (past_word d at) s) ≡ read_body g d (drop at s)
body_as g is_not s at = rw (drop-drop 5 at s)
body_as g is_implies s at = rw (drop-drop 9 at s)
body_as g is_and s at = rw (drop-drop 5 at s)
body_as g is_or s at = rw (drop-drop 4 at s)
body_as g is_exists s at = rw (drop-drop 9 at s)
body_as g is_forall s at = rw (drop-drop 9 at s)
body_as g is_other s at = refl

-- the word is in the text; what is read after it is what is read of the formula
module _ (k : Form) {f : Form} (told : f ≡ k) (s : List ℕ) (at : ℕ) (e : head_of f ≡ kind_of (drop at s)) where
  head_is : head_of k ≡ kind_of (drop at s)
  head_is = ap (λ (x : Form). head_of x) (sym told) ∙ e

  pub word_in : at ≤ length s → past_word (head_of k) at ≤ length s
  word_in h = word_there (head_of k) s at h (kind_begins [] [] [] s at 0 (head_of k) head_is)

  pub read_after : (rs : List Relation) (types sc : List (List ℕ)) (n : ℕ) → (n ≡ 0 → ⊥)
      → seen (facts rs types sc) (length s) (rest_of (read (n - 1)) (head_of k) (drop (past_word (head_of k) at) s))
      ≡ seen (facts rs types sc) (length s) (read n (drop at s))
  read_after rs types sc n q = rw (body_as (read (n - 1)) (head_of k) s at) (read_as rs types sc s at n q (head_of k) head_is)
