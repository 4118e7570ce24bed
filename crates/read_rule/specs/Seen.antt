-- What the code's answers mean. Definitions only.
use Rattle.std.specs.Prelude.{ℕ, zero, suc, ◌+◌, ◌-◌, ◌*◌, ◌≤◌, ◌≡◌, Bool, true, false, not, ◌&&◌, ◌||◌, List, [], ◌∷◌, ◌++◌, length, drop, get_or, eqb, leb, ltb, if◌then◌else◌}
use Rattle.std.proofs.Math.Seq.{slice}
use Rattle.definitions.specs.Limits.{form_limit, nesting_limit}
use Rattle.definitions.specs.Lists.{all, any, option}
use Rattle.read_text.specs.Spans.{kind_of}
use Rattle.read_names.specs.Signatures.{has_arity}
use Rattle.definitions.specs.Sheet.Relations.{Relation, is_total}
use Rattle.definitions.specs.Sheet.Formula.{Formula, Formulas, forms, forms_all, nesting, nesting_all, Quantified, is_known, are_known, is_scoped, are_scoped, is_bound, are_new, is_typed, are_typed, has_type, all_forms}
use Rattle.definitions.specs.Sheet.Parsing.{Res, bad, ok, begins, close, span, Head, is_not, is_implies, is_and, is_or, is_exists, is_forall, is_other, read_formula}
use Rattle.refusal.specs.declared.Cause.{Cause}
use Rattle.refusal.specs.Numbers.{number_of}
use Rattle.read_rule.specs.declared.Kind.{Kind as Form}
use Rattle.read_rule.specs.declared.Kind.TheVariants.{Not, Implies, And, Or, Exists, Forall, Other}
use Rattle.std.specs.Prelude.{Some, None, Ok, Err}
use Rattle.std.specs.Prelude as P
use Rattle.read_rule.specs.declared.Facts.{Facts}
use Rattle.read_rule.specs.declared.Scope.{Scope}
use Rattle.read_rule.specs.declared.Grown.{Grown}

abbrev pub head_of : Form → Head
head_of Not = is_not
head_of Implies = is_implies
head_of And = is_and
head_of Or = is_or
head_of Exists = is_exists
head_of Forall = is_forall
head_of Other = is_other

-- what is found at a place: where it ends and what is said of it, or none where it is not of its form
abbrev pub Scanned : Type 0
Scanned = P.Option (ℕ × Facts)

-- of a text of `len` bytes: the place where the rest begins, and what is said of what was read
unfoldable pub seen : {A : Type 0} → (A → Facts) → ℕ → Res A → Scanned
seen w len bad = None
seen w len (ok a r) = Some (len - length r, w a)

abbrev pub nought : List ℕ → Facts
nought w = record { forms = 0; fits = true; known = true; scoped = true; typed = true }

unfoldable pub shut_of : List ℕ → ℕ → Facts → Scanned
shut_of s at f = elim (begins close (drop at s)) [ true ↦ Some (at + 1, f) | false ↦ None ]

-- the names of a scope's variables
unfoldable pub spans : List ℕ → List ℕ → List ℕ → ℕ → ℕ → List (List ℕ)
spans s F T zero i = []
spans s F T (suc k) i = slice (get_or F i 0) (get_or T i 0) s ∷ spans s F T k (suc i)

unfoldable pub names : List ℕ → Scope → List (List ℕ)
names s sc = spans s sc.from sc.to sc.n 0

-- what is said of variables and formulas. A part "fits" if at most 4 quantifiers nest, those around it included; where it does not,
-- its scopes are not looked at
abbrev pub var_facts : List (List ℕ) → List ℕ → Facts
var_facts sc v = record { forms = 1; fits = true; known = true; scoped = is_bound sc v; typed = true }

abbrev pub vars_facts : List (List ℕ) → List (List ℕ) → Facts
vars_facts sc vs = record { forms = length vs; fits = true; known = true; scoped = all (is_bound sc) vs; typed = true }

-- ... of the variables of a quantifier's list, by the types that are declared
abbrev pub typed_facts : List (List ℕ) → Quantified → Facts
typed_facts types q = record { forms = 1; fits = true; known = true; scoped = true; typed = has_type types q }

abbrev pub more_facts : List (List ℕ) → List Quantified → Facts
more_facts types qs = record { forms = length qs; fits = true; known = true; scoped = true; typed = all (has_type types) qs }

unfoldable pub facts : List Relation → (types scope : List (List ℕ)) → Formula → Facts
facts rs types sc f = record {
  forms = forms f;
  fits = leb (length sc + nesting f) 4;
  known = is_known rs f;
  scoped = leb (length sc + nesting f) 4 && is_scoped sc f;
  typed = is_typed types f;
}

unfoldable pub facts_all : List Relation → (types scope : List (List ℕ)) → Formulas → Facts
facts_all rs types sc fs = record {
  forms = forms_all fs;
  fits = leb (length sc + nesting_all fs) 4;
  known = are_known rs fs;
  scoped = leb (length sc + nesting_all fs) 4 && are_scoped sc fs;
  typed = are_typed types fs;
}

abbrev pub both_facts : Facts → Facts → Facts
both_facts f g = record {
  forms = f.forms + g.forms;
  fits = f.fits && g.fits;
  known = f.known && g.known;
  scoped = f.scoped && g.scoped;
  typed = f.typed && g.typed;
}

abbrev pub one_more : Facts → Facts
one_more f = record { forms = 1 + f.forms; fits = f.fits; known = f.known; scoped = f.scoped; typed = f.typed }

abbrev pub lit_facts : List Relation → List ℕ → Facts → Facts
lit_facts rs name f = record { forms = 1; fits = true; known = any (has_arity name f.forms) rs; scoped = f.scoped; typed = true }

-- of a quantifier, from what is said of its list and of its part
abbrev pub quant_facts : Facts → Bool → Bool → Facts → Facts
quant_facts l fits fresh f = record {
  forms = l.forms + f.forms;
  fits = fits && f.fits;
  known = f.known;
  scoped = (fits && fresh) && f.scoped;
  typed = l.typed && f.typed;
}

-- `r` is the scope of `g` and then these variables
pub record Grows (s : List ℕ) (g : Grown) (vs : List (List ℕ)) (r : Grown) : Type 0 where
  pub small : r.scope.n ≤ 4
  pub fit : r.fits ≡ (g.fits && leb (g.scope.n + length vs) 4)
  pub named : r.fits ≡ true → names s r.scope ≡ names s g.scope ++ vs
  pub new : r.fits ≡ true → r.fresh ≡ (g.fresh && are_new (names s g.scope) vs)

-- where the type after a variable ends
unfoldable pub past_type : List ℕ → ℕ → ℕ
past_type s e = elim (begins (58 ∷ []) (drop e s)) [ true ↦ (e + 1) + span false (drop (e + 1) s) | false ↦ e ]

-- k variables, the first at `at`, one byte between them, without their types
unfoldable pub listed : List ℕ → ℕ → ℕ → List (List ℕ)
listed s at zero = []
listed s at (suc k) = elim (leb (length s) at) [
  | true ↦ []
  | false ↦
      slice at ((at + 1) + span true (drop (at + 1) s)) s ∷ listed s (past_type s ((at + 1) + span true (drop (at + 1) s)) + 1) k
]

-- what a kind adds to the totalities; the joining `and`
unfoldable pub total_of : ℕ → ℕ
total_of k = if is_total (kind_of k) then 1 else 0

unfoldable pub join_of : ℕ → ℕ
join_of t = if eqb t zero then zero else 1

-- the number of the first of two tests that fails
abbrev pub fault_of : Bool → ℕ → Bool → ℕ → ℕ
fault_of a x b y = if not a then x else if not b then y else 0

-- the refusal's number, from what was found of a formula, and from the text
unfoldable pub verdict_of : Facts → ℕ → ℕ
verdict_of f t =
    if ltb form_limit (f.forms + 3 * t + join_of t) || not f.fits then 6
    else if not f.known then 7
    else fault_of f.scoped 8 f.typed 19

unfoldable pub rule_number : List Relation → (types : List (List ℕ)) → (chosen : List Relation) → List ℕ → ℕ
rule_number rs types chosen text =
    option (read_formula text) 5 (λ f.
    if ltb form_limit (all_forms chosen f) || ltb nesting_limit (nesting f) then 6
    else if not (is_known rs f) then 7
    else if not (is_scoped [] f) then 8
    else if not (is_typed types f) then 19
    else 0)

-- the number of what a test finds, 0 where it finds nothing
abbrev pub fault_in : P.Result (Unit {0}) Cause → ℕ
fault_in (Ok u) = 0
fault_in (Err c) = number_of c
