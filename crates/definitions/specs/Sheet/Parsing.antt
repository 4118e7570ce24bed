-- Reading a formula, the inverse of writing it. `Writing` proves that this takes exactly the texts that `Formula.write` gives for
-- well-formed formulas, and gives back the formula, so nothing here needs to be believed.
use Rattle.std.specs.Prelude.{ℕ, zero, suc, ◌-◌, Bool, true, false, ◌&&◌, ◌||◌, List, [], ◌∷◌, length, take, drop, eqb, leb}
use Rattle.std.proofs.Math.Option.{Option, none, some}
use Rattle.definitions.specs.Limits.{name_limit, variable_limit, list_limit, bracket_limit}
use Rattle.definitions.specs.Sheet.Text.{is_capital, is_small, is_digit}
use Rattle.definitions.specs.Sheet.Formula.{Quantified, Formula, Formulas, literal, negation, implication, nil, cons, Join, ands, ors, Quant, somes, everys, join, quant, join_word, quant_word, not_word, imp_word}

-- what is read, and the bytes after it
pub data Res (A : Type 0) : Type 0 where
  bad : Res A
  ok : A → List ℕ → Res A

abbrev pub and_then : {A B : Type 0} → Res A → (A → List ℕ → Res B) → Res B
and_then bad k = bad
and_then (ok a l) k = k a l

-- does l begin with p; pass over p, which must come next
unfoldable pub begins : List ℕ → List ℕ → Bool
begins [] l = true
begins (a ∷ p) [] = false
begins (a ∷ p) (b ∷ l) = eqb a b && begins p l

unfoldable pub want : {A : Type 0} → List ℕ → A → List ℕ → Res A
want p a l = elim (begins p l) [ true ↦ ok a (drop (length p) l) | false ↦ bad ]

-- words: what a word begins with, what may stand in it, and how long it may be. `true` is a variable without its `?`, `false` a
-- relation's name.
abbrev pub first : Bool → ℕ → Bool
first true c = is_small c
first false c = is_capital c

abbrev pub inside : Bool → ℕ → Bool
inside b c = first b c || is_digit c || eqb c 95

abbrev pub longest : Bool → ℕ
longest true = variable_limit - 1
longest false = name_limit

-- how many bytes at the front may stand inside a word
unfoldable pub span : Bool → List ℕ → ℕ
span b [] = 0
span b (c ∷ l) = elim (inside b c) [ true ↦ suc (span b l) | false ↦ 0 ]

unfoldable pub read_word : Bool → List ℕ → Res (List ℕ)
read_word b [] = bad
read_word b (c ∷ l) = elim (first b c && leb (suc (span b l)) (longest b)) [ true ↦ ok (c ∷ take (span b l) l) (drop (span b l) l) | false ↦ bad ]

unfoldable pub read_var : List ℕ → Res (List ℕ)
read_var l = elim (begins (63 ∷ []) l) [ true ↦ and_then (read_word true (drop 1 l)) (λ v r. ok (63 ∷ v) r) | false ↦ bad ]

-- up to n more things, each after a space
unfoldable pub read_each : {A : Type 0} → (List ℕ → Res A) → ℕ → List ℕ → Res (List A)
read_each one zero l = elim (begins (32 ∷ []) l) [ true ↦ bad | false ↦ ok [] l ]
read_each one (suc n) l = elim (begins (32 ∷ []) l) [
  | true ↦ and_then (one (drop 1 l)) (λ v m. and_then (read_each one n m) (λ vs r. ok (v ∷ vs) r))
  | false ↦ ok [] l
]

-- the variables of a literal
abbrev pub read_vars : ℕ → List ℕ → Res (List (List ℕ))
read_vars n l = read_each read_var n l

-- a variable's type, if a colon follows; a quantified variable; up to n more of them
unfoldable pub read_type : List ℕ → List ℕ → Res Quantified
read_type v l = elim (begins (58 ∷ []) l) [
  | true ↦ and_then (read_word false (drop 1 l)) (λ t r. ok (record { variable = v; type = some t }) r)
  | false ↦ ok (record { variable = v; type = none }) l
]

unfoldable pub read_typed : List ℕ → Res Quantified
read_typed l = and_then (read_var l) (λ v m. read_type v m)

abbrev pub read_more : ℕ → List ℕ → Res (List Quantified)
read_more n l = read_each read_typed n l

-- up to n more parts
unfoldable pub read_parts : (List ℕ → Res Formula) → ℕ → List ℕ → Res Formulas
read_parts g zero l = elim (begins (32 ∷ []) l) [ true ↦ bad | false ↦ ok nil l ]
read_parts g (suc n) l = elim (begins (32 ∷ []) l) [
  | true ↦ and_then (g (drop 1 l)) (λ f m. and_then (read_parts g n m) (λ fs r. ok (cons f fs) r))
  | false ↦ ok nil l
]

-- which form is it, by the word after the bracket
pub data Head : Type 0 where
  is_not is_implies is_and is_or is_exists is_forall is_other : Head

unfoldable pub kind_of : List ℕ → Head
kind_of l = elim (begins not_word l) [
  | true ↦ is_not
  | false ↦
      elim (begins imp_word l) [
        | true ↦ is_implies
        | false ↦
            elim (begins (join_word ands) l) [
              | true ↦ is_and
              | false ↦
                  elim (begins (join_word ors) l) [
                    | true ↦ is_or
                    | false ↦
                        elim (begins (quant_word somes) l) [
                          | true ↦ is_exists
                          | false ↦
                              elim (begins (quant_word everys) l) [ true ↦ is_forall | false ↦ is_other ]
                        ]
                  ]
            ]
      ]
]

abbrev pub close : List ℕ
close = 41 ∷ []

unfoldable pub read_join : (List ℕ → Res Formula) → Join → List ℕ → Res Formula
read_join g j l = and_then (g l) (λ f m. and_then (read_parts g (length m) m) (λ fs r. want close (join j (cons f fs)) r))

unfoldable pub read_quant : (List ℕ → Res Formula) → Quant → List ℕ → Res Formula
read_quant g q l = and_then (read_typed l) (λ v l1. and_then (read_more (list_limit - 1) l1) (λ vs l2. and_then (want (41 ∷ 32 ∷ []) vs l2) (λ us l3. and_then (g l3) (λ f r. want close (quant q (v ∷ us) f) r))))

unfoldable pub read_lit : List ℕ → Res Formula
read_lit l = elim (begins (40 ∷ []) l) [
  | true ↦ and_then (read_word false (drop 1 l)) (λ n l1. and_then (want (32 ∷ []) n l1) (λ m l2. and_then (read_var l2) (λ v l3. and_then (read_vars (length l3) l3) (λ vs r. want close (literal m (v ∷ vs)) r))))
  | false ↦ bad
]

unfoldable pub read_neg : (List ℕ → Res Formula) → List ℕ → Res Formula
read_neg g l = and_then (g l) (λ f r. want close (negation f) r)

unfoldable pub read_imp : (List ℕ → Res Formula) → List ℕ → Res Formula
read_imp g l = and_then (g l) (λ f l1. and_then (want (32 ∷ []) f l1) (λ e l2. and_then (g l2) (λ h r. want close (implication e h) r)))

abbrev pub read_body : (List ℕ → Res Formula) → Head → List ℕ → Res Formula
read_body g is_not l = read_neg g (drop 5 l)
read_body g is_implies l = read_imp g (drop 9 l)
read_body g is_and l = read_join g ands (drop 5 l)
read_body g is_or l = read_join g ors (drop 4 l)
read_body g is_exists l = read_quant g somes (drop 9 l)
read_body g is_forall l = read_quant g everys (drop 9 l)
read_body g is_other l = read_lit l

-- read one formula, with at most k brackets open together: the formula and the rest
unfoldable pub read : ℕ → List ℕ → Res Formula
read zero l = bad
read (suc k) l = read_body (λ m. read k m) (kind_of l) l

-- the whole text is a formula
abbrev pub finish : Res Formula → Option Formula
finish bad = none
finish (ok f []) = some f
finish (ok f (b ∷ l)) = none

-- a formula of the rule field
unfoldable pub read_formula : List ℕ → Option Formula
read_formula text = finish (read bracket_limit text)
