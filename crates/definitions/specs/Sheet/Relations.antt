-- Document 01, "The sheets": relations, built in and declared, and the kinds of chosen ones; and document 02, job 5: types of a function
-- kind's places, job 12: the relation of an `every` line.
use Rattle.std.specs.Prelude.{ℕ, zero, suc, Bool, true, false, not, ◌&&◌, List, [], ◌∷◌, eqb, ltb}
use Rattle.std.proofs.Math.Option.{Option}
use Rattle.definitions.specs.Lists.{Name, same, position, any}
use Rattle.definitions.specs.Sheet.Text.{bytes}

-- `static`: built in, or of a `rel` line; `universal`: of an `every` line; the others: of a `choose` line
pub data Kind : Type 0 where
  static plain Fun PFun Inj PInj universal : Kind

-- of a `choose` line
unfoldable pub is_chosen : Kind → Bool
is_chosen static = false
is_chosen plain = true
is_chosen Fun = true
is_chosen PFun = true
is_chosen Inj = true
is_chosen PInj = true
is_chosen universal = false

-- of an `every` line
unfoldable pub is_universal : Kind → Bool
is_universal static = false
is_universal plain = false
is_universal Fun = false
is_universal PFun = false
is_universal Inj = false
is_universal PInj = false
is_universal universal = true

-- a function kind: no first place has two seconds
unfoldable pub is_function : Kind → Bool
is_function static = false
is_function plain = false
is_function Fun = true
is_function PFun = true
is_function Inj = true
is_function PInj = true
is_function universal = false

-- an injective kind: no second place has two firsts either
unfoldable pub is_injective : Kind → Bool
is_injective static = false
is_injective plain = false
is_injective Fun = false
is_injective PFun = false
is_injective Inj = true
is_injective PInj = true
is_injective universal = false

-- a total kind, for which a totality is added to the rule
unfoldable pub is_total : Kind → Bool
is_total static = false
is_total plain = false
is_total Fun = true
is_total PFun = false
is_total Inj = true
is_total PInj = false
is_total universal = false

-- `firsts` and `seconds` are the sorts of its first and of its second place: 0, all elements, unless it is of a function kind that was
-- given types
pub record Relation : Type 0 where
  pub name : Name
  pub arity : ℕ
  pub kind : Kind
  pub firsts : ℕ
  pub seconds : ℕ

-- one that is built in or of a `rel` line, and one of an `every` line
abbrev pub fixed : Name → ℕ → Relation
fixed name arity = record { name = name; arity = arity; kind = static; firsts = zero; seconds = zero }

abbrev pub varying : Name → ℕ → Relation
varying name arity = record { name = name; arity = arity; kind = universal; firsts = zero; seconds = zero }

-- "Five are built in". A relation's number is its index in the list of all: these five, each `rel`, each `choose`, and that of an `every` line.
unfoldable pub built_in : List Relation
built_in =
    fixed (bytes "EQ") 2
    ∷ fixed (bytes "LT") 2
    ∷ fixed (bytes "SUC") 2
    ∷ fixed (bytes "ZERO") 1
    ∷ fixed (bytes "MAX") 1
    ∷ []

-- What a built-in relation says of x, and of y where it has two places, over n elements, by its number: x is y; x is less
-- than y; y comes right after x; x is the first element; x is the last.
unfoldable pub built_in_holds : ℕ → ℕ → ℕ → ℕ → Bool
built_in_holds n zero x y = eqb x y
built_in_holds n (suc zero) x y = ltb x y
built_in_holds n (suc (suc zero)) x y = eqb y (suc x)
built_in_holds n (suc (suc (suc zero))) x y = eqb x zero
built_in_holds n (suc (suc (suc (suc zero)))) x y = eqb (suc x) n
built_in_holds n (suc (suc (suc (suc (suc r))))) x y = false

-- the number of the relation of a name
unfoldable pub number_of : List Relation → Name → Option ℕ
number_of rs name = position (λ (r : Relation). same r.name name) rs

-- whether a relation has that name
unfoldable pub is_declared : List Relation → Name → Bool
is_declared rs name = any (λ (r : Relation). same r.name name) rs

-- A tuple of a relation, by the relation's number.
pub record Tuple : Type 0 where
  pub relation : ℕ
  pub places : List ℕ

unfoldable pub same_tuple : Tuple → Tuple → Bool
same_tuple t u = eqb t.relation u.relation && same t.places u.places

unfoldable pub is_among : Tuple → List Tuple → Bool
is_among t ts = any (same_tuple t) ts

-- no tuple stands twice in the list
unfoldable pub are_distinct : List Tuple → Bool
are_distinct [] = true
are_distinct (t ∷ ts) = not (is_among t ts) && are_distinct ts
