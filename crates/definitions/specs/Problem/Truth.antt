-- Document 01, "The words of demand 3": truth of the rule and the declared kinds, read off the sheets; and document 02, job 4: what a
-- variable ranges over, job 5: the types of a kind, job 12: the values of the `every` relation.
use Rattle.std.specs.Prelude.{ℕ, zero, suc, ◌+◌, ◌-◌, ◌/◌, ◌%◌, ◌^◌, Bool, true, false, not, ◌&&◌, ◌||◌, List, [], ◌∷◌, ◌++◌, map, get_or, length, eqb, leb, ltb, if◌then◌else◌}
use Rattle.std.proofs.Math.Option.{Option}
use Rattle.definitions.specs.Lists.{Name, all, any, filter, same, option, position, map_from, below, is_in}
use Rattle.definitions.specs.Sheet.Relations.{Relation, fixed, Tuple, is_among, are_distinct, built_in_holds, number_of, is_function, is_injective, is_total}
use Rattle.definitions.specs.Problem.Rows.{places_of}
use Rattle.definitions.specs.Sheet.Formula.{Quantified, Formula, Formulas, literal, negation, implication, conjunction, disjunction, exists, forall, nil, cons, sort_of}
use Rattle.definitions.specs.Sheet.Sheets.{Question, Site, is_member, relations_of, first_rel, first_chosen, every_number}

-- A case: its question and its site.
pub record Case : Type 0 where
  pub question : Question
  pub site : Site

-- Whether a tuple holds, of relation r and at the places xs: a built-in one by its meaning, that of a `rel` if it is a fact, that of a
-- `choose`, or of an `every` line, if it is among the given ones.
unfoldable pub holds : Case → List Tuple → ℕ → List ℕ → Bool
holds c picks r xs =
    if ltb r first_rel then built_in_holds c.site.size r (get_or xs 0 0) (get_or xs 1 0)
    else if ltb r (first_chosen c.question) then is_among (record { relation = r; places = xs }) c.site.facts
    else is_among (record { relation = r; places = xs }) picks

-- the variables bound around, innermost first, with their values; a variable that none of them binds would be 0, and 8 refuses it
pub record Binding : Type 0 where
  pub variable : Name
  pub value : ℕ

unfoldable pub value_of : List Binding → Name → ℕ
value_of [] v = zero
value_of (b ∷ bs) v = if same b.variable v then b.value else value_of bs v

-- What a variable of a sort ranges over, in ascending order: sort 0 stands for all elements, 0 to n−1, sort k + 1 for the members of
-- type k. (A sort beyond the last type is no variable's, and is as good as 0.)
unfoldable pub members_of : Case → ℕ → List ℕ
members_of c zero = below c.site.size
members_of c (suc k) =
    if ltb k (length c.question.types) then filter (is_member c.site.members k) (below c.site.size) else below c.site.size

unfoldable pub range_of : Case → Quantified → List ℕ
range_of c q = members_of c (sort_of c.question.types q)

-- for every, and for some, values of the variables, each in its range
unfoldable pub for_every : (Quantified → List ℕ) → List Quantified → List Binding → (List Binding → Bool) → Bool
for_every range [] bs p = p bs
for_every range (q ∷ qs) bs p = all (λ x. for_every range qs (record { variable = q.variable; value = x } ∷ bs) p) (range q)

unfoldable pub for_some : (Quantified → List ℕ) → List Quantified → List Binding → (List Binding → Bool) → Bool
for_some range [] bs p = p bs
for_some range (q ∷ qs) bs p = any (λ x. for_some range qs (record { variable = q.variable; value = x } ∷ bs) p) (range q)

-- Truth "of the formula as written", by the usual meaning of each form; a variable ranges over the members of its type, and over all
-- elements where it has none. (7 refuses a literal of no relation, which would be false.)
unfoldable mutual
  pub is_true : Case → List Tuple → List Binding → Formula → Bool
  is_true c picks bs (literal r vs) = option (number_of (relations_of c.question) r) false (λ k. holds c picks k (map (value_of bs) vs))
  is_true c picks bs (negation f) = not (is_true c picks bs f)
  is_true c picks bs (implication f g) = not (is_true c picks bs f) || is_true c picks bs g
  is_true c picks bs (conjunction fs) = all_true c picks bs fs
  is_true c picks bs (disjunction fs) = some_true c picks bs fs
  is_true c picks bs (exists qs f) = for_some (range_of c) qs bs (λ b. is_true c picks b f)
  is_true c picks bs (forall qs f) = for_every (range_of c) qs bs (λ b. is_true c picks b f)

  pub all_true : Case → List Tuple → List Binding → Formulas → Bool
  all_true c picks bs nil = true
  all_true c picks bs (cons f fs) = is_true c picks bs f && all_true c picks bs fs

  pub some_true : Case → List Tuple → List Binding → Formulas → Bool
  some_true c picks bs nil = false
  some_true c picks bs (cons f fs) = is_true c picks bs f || some_true c picks bs fs

-- a test of each `choose` and its number, in order
unfoldable pub each_chosen : Case → (ℕ → Relation → Bool) → List Bool
each_chosen c test = map_from test (first_chosen c.question) c.question.chosen

-- totality of Fun and Inj: every element that may be a first place is that of some pick, whose second place is one that may be
unfoldable pub is_total_in : Case → List Tuple → ℕ → Relation → Bool
is_total_in c picks r k = all (λ x. any (λ y. holds c picks r (x ∷ y ∷ [])) (members_of c k.seconds)) (members_of c k.firsts)

unfoldable pub are_total : Case → List Tuple → Bool
are_total c picks = all (λ b. b) (each_chosen c (λ r (k : Relation). if is_total k.kind then is_total_in c picks r k else true))

-- ---- document 02, job 12: the relation of an `every` line

-- how many tuples it has, 0 where there is no such line; and so how many values: 1 where there is none
unfoldable pub every_tuples : Case → ℕ
every_tuples c = option c.question.every zero (λ (e : Relation). c.site.size ^ e.arity)

unfoldable pub values : Case → ℕ
values c = 2 ^ every_tuples c

-- Value k has the tuples whose binary digit of k is 1, that of the first tuple being the least significant: value 0 has none, and each further
-- one is the next in counting.
unfoldable pub is_odd : ℕ → Bool
is_odd k = eqb (k % 2) 1

unfoldable pub digit : ℕ → ℕ → Bool
digit k i = is_odd (k / 2 ^ i)

unfoldable pub every_value : Case → ℕ → List Tuple
every_value c k =
    option c.question.every []
    (λ (e : Relation). map (λ row. record { relation = every_number c.question; places = places_of c.site.size e.arity row }) (filter (digit k) (below (every_tuples c))))

-- the rule is true of tuples, totality included
unfoldable pub rule_holds : Case → List Tuple → Bool
rule_holds c tuples = is_true c tuples [] c.question.rule.formula && are_total c tuples

-- the rule is true of the picks: it is so for every value of the `every` relation; 17 where it is not
unfoldable pub rule_is_true : Case → List Tuple → Bool
rule_is_true c picks = all (λ k. rule_holds c (picks ++ every_value c k)) (below (values c))

-- two picks of relation r agree in `a` and differ in `b`
unfoldable pub two : ℕ → (a b : Tuple → ℕ) → List Tuple → Bool
two r a b picks =
    any (λ (t : Tuple). any (λ (u : Tuple). eqb t.relation r && eqb u.relation r && eqb (a t) (a u) && not (eqb (b t) (b u))) picks) picks

unfoldable pub first : Tuple → ℕ
first t = get_or t.places 0 0

unfoldable pub second : Tuple → ℕ
second t = get_or t.places 1 0

-- the first and the second place of a tuple are of the sorts of these places
unfoldable pub is_inside : Case → Relation → Tuple → Bool
is_inside c k t = is_in (first t) (members_of c k.firsts) && is_in (second t) (members_of c k.seconds)

-- a function kind has no first place with two seconds, an injective one no second with two firsts, and neither a pick outside its types
unfoldable pub is_of_kind : Case → List Tuple → ℕ → Relation → Bool
is_of_kind c picks r k =
    not (is_function k.kind && two r first second picks)
    && not (is_injective k.kind && two r second first picks)
    && not (is_function k.kind && any (λ (t : Tuple). eqb t.relation r && not (is_inside c k t)) picks)

-- picks are of the declared kinds; 16 by the first `choose` of which they are not
unfoldable pub are_of_kinds : Case → List Tuple → Bool
are_of_kinds c picks = all (λ b. b) (each_chosen c (is_of_kind c picks))

unfoldable pub first_of_other_kind : Case → List Tuple → Option ℕ
first_of_other_kind c picks = position not (each_chosen c (is_of_kind c picks))

-- ---- "Picks are a set of `choose` tuples": a tuple of a `choose` over the elements; no tuple stands twice
unfoldable pub is_pick : Case → Tuple → Bool
is_pick c t =
    let q = c.question in
    let r = t.relation in
    let k = get_or q.chosen (r - first_chosen q) (fixed [] zero) in
    leb (first_chosen q) r
    && ltb r (first_chosen q + length q.chosen)
    && eqb (length t.places) k.arity
    && all (λ x. ltb x c.site.size) t.places

unfoldable pub are_picks : Case → List Tuple → Bool
are_picks c picks = all (is_pick c) picks && are_distinct picks
