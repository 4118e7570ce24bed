-- The number of the step that a name and objects are, by the table. Assumes nothing.
use Rattle.std.specs.Prelude.{ℕ, ◌+◌, ◌*◌, ◌^◌, ◌≤◌, ◌<◌, ◌≡◌, Bool, true, false, List, eqb, ltb, take, if◌then◌else◌}
use Rattle.std.specs.Prelude.{Some, None, Ok, Err, OkIff}
use Rattle.std.specs.Result.{result_ok}
use Rattle.std.specs.Prelude as P
use Rattle.std.proofs.Math.Path.{refl, ap}
use Rattle.std.proofs.Common.{sym, ap₂, subst, ◌∙◌, arith}
use Rattle.std.proofs.Math.Option.{Option, none, some}
use Rattle.std.proofs.Math.ListN.{get_or}
use borrow.Author.Tests.{eq-eqb, ne_eqb, lt-ltb, le-ltb}
use Rattle.definitions.specs.Problem.Atoms.{row_of}
use Rattle.problem_table.specs.Lines.{size_in, nodes_in, relations_in, node_line, relation_line, relation_place, node_place, Fits}
use Rattle.problem_table.specs.declared.RelationLine.{RelationLine}
use Rattle.problem_table.specs.declared.NodeLine.{NodeLine}
use Rattle.print_names.specs.declared.Name.{Name}
use Rattle.print_names.specs.declared.Name.TheVariants as N

-- a number of 32 bits, where there are as many values as there are to be
unfoldable pub sized : ℕ → ℕ → ℕ → Option ℕ
sized count wanted m = if eqb count wanted then (if ltb m (2 ^ 32) then some m else none) else none

unfoldable pub told : P.Option ℕ → Option ℕ
told None = none
told (Some m) = some m

module _ (count wanted m : ℕ) where
  pub sized_other : (count ≡ wanted → ⊥) → told None ≡ sized count wanted m
  unfolding sized told
  sized_other h = rw (ne_eqb count wanted h) refl

  pub sized_large : count ≡ wanted → 2 ^ 32 ≤ m → told None ≡ sized count wanted m
  unfolding sized told
  sized_large h l = rw (eq-eqb count wanted h, le-ltb m (2 ^ 32) l) refl

  pub sized_there : count ≡ wanted → m < 2 ^ 32 → told (Some m) ≡ sized count wanted m
  unfolding sized told
  sized_there h l = rw (eq-eqb count wanted h, lt-ltb m (2 ^ 32) l) refl

  -- as a conversion to 32 bits tells
  pub sized_tried : {E : Type 0} (r : P.Result ℕ E) → count ≡ wanted → OkIff r (m < 2 ^ 32) m → told (result_ok r) ≡ sized count wanted m
  sized_tried (Ok x) h w = ap (λ (k : ℕ). told (Some k)) w.1 ∙ sized_there h w.0
  sized_tried (Err e) h w = sized_large h (omega (arith, w))

-- of a node: so many steps a row, the one of number `choice`, with `more` values beside the row's
unfoldable pub node_number : (w values : List ℕ) → (count v each choice more : ℕ) → Option ℕ
node_number w values count v each choice more =
    sized count ((node_line w v).width + more) ((node_line w v).acts + row_of (size_in w) (take (node_line w v).width values) * each + choice)

pub node_number_lem : (w values : List ℕ) (count v each choice more : ℕ) (x : NodeLine) (row : ℕ) (o : Option ℕ) → x ≡ node_line w v → row ≡ row_of (size_in w) (take x.width values)
    → o ≡ sized count (x.width + more) (x.acts + row * each + choice) → o ≡ node_number w values count v each choice more
unfolding node_number
node_number_lem w values count v each choice more x row o e q h = h ∙ ap₂ (λ (y : NodeLine) (r : ℕ). sized count (y.width + more) (y.acts + r * each + choice)) e (q ∙ ap (λ (y : NodeLine). row_of (size_in w) (take y.width values)) e)

unfoldable pub set_number : (names w values : List ℕ) → (count r : ℕ) → Option ℕ
set_number names w values count r = sized count (get_or names (3 * r + 2) 0) ((relation_line w r).sets + row_of (size_in w) (take (get_or names (3 * r + 2) 0) values))

unfoldable pub exists_number : (w values : List ℕ) → (count v : ℕ) → Option ℕ
exists_number w values count v = node_number w values count v (size_in w) (get_or values (node_line w v).width 0) 1

unfoldable pub next_number : (w values : List ℕ) → (count v : ℕ) → Option ℕ
next_number w values count v =
    if eqb (get_or values ((node_line w v).width + 1) 0) (get_or values (node_line w v).width 0 + 1)
    then node_number w values count v (size_in w) (get_or values ((node_line w v).width + 1) 0) 2 else none

unfoldable pub or_number : (w values : List ℕ) → (count v i : ℕ) → Option ℕ
or_number w values count v i = node_number w values count v (node_line w v).many i 0

unfoldable pub number_by : (names w : List ℕ) → Name → (values : List ℕ) → ℕ → Option ℕ
number_by names w (N.Set r) values count = set_number names w values count r
number_by names w N.Begin values count = sized count 0 (relation_line w (relations_in w)).sets
number_by names w N.Goal values count = sized count 0 (node_line w (nodes_in w)).acts
number_by names w (N.And v) values count = node_number w values count v 1 0 0
number_by names w (N.Exists v) values count = exists_number w values count v
number_by names w (N.First v) values count = node_number w values count v (size_in w) 0 0
number_by names w (N.Next v) values count = next_number w values count v
number_by names w (N.Or v i) values count = or_number w values count v i
number_by names w N.Nobody values count = none

pub exists_number_lem : (w values : List ℕ) (count v z : ℕ) (x : NodeLine) (o : Option ℕ) → x ≡ node_line w v → z ≡ get_or values x.width 0 → o ≡ node_number w values count v (size_in w) z 1 → o ≡ exists_number w values count v
unfolding exists_number
exists_number_lem w values count v z x o e q h = h ∙ ap (λ (y : ℕ). node_number w values count v (size_in w) y 1) (q ∙ ap (λ (y : NodeLine). get_or values y.width 0) e)

pub or_number_lem : (w values : List ℕ) (count v i m : ℕ) (x : NodeLine) (o : Option ℕ) → x ≡ node_line w v → m ≡ x.many → o ≡ node_number w values count v m i 0 → o ≡ or_number w values count v i
unfolding or_number
or_number_lem w values count v i m x o e q h = h ∙ ap (λ (y : ℕ). node_number w values count v y i 0) (q ∙ ap (λ (y : NodeLine). y.many) e)

module _ (w values : List ℕ) (count v z : ℕ) (x : NodeLine) (e : x ≡ node_line w v) (q : z ≡ get_or values (x.width + 1) 0) where
  second : get_or values ((node_line w v).width + 1) 0 ≡ z
  second = sym (q ∙ ap (λ (y : NodeLine). get_or values (y.width + 1) 0) e)

  pub next_none : (z ≡ get_or values x.width 0 + 1 → ⊥) → told None ≡ next_number w values count v
  unfolding next_number told
  next_none h = rw (second, ne_eqb z (get_or values (node_line w v).width 0 + 1) (λ y. h (y ∙ ap (λ (u : NodeLine). get_or values u.width 0 + 1) (sym e)))) refl

  pub next_number_lem : (o : Option ℕ) → z ≡ get_or values x.width 0 + 1 → o ≡ node_number w values count v (size_in w) z 2 → o ≡ next_number w values count v
  unfolding next_number
  next_number_lem o h g = rw (second, eq-eqb z (get_or values (node_line w v).width 0 + 1) (h ∙ ap (λ (u : NodeLine). get_or values u.width 0 + 1) e)) g

-- numbers of the table are in range
pub sets_small : (w : List ℕ) (r : ℕ) (x : RelationLine) → Fits w → x ≡ relation_line w r → x.sets ≤ 2 ^ 32
unfolding relation_line
sets_small w r x F e = subst (λ (y : RelationLine). y.sets ≤ 2 ^ 32) (sym e) (F.entry (relation_place r))

pub acts_small : (w : List ℕ) (v : ℕ) (x : NodeLine) → Fits w → x ≡ node_line w v → x.acts ≤ 2 ^ 32
unfolding node_line
acts_small w v x F e = subst (λ (y : NodeLine). y.acts ≤ 2 ^ 32) (sym e) (F.entry (node_place v))

pub width_few : (w : List ℕ) (v : ℕ) (x : NodeLine) → Fits w → v < 64 → x ≡ node_line w v → x.width ≤ 4
width_few w v x F h e = subst (λ (y : NodeLine). y.width ≤ 4) (sym e) (F.node v h).width

pub many_few : (w : List ℕ) (v : ℕ) (x : NodeLine) → Fits w → v < 64 → x ≡ node_line w v → x.many ≤ 64
many_few w v x F h e = subst (λ (y : NodeLine). y.many ≤ 64) (sym e) (omega (arith, (F.node v h).parts))

pub set_number_lem : (names w values : List ℕ) (count r arity at : ℕ) (x : RelationLine) (o : Option ℕ) → x ≡ relation_line w r → arity ≡ get_or names (3 * r + 2) 0 → at ≡ row_of (size_in w) (take arity values) → o ≡ sized count arity (x.sets + at) → o ≡ set_number names w values count r
unfolding set_number
set_number_lem names w values count r arity at x o e a q h =
    h ∙ ap₂ (λ (y : RelationLine) (m : ℕ). sized count arity (y.sets + m)) e q ∙ ap (λ (k : ℕ). sized count k ((relation_line w r).sets + row_of (size_in w) (take k values))) a

-- what keeps a name's numbers in range
unfoldable pub NameFits : Name → Type 0
NameFits (N.Set r) = r < 18
NameFits N.Begin = Unit {0}
NameFits N.Goal = Unit {0}
NameFits (N.And v) = v < 64
NameFits (N.Exists v) = v < 64
NameFits (N.First v) = v < 64
NameFits (N.Next v) = v < 64
NameFits (N.Or v i) = (v < 64) × (i ≤ 2 ^ 32)
NameFits N.Nobody = Unit {0}

pub number_as : (names w values : List ℕ) (count : ℕ) (k b : Name) (o : Option ℕ) → k ≡ b → o ≡ number_by names w b values count → o ≡ number_by names w k values count
number_as names w values count k b o e q = q ∙ ap (λ (x : Name). number_by names w x values count) (sym e)
