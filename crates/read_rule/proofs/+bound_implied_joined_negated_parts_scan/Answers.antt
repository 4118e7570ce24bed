use mathlib.Core.Path.{◌≡◌, sym, ◌∙◌}
use mathlib.Core.Bool.{true}
use native.Mathlib.Omega.{arith}
use Prim.Native.Nat.{◌+◌, ◌-◌, ◌*◌, ◌≤◌, ℕ, ◌<◌}
use mathlib.Core.List.{List, [], ◌∷◌}
use lib.ListN.{length, drop}
use Rattle.definitions.specs.Sheet.Formula.{ands, ors, somes, everys}
use Rattle.definitions.specs.Sheet.Parsing.{begins, read}
use Rattle.definitions.specs.Sheet.Relations.{Relation}
use Rattle.read_names.specs.Signatures.{types_in}
use Rattle.read_rule.specs.declared.Kind.{Kind as Form}
use Rattle.read_rule.specs.declared.Kind.TheVariants.{Not, Implies, And, Or, Exists, Forall, Other}
use Rattle.read_rule.specs.Seen.{head_of, seen, facts}
use Rattle.read_rule.specs.Steps.{room, neg_bad, neg_ok, imp_bad, imp_gap, imp_bad_2, imp_ok, join_bad, join_bad_2, join_ok, parts_full, parts_bad, parts_turn, parts_stop_at, quant_bad, quant_bad_2, quant_gap, quant_bad_3, read_none}
use Rattle.read_rule.specs.Turns.{turn_first, turn_bad, turn_last}
use Rattle.read_rule.specs.Bound.{few}
use Rattle.read_rule.proofs.Rounds.{Part, found, found_parts, one_fits, two_fit, past_space, turn, Listed, found_typed, found_list, past_list, quant_fits, quant_done, past_word, rest_of, word_in, read_after}
use Rattle.read_rule.proofs.+bound_implied_joined_negated_parts_scan.Goals as goal
use Rattle.read_rule.proofs.+bound_implied_joined_negated_parts_scan.Goals.{bound-In_ok-b, bound-Else-not-starts, implied-In_ok-a, implied-Else-not-starts, joined-In_ok-a, negated-In_ok-a, parts-In_ok-next, parts-In-loop-sc, scan-After-kind_at-k}

-- a quantifier's list
bound-list : (t : ℕ) (c : bound-In_ok-b t) → let a = c.args in Listed (types_in a.s.now a.from.now a.to.now 8) a.s.now a.at c.in_ok-a.a c.in_ok-b.b
    c.in_ok-a.one c.in_ok-b.others
bound-list t c =
    let one = found_typed _ c.args.s.now c.requires.0 c.in_ok-a.was c.typed_at.ensures in
    found_list _ c.args.s.now one c.in_ok-b.was c.typed_vars.ensures

-- its end
bound-stop : (t : ℕ) (c : bound-Else-not-starts t)
    → begins (41 ∷ 32 ∷ []) (drop c.in_ok-b.b
    c.args.s.now) ≡ true
bound-stop t c = sym c.starts.ensures ∙ c.if-not-starts.false

-- the first part, and the space after it
implied-first : (t : ℕ) (c : implied-In_ok-a t) → let a = c.args in Part a.s.now a.from.now a.to.now a.arity.now a.m a.sc a.room a.at c.in_ok-a.a c.in_ok-a.n
implied-first t c =
    found _ _ _ c.args.s.now _ c.requires.0 c.in_ok-a.was c.scan.ensures

implied-space : (t : ℕ) (c : implied-Else-not-starts t)
    → begins (32 ∷ []) (drop c.in_ok-a.a
    c.args.s.now) ≡ true
implied-space t c = sym c.starts.ensures ∙ c.if-not-starts.false

joined_first : (t : ℕ) (c : joined-In_ok-a t) → let a = c.args in Part a.s.now a.from.now a.to.now a.arity.now a.m a.sc a.room a.at c.in_ok-a.a c.in_ok-a.n
joined_first t c =
    found _ _ _ c.args.s.now _ c.requires.0 c.in_ok-a.was c.scan.ensures

negated-first : (t : ℕ) (c : negated-In_ok-a t) → let a = c.args in Part a.s.now a.from.now a.to.now a.arity.now a.m a.sc a.room a.at c.in_ok-a.a c.in_ok-a.n
negated-first t c =
    found _ _ _ c.args.s.now _ c.requires.0 c.in_ok-a.was c.scan.ensures

-- a space is there
module _ (t : ℕ) (c : parts-In-loop-sc t) where
  parts-space : begins (32 ∷ []) (drop c.loop-sc.i c.args.s.now) ≡ true
  parts-space = sym c.starts.ensures ∙ c.loop-sc-test.true

  parts-inside : c.loop-sc.i + 1 ≤ length c.args.s.now
  parts-inside = room (32 ∷ []) c.args.s.now _ c.loop-sc.invariant.0 parts-space

parts-one : (t : ℕ) (c : parts-In_ok-next t) → c.loop-sc.i + 1 ≤ length c.args.s.now
    → let a = c.args in Part a.s.now a.from.now a.to.now a.arity.now a.m a.sc a.room (c.loop-sc.i + 1) c.in_ok-next.next c.in_ok-next.g
parts-one t c in-text = found _ _ _ c.args.s.now _ in-text c.in_ok-next.was c.scan.ensures

-- the form's word is in the text, and what its function reads after it is the formula
module _ (t : ℕ) (c : scan-After-kind_at-k t) (k : Form) (told : c.kind_at-k.result ≡ k) where
  scan-asks : let a = c.args in ((a.room - 1) * 3 + 2 < t) × ((past_word (head_of k) a.at ≤ length a.s.now) × (a.m ≤ 13) × (a.sc.n ≤ 4))
  scan-asks =
      let word = word_in k told c.args.s.now c.args.at c.kind_at-k.ensures c.requires.0 in
      (omega (arith, c.decreases, c.if-room-eq0.false), (word, c.requires.1, c.requires.2))

  scan-as : (rs : List Relation) (types sc : List (List ℕ)) → let a = c.args in let s = a.s.now in seen (facts rs types sc) (length s) (rest_of (read (a.room - 1)) (head_of k) (drop (past_word (head_of k) a.at) s))
      ≡ seen (facts rs types sc) (length s) (read a.room (drop a.at s))
  scan-as rs types sc =
      let a = c.args in read_after k told a.s.now a.at c.kind_at-k.ensures rs types sc _ c.if-room-eq0.false

pub bound-typed_at-requires : goal.bound-typed_at-requires
bound-typed_at-requires t c = c.requires.0

pub bound-typed_vars-requires : goal.bound-typed_vars-requires
bound-typed_vars-requires t c = (found_typed _ c.args.s.now c.requires.0 c.in_ok-a.was c.typed_at.ensures).within

pub bound-starts-requires : goal.bound-starts-requires
bound-starts-requires t c = (bound-list t (goal.at.bound-starts-requires t c).In_ok-b).others.within

pub bound-both-list-requires : goal.bound-both-list-requires
bound-both-list-requires t c = let l = bound-list t (goal.at.bound-both-list-requires t c).In_ok-b in omega (arith, (two_fit l.one l.others c.well_formed.0.1).1)

pub bound-grow-g-requires : goal.bound-grow-g-requires
bound-grow-g-requires t c = c.requires.2

pub bound-overflow_add-b : goal.bound-overflow_add-b
bound-overflow_add-b t c = omega (arith, past_list (bound-list t (goal.at.bound-overflow_add-b t c).In_ok-b) (bound-stop t (goal.at.bound-overflow_add-b t c).Else-not-starts), c.well_formed.0.0)

pub bound-scan-requires : goal.bound-scan-requires
bound-scan-requires t c = (omega (arith, c.decreases), (past_list (bound-list t (goal.at.bound-scan-requires t c).In_ok-b) (bound-stop t (goal.at.bound-scan-requires t c).Else-not-starts), c.requires.1, c.grow-g.ensures.small))

pub bound-shut_quant-requires : goal.bound-shut_quant-requires
bound-shut_quant-requires t c =
    let l = bound-list t (goal.at.bound-shut_quant-requires t c).In_ok-b in
    let f = found _ _ _ c.args.s.now _ (past_list l (bound-stop t (goal.at.bound-shut_quant-requires t c).Else-not-starts)) c.in_ok-e.was c.scan.ensures in
    quant_fits l c.both-list.ensures f c.well_formed.0.1

pub bound-returns-in_err-a : goal.bound-returns-in_err-a
bound-returns-in_err-a t c = λ q. let a = c.args in c.from_residual.ensures ∙ quant_bad _ _ _ a.s.now a.at _ q c.in_err-a.ensures

pub bound-returns-in_err-b : goal.bound-returns-in_err-b
bound-returns-in_err-b t c =
    λ q. let one = found_typed _ c.args.s.now c.requires.0 c.in_ok-a.was c.typed_at.ensures in
    c.from_residual-in_err-b.ensures ∙ quant_bad_2 _ _ _ _ _ _ q _ _ one c.in_err-b.ensures

pub bound-returns-in_err-e : goal.bound-returns-in_err-e
bound-returns-in_err-e t c =
    λ q. let l = bound-list t (goal.at.bound-returns-in_err-e t c).In_ok-b in
    c.from_residual-in_err-e.ensures ∙ quant_bad_3 _ _ _ _ _ _ q _ _ l.one _ _ l.others _ (bound-stop t (goal.at.bound-returns-in_err-e t c).Else-not-starts) c.in_err-e.ensures

pub bound-returns : goal.bound-returns
bound-returns t c =
    λ q. let l = bound-list t (goal.at.bound-returns t c).In_ok-b in
    let stop = bound-stop t (goal.at.bound-returns t c).Else-not-starts in let a = c.args in let f = found _ _ _ a.s.now _ (past_list l stop) c.in_ok-e.was c.scan.ensures in
    c.shut_quant.ensures ∙ quant_done l c.both-list.ensures _ _ _ stop
    c.grow-g.ensures f q

pub bound-returns-then-not-starts : goal.bound-returns-then-not-starts
bound-returns-then-not-starts t c = λ q. let l = bound-list t (goal.at.bound-returns-then-not-starts t c).In_ok-b in quant_gap _ _ _ _ _ _ q _ _ l.one _ _ l.others (sym c.starts.ensures ∙ c.if-not-starts.true)

pub implied-scan-requires : goal.implied-scan-requires
implied-scan-requires t c = (omega (arith, c.decreases), c.requires)

pub implied-starts-requires : goal.implied-starts-requires
implied-starts-requires t c = (implied-first t (goal.at.implied-starts-requires t c).In_ok-a).within

pub implied-overflow_add-a : goal.implied-overflow_add-a
implied-overflow_add-a t c = omega (arith, past_space (implied-first t (goal.at.implied-overflow_add-a t c).In_ok-a) (implied-space t c), c.well_formed.0.0)

pub implied-scan-requires-2 : goal.implied-scan-requires-2
implied-scan-requires-2 t c = (omega (arith, c.decreases), (past_space (implied-first t (goal.at.implied-scan-requires-2 t c).In_ok-a) (implied-space t c), c.requires.1, c.requires.2))

pub implied-shut_two-requires : goal.implied-shut_two-requires
implied-shut_two-requires t c =
    let f = implied-first t (goal.at.implied-shut_two-requires t c).In_ok-a in
    let g = found _ _ _ c.args.s.now _ (past_space f (implied-space t (goal.at.implied-shut_two-requires t c).Else-not-starts)) c.in_ok-b.was c.scan-2.ensures in
    two_fit f g c.well_formed.0.1

pub implied-returns-in_err-a : goal.implied-returns-in_err-a
implied-returns-in_err-a t c = let a = c.args in c.from_residual.ensures ∙ imp_bad _ _ _ a.s.now a.at _ c.in_err-a.ensures

pub implied-returns-in_err-b : goal.implied-returns-in_err-b
implied-returns-in_err-b t c = c.from_residual-in_err-b.ensures ∙ imp_bad_2 _ _ _ _ _ _ _ _ (implied-first t (goal.at.implied-returns-in_err-b t c).In_ok-a) (implied-space t (goal.at.implied-returns-in_err-b t c).Else-not-starts) c.in_err-b.ensures

pub implied-returns : goal.implied-returns
implied-returns t c =
    let a = c.args in let f = implied-first t (goal.at.implied-returns t c).In_ok-a in
    let g = found _ _ _ a.s.now _ (past_space f (implied-space t (goal.at.implied-returns t c).Else-not-starts)) c.in_ok-b.was c.scan-2.ensures in
    c.shut_two.ensures ∙ imp_ok _ _ _ _ _ _ _ _ f (implied-space t (goal.at.implied-returns t c).Else-not-starts) _ _ g

pub implied-returns-then-not-starts : goal.implied-returns-then-not-starts
implied-returns-then-not-starts t c = imp_gap _ _ _ _ _ _ _ _ (implied-first t (goal.at.implied-returns-then-not-starts t c).In_ok-a) (sym c.starts.ensures ∙ c.if-not-starts.true)

pub joined-scan-requires : goal.joined-scan-requires
joined-scan-requires t c = (omega (arith, c.decreases), c.requires)

pub joined-overflow_sub-s : goal.joined-overflow_sub-s
joined-overflow_sub-s t c = (joined_first t (goal.at.joined-overflow_sub-s t c).In_ok-a).within

pub joined-parts-requires : goal.joined-parts-requires
joined-parts-requires t c = (omega (arith, c.decreases), ((joined_first t (goal.at.joined-parts-requires t c).In_ok-a).within, c.requires.1, c.requires.2))

pub joined-shut_two-requires : goal.joined-shut_two-requires
joined-shut_two-requires t c =
    let f = joined_first t (goal.at.joined-shut_two-requires t c).In_ok-a in
    let fs = found_parts _ _ _ c.args.s.now _ _ f.within c.in_ok-b.was c.parts.ensures in
    two_fit f fs c.well_formed.0.1

pub joined-returns-in_err-a : goal.joined-returns-in_err-a
joined-returns-in_err-a t c = λ j. let a = c.args in c.from_residual.ensures ∙ join_bad _ _ _ a.s.now a.at _ j c.in_err-a.ensures

pub joined-returns-in_err-b : goal.joined-returns-in_err-b
joined-returns-in_err-b t c = λ j. c.from_residual-in_err-b.ensures ∙ join_bad_2 _ _ _ _ _ _ j _ _ (joined_first t (goal.at.joined-returns-in_err-b t c).In_ok-a) c.in_err-b.ensures

pub joined-returns : goal.joined-returns
joined-returns t c =
    λ j. let a = c.args in let f = joined_first t (goal.at.joined-returns t c).In_ok-a in
    let fs = found_parts _ _ _ a.s.now _ _ f.within c.in_ok-b.was c.parts.ensures in
    c.shut_two.ensures ∙ join_ok _ _ _ _ _ _ j _ _ f _ _ fs

pub negated-scan-requires : goal.negated-scan-requires
negated-scan-requires t c = (omega (arith, c.decreases), c.requires)

pub negated-shut_one-requires : goal.negated-shut_one-requires
negated-shut_one-requires t c = one_fits (negated-first t (goal.at.negated-shut_one-requires t c).In_ok-a) c.well_formed.0.1

pub negated-returns-in_err-a : goal.negated-returns-in_err-a
negated-returns-in_err-a t c = let a = c.args in c.from_residual.ensures ∙ neg_bad _ _ _ a.s.now a.at _ c.in_err-a.ensures

pub negated-returns : goal.negated-returns
negated-returns t c = c.shut_one.ensures ∙ neg_ok _ _ _ _ _ _ _ _ (negated-first t (goal.at.negated-returns t c).In_ok-a)

pub parts-loop-sc-init : goal.parts-loop-sc-init
parts-loop-sc-init t c = (c.requires.0, omega arith, turn_first _)

pub parts-returns-then-more-eq0 : goal.parts-returns-then-more-eq0
parts-returns-then-more-eq0 t c = turn_bad _ _ _ c.loop-sc.invariant.2 (parts_full _ _ _ c.args.s.now c.loop-sc.i _ _ c.if-more-eq0.true (parts-space t (goal.at.parts-returns-then-more-eq0 t c).In-loop-sc))

pub parts-overflow_add-i : goal.parts-overflow_add-i
parts-overflow_add-i t c = omega (arith, parts-inside t (goal.at.parts-overflow_add-i t c).In-loop-sc)

pub parts-scan-requires : goal.parts-scan-requires
parts-scan-requires t c = (omega (arith, c.decreases), (parts-inside t (goal.at.parts-scan-requires t c).In-loop-sc, c.requires.1, c.requires.2))

pub parts-returns-in_err-next : goal.parts-returns-in_err-next
parts-returns-in_err-next t c =
    c.from_residual.ensures ∙ turn_bad _ _ _ c.loop-sc.invariant.2 (parts_bad _ _ _ c.args.s.now c.loop-sc.i _ _ c.if-more-eq0.false
    (parts-space t (goal.at.parts-returns-in_err-next t c).In-loop-sc)
    c.in_err-next.ensures)

pub parts-both-said-requires : goal.parts-both-said-requires
parts-both-said-requires t c = let f = parts-one t (goal.at.parts-both-said-requires t c).In_ok-next (parts-inside t (goal.at.parts-both-said-requires t c).In-loop-sc) in omega (arith, f.small, f.within, c.well_formed.0.0)

pub parts-overflow_sub-more : goal.parts-overflow_sub-more
parts-overflow_sub-more t c = omega arith

pub parts-loop-sc-smaller : goal.parts-loop-sc-smaller
parts-loop-sc-smaller t c = omega arith

pub parts-loop-sc-preserved : goal.parts-loop-sc-preserved
parts-loop-sc-preserved t c =
    let f = parts-one t (goal.at.parts-loop-sc-preserved t c).In_ok-next (parts-inside t (goal.at.parts-loop-sc-preserved t c).In-loop-sc) in
    turn _ _ f c.both-said.ensures c.loop-sc.invariant.1 c.loop-sc.invariant.2
    (parts_turn _ _ _ _ c.loop-sc.i _ _ _ _ f c.if-more-eq0.false (parts-space t (goal.at.parts-loop-sc-preserved t c).In-loop-sc))

pub parts-returns : goal.parts-returns
parts-returns t c =
    turn_last _ _ _ c.loop-sc.invariant.2 _ (parts_stop_at _ _ _ c.args.s.now c.loop-sc.i _ _
    (few c.args.s.now c.args.sc c.requires.2) c.loop-sc.invariant.0 (sym c.starts.ensures ∙ c.loop-sc-test.false))

pub scan-returns-then-room-eq0 : goal.scan-returns-then-room-eq0
scan-returns-then-room-eq0 t c = read_none _ _ _ c.args.s.now c.args.at _ c.if-room-eq0.true

pub scan-kind_at-k-requires : goal.scan-kind_at-k-requires
scan-kind_at-k-requires t c = c.requires.0

pub scan-overflow_add-at : goal.scan-overflow_add-at
scan-overflow_add-at t c = omega (arith, (scan-asks t (goal.at.scan-overflow_add-at t c).After-kind_at-k Not c.in-Not.is).1.0)

pub scan-overflow_sub-room : goal.scan-overflow_sub-room
scan-overflow_sub-room t c = omega arith

pub scan-negated-requires : goal.scan-negated-requires
scan-negated-requires t c = scan-asks t (goal.at.scan-negated-requires t c).After-kind_at-k Not c.in-Not.is

pub scan-overflow_add-at-in-Implies : goal.scan-overflow_add-at-in-Implies
scan-overflow_add-at-in-Implies t c = omega (arith, (scan-asks t (goal.at.scan-overflow_add-at-in-Implies t c).After-kind_at-k Implies c.in-Implies.is).1.0)

pub scan-overflow_sub-room-in-Implies : goal.scan-overflow_sub-room-in-Implies
scan-overflow_sub-room-in-Implies t c = omega arith

pub scan-implied-requires : goal.scan-implied-requires
scan-implied-requires t c = scan-asks t (goal.at.scan-implied-requires t c).After-kind_at-k Implies c.in-Implies.is

pub scan-overflow_add-at-in-And : goal.scan-overflow_add-at-in-And
scan-overflow_add-at-in-And t c = omega (arith, (scan-asks t (goal.at.scan-overflow_add-at-in-And t c).After-kind_at-k And c.in-And.is).1.0)

pub scan-overflow_sub-room-in-And : goal.scan-overflow_sub-room-in-And
scan-overflow_sub-room-in-And t c = omega arith

pub scan-joined-requires : goal.scan-joined-requires
scan-joined-requires t c = scan-asks t (goal.at.scan-joined-requires t c).After-kind_at-k And c.in-And.is

pub scan-overflow_add-at-in-Or : goal.scan-overflow_add-at-in-Or
scan-overflow_add-at-in-Or t c = omega (arith, (scan-asks t (goal.at.scan-overflow_add-at-in-Or t c).After-kind_at-k Or c.in-Or.is).1.0)

pub scan-overflow_sub-room-in-Or : goal.scan-overflow_sub-room-in-Or
scan-overflow_sub-room-in-Or t c = omega arith

pub scan-joined-requires-in-Or : goal.scan-joined-requires-in-Or
scan-joined-requires-in-Or t c = scan-asks t (goal.at.scan-joined-requires-in-Or t c).After-kind_at-k Or c.in-Or.is

pub scan-overflow_add-at-in-Exists : goal.scan-overflow_add-at-in-Exists
scan-overflow_add-at-in-Exists t c = omega (arith, (scan-asks t (goal.at.scan-overflow_add-at-in-Exists t c).After-kind_at-k Exists c.in-Exists.is).1.0)

pub scan-overflow_sub-room-in-Exists : goal.scan-overflow_sub-room-in-Exists
scan-overflow_sub-room-in-Exists t c = omega arith

pub scan-bound-requires : goal.scan-bound-requires
scan-bound-requires t c = scan-asks t (goal.at.scan-bound-requires t c).After-kind_at-k Exists c.in-Exists.is

pub scan-overflow_add-at-in-Forall : goal.scan-overflow_add-at-in-Forall
scan-overflow_add-at-in-Forall t c = omega (arith, (scan-asks t (goal.at.scan-overflow_add-at-in-Forall t c).After-kind_at-k Forall c.in-Forall.is).1.0)

pub scan-overflow_sub-room-in-Forall : goal.scan-overflow_sub-room-in-Forall
scan-overflow_sub-room-in-Forall t c = omega arith

pub scan-bound-requires-in-Forall : goal.scan-bound-requires-in-Forall
scan-bound-requires-in-Forall t c = scan-asks t (goal.at.scan-bound-requires-in-Forall t c).After-kind_at-k Forall c.in-Forall.is

pub scan-literal-requires : goal.scan-literal-requires
scan-literal-requires t c = c.requires

pub scan-returns-in-Not : goal.scan-returns-in-Not
scan-returns-in-Not t c = c.negated.ensures ∙ scan-as t (goal.at.scan-returns-in-Not t c).After-kind_at-k Not c.in-Not.is _ _ _

pub scan-returns-in-Implies : goal.scan-returns-in-Implies
scan-returns-in-Implies t c = c.implied.ensures ∙ scan-as t (goal.at.scan-returns-in-Implies t c).After-kind_at-k Implies c.in-Implies.is _ _ _

pub scan-returns-in-And : goal.scan-returns-in-And
scan-returns-in-And t c = c.joined.ensures ands ∙ scan-as t (goal.at.scan-returns-in-And t c).After-kind_at-k And c.in-And.is _ _ _

pub scan-returns-in-Or : goal.scan-returns-in-Or
scan-returns-in-Or t c = c.joined-in-Or.ensures ors ∙ scan-as t (goal.at.scan-returns-in-Or t c).After-kind_at-k Or c.in-Or.is _ _ _

pub scan-returns-in-Exists : goal.scan-returns-in-Exists
scan-returns-in-Exists t c = c.bound.ensures somes ∙ scan-as t (goal.at.scan-returns-in-Exists t c).After-kind_at-k Exists c.in-Exists.is _ _ _

pub scan-returns-in-Forall : goal.scan-returns-in-Forall
scan-returns-in-Forall t c = c.bound-in-Forall.ensures everys ∙ scan-as t (goal.at.scan-returns-in-Forall t c).After-kind_at-k Forall c.in-Forall.is _ _ _

pub scan-returns-in-Other : goal.scan-returns-in-Other
scan-returns-in-Other t c = c.literal.ensures ∙ scan-as t (goal.at.scan-returns-in-Other t c).After-kind_at-k Other c.in-Other.is _ _ _
