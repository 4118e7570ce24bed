-- `literal` meets its contract.
use mathlib.Core.Path.{◌≡◌, sym, ◌∙◌}
use mathlib.Core.Bool.{true, false}
use native.Mathlib.Omega.{arith}
use Prim.Native.Nat.{◌+◌, ◌-◌, ◌≤◌}
use mathlib.Core.List.{[], ◌∷◌}
use lib.ListN.{length, drop}
use Rattle.definitions.specs.Sheet.Parsing.{begins, read_word, read_var, read_vars}
use Rattle.read_rule.specs.Seen.{nought, names, var_facts, vars_facts}
use Rattle.read_rule.specs.Bound.{few}
use Rattle.read_rule.specs.Steps.{Hit, hit, room, fit_word, fit_var, fit_vars, lit_no, lit_bad, lit_gap, lit_bad_2, lit_bad_3}
use Rattle.read_rule.proofs.Rounds.{past_space, two_fit, lit_done}
use Rattle.read_rule.proofs.literal.Goals as goal
use Rattle.read_rule.proofs.literal.Goals.{In_ok-a, In_ok-b, In_ok-e, Else-not-starts, Else-not-starts-2}

-- the bracket, the name, the space after it, the first variable
module _ (c : Else-not-starts) where
  opened : begins (40 ∷ []) (drop c.args.at c.args.s.now) ≡ true
  opened = sym c.starts.ensures ∙ c.if-not-starts.false

  inside : c.args.at + 1 ≤ length c.args.s.now
  inside = room (40 ∷ []) c.args.s.now _ c.requires.0 opened

name : (c : In_ok-a) → c.args.at + 1 ≤ length c.args.s.now → let a = c.args in Hit nought a.s.now (a.at + 1) (read_word false (drop (a.at + 1) a.s.now)) c.in_ok-a.a c.in_ok-a.field-0-1
name c in-text = hit _ _ _ _ _ _ (fit_word _ _) in-text c.in_ok-a.ensures

space : (c : Else-not-starts-2) → begins (32 ∷ [])
    (drop c.in_ok-a.a c.args.s.now) ≡ true
space c = sym c.starts-2.ensures ∙ c.if-not-starts-2.false

first : (c : In_ok-b) → c.in_ok-a.a + 1 ≤ length c.args.s.now → let a = c.args in let i = c.in_ok-a.a + 1 in
    Hit (var_facts (names a.s.now a.sc)) a.s.now i (read_var (drop i a.s.now)) c.in_ok-b.b c.in_ok-b.f
first c in-text = hit _ _ _ _ _ _ (fit_var _ _) in-text c.in_ok-b.ensures

-- the other variables
others : (c : In_ok-e) → c.in_ok-b.b ≤ length c.args.s.now → let a = c.args in let i = c.in_ok-b.b in Hit (vars_facts (names a.s.now a.sc)) a.s.now i (read_vars (length a.s.now - i) (drop i a.s.now)) c.in_ok-e.e
    c.in_ok-e.g
others c in-text = hit _ _ _ _ _ _ (fit_vars _ _ _) in-text c.in_ok-e.ensures

pub overflow_add-at : goal.overflow_add-at
overflow_add-at c =
    let p = goal.at.overflow_add-at c in
    omega (arith, inside p.Else-not-starts)

pub word-requires : goal.word-requires
word-requires c =
    let p = goal.at.word-requires c in
    inside p.Else-not-starts

pub starts-requires-2 : goal.starts-requires-2
starts-requires-2 c =
    let p = goal.at.starts-requires-2 c in
    (name p.In_ok-a (inside p.Else-not-starts)).within

pub overflow_add-a : goal.overflow_add-a
overflow_add-a c =
    let p = goal.at.overflow_add-a c in
    let n = name p.In_ok-a (inside p.Else-not-starts) in
    omega (arith, past_space n (space p.Else-not-starts-2))

pub var_at-requires : goal.var_at-requires
var_at-requires c =
    let p = goal.at.var_at-requires c in
    let n = name p.In_ok-a (inside p.Else-not-starts) in
    (past_space n (space p.Else-not-starts-2), c.requires.2)

pub overflow_sub-s : goal.overflow_sub-s
overflow_sub-s c =
    let p = goal.at.overflow_sub-s c in
    let n = name p.In_ok-a (inside p.Else-not-starts) in
    (first p.In_ok-b (past_space n (space p.Else-not-starts-2))).within

pub vars-requires : goal.vars-requires
vars-requires c =
    let p = goal.at.vars-requires c in
    let n = name p.In_ok-a (inside p.Else-not-starts) in
    let f = first p.In_ok-b (past_space n (space p.Else-not-starts-2)) in
    (f.within, c.requires.2)

pub both-h-requires : goal.both-h-requires
both-h-requires c =
    let p = goal.at.both-h-requires c in
    let n = name p.In_ok-a (inside p.Else-not-starts) in
    let f = first p.In_ok-b (past_space n (space p.Else-not-starts-2)) in
    let g = others p.In_ok-e f.within in
    omega (arith, (two_fit f g c.well_formed.0.1).1)

pub overflow_add-at-2 : goal.overflow_add-at-2
overflow_add-at-2 c =
    let p = goal.at.overflow_add-at-2 c in
    omega (arith, inside p.Else-not-starts, c.well_formed.0.0)

pub shut_literal-requires : goal.shut_literal-requires
shut_literal-requires c =
    let p = goal.at.shut_literal-requires c in
    let n = name p.In_ok-a (inside p.Else-not-starts) in
    let f = first p.In_ok-b (past_space n (space p.Else-not-starts-2)) in
    ((others p.In_ok-e f.within).within, c.requires.1)

pub returns-in_err-a : goal.returns-in_err-a
returns-in_err-a c =
    let p = goal.at.returns-in_err-a c in
    c.from_residual.ensures ∙ lit_bad _ _ _ c.args.s.now c.args.at (opened p.Else-not-starts) c.in_err-a.ensures

pub returns-in_err-b : goal.returns-in_err-b
returns-in_err-b c =
    let p = goal.at.returns-in_err-b c in
    let n = name p.In_ok-a (inside p.Else-not-starts) in
    c.from_residual-in_err-b.ensures ∙ lit_bad_2 _ _ _ _ c.args.at (opened p.Else-not-starts) _ _ n (space p.Else-not-starts-2) c.in_err-b.ensures

pub returns-in_err-e : goal.returns-in_err-e
returns-in_err-e c =
    let p = goal.at.returns-in_err-e c in
    let n = name p.In_ok-a (inside p.Else-not-starts) in
    let f = first p.In_ok-b (past_space n (space p.Else-not-starts-2)) in
    c.from_residual-in_err-e.ensures ∙ lit_bad_3 _ _ _ _ c.args.at (opened p.Else-not-starts) _ _ n (space p.Else-not-starts-2) _ _ f c.in_err-e.ensures

pub returns : goal.returns
returns c =
    let p = goal.at.returns c in
    let n = name p.In_ok-a (inside p.Else-not-starts) in
    let f = first p.In_ok-b (past_space n (space p.Else-not-starts-2)) in
    let g = others p.In_ok-e f.within in
    let le = few c.args.s.now c.args.sc c.requires.2 in
    c.shut_literal.ensures ∙ lit_done _ _ _ c.args.at (opened p.Else-not-starts) n (space p.Else-not-starts-2) f le g c.both-h.ensures

pub returns-then-not-starts-2 : goal.returns-then-not-starts-2
returns-then-not-starts-2 c =
    let p = goal.at.returns-then-not-starts-2 c in
    lit_gap _ _ _ _ c.args.at (opened p.Else-not-starts) _ _ (name p.In_ok-a (inside p.Else-not-starts)) (sym c.starts-2.ensures ∙ c.if-not-starts-2.true)

pub returns-then-not-starts : goal.returns-then-not-starts
returns-then-not-starts c = lit_no _ _ _ c.args.s.now c.args.at (sym c.starts.ensures ∙ c.if-not-starts.true)
