-- The folds over the builder's progress, step by step.
use Rattle.std.specs.Prelude.{ℕ, suc, ◌+◌, ◌-◌, ◌<◌, ◌≤◌, ◌^◌, ◌≡◌, List, set}
use Rattle.std.proofs.Common.{sym, ap, ◌∙◌, subst, arith, add-one}
use Rattle.definitions.specs.Problem.Atoms.{Problem, State, node_at, node_width, node_start}
use Rattle.definitions.specs.Problem.Actions.{Action, action_number}
use Rattle.definitions.specs.Problem.Strips.{after}
use Rattle.laws.specs.Numbers.{IsAction, action_at_lem, action_below, node_next}
use Rattle.problem_table.specs.Lines.{nodes_in, node_line}
use Rattle.problem_table.specs.declared.NodeLine.{NodeLine}
use Rattle.problem_table.specs.Numbers.{add_numbers, remove_numbers, changed, Held}
use Rattle.problem_table.specs.Of.{Is, said}
use Rattle.problem_table.specs.OfLaws.{after_is, held}
use Rattle.problem_table.specs.declared.Act.{Act}
use Rattle.step_prove.specs.Following.{ReadyToFollow, out, one}

-- a step taken and written is one more
pub step_one : (p : Problem) (w : List ℕ) (k : ℕ) (s s' : State) (b b' : List ℕ) (at number : ℕ) (a : Act) (x : Action) → ReadyToFollow p w k → IsAction p x → a ≡ said x → number ≡ action_number p x
    → (Held (add_numbers w a) k → s' ≡ changed s (remove_numbers w a) (add_numbers w a)) → (number < 2 ^ 32 → b' ≡ set b at number) → one p (out s b at) x ≡ out s' b' (at + 1)
unfolding one
step_one p w k s s' b b' at number a x R v e n f g =
    let h : Held (add_numbers w a) k = subst (λ (y : Act). Held (add_numbers w y) k) (sym e) (held p w R.is k R.room x v) in
    let i : s' ≡ after p s x = f h ∙ ap (λ (y : Act). changed s (remove_numbers w y) (add_numbers w y)) e ∙ after_is p w R.is s x v in
    let m = action_below p (action_number p x) x (action_at_lem p x v) in
    let j : b' ≡ set b at (action_number p x) = g (omega (arith, R.few)) ∙ ap (set b at) n in
    rw (i, j, add-one)

-- where the nodes from v on start, and how wide the one before v is
module _ (p : Problem) (w : List ℕ) (is : Is p w) where
  pub start_before : (v : ℕ) (x : NodeLine) → x ≡ node_line w (v - 1) → 0 < v → v ≤ nodes_in w → x.atoms ≡ node_start p (v - 1)
  start_before v x e h k = ap (λ (y : NodeLine). y.atoms) e ∙ (is.node (v - 1) (omega (arith, is.nodes))).atoms

  pub width_before : (v end : ℕ) (x : NodeLine) → x ≡ node_line w (v - 1) → 0 < v → v ≤ nodes_in w → end ≡ node_start p v → (g : ℕ) → g ≡ end - x.atoms → g ≡ node_width p.size (node_at p (v - 1))
  width_before v end x e h k s g q =
      let d : suc (v - 1) ≡ v = omega arith in
      let a = start_before v x e h k in
      let b : node_start p v ≡ node_start p (v - 1) + node_width p.size (node_at p (v - 1)) = ap (node_start p) (sym d) ∙ node_next p (v - 1) (omega (arith, is.nodes)) in
      omega arith
