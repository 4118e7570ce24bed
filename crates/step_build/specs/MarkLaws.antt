-- A round's end by the table: what it is and its number, the marks after it and theirs, and how many rounds there are.
use Prim.Native.Nat.{ℕ, zero, suc, ◌+◌, ◌-◌, ◌*◌, ◌/◌, ◌%◌, ◌^◌, ◌<◌, ◌≤◌}
use Rattle.std.specs.Prelude.{◌≡◌, Bool, true, false, List, ◌∷◌, T, ltb, length, if◌then◌else◌}
use Rattle.std.proofs.Math.Path.{refl}
use Rattle.std.proofs.Common.{sym, ap, subst, ◌∙◌, add-one, mod-eq_of_lt, one-mul, pow_pos, pow_mono, ltb→lt}
use native.Mathlib.Omega.{arith}
use Rattle.definitions.specs.Lists.{all}
use Rattle.definitions.specs.Sheet.Relations.{Relation, is_universal}
use Rattle.definitions.specs.Sheet.Sheets.{every_number}
use Rattle.definitions.specs.Problem.Truth.{every_tuples}
use Rattle.definitions.specs.Problem.Atoms.{Problem, State, relation_at, tuples_of, last_tuples}
use Rattle.definitions.specs.Problem.Actions.{mark_in, mark_out, finish, action_number, proof_start, marks_before}
use Rattle.definitions.specs.Problem.Strips.{may_take}
use Rattle.definitions.specs.Problem.Built.{marks_from, marks_after}
use Rattle.laws.specs.Booleans.{T_of, T_true, T_false, T_and_l}
use Rattle.laws.specs.Digits.{is_odd_lem, is_even}
use Rattle.laws.specs.Numbers.{IsAction, finish_is, last_width_lem, mark_first, mark_next}
use Rattle.meaning.specs.Means.{Good}
use Rattle.meaning.specs.Valid.{every_there}
use Rattle.meaning.specs.Values.{HasEvery, tuples_are}
use Rattle.problem_table.specs.Lines.{relation_place, node_place, relations_in, nodes_in, relation_line, last_line, has_every, every_in, node_line, Fits}
use Rattle.problem_table.specs.Numbers.{need_numbers, finish_in, ActFits}
use Rattle.problem_table.specs.Of.{Is, said}
use Rattle.problem_table.specs.OfLaws.{has_every_lem, every_count, finish_are}
use Rattle.problem_table.proofs.Needs.{may_is}
use Rattle.problem_table.specs.declared.NodeLine.{NodeLine}
use Rattle.problem_table.specs.declared.Act.{Act}
use Rattle.problem_table.specs.declared.Act.TheVariants.{Goal, RoundEnd, MarkIn, MarkOut}
use Rattle.step_prove.specs.Following.{Out, one}
use Rattle.step_build.specs.Ways.{follow}

-- ---- how many rounds: 2 ^ c, as the machine shifts
shifted : (c : ℕ) → c ≤ 8 → (1 * 2 ^ c) % 2 ^ 64 ≡ 2 ^ c
shifted c h =
    let a : 1 * 2 ^ c ≡ 2 ^ c = one-mul (2 ^ c) in
    let b : 2 ^ c ≤ 2 ^ 8 = pow_mono {i = c} {j = 8} h in
    ap (λ (x : ℕ). x % 2 ^ 64) a ∙ mod-eq_of_lt (omega arith)

shift_some : (c : ℕ) → c ≤ 8 → (0 < 2 ^ c) × (2 ^ c ≤ 256)
shift_some c h =
    let a = pow_pos c in
    let b : 2 ^ c ≤ 2 ^ 8 = pow_mono {i = c} {j = 8} h in
    (omega arith, omega arith)

pub shift_rounds : (w : List ℕ) (c : ℕ) → c ≡ every_in w → c ≤ 8 → (0 < (1 * 2 ^ c) % 2 ^ 64) × ((1 * 2 ^ c) % 2 ^ 64 ≤ 256) × (every_in w ≤ 8 → (1 * 2 ^ c) % 2 ^ 64 ≡ 2 ^ every_in w)
shift_rounds w c e h =
    let s = shifted c h in
    let b = shift_some c h in
    (subst (λ (x : ℕ). 0 < x) (sym s) b.0, subst (λ (x : ℕ). x ≤ 256) (sym s) b.1, λ _. s ∙ ap (λ (x : ℕ). 2 ^ x) e)

-- ---- by the table alone
pub acts_few : (w : List ℕ) → Fits w → (v : ℕ) (x : NodeLine) → x ≡ node_line w v → x.acts ≤ 2 ^ 32
unfolding node_line
acts_few w F v x e = subst (λ (y : NodeLine). y.acts ≤ 2 ^ 32) (sym e) (F.entry (node_place v))

pub every_few : (w : List ℕ) → Fits w → every_in w ≤ 2 ^ 32
unfolding every_in relation_line
every_few w F = by_test (has_every w)
  where
    by_test : (b : Bool) → (if b then (last_line w).nots - (last_line w).tuples else 0) ≤ 2 ^ 32
    by_test true = omega (arith, F.entry (relation_place (relations_in w - 1) + 2))
    by_test false = omega arith

has_some : (w : List ℕ) (i : ℕ) → i < every_in w → has_every w ≡ true
unfolding every_in
has_some w i h = by_test (has_every w) refl h
  where
    by_test : (b : Bool) → has_every w ≡ b → i < (if b then (last_line w).nots - (last_line w).tuples else 0) → has_every w ≡ true
    by_test true e h = e
    by_test false e h = absurd (omega arith)

pub some_relation : (w : List ℕ) (i : ℕ) → i < every_in w → 0 < relations_in w
unfolding has_every
some_relation w i h = ltb→lt 0 (relations_in w) (T_and_l (ltb 0 (relations_in w)) _ (T_of (has_some w i h)))

pub finish_fits : (w : List ℕ) (a : Act) → a ≡ finish_in w → ActFits w a
unfolding finish_in
finish_fits w a e = subst (ActFits w) (sym e) (by_test (has_every w))
  where
    by_test : (b : Bool) → ActFits w (if b then RoundEnd else Goal)
    by_test true = tt
    by_test false = tt

pub in_said : (r e row : ℕ) → r ≡ e → MarkIn (record { relation = r; row = row }) ≡ said (mark_in e row)
unfolding said
in_said r e row q = ap (λ (x : ℕ). MarkIn (record { relation = x; row = row })) q

pub out_said : (r e row : ℕ) → r ≡ e → MarkOut (record { relation = r; row = row }) ≡ said (mark_out e row)
unfolding said
out_said r e row q = ap (λ (x : ℕ). MarkOut (record { relation = x; row = row })) q

-- ---- of a problem
none_last : (n : ℕ) (k : Relation) → (T (is_universal k.kind) → ⊥) → last_tuples n k ≡ 0
unfolding last_tuples
none_last n k z = rw (T_false (is_universal k.kind) z) refl

module _ (p : Problem) (w : List ℕ) (is : Is p w) where
  pub finish_number : (x : NodeLine) → x ≡ node_line w (nodes_in w) → x.acts ≡ action_number p (finish p)
  finish_number x e = ap (λ (y : NodeLine). y.acts) e ∙ ap (λ (v : ℕ). (node_line w v).acts) is.nodes ∙ is.acts (length p.node_list) (omega arith) ∙ sym (finish_is p).1

  pub finish_test : (s : State) (b : Bool) (a : Act) → a ≡ finish_in w → b ≡ all s (need_numbers w a) → b ≡ may_take p s (finish p)
  finish_test s b a e q = q ∙ ap (λ (x : Act). all s (need_numbers w x)) (e ∙ sym (finish_are p w is)) ∙ may_is p w is s (finish p) (finish_is p).0

  module _ (G : Good p) (row : ℕ) (h : row < every_in w) where
    abbrev E : ℕ
    E = every_number p.source.question

    there : HasEvery p G
    there = subst T (has_every_lem p w is) (T_of (has_some w row h))

    pub last_number : relations_in w - 1 ≡ every_number p.source.question
    last_number = omega (arith, is.relations, is.every.last there)

    count_is : every_in w ≡ tuples_of p.size (relation_at p E)
    count_is = every_count p w is ∙ sym (tuples_are p G there)

    pub in_is : IsAction p (mark_in (every_number p.source.question) row)
    unfolding IsAction
    in_is = let (a, b) = every_there p G there in (a, b, omega (arith, count_is))

    pub out_is : IsAction p (mark_out (every_number p.source.question) row)
    unfolding IsAction
    out_is = let (a, b) = every_there p G there in (a, b, omega (arith, count_is))

    none_before : (r : ℕ) → r ≤ E → marks_before p r ≡ 0
    none_before zero l = mark_first p
    none_before (suc r) l =
        let d = (every_there p G there).0 in
        let m = mark_next p r (omega arith) in
        let i = none_before r (omega arith) in
        let z = none_last p.size (relation_at p r) (λ u. let q = (G.every_one r (omega arith) u).0 in omega arith) in
        omega arith

    all_marks : marks_before p (length p.relations) ≡ every_in w
    all_marks =
        let m = mark_next p E (every_there p G there).0 in
        let z = none_before E (omega arith) in
        let t = last_width_lem p.size (relation_at p E) (T_true _ (every_there p G there).1) in
        ap (marks_before p) (sym (is.every.last there)) ∙ omega (arith, count_is)

    acts_are : (x : NodeLine) → x ≡ node_line w (nodes_in w) → x.acts ≡ proof_start p (length p.node_list)
    acts_are x e = finish_number x e ∙ (finish_is p).1

    pub in_number : (x : NodeLine) → x ≡ node_line w (nodes_in w) → x.acts + 1 + row ≡ action_number p (mark_in (every_number p.source.question) row)
    unfolding action_number
    in_number x e = omega (arith, acts_are x e, none_before E (omega arith))

    pub out_number : (x : NodeLine) → x ≡ node_line w (nodes_in w) → (c : ℕ) → c ≡ every_in w → x.acts + 1 + c + row ≡ action_number p (mark_out (every_number p.source.question) row)
    unfolding action_number
    out_number x e c q = omega (arith, acts_are x e, none_before E (omega arith), all_marks)

-- ---- the marks, one after another
module _ (p : Problem) (r : ℕ) where
  pub marks_out : (o o' : Out) (c i m : ℕ) → i < c → 0 < m % 2 → one p o (mark_out r i) ≡ o' → follow p o (marks_from r (c - i) i m) ≡ follow p o' (marks_from r (c - (i + 1)) (i + 1) (m / 2))
  unfolding marks_from follow
  marks_out o o' c i m h t e =
      let d : c - i ≡ suc (c - suc i) = omega arith in
      rw (d, is_odd_lem m (omega arith), add-one) (ap (λ (x : Out). follow p x (marks_from r (c - suc i) (suc i) (m / 2))) e)

  pub marks_in : (o o' : Out) (c i m : ℕ) → i < c → m % 2 ≡ 0 → one p o (mark_in r i) ≡ o' → follow p o (marks_from r (c - i) i m) ≡ o'
  unfolding marks_from follow
  marks_in o o' c i m h t e =
      let d : c - i ≡ suc (c - suc i) = omega arith in
      rw (d, is_even m t) e

  pub marks_end : (o : Out) (c i m : ℕ) → c ≤ i → follow p o (marks_from r (c - i) i m) ≡ o
  unfolding marks_from follow
  marks_end o c i m h = let d : c - i ≡ 0 = omega arith in rw d refl

pub marks_start : (p : Problem) (w : List ℕ) → Is p w → (o : Out) (k c : ℕ) → c ≡ every_in w → follow p o (marks_after p k) ≡ follow p o (marks_from (every_number p.source.question) (c - 0) 0 k)
unfolding marks_after
marks_start p w is o k c e =
    let d : every_tuples p.source ≡ c - 0 = omega (arith, every_count p w is) in
    ap (λ (n : ℕ). follow p o (marks_from (every_number p.source.question) n 0 k)) d

-- the end, then the marks
pub end_marks : (p : Problem) (o o₁ o₂ : Out) (k : ℕ) → one p o (finish p) ≡ o₁ → follow p o₁ (marks_after p k) ≡ o₂ → follow p o (finish p ∷ marks_after p k) ≡ o₂
unfolding follow
end_marks p o o₁ o₂ k e q = ap (λ (x : Out). follow p x (marks_after p k)) e ∙ q
