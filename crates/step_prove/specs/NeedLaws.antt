-- What an action of each kind needs, once the values of its row are known.
use Rattle.std.specs.Prelude.{ℕ, zero, suc, ◌+◌, ◌-◌, ◌*◌, ◌^◌, ◌<◌, ◌≤◌, ◌≡◌, refl, Bool, true, false, List, map, eqb, get_or, set, if◌then◌else◌}
use Rattle.std.proofs.Common.{sym, ap, ◌∙◌, arith, zero-mul, mul-le-mul}
use borrow.Author.Tests.{eq-eqb, ne_eqb}
use Rattle.definitions.specs.Lists.{all, from}
use Rattle.definitions.specs.Problem.Actions.{Values, with_value}
use Rattle.rows.specs.Values.{value_in, Most}
use Rattle.rows.specs.Laws.{within_set}
use Rattle.problem_table.specs.Lines.{size_in, node_line, part_line, part_number, part_at, range_in}
use Rattle.problem_table.specs.Numbers.{row_values, under_at, and_needs, or_needs, exists_needs, forall_needs, need_numbers}
use Rattle.problem_table.specs.NeedLaws.{and_parts, or_part, exists_under, value_times, members_length, member_at}
use Rattle.problem_table.specs.declared.NodeLine.{NodeLine}
use Rattle.problem_table.specs.declared.PartLine.{PartLine}
use Rattle.problem_table.specs.declared.Act.TheVariants.{And, Or, Exists, Forall}
use Rattle.step_prove.specs.Tries.{act_by, need_by, first_from, first_at, first_by}
use Rattle.step_prove.specs.TryLaws.{way_exists, way_and, way_or, first_same, first_only}

-- ---- by the node's line
pub need_by_lem : (w : List ℕ) (node : ℕ) (v : NodeLine) (row i : ℕ) → v ≡ node_line w node → need_numbers w (act_by v.kind (range_in w v) node row i) ≡ need_by (size_in w) w v row i
unfolding act_by need_by need_numbers
need_by_lem w node v row i e = by_kind (eqb v.kind 0) (eqb v.kind 1) (eqb v.kind 2) (get_or (range_in w v) i 0)
  where
    by_kind : (b₀ b₁ b₂ : Bool) (x : ℕ) → need_numbers w
        (if b₀ then Forall (record { node = node; row = row; choice = x }) else if b₁ then Exists (record { node = node; row = row; choice = x })
        else if b₂ then And (record { node = node; row = row }) else Or (record { node = node; row = row; choice = i }))
        ≡ (if b₀ then forall_needs (size_in w) w v row x else if b₁ then exists_needs (size_in w) w v row x else if b₂ then and_needs (size_in w) w v row else or_needs (size_in w) w v row i)
    by_kind true b₁ b₂ x = ap (λ (u : NodeLine). forall_needs (size_in w) w u row x) (sym e)
    by_kind false true b₂ x = ap (λ (u : NodeLine). exists_needs (size_in w) w u row x) (sym e)
    by_kind false false true x = ap (λ (u : NodeLine). and_needs (size_in w) w u row) (sym e)
    by_kind false false false x = ap (λ (u : NodeLine). or_needs (size_in w) w u row i) (sym e)

module _ (s : ℕ → Bool) (n : ℕ) (w : List ℕ) (v : NodeLine) (row : ℕ) where
  abbrev passes : ℕ → Bool
  passes i = all s (need_by n w v row i)

  abbrev member : ℕ → ℕ
  member i = get_or (range_in w v) i 0

  pass_exists : v.kind ≡ 1 → (i : ℕ) → passes i ≡ all s (exists_needs n w v row (member i))
  unfolding need_by
  pass_exists e i = rw (ne_eqb v.kind 0 (λ z. omega arith), eq-eqb v.kind 1 e)

  pass_and : v.kind ≡ 2 → (c : ℕ) → passes c ≡ all s (and_needs n w v row)
  unfolding need_by
  pass_and e c = rw (ne_eqb v.kind 0 (λ z. omega arith), ne_eqb v.kind 1 (λ z. omega arith), eq-eqb v.kind 2 e)

  pass_or : 3 ≤ v.kind → (c : ℕ) → passes c ≡ all s (or_needs n w v row c)
  unfolding need_by
  pass_or h c = rw (ne_eqb v.kind 0 (λ z. omega arith), ne_eqb v.kind 1 (λ z. omega arith), ne_eqb v.kind 2 (λ z. omega arith))

  module _ (env : List ℕ) (e : value_in env ≡ row_values n v row) where
    -- `or`: the parts; `and`: all of them
    pub parts_tried : (r : ℕ) → 3 ≤ v.kind → s 1 ≡ true → r ≡ first_from (λ i. s (part_at w (value_in env) (v.first + i))) 0 v.many → r ≡ first_by s n w v row
    parts_tried r h o q = q ∙ first_same _ (λ i. passes (0 + i)) v.many 0 (λ i l.
        let d : v.first + (0 + i) ≡ v.first + (0 + (0 + i)) = omega arith in
        ap (λ (x : ℕ). s (part_at w (value_in env) x)) d ∙ or_part s n w v row env e (0 + (0 + i)) _ o refl ∙ sym (pass_or h (0 + (0 + i)))) ∙ ap (first_at s n w v) (way_or n v.kind v.many (range_in w v) row h)

    pub whole_tried : (r : ℕ) (b : Bool) → v.kind ≡ 2 → s 1 ≡ true → b ≡ all s (map (part_at w (value_in env)) (from v.first v.many)) → r ≡ first_from (λ i. b) 0 1 → r ≡ first_by s n w v row
    whole_tried r b h o a q = q ∙ first_only (λ i. passes (0 + i)) b 1 refl (pass_and h (0 + 0) ∙ sym (and_parts s n w v row env e b o a)) ∙ ap (first_at s n w v) (way_and n v.kind v.many (range_in w v) row h)

  -- quantifiers: the part at each member of the range
  module _ (start stride : ℕ) (under : (x : ℕ) → under_at n w v row x ≡ start + x * stride) where
    pub elements_tried : (r : ℕ) → v.kind ≡ 1 → s 1 ≡ true → r ≡ first_from (λ i. s (start + get_or w (v.range + i) 0 * stride)) 0 v.count → r ≡ first_by s n w v row
    elements_tried r h o q = q ∙ first_same _ (λ i. passes (0 + i)) v.count 0 (λ i l.
        let d : 0 + (0 + i) ≡ 0 + i = omega arith in
        ap (λ (x : ℕ). s (start + x * stride)) (sym (member_at w v.range v.count (0 + i) (omega arith)))
        ∙ exists_under s n w v row (member (0 + i)) _ o (ap s (sym (under (member (0 + i))))) ∙ sym (pass_exists h (0 + i)) ∙ ap passes (sym d))
        ∙ ap (first_from (λ i. passes (0 + i)) 0) (sym (members_length w v.range v.count)) ∙ ap (first_at s n w v) (way_exists n v.kind v.many (range_in w v) row h)

-- ---- a part's atom grows with the element by the level's weight
part_along : (e : Values) (q : PartLine) (d x : ℕ) → d < 4 → part_number (with_value e d x) q ≡ part_number (with_value e d 0) q + x * value_in q.weights d
unfolding part_number with_value
part_along e q zero x h = omega (arith, zero-mul (value_in q.weights 0))
part_along e q (suc zero) x h = omega (arith, zero-mul (value_in q.weights 1))
part_along e q (suc (suc zero)) x h = omega (arith, zero-mul (value_in q.weights 2))
part_along e q (suc (suc (suc zero))) x h = omega (arith, zero-mul (value_in q.weights 3))
part_along e q (suc (suc (suc (suc d)))) x h = absurd (omega arith)

-- .. from what it is without that level
with_own : (e : Values) (q : PartLine) (d : ℕ) → d < 4 → part_number (with_value e d (e d)) q ≡ part_number e q
unfolding part_number with_value
with_own e q zero h = refl
with_own e q (suc zero) h = refl
with_own e q (suc (suc zero)) h = refl
with_own e q (suc (suc (suc zero))) h = refl
with_own e q (suc (suc (suc (suc d)))) h = absurd (omega arith)

pub along_less : (env : List ℕ) (d start : ℕ) (q : PartLine) → d < 4 → start ≡ part_number (value_in env) q → get_or env d 0 * get_or q.weights d 0 ≤ start
unfolding value_in
along_less env d start q h e = omega (arith, with_own (value_in env) q d h, part_along (value_in env) q d (get_or env d 0) h)

pub along_is : (w env : List ℕ) (i d start : ℕ) (q : PartLine) → q ≡ part_line w i → d < 4 → start ≡ part_number (value_in env) q
    → (x : ℕ) → part_at w (with_value (value_in env) d x) i ≡ start - get_or env d 0 * get_or q.weights d 0 + x * get_or q.weights d 0
unfolding part_at value_in
along_is w env i d start q e h o x =
    let a : start - get_or env d 0 * get_or q.weights d 0 ≡ part_number (with_value (value_in env) d 0) q = omega (arith, with_own (value_in env) q d h, part_along (value_in env) q d (get_or env d 0) h) in
    ap (part_number (with_value (value_in env) d x)) (sym e) ∙ part_along (value_in env) q d x h ∙ ap (λ (y : ℕ). y + x * get_or q.weights d 0) (sym a)

-- the values are those of the row
pub under_along : (n : ℕ) (w : List ℕ) (v : NodeLine) (row start stride : ℕ) (env : List ℕ) → value_in env ≡ row_values n v row → ((x : ℕ) → part_at w (with_value (value_in env) v.level x) v.first ≡ start + x * stride)
    → (x : ℕ) → under_at n w v row x ≡ start + x * stride
unfolding under_at
under_along n w v row start stride env e a x = ap (λ (f : Values). part_at w (with_value f v.level x) v.first) (sym e) ∙ a x

pub part_most : (q : PartLine) (env : List ℕ) → q.start ≤ 2 ^ 32 → Most q.weights (2 ^ 32) → Most env 64 → part_number (value_in env) q ≤ 2 ^ 42
unfolding part_number value_in
part_most q env a b c = omega (arith, small 0, small 1, small 2, small 3)
  where
    small : (l : ℕ) → get_or env l 0 * get_or q.weights l 0 ≤ 64 * 2 ^ 32
    small l = value_times (get_or env l 0) (get_or q.weights l 0) (c l) (b l)

pub most_set : (env : List ℕ) (d x : ℕ) → x ≤ 64 → Most env 64 → Most (set env d x) 64
most_set env d x h m l = omega (arith, within_set 65 env d x (omega arith) (λ i. omega (arith, m i)) l)

-- a bit of a stride
pub stride_most : (i stride m : ℕ) → i ≤ m → stride ≤ 2 ^ 32 → i * stride ≤ m * 2 ^ 32
stride_most i stride m a b = mul-le-mul a b
