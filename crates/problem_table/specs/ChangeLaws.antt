-- Laws of a changed state.
use Rattle.std.specs.Prelude.{◌≡◌, Bool, true, false, not, cond, ◌&&◌, ◌||◌, List, [], ◌∷◌, ℕ, ◌+◌, ◌-◌, ◌*◌, ◌/◌, ◌%◌, ◌≤◌, ◌<◌, min, eqb, length}
use Rattle.std.proofs.Math.Path.{refl, fun_ext}
use Rattle.std.proofs.Common.{sym, ap, ap₂, ◌∙◌, subst, arith}
use Rattle.std.proofs.Math.Decide.{ℕ_discrete}
use borrow.Author.Tests.{lt-ltb, le-ltb}
use Rattle.definitions.specs.Lists.{any, from, is_in}
use Rattle.laws.specs.Booleans.{T_true, T_false}
use Rattle.laws.specs.Lists.{mem_from, from_mem}
use Rattle.laws.specs.Members.{mem_in, in_mem}
use Rattle.bits.specs.Table.{bit, put, paste}
use Rattle.problem_table.specs.Numbers.{free_numbers, changed, set_removes, round_removes, next_mark, add_numbers, remove_numbers, Held}
use Rattle.bits.proofs.Stores.{paste_on}
use Rattle.bits.proofs.Laws.{bit_past, put_same, put_other, within, paste_in, paste_out}
use Rattle.problem_table.specs.Lines.{size_in, nodes_in, relation_line, last_line, node_line}
use Rattle.problem_table.specs.declared.RelationLine.{RelationLine}
use Rattle.problem_table.specs.declared.NodeLine.{NodeLine}
use Rattle.problem_table.specs.declared.TupleAct.{TupleAct}
use Rattle.problem_table.specs.declared.RowAct.{RowAct}
use Rattle.problem_table.specs.declared.ChoiceAct.{ChoiceAct}
use Rattle.problem_table.specs.declared.Act.{Act}
use Rattle.problem_table.specs.declared.Act.TheVariants.{Set, Begin, And, Or, Exists, Forall, Goal, RoundEnd, MarkIn, MarkOut, Nothing}

pub put_clear : (s : ℕ → Bool) (i : ℕ) → put s i false ≡ changed s (i ∷ []) []
unfolding put changed any
put_clear s i = fun_ext (λ j. by_test (eqb j i) (s j))
  where
    by_test : (b x : Bool) → cond b false x ≡ ((x && not (b || false)) || false)
    by_test true true = refl
    by_test true false = refl
    by_test false true = refl
    by_test false false = refl

pub put_raise : (s : ℕ → Bool) (i : ℕ) → put s i true ≡ changed s [] (i ∷ [])
unfolding put changed any
put_raise s i = fun_ext (λ j. by_test (eqb j i) (s j))
  where
    by_test : (b x : Bool) → cond b true x ≡ ((x && not false) || (b || false))
    by_test true true = refl
    by_test true false = refl
    by_test false true = refl
    by_test false false = refl

-- one after the other
pub clear_then : (s : ℕ → Bool) (i : ℕ) (gone come : List ℕ) → changed (changed s (i ∷ []) []) gone come ≡ changed s (i ∷ gone) come
unfolding changed any
clear_then s i gone come = fun_ext (λ j. by_test (eqb j i) (s j) (any (eqb j) gone) (any (eqb j) come))
  where
    by_test : (b x g c : Bool) → ((((x && not (b || false)) || false) && not g) || c) ≡ ((x && not (b || g)) || c)
    by_test true true g c = refl
    by_test true false g c = refl
    by_test false true true c = refl
    by_test false true false c = refl
    by_test false false g c = refl

pub gone_then_come : (s : ℕ → Bool) (gone come : List ℕ) → changed (changed s gone []) [] come ≡ changed s gone come
unfolding changed any
gone_then_come s gone come = fun_ext (λ j. by_test (s j) (any (eqb j) gone) (any (eqb j) come))
  where
    by_test : (x g c : Bool) → ((((x && not g) || false) && not false) || c) ≡ ((x && not g) || c)
    by_test true true c = refl
    by_test true false c = refl
    by_test false g c = refl

pub changed_none : (s : ℕ → Bool) → s ≡ changed s [] []
unfolding changed any
changed_none s = fun_ext (λ j. by_test (s j))
  where
    by_test : (x : Bool) → x ≡ ((x && not false) || false)
    by_test true = refl
    by_test false = refl

-- a bit past the end is clear
pub clear_past : (t : List ℕ) (i : ℕ) → length t ≤ i / 64 → bit t ≡ changed (bit t) (i ∷ []) []
clear_past t i h = fun_ext (λ j. by_number j (ℕ_discrete j i)) ∙ put_clear (bit t) i
  where
    by_number : (j : ℕ) → Dec (j ≡ i) → bit t j ≡ put (bit t) i false j
    by_number j (yes e) = ap (bit t) e ∙ bit_past t i (omega arith) ∙ sym (put_same (bit t) i false) ∙ ap (put (bit t) i false) (sym e)
    by_number j (no k) = sym (put_other (bit t) i false j k)

-- ---- the free atoms of a tuple
module _ (s : ℕ → Bool) (n kind free row : ℕ) where
  pub clear_none : kind < 2 → s ≡ changed s (free_numbers n kind free row) []
  unfolding free_numbers
  clear_none h = rw (lt-ltb kind 2 h) (changed_none s)

  pub clear_domain : 2 ≤ kind → kind < 4 → changed s ((free + row / n) ∷ []) [] ≡ changed s (free_numbers n kind free row) []
  unfolding free_numbers
  clear_domain h k = rw (le-ltb kind 2 h, lt-ltb kind 4 k) refl

  pub clear_both : 4 ≤ kind → changed (changed s ((free + row / n) ∷ []) []) ((free + n + row % n) ∷ []) [] ≡ changed s (free_numbers n kind free row) []
  unfolding free_numbers
  clear_both h = rw (le-ltb kind 2 (omega arith), le-ltb kind 4 h) (clear_then s (free + row / n) ((free + n + row % n) ∷ []) [])

pub set_changes : (s : ℕ → Bool) (n : ℕ) (k : RelationLine) (row i : ℕ)
    → changed (changed (changed s ((k.nots + row) ∷ []) []) (free_numbers n k.kind k.free row) []) [] (i ∷ []) ≡ changed s (set_removes n k row) (i ∷ [])
unfolding set_removes
set_changes s n k row i =
    let f = free_numbers n k.kind k.free row in
    gone_then_come (changed s ((k.nots + row) ∷ []) []) f (i ∷ []) ∙ clear_then s (k.nots + row) f (i ∷ [])

-- ---- what a mark goes with
pub come_then : (s : ℕ → Bool) (gone : List ℕ) (i j : ℕ) → changed (changed s gone (i ∷ [])) [] (j ∷ []) ≡ changed s gone (i ∷ j ∷ [])
unfolding changed any
come_then s gone i j = fun_ext (λ x. by_test (s x) (any (eqb x) gone) (eqb x i) (eqb x j))
  where
    by_test : (x g a b : Bool) → ((((x && not g) || (a || false)) && not false) || (b || false)) ≡ ((x && not g) || (a || (b || false)))
    by_test true true true b = refl
    by_test true true false b = refl
    by_test true false a b = refl
    by_test false g true b = refl
    by_test false g false b = refl

pub mark_changes : (s a b d z : ℕ → Bool) (mark old new next : ℕ) → a ≡ changed s (mark ∷ []) [] → b ≡ changed a (old ∷ []) []
    → d ≡ changed b [] (new ∷ []) → z ≡ changed d [] (next ∷ []) → z ≡ changed s (mark ∷ old ∷ []) (new ∷ next ∷ [])
mark_changes s a b d z mark old new next e f g h =
    h ∙ ap (λ (x : ℕ → Bool). changed x [] (next ∷ [])) (g ∙ ap (λ (x : ℕ → Bool). changed x [] (new ∷ [])) (f ∙ ap (λ (x : ℕ → Bool). changed x (old ∷ []) []) e))
    ∙ ap (λ (x : ℕ → Bool). changed (changed x [] (new ∷ [])) [] (next ∷ [])) (clear_then s mark (old ∷ []) [])
    ∙ ap (λ (x : ℕ → Bool). changed x [] (next ∷ [])) (gone_then_come s (mark ∷ old ∷ []) (new ∷ [])) ∙ come_then s (mark ∷ old ∷ []) new next

pub mark_next : (s z : ℕ → Bool) (len : ℕ) (gone : List ℕ) (new next mark : ℕ) → next ≡ mark
    → (Held (new ∷ next ∷ []) len → z ≡ changed s gone (new ∷ next ∷ [])) → Held (new ∷ mark ∷ []) len → z ≡ changed s gone (new ∷ mark ∷ [])
mark_next s z len gone new next mark e q = subst (λ (x : ℕ). Held (new ∷ x ∷ []) len → z ≡ changed s gone (new ∷ x ∷ [])) e q

pub node_comes : (s z : ℕ → Bool) (len at : ℕ) (t : List ℕ) (node : ℕ) (v : NodeLine) → v ≡ node_line t node
    → ((v.atoms + at) / 64 < len → z ≡ changed s [] ((v.atoms + at) ∷ [])) → ((node_line t node).atoms + at) / 64 < len → z ≡ changed s [] (((node_line t node).atoms + at) ∷ [])
node_comes s z len at t node v e q = subst (λ (x : NodeLine). (x.atoms + at) / 64 < len → z ≡ changed s [] ((x.atoms + at) ∷ [])) e q

-- ---- a run of bits cleared
in_run : (j a n : ℕ) → a ≤ j → j < a + n → any (eqb j) (from a n) ≡ true
unfolding is_in
in_run j a n h l = T_true (any (eqb j) (from a n)) (mem_in j (from a n) (mem_from n a j h l))

out_run : (j a n : ℕ) → ((a ≤ j) × (j < a + n) → ⊥) → any (eqb j) (from a n) ≡ false
unfolding is_in
out_run j a n h = T_false (any (eqb j) (from a n)) (λ t. h (from_mem n a j (in_mem j (from a n) t)))

-- a place of the run is clear afterwards, and another stays
run_in : (s : ℕ → Bool) (a n j : ℕ) → a ≤ j → j < a + n → false ≡ changed s (from a n) [] j
unfolding changed any
run_in s a n j h l = rw (in_run j a n h l) (gone (s j))
  where
    gone : (x : Bool) → false ≡ ((x && not true) || false)
    gone true = refl
    gone false = refl

run_out : (s : ℕ → Bool) (a n j : ℕ) → ((a ≤ j) × (j < a + n) → ⊥) → s j ≡ changed s (from a n) [] j
unfolding changed any
run_out s a n j h = rw (out_run j a n h) (kept (s j))
  where
    kept : (x : Bool) → x ≡ ((x && not false) || false)
    kept true = refl
    kept false = refl

-- a word more of it
pub run_on : (s d z : ℕ → Bool) (a k c : ℕ) (g : ℕ → Bool) → ((i : ℕ) → g i ≡ false) → a ≤ k → d ≡ paste s a (λ i. false) 0 (k - a) → z ≡ paste d k g 0 c → z ≡ paste s a (λ i. false) 0 (k + c - a)
run_on s d z a k c g n h e f =
    let q : k ≡ a + (k - a) = omega arith in
    let r : (k - a) + c ≡ k + c - a = omega arith in
    paste_on s a (λ i. false) 0 (k - a) c g (λ i l. n i) e (f ∙ ap (λ (x : ℕ). paste d x g 0 c) q) ∙ ap (paste s a (λ i. false) 0) r

-- all bits of it that there are
pub run_cleared : (t : List ℕ) (a b k : ℕ) → a ≤ k → min b (64 * length t) ≤ k → (a < k → k ≤ min b (64 * length t)) → paste (bit t) a (λ i. false) 0 (k - a) ≡ changed (bit t) (from a (b - a)) []
run_cleared t a b k l e u = fun_ext (λ j. by_place j (within a (k - a) j) (within a (b - a) j))
  where
    by_place : (j : ℕ) → Dec ((a ≤ j) × (j < a + (k - a))) → Dec ((a ≤ j) × (j < a + (b - a))) → paste (bit t) a (λ i. false) 0 (k - a) j ≡ changed (bit t) (from a (b - a)) [] j
    by_place j (yes h) d = paste_in (bit t) a (λ i. false) 0 (k - a) j h.0 h.1 ∙ run_in (bit t) a (b - a) j h.0 (let q = u (omega (arith, h.0, h.1)) in omega (arith, h.0, h.1))
    by_place j (no h) (yes g) =
        let past : ¬ (j < k) = λ (z : j < k). h (g.0, omega (arith, g.0)) in
        paste_out (bit t) a (λ i. false) 0 (k - a) j h ∙ bit_past t j (omega (arith, g.0, g.1)) ∙ run_in (bit t) a (b - a) j g.0 g.1
    by_place j (no h) (no g) = paste_out (bit t) a (λ i. false) 0 (k - a) j h ∙ run_out (bit t) a (b - a) j g

-- a round's end
pub round_changes : (s a b z : ℕ → Bool) (t : List ℕ) (u v : NodeLine) (k : RelationLine) {len : ℕ} → u ≡ node_line t 0 → v ≡ node_line t (nodes_in t) → k ≡ last_line t
    → a ≡ changed s (1 ∷ []) [] → b ≡ changed a (from u.atoms (v.atoms - u.atoms)) [] → (k.free / 64 < len → z ≡ changed b [] (k.free ∷ []))
    → (last_line t).free / 64 < len → z ≡ changed s (round_removes t) ((last_line t).free ∷ [])
unfolding round_removes
round_changes s a b z t u v k {len} e f g h i j l =
    let run : List ℕ = from (node_line t 0).atoms ((node_line t (nodes_in t)).atoms - (node_line t 0).atoms) in
    let i' : b ≡ changed a run [] = i ∙ ap₂ (λ (x y : NodeLine). changed a (from x.atoms (y.atoms - x.atoms)) []) e f in
    let j' : z ≡ changed b [] ((last_line t).free ∷ []) = j (subst (λ (x : RelationLine). x.free / 64 < len) (sym g) l) ∙ ap (λ (x : RelationLine). changed b [] (x.free ∷ [])) g in
    j' ∙ ap (λ (x : ℕ → Bool). changed x [] ((last_line t).free ∷ [])) (i' ∙ ap (λ (x : ℕ → Bool). changed x run []) h)
    ∙ gone_then_come (changed s (1 ∷ []) []) run ((last_line t).free ∷ []) ∙ clear_then s 1 run ((last_line t).free ∷ [])

-- ---- by the action
module _ (s z : ℕ → Bool) (len : ℕ) (t : List ℕ) (a : Act) where
  pub take_set : (x : TupleAct) (k : RelationLine) → a ≡ Set x → k ≡ relation_line t x.relation
      → ((k.tuples + x.row) / 64 < len → z ≡ changed s (set_removes (size_in t) k x.row) ((k.tuples + x.row) ∷ [])) → Held (add_numbers t a) len → z ≡ changed s (remove_numbers t a) (add_numbers t a)
  unfolding add_numbers remove_numbers
  take_set x k e l q = rw (e, ← l) (λ h. q h.0)

  pub take_and : (x : RowAct) (v : NodeLine) → a ≡ And x → v ≡ node_line t x.node
      → ((v.atoms + x.row) / 64 < len → z ≡ changed s [] ((v.atoms + x.row) ∷ [])) → Held (add_numbers t a) len → z ≡ changed s (remove_numbers t a) (add_numbers t a)
  unfolding add_numbers remove_numbers
  take_and x v e l q = rw (e, ← l) (λ h. q h.0)

  pub take_or : (x : ChoiceAct) (v : NodeLine) → a ≡ Or x → v ≡ node_line t x.node
      → ((v.atoms + x.row) / 64 < len → z ≡ changed s [] ((v.atoms + x.row) ∷ [])) → Held (add_numbers t a) len → z ≡ changed s (remove_numbers t a) (add_numbers t a)
  unfolding add_numbers remove_numbers
  take_or x v e l q = rw (e, ← l) (λ h. q h.0)

  pub take_exists : (x : ChoiceAct) (v : NodeLine) → a ≡ Exists x → v ≡ node_line t x.node
      → ((v.atoms + x.row) / 64 < len → z ≡ changed s [] ((v.atoms + x.row) ∷ [])) → Held (add_numbers t a) len → z ≡ changed s (remove_numbers t a) (add_numbers t a)
  unfolding add_numbers remove_numbers
  take_exists x v e l q = rw (e, ← l) (λ h. q h.0)

  pub take_forall : (x : ChoiceAct) (v : NodeLine) → a ≡ Forall x → v ≡ node_line t x.node
      → ((v.atoms + (x.row * size_in t + x.choice)) / 64 < len → z ≡ changed s [] ((v.atoms + (x.row * size_in t + x.choice)) ∷ [])) → Held (add_numbers t a) len → z ≡ changed s (remove_numbers t a) (add_numbers t a)
  unfolding add_numbers remove_numbers
  take_forall x v e l q = rw (e, ← l) (λ h. q h.0)

  pub take_goal : a ≡ Goal → (2 / 64 < len → z ≡ changed s [] (2 ∷ [])) → Held (add_numbers t a) len → z ≡ changed s (remove_numbers t a) (add_numbers t a)
  unfolding add_numbers remove_numbers
  take_goal e q = rw e (λ h. q h.0)

  -- an atom comes and none goes
  pub take_one : (b : Act) (i : ℕ) → a ≡ b → remove_numbers t b ≡ [] → add_numbers t b ≡ i ∷ [] → (i / 64 < len → z ≡ changed s [] (i ∷ [])) → Held (add_numbers t a) len → z ≡ changed s (remove_numbers t a) (add_numbers t a)
  take_one b i e g h q = rw (e, g, h) (λ k. q k.0)

  pub take_begin : a ≡ Begin → (1 / 64 < len → z ≡ changed s (0 ∷ []) (1 ∷ [])) → Held (add_numbers t a) len → z ≡ changed s (remove_numbers t a) (add_numbers t a)
  unfolding add_numbers remove_numbers
  take_begin e q = rw e (λ h. q h.0)

  pub take_round : a ≡ RoundEnd → ((last_line t).free / 64 < len → z ≡ changed s (round_removes t) ((last_line t).free ∷ [])) → Held (add_numbers t a) len → z ≡ changed s (remove_numbers t a) (add_numbers t a)
  unfolding add_numbers remove_numbers
  take_round e q = rw e (λ h. q h.0)

  pub take_in : (x : TupleAct) (k : RelationLine) → a ≡ MarkIn x → k ≡ relation_line t x.relation
      → (Held ((k.tuples + x.row) ∷ 1 ∷ []) len → z ≡ changed s ((k.free + x.row) ∷ (k.nots + x.row) ∷ []) ((k.tuples + x.row) ∷ 1 ∷ [])) → Held (add_numbers t a) len → z ≡ changed s (remove_numbers t a) (add_numbers t a)
  unfolding add_numbers remove_numbers
  take_in x k e l q = rw (e, ← l) q

  pub take_out : (x : TupleAct) (k : RelationLine) (next : ℕ) → a ≡ MarkOut x → k ≡ relation_line t x.relation → next ≡ next_mark k x.row
      → (Held ((k.nots + x.row) ∷ next ∷ []) len → z ≡ changed s ((k.free + x.row) ∷ (k.tuples + x.row) ∷ []) ((k.nots + x.row) ∷ next ∷ [])) → Held (add_numbers t a) len → z ≡ changed s (remove_numbers t a) (add_numbers t a)
  unfolding add_numbers remove_numbers
  take_out x k next e l n q = rw (e, ← l, ← n) q

  -- ... where the mark that comes is the next one
  pub take_out_next : (x : TupleAct) (k : RelationLine) → a ≡ MarkOut x → k ≡ relation_line t x.relation
      → (Held ((k.nots + x.row) ∷ next_mark k x.row ∷ []) len → z ≡ changed s ((k.free + x.row) ∷ (k.tuples + x.row) ∷ []) ((k.nots + x.row) ∷ next_mark k x.row ∷ [])) → Held (add_numbers t a) len → z ≡ changed s (remove_numbers t a) (add_numbers t a)
  unfolding add_numbers remove_numbers
  take_out_next x k e l q = rw (e, ← l) q

pub take_nothing : (s : ℕ → Bool) (len : ℕ) (t : List ℕ) (a : Act) → a ≡ Nothing → Held (add_numbers t a) len → s ≡ changed s (remove_numbers t a) (add_numbers t a)
unfolding add_numbers remove_numbers
take_nothing s len t a e = rw e (λ h. changed_none s)
