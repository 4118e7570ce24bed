-- The line of a step by the table: its name, its objects, its bytes. Assumes nothing.
use Prim.Native.Nat.{ℕ, zero, suc, ◌+◌, ◌-◌, ◌<◌}
use Rattle.std.specs.Prelude.{◌≡◌, length, take, set}
use Rattle.std.proofs.Math.Path.{refl, sym, ap, ap₂}
use Rattle.std.proofs.Common.{◌∙◌, arith, add-one, take-suc-set}
use Rattle.std.proofs.Math.Option.{some}
use mathlib.Core.List.{List, [], ◌∷◌, ◌++◌, map, append_assoc}
use Rattle.definitions.specs.Lists.{option}
use Rattle.definitions.specs.Sheet.Relations.{is_chosen, is_universal}
use Rattle.definitions.specs.Sheet.Formula.{write_each}
use Rattle.definitions.specs.Problem.Truth.{Case}
use Rattle.definitions.specs.Problem.Atoms.{Problem, problem_of, problem_with, relation_at, node_at, places_of}
use Rattle.definitions.specs.Problem.Actions as A
use Rattle.definitions.specs.Reply.Lifted.{node_in, relation_in}
use Rattle.definitions.specs.Reply.Pddl.{object_word, action_word, bracketed, indented, plan_step, step_text}
use Rattle.laws.specs.Booleans.{or_l}
use Rattle.definitions.specs.Reply.Page.{spaces, free_values}
use Rattle.laws.specs.Numbers.{IsAction, action_is}
use Rattle.meaning.specs.PddlWords.{Named}
use Rattle.problem_table.specs.Numbers.{ActFits}
use Rattle.problem_table.specs.Of.{Is, said, act_of}
use Rattle.problem_table.specs.declared.ChoiceAct.{ChoiceAct}
use Rattle.problem_table.specs.declared.Act.{Act}
use Rattle.problem_table.specs.declared.Act.TheVariants.{Set, Begin, And, Or, Exists, Forall, Goal, RoundEnd, MarkIn, MarkOut, Nothing}
use Rattle.rows.specs.Values.{Within}
use Rattle.print_page.specs.Elements.{NamesAre, free_in, tuple_in}
use Rattle.print_names.specs.declared.Name.{Name}
use Rattle.print_names.specs.declared.Name.TheVariants as N
use Rattle.print_names.specs.Naming.{SmallName, named, word_in, word_is}

-- ---- name and objects of an act
unfoldable pub forall_name : ℕ → ℕ → Name
forall_name zero v = N.First v
forall_name (suc y) v = N.Next v

unfoldable pub name_in : Act → Name
name_in (Set a) = N.Set a.relation
name_in Begin = N.Begin
name_in (And a) = N.And a.node
name_in (Or a) = N.Or a.node a.choice
name_in (Exists a) = N.Exists a.node
name_in (Forall a) = forall_name a.choice a.node
name_in Goal = N.Goal
name_in RoundEnd = N.Goal
name_in (MarkIn a) = N.Goal
name_in (MarkOut a) = N.Goal
name_in Nothing = N.Nobody

pub first_name : (a : Act) (t : ChoiceAct) → a ≡ Forall t → t.choice ≡ 0 → N.First t.node ≡ name_in a
unfolding name_in forall_name
first_name a t e z = sym (ap name_in e ∙ ap (λ (k : ℕ). forall_name k t.node) z)

pub next_name : (a : Act) (t : ChoiceAct) → a ≡ Forall t → (t.choice ≡ 0 → ⊥) → N.Next t.node ≡ name_in a
unfolding name_in forall_name
next_name a t e h = sym (ap name_in e ∙ go t.choice h)
  where
    go : (k : ℕ) → (k ≡ 0 → ⊥) → forall_name k t.node ≡ N.Next t.node
    go zero h = absurd (h refl)
    go (suc k) h = refl

pub small_name : (w : List ℕ) (a : Act) → ActFits w a → SmallName (name_in a)
unfolding name_in forall_name SmallName
small_name w (Set a) f = f.0
small_name w Begin f = tt
small_name w (And a) f = tt
small_name w (Or a) f = tt
small_name w (Exists a) f = tt
small_name w (Forall a) f = go a.choice
  where
    go : (k : ℕ) → SmallName (forall_name k a.node)
    go zero = tt
    go (suc k) = tt
small_name w Goal f = tt
small_name w RoundEnd f = tt
small_name w (MarkIn a) f = tt
small_name w (MarkOut a) f = tt
small_name w Nothing f = tt

unfoldable pub along_in : (w : List ℕ) → (node row choice : ℕ) → List ℕ
along_in w v row zero = free_in w v row
along_in w v row (suc y) = free_in w v row ++ (y ∷ suc y ∷ [])

pub along_first : (w : List ℕ) (v row k : ℕ) (xs : List ℕ) → k ≡ 0 → xs ≡ free_in w v row → xs ≡ along_in w v row k
unfolding along_in
along_first w v row zero xs z e = e
along_first w v row (suc k) xs z e = absurd (omega arith)

pub along_next : (w : List ℕ) (v row k count : ℕ) (values : List ℕ) → (k ≡ 0 → ⊥) → count < length values → take count values ≡ free_in w v row ++ ((k - 1) ∷ []) → take (count + 1) (set values count k) ≡ along_in w v row k
unfolding along_in
along_next w v row zero count values h l e = absurd (h refl)
along_next w v row (suc k) count values h l e =
    let z : suc k - 1 ≡ k = omega arith in
    rw (add-one count) (take-suc-set values count (suc k) l ∙ ap (λ (x : List ℕ). x ++ (suc k ∷ [])) (e ∙ ap (λ (j : ℕ). free_in w v row ++ (j ∷ [])) z) ∙ append_assoc (free_in w v row) (k ∷ []) (suc k ∷ []))

unfoldable pub objects_in : (w names : List ℕ) → Act → List ℕ
objects_in w names (Set a) = tuple_in w names a
objects_in w names Begin = []
objects_in w names (And a) = free_in w a.node a.row
objects_in w names (Or a) = free_in w a.node a.row
objects_in w names (Exists a) = free_in w a.node a.row ++ (a.choice ∷ [])
objects_in w names (Forall a) = along_in w a.node a.row a.choice
objects_in w names Goal = []
objects_in w names RoundEnd = []
objects_in w names (MarkIn a) = []
objects_in w names (MarkOut a) = []
objects_in w names Nothing = []

pub objects_as : (w names : List ℕ) (a b : Act) (xs : List ℕ) → a ≡ b → xs ≡ objects_in w names b → xs ≡ objects_in w names a
objects_as w names a b xs e q = q ∙ ap (objects_in w names) (sym e)

pub within_six : (n : ℕ) → 0 < n → Within n (0 ∷ 0 ∷ 0 ∷ 0 ∷ 0 ∷ 0 ∷ [])
within_six n h zero = h
within_six n h (suc zero) = h
within_six n h (suc (suc zero)) = h
within_six n h (suc (suc (suc zero))) = h
within_six n h (suc (suc (suc (suc zero)))) = h
within_six n h (suc (suc (suc (suc (suc zero))))) = h
within_six n h (suc (suc (suc (suc (suc (suc i)))))) = h

-- ---- bytes
unfoldable pub objects_text : List ℕ → List ℕ
objects_text xs = write_each (λ v. v) (map object_word xs)

pub objects_none : objects_text [] ≡ []
unfolding objects_text write_each
objects_none = refl

pub objects_next : (x : ℕ) (xs : List ℕ) → objects_text (x ∷ xs) ≡ (32 ∷ []) ++ (object_word x ++ objects_text xs)
unfolding objects_text write_each
objects_next x xs = refl

unfoldable pub line_in : (question w names : List ℕ) → Act → List ℕ
line_in question w names a = (40 ∷ []) ++ (word_in question names (name_in a) ++ (objects_text (objects_in w names a) ++ ((41 ∷ []) ++ (10 ∷ []))))

pub line_parts : (question w names : List ℕ) (a : Act) (xs : List ℕ) → xs ≡ objects_in w names a → line_in question w names a ≡ (40 ∷ []) ++ (word_in question names (name_in a) ++ (objects_text xs ++ ((41 ∷ []) ++ (10 ∷ []))))
unfolding line_in
line_parts question w names a xs e = ap (λ (ys : List ℕ). (40 ∷ []) ++ (word_in question names (name_in a) ++ (objects_text ys ++ ((41 ∷ []) ++ (10 ∷ []))))) (sym e)

-- the line of action k, if there is one
unfoldable pub line_at : Case → Problem → ℕ → List ℕ
line_at c p k = option (A.action_at p k) [] (λ a. step_text c (plan_step p a))

-- ---- they are those of the step that is meant
module _ (c : Case) (question names w : List ℕ) (is : Is (problem_of c) w) (N : NamesAre (problem_of c) question names) where
  abbrev p : Problem
  p = problem_of c

  free_are : (v row : ℕ) → v < length p.node_list → free_in w v row ≡ free_values p v row
  unfolding free_in free_values
  free_are v row h = ap₂ (λ (n k : ℕ). places_of n k row) is.size (is.node v h).width

  objects_are : (a : A.Action) → IsAction p a → objects_in w names (said a) ≡ (plan_step p a).objects
  unfolding IsAction objects_in tuple_in along_in plan_step said
  objects_are (A.set r row) v = ap₂ (λ (n k : ℕ). places_of n k row) is.size (N.arity r v.0 (or_l (is_chosen (relation_at p r).kind) (is_universal (relation_at p r).kind) v.1))
  objects_are A.begin_proof v = refl
  objects_are (A.prove_and u row) v = free_are u row v.0
  objects_are (A.prove_or u row i) v = free_are u row v.0
  objects_are (A.prove_exists u row x) v = ap (λ (l : List ℕ). l ++ (x ∷ [])) (free_are u row v.0)
  objects_are (A.prove_forall u row zero) v = free_are u row v.0
  objects_are (A.prove_forall u row (suc y)) v = ap (λ (l : List ℕ). l ++ (y ∷ suc y ∷ [])) (free_are u row v.0)
  objects_are A.prove_goal v = refl
  objects_are A.round_end v = refl
  objects_are (A.mark_in r row) v = refl
  objects_are (A.mark_out r row) v = refl

  name_is : (a : A.Action) → name_in (said a) ≡ named (plan_step p a).name
  unfolding name_in forall_name plan_step said named
  name_is (A.set r row) = refl
  name_is A.begin_proof = refl
  name_is (A.prove_and u row) = refl
  name_is (A.prove_or u row i) = refl
  name_is (A.prove_exists u row x) = refl
  name_is (A.prove_forall u row zero) = refl
  name_is (A.prove_forall u row (suc y)) = refl
  name_is A.prove_goal = refl
  name_is A.round_end = refl
  name_is (A.mark_in r row) = refl
  name_is (A.mark_out r row) = refl

  name_there : (a : A.Action) → IsAction p a → Named c (plan_step p a).name
  unfolding IsAction plan_step Named relation_at node_at relation_in node_in problem_of problem_with
  name_there (A.set r row) v = (v.0, v.1)
  name_there A.begin_proof v = tt
  name_there (A.prove_and u row) (l, h, (ts, e)) = (l, (ts, e))
  name_there (A.prove_or u row i) (l, h, (ts, e, g)) = (l, (ts, e, g))
  name_there (A.prove_exists u row x) (l, h, (d, s, t, e, g)) = (l, (d, s, t, e))
  name_there (A.prove_forall u row zero) (l, h, (d, s, t, e, g)) = (l, (d, s, t, e))
  name_there (A.prove_forall u row (suc y)) (l, h, (d, s, t, e, g)) = (l, (d, s, t, e))
  name_there A.prove_goal v = tt
  name_there A.round_end v = tt
  name_there (A.mark_in r row) v = tt
  name_there (A.mark_out r row) v = tt

  line_is : (a : A.Action) → IsAction p a → line_in question w names (said a) ≡ step_text c (plan_step p a)
  unfolding line_in step_text indented spaces bracketed objects_text
  line_is a v =
      ap₂ (λ (x : List ℕ) (xs : List ℕ). (40 ∷ []) ++ (x ++ (write_each (λ v. v) (map object_word xs) ++ ((41 ∷ []) ++ (10 ∷ []))))) (ap (word_in question names) (name_is a) ∙ word_is c question names N (plan_step p a).name (name_there a v)) (objects_are a v)
      ∙ joined (action_word c (plan_step p a).name) (write_each (λ v. v) (map object_word (plan_step p a).objects))
    where
      joined : (x y : List ℕ) → (40 ∷ []) ++ (x ++ (y ++ ((41 ∷ []) ++ (10 ∷ [])))) ≡ ((40 ∷ []) ++ (x ++ (y ++ (41 ∷ [])))) ++ (10 ∷ [])
      joined x y = ap (λ (l : List ℕ). 40 ∷ l) (ap (λ (l : List ℕ). x ++ l) (sym (append_assoc y (41 ∷ []) (10 ∷ []))) ∙ sym (append_assoc x (y ++ (41 ∷ [])) (10 ∷ [])))

  pub line_of : (k : ℕ) (act : Act) (a : A.Action) → A.action_at p k ≡ some a → act ≡ act_of (A.action_at p k) → line_at c p k ≡ line_in question w names act
  unfolding line_at option act_of
  line_of k act a e q = rw e (sym (ap (line_in question w names) (q ∙ ap act_of e) ∙ line_is a (action_is p k a e)))
