-- The words of an action by the table: its elements, its part, its kind and its subject. Assumes nothing.
use Rattle.std.specs.Prelude.{Option, Some, None, ℕ, zero, suc, ◌+◌, ◌-◌, ◌*◌, ◌/◌, ◌%◌, ◌^◌, ◌≤◌, ◌<◌, ◌≡◌, Bool, ◌||◌, T, length, get_or, take, drop, set}
use Rattle.std.proofs.Math.Path.{refl, ap, ap₂}
use Rattle.std.proofs.Common.{sym, subst, ◌∙◌, add-one, pow-suc, arith, length-set, drop-cons, drop-set-lt, get_or-set_same, take-suc-set}
use mathlib.Core.List.{List, [], ◌∷◌, ◌++◌}
use Rattle.std.proofs.Math.Nat.{div-div-eq-div-mul}
use Rattle.definitions.specs.Sheet.Relations.{Kind, is_chosen, is_universal}
use Rattle.definitions.specs.Sheet.Text.{bytes, decimal}
use Rattle.definitions.specs.Problem.Atoms.{Problem, relation_at, places_of}
use Rattle.definitions.specs.Problem.Actions as A
use Rattle.definitions.specs.Reply.Page.{spaces, left, right, step_head, kind_word, subject_word, free_values, shown_elements, part_word}
use Rattle.laws.specs.Booleans.{or_l, or_r}
use Rattle.laws.specs.Numbers.{IsAction}
use Rattle.problem_table.specs.Lines.{size_in, node_line, Fits}
use Rattle.problem_table.specs.Numbers.{ActFits}
use Rattle.problem_table.specs.declared.NodeLine.{NodeLine}
use Rattle.problem_table.specs.declared.TupleAct.{TupleAct}
use Rattle.problem_table.specs.declared.ChoiceAct.{ChoiceAct}
use Rattle.problem_table.specs.Of.{Is, said}
use Rattle.problem_table.specs.declared.Act.{Act}
use Rattle.problem_table.specs.declared.Act.TheVariants.{Set, Begin, And, Or, Exists, Forall, Goal, RoundEnd, MarkIn, MarkOut, Nothing}
use Rattle.rows.specs.Values.{Within}
use Rattle.rows.specs.Laws.{rest_none, within_set}
use Rattle.print_units.specs.Units.{part_text}

-- three numbers of each relation: the span of its name in the question's text, and its arity
pub record Names (question names : List ℕ) : Type 0 where
  pub room : length names ≡ 54
  pub in_text : (r : ℕ) → (get_or names (3 * r) 0 ≤ get_or names (3 * r + 1) 0) × (get_or names (3 * r + 1) 0 ≤ length question)
  pub arity : (r : ℕ) → get_or names (3 * r + 2) 0 ≤ 3

unfoldable pub name_in : (question names : List ℕ) → ℕ → List ℕ
name_in question names r = take (get_or names (3 * r + 1) 0 - get_or names (3 * r) 0) (drop (get_or names (3 * r) 0) question)

-- they are those of the problem's relations, as far as actions are about their tuples: those of `choose` and `every` lines
abbrev pub is_moved : Kind → Bool
is_moved k = is_chosen k || is_universal k

pub record NamesAre (p : Problem) (question names : List ℕ) : Type 0 where
  pub fit : Names question names
  pub name : (r : ℕ) → r < length p.relations → T (is_moved (relation_at p r).kind) → name_in question names r ≡ (relation_at p r).name
  pub arity : (r : ℕ) → r < length p.relations → T (is_moved (relation_at p r).kind) → get_or names (3 * r + 2) 0 ≡ (relation_at p r).arity

-- ---- by the table
unfoldable pub free_in : List ℕ → (node row : ℕ) → List ℕ
free_in w v row = places_of (size_in w) (node_line w v).width row

unfoldable pub tuple_in : (w names : List ℕ) → TupleAct → List ℕ
tuple_in w names a = places_of (size_in w) (get_or names (3 * a.relation + 2) 0) a.row

unfoldable pub elements_in : (w names : List ℕ) → Act → List ℕ
elements_in w names (Set a) = tuple_in w names a
elements_in w names Begin = []
elements_in w names (And a) = free_in w a.node a.row
elements_in w names (Or a) = free_in w a.node a.row
elements_in w names (Exists a) = free_in w a.node a.row ++ (a.choice ∷ [])
elements_in w names (Forall a) = free_in w a.node a.row ++ (a.choice ∷ [])
elements_in w names Goal = []
elements_in w names RoundEnd = []
elements_in w names (MarkIn a) = tuple_in w names a
elements_in w names (MarkOut a) = tuple_in w names a
elements_in w names Nothing = []

unfoldable pub part_in : Act → Option ℕ
part_in (Set a) = None
part_in Begin = None
part_in (And a) = None
part_in (Or a) = Some a.choice
part_in (Exists a) = None
part_in (Forall a) = None
part_in Goal = None
part_in RoundEnd = None
part_in (MarkIn a) = None
part_in (MarkOut a) = None
part_in Nothing = None

pub no_part : (a : Act) → ((t : ChoiceAct) → a ≡ Or t → ⊥) → None ≡ part_in a
unfolding part_in
no_part (Set t) h = refl
no_part Begin h = refl
no_part (And t) h = refl
no_part (Or t) h = absurd (h t refl)
no_part (Exists t) h = refl
no_part (Forall t) h = refl
no_part Goal h = refl
no_part RoundEnd h = refl
no_part (MarkIn t) h = refl
no_part (MarkOut t) h = refl
no_part Nothing h = refl

unfoldable pub kind_in : Act → List ℕ
kind_in (Set a) = bytes "set"
kind_in Begin = bytes "begin-proof"
kind_in (And a) = bytes "and"
kind_in (Or a) = bytes "or"
kind_in (Exists a) = bytes "exists"
kind_in (Forall a) = bytes "forall"
kind_in Goal = bytes "prove-goal"
kind_in RoundEnd = bytes "round-end"
kind_in (MarkIn a) = bytes "mark-in"
kind_in (MarkOut a) = bytes "mark-out"
kind_in Nothing = []

unfoldable pub subject_in : (question names : List ℕ) → Act → List ℕ
subject_in question names (Set a) = name_in question names a.relation
subject_in question names Begin = []
subject_in question names (And a) = decimal a.node
subject_in question names (Or a) = decimal a.node
subject_in question names (Exists a) = decimal a.node
subject_in question names (Forall a) = decimal a.node
subject_in question names Goal = []
subject_in question names RoundEnd = []
subject_in question names (MarkIn a) = name_in question names a.relation
subject_in question names (MarkOut a) = name_in question names a.relation
subject_in question names Nothing = []

-- ---- and of the problem whose table it is
module _ (p : Problem) (w question names : List ℕ) (is : Is p w) (N : NamesAre p question names) where
  free_are : (v row : ℕ) → v < length p.node_list → free_in w v row ≡ free_values p v row
  unfolding free_in free_values
  free_are v row h = ap₂ (λ (n k : ℕ). places_of n k row) is.size (is.node v h).width

  tuple_elements : (r row : ℕ) → r < length p.relations → T (is_moved (relation_at p r).kind) → places_of (size_in w) (get_or names (3 * r + 2) 0) row ≡ places_of p.size (relation_at p r).arity row
  tuple_elements r row h t = ap₂ (λ (n k : ℕ). places_of n k row) is.size (N.arity r h t)

  chosen_moved : (k : Kind) → T (is_chosen k) → T (is_moved k)
  chosen_moved k t = or_l (is_chosen k) (is_universal k) t

  every_moved : (k : Kind) → T (is_universal k) → T (is_moved k)
  every_moved k t = or_r (is_chosen k) (is_universal k) t

  pub elements_are : (a : A.Action) → IsAction p a → elements_in w names (said a) ≡ shown_elements p a
  unfolding IsAction elements_in tuple_in shown_elements said
  elements_are (A.set r row) v = tuple_elements r row v.0 (chosen_moved (relation_at p r).kind v.1)
  elements_are A.begin_proof v = refl
  elements_are (A.prove_and u row) v = free_are u row v.0
  elements_are (A.prove_or u row i) v = free_are u row v.0
  elements_are (A.prove_exists u row x) v = ap (λ (l : List ℕ). l ++ (x ∷ [])) (free_are u row v.0)
  elements_are (A.prove_forall u row x) v = ap (λ (l : List ℕ). l ++ (x ∷ [])) (free_are u row v.0)
  elements_are A.prove_goal v = refl
  elements_are A.round_end v = refl
  elements_are (A.mark_in r row) v = tuple_elements r row v.0 (every_moved (relation_at p r).kind v.1)
  elements_are (A.mark_out r row) v = tuple_elements r row v.0 (every_moved (relation_at p r).kind v.1)

  pub subject_is : (a : A.Action) → IsAction p a → subject_in question names (said a) ≡ subject_word p a
  unfolding IsAction subject_in subject_word said
  subject_is (A.set r row) v = N.name r v.0 (chosen_moved (relation_at p r).kind v.1)
  subject_is A.begin_proof v = refl
  subject_is (A.prove_and u row) v = refl
  subject_is (A.prove_or u row i) v = refl
  subject_is (A.prove_exists u row x) v = refl
  subject_is (A.prove_forall u row x) v = refl
  subject_is A.prove_goal v = refl
  subject_is A.round_end v = refl
  subject_is (A.mark_in r row) v = N.name r v.0 (every_moved (relation_at p r).kind v.1)
  subject_is (A.mark_out r row) v = N.name r v.0 (every_moved (relation_at p r).kind v.1)

pub kind_is : (a : A.Action) → kind_in (said a) ≡ kind_word a
unfolding kind_in kind_word said
kind_is (A.set r row) = refl
kind_is A.begin_proof = refl
kind_is (A.prove_and u row) = refl
kind_is (A.prove_or u row i) = refl
kind_is (A.prove_exists u row x) = refl
kind_is (A.prove_forall u row x) = refl
kind_is A.prove_goal = refl
kind_is A.round_end = refl
kind_is (A.mark_in r row) = refl
kind_is (A.mark_out r row) = refl

pub part_is : (a : A.Action) → part_text (part_in (said a)) ≡ part_word a
unfolding part_text part_in part_word said
part_is (A.set r row) = refl
part_is A.begin_proof = refl
part_is (A.prove_and u row) = refl
part_is (A.prove_or u row i) = refl
part_is (A.prove_exists u row x) = refl
part_is (A.prove_forall u row x) = refl
part_is A.prove_goal = refl
part_is A.round_end = refl
part_is (A.mark_in r row) = refl
part_is (A.mark_out r row) = refl

-- ---- the places of a row, the last first
pub rest_first : (n row k : ℕ) → row ≡ row / n ^ (k - k)
rest_first = rest_none

pub places_first : (n row k : ℕ) (values : List ℕ) → take (k - k) (drop k values) ≡ places_of n (k - k) row
unfolding places_of
places_first n row k values = let e : k - k ≡ 0 = omega arith in rw e

pub rest_next : (n k i row rest : ℕ) → 0 < i → i ≤ k → rest ≡ row / n ^ (k - i) → rest / n ≡ row / n ^ (k - (i - 1))
rest_next n k i row rest h l e = let d : k - (i - 1) ≡ suc (k - i) = omega arith in rw (d, e, pow-suc n (k - i)) (div-div-eq-div-mul row (n ^ (k - i)) n)

pub places_next : (n k i row rest : ℕ) (values : List ℕ) → 0 < i → i ≤ k → k ≤ length values → rest ≡ row / n ^ (k - i) → take (k - i) (drop i values) ≡ places_of n (k - i) row
    → take (k - (i - 1)) (drop (i - 1) (set values (i - 1) (rest % n))) ≡ places_of n (k - (i - 1)) row
unfolding places_of
places_next n k i row rest values h l b e q =
    let d : k - (i - 1) ≡ suc (k - i) = omega arith in
    let j : suc (i - 1) ≡ i = omega arith in
    let c : drop (i - 1) (set values (i - 1) (rest % n)) ≡ (rest % n) ∷ drop i values =
    drop-cons (set values (i - 1) (rest % n)) (i - 1) 0 (simp length-set (omega arith))
    ∙ ap₂ (λ (x : ℕ) (t : List ℕ). x ∷ t) (get_or-set_same values (i - 1) (rest % n) 0 (omega arith)) (drop-set-lt (suc (i - 1)) values (i - 1) (rest % n) (omega arith) ∙ ap (λ (x : ℕ). drop x values) j) in
    rw (d, c) (ap₂ (λ (x : ℕ) (t : List ℕ). x ∷ t) (ap (λ (x : ℕ). x % n) e) q)

pub places_all : (n k i row : ℕ) (values : List ℕ) → i ≤ 0 → take (k - i) (drop i values) ≡ places_of n (k - i) row → take k values ≡ places_of n k row
places_all n k zero row values h q = let e : k - 0 ≡ k = omega arith in rw e at q
places_all n k (suc i) row values h q = absurd (omega arith)

one_more : (values xs : List ℕ) (count x : ℕ) → count < length values → take count values ≡ xs → take (count + 1) (set values count x) ≡ xs ++ (x ∷ [])
one_more values xs count x h e = rw (add-one count) (take-suc-set values count x h ∙ ap (λ (l : List ℕ). l ++ (x ∷ [])) e)

-- ---- what stands before the elements
unfoldable pub head_in : (question names : List ℕ) → (i k : ℕ) → Act → List ℕ
head_in question names i k a =
    right 7 (decimal i)
    ++ ((32 ∷ []) ++ (right 7 (decimal k) ++ ((32 ∷ []) ++ (left 12 (kind_in a) ++ ((32 ∷ []) ++ (left 12 (subject_in question names a) ++ (32 ∷ [])))))))

pub head_parts : (question names : List ℕ) (i k : ℕ) (a : Act) → head_in question names i k a ≡ right 7 (decimal i) ++ ((32 ∷ []) ++ (right 7 (decimal k) ++ ((32 ∷ []) ++ (left 12 (kind_in a) ++ ((32 ∷ []) ++ (left 12 (subject_in question names a) ++ (32 ∷ [])))))))
unfolding head_in
head_parts question names i k a = refl

pub head_is : (p : Problem) (w question names : List ℕ) (is : Is p w) (N : NamesAre p question names) (i k : ℕ) (a : A.Action) → IsAction p a → head_in question names i k (said a) ≡ step_head p i k a
unfolding head_in step_head
head_is p w question names is N i k a v =
    ap₂ (λ (x y : List ℕ). right 7 (decimal i) ++ (32 ∷ (right 7 (decimal k) ++ (32 ∷ (left 12 x ++ (32 ∷ (left 12 y ++ (32 ∷ [])))))))) (kind_is a) (subject_is p w question names is N a v)

pub left_none : (k : ℕ) → left k [] ≡ spaces k
unfolding left
left_none k = let e : k - 0 ≡ k = omega arith in ap spaces e

-- ---- what is known of an action's numbers, by its case
pub relation_small : (w : List ℕ) (a : Act) (t : TupleAct) → ActFits w a → a ≡ Set t → t.relation < 18
relation_small w a t f e = (subst (ActFits w) e f).0

pub in_small : (w : List ℕ) (a : Act) (t : TupleAct) → ActFits w a → a ≡ MarkIn t → t.relation < 18
in_small w a t f e = (subst (ActFits w) e f).0

pub out_small : (w : List ℕ) (a : Act) (t : TupleAct) → ActFits w a → a ≡ MarkOut t → t.relation < 18
out_small w a t f e = (subst (ActFits w) e f).0

pub width_few : (w : List ℕ) (v : ℕ) (x : NodeLine) → Fits w → v < 64 → x ≡ node_line w v → x.width ≤ 4
width_few w v x F h e = subst (λ (y : NodeLine). y.width ≤ 4) (sym e) (F.node v h).width

pub free_from : (w : List ℕ) (v row : ℕ) (x : NodeLine) → x ≡ node_line w v → places_of (size_in w) x.width row ≡ free_in w v row
unfolding free_in
free_from w v row x e = ap (λ (y : NodeLine). places_of (size_in w) y.width row) e

pub elements_as : (w names : List ℕ) (a b : Act) (xs : List ℕ) → a ≡ b → xs ≡ elements_in w names b → xs ≡ elements_in w names a
elements_as w names a b xs e q = q ∙ ap (elements_in w names) (sym e)

pub one_more_within : (n count x : ℕ) (values xs : List ℕ) → count < length values → x < n → take count values ≡ xs → Within n values → (take (count + 1) (set values count x) ≡ xs ++ (x ∷ [])) × Within n (set values count x)
one_more_within n count x values xs h l e W = (one_more values xs count x h e, within_set n values count x l W)
