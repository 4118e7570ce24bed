-- Which names the domain has, by the table, and the name that a plan's word is. Assumes nothing.
use Rattle.std.specs.Prelude.{ℕ, suc, ◌+◌, ◌≤◌, ◌<◌, ◌⊎◌, Bool, ◌&&◌, eqb}
use Rattle.std.proofs.Math.Path.{◌≡◌, refl, sym, ap, subst}
use Rattle.std.proofs.Common.{◌∙◌, inl, inr, arith, ltb→lt}
use Rattle.std.proofs.Math.Logic.{⊎_elim}
use Rattle.std.proofs.Math.Bool.{true, false}
use Rattle.std.proofs.Math.Option.{some}
use mathlib.Core.List.{List, []}
use Rattle.std.proofs.Math.Dec.{T, ltb, eqb→eq}
use Rattle.std.proofs.Math.ListN.{length, get_or}
use borrow.Author.Tests.{lt-ltb, le-ltb, eq-eqb, ltb-true, ltb-false}
use Rattle.definitions.specs.Lists.{same}
use Rattle.definitions.specs.Sheet.Relations.{Kind, static, plain, Fun, PFun, Inj, PInj, universal, is_chosen}
use Rattle.definitions.specs.Problem.Truth.{Case}
use Rattle.definitions.specs.Problem.Tree.{Tree, Trees, leaf, forall_node, exists_node, and_node, or_node, parts, how_many}
use Rattle.definitions.specs.Problem.Atoms.{Problem, problem_of, problem_with, relation_at, node_at}
use Rattle.definitions.specs.Reply.Lifted.{ActionName, set_name, begin_name, goal_name, and_name, exists_name, first_name, next_name, or_name, relation_in, node_in}
use Rattle.definitions.specs.Reply.Pddl.{folded, action_word, name_from}
use Rattle.laws.specs.Booleans.{T_of, T_true, T_and_l, T_and_r}
use Rattle.laws.specs.Tuples.{same_eq, same_refl}
use Rattle.laws.specs.Reader.{Accepted}
use Rattle.meaning.specs.PddlWords.{Named}
use Rattle.rule_nodes.specs.Tables.{node_kind}
use Rattle.problem_table.specs.Lines.{nodes_in, relations_in, node_line, relation_line}
use Rattle.problem_table.specs.Of.{Is, kind_number}
use Rattle.problem_table.specs.OfLaws.{parts_length}
use Rattle.print_page.specs.Elements.{NamesAre}
use Rattle.print_names.specs.declared.Name.{Name}
use Rattle.print_names.specs.declared.Name.TheVariants as N
use Rattle.print_names.specs.Naming.{name_of, named, SmallName, word_in, word_is}
use Rattle.read_plan.specs.Names.{IsOther, other_in, other_back, set_first, other_first, word_some, word_short, name_some, name_none}

-- ---- by the table
unfoldable pub is_node_in : List ℕ → ℕ → ℕ → Bool
is_node_in w v kind = ltb v (nodes_in w) && eqb (node_line w v).kind kind

pub node_past : (w : List ℕ) (v kind : ℕ) → nodes_in w ≤ v → false ≡ is_node_in w v kind
unfolding is_node_in
node_past w v kind h = rw (le-ltb v (nodes_in w) h) refl

pub node_there : (w : List ℕ) (v kind : ℕ) → v < nodes_in w → eqb (node_line w v).kind kind ≡ is_node_in w v kind
unfolding is_node_in
node_there w v kind h = rw (lt-ltb v (nodes_in w) h) refl

unfoldable pub is_part_in : List ℕ → ℕ → ℕ → Bool
is_part_in w v i = is_node_in w v 3 && ltb i (node_line w v).many

pub part_there : (w : List ℕ) (v i : ℕ) → is_node_in w v 3 ≡ true → ltb i (node_line w v).many ≡ is_part_in w v i
unfolding is_part_in
part_there w v i e = rw e refl

pub part_none : (w : List ℕ) (v i : ℕ) → is_node_in w v 3 ≡ false → false ≡ is_part_in w v i
unfolding is_part_in
part_none w v i e = rw e refl

pub node_small : (w : List ℕ) (v kind : ℕ) → is_node_in w v kind ≡ true → v < nodes_in w
unfolding is_node_in
node_small w v kind e = ltb→lt v (nodes_in w) (T_and_l (ltb v (nodes_in w)) _ (T_of e))

unfoldable pub named_in : List ℕ → Name → Bool
named_in w (N.Set r) = false
named_in w N.Begin = true
named_in w N.Goal = true
named_in w (N.And v) = is_node_in w v 2
named_in w (N.Exists v) = is_node_in w v 1
named_in w (N.First v) = is_node_in w v 0
named_in w (N.Next v) = is_node_in w v 0
named_in w (N.Or v i) = is_part_in w v i
named_in w N.Nobody = false

pub named_small : (w : List ℕ) (k : Name) → named_in w k ≡ true → SmallName k
unfolding named_in SmallName
named_small w (N.Set r) e = let z : ◌≡◌ {A = ℕ} 0 1 = cc in absurd (omega arith)
named_small w N.Begin e = tt
named_small w N.Goal e = tt
named_small w (N.And v) e = tt
named_small w (N.Exists v) e = tt
named_small w (N.First v) e = tt
named_small w (N.Next v) e = tt
named_small w (N.Or v i) e = tt
named_small w N.Nobody e = tt

unfoldable pub is_chosen_in : List ℕ → ℕ → Bool
is_chosen_in w r = ltb 0 (relation_line w r).kind && ltb (relation_line w r).kind 6

pub chosen_low : (w : List ℕ) (r : ℕ) → (relation_line w r).kind < 1 → is_chosen_in w r ≡ false
unfolding is_chosen_in
chosen_low w r h = rw (le-ltb 0 (relation_line w r).kind (omega arith)) refl

pub chosen_high : (w : List ℕ) (r : ℕ) → 5 < (relation_line w r).kind → is_chosen_in w r ≡ false
unfolding is_chosen_in
chosen_high w r h = rw (lt-ltb 0 (relation_line w r).kind (omega arith), le-ltb (relation_line w r).kind 6 (omega arith)) refl

pub chosen_mid : (w : List ℕ) (r : ℕ) → 1 ≤ (relation_line w r).kind → (relation_line w r).kind ≤ 5 → is_chosen_in w r ≡ true
unfolding is_chosen_in
chosen_mid w r h l = rw (lt-ltb 0 (relation_line w r).kind (omega arith), lt-ltb (relation_line w r).kind 6 (omega arith)) refl

-- ---- and of the case
kind_chosen : (k : Kind) → T (is_chosen k) → (1 ≤ kind_number k) × (kind_number k ≤ 5)
unfolding kind_number is_chosen
kind_chosen static t = absurd t
kind_chosen plain t = (omega arith, omega arith)
kind_chosen Fun t = (omega arith, omega arith)
kind_chosen PFun t = (omega arith, omega arith)
kind_chosen Inj t = (omega arith, omega arith)
kind_chosen PInj t = (omega arith, omega arith)
kind_chosen universal t = absurd t

chosen_kind : (k : Kind) → T (ltb 0 (kind_number k) && ltb (kind_number k) 6) → T (is_chosen k)
unfolding kind_number is_chosen
chosen_kind static t = absurd t
chosen_kind plain t = tt
chosen_kind Fun t = tt
chosen_kind PFun t = tt
chosen_kind Inj t = tt
chosen_kind PInj t = tt
chosen_kind universal t = absurd t

is_and : (t : Tree) → node_kind t ≡ 2 → (ts : Trees) × (t ≡ and_node ts)
unfolding node_kind
is_and (leaf p r ls) e = absurd (omega arith)
is_and (forall_node d s t) e = absurd (omega arith)
is_and (exists_node d s t) e = absurd (omega arith)
is_and (and_node ts) e = (ts, refl)
is_and (or_node ts) e = absurd (omega arith)

is_or : (t : Tree) → node_kind t ≡ 3 → (ts : Trees) × (t ≡ or_node ts)
unfolding node_kind
is_or (leaf p r ls) e = absurd (omega arith)
is_or (forall_node d s t) e = absurd (omega arith)
is_or (exists_node d s t) e = absurd (omega arith)
is_or (and_node ts) e = absurd (omega arith)
is_or (or_node ts) e = (ts, refl)

is_exists : (t : Tree) → node_kind t ≡ 1 → (d : ℕ) × (s : ℕ) × (u : Tree) × (t ≡ exists_node d s u)
unfolding node_kind
is_exists (leaf p r ls) e = absurd (omega arith)
is_exists (forall_node d s t) e = absurd (omega arith)
is_exists (exists_node d s t) e = (d, s, t, refl)
is_exists (and_node ts) e = absurd (omega arith)
is_exists (or_node ts) e = absurd (omega arith)

is_forall : (t : Tree) → node_kind t ≡ 0 → (d : ℕ) × (s : ℕ) × (u : Tree) × (t ≡ forall_node d s u)
unfolding node_kind
is_forall (leaf p r ls) e = absurd (omega arith)
is_forall (forall_node d s t) e = (d, s, t, refl)
is_forall (exists_node d s t) e = absurd (omega arith)
is_forall (and_node ts) e = absurd (omega arith)
is_forall (or_node ts) e = absurd (omega arith)

module _ (c : Case) (w : List ℕ) (is : Is (problem_of c) w) where
  abbrev p : Problem
  p = problem_of c

  node_in_lem : (v kind : ℕ) → is_node_in w v kind ≡ true → (v < length p.node_list) × (node_kind (node_at p v) ≡ kind)
  unfolding is_node_in
  node_in_lem v kind e =
      let l : v < length p.node_list = subst (λ (k : ℕ). v < k) is.nodes (ltb→lt v (nodes_in w) (T_and_l (ltb v (nodes_in w)) _ (T_of e))) in
      (l, sym (is.node v l).kind ∙ eqb→eq (node_line w v).kind kind (T_and_r (ltb v (nodes_in w)) _ (T_of e)))

  in_node : (v kind : ℕ) → v < length p.node_list → node_kind (node_at p v) ≡ kind → is_node_in w v kind ≡ true
  unfolding is_node_in
  in_node v kind l e = rw (lt-ltb v (nodes_in w) (subst (λ (k : ℕ). v < k) (sym is.nodes) l), eq-eqb (node_line w v).kind kind ((is.node v l).kind ∙ e)) refl

  pub many_are : (v : ℕ) (ts : Trees) → v < length p.node_list → node_at p v ≡ or_node ts → (node_line w v).many ≡ how_many ts
  unfolding parts
  many_are v ts l e = (is.node v l).many ∙ ap (λ (t : Tree). length (parts v t)) e ∙ parts_length (suc v) ts

  pub named_is : (a : ActionName) → named_in w (named a) ≡ true → Named c a
  unfolding named_in named Named is_part_in node_in node_at problem_of problem_with
  named_is (set_name r) e = let z : ◌≡◌ {A = ℕ} 0 1 = cc in absurd (omega arith)
  named_is begin_name e = tt
  named_is goal_name e = tt
  named_is (and_name v) e = let (l, k) = node_in_lem v 2 e in (l, is_and (node_at p v) k)
  named_is (exists_name v) e = let (l, k) = node_in_lem v 1 e in (l, is_exists (node_at p v) k)
  named_is (first_name v) e = let (l, k) = node_in_lem v 0 e in (l, is_forall (node_at p v) k)
  named_is (next_name v) e = let (l, k) = node_in_lem v 0 e in (l, is_forall (node_at p v) k)
  named_is (or_name v i) e =
      let t = T_of e in
      let (l, k) = node_in_lem v 3 (T_true (is_node_in w v 3) (T_and_l (is_node_in w v 3) _ t)) in
      let (ts, q) = is_or (node_at p v) k in
      (l, (ts, q, subst (λ (m : ℕ). i < m) (many_are v ts l q) (ltb→lt i (node_line w v).many (T_and_r (is_node_in w v 3) _ t))))

  pub is_named : (a : ActionName) → Named c a → IsOther a → named_in w (named a) ≡ true
  unfolding named_in named Named IsOther is_part_in node_in node_at node_kind problem_of problem_with
  is_named (set_name r) h o = absurd o
  is_named begin_name h o = refl
  is_named goal_name h o = refl
  is_named (and_name v) (l, (ts, e)) o = in_node v 2 l (ap node_kind e)
  is_named (exists_name v) (l, (d, s, t, e)) o = in_node v 1 l (ap node_kind e)
  is_named (first_name v) (l, (d, s, t, e)) o = in_node v 0 l (ap node_kind e)
  is_named (next_name v) (l, (d, s, t, e)) o = in_node v 0 l (ap node_kind e)
  is_named (or_name v i) (l, (ts, e, g)) o = rw (in_node v 3 l (ap node_kind e)) (lt-ltb i (node_line w v).many (subst (λ (m : ℕ). i < m) (sym (many_are v ts l e)) g))

  pub set_named : (r : ℕ) → r < relations_in w → is_chosen_in w r ≡ true → Named c (set_name r)
  unfolding Named is_chosen_in relation_in relation_at problem_of problem_with
  set_named r h e =
      let l : r < length p.relations = subst (λ (k : ℕ). r < k) is.relations h in
      (l, chosen_kind (relation_at p r).kind (subst (λ (k : ℕ). T (ltb 0 k && ltb k 6)) (is.relation r l).kind (T_of e)))

  pub named_set : (r : ℕ) → Named c (set_name r) → (r < relations_in w) × (is_chosen_in w r ≡ true)
  unfolding Named relation_in relation_at problem_of problem_with
  named_set r (l, t) =
      let (x, y) = kind_chosen (relation_at p r).kind t in
      let k = (is.relation r l).kind in
      (subst (λ (m : ℕ). r < m) (sym is.relations) l, chosen_mid w r (omega arith) (omega arith))

-- ---- the name that the word is
some_same : {x y : ActionName} → some x ≡ some y → x ≡ y
some_same e = cc

pub named_of : (k : Name) (a : ActionName) → name_of k ≡ some a → k ≡ named a
unfolding name_of named
named_of (N.Set r) a e = ap named (some_same e)
named_of N.Begin a e = ap named (some_same e)
named_of N.Goal a e = ap named (some_same e)
named_of (N.And v) a e = ap named (some_same e)
named_of (N.Exists v) a e = ap named (some_same e)
named_of (N.First v) a e = ap named (some_same e)
named_of (N.Next v) a e = ap named (some_same e)
named_of (N.Or v i) a e = ap named (some_same e)
named_of N.Nobody a e = let z : ◌≡◌ {A = ℕ} 0 1 = cc in absurd (omega arith)

-- what looking for a set action finds
unfoldable pub SetFound : Case → List ℕ → Name → Type 0
SetFound c w (N.Set r) = Named c (set_name r) × (folded (action_word c (set_name r)) ≡ w)
SetFound c w N.Begin = ⊥
SetFound c w N.Goal = ⊥
SetFound c w (N.And v) = ⊥
SetFound c w (N.Exists v) = ⊥
SetFound c w (N.First v) = ⊥
SetFound c w (N.Next v) = ⊥
SetFound c w (N.Or v i) = ⊥
SetFound c w N.Nobody = (r : ℕ) → Named c (set_name r) → folded (action_word c (set_name r)) ≡ w → ⊥

-- a word compared with a name's
unfoldable pub Compared : (question names word : List ℕ) → Name → Bool → Type 0
Compared question names word k b = length (word_in question names k) ≤ 24 → b ≡ same (folded (word_in question names k)) (folded word)

-- whether a relation's set action has the word
unfoldable pub IsSet : (question names w word : List ℕ) → ℕ → Bool → Type 0
IsSet question names w word r true = (is_chosen_in w r ≡ true) × Compared question names word (N.Set r) true
IsSet question names w word r false = (is_chosen_in w r ≡ false) ⊎ Compared question names word (N.Set r) false

pub set_by : (question names w word : List ℕ) (r : ℕ) (b : Bool) → is_chosen_in w r ≡ true → Compared question names word (N.Set r) b → IsSet question names w word r b
unfolding IsSet
set_by question names w word r true e C = (e, C)
set_by question names w word r false e C = inr C

pub set_not : (question names w word : List ℕ) (r : ℕ) → is_chosen_in w r ≡ false → IsSet question names w word r false
unfolding IsSet
set_not question names w word r e = inl e

-- those of the relations before r are not the word's
unfoldable pub NoneBefore : (question names w word : List ℕ) → ℕ → Type 0
NoneBefore question names w word r = (c : Case) → Accepted c → Is (problem_of c) w → NamesAre (problem_of c) question names → (j : ℕ) → j < r → Named c (set_name j) → folded (action_word c (set_name j)) ≡ folded word → ⊥

pub none_first : (question names w word : List ℕ) → NoneBefore question names w word 0
unfolding NoneBefore
none_first question names w word c A is given j h n q = absurd (omega arith)

module _ (c : Case) (A : Accepted c) (question names w : List ℕ) (is : Is (problem_of c) w) (given : NamesAre (problem_of c) question names) (word : List ℕ) where
  compared : (k : Name) (a : ActionName) (b : Bool) → k ≡ named a → Named c a → Compared question names word k b → b ≡ same (folded (action_word c a)) (folded word)
  unfolding Compared
  compared k a b e h C =
      let q : word_in question names k ≡ action_word c a = ap (word_in question names) e ∙ word_is c question names given a h in
      subst (λ (x : List ℕ). b ≡ same (folded x) (folded word)) q (C (subst (λ (x : List ℕ). length x ≤ 24) (sym q) (word_short c A a h)))

  said_yes : (k : Name) (a : ActionName) → k ≡ named a → Named c a → Compared question names word k true → folded (action_word c a) ≡ folded word
  said_yes k a e h C = same_eq (folded (action_word c a)) (folded word) (T_of (sym (compared k a true e h C)))

  said_no : (k : Name) (a : ActionName) → k ≡ named a → Named c a → Compared question names word k false → folded (action_word c a) ≡ folded word → ⊥
  said_no k a e h C q = let z : false ≡ true = compared k a false e h C ∙ T_true _ (subst (λ (x : List ℕ). T (same (folded (action_word c a)) x)) q (same_refl (folded (action_word c a)))) in let y : ◌≡◌ {A = ℕ} 0 1 = cc in absurd (omega arith)

  -- set actions
  not_set : (r : ℕ) → IsSet question names w word r false → Named c (set_name r) → folded (action_word c (set_name r)) ≡ folded word → ⊥
  unfolding IsSet named
  not_set r s h q = ⊎_elim (λ e. let z : false ≡ true = sym e ∙ (named_set c w is r h).1 in let y : ◌≡◌ {A = ℕ} 0 1 = cc in absurd (omega arith)) (λ C. said_no (N.Set r) (set_name r) refl h C q) s

  found_set : (r : ℕ) → r < relations_in w → IsSet question names w word r true → SetFound c (folded word) (N.Set r)
  unfolding SetFound named IsSet
  found_set r h (e, C) = let n = set_named c w is r h e in (n, said_yes (N.Set r) (set_name r) refl n C)

  found_none : NoneBefore question names w word (relations_in w) → SetFound c (folded word) N.Nobody
  unfolding SetFound NoneBefore
  found_none h r n q = h c A is given r (named_set c w is r n).0 n q

  -- by the first byte
  first_is : (a : ActionName) → folded (action_word c a) ≡ folded word → (b : ℕ) → get_or (folded word) 0 0 ≡ b → get_or (folded (action_word c a)) 0 0 ≡ b
  first_is a q b e = ap (λ (x : List ℕ). get_or x 0 0) q ∙ e

  pub name_empty : folded word ≡ [] → name_of N.Nobody ≡ name_from c (folded word)
  unfolding name_of
  name_empty e = sym (name_none c A (folded word) (λ a h q. word_some c A a (q ∙ e)))

  only_set : get_or (folded word) 0 0 ≡ 115 → ((r : ℕ) → Named c (set_name r) → folded (action_word c (set_name r)) ≡ folded word → ⊥) → (a : ActionName) → Named c a → folded (action_word c a) ≡ folded word → ⊥
  unfolding IsOther
  only_set f x (set_name r) h q = x r h q
  only_set f x begin_name h q = other_first c A begin_name tt (first_is begin_name q 115 f)
  only_set f x goal_name h q = other_first c A goal_name tt (first_is goal_name q 115 f)
  only_set f x (and_name v) h q = other_first c A (and_name v) tt (first_is (and_name v) q 115 f)
  only_set f x (exists_name v) h q = other_first c A (exists_name v) tt (first_is (exists_name v) q 115 f)
  only_set f x (first_name v) h q = other_first c A (first_name v) tt (first_is (first_name v) q 115 f)
  only_set f x (next_name v) h q = other_first c A (next_name v) tt (first_is (next_name v) q 115 f)
  only_set f x (or_name v i) h q = other_first c A (or_name v i) tt (first_is (or_name v i) q 115 f)

  pub name_set : get_or (folded word) 0 0 ≡ 115 → (k : Name) → SetFound c (folded word) k → name_of k ≡ name_from c (folded word)
  unfolding SetFound name_of
  name_set f (N.Set r) (h, q) = sym (name_some c A (folded word) (set_name r) h q)
  name_set f N.Begin x = absurd x
  name_set f N.Goal x = absurd x
  name_set f (N.And v) x = absurd x
  name_set f (N.Exists v) x = absurd x
  name_set f (N.First v) x = absurd x
  name_set f (N.Next v) x = absurd x
  name_set f (N.Or v i) x = absurd x
  name_set f N.Nobody x = sym (name_none c A (folded word) (λ a h q. only_set f x a h q))

  -- other actions
  module _ (f : get_or (folded word) 0 0 ≡ 115 → ⊥) (k : Name) (o : name_of k ≡ other_in (folded word)) where
    is_other : (a : ActionName) → folded (action_word c a) ≡ folded word → IsOther a
    unfolding IsOther
    is_other (set_name r) q = f (sym (ap (λ (x : List ℕ). get_or x 0 0) q) ∙ set_first c A r)
    is_other begin_name q = tt
    is_other goal_name q = tt
    is_other (and_name v) q = tt
    is_other (exists_name v) q = tt
    is_other (first_name v) q = tt
    is_other (next_name v) q = tt
    is_other (or_name v i) q = tt

    only : (a : ActionName) → Named c a → folded (action_word c a) ≡ folded word → k ≡ named a
    only a h q = named_of k a (o ∙ ap other_in (sym q) ∙ other_back c A a h (is_other a q))

    pub name_not_named : named_in w k ≡ false → name_of N.Nobody ≡ name_from c (folded word)
    unfolding name_of
    name_not_named e = sym (name_none c A (folded word) (λ a h q. let z : false ≡ true = sym e ∙ ap (named_in w) (only a h q) ∙ is_named c w is a h (is_other a q) in let y : ◌≡◌ {A = ℕ} 0 1 = cc in absurd (omega arith)))

    pub name_not_said : Compared question names word k false → name_of N.Nobody ≡ name_from c (folded word)
    unfolding name_of
    name_not_said C = sym (name_none c A (folded word) (λ a h q. said_no k a (only a h q) h C q))

    a_name : (k : Name) → named_in w k ≡ true → (a : ActionName) × (k ≡ named a) × (name_of k ≡ some a)
    unfolding named_in named name_of
    a_name (N.Set r) e = (set_name r, refl, refl)
    a_name N.Begin e = (begin_name, refl, refl)
    a_name N.Goal e = (goal_name, refl, refl)
    a_name (N.And v) e = (and_name v, refl, refl)
    a_name (N.Exists v) e = (exists_name v, refl, refl)
    a_name (N.First v) e = (first_name v, refl, refl)
    a_name (N.Next v) e = (next_name v, refl, refl)
    a_name (N.Or v i) e = (or_name v i, refl, refl)
    a_name N.Nobody e = let z : ◌≡◌ {A = ℕ} 0 1 = cc in absurd (omega arith)

    pub name_said : named_in w k ≡ true → Compared question names word k true → name_of k ≡ name_from c (folded word)
    name_said e C =
        let (a, q, n) = a_name k e in
        let h = named_is c w is a (subst (λ (x : Name). named_in w x ≡ true) q e) in
        n ∙ sym (name_some c A (folded word) a h (said_yes k a q h C))

-- the loop over relations
module _ (question names w word : List ℕ) (r : ℕ) where
  pub none_next : NoneBefore question names w word r → IsSet question names w word r false → NoneBefore question names w word (r + 1)
  unfolding NoneBefore
  none_next h s c A is given j l n q = by_test (ltb j r) refl
    where
      by_test : (b : Bool) → ltb j r ≡ b → ⊥
      by_test true t = h c A is given j (ltb-true j r t) n q
      by_test false t = let e : j ≡ r = omega (arith, ltb-false j r t) in not_set c A question names w is given word r s (subst (λ (i : ℕ). Named c (set_name i)) e n) (subst (λ (i : ℕ). folded (action_word c (set_name i)) ≡ folded word) e q)

  pub set_here : r < relations_in w → IsSet question names w word r true → (c : Case) → Accepted c → Is (problem_of c) w → NamesAre (problem_of c) question names → SetFound c (folded word) (N.Set r)
  set_here h s c A is given = found_set c A question names w is given word r h s

  pub set_nowhere : r ≡ relations_in w → NoneBefore question names w word r → (c : Case) → Accepted c → Is (problem_of c) w → NamesAre (problem_of c) question names → SetFound c (folded word) N.Nobody
  set_nowhere e h c A is given = found_none c A question names w is given word (subst (NoneBefore question names w word) e h)
