-- The built layers: what they are, that they may be taken and end as the built steps do, and how many there are at the most.
use Prim.Native.Nat.{ℕ, zero, suc, ◌+◌, ◌-◌, ◌≤◌, ◌<◌}
use Rattle.std.specs.Prelude.{◌≡◌, ◌⊎◌, Bool, ◌&&◌, eqb, get_or, if◌then◌else◌}
use Rattle.std.proofs.Math.Path.{refl, sym, ap, ap₂, subst}
use Rattle.std.proofs.Common.{◌∙◌, add-zero, zero-add, eqb→eq}
use Rattle.std.proofs.Math.Logic.{inl, inr, ⊎_elim}
use Rattle.std.proofs.Math.Bool.{true, false, not}
use Rattle.std.proofs.Math.Option.{some}
use mathlib.Core.List.Memᴰ
use mathlib.Core.List.{List, [], ◌∷◌, ◌++◌, map, append_assoc, append-nil, Memᴰ}
use native.Mathlib.Omega.{arith}
use Rattle.std.proofs.Math.Dec.{T, T_not}
use Rattle.std.proofs.Math.ListN.{length, length-append}
use Rattle.std.proofs.lemmas.List.{length-map}
use Rattle.definitions.specs.Lists.{any, filter, option, flat_map, is_in, below}
use Rattle.definitions.specs.Refusal.{refused, accepted}
use Rattle.definitions.specs.Sheet.Relations.{Tuple}
use Rattle.definitions.specs.Problem.Tree.{Tree, leaf, forall_node, exists_node, and_node, or_node}
use Rattle.definitions.specs.Problem.Atoms.{Problem, Atom, guess, proof, goal, tuple, not_tuple, free_domain, free_range, holds_node, marked, atom_number, is_initial, State, initial, node_width}
use Rattle.definitions.specs.Problem.Actions.{Action, set, begin_proof, prove_and, prove_or, prove_exists, prove_forall, prove_goal, round_end, mark_in, mark_out, action_number, part_atom, root_atom, needs, adds, removes}
use Rattle.definitions.specs.Problem.Strips.{may_take, after, Run, run_from, run, reaches_goal}
use Rattle.definitions.specs.Problem.Built.{tree_holds, is_true_at, step_for, true_rows, node_steps, set_steps, built_actions, built_steps}
use Rattle.definitions.specs.Reply.Layers.{window, case_window, are_apart, may_take_all, after_all, actions_at, run_layers_from, run_layers, join, join_each, built_layers, flat}
use Rattle.laws.specs.Booleans.{T_and_l, T_and_r, T_or, T_of, T_true, T_false}
use Rattle.laws.specs.Lists.{filter_mem, flat_append, flat_mem, map_mem, mem_map}
use Rattle.laws.specs.Members.{in_mem, mem_in}
use Rattle.laws.specs.Repeats.{Once, once_append, once_below, once_filter, once_map}
use Rattle.laws.specs.Numbers.{IsAction, IsAtom, action_at_lem, atom_injective}
use Rattle.meaning.specs.Parts.{IsNode}
use Rattle.meaning.specs.Means.{Good}
use Rattle.meaning.specs.Valid.{needs_valid, adds_valid, after_cases}
use Rattle.meaning.specs.Sound.{OfKinds, initial_at}
use Rattle.meaning.specs.Pairs.{set_of, pairs, sets_are}
use Rattle.meaning.specs.Does.{Takes, ends, ends_append, takes_reach}
use Rattle.meaning.specs.Complete.{built_plain, each_true, built_are, built_takes, complete}
use Rattle.meaning.specs.Planning
use Rattle.meaning.specs.Layers.{map_append, is_needed, is_added, is_removed, are_added, are_removed, added_some, may_needed, needed_at, needed_may, Spares, apart_head, apart_tail, apart_cons, all_may, are_apart_lem, may_all, first_after, none_after, removed_some, comes, added_comes, removed_needed, never_both, NoEvery, Actions}
use Rattle.meaning.specs.LayerTests.{guess_kept}
use Rattle.meaning.specs.Windows.{high, height, higher, highest}
use Rattle.meaning.specs.Levels.{flat_app, insert_at, level, level_of, raise, insert_each, Legal, legal_append, after_layers, state_before, after_app, one_may, Proving, Told, each_there}
use Rattle.meaning.specs.Placing.{at_level, layers_after, Climbs, layer_is, layers_count, each_climbs}

-- ---- joining, layer by layer and step by step
module _ (p : Problem) where
  join_app : (l m : List Action) (s : State) (ls : List (List Action)) → join_each p s ls (l ++ m) ≡ join_each p s (join_each p s ls l) m
  unfolding join_each
  join_app [] m s ls = refl
  join_app (a ∷ l) m s ls = join_app l m s (join p s a ls)

  -- a step that may be taken before none of the first layers joins one after them
  unfoldable Waits : State → List (List Action) → Action → Type 0
  Waits s [] a = Unit {0}
  Waits s (l ∷ ls) a = (T (may_take p s a) → ⊥) × Waits (after_all p s l) ls a

  join_past : (ls ms : List (List Action)) (s : State) (a : Action) → Waits s ls a → join p s a (ls ++ ms) ≡ ls ++ join p (after_layers p s ls) a ms
  unfolding join Waits after_layers
  join_past [] ms s a w = refl
  join_past (l ∷ ls) ms s a w =
      let e : may_take_all p s (l ++ (a ∷ [])) ≡ false = T_false (may_take_all p s (l ++ (a ∷ []))) (λ t. w.0 (all_may p s (l ++ (a ∷ [])) t a (Memᴰ.append_right l (Memᴰ.head refl)))) in
      rw e (ap (λ (x : List (List Action)). l ∷ x) (join_past ls ms (after_all p s l) a w.1))

  each_past : (l : List Action) (ls ms : List (List Action)) (s : State) → ((a : Action) → Memᴰ a l → Waits s ls a) → join_each p s (ls ++ ms) l ≡ ls ++ join_each p (after_layers p s ls) ms l
  unfolding join_each
  each_past [] ls ms s w = refl
  each_past (a ∷ l) ls ms s w =
      ap (λ (x : List (List Action)). join_each p s x l) (join_past ls ms s a (w a (Memᴰ.head refl)))
      ∙ each_past l ls (join p (after_layers p s ls) a ms) s (λ b m. w b (Memᴰ.tail m))

  -- a layer's first steps are a layer
  apart_left : (l m : List Action) → T (are_apart p (l ++ m)) → T (are_apart p l)
  unfolding are_apart
  apart_left [] m t = tt
  apart_left (a ∷ l) m t = apart_cons p a l (λ b k. apart_head p a (l ++ m) t b (Memᴰ.append_left m k)) (apart_left l m (apart_tail p a (l ++ m) t))

  may_left : (s : State) (l m : List Action) → T (may_take_all p s (l ++ m)) → T (may_take_all p s l)
  may_left s l m t = may_all p s l (λ b k. all_may p s (l ++ m) t b (Memᴰ.append_left m k)) (apart_left l m (are_apart_lem p s (l ++ m) t))

  -- steps that are a layer together all join one
  one_layer : (m l : List Action) (s : State) → T (may_take_all p s (l ++ m)) → join_each p s (l ∷ []) m ≡ (l ++ m) ∷ []
  unfolding join_each join
  one_layer [] l s t = ap (λ (x : List Action). x ∷ []) (sym (append-nil l))
  one_layer (a ∷ m) l s t =
      let q : T (may_take_all p s ((l ++ (a ∷ [])) ++ m)) = subst (λ (x : List Action). T (may_take_all p s x)) (sym (append_assoc l (a ∷ []) m)) t in
      let e : may_take_all p s (l ++ (a ∷ [])) ≡ true = T_true _ (may_left s (l ++ (a ∷ [])) m q) in
      rw e (one_layer m (l ++ (a ∷ [])) s q ∙ ap (λ (x : List Action). x ∷ []) (append_assoc l (a ∷ []) m))

-- ---- set steps
abbrev pub IsSet : Action → Type 0
IsSet a = (r : ℕ) × (row : ℕ) × (a ≡ set r row)

-- atoms that nothing before begin-proof adds
unfoldable is_late : Atom → Bool
is_late guess = false
is_late proof = true
is_late goal = true
is_late (tuple r row) = false
is_late (not_tuple r row) = false
is_late (free_domain r x) = false
is_late (free_range r y) = false
is_late (holds_node v row) = true
is_late (marked r row) = true

unfoldable is_proof : Atom → Bool
is_proof guess = false
is_proof proof = true
is_proof goal = false
is_proof (tuple r row) = false
is_proof (not_tuple r row) = false
is_proof (free_domain r x) = false
is_proof (free_range r y) = false
is_proof (holds_node v row) = false
is_proof (marked r row) = false

unfoldable is_goal : Atom → Bool
is_goal guess = false
is_goal proof = false
is_goal goal = true
is_goal (tuple r row) = false
is_goal (not_tuple r row) = false
is_goal (free_domain r x) = false
is_goal (free_range r y) = false
is_goal (holds_node v row) = false
is_goal (marked r row) = false

module _ (p : Problem) (G : Good p) where
  pub added_atom : (a : Action) → IsAction p a → (x : Atom) → IsAtom p x → T (is_added p a (atom_number p x)) → Memᴰ x (adds p a)
  unfolding is_in
  added_atom a v x w t =
      let (y, m, e) = map_mem (atom_number p) (adds p a) (atom_number p x) (in_mem (atom_number p x) (map (atom_number p) (adds p a)) t) in
      subst (λ (z : Atom). Memᴰ z (adds p a)) (sym (atom_injective p x y w (adds_valid p G a v y m) e)) m

module _ (p : Problem) (G : Good p) (plain : NoEvery p) where
  -- a set step needs the guess phase and what it removes, which the guess phase is not; no step adds that
  set_needs : (r row i : ℕ) → T (is_needed p (set r row) i) → (i ≡ atom_number p guess) ⊎ T (is_removed p (set r row) i)
  unfolding needs removes any is_in
  set_needs r row i t = ⊎_elim (λ q. inl (eqb→eq i (atom_number p guess) q)) (λ q. inr q) (T_or (eqb i (atom_number p guess)) _ t)

  needs_guess : (r row : ℕ) → T (is_needed p (set r row) (atom_number p guess))
  unfolding needs
  needs_guess r row = needed_at p (set r row) guess (Memᴰ.head refl)

  no_guess : (a : Action) → IsAction p a → T (is_added p a (atom_number p guess)) → ⊥
  unfolding IsAtom comes
  no_guess a v t = added_comes p G plain a v guess (added_atom p G a v guess tt t)

  -- set steps that may be taken in turn are a layer
  module _ (s : State) (a : Action) (l : List Action) (v : IsAction p a) (w : Actions p G l) (is : IsSet a) (are : (b : Action) → Memᴰ b l → IsSet b) (u : T (may_take p s a)) (rest : T (may_take_all p (after p s a) l)) where
    -- what a later one needs holds after the first, so the first did not remove it, and did not add it
    later_held : (b : Action) → Memᴰ b l → (i : ℕ) → T (is_needed p b i) → T (s i) × (T (is_removed p a i) → ⊥)
    unfolding after
    later_held b m i n = ⊎_elim
        (λ q. (T_and_l (s i) _ q, λ r. T_not (is_removed p a i) (T_and_r (s i) _ q) r))
        (λ q. absurd (not_added q))
        (T_or (s i && not (is_removed p a i)) _ (may_needed p (after p s a) b (all_may p (after p s a) l rest b m) i n))
      where
        not_added : T (is_added p a i) → ⊥
        not_added c =
            let (r, row, e) = are b m in
            ⊎_elim (λ q. no_guess a v (subst (λ (k : ℕ). T (is_added p a k)) q c))
            (λ q. never_both p G plain b a (w b m) v i (subst (λ (x : Action). T (is_removed p x i)) (sym e) q) c)
            (set_needs r row i (subst (λ (x : Action). T (is_needed p x i)) e n))

    spares_later : (b : Action) → Memᴰ b l → Spares p a b
    spares_later b m i r (inl n) = (later_held b m i n).1 r
    spares_later b m i r (inr c) = never_both p G plain a b v (w b m) i r c

    later_spares : (b : Action) → Memᴰ b l → Spares p b a
    later_spares b m i r (inl n) =
        let (r₁, row₁, e₁) = is in
        let (r₂, row₂, e₂) = are b m in
        ⊎_elim (λ q. guess_kept p G r₂ row₂ (subst (IsAction p) e₂ (w b m)) (subst (λ (k : ℕ). T (is_removed p (set r₂ row₂) k)) q (subst (λ (x : Action). T (is_removed p x i)) e₂ r)))
        (λ q. (later_held b m i (removed_needed p G plain b (w b m) i r)).1 (subst (λ (x : Action). T (is_removed p x i)) (sym e₁) q))
        (set_needs r₁ row₁ i (subst (λ (x : Action). T (is_needed p x i)) e₁ n))
    later_spares b m i r (inr c) = never_both p G plain b a (w b m) v i r c

    sets_cons : T (may_take_all p s (a ∷ l))
    sets_cons = may_all p s (a ∷ l)
        (λ b m. ⊎_elim (λ e. subst (λ (x : Action). T (may_take p s x)) (sym e) u) (λ k. needed_may p s b (λ i n. (later_held b k i n).0)) (Memᴰ.cases_cons m))
        (apart_cons p a l (λ b m. (spares_later b m, later_spares b m)) (are_apart_lem p (after p s a) l rest))

  takes_valid : (l : List Action) (s : State) → Takes p G s l → Actions p G l
  unfolding Takes
  takes_valid [] s t a m = absurd (Memᴰ.not-nil m)
  takes_valid (b ∷ l) s t a m = ⊎_elim (λ e. subst (IsAction p) (sym e) t.0) (λ k. takes_valid l (after p s b) t.2 a k) (Memᴰ.cases_cons m)

  sets_layer : (l : List Action) (s : State) → Takes p G s l → ((a : Action) → Memᴰ a l → IsSet a) → T (may_take_all p s l)
  unfolding Takes are_apart
  sets_layer [] s t h = may_all p s [] (λ a m. absurd (Memᴰ.not-nil m)) tt
  sets_layer (a ∷ l) s (v, u, t) h = sets_cons s a l v (takes_valid l (after p s a) t) (h a (Memᴰ.head refl)) (λ b m. h b (Memᴰ.tail m)) u (sets_layer l (after p s a) t (λ b m. h b (Memᴰ.tail m)))

  -- ---- the first layers: the set steps, if there are any, and begin-proof
  begin_removes : T (is_removed p begin_proof (atom_number p guess))
  unfolding removes is_in
  begin_removes = mem_in (atom_number p guess) (map (atom_number p) (removes p begin_proof)) (mem_map (atom_number p) (removes p begin_proof) guess (Memᴰ.head refl))

  begin_disturbs : (s : State) (a : Action) (l : List Action) → IsSet a → may_take_all p s ((a ∷ l) ++ (begin_proof ∷ [])) ≡ false
  begin_disturbs s a l (r, row, e) = T_false (may_take_all p s ((a ∷ l) ++ (begin_proof ∷ []))) (λ t.
      (apart_head p a (l ++ (begin_proof ∷ [])) (are_apart_lem p s (a ∷ (l ++ (begin_proof ∷ []))) t) begin_proof (Memᴰ.append_right l (Memᴰ.head refl))).1 (atom_number p guess)
      begin_removes
      (inl (subst (λ (x : Action). T (is_needed p x (atom_number p guess))) (sym e) (needs_guess r row))))

unfoldable pub first_layers : List Action → List (List Action)
first_layers [] = (begin_proof ∷ []) ∷ []
first_layers (a ∷ l) = (a ∷ l) ∷ (begin_proof ∷ []) ∷ []

module _ (p : Problem) (G : Good p) (plain : NoEvery p) where
  first_joined : (l : List Action) (s : State) → T (may_take_all p s l) → ((a : Action) → Memᴰ a l → IsSet a) → join_each p s [] (l ++ (begin_proof ∷ [])) ≡ first_layers l
  unfolding join_each join first_layers
  first_joined [] s t h = refl
  first_joined (a ∷ l) s t h =
      let e : may_take_all p s ((a ∷ l) ++ (begin_proof ∷ [])) ≡ false = begin_disturbs p G plain s a l (h a (Memᴰ.head refl)) in
      join_app p l (begin_proof ∷ []) s ((a ∷ []) ∷ [])
      ∙ ap (λ (x : List (List Action)). join_each p s x (begin_proof ∷ [])) (one_layer p l (a ∷ []) s t)
      ∙ rw e refl

  ends_all : (l : List Action) (s : State) → Actions p G l → ends p G s l ≡ after_all p s l
  unfolding ends
  ends_all [] s v = sym (none_after p s)
  ends_all (a ∷ l) s v = ends_all l (after p s a) (λ b m. v b (Memᴰ.tail m))
      ∙ sym (first_after p s a l (λ i c r. let (b, m, q) = removed_some p l i r in never_both p G plain b a (v b (Memᴰ.tail m)) (v a (Memᴰ.head refl)) i q c))

  one_after : (s : State) (a : Action) → IsAction p a → after_all p s (a ∷ []) ≡ after p s a
  unfolding ends
  one_after s a v = sym (ends_all (a ∷ []) s (λ b m. subst (IsAction p) (sym (Memᴰ.eq_of_singleton m)) v))

  takes_split : (l m : List Action) (s : State) → Takes p G s (l ++ m) → Takes p G s l × Takes p G (ends p G s l) m
  unfolding Takes ends
  takes_split [] m s t = (tt, t)
  takes_split (a ∷ l) m s t = let q = takes_split l m (after p s a) t.2 in ((t.0, t.1, q.0), q.1)

  first_legal : (l : List Action) (s : State) → Takes p G s (l ++ (begin_proof ∷ [])) → ((a : Action) → Memᴰ a l → IsSet a) → Legal p s (first_layers l) × (after_layers p s (first_layers l) ≡ ends p G s (l ++ (begin_proof ∷ [])))
  unfolding Legal after_layers first_layers IsAction Takes ends
  first_legal [] s t h = ((one_may p s begin_proof t.1, tt), one_after s begin_proof tt)
  first_legal (a ∷ l) s t h =
      let (x, y) = takes_split (a ∷ l) (begin_proof ∷ []) s t in
      let e : ends p G s (a ∷ l) ≡ after_all p s (a ∷ l) = ends_all (a ∷ l) s (takes_valid p G plain (a ∷ l) s x) in (
        (sets_layer p G plain (a ∷ l) s x h, (one_may p (after_all p s (a ∷ l)) begin_proof (subst (λ (z : State). T (may_take p z begin_proof)) e y.1), tt)),
        one_after (after_all p s (a ∷ l)) begin_proof tt ∙ ap (λ (z : State). after p z begin_proof) (sym e) ∙ sym (ends_append p G (a ∷ l) (begin_proof ∷ []) s),
      )

  -- ---- before them nothing of the proof phase holds, so no later step joins them
  abbrev Early : State → Type 0
  Early s = (x : Atom) → IsAtom p x → T (is_late x) → T (s (atom_number p x)) → ⊥

  initial_early : Early (initial p)
  unfolding is_initial is_late
  initial_early guess w l t = l
  initial_early proof w l t = subst T (initial_at p G proof w) t
  initial_early goal w l t = subst T (initial_at p G goal w) t
  initial_early (tuple r row) w l t = l
  initial_early (not_tuple r row) w l t = l
  initial_early (free_domain r x) w l t = l
  initial_early (free_range r y) w l t = l
  initial_early (holds_node v row) w l t = subst T (initial_at p G (holds_node v row) w) t
  initial_early (marked r row) w l t = subst T (initial_at p G (marked r row) w) t

  sets_early : (l : List Action) (s : State) → Early s → Actions p G l → ((a : Action) → Memᴰ a l → IsSet a) → Early (after_all p s l)
  unfolding after_all adds is_late
  sets_early l s h v are x w late t = ⊎_elim
      (λ q. h x w late (T_and_l (s (atom_number p x)) _ q))
      (λ q. let (b, m, c) = added_some p l (atom_number p x) q in
      let (r, row, e) = are b m in
      subst (λ (y : Atom). T (is_late y)) (Memᴰ.eq_of_singleton (subst (λ (z : Action). Memᴰ x (adds p z)) e (added_atom p G b (v b m) x w c))) late)
      (T_or (s (atom_number p x) && not (are_removed p l (atom_number p x))) (are_added p l (atom_number p x)) t)

  root_late : (t : Tree) → IsNode p t → T (is_late (part_atom p.size p.range (λ _. zero) zero t))
  unfolding IsNode part_atom is_late
  root_late (leaf q r ls) n = absurd n
  root_late (forall_node d s t) n = tt
  root_late (exists_node d s t) n = tt
  root_late (and_node ts) n = tt
  root_late (or_node ts) n = tt

  late_need : (a : Action) → removes p a ≡ [] → (x : Atom) × Memᴰ x (needs p a) × T (is_late x)
  unfolding removes needs root_atom is_late
  late_need (set r row) e = absurd (Memᴰ.not-nil (subst (Memᴰ (not_tuple r row)) e (Memᴰ.head refl)))
  late_need begin_proof e = absurd (Memᴰ.not-nil (subst (Memᴰ guess) e (Memᴰ.head refl)))
  late_need (prove_and v row) e = (proof, Memᴰ.head refl, tt)
  late_need (prove_or v row i) e = (proof, Memᴰ.head refl, tt)
  late_need (prove_exists v row z) e = (proof, Memᴰ.head refl, tt)
  late_need (prove_forall v row z) e = (proof, Memᴰ.head refl, tt)
  late_need prove_goal e = (part_atom p.size p.range (λ _. zero) zero p.root, Memᴰ.head refl, root_late p.root G.root_node)
  late_need round_end e = absurd (Memᴰ.not-nil (subst (Memᴰ proof) e (Memᴰ.head refl)))
  late_need (mark_in r row) e = absurd (Memᴰ.not-nil (subst (Memᴰ (marked r row)) e (Memᴰ.head refl)))
  late_need (mark_out r row) e = absurd (Memᴰ.not-nil (subst (Memᴰ (marked r row)) e (Memᴰ.head refl)))

  too_early : (s : State) (a : Action) → Early s → IsAction p a → removes p a ≡ [] → T (may_take p s a) → ⊥
  too_early s a h v e t = let (x, m, l) = late_need a e in h x (needs_valid p G a v x m) l (may_needed p s a t (atom_number p x) (needed_at p a x m))

  first_wait : (l : List Action) (s : State) → Early s → Actions p G l → ((a : Action) → Memᴰ a l → IsSet a) → (a : Action) → IsAction p a → removes p a ≡ [] → Waits p s (first_layers l) a
  unfolding Waits first_layers
  first_wait [] s h v are a w e = (too_early s a h w e, tt)
  first_wait (b ∷ l) s h v are a w e = (too_early s a h w e, (too_early (after_all p s (b ∷ l)) a (sets_early (b ∷ l) s h v are) w e, tt))

  -- ---- the steps after begin-proof prove: each adds an atom of its own
  module _ (F : List Tuple) where
    rows_add : (v : ℕ) (t : Tree) (l : List ℕ) → ((row : ℕ) → Memᴰ row l → T (is_true_at p F t row)) → flat_map (adds p) (map (step_for p F v t) l) ≡ map (holds_node v) l
    unfolding flat_map
    rows_add v t [] h = refl
    rows_add v t (row ∷ l) h = ap₂ ◌++◌ (Planning.step_adds p G F v t row (h row (Memᴰ.head refl))).0 (rows_add v t l (λ j m. h j (Memᴰ.tail m)))

    rows_true : (t : Tree) (row : ℕ) → Memᴰ row (true_rows p F t) → T (is_true_at p F t row)
    unfolding true_rows
    rows_true t row m = (filter_mem (is_true_at p F t) (below (node_width p.size t)) row m).1

    nodes_add : (ts : List Tree) (v : ℕ) → Once (flat_map (adds p) (node_steps p F v ts)) × ((x : Atom) → Memᴰ x (flat_map (adds p) (node_steps p F v ts)) → (w : ℕ) × (row : ℕ) × (v ≤ w) × (x ≡ holds_node w row))
    unfolding node_steps flat_map Once true_rows
    nodes_add [] v = (tt, λ x m. absurd (Memᴰ.not-nil m))
    nodes_add (t ∷ ts) v =
        let (o, h) = nodes_add ts (suc v) in
        let e : flat_map (adds p) (node_steps p F (suc v) ts ++ map (step_for p F v t) (true_rows p F t)) ≡ flat_map (adds p) (node_steps p F (suc v) ts) ++ map (holds_node v) (true_rows p F t)
        = flat_append (adds p) (node_steps p F (suc v) ts) (map (step_for p F v t) (true_rows p F t)) ∙ ap (λ (l : List Atom). flat_map (adds p) (node_steps p F (suc v) ts) ++ l) (rows_add v t (true_rows p F t) (rows_true t)) in (
          subst Once (sym e) (once_append (flat_map (adds p) (node_steps p F (suc v) ts)) (map (holds_node v) (true_rows p F t)) o
              (once_map (holds_node v) (true_rows p F t) (λ x y mx my q. same_row q) (once_filter (is_true_at p F t) (below (node_width p.size t)) (once_below (node_width p.size t))))
              (λ x m k. let (w, row, l, f) = h x m in let (row', j, g) = map_mem (holds_node v) (true_rows p F t) x k in let q = same_node (sym f ∙ g) in omega arith)),
          (λ x m. ⊎_elim (λ k. let (w, row, l, f) = h x k in (w, row, omega arith, f)) (λ k. let (row, j, g) = map_mem (holds_node v) (true_rows p F t) x k in (v, row, omega arith, g)) (Memᴰ.append_cases (flat_map (adds p) (node_steps p F (suc v) ts)) (subst (Memᴰ x) e m))),
        )
      where
        node_of : Atom → ℕ
        node_of guess = 0
        node_of proof = 0
        node_of goal = 0
        node_of (tuple r row) = 0
        node_of (not_tuple r row) = 0
        node_of (free_domain r x) = 0
        node_of (free_range r y) = 0
        node_of (holds_node v row) = v
        node_of (marked r row) = 0

        row_of : Atom → ℕ
        row_of guess = 0
        row_of proof = 0
        row_of goal = 0
        row_of (tuple r row) = 0
        row_of (not_tuple r row) = 0
        row_of (free_domain r x) = 0
        row_of (free_range r y) = 0
        row_of (holds_node v row) = row
        row_of (marked r row) = 0

        same_row : {x y : ℕ} → holds_node v x ≡ holds_node v y → x ≡ y
        same_row e = ap row_of e

        same_node : {w row row' : ℕ} → holds_node w row ≡ holds_node v row' → w ≡ v
        same_node e = ap node_of e

    nodes_plain : (ts : List Tree) (v : ℕ) (a : Action) → Memᴰ a (node_steps p F v ts) → removes p a ≡ []
    unfolding node_steps
    nodes_plain [] v a m = absurd (Memᴰ.not-nil m)
    nodes_plain (t ∷ ts) v a m = ⊎_elim
        (λ k. nodes_plain ts (suc v) a k)
        (λ k. let (row, j, e) = map_mem (step_for p F v t) (true_rows p F t) a k in ap (removes p) e ∙ (Planning.step_adds p G F v t row (rows_true t row j)).1)
        (Memᴰ.append_cases (node_steps p F (suc v) ts) m)

  once_left_right : {A : Type 0} (l m : List A) → Once (l ++ m) → Once m × ((x : A) → Memᴰ x l → Memᴰ x m → ⊥)
  unfolding Once
  once_left_right [] m o = (o, λ x i k. Memᴰ.not-nil i)
  once_left_right {A} (y ∷ l) m o = let (q, h) = once_left_right l m o.1 in (q, λ x i k. ⊎_elim (λ e. o.0 (Memᴰ.append_right l (subst (λ (z : A). Memᴰ z m) e k))) (λ j. h x j k) (Memᴰ.cases_cons i))

  proving : (l : List Action) (s : State) → Takes p G s l → ((a : Action) → Memᴰ a l → removes p a ≡ []) → Once (flat_map (adds p) l) → ((x : Atom) → Memᴰ x (flat_map (adds p) l) → T (s (atom_number p x)) → ⊥) → Proving p G s l
  unfolding Takes Proving flat_map is_in
  proving [] s t e o h = tt
  proving (a ∷ l) s (v, u, t) e o h =
      let (q, k) = once_left_right (adds p a) (flat_map (adds p) l) o in (
        v,
        u,
        e a (Memᴰ.head refl),
        (λ i c held. let (y, m, f) = map_mem (atom_number p) (adds p a) i (in_mem i (map (atom_number p) (adds p a)) c) in h y (Memᴰ.append_left (flat_map (adds p) l) m) (subst (λ (j : ℕ). T (s j)) f held)),
        proving l (after p s a) t (λ b m. e b (Memᴰ.tail m)) q (λ x m held.
            let (b, i, j) = flat_mem (adds p) l x m in
            let w : IsAtom p x = adds_valid p G b (takes_valid p G plain l (after p s a) t b i) x j in
            ⊎_elim (λ c. h x (Memᴰ.append_right (adds p a) m) c.0) (λ c. k x c m) (after_cases p G s a x v w held)),
      )

  -- ---- how high they go
  abbrev Bounded : (ℕ → ℕ) → Type 0
  Bounded τ = (x : Atom) → IsAtom p x → τ (atom_number p x) ≤ height p (high p G) x

  level_below : (τ : ℕ → ℕ) → Bounded τ → (a : Action) → IsAction p a → removes p a ≡ [] → (y : Atom) → Memᴰ y (adds p a) → level p τ a < height p (high p G) y
  unfolding is_in
  level_below τ h a v e y m =
      let (z, k, l) = late_need a e in
      let b = higher p G a v e z y k m in
      let q : level p τ a ≤ height p (high p G) y - 1 = level_of p a e τ (height p (high p G) y - 1) (λ i n.
      let (x, j, f) = map_mem (atom_number p) (needs p a) i (in_mem i (map (atom_number p) (needs p a)) n) in
      let c : τ i ≡ τ (atom_number p x) = ap τ f in
      omega (arith, h x (needs_valid p G a v x j), higher p G a v e x y j m)) in
      omega arith

  raise_bounded : (τ : ℕ → ℕ) → Bounded τ → (a : Action) → IsAction p a → removes p a ≡ [] → Bounded (raise p τ a)
  unfolding raise
  raise_bounded τ h a v e x w = by_test (is_added p a (atom_number p x)) refl
    where
      by_test : (b : Bool) → is_added p a (atom_number p x) ≡ b → (if b then suc (level p τ a) else τ (atom_number p x)) ≤ height p (high p G) x
      by_test true q = level_below τ h a v e x (added_atom p G a v x w (T_of q))
      by_test false q = h x w

  insert_short : (a : Action) (ls : List (List Action)) (m b : ℕ) → length ls ≤ b → m < b → length (insert_at p m a ls) ≤ b
  unfolding insert_at
  insert_short a [] m b h k = omega arith
  insert_short a (l ∷ ls) zero b h k = h
  insert_short a (l ∷ ls) (suc m) zero h k = absurd (omega arith)
  insert_short a (l ∷ ls) (suc m) (suc b) h k = omega (arith, insert_short a ls m b (omega arith) (omega arith))

  adds_some : (a : Action) → (y : Atom) × Memᴰ y (adds p a)
  unfolding adds
  adds_some (set r row) = (tuple r row, Memᴰ.head refl)
  adds_some begin_proof = (proof, Memᴰ.head refl)
  adds_some (prove_and v row) = (holds_node v row, Memᴰ.head refl)
  adds_some (prove_or v row i) = (holds_node v row, Memᴰ.head refl)
  adds_some (prove_exists v row z) = (holds_node v row, Memᴰ.head refl)
  adds_some (prove_forall v row z) = (_, Memᴰ.head refl)
  adds_some prove_goal = (goal, Memᴰ.head refl)
  adds_some round_end = (_, Memᴰ.head refl)
  adds_some (mark_in r row) = (tuple r row, Memᴰ.head refl)
  adds_some (mark_out r row) = (not_tuple r row, Memᴰ.head refl)

  each_short : (l : List Action) (s : State) (τ : ℕ → ℕ) (ls : List (List Action)) → Bounded τ → Proving p G s l → length ls ≤ suc (window p.range p.root).upper → length (insert_each p τ ls l) ≤ suc (window p.range p.root).upper
  unfolding insert_each Proving
  each_short [] s τ ls h q b = b
  each_short (a ∷ l) s τ ls h (v, t, e, f, q) b =
      let (y, m) = adds_some a in
      let k = level_below τ h a v e y m in
      each_short l (after p s a) (raise p τ a) (insert_at p (level p τ a) a ls) (raise_bounded τ h a v e) q
      (insert_short a ls (level p τ a) (suc (window p.range p.root).upper) b (omega (arith, highest p G a v e y m)))

  -- ---- layers that may be taken, in numbers, are run as they are
  numbers_back : (l : List Action) → Actions p G l → actions_at p (map (action_number p) l) ≡ some l
  unfolding actions_at option
  numbers_back [] v = refl
  numbers_back (a ∷ l) v = rw (action_at_lem p a (v a (Memᴰ.head refl)), numbers_back l (λ b m. v b (Memᴰ.tail m))) refl

  pub legal_runs : (ls : List (List Action)) (s : State) (i : ℕ) → Legal p s ls → Actions p G (flat ls)
      → run_layers_from p s i (map (map (action_number p)) ls) ≡ record { answer = if after_layers p s ls (atom_number p goal) then accepted (i + length ls) else refused 15 (i + length ls); state = after_layers p s ls }
  unfolding run_layers_from Legal after_layers flat option
  legal_runs [] s i h v = ap (λ (k : ℕ). record { answer = if s (atom_number p goal) then accepted k else refused 15 k; state = s }) (sym (add-zero i))
  legal_runs (l ∷ ls) s i h v =
      let e : may_take_all p s l ≡ true = T_true (may_take_all p s l) h.0 in
      let k : suc i + length ls ≡ i + suc (length ls) = omega arith in
      rw (numbers_back l (λ b m. v b (Memᴰ.append_left (flat ls) m)), e)
      (legal_runs ls (after_all p s l) (suc i) h.1 (λ b m. v b (Memᴰ.append_right l m))
      ∙ ap (λ (k : ℕ). record { answer = if after_layers p (after_all p s l) ls (atom_number p goal) then accepted k else refused 15 k; state = after_layers p (after_all p s l) ls }) k)

-- ---- joining loses no step and makes none
module _ (p : Problem) (f : Action → Bool) where
  abbrev count : List Action → ℕ
  count l = length (filter f l)

  count_app : (l m : List Action) → count (l ++ m) ≡ count l + count m
  unfolding filter
  count_app [] m = sym (zero-add (count m))
  count_app (a ∷ l) m = by_test (f a) (count_app l m)
    where
      by_test : (b : Bool) → count (l ++ m) ≡ count l + count m → length (if b then a ∷ filter f (l ++ m) else filter f (l ++ m)) ≡ length (if b then a ∷ filter f l else filter f l) + count m
      by_test true e = omega arith
      by_test false e = e

  join_count : (ls : List (List Action)) (s : State) (a : Action) → count (flat (join p s a ls)) ≡ count (a ∷ []) + count (flat ls)
  unfolding join flat
  join_count [] s a = count_app (a ∷ []) []
  join_count (l ∷ ls) s a = by_test (may_take_all p s (l ++ (a ∷ []))) (join_count ls (after_all p s l) a)
    where
      by_test : (b : Bool) → count (flat (join p (after_all p s l) a ls)) ≡ count (a ∷ []) + count (flat ls) → count (flat (if b then (l ++ (a ∷ [])) ∷ ls else l ∷ join p (after_all p s l) a ls)) ≡ count (a ∷ []) + count (l ++ flat ls)
      by_test true e =
          let x = count_app (l ++ (a ∷ [])) (flat ls) in
          let y = count_app l (a ∷ []) in
          let z = count_app l (flat ls) in
          omega arith
      by_test false e =
          let x = count_app l (flat (join p (after_all p s l) a ls)) in
          let z = count_app l (flat ls) in
          omega arith

  pub joined_count : (l : List Action) (s : State) (ls : List (List Action)) → count (flat (join_each p s ls l)) ≡ count (flat ls) + count l
  unfolding join_each filter
  joined_count [] s ls = sym (add-zero (count (flat ls)))
  joined_count (a ∷ l) s ls =
      let x = joined_count l s (join p s a ls) in
      let y = join_count ls s a in
      let z = count_app (a ∷ []) l in
      omega arith

-- ---- the built layers of picks that solve the case
module _ (p : Problem) (G : Good p) (plain : NoEvery p) (F : List Tuple) (K : OfKinds p G F) (true_of : T (tree_holds p.source F (λ _. zero) p.root)) where
  abbrev sets : List Action
  sets = set_steps p F

  -- the steps after begin-proof
  abbrev pub proof_steps : List Action
  proof_steps = node_steps p F zero p.node_list ++ (prove_goal ∷ [])

  sets_set : (a : Action) → Memᴰ a sets → IsSet a
  sets_set a m = let (q, k, e) = map_mem set_of (pairs p F) a (subst (Memᴰ a) (sets_are p F) m) in (q.0, q.1, e)

  abbrev begun : List Action
  begun = sets ++ (begin_proof ∷ [])

  built_split : built_actions p F ≡ begun ++ proof_steps
  built_split = built_plain p G plain F ∙ sym (append_assoc sets (begin_proof ∷ []) proof_steps)

  takes : Takes p G (initial p) (begun ++ proof_steps)
  takes = subst (Takes p G (initial p)) (sym (built_are p G F K) ∙ built_split) (built_takes p G F K (each_true p G plain F true_of))

  takes_first : Takes p G (initial p) begun
  takes_first = (takes_split p G plain begun proof_steps (initial p) takes).0

  takes_sets : Takes p G (initial p) sets
  takes_sets = (takes_split p G plain sets (begin_proof ∷ []) (initial p) takes_first).0

  sets_valid : Actions p G sets
  sets_valid = takes_valid p G plain sets (initial p) takes_sets

  abbrev s₂ : State
  s₂ = ends p G (initial p) begun

  steps_plain : (a : Action) → Memᴰ a proof_steps → removes p a ≡ []
  unfolding removes
  steps_plain a m = ⊎_elim (λ k. nodes_plain p G plain F p.node_list zero a k) (λ k. ap (removes p) (Memᴰ.eq_of_singleton k)) (Memᴰ.append_cases (node_steps p F zero p.node_list) m)

  -- what they add, each once, none there before
  added_are : flat_map (adds p) proof_steps ≡ flat_map (adds p) (node_steps p F zero p.node_list) ++ (goal ∷ [])
  unfolding flat_map adds
  added_are = flat_append (adds p) (node_steps p F zero p.node_list) (prove_goal ∷ [])

  added_once : Once (flat_map (adds p) proof_steps)
  unfolding Once is_goal
  added_once =
      let (o, h) = nodes_add p G plain F p.node_list zero in
      subst Once (sym added_are) (once_append (flat_map (adds p) (node_steps p F zero p.node_list)) (goal ∷ []) o (Memᴰ.not-nil, tt)
      (λ x m k. let (w, row, l, e) = h x m in subst (λ (y : Atom). T (is_goal y)) (sym (Memᴰ.eq_of_singleton k) ∙ e) tt))

  proved : (x : Atom) → Memᴰ x (flat_map (adds p) proof_steps) → T (is_late x) × T (not (is_proof x))
  unfolding is_late is_proof
  proved x m = ⊎_elim
      (λ k. let (w, row, l, e) = (nodes_add p G plain F p.node_list zero).1 x k in subst (λ (y : Atom). T (is_late y) × T (not (is_proof y))) (sym e) (tt, tt))
      (λ k. subst (λ (y : Atom). T (is_late y) × T (not (is_proof y))) (sym (Memᴰ.eq_of_singleton k)) (tt, tt))
      (Memᴰ.append_cases (flat_map (adds p) (node_steps p F zero p.node_list)) (subst (Memᴰ x) added_are m))

  not_yet : (x : Atom) → Memᴰ x (flat_map (adds p) proof_steps) → T (s₂ (atom_number p x)) → ⊥
  unfolding ends adds IsAction is_proof
  not_yet x m t =
      let (b, i, j) = flat_mem (adds p) proof_steps x m in
      let w : IsAtom p x = adds_valid p G b (takes_valid p G plain proof_steps s₂ (takes_split p G plain begun proof_steps (initial p) takes).1 b i) x j in
      let (late, other) = proved x m in
      ⊎_elim
      (λ c. sets_early p G plain sets (initial p) (initial_early p G plain) sets_valid sets_set x w late (subst (λ (s : State). T (s (atom_number p x))) (ends_all p G plain sets (initial p) sets_valid) c.0))
      (λ c. T_not (is_proof x) other (subst (λ (y : Atom). T (is_proof y)) (sym (Memᴰ.eq_of_singleton c)) tt))
      (after_cases p G (ends p G (initial p) sets) begin_proof x tt w (subst (λ (s : State). T (s (atom_number p x))) (ends_append p G sets (begin_proof ∷ []) (initial p)) t))

  steps_prove : Proving p G s₂ proof_steps
  steps_prove = proving p G plain proof_steps s₂ (takes_split p G plain begun proof_steps (initial p) takes).1 steps_plain added_once not_yet

  abbrev firsts : List (List Action)
  firsts = first_layers sets

  first_state : after_layers p (initial p) firsts ≡ s₂
  first_state = (first_legal p G plain sets (initial p) takes_first sets_set).1

  none_told : (s : State) → Told p G s [] (λ _. zero)
  unfolding Legal after_layers state_before flat
  none_told s = record { legal = tt; valid = λ a m. absurd (Memᴰ.not-nil m); tells = λ k b i h. ((λ t. omega arith), λ t. h) }

  there : (join_each p (after_layers p (initial p) firsts) [] proof_steps ≡ insert_each p (λ _. zero) [] proof_steps)
      × Legal p (after_layers p (initial p) firsts) (insert_each p (λ _. zero) [] proof_steps)
      × Actions p G (flat (insert_each p (λ _. zero) [] proof_steps))
      × (after_layers p (after_layers p (initial p) firsts) (insert_each p (λ _. zero) [] proof_steps) ≡ ends p G (after_layers p (initial p) firsts) proof_steps)
  unfolding after_layers
  there = each_there p G plain proof_steps (after_layers p (initial p) firsts) [] (λ _. zero) (none_told (after_layers p (initial p) firsts)) (subst (λ (s : State). Proving p G s proof_steps) (sym first_state) steps_prove)

  -- what they are
  pub layers_are : built_layers p F ≡ first_layers (set_steps p F) ++ insert_each p (λ _. zero) [] proof_steps
  unfolding built_layers
  layers_are =
      ap (join_each p (initial p) []) built_split
      ∙ join_app p begun proof_steps (initial p) []
      ∙ ap (λ (x : List (List Action)). join_each p (initial p) x proof_steps) (first_joined p G plain sets (initial p) (sets_layer p G plain sets (initial p) takes_sets sets_set) sets_set ∙ sym (append-nil firsts))
      ∙ each_past p proof_steps firsts [] (initial p) (λ a m. first_wait p G plain sets (initial p) (initial_early p G plain) sets_valid sets_set a (takes_valid p G plain proof_steps s₂ (takes_split p G plain begun proof_steps (initial p) takes).1 a m) (steps_plain a m))
      ∙ ap (λ (x : List (List Action)). firsts ++ x) there.0

  -- as code places them: after the first layers, that of an index holds the steps of that level, in their order
  climbs : Climbs p (λ _. zero) 0 proof_steps
  unfolding after_layers
  climbs = each_climbs p G plain proof_steps s₂ [] (λ _. zero) (none_told s₂) steps_prove

  pub layer_at : (k : ℕ) → get_or (insert_each p (λ _. zero) [] proof_steps) k [] ≡ at_level p (λ _. zero) k proof_steps
  layer_at k = layer_is p proof_steps (λ _. zero) [] k climbs

  pub layers_number : length (built_layers p F) ≡ length (first_layers (set_steps p F)) + layers_after p (λ _. zero) 0 proof_steps
  layers_number = ap length layers_are ∙ length-append firsts (insert_each p (λ _. zero) [] proof_steps) ∙ ap (λ (n : ℕ). length firsts + n) (layers_count p proof_steps (λ _. zero) [] climbs)

  first_actions : (l : List Action) → Actions p G l → Actions p G (flat (first_layers l))
  unfolding first_layers flat IsAction
  first_actions [] v a m = subst (IsAction p) (sym (Memᴰ.eq_of_singleton m)) tt
  first_actions (b ∷ l) v a m = ⊎_elim (λ k. v a k) (λ k. subst (IsAction p) (sym (Memᴰ.eq_of_singleton k)) tt) (Memᴰ.append_cases (b ∷ l) m)

  pub layers_valid : Actions p G (flat (built_layers p F))
  layers_valid a m = ⊎_elim (λ k. first_actions sets sets_valid a k) (λ k. there.2 a k)
      (Memᴰ.append_cases (flat firsts) (subst (Memᴰ a) (ap flat layers_are ∙ flat_app firsts (insert_each p (λ _. zero) [] proof_steps)) m))

  pub layers_legal : Legal p (initial p) (built_layers p F)
  layers_legal = subst (Legal p (initial p)) (sym layers_are) (legal_append p firsts (insert_each p (λ _. zero) [] proof_steps) (initial p) (first_legal p G plain sets (initial p) takes_first sets_set).0 there.1)

  -- they end as the built steps do
  pub layers_end : after_layers p (initial p) (built_layers p F) ≡ ends p G (initial p) (built_actions p F)
  layers_end = ap (after_layers p (initial p)) layers_are ∙ after_app p firsts (insert_each p (λ _. zero) [] proof_steps) (initial p) ∙ there.3
      ∙ ap (λ (s : State). ends p G s proof_steps) first_state ∙ sym (ends_append p G begun proof_steps (initial p)) ∙ ap (ends p G (initial p)) (sym built_split)

  first_length : (l : List Action) → length (first_layers l) ≤ 2
  unfolding first_layers
  first_length [] = omega arith
  first_length (a ∷ l) = omega arith

  zero_bounded : (x : Atom) → IsAtom p x → 0 ≤ height p (high p G) x
  zero_bounded x w = omega arith

  -- and are at most the window's upper number
  pub layers_few : length (built_layers p F) ≤ (case_window p).upper
  unfolding case_window
  layers_few =
      let e = ap length layers_are in
      let a = length-append firsts (insert_each p (λ _. zero) [] proof_steps) in
      let b = first_length sets in
      let c = each_short p G plain proof_steps s₂ (λ _. zero) [] zero_bounded steps_prove (omega arith) in
      omega arith

-- ---- steps that may be taken in turn, in numbers, are run as they are
pub takes_run : (p : Problem) (G : Good p) (l : List Action) (s : State) (i : ℕ) → Takes p G s l
    → run_from p s i (map (action_number p) l) ≡ record { answer = if ends p G s l (atom_number p goal) then accepted (i + length l) else refused 15 (i + length l); state = ends p G s l }
unfolding Takes ends run_from option
takes_run p G [] s i t = ap (λ (k : ℕ). record { answer = if s (atom_number p goal) then accepted k else refused 15 k; state = s }) (sym (add-zero i))
takes_run p G (a ∷ l) s i t =
    let e : may_take p s a ≡ true = T_true (may_take p s a) t.1 in
    let k : suc i + length l ≡ i + suc (length l) = omega arith in
    rw (action_at_lem p a t.0, e)
    (takes_run p G l (after p s a) (suc i) t.2 ∙ ap (λ (k : ℕ). record { answer = if ends p G (after p s a) l (atom_number p goal) then accepted k else refused 15 k; state = ends p G (after p s a) l }) k)

-- ---- the built layers in numbers
abbrev pub built_numbers : Problem → List Tuple → List (List ℕ)
built_numbers p F = map (map (action_number p)) (built_layers p F)

module _ (p : Problem) (G : Good p) (plain : NoEvery p) (F : List Tuple) (K : OfKinds p G F) (true_of : T (tree_holds p.source F (λ _. zero) p.root)) where
  plain_takes : Takes p G (initial p) (built_actions p F)
  plain_takes = subst (Takes p G (initial p)) (sym (built_are p G F K)) (built_takes p G F K (each_true p G plain F true_of))

  plain_run : run p (built_steps p F) ≡ record { answer = if ends p G (initial p) (built_actions p F) (atom_number p goal) then accepted (0 + length (built_actions p F)) else refused 15 (0 + length (built_actions p F)); state = ends p G (initial p) (built_actions p F) }
  unfolding run built_steps
  plain_run = takes_run p G (built_actions p F) (initial p) zero plain_takes

  goal_reached : ends p G (initial p) (built_actions p F) (atom_number p goal) ≡ true
  unfolding reaches_goal built_steps
  goal_reached = sym (takes_reach p G (built_actions p F) (initial p) plain_takes) ∙ T_true (reaches_goal p (built_steps p F)) (complete p G F K (each_true p G plain F true_of))

  -- they are accepted, and leave what the built steps leave
  pub layers_run : run_layers p (built_numbers p F) ≡ record { answer = accepted (length (built_numbers p F)); state = (run p (built_steps p F)).state }
  unfolding run_layers
  layers_run =
      legal_runs p G plain (built_layers p F) (initial p) zero (layers_legal p G plain F K true_of) (layers_valid p G plain F K true_of)
      ∙ ap (λ (s : State). record { answer = if s (atom_number p goal) then accepted (0 + length (built_layers p F)) else refused 15 (0 + length (built_layers p F)); state = s }) (layers_end p G plain F K true_of)
      ∙ ap (λ (b : Bool). record { answer = if b then accepted (0 + length (built_layers p F)) else refused 15 (0 + length (built_layers p F)); state = ends p G (initial p) (built_actions p F) }) goal_reached
      ∙ ap₂ (λ (k : ℕ) (s : State). record { answer = accepted k; state = s }) (zero-add (length (built_layers p F)) ∙ sym (length-map (built_layers p F) (map (action_number p)))) (sym (ap (λ (r : Run). r.state) plain_run))

  pub numbers_few : length (built_numbers p F) ≤ (case_window p).upper
  numbers_few = let e = length-map (built_layers p F) (map (action_number p)) in omega (arith, layers_few p G plain F K true_of)

-- the same numbers as the built steps have, each as often
flat_map_lem : {A B : Type 0} (g : A → B) (ls : List (List A)) → flat (map (map g) ls) ≡ map g (flat ls)
unfolding flat
flat_map_lem g [] = refl
flat_map_lem {A} {B} g (l ∷ ls) = ap (λ (x : List B). map g l ++ x) (flat_map_lem g ls) ∙ sym (map_append g l (flat ls))

filter_map : {A B : Type 0} (f : B → Bool) (g : A → B) (l : List A) → length (filter f (map g l)) ≡ length (filter (λ x. f (g x)) l)
unfolding filter
filter_map f g [] = refl
filter_map {A} {B} f g (x ∷ l) = by_test (f (g x)) (filter_map f g l)
  where
    by_test : (b : Bool) → length (filter f (map g l)) ≡ length (filter (λ x. f (g x)) l) → length (if b then g x ∷ filter f (map g l) else filter f (map g l)) ≡ length (if b then x ∷ filter (λ x. f (g x)) l else filter (λ x. f (g x)) l)
    by_test true e = ap suc e
    by_test false e = e

pub numbers_same : (p : Problem) (F : List Tuple) (f : ℕ → Bool) → length (filter f (flat (built_numbers p F))) ≡ length (filter f (built_steps p F))
unfolding built_layers built_steps flat filter
numbers_same p F f =
    ap (λ (l : List ℕ). length (filter f l)) (flat_map_lem (action_number p) (built_layers p F))
    ∙ filter_map f (action_number p) (flat (built_layers p F))
    ∙ joined_count p (λ a. f (action_number p a)) (built_actions p F) (initial p) []
    ∙ zero-add (length (filter (λ a. f (action_number p a)) (built_actions p F)))
    ∙ sym (filter_map f (action_number p) (built_actions p F))

pub numbers_length : (p : Problem) (F : List Tuple) → length (flat (built_numbers p F)) ≡ length (built_steps p F)
unfolding filter
numbers_length p F = sym (every (flat (built_numbers p F))) ∙ numbers_same p F (λ _. true) ∙ every (built_steps p F)
  where
    every : (l : List ℕ) → length (filter (λ _. true) l) ≡ length l
    every [] = refl
    every (x ∷ l) = ap suc (every l)
