-- Layers from the plain steps: what building layers answers, by what building steps answered and what placing them gave.
use Prim.Native.Nat.{ℕ, zero, ◌+◌, ◌/◌, ◌≤◌, ◌<◌, min}
use Rattle.std.specs.Prelude.{true, not, ◌≡◌, length, Ok, Err}
use Rattle.std.proofs.Math.Path.{refl, ap, subst}
use Rattle.std.proofs.Common.{sym, ◌∙◌, arith}
use Rattle.std.proofs.Math.Option.{Option, none}
use mathlib.Core.List.{List, []}
use Rattle.std.proofs.Math.Dec.{T}
use Rattle.definitions.specs.Lists.{is_some}
use Rattle.definitions.specs.Refusal.{Result, refused, accepted, ◌>>=◌}
use Rattle.definitions.specs.Sheet.Relations.{Relation, Tuple}
use Rattle.definitions.specs.Problem.Truth.{Case, are_picks, are_of_kinds, rule_is_true}
use Rattle.definitions.specs.Problem.Atoms.{Problem, problem_of, problem_with, state_words, words_for}
use Rattle.definitions.specs.Problem.Actions.{actions}
use Rattle.definitions.specs.Problem.Strips.{run, Run}
use Rattle.definitions.specs.Problem.Built.{built_steps, tree_holds}
use Rattle.definitions.specs.Reply.Outcome.{StepsBuilt, built_from, take_picks, as_text, written, state_length}
use Rattle.definitions.specs.Reply.Layers.{flat, ends_from, case_window, run_layers, layers_built_from}
use Rattle.laws.specs.Booleans.{T_of}
use Rattle.laws.specs.Results.{accepted_eq, refused_accepted}
use Rattle.laws.specs.Reader.{Accepted}
use Rattle.meaning.specs.Grounded.{good}
use Rattle.meaning.specs.Kinds.{tested_kinds, rule_everywhere}
use Rattle.meaning.specs.Picks.{picks_inside}
use Rattle.meaning.specs.Values.{one_value, with_zero}
use Rattle.meaning.specs.Building.{satisfying_parts, kinds_hold, count_case}
use Rattle.meaning.specs.Count.{bound_below}
use Rattle.meaning.specs.Layers.{NoEvery}
use Rattle.meaning.specs.Layered.{built_numbers, layers_run}
use Rattle.step_picks.specs.Handed.{decided}
use Rattle.step_build.specs.Answers.{planned, Gives}
use Rattle.step_build.specs.Starts.{Prepared}
use Rattle.refusal.specs.declared.Refusal.{Refusal}
use Rattle.refusal.specs.Numbers.{number_of}
use Rattle.open_case.specs.Replies.{result_of}
use Rattle.call_build_layers.specs.Layers.{layered, GivesLayers}
use Rattle.step_place.specs.Placeable.{Placeable}

-- ---- 16 and 17
refused_by : (p : Problem) (x : Result (List Tuple)) (state steps ends : List ℕ) (a : Result ℕ) (state' steps' : List ℕ) (k place : ℕ) → a ≡ refused k place
    → built_from (x >>= λ G. accepted (record { labels = []; problem = p; picks = G; steps = built_steps p G })) state steps ≡ record { answer = a; state = state'; steps = steps' }
    → layers_built_from (x >>= λ G. accepted (record { problem = p; picks = G; layers = built_numbers p G })) state steps ends ≡ record { answer = a; state = state'; steps = steps'; ends = ends }
unfolding built_from layers_built_from ◌>>=◌
refused_by p (refused j at) state steps ends a state' steps' k place e h = ap (λ (b : StepsBuilt). record { answer = b.answer; state = b.state; steps = b.steps; ends = ends }) h
refused_by p (accepted G) state steps ends a state' steps' k place e h = absurd (refused_accepted (sym e ∙ sym (ap (λ (b : StepsBuilt). b.answer) h)))

pub gives_refused : (c : Case) (F : List Tuple) (state steps ends : List ℕ) (e : Refusal) (state' steps' : List ℕ) → Gives c (problem_of c) F state steps (Err e) state' steps'
    → GivesLayers c (problem_of c) F state steps ends (Err e) state' steps' ends
unfolding planned layered
gives_refused c F state steps ends e state' steps' g =
    refused_by (problem_of c) (decided c (problem_of c) F) state steps ends (result_of (Err e)) state' steps' (number_of e.cause) e.place refl (g [])

-- ---- picks of which the rule is true
built_by : (x : Result (List Tuple)) (p : Problem) (state steps : List ℕ) (k : ℕ) (state' steps' : List ℕ)
    → built_from (x >>= λ G. accepted (record { labels = []; problem = p; picks = G; steps = built_steps p G })) state steps ≡ record { answer = accepted k; state = state'; steps = steps' }
    → (G : List Tuple) × (x ≡ accepted G) × (k ≡ length (built_steps p G)) × (state' ≡ written (state_words p (run p (built_steps p G)).state) state) × (steps' ≡ written (built_steps p G) steps)
unfolding built_from ◌>>=◌
built_by (refused j at) p state steps k state' steps' h = absurd (refused_accepted (ap (λ (b : StepsBuilt). b.answer) h))
built_by (accepted G) p state steps k state' steps' h =
    (G, refl, sym (accepted_eq _ _ (ap (λ (b : StepsBuilt). b.answer) h)), sym (ap (λ (b : StepsBuilt). b.state) h), sym (ap (λ (b : StepsBuilt). b.steps) h))

taken_as_text : (p : Problem) (F G : List Tuple) → take_picks p (as_text []) F ≡ accepted G → F ≡ G
unfolding take_picks
taken_as_text p F G e = accepted_eq F G e

alone_is : (x : Option Relation) → x ≡ none → T (not (is_some x))
unfolding is_some
alone_is x e = rw e tt

module _ (c : Case) (A : Accepted c) (F : List Tuple) (picks : are_picks c F ≡ true) (plain : c.question.every ≡ none) where
  abbrev p : Problem
  p = problem_of c

  placed_by : are_of_kinds c F ≡ true → rule_is_true c F ≡ true → (state steps ends : List ℕ) (n : ℕ) (state' steps' ends' : List ℕ)
      → state' ≡ written (state_words p (run p (built_steps p F)).state) state → n ≡ length (built_numbers p F) → steps' ≡ written (flat (built_numbers p F)) steps
      → ends' ≡ written (ends_from zero (built_numbers p F)) ends → decided c p F ≡ accepted F → GivesLayers c p F state steps ends (Ok n) state' steps' ends'
  unfolding layered layers_built_from ◌>>=◌ problem_of problem_with
  placed_by kinds t state steps ends n state' steps' ends' a b d e g =
      let K = tested_kinds c A F (picks_inside c A F (T_of picks)) (T_of kinds) in
      let none_there : NoEvery p = alone_is c.question.every plain in
      let holds = subst (λ (P : List Tuple). T (tree_holds p.source P (λ _. zero) p.root)) (with_zero p (good c A) F)
      (rule_everywhere c A F (T_of t) zero (subst (λ (m : ℕ). zero < m) (sym (one_value p (good c A) none_there)) (omega arith))) in
      let q : (run_layers p (built_numbers p F)).state ≡ (run p (built_steps p F)).state = ap (λ (r : Run). r.state) (layers_run p (good c A) none_there F K holds) in
      rw (g, q, a, b, d, e) refl

-- what placing the built steps gives
abbrev pub PlacedAs : (c : Case) (F : List Tuple) (old ends : List ℕ) (n : ℕ) (steps' ends' : List ℕ) → Type 0
PlacedAs c F old ends n steps' ends' =
    (n ≡ length (built_numbers (problem_of c) F)) × (steps' ≡ written (flat (built_numbers (problem_of c) F)) old) × (ends' ≡ written (ends_from zero (built_numbers (problem_of c) F)) ends)

pub gives_placed : (c : Case) (F : List Tuple) (table facts words : List ℕ) (atoms : ℕ) (state steps ends : List ℕ) → Prepared c F table facts words atoms (length steps) → c.question.every ≡ none
    → actions (problem_of c) ≤ 4194304 → (case_window (problem_of c)).upper < 1024
    → (atoms + 63) / 64 ≤ length state → (k : ℕ) (state' steps' : List ℕ) → Gives c (problem_of c) F state steps (Ok k) state' steps'
    → (n : ℕ) (steps'' ends' : List ℕ)
    → (Placeable c F table atoms → state' ≡ written (state_words (problem_of c) (run (problem_of c) (built_steps (problem_of c) F)).state) state → state_length (problem_of c) ≤ length state
    → steps' ≡ written (built_steps (problem_of c) F) steps → length (built_steps (problem_of c) F) ≤ length steps → min k atoms ≡ length (built_steps (problem_of c) F)
    → PlacedAs c F steps ends n steps'' ends')
    → GivesLayers c (problem_of c) F state steps ends (Ok n) state' steps'' ends'
unfolding planned decided state_length words_for problem_of problem_with
gives_placed c F table facts words atoms state steps ends P plain few levels room k state' steps' g n steps'' ends' placed =
    let (G, e, count, s, t) = built_by (decided c (problem_of c) F) (problem_of c) state steps k state' steps' (g []) in
    let (took, kinds, holds) = satisfying_parts c (problem_of c) (as_text []) F G e in
    let q : G ≡ F = sym (taken_as_text (problem_of c) F G took) in
    let kinds' : are_of_kinds c F ≡ true = subst (λ (H : List Tuple). are_of_kinds c H ≡ true) q kinds in
    let holds' : rule_is_true c F ≡ true = subst (λ (H : List Tuple). rule_is_true c H ≡ true) q holds in
    let s' = subst (λ (H : List Tuple). state' ≡ written (state_words (problem_of c) (run (problem_of c) (built_steps (problem_of c) H)).state) state) q s in
    let t' = subst (λ (H : List Tuple). steps' ≡ written (built_steps (problem_of c) H) steps) q t in
    let count' = subst (λ (H : List Tuple). k ≡ length (built_steps (problem_of c) H)) q count in
    let M : Placeable c F table atoms = record {
      case = P.case;
      picks = P.picks;
      kinds = sym (kinds_hold c F kinds');
      holds = holds';
      alone = plain;
      is = P.is;
      atoms_are = P.atoms_are;
      few = few;
      levels_few = levels;
    } in
    let (x, y) = count_case c P.case F P.picks kinds' in
    let z = bound_below (problem_of c) (good c P.case) (alone_is c.question.every plain) in
    let (a, e₂, d) = placed M s' (subst (λ (m : ℕ). (m + 63) / 64 ≤ length state) P.atoms_are room) t' (omega (arith, P.steps_room)) (omega (arith, P.atoms_are)) in
    placed_by c P.case F P.picks plain kinds' holds' state steps ends n state' steps'' ends' s' a e₂ d (e ∙ ap accepted q)
