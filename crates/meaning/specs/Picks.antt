-- Picks in the words of the definitions: what the readers give and what soundness gives are picks.
use Rattle.std.specs.Prelude.{ℕ, ◌+◌, ◌-◌, ◌<◌, ◌≤◌, ◌≡◌, Bool, true, false, ◌&&◌, eqb, leb, get_or}
use Rattle.std.proofs.Math.Path.{sym, ap, subst}
use Rattle.std.proofs.Common.{◌∙◌, arith, lt→ltb, le→leb, eq-eqb}
use mathlib.Core.List.{List, Memᴰ}
use Rattle.std.proofs.Math.Dec.{T, ltb, ltb→lt, leb→le, eqb→eq}
use Rattle.std.proofs.Math.ListN.{length}
use Rattle.definitions.specs.Lists.{all}
use Rattle.definitions.specs.Sheet.Relations.{Relation, Tuple, are_distinct, is_chosen}
use Rattle.definitions.specs.Sheet.Sheets.{first_chosen}
use Rattle.definitions.specs.Problem.Truth.{Case, is_pick, are_picks}
use Rattle.definitions.specs.Problem.Atoms.{Problem, problem_of, problem_with, relation_at}
use Rattle.laws.specs.Booleans.{T_and_l, T_and_r, T_of, and_T}
use Rattle.laws.specs.Lists.{all_at, all_of}
use Rattle.laws.specs.Numbers.{no_relation}
use Rattle.laws.specs.Reader.{Accepted, TupleFits, TuplesFit}
use Rattle.meaning.specs.Sound.{Inside}
use Rattle.meaning.specs.Grounded.{good, chosen_at, chosen_index, chosen_is}

four : (a b c d : Bool) → T (a && b && c && d) → T a × T b × T c × T d
four true true true d h = (tt, tt, tt, h)
four true true false d h = absurd h
four true false c d h = absurd h
four false b c d h = absurd h

four_of : (a b c d : Bool) → T a → T b → T c → T d → T (a && b && c && d)
four_of a b c d h i j k = and_T (a && b && c) d (and_T (a && b) c (and_T a b h i) j) k

module _ (c : Case) where
  abbrev fits : Tuple → Type 0
  fits t = TupleFits c.question.chosen (first_chosen c.question) c.site.size t

  abbrev kind_of : Tuple → Relation
  kind_of t = get_or c.question.chosen (t.relation - first_chosen c.question) no_relation

  pub fits_pick : (t : Tuple) → fits t → T (is_pick c t)
  unfolding is_pick
  fits_pick t f =
      let i : t.relation - first_chosen c.question ≡ f.index = omega (arith, f.numbered) in
      let low : first_chosen c.question ≤ t.relation = omega (arith, f.numbered) in
      let high : t.relation < first_chosen c.question + length c.question.chosen = omega (arith, f.numbered, f.inside) in
      let long : length t.places ≡ (kind_of t).arity = f.length_arity ∙ ap (λ (j : ℕ). (get_or c.question.chosen j no_relation).arity) (sym i) in
      four_of (leb (first_chosen c.question) t.relation) (ltb t.relation (first_chosen c.question + length c.question.chosen)) (eqb (length t.places) (kind_of t).arity) (all (λ x. ltb x c.site.size) t.places)
      (le→leb (first_chosen c.question) t.relation low) (lt→ltb t.relation (first_chosen c.question + length c.question.chosen) high) (T_of (eq-eqb (length t.places) (kind_of t).arity long)) f.small

  pub pick_fits : (t : Tuple) → T (is_pick c t) → fits t
  unfolding is_pick
  pick_fits t h =
      let (a, b, d, e) = four (leb (first_chosen c.question) t.relation) (ltb t.relation (first_chosen c.question + length c.question.chosen)) (eqb (length t.places) (kind_of t).arity) (all (λ x. ltb x c.site.size) t.places) h in
      let low : first_chosen c.question ≤ t.relation = leb→le (first_chosen c.question) t.relation a in
      let high : t.relation < first_chosen c.question + length c.question.chosen = ltb→lt t.relation (first_chosen c.question + length c.question.chosen) b in
      record { index = t.relation - first_chosen c.question; numbered = omega arith; inside = omega arith; length_arity = eqb→eq (length t.places) (kind_of t).arity d; small = e }

  pub fit_picks : (F : List Tuple) → TuplesFit c.question.chosen (first_chosen c.question) c.site.size F → T (are_picks c F)
  unfolding are_picks
  fit_picks F f = and_T (all (is_pick c) F) _ (all_of (is_pick c) F (λ t m. fits_pick t (f.each_fits t m))) f.distinct

  pub picks_distinct : (F : List Tuple) → T (are_picks c F) → T (are_distinct F)
  unfolding are_picks
  picks_distinct F h = T_and_r (all (is_pick c) F) _ h

  module _ (A : Accepted c) where
    abbrev p : Problem
    p = problem_of c

    pub fits_inside : (t : Tuple) → fits t → Inside p (good c A) t
    unfolding problem_of problem_with
    fits_inside t f =
        let h = chosen_is c A f.index f.inside in
        let e = sym f.numbered in
        record {
          known = subst (λ (r : ℕ). r < length p.relations) e h.0;
          chosen = subst (λ (r : ℕ). T (is_chosen (relation_at p r).kind)) e h.1;
          long = f.length_arity ∙ ap (λ (k : Relation). k.arity) (sym (chosen_at c A f.index f.inside) ∙ ap (relation_at p) e);
          small = f.small;
        }

    pub inside_fits : (t : Tuple) → Inside p (good c A) t → fits t
    unfolding problem_of problem_with
    inside_fits t i =
        let (j, e, l) = chosen_index c A t.relation i.known i.chosen in
        record { index = j; numbered = e; inside = l; length_arity = i.long ∙ ap (λ (k : Relation). k.arity) (ap (relation_at p) e ∙ chosen_at c A j l); small = i.small }

    pub picks_inside : (F : List Tuple) → T (are_picks c F) → (t : Tuple) → Memᴰ t F → Inside p (good c A) t
    unfolding are_picks
    picks_inside F h t m = fits_inside t (pick_fits t (all_at (is_pick c) F (T_and_l (all (is_pick c) F) _ h) t m))

    pub inside_picks : (F : List Tuple) → ((t : Tuple) → Memᴰ t F → Inside p (good c A) t) → T (are_distinct F) → T (are_picks c F)
    unfolding are_picks
    inside_picks F h d = and_T (all (is_pick c) F) _ (all_of (is_pick c) F (λ t m. fits_pick t (inside_fits t (h t m)))) d
