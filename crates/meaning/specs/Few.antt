-- How many picks and steps a sheet can hold: a line of either has at least 7 bytes. So what the desk program prints is bounded by what it
-- read.
use Rattle.std.specs.Prelude.{ℕ, ◌+◌, ◌*◌, ◌≤◌, ◌≡◌, true, false, leb}
use Rattle.std.proofs.Math.Path.{refl, subst}
use Rattle.std.proofs.Common.{sym, ap, ap₂, ◌∙◌, arith, leb→le, length-append}
use Rattle.std.proofs.Math.Option.{Option, none, some}
use mathlib.Core.List.{List, [], ◌∷◌, ◌++◌, map}
use Rattle.std.proofs.Math.ListN.{length}
use Rattle.std.proofs.lemmas.List.{length-map}
use Rattle.definitions.specs.Limits.{CaseLimits, early, desk_words}
use Rattle.definitions.specs.Lists.{option, flat_map, sum}
use Rattle.definitions.specs.Sheet.Text.{bytes, split, is_between}
use Rattle.definitions.specs.Refusal.{accepted}
use Rattle.definitions.specs.Sheet.Relations.{Relation, Tuple}
use Rattle.definitions.specs.Sheet.Sheets.{Entry, rel, type, choose, every, rule, size, label, member, fact, pick, step, entry_of, Label, add_to_picks, picks_line, read_picks, read_steps}
use Rattle.definitions.specs.Problem.Atoms.{Problem}
use Rattle.definitions.specs.Problem.Actions.{Action, set, begin_proof, prove_and, prove_or, prove_exists, prove_forall, prove_goal, round_end, mark_in, mark_out, action_at}
use Rattle.definitions.specs.Problem.Strips.{run, pick_of, picks_of}
use Rattle.definitions.specs.Problem.Built.{chosen_numbers, picked_rows}
use Rattle.definitions.specs.Reply.Outcome.{as_text, nothing, room_for, state_length, take_steps, ready_to_run, Plan, plan}
use Rattle.definitions.specs.Reply.Desk.{print_line, checked_plan}
use Rattle.laws.specs.Booleans.{T_and_l}
use Rattle.laws.specs.Results.{accepted_eq, bind_parts, refused_accepted}
use Rattle.laws.specs.Repeats.{pigeon}
use Rattle.laws.specs.Asked
use Rattle.meaning.specs.Means.{Good}
use Rattle.meaning.specs.Pairs.{Pair, tuple_of, pairs, picked_in, tuples_once}
use Rattle.meaning.specs.Building.{given_text, plan_tells}
use Rattle.laws.specs.Lines.{LineByLine}
use Rattle.laws.specs.Told.{Says, line_told, open_told, text_told, steps_told, tuple_told}
use Rattle.laws.specs.Long.{steps_long}

-- ---- lines of at least 7 bytes
lines_long : {A : Type 0} (s : List A) (text : List ℕ) → LineByLine (λ _ fs. 7 ≤ length (print_line fs)) s text → 7 * length s ≤ length text
unfolding LineByLine
lines_long [] text h = omega arith
lines_long (a ∷ s) text (fs, l, (rest, e, h)) = let i = lines_long s rest h in let j = ap length e ∙ length-append (print_line fs) rest in omega arith

tuple_long : (word name g : List ℕ) (gs : List (List ℕ)) → length word ≡ 4 → 7 ≤ length (print_line (word ∷ name ∷ g ∷ gs))
unfolding print_line
tuple_long word name g gs e =
    let a = length-append word (9 ∷ print_line (name ∷ g ∷ gs)) in
    let b = length-append name (9 ∷ print_line (g ∷ gs)) in
    let c = field_long g gs in
    omega arith
  where
    field_long : (g : List ℕ) (gs : List (List ℕ)) → 1 ≤ length (print_line (g ∷ gs))
    field_long g [] = let a = length-append g (10 ∷ []) in omega arith
    field_long g (h ∷ gs) = let a = length-append g (9 ∷ print_line (h ∷ gs)) in omega arith

-- ---- steps, and the picks that they set
pub steps_few : (text ks : List ℕ) → read_steps text ≡ accepted ks → 7 * length ks ≤ length text
steps_few text ks e = let (f, l, g) = steps_told text ks e in subst (λ (t : List ℕ). 7 * length ks ≤ length t) (sym f) (steps_long ks)

pub set_few : (p : Problem) (ks : List ℕ) → length (picks_of p ks) ≤ length ks
unfolding picks_of flat_map option pick_of
set_few p [] = omega arith
set_few p (k ∷ ks) =
    let a = length-append (option (action_at p k) [] (pick_of p)) (picks_of p ks) in
    omega (arith, one (action_at p k), set_few p ks)
  where
    one : (o : Option Action) → length (option o [] (pick_of p)) ≤ 1
    one none = omega arith
    one (some (set r row)) = omega arith
    one (some begin_proof) = omega arith
    one (some (prove_and v row)) = omega arith
    one (some (prove_or v row i)) = omega arith
    one (some (prove_exists v row x)) = omega arith
    one (some (prove_forall v row z)) = omega arith
    one (some prove_goal) = omega arith
    one (some round_end) = omega arith
    one (some (mark_in r row)) = omega arith
    one (some (mark_out r row)) = omega arith

-- ---- picks
module _ (rs : List Relation) (first n : ℕ) (labels : List Label) where
  add_long : (acc : List Tuple) (at : ℕ) (fs : List (List ℕ)) (e : Entry) (m : List Tuple) → Says fs e → add_to_picks rs first n labels acc at e ≡ accepted m → (t : Tuple) × (m ≡ acc ++ (t ∷ [])) × (7 ≤ length (print_line fs))
  unfolding add_to_picks Says is_between
  add_long acc at fs (rel name a) m s e = absurd (refused_accepted e)
  add_long acc at fs (type name) m s e = absurd (refused_accepted e)
  add_long acc at fs (choose name a k types) m s e = absurd (refused_accepted e)
  add_long acc at fs (every name a) m s e = absurd (refused_accepted e)
  add_long acc at fs (rule f) m s e = absurd (refused_accepted e)
  add_long acc at fs (size k) m s e = absurd (refused_accepted e)
  add_long acc at fs (label x name) m s e = absurd (refused_accepted e)
  add_long acc at fs (member t x) m s e = absurd (refused_accepted e)
  add_long acc at fs (fact name es) m s e = absurd (refused_accepted e)
  add_long acc at fs (pick name es) m (gs, q, r, b) e =
      let A = tuple_told rs first n labels acc at name es m e in
      (A.tuple, A.added, subst (λ (x : List (List ℕ)). 7 ≤ length (print_line x)) (sym q) (by_list gs (leb→le 1 (length gs) (T_and_l (leb 1 (length gs)) _ b))))
    where
      by_list : (gs : List (List ℕ)) → 1 ≤ length gs → 7 ≤ length (print_line (bytes "pick" ∷ name ∷ gs))
      by_list [] l = absurd (omega arith)
      by_list (g ∷ gs) l = tuple_long (bytes "pick") name g gs refl
  add_long acc at fs (step k) m s e = absurd (refused_accepted e)

  pub picks_few : (text : List ℕ) (F : List Tuple) → read_picks rs first n labels text ≡ accepted F → 7 * length F ≤ length text
  unfolding read_picks picks_line
  picks_few text F e =
      let (h, l) = text_told (picks_line rs first n labels) (λ _ fs. 7 ≤ length (print_line fs))
      (λ acc at w m h. let (e, f, g) = bind_parts (entry_of (record { at = at; ended = true; content = w })) (add_to_picks rs first n labels acc at) m h in add_long acc at (split 9 w) e m (line_told at w e f) g)
      (λ acc at w m h. let (e, f, g) = bind_parts (entry_of (record { at = at; ended = false; content = w })) (add_to_picks rs first n labels acc at) m h in open_told at w e f)
      text F e in
      lines_long F text h

-- ---- of each relation the rows that are picked: together no more than the picks
rows_length : (p : Problem) (F : List Tuple) (rs : List ℕ) → length {A = Pair} (flat_map (λ r. map (λ row. (r, row)) (picked_rows p F r)) rs) ≡ sum (map (λ r. length (picked_rows p F r)) rs)
unfolding flat_map sum
rows_length p F [] = refl
rows_length p F (r ∷ rs) = length-append {A = Pair} (map (λ row. (r, row)) (picked_rows p F r)) _ ∙ ap₂ ◌+◌ (length-map {B = Pair} (picked_rows p F r) (λ row. (r, row))) (rows_length p F rs)

pub rows_few : (p : Problem) (G : Good p) (F : List Tuple) → sum (map (λ r. length (picked_rows p F r)) (chosen_numbers p)) ≤ length F
unfolding pairs
rows_few p G F =
    let a = pigeon (map (tuple_of p) (pairs p F)) F (tuples_once p G F) (picked_in p F) in
    let b = length-map (pairs p F) (tuple_of p) in
    let c = rows_length p F (chosen_numbers p) in
    omega arith

-- ---- a plan from a text of picks, and one from a text of steps
pub plan_few : (L : CaseLimits) (question site text : List ℕ) (stateRoom stepsRoom : ℕ) (b : Plan) → plan L question site (as_text text) stateRoom stepsRoom ≡ accepted b → 7 * length b.picks ≤ length text
plan_few L question site text stateRoom stepsRoom b e =
    let t = plan_tells L question site (as_text text) stateRoom stepsRoom b e in
    picks_few _ _ _ b.labels text b.picks (sym (given_text t.case b.labels b.problem text) ∙ t.given)

pub checked_few : (question site text : List ℕ) (b : Plan) → checked_plan question site text ≡ accepted b → 7 * length b.picks ≤ length text
unfolding checked_plan ready_to_run take_steps
checked_few question site text b e =
    let (r, f, e₁) = bind_parts (ready_to_run early question site (as_text text) (λ p. room_for (state_length p) desk_words)) _ b e in
    let (n, h, e₂) = bind_parts (run r.problem r.third).answer _ b e₁ in
    let q = Asked.parts early question site (λ _. take_steps (as_text text)) nothing nothing (λ p. room_for (state_length p) desk_words) r f in
    subst (λ (x : Plan). 7 * length x.picks ≤ length text) (accepted_eq _ b e₂) (let i = steps_few text r.third q.is_third in let j = set_few r.problem r.third in omega arith)
