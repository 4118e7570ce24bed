-- Judging answers as building does with room enough.
use Rattle.std.specs.Prelude.{ℕ, zero, ◌≤◌, ◌≡◌, true, List, length}
use Rattle.std.proofs.Math.Path.{refl}
use Rattle.std.proofs.Common.{le-ltb}
use Rattle.definitions.specs.Limits.{CaseLimits}
use Rattle.definitions.specs.Refusal.{Result, refused, accepted, ◌>>=◌, refuse_if}
use Rattle.definitions.specs.Sheet.Relations.{Tuple}
use Rattle.definitions.specs.Sheet.Sheets.{Label}
use Rattle.definitions.specs.Problem.Truth.{Case, are_of_kinds, rule_is_true}
use Rattle.definitions.specs.Problem.Atoms.{Problem}
use Rattle.definitions.specs.Problem.Built.{bound}
use Rattle.definitions.specs.Reply.Outcome.{CaseRead, read_filed, ground, read_problem, asked, nothing, room_for, state_length, ThirdInput, text_picks, picks_room, take_picks, kind_refusal, satisfying, plan, built_from, build_steps}
use Rattle.definitions.specs.Reply.Judgement.{judge, forget}
use Rattle.laws.specs.Results.{bind_parts}
use Rattle.laws.specs.Asked.{filed_case, problem_from}
use Rattle.meaning.specs.Building.{picks_given, kinds_hold}

-- the state and the steps have room for the problem, where one is read
abbrev pub RoomEnough : CaseLimits → (question site state steps : List ℕ) → Type 0
RoomEnough L question site state steps = (p : Problem) → read_problem L question site ≡ accepted p → (state_length p ≤ length state) × (bound p ≤ length steps)

there : (needed room : ℕ) → needed ≤ room → room_for needed room ≡ accepted tt
unfolding room_for refuse_if
there needed room h = rw (le-ltb room needed h) refl

module _ (L : CaseLimits) (question site : List ℕ) (picks : ThirdInput) (state steps : List ℕ) (rooms : RoomEnough L question site state steps) where
  abbrev Alike : Type 0
  Alike = judge L question site picks ≡ forget (build_steps L question site picks state steps).answer

  -- each is asked for the same, one after another; before the picks no buffer but theirs is asked for
  module _ (c : CaseRead) (e : read_filed L question site ≡ accepted c) (F : List Tuple) (t : text_picks c.case c.labels picks ≡ accepted F) where
    taken : (p : Problem) → ground L c.case ≡ accepted p → (u : Unit {0}) → picks_room p picks ≡ accepted u → (x : Result (List Tuple)) → satisfying c.case p picks F ≡ x → Alike
    unfolding judge build_steps plan asked nothing built_from forget ◌>>=◌
    taken p g u r (refused k place) q =
        let (m, n) = rooms p (problem_from L question site c.case p (filed_case L question site c e) g) in
        rw (e, t, g, r, there (state_length p) (length state) m, there (bound p) (length steps) n, q) refl
    taken p g u r (accepted G) q =
        let (m, n) = rooms p (problem_from L question site c.case p (filed_case L question site c e) g) in
        rw (e, t, g, r, there (state_length p) (length state) m, there (bound p) (length steps) n, q) refl

    roomy : (p : Problem) → ground L c.case ≡ accepted p → (x : Result (Unit {0})) → picks_room p picks ≡ x → Alike
    unfolding judge build_steps plan asked nothing built_from forget ◌>>=◌
    roomy p g (refused k place) r = rw (e, t, g, r) refl
    roomy p g (accepted u) r = taken p g u r (satisfying c.case p picks F) refl

    grounded : (x : Result Problem) → ground L c.case ≡ x → Alike
    unfolding judge build_steps plan asked nothing built_from forget ◌>>=◌
    grounded (refused k place) g = rw (e, t, g) refl
    grounded (accepted p) g = roomy p g (picks_room p picks) refl

  texts : (c : CaseRead) → read_filed L question site ≡ accepted c → (x : Result (List Tuple)) → text_picks c.case c.labels picks ≡ x → Alike
  unfolding judge build_steps plan asked nothing built_from forget ◌>>=◌
  texts c e (refused k place) t = rw (e, t) refl
  texts c e (accepted F) t = grounded c e F t (ground L c.case) refl

  cases : (x : Result CaseRead) → read_filed L question site ≡ x → Alike
  unfolding judge build_steps plan asked built_from forget ◌>>=◌
  cases (refused k place) e = rw e refl
  cases (accepted c) e = texts c e (text_picks c.case c.labels picks) refl

  pub alike : Alike
  alike = cases (read_filed L question site) refl

-- picks of the declared kinds of which the rule is true are judged with a yes
pub judged_yes : (L : CaseLimits) (question site : List ℕ) (g : ThirdInput) (c : Case) (labels : List Label) (p : Problem) (F : List Tuple)
    → read_filed L question site ≡ accepted (record { case = c; labels = labels }) → ground L c ≡ accepted p → picks_given c labels p g ≡ accepted F → are_of_kinds c F ≡ true → rule_is_true c F ≡ true → judge L question site g ≡ accepted zero
unfolding judge satisfying asked nothing kind_refusal refuse_if ◌>>=◌
judged_yes L question site g c labels p F e h t k r =
    let (read, a, x) = bind_parts (text_picks c labels g) _ F t in
    let (u, b, y) = bind_parts (picks_room p g) _ F x in
    from_parts read a u b y
  where
    from_parts : (read : List Tuple) → text_picks c labels g ≡ accepted read → (u : Unit {0}) → picks_room p g ≡ accepted u → take_picks p g read ≡ accepted F → judge L question site g ≡ accepted zero
    from_parts read a u b y = rw (e, a, h, b, y, kinds_hold c F k, r) refl
