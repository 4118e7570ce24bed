-- What the call answers and leaves, by the definitions, and one law for each place where it ends; the words as they are written.
use Rattle.std.specs.Prelude.{ℕ, zero, suc, ◌+◌, ◌<◌, ◌≤◌, ◌≡◌, Bool, true, false, get_or, set}
use Rattle.std.proofs.Math.Path.{refl, ap}
use Rattle.std.proofs.Common.{sym, ◌∙◌, add-zero, arith, ext_get_or, get_or-set_same, get_or-set_other}
use mathlib.Core.List.{List, ◌++◌, map}
use Rattle.std.proofs.Math.Decide.{ℕ_discrete}
use Rattle.std.proofs.Math.ListN.{length, drop, length-map}
use Rattle.definitions.specs.Limits.{CaseLimits}
use Rattle.definitions.specs.Lists.{is_some, from}
use Rattle.definitions.specs.Refusal.{Result, refused, accepted, refuse_if}
use Rattle.definitions.specs.Problem.Truth.{Case}
use Rattle.definitions.specs.Problem.Atoms.{Problem, problem_of}
use Rattle.definitions.specs.Problem.Built.{chosen_numbers}
use Rattle.definitions.specs.Reply.Outcome.{read_case, ground, without_every, asked, nothing, room_for, written}
use Rattle.definitions.specs.Reply.Allowance
use Rattle.laws.specs.Asked
use Rattle.laws.specs.Alone
use Rattle.laws.specs.Lists.{length_from}
use Rattle.laws.specs.Reader.{Accepted as Accepts, gives_if, case_fits}
use Rattle.meaning.specs.Means.{Good}
use Rattle.rule_nodes.specs.declared.Nodes.{Nodes}
use Rattle.problem_table.specs.NeedLaws.{get_d_map}
use Rattle.problem_layout.specs.declared.Relations.{Relations}
use Rattle.problem_layout.specs.Laid.{Inputs}
use Rattle.read_sheets.specs.declared.Opened.{Opened}
use Rattle.read_sheets.specs.Opening.{Holds}
use Rattle.refusal.specs.declared.Refusal.{Refusal}
use Rattle.refusal.specs.declared.Cause.TheVariants.{HasEvery, ShortBuffer}
use Rattle.refusal.specs.Numbers.{number_of}
use Rattle.std.specs.Prelude.{Ok, Err}
use Rattle.open_case.specs.Known.{room_short, room_there}
use Rattle.open_case.specs.Replies.{Reply, result_of}
use Rattle.step_picks.specs.Picked.{chosen_numbers_lem}

-- what the call answers and leaves
abbrev pub Allows : CaseLimits → (question site old : List ℕ) → Reply → List ℕ → Type 0
Allows L question site old r new =
    (result_of r ≡ (Allowance.allowances L question site old).answer) × (new ≡ (Allowance.allowances L question site old).allowances)

module _ (L : CaseLimits) (question site old : List ℕ) where
  abbrev rooms : Problem → Result (Unit {0})
  rooms p = room_for (length (chosen_numbers p)) (length old)

  refused_with : (e : Refusal) → asked L question site nothing nothing without_every rooms ≡ refused (number_of e.cause) e.place → Allows L question site old (Err e) old
  unfolding Allowance.allowances Allowance.allowed_from
  refused_with e h = (rw h refl, rw h refl)

  pub allows_refused : (e : Refusal) → read_case L question site ≡ refused (number_of e.cause) e.place → Allows L question site old (Err e) old
  allows_refused e h = refused_with e (Asked.case_refused L question site nothing nothing without_every rooms _ _ h)

  module _ (o : Opened) (facts : ℕ → Bool) (its : (c : Case) × (read_case L question site ≡ accepted c) × Holds question c o facts) where
    abbrev p : Problem
    p = problem_of its.0

    pub allows_over : (e : Refusal) → ground L its.0 ≡ refused (number_of e.cause) e.place → Allows L question site old (Err e) old
    allows_over e g = refused_with e (Alone.limits_refused L question site nothing nothing without_every rooms its.0 its.1 tt (λ _. Asked.untested _) (Asked.untested its.0) (number_of e.cause) e.place g)

    module _ (grounded : ground L its.0 ≡ accepted p) (every : Bool) (told : every ≡ is_some its.0.question.every) where
      tested : without_every its.0 ≡ refuse_if every 23 0
      unfolding without_every
      tested = ap (λ (b : Bool). refuse_if b 23 0) (sym told)

      pub allows_every : every ≡ true → Allows L question site old (Err (record { cause = HasEvery; place = 0 })) old
      unfolding refuse_if
      allows_every e =
          let (labels, f) = Asked.case_filed L question site its.0 its.1 in
          let late : without_every its.0 ≡ refused 23 0 = tested ∙ ap (λ (b : Bool). refuse_if b 23 0) e in
          refused_with (record { cause = HasEvery; place = 0 }) (Asked.late_refused L question site nothing nothing without_every rooms _ f tt (Asked.untested _) (Asked.untested its.0) p grounded 23 0 late)

      module _ (few : L.elements ≤ 64) (alone : every ≡ false) where
        late : without_every its.0 ≡ accepted tt
        unfolding refuse_if
        late = tested ∙ ap (λ (b : Bool). refuse_if b 23 0) alone

        accepts : Accepts its.0
        accepts = gives_if Accepts (read_case L question site) its.0 its.1 (case_fits L few question site)

        numbers : chosen_numbers p ≡ from (5 + o.sig.rels) o.sig.chosen
        numbers = chosen_numbers_lem question its.0 accepts o facts its.2

        many : length (chosen_numbers p) ≡ o.sig.chosen
        many = ap length numbers ∙ length_from (5 + o.sig.rels) o.sig.chosen

        pub allows_short : length old < o.sig.chosen → Allows L question site old (Err (record { cause = ShortBuffer; place = o.sig.chosen })) old
        allows_short l =
            let (c, a, h) = its in
            let short : rooms p ≡ refused 12 o.sig.chosen = ap (λ (k : ℕ). room_for k (length old)) many ∙ room_short o.sig.chosen (length old) l in
            refused_with (record { cause = ShortBuffer; place = _ }) (Alone.room_refused L question site nothing nothing without_every rooms c a tt (λ _. Asked.untested _) (Asked.untested c) p grounded late 12 _ short)

        pub allows_written : o.sig.chosen ≤ length old → (part new : List ℕ) → ((c : Case) → Accepts c → Holds question c o facts → part ≡ map (Allowance.allowance (problem_of c)) (from (5 + o.sig.rels) o.sig.chosen))
            → new ≡ part ++ drop o.sig.chosen old → Allows L question site old (Ok 0) new
        unfolding written Allowance.allowances Allowance.allowed_from Allowance.allowances_of
        allows_written l part new e n =
            let (c, a, h) = its in
            let f = Allowance.allowance p in
            let there : rooms p ≡ accepted tt = ap (λ (k : ℕ). room_for k (length old)) many ∙ room_there o.sig.chosen (length old) l in
            let g = Alone.ready L question site nothing nothing without_every rooms c a tt (λ _. Asked.untested _) (Asked.untested c) p grounded late there in
            let b : length (map f (chosen_numbers p)) ≡ o.sig.chosen = length-map (chosen_numbers p) f ∙ many in
            (rw g refl, rw (g, b) (n ∙ ap (λ (x : List ℕ). x ++ drop o.sig.chosen old) (e c accepts h ∙ ap (map f) (sym numbers))))

-- ---- the words written one by one: the first k are the allowances of the relations from `first` on
abbrev pub Shown : ℕ → Nodes → ℕ → ℕ → List ℕ → Type 0
Shown n t first k out = (p : Problem) (w : List ℕ) (types : ℕ) (g : Relations) → Good p → Inputs p n w types g t → (j : ℕ) → j < k → get_or out j 0 ≡ Allowance.allowance p (first + j)

from_at : (a n j : ℕ) → j < n → get_or (from a n) j 0 ≡ a + j
unfolding from
from_at a zero j h = absurd (omega arith)
from_at a (suc n) zero h = sym (add-zero a)
from_at a (suc n) (suc j) h = let e = from_at (suc a) n j (omega arith) in omega arith

module _ (n : ℕ) (t : Nodes) (first : ℕ) where
  pub shown_next : (k x : ℕ) (out : List ℕ) → k < length out → ((p : Problem) (w : List ℕ) (types : ℕ) (g : Relations) → Good p → Inputs p n w types g t → x ≡ Allowance.allowance p (first + k)) → Shown n t first k out → Shown n t first (k + 1) (set out k x)
  shown_next k x out l e s p w types g G is j h = from_this (ℕ_discrete j k)
    where
      from_this : Dec (j ≡ k) → get_or (set out k x) j 0 ≡ Allowance.allowance p (first + j)
      from_this (yes q) = rw (q, get_or-set_same out k x 0 l) (e p w types g G is)
      from_this (no q) = get_or-set_other out k j x 0 q ∙ s p w types g G is j (omega arith)

  pub shown_all : (out : List ℕ) → Shown n t first (length out) out → (p : Problem) (w : List ℕ) (types : ℕ) (g : Relations) → Good p → Inputs p n w types g t → out ≡ map (Allowance.allowance p) (from first (length out))
  shown_all out s p w types g G is =
      let k = length-map (from first (length out)) (Allowance.allowance p) ∙ length_from first (length out) in
      ext_get_or 0 out (map (Allowance.allowance p) (from first (length out))) (sym k) (λ j h.
      s p w types g G is j h ∙ sym (get_d_map (Allowance.allowance p) (from first (length out)) j (let q = length_from first (length out) in omega arith) ∙ ap (Allowance.allowance p) (from_at first (length out) j h)))
