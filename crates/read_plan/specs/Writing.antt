-- The steps of a plan's lines, as far as they are written. Assumes nothing.
use Rattle.std.specs.Prelude.{Ok, Err}
use Rattle.std.specs.Prelude as P
use Rattle.refusal.specs.declared.Cause.TheVariants.{BeyondPddl}
use Rattle.refusal.specs.declared.Refusal.{Refusal}
use Rattle.refusal.specs.Numbers.{number_of}
use Rattle.std.specs.Prelude.{Some, None}
use Rattle.std.specs.Prelude.{ℕ, zero, suc, ◌+◌, ◌-◌, ◌≤◌, ◌<◌, ◌≡◌, length, set}
use Rattle.std.proofs.Math.Path.{refl, sym, subst}
use Rattle.std.proofs.Common.{ap, ◌∙◌, arith, length-set}
use mathlib.Core.List.{List, [], ◌∷◌}
use Rattle.std.proofs.Math.Seq.{slice}
use Rattle.definitions.specs.Sheet.Text.{split}
use Rattle.definitions.specs.Refusal.{Result, refused, accepted}
use Rattle.definitions.specs.Problem.Truth.{Case}
use Rattle.definitions.specs.Problem.Atoms.{problem_of}
use Rattle.definitions.specs.Reply.Pddl.{folded, PlanLine, read_plan_lines, step_from, steps_from}
use Rattle.read_text.specs.Spans.{index_of}
use Rattle.print_line.specs.Printed.{print}
use Rattle.read_plan.specs.Lines.{read_from, read_first, read_within, turn, Turn, Wrote, wrote_none, wrote_more, wrote_stop, wrote_all}
use Rattle.read_plan.specs.Numbers.{told}
use Rattle.read_plan.specs.Tails.{Posed}

-- how reading the steps ends: a refusal, or the numbers written
unfoldable pub StepsAs : Result (List ℕ) → P.Result ℕ Refusal → (old new : List ℕ) → Type 0
StepsAs (refused k at) (Err e) old new = (number_of e.cause ≡ k) × (e.place ≡ at)
StepsAs (refused k at) (Ok count) old new = ⊥
StepsAs (accepted ks) (Err e) old new = ⊥
StepsAs (accepted ks) (Ok count) old new = (count ≡ length ks) × (new ≡ print old 0 ks)

-- of every case that the table may be of
abbrev pub StepsEnd : (question names w s : List ℕ) → P.Result ℕ Refusal → (old new : List ℕ) → Type 0
StepsEnd question names w s r old new =
    (c : Case) → Posed c question names w → (ls : List PlanLine) → read_plan_lines s ≡ accepted ls
    → StepsAs (steps_from c (problem_of c) ls) r old new

pub record Came (c : Case) (s : List ℕ) (ls : List PlanLine) (old : List ℕ) (at count : ℕ) (out : List ℕ) : Type 0 where
  pub before : List PlanLine
  pub rest : read_from s at before ≡ accepted ls
  pub wrote : Wrote c (problem_of c) before old count out

unfoldable pub Goes : (question names w s old : List ℕ) (at count : ℕ) (out : List ℕ) → Type 0
Goes question names w s old at count out = (c : Case) → Posed c question names w → (ls : List PlanLine) → read_plan_lines s ≡ accepted ls
    → Came c s ls old at count out

pub goes_first : (question names w s old : List ℕ) → Goes question names w s old 0 0 old
unfolding Goes
goes_first question names w s old c P ls e = record { before = []; rest = sym (read_first s (read_within s ls e)) ∙ e; wrote = wrote_none c (problem_of c) old }

module _ (question names w s old : List ℕ) (at count : ℕ) (out : List ℕ) (G : Goes question names w s old at count out) where
  module _ (end : ℕ) (here : at < length s) (q : end ≡ at + index_of 10 (slice at (length s) s)) where
    turned : (c : Case) (P : Posed c question names w) (ls : List PlanLine) (e : read_plan_lines s ≡ accepted ls) (C : Came c s ls old at count out)
        → Turn s ls at end C.before
    turned c P ls e C = turn s ls at end here q C.before C.rest

    pub line_whole : (c : Case) → Posed c question names w → (ls : List PlanLine) → read_plan_lines s ≡ accepted ls → (end < length s) × (at + 2 ≤ end)
    unfolding Goes
    line_whole c P ls e = let t = turned c P ls e (G c P ls e) in (t.ended, t.wide)

    pub goes_on : (m : ℕ) → ((c : Case) → Posed c question names w → told (Some m) ≡ step_from c (problem_of c) (split 32 (folded (slice (at + 1) (end - 1) s))))
        → (new : List ℕ) → new ≡ set out count m → Goes question names w s old (end + 1) (count + 1) new
    unfolding Goes told
    goes_on m h new z c P ls e =
        let C = G c P ls e in
        subst (λ (x : List ℕ). Came c s ls old (end + 1) (count + 1) x) (sym z)
        (record { before = _; rest = (turned c P ls e C).next; wrote = wrote_more c (problem_of c) C.before old count out C.wrote at _ m (sym (h c P)) })

    pub goes_stop : ((c : Case) → Posed c question names w → told None ≡ step_from c (problem_of c) (split 32 (folded (slice (at + 1) (end - 1) s))))
        → StepsEnd question names w s (Err (record { cause = BeyondPddl; place = at })) old out
    unfolding Goes told StepsAs
    goes_stop h c P ls e =
        let C = G c P ls e in
        let z = wrote_stop c (problem_of c) C.before old count out C.wrote at _ s ls (end + 1) (turned c P ls e C).next (sym (h c P)) in
        subst (λ (r : Result (List ℕ)). StepsAs r (Err (record { cause = BeyondPddl; place = at })) old out) (sym z) (refl, refl)

  pub goes_all : at ≡ length s → StepsEnd question names w s (Ok count) old out
  unfolding Goes StepsAs
  goes_all h c P ls e =
      let C = G c P ls e in
      let W = wrote_all c (problem_of c) s ls C.before old at count out C.rest h C.wrote in
      subst (λ (r : Result (List ℕ)). StepsAs r (Ok count) old out) (sym W.are) (sym W.many, W.table)

-- a number beyond the table is written nowhere
pub set_past : (out : List ℕ) (i x : ℕ) → length out ≤ i → out ≡ set out i x
set_past [] i x h = refl
set_past (y ∷ out) zero x h = absurd (omega arith)
set_past (y ∷ out) (suc i) x h = ap (λ (l : List ℕ). y ∷ l) (set_past out i x (omega arith))

pub set_room : (out new : List ℕ) (i x n : ℕ) → new ≡ set out i x → length out ≡ n → length new ≡ n
set_room out new i x n e h = ap length e ∙ length-set out i x ∙ h
