-- What the PDDL calls refuse of a case that was opened, and what is known where they do not. Assumes nothing.
use Prim.Native.Nat.{ℕ, zero, suc}
use Rattle.std.specs.Prelude.{◌≡◌, false, List, [], ◌∷◌, Ok, Err}
use Rattle.std.specs.Prelude as P
use Rattle.std.proofs.Math.Path.{refl, sym, ap}
use Rattle.std.proofs.Common.{◌∙◌, arith}
use Rattle.std.proofs.Math.Option.{none}
use Rattle.definitions.specs.Limits.{usual}
use Rattle.definitions.specs.Lists.{is_empty, is_some}
use Rattle.definitions.specs.Refusal.{Result, refused, accepted, refuse_if}
use Rattle.definitions.specs.Sheet.Sheets.{Label}
use Rattle.definitions.specs.Problem.Truth.{Case}
use Rattle.definitions.specs.Problem.Atoms.{problem_of}
use Rattle.definitions.specs.Reply.Outcome.{CaseRead, Ready, read_filed, read_case, ground, without_every, nothing}
use Rattle.definitions.specs.Reply.Pddl.{no_types, ready_for_pddl}
use Rattle.laws.specs.Asked as Order
use Rattle.refusal.specs.declared.Refusal.{Refusal}
use Rattle.refusal.specs.declared.Cause.TheVariants.{BeyondPddl, HasEvery}
use Rattle.refusal.specs.Numbers.{number_of}
use Rattle.refusal.specs.Told.{told}
use Rattle.read_names.specs.Signatures.{types_of, names_from, every_of, last_of}
use Rattle.problem_of_case.specs.declared.Sized.{Sized}
use Rattle.problem_of_case.specs.Grounds.{Tabled}
use Rattle.open_case.specs.declared.Front.{Front}
use Rattle.open_case.specs.Fronts.{Fronted}
use Rattle.open_case.specs.Known.{case_over, grounds, tabled}

-- whether PDDL can say the case, and its problem is within the limits: by its count of types, its size, and its count of `every` lines
unfoldable pub gate_by : (types : ℕ) → P.Result Sized Refusal → (every : ℕ) → P.Result Sized Refusal
gate_by (suc t) m e = Err (record { cause = BeyondPddl; place = 0 })
gate_by zero (Err r) e = Err r
gate_by zero (Ok m) (suc e) = Err (record { cause = HasEvery; place = 0 })
gate_by zero (Ok m) zero = Ok m

abbrev pub gate : Front → P.Result Sized Refusal
gate f = gate_by f.o.sig.types f.m f.o.sig.every

module _ (t : ℕ) (m : P.Result Sized Refusal) (e : ℕ) where
  pub by_types : (t ≡ 0 → ⊥) → Err (record { cause = BeyondPddl; place = 0 }) ≡ gate_by t m e
  unfolding gate_by
  by_types h = go t h
    where
      go : (t : ℕ) → (t ≡ 0 → ⊥) → Err (record { cause = BeyondPddl; place = 0 }) ≡ gate_by t m e
      go zero h = absurd (h refl)
      go (suc t) h = refl

  pub by_over : (r : Refusal) → t ≡ 0 → m ≡ Err r → Err r ≡ gate_by t m e
  unfolding gate_by
  by_over r z o = rw (z, o) refl

  module _ (s : Sized) (z : t ≡ 0) (o : m ≡ Ok s) where
    pub by_every : (e ≡ 0 → ⊥) → Err (record { cause = HasEvery; place = 0 }) ≡ gate_by t m e
    unfolding gate_by
    by_every h = rw (z, o) (go e h)
      where
        go : (e : ℕ) → (e ≡ 0 → ⊥) → Err (record { cause = HasEvery; place = 0 }) ≡ gate_by 0 (Ok s) e
        go zero h = absurd (h refl)
        go (suc e) h = refl

    pub by_none : e ≡ 0 → Ok s ≡ gate_by t m e
    unfolding gate_by
    by_none a = rw (z, o, a) refl

-- types and `every` lines, by the signature's counts
no_types_lem : (q from to : List ℕ) (i k : ℕ) → k ≡ 0 → names_from q from to i k ≡ []
unfolding names_from
no_types_lem q from to i zero e = refl
no_types_lem q from to i (suc k) e = absurd (omega arith)

some_types : (q from to : List ℕ) (i k : ℕ) → (k ≡ 0 → ⊥) → is_empty (names_from q from to i k) ≡ false
unfolding names_from is_empty
some_types q from to i zero h = absurd (h refl)
some_types q from to i (suc k) h = refl

every_there : (question : List ℕ) (f : Front) (k : ℕ) → (k ≡ 0 → ⊥) → refuse_if (is_some (last_of question f.o.sig k)) 23 zero ≡ refused 23 0
unfolding last_of is_some refuse_if
every_there question f zero h = absurd (h refl)
every_there question f (suc k) h = refl

no_every : (question : List ℕ) (f : Front) (k : ℕ) → k ≡ 0 → last_of question f.o.sig k ≡ none
unfolding last_of
no_every question f zero e = refl
no_every question f (suc k) e = absurd (omega arith)

none_refused : (t : ℕ) (m : P.Result Sized Refusal) (e : ℕ) (s : Sized) → Ok s ≡ gate_by t m e → (t ≡ 0) × (m ≡ Ok s) × (e ≡ 0)
unfolding gate_by
none_refused zero (Ok m) zero s q = (refl, sym q, refl)
none_refused zero (Ok m) (suc e) s q = absurd (cc)
none_refused zero (Err r) e s q = absurd (cc)
none_refused (suc t) m e s q = absurd (cc)

-- where nothing is refused
pub record Passed (c : Case) (f : Front) (m : Sized) (table : List ℕ) : Type 0 where
  pub plain : c.question.types ≡ []
  pub alone : c.question.every ≡ none
  pub within : f.m ≡ Ok m
  pub table_of_lem : Tabled (problem_of c) m table

module _ {A : Type 0} (question site : List ℕ) (third : CaseRead → Result A) where
  pub gate_case : (e : Refusal) → read_case usual question site ≡ refused (number_of e.cause) e.place → ready_for_pddl usual question site third ≡ refused (number_of e.cause) e.place
  unfolding ready_for_pddl
  gate_case e h = Order.case_refused usual question site third no_types without_every nothing _ _ h

module _ (question site : List ℕ) (f : Front) (facts table : List ℕ) (its : Fronted usual question site (Ok f) facts table) where
  abbrev pub filed : (labels : List Label) × (read_filed usual question site ≡ accepted (record { case = its.0; labels = labels }))
  filed = Order.case_filed usual question site its.0 its.1

  module _ {A : Type 0} (third : CaseRead → Result A) where
    pub gate_third : (k place : ℕ) → ((r : CaseRead) → third r ≡ refused k place) → ready_for_pddl usual question site third ≡ refused k place
    unfolding ready_for_pddl
    gate_third k place e = Order.third_refused usual question site third no_types without_every nothing _ filed.1 k place (e _)

    module _ (t : A) (e : (r : CaseRead) → third r ≡ accepted t) where
      typed : (f.o.sig.types ≡ 0 → ⊥) → ready_for_pddl usual question site third ≡ refused 22 0
      unfolding ready_for_pddl no_types types_of refuse_if
      typed h = Order.early_refused usual question site third no_types without_every nothing _ filed.1 t (e _) 22 0
          (rw (its.2.holds.types, some_types question f.o.sig.from f.o.sig.to 13 f.o.sig.types h) refl)

      module _ (y : f.o.sig.types ≡ 0) where
        untyped : no_types its.0 ≡ accepted tt
        unfolding no_types types_of refuse_if is_empty
        untyped = rw (its.2.holds.types, no_types_lem question f.o.sig.from f.o.sig.to 13 f.o.sig.types y) refl

        over : (r : Refusal) → f.m ≡ Err r → ready_for_pddl usual question site third ≡ refused (number_of r.cause) r.place
        unfolding ready_for_pddl
        over r o = Order.limits_refused usual question site third no_types without_every nothing _ filed.1 t (e _) untyped _ _ (case_over usual its.0 f.m table its.2.grounded r o)

        module _ (m : Sized) (o : f.m ≡ Ok m) where
          abbrev ground_is : ground usual its.0 ≡ accepted (problem_of its.0)
          ground_is = grounds usual its.0 f.m table its.2.grounded m o

          with_every : (f.o.sig.every ≡ 0 → ⊥) → ready_for_pddl usual question site third ≡ refused 23 0
          unfolding ready_for_pddl without_every every_of
          with_every h = Order.late_refused usual question site third no_types without_every nothing _ filed.1 t (e _) untyped (problem_of its.0) ground_is 23 0
              (rw its.2.holds.every (every_there question f f.o.sig.every h))

          module _ (a : f.o.sig.every ≡ 0) where
            alone : its.0.question.every ≡ none
            unfolding every_of
            alone = its.2.holds.every ∙ no_every question f f.o.sig.every a

            pub all_pass : ready_for_pddl usual question site third ≡ accepted (record { case = its.0; labels = filed.0; problem = problem_of its.0; third = t })
            unfolding ready_for_pddl without_every refuse_if is_some
            all_pass = Order.ready usual question site third no_types without_every nothing _ filed.1 t (e _) untyped (problem_of its.0) ground_is (rw alone refl) (Order.untested (problem_of its.0))

      -- the gate tells which
      abbrev pub opened : Ready A
      opened = record { case = its.0; labels = filed.0; problem = problem_of its.0; third = t }

      pub gate_tells : ready_for_pddl usual question site third ≡ told (λ (m : Sized). opened) (gate f)
      unfolding gate_by
      gate_tells = by_counts f.o.sig.types f.m f.o.sig.every refl refl refl
        where
          by_counts : (x : ℕ) (y : P.Result Sized Refusal) (w : ℕ) → f.o.sig.types ≡ x → f.m ≡ y → f.o.sig.every ≡ w
              → ready_for_pddl usual question site third ≡ told (λ (m : Sized). opened) (gate_by x y w)
          by_counts (suc x) y w a b d = typed (λ i. absurd (omega arith))
          by_counts zero (Err r) w a b d = over a r b
          by_counts zero (Ok m) (suc w) a b d = with_every a m b (λ i. absurd (omega arith))
          by_counts zero (Ok m) zero a b d = all_pass a m b d

      pub gate_refused : (r : Refusal) → Err r ≡ gate f → ready_for_pddl usual question site third ≡ refused (number_of r.cause) r.place
      gate_refused r q = gate_tells ∙ ap (told (λ (m : Sized). opened)) (sym q)

      pub gate_passed : (m : Sized) → Ok m ≡ gate f → ready_for_pddl usual question site third ≡ accepted opened
      gate_passed m q = gate_tells ∙ ap (told (λ (m : Sized). opened)) (sym q)

  pub passed : (m : Sized) → Ok m ≡ gate f → Passed its.0 f m table
  unfolding every_of types_of
  passed m q =
      let (y, o, a) = none_refused f.o.sig.types f.m f.o.sig.every m q in
      record {
        plain = its.2.holds.types ∙ no_types_lem question f.o.sig.from f.o.sig.to 13 f.o.sig.types y;
        alone = its.2.holds.every ∙ no_every question f f.o.sig.every a;
        within = o;
        table_of_lem = tabled usual its.0 f.m table its.2.grounded m o;
      }
