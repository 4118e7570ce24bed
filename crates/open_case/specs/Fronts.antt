-- What the opening of a call tells: the case is refused, or it was read, its facts stand in the table of bits, and its problem is
-- grounded or over the limits.
use Rattle.std.specs.Prelude.{ℕ, ◌≤◌, ◌≡◌, List, Ok, Err}
use Rattle.std.specs.Prelude as P
use Rattle.std.proofs.Math.Path.{subst}
use Rattle.std.proofs.Common.{sym}
use Rattle.definitions.specs.Limits.{CaseLimits, usual}
use Rattle.definitions.specs.Refusal.{refused, accepted, ◌>>=◌}
use Rattle.definitions.specs.Problem.Truth.{Case}
use Rattle.definitions.specs.Reply.Outcome.{CaseRead, read_filed, read_case, ground}
use Rattle.laws.specs.Asked.{filed_case}
use Rattle.laws.specs.Reader.{Accepted, gives_if, case_fits}
use Rattle.bits.specs.Table.{bit}
use Rattle.refusal.specs.declared.Refusal.{Refusal}
use Rattle.refusal.specs.Numbers.{number_of}
use Rattle.read_sheets.specs.declared.Opened.{Opened}
use Rattle.read_tuples.specs.Labels.{LabelsAre}
use Rattle.read_sheets.specs.Opening.{Holds, FiledRead}
use Rattle.problem_sizes.specs.declared.Limits.{Limits}
use Rattle.problem_of_case.specs.declared.Sized.{Sized}
use Rattle.problem_of_case.specs.Grounds.{GroundsTo}
use Rattle.open_case.specs.declared.Front.{Front}
use Rattle.open_case.specs.Within.{case_within}

-- limits by their numbers, as code has them
abbrev pub limits : ℕ → Limits → CaseLimits
limits most l = record { elements = most; atoms = l.atoms; actions = l.actions; steps = l.steps }

-- the case c was read and grounded
pub record Held (L : CaseLimits) (question : List ℕ) (c : Case) (r : Front) (facts table : List ℕ) : Type 0 where
  pub accepts : Accepted c
  pub holds : Holds question c r.o (bit facts)
  pub within : r.o.n ≤ L.elements
  pub grounded : GroundsTo (ground L c) r.m table

-- what opening a case tells: why it is refused, or the case, which was read and grounded
abbrev pub Fronted : CaseLimits → List ℕ → List ℕ → P.Result Front Refusal → List ℕ → List ℕ → Type 0
Fronted L question site (Ok f) facts table = (c : Case) × (read_case L question site ≡ accepted c) × Held L question c f facts table
Fronted L question site (Err e) facts table = read_case L question site ≡ refused (number_of e.cause) e.place

-- the same of a case with its labels, whose words say where in the site's text each stands
abbrev pub Filed : CaseLimits → List ℕ → List ℕ → P.Result Front Refusal → (labels facts table : List ℕ) → Type 0
Filed L question site (Ok f) labels facts table =
    (x : CaseRead) × (read_filed L question site ≡ accepted x) × Held L question x.case f facts table × LabelsAre site labels f.o.n x.labels
Filed L question site (Err e) labels facts table = read_filed L question site ≡ refused (number_of e.cause) e.place

-- by the usual limits
pub by_usual : (l : Limits) (question site : List ℕ) (r : P.Result Front Refusal) (labels facts table : List ℕ) → l ≡ record { atoms = usual.atoms; actions = usual.actions; steps = usual.steps }
    → Filed (limits 64 l) question site r labels facts table → Filed usual question site r labels facts table
by_usual l question site r labels facts table e f = subst (λ (x : Limits). Filed (limits 64 x) question site r labels facts table) e f

-- some case was read and grounded: what is known inside a call
pub record ReadyFront (question : List ℕ) (r : Front) (facts table : List ℕ) : Type 0 where
  pub limits_are : CaseLimits
  pub case : Case
  pub held : Held limits_are question case r facts table
  pub atoms_few : limits_are.atoms ≤ 1048576
  pub actions_few : limits_are.actions ≤ 8388608

pub front_ready : (L : CaseLimits) (question site : List ℕ) (f : Front) (facts table : List ℕ) → Fronted L question site (Ok f) facts table
    → L.atoms ≤ 1048576 → L.actions ≤ 8388608 → ReadyFront question f facts table
front_ready L question site f facts table (c, e, h) a b = record { limits_are = L; case = c; held = h; atoms_few = a; actions_few = b }

-- what was filed is a case
pub filed_alone : (L : CaseLimits) (question site : List ℕ) (r : P.Result Front Refusal) (labels facts table : List ℕ) → Filed L question site r labels facts table → Fronted L question site r facts table
unfolding read_case ◌>>=◌
filed_alone L question site (Ok f) labels facts table (x, e, h, l) = (x.case, rw e, h)
filed_alone L question site (Err e) labels facts table h = rw h

-- from what reading and grounding say
pub fronts_read : (L : CaseLimits) → L.elements ≤ 64 → (question site : List ℕ) (o : Opened) (labels facts : List ℕ) → FiledRead question site (read_filed L question site) (Ok o) labels (bit facts)
    → (m : P.Result Sized Refusal) (table : List ℕ) → ((c : Case) → Holds question c o (bit facts) → GroundsTo (ground L c) m table)
    → Filed L question site (Ok (record { o = o; m = m })) labels facts table
fronts_read L few question site o labels facts (x, q, h, l) m table g =
    let w = filed_case L question site x q in (
      x,
      q,
      record {
        accepts = gives_if Accepted (read_case L question site) x.case w (case_fits L few question site);
        holds = h;
        within = subst (λ (n : ℕ). n ≤ L.elements) (sym h.size) (case_within L question site x.case w);
        grounded = g x.case h;
      },
      l,
    )
