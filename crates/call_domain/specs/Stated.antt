-- What writing the domain answers and leaves. Assumes nothing.
use Rattle.std.specs.Prelude.{ℕ, ◌+◌, ◌^◌, ◌≤◌, ◌<◌, ◌≡◌, List, length, Ok, Err}
use Rattle.std.proofs.Common.{sym, arith}
use Rattle.definitions.specs.Limits.{usual}
use Rattle.definitions.specs.Problem.Truth.{Case}
use Rattle.definitions.specs.Refusal.{refused}
use Rattle.definitions.specs.Reply.Outcome.{read_case}
use Rattle.definitions.specs.Reply.Pddl.{domain_text, write_domain}
use Rattle.bits.specs.Table.{bit}
use Rattle.rule_nodes.specs.declared.Nodes.{Nodes}
use Rattle.rule_rewrite.specs.Rule.{TableOf, Accepted}
use Rattle.problem_layout.specs.declared.Relations.{Relations}
use Rattle.problem_layout.specs.Laid.{RelationsFit}
use Rattle.problem_of_case.specs.Numbered.{Numbered}
use Rattle.problem_of_case.specs.Grounds.{rule_fine, inputs}
use Rattle.print_bytes.specs.Emitted.{Emits}
use Rattle.print_page.specs.Naming.{Named}
use Rattle.print_domain.specs.Texts.{RelationsKnown}
use Rattle.print_domain.specs.Actions.{domain_in}
use Rattle.print_domain.specs.Nodes.{Bounded}
use Rattle.print_domain.specs.Bounds.{bounded}
use Rattle.print_domain.specs.Cases.{domain_is}
use Rattle.print_domain.specs.Lengths.{domain_small}
use Rattle.open_case.specs.declared.Front.{Front}
use Rattle.refusal.specs.declared.Refusal.{Refusal}
use Rattle.refusal.specs.Numbers.{number_of}
use Rattle.refusal.specs.declared.Cause.TheVariants.{ShortBuffer}
use Rattle.problem_of_case.specs.declared.Sized.{Sized}
use Rattle.open_case.specs.Fronts.{Held, Fronted}
use Rattle.open_case.specs.Replies.{Reply, result_of}
use Rattle.open_pddl.specs.Gates.{gate}
use Rattle.open_pddl.specs.Texts.{told, question_short, writes_case, writes_gate, writes_short, writes_all}
use Rattle.call_instance.specs.Stated as Instance
use Instance.{Begun}

-- what a call answers and leaves
abbrev pub Stated : (question site old : List ℕ) → Reply → List ℕ → Type 0
Stated question site old r new = (result_of r ≡ (write_domain usual question site old).answer) × (new ≡ (write_domain usual question site old).text)

pub stated_case : (question site old : List ℕ) (e : Refusal) → read_case usual question site ≡ refused (number_of e.cause) e.place → Stated question site old (Err e) old
unfolding write_domain told
stated_case question site old e h = writes_case domain_text question site old e h

pub stated_gate : (question site old : List ℕ) (f : Front) (facts table : List ℕ) → Fronted usual question site (Ok f) facts table → (e : Refusal) → Err e ≡ gate f
    → Stated question site old (Err e) old
unfolding write_domain told
stated_gate question site old f facts table its e q = writes_gate domain_text question site old f facts table its e q

-- ---- what the writer asks for, of some case that was opened
module _ (question : List ℕ) (f : Front) (facts : List ℕ) (B : Begun question f facts) where
  abbrev held : Held usual question B.front.0 f facts B.table
  held = B.front.2

  pub begun_rule : Accepted question f.o.rule.from f.o.rule.to f.o.sig
  begun_rule = rule_fine question f.o _ (bit facts) held.holds

  pub begun_elements : (0 < f.o.n) × (f.o.n ≤ 64)
  begun_elements = (held.holds.some_elements, held.holds.few_elements)

  pub begun_relations : (g : Relations) → RelationsFit g → Numbered f.o.sig g → RelationsKnown g
  begun_relations g fit m = record { fit = fit; placed = λ r l. ((Instance.begun_known question f facts B g fit m).placed r l).1 }

  pub begun_bounded : (g : Relations) (t : Nodes) → Numbered f.o.sig g → TableOf question f.o.rule.from f.o.rule.to f.o.sig t → Bounded t
  begun_bounded g t m T = bounded _ _ t (inputs question f.o _ (bit facts) held.holds g t m T).tree T.fits

-- ---- what it leaves
module _ (question site old : List ℕ) (f : Front) (facts table : List ℕ) (its : Fronted usual question site (Ok f) facts table) (sized : Sized) (q : Ok sized ≡ gate f)
    (names : List ℕ) (N : Named f.o.sig.from f.o.sig.to f.o.sig.arity (f.o.sig.rels + f.o.sig.chosen + f.o.sig.every) names)
    (g : Relations) (fit : RelationsFit g) (m : Numbered f.o.sig g) (t : Nodes) (T : TableOf question f.o.rule.from f.o.rule.to f.o.sig t) where
  abbrev c : Case
  c = its.0

  abbrev holding : Held usual question c f facts table
  holding = its.2

  abbrev text : List ℕ
  text = domain_in question names f.o.n g t

  same : domain_text c ≡ text
  same =
      sym (domain_is c question names (Instance.named question f c facts table holding names N) f.o.n f.o.members f.o.sig.types g t
      (inputs question f.o c (bit facts) holding.holds g t m T) fit T.fits holding.holds.some_elements)

  small : length text < 2 ^ 64
  small = domain_small question names f.o.n g t (omega (arith, question_short question c.question holding.holds.asked)) fit T.fits

  pub stated_short : (scratch after : List ℕ) (bytes : ℕ) → Emits text scratch 0 after bytes → length old < bytes → Stated question site old (Err (record { cause = ShortBuffer; place = bytes })) old
  unfolding write_domain told
  stated_short = writes_short domain_text question site old f facts table its sized q text same small

  pub stated_all : (scratch after new : List ℕ) (bytes last : ℕ) → Emits text scratch 0 after bytes → Emits text old 0 new last → bytes ≤ length old → Stated question site old (Ok bytes) new
  unfolding write_domain told
  stated_all = writes_all domain_text question site old f facts table its sized q text same small
