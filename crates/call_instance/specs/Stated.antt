-- What writing the instance answers and leaves. Assumes nothing.
use Rattle.std.specs.Prelude.{ℕ, ◌+◌, ◌^◌, ◌≤◌, ◌<◌, ◌≡◌, length, get_or, Ok, Err}
use Rattle.std.proofs.Math.Path.{refl, ap}
use Rattle.std.proofs.Common.{sym, ◌∙◌, arith}
use mathlib.Core.List.{List}
use Rattle.definitions.specs.Limits.{usual}
use Rattle.definitions.specs.Sheet.Relations.{Relation}
use Rattle.definitions.specs.Sheet.Sheets.{relations_of}
use Rattle.definitions.specs.Problem.Truth.{Case}
use Rattle.definitions.specs.Reply.Lifted.{relation_in}
use Rattle.definitions.specs.Refusal.{refused}
use Rattle.definitions.specs.Reply.Outcome.{read_case}
use Rattle.definitions.specs.Reply.Pddl.{instance_text, write_instance}
use Rattle.laws.specs.Lists.{get_or_mem}
use Rattle.laws.specs.Numbers.{no_relation}
use Rattle.meaning.specs.Grounded.{relation_cases}
use Rattle.bits.specs.Table.{bit}
use Rattle.read_names.specs.Signatures.{SoundSignature, all_of}
use Rattle.problem_table.specs.Of.{kind_number}
use Rattle.problem_layout.specs.declared.Relations.{Relations}
use Rattle.problem_layout.specs.Laid.{RelationsFit}
use Rattle.problem_of_case.specs.Numbered.{Declared, Numbered}
use Rattle.problem_of_case.specs.Grounds.{declared}
use Rattle.read_sheets.specs.Opening.{Holds}
use Rattle.print_bytes.specs.Emitted.{Emits}
use Rattle.print_page.specs.Elements.{Names}
use Rattle.print_page.specs.Naming.{Named}
use Rattle.print_words.specs.Words.{NamesOf}
use Rattle.print_words.specs.Naming.{names_of}
use Rattle.print_instance.specs.Texts.{RelationsKnown, instance_in}
use Rattle.print_instance.specs.Cases.{instance_is}
use Rattle.print_instance.specs.Lengths.{instance_small}
use Rattle.open_case.specs.declared.Front.{Front}
use Rattle.refusal.specs.declared.Refusal.{Refusal}
use Rattle.refusal.specs.Numbers.{number_of}
use Rattle.refusal.specs.declared.Cause.TheVariants.{ShortBuffer}
use Rattle.problem_of_case.specs.declared.Sized.{Sized}
use Rattle.open_case.specs.Fronts.{Held, Fronted}
use Rattle.open_case.specs.Known.{facts_held}
use Rattle.open_case.specs.Replies.{Reply, result_of}
use Rattle.open_pddl.specs.Gates.{gate, passed}
use Rattle.open_pddl.specs.Texts.{told, question_short, writes_case, writes_gate, writes_short, writes_all}

-- what a call answers and leaves
abbrev pub Stated : (question site old : List ℕ) → Reply → List ℕ → Type 0
Stated question site old r new = (result_of r ≡ (write_instance usual question site old).answer) × (new ≡ (write_instance usual question site old).text)

pub stated_case : (question site old : List ℕ) (e : Refusal) → read_case usual question site ≡ refused (number_of e.cause) e.place → Stated question site old (Err e) old
unfolding write_instance told
stated_case question site old e h = writes_case instance_text question site old e h

pub stated_gate : (question site old : List ℕ) (f : Front) (facts table : List ℕ) → Fronted usual question site (Ok f) facts table → (e : Refusal) → Err e ≡ gate f
    → Stated question site old (Err e) old
unfolding write_instance told
stated_gate question site old f facts table its e q = writes_gate instance_text question site old f facts table its e q

-- some case was opened
pub record Begun (question : List ℕ) (f : Front) (facts : List ℕ) : Type 0 where
  pub site : List ℕ
  pub table : List ℕ
  pub front : Fronted usual question site (Ok f) facts table

-- ---- of a case that holds
module _ (question : List ℕ) (f : Front) (c : Case) (facts table : List ℕ) (H : Held usual question c f facts table) where
  abbrev h : Holds question c f.o (bit facts)
  h = H.holds

  module _ (g : Relations) (fit : RelationsFit g) (m : Numbered f.o.sig g) where
    relations_are : relations_of c.question ≡ all_of question f.o.sig
    unfolding relations_of all_of
    relations_are = rw (h.rels, h.chosen, h.every) refl

    count_is : g.count ≡ length (relations_of c.question)
    count_is = m.count question ∙ ap length (sym relations_are)

    arity_is : (r : ℕ) → r < g.count → get_or g.arity r 0 ≡ (relation_in c r).arity
    unfolding relation_in
    arity_is r l = m.arity question r l ∙ ap (λ (ks : List Relation). (get_or ks r no_relation).arity) (sym relations_are)

    kind_is : (r : ℕ) → r < g.count → get_or g.kind r 0 ≡ kind_number (relation_in c r).kind
    unfolding relation_in
    kind_is r l = m.kind question r l ∙ ap (λ (ks : List Relation). kind_number (get_or ks r no_relation).kind) (sym relations_are)

    placed : (r : ℕ) → r < g.count → (1 ≤ get_or g.arity r 0) × (get_or g.arity r 0 ≤ 3)
    unfolding relation_in
    placed r l =
        let (a, b, _) = relation_cases c H.accepts (get_or (relations_of c.question) r no_relation) (get_or_mem (relations_of c.question) r no_relation (omega (arith, count_is))) in
        (omega (arith, a, arity_is r l), omega (arith, b, arity_is r l))

    pub known : RelationsKnown f.o.n g
    known = record { some = h.some_elements; few = h.few_elements; fit = fit; placed = placed }

  pub named : (names : List ℕ) → Named f.o.sig.from f.o.sig.to f.o.sig.arity (f.o.sig.rels + f.o.sig.chosen + f.o.sig.every) names → NamesOf c question names
  named names N = names_of question f.o.sig names h.sound N c h.rels h.chosen h.every

-- ---- what the writer asks for
module _ (question : List ℕ) (f : Front) (facts : List ℕ) (B : Begun question f facts) where
  abbrev held : Held usual question B.front.0 f facts B.table
  held = B.front.2

  pub begun_sound : SoundSignature question f.o.sig
  begun_sound = held.holds.sound

  pub begun_declared : Declared f.o.sig
  begun_declared = declared question f.o _ _ held.holds

  pub begun_names : (names : List ℕ) → Named f.o.sig.from f.o.sig.to f.o.sig.arity (f.o.sig.rels + f.o.sig.chosen + f.o.sig.every) names → Names question names
  begun_names names N = (named question f _ facts B.table held names N).fit

  pub begun_known : (g : Relations) → RelationsFit g → Numbered f.o.sig g → RelationsKnown f.o.n g
  begun_known g fit m = known question f _ facts B.table held g fit m

-- ---- what it leaves
module _ (question site old : List ℕ) (f : Front) (facts table : List ℕ) (its : Fronted usual question site (Ok f) facts table) (sized : Sized) (q : Ok sized ≡ gate f)
    (names : List ℕ) (N : Named f.o.sig.from f.o.sig.to f.o.sig.arity (f.o.sig.rels + f.o.sig.chosen + f.o.sig.every) names)
    (g : Relations) (fit : RelationsFit g) (m : Numbered f.o.sig g) where
  abbrev c : Case
  c = its.0

  abbrev holding : Held usual question c f facts table
  holding = its.2

  abbrev text : List ℕ
  text = instance_in question names facts f.o.n g

  same : instance_text c ≡ text
  same =
      let pass = passed question site f facts table its sized q in
      let K = known question f c facts table holding g fit m in
      instance_is c question names (named question f c facts table holding names N) table facts g f.o.n pass.table_of_lem.fits pass.table_of_lem.is (facts_held question c f.o facts holding.holds)
      holding.holds.size K.some (count_is question f c facts table holding g fit m) (arity_is question f c facts table holding g fit m) (kind_is question f c facts table holding g fit m) (λ r l. (K.placed r l).0)

  small : length text < 2 ^ 64
  small = instance_small question names facts (omega (arith, question_short question c.question holding.holds.asked)) f.o.n g (known question f c facts table holding g fit m)

  pub stated_short : (scratch after : List ℕ) (bytes : ℕ) → Emits text scratch 0 after bytes → length old < bytes → Stated question site old (Err (record { cause = ShortBuffer; place = bytes })) old
  unfolding write_instance told
  stated_short = writes_short instance_text question site old f facts table its sized q text same small

  pub stated_all : (scratch after new : List ℕ) (bytes last : ℕ) → Emits text scratch 0 after bytes → Emits text old 0 new last → bytes ≤ length old → Stated question site old (Ok bytes) new
  unfolding write_instance told
  stated_all = writes_all instance_text question site old f facts table its sized q text same small
