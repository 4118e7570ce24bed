-- Cases of document 02, job 11, and one theorem for each table.
use Rattle.std.specs.Prelude.{◌≡◌, refl, ℕ, ◌+◌, Bool, true, false, not, ◌&&◌, List, [], ◌∷◌, ◌++◌, map, length}
use Prim.Native.String.{String, ◌++◌ as ◌<>◌}
use Rattle.definitions.specs.Limits.{usual}
use Rattle.definitions.specs.Lists.{all, same, below}
use Rattle.definitions.specs.Sheet.Text.{bytes}
use Rattle.definitions.specs.Refusal.{Result, refused, accepted, ◌>>=◌}
use Rattle.definitions.specs.Reply.Outcome.{as_numbers, nothing, check_steps}
use Rattle.definitions.specs.Reply.Demand.{is_accepted}
use Rattle.definitions.specs.Reply.Lifted.{is_plan}
use Rattle.definitions.specs.Reply.Pddl.{TextWritten, ready_for_pddl, domain_text, instance_text, plan_of, plan_text, write_domain, write_instance, write_plan, read_plan}
use Rattle.definitions.specs.Reply.PddlMeaning.{is_plan_of}
use Rattle.definitions.specs.Table.Opened.{everything}
use Rattle.definitions.specs.Table.Drawer.{answer_matches, refusal_matches, state, sheet_q, sheet_s, sat_q, sat_s, one_q, one_s, inj_q, inj_s}

-- What is written of a domain, an instance or steps into a buffer that is longer by some bytes, which stay; how each is refused, the
-- buffer as it was; the steps that a plan is read as, and how it is refused; whether steps are a plan of the unground domain, what is
-- written for them one by the texts alone, and they accepted: all three or none.
pub data Claim : Type 0 where
  domain_is instance_is : (question site text : String) → (spare : ℕ) → Claim
  domain_refused instance_refused : (question site : String) → (room number place : ℕ) → Claim
  writes : (question site : String) → (steps : List ℕ) → (text : String) → (spare : ℕ) → Claim
  write_refused : (question site : String) → (steps : List ℕ) → (room number place : ℕ) → Claim
  reads : (question site plan : String) → (steps : List ℕ) → (spare : ℕ) → Claim
  read_refused : (question site plan : String) → (room number place : ℕ) → Claim
  plans : (question site : String) → (steps : List ℕ) → Bool → Claim

unfoldable pub sevens : ℕ → List ℕ
sevens k = map (λ _. 7) (below k)

unfoldable pub wrote : (List ℕ → TextWritten) → List ℕ → ℕ → Bool
wrote call text spare = let w = call (sevens (length text + spare)) in answer_matches w.answer (length text) && same w.text (text ++ sevens spare)

unfoldable pub kept : (List ℕ → TextWritten) → (room number place : ℕ) → Bool
kept call room number place = let w = call (sevens room) in refusal_matches w.answer number place && same w.text (sevens room)

unfoldable pub lifted_is : Result Bool → Bool → Bool
lifted_is (refused k place) b = false
lifted_is (accepted a) true = a
lifted_is (accepted a) false = not a

unfoldable pub is_so : Claim → Bool
is_so (domain_is q s text spare) = wrote (write_domain usual (bytes q) (bytes s)) (bytes text) spare
is_so (instance_is q s text spare) = wrote (write_instance usual (bytes q) (bytes s)) (bytes text) spare
is_so (domain_refused q s room k place) = kept (write_domain usual (bytes q) (bytes s)) room k place
is_so (instance_refused q s room k place) = kept (write_instance usual (bytes q) (bytes s)) room k place
is_so (writes q s steps text spare) = wrote (write_plan usual (bytes q) (bytes s) (as_numbers steps)) (bytes text) spare
is_so (write_refused q s steps room k place) = kept (write_plan usual (bytes q) (bytes s) (as_numbers steps)) room k place
is_so (reads q s plan steps spare) =
    let r = read_plan usual (bytes q) (bytes s) (bytes plan) (sevens (length steps + spare)) in answer_matches r.answer (length steps) && same r.steps (steps ++ sevens spare)
is_so (read_refused q s plan room k place) =
    let r = read_plan usual (bytes q) (bytes s) (bytes plan) (sevens room) in refusal_matches r.answer k place && same r.steps (sevens room)
is_so (plans q s steps b) =
    lifted_is (ready_for_pddl usual (bytes q) (bytes s) nothing >>= λ r. plan_of r.problem steps >>= λ plan. accepted (is_plan r.case plan)) b
    && lifted_is (ready_for_pddl usual (bytes q) (bytes s) nothing >>= λ r. plan_of r.problem steps >>= λ plan. accepted (is_plan_of (domain_text r.case) (instance_text r.case) (plan_text r.case plan))) b
    && lifted_is (accepted (is_accepted (check_steps usual (bytes q) (bytes s) (as_numbers steps) state).answer)) b

-- opens what `is_so` uses
unfoldable pub claims : Unit {0}
unfolding answer_matches refusal_matches state sevens wrote kept lifted_is sheet_q sheet_s sat_q sat_s one_q one_s inj_q inj_s
claims = tt

-- a `rel`, a plain `choose` and an injective one; a rule with every connective
unfoldable pub shown_q : String
shown_q = "rel\tQ\t1\nchoose\tY\t1\nchoose\tD\tInj\nrule\t(forall (?p) (or (Q ?p) (Y ?p)))\n"

unfoldable pub shown_s : String
shown_s = "size\t2\nfact\tQ\t0\n"

unfoldable pub shown_domain : String
shown_domain =
    "(define (domain case)\n  (:constants o0 o1)\n  (:predicates\n    (guess)\n    (proof)\n    (holds_goal)\n"
    <> "    (r_EQ ?x0 ?x1)\n    (not-r_EQ ?x0 ?x1)\n    (r_LT ?x0 ?x1)\n    (not-r_LT ?x0 ?x1)\n    (r_SUC ?x0 ?x1)\n"
    <> "    (not-r_SUC ?x0 ?x1)\n    (r_ZERO ?x0)\n    (not-r_ZERO ?x0)\n    (r_MAX ?x0)\n    (not-r_MAX ?x0)\n"
    <> "    (r_Q ?x0)\n    (not-r_Q ?x0)\n    (r_Y ?x0)\n    (not-r_Y ?x0)\n    (r_D ?x0 ?x1)\n    (not-r_D ?x0 ?x1)\n"
    <> "    (free_D_dom ?x0)\n    (free_D_ran ?x0)\n    (holds_and_0)\n    (holds_forall_1 ?x0)\n    (holds_or_2 ?x0)\n"
    <> "    (holds_forall_3 ?x0)\n    (holds_exists_4 ?x0)\n  )\n  (:action set_Y_true\n    :parameters (?x0)\n"
    <> "    :precondition (and (guess) (not-r_Y ?x0))\n    :effect (and (r_Y ?x0) (not (not-r_Y ?x0))))\n"
    <> "  (:action set_D_true\n    :parameters (?x0 ?x1)\n"
    <> "    :precondition (and (guess) (not-r_D ?x0 ?x1) (free_D_dom ?x0) (free_D_ran ?x1))\n"
    <> "    :effect (and (r_D ?x0 ?x1) (not (not-r_D ?x0 ?x1)) (not (free_D_dom ?x0)) (not (free_D_ran ?x1))))\n"
    <> "  (:action begin-proof\n    :parameters ()\n    :precondition (and (guess))\n"
    <> "    :effect (and (proof) (not (guess))))\n  (:action prove_and_0\n    :parameters ()\n"
    <> "    :precondition (and (proof) (holds_forall_1 o1) (holds_forall_3 o1))\n    :effect (and (holds_and_0)))\n"
    <> "  (:action prove_forall_1_1\n    :parameters ()\n    :precondition (and (proof) (holds_or_2 o0))\n"
    <> "    :effect (and (holds_forall_1 o0)))\n  (:action prove_forall_1_2\n    :parameters (?x0 ?x1)\n"
    <> "    :precondition (and (proof) (r_SUC ?x0 ?x1) (holds_forall_1 ?x0) (holds_or_2 ?x1))\n"
    <> "    :effect (and (holds_forall_1 ?x1)))\n  (:action prove_or_2_0\n    :parameters (?x0)\n"
    <> "    :precondition (and (proof) (r_Q ?x0))\n    :effect (and (holds_or_2 ?x0)))\n  (:action prove_or_2_1\n"
    <> "    :parameters (?x0)\n    :precondition (and (proof) (r_Y ?x0))\n    :effect (and (holds_or_2 ?x0)))\n"
    <> "  (:action prove_forall_3_1\n    :parameters ()\n    :precondition (and (proof) (holds_exists_4 o0))\n"
    <> "    :effect (and (holds_forall_3 o0)))\n  (:action prove_forall_3_2\n    :parameters (?x0 ?x1)\n"
    <> "    :precondition (and (proof) (r_SUC ?x0 ?x1) (holds_forall_3 ?x0) (holds_exists_4 ?x1))\n"
    <> "    :effect (and (holds_forall_3 ?x1)))\n  (:action prove_exists_4\n    :parameters (?x0 ?x1)\n"
    <> "    :precondition (and (proof) (r_D ?x0 ?x1))\n    :effect (and (holds_exists_4 ?x0)))\n  (:action prove-goal\n"
    <> "    :parameters ()\n    :precondition (and (holds_and_0))\n    :effect (and (holds_goal)))\n)\n"

unfoldable pub shown_instance : String
shown_instance =
    "(define (problem site)\n  (:domain case)\n  (:objects)\n  (:init\n    (guess)\n    (r_EQ o0 o0)\n    (r_EQ o1 o1)\n"
    <> "    (not-r_EQ o0 o1)\n    (not-r_EQ o1 o0)\n    (r_LT o0 o1)\n    (not-r_LT o0 o0)\n    (not-r_LT o1 o0)\n"
    <> "    (not-r_LT o1 o1)\n    (r_SUC o0 o1)\n    (not-r_SUC o0 o0)\n    (not-r_SUC o1 o0)\n    (not-r_SUC o1 o1)\n"
    <> "    (r_ZERO o0)\n    (not-r_ZERO o1)\n    (r_MAX o1)\n    (not-r_MAX o0)\n    (r_Q o0)\n    (not-r_Q o1)\n"
    <> "    (not-r_Y o0)\n    (not-r_Y o1)\n    (not-r_D o0 o0)\n    (not-r_D o0 o1)\n    (not-r_D o1 o0)\n"
    <> "    (not-r_D o1 o1)\n    (free_D_dom o0)\n    (free_D_dom o1)\n    (free_D_ran o0)\n    (free_D_ran o1)\n  )\n"
    <> "  (:goal (holds_goal))\n)\n"

pub layout : List Claim
layout = domain_is shown_q shown_s shown_domain 1 ∷ instance_is shown_q shown_s shown_instance 0 ∷ []

pub layout_is_so : all is_so layout ≡ true
unfolding everything claims is_so layout shown_q shown_s shown_domain shown_instance
layout_is_so = refl

-- a rule with every kind of node, two of them with two free variables
unfoldable pub full_q : String
full_q = "rel\tD\t1\nchoose\tT\t1\nchoose\tF\tPFun\nrule\t(forall (?x ?y) (or (D ?x) (and (T ?y) (F ?x ?y)) (exists (?z) (F ?z ?x))))\n"

unfoldable pub full_s : String
full_s = "size\t4\nfact\tD\t1\n"

-- the built steps of the drawer's sheet as a plan, and of its Inj
unfoldable pub sheet_plan : String
sheet_plan = "(set_T_true o1)\n(begin-proof)\n(prove_or_1_0 o0)\n(prove_or_1_1 o1)\n(prove_forall_0_1)\n(prove_forall_0_2 o0 o1)\n(prove-goal)\n"

unfoldable pub inj_plan : String
inj_plan =
    "(set_F_true o0 o1)\n(set_F_true o1 o0)\n(begin-proof)\n(prove_exists_3 o0 o1)\n(prove_exists_3 o1 o0)\n(prove_forall_2_1)\n"
    <> "(prove_forall_2_2 o0 o1)\n(prove_forall_1_1)\n(prove_forall_1_2 o0 o1)\n(prove_and_0)\n(prove-goal)\n"

unfoldable pub typed_q : String
typed_q = "type\tDOOR\nchoose\tT\t1\nrule\t(forall (?y) (T ?y))\n"

-- with an `every` line; and one that is over the limits of atoms with 64 elements
unfoldable pub varied_q : String
varied_q = "choose\tT\t1\nevery\tL\t1\nrule\t(forall (?x) (or (T ?x) (not (L ?x))))\n"

unfoldable pub wide_q : String
wide_q = "choose\tT\t3\nevery\tL\t2\nrule\t(forall (?a ?b ?c ?d) (T ?a ?b ?c))\n"

pub rows : List Claim
rows =
    -- steps written, and plans read, in whatever letters; what lies past them stays
    writes sheet_q sheet_s (1 ∷ 2 ∷ 5 ∷ 8 ∷ 3 ∷ 4 ∷ 9 ∷ []) sheet_plan 2
    ∷ writes inj_q inj_s (1 ∷ 2 ∷ 4 ∷ 11 ∷ 12 ∷ 8 ∷ 9 ∷ 6 ∷ 7 ∷ 5 ∷ 14 ∷ []) inj_plan 0
    ∷ writes full_q full_s (4 ∷ 26 ∷ 42 ∷ []) "(set_F_true o0 o0)\n(prove_forall_1_2 o0 o0 o1)\n(prove_or_2_1 o0 o0)\n" 0
    ∷ reads sheet_q sheet_s sheet_plan (1 ∷ 2 ∷ 5 ∷ 8 ∷ 3 ∷ 4 ∷ 9 ∷ []) 2
    ∷ reads full_q full_s "(SET_f_True O0 o0)\n(PROVE_FORALL_1_2 o0 O0 o1)\n(Prove_Or_2_1 o0 o0)\n" (4 ∷ 26 ∷ 42 ∷ []) 0
    ∷ writes one_q one_s [] "" 3
    ∷ reads one_q one_s "" [] 3
    -- 13 by the step's index, before 12; 12 with the text's length, with the number of lines
    ∷ write_refused sheet_q sheet_s (1 ∷ 10 ∷ []) 0 13 1
    ∷ write_refused sheet_q sheet_s (1 ∷ 2 ∷ []) 29 12 30
    ∷ read_refused sheet_q sheet_s sheet_plan 6 12 7
    ∷ domain_refused one_q one_s 1031 12 1032
    ∷ instance_refused one_q one_s 0 12 211
    -- 2: not ended, no bracket, a space too many, a comment, a tab, nothing in it; and before 22 and 12
    ∷ read_refused full_q full_s "(set_T_true o0)\n(begin-proof)" 9 2 16
    ∷ read_refused full_q full_s "begin-proof\n" 9 2 0
    ∷ read_refused full_q full_s "(begin-proof) \n" 9 2 0
    ∷ read_refused full_q full_s "(set_T_true  o0)\n" 9 2 0
    ∷ read_refused full_q full_s "(begin-proof);c\n" 9 2 0
    ∷ read_refused full_q full_s "(set_T_true\to0)\n" 9 2 0
    ∷ read_refused full_q full_s "()\n" 9 2 0
    ∷ read_refused full_q full_s "step\t3\n" 9 2 0
    ∷ read_refused full_q full_s "(foo)\n(bar\n" 0 2 6
    -- 22 by line: a name that is none, a name with another number's writing, a relation that is not chosen, too few and too many
    -- objects, no object, an element that is not there, two elements that do not follow one another; 12 comes before it
    ∷ read_refused full_q full_s "(begin-proof)\n(foo o0)\n" 9 22 14
    ∷ read_refused full_q full_s "(prove_or_02_0 o0 o0)\n" 9 22 0
    ∷ read_refused full_q full_s "(set_D_true o0)\n" 9 22 0
    ∷ read_refused full_q full_s "(prove_forall_1_2 o0 o1)\n" 9 22 0
    ∷ read_refused full_q full_s "(begin-proof o0)\n" 9 22 0
    ∷ read_refused full_q full_s "(set_T_true o00)\n" 9 22 0
    ∷ read_refused full_q full_s "(set_T_true o4)\n" 9 22 0
    ∷ read_refused full_q full_s "(prove_forall_0_2 o1 o0)\n" 9 22 0
    ∷ read_refused full_q full_s "(prove_forall_0_2 o0 o2)\n" 9 22 0
    ∷ read_refused full_q full_s "(foo)\n(bar)\n" 1 12 2
    -- 22 for a type, after the third input and before 12
    ∷ domain_refused typed_q "size\t1\nmember\tDOOR\t0\n" 0 22 0
    ∷ write_refused typed_q "size\t1\nmember\tDOOR\t0\n" (9 ∷ []) 0 22 0
    ∷ read_refused typed_q "size\t1\nmember\tDOOR\t0\n" "(foo)\n" 0 22 0
    ∷ read_refused typed_q "size\t1\nmember\tDOOR\t0\n" "foo\n" 0 2 0
    -- 23 for an `every` line, whatever the number of its tuples: after the third input and 11, before 13, 12 and a line's 22; and a type's 22
    -- comes before 11 and 23
    ∷ domain_refused varied_q "size\t2\n" 0 23 0
    ∷ instance_refused varied_q "size\t2\n" 9 23 0
    ∷ write_refused varied_q "size\t2\n" (99 ∷ []) 0 23 0
    ∷ read_refused varied_q "size\t2\n" "(begin-proof)\n" 9 23 0
    ∷ read_refused varied_q "size\t2\n" "(foo)\n" 0 23 0
    ∷ read_refused varied_q "size\t2\n" "foo\n" 0 2 0
    ∷ domain_refused varied_q "size\t9\n" 0 23 0
    ∷ domain_refused wide_q "size\t64\n" 0 11 0
    ∷ domain_refused ("type\tDOOR\n" <> varied_q) "size\t2\nmember\tDOOR\t0\n" 0 22 0
    ∷ domain_refused ("type\tDOOR\n" <> wide_q) "size\t64\nmember\tDOOR\t0\n" 0 22 0
    -- plans and no plans: built steps; a step too early, one left out, a tuple set after the proof began, a second place taken twice
    ∷ plans sheet_q sheet_s (1 ∷ 2 ∷ 5 ∷ 8 ∷ 3 ∷ 4 ∷ 9 ∷ []) true
    ∷ plans inj_q inj_s (1 ∷ 2 ∷ 4 ∷ 11 ∷ 12 ∷ 8 ∷ 9 ∷ 6 ∷ 7 ∷ 5 ∷ 14 ∷ []) true
    ∷ plans sat_q sat_s (0 ∷ 1 ∷ 3 ∷ 48 ∷ 34 ∷ 41 ∷ 16 ∷ 27 ∷ 30 ∷ 7 ∷ 12 ∷ 14 ∷ 4 ∷ 5 ∷ 6 ∷ 52 ∷ []) true
    ∷ plans sat_q sat_s (0 ∷ 1 ∷ 3 ∷ 48 ∷ 34 ∷ 41 ∷ 16 ∷ 27 ∷ 30 ∷ 7 ∷ 12 ∷ 14 ∷ 4 ∷ 6 ∷ 5 ∷ 52 ∷ []) false
    ∷ plans sheet_q sheet_s (1 ∷ 2 ∷ 5 ∷ 8 ∷ 4 ∷ 9 ∷ []) false
    ∷ plans sheet_q sheet_s (1 ∷ 2 ∷ 1 ∷ []) false
    ∷ plans inj_q inj_s (0 ∷ 2 ∷ 4 ∷ 10 ∷ 12 ∷ 8 ∷ 9 ∷ 6 ∷ 7 ∷ 5 ∷ 14 ∷ []) false
    ∷ plans one_q one_s [] false
    ∷ []

pub rows_are_so : all is_so rows ≡ true
unfolding everything claims is_so rows full_q full_s sheet_plan inj_plan typed_q varied_q wide_q
rows_are_so = refl
