-- The theorems speak of something: document 01's case ONE, by its texts, is accepted, and soundness applies to its four steps; and a case
-- with a label, a type and a kind of that type is accepted too, and the theorems of jobs 1, 4 and 5 apply to it; so is one with an `every` line,
-- and those of job 12 apply to its two rounds.
use Rattle.std.specs.Prelude.{ℕ, ◌≡◌, refl, true, false, List, [], ◌∷◌, replicate}
use Rattle.std.proofs.Math.Option.{none, some}
use mathlib.Core.List.Memᴰ
use Rattle.std.proofs.Common.{arith}
use Rattle.definitions.specs.Limits.{usual}
use Rattle.definitions.specs.Table.Opened.{everything}
use Rattle.definitions.specs.Sheet.Text.{bytes}
use Rattle.definitions.specs.Refusal.{accepted}
use Rattle.definitions.specs.Sheet.Relations.{plain, PFun, universal}
use Rattle.definitions.specs.Sheet.Formula.{literal, negation, disjunction, forall, nil, cons}
use Rattle.definitions.specs.Sheet.Sheets.{Label}
use Rattle.definitions.specs.Problem.Truth.{Case, are_picks, are_of_kinds, rule_is_true}
use Rattle.definitions.specs.Problem.Tree.{leaf}
use Rattle.definitions.specs.Problem.Atoms.{Problem, problem_of, atom_number, holds_node}
use Rattle.definitions.specs.Problem.Strips.{picks_of, run}
use Rattle.definitions.specs.Problem.Built.{built_steps}
use Rattle.definitions.specs.Reply.Desk.{said}
use Rattle.definitions.specs.Reply.Outcome.{read_filed, read_problem, as_text, as_numbers, take_steps, build_steps}
use Rattle.definitions.specs.Reply.Demand.{case_is_accepted, steps_are_accepted}
use Rattle.demands.specs.Demands.{accepted_case, soundness}
use Rattle.demands.specs.Demands.Labels.{said_label}
use Rattle.demands.specs.Demands.Types.{outside_false}

abbrev question : List ℕ
question = bytes "choose\tT\t1\nrule\t(forall (?y) (T ?y))\n"

abbrev site : List ℕ
site = bytes "size\t1\n"

accepts : case_is_accepted usual question site ≡ true
unfolding everything
accepts = refl

runs : steps_are_accepted usual question site (as_numbers (0 ∷ 1 ∷ 2 ∷ 3 ∷ [])) ≡ true
unfolding everything
runs = refl

pub one : (c : Case) × (labels : List Label) × (p : Problem) × (read_filed usual question site ≡ accepted (record { case = c; labels = labels })) × (read_problem usual question site ≡ accepted p)
    × ((steps : List ℕ) × (take_steps (as_numbers (0 ∷ 1 ∷ 2 ∷ 3 ∷ [])) ≡ accepted steps) × (are_picks c (picks_of p steps) ≡ true) × (are_of_kinds c (picks_of p steps) ≡ true) × (rule_is_true c (picks_of p steps) ≡ true))
one = let (c, labels, p, a, b) = (accepted_case usual question site).0 accepts in (c, labels, p, a, b, soundness usual (omega arith) (omega arith) (omega arith) question site c labels p a b (as_numbers (0 ∷ 1 ∷ 2 ∷ 3 ∷ [])) runs)

-- More than ONE: a case with a label, a type and a kind of that type. Of its two elements only GATE is a DOOR.
abbrev doors : List ℕ
doors = bytes "type\tDOOR\nchoose\tF\tPFun\tDOOR\tDOOR\nrule\t(forall (?y:DOOR) (F ?y ?y))\n"

abbrev gate : List ℕ
gate = bytes "size\t2\nlabel\t1\tGATE\nmember\tDOOR\tGATE\n"

abbrev door_case : Case
door_case = record {
  question = record {
    rels = [];
    types = bytes "DOOR" ∷ [];
    chosen = record { name = bytes "F"; arity = 2; kind = PFun; firsts = 1; seconds = 1 } ∷ [];
    every = none;
    rule = record { at = 39; text = bytes "(forall (?y:DOOR) (F ?y ?y))"; formula = forall (record { variable = bytes "?y"; type = some (bytes "DOOR") } ∷ []) (literal (bytes "F") (bytes "?y" ∷ bytes "?y" ∷ [])) };
  };
  site = record { size = 2; members = record { type = 0; element = 1 } ∷ []; facts = [] };
}

abbrev door_labels : List Label
door_labels = record { element = 1; name = bytes "GATE" } ∷ []

pub door_filed : read_filed usual doors gate ≡ accepted (record { case = door_case; labels = door_labels })
unfolding everything
door_filed = refl

pub door_problem : read_problem usual doors gate ≡ accepted (problem_of door_case)
unfolding everything
door_problem = refl

-- its one pick is built into steps that are accepted, and these are read as it
pub door_built : (build_steps usual doors gate (as_text (bytes "pick\tF\tGATE\t1\n")) (0 ∷ []) (replicate 8 9)).steps ≡ 0 ∷ 1 ∷ 2 ∷ 3 ∷ 9 ∷ 9 ∷ 9 ∷ 9 ∷ []
unfolding everything
door_built = refl

door_runs : steps_are_accepted usual doors gate (as_numbers (0 ∷ 1 ∷ 2 ∷ 3 ∷ [])) ≡ true
unfolding everything
door_runs = refl

pub door_sound : (steps : List ℕ) × (take_steps (as_numbers (0 ∷ 1 ∷ 2 ∷ 3 ∷ [])) ≡ accepted steps)
    × (are_picks door_case (picks_of (problem_of door_case) steps) ≡ true) × (are_of_kinds door_case (picks_of (problem_of door_case) steps) ≡ true) × (rule_is_true door_case (picks_of (problem_of door_case) steps) ≡ true)
door_sound = soundness usual (omega arith) (omega arith) (omega arith) doors gate door_case door_labels (problem_of door_case) door_filed door_problem (as_numbers (0 ∷ 1 ∷ 2 ∷ 3 ∷ [])) door_runs

-- the theorems of jobs 1, 4 and 5 apply to it: the element is printed by its label, and the `forall` is never proved at the other one
pub door_said : said door_labels 1 ≡ bytes "GATE"
door_said = said_label usual (omega arith) doors gate door_case door_labels door_filed (record { element = 1; name = bytes "GATE" }) (Memᴰ.head refl)

pub door_outside : (steps : List ℕ) → (run (problem_of door_case) steps).state (atom_number (problem_of door_case) (holds_node 0 0)) ≡ false
unfolding everything
door_outside = outside_false usual (omega arith) doors gate door_case refl 0 0 0 0 1 (leaf true 5 (0 ∷ 0 ∷ [])) (omega arith) refl (omega arith) (omega arith) (λ m. let e = Memᴰ.eq_of_singleton m in absurd (omega (arith, e)))

-- A case with an `every` line: for every set L of lost cards each element is picked or not lost. Its one element makes two values.
abbrev losses : List ℕ
losses = bytes "choose\tT\t1\nevery\tL\t1\nrule\t(forall (?y) (or (T ?y) (not (L ?y))))\n"

abbrev loss_case : Case
loss_case = record {
  question = record {
    rels = [];
    types = [];
    chosen = record { name = bytes "T"; arity = 1; kind = plain; firsts = 0; seconds = 0 } ∷ [];
    every = some (record { name = bytes "L"; arity = 1; kind = universal; firsts = 0; seconds = 0 });
    rule = record {
      at = 26;
      text = bytes "(forall (?y) (or (T ?y) (not (L ?y))))";
      formula = forall (record { variable = bytes "?y"; type = none } ∷ []) (disjunction (cons (literal (bytes "T") (bytes "?y" ∷ [])) (cons (negation (literal (bytes "L") (bytes "?y" ∷ []))) nil)));
    };
  };
  site = record { size = 1; members = []; facts = [] };
}

loss_filed : read_filed usual losses site ≡ accepted (record { case = loss_case; labels = [] })
unfolding everything
loss_filed = refl

loss_problem : read_problem usual losses site ≡ accepted (problem_of loss_case)
unfolding everything
loss_problem = refl

-- the pick is built into the steps of both rounds, marks and all
loss_built : (build_steps usual losses site (as_text (bytes "pick\tT\t0\n")) (0 ∷ []) (replicate 12 9)).answer ≡ accepted 10
unfolding everything
loss_built = refl

-- the steps that were built for it are accepted, and soundness says that the rule is true of the picks read from them with both values
loss_runs : steps_are_accepted usual losses site (as_numbers (built_steps (problem_of loss_case) (record { relation = 5; places = 0 ∷ [] } ∷ []))) ≡ true
unfolding everything
loss_runs = refl

pub loss_sound : (steps : List ℕ) × (take_steps (as_numbers (built_steps (problem_of loss_case) (record { relation = 5; places = 0 ∷ [] } ∷ []))) ≡ accepted steps)
    × (are_picks loss_case (picks_of (problem_of loss_case) steps) ≡ true) × (are_of_kinds loss_case (picks_of (problem_of loss_case) steps) ≡ true) × (rule_is_true loss_case (picks_of (problem_of loss_case) steps) ≡ true)
loss_sound = soundness usual (omega arith) (omega arith) (omega arith) losses site loss_case [] (problem_of loss_case) loss_filed loss_problem (as_numbers (built_steps (problem_of loss_case) (record { relation = 5; places = 0 ∷ [] } ∷ []))) loss_runs
