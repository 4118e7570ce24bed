-- What the signature of an accepted question says of the case's problem: its relations, and that the names of its `choose` relations
-- are short. Assumes nothing.
use Rattle.std.specs.Prelude.{ℕ, ◌+◌, ◌≤◌, ◌<◌, ◌≡◌, refl}
use Rattle.std.proofs.Math.Path.{ap, subst}
use Rattle.std.proofs.Common.{◌∙◌, arith}
use mathlib.Core.List.{List}
use Rattle.std.proofs.Math.ListN.{length, get_or}
use Rattle.definitions.specs.Sheet.Relations.{Relation}
use Rattle.definitions.specs.Sheet.Sheets.{relations, relations_of}
use Rattle.definitions.specs.Problem.Truth.{Case}
use Rattle.definitions.specs.Problem.Atoms.{problem_with, problem_of}
use Rattle.laws.specs.Lists.{get_or_mem}
use Rattle.read_names.specs.declared.Signature.{Signature}
use Rattle.read_names.specs.Signatures.{relation_in, rels_of, chosen_of, every_of, all_of}
use Rattle.read_names.proofs.Laws.{length_relations, relation_at_lem}
use Rattle.laws.specs.Reader.{Accepted}
use Rattle.print_report.specs.Report.{name_at}
use Rattle.print_line.specs.Lines.{part_is}
use Rattle.print_report.specs.Agrees.{no_relation}
use Rattle.laws.specs.Lines.{name_short}

all_relations : (c : Case) → (problem_of c).relations ≡ relations c.question.rels c.question.chosen c.question.every
unfolding problem_of problem_with relations_of
all_relations c = refl

module _ (q : List ℕ) (g : Signature) (c : Case) (rels_are : c.question.rels ≡ rels_of q g) (chosen_are : c.question.chosen ≡ chosen_of q g) where
  chosen_count : length c.question.chosen ≡ g.chosen
  unfolding chosen_of
  chosen_count = ap length chosen_are ∙ length_relations q g g.rels g.chosen

  pub its_relations : c.question.every ≡ every_of q g → (problem_of c).relations ≡ all_of q g
  unfolding all_of
  its_relations every_is = all_relations c ∙ rw (rels_are, chosen_are, every_is)

  module _ (A : Accepted c) where
    pub its_names : (j : ℕ) → j < g.chosen → length (name_at q g (g.rels + j)) ≤ 12
    unfolding name_at chosen_of relation_in
    its_names j h =
        let r : Relation = get_or c.question.chosen j no_relation in
        let t = A.question_fits.chosen_named r (get_or_mem c.question.chosen j no_relation (let e = chosen_count in omega arith)) in
        let e : r.name ≡ name_at q g (g.rels + j) =
        ap (λ (rs : List Relation). (get_or rs j no_relation).name) chosen_are ∙ ap (λ (k : Relation). k.name) (relation_at_lem q g g.rels g.chosen j no_relation h) ∙ part_is (get_or g.from (g.rels + j) 0) (get_or g.to (g.rels + j) 0) q in
        subst (λ (name : List ℕ). length name ≤ 12) e (name_short r.name t)
