-- What is known of a case once its texts are read.
use Rattle.std.specs.Prelude.{ℕ, ◌≤◌, Bool, length, Ok, Err}
use Rattle.std.specs.Prelude as P
use Rattle.std.proofs.Math.Path.{◌≡◌, refl, subst, subst₂}
use Rattle.std.proofs.Common.{sym, arith, ◌∙◌}
use Rattle.std.proofs.Math.Option.{some}
use mathlib.Core.List.{List}
use Rattle.std.proofs.Math.Seq.{slice}
use Rattle.definitions.specs.Limits.{CaseLimits}
use Rattle.definitions.specs.Refusal.{Result, refused, accepted, ◌>>=◌}
use Rattle.definitions.specs.Sheet.Parsing.{read_formula}
use Rattle.definitions.specs.Sheet.Sheets.{read_question, read_site}
use Rattle.definitions.specs.Sheet.Relations.{Relation}
use Rattle.definitions.specs.Problem.Truth.{Case}
use Rattle.definitions.specs.Problem.Atoms.{problem_of, problem_with}
use Rattle.definitions.specs.Reply.Outcome.{CaseRead as Filed, read_filed, read_case}
use Rattle.read_names.specs.Signatures.{SoundSignature, rels_of, types_of, chosen_of, every_of}
use Rattle.read_tuples.specs.Labels.{LabelsAre}
use Rattle.read_tuples.specs.Members.{MembersAre}
use Rattle.read_tuples.specs.Marks.{bit_of, marks, AllValid}
use Rattle.refusal.specs.declared.Refusal.{Refusal}
use Rattle.refusal.specs.Numbers.{number_of}
use Rattle.read_question.specs.declared.Asked.{Asked}
use Rattle.read_question.specs.Drafts.{QuestionRead}
use Rattle.read_sheets.specs.Reading.{SiteRead}
use Rattle.laws.specs.Reader.{Gives, gives_if, SiteFits, LabelledFits, site_fits}
use Rattle.read_sheets.specs.declared.Opened.{Opened}

-- the case c was read from the question's text s: relations and rule are spans of it, the facts are bits
pub record Holds (s : List ℕ) (c : Case) (r : Opened) (facts : ℕ → Bool) : Type 0 where
  pub asked : read_question s ≡ accepted c.question
  pub sound : SoundSignature s r.sig
  pub some_chosen : 1 ≤ r.sig.chosen
  pub rels : c.question.rels ≡ rels_of s r.sig
  pub types : c.question.types ≡ types_of s r.sig
  pub chosen : c.question.chosen ≡ chosen_of s r.sig
  pub every : c.question.every ≡ every_of s r.sig
  pub rule_from : r.rule.from ≤ r.rule.to
  pub rule_to : r.rule.to ≤ length s
  pub formula : read_formula (slice r.rule.from r.rule.to s) ≡ some c.question.rule.formula
  pub size : r.n ≡ c.site.size
  pub some_elements : 1 ≤ r.n
  pub few_elements : r.n ≤ 64
  pub facts_are : facts ≡ marks (bit_of r.sig c.site.size 0) c.site.facts
  pub facts_valid : AllValid r.sig c.site.size 0 r.sig.rels c.site.facts
  pub members_are : MembersAre r.members r.sig.types r.n c.site.members
  pub site_fits : SiteFits c.question.rels c.question.types c.site

-- the problem has the elements that were read
pub elements_are : (s : List ℕ) (c : Case) (o : Opened) (facts : ℕ → Bool) → Holds s c o facts → o.n ≡ (problem_of c).size
unfolding problem_of problem_with
elements_are s c o facts h = h.size

-- what the reader of a case tells of what the definitions read
abbrev pub CaseRead : List ℕ → Result Case → P.Result Opened Refusal → (ℕ → Bool) → Type 0
CaseRead s x (Ok r) facts = (c : Case) × (x ≡ accepted c) × Holds s c r facts
CaseRead s x (Err e) facts = x ≡ refused (number_of e.cause) e.place

-- the same of a case with its labels, which are spans of the site's text t
abbrev pub FiledRead : (s t : List ℕ) → Result Filed → P.Result Opened Refusal → List ℕ → (ℕ → Bool) → Type 0
FiledRead s t x (Ok r) words facts = (c : Filed) × (x ≡ accepted c) × Holds s c.case r facts × LabelsAre t words r.n c.labels
FiledRead s t x (Err e) words facts = x ≡ refused (number_of e.cause) e.place

-- the case alone
pub case_alone : (L : CaseLimits) (s t : List ℕ) (r : P.Result Opened Refusal) (words : List ℕ) (facts : ℕ → Bool) → FiledRead s t (read_filed L s t) r words facts → CaseRead s (read_case L s t) r facts
unfolding read_case ◌>>=◌
case_alone L s t (Ok r) words facts (c, e, h, l) = (c.case, rw e, h)
case_alone L s t (Err e) words facts h = rw h

-- ---- from what the two readers say

module _ (L : CaseLimits) (s t : List ℕ) where
  pub question_refused : (e : Refusal) → QuestionRead s (read_question s) (Err e) → read_filed L s t ≡ refused (number_of e.cause) e.place
  unfolding read_filed ◌>>=◌
  question_refused e h = rw h

  module _ (a : Asked) (read : QuestionRead s (read_question s) (Ok a)) where
    site_is : read_filed L s t ≡ (read_site L (rels_of s a.sig) (types_of s a.sig) t >>= λ st. accepted (record { case = record { question = read.0; site = st.site }; labels = st.labels }))
    unfolding read_filed ◌>>=◌
    site_is = let (q, e, x) = read in rw (e, x.rels, x.types) refl

    pub site_refused : (e : Refusal) → read_site L (rels_of s a.sig) (types_of s a.sig) t ≡ refused (number_of e.cause) e.place → read_filed L s t ≡ refused (number_of e.cause) e.place
    unfolding ◌>>=◌
    site_refused e h = site_is ∙ rw h

    pub both_read : L.elements ≤ 64 → (n : ℕ) (words joins : List ℕ) (facts : ℕ → Bool) → SiteRead L a.sig t (read_site L (rels_of s a.sig) (types_of s a.sig) t) (Ok n) words joins facts
        → FiledRead s t (read_filed L s t) (Ok (record { sig = a.sig; rule = a.rule; n = n; members = joins })) words facts
    unfolding ◌>>=◌ Gives
    both_read small n words joins facts (st, h, i) =
        let (q, e, y) = read in
        let G : LabelledFits (rels_of s a.sig) (types_of s a.sig) st = gives_if (LabelledFits (rels_of s a.sig) (types_of s a.sig)) _ st h (site_fits L small (rels_of s a.sig) (types_of s a.sig) t) in (
          record { case = record { question = q; site = st.site }; labels = st.labels },
          site_is ∙ rw h,
          record {
            asked = e;
            sound = y.sound;
            some_chosen = y.some_chosen;
            rels = y.rels;
            types = y.types;
            chosen = y.chosen;
            every = y.every;
            rule_from = y.rule_from;
            rule_to = y.rule_to;
            formula = y.formula;
            size = i.0;
            some_elements = subst (λ (x : ℕ). 1 ≤ x) (sym i.0) i.3;
            few_elements = omega (arith, i.0, i.4, small);
            facts_are = i.1;
            facts_valid = i.2;
            members_are = subst (λ (x : ℕ). MembersAre joins a.sig.types x st.site.members) (sym i.0) i.6;
            site_fits = subst₂ (λ (rs : List Relation) (ts : List (List ℕ)). SiteFits rs ts st.site) (sym y.rels) (sym y.types) G.site_fits;
          },
          subst (λ (x : ℕ). LabelsAre t words x st.labels) (sym i.0) i.5,
        )
