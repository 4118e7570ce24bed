-- Larger limits: what is accepted under smaller ones is accepted under them as the same case and the same problem, so that every call
-- answers the same.
use Prim.Native.Nat.{ℕ, zero, ◌≤◌}
use Rattle.std.specs.Prelude.{◌≡◌, Bool, not, ◌&&◌, ◌||◌, leb, length}
use Rattle.std.proofs.Math.Path.{refl}
use Rattle.std.proofs.Common.{◌∙◌, arith}
use Rattle.std.proofs.Math.Bool.{true, false}
use Rattle.std.proofs.Math.Option.{Option, none, some}
use mathlib.Core.List.{List, [], ◌∷◌}
use Rattle.std.proofs.Math.Dec.{ltb}
use borrow.Author.Tests.{le-leb, leb-true, le-ltb, ltb-false, not-false}
use Rattle.definitions.specs.Limits.{CaseLimits, text_limit}
use Rattle.definitions.specs.Sheet.Text.{Line, lines, is_between}
use Rattle.definitions.specs.Refusal.{Result, accepted, ◌>>=◌, refuse_if, read_lines, read_text}
use Rattle.definitions.specs.Sheet.Relations.{Relation}
use Rattle.definitions.specs.Sheet.Sheets.{Entry, rel, type, choose, every, rule, size, label, member, fact, pick, step, entry_of, SiteDraft, Labelled, add_size, add_to_site, site_line, read_site, read_question}
use Rattle.definitions.specs.Problem.Truth.{Case, every_tuples}
use Rattle.definitions.specs.Problem.Atoms.{Problem, problem_of, atoms}
use Rattle.definitions.specs.Lists.{is_some}
use Rattle.definitions.specs.Problem.Built.{bound}
use Rattle.definitions.specs.Problem.Actions.{actions}
use Rattle.definitions.specs.Reply.Outcome.{CaseRead, read_filed, read_case, too_many_values, ground, read_problem, asked}
use Rattle.laws.specs.Writing.{and_l, and_r}
use Rattle.laws.specs.Booleans.{or_both}
use Rattle.laws.specs.Results.{refused_accepted, bind_parts, not_refused}
use Rattle.laws.specs.Asked

-- each of the limits is at least the other's
pub record Wider (L M : CaseLimits) : Type 0 where
  pub elements : L.elements ≤ M.elements
  pub atoms : L.atoms ≤ M.atoms
  pub actions : L.actions ≤ M.actions
  pub steps : L.steps ≤ M.steps

-- a size within the limits is taken
size_within : (M : CaseLimits) (d : SiteDraft) (at n : ℕ) → leb 1 n ≡ true → leb n M.elements ≡ true → add_size M d at n none ≡ accepted (record { sized = some n; labels = d.labels; members = d.members; facts = d.facts })
unfolding add_size is_between refuse_if ◌>>=◌
size_within M d at n a b = rw (a, b) refl

module _ (L M : CaseLimits) (w : Wider L M) where
  size_wider : (d : SiteDraft) (at n : ℕ) (o : Option ℕ) (e : SiteDraft) → add_size L d at n o ≡ accepted e → add_size M d at n o ≡ accepted e
  unfolding add_size is_between
  size_wider d at n none e q =
      let (u, r, f) = bind_parts (refuse_if (not (is_between 1 L.elements n)) 9 at) _ e q in
      let b = not-false (is_between 1 L.elements n) (not_refused (not (is_between 1 L.elements n)) 9 at u r) in
      let high = leb-true n L.elements (and_r (leb 1 n) _ b) in
      size_within M d at n (and_l (leb 1 n) _ b) (le-leb n M.elements (omega (arith, w.elements))) ∙ f
  size_wider d at n (some m) e q = absurd (refused_accepted q)

  entry_wider : (rels : List Relation) (types : List (List ℕ)) (d : SiteDraft) (at : ℕ) (x : Entry) (e : SiteDraft) → add_to_site L rels types d at x ≡ accepted e → add_to_site M rels types d at x ≡ accepted e
  unfolding add_to_site
  entry_wider rels types d at (rel name arity) e q = q
  entry_wider rels types d at (type name) e q = q
  entry_wider rels types d at (choose name arity kind names) e q = q
  entry_wider rels types d at (every name arity) e q = q
  entry_wider rels types d at (rule text) e q = q
  entry_wider rels types d at (size n) e q = size_wider d at n d.sized e q
  entry_wider rels types d at (label x name) e q = q
  entry_wider rels types d at (member t x) e q = q
  entry_wider rels types d at (fact name xs) e q = q
  entry_wider rels types d at (pick name xs) e q = q
  entry_wider rels types d at (step k) e q = q

  line_wider : (rels : List Relation) (types : List (List ℕ)) (d : SiteDraft) (l : Line) (e : SiteDraft) → site_line L rels types d l ≡ accepted e → site_line M rels types d l ≡ accepted e
  unfolding site_line ◌>>=◌
  line_wider rels types d l e q = let (x, a, b) = bind_parts (entry_of l) (add_to_site L rels types d l.at) e q in rw a (entry_wider rels types d l.at x e b)

  lines_wider : (rels : List Relation) (types : List (List ℕ)) (d : SiteDraft) (ls : List Line) (e : SiteDraft) → read_lines (site_line L rels types) d ls ≡ accepted e → read_lines (site_line M rels types) d ls ≡ accepted e
  unfolding read_lines ◌>>=◌
  lines_wider rels types d [] e q = q
  lines_wider rels types d (l ∷ ls) e q =
      let (x, a, b) = bind_parts (site_line L rels types d l) (λ y. read_lines (site_line L rels types) y ls) e q in
      rw (line_wider rels types d l x a) (lines_wider rels types x ls e b)

  site_wider : (rels : List Relation) (types : List (List ℕ)) (text : List ℕ) (s : Labelled) → read_site L rels types text ≡ accepted s → read_site M rels types text ≡ accepted s
  unfolding read_site read_text ◌>>=◌
  site_wider rels types text s q =
      let (d, a, b) = bind_parts (read_text (site_line L rels types) _ text) _ s q in
      let (u, t, f) = bind_parts (refuse_if (ltb text_limit (length text)) 1 zero) _ d a in
      rw (t, lines_wider rels types _ (lines text) d f) b

  pub filed_wider : (question site : List ℕ) (r : CaseRead) → read_filed L question site ≡ accepted r → read_filed M question site ≡ accepted r
  unfolding read_filed ◌>>=◌
  filed_wider question site r q =
      let (x, a, b) = bind_parts (read_question question) _ r q in
      let (y, e, f) = bind_parts (read_site L x.rels x.types site) _ r b in
      rw (a, site_wider x.rels x.types site y e) f

  pub case_wider : (question site : List ℕ) (c : Case) → read_case L question site ≡ accepted c → read_case M question site ≡ accepted c
  unfolding read_case ◌>>=◌
  case_wider question site c q = let (r, a, b) = bind_parts (read_filed L question site) _ c q in rw (filed_wider question site r a) b

  few_wider : (p : Problem) → too_many_values L p ≡ false → too_many_values M p ≡ false
  unfolding too_many_values
  few_wider p e = by_test (is_some p.source.question.every) e
    where
      by_test : (b : Bool) → (b && (ltb 8 (every_tuples p.source) || ltb L.steps (bound p))) ≡ false → (b && (ltb 8 (every_tuples p.source) || ltb M.steps (bound p))) ≡ false
      by_test true e =
          let (m, n) = or_both (ltb 8 (every_tuples p.source)) _ e in
          let x = ltb-false L.steps (bound p) n in
          rw (m, le-ltb M.steps (bound p) (omega (arith, w.steps))) refl
      by_test false e = refl

  pub ground_wider : (c : Case) (p : Problem) → ground L c ≡ accepted p → ground M c ≡ accepted p
  unfolding ground refuse_if ◌>>=◌
  ground_wider c p q =
      let (u, a, b) = bind_parts (refuse_if (ltb L.atoms (atoms (problem_of c)) || ltb L.actions (actions (problem_of c))) 11 zero) _ p q in
      let (v, d, e) = bind_parts (refuse_if (too_many_values L (problem_of c)) 23 zero) _ p b in
      let (m, n) = or_both (ltb L.atoms (atoms (problem_of c))) _ (not_refused _ 11 zero u a) in
      let x = ltb-false L.atoms (atoms (problem_of c)) m in
      let y = ltb-false L.actions (actions (problem_of c)) n in
      rw (le-ltb M.atoms (atoms (problem_of c)) (omega (arith, w.atoms)), le-ltb M.actions (actions (problem_of c)) (omega (arith, w.actions)), few_wider (problem_of c) (not_refused _ 23 zero v d)) e

  pub problem_wider : (question site : List ℕ) (p : Problem) → read_problem L question site ≡ accepted p → read_problem M question site ≡ accepted p
  problem_wider question site p q =
      let (r, a, g) = Asked.problem_filed L question site p q in
      Asked.problem_from M question site r.case p (Asked.filed_case M question site r (filed_wider question site r a)) (ground_wider r.case p g)

  -- so whatever is asked of an accepted case is answered alike
  pub asked_wider : {A : Type 0} (question site : List ℕ) (p : Problem) → read_problem L question site ≡ accepted p → (third : CaseRead → Result A) (early late : Case → Result (Unit {0})) (rooms : Problem → Result (Unit {0}))
      → asked L question site third early late rooms ≡ asked M question site third early late rooms
  unfolding asked ◌>>=◌
  asked_wider question site p q third early late rooms =
      let (r, a, g) = Asked.problem_filed L question site p q in
      rw (a, g, filed_wider question site r a, ground_wider r.case p g) refl
