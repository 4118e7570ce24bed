-- What the desk program prints, case by case: too long an input, the checked and the built plan, and the report's parts with their
-- length. Assumes nothing.
use Prim.Native.Nat.{ℕ, ◌+◌, ◌-◌, ◌*◌, ◌≤◌, ◌<◌}
use Rattle.std.specs.Prelude.{◌≡◌, Bool, true, false, length, take, drop, if◌then◌else◌}
use Rattle.std.proofs.Common.{sym, ◌∙◌, arith, length-append, lt-ltb, le-ltb}
use Rattle.std.proofs.Math.Path.{ap}
use mathlib.Core.List.{List, [], ◌∷◌, ◌++◌, map, append_assoc}
use Rattle.definitions.specs.Limits.{early}
use Rattle.definitions.specs.Lists.{flat_map, sum}
use Rattle.definitions.specs.Sheet.Text.{bytes, decimal}
use Rattle.definitions.specs.Refusal.{Result, refused, accepted, ◌>>=◌, refuse_if}
use Rattle.definitions.specs.Sheet.Relations.{Tuple}
use Rattle.definitions.specs.Sheet.Sheets.{Label}
use Rattle.definitions.specs.Problem.Atoms.{Problem, relation_at, atoms}
use Rattle.definitions.specs.Problem.Actions.{actions}
use Rattle.definitions.specs.Problem.Built.{picked_rows, bound}
use Rattle.definitions.specs.Reply.Outcome.{Plan, plan, as_text, sizes_of}
use Rattle.definitions.specs.Reply.Desk.{print_line, sizes_line, said, pick_line, step_line, report, printed, CaseSheets, sheets, checked_plan, answer_of, answer, desk}
use Rattle.meaning.specs.Means.{Good}
use Rattle.laws.specs.Labels.{LabelsFit}
use Rattle.meaning.specs.Few.{rows_few}
use Rattle.read_names.specs.declared.Signature.{Signature}
use Rattle.read_names.specs.Signatures.{SoundSignature}
use Rattle.print_report.specs.Cutting.{CutAt}
use Rattle.print_report.specs.Report.{name_at, counts, picks, head_of}
use Rattle.print_report.specs.Agrees.{Agrees, its_name, its_arity, counts_agree, picks_agree_all}
use Rattle.print_report.specs.Short.{sizes_short, pick_short, flat_most, sum_most, counts_short}
use Rattle.laws.specs.Spelling.{said_short}

-- ---- which answer

pub too_long : (input : List ℕ) → 16384 < length input → desk input ≡ print_line (bytes "no" ∷ decimal 1 ∷ decimal 0 ∷ [])
unfolding desk answer refuse_if ◌>>=◌ printed
too_long input h = rw (lt-ltb 16384 (length input) h)

fits : (input : List ℕ) → length input ≤ 16384 → desk input ≡ printed (answer_of (sheets input))
unfolding desk answer refuse_if ◌>>=◌
fits input h = rw (le-ltb 16384 (length input) h)

module _ (input : List ℕ) (h : length input ≤ 16384) (question site : ℕ) (steps : Bool) (c : CutAt input question site steps) where
  cut_answer : desk input ≡ printed (if steps then checked_plan (take question input) (take (site - question) (drop question input)) (drop site input) else plan early (take question input) (take (site - question) (drop question input)) (as_text (drop site input)) 1024 8192)
  unfolding answer_of
  cut_answer =
      fits input h ∙ ap (λ (s : CaseSheets). printed (answer_of s)) c.sheets
      ∙ ap (λ (b : Bool). printed (if b then checked_plan (take question input) (take (site - question) (drop question input)) (drop site input) else plan early (take question input) (take (site - question) (drop question input)) (as_text (drop site input)) 1024 8192)) (sym c.begins)

  pub checked_answer : steps ≡ true → desk input ≡ printed (checked_plan (take question input) (take (site - question) (drop question input)) (drop site input))
  checked_answer e = cut_answer ∙ rw e

  pub built_answer : steps ≡ false → desk input ≡ printed (plan early (take question input) (take (site - question) (drop question input)) (as_text (drop site input)) 1024 8192)
  built_answer e = cut_answer ∙ rw e

-- ---- a refusal, a report

pub refused_is : (r : Result Plan) (k place : ℕ) → r ≡ refused k place → printed r ≡ print_line (bytes "no" ∷ decimal k ∷ decimal place ∷ [])
unfolding printed
refused_is r k place e = rw e

module _ (ls : List Label) (p : Problem) (F : List Tuple) (ks : List ℕ) (say : ℕ → List ℕ) (q : List ℕ) (g : Signature) (n : ℕ) (words : List ℕ) (so : say ≡ said ls) (A : Agrees p F q g n words) where
  sizes_are : sizes_of p ≡ record { elements = n; atom_count = atoms p; action_count = actions p; step_bound = bound p }
  unfolding sizes_of
  sizes_are = ap (λ (m : ℕ). record { elements = m; atom_count = atoms p; action_count = actions p; step_bound = bound p }) A.size

  pub report_is : (r : Result Plan) → r ≡ accepted (record { labels = ls; problem = p; picks = F; steps = ks })
      → printed r ≡ head_of say q g n (atoms p) (actions p) (bound p) words ++ (flat_map step_line ks ++ print_line (bytes "ok" ∷ decimal (length ks) ∷ []))
  unfolding printed report head_of
  report_is r e =
      let end : List ℕ = flat_map step_line ks ++ print_line (bytes "ok" ∷ decimal (length ks) ∷ []) in
      rw (e, sizes_are, so, ← counts_agree p F q g n words A, ← picks_agree_all p F q g n words A ls)
      (sym (append_assoc (sizes_line (record { elements = n; atom_count = atoms p; action_count = actions p; step_bound = bound p })) (counts q g n words ++ picks (said ls) q g n words) end
      ∙ ap (λ (t : List ℕ). sizes_line (record { elements = n; atom_count = atoms p; action_count = actions p; step_bound = bound p }) ++ t) (append_assoc (counts q g n words) (picks (said ls) q g n words) end)))

-- ---- the report up to its steps fits: a pick has a line of 57 bytes at the most

module _ (ls : List Label) (p : Problem) (F : List Tuple) (q : List ℕ) (g : Signature) (n : ℕ) (words : List ℕ) (A : Agrees p F q g n words) (L : LabelsFit n ls) (s : SoundSignature q g) (some : 1 ≤ n) (few : n ≤ 16) (named : (j : ℕ) → j < g.chosen → length (name_at q g (g.rels + j)) ≤ 12) where
  line_short : (j row : ℕ) → j < g.chosen → length (pick_line ls p (5 + (g.rels + j)) row) ≤ 57
  unfolding pick_line
  line_short j row h =
      let a = its_arity p F q g n words A j h in
      pick_short (said ls) (λ x l. said_short n ls L x (omega arith)) _ p.size (relation_at p (5 + (g.rels + j))).arity row (rw (its_name p F q g n words A j h) (named j h))
      (omega (arith, A.size)) (omega (arith, A.size)) (omega (arith, s.arities (g.rels + j) (omega arith)))

  rows_short : (j : ℕ) → j < g.chosen → length (flat_map (pick_line ls p (5 + g.rels + j)) (picked_rows p F (5 + g.rels + j))) ≤ 57 * length (picked_rows p F (5 + g.rels + j))
  rows_short j h = let y : 5 + g.rels + j ≡ 5 + (g.rels + j) = omega arith in rw y (flat_most (pick_line ls p (5 + (g.rels + j))) 57 (picked_rows p F (5 + (g.rels + j))) (λ row. line_short j row h))

  pub picks_short : Good p → (say : ℕ → List ℕ) → say ≡ said ls → length (picks say q g n words) ≤ 57 * length F
  picks_short G say so =
      let a = sum_most (λ k. flat_map (pick_line ls p k) (picked_rows p F k)) (λ k. length (picked_rows p F k)) 57 (5 + g.rels) g.chosen rows_short in
      let b = ap length (ap (λ (f : ℕ → List ℕ). picks f q g n words) so ∙ picks_agree_all p F q g n words A ls ∙ ap (flat_map (λ k. flat_map (pick_line ls p k) (picked_rows p F k))) A.chosen) in
      let c = ap (λ (rs : List ℕ). sum (map (λ k. length (picked_rows p F k)) rs)) A.chosen in
      omega (arith, rows_few p G F)

pub head_short : (say : ℕ → List ℕ) (q : List ℕ) (g : Signature) (n atoms actions bound : ℕ) (words : List ℕ) → SoundSignature q g → ((j : ℕ) → j < g.chosen → length (name_at q g (g.rels + j)) ≤ 12)
    → length (head_of say q g n atoms actions bound words) ≤ length (picks say q g n words) + 250
unfolding head_of
head_short say q g n atoms actions bound words s named =
    let a = sizes_short (record { elements = n; atom_count = atoms; action_count = actions; step_bound = bound }) in
    let b = counts_short q g n words s named in
    let d = length-append (sizes_line (record { elements = n; atom_count = atoms; action_count = actions; step_bound = bound })) (counts q g n words ++ picks say q g n words) in
    let e = length-append (counts q g n words) (picks say q g n words) in
    omega arith
