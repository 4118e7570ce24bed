-- Where the limits of texts and of lent steps lie: one byte or one step more is 1, and nothing the desk program reads comes near; how
-- many picks it can print.
use Rattle.std.specs.Prelude.{ℕ, zero, suc, ◌*◌, ◌<◌, ◌≤◌, ◌≡◌, refl, Bool, true, false, List, [], ◌∷◌, map, ltb, length, take, drop, if◌then◌else◌}
use Rattle.std.proofs.Common.{sym, subst, arith, le-ltb, lt-ltb, ltb-false}
use Rattle.definitions.specs.Limits.{early, text_limit, step_limit, desk_bytes, desk_steps, desk_words}
use Rattle.definitions.specs.Lists.{sum}
use Rattle.definitions.specs.Sheet.Text.{Line, lines}
use Rattle.definitions.specs.Refusal.{Result, refused, accepted, ◌>>=◌, refuse_if, read_lines, read_text}
use Rattle.definitions.specs.Sheet.Sheets.{read_steps}
use Rattle.definitions.specs.Problem.Atoms.{Problem, problem_of}
use Rattle.definitions.specs.Problem.Built.{chosen_numbers, picked_rows}
use Rattle.definitions.specs.Reply.Outcome.{read_case, as_text, as_numbers, take_steps, Plan, plan}
use Rattle.definitions.specs.Reply.Desk.{CaseSheets, sheets, cut_at, after_question, site_and_rest, after_rule, first_pick_or_step, checked_plan, starts_with_step, answer_of, answer}
use Rattle.laws.specs.Results.{bind_parts, not_refused}
use Rattle.meaning.specs.Few
use Rattle.laws.specs.Reader.{Accepted, case_fits, gives_if}
use Rattle.meaning.specs.Grounded.{good}
use Rattle.meaning.specs.Building.{ground_is}
use Rattle.demands.specs.Filed.{desk_filed}

pub text_long : {S : Type 0} (line : S → Line → Result S) (s : S) (text : List ℕ) → text_limit < length text → read_text line s text ≡ refused 1 zero
unfolding read_text refuse_if ◌>>=◌
text_long line s text h = let e : ltb text_limit (length text) ≡ true = lt-ltb text_limit (length text) h in rw e refl

pub lent_many : (ks : List ℕ) → step_limit < length ks → take_steps (as_numbers ks) ≡ refused 1 zero
unfolding take_steps refuse_if ◌>>=◌
lent_many ks h = let e : ltb step_limit (length ks) ≡ true = lt-ltb step_limit (length ks) h in rw e refl

-- what is within a smaller limit is read by it just so
pub text_kept : {S : Type 0} (line : S → Line → Result S) (s : S) (limit : ℕ) → limit ≤ text_limit → (text : List ℕ) → length text ≤ limit → read_text line s text ≡ (refuse_if (ltb limit (length text)) 1 zero >>= λ _. read_lines line s (lines text))
unfolding read_text
text_kept line s limit h text l = rw (le-ltb text_limit (length text) (omega arith), le-ltb limit (length text) l) refl

pub steps_kept : (limit : ℕ) → limit ≤ step_limit → (steps : List ℕ) → length steps ≤ limit → take_steps (as_numbers steps) ≡ (refuse_if (ltb limit (length steps)) 1 zero >>= λ _. accepted steps)
unfolding take_steps
steps_kept limit h steps l = rw (le-ltb step_limit (length steps) (omega arith), le-ltb limit (length steps) l) refl

-- a sheet is part of the input
taken : (k : ℕ) (l : List ℕ) → length (take k l) ≤ length l
taken zero l = omega arith
taken (suc k) [] = omega arith
taken (suc k) (x ∷ l) = omega (arith, taken k l)

dropped : (k : ℕ) (l : List ℕ) → length (drop k l) ≤ length l
dropped zero l = omega arith
dropped (suc k) [] = omega arith
dropped (suc k) (x ∷ l) = omega (arith, dropped k l)

pub sheets_short : (input : List ℕ) (m : ℕ) → length input ≤ m → (length (sheets input).question ≤ m) × (length (sheets input).site ≤ m) × (length (sheets input).rest ≤ m)
unfolding sheets cut_at after_question site_and_rest
sheets_short input m h =
    let cut = after_rule (length input) (lines input) in
    let more = drop cut input in
    let next = first_pick_or_step (length more) (lines more) in
    (omega (arith, h, taken cut input), omega (arith, h, dropped cut input, taken next more), omega (arith, h, dropped cut input, dropped next more))

-- a step is a line, so there are no more steps than bytes
pub steps_fewer : (text ks : List ℕ) → read_steps text ≡ accepted ks → length ks ≤ length text
steps_fewer text ks e = let h = Few.steps_few text ks e in omega arith

-- no desk case has more picks than 7 bytes each leave room for
pub desk_picks : (input : List ℕ) (b : Plan) → answer input ≡ accepted b → (length b.picks ≤ 2340) × (sum (map (λ r. length (picked_rows b.problem b.picks r)) (chosen_numbers b.problem)) ≤ 2340)
unfolding answer answer_of
desk_picks input b e =
    let (u, f, g) = bind_parts (refuse_if (ltb desk_bytes (length input)) 1 zero) _ b e in
    let l = ltb-false desk_bytes (length input) (not_refused (ltb desk_bytes (length input)) 1 zero u f) in
    let (q, s, r) = sheets_short input desk_bytes l in
    let n = few (sheets input) (starts_with_step (lines (sheets input).rest)) g in
    let (c, rc, rg, h) = desk_filed input b e in
    let A = gives_if Accepted (read_case early (sheets input).question (sheets input).site) c rc (case_fits early (omega arith) (sheets input).question (sheets input).site) in
    let m = subst (λ (p : Problem). sum (map (λ r. length (picked_rows p b.picks r)) (chosen_numbers p)) ≤ length b.picks) (sym (ground_is early c b.problem rg)) (Few.rows_few (problem_of c) (good c A) b.picks) in
    (omega (arith, n, r), omega (arith, n, r, m))
  where
    few : (s : CaseSheets) (t : Bool) → (if t then checked_plan s.question s.site s.rest else plan early s.question s.site (as_text s.rest) desk_words desk_steps) ≡ accepted b → 7 * length b.picks ≤ length s.rest
    few s true h = Few.checked_few s.question s.site s.rest b h
    few s false h = Few.plan_few early s.question s.site s.rest desk_words desk_steps b h
