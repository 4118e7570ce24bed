-- The loop over a steps sheet: its state is the numbers read so far.
use Rattle.std.specs.Prelude.{Ok, Err}
use Prim.Native.Nat.{ℕ, suc, ◌+◌, ◌≤◌, ◌<◌}
use mathlib.Core.Path.{◌≡◌, refl, sym, ap, ◌∙◌}
use mathlib.Core.List.{List, [], ◌∷◌, ◌++◌, append_assoc}
use native.Mathlib.Omega.{arith}
use native.Mathlib.Decide.{dec_lt}
use native.Mathlib.Numerals.{add-one}
use lib.ListN.{length, drop, set, length-append}
use lib.Seq.{set_at, drop-cons}
use Rattle.definitions.specs.Sheet.Text.{Line}
use Rattle.definitions.specs.Limits.{text_limit}
use Rattle.definitions.specs.Refusal.{Result, refused, accepted, ◌>>=◌, given, read_lines, read_text}
use Rattle.definitions.specs.Sheet.Sheets as D
use Rattle.definitions.specs.Reply.Outcome.{written}
use Rattle.read_line.specs.Lines.{lines_at, line_by, read_at}
use Rattle.read_line.specs.Entries.{entry_in, Reads}
use Rattle.read_line.specs.declared.Entry.{Entry}
use Rattle.read_line.specs.declared.Entry.TheVariants.{Wrong, Rel, Typed, Choose, Every, Rule, Size, Label, Member, Fact, Pick, Step}
use Rattle.read_line.proofs.Runs.{read_long, read_start, read_stop, read_went, read_halted}
use Rattle.laws.specs.Told.{steps_told}
use Rattle.laws.specs.Long.{steps_long}
use Rattle.refusal.specs.declared.Cause.{Cause}
use Rattle.refusal.specs.declared.Cause.TheVariants.{NoRecord, OutOfOrder}
use Rattle.refusal.specs.Numbers.{number_of}
use Rattle.read_sheets.specs.Reading.{step_of, RoomFor, StepsRead}

accepted_is : (ks js : List ℕ) → accepted ks ≡ accepted js → ks ≡ js
accepted_is ks js p = cc

-- ---- one line

steps_by : (s : List ℕ) → D.read_steps s ≡ read_text (line_by D.add_to_steps) [] s
unfolding D.read_steps D.steps_line line_by
steps_by s = refl

module _ (s : List ℕ) (at next : ℕ) (ks : List ℕ) where
  number_line : (x : Entry) (k : ℕ) → step_of x ≡ Ok k → (given (entry_in s x) 2 at >>= D.add_to_steps ks at) ≡ accepted (ks ++ (k ∷ []))
  unfolding step_of entry_in D.add_to_steps given ◌>>=◌
  number_line (Step j) k p = let e : j ≡ k = cc in rw e
  number_line Wrong k p = absurd (cc)
  number_line (Rel a e j) k p = absurd (cc)
  number_line (Typed a e) k p = absurd (cc)
  number_line (Choose a e j d t u v) k p = absurd (cc)
  number_line (Every a e j) k p = absurd (cc)
  number_line (Rule a e) k p = absurd (cc)
  number_line (Size n) k p = absurd (cc)
  number_line (Label j a t e) k p = absurd (cc)
  number_line (Member a t j e) k p = absurd (cc)
  number_line (Fact a t e q) k p = absurd (cc)
  number_line (Pick a t e q) k p = absurd (cc)

  fault_line : (x : Entry) (c : Cause) → step_of x ≡ Err c → (given (entry_in s x) 2 at >>= D.add_to_steps ks at) ≡ refused (number_of c) at
  unfolding step_of entry_in D.add_to_steps given ◌>>=◌
  fault_line (Step j) c p = absurd (cc)
  fault_line Wrong c p = let e : NoRecord ≡ c = cc in ap (λ (d : Cause). refused (number_of d) at) e
  fault_line (Rel a e j) c p = let e : OutOfOrder ≡ c = cc in ap (λ (d : Cause). refused (number_of d) at) e
  fault_line (Typed a e) c p = let e : OutOfOrder ≡ c = cc in ap (λ (d : Cause). refused (number_of d) at) e
  fault_line (Choose a e j d t u v) c p = let e : OutOfOrder ≡ c = cc in ap (λ (d : Cause). refused (number_of d) at) e
  fault_line (Every a e j) c p = let e : OutOfOrder ≡ c = cc in ap (λ (d : Cause). refused (number_of d) at) e
  fault_line (Rule a e) c p = let e : OutOfOrder ≡ c = cc in ap (λ (d : Cause). refused (number_of d) at) e
  fault_line (Size n) c p = let e : OutOfOrder ≡ c = cc in ap (λ (d : Cause). refused (number_of d) at) e
  fault_line (Label j a t e) c p = let e : OutOfOrder ≡ c = cc in ap (λ (d : Cause). refused (number_of d) at) e
  fault_line (Member a t j e) c p = let e : OutOfOrder ≡ c = cc in ap (λ (d : Cause). refused (number_of d) at) e
  fault_line (Fact a t e q) c p = let e : OutOfOrder ≡ c = cc in ap (λ (d : Cause). refused (number_of d) at) e
  fault_line (Pick a t e q) c p = let e : OutOfOrder ≡ c = cc in ap (λ (d : Cause). refused (number_of d) at) e

  line_number : (x : Entry) (k : ℕ) → Reads s at next x → step_of x ≡ Ok k → read_at D.add_to_steps s at ks ≡ read_at D.add_to_steps s next (ks ++ (k ∷ []))
  line_number x k w p = read_went D.add_to_steps s at next ks x w (ks ++ (k ∷ [])) (number_line x k p)

  line_fault : (x : Entry) (c : Cause) → Reads s at next x → step_of x ≡ Err c → read_at D.add_to_steps s at ks ≡ refused (number_of c) at
  line_fault x c w p = read_halted D.add_to_steps s at next ks x w (number_of c) at (fault_line x c p)

-- any other line
pub step_other : (x : Entry) → (x ≡ Wrong → ⊥) → ((k : ℕ) → x ≡ Step k → ⊥) → Err OutOfOrder ≡ step_of x
unfolding step_of
step_other Wrong h i = absurd (h refl)
step_other (Step k) h i = absurd (i k refl)
step_other (Rel a e j) h i = refl
step_other (Typed a e) h i = refl
step_other (Choose a e j d t u v) h i = refl
step_other (Every a e j) h i = refl
step_other (Rule a e) h i = refl
step_other (Size n) h i = refl
step_other (Label j a t e) h i = refl
step_other (Member a t j e) h i = refl
step_other (Fact a t e q) h i = refl
step_other (Pick a t e q) h i = refl

-- ---- counting

-- n numbers were read up to `at`
unfoldable pub Reached : List ℕ → ℕ → ℕ → Type 0
Reached s at n = (ks : List ℕ) × (length ks ≡ n) × (D.read_steps s ≡ read_at D.add_to_steps s at ks)

pub long_answer : (s : List ℕ) → text_limit < length s → D.read_steps s ≡ refused 1 0
long_answer s h = steps_by s ∙ read_long D.add_to_steps s [] h

pub reach_start : (s : List ℕ) → length s ≤ text_limit → Reached s 0 0
unfolding Reached
reach_start s h = ([], refl, steps_by s ∙ read_start D.add_to_steps s [] h)

length_snoc : (ks : List ℕ) (k : ℕ) → length (ks ++ (k ∷ [])) ≡ length ks + 1
length_snoc ks k = length-append ks (k ∷ [])

module _ (s : List ℕ) (at n : ℕ) (r : Reached s at n) where
  pub reach_number : (next : ℕ) (x : Entry) (k : ℕ) → Reads s at next x → step_of x ≡ Ok k → Reached s next (n + 1)
  unfolding Reached
  reach_number next x k w p = (r.0 ++ (k ∷ []), length_snoc r.0 k ∙ ap (λ (m : ℕ). m + 1) r.1, r.2 ∙ line_number s at next r.0 x k w p)

  pub reach_fault : (next : ℕ) (x : Entry) (c : Cause) → Reads s at next x → step_of x ≡ Err c → D.read_steps s ≡ refused (number_of c) at
  unfolding Reached
  reach_fault next x c w p = r.2 ∙ line_fault s at next r.0 x c w p

  reach_stop : at ≡ length s → (ks : List ℕ) × (D.read_steps s ≡ accepted ks) × (length ks ≡ n)
  unfolding Reached
  reach_stop q = (r.0, r.2 ∙ read_stop D.add_to_steps s at r.0 q, r.1)

-- ---- writing

-- a sheet that is read to the end gives at least the numbers read so far
clash : (k place : ℕ) (all : List ℕ) → refused k place ≡ accepted all → ⊥
clash k place all p = let z : ◌≡◌ {A = ℕ} 0 1 = cc in omega arith

added : (f : List ℕ → Result (List ℕ)) (ks all : List ℕ) (at : ℕ) (e : D.Entry) → ((js : List ℕ) → f js ≡ accepted all → length js ≤ length all) → (D.add_to_steps ks at e >>= f) ≡ accepted all → length ks ≤ length all
unfolding D.add_to_steps ◌>>=◌
added f ks all at (D.step k) ih q = omega (arith, ih (ks ++ (k ∷ [])) q, length_snoc ks k)
added f ks all at (D.rel a b) ih q = absurd (clash 3 at all q)
added f ks all at (D.type a) ih q = absurd (clash 3 at all q)
added f ks all at (D.choose a b c d) ih q = absurd (clash 3 at all q)
added f ks all at (D.every a b) ih q = absurd (clash 3 at all q)
added f ks all at (D.rule a) ih q = absurd (clash 3 at all q)
added f ks all at (D.size a) ih q = absurd (clash 3 at all q)
added f ks all at (D.label a b) ih q = absurd (clash 3 at all q)
added f ks all at (D.member a b) ih q = absurd (clash 3 at all q)
added f ks all at (D.fact a b) ih q = absurd (clash 3 at all q)
added f ks all at (D.pick a b) ih q = absurd (clash 3 at all q)

lined : (f : List ℕ → Result (List ℕ)) (ks all : List ℕ) (at : ℕ) (r : Result D.Entry) → ((js : List ℕ) → f js ≡ accepted all → length js ≤ length all) → ((r >>= D.add_to_steps ks at) >>= f) ≡ accepted all → length ks ≤ length all
unfolding ◌>>=◌
lined f ks all at (refused k place) ih q = absurd (clash k place all q)
lined f ks all at (accepted e) ih q = added f ks all at e ih q

grows : (ls : List Line) (ks all : List ℕ) → read_lines (line_by D.add_to_steps) ks ls ≡ accepted all → length ks ≤ length all
unfolding read_lines line_by
grows [] ks all p = let z = accepted_is ks all p in rw z (omega arith)
grows (l ∷ ls) ks all p = lined (λ st. read_lines (line_by D.add_to_steps) st ls) ks all l.at (D.entry_of l) (λ js q. grows ls js all q) p

-- the sheet is accepted, and there is room for its numbers
unfoldable pub Writes : Result (List ℕ) → ℕ → Type 0
Writes (refused k place) room = ⊥
Writes (accepted ks) room = length ks ≤ room

-- n numbers were read up to `at` and written to the front of out
unfoldable pub Written : List ℕ → List ℕ → ℕ → ℕ → List ℕ → Type 0
Written s old at n out = (ks : List ℕ) × (length ks ≡ n) × (D.read_steps s ≡ read_at D.add_to_steps s at ks) × (out ≡ ks ++ drop n old)

writes_is : (r : Result (List ℕ)) (room : ℕ) → Writes r room → (all : List ℕ) × (r ≡ accepted all) × (length all ≤ room)
unfolding Writes
writes_is (refused k place) room w = absurd w
writes_is (accepted all) room w = (all, refl, w)

short : (r : Result (List ℕ)) (room k : ℕ) → r ≡ refused 1 k → Writes r room → ⊥
unfolding Writes
short r room k p w = let q = writes_is r room w in clash 1 k q.0 (sym p ∙ q.1)

pub write_start : (s old : List ℕ) → Writes (D.read_steps s) (length old) → Written s old 0 0 old
unfolding Written
write_start s old w = ([], refl, steps_by s ∙ read_start D.add_to_steps s [] (from_this (dec_lt text_limit (length s))), refl)
  where
    from_this : Dec (text_limit < length s) → length s ≤ text_limit
    from_this (yes h) = absurd (short (D.read_steps s) (length old) 0 (steps_by s ∙ read_long D.add_to_steps s [] h) w)
    from_this (no h) = omega arith

module _ (s old : List ℕ) (at n : ℕ) (out : List ℕ) (w : Writes (D.read_steps s) (length old)) (r : Written s old at n out) where
  pub write_room : (next : ℕ) (x : Entry) (k : ℕ) → Reads s at next x → step_of x ≡ Ok k → n < length old
  unfolding Written read_at
  write_room next x k h p =
      let q = writes_is (D.read_steps s) (length old) w in
      omega (arith, r.1, q.2, length_snoc r.0 k, grows (lines_at s next) (r.0 ++ (k ∷ [])) q.0 (sym (line_number s at next r.0 x k h p) ∙ sym r.2 ∙ q.1))

  pub write_number : (next : ℕ) (x : Entry) (k : ℕ) → Reads s at next x → step_of x ≡ Ok k → Written s old next (n + 1) (set out n k)
  unfolding Written
  write_number next x k h p = (
    r.0 ++ (k ∷ []),
    length_snoc r.0 k ∙ ap (λ (m : ℕ). m + 1) r.1,
    r.2 ∙ line_number s at next r.0 x k h p,
    rw (r.3, drop-cons old n 0 (write_room next x k h p), add-one) (set_at r.0 _ (drop (suc n) old) k n r.1 ∙ sym (append_assoc r.0 (k ∷ []) (drop (suc n) old))),
  )

  write_stop : at ≡ length s → (ks : List ℕ) → D.read_steps s ≡ accepted ks → out ≡ written ks old
  unfolding Written written
  write_stop e ks q =
      let z = accepted_is r.0 ks (sym (r.2 ∙ read_stop D.add_to_steps s at r.0 e) ∙ q) in
      r.3 ∙ rw (← z, r.1)

-- ---- a step line has at least 7 bytes, so a text has no more steps than a seventh of its bytes

steps_few : (s ks : List ℕ) (room : ℕ) → D.read_steps s ≡ accepted ks → RoomFor s room → length ks ≤ room
steps_few s ks room p h = let v = steps_told s ks p in omega (arith, steps_long ks, ap length v.0, h v.1)

-- ---- the whole

pub steps_stop : (s old out : List ℕ) (at n : ℕ) → RoomFor s (length old) → Reached s at n → (Writes (D.read_steps s) (length old) → Written s old at n out) → at ≡ length s
    → StepsRead (D.read_steps s) (Ok n) old out
unfolding Writes
steps_stop s old out at n h r w e =
    let (ks, q, l) = reach_stop s at n r e in
    let f = steps_few s ks (length old) q h in
    let v : Writes (D.read_steps s) (length old) = rw q f in
    (ks, q, sym l, omega (arith, l, f), write_stop s old at n out v (w v) e ks q)
