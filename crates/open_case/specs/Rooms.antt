-- Words for the facts: how many hold those of every site, and that few do for one whose first line says a small size.
use Rattle.std.specs.Prelude.{ℕ, ◌*◌, ◌^◌, ◌≤◌, ◌≡◌, Bool, true, leb, length}
use Rattle.std.proofs.Common.{sym, ap, subst, ◌∙◌, arith, leb-true, refl}
use mathlib.Core.List.{List, [], ◌∷◌, nil≢cons}
use Rattle.std.proofs.Math.Option.{Option, none, some}
use Rattle.std.proofs.Math.Nat.{pow-le-pow_left}
use Rattle.definitions.specs.Sheet.Text.{Line}
use Rattle.definitions.specs.Refusal.{accepted, given}
use Rattle.definitions.specs.Sheet.Sheets as S
use Rattle.definitions.specs.Problem.Atoms.{words_for}
use Rattle.laws.specs.Lists.{none_some, some_eq}
use Rattle.laws.specs.Results.{given_some}
use Rattle.read_line.proofs.Fields.{lines_stop}
use Rattle.read_line.specs.Entries.{entry_in, Reads}
use Rattle.read_line.specs.declared.Entry.{Entry}
use Rattle.read_line.specs.declared.Entry.TheVariants.{Wrong, Rel, Typed, Choose, Every, Rule, Size, Label, Member, Fact, Pick, Step}
use Rattle.read_sheets.specs.Reading.{FactsRoom}

-- what holds 8 relations of three places over the most elements holds any
pub facts_room : (site : List ℕ) (most room : ℕ) → 8 * words_for (most ^ 3) ≤ room → FactsRoom site most room
unfolding words_for
facts_room site most room h k next r l = let e = pow-le-pow_left l 3 in omega arith

-- 512 words do so for 16 elements, 32,768 for 64
pub few_room : (site : List ℕ) → FactsRoom site 16 512
unfolding words_for
few_room site = facts_room site 16 512 (omega arith)

pub many_room : (site : List ℕ) → FactsRoom site 64 32768
unfolding words_for
many_room site = facts_room site 64 32768 (omega arith)

-- the line says no size, or a small one
unfoldable pub says_small : Entry → Bool
says_small Wrong = true
says_small (Rel a e k) = true
says_small (Typed a e) = true
says_small (Choose a e k kind t u v) = true
says_small (Every a e k) = true
says_small (Rule a e) = true
says_small (Size k) = leb k 16
says_small (Label x a t e) = true
says_small (Member a t k e) = true
says_small (Fact a t e xs) = true
says_small (Pick a t e xs) = true
says_small (Step k) = true

pub no_size_small : (x : Entry) → ((k : ℕ) → x ≡ Size k → ⊥) → true ≡ says_small x
unfolding says_small
no_size_small (Size k) h = absurd (h k refl)
no_size_small Wrong h = refl
no_size_small (Rel a e k) h = refl
no_size_small (Typed a e) h = refl
no_size_small (Choose a e k kind t u v) h = refl
no_size_small (Every a e k) h = refl
no_size_small (Rule a e) h = refl
no_size_small (Label x a t e) h = refl
no_size_small (Member a t k e) h = refl
no_size_small (Fact a t e xs) h = refl
no_size_small (Pick a t e xs) h = refl
no_size_small (Step k) h = refl

-- the size that an entry says, if it says one
unfoldable size_said : Option S.Entry → Option ℕ
size_said none = none
size_said (some (S.rel name arity)) = none
size_said (some (S.type name)) = none
size_said (some (S.choose name arity kind types)) = none
size_said (some (S.every name arity)) = none
size_said (some (S.rule text)) = none
size_said (some (S.size n)) = some n
size_said (some (S.label x name)) = none
size_said (some (S.member t x)) = none
size_said (some (S.fact name xs)) = none
size_said (some (S.pick name xs)) = none
size_said (some (S.step k)) = none

head_of : (a b : Line) (l m : List Line) → a ∷ l ≡ b ∷ m → a ≡ b
head_of a b l m e = ap first e
  where
    first : List Line → Line
    first [] = a
    first (x ∷ xs) = x

-- a line says one thing: where it says a size, that is what its entry says
first_says : (s : List ℕ) (next after k : ℕ) (x : Entry) → Reads s 0 next x → Reads s 0 after (Size k) → size_said (entry_in s x) ≡ some k
unfolding Reads entry_in size_said given
first_says s next after k x (l, e, _, f) (m, g, _, h) =
    let q = head_of l m _ _ (sym e ∙ g) in
    let r : given (entry_in s x) 2 0 ≡ accepted (S.size k) = sym f ∙ ap S.entry_of q ∙ h in
    ap size_said (given_some (entry_in s x) 2 0 (S.size k) r)

small_said : (s : List ℕ) (x : Entry) (k : ℕ) → says_small x ≡ true → size_said (entry_in s x) ≡ some k → k ≤ 16
unfolding says_small entry_in size_said
small_said s Wrong k h e = absurd (none_some e)
small_said s (Rel a t n) k h e = absurd (none_some e)
small_said s (Typed a t) k h e = absurd (none_some e)
small_said s (Choose a t n kind u v w) k h e = absurd (none_some e)
small_said s (Every a t n) k h e = absurd (none_some e)
small_said s (Rule a t) k h e = absurd (none_some e)
small_said s (Size n) k h e = subst (λ (m : ℕ). m ≤ 16) (some_eq e) (leb-true n 16 h)
small_said s (Label x a t u) k h e = absurd (none_some e)
small_said s (Member a t n u) k h e = absurd (none_some e)
small_said s (Fact a t u xs) k h e = absurd (none_some e)
small_said s (Pick a t u xs) k h e = absurd (none_some e)
small_said s (Step n) k h e = absurd (none_some e)

-- so a first line that says no more than 16 asks for few words
pub small_room : (s : List ℕ) (next : ℕ) (x : Entry) → Reads s 0 next x → says_small x ≡ true → FactsRoom s 64 512
unfolding words_for
small_room s next x r h k after q l = let e = pow-le-pow_left (small_said s x k h (first_says s next after k x r q)) 3 in omega arith

-- and where there is no line, none are asked for
pub no_line_room : (s : List ℕ) → length s ≡ 0 → FactsRoom s 64 512
unfolding Reads
no_line_room s e k after (l, f, _, _) h = absurd (nil≢cons (sym (lines_stop s 0 (sym e)) ∙ f))
