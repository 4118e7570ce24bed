-- What the readers of a site, of picks and of steps answer and leave, by what the definitions read.
use Rattle.std.specs.Prelude.{ℕ, zero, suc, ◌+◌, ◌*◌, ◌^◌, ◌≤◌, ◌<◌, ◌≡◌, Bool, false, not, ◌||◌, List, [], eqb, length, get_or, if◌then◌else◌, Ok, Err}
use Rattle.std.specs.Prelude as P
use Rattle.std.proofs.Math.Option.{Option, none, some}
use Rattle.definitions.specs.Limits.{CaseLimits, text_limit}
use Rattle.definitions.specs.Lists.{is_empty}
use Rattle.definitions.specs.Sheet.Text.{is_between}
use Rattle.definitions.specs.Refusal.{Result, refused, accepted, ◌>>=◌, given}
use Rattle.definitions.specs.Sheet.Relations.{Tuple}
use Rattle.definitions.specs.Sheet.Sheets as D
use Rattle.definitions.specs.Problem.Atoms.{words_for}
use Rattle.definitions.specs.Reply.Outcome.{written}
use Rattle.bits.specs.Table.{bit}
use Rattle.refusal.specs.declared.Cause.{Cause}
use Rattle.refusal.specs.declared.Cause.TheVariants.{NoRecord, OutOfOrder, OutOfRange, BadType}
use Rattle.refusal.specs.declared.Refusal.{Refusal}
use Rattle.refusal.specs.Numbers.{number_of}
use Rattle.read_line.specs.Entries.{entry_in, Reads}
use Rattle.read_line.specs.declared.Entry.{Entry}
use Rattle.read_line.specs.declared.Entry.TheVariants.{Wrong, Rel, Typed, Choose, Every, Rule, Size, Label, Member, Fact, Pick, Step}
use Rattle.read_names.specs.declared.Signature.{Signature}
use Rattle.read_names.specs.Signatures.{rels_of, types_of, chosen_of}
use Rattle.read_tuples.specs.Labels.{LabelsAre}
use Rattle.read_tuples.specs.Members.{MembersAre}
use Rattle.read_tuples.specs.Marks.{Roomy, bit_of, marks, AllValid}
use Rattle.read_sheets.specs.declared.Stage.{Stage}

-- the m relations from lo on are few, and no arity among these or before is above 3
abbrev pub FewArities : ℕ → ℕ → List ℕ → Type 0
FewArities lo m arity = (lo + m ≤ 12) × ((j : ℕ) → j < lo + m → get_or arity j 0 ≤ 3)

-- ---- a site

-- a table of so many words holds the facts of the site, by what its first line says of its size
abbrev pub SizeRoom : List ℕ → Signature → ℕ → ℕ → Type 0
SizeRoom s g most room = (k next : ℕ) → Reads s 0 next (Size k) → k ≤ most → Roomy g.from g.to g.arity 0 g.rels k room

-- the same for any relations: none has more words than one of three places, and there are at most 8
abbrev pub FactsRoom : List ℕ → ℕ → ℕ → Type 0
FactsRoom s most room = (k next : ℕ) → Reads s 0 next (Size k) → k ≤ most → 8 * words_for (k ^ 3) ≤ room

-- the size so far, 0 for none, and the lines so far
unfoldable pub sized_of : ℕ → Option ℕ
sized_of zero = none
sized_of (suc n) = some (suc n)

unfoldable pub draft : ℕ → List D.Label → List D.Member → List Tuple → D.SiteDraft
draft n labels members facts = record { sized = sized_of n; labels = labels; members = members; facts = facts }

-- the table holds the facts, all of them tuples of a `rel` over n elements
unfoldable pub Facts : CaseLimits → Signature → ℕ → List Tuple → (ℕ → Bool) → Type 0
Facts L g n facts p = (n ≤ L.elements) × (p ≡ marks (bit_of g n 0) facts) × AllValid g n 0 g.rels facts × (n ≡ 0 → facts ≡ [])

-- what is held of a site s so far: its facts, its labels, whether there was a fact, its members, and whether there was one
unfoldable pub SoFar : CaseLimits → Signature → List ℕ → Stage → List D.Label → List D.Member → List Tuple → (words joins : List ℕ) → (ℕ → Bool) → Type 0
SoFar L g s st labels members facts words joins p =
    Facts L g st.n facts p × LabelsAre s words st.n labels × (st.begun ≡ not (is_empty facts)) × MembersAre joins g.types st.n members × (st.joined ≡ not (is_empty members))

-- a line that says the size k
unfoldable pub size_turn : ℕ → ℕ → Stage → P.Result Stage Cause
size_turn k most st =
    if not (eqb st.n 0) then Err OutOfOrder else if is_between 1 most k then Ok (record { n = k; joined = st.joined; begun = st.begun }) else Err OutOfRange

-- no `label` line, and no `member` line, may stand there
unfoldable pub member_out : Stage → Bool
member_out st = st.begun || eqb st.n 0

unfoldable pub label_out : Stage → Bool
label_out st = st.joined || member_out st

-- one line of a site
unfoldable pub SiteTurns : CaseLimits → Signature → List ℕ → Result D.SiteDraft → ℕ → P.Result Stage Cause → (words joins : List ℕ) → (ℕ → Bool) → Type 0
SiteTurns L g s res at (Ok st) words joins p =
    (labels : List D.Label) × (members : List D.Member) × (facts : List Tuple) × (res ≡ accepted (draft st.n labels members facts)) × SoFar L g s st labels members facts words joins p
SiteTurns L g s res at (Err k) words joins p = res ≡ refused (number_of k) at

unfoldable pub SiteTurned : CaseLimits → List ℕ → Signature → List ℕ → Stage → Entry → (oldWords newWords oldJoins newJoins old new : List ℕ) → P.Result Stage Cause → Type 0
SiteTurned L q g s st x oldWords newWords oldJoins newJoins old new r =
    (at : ℕ) → (labels : List D.Label) → (members : List D.Member) → (facts : List Tuple) → SoFar L g s st labels members facts oldWords oldJoins (bit old)
    → SiteTurns L g s (given (entry_in s x) 2 at >>= D.add_to_site L (rels_of q g) (types_of q g) (draft st.n labels members facts) at) at r newWords newJoins (bit new)

-- how a site of n elements ends whose types do or do not all have members
unfoldable pub end_of : ℕ → Bool → ℕ → P.Result ℕ Refusal
end_of n each end = if eqb n 0 then Err (record { cause = OutOfOrder; place = end }) else if each then Ok n else Err (record { cause = BadType; place = 0 })

-- a whole site: its facts are in the table, its labels in the words, and its members in theirs
abbrev pub SiteIn : CaseLimits → Signature → List ℕ → D.Labelled → ℕ → (words joins : List ℕ) → (ℕ → Bool) → Type 0
SiteIn L g s st n words joins p =
    (n ≡ st.site.size) × (p ≡ marks (bit_of g st.site.size 0) st.site.facts) × AllValid g st.site.size 0 g.rels st.site.facts × (1 ≤ st.site.size) × (st.site.size ≤ L.elements)
    × LabelsAre s words st.site.size st.labels × MembersAre joins g.types st.site.size st.site.members

-- what the lines of a site tell of what the definitions read
abbrev pub GotSite : CaseLimits → Signature → List ℕ → Result D.Labelled → P.Result ℕ Refusal → (words joins : List ℕ) → (ℕ → Bool) → Type 0
GotSite L g s x (Ok n) words joins p = (st : D.Labelled) × (x ≡ accepted st) × SiteIn L g s st n words joins p
GotSite L g s x (Err e) words joins p = x ≡ refused (number_of e.cause) e.place

-- and the reader of a site; the table of one that is refused is clear
abbrev pub SiteRead : CaseLimits → Signature → List ℕ → Result D.Labelled → P.Result ℕ Refusal → (words joins : List ℕ) → (ℕ → Bool) → Type 0
SiteRead L g s x (Ok n) words joins p = GotSite L g s x (Ok n) words joins p
SiteRead L g s x (Err e) words joins p = GotSite L g s x (Err e) words joins p × (p ≡ λ i. false)

-- a table stays as it is, or is cleared where what was read into it is refused
abbrev pub Cleared : P.Result ℕ Refusal → (old new : List ℕ) → Type 0
Cleared (Ok n) old new = new ≡ old
Cleared (Err e) old new = bit new ≡ λ i. false

-- ---- picks

-- a table of so many words holds the picks of every text, over n elements
abbrev pub PicksRoom : Signature → ℕ → ℕ → Type 0
PicksRoom g n room = Roomy g.from g.to g.arity g.rels g.chosen n room

-- the table holds the picks, all of them tuples of a `choose` over n elements
unfoldable pub Picks : Signature → ℕ → List Tuple → (ℕ → Bool) → Type 0
Picks g n picks p = (p ≡ marks (bit_of g n g.rels) picks) × AllValid g n g.rels g.chosen picks

-- one line of picks
unfoldable pub PickTurns : Signature → ℕ → List Tuple → Result (List Tuple) → ℕ → P.Result (Unit {0}) Cause → (ℕ → Bool) → Type 0
PickTurns g n picks res at (Ok u) p = (more : List Tuple) × (res ≡ accepted more) × Picks g n more p × (length more ≡ length picks + 1)
PickTurns g n picks res at (Err k) p = res ≡ refused (number_of k) at

unfoldable pub PickTurned : List ℕ → Signature → List ℕ → ℕ → List D.Label → Entry → List ℕ → List ℕ → P.Result (Unit {0}) Cause → Type 0
PickTurned q g s n labels x old new r = (at : ℕ) → (picks : List Tuple) → Picks g n picks (bit old)
    → PickTurns g n picks (given (entry_in s x) 2 at >>= D.add_to_picks (chosen_of q g) (5 + g.rels) n labels picks at) at r (bit new)

-- what the lines of picks tell of what the definitions read: how many, and they are in the table
abbrev pub GotPicks : Signature → ℕ → Result (List Tuple) → P.Result ℕ Refusal → (ℕ → Bool) → Type 0
GotPicks g n x (Ok k) p = (picks : List Tuple) × (x ≡ accepted picks) × (k ≡ length picks) × Picks g n picks p
GotPicks g n x (Err e) p = x ≡ refused (number_of e.cause) e.place

-- and the reader of picks; the table of those that are refused is clear
abbrev pub PicksRead : Signature → ℕ → Result (List Tuple) → P.Result ℕ Refusal → (ℕ → Bool) → Type 0
PicksRead g n x (Ok k) p = GotPicks g n x (Ok k) p
PicksRead g n x (Err e) p = GotPicks g n x (Err e) p × (p ≡ λ i. false)

-- ---- steps

-- the step of a line
unfoldable pub step_of : Entry → P.Result ℕ Cause
step_of Wrong = Err NoRecord
step_of (Rel a e k) = Err OutOfOrder
step_of (Typed a e) = Err OutOfOrder
step_of (Choose a e k d t u v) = Err OutOfOrder
step_of (Every a e k) = Err OutOfOrder
step_of (Rule a e) = Err OutOfOrder
step_of (Size n) = Err OutOfOrder
step_of (Label k a t e) = Err OutOfOrder
step_of (Member a t k e) = Err OutOfOrder
step_of (Fact a t e p) = Err OutOfOrder
step_of (Pick a t e p) = Err OutOfOrder
step_of (Step k) = Ok k

-- room for the steps of a text, whatever it says: a step line has at least 7 bytes, and a text over the limit is refused
abbrev pub RoomFor : List ℕ → ℕ → Type 0
RoomFor s room = length s ≤ text_limit → length s ≤ 7 * room + 6

-- what the reader of steps tells of what the definitions read: how many, and they stand at the front of the list
abbrev pub StepsRead : Result (List ℕ) → P.Result ℕ Refusal → (old new : List ℕ) → Type 0
StepsRead x (Ok n) old new = (ks : List ℕ) × (x ≡ accepted ks) × (n ≡ length ks) × (n ≤ length old) × (new ≡ written ks old)
StepsRead x (Err e) old new = x ≡ refused (number_of e.cause) e.place
