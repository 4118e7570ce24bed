-- The members of a site's types as words, one for each of 8 types: bit x of word k says that element x is of type k.
use Rattle.std.specs.Prelude.{ℕ, ◌+◌, ◌*◌, ◌<◌, ◌≡◌, false, List, [], ◌∷◌, ◌++◌, length, Result, Ok, Err}
use Rattle.std.proofs.Math.Option.{some}
use Rattle.definitions.specs.Refusal.{refused, accepted}
use Rattle.definitions.specs.Sheet.Sheets.{Element, Label, Member, is_member, SiteDraft, add_member}
use Rattle.laws.specs.Members.{MembersFit}
use Rattle.bits.specs.Table.{bit}
use Rattle.refusal.specs.declared.Cause.{Cause}
use Rattle.refusal.specs.Numbers.{number_of}

-- the words say these members of so many types over n elements
pub record MembersAre (words : List ℕ) (types n : ℕ) (ms : List Member) : Type 0 where
  pub room : length words ≡ 8
  pub says : (k x : ℕ) → x < 64 → bit words (64 * k + x) ≡ is_member ms k x
  pub fit : MembersFit types n ms

-- words that say none, before a site is read
pub record NoMembers (words : List ℕ) : Type 0 where
  pub room : length words ≡ 8
  pub none_set : bit words ≡ λ i. false

-- a site that has its size, labels and members, and no fact yet
abbrev pub member_draft : ℕ → List Label → List Member → SiteDraft
member_draft n ls ms = record { sized = some n; labels = ls; members = ms; facts = [] }

-- what adding a member gives, by the answer
unfoldable pub MemberAdds : List (List ℕ) → ℕ → List Label → List ℕ → Element → List Member → ℕ → List ℕ → Result (Unit {0}) Cause → Type 0
MemberAdds types n ls name e ms at new (Ok u) =
    (m : Member) × (add_member types (member_draft n ls ms) at name e ≡ accepted (member_draft n ls (ms ++ (m ∷ [])))) × MembersAre new (length types) n (ms ++ (m ∷ []))
MemberAdds types n ls name e ms at new (Err k) = add_member types (member_draft n ls ms) at name e ≡ refused (number_of k) at

-- the same for any members so far that the words say
unfoldable pub MemberAdded : List (List ℕ) → ℕ → List Label → List ℕ → Element → List ℕ → List ℕ → Result (Unit {0}) Cause → Type 0
MemberAdded types n ls name e old new r = (ms : List Member) → (at : ℕ) → MembersAre old (length types) n ms → MemberAdds types n ls name e ms at new r
