-- One line of a site and of picks.
use Rattle.std.specs.Prelude.{if◌then◌else◌, Ok, Err}
use Rattle.std.specs.Prelude as P
use Prim.Native.Nat.{ℕ, zero, suc, ◌+◌, ◌*◌, ◌^◌, ◌≤◌, ◌<◌}
use mathlib.Core.Path.{◌≡◌, refl, sym, ap, ap₂, subst, ◌∙◌}
use mathlib.Core.Bool.{Bool, true, false, not, ◌||◌}
use mathlib.Core.Option.{some}
use mathlib.Core.List.{List, [], ◌∷◌, ◌++◌}
use native.Mathlib.Omega.{arith}
use native.Mathlib.Nat.{le_refl, le_trans, mul-le-mul_right}
use lib.ListN.{length, length-append}
use lib.Seq.{slice}
use lib.Dec.{eqb, leb}
use borrow.Author.Tests.{eq-eqb, ne_eqb, eqb-true, eqb-false, le-leb, lt-leb, leb-true, not-false}
use Rattle.laws.specs.Writing.{and_l, and_r}
use Rattle.definitions.specs.Limits.{CaseLimits}
use Rattle.definitions.specs.Sheet.Text.{is_between, is_relation_name}
use Rattle.definitions.specs.Lists.{any, is_empty}
use Rattle.definitions.specs.Refusal.{Result, refused, accepted, ◌>>=◌, refuse_if, given}
use Rattle.definitions.specs.Sheet.Relations.{Tuple, built_in}
use Rattle.definitions.specs.Sheet.Formula.{type_number}
use Rattle.definitions.specs.Sheet.Sheets as D
use Rattle.laws.specs.Results.{refused_accepted, accepted_eq, bind_parts, not_refused}
use Rattle.laws.specs.Lists.{none_some, some_eq}
use Rattle.bits.specs.Table.{bit}
use Rattle.refusal.specs.declared.Cause.{Cause}
use Rattle.refusal.specs.declared.Cause.TheVariants.{NoRecord, OutOfOrder, OutOfRange}
use Rattle.read_line.specs.Entries.{Fielded, entry_in, element_by, list_of, InText}
use Rattle.read_line.specs.declared.Places.{Places}
use Rattle.read_line.specs.declared.Entry.{Entry}
use Rattle.read_line.specs.declared.Entry.TheVariants.{Wrong, Rel, Typed, Choose, Every, Rule, Size, Label, Member, Fact, Pick, Step}
use Rattle.read_names.specs.declared.Signature.{Signature}
use Rattle.read_names.specs.Signatures.{relations_from, rels_of, types_in, types_of, chosen_of, SoundSignature, with_arrays}
use Rattle.definitions.specs.Problem.Atoms.{words_for}
use Rattle.laws.specs.Booleans.{or_both, or_assoc}
use Rattle.read_tuples.proofs.Words.{words_most}
use Rattle.read_tuples.specs.Labels.{LabelsAre, LabelAdds, LabelAdded}
use Rattle.read_tuples.specs.Members.{MembersAre, member_draft, MemberAdds, MemberAdded}
use Rattle.read_tuples.specs.Marks.{Arrays, Roomy, bit_of, marks, AllValid, Adds, Added}
use Rattle.read_sheets.specs.Reading.{FewArities, sized_of, draft, Facts, SoFar, size_turn, label_out, member_out, SiteTurns, SiteTurned, Picks, PickTurns, PickTurned}
use Rattle.read_sheets.specs.declared.Stage.{Stage}

-- the arities of a question's signature, and its arrays
pub sound_few : (q : List ℕ) (g : Signature) (lo m : ℕ) → SoundSignature q g → lo + m ≤ g.rels + g.chosen → FewArities lo m g.arity
sound_few q g lo m s h = (omega (arith, s.rels_le, s.chosen_le), λ j l. (s.arities j (omega arith)).1)

pub arrays_of : (lo m : ℕ) (from to arity : List ℕ) → FewArities lo m arity → length from ≡ 21 → length to ≡ 21 → length arity ≡ 13 → Arrays lo m from to arity
arrays_of lo m from to arity h f t a = record { few = h.0; length_from = omega arith; length_to = omega arith; length_arity = omega arith; arities = h.1 }

-- a table that has room for 8 relations of three places has room for a question's `rel` relations, and for 4 such for its `choose`
room_of : (q : List ℕ) (g : Signature) → SoundSignature q g → (lo m most k room : ℕ) → lo + m ≤ g.rels + g.chosen → m ≤ most → most * words_for (k ^ 3) ≤ room → Roomy g.from g.to g.arity lo m k room
unfolding Roomy
room_of q g s lo m most k room h l r any_one =
    le_trans (words_most k (with_arrays any_one g.from g.to g.arity) k lo m (le_refl k) (λ i b. s.arities (lo + i) (omega arith))) (le_trans (mul-le-mul_right (words_for (k ^ 3)) l) r)

pub facts_room : (q : List ℕ) (g : Signature) → SoundSignature q g → (k room : ℕ) → 8 * words_for (k ^ 3) ≤ room → Roomy g.from g.to g.arity 0 g.rels k room
facts_room q g s k room h = room_of q g s 0 g.rels 8 k room (omega arith) s.rels_le h

pub picks_room_lem : (q : List ℕ) (g : Signature) → SoundSignature q g → (k room : ℕ) → 4 * words_for (k ^ 3) ≤ room → Roomy g.from g.to g.arity g.rels g.chosen k room
picks_room_lem q g s k room h = room_of q g s g.rels g.chosen 4 k room (omega arith) s.chosen_le h

-- ---- a line of a site

-- its size, by the tests
module _ (k most : ℕ) (st : Stage) where
  pub turn_again : (st.n ≡ 0 → ⊥) → Err OutOfOrder ≡ size_turn k most st
  unfolding size_turn
  turn_again h = rw (ne_eqb st.n 0 h)

  module _ (h : st.n ≡ 0) where
    pub turn_low : k < 1 → Err OutOfRange ≡ size_turn k most st
    unfolding size_turn is_between
    turn_low l = rw (eq-eqb st.n 0 h, lt-leb 1 k l)

    pub turn_high : 1 ≤ k → most < k → Err OutOfRange ≡ size_turn k most st
    unfolding size_turn is_between
    turn_high l m = rw (eq-eqb st.n 0 h, le-leb 1 k l, lt-leb k most m)

    pub turn_sized : 1 ≤ k → k ≤ most → Ok (record { n = k; joined = st.joined; begun = st.begun }) ≡ size_turn k most st
    unfolding size_turn is_between
    turn_sized l m = rw (eq-eqb st.n 0 h, le-leb 1 k l, le-leb k most m)

-- whether a line may stand there, by the tests
module _ (st : Stage) where
  pub member_begun : st.begun ≡ true → st.begun ≡ member_out st
  unfolding member_out
  member_begun e = rw e

  pub member_sized : (b : Bool) → st.begun ≡ false → b ≡ eqb st.n 0 → b ≡ member_out st
  unfolding member_out
  member_sized b e z = rw e z

  pub label_joined : st.joined ≡ true → st.joined ≡ label_out st
  unfolding label_out
  label_joined e = rw e

  pub label_unjoined : (b : Bool) → st.joined ≡ false → b ≡ member_out st → b ≡ label_out st
  unfolding label_out member_out
  label_unjoined b e z = rw e z

-- labels of n elements are labels of more
labels_more : (s words : List ℕ) (n m : ℕ) (ls : List D.Label) → LabelsAre s words n ls → n ≤ m → LabelsAre s words m ls
labels_more s words n m ls K h = record {
  room = K.room;
  says = K.says;
  in_text = K.in_text;
  past = K.past;
  fit = record { small = λ l i. omega (arith, K.fit.small l i, h); formed = K.fit.formed; one = K.fit.one };
}

-- so are members
members_more : (joins : List ℕ) (types n m : ℕ) (ms : List D.Member) → MembersAre joins types n ms → n ≤ m → MembersAre joins types m ms
members_more joins types n m ms K h = record { room = K.room; says = K.says; fit = record { typed = K.fit.typed; small = λ x i. omega (arith, K.fit.small x i, h) } }

sized_is : (m : ℕ) → 1 ≤ m → sized_of m ≡ some m
unfolding sized_of
sized_is zero l = absurd (omega arith)
sized_is (suc m) l = refl

some_snoc : {A : Type 0} (xs : List A) (x : A) → true ≡ not (is_empty (xs ++ (x ∷ [])))
unfolding is_empty
some_snoc [] x = refl
some_snoc (y ∷ xs) x = refl

none_yet : {A : Type 0} (xs : List A) (b : Bool) → b ≡ false → b ≡ not (is_empty xs) → xs ≡ []
unfolding is_empty
none_yet [] b h e = refl
none_yet (x ∷ xs) b h e = let z : ◌≡◌ {A = ℕ} 0 1 = cc in absurd (omega arith)

-- the types of lent arrays
pub types_are : (q F T A : List ℕ) (g : Signature) (k : ℕ) → k ≡ g.types → types_in q F T k ≡ types_of q (with_arrays g F T A)
unfolding types_of
types_are q F T A g k e = ap (types_in q F T) e

-- what is known of a line's entry
module _ (s : List ℕ) (at : ℕ) (x : Entry) (w : InText s at x) where
  pub in_label : (k a t e : ℕ) → x ≡ Label k a t e → (t < e) × (e ≤ length s) × (is_relation_name (slice (t + 1) e s) ≡ true)
  unfolding InText
  in_label k a t e p = subst (InText s at) p w

  pub in_member : (a t k e : ℕ) → x ≡ Member a t k e → (a ≤ t) × (t < e) × (e ≤ length s)
  unfolding InText
  in_member a t k e p = subst (InText s at) p w

  pub in_fact : (a t e : ℕ) (y : Places) → x ≡ Fact a t e y → Fielded s (t + 1) e y
  unfolding InText
  in_fact a t e y p = subst (InText s at) p w

  pub in_pick : (a t e : ℕ) (y : Places) → x ≡ Pick a t e y → Fielded s (t + 1) e y
  unfolding InText
  in_pick a t e y p = subst (InText s at) p w

module _ (L : CaseLimits) (q : List ℕ) (g : Signature) (s : List ℕ) (st : Stage) (x : Entry) (words words' joins joins' old new : List ℕ) where
  abbrev Turned : P.Result Stage Cause → Type 0
  Turned r = SiteTurned L q g s st x words words' joins joins' old new r

  abbrev added : ℕ → List D.Label → List D.Member → List Tuple → Result D.SiteDraft
  added at labels members facts = given (entry_in s x) 2 at >>= D.add_to_site L (rels_of q g) (types_of q g) (draft st.n labels members facts) at

  pub site_wrong : x ≡ Wrong → Turned (Err NoRecord)
  unfolding SiteTurned SiteTurns given entry_in ◌>>=◌
  site_wrong p at labels members facts w = rw p

  -- a line of another sheet
  pub site_other : (x ≡ Wrong → ⊥) → ((k : ℕ) → x ≡ Size k → ⊥) → ((k a t e : ℕ) → x ≡ Label k a t e → ⊥) → ((a t k e : ℕ) → x ≡ Member a t k e → ⊥) → ((a t e : ℕ) (y : Places) → x ≡ Fact a t e y → ⊥) → Turned (Err OutOfOrder)
  unfolding SiteTurned SiteTurns given entry_in ◌>>=◌ D.add_to_site
  site_other w0 w1 w2 w3 w4 at labels members facts w = site_out x w0 w1 w2 w3 w4 (draft st.n labels members facts) at
    where
      site_out : (x : Entry) → (x ≡ Wrong → ⊥) → ((k : ℕ) → x ≡ Size k → ⊥) → ((k a t e : ℕ) → x ≡ Label k a t e → ⊥) → ((a t k e : ℕ) → x ≡ Member a t k e → ⊥) → ((a t e : ℕ) (y : Places) → x ≡ Fact a t e y → ⊥)
          → (d : D.SiteDraft) (at : ℕ) → (given (entry_in s x) 2 at >>= D.add_to_site L (rels_of q g) (types_of q g) d at) ≡ refused 3 at
      site_out Wrong w0 w1 w2 w3 w4 z at = absurd (w0 refl)
      site_out (Size k) w0 w1 w2 w3 w4 z at = absurd (w1 k refl)
      site_out (Label k a t e) w0 w1 w2 w3 w4 z at = absurd (w2 k a t e refl)
      site_out (Member a t k e) w0 w1 w2 w3 w4 z at = absurd (w3 a t k e refl)
      site_out (Fact a t e y) w0 w1 w2 w3 w4 z at = absurd (w4 a t e y refl)
      site_out (Rel a e k) w0 w1 w2 w3 w4 z at = refl
      site_out (Typed a e) w0 w1 w2 w3 w4 z at = refl
      site_out (Choose a e k d t u v) w0 w1 w2 w3 w4 z at = refl
      site_out (Every a e k) w0 w1 w2 w3 w4 z at = refl
      site_out (Rule a e) w0 w1 w2 w3 w4 z at = refl
      site_out (Pick a t e y) w0 w1 w2 w3 w4 z at = refl
      site_out (Step k) w0 w1 w2 w3 w4 z at = refl

  -- its size
  module _ (k : ℕ) (p : x ≡ Size k) where
    size_is : (at : ℕ) (labels : List D.Label) (members : List D.Member) (facts : List Tuple) → added at labels members facts ≡ D.add_size L (draft st.n labels members facts) at k (sized_of st.n)
    unfolding given entry_in ◌>>=◌ D.add_to_site draft
    size_is at labels members facts = rw p

    again : (m : ℕ) (d : D.SiteDraft) (at : ℕ) → (m ≡ 0 → ⊥) → D.add_size L d at k (sized_of m) ≡ refused 3 at
    unfolding D.add_size sized_of
    again zero d at h = absurd (h refl)
    again (suc m) d at h = refl

    first : (m : ℕ) (d : D.SiteDraft) (at : ℕ) → m ≡ 0
        → D.add_size L d at k (sized_of m) ≡ (refuse_if (not (is_between 1 L.elements k)) 9 at >>= λ _. accepted (record { sized = some k; labels = d.labels; members = d.members; facts = d.facts }))
    unfolding D.add_size sized_of
    first zero d at h = refl
    first (suc m) d at h = absurd (omega arith)

    size_again : (st.n ≡ 0 → ⊥) → Turned (Err OutOfOrder)
    unfolding SiteTurned SiteTurns
    size_again h at labels members facts w = size_is at labels members facts ∙ again st.n (draft st.n labels members facts) at h

    module _ (h : st.n ≡ 0) where
      size_out : is_between 1 L.elements k ≡ false → Turned (Err OutOfRange)
      unfolding SiteTurned SiteTurns refuse_if ◌>>=◌
      size_out l at labels members facts w = size_is at labels members facts ∙ first st.n (draft st.n labels members facts) at h ∙ rw l

      marks_none : (facts : List Tuple) → facts ≡ [] → marks (bit_of g st.n 0) facts ≡ marks (bit_of g k 0) facts
      unfolding marks any
      marks_none facts z = rw z

      in_limit : is_between 1 L.elements k ≡ true → (1 ≤ k) × (k ≤ L.elements)
      unfolding is_between
      in_limit b = (leb-true 1 k (and_l (leb 1 k) (leb k L.elements) b), leb-true k L.elements (and_r (leb 1 k) (leb k L.elements) b))

      none_valid : (facts : List Tuple) → facts ≡ [] → AllValid g k 0 g.rels facts
      unfolding AllValid
      none_valid facts z = rw z tt

      size_good : is_between 1 L.elements k ≡ true → words' ≡ words → joins' ≡ joins → new ≡ old → Turned (Ok (record { n = k; joined = st.joined; begun = st.begun }))
      unfolding SiteTurned SiteTurns refuse_if ◌>>=◌ draft SoFar Facts
      size_good b i j o at labels members facts w =
          let (l, m) = in_limit b in (
            labels,
            members,
            facts,
            size_is at labels members facts ∙ first st.n (draft st.n labels members facts) at h ∙ rw (b, sized_is k l),
            (
              (m, ap bit o ∙ w.0.1 ∙ marks_none facts (w.0.3 h), none_valid facts (w.0.3 h), λ z. absurd (omega arith)),
              labels_more s words' st.n k labels (subst (λ (v : List ℕ). LabelsAre s v st.n labels) (sym i) w.1) (omega arith),
              w.2,
              members_more joins' g.types st.n k members (subst (λ (v : List ℕ). MembersAre v g.types st.n members) (sym j) w.3) (omega arith),
              w.4,
            ),
          )

    pub size_turned : (most : ℕ) → L.elements ≡ most → (t : P.Result Stage Cause) → t ≡ size_turn k most st → words' ≡ words → joins' ≡ joins → new ≡ old → Turned t
    unfolding size_turn
    size_turned most e t r i j o = subst Turned (sym r) (by_test (eqb st.n 0) refl (is_between 1 most k) (ap (λ (y : ℕ). is_between 1 y k) e))
      where
        by_test : (a : Bool) → eqb st.n 0 ≡ a → (b : Bool) → is_between 1 L.elements k ≡ b → Turned (if not a then Err OutOfOrder else if b then Ok (record { n = k; joined = st.joined; begun = st.begun }) else Err OutOfRange)
        by_test false z b y = size_again (eqb-false st.n 0 z)
        by_test true z true y = size_good (eqb-true st.n 0 z) y i j o
        by_test true z false y = size_out (eqb-true st.n 0 z) y

  -- a draft with a size
  drafted : (m : ℕ) (labels : List D.Label) (members : List D.Member) (facts : List Tuple) → (m ≡ 0 → ⊥) → draft m labels members facts ≡ record { sized = some m; labels = labels; members = members; facts = facts }
  unfolding draft sized_of
  drafted zero labels members facts h = absurd (h refl)
  drafted (suc m) labels members facts h = refl

  -- what a line in its place is told by
  module _ (o : member_out st ≡ false) where
    some_size_yet : st.n ≡ 0 → ⊥
    unfolding member_out
    some_size_yet = eqb-false st.n 0 (or_both st.begun (eqb st.n 0) o).1

    no_fact_yet : (facts : List Tuple) → st.begun ≡ not (is_empty facts) → facts ≡ []
    unfolding member_out
    no_fact_yet facts e = none_yet facts st.begun (or_both st.begun (eqb st.n 0) o).0 e

  -- a label
  module _ (k a t e : ℕ) (p : x ≡ Label k a t e) where
    label_is : (at : ℕ) (labels : List D.Label) (members : List D.Member) (facts : List Tuple) → added at labels members facts ≡ D.add_label (draft st.n labels members facts) at (element_by (slice a t s) k) (slice (t + 1) e s)
    unfolding given entry_in ◌>>=◌ D.add_to_site
    label_is at labels members facts = rw p

    label_3 : (m : ℕ) (b : Bool) (at : ℕ) (labels : List D.Label) (members : List D.Member) (facts : List Tuple) → (not (is_empty members) || not (is_empty facts)) ≡ b → (b || eqb m 0) ≡ true
        → D.add_label (draft m labels members facts) at (element_by (slice a t s) k) (slice (t + 1) e s) ≡ refused 3 at
    unfolding D.add_label draft sized_of given refuse_if ◌>>=◌
    label_3 zero b at labels members facts e h = refl
    label_3 (suc m) true at labels members facts e h = rw e
    label_3 (suc m) false at labels members facts e h = absurd (omega (arith, eqb-true (suc m) 0 h))

    pub label_out_lem : label_out st ≡ true → Turned (Err OutOfOrder)
    unfolding SiteTurned SiteTurns SoFar label_out member_out
    label_out_lem h at labels members facts w = label_is at labels members facts ∙ label_3 st.n (st.joined || st.begun) at labels members facts (ap₂ ◌||◌ (sym w.4) (sym w.2)) (or_assoc st.joined st.begun (eqb st.n 0) ∙ h)

    module _ (o : label_out st ≡ false) (c : P.Result (Unit {0}) Cause) (v : LabelAdded s st.n (element_by (slice a t s) k) (slice (t + 1) e s) words words' c) where
      in_place : member_out st ≡ false
      unfolding label_out
      in_place = (or_both st.joined (member_out st) o).1

      no_member_yet : (members : List D.Member) → st.joined ≡ not (is_empty members) → members ≡ []
      unfolding label_out
      no_member_yet members e = none_yet members st.joined (or_both st.joined (member_out st) o).0 e

      bare : (labels : List D.Label) (members : List D.Member) (facts : List Tuple) → members ≡ [] → facts ≡ [] → draft st.n labels members facts ≡ record { sized = some st.n; labels = labels; members = []; facts = [] }
      bare labels members facts y z = drafted st.n labels members facts (some_size_yet in_place) ∙ rw (y, z)

      said : (at : ℕ) (labels : List D.Label) (members : List D.Member) (facts : List Tuple) → members ≡ [] → facts ≡ []
          → added at labels members facts ≡ D.add_label (record { sized = some st.n; labels = labels; members = []; facts = [] }) at (element_by (slice a t s) k) (slice (t + 1) e s)
      said at labels members facts y z = label_is at labels members facts ∙ ap (λ (d : D.SiteDraft). D.add_label d at (element_by (slice a t s) k) (slice (t + 1) e s)) (bare labels members facts y z)

      pub label_added : c ≡ Ok tt → joins' ≡ joins → new ≡ old → Turned (Ok st)
      unfolding SiteTurned SiteTurns SoFar LabelAdded LabelAdds
      label_added z j i at labels members facts w =
          let y = no_member_yet members w.4 in
          let none = no_fact_yet in_place facts w.2 in
          let u = subst (λ (j : P.Result (Unit {0}) Cause). LabelAdds s st.n (element_by (slice a t s) k) (slice (t + 1) e s) labels at words' j) z (v labels at w.1) in (
            labels ++ (u.0 ∷ []),
            members,
            facts,
            said at labels members facts y none ∙ u.1 ∙ ap accepted (sym (bare (labels ++ (u.0 ∷ [])) members facts y none)),
            (subst (λ (u : List ℕ). Facts L g st.n facts (bit u)) (sym i) w.0, u.2, w.2, subst (λ (u : List ℕ). MembersAre u g.types st.n members) (sym j) w.3, w.4),
          )

      pub label_fault : (j : Cause) → c ≡ Err j → Turned (Err j)
      unfolding SiteTurned SiteTurns SoFar LabelAdded LabelAdds
      label_fault j z at labels members facts w =
          said at labels members facts (no_member_yet members w.4) (no_fact_yet in_place facts w.2)
          ∙ subst (λ (j : P.Result (Unit {0}) Cause). LabelAdds s st.n (element_by (slice a t s) k) (slice (t + 1) e s) labels at words' j) z (v labels at w.1)

  -- a member
  module _ (a t k e : ℕ) (p : x ≡ Member a t k e) where
    member_is : (at : ℕ) (labels : List D.Label) (members : List D.Member) (facts : List Tuple) → added at labels members facts ≡ D.add_member (types_of q g) (draft st.n labels members facts) at (slice a t s) (element_by (slice (t + 1) e s) k)
    unfolding given entry_in ◌>>=◌ D.add_to_site
    member_is at labels members facts = rw p

    member_3 : (m : ℕ) (b : Bool) (at : ℕ) (labels : List D.Label) (members : List D.Member) (facts : List Tuple) → not (is_empty facts) ≡ b → (b || eqb m 0) ≡ true
        → D.add_member (types_of q g) (draft m labels members facts) at (slice a t s) (element_by (slice (t + 1) e s) k) ≡ refused 3 at
    unfolding D.add_member draft sized_of given refuse_if ◌>>=◌
    member_3 zero b at labels members facts e h = refl
    member_3 (suc m) true at labels members facts e h = rw e
    member_3 (suc m) false at labels members facts e h = absurd (omega (arith, eqb-true (suc m) 0 h))

    pub member_out_lem : member_out st ≡ true → Turned (Err OutOfOrder)
    unfolding SiteTurned SiteTurns SoFar member_out
    member_out_lem h at labels members facts w = member_is at labels members facts ∙ member_3 st.n st.begun at labels members facts (sym w.2) h

    module _ (o : member_out st ≡ false) (c : P.Result (Unit {0}) Cause) (types : List (List ℕ)) (r : types ≡ types_of q g) (few : length types ≡ g.types)
        (v : (ls : List D.Label) → LabelsAre s words st.n ls → MemberAdded types st.n ls (slice a t s) (element_by (slice (t + 1) e s) k) joins joins' c) where
      ready : (labels : List D.Label) (members : List D.Member) (facts : List Tuple) → facts ≡ [] → draft st.n labels members facts ≡ member_draft st.n labels members
      ready labels members facts z = drafted st.n labels members facts (some_size_yet o) ∙ rw z

      told : (at : ℕ) (labels : List D.Label) (members : List D.Member) (facts : List Tuple) → facts ≡ [] → added at labels members facts ≡ D.add_member types (member_draft st.n labels members) at (slice a t s) (element_by (slice (t + 1) e s) k)
      told at labels members facts z =
          member_is at labels members facts
          ∙ ap (λ (d : D.SiteDraft). D.add_member (types_of q g) d at (slice a t s) (element_by (slice (t + 1) e s) k)) (ready labels members facts z)
          ∙ ap (λ (ts : List (List ℕ)). D.add_member ts (member_draft st.n labels members) at (slice a t s) (element_by (slice (t + 1) e s) k)) (sym r)

      so_many : (w : List ℕ) (ms : List D.Member) → MembersAre w g.types st.n ms → MembersAre w (length types) st.n ms
      so_many w ms M = subst (λ (k : ℕ). MembersAre w k st.n ms) (sym few) M

      pub member_added : c ≡ Ok tt → words' ≡ words → new ≡ old → Turned (Ok (record { n = st.n; joined = true; begun = st.begun }))
      unfolding SiteTurned SiteTurns SoFar MemberAdded MemberAdds
      member_added z i j at labels members facts w =
          let none = no_fact_yet o facts w.2 in
          let u = subst (λ (j : P.Result (Unit {0}) Cause). MemberAdds types st.n labels (slice a t s) (element_by (slice (t + 1) e s) k) members at joins' j) z (v labels w.1 members at (so_many joins members w.3)) in (
            labels,
            members ++ (u.0 ∷ []),
            facts,
            told at labels members facts none ∙ u.1 ∙ ap accepted (sym (ready labels (members ++ (u.0 ∷ [])) facts none)),
            (
              subst (λ (u : List ℕ). Facts L g st.n facts (bit u)) (sym j) w.0,
              subst (λ (u : List ℕ). LabelsAre s u st.n labels) (sym i) w.1,
              w.2,
              subst (λ (k : ℕ). MembersAre joins' k st.n (members ++ (u.0 ∷ []))) few u.2,
              some_snoc members u.0,
            ),
          )

      pub member_fault : (j : Cause) → c ≡ Err j → Turned (Err j)
      unfolding SiteTurned SiteTurns SoFar MemberAdded MemberAdds
      member_fault j z at labels members facts w =
          told at labels members facts (no_fact_yet o facts w.2)
          ∙ subst (λ (j : P.Result (Unit {0}) Cause). MemberAdds types st.n labels (slice a t s) (element_by (slice (t + 1) e s) k) members at joins' j) z (v labels w.1 members at (so_many joins members w.3))

  -- a fact
  module _ (a t e : ℕ) (y : Places) (p : x ≡ Fact a t e y) where
    fact_is : (at : ℕ) (labels : List D.Label) (members : List D.Member) (facts : List Tuple) → added at labels members facts ≡ D.add_fact (rels_of q g) (draft st.n labels members facts) at (slice a t s) (list_of s (t + 1) e y)
    unfolding given entry_in ◌>>=◌ D.add_to_site
    fact_is at labels members facts = rw p

    early : (m at : ℕ) (labels : List D.Label) (members : List D.Member) (facts : List Tuple) → m ≡ 0 → D.add_fact (rels_of q g) (draft m labels members facts) at (slice a t s) (list_of s (t + 1) e y) ≡ refused 3 at
    unfolding D.add_fact draft sized_of given ◌>>=◌
    early zero at labels members facts h = refl
    early (suc m) at labels members facts h = absurd (omega arith)

    later : (m at : ℕ) (labels : List D.Label) (members : List D.Member) (facts : List Tuple) → (m ≡ 0 → ⊥) → D.add_fact (rels_of q g) (draft m labels members facts) at (slice a t s) (list_of s (t + 1) e y)
        ≡ (D.add_tuple (relations_from q g 0 g.rels) 5 m labels facts at (slice a t s) (list_of s (t + 1) e y) >>= λ fs. accepted (draft m labels members fs))
    unfolding D.add_fact draft sized_of given ◌>>=◌ rels_of D.first_rel built_in
    later zero at labels members facts h = absurd (h refl)
    later (suc m) at labels members facts h = refl

    pub fact_early : st.n ≡ 0 → Turned (Err OutOfOrder)
    unfolding SiteTurned SiteTurns
    fact_early h at labels members facts w = fact_is at labels members facts ∙ early st.n at labels members facts h

    module _ (h : st.n ≡ 0 → ⊥) (c : P.Result (Unit {0}) Cause) (m : ℕ) (r : m ≡ g.rels) (v : (ls : List D.Label) → LabelsAre s words st.n ls → Added q g 0 m st.n ls (slice a t s) (list_of s (t + 1) e y) old new c) where
      u : (ls : List D.Label) → LabelsAre s words st.n ls → Added q g 0 g.rels st.n ls (slice a t s) (list_of s (t + 1) e y) old new c
      u ls K = subst (λ (m : ℕ). Added q g 0 m st.n ls (slice a t s) (list_of s (t + 1) e y) old new c) r (v ls K)

      pub fact_added : c ≡ Ok tt → words' ≡ words → joins' ≡ joins → Turned (Ok (record { n = st.n; joined = st.joined; begun = true }))
      unfolding SiteTurned SiteTurns SoFar Facts Added Adds ◌>>=◌
      fact_added z i j at labels members facts w =
          let v = subst (λ (c : P.Result (Unit {0}) Cause). Adds q g 0 g.rels st.n labels (slice a t s) (list_of s (t + 1) e y) facts at new c) z (u labels w.1 facts at w.0.2 w.0.1) in (
            labels,
            members,
            facts ++ (v.0 ∷ []),
            fact_is at labels members facts ∙ later st.n at labels members facts h ∙ rw v.1,
            (
              (w.0.0, v.3, v.2, λ b. absurd (h b)),
              subst (λ (k : List ℕ). LabelsAre s k st.n labels) (sym i) w.1,
              some_snoc facts v.0,
              subst (λ (k : List ℕ). MembersAre k g.types st.n members) (sym j) w.3,
              w.4,
            ),
          )

      pub fact_fault : (j : Cause) → c ≡ Err j → Turned (Err j)
      unfolding SiteTurned SiteTurns SoFar Facts Added Adds ◌>>=◌
      fact_fault j z at labels members facts w =
          fact_is at labels members facts ∙ later st.n at labels members facts h
          ∙ rw (subst (λ (c : P.Result (Unit {0}) Cause). Adds q g 0 g.rels st.n labels (slice a t s) (list_of s (t + 1) e y) facts at new c) z (u labels w.1 facts at w.0.2 w.0.1))

-- limits of so many elements, whatever the others are
abbrev pub up_to : ℕ → CaseLimits
up_to most = record { elements = most; atoms = 0; actions = 0; steps = 0 }

-- where no size was read before, a line that goes on is the size's own
module _ (L : CaseLimits) (q : List ℕ) (g : Signature) (s : List ℕ) where
  some_size : (m k : ℕ) → sized_of m ≡ some k → m ≡ k
  unfolding sized_of
  some_size zero k e = absurd (none_some e)
  some_size (suc m) k e = some_eq e

  sized_by : (k at m : ℕ) (b : Bool) (labels ls : List D.Label) (members ms : List D.Member) (facts fs : List Tuple) → (refuse_if b 9 at >>= λ _. accepted (record { sized = some k; labels = labels; members = members; facts = facts })) ≡ accepted (draft m ls ms fs) → m ≡ k
  unfolding refuse_if draft ◌>>=◌
  sized_by k at m true labels ls members ms facts fs e = absurd (refused_accepted e)
  sized_by k at m false labels ls members ms facts fs e = some_size m k (ap (λ (d : D.SiteDraft). d.sized) (sym (accepted_eq _ _ e)))

  size_says : (x : Entry) (m at : ℕ) (labels : List D.Label) (members : List D.Member) (facts : List Tuple) → x ≡ Size m
      → (given (entry_in s x) 2 at >>= D.add_to_site L (rels_of q g) (types_of q g) (draft 0 labels members facts) at)
      ≡ (refuse_if (not (is_between 1 L.elements m)) 9 at >>= λ _. accepted
      (record { sized = some m; labels = labels; members = members; facts = facts }))
  unfolding given entry_in D.add_to_site D.add_size draft sized_of ◌>>=◌
  size_says x m at labels members facts p = rw p refl

  pub first_size : (x : Entry) (at m : ℕ) (labels ls : List D.Label) (members ms : List D.Member) (facts fs : List Tuple) → (given (entry_in s x) 2 at >>= D.add_to_site L (rels_of q g) (types_of q g) (draft 0 labels members facts) at) ≡ accepted (draft m ls ms fs) → x ≡ Size m
  unfolding given entry_in D.add_to_site D.add_size D.add_label D.add_member D.add_fact draft sized_of ◌>>=◌
  first_size Wrong at m labels ls members ms facts fs e = absurd (refused_accepted e)
  first_size (Rel a b k) at m labels ls members ms facts fs e = absurd (refused_accepted e)
  first_size (Typed a b) at m labels ls members ms facts fs e = absurd (refused_accepted e)
  first_size (Choose a b k d t u v) at m labels ls members ms facts fs e = absurd (refused_accepted e)
  first_size (Every a b k) at m labels ls members ms facts fs e = absurd (refused_accepted e)
  first_size (Rule a b) at m labels ls members ms facts fs e = absurd (refused_accepted e)
  first_size (Size k) at m labels ls members ms facts fs e = ap Size (sym (sized_by k at m (not (is_between 1 L.elements k)) labels ls members ms facts fs e))
  first_size (Label k a b d) at m labels ls members ms facts fs e = absurd (refused_accepted e)
  first_size (Member a b k d) at m labels ls members ms facts fs e = absurd (refused_accepted e)
  first_size (Fact a b d y) at m labels ls members ms facts fs e = absurd (refused_accepted e)
  first_size (Pick a b d y) at m labels ls members ms facts fs e = absurd (refused_accepted e)
  first_size (Step k) at m labels ls members ms facts fs e = absurd (refused_accepted e)

  -- and where one was read it stays
  stays : (j m : ℕ) (ls : List D.Label) (ms : List D.Member) (fs : List Tuple) (d : D.SiteDraft) → d.sized ≡ some j → d ≡ draft m ls ms fs → m ≡ j
  unfolding draft
  stays j m ls ms fs d h e = some_size m j (ap (λ (d : D.SiteDraft). d.sized) (sym e) ∙ h)

  pub sized_stays : (x : Entry) (at n m : ℕ) (labels ls : List D.Label) (members ms : List D.Member) (facts fs : List Tuple) → (n ≡ 0 → ⊥) → (given (entry_in s x) 2 at >>= D.add_to_site L (rels_of q g) (types_of q g) (draft n labels members facts) at) ≡ accepted (draft m ls ms fs) → n ≡ m
  unfolding given entry_in D.add_to_site D.add_size D.add_label D.add_member D.add_fact draft sized_of ◌>>=◌
  sized_stays x at zero m labels ls members ms facts fs h e = absurd (h refl)
  sized_stays Wrong at (suc j) m labels ls members ms facts fs h e = absurd (refused_accepted e)
  sized_stays (Rel a b k) at (suc j) m labels ls members ms facts fs h e = absurd (refused_accepted e)
  sized_stays (Typed a b) at (suc j) m labels ls members ms facts fs h e = absurd (refused_accepted e)
  sized_stays (Choose a b k d t u v) at (suc j) m labels ls members ms facts fs h e = absurd (refused_accepted e)
  sized_stays (Every a b k) at (suc j) m labels ls members ms facts fs h e = absurd (refused_accepted e)
  sized_stays (Rule a b) at (suc j) m labels ls members ms facts fs h e = absurd (refused_accepted e)
  sized_stays (Size k) at (suc j) m labels ls members ms facts fs h e = absurd (refused_accepted e)
  sized_stays (Label k a b d) at (suc j) m labels ls members ms facts fs h e =
      let (u, _, e₁) = bind_parts (refuse_if (not (is_empty members) || not (is_empty facts)) 3 at) _ _ e in
      let (u, _, e₂) = bind_parts (refuse_if (not (D.is_in_range (suc j) (element_by (slice a b s) k))) 9 at) _ _ e₁ in
      let (y, _, e₃) = bind_parts (given (D.element_of labels (element_by (slice a b s) k)) 18 at) _ _ e₂ in
      let (u, _, e₄) = bind_parts (refuse_if (D.is_taken labels y (slice (b + 1) d s)) 18 at) _ _ e₃ in
      sym (stays (suc j) m ls ms fs _ refl (accepted_eq _ _ e₄))
  sized_stays (Member a b k d) at (suc j) m labels ls members ms facts fs h e =
      let (u, _, e₁) = bind_parts (refuse_if (not (is_empty facts)) 3 at) _ _ e in
      let (i, _, e₂) = bind_parts (given (type_number (types_of q g) (slice a b s)) 19 at) _ _ e₁ in
      let (u, _, e₃) = bind_parts (refuse_if (not (D.is_in_range (suc j) (element_by (slice (b + 1) d s) k))) 9 at) _ _ e₂ in
      let (y, _, e₄) = bind_parts (given (D.element_of labels (element_by (slice (b + 1) d s) k)) 18 at) _ _ e₃ in
      let (u, _, e₅) = bind_parts (refuse_if (D.is_member members i y) 10 at) _ _ e₄ in
      sym (stays (suc j) m ls ms fs _ refl (accepted_eq _ _ e₅))
  sized_stays (Fact a b d y) at (suc j) m labels ls members ms facts fs h e =
      let (ts, _, e₁) = bind_parts (D.add_tuple (rels_of q g) D.first_rel (suc j) labels facts at (slice a b s) (list_of s (b + 1) d y)) _ _ e in
      sym (stays (suc j) m ls ms fs _ refl (accepted_eq _ _ e₁))
  sized_stays (Pick a b d y) at (suc j) m labels ls members ms facts fs h e = absurd (refused_accepted e)
  sized_stays (Step k) at (suc j) m labels ls members ms facts fs h e = absurd (refused_accepted e)

  -- so there is one after any line that goes on
  sized_some : (k at m : ℕ) (labels ls : List D.Label) (members ms : List D.Member) (facts fs : List Tuple) → (refuse_if (not (is_between 1 L.elements k)) 9 at >>= λ _. accepted (record { sized = some k; labels = labels; members = members; facts = facts })) ≡ accepted (draft m ls ms fs) → m ≡ 0 → ⊥
  unfolding is_between
  sized_some k at m labels ls members ms facts fs e z =
      let n = sized_by k at m _ labels ls members ms facts fs e in
      let (u, r, f) = bind_parts (refuse_if (not (is_between 1 L.elements k)) 9 at) _ _ e in
      let l = leb-true 1 k (and_l (leb 1 k) _ (not-false (is_between 1 L.elements k) (not_refused (not (is_between 1 L.elements k)) 9 at u r))) in
      absurd (omega arith)

  pub sized_after : (x : Entry) (at n m : ℕ) (labels ls : List D.Label) (members ms : List D.Member) (facts fs : List Tuple) → (given (entry_in s x) 2 at >>= D.add_to_site L (rels_of q g) (types_of q g) (draft n labels members facts) at) ≡ accepted (draft m ls ms fs) → m ≡ 0 → ⊥
  sized_after x at zero m labels ls members ms facts fs e z = sized_some m at m labels ls members ms facts fs (sym (size_says x m at labels members facts (first_size x at m labels ls members ms facts fs e)) ∙ e) z
  sized_after x at (suc j) m labels ls members ms facts fs e z = absurd (omega (arith, sized_stays x at (suc j) m labels ls members ms facts fs (λ b. absurd (omega arith)) e))

-- ---- a line of picks

module _ (q : List ℕ) (g : Signature) (s : List ℕ) (n : ℕ) (ls : List D.Label) (x : Entry) (old new : List ℕ) where
  pub picks_wrong : x ≡ Wrong → PickTurned q g s n ls x old new (Err NoRecord)
  unfolding PickTurned PickTurns given entry_in ◌>>=◌
  picks_wrong p at picks w = rw p

  -- a line of another sheet
  pub picks_other : (x ≡ Wrong → ⊥) → ((a t e : ℕ) (y : Places) → x ≡ Pick a t e y → ⊥) → PickTurned q g s n ls x old new (Err OutOfOrder)
  unfolding PickTurned PickTurns given entry_in ◌>>=◌ D.add_to_picks
  picks_other w0 w1 at picks w = picks_out x w0 w1 picks at
    where
      picks_out : (x : Entry) → (x ≡ Wrong → ⊥) → ((a t e : ℕ) (y : Places) → x ≡ Pick a t e y → ⊥) → (picks : List Tuple) (at : ℕ)
          → (given (entry_in s x) 2 at >>= D.add_to_picks (chosen_of q g) (5 + g.rels) n ls picks at) ≡ refused 3 at
      picks_out Wrong w0 w1 picks at = absurd (w0 refl)
      picks_out (Pick a t e y) w0 w1 picks at = absurd (w1 a t e y refl)
      picks_out (Rel a e k) w0 w1 picks at = refl
      picks_out (Typed a e) w0 w1 picks at = refl
      picks_out (Choose a e k d t u v) w0 w1 picks at = refl
      picks_out (Every a e k) w0 w1 picks at = refl
      picks_out (Rule a e) w0 w1 picks at = refl
      picks_out (Size k) w0 w1 picks at = refl
      picks_out (Label k a t e) w0 w1 picks at = refl
      picks_out (Member a t k e) w0 w1 picks at = refl
      picks_out (Fact a t e y) w0 w1 picks at = refl
      picks_out (Step k) w0 w1 picks at = refl

  module _ (a t e : ℕ) (y : Places) (p : x ≡ Pick a t e y) where
    pick_is : (at : ℕ) (picks : List Tuple) → (given (entry_in s x) 2 at >>= D.add_to_picks (chosen_of q g) (5 + g.rels) n ls picks at)
        ≡ D.add_tuple (relations_from q g g.rels g.chosen) (5 + g.rels) n ls picks at (slice a t s) (list_of s (t + 1) e y)
    unfolding given entry_in ◌>>=◌ D.add_to_picks chosen_of
    pick_is at picks = rw p

    turn_by : (c : P.Result (Unit {0}) Cause) (at : ℕ) (picks : List Tuple) (res : Result (List Tuple)) → Picks g n picks (bit old)
        → res ≡ D.add_tuple (relations_from q g g.rels g.chosen) (5 + g.rels) n ls picks at (slice a t s) (list_of s (t + 1) e y)
        → Adds q g g.rels g.chosen n ls (slice a t s) (list_of s (t + 1) e y) picks at new c → PickTurns g n picks res at c (bit new)
    unfolding PickTurns Adds Picks
    turn_by (Ok i) at picks res w r v = (picks ++ (v.0 ∷ []), r ∙ v.1, (v.3, v.2), length-append picks (v.0 ∷ []))
    turn_by (Err c) at picks res w r v = r ∙ v

    pub picks_pick : (c : P.Result (Unit {0}) Cause) (lo m : ℕ) → lo ≡ g.rels → m ≡ g.chosen → Added q g lo m n ls (slice a t s) (list_of s (t + 1) e y) old new c → PickTurned q g s n ls x old new c
    unfolding PickTurned Picks Added
    picks_pick c lo m l r v at picks w =
        let u = subst (λ (m : ℕ). Added q g g.rels m n ls (slice a t s) (list_of s (t + 1) e y) old new c) r (subst (λ (lo : ℕ). Added q g lo m n ls (slice a t s) (list_of s (t + 1) e y) old new c) l v) in
        turn_by c at picks _ w (pick_is at picks) (u picks at w.1 w.0)
