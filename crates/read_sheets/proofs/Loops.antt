-- The loops over the lines of a site and of picks, and what is left where they are refused.
use Rattle.std.specs.Prelude.{if◌then◌else◌, Ok, Err}
use Rattle.std.specs.Prelude as P
use Prim.Native.Nat.{ℕ, zero, suc, ◌+◌, ◌*◌, ◌≤◌, ◌<◌, ◌/◌, ◌%◌}
use mathlib.Core.Path.{◌≡◌, refl, sym, ap, subst, subst₂, ◌∙◌, fun_ext}
use mathlib.Core.Bool.{Bool, true, false, not, ◌&&◌}
use mathlib.Core.List.{List, [], ◌∷◌}
use mathlib.Core.Logic.{⊎_elim}
use native.Mathlib.Decide.{dec_lt}
use native.Mathlib.Omega.{arith}
use lib.Dec.{T, eqb}
use lib.ListN.{length, get_or, replicate}
use borrow.Author.Tests.{eq-eqb, ne_eqb, eqb-true, eqb-false}
use Rattle.definitions.specs.Limits.{CaseLimits, text_limit}
use Rattle.definitions.specs.Lists.{all, any, below, is_empty}
use Rattle.definitions.specs.Refusal.{Result, refused, accepted, ◌>>=◌, refuse_if, given, read_text}
use Rattle.definitions.specs.Sheet.Relations.{Tuple}
use Rattle.definitions.specs.Sheet.Sheets as D
use Rattle.bits.specs.Table.{digit, bit, num, count}
use Rattle.laws.specs.Booleans.{T_of, T_true, T_false, T_or, or_l, or_r, T_and_l}
use Rattle.laws.specs.Lists.{all_at, all_of, mem_below, below_lt, zeros_at}
use Rattle.laws.specs.Labels.{no_labels}
use Rattle.laws.specs.Members.{no_members, has_member_lem}
use Rattle.bits.proofs.Digit.{digit_of_zero}
use Rattle.read_line.specs.Lines.{line_by, read_at}
use Rattle.read_line.specs.Entries.{entry_in, Reads}
use Rattle.read_line.specs.declared.Entry.{Entry}
use Rattle.read_line.specs.declared.Entry.TheVariants.{Size}
use Rattle.read_line.proofs.Runs.{read_long, read_start, read_stop, read_went, read_halted}
use Rattle.read_names.specs.declared.Signature.{Signature}
use Rattle.read_names.specs.Signatures.{rels_of, types_of, chosen_of}
use Rattle.read_names.proofs.Laws.{length_names}
use Rattle.read_tuples.specs.Labels.{spanned, LabelsAre, NoLabels}
use Rattle.read_tuples.specs.Members.{MembersAre, NoMembers}
use Rattle.read_tuples.specs.Marks.{Roomy, bit_of, AllValid}
use Rattle.read_tuples.proofs.Bits.{none_marked}
use Rattle.read_sheets.specs.Reading.{sized_of, draft, Facts, SoFar, end_of, SiteTurns, SiteTurned, GotSite, SiteRead, Picks, PickTurns, PickTurned, GotPicks, PicksRead, SizeRoom, Cleared}
use Rattle.read_sheets.specs.declared.Stage.{Stage}
use Rattle.refusal.specs.declared.Cause.{Cause}
use Rattle.refusal.specs.declared.Cause.TheVariants.{OutOfOrder, BadType}
use Rattle.refusal.specs.declared.Refusal.{Refusal}
use Rattle.refusal.specs.Numbers.{number_of}
use Rattle.read_sheets.proofs.Turns.{first_size, sized_stays, sized_after}

-- ---- a site

unfoldable pub closed : List (List ℕ) → List ℕ → D.SiteDraft → Result D.Labelled
closed types s d =
    given d.sized 3 (length s) >>= λ n. refuse_if (not (all (D.has_member d.members) (below (length types)))) 19 zero >>= λ _.
    accepted (record { site = record { size = n; members = d.members; facts = d.facts }; labels = d.labels })

-- words of zeros are the labels of a site that has none yet, and its members
pub none_labelled : (s words : List ℕ) → NoLabels words → LabelsAre s words 0 []
unfolding D.name_of spanned
none_labelled s words z = record {
  room = z.room;
  says = λ x. ap (spanned s (get_or words (2 * x) 0)) (sym (z.zeros (2 * x + 1)));
  in_text = λ x _. rw (z.zeros (2 * x), z.zeros (2 * x + 1)) (omega arith, omega arith);
  past = λ x _. z.zeros (2 * x + 1);
  fit = no_labels 0;
}

none_joined : (joins : List ℕ) (types : ℕ) → NoMembers joins → MembersAre joins types 0 []
unfolding D.is_member any
none_joined joins types z = record { room = z.room; says = λ k x h. ap (λ (p : ℕ → Bool). p (64 * k + x)) z.none_set; fit = no_members types 0 }

-- ---- whether each type has a member, by the words

count_none : (p : ℕ → Bool) (a n : ℕ) → count p a n ≡ 0 → (i : ℕ) → i < n → p (a + i) ≡ false
unfolding count
count_none p a zero e i h = absurd (omega arith)
count_none p a (suc n) e i h = by_test (p (a + n)) refl (dec_lt i n) (λ z l. count_none p a n z i l)
  where
    by_test : (b : Bool) → p (a + n) ≡ b → Dec (i < n) → (count p a n ≡ 0 → i < n → p (a + i) ≡ false) → p (a + i) ≡ false
    by_test true q d ih = let z : num (p (a + n)) ≡ 1 = ap num q in absurd (omega arith)
    by_test false q (yes l) ih = ih (omega arith) l
    by_test false q (no l) ih = let z : i ≡ n = omega arith in ap (λ (k : ℕ). p (a + k)) z ∙ q

count_some : (p : ℕ → Bool) (a n : ℕ) → 0 < count p a n → (i : ℕ) × (i < n) × (p (a + i) ≡ true)
unfolding count
count_some p a zero e = absurd (omega arith)
count_some p a (suc n) e = by_test (p (a + n)) refl (λ h. count_some p a n h)
  where
    by_test : (b : Bool) → p (a + n) ≡ b → (0 < count p a n → (i : ℕ) × (i < n) × (p (a + i) ≡ true)) → (i : ℕ) × (i < suc n) × (p (a + i) ≡ true)
    by_test true q ih = (n, omega arith, q)
    by_test false q ih = let z : num (p (a + n)) ≡ 0 = ap num q in let (i, l, r) = ih (omega arith) in (i, omega arith, r)

not_both : (b : Bool) → T b → b ≡ false → ⊥
not_both true t e = let z : ◌≡◌ {A = ℕ} 0 1 = cc in omega arith
not_both false t e = t

is_has : (ms : List D.Member) (k x : ℕ) → T (D.is_member ms k x) → T (D.has_member ms k)
unfolding D.is_member D.has_member any
is_has (m ∷ ms) k x t = ⊎_elim (λ q. or_l (eqb m.type k) _ (T_and_l (eqb m.type k) _ q)) (λ q. or_r (eqb m.type k) _ (is_has ms k x q)) (T_or (eqb m.type k && eqb m.element x) (D.is_member ms k x) t)
is_has [] k x t = t

module _ (joins : List ℕ) (types n : ℕ) (ms : List D.Member) (few : n ≤ 64) (M : MembersAre joins types n ms) (k : ℕ) where
  pub no_member : count (bit joins) (64 * k) (64 * 1) ≡ 0 → D.has_member ms k ≡ false
  no_member e = T_false (D.has_member ms k) (λ t.
      let (x, h, q) = has_member_lem types n ms k M.fit t in
      let z : x < 64 * 1 = omega arith in
      not_both (D.is_member ms k x) q (sym (M.says k x (omega arith)) ∙ count_none (bit joins) (64 * k) (64 * 1) e x z))

  pub a_member : (count (bit joins) (64 * k) (64 * 1) ≡ 0 → ⊥) → D.has_member ms k ≡ true
  a_member h =
      let (x, l, q) = count_some (bit joins) (64 * k) (64 * 1) (positive (count (bit joins) (64 * k) (64 * 1)) h) in
      T_true (D.has_member ms k) (is_has ms k x (T_of (sym (M.says k x (omega arith)) ∙ q)))
    where
      positive : (c : ℕ) → (c ≡ 0 → ⊥) → 0 < c
      positive zero h = absurd (h refl)
      positive (suc c) h = omega arith

pub each_next : (p : ℕ → Bool) (k : ℕ) → all p (below k) ≡ true → p k ≡ true → all p (below (k + 1)) ≡ true
each_next p k a b = T_true (all p (below (k + 1))) (all_of p (below (k + 1)) (λ i m. by_number i (dec_lt i k) (below_lt (k + 1) i m)))
  where
    by_number : (i : ℕ) → Dec (i < k) → i < k + 1 → T (p i)
    by_number i (yes l) h = all_at p (below k) (T_of a) i (mem_below k i l)
    by_number i (no l) h = let z : i ≡ k = omega arith in T_of (ap p z ∙ b)

-- all of them, once none is left
pub each_end : (p : ℕ → Bool) (k n : ℕ) → k ≡ n → all p (below k) ≡ true → true ≡ all p (below n)
each_end p k n e a = sym (ap (λ (m : ℕ). all p (below m)) (sym e) ∙ a)

pub each_fails : (p : ℕ → Bool) (k n : ℕ) → k < n → p k ≡ false → all p (below n) ≡ false
each_fails p k n h e = T_false (all p (below n)) (λ t. not_both (p k) (all_at p (below n) t k (mem_below n k h)) e)

-- how a site ends, by the tests
module _ (n end : ℕ) (each : Bool) where
  pub end_none : n ≡ 0 → Err (record { cause = OutOfOrder; place = end }) ≡ end_of n each end
  unfolding end_of
  end_none h = rw (eq-eqb n 0 h)

  pub end_each : (n ≡ 0 → ⊥) → each ≡ true → Ok n ≡ end_of n each end
  unfolding end_of
  end_each h e = rw (ne_eqb n 0 h, e)

  pub end_missing : (n ≡ 0 → ⊥) → each ≡ false → Err (record { cause = BadType; place = 0 }) ≡ end_of n each end
  unfolding end_of
  end_missing h e = rw (ne_eqb n 0 h, e)

module _ (L : CaseLimits) (q : List ℕ) (g : Signature) (s : List ℕ) where
  abbrev site_read : Result D.Labelled
  site_read = D.read_site L (rels_of q g) (types_of q g) s

  abbrev add : D.SiteDraft → ℕ → D.Entry → Result D.SiteDraft
  add = D.add_to_site L (rels_of q g) (types_of q g)

  abbrev shut : D.SiteDraft → Result D.Labelled
  shut = closed (types_of q g) s

  site_by : site_read ≡ (read_text (line_by add) (draft 0 [] [] []) s >>= shut)
  unfolding D.read_site D.site_line line_by draft sized_of closed
  site_by = refl

  -- what was read up to `at`
  unfoldable pub SiteAt : ℕ → Stage → List ℕ → List ℕ → List ℕ → Type 0
  SiteAt at st words joins table =
      (labels : List D.Label) × (members : List D.Member) × (facts : List Tuple) × (site_read ≡ (read_at add s at (draft st.n labels members facts) >>= shut)) × SoFar L g s st labels members facts words joins (bit table)

  pub site_long : text_limit < length s → site_read ≡ refused 1 0
  unfolding ◌>>=◌
  site_long h = site_by ∙ ap (λ (r : Result D.SiteDraft). r >>= shut) (read_long add s (draft 0 [] [] []) h)

  pub site_start : (words joins table : List ℕ) → length s ≤ text_limit → NoLabels words → NoMembers joins → bit table ≡ (λ i. false) → SiteAt 0 (record { n = 0; joined = false; begun = false }) words joins table
  unfolding SiteAt SoFar Facts AllValid is_empty
  site_start words joins table h z y b = (
    [],
    [],
    [],
    site_by ∙ ap (λ (r : Result D.SiteDraft). r >>= shut) (read_start add s (draft 0 [] [] []) h),
    ((omega arith, b ∙ none_marked (bit_of g 0 0), tt, λ _. refl), none_labelled s words z, refl, none_joined joins g.types y, refl),
  )

  module _ (at : ℕ) (st : Stage) (words joins table : List ℕ) (w : SiteAt at st words joins table) where
    pub size_small : st.n ≤ L.elements
    unfolding SiteAt SoFar Facts
    size_small = w.4.0.0

    pub labels_so_far : (ls : List D.Label) × LabelsAre s words st.n ls
    unfolding SiteAt SoFar
    labels_so_far = (w.0, w.4.1)

    module _ (next : ℕ) (x : Entry) (l : Reads s at next x) (words' joins' new : List ℕ) (t : P.Result Stage Cause) (u : SiteTurned L q g s st x words words' joins joins' table new t) where
      added : Stage → List D.Label → List D.Member → List Tuple → Result D.SiteDraft
      added st labels members facts = given (entry_in s x) 2 at >>= add (draft st.n labels members facts) at

      turned : (t' : P.Result Stage Cause) → t ≡ t' → (labels : List D.Label) (members : List D.Member) (facts : List Tuple) → SoFar L g s st labels members facts words joins (bit table) → SiteTurns L g s (added st labels members facts) at t' words' joins' (bit new)
      unfolding SiteTurned added
      turned t' p labels members facts v = subst (λ (t : P.Result Stage Cause). SiteTurns L g s (given (entry_in s x) 2 at >>= add (draft st.n labels members facts) at) at t words' joins' (bit new)) p (u at labels members facts v)

      module _ (st' : Stage) (p : t ≡ Ok st') where
        pub site_next : SiteAt next st' words' joins' new
        unfolding SiteAt SiteTurns added
        site_next =
            let v = turned (Ok st') p w.0 w.1 w.2 w.4 in
            (v.0, v.1, v.2, w.3 ∙ ap (λ (r : Result D.SiteDraft). r >>= shut) (read_went add s at next (draft st.n w.0 w.1 w.2) x l (draft st'.n v.0 v.1 v.2) v.3), v.4)

        -- after a line that goes on there is a size
        pub some_next : st'.n ≡ 0 → ⊥
        unfolding SiteAt SiteTurns added
        some_next z = let v = turned (Ok st') p w.0 w.1 w.2 w.4 in sized_after L q g s x at st.n st'.n w.0 v.0 w.1 v.1 w.2 v.2 v.3 z

        -- so a table that has room for the size that is said, if the line is the first one, has room from then on
        pub room_next : (room most : ℕ) → L.elements ≡ most → SizeRoom s g most room → (st.n ≡ 0 → at ≡ 0) → ((st.n ≡ 0 → ⊥) → Roomy g.from g.to g.arity 0 g.rels st.n room)
            → Roomy g.from g.to g.arity 0 g.rels st'.n room
        unfolding SiteAt SiteTurns SoFar Facts added
        room_next room most e k z h = by_number st.n refl
          where
            v : SiteTurns L g s (added st w.0 w.1 w.2) at (Ok st') words' joins' (bit new)
            v = turned (Ok st') p w.0 w.1 w.2 w.4

            said : st.n ≡ 0 → x ≡ Size st'.n
            said a = first_size L q g s x at st'.n w.0 v.0 w.1 v.1 w.2 v.2 (subst (λ (j : ℕ). (given (entry_in s x) 2 at >>= add (draft j w.0 w.1 w.2) at) ≡ accepted (draft st'.n v.0 v.1 v.2)) a v.3)

            by_number : (j : ℕ) → st.n ≡ j → Roomy g.from g.to g.arity 0 g.rels st'.n room
            by_number zero a = k st'.n next (subst₂ (λ (i : ℕ) (y : Entry). Reads s i next y) (z a) (said a) l) (omega (arith, v.4.0.0))
            by_number (suc j) a = subst (λ (i : ℕ). Roomy g.from g.to g.arity 0 g.rels i room) (same_size a) (h (λ b. absurd (omega arith)))
              where
                same_size : st.n ≡ suc j → st.n ≡ st'.n
                same_size a = sized_stays L q g s x at st.n st'.n w.0 v.0 w.1 v.1 w.2 v.2 (λ b. absurd (omega arith)) v.3

      pub site_fault : (k : Cause) → t ≡ Err k → site_read ≡ refused (number_of k) at
      unfolding SiteAt SiteTurns ◌>>=◌ added
      site_fault k e = w.3 ∙ ap (λ (r : Result D.SiteDraft). r >>= shut) (read_halted add s at next (draft st.n w.0 w.1 w.2) x l (number_of k) at (turned (Err k) e w.0 w.1 w.2 w.4))

    module _ (e : at ≡ length s) where
      ended : (labels : List D.Label) (members : List D.Member) (facts : List Tuple) → site_read ≡ (read_at add s at (draft st.n labels members facts) >>= shut) → site_read ≡ shut (draft st.n labels members facts)
      unfolding ◌>>=◌
      ended labels members facts v = v ∙ ap (λ (r : Result D.SiteDraft). r >>= shut) (read_stop add s at (draft st.n labels members facts) e)

      closed_none : (m : ℕ) (labels : List D.Label) (members : List D.Member) (facts : List Tuple) → m ≡ 0 → shut (draft m labels members facts) ≡ refused 3 (length s)
      unfolding closed draft sized_of given ◌>>=◌
      closed_none zero labels members facts h = refl
      closed_none (suc m) labels members facts h = absurd (omega arith)

      closed_missing : (m : ℕ) (labels : List D.Label) (members : List D.Member) (facts : List Tuple) → (m ≡ 0 → ⊥) → all (D.has_member members) (below (length (types_of q g))) ≡ false → shut (draft m labels members facts) ≡ refused 19 0
      unfolding closed draft sized_of given refuse_if ◌>>=◌
      closed_missing zero labels members facts h b = absurd (h refl)
      closed_missing (suc m) labels members facts h b = rw b

      closed_some : (m : ℕ) (labels : List D.Label) (members : List D.Member) (facts : List Tuple) → (m ≡ 0 → ⊥) → all (D.has_member members) (below (length (types_of q g))) ≡ true
          → shut (draft m labels members facts) ≡ accepted (record { site = record { size = m; members = members; facts = facts }; labels = labels })
      unfolding closed draft sized_of given refuse_if ◌>>=◌
      closed_some zero labels members facts h b = absurd (h refl)
      closed_some (suc m) labels members facts h b = rw b

      pub site_end : (r : P.Result ℕ Refusal) → ((ms : List D.Member) → MembersAre joins g.types st.n ms → r ≡ end_of st.n (all (D.has_member ms) (below g.types)) (length s)) → GotSite L g s site_read r words joins (bit table)
      unfolding SiteAt SoFar Facts end_of types_of
      site_end r f = subst (λ (a : P.Result ℕ Refusal). GotSite L g s site_read a words joins (bit table)) (sym (f w.1 w.4.3)) (by_number st.n refl (eqb st.n 0) refl (all (D.has_member w.1) (below g.types)) refl)
        where
          its_types : (b : Bool) → all (D.has_member w.1) (below g.types) ≡ b → all (D.has_member w.1) (below (length (types_of q g))) ≡ b
          its_types b h = ap (λ (k : ℕ). all (D.has_member w.1) (below k)) (length_names q g.from g.to 13 g.types) ∙ h

          at_least : (n : ℕ) → (n ≡ 0 → ⊥) → 1 ≤ n
          at_least zero h = absurd (h refl)
          at_least (suc n) h = omega arith

          by_number : (n : ℕ) → st.n ≡ n → (z : Bool) → eqb st.n 0 ≡ z → (b : Bool) → all (D.has_member w.1) (below g.types) ≡ b
              → GotSite L g s site_read (if z then Err (record { cause = OutOfOrder; place = length s }) else if b then Ok st.n else Err (record { cause = BadType; place = 0 })) words joins (bit table)
          by_number n a true z b h = ended w.0 w.1 w.2 w.3 ∙ closed_none st.n w.0 w.1 w.2 (eqb-true st.n 0 z)
          by_number n a false z false h = ended w.0 w.1 w.2 w.3 ∙ closed_missing st.n w.0 w.1 w.2 (eqb-false st.n 0 z) (its_types false h)
          by_number n a false z true h = (
            record { site = record { size = st.n; members = w.1; facts = w.2 }; labels = w.0 },
            ended w.0 w.1 w.2 w.3 ∙ closed_some st.n w.0 w.1 w.2 (eqb-false st.n 0 z) (its_types true h),
            (refl, w.4.0.1, w.4.0.2, at_least st.n (eqb-false st.n 0 z), w.4.0.0, w.4.1, w.4.3),
          )

-- ---- picks

module _ (q : List ℕ) (g : Signature) (n : ℕ) (ls : List D.Label) (s : List ℕ) where
  picks_by : D.read_picks (chosen_of q g) (5 + g.rels) n ls s ≡ read_text (line_by (D.add_to_picks (chosen_of q g) (5 + g.rels) n ls)) [] s
  unfolding D.read_picks D.picks_line line_by
  picks_by = refl

  unfoldable pub PicksAt : ℕ → ℕ → List ℕ → Type 0
  PicksAt at k table = (picks : List Tuple) × (D.read_picks (chosen_of q g) (5 + g.rels) n ls s ≡ read_at (D.add_to_picks (chosen_of q g) (5 + g.rels) n ls) s at picks) × Picks g n picks (bit table) × (length picks ≡ k)

  pub picks_long : text_limit < length s → D.read_picks (chosen_of q g) (5 + g.rels) n ls s ≡ refused 1 0
  picks_long h = picks_by ∙ read_long (D.add_to_picks (chosen_of q g) (5 + g.rels) n ls) s [] h

  pub picks_start : (table : List ℕ) → length s ≤ text_limit → bit table ≡ (λ i. false) → PicksAt 0 0 table
  unfolding PicksAt Picks AllValid
  picks_start table h b = ([], picks_by ∙ read_start (D.add_to_picks (chosen_of q g) (5 + g.rels) n ls) s [] h, (b ∙ none_marked (bit_of g n g.rels), tt), refl)

  module _ (at k : ℕ) (table : List ℕ) (w : PicksAt at k table) where
    module _ (next : ℕ) (x : Entry) (l : Reads s at next x) (new : List ℕ) (c : P.Result (Unit {0}) Cause) (u : PickTurned q g s n ls x table new c) where
      turned_to : (c' : P.Result (Unit {0}) Cause) → c ≡ c' → (picks : List Tuple) → Picks g n picks (bit table)
          → PickTurns g n picks (given (entry_in s x) 2 at >>= D.add_to_picks (chosen_of q g) (5 + g.rels) n ls picks at) at c' (bit new)
      unfolding PickTurned
      turned_to c' p picks v = subst (λ (c : P.Result (Unit {0}) Cause). PickTurns g n picks (given (entry_in s x) 2 at >>= D.add_to_picks (chosen_of q g) (5 + g.rels) n ls picks at) at c (bit new)) p (u at picks v)

      pub picks_next : c ≡ Ok tt → PicksAt next (k + 1) new
      unfolding PicksAt PickTurned PickTurns
      picks_next p =
          let v = turned_to (Ok tt) p w.0 w.2 in
          (v.0, w.1 ∙ read_went (D.add_to_picks (chosen_of q g) (5 + g.rels) n ls) s at next w.0 x l v.0 v.1, v.2, v.3 ∙ ap (λ (j : ℕ). j + 1) w.3)

      pub picks_fault : (k : Cause) → c ≡ Err k → D.read_picks (chosen_of q g) (5 + g.rels) n ls s ≡ refused (number_of k) at
      unfolding PicksAt PickTurns
      picks_fault k p = w.1 ∙ read_halted (D.add_to_picks (chosen_of q g) (5 + g.rels) n ls) s at next w.0 x l (number_of k) at (turned_to (Err k) p w.0 w.2)

    pub picks_done : at ≡ length s → GotPicks g n (D.read_picks (chosen_of q g) (5 + g.rels) n ls s) (Ok k) (bit table)
    unfolding PicksAt
    picks_done e = (w.0, w.1 ∙ read_stop (D.add_to_picks (chosen_of q g) (5 + g.rels) n ls) s at w.0 e, sym w.3, w.2)

-- ---- a cleared table

pub zeros_clear : (k : ℕ) → bit (replicate k 0) ≡ λ i. false
unfolding bit
zeros_clear k = fun_ext (λ i. ap (λ (w : ℕ). digit w (i % 64)) (zeros_at k (i / 64)) ∙ digit_of_zero (i % 64))

-- words for labels, as they are lent
pub no_label_words : NoLabels (replicate 384 0)
no_label_words = record { room = refl; zeros = zeros_at 384 }

pub no_member_words : NoMembers (replicate 8 0)
no_member_words = record { room = refl; none_set = zeros_clear 8 }

-- ---- what is left

-- what was got, once the table is cleared where it is refused
pub site_kept : (L : CaseLimits) (g : Signature) (s : List ℕ) (x : Result D.Labelled) (r : P.Result ℕ Refusal) (words joins old new : List ℕ)
    → GotSite L g s x r words joins (bit old) → Cleared r old new → SiteRead L g s x r words joins (bit new)
site_kept L g s x (Ok n) words joins old new h c = rw c h
site_kept L g s x (Err e) words joins old new h c = (h, c)

pub picks_kept : (g : Signature) (n : ℕ) (x : Result (List Tuple)) (r : P.Result ℕ Refusal) (old new : List ℕ)
    → GotPicks g n x r (bit old) → Cleared r old new → PicksRead g n x r (bit new)
picks_kept g n x (Ok k) old new h c = rw c h
picks_kept g n x (Err e) old new h c = (h, c)
