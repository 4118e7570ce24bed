-- A case that is read has at most as many elements as its limits allow.
use Rattle.std.specs.Prelude.{ℕ, ◌≤◌, ◌≡◌, not, false, leb}
use Rattle.std.proofs.Common.{ap, ◌∙◌}
use Rattle.std.proofs.Math.Path.{subst}
use Rattle.std.proofs.Math.Option.{Option, none, some}
use mathlib.Core.List.{List, [], ◌∷◌}
use Rattle.std.proofs.Math.Dec.{leb→le}
use Rattle.std.proofs.lemmas.Bool.{not-false}
use Rattle.definitions.specs.Limits.{CaseLimits}
use Rattle.definitions.specs.Sheet.Text.{Line, is_between, lines}
use Rattle.definitions.specs.Refusal.{accepted, read_lines, read_text}
use Rattle.definitions.specs.Sheet.Relations.{Relation}
use Rattle.definitions.specs.Sheet.Sheets.{Entry, rel, type, choose, every, rule, size, label, member, fact, pick, step, Element, entry_of, SiteDraft, add_size, add_label, add_member, add_fact, add_to_site, site_line, Labelled, read_site, read_question}
use Rattle.definitions.specs.Problem.Truth.{Case}
use Rattle.definitions.specs.Reply.Outcome.{CaseRead, read_filed, read_case}
use Rattle.laws.specs.Booleans.{T_of, T_and_r}
use Rattle.laws.specs.Lists.{none_some, some_eq}
use Rattle.laws.specs.Results.{refused_accepted, accepted_eq, bind_parts, not_refused, given_some}

module _ (L : CaseLimits) where
  -- the size so far, if there is one
  abbrev Few : SiteDraft → Type 0
  Few d = (n : ℕ) → d.sized ≡ some n → n ≤ L.elements

  between : (n : ℕ) → not (is_between 1 L.elements n) ≡ false → n ≤ L.elements
  unfolding is_between
  between n e = leb→le n L.elements (T_and_r (leb 1 n) _ (T_of (not-false (is_between 1 L.elements n) e)))

  size_few : (d next : SiteDraft) (at n : ℕ) (o : Option ℕ) → add_size L d at n o ≡ accepted next → Few next
  unfolding add_size
  size_few d next at n none e k s =
      let (u, r, f) = bind_parts _ _ next e in
      let q : n ≡ k = some_eq (ap (λ (x : SiteDraft). x.sized) (accepted_eq _ next f) ∙ s) in
      subst (λ (x : ℕ). x ≤ L.elements) q (between n (not_refused _ 9 at u r))
  size_few d next at n (some m) e k s = absurd (refused_accepted e)

  label_few : (d next : SiteDraft) (at : ℕ) (x : Element) (name : List ℕ) → Few d → add_label d at x name ≡ accepted next → Few next
  unfolding add_label
  label_few d next at x name h e k s =
      let (n, _, e₁) = bind_parts _ _ next e in
      let (_, _, e₂) = bind_parts _ _ next e₁ in
      let (_, _, e₃) = bind_parts _ _ next e₂ in
      let (y, _, e₄) = bind_parts _ _ next e₃ in
      let (_, _, e₅) = bind_parts _ _ next e₄ in
      h k (ap (λ (x : SiteDraft). x.sized) (accepted_eq _ next e₅) ∙ s)

  module _ (rels : List Relation) (types : List (List ℕ)) where
    fact_few : (d next : SiteDraft) (at : ℕ) (name : List ℕ) (xs : List Element) → Few d → add_fact rels d at name xs ≡ accepted next → Few next
    unfolding add_fact
    fact_few d next at name xs h e k s =
        let (n, _, f) = bind_parts _ _ next e in
        let (ts, _, g) = bind_parts _ _ next f in
        h k (ap (λ (x : SiteDraft). x.sized) (accepted_eq _ next g) ∙ s)

    member_few : (d next : SiteDraft) (at : ℕ) (name : List ℕ) (x : Element) → Few d → add_member types d at name x ≡ accepted next → Few next
    unfolding add_member
    member_few d next at name x h e k s =
        let (n, _, e₁) = bind_parts _ _ next e in
        let (_, _, e₂) = bind_parts _ _ next e₁ in
        let (j, _, e₃) = bind_parts _ _ next e₂ in
        let (_, _, e₄) = bind_parts _ _ next e₃ in
        let (y, _, e₅) = bind_parts _ _ next e₄ in
        let (_, _, e₆) = bind_parts _ _ next e₅ in
        h k (ap (λ (x : SiteDraft). x.sized) (accepted_eq _ next e₆) ∙ s)

    entry_few : (d next : SiteDraft) (at : ℕ) (x : Entry) → Few d → add_to_site L rels types d at x ≡ accepted next → Few next
    unfolding add_to_site
    entry_few d next at (rel name arity) h e = absurd (refused_accepted e)
    entry_few d next at (type name) h e = absurd (refused_accepted e)
    entry_few d next at (choose name arity kind types) h e = absurd (refused_accepted e)
    entry_few d next at (every name arity) h e = absurd (refused_accepted e)
    entry_few d next at (rule text) h e = absurd (refused_accepted e)
    entry_few d next at (size n) h e = size_few d next at n d.sized e
    entry_few d next at (label x name) h e = label_few d next at x name h e
    entry_few d next at (member t x) h e = member_few d next at t x h e
    entry_few d next at (fact name xs) h e = fact_few d next at name xs h e
    entry_few d next at (pick name xs) h e = absurd (refused_accepted e)
    entry_few d next at (step k) h e = absurd (refused_accepted e)

    lines_few : (ls : List Line) (d last : SiteDraft) → Few d → read_lines (site_line L rels types) d ls ≡ accepted last → Few last
    unfolding read_lines site_line
    lines_few [] d last h e = subst Few (accepted_eq d last e) h
    lines_few (l ∷ ls) d last h e =
        let (next, s, f) = bind_parts (site_line L rels types d l) _ last e in
        let (x, _, g) = bind_parts (entry_of l) (add_to_site L rels types d l.at) next s in
        lines_few ls next last (entry_few d next l.at x h g) f

    site_few : (text : List ℕ) (s : Labelled) → read_site L rels types text ≡ accepted s → s.site.size ≤ L.elements
    unfolding read_site read_text
    site_few text s e =
        let (d, r, f) = bind_parts (read_text (site_line L rels types) (record { sized = none; labels = []; members = []; facts = [] }) text) _ s e in
        let (_, _, ls) = bind_parts _ _ d r in
        let (n, g, f₁) = bind_parts _ _ s f in
        let (_, _, q) = bind_parts _ _ s f₁ in
        let k = lines_few (lines text) (record { sized = none; labels = []; members = []; facts = [] }) d (λ m z. absurd (none_some z)) ls n (given_some d.sized 3 _ n g) in
        subst (λ (x : Labelled). x.site.size ≤ L.elements) (accepted_eq _ s q) k

  pub case_within : (question site : List ℕ) (c : Case) → read_case L question site ≡ accepted c → c.site.size ≤ L.elements
  unfolding read_case read_filed
  case_within question site c e =
      let (x, a, b) = bind_parts (read_filed L question site) _ c e in
      let (q, _, f) = bind_parts (read_question question) _ x a in
      let (s, r, g) = bind_parts (read_site L q.rels q.types site) _ x f in
      subst (λ (y : Case). y.site.size ≤ L.elements) (ap (λ (y : CaseRead). y.case) (accepted_eq _ x g) ∙ accepted_eq _ c b) (site_few q.rels q.types site s r)
