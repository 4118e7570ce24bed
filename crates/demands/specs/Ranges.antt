-- What a variable and a place of a kind range over, from the lines of the sheets.
use Rattle.std.specs.Prelude.{ℕ, zero, suc, ◌<◌, ◌≤◌, ◌≡◌, ◌⊎◌, ◌↔◌, true, ◌&&◌, T, eqb, length}
use Rattle.std.proofs.Math.Path.{refl, subst}
use Rattle.std.proofs.Common.{sym, ap, ◌∙◌, arith, eqb→eq}
use Rattle.std.proofs.Math.Logic.{inl, inr, ⊎_elim}
use Rattle.std.proofs.Math.Option.{Option, none, some}
use mathlib.Core.List.{List, [], Memᴰ}
use Rattle.std.proofs.Math.Dec.{eqb_refl}
use Rattle.definitions.specs.Lists.{same, option}
use Rattle.definitions.specs.Sheet.Formula.{Quantified, type_number, sort_named, sort_of, is_type, has_type}
use Rattle.definitions.specs.Sheet.Sheets.{Member, is_member}
use Rattle.definitions.specs.Problem.Truth.{Case, members_of, range_of}
use Rattle.laws.specs.Booleans.{T_and_l, T_and_r, T_true, and_T}
use Rattle.laws.specs.Lists.{any_at, any_of, none_some, some_eq}
use Rattle.laws.specs.Positions.{position_some}
use Rattle.laws.specs.Members.{all_range, range_means}

-- an element is a member of a type if some line says so
member_line : (members : List Member) (k x : ℕ) → T (is_member members k x) ↔ ((m : Member) × Memᴰ m members × (m.type ≡ k) × (m.element ≡ x))
unfolding is_member
member_line members k x = (
  (λ t. let (m, i, h) = any_at (λ (m : Member). eqb m.type k && eqb m.element x) members t in (m, i, eqb→eq m.type k (T_and_l (eqb m.type k) _ h), eqb→eq m.element x (T_and_r (eqb m.type k) _ h))),
  (λ h. let (m, i, a, b) = h in
      any_of (λ (m : Member). eqb m.type k && eqb m.element x) members m i (and_T (eqb m.type k) _ (subst (λ (y : ℕ). T (eqb m.type y)) a (eqb_refl m.type)) (subst (λ (y : ℕ). T (eqb m.element y)) b (eqb_refl m.element)))),
)

-- a `member` line of a type that is named, for an element
abbrev pub Says : Case → List ℕ → ℕ → Type 0
Says c name x = (m : Member) × Memᴰ m c.site.members × (type_number c.question.types name ≡ some m.type) × (m.element ≡ x)

-- the sort of a type that is declared
pub sort_is : (types : List (List ℕ)) (name : List ℕ) → T (is_type types name) → (k : ℕ) × (type_number types name ≡ some k) × (k < length types) × (sort_named types name ≡ suc k)
unfolding is_type sort_named type_number option
sort_is types name t =
    let (k, e, l, f, g) = position_some (λ t. same t name) types [] (T_true _ t) in
    (k, e, l, ap (λ (o : Option ℕ). option o zero suc) e)

module _ (c : Case) (x : ℕ) where
  abbrev types : List (List ℕ)
  types = c.question.types

  -- of a type that is declared
  named : (name : List ℕ) (k : ℕ) → type_number types name ≡ some k → k < length types → Memᴰ x (members_of c (suc k)) ↔ ((x < c.site.size) × Says c name x)
  named name k e l = (
    (λ i. let (h, t) = (range_means c k x l).0 i in let (m, j, a, b) = (member_line c.site.members k x).0 t in (h, (m, j, e ∙ ap some (sym a), b))),
    (λ q. let (h, (m, j, a, b)) = q in (range_means c k x l).1 (h, (member_line c.site.members k x).1 (m, j, some_eq (sym a ∙ e), b))),
  )

  by_name : (name : List ℕ) → T (is_type types name) → Memᴰ x (members_of c (sort_named types name)) ↔ ((x < c.site.size) × Says c name x)
  by_name name t = let (k, e, l, f) = sort_is types name t in subst (λ (s : ℕ). Memᴰ x (members_of c s) ↔ ((x < c.site.size) × Says c name x)) (sym f) (named name k e l)

  by_type : (o : Option (List ℕ)) → T (option o true (is_type types))
      → Memᴰ x (members_of c (option o zero (sort_named types))) ↔ ((x < c.site.size) × ((o ≡ none) ⊎ ((name : List ℕ) × (o ≡ some name) × Says c name x)))
  unfolding option
  by_type none t = (
    (λ i. ((all_range c x).0 i, inl refl)),
    (λ q. (all_range c x).1 q.0),
  )
  by_type (some name) t = (
    (λ i. let (h, s) = (by_name name t).0 i in (h, inr (name, refl, s))),
    (λ q. (by_name name t).1 (q.0, ⊎_elim (λ z. absurd (none_some (sym z))) (λ z. let (other, a, s) = z in subst (λ (w : List ℕ). Says c w x) (sym (some_eq a)) s) q.1)),
  )

  pub range_is : (q : Quantified) → T (has_type types q) → Memᴰ x (range_of c q) ↔ ((x < c.site.size) × ((q.type ≡ none) ⊎ ((name : List ℕ) × (q.type ≡ some name) × Says c name x)))
  unfolding range_of sort_of has_type
  range_is q t = by_type q.type t

  -- and what a place of a kind ranges over, by its sort
  pub place_range : (s : ℕ) → s ≤ length types → Memᴰ x (members_of c s) ↔ ((x < c.site.size) × ((s ≡ 0) ⊎ ((m : Member) × Memᴰ m c.site.members × (s ≡ suc m.type) × (m.element ≡ x))))
  place_range zero h = (
    (λ i. ((all_range c x).0 i, inl refl)),
    (λ q. (all_range c x).1 q.0),
  )
  place_range (suc k) h =
      let l : k < length types = omega arith in (
        (λ i. let (h, t) = (range_means c k x l).0 i in let (m, j, a, b) = (member_line c.site.members k x).0 t in (h, inr (m, j, ap suc (sym a), b))),
        (λ q. (range_means c k x l).1 (q.0, ⊎_elim (λ z. absurd (omega arith)) (λ z. let (m, j, a, b) = z in (member_line c.site.members k x).1 (m, j, omega arith, b)) q.1)),
      )
