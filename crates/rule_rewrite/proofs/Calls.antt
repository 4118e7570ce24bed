-- What the functions of the walk ask of those that they call, and what they make of their answers. Assumes nothing.
use Prim.Native.Nat.{ℕ, zero, ◌+◌, ◌-◌, ◌*◌, ◌≤◌, ◌<◌}
use native.Mathlib.Omega.{arith}
use mathlib.Core.Path.{◌≡◌, refl, ap, subst, ◌∙◌}
use mathlib.Core.Bool.{Bool, false, not}
use mathlib.Core.List.{List, [], ◌∷◌}
use lib.ListN.{length, get_or, drop, replicate}
use lib.Seq.{slice}
use Rattle.definitions.specs.Lists.{option}
use Rattle.definitions.specs.Sheet.Relations.{number_of}
use Rattle.definitions.specs.Sheet.Formula.{ors, join_word}
use Rattle.definitions.specs.Sheet.Parsing.{is_not, is_implies, is_other, kind_of, span}
use Rattle.read_names.specs.Signatures.{Lent, all_of, types_in}
use Rattle.read_names.specs.declared.Signature.{Signature}
use Rattle.read_rule.specs.Seen.{head_of}
use Rattle.read_rule.specs.declared.Kind.{Kind}
use Rattle.read_rule.specs.declared.Scope.{Scope}
use Rattle.rule_nodes.specs.Postorder.{Rows, rows_from, leaf_kind, leaf_row, join_row}
use Rattle.rule_nodes.specs.declared.Row.{Row}
use Rattle.rule_rewrite.specs.Trees.{join_kind, quant_kind, chain}
use Rattle.rule_rewrite.specs.Ready.{as_join, as_quant, join_head, quant_head, Adds, pushed, numbered}
use Rattle.rule_rewrite.specs.Ready.{ReadyIn, PartsReadyIn, ListReady, Walked, WalkedParts, Walks, WalksParts, Opened, VarsReady, Filled}
use Rattle.rule_rewrite.specs.declared.Bound.{Bound}
use Rattle.rule_rewrite.specs.declared.Leaf.{Leaf}
use Rattle.rule_rewrite.proofs.Words.{list_in}
use Rattle.rule_rewrite.proofs.Turns.{over, over_parts, ready_in, ready_end, neg_view, imp_view, join_view, quant_view, lit_view, walked_more}
use Rattle.rule_rewrite.proofs.Turns.{parts_many, neg_ready, neg_place, neg_done, imp_ready_1, imp_ready_2, imp_place, imp_space, imp_done}
use Rattle.rule_rewrite.proofs.Turns.{join_ready, join_parts, join_one, join_place, join_space, join_done, join_some, parts_some, part_ready, part_next, parts_done}
use Rattle.rule_rewrite.proofs.Ends.{quant_list, quant_ready, quant_nodes, quant_levels, quant_place, quant_space, quant_done}
use Rattle.rule_rewrite.proofs.Ends.{none_row, lit_vars, lit_place, lit_done}

-- the lengths that each asks are kept
pub still : {a b n m : ℕ} → (21 ≤ a) × (21 ≤ b) × (n ≡ 512) → m ≡ n → (21 ≤ a) × (21 ≤ b) × (m ≡ 512)
still h e = (h.0, h.1, e ∙ h.2)

-- what a formula's place asks of the function of its form: the measure falls, and the form's head is told
abbrev pub Handed : (t : ℕ) (s : List ℕ) (at : ℕ) (F T : List ℕ) (m : ℕ) → Scope → (rows : List ℕ) (len nodes : ℕ) → Kind → Type 0
Handed t s at F T m sc rows len nodes k =
    ((length s - at) * 4 + 0 < t) × (((21 ≤ length F) × (21 ≤ length T) × (length rows ≡ 512))
    × (ReadyIn s at F T m sc (rows_from rows len nodes) × (kind_of (drop at s) ≡ head_of k)))

-- ---- a negation
module _ {s : List ℕ} {at : ℕ} {F T : List ℕ} {m : ℕ} {sc : Scope} {t : Rows} (h : ReadyIn s at F T m sc t × (kind_of (drop at s) ≡ is_not)) where
  abbrev pub not_part : ReadyIn s (at + 5) F T m sc t
  not_part = over h.0.lent (neg_ready h.0.ready (neg_view h.0.ready h.1))

  pub not_in : at + 5 < length s
  not_in = ready_in not_part.ready

  module _ (b : Bool) {x-end : ℕ} {x : Rows} (part : Walks (not b) s (at + 5) F T m sc t x-end x) where
    pub not_end : x-end + 1 ≤ length s
    not_end = omega (arith, neg_place h.0.ready (neg_view h.0.ready h.1) x-end (part not_part).place, ready_end h.0.ready)

    pub not_done : Walked b s at h.0.g sc t h.0.ready.f (x-end + 1) x
    not_done = neg_done b h.0.ready (neg_view h.0.ready h.1) x-end x (part not_part)

-- ---- an implication
module _ {s : List ℕ} {at : ℕ} {F T : List ℕ} {m : ℕ} {sc : Scope} {t : Rows} (h : ReadyIn s at F T m sc t × (kind_of (drop at s) ≡ is_implies)) where
  abbrev pub arrow_first : ReadyIn s (at + 9) F T m sc (numbered t 1)
  arrow_first = over h.0.lent (imp_ready_1 h.0.ready (imp_view h.0.ready h.1))

  pub arrow_in : at + 9 < length s
  arrow_in = ready_in arrow_first.ready

  module _ (b : Bool) {x-end : ℕ} {x : Rows} (one : Walks (not b) s (at + 9) F T m sc (numbered t 1) x-end x) where
    abbrev pub arrow_second : ReadyIn s (x-end + 1) F T m sc x
    arrow_second = over h.0.lent (imp_ready_2 h.0.ready (imp_view h.0.ready h.1) b x-end x (one arrow_first))

    pub arrow_between : (at < x-end) × (x-end + 1 < length s)
    arrow_between = (omega (arith, (one arrow_first).place), ready_in arrow_second.ready)

    module _ {y-end : ℕ} {y : Rows} (two : Walks b s (x-end + 1) F T m sc x y-end y) where
      pub arrow_end : (y.len < 64) × (y-end + 1 ≤ length s)
      arrow_end =
          let w = h.0.ready in let v = imp_view w h.1 in let X = one arrow_first in let Y = two arrow_second in
          (imp_space w v b x-end x X y-end y Y, omega (arith, imp_place w v b x-end x X y-end y Y, ready_end w))

      pub arrow_done : {u : Rows} {row : Row} {kind : ℕ} → kind ≡ join_kind b ors → row ≡ join_row kind t.nodes 2 → u ≡ pushed y row → Walked b s at h.0.g sc t
          h.0.ready.f (y-end + 1) u
      arrow_done {u} {row} ek er eu = imp_done h.0.ready (imp_view h.0.ready h.1) b x-end x (one arrow_first) y-end y (two arrow_second) u row
          (er ∙ ap (λ (n : ℕ). join_row n t.nodes 2) ek) eu

-- ---- `and`, `or`
module _ {s : List ℕ} {at : ℕ} {F T : List ℕ} {m : ℕ} {sc : Scope} {t : Rows} (conj : Bool) (h : ReadyIn s at F T m sc t × (kind_of (drop at s) ≡ join_head conj)) {a : ℕ}
    (ea : a ≡ length (join_word (as_join conj))) where
  abbrev pub gather_first : ReadyIn s (at + a) F T m sc (numbered t 1)
  gather_first = over h.0.lent (join_ready (as_join conj) h.0.ready (join_view conj h.0.ready h.1) (at + a) (ap (λ (n : ℕ). at + n) ea))

  pub gather_in : (at < at + a) × (at + a < length s)
  gather_in = (omega (arith, join_some conj), ready_in gather_first.ready)

  module _ (b : Bool) {x-end : ℕ} {x : Rows} (one : Walks b s (at + a) F T m sc (numbered t 1) x-end x) where
    abbrev pub gather_rest : PartsReadyIn s x-end F T m sc x
    gather_rest = over_parts h.0.lent (join_parts (as_join conj) h.0.ready (join_view conj h.0.ready h.1) (at + a) (ap (λ (n : ℕ). at + n) ea) b x-end x
        (one gather_first))

    pub gather_between : (at < x-end) × (at < length s) × (1 ≤ x.len)
    gather_between =
        let w = h.0.ready in let X = one gather_first in
        let some = join_one (as_join conj) w (join_view conj w h.1) (at + a) (ap (λ (n : ℕ). at + n) ea) b x-end x X in
        (omega (arith, X.place, join_some conj), ready_in w, some)

    module _ {y-end many : ℕ} {y : Rows} (two : WalksParts b s x-end F T m sc x 1 y-end many y) where
      pub gather_end : (y.len < 64) × (y-end + 1 ≤ length s) × (many ≤ 64)
      gather_end =
          let w = h.0.ready in let v = join_view conj w h.1 in let e = ap (λ (n : ℕ). at + n) ea in let X = one gather_first in let Y = two gather_rest in
          let space = join_space (as_join conj) w v (at + a) e b x-end x X y-end many y Y in
          let place = join_place (as_join conj) w v (at + a) e b x-end x X y-end many y Y in
          (space, omega (arith, place, ready_end w), omega (arith, space, parts_many b 1 _ _ _ _ Y gather_between.2))

      pub gather_done : {u : Rows} {row : Row} {kind : ℕ} → kind ≡ join_kind b (as_join conj) → row ≡ join_row kind t.nodes many → u ≡ pushed y row → Walked b s at
          h.0.g sc t h.0.ready.f (y-end + 1) u
      gather_done {u} {row} ek er eu =
          join_done (as_join conj) h.0.ready (join_view conj h.0.ready h.1) (at + a) (ap (λ (n : ℕ). at + n) ea) b x-end x (one gather_first) y-end many y
          (two gather_rest) u row
          (er ∙ ap (λ (n : ℕ). join_row n t.nodes many) ek) eu

-- ---- further parts
module _ {s : List ℕ} {at : ℕ} {F T : List ℕ} {m : ℕ} {sc : Scope} {t : Rows} (W : PartsReadyIn s at F T m sc t) (e : get_or s at 0 ≡ 32) where
  abbrev pub further_first : ReadyIn s (at + 1) F T m sc t
  further_first = over W.lent (part_ready W.ready (parts_some W.ready e))

  pub further_in : at + 1 < length s
  further_in = ready_in further_first.ready

  module _ (b : Bool) {x-end : ℕ} {x : Rows} (one : Walks b s (at + 1) F T m sc t x-end x) where
    abbrev pub further_rest : PartsReadyIn s x-end F T m sc x
    further_rest = over_parts W.lent (part_next W.ready (parts_some W.ready e) b x-end x (one further_first))

    pub further_between : (at < x-end) × (at < length s) × (t.len < x.len)
    further_between = (omega (arith, (one further_first).place), omega (arith, further_in), walked_more b _ _ _ (one further_first))

    pub further_done : {many after n : ℕ} {u : Rows} → WalksParts b s x-end F T m sc x (many + 1) after n u → WalkedParts b s at W.g sc t many W.ready.fs after n u
    further_done {many} {after} {n} {u} two = parts_done W.ready (parts_some W.ready e) b x-end x (one further_first) many after n u (two further_rest)

-- ---- a quantifier
module _ {s : List ℕ} {at : ℕ} {F T : List ℕ} {m : ℕ} {sc : Scope} {t : Rows} (some : Bool) (h : ReadyIn s at F T m sc t × (kind_of (drop at s) ≡ quant_head some)) where
  abbrev pub under_list : ListReady s (at + 9) sc
  under_list = quant_list (as_quant some) h.0.ready (quant_view some h.0.ready h.1)

  pub under_in : at + 9 < length s
  under_in = list_in s (at + 9) sc under_list

  module _ {d : Bound} (bound : (w : ListReady s (at + 9) sc) → Opened s (at + 9) (types_in s F T 8) sc (replicate 4 0) (w.q ∷ w.qs) d) where
    abbrev pub under_part : ReadyIn s d.at F T m d.scope (numbered t (d.scope.n - sc.n))
    under_part = over h.0.lent (quant_ready (as_quant some) h.0.ready (quant_view some h.0.ready h.1) F T m h.0.lent d (bound under_list)
        (d.scope.n - sc.n) refl)

    pub under_bound : (sc.n ≤ d.scope.n) × (at < d.at) × (d.at < length s) × (t.nodes + (d.scope.n - sc.n) ≤ 64) × (sc.n + (d.scope.n - sc.n) ≤ 4)
    under_bound =
        let w = h.0.ready in let v = quant_view some w h.1 in let D = bound under_list in (
          omega (arith, D.count),
          omega (arith, D.place),
          ready_in under_part.ready,
          quant_nodes (as_quant some) w v F T m h.0.lent d D (d.scope.n - sc.n) refl,
          quant_levels (as_quant some) w v F T m h.0.lent d D (d.scope.n - sc.n) refl,
        )

    module _ (b : Bool) {x-end : ℕ} {x : Rows} (part : Walks b s d.at F T m d.scope (numbered t (d.scope.n - sc.n)) x-end x) where
      pub under_end : (x.len + (d.scope.n - sc.n) ≤ 64) × (x-end + 1 ≤ length s)
      under_end =
          let w = h.0.ready in let v = quant_view some w h.1 in let D = bound under_list in let X = part under_part in
          let k = d.scope.n - sc.n in let place = quant_place (as_quant some) w v F T m h.0.lent d D k refl b x-end x X in
          (quant_space (as_quant some) w v F T m h.0.lent d D k refl b x-end x X, omega (arith, place, ready_end w))

      pub under_done : {u : Rows} {kind : ℕ} → kind ≡ quant_kind b (as_quant some) → Adds x (chain kind t.nodes sc.n d.sorts (d.scope.n - sc.n)) 0 u
          → Walked b s at h.0.g sc t h.0.ready.f (x-end + 1) u
      under_done {u} e a =
          quant_done (as_quant some) h.0.ready (quant_view some h.0.ready h.1) F T m h.0.lent d (bound under_list) (d.scope.n - sc.n) refl b x-end x
          (part under_part) u
          (subst (λ (n : ℕ). Adds x (chain n t.nodes sc.n d.sorts (d.scope.n - sc.n)) 0 u) e a)

-- ---- a literal
module _ {s : List ℕ} {at : ℕ} {F T : List ℕ} {m : ℕ} {sc : Scope} {t : Rows} (h : ReadyIn s at F T m sc t × (kind_of (drop at s) ≡ is_other)) {a : ℕ}
    (ea : a ≡ (at + 1) + span false (drop (at + 1) s)) where
  abbrev pub literal_vars : VarsReady s a sc 0
  literal_vars = lit_vars h.0.ready (lit_view h.0.ready h.1) a ea

  module _ (b : Bool) {k kind : ℕ} (ek : (g : Signature) → Lent g F T m → k ≡ option (number_of (all_of s g) (slice (at + 1) a s)) zero (λ j. j))
      (en : kind ≡ leaf_kind b) {l : Leaf}
      (L : (p : Bool) (j : ℕ) (ls : List ℕ) (w : VarsReady s a sc 0) → record { kind = kind; which = k; many = 0; sort = 0; width = 0; levels = 0 ∷ 0 ∷ 0 ∷ [] }
      ≡ leaf_row p j ls → Filled s a sc p j ls w.vs l) where
    literal_filled : Filled s a sc b k [] literal_vars.vs l
    literal_filled = L b k [] literal_vars (none_row b kind k en)

    pub literal_end : l.at + 1 ≤ length s
    literal_end = omega (arith, lit_place h.0.ready (lit_view h.0.ready h.1) a ea b k (ek h.0.g h.0.lent) l literal_filled, ready_end h.0.ready)

    pub literal_done : {u : Rows} → u ≡ pushed t l.row → Walked b s at h.0.g sc t h.0.ready.f (l.at + 1) u
    literal_done {u} eu = lit_done h.0.ready (lit_view h.0.ready h.1) a ea b k (ek h.0.g h.0.lent) l literal_filled u eu
