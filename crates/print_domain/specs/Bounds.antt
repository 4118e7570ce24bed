-- A quantifier has a part, so where its parts begin is an index. Assumes nothing.
use Rattle.std.specs.Prelude.{ℕ, zero, suc, ◌≤◌, ◌<◌, ◌≡◌, refl, ◌⊎◌, true, List, [], ◌∷◌, length, get_or, take, drop}
use Rattle.std.proofs.Common.{sym, ap, subst, ◌∙◌, inl, inr, ⊎_elim, arith}
use Rattle.std.proofs.lemmas.List.{length-map}
use Rattle.definitions.specs.Problem.Tree.{Tree, leaf, forall_node, exists_node, and_node, or_node, parts, nodes}
use Rattle.rule_nodes.specs.declared.PartRow.{PartRow}
use Rattle.rule_nodes.specs.declared.Nodes.{Nodes}
use Rattle.rule_nodes.specs.Tables.{Fits, IsTable, node_kind, head_in, head_of}
use Rattle.print_domain.specs.Actions.{row_at}
use Rattle.print_domain.specs.Nodes.{Bounded}

one_part : (v : ℕ) (t : Tree) → node_kind t < 2 → length (parts v t) ≡ 1
unfolding node_kind parts
one_part v (forall_node d σ t) h = refl
one_part v (exists_node d σ t) h = refl
one_part v (and_node ts) h = absurd (omega arith)
one_part v (or_node ts) h = absurd (omega arith)
one_part v (leaf p r ls) h = absurd (omega arith)

nothing_taken : (k i : ℕ) (l : List PartRow) → length l ≤ i → length (take k (drop i l)) ≡ 0
nothing_taken zero i l h = refl
nothing_taken (suc k) zero [] h = refl
nothing_taken (suc k) zero (x ∷ l) h = absurd (omega arith)
nothing_taken (suc k) (suc i) [] h = refl
nothing_taken (suc k) (suc i) (x ∷ l) h = nothing_taken (suc k) i l (omega arith)

within : (first many : ℕ) (l : List PartRow) → length (take many (drop first l)) ≡ 1 → first < length l
within first many l e = ⊎_elim (λ h. h) (λ h. absurd (omega (arith, nothing_taken many first l h))) (split first (length l))
  where
    split : (a b : ℕ) → (a < b) ⊎ (b ≤ a)
    split zero zero = inr (omega arith)
    split zero (suc b) = inl (omega arith)
    split (suc a) zero = inr (omega arith)
    split (suc a) (suc b) = ⊎_elim (λ h. inl (omega arith)) (λ h. inr (omega arith)) (split a b)

pub bounded : (rels : ℕ) (root : Tree) (t : Nodes) → IsTable rels root t → Fits t → Bounded t
bounded rels root t I F v h k =
    let N = I.node v h in
    let node = get_or (nodes root) v (leaf true 0 []) in
    let a : node_kind node < 2 = subst (λ (x : ℕ). x < 2) N.kind k in
    let b : length (take (row_at t v).many (drop (row_at t v).first t.parts)) ≡ 1
    = sym (length-map (take (row_at t v).many (drop (row_at t v).first t.parts)) head_in) ∙ ap length N.parts ∙ length-map (parts v node) head_of ∙ one_part v node a in
    let c = within (row_at t v).first (row_at t v).many t.parts b in
    subst (λ (x : ℕ). (row_at t v).first < x) F.parts.parts_length c
