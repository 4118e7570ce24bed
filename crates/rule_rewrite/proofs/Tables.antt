-- Tables of rows: one row more, several, the rows of quantifiers one inside the other. Assumes nothing.
use Prim.Native.Nat.{ℕ, zero, suc, ◌+◌, ◌-◌, ◌≤◌, ◌<◌}
use native.Mathlib.Numerals.{add-one, sub-one}
use native.Mathlib.Omega.{arith}
use mathlib.Core.Path.{◌≡◌, refl, sym, ap, subst, ◌∙◌}
use mathlib.Core.List.{List, [], ◌∷◌, ◌++◌, append_assoc, append-nil}
use lib.ListN.{length, get_or, set, take, length-set, length-append}
use lib.Seq.{take-suc-set}
use Rattle.rule_nodes.specs.Lent.{rows_many}
use Rattle.rule_nodes.specs.Postorder.{Rows, rows_in, rows_from, quant_row}
use Rattle.rule_nodes.specs.declared.Row.{Row}
use Rattle.rule_rewrite.specs.Trees.{chain}
use Rattle.rule_rewrite.specs.Ready.{Adds, pushed, numbered}

rows_push : (t : Rows) (row : Row) → length t.at ≡ 64 → t.len < 64 → rows_in (pushed t row) ≡ rows_in t ++ (row ∷ [])
unfolding rows_in
rows_push t row h k = ap (λ (n : ℕ). take n (set t.at t.len row)) (add-one t.len) ∙ take-suc-set t.at t.len row (omega arith)

rows_number : (t : Rows) (k : ℕ) → rows_in (numbered t k) ≡ rows_in t ++ []
unfolding rows_in
rows_number t k = sym (append-nil (take t.len t.at))

pub adds_none : (t : Rows) → length t.at ≡ 64 → Adds t [] 0 t
adds_none t h = record { is = sym (append-nil (rows_in t)); len = omega arith; nodes = omega arith; long = h }

pub adds_push : (t u : Rows) (row : Row) → length t.at ≡ 64 → t.len < 64 → u ≡ pushed t row → Adds t (row ∷ []) 0 u
adds_push t u row h k e = subst (λ (x : Rows). Adds t (row ∷ []) 0 x) (sym e) (record {
  is = rows_push t row h k;
  len = refl;
  nodes = omega arith;
  long = length-set t.at t.len row ∙ h;
})

-- ... at a place, and with a length, that are known to be right
pub adds_at : (t u : Rows) (row : Row) (i n : ℕ) → length t.at ≡ 64 → t.len < 64 → i ≡ t.len → n ≡ t.len + 1 → u ≡ record { at = set t.at i row; len = n; nodes = t.nodes } → Adds t (row ∷ []) 0 u
adds_at t u row i n h k ei en e = adds_push t u row h k (e ∙ ap (λ (j : ℕ). record { at = set t.at j row; len = n; nodes = t.nodes }) ei ∙ ap (λ (m : ℕ). record { at = set t.at t.len row; len = m; nodes = t.nodes }) en)

pub adds_number : (t : Rows) (k : ℕ) → length t.at ≡ 64 → Adds t [] k (numbered t k)
adds_number t k h = record { is = rows_number t k; len = omega arith; nodes = refl; long = h }

pub adds_both : {t u w : Rows} {R Q : List Row} {n m : ℕ} → Adds t R n u → Adds u Q m w → Adds t (R ++ Q) (n + m) w
adds_both {t} {u} {w} {R} {Q} a b = record {
  is = b.is ∙ ap (λ (l : List Row). l ++ Q) a.is ∙ append_assoc (rows_in t) R Q;
  len = omega (arith, a.len, b.len, length-append R Q);
  nodes = omega (arith, a.nodes, b.nodes);
  long = b.long;
}

pub adds_as : {t u : Rows} {R Q : List Row} {n m : ℕ} → R ≡ Q → n ≡ m → Adds t R n u → Adds t Q m u
adds_as {t} {u} {R} {Q} {n} {m} e h a = subst (λ (x : List Row). Adds t x m u) e (subst (λ (x : ℕ). Adds t R x u) h a)

-- ---- `chain`
module _ (kind v d : ℕ) (sorts : List ℕ) where
  chain_zero : (k : ℕ) → k ≡ 0 → [] ≡ chain kind v d sorts k
  unfolding chain
  chain_zero k e = rw e

  chain_suc : (k : ℕ) → (k ≡ 0 → ⊥) → quant_row kind (v + (k - 1)) (d + (k - 1)) (get_or sorts (d + (k - 1)) 0) ∷ chain kind v d sorts (k - 1) ≡ chain kind v d sorts k
  unfolding chain
  chain_suc zero n = absurd (n refl)
  chain_suc (suc k) n = rw (sub-one (suc k))

  pub chain_none : (k : ℕ) (b : List ℕ) (len nodes : ℕ) → k ≡ 0 → Adds (rows_from b len nodes) (chain kind v d sorts k) 0 (rows_from b (len + k) nodes)
  chain_none k b len nodes e =
      let z : len ≡ len + k = omega arith in
      subst (λ (l : ℕ). Adds (rows_from b len nodes) (chain kind v d sorts k) 0 (rows_from b l nodes)) z
      (adds_as (chain_zero k e) refl (adds_none (rows_from b len nodes) (rows_many b len nodes)))

  pub chain_more : (k : ℕ) (b u r : List ℕ) (len nodes : ℕ) (row : Row) → (k ≡ 0 → ⊥) → len + k ≤ 64
      → row ≡ quant_row kind (v + (k - 1)) (d + (k - 1)) (get_or sorts (d + (k - 1)) 0)
      → rows_from u (len + 1) nodes ≡ pushed (rows_from b len nodes) row
      → Adds (rows_from u (len + 1) nodes) (chain kind v d sorts (k - 1)) 0 (rows_from r ((len + 1) + (k - 1)) nodes)
      → Adds (rows_from b len nodes) (chain kind v d sorts k) 0 (rows_from r (len + k) nodes)
  chain_more k b u r len nodes row n l e p a =
      let some : 0 < k = from_this k n in
      let z : (len + 1) + (k - 1) ≡ len + k = omega arith in
      adds_as (ap (λ (x : Row). x ∷ chain kind v d sorts (k - 1)) e ∙ chain_suc k n) (omega arith)
      (adds_both (adds_push (rows_from b len nodes) (rows_from u (len + 1) nodes) row (rows_many b len nodes) (omega arith) p)
      (subst (λ (m : ℕ). Adds (rows_from u (len + 1) nodes) (chain kind v d sorts (k - 1)) 0 (rows_from r m nodes)) z a))
    where
      from_this : (k : ℕ) → (k ≡ 0 → ⊥) → 0 < k
      from_this zero n = absurd (n refl)
      from_this (suc k) n = omega arith
