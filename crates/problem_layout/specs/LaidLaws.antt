-- One turn of the loops of a layout.
use Rattle.std.specs.Prelude.{◌≡◌, Bool, List, ltb, length, set, replicate, if◌then◌else◌}
use Rattle.std.proofs.Math.Path.{refl}
use Rattle.std.proofs.Common.{sym, ap, ap₂, ◌∙◌, le_trans, add-one, length-set, get_or-set_same, get_or-set_other}
use Rattle.std.proofs.Math.Bool.{true, false}
use Prim.Native.Nat.{ℕ, zero, suc, ◌+◌, ◌*◌, ◌^◌, ◌≤◌, ◌<◌}
use Rattle.std.proofs.Math.Nat.{pow-le-pow_left, pow-le-pow_right, mul-le-mul}
use Rattle.std.proofs.Math.Decide.{ℕ_discrete, dec_lt}
use native.Mathlib.Omega.{arith}
use borrow.Author.Tests.{lt-ltb, le-ltb}
use Rattle.std.proofs.Math.ListN.{get_or}
use Rattle.std.proofs.Math.Seq.{set_out}
use Rattle.rule_nodes.specs.Tables.{no_node, Fits}
use Rattle.rule_nodes.specs.declared.Nodes.{Nodes}
use Rattle.rows.specs.Values.{Most}
use Rattle.problem_table.specs.Lines.{range_place}
use Rattle.problem_layout.specs.Filled.{place_start, place_count}
use Rattle.problem_layout.specs.declared.Relations.{Relations}
use Rattle.problem_layout.specs.Laid.{relation_width, set_width, firsts_at, seconds_at, most_width, node_width, choices_of, choices_at, RelationsFit, relation_sum, set_sum, pick_sum, node_sum, act_sum, RelationsLaid, NodesLaid}

-- ---- powers
pub pow_most : (n k : ℕ) → n ≤ 64 → k ≤ 4 → n ^ k ≤ 64 ^ 4
pow_most n k a b = le_trans (pow-le-pow_left a k) (pow-le-pow_right (omega arith) b)

pub pow_fits : (n k : ℕ) → n ≤ 64 → k ≤ 4 → n ^ k < 2 ^ 64
pow_fits n k a b = let q = pow_most n k a b in omega arith

pub size_most : (n k r : ℕ) → r ≡ n ^ k → n ≤ 64 → k ≤ 4 → r ≤ 64 ^ 4
size_most n k r e a b = rw e (pow_most n k a b)

-- ---- widths
module _ (n size kind : ℕ) where
  pub width_plain : kind < 2 → size + size ≡ relation_width n size kind
  unfolding relation_width
  width_plain h = rw (lt-ltb kind 2 h) refl

  pub width_function : 2 ≤ kind → kind < 4 → size + size + n ≡ relation_width n size kind
  unfolding relation_width
  width_function h k = rw (le-ltb kind 2 h, lt-ltb kind 4 k) refl

  pub width_injective : 4 ≤ kind → kind < 6 → size + size + n + n ≡ relation_width n size kind
  unfolding relation_width
  width_injective h k = rw (le-ltb kind 2 (omega arith), le-ltb kind 4 h, lt-ltb kind 6 k) refl

  pub width_last : 6 ≤ kind → 0 ≡ relation_width n size kind
  unfolding relation_width
  width_last h = rw (le-ltb kind 2 (omega arith), le-ltb kind 4 (omega arith), le-ltb kind 6 h) refl

  pub width_le : n ≤ 64 → size ≤ 64 ^ 4 → relation_width n size kind ≤ 2 * 64 ^ 4 + 128
  unfolding relation_width
  width_le a b = by_test (ltb kind 2) (ltb kind 4) (ltb kind 6)
    where
      by_test : (x y z : Bool) → (if x then size + size else (if y then size + size + n else (if z then size + size + n + n else 0))) ≤ 2 * 64 ^ 4 + 128
      by_test true y z = omega arith
      by_test false true z = omega arith
      by_test false false true = omega arith
      by_test false false false = omega arith

module _ (size firsts seconds : ℕ) where
  pub set_none : (kind : ℕ) → kind ≡ 0 → 0 ≡ set_width size firsts seconds kind
  unfolding set_width
  set_none kind e = rw e refl

  pub set_all : (kind : ℕ) → kind ≡ 1 → size ≡ set_width size firsts seconds kind
  unfolding set_width
  set_all kind e = rw e refl

  pub set_pairs : (kind : ℕ) → (kind ≡ 0 → ⊥) → (kind ≡ 1 → ⊥) → kind < 6 → firsts * seconds ≡ set_width size firsts seconds kind
  unfolding set_width
  set_pairs zero a b h = absurd (a refl)
  set_pairs (suc zero) a b h = absurd (b refl)
  set_pairs (suc (suc k)) a b h = rw (lt-ltb k 4 (omega arith)) refl

  pub set_last : (kind : ℕ) → 6 ≤ kind → 0 ≡ set_width size firsts seconds kind
  unfolding set_width
  set_last zero h = absurd (omega arith)
  set_last (suc zero) h = absurd (omega arith)
  set_last (suc (suc k)) h = rw (le-ltb k 4 (omega arith)) refl

  pub set_width_le : (kind : ℕ) → size ≤ 64 ^ 4 → firsts ≤ 64 → seconds ≤ 64 → set_width size firsts seconds kind ≤ 64 ^ 4
  unfolding set_width
  set_width_le zero h a b = omega arith
  set_width_le (suc zero) h a b = h
  set_width_le (suc (suc k)) h a b = by_test (ltb k 4)
    where
      by_test : (x : Bool) → (if x then firsts * seconds else 0) ≤ 64 ^ 4
      by_test true = omega (arith, mul-le-mul {n₁ = firsts} {n₂ = 64} a b)
      by_test false = omega arith

module _ (n size : ℕ) where
  pub most_none : (kind : ℕ) → kind ≡ 0 → 0 ≡ most_width n size kind
  unfolding most_width
  most_none kind e = rw e refl

  pub most_all : (kind : ℕ) → kind ≡ 1 → size ≡ most_width n size kind
  unfolding most_width
  most_all kind e = rw e refl

  pub most_one : (kind : ℕ) → (kind ≡ 0 → ⊥) → (kind ≡ 1 → ⊥) → kind < 6 → n ≡ most_width n size kind
  unfolding most_width
  most_one zero a b h = absurd (a refl)
  most_one (suc zero) a b h = absurd (b refl)
  most_one (suc (suc k)) a b h = rw (lt-ltb k 4 (omega arith)) refl

  pub most_last : (kind : ℕ) → 6 ≤ kind → 0 ≡ most_width n size kind
  unfolding most_width
  most_last zero h = absurd (omega arith)
  most_last (suc zero) h = absurd (omega arith)
  most_last (suc (suc k)) h = rw (le-ltb k 4 (omega arith)) refl

  pub most_width_le : (kind : ℕ) → n ≤ 64 → size ≤ 64 ^ 4 → most_width n size kind ≤ 64 ^ 4
  unfolding most_width
  most_width_le zero a b = omega arith
  most_width_le (suc zero) a b = b
  most_width_le (suc (suc k)) a b = by_test (ltb k 4)
    where
      by_test : (x : Bool) → (if x then n else 0) ≤ 64 ^ 4
      by_test true = omega arith
      by_test false = omega arith

  pub width_forall : (kind : ℕ) → kind ≡ 0 → size * n ≡ node_width n size kind
  unfolding node_width
  width_forall kind e = rw e refl

  pub width_other : (kind : ℕ) → (kind ≡ 0 → ⊥) → size ≡ node_width n size kind
  unfolding node_width
  width_other zero e = absurd (e refl)
  width_other (suc k) e = refl

  pub node_width_le : (kind : ℕ) → n ≤ 64 → size ≤ 64 ^ 4 → node_width n size kind ≤ 64 ^ 4 * 64
  unfolding node_width
  node_width_le zero a b = mul-le-mul b a
  node_width_le (suc k) a b = omega arith

  pub size_times : n ≤ 64 → size ≤ 64 ^ 4 → size * n ≤ 64 ^ 4 * 64
  size_times a b = mul-le-mul b a

module _ (n many : ℕ) where
  pub choices_quantifier : (kind : ℕ) → kind < 2 → n ≡ choices_of n kind many
  unfolding choices_of
  choices_quantifier zero h = refl
  choices_quantifier (suc zero) h = refl
  choices_quantifier (suc (suc k)) h = absurd (omega arith)

  pub choices_and : (kind : ℕ) → kind ≡ 2 → 1 ≡ choices_of n kind many
  unfolding choices_of
  choices_and kind e = rw e refl

  pub choices_or : (kind : ℕ) → 2 ≤ kind → (kind ≡ 2 → ⊥) → many ≡ choices_of n kind many
  unfolding choices_of
  choices_or zero h e = absurd (omega arith)
  choices_or (suc zero) h e = absurd (omega arith)
  choices_or (suc (suc zero)) h e = absurd (e refl)
  choices_or (suc (suc (suc k))) h e = refl

  pub choices_le : (kind : ℕ) → n ≤ 64 → many ≤ 64 → choices_of n kind many ≤ 64
  unfolding choices_of
  choices_le zero a b = a
  choices_le (suc zero) a b = a
  choices_le (suc (suc zero)) a b = omega arith
  choices_le (suc (suc (suc k))) a b = b

-- ... by the count of its sort
pub choices_at_lem : (counts : List ℕ) {s s' kind kind' many many' : ℕ} → s ≡ s' → kind ≡ kind' → many ≡ many' → choices_of (get_or counts s 0) kind many ≡ choices_of (get_or counts s' 0) kind' many'
choices_at_lem counts e q m = rw (e, q, m) refl

-- ---- entries
pub entry_lt : (a : List ℕ) (f : ℕ → ℕ) (i x : ℕ) → i < length a → x ≡ f i → ((r : ℕ) → r < i → get_or a r 0 ≡ f r) → (r : ℕ) → r < i + 1 → get_or (set a i x) r 0 ≡ f r
entry_lt a f i x h e q r l = from_this (ℕ_discrete r i)
  where
    from_this : Dec (r ≡ i) → get_or (set a i x) r 0 ≡ f r
    from_this (yes k) = rw (k, get_or-set_same a i x 0 h) e
    from_this (no k) = get_or-set_other a i r x 0 k ∙ q r (omega arith)

pub entry_le : (a : List ℕ) (f : ℕ → ℕ) (i x : ℕ) → i + 1 < length a → x ≡ f (suc i) → ((r : ℕ) → r ≤ i → get_or a r 0 ≡ f r) → (r : ℕ) → r ≤ i + 1 → get_or (set a (i + 1) x) r 0 ≡ f r
entry_le a f i x h e q r l = from_this (ℕ_discrete r (i + 1))
  where
    from_this : Dec (r ≡ i + 1) → get_or (set a (i + 1) x) r 0 ≡ f r
    from_this (yes k) = rw (k, get_or-set_same a (i + 1) x 0 h) (e ∙ ap f (sym (add-one i)))
    from_this (no k) = get_or-set_other a (i + 1) r x 0 k ∙ q r (omega arith)

pub most_set : (a : List ℕ) (i x b b' : ℕ) → x ≤ b' → b ≤ b' → Most a b → Most (set a i x) b'
most_set a i x b b' h k m r = from_this (ℕ_discrete r i) (dec_lt i (length a))
  where
    from_this : Dec (r ≡ i) → Dec (i < length a) → get_or (set a i x) r 0 ≤ b'
    from_this (yes e) (yes l) = rw (e, get_or-set_same a i x 0 l) h
    from_this (yes e) (no l) = rw (set_out a i x (omega arith)) (omega (arith, m r))
    from_this (no e) l = rw (get_or-set_other a i r x 0 e) (omega (arith, m r))

-- the entries past the next one stay 0
rest_set : (a : List ℕ) (i x : ℕ) → ((r : ℕ) → i ≤ r → get_or a r 0 ≡ 0) → (r : ℕ) → i + 1 ≤ r → get_or (set a i x) r 0 ≡ 0
rest_set a i x h r l = get_or-set_other a i r x 0 (λ e. omega arith) ∙ h r (omega arith)

-- ---- relations
module _ (n : ℕ) (g : Relations) (small : n ≤ 64) (sizes : RelationsFit g) where
  rel_suc : (i : ℕ) → relation_sum n g (suc i) ≡ relation_sum n g i + relation_width n (n ^ get_or g.arity i 0) (get_or g.kind i 0)
  unfolding relation_sum
  rel_suc i = refl

  set_suc : (counts : List ℕ) (i : ℕ) → set_sum n counts g (suc i) ≡ set_sum n counts g i + set_width (n ^ get_or g.arity i 0) (firsts_at counts g i) (seconds_at counts g i) (get_or g.kind i 0)
  unfolding set_sum
  set_suc counts i = refl

  pub rel_bound : (i : ℕ) → relation_sum n g i ≤ 3 + i * (2 * 64 ^ 4 + 128)
  unfolding relation_sum
  rel_bound zero = omega arith
  rel_bound (suc i) =
      let q = width_le n (n ^ get_or g.arity i 0) (get_or g.kind i 0) small (pow_most n (get_or g.arity i 0) small (sizes.arity i)) in
      omega (arith, rel_bound i, q)

  pub set_bound : (counts : List ℕ) → Most counts 64 → (i : ℕ) → set_sum n counts g i ≤ i * 64 ^ 4
  unfolding set_sum
  set_bound counts few zero = omega arith
  set_bound counts few (suc i) =
      let q = set_width_le (n ^ get_or g.arity i 0) (firsts_at counts g i) (seconds_at counts g i) (get_or g.kind i 0) (pow_most n (get_or g.arity i 0) small (sizes.arity i)) (few (get_or g.firsts i 0)) (few (get_or g.seconds i 0)) in
      omega (arith, set_bound counts few i, q)

  pub pick_bound : (i : ℕ) → pick_sum n g i ≤ i * 64 ^ 4
  unfolding pick_sum
  pick_bound zero = omega arith
  pick_bound (suc i) = omega (arith, pick_bound i, most_width_le n (n ^ get_or g.arity i 0) (get_or g.kind i 0) small (pow_most n (get_or g.arity i 0) small (sizes.arity i)))

  pub rels_next : (counts : List ℕ) (i : ℕ) (rel neg dom sets : List ℕ) (at st size w u : ℕ) → i < 18 → length rel ≡ 19 → length neg ≡ 18 → length dom ≡ 18 → length sets ≡ 19
      → size ≡ n ^ get_or g.arity i 0 → w ≡ relation_width n size (get_or g.kind i 0) → u ≡ set_width size (firsts_at counts g i) (seconds_at counts g i) (get_or g.kind i 0)
      → RelationsLaid n counts g i rel neg dom sets at st
      → RelationsLaid n counts g (i + 1) (set rel (i + 1) (at + w)) (set neg i (at + size)) (set dom i (at + (size + size))) (set sets (i + 1) (st + u)) (at + w) (st + u)
  rels_next counts i rel neg dom sets at st size w u h l₁ l₂ l₃ l₄ e ew eu L =
      let a : at + w ≡ relation_sum n g (suc i) = ap₂ (λ (x y : ℕ). x + y) L.at_is (ew ∙ ap (λ (x : ℕ). relation_width n x (get_or g.kind i 0)) e) ∙ sym (rel_suc i) in
      let b : st + u ≡ set_sum n counts g (suc i) = ap₂ (λ (x y : ℕ). x + y) L.set_is (eu ∙ ap (λ (x : ℕ). set_width x (firsts_at counts g i) (seconds_at counts g i) (get_or g.kind i 0)) e) ∙ sym (set_suc counts i) in
      record {
        rel_long = length-set rel (i + 1) (at + w) ∙ l₁;
        neg_long = length-set neg i (at + size) ∙ l₂;
        dom_long = length-set dom i (at + (size + size)) ∙ l₃;
        at_is = a ∙ ap (relation_sum n g) (sym (add-one i));
        set_is = b ∙ ap (set_sum n counts g) (sym (add-one i));
        rel_at = entry_le rel (relation_sum n g) i (at + w) (omega arith) a L.rel_at;
        neg_at = entry_lt neg (λ (r : ℕ). relation_sum n g r + n ^ get_or g.arity r 0) i (at + size) (omega arith) (ap₂ (λ (x y : ℕ). x + y) L.at_is e) L.neg_at;
        dom_at = entry_lt dom (λ (r : ℕ). relation_sum n g r + (n ^ get_or g.arity r 0 + n ^ get_or g.arity r 0)) i (at + (size + size)) (omega arith) (ap₂ (λ (x y : ℕ). x + (y + y)) L.at_is e) L.dom_at;
        set_at = entry_le sets (set_sum n counts g) i (st + u) (omega arith) b L.set_at;
        rel_most = most_set rel (i + 1) (at + w) at (at + w) (omega arith) (omega arith) L.rel_most;
        neg_rest = rest_set neg i (at + size) L.neg_rest;
        dom_rest = rest_set dom i (at + (size + size)) L.dom_rest;
        set_most = most_set sets (i + 1) (st + u) st (st + u) (omega arith) (omega arith) L.set_most;
      }

pub most_zeros : (k b : ℕ) → Most (replicate k 0) b
most_zeros zero b r = omega arith
most_zeros (suc k) b zero = omega arith
most_zeros (suc k) b (suc r) = most_zeros k b r

all_zeros : (k r : ℕ) → get_or (replicate {A = ℕ} k 0) r 0 ≡ 0
all_zeros k r = omega (arith, most_zeros k 0 r)

zero_le : (a : List ℕ) (f : ℕ → ℕ) (x : ℕ) → get_or a 0 0 ≡ x → x ≡ f 0 → (r : ℕ) → r ≤ 0 → get_or a r 0 ≡ f r
zero_le a f x e q r h = let z : r ≡ 0 = omega arith in rw z (e ∙ q)

pub rels_first : (n : ℕ) (counts : List ℕ) (g : Relations) → RelationsLaid n counts g 0 (set (replicate 19 0) 0 3) (replicate 18 0) (replicate 18 0) (replicate 19 0) 3 0
unfolding relation_sum set_sum
rels_first n counts g =
    record {
      rel_long = refl;
      neg_long = refl;
      dom_long = refl;
      at_is = refl;
      set_is = refl;
      rel_at = zero_le (set (replicate 19 0) 0 3) (relation_sum n g) 3 refl refl;
      neg_at = λ r h. absurd (omega arith);
      dom_at = λ r h. absurd (omega arith);
      set_at = zero_le (replicate 19 0) (set_sum n counts g) 0 refl refl;
      rel_most = most_set (replicate 19 0) 0 3 3 3 (omega arith) (omega arith) (most_zeros 19 3);
      neg_rest = λ r h. all_zeros 18 r;
      dom_rest = λ r h. all_zeros 18 r;
      set_most = most_zeros 19 0;
    }

-- ---- nodes
module _ (n : ℕ) (counts : List ℕ) (t : Nodes) (from first : ℕ) where
  pub nodes_first : NodesLaid n counts t from first 0 (set (replicate 65 0) 0 from) (set (replicate 65 0) 0 first) from first
  unfolding node_sum act_sum
  nodes_first =
      record {
        at_is = refl;
        act_is = refl;
        node_at_lem = zero_le (set (replicate 65 0) 0 from) (node_sum n t from) from refl refl;
        act_at = zero_le (set (replicate 65 0) 0 first) (act_sum n counts t first) first refl refl;
        node_most = most_set (replicate 65 0) 0 from from from (omega arith) (omega arith) (most_zeros 65 from);
        act_most = most_set (replicate 65 0) 0 first first first (omega arith) (omega arith) (most_zeros 65 first);
      }

  node_suc : (v : ℕ) → node_sum n t from (suc v) ≡ node_sum n t from v + node_width n (n ^ (get_or t.rows v no_node).width) (get_or t.rows v no_node).kind
  unfolding node_sum
  node_suc v = refl

  act_suc : (v : ℕ) → act_sum n counts t first (suc v) ≡ act_sum n counts t first v + (n ^ (get_or t.rows v no_node).width) * choices_at counts t v
  unfolding act_sum
  act_suc v = refl

  module _ (small : n ≤ 64) (few : Most counts 64) (fits : Fits t) where
    pub node_bound : (v : ℕ) → node_sum n t from v ≤ from + v * (64 ^ 4 * 64)
    unfolding node_sum
    node_bound zero = omega arith
    node_bound (suc v) =
        omega (arith, node_bound v, node_width_le n (n ^ (get_or t.rows v no_node).width) (get_or t.rows v no_node).kind small (pow_most n (get_or t.rows v no_node).width small (fits.nodes.node v).width))

    pub acts_le : (v r m : ℕ) → r ≡ n ^ (get_or t.rows v no_node).width → m ≡ choices_at counts t v → r * m ≤ 64 ^ 4 * 64
    acts_le v r m e q =
        let a : r ≤ 64 ^ 4 = rw e (pow_most n (get_or t.rows v no_node).width small (fits.nodes.node v).width) in
        let b : m ≤ 64 = rw q (choices_le (get_or counts (get_or t.rows v no_node).sort 0) (get_or t.rows v no_node).many (get_or t.rows v no_node).kind (few (get_or t.rows v no_node).sort) (let b = (fits.nodes.node v).parts in omega arith)) in
        mul-le-mul a b

    pub act_bound : (v : ℕ) → act_sum n counts t first v ≤ first + v * (64 ^ 4 * 64)
    unfolding act_sum
    act_bound zero = omega arith
    act_bound (suc v) = omega (arith, act_bound v, acts_le v _ _ refl refl)

    pub nodes_next : (v : ℕ) (node act : List ℕ) (at acts r w m : ℕ) → v < 64 → length node ≡ 65 → length act ≡ 65
        → r ≡ n ^ (get_or t.rows v no_node).width → w ≡ node_width n r (get_or t.rows v no_node).kind → m ≡ choices_at counts t v
        → NodesLaid n counts t from first v node act at acts
        → NodesLaid n counts t from first (v + 1) (set node (v + 1) (at + w)) (set act (v + 1) (acts + r * m)) (at + w) (acts + r * m)
    nodes_next v node act at acts r w m h l₁ l₂ e ew em L =
        let a : at + w ≡ node_sum n t from (suc v) = ap₂ (λ (x y : ℕ). x + y) L.at_is (ew ∙ ap (λ (x : ℕ). node_width n x (get_or t.rows v no_node).kind) e) ∙ sym (node_suc v) in
        let b : acts + r * m ≡ act_sum n counts t first (suc v) = ap₂ (λ (x y : ℕ). x + y) L.act_is (ap₂ (λ (x y : ℕ). x * y) e em) ∙ sym (act_suc v) in
        record {
          at_is = a ∙ ap (node_sum n t from) (sym (add-one v));
          act_is = b ∙ ap (act_sum n counts t first) (sym (add-one v));
          node_at_lem = entry_le node (node_sum n t from) v (at + w) (omega arith) a L.node_at_lem;
          act_at = entry_le act (act_sum n counts t first) v (acts + r * m) (omega arith) b L.act_at;
          node_most = most_set node (v + 1) (at + w) at (at + w) (omega arith) (omega arith) L.node_most;
          act_most = most_set act (v + 1) (acts + r * m) acts (acts + r * m) (omega arith) (omega arith) L.act_most;
        }

-- ---- a place of a relation by its kind
module _ (kind sort count : ℕ) where
  pub place_low : kind < 2 → (0 ≡ place_start kind sort) × (0 ≡ place_count count kind)
  unfolding place_start place_count
  place_low h = (rw (lt-ltb kind 2 h) refl, rw (lt-ltb kind 2 h) refl)

  pub place_high : 5 < kind → (0 ≡ place_start kind sort) × (0 ≡ place_count count kind)
  unfolding place_start place_count
  place_high h = (rw (le-ltb kind 2 (omega arith), lt-ltb 5 kind h) refl, rw (le-ltb kind 2 (omega arith), lt-ltb 5 kind h) refl)

  pub place_some : 2 ≤ kind → kind ≤ 5 → (range_place sort ≡ place_start kind sort) × (count ≡ place_count count kind)
  unfolding place_start place_count
  place_some h k = (rw (le-ltb kind 2 h, le-ltb 5 kind k) refl, rw (le-ltb kind 2 h, le-ltb 5 kind k) refl)
