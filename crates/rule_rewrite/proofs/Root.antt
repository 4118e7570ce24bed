-- The root: totalities, the joining `and`, and what an accepted rule leaves for its table. Assumes nothing.
use Rattle.std.specs.Prelude.{if◌then◌else◌}
use Prim.Native.Nat.{ℕ, zero, suc, ◌+◌, ◌-◌, ◌*◌, ◌≤◌, ◌<◌}
use native.Mathlib.Numerals.{add-one}
use native.Mathlib.Omega.{arith}
use mathlib.Core.Path.{◌≡◌, refl, sym, ap, subst, ◌∙◌}
use mathlib.Core.Bool.{Bool, true, false, not, ◌||◌}
use mathlib.Core.Option.{Option, none, some}
use mathlib.Core.List.{List, [], ◌∷◌, ◌++◌, append-nil}
use lib.ListN.{length, get_or, set, take, drop}
use lib.Seq.{slice}
use lib.Dec.{eqb, ltb}
use borrow.Author.Tests.{ltb-false, ne_eqb}
use Rattle.definitions.specs.Limits.{form_limit, nesting_limit}
use Rattle.definitions.specs.Lists.{filter, option}
use Rattle.definitions.specs.Sheet.Relations.{Relation, built_in, is_total}
use Rattle.definitions.specs.Sheet.Formula.{Formula, ands, forms, nesting, is_known, is_scoped, is_typed, all_forms, totals}
use Rattle.definitions.specs.Sheet.Parsing.{read_formula}
use Rattle.laws.specs.Writing.{accepted_texts}
use Rattle.definitions.specs.Sheet.Sheets.{Question, relations_of, first_chosen, first_rel}
use Rattle.definitions.specs.Problem.Tree.{Tree, Trees, and_node, end, ◌then◌, as_is, totalities, joined, tree_of, nodes, nodes_all, how_many}
use Rattle.read_text.specs.Spans.{kind_of}
use Rattle.read_names.specs.Signatures.{SoundSignature, all_of, rels_of, chosen_of, types_of, relation_in, relations_from}
use Rattle.read_names.specs.declared.Signature.{Signature}
use Rattle.read_names.proofs.Laws.{all_are, length_relations, length_names}
use Rattle.read_rule.specs.Seen.{rule_number, total_of, names}
use Rattle.read_rule.specs.Spans.{chosen_are, totals_next}
use Rattle.read_rule.specs.Bound.{slice_rest, names_none}
use Rattle.read_rule.specs.declared.Scope.{Scope}
use Rattle.rule_nodes.specs.Tables.{IsTable, Fits}
use Rattle.rule_nodes.specs.declared.Nodes.{Nodes}
use Rattle.rule_nodes.specs.Lent.{rows_many}
use Rattle.rule_nodes.specs.Postorder.{post, post_all, inner, inner_all, Rows, rows_in, rows_from, Small, AllSmall, leaf_row, quant_row, join_row}
use Rattle.rule_nodes.specs.Pass.{Ranged}
use Rattle.rule_nodes.specs.Whole.{Of, tree_ranged}
use Rattle.rule_nodes.specs.declared.Row.{Row}
use Rattle.rule_rewrite.specs.Trees.{tree_in, length_post, length_post_all, rows_le}
use Rattle.rule_rewrite.specs.Sizes.{FewPlaces, FewSorts, tree_small}
use Rattle.rule_rewrite.specs.Ready.{Adds, pushed, numbered, ReadyAt, ReadyIn, Walked, Walks}
use Rattle.rule_rewrite.specs.Rule.{totality_of, one_totality, Accepted, root_of, IsQuestion, RowsOf, TableOf}
use Rattle.rule_rewrite.proofs.Tables.{adds_none, adds_push, adds_at, adds_number, adds_both, adds_as}
use Rattle.rule_rewrite.proofs.Words.{length_all}
use Rattle.rule_rewrite.proofs.Turns.{over, walked_len, walked_nodes, first_rows, joined as joined-adds}

-- ---- one totality
pub totality_adds : (t u x y : Rows) (r σ τ : ℕ) (a b c : Row) → length t.at ≡ 64 → t.len + 3 ≤ 64 → a ≡ leaf_row true r (0 ∷ 1 ∷ []) → u
    ≡ pushed (numbered t 2) a → b ≡ quant_row 1 (t.nodes + 1) 1 τ → x ≡ record { at = set u.at (t.len + 1) b; len = t.len + 2; nodes = u.nodes }
    → c ≡ quant_row 0 t.nodes 0 σ → y ≡ record { at = set x.at (t.len + 2) c; len = t.len + 3; nodes = x.nodes }
    → Adds t (post t.nodes (totality_of r σ τ)) 2 y
unfolding post
totality_adds t u x y r σ τ a b c h l ea eu eb ex ec ey =
    let P = adds_number t 2 h in
    let U = adds_push (numbered t 2) u a h (omega arith) eu in
    let X = adds_at u x b (t.len + 1) (t.len + 2) U.long (omega (arith, U.len)) (omega (arith, U.len)) (omega (arith, U.len)) ex in
    let Y = adds_at x y c (t.len + 2) (t.len + 3) X.long (omega (arith, U.len, X.len)) (omega (arith, U.len, X.len)) (omega (arith, U.len, X.len)) ey in
    adds_as (rows a b c ea eb ec) (omega arith) (adds_both P (adds_both U (adds_both X Y)))
  where
    rows : (a b c : Row) → a ≡ leaf_row true r (0 ∷ 1 ∷ []) → b ≡ quant_row 1 (t.nodes + 1) 1 τ → c ≡ quant_row 0 t.nodes 0 σ → ◌≡◌ {A = List Row} (a ∷ b ∷ c ∷ []) (leaf_row true r (0 ∷ 1 ∷ []) ∷ quant_row 1 (suc t.nodes) 1 τ ∷ quant_row 0 t.nodes 0 σ ∷ [])
    rows a b c e f g = rw (e, f, g, add-one t.nodes)

-- what the kind adds
pub one_none : (k r σ τ : ℕ) (t : Rows) → length t.at ≡ 64 → total_of k ≡ 0 → Adds t (post_all t.nodes (one_totality k r σ τ)) (length (nodes_all (one_totality k r σ τ))) t
unfolding one_totality total_of post nodes
one_none k r σ τ t h e = by_test (is_total (kind_of k)) e
  where
    by_test : (b : Bool) → ◌≡◌ {A = ℕ} (if b then 1 else 0) 0 → Adds t (post_all t.nodes (if b then totality_of r σ τ then end else end)) (length (nodes_all (if b then totality_of r σ τ then end else end))) t
    by_test true q = absurd (omega arith)
    by_test false q = adds_none t h

pub one_some : (k r σ τ : ℕ) (t u : Rows) → (total_of k ≡ 0 → ⊥) → Adds t (post t.nodes (totality_of r σ τ)) 2 u → Adds t (post_all t.nodes (one_totality k r σ τ)) (length (nodes_all (one_totality k r σ τ))) u
unfolding one_totality total_of post nodes
one_some k r σ τ t u e a = by_test (is_total (kind_of k)) e
  where
    by_test : (b : Bool) → (◌≡◌ {A = ℕ} (if b then 1 else 0) 0 → ⊥) → Adds t (post_all t.nodes (if b then totality_of r σ τ then end else end)) (length (nodes_all (if b then totality_of r σ τ then end else end))) u
    by_test true q = adds_as (sym (append-nil (post t.nodes (totality_of r σ τ)))) refl a
    by_test false q = absurd (q refl)

one_rows : (k r σ τ v : ℕ) → length (post_all v (one_totality k r σ τ)) ≡ 3 * total_of k
unfolding one_totality total_of post
one_rows k r σ τ v = by_test (is_total (kind_of k))
  where
    by_test : (b : Bool) → length (post_all v (if b then totality_of r σ τ then end else end)) ≡ 3 * (if b then 1 else 0)
    by_test true = refl
    by_test false = refl

one_nodes : (k r σ τ : ℕ) → length (nodes_all (one_totality k r σ τ)) ≡ 2 * total_of k
unfolding one_totality total_of nodes
one_nodes k r σ τ = by_test (is_total (kind_of k))
  where
    by_test : (b : Bool) → length (nodes_all (if b then totality_of r σ τ then end else end)) ≡ 2 * (if b then 1 else 0)
    by_test true = refl
    by_test false = refl

-- ---- all totalities
-- those of the declared relations from i on
unfoldable pub totals_from : List ℕ → Signature → ℕ → Trees
totals_from q g i = totalities (5 + i) (relations_from q g i (g.rels + g.chosen - i))

split_rows : (b : Bool) (v r σ τ : ℕ) (TS : Trees) → post_all v (if b then totality_of r σ τ then TS else TS) ≡ post_all v (if b then totality_of r σ τ then end else end) ++ post_all (v + length (nodes_all (if b then totality_of r σ τ then end else end))) TS
unfolding post nodes
split_rows true v r σ τ TS = refl
split_rows false v r σ τ TS = let e : v + 0 ≡ v = omega arith in rw e

split_nodes : (b : Bool) (r σ τ : ℕ) (TS : Trees) → length (nodes_all (if b then totality_of r σ τ then TS else TS)) ≡ length (nodes_all (if b then totality_of r σ τ then end else end)) + length (nodes_all TS)
unfolding nodes
split_nodes true r σ τ TS = omega arith
split_nodes false r σ τ TS = omega arith

totals_step : (q : List ℕ) (g : Signature) (i : ℕ) → i < g.rels + g.chosen → totals_from q g i ≡ (if is_total (kind_of (get_or g.kind i 0)) then totality_of (5 + i) (get_or g.firsts i 0) (get_or g.seconds i 0) then totals_from q g (i + 1) else totals_from q g (i + 1))
unfolding totals_from totalities relations_from relation_in
totals_step q g i h =
    let n : g.rels + g.chosen - i ≡ suc (g.rels + g.chosen - (i + 1)) = omega arith in
    let m : suc (5 + i) ≡ 5 + (i + 1) = omega arith in
    ap (λ (k : ℕ). totalities (5 + i) (relations_from q g i k)) n ∙ rw (m, add-one i)

pub record Left (t u : Rows) (g : Signature) (i : ℕ) : Type 0 where
  pub rest : (q : List ℕ) (r : Rows) → Adds u (post_all u.nodes (totals_from q g i)) (length (nodes_all (totals_from q g i))) r → Adds t (post_all t.nodes (totalities (5 + g.rels) (chosen_of q g))) (length (nodes_all (totalities (5 + g.rels) (chosen_of q g)))) r
  pub space : (q : List ℕ) → u.len + 3 * totals (relations_from q g i (g.rels + g.chosen - i)) ≤ 64
  pub nodes : (q : List ℕ) → u.nodes + 3 * totals (relations_from q g i (g.rels + g.chosen - i)) ≤ 64
  pub long : length u.at ≡ 64

chosen_totals : (q : List ℕ) (g : Signature) → totals_from q g g.rels ≡ totalities (5 + g.rels) (chosen_of q g)
unfolding totals_from
chosen_totals q g = ap (λ (l : List Relation). totalities (5 + g.rels) l) (sym (chosen_are q g))

pub left_start : (t : Rows) (g : Signature) → length t.at ≡ 64 → ((q : List ℕ) → t.len + 3 * totals (chosen_of q g) ≤ 64) → ((q : List ℕ) → t.nodes + 3 * totals (chosen_of q g) ≤ 64) → Left t t g g.rels
left_start t g h a b = record {
  rest = λ q r x. subst (λ (TS : Trees). Adds t (post_all t.nodes TS) (length (nodes_all TS)) r) (chosen_totals q g) x;
  space = λ q. subst (λ (l : List Relation). t.len + 3 * totals l ≤ 64) (chosen_are q g) (a q);
  nodes = λ q. subst (λ (l : List Relation). t.nodes + 3 * totals l ≤ 64) (chosen_are q g) (b q);
  long = h;
}

module _ (t u : Rows) (g : Signature) (i : ℕ) (l : Left t u g i) (h : i < g.rels + g.chosen) where
  pub left_space : u.len + 3 * total_of (get_or g.kind i 0) ≤ 64
  left_space = omega (arith, l.space [], totals_next [] g (g.rels + g.chosen) i h)

  pub left_nodes : u.nodes + 3 * total_of (get_or g.kind i 0) ≤ 64
  left_nodes = omega (arith, l.nodes [], totals_next [] g (g.rels + g.chosen) i h)

  pub left_again : (r : Rows) → Adds u (post_all u.nodes (one_totality (get_or g.kind i 0) (5 + i) (get_or g.firsts i 0) (get_or g.seconds i 0))) (length (nodes_all (one_totality (get_or g.kind i 0) (5 + i) (get_or g.firsts i 0) (get_or g.seconds i 0)))) r → Left t r g (i + 1)
  unfolding one_totality
  left_again r a = record {
    rest = λ q y x. l.rest q y (adds_as (rows q) (many q) (adds_both a x));
    space = λ q. omega (arith, l.space q, totals_next q g (g.rels + g.chosen) i h, a.len, one_rows (get_or g.kind i 0) (5 + i) σ τ u.nodes);
    nodes = λ q. omega (arith, l.nodes q, totals_next q g (g.rels + g.chosen) i h, a.nodes, one_nodes (get_or g.kind i 0) (5 + i) σ τ);
    long = a.long;
  }
    where
      b : Bool
      b = is_total (kind_of (get_or g.kind i 0))

      σ : ℕ
      σ = get_or g.firsts i 0

      τ : ℕ
      τ = get_or g.seconds i 0

      rows : (q : List ℕ) → post_all u.nodes (if b then totality_of (5 + i) σ τ then end else end) ++ post_all r.nodes (totals_from q g (i + 1)) ≡ post_all u.nodes (totals_from q g i)
      rows q = ap (λ (n : ℕ). post_all u.nodes (if b then totality_of (5 + i) σ τ then end else end) ++ post_all n (totals_from q g (i + 1))) a.nodes ∙ sym (split_rows b u.nodes (5 + i) σ τ (totals_from q g (i + 1))) ∙ ap (λ (TS : Trees). post_all u.nodes TS) (sym (totals_step q g i h))

      many : (q : List ℕ) → length (nodes_all (if b then totality_of (5 + i) σ τ then end else end)) + length (nodes_all (totals_from q g (i + 1))) ≡ length (nodes_all (totals_from q g i))
      many q = sym (split_nodes b (5 + i) σ τ (totals_from q g (i + 1))) ∙ ap (λ (TS : Trees). length (nodes_all TS)) (sym (totals_step q g i h))

none_left : (q : List ℕ) (g : Signature) (i : ℕ) (u : Rows) → g.rels + g.chosen ≤ i → length u.at ≡ 64 → Adds u (post_all u.nodes (totals_from q g i)) (length (nodes_all (totals_from q g i))) u
unfolding totals_from totalities relations_from post nodes
none_left q g i u h k = let e : g.rels + g.chosen - i ≡ 0 = omega arith in rw e (adds_none u k)

pub left_end : (t u : Rows) (g : Signature) (i : ℕ) → g.rels + g.chosen ≤ i → Left t u g i → (q : List ℕ) → Adds t (post_all t.nodes (totalities (5 + g.rels) (chosen_of q g))) (length (nodes_all (totalities (5 + g.rels) (chosen_of q g)))) u
left_end t u g i h l q = l.rest q u (none_left q g i u h l.long)

-- ---- an accepted rule
pub record Formed (s : List ℕ) (at stop : ℕ) (g : Signature) : Type 0 where
  pub f : Formula
  pub read : read_formula (slice at stop s) ≡ some f
  pub forms_le : all_forms (chosen_of s g) f ≤ 64
  pub deep : nesting f ≤ 4
  pub known : is_known (all_of s g) f ≡ true

pub formed : (s : List ℕ) (at stop : ℕ) (g : Signature) → Accepted s at stop g → Formed s at stop g
unfolding rule_number option
formed s at stop g a = by_option (read_formula (slice at stop s)) refl a.fine
  where
    tests : (f : Formula) → read_formula (slice at stop s) ≡ some f → (x y z w v : Bool) → ltb form_limit (all_forms (chosen_of s g) f) ≡ x
        → ltb nesting_limit (nesting f) ≡ y → is_known (all_of s g) f ≡ z
        → ◌≡◌ {A = ℕ} (if x || y then 6 else if not z then 7 else if not w then 8 else if not v then 19 else 0) 0 → Formed s at stop g
    tests f e true y z w v p q r k = absurd (omega arith)
    tests f e false true z w v p q r k = absurd (omega arith)
    tests f e false false false w v p q r k = absurd (omega arith)
    tests f e false false true w v p q r k = record { f = f; read = e; forms_le = ltb-false form_limit (all_forms (chosen_of s g) f) p; deep = ltb-false nesting_limit (nesting f) q; known = r }

    by_option : (o : Option Formula) → read_formula (slice at stop s) ≡ o
        → ◌≡◌ {A = ℕ} (option o 5 (λ f. if ltb form_limit (all_forms (chosen_of s g) f)
        || ltb nesting_limit (nesting f) then 6 else if not (is_known (all_of s g) f) then 7 else if not (is_scoped [] f) then 8 else if not
        (is_typed (types_of s g) f) then 19 else 0)) 0 → Formed s at stop g
    by_option none e k = absurd (omega arith)
    by_option (some f) e k = tests f e (ltb form_limit (all_forms (chosen_of s g) f)) (ltb nesting_limit (nesting f)) (is_known (all_of s g) f) (is_scoped [] f) (is_typed (types_of s g) f) refl refl refl k

pub same_formed : (s : List ℕ) (at stop : ℕ) (g : Signature) (a : Formed s at stop g) (f : Formula) → read_formula (slice at stop s) ≡ some f → f ≡ a.f
same_formed s at stop g a f e = let q : some f ≡ some a.f = sym e ∙ a.read in cc

-- the relations have few places
few_built_in : FewPlaces built_in
unfolding FewPlaces built_in
few_built_in = (omega arith, (omega arith, (omega arith, (omega arith, (omega arith, tt)))))

few_append : (l m : List Relation) → FewPlaces l → FewPlaces m → FewPlaces (l ++ m)
unfolding FewPlaces
few_append [] m a b = b
few_append (r ∷ l) m a b = (a.0, few_append l m a.1 b)

few_from : (q : List ℕ) (g : Signature) (i m : ℕ) → ((j : ℕ) → j < i + m → get_or g.arity j 0 ≤ 3) → FewPlaces (relations_from q g i m)
unfolding FewPlaces relations_from relation_in
few_from q g i zero f = tt
few_from q g i (suc m) f = (f i (omega arith), few_from q g (suc i) m (λ j h. f j (omega arith)))

pub few_places : (s : List ℕ) (g : Signature) → SoundSignature s g → FewPlaces (all_of s g)
few_places s g a = subst (λ (l : List Relation). FewPlaces l) (sym (all_are s g a.every_le)) (few_append built_in (relations_from s g 0 (g.rels + g.chosen + g.every)) few_built_in (few_from s g 0 (g.rels + g.chosen + g.every) (λ j h. (a.arities j (omega arith)).1)))

sorts_from : (q : List ℕ) (g : Signature) (i m : ℕ) → ((j : ℕ) → j < i + m → (get_or g.firsts j 0 ≤ 8) × (get_or g.seconds j 0 ≤ 8)) → FewSorts (relations_from q g i m)
unfolding FewSorts relations_from relation_in
sorts_from q g i zero f = tt
sorts_from q g i (suc m) f = let (x, y) = f i (omega arith) in (x, y, sorts_from q g (suc i) m (λ j h. f j (omega arith)))

few_sorts : (s : List ℕ) (g : Signature) → SoundSignature s g → FewSorts (chosen_of s g)
unfolding chosen_of
few_sorts s g a = sorts_from s g g.rels g.chosen (λ j h. let (x, y) = a.sorts j (omega arith) in let t = a.types_le in (omega arith, omega arith))

few_cons : (k : Relation) (ks : List Relation) → FewSorts (k ∷ ks) → (k.firsts ≤ 8) × (k.seconds ≤ 8) × FewSorts ks
unfolding FewSorts
few_cons k ks h = h

-- ---- the walk's start
abbrev pub top_ready : (s : List ℕ) (at stop : ℕ) (g : Signature) (F T : List ℕ) (t : Rows) → Accepted s at stop g → (a : Formed s at stop g) → length t.at ≡ 64 → t.len + forms a.f ≤ 64 → t.nodes + forms a.f ≤ 64 → ReadyAt s at g (record { from = F; to = T; n = 0 }) t
top_ready s at stop g F T t c a h n m = record {
  f = a.f;
  rest = drop stop s;
  is = slice_rest s at stop c.low c.high ∙ ap (λ (l : List ℕ). l ++ drop stop s) ((accepted_texts (slice at stop s) a.f).0 a.read).1;
  fine = record {
    depth = 128;
    good = ((accepted_texts (slice at stop s) a.f).0 a.read).0;
    rows = n;
    nodes = m;
    deep = subst (λ (l : List (List ℕ)). length l + nesting a.f ≤ 4) (sym (names_none s F T)) (omega (arith, a.deep));
    known = a.known;
  };
  fixed = record { few = omega (arith, c.sound.rels_le, c.sound.chosen_le, c.sound.every_le); one = c.sound.every_le; places = few_places s g c.sound; types = c.sound.types_le; no_further = c.sound.no_further; long = h };
}

-- ... over the names and the count of the signature itself
abbrev pub own : {s : List ℕ} {at : ℕ} {g : Signature} {sc : Scope} {t : Rows} → ReadyAt s at g sc t → ReadyIn s at g.from g.to (g.rels + g.chosen + g.every) sc t
own w = over (record { from_is = refl; to_is = refl; count = refl; one = w.fixed.one }) w

-- ---- the tree with its totalities
totals_some : (k : Relation) (ds : List Relation) → totals (k ∷ ds) ≡ (if is_total k.kind then 1 else 0) + totals ds
unfolding totals filter
totals_some k ds = by_test (is_total k.kind)
  where
    by_test : (b : Bool) → length (if b then k ∷ filter (λ (r : Relation). is_total r.kind) ds else filter (λ (r : Relation). is_total r.kind) ds) ≡ (if b then 1 else 0) + length (filter (λ (r : Relation). is_total r.kind) ds)
    by_test true = omega arith
    by_test false = omega arith

-- how many there are, their rows, and that each has a place in the table
pub record Totals (r rels : ℕ) (ds : List Relation) (TS : Trees) : Type 0 where
  pub many : how_many TS ≡ totals ds
  pub rows : inner_all TS ≡ 2 * totals ds
  pub small : r + length ds ≤ rels → FewSorts ds → AllSmall rels TS

one_many : (r σ τ : ℕ) (TS : Trees) (n m : ℕ) → m ≡ 1 + n → how_many TS ≡ n → how_many (totality_of r σ τ then TS) ≡ m
unfolding how_many
one_many r σ τ TS n m e h = omega arith

one_inner : (r σ τ : ℕ) (TS : Trees) (n m : ℕ) → m ≡ 1 + n → inner_all TS ≡ 2 * n → inner_all (totality_of r σ τ then TS) ≡ 2 * m
unfolding inner
one_inner r σ τ TS n m e h = omega arith

one_small : (r σ τ rels : ℕ) (TS : Trees) → r < rels → σ ≤ 8 → τ ≤ 8 → ((i : ℕ) → get_or (0 ∷ 1 ∷ []) i 0 < 4) → AllSmall rels TS → AllSmall rels (totality_of r σ τ then TS)
unfolding Small
one_small r σ τ rels TS h a b f s = ((omega arith, a, (omega arith, b, (h, omega arith, f))), s)

totals_nil : (r rels : ℕ) → Totals r rels [] end
unfolding how_many inner totals filter Small
totals_nil r rels = record { many = refl; rows = refl; small = λ q l. tt }

totals_one : (r rels : ℕ) (k : Relation) (ds : List Relation) (TS : Trees) → Totals (suc r) rels ds TS → Totals r rels (k ∷ ds) (if is_total k.kind then totality_of r k.firsts k.seconds then TS else TS)
totals_one r rels k ds TS h = by_test (is_total k.kind) (totals_some k ds)
  where
    low : (i : ℕ) → get_or (0 ∷ 1 ∷ []) i 0 < 4
    low zero = omega arith
    low (suc zero) = omega arith
    low (suc (suc zero)) = omega arith
    low (suc (suc (suc i))) = omega arith

    by_test : (b : Bool) → totals (k ∷ ds) ≡ (if b then 1 else 0) + totals ds → Totals r rels (k ∷ ds) (if b then totality_of r k.firsts k.seconds then TS else TS)
    by_test true e = record {
      many =
          one_many r k.firsts k.seconds TS (totals ds) (totals (k ∷ ds)) e h.many;
      rows = one_inner r k.firsts k.seconds TS (totals ds)
          (totals (k ∷ ds)) e h.rows;
      small = λ q l. let (x, y, m) = few_cons k ds l in
          one_small r k.firsts k.seconds rels TS (omega arith) x y low (h.small (omega arith) m);
    }
    by_test false e = record { many = omega (arith, h.many); rows = omega (arith, h.rows); small = λ q l. h.small (omega arith) (few_cons k ds l).2 }

totals_are : (r rels : ℕ) (ds : List Relation) → Totals r rels ds (totalities r ds)
unfolding totalities
totals_are r rels [] = totals_nil r rels
totals_are r rels (k ∷ ds) = totals_one r rels k ds (totalities (suc r) ds) (totals_are (suc r) rels ds)

joined_none : (T : Tree) (TS : Trees) (n : ℕ) → how_many TS ≡ n → n ≡ 0 → joined T TS ≡ T
unfolding joined how_many
joined_none T end n e h = refl
joined_none T (U then US) n e h = absurd (omega arith)

joined_some : (T : Tree) (TS : Trees) (n : ℕ) → how_many TS ≡ n → (n ≡ 0 → ⊥) → joined T TS ≡ and_node (T then TS)
unfolding joined how_many
joined_some T end n e h = absurd (h (sym e))
joined_some T (U then US) n e h = refl

-- ---- the rows of a tree in a table that was empty
of_adds : (t u : Rows) (rels : ℕ) (root : Tree) → t.len ≡ 0 → t.nodes ≡ 0 → Adds t (post t.nodes root) (length (nodes root)) u → Small rels root → suc (inner root) ≤ 64 → 0 < rels → rels ≤ 18 → Of rels root u
unfolding rows_in
of_adds t u rels root e h a s f o b = record {
  is = a.is ∙ ap (λ (n : ℕ). take n t.at ++ post t.nodes root) e ∙ ap (λ (n : ℕ). take 0 t.at ++ post n root) h ∙ none t.at;
  count = omega (arith, a.nodes);
  small = s;
  fits = f;
  some_rels = o;
  few_rels = b;
}
  where
    none : (l : List Row) → take 0 l ++ post 0 root ≡ post 0 root
    none [] = refl
    none (x ∷ l) = refl

joined_many : (T : Tree) (TS : Trees) (n : ℕ) → how_many TS ≡ n → n + 1 ≡ how_many (T then TS)
unfolding how_many
joined_many T TS n e = omega arith

small_and : (rels : ℕ) (T : Tree) (TS : Trees) → Small rels T → AllSmall rels TS → Small rels (and_node (T then TS))
unfolding Small
small_and rels T TS a b = (a, b)

and_rows : (T : Tree) (TS : Trees) (n m : ℕ) → how_many TS ≡ n → inner_all TS ≡ 2 * n → suc (inner T) ≤ m → m + 3 * n + 1 ≤ 64 → suc (inner (and_node (T then TS))) ≤ 64
unfolding inner how_many
and_rows T TS n m a b c d = omega arith

rels_long : (s : List ℕ) (g : Signature) → length (rels_of s g) ≡ g.rels
unfolding rels_of
rels_long s g = length_relations s g 0 g.rels

module _ (s : List ℕ) (at stop : ℕ) (g : Signature) (c : Accepted s at stop g) (a : Formed s at stop g) (F T : List ℕ) where
  tops : tree_in true (all_of s g) (types_of s g) (names s (record { from = F; to = T; n = 0 })) a.f ≡ as_is (all_of s g) (types_of s g) [] a.f
  unfolding tree_in
  tops = ap (λ (l : List (List ℕ)). as_is (all_of s g) (types_of s g) l a.f) (names_none s F T)

  rels_some : 0 < length (all_of s g)
  rels_some = omega (arith, length_all s g c.sound.every_le)

  rels_few : length (all_of s g) ≤ 18
  rels_few = omega (arith, length_all s g c.sound.every_le, c.sound.rels_le, c.sound.chosen_le, c.sound.every_le)

  types_few : length (types_of s g) ≤ 8
  unfolding types_of
  types_few = omega (arith, length_names s g.from g.to 13 g.types, c.sound.types_le)

  tops_small : Small (length (all_of s g)) (as_is (all_of s g) (types_of s g) [] a.f)
  unfolding tree_in
  tops_small = tree_small (all_of s g) (few_places s g c.sound) rels_some (types_of s g) types_few true [] a.f a.known (omega (arith, a.deep))

  tops_rows : suc (inner (as_is (all_of s g) (types_of s g) [] a.f)) ≤ forms a.f
  unfolding tree_in
  tops_rows = rows_le true (all_of s g) (types_of s g) [] a.f

  few_forms : forms a.f + 3 * totals (chosen_of s g) + (if eqb (totals (chosen_of s g)) zero then zero else 1) ≤ 64
  unfolding all_forms
  few_forms = a.forms_le

  pub plain_forms : forms a.f ≤ 64
  plain_forms = omega (arith, few_forms)

  pub joined_forms : (totals (chosen_of s g) ≡ 0 → ⊥) → forms a.f + 3 * totals (chosen_of s g) + 1 ≤ 64
  joined_forms h = from_this (ne_eqb (totals (chosen_of s g)) 0 h) few_forms
    where
      from_this : eqb (totals (chosen_of s g)) 0 ≡ false → forms a.f + 3 * totals (chosen_of s g) + (if eqb (totals (chosen_of s g)) zero then zero else 1) ≤ 64 → forms a.f + 3 * totals (chosen_of s g) + 1 ≤ 64
      from_this e x = rw e at x

  all_totals : Totals (5 + g.rels) (length (all_of s g)) (chosen_of s g) (totalities (5 + g.rels) (chosen_of s g))
  all_totals = totals_are (5 + g.rels) (length (all_of s g)) (chosen_of s g)

  chosen_long : length (chosen_of s g) ≡ g.chosen
  unfolding chosen_of
  chosen_long = length_relations s g g.rels g.chosen

  -- ---- no totality
  pub of_plain : (t : Rows) (after : ℕ) (r : Rows) → t.len ≡ 0 → t.nodes ≡ 0 → totals (chosen_of s g) ≡ 0 → Walked true s at g (record { from = F; to = T; n = 0 }) t a.f after r → RowsOf s at stop g r
  of_plain t after r e h z w = record {
    long = w.adds.long;
    few = omega (arith, w.adds.len, length_post t.nodes (tree_in true (all_of s g) (types_of s g) (names s (record { from = F; to = T; n = 0 })) a.f), rows_le true (all_of s g) (types_of s g) (names s (record { from = F; to = T; n = 0 })) a.f, plain_forms);
    of = λ f q. subst (λ (x : Formula). Of (length (all_of s g)) (root_of s g x) r) (sym (same_formed s at stop g a f q))
        (subst (λ (x : Tree). Of (length (all_of s g)) x r) (sym root)
        (of_adds t r (length (all_of s g)) (as_is (all_of s g) (types_of s g) [] a.f) e h (subst (λ (x : Tree). Adds t (post t.nodes x) (length (nodes x)) r) tops w.adds) tops_small (omega (arith, tops_rows, plain_forms)) rels_some rels_few));
  }
    where
      root : root_of s g a.f ≡ as_is (all_of s g) (types_of s g) [] a.f
      root = joined_none (as_is (all_of s g) (types_of s g) [] a.f) (totalities (5 + g.rels) (chosen_of s g)) (totals (chosen_of s g)) all_totals.many z

  -- ---- some
  module _ (h : totals (chosen_of s g) ≡ 0 → ⊥) (t z : Rows) (after : ℕ) (r : Rows) (el : t.len ≡ 0) (en : t.nodes ≡ 0) (long : length t.at ≡ 64)
      (w : Walked true s at g (record { from = F; to = T; n = 0 }) (numbered t 1) a.f after r)
      (A : Adds r (post_all r.nodes (totalities (5 + g.rels) (chosen_of s g))) (length (nodes_all (totalities (5 + g.rels) (chosen_of s g)))) z)
    where
      walk_adds : Adds (numbered t 1) (post (t.nodes + 1) (as_is (all_of s g) (types_of s g) [] a.f)) (length (nodes (as_is (all_of s g) (types_of s g) [] a.f))) r
      walk_adds = subst (λ (x : Tree). Adds (numbered t 1) (post (t.nodes + 1) x) (length (nodes x)) r) tops w.adds

      parts_rows : length (post_all r.nodes (totalities (5 + g.rels) (chosen_of s g))) ≡ 3 * totals (chosen_of s g)
      parts_rows = omega (arith, length_post_all r.nodes (totalities (5 + g.rels) (chosen_of s g)), all_totals.many, all_totals.rows)

      pub joined_space : z.len + 1 ≤ 64
      joined_space = omega (arith, joined_forms h, tops_rows, walk_adds.len, length_post (t.nodes + 1) (as_is (all_of s g) (types_of s g) [] a.f), A.len, parts_rows)

      pub of_joined : (u : Rows) (row : Row) → row ≡ join_row 2 0 (totals (chosen_of s g) + 1) → u ≡ pushed z row → RowsOf s at stop g u
      of_joined u row er eu = record {
        long = all.long;
        few = omega (arith, all.len, length_post t.nodes (and_node (as_is (all_of s g) (types_of s g) [] a.f then totalities (5 + g.rels) (chosen_of s g))), root_rows);
        of = λ f q. subst (λ (x : Formula). Of (length (all_of s g)) (root_of s g x) u) (sym (same_formed s at stop g a f q))
            (subst (λ (x : Tree). Of (length (all_of s g)) x u) (sym root)
            (of_adds t u (length (all_of s g)) (and_node (as_is (all_of s g) (types_of s g) [] a.f then totalities (5 + g.rels) (chosen_of s g))) el en all root_small root_rows rels_some rels_few));
      }
        where
          root : root_of s g a.f ≡ and_node (as_is (all_of s g) (types_of s g) [] a.f then totalities (5 + g.rels) (chosen_of s g))
          root = joined_some (as_is (all_of s g) (types_of s g) [] a.f) (totalities (5 + g.rels) (chosen_of s g)) (totals (chosen_of s g)) all_totals.many h

          all : Adds t (post t.nodes (and_node (as_is (all_of s g) (types_of s g) [] a.f then totalities (5 + g.rels) (chosen_of s g)))) (length (nodes (and_node (as_is (all_of s g) (types_of s g) [] a.f then totalities (5 + g.rels) (chosen_of s g))))) u
          all = joined-adds {t = t} {z =
              z} true ands (as_is (all_of s g) (types_of s g) [] a.f then totalities (5 + g.rels) (chosen_of s g)) row u
              (er ∙ rw (en) (ap (λ (n : ℕ). join_row 2 0 n) (joined_many (as_is (all_of s g) (types_of s g) [] a.f)
              (totalities (5 + g.rels) (chosen_of s g)) (totals (chosen_of s g)) all_totals.many))) eu (omega (arith, joined_space))
              (first_rows (as_is (all_of s g) (types_of s g) [] a.f) (totalities (5 + g.rels) (chosen_of s g)) (adds_number t 1 long) walk_adds A)

          root_small : Small (length (all_of s g)) (and_node (as_is (all_of s g) (types_of s g) [] a.f then totalities (5 + g.rels) (chosen_of s g)))
          root_small = small_and (length (all_of s g)) (as_is (all_of s g) (types_of s g) [] a.f) (totalities (5 + g.rels) (chosen_of s g)) tops_small (all_totals.small (omega (arith, chosen_long, length_all s g c.sound.every_le)) (few_sorts s g c.sound))

          root_rows : suc (inner (and_node (as_is (all_of s g) (types_of s g) [] a.f then totalities (5 + g.rels) (chosen_of s g)))) ≤ 64
          root_rows = and_rows (as_is (all_of s g) (types_of s g) [] a.f) (totalities (5 + g.rels) (chosen_of s g)) (totals (chosen_of s g)) (forms a.f) all_totals.many all_totals.rows tops_rows (joined_forms h)

-- ---- what `rows_of` asks of those that it calls, and makes of their answers: no variable is bound, and the table is empty
abbrev pub unbound : Scope
unbound = record { from = 0 ∷ 0 ∷ 0 ∷ 0 ∷ []; to = 0 ∷ 0 ∷ 0 ∷ 0 ∷ []; n = 0 }

module _ {s : List ℕ} {at stop : ℕ} {g : Signature} (c : Accepted s at stop g) (b : List ℕ) where
  abbrev pub plain_ready : ReadyIn s at g.from g.to (g.rels + g.chosen + g.every) unbound (rows_from b 0 0)
  plain_ready =
      let a = formed s at stop g c in let h = plain_forms s at stop g c a [] [] in
      own (top_ready s at stop g unbound.from unbound.to (rows_from b 0 0) c a (rows_many b 0 0) (omega (arith, h)) (omega (arith, h)))

  pub plain_rows : totals (chosen_of s g) ≡ 0 → {after : ℕ} {r : Rows}
      → Walks true s at g.from g.to (g.rels + g.chosen + g.every) unbound (rows_from b 0 0) after r → RowsOf s at stop g r
  plain_rows e {after} {r} w =
      of_plain s at stop g c (formed s at stop g c) unbound.from unbound.to (rows_from b 0 0) after r refl refl e (w plain_ready)

  module _ {n : ℕ} (all : (q : List ℕ) → n ≡ totals (chosen_of q g)) (some : n ≡ 0 → ⊥) where
    pub joined_few : forms (formed s at stop g c).f + 3 * n + 1 ≤ 64
    joined_few = omega (arith, all s, joined_forms s at stop g c (formed s at stop g c) [] [] (λ e. some (all s ∙ e)))

    abbrev pub joined_ready : ReadyIn s at g.from g.to (g.rels + g.chosen + g.every) unbound (rows_from b 0 1)
    joined_ready =
        let a = formed s at stop g c in
        own (top_ready s at stop g unbound.from unbound.to (rows_from b 0 1) c a (rows_many b 0 1) (omega (arith, joined_few)) (omega (arith, joined_few)))

    module _ {after : ℕ} {r : Rows} (w : Walks true s at g.from g.to (g.rels + g.chosen + g.every) unbound (rows_from b 0 1) after r) where
      pub joined_left : (q : List ℕ) → (r.len + 3 * totals (chosen_of q g) ≤ 64) × (r.nodes + 3 * totals (chosen_of q g) ≤ 64)
      joined_left q =
          let f = (formed s at stop g c).f in let W = w joined_ready in
          (omega (arith, joined_few, all q, walked_len true f after r W), omega (arith, joined_few, all q, walked_nodes true f after r W))

      module _ {z : Rows} (A : (q : List ℕ)
          → Adds r (post_all r.nodes (totalities (5 + g.rels) (chosen_of q g))) (length (nodes_all (totalities (5 + g.rels) (chosen_of q g)))) z) where
        pub joined_room : z.len + 1 ≤ 64
        joined_room =
            joined_space s at stop g c (formed s at stop g c) unbound.from unbound.to (λ e. some (all s ∙ e)) (rows_from b 0 0) z after r refl refl
            (rows_many b 0 0) (w joined_ready) (A s)

        pub joined_rows : {u : Rows} {row : Row} → row ≡ join_row 2 0 (n + 1) → u ≡ pushed z row → RowsOf s at stop g u
        joined_rows {u} {row} er eu =
            of_joined s at stop g c (formed s at stop g c) unbound.from unbound.to (λ e. some (all s ∙ e)) (rows_from b 0 0) z after r refl refl
            (rows_many b 0 0) (w joined_ready) (A s) u row (er ∙ ap (λ (m : ℕ). join_row 2 0 (m + 1)) (all s)) eu

-- ---- the question's table
relations_are : (s : List ℕ) (at stop : ℕ) (g : Signature) (q : Question) → IsQuestion s at stop g q → all_of s g ≡ relations_of q
unfolding all_of relations_of
relations_are s at stop g q i = rw (i.rels, i.chosen, i.every)

tree_is : (s : List ℕ) (at stop : ℕ) (g : Signature) (q : Question) → IsQuestion s at stop g q → root_of s g q.rule.formula ≡ tree_of q
unfolding tree_of first_chosen first_rel built_in
tree_is s at stop g q i =
    ap (λ (l : List Relation). joined (as_is l (types_of s g) [] q.rule.formula) (totalities (5 + g.rels) (chosen_of s g))) (relations_are s at stop g q i)
    ∙ ap (λ (ts : List (List ℕ)). joined (as_is (relations_of q) ts [] q.rule.formula) (totalities (5 + g.rels) (chosen_of s g))) (sym i.types)
    ∙ ap (λ (n : ℕ). joined (as_is (relations_of q) q.types [] q.rule.formula) (totalities (5 + n) (chosen_of s g))) (sym (rels_long s g) ∙ ap length (sym i.rels))
    ∙ ap (λ (l : List Relation). joined (as_is (relations_of q) q.types [] q.rule.formula) (totalities (5 + length q.rels) l)) (sym i.chosen)

pub table_of_lem : (s : List ℕ) (at stop : ℕ) (g : Signature) (a : Accepted s at stop g) (u : Rows) (r : Nodes) → RowsOf s at stop g u → ((rels : ℕ) (root : Tree) → Of rels root u → IsTable rels root r × Fits r) → TableOf s at stop g r
table_of_lem s at stop g a u r w f = record {
  fits = (f (length (all_of s g)) (root_of s g (formed s at stop g a).f) (w.of (formed s at stop g a).f (formed s at stop g a).read)).1;
  is = λ q i. subst (λ (l : List Relation). IsTable (length l) (tree_of q) r) (relations_are s at stop g q i) (subst (λ (x : Tree). IsTable (length (all_of s g)) x r) (tree_is s at stop g q i) (f (length (all_of s g)) (root_of s g q.rule.formula) (w.of q.rule.formula i.rule)).0);
}

pub rows_ranged : (s : List ℕ) (at stop : ℕ) (g : Signature) (a : Accepted s at stop g) (u : Rows) → RowsOf s at stop g u → Ranged 0 0 (rows_in u)
rows_ranged s at stop g a u w =
    let o = w.of (formed s at stop g a).f (formed s at stop g a).read in
    subst (λ (l : List Row). Ranged 0 0 l) (sym o.is) (tree_ranged (root_of s g (formed s at stop g a).f) o.fits)
