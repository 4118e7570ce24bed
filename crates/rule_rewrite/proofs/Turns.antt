-- The walk, form by form: where the parts of a formula stand, and what their rows together are. Assumes nothing.
use Prim.Native.Nat.{ℕ, suc, ◌+◌, ◌-◌, ◌≤◌, ◌<◌}
use native.Mathlib.Numerals.{add-one}
use native.Mathlib.Omega.{arith}
use mathlib.Core.Path.{◌≡◌, refl, sym, ap, subst, ◌∙◌}
use mathlib.Core.Bool.{Bool, true, false, not}
use mathlib.Core.List.{List, [], ◌∷◌, ◌++◌, append_assoc, append-nil}
use lib.ListN.{length, get_or, drop, length-append, length-drop}
use lib.Seq.{drop-drop}
use Rattle.definitions.specs.Sheet.Formula.{Formula, Formulas, literal, negation, implication, conjunction, disjunction, exists, forall, nil, cons, Join}
use Rattle.definitions.specs.Sheet.Formula.{ands, ors, Quant, somes, everys, join, quant, join_word, quant_word, not_word, imp_word, Quantified, write_typed}
use Rattle.definitions.specs.Sheet.Formula.{write_more, write_list, write, write_parts, forms, forms_all}
use Rattle.definitions.specs.Sheet.Parsing.{is_not, is_implies, is_other, kind_of}
use Rattle.definitions.specs.Problem.Tree.{Tree, Trees, end, ◌then◌, nodes, nodes_all, how_many}
use Rattle.read_names.specs.Signatures.{Lent, all_of, types_of}
use Rattle.read_names.specs.declared.Signature.{Signature}
use Rattle.read_rule.specs.Seen.{names}
use Rattle.read_rule.specs.Spans.{length_names}
use Rattle.read_rule.specs.Steps.{front_rest}
use Rattle.read_rule.specs.declared.Scope.{Scope}
use Rattle.rule_nodes.specs.Postorder.{post, post_all, Rows, join_row}
use Rattle.rule_nodes.specs.Whole.{nodes_le}
use Rattle.rule_nodes.specs.declared.Row.{Row}
use Rattle.rule_rewrite.specs.Trees.{tree_in, trees_in, join_node, join_kind, tree_neg, tree_imp, tree_join, trees_nil, trees_cons, post_join, nodes_join, length_post, length_post_all, rows_le, rows_le_all}
use Rattle.rule_rewrite.specs.Ready.{as_join, as_quant, join_head, quant_head, Adds, pushed, numbered, Fine, AllFine, Fixed, ReadyAt, PartsReady, ReadyIn, PartsReadyIn, Walked, WalkedParts}
use Rattle.rule_rewrite.proofs.Tables.{adds_none, adds_push, adds_number, adds_both, adds_as}
use Rattle.rule_rewrite.proofs.Words.{first_byte}
use Rattle.rule_rewrite.proofs.Views.{join_forms, form_head, kind_of_lem, IsLit, IsNeg, IsImp, IsJoin, IsQuant, as_lit, as_neg, as_imp, as_join_lem, as_quant_lem, fine_neg, fine_imp_1, fine_imp_2, fine_join_1, fine_join_2, fine_part, fine_parts}

-- ---- texts
pub lay_neg : (f : Formula) (m : List ℕ) → write (negation f) ++ m ≡ not_word ++ (write f ++ (41 ∷ m))
unfolding write
lay_neg f m = simp append_assoc

pub lay_imp : (f g : Formula) (m : List ℕ) → write (implication f g) ++ m ≡ imp_word ++ (write f ++ (32 ∷ (write g ++ (41 ∷ m))))
unfolding write
lay_imp f g m = simp append_assoc

pub lay_join : (j : Join) (f : Formula) (fs : Formulas) (m : List ℕ) → write (join j (cons f fs)) ++ m ≡ join_word j ++ (write f ++ (write_parts fs ++ (41 ∷ m)))
unfolding write
lay_join ands f fs m = simp append_assoc
lay_join ors f fs m = simp append_assoc

pub lay_quant : (k : Quant) (q : Quantified) (qs : List Quantified) (f : Formula) (m : List ℕ) → write (quant k (q ∷ qs) f) ++ m ≡ quant_word k ++ (write_typed q ++ (write_more qs ++ (41 ∷ 32 ∷ (write f ++ (41 ∷ m)))))
unfolding write
lay_quant somes q qs f m = simp append_assoc
lay_quant everys q qs f m = simp append_assoc

pub lay_parts : (f : Formula) (fs : Formulas) (m : List ℕ) → write_parts (cons f fs) ++ m ≡ 32 ∷ (write f ++ (write_parts fs ++ m))
unfolding write
lay_parts f fs m = simp append_assoc

-- lengths of what is written
whole : (l : List ℕ) → length (l ++ []) ≡ length l
whole l = ap length (append-nil l)

len_neg : (f : Formula) → length (write (negation f)) ≡ 6 + length (write f)
len_neg f = omega (arith, whole (write (negation f)), ap length (lay_neg f []), length-append (write f) (41 ∷ []))

len_imp : (f g : Formula) → length (write (implication f g)) ≡ 11 + (length (write f) + length (write g))
len_imp f g = omega (arith, whole (write (implication f g)), ap length (lay_imp f g []), length-append (write f) (32 ∷ (write g ++ (41 ∷ []))), length-append (write g) (41 ∷ []))

len_join : (j : Join) (f : Formula) (fs : Formulas) → length (write (join j (cons f fs))) ≡ length (join_word j) + (length (write f) + (length (write_parts fs) + 1))
len_join j f fs = omega (arith, whole (write (join j (cons f fs))), ap length (lay_join j f fs []), length-append (join_word j) (write f ++ (write_parts fs ++ (41 ∷ []))), length-append (write f) (write_parts fs ++ (41 ∷ [])), length-append (write_parts fs) (41 ∷ []))

pub join_some : (b : Bool) → 1 ≤ length (join_word (as_join b))
join_some true = omega arith
join_some false = omega arith

pub quant_nine : (q : Quant) → length (quant_word q) ≡ 9
quant_nine somes = refl
quant_nine everys = refl

pub len_quant : (k : Quant) (q : Quantified) (qs : List Quantified) (f : Formula) → length (write (quant k (q ∷ qs) f)) ≡ 9 + (length (write_list (q ∷ qs)) + 2) + (length (write f) + 1)
len_quant k q qs f =
    omega (
      arith,
      whole (write (quant k (q ∷ qs) f)),
      ap length (lay_quant k q qs f []),
      length-append (quant_word k)
          (write_typed q ++ (write_more qs ++ (41 ∷ 32 ∷ (write f ++ (41 ∷ []))))),
      quant_nine k,
      length-append (write_typed q)
          (write_more qs ++ (41 ∷ 32 ∷ (write f ++ (41 ∷ [])))),
      length-append (write_more qs) (41 ∷ 32 ∷ (write f ++ (41 ∷ []))),
      length-append (write f)
          (41 ∷ []),
      length-append (write_typed q) (write_more qs),
    )

len_parts : (f : Formula) (fs : Formulas) → length (write_parts (cons f fs)) ≡ 1 + (length (write f) + length (write_parts fs))
len_parts f fs = omega (arith, whole (write_parts (cons f fs)), ap length (lay_parts f fs []), length-append (write f) (write_parts fs ++ []), whole (write_parts fs))

pub long_write : (f : Formula) → 1 ≤ length (write f)
unfolding write
long_write (literal n vs) = omega arith
long_write (negation f) = omega arith
long_write (implication f g) = omega arith
long_write (conjunction fs) = omega arith
long_write (disjunction fs) = omega arith
long_write (exists vs f) = omega arith
long_write (forall vs f) = omega arith

pub text_in : (s p q : List ℕ) (at : ℕ) → drop at s ≡ p ++ q → 1 ≤ length p → at + (length p + length q) ≡ length s
text_in s p q at e h = from_this (sym (length-drop at s) ∙ ap length e ∙ length-append p q)
  where
    from_this : length s - at ≡ length p + length q → at + (length p + length q) ≡ length s
    from_this x = omega arith

-- ---- what is known at a place
module _ {s : List ℕ} {at : ℕ} {g : Signature} {sc : Scope} {t : Rows} where
  pub ready_head : (w : ReadyAt s at g sc t) → kind_of (drop at s) ≡ form_head w.f
  ready_head w = ap (λ (l : List ℕ). kind_of l) w.is ∙ kind_of_lem w.fine.good w.rest

  pub ready_end : (w : ReadyAt s at g sc t) → at + length (write w.f) ≤ length s
  ready_end w = omega (arith, text_in s (write w.f) w.rest at w.is (long_write w.f))

  pub ready_in : ReadyAt s at g sc t → at < length s
  ready_in w = omega (arith, ready_end w, long_write w.f)

  pub ready_few : ReadyAt s at g sc t → sc.n ≤ 4
  ready_few w = omega (arith, w.fine.deep, length_names s sc)

  pub ready_rows : ReadyAt s at g sc t → t.len < 64
  ready_rows w = omega (arith, w.fine.rows, rows_le true (all_of s g) (types_of s g) (names s sc) w.f)

  pub ready_nodes : ReadyAt s at g sc t → t.nodes < 64
  ready_nodes w = omega (arith, w.fine.nodes, rows_le true (all_of s g) (types_of s g) (names s sc) w.f)

  pub neg_view : (w : ReadyAt s at g sc t) → kind_of (drop at s) ≡ is_not → IsNeg w.f
  neg_view w e = as_neg w.fine.good (sym (ready_head w) ∙ e)

  pub imp_view : (w : ReadyAt s at g sc t) → kind_of (drop at s) ≡ is_implies → IsImp w.f
  imp_view w e = as_imp w.fine.good (sym (ready_head w) ∙ e)

  pub join_view : (b : Bool) (w : ReadyAt s at g sc t) → kind_of (drop at s) ≡ join_head b → IsJoin (as_join b) w.f
  join_view b w e = as_join_lem b w.fine.good (sym (ready_head w) ∙ e)

  pub quant_view : (b : Bool) (w : ReadyAt s at g sc t) → kind_of (drop at s) ≡ quant_head b → IsQuant (as_quant b) w.f
  quant_view b w e = as_quant_lem b w.fine.good (sym (ready_head w) ∙ e)

  pub lit_view : (w : ReadyAt s at g sc t) → kind_of (drop at s) ≡ is_other → IsLit w.f
  lit_view w e = as_lit w.fine.good (sym (ready_head w) ∙ e)

  -- rows and nodes that a part adds are no more than its forms, and one at least
  pub walked_len : (b : Bool) (f : Formula) (after : ℕ) (u : Rows) → Walked b s at g sc t f after u → u.len ≤ t.len + forms f
  walked_len b f after u w = omega (arith, w.adds.len, length_post t.nodes (tree_in b (all_of s g) (types_of s g) (names s sc) f), rows_le b (all_of s g) (types_of s g) (names s sc) f)

  pub walked_more : (b : Bool) (f : Formula) (after : ℕ) (u : Rows) → Walked b s at g sc t f after u → t.len < u.len
  walked_more b f after u w = omega (arith, w.adds.len, length_post t.nodes (tree_in b (all_of s g) (types_of s g) (names s sc) f))

  pub walked_nodes : (b : Bool) (f : Formula) (after : ℕ) (u : Rows) → Walked b s at g sc t f after u → u.nodes ≤ t.nodes + forms f
  walked_nodes b f after u w = omega (arith, w.adds.nodes, nodes_le (tree_in b (all_of s g) (types_of s g) (names s sc) f), rows_le b (all_of s g) (types_of s g) (names s sc) f)

-- over the signature whose names are lent
abbrev pub over : {s : List ℕ} {at : ℕ} {g : Signature} {F T : List ℕ} {m : ℕ} {sc : Scope} {t : Rows} → Lent g F T m → ReadyAt s at g sc t → ReadyIn s at F T m sc t
over {g = g} l w = record { g = g; lent = l; ready = w }

abbrev pub over_parts : {s : List ℕ} {at : ℕ} {g : Signature} {F T : List ℕ} {m : ℕ} {sc : Scope} {t : Rows} → Lent g F T m → PartsReady s at g sc t → PartsReadyIn s at F T m sc t
over_parts {g = g} l w = record { g = g; lent = l; ready = w }

-- another table in its place
pub moved : {s : List ℕ} {g : Signature} {t : Rows} (u : Rows) → Fixed s g t → length u.at ≡ 64 → Fixed s g u
moved u f h = record { few = f.few; one = f.one; places = f.places; types = f.types; no_further = f.no_further; long = h }

pub as_tree : {t u : Rows} {T U : Tree} → U ≡ T → Adds t (post t.nodes T) (length (nodes T)) u → Adds t (post t.nodes U) (length (nodes U)) u
as_tree {t} {u} {T} {U} e a = subst (λ (x : Tree). Adds t (post t.nodes x) (length (nodes x)) u) (sym e) a

imp_forms : (f g : Formula) → forms (implication f g) ≡ 1 + forms f + forms g
unfolding forms
imp_forms f g = refl

-- ---- several trees, and the node that joins them
trees_one : (v n m : ℕ) (T U : Tree) → n ≡ v → m ≡ v + length (nodes T) → post n T ++ post m U ≡ post_all v (T then U then end)
unfolding post
trees_one v n m T U e h = rw (e, h) (ap (λ (l : List Row). post v T ++ l) (sym (append-nil (post (v + length (nodes T)) U))))

two_rows : {t p u y : Rows} (T U : Tree) → Adds t [] 1 p → Adds p (post p.nodes T) (length (nodes T)) u → Adds u (post u.nodes U) (length (nodes U)) y → Adds t (post_all (suc t.nodes) (T then U then end)) (suc (length (nodes_all (T then U then end)))) y
unfolding nodes
two_rows {t} {p} {u} {y} T U a b c =
    adds_as (trees_one (suc t.nodes) p.nodes u.nodes T U (a.nodes ∙ add-one t.nodes)
    (b.nodes ∙ ap (λ (n : ℕ). n + length (nodes T)) (a.nodes ∙ add-one t.nodes)))
    (omega (arith, length-append (nodes T) (nodes U ++ []), whole_nodes (nodes U))) (adds_both a (adds_both b c))
  where
    whole_nodes : (l : List Tree) → length (l ++ []) ≡ length l
    whole_nodes l = ap length (append-nil l)

pub joined : {t z : Rows} (b : Bool) (j : Join) (ts : Trees) (row : Row) (u : Rows) → row ≡ join_row (join_kind b j) t.nodes (how_many ts) → u
    ≡ pushed z row → z.len < 64 → Adds t (post_all (suc t.nodes) ts) (suc (length (nodes_all ts))) z
    → Adds t (post t.nodes (join_node b j ts)) (length (nodes (join_node b j ts))) u
joined {t} {z} b j ts row u er eu h a = adds_as (ap (λ (r : Row). post_all (suc t.nodes) ts ++ (r ∷ [])) er ∙ sym (post_join b j t.nodes ts)) (omega (arith, nodes_join b j ts)) (adds_both a (adds_push z u row a.long h eu))

trees_two : (v n m : ℕ) (T : Tree) (TS : Trees) → n ≡ v → m ≡ v + length (nodes T) → post n T ++ post_all m TS ≡ post_all v (T then TS)
unfolding post
trees_two v n m T TS e h = rw (e, h)

pub first_rows : {t p u y : Rows} (T : Tree) (TS : Trees) → Adds t [] 1 p → Adds p (post p.nodes T) (length (nodes T)) u → Adds u (post_all u.nodes TS) (length (nodes_all TS)) y → Adds t (post_all (suc t.nodes) (T then TS)) (suc (length (nodes_all (T then TS)))) y
unfolding nodes
first_rows {t} {p} {u} {y} T TS a b c =
    adds_as (trees_two (suc t.nodes) p.nodes u.nodes T TS (a.nodes ∙ add-one t.nodes)
    (b.nodes ∙ ap (λ (n : ℕ). n + length (nodes T)) (a.nodes ∙ add-one t.nodes))) (omega (arith, length-append (nodes T) (nodes_all TS)))
    (adds_both a (adds_both b c))

next_rows : {t u y : Rows} (T : Tree) (TS : Trees) → Adds t (post t.nodes T) (length (nodes T)) u → Adds u (post_all u.nodes TS) (length (nodes_all TS)) y → Adds t (post_all t.nodes (T then TS)) (length (nodes_all (T then TS))) y
unfolding nodes
next_rows {t} {u} {y} T TS b c = adds_as (trees_two t.nodes t.nodes u.nodes T TS refl b.nodes) (sym (length-append (nodes T) (nodes_all TS))) (adds_both b c)

as_trees : {t u : Rows} {T U : Trees} → U ≡ T → Adds t (post_all t.nodes T) (length (nodes_all T)) u → Adds t (post_all t.nodes U) (length (nodes_all U)) u
as_trees {t} {u} {T} {U} e a = subst (λ (x : Trees). Adds t (post_all t.nodes x) (length (nodes_all x)) u) (sym e) a

more_trees : (T : Tree) (TS : Trees) (n m : ℕ) → n ≡ m + 1 + how_many TS → n ≡ m + how_many (T then TS)
unfolding how_many
more_trees T TS n m e = omega arith

count_trees : (T : Tree) (TS : Trees) (n : ℕ) → n ≡ 1 + how_many TS → n ≡ how_many (T then TS)
unfolding how_many
count_trees T TS n e = omega arith

no_trees : (t : Rows) (m : ℕ) (TS : Trees) → TS ≡ end → length t.at ≡ 64 → Adds t (post_all t.nodes TS) (length (nodes_all TS)) t × (m ≡ m + how_many TS)
unfolding post nodes how_many
no_trees t m TS e h = rw e (adds_none t h, omega arith)

module _ {s : List ℕ} {at : ℕ} {g : Signature} {sc : Scope} {t : Rows} where
  pub parts_len : (b : Bool) (m : ℕ) (fs : Formulas) (after n : ℕ) (u : Rows) → WalkedParts b s at g sc t m fs after n u → u.len ≤ t.len + forms_all fs
  parts_len b m fs after n u w = omega (arith, w.adds.len, length_post_all t.nodes (trees_in b (all_of s g) (types_of s g) (names s sc) fs), rows_le_all b (all_of s g) (types_of s g) (names s sc) fs)

  pub parts_many : (b : Bool) (m : ℕ) (fs : Formulas) (after n : ℕ) (u : Rows) → WalkedParts b s at g sc t m fs after n u → m ≤ t.len → n ≤ u.len
  parts_many b m fs after n u w h = omega (arith, w.adds.len, length_post_all t.nodes (trees_in b (all_of s g) (types_of s g) (names s sc) fs), w.counted)

module _ {s : List ℕ} {at : ℕ} {g : Signature} {sc : Scope} {t : Rows} where
  -- ---- a negation
  abbrev pub neg_ready : (w : ReadyAt s at g sc t) → IsNeg w.f → ReadyAt s (at + 5) g sc t
  neg_ready w v = record {
    f = v.g;
    rest = 41 ∷ w.rest;
    is = front_rest s not_word (write v.g ++ (41 ∷ w.rest)) at (w.is ∙ ap (λ (f : Formula). write f ++ w.rest) v.is ∙ lay_neg v.g w.rest);
    fine = fine_neg (all_of s g) (names s sc) t.len t.nodes v.g (subst (λ (f : Formula). Fine (all_of s g) (names s sc) t.len t.nodes f) v.is w.fine);
    fixed = w.fixed;
  }

  pub neg_place : (w : ReadyAt s at g sc t) (v : IsNeg w.f) (a : ℕ) → a ≡ at + 5 + length (write v.g) → a + 1 ≡ at + length (write w.f)
  neg_place w v a e = omega (arith, ap (λ (f : Formula). length (write f)) v.is, len_neg v.g)

  pub neg_done : (b : Bool) (w : ReadyAt s at g sc t) (v : IsNeg w.f) (after : ℕ) (u : Rows) → Walked (not b) s (at + 5) g sc t v.g after u → Walked b s at g sc t w.f (after + 1) u
  neg_done b w v after u x = record {
    place = neg_place w v after x.place;
    adds = as_tree (ap (λ (f : Formula). tree_in b (all_of s g) (types_of s g) (names s sc) f) v.is ∙ tree_neg (all_of s g) (types_of s g) (names s sc) b v.g) x.adds;
  }

  -- ---- an implication
  module _ (w : ReadyAt s at g sc t) (v : IsImp w.f) where
    pub imp_fine : Fine (all_of s g) (names s sc) t.len t.nodes (implication v.g v.h)
    imp_fine = subst (λ (f : Formula). Fine (all_of s g) (names s sc) t.len t.nodes f) v.is w.fine

    pub imp_text : drop at s ≡ imp_word ++ (write v.g ++ (32 ∷ (write v.h ++ (41 ∷ w.rest))))
    imp_text = w.is ∙ ap (λ (f : Formula). write f ++ w.rest) v.is ∙ lay_imp v.g v.h w.rest

    abbrev pub imp_ready_1 : ReadyAt s (at + 9) g sc (numbered t 1)
    imp_ready_1 = record {
      f = v.g;
      rest = 32 ∷ (write v.h ++ (41 ∷ w.rest));
      is = front_rest s imp_word (write v.g ++ (32 ∷ (write v.h ++ (41 ∷ w.rest)))) at imp_text;
      fine = fine_imp_1 (all_of s g) (names s sc) t.len t.nodes v.g v.h imp_fine;
      fixed = moved (numbered t 1) w.fixed w.fixed.long;
    }

    module _ (b : Bool) (x-end : ℕ) (x : Rows) (X : Walked (not b) s (at + 9) g sc (numbered t 1) v.g x-end x) where
      pub imp_rest : drop (x-end + 1) s ≡ write v.h ++ (41 ∷ w.rest)
      imp_rest =
          ap (λ (a : ℕ). drop (a + 1) s) X.place
          ∙ sym (drop-drop 1 (at + 9 + length (write v.g)) s)
          ∙ ap (λ (l : List ℕ). drop 1 l) (front_rest s (write v.g) (32 ∷ (write v.h ++ (41 ∷ w.rest))) (at + 9) imp_ready_1.is)

      abbrev pub imp_ready_2 : ReadyAt s (x-end + 1) g sc x
      imp_ready_2 = record {
        f = v.h;
        rest = 41 ∷ w.rest;
        is = imp_rest;
        fine = fine_imp_2 (all_of s g) (names s sc) t.len t.nodes v.g v.h x.len x.nodes (omega (arith, walked_len (not b) v.g x-end x X)) (omega (arith, walked_nodes (not b) v.g x-end x X)) imp_fine;
        fixed = moved x w.fixed X.adds.long;
      }

      module _ (y-end : ℕ) (y : Rows) (Y : Walked b s (x-end + 1) g sc x v.h y-end y) where
        pub imp_place : y-end + 1 ≡ at + length (write w.f)
        imp_place = omega (arith, X.place, Y.place, ap (λ (f : Formula). length (write f)) v.is, len_imp v.g v.h)

        pub imp_space : y.len < 64
        imp_space = omega (arith, walked_len (not b) v.g x-end x X, walked_len b v.h y-end y Y, imp_fine.rows, imp_forms v.g v.h)

        pub imp_done : (u : Rows) (row : Row) → row ≡ join_row (join_kind b ors) t.nodes 2 → u ≡ pushed y row → Walked b s at g sc t w.f (y-end + 1) u
        unfolding how_many
        imp_done u row er eu = record {
          place = imp_place;
          adds = as_tree (ap (λ (f : Formula). tree_in b (all_of s g) (types_of s g) (names s sc) f) v.is ∙ tree_imp (all_of s g) (types_of s g) (names s sc) b v.g v.h)
              (joined b ors (tree_in (not b) (all_of s g) (types_of s g) (names s sc) v.g then tree_in b (all_of s g) (types_of s g) (names s sc) v.h then end) row u er eu imp_space
              (two_rows (tree_in (not b) (all_of s g) (types_of s g) (names s sc) v.g) (tree_in b (all_of s g) (types_of s g) (names s sc) v.h) (adds_number t 1 w.fixed.long) X.adds Y.adds));
        }

  -- ---- `and`, `or`
  module _ (j : Join) (w : ReadyAt s at g sc t) (v : IsJoin j w.f) (a : ℕ) (ea : a ≡ at + length (join_word j)) where
    pub join_fine : Fine (all_of s g) (names s sc) t.len t.nodes (join j (cons v.g v.gs))
    join_fine = subst (λ (f : Formula). Fine (all_of s g) (names s sc) t.len t.nodes f) v.is w.fine

    pub join_text : drop at s ≡ join_word j ++ (write v.g ++ (write_parts v.gs ++ (41 ∷ w.rest)))
    join_text = w.is ∙ ap (λ (f : Formula). write f ++ w.rest) v.is ∙ lay_join j v.g v.gs w.rest

    abbrev pub join_ready : ReadyAt s a g sc (numbered t 1)
    join_ready = record {
      f = v.g;
      rest = write_parts v.gs ++ (41 ∷ w.rest);
      is = ap (λ (x : ℕ). drop x s) ea ∙ front_rest s (join_word j) (write v.g ++ (write_parts v.gs ++ (41 ∷ w.rest))) at join_text;
      fine = fine_join_1 (all_of s g) (names s sc) t.len t.nodes j v.g v.gs join_fine;
      fixed = moved (numbered t 1) w.fixed w.fixed.long;
    }

    module _ (b : Bool) (x-end : ℕ) (x : Rows) (X : Walked b s a g sc (numbered t 1) v.g x-end x) where
      pub join_rest : drop x-end s ≡ write_parts v.gs ++ (41 ∷ w.rest)
      join_rest = ap (λ (n : ℕ). drop n s) X.place ∙ front_rest s (write v.g) (write_parts v.gs ++ (41 ∷ w.rest)) a join_ready.is

      abbrev pub join_parts : PartsReady s x-end g sc x
      join_parts = record {
        fs = v.gs;
        rest = w.rest;
        is = join_rest;
        fine = fine_join_2 (all_of s g) (names s sc) t.len t.nodes j v.g v.gs x.len x.nodes (omega (arith, walked_len b v.g x-end x X)) (omega (arith, walked_nodes b v.g x-end x X)) join_fine;
        fixed = moved x w.fixed X.adds.long;
      }

      pub join_one : 1 ≤ x.len
      join_one = omega (arith, walked_more b v.g x-end x X)

      module _ (y-end many : ℕ) (y : Rows) (Y : WalkedParts b s x-end g sc x 1 v.gs y-end many y) where
        pub join_place : y-end + 1 ≡ at + length (write w.f)
        join_place = omega (arith, X.place, Y.place, ea, ap (λ (f : Formula). length (write f)) v.is, len_join j v.g v.gs)

        pub join_space : y.len < 64
        join_space = omega (arith, walked_len b v.g x-end x X, parts_len b 1 v.gs y-end many y Y, join_fine.rows, join_forms j v.g v.gs)

        pub join_done : (u : Rows) (row : Row) → row ≡ join_row (join_kind b j) t.nodes many → u ≡ pushed y row → Walked b s at g sc t w.f (y-end + 1) u
        join_done u row er eu = record {
          place = join_place;
          adds = as_tree (ap (λ (f : Formula). tree_in b (all_of s g) (types_of s g) (names s sc) f) v.is ∙ tree_join (all_of s g) (types_of s g) (names s sc) b j (cons v.g v.gs) ∙ ap (λ (ts : Trees). join_node b j ts) (trees_cons (all_of s g) (types_of s g) (names s sc) b v.g v.gs))
              (joined b j (tree_in b (all_of s g) (types_of s g) (names s sc) v.g then trees_in b (all_of s g) (types_of s g) (names s sc) v.gs) row u
              (er ∙ ap (λ (n : ℕ). join_row (join_kind b j) t.nodes n)
              (count_trees (tree_in b (all_of s g) (types_of s g) (names s sc) v.g) (trees_in b (all_of s g) (types_of s g) (names s sc) v.gs) many
              Y.counted)) eu join_space
              (first_rows (tree_in b (all_of s g) (types_of s g) (names s sc) v.g) (trees_in b (all_of s g) (types_of s g) (names s sc) v.gs) (adds_number t 1 w.fixed.long) X.adds Y.adds));
        }

-- ---- further parts
pub record IsCons (fs : Formulas) : Type 0 where
  pub f : Formula
  pub gs : Formulas
  pub is : fs ≡ cons f gs

module _ {s : List ℕ} {at : ℕ} {g : Signature} {sc : Scope} {t : Rows} (w : PartsReady s at g sc t) where
  pub parts_in : at < length s
  unfolding write
  parts_in = by_formulas w.fs w.is
    where
      by_formulas : (fs : Formulas) → drop at s ≡ write_parts fs ++ (41 ∷ w.rest) → at < length s
      by_formulas nil e = (first_byte s at 41 _ e).1
      by_formulas (cons f gs) e = (first_byte s at 32 _ e).1

  pub parts_none : (get_or s at 0 ≡ 32 → ⊥) → w.fs ≡ nil
  unfolding write
  parts_none h = by_formulas w.fs w.is
    where
      by_formulas : (fs : Formulas) → drop at s ≡ write_parts fs ++ (41 ∷ w.rest) → fs ≡ nil
      by_formulas nil e = refl
      by_formulas (cons f gs) e = absurd (h (first_byte s at 32 _ e).0)

  pub parts_some : get_or s at 0 ≡ 32 → IsCons w.fs
  unfolding write
  parts_some h = by_formulas w.fs w.is
    where
      by_formulas : (fs : Formulas) → drop at s ≡ write_parts fs ++ (41 ∷ w.rest) → IsCons fs
      by_formulas nil e = absurd (omega (arith, (first_byte s at 41 _ e).0))
      by_formulas (cons f gs) e = record { f = f; gs = gs; is = refl }

  pub parts_end : (b : Bool) (many : ℕ) → (get_or s at 0 ≡ 32 → ⊥) → WalkedParts b s at g sc t many w.fs at many t
  unfolding write
  parts_end b many h =
      let e : w.fs ≡ nil = parts_none h in
      let z = no_trees t many (trees_in b (all_of s g) (types_of s g) (names s sc) w.fs) (ap (λ (fs : Formulas). trees_in b (all_of s g) (types_of s g) (names s sc) fs) e ∙ trees_nil (all_of s g) (types_of s g) (names s sc) b) w.fixed.long in
      record {
        place = place (ap (λ (fs : Formulas). length (write_parts fs)) e);
        adds = z.0;
        counted = z.1;
      }
    where
      place : length (write_parts w.fs) ≡ 0 → at ≡ at + length (write_parts w.fs)
      place q = omega arith

  module _ (v : IsCons w.fs) where
    pub part_fine : AllFine (all_of s g) (names s sc) t.len t.nodes (cons v.f v.gs)
    part_fine = subst (λ (fs : Formulas). AllFine (all_of s g) (names s sc) t.len t.nodes fs) v.is w.fine

    pub part_text : drop (at + 1) s ≡ write v.f ++ (write_parts v.gs ++ (41 ∷ w.rest))
    part_text = sym (drop-drop 1 at s) ∙ ap (λ (l : List ℕ). drop 1 l) (w.is ∙ ap (λ (fs : Formulas). write_parts fs ++ (41 ∷ w.rest)) v.is ∙ lay_parts v.f v.gs (41 ∷ w.rest))

    abbrev pub part_ready : ReadyAt s (at + 1) g sc t
    part_ready = record {
      f = v.f;
      rest = write_parts v.gs ++ (41 ∷ w.rest);
      is = part_text;
      fine = fine_part (all_of s g) (names s sc) t.len t.nodes v.f v.gs part_fine;
      fixed = w.fixed;
    }

    module _ (b : Bool) (x-end : ℕ) (x : Rows) (X : Walked b s (at + 1) g sc t v.f x-end x) where
      abbrev pub part_next : PartsReady s x-end g sc x
      part_next = record {
        fs = v.gs;
        rest = w.rest;
        is = ap (λ (n : ℕ). drop n s) X.place ∙ front_rest s (write v.f) (write_parts v.gs ++ (41 ∷ w.rest)) (at + 1) part_text;
        fine = fine_parts (all_of s g) (names s sc) t.len t.nodes v.f v.gs x.len x.nodes (walked_len b v.f x-end x X) (walked_nodes b v.f x-end x X) part_fine;
        fixed = moved x w.fixed X.adds.long;
      }

      pub parts_done : (many after n : ℕ) (u : Rows) → WalkedParts b s x-end g sc x (many + 1) v.gs after n u → WalkedParts b s at g sc t many w.fs after n u
      parts_done many after n u R =
          let e : trees_in b (all_of s g) (types_of s g) (names s sc) w.fs
          ≡ (tree_in b (all_of s g) (types_of s g) (names s sc) v.f then trees_in b (all_of s g) (types_of s g) (names s sc) v.gs) = ap
          (λ (fs : Formulas). trees_in b (all_of s g) (types_of s g) (names s sc) fs) v.is
          ∙ trees_cons (all_of s g) (types_of s g) (names s sc) b v.f v.gs in
          record {
            place = omega (arith, R.place, X.place, ap (λ (fs : Formulas). length (write_parts fs)) v.is, len_parts v.f v.gs);
            adds = as_trees e (next_rows (tree_in b (all_of s g) (types_of s g) (names s sc) v.f) (trees_in b (all_of s g) (types_of s g) (names s sc) v.gs) X.adds R.adds);
            counted = more_trees (tree_in b (all_of s g) (types_of s g) (names s sc) v.f) (trees_in b (all_of s g) (types_of s g) (names s sc) v.gs) n many R.counted ∙ ap (λ (ts : Trees). many + how_many ts) (sym e);
          }
