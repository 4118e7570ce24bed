-- The walk's quantifiers and literals. Assumes nothing.
use Prim.Native.Nat.{ℕ, zero, ◌+◌, ◌-◌, ◌≤◌, ◌<◌}
use native.Mathlib.Omega.{arith}
use mathlib.Core.Path.{◌≡◌, refl, sym, ap, subst, ◌∙◌}
use mathlib.Core.Bool.{Bool, true, false, ◌&&◌}
use mathlib.Core.List.{List, [], ◌∷◌, ◌++◌, map, append_assoc}
use lib.ListN.{length, get_or, take, drop, replicate, length-append, length-map}
use lib.Seq.{slice, drop-drop, get_or-take, get_or-append-add, length-take-le}
use lib.Dec.{eqb}
use Rattle.definitions.specs.Lists.{any, same, option}
use Rattle.definitions.specs.Sheet.Text.{is_capital, is_between, is_digit}
use Rattle.definitions.specs.Sheet.Relations.{Relation, number_of}
use Rattle.definitions.specs.Sheet.Formula.{Quantified, variables_of, AllQuantified, no_words, a_word, Formula, literal, Quant, quant, quant_word, write_each, write_vars, write_typed, write_more, write_list, write, is_known, sort_of}
use Rattle.definitions.specs.Sheet.Parsing.{span}
use Rattle.laws.specs.Writing.{name_is, span_append}
use Rattle.definitions.specs.Problem.Tree.{Tree, nodes, nest, leaf_of}
use Rattle.read_names.specs.Signatures.{Lent, all_of, types_in, types_of}
use Rattle.read_names.specs.Types.{sort_in}
use Rattle.read_names.specs.declared.Signature.{Signature}
use Rattle.read_rule.specs.Seen.{names}
use Rattle.read_rule.specs.Spans.{length_names}
use Rattle.read_rule.specs.Steps.{front_rest, slice_front}
use Rattle.read_rule.specs.Bound.{word_span}
use Rattle.read_rule.specs.declared.Scope.{Scope}
use Rattle.rule_nodes.specs.Postorder.{pad, post, Rows, leaf_kind, leaf_row}
use Rattle.rule_nodes.specs.declared.Row.{Row}
use Rattle.rule_rewrite.specs.Trees.{tree_in, quant_node, quant_kind, chain, Sorted, tree_lit, tree_quant, post_nest, nodes_nest}
use Rattle.rule_rewrite.specs.Sizes.{known_few}
use Rattle.rule_rewrite.specs.Ready.{level_of, Adds, pushed, numbered, Fine, Fixed, ReadyAt, ListReady, VarsReady, Walked, Opened, Filled}
use Rattle.rule_rewrite.specs.declared.Bound.{Bound}
use Rattle.rule_rewrite.specs.declared.Leaf.{Leaf}
use Rattle.rule_rewrite.proofs.Tables.{adds_push, adds_number, adds_both, adds_as}
use Rattle.rule_rewrite.proofs.Views.{lay_literal, IsLit, IsQuant, fine_quant, quant_forms, quant_nesting}
use Rattle.rule_rewrite.proofs.Turns.{lay_quant, len_quant, quant_nine, moved, as_tree, ready_few, ready_rows, walked_len}
use Rattle.rule_rewrite.proofs.Words.{vars_in}

-- ---- a quantifier
regroup : (v vs m : List ℕ) → ((v ++ vs) ++ (41 ∷ 32 ∷ [])) ++ m ≡ v ++ (vs ++ (41 ∷ 32 ∷ m))
regroup v vs m = simp append_assoc

nest_rows : {t p x u : Rows} (b : Bool) (q : Quant) (d : ℕ) (ks sorts : List ℕ) (k : ℕ) (T : Tree) → length ks ≡ k → Sorted d ks sorts → Adds t [] k p → Adds p (post p.nodes T) (length (nodes T)) x
    → Adds x (chain (quant_kind b q) t.nodes d sorts k) 0 u → Adds t (post t.nodes (nest (quant_node b q) d ks T)) (length (nodes (nest (quant_node b q) d ks T))) u
nest_rows {t} {p} {x} {u} b q d ks sorts k T l o a c e =
    let rows : post t.nodes (nest (quant_node b q) d ks T) ≡ post (t.nodes + k) T ++ chain (quant_kind b q) t.nodes d sorts k =
    post_nest b q t.nodes d ks sorts T o ∙ ap (λ (m : ℕ). post (t.nodes + m) T ++ chain (quant_kind b q) t.nodes d sorts m) l in
    adds_as (ap (λ (n : ℕ). post n T ++ chain (quant_kind b q) t.nodes d sorts k) a.nodes ∙ sym rows) (omega (arith, nodes_nest b q d ks T)) (adds_both a (adds_both c e))

-- sorts that stand after others, by level
sorted_after : (d m : ℕ) (before ks sorts : List ℕ) → take m sorts ≡ before ++ ks → length before ≡ d → m ≡ d + length ks → Sorted d ks sorts
sorted_after d m before ks sorts e l h i q =
    sym (get_or-take m sorts (d + i) 0 (omega arith))
    ∙ ap (λ (x : List ℕ). get_or x (d + i) 0) e
    ∙ ap (λ (n : ℕ). get_or (before ++ ks) (n + i) 0) (sym l)
    ∙ get_or-append-add before ks i 0

zeros : (n : ℕ) → n ≤ 4 → length {A = ℕ} (take n (replicate 4 0)) ≡ n
zeros n h = length-take-le n (replicate 4 0) h

-- looked up by the lent names, sorts are those of the signature
module _ (s : List ℕ) (g : Signature) (t : Rows) (f : Fixed s g t) where
  own_sorts : {qs : List Quantified} → AllQuantified qs → map (sort_of (types_in s g.from g.to 8)) qs ≡ map (sort_of (types_of s g)) qs
  unfolding types_of
  own_sorts no_words = refl
  own_sorts (a_word {v = q} h hs) = rw (sort_in s g.from g.to g.types f.types f.no_further q h, own_sorts hs)

  lent_sorts : {qs : List Quantified} (F T : List ℕ) (m : ℕ) → Lent g F T m → AllQuantified qs → map (sort_of (types_in s F T 8)) qs ≡ map (sort_of (types_of s g)) qs
  lent_sorts {qs} F T m l h =
      ap (λ (x : List ℕ). map (sort_of (types_in s x T 8)) qs) l.from_is ∙ ap (λ (x : List ℕ). map (sort_of (types_in s g.from x 8)) qs) l.to_is ∙ own_sorts h

module _ {s : List ℕ} {at : ℕ} {g : Signature} {sc : Scope} {t : Rows} (k : Quant) (w : ReadyAt s at g sc t) (v : IsQuant k w.f) where
  pub quant_fine : Fine (all_of s g) (names s sc) t.len t.nodes (quant k (v.q ∷ v.qs) v.g)
  quant_fine = subst (λ (f : Formula). Fine (all_of s g) (names s sc) t.len t.nodes f) v.is w.fine

  pub quant_text : drop (at + 9) s ≡ write_typed v.q ++ (write_more v.qs ++ (41 ∷ 32 ∷ (write v.g ++ (41 ∷ w.rest))))
  quant_text =
      ap (λ (n : ℕ). drop (at + n) s) (sym (quant_nine k))
      ∙ front_rest s (quant_word k) (write_typed v.q ++ (write_more v.qs ++ (41 ∷ 32 ∷ (write v.g ++ (41 ∷ w.rest))))) at (w.is ∙ ap (λ (f : Formula). write f ++ w.rest) v.is ∙ lay_quant k v.q v.qs v.g w.rest)

  abbrev pub quant_list : ListReady s (at + 9) sc
  quant_list = record {
    q = v.q;
    qs = v.qs;
    rest = write v.g ++ (41 ∷ w.rest);
    is = quant_text;
    words = v.words;
    fits = omega (arith, quant_fine.deep, quant_nesting k (v.q ∷ v.qs) v.g, length_names s sc);
  }

  module _ (F T : List ℕ) (m : ℕ) (lent : Lent g F T m) (d : Bound) (D : Opened s (at + 9) (types_in s F T 8) sc (replicate 4 0) (v.q ∷ v.qs) d) (n : ℕ) (en : n ≡ d.scope.n - sc.n) where
    pub quant_many : n ≡ length (v.q ∷ v.qs)
    quant_many = omega (arith, D.count)

    pub after_list : drop (at + 9 + (length (write_list (v.q ∷ v.qs)) + 2)) s ≡ write v.g ++ (41 ∷ w.rest)
    after_list =
        ap (λ (n : ℕ). drop (at + 9 + n) s) (sym (length-append (write_list (v.q ∷ v.qs)) (41 ∷ 32 ∷ [])))
        ∙ front_rest s (write_list (v.q ∷ v.qs) ++ (41 ∷ 32 ∷ [])) (write v.g ++ (41 ∷ w.rest)) (at + 9) (quant_text ∙ sym (regroup (write_typed v.q) (write_more v.qs) (write v.g ++ (41 ∷ w.rest))))

    abbrev pub quant_ready : ReadyAt s d.at g d.scope (numbered t n)
    quant_ready = record {
      f = v.g;
      rest = 41 ∷ w.rest;
      is = ap (λ (x : ℕ). drop x s) D.place ∙ after_list;
      fine = subst (λ (x : ℕ). Fine (all_of s g) (names s d.scope) t.len (t.nodes + x) v.g) (sym quant_many) (fine_quant (all_of s g) (names s sc) t.len t.nodes k (v.q ∷ v.qs) v.g (names s d.scope) D.scope quant_fine);
      fixed = moved (numbered t n) w.fixed w.fixed.long;
    }

    pub quant_nodes : t.nodes + n ≤ 64
    quant_nodes = omega (arith, quant_fine.nodes, quant_forms k (v.q ∷ v.qs) v.g, quant_many)

    pub quant_levels : sc.n + n ≤ 4
    quant_levels = omega (arith, quant_fine.deep, quant_nesting k (v.q ∷ v.qs) v.g, length_names s sc, quant_many)

    quant_sorts : Sorted sc.n (map (sort_of (types_of s g)) (v.q ∷ v.qs)) d.sorts
    quant_sorts =
        sorted_after sc.n d.scope.n (take sc.n (replicate 4 0)) (map (sort_of (types_of s g)) (v.q ∷ v.qs)) d.sorts
        (D.sorts ∙ ap (λ (x : List ℕ). take sc.n (replicate 4 0) ++ x) (lent_sorts s g t w.fixed F T m lent v.words))
        (zeros sc.n (omega (arith, quant_levels)))
        (omega (arith, D.count, length-map (v.q ∷ v.qs) (sort_of (types_of s g))))

    module _ (b : Bool) (x-end : ℕ) (x : Rows) (X : Walked b s d.at g d.scope (numbered t n) v.g x-end x) where
      pub quant_place : x-end + 1 ≡ at + length (write w.f)
      quant_place = omega (arith, X.place, D.place, ap (λ (f : Formula). length (write f)) v.is, len_quant k v.q v.qs v.g)

      pub quant_space : x.len + n ≤ 64
      quant_space = omega (arith, walked_len b v.g x-end x X, quant_fine.rows, quant_forms k (v.q ∷ v.qs) v.g, quant_many)

      pub quant_done : (u : Rows) → Adds x (chain (quant_kind b k) t.nodes sc.n d.sorts n) 0 u → Walked b s at g sc t w.f (x-end + 1) u
      quant_done u U = record {
        place = quant_place;
        adds = as_tree (ap (λ (f : Formula). tree_in b (all_of s g) (types_of s g) (names s sc) f) v.is ∙ tree_quant (all_of s g) (types_of s g) (names s sc) b k (v.q ∷ v.qs) v.g ∙ same)
            (nest_rows b k sc.n (map (sort_of (types_of s g)) (v.q ∷ v.qs)) d.sorts n (tree_in b (all_of s g) (types_of s g) (names s d.scope) v.g) (length-map (v.q ∷ v.qs) (sort_of (types_of s g)) ∙ sym quant_many) quant_sorts (adds_number t n w.fixed.long) X.adds U);
      }
        where
          same : nest (quant_node b k) (length (names s sc)) (map (sort_of (types_of s g)) (v.q ∷ v.qs)) (tree_in b (all_of s g) (types_of s g) (names s sc ++ variables_of (v.q ∷ v.qs)) v.g)
              ≡ nest (quant_node b k) sc.n (map (sort_of (types_of s g)) (v.q ∷ v.qs)) (tree_in b (all_of s g) (types_of s g) (names s d.scope) v.g)
          same = rw (length_names s sc, D.scope)

-- ---- a literal
pub none_row : (b : Bool) (kind k : ℕ) → kind ≡ leaf_kind b → record { kind = kind; which = k; many = 0; sort = 0; width = 0; levels = 0 ∷ 0 ∷ 0 ∷ [] } ≡ leaf_row b k []
unfolding pad
none_row b kind k e = rw e

len_literal : (n : List ℕ) (vs : List (List ℕ)) → length (write (literal n vs)) ≡ 2 + (length n + length (write_vars vs))
unfolding write
len_literal n vs = simp length-append (omega arith)

name_stop : (v : List ℕ) (vs : List (List ℕ)) (m : List ℕ) → span false (write_vars (v ∷ vs) ++ m) ≡ 0
unfolding span write_each is_capital is_between is_digit
name_stop v vs m = refl

known_literal : (rs : List Relation) (n : List ℕ) (vs : List (List ℕ)) → is_known rs (literal n vs) ≡ any (λ (k : Relation). same k.name n && eqb k.arity (length vs)) rs
unfolding is_known
known_literal rs n vs = refl

leaf_adds : (b : Bool) (rs : List Relation) (scope : List (List ℕ)) (n : List ℕ) (vs : List (List ℕ)) (t u : Rows) (row : Row) → length t.at ≡ 64
    → t.len < 64 → row ≡ leaf_row b (option (number_of rs n) zero (λ k. k)) (map (λ v. level_of scope v) vs) → u ≡ pushed t row
    → Adds t (post t.nodes (leaf_of b rs scope n vs)) (length (nodes (leaf_of b rs scope n vs))) u
unfolding leaf_of post nodes
leaf_adds b rs scope n vs t u row h k er eu = adds_as (ap (λ (x : Row). x ∷ []) er) refl (adds_push t u row h k eu)

module _ {s : List ℕ} {at : ℕ} {g : Signature} {sc : Scope} {t : Rows} (w : ReadyAt s at g sc t) (v : IsLit w.f) (a : ℕ) (ea : a ≡ (at + 1) + span false (drop (at + 1) s)) where
  lit_text : drop (at + 1) s ≡ v.n ++ (write_vars (v.v ∷ v.vs) ++ (41 ∷ w.rest))
  lit_text = sym (drop-drop 1 at s) ∙ ap (λ (l : List ℕ). drop 1 l) (w.is ∙ ap (λ (f : Formula). write f ++ w.rest) v.is ∙ lay_literal v.n (v.v ∷ v.vs) w.rest)

  pub lit_name_end : a ≡ (at + 1) + length v.n
  lit_name_end = ea ∙ ap (λ (n : ℕ). (at + 1) + n) (ap (λ (l : List ℕ). span false l) lit_text ∙ span_append false v.n (write_vars (v.v ∷ v.vs) ++ (41 ∷ w.rest)) (word_span false v.n (name_is v.n v.name)) (name_stop v.v v.vs (41 ∷ w.rest)))

  pub lit_rest : drop a s ≡ write_vars (v.v ∷ v.vs) ++ (41 ∷ w.rest)
  lit_rest = ap (λ (n : ℕ). drop n s) lit_name_end ∙ front_rest s v.n (write_vars (v.v ∷ v.vs) ++ (41 ∷ w.rest)) (at + 1) lit_text

  pub lit_known : any (λ (k : Relation). same k.name v.n && eqb k.arity (length (v.v ∷ v.vs))) (all_of s g) ≡ true
  lit_known = sym (known_literal (all_of s g) v.n (v.v ∷ v.vs)) ∙ ap (λ (f : Formula). is_known (all_of s g) f) (sym v.is) ∙ w.fine.known

  abbrev pub lit_vars : VarsReady s a sc 0
  lit_vars = record {
    vs = v.v ∷ v.vs;
    rest = w.rest;
    is = lit_rest;
    words = v.words;
    fits = omega (arith, known_few (all_of s g) v.n (length (v.v ∷ v.vs)) w.fixed.places lit_known);
    small = ready_few w;
  }

  pub lit_end : a < length s
  lit_end = vars_in s a sc 0 lit_vars

  lit_name : slice (at + 1) a s ≡ v.n
  lit_name = slice_front s v.n (at + 1) a (omega (arith, lit_end)) (lit_text ∙ ap (λ (l : List ℕ). v.n ++ l) (sym lit_rest))

  module _ (b : Bool) (k : ℕ) (ek : k ≡ option (number_of (all_of s g) (slice (at + 1) a s)) zero (λ j. j)) (l : Leaf) (L : Filled s a sc b k [] (v.v ∷ v.vs) l) where
    pub lit_place : l.at + 1 ≡ at + length (write w.f)
    lit_place = omega (arith, L.place, lit_name_end, ap (λ (f : Formula). length (write f)) v.is, len_literal v.n (v.v ∷ v.vs))

    pub lit_done : (u : Rows) → u ≡ pushed t l.row → Walked b s at g sc t w.f (l.at + 1) u
    lit_done u eu = record {
      place = lit_place;
      adds = as_tree (ap (λ (f : Formula). tree_in b (all_of s g) (types_of s g) (names s sc) f) v.is ∙ tree_lit (all_of s g) (types_of s g) (names s sc) b v.n (v.v ∷ v.vs))
          (leaf_adds b (all_of s g) (names s sc) v.n (v.v ∷ v.vs) t u l.row w.fixed.long (ready_rows w) (L.row ∙ ap (λ (n : ℕ). leaf_row b n (map (λ x. level_of (names s sc) x) (v.v ∷ v.vs))) (ek ∙ ap (λ (x : List ℕ). option (number_of (all_of s g) x) zero (λ j. j)) lit_name)) eu);
    }
