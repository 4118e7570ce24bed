-- Nodes' actions part by part, as the code writes them. Assumes nothing.
use Rattle.std.specs.Prelude.{ℕ, suc, ◌+◌, ◌-◌, ◌≤◌, ◌<◌, ◌≡◌, false, List, [], ◌∷◌, ◌++◌, map, length, get_or, take, set}
use Rattle.std.proofs.Math.Path.{refl, ap}
use Rattle.std.proofs.Common.{sym, ap₂, subst, ◌∙◌, append-nil, append_assoc, add-one, take-suc}
use Rattle.std.proofs.lemmas.List.{map-append}
use native.Mathlib.Omega.{arith}
use borrow.Author.Tests.{lt-ltb, le-ltb, ne_eqb}
use Rattle.definitions.specs.Lists.{flat_map, from, below}
use Rattle.definitions.specs.Sheet.Text.{bytes}
use Rattle.definitions.specs.Reply.Pddl.{object_word}
use Rattle.rule_nodes.specs.declared.PartRow.{PartRow}
use Rattle.rule_nodes.specs.declared.NodeRow.{NodeRow}
use Rattle.rule_nodes.specs.declared.Nodes.{Nodes}
use Rattle.rule_nodes.specs.Tables.{PartFits}
use Rattle.problem_layout.specs.declared.Relations.{Relations}
use Rattle.print_names.specs.declared.Name.TheVariants.{Goal, And, Exists, First, Next, Or}
use Rattle.print_names.specs.Naming.{SmallName}
use Rattle.print_words.specs.declared.Word.{Word}
use Rattle.print_words.specs.Words.{WordFits}
use Rattle.print_instance.specs.Texts.{relation_word}
use Rattle.print_domain.specs.Texts.{proved_word, relations_lines, nodes_lines, head_text, also_text, sets_text}
use Rattle.print_domain.specs.Actions.{row_at, part_at, env_from, no_env, env_of, part_terms, part_word, part_text, proof_end, kid_text, and_text, or_text, ors_text, under_text, exists_text, first_text, next_text, forall_text, node_text, nodes_text, goal_text, constants_text, domain_in}

-- a quantifier has a part
abbrev pub Bounded : Nodes → Type 0
Bounded t = (v : ℕ) → v < t.count → (row_at t v).kind < 2 → (row_at t v).first < 64

-- ---- names that are small
pub small_goal : SmallName Goal
unfolding SmallName
small_goal = tt

pub small_and : (v : ℕ) → SmallName (And v)
unfolding SmallName
small_and v = tt

pub small_exists : (v : ℕ) → SmallName (Exists v)
unfolding SmallName
small_exists v = tt

pub small_first : (v : ℕ) → SmallName (First v)
unfolding SmallName
small_first v = tt

pub small_next : (v : ℕ) → SmallName (Next v)
unfolding SmallName
small_next v = tt

pub small_or : (v i : ℕ) → SmallName (Or v i)
unfolding SmallName
small_or v i = tt

-- ---- the terms of levels
pub env_first : (row : NodeRow) (w : ℕ) → w ≡ row.width → env_of row ≡ env_from row.levels w no_env
unfolding env_of
env_first row w e = rw e refl

pub env_next : (levels : List ℕ) (i j l : ℕ) (e : List ℕ) → i ≡ j + 1 → l ≡ get_or levels j 0 → env_from levels i e ≡ env_from levels j (set e l j)
unfolding env_from
env_next levels i j l e p q = let s : i ≡ suc j = omega arith in rw (s, q) refl

pub env_end : (levels : List ℕ) (i : ℕ) (e : List ℕ) → i ≡ 0 → env_from levels i e ≡ e
unfolding env_from
env_end levels i e p = ap (λ (k : ℕ). env_from levels k e) p

-- the terms of a part
abbrev pub terms_to : List ℕ → List ℕ → ℕ → List ℕ
terms_to levels env i = map (λ l. get_or env l 0) (take i levels)

pub terms_none : (levels env codes : List ℕ) → codes ≡ below 0 → codes ≡ terms_to levels env 0
unfolding below from
terms_none levels env codes e = e

pub terms_next : (levels env : List ℕ) (i l : ℕ) (codes more : List ℕ) → i < length levels → l ≡ get_or levels i 0 → codes ≡ terms_to levels env i → more ≡ codes ++ (get_or env l 0 ∷ []) → more ≡ terms_to levels env (i + 1)
terms_next levels env i l codes more h e p q =
    q ∙ ap₂ (λ (x : List ℕ) (k : ℕ). x ++ (get_or env k 0 ∷ [])) p e
    ∙ sym (map-append (λ k. get_or env k 0) (take i levels) (get_or levels i 0 ∷ []))
    ∙ ap (map (λ k. get_or env k 0)) (sym (take-suc levels i 0 h))
    ∙ ap (λ (k : ℕ). terms_to levels env k) (sym (add-one i))

pub terms_more : (p : PartRow) (env : List ℕ) (end i w : ℕ) (codes more : List ℕ) → p.tag ≡ 2 → i ≡ w → w ≡ p.width → codes ≡ terms_to p.levels env i → more ≡ codes ++ (end ∷ []) → more ≡ part_terms p env end
unfolding part_terms
terms_more p env end i w codes more t a b c d = rw t (d ∙ ap (λ (x : List ℕ). x ++ (end ∷ [])) (c ∙ ap (terms_to p.levels env) (a ∙ b)))

pub terms_all : (p : PartRow) (env : List ℕ) (end i w : ℕ) (codes : List ℕ) → (p.tag ≡ 2 → ⊥) → i ≡ w → w ≡ p.width → codes ≡ terms_to p.levels env i → codes ≡ part_terms p env end
unfolding part_terms
terms_all p env end i w codes t a b c = rw (ne_eqb p.tag 2 t) (c ∙ ap (terms_to p.levels env) (a ∙ b) ∙ sym (append-nil (terms_to p.levels env p.width)))

-- its predicate
pub word_tuple : (t : Nodes) (p : PartRow) (tag number : ℕ) → tag ≡ p.tag → number ≡ p.which → tag < 2 → relation_word tag number ≡ part_word t p
unfolding part_word
word_tuple t p tag number a b h = rw (a, b, lt-ltb p.tag 2 (subst (λ (k : ℕ). k < 2) a h)) refl

pub word_node : (t : Nodes) (p : PartRow) (tag number kind : ℕ) → tag ≡ p.tag → number ≡ p.which → kind ≡ (row_at t number).kind → 2 ≤ tag → proved_word number kind ≡ part_word t p
unfolding part_word
word_node t p tag number kind a b k h = rw (k, b, le-ltb p.tag 2 (subst (λ (j : ℕ). 2 ≤ j) a h)) refl

pub tuple_fits : (p : PartRow) (tag number : ℕ) → PartFits p → tag ≡ p.tag → number ≡ p.which → tag < 2 → WordFits (relation_word tag number)
unfolding WordFits
tuple_fits p tag number F a b h k = subst (λ (j : ℕ). j < 18) (sym b) (F.relation (subst (λ (j : ℕ). j < 2) a h))

pub node_number_lem : (p : PartRow) (tag number : ℕ) → PartFits p → tag ≡ p.tag → number ≡ p.which → 2 ≤ tag → number < 64
node_number_lem p tag number F a b h = subst (λ (j : ℕ). j < 64) (sym b) (F.node (subst (λ (j : ℕ). 2 ≤ j) a h))

pub part_parts : (q ns : List ℕ) (t : Nodes) (p : PartRow) (env : List ℕ) (end : ℕ) (w : Word) (codes : List ℕ) → w ≡ part_word t p → codes ≡ part_terms p env end → part_text q ns t p env end ≡ also_text q ns w codes false
unfolding part_text
part_parts q ns t p env end w codes a b = rw (a, b) refl

-- ---- the nodes' actions
module _ (q ns : List ℕ) (t : Nodes) (v end : ℕ) where
  pub kid_part : (k first : ℕ) (env : List ℕ) (e : ℕ) → first ≡ (row_at t v).first → env ≡ env_of (row_at t v) → e ≡ end → kid_text q ns t v end k ≡ part_text q ns t (part_at t (first + k)) env e
  unfolding kid_text
  kid_part k first env e a b d = rw (a, b, d) refl

  pub kids_many : (many : ℕ) → many ≡ (row_at t v).many → flat_map (kid_text q ns t v end) (below (row_at t v).many) ≡ flat_map (kid_text q ns t v end) (from 0 (many - 0))
  unfolding below
  kids_many many e = let d : (row_at t v).many ≡ many - 0 = omega arith in ap (λ (k : ℕ). flat_map (kid_text q ns t v end) (from 0 k)) d

  pub ors_many : (many : ℕ) → many ≡ (row_at t v).many → ors_text q ns t v end ≡ flat_map (or_text q ns t v end) (from 0 (many - 0))
  unfolding ors_text below
  ors_many many e = let d : (row_at t v).many ≡ many - 0 = omega arith in ap (λ (k : ℕ). flat_map (or_text q ns t v end) (from 0 k)) d

  pub under_part : (x first level : ℕ) (env bound : List ℕ) (e d : ℕ) → first ≡ (row_at t v).first → level ≡ (row_at t v).level → env ≡ env_of (row_at t v) → bound ≡ set env level x → d ≡ end → e ≡ d
      → under_text q ns t v x end ≡ part_text q ns t (part_at t first) bound e
  unfolding under_text
  under_part x first level env bound e d a b f g h i = rw (i, h, g, f, b, a) refl

  module _ (width : ℕ) (w : width ≡ (row_at t v).width) (own : List ℕ) (o : own ≡ below width) where
    pub and_parts : and_text q ns t v end ≡ head_text q ns (And v) width ++ (bytes " (proof)" ++ (flat_map (kid_text q ns t v end) (below (row_at t v).many) ++ proof_end q ns (proved_word v 2) own))
    unfolding and_text
    and_parts = rw (o, w) refl

    pub or_parts : (i : ℕ) → or_text q ns t v end i ≡ head_text q ns (Or v i) width ++ (bytes " (proof)" ++ (kid_text q ns t v end i ++ proof_end q ns (proved_word v 3) own))
    unfolding or_text
    or_parts i = rw (o, w) refl

    pub exists_parts : exists_text q ns t v end ≡ head_text q ns (Exists v) (width + 1) ++ (bytes " (proof)" ++ (under_text q ns t v width end ++ proof_end q ns (proved_word v 1) own))
    unfolding exists_text
    exists_parts = rw (o, w) refl

    pub first_parts : (with : List ℕ) → with ≡ own ++ (8 ∷ []) → first_text q ns t v end ≡ head_text q ns (First v) width ++ (bytes " (proof)" ++ (under_text q ns t v 8 end ++ proof_end q ns (proved_word v 0) with))
    unfolding first_text
    first_parts with e = rw (e, o, w) refl

    pub next_parts : (one both before after : List ℕ) → one ≡ width ∷ [] → both ≡ one ++ ((width + 1) ∷ []) → before ≡ own ++ (width ∷ []) → after ≡ own ++ ((width + 1) ∷ []) → next_text q ns t v end
        ≡ head_text q ns (Next v) (width + 2) ++ (bytes " (proof)" ++ (also_text q ns (relation_word 0 2) both false ++ (also_text q ns (proved_word v 0) before false ++ (under_text q ns t v (width + 1) end ++ proof_end q ns (proved_word v 0) after))))
    unfolding next_text
    next_parts one both before after a b d e = rw (e, d, b, a, o, w) refl

  pub forall_parts : forall_text q ns t v end ≡ first_text q ns t v end ++ next_text q ns t v end
  unfolding forall_text
  forall_parts = refl

  pub node_forall : (row_at t v).kind ≡ 0 → node_text q ns t v end ≡ forall_text q ns t v end
  unfolding node_text
  node_forall e = rw e refl

  pub node_exists : (row_at t v).kind ≡ 1 → node_text q ns t v end ≡ exists_text q ns t v end
  unfolding node_text
  node_exists e = rw e refl

  pub node_and : (row_at t v).kind ≡ 2 → node_text q ns t v end ≡ and_text q ns t v end
  unfolding node_text
  node_and e = rw e refl

  pub node_or : ((row_at t v).kind ≡ 0 → ⊥) → ((row_at t v).kind ≡ 1 → ⊥) → ((row_at t v).kind ≡ 2 → ⊥) → node_text q ns t v end ≡ ors_text q ns t v end
  unfolding node_text
  node_or a b d = rw (ne_eqb (row_at t v).kind 0 a, ne_eqb (row_at t v).kind 1 b, ne_eqb (row_at t v).kind 2 d) refl

pub end_parts : (q ns : List ℕ) (w : Word) (own : List ℕ) → proof_end q ns w own ≡ (41 ∷ 10 ∷ bytes "    :effect (and") ++ (also_text q ns w own false ++ (41 ∷ 41 ∷ 10 ∷ []))
unfolding proof_end
end_parts q ns w own = refl

pub goal_parts : (q ns : List ℕ) (t : Nodes) (end : ℕ) → goal_text q ns t end ≡ head_text q ns Goal 0 ++ (part_text q ns t t.root no_env end ++ (41 ∷ 10 ∷ (bytes "    :effect (and (holds_goal)))" ++ (10 ∷ []))))
unfolding goal_text
goal_parts q ns t end = refl

-- ---- the whole
pub constants_one : (n : ℕ) → n ≡ 1 → constants_text n ≡ bytes "  (:constants o0" ++ (41 ∷ 10 ∷ [])
unfolding constants_text
constants_one n e = rw e refl

pub constants_two : (n : ℕ) → (n ≡ 1 → ⊥) → constants_text n ≡ bytes "  (:constants o0" ++ ((32 ∷ []) ++ (object_word (n - 1) ++ (41 ∷ 10 ∷ [])))
unfolding constants_text
constants_two n h = rw (ne_eqb n 1 h) refl

unfoldable pub predicates_in : (q ns : List ℕ) → ℕ → Relations → Nodes → List ℕ
predicates_in q ns n g t =
    (bytes "(define (domain case)" ++ (10 ∷ []))
    ++ (constants_text n
    ++ ((bytes "  (:predicates" ++ (10 ∷ (bytes "    (guess)" ++ (10 ∷ (bytes "    (proof)" ++ (10 ∷ (bytes "    (holds_goal)" ++ (10 ∷ []))))))))
    ++ (relations_lines q ns g ++ (nodes_lines q ns t ++ (bytes "  )" ++ (10 ∷ []))))))

unfoldable pub guesses_in : (q ns : List ℕ) → Relations → List ℕ
guesses_in q ns g =
    sets_text q ns g
    ++ (bytes "  (:action begin-proof"
    ++ (10 ∷ (bytes "    :parameters ()" ++ (10 ∷ (bytes "    :precondition (and (guess))" ++ (10 ∷ (bytes "    :effect (and (proof) (not (guess))))" ++ (10 ∷ []))))))))

regroup : (a b d e f h rest : List ℕ) → a ++ (b ++ (d ++ (e ++ (f ++ (h ++ rest))))) ≡ (a ++ (b ++ (d ++ (e ++ (f ++ h))))) ++ rest
regroup a b d e f h rest =
    rw (append_assoc a (b ++ (d ++ (e ++ (f ++ h)))) rest, append_assoc b (d ++ (e ++ (f ++ h))) rest, append_assoc d (e ++ (f ++ h)) rest, append_assoc e (f ++ h) rest, append_assoc f h rest) refl

pub domain_parts : (q ns : List ℕ) (n : ℕ) (g : Relations) (t : Nodes) → domain_in q ns n g t ≡ predicates_in q ns n g t ++ (guesses_in q ns g ++ (nodes_text q ns t (n + 7) ++ (goal_text q ns t (n + 7) ++ (41 ∷ 10 ∷ []))))
unfolding domain_in predicates_in guesses_in
domain_parts q ns n g t =
    let title = bytes "(define (domain case)" ++ (10 ∷ []) in
    let plain = bytes "  (:predicates" ++ (10 ∷ (bytes "    (guess)" ++ (10 ∷ (bytes "    (proof)" ++ (10 ∷ (bytes "    (holds_goal)" ++ (10 ∷ []))))))) in
    let begins = bytes "  (:action begin-proof"
    ++ (10 ∷ (bytes "    :parameters ()" ++ (10 ∷ (bytes "    :precondition (and (guess))" ++ (10 ∷ (bytes "    :effect (and (proof) (not (guess))))" ++ (10 ∷ []))))))) in
    let rest = nodes_text q ns t (n + 7) ++ (goal_text q ns t (n + 7) ++ (41 ∷ 10 ∷ [])) in
    regroup title (constants_text n) plain (relations_lines q ns g) (nodes_lines q ns t) (bytes "  )" ++ (10 ∷ [])) (sets_text q ns g ++ (begins ++ rest))
    ∙ ap (λ (x : List ℕ). predicates_in q ns n g t ++ x) (sym (append_assoc (sets_text q ns g) begins rest))
