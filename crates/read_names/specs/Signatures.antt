-- A signature as the code holds it, the relations and types that it stands for, and what looking one up by its name means.
use Rattle.std.specs.Prelude.{ℕ, zero, suc, ◌+◌, ◌≤◌, ◌<◌, ◌≡◌, Bool, true, ◌&&◌, List, [], ◌∷◌, eqb, length, get_or}
use Rattle.std.specs.Prelude.{Some, None}
use Rattle.std.specs.Prelude as P
use Rattle.std.proofs.Math.Option.{Option, none, some}
use Rattle.std.proofs.Math.Seq.{slice}
use Rattle.definitions.specs.Lists.{same, option}
use Rattle.definitions.specs.Sheet.Relations.{Relation, fixed}
use Rattle.definitions.specs.Sheet.Sheets.{relations}
use Rattle.read_text.specs.Spans.{kind_of}
use Rattle.read_names.specs.declared.Signature.{Signature}

-- the signature with these arrays in place of its own
abbrev pub with_arrays : Signature → (from to arity : List ℕ) → Signature
with_arrays g from to arity =
    record { rels = g.rels; chosen = g.chosen; every = g.every; types = g.types; from = from; to = to; arity = arity; kind = g.kind; firsts = g.firsts; seconds = g.seconds }

-- m relations whose names and arities are lent, and whose kinds and sorts do not matter
abbrev pub lent_of : (from to arity : List ℕ) → ℕ → Signature
lent_of from to arity m = record { rels = m; chosen = 0; every = 0; types = 0; from = from; to = to; arity = arity; kind = []; firsts = []; seconds = [] }

-- the signature's names, and how many relations it has
pub record Lent (g : Signature) (from to : List ℕ) (m : ℕ) : Type 0 where
  pub from_is : from ≡ g.from
  pub to_is : to ≡ g.to
  pub count : m ≡ g.rels + g.chosen + g.every
  pub one : g.every ≤ 1

-- relation i of the signature, whose names are spans of q
unfoldable pub relation_in : List ℕ → Signature → ℕ → Relation
relation_in q g i = record {
  name = slice (get_or g.from i 0) (get_or g.to i 0) q;
  arity = get_or g.arity i 0;
  kind = kind_of (get_or g.kind i 0);
  firsts = get_or g.firsts i 0;
  seconds = get_or g.seconds i 0;
}

-- the m relations from i on
unfoldable pub relations_from : List ℕ → Signature → ℕ → ℕ → List Relation
relations_from q g i zero = []
relations_from q g i (suc m) = relation_in q g i ∷ relations_from q g (suc i) m

-- the `rel` and the `choose` relations, that of an `every` line, and all in the order of their numbers
unfoldable pub rels_of : List ℕ → Signature → List Relation
rels_of q g = relations_from q g 0 g.rels

unfoldable pub chosen_of : List ℕ → Signature → List Relation
chosen_of q g = relations_from q g g.rels g.chosen

unfoldable pub last_of : List ℕ → Signature → ℕ → Option Relation
last_of q g zero = none
last_of q g (suc k) = some (relation_in q g (g.rels + g.chosen))

unfoldable pub every_of : List ℕ → Signature → Option Relation
every_of q g = last_of q g g.every

unfoldable pub all_of : List ℕ → Signature → List Relation
all_of q g = relations (rels_of q g) (chosen_of q g) (every_of q g)

-- the k names from entry i on, and of these the types', which stand after the relations'; the types of the signature
unfoldable pub names_from : (q from to : List ℕ) → ℕ → ℕ → List (List ℕ)
names_from q from to i zero = []
names_from q from to i (suc k) = slice (get_or from i 0) (get_or to i 0) q ∷ names_from q from to (suc i) k

abbrev pub types_in : (q from to : List ℕ) → ℕ → List (List ℕ)
types_in q from to k = names_from q from to 13 k

unfoldable pub types_of : List ℕ → Signature → List (List ℕ)
types_of q g = types_in q g.from g.to g.types

-- the entries of types that are not there are empty
abbrev pub NoFurther : (to : List ℕ) → ℕ → Type 0
NoFurther to k = (i : ℕ) → k ≤ i → i < 8 → get_or to (13 + i) 0 ≡ 0

-- a signature of a question: as many relations and types as there may be, names inside its text, arities 1 to 3, sorts of its types
pub record SoundSignature (q : List ℕ) (g : Signature) : Type 0 where
  pub rels_le : g.rels ≤ 8
  pub chosen_le : g.chosen ≤ 4
  pub every_le : g.every ≤ 1
  pub types_le : g.types ≤ 8
  pub spans : (i : ℕ) → i < g.rels + g.chosen + g.every → (get_or g.from i 0 ≤ get_or g.to i 0) × (get_or g.to i 0 ≤ length q)
  pub no_further : NoFurther g.to g.types
  pub arities : (i : ℕ) → i < g.rels + g.chosen + g.every → (1 ≤ get_or g.arity i 0) × (get_or g.arity i 0 ≤ 3)
  pub sorts : (i : ℕ) → i < g.rels + g.chosen + g.every → (get_or g.firsts i 0 ≤ g.types) × (get_or g.seconds i 0 ≤ g.types)

-- the table of the built-in relations, and the bytes of their names
unfoldable pub built_in_table : Signature
built_in_table = record {
  rels = 5;
  chosen = 0;
  every = 0;
  types = 0;
  from = 0 ∷ 2 ∷ 4 ∷ 7 ∷ 11 ∷ 0 ∷ 0 ∷ 0 ∷ 0 ∷ 0 ∷ 0 ∷ 0 ∷ 0 ∷ [];
  to = 2 ∷ 4 ∷ 7 ∷ 11 ∷ 14 ∷ 0 ∷ 0 ∷ 0 ∷ 0 ∷ 0 ∷ 0 ∷ 0 ∷ 0 ∷ [];
  arity = 2 ∷ 2 ∷ 2 ∷ 1 ∷ 1 ∷ 0 ∷ 0 ∷ 0 ∷ 0 ∷ 0 ∷ 0 ∷ 0 ∷ 0 ∷ [];
  kind = 0 ∷ 0 ∷ 0 ∷ 0 ∷ 0 ∷ 0 ∷ 0 ∷ 0 ∷ 0 ∷ 0 ∷ 0 ∷ 0 ∷ 0 ∷ [];
  firsts = 0 ∷ 0 ∷ 0 ∷ 0 ∷ 0 ∷ 0 ∷ 0 ∷ 0 ∷ 0 ∷ 0 ∷ 0 ∷ 0 ∷ 0 ∷ [];
  seconds = 0 ∷ 0 ∷ 0 ∷ 0 ∷ 0 ∷ 0 ∷ 0 ∷ 0 ∷ 0 ∷ 0 ∷ 0 ∷ 0 ∷ 0 ∷ [];
}

-- an arity is the wanted one, or none is wanted
abbrev pub is_wanted : P.Option ℕ → ℕ → Bool
is_wanted None a = true
is_wanted (Some k) a = eqb a k

-- a relation has the name and the wanted arity; it has the name and the arity k
unfoldable pub matches : List ℕ → P.Option ℕ → Relation → Bool
matches name wanted r = same r.name name && is_wanted wanted r.arity

unfoldable pub has_arity : List ℕ → ℕ → Relation → Bool
has_arity name k r = same r.name name && eqb r.arity k

-- an index counted from lo on
unfoldable pub counted : ℕ → Option ℕ → Option ℕ
counted lo o = option o none (λ i. some (lo + i))

-- relation r of all has the arity k, the kind of the number k, and the sort t of its first and of its second place, whatever the names
unfoldable pub HasArity : Signature → ℕ → ℕ → Type 0
HasArity g r k = (q : List ℕ) → k ≡ (get_or (all_of q g) r (fixed [] zero)).arity

unfoldable pub HasKind : Signature → ℕ → ℕ → Type 0
HasKind g r k = (q : List ℕ) → kind_of k ≡ (get_or (all_of q g) r (fixed [] zero)).kind

unfoldable pub HasFirsts : Signature → ℕ → ℕ → Type 0
HasFirsts g r t = (q : List ℕ) → t ≡ (get_or (all_of q g) r (fixed [] zero)).firsts

unfoldable pub HasSeconds : Signature → ℕ → ℕ → Type 0
HasSeconds g r t = (q : List ℕ) → t ≡ (get_or (all_of q g) r (fixed [] zero)).seconds
