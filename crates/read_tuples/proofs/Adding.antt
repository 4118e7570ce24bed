-- Adding a tuple of the text: the tests 7, 9 and 18 find its bit, and the bit decides 10.
use Prim.Native.Nat.{ℕ, suc, ◌+◌, ◌-◌, ◌*◌, ◌^◌, ◌/◌, ◌%◌, ◌≤◌, ◌<◌}
use Rattle.std.specs.Prelude.{min, Some, None}
use Rattle.std.specs.Prelude as P
use mathlib.Core.Path.{◌≡◌, refl, sym, ap, ap₂, subst, ◌∙◌}
use mathlib.Core.Bool.{Bool, true, false, ◌&&◌}
use mathlib.Core.Option.{Option, none, some}
use mathlib.Core.List.{List, [], ◌∷◌, ◌++◌}
use native.Mathlib.Omega.{arith}
use lib.Dec.{eqb}
use lib.ListN.{length, get_or, length-map}
use borrow.Author.Tests.{eqb-true}
use Rattle.definitions.specs.Lists.{all, option, position, same}
use Rattle.definitions.specs.Refusal.{refused, accepted, ◌>>=◌, refuse_if, given}
use Rattle.definitions.specs.Sheet.Relations.{Relation, Tuple, is_among}
use Rattle.definitions.specs.Problem.Atoms.{words_for}
use Rattle.definitions.specs.Sheet.Sheets as D
use Rattle.laws.specs.Writing.{and_r}
use Rattle.bits.specs.Table.{bit, put}
use Rattle.laws.specs.Labels.{LabelsFit}
use Rattle.read_text.specs.Spans.{option_of}
use Rattle.read_names.specs.declared.Signature.{Signature}
use Rattle.read_names.specs.Signatures.{lent_of, relation_in, relations_from, matches, counted}
use Rattle.read_names.proofs.Laws.{found_some, found_none, look_found}
use Rattle.refusal.specs.declared.Cause.{Cause}
use Rattle.refusal.specs.declared.Cause.TheVariants.{Unknown, OutOfRange, Repeated, BadLabel}
use Rattle.std.specs.Prelude.{Result, Ok, Err}
use Rattle.read_tuples.specs.Labels.{values}
use Rattle.read_tuples.specs.Marks.{are_below, InRow, first_word, bit_of, marks, Valid, AllValid, Stands, Spotted, Adds, Added}
use Rattle.read_tuples.proofs.Naming.{values_in, values_out}
use Rattle.read_tuples.proofs.Rows.{row_power, power_le}
use Rattle.read_tuples.proofs.Bits.{marks_among, valid_snoc, marks_put}
use Rattle.read_tuples.proofs.Words.{its_words}

-- a signature of no relation: bounds hold for every signature with the arrays, so for this one
pub no_signature : Signature
no_signature = lent_of [] [] [] 0

-- ---- the tests 7, 9 and 18

module _ (rs : List Relation) (first n : ℕ) (ls : List D.Label) (ts : List Tuple) (at : ℕ) (name : List ℕ) (es : List D.Element) where
  tuple_7 : D.used rs first name (length es) ≡ none → D.add_tuple rs first n ls ts at name es ≡ refused 7 at
  unfolding D.add_tuple given ◌>>=◌
  tuple_7 p = rw p

  module _ (r : ℕ) (p : D.used rs first name (length es) ≡ some r) where
    tuple_9 : all (D.is_in_range n) es ≡ false → D.add_tuple rs first n ls ts at name es ≡ refused 9 at
    unfolding D.add_tuple given ◌>>=◌ refuse_if
    tuple_9 b = rw (p, b)

    module _ (b : all (D.is_in_range n) es ≡ true) where
      tuple_18 : D.elements_of ls es ≡ none → D.add_tuple rs first n ls ts at name es ≡ refused 18 at
      unfolding D.add_tuple given ◌>>=◌ refuse_if
      tuple_18 e = rw (p, b, e)

      tuple_in : (xs : List ℕ) → D.elements_of ls es ≡ some xs → D.add_tuple rs first n ls ts at name es ≡ (refuse_if (is_among (record { relation = r; places = xs }) ts) 10 at >>= λ _. accepted (ts ++ (record { relation = r; places = xs } ∷ [])))
      unfolding D.add_tuple given ◌>>=◌ refuse_if
      tuple_in xs e = rw (p, b, e)

-- what was looked up is what is used
used_is : (rs : List Relation) (first lo : ℕ) (name : List ℕ) (k : ℕ) (o : Option ℕ) → counted lo (position (matches name (Some k)) rs) ≡ o → D.used rs (5 + lo) name k ≡ option o none (λ i. some (5 + i))
unfolding D.used counted matches option
used_is rs first lo name k o e = rw (← e) (by_option (position (λ (r : Relation). same r.name name && eqb r.arity k) rs))
  where
    by_option : (u : Option ℕ) → option u none (λ i. some (5 + lo + i)) ≡ option (option u none (λ i. some (lo + i))) none (λ i. some (5 + i))
    by_option none = refl
    by_option (some i) = let z : 5 + lo + i ≡ 5 + (lo + i) = omega arith in ap (λ (m : ℕ). some m) z

match_arity : (q : List ℕ) (g : Signature) (name : List ℕ) (k i : ℕ) → matches name (Some k) (relation_in q g i) ≡ true → get_or g.arity i 0 ≡ k
unfolding matches relation_in
match_arity q g name k i p = eqb-true (get_or g.arity i 0) k (and_r (same (relation_in q g i).name name) (eqb (get_or g.arity i 0) k) p)

-- ---- the bit

module _ (q : List ℕ) (g : Signature) (lo m n : ℕ) (ls : List D.Label) (name : List ℕ) (es : List D.Element) (k : ℕ) (e : k ≡ length es) (f : P.Option ℕ) (w : f ≡ option_of (counted lo (position (matches name (Some k)) (relations_from q g lo m)))) where
  pub spot_unknown : f ≡ None → Spotted q g lo m n ls name es (Err Unknown)
  unfolding Spotted option
  spot_unknown p = λ ts at. tuple_7 (relations_from q g lo m) (5 + lo) n ls ts at name es (rw (← e) (used_is (relations_from q g lo m) 5 lo name k none (found_none _ f p w)))

  module _ (i : ℕ) (p : f ≡ Some i) where
    pub found_bounds : (lo ≤ i) × (i < lo + m) × (get_or g.arity i 0 ≡ k)
    found_bounds = let v = look_found q g (matches name (Some k)) lo m i f p w in (v.0, v.1, match_arity q g name k i v.2)

    used_there : D.used (relations_from q g lo m) (5 + lo) name (length es) ≡ some (5 + i)
    unfolding option
    used_there = rw (← e) (used_is (relations_from q g lo m) 5 lo name k (some i) (found_some _ i f p w))

    pub spot_outside : false ≡ all (D.is_in_range n) es → Spotted q g lo m n ls name es (Err OutOfRange)
    unfolding Spotted
    spot_outside b = λ ts at. tuple_9 (relations_from q g lo m) (5 + lo) n ls ts at name es (5 + i) used_there (sym b)

    module _ (r : P.Option ℕ) (u : InRow n (values n ls es) r) where
      pub spot_nobody : LabelsFit n ls → r ≡ None → true ≡ all (D.is_in_range n) es → Spotted q g lo m n ls name es (Err BadLabel)
      unfolding Spotted InRow
      spot_nobody F z b = λ ts at. tuple_18 (relations_from q g lo m) (5 + lo) n ls ts at name es (5 + i) used_there (sym b) (values_out n ls F es (subst (λ (r : P.Option ℕ). InRow n (values n ls es) r) z u) (sym b))

      module _ (b : ℕ) (z : r ≡ Some b) (t : ℕ) (h : (t ≡ first_word g n lo (i - lo)) × (t ≤ 4096 * (i - lo))) (few : n ≤ 64) (k3 : k ≤ 3) where
        value_count : length (values n ls es) ≡ length es
        unfolding values
        value_count = length-map es _

        pub row_limit : b < 262144
        row_limit = omega (arith, row_power n (values n ls es) b r z u, power_le n (length (values n ls es)) few (omega (arith, value_count)))

        inside : are_below n (values n ls es) ≡ true
        unfolding InRow
        inside = (subst (λ (r : P.Option ℕ). InRow n (values n ls es) r) z u).0

        valid : Valid g n lo m (record { relation = 5 + i; places = values n ls es })
        unfolding Valid
        valid =
            let v = found_bounds in
            let j : i ≡ 5 + i - 5 = omega arith in
            (omega arith, omega arith, sym (ap (λ (y : ℕ). get_or g.arity y 0) (sym j) ∙ v.2 ∙ e ∙ sym value_count), inside)

        its_bit : bit_of g n lo (record { relation = 5 + i; places = values n ls es }) ≡ t * 64 + b
        unfolding bit_of InRow
        its_bit =
            let j : 5 + i - (5 + lo) ≡ i - lo = omega arith in
            let y = (subst (λ (r : P.Option ℕ). InRow n (values n ls es) r) z u).1 in
            let c : first_word g n lo (5 + i - (5 + lo)) ≡ t = ap (first_word g n lo) j ∙ sym h.0 in
            omega (arith, c, y)

        pub spot_bit : Spotted q g lo m n ls name es (Ok (t * 64 + b))
        unfolding Spotted
        spot_bit =
            let v = found_bounds in
            record {
              tuple = record { relation = 5 + i; places = values n ls es };
              valid = valid;
              its_bit = its_bit;
              small = subst (λ (x : ℕ). x < 64 * first_word g n lo m) its_bit (its_words g n lo m (record { relation = 5 + i; places = values n ls es }) valid m (omega arith));
              adds = λ ts at. let (b, c) = values_in n ls es inside in tuple_in (relations_from q g lo m) (5 + lo) n ls ts at name es (5 + i) used_there b (values n ls es) c;
            }

-- ---- adding

module _ (q : List ℕ) (g : Signature) (lo m n : ℕ) (ls : List D.Label) (name : List ℕ) (es : List D.Element) (old new : List ℕ) (r : Result ℕ Cause) (w : Spotted q g lo m n ls name es r) where
  pub add_fault : (k : Cause) → r ≡ Err k → Added q g lo m n ls name es old new (Err k)
  unfolding Added Spotted Adds
  add_fault k p ts at v b = subst (λ (r : Result ℕ Cause). Spotted q g lo m n ls name es r) p w ts at

  module _ (b : ℕ) (p : r ≡ Ok b) where
    there : Stands q g lo m n ls name es b
    unfolding Spotted
    there = subst (λ (r : Result ℕ Cause). Spotted q g lo m n ls name es r) p w

    pub spot_limit : b < 64 * first_word g n lo m
    spot_limit = there.small

    among : (ts : List Tuple) → AllValid g n lo m ts → bit old ≡ marks (bit_of g n lo) ts → bit old b ≡ is_among there.tuple ts
    among ts v c = ap (λ (y : ℕ → Bool). y b) c ∙ ap (marks (bit_of g n lo) ts) (sym there.its_bit) ∙ marks_among g n lo m there.tuple ts there.valid v

    pub add_10 : bit old b ≡ true → Added q g lo m n ls name es old new (Err Repeated)
    unfolding Added Adds refuse_if ◌>>=◌
    add_10 a ts at v c = there.adds ts at ∙ rw (sym (among ts v c) ∙ a)

    pub add_0 : bit old b ≡ false → bit new ≡ put (bit old) b true → Added q g lo m n ls name es old new (Ok tt)
    unfolding Added Adds refuse_if ◌>>=◌
    add_0 a d ts at v c = (
      there.tuple,
      there.adds ts at ∙ rw (sym (among ts v c) ∙ a),
      valid_snoc g n lo m ts there.tuple v there.valid,
      d ∙ ap₂ (λ (y : ℕ → Bool) (j : ℕ). put y j true) c (sym there.its_bit) ∙ marks_put (bit_of g n lo) ts there.tuple,
    )

-- ---- the first word

pub word_next : (g : Signature) (n lo m sum p r : ℕ) → sum ≡ first_word g n lo m → p ≡ n ^ get_or g.arity (lo + m) 0 → r ≡ p / 64 + min 1 (p % 64) → sum + r ≡ first_word g n lo (m + 1)
unfolding first_word words_for
word_next g n lo m sum p r h e q =
    let z : m + 1 ≡ suc m = omega arith in
    let y : r ≡ (p + 63) / 64 = omega arith in
    rw (z, y, h, e)
