-- Picks as words: the words written for picks are taken back as the same tuples, and words that were taken are written again.
use Prim.Native.Nat.{ℕ, zero, ◌+◌, ◌*◌, ◌/◌, ◌^◌, ◌<◌, ◌≤◌}
use Rattle.std.specs.Prelude.{◌≡◌, Bool, ◌&&◌, T, ltb, get_or, take, drop}
use Rattle.std.proofs.Math.Path.{refl, sym, ap, ap₂, subst, fun_ext}
use Rattle.std.proofs.Common.{◌∙◌, leb→le, length-take, take-append-drop, length-take-le, take-add, get_or-take, get_or-drop, lt-ltb, le-ltb, le-leb, ltb-true, ltb-false}
use Rattle.std.proofs.Math.Logic.{⊎_elim}
use Rattle.std.proofs.Math.Bool.{true, false}
use Rattle.std.proofs.Math.Option.{Option, none, some}
use mathlib.Core.List.Memᴰ
use mathlib.Core.List.{List, [], ◌∷◌, ◌++◌, map, append_assoc, Memᴰ}
use native.Mathlib.Omega.{arith}
use Rattle.std.proofs.Math.Dec.{leb}
use Rattle.std.proofs.Math.ListN.{length, length-append, length-drop, get_or-eq_default}
use Rattle.std.proofs.Math.Seq.{drop-append_seam}
use Rattle.definitions.specs.Lists.{filter, flat_map, option, position, from, below, sum}
use Rattle.definitions.specs.Sheet.Relations.{Tuple, is_chosen}
use Rattle.definitions.specs.Problem.Atoms.{Problem, relation_at, tuples_of}
use Rattle.definitions.specs.Problem.Built.{chosen_numbers, is_picked, picked_rows}
use Rattle.definitions.specs.Reply.Outcome.{relation_words, picks_length, pick_words, bit_of, relation_picks, lent_picks, has_spare, spare_word}
use Rattle.bits.specs.Table.{words, Words}
use Rattle.bits.proofs.Laws.{bit_words, length_words, is_words}
use Rattle.laws.specs.Booleans.{T_ext, T_of}
use Rattle.laws.specs.Lists.{any_none, below_lt, filter_mem, filter_same, from_mem, map_flat, map_map, map_mem, mem_below, mem_filter, mem_from, mem_map, none_any, none_some}
use Rattle.laws.specs.Positions.{none_position, position_none}
use Rattle.laws.specs.Tuples.{among_mem, mem_among}
use Rattle.laws.specs.Repeats.{Once, once_append, once_below, once_filter, once_map}
use Rattle.laws.specs.Words.{bit_front, bit_is, words_are, words_for_lem}
use Rattle.meaning.specs.Means.{Good}
use Rattle.meaning.specs.Sound.{tuple_at, same_row}
use Rattle.meaning.specs.Pairs.{tuple_of, pairs}

option_none : (o x : Option ℕ) (f : ℕ → ℕ) → option o x (λ j. some (f j)) ≡ none → (o ≡ none) × (x ≡ none)
unfolding option
option_none none x f e = (refl, e)
option_none (some j) x f e = absurd (none_some (sym e))

pub words_take : (k : ℕ) (w : List ℕ) → Words w → Words (take k w)
words_take k w ok j = by_test (ltb j k) refl
  where
    by_test : (b : Bool) → ltb j k ≡ b → get_or (take k w) j 0 < 2 ^ 64
    by_test true e = let q = get_or-take k w j 0 (ltb-true j k e) in let h = ok j in omega arith
    by_test false e = let h = ltb-false j k e in let a = length-take k w in let q = get_or-eq_default (take k w) 0 {n = j} (omega arith) in omega arith

pub words_drop : (k : ℕ) (w : List ℕ) → Words w → Words (drop k w)
words_drop k w ok j = let q = get_or-drop k w j 0 in let h = ok (k + j) in omega arith

module _ (p : Problem) (F : List Tuple) where
  abbrev n : ℕ → ℕ
  n r = tuples_of p.size (relation_at p r)

  -- a relation's bits, and its words
  abbrev row_bit : ℕ → ℕ → Bool
  row_bit r row = ltb row (n r) && is_picked p F r row

  abbrev own : ℕ → List ℕ
  own r = words (row_bit r) (relation_words p r)

  pub words_of : pick_words p F ≡ flat_map own (chosen_numbers p)
  unfolding pick_words
  words_of = ap (λ (f : ℕ → List ℕ). flat_map f (chosen_numbers p)) (fun_ext (λ r. words_are (row_bit r) (relation_words p r)))

  room : (r : ℕ) → n r ≤ 64 * relation_words p r
  unfolding relation_words
  room r = (words_for_lem (n r)).0

  own_length : (r : ℕ) → length (own r) ≡ relation_words p r
  own_length r = length_words (row_bit r) (relation_words p r)

  own_bit : (r : ℕ) (rest : List ℕ) (i : ℕ) → i < 64 * relation_words p r → bit_of (own r ++ rest) i ≡ row_bit r i
  own_bit r rest i h = let l = own_length r in bit_front (own r) rest i (omega arith) ∙ bit_is (own r) i ∙ bit_words (row_bit r) (relation_words p r) i h

  own_rows : (r : ℕ) (rest : List ℕ) → filter (bit_of (own r ++ rest)) (below (n r)) ≡ picked_rows p F r
  unfolding picked_rows
  own_rows r rest = filter_same (bit_of (own r ++ rest)) (is_picked p F r) (below (n r)) (λ x m.
      let l = below_lt (n r) x m in
      let k = room r in
      own_bit r rest x (omega arith) ∙ ap (λ (b : Bool). b && is_picked p F r x) (lt-ltb x (n r) l))

  own_picks : (r : ℕ) (rest : List ℕ) → relation_picks p (own r ++ rest) r ≡ map (tuple_at p r) (picked_rows p F r)
  unfolding relation_picks
  own_picks r rest = ap (map (tuple_at p r)) (own_rows r rest)

  own_drop : (r : ℕ) (rest : List ℕ) → drop (relation_words p r) (own r ++ rest) ≡ rest
  own_drop r rest = ap (λ (k : ℕ). drop k (own r ++ rest)) (sym (own_length r)) ∙ drop-append_seam (own r) rest

  own_spare : (r : ℕ) (rest : List ℕ) → position (has_spare p (own r ++ rest) r) (below (relation_words p r)) ≡ none
  unfolding has_spare
  own_spare r rest = position_none (has_spare p (own r ++ rest) r) (below (relation_words p r)) (any_none (has_spare p (own r ++ rest) r) (below (relation_words p r)) (λ j m. spare j (below_lt (relation_words p r) j m)))
    where
      spare : (j : ℕ) → j < relation_words p r → has_spare p (own r ++ rest) r j ≡ false
      spare j h = any_none (λ i. leb (n r) i && bit_of (own r ++ rest) i) (from (64 * j) 64) (λ i m.
          let q = from_mem 64 (64 * j) i m in
          let b : i < 64 * relation_words p r = omega (arith, q.0, q.1) in
          ap (λ (x : Bool). leb (n r) i && x) (own_bit r rest i b) ∙ apart i (leb (n r) i) refl)
        where
          apart : (i : ℕ) (b : Bool) → leb (n r) i ≡ b → (b && row_bit r i) ≡ false
          apart i true e = ap (λ (x : Bool). x && is_picked p F r i) (le-ltb i (n r) (leb→le (n r) i (T_of e)))
          apart i false e = refl

  lent_back : (rs : List ℕ) (rest : List ℕ) → lent_picks p (flat_map own rs ++ rest) rs ≡ flat_map (λ r. map (tuple_at p r) (picked_rows p F r)) rs
  unfolding lent_picks flat_map
  lent_back [] rest = refl
  lent_back (r ∷ rs) rest = ap (λ (w : List ℕ). relation_picks p w r ++ lent_picks p (drop (relation_words p r) w) rs) (append_assoc (own r) (flat_map own rs) rest)
      ∙ ap₂ ◌++◌ (own_picks r (flat_map own rs ++ rest)) (ap (λ (w : List ℕ). lent_picks p w rs) (own_drop r (flat_map own rs ++ rest)) ∙ lent_back rs rest)

  spare_back : (rs : List ℕ) (start : ℕ) (rest : List ℕ) → spare_word p (flat_map own rs ++ rest) start rs ≡ none
  unfolding spare_word flat_map option
  spare_back [] start rest = refl
  spare_back (r ∷ rs) start rest = ap (λ (w : List ℕ). option (position (has_spare p w r) (below (relation_words p r))) (spare_word p (drop (relation_words p r) w) (start + relation_words p r) rs) (λ j. some (start + j))) (append_assoc (own r) (flat_map own rs) rest)
      ∙ rw (own_spare r (flat_map own rs ++ rest), own_drop r (flat_map own rs ++ rest)) (spare_back rs (start + relation_words p r) rest)

  words_length : (rs : List ℕ) → length (flat_map own rs) ≡ sum (map (relation_words p) rs)
  unfolding flat_map sum
  words_length [] = refl
  words_length (r ∷ rs) = let a = length-append (own r) (flat_map own rs) in let b = own_length r in let c = words_length rs in omega arith

  -- the words that are written are as many as is said, have no spare bit set, and are taken as the same tuples, in atom order
  pub pick_words_lem : (rest : List ℕ) → (length (pick_words p F) ≡ picks_length p) × (spare_word p (pick_words p F ++ rest) zero (chosen_numbers p) ≡ none) × (lent_picks p (pick_words p F ++ rest) (chosen_numbers p) ≡ map (tuple_of p) (pairs p F))
  unfolding picks_length pairs
  pick_words_lem rest = (
    ap length words_of ∙ words_length (chosen_numbers p),
    ap (λ (w : List ℕ). spare_word p (w ++ rest) zero (chosen_numbers p)) words_of ∙ spare_back (chosen_numbers p) zero rest,
    ap (λ (w : List ℕ). lent_picks p (w ++ rest) (chosen_numbers p)) words_of ∙ lent_back (chosen_numbers p) rest
        ∙ sym (map_flat (tuple_of p) (λ r. map (λ row. (r, row)) (picked_rows p F r)) (chosen_numbers p) ∙ ap (λ (f : ℕ → List Tuple). flat_map f (chosen_numbers p)) (fun_ext (λ r. map_map (tuple_of p) (λ row. (r, row)) (picked_rows p F r)))),
  )

  -- ---- words whose bits are these picks, relation by relation
  unfoldable Matches : List ℕ → List ℕ → Type 0
  Matches w [] = Unit {0}
  Matches w (r ∷ rs) = ((row : ℕ) → row < n r → is_picked p F r row ≡ bit_of w row) × Matches (drop (relation_words p r) w) rs

  spare_none : (w : List ℕ) (r i : ℕ) → position (has_spare p w r) (below (relation_words p r)) ≡ none → n r ≤ i → i < 64 * relation_words p r → bit_of w i ≡ false
  unfolding has_spare
  spare_none w r i e h l =
      let a = none_any (has_spare p w r) (below (relation_words p r)) (none_position (has_spare p w r) (below (relation_words p r)) e) (i / 64) (mem_below (relation_words p r) (i / 64) (omega arith)) in
      let b = none_any (λ i. leb (n r) i && bit_of w i) (from (64 * (i / 64)) 64) a i (mem_from 64 (64 * (i / 64)) i (omega arith) (omega arith)) in
      sym (ap (λ (x : Bool). x && bit_of w i) (le-leb (n r) i h)) ∙ b

  own_same : (w : List ℕ) (r : ℕ) → Words w → relation_words p r ≤ length w → ((row : ℕ) → row < n r → is_picked p F r row ≡ bit_of w row) → position (has_spare p w r) (below (relation_words p r)) ≡ none → own r ≡ take (relation_words p r) w
  own_same w r ok l m e =
      let k = length-take-le (relation_words p r) w l in
      sym (is_words (take (relation_words p r) w) (row_bit r) (relation_words p r) (words_take (relation_words p r) w ok) k (λ i h.
      sym (bit_is (take (relation_words p r) w) i) ∙ sym (bit_front (take (relation_words p r) w) (drop (relation_words p r) w) i (omega arith)) ∙ ap (λ (t : List ℕ). bit_of t i) (take-append-drop (relation_words p r) w) ∙ row i h (ltb i (n r)) refl))
    where
      row : (i : ℕ) → i < 64 * relation_words p r → (b : Bool) → ltb i (n r) ≡ b → bit_of w i ≡ row_bit r i
      row i h true q = sym (ap (λ (x : Bool). x && is_picked p F r i) q ∙ m i (ltb-true i (n r) q))
      row i h false q = spare_none w r i e (ltb-false i (n r) q) h ∙ sym (ap (λ (x : Bool). x && is_picked p F r i) q)

  written : (w : List ℕ) (start : ℕ) (rs : List ℕ) → Words w → sum (map (relation_words p) rs) ≤ length w → Matches w rs → spare_word p w start rs ≡ none → flat_map own rs ≡ take (sum (map (relation_words p) rs)) w
  unfolding Matches flat_map sum spare_word
  written w start [] ok l m e = refl
  written w start (r ∷ rs) ok l m e =
      let q = option_none (position (has_spare p w r) (below (relation_words p r))) (spare_word p (drop (relation_words p r) w) (start + relation_words p r) rs) (λ j. start + j) e in
      let d = length-drop (relation_words p r) w in
      ap₂ ◌++◌ (own_same w r ok (omega arith) m.0 q.0) (written (drop (relation_words p r) w) (start + relation_words p r) rs (words_drop (relation_words p r) w ok) (omega arith) m.1 q.1)
      ∙ sym (take-add (relation_words p r) (sum (map (relation_words p) rs)) w)

-- ---- the tuples of lent words
module _ (p : Problem) (G : Good p) where
  picks_at : (w : List ℕ) (r : ℕ) (t : Tuple) → Memᴰ t (relation_picks p w r) → (row : ℕ) × (row < n p [] r) × T (bit_of w row) × (t ≡ tuple_at p r row)
  unfolding relation_picks
  picks_at w r t m =
      let (row, mr, e) = map_mem (tuple_at p r) (filter (bit_of w) (below (n p [] r))) t m in
      let q = filter_mem (bit_of w) (below (n p [] r)) row mr in
      (row, below_lt (n p [] r) row q.0, q.1, e)

  at_picks : (w : List ℕ) (r row : ℕ) → row < n p [] r → T (bit_of w row) → Memᴰ (tuple_at p r row) (relation_picks p w r)
  unfolding relation_picks
  at_picks w r row l t = mem_map (tuple_at p r) (filter (bit_of w) (below (n p [] r))) row (mem_filter (bit_of w) (below (n p [] r)) row (mem_below (n p [] r) row l) t)

  pub lent_at : (rs w : List ℕ) (t : Tuple) → Memᴰ t (lent_picks p w rs) → Memᴰ t.relation rs × ((row : ℕ) × (row < tuples_of p.size (relation_at p t.relation)) × (t ≡ tuple_at p t.relation row))
  unfolding lent_picks
  lent_at [] w t m = absurd (Memᴰ.not-nil m)
  lent_at (r ∷ rs) w t m = ⊎_elim
      (λ q. let (row, l, b, e) = picks_at w r t q in
      let k : t.relation ≡ r = ap (λ (u : Tuple). u.relation) e in
      (Memᴰ.head k, (row, subst (λ (z : ℕ). row < tuples_of p.size (relation_at p z)) (sym k) l, e ∙ ap (λ (z : ℕ). tuple_at p z row) (sym k))))
      (λ q. let h = lent_at rs (drop (relation_words p r) w) t q in (Memᴰ.tail h.0, h.1))
      (Memᴰ.append_cases (relation_picks p w r) m)

  pub lent_once : (rs w : List ℕ) → Once rs → Once (lent_picks p w rs)
  unfolding lent_picks Once relation_picks
  lent_once [] w o = tt
  lent_once (r ∷ rs) w o = once_append (relation_picks p w r) (lent_picks p (drop (relation_words p r) w) rs)
      (once_map (tuple_at p r) (filter (bit_of w) (below (n p [] r))) (λ x y mx my e. (same_row p G r y r x (row_of y my) (row_of x mx) e).1) (once_filter (bit_of w) (below (n p [] r)) (once_below (n p [] r))))
      (lent_once rs (drop (relation_words p r) w) o.1)
      (λ t m k. let (row, l, b, e) = picks_at w r t m in o.0 (Memᴰ.cast (sym (ap (λ (u : Tuple). u.relation) e)) (lent_at rs (drop (relation_words p r) w) t k).0))
    where
      row_of : (x : ℕ) → Memᴰ x (filter (bit_of w) (below (n p [] r))) → x < n p [] r
      row_of x m = below_lt (n p [] r) x (filter_mem (bit_of w) (below (n p [] r)) x m).0

  -- lent words hold the picks taken from them, whatever other relations' tuples stand before
  matches : (rs w : List ℕ) (A : List Tuple) → Once rs → ((t : Tuple) → Memᴰ t A → Memᴰ t.relation rs → ⊥) → Matches p (A ++ lent_picks p w rs) w rs
  unfolding Matches Once lent_picks is_picked
  matches [] w A o h = tt
  matches (r ∷ rs) w A o h = (
    (λ row l. T_ext (is_picked p (A ++ (relation_picks p w r ++ lent_picks p (drop (relation_words p r) w) rs)) r row) (bit_of w row) (told row l) (held row l)),
    subst (λ (F : List Tuple). Matches p F (drop (relation_words p r) w) rs) (append_assoc A (relation_picks p w r) (lent_picks p (drop (relation_words p r) w) rs))
        (matches rs (drop (relation_words p r) w) (A ++ relation_picks p w r) o.1 (λ t m k. ⊎_elim (λ a. h t a (Memᴰ.tail k)) (λ a. let (row, l, b, e) = picks_at w r t a in o.0 (Memᴰ.cast (sym (ap (λ (u : Tuple). u.relation) e)) k)) (Memᴰ.append_cases A m))),
  )
    where
      F : List Tuple
      F = A ++ (relation_picks p w r ++ lent_picks p (drop (relation_words p r) w) rs)

      told : (row : ℕ) → row < n p [] r → T (is_picked p F r row) → T (bit_of w row)
      told row l t = ⊎_elim (λ a. absurd (h (tuple_at p r row) a (Memᴰ.head refl)))
          (λ a. ⊎_elim (λ b. let (x, k, u, e) = picks_at w r (tuple_at p r row) b in subst (λ (z : ℕ). T (bit_of w z)) (sym (same_row p G r x r row k l e).1) u)
          (λ b. absurd (o.0 (lent_at rs (drop (relation_words p r) w) (tuple_at p r row) b).0))
          (Memᴰ.append_cases (relation_picks p w r) a)) (Memᴰ.append_cases A (among_mem (tuple_at p r row) F t))

      held : (row : ℕ) → row < n p [] r → T (bit_of w row) → T (is_picked p F r row)
      held row l t = mem_among (tuple_at p r row) F (Memᴰ.append_right A (Memᴰ.append_left (lent_picks p (drop (relation_words p r) w) rs) (at_picks w r row l t)))

  pub numbers_once : Once (chosen_numbers p)
  unfolding chosen_numbers
  numbers_once = once_filter (λ r. is_chosen (relation_at p r).kind) (below (length p.relations)) (once_below (length p.relations))

  -- words that are long enough and have no spare bit set are written again by the picks taken from them
  pub words_again : (w : List ℕ) → Words w → picks_length p ≤ length w → spare_word p w zero (chosen_numbers p) ≡ none → pick_words p (lent_picks p w (chosen_numbers p)) ≡ take (picks_length p) w
  unfolding picks_length
  words_again w ok l e = words_of p (lent_picks p w (chosen_numbers p)) ∙ written p (lent_picks p w (chosen_numbers p)) w zero (chosen_numbers p) ok l (matches (chosen_numbers p) w [] numbers_once (λ t m k. absurd (Memᴰ.not-nil m))) e
