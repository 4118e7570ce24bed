-- Sheets read line by line, both ways: what a text that was read says in its lines, and that lines which say it are read so.
use Rattle.std.specs.Prelude.{ℕ, ◌+◌, ◌≡◌, ◌⊎◌, Bool, true, false, ◌||◌, T, if◌then◌else◌}
use Rattle.std.proofs.Math.Path.{refl, sym, ap, subst}
use Rattle.std.proofs.Common.{◌∙◌, inl, inr, arith}
use Rattle.std.proofs.Math.Option.{Option, none, some}
use mathlib.Core.List.{List, [], ◌∷◌, ◌++◌, map, append_assoc, append-nil}
use Rattle.std.proofs.Math.ListN.{length, length-append}
use Rattle.definitions.specs.Lists.{same, option, is_empty}
use Rattle.definitions.specs.Sheet.Text.{bytes, number, split, Line, lines_from, fields, is_between, is_relation_name}
use Rattle.definitions.specs.Refusal.{Result, accepted, ◌>>=◌, read_lines}
use Rattle.definitions.specs.Sheet.Relations.{Kind, plain}
use Rattle.definitions.specs.Sheet.Sheets.{Element, Entry, rel, type, choose, every, rule, size, label, member, fact, pick, step, arity_of, every_arity_of, kind_named, choose_of}
use Rattle.definitions.specs.Sheet.Sheets.{element, elements, label_of, member_of, with_one, with_two, with_elements, entry, entry_of}
use Rattle.definitions.specs.Reply.Desk.{print_line}
use Rattle.laws.specs.Results.{accepted_eq, bind_parts, given_some}
use Rattle.laws.specs.Tuples.{same_eq}
use Rattle.laws.specs.Reader.{Holds, holds_option, holds_if, holds_none, holds_some, holds_self}
use Rattle.laws.specs.Lines.{AllWithout, joined, print_joined, LineByLine}
use Rattle.laws.specs.Told.{unsplit, fields_back}
use Rattle.demands.specs.Written.{print_then}

abbrev pub ended : ℕ → List ℕ → Line
ended at w = record { at = at; ended = true; content = w }

abbrev pub open_ended : ℕ → List ℕ → Line
open_ended at w = record { at = at; ended = false; content = w }

pub or_false : (a b : Bool) → a ≡ false → b ≡ false → (a || b) ≡ false
or_false a b e f = rw (e, f) refl

-- ---- from a sheet that was read to what its lines say: each line adds one item, and what a line said stays said
module _ {S Item : Type 0} (line : S → Line → Result S) (Inv : S → Type 0) (items_of : S → List Item) (R : S → Item → List (List ℕ) → Type 0)
    (tells : (d : S) (at : ℕ) (w : List ℕ) (m : S) → Inv d → line d (ended at w) ≡ accepted m → Inv m × ((a : Item) × (items_of m ≡ items_of d ++ (a ∷ [])) × R m a (split 9 w)))
    (later : (d : S) (at : ℕ) (w : List ℕ) (m : S) → Inv d → line d (ended at w) ≡ accepted m → (a : Item) (fs : List (List ℕ)) → R d a fs → R m a fs)
    (never : (d : S) (at : ℕ) (w : List ℕ) (m : S) → line d (open_ended at w) ≡ accepted m → ⊥) where
  pub record Was (ps : List (List ℕ)) (d e : S) : Type 0 where
    pub keeps : Inv e
    pub stays : (a : Item) (fs : List (List ℕ)) → R d a fs → R e a fs
    pub new : List Item
    pub grows : items_of e ≡ items_of d ++ new
    pub spelled : LineByLine (R e) new (unsplit 10 ps)

  none_new : (ps : List (List ℕ)) (d e : S) → Inv d → unsplit 10 ps ≡ [] → accepted d ≡ accepted e → Was ps d e
  unfolding LineByLine
  none_new ps d e D u h =
      let q = accepted_eq d e h in
      record { keeps = subst Inv q D; stays = λ a fs r. subst (λ (x : S). R x a fs) q r; new = []; grows = ap items_of (sym q) ∙ sym (append-nil (items_of d)); spelled = u }

  line_back : (w rest : List ℕ) → w ++ (10 ∷ rest) ≡ print_line (split 9 w) ++ rest
  line_back w rest = ap (λ (x : List ℕ). x ++ (10 ∷ rest)) (sym (fields_back w (split 9 w) refl)) ∙ sym (append_assoc (joined (split 9 w)) (10 ∷ []) rest) ∙ ap (λ (x : List ℕ). x ++ rest) (sym (print_joined (split 9 w)))

  pub lines_told : (ps : List (List ℕ)) (d e : S) (at : ℕ) → Inv d → read_lines line d (lines_from at ps) ≡ accepted e → Was ps d e
  unfolding lines_from read_lines unsplit LineByLine is_empty
  lines_told [] d e at D h = none_new [] d e D refl h
  lines_told (w ∷ []) d e at D h = last w h
    where
      last : (w : List ℕ) → read_lines line d (if is_empty w then [] else open_ended at w ∷ []) ≡ accepted e → Was (w ∷ []) d e
      last [] h = none_new ([] ∷ []) d e D refl h
      last (b ∷ w) h = let (m, f, g) = bind_parts (line d (open_ended at (b ∷ w))) _ e h in absurd (never d at (b ∷ w) m f)
  lines_told (w ∷ q ∷ qs) d e at D h =
      let (m, f, g) = bind_parts (line d (ended at w)) _ e h in
      let (M, (a, n, r)) = tells d at w m D f in
      let W = lines_told (q ∷ qs) m e (at + length w + 1) M g in
      record {
        keeps = W.keeps;
        stays = λ b fs s. W.stays b fs (later d at w m D f b fs s);
        new = a ∷ W.new;
        grows = W.grows ∙ ap (λ (l : List Item). l ++ W.new) n ∙ append_assoc (items_of d) (a ∷ []) W.new;
        spelled = (split 9 w, W.stays a (split 9 w) r, (unsplit 10 (q ∷ qs), line_back w (unsplit 10 (q ∷ qs)), W.spelled));
      }

-- ---- from lines that say it to the sheet that is read: a run of items of one sort
module _ {S A Item : Type 0} (line : S → Line → Result S) (R : Item → List (List ℕ) → Type 0) (item : A → Item) (put : List A → S) (all : List A)
    (reads : (acc : List A) (a : A) (more : List A) → acc ++ (a ∷ more) ≡ all → (at : ℕ) (fs : List (List ℕ)) → R (item a) fs → (line (put acc) (ended at (joined fs)) ≡ accepted (put (acc ++ (a ∷ [])))) × AllWithout 10 fs) where
  pub record Reads (acc : List A) (items : List Item) (at : ℕ) (text : List ℕ) : Type 0 where
    pub next : ℕ
    pub rest : List ℕ
    pub place : next + length rest ≡ at + length text
    pub left : LineByLine R items rest
    pub same_reading : read_lines line (put acc) (lines_from at (split 10 text)) ≡ read_lines line (put all) (lines_from next (split 10 rest))

  pub run_read : (new acc : List A) (items : List Item) (at : ℕ) (text : List ℕ) → acc ++ new ≡ all → LineByLine R (map item new ++ items) text → Reads acc items at text
  unfolding LineByLine ◌>>=◌
  run_read [] acc items at text e h = record { next = at; rest = text; place = refl; left = h; same_reading = ap (λ (l : List A). read_lines line (put l) (lines_from at (split 10 text))) (sym (append-nil acc) ∙ e) }
  run_read (a ∷ new) acc items at text e (fs, r, (tail, q, h)) =
      let (f, w) = reads acc a new e at fs r in
      let W = run_read new (acc ++ (a ∷ [])) items (at + length (joined fs) + 1) tail (append_assoc acc (a ∷ []) new ∙ e) h in
      let l : length text ≡ length (joined fs) + 1 + length tail = ap length (q ∙ ap (λ (x : List ℕ). x ++ tail) (print_joined fs)) ∙ length-append (joined fs ++ (10 ∷ [])) tail ∙ ap (λ (x : ℕ). x + length tail) (length-append (joined fs) (10 ∷ [])) in
      record {
        next = W.next;
        rest = W.rest;
        place = omega (arith, W.place, l);
        left = W.left;
        same_reading = ap (λ (x : List ℕ). read_lines line (put acc) (lines_from at (split 10 x))) q ∙ print_then line (put acc) at fs tail w
            ∙ ap (λ (x : Result S). x >>= λ s'. read_lines line s' (lines_from (at + length (joined fs) + 1) (split 10 tail))) f ∙ W.same_reading;
      }

-- ---- what the fields of an entry are
-- after `choose`: a name and an arity, a name and a function kind, or these and two types
unfoldable pub Chosen : List (List ℕ) → List ℕ → ℕ → Kind → List (List ℕ) → Type 0
Chosen gs name a k types =
    ((f : List ℕ) × (gs ≡ name ∷ f ∷ []) × (kind_named f ≡ none) × (arity_of f ≡ some a) × (k ≡ plain) × (types ≡ []))
    ⊎ (((f : List ℕ) × (gs ≡ name ∷ f ∷ []) × (kind_named f ≡ some k) × (a ≡ 2) × (types ≡ []))
    ⊎ ((f : List ℕ) × (t : List ℕ) × (u : List ℕ) × (gs ≡ name ∷ f ∷ t ∷ u ∷ []) × (kind_named f ≡ some k) × (a ≡ 2) × (types ≡ t ∷ u ∷ [])))

unfoldable pub Said : List (List ℕ) → Entry → Type 0
Said fs (rel name a) = (f : List ℕ) × (fs ≡ bytes "rel" ∷ name ∷ f ∷ []) × (arity_of f ≡ some a)
Said fs (type name) = fs ≡ bytes "type" ∷ name ∷ []
Said fs (choose name a k types) = (gs : List (List ℕ)) × (fs ≡ bytes "choose" ∷ gs) × Chosen gs name a k types
Said fs (every name a) = (f : List ℕ) × (fs ≡ bytes "every" ∷ name ∷ f ∷ []) × (every_arity_of f ≡ some a)
Said fs (rule f) = fs ≡ bytes "rule" ∷ f ∷ []
Said fs (size n) = (f : List ℕ) × (fs ≡ bytes "size" ∷ f ∷ []) × (number f ≡ some n)
Said fs (label x name) = (f : List ℕ) × (fs ≡ bytes "label" ∷ f ∷ name ∷ []) × (element f ≡ some x)
Said fs (member t x) = (f : List ℕ) × (fs ≡ bytes "member" ∷ t ∷ f ∷ []) × (element f ≡ some x)
Said fs (fact name es) = (gs : List (List ℕ)) × (fs ≡ bytes "fact" ∷ name ∷ gs) × (elements gs ≡ some es) × T (is_between 1 3 (length gs))
Said fs (pick name es) = Unit {0}
Said fs (step k) = Unit {0}

-- after the record word: one field, two fields, a name and elements
one_said : (w : List ℕ) (make : List ℕ → Option Entry) (fs : List (List ℕ)) → ((f : List ℕ) → Holds (Said (w ∷ f ∷ [])) (make f)) → Holds (Said (w ∷ fs)) (with_one make fs)
unfolding with_one
one_said w make [] h = holds_none (Said (w ∷ []))
one_said w make (f ∷ []) h = h f
one_said w make (f ∷ g ∷ fs) h = holds_none (Said (w ∷ f ∷ g ∷ fs))

two_said : (w : List ℕ) (make : List ℕ → List ℕ → Option Entry) (fs : List (List ℕ)) → ((f g : List ℕ) → Holds (Said (w ∷ f ∷ g ∷ [])) (make f g)) → Holds (Said (w ∷ fs)) (with_two make fs)
unfolding with_two
two_said w make [] h = holds_none (Said (w ∷ []))
two_said w make (f ∷ []) h = holds_none (Said (w ∷ f ∷ []))
two_said w make (f ∷ g ∷ []) h = h f g
two_said w make (f ∷ g ∷ k ∷ fs) h = holds_none (Said (w ∷ f ∷ g ∷ k ∷ fs))

elements_said : (w : List ℕ) (make : List ℕ → List Element → Entry) (fs : List (List ℕ)) → ((f : List ℕ) (gs : List (List ℕ)) (es : List Element) → elements gs ≡ some es → T (is_between 1 3 (length gs)) → Said (w ∷ f ∷ gs) (make f es)) → Holds (Said (w ∷ fs)) (with_elements make fs)
unfolding with_elements
elements_said w make [] h = holds_none (Said (w ∷ []))
elements_said w make (f ∷ gs) h = holds_if (Said (w ∷ f ∷ gs)) (is_between 1 3 (length gs)) _ none
    (λ b. holds_option (λ es. elements gs ≡ some es) (Said (w ∷ f ∷ gs)) (elements gs) _ (holds_self (elements gs)) (λ es e. holds_some (Said (w ∷ f ∷ gs)) (make f es) (h f gs es e b)))
    (holds_none (Said (w ∷ f ∷ gs)))

choose_said : (w : List ℕ) (fs : List (List ℕ)) → w ≡ bytes "choose" → Holds (Said (w ∷ fs)) (choose_of fs)
unfolding choose_of Said Chosen option
choose_said w [] q = holds_none (Said (w ∷ []))
choose_said w (name ∷ []) q = holds_none (Said (w ∷ name ∷ []))
choose_said w (name ∷ f ∷ []) q = by_kind (kind_named f) refl
  where
    by_arity : kind_named f ≡ none → (o : Option ℕ) → arity_of f ≡ o → Holds (Said (w ∷ name ∷ f ∷ [])) (option o none (λ a. some (choose name a plain [])))
    by_arity e none r = holds_none (Said (w ∷ name ∷ f ∷ []))
    by_arity e (some a) r = holds_some (Said (w ∷ name ∷ f ∷ [])) (choose name a plain []) (name ∷ f ∷ [], ap (λ (x : List ℕ). x ∷ name ∷ f ∷ []) q, inl (f, refl, e, r, refl, refl))

    by_kind : (o : Option Kind) → kind_named f ≡ o → Holds (Said (w ∷ name ∷ f ∷ [])) (option o (option (arity_of f) none (λ a. some (choose name a plain []))) (λ k. some (choose name 2 k [])))
    by_kind none e = by_arity e (arity_of f) refl
    by_kind (some k) e = holds_some (Said (w ∷ name ∷ f ∷ [])) (choose name 2 k []) (name ∷ f ∷ [], ap (λ (x : List ℕ). x ∷ name ∷ f ∷ []) q, inr (inl (f, refl, e, refl, refl)))
choose_said w (name ∷ f ∷ t ∷ []) q = holds_none (Said (w ∷ name ∷ f ∷ t ∷ []))
choose_said w (name ∷ f ∷ t ∷ u ∷ []) q = holds_option (λ k. kind_named f ≡ some k) (Said (w ∷ name ∷ f ∷ t ∷ u ∷ [])) (kind_named f) _ (holds_self (kind_named f))
    (λ k e. holds_some (Said (w ∷ name ∷ f ∷ t ∷ u ∷ [])) (choose name 2 k (t ∷ u ∷ [])) (name ∷ f ∷ t ∷ u ∷ [], ap (λ (x : List ℕ). x ∷ name ∷ f ∷ t ∷ u ∷ []) q, inr (inr (f, t, u, refl, e, refl, refl))))
choose_said w (name ∷ f ∷ t ∷ u ∷ v ∷ fs) q = holds_none (Said (w ∷ name ∷ f ∷ t ∷ u ∷ v ∷ fs))

-- each record by its word
module _ (w : List ℕ) where
  headed : (word : List ℕ) (fs : List (List ℕ)) → T (same w word) → w ∷ fs ≡ word ∷ fs
  headed word fs t = ap (λ (x : List ℕ). x ∷ fs) (same_eq w word t)

  rel_said : (fs : List (List ℕ)) → T (same w (bytes "rel")) → Holds (Said (w ∷ fs)) (with_two (λ name a. option (arity_of a) none (λ k. some (rel name k))) fs)
  unfolding Said
  rel_said fs t = two_said w _ fs (λ name f. holds_option (λ a. arity_of f ≡ some a) (Said (w ∷ name ∷ f ∷ [])) (arity_of f) _ (holds_self (arity_of f)) (λ a e. holds_some (Said (w ∷ name ∷ f ∷ [])) (rel name a) (f, headed (bytes "rel") (name ∷ f ∷ []) t, e)))

  every_said : (fs : List (List ℕ)) → T (same w (bytes "every")) → Holds (Said (w ∷ fs)) (with_two (λ name a. option (every_arity_of a) none (λ k. some (every name k))) fs)
  unfolding Said
  every_said fs t = two_said w _ fs (λ name f. holds_option (λ a. every_arity_of f ≡ some a) (Said (w ∷ name ∷ f ∷ [])) (every_arity_of f) _ (holds_self (every_arity_of f))
      (λ a e. holds_some (Said (w ∷ name ∷ f ∷ [])) (every name a) (f, headed (bytes "every") (name ∷ f ∷ []) t, e)))

  type_said : (fs : List (List ℕ)) → T (same w (bytes "type")) → Holds (Said (w ∷ fs)) (with_one (λ f. some (type f)) fs)
  unfolding Said
  type_said fs t = one_said w _ fs (λ f. holds_some (Said (w ∷ f ∷ [])) (type f) (headed (bytes "type") (f ∷ []) t))

  rule_said : (fs : List (List ℕ)) → T (same w (bytes "rule")) → Holds (Said (w ∷ fs)) (with_one (λ f. some (rule f)) fs)
  unfolding Said
  rule_said fs t = one_said w _ fs (λ f. holds_some (Said (w ∷ f ∷ [])) (rule f) (headed (bytes "rule") (f ∷ []) t))

  size_said : (fs : List (List ℕ)) → T (same w (bytes "size")) → Holds (Said (w ∷ fs)) (with_one (λ f. option (number f) none (λ n. some (size n))) fs)
  unfolding Said
  size_said fs t = one_said w _ fs (λ f. holds_option (λ n. number f ≡ some n) (Said (w ∷ f ∷ [])) (number f) _ (holds_self (number f)) (λ n e. holds_some (Said (w ∷ f ∷ [])) (size n) (f, headed (bytes "size") (f ∷ []) t, e)))

  label_said : (fs : List (List ℕ)) → T (same w (bytes "label")) → Holds (Said (w ∷ fs)) (with_two label_of fs)
  unfolding Said label_of
  label_said fs t = two_said w _ fs (λ f name. holds_if (Said (w ∷ f ∷ name ∷ [])) (is_relation_name name) _ none
      (λ b. holds_option (λ x. element f ≡ some x) (Said (w ∷ f ∷ name ∷ [])) (element f) _ (holds_self (element f)) (λ x e. holds_some (Said (w ∷ f ∷ name ∷ [])) (label x name) (f, headed (bytes "label") (f ∷ name ∷ []) t, e)))
      (holds_none (Said (w ∷ f ∷ name ∷ []))))

  member_said : (fs : List (List ℕ)) → T (same w (bytes "member")) → Holds (Said (w ∷ fs)) (with_two member_of fs)
  unfolding Said member_of
  member_said fs t = two_said w _ fs (λ name f. holds_option (λ x. element f ≡ some x) (Said (w ∷ name ∷ f ∷ [])) (element f) _ (holds_self (element f)) (λ x e. holds_some (Said (w ∷ name ∷ f ∷ [])) (member name x) (f, headed (bytes "member") (name ∷ f ∷ []) t, e)))

  fact_said : (fs : List (List ℕ)) → T (same w (bytes "fact")) → Holds (Said (w ∷ fs)) (with_elements fact fs)
  unfolding Said
  fact_said fs t = elements_said w fact fs (λ f gs es e b. (gs, headed (bytes "fact") (f ∷ gs) t, e, b))

  pick_said : (fs : List (List ℕ)) → Holds (Said (w ∷ fs)) (with_elements pick fs)
  unfolding Said
  pick_said fs = elements_said w pick fs (λ f gs es e b. tt)

  step_said : (fs : List (List ℕ)) → Holds (Said (w ∷ fs)) (with_one (λ f. option (number f) none (λ k. some (step k))) fs)
  unfolding Said
  step_said fs = one_said w _ fs (λ f. holds_option (λ n. number f ≡ some n) (Said (w ∷ f ∷ [])) (number f) _ (holds_self (number f)) (λ n e. holds_some (Said (w ∷ f ∷ [])) (step n) tt))

entry_said : (fs : List (List ℕ)) → Holds (Said fs) (entry fs)
unfolding entry
entry_said [] = holds_none (Said [])
entry_said (w ∷ fs) =
    holds_if (Said (w ∷ fs)) (same w (bytes "rel")) _ _ (rel_said w fs)
    (holds_if (Said (w ∷ fs)) (same w (bytes "type")) _ _ (type_said w fs)
    (holds_if (Said (w ∷ fs)) (same w (bytes "choose")) _ _ (λ t. choose_said w fs (same_eq w (bytes "choose") t))
    (holds_if (Said (w ∷ fs)) (same w (bytes "every")) _ _ (every_said w fs)
    (holds_if (Said (w ∷ fs)) (same w (bytes "rule")) _ _ (rule_said w fs)
    (holds_if (Said (w ∷ fs)) (same w (bytes "size")) _ _ (size_said w fs)
    (holds_if (Said (w ∷ fs)) (same w (bytes "label")) _ _ (label_said w fs)
    (holds_if (Said (w ∷ fs)) (same w (bytes "member")) _ _ (member_said w fs)
    (holds_if (Said (w ∷ fs)) (same w (bytes "fact")) _ _ (fact_said w fs)
    (holds_if (Said (w ∷ fs)) (same w (bytes "pick")) _ _ (λ t. pick_said w fs)
    (holds_if (Said (w ∷ fs)) (same w (bytes "step")) _ _ (λ t. step_said w fs)
    (holds_none (Said (w ∷ fs)))))))))))))

pub line_said : (at : ℕ) (w : List ℕ) (e : Entry) → entry_of (ended at w) ≡ accepted e → Said (split 9 w) e
unfolding entry_of fields Holds
line_said at w e h = subst (Holds (Said (split 9 w))) (given_some (entry (split 9 w)) 2 at e h) (entry_said (split 9 w))
