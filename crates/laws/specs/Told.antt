-- What a sheet of steps or picks that was read tells of its text: line by line it says them.
use Prim.Native.Nat.{ℕ, zero, ◌+◌, ◌-◌, ◌^◌, ◌≤◌, ◌<◌}
use Rattle.std.specs.Prelude.{◌≡◌, Bool, true, false, not, ◌&&◌, ltb, get_or, if◌then◌else◌}
use Rattle.std.proofs.Math.Path.{refl, sym, ap}
use Rattle.std.proofs.Common.{ap₂, subst, subst₂, ◌∙◌}
use Rattle.std.proofs.Math.Option.{Option, none, some}
use mathlib.Core.List.{List, [], ◌∷◌, ◌++◌, append_assoc, append-nil, Memᴰ}
use native.Mathlib.Omega.{arith}
use Rattle.std.proofs.Math.Dec.{T, eqb}
use Rattle.std.proofs.Math.ListN.{length}
use borrow.Author.Tests.{eqb-true, ltb-false, not-false}
use Rattle.definitions.specs.Limits.{text_limit}
use Rattle.definitions.specs.Lists.{all, same, option, flat_map, position, is_empty}
use Rattle.definitions.specs.Sheet.Text.{bytes, decimal, number, on_first, split, Line, lines, lines_from, fields, is_between, is_relation_name}
use Rattle.definitions.specs.Refusal.{Result, accepted, refuse_if, given, read_lines, read_text}
use Rattle.definitions.specs.Sheet.Relations.{Kind, plain, Relation, Tuple, is_among}
use Rattle.definitions.specs.Sheet.Sheets.{Element, Entry, rel, type, choose, every, rule, size, label, member, fact, pick, step, arity_of, every_arity_of, kind_named, choose_of}
use Rattle.definitions.specs.Sheet.Sheets.{element, elements, label_of, member_of, with_one, with_two, with_elements, entry, entry_of, Label, elements_of}
use Rattle.definitions.specs.Sheet.Sheets.{is_in_range, used, add_tuple, add_to_picks, picks_line, read_picks, add_to_steps, steps_line, read_steps}
use Rattle.definitions.specs.Reply.Desk.{print_line, step_line}
use Rattle.definitions.specs.Reply.Demand.{is_accepted}
use Rattle.laws.specs.Booleans.{T_and_l, T_of}
use Rattle.laws.specs.Results.{accepted_eq, bind_parts, given_some, not_refused, refused_accepted}
use Rattle.laws.specs.Lists.{none_some, some_eq}
use Rattle.laws.specs.Tuples.{same_eq}
use Rattle.laws.specs.Numbers.{no_relation}
use Rattle.laws.specs.Reader.{Holds, holds_option, holds_if, holds_none, holds_some, holds_self, position_holds}
use Rattle.laws.specs.Decimals.{decimal_number}
use Rattle.laws.specs.Lines.{split_cons, joined, print_joined, LineByLine, line_by_line}
use Rattle.laws.specs.Labels.{LabelsFit}
use Rattle.laws.specs.Spelling.{Spelled, spelled_of}

-- ---- pieces put together again
unfoldable pub unsplit : ℕ → List (List ℕ) → List ℕ
unsplit sep [] = []
unsplit sep (p ∷ []) = p
unsplit sep (p ∷ q ∷ qs) = p ++ (sep ∷ unsplit sep (q ∷ qs))

unsplit_first : (sep b : ℕ) (q : List ℕ) (qs : List (List ℕ)) → unsplit sep ((b ∷ q) ∷ qs) ≡ b ∷ unsplit sep (q ∷ qs)
unfolding unsplit
unsplit_first sep b q [] = refl
unsplit_first sep b q (r ∷ qs) = refl

pub split_back : (sep : ℕ) (t : List ℕ) → unsplit sep (split sep t) ≡ t
unfolding split unsplit on_first
split_back sep [] = refl
split_back sep (b ∷ t) = from_this (split_cons sep t) (eqb b sep) refl (split_back sep t)
  where
    from_this : ((q : List ℕ) × (qs : List (List ℕ)) × (split sep t ≡ q ∷ qs)) → (e : Bool) → eqb b sep ≡ e → unsplit sep (split sep t) ≡ t → unsplit sep (if e then [] ∷ split sep t else on_first b (split sep t)) ≡ b ∷ t
    from_this (q, qs, f) true e h = ap (λ (l : List (List ℕ)). unsplit sep ([] ∷ l)) f ∙ ap₂ ◌∷◌ (sym (eqb-true b sep e)) (ap (unsplit sep) (sym f) ∙ h)
    from_this (q, qs, f) false e h = ap (λ (l : List (List ℕ)). unsplit sep (on_first b l)) f ∙ unsplit_first sep b q qs ∙ ap (λ (l : List ℕ). b ∷ l) (ap (unsplit sep) (sym f) ∙ h)

joined_back : (fs : List (List ℕ)) → joined fs ≡ unsplit 9 fs
unfolding joined unsplit
joined_back [] = refl
joined_back (f ∷ []) = refl
joined_back (f ∷ g ∷ fs) = ap (λ (t : List ℕ). f ++ (9 ∷ t)) (joined_back (g ∷ fs))

-- ---- the fields of an entry: the record word, and of a `fact` or `pick` line the name and the elements' fields
abbrev pub Tells : List (List ℕ) → List ℕ → List ℕ → List Element → Type 0
Tells fs word name es = (gs : List (List ℕ)) × (fs ≡ word ∷ name ∷ gs) × (elements gs ≡ some es) × T (is_between 1 3 (length gs))

unfoldable pub Says : List (List ℕ) → Entry → Type 0
Says fs (rel name a) = Unit {0}
Says fs (type name) = Unit {0}
Says fs (choose name a k types) = Unit {0}
Says fs (every name a) = Unit {0}
Says fs (rule f) = Unit {0}
Says fs (size n) = (fs ≡ bytes "size" ∷ decimal n ∷ []) × (n < 10 ^ 7)
Says fs (label x name) = (f : List ℕ) × (fs ≡ bytes "label" ∷ f ∷ name ∷ [])
Says fs (member t x) = (f : List ℕ) × (fs ≡ bytes "member" ∷ t ∷ f ∷ []) × (element f ≡ some x)
Says fs (fact name es) = Tells fs (bytes "fact") name es
Says fs (pick name es) = Tells fs (bytes "pick") name es
Says fs (step k) = (fs ≡ bytes "step" ∷ decimal k ∷ []) × (k < 10 ^ 7)

-- a record of one number
number_told : (make : ℕ → Entry) (word w : List ℕ) (fs : List (List ℕ)) → T (same w word) → ((k : ℕ) → (w ∷ fs ≡ word ∷ decimal k ∷ []) × (k < 10 ^ 7) → Says (w ∷ fs) (make k)) → Holds (Says (w ∷ fs)) (with_one (λ f. option (number f) none (λ k. some (make k))) fs)
unfolding with_one
number_told make word w [] t h = holds_none (Says (w ∷ []))
number_told make word w (f ∷ []) t h = holds_option (λ k. number f ≡ some k) (Says (w ∷ f ∷ [])) (number f) _ (holds_self (number f))
    (λ k e. holds_some (Says (w ∷ f ∷ [])) (make k) (h k (let d = decimal_number f k e in (ap₂ (λ (x y : List ℕ). x ∷ y ∷ []) (same_eq w word t) d.0, d.1))))
number_told make word w (f ∷ g ∷ fs) t h = holds_none (Says (w ∷ f ∷ g ∷ fs))

-- a record of a name and elements
elements_told : (make : List ℕ → List Element → Entry) (word w : List ℕ) (fs : List (List ℕ)) → T (same w word) → ((name : List ℕ) (es : List Element) → Tells (w ∷ fs) word name es → Says (w ∷ fs) (make name es)) → Holds (Says (w ∷ fs)) (with_elements make fs)
unfolding with_elements
elements_told make word w [] t h = holds_none (Says (w ∷ []))
elements_told make word w (f ∷ fs) t h = holds_if (Says (w ∷ f ∷ fs)) (is_between 1 3 (length fs)) _ none
    (λ b. holds_option (λ es. elements fs ≡ some es) (Says (w ∷ f ∷ fs)) (elements fs) _ (holds_self (elements fs)) (λ es e. holds_some (Says (w ∷ f ∷ fs)) (make f es) (h f es (fs, ap (λ (x : List ℕ). x ∷ f ∷ fs) (same_eq w word t), e, b))))
    (holds_none (Says (w ∷ f ∷ fs)))

label_told : (w : List ℕ) (fs : List (List ℕ)) → T (same w (bytes "label")) → Holds (Says (w ∷ fs)) (with_two label_of fs)
unfolding with_two label_of Says
label_told w [] t = holds_none (Says (w ∷ []))
label_told w (f ∷ []) t = holds_none (Says (w ∷ f ∷ []))
label_told w (f ∷ name ∷ []) t = holds_if (Says (w ∷ f ∷ name ∷ [])) (is_relation_name name) _ none
    (λ b. holds_option (λ x. element f ≡ some x) (Says (w ∷ f ∷ name ∷ [])) (element f) _ (holds_self (element f)) (λ x e. holds_some (Says (w ∷ f ∷ name ∷ [])) (label x name) (f, ap (λ (y : List ℕ). y ∷ f ∷ name ∷ []) (same_eq w (bytes "label") t))))
    (holds_none (Says (w ∷ f ∷ name ∷ [])))
label_told w (f ∷ name ∷ g ∷ fs) t = holds_none (Says (w ∷ f ∷ name ∷ g ∷ fs))

member_told : (w : List ℕ) (fs : List (List ℕ)) → T (same w (bytes "member")) → Holds (Says (w ∷ fs)) (with_two member_of fs)
unfolding with_two member_of Says
member_told w [] t = holds_none (Says (w ∷ []))
member_told w (name ∷ []) t = holds_none (Says (w ∷ name ∷ []))
member_told w (name ∷ f ∷ []) t = holds_option (λ x. element f ≡ some x) (Says (w ∷ name ∷ f ∷ [])) (element f) _ (holds_self (element f))
    (λ x e. holds_some (Says (w ∷ name ∷ f ∷ [])) (member name x) (f, ap (λ (y : List ℕ). y ∷ name ∷ f ∷ []) (same_eq w (bytes "member") t), e))
member_told w (name ∷ f ∷ g ∷ fs) t = holds_none (Says (w ∷ name ∷ f ∷ g ∷ fs))

-- the other records say nothing here
two_told : (fs : List (List ℕ)) (make : List ℕ → List ℕ → Option Entry) (gs : List (List ℕ)) → ((f g : List ℕ) → Holds (Says fs) (make f g)) → Holds (Says fs) (with_two make gs)
unfolding with_two
two_told fs make [] h = holds_none (Says fs)
two_told fs make (f ∷ []) h = holds_none (Says fs)
two_told fs make (f ∷ g ∷ []) h = h f g
two_told fs make (f ∷ g ∷ k ∷ gs) h = holds_none (Says fs)

one_told : (fs : List (List ℕ)) (make : List ℕ → Option Entry) (gs : List (List ℕ)) → ((f : List ℕ) → Holds (Says fs) (make f)) → Holds (Says fs) (with_one make gs)
unfolding with_one
one_told fs make [] h = holds_none (Says fs)
one_told fs make (f ∷ []) h = h f
one_told fs make (f ∷ g ∷ gs) h = holds_none (Says fs)

choose_told : (fs gs : List (List ℕ)) → Holds (Says fs) (choose_of gs)
unfolding choose_of Says option
choose_told fs [] = holds_none (Says fs)
choose_told fs (name ∷ []) = holds_none (Says fs)
choose_told fs (name ∷ f ∷ []) = by_option (kind_named f)
  where
    by_option : (o : Option Kind) → Holds (Says fs) (option o (option (arity_of f) none (λ a. some (choose name a plain []))) (λ k. some (choose name 2 k [])))
    by_option none = holds_option (λ a. arity_of f ≡ some a) (Says fs) (arity_of f) _ (holds_self (arity_of f)) (λ a e. holds_some (Says fs) (choose name a plain []) tt)
    by_option (some k) = holds_some (Says fs) (choose name 2 k []) tt
choose_told fs (name ∷ f ∷ t ∷ []) = holds_none (Says fs)
choose_told fs (name ∷ f ∷ t ∷ u ∷ []) = holds_option (λ k. kind_named f ≡ some k) (Says fs) (kind_named f) _ (holds_self (kind_named f)) (λ k e. holds_some (Says fs) (choose name 2 k (t ∷ u ∷ [])) tt)
choose_told fs (name ∷ f ∷ t ∷ u ∷ v ∷ gs) = holds_none (Says fs)

entry_told : (fs : List (List ℕ)) → Holds (Says fs) (entry fs)
unfolding entry Says
entry_told [] = holds_none (Says [])
entry_told (w ∷ fs) =
    holds_if (Says (w ∷ fs)) (same w (bytes "rel")) _ _ (λ t. two_told (w ∷ fs) _ fs (λ f g. holds_option (λ a. arity_of g ≡ some a) (Says (w ∷ fs)) (arity_of g) _ (holds_self (arity_of g)) (λ a e. holds_some (Says (w ∷ fs)) (rel f a) tt)))
    (holds_if (Says (w ∷ fs)) (same w (bytes "type")) _ _ (λ t. one_told (w ∷ fs) _ fs (λ f. holds_some (Says (w ∷ fs)) (type f) tt))
    (holds_if (Says (w ∷ fs)) (same w (bytes "choose")) _ _ (λ t. choose_told (w ∷ fs) fs)
    (holds_if (Says (w ∷ fs)) (same w (bytes "every")) _ _ (λ t. two_told (w ∷ fs) _ fs (λ f g. holds_option (λ a. every_arity_of g ≡ some a) (Says (w ∷ fs)) (every_arity_of g) _ (holds_self (every_arity_of g)) (λ a e. holds_some (Says (w ∷ fs)) (every f a) tt)))
    (holds_if (Says (w ∷ fs)) (same w (bytes "rule")) _ _ (λ t. one_told (w ∷ fs) _ fs (λ f. holds_some (Says (w ∷ fs)) (rule f) tt))
    (holds_if (Says (w ∷ fs)) (same w (bytes "size")) _ _ (λ t. number_told size (bytes "size") w fs t (λ k h. h))
    (holds_if (Says (w ∷ fs)) (same w (bytes "label")) _ _ (λ t. label_told w fs t)
    (holds_if (Says (w ∷ fs)) (same w (bytes "member")) _ _ (λ t. member_told w fs t)
    (holds_if (Says (w ∷ fs)) (same w (bytes "fact")) _ _ (λ t. elements_told fact (bytes "fact") w fs t (λ name es h. h))
    (holds_if (Says (w ∷ fs)) (same w (bytes "pick")) _ _ (λ t. elements_told pick (bytes "pick") w fs t (λ name es h. h))
    (holds_if (Says (w ∷ fs)) (same w (bytes "step")) _ _ (λ t. number_told step (bytes "step") w fs t (λ k h. h))
    (holds_none (Says (w ∷ fs)))))))))))))

holds_told : {A : Type 0} (P : A → Type 0) (o : Option A) (a : A) → o ≡ some a → Holds P o → P a
unfolding Holds
holds_told P o a e h = subst (Holds P) e h

-- an ended line's entry, and that a line that is not ended has none
pub line_told : (at : ℕ) (w : List ℕ) (e : Entry) → entry_of (record { at = at; ended = true; content = w }) ≡ accepted e → Says (split 9 w) e
unfolding entry_of fields
line_told at w e h = holds_told (Says (split 9 w)) (entry (split 9 w)) e (given_some (entry (split 9 w)) 2 at e h) (entry_told (split 9 w))

pub open_told : (at : ℕ) (w : List ℕ) (e : Entry) → entry_of (record { at = at; ended = false; content = w }) ≡ accepted e → ⊥
unfolding entry_of given is_accepted
open_told at w e h = refused_accepted h

pub fields_back : (w : List ℕ) (fs : List (List ℕ)) → split 9 w ≡ fs → joined fs ≡ w
fields_back w fs e = joined_back fs ∙ ap (unsplit 9) (sym e) ∙ split_back 9 w

-- an ended line and what follows it
line_back : (w rest : List ℕ) → w ++ (10 ∷ rest) ≡ print_line (split 9 w) ++ rest
line_back w rest = ap (λ (x : List ℕ). x ++ (10 ∷ rest)) (sym (fields_back w (split 9 w) refl)) ∙ sym (append_assoc (joined (split 9 w)) (10 ∷ []) rest) ∙ ap (λ (x : List ℕ). x ++ rest) (sym (print_joined (split 9 w)))

-- ---- sheets whose lines each add one thing
module _ {A : Type 0} (line : List A → Line → Result (List A)) (R : A → List (List ℕ) → Type 0)
    (tells : (acc : List A) (at : ℕ) (w : List ℕ) (m : List A) → line acc (record { at = at; ended = true; content = w }) ≡ accepted m → (a : A) × (m ≡ acc ++ (a ∷ [])) × R a (split 9 w))
    (never : (acc : List A) (at : ℕ) (w : List ℕ) (m : List A) → line acc (record { at = at; ended = false; content = w }) ≡ accepted m → ⊥) where
  abbrev Was : List (List ℕ) → List A → List A → Type 0
  Was ps acc s = (new : List A) × (s ≡ acc ++ new) × LineByLine R new (unsplit 10 ps)

  none_new : (ps : List (List ℕ)) (acc s : List A) → unsplit 10 ps ≡ [] → accepted acc ≡ accepted s → Was ps acc s
  unfolding LineByLine
  none_new ps acc s u e = ([], sym (accepted_eq acc s e) ∙ sym (append-nil acc), u)

  lines_told : (ps : List (List ℕ)) (acc s : List A) (at : ℕ) → read_lines line acc (lines_from at ps) ≡ accepted s → Was ps acc s
  unfolding lines_from read_lines unsplit LineByLine is_empty
  lines_told [] acc s at e = none_new [] acc s refl e
  lines_told (w ∷ []) acc s at e = last w e
    where
      last : (w : List ℕ) → read_lines line acc (if is_empty w then [] else record { at = at; ended = false; content = w } ∷ []) ≡ accepted s → Was (w ∷ []) acc s
      last [] e = none_new ([] ∷ []) acc s refl e
      last (b ∷ w) e = let (m, f, g) = bind_parts (line acc (record { at = at; ended = false; content = b ∷ w })) _ s e in absurd (never acc at (b ∷ w) m f)
  lines_told (w ∷ q ∷ qs) acc s at e =
      let (m, f, g) = bind_parts (line acc (record { at = at; ended = true; content = w })) _ s e in
      let (a, n, r) = tells acc at w m f in
      let (new, k, h) = lines_told (q ∷ qs) m s (at + length w + 1) g in (
        a ∷ new,
        k ∙ ap (λ (l : List A). l ++ new) n ∙ append_assoc acc (a ∷ []) new,
        (split 9 w, r, (unsplit 10 (q ∷ qs), line_back w (unsplit 10 (q ∷ qs)), h)),
      )

  pub text_told : (text : List ℕ) (s : List A) → read_text line [] text ≡ accepted s → LineByLine R s text × (length text ≤ text_limit)
  unfolding read_text lines
  text_told text s e =
      let (u, f, g) = bind_parts (refuse_if (ltb text_limit (length text)) 1 zero) _ s e in
      let (new, k, t) = lines_told (split 10 text) [] s zero g in
      (subst₂ (λ (l : List A) (x : List ℕ). LineByLine R l x) (sym k) (split_back 10 text) t, ltb-false text_limit (length text) (not_refused (ltb text_limit (length text)) 1 zero u f))

-- ---- steps
steps_add : (acc : List ℕ) (at : ℕ) (fs : List (List ℕ)) (e : Entry) (m : List ℕ) → Says fs e → add_to_steps acc at e ≡ accepted m → (k : ℕ) × (m ≡ acc ++ (k ∷ [])) × ((fs ≡ bytes "step" ∷ decimal k ∷ []) × (k < 10 ^ 7))
unfolding add_to_steps Says is_accepted
steps_add acc at fs (rel name a) m s e = absurd (refused_accepted e)
steps_add acc at fs (type name) m s e = absurd (refused_accepted e)
steps_add acc at fs (choose name a k types) m s e = absurd (refused_accepted e)
steps_add acc at fs (every name a) m s e = absurd (refused_accepted e)
steps_add acc at fs (rule f) m s e = absurd (refused_accepted e)
steps_add acc at fs (size n) m s e = absurd (refused_accepted e)
steps_add acc at fs (label x name) m s e = absurd (refused_accepted e)
steps_add acc at fs (member t x) m s e = absurd (refused_accepted e)
steps_add acc at fs (fact name xs) m s e = absurd (refused_accepted e)
steps_add acc at fs (pick name xs) m s e = absurd (refused_accepted e)
steps_add acc at fs (step k) m s e = (k, sym (accepted_eq (acc ++ (k ∷ [])) m e), s)

-- a text that is read as steps is what is written for them
pub steps_told : (text ks : List ℕ) → read_steps text ≡ accepted ks → (text ≡ flat_map step_line ks) × (length text ≤ text_limit) × ((k : ℕ) → Memᴰ k ks → k < 10 ^ 7)
unfolding read_steps steps_line step_line
steps_told text ks e =
    let (t, l) = text_told steps_line (λ k fs. (fs ≡ bytes "step" ∷ decimal k ∷ []) × (k < 10 ^ 7))
    (λ acc at w m h. let (e, f, g) = bind_parts (entry_of (record { at = at; ended = true; content = w })) (add_to_steps acc at) m h in steps_add acc at (split 9 w) e m (line_told at w e f) g)
    (λ acc at w m h. let (e, f, g) = bind_parts (entry_of (record { at = at; ended = false; content = w })) (add_to_steps acc at) m h in open_told at w e f)
    text ks e in
    let (a, b) = line_by_line (λ k. bytes "step" ∷ decimal k ∷ []) (λ k. k < 10 ^ 7) ks text t in
    (a, l, b)

-- ---- picks
option_told : (o : Option ℕ) (f : ℕ → ℕ) (r : ℕ) → option o none (λ i. some (f i)) ≡ some r → (i : ℕ) × (o ≡ some i) × (f i ≡ r)
unfolding option
option_told none f r e = absurd (none_some e)
option_told (some i) f r e = (i, refl, some_eq e)

-- what a tuple that was added tells of its line
pub record Adds (rs : List Relation) (first n : ℕ) (labels : List Label) (acc : List Tuple) (name : List ℕ) (es : List Element) (m : List Tuple) : Type 0 where
  pub tuple : Tuple
  pub is_used : used rs first name (length es) ≡ some tuple.relation
  pub in_range : T (all (is_in_range n) es)
  pub meant : elements_of labels es ≡ some tuple.places
  pub is_new : is_among tuple acc ≡ false
  pub added : m ≡ acc ++ (tuple ∷ [])

pub tuple_told : (rs : List Relation) (first n : ℕ) (labels : List Label) (acc : List Tuple) (at : ℕ) (name : List ℕ) (es : List Element) (m : List Tuple) → add_tuple rs first n labels acc at name es ≡ accepted m → Adds rs first n labels acc name es m
unfolding add_tuple
tuple_told rs first n labels acc at name es m e =
    let (r, f, e₁) = bind_parts (given (used rs first name (length es)) 7 at) _ m e in
    let (u, h, e₂) = bind_parts (refuse_if (not (all (is_in_range n) es)) 9 at) _ m e₁ in
    let (xs, i, e₃) = bind_parts (given (elements_of labels es) 18 at) _ m e₂ in
    let (v, j, e₄) = bind_parts (refuse_if (is_among (record { relation = r; places = xs }) acc) 10 at) _ m e₃ in
    record {
      tuple = record { relation = r; places = xs };
      is_used = given_some (used rs first name (length es)) 7 at r f;
      in_range = T_of (not-false (all (is_in_range n) es) (not_refused (not (all (is_in_range n) es)) 9 at u h));
      meant = given_some (elements_of labels es) 18 at xs i;
      is_new = not_refused (is_among (record { relation = r; places = xs }) acc) 10 at v j;
      added = sym (accepted_eq _ m e₄);
    }

-- a tuple's line: the record word, the name of its relation, and fields that spell its places
abbrev pub TupleLine : List Label → List ℕ → (Tuple → List ℕ) → Tuple → List (List ℕ) → Type 0
TupleLine labels word name t fs = (gs : List (List ℕ)) × (fs ≡ word ∷ name t ∷ gs) × Spelled labels t.places gs

module _ (rs : List Relation) (first n : ℕ) (labels : List Label) (K : LabelsFit n labels) where
  -- a tuple's name, by the relation's number
  abbrev name_in : Tuple → List ℕ
  name_in t = (get_or rs (t.relation - first) no_relation).name

  used_told : (name : List ℕ) (k r : ℕ) → used rs first name k ≡ some r → name ≡ (get_or rs (r - first) no_relation).name
  unfolding used
  used_told name k r e =
      let (i, f, g) = option_told (position (λ (q : Relation). same q.name name && eqb q.arity k) rs) (λ i. first + i) r e in
      let h =
      holds_told (λ i. (i < length rs) × T (same (get_or rs i no_relation).name name && eqb (get_or rs i no_relation).arity k))
      (position (λ (q : Relation). same q.name name && eqb q.arity k) rs) i f
      (position_holds (λ (q : Relation). same q.name name && eqb q.arity k) rs no_relation) in
      let w : i ≡ r - first = omega arith in
      sym (same_eq (get_or rs i no_relation).name name (T_and_l (same (get_or rs i no_relation).name name) _ h.1)) ∙ ap (λ (j : ℕ). (get_or rs j no_relation).name) w

  picks_add : (acc : List Tuple) (at : ℕ) (fs : List (List ℕ)) (e : Entry) (m : List Tuple) → Says fs e → add_to_picks rs first n labels acc at e ≡ accepted m → (t : Tuple) × (m ≡ acc ++ (t ∷ [])) × TupleLine labels (bytes "pick") name_in t fs
  unfolding add_to_picks Says is_accepted
  picks_add acc at fs (rel name a) m s e = absurd (refused_accepted e)
  picks_add acc at fs (type name) m s e = absurd (refused_accepted e)
  picks_add acc at fs (choose name a k types) m s e = absurd (refused_accepted e)
  picks_add acc at fs (every name a) m s e = absurd (refused_accepted e)
  picks_add acc at fs (rule f) m s e = absurd (refused_accepted e)
  picks_add acc at fs (size k) m s e = absurd (refused_accepted e)
  picks_add acc at fs (label x name) m s e = absurd (refused_accepted e)
  picks_add acc at fs (member t x) m s e = absurd (refused_accepted e)
  picks_add acc at fs (fact name es) m s e = absurd (refused_accepted e)
  picks_add acc at fs (pick name es) m s e =
      let A = tuple_told rs first n labels acc at name es m e in
      let (gs, q, r, b) = s in
      (A.tuple, A.added, (gs, q ∙ ap (λ (x : List ℕ). bytes "pick" ∷ x ∷ gs) (used_told name (length es) A.tuple.relation A.is_used), spelled_of n labels K gs es A.tuple.places r A.meant))
  picks_add acc at fs (step k) m s e = absurd (refused_accepted e)

  -- a text that is read as picks spells them line by line
  pub picks_told : (text : List ℕ) (F : List Tuple) → read_picks rs first n labels text ≡ accepted F → LineByLine (TupleLine labels (bytes "pick") name_in) F text × (length text ≤ text_limit)
  unfolding read_picks picks_line
  picks_told text F e = text_told (picks_line rs first n labels) (TupleLine labels (bytes "pick") name_in)
      (λ acc at w m h. let (e, f, g) = bind_parts (entry_of (record { at = at; ended = true; content = w })) (add_to_picks rs first n labels acc at) m h in picks_add acc at (split 9 w) e m (line_told at w e f) g)
      (λ acc at w m h. let (e, f, g) = bind_parts (entry_of (record { at = at; ended = false; content = w })) (add_to_picks rs first n labels acc at) m h in open_told at w e f)
      text F e
