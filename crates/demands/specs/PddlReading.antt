-- How PDDL reads what is written: words, words in brackets, lines, groups that are opened in one line and closed in another.
use Rattle.std.specs.Prelude.{ℕ, zero, suc, ◌≡◌, refl, Bool, true, false, not, ◌&&◌, List, [], ◌∷◌, ◌++◌, map, T, eqb}
use Rattle.std.proofs.Common.{sym, ap, ap₂, subst, ◌∙◌, append_assoc, append-nil, arith, T_not}
use Rattle.std.proofs.Math.Option.{Option, none, some}
use Rattle.std.proofs.lemmas.List.{map-append}
use Rattle.definitions.specs.Lists.{all, option, flat_map, is_empty}
use Rattle.definitions.specs.Sheet.Text.{is_between, is_capital}
use Rattle.definitions.specs.Sheet.Formula.{write_each}
use Rattle.definitions.specs.Reply.Page.{spaces}
use Rattle.definitions.specs.Reply.Pddl.{folded, small, bracketed, indented}
use Rattle.definitions.specs.Reply.PddlMeaning
use Rattle.laws.specs.Booleans.{T_and_l, T_and_r, T_false}
use Rattle.laws.specs.Lists.{none_some, some_eq}
use Rattle.demands.specs.PlanLines.{fold_bracketed, low_small}
use PddlMeaning.{Expression, word, Reading, with_word, in_all, is_blank, closing, taking, taking_all, nowhere, expressions, grouped, listed, unlisted, members_in}

pub listed_back : (es : List Expression) → listed (unlisted es) ≡ es
unfolding listed unlisted
listed_back [] = refl
listed_back (e ∷ es) = ap (λ (l : List Expression). e ∷ l) (listed_back es)

pub members_back : (es : List Expression) → members_in (grouped es) ≡ es
unfolding members_in grouped
members_back es = listed_back es

-- ---- a text from any place on: what is read joins what was read; a group is opened; a group is closed
pub record Reads (t : List ℕ) (es : List Expression) : Type 0 where
  pub to : Reading → Reading
  pub goes : (s : Reading) → taking_all s t ≡ some (to s)
  pub same_around : (s : Reading) → (to s).around ≡ s.around
  pub joins : (s : Reading) → in_all (to s) ≡ in_all s ++ es

-- the same where no word is left open before it
pub record Fresh (t : List ℕ) (es : List Expression) : Type 0 where
  pub to : List (List Expression) → List Expression → Reading
  pub goes : (around : List (List Expression)) (inside : List Expression) → taking_all (record { around = around; inside = inside; letters = [] }) t ≡ some (to around inside)
  pub same_around : (around : List (List Expression)) (inside : List Expression) → (to around inside).around ≡ around
  pub joins : (around : List (List Expression)) (inside : List Expression) → in_all (to around inside) ≡ inside ++ es

pub record Opens (t : List ℕ) (es : List Expression) : Type 0 where
  pub to : Reading → Reading
  pub goes : (s : Reading) → taking_all s t ≡ some (to s)
  pub more_around : (s : Reading) → (to s).around ≡ in_all s ∷ s.around
  pub starts : (s : Reading) → in_all (to s) ≡ es

pub record Closes (t : List ℕ) (es : List Expression) : Type 0 where
  pub to : (fs : List Expression) (around : List (List Expression)) → Reading → Reading
  pub goes : (fs : List Expression) (around : List (List Expression)) (s : Reading) → s.around ≡ fs ∷ around → taking_all s t ≡ some (to fs around s)
  pub less_around : (fs : List Expression) (around : List (List Expression)) (s : Reading) → (to fs around s).around ≡ around
  pub ends : (fs : List Expression) (around : List (List Expression)) (s : Reading) → in_all (to fs around s) ≡ fs ++ (grouped (in_all s ++ es) ∷ [])

pub taking_append : (s t : Reading) (xs ys : List ℕ) → taking_all s xs ≡ some t → taking_all s (xs ++ ys) ≡ taking_all t ys
unfolding taking_all option
taking_append s t [] ys e = ap (λ (r : Reading). taking_all r ys) (some_eq e)
taking_append s t (b ∷ xs) ys e = by_option (taking s b) e (λ u. taking_append u t xs ys)
  where
    by_option : (o : Option Reading) → option o none (λ u. taking_all u xs) ≡ some t → ((u : Reading) → taking_all u xs ≡ some t → taking_all u (xs ++ ys) ≡ taking_all t ys) → option o none (λ u. taking_all u (xs ++ ys)) ≡ taking_all t ys
    by_option none q f = absurd (none_some q)
    by_option (some u) q f = f u q

pub reads_append : {t u : List ℕ} {es fs : List Expression} → Reads t es → Reads u fs → Reads (t ++ u) (es ++ fs)
reads_append {t} {u} {es} {fs} R S = record {
  to = λ s. S.to (R.to s);
  goes = λ s. taking_append s (R.to s) t u (R.goes s) ∙ S.goes (R.to s);
  same_around = λ s. S.same_around (R.to s) ∙ R.same_around s;
  joins = λ s. S.joins (R.to s) ∙ ap (λ (l : List Expression). l ++ fs) (R.joins s) ∙ append_assoc (in_all s) es fs;
}

pub fresh_append : {t u : List ℕ} {es fs : List Expression} → Fresh t es → Reads u fs → Fresh (t ++ u) (es ++ fs)
fresh_append {t} {u} {es} {fs} R S = record {
  to = λ a i. S.to (R.to a i);
  goes = λ a i. taking_append (record { around = a; inside = i; letters = [] }) (R.to a i) t u (R.goes a i) ∙ S.goes (R.to a i);
  same_around = λ a i. S.same_around (R.to a i) ∙ R.same_around a i;
  joins = λ a i. S.joins (R.to a i) ∙ ap (λ (l : List Expression). l ++ fs) (R.joins a i) ∙ append_assoc i es fs;
}

pub opens_append : {t u : List ℕ} {es fs : List Expression} → Opens t es → Reads u fs → Opens (t ++ u) (es ++ fs)
opens_append {t} {u} {es} {fs} R S = record {
  to = λ s. S.to (R.to s);
  goes = λ s. taking_append s (R.to s) t u (R.goes s) ∙ S.goes (R.to s);
  more_around = λ s. S.same_around (R.to s) ∙ R.more_around s;
  starts = λ s. S.joins (R.to s) ∙ ap (λ (l : List Expression). l ++ fs) (R.starts s);
}

pub reads_close : {t u : List ℕ} {es fs : List Expression} → Reads t es → Closes u fs → Closes (t ++ u) (es ++ fs)
reads_close {t} {u} {es} {fs} R S = record {
  to = λ gs a s. S.to gs a (R.to s);
  goes = λ gs a s e. taking_append s (R.to s) t u (R.goes s) ∙ S.goes gs a (R.to s) (R.same_around s ∙ e);
  less_around = λ gs a s. S.less_around gs a (R.to s);
  ends = λ gs a s. S.ends gs a (R.to s) ∙ ap (λ (l : List Expression). gs ++ (grouped l ∷ [])) (ap (λ (l : List Expression). l ++ fs) (R.joins s) ∙ append_assoc (in_all s) es fs);
}

pub opens_close : {t u : List ℕ} {es fs : List Expression} → Opens t es → Closes u fs → Reads (t ++ u) (grouped (es ++ fs) ∷ [])
opens_close {t} {u} {es} {fs} R S = record {
  to = λ s. S.to (in_all s) s.around (R.to s);
  goes = λ s. taking_append s (R.to s) t u (R.goes s) ∙ S.goes (in_all s) s.around (R.to s) (R.more_around s);
  same_around = λ s. S.less_around (in_all s) s.around (R.to s);
  joins = λ s. S.ends (in_all s) s.around (R.to s) ∙ ap (λ (l : List Expression). in_all s ++ (grouped (l ++ fs) ∷ [])) (R.starts s);
}

-- ---- single bytes
taking_blank : (s : Reading) (b : ℕ) → eqb b 40 ≡ false → eqb b 41 ≡ false → is_blank b ≡ true → taking s b ≡ some (record { around = s.around; inside = in_all s; letters = [] })
unfolding taking
taking_blank s b e f g = rw (e, f, g) refl

pub fresh_none : Fresh [] []
unfolding taking_all in_all with_word
fresh_none = record { to = λ a i. record { around = a; inside = i; letters = [] }; goes = λ a i. refl; same_around = λ a i. refl; joins = λ a i. sym (append-nil i) }

pub fresh_of : {t : List ℕ} {es : List Expression} → Reads t es → Fresh t es
unfolding in_all with_word
fresh_of R = record {
  to = λ a i. R.to (record { around = a; inside = i; letters = [] });
  goes = λ a i. R.goes (record { around = a; inside = i; letters = [] });
  same_around = λ a i. R.same_around (record { around = a; inside = i; letters = [] });
  joins = λ a i. R.joins (record { around = a; inside = i; letters = [] });
}

blank_then : {t : List ℕ} {es : List Expression} (b : ℕ) → eqb b 40 ≡ false → eqb b 41 ≡ false → is_blank b ≡ true → Fresh t es → Reads (b ∷ t) es
unfolding taking_all option
blank_then b e f g F = record {
  to = λ s. F.to s.around (in_all s);
  goes = λ s. rw (taking_blank s b e f g) (F.goes s.around (in_all s));
  same_around = λ s. F.same_around s.around (in_all s);
  joins = λ s. F.joins s.around (in_all s);
}

pub space_then : {t : List ℕ} {es : List Expression} → Fresh t es → Reads (32 ∷ t) es
unfolding is_blank
space_then F = blank_then 32 refl refl refl F

pub line_then : {t : List ℕ} {es : List Expression} → Fresh t es → Reads (10 ∷ t) es
unfolding is_blank
line_then F = blank_then 10 refl refl refl F

pub space_opens : {t : List ℕ} {es : List Expression} → Opens t es → Opens (32 ∷ t) es
unfolding taking_all option is_blank in_all with_word
space_opens R = record {
  to = λ s. R.to (record { around = s.around; inside = in_all s; letters = [] });
  goes = λ s. rw (taking_blank s 32 refl refl refl) (R.goes (record { around = s.around; inside = in_all s; letters = [] }));
  more_around = λ s. R.more_around (record { around = s.around; inside = in_all s; letters = [] });
  starts = λ s. R.starts (record { around = s.around; inside = in_all s; letters = [] });
}

pub bracket_opens : {t : List ℕ} {es : List Expression} → Fresh t es → Opens (40 ∷ t) es
unfolding taking_all option taking
bracket_opens F = record {
  to = λ s. F.to (in_all s ∷ s.around) [];
  goes = λ s. F.goes (in_all s ∷ s.around) [];
  more_around = λ s. F.same_around (in_all s ∷ s.around) [];
  starts = λ s. F.joins (in_all s ∷ s.around) [];
}

pub bracket_closes : {t : List ℕ} → Fresh t [] → Closes (41 ∷ t) []
unfolding taking_all option taking closing in_all
bracket_closes {t} F = record {
  to = λ fs a s. F.to a (fs ++ (grouped (in_all s) ∷ []));
  goes = λ fs a s e. rw e (F.goes a (fs ++ (grouped (in_all s) ∷ [])));
  less_around = λ fs a s. F.same_around a (fs ++ (grouped (in_all s) ∷ []));
  ends = λ fs a s. F.joins a (fs ++ (grouped (in_all s) ∷ [])) ∙ append-nil _ ∙ ap (λ (l : List Expression). fs ++ (grouped l ∷ [])) (sym (append-nil (in_all s)));
}

-- ---- a word
unfoldable pub is_letter : ℕ → Bool
is_letter b = not (eqb b 40) && not (eqb b 41) && not (is_blank b)

taking_letter : (s : Reading) (b : ℕ) → T (is_letter b) → taking s b ≡ some (record { around = s.around; inside = s.inside; letters = s.letters ++ (b ∷ []) })
unfolding taking is_letter
taking_letter s b t =
    let a = T_and_l (not (eqb b 40) && not (eqb b 41)) _ t in
    let e : eqb b 40 ≡ false = T_false (eqb b 40) (T_not (eqb b 40) (T_and_l (not (eqb b 40)) _ a)) in
    let f : eqb b 41 ≡ false = T_false (eqb b 41) (T_not (eqb b 41) (T_and_r (not (eqb b 40)) _ a)) in
    let g : is_blank b ≡ false = T_false (is_blank b) (T_not (is_blank b) (T_and_r (not (eqb b 40) && not (eqb b 41)) _ t)) in
    rw (e, f, g) refl

taking_word : (w u : List ℕ) (a : List (List Expression)) (i : List Expression) → T (all is_letter w) → taking_all (record { around = a; inside = i; letters = u }) w ≡ some (record { around = a; inside = i; letters = u ++ w })
unfolding taking_all option all
taking_word [] u a i t = ap (λ (x : List ℕ). some (record { around = a; inside = i; letters = x })) (sym (append-nil u))
taking_word (b ∷ w) u a i t = rw (taking_letter (record { around = a; inside = i; letters = u }) b (T_and_l (is_letter b) _ t))
    (taking_word w (u ++ (b ∷ [])) a i (T_and_r (is_letter b) _ t) ∙ ap (λ (x : List ℕ). some (record { around = a; inside = i; letters = x })) (append_assoc u (b ∷ []) w))

pub fresh_word : (b : ℕ) (w : List ℕ) → T (all is_letter (b ∷ w)) → Fresh (b ∷ w) (word (b ∷ w) ∷ [])
unfolding in_all with_word
fresh_word b w t = record {
  to = λ a i. record { around = a; inside = i; letters = b ∷ w };
  goes = λ a i. taking_word (b ∷ w) [] a i t;
  same_around = λ a i. refl;
  joins = λ a i. refl;
}

-- ---- things one after another, and in brackets; each reads as one expression
unfoldable pub Each : List (List ℕ) → List Expression → Type 0
Each [] [] = Unit {0}
Each [] (e ∷ es) = ⊥
Each (t ∷ ts) [] = ⊥
Each (t ∷ ts) (e ∷ es) = Fresh t (e ∷ []) × Each ts es

pub reads_none : Reads [] []
unfolding taking_all
reads_none = record { to = λ s. s; goes = λ s. refl; same_around = λ s. refl; joins = λ s. sym (append-nil (in_all s)) }

pub reads_each : (ts : List (List ℕ)) (es : List Expression) → Each ts es → Reads (write_each (λ v. v) ts) es
unfolding Each write_each
reads_each [] [] h = reads_none
reads_each [] (e ∷ es) h = absurd h
reads_each (t ∷ ts) [] h = absurd h
reads_each (t ∷ ts) (e ∷ es) h = reads_append (space_then h.0) (reads_each ts es h.1)

empty : Reads (folded (bracketed [])) (grouped [] ∷ [])
unfolding bracketed folded small is_capital is_between
empty = opens_close (bracket_opens fresh_none) (bracket_closes fresh_none)

pub reads_bracketed : (ts : List (List ℕ)) (es : List Expression) → Each (map folded ts) es → Reads (folded (bracketed ts)) (grouped es ∷ [])
unfolding Each
reads_bracketed [] [] h = empty
reads_bracketed [] (e ∷ es) h = absurd h
reads_bracketed (t ∷ ts) [] h = absurd h
reads_bracketed (t ∷ ts) (e ∷ es) h = subst (λ (x : List ℕ). Reads x (grouped (e ∷ es) ∷ [])) (sym (fold_bracketed t ts))
    (subst (λ (l : List Expression). Reads (40 ∷ ((folded t ++ write_each (λ v. v) (map folded ts)) ++ (41 ∷ []))) (grouped l ∷ [])) (append-nil (e ∷ es))
    (opens_close (bracket_opens (fresh_append h.0 (reads_each (map folded ts) es h.1))) (bracket_closes fresh_none)))

-- ---- a line that is indented, or not
fold_spaces : (k : ℕ) → map small (spaces k) ≡ spaces k
unfolding spaces
fold_spaces zero = refl
fold_spaces (suc k) = ap₂ ◌∷◌ (low_small 32 (omega arith)) (fold_spaces k)

pub fold_line : (k : ℕ) (t : List ℕ) → folded (indented k t) ≡ spaces k ++ (folded t ++ (10 ∷ []))
unfolding indented folded
fold_line k t = map-append small (spaces k) (t ++ (10 ∷ [])) ∙ ap₂ ◌++◌ (fold_spaces k) (map-append small t (10 ∷ []) ∙ ap (λ (b : ℕ). map small t ++ (b ∷ [])) (low_small 10 (omega arith)))

pub line_end : {t : List ℕ} {es : List Expression} → Fresh t es → Fresh (t ++ (10 ∷ [])) es
line_end {t} {es} F = subst (Fresh (t ++ (10 ∷ []))) (append-nil es) (fresh_append F (line_then fresh_none))

pub spaced : (k : ℕ) {t : List ℕ} {es : List Expression} → Fresh t es → Fresh (spaces k ++ t) es
unfolding spaces
spaced zero F = F
spaced (suc k) F = fresh_of (space_then (spaced k F))

pub reads_line : (k : ℕ) (t : List ℕ) (es : List Expression) → Fresh (folded t) es → Reads (folded (indented (suc k) t)) es
unfolding spaces
reads_line k t es F = subst (λ (x : List ℕ). Reads x es) (sym (fold_line (suc k) t)) (space_then (spaced k (line_end F)))

pub fresh_line : (t : List ℕ) (es : List Expression) → Fresh (folded t) es → Fresh (folded (indented 0 t)) es
unfolding spaces
fresh_line t es F = subst (λ (x : List ℕ). Fresh x es) (sym (fold_line 0 t)) (line_end F)

pub reads_flat : {A : Type 0} (f : A → List ℕ) (g : A → Expression) → ((a : A) → Reads (folded (f a)) (g a ∷ [])) → (l : List A) → Reads (folded (flat_map f l)) (map g l)
unfolding flat_map folded
reads_flat f g h [] = reads_none
reads_flat f g h (a ∷ l) = subst (λ (t : List ℕ). Reads t (g a ∷ map g l)) (sym (map-append small (f a) (flat_map f l))) (reads_append (h a) (reads_flat f g h l))

-- a whole text
pub expressions_of : (t : List ℕ) (es : List Expression) → Reads (folded t) es → expressions t ≡ some es
unfolding expressions option nowhere in_all with_word is_empty
expressions_of t es R = rw (R.goes nowhere, R.same_around nowhere, R.joins nowhere) refl
