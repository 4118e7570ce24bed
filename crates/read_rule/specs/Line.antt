-- The number that `rule_verdict` gives is the one that the definitions' `add_rule` refuses with. Assumes nothing.
use Rattle.std.specs.Prelude.{ℕ, ◌+◌, ◌≡◌, refl, Bool, true, false, not, ◌||◌, List, [], eqb, ltb, if◌then◌else◌}
use Rattle.std.proofs.Math.Option.{Option, none, some}
use Rattle.std.proofs.Common.{eq-eqb}
use Rattle.definitions.specs.Limits.{form_limit, nesting_limit}
use Rattle.definitions.specs.Lists.{is_empty, option}
use Rattle.definitions.specs.Refusal.{Result, refused, accepted, ◌>>=◌, refuse_if, given}
use Rattle.definitions.specs.Sheet.Formula.{Formula, all_forms, nesting, is_known, is_scoped, is_typed}
use Rattle.definitions.specs.Sheet.Parsing.{read_formula}
use Rattle.definitions.specs.Sheet.Sheets.{Draft, add_rule, is_ruled, relations}
use Rattle.read_rule.specs.Seen.{rule_number}

-- the number of a refusal at a place; 0 if nothing is refused
unfoldable pub number_at : {A : Type 0} → ℕ → Result A → Option ℕ
number_at at (refused k place) = if eqb place at then some k else none
number_at at (accepted a) = some 0

eqb_same : (n : ℕ) → eqb n n ≡ true
eqb_same n = eq-eqb n n refl

pub rule_line : (d : Draft) (at : ℕ) (text : List ℕ) → (is_ruled d.ruled || is_empty d.chosen) ≡ false → number_at at (add_rule d at text) ≡ some (rule_number (relations d.rels d.chosen d.every) d.types d.chosen text)
unfolding add_rule refuse_if ◌>>=◌ given rule_number option number_at
rule_line d at text e = rw e (by_option (read_formula text))
  where
    tests : (a b c t : Bool) (x : Draft) → number_at at (refuse_if a 6 at >>= (λ _. refuse_if b 7 at >>= (λ _. refuse_if c 8 at >>= (λ _. refuse_if t 19 at >>= (λ _. accepted x))))) ≡ some (if a then 6 else if b then 7 else if c then 8 else if t then 19 else 0)
    tests true b c t x = rw (eqb_same at)
    tests false true c t x = rw (eqb_same at)
    tests false false true t x = rw (eqb_same at)
    tests false false false true x = rw (eqb_same at)
    tests false false false false x = refl

    by_option : (o : Option Formula) → number_at {A = Draft} at
        (given o 5 at >>= (λ f. refuse_if (ltb form_limit (all_forms d.chosen f) || ltb nesting_limit (nesting f)) 6 at >>=
        (λ _. refuse_if (not (is_known (relations d.rels d.chosen d.every) f)) 7 at >>=
        (λ _. refuse_if (not (is_scoped [] f)) 8 at >>= (λ _. refuse_if (not (is_typed d.types f)) 19 at >>=
        (λ _. accepted (record {
          rels = d.rels;
          types = d.types;
          chosen = d.chosen;
          every = d.every;
          ruled = some (record { at = at + 5; text = text; formula = f });
        }))))))) ≡ some (option o 5 (λ f. if ltb form_limit (all_forms d.chosen f)
        || ltb nesting_limit (nesting f) then 6 else if not (is_known (relations d.rels d.chosen d.every) f) then 7 else if not (is_scoped [] f) then 8
        else if not (is_typed d.types f) then 19 else 0))
    by_option none = rw (eqb_same at)
    by_option (some f) = tests (ltb form_limit (all_forms d.chosen f) || ltb nesting_limit (nesting f)) (not (is_known (relations d.rels d.chosen d.every) f)) (not (is_scoped [] f)) (not (is_typed d.types f)) _
