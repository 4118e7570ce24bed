-- `read_text::is_relation_name` meets its contract.
use mathlib.Core.Path.{◌∙◌}
use Rattle.std.proofs.lemmas.Iterator.{YieldsList-from_slice}
use Rattle.std.proofs.lemmas.Iterator.Search.{all_from_yields_List}
use Rattle.read_text.specs.Spans.{is_name_byte}
use Rattle.read_text.proofs.Names.{name_empty, name_refused, name_good}
use borrow.Author.Rules.{rules}
use Rattle.read_text.proofs.is_relation_name.Goals as goal

pub returns-in_default : goal.returns-in_default
returns-in_default c = rw (← c.span.ensures) (name_empty _ c.in_default.len_below)

pub returns-then-not-is_ascii_uppercase : goal.returns-then-not-is_ascii_uppercase
returns-then-not-is_ascii_uppercase c = rw (← c.span.ensures) (name_refused _ c.in-len1-up.len_at_least _ c.is_ascii_uppercase.ensures.value c.then-not-is_ascii_uppercase.either)

pub returns : goal.returns
returns c =
    all_from_yields_List is_name_byte _ _ _ c.all.ensures.ran (YieldsList-from_slice _ c.iter.ensures.rest) (λ x b q k. search rules)
    ∙ rw (← c.span.ensures) (name_good _ c.in-len1-up.len_at_least _ c.is_ascii_uppercase.ensures.value c.if-not-is_ascii_uppercase.false c.if-others-ge12.false)
