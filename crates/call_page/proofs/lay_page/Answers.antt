-- `call_page::lay_page` meets its contract: page 0 and one past all pages are refused; else the page's first line is found, or there is none. Assumes nothing.
use native.Mathlib.Omega.{arith}
use mathlib.Core.Path.{refl}
use Rattle.problem_layout.specs.LaidLaws.{most_zeros}
use Rattle.print_page.specs.Naming.{names_fit}
use Rattle.call_page.specs.Pages.{page_zero, page_beyond, page_missing, page_found}
use borrow.Author.Rules.{rules}
use Rattle.call_page.proofs.lay_page.Goals as goal

pub returns-then-page-eq0 : goal.returns-then-page-eq0
returns-then-page-eq0 c = rw c.at.ensures (page_zero _ _ _ _ _ _ _ _ (omega arith))

pub returns-then-page-gt-PAGES : goal.returns-then-page-gt-PAGES
returns-then-page-gt-PAGES c = rw c.at-then-page-gt-PAGES.ensures (page_beyond _ _ _ _ _ _ _ _ (omega arith))

pub names_of-requires : goal.names_of-requires
names_of-requires c = record { by_index = (_, c.requires.printable.sound); names_len = (search rules, most_zeros 54 0) }

pub first_step-found-requires : goal.first_step-found-requires
first_step-found-requires c = record { grounded = (c.requires.printable.grounded, (_, names_fit _ _ _ c.requires.printable.sound c.names_of.ensures), c.requires.printable.short); first_bound = omega arith }

pub page-bytes-requires : goal.page-bytes-requires
page-bytes-requires c = record { grounded = (c.requires.printable.grounded, names_fit _ _ _ c.requires.printable.sound c.names_of.ensures, c.requires.printable.short); skip_bound = (omega (arith, c.first_step-found.ensures.2 (omega arith)), omega arith, omega arith) }

pub returns-then-index-steps : goal.returns-then-index-steps
returns-then-index-steps c = page_found _ _ _ _ _ _ _ _ _ c.names_of.ensures _ _ _ c.first_step-found.ensures.3 (omega arith) (omega arith) (omega arith) c.first_step-found.ensures.1 _ _ _ refl c.page-bytes.ensures

pub returns : goal.returns
returns c = rw c.at-2.ensures (page_missing _ _ _ _ _ _ _ _ _ c.names_of.ensures _ _ _ c.first_step-found.ensures.3 (omega arith) (omega arith) (omega arith))
