-- `print_page::tuple_places` meets its contract.
use Rattle.print_page.specs.Elements.{tuple_in}
use native.Mathlib.Omega.{arith}
use Rattle.print_page.proofs.tuple_places.Goals as goal

pub overflow_mul-count : goal.overflow_mul-count
overflow_mul-count c = omega (arith, c.requires.fits.1, c.requires.by_index.1.room)

pub overflow_add-count : goal.overflow_add-count
overflow_add-count c = omega (arith, c.requires.fits.1, c.requires.by_index.1.room)

pub offset_bounds-names-r : goal.offset_bounds-names-r
offset_bounds-names-r c = omega (arith, c.requires.fits.1, c.requires.by_index.1.room)

pub bounds-names-r : goal.bounds-names-r
bounds-names-r c = omega (arith, c.requires.fits.1, c.requires.by_index.1.room)

pub places-requires : goal.places-requires
places-requires c = (c.requires.fits.0.some, omega (arith, c.requires.by_index.1.arity c.args.t.relation, c.requires.fits.2), c.requires.fits.3)

pub returns : goal.returns
unfolding tuple_in
returns c = (omega (arith, c.requires.by_index.1.arity c.args.t.relation), c.places.ensures.0, c.places.ensures.1)
