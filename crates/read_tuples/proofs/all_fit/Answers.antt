-- `read_tuples::all_fit` meets its contract.
use mathlib.Core.Path.{sym, ◌∙◌}
use Rattle.read_tuples.proofs.Naming.{fit_1, fit_2, unfit_2, fit_3, unfit_first, unfit_second}
use Rattle.read_tuples.proofs.all_fit.Goals as goal
use Rattle.read_tuples.proofs.all_fit.Goals.{then-fits-2, else-fits-2}

pub returns-in-One : goal.returns-in-One
returns-in-One c = fit_1 _ _ _ _ c.in-One.is c.fits.ensures

pub returns-then-fits : goal.returns-then-fits
returns-then-fits c = fit_2 _ _ _ _ c.in-Two.is _ (λ f. sym c.if-fits.true ∙ c.fits-in-Two.ensures f) c.fits-then-fits.ensures

pub returns-else-fits : goal.returns-else-fits
returns-else-fits c = λ fs d. c.if-fits.false ∙ unfit_2 _ _ _ _ c.in-Two.is (λ f. sym c.if-fits.false ∙ c.fits-in-Two.ensures f) fs d

pub returns-then-fits-3 : goal.returns-then-fits-3
returns-then-fits-3 c =
    elim c.if-fits-2.branch [
      | then-fits-2 w ↦ fit_3 _ _ _ _ _ c.in-Three.is _ (λ f. sym w.if-fits-2.true ∙ c.fits-in-Three.ensures f) (λ f. sym (sym w.value-is ∙ c.if-fits-3.true) ∙ w.fits-then-fits-2.ensures f)
          c.fits-then-fits-3.ensures
      | else-fits-2 w ↦ absurd (cc w.if-fits-2.false)
    ]

pub returns-else-fits-3 : goal.returns-else-fits-3
returns-else-fits-3 c =
    elim c.if-fits-2.branch [
      | then-fits-2 w ↦ λ fs d. c.if-fits-3.false
          ∙ unfit_second _ _ _ _ _ c.in-Three.is (λ f. sym w.if-fits-2.true ∙ c.fits-in-Three.ensures f) (λ f. sym (sym w.value-is ∙ c.if-fits-3.false) ∙ w.fits-then-fits-2.ensures f) fs d
      | else-fits-2 w ↦ λ fs d. c.if-fits-3.false ∙ unfit_first _ _ _ _ _ c.in-Three.is (λ f. sym w.if-fits-2.false ∙ c.fits-in-Three.ensures f) fs d
    ]
