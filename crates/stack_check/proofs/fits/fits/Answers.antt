use Rattle.stack_check.proofs.Fitting.{fits_if, fits_then}
use Rattle.stack_check.proofs.fits.fits.Goals as goal

pub returns-in-Some : goal.returns-in-Some
returns-in-Some c = (
  λ t. fits_if c.args.heap.now c.args.facts.now c.args.saved.now c.in-Some.held c.in-Some.ensures (c.resumes.ensures.0 t),
  λ f. c.resumes.ensures.1 (fits_then c.args.heap.now c.args.facts.now c.args.saved.now c.in-Some.held c.in-Some.ensures f),
)
