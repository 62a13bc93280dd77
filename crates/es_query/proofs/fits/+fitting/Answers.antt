use Rattle.std.proofs.Common.{◌∙◌, sym, ap}
use Rattle.es_query.specs.Fits.{fits}
use Rattle.es_query.proofs.Fitting.{fits_bool}
use Rattle.es_query.proofs.fits.+fitting.Goals as goal

pub fits-returns-in-Bool : goal.fits-returns-in-Bool
fits-returns-in-Bool t c = c.do_fit.ensures ∙ sym (ap (fits c.args.mapping.now) c.in-Bool.is ∙ fits_bool c.args.mapping.now c.in-Bool.clauses)
