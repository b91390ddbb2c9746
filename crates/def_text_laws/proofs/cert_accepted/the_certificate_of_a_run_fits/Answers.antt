use Rattle.def_cert_accepted.proofs.Fits.{fits_always}
use Rattle.def_text_laws.proofs.cert_accepted.the_certificate_of_a_run_fits.Goals as goal

pub returns : goal.returns
returns c = fits_always
