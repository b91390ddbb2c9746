use Rattle.def_cert_versions.proofs.Runs.{texts_of_a_run}
use Rattle.def_text_laws.proofs.cert_versions.the_texts_of_a_run_are_accepted.Goals as goal

pub returns : goal.returns
returns c = texts_of_a_run
