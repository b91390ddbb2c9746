use Rattle.def_plus_run.proofs.VariantRuns.{variant_offers_are_fair}
use Rattle.def_round_laws.proofs.plus_run.variant_offers_are_fair.Goals as goal

pub returns : goal.returns
returns c = variant_offers_are_fair
