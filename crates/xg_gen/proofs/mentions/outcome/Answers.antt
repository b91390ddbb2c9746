use Rattle.xg_gen.proofs.PlainBytesStay.{plain_inside}
use Rattle.xg_gen.proofs.mentions.outcome.Goals as goal

pub of-requires : goal.of-requires
of-requires c = plain_inside c.args.name.now c.requires.name
