use Rattle.xg_gen.proofs.PlainBytesStay.{plain_inside}
use Rattle.xg_gen.proofs.texts.plain.Goals as goal

pub unescape-requires : goal.unescape-requires
unescape-requires c = plain_inside c.args.bytes.now c.requires
