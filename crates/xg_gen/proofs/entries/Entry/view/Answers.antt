use Rattle.std.proofs.Common.{[], ◌∙◌, refl, rules}
use Rattle.xg_gen.proofs.PlainBytesStay.{plain_stays}
use Rattle.xg_gen.proofs.entries.Entry.view.Goals as goal

pub returns-in-Move : goal.returns-in-Move
returns-in-Move c = let nameless = c.of.ensures ∙ plain_stays [] refl in search (rules, nameless)

pub returns-in-End : goal.returns-in-End
returns-in-End c = let nameless = c.of-in-End.ensures ∙ plain_stays [] refl in search (rules, nameless)
