use Rattle.std.proofs.Common.{◌∙◌, pos, ◌-ℤ◌}
use Rattle.std.specs.Mem.Slots.{slots_items}
use Rattle.std.proofs.lemmas.Int.{to_z-of_z}
use mir.Syntax.{w128}
use Rattle.xg_words.proofs.Read.{index_at}
use Rattle.xg_words.proofs.total.total.Goals as goal

pub returns : goal.returns
returns c =
    let words = slots_items c.args.closed.now.words in
    to_z-of_z w128 c.difference.result (record { sfits = c.difference.type_inv }) ∙ c.difference.ensures
    ∙ (λ i. pos (index_at words _ c.word.result c.word.ensures i) -ℤ pos (index_at words _ c.word-2.result c.word-2.ensures i))
