use Rattle.std.proofs.Common.{ap, ◌∙◌, arith}
use Rattle.std.proofs.lemmas.List.{get_or_default}
use Rattle.xg_seq.specs.Threads.{leaf_of_number}
use Rattle.xg_seq.proofs.ThreadLemmas.{read_from}
use Rattle.xg_seq.proofs.form.SeqForm.first_leaf.Goals as goal

pub returns : goal.returns
returns c =
    let kept = c.threads.ensures in
    let s = c.args.sequence in
    c.leaf_of_number.ensures
    ∙ ap leaf_of_number (c.index.ensures ∙ get_or_default c.threads.result.now.first.items s c.index.result.now 0
    (omega (arith, kept.first_count, c.requires.there)) ∙ kept.first_leaves s c.requires.there)
    ∙ read_from c.args.player s 1 c.args.self.now.leaves (omega arith)
