use Rattle.std.proofs.Common.{◌+◌, ◌-◌, drop, ap, ◌∙◌, arith}
use Rattle.std.proofs.lemmas.List.{get_or_default}
use Rattle.def_plan.specs.Threads.{sequence_of_leaf}
use Rattle.xg_seq.specs.Threads.{leaf_of_number}
use Rattle.xg_seq.proofs.ThreadLemmas.{read_from}
use Rattle.xg_seq.proofs.form.SeqForm.next_leaf.Goals as goal

pub returns : goal.returns
returns c =
    let kept = c.threads.ensures in
    let z = c.args.z in
    let leaves = c.args.self.now.leaves in
    c.leaf_of_number.ensures
    ∙ ap leaf_of_number (c.index.ensures ∙ get_or_default c.threads.result.now.next.items (z - 1) c.index.result.now 0
    (omega (arith, kept.next_count, c.requires.from_one, c.requires.there)) ∙ kept.next_leaves z c.requires.from_one c.requires.there)
    ∙ read_from c.args.player (sequence_of_leaf c.args.player z leaves) (z + 1) (drop z leaves) (omega arith)
