use Rattle.std.proofs.Common.{subst}
use Rattle.xg_record.specs.Entry.{entry_seen}
use Rattle.xg_read.specs.Gives.{GivesFor}
use Rattle.xg_read.proofs.Parts.{parts_are_entry}
use Rattle.xg_read.proofs.reader.Reader.entry.Goals as goal

pub returns-clause-exact : goal.returns-clause-exact
returns-clause-exact c =
    let parts = c.entry_parts in
    let file = c.args.self.now in
    subst (GivesFor entry_seen parts.result parts.new.self.at) (parts_are_entry file.whole file.at) parts.ensures.exact
