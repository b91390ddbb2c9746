use Rattle.xg_read.proofs.EntryByEntry.{pushed}
use Rattle.xg_read.proofs.game.take_entry.Goals as goal

pub returns-clause-exact : goal.returns-clause-exact
returns-clause-exact c =
    pushed c.push_entry.result c.args.maker.now c.push_entry.new.self c.args.reader.now.whole c.args.reader.now.at c.entry.new.self.at _
    c.in_ok-entry.ensures.exact
    c.push_entry.ensures.accepted c.push_entry.ensures.ok c.push_entry.ensures.refused
