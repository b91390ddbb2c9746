use Rattle.std.proofs.Common.{drop}
use Rattle.xg_gen.specs.Described.{records_of}
use Rattle.xg_gen.proofs.EntriesTakenInPieces.{TookEntries}
use Rattle.xg_gen.proofs.entries.put_all.Given as goal

abbrev pub invariant-entries : goal.invariant-entries
invariant-entries l = TookEntries l.fn.maker l.maker (records_of l.entries) (records_of (drop l.i l.entries))
